use Rattle.std.proofs.Common.{◌≡◌, ◌+◌, ◌++◌, ◌<◌, length, ◌∷◌, [], drop, get_or, arith, add-one, ap, sym, ◌∙◌}
use Rattle.std.proofs.Math.Seq.{drop-cons}
use Rattle.core_form.specs.declared.program.ParamMode.{ParamMode}
use Rattle.callee_view.specs.Signatures.{passed_of, passing_by, passings_of}
use Rattle.callee_view.proofs.Passed.{passed_step, passings_step}
use Rattle.callee_view.proofs.signatures.push_formals.Goals as goal

pub loop-formal-preserved : goal.loop-formal-preserved
loop-formal-preserved c =
    let p = c.args.program.now in
    let b = c.args.body.0 in
    let i = c.loop-formal.formal-index in
    let fs = c.args.formals.now in
    let within : i < length fs = omega arith in
    let formal = get_or fs i (record { var = record { 0 = 0 }; mode = ParamMode.In }) in
    let split : drop i fs ≡ formal ∷ drop (i + 1) fs = rw add-one (drop-cons fs i (record { var = record { 0 = 0 }; mode = ParamMode.In }) within) in
    let before = c.loop-formal.signature in
    let var = c.at-var.result.now in
    let leaves = ap (λ l. before.leaves ++ passed_of p b l) (sym split) ∙ c.loop-formal.invariant.leaves in
    let passings = ap (λ l. before.passings ++ passings_of p b (length before.leaves) l) (sym split) ∙ c.loop-formal.invariant.passings in
    let grown = c.in_ok-push_formal.ensures.leaves in
    let passed = c.in_ok-push_formal.ensures.passings in
    record {
      leaves = ap (λ l. l ++ passed_of p b (drop (i + 1) fs)) grown ∙ passed_step p b formal (drop (i + 1) fs) var c.at-var.ensures before.leaves _ leaves;
      passings = ap (λ l. l ++ passings_of p b (length c.push_formal.new.signature.leaves) (drop (i + 1) fs)) passed
          ∙ (ap (λ l. (before.passings ++ passing_by (length before.leaves) formal.mode var.count ∷ []) ++ passings_of p b (length l) (drop (i + 1) fs)) grown ∙ passings_step p b formal (drop (i + 1) fs) var c.at-var.ensures before.passings _ before.leaves passings);
    }
