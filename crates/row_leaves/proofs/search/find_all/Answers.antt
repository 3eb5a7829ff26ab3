use Rattle.std.proofs.Common.{◌≡◌, ℕ, ◌⊎◌, ◌↔◌, length, arith, subst, ◌∙◌}
use Rattle.std.proofs.lemmas.Option.{slice_get-get_or}
use Rattle.call_lists.specs.Lists.{NamesBelow, Has}
use Rattle.call_lists.proofs.Names.{names_step}
use Rattle.row_leaves.proofs.search.find_all.Goals as goal

pub loop-b-preserved : goal.loop-b-preserved
loop-b-preserved c =
    let is = c.loop-b.invariant in
    let one = c.in_ok-find_one.ensures in
    let longer = is.longer in
    let more = one.longer in
    record {
      found = one.found;
      marks = λ x. names_step _ _ _ (slice_get-get_or c.args.list.now c.loop-b.b-index (record { 0 = 0 }) c.loop-b-test.true) x (is.marks x) (one.marks x);
      longer = omega (arith, longer, more);
      kept = λ k l. one.kept k (omega (arith, l, longer)) ∙ is.kept k l;
    }

pub returns-clause-marks : goal.returns-clause-marks
returns-clause-marks c = λ x.
    let last : c.loop-b.b-index ≡ length c.args.list.now = (let l = c.loop-b-test.false in let m = c.loop-b.auto.b-index-end in omega (arith, l, m)) in
    subst (λ (n : ℕ). Has c.loop-b.marks x ↔ (Has c.args.marks.now x ⊎ NamesBelow n c.args.list.now x)) last (c.loop-b.invariant.marks x)
