use Rattle.std.proofs.Common.{◌≡◌, ◌++◌, ◌∷◌, [], ap, sym, ◌∙◌}
use Rattle.std.specs.Prelude.{IsTrue}
use Rattle.core_form.specs.Code.{Leaves}
use Rattle.std.proofs.lemmas.List.Elements.{All-pop}
use Rattle.run_model.specs.Held.{IsRest, held_left, is_begun}
use Rattle.run_model.specs.Machine.{resume}
use Rattle.run_model.proofs.Lists.{left_here, left_step}
use Rattle.run_model.proofs.frames.leave_loops.Goals as goal

pub loop-last-preserved : goal.loop-last-preserved
loop-last-preserved c =
    let p = c.args.program.now in
    let last = c.in-Some.last in
    let front = c.pop.new.self.items in
    let items : c.loop-last.rest.items ≡ front ++ last ∷ [] = c.in-Some.ensures.items in
    let other : IsTrue (is_begun last) → c.loop-last.left ≡ 0 → ⊥ = λ b e. (let z = c.is_left.ensures.1 (b, e) in let y = c.if-is_left.false in cc) in
    record {
      are_rests = (All-pop (IsRest p) c.loop-last.rest.items front c.pop.result c.pop.ensures.items c.loop-last.invariant.are_rests).0;
      holds = ap (λ n. resume (held_left p front []) (Leaves n)) c.left_behind-left.ensures
          ∙ (sym (left_step p front last c.loop-last.left other)
          ∙ (sym (ap (λ r. resume (held_left p r []) (Leaves c.loop-last.left)) items) ∙ c.loop-last.invariant.holds));
    }

pub returns-then-is_left-clause-rest : goal.returns-then-is_left-clause-rest
returns-then-is_left-clause-rest c = (All-pop (IsRest c.args.program.now) c.loop-last.rest.items c.pop.new.self.items c.pop.result c.pop.ensures.items c.loop-last.invariant.are_rests).0

pub returns-then-is_left-clause-held : goal.returns-then-is_left-clause-held
returns-then-is_left-clause-held c =
    let p = c.args.program.now in
    let last = c.in-Some.last in
    let front = c.pop.new.self.items in
    let items : c.loop-last.rest.items ≡ front ++ last ∷ [] = c.in-Some.ensures.items in
    let is = c.is_left.ensures.0 c.if-is_left.true in
    sym (left_here p front last is.0)
    ∙ (sym (ap (λ n. resume (held_left p (front ++ last ∷ []) []) (Leaves n)) is.1)
    ∙ (sym (ap (λ r. resume (held_left p r []) (Leaves c.loop-last.left)) items) ∙ c.loop-last.invariant.holds))
