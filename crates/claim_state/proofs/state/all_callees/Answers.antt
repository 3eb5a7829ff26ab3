use Rattle.std.proofs.Common.{◌≡◌, ℕ, ◌<◌, ◌↔◌, List, [], All, length, get_or, inl, inr, arith}
use Rattle.std.proofs.lemmas.Bool.{cases_lt}
use Rattle.std.proofs.lemmas.List.{get_or_past}
use Rattle.std.proofs.lemmas.List.Elements.{All-push}
use Rattle.spark_base.specs.declared.numbers.BodyNo.{BodyNo}
use Rattle.call_lists.specs.Lists.{Names}
use Rattle.call_lists.proofs.Names.{no_names}
use Rattle.body_calls.specs.Callees.{Calls}
use Rattle.body_calls.proofs.Added.{within}
use Rattle.body_calls.proofs.Pushed.{pushed_all, pushed_size}
use Rattle.claim_state.proofs.state.all_callees.Goals as goal

pub loop-b-preserved : goal.loop-b-preserved
loop-b-preserved c =
    let is = c.loop-b.invariant in
    let own = c.in_ok-callees_of.ensures in
    record {
      size = (let n = pushed_size c.loop-b.lists.items c.in_ok-callees_of.field-0 in let s = is.size in rw c.in_ok-push.ensures.items
          (omega (arith, n, s)));
      below = rw c.in_ok-push.ensures.items (All-push (λ (list : List BodyNo). All
          (λ (b : BodyNo). b.0 < length c.args.program.now.bodies) list) c.loop-b.lists.items
          c.in_ok-callees_of.field-0 is.below own.below);
      names = λ b k l. rw c.in_ok-push.ensures.items (pushed_all (λ i list. (j : ℕ) → Names list j ↔ Calls c.args.program.now i j)
          c.loop-b.lists.items
          c.in_ok-callees_of.field-0 c.loop-b.b is.size (λ i m j. is.names i j m) own.names b l k);
    }

pub returns-clause-names : goal.returns-clause-names
returns-clause-names c = λ b k.
    let is = c.loop-b.invariant in
    let end = c.loop-b-test.false in
    elim (cases_lt b c.loop-b.b) [
      | inl l ↦ is.names b k l
      | inr g ↦ (
          let size = is.size in
          let none : get_or c.loop-b.lists.items b [] ≡ [] = get_or_past c.loop-b.lists.items b [] (omega (arith, g, size)) in (
            λ m. absurd (no_names k (rw none at m)),
            λ h. absurd (let w = within c.args.program.now.bodies b _ h in omega (arith, w, g, end)),
          ))
    ]
