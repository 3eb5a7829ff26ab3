use Rattle.std.proofs.Common.{◌≡◌, ℕ, ◌<◌, ◌⊎◌, ◌↔◌, List, length, [], get_or, arith, sym, subst, inl, inr}
use Rattle.std.proofs.lemmas.List.{get_or_default}
use Rattle.std.specs.Prelude.{slice_get}
use Rattle.spark_base.specs.declared.numbers.BodyNo.{BodyNo}
use Rattle.call_lists.specs.Lists.{Names}
use Rattle.body_calls.specs.Callees.{Calls}
use Rattle.body_calls.proofs.Added.{within}
use Rattle.program_layout.specs.Made.{IsSeenInContract}
use Rattle.program_layout.proofs.Steps.{alike, own_list, some_more}
use Rattle.program_layout.proofs.views.add_contracts.Goals as goal

pub loop-c-preserved : goal.loop-c-preserved
loop-c-preserved c =
    let is = c.loop-c.invariant in
    let own = c.in_ok-add_viewers.ensures in
    let p = c.args.program.now in
    let size = own.size in
    let before = is.size in
    record {
      size = omega (arith, size, before);
      below = own.below;
      names = λ v b. some_more c.loop-c.c (λ k. Calls p b k) (λ k. IsSeenInContract p (slice_get p.bodies b) k v) (is.names v b)
          (own.names v b)
          (subst (λ (list : List BodyNo). Names list b ↔ Calls p b c.loop-c.c)
          (own_list c.args.callers.now c.loop-c.c c.index-callers-c.result c.as_slice-callers.result.now
          (let l = c.loop-c-test.true in let size = c.requires.lists.size in omega (arith, l, size)) c.index-callers-c.is
          c.as_slice-callers.ensures)
          (c.requires.callers b c.loop-c.c));
    }

pub returns-clause-names : goal.returns-clause-names
returns-clause-names c = λ v b. alike (c.loop-c.invariant.names v b)
    (λ t. (t.0, (t.1.0, t.1.1.1)))
    (λ t. (
      t.0,
      (
        t.1.0,
        (
          (let l = within c.args.program.now.bodies t.1.0 _ t.1.1.1 in let end = c.loop-c-test.false in omega
              (arith, l, end)),
          t.1.1,
        ),
      ),
    ))
