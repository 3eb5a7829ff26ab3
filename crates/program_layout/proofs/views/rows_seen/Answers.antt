use Rattle.std.proofs.Common.{◌≡◌, ℕ, ◌<◌, ◌↔◌, List, length, arith, sym, subst, ◌∙◌}
use Rattle.std.specs.Prelude.{slice_get}
use Rattle.spark_base.specs.declared.numbers.BodyNo.{BodyNo}
use Rattle.call_lists.specs.Lists.{Names}
use Rattle.body_calls.specs.Callees.{Calls}
use Rattle.body_calls.proofs.Added.{within}
use Rattle.program_layout.specs.Made.{SeesNoContract}
use Rattle.program_layout.proofs.Steps.{own_list, row_more}
use Rattle.program_layout.proofs.views.rows_seen.Goals as goal

pub loop-c-init : goal.loop-c-init
loop-c-init c = record {
  lists = record {
    size = c.in_ok-sees.ensures.size ∙ c.len.ensures;
    below = c.in_ok-sees.ensures.below
        (length c.args.program.now.bodies);
  };
  names = λ b k. (λ m. absurd (c.in_ok-sees.ensures.empty b k m), λ t. absurd (let l = t.0 in omega (arith, l)));
}

pub loop-c-preserved : goal.loop-c-preserved
loop-c-preserved c =
    let is = c.loop-c.invariant in
    let own = c.in_ok-add_seen_row.ensures in
    let p = c.args.program.now in
    record {
      lists = own.lists;
      names = λ b k. row_more k c.loop-c.c (λ x. Calls p b x) (λ x. SeesNoContract p (slice_get p.bodies b) x) (is.names b k)
          (own.names b k)
          (subst (λ (list : List BodyNo). Names list b ↔ Calls p b c.loop-c.c)
          (own_list c.args.callers.now c.loop-c.c c.index-callers-c.result c.as_slice.result.now
          (let l = c.loop-c-test.true in let size = c.requires.lists.size in omega (arith, l, size)) c.index-callers-c.is
          c.as_slice.ensures)
          (c.requires.callers b c.loop-c.c));
    }

pub returns-clause-names : goal.returns-clause-names
returns-clause-names c = λ b k. (
  λ m. ((c.loop-c.invariant.names b k).0 m).1,
  λ t. (c.loop-c.invariant.names b k).1 (
    (let l = within c.args.program.now.bodies k _ t.1 in let end = c.loop-c-test.false in omega
        (arith, l, end)),
    t,
  ),
)
