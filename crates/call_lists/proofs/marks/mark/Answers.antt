use Rattle.std.proofs.lemmas.Option.{slice_get-get_or}
use Rattle.call_lists.proofs.Names.{names_step}
use Rattle.call_lists.proofs.marks.mark.Goals as goal

pub loop-b-preserved : goal.loop-b-preserved
loop-b-preserved c = λ x.
    names_step _ _ _ (slice_get-get_or c.args.list.now c.loop-b.b-index (record { 0 = 0 }) c.loop-b-test.true) x (c.loop-b.invariant x) (c.mark_one.ensures x)
