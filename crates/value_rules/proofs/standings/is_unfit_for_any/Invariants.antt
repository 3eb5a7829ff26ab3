use Rattle.std.proofs.Common.{◌≡◌, drop}
use Rattle.std.specs.List.{list_any}
use Rattle.seen_names.specs.Contexts.{context}
use Rattle.value_rules.specs.Standings.{is_unfit_for}
use Rattle.value_rules.proofs.standings.is_unfit_for_any.Given as goal

abbrev pub invariant-loop-t : goal.invariant-loop-t
invariant-loop-t l =
    list_any (is_unfit_for (context l.tables l.place) l.a) (drop l.t-index l.of)
    ≡ list_any (is_unfit_for (context l.tables l.place) l.a) l.of
