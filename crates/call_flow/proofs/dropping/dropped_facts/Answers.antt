use Rattle.std.proofs.Common.{◌≡◌, ℕ, arith}
use Rattle.core_form.specs.Code.{Outcome, Next}
use Rattle.flow_facts.specs.Told.{told}
use Rattle.call_flow.specs.Calls.{dropped}
use Rattle.call_flow.proofs.Alone.{alone_same}
use Rattle.call_flow.proofs.Dropped.{alone_can, alone_dep, alone_kept}
use Rattle.call_flow.proofs.dropping.dropped_facts.Goals as goal

pub returns-clause-flow : goal.returns-clause-flow
returns-clause-flow c =
    let f = c.args.facts.now in
    let none = c.in_ok-dropped.ensures.none in
    let g = dropped c.args.void c.args.big (told f) in
    let side = c.in_ok-dropped-5 in
    rw (none.1, none.2)
    (alone_same _ _ _ _ g
    (λ o v w. alone_kept c.args.void c.args.big f c.requires.size c.requires.alone _ side.ensures.kept o v w)
    (λ o v w. alone_dep c.args.void c.args.big f c.requires.size c.requires.alone _ side.ensures.dep o v w)
    (λ o. alone_can f c.requires.alone _ side.ensures.reached o)
    (c.in_ok-dropped-2.ensures.set)
    (c.in_ok-dropped-3.ensures.set)
    (c.in_ok-dropped-4.ensures.set))
