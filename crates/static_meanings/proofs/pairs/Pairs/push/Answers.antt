use Rattle.std.proofs.Common.{◌∙◌, ap, sym}
use Rattle.static_meanings.specs.Pairs.{told}
use Rattle.static_meanings.proofs.Told.{told_more}
use Rattle.static_meanings.proofs.pairs.Pairs.push.Goals as goal

pub invariant_of-self-2 : goal.invariant_of-self-2
invariant_of-self-2 g c n =
    told_more c.make_room.new.slots.items c.self.inside.pairs.items c.args.number c.args.value c.in_ok-make_room.ensures.room
    (λ k. c.make_room.ensures.same k ∙ c.self.invariant k) n
    ∙ ap (λ ps. told ps n) (sym c.in_ok-push.ensures.items)
