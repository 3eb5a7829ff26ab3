use Rattle.std.proofs.Common.{refl}
use Rattle.first_lower.proofs.Levels.{reaches_append}
use Rattle.first_lower.proofs.code.append_assignment.Goals as goal

pub returns : goal.returns
returns c =
    reaches_append c.args.nodes.now c.add_assignment.new.nodes c.args.unfinished.now _ c.in_ok-next.next _ c.in_ok-next.ensures.adds
    c.requires.within c.in_ok-push.ensures.ok refl c.in_ok-next.ensures.within c.in_ok-next.ensures.code
