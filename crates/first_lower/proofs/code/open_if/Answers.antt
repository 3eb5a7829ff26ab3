use Rattle.std.proofs.Common.{◌∙◌, ◌∷◌, List, None, refl, ap}
use Rattle.first_lower.specs.declared.code.Open.{Open}
use Rattle.first_lower.proofs.Levels.{reaches_open}
use Rattle.first_lower.proofs.code.open_if.Goals as goal

pub returns : goal.returns
returns c =
    let opened : Open = record { before = c.take_list-before.result; test = c.in_ok-test.test; main = None } in
    reaches_open c.args.nodes.now c.add_test.new.nodes c.args.unfinished.now _ opened _ c.in_ok-test.ensures.adds c.requires.within
    c.take_list-before.ensures.new (c.in_ok-push_front.ensures.items ∙ ap (λ (os : List Open). opened ∷ os) c.take_list-before.ensures.ifs)
    c.take_list-before.ensures.list refl c.in_ok-test.ensures.within c.in_ok-test.ensures.tree
