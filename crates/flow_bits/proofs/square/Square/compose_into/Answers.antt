use Rattle.std.proofs.Common.{◌⊎◌, ◌↔◌, List, Bool, subst, arith}
use Rattle.std.proofs.lemmas.Grind.{common_steps}
use Rattle.flow_bits.specs.Sets.{Composes, Relates}
use Rattle.flow_bits.specs.Words.{pairs}
use Rattle.flow_bits.proofs.Squares.{same_size}
use Rattle.flow_bits.proofs.square.Square.compose_into.Goals as goal

pub returns-clause-set : goal.returns-clause-set
returns-clause-set c =
    let first = same_size c.self.inside.size c.first.inside.size c.self.inside.words.items c.first.inside.words.items c.as_slice.result.now c.args.self.now c.args.first.now
    c.self.view_is c.first.view_is c.as_slice.ensures.value c.requires.first in
    let second = same_size c.self.inside.size c.second.inside.size c.self.inside.words.items c.second.inside.words.items c.as_slice-2.result.now c.args.self.now c.args.second.now
    c.self.view_is c.second.view_is c.as_slice-2.ensures.value c.requires.second in
    λ x y.
    let from_first = subst (λ (s : List (List Bool)). Relates (pairs c.self.inside.size c.compose_rows.new.into) x y
    ↔ (Relates (pairs c.self.inside.size c.as_mut_slice.result.now) x y ⊎ Composes s (pairs c.self.inside.size c.as_slice-2.result.now) x y)) first (c.compose_rows.ensures.set x y) in
    let from_both = subst (λ (s : List (List Bool)). Relates (pairs c.self.inside.size c.compose_rows.new.into) x y
    ↔ (Relates (pairs c.self.inside.size c.as_mut_slice.result.now) x y ⊎ Composes c.args.first.now s x y)) second from_first in
    grind (arith, common_steps, from_both)
