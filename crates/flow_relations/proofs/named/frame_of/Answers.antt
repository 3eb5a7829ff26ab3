use Rattle.std.proofs.Common.{◌≡◌, ℕ, ◌+◌, ◌<◌, length, arith}
use Rattle.std.proofs.lemmas.Result.{IfOk-weaker}
use Rattle.flow_bits.specs.Sets.{Has}
use Rattle.flow_relations.specs.Framing.{IsFrameLeaf, IsFraming, IsFramingOf, IsOwn}
use Rattle.flow_relations.proofs.Framings.{framing_in}
use Rattle.flow_relations.proofs.Frames.{home_within}
use Rattle.flow_facts.proofs.Within.{has_within}
use Rattle.flow_relations.proofs.named.frame_of.Goals as goal

pub returns : goal.returns
returns c =
    let p = c.args.program.now in
    let b = c.args.body.0 in
    let row = c.in_ok-inside.inside in
    let size : length row ≡ length p.leaves + 1 = c.in_ok-inside.ensures.size in
    let inside : (v : ℕ) → IsFrameLeaf p b v → (v < length p.leaves) × Has c.add.new.self v = λ v h.
    grind (arith, h, c.in_ok-inside.ensures.set v, c.in_ok-inside.ensures.last, has_within row v, size, home_within p v (IsOwn b), c.add_own.ensures.set v, c.add.ensures.set v) in
    IfOk-weaker c.frame_from.result
    (IsFraming (length p.leaves) (λ v. (v < length p.leaves) × Has c.add.new.self v))
    (IsFramingOf p b)
    (λ r h. framing_in (length p.leaves) _ _ inside r h)
    (rw c.void_of.ensures at c.frame_from.ensures)
