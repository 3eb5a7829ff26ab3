use Rattle.std.proofs.Common.{◌≡◌, ℕ, ◌+◌, ◌<◌, ◌⊎◌, inl, inr, length, arith}
use Rattle.std.proofs.lemmas.Result.{IfOk-weaker}
use Rattle.std.specs.Prelude.{IsSomeAnd}
use Rattle.core_form.specs.Fine.{home_of}
use Rattle.flow_bits.specs.Sets.{Has}
use Rattle.flow_facts.proofs.Within.{has_within}
use Rattle.flow_relations.specs.Framing.{IsFraming, IsOwn}
use Rattle.flow_relations.proofs.Frames.{home_within}
use Rattle.flow_relations.proofs.Framings.{framing_in}
use Rattle.row_flows.specs.Frames.{IsLeafOver, IsSeenOfSome}
use Rattle.row_flows.proofs.Listed.{some_within}
use Rattle.row_flows.proofs.frames.frame_over.Goals as goal

pub returns : goal.returns
returns c =
    let p = c.args.program.now in
    let b = c.args.body.0 in
    let l = c.args.rows.now.layout in
    let list = c.args.callees.now in
    let row = c.in_ok-inside.inside in
    let size : length row ≡ length p.leaves + 1 = c.in_ok-inside.ensures.size in
    let all : (v : ℕ) → Has c.add_row_leaves.new.into v ⊎ IsSeenOfSome p l b list v → Has c.add.new.self v = λ v x. (c.add.ensures.set v).1 (inl ((c.in_ok-add_all_seen.ensures.set v).1 x)) in
    let own : (v : ℕ) → Has row v ⊎ IsSomeAnd (home_of p v) (IsOwn b) → Has c.add.new.self v = λ v x.
    all v (inl ((c.add_row_leaves.ensures.set v).1 (inl ((c.add_own.ensures.set v).1 x)))) in
    let named : (v : ℕ) → Has row v → v < length p.leaves = λ v x. grind (arith, x, c.in_ok-inside.ensures.last, has_within row v, size) in
    let inside : (v : ℕ) → IsLeafOver p l b list v → (v < length p.leaves) × Has c.add.new.self v = λ v h. elim h [
      | inl f ↦ (elim f [
        | inl x ↦ (let h = (c.in_ok-inside.ensures.set v).1 x in (named v h, own v (inl h)))
        | inr x ↦ (home_within p v (IsOwn b) x, own v (inr x))
      ])
      | inr f ↦ (elim f [
        | inl x ↦ (c.requires.rows.leaves b v x, all v (inl ((c.add_row_leaves.ensures.set v).1 (inr x))))
        | inr x ↦ (some_within p l b list v x, all v (inr x))
      ])
    ] in
    IfOk-weaker c.frame_from.result
    (IsFraming (length p.leaves) (λ v. (v < length p.leaves) × Has c.add.new.self v))
    (IsFraming (length p.leaves) (IsLeafOver p l b list))
    (λ r h. framing_in (length p.leaves) _ _ inside r h)
    (rw c.void_of.ensures at c.frame_from.ensures)
