-- Facts of a statement that goes on and has no other outcome.
use Rattle.std.proofs.Common.{◌≡◌, ℕ, ◌↔◌, Bool, List, [], refl, sym, subst, ap}
use Rattle.std.specs.Prelude.{IsTrue, slice_index_or}
use Rattle.core_form.specs.Code.{Outcome, Next, Leaves, Returns}
use Rattle.flow_facts.specs.declared.sides.Side.{Side}
use Rattle.flow_bits.specs.Sets.{Has, Relates}
use Rattle.flow_facts.specs.Flow.{Flow, IsSame}
use Rattle.flow_facts.specs.Told.{no_side, side_of, told_by}
use Rattle.flow_facts.proofs.Outcomes.{no_pair}

module _ (reads writes decides : List Bool) (next : Side) (g : Flow) (kept : (o : Outcome) (v w : ℕ) → g.kept o v w ↔ ((o ≡ Next) × Relates next.kept v w))
    (dep : (o : Outcome) (v w : ℕ) → g.dep o v w ↔ ((o ≡ Next) × Relates next.dep v w)) (can : (o : Outcome) → g.can o ↔ ((o ≡ Next) × IsTrue next.reached)) where
  alone_can : (o : Outcome) → IsTrue (side_of next no_side [] o).reached ↔ g.can o
  alone_can Next = (λ x. (can Next).1 (refl, x), λ y. ((can Next).0 y).1)
  alone_can (Leaves n) = (λ x. (let f : ⊥ = cc in absurd f), λ y. (let e = ((can (Leaves n)).0 y).0 in cc))
  alone_can Returns = (λ x. (let f : ⊥ = cc in absurd f), λ y. (let e = ((can Returns).0 y).0 in cc))

  alone_kept : (o : Outcome) (v w : ℕ) → Relates (side_of next no_side [] o).kept v w ↔ g.kept o v w
  alone_kept Next v w = (λ x. (kept Next v w).1 (refl, x), λ y. ((kept Next v w).0 y).1)
  alone_kept (Leaves n) v w = (λ x. absurd (no_pair v w x), λ y. (let e = ((kept (Leaves n) v w).0 y).0 in cc))
  alone_kept Returns v w = (λ x. absurd (no_pair v w x), λ y. (let e = ((kept Returns v w).0 y).0 in cc))

  alone_dep : (o : Outcome) (v w : ℕ) → Relates (side_of next no_side [] o).dep v w ↔ g.dep o v w
  alone_dep Next v w = (λ x. (dep Next v w).1 (refl, x), λ y. ((dep Next v w).0 y).1)
  alone_dep (Leaves n) v w = (λ x. absurd (no_pair v w x), λ y. (let e = ((dep (Leaves n) v w).0 y).0 in cc))
  alone_dep Returns v w = (λ x. absurd (no_pair v w x), λ y. (let e = ((dep Returns v w).0 y).0 in cc))

  pub alone_same : ((v : ℕ) → Has reads v ↔ g.reads v) → ((v : ℕ) → Has writes v ↔ g.writes v) → ((v : ℕ) → Has decides v ↔ g.decides v)
      → IsSame (told_by reads writes decides next no_side []) g
  alone_same r w d = record { reads = r; writes = w; decides = d; can = alone_can; kept = alone_kept; dep = alone_dep }
