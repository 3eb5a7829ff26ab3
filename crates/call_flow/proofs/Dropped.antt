-- What is dropped of facts that have no outcome but to go on.
use Rattle.std.proofs.Common.{◌≡◌, ℕ, ◌+◌, ◌<◌, ◌≤◌, ◌↔◌, Bool, List, sym, subst}
use Rattle.std.specs.Prelude.{IsTrue}
use Rattle.core_form.specs.Code.{Outcome, Next, Leaves, Returns}
use Rattle.flow_facts.specs.declared.facts.Facts.{Facts}
use Rattle.flow_facts.specs.declared.sides.Side.{Side}
use Rattle.flow_bits.specs.Sets.{Relates}
use Rattle.flow_facts.specs.Told.{AreSized, IsSideSized, side_at}
use Rattle.flow_facts.proofs.Outcomes.{each_sized, reached_dep, reached_kept}
use Rattle.call_flow.specs.Calls.{up}

side_sized : (n : ℕ) (f : Facts) → AreSized n f → (o : Outcome) → IsSideSized n (side_at f o)
side_sized n f h Next = h.next
side_sized n f h (Leaves k) = each_sized n f.leaves.items h.leaves k
side_sized n f h Returns = h.back

module _ (void big : ℕ) (f : Facts) (size : AreSized (big + 1) f) (alone : (o : Outcome) → IsTrue (side_at f o).reached → o ≡ Next) where
  pub alone_kept : (kept : List (List Bool)) → ((v w : ℕ) → Relates kept v w ↔ (((v ≤ void) × (w ≤ void)) × Relates f.next.kept (up void big v) (up void big w)))
      → (o : Outcome) (v w : ℕ) → (((v ≤ void) × (w ≤ void)) × Relates (side_at f o).kept (up void big v) (up void big w)) ↔ ((o ≡ Next) × Relates kept v w)
  alone_kept kept h o v w = (there o, back)
    where
      there : (q : Outcome) → (((v ≤ void) × (w ≤ void)) × Relates (side_at f q).kept (up void big v) (up void big w)) → (q ≡ Next) × Relates kept v w
      there q x = let e = alone q (reached_kept (big + 1) (side_at f q) (side_sized (big + 1) f size q) _ _ x.1) in
          (e, (h v w).1 (x.0, subst (λ (r : Outcome). Relates (side_at f r).kept (up void big v) (up void big w)) e x.1))

      back : ((o ≡ Next) × Relates kept v w) → (((v ≤ void) × (w ≤ void)) × Relates (side_at f o).kept (up void big v) (up void big w))
      back x = let y = (h v w).0 x.1 in (y.0, subst (λ (r : Outcome). Relates (side_at f r).kept (up void big v) (up void big w)) (sym x.0) y.1)

  pub alone_dep : (dep : List (List Bool)) → ((v w : ℕ) → Relates dep v w ↔ (((v < void) × (w < void)) × Relates f.next.dep v w))
      → (o : Outcome) (v w : ℕ) → (((v < void) × (w < void)) × Relates (side_at f o).dep v w) ↔ ((o ≡ Next) × Relates dep v w)
  alone_dep dep h o v w = (there, back)
    where
      there : (((v < void) × (w < void)) × Relates (side_at f o).dep v w) → (o ≡ Next) × Relates dep v w
      there x = let e = alone o (reached_dep (big + 1) (side_at f o) (side_sized (big + 1) f size o) _ _ x.1) in
          (e, (h v w).1 (x.0, subst (λ (r : Outcome). Relates (side_at f r).dep v w) e x.1))

      back : ((o ≡ Next) × Relates dep v w) → (((v < void) × (w < void)) × Relates (side_at f o).dep v w)
      back x = let y = (h v w).0 x.1 in (y.0, subst (λ (r : Outcome). Relates (side_at f r).dep v w) (sym x.0) y.1)

module _ (f : Facts) (alone : (o : Outcome) → IsTrue (side_at f o).reached → o ≡ Next) where
  pub alone_can : (reached : Bool) → reached ≡ f.next.reached → (o : Outcome) → IsTrue (side_at f o).reached ↔ ((o ≡ Next) × IsTrue reached)
  alone_can reached e o = (there, back)
    where
      there : IsTrue (side_at f o).reached → (o ≡ Next) × IsTrue reached
      there x = let n = alone o x in (n, subst (λ (b : Bool). IsTrue b) (sym e) (subst (λ (r : Outcome). IsTrue (side_at f r).reached) n x))

      back : ((o ≡ Next) × IsTrue reached) → IsTrue (side_at f o).reached
      back x = subst (λ (r : Outcome). IsTrue (side_at f r).reached) (sym x.0) (subst (λ (b : Bool). IsTrue b) e x.1)
