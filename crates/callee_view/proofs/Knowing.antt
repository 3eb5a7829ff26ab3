-- What is known by places is what is known by names.
use Rattle.std.proofs.Common.{◌≡◌, ℕ, zero, suc, ◌<◌, ◌↔◌, ◌⊎◌, inl, inr, List, [], ◌∷◌, Option, Some, None, map, length, refl, sym, ap, subst, ◌∙◌, arith}
use Rattle.std.specs.Prelude.{slice_get, slice_index_or}
use Rattle.spark_base.specs.declared.numbers.LeafNo.{LeafNo}
use Rattle.core_form.specs.Code.{Next}
use Rattle.flow_facts.specs.Flow.{IsSame, Summary}
use Rattle.summary_rows.specs.Layout.{IsAt}
use Rattle.call_flow.specs.declared.known.Known.{Known}
use Rattle.call_flow.specs.Calls.{IsAside, Standing, StandingPairs, knowing}
use Rattle.call_flow.specs.Told.{known_told, name_in}
use Rattle.callee_view.specs.Shown.{IsAbout, Placed, PlacedPairs, Shows}

-- the name at the place of a leaf
name_at : (name : ℕ → ℕ) (outer : List LeafNo) (v i : ℕ) → IsAt outer v i → name_in (map (λ (leaf : LeafNo). name leaf.0) outer) i ≡ name v
name_at name [] v i e = let n : Option LeafNo = None in let z : n ≡ Some (record { 0 = v }) = e in absurd (cc)
name_at name (x ∷ xs) v zero e = let z : Some x ≡ Some (record { 0 = v }) = e in let y : x ≡ record { 0 = v } = cc in ap (λ (l : LeafNo). name l.0) y
name_at name (x ∷ xs) v (suc i) e = name_at name xs v i e

-- a leaf stands within the list
pub at_within : (outer : List LeafNo) (v i : ℕ) → IsAt outer v i → i < length outer
at_within [] v i e = let n : Option LeafNo = None in let z : n ≡ Some (record { 0 = v }) = e in absurd (cc)
at_within (x ∷ xs) v zero e = omega arith
at_within (x ∷ xs) v (suc i) e = let h = at_within xs v i e in omega (arith, h)

-- and within the list stands a leaf
within_at : (outer : List LeafNo) (i : ℕ) → i < length outer → (v : ℕ) × IsAt outer v i
within_at [] i l = absurd (omega arith)
within_at (x ∷ xs) zero l = (x.0, refl)
within_at (x ∷ xs) (suc i) l = within_at xs i (omega arith)

length_map : (name : ℕ → ℕ) (outer : List LeafNo) → length (map (λ (leaf : LeafNo). name leaf.0) outer) ≡ length outer
length_map name [] = refl
length_map name (x ∷ xs) = let h = length_map name xs in omega (arith, h)

module _ (name : ℕ → ℕ) (outer : List LeafNo) (names : List ℕ) (are : names ≡ map (λ (leaf : LeafNo). name leaf.0) outer) where
  named : (v i : ℕ) → IsAt outer v i → name_in names i ≡ name v
  named v i e = ap (λ ns. name_in ns i) are ∙ name_at name outer v i e

  standing_same : (P S : ℕ → Type 0) → ((i : ℕ) → P i ↔ Placed outer S i) → ((v : ℕ) → S v → (i : ℕ) × IsAt outer v i) → (x : ℕ) → Standing (name_in names) P x ↔ Standing name S x
  standing_same P S h within x = (
    λ s. let p = (h s.0).0 s.1.1 in (p.0, (sym (named p.0 s.0 p.1.0) ∙ s.1.0, p.1.1)),
    λ s. let at = within s.0 s.1.1 in (at.0, (named s.0 at.0 at.1 ∙ s.1.0, (h at.0).1 (s.0, (at.1, s.1.1)))),
  )

  pairs_same : (P S : ℕ → ℕ → Type 0) → ((i j : ℕ) → P i j ↔ PlacedPairs outer S i j) → ((v w : ℕ) → S v w → ((i : ℕ) × IsAt outer v i) × ((j : ℕ) × IsAt outer w j)) → (x y : ℕ)
      → StandingPairs (name_in names) P x y ↔ StandingPairs name S x y
  pairs_same P S h within x y = (
    λ s.
        let p = (h s.0 s.1.0).0 s.1.1.1.1 in
        (p.0, (p.1.0, (sym (named p.0 s.0 p.1.1.0) ∙ s.1.1.0, (sym (named p.1.0 s.1.0 p.1.1.1.0) ∙ s.1.1.1.0, p.1.1.1.1)))),
    λ s.
        let at = within s.0 s.1.0 s.1.1.1.1 in
        (at.0.0, (at.1.0, (named s.0 at.0.0 at.0.1 ∙ s.1.1.0, (named s.1.0 at.1.0 at.1.1 ∙ s.1.1.1.0, (h at.0.0 at.1.0).1 (s.0, (s.1.0, (at.0.1, (at.1.1, s.1.1.1.1)))))))),
  )

  leaves_same : (s : Summary) → IsAbout outer s → (x : ℕ) → Standing (name_in names) (λ i. i < length names) x ↔ Standing name s.leaves x
  leaves_same s about x = standing_same (λ i. i < length names) s.leaves
      (λ i. (
        λ l. let count : length names ≡ length outer = ap length are ∙ length_map name outer in let at = within_at outer i (omega (arith, count, l)) in (at.0, (at.1, (about.leaves at.0).1 (i, at.1))),
        λ p. let count : length names ≡ length outer = ap length are ∙ length_map name outer in let l = at_within outer p.0 i p.1.0 in omega (arith, count, l),
      ))
      (λ v h. (about.leaves v).0 h) x

-- aside of the one, aside of the other
aside_same : (a b : ℕ → Type 0) → ((x : ℕ) → a x ↔ b x) → (x : ℕ) → (a x → ⊥) ↔ (b x → ⊥)
aside_same a b h x = (λ n y. n ((h x).1 y), λ n y. n ((h x).0 y))

pub knowing_shown : (big : ℕ) (name : ℕ → ℕ) (outer : List LeafNo) (k : Known) (s : Summary) → k.names.items ≡ map (λ (leaf : LeafNo). name leaf.0) outer
    → Shows outer k s → IsAbout outer s → IsSame (knowing big (name_in k.names.items) (known_told k)) (knowing big name s)
knowing_shown big name outer k s are shows about =
    let reads = standing_same name outer k.names.items are (known_told k).reads s.reads shows.reads (λ v h. (about.leaves v).0 (about.reads v h)) in
    let writes = standing_same name outer k.names.items are (known_told k).writes s.writes shows.writes (λ v h. (about.leaves v).0 (about.writes v h)) in
    let keeps = standing_same name outer k.names.items are (known_told k).keeps s.keeps shows.keeps (λ v h. (about.leaves v).0 (about.keeps v h)) in
    let depends = pairs_same name outer k.names.items are (known_told k).depends s.depends shows.depends
    (λ v w h. ((about.leaves v).0 (about.depends v w h).0, (about.leaves w).0 (about.depends v w h).1)) in
    let aside = aside_same (Standing (name_in k.names.items) (known_told k).leaves) (Standing name s.leaves) (leaves_same name outer k.names.items are s about) in
    record {
      reads = reads;
      writes = writes;
      decides = λ v. (λ h. h, λ h. h);
      can = λ o. (λ h. (h.0, shows.returns.0 h.1), λ h. (h.0, shows.returns.1 h.1));
      kept = λ o v w. (
        λ h. (h.0, (shows.returns.0 h.1.0, (h.1.1.0, (h.1.1.1.0, elim h.1.1.1.1 [ inl x ↦ inl ((keeps v).0 x) | inr n ↦ inr ((aside v).0 n) ])))),
        λ h. (h.0, (shows.returns.1 h.1.0, (h.1.1.0, (h.1.1.1.0, elim h.1.1.1.1 [ inl x ↦ inl ((keeps v).1 x) | inr n ↦ inr ((aside v).1 n) ])))),
      );
      dep = λ o v w. (
        λ h. (h.0, (shows.returns.0 h.1.0, elim h.1.1 [ inl x ↦ inl ((depends v w).0 x) | inr n ↦ inr (n.0, (n.1.0, (aside v).0 n.1.1)) ])),
        λ h. (h.0, (shows.returns.1 h.1.0, elim h.1.1 [ inl x ↦ inl ((depends v w).1 x) | inr n ↦ inr (n.0, (n.1.0, (aside v).1 n.1.1)) ])),
      );
    }
