-- Rows while leaves come, one after another.
use Rattle.std.proofs.Common.{◌≡◌, ℕ, zero, suc, ◌+◌, ◌<◌, ◌⊎◌, ◌↔◌, Bool, true, false, List, [], ◌∷◌, ◌++◌, length, refl, inl, inr, arith, subst, sym, ap, ◌∙◌}
use Rattle.std.specs.Prelude.{slice_index_or}
use Rattle.std.proofs.lemmas.Bool.{false≢true, cases_lt, cases_eq}
use Rattle.std.proofs.lemmas.Option.{none-some, slice_get_past}
use Rattle.spark_base.specs.declared.numbers.BodyNo.{BodyNo}
use Rattle.spark_base.specs.declared.numbers.LeafNo.{LeafNo}
use Rattle.call_lists.specs.Lists.{Names}
use Rattle.call_lists.proofs.Names.{names_within}
use Rattle.summary_rows.specs.Layout.{IsAt}
use Rattle.row_leaves.specs.declared.leaves.Bodies.{Bodies}
use Rattle.row_leaves.specs.Leaves.{IsLibrary, RowLeafWithin, IsRowLeaf, AreRowLeaves}
use Rattle.row_leaves.specs.Search.{Leads, LeadsTo, Spread, grown, IsRowBelow}

-- A leaf spreads along callers, from those whose own it is, if it is a library leaf.

module _ (d : Bodies) (callers : List (List BodyNo)) (v : ℕ)
    (turned : (b c : ℕ) → Names (slice_index_or d.sees b []) c ↔ Names (slice_index_or callers c []) b) where
  within_of : IsLibrary d v → (n b : ℕ) → Leads callers (slice_index_or d.holders v []) n b → RowLeafWithin d (suc n) b v
  within_of lib zero b h = inl h
  within_of lib (suc n) b h = inr (h.0, ((turned b h.0).1 h.1.0, (lib, within_of lib n h.0 h.1.1)))

  leads_of : (n b : ℕ) → RowLeafWithin d n b v → LeadsTo callers (slice_index_or d.holders v []) b
  leads_of zero b h = absurd h
  leads_of (suc n) b (inl o) = (0, o)
  leads_of (suc n) b (inr s) = let r = leads_of n s.0 s.1.1.1 in (suc r.0, (s.0, ((turned b s.0).0 s.1.0, r.1)))

  own_of : (slice_index_or d.library v false ≡ false) → (n b : ℕ) → RowLeafWithin d n b v → Names (slice_index_or d.holders v []) b
  own_of off zero b h = absurd h
  own_of off (suc n) b (inl o) = o
  own_of off (suc n) b (inr s) = absurd (false≢true (sym off ∙ s.1.1.0))

  pub spread_row : (spreads : Bool) → slice_index_or d.library v false ≡ spreads → (b : ℕ) → Spread spreads callers (slice_index_or d.holders v []) b ↔ IsRowLeaf d b v
  spread_row true e b = (λ h. (suc h.0, within_of e h.0 b h.1), λ h. leads_of h.0 b h.1)
  spread_row false e b = (λ h. (1, inl h), λ h. own_of e h.0 b h.1)

pub leaf_within : (d : Bodies) (n b v : ℕ) → RowLeafWithin d n b v → v < length d.holders
leaf_within d zero b v h = absurd h
leaf_within d (suc n) b v (inl o) = names_within d.holders v b o
leaf_within d (suc n) b v (inr s) = leaf_within d n s.0 v s.1.1.1

-- A list with one leaf more at its end

at_below : (list : List LeafNo) (x i : ℕ) → IsAt list x i → i < length list
at_below list x i e = elim (cases_lt i (length list)) [ inl l ↦ l | inr g ↦ absurd (none-some (record { 0 = x }) (sym (slice_get_past list i g) ∙ e)) ]

at_kept : (list more : List LeafNo) (x i : ℕ) → IsAt list x i → IsAt (list ++ more) x i
at_kept [] more x i e = absurd (let l = at_below [] x i e in omega (arith, l))
at_kept (y ∷ ys) more x zero e = e
at_kept (y ∷ ys) more x (suc i) e = at_kept ys more x i e

at_last : (list : List LeafNo) (v : LeafNo) → IsAt (list ++ v ∷ []) v.0 (length list)
at_last [] v = refl
at_last (y ∷ ys) v = at_last ys v

at_pushed : (list : List LeafNo) (v : LeafNo) (x i : ℕ) → IsAt (list ++ v ∷ []) x i → IsAt list x i ⊎ ((i ≡ length list) × (x ≡ v.0))
at_pushed [] v x zero e =
    let y : LeafNo = record { 0 = x } in
    let q : v ≡ y = cc in
    inr (refl, sym (ap (λ (l : LeafNo). l.0) q))
at_pushed [] v x (suc i) e = absurd (let l = at_below (v ∷ []) x (suc i) e in omega (arith, l))
at_pushed (y ∷ ys) v x zero e = inl e
at_pushed (y ∷ ys) v x (suc i) e = elim (at_pushed ys v x i e) [ inl h ↦ inl h | inr h ↦ inr (ap (λ (k : ℕ). suc k) h.0, h.1) ]

pub row_empty : (d : Bodies) (b : ℕ) → IsRowBelow d b 0 []
row_empty d b = record {
  increasing = λ v w i j h _ _. absurd (let l = at_below [] v i h in omega (arith, l));
  leaves = λ v. (λ h. absurd (let l = at_below [] v h.0 h.1 in omega (arith, l)), λ h. absurd (let l = h.0 in omega (arith, l)));
}

pub row_grown : (d : Bodies) (b : ℕ) (v : LeafNo) (list : List LeafNo) (holds : Bool) → ((holds ≡ true) ↔ IsRowLeaf d b v.0) → IsRowBelow d b v.0 list
    → IsRowBelow d b (v.0 + 1) (grown v holds list)
row_grown d b v list true h is = record {
  increasing = λ x y i j p q l. elim (at_pushed list v y j q) [
    | inl q ↦ (elim (at_pushed list v x i p) [
      | inl p ↦ is.increasing x y i j p q l
      | inr e ↦ absurd (let m = at_below list y j q in let k = e.0 in omega (arith, l, m, k))
    ])
    | inr e ↦ (elim (at_pushed list v x i p) [
      | inl p ↦ (let below = ((is.leaves x).0 (i, p)).0 in let last = e.1 in omega (arith, below, last))
      | inr f ↦ absurd (let m = e.0 in let k = f.0 in omega (arith, l, m, k))
    ])
  ];
  leaves = λ w. (
    λ t. elim (at_pushed list v w t.0 t.1) [
      | inl p ↦ (let r = (is.leaves w).0 (t.0, p) in ((let k = r.0 in omega (arith, k)), r.1))
      | inr e ↦ ((let k = e.1 in omega (arith, k)), subst (λ (k : ℕ). IsRowLeaf d b k) (sym e.1) (h.0 refl))
    ],
    λ t. elim (cases_eq w v.0) [
      | inl e ↦ (length list, subst (λ (k : ℕ). IsAt (list ++ v ∷ []) k (length list)) (sym e) (at_last list v))
      | inr n ↦ (let r = (is.leaves w).1 ((let k = t.0 in omega (arith, k, n)), t.1) in (r.0, at_kept list (v ∷ []) w r.0 r.1))
    ],
  );
}
row_grown d b v list false h is = record {
  increasing = is.increasing;
  leaves = λ w. (
    λ t. (let r = (is.leaves w).0 t in ((let k = r.0 in omega (arith, k)), r.1)),
    λ t. elim (cases_eq w v.0) [
      | inl e ↦ absurd (false≢true (h.1 (subst (λ (k : ℕ). IsRowLeaf d b k) e t.1)))
      | inr n ↦ (is.leaves w).1 ((let k = t.0 in omega (arith, k, n)), t.1)
    ],
  );
}

pub rows_whole : (d : Bodies) (outer : List (List LeafNo)) → length outer ≡ length d.sees
    → ((b : ℕ) → IsRowBelow d b (length d.holders) (slice_index_or outer b [])) → AreRowLeaves d outer
rows_whole d outer size h = record {
  bodies = size;
  increasing = λ b. (h b).increasing;
  leaves = λ b v l. (λ t. (((h b).leaves v).0 t).1, λ t. ((h b).leaves v).1 (leaf_within d t.0 b v t.1, t));
}
