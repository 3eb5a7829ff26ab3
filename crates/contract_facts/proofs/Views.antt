-- The leaves of a contract, and its facts by their places.
use Rattle.std.proofs.Common.{◌≡◌, ℕ, zero, suc, ◌<◌, ◌↔◌, ◌⊎◌, inl, inr, Bool, List, [], ◌∷◌, Option, Some, None, length, refl, sym, ap, subst, arith}
use Rattle.std.specs.Prelude.{IsSomeAnd}
use Rattle.std.proofs.lemmas.Bool.{cases_lt}
use Rattle.spark_base.specs.declared.numbers.LeafNo.{LeafNo}
use Rattle.core_form.specs.declared.contract.Contract.{Contract}
use Rattle.core_form.specs.declared.contract.DependsPair.{DependsPair}
use Rattle.core_form.specs.declared.contract.GlobalItem.{GlobalItem}
use Rattle.core_form.specs.declared.contract.Mode.{Mode}
use Rattle.core_form.specs.declared.program.Body.{Body}
use Rattle.core_form.specs.declared.program.Formal.{Formal}
use Rattle.core_form.specs.declared.program.ParamMode.{ParamMode}
use Rattle.core_form.specs.declared.program.Program.{Program}
use Rattle.flow_bits.specs.Sets.{Has, Relates, Tells, TellsPairs}
use Rattle.summary_rows.specs.Layout.{IsAt, IsIncreasing}
use Rattle.callee_view.specs.Seen.{ContractLeaves, ContractPairs, ContractReads, ContractWrites, IsExpanded, IsFormalLeaf, IsGlobalLeaf, IsPairLeaf, contract_told, is_any, is_formal}
use Rattle.callee_view.specs.Shown.{IsAbout, PlacedPairs, leaf_at}
use Rattle.callee_view.proofs.Placing.{pairs_told}
use Rattle.contract_facts.specs.Uses.{PairsBy}

-- a leaf of some item whose mode passes is one of some item
global_any : (p : Program) (passes : Mode → Bool) (gs : List GlobalItem) (v : ℕ) → IsGlobalLeaf p passes gs v → IsGlobalLeaf p is_any gs v
global_any p passes [] v h = h
global_any p passes (g ∷ gs) v (inl h) = inl (refl, h.1)
global_any p passes (g ∷ gs) v (inr h) = inr (global_any p passes gs v h)

formal_any : (p : Program) (passes : ParamMode → Bool) (fs : List Formal) (v : ℕ) → IsFormalLeaf p passes fs v → IsFormalLeaf p is_formal fs v
formal_any p passes [] v h = h
formal_any p passes (f ∷ fs) v (inl h) = inl (refl, h.1)
formal_any p passes (f ∷ fs) v (inr h) = inr (formal_any p passes fs v h)

expanded_any : (p : Program) (pairs : List DependsPair) (v w : ℕ) → IsExpanded p pairs v w → IsPairLeaf p pairs v × IsPairLeaf p pairs w
expanded_any p [] v w h = (h, h)
expanded_any p (x ∷ xs) v w (inl h) = (inl (inr h.0), inl (inl h.1))
expanded_any p (x ∷ xs) v w (inr h) = let r = expanded_any p xs v w h in (inr r.0, inr r.1)

module _ (p : Program) (b : ℕ) (body : Body) (c : Contract) where
  abbrev Leaves : ℕ → Type 0
  Leaves v = ContractLeaves p b body c v

  reads_any : (v : ℕ) → ContractReads p b body c v → Leaves v
  reads_any v (inl h) = inl (inl (global_any p _ c.globals v h))
  reads_any v (inr (inl h)) = inr (inl (formal_any p _ body.formals v h))
  reads_any v (inr (inr h)) = inr (inr (inr h))

  writes_any : (v : ℕ) → ContractWrites p b body c v → Leaves v
  writes_any v (inl h) = inl (inl (global_any p _ c.globals v h))
  writes_any v (inr (inl h)) = inr (inl (formal_any p _ body.formals v h))
  writes_any v (inr (inr (inl h))) = inr (inr (inl h))
  writes_any v (inr (inr (inr h))) = inr (inr (inr h.0))

  pairs_any : (o : Option (List DependsPair)) → c.depends ≡ o → (v w : ℕ) → ContractPairs p b body c o v w → Leaves v × Leaves w
  pairs_any None e v w h = (reads_any v h.0, writes_any w h.1)
  pairs_any (Some pairs) e v w h =
      let r = expanded_any p pairs v w h in
      let some : (u : ℕ) → IsPairLeaf p pairs u → IsSomeAnd c.depends (λ ps. IsPairLeaf p ps u) = λ u x. subst (λ o. IsSomeAnd o (λ ps. IsPairLeaf p ps u)) (sym e) x in
      (inl (inr (some v r.0)), inl (inr (some w r.1)))

  pub about_contract : (leaves : List LeafNo) → ((v : ℕ) → ((i : ℕ) × IsAt leaves v i) ↔ Leaves v) → IsAbout leaves (contract_told p b body c)
  about_contract leaves all = record {
    leaves = λ v. ((all v).1, (all v).0);
    reads = reads_any;
    writes = writes_any;
    keeps = λ v h. h.0;
    depends = λ v w h. elim h [
      | inl x ↦ pairs_any c.depends refl v w x
      | inr x ↦ (x.1.0, subst Leaves x.0 x.1.0)
    ];
  }

at_leaf : (leaves : List LeafNo) (i : ℕ) → i < length leaves → IsAt leaves (leaf_at leaves i) i
at_leaf [] i l = absurd (omega arith)
at_leaf (x ∷ xs) zero l = refl
at_leaf (x ∷ xs) (suc i) l = at_leaf xs i (omega arith)

-- in an increasing list, one leaf stands at one place
pub one_place : (leaves : List LeafNo) → IsIncreasing leaves → (v i j : ℕ) → IsAt leaves v i → IsAt leaves v j → i ≡ j
one_place leaves up v i j a b = elim (cases_lt i j) [
  | inl l ↦ (let m = up v v i j a b l in absurd (omega (arith, m)))
  | inr g ↦ (elim (cases_lt j i) [ inl l ↦ (let m = up v v j i b a l in absurd (omega (arith, m))) | inr k ↦ omega (arith, g, k) ])
]

-- the facts of a contract shown by places
module _ (p : Program) (b : ℕ) (body : Body) (c : Contract) (leaves : List LeafNo) (n : ℕ) (size : n ≡ length leaves) (up : IsIncreasing leaves)
    (about : (v : ℕ) → ((i : ℕ) × IsAt leaves v i) → ContractLeaves p b body c v) where
  abbrev At : (ℕ → Type 0) → ℕ → Type 0
  At S i = (i < length leaves) × S (leaf_at leaves i)

  -- those of the leaves that are not written depend on themselves
  itself : (written : List Bool) → Tells written (At (ContractWrites p b body c)) → (i j : ℕ)
      → ((i < n) × ((i ≡ j) × (Has written i → ⊥)))
      ↔ ((i < length leaves) × ((j < length leaves) × ((leaf_at leaves i ≡ leaf_at leaves j) × (ContractLeaves p b body c (leaf_at leaves i) × (ContractWrites p b body c (leaf_at leaves i) → ⊥)))))
  itself written tells i j = (there, back)
    where
      there : ((i < n) × ((i ≡ j) × (Has written i → ⊥)))
          → ((i < length leaves) × ((j < length leaves) × ((leaf_at leaves i ≡ leaf_at leaves j) × (ContractLeaves p b body c (leaf_at leaves i) × (ContractWrites p b body c (leaf_at leaves i) → ⊥)))))
      there (l, (e, lacks)) =
          let m : i < length leaves = subst (λ k. i < k) size l in
          (m, (subst (λ k. k < length leaves) e m, (ap (λ k. leaf_at leaves k) e, (about (leaf_at leaves i) (i, at_leaf leaves i m), λ w. lacks ((tells i).1 (m, w))))))

      back : ((i < length leaves) × ((j < length leaves) × ((leaf_at leaves i ≡ leaf_at leaves j) × (ContractLeaves p b body c (leaf_at leaves i) × (ContractWrites p b body c (leaf_at leaves i) → ⊥)))))
          → ((i < n) × ((i ≡ j) × (Has written i → ⊥)))
      back (l, (m, (e, (x, lacks)))) =
          let same : IsAt leaves (leaf_at leaves i) j = subst (λ v. IsAt leaves v j) (sym e) (at_leaf leaves j m) in
          (subst (λ k. i < k) (sym size) l, (one_place leaves up (leaf_at leaves i) i j (at_leaf leaves i l) same, λ h. lacks ((tells i).0 h).1))

  -- the pairs, by those of a Depends or by what is read and written
  by_pairs : (read written : List Bool) → Tells read (At (ContractReads p b body c)) → Tells written (At (ContractWrites p b body c)) → (o : Option (List DependsPair)) → (i j : ℕ)
      → PairsBy p leaves read written o i j ↔ ((i < length leaves) × ((j < length leaves) × ContractPairs p b body c o (leaf_at leaves i) (leaf_at leaves j)))
  by_pairs read written r w None i j = (
    λ h. let x = (r i).0 h.0 in let y = (w j).0 h.1 in (x.0, (y.0, (x.1, y.1))),
    λ h. ((r i).1 (h.0, h.1.1.0), (w j).1 (h.1.0, h.1.1.1)),
  )
  by_pairs read written r w (Some pairs) i j = (λ h. (h.0.0, (h.0.1, h.1)), λ h. ((h.0, h.1.0), h.1.1))

  pub depends_told : (read written : List Bool) → Tells read (At (ContractReads p b body c)) → Tells written (At (ContractWrites p b body c)) → (before square : List (List Bool))
      → TellsPairs before (PairsBy p leaves read written c.depends) → TellsPairs square (λ i j. Relates before i j ⊎ ((i < n) × ((i ≡ j) × (Has written i → ⊥))))
      → (i j : ℕ) → Relates square i j ↔ PlacedPairs leaves (contract_told p b body c).depends i j
  depends_told read written r w before square by tells = pairs_told leaves (contract_told p b body c).depends square (λ i j. (
    λ x. elim ((tells i j).0 x) [
      | inl y ↦ (let z = (by_pairs read written r w c.depends i j).0 ((by i j).0 y) in (z.0, (z.1.0, inl z.1.1)))
      | inr y ↦ (let z = (itself written w i j).0 y in (z.0, (z.1.0, inr z.1.1)))
    ],
    λ x. (tells i j).1 (elim x.1.1 [
      | inl y ↦ inl ((by i j).1 ((by_pairs read written r w c.depends i j).1 (x.0, (x.1.0, y))))
      | inr y ↦ inr ((itself written w i j).1 (x.0, (x.1.0, y)))
    ]),
  ))
