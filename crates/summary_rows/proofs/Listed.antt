-- The facts of a layout are those that stand at a bit, each at one, and each bit is of one.
use Rattle.std.proofs.Common.{◌≡◌, inl, inr, ℕ, zero, suc, ◌+◌, ◌*◌, ◌<◌, List, [], ◌∷◌, ◌++◌, Some, None, length, refl, sym, ap, ◌∙◌, subst, arith}
use Rattle.std.specs.Prelude.{map, slice_get, slice_index_or}
use Rattle.std.proofs.lemmas.Nat.{same_from_place}
use Rattle.std.proofs.lemmas.Option.{none-some, slice_get_past}
use Rattle.spark_base.specs.declared.numbers.LeafNo.{LeafNo}
use Rattle.least_solution.specs.Least.{Among}
use Rattle.least_solution.proofs.Members.{among_left, among_right, among_split, among_map}
use Rattle.summary_rows.specs.Facts.{Part, Returning, Reading, Writing, Keeping, Depending, Fact, part_no, pairs, parts, facts_from}
use Rattle.summary_rows.specs.Layout.{reads_from, writes_from, keeps_from, depends_from, IsAt, Stands}
use Rattle.summary_rows.proofs.Places.{at_below}

-- the leaf at a place, and its number
leaf_one : (outer : List LeafNo) (v w i j : ℕ) → IsAt outer v i → IsAt outer w j → i ≡ j → v ≡ w
leaf_one outer v w i j a b e =
    let q : slice_get outer i ≡ slice_get outer j = ap (λ (k : ℕ). slice_get outer k) e in
    let x : LeafNo = record { 0 = v } in
    let y : LeafNo = record { 0 = w } in
    let r : x ≡ y = cc in
    ap (λ (l : LeafNo). l.0) r

listed_map : (f : LeafNo → Part) (vs : List LeafNo) (x : Part) → Among x (map f vs)
    → (i : ℕ) × (v : LeafNo) × (slice_get vs i ≡ Some v) × (x ≡ f v)
listed_map f [] x a = absurd a
listed_map f (v ∷ vs) x (inl e) = (0, v, refl, e)
listed_map f (v ∷ vs) x (inr a) = let r = listed_map f vs x a in (suc r.0, r.1, r.2, r.3)

map_listed : (f : LeafNo → Part) (vs : List LeafNo) (i : ℕ) (v : LeafNo) → slice_get vs i ≡ Some v → Among (f v) (map f vs)
map_listed f [] i v e = absurd (let n : slice_get {X = LeafNo} [] i ≡ None = slice_get_past [] i (omega arith) in none-some v (sym n ∙ e))
map_listed f (u ∷ vs) zero v e = inl (ap f (let q : v ≡ u = cc in q))
map_listed f (u ∷ vs) (suc i) v e = inr (map_listed f vs i v e)

listed_pairs : (vs to : List LeafNo) (x : Part) → Among x (pairs vs to)
    → (i j : ℕ) × (v w : LeafNo) × (slice_get vs i ≡ Some v) × (slice_get to j ≡ Some w) × (x ≡ Depending v.0 w.0)
listed_pairs [] to x a = absurd a
listed_pairs (v ∷ vs) to x a = elim (among_split x (map (λ w. Depending v.0 w.0) to) (pairs vs to) a) [
  | inl l ↦ (let r = listed_map (λ w. Depending v.0 w.0) to x l in (0, r.0, v, r.1, refl, r.2, r.3))
  | inr l ↦ (let r = listed_pairs vs to x l in (suc r.0, r.1, r.2, r.3, r.4, r.5, r.6))
]

pairs_listed : (vs to : List LeafNo) (i j : ℕ) (v w : LeafNo) → slice_get vs i ≡ Some v → slice_get to j ≡ Some w → Among (Depending v.0 w.0) (pairs vs to)
pairs_listed [] to i j v w e d = absurd (let n : slice_get {X = LeafNo} [] i ≡ None = slice_get_past [] i (omega arith) in none-some v (sym n ∙ e))
pairs_listed (u ∷ vs) to zero j v w e d =
    among_left (Depending v.0 w.0) (map (λ l. Depending u.0 l.0) to) (pairs vs to)
    (let q : v ≡ u = cc in subst (λ (l : LeafNo). Among (Depending v.0 w.0) (map (λ k. Depending l.0 k.0) to)) q (map_listed (λ k. Depending v.0 k.0) to j w d))
pairs_listed (u ∷ vs) to (suc i) j v w e d =
    among_right (Depending v.0 w.0) (map (λ l. Depending u.0 l.0) to) (pairs vs to) (pairs_listed vs to i j v w e d)

module _ (outer : List LeafNo) where
  abbrev readings : List Part
  readings = map (λ (v : LeafNo). Reading v.0) outer

  abbrev writings : List Part
  writings = map (λ (v : LeafNo). Writing v.0) outer

  abbrev keepings : List Part
  keepings = map (λ (v : LeafNo). Keeping v.0) outer

  abbrev dependings : List Part
  dependings = pairs outer outer

  at : (x y : Part) (n : ℕ) → x ≡ y → Stands outer y n → (m : ℕ) × Stands outer x m
  at x y n e s = (n, subst (λ (z : Part). Stands outer z n) (sym e) s)

  reads_stand : (x : Part) → Among x readings → (n : ℕ) × Stands outer x n
  reads_stand x a = let r = listed_map (λ v. Reading v.0) outer x a in at x (Reading r.1.0) (reads_from (length outer) + r.0) r.3 (r.0, (r.2, refl))

  writes_stand : (x : Part) → Among x writings → (n : ℕ) × Stands outer x n
  writes_stand x a = let r = listed_map (λ v. Writing v.0) outer x a in at x (Writing r.1.0) (writes_from (length outer) + r.0) r.3 (r.0, (r.2, refl))

  keeps_stand : (x : Part) → Among x keepings → (n : ℕ) × Stands outer x n
  keeps_stand x a = let r = listed_map (λ v. Keeping v.0) outer x a in at x (Keeping r.1.0) (keeps_from (length outer) + r.0) r.3 (r.0, (r.2, refl))

  depends_stand : (x : Part) → Among x dependings → (n : ℕ) × Stands outer x n
  depends_stand x a =
      let r = listed_pairs outer outer x a in
      at x (Depending r.2.0 r.3.0) (depends_from (length outer) + (r.0 * length outer + r.1)) r.6 (r.0, (r.1, (r.4, (r.5, refl))))

  pub listed_stands : (x : Part) → Among x (parts outer) → (n : ℕ) × Stands outer x n
  listed_stands x (inl e) = at x Returning 0 e refl
  listed_stands x (inr a) = elim (among_split x readings (writings ++ (keepings ++ dependings)) a) [
    | inl b ↦ reads_stand x b
    | inr b ↦ (elim (among_split x writings (keepings ++ dependings) b) [
      | inl c ↦ writes_stand x c
      | inr c ↦ (elim (among_split x keepings dependings c) [ inl d ↦ keeps_stand x d | inr d ↦ depends_stand x d ])
    ])
  ]

  pub stands_listed : (x : Part) (n : ℕ) → Stands outer x n → Among x (parts outer)
  stands_listed Returning n s = inl refl
  stands_listed (Reading v) n s =
      inr (among_left (Reading v) readings (writings ++ (keepings ++ dependings)) (map_listed (λ v. Reading v.0) outer s.0 (record { 0 = v }) s.1.0))
  stands_listed (Writing v) n s =
      inr (among_right (Writing v) readings (writings ++ (keepings ++ dependings))
      (among_left (Writing v) writings (keepings ++ dependings) (map_listed (λ v. Writing v.0) outer s.0 (record { 0 = v }) s.1.0)))
  stands_listed (Keeping v) n s =
      inr (among_right (Keeping v) readings (writings ++ (keepings ++ dependings))
      (among_right (Keeping v) writings (keepings ++ dependings)
      (among_left (Keeping v) keepings dependings (map_listed (λ v. Keeping v.0) outer s.0 (record { 0 = v }) s.1.0))))
  stands_listed (Depending v w) n s =
      inr (among_right (Depending v w) readings (writings ++ (keepings ++ dependings))
      (among_right (Depending v w) writings (keepings ++ dependings)
      (among_right (Depending v w) keepings dependings
      (pairs_listed outer outer s.0 s.1.0 (record { 0 = v }) (record { 0 = w }) s.1.1.0 s.1.1.1.0))))

  pub same_part : (x y : Part) (n : ℕ) → Stands outer x n → Stands outer y n → part_no x ≡ part_no y → x ≡ y
  same_part Returning Returning n s t e = refl
  same_part (Reading v) (Reading w) n s t e = ap Reading (leaf_one outer v w s.0 t.0 s.1.0 t.1.0 (let p = s.1.1 in let q = t.1.1 in omega (arith, p, q)))
  same_part (Writing v) (Writing w) n s t e = ap Writing (leaf_one outer v w s.0 t.0 s.1.0 t.1.0 (let p = s.1.1 in let q = t.1.1 in omega (arith, p, q)))
  same_part (Keeping v) (Keeping w) n s t e = ap Keeping (leaf_one outer v w s.0 t.0 s.1.0 t.1.0 (let p = s.1.1 in let q = t.1.1 in omega (arith, p, q)))
  same_part (Depending v w) (Depending a b) n s t e =
      let p = s.1.1.1.1 in
      let q = t.1.1.1.1 in
      let h = same_from_place s.0 s.1.0 t.0 t.1.0 (length outer) (at_below outer w s.1.0 s.1.1.1.0) (at_below outer b t.1.0 t.1.1.1.0) (omega (arith, p, q)) in
      ap (λ (k : ℕ). Depending k w) (leaf_one outer v a s.0 t.0 s.1.1.0 t.1.1.0 h.0) ∙ ap (λ (k : ℕ). Depending a k) (leaf_one outer w b s.1.0 t.1.0 s.1.1.1.0 t.1.1.1.0 h.1)
  same_part x y n s t e = absurd (omega (arith, e))

pub facts_listed : (b : ℕ) (rows : List (List LeafNo)) (k m : ℕ) → m ≡ b + k → k < length rows → (x : Part) → Among x (parts (slice_index_or rows k []))
    → Among (record { owner = m; part = x }) (facts_from b rows)
facts_listed b [] k m e l x a = absurd (omega (arith, l))
facts_listed b (outer ∷ rest) zero m e l x a =
    let d : b ≡ m = omega (arith, e) in
    among_left (record { owner = m; part = x }) (map (λ y. record { owner = b; part = y }) (parts outer)) (facts_from (suc b) rest)
    (subst (λ (c : ℕ). Among {A = Fact} (record { owner = c; part = x }) (map (λ y. record { owner = b; part = y }) (parts outer))) d
    (among_map (λ (y : Part). let f : Fact = record { owner = b; part = y } in f) x (parts outer) a))
facts_listed b (outer ∷ rest) (suc k) m e l x a =
    among_right (record { owner = m; part = x }) (map (λ y. record { owner = b; part = y }) (parts outer)) (facts_from (suc b) rest)
    (facts_listed (suc b) rest k m (omega (arith, e)) (omega (arith, l)) x a)
