-- The system of an equation on facts is a system, and its least solution is that of the facts.
use Rattle.std.proofs.Common.{◌≡◌, inl, inr, ℕ, ◌↔◌, zero, suc, ◌+◌, ◌/◌, ◌%◌, ◌<◌, ◌≤◌, Bool, ◌&&◌, cond, List, [], ◌∷◌, Some, IsTrue, length, refl, sym, ap, ◌∙◌, subst, arith}
use Rattle.std.specs.Prelude.{map, nat_lt, slice_index_or}
use Rattle.std.proofs.lemmas.Bool.{false≢true, cases_eq, cases_lt, cases_Bool, and_parts, lt-ltb, ltb-true}
use Rattle.std.proofs.lemmas.Option.{none-some}
use Rattle.spark_base.specs.declared.numbers.LeafNo.{LeafNo}
use Rattle.flow_bits.specs.Words.{IsSet, word}
use Rattle.least_solution.specs.Least.{applied, least, Among, IsListed, SeesCallees, Grows, IsFinite}
use Rattle.least_solution.proofs.Closed as closed
use Rattle.least_solution.proofs.Members.{among_left, among_right, among_split}
use Rattle.summary_rows.specs.declared.layout.Layout.{Layout}
use Rattle.summary_rows.specs.declared.rows.Rows.{Rows}
use Rattle.summary_rows.specs.Facts.{Part, Fact, parts, facts_from}
use Rattle.summary_rows.specs.Layout.{Stands, row_size, outer_of, first_of, words_before, IsLayout, facts, told}
use Rattle.summary_rows.proofs.Bits.{bit_behind}
use Rattle.summary_rows.proofs.Joined.{row_within, one_row}
use Rattle.summary_rows.proofs.Listed.{listed_stands, same_part}
use Rattle.summary_rows.proofs.Places.{stands_below, one_part}
use Rattle.claim_core.specs.Bits.{Bit}
use Rattle.claim_core.specs.System.{IsSystem, owned_by, InLeast, IsLeast}
use Rattle.claim_core.proofs.Guards.{some_one}
use Rattle.claim_core.proofs.Systems.{same_bit, equation_grows}
use Rattle.claim_rows.specs.Placed.{StandsAt, is_in_row, owner_below, bits_of, bits_below, at_bits, placed, words_of}
use Rattle.claim_rows.proofs.Parts.{same_fact}

-- the word is one of the row
abbrev pub IsInRow : Layout → ℕ → ℕ → Type 0
IsInRow l b w = (first_of l b ≤ w) × (w < first_of l b + row_size (length (outer_of l b)))

row_test : (l : Layout) (b w : ℕ) → IsInRow l b w → IsTrue (is_in_row l b w)
row_test l b w h =
    let x = lt-ltb (first_of l b) (suc w) (let p = h.0 in omega (arith, p)) in
    let y = lt-ltb w (first_of l b + row_size (length (outer_of l b))) h.1 in
    ap (λ z. z && nat_lt w (first_of l b + row_size (length (outer_of l b)))) x ∙ y

row_tested : (l : Layout) (b w : ℕ) → IsTrue (is_in_row l b w) → IsInRow l b w
row_tested l b w h =
    let p = and_parts (nat_lt (first_of l b) (suc w)) (nat_lt w (first_of l b + row_size (length (outer_of l b)))) h in
    let x = ltb-true (first_of l b) (suc w) p.0 in
    (omega (arith, x), ltb-true w (first_of l b + row_size (length (outer_of l b))) p.1)

-- the owner that is found has the word in its row
found : (l : Layout) (n w b : ℕ) → owner_below l n w ≡ Some b → (b < n) × IsInRow l b w
found l zero w b e = absurd (none-some b e)
found l (suc m) w b e = elim (cases_Bool (is_in_row l m w)) [
  | inl h ↦ (
      let s : m ≡ b = some_one m b (subst (λ x. cond x (Some m) (owner_below l m w) ≡ Some b) h e) in
      (omega (arith, s), subst (λ k. IsInRow l k w) s (row_tested l m w h)))
  | inr h ↦ (let r = found l m w b (subst (λ x. cond x (Some m) (owner_below l m w) ≡ Some b) h e) in let p = r.0 in (omega (arith, p), r.1))
]

module _ (l : Layout) (is : IsLayout l) where
  -- and no other body has
  finds : (n w b : ℕ) → n ≤ length l.outer → b < n → IsInRow l b w → owner_below l n w ≡ Some b
  finds zero w b h lt r = absurd (omega (arith, lt))
  finds (suc m) w b h lt r = elim (cases_Bool (is_in_row l m w)) [
    | inl e ↦ (
        let q = row_tested l m w e in
        let s : m ≡ b = one_row l is m b w (omega (arith, h)) (omega (arith, lt, h)) q.0 q.1 r.0 r.1 in
        ap (λ x. cond x (Some m) (owner_below l m w)) e ∙ ap Some s)
    | inr e ↦ (
        let ne : b ≡ m → ⊥ = λ s. false≢true (sym e ∙ row_test l m w (subst (λ k. IsInRow l k w) s r)) in
        ap (λ x. cond x (Some m) (owner_below l m w)) e ∙ finds m w b (omega (arith, h)) (omega (arith, lt, ne)) r)
  ]

  -- each word has an owner
  covers : (n w : ℕ) → n ≤ length l.outer → w < words_before l.outer n → (b : ℕ) × (b < n) × IsInRow l b w
  covers zero w h lt = absurd (omega (arith, lt))
  covers (suc m) w h lt =
      let f = is.first m (omega (arith, h)) in
      elim (cases_lt w (words_before l.outer m)) [
        | inl s ↦ (let r = covers m w (omega (arith, h)) s in let p = r.1 in (r.0, omega (arith, p), r.2))
        | inr g ↦ (m, omega arith, (omega (arith, f, g), omega (arith, f, lt)))
      ]

  owned_row : (f : Fact) (x : Bit) → StandsAt l f x → IsInRow l f.owner x.word
  owned_row f x s =
      let h = stands_below (outer_of l f.owner) f.part s.1.0 s.1.1.0 in
      let e = s.1.1.1.0 in
      (omega (arith, e), omega (arith, e, h))

  owner_is : (f : Fact) (x : Bit) → StandsAt l f x → owner_below l (length l.outer) x.word ≡ Some f.owner
  owner_is f x s = finds (length l.outer) x.word f.owner (omega arith) s.0 (owned_row f x s)

  -- a bit is of one fact
  one_fact : (f g : Fact) (x : Bit) → StandsAt l f x → StandsAt l g x → f ≡ g
  one_fact f g x s t =
      let o : f.owner ≡ g.owner = some_one f.owner g.owner (sym (owner_is f x s) ∙ owner_is g x t) in
      let n : s.1.0 ≡ t.1.0 =
      (let k : first_of l f.owner ≡ first_of l g.owner = ap (λ (b : ℕ). first_of l b) o in
      let a = s.1.1.1.0 in let b = t.1.1.1.0 in let c = s.1.1.1.1 in let d = t.1.1.1.1 in omega (arith, k, a, b, c, d)) in
      let u : Stands (outer_of l f.owner) g.part s.1.0 =
      subst (λ (b : ℕ). Stands (outer_of l b) g.part s.1.0) (sym o) (subst (λ (k : ℕ). Stands (outer_of l g.owner) g.part k) (sym n) t.1.1.0) in
      let p = same_part (outer_of l f.owner) f.part g.part s.1.0 s.1.1.0 u (one_part (outer_of l f.owner) f.part g.part s.1.0 s.1.0 s.1.1.0 u refl) in
      (λ i. record { owner = o i; part = p i })

  -- each fact of the layout has a bit
  owned_fact : (b : ℕ) (rows : List (List LeafNo)) (f : Fact) → Among f (facts_from b rows)
      → (k : ℕ) × (k < length rows) × (f.owner ≡ b + k) × Among f.part (parts (slice_index_or rows k []))
  owned_fact b [] f a = absurd a
  owned_fact b (outer ∷ rest) f a = elim (among_split f (map (λ y. record { owner = b; part = y }) (parts outer)) (facts_from (suc b) rest) a) [
    | inl h ↦ (let m = of_map (parts outer) h in (zero, omega arith, (let e = m.0 in omega (arith, e)), m.1))
    | inr h ↦ (let r = owned_fact (suc b) rest f h in let p = r.1 in let q = r.2 in (suc r.0, omega (arith, p), omega (arith, q), r.3))
  ]
    where
      of_map : (xs : List Part) → Among f (map (λ y. record { owner = b; part = y }) xs) → (f.owner ≡ b) × Among f.part xs
      of_map [] h = absurd h
      of_map (x ∷ xs) (inl e) = (ap (λ (g : Fact). g.owner) e, inl (ap (λ (g : Fact). g.part) e))
      of_map (x ∷ xs) (inr h) = let r = of_map xs h in (r.0, inr r.1)

  has_bit : (f : Fact) → Among f (facts l) → (x : Bit) × StandsAt l f x
  has_bit f a =
      let r = owned_fact 0 l.outer f a in
      let e : r.0 ≡ f.owner = (let q = r.2 in omega (arith, q)) in
      let s = listed_stands (outer_of l f.owner) f.part (subst (λ (k : ℕ). Among f.part (parts (outer_of l k))) e r.3) in
      (record { word = first_of l f.owner + s.0 / 64; place = s.0 % 64 }, (subst (λ (k : ℕ). k < length l.outer) e r.1, (s.0, (s.1, (refl, refl)))))

  listed_bit : (w n k : ℕ) → k < n → Among {A = Bit} (record { word = w; place = k }) (bits_of w n)
  listed_bit w zero k h = absurd (omega (arith, h))
  listed_bit w (suc n) k h = elim (cases_eq k n) [
    | inl e ↦ inl (ap (λ (m : ℕ). let x : Bit = record { word = w; place = m } in x) e)
    | inr ne ↦ inr (listed_bit w n k (omega (arith, h, ne)))
  ]

  listed_word : (n : ℕ) (x : Bit) → x.word < n → x.place < 64 → Among x (bits_below n)
  listed_word zero x h p = absurd (omega (arith, h))
  listed_word (suc n) x h p = elim (cases_eq x.word n) [
    | inl e ↦ among_left x (bits_of n 64) (bits_below n) (subst (λ (w : ℕ). Among x (bits_of w 64)) e (listed_bit x.word 64 x.place p))
    | inr ne ↦ among_right x (bits_of n 64) (bits_below n) (listed_word n x (omega (arith, h, ne)) p)
  ]

  of_word : (w n : ℕ) (x : Bit) → Among x (bits_of w n) → x.word ≡ w
  of_word w zero x a = absurd a
  of_word w (suc n) x (inl e) = ap (λ (y : Bit). y.word) e
  of_word w (suc n) x (inr a) = of_word w n x a

  below_word : (n : ℕ) (x : Bit) → Among x (bits_below n) → x.word < n
  below_word zero x a = absurd a
  below_word (suc n) x a = elim (among_split x (bits_of n 64) (bits_below n) a) [
    | inl h ↦ (let e = of_word n 64 x h in omega (arith, e))
    | inr h ↦ (let r = below_word n x h in omega (arith, r))
  ]

  module _ (calls : ℕ → ℕ → Bool) (F : (Fact → Type 0) → Fact → Type 0) (listed : IsListed (facts l) F)
      (sees : SeesCallees (λ (f : Fact). f.owner) (λ a b. IsTrue (calls a b)) F) (finite : IsFinite F)
      (callers : (a b : ℕ) → IsTrue (calls a b) → a < length l.outer) where
    grows : Grows F
    grows R S f h e = sees R S f (λ g _. h g) e

    -- the facts whose bits are in a set
    abbrev Known : (Bit → Type 0) → Fact → Type 0
    Known R g = (y : Bit) × (StandsAt l g y × R y)

    at_listed : IsListed (bits_below l.words) (at_bits l F)
    at_listed R x e =
        let r = owned_row e.0 x e.1.0 in
        let w = row_within l is e.0.owner e.1.0.0 in
        let q = e.1.0.1.1.1.1 in
        let below = r.1 in
        listed_word l.words x (omega (arith, below, w)) (omega (arith, q))

    gathered : (R : Bit → Type 0) (few : List Fact) → ((g : Fact) → Among g few → Known R g)
        → (bits : List Bit) × ((y : Bit) → Among y bits → R y) × ((g : Fact) → Among g few → Known (λ y. Among y bits) g)
    gathered R [] h = ([], (λ y a. absurd a), (λ g a. absurd a))
    gathered R (f ∷ few) h =
        let k = h f (inl refl) in
        let r = gathered R few (λ g a. h g (inr a)) in (
          k.0 ∷ r.0,
          (λ y a. elim a [ inl e ↦ subst R (sym e) k.1.1 | inr b ↦ r.1 y b ]),
          (λ g a. elim a [
            | inl e ↦ subst (λ (c : Fact). Known (λ y. Among y (k.0 ∷ r.0)) c) (sym e) (k.0, (k.1.0, inl refl))
            | inr b ↦ (let m = r.2 g b in (m.0, (m.1.0, inr m.1.1)))
          ]),
        )

    pub placed_system : IsSystem (placed l calls F)
    placed_system = record {
      sees = λ R S x b o h e.
          (let same : e.0.owner ≡ b = some_one e.0.owner b (sym (owner_is e.0 x e.1.0) ∙ o) in (
            e.0,
            (
              e.1.0,
              sees (Known R) (Known S) e.0 (λ g c k. (
                k.0,
                (
                  k.1.0,
                  h k.0
                      (subst (λ p. IsTrue (owned_by (λ d. calls b d) p)) (sym (owner_is g k.0 k.1.0)) (subst (λ a. IsTrue (calls a g.owner)) same c)) k.1.1,
                ),
              )) e.1.1,
            ),
          ));
      listed = at_listed;
      finite = λ R x e.
          (let s = finite (Known R) e.0 e.1.1 in
          let r = gathered R s.0 s.1 in
          (r.0, r.1, (e.0, (e.1.0, grows (λ g. Among g s.0) (Known (λ y. Among y r.0)) e.0 r.2 s.2))));
      has_owner = λ x a.
          (let w = is.words in
          let h = below_word l.words x a in
          let c = covers (length l.outer) x.word (omega arith) (omega (arith, h, w)) in
          (c.0, finds (length l.outer) x.word c.0 (omega arith) c.1 c.2));
      has_words = λ w b e.
          (let r = found l (length l.outer) w b e in
          let h = row_within l is b r.0 in
          let below = r.1.1 in
          (omega (arith, below, h), r.0));
      has_callers = callers;
    }

    to_facts : (n : ℕ) (x : Bit) → applied (at_bits l F) n x → (f : Fact) × (StandsAt l f x × applied F n f)
    to_facts zero x a = absurd a
    to_facts (suc n) x a = (
      a.0,
      (
        a.1.0,
        grows (Known (applied (at_bits l F) n)) (applied F n) a.0
            (λ g k. (let r = to_facts n k.0 k.1.1 in subst (λ (h : Fact). applied F n h) (one_fact r.0 g k.0 r.1.0 k.1.0) r.1.1)) a.1.1,
      ),
    )

    to_bits : (n : ℕ) (f : Fact) (x : Bit) → StandsAt l f x → applied F n f → applied (at_bits l F) n x
    to_bits zero f x s a = absurd a
    to_bits (suc n) f x s a = (
      f,
      (
        s,
        grows (λ g. Among g (facts l) × applied F n g) (Known (applied (at_bits l F) n)) f
            (λ g h. (let b = has_bit g h.0 in (b.0, (b.1, to_bits n g b.0 b.1 h.1)))) (grows (applied F n) (λ g. Among g (facts l) × applied F n g) f
            (λ g h. (among n g h, h)) a),
      ),
    )
      where
        among : (n : ℕ) (g : Fact) → applied F n g → Among g (facts l)
        among zero g h = absurd h
        among (suc n) g h = listed (applied F n) g h

    -- the bits of the least solution are those of the facts of the least solution
    pub least_bits : (f : Fact) (x : Bit) → StandsAt l f x → InLeast (placed l calls F) x ↔ least (facts l) F f
    least_bits f x s = (
      λ a. (let r = to_facts (length (bits_below l.words)) x a in
          subst (λ (g : Fact). least (facts l) F g) (one_fact r.0 f x r.1.0 s)
          (closed.applied_least (facts l) F same_fact listed grows finite (length (bits_below l.words)) r.0 r.1.1)),
      λ a. closed.applied_least (bits_below l.words) (at_bits l F) same_bit at_listed (equation_grows (placed l calls F) placed_system) placed_system.finite
          (length (facts l)) x (to_bits (length (facts l)) f x s a),
    )

pub rows_tell : (rows : Rows) → IsLayout rows.layout → (calls : ℕ → ℕ → Bool) (F : (Fact → Type 0) → Fact → Type 0) (listed : IsListed (facts rows.layout) F)
    → SeesCallees (λ (f : Fact). f.owner) (λ a b. IsTrue (calls a b)) F → IsFinite F → ((a b : ℕ) → IsTrue (calls a b) → a < length rows.layout.outer)
    → IsLeast (placed rows.layout calls F) (words_of rows.words) → (f : Fact) → told rows f ↔ least (facts rows.layout) F f
rows_tell rows is calls F listed sees finite callers is_least f = (there, back)
  where
    there : told rows f → least (facts rows.layout) F f
    there t =
        let x : Bit = record { word = first_of rows.layout f.owner + t.1.0 / 64; place = t.1.0 % 64 } in
        (least_bits rows.layout is calls F listed sees finite callers f x (t.0, (t.1.0, (t.1.1.0, (refl, refl))))).0 ((is_least x).0 ((bit_behind rows.words (first_of rows.layout f.owner) t.1.0).0 t.1.1.1))

    back : least (facts rows.layout) F f → told rows f
    back a =
        let among = listed_least (length (facts rows.layout)) a in
        let x = has_bit rows.layout is f among in
        let set = (is_least x.0).1 ((least_bits rows.layout is calls F listed sees finite callers f x.0 x.1).1 a) in
        let s = x.1.1 in (
          x.1.0,
          (
            s.0,
            (
              s.1.0,
              (bit_behind rows.words (first_of rows.layout f.owner) s.0).1
                  (subst (λ (k : ℕ). IsSet (word rows.words (first_of rows.layout f.owner + s.0 / 64)) k) s.1.1.1
                  (subst (λ (w : ℕ). IsSet (word rows.words w) x.0.place) s.1.1.0 set)),
            ),
          ),
        )
      where
        listed_least : (n : ℕ) → applied F n f → Among f (facts rows.layout)
        listed_least zero h = absurd h
        listed_least (suc n) h = listed (applied F n) f h
