-- Words that are joined after others.
use Rattle.std.proofs.Common.{◌≡◌, ◌≢◌, ℕ, zero, suc, ◌+◌, ◌-◌, ◌^◌, ◌<◌, ◌≤◌, ◌⊎◌, ◌∙◌, inl, inr, sym, subst, ap, arith, List, [], ◌∷◌, length, map, get_or, bit_and, bit_or}
use Rattle.std.specs.Prelude.{slice_set}
use Rattle.std.specs.Simd.Lanes.{chunk, put_chunk, zip2, fold_l}
use Rattle.std.specs.Int.{bit_not, w64}
use Rattle.std.proofs.lemmas.Bool.{cases_lt}
use Rattle.std.proofs.lemmas.List.{length-map, get_or-set_same, get_or-set_other, get_or-map, set-get_or, ext_get_or}
use Rattle.std.proofs.lemmas.Nat.{le_or_l, le_or_r}
use Rattle.std.proofs.lemmas.Simd.{length-chunk, get_or-chunk, length-zip2, get_or-zip2, length-put_chunk, get_or-put_chunk_below, get_or-put_chunk_at, get_or-put_chunk_above}
use Rattle.flow_bits.specs.Words.{IsEach, IsJoined, word}
use Rattle.flow_bits.proofs.Bits.{or_not_zero, or_same}

pub each_more : (f : ℕ → ℕ → ℕ) (at start n c : ℕ) (old from mid new : List ℕ) → IsEach f at start n old from mid → IsEach f (at + n) (start + n) c mid from new
    → IsEach f at start (n + c) old from new
each_more f at start n c old from mid new p q = record { within = within; others = others }
  where
    within : (k : ℕ) → k < n + c → word new (at + k) ≡ f (word old (at + k)) (word from (start + k))
    within k l = elim (cases_lt k n) [
      | inl m ↦ (let a : at + k < at + n = omega (arith, m) in q.others (at + k) (inl a) ∙ p.within k m)
      | inr g ↦ (
          let d : k - n < c = omega (arith, l, g) in
          let i : at + n + (k - n) ≡ at + k = omega (arith, g) in
          let j : start + n + (k - n) ≡ start + k = omega (arith, g) in
          let a : at + n ≤ at + k = omega (arith, g) in
          let e : word mid (at + k) ≡ word old (at + k) = p.others (at + k) (inr a) in
          ap (word new) (sym i) ∙ (q.within (k - n) d ∙ (ap (λ (u : ℕ). f (word mid u) (word from (start + n + (k - n)))) i
          ∙ (ap (λ (u : ℕ). f (word mid (at + k)) (word from u)) j ∙ ap (λ (u : ℕ). f u (word from (start + k))) e))))
    ]

    others : (w : ℕ) → (w < at) ⊎ (at + (n + c) ≤ w) → word new w ≡ word old w
    others w s = elim s [
      | inl l ↦ (let a : w < at + n = omega (arith, l) in q.others w (inl a) ∙ p.others w (inl l))
      | inr g ↦ (let a : at + n + c ≤ w = omega (arith, g) in let b : at + n ≤ w = omega (arith, g) in q.others w (inr a) ∙ p.others w (inr b))
    ]

pub joins_more : (at start n c m r : ℕ) (old from mid new : List ℕ) → IsJoined at start n old from mid m → IsJoined (at + n) (start + n) c mid from new r
    → IsJoined at start (n + c) old from new (bit_or m r)
joins_more at start n c m r old from mid new p q = record {
  each = each_more bit_or at start n c old from mid new p.each q.each;
  grew = λ z. elim (or_not_zero m r z) [
    | inl a ↦ (let g = p.grew a in let l : g.0 < n + c = omega (arith, g.1) in (g.0, l, g.2))
    | inr b ↦ (
        let g = q.grew b in
        let l : n + g.0 < n + c = omega (arith, g.1) in
        let i : at + n + g.0 ≡ at + (n + g.0) = omega arith in
        let j : start + n + g.0 ≡ start + (n + g.0) = omega arith in
        let a : at + n ≤ at + (n + g.0) = omega arith in
        let e : word mid (at + (n + g.0)) ≡ word old (at + (n + g.0)) = p.each.others (at + (n + g.0)) (inr a) in
        let k = subst (λ (u : ℕ). bit_and (word from (start + n + g.0)) (bit_not w64 (word mid u)) ≢ 0) i g.2 in
        let h = subst (λ (u : ℕ). bit_and (word from u) (bit_not w64 (word mid (at + (n + g.0)))) ≢ 0) j k in
        (n + g.0, l, subst (λ (u : ℕ). bit_and (word from (start + (n + g.0))) (bit_not w64 u) ≢ 0) e h))
  ];
  same = λ e.
      let a : m ≡ 0 = omega (arith, e, le_or_l m r) in
      let b : r ≡ 0 = omega (arith, e, le_or_r m r) in
      q.same b ∙ p.same a;
}

pub joins_none : (at start : ℕ) (old from : List ℕ) → IsJoined at start 0 old from old 0
joins_none at start old from = record {
  each = record { within = λ k l. absurd (omega arith); others = λ w s. (λ i. word old w) };
  grew = λ z. absurd (z (λ i. 0));
  same = λ e. (λ i. old);
}

-- one word
pub joins_one : (at start : ℕ) (old from : List ℕ) → at < length old → word old at < 2 ^ 64 → word from start < 2 ^ 64
    → IsJoined at start 1 old from (slice_set old at (bit_or (word old at) (word from start))) (bit_and (word from start) (bit_not w64 (word old at)))
joins_one at start old from l fo ff = record {
  each = record {
    within = λ k m.
        let z : at ≡ at + k = omega (arith, m) in
        let y : start ≡ start + k = omega (arith, m) in
        let new : word (slice_set old at (bit_or (word old at) (word from start))) at ≡ bit_or (word old at) (word from start)
        = get_or-set_same old at (bit_or (word old at) (word from start)) 0 l in
        subst (λ (u : ℕ). word (slice_set old at (bit_or (word old at) (word from start))) (at + k) ≡ bit_or (word old (at + k)) (word from u)) y
        (subst (λ (u : ℕ). word (slice_set old at (bit_or (word old at) (word from start))) u ≡ bit_or (word old u) (word from start)) z new);
    others = λ w s.
        let n : w ≢ at = (λ e. elim s [ inl a ↦ absurd (omega (arith, a, e)) | inr b ↦ absurd (omega (arith, b, e)) ]) in
        get_or-set_other old at w (bit_or (word old at) (word from start)) 0 n;
  };
  grew = λ n.
      let o : 0 < 1 = omega arith in
      let z : at ≡ at + 0 = omega arith in
      let y : start ≡ start + 0 = omega arith in
      let m = subst (λ (u : ℕ). bit_and (word from start) (bit_not w64 (word old u)) ≢ 0) z n in
      (0, o, subst (λ (u : ℕ). bit_and (word from u) (bit_not w64 (word old (at + 0))) ≢ 0) y m);
  same = λ e. ap (λ (u : ℕ). slice_set old at u) (or_same (word old at) (word from start) fo ff e) ∙ set-get_or old at 0;
}

-- the lanes of a vector, of which one has a bit
some_lane : (a : ℕ) (xs : List ℕ) → fold_l bit_or a xs ≢ 0 → (a ≢ 0) ⊎ ((k : ℕ) × (k < length xs) × (get_or xs k 0 ≢ 0))
some_lane a [] n = inl n
some_lane a (x ∷ xs) n = elim (some_lane (bit_or a x) xs n) [
  | inl m ↦ (elim (or_not_zero a x m) [ inl p ↦ inl p | inr q ↦ (let l : 0 < length (x ∷ xs) = omega arith in inr (0, l, q)) ])
  | inr s ↦ (let l : suc s.0 < length (x ∷ xs) = omega (arith, s.1) in inr (suc s.0, l, s.2))
]

no_more : (x : ℕ) (xs : List ℕ) → x ≡ 0 → ((k : ℕ) → k < length xs → get_or xs k 0 ≡ 0) → (k : ℕ) → k < length (x ∷ xs) → get_or (x ∷ xs) k 0 ≡ 0
no_more x xs e h zero l = e
no_more x xs e h (suc k) l = h k (omega (arith, l))

-- none of which has one
no_lane : (a : ℕ) (xs : List ℕ) → fold_l bit_or a xs ≡ 0 → (a ≡ 0) × ((k : ℕ) → k < length xs → get_or xs k 0 ≡ 0)
no_lane a [] e = (e, λ k l. absurd (omega (arith, l)))
no_lane a (x ∷ xs) e =
    let rest = no_lane (bit_or a x) xs e in
    let first : a ≡ 0 = omega (arith, rest.0, le_or_l a x) in
    let here : x ≡ 0 = omega (arith, rest.0, le_or_r a x) in
    (first, no_more x xs here rest.1)

module _ (at start : ℕ) (old from : List ℕ) (room : at + 4 ≤ length old) (room_from : start + 4 ≤ length from) where
  abbrev theirs : List ℕ
  theirs = chunk start 4 from

  abbrev own : List ℕ
  own = chunk at 4 old

  abbrev both : List ℕ
  both = zip2 bit_or own theirs

  abbrev came : List ℕ
  came = zip2 bit_and theirs (map (bit_not w64) own)

  long_own : length own ≡ 4
  long_own = length-chunk at 4 old room

  long_theirs : length theirs ≡ 4
  long_theirs = length-chunk start 4 from room_from

  long_both : length both ≡ 4
  long_both = let a = long_own in let b = long_theirs in length-zip2 bit_or own theirs (omega (arith, a, b)) ∙ a

  long_came : length came ≡ 4
  long_came =
      let a = long_own in
      let b = long_theirs in
      let m = length-map own (bit_not w64) in
      length-zip2 bit_and theirs (map (bit_not w64) own) (omega (arith, a, b, m)) ∙ b

  both_at : (k : ℕ) → k < 4 → get_or both k 0 ≡ bit_or (word old (at + k)) (word from (start + k))
  both_at k l =
      let a = long_own in
      let b = long_theirs in
      get_or-zip2 bit_or own theirs k 0 0 0 (omega (arith, l, a)) (omega (arith, l, b))
      ∙ (ap (λ (u : ℕ). bit_or u (get_or theirs k 0)) (get_or-chunk at 4 old k 0 l) ∙ ap (λ (u : ℕ). bit_or (word old (at + k)) u) (get_or-chunk start 4 from k 0 l))

  came_at : (k : ℕ) → k < 4 → get_or came k 0 ≡ bit_and (word from (start + k)) (bit_not w64 (word old (at + k)))
  came_at k l =
      let a = long_own in
      let b = long_theirs in
      let la : k < length own = omega (arith, l, a) in
      let lb : k < length theirs = omega (arith, l, b) in
      let m = length-map own (bit_not w64) in
      get_or-zip2 bit_and theirs (map (bit_not w64) own) k 0 0 0 lb (omega (arith, la, m))
      ∙ (ap (λ (u : ℕ). bit_and u (get_or (map (bit_not w64) own) k 0)) (get_or-chunk start 4 from k 0 l)
      ∙ ap (λ (u : ℕ). bit_and (word from (start + k)) u) (get_or-map (bit_not w64) own k 0 0 la ∙ ap (bit_not w64) (get_or-chunk at 4 old k 0 l)))

  each_four : IsEach bit_or at start 4 old from (put_chunk at old both)
  each_four = record {
    within = λ k l. let n = long_both in get_or-put_chunk_at at old both k 0 (omega (arith, l, n)) (omega (arith, n, room)) ∙ both_at k l;
    others = λ w s. elim s [
      | inl a ↦ get_or-put_chunk_below at old both w 0 a
      | inr b ↦ (let n = long_both in get_or-put_chunk_above at old both w 0 (omega (arith, n, b)))
    ];
  }

  grew_four : fold_l bit_or 0 came ≢ 0 → (k : ℕ) × (k < 4) × (bit_and (word from (start + k)) (bit_not w64 (word old (at + k))) ≢ 0)
  grew_four n = elim (some_lane 0 came n) [
    | inl z ↦ absurd (z (λ i. 0))
    | inr s ↦ (
        let m = long_came in
        let l : s.0 < 4 = omega (arith, s.1, m) in
        (s.0, l, λ e. s.2 (came_at s.0 l ∙ e)))
  ]

  same_four : ((w : ℕ) → word old w < 2 ^ 64) → ((w : ℕ) → word from w < 2 ^ 64) → fold_l bit_or 0 came ≡ 0 → put_chunk at old both ≡ old
  same_four fo ff e = ext_get_or 0 (put_chunk at old both) old (length-put_chunk at old both) (λ w l. same w)
    where
      lanes : (k : ℕ) → k < 4 → word (put_chunk at old both) (at + k) ≡ word old (at + k)
      lanes k l =
          let m = long_came in
          let z = sym (came_at k l) ∙ (no_lane 0 came e).1 k (omega (arith, l, m)) in
          each_four.within k l ∙ or_same (word old (at + k)) (word from (start + k)) (fo (at + k)) (ff (start + k)) z

      same : (w : ℕ) → word (put_chunk at old both) w ≡ word old w
      same w = elim (cases_lt w at) [
        | inl a ↦ each_four.others w (inl a)
        | inr g ↦ (elim (cases_lt w (at + 4)) [
          | inr b ↦ each_four.others w (inr b)
          | inl b ↦ (
              let l : w - at < 4 = omega (arith, g, b) in
              let i : at + (w - at) ≡ w = omega (arith, g) in
              subst (λ (u : ℕ). word (put_chunk at old both) u ≡ word old u) i (lanes (w - at) l))
        ])
      ]

  pub joins_four : ((w : ℕ) → word old w < 2 ^ 64) → ((w : ℕ) → word from w < 2 ^ 64) → IsJoined at start 4 old from (put_chunk at old both) (fold_l bit_or 0 came)
  joins_four fo ff = record { each = each_four; grew = grew_four; same = same_four fo ff }
