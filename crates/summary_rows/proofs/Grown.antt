-- A layout with one row more.
use Rattle.std.proofs.Common.{◌≡◌, ℕ, zero, suc, ◌+◌, ◌<◌, ◌≤◌, ◌^◌, ◌++◌, inl, inr, List, [], ◌∷◌, None, length, refl, sym, ap, ◌∙◌, subst, arith}
use Rattle.std.specs.Prelude.{slice_get, slice_index_or}
use Rattle.std.proofs.lemmas.Bool.{cases_lt, cases_eq}
use Rattle.std.proofs.lemmas.List.{get_or_append_left, get_or_past, length-append}
use Rattle.std.proofs.lemmas.Option.{none-some, slice_get_past}
use Rattle.std.proofs.Math.Seq.{get_or-append_seam}
use Rattle.spark_base.specs.declared.numbers.LeafNo.{LeafNo}
use Rattle.summary_rows.specs.declared.layout.Layout.{Layout}
use Rattle.summary_rows.specs.Layout.{row_size, IsIncreasing, IsLayout, words_before}

before_append : (outer : List (List LeafNo)) (row : List LeafNo) (b : ℕ) → b ≤ length outer → words_before (outer ++ row ∷ []) b ≡ words_before outer b
before_append outer row zero h = refl
before_append outer row (suc b) h =
    let e : slice_index_or (outer ++ row ∷ []) b [] ≡ slice_index_or outer b [] = get_or_append_left outer (row ∷ []) [] b (omega (arith, h)) in
    let i = before_append outer row b (omega (arith, h)) in
    let s = ap (λ (vs : List LeafNo). row_size (length vs)) e in
    omega (arith, i, s)

no_row : IsIncreasing []
no_row v w i j a b l = absurd (let n : slice_get {X = LeafNo} [] i ≡ None = slice_get_past [] i (omega arith) in none-some (record { 0 = v }) (sym n ∙ a))

last : (outer : List (List LeafNo)) (row : List LeafNo) → slice_index_or (outer ++ row ∷ []) (length outer) [] ≡ row
last outer row = get_or-append_seam outer row [] []

module _ (l : Layout) (is : IsLayout l) (row : List LeafNo) (rises : IsIncreasing row) (room : l.words + row_size (length row) < 2 ^ 32)
    (new : Layout) (outer : new.outer ≡ l.outer ++ row ∷ []) (first : new.first ≡ l.first ++ l.words ∷ []) (words : new.words ≡ l.words + row_size (length row)) where
  count : length new.outer ≡ length l.outer + 1
  count = ap (λ (xs : List (List LeafNo)). length xs) outer ∙ length-append l.outer (row ∷ [])

  counts : length new.first ≡ length l.first + 1
  counts = ap (λ (xs : List ℕ). length xs) first ∙ length-append l.first (l.words ∷ [])

  rising : (b : ℕ) → IsIncreasing (slice_index_or (l.outer ++ row ∷ []) b [])
  rising b = elim (cases_lt b (length l.outer)) [
    | inl lt ↦ subst (λ (vs : List LeafNo). IsIncreasing vs) (sym (get_or_append_left l.outer (row ∷ []) [] b lt)) (is.increasing b)
    | inr ge ↦ (elim (cases_eq b (length l.outer)) [
      | inl e ↦ subst (λ (k : ℕ). IsIncreasing (slice_index_or (l.outer ++ row ∷ []) k [])) (sym e) (subst (λ (vs : List LeafNo). IsIncreasing vs) (sym (last l.outer row)) rises)
      | inr n ↦ (
          let m = length-append l.outer (row ∷ []) in
          let p : length (l.outer ++ row ∷ []) ≤ b = omega (arith, m, ge, n) in
          subst (λ (vs : List LeafNo). IsIncreasing vs) (sym (get_or_past (l.outer ++ row ∷ []) b [] p)) no_row)
    ])
  ]

  firsts : (b : ℕ) → b < length l.outer + 1 → slice_index_or (l.first ++ l.words ∷ []) b 0 ≡ words_before (l.outer ++ row ∷ []) b
  firsts b h =
      let f = is.firsts in
      elim (cases_lt b (length l.outer)) [
        | inl lt ↦ get_or_append_left l.first (l.words ∷ []) 0 b (omega (arith, f, lt)) ∙ is.first b lt ∙ sym (before_append l.outer row b (omega (arith, lt)))
        | inr ge ↦ (
            let e : length l.first ≡ b = omega (arith, f, ge, h) in
            let d : length l.outer ≡ b = omega (arith, ge, h) in
            subst (λ (k : ℕ). slice_index_or (l.first ++ l.words ∷ []) k 0 ≡ l.words) e (get_or-append_seam l.first l.words [] 0)
            ∙ is.words
            ∙ ap (λ (k : ℕ). words_before l.outer k) d
            ∙ sym (before_append l.outer row b (omega (arith, d))))
      ]

  all_words : l.words + row_size (length row) ≡ words_before (l.outer ++ row ∷ []) (suc (length l.outer))
  all_words =
      let i = before_append l.outer row (length l.outer) (omega arith) in
      let s = ap (λ (vs : List LeafNo). row_size (length vs)) (last l.outer row) in
      let w = is.words in
      omega (arith, i, s, w)

  one_more : suc (length l.outer) ≡ length new.outer
  one_more = let m = count in omega (arith, m)

  pub grown : IsLayout new
  grown = record {
    increasing = λ b. subst (λ (xs : List (List LeafNo)). IsIncreasing (slice_index_or xs b [])) (sym outer) (rising b);
    firsts = (let f = is.firsts in let m = count in let n = counts in omega (arith, f, m, n));
    first = λ b h. ap (λ (xs : List ℕ). slice_index_or xs b 0) first
        ∙ firsts b (let m = count in omega (arith, m, h))
        ∙ ap (λ (xs : List (List LeafNo)). words_before xs b) (sym outer);
    words = words ∙ all_words
        ∙ ap (λ (k : ℕ). words_before (l.outer ++ row ∷ []) k) one_more
        ∙ ap (λ (xs : List (List LeafNo)). words_before xs (length new.outer)) (sym outer);
    fits = omega (arith, words, room);
  }
