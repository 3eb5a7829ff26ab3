-- Sizes of rows, and where they are laid out.
use Rattle.std.proofs.Common.{◌≡◌, ℕ, zero, suc, ◌+◌, ◌≤◌, List, [], ◌∷◌, ◌++◌, length, length-append, get_or, refl, inl, inr, arith, ap, subst}
use Rattle.std.proofs.Math.Seq.{get_or-append_seam}
use Rattle.std.proofs.lemmas.Bool.{cases_eq}
use Rattle.std.proofs.lemmas.List.{get_or_append_left}
use Rattle.spark_base.specs.declared.numbers.LeafNo.{LeafNo}
use Rattle.std.proofs.lemmas.Nat.{mul-le}
use Rattle.summary_rows.specs.declared.layout.Layout.{Layout}
use Rattle.summary_rows.specs.Layout.{IsLayout, IsIncreasing, row_size, words_before}
use Rattle.row_leaves.specs.Leaves.{most_words}

pub size_fits : (r : ℕ) → r ≤ 4096 → row_size r ≤ 262337
size_fits r h =
    let square = mul-le r r 4096 4096 h h in
    omega (arith, h, square)

words_of_first : (xs ys : List (List LeafNo)) (n : ℕ) → n ≤ length xs → words_before (xs ++ ys) n ≡ words_before xs n
words_of_first xs ys zero l = refl
words_of_first xs ys (suc n) l =
    let before = words_of_first xs ys n (omega (arith, l)) in
    let same : get_or (xs ++ ys) n [] ≡ get_or xs n [] = get_or_append_left xs ys [] n (omega (arith, l)) in
    let size : row_size (length (get_or (xs ++ ys) n [])) ≡ row_size (length (get_or xs n [])) = ap (λ (z : List LeafNo). row_size (length z)) same in
    omega (arith, before, size)

words_up : (xs : List (List LeafNo)) (n m : ℕ) → n ≤ m → words_before xs n ≤ words_before xs m
words_up xs n zero l = let e : n ≡ 0 = omega (arith, l) in rw e (omega arith)
words_up xs n (suc m) l = elim (cases_eq n (suc m)) [
  | inl e ↦ rw e (omega arith)
  | inr k ↦ (let h = words_up xs n m (omega (arith, l, k)) in omega (arith, h))
]

-- of one row more
pub next_row : (l : Layout) (row : List LeafNo) (rest all : List (List LeafNo)) → IsLayout l → l.outer ++ row ∷ rest ≡ all
    → ((b : ℕ) → IsIncreasing (get_or all b [])) → words_before all (length all) ≤ most_words → IsIncreasing row × (l.words + row_size (length row) ≤ most_words)
next_row l row rest all is e up room =
    let n = length l.outer in
    let here : get_or all n [] ≡ row = subst (λ (xs : List (List LeafNo)). get_or xs n [] ≡ row) e (get_or-append_seam l.outer row rest []) in
    let first : words_before all n ≡ words_before l.outer n = subst (λ (xs : List (List LeafNo)). words_before xs n ≡ words_before l.outer n) e
    (words_of_first l.outer (row ∷ rest) n (omega arith)) in
    let size : length (l.outer ++ row ∷ rest) ≡ n + suc (length rest) = length-append l.outer (row ∷ rest) in
    let long = ap (λ (xs : List (List LeafNo)). length xs) e in
    let most = words_up all (suc n) (length all) (omega (arith, size, long)) in
    let own : row_size (length (get_or all n [])) ≡ row_size (length row) = ap (λ (z : List LeafNo). row_size (length z)) here in
    let words = is.words in
    (subst (λ (z : List LeafNo). IsIncreasing z) here (up n), omega (arith, first, most, own, words, room))
