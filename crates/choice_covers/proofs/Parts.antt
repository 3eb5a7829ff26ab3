-- What parts cover.
use Rattle.std.proofs.Common.{◌≡◌, Bool, true, false, ◌||◌, List, [], ◌∷◌, ℤ, pos, ◌+ℤ◌, ◌-ℤ◌, ◌≤ℤ◌, ◌<ℤ◌, refl, sym, ap, ◌∙◌, arith}
use Rattle.std.specs.Int.{int_max, int_min}
use Rattle.std.specs.List.{list_any}
use Rattle.std.proofs.lemmas.Int.{ints, by_lt_z}
use Rattle.choice_covers.specs.Parts.{AreFilled, behind_part, do_meet, has_gap, is_covered, is_left, is_left_behind, meets}

false_true : false ≡ true → ⊥
false_true h = grind (arith, h)

pub clash : {P : Type 0} (b : Bool) → b ≡ true → b ≡ false → P
clash true t f = elim (false_true (sym f)) [ ]
clash false t f = elim (false_true t) [ ]

pub by_bool : {P : Type 0} (b : Bool) → (b ≡ true → P) → (b ≡ false → P) → P
by_bool true t f = t refl
by_bool false t f = f refl

pub or_left : (a b : Bool) → a ≡ true → (a || b) ≡ true
or_left true b h = refl
or_left false b h = elim (false_true h) [ ]

pub or_right : (a b : Bool) → b ≡ true → (a || b) ≡ true
or_right true b h = refl
or_right false b h = h

pub or_elim : {P : Type 0} (a b : Bool) → (a || b) ≡ true → (a ≡ true → P) → (b ≡ true → P) → P
or_elim true b h l r = l refl
or_elim false b h l r = r h

pub meets_from : (low high a b : ℤ) → a ≤ℤ high → low ≤ℤ b → meets low high (a, b) ≡ true
meets_from low high a b h k = grind (arith, ints)

pub meets_begins : (low high : ℤ) (p : ℤ × ℤ) → meets low high p ≡ true → p.0 ≤ℤ high
meets_begins low high p h = grind (arith, ints)

pub meets_ends : (low high : ℤ) (p : ℤ × ℤ) → meets low high p ≡ true → low ≤ℤ p.1
meets_ends low high p h = grind (arith, ints)

-- two parts that meet, as one
pub merged : (least greatest first last n : ℤ) → least ≤ℤ greatest → first ≤ℤ last → first ≤ℤ greatest → least ≤ℤ last
    → meets n n (int_min least first, int_max greatest last) ≡ (meets n n (least, greatest) || meets n n (first, last))
merged least greatest first last n a b c d = grind (arith, ints)

-- what has a value between two bounds meets what is between them
pub covered_meets : (ps : List (ℤ × ℤ)) (n low high : ℤ) → low ≤ℤ n → n ≤ℤ high → is_covered ps n ≡ true → do_meet ps low high ≡ true
covered_meets [] n low high a b h = h
covered_meets (p ∷ ps) n low high a b h = or_elim (meets n n p) (is_covered ps n) h
    (λ k. let l = meets_begins n n p k in let r = meets_ends n n p k in
    or_left (meets low high p) (do_meet ps low high) (meets_from low high p.0 p.1 (omega (arith, ints, l, b)) (omega (arith, ints, r, a))))
    (λ k. or_right (meets low high p) (do_meet ps low high) (covered_meets ps n low high a b k))

-- parts that meet what is between two bounds have a value there, which others that cover as much have too
pub others_meet : (ps qs : List (ℤ × ℤ)) (low high : ℤ) → AreFilled ps → ((n : ℤ) → is_covered ps n ≡ true → is_covered qs n ≡ true) → low ≤ℤ high
    → do_meet ps low high ≡ true → do_meet qs low high ≡ true
others_meet [] qs low high filled same o h = elim (false_true h) [ ]
others_meet (p ∷ ps) qs low high filled same o h = or_elim (meets low high p) (do_meet ps low high) h
    (λ k. let l = meets_begins low high p k in let r = meets_ends low high p k in let f = filled.0 in
    by_lt_z low p.0
    (λ m. covered_meets qs p.0 low high (omega (arith, ints, m)) l
    (same p.0 (or_left (meets p.0 p.0 p) (is_covered ps p.0) (meets_from p.0 p.0 p.0 p.1 (omega (arith, ints)) f))))
    (λ m. covered_meets qs low low high (omega (arith, ints)) o
    (same low (or_left (meets low low p) (is_covered ps low) (meets_from low low p.0 p.1 m r)))))
    (λ k. others_meet ps qs low high filled.1 (λ n c. same n (or_right (meets n n p) (is_covered ps n) c)) o k)

left_at : (ps : List (ℤ × ℤ)) (low high n : ℤ) → low ≤ℤ n → n ≤ℤ high → is_covered ps n ≡ false → is_left ps low high n ≡ true
left_at ps low high n a b h = grind (arith, ints)

-- a value that is left behind one that is covered is left behind a part
left_behind : (all ps : List (ℤ × ℤ)) (low high before next : ℤ) → next ≡ before +ℤ pos 1 → low ≤ℤ next → next ≤ℤ high → is_covered all next ≡ false
    → is_covered ps before ≡ true → is_covered ps next ≡ false → list_any (is_left_behind all low high) ps ≡ true
left_behind all [] low high before next e a b free h g = h
left_behind all (p ∷ ps) low high before next e a b free h g = or_elim (meets before before p) (is_covered ps before) h
    (λ k. let l = meets_begins before before p k in let r = meets_ends before before p k in
    let s : behind_part p ≡ next = by_bool (meets next next p) (λ m. clash (is_covered (p ∷ ps) next) (or_left (meets next next p) (is_covered ps next) m) g) (λ m. grind (arith, ints, l, r, m, e)) in
    or_left (is_left_behind all low high p) (list_any (is_left_behind all low high) ps) (ap (is_left all low high) s ∙ left_at all low high next a b free))
    (λ k. or_right (is_left_behind all low high p) (list_any (is_left_behind all low high) ps)
    (left_behind all ps low high before next e a b free k
    (by_bool (is_covered ps next) (λ m. clash (is_covered (p ∷ ps) next) (or_right (meets next next p) (is_covered ps next) m) g) (λ m. m))))

-- the first value that is left
pub gap_at : (ps : List (ℤ × ℤ)) (low high next : ℤ) → low ≤ℤ next → next ≤ℤ high → is_covered ps next ≡ false
    → ((n : ℤ) → low ≤ℤ n → n <ℤ next → is_covered ps n ≡ true) → has_gap ps low high ≡ true
gap_at ps low high next a b free all = by_lt_z low next
    (λ l. or_right (is_left ps low high low) (list_any (is_left_behind ps low high) ps)
    (left_behind ps ps low high (next -ℤ pos 1) next (omega (arith, ints)) a b free (all (next -ℤ pos 1) (omega (arith, ints, l)) (omega (arith, ints))) free))
    (λ l. let e : next ≡ low = omega (arith, ints, a, l) in
    or_left (is_left ps low high low) (list_any (is_left_behind ps low high) ps) (ap (is_left ps low high) (sym e) ∙ left_at ps low high next a b free))

none_left : (ps qs : List (ℤ × ℤ)) (low high : ℤ) → ((n : ℤ) → is_left ps low high n ≡ false) → list_any (is_left_behind ps low high) qs ≡ false
none_left ps [] low high h = refl
none_left ps (q ∷ qs) low high h = ap (λ b. b || list_any (is_left_behind ps low high) qs) (h (behind_part q)) ∙ none_left ps qs low high h

pub no_gap : (ps : List (ℤ × ℤ)) (low high : ℤ) → ((n : ℤ) → low ≤ℤ n → n ≤ℤ high → is_covered ps n ≡ true) → has_gap ps low high ≡ false
no_gap ps low high all =
    let none : (n : ℤ) → is_left ps low high n ≡ false = λ n. by_bool (is_covered ps n) (λ k. grind (arith, k))
    (λ k. by_lt_z n low (λ l. grind (arith, ints)) (λ l. by_lt_z high n (λ m. grind (arith, ints)) (λ m. clash (is_covered ps n) (all n l m) k))) in
    ap (λ b. b || list_any (is_left_behind ps low high) ps) (none low) ∙ none_left ps ps low high none
