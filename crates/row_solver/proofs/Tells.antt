-- The test whether rows tell a fact.
use Rattle.std.proofs.Common.{◌≡◌, ℕ, zero, suc, ◌+◌, ◌*◌, ◌/◌, ◌%◌, ◌↔◌, Bool, true, ◌&&◌, List, [], ◌∷◌, Some, None, length, refl, inl, inr, arith, sym, ap, subst, ◌∙◌}
use Rattle.std.specs.Prelude.{nat_eq, nat_lt, slice_get}
use Rattle.std.specs.Int.{bit_at}
use Rattle.std.proofs.lemmas.Bool.{false≢true, and_parts, and_from, or_cases, or_left, or_right, lt-ltb, ltb-true, eq-eqb, eqb-true}
use Rattle.std.proofs.lemmas.Option.{none-some, slice_get_past}
use Rattle.spark_base.specs.declared.numbers.LeafNo.{LeafNo}
use Rattle.flow_bits.specs.Words.{word}
use Rattle.summary_rows.specs.declared.rows.Rows.{Rows}
use Rattle.summary_rows.specs.Bits.{Bit}
use Rattle.summary_rows.specs.Facts.{Part, Returning, Reading, Writing, Keeping, Depending, Fact}
use Rattle.summary_rows.specs.Layout.{reads_from, writes_from, keeps_from, depends_from, IsAt, Stands, outer_of, first_of, told}
use Rattle.row_solver.specs.Solving.{at_some, at_bit, is_set, tells}

-- some place of the leaf passes
abbrev PassesAt : List LeafNo → ℕ → (ℕ → Bool) → Type 0
PassesAt outer v test = (i : ℕ) × (IsAt outer v i × (test i ≡ true))

some_is : (outer : List LeafNo) (v : ℕ) (test : ℕ → Bool) (i : ℕ) → IsAt outer v i → test i ≡ true → at_some outer v test ≡ true
some_is [] v test i a t = absurd (let n : slice_get {X = LeafNo} [] i ≡ None = slice_get_past [] i (omega arith) in none-some (record { 0 = v }) (sym n ∙ a))
some_is (x ∷ xs) v test zero a t =
    let y : LeafNo = record { 0 = v } in
    let q : x ≡ y = cc in
    or_left (nat_eq x.0 v && test 0) (at_some xs v (λ i. test (suc i))) (and_from (nat_eq x.0 v) (test 0) (eq-eqb x.0 v (ap (λ (l : LeafNo). l.0) q)) t)
some_is (x ∷ xs) v test (suc i) a t =
    or_right (nat_eq x.0 v && test 0) (at_some xs v (λ i. test (suc i))) (some_is xs v (λ i. test (suc i)) i a t)

is_some : (outer : List LeafNo) (v : ℕ) (test : ℕ → Bool) → at_some outer v test ≡ true → PassesAt outer v test
is_some [] v test e = absurd (false≢true e)
is_some (x ∷ xs) v test e = elim (or_cases (nat_eq x.0 v && test 0) (at_some xs v (λ i. test (suc i))) e) [
  | inl h ↦ (
      let p = and_parts (nat_eq x.0 v) (test 0) h in
      let d = eqb-true x.0 v p.0 in
      (0, (ap (λ (k : ℕ). let y : LeafNo = record { 0 = k } in Some y) d, p.1)))
  | inr h ↦ (let r = is_some xs v (λ i. test (suc i)) h in (suc r.0, r.1))
]

-- the bit of the fact passes
abbrev PassesBit : List LeafNo → Part → (ℕ → Bool) → Type 0
PassesBit outer x test = (n : ℕ) × (Stands outer x n × (test n ≡ true))

at : (test : ℕ → Bool) (n m : ℕ) → n ≡ m → test n ≡ true → test m ≡ true
at test n m e h = subst (λ k. test k ≡ true) e h

bit_is : (outer : List LeafNo) (x : Part) (test : ℕ → Bool) (n : ℕ) → Stands outer x n → test n ≡ true → at_bit outer x test ≡ true
bit_is outer Returning test n s t = at test n 0 s t
bit_is outer (Reading v) test n s t =
    some_is outer v (λ i. test (reads_from (length outer) + i)) s.0 s.1.0 (at test n (reads_from (length outer) + s.0) s.1.1 t)
bit_is outer (Writing v) test n s t =
    some_is outer v (λ i. test (writes_from (length outer) + i)) s.0 s.1.0 (at test n (writes_from (length outer) + s.0) s.1.1 t)
bit_is outer (Keeping v) test n s t =
    some_is outer v (λ i. test (keeps_from (length outer) + i)) s.0 s.1.0 (at test n (keeps_from (length outer) + s.0) s.1.1 t)
bit_is outer (Depending v w) test n s t =
    some_is outer v (λ i. at_some outer w (λ j. test (depends_from (length outer) + (i * length outer + j)))) s.0 s.1.1.0
    (some_is outer w (λ j. test (depends_from (length outer) + (s.0 * length outer + j))) s.1.0 s.1.1.1.0
    (at test n (depends_from (length outer) + (s.0 * length outer + s.1.0)) s.1.1.1.1 t))

is_bit : (outer : List LeafNo) (x : Part) (test : ℕ → Bool) → at_bit outer x test ≡ true → PassesBit outer x test
is_bit outer Returning test e = (0, (refl, e))
is_bit outer (Reading v) test e =
    let r = is_some outer v (λ i. test (reads_from (length outer) + i)) e in (reads_from (length outer) + r.0, ((r.0, (r.1.0, refl)), r.1.1))
is_bit outer (Writing v) test e =
    let r = is_some outer v (λ i. test (writes_from (length outer) + i)) e in (writes_from (length outer) + r.0, ((r.0, (r.1.0, refl)), r.1.1))
is_bit outer (Keeping v) test e =
    let r = is_some outer v (λ i. test (keeps_from (length outer) + i)) e in (keeps_from (length outer) + r.0, ((r.0, (r.1.0, refl)), r.1.1))
is_bit outer (Depending v w) test e =
    let r = is_some outer v (λ i. at_some outer w (λ j. test (depends_from (length outer) + (i * length outer + j)))) e in
    let s = is_some outer w (λ j. test (depends_from (length outer) + (r.0 * length outer + j))) r.1.1 in
    (depends_from (length outer) + (r.0 * length outer + s.0), ((r.0, (s.0, (r.1.0, (s.1.0, refl)))), s.1.1))

set_is : (words : List ℕ) (n : ℕ) → is_set words n ≡ true → Bit words n
set_is words n e = eqb-true (bit_at (word words (n / 64)) (n % 64)) 1 e

is_there : (words : List ℕ) (n : ℕ) → Bit words n → is_set words n ≡ true
is_there words n e = eq-eqb (bit_at (word words (n / 64)) (n % 64)) 1 e

-- the test is what the rows tell
pub tells_told : (rows : Rows) (f : Fact) → (tells rows f ≡ true) ↔ told rows f
tells_told rows f =
    let first = 64 * first_of rows.layout f.owner in
    let test : ℕ → Bool = λ n. is_set rows.words (first + n) in
    let outer = outer_of rows.layout f.owner in
    let size = length rows.layout.outer in (
      λ e. (let p = and_parts (nat_lt f.owner size) (at_bit outer f.part test) e in
          let b = is_bit outer f.part test p.1 in
          (ltb-true f.owner size p.0, (b.0, (b.1.0, set_is rows.words (first + b.0) b.1.1)))),
      λ t. and_from (nat_lt f.owner size) (at_bit outer f.part test) (lt-ltb f.owner size t.0)
          (bit_is outer f.part test t.1.0 t.1.1.0 (is_there rows.words (first + t.1.0) t.1.1.1)),
    )
