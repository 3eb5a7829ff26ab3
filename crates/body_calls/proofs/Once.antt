-- Bodies sorted, and each once.
use Rattle.std.proofs.Common.{◌≡◌, ℕ, ◌<◌, ◌↔◌, All, Bool, true, List, [], Some, length, get_or, refl, ap, arith, sym, subst, ◌∙◌, inl, inr}
use Rattle.std.proofs.lemmas.Bool.{eqb-true}
use Rattle.std.proofs.lemmas.List.Filters.{dedup_is}
use Rattle.std.proofs.lemmas.List.Kept.{Contains-dedup, Contains-from_dedup, IsStrictlySortedBy-dedup}
use Rattle.std.proofs.lemmas.List.Sorted.{Contains-permutation, IsPermutation-sym}
use Rattle.std.proofs.lemmas.Map.Keys.{Less-from_sorted}
use Rattle.std.proofs.lemmas.Option.{get_or_from_slice_get, slice_get-get_or, slice_get_past}
use Rattle.std.proofs.lemmas.Bool.{cases_lt}
use Rattle.std.specs.Cmp.{ranks}
use Rattle.std.specs.List.{Contains, dedup}
use Rattle.std.specs.List.Retain.{IsFiltered, DiffersFromLast}
use Rattle.std.specs.List.Sorted.{IsSorted, IsStrictlySortedBy, IsPermutation}
use Rattle.std.specs.Ordering.{MatchOrdering}
use Rattle.std.specs.declared.cmp.Ordering.{Ordering}
use Rattle.std.specs.declared.cmp.Ordering.TheVariants.{Less}
use Rattle.spark_base.specs.declared.numbers.BodyNo.{BodyNo}
use Rattle.spark_base.specs.contracts.numbers.BodyNoOrd.TheImpl as ord
use Rattle.spark_base.specs.contracts.numbers.BodyNoOrd.TheImpl.Laws as laws
use Rattle.spark_base.specs.contracts.numbers.BodyNoPartialEq.TheImpl as eq
use Rattle.spark_base.specs.contracts.numbers.BodyNoEq.TheImpl.Laws as eq_laws
use Rattle.call_lists.specs.Lists.{IsBodyAt, Names}
use Rattle.body_calls.specs.Callees.{IsRising}

abbrev pub cmp : BodyNo → BodyNo → Ordering
cmp = (ord.ghosts).cmp

abbrev pub same : BodyNo → BodyNo → Bool
same = (eq.ghosts).eq

same-decides : (b c : BodyNo) → same b c ≡ true → b ≡ c
same-decides b c h = let e : b.0 ≡ c.0 = eqb-true b.0 c.0 h in rw e refl

less : (b c : BodyNo) → cmp b c ≡ Less → b.0 < c.0
less b c h = subst (λ (r : Ordering). MatchOrdering r (b.0 < c.0) (b.0 ≡ c.0) (c.0 < b.0)) h (ranks b.0 c.0)

-- a list names a body that stands in it
place_below : (bs : List BodyNo) (c k : ℕ) → IsBodyAt bs c k → k < length bs
place_below bs c k at = elim (cases_lt k (length bs)) [
  | inl l ↦ l
  | inr g ↦ absurd (let n = slice_get_past bs k g in let s = at.1.0 in cc)
]

named : (bs : List BodyNo) (b : BodyNo) → Contains bs b → Names bs b.0
named bs b has = (has.0, (has.1, (b, (slice_get-get_or bs has.0 b has.1 ∙ ap (λ (x : BodyNo). Some x) has.2, refl))))

held : (bs : List BodyNo) (c : ℕ) → Names bs c → (b : BodyNo) × ((b.0 ≡ c) × Contains bs b)
held bs c m = (m.1.1.0, (m.1.1.1.1, (m.0, m.1.0, get_or_from_slice_get bs m.0 m.1.1.0 m.1.1.0 m.1.1.1.0)))

pub rises : (given sorted kept : List BodyNo) → IsPermutation given sorted → IsSorted cmp sorted → IsFiltered (DiffersFromLast same) [] sorted kept → IsRising kept
rises given sorted kept moved up filtered =
    let strict : IsStrictlySortedBy cmp kept = rw (dedup_is same sorted kept filtered) (IsStrictlySortedBy-dedup laws.total-law laws.matches_eq-law sorted up) in
    λ b c i j at to l.
    let last : j < length kept = place_below kept c j to in
    let x = at.0 in
    let y = to.0 in
    let first : get_or kept i x ≡ x = get_or_from_slice_get kept i x x at.1.0 in
    let second : get_or kept j x ≡ y = get_or_from_slice_get kept j y x to.1.0 in
    let order : (get_or kept i x).0 < (get_or kept j x).0 = less (get_or kept i x) (get_or kept j x) (Less-from_sorted cmp kept i j x strict l last) in
    let p : x.0 ≡ b = at.1.1 in
    let q : y.0 ≡ c = to.1.1 in
    let r : (get_or kept i x).0 ≡ x.0 = ap (λ (z : BodyNo). z.0) first in
    let s : (get_or kept j x).0 ≡ y.0 = ap (λ (z : BodyNo). z.0) second in
    omega (arith, order, p, q, r, s)

pub keeps : (given sorted kept : List BodyNo) → IsPermutation given sorted → IsFiltered (DiffersFromLast same) [] sorted kept → (c : ℕ) → Names kept c ↔ Names given c
keeps given sorted kept moved filtered c =
    let is = dedup_is same sorted kept filtered in (
      λ m.
          let x = held kept c m in
          let had : Contains (dedup same sorted) x.0 = subst (λ (bs : List BodyNo). Contains bs x.0) is x.1.1 in
          subst (λ (n : ℕ). Names given n) x.1.0 (named given x.0 (Contains-permutation _ _ x.0 (IsPermutation-sym _ _ moved) (Contains-from_dedup _ _ x.0 had))),
      λ m.
          let x = held given c m in
          let has : Contains (dedup same sorted) x.0 = Contains-dedup eq_laws.laws-law same-decides _ x.0 (Contains-permutation _ _ x.0 moved x.1.1) in
          subst (λ (n : ℕ). Names kept n) x.1.0 (named kept x.0 (subst (λ (bs : List BodyNo). Contains bs x.0) (sym is) has)),
    )

-- the names of a list of bodies below a bound
pub names_below : (n : ℕ) (bs : List BodyNo) → All (λ b. b.0 < n) bs → (c : ℕ) → Names bs c → c < n
names_below n bs h c m = let x = held bs c m in let l = h x.1.1.0 x.0 x.1.1.1 in let e = ap (λ (z : BodyNo). z.0) x.1.1.2 in let d = x.1.0 in omega (arith, l, e, d)

pub below_names : (n : ℕ) (bs : List BodyNo) → ((c : ℕ) → Names bs c → c < n) → All (λ b. b.0 < n) bs
below_names n bs h k d l = h (get_or bs k d).0 (k, (l, (get_or bs k d, (slice_get-get_or bs k d l, refl))))

pub stays_below : (given kept : List BodyNo) → ((c : ℕ) → Names kept c ↔ Names given c) → (n : ℕ) → All (λ b. b.0 < n) given → All (λ b. b.0 < n) kept
stays_below given kept same n h = below_names n kept (λ c m. names_below n given h c ((same c).0 m))

pub none_rises : IsRising []
none_rises b c i j at to l = absurd (let n = place_below [] b i at in omega (arith, n))
