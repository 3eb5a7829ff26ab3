-- The derived comparisons of messages.
use Rattle.std.proofs.Common.{◌≡◌, Bool, true, false, refl, ap, subst, ◌∙◌, sym, List, [], ◌∷◌, ℕ, nat_eq, ◌&&◌, codes, if◌then◌else◌}
use Rattle.std.proofs.lemmas.Bool.{eqb-true}
use Rattle.std.specs.Str.{bytes_eq}
use Rattle.std.specs.Cmp.Lexicographic.{pointwise}
use Rattle.spark_messages.specs.declared.messages.Code.{Code}
use Rattle.spark_messages.specs.declared.messages.Code.TheVariants as code
use Rattle.std.proofs.Math.Path.{fun_ext}
use Rattle.std.specs.List.Sorted.{IsStrictlySortedBy}
use Rattle.std.specs.Ordering.{nat_cmp}
use Rattle.std.specs.declared.cmp.Ordering.{Ordering}
use Rattle.spark_messages.specs.declared.messages.Message.{Message}
use Rattle.spark_messages.specs.declared.messages.Kind.{Kind}
use Rattle.spark_messages.specs.declared.messages.Kind.TheVariants.{Error, Warning, Refused}
use Rattle.spark_messages.specs.Message.{order, kind_number, code_text, HaveSame}
use Rattle.spark_messages.specs.contracts.messages.KindPartialEq.TheImpl as kind_eq_ghosts
use Rattle.spark_messages.specs.contracts.messages.MessageOrd.TheImpl as ord
use Rattle.spark_messages.specs.contracts.messages.KindOrd.TheImpl as kind
use Rattle.spark_messages.specs.contracts.messages.MessagePartialEq.TheImpl as eq
use Rattle.spark_messages.specs.contracts.messages.MessageOrd.TheImpl.Laws as laws
use Rattle.spark_messages.proofs.Bools.{both}
use Rattle.spark_messages.proofs.SameList.{same_list}
use Rattle.std.specs.Cmp.{IsTotalOrder}
use Rattle.spark_messages.specs.contracts.messages.MessageEq.TheImpl.Laws as eq_laws
use Rattle.std.proofs.lemmas.List.Filters.{dedup_is}
use Rattle.std.proofs.lemmas.List.Kept.{Contains-dedup, Contains-from_dedup, IsStrictlySortedBy-dedup}
use Rattle.std.proofs.lemmas.List.Sorted.{Contains-permutation, IsPermutation-sym}
use Rattle.std.specs.List.Sorted.{IsSorted, IsPermutation}
use Rattle.std.specs.List.Retain.{IsFiltered, DiffersFromLast}

abbrev pub cmp : Message → Message → Ordering
cmp = (ord.ghosts).cmp

abbrev pub same : Message → Message → Bool
same = (eq.ghosts).eq

kind_cmp-is : (k l : Kind) → (kind.ghosts).cmp k l ≡ nat_cmp (kind_number k) (kind_number l)
kind_cmp-is Error Error = refl
kind_cmp-is Error Warning = refl
kind_cmp-is Error Refused = refl
kind_cmp-is Warning Error = refl
kind_cmp-is Warning Warning = refl
kind_cmp-is Warning Refused = refl
kind_cmp-is Refused Error = refl
kind_cmp-is Refused Warning = refl
kind_cmp-is Refused Refused = refl

pub cmp-is : (m n : Message) → cmp m n ≡ order m n
cmp-is m n = rw (kind_cmp-is m.kind n.kind) refl

-- a list in the derived order is in order
pub in_order : (list : List Message) → IsStrictlySortedBy cmp list → IsStrictlySortedBy order list
in_order list h = subst (λ (R : Message → Message → Ordering). IsStrictlySortedBy R list) (fun_ext (λ m. fun_ext (λ n. cmp-is m n))) h

-- the code of a text
abbrev code_named : List ℕ → Code
code_named text =
    if bytes_eq text (codes "A01") then code.A01 else
    if bytes_eq text (codes "D01") then code.D01 else
    if bytes_eq text (codes "D02") then code.D02 else
    if bytes_eq text (codes "D03") then code.D03 else
    if bytes_eq text (codes "F01") then code.F01 else
    if bytes_eq text (codes "F02") then code.F02 else
    if bytes_eq text (codes "G01") then code.G01 else
    if bytes_eq text (codes "G02") then code.G02 else
    if bytes_eq text (codes "G03") then code.G03 else
    if bytes_eq text (codes "G04") then code.G04 else
    if bytes_eq text (codes "G05") then code.G05 else
    if bytes_eq text (codes "I01") then code.I01 else
    if bytes_eq text (codes "I02") then code.I02 else
    if bytes_eq text (codes "I03") then code.I03 else
    if bytes_eq text (codes "I04") then code.I04 else
    if bytes_eq text (codes "L01") then code.L01 else
    if bytes_eq text (codes "L02") then code.L02 else
    if bytes_eq text (codes "L03") then code.L03 else
    if bytes_eq text (codes "L04") then code.L04 else
    if bytes_eq text (codes "N01") then code.N01 else
    if bytes_eq text (codes "N02") then code.N02 else
    if bytes_eq text (codes "N03") then code.N03 else
    if bytes_eq text (codes "N04") then code.N04 else
    if bytes_eq text (codes "N05") then code.N05 else
    if bytes_eq text (codes "N06") then code.N06 else
    if bytes_eq text (codes "N07") then code.N07 else
    if bytes_eq text (codes "N08") then code.N08 else
    if bytes_eq text (codes "N09") then code.N09 else
    if bytes_eq text (codes "N10") then code.N10 else
    if bytes_eq text (codes "N11") then code.N11 else
    if bytes_eq text (codes "N12") then code.N12 else
    if bytes_eq text (codes "R01") then code.R01 else
    if bytes_eq text (codes "R02") then code.R02 else
    if bytes_eq text (codes "R03") then code.R03 else
    if bytes_eq text (codes "R04") then code.R04 else
    if bytes_eq text (codes "R05") then code.R05 else
    if bytes_eq text (codes "R06") then code.R06 else
    if bytes_eq text (codes "S01") then code.S01 else
    if bytes_eq text (codes "T01") then code.T01 else
    if bytes_eq text (codes "T02") then code.T02 else
    if bytes_eq text (codes "T03") then code.T03 else
    if bytes_eq text (codes "T04") then code.T04 else
    if bytes_eq text (codes "U01") then code.U01 else
    if bytes_eq text (codes "X01") then code.X01 else
    if bytes_eq text (codes "X02") then code.X02 else
    if bytes_eq text (codes "X03") then code.X03 else
    if bytes_eq text (codes "X04") then code.X04 else
    if bytes_eq text (codes "X05") then code.X05 else
    if bytes_eq text (codes "X06") then code.X06 else
    if bytes_eq text (codes "Y01") then code.Y01 else
    if bytes_eq text (codes "Y02") then code.Y02 else
    if bytes_eq text (codes "Y03") then code.Y03 else
    if bytes_eq text (codes "Y04") then code.Y04 else
    if bytes_eq text (codes "Y05") then code.Y05 else
    if bytes_eq text (codes "Y06") then code.Y06 else
    if bytes_eq text (codes "Y07") then code.Y07 else
    if bytes_eq text (codes "Y08") then code.Y08 else
    code.Y09

code_named-text : (c : Code) → code_named (code_text c) ≡ c
code_named-text code.A01 = refl
code_named-text code.D01 = refl
code_named-text code.D02 = refl
code_named-text code.D03 = refl
code_named-text code.F01 = refl
code_named-text code.F02 = refl
code_named-text code.G01 = refl
code_named-text code.G02 = refl
code_named-text code.G03 = refl
code_named-text code.G04 = refl
code_named-text code.G05 = refl
code_named-text code.I01 = refl
code_named-text code.I02 = refl
code_named-text code.I03 = refl
code_named-text code.I04 = refl
code_named-text code.L01 = refl
code_named-text code.L02 = refl
code_named-text code.L03 = refl
code_named-text code.L04 = refl
code_named-text code.N01 = refl
code_named-text code.N02 = refl
code_named-text code.N03 = refl
code_named-text code.N04 = refl
code_named-text code.N05 = refl
code_named-text code.N06 = refl
code_named-text code.N07 = refl
code_named-text code.N08 = refl
code_named-text code.N09 = refl
code_named-text code.N10 = refl
code_named-text code.N11 = refl
code_named-text code.N12 = refl
code_named-text code.R01 = refl
code_named-text code.R02 = refl
code_named-text code.R03 = refl
code_named-text code.R04 = refl
code_named-text code.R05 = refl
code_named-text code.R06 = refl
code_named-text code.S01 = refl
code_named-text code.T01 = refl
code_named-text code.T02 = refl
code_named-text code.T03 = refl
code_named-text code.T04 = refl
code_named-text code.U01 = refl
code_named-text code.X01 = refl
code_named-text code.X02 = refl
code_named-text code.X03 = refl
code_named-text code.X04 = refl
code_named-text code.X05 = refl
code_named-text code.X06 = refl
code_named-text code.Y01 = refl
code_named-text code.Y02 = refl
code_named-text code.Y03 = refl
code_named-text code.Y04 = refl
code_named-text code.Y05 = refl
code_named-text code.Y06 = refl
code_named-text code.Y07 = refl
code_named-text code.Y08 = refl
code_named-text code.Y09 = refl

code_text-injective : (c d : Code) → code_text c ≡ code_text d → c ≡ d
code_text-injective c d h = sym (code_named-text c) ∙ ap code_named h ∙ code_named-text d

same_bytes : (xs ys : List ℕ) → pointwise nat_eq xs ys ≡ true → xs ≡ ys
same_bytes [] [] h = refl
same_bytes [] (y ∷ ys) h = cc
same_bytes (x ∷ xs) [] h = cc
same_bytes (x ∷ xs) (y ∷ ys) h =
    let parts = both (nat_eq x y) (pointwise nat_eq xs ys) h in
    let head : x ≡ y = eqb-true x y parts.0 in
    let tail = same_bytes xs ys parts.1 in
    cc

kind_eq : (k l : Kind) → (kind_eq_ghosts.ghosts).eq k l ≡ true → k ≡ l
kind_eq Error Error h = refl
kind_eq Error Warning h = cc
kind_eq Error Refused h = cc
kind_eq Warning Error h = cc
kind_eq Warning Warning h = refl
kind_eq Warning Refused h = cc
kind_eq Refused Error h = cc
kind_eq Refused Warning h = cc
kind_eq Refused Refused h = refl

each : (a b c d e f : Bool) → (a && ((b && c) && (d && (e && f)))) ≡ true → (a ≡ true) × (b ≡ true) × (c ≡ true) × (d ≡ true) × (e ≡ true) × (f ≡ true)
each true true true true true true h = (refl, refl, refl, refl, refl, refl)
each true true true true true false h = cc
each true true true true false f h = cc
each true true true false e f h = cc
each true true false d e f h = cc
each true false c d e f h = cc
each false b c d e f h = cc

-- messages that are the same by the derived test are one message
pub same-decides : (m n : Message) → same m n ≡ true → m ≡ n
same-decides m n h =
    let parts = each (nat_eq m.file.0 n.file.0) (nat_eq m.place.line n.place.line) (nat_eq m.place.col n.place.col) (pointwise nat_eq (code_text m.code) (code_text n.code)) (pointwise nat_eq m.text n.text) ((kind_eq_ghosts.ghosts).eq m.kind n.kind) h in
    let file : m.file.0 ≡ n.file.0 = eqb-true m.file.0 n.file.0 parts.0 in
    let line : m.place.line ≡ n.place.line = eqb-true m.place.line n.place.line parts.1 in
    let col : m.place.col ≡ n.place.col = eqb-true m.place.col n.place.col parts.2 in
    let which : m.code ≡ n.code = code_text-injective m.code n.code (same_bytes (code_text m.code) (code_text n.code) parts.3) in
    let text : m.text ≡ n.text = same_bytes m.text n.text parts.4 in
    let kind : m.kind ≡ n.kind = kind_eq m.kind n.kind parts.5 in
    rw (file, line, col, which, text, kind) refl

order_total : IsTotalOrder order
order_total = subst (λ (R : Message → Message → Ordering). IsTotalOrder R) (fun_ext (λ m. fun_ext (λ n. cmp-is m n))) laws.total-law

-- two lists of messages that rise strictly and have the same messages are one list
pub ordered-unique : (xs ys : List Message) → IsStrictlySortedBy order xs → IsStrictlySortedBy order ys → HaveSame xs ys → xs ≡ ys
ordered-unique xs ys left right same = same_list order_total xs ys left right same.same

-- what sorting and then dropping equal neighbours leaves
pub rises : (given sorted kept : List Message) → IsPermutation given sorted → IsSorted cmp sorted → IsFiltered (DiffersFromLast same) [] sorted kept → IsStrictlySortedBy order kept
rises given sorted kept moved up filtered =
    rw (dedup_is same sorted kept filtered) (in_order _ (IsStrictlySortedBy-dedup laws.total-law laws.matches_eq-law sorted up))

pub keeps : (given sorted kept : List Message) → IsPermutation given sorted → IsFiltered (DiffersFromLast same) [] sorted kept → HaveSame kept given
keeps given sorted kept moved filtered =
    let is = dedup_is same sorted kept filtered in
    record {
      same = λ m. (
        λ h. Contains-permutation _ _ m (IsPermutation-sym _ _ moved) (Contains-from_dedup _ _ m (rw is at h)),
        λ h. rw is (Contains-dedup eq_laws.laws-law same-decides _ m (Contains-permutation _ _ m moved h)),
      );
    }
