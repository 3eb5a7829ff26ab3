-- Leaves of which a row tells are among its leaves.
use Rattle.std.proofs.Common.{rules, false, ◌≡◌, ℕ, ◌<◌, ◌⊎◌, ◌↔◌, ◌∙◌, inl, inr, List, [], Option, Some, None, sym, ap, subst, arith}
use Rattle.std.specs.Prelude.{IsSomeAnd, IsTrue, not}
use Rattle.std.specs.List.{Contains}
use Rattle.spark_base.specs.declared.numbers.LeafNo.{LeafNo}
use Rattle.core_form.specs.declared.contract.Contract.{Contract}
use Rattle.core_form.specs.declared.program.Body.{Body}
use Rattle.core_form.specs.declared.program.Item.{Item}
use Rattle.core_form.specs.declared.program.Program.{Program}
use Rattle.summary_rows.specs.declared.rows.Rows.{Rows}
use Rattle.summary_rows.specs.Layout.{IsAt, outer_of}
use Rattle.used_modes.specs.Added.{Adds, SomeOf}
use Rattle.used_modes.specs.UsedModes.{row_of}
use Rattle.used_modes.proofs.Adding.{adds_none, adds_same, at_some, some_contained}
use Rattle.global_check.specs.GlobalCheck.{IsListed, IsUsedAs, IsWrittenAs}
use Rattle.global_check.specs.declared.listing.Listing.{Listing}

-- so some of those passes where some leaf does
pub some_leaf_of : (outer : List LeafNo) (Q : ℕ → Type 0) → ((leaf : ℕ) → Q leaf → (k : ℕ) × IsAt outer leaf k)
    → SomeOf (λ (l : LeafNo). Q l.0) outer ↔ ((leaf : ℕ) × Q leaf)
some_leaf_of outer Q each = (
  λ s. let c = some_contained (λ (l : LeafNo). Q l.0) outer s in (c.0.0, c.1.1),
  λ h. let k = each h.0 h.1 in at_some (λ (l : LeafNo). Q l.0) outer k.0 (record { 0 = h.0 }) k.1 h.1,
)

module _ (rows : Rows) (b : ℕ) where
  read_at : (leaf : ℕ) → (row_of rows b).reads leaf → (k : ℕ) × IsAt (outer_of rows.layout b) leaf k
  read_at leaf t = (t.1.1.0.0, t.1.1.0.1.0)

  pub write_at : (leaf : ℕ) → (row_of rows b).writes leaf → (k : ℕ) × IsAt (outer_of rows.layout b) leaf k
  write_at leaf t = (t.1.1.0.0, t.1.1.0.1.0)

  pub use_at : (leaf : ℕ) → ((row_of rows b).reads leaf ⊎ (row_of rows b).writes leaf) → (k : ℕ) × IsAt (outer_of rows.layout b) leaf k
  use_at leaf u = elim u [ inl r ↦ read_at leaf r | inr w ↦ write_at leaf w ]

module _ (p : Program) (rows : Rows) (b : ℕ) (body : Body) (leaves : List LeafNo) (is : leaves ≡ outer_of rows.layout b) (old new : List
    Item) where
  pub all_used : (M : Item → Type 0) → Adds old new (λ i. SomeOf (λ (l : LeafNo). IsUsedAs p (row_of rows b) body l.0 i × M i) leaves)
      → Adds old new (λ i. (leaf : ℕ) × (IsUsedAs p (row_of rows b) body leaf i × M i))
  all_used M a = adds_same old new _ (λ i. (leaf : ℕ) × (IsUsedAs p (row_of rows b) body leaf i × M i)) a (λ i.
      some_leaf_of leaves (λ leaf. IsUsedAs p (row_of rows b) body leaf i × M i) (λ leaf u. subst (λ ls. (k : ℕ) × IsAt ls leaf k) (sym
      is) (use_at rows b leaf u.0.used)))

  pub all_written : Adds old new (λ i. SomeOf (λ (l : LeafNo). IsWrittenAs p (row_of rows b) b body l.0 i) leaves)
      → Adds old new (λ i. (leaf : ℕ) × IsWrittenAs p (row_of rows b) b body leaf i)
  all_written a = adds_same old new _ (λ i. (leaf : ℕ) × IsWrittenAs p (row_of rows b) b body leaf i) a (λ i.
      some_leaf_of leaves (λ leaf. IsWrittenAs p (row_of rows b) b body leaf i) (λ leaf w. subst (λ ls. (k : ℕ) × IsAt ls leaf k) (sym
      is) (write_at rows b leaf w.written)))

-- A list that began with nothing has what was added

none_there : {X : Type 0} (x : X) → Contains [] x → ⊥
none_there x h = let l : h.0 < 0 = h.1 in omega arith

pub only : {X : Type 0} (ys : List X) (P : X → Type 0) → Adds [] ys P → (x : X) → Contains ys x ↔ P x
only ys P a x = (
  λ c. elim ((a.same x).0 c) [ inl o ↦ absurd (none_there x o) | inr q ↦ q ],
  λ q. (a.same x).1 (inr q),
)

-- The item as which a leaf is used

pub same_item : (a b : Item) → Some a ≡ Some b → a ≡ b
same_item a b e = cc

-- an answer r tells the items that pass U, of which it has one or none
module _ (U : Item → Type 0) (r : Option Item) (tells : (i : Item) → (r ≡ Some i) ↔ U i) where
  none_passes : r ≡ None → (i : Item) → U i → ⊥
  none_passes is i u = let n : Option Item = None in let z : n ≡ Some i = sym is ∙ (tells i).1 u in absurd cc

  one_passes : (j : Item) → r ≡ Some j → (i : Item) → U i → i ≡ j
  one_passes j is i u = sym (same_item j i (sym is ∙ (tells i).1 u))

  it_passes : (j : Item) → r ≡ Some j → U j
  it_passes j is = (tells j).0 is

  pub noted : (xs ys : List Item) (j : Item) → r ≡ Some j → Adds xs ys (λ i. i ≡ j) → Adds xs ys U
  noted xs ys j is a = adds_same xs ys (λ i. i ≡ j) U a (λ i. (λ e. subst U (sym e) (it_passes j is), one_passes j is i))

  pub not_there : (xs : List Item) → r ≡ None → Adds xs xs U
  not_there xs is = adds_none xs U (none_passes is)

  -- those that pass M too
  pub noted_missing : (M : Item → Type 0) (xs ys : List Item) (j : Item) → r ≡ Some j → M j → Adds xs ys (λ i. i ≡ j) → Adds xs ys (λ i.
      U i × M i)
  noted_missing M xs ys j is m a = adds_same xs ys (λ i. i ≡ j) (λ i. U i × M i) a (λ i. (
    λ e. subst (λ k. U k × M k) (sym e) (
      it_passes
          j is,
      m,
    ),
    λ u. one_passes j is i u.0,
  ))

-- the one item at a place, where some test passes
pub noted_there : (T : Type 0) (r : Option Item) (xs ys : List Item) (j : Item) → T → r ≡ Some j → Adds xs ys (λ i. i ≡ j) → Adds xs ys
    (λ i. T × (r ≡ Some i))
noted_there T r xs ys j passes is a = adds_same xs ys (λ i. i ≡ j) (λ i. T × (r ≡ Some i)) a (λ i. (
  λ e. (passes, is ∙ ap Some (sym e)),
  λ h. sym (same_item j i (sym is ∙ h.1)),
))

-- what is added for the one that is there, if any
pub of_some : {X Y : Type 0} (P : X → Y → Type 0) (o : Option X) (x : X) → o ≡ Some x → (old new : List Y) → Adds old new (P x) → Adds
    old new (λ y. IsSomeAnd o (λ z. P z y))
of_some P o x is old new a = subst (λ r. Adds old new (λ y. IsSomeAnd r (λ z. P z y))) (sym is) a

pub of_none : {X Y : Type 0} (P : X → Y → Type 0) (o : Option X) → o ≡ None → (old : List Y) → Adds old old (λ y. IsSomeAnd o (λ z. P z y))
of_none P o is old = subst (λ r. Adds old old (λ y. IsSomeAnd r (λ z. P z y))) (sym is) (adds_none old (λ _. ⊥) (λ y h. h))

-- the outputs of a Global that is written
pub declared : (p : Program) (o : Option Contract) (c : Contract) → o ≡ Some c → c.derived ≡ false → (old new : List Item) → Adds old new
    (IsListed p Listing.AsOutput c.globals)
    → Adds old new (λ i. IsSomeAnd o (λ k. IsTrue (not k.derived) × IsListed p Listing.AsOutput k.globals i))
declared p o c is d old new a =
    let t : IsTrue (not c.derived) = subst (λ b. IsTrue (not b)) (sym d) (search rules) in
    of_some (λ (k : Contract) (i : Item). IsTrue (not k.derived) × IsListed p Listing.AsOutput k.globals i) o c is old new
    (adds_same old new (IsListed p Listing.AsOutput c.globals) (λ i. IsTrue (not c.derived) × IsListed p Listing.AsOutput c.globals i) a
    (λ i. (λ l. (t, l), λ h. h.1)))
