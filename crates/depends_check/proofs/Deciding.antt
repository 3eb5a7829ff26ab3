-- Leaves that may decide another are among those of the row.
use Rattle.std.proofs.Common.{◌≡◌, ℕ, zero, suc, ◌<◌, Bool, true≢false, List, [], ◌∷◌, length, inl, inr, sym, subst, arith}
use Rattle.spark_base.specs.declared.numbers.LeafNo.{LeafNo}
use Rattle.core_form.specs.declared.program.Body.{Body}
use Rattle.core_form.specs.declared.program.Item.{Item}
use Rattle.core_form.specs.declared.program.Program.{Program}
use Rattle.core_form.specs.Leaves.{IsLeafOf}
use Rattle.flow_bits.specs.Sets.{Has, Tells, either}
use Rattle.summary_rows.specs.declared.rows.Rows.{Rows}
use Rattle.summary_rows.specs.Facts.{Depending}
use Rattle.summary_rows.specs.Layout.{IsAt, outer_of, told}
use Rattle.used_modes.specs.Added.{Adds, SomeOf}
use Rattle.used_modes.specs.UsedModes.{SomeLeaf, of_body}
use Rattle.used_modes.proofs.Adding.{adds_same}
use Rattle.global_check.proofs.Gathered.{some_leaf_of}
use Rattle.depends_check.specs.DependsCheck.{IsDecidedBy}

module _ (p : Program) (rows : Rows) (b : ℕ) (body : Body) (leaf : ℕ) where
  decides_at : (from : ℕ) → told rows (of_body b (Depending from leaf)) → (k : ℕ) × IsAt (outer_of rows.layout b) from k
  decides_at from t = (t.1.1.0.0, t.1.1.0.1.1.0)

  pub all_deciding : (leaves : List LeafNo) → leaves ≡ outer_of rows.layout b → (old new : List Item)
      → Adds old new (λ i. SomeOf (λ (l : LeafNo). IsDecidedBy p rows b body leaf l.0 i) leaves) → Adds old new (λ i. (from : ℕ) ×
      IsDecidedBy p rows b body leaf from i)
  all_deciding leaves is old new a = adds_same old new (λ i. SomeOf (λ (l : LeafNo). IsDecidedBy p rows b body leaf l.0 i) leaves)
      (λ i. (from : ℕ) × IsDecidedBy p rows b body leaf from i) a (λ i.
      some_leaf_of leaves (λ from. IsDecidedBy p rows b body leaf from i) (λ from d. subst (λ ls. (k : ℕ) × IsAt ls from k) (sym is)
      (decides_at from d.0)))

-- The leaves of an item

has_within : (row : List Bool) (v : ℕ) → Has row v → v < length row
has_within [] v h = absurd (true≢false (sym h))
has_within (b ∷ bs) zero h = omega arith
has_within (b ∷ bs) (suc v) h = let l = has_within bs v h in omega (arith, l)

-- a row that was empty has got the leaves of the item
pub leaves_added : (p : Program) (o : Item) (none leaves : List Bool) → Tells none (λ v. ⊥) → Tells leaves (either none (IsLeafOf p o)) →
    (P : ℕ → Item → Type 0) (old new : List Item)
    → Adds old new (λ i. (leaf : ℕ) × ((leaf < length leaves) × (Has leaves leaf × P leaf i))) → Adds old new (λ i. SomeLeaf p o (λ leaf.
    P leaf i))
leaves_added p o none leaves empty tells P old new a = adds_same old new (λ i. (leaf : ℕ) × ((leaf < length leaves) × (Has leaves leaf ×
    P leaf i))) (λ i. SomeLeaf p o (λ leaf. P leaf i)) a (λ i. (
      λ h. (h.0, (elim ((tells h.0).0 h.1.1.0) [ inl n ↦ absurd ((empty h.0).0 n) | inr l ↦ l ], h.1.1.1)),
      λ h. (let there : Has leaves h.0 = (tells h.0).1 (inr h.1.0) in (h.0, (has_within leaves h.0 there, (there, h.1.1)))),
    ))
