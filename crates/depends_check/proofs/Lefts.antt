-- What pairs take for outputs.
use Rattle.std.proofs.Common.{◌≡◌, ℕ, ◌⊎◌, ◌↔◌, inl, inr, List, Some, All}
use Rattle.std.specs.List.{Contains}
use Rattle.core_form.specs.declared.contract.DependsPair.{DependsPair}
use Rattle.core_form.specs.declared.contract.Contract.{Contract}
use Rattle.core_form.specs.declared.program.Body.{Body}
use Rattle.core_form.specs.declared.program.Item.{Item}
use Rattle.core_form.specs.declared.program.Program.{Program}
use Rattle.core_form.specs.Fine.{IsFineBody, IsFineItem, IsWellFormed}
use Rattle.used_modes.specs.Added.{Adds, SomeOf}
use Rattle.used_modes.proofs.Adding.{some_contained}
use Rattle.global_check.proofs.Viewed.{all_contained}
use Rattle.depends_check.specs.DependsCheck.{IsOn, item_at}
use Rattle.depends_check.specs.declared.sides.Side.{Side}
use Rattle.depends_check.proofs.Fine.{item_at_fine, on_fine}

pub both_lefts : (old new : List Item) (On Said : Item → Type 0) → ((o : Item) → Contains old o ↔ On o) → Adds old new Said → (o : Item)
    → Contains new o ↔ (On o ⊎ Said o)
both_lefts old new On Said set a o = (
  λ h. elim ((a.same o).0 h) [ inl c ↦ inl ((set o).0 c) | inr s ↦ inr s ],
  λ h. elim h [ inl c ↦ (a.same o).1 (inl ((set o).1 c)) | inr s ↦ (a.same o).1 (inr s) ],
)

pub all_lefts_fine : (p : Program) → IsWellFormed p → (b : ℕ) (body : Body) (c : Contract) → IsFineBody p body → (pairs : List
    DependsPair) (items : List Item)
    → ((o : Item) → Contains items o ↔ (IsOn p b body c Side.Output o ⊎ SomeOf (λ pair. item_at p pair.output ≡ Some o) pairs)) → All
    (IsFineItem p) items
all_lefts_fine p fine b body c fb pairs items set = all_contained (IsFineItem p) items (λ o there. elim ((set o).0 there) [
  | inl on ↦ on_fine p fine b body c Side.Output fb o on
  | inr s ↦ (let k = some_contained (λ (pair : DependsPair). item_at p pair.output ≡ Some o) pairs s in item_at_fine p fine k.0.output o
      k.1.1)
])
