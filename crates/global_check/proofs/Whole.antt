-- Messages for each item that passes.
use Rattle.std.proofs.Common.{◌≡◌, ◌↔◌, inl, inr, ℕ, List, [], Option, Some, None, All}
use Rattle.std.specs.Prelude.{IsSomeAnd, IsTrue, not, slice_get}
use Rattle.std.specs.List.{Contains}
use Rattle.core_form.specs.declared.contract.Contract.{Contract}
use Rattle.core_form.specs.declared.contract.GlobalItem.{GlobalItem}
use Rattle.core_form.specs.declared.program.Body.{Body}
use Rattle.core_form.specs.declared.program.BodyKind.{BodyKind}
use Rattle.core_form.specs.declared.program.Item.{Item}
use Rattle.core_form.specs.declared.program.Program.{Program}
use Rattle.core_form.specs.Fine.{IsFineItem, IsWellFormed}
use Rattle.spark_messages.specs.declared.messages.Message.{Message}
use Rattle.used_modes.specs.Added.{Adds, SomeOf}
use Rattle.used_modes.specs.UsedModes.{BodyFacts}
use Rattle.used_modes.proofs.Adding.{adds_for, adds_same, some_contained}
use Rattle.global_check.specs.GlobalCheck.{IsFunctionWriting, IsListed, IsUnlisted, IsUsedUnlisted, IsWritten}
use Rattle.global_check.specs.GlobalCheck.{TellsUnlisted, TellsWritten, checked_view, passes}
use Rattle.global_check.specs.declared.listing.Listing.{Listing}
use Rattle.global_check.proofs.Gathered.{only}
use Rattle.global_check.proofs.Viewed.{All-slice_get, all_contained, body_view_fine, view_fine}

module _ (p : Program) (row : BodyFacts) (body : Body) where
  -- the items of G01 are items of the program
  pub unlisted_fine : IsWellFormed p → (c : Contract) (items : List Item) → Adds [] items (IsUsedUnlisted p row body c) → All (IsFineItem
      p) items
  unlisted_fine fine c items a = all_contained (IsFineItem p) items (λ i there.
      let u = (only items (IsUsedUnlisted p row body c) a i).0 there in
      body_view_fine p fine body.object (checked_view body) u.0 i u.1.0.view)

  pub each_unlisted : (c : Contract) (items : List Item) → ((i : Item) → Contains items i ↔ IsUsedUnlisted p row body c i)
      → (old new : List Message) → Adds old new (λ m. SomeOf (λ i. TellsUnlisted p row body i m) items) → Adds old new (IsUnlisted p row
      body c)
  each_unlisted c items set old new a = adds_for old new (λ i m. TellsUnlisted p row body i m) (IsUsedUnlisted p row body c) items set a

  declared_fine : IsWellFormed p → (i : Item) (o : Option Contract) → IsSomeAnd o (λ c. IsTrue (not c.derived) × IsListed p
      Listing.AsOutput c.globals i) → IsFineItem p i
  declared_fine fine i None h = absurd h
  declared_fine fine i (Some c) h =
      let s = some_contained (λ (g : GlobalItem). IsTrue (passes Listing.AsOutput g.mode) × (slice_get p.items g.item.0 ≡ Some i))
      c.globals h.1 in
      All-slice_get (IsFineItem p) p.items s.0.item.0 i fine.items s.1.1.1

  item_fine : IsWellFormed p → (b : ℕ) (i : Item) → IsWritten p row b body i → IsFineItem p i
  item_fine fine b i (inl w) = view_fine p fine body.«package» w.0 i w.1.view
  item_fine fine b i (inr d) = declared_fine fine i body.outer d

  -- those of G05 too
  pub written_fine : IsWellFormed p → (b : ℕ) (items : List Item) → Adds [] items (IsWritten p row b body) → All (IsFineItem p) items
  written_fine fine b items a = all_contained (IsFineItem p) items (λ i there. item_fine fine b i ((only items (IsWritten p row b body) a
      i).0 there))

  pub each_written : (b : ℕ) (items : List Item) → body.kind ≡ BodyKind.Function → ((i : Item) → Contains items i ↔ IsWritten p row b
      body i)
      → (old new : List Message) → Adds old new (λ m. SomeOf (λ i. TellsWritten p body i m) items) → Adds old new (IsFunctionWriting p
      row b body)
  each_written b items is set old new a =
      adds_same old new (λ m. (i : Item) × (IsWritten p row b body i × TellsWritten p body i m)) (IsFunctionWriting p row b body)
      (adds_for old new (λ i m. TellsWritten p body i m) (IsWritten p row b body) items set a) (λ m. (λ h. (is, h), λ h. h.1))
