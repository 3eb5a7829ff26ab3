-- Messages on an item of this name that is listed.
use Rattle.std.proofs.Common.{◌≡◌, ◌≢◌, ◌⊎◌, ◌∙◌, inl, inr, ℕ, List, Some, sym, subst}
use Rattle.std.specs.Prelude.{slice_get}
use Rattle.core_form.specs.declared.contract.GlobalItem.{GlobalItem}
use Rattle.core_form.specs.declared.contract.Mode.TheVariants as modes
use Rattle.core_form.specs.declared.program.Body.{Body}
use Rattle.core_form.specs.declared.program.Item.{Item}
use Rattle.core_form.specs.declared.program.Program.{Program}
use Rattle.spark_messages.specs.declared.message_texts.UsedMode.{UsedMode}
use Rattle.spark_messages.specs.declared.message_texts.UsedMode.TheVariants as used
use Rattle.spark_messages.specs.declared.messages.Code.TheVariants as code
use Rattle.spark_messages.specs.declared.messages.Message.{Message}
use Rattle.spark_messages.specs.MessageTexts.{read_output_text, unused_mode_text, written_input_text}
use Rattle.used_modes.specs.Added.{Adds, error_at, warning_at}
use Rattle.used_modes.specs.UsedModes.{BodyFacts, HasMode, IsLeft, SomeLeaf}
use Rattle.used_modes.proofs.Adding.{adds_same}
use Rattle.used_modes.proofs.Modes.{one_mode}
use Rattle.state_map.specs.Views.{IsItemName}
use Rattle.global_check.specs.GlobalCheck.{IsClock, IsListedWrong, IsUsedLess, IsWrongMode}
use Rattle.global_check.proofs.Gathered.{same_item}
use Rattle.global_check.proofs.Viewed.{name_once}

module _ (p : Program) (row : BodyFacts) (body : Body) (g : GlobalItem) (i : Item) (name : List ℕ) (old : List Message) where
  -- G04
  pub used_less : (listed mode : UsedMode) → HasMode p row i mode → (IsClock p i → ⊥) → (told : Message) → told ≡ warning_at g.place
      code.G04 (unused_mode_text name listed body.name mode)
      → (new : List Message) → Adds old new (λ m. m ≡ told) → Adds old new (IsUsedLess p row body g i name listed mode)
  used_less listed mode has other told same new a = adds_same old new (λ m. m ≡ told) (IsUsedLess p row body g i name listed mode) a (λ m. (
    λ e. record { has_mode = has; other = other; message = e ∙ same },
    λ u. u.message ∙ sym same,
  ))

  -- an input
  pub unused_input : (mode : UsedMode) → mode ≡ used.Nothing → HasMode p row i mode → (new : List Message) → Adds old new (IsUsedLess p
      row body g i name used.Input mode)
      → Adds old new (IsWrongMode p row body g i name modes.Input)
  unused_input mode is has new a =
      let nothing : HasMode p row i used.Nothing = subst (λ k. HasMode p row i k) is has in
      adds_same old new (IsUsedLess p row body g i name used.Input used.Nothing) (IsWrongMode p row body g i name modes.Input)
      (subst (λ k. Adds old new (IsUsedLess p row body g i name used.Input k)) is a) (λ m. (
        λ u. inr u,
        λ w. elim w [ inl e ↦ absurd (nothing.1 e.0) | inr u ↦ u ],
      ))

  pub written_input : SomeLeaf p i row.writes → (told : Message) → told ≡ error_at g.place code.G02 (written_input_text name body.name)
      → (new : List Message) → Adds old new (λ m. m ≡ told) → Adds old new (IsWrongMode p row body g i name modes.Input)
  written_input writes told same new a = adds_same old new (λ m. m ≡ told) (IsWrongMode p row body g i name modes.Input) a (λ m. (
    λ e. inl (writes, e ∙ same),
    λ w. elim w [ inl e ↦ e.1 ∙ sym same | inr u ↦ absurd (u.has_mode.1 writes) ],
  ))

  -- an output
  pub read_output : (SomeLeaf p i row.reads ⊎ IsLeft p row i) → (told : Message) → told ≡ error_at g.place code.G03 (read_output_text
      name body.name)
      → (new : List Message) → Adds old new (λ m. m ≡ told) → Adds old new (IsWrongMode p row body g i name modes.Output)
  read_output is told same new a = adds_same old new (λ m. m ≡ told) (IsWrongMode p row body g i name modes.Output) a (λ m. (
    λ e. (is, e ∙ same),
    λ w. w.1 ∙ sym same,
  ))

  -- both
  pub other_in_out : (mode : UsedMode) → mode ≢ used.InOut → HasMode p row i mode → (new : List Message) → Adds old new (IsUsedLess p row
      body g i name used.InOut mode)
      → Adds old new (IsWrongMode p row body g i name modes.InOut)
  other_in_out mode not has new a = adds_same old new (IsUsedLess p row body g i name used.InOut mode) (IsWrongMode p row body g i name
      modes.InOut) a (λ m. (
        λ u. (mode, (not, u)),
        λ w. subst (λ k. IsUsedLess p row body g i name used.InOut k m) (one_mode p row i w.0 mode w.1.1.has_mode has) w.1.1,
      ))

-- what is wrong with an item of the program is told once
pub listed_told : (p : Program) (row : BodyFacts) (body : Body) (g : GlobalItem) (i : Item) (name : List ℕ) → slice_get p.items g.item.0
    ≡ Some i → IsItemName p body.object i name
    → (old new : List Message) → Adds old new (IsWrongMode p row body g i name g.mode) → Adds old new (IsListedWrong p row body g)
listed_told p row body g i name is has old new a = adds_same old new (IsWrongMode p row body g i name g.mode) (IsListedWrong p row body
    g) a (λ m. (
      λ w. record { item = i; is_item = is; name = name; is_name = has; wrong = w },
      λ t.
          let e : t.item ≡ i = same_item t.item i (sym t.is_item ∙ is) in
          let n : t.name ≡ name = name_once p body.object i t.name name (subst (λ k. IsItemName p body.object k t.name) e t.is_name) has in
          subst (λ k. IsWrongMode p row body g i k g.mode m) n (subst (λ k. IsWrongMode p row body g k t.name g.mode m) e t.wrong),
    ))
