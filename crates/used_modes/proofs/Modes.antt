-- An item has one used mode.
use Rattle.std.proofs.Common.{◌≡◌, ◌⊎◌, inl, inr, refl}
use Rattle.core_form.specs.declared.program.Item.{Item}
use Rattle.core_form.specs.declared.program.Program.{Program}
use Rattle.spark_messages.specs.declared.message_texts.UsedMode.{UsedMode}
use Rattle.spark_messages.specs.declared.message_texts.UsedMode.TheVariants as used
use Rattle.used_modes.specs.UsedModes.{BodyFacts, HasMode}

module _ (p : Program) (row : BodyFacts) (i : Item) where
  read_or_left : {R L : Type 0} → (R ⊎ L) → (R → ⊥) → (L → ⊥) → ⊥
  read_or_left x r l = elim x [ inl a ↦ r a | inr b ↦ l b ]

  pub one_mode : (a b : UsedMode) → HasMode p row i a → HasMode p row i b → a ≡ b
  one_mode used.Nothing used.Nothing h k = refl
  one_mode used.Nothing used.Input h k = absurd (h.0 k.0)
  one_mode used.Nothing used.Output h k = absurd (h.1 k.0)
  one_mode used.Nothing used.InOut h k = absurd (h.1 k.0)
  one_mode used.Input used.Nothing h k = absurd (k.0 h.0)
  one_mode used.Input used.Input h k = refl
  one_mode used.Input used.Output h k = absurd (h.1 k.0)
  one_mode used.Input used.InOut h k = absurd (h.1 k.0)
  one_mode used.Output used.Nothing h k = absurd (k.1 h.0)
  one_mode used.Output used.Input h k = absurd (k.1 h.0)
  one_mode used.Output used.Output h k = refl
  one_mode used.Output used.InOut h k = absurd (read_or_left k.1 h.1.0 h.1.1)
  one_mode used.InOut used.Nothing h k = absurd (k.1 h.0)
  one_mode used.InOut used.Input h k = absurd (k.1 h.0)
  one_mode used.InOut used.Output h k = absurd (read_or_left h.1 k.1.0 k.1.1)
  one_mode used.InOut used.InOut h k = refl
