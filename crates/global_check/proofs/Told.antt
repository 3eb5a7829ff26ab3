-- What one message tells.
use Rattle.std.proofs.Common.{◌≡◌, ◌∙◌, ℕ, List, sym, ap}
use Rattle.core_form.specs.declared.program.Body.{Body}
use Rattle.core_form.specs.declared.program.Item.{Item}
use Rattle.core_form.specs.declared.program.Program.{Program}
use Rattle.spark_messages.specs.declared.message_texts.UsedMode.{UsedMode}
use Rattle.spark_messages.specs.declared.messages.Code.TheVariants as code
use Rattle.spark_messages.specs.declared.messages.Message.{Message}
use Rattle.spark_messages.specs.MessageTexts.{unlisted_text, writing_function_text}
use Rattle.state_map.specs.Views.{IsItemName}
use Rattle.used_modes.specs.Added.{Adds, error_at}
use Rattle.used_modes.specs.UsedModes.{BodyFacts, HasMode}
use Rattle.used_modes.proofs.Adding.{adds_same}
use Rattle.used_modes.proofs.Modes.{one_mode}
use Rattle.global_check.specs.GlobalCheck.{TellsUnlisted, TellsWritten}
use Rattle.global_check.proofs.Viewed.{name_once}

pub unlisted_told : (p : Program) (row : BodyFacts) (body : Body) (i : Item) (mode : UsedMode) (name : List ℕ) → HasMode p row i mode →
    IsItemName p body.object i name
    → (told : Message) → told ≡ error_at body.place code.G01 (unlisted_text name mode body.name)
    → (old new : List Message) → Adds old new (λ m. m ≡ told) → Adds old new (TellsUnlisted p row body i)
unlisted_told p row body i mode name has is told same old new a = adds_same old new (λ m. m ≡ told) (TellsUnlisted p row body i) a (λ m. (
  λ e. record { mode = mode; has_mode = has; name = name; is_name = is; message = e ∙ same },
  λ t. t.message
      ∙ ap (λ k. error_at body.place code.G01 (unlisted_text t.name k body.name)) (one_mode p row i t.mode mode t.has_mode has)
      ∙ ap (λ n. error_at body.place code.G01 (unlisted_text n mode body.name)) (name_once p body.object i t.name name t.is_name is)
      ∙ sym same,
))

pub written_told : (p : Program) (body : Body) (i : Item) (name : List ℕ) → IsItemName p body.object i name
    → (told : Message) → told ≡ error_at body.place code.G05 (writing_function_text body.name name)
    → (old new : List Message) → Adds old new (λ m. m ≡ told) → Adds old new (TellsWritten p body i)
written_told p body i name is told same old new a = adds_same old new (λ m. m ≡ told) (TellsWritten p body i) a (λ m. (
  λ e. record { name = name; is_name = is; message = e ∙ same },
  λ t. t.message ∙ ap (λ n. error_at body.place code.G05 (writing_function_text body.name n)) (name_once p body.object i t.name name
      t.is_name is) ∙ sym same,
))
