-- What one message tells.
use Rattle.std.proofs.Common.{◌≡◌, ◌∙◌, ℕ, List, sym, ap}
use Rattle.spark_base.specs.declared.numbers.Span.{Span}
use Rattle.core_form.specs.declared.contract.DependsPair.{DependsPair}
use Rattle.core_form.specs.declared.program.Body.{Body}
use Rattle.core_form.specs.declared.program.Item.{Item}
use Rattle.core_form.specs.declared.program.Program.{Program}
use Rattle.spark_messages.specs.declared.messages.Code.TheVariants as code
use Rattle.spark_messages.specs.declared.messages.Message.{Message}
use Rattle.spark_messages.specs.MessageTexts.{missing_dependency_text, unused_dependency_text}
use Rattle.state_map.specs.Views.{IsItemName}
use Rattle.used_modes.specs.Added.{Adds, error_at, warning_at}
use Rattle.used_modes.proofs.Adding.{adds_same}
use Rattle.global_check.proofs.Viewed.{name_once}
use Rattle.depends_check.specs.DependsCheck.{TellsFault, TellsMissing, TellsUnused, fault_text}
use Rattle.depends_check.specs.declared.faults.Fault.{Fault}

module _ (p : Program) (body : Body) where
  pub fault_told : (fault : Fault) (place : Span) (i : Item) (name : List ℕ) → IsItemName p body.object i name
      → (told : Message) → told ≡ error_at place code.D03 (fault_text fault name)
      → (old new : List Message) → Adds old new (λ m. m ≡ told) → Adds old new (TellsFault p body fault place i)
  fault_told fault place i name is told same old new a = adds_same old new (λ m. m ≡ told) (TellsFault p body fault place i) a (λ m. (
    λ e. record { name = name; is_name = is; message = e ∙ same },
    λ t. t.message ∙ ap (λ n. error_at place code.D03 (fault_text fault n)) (name_once p body.object i t.name name t.is_name is) ∙ sym
        same,
  ))

  module _ (o i : Item) (output input : List ℕ) (is_output : IsItemName p body.object o output) (is_input : IsItemName p body.object i
      input) where
    pub missing_told : (place : Span) (told : Message) → told ≡ error_at place code.D01 (missing_dependency_text output input body.name)
        → (old new : List Message) → Adds old new (λ m. m ≡ told) → Adds old new (TellsMissing p body place o i)
    missing_told place told same old new a = adds_same old new (λ m. m ≡ told) (TellsMissing p body place o i) a (λ m. (
      λ e. record { output = output; is_output = is_output; input = input; is_input = is_input; message = e ∙ same },
      λ t. t.message
          ∙ ap (λ n. error_at place code.D01 (missing_dependency_text n t.input body.name)) (name_once p body.object o t.output output
          t.is_output is_output)
          ∙ ap (λ n. error_at place code.D01 (missing_dependency_text output n body.name)) (name_once p body.object i t.input input
          t.is_input is_input)
          ∙ sym same,
    ))

    pub unused_told : (pair : DependsPair) (told : Message) → told ≡ warning_at pair.place code.D02 (unused_dependency_text output input
        body.name)
        → (old new : List Message) → Adds old new (λ m. m ≡ told) → Adds old new (TellsUnused p body pair o i)
    unused_told pair told same old new a = adds_same old new (λ m. m ≡ told) (TellsUnused p body pair o i) a (λ m. (
      λ e. record { output = output; is_output = is_output; input = input; is_input = is_input; message = e ∙ same },
      λ t. t.message
          ∙ ap (λ n. warning_at pair.place code.D02 (unused_dependency_text n t.input body.name)) (name_once p body.object o t.output
          output t.is_output is_output)
          ∙ ap (λ n. warning_at pair.place code.D02 (unused_dependency_text output n body.name)) (name_once p body.object i t.input input
          t.is_input is_input)
          ∙ sym same,
    ))
