-- Lists that grow as sets, and messages at places.
use Rattle.std.specs.Prelude.{◌⊎◌, ◌↔◌, ℕ, List, [], ◌∷◌}
use Rattle.std.specs.List.{Contains}
use Rattle.spark_base.specs.declared.numbers.Span.{Span}
use Rattle.spark_messages.specs.declared.messages.Code.{Code}
use Rattle.spark_messages.specs.declared.messages.Kind.TheVariants as kinds
use Rattle.spark_messages.specs.declared.messages.Message.{Message}

-- what is in the new list was in the old one, or is one of these
pub record Adds {X : Type 0} (old new : List X) (P : X → Type 0) : Type 0 where
  pub same : (x : X) → Contains new x ↔ (Contains old x ⊎ P x)

-- some element of the list passes
abbrev pub SomeOf : {X : Type 0} → (X → Type 0) → List X → Type 0
SomeOf P [] = ⊥
SomeOf P (x ∷ xs) = P x ⊎ SomeOf P xs

-- an error, and a warning, at the beginning of a span
abbrev pub error_at : Span → Code → List ℕ → Message
error_at span code text = record { file = span.file; place = span.«from»; code = code; text = text; kind = kinds.Error }

abbrev pub warning_at : Span → Code → List ℕ → Message
warning_at span code text = record { file = span.file; place = span.«from»; code = code; text = text; kind = kinds.Warning }
