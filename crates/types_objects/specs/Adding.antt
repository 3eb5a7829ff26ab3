-- Types that are added to the table.
use Rattle.std.specs.Prelude.{◌≡◌, ◌+◌, List, [], ◌∷◌, ◌++◌, Option, Some, None, Result, Ok, Err, length}
use Rattle.spark_base.specs.declared.numbers.DeclNo.{DeclNo}
use Rattle.spark_base.specs.declared.numbers.FileNo.{FileNo}
use Rattle.spark_base.specs.declared.numbers.TypeNo.{TypeNo}
use Rattle.spark_messages.specs.declared.messages.PhaseFault.{PhaseFault}
use Rattle.spark_messages.specs.declared.messages.PhaseFault.TheVariants as faults
use Rattle.ada_tree.specs.declared.declarations.DeclNode.{DeclNode}
use Rattle.static_meanings.specs.Meanings.{type_at}
use Rattle.static_eval.specs.Values.{IsRefusal}
use Rattle.types_objects.specs.declared.made.Made.{Made}
use Rattle.types_objects.specs.declared.made.Made.TheVariants as made
use Rattle.types_objects.specs.declared.made.NewType.{NewType}
use Rattle.types_objects.specs.declared.types.Types.{Types}

-- one element less at the end
abbrev pub IsShorter : {A : Type 0} → List A → List A → Type 0
IsShorter {A} old new = (xs : List A) (x : A) → old ≡ xs ++ x ∷ [] → new ≡ xs

abbrev pub file_of_decl : Option DeclNode → FileNo
file_of_decl None = record { 0 = 0 }
file_of_decl (Some node) = node.span.file

-- one type more behind the others
abbrev pub appended : Types → NewType → Types
appended t new = record t { list = t.list ++ new.def ∷ []; first = t.first ++ new.first ∷ [] }

-- the declaration has this type
abbrev pub numbered : Types → DeclNo → TypeNo → Types
numbered t d n = record t { numbers = t.numbers ++ (d.0, n) ∷ [] }

-- what is answered of what a declaration makes, and the table then; after a refusal and for want of memory it is as it was
abbrev pub IsAdded : DeclNo → FileNo → Made → Types → Types → Result TypeNo PhaseFault → Type 0
IsAdded d file made old new (Err faults.NoMemory) = new ≡ old
IsAdded d file (made.Refused code place) old new (Err (faults.Refused m)) = IsRefusal file code place (faults.Refused m) × (new ≡ old)
IsAdded d file (made.Same t) old new (Ok n) = (n ≡ t) × (new ≡ numbered old d t)
IsAdded d file (made.One x) old new (Ok n) = (n ≡ type_at (length old.list)) × (new ≡ numbered (appended old x) d n)
IsAdded d file (made.Two x y) old new (Ok n) = (n ≡ type_at (length old.list + 1)) × (new ≡ numbered (appended (appended old x) y) d n)
IsAdded d file _ old new _ = ⊥
