-- What a declaration tells of static values: the bounds of its type, and the positions of its literals.
use Rattle.std.specs.Prelude.{ℕ, suc, List, [], ◌∷◌, ◌++◌, Option, Some, None, pos}
use Rattle.spark_base.specs.declared.numbers.DeclNo.{DeclNo}
use Rattle.spark_base.specs.declared.numbers.TypeNo.{TypeNo}
use Rattle.ada_forms.specs.Declarations.{Decl, decl_of}
use Rattle.ada_forms.specs.Declarations as decls
use Rattle.ada_tree.specs.declared.units.Units.{Units}
use Rattle.static_eval.specs.declared.known.Known.{Known}
use Rattle.static_meanings.specs.declared.meanings.Range.{Range}
use Rattle.types_objects.specs.declared.types.Types.{Types}
use Rattle.types_objects.specs.Ranges.{range_of}

abbrev pub with_range : Known → DeclNo → Option Range → Known
with_range k d None = k
with_range k d (Some range) = record k { ranges = k.ranges ++ (d.0, range) ∷ [] }

abbrev pub with_literal : Known → Option Range → ℕ → DeclNo → Known
with_literal k range n d = with_range (record k { values = k.values ++ (d.0, pos n) ∷ [] }) d range

-- literals have the positions from n on
abbrev pub with_literals : Known → Option Range → ℕ → List DeclNo → Known
with_literals k range n [] = k
with_literals k range n (d ∷ ds) = with_literals (with_literal k range n d) range (suc n) ds

abbrev pub literals_of : Decl → List DeclNo
literals_of (decls.EnumerationType d at name literals) = literals
literals_of _ = []

abbrev pub with_declared : Known → DeclNo → Option Range → Decl → Known
with_declared k d range decl = with_literals (with_range k d range) range 0 (literals_of decl)

-- the declaration has this type
abbrev pub with_type : Types → Units → DeclNo → TypeNo → Known → Known
with_type types u d t k = with_declared k d (range_of types t) (decl_of u d)
