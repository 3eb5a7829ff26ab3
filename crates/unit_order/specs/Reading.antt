-- What the code reads of names. No public answer speaks of it.
use Rattle.std.specs.Prelude.{◌≡◌, ◌<◌, ℕ, ◌++◌, codes}
use Rattle.spark_base.specs.declared.numbers.ExprNo.{ExprNo}
use Rattle.ada_forms.specs.Forms.{Expr}
use Rattle.unit_order.specs.Withs.{begins, written}
use Rattle.unit_order.specs.declared.spelling.Piece.{Piece}
use Rattle.unit_order.specs.declared.spelling.Piece.TheVariants as pieces

-- a name's text and first place, by its last piece
abbrev pub IsRead : (ExprNo → Expr) → Expr → Piece → Type 0
IsRead tree t (pieces.Selected name prefix) =
    (written t ≡ written (tree prefix) ++ codes "." ++ name.now.written) × (begins t ≡ begins (tree prefix))
IsRead tree t (pieces.Word at word) = (written t ≡ word.now) × (begins t ≡ at)

abbrev pub IsShorter : ℕ → Piece → Type 0
IsShorter n (pieces.Selected name prefix) = prefix.0 < n
IsShorter n (pieces.Word at word) = Unit {0}
