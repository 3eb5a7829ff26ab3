-- The words of attributes, in whatever case.
use Rattle.std.specs.Prelude.{ℕ, List, if◌then◌else◌, codes}
use Rattle.ada_tree.specs.Words.{is_written}
use Rattle.ada_forms.specs.declared.attributes.Property.{Property}
use Rattle.ada_forms.specs.declared.attributes.Property.TheVariants as properties

unfoldable pub property_of : List ℕ → Property
property_of text =
    if is_written text (codes "first") then properties.First else
    if is_written text (codes "last") then properties.Last else
    if is_written text (codes "length") then properties.Length else
    if is_written text (codes "succ") then properties.Succ else
    if is_written text (codes "pred") then properties.Pred else
    if is_written text (codes "min") then properties.Min else
    if is_written text (codes "max") then properties.Max else
    if is_written text (codes "pos") then properties.Pos else
    if is_written text (codes "val") then properties.Val else properties.Other
