-- Identifiers that the grammar knows by their text, in whatever case.
use Rattle.std.specs.Prelude.{ℕ, Bool, true, false, List, Option, Some, None, if◌then◌else◌, codes}
use Rattle.ada_tree.specs.Words.{is_written}
use Rattle.ada_tree.specs.declared.aspects.GlobalMode.{GlobalMode}
use Rattle.ada_tree.specs.declared.aspects.GlobalMode.TheVariants as modes
use Rattle.ada_tree.specs.declared.identifiers.AspectName.{AspectName}
use Rattle.ada_tree.specs.declared.identifiers.AspectName.TheVariants as aspects
use Rattle.ada_tree.specs.declared.identifiers.WordRole.{WordRole}
use Rattle.ada_tree.specs.declared.identifiers.WordRole.TheVariants as roles

-- the mode that a word names, if it names one
unfoldable pub mode_of : List ℕ → Option GlobalMode
mode_of text =
    if is_written text (codes "input") then Some modes.Input else
    if is_written text (codes "output") then Some modes.Output else
    if is_written text (codes "in_out") then Some modes.InOut else
    if is_written text (codes "proof_in") then Some modes.ProofIn else None

abbrev pub is_mode : Option GlobalMode → Bool
is_mode None = false
is_mode (Some mode) = true

abbrev pub or_input : Option GlobalMode → GlobalMode
or_input None = modes.Input
or_input (Some mode) = mode

-- whether a word names a mode, and the one that it names
abbrev pub names_mode : List ℕ → Bool
names_mode text = is_mode (mode_of text)

abbrev pub mode_named : List ℕ → GlobalMode
mode_named text = or_input (mode_of text)

-- what a word is beside an identifier
unfoldable pub role_of : List ℕ → WordRole
role_of text =
    if is_mode (mode_of text) then roles.Mode else
    if is_written text (codes "true") then roles.True else roles.Ordinary

-- contracts that are read over
unfoldable pub is_contract : List ℕ → Bool
is_contract text =
    if is_written text (codes "pre") then true else
    if is_written text (codes "post") then true else
    if is_written text (codes "refined_post") then true else
    if is_written text (codes "contract_cases") then true else
    if is_written text (codes "initial_condition") then true else
    is_written text (codes "subprogram_variant")

-- settings that are read over
unfoldable pub is_setting : List ℕ → Bool
is_setting text =
    if is_written text (codes "spark_mode") then true else
    if is_written text (codes "priority") then true else
    if is_written text (codes "inline") then true else
    if is_written text (codes "size") then true else
    is_written text (codes "always_terminates")

-- properties of what is volatile that are read over
unfoldable pub is_property : List ℕ → Bool
is_property text =
    if is_written text (codes "volatile_function") then true else
    if is_written text (codes "async_readers") then true else
    if is_written text (codes "async_writers") then true else
    if is_written text (codes "effective_reads") then true else
    is_written text (codes "effective_writes")

-- the aspect that a word names
unfoldable pub aspect_name : List ℕ → AspectName
aspect_name text =
    if is_written text (codes "global") then aspects.Global else
    if is_written text (codes "refined_global") then aspects.RefinedGlobal else
    if is_written text (codes "depends") then aspects.Depends else
    if is_written text (codes "refined_depends") then aspects.RefinedDepends else
    if is_written text (codes "abstract_state") then aspects.AbstractState else
    if is_written text (codes "refined_state") then aspects.RefinedState else
    if is_written text (codes "initializes") then aspects.Initializes else
    if is_written text (codes "part_of") then aspects.PartOf else
    if is_written text (codes "atomic") then aspects.Atomic else
    if is_contract text then aspects.Skipped else
    if is_setting text then aspects.Skipped else
    if is_property text then aspects.Skipped else aspects.Unknown
