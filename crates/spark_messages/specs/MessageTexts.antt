-- The texts of messages, as functions of the names that they mention.
use Rattle.std.specs.Prelude.{ℕ, List, [], ◌++◌, codes}
use Rattle.spark_messages.specs.declared.messages.Code.{Code}
use Rattle.spark_messages.specs.declared.messages.Code.TheVariants as code
use Rattle.spark_messages.specs.declared.message_texts.UsedMode.{UsedMode}
use Rattle.spark_messages.specs.declared.message_texts.UsedMode.TheVariants as used

-- what a body does with an item, as it is printed
abbrev pub mode_text : UsedMode → List ℕ
mode_text used.Nothing = codes "nothing"
mode_text used.Input = codes "Input"
mode_text used.Output = codes "Output"
mode_text used.InOut = codes "In_Out"

-- a name between quotes
abbrev pub quoted : List ℕ → List ℕ
quoted name = codes "\"" ++ name ++ codes "\""

-- the text of a refusal that mentions no name; empty for the other codes
abbrev pub refusal_text : Code → List ℕ
refusal_text code.L01 = codes "byte outside ASCII"
refusal_text code.L02 = codes "malformed number"
refusal_text code.L03 = codes "number past 128 bits"
refusal_text code.L04 = codes "unknown character"
refusal_text code.N03 = codes "specs with each other in a circle"
refusal_text code.S01 = codes "not in the grammar here"
refusal_text code.X01 = codes "too many bytes"
refusal_text code.X02 = codes "nesting too deep"
refusal_text code.X03 = codes "more than 4096 bodies"
refusal_text code.X04 = codes "more than 16384 leaves"
refusal_text code.X05 = codes "summary table too large"
refusal_text code.X06 = codes "more than 1000 files"
refusal_text code.Y01 = codes "static value past 128 bits"
refusal_text code.Y02 = codes "not static"
refusal_text code.Y03 = codes "static division by zero"
refusal_text code.Y04 = codes "types differ"
refusal_text code.Y05 = codes "range or modulus is not allowed"
refusal_text code.Y06 = codes "no such component"
refusal_text code.Y07 = codes "not an array"
refusal_text code.Y08 = codes "case choices are not exact"
refusal_text code.Y09 = codes "aggregate is not exact"
refusal_text _ = []

-- The texts that mention names, in the order of their codes

-- actual of "LATER" overlaps actual of "EARLIER"
abbrev pub overlapping_actuals_text : List ℕ → List ℕ → List ℕ
overlapping_actuals_text later earlier =
    codes "actual of " ++ quoted later ++ codes " overlaps actual of " ++ quoted earlier

-- actual of "FORMAL" overlaps global "ITEM"
abbrev pub overlapping_global_text : List ℕ → List ℕ → List ℕ
overlapping_global_text formal item =
    codes "actual of " ++ quoted formal ++ codes " overlaps global " ++ quoted item

-- "OUTPUT" depends on "INPUT" but Depends of "BODY" does not say so
abbrev pub missing_dependency_text : List ℕ → List ℕ → List ℕ → List ℕ
missing_dependency_text output input body =
    quoted output ++ codes " depends on " ++ quoted input ++ codes " but Depends of " ++ quoted body ++ codes " does not say so"

-- "OUTPUT" does not depend on "INPUT" in "BODY"
abbrev pub unused_dependency_text : List ℕ → List ℕ → List ℕ → List ℕ
unused_dependency_text output input body =
    quoted output ++ codes " does not depend on " ++ quoted input ++ codes " in " ++ quoted body

-- "ITEM" is listed twice as output
abbrev pub doubled_output_text : List ℕ → List ℕ
doubled_output_text item = quoted item ++ codes " is listed twice as output"

-- "ITEM" is no output
abbrev pub no_output_text : List ℕ → List ℕ
no_output_text item = quoted item ++ codes " is no output"

-- "ITEM" is no input
abbrev pub no_input_text : List ℕ → List ℕ
no_input_text item = quoted item ++ codes " is no input"

-- output "ITEM" is missing
abbrev pub missing_output_text : List ℕ → List ℕ
missing_output_text item = codes "output " ++ quoted item ++ codes " is missing"

-- input "ITEM" is missing
abbrev pub missing_input_text : List ℕ → List ℕ
missing_input_text item = codes "input " ++ quoted item ++ codes " is missing"

-- "LEAF" might not be assigned here
abbrev pub unassigned_text : List ℕ → List ℕ
unassigned_text leaf = quoted leaf ++ codes " might not be assigned here"

-- out parameter "LEAF" might not be assigned when "BODY" returns
abbrev pub unassigned_out_text : List ℕ → List ℕ → List ℕ
unassigned_out_text leaf body =
    codes "out parameter " ++ quoted leaf ++ codes " might not be assigned when " ++ quoted body ++ codes " returns"

-- "ITEM" is MODE in "BODY" but its Global does not list it
abbrev pub unlisted_text : List ℕ → UsedMode → List ℕ → List ℕ
unlisted_text item used body =
    quoted item ++ codes " is " ++ mode_text used ++ codes " in " ++ quoted body ++ codes " but its Global does not list it"

-- "ITEM" is Input but "BODY" writes it
abbrev pub written_input_text : List ℕ → List ℕ → List ℕ
written_input_text item body = quoted item ++ codes " is Input but " ++ quoted body ++ codes " writes it"

-- "ITEM" is Output but "BODY" may read its initial value or leave it; it must be In_Out
abbrev pub read_output_text : List ℕ → List ℕ → List ℕ
read_output_text item body =
    quoted item ++ codes " is Output but " ++ quoted body ++ codes " may read its initial value or leave it; it must be In_Out"

-- "ITEM" is declared MODE but "BODY" uses it as MODE
abbrev pub unused_mode_text : List ℕ → UsedMode → List ℕ → UsedMode → List ℕ
unused_mode_text item declared body used =
    quoted item ++ codes " is declared " ++ mode_text declared ++ codes " but " ++ quoted body ++ codes " uses it as " ++ mode_text used

-- function "FUNCTION" writes "ITEM"
abbrev pub writing_function_text : List ℕ → List ℕ → List ℕ
writing_function_text function item = codes "function " ++ quoted function ++ codes " writes " ++ quoted item

-- "ITEM" is listed in Initializes but might not be assigned after elaboration
abbrev pub unassigned_initial_text : List ℕ → List ℕ
unassigned_initial_text item =
    quoted item ++ codes " is listed in Initializes but might not be assigned after elaboration"

-- "ITEM" is assigned by elaboration but not listed
abbrev pub unlisted_initial_text : List ℕ → List ℕ
unlisted_initial_text item = quoted item ++ codes " is assigned by elaboration but not listed"

-- elaboration of "ELABORATED" writes "LEAF"
abbrev pub foreign_write_text : List ℕ → List ℕ → List ℕ
foreign_write_text elaborated leaf = codes "elaboration of " ++ quoted elaborated ++ codes " writes " ++ quoted leaf

-- "LEAF" might not be assigned by elaboration but "READER" reads it
abbrev pub unassigned_at_start_text : List ℕ → List ℕ → List ℕ
unassigned_at_start_text leaf reader =
    quoted leaf ++ codes " might not be assigned by elaboration but " ++ quoted reader ++ codes " reads it"

-- "NAME" is not visible
abbrev pub not_visible_text : List ℕ → List ℕ
not_visible_text name = quoted name ++ codes " is not visible"

-- "NAME" is declared twice
abbrev pub declared_twice_text : List ℕ → List ℕ
declared_twice_text name = quoted name ++ codes " is declared twice"

-- "NAME" has no body
abbrev pub without_body_text : List ℕ → List ℕ
without_body_text name = quoted name ++ codes " has no body"

-- "NAME" differs from its declaration
abbrev pub differing_text : List ℕ → List ℕ
differing_text name = quoted name ++ codes " differs from its declaration"

-- "NAME" is not a variable here
abbrev pub not_variable_text : List ℕ → List ℕ
not_variable_text name = quoted name ++ codes " is not a variable here"

-- "NAME" cannot be called here
abbrev pub not_callable_text : List ℕ → List ℕ
not_callable_text name = quoted name ++ codes " cannot be called here"

-- wrong actuals for "NAME"
abbrev pub wrong_actuals_text : List ℕ → List ℕ
wrong_actuals_text name = codes "wrong actuals for " ++ quoted name

-- "NAME" is not visible in this contract
abbrev pub not_in_contract_text : List ℕ → List ℕ
not_in_contract_text name = quoted name ++ codes " is not visible in this contract"

-- "NAME" breaks a rule of tasks and protected units
abbrev pub tasking_rule_text : List ℕ → List ℕ
tasking_rule_text name = quoted name ++ codes " breaks a rule of tasks and protected units"

-- second main "NAME"
abbrev pub second_main_text : List ℕ → List ℕ
second_main_text name = codes "second main " ++ quoted name

-- aspect "ASPECT" is not allowed here
abbrev pub misplaced_aspect_text : List ℕ → List ℕ
misplaced_aspect_text aspect = codes "aspect " ++ quoted aspect ++ codes " is not allowed here"

-- state "STATE" is not refined
abbrev pub unrefined_state_text : List ℕ → List ℕ
unrefined_state_text state = codes "state " ++ quoted state ++ codes " is not refined"

-- "VARIABLE" is a constituent twice
abbrev pub doubled_constituent_text : List ℕ → List ℕ
doubled_constituent_text variable = quoted variable ++ codes " is a constituent twice"

-- "VARIABLE" belongs to no state
abbrev pub without_state_text : List ℕ → List ℕ
without_state_text variable = quoted variable ++ codes " belongs to no state"

-- Part_Of of "VARIABLE" does not agree with Refined_State
abbrev pub part_of_text : List ℕ → List ℕ
part_of_text variable = codes "Part_Of of " ++ quoted variable ++ codes " does not agree with Refined_State"

-- "ITEM" is MODE but its refinement is MODE
abbrev pub refined_mode_text : List ℕ → UsedMode → UsedMode → List ℕ
refined_mode_text item mode refined =
    quoted item ++ codes " is " ++ mode_text mode ++ codes " but its refinement is " ++ mode_text refined

-- "OUTPUT" => "INPUT" is missing in Depends
abbrev pub missing_pair_text : List ℕ → List ℕ → List ℕ
missing_pair_text output input =
    quoted output ++ codes " => " ++ quoted input ++ codes " is missing in Depends"

-- "OUTPUT" => "INPUT" is not in Refined_Depends
abbrev pub unrefined_pair_text : List ℕ → List ℕ → List ℕ
unrefined_pair_text output input =
    quoted output ++ codes " => " ++ quoted input ++ codes " is not in Refined_Depends"

-- "VARIABLE" is accessed by "FIRST" and "SECOND" without synchronisation
abbrev pub unsynchronised_text : List ℕ → List ℕ → List ℕ → List ℕ
unsynchronised_text variable first second =
    quoted variable ++ codes " is accessed by " ++ quoted first ++ codes " and " ++ quoted second ++ codes " without synchronisation"

-- "OPERATION" may block inside a protected action
abbrev pub blocking_text : List ℕ → List ℕ
blocking_text operation = quoted operation ++ codes " may block inside a protected action"

-- entry "ENTRY" is called by "FIRST" and "SECOND"
abbrev pub shared_entry_text : List ℕ → List ℕ → List ℕ → List ℕ
shared_entry_text entry first second =
    codes "entry " ++ quoted entry ++ codes " is called by " ++ quoted first ++ codes " and " ++ quoted second

-- "VARIABLE" needs an initial value
abbrev pub without_initial_text : List ℕ → List ℕ
without_initial_text variable = quoted variable ++ codes " needs an initial value"

-- "WORD" is outside the subset
abbrev pub outside_text : List ℕ → List ℕ
outside_text word = quoted word ++ codes " is outside the subset"
