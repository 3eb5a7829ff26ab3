-- The messages on the Global of a body, over its row.
use Rattle.std.specs.Prelude.{ℕ, zero, suc, ◌+◌, ◌++◌, Bool, true, false, not, ◌&&◌, ◌||◌}
use Rattle.std.specs.Prelude.{if◌then◌else◌, nat_eq, List, [], ◌∷◌, Option, Some, None, slice_get, slice_index_or}
use Rattle.std.specs.List.{list_any}
use Rattle.spark_base.specs.declared.numbers.Span.{Span}
use Rattle.core_form.specs.declared.contract.Contract.{Contract}
use Rattle.core_form.specs.declared.contract.GlobalItem.{GlobalItem}
use Rattle.core_form.specs.declared.contract.Mode.{Mode}
use Rattle.core_form.specs.declared.contract.Mode.TheVariants as modes
use Rattle.core_form.specs.declared.program.Body.{Body}
use Rattle.core_form.specs.declared.program.Item.{Item}
use Rattle.core_form.specs.declared.program.Item.TheVariants as item
use Rattle.core_form.specs.declared.program.Program.{Program}
use Rattle.core_form.specs.declared.program.Var.{Var}
use Rattle.flow_relations.specs.declared.equation.BodyRow.{BodyRow}
use Rattle.spark_messages.specs.declared.message_texts.UsedMode.{UsedMode}
use Rattle.spark_messages.specs.declared.message_texts.UsedMode.TheVariants as used
use Rattle.spark_messages.specs.declared.messages.Code.{Code}
use Rattle.spark_messages.specs.declared.messages.Code.TheVariants as code
use Rattle.spark_messages.specs.declared.messages.Kind.TheVariants as kinds
use Rattle.spark_messages.specs.declared.messages.Message.{Message}
use Rattle.spark_messages.specs.MessageTexts.{unlisted_text, written_input_text, read_output_text}

-- Used modes

abbrev pub has : List Bool → ℕ → Bool
has row leaf = slice_index_or row leaf false

-- some of so many leaves, from one on, passes the test
abbrev pub some_leaf : (ℕ → Bool) → ℕ → ℕ → Bool
some_leaf test zero leaf = false
some_leaf test (suc n) leaf = test leaf || some_leaf test n (suc leaf)

-- some leaf of a variable passes the test
abbrev pub some_of : (ℕ → Bool) → Var → Bool
some_of test v = some_leaf test v.count v.«from».0

-- the leaf may hold its entry value at the return: it is kept, or the row does not speak of it
abbrev pub stays : BodyRow → ℕ → Bool
stays row leaf = has row.keeps leaf || not (has row.leaves leaf)

-- what is done with an item of which some leaf is read, written, left
abbrev pub mode_used : Bool → Bool → Bool → UsedMode
mode_used false false left = used.Nothing
mode_used true false left = used.Input
mode_used false true false = used.Output
mode_used false true true = used.InOut
mode_used true true left = used.InOut

-- whether a body writes a variable
abbrev pub is_written : BodyRow → Var → Bool
is_written row v = some_of (has row.writes) v

-- whether a body may read what a variable held before, and whether it may leave it
abbrev pub is_read : BodyRow → Var → Bool
is_read row v = some_of (has row.reads) v

abbrev pub is_left : BodyRow → Var → Bool
is_left row v = row.returns && some_of (stays row) v

abbrev pub used_mode : BodyRow → Var → UsedMode
used_mode row v = mode_used (is_read row v) (is_written row v) (is_left row v)

-- Messages

-- an error at the beginning of a span
abbrev pub error_at : Span → Code → List ℕ → Message
error_at span which text = record { file = span.file; place = span.«from»; code = which; text = text; kind = kinds.Error }

-- the variable of an item
abbrev pub var_of : Program → Item → Option Var
var_of p (item.Whole v) = slice_get p.vars v.0
var_of p (item.State s) = None
var_of p (item.Guard o) = None

abbrev pub is_proof_in : Mode → Bool
is_proof_in modes.Input = false
is_proof_in modes.Output = false
is_proof_in modes.InOut = false
is_proof_in modes.ProofIn = true

-- whether a Global lists the item of this number, other than for proofs alone
abbrev pub is_listed : List GlobalItem → ℕ → Bool
is_listed globals i = list_any (λ g. nat_eq g.item.0 i && not (is_proof_in g.mode)) globals

-- G01 on a variable that is not listed: none where it is not used
abbrev pub unlisted_var : Body → Var → UsedMode → List Message
unlisted_var body v used.Nothing = []
unlisted_var body v used.Input = error_at body.place code.G01 (unlisted_text v.name used.Input body.name) ∷ []
unlisted_var body v used.Output = error_at body.place code.G01 (unlisted_text v.name used.Output body.name) ∷ []
unlisted_var body v used.InOut = error_at body.place code.G01 (unlisted_text v.name used.InOut body.name) ∷ []

-- G01 on an item, by whether it is listed
abbrev pub unlisted_item : BodyRow → Body → Bool → Option Var → List Message
unlisted_item row body true v = []
unlisted_item row body false None = []
unlisted_item row body false (Some v) = unlisted_var body v (used_mode row v)

-- G01 on the items from this number on, by which of them are listed
abbrev pub unlisted_from : Program → BodyRow → Body → (ℕ → Bool) → ℕ → List Item → List Message
unlisted_from p row body listed i [] = []
unlisted_from p row body listed i (x ∷ xs) =
    unlisted_item row body (listed i) (var_of p x) ++ unlisted_from p row body listed (i + 1) xs

-- the variable that an item of a Global names
abbrev pub var_named : Program → GlobalItem → Option Var
var_named p g = elim (slice_get p.items g.item.0) [ None ↦ None | Some x ↦ var_of p x ]

-- G02 on a variable that is an input
abbrev pub input_var : BodyRow → Body → Span → Option Var → List Message
input_var row body place None = []
input_var row body place (Some v) =
    if is_written row v then error_at place code.G02 (written_input_text v.name body.name) ∷ [] else []

-- G03 on a variable that is an output
abbrev pub output_var : BodyRow → Body → Span → Option Var → List Message
output_var row body place None = []
output_var row body place (Some v) =
    if is_read row v || is_left row v then error_at place code.G03 (read_output_text v.name body.name) ∷ [] else []

-- G02 and G03 on an item of a Global
abbrev pub listed_item : Program → BodyRow → Body → GlobalItem → Mode → List Message
listed_item p row body g modes.Input = input_var row body g.place (var_named p g)
listed_item p row body g modes.Output = output_var row body g.place (var_named p g)
listed_item p row body g modes.InOut = []
listed_item p row body g modes.ProofIn = []

abbrev pub listed_messages : Program → BodyRow → Body → List GlobalItem → List Message
listed_messages p row body [] = []
listed_messages p row body (g ∷ gs) = listed_item p row body g g.mode ++ listed_messages p row body gs

-- the messages on a body with this Global
abbrev pub global_messages : Program → BodyRow → Body → Contract → List Message
global_messages p row body c = unlisted_from p row body (is_listed c.globals) 0 p.items ++ listed_messages p row body c.globals
