-- The report of a source: its refusal, or else the messages of the flow.
use Rattle.std.specs.Prelude.{◌≡◌, ℕ, ◌+◌, ◌++◌, true, false, List, [], ◌∷◌, Option, Some, None, codes}
use Rattle.std.specs.List.Sorted.{IsStrictlySortedBy}
use Rattle.core_form.specs.Fine.{IsWellFormed}
use Rattle.core_form.specs.Proper.{IsProper}
use Rattle.core_form.specs.declared.contract.Contract.{Contract}
use Rattle.core_form.specs.declared.program.Body.{Body}
use Rattle.core_form.specs.declared.program.Program.{Program}
use Rattle.flow_relations.specs.declared.equation.BodyRow.{BodyRow}
use Rattle.flow_relations.specs.Equation.{equation}
use Rattle.flow_relations.specs.Told.{IsRow}
use Rattle.first_path.specs.declared.source.Source.{Source}
use Rattle.first_conditions.specs.Conditions.{MeetsConditions}
use Rattle.first_path.specs.Symbols.{Spells}
use Rattle.first_lower.specs.Lowered.{IsLowered}
use Rattle.spark_messages.specs.declared.messages.Code.TheVariants as code
use Rattle.spark_messages.specs.declared.messages.Kind.TheVariants as kinds
use Rattle.spark_messages.specs.declared.messages.Message.{Message}
use Rattle.flow_driver.specs.declared.report.Report.{Report}
use Rattle.spark_messages.specs.Message.{HaveSame, order}
use Rattle.spark_messages.specs.MessageTexts.{outside_text}
use Rattle.flow_driver.specs.GlobalCheck.{global_messages}

-- Readings

-- a source of the first path: it spells one that meets the conditions
pub record IsFirstPath (bytes : List ℕ) (s : Source) : Type 0 where
  pub spells : Spells (record { 0 = 0 }) bytes s
  pub meets : MeetsConditions s

-- the program of a source of the first path, as lowering makes it
pub record IsProgramOf (bytes : List ℕ) (p : Program) : Type 0 where
  pub source : Source
  pub is_first : IsFirstPath bytes source
  pub lowered : IsLowered source p
  pub fine : IsWellFormed p
  pub proper : IsProper p

-- the reading of a source: its program, or none where it is no source of the first path
abbrev pub IsReading : List ℕ → Option Program → Type 0
IsReading bytes (Some p) = IsProgramOf bytes p
IsReading bytes None = (s : Source) → IsFirstPath bytes s → ⊥

-- Messages

-- a body is checked by its refined Global where it has one, and else by its Global
abbrev pub checked_contract : Body → Option Contract
checked_contract body = elim body.inner [ Some c ↦ Some c | None ↦ body.outer ]

-- the messages on a body by the row that it has by its code
pub record AreChecked (p : Program) (b : ℕ) (body : Body) (c : Contract) (list : List Message) : Type 0 where
  pub row : BodyRow
  pub is_row : IsRow row (equation p b)
  pub list_is : list ≡ global_messages p row body c

-- the messages on a body: none without a contract
abbrev pub AreBodyMessages : Program → ℕ → Body → Option Contract → List Message → Type 0
AreBodyMessages p b body None list = list ≡ []
AreBodyMessages p b body (Some c) list = AreChecked p b body c list

-- messages in two parts
pub record AreJoined (P Q : List Message → Type 0) (list : List Message) : Type 0 where
  pub first : List Message
  pub others : List Message
  pub is_first : P first
  pub are_others : Q others
  pub list_is : list ≡ first ++ others

-- the messages on the bodies from this number on
abbrev pub AreMessagesFrom : Program → ℕ → List Body → List Message → Type 0
AreMessagesFrom p b [] list = list ≡ []
AreMessagesFrom p b (body ∷ bodies) list =
    AreJoined (AreBodyMessages p b body (checked_contract body)) (AreMessagesFrom p (b + 1) bodies) list

-- the messages of the flow of a program, in order, each once
pub record AreFlowMessages (p : Program) (list : List Message) : Type 0 where
  pub found : List Message
  pub are_found : AreMessagesFrom p 0 p.bodies found
  pub same : HaveSame list found
  pub sorted : IsStrictlySortedBy order list

-- Reports

-- the refusal of a source that is outside the first path, at its beginning
abbrev pub refusal : Message
refusal = record {
  file = record { 0 = 0 };
  place = record { line = 1; col = 1 };
  code = code.U01;
  text = outside_text (codes "source");
  kind = kinds.Refused;
}

-- the report of a program: the messages of its flow
pub record IsFlowReport (p : Program) (r : Report) : Type 0 where
  pub messages : AreFlowMessages p r.messages
  pub accepted : r.refused ≡ false

abbrev pub IsReportOf : Option Program → Report → Type 0
IsReportOf None r = r ≡ record { messages = refusal ∷ []; refused = true }
IsReportOf (Some p) r = IsFlowReport p r

-- a source has this report
pub record HasReport (bytes : List ℕ) (r : Report) : Type 0 where
  pub reading : Option Program
  pub is_reading : IsReading bytes reading
  pub is_report : IsReportOf reading r

-- the sources have this program: there is one file as yet
unfoldable pub IsProgram : List (List ℕ) → Program → Type 0
IsProgram [] p = ⊥
IsProgram (source ∷ []) p = IsProgramOf source p
IsProgram (source ∷ next ∷ more) p = ⊥

-- the sources have this report: there is one file as yet
unfoldable pub IsReport : List (List ℕ) → Report → Type 0
IsReport [] r = ⊥
IsReport (source ∷ []) r = HasReport source r
IsReport (source ∷ next ∷ more) r = ⊥
