-- A source has one report at most.
use Rattle.std.proofs.Common.{◌≡◌, ◌∙◌, ℕ, false, List, [], ◌∷◌, ◌++◌, Option, Some, None, Bool, refl, ap, sym, subst}
use Rattle.std.specs.Prelude.{slice_get}
use Rattle.std.proofs.lemmas.List.{append-nil}
use Rattle.spark_base.specs.declared.numbers.FileNo.{FileNo}
use Rattle.spark_base.specs.declared.numbers.StmtNo.{StmtNo}
use Rattle.core_form.specs.declared.contract.Contract.{Contract}
use Rattle.core_form.specs.declared.program.Body.{Body}
use Rattle.core_form.specs.declared.program.Program.{Program}
use Rattle.flow_relations.specs.Equation.{equation}
use Rattle.flow_relations.specs.Flow.{Summary}
use Rattle.flow_relations.specs.Told.{IsRow}
use Rattle.first_conditions.specs.Conditions.{variable_keys}
use Rattle.first_path.specs.Symbols.{Spells, symbols}
use Rattle.first_path.specs.declared.source.Source.{Source}
use Rattle.first_path.proofs.One.{one_source}
use Rattle.first_lower.specs.Lowered.{IsLowered, elaboration, low_contract, low_procedure}
use Rattle.first_lower.proofs.Lines.{one_code}
use Rattle.spark_messages.specs.declared.messages.Message.{Message}
use Rattle.spark_messages.specs.Message.{HaveSame}
use Rattle.spark_messages.proofs.MessageOrder.{ordered-unique}
use Rattle.flow_driver.specs.declared.report.Report.{Report}
use Rattle.flow_driver.specs.Report.{AreChecked, AreFlowMessages, AreJoined, AreMessagesFrom, HasReport, IsReading, IsReportOf}
use Rattle.flow_driver.proofs.SameEquation.{equation_same}
use Rattle.flow_driver.proofs.SameMessages.{messages_same}

-- the bytes spell one source at most
pub one_spelled : (file : FileNo) (bytes : List ℕ) (s u : Source) → Spells file bytes s → Spells file bytes u → s ≡ u
one_spelled file bytes s u h k =
    let ok = sym h.cut ∙ k.cut in
    let same : h.tokens ≡ k.tokens = cc in
    one_source s u (sym h.spell ∙ ap (symbols bytes) same ∙ k.spell)

-- the procedure of a source, whose code has this number
abbrev pub procedure : Source → StmtNo → Body
procedure s number = low_procedure (variable_keys s.spec.variables) s number

abbrev pub contract : Source → Contract
contract s = low_contract (variable_keys s.spec.variables) s.spec.procedure.aspect s.spec.procedure.global

nothing_first : (Q : List Message → Type 0) (list : List Message) → AreJoined (λ l. l ≡ []) Q list → Q list
nothing_first Q list j =
    let is : j.others ≡ list = sym (j.list_is ∙ ap (λ (l : List Message). l ++ j.others) j.is_first) in
    subst Q is j.are_others

nothing_last : (P : List Message → Type 0) (list : List Message) → AreJoined P (λ l. l ≡ []) list → P list
nothing_last P list j =
    let is : j.first ≡ list = sym (j.list_is ∙ ap (λ (l : List Message). j.first ++ l) j.are_others ∙ append-nil j.first) in
    subst P is j.is_first

-- the messages on a lowered program are those on its procedure
pub found_is : (s : Source) (p : Program) (h : IsLowered s p) (found : List Message) → AreMessagesFrom p 0 p.bodies found → AreChecked p 2 (procedure s h.third) (contract s) found
found_is s p h found m =
    let k = subst (λ (bodies : List Body). AreMessagesFrom p 0 bodies found) h.bodies m in
    nothing_last (AreChecked p 2 (procedure s h.third) (contract s)) found
    (nothing_first (AreMessagesFrom p 2 (procedure s h.third ∷ [])) found
    (nothing_first (AreMessagesFrom p 1 (elaboration s.spec.«package» s.body.«package» h.second false ∷ procedure s h.third ∷ [])) found k))

module _ (s : Source) (p q : Program) (h : IsLowered s p) (k : IsLowered s q) where
  pub one_equation : equation p 2 ≡ equation q 2
  one_equation =
      equation_same p q (h.leaves ∙ sym k.leaves) (h.vars ∙ sym k.vars) 2 (procedure s h.third) (procedure s k.third)
      (ap (λ (bodies : List Body). slice_get bodies 2) h.bodies) (ap (λ (bodies : List Body). slice_get bodies 2) k.bodies)
      refl (h.procedure_code ∙ one_code (variable_keys s.spec.variables) h.statements k.statements (sym h.written ∙ k.written) ∙ sym k.procedure_code)

  one_found : (found other : List Message) → AreMessagesFrom p 0 p.bodies found → AreMessagesFrom q 0 q.bodies other → found ≡ other
  one_found found other m n =
      let a = found_is s p h found m in
      let b = found_is s q k other n in
      let row : IsRow b.row (equation p 2) = subst (λ (e : Summary). IsRow b.row e) (sym one_equation) b.is_row in
      a.list_is
      ∙ messages_same p q a.row b.row (equation p 2) (procedure s h.third) k.third (contract s) (h.vars ∙ sym k.vars) (h.items ∙ sym k.items) a.is_row row
      ∙ sym b.list_is

  one_list : (xs ys : List Message) → AreFlowMessages p xs → AreFlowMessages q ys → xs ≡ ys
  one_list xs ys a b =
      let is = one_found a.found b.found a.are_found b.are_found in
      let same : HaveSame ys a.found = subst (λ (l : List Message). HaveSame ys l) (sym is) b.same in
      ordered-unique xs ys a.sorted b.sorted (record {
        same = λ m. (λ x. (same.same m).1 ((a.same.same m).0 x), λ y. (a.same.same m).1 ((same.same m).0 y));
      })

same_report : (r t : Report) → r.messages ≡ t.messages → r.refused ≡ t.refused → r ≡ t
same_report r t messages refused =
    ap (λ (x : List Message). let y : Report = record { messages = x; refused = r.refused } in y) messages
    ∙ ap (λ (x : Bool). let y : Report = record { messages = t.messages; refused = x } in y) refused

at_readings : (bytes : List ℕ) (r t : Report) (o u : Option Program) → IsReading bytes o → IsReading bytes u → IsReportOf o r → IsReportOf u t → r ≡ t
at_readings bytes r t None None h k a b = a ∙ sym b
at_readings bytes r t None (Some q) h k a b = absurd (h k.source k.is_first)
at_readings bytes r t (Some p) None h k a b = absurd (k h.source h.is_first)
at_readings bytes r t (Some p) (Some q) h k a b =
    let is = one_spelled _ bytes k.source h.source k.is_first.spells h.is_first.spells in
    let lowered : IsLowered h.source q = subst (λ (s : Source). IsLowered s q) is k.lowered in
    same_report r t (one_list h.source p q h.lowered lowered r.messages t.messages a.messages b.messages) (a.accepted ∙ sym b.accepted)

pub one_report : (bytes : List ℕ) (r t : Report) → HasReport bytes r → HasReport bytes t → r ≡ t
one_report bytes r t h k = at_readings bytes r t h.reading k.reading h.is_reading k.is_reading h.is_report k.is_report
