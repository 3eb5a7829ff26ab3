-- No body of a lowered source calls another.
use Rattle.std.proofs.Common.{List, [], ◌∷◌, All}
use Rattle.core_form.specs.Calls.{HasNoCalls, IsWithoutCalls}
use Rattle.core_form.specs.Code.{code_of}
use Rattle.core_form.specs.declared.program.Body.{Body}
use Rattle.core_form.specs.declared.program.Program.{Program}
use Rattle.std.proofs.lemmas.List.Elements.{All-nil, All-cons, All-same}
use Rattle.std.specs.Prelude.{true, false}
use Rattle.first_conditions.specs.Conditions.{variable_keys}
use Rattle.first_path.specs.declared.source.Source.{Source}
use Rattle.first_lower.specs.Lowered.{IsLowered, elaboration, low_procedure}
use Rattle.first_lower.proofs.Entries.{All-slice_get}
use Rattle.first_lower.proofs.Seen.{statements_alone, variables_alone}

pub lowered_plain : (s : Source) (p : Program) → IsLowered s p → HasNoCalls p
lowered_plain s p l b body is =
    let Q = λ (x : Body). IsWithoutCalls (code_of p.exprs p.stmts x.code) in
    let spec = elaboration s.spec.«package» s.spec.«package» l.first true in
    let elab = elaboration s.spec.«package» s.body.«package» l.second false in
    let procedure = low_procedure (variable_keys s.spec.variables) s l.third in
    All-slice_get Q p.bodies b body
    (All-same Q p.bodies (spec ∷ elab ∷ procedure ∷ []) l.bodies
    (All-cons Q spec (elab ∷ procedure ∷ []) (rw l.spec_code (variables_alone 0 s.spec.variables))
    (All-cons Q elab (procedure ∷ []) (rw l.body_code tt)
    (All-cons Q procedure [] (rw l.procedure_code (statements_alone (variable_keys s.spec.variables) l.statements)) (All-nil Q)))))
    is
