-- How the actuals of a call are passed, by the tables of the program.
use Rattle.std.specs.Prelude.{ℕ, suc, zero, ◌+◌, Bool, cond, List, [], ◌∷◌, ◌++◌, Option, Some, None, slice_get, length}
use Rattle.spark_base.specs.declared.numbers.BodyNo.{BodyNo}
use Rattle.spark_base.specs.declared.numbers.LeafNo.{LeafNo}
use Rattle.core_form.specs.declared.program.Body.{Body}
use Rattle.core_form.specs.declared.program.Formal.{Formal}
use Rattle.core_form.specs.declared.program.ParamMode.{ParamMode}
use Rattle.core_form.specs.declared.program.Program.{Program}
use Rattle.core_form.specs.Proper.{result_of}
use Rattle.core_form.specs.declared.program.Var.{Var}
use Rattle.call_flow.specs.declared.signatures.Passing.{Passing}
use Rattle.call_flow.specs.declared.signatures.Signature.{Signature}
use Rattle.callee_view.specs.Seen.{is_moved_back, is_moved_in}

-- so many leaves from one on
abbrev pub leaves_from : ℕ → ℕ → List LeafNo
leaves_from first zero = []
leaves_from first (suc n) = record { 0 = first } ∷ leaves_from (suc first) n

abbrev pub leaves_of : Option Var → List LeafNo
leaves_of None = []
leaves_of (Some v) = leaves_from v.«from».0 v.count

abbrev pub count_of : Option Var → ℕ
count_of None = 0
count_of (Some v) = v.count

-- the leaves of the formals in order, and behind them those of the result
abbrev pub passed_of : Program → ℕ → List Formal → List LeafNo
passed_of p b [] = leaves_of (result_of b p.vars)
passed_of p b (f ∷ fs) = leaves_of (slice_get p.vars f.var.0) ++ passed_of p b fs

-- a formal of this mode and so many leaves, the first of which stands at this place
abbrev pub passing_by : ℕ → ParamMode → ℕ → Passing
passing_by first mode count = record { first = first; ins = cond (is_moved_in mode) count 0; backs = cond (is_moved_back mode) count 0 }

-- how each of them is passed, the first beginning at this place
abbrev pub passings_of : Program → ℕ → ℕ → List Formal → List Passing
passings_of p b first [] = record { first = first; ins = 0; backs = count_of (result_of b p.vars) } ∷ []
passings_of p b first (f ∷ fs) =
    let count = count_of (slice_get p.vars f.var.0) in
    passing_by first f.mode count ∷ passings_of p b (first + count) fs

abbrev pub formals_at : Option Body → List Formal
formals_at None = []
formals_at (Some body) = body.formals

-- of a body
abbrev pub signature_of : Program → ℕ → Signature
signature_of p b = record { leaves = passed_of p b (formals_at (slice_get p.bodies b)); passings = passings_of p b 0 (formals_at (slice_get p.bodies b)) }
