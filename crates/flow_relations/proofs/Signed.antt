-- What a signature passes lies within its leaves.
use Rattle.std.proofs.Common.{◌≡◌, ℕ, zero, suc, ◌+◌, ◌≤◌, Bool, true, false, cond, List, [], ◌∷◌, Option, Some, None, length, length-append, refl, arith}
use Rattle.std.specs.Prelude.{slice_get, slice_index_or}
use Rattle.core_form.specs.Proper.{result_of}
use Rattle.core_form.specs.declared.program.Formal.{Formal}
use Rattle.core_form.specs.declared.program.Program.{Program}
use Rattle.core_form.specs.declared.program.Var.{Var}
use Rattle.call_flow.specs.declared.signatures.Passing.{Passing}
use Rattle.callee_view.specs.Seen.{is_moved_back, is_moved_in}
use Rattle.callee_view.specs.Signatures.{count_of, formals_at, leaves_of, passed_of, passings_of, signature_of}
use Rattle.callee_view.proofs.Passed.{leaves_count}
use Rattle.flow_relations.specs.CallsTold.{AreWithin}

leaves_of_count : (o : Option Var) → length (leaves_of o) ≡ count_of o
leaves_of_count None = refl
leaves_of_count (Some v) = leaves_count v.«from».0 v.count

cond_most : (b : Bool) (n : ℕ) → cond b n 0 ≤ n
cond_most true n = omega arith
cond_most false n = omega arith

module _ (p : Program) (b : ℕ) where
  -- the formal of a number, where the first of these begins at this place
  abbrev at : ℕ → List Formal → ℕ → Passing
  at first fs n = slice_index_or (passings_of p b first fs) n (record { first = 0; ins = 0; backs = 0 })

  within : (first : ℕ) (fs : List Formal) (n : ℕ) → ((at first fs n).first + (at first fs n).ins ≤ first + length (passed_of p b fs)) × ((at first fs n).first + (at first fs n).backs ≤ first + length (passed_of p b fs))
  within first [] zero = let e = leaves_of_count (result_of b p.vars) in (omega (arith, e), omega (arith, e))
  within first [] (suc n) = (omega arith, omega arith)
  within first (f ∷ fs) zero =
      let o = slice_get p.vars f.var.0 in
      let e = length-append (leaves_of o) (passed_of p b fs) in
      let c = leaves_of_count o in
      let i = cond_most (is_moved_in f.mode) (count_of o) in
      let k = cond_most (is_moved_back f.mode) (count_of o) in
      (omega (arith, e, c, i), omega (arith, e, c, k))
  within first (f ∷ fs) (suc n) =
      let o = slice_get p.vars f.var.0 in
      let e = length-append (leaves_of o) (passed_of p b fs) in
      let c = leaves_of_count o in
      let h = within (first + count_of o) fs n in
      (omega (arith, e, c, h.0), omega (arith, e, c, h.1))

  pub signature_within : AreWithin (signature_of p b)
  signature_within = record {
    ins = λ n. let h = within 0 (formals_at (slice_get p.bodies b)) n in omega (arith, h.0);
    backs = λ n. let h = within 0 (formals_at (slice_get p.bodies b)) n in omega (arith, h.1);
  }
