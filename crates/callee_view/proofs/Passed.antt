-- Lists of leaves that are passed, one more at their end.
use Rattle.std.proofs.Common.{◌≡◌, ℕ, zero, suc, ◌+◌, ◌-◌, ◌<◌, List, [], ◌∷◌, ◌++◌, Some, length, length-append, refl, ap, sym, ◌∙◌, append_assoc, arith}
use Rattle.std.specs.Prelude.{slice_get}
use Rattle.spark_base.specs.declared.numbers.LeafNo.{LeafNo}
use Rattle.core_form.specs.declared.program.Formal.{Formal}
use Rattle.core_form.specs.declared.program.Program.{Program}
use Rattle.core_form.specs.declared.program.Var.{Var}
use Rattle.call_flow.specs.declared.signatures.Passing.{Passing}
use Rattle.callee_view.specs.Signatures.{count_of, leaves_from, leaves_of, passed_of, passing_by, passings_of}

pub leaves_more : (first n : ℕ) → leaves_from first (suc n) ≡ leaves_from first n ++ record { 0 = first + n } ∷ []
leaves_more first zero = let e : first + 0 ≡ first = omega arith in cc
leaves_more first (suc n) = let h = leaves_more (suc first) n in let e : suc first + n ≡ first + suc n = omega arith in cc

pub leaves_count : (first n : ℕ) → length (leaves_from first n) ≡ n
leaves_count first zero = refl
leaves_count first (suc n) = let h = leaves_count (suc first) n in omega (arith, h)

-- one leaf of those that are left
pub leaves_step : (first i count : ℕ) → i < count → (before : List LeafNo)
    → before ++ (record { 0 = first + i } ∷ leaves_from (first + (i + 1)) (count - (i + 1))) ≡ before ++ leaves_from (first + i) (count - i)
leaves_step first i count l before =
    let n : count - i ≡ suc (count - (i + 1)) = omega arith in
    let m : first + (i + 1) ≡ suc (first + i) = omega arith in
    rw (n, m) refl

module _ (p : Program) (b : ℕ) (f : Formal) (rest : List Formal) (var : Var) (is : slice_get p.vars f.var.0 ≡ Some var) where
  pub passed_step : (before all : List LeafNo) → before ++ passed_of p b (f ∷ rest) ≡ all → (before ++ leaves_from var.«from».0 var.count) ++ passed_of p b rest ≡ all
  passed_step before all h =
      append_assoc before (leaves_from var.«from».0 var.count) (passed_of p b rest)
      ∙ (ap (λ o. before ++ (leaves_of o ++ passed_of p b rest)) (sym is) ∙ h)

  pub passings_step : (before all : List Passing) (leaves : List LeafNo) → before ++ passings_of p b (length leaves) (f ∷ rest) ≡ all
      → (before ++ passing_by (length leaves) f.mode var.count ∷ []) ++ passings_of p b (length (leaves ++ leaves_from var.«from».0 var.count)) rest ≡ all
  passings_step before all leaves h =
      let n : length (leaves ++ leaves_from var.«from».0 var.count) ≡ length leaves + var.count =
      length-append leaves (leaves_from var.«from».0 var.count) ∙ ap (λ k. length leaves + k) (leaves_count var.«from».0 var.count) in
      append_assoc before (passing_by (length leaves) f.mode var.count ∷ []) (passings_of p b (length (leaves ++ leaves_from var.«from».0 var.count)) rest)
      ∙ (ap (λ k. before ++ passing_by (length leaves) f.mode var.count ∷ passings_of p b k rest) n
      ∙ (ap (λ o. before ++ passing_by (length leaves) f.mode (count_of o) ∷ passings_of p b (length leaves + count_of o) rest) (sym is) ∙ h))
