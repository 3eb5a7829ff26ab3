-- Lists of bodies by body, of which one more is put behind the others.
use Rattle.std.proofs.Common.{◌≡◌, ℕ, ◌+◌, ◌<◌, List, [], ◌∷◌, ◌++◌, length, length-append, get_or, inl, inr, arith, ap, sym, subst, ◌∙◌}
use Rattle.std.proofs.Math.Seq.{get_or-append_seam}
use Rattle.std.proofs.lemmas.Bool.{cases_lt}
use Rattle.std.proofs.lemmas.List.{get_or_append_left}
use Rattle.spark_base.specs.declared.numbers.BodyNo.{BodyNo}

-- a relation that holds of each list and its place
pub pushed_all : (P : ℕ → List BodyNo → Type 0) (lists : List (List BodyNo)) (list : List BodyNo) (n : ℕ) → length lists ≡ n
    → ((b : ℕ) → b < n → P b (get_or lists b [])) → P n list → (b : ℕ) → b < n + 1 → P b (get_or (lists ++ list ∷ []) b [])
pushed_all P lists list n size h k b l = elim (cases_lt b n) [
  | inl m ↦ subst (λ (x : List BodyNo). P b x) (sym (get_or_append_left lists (list ∷ []) [] b (omega (arith, m, size)))) (h b m)
  | inr g ↦ (
      let e : b ≡ n = omega (arith, l, g) in
      let d : b ≡ length lists = omega (arith, e, size) in
      let at : get_or (lists ++ list ∷ []) b [] ≡ list = ap (λ (i : ℕ). get_or (lists ++ list ∷ []) i []) d ∙ get_or-append_seam lists
      list [] [] in
      subst (λ (x : List BodyNo). P b x) (sym at) (subst (λ (i : ℕ). P i list) (sym e) k))
]

pub pushed_size : (lists : List (List BodyNo)) (list : List BodyNo) → length (lists ++ list ∷ []) ≡ length lists + 1
pushed_size lists list = simp length-append (omega arith)
