-- What the code of bodies calls, and how many bodies there are.
use Rattle.std.proofs.Common.{ℕ, zero, suc, ◌<◌, ◌≤◌, ◌^◌, Option, Some, None, List, inl, inr, length, sym, arith}
use Rattle.std.specs.Prelude.{IsSomeAnd, slice_get}
use Rattle.spark_base.specs.declared.numbers.LeafNo.{LeafNo}
use Rattle.core_form.specs.declared.program.Body.{Body}
use Rattle.core_form.specs.declared.program.Program.{Program}
use Rattle.core_form.specs.Code.{Code, Skip, Then, Assign, Clear, Branch, Repeat, Exit, Called, Guard, Delay, ReadClock, Stop, code_of}
use Rattle.summary_rows.specs.declared.layout.Layout.{Layout}
use Rattle.summary_rows.specs.Layout.{IsLayout, words_before}
use Rattle.call_flow.specs.Calls.{IsCalled}
use Rattle.flow_relations.specs.Equation.{code_at_body, code_of_body}
use Rattle.body_calls.specs.Callees.{Calls, HasCall}

has_call : (c : ℕ) (code : Code) → IsCalled c code → HasCall code c
has_call c Skip h = h
has_call c (Then a b) h = elim h [ inl x ↦ inl (has_call c a x) | inr x ↦ inr (has_call c b x) ]
has_call c (Assign to e at) h = h
has_call c (Clear leaf) h = h
has_call c (Branch e a b) h = elim h [ inl x ↦ inl (has_call c a x) | inr x ↦ inr (has_call c b x) ]
has_call c (Repeat a) h = has_call c a h
has_call c (Exit o) h = h
has_call c (Called b actuals at) h = sym h
has_call c (Guard o barrier call) h = has_call c call h
has_call c (Delay e) h = h
has_call c (ReadClock to) h = h
has_call c Stop h = h

pub calls_is : (p : Program) (b c : ℕ) → IsCalled c (code_of_body p b) → Calls p b c
calls_is p b c h = of_body (slice_get p.bodies b) h
  where
    of_body : (o : Option Body) → IsCalled c (code_at_body p o) → IsSomeAnd o (λ body. HasCall (code_of p.exprs p.stmts body.code) c)
    of_body None k = k
    of_body (Some body) k = has_call c (code_of p.exprs p.stmts body.code) k

-- each row has a word at least
words_most : (outer : List (List LeafNo)) (b : ℕ) → b ≤ words_before outer b
words_most outer zero = omega arith
words_most outer (suc b) = let h = words_most outer b in omega (arith, h)

pub bodies_few : (l : Layout) → IsLayout l → length l.outer < 2 ^ 32
bodies_few l is =
    let h = words_most l.outer (length l.outer) in
    let w = is.words in
    let f = is.fits in
    omega (arith, h, w, f)
