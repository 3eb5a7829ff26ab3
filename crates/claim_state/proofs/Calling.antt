-- Who calls whom, and that the system of a program is one.
use Rattle.std.proofs.Common.{◌≡◌, inl, inr, ℕ, ◌<◌, ◌↔◌, All, Option, Some, None, List, [], get_or, false, Decides, length, sym, subst}
use Rattle.std.specs.Prelude.{IsTrue, IsSomeAnd, slice_get}
use Rattle.std.proofs.lemmas.Bool.{false≢true, or_cases, or_left, or_right}
use Rattle.std.proofs.lemmas.Bool.Decides.{Decides-eqb}
use Rattle.std.proofs.lemmas.Option.{get_or_from_slice_get}
use Rattle.spark_base.specs.declared.numbers.BodyNo.{BodyNo}
use Rattle.call_lists.specs.Lists.{Names}
use Rattle.core_form.specs.declared.program.Body.{Body}
use Rattle.core_form.specs.declared.program.Program.{Program}
use Rattle.core_form.specs.Code.{Code, Skip, Then, Assign, Clear, Branch, Repeat, Exit, Called, Guard, Delay, ReadClock, Stop, code_of}
use Rattle.least_solution.specs.Least.{SeesCallees}
use Rattle.summary_rows.specs.declared.layout.Layout.{Layout}
use Rattle.summary_rows.specs.Facts.{Fact}
use Rattle.body_calls.specs.Callees.{Calls, HasCall}
use Rattle.body_calls.proofs.Added.{within}
use Rattle.claim_core.specs.System.{IsSystem, Ruled, owned_by}
use Rattle.claim_rows.proofs.Placed.{placed_system}
use Rattle.row_equations.specs.Follow.{follows}
use Rattle.row_equations.proofs.Following as laws
use Rattle.body_summaries.specs.Bodies.{IsLayoutFor}
use Rattle.body_summaries.proofs.Calls.{calls_is}
use Rattle.claim_state.specs.Solving.{has_call, body_calls, calls, solving}

none : Decides false ⊥
none = (λ e. false≢true e, λ h. absurd h)

code_decides : (code : Code) (c : ℕ) → Decides (has_call code c) (HasCall code c)
code_decides Skip c = none
code_decides (Then a b) c = (
  λ t. elim (or_cases (has_call a c) (has_call b c) t) [ inl x ↦ inl ((code_decides a c).0 x) | inr y ↦ inr ((code_decides b c).0 y) ],
  λ h. elim h [ inl x ↦ or_left (has_call a c) (has_call b c) ((code_decides a c).1 x) | inr y ↦ or_right (has_call a c) (has_call b c) ((code_decides b c).1 y) ],
)
code_decides (Assign to e at) c = none
code_decides (Clear leaf) c = none
code_decides (Branch e a b) c = (
  λ t. elim (or_cases (has_call a c) (has_call b c) t) [ inl x ↦ inl ((code_decides a c).0 x) | inr y ↦ inr ((code_decides b c).0 y) ],
  λ h. elim h [ inl x ↦ or_left (has_call a c) (has_call b c) ((code_decides a c).1 x) | inr y ↦ or_right (has_call a c) (has_call b c) ((code_decides b c).1 y) ],
)
code_decides (Repeat a) c = code_decides a c
code_decides (Exit o) c = none
code_decides (Called b actuals at) c = Decides-eqb b.0 c
code_decides (Guard o barrier call) c = code_decides call c
code_decides (Delay e) c = none
code_decides (ReadClock to) c = none
code_decides Stop c = none

pub calls_decide : (p : Program) (b c : ℕ) → Decides (calls p b c) (Calls p b c)
calls_decide p b c = of_body (slice_get p.bodies b)
  where
    of_body : (o : Option Body) → Decides (body_calls p o c) (IsSomeAnd o (λ body. HasCall (code_of p.exprs p.stmts body.code) c))
    of_body None = none
    of_body (Some body) = code_decides (code_of p.exprs p.stmts body.code) c

module _ (p : Program) (l : Layout) (is : IsLayoutFor p l) where
  pub sees : SeesCallees (λ (f : Fact). f.owner) (λ a b. IsTrue (calls p a b)) (follows p l)
  sees R S f h y = laws.sees p l R S f (λ g k. h g ((calls_decide p f.owner g.owner).1 (calls_is p f.owner g.owner k))) y

  pub callers : (a b : ℕ) → IsTrue (calls p a b) → a < length l.outer
  callers a b h = subst (λ (n : ℕ). a < n) (sym is.bodies) (within p.bodies a _ ((calls_decide p a b).0 h))

  pub solving_system : IsSystem (solving p l)
  solving_system = placed_system l is.layout (calls p) (follows p l) (laws.listed p l) sees (laws.is_finite p l) callers

-- who calls whom, as rules without any rule
abbrev pub callers_of : Program → Ruled
callers_of p = record { bodies = 0; words = 0; owner = λ w. None; calls = calls p; rules = [] }

-- the bodies of the list that calls a body
pub names_are : (p : Program) (list : List BodyNo) (held : ℕ) (holds : Option ℕ) → holds ≡ Some held → ((a : ℕ) → Names list a ↔ Calls p a held)
    → (a : ℕ) → Names list a ↔ IsTrue (owned_by (λ b. calls p a b) holds)
names_are p list held holds e are a = subst (λ (o : Option ℕ). Names list a ↔ IsTrue (owned_by (λ b. calls p a b) o)) (sym e)
    ((λ n. (calls_decide p a held).1 ((are a).0 n)), (λ t. (are a).1 ((calls_decide p a held).0 t)))

pub names_below : (n : ℕ) (list : List BodyNo) → All (λ b. b.0 < n) list → (c : ℕ) → Names list c → c < n
names_below n list all c m =
    let b : BodyNo = m.1.1.0 in
    let g : get_or list m.0 b ≡ b = get_or_from_slice_get list m.0 b b m.1.1.1.0 in
    subst (λ (k : ℕ). k < n) m.1.1.1.1 (subst (λ (x : BodyNo). x.0 < n) g (all m.0 b m.1.0))
