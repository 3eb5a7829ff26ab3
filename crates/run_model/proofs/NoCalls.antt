-- A node of a program without calls calls nothing, and a plain one is no list.
use Rattle.std.proofs.Common.{◌≡◌, ℕ, List, [], ◌∷◌, Some, subst}
use Rattle.std.specs.Prelude.{slice_get}
use Rattle.std.proofs.lemmas.Option.{get_or_from_slice_get, slice_get_within}
use Rattle.spark_base.specs.declared.numbers.StmtNo.{StmtNo}
use Rattle.core_form.specs.Code.{Code, codes_at}
use Rattle.core_form.specs.declared.code.CoreStmt.{CoreStmt}
use Rattle.run_model.specs.Held.{AreNoCalls, IsNoCall, IsPlain}

pub no_call_at : (stmts : List CoreStmt) → AreNoCalls stmts → (s : ℕ) (node : CoreStmt) → slice_get stmts s ≡ Some node → IsNoCall node
no_call_at stmts h s node is = subst IsNoCall (get_or_from_slice_get stmts s node node is) (h s node (slice_get_within stmts s node is))

pub no_list : (f : StmtNo → Code) (list : List StmtNo) → IsPlain (codes_at f list) → ⊥
no_list f [] h = h
no_list f (s ∷ ss) h = h
