-- The lowering of lines one by one, with the ifs that are open. Of lines that are those of a list of statements it is
-- the code of that list.
use Rattle.std.specs.Prelude.{◌≡◌, ℕ, ◌<◌, List, [], ◌∷◌, ◌++◌, map, drop, length, Option, Some, None, IfSome}
use Rattle.spark_base.specs.declared.numbers.StmtNo.{StmtNo}
use Rattle.core_form.specs.Code.{Expr, Code, Skip, Branch, expr_of, code_of}
use Rattle.core_form.specs.declared.build.Nodes.{Nodes}
use Rattle.first_lower.specs.Known.{Each}
use Rattle.first_lower.specs.Lowered.{chain, low_assignment, low_test}
use Rattle.first_lower.specs.Steps.{Adds}
use Rattle.first_lower.specs.declared.code.Open.{Open}
use Rattle.first_lower.specs.declared.code.Unfinished.{Unfinished}
use Rattle.first_path.specs.declared.source.Line.{Line}
use Rattle.first_path.specs.declared.source.Line.TheVariants as line

-- an if that is open: what stands before it in its list, its test, and its first side once that is read
pub record Level : Type 0 where
  pub before : List Code
  pub test : Expr
  pub main : Option Code

-- what the lines of a side, the last, make of an if
abbrev pub closed : Level → Code → Code
closed l side = elim l.main [ None ↦ Branch l.test side Skip | Some main ↦ Branch l.test main side ]

-- the levels, from the innermost, and the codes of the list that is being read, after a line
abbrev pub turned : List Level → Code → List Level
turned [] side = []
turned (l ∷ ls) side = record { before = l.before; test = l.test; main = Some side } ∷ ls

abbrev pub ended : List Level → List Code → List Code
ended [] cs = cs
ended (l ∷ ls) cs = l.before ++ closed l (chain cs) ∷ []

abbrev pub levels_after : List (List ℕ) → List Level → List Code → Line → List Level
levels_after keys ls cs line.Null = ls
levels_after keys ls cs (line.Assign target value) = ls
levels_after keys ls cs (line.If test) = record { before = cs; test = low_test keys test; main = None } ∷ ls
levels_after keys ls cs line.Else = turned ls (chain cs)
levels_after keys ls cs line.EndIf = drop 1 ls

abbrev pub codes_after : List (List ℕ) → List Level → List Code → Line → List Code
codes_after keys ls cs line.Null = cs
codes_after keys ls cs (line.Assign target value) = cs ++ low_assignment keys target value ∷ []
codes_after keys ls cs (line.If test) = []
codes_after keys ls cs line.Else = []
codes_after keys ls cs line.EndIf = ended ls cs

-- the code in the end
abbrev pub ends : List (List ℕ) → List Level → List Code → List Line → Code
ends keys ls cs [] = chain cs
ends keys ls cs (line ∷ lines) = ends keys (levels_after keys ls cs line) (codes_after keys ls cs line) lines

-- what numbers of nodes stand for
abbrev pub codes_of : Nodes → List StmtNo → List Code
codes_of nodes ss = map (code_of nodes.exprs nodes.stmts) ss

abbrev pub main_of : Nodes → Option StmtNo → Option Code
main_of nodes None = None
main_of nodes (Some s) = Some (code_of nodes.exprs nodes.stmts s)

abbrev pub level_of : Nodes → Open → Level
level_of nodes o = record { before = codes_of nodes o.before; test = expr_of nodes.exprs o.test; main = main_of nodes o.main }

abbrev pub levels_of : Nodes → List Open → List Level
levels_of nodes os = map (level_of nodes) os

-- the numbers are those of nodes
abbrev pub StmtsWithin : Nodes → List StmtNo → Type 0
StmtsWithin nodes ss = Each (λ s. s.0 < length nodes.stmts) ss

abbrev pub OpenWithin : Nodes → Open → Type 0
OpenWithin nodes o = StmtsWithin nodes o.before × (o.test.0 < length nodes.exprs) × IfSome o.main (λ s. s.0 < length nodes.stmts)

pub record IsWithin (nodes : Nodes) (u : Unfinished) : Type 0 where
  pub list : StmtsWithin nodes u.list
  pub ifs : Each (OpenWithin nodes) u.ifs.items

-- nodes are added, and what is unfinished stands for these levels and codes
pub record Reaches (old new : Nodes) (u : Unfinished) (ls : List Level) (cs : List Code) : Type 0 where
  pub adds : Adds old new
  pub within : IsWithin new u
  pub levels : levels_of new u.ifs.items ≡ ls
  pub codes : codes_of new u.list ≡ cs
