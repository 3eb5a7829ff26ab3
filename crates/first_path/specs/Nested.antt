-- Lists of statements as trees, and the lines that they are written in.
use Rattle.std.specs.Prelude.{◌≡◌, ℕ, zero, suc, List, [], ◌∷◌}
use Rattle.first_path.specs.declared.source.Line.{Line}
use Rattle.first_path.specs.declared.source.Line.TheVariants as line
use Rattle.first_path.specs.declared.source.Sum.{Sum}
use Rattle.first_path.specs.declared.source.Test.{Test}
use Rattle.first_path.specs.declared.source.Word.{Word}

mutual
  -- a list of statements: one at least
  pub data Statements : Type 0 where
    Last : Statement → Statements
    More : Statement → Statements → Statements

  -- a statement; the else of an if may be absent
  pub data Statement : Type 0 where
    Null : Statement
    Assign : Word → Sum → Statement
    If : Test → Statements → Statement
    IfElse : Test → Statements → Statements → Statement

abbrev mutual
  -- fs {fs}
  pub statements_then : Statements → List Line → List Line
  statements_then (Last s) rest = statement_then s rest
  statements_then (More s ss) rest = statement_then s (statements_then ss rest)

  -- null | assignment | "if" test "then" list ["else" list] "end" "if" ";"
  pub statement_then : Statement → List Line → List Line
  statement_then Null rest = line.Null ∷ rest
  statement_then (Assign target value) rest = line.Assign target value ∷ rest
  statement_then (If test main) rest = line.If test ∷ statements_then main (line.EndIf ∷ rest)
  statement_then (IfElse test main other) rest =
      line.If test ∷ statements_then main (line.Else ∷ statements_then other (line.EndIf ∷ rest))

abbrev mutual
  -- at most so many ifs are open at once
  pub FitAll : ℕ → Statements → Type 0
  FitAll most (Last s) = Fits most s
  FitAll most (More s ss) = Fits most s × FitAll most ss

  pub Fits : ℕ → Statement → Type 0
  Fits most Null = Unit {0}
  Fits most (Assign target value) = Unit {0}
  Fits zero (If test main) = ⊥
  Fits (suc most) (If test main) = FitAll most main
  Fits zero (IfElse test main other) = ⊥
  Fits (suc most) (IfElse test main other) = FitAll most main × FitAll most other

-- these are the lines of a list of statements, in which at most 128 ifs are open at once
pub record AreNested (lines : List Line) : Type 0 where
  pub statements : Statements
  pub written : lines ≡ statements_then statements []
  pub fit : FitAll 128 statements
