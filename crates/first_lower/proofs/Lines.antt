-- The lowering line by line gives the code of the list of statements.
use Rattle.std.proofs.Common.{◌≡◌, ℕ, List, [], ◌∷◌, ◌++◌, Some, None, refl, ap, sym, ◌∙◌}
use Rattle.std.proofs.lemmas.List.{append_assoc, append-nil}
use Rattle.core_form.specs.Code.{Code}
use Rattle.first_path.specs.declared.source.Line.{Line}
use Rattle.first_path.specs.declared.source.Line.TheVariants as line
use Rattle.first_path.specs.Nested.{Statements, Last, More, Statement, Null, Assign, If, IfElse, statements_then, statement_then}
use Rattle.first_lower.specs.Levels.{Level, ends}
use Rattle.first_lower.specs.Lowered.{chain, low_codes, low_statement, low_statements, low_test}

module _ (keys : List (List ℕ)) where
  mutual
    ends_all : (ss : Statements) (ls : List Level) (cs : List Code) (rest : List Line)
        → ends keys ls cs (statements_then ss rest) ≡ ends keys ls (cs ++ low_codes keys ss) rest
    ends_all (Last s) ls cs rest = ends_one s ls cs rest
    ends_all (More s ss) ls cs rest =
        ends_one s ls cs (statements_then ss rest) ∙ ends_all ss ls (cs ++ low_statement keys s) rest
        ∙ ap (λ (x : List Code). ends keys ls x rest) (append_assoc cs (low_statement keys s) (low_codes keys ss))

    ends_one : (s : Statement) (ls : List Level) (cs : List Code) (rest : List Line)
        → ends keys ls cs (statement_then s rest) ≡ ends keys ls (cs ++ low_statement keys s) rest
    ends_one Null ls cs rest = ap (λ (x : List Code). ends keys ls x rest) (sym (append-nil cs))
    ends_one (Assign target value) ls cs rest = refl
    ends_one (If test main) ls cs rest =
        ends_all main (record { before = cs; test = low_test keys test; main = None } ∷ ls) [] (line.EndIf ∷ rest)
    ends_one (IfElse test main other) ls cs rest =
        ends_all main (record { before = cs; test = low_test keys test; main = None } ∷ ls) [] (line.Else ∷ statements_then other (line.EndIf ∷ rest))
        ∙ ends_all other (record { before = cs; test = low_test keys test; main = Some (chain (low_codes keys main)) } ∷ ls) [] (line.EndIf ∷ rest)

  pub ends_code : (ss : Statements) → ends keys [] [] (statements_then ss []) ≡ low_statements keys ss
  ends_code ss = ends_all ss [] [] []

  -- lines have one code
  pub one_code : (ss us : Statements) → statements_then ss [] ≡ statements_then us [] → low_statements keys ss ≡ low_statements keys us
  one_code ss us same = sym (ends_code ss) ∙ ap (ends keys [] []) same ∙ ends_code us
