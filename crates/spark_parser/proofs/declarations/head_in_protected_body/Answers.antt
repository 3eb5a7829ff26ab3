use Rattle.std.proofs.Common.{refl, arith}
use Rattle.ada_tree.specs.declared.words.Reserved.TheVariants as words
use Rattle.ada_tree.specs.declared.forms.Region.TheVariants as regions
use Rattle.ada_grammar.specs.Lexemes.{lexeme, lexemes}
use Rattle.ada_grammar.specs.Parts as parts
use Rattle.ada_grammar.specs.Parts.{mark, word, Gives, Call, Rest}
use Rattle.ada_grammar.proofs.Steps.{start, seen, unseen, done}
use Rattle.ada_grammar.proofs.Answering.{passes_here, misses_here, refuses}
use Rattle.ada_grammar.proofs.Joining.{absent, present, fault_found, finds_last, goes_on}
use Rattle.ada_grammar.proofs.Standing.{grows_on, holds_on}
use Rattle.spark_parser.proofs.declarations.head_in_protected_body.Goals as goal

pub returns-in_err-behind_keyword-clause-reads : goal.returns-in_err-behind_keyword-clause-reads
returns-in_err-behind_keyword-clause-reads c = λ os ds ho hd. fault_found (parts.BehindHead regions.ProtectedBody c.args.head (lexeme c.args.tokens.now.source c.args.name) os ds) (lexemes c.args.tokens.now) c.args.cursor _ _ _ _ (passes_here (lexemes c.args.tokens.now) c.args.cursor c.args.cursor (word words.With) _ (start (parts.BehindHead regions.ProtectedBody c.args.head (lexeme c.args.tokens.now.source c.args.name) os ds) _) (λ t. refl) c.in_err-behind_keyword.ensures) c.from_residual.ensures.1

pub returns-in_err-behind_aspects-clause-reads : goal.returns-in_err-behind_aspects-clause-reads
returns-in_err-behind_aspects-clause-reads c = λ os ds ho hd. fault_found (parts.BehindHead regions.ProtectedBody c.args.head (lexeme c.args.tokens.now.source c.args.name) os ds) (lexemes c.args.tokens.now) c.args.cursor _ _ _ _ (refuses (lexemes c.args.tokens.now) c.args.cursor c.in-Some.behind_keyword _ (seen (start (parts.BehindHead regions.ProtectedBody c.args.head (lexeme c.args.tokens.now.source c.args.name) os ds) _) (present (word words.With) (lexeme c.args.tokens.now.source) (lexemes c.args.tokens.now) c.args.cursor c.in_ok-behind_keyword.ensures c.in-Some.is).takes refl) (λ b. refl) (c.in_err-behind_aspects.ensures.reads _ ho)) c.from_residual-in_err-behind_aspects.ensures.1

pub returns-in_err-behind_behind-clause-reads : goal.returns-in_err-behind_behind-clause-reads
returns-in_err-behind_behind-clause-reads c = λ os ds ho hd. let f1 = c.in_ok-behind_aspects.ensures.reads _ ho in fault_found (parts.BehindHead regions.ProtectedBody c.args.head (lexeme c.args.tokens.now.source c.args.name) os ds) (lexemes c.args.tokens.now) c.args.cursor _ _ _ _ (misses_here (lexemes c.args.tokens.now) c.args.cursor c.in_ok-behind_aspects.behind_aspects (word words.Is) _ c.in_ok-behind_aspects.ensures.goes.ends (done (seen (start (parts.BehindHead regions.ProtectedBody c.args.head (lexeme c.args.tokens.now.source c.args.name) os ds) _) (present (word words.With) (lexeme c.args.tokens.now.source) (lexemes c.args.tokens.now) c.args.cursor c.in_ok-behind_keyword.ensures c.in-Some.is).takes refl) f1.reads (λ b. refl)) refl (λ t. refl) c.in_err-behind_behind.ensures) c.from_residual-in_err-behind_behind.ensures.1

pub returns-in-Some-clause-reads : goal.returns-in-Some-clause-reads
returns-in-Some-clause-reads c = λ os ds ho hd. let f1 = c.in_ok-behind_aspects.ensures.reads _ ho in finds_last (lexemes c.args.tokens.now) c.args.cursor c.in_ok-behind_behind.behind_behind _ _ _ (seen (done (seen (start (parts.BehindHead regions.ProtectedBody c.args.head (lexeme c.args.tokens.now.source c.args.name) os ds) _) (present (word words.With) (lexeme c.args.tokens.now.source) (lexemes c.args.tokens.now) c.args.cursor c.in_ok-behind_keyword.ensures c.in-Some.is).takes refl) f1.reads (λ b. refl)) c.in_ok-behind_behind.ensures.takes refl) (omega (arith, (present (word words.With) (lexeme c.args.tokens.now.source) (lexemes c.args.tokens.now) c.args.cursor c.in_ok-behind_keyword.ensures c.in-Some.is).place, c.in_ok-behind_aspects.ensures.goes.forward, c.in_ok-behind_behind.ensures.place)) refl (c.subprogram_body.ensures.reads _ _ f1.holds (holds_on f1.holds.ordered c.in_ok-behind_aspects.ensures.grows hd))

pub returns-in-Some-clause-goes : goal.returns-in-Some-clause-goes
returns-in-Some-clause-goes c = goes_on (lexemes c.args.tokens.now) c.args.cursor c.in_ok-behind_behind.behind_behind _ (omega (arith, (present (word words.With) (lexeme c.args.tokens.now.source) (lexemes c.args.tokens.now) c.args.cursor c.in_ok-behind_keyword.ensures c.in-Some.is).place, c.in_ok-behind_aspects.ensures.goes.forward, c.in_ok-behind_behind.ensures.place)) c.subprogram_body.ensures.goes

pub returns-in-Some-clause-grows : goal.returns-in-Some-clause-grows
returns-in-Some-clause-grows c = (grows_on c.in_ok-behind_aspects.ensures.grows c.subprogram_body.ensures.grows)

pub returns-in_err-behind_keyword_2-clause-reads : goal.returns-in_err-behind_keyword_2-clause-reads
returns-in_err-behind_keyword_2-clause-reads c = λ os ds ho hd. fault_found (parts.BehindHead regions.ProtectedBody c.args.head (lexeme c.args.tokens.now.source c.args.name) os ds) (lexemes c.args.tokens.now) c.args.cursor _ _ _ _ (misses_here (lexemes c.args.tokens.now) c.args.cursor c.args.cursor (word words.Is) _ c.requires.at (unseen (start (parts.BehindHead regions.ProtectedBody c.args.head (lexeme c.args.tokens.now.source c.args.name) os ds) _) (absent (word words.With) (lexeme c.args.tokens.now.source) (lexemes c.args.tokens.now) c.args.cursor c.in_ok-behind_keyword.ensures c.in_default.is)) refl (λ t. refl) c.in_err-behind_keyword_2.ensures) c.from_residual-in_err-behind_keyword_2.ensures.1

pub returns-clause-reads : goal.returns-clause-reads
returns-clause-reads c = λ os ds ho hd. finds_last (lexemes c.args.tokens.now) c.args.cursor c.in_ok-behind_keyword_2.behind_keyword_2 _ _ _ (seen (unseen (start (parts.BehindHead regions.ProtectedBody c.args.head (lexeme c.args.tokens.now.source c.args.name) os ds) _) (absent (word words.With) (lexeme c.args.tokens.now.source) (lexemes c.args.tokens.now) c.args.cursor c.in_ok-behind_keyword.ensures c.in_default.is)) c.in_ok-behind_keyword_2.ensures.takes refl) (omega (arith, c.in_ok-behind_keyword_2.ensures.place)) refl (c.value_or_body.ensures.reads _ _ ho hd)

pub returns-clause-goes : goal.returns-clause-goes
returns-clause-goes c = goes_on (lexemes c.args.tokens.now) c.args.cursor c.in_ok-behind_keyword_2.behind_keyword_2 _ (omega (arith, c.in_ok-behind_keyword_2.ensures.place)) c.value_or_body.ensures.goes
