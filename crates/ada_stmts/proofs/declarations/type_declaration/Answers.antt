use Rattle.std.proofs.Common.{refl, arith}
use Rattle.ada_tree.specs.declared.words.Reserved.TheVariants as words
use Rattle.ada_tree.specs.declared.forms.LocalForm.TheVariants as locals
use Rattle.ada_grammar.specs.declared.tokens.Class.TheVariants as classes
use Rattle.ada_grammar.specs.Lexemes.{lexemes}
use Rattle.ada_grammar.specs.Parts as parts
use Rattle.ada_grammar.specs.Parts.{mark, word, Gives, Call, Rest}
use Rattle.ada_grammar.proofs.Steps.{start, seen}
use Rattle.ada_grammar.proofs.Answering.{misses_here}
use Rattle.ada_grammar.proofs.Joining.{fault_found, finds_last, goes_on}
use Rattle.ada_stmts.proofs.declarations.type_declaration.Goals as goal

pub returns-in_err-name-clause-reads : goal.returns-in_err-name-clause-reads
returns-in_err-name-clause-reads c = λ first ds hd. fault_found (parts.LocalDeclaration locals.Type first ds) (lexemes c.args.tokens.now) c.args.cursor _ _ _ _ (misses_here (lexemes c.args.tokens.now) c.args.cursor c.args.cursor classes.Word _ c.requires.at (start (parts.LocalDeclaration locals.Type first ds) _) refl (λ t. refl) c.in_err-name.ensures) c.from_residual.ensures.1

pub returns-in_err-behind_keyword-clause-reads : goal.returns-in_err-behind_keyword-clause-reads
returns-in_err-behind_keyword-clause-reads c = λ first ds hd. fault_found (parts.LocalDeclaration locals.Type first ds) (lexemes c.args.tokens.now) c.args.cursor _ _ _ _ (misses_here (lexemes c.args.tokens.now) c.args.cursor c.in_ok-name.behind_name (word words.Is) _ (omega (arith, c.in_ok-name.ensures.place, c.in_ok-name.ensures.within)) (seen (start (parts.LocalDeclaration locals.Type first ds) _) c.in_ok-name.ensures.takes refl) refl (λ t. refl) c.in_err-behind_keyword.ensures) c.from_residual-in_err-behind_keyword.ensures.1

pub returns-clause-reads : goal.returns-clause-reads
returns-clause-reads c = λ first ds hd. finds_last (lexemes c.args.tokens.now) c.args.cursor c.in_ok-behind_keyword.behind_keyword _ _ _ (seen (seen (start (parts.LocalDeclaration locals.Type first ds) _) c.in_ok-name.ensures.takes refl) c.in_ok-behind_keyword.ensures.takes refl) (omega (arith, c.in_ok-name.ensures.place, c.in_ok-behind_keyword.ensures.place)) refl (c.type_definition.ensures.reads _ hd)

pub returns-clause-goes : goal.returns-clause-goes
returns-clause-goes c = goes_on (lexemes c.args.tokens.now) c.args.cursor c.in_ok-behind_keyword.behind_keyword _ (omega (arith, c.in_ok-name.ensures.place, c.in_ok-behind_keyword.ensures.place)) c.type_definition.ensures.goes
