use Rattle.std.proofs.Common.{refl, map, arith}
use Rattle.ada_tree.specs.declared.forms.Naming.TheVariants as naming
use Rattle.ada_grammar.specs.Lexemes.{lexeme, lexemes}
use Rattle.ada_grammar.specs.Parts as parts
use Rattle.ada_grammar.specs.Parts.{mark, word, Gives, Call, Rest}
use Rattle.ada_grammar.proofs.Steps.{start}
use Rattle.ada_grammar.proofs.Joining.{finds_last, goes_on, of_form}
use Rattle.ada_stmts.proofs.declarations.behind_names.Goals as goal

pub returns-in-Objects-clause-reads : goal.returns-in-Objects-clause-reads
returns-in-Objects-clause-reads c = λ ds hd. of_form (λ z. (parts.BehindNames z (map (lexeme c.args.tokens.now.source) c.args.names.now) ds)) (lexemes c.args.tokens.now) c.args.cursor _ _ _ c.in-Objects.is (finds_last (lexemes c.args.tokens.now) c.args.cursor c.args.cursor _ _ _ (start (parts.BehindNames naming.Objects (map (lexeme c.args.tokens.now.source) c.args.names.now) ds) _) (omega arith) refl (c.object.ensures.reads _ hd))

pub returns-in-Objects-clause-goes : goal.returns-in-Objects-clause-goes
returns-in-Objects-clause-goes c = goes_on (lexemes c.args.tokens.now) c.args.cursor c.args.cursor _ (omega arith) c.object.ensures.goes

pub returns-in-Components-clause-reads : goal.returns-in-Components-clause-reads
returns-in-Components-clause-reads c = λ ds hd. of_form (λ z. (parts.BehindNames z (map (lexeme c.args.tokens.now.source) c.args.names.now) ds)) (lexemes c.args.tokens.now) c.args.cursor _ _ _ c.in-Components.is (finds_last (lexemes c.args.tokens.now) c.args.cursor c.args.cursor _ _ _ (start (parts.BehindNames naming.Components (map (lexeme c.args.tokens.now.source) c.args.names.now) ds) _) (omega arith) refl (c.component.ensures.reads _ hd))

pub returns-in-Components-clause-goes : goal.returns-in-Components-clause-goes
returns-in-Components-clause-goes c = goes_on (lexemes c.args.tokens.now) c.args.cursor c.args.cursor _ (omega arith) c.component.ensures.goes

pub returns-in-Formals-clause-reads : goal.returns-in-Formals-clause-reads
returns-in-Formals-clause-reads c = λ ds hd. of_form (λ z. (parts.BehindNames z (map (lexeme c.args.tokens.now.source) c.args.names.now) ds)) (lexemes c.args.tokens.now) c.args.cursor _ _ _ c.in-Formals.is (finds_last (lexemes c.args.tokens.now) c.args.cursor c.args.cursor _ _ _ (start (parts.BehindNames naming.Formals (map (lexeme c.args.tokens.now.source) c.args.names.now) ds) _) (omega arith) refl (c.formal.ensures.reads _ hd))

pub returns-in-Formals-clause-goes : goal.returns-in-Formals-clause-goes
returns-in-Formals-clause-goes c = goes_on (lexemes c.args.tokens.now) c.args.cursor c.args.cursor _ (omega arith) c.formal.ensures.goes
