use Rattle.std.proofs.Common.{refl, map, arith, ap}
use Rattle.ada_tree.specs.declared.declarations.DeclKind.TheVariants as decls
use Rattle.ada_tree.specs.declared.forms.Region.TheVariants as regions
use Rattle.ada_grammar.specs.Lexemes.{lexeme, lexemes}
use Rattle.ada_grammar.specs.Parts as parts
use Rattle.ada_grammar.specs.Parts.{mark, word, Gives, Call, Rest}
use Rattle.ada_grammar.proofs.Steps.{start}
use Rattle.ada_grammar.proofs.Joining.{rest_as, finds_last, goes_on}
use Rattle.spark_parser.proofs.declarations.head_in_protected.Goals as goal

pub returns-clause-reads : goal.returns-clause-reads
returns-clause-reads c = λ os ds ho hd. finds_last (lexemes c.args.tokens.now) c.args.cursor c.args.cursor _ _ _ (rest_as (λ z. parts.Closing (decls.ProtectedSubprogram c.args.head) z os ds) (ap (λ z. map (lexeme c.args.tokens.now.source) z) c.in_ok-names.ensures) (start (parts.BehindHead regions.Protected c.args.head (lexeme c.args.tokens.now.source c.args.name) os ds) _)) (omega arith) refl (c.closing.ensures.reads _ _ ho hd)

pub returns-clause-goes : goal.returns-clause-goes
returns-clause-goes c = goes_on (lexemes c.args.tokens.now) c.args.cursor c.args.cursor _ (omega arith) c.closing.ensures.goes
