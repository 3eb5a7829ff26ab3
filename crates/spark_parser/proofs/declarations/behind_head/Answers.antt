use Rattle.ada_grammar.specs.Lexemes.{lexeme, lexemes}
use Rattle.ada_grammar.specs.Parts as parts
use Rattle.ada_grammar.specs.Parts.{mark, word, Gives, Call, Rest}
use Rattle.ada_grammar.proofs.Joining.{of_form}
use Rattle.spark_parser.proofs.declarations.behind_head.Goals as goal

pub returns-in-Spec-clause-reads : goal.returns-in-Spec-clause-reads
returns-in-Spec-clause-reads c = λ os ds ho hd. of_form (λ z. (parts.BehindHead z c.args.head (lexeme c.args.tokens.now.source c.args.name) os ds)) (lexemes c.args.tokens.now) c.args.cursor _ _ _ c.in-Spec.is (c.head_in_spec.ensures.reads _ _ ho hd)

pub returns-in-Spec-clause-goes : goal.returns-in-Spec-clause-goes
returns-in-Spec-clause-goes c = c.head_in_spec.ensures.goes

pub returns-in-Body-clause-reads : goal.returns-in-Body-clause-reads
returns-in-Body-clause-reads c = λ os ds ho hd. of_form (λ z. (parts.BehindHead z c.args.head (lexeme c.args.tokens.now.source c.args.name) os ds)) (lexemes c.args.tokens.now) c.args.cursor _ _ _ c.in-Body.is (c.head_in_body.ensures.reads _ _ ho hd)

pub returns-in-Body-clause-goes : goal.returns-in-Body-clause-goes
returns-in-Body-clause-goes c = c.head_in_body.ensures.goes

pub returns-in-Protected-clause-reads : goal.returns-in-Protected-clause-reads
returns-in-Protected-clause-reads c = λ os ds ho hd. of_form (λ z. (parts.BehindHead z c.args.head (lexeme c.args.tokens.now.source c.args.name) os ds)) (lexemes c.args.tokens.now) c.args.cursor _ _ _ c.in-Protected.is (c.head_in_protected.ensures.reads _ _ ho hd)

pub returns-in-Protected-clause-goes : goal.returns-in-Protected-clause-goes
returns-in-Protected-clause-goes c = c.head_in_protected.ensures.goes

pub returns-in-ProtectedBody-clause-reads : goal.returns-in-ProtectedBody-clause-reads
returns-in-ProtectedBody-clause-reads c = λ os ds ho hd. of_form (λ z. (parts.BehindHead z c.args.head (lexeme c.args.tokens.now.source c.args.name) os ds)) (lexemes c.args.tokens.now) c.args.cursor _ _ _ c.in-ProtectedBody.is (c.head_in_protected_body.ensures.reads _ _ ho hd)

pub returns-in-ProtectedBody-clause-goes : goal.returns-in-ProtectedBody-clause-goes
returns-in-ProtectedBody-clause-goes c = c.head_in_protected_body.ensures.goes
