use Rattle.std.proofs.Common.{sym, ◌∙◌}
use Rattle.ada_grammar.specs.Lexemes.{lexeme}
use Rattle.ada_grammar.specs.Parts as parts
use Rattle.ada_grammar.specs.Parts.{word}
use Rattle.ada_grammar.proofs.Joining.{rest_as}
use Rattle.spark_parser.proofs.files.item.Goals as goal

pub returns-in-Pragma-clause-reads : goal.returns-in-Pragma-clause-reads
returns-in-Pragma-clause-reads c = λ start old os ds ho ha a. c.file_pragma.ensures.reads _ start old _ os ds ho ha (rest_as (λ z. parts.FileItem z (lexeme c.args.tokens.now.source c.args.first) c.args.so_far.ends os ds) (sym (sym c.file_form.ensures ∙ c.in-Pragma.is)) a)

pub returns-in-With-clause-reads : goal.returns-in-With-clause-reads
returns-in-With-clause-reads c = λ start old os ds ho ha a. c.context_with.ensures.reads start old os ds ho ha (rest_as (λ z. parts.FileItem z (lexeme c.args.tokens.now.source c.args.first) c.args.so_far.ends os ds) (sym (sym c.file_form.ensures ∙ c.in-With.is)) a)

pub returns-in-Use-clause-reads : goal.returns-in-Use-clause-reads
returns-in-Use-clause-reads c = λ start old os ds ho ha a. c.context_use.ensures.reads start old os ds ho ha (rest_as (λ z. parts.FileItem z (lexeme c.args.tokens.now.source c.args.first) c.args.so_far.ends os ds) (sym (sym c.file_form.ensures ∙ c.in-Use.is)) a)

pub returns-in-Package-clause-reads : goal.returns-in-Package-clause-reads
returns-in-Package-clause-reads c = λ start old os ds ho ha a. c.package.ensures.reads _ start old os ds ho ha (rest_as (λ z. parts.FileItem z (lexeme c.args.tokens.now.source c.args.first) c.args.so_far.ends os ds) (sym (sym c.file_form.ensures ∙ c.in-Package.is)) a)

pub returns-in-Procedure-clause-reads : goal.returns-in-Procedure-clause-reads
returns-in-Procedure-clause-reads c = λ start old os ds ho ha a. c.main_subprogram.ensures.reads _ start old os ds ho ha (rest_as (λ z. parts.FileItem z (lexeme c.args.tokens.now.source c.args.first) c.args.so_far.ends os ds) (sym (sym c.file_form.ensures ∙ c.in-Procedure.is)) a)
