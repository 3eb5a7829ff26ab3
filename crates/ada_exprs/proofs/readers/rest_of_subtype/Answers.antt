use Rattle.std.proofs.Common.{[], ◌∷◌, refl, ◌∙◌, ap, arith}
use Rattle.ada_tree.specs.declared.token.Mark.TheVariants as marks
use Rattle.ada_tree.specs.declared.words.Reserved.TheVariants as words
use Rattle.ada_tree.specs.declared.expressions.ExprKind.TheVariants as kinds
use Rattle.ada_grammar.specs.declared.nodes.Form.TheVariants as forms
use Rattle.ada_grammar.specs.Lexemes.{lexeme, lexemes}
use Rattle.ada_grammar.specs.Built.{trees, phrase}
use Rattle.ada_grammar.specs.Phrases as phrases
use Rattle.ada_grammar.specs.Parts as parts
use Rattle.ada_grammar.specs.Parts.{mark, word, Gives, Rest, Call}
use Rattle.ada_grammar.proofs.NodeTrees.{extends_on, within_on}
use Rattle.ada_grammar.proofs.Steps.{start, seen, unseen, done, go_as}
use Rattle.ada_grammar.proofs.Answering.{fails, misses, passes}
use Rattle.ada_exprs.proofs.Found.{over_one, over_three}
use Rattle.ada_grammar.proofs.Joining.{absent, present}
use Rattle.std.proofs.Common.{true}
use Rattle.ada_exprs.proofs.readers.rest_of_subtype.Goals as goal

pub returns-in_err-next-clause-reads : goal.returns-in_err-next-clause-reads
returns-in_err-next-clause-reads c = passes (lexemes c.args.tokens.now) c.args.cursor c.args.cursor (word words.Range) _ _ _ (start (parts.SubtypeRange _) _) (λ t. refl) c.in_err-next.ensures c.from_residual.ensures.1

pub returns-in_default-clause-reads : goal.returns-in_default-clause-reads
returns-in_default-clause-reads c = record { within = c.in_ok-node.ensures.within; forward = omega arith; ends = c.requires.at; reads = go_as Gives (over_one forms.Simple kinds.SubtypeRange ((phrases.indication (phrase (trees c.args.exprs.now) c.args.mark)).tree ∷ []) c.args.mark.span (c.in_ok-node.ensures.builds ∙ ap (λ (z : phrases.Phrase). phrases.node forms.Simple kinds.SubtypeRange c.args.mark.span (z.tree ∷ [])) c.in_ok-indication.ensures.builds) refl refl) (unseen (start (parts.SubtypeRange _) _) (absent (word words.Range) (lexeme c.args.tokens.now.source) (lexemes c.args.tokens.now) c.args.cursor c.in_ok-next.ensures c.in_default.is)) }

pub returns-in_err-low-clause-reads : goal.returns-in_err-low-clause-reads
returns-in_err-low-clause-reads c = fails (lexemes c.args.tokens.now) c.args.cursor c.in-Some.next _ _ _ (seen (start (parts.SubtypeRange _) _) (present (word words.Range) (lexeme c.args.tokens.now.source) (lexemes c.args.tokens.now) c.args.cursor c.in_ok-next.ensures c.in-Some.is).takes refl) (λ b. refl) c.in_err-low.ensures.reads c.from_residual-in_err-low.ensures.1

pub returns-in_err-next-2-clause-reads : goal.returns-in_err-next-2-clause-reads
returns-in_err-next-2-clause-reads c = misses (lexemes c.args.tokens.now) c.args.cursor c.in_ok-low.next (mark marks.Dots) _ _ _ c.in_ok-low.ensures.reads.ends (done (seen (start (parts.SubtypeRange _) _) (present (word words.Range) (lexeme c.args.tokens.now.source) (lexemes c.args.tokens.now) c.args.cursor c.in_ok-next.ensures c.in-Some.is).takes refl) c.in_ok-low.ensures.reads.reads (λ b. refl)) refl (λ t. refl) c.in_err-next-2.ensures c.from_residual-in_err-next-2.ensures.1

pub returns-in_err-high-clause-extends : goal.returns-in_err-high-clause-extends
returns-in_err-high-clause-extends c = extends_on (c.read_simple.ensures.extends) c.read_simple-2.ensures.extends

pub returns-in_err-high-clause-reads : goal.returns-in_err-high-clause-reads
returns-in_err-high-clause-reads c = fails (lexemes c.args.tokens.now) c.args.cursor c.in_ok-next-2.next _ _ _ (seen (done (seen (start (parts.SubtypeRange _) _) (present (word words.Range) (lexeme c.args.tokens.now.source) (lexemes c.args.tokens.now) c.args.cursor c.in_ok-next.ensures c.in-Some.is).takes refl) c.in_ok-low.ensures.reads.reads (λ b. refl)) c.in_ok-next-2.ensures.takes refl) (λ b. refl) c.in_err-high.ensures.reads c.from_residual-in_err-high.ensures.1

pub add_three-requires-clause-a : goal.add_three-requires-clause-a
add_three-requires-clause-a c = within_on (extends_on c.read_simple.ensures.extends c.read_simple-2.ensures.extends) c.requires.mark

pub add_three-requires-clause-b : goal.add_three-requires-clause-b
add_three-requires-clause-b c = within_on c.read_simple-2.ensures.extends c.in_ok-low.ensures.reads.within

pub returns-in_err-indication-2-clause-extends : goal.returns-in_err-indication-2-clause-extends
returns-in_err-indication-2-clause-extends c = extends_on (extends_on (c.read_simple.ensures.extends) c.read_simple-2.ensures.extends) c.add_three.ensures.extends

pub returns-in_err-node-2-clause-extends : goal.returns-in_err-node-2-clause-extends
returns-in_err-node-2-clause-extends c = extends_on (extends_on (extends_on (c.read_simple.ensures.extends) c.read_simple-2.ensures.extends) c.add_three.ensures.extends) c.add_one-2.ensures.extends

pub returns-clause-extends : goal.returns-clause-extends
returns-clause-extends c = extends_on (extends_on (extends_on (c.read_simple.ensures.extends) c.read_simple-2.ensures.extends) c.add_three.ensures.extends) c.add_one-2.ensures.extends

pub returns-clause-reads : goal.returns-clause-reads
returns-clause-reads c = record { within = c.in_ok-node-2.ensures.within; forward = omega (arith, (present (word words.Range) (lexeme c.args.tokens.now.source) (lexemes c.args.tokens.now) c.args.cursor c.in_ok-next.ensures c.in-Some.is).place, c.in_ok-low.ensures.reads.forward, c.in_ok-next-2.ensures.place, c.in_ok-high.ensures.reads.forward); ends = c.in_ok-high.ensures.reads.ends; reads = go_as Gives (over_one forms.Simple kinds.SubtypeRange ((phrases.range_indication (phrase (trees c.args.exprs.now) c.args.mark) (phrase (trees c.read_simple.new.exprs) c.in_ok-low.low) (phrase (trees c.read_simple-2.new.exprs) c.in_ok-high.high)).tree ∷ []) (phrases.join c.args.mark.span c.in_ok-high.high.span) (c.in_ok-node-2.ensures.builds ∙ ap (λ (z : phrases.Phrase). phrases.node forms.Simple kinds.SubtypeRange c.join-span.result (z.tree ∷ [])) (over_three c.args.exprs.now c.read_simple.new.exprs c.read_simple-2.new.exprs forms.Simple (kinds.SubtypeIndication true) c.args.mark c.in_ok-low.low c.in_ok-high.high c.in_ok-indication-2.ensures.builds refl c.join-span.ensures (extends_on c.read_simple.ensures.extends c.read_simple-2.ensures.extends) c.requires.mark c.read_simple-2.ensures.extends c.in_ok-low.ensures.reads.within)) refl c.join-span.ensures) (done (seen (done (seen (start (parts.SubtypeRange _) _) (present (word words.Range) (lexeme c.args.tokens.now.source) (lexemes c.args.tokens.now) c.args.cursor c.in_ok-next.ensures c.in-Some.is).takes refl) c.in_ok-low.ensures.reads.reads (λ b. refl)) c.in_ok-next-2.ensures.takes refl) c.in_ok-high.ensures.reads.reads (λ b. refl)) }
