-- The answer of a call in plain words, from that of a reader.
use Rattle.std.proofs.Common.{◌≡◌, List, Result, Ok, Err, subst, arith}
use Rattle.ada_tree.specs.declared.token.Tokens.{Tokens}
use Rattle.ada_grammar.specs.declared.nodes.Built.{Built}
use Rattle.ada_grammar.specs.declared.tokens.Cursor.{Cursor}
use Rattle.ada_grammar.specs.declared.tokens.Fault.{Fault}
use Rattle.ada_grammar.specs.Answer.{HasRead, IsAnswer}
use Rattle.ada_grammar.specs.Parts.{Part}
use Rattle.ada_grammar.specs.Lexemes.{lexemes}
use Rattle.ada_grammar.specs.Phrases.{Tree}
use Rattle.ada_grammar.specs.Reading.{Answers, Done, Fails}
use Rattle.ada_grammar.proofs.Ahead.{lexemes_length}
use Rattle.ada_grammar.proofs.Plain.{plain_read}

read_of : (part : Part) (tokens : Tokens) (cursor : Cursor) (built : List Tree) (x : Built) (next : Cursor) → Done part (lexemes tokens) cursor built x next → HasRead part cursor.nesting tokens cursor.at built x.node next.at
read_of part tokens cursor built x next d = record {
  there = d.within;
  forward = d.forward;
  ends = omega (arith, d.ends, lexemes_length tokens);
  reads = plain_read d.reads;
}

pub told_read : (tokens : Tokens) (answer : Result (Built × Cursor) Fault) (x : Built) (next : Cursor) → answer ≡ Ok (x, next) → (part : Part) (cursor : Cursor) (built : List Tree) → Answers part (lexemes tokens) cursor built answer → IsAnswer part cursor.nesting tokens cursor.at built (Ok (x.node, next.at))
told_read tokens answer x next is part cursor built h =
    read_of part tokens cursor built x next (subst (λ (a : Result (Built × Cursor) Fault). Answers part (lexemes tokens) cursor built a) is h)

pub failed : (tokens : Tokens) (answer : Result (Built × Cursor) Fault) (e : Fault) → answer ≡ Err e → (part : Part) (cursor : Cursor) (built : List Tree) → Answers part (lexemes tokens) cursor built answer → Fails part (lexemes tokens) cursor e
failed tokens answer e is part cursor built h = subst (λ (a : Result (Built × Cursor) Fault). Answers part (lexemes tokens) cursor built a) is h
