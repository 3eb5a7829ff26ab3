-- The answer of a call in plain words, from that of a reader.
use Rattle.std.proofs.Common.{◌≡◌, ℕ, [], ◌∷◌, map, subst, arith}
use Rattle.spark_base.specs.declared.numbers.StmtNo.{StmtNo}
use Rattle.spark_messages.specs.declared.messages.PhaseFault.{PhaseFault}
use Rattle.spark_messages.specs.declared.messages.PhaseFault.TheVariants as faults
use Rattle.ada_tree.specs.declared.token.Tokens.{Tokens}
use Rattle.ada_tree.specs.declared.units.Units.{Units}
use Rattle.ada_grammar.specs.declared.children.Children as held
use Rattle.ada_grammar.specs.declared.tokens.Cursor.{Cursor}
use Rattle.ada_grammar.specs.declared.tokens.Fault.{Fault}
use Rattle.ada_grammar.specs.declared.tokens.Fault.TheVariants as fault
use Rattle.ada_grammar.specs.Answer.{ForLimit, ForSyntax, HasAspects, HasDeclarations, HasSequence, IsFault}
use Rattle.ada_grammar.specs.Parts.{Part}
use Rattle.ada_grammar.specs.Lexemes.{lexemes}
use Rattle.ada_grammar.specs.Reading.{Barred, Fails, Refused}
use Rattle.ada_grammar.specs.Refusals.{Tells, syntax_message, limit_message}
use Rattle.ada_grammar.specs.Standing.{Found, Stands, StmtRef}
use Rattle.ada_grammar.proofs.Ahead.{lexemes_length}
use Rattle.ada_grammar.proofs.Plain.{plain_phrase, plain_refused}

syntax_of : (part : Part) (tokens : Tokens) (cursor : Cursor) (i : ℕ) (f : PhaseFault) → Refused part (lexemes tokens) cursor i → Tells (syntax_message tokens i) f → IsFault part cursor.nesting tokens cursor.at f
syntax_of part tokens cursor i (faults.Refused m) r e = ForSyntax (record {
  place = i;
  ends = omega (arith, r.ends, lexemes_length tokens);
  refuses = plain_refused r.sticks;
  message = e;
})
syntax_of part tokens cursor i faults.NoMemory r e = tt

limit_of : (part : Part) (tokens : Tokens) (cursor : Cursor) (i : ℕ) (f : PhaseFault) → Barred part (lexemes tokens) cursor i → Tells (limit_message tokens i) f → IsFault part cursor.nesting tokens cursor.at f
limit_of part tokens cursor i (faults.Refused m) r e = ForLimit (record {
  place = i;
  ends = omega (arith, r.ends, lexemes_length tokens);
  bars = r.bars;
  message = e;
})
limit_of part tokens cursor i faults.NoMemory r e = tt

-- each fault with its message
pub told_nothing : (tokens : Tokens) (e : Fault) → (part : Part) (cursor : Cursor) → Fails part (lexemes tokens) cursor e → IsFault part cursor.nesting tokens cursor.at faults.NoMemory
told_nothing tokens e part cursor h = tt

pub told_syntax : (tokens : Tokens) (e : Fault) (i : ℕ) (f : PhaseFault) → e ≡ fault.Syntax i → Tells (syntax_message tokens i) f → (part : Part) (cursor : Cursor) → Fails part (lexemes tokens) cursor e → IsFault part cursor.nesting tokens cursor.at f
told_syntax tokens e i f is tells part cursor h = syntax_of part tokens cursor i f (subst (λ (z : Fault). Fails part (lexemes tokens) cursor z) is h) tells

pub told_limit : (tokens : Tokens) (e : Fault) (i : ℕ) (f : PhaseFault) → e ≡ fault.Limit i → Tells (limit_message tokens i) f → (part : Part) (cursor : Cursor) → Fails part (lexemes tokens) cursor e → IsFault part cursor.nesting tokens cursor.at f
told_limit tokens e i f is tells part cursor h = limit_of part tokens cursor i f (subst (λ (z : Fault). Fails part (lexemes tokens) cursor z) is h) tells

-- what was found, in plain words
pub has_aspects : {part : Part} (tokens : Tokens) {cursor : Cursor} {u : Units} {r : held.Children} {next : Cursor} → Found part (lexemes tokens) cursor u r next → HasAspects part cursor.nesting tokens cursor.at u r.aspects next.at
has_aspects tokens f = record {
  forward = f.forward;
  ends = omega (arith, f.ends, lexemes_length tokens);
  children = f.children;
  stands = f.holds.aspects;
  reads = plain_phrase f.reads;
}

pub has_declarations : {part : Part} (tokens : Tokens) {cursor : Cursor} {u : Units} {r : held.Children} {next : Cursor} → Found part (lexemes tokens) cursor u r next → HasDeclarations part cursor.nesting tokens cursor.at u r.decls next.at
has_declarations tokens f = record {
  forward = f.forward;
  ends = omega (arith, f.ends, lexemes_length tokens);
  children = f.children;
  stands = f.holds.decls;
  reads = plain_phrase f.reads;
}

pub has_sequence : {part : Part} (tokens : Tokens) {cursor : Cursor} {u : Units} {r : held.Children} {next : Cursor} {n : StmtNo} → r.stmts ≡ n ∷ [] → Found part (lexemes tokens) cursor u r next → HasSequence part cursor.nesting tokens cursor.at u n next.at
has_sequence tokens {cursor} {u} {r} {next} {n} e f = record {
  forward = f.forward;
  ends = omega (arith, f.ends, lexemes_length tokens);
  children = f.children;
  stands = subst (λ z. Stands u (map StmtRef z) f.children.stmts) e f.holds.stmts;
  reads = plain_phrase f.reads;
}
