-- What is told of one file and of all, from what its reader found.
use Rattle.std.proofs.Common.{◌≡◌, ℕ, zero, suc, ◌<◌, ◌≤◌, ◌+◌, length, take, drop, get_or, List, [], ◌∷◌, ◌++◌, true, false, Some, Err, refl, arith, sym, ap, ◌∙◌, subst, append_assoc, append-nil}
use Rattle.std.proofs.lemmas.List.{drop_all, take_all, take_more}
use Rattle.spark_messages.specs.declared.messages.Message.{Message}
use Rattle.spark_messages.specs.declared.messages.PhaseFault.{PhaseFault}
use Rattle.spark_messages.specs.declared.messages.PhaseFault.TheVariants as faults
use Rattle.ada_tree.specs.declared.token.Tokens.{Tokens}
use Rattle.ada_tree.specs.declared.units.Unit as declared_unit
use Rattle.ada_tree.specs.declared.units.Units.{Units}
use Rattle.ada_tree.specs.Tree.{IsOrdered}
use Rattle.ada_grammar.specs.declared.tokens.Cursor.{Cursor}
use Rattle.ada_grammar.specs.declared.tokens.Nesting.{Nesting}
use Rattle.ada_grammar.specs.Lexemes.{Lexeme, lexemes}
use Rattle.ada_grammar.specs.Limits.{outermost, walk}
use Rattle.ada_grammar.specs.Phrases.{Phrase, Tree, gives}
use Rattle.ada_grammar.specs.Parts.{File}
use Rattle.ada_grammar.specs.Spelling.{Spells}
use Rattle.ada_grammar.specs.Answer.{IsFault, IsPhrase, Longest, ForSyntax, ForLimit}
use Rattle.ada_grammar.specs.Refusals.{Tells, syntax_message}
use Rattle.ada_grammar.specs.Standing.{Stands, nowhere}
use Rattle.ada_grammar.proofs.Ahead.{lexemes_length}
use Rattle.ada_grammar.proofs.Plain.{plain_phrase}
use Rattle.spark_parser.specs.Files.{Adds, accepted, refused, AreSoFar, FoundFile, HasFile, TellsFile}
use Rattle.spark_parser.specs.Parsed.{AreRead, AreRefused, IsFile, IsRefused, Told, nothing, reads, refuses, unit_refs}
use Rattle.spark_parser.specs.Parsed as parsed

-- One file

more_left : {A : Type 0} (n : ℕ) (xs : List A) → n < length xs → (x : A) × (rest : List A) × (drop n xs ≡ x ∷ rest)
more_left n [] h = absurd (omega (arith, h))
more_left zero (x ∷ xs) h = (x, xs, refl)
more_left (suc n) (x ∷ xs) h = more_left n xs (omega (arith, h))

-- no file begins with the longest front and the next token
none_beyond : {level : Nesting} {ts u r : List Lexeme} → Longest File level ts u r → (t : Lexeme) (further : List Lexeme) → r ≡ t ∷ further → (y : Phrase) → Spells File y ts → ⊥
none_beyond {level} {ts} {u} {r} f t further e y h =
    f.longest t further e (y, further, subst (λ (z : List Lexeme). Spells File y z) (f.splits ∙ (ap (λ (z : List Lexeme). u ++ z) e ∙ sym (append_assoc u (t ∷ []) further))) h)

-- where the longest front is no file, the whole is none
no_file : {level : Nesting} {ts u : List Lexeme} (r : List Lexeme) → Longest File level ts u r → ((y : Phrase) → Spells File y u → ⊥) → (y : Phrase) → Spells File y ts → ⊥
no_file {level} {ts} {u} [] f none y h = none y (subst (λ (z : List Lexeme). Spells File y z) (f.splits ∙ append-nil u) h)
no_file (t ∷ further) f none y h = none_beyond f t further refl y h

all_read : {level : Nesting} {ts u r : List Lexeme} → r ≡ [] → Longest File level ts u r → u ≡ ts
all_read {level} {ts} {u} {r} e f = sym (f.splits ∙ (ap (λ (z : List Lexeme). u ++ z) e ∙ append-nil u))

-- the reader stopped at the end
pub whole_file : (tokens : Tokens) {start next : Cursor} {old now : Units} → start.at ≡ 0 → start.nesting ≡ outermost 0 → length tokens.list ≤ next.at → FoundFile (lexemes tokens) start old now next → HasFile tokens old now
whole_file tokens {start} {next} {old} {now} at e past f = record {
  units = f.read.units;
  is =
      let i : IsPhrase File start.nesting (drop start.at (lexemes tokens)) (drop next.at (lexemes tokens)) (gives f.read) = plain_phrase f.reads in
      let j = subst (λ (z : ℕ). IsPhrase File start.nesting (drop z (lexemes tokens)) (drop next.at (lexemes tokens)) (gives f.read)) at i in
      let k = subst (λ (z : Nesting). IsPhrase File z (lexemes tokens) (drop next.at (lexemes tokens)) (gives f.read)) e j in
      let same = all_read (drop_all next.at (lexemes tokens) (omega (arith, past, lexemes_length tokens))) k.front in
      record {
        phrase = gives f.read;
        gives = refl;
        spells = subst (λ (z : List Lexeme). Spells File (gives f.read) z) same k.spells;
        one = λ y h. k.one y (subst (λ (z : List Lexeme). Spells File y z) (sym same) h);
        ends = k.front.ends;
        within = subst (λ (z : List Lexeme). walk (outermost 0) z ≡ Some k.front.ends) same k.front.within;
      };
  adds = f.adds;
  ordered = f.ordered;
}

-- tokens stand behind the file
pub told_beyond : (tokens : Tokens) {start next : Cursor} {old now : Units} (f : PhaseFault) → start.at ≡ 0 → start.nesting ≡ outermost 0 → next.at < length tokens.list → FoundFile (lexemes tokens) start old now next
    → Tells (syntax_message tokens next.at) f → TellsFile tokens old now (Err f)
told_beyond tokens faults.NoMemory at e within found tells = tt
told_beyond tokens {start} {next} {old} {now} (faults.Refused m) at e within found tells =
    let i : IsPhrase File start.nesting (drop start.at (lexemes tokens)) (drop next.at (lexemes tokens)) (gives found.read) = plain_phrase found.reads in
    let j = subst (λ (z : ℕ). IsPhrase File start.nesting (drop z (lexemes tokens)) (drop next.at (lexemes tokens)) (gives found.read)) at i in
    let k = subst (λ (z : Nesting). IsPhrase File z (lexemes tokens) (drop next.at (lexemes tokens)) (gives found.read)) e j in
    let left = more_left next.at (lexemes tokens) (omega (arith, within, lexemes_length tokens)) in
    parsed.ForSyntax (record {
      none = none_beyond k.front left.0 left.1 left.2;
      place = next.at;
      ends = omega (arith, within);
      word = k.word;
      front = k.front;
      message = tells;
    })

-- the reader failed
pub told_fault : (tokens : Tokens) (old now : Units) (level : Nesting) (f : PhaseFault) → level ≡ outermost 0 → IsFault File level tokens 0 f → TellsFile tokens old now (Err f)
told_fault tokens old now level faults.NoMemory e h = tt
told_fault tokens old now level (faults.Refused m) e h =
    elim (subst (λ (z : Nesting). IsFault File z tokens 0 (faults.Refused m)) e h) [
      | ForSyntax i ↦ parsed.ForSyntax (record {
        none = no_file (drop i.place (lexemes tokens)) i.refuses.front i.refuses.none;
        place = i.place;
        ends = i.ends;
        word = i.refuses.word;
        front = i.refuses.front;
        message = i.message;
      })
      | ForLimit i ↦ parsed.ForLimit i
    ]

-- All files

told_reads : {all : List Tokens} {us ts : List Tree} {ms : List Message} {tokens : Tokens} → Told all us ms → IsFile tokens ts → Told (all ++ tokens ∷ []) (us ++ ts) ms
told_reads {all} {us} {ts} {ms} {tokens} nothing f = subst (λ (z : List Tree). Told (tokens ∷ []) z []) (append-nil ts) (reads f nothing)
told_reads {ts = ts} {ms = ms} {tokens = tokens} (reads {tokens = first} {units = units} {more = more} {all = all} g rest) f =
    subst (λ (z : List Tree). Told (first ∷ (all ++ tokens ∷ [])) z ms) (sym (append_assoc units more ts)) (reads g (told_reads rest f))
told_reads (refuses r rest) f = refuses r (told_reads rest f)

told_refuses : {all : List Tokens} {us : List Tree} {ms : List Message} {tokens : Tokens} {m : Message} → Told all us ms → IsRefused tokens m → Told (all ++ tokens ∷ []) us (ms ++ m ∷ [])
told_refuses nothing r = refuses r nothing
told_refuses (reads g rest) r = reads g (told_refuses rest r)
told_refuses (refuses q rest) r = refuses q (told_refuses rest r)

not_none : (ms : List Message) (m : Message) → ms ++ m ∷ [] ≡ [] → ⊥
not_none [] m e = cc
not_none (n ∷ ms) m e = cc

next_file : {all : List Tokens} {tokens : Tokens} {u v : Units} {ms ns : List Message} → AreSoFar all u ms → Adds tokens u v ms ns → AreSoFar (all ++ tokens ∷ []) v ns
next_file {all} {tokens} {u} {v} {ms} {ns} s (accepted f same) = record {
  units = s.units ++ f.units;
  told = subst (λ (z : List Message). Told (all ++ tokens ∷ []) (s.units ++ f.units) z) (sym same) (told_reads s.told f.is);
  ordered = f.ordered;
  stands = λ e. f.adds s.units (s.stands (sym same ∙ e));
}
next_file {all} {tokens} {u} {v} {ms} {ns} s (refused {m = m} r ordered same) = record {
  units = s.units;
  told = subst (λ (z : List Message). Told (all ++ tokens ∷ []) s.units z) (sym same) (told_refuses s.told r);
  ordered = ordered;
  stands = λ e. absurd (not_none ms m (sym same ∙ e));
}

-- one file more of a list
pub files_on : (all : List Tokens) (i : ℕ) (tokens : Tokens) {u v : Units} {ms ns : List Message} → tokens ≡ get_or all i tokens → i < length all → AreSoFar (take i all) u ms → Adds tokens u v ms ns → AreSoFar (take (i + 1) all) v ns
files_on all i tokens {u} {v} {ms} {ns} e within s a =
    subst (λ (z : List Tokens). AreSoFar z v ns) (sym (take_more all i tokens within ∙ ap (λ (z : Tokens). take i all ++ z ∷ []) (sym e))) (next_file s a)

-- no file yet
pub no_files : {u : Units} {ms : List Message} → IsOrdered u → u.units ≡ [] → ms ≡ [] → AreSoFar [] u ms
no_files {u} {ms} ordered none e = record {
  units = [];
  told = subst (λ (z : List Message). Told [] [] z) (sym e) nothing;
  ordered = ordered;
  stands = λ f. subst (λ (z : List declared_unit.Unit). Stands u (unit_refs (length z)) []) (sym none) nowhere;
}

-- no file is left
all_files : (all : List Tokens) (i : ℕ) {u : Units} {ms : List Message} → length all ≤ i → AreSoFar (take i all) u ms → AreSoFar all u ms
all_files all i {u} {ms} past s = subst (λ (z : List Tokens). AreSoFar z u ms) (take_all i all past) s

pub are_read : (all : List Tokens) (i : ℕ) {u : Units} {ms : List Message} → length all ≤ i → ms ≡ [] → AreSoFar (take i all) u ms → AreRead all u
are_read all i {u} {ms} past none s =
    let a = all_files all i past s in
    record { units = a.units; told = subst (λ (z : List Message). Told all a.units z) none a.told; stands = a.stands none; ordered = a.ordered }

pub are_refused : (all : List Tokens) (i : ℕ) {u : Units} {ms : List Message} → length all ≤ i → (ms ≡ [] → false ≡ true) → AreSoFar (take i all) u ms → AreRefused all ms
are_refused all i {u} {ms} past some s =
    let a = all_files all i past s in
    record { units = a.units; told = a.told; some = λ e. let f : false ≡ true = some e in (cc) }
