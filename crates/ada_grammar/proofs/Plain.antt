-- The answer in plain words, from what a reader answers.
use Rattle.std.proofs.Common.{◌≡◌, List, [], ◌∷◌, ◌++◌, refl, sym, ◌∙◌, ap, subst, append_assoc, append-nil}
use Rattle.ada_grammar.specs.Lexemes.{Lexeme}
use Rattle.ada_grammar.specs.Phrases.{Phrase}
use Rattle.ada_grammar.specs.Parts.{Part, Body, Never, Gives}
use Rattle.ada_grammar.specs.Spelling.{Fits, gives, Spells}
use Rattle.ada_grammar.specs.Fronts.{Point}
use Rattle.ada_grammar.specs.Reading.{At, Awaits, Reads}
use Rattle.ada_grammar.specs.Answer.{Longest, IsPhrase, IsRead, IsRefused}

-- where the rest takes no token, the front is the longest
front : {part : Part} {p q : Point} {b : Body} (a : Awaits part p q b) → ((y : Phrase) (v : List Lexeme) → Fits b y v → v ≡ []) → Longest part p.level p.rest a.word q.rest
front {part} {p} {q} {b} a ends = record {
  splits = a.splits;
  viable = a.viable;
  longest = λ t further e h.
      let x = a.only h.0 ((a.word ++ (t ∷ [])) ++ h.1) [] (t ∷ h.1) (subst (λ (z : List Lexeme). At z (t ∷ h.1)) (sym e) refl) (append-nil ((a.word ++ (t ∷ [])) ++ h.1) ∙ append_assoc a.word (t ∷ []) h.1) tt h.2 in
      let none = ends h.0 x.0 x.3 in
      let long : [] ≡ t ∷ h.1 = ap (λ (z : List Lexeme). z ++ []) (sym none) ∙ x.2 in (cc);
  ends = q.level;
  within = a.walked;
}

given : {a y : Phrase} {v : List Lexeme} → Fits (Gives a) y v → (y ≡ a) × (v ≡ [])
given gives = (refl, refl)

sentence_at : {part : Part} {p q : Point} {b : Body} (a : Awaits part p q b) (y : Phrase) → Spells part y a.word → (v : List Lexeme) × Fits b y v
sentence_at a y h = let x = a.only y a.word [] [] tt refl tt h in (x.0, x.3)

pub plain_phrase : {part : Part} {p q : Point} {x : Phrase} → Reads part p q x → IsPhrase part p.level p.rest q.rest x
plain_phrase {part} {p} {q} {x} a = record {
  word = a.word;
  front = front a (λ y v h. (given h).1);
  spells = subst (λ (z : List Lexeme). Spells part x z) (append-nil a.word) (a.made x [] gives);
  one = λ y h. (given (sentence_at a y h).1).0;
}

pub plain_read : {part : Part} {p q : Point} {x : Phrase} → Reads part p q x → IsRead part p.level p.rest q.rest x.tree
plain_read {part} {p} {q} {x} a = let i = plain_phrase a in record {
  word = i.word;
  front = i.front;
  phrase = x;
  tree = refl;
  spells = i.spells;
  one = i.one;
}

pub plain_refused : {part : Part} {p q : Point} → Awaits part p q Never → IsRefused part p.level p.rest q.rest
plain_refused {part} {p} {q} a = record {
  word = a.word;
  front = front a (λ y v h. elim h [ ]);
  none = λ y h. elim (sentence_at a y h).1 [ ];
}
