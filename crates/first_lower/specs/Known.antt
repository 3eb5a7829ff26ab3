-- The names of a part are those of variables.
use Rattle.std.specs.Prelude.{◌≡◌, ℕ, true, List, [], ◌∷◌}
use Rattle.first_conditions.specs.Conditions.{key, is_known, words_of}
use Rattle.first_path.specs.declared.source.Entry.{Entry}
use Rattle.first_path.specs.declared.source.Line.{Line}
use Rattle.first_path.specs.declared.source.Line.TheVariants as line
use Rattle.first_path.specs.declared.source.Primary.{Primary}
use Rattle.first_path.specs.declared.source.Primary.TheVariants as primary
use Rattle.first_path.specs.declared.source.Sum.{Sum}
use Rattle.first_path.specs.declared.source.Term.{Term}
use Rattle.first_path.specs.declared.source.Test.{Test}
use Rattle.first_path.specs.declared.source.Word.{Word}

abbrev pub Each : {A : Type 0} → (A → Type 0) → List A → Type 0
Each P [] = Unit {0}
Each P (x ∷ xs) = P x × Each P xs

abbrev pub KnownWord : List (List ℕ) → Word → Type 0
KnownWord keys w = is_known keys (key w) ≡ true

abbrev pub KnownPrimary : List (List ℕ) → Primary → Type 0
KnownPrimary keys (primary.Name w) = KnownWord keys w
KnownPrimary keys (primary.Number n) = Unit {0}

abbrev pub KnownTerm : List (List ℕ) → Term → Type 0
KnownTerm keys t = KnownPrimary keys t.operand

abbrev pub KnownSum : List (List ℕ) → Sum → Type 0
KnownSum keys s = KnownPrimary keys s.first × Each (KnownTerm keys) s.more

abbrev pub KnownTest : List (List ℕ) → Test → Type 0
KnownTest keys t = KnownSum keys t.left × KnownSum keys t.right

abbrev pub KnownLine : List (List ℕ) → Line → Type 0
KnownLine keys line.Null = Unit {0}
KnownLine keys (line.Assign target value) = KnownWord keys target × KnownSum keys value
KnownLine keys (line.If test) = KnownTest keys test
KnownLine keys line.Else = Unit {0}
KnownLine keys line.EndIf = Unit {0}

abbrev pub KnownEntry : List (List ℕ) → Entry → Type 0
KnownEntry keys e = Each (KnownWord keys) (words_of e.names)
