-- What is found: that a rule is broken, what a name denotes, or the type of an expression.
use Rattle.std.specs.Prelude.{◌≡◌, ◌⊎◌, ℕ, Bool, true, false, if◌then◌else◌, nat_eq, nat_lt, List, [], ◌∷◌, All, set, replicate, Option, Some, None}
use Rattle.spark_base.specs.declared.numbers.DeclNo.{DeclNo}
use Rattle.spark_base.specs.declared.numbers.ExprNo.{ExprNo}
use Rattle.spark_base.specs.declared.numbers.Pos.{Pos}
use Rattle.spark_base.specs.declared.numbers.TypeNo.{TypeNo}
use Rattle.spark_messages.specs.declared.messages.Code.{Code}
use Rattle.spark_messages.specs.declared.messages.Code.TheVariants as codes
use Rattle.name_findings.specs.declared.findings.Fault.{Fault}
use Rattle.name_findings.specs.declared.findings.Mention.{Mention}
use Rattle.name_findings.specs.declared.findings.Spelling.{Spelling}
use Rattle.name_findings.specs.declared.findings.Spelling.TheVariants as spelled

pub data Finding : Type 0 where
  Refuses : Fault → Finding
  Denotes : ExprNo → DeclNo → Finding
  HasType : ExprNo → TypeNo → Finding

-- The refusal that counts is the first by place and code, whatever the order in which they are found

abbrev pub rank : Code → ℕ
rank codes.N01 = 1
rank codes.N02 = 2
rank codes.N03 = 3
rank codes.N04 = 4
rank codes.N05 = 5
rank codes.N06 = 6
rank codes.N07 = 7
rank codes.N08 = 8
rank codes.N09 = 9
rank codes.N10 = 10
rank codes.N11 = 11
rank codes.N12 = 12
rank codes.Y01 = 21
rank codes.Y02 = 22
rank codes.Y03 = 23
rank codes.Y04 = 24
rank codes.Y05 = 25
rank codes.Y06 = 26
rank codes.Y07 = 27
rank codes.Y08 = 28
rank codes.Y09 = 29
rank _ = 99

-- the first numbers decide where they differ
abbrev pub lex : ℕ → ℕ → Bool → Bool
lex a b rest = if nat_eq a b then rest else nat_lt a b

abbrev pub is_before : Fault → Fault → Bool
is_before a b = lex a.at.line b.at.line (lex a.at.col b.at.col (nat_lt (rank a.code) (rank b.code)))

-- the earlier one, and of two alike the first
abbrev pub earlier : Option Fault → Fault → Fault
earlier None f = f
earlier (Some e) f = if is_before f e then f else e

-- what is kept of what was found
pub record Told : Type 0 where
  pub first : Option Fault
  pub decl_of : List (Option DeclNo)
  pub type_of : List (Option TypeNo)

-- nothing found yet
abbrev pub blank : ℕ → Told
blank exprs = record { first = None; decl_of = replicate exprs None; type_of = replicate exprs None }

abbrev pub add : Told → Finding → Told
add t (Refuses f) = record t { first = Some (earlier t.first f) }
add t (Denotes e d) = record t { decl_of = set t.decl_of e.0 (Some d) }
add t (HasType e n) = record t { type_of = set t.type_of e.0 (Some n) }

abbrev pub add_all : Told → List Finding → Told
add_all t [] = t
add_all t (f ∷ fs) = add_all (add t f) fs

abbrev pub refuse : Code → Pos → Spelling → List Finding
refuse code at spelling = Refuses (record { at = at; code = code; spelling = spelling }) ∷ []

-- one condition: it refuses where it holds
abbrev pub refuse_if : Bool → Code → Pos → Spelling → List Finding
refuse_if true code at spelling = refuse code at spelling
refuse_if false code at spelling = []

-- of a rule whose text tells no name
abbrev pub refuse_silent : Bool → Code → Pos → List Finding
refuse_silent holds code at = refuse_if holds code at spelled.Nothing

-- of a rule that tells the name of a node
abbrev pub refuse_word : Code → Pos → ExprNo → List Finding
refuse_word code at e = refuse code at (spelled.Word e)

abbrev pub refuse_mention : Code → Option Mention → List Finding
refuse_mention code None = []
refuse_mention code (Some m) = refuse_word code m.at m.expr

-- what is predefined has no declaration
abbrev pub denotes_decl : ExprNo → Option DeclNo → List Finding
denotes_decl e None = []
denotes_decl e (Some d) = Denotes e d ∷ []

-- The faults among findings, and the first of them

abbrev pub faults_in : List Finding → List Fault
faults_in [] = []
faults_in (Refuses f ∷ fs) = f ∷ faults_in fs
faults_in (Denotes e d ∷ fs) = faults_in fs
faults_in (HasType e n ∷ fs) = faults_in fs

abbrev pub IsIn : Fault → List Fault → Type 0
IsIn f [] = ⊥
IsIn f (g ∷ gs) = (f ≡ g) ⊎ IsIn f gs

-- one of these, and none of them comes before it
pub record IsFirst (f : Fault) (fs : List Fault) : Type 0 where
  pub among : IsIn f fs
  pub least : All (λ (g : Fault). is_before g f ≡ false) fs

abbrev pub Answers : List Finding → Option Fault → Type 0
Answers fs None = faults_in fs ≡ []
Answers fs (Some f) = IsFirst f (faults_in fs)
