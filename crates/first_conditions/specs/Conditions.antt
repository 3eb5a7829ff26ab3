-- What a source of the first path meets beside its grammar.
use Rattle.std.specs.Prelude.{◌≡◌, ◌≢◌, ℕ, ◌+◌, ◌≤◌, Bool, true, false, if◌then◌else◌, List, [], ◌∷◌}
use Rattle.std.specs.Prelude.{◌++◌, map, All, Option, Some, None, IsSome, IfSome, length, codes}
use Rattle.std.specs.Char.{to_ascii_lowercase}
use Rattle.std.specs.List.{flat_map, list_any}
use Rattle.std.specs.Str.{bytes_eq}
use Rattle.core_form.specs.declared.contract.Mode.{Mode}
use Rattle.core_form.specs.declared.contract.Mode.TheVariants as modes
use Rattle.first_path.specs.declared.source.Entry.{Entry}
use Rattle.first_path.specs.declared.source.GlobalForm.{GlobalForm}
use Rattle.first_path.specs.declared.source.GlobalForm.TheVariants as global
use Rattle.first_path.specs.declared.source.Line.{Line}
use Rattle.first_path.specs.declared.source.Line.TheVariants as line
use Rattle.first_path.specs.declared.source.Names.{Names}
use Rattle.first_path.specs.declared.source.Names.TheVariants as names
use Rattle.first_path.specs.declared.source.Primary.{Primary}
use Rattle.first_path.specs.declared.source.Primary.TheVariants as primary
use Rattle.first_path.specs.declared.source.Source.{Source}
use Rattle.first_path.specs.declared.source.Spec.{Spec}
use Rattle.first_path.specs.declared.source.Sum.{Sum}
use Rattle.first_path.specs.declared.source.Variable.{Variable}
use Rattle.first_path.specs.declared.source.Word.{Word}

-- the lower case of a word, by which names are the same
abbrev pub key : Word → List ℕ
key w = map to_ascii_lowercase w.written

abbrev pub variable_keys : List Variable → List (List ℕ)
variable_keys vs = map (λ v. key v.name) vs

-- the names in an operand, a sum, a line, lines
abbrev pub primary_words : Primary → List Word
primary_words (primary.Name w) = w ∷ []
primary_words (primary.Number n) = []

abbrev pub sum_words : Sum → List Word
sum_words s = primary_words s.first ++ flat_map (λ t. primary_words t.operand) s.more

abbrev pub line_words : Line → List Word
line_words line.Null = []
line_words (line.Assign target value) = target ∷ sum_words value
line_words (line.If test) = sum_words test.left ++ sum_words test.right
line_words line.Else = []
line_words line.EndIf = []

abbrev pub lines_words : List Line → List Word
lines_words ls = flat_map line_words ls

-- an expression has this many operators at most; a test is one expression, and its relation one of the operators
abbrev pub IsShort : Line → Type 0
IsShort line.Null = Unit {0}
IsShort (line.Assign target value) = length value.more ≤ 1024
IsShort (line.If test) = length test.left.more + 1 + length test.right.more ≤ 1024
IsShort line.Else = Unit {0}
IsShort line.EndIf = Unit {0}

abbrev pub entries_of : GlobalForm → List Entry
entries_of global.Null = []
entries_of (global.Entries first more) = first ∷ more

abbrev pub words_of : Names → List Word
words_of (names.Bare w) = w ∷ []
words_of (names.Listed first more) = first ∷ more

-- the items of a Global
abbrev pub item_words : GlobalForm → List Word
item_words g = flat_map (λ e. words_of e.names) (entries_of g)

-- the mode that a key names
abbrev pub mode_named : List ℕ → Option Mode
mode_named k =
    if bytes_eq k (codes "input") then Some modes.Input else
    if bytes_eq k (codes "output") then Some modes.Output else
    if bytes_eq k (codes "in_out") then Some modes.InOut else None

-- whether a key is among these
abbrev pub is_known : List (List ℕ) → List ℕ → Bool
is_known keys k = list_any (bytes_eq k) keys

-- no two of these are the same
abbrev pub AreDistinct : List (List ℕ) → Type 0
AreDistinct [] = Unit {0}
AreDistinct (k ∷ ks) = (is_known ks k ≡ false) × AreDistinct ks

-- a declared name hides neither the type nor the package
pub record IsFree (package_key k : List ℕ) : Type 0 where
  pub type : k ≢ codes "integer"
  pub «package» : k ≢ package_key

-- the keys of the variables, and that of the procedure
abbrev pub declared_keys : Spec → List (List ℕ)
declared_keys s = key s.procedure.name ∷ variable_keys s.variables

pub record MeetsConditions (s : Source) : Type 0 where
  pub marks : All (λ v. key v.mark ≡ codes "integer") s.spec.variables
  pub aspect : key s.spec.procedure.aspect ≡ codes "global"
  pub modes : All (λ e. IsSome (mode_named (key e.mode))) (entries_of s.spec.procedure.global)
  pub free : All (IsFree (key s.spec.«package»)) (declared_keys s.spec)
  pub distinct : AreDistinct (declared_keys s.spec)
  pub same_package : key s.body.«package» ≡ key s.spec.«package»
  pub same_procedure : key s.body.procedure.name ≡ key s.spec.procedure.name
  pub spec_end : IfSome s.spec.end (λ w. key w ≡ key s.spec.«package»)
  pub procedure_end : IfSome s.body.procedure.end (λ w. key w ≡ key s.spec.procedure.name)
  pub package_end : IfSome s.body.end (λ w. key w ≡ key s.spec.«package»)
  pub items : All (λ w. is_known (variable_keys s.spec.variables) (key w) ≡ true) (item_words s.spec.procedure.global)
  pub once : AreDistinct (map key (item_words s.spec.procedure.global))
  pub names : All (λ w. is_known (variable_keys s.spec.variables) (key w) ≡ true) (lines_words s.body.procedure.lines)
  pub short : All IsShort s.body.procedure.lines
