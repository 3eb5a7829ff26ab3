-- The grammar of the first path: what each part spells, with the symbols that follow behind it.
use Rattle.std.specs.Prelude.{List, [], ◌∷◌, Option, Some, None}
use Rattle.first_path.specs.declared.source.Adding.{Adding}
use Rattle.first_path.specs.declared.source.Adding.TheVariants as adding
use Rattle.first_path.specs.declared.source.Entry.{Entry}
use Rattle.first_path.specs.declared.source.GlobalForm.{GlobalForm}
use Rattle.first_path.specs.declared.source.GlobalForm.TheVariants as global
use Rattle.first_path.specs.declared.source.Line.{Line}
use Rattle.first_path.specs.declared.source.Line.TheVariants as line
use Rattle.first_path.specs.declared.source.PackageBody.{PackageBody}
use Rattle.first_path.specs.declared.source.Names.{Names}
use Rattle.first_path.specs.declared.source.Names.TheVariants as names
use Rattle.first_path.specs.declared.source.Primary.{Primary}
use Rattle.first_path.specs.declared.source.Primary.TheVariants as primary
use Rattle.first_path.specs.declared.source.ProcedureBody.{ProcedureBody}
use Rattle.first_path.specs.declared.source.ProcedureSpec.{ProcedureSpec}
use Rattle.first_path.specs.declared.source.Relation.{Relation}
use Rattle.first_path.specs.declared.source.Relation.TheVariants as relation
use Rattle.first_path.specs.declared.source.Sign.{Sign}
use Rattle.first_path.specs.declared.source.Sign.TheVariants as signs
use Rattle.first_path.specs.declared.source.Source.{Source}
use Rattle.first_path.specs.declared.source.Spec.{Spec}
use Rattle.first_path.specs.declared.source.Sum.{Sum}
use Rattle.first_path.specs.declared.source.Symbol.{Symbol}
use Rattle.first_path.specs.declared.source.Symbol.TheVariants as symbol
use Rattle.first_path.specs.declared.source.Term.{Term}
use Rattle.first_path.specs.declared.source.Test.{Test}
use Rattle.first_path.specs.declared.source.Variable.{Variable}
use Rattle.first_path.specs.declared.source.Word.{Word}

-- parts, one after another
abbrev pub each_then : {A : Type 0} → (A → List Symbol → List Symbol) → List A → List Symbol → List Symbol
each_then part_then [] rest = rest
each_then part_then (part ∷ parts) rest = part_then part (each_then part_then parts rest)

-- id
abbrev pub word_then : Word → List Symbol → List Symbol
word_then w rest = symbol.Word w ∷ rest

abbrev pub sign_then : Sign → List Symbol → List Symbol
sign_then s rest = symbol.Sign s ∷ rest

-- [id]
abbrev pub end_then : Option Word → List Symbol → List Symbol
end_then None rest = rest
end_then (Some w) rest = word_then w rest

-- id ":" Integer ":=" Number ";"
abbrev pub variable_then : Variable → List Symbol → List Symbol
variable_then v rest =
    word_then v.name (sign_then signs.Colon (word_then v.mark (sign_then signs.Becomes
    (symbol.Number v.value ∷ sign_then signs.Semicolon rest))))

-- id | Number
abbrev pub primary_then : Primary → List Symbol → List Symbol
primary_then (primary.Name w) rest = word_then w rest
primary_then (primary.Number n) rest = symbol.Number n ∷ rest

abbrev pub sign_of : Adding → Sign
sign_of adding.Plus = signs.Plus
sign_of adding.Minus = signs.Minus

-- ("+" | "-") prim
abbrev pub term_then : Term → List Symbol → List Symbol
term_then t rest = sign_then (sign_of t.operator) (primary_then t.operand rest)

-- prim {("+" | "-") prim}
abbrev pub sum_then : Sum → List Symbol → List Symbol
sum_then s rest = primary_then s.first (each_then term_then s.more rest)

-- "=" | "/=" | "<" | "<=" | ">" | ">="
abbrev pub relation_sign : Relation → Sign
relation_sign relation.Equal = signs.Equal
relation_sign relation.NotEqual = signs.NotEqual
relation_sign relation.Less = signs.Less
relation_sign relation.AtMost = signs.AtMost
relation_sign relation.Greater = signs.Greater
relation_sign relation.AtLeast = signs.AtLeast

-- sum op sum
abbrev pub test_then : Test → List Symbol → List Symbol
test_then t rest = sum_then t.left (sign_then (relation_sign t.relation) (sum_then t.right rest))

-- "null" ";" | id ":=" sum ";" | "if" test "then" | "else" | "end" "if" ";"
abbrev pub line_then : Line → List Symbol → List Symbol
line_then line.Null rest = sign_then signs.Null (sign_then signs.Semicolon rest)
line_then (line.Assign target value) rest =
    word_then target (sign_then signs.Becomes (sum_then value (sign_then signs.Semicolon rest)))
line_then (line.If test) rest = sign_then signs.If (test_then test (sign_then signs.Then rest))
line_then line.Else rest = sign_then signs.Else rest
line_then line.EndIf rest = sign_then signs.End (sign_then signs.If (sign_then signs.Semicolon rest))

-- "," id
abbrev pub further_name_then : Word → List Symbol → List Symbol
further_name_then w rest = sign_then signs.Comma (word_then w rest)

-- id | "(" id {"," id} ")"
abbrev pub names_then : Names → List Symbol → List Symbol
names_then (names.Bare w) rest = word_then w rest
names_then (names.Listed first more) rest =
    sign_then signs.Open (word_then first (each_then further_name_then more (sign_then signs.Close rest)))

-- mode "=>" gitems
abbrev pub entry_then : Entry → List Symbol → List Symbol
entry_then e rest = word_then e.mode (sign_then signs.Arrow (names_then e.names rest))

-- "," mode "=>" gitems
abbrev pub further_entry_then : Entry → List Symbol → List Symbol
further_entry_then e rest = sign_then signs.Comma (entry_then e rest)

-- "null" | "(" mode "=>" gitems {"," mode "=>" gitems} ")"
abbrev pub global_then : GlobalForm → List Symbol → List Symbol
global_then global.Null rest = sign_then signs.Null rest
global_then (global.Entries first more) rest =
    sign_then signs.Open (entry_then first (each_then further_entry_then more (sign_then signs.Close rest)))

-- "end" [id] ";"
abbrev pub ended_then : Option Word → List Symbol → List Symbol
ended_then name rest = sign_then signs.End (end_then name (sign_then signs.Semicolon rest))

-- "procedure" id "with" Global "=>" gdef ";"
abbrev pub procedure_spec_then : ProcedureSpec → List Symbol → List Symbol
procedure_spec_then p rest =
    sign_then signs.Procedure (word_then p.name (sign_then signs.With (word_then p.aspect (sign_then signs.Arrow
    (global_then p.global (sign_then signs.Semicolon rest))))))

-- "package" id "is" {var} procedure "end" [id] ";"
abbrev pub spec_then : Spec → List Symbol → List Symbol
spec_then s rest =
    sign_then signs.Package (word_then s.«package» (sign_then signs.Is (each_then variable_then s.variables
    (procedure_spec_then s.procedure (ended_then s.end rest)))))

-- "procedure" id "is" "begin" {line} "end" [id] ";"; the lines are those of a list of statements
abbrev pub procedure_body_then : ProcedureBody → List Symbol → List Symbol
procedure_body_then p rest =
    sign_then signs.Procedure (word_then p.name (sign_then signs.Is (sign_then signs.Begin
    (each_then line_then p.lines (ended_then p.end rest)))))

-- "package" "body" id "is" procedure "end" [id] ";"
abbrev pub package_body_then : PackageBody → List Symbol → List Symbol
package_body_then b rest =
    sign_then signs.Package (sign_then signs.Body (word_then b.«package» (sign_then signs.Is
    (procedure_body_then b.procedure (ended_then b.end rest)))))

-- the symbols of a whole source
abbrev pub spelled : Source → List Symbol
spelled s = spec_then s.spec (package_body_then s.body [])
