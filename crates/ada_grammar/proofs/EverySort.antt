-- Every sort, and what a test of all of them says.
use Rattle.std.proofs.Common.{◌≡◌, ℕ, Bool, true, false, ◌&&◌, List, [], ◌∷◌, refl, sym, ◌∙◌, ap, subst, zero, suc, ◌<◌, ◌+◌, length, get_or, nat_eq, arith, lit<}
use Rattle.std.proofs.lemmas.Bool.{eqb-true}
use Rattle.ada_tree.specs.declared.token.Mark.{Mark}
use Rattle.ada_tree.specs.declared.token.Mark.TheVariants as marks
use Rattle.ada_tree.specs.declared.words.Reserved.{Reserved}
use Rattle.ada_tree.specs.declared.words.Reserved.TheVariants as words
use Rattle.ada_tree.specs.declared.identifiers.WordRole.{WordRole}
use Rattle.ada_tree.specs.declared.identifiers.WordRole.TheVariants as roles
use Rattle.ada_grammar.specs.declared.tokens.Class.{Class}
use Rattle.ada_grammar.specs.declared.tokens.Class.TheVariants as classes
use Rattle.ada_grammar.specs.Numbers.{word_number, mark_number, same_word, same_mark}
use Rattle.ada_grammar.specs.Sorts.{Sort, WordSort, NumberSort, TextSort, CharacterSort, ReservedSort, MarkSort}

abbrev pub sorts : List Sort
sorts = WordSort roles.Ordinary ∷ WordSort roles.Mode ∷ WordSort roles.True ∷ NumberSort ∷ TextSort ∷ CharacterSort ∷ ReservedSort words.Abort ∷ ReservedSort words.Abs ∷ ReservedSort words.Abstract ∷ ReservedSort words.Accept ∷ ReservedSort words.Access ∷ ReservedSort words.Aliased ∷ ReservedSort words.All ∷ ReservedSort words.And ∷ ReservedSort words.Array ∷ ReservedSort words.At ∷ ReservedSort words.Begin ∷ ReservedSort words.Body ∷ ReservedSort words.Case ∷ ReservedSort words.Constant ∷ ReservedSort words.Declare ∷ ReservedSort words.Delay ∷ ReservedSort words.Delta ∷ ReservedSort words.Digits ∷ ReservedSort words.Do ∷ ReservedSort words.Else ∷ ReservedSort words.Elsif ∷ ReservedSort words.End ∷ ReservedSort words.Entry ∷ ReservedSort words.Exception ∷ ReservedSort words.Exit ∷ ReservedSort words.For ∷ ReservedSort words.Function ∷ ReservedSort words.Generic ∷ ReservedSort words.Goto ∷ ReservedSort words.If ∷ ReservedSort words.In ∷ ReservedSort words.Interface ∷ ReservedSort words.Is ∷ ReservedSort words.Limited ∷ ReservedSort words.Loop ∷ ReservedSort words.Mod ∷ ReservedSort words.New ∷ ReservedSort words.Not ∷ ReservedSort words.Null ∷ ReservedSort words.Of ∷ ReservedSort words.Or ∷ ReservedSort words.Others ∷ ReservedSort words.Out ∷ ReservedSort words.Overriding ∷ ReservedSort words.Package ∷ ReservedSort words.Pragma ∷ ReservedSort words.Private ∷ ReservedSort words.Procedure ∷ ReservedSort words.Protected ∷ ReservedSort words.Raise ∷ ReservedSort words.Range ∷ ReservedSort words.Record ∷ ReservedSort words.Rem ∷ ReservedSort words.Renames ∷ ReservedSort words.Requeue ∷ ReservedSort words.Return ∷ ReservedSort words.Reverse ∷ ReservedSort words.Select ∷ ReservedSort words.Separate ∷ ReservedSort words.Some ∷ ReservedSort words.Subtype ∷ ReservedSort words.Synchronized ∷ ReservedSort words.Tagged ∷ ReservedSort words.Task ∷ ReservedSort words.Terminate ∷ ReservedSort words.Then ∷ ReservedSort words.Type ∷ ReservedSort words.Until ∷ ReservedSort words.Use ∷ ReservedSort words.When ∷ ReservedSort words.While ∷ ReservedSort words.With ∷ ReservedSort words.Xor ∷ MarkSort marks.Ampersand ∷ MarkSort marks.Tick ∷ MarkSort marks.Open ∷ MarkSort marks.Close ∷ MarkSort marks.Star ∷ MarkSort marks.Plus ∷ MarkSort marks.Comma ∷ MarkSort marks.Minus ∷ MarkSort marks.Dot ∷ MarkSort marks.Slash ∷ MarkSort marks.Colon ∷ MarkSort marks.Semicolon ∷ MarkSort marks.Less ∷ MarkSort marks.Equal ∷ MarkSort marks.Greater ∷ MarkSort marks.Bar ∷ MarkSort marks.Arrow ∷ MarkSort marks.Dots ∷ MarkSort marks.Power ∷ MarkSort marks.Becomes ∷ MarkSort marks.NotEqual ∷ MarkSort marks.AtLeast ∷ MarkSort marks.AtMost ∷ MarkSort marks.OpenLabel ∷ MarkSort marks.CloseLabel ∷ MarkSort marks.Box ∷ []

abbrev pub role_number : WordRole → ℕ
role_number roles.Ordinary = 0
role_number roles.Mode = 1
role_number roles.True = 2

abbrev pub rank : Sort → ℕ
rank (WordSort a) = role_number a
rank NumberSort = 3
rank TextSort = 4
rank CharacterSort = 5
rank (ReservedSort a) = 6 + word_number a
rank (MarkSort a) = 79 + mark_number a

-- classes by number
abbrev pub class_number : Class → ℕ
class_number classes.Word = 0
class_number classes.Number = 1
class_number classes.Relational = 2
class_number classes.Adding = 3
class_number classes.Multiplying = 4
class_number classes.AttributeName = 5
class_number classes.Mode = 6
class_number classes.True = 7
class_number classes.Statement = 8
class_number classes.Compound = 9
class_number classes.LocalDeclaration = 10
class_number classes.Declaration = 11
class_number classes.Operation = 12
class_number classes.OperationBody = 13
class_number classes.PrivateItem = 14
class_number classes.FileItem = 15
class_number classes.Enclosed = 16
class_number classes.Skipped = 17
class_number (classes.Reserved a) = 18 + word_number a
class_number (classes.Mark a) = 91 + mark_number a

abbrev pub same_class : Class → Class → Bool
same_class a b = nat_eq (class_number a) (class_number b)

abbrev pub classes_in_order : List Class
classes_in_order = classes.Word ∷ classes.Number ∷ classes.Relational ∷ classes.Adding ∷ classes.Multiplying ∷ classes.AttributeName ∷ classes.Mode ∷ classes.True ∷ classes.Statement ∷ classes.Compound ∷ classes.LocalDeclaration ∷ classes.Declaration ∷ classes.Operation ∷ classes.OperationBody ∷ classes.PrivateItem ∷ classes.FileItem ∷ classes.Enclosed ∷ classes.Skipped ∷ classes.Reserved words.Abort ∷ classes.Reserved words.Abs ∷ classes.Reserved words.Abstract ∷ classes.Reserved words.Accept ∷ classes.Reserved words.Access ∷ classes.Reserved words.Aliased ∷ classes.Reserved words.All ∷ classes.Reserved words.And ∷ classes.Reserved words.Array ∷ classes.Reserved words.At ∷ classes.Reserved words.Begin ∷ classes.Reserved words.Body ∷ classes.Reserved words.Case ∷ classes.Reserved words.Constant ∷ classes.Reserved words.Declare ∷ classes.Reserved words.Delay ∷ classes.Reserved words.Delta ∷ classes.Reserved words.Digits ∷ classes.Reserved words.Do ∷ classes.Reserved words.Else ∷ classes.Reserved words.Elsif ∷ classes.Reserved words.End ∷ classes.Reserved words.Entry ∷ classes.Reserved words.Exception ∷ classes.Reserved words.Exit ∷ classes.Reserved words.For ∷ classes.Reserved words.Function ∷ classes.Reserved words.Generic ∷ classes.Reserved words.Goto ∷ classes.Reserved words.If ∷ classes.Reserved words.In ∷ classes.Reserved words.Interface ∷ classes.Reserved words.Is ∷ classes.Reserved words.Limited ∷ classes.Reserved words.Loop ∷ classes.Reserved words.Mod ∷ classes.Reserved words.New ∷ classes.Reserved words.Not ∷ classes.Reserved words.Null ∷ classes.Reserved words.Of ∷ classes.Reserved words.Or ∷ classes.Reserved words.Others ∷ classes.Reserved words.Out ∷ classes.Reserved words.Overriding ∷ classes.Reserved words.Package ∷ classes.Reserved words.Pragma ∷ classes.Reserved words.Private ∷ classes.Reserved words.Procedure ∷ classes.Reserved words.Protected ∷ classes.Reserved words.Raise ∷ classes.Reserved words.Range ∷ classes.Reserved words.Record ∷ classes.Reserved words.Rem ∷ classes.Reserved words.Renames ∷ classes.Reserved words.Requeue ∷ classes.Reserved words.Return ∷ classes.Reserved words.Reverse ∷ classes.Reserved words.Select ∷ classes.Reserved words.Separate ∷ classes.Reserved words.Some ∷ classes.Reserved words.Subtype ∷ classes.Reserved words.Synchronized ∷ classes.Reserved words.Tagged ∷ classes.Reserved words.Task ∷ classes.Reserved words.Terminate ∷ classes.Reserved words.Then ∷ classes.Reserved words.Type ∷ classes.Reserved words.Until ∷ classes.Reserved words.Use ∷ classes.Reserved words.When ∷ classes.Reserved words.While ∷ classes.Reserved words.With ∷ classes.Reserved words.Xor ∷ classes.Mark marks.Ampersand ∷ classes.Mark marks.Tick ∷ classes.Mark marks.Open ∷ classes.Mark marks.Close ∷ classes.Mark marks.Star ∷ classes.Mark marks.Plus ∷ classes.Mark marks.Comma ∷ classes.Mark marks.Minus ∷ classes.Mark marks.Dot ∷ classes.Mark marks.Slash ∷ classes.Mark marks.Colon ∷ classes.Mark marks.Semicolon ∷ classes.Mark marks.Less ∷ classes.Mark marks.Equal ∷ classes.Mark marks.Greater ∷ classes.Mark marks.Bar ∷ classes.Mark marks.Arrow ∷ classes.Mark marks.Dots ∷ classes.Mark marks.Power ∷ classes.Mark marks.Becomes ∷ classes.Mark marks.NotEqual ∷ classes.Mark marks.AtLeast ∷ classes.Mark marks.AtMost ∷ classes.Mark marks.OpenLabel ∷ classes.Mark marks.CloseLabel ∷ classes.Mark marks.Box ∷ []

abbrev pub every : (Sort → Bool) → List Sort → Bool
every f [] = true
every f (s ∷ ss) = f s && every f ss

abbrev pub all_sorts : (Sort → Bool) → Bool
all_sorts f = every f sorts

pub and_left : (a b : Bool) → (a && b) ≡ true → a ≡ true
and_left true b e = refl
and_left false b e = cc

pub and_right : (a b : Bool) → (a && b) ≡ true → b ≡ true
and_right true b e = e
and_right false b e = cc

every_at : (f : Sort → Bool) (ss : List Sort) → every f ss ≡ true → (n : ℕ) → n < length ss → f (get_or ss n (WordSort roles.Ordinary)) ≡ true
every_at f [] e n h = absurd (omega arith)
every_at f (s ∷ ss) e zero h = and_left (f s) (every f ss) e
every_at f (s ∷ ss) e (suc n) h = every_at f ss (and_right (f s) (every f ss) e) n (omega arith)

within_role : (a : WordRole) → rank (WordSort a) < length sorts
within_role roles.Ordinary = lit< tt
within_role a = lit< tt

within_word : (a : Reserved) → rank (ReservedSort a) < length sorts
within_word words.Abort = lit< tt
within_word a = lit< tt

within_mark : (a : Mark) → rank (MarkSort a) < length sorts
within_mark marks.Ampersand = lit< tt
within_mark a = lit< tt

within : (s : Sort) → rank s < length sorts
within (WordSort a) = within_role a
within (ReservedSort a) = within_word a
within (MarkSort a) = within_mark a
within s = lit< tt

named_role : (a : WordRole) → get_or sorts (rank (WordSort a)) (WordSort roles.Ordinary) ≡ WordSort a
named_role roles.Ordinary = refl
named_role a = refl

named_word : (a : Reserved) → get_or sorts (rank (ReservedSort a)) (WordSort roles.Ordinary) ≡ ReservedSort a
named_word words.Abort = refl
named_word a = refl

named_mark : (a : Mark) → get_or sorts (rank (MarkSort a)) (WordSort roles.Ordinary) ≡ MarkSort a
named_mark marks.Ampersand = refl
named_mark a = refl

named : (s : Sort) → get_or sorts (rank s) (WordSort roles.Ordinary) ≡ s
named (WordSort a) = named_role a
named (ReservedSort a) = named_word a
named (MarkSort a) = named_mark a
named NumberSort = refl
named s = refl

-- a test that holds of all sorts in the list holds of each
pub by_sort : (f : Sort → Bool) → all_sorts f ≡ true → (s : Sort) → f s ≡ true
by_sort f e s = subst (λ (z : Sort). f z ≡ true) (named s) (every_at f sorts e (rank s) (within s))

abbrev words_in_order : List Reserved
words_in_order = words.Abort ∷ words.Abs ∷ words.Abstract ∷ words.Accept ∷ words.Access ∷ words.Aliased ∷ words.All ∷ words.And ∷ words.Array ∷ words.At ∷ words.Begin ∷ words.Body ∷ words.Case ∷ words.Constant ∷ words.Declare ∷ words.Delay ∷ words.Delta ∷ words.Digits ∷ words.Do ∷ words.Else ∷ words.Elsif ∷ words.End ∷ words.Entry ∷ words.Exception ∷ words.Exit ∷ words.For ∷ words.Function ∷ words.Generic ∷ words.Goto ∷ words.If ∷ words.In ∷ words.Interface ∷ words.Is ∷ words.Limited ∷ words.Loop ∷ words.Mod ∷ words.New ∷ words.Not ∷ words.Null ∷ words.Of ∷ words.Or ∷ words.Others ∷ words.Out ∷ words.Overriding ∷ words.Package ∷ words.Pragma ∷ words.Private ∷ words.Procedure ∷ words.Protected ∷ words.Raise ∷ words.Range ∷ words.Record ∷ words.Rem ∷ words.Renames ∷ words.Requeue ∷ words.Return ∷ words.Reverse ∷ words.Select ∷ words.Separate ∷ words.Some ∷ words.Subtype ∷ words.Synchronized ∷ words.Tagged ∷ words.Task ∷ words.Terminate ∷ words.Then ∷ words.Type ∷ words.Until ∷ words.Use ∷ words.When ∷ words.While ∷ words.With ∷ words.Xor ∷ []

word_named : (a : Reserved) → get_or words_in_order (word_number a) words.Abort ≡ a
word_named words.Abort = refl
word_named a = refl

-- words that the test calls the same are the same
pub one_word : (a b : Reserved) → same_word a b ≡ true → a ≡ b
one_word a b e = sym (word_named a) ∙ (ap (λ n. get_or words_in_order n words.Abort) (eqb-true (word_number a) (word_number b) e) ∙ word_named b)

pub word_self : (a : Reserved) → same_word a a ≡ true
word_self words.Abort = refl
word_self a = refl

pub mark_self : (a : Mark) → same_mark a a ≡ true
mark_self marks.Ampersand = refl
mark_self a = refl

class_word : (a : Reserved) → get_or classes_in_order (class_number (classes.Reserved a)) classes.Word ≡ classes.Reserved a
class_word words.Abort = refl
class_word a = refl

class_mark : (a : Mark) → get_or classes_in_order (class_number (classes.Mark a)) classes.Word ≡ classes.Mark a
class_mark marks.Ampersand = refl
class_mark a = refl

class_named : (c : Class) → get_or classes_in_order (class_number c) classes.Word ≡ c
class_named (classes.Reserved a) = class_word a
class_named (classes.Mark a) = class_mark a
class_named classes.Word = refl
class_named c = refl

-- classes that the test calls the same are the same
pub one_class : (a b : Class) → same_class a b ≡ true → a ≡ b
one_class a b e = sym (class_named a) ∙ (ap (λ n. get_or classes_in_order n classes.Word) (eqb-true (class_number a) (class_number b) e) ∙ class_named b)
