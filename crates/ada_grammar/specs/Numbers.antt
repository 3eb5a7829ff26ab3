-- Reserved words and marks by number, so that a test tells them apart. Nothing else rests on the numbers.
use Rattle.std.specs.Prelude.{ℕ, Bool, nat_eq}
use Rattle.ada_tree.specs.declared.token.Mark.{Mark}
use Rattle.ada_tree.specs.declared.token.Mark.TheVariants as marks
use Rattle.ada_tree.specs.declared.words.Reserved.{Reserved}
use Rattle.ada_tree.specs.declared.words.Reserved.TheVariants as words

abbrev pub word_number : Reserved → ℕ
word_number words.Abort = 0
word_number words.Abs = 1
word_number words.Abstract = 2
word_number words.Accept = 3
word_number words.Access = 4
word_number words.Aliased = 5
word_number words.All = 6
word_number words.And = 7
word_number words.Array = 8
word_number words.At = 9
word_number words.Begin = 10
word_number words.Body = 11
word_number words.Case = 12
word_number words.Constant = 13
word_number words.Declare = 14
word_number words.Delay = 15
word_number words.Delta = 16
word_number words.Digits = 17
word_number words.Do = 18
word_number words.Else = 19
word_number words.Elsif = 20
word_number words.End = 21
word_number words.Entry = 22
word_number words.Exception = 23
word_number words.Exit = 24
word_number words.For = 25
word_number words.Function = 26
word_number words.Generic = 27
word_number words.Goto = 28
word_number words.If = 29
word_number words.In = 30
word_number words.Interface = 31
word_number words.Is = 32
word_number words.Limited = 33
word_number words.Loop = 34
word_number words.Mod = 35
word_number words.New = 36
word_number words.Not = 37
word_number words.Null = 38
word_number words.Of = 39
word_number words.Or = 40
word_number words.Others = 41
word_number words.Out = 42
word_number words.Overriding = 43
word_number words.Package = 44
word_number words.Pragma = 45
word_number words.Private = 46
word_number words.Procedure = 47
word_number words.Protected = 48
word_number words.Raise = 49
word_number words.Range = 50
word_number words.Record = 51
word_number words.Rem = 52
word_number words.Renames = 53
word_number words.Requeue = 54
word_number words.Return = 55
word_number words.Reverse = 56
word_number words.Select = 57
word_number words.Separate = 58
word_number words.Some = 59
word_number words.Subtype = 60
word_number words.Synchronized = 61
word_number words.Tagged = 62
word_number words.Task = 63
word_number words.Terminate = 64
word_number words.Then = 65
word_number words.Type = 66
word_number words.Until = 67
word_number words.Use = 68
word_number words.When = 69
word_number words.While = 70
word_number words.With = 71
word_number words.Xor = 72

abbrev pub mark_number : Mark → ℕ
mark_number marks.Ampersand = 0
mark_number marks.Tick = 1
mark_number marks.Open = 2
mark_number marks.Close = 3
mark_number marks.Star = 4
mark_number marks.Plus = 5
mark_number marks.Comma = 6
mark_number marks.Minus = 7
mark_number marks.Dot = 8
mark_number marks.Slash = 9
mark_number marks.Colon = 10
mark_number marks.Semicolon = 11
mark_number marks.Less = 12
mark_number marks.Equal = 13
mark_number marks.Greater = 14
mark_number marks.Bar = 15
mark_number marks.Arrow = 16
mark_number marks.Dots = 17
mark_number marks.Power = 18
mark_number marks.Becomes = 19
mark_number marks.NotEqual = 20
mark_number marks.AtLeast = 21
mark_number marks.AtMost = 22
mark_number marks.OpenLabel = 23
mark_number marks.CloseLabel = 24
mark_number marks.Box = 25

abbrev pub same_word : Reserved → Reserved → Bool
same_word a b = nat_eq (word_number a) (word_number b)

abbrev pub same_mark : Mark → Mark → Bool
same_mark a b = nat_eq (mark_number a) (mark_number b)
