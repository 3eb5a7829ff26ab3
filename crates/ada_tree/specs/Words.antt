-- The reserved words.
use Rattle.std.specs.Prelude.{ℕ, List, [], ◌∷◌, Bool, true, if◌then◌else◌, ◌&&◌, nat_eq, Option, Some, None, codes, length}
use Rattle.std.specs.Char.{to_ascii_lowercase}
use Rattle.ada_tree.specs.declared.words.Reserved.{Reserved}
use Rattle.ada_tree.specs.declared.words.Reserved.TheVariants as words
use Rattle.ada_tree.specs.declared.words.TheConstants.{RESERVED_WORDS}

-- how a reserved word is written
abbrev pub spelled : Reserved → List ℕ
spelled words.Abort = codes "abort"
spelled words.Abs = codes "abs"
spelled words.Abstract = codes "abstract"
spelled words.Accept = codes "accept"
spelled words.Access = codes "access"
spelled words.Aliased = codes "aliased"
spelled words.All = codes "all"
spelled words.And = codes "and"
spelled words.Array = codes "array"
spelled words.At = codes "at"
spelled words.Begin = codes "begin"
spelled words.Body = codes "body"
spelled words.Case = codes "case"
spelled words.Constant = codes "constant"
spelled words.Declare = codes "declare"
spelled words.Delay = codes "delay"
spelled words.Delta = codes "delta"
spelled words.Digits = codes "digits"
spelled words.Do = codes "do"
spelled words.Else = codes "else"
spelled words.Elsif = codes "elsif"
spelled words.End = codes "end"
spelled words.Entry = codes "entry"
spelled words.Exception = codes "exception"
spelled words.Exit = codes "exit"
spelled words.For = codes "for"
spelled words.Function = codes "function"
spelled words.Generic = codes "generic"
spelled words.Goto = codes "goto"
spelled words.If = codes "if"
spelled words.In = codes "in"
spelled words.Interface = codes "interface"
spelled words.Is = codes "is"
spelled words.Limited = codes "limited"
spelled words.Loop = codes "loop"
spelled words.Mod = codes "mod"
spelled words.New = codes "new"
spelled words.Not = codes "not"
spelled words.Null = codes "null"
spelled words.Of = codes "of"
spelled words.Or = codes "or"
spelled words.Others = codes "others"
spelled words.Out = codes "out"
spelled words.Overriding = codes "overriding"
spelled words.Package = codes "package"
spelled words.Pragma = codes "pragma"
spelled words.Private = codes "private"
spelled words.Procedure = codes "procedure"
spelled words.Protected = codes "protected"
spelled words.Raise = codes "raise"
spelled words.Range = codes "range"
spelled words.Record = codes "record"
spelled words.Rem = codes "rem"
spelled words.Renames = codes "renames"
spelled words.Requeue = codes "requeue"
spelled words.Return = codes "return"
spelled words.Reverse = codes "reverse"
spelled words.Select = codes "select"
spelled words.Separate = codes "separate"
spelled words.Some = codes "some"
spelled words.Subtype = codes "subtype"
spelled words.Synchronized = codes "synchronized"
spelled words.Tagged = codes "tagged"
spelled words.Task = codes "task"
spelled words.Terminate = codes "terminate"
spelled words.Then = codes "then"
spelled words.Type = codes "type"
spelled words.Until = codes "until"
spelled words.Use = codes "use"
spelled words.When = codes "when"
spelled words.While = codes "while"
spelled words.With = codes "with"
spelled words.Xor = codes "xor"

-- the same bytes, in whatever case, as far as both lists go
abbrev pub agrees : List ℕ → List ℕ → Bool
agrees [] keys = true
agrees (b ∷ bs) [] = true
agrees (b ∷ bs) (k ∷ ks) = nat_eq (to_ascii_lowercase b) k && agrees bs ks

-- whether a word is written so, in whatever case
abbrev pub is_written : List ℕ → List ℕ → Bool
is_written word key = nat_eq (length word) (length key) && agrees word key

-- the first in a list that a word is
abbrev pub first_written : List ℕ → List Reserved → Option Reserved
first_written word [] = None
first_written word (r ∷ rs) = if is_written word (spelled r) then Some r else first_written word rs

-- the reserved word that a word is, in whatever case
unfoldable pub reserved_of : List ℕ → Option Reserved
reserved_of word = first_written word RESERVED_WORDS
