-- How many parentheses, compound statements and loops may be open, and how many operators stand in one expression.
use Rattle.std.specs.Prelude.{ℕ, ◌+◌, ◌-◌, Bool, true, false, nat_lt, nat_eq, List, [], ◌∷◌, Option, Some, None, if◌then◌else◌}
use Rattle.ada_tree.specs.declared.token.Mark.{Mark}
use Rattle.ada_tree.specs.declared.token.Mark.TheVariants as marks
use Rattle.ada_tree.specs.declared.words.Reserved.{Reserved}
use Rattle.ada_tree.specs.declared.words.Reserved.TheVariants as words
use Rattle.ada_grammar.specs.declared.tokens.Last.{Last}
use Rattle.ada_grammar.specs.declared.tokens.Last.TheVariants as lasts
use Rattle.ada_grammar.specs.declared.tokens.LoopHead.{LoopHead}
use Rattle.ada_grammar.specs.declared.tokens.LoopHead.TheVariants as heads
use Rattle.ada_grammar.specs.declared.tokens.Nesting.{Nesting}
use Rattle.ada_grammar.specs.declared.weights.Weight.{Weight}
use Rattle.ada_grammar.specs.declared.weights.Weight.TheVariants as weights
use Rattle.ada_grammar.specs.Sorts.{Sort, ReservedSort, MarkSort}
use Rattle.ada_grammar.specs.Lexemes.{Lexeme, sort}

abbrev pub most_open : ℕ
most_open = 128

abbrev pub most_operators : ℕ
most_operators = 1024

abbrev pub most_compounds : ℕ
most_compounds = 128

abbrev pub most_loops : ℕ
most_loops = 16

-- before a declaration or an expression: so many open parentheses, and no compound statement
abbrev pub nesting : ℕ → ℕ → Nesting
nesting depth parted = record {
  depth = depth;
  operators = 0;
  parted = parted;
  compounds = 0;
  loops = 0;
  in_statements = false;
  skips = false;
  head = heads.Nothing;
  last = lasts.Other;
}

-- behind so many open parentheses, before an expression that stands in no other
abbrev pub outermost : ℕ → Nesting
outermost depth = nesting depth 0

-- the same before a range, whose two bounds count alone
abbrev pub before_range : ℕ → Nesting
before_range depth = nesting depth (depth + 1)

-- before a statement that stands in no other
abbrev pub before_statements : Nesting
before_statements = record (nesting 0 1) { in_statements = true }

-- what a reserved word is to the limits; and then, or else, not in are one operator each, by their first words
abbrev pub word_weight : Reserved → Weight
word_weight words.And = weights.Operator
word_weight words.Or = weights.Operator
word_weight words.Xor = weights.Operator
word_weight words.Rem = weights.Operator
word_weight words.Abs = weights.Operator
word_weight words.Not = weights.Operator
word_weight words.Mod = weights.Divides
word_weight words.In = weights.Contains
word_weight words.Range = weights.Ranges
word_weight words.Is = weights.Ends
word_weight words.Elsif = weights.Parts
word_weight words.When = weights.Parts
word_weight words.Return = weights.Parts
word_weight words.Until = weights.Parts
word_weight words.Then = weights.Then
word_weight words.Else = weights.Else
word_weight words.Array = weights.Indexes
word_weight words.If = weights.Branches
word_weight words.Case = weights.Branches
word_weight words.While = weights.While
word_weight words.For = weights.For
word_weight words.Loop = weights.Loops
word_weight words.Declare = weights.Declares
word_weight words.Begin = weights.Enters
word_weight words.Record = weights.Record
word_weight words.With = weights.With
word_weight words.Pragma = weights.Pragma
word_weight w = weights.Nothing

-- what a mark is to the limits
abbrev pub mark_weight : Mark → Weight
mark_weight marks.Open = weights.Opens
mark_weight marks.Close = weights.Closes
mark_weight marks.Dots = weights.Dots
mark_weight marks.Semicolon = weights.Ends
mark_weight marks.Colon = weights.Begins
mark_weight marks.Becomes = weights.Begins
mark_weight marks.Arrow = weights.Parts
mark_weight marks.Bar = weights.Parts
mark_weight marks.Comma = weights.Parts
mark_weight marks.Star = weights.Operator
mark_weight marks.Plus = weights.Operator
mark_weight marks.Minus = weights.Operator
mark_weight marks.Slash = weights.Operator
mark_weight marks.Power = weights.Operator
mark_weight marks.Equal = weights.Operator
mark_weight marks.NotEqual = weights.Operator
mark_weight marks.Less = weights.Operator
mark_weight marks.AtMost = weights.Operator
mark_weight marks.Greater = weights.Operator
mark_weight marks.AtLeast = weights.Operator
mark_weight m = weights.Nothing

abbrev pub weight_of : Sort → Weight
weight_of (ReservedSort w) = word_weight w
weight_of (MarkSort m) = mark_weight m
weight_of s = weights.Nothing

-- a token as the one before the next
abbrev pub last_of : Sort → Last
last_of (ReservedSort words.Not) = lasts.Not
last_of (ReservedSort words.And) = lasts.And
last_of (ReservedSort words.Or) = lasts.Or
last_of (ReservedSort words.End) = lasts.End
last_of (ReservedSort words.Is) = lasts.Is
last_of (MarkSort marks.Tick) = lasts.Tick
last_of s = lasts.Other

-- what changes, and all else as it was
abbrev pub with_depth : Nesting → ℕ → Nesting
with_depth n depth = record n { depth = depth }

abbrev pub with_count : Nesting → ℕ → ℕ → Nesting
with_count n operators parted = record n { operators = operators; parted = parted }

abbrev pub with_open : Nesting → ℕ → ℕ → LoopHead → Nesting
with_open n compounds loops head = record n { compounds = compounds; loops = loops; head = head }

abbrev pub with_statements : Nesting → Bool → Nesting
with_statements n inside = record n { in_statements = inside }

abbrev pub with_skips : Nesting → Bool → Nesting
with_skips n skips = record n { skips = skips }

abbrev pub with_last : Last → Option Nesting → Option Nesting
with_last last None = None
with_last last (Some n) = Some (record n { last = last })

-- whether the token before is this one
abbrev pub is_not : Last → Bool
is_not lasts.Not = true
is_not l = false

abbrev pub is_and : Last → Bool
is_and lasts.And = true
is_and l = false

abbrev pub is_or : Last → Bool
is_or lasts.Or = true
is_or l = false

abbrev pub is_end : Last → Bool
is_end lasts.End = true
is_end l = false

abbrev pub is_is : Last → Bool
is_is lasts.Is = true
is_is l = false

abbrev pub is_tick : Last → Bool
is_tick lasts.Tick = true
is_tick l = false

-- whether a loop has a head that is not at its end
abbrev pub is_headed : LoopHead → Bool
is_headed heads.Nothing = false
is_headed h = true

-- whether it is that of a for loop, before its in
abbrev pub is_parameter : LoopHead → Bool
is_parameter heads.Parameter = true
is_parameter h = false

-- an expression begins, whose bounds count alone where no parentheses are open
abbrev pub anew : Nesting → Nesting
anew n = with_count n 0 1

-- one operator more, unless there are as many as may be
abbrev pub counted : Nesting → Option Nesting
counted n = if nat_lt n.operators most_operators then Some (with_count n (n.operators + 1) n.parted) else None

-- the next two dots are those of a membership
abbrev pub member : Nesting → Nesting
member n = if nat_lt n.depth n.parted then with_count n n.operators 0 else n

-- whether the word in stands in the head of a for loop
abbrev pub in_for_head : Nesting → Bool
in_for_head n = if nat_eq n.depth 0 then is_parameter n.head else false

-- the word in: behind the parameter of a loop no operator, and counted already behind not
abbrev pub contained : Nesting → Option Nesting
contained n = if in_for_head n then Some (anew (with_open n n.compounds n.loops heads.Scheme)) else
    if is_not n.last then Some (member n) else counted (member n)

-- one compound statement more, unless there are as many as may be
abbrev pub compounded : Nesting → Option Nesting
compounded n = if nat_lt n.compounds most_compounds then Some (with_open n (n.compounds + 1) n.loops n.head) else None

-- one loop more, with this head
abbrev pub looped : Nesting → LoopHead → Option Nesting
looped n head = if nat_lt n.loops most_loops
    then (if nat_lt n.compounds most_compounds then Some (with_open n (n.compounds + 1) (n.loops + 1) head) else None)
    else None

-- the block leaves the statements until it begins
abbrev pub declared : Option Nesting → Option Nesting
declared None = None
declared (Some n) = Some (with_statements n false)

-- the word loop, which ends the head of a loop, or begins a loop without one
abbrev pub loop_begun : Nesting → Option Nesting
loop_begun n = if is_headed n.head then Some (with_open n n.compounds n.loops heads.Nothing) else looped n heads.Nothing

-- the word begin, which begins a block in statements, and statements elsewhere
abbrev pub entered : Nesting → Option Nesting
entered n = if n.in_statements then compounded n else Some (with_statements n true)

-- a statement begins
abbrev pub opened : Nesting → Weight → Option Nesting
opened n weights.Branches = compounded n
opened n weights.While = looped n heads.Scheme
opened n weights.For = looped n heads.Parameter
opened n weights.Loops = loop_begun n
opened n weights.Declares = declared (compounded n)
opened n weights.Enters = entered n
opened n w = Some n

-- and then, or else are one operator each
abbrev pub behind_then : Nesting → Nesting
behind_then n = if is_and n.last then n else anew n

abbrev pub behind_else : Nesting → Nesting
behind_else n = if is_or n.last then n else anew n

-- an expression or a statement begins; behind end no statement
abbrev pub begun : Nesting → Weight → Option Nesting
begun n w = if is_end n.last then Some (anew n) else opened (anew n) w

-- what counts where no parentheses are open
abbrev pub outside : Nesting → Weight → Option Nesting
outside n weights.Nothing = Some n
outside n weights.Record = Some n
outside n weights.With = Some (with_skips n true)
outside n weights.Parts = Some (anew n)
outside n weights.Indexes = Some (with_count n 0 2)
outside n weights.Then = Some (behind_then n)
outside n weights.Else = Some (behind_else n)
outside n w = begun n w

-- the word mod, an operator unless behind is
abbrev pub divided : Nesting → Option Nesting
divided n = if is_is n.last then Some n else counted n

-- two dots, which part two expressions or stand in one
abbrev pub behind_dots : Nesting → Nesting
behind_dots n = if nat_lt n.depth n.parted then with_count n 0 n.parted else n

-- the word range, behind which an expression begins, unless behind a tick
abbrev pub behind_range : Nesting → Nesting
behind_range n = if is_tick n.last then n else with_count n 0 n.parted

-- what counts in what is not skipped
abbrev pub counts : Nesting → Weight → Option Nesting
counts n weights.Operator = counted n
counts n weights.Divides = divided n
counts n weights.Contains = contained n
counts n weights.Dots = Some (behind_dots n)
counts n weights.Ranges = Some (behind_range n)
counts n weights.Begins = Some (anew n)
counts n weights.Ends = Some (anew n)
counts n weights.Pragma = Some (with_skips n true)
counts n w = if nat_eq n.depth 0 then outside n w else Some n

-- what is skipped, up to a semicolon or the word is where no parentheses are open
abbrev pub skipped : Nesting → Weight → Nesting
skipped n weights.Ends = if nat_eq n.depth 0 then anew (with_skips n false) else n
skipped n w = n

-- a token more, unless it passes a limit
abbrev pub weighed : Nesting → Weight → Option Nesting
weighed n weights.Opens = if nat_lt n.depth most_open then Some (with_depth n (n.depth + 1)) else None
weighed n weights.Closes = Some (with_depth n (n.depth - 1))
weighed n w = if n.skips then Some (skipped n w) else counts n w

-- one compound statement less; where none is open, the statements end
abbrev pub left : Nesting → Nesting
left n = if nat_eq n.compounds 0 then with_statements n false else with_open n (n.compounds - 1) n.loops n.head

-- what end closes, by the token behind it
abbrev pub closed : Nesting → Weight → Nesting
closed n weights.Record = n
closed n weights.Branches = with_open n (n.compounds - 1) n.loops n.head
closed n weights.Loops = with_open n (n.compounds - 1) (n.loops - 1) n.head
closed n w = left n

-- what stands behind end
abbrev pub ended : Nesting → Weight → Nesting
ended n w = if n.skips then n else (if is_end n.last then closed n w else n)

-- abstract where nothing but the walk matters
unfoldable pub step : Nesting → Sort → Option Nesting
step n s = with_last (last_of s) (weighed (ended n (weight_of s)) (weight_of s))

-- a token more, where none before it passed a limit
abbrev pub step_on : Option Nesting → Sort → Option Nesting
step_on None s = None
step_on (Some n) s = step n s

abbrev pub walk_on : Option Nesting → List Lexeme → Option Nesting
walk_on n [] = n
walk_on n (t ∷ ts) = walk_on (step_on n (sort t)) ts

-- what comes of these tokens, one after the other; None where one of them passes a limit
abbrev pub walk : Nesting → List Lexeme → Option Nesting
walk n ts = walk_on (Some n) ts
