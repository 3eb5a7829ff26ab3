use Rattle.std.proofs.Common.{◌≡◌, ◌++◌, drop}
use Rattle.first_path.specs.Symbols.{symbols}
use Rattle.first_path.proofs.symbols.symbols_of.Given as goal

-- what we have, with the symbols of what is left, is the symbols of all
abbrev pub invariant-loop-token : goal.invariant-loop-token
invariant-loop-token l = l.symbols.items ++ symbols l.tokens.source (drop l.token-index l.tokens.list) ≡ symbols l.tokens.source l.tokens.list
