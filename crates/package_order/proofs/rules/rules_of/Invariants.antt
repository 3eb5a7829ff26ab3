use Rattle.std.proofs.Common.{◌≡◌, ◌++◌, drop}
use Rattle.package_order.specs.Packages.{rules, rules_from}
use Rattle.package_order.proofs.rules.rules_of.Given as goal

-- what comes from here on, behind what came so far
abbrev pub invariant-loop-number : goal.invariant-loop-number
invariant-loop-number l = l.list.items ++ rules_from l.all l.number (drop l.number l.all) ≡ rules l.all
