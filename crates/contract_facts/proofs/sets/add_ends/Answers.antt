use Rattle.std.proofs.Common.{◌≡◌, ◌+◌, ◌<◌, length, ◌∷◌, drop, get_or, arith, add-one, None}
use Rattle.std.proofs.Math.Seq.{drop-cons}
use Rattle.core_form.specs.declared.contract.DependsPair.{DependsPair}
use Rattle.contract_facts.proofs.sets.add_ends.Goals as goal

pub loop-pair-preserved : goal.loop-pair-preserved
loop-pair-preserved c =
    let none : DependsPair = record {
      output = None;
      input = None;
      place = record { file = record { 0 = 0 }; «from» = record { line = 0; col = 0 }; to = record { line = 0; col = 0 } };
    } in
    let n = c.loop-pair.pair-index in
    let within : n < length c.args.pairs.now = c.loop-pair-test.true in
    let split : drop n c.args.pairs.now ≡ get_or c.args.pairs.now n none ∷ drop (n + 1) c.args.pairs.now = rw add-one (drop-cons c.args.pairs.now n none within) in
    record {
      size = omega arith;
      set = λ v. grind (arith, c.add_end-in-loop-pair.ensures.set v, c.add_end.ensures.set v, rw split at c.loop-pair.invariant.set v);
    }
