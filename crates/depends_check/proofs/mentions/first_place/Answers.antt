use Rattle.std.proofs.Common.{rules, ◌≡◌, ◌+◌, ◌<◌, inl, inr, None, Some, ◌∷◌, length, drop, get_or, refl, sym, subst, add-one}
use Rattle.std.proofs.Math.Seq.{drop-cons}
use Rattle.std.proofs.lemmas.Bool.{both_ways}
use Rattle.std.proofs.lemmas.List.{drop_all}
use Rattle.core_form.specs.declared.contract.DependsPair.{DependsPair}
use Rattle.depends_check.specs.DependsCheck.{IsFirstPlace, mention}
use Rattle.depends_check.specs.declared.sides.Side.{Side}
use Rattle.depends_check.proofs.mentions.first_place.Goals as goal

pub loop-pair-init : goal.loop-pair-init
loop-pair-init c = λ place h. h

pub loop-pair-preserved : goal.loop-pair-preserved
loop-pair-preserved c =
    let none : DependsPair = record {
      output = None;
      input = None;
      place = record {
        file = record { 0 = 0 };
        «from» = record {
          line = 0;
          col = 0;
        };
        to = record { line = 0; col = 0 };
      };
    } in
    let k = c.loop-pair.pair-index in
    let pairs = c.args.pairs.now in
    let within : k < length pairs = c.loop-pair-test.true in
    let split : drop k pairs ≡ get_or pairs k none ∷ drop (k + 1) pairs = rw add-one (drop-cons pairs k none within) in
    let other : (mention c.args.program.now Side.Output (get_or pairs k none) ≡ Some c.args.output) → ⊥ = λ e. both_ways
    c.is_mention.result c.if-is_mention.false (c.is_mention.ensures.1 e) in
    λ place h. c.loop-pair.invariant place (subst (λ xs. IsFirstPlace c.args.program.now c.args.aspect xs c.args.output place) (sym
    split) (inr (other, h)))

pub returns-then-is_mention : goal.returns-then-is_mention
returns-then-is_mention c =
    let none : DependsPair = record {
      output = None;
      input = None;
      place = record {
        file = record { 0 = 0 };
        «from» = record {
          line = 0;
          col = 0;
        };
        to = record { line = 0; col = 0 };
      };
    } in
    let k = c.loop-pair.pair-index in
    let pairs = c.args.pairs.now in
    let within : k < length pairs = c.loop-pair-test.true in
    let pair : DependsPair = get_or pairs k none in
    let split : drop k pairs ≡ pair ∷ drop (k + 1) pairs = rw add-one (drop-cons pairs k none within) in
    let here : mention c.args.program.now Side.Output pair ≡ Some c.args.output = c.is_mention.ensures.0 (search (
      rules,
      c.if-is_mention.true,
    )) in
    c.loop-pair.invariant pair.place (subst (λ xs. IsFirstPlace c.args.program.now c.args.aspect xs c.args.output pair.place) (sym split)
    (inl (here, refl)))

pub returns : goal.returns
returns c = c.loop-pair.invariant c.args.aspect (subst (λ xs. IsFirstPlace c.args.program.now c.args.aspect xs c.args.output
    c.args.aspect)
    (sym (drop_all c.loop-pair.pair-index c.args.pairs.now c.loop-pair-test.false)) refl)
