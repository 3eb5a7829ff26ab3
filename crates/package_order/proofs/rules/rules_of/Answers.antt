use Rattle.std.proofs.Common.{◌≡◌, ◌+◌, ◌<◌, ◌++◌, ◌∷◌, [], length, drop, sym, ◌∙◌, ap}
use Rattle.std.proofs.lemmas.List.{append-nil, drop_all}
use Rattle.package_order.specs.Packages.{rules, rules_from, spec_rule, body_rule}
use Rattle.package_order.proofs.Listed.{two_more}
use Rattle.package_order.proofs.rules.rules_of.Goals as goal

pub loop-number-preserved : goal.loop-number-preserved
loop-number-preserved c =
    let all = c.args.all.now in
    let n = c.loop-number.number in
    let p = c.index-all-number.result in
    let came = c.loop-number.list.items in
    let l : n < length all = c.loop-number-test.true in
    let a : c.push.new.self.items ≡ came ++ spec_rule all p ∷ [] = c.in_ok-push.ensures.items ∙ ap (λ r. came ++ r ∷ []) c.in_ok-rule_of_spec.ensures in
    let b : c.push-in-loop-number.new.self.items ≡ c.push.new.self.items ++ body_rule all n p ∷ [] =
    c.in_ok-push-2.ensures.items ∙ ap (λ r. c.push.new.self.items ++ r ∷ []) c.in_ok-rule_of_body.ensures in
    ap (λ xs. xs ++ rules_from all (n + 1) (drop (n + 1) all)) (b ∙ ap (λ xs. xs ++ body_rule all n p ∷ []) a)
    ∙ two_more all came (rules all) n p l c.index-all-number.is c.loop-number.invariant

pub returns : goal.returns
returns c =
    let all = c.args.all.now in
    let came = c.loop-number.list.items in
    sym (append-nil came) ∙ ap (λ ps. came ++ rules_from all c.loop-number.number ps) (sym (drop_all c.loop-number.number all c.loop-number-test.false)) ∙ c.loop-number.invariant
