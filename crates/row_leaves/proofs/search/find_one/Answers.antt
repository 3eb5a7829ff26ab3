use Rattle.std.proofs.Common.{◌≡◌, List, subst, sym}
use Rattle.std.specs.Prelude.{slice_get}
use Rattle.spark_base.specs.declared.numbers.BodyNo.{BodyNo}
use Rattle.row_leaves.proofs.Found.{found_one, get_before}
use Rattle.row_leaves.proofs.search.find_one.Goals as goal

pub returns-in_ok-push-clause-found : goal.returns-in_ok-push-clause-found
returns-in_ok-push-clause-found c =
    found_one c.args.marks.now c.args.found.now.items c.push.new.self.items c.args.b c.requires.in_range c.if-not-marks-b.true c.requires.found c.in_ok-push.ensures.items

pub returns-in_ok-push-clause-kept : goal.returns-in_ok-push-clause-kept
returns-in_ok-push-clause-kept c = λ k l. subst (λ (list : List BodyNo). slice_get list k ≡ slice_get c.args.found.now.items k) (sym c.in_ok-push.ensures.items)
    (get_before c.args.found.now.items _ k l)
