use Rattle.std.proofs.Common.{◌+◌, sym, subst}
use Rattle.contract_facts.specs.Listed.{AreListed}
use Rattle.contract_facts.proofs.Listing.{listed_more, listed_same}
use Rattle.contract_facts.proofs.places.add_leaf.Goals as goal

pub returns-in_ok-push : goal.returns-in_ok-push
returns-in_ok-push c =
    let more = listed_more c.args.set.now c.args.leaf c.args.into.now c.requires.listed (c.has.ensures.0 c.if-has.true) in
    subst (λ xs. AreListed c.args.set.now (c.args.leaf + 1) xs) (sym c.in_ok-push.ensures.ok) more

pub returns-else-has : goal.returns-else-has
returns-else-has c =
    let lacks = c.if-has.false in
    listed_same c.args.set.now c.args.leaf c.args.into.now c.requires.listed (λ h. (let has = c.has.ensures.1 h in absurd (cc)))
