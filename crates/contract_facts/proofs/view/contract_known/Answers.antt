use Rattle.std.proofs.Common.{length, refl}
use Rattle.callee_view.specs.Seen.{contract_told}
use Rattle.callee_view.proofs.Placing.{placed_told}
use Rattle.contract_facts.proofs.Views.{depends_told}
use Rattle.contract_facts.proofs.view.contract_known.Goals as goal

pub returns-clause-shows : goal.returns-clause-shows
returns-clause-shows c =
    let p = c.args.program.now in
    let b = c.args.body.0 in
    let node = c.args.node.now in
    let contract = c.args.contract.now in
    let leaves = c.args.leaves.now in
    let told = contract_told p b node contract in
    record {
      returns = (λ h. record {}, λ h. refl);
      reads = placed_told leaves told.reads c.in_ok-reads.reads c.in_ok-reads.ensures.set;
      writes = placed_told leaves told.writes c.in_ok-writes.writes c.in_ok-writes.ensures.set;
      keeps = placed_told leaves told.keeps c.in_ok-keeps.keeps c.in_ok-keeps.ensures.set;
      depends = depends_told p b node contract leaves (length c.in_ok-depends.depends) c.in_ok-depends.ensures.size c.requires.increasing (λ v x. (c.requires.about.leaves v).1 x)
          c.in_ok-reads.reads c.in_ok-writes.writes c.in_ok-reads.ensures.set c.in_ok-writes.ensures.set c.in_ok-depends.depends c.add_unwritten.new.into c.in_ok-depends.ensures.set c.add_unwritten.ensures.set;
    }
