use Rattle.std.proofs.Common.{◌≡◌, ◌+◌, ◌⊎◌, arith}
use Rattle.std.specs.Prelude.{IsTrue}
use Rattle.flow_bits.specs.Sets.{Has, Relates}
use Rattle.flow_relations.specs.Framing.{frame_size, name_at}
use Rattle.flow_relations.proofs.Framings.{set_same}
use Rattle.flow_relations.proofs.Returned.{depends_same, keeps_same}
use Rattle.flow_relations.proofs.equation.row_from.Goals as goal

pub returns-clause-row : goal.returns-clause-row
returns-clause-row c =
    let frame = c.args.frame in
    let f = c.args.facts.now in
    let named = c.args.named in
    let kept = set_same (name_at frame) (frame_size frame) frame.void (Has c.in_ok-keeps_from.field-0) (λ i. Relates f.next.kept i i ⊎ Relates f.back.kept i i) c.in_ok-keeps_from.ensures.set in
    let keeps = keeps_same frame c.requires.frame (Relates f.next.kept) (Relates f.back.kept) (IsTrue f.next.reached) (IsTrue f.back.reached) (Has f.decides) (Has f.writes) (Has named) c.requires.inside in
    let size : c.size-2.result ≡ frame_size frame + 1 = omega (arith, c.size-2.ensures, c.requires.size.reads) in
    record {
      leaves = λ v. (λ x. x, λ x. x);
      returns = c.any.ensures;
      reads = c.in_ok-reads.ensures.set;
      writes = c.in_ok-writes.ensures.set;
      keeps = λ v. (
        λ x. (let y = (c.in_ok-keeps.ensures.set v).0 x in (keeps v).0 (y.0, (kept v).0 y.1)),
        λ x. (let y = (keeps v).1 x in (c.in_ok-keeps.ensures.set v).1 (y.0, (kept v).1 y.1)),
      );
      depends = depends_same frame c.requires.frame (Relates f.next.dep) (Relates f.back.dep) (IsTrue f.next.reached) (IsTrue f.back.reached) (Has f.decides) (Has f.writes) (Has named) c.requires.inside
          (Relates c.in_ok-depends.depends)
          (λ i j. grind (arith, c.in_ok-depends.ensures.set i j, c.in_ok-numbers.ensures.set i, c.in_ok-numbers.ensures.set j, size));
    }
