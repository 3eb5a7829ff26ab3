use Rattle.std.proofs.Common.{◌≡◌, ℕ, ◌+◌, ◌<◌, ◌∙◌, All, List, length, map, ap, subst, sym, arith}
use Rattle.spark_base.specs.declared.numbers.LeafNo.{LeafNo}
use Rattle.call_flow.specs.Calls.{stands}
use Rattle.flow_relations.specs.CallsTold.{AreWithin}
use Rattle.flow_relations.specs.Framing.{place_at}
use Rattle.flow_relations.proofs.Signed.{signature_within}
use Rattle.row_flows.proofs.Listed.{names_below, names_count}
use Rattle.row_flows.proofs.known.callee_of.Goals as goal

pub seen_leaves-requires-clause-row : goal.seen_leaves-requires-clause-row
seen_leaves-requires-clause-row c = λ v i e. c.requires.rows.leaves c.args.callee.0 v (i, e)

pub returns-clause-callee : goal.returns-clause-callee
returns-clause-callee c =
    let places = c.args.places.now in
    let s = c.in_ok-signature.signature in
    let leaves = c.in_ok-leaves.leaves in
    let known = c.in_ok-known.ensures in
    let size = known.size in
    let named = map (λ (leaf : LeafNo). stands (place_at places) places.void s.leaves leaf.0) leaves in
    let made : c.in_ok-names.names.items ≡ named = rw (c.as_slice.ensures.value, c.as_slice-2.ensures, c.as_slice-3.ensures) at c.in_ok-names.ensures in
    let names : c.in_ok-known.known.names.items ≡ named = known.names ∙ made in
    let below : All (λ x. x < places.void + length s.leaves) named = names_below (place_at places) places.void s.leaves leaves (λ v i e. c.requires.places.numbers v (c.in_ok-leaves.ensures.below v i e)) in
    let count : length c.in_ok-known.known.names.items ≡ length leaves = ap (λ (xs : List ℕ). length xs) names ∙ names_count (place_at places) places.void s.leaves leaves in
    let list : length c.as_slice-4.result.now ≡ length leaves = ap (λ (xs : List LeafNo). length xs) c.as_slice-4.ensures in
    record {
      sound = record {
        signature = subst AreWithin (sym c.in_ok-signature.ensures) (signature_within c.args.program.now c.args.callee.0);
        room = omega (arith, c.if-len-places.false, c.len.ensures, c.requires.places.room);
        known = record {
          names = subst (λ xs. All (λ x. x < places.void + length s.leaves) xs) (sym names) below;
          reads = size.reads ∙ (list ∙ sym count);
          writes = size.writes ∙ (list ∙ sym count);
          keeps = size.keeps ∙ (list ∙ sym count);
          depends = size.depends ∙ (list ∙ sym count);
        };
      };
      signature = c.in_ok-signature.ensures;
      leaves = leaves;
      listed = c.in_ok-leaves.ensures.leaves;
      below = c.in_ok-leaves.ensures.below;
      names = names;
      shows = rw c.as_slice-4.ensures at known.shows;
      about = rw c.as_slice-4.ensures at known.about;
    }
