use Rattle.std.proofs.Common.{◌≡◌, [], List, length, ap, sym, subst, ◌∙◌, arith}
use Rattle.std.proofs.lemmas.Option.{get_or_from_slice_get}
use Rattle.spark_base.specs.declared.numbers.LeafNo.{LeafNo}
use Rattle.summary_rows.specs.Layout.{IsIncreasing, outer_of, row_size}
use Rattle.summary_rows.proofs.Joined.{row_within}
use Rattle.summary_rows.proofs.rows.Rows.outer.Goals as goal

pub returns : goal.returns
returns c =
    let l = c.args.self.now.layout in
    let e : outer_of l c.args.b.0 ≡ c.as_slice.result.now = get_or_from_slice_get l.outer c.args.b.0 c.at.result.now [] c.at.ensures ∙ sym c.as_slice.ensures in
    let h = row_within l c.requires.rows.layout c.args.b.0 c.requires.in_range in
    let f = c.requires.rows.layout.fits in
    let s = ap (λ (vs : List LeafNo). row_size (length vs)) e in
    record {
      leaves = sym e;
      increasing = subst (λ (vs : List LeafNo). IsIncreasing vs) e (c.requires.rows.layout.increasing c.args.b.0);
      fits = omega (arith, h, f, s);
    }
