-- The words of a row, over the rows of a layout.
use Rattle.std.proofs.Common.{◌≡◌, ℕ, ◌<◌, ◌^◌, ◌↔◌, List, length, sym, subst, arith}
use Rattle.std.specs.Prelude.{slice_index_or}
use Rattle.std.proofs.lemmas.Option.{slice_get-get_or}
use Rattle.spark_base.specs.declared.numbers.LeafNo.{LeafNo}
use Rattle.core_form.specs.declared.program.Program.{Program}
use Rattle.flow_facts.specs.Flow.{Summary}
use Rattle.summary_rows.specs.declared.layout.Layout.{Layout}
use Rattle.summary_rows.specs.declared.rows.Rows.{Rows}
use Rattle.summary_rows.specs.Bits.{Bit}
use Rattle.summary_rows.specs.Facts.{Part, Fact}
use Rattle.summary_rows.specs.Layout.{AreRows, IsAt, IsLayout, Stands, outer_of, row_size, told}
use Rattle.summary_rows.proofs.Joined.{row_within}
use Rattle.flow_relations.specs.declared.equation.BodyRow.{BodyRow}
use Rattle.flow_relations.specs.Summaries.{equation_over, row_leaf_of}
use Rattle.flow_relations.specs.Told.{IsRow}
use Rattle.row_flows.specs.Rows.{AreRowsOf}
use Rattle.row_equations.specs.Packing.{holds, told_by}
use Rattle.row_equations.proofs.Packed.{facts_same}
use Rattle.row_equations.specs.Follow.{follows}
use Rattle.body_summaries.specs.Bodies.{IsLayoutFor}

-- each row leaf is one of the program
pub leaf_within : (p : Program) (rows : Rows) → AreRowsOf p rows → (b : ℕ) (leaves : List LeafNo) → outer_of rows.layout b ≡ leaves
    → (k : ℕ) (d : LeafNo) → k < length leaves → (slice_index_or leaves k d).0 < length p.leaves
leaf_within p rows are b leaves e k d h =
    let leaf : LeafNo = slice_index_or leaves k d in
    let a : IsAt leaves leaf.0 k = slice_get-get_or leaves k d h in
    are.leaves b leaf.0 (k, subst (λ (vs : List LeafNo). IsAt vs leaf.0 k) (sym e) a)

pub row_fits : (l : Layout) → IsLayout l → (b : ℕ) → b < length l.outer → (leaves : List LeafNo) → outer_of l b ≡ leaves → row_size (length leaves) < 2 ^ 32
row_fits l is b h leaves e =
    let w = row_within l is b h in
    let f = is.fits in
    subst (λ (vs : List LeafNo). row_size (length vs) < 2 ^ 32) e (omega (arith, w, f))

-- the bits of what a row tells are those of the summary that it is
pub same_bits : (row : BodyRow) (s : Summary) → IsRow row s → (leaves outer : List LeafNo) → outer ≡ leaves → (words : List ℕ) (n : ℕ)
    → (Bit words n ↔ ((x : Part) × (Stands leaves x n × holds (told_by row) x))) → Bit words n ↔ ((x : Part) × (Stands outer x n × holds s x))
same_bits row s is leaves outer e words n h = (
  λ b. (let t = h.0 b in (t.0, (subst (λ (vs : List LeafNo). Stands vs t.0 n) (sym e) t.1.0, (facts_same row s is t.0).0 t.1.1))),
  λ t. h.1 (t.0, (subst (λ (vs : List LeafNo). Stands vs t.0 n) e t.1.0, (facts_same row s is t.0).1 t.1.1)),
)

-- rows of a layout for a program
pub are_rows : (p : Program) (l : Layout) → IsLayoutFor p l → (rows : Rows) → rows.layout ≡ l → AreRows rows → AreRowsOf p rows
are_rows p l is rows e are = record {
  words = are;
  bodies = subst (λ (m : Layout). length m.outer ≡ length p.bodies) (sym e) is.bodies;
  leaves = subst (λ (m : Layout). (b v : ℕ) → row_leaf_of m b v → v < length p.leaves) (sym e) is.leaves;
}

-- what the equation of a body says is what follows
followed : (p : Program) (l : Layout) (R : Fact → Type 0) (b : ℕ) → b < length l.outer → (x : Part)
    → holds (equation_over p l R b) x ↔ follows p l R (record { owner = b; part = x })
unfolding follows
followed p l R b h x = (λ y. (h, y), λ y. y.1)

pub followed_bits : (p : Program) (l : Layout) (rows : Rows) → rows.layout ≡ l → (b : ℕ) → b < length l.outer → (words : List ℕ) (n : ℕ)
    → (Bit words n ↔ ((x : Part) × (Stands (outer_of rows.layout b) x n × holds (equation_over p rows.layout (told rows) b) x)))
    → Bit words n ↔ ((x : Part) × (Stands (outer_of l b) x n × follows p l (told rows) (record { owner = b; part = x })))
followed_bits p l rows e b within words n h =
    let k : Bit words n ↔ ((x : Part) × (Stands (outer_of l b) x n × holds (equation_over p l (told rows) b) x)) =
    subst (λ (m : Layout). Bit words n ↔ ((x : Part) × (Stands (outer_of m b) x n × holds (equation_over p m (told rows) b) x))) e h in (
      λ s. (let t = k.0 s in (t.0, (t.1.0, (followed p l (told rows) b within t.0).0 t.1.1))),
      λ t. k.1 (t.0, (t.1.0, (followed p l (told rows) b within t.0).1 t.1.1)),
    )
