-- The lists of a program from which its layout is made, and what the layout of these lists is.
use Rattle.std.proofs.Common.{◌≡◌, ℕ, ◌+◌, ◌<◌, ◌^◌, ◌⊎◌, ◌↔◌, All, Bool, false, List, [], length, get_or, inl, inr, arith, sym, subst, ◌∙◌}
use Rattle.std.specs.Prelude.{IsTrue}
use Rattle.spark_base.specs.declared.numbers.BodyNo.{BodyNo}
use Rattle.spark_base.specs.declared.numbers.LeafNo.{LeafNo}
use Rattle.core_form.specs.declared.program.Program.{Program}
use Rattle.core_form.specs.Fine.{IsWellFormed}
use Rattle.summary_rows.specs.declared.layout.Layout.{Layout}
use Rattle.call_lists.specs.Lists.{AreLists, Names}
use Rattle.flow_relations.specs.Summaries.{row_leaf_of}
use Rattle.row_leaves.specs.declared.layout.Laid.TheVariants as laid
use Rattle.row_leaves.specs.declared.leaves.Bodies.{Bodies}
use Rattle.row_leaves.specs.Laid.{IsLaid}
use Rattle.row_leaves.specs.Leaves.{AreRowLeaves, IsFirstTooLarge, IsTooLarge}
use Rattle.body_calls.proofs.Added.{flipped, through}
use Rattle.program_layout.specs.Made.{AreBodiesOf, IsLibraryLeaf, IsOwnLeafOf, SeesRow}
use Rattle.program_layout.specs.Rows.{AreLeast, HasNoRoom, IsFirstWithoutRoom, IsLayoutOf, beside_below}
use Rattle.program_layout.proofs.Rounds.{closed, least, summary_leaf}

-- passed leaves, library leaves that are named, and those of contracts, one after another
pub owned : {N0 N1 N2 N3 P L M A B : Type 0} → (N0 → ⊥) → (N1 ↔ (N0 ⊎ P)) → (N2 ↔ (N1 ⊎ (L × A))) → (N3 ↔ (N2 ⊎ (L × B))) → (L ↔ M) → N3 ↔
    (P ⊎ (M × (A ⊎ B)))
owned none one two three flag = (
  λ n. elim (three.0 n) [
    | inl m ↦ (elim (two.0 m) [
      | inl k ↦ (elim (one.0 k) [ inl z ↦ absurd (none z) | inr passed ↦ inl passed ])
      | inr t ↦ inr (flag.0 t.0, inl t.1)
    ])
    | inr t ↦ inr (flag.0 t.0, inr t.1)
  ],
  λ s. elim s [
    | inl passed ↦ three.1 (inl (two.1 (inl (one.1 (inr passed)))))
    | inr t ↦ (elim t.1 [ inl a ↦ three.1 (inl (two.1 (inr (flag.1 t.0, a)))) | inr b ↦ three.1 (inr (flag.1 t.0, b)) ])
  ],
)

pub made : (p : Program) (holders sees : List (List BodyNo)) (library : List Bool) (beside : List ℕ) → length p.bodies < 2 ^ 32 → length
    p.leaves + 1 < 2 ^ 32
    → AreLists (length p.bodies) sees → ((b c : ℕ) → Names (get_or sees b []) c ↔ SeesRow p b c)
    → length holders ≡ length p.leaves → All (λ list. All (λ b. b.0 < length p.bodies) list) holders →
    ((v b : ℕ) → Names (get_or holders v []) b ↔ IsOwnLeafOf p b v)
    → length library ≡ length p.leaves → ((v : ℕ) → IsTrue (get_or library v false) ↔ IsLibraryLeaf p v)
    → length beside ≡ length p.bodies → ((b : ℕ) → b < length p.bodies → get_or beside b 0 ≡ beside_below p b (length p.leaves))
    → AreBodiesOf p (record { holders = holders; library = library; sees = sees; beside = beside })
made p holders sees library beside bodies leaves lists rows size below own flags library_is counts beside_is =
    let n = lists.size in
    record {
      lists = record {
        sees = subst (λ (k : ℕ). AreLists k sees) (sym n) lists;
        holders = subst (λ (k : ℕ). All (λ list. All (λ b. b.0 < k) list) holders) (sym n) below;
        library = flags ∙ sym size;
        beside = counts ∙ sym n;
        few_bodies = omega (arith, n, bodies);
        few_leaves = omega (arith, size, leaves);
      };
      bodies = n;
      leaves = size;
      own = λ b v. own v b;
      sees = rows;
      library = library_is;
      beside = beside_is;
    }

module _ (p : Program) (fine : IsWellFormed p) (d : Bodies) (of : AreBodiesOf p d) where
  room_alike : (outer : List (List LeafNo)) (b : ℕ) → b < length p.bodies → IsTooLarge d outer b ↔ HasNoRoom p outer b
  room_alike outer b l = let e = of.beside b l in rw e (λ h. h, λ h. h)

  leaves_alike : (outer : List (List LeafNo)) → AreRowLeaves d outer → AreLeast p outer
  leaves_alike outer rows =
      let size = rows.bodies in
      let same = of.bodies in
      record {
        bodies = size ∙ same;
        increasing = rows.increasing;
        leaves = λ b v l. through (rows.leaves b v (omega (arith, size, same, l))) (least p fine d of b v);
      }

  pub layout_laid : (l : Layout) → IsLaid d (laid.Out l) → IsLayoutOf p l
  layout_laid l h =
      let all = leaves_alike l.outer h.1.0 in
      record {
        layout = h.0;
        bodies = all.bodies;
        least = all.leaves;
        leaves = λ b v k. through (all.leaves b v k) (through (flipped (closed p fine (row_leaf_of l) all.leaves b v))
            (flipped (summary_leaf p l b v)));
      }

  pub first_without : (outer : List (List LeafNo)) (b : ℕ) → AreRowLeaves d outer → IsFirstTooLarge d outer b → AreLeast p outer ×
      IsFirstWithoutRoom p outer b
  first_without outer b rows h =
      let within : b < length p.bodies = (let l = h.0 in let same = of.bodies in omega (arith, l, same)) in (
        leaves_alike outer rows,
        record {
          within = within;
          itself = (room_alike outer b within).0 h.1.0;
          others = λ c l none. h.1.1 c l ((room_alike outer c (omega (arith, l, within))).1 none);
        },
      )
