-- The state of the solver between visits. No public answer speaks of it.
use Rattle.std.specs.Prelude.{◌≡◌, ℕ, suc, ◌+◌, ◌-◌, ◌*◌, ◌/◌, ◌%◌, nat_eq, nat_lt, Bool, false, ◌&&◌, ◌||◌, List, [], ◌∷◌, slice_index_or, length}
use Rattle.std.specs.Int.{bit_at}
use Rattle.spark_base.specs.declared.numbers.LeafNo.{LeafNo}
use Rattle.flow_bits.specs.Words.{word}
use Rattle.least_solution.specs.Least.{tally, IsReached, IsMet}
use Rattle.summary_rows.specs.declared.layout.Layout.{Layout}
use Rattle.summary_rows.specs.declared.rows.Rows.{Rows}
use Rattle.summary_rows.specs.Facts.{Part, Returning, Reading, Writing, Keeping, Depending, Fact}
use Rattle.summary_rows.specs.Layout.{reads_from, writes_from, keeps_from, depends_from, outer_of, first_of, facts, AreRows, IsTidy}
use Rattle.row_solver.specs.Equations.{owner_of}

-- the leaf stands at a place that passes
abbrev pub at_some : List LeafNo → ℕ → (ℕ → Bool) → Bool
at_some [] v test = false
at_some (x ∷ xs) v test = (nat_eq x.0 v && test 0) || at_some xs v (λ i. test (suc i))

-- the fact stands at a bit that passes
abbrev pub at_bit : List LeafNo → Part → (ℕ → Bool) → Bool
at_bit outer Returning test = test 0
at_bit outer (Reading v) test = at_some outer v (λ i. test (reads_from (length outer) + i))
at_bit outer (Writing v) test = at_some outer v (λ i. test (writes_from (length outer) + i))
at_bit outer (Keeping v) test = at_some outer v (λ i. test (keeps_from (length outer) + i))
at_bit outer (Depending v w) test =
    at_some outer v (λ i. at_some outer w (λ j. test (depends_from (length outer) + (i * length outer + j))))

-- the rows tell the fact, as a test
abbrev pub is_set : List ℕ → ℕ → Bool
is_set words n = nat_eq (bit_at (word words (n / 64)) (n % 64)) 1

abbrev pub tells : Rows → Fact → Bool
tells rows f = nat_lt f.owner (length rows.layout.outer)
    && at_bit (outer_of rows.layout f.owner) f.part (λ n. is_set rows.words (64 * first_of rows.layout f.owner + n))

-- how many facts are not told yet
abbrev pub room : Layout → Rows → ℕ
room l rows = length (facts l) - tally (tells rows) (facts l)

-- what is told was reached, and each body that is not dirty meets its equation
pub record IsSolving (l : Layout) (F : (Fact → Type 0) → Fact → Type 0) (rows : Rows) (dirty : List Bool) : Type 0 where
  pub layout : rows.layout ≡ l
  pub sized : AreRows rows
  pub tidy : IsTidy rows
  pub flags : length dirty ≡ length l.outer
  pub reached : IsReached (facts l) F (tells rows)
  pub met : (b : ℕ) → slice_index_or dirty b false ≡ false → IsMet owner_of F (tells rows) b
