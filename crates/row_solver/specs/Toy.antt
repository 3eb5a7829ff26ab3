-- An equation for tests, on rows of no leaves, and that it is one.
use Rattle.std.proofs.Common.{◌≡◌, ℕ, ◌<◌, ◌⊎◌, inl, inr, Bool, List, [], length, refl, subst, sym}
use Rattle.std.specs.Prelude.{slice_index_or}
use Rattle.spark_base.specs.declared.numbers.BodyNo.{BodyNo}
use Rattle.summary_rows.specs.declared.layout.Layout.{Layout}
use Rattle.summary_rows.specs.Facts.{Part, Returning, Fact}
use Rattle.summary_rows.specs.Layout.{Stands, outer_of}
use Rattle.call_lists.specs.Lists.{AreLists, Names, Has}
use Rattle.row_solver.specs.Equations.{IsEquation}

-- a body may return where it does by itself, or where one that it calls may
abbrev pub may_return : List Bool → List (List BodyNo) → (Fact → Type 0) → Fact → Type 0
may_return own callees R f = (f.owner < length own) × ((f.part ≡ Returning)
    × (Has own f.owner ⊎ ((c : ℕ) × (Names (slice_index_or callees f.owner []) c × R (record { owner = c; part = Returning })))))

abbrev pub CallsIn : List (List BodyNo) → ℕ → ℕ → Type 0
CallsIn callees b c = Names (slice_index_or callees b []) c

toy_step : (callees : List (List BodyNo)) (R S : Fact → Type 0) (b : ℕ) {mine : Type 0}
    → ((g : Fact) → Names (slice_index_or callees b []) g.owner → R g → S g)
    → mine ⊎ ((c : ℕ) × (Names (slice_index_or callees b []) c × R (record { owner = c; part = Returning })))
    → mine ⊎ ((c : ℕ) × (Names (slice_index_or callees b []) c × S (record { owner = c; part = Returning })))
toy_step callees R S b h (inl o) = inl o
toy_step callees R S b h (inr s) = inr (s.0, (s.1.0, h (record { owner = s.0; part = Returning }) s.1.0 s.1.1))

pub record IsToy (l : Layout) (own : List Bool) (callees : List (List BodyNo)) : Type 0 where
  pub bodies : length own ≡ length l.outer
  pub lists : AreLists (length l.outer) callees
  pub bare : (b : ℕ) → outer_of l b ≡ []

pub toy_lawful : (l : Layout) (own : List Bool) (callees : List (List BodyNo)) → IsToy l own callees → IsEquation l (CallsIn callees) (may_return own callees)
toy_lawful l own callees is = record {
  stands = λ R f x. (subst (λ (n : ℕ). f.owner < n) is.bodies x.0, (0, subst (λ (p : Part). Stands (outer_of l f.owner) p 0) (sym x.1.0) refl));
  sees = λ R S f h x. (x.0, (x.1.0, toy_step callees R S f.owner h x.1.1));
}
