-- What the environment sees a body read: its contract's inputs, or what its row tells.
use Rattle.std.proofs.Common.{◌≡◌, ◌∙◌, ℕ, ◌<◌, ◌⊎◌, ◌↔◌, inl, inr, List, length, Option, Some, None, Bool, false, refl, sym, ap, subst}
use Rattle.std.specs.Prelude.{slice_get}
use Rattle.flow_bits.specs.Sets.{Has}
use Rattle.flow_facts.proofs.Within.{has_within}
use Rattle.spark_base.specs.declared.numbers.PackageNo.{PackageNo}
use Rattle.core_form.specs.declared.contract.Contract.{Contract}
use Rattle.core_form.specs.declared.program.Body.{Body}
use Rattle.core_form.specs.declared.program.Program.{Program}
use Rattle.flow_facts.specs.Flow.{Summary}
use Rattle.summary_rows.specs.declared.rows.Rows.{Rows}
use Rattle.summary_rows.specs.Layout.{told}
use Rattle.callee_view.specs.Seen.{ContractReads, contract_by, known_of, row_told, seen, seen_by, sees_inside}
use Rattle.used_modes.specs.UsedModes.{row_of}
use Rattle.initializes_check.specs.InitializesCheck.{reads_outside}

not_inside : (k : Option PackageNo) → sees_inside None k ≡ false
not_inside None = refl
not_inside (Some k) = refl

module _ (p : Program) (rows : Rows) (b : ℕ) (body : Body) (is : slice_get p.bodies b ≡ Some body) where
  abbrev Row : Summary
  Row = row_told rows.layout (told rows) b

  seen_outside : reads_outside p rows b ≡ (known_of p b body Row body.outer).reads
  unfolding seen
  seen_outside = ap (λ o. (seen_by p None b Row o).reads) is
      ∙ ap (λ i. (known_of p b body Row (contract_by i body.inner body.outer)).reads) (not_inside body.«package»)

  pub by_contract : (c : Contract) → body.outer ≡ Some c → reads_outside p rows b ≡ ContractReads p b body c
  by_contract c e = seen_outside ∙ ap (λ o. (known_of p b body Row o).reads) e

  pub by_row : body.outer ≡ None → reads_outside p rows b ≡ (row_of rows b).reads
  by_row e = seen_outside ∙ ap (λ o. (known_of p b body Row o).reads) e

-- what was added, of the leaves that there are
pub added_seen : (old new : List Bool) (n : ℕ) (R O : ℕ → Type 0) → length new ≡ n → O ≡ R → ((v : ℕ) → Has new v ↔ (Has old v ⊎ R v))
    → (v : ℕ) → Has new v ↔ (Has old v ⊎ ((v < n) × O v))
added_seen old new n R O size same set v = (
  λ h. elim ((set v).0 h) [
    | inl o ↦ inl o
    | inr r ↦ inr (subst (λ k. v < k) size (has_within new v h), subst (λ f. f v) (sym same) r)
  ],
  λ d. (set v).1 (elim d [ inl o ↦ inl o | inr t ↦ inr (subst (λ f. f v) same t.1) ]),
)

pub added_row : (old new : List Bool) (n : ℕ) (R O : ℕ → Type 0) → length old ≡ n → O ≡ R
    → ((v : ℕ) → Has new v ↔ (Has old v ⊎ ((v < length old) × R v)))
    → (v : ℕ) → Has new v ↔ (Has old v ⊎ ((v < n) × O v))
added_row old new n R O size same set v =
    subst (λ k. Has new v ↔ (Has old v ⊎ ((v < k) × O v))) size (subst (λ f. Has new v ↔ (Has old v ⊎ ((v < length old) × f v))) (sym same)
    (set v))
