-- What a caller sees of a body speaks of leaves, whatever facts of rows are told.
use Rattle.std.proofs.Common.{◌≡◌, ℕ, ◌↔◌, List, Option, Some, None, sym, ap, subst, ◌∙◌}
use Rattle.std.specs.Prelude.{slice_get}
use Rattle.spark_base.specs.declared.numbers.BodyNo.{BodyNo}
use Rattle.spark_base.specs.declared.numbers.LeafNo.{LeafNo}
use Rattle.core_form.specs.declared.contract.Contract.{Contract}
use Rattle.core_form.specs.declared.program.Body.{Body}
use Rattle.core_form.specs.declared.program.Program.{Program}
use Rattle.summary_rows.specs.declared.layout.Layout.{Layout}
use Rattle.summary_rows.specs.declared.rows.Rows.{Rows}
use Rattle.summary_rows.specs.Facts.{Fact}
use Rattle.summary_rows.specs.Layout.{IsAt, IsIncreasing, outer_of, told}
use Rattle.call_flow.specs.declared.known.Known.{Known}
use Rattle.callee_view.specs.Seen.{contract_seen, contract_told, known_of, row_told, seen, seen_by}
use Rattle.callee_view.specs.Shown.{IsAbout, Shows}
use Rattle.contract_facts.specs.Seeing.{AreSeenLeaves}
use Rattle.contract_facts.proofs.Listing.{one_list}
use Rattle.contract_facts.proofs.Views.{about_contract}

-- the facts of a row are of its leaves
row_about : (rows : Rows) (b : ℕ) → IsAbout (outer_of rows.layout b) (row_told rows.layout (told rows) b)
row_about rows b = record {
  leaves = λ v. (λ h. h, λ h. h);
  reads = λ v h. (h.1.1.0.0, h.1.1.0.1.0);
  writes = λ v h. (h.1.1.0.0, h.1.1.0.1.0);
  keeps = λ v h. (h.1.1.0.0, h.1.1.0.1.0);
  depends = λ v w h. ((h.1.1.0.0, h.1.1.0.1.1.0), (h.1.1.0.1.0, h.1.1.0.1.1.1.0));
}

module _ (p : Program) (l : Layout) (caller : Option Body) (b : BodyNo) (body : Body) (here : slice_get p.bodies b.0 ≡ Some body) where
  seen_contract : (R : Fact → Type 0) (c : Contract) → contract_seen caller body ≡ Some c → seen p l R caller b ≡ contract_told p b.0 body c
  unfolding seen
  seen_contract R c is = ap (λ o. seen_by p caller b.0 (row_told l R b.0) o) here ∙ ap (λ o. known_of p b.0 body (row_told l R b.0) o) is

  seen_row : (R : Fact → Type 0) → contract_seen caller body ≡ None → seen p l R caller b ≡ row_told l R b.0
  unfolding seen
  seen_row R is = ap (λ o. seen_by p caller b.0 (row_told l R b.0) o) here ∙ ap (λ o. known_of p b.0 body (row_told l R b.0) o) is

  -- the leaves of the contract that is seen, or of the row
  pub contract_listed : (c : Contract) → contract_seen caller body ≡ Some c → (leaves : List LeafNo) → IsAbout leaves (contract_told p b.0 body c) → AreSeenLeaves p l caller b leaves
  contract_listed c is leaves about = subst (λ s. (v : ℕ) → s.leaves v ↔ ((i : ℕ) × IsAt leaves v i)) (sym (seen_contract (λ f. ⊥) c is)) about.leaves

  pub row_listed : contract_seen caller body ≡ None → AreSeenLeaves p l caller b (outer_of l b.0)
  row_listed is = subst (λ s. (v : ℕ) → s.leaves v ↔ ((i : ℕ) × IsAt (outer_of l b.0) v i)) (sym (seen_row (λ f. ⊥) is)) (λ v. (λ h. h, λ h. h))

  module _ (leaves : List LeafNo) (all : AreSeenLeaves p l caller b leaves) where
    -- a contract that is seen is about the leaves
    pub contract_about : (c : Contract) → contract_seen caller body ≡ Some c → IsAbout leaves (contract_told p b.0 body c)
    contract_about c is =
        let same = subst (λ s. (v : ℕ) → s.leaves v ↔ ((i : ℕ) × IsAt leaves v i)) (seen_contract (λ f. ⊥) c is) all in
        about_contract p b.0 body c leaves (λ v. ((same v).1, (same v).0))

    -- a row that is seen has the leaves, in the same order
    pub row_is : contract_seen caller body ≡ None → IsIncreasing leaves → IsIncreasing (outer_of l b.0) → outer_of l b.0 ≡ leaves
    row_is is up more = one_list (outer_of l b.0) leaves more up (subst (λ s. (v : ℕ) → s.leaves v ↔ ((i : ℕ) × IsAt leaves v i)) (seen_row (λ f. ⊥) is) all)

    pub contract_shown : (R : Fact → Type 0) (c : Contract) → contract_seen caller body ≡ Some c → (k : Known) → Shows leaves k (contract_told p b.0 body c) → Shows leaves k (seen p l R caller b)
    contract_shown R c is k shows = subst (λ s. Shows leaves k s) (sym (seen_contract R c is)) shows

    pub contract_seen_about : (R : Fact → Type 0) (c : Contract) → contract_seen caller body ≡ Some c → IsAbout leaves (seen p l R caller b)
    contract_seen_about R c is = subst (λ s. IsAbout leaves s) (sym (seen_contract R c is)) (contract_about c is)

  pub row_shown : (R : Fact → Type 0) → contract_seen caller body ≡ None → (leaves : List LeafNo) → outer_of l b.0 ≡ leaves → (k : Known) → Shows (outer_of l b.0) k (row_told l R b.0)
      → Shows leaves k (seen p l R caller b)
  row_shown R is leaves e k shows = subst (λ s. Shows leaves k s) (sym (seen_row R is)) (subst (λ xs. Shows xs k (row_told l R b.0)) e shows)

pub row_seen_about : (p : Program) (rows : Rows) (caller : Option Body) (b : BodyNo) (body : Body) → slice_get p.bodies b.0 ≡ Some body → contract_seen caller body ≡ None
    → (leaves : List LeafNo) → outer_of rows.layout b.0 ≡ leaves → IsAbout leaves (seen p rows.layout (told rows) caller b)
row_seen_about p rows caller b body here is leaves e =
    subst (λ s. IsAbout leaves s) (sym (seen_row p rows.layout caller b body here (told rows) is)) (subst (λ xs. IsAbout xs (row_told rows.layout (told rows) b.0)) e (row_about rows b.0))
