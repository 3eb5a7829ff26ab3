-- The sets of the moments cover what runs may leave unassigned.
use Rattle.std.proofs.Common.{◌≡◌, ◌∙◌, ℕ, zero, suc, ◌+◌, ◌<◌, ◌⊎◌, inl, inr, refl, sym, ap, subst, true, false, List, [], ◌∷◌, ◌++◌, map, Option, Some, None, arith}
use Rattle.std.specs.Prelude.{IsSomeAnd, IsTrue, slice_get, length}
use Rattle.std.specs.Option.{option_to_list}
use Rattle.std.proofs.lemmas.Option.{slice_get_within}
use Rattle.spark_base.specs.declared.numbers.BodyNo.{BodyNo}
use Rattle.core_form.specs.declared.program.Home.{Home}
use Rattle.core_form.specs.declared.program.Leaf.{Leaf}
use Rattle.core_form.specs.declared.program.Program.{Program}
use Rattle.core_form.specs.Code.{Outcome, Next, Returns}
use Rattle.core_form.specs.Fine.{home_of}
use Rattle.core_form.specs.Proper.{IsProper}
use Rattle.flow_bits.specs.Sets.{Has}
use Rattle.flow_relations.specs.Equation.{IsLibrary, IsPassed, code_of_body, equation, plain_flow}
use Rattle.run_model.specs.Machine.{is_library, is_library_home}
use Rattle.run_laws.specs.Unassigned.{AreElaborated, all, behind, opens, opens_behind, roots_of}
use Rattle.unset_moments.specs.declared.endings.Ending.{Ending}
use Rattle.unset_moments.specs.Moments.{IsPackageHome, loose_after, loose_before, loose_behind, loose_first}
use Rattle.elaboration_laws.specs.Endings.{IsEndingOf}
use Rattle.elaboration_laws.specs.Covering.{AreEndings, HasPlainRoots, IsItem, StartsAreAssigned, StartsAssigned}
use Rattle.elaboration_laws.proofs.Kept.{declared_gone, kept_comes}

-- Homes

package_library : (o : Option Home) → IsSomeAnd o IsPackageHome → is_library_home o ≡ true
package_library None h = absurd h
package_library (Some (Home.Package k)) h = refl
package_library (Some (Home.Local b)) h = absurd h
package_library (Some (Home.Formal b)) h = absurd h
package_library (Some (Home.Outcome b)) h = absurd h
package_library (Some (Home.Spare b)) h = absurd h
package_library (Some Home.Clock) h = absurd h

package_or_clock : (o : Option Home) → IsTrue (is_library_home o) → IsSomeAnd o IsPackageHome ⊎ (o ≡ Some Home.Clock)
package_or_clock None h = let z : false ≡ true = h in absurd (cc)
package_or_clock (Some (Home.Package k)) h = inl tt
package_or_clock (Some (Home.Local b)) h = let z : false ≡ true = h in absurd (cc)
package_or_clock (Some (Home.Formal b)) h = let z : false ≡ true = h in absurd (cc)
package_or_clock (Some (Home.Outcome b)) h = let z : false ≡ true = h in absurd (cc)
package_or_clock (Some (Home.Spare b)) h = let z : false ≡ true = h in absurd (cc)
package_or_clock (Some Home.Clock) h = inr refl

pub library_home : (o : Option Home) → IsSomeAnd o IsLibrary → is_library_home o ≡ true
library_home None h = absurd h
library_home (Some (Home.Package k)) h = refl
library_home (Some (Home.Local b)) h = absurd h
library_home (Some (Home.Formal b)) h = absurd h
library_home (Some (Home.Outcome b)) h = absurd h
library_home (Some (Home.Spare b)) h = absurd h
library_home (Some Home.Clock) h = refl

home_below : (p : Program) (x : ℕ) → loose_first p x → x < length p.leaves
home_below p x h = cases (slice_get p.leaves x) refl h
  where
    cases : (o : Option Leaf) → slice_get p.leaves x ≡ o
        → IsSomeAnd (elim o [ None ↦ None | Some l ↦ (elim (slice_get p.vars l.var.0) [ None ↦ None | Some v ↦ Some v.home ]) ]) IsPackageHome → x < length p.leaves
    cases None e g = absurd g
    cases (Some l) e g = slice_get_within p.leaves x l e

module _ (p : Program) (items : List Ending) (proper : IsProper p) (plain : HasPlainRoots p) (endings : AreEndings p items) (starts : StartsAreAssigned p items) where
  -- in the set of the moment is each leaf of a package that may be unassigned then
  abbrev Covers : ℕ → (ℕ → Type 0) → Type 0
  Covers n loose = (x : ℕ) → loose_first p x → loose x → loose_before p items n x

  -- what opens a root, of the leaves of packages
  opened : (loose : ℕ → Type 0) (x : ℕ) → loose_first p x → opens p loose x → loose x
  opened loose x l (inl h) = h.1
  opened loose x l (inr f) = let t : is_library p x ≡ true = package_library (home_of p x) l in let z : true ≡ false = sym t ∙ f in absurd (cc)

  -- a root reads by its row no leaf that may be unassigned where it begins
  no_read : (n b : ℕ) (loose : ℕ → Type 0) → Covers n loose → StartsAssigned p items n b → ((x : ℕ) → IsSomeAnd (home_of p x) (IsPassed b) → ⊥)
      → (x : ℕ) → (equation p b).reads x → opens p loose x → ⊥
  no_read n b loose covers start own x r (inl h) = elim (package_or_clock (home_of p x) h.0) [ inl l ↦ start x r (covers x l h.1) | inr c ↦ plain.clock x c ]
  no_read n b loose covers start own x r (inr f) = elim r.0 [
    | inl k ↦ (let t : is_library p x ≡ true = library_home (home_of p x) k.0 in let z : true ≡ false = sym t ∙ f in absurd (cc))
    | inr k ↦ own x k
  ]

  -- one item further
  further : (n b : ℕ) (loose : ℕ → Type 0) → Covers n loose → IsItem p n b → Covers (suc n) (opens_behind p b loose)
  further n b loose covers item x l h = cases (slice_get items n) (endings n b item)
    where
      below : x < length p.leaves
      below = home_below p x l

      cases : (o : Option Ending) → IsSomeAnd o (IsEndingOf p (plain_flow p (code_of_body p b)) b) → loose_behind o (loose_before p items n) x
      cases None g = absurd g
      cases (Some e) g = elim h [ inl k ↦ by_end k | inr k ↦ by_return k ]
        where
          fresh : (o : Outcome) → (plain_flow p (code_of_body p b)).kept o (length p.leaves) x → Has e.declared x
          fresh o k = elim (kept_comes p (code_of_body p b) o (length p.leaves) x k) [
            | inl same ↦ (let m : length p.leaves ≡ x = same in absurd (omega (arith, m, below)))
            | inr c ↦ (g.declared x l).1 (l, c.1)
          ]

          by_end : behind all p (code_of_body p b) Next (opens p loose) x → loose_after e (loose_before p items n) x
          by_end (inl k) = inl (fresh Next k.0, (g.unset x l).1 (inl k.0))
          by_end (inr k) = inr (λ d. declared_gone p proper b x below ((g.declared x l).0 d) k.1, (covers x l (opened loose x l k.0), (g.kept x l).1 (inl k.1)))

          by_return : behind all p (code_of_body p b) Returns (opens p loose) x → loose_after e (loose_before p items n) x
          by_return (inl k) = inl (fresh Returns k.0, (g.unset x l).1 (inr k.0))
          by_return (inr k) = inr (λ d. plain.declared n b x item ((g.declared x l).0 d) k.1, (covers x l (opened loose x l k.0), (g.kept x l).1 (inr k.1)))

  main_elaborated : (o : Option BodyNo) → p.main ≡ o → (loose : ℕ → Type 0) → Covers (length p.order) loose
      → AreElaborated p (map (λ (b : BodyNo). b.0) (option_to_list o)) loose
  main_elaborated None e loose covers = tt
  main_elaborated (Some m) e loose covers =
      let is : IsSomeAnd p.main (λ c. c.0 ≡ m.0) = subst (λ q. IsSomeAnd q (λ c. c.0 ≡ m.0)) (sym e) refl in
      (no_read (length p.order) m.0 loose covers (starts.main m.0 is) (λ x. plain.main m.0 x is), tt)

  elaborated : (bs : List BodyNo) (n : ℕ) (loose : ℕ → Type 0) → Covers n loose → ((k : ℕ) → slice_get bs k ≡ slice_get p.order (n + k)) → n + length bs ≡ length p.order
      → AreElaborated p (map (λ (b : BodyNo). b.0) bs ++ map (λ (b : BodyNo). b.0) (option_to_list p.main)) loose
  elaborated [] n loose covers at len =
      let e : n ≡ length p.order = omega (arith, len) in main_elaborated p.main refl loose (subst (λ k. Covers k loose) e covers)
  elaborated (b ∷ bs) n loose covers at len =
      let z : n + 0 ≡ n = omega arith in
      let got : slice_get p.order n ≡ Some b = ap (λ k. slice_get p.order k) (sym z) ∙ sym (at zero) in
      let item : IsItem p n b.0 = subst (λ q. IsSomeAnd q (λ c. c.0 ≡ b.0)) (sym got) refl in (
        no_read n b.0 loose covers (starts.order n b.0 item) (λ x. plain.order n b.0 x item),
        elaborated bs (suc n) (opens_behind p b.0 loose) (further n b.0 loose covers item)
            (λ k. let s : n + suc k ≡ suc n + k = omega arith in at (suc k) ∙ ap (λ j. slice_get p.order j) s)
            (let m : n + length (b ∷ bs) ≡ length p.order = len in omega (arith, m)),
      )

  pub all_elaborated : AreElaborated p (roots_of p) all
  all_elaborated = elaborated p.order 0 all (λ x l h. l) (λ k. let z : k ≡ 0 + k = omega arith in ap (λ j. slice_get p.order j) z) (omega arith)
