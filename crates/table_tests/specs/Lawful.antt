-- What is asked of a system is true of the small ones.
use Rattle.std.proofs.Common.{◌≡◌, inl, inr, ℕ, zero, suc, ◌<◌, ◌≤◌, Bool, true, false, cond, [], None, Some, refl, sym, ap, ◌∙◌, subst, arith, le_refl}
use Rattle.std.specs.Prelude.{nat_lt}
use Rattle.std.proofs.lemmas.Bool.{lt-ltb, ltb-true, and_parts}
use Rattle.std.proofs.lemmas.Option.{none-some}
use Rattle.least_solution.specs.Least.{Among}
use Rattle.least_solution.specs.Rules.{Rule}
use Rattle.claim_core.specs.Bits.{Bit}
use Rattle.claim_core.specs.System.{IsSystem, IsRuled, system_of}
use Rattle.claim_core.proofs.Guards.{some_one}
use Rattle.claim_core.proofs.Systems.{rules_system}
use Rattle.table_tests.specs.Samples.{rules_of, own, sample, counter, circle}

made : (n m : ℕ) → n ≤ m → (rule : Rule Bit) → Among rule (rules_of n) → (b : ℕ) × (own m rule.makes.word ≡ Some b)
made zero m le rule a = absurd a
made (suc n) m le rule (inl e) =
    (n, subst (λ (r : Rule Bit). own m r.makes.word ≡ Some n) (sym e) (ap (λ t. cond t (Some n) None) (lt-ltb n m (omega arith))))
made (suc n) m le rule (inr a) = made n m (omega arith) rule a

needless : (n : ℕ) (rule : Rule Bit) → Among rule (rules_of n) → rule.needs ≡ []
needless zero rule a = absurd a
needless (suc n) rule (inl e) = ap (λ (r : Rule Bit). r.needs) e
needless (suc n) rule (inr a) = needless n rule a

pub owned_below : (n w b : ℕ) → own n w ≡ Some b → (w < n) × (w ≡ b)
owned_below n w b e = go (nat_lt w n) refl
  where
    go : (t : Bool) → nat_lt w n ≡ t → (w < n) × (w ≡ b)
    go true f = (ltb-true w n f, some_one w b (sym (ap (λ t. cond t (Some w) None) f) ∙ e))
    go false f = absurd (none-some b (sym (ap (λ t. cond t (Some w) None) f) ∙ e))

is_ruled : (n : ℕ) (calls : ℕ → ℕ → Bool) → IsRuled (sample n calls)
is_ruled n calls = record {
  makes = made n n (le_refl n);
  needs = λ rule a b o y h. absurd (subst (λ l. Among y l) (needless n rule a) h);
  has_words = λ w b e. (let t = owned_below n w b e in (t.0, subst (λ m. m < n) t.1 t.0));
  has_callers = λ a b h. ltb-true a n (and_parts _ _ h).0;
}

pub counter_lawful : IsSystem (system_of counter)
counter_lawful = rules_system counter (is_ruled 2 _)

pub circle_lawful : IsSystem (system_of circle)
circle_lawful = rules_system circle (is_ruled 3 _)
