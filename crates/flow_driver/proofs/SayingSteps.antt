-- A line is put piece by piece, as far as it goes.
use Rattle.std.proofs.Common.{◌≡◌, ℕ, zero, suc, ◌+◌, ◌<◌, ◌≤◌, List, [], ◌∷◌, ◌++◌, length, take, get_or, map, slice_get, unwrap_or, true, false, Ok, Err, IfErr, ap, sym, subst, arith, is_err}
use Rattle.std.proofs.Math.Seq.{take-length, take-append-add}
use Rattle.std.proofs.lemmas.List.{take-append-le}
use Rattle.std.specs.declared.option.Option.{Option}
use Rattle.std.specs.declared.result.Result.{Result}
use Rattle.source_io.specs.Counts.{Rose, Grew}
use Rattle.source_io.specs.Sink.{printed, IsCutShort, PrintCountsFault, PrintCountsWant}
use Rattle.source_io.specs.declared.print.PrintFault.{PrintFault}
use Rattle.source_io.specs.declared.print.PrintFault.TheVariants.{Failed, NoMemory}
use Rattle.source_io.proofs.CountsLemmas.{Grew-trans}
use Rattle.flow_driver.specs.Run.{Complains}

-- the line ends here
pub says : {A S : Type 0} (held : S → Option (List ℕ)) (faults wants : S → ℕ) (r : Result A PrintFault) (line : List ℕ) (a b : S) → Grew (held a) (printed r line) (held b) → PrintCountsFault (faults a) (faults b) r → PrintCountsWant (wants a) (wants b) r → Complains held faults wants line a b
says held faults wants (Ok u) line a b grew f w =
    record { part = record { count = length line; grew = rw take-length grew }; whole = λ _ _. grew }
says held faults wants (Err (Failed done)) line a b grew f w =
    record { part = record { count = done; grew = grew }; whole = λ h _. absurd (h f) }
says held faults wants (Err (NoMemory done)) line a b grew f w =
    record { part = record { count = done; grew = grew }; whole = λ _ h. absurd (h w) }

-- what follows is not put
pub stops : {A S : Type 0} (held : S → Option (List ℕ)) (faults wants : S → ℕ) (r : Result A PrintFault) (x y : List ℕ) (a b : S) → is_err r ≡ true → IfErr r (λ fault. IsCutShort fault x) → Grew (held a) (printed r x) (held b) → PrintCountsFault (faults a) (faults b) r → PrintCountsWant (wants a) (wants b) r → Complains held faults wants (x ++ y) a b
stops held faults wants (Ok u) x y a b err cut grew f w = cc
stops held faults wants (Err (Failed done)) x y a b err cut grew f w =
    let le : done ≤ length x = omega arith in
    record { part = record { count = done; grew = rw take-append-le grew }; whole = λ h _. absurd (h f) }
stops held faults wants (Err (NoMemory done)) x y a b err cut grew f w =
    let le : done ≤ length x = omega arith in
    record { part = record { count = done; grew = rw take-append-le grew }; whole = λ _ h. absurd (h w) }

-- what follows is put behind it
pub goes : {A S : Type 0} (held : S → Option (List ℕ)) (faults wants : S → ℕ) (r : Result A PrintFault) (x y : List ℕ) (a b c : S) → is_err r ≡ false → Grew (held a) (printed r x) (held b) → PrintCountsFault (faults a) (faults b) r → PrintCountsWant (wants a) (wants b) r → Complains held faults wants y b c → Complains held faults wants (x ++ y) a c
goes held faults wants (Err e) x y a b c err grew f w rest = cc
goes held faults wants (Ok u) x y a b c err grew f w rest =
    record {
      part = record { count = length x + rest.part.count; grew = rw take-append-add (Grew-trans (held a) (held b) (held c) x (take rest.part.count y) grew rest.part.grew) };
      whole = λ no_fault no_want.
          Grew-trans (held a) (held b) (held c) x y grew
          (rest.whole (subst (λ (n : ℕ). Rose n (faults c) → ⊥) (sym f) no_fault) (subst (λ (n : ℕ). Rose n (wants c) → ⊥) (sym w) no_want));
    }

-- the name at a place
pub name-item : {B : Type 0} (f : B → List ℕ) (xs : List B) (i : ℕ) (x : B) → i < length xs → x ≡ get_or xs i x → unwrap_or (slice_get (map f xs) i) [] ≡ f x
name-item f [] i x within is = absurd (omega arith)
name-item f (y ∷ ys) zero x within is = ap f (sym is)
name-item f (y ∷ ys) (suc i) x within is = let inside : i < length ys = omega arith in name-item f ys i x inside is
