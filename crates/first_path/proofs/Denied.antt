-- What an answer denies goes on to the callers.
use Rattle.std.proofs.Common.{◌≡◌, Ok, Err, IfErr, sym, subst}
use Rattle.std.specs.Prelude.{IsErrAnd}
use Rattle.std.specs.declared.result.Result.{Result}
use Rattle.first_path.specs.declared.reading.ReadFault.{ReadFault}
use Rattle.first_path.specs.declared.reading.ReadFault.TheVariants as fault
use Rattle.first_path.specs.Begins.{Denies}

-- an answer that says so denies it
pub denied : {T P : Type 0} (r : Result T ReadFault) → IsErrAnd r (λ f. f ≡ fault.NotSpelled) → P → IfErr r (λ f. Denies f P)
denied (Ok x) h p = tt
denied {T} {P} (Err f) h p = subst (λ (g : ReadFault). Denies g P) (sym h) p

-- what is denied of a part is denied of the whole
pub passes : {P Q : Type 0} (f : ReadFault) → Denies f P → (P → Q) → Denies f Q
passes fault.NotSpelled d k = k d
passes fault.NoMemory d k = tt

pub passed : {T P Q : Type 0} (r : Result T ReadFault) (f : ReadFault) → IsErrAnd r (λ g. g ≡ f) → Denies f P → (P → Q) → IfErr r (λ g. Denies g Q)
passed (Ok x) f h d k = tt
passed {T} {P} {Q} (Err g) f h d k = subst (λ (x : ReadFault). Denies x Q) (sym h) (passes {P = P} {Q = Q} f d k)
