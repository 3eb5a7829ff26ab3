-- The flow of a call, over what is known of the callee.
use Rattle.std.specs.Prelude.{◌≡◌, ℕ, zero, suc, ◌+◌, ◌<◌, ◌≤◌, ◌⊎◌, ◌↔◌, cond, nat_eq, List, [], ◌∷◌, length, slice_index_or}
use Rattle.spark_base.specs.declared.numbers.LeafNo.{LeafNo}
use Rattle.core_form.specs.Code.{Exprs, Nothing, And, Spots, NoSpot, AndSpot, Actuals, NoActual, AndActual, Next}
use Rattle.core_form.specs.Code.{Code, Skip, Then, Assign, Clear, Branch, Repeat, Exit, Called, Guard, Delay, ReadClock, Stop}
use Rattle.flow_facts.specs.Flow.{Flow, Summary, leaving, moving, setting, seq, reads_of}
use Rattle.call_flow.specs.declared.signatures.Passing.{Passing}
use Rattle.call_flow.specs.declared.signatures.Signature.{Signature}

-- Names of a call: those of the caller's frame below `void`; behind them one for each leaf that is passed; and the last for
-- "not assigned". So the own names stand apart also where a body calls itself.

-- how the formal of a number is passed; nothing is behind the last
abbrev pub passing_at : Signature → ℕ → Passing
passing_at s i = slice_index_or s.passings i (record { first = 0; ins = 0; backs = 0 })

-- the last name of a call in a frame of so many names
abbrev pub last_name : ℕ → Signature → ℕ
last_name void s = void + length s.leaves

-- under which name a leaf of the callee stands: those that are passed from `next` on in their order, and others under their own
abbrev pub stands : (ℕ → ℕ) → ℕ → List LeafNo → ℕ → ℕ
stands own next [] f = own f
stands own next (x ∷ xs) f = cond (nat_eq x.0 f) next (stands own (suc next) xs f)

-- some leaf of this name is in the set
abbrev pub Standing : (ℕ → ℕ) → (ℕ → Type 0) → ℕ → Type 0
Standing name S x = (f : ℕ) × ((name f ≡ x) × S f)

-- some leaves of these names are related
abbrev pub StandingPairs : (ℕ → ℕ) → (ℕ → ℕ → Type 0) → ℕ → ℕ → Type 0
StandingPairs name R x y = (f : ℕ) × ((g : ℕ) × ((name f ≡ x) × ((name g ≡ y) × R f g)))

-- of this name what is known does not speak
abbrev pub IsAside : (ℕ → ℕ) → Summary → ℕ → Type 0
IsAside name k x = Standing name k.leaves x → ⊥

-- the second part of a call: what is known of the callee; it goes on where the callee may return, and what is not spoken of is kept
abbrev pub knowing : ℕ → (ℕ → ℕ) → Summary → Flow
knowing void name k = record {
  reads = Standing name k.reads;
  writes = Standing name k.writes;
  decides = λ v. ⊥;
  can = λ o. (o ≡ Next) × k.returns;
  kept = λ o v w. (o ≡ Next) × (k.returns × ((v ≤ void) × ((v ≡ w) × (Standing name k.keeps v ⊎ IsAside name k v))));
  dep = λ o v w. (o ≡ Next) × (k.returns × (StandingPairs name k.depends v w ⊎ ((v < void) × ((v ≡ w) × IsAside name k v))));
}

-- the first part, before what follows: so many values are moved to names from x on; what is more is left out
abbrev pub values_in : ℕ → ℕ → ℕ → Exprs → Flow → Flow
values_in void x zero es rest = rest
values_in void x (suc n) Nothing rest = rest
values_in void x (suc n) (And e es) rest = seq void (moving void x (reads_of e)) (values_in void (suc x) n es rest)

-- those of each actual, where the first passed leaf has the name `void`, and the last name is `big`
abbrev pub actuals_in : ℕ → ℕ → Signature → Actuals → Flow → Flow
actuals_in void big s NoActual rest = rest
actuals_in void big s (AndActual formal values spots at more) rest =
    let x = void + (passing_at s formal).first in
    values_in big x (passing_at s formal).ins values (actuals_in void big s more rest)

-- the third part, before what follows: so many names from x on are moved to the places
abbrev pub spots_out : ℕ → ℕ → ℕ → Spots → Flow → Flow
spots_out void x zero spots rest = rest
spots_out void x (suc n) NoSpot rest = rest
spots_out void x (suc n) (AndSpot spot spots) rest = seq void (setting void spot (λ u. u ≡ x)) (spots_out void (suc x) n spots rest)

abbrev pub actuals_out : ℕ → ℕ → Signature → Actuals → Flow → Flow
actuals_out void big s NoActual rest = rest
actuals_out void big s (AndActual formal values spots at more) rest =
    let x = void + (passing_at s formal).first in
    spots_out big x (passing_at s formal).backs spots (actuals_out void big s more rest)

-- the name in the call that a name of the frame has: all but "not assigned" have the same
abbrev pub up : ℕ → ℕ → ℕ → ℕ
up void big x = cond (nat_eq x void) big x

-- without the names of the call's own
abbrev pub dropped : ℕ → ℕ → Flow → Flow
dropped void big f = record {
  reads = λ v. (v < void) × f.reads v;
  writes = λ v. (v < void) × f.writes v;
  decides = λ v. (v < void) × f.decides v;
  can = f.can;
  kept = λ o v w. ((v ≤ void) × (w ≤ void)) × f.kept o (up void big v) (up void big w);
  dep = λ o v w. ((v < void) × (w < void)) × f.dep o v w;
}

-- the three parts, one after the other
abbrev pub call_parts : ℕ → ℕ → (ℕ → ℕ) → Signature → Summary → Actuals → Flow
call_parts void big own s k actuals =
    actuals_in void big s actuals (seq big (knowing big (stands own void s.leaves) k) (actuals_out void big s actuals (leaving big Next)))

-- the flow of a call in a frame of so many names, where leaves of the callee that are not passed stand under their own names
abbrev pub calling : ℕ → (ℕ → ℕ) → Signature → Summary → Actuals → Flow
calling void own s k actuals = dropped void (last_name void s) (call_parts void (last_name void s) own s k actuals)

-- What is known of callees

-- of the same leaves, a first summary has no fact that the second lacks
pub record IsLess (k l : Summary) : Type 0 where
  pub leaves : (v : ℕ) → k.leaves v ↔ l.leaves v
  pub returns : k.returns → l.returns
  pub reads : (v : ℕ) → k.reads v → l.reads v
  pub writes : (v : ℕ) → k.writes v → l.writes v
  pub keeps : (v : ℕ) → k.keeps v → l.keeps v
  pub depends : (v w : ℕ) → k.depends v w → l.depends v w

-- both have the same facts
pub record IsAlike (k l : Summary) : Type 0 where
  pub less : IsLess k l
  pub more : IsLess l k

-- code calls the body of this number
abbrev pub IsCalled : ℕ → Code → Type 0
IsCalled b Skip = ⊥
IsCalled b (Then x y) = IsCalled b x ⊎ IsCalled b y
IsCalled b (Assign to e at) = ⊥
IsCalled b (Clear leaf) = ⊥
IsCalled b (Branch e x y) = IsCalled b x ⊎ IsCalled b y
IsCalled b (Repeat x) = IsCalled b x
IsCalled b (Exit o) = ⊥
IsCalled b (Called c actuals at) = b ≡ c.0
IsCalled b (Guard o barrier x) = IsCalled b x
IsCalled b (Delay e) = ⊥
IsCalled b (ReadClock to) = ⊥
IsCalled b Stop = ⊥
