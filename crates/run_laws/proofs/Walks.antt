-- What is tracked along the code that remains: the walk that finds each read of a tracked leaf.
use Rattle.std.proofs.Common.{◌≡◌, ◌≢◌, ◌⊎◌, inl, inr, ℕ, zero, suc, ◌<◌, Bool, true, false, cond, List, [], ◌∷◌, length, refl, arith}
use Rattle.std.specs.Prelude.{IsTrue}
use Rattle.spark_base.specs.declared.numbers.Span.{Span}
use Rattle.core_form.specs.Code.{Expr, Exprs, At, Outcome, Next, Leaves, Returns, Code, Skip, Then, Assign, Clear, Branch, Repeat, Exit, Called, Guard, Delay, ReadClock, Stop}
use Rattle.core_form.proofs.Alone.{NamesAlone}
use Rattle.core_form.specs.Proper.{IsWholeRight, cells_of}
use Rattle.core_form.specs.declared.program.Program.{Program}
use Rattle.flow_relations.specs.Equation.{plain_flow}
use Rattle.flow_relations.specs.Flow.{Flow, IsExit, inside, unrolling}
use Rattle.run_model.specs.Machine.{Remaining, Do, Again, is_library, push, resume}
use Rattle.run_laws.specs.Unassigned.{behind, sites, sites_of_rounds}

abbrev pub none : ℕ → Type 0
none x = ⊥

-- the leaf is one of the program's
abbrev pub Below : Program → ℕ → Type 0
Below p x = x < length p.leaves

-- each leaf of the program that is in the first is in the second
abbrev pub Within : Program → (ℕ → Type 0) → (ℕ → Type 0) → Type 0
Within p v w = (x : ℕ) → Below p x → v x → w x

-- the places that are written are whole exactly where they have all cells of their leaf
abbrev pub IsRight : Program → Code → Type 0
IsRight p Skip = Unit {0}
IsRight p (Then a b) = IsRight p a × IsRight p b
IsRight p (Assign (At leaf part whole count) e at) = IsWholeRight (cells_of p) leaf part whole count
IsRight p (Clear leaf) = Unit {0}
IsRight p (Branch e a b) = IsRight p a × IsRight p b
IsRight p (Repeat a) = IsRight p a
IsRight p (Exit o) = Unit {0}
IsRight p (Called b actuals at) = Unit {0}
IsRight p (Guard o barrier c) = Unit {0}
IsRight p (Delay e) = Unit {0}
IsRight p (ReadClock to) = Unit {0}
IsRight p Stop = Unit {0}

-- Flows of the forms that a well-formed program has

-- what is unassigned stays so in each round
rounds_stay : (void : ℕ) (f : Flow) → ((o : Outcome) → f.can o → f.kept o void void) → (n : ℕ) (o : Outcome) → (unrolling void f n).can o → (unrolling void f n).kept o void void
rounds_stay void f h zero o c = absurd c
rounds_stay void f h (suc n) o (inl c) = inl (c.0, h o c.1)
rounds_stay void f h (suc n) o (inr c) = inr (void, (h Next c.0, rounds_stay void f h n o c.1))

module _ (p : Program) where
  -- what is unassigned stays so
  void_stays : (a : Code) → NamesAlone (Below p) a → (o : Outcome) → (plain_flow p a).can o → (plain_flow p a).kept o (length p.leaves) (length p.leaves)
  void_stays Skip h o c = (c, (omega arith, refl))
  void_stays (Then a b) h o (inl c) = inl (c.0, void_stays a h.0 o c.1)
  void_stays (Then a b) h o (inr c) = inr (length p.leaves, (void_stays a h.0 Next c.0, void_stays b h.1 o c.1))
  void_stays (Assign (At leaf part true count) e at) h o c = let less : leaf < length p.leaves = h.0.0 in (c, (omega arith, refl, λ i. let j : length p.leaves ≡ leaf = i in absurd (omega arith)))
  void_stays (Assign (At leaf part false count) e at) h o c = (c, (omega arith, refl))
  void_stays (Clear leaf) h o c = let less : leaf < length p.leaves = h in (c, inl (omega arith, refl, λ i. let j : length p.leaves ≡ leaf = i in absurd (omega arith)))
  void_stays (Branch e a b) h o (inl c) = inl (void_stays a h.1 o c)
  void_stays (Branch e a b) h o (inr c) = inr (void_stays b h.2 o c)
  void_stays (Repeat a) h o c = (c.0, rounds_stay (length p.leaves) (plain_flow p a) (void_stays a h) c.0 (inside o) c.1)
  void_stays (Exit u) h o c = (c, (omega arith, refl))
  void_stays (Called b actuals at) h o c = absurd h
  void_stays (Guard u barrier b) h o c = absurd h
  void_stays (Delay e) h o c = absurd h
  void_stays (ReadClock to) h o c = absurd h
  void_stays Stop h o c = absurd c

-- What is tracked

module _ (c : ℕ → Type 0) (p : Program) where
  pub behind_within : (a : Code) (o : Outcome) (v w : ℕ → Type 0) → Within p v w → Within p (behind c p a o v) (behind c p a o w)
  behind_within a o v w h x l (inl i) = inl i
  behind_within a o v w h x l (inr i) = inr (h x l i.0, i.1)

  -- behind a first statement, what is behind both is all that is behind the second
  then_behind : (a b : Code) → NamesAlone (Below p) a → (o : Outcome) (v : ℕ → Type 0) → (plain_flow p a).can Next → Within p (behind c p b o (behind c p a Next v)) (behind c p (Then a b) o v)
  then_behind a b h o v n x l (inl i) = inl (inr (length p.leaves, (void_stays p a h Next n, i.0)), i.1)
  then_behind a b h o v n x l (inr (inl i, k)) = inl (inr (x, (i.0, k)), i.1)
  then_behind a b h o v n x l (inr (inr i, k)) = inr (i.0, inr (x, (i.1, k)))

  -- where the first leaves the list, what is behind it is behind both
  exit_behind : (a b : Code) (o : Outcome) (v : ℕ → Type 0) → IsExit o → Within p (behind c p a o v) (behind c p (Then a b) o v)
  exit_behind a b o v e x l (inl i) = inl (inl (e, i.0), i.1)
  exit_behind a b o v e x l (inr i) = inr (i.0, inl (e, i.1))

  -- what is behind one round, and then the loop, is behind the loop
  again_behind : (a : Code) → NamesAlone (Below p) a → (o : Outcome) (v : ℕ → Type 0) → (plain_flow p a).can Next → Within p (behind c p (Repeat a) o (behind c p a Next v)) (behind c p (Repeat a) o v)
  again_behind a h o v n x l (inl i) = inl ((suc i.0.0, inr (length p.leaves, (void_stays p a h Next n, i.0.1))), i.1)
  again_behind a h o v n x l (inr (inl i, k)) = inl ((suc k.0, inr (x, (i.0, k.1))), i.1)
  again_behind a h o v n x l (inr (inr i, k)) = inr (i.0, (suc k.0, inr (x, (i.1, k.1))))

  -- what is behind an exit of the body is behind the loop
  leave_behind : (a : Code) (o : Outcome) (v : ℕ → Type 0) → IsExit (inside o) → Within p (behind c p a (inside o) v) (behind c p (Repeat a) o v)
  leave_behind a o v e x l (inl i) = inl ((suc zero, inl (e, i.0)), i.1)
  leave_behind a o v e x l (inr i) = inr (i.0, (suc zero, inl (e, i.1)))

  left_behind : (e : Expr) (a b : Code) (o : Outcome) (v : ℕ → Type 0) → Within p (behind c p a o v) (behind c p (Branch e a b) o v)
  left_behind e a b o v x l (inl i) = inl (inl i.0, i.1)
  left_behind e a b o v x l (inr i) = inr (i.0, inl i.1)

  right_behind : (e : Expr) (a b : Code) (o : Outcome) (v : ℕ → Type 0) → Within p (behind c p b o v) (behind c p (Branch e a b) o v)
  right_behind e a b o v x l (inl i) = inl (inr i.0, i.1)
  right_behind e a b o v x l (inr i) = inr (i.0, inr i.1)

  abbrev Grows : ((ℕ → Type 0) → ℕ → Type 0) → Type 1
  Grows sites = (v w : ℕ → Type 0) → Within p v w → Within p (sites v) (sites w)

  rounds_within : (a : Code) (sites : (ℕ → Type 0) → ℕ → Type 0) → Grows sites → (n : ℕ) (v w : ℕ → Type 0) → Within p v w → Within p (sites_of_rounds c p (plain_flow p a) sites n v) (sites_of_rounds c p (plain_flow p a) sites n w)
  rounds_within a sites g zero v w h x l i = i
  rounds_within a sites g (suc n) v w h x l (inl i) = inl (g v w h x l i)
  rounds_within a sites g (suc n) v w h x l (inr i) = inr (i.0, rounds_within a sites g n (behind c p a Next v) (behind c p a Next w) (behind_within a Next v w h) x l i.1)

  pub sites_within : (P : ℕ → Type 0) (a : Code) → NamesAlone P a → (v w : ℕ → Type 0) → Within p v w → Within p (sites c p a v) (sites c p a w)
  sites_within P Skip g v w h x l i = i
  sites_within P (Then a b) g v w h x l (inl i) = inl (sites_within P a g.0 v w h x l i)
  sites_within P (Then a b) g v w h x l (inr i) = inr (i.0, sites_within P b g.1 (behind c p a Next v) (behind c p a Next w) (behind_within a Next v w h) x l i.1)
  sites_within P (Assign (At leaf part whole count) e at) g v w h x l i = (h x l i.0, i.1)
  sites_within P (Clear leaf) g v w h x l i = i
  sites_within P (Branch e a b) g v w h x l (inl i) = inl (h x l i.0, i.1)
  sites_within P (Branch e a b) g v w h x l (inr (inl i)) = inr (inl (sites_within P a g.1 v w h x l i))
  sites_within P (Branch e a b) g v w h x l (inr (inr i)) = inr (inr (sites_within P b g.2 v w h x l i))
  sites_within P (Repeat a) g v w h x l i = (i.0, rounds_within a (sites c p a) (sites_within P a g) i.0 v w h x l i.1)
  sites_within P (Exit o) g v w h x l i = i
  sites_within P (Called b actuals at) g v w h x l i = absurd g
  sites_within P (Guard o barrier b) g v w h x l i = absurd g
  sites_within P (Delay e) g v w h x l i = absurd g
  sites_within P (ReadClock to) g v w h x l i = absurd g
  sites_within P Stop g v w h x l i = i

  behind_parts : (a : Code) (v q r : ℕ → Type 0) → ((x : ℕ) → v x → q x ⊎ r x) → (x : ℕ) → behind c p a Next v x → behind c p a Next q x ⊎ (r x × (plain_flow p a).kept Next x x)
  behind_parts a v q r h x (inl i) = inl (inl i)
  behind_parts a v q r h x (inr i) = cases (h x i.0)
    where
      cases : q x ⊎ r x → behind c p a Next q x ⊎ (r x × (plain_flow p a).kept Next x x)
      cases (inl j) = inl (inr (j, i.1))
      cases (inr j) = inr (j, i.1)

  abbrev Parts : Flow → ((ℕ → Type 0) → ℕ → Type 0) → Type 1
  Parts f sites = (v q r : ℕ → Type 0) → ((x : ℕ) → v x → q x ⊎ r x) → (x : ℕ) → Below p x → sites v x → sites q x ⊎ (r x × f.reads x)

  rounds_parts : (a : Code) (sites : (ℕ → Type 0) → ℕ → Type 0) → Parts (plain_flow p a) sites → (n : ℕ) → Parts (unrolling (length p.leaves) (plain_flow p a) n) (sites_of_rounds c p (plain_flow p a) sites n)
  rounds_parts a sites g zero v q r h x l i = absurd i
  rounds_parts a sites g (suc n) v q r h x l (inl i) = elim (g v q r h x l i) [
    | inl j ↦ inl (inl j)
    | inr j ↦ inr (j.0, inl j.1)
  ]
  rounds_parts a sites g (suc n) v q r h x l (inr i) = elim (rounds_parts a sites g n (behind c p a Next v) (behind c p a Next q) (λ y. r y × (plain_flow p a).kept Next y y) (behind_parts a v q r h) x l i.1) [
    | inl j ↦ inl (inr (i.0, j))
    | inr j ↦ inr (j.0.0, inr ((λ e. let m : x ≡ length p.leaves = e in absurd (omega arith)), (x, (j.0.1, j.1))))
  ]

  -- a tracked leaf that is read is of q, with what is cleared, or it is of r and its value at the beginning is read
  pub sites_parts : (P : ℕ → Type 0) (a : Code) → NamesAlone P a → (v q r : ℕ → Type 0) → ((x : ℕ) → v x → q x ⊎ r x) → (x : ℕ) → Below p x → sites c p a v x → sites c p a q x ⊎ (r x × (plain_flow p a).reads x)
  sites_parts P Skip g v q r h x l i = absurd i
  sites_parts P (Then a b) g v q r h x l (inl i) = cases (sites_parts P a g.0 v q r h x l i)
    where
      cases : sites c p a q x ⊎ (r x × (plain_flow p a).reads x) → sites c p (Then a b) q x ⊎ (r x × (plain_flow p (Then a b)).reads x)
      cases (inl j) = inl (inl j)
      cases (inr j) = inr (j.0, inl j.1)
  sites_parts P (Then a b) g v q r h x l (inr i) = cases (sites_parts P b g.1 (behind c p a Next v) (behind c p a Next q) (λ y. r y × (plain_flow p a).kept Next y y) (behind_parts a v q r h) x l i.1)
    where
      cases : sites c p b (behind c p a Next q) x ⊎ ((r x × (plain_flow p a).kept Next x x) × (plain_flow p b).reads x) → sites c p (Then a b) q x ⊎ (r x × (plain_flow p (Then a b)).reads x)
      cases (inl j) = inl (inr (i.0, j))
      cases (inr j) = inr (j.0.0, inr ((λ e. let m : x ≡ length p.leaves = e in absurd (omega arith)), (x, (j.0.1, j.1))))
  sites_parts P (Assign (At leaf part true count) e at) g v q r h x l i = cases (h x i.0)
    where
      cases : q x ⊎ r x → sites c p (Assign (At leaf part true count) e at) q x ⊎ (r x × (plain_flow p (Assign (At leaf part true count) e at)).reads x)
      cases (inl j) = inl (j, i.1)
      cases (inr j) = inr (j, i.1)
  sites_parts P (Assign (At leaf part false count) e at) g v q r h x l i = cases (h x i.0)
    where
      cases : q x ⊎ r x → sites c p (Assign (At leaf part false count) e at) q x ⊎ (r x × (plain_flow p (Assign (At leaf part false count) e at)).reads x)
      cases (inl j) = inl (j, i.1)
      cases (inr j) = inr (j, i.1)
  sites_parts P (Clear leaf) g v q r h x l i = absurd i
  sites_parts P (Branch e a b) g v q r h x l (inl i) = cases (h x i.0)
    where
      cases : q x ⊎ r x → sites c p (Branch e a b) q x ⊎ (r x × (plain_flow p (Branch e a b)).reads x)
      cases (inl j) = inl (inl (j, i.1))
      cases (inr j) = inr (j, inl i.1)
  sites_parts P (Branch e a b) g v q r h x l (inr (inl i)) = cases (sites_parts P a g.1 v q r h x l i)
    where
      cases : sites c p a q x ⊎ (r x × (plain_flow p a).reads x) → sites c p (Branch e a b) q x ⊎ (r x × (plain_flow p (Branch e a b)).reads x)
      cases (inl j) = inl (inr (inl j))
      cases (inr j) = inr (j.0, inr (inl j.1))
  sites_parts P (Branch e a b) g v q r h x l (inr (inr i)) = cases (sites_parts P b g.2 v q r h x l i)
    where
      cases : sites c p b q x ⊎ (r x × (plain_flow p b).reads x) → sites c p (Branch e a b) q x ⊎ (r x × (plain_flow p (Branch e a b)).reads x)
      cases (inl j) = inl (inr (inr j))
      cases (inr j) = inr (j.0, inr (inr j.1))
  sites_parts P (Repeat a) g v q r h x l i = elim (rounds_parts a (sites c p a) (sites_parts P a g) i.0 v q r h x l i.1) [
    | inl j ↦ inl (i.0, j)
    | inr j ↦ inr (j.0, (i.0, j.1))
  ]
  sites_parts P (Exit o) g v q r h x l i = absurd i
  sites_parts P (Called b actuals at) g v q r h x l i = absurd g
  sites_parts P (Guard o barrier b) g v q r h x l i = absurd g
  sites_parts P (Delay e) g v q r h x l i = absurd g
  sites_parts P (ReadClock to) g v q r h x l i = absurd g
  sites_parts P Stop g v q r h x l i = absurd i

nothing_behind : (p : Program) (a : Code) (v : ℕ → Type 0) → ((x : ℕ) → v x → ⊥) → (x : ℕ) → behind none p a Next v x → ⊥
nothing_behind p a v h x (inl i) = i.1
nothing_behind p a v h x (inr i) = h x i.0

rounds_empty : (p : Program) (a : Code) (sites : (ℕ → Type 0) → ℕ → Type 0) → ((v : ℕ → Type 0) → ((x : ℕ) → v x → ⊥) → (x : ℕ) → sites v x → ⊥)
    → (n : ℕ) (v : ℕ → Type 0) → ((x : ℕ) → v x → ⊥) → (x : ℕ) → sites_of_rounds none p (plain_flow p a) sites n v x → ⊥
rounds_empty p a sites g zero v h x i = i
rounds_empty p a sites g (suc n) v h x (inl i) = g v h x i
rounds_empty p a sites g (suc n) v h x (inr i) = rounds_empty p a sites g n (behind none p a Next v) (nothing_behind p a v h) x i.1

-- where nothing is tracked, and nothing that is cleared is, there is no site
pub sites_empty : (p : Program) (P : ℕ → Type 0) (a : Code) → NamesAlone P a → (v : ℕ → Type 0) → ((x : ℕ) → v x → ⊥) → (x : ℕ) → sites none p a v x → ⊥
sites_empty p P Skip g v h x i = i
sites_empty p P (Then a b) g v h x (inl i) = sites_empty p P a g.0 v h x i
sites_empty p P (Then a b) g v h x (inr i) = sites_empty p P b g.1 (behind none p a Next v) empty x i.1
  where
    empty : (x : ℕ) → behind none p a Next v x → ⊥
    empty x (inl i) = i.1
    empty x (inr i) = h x i.0
sites_empty p P (Assign (At leaf part whole count) e at) g v h x i = h x i.0
sites_empty p P (Clear leaf) g v h x i = i
sites_empty p P (Branch e a b) g v h x (inl i) = h x i.0
sites_empty p P (Branch e a b) g v h x (inr (inl i)) = sites_empty p P a g.1 v h x i
sites_empty p P (Branch e a b) g v h x (inr (inr i)) = sites_empty p P b g.2 v h x i
sites_empty p P (Repeat a) g v h x i = rounds_empty p a (sites none p a) (sites_empty p P a g) i.0 v h x i.1
sites_empty p P (Exit o) g v h x i = i
sites_empty p P (Called b actuals at) g v h x i = absurd g
sites_empty p P (Guard o barrier b) g v h x i = absurd g
sites_empty p P (Delay e) g v h x i = absurd g
sites_empty p P (ReadClock to) g v h x i = absurd g
sites_empty p P Stop g v h x i = i

-- What remains

-- c has what is tracked once it is cleared; each read of a tracked leaf is in r, and each write of a library leaf in w;
-- `names` has the leaves that the body may name, and `owed` those that may be tracked at its end
module _ (c r w names owed : ℕ → Type 0) (p : Program) where
  -- a statement does what it should, where these are tracked
  pub record Part (a : Code) (v : ℕ → Type 0) : Type 0 where
    pub reads : Within p (sites c p a v) r
    pub writes : (x : ℕ) → IsTrue (is_library p x) → (plain_flow p a).writes x → w x
    pub below : NamesAlone (Below p) a
    pub named : NamesAlone names a
    pub right : IsRight p a

  -- so does what remains, behind each outcome that may be
  abbrev pub Goes : List Remaining → Outcome → (ℕ → Type 0) → Type 0
  Goes [] o v = (x : ℕ) → Below p x → IsTrue (is_library p x) → v x → owed x
  Goes (Do a ∷ k) Next v = Part a v × ((o : Outcome) → (plain_flow p a).can o → Goes k o (behind c p a o v))
  Goes (Do a ∷ k) (Leaves n) v = Goes k (Leaves n) v
  Goes (Do a ∷ k) Returns v = Goes k Returns v
  Goes (Again a ∷ k) Next v = Part (Repeat a) v × ((o : Outcome) → (plain_flow p (Repeat a)).can o → Goes k o (behind c p (Repeat a) o v))
  Goes (Again a ∷ k) (Leaves zero) v = Goes k Next v
  Goes (Again a ∷ k) (Leaves (suc n)) v = Goes k (Leaves n) v
  Goes (Again a ∷ k) Returns v = Goes k Returns v

  part_within : (a : Code) (v u : ℕ → Type 0) → Within p v u → Part a u → Part a v
  part_within a v u h g = record { reads = λ x l i. g.reads x l (sites_within c p names a g.named v u h x l i); writes = g.writes; below = g.below; named = g.named; right = g.right }

  pub goes_within : (k : List Remaining) (o : Outcome) (v u : ℕ → Type 0) → Within p v u → Goes k o u → Goes k o v
  goes_within [] o v u h g = λ x b l i. g x b l (h x b i)
  goes_within (Do a ∷ k) Next v u h g = (part_within a v u h g.0, λ o n. goes_within k o (behind c p a o v) (behind c p a o u) (behind_within c p a o v u h) (g.1 o n))
  goes_within (Do a ∷ k) (Leaves n) v u h g = goes_within k (Leaves n) v u h g
  goes_within (Do a ∷ k) Returns v u h g = goes_within k Returns v u h g
  goes_within (Again a ∷ k) Next v u h g = (part_within (Repeat a) v u h g.0, λ o n. goes_within k o (behind c p (Repeat a) o v) (behind c p (Repeat a) o u) (behind_within c p (Repeat a) o v u h) (g.1 o n))
  goes_within (Again a ∷ k) (Leaves zero) v u h g = goes_within k Next v u h g
  goes_within (Again a ∷ k) (Leaves (suc n)) v u h g = goes_within k (Leaves n) v u h g
  goes_within (Again a ∷ k) Returns v u h g = goes_within k Returns v u h g

  -- the first of two statements
  into_first : (a b : Code) (v : ℕ → Type 0) → Part (Then a b) v → Part a v
  into_first a b v g = record { reads = λ x l i. g.reads x l (inl i); writes = λ x l i. g.writes x l (inl i); below = g.below.0; named = g.named.0; right = g.right.0 }

  -- and the second behind it
  into_second : (a b : Code) (v : ℕ → Type 0) → Part (Then a b) v → (plain_flow p a).can Next → Part b (behind c p a Next v)
  into_second a b v g n = record { reads = λ x l i. g.reads x l (inr (n, i)); writes = λ x l i. g.writes x l (inr (n, i)); below = g.below.1; named = g.named.1; right = g.right.1 }

  past : (a : Code) (k : List Remaining) (o : Outcome) (v : ℕ → Type 0) → IsExit o → Goes k o v → Goes (Do a ∷ k) o v
  past a k Next v e g = absurd e
  past a k (Leaves n) v e g = g
  past a k Returns v e g = g

  -- an exit passes what was to come
  goes_past : (b : Code) (k : List Remaining) (o : Outcome) (v : ℕ → Type 0) → IsExit o → Goes k o v → Goes (push b k) o v
  goes_past Skip k o v e g = g
  goes_past (Then a b) k o v e g = goes_past a (push b k) o v e (goes_past b k o v e g)
  goes_past (Assign to x at) k o v e g = past (Assign to x at) k o v e g
  goes_past (Clear leaf) k o v e g = past (Clear leaf) k o v e g
  goes_past (Branch x a b) k o v e g = past (Branch x a b) k o v e g
  goes_past (Repeat a) k o v e g = past (Repeat a) k o v e g
  goes_past (Exit u) k o v e g = past (Exit u) k o v e g
  goes_past (Called b actuals at) k o v e g = past (Called b actuals at) k o v e g
  goes_past (Guard u barrier b) k o v e g = past (Guard u barrier b) k o v e g
  goes_past (Delay x) k o v e g = past (Delay x) k o v e g
  goes_past (ReadClock to) k o v e g = past (ReadClock to) k o v e g
  goes_past Stop k o v e g = past Stop k o v e g

  -- behind a first statement, what remains is opened
  push_second : (a b : Code) (k : List Remaining) (v : ℕ → Type 0)
      → ((u : ℕ → Type 0) → Goes (Do b ∷ k) Next u → Goes (push b k) Next u)
      → ((plain_flow p a).can Next → Goes (Do b ∷ k) Next (behind c p a Next v))
      → ((o : Outcome) → IsExit o → (plain_flow p a).can o → Goes k o (behind c p a o v))
      → (o : Outcome) → (plain_flow p a).can o → Goes (push b k) o (behind c p a o v)
  push_second a b k v ih g x Next n = ih (behind c p a Next v) (g n)
  push_second a b k v ih g x (Leaves i) n = goes_past b k (Leaves i) (behind c p a (Leaves i) v) tt (x (Leaves i) tt n)
  push_second a b k v ih g x Returns n = goes_past b k Returns (behind c p a Returns v) tt (x Returns tt n)

  -- what remains where the first statement leaves the list
  then_leaves : (a b : Code) (k : List Remaining) (v : ℕ → Type 0) → Goes (Do (Then a b) ∷ k) Next v → (o : Outcome) → IsExit o → (plain_flow p a).can o → Goes k o (behind c p a o v)
  then_leaves a b k v g o e n = goes_within k o (behind c p a o v) (behind c p (Then a b) o v) (exit_behind c p a b o v e) (g.1 o (inl (e, n)))

  -- the second statement of a sequence, behind the first
  then_goes : (a b : Code) (k : List Remaining) (v : ℕ → Type 0) → Goes (Do (Then a b) ∷ k) Next v → (plain_flow p a).can Next → Goes (Do b ∷ k) Next (behind c p a Next v)
  then_goes a b k v g n = (into_second a b v g.0 n, λ o m. goes_within k o (behind c p b o (behind c p a Next v)) (behind c p (Then a b) o v) (then_behind c p a b g.0.below.0 o v n) (g.1 o (inr (n, m))))

  -- a sequence is opened
  pub goes_push : (a : Code) (k : List Remaining) (v : ℕ → Type 0) → Goes (Do a ∷ k) Next v → Goes (push a k) Next v
  goes_push Skip k v g = goes_within k Next v (behind c p Skip Next v) (λ x l i. inr (i, (refl, (omega arith, refl)))) (g.1 Next refl)
  goes_push (Then a b) k v g = goes_push a (push b k) v (into_first a b v g.0, push_second a b k v (λ u. goes_push b k u) (then_goes a b k v g) (then_leaves a b k v g))
  goes_push (Assign to e at) k v g = g
  goes_push (Clear leaf) k v g = g
  goes_push (Branch e a b) k v g = g
  goes_push (Repeat a) k v g = g
  goes_push (Exit o) k v g = g
  goes_push (Called b actuals at) k v g = g
  goes_push (Guard o barrier b) k v g = g
  goes_push (Delay e) k v g = g
  goes_push (ReadClock to) k v g = g
  goes_push Stop k v g = g

  -- The next statement

  into_branch : (e : Expr) (a b : Code) (k : List Remaining) (v : ℕ → Type 0) (test : Bool) → Goes (Do (Branch e a b) ∷ k) Next v → Goes (Do (cond test a b) ∷ k) Next v
  into_branch e a b k v true g = (
    record { reads = λ x l i. g.0.reads x l (inr (inl i)); writes = λ x l i. g.0.writes x l (inl i); below = g.0.below.1; named = g.0.named.1; right = g.0.right.0 },
    λ o n. goes_within k o (behind c p a o v) (behind c p (Branch e a b) o v) (left_behind c p e a b o v) (g.1 o (inl n)),
  )
  into_branch e a b k v false g = (
    record { reads = λ x l i. g.0.reads x l (inr (inr i)); writes = λ x l i. g.0.writes x l (inr i); below = g.0.below.2; named = g.0.named.2; right = g.0.right.1 },
    λ o n. goes_within k o (behind c p b o v) (behind c p (Branch e a b) o v) (right_behind c p e a b o v) (g.1 o (inr n)),
  )

  pub goes_branch : (e : Expr) (a b : Code) (k : List Remaining) (v : ℕ → Type 0) (test : Bool) → Goes (Do (Branch e a b) ∷ k) Next v → Goes (push (cond test a b) k) Next v
  goes_branch e a b k v test g = goes_push (cond test a b) k v (into_branch e a b k v test g)

  -- behind a move
  pub goes_whole : (leaf : ℕ) (part : Exprs) (count : ℕ) (e : Expr) (at : Span) (k : List Remaining) (v : ℕ → Type 0) → Goes (Do (Assign (At leaf part true count) e at) ∷ k) Next v → Goes k Next (λ x. v x × (x ≢ leaf))
  goes_whole leaf part count e at k v g = goes_within k Next (λ x. v x × (x ≢ leaf)) (behind c p (Assign (At leaf part true count) e at) Next v) (λ x l i. inr (i.0, (refl, (omega arith, refl, i.1)))) (g.1 Next refl)

  pub goes_part : (leaf : ℕ) (part : Exprs) (count : ℕ) (e : Expr) (at : Span) (k : List Remaining) (v : ℕ → Type 0) → Goes (Do (Assign (At leaf part false count) e at) ∷ k) Next v → Goes k Next v
  goes_part leaf part count e at k v g = goes_within k Next v (behind c p (Assign (At leaf part false count) e at) Next v) (λ x l i. inr (i, (refl, (omega arith, refl)))) (g.1 Next refl)

  pub goes_clear : (leaf : ℕ) (k : List Remaining) (v : ℕ → Type 0) → Goes (Do (Clear leaf) ∷ k) Next v → Goes k Next (λ x. ((x ≡ leaf) × c x) ⊎ (v x × (x ≢ leaf)))
  goes_clear leaf k v g = goes_within k Next (λ x. ((x ≡ leaf) × c x) ⊎ (v x × (x ≢ leaf))) (behind c p (Clear leaf) Next v) fresh (g.1 Next refl)
    where
      fresh : Within p (λ x. ((x ≡ leaf) × c x) ⊎ (v x × (x ≢ leaf))) (behind c p (Clear leaf) Next v)
      fresh x l (inl i) = inl ((refl, inr (refl, i.0)), i.1)
      fresh x l (inr i) = inr (i.0, (refl, inl (omega arith, refl, i.1)))

  -- Loops and exits

  into_round : (a : Code) (v : ℕ → Type 0) → Part (Repeat a) v → Part a v
  into_round a v g = record { reads = λ x l i. g.reads x l (suc zero, inl i); writes = λ x l i. g.writes x l (suc zero, inl i); below = g.below; named = g.named; right = g.right }

  next_round : (a : Code) (v : ℕ → Type 0) → Part (Repeat a) v → (plain_flow p a).can Next → Part (Repeat a) (behind c p a Next v)
  next_round a v g n = record { reads = λ x l i. g.reads x l (suc i.0, inr (n, i.1)); writes = g.writes; below = g.below; named = g.named; right = g.right }

  -- behind a round
  round_goes : (a : Code) (k : List Remaining) (v : ℕ → Type 0) → Goes (Do (Repeat a) ∷ k) Next v → (o : Outcome) → (plain_flow p a).can o → Goes (Again a ∷ k) o (behind c p a o v)
  round_goes a k v g Next n = (
    next_round a v g.0 n,
    λ o m. goes_within k o (behind c p (Repeat a) o (behind c p a Next v)) (behind c p (Repeat a) o v) (again_behind c p a g.0.below o v n) (g.1 o m),
  )
  round_goes a k v g (Leaves zero) n = goes_within k Next (behind c p a (Leaves zero) v) (behind c p (Repeat a) Next v) (leave_behind c p a Next v tt) (g.1 Next (suc zero, inl (tt, n)))
  round_goes a k v g (Leaves (suc i)) n = goes_within k (Leaves i) (behind c p a (Leaves (suc i)) v) (behind c p (Repeat a) (Leaves i) v) (leave_behind c p a (Leaves i) v tt) (g.1 (Leaves i) (suc zero, inl (tt, n)))
  round_goes a k v g Returns n = goes_within k Returns (behind c p a Returns v) (behind c p (Repeat a) Returns v) (leave_behind c p a Returns v tt) (g.1 Returns (suc zero, inl (tt, n)))

  -- a round begins
  pub goes_round : (a : Code) (k : List Remaining) (v : ℕ → Type 0) → Goes (Do (Repeat a) ∷ k) Next v → Goes (push a (Again a ∷ k)) Next v
  goes_round a k v g = goes_push a (Again a ∷ k) v (into_round a v g.0, round_goes a k v g)

  returns_at_end : (k : List Remaining) (v : ℕ → Type 0) → Goes k Returns v → Goes [] Next v
  returns_at_end [] v g = g
  returns_at_end (Do a ∷ k) v g = returns_at_end k v g
  returns_at_end (Again a ∷ k) v g = returns_at_end k v g

  -- what remains behind an outcome
  resumes : (k : List Remaining) (o : Outcome) (v : ℕ → Type 0) → Goes k o v → Goes (resume k o) Next v
  resumes k Next v g = g
  resumes [] (Leaves n) v g = g
  resumes (Do a ∷ k) (Leaves n) v g = resumes k (Leaves n) v g
  resumes (Again a ∷ k) (Leaves zero) v g = g
  resumes (Again a ∷ k) (Leaves (suc n)) v g = resumes k (Leaves n) v g
  resumes k Returns v g = returns_at_end k v g

  pub goes_exit : (o : Outcome) (k : List Remaining) (v : ℕ → Type 0) → Goes (Do (Exit o) ∷ k) Next v → Goes (resume k o) Next v
  goes_exit o k v g = resumes k o v (goes_within k o v (behind c p (Exit o) o v) (λ x l i. inr (i, (refl, (omega arith, refl)))) (g.1 o refl))
