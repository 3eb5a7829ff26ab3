-- The names of a body by numbers: what a flow of numbers says of leaves. A leaf without a number is not touched.
use Rattle.std.specs.Prelude.{◌≡◌, ℕ, ◌+◌, ◌<◌, ◌≤◌, ◌^◌, ◌⊎◌, Bool, List, IsSomeAnd, length, slice_index_or}
use Rattle.spark_base.specs.declared.numbers.BodyNo.{BodyNo}
use Rattle.spark_base.specs.declared.numbers.LeafNo.{LeafNo}
use Rattle.core_form.specs.declared.program.Home.{Home}
use Rattle.core_form.specs.declared.program.Program.{Program}
use Rattle.core_form.specs.Code.{Actuals, Code}
use Rattle.core_form.specs.Fine.{home_of}
use Rattle.flow_bits.specs.Sets.{Has}
use Rattle.flow_relations.specs.declared.frame.Frame.{Frame}
use Rattle.flow_relations.specs.declared.frame.Framing.{Framing}
use Rattle.flow_relations.specs.declared.frame.Places.{Places}
use Rattle.flow_relations.specs.Equation.{clock_among, code_of_body, names_of}
use Rattle.flow_facts.specs.Flow.{Flow, flow}
use Rattle.flow_relations.specs.Renamed.{renamed_code}

-- numbers 0 to n - 1 have names below `void`, and n is "not assigned"
module _ (name : ℕ → ℕ) (n void : ℕ) where
  -- some number of this name is in the set
  abbrev pub Spreads : (ℕ → Type 0) → ℕ → Type 0
  Spreads S v = (i : ℕ) × ((i ≤ n) × (name i ≡ v) × S i)

  -- some numbers of these names are related
  abbrev pub SpreadsPairs : (ℕ → ℕ → Type 0) → ℕ → ℕ → Type 0
  SpreadsPairs R v w = (i : ℕ) × ((j : ℕ) × ((i ≤ n) × (j ≤ n) × (name i ≡ v) × (name j ≡ w) × R i j))

  -- a leaf that has no number
  pub record IsOutside (v : ℕ) : Type 0 where
    pub leaf : v < void
    pub unnamed : (i : ℕ) → i ≤ n → name i ≡ v → ⊥

  -- and where this is so, a leaf without a number with itself
  abbrev pub SpreadsAll : (ℕ → ℕ → Type 0) → Type 0 → ℕ → ℕ → Type 0
  SpreadsAll R can v w = SpreadsPairs R v w ⊎ (IsOutside v × can × (v ≡ w))

  -- a flow of numbers as one of names: a leaf without a number is not read, not written and kept, and depends on itself
  -- at each outcome that is reached
  abbrev pub spread : Flow → Flow
  spread f = record {
    reads = Spreads f.reads;
    writes = Spreads f.writes;
    decides = Spreads f.decides;
    can = f.can;
    kept = λ o. SpreadsAll (f.kept o) (f.can o);
    dep = λ o. SpreadsAll (f.dep o) (f.can o);
  }

-- Frames

-- the leaf at a place; behind the last, this one
abbrev pub leaf_at : List LeafNo → ℕ → ℕ → ℕ
leaf_at leaves i d = (slice_index_or leaves i (record { 0 = d })).0

-- so many leaves are numbered: those of a set by their own places, in their order, and others by that of the first
pub record AreNumbered (inside : List Bool) (leaf : ℕ) (leaves : List LeafNo) (numbers : List ℕ) : Type 0 where
  pub count : length numbers ≡ leaf
  pub few : length leaves ≤ leaf
  pub first : 0 < leaf → 0 < length leaves
  pub increasing : (i j d : ℕ) → i < j → j < length leaves → leaf_at leaves i d < leaf_at leaves j d
  pub below : (i d : ℕ) → i < length leaves → leaf_at leaves i d < leaf
  pub number : (i d e : ℕ) → i < length leaves → slice_index_or numbers (leaf_at leaves i d) e ≡ i
  pub place : (v e : ℕ) → v < leaf → slice_index_or numbers v e < length leaves
  pub named : (v d e : ℕ) → v < leaf → Has inside v → leaf_at leaves (slice_index_or numbers v e) d ≡ v

-- the leaf of a number; behind the last stands "not assigned"
abbrev pub name_at : Frame → ℕ → ℕ
name_at frame i = leaf_at frame.leaves.items i frame.void

abbrev pub frame_size : Frame → ℕ
frame_size frame = length frame.leaves.items

-- each leaf has one number, and the numbers go as the leaves
pub record IsFrame (frame : Frame) : Type 0 where
  pub increasing : (i j : ℕ) → i < j → j ≤ frame_size frame → name_at frame i < name_at frame j
  pub room : frame.void + 1 < 2 ^ 32

-- a flow of a frame's numbers as one of leaves
abbrev pub spread_of : Frame → Flow → Flow
spread_of frame f = spread (name_at frame) (frame_size frame) frame.void f

-- the leaves of numbers that are related
abbrev pub Numbered : Frame → (ℕ → ℕ → Type 0) → ℕ → ℕ → Type 0
Numbered frame R = SpreadsPairs (name_at frame) (frame_size frame) frame.void R

-- and, where this is so, each leaf without a number with itself
abbrev pub AlsoOutside : Frame → (ℕ → ℕ → Type 0) → Type 0 → ℕ → ℕ → Type 0
AlsoOutside frame R can = SpreadsAll (name_at frame) (frame_size frame) frame.void R can

-- the number of a leaf; a leaf behind the last is its own
abbrev pub place_at : Places → ℕ → ℕ
place_at places v = slice_index_or places.numbers.items v v

-- the numbers of so many leaves are below "not assigned"
pub record AreBelow (leaves : ℕ) (places : Places) : Type 0 where
  pub numbers : (v : ℕ) → v < leaves → place_at places v < places.void
  pub room : places.void + 1 < 2 ^ 32

-- the numbers are those of the frame's leaves
pub record IsFramed (frame : Frame) (places : Places) : Type 0 where
  pub count : frame_size frame ≡ places.void
  pub back : (i : ℕ) → i ≤ places.void → place_at places (name_at frame i) ≡ i

-- the leaf has a number of its own
pub record IsInside (name place : ℕ → ℕ) (n v : ℕ) : Type 0 where
  pub number : place v < n
  pub leaf : name (place v) ≡ v

-- a frame that has these of so many leaves, and its numbers
pub record IsFraming (leaves : ℕ) (S : ℕ → Type 0) (r : Framing) : Type 0 where
  pub void : r.frame.void ≡ leaves
  pub frame : IsFrame r.frame
  pub framed : IsFramed r.frame r.places
  pub below : AreBelow leaves r.places
  pub inside : (v : ℕ) → S v → IsInside (name_at r.frame) (place_at r.places) r.places.void v

-- the flow of code by the numbers of its leaves, with what is known of calls
abbrev pub framed : Program → (BodyNo → Actuals → Flow) → Places → Code → Flow
framed p call places code = flow places.void (place_at places (clock_among p.vars)) call (renamed_code (place_at places) code)

-- The frame of a body

-- a local, a formal, the result or a spare of this body
abbrev pub IsOwn : ℕ → Home → Type 0
IsOwn b (Home.Package k) = ⊥
IsOwn b (Home.Local c) = c.0 ≡ b
IsOwn b (Home.Formal c) = c.0 ≡ b
IsOwn b (Home.Outcome c) = c.0 ≡ b
IsOwn b (Home.Spare c) = c.0 ≡ b
IsOwn b Home.Clock = ⊥

-- a leaf that the body's code names, or one of its own
abbrev pub IsFrameLeaf : Program → ℕ → ℕ → Type 0
IsFrameLeaf p b v = names_of (clock_among p.vars) (code_of_body p b) v ⊎ IsSomeAnd (home_of p v) (IsOwn b)

abbrev pub IsFramingOf : Program → ℕ → Framing → Type 0
IsFramingOf p b r = IsFraming (length p.leaves) (IsFrameLeaf p b) r
