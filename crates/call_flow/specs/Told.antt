-- What is known of a callee, as it is told by places in a list of names.
use Rattle.std.specs.Prelude.{◌≡◌, ℕ, ◌<◌, All, IsTrue, List, length, slice_index_or}
use Rattle.flow_bits.specs.Sets.{Has, Relates}
use Rattle.flow_facts.specs.Flow.{Summary}
use Rattle.call_flow.specs.declared.known.Known.{Known}

-- the name at a place
abbrev pub name_in : List ℕ → ℕ → ℕ
name_in names i = slice_index_or names i 0

-- the summary of places
abbrev pub known_told : Known → Summary
known_told k = record {
  leaves = λ i. i < length k.names.items;
  returns = IsTrue k.returns;
  reads = Has k.reads;
  writes = Has k.writes;
  keeps = Has k.keeps;
  depends = Relates k.depends;
}

-- its sets are of as many places as there are names, and each name is below this one
pub record IsKnown (big : ℕ) (k : Known) : Type 0 where
  pub names : All (λ x. x < big) k.names.items
  pub reads : length k.reads ≡ length k.names.items
  pub writes : length k.writes ≡ length k.names.items
  pub keeps : length k.keeps ≡ length k.names.items
  pub depends : length k.depends ≡ length k.names.items
