-- Edges in bundles: from states that are the bits of a word, to one state.
use Rattle.std.specs.Prelude.{◌≡◌, ◌<◌, ◌≤◌, ◌+◌, ◌*◌, ◌/◌, ◌%◌, ◌⊎◌, ◌↔◌, ℕ, List, length, get_or, true, slice_get, slice_set, bit_or, Some}
use Rattle.std.specs.Global.{Vec}
use Rattle.std.specs.Int.{bit_at}
use Rattle.std.specs.List.{Contains}
use Rattle.tc_model.specs.States as s
use Rattle.tc_model.specs.Grammars as g
use Rattle.tc_auto.specs.Arrows.{AreWithin}
use Rattle.tc_auto.specs.Stands.{Stands, states, patterns}
use Rattle.tc_auto.specs.declared.arrows.Arrow.{Arrow}
use Rattle.tc_auto.specs.declared.auto.Auto.{Auto}
use Rattle.tc_mat.specs.Matrix.{words_a_row}
use Rattle.tc_beh.specs.Rooms.{flag_at}
use Rattle.tc_beh.specs.declared.bundles.Bundle.{Bundle}
use Rattle.tc_beh.specs.declared.bundles.Bundles.{Bundles}
use Rattle.tc_beh.specs.declared.bundles.Words.{Words}

abbrev pub no_bundle : Bundle
no_bundle = record { word = 0; to = 0; bits = 0 }

abbrev pub bundle_at : List Bundle → ℕ → Bundle
bundle_at bundles k = get_or bundles k no_bundle

-- the bundle at a place is that of a word and a state
abbrev pub IsBundleOf : List Bundle → ℕ → ℕ → ℕ → Type 0
IsBundleOf bundles k word to = (k < length bundles) × ((bundle_at bundles k).word ≡ word) × ((bundle_at bundles k).to ≡ to)

-- one bit more in the bundle at a place
abbrev pub widened : List Bundle → ℕ → ℕ → List Bundle
widened bundles k bit = slice_set bundles k (record (bundle_at bundles k) { bits = bit_or (bundle_at bundles k).bits bit })

-- the edge from a state to a state is one of the bundle
abbrev pub IsIn : ℕ → ℕ → Bundle → Type 0
IsIn i j b = (b.word ≡ i / 64) × (b.to ≡ j) × (bit_at b.bits (i % 64) ≡ 1)

abbrev pub HasEdge : List Bundle → ℕ → ℕ → Type 0
HasEdge bundles i j = (k : ℕ) × (k < length bundles) × IsIn i j (bundle_at bundles k)

-- one edge more
abbrev pub GainsEdge : List Bundle → Arrow → List Bundle → Type 0
GainsEdge old a new = (i j : ℕ) → HasEdge new i j ↔ (HasEdge old i j ⊎ ((i ≡ a.from) × (j ≡ a.to)))

-- exactly these edges
abbrev pub AreOf : List Arrow → List Bundle → Type 0
AreOf arrows bundles = (i j : ℕ) → HasEdge bundles i j ↔ Contains arrows (record { from = i; to = j })

-- between so many states
abbrev pub AreLow : ℕ → List Bundle → Type 0
AreLow count bundles = (k : ℕ) → k < length bundles → ((bundle_at bundles k).word < words_a_row count) × ((bundle_at bundles k).to < count)

-- the edges of an automaton that take a leaf
pub record AreBundled (a : Auto) (taken : s.Leaf) (bundles : List Bundle) : Type 0 where
  pub low : AreLow (states a) bundles
  pub from : (i j : ℕ) → HasEdge bundles i j → i < states a
  pub exact : (side : s.Side) (x : g.Grammar) → Stands side x a → (i j : ℕ) → HasEdge bundles i j ↔ s.IsEdge x side i taken j

-- the same one by one and in bundles
pub record AreEdges (a : Auto) (taken : s.Leaf) (arrows : List Arrow) (bundles : List Bundle) : Type 0 where
  pub within : AreWithin (states a) arrows
  pub exact : (side : s.Side) (x : g.Grammar) → Stands side x a → (e : Arrow) → Contains arrows e ↔ s.IsEdge x side e.from taken e.to
  pub bundled : AreBundled a taken bundles

-- flags as the bits of a word, and of all words
abbrev pub IsWordOf : List ℕ → ℕ → ℕ → Type 0
IsWordOf flags word bits = (p : ℕ) → p < 64 → (bit_at bits p ≡ 1) ↔ (get_or flags (64 * word + p) 0 ≡ 1)

abbrev pub AreWordsOf : List ℕ → List ℕ → Type 0
AreWordsOf flags words = (k : ℕ) → k < length words → IsWordOf flags k (get_or words k 0)

-- words whose flags are known are made of them
abbrev pub IsCurrent : Words → Type 0
IsCurrent w = w.is_known ≡ true → AreWordsOf w.of.items w.bits.items

-- all edges of an automaton, and a word for each 64 of its states
pub record AreStepsOf (a : Auto) (b : Bundles) : Type 0 where
  pub text : AreBundled a s.text_leaf b.text.items
  pub count : length b.patterns.items ≡ patterns a
  pub patterns : (k : ℕ) (v : Vec Bundle) → slice_get b.patterns.items k ≡ Some v → AreBundled a (s.ref_leaf (k + 1)) v.items
  pub words : length b.words.bits.items ≡ words_a_row (states a)
  pub current : IsCurrent b.words

-- a bit is set in both words
abbrev pub HaveCommon : ℕ → ℕ → Type 0
HaveCommon first second = (p : ℕ) × (p < 64) × (bit_at first p ≡ 1) × (bit_at second p ≡ 1)

-- an edge of the bundle leads from a state whose bit is set
abbrev pub Meet : Bundle → List ℕ → Type 0
Meet b words = HaveCommon (get_or words b.word 0) b.bits

abbrev pub LeadsBy : List Bundle → List ℕ → ℕ → Type 0
LeadsBy bundles words j = (k : ℕ) × (k < length bundles) × ((bundle_at bundles k).to ≡ j) × Meet (bundle_at bundles k) words

-- an edge leads there from a state with a flag
abbrev pub no_arrow : Arrow
no_arrow = record { from = 0; to = 0 }

abbrev pub arrow_at : List Arrow → ℕ → Arrow
arrow_at arrows k = get_or arrows k no_arrow

abbrev pub LeadsAlong : List Arrow → List ℕ → ℕ → Type 0
LeadsAlong arrows hedge j = (k : ℕ) × (k < length arrows) × ((arrow_at arrows k).to ≡ j) × (get_or hedge (arrow_at arrows k).from 0 ≡ 1)

-- the flags of these states are set, and none else is changed
pub record PutsBy (Leads : ℕ → Type 0) (old new : List ℕ) : Type 0 where
  pub each : (j : ℕ) → (flag_at new j ≡ 1) ⊎ (flag_at new j ≡ flag_at old j)
  pub exact : (j : ℕ) → (flag_at new j ≡ 1) ↔ ((flag_at old j ≡ 1) ⊎ Leads j)

-- edges that take a leaf lead there from a state with a flag
abbrev pub IsAfter : s.Side → g.Grammar → Auto → List ℕ → s.Leaf → ℕ → Type 0
IsAfter side x a hedge taken j = (i : ℕ) × (i < states a) × (get_or hedge i 0 ≡ 1) × s.IsEdge x side i taken j

-- the flags of the states to which such edges lead are set, and none else is changed
pub record PutsAfter (a : Auto) (hedge : List ℕ) (taken : s.Leaf) (old new : List ℕ) : Type 0 where
  pub each : (j : ℕ) → (flag_at new j ≡ 1) ⊎ (flag_at new j ≡ flag_at old j)
  pub exact : (side : s.Side) (x : g.Grammar) → Stands side x a → (j : ℕ) → (flag_at new j ≡ 1) ↔ ((flag_at old j ≡ 1) ⊎ IsAfter side x a hedge taken j)
