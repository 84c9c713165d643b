-- What is known of a node whose body is instantiated, and what its parts stand for.
use Rattle.std.specs.Prelude.{◌≡◌, ◌<◌, ◌/◌, ◌%◌, ◌==◌, ℕ, List, [], length, map, filter, flat_map, get_or, Bool, true, All}
use Rattle.tc_model.specs.Numbered.{numbers_below}
use Rattle.tc_model.specs.States.{output}
use Rattle.tc_model.specs.Symbols.{symbol_count}
use Rattle.tc_mat.specs.Matrix.{Matrix, bit_of}
use Rattle.tc_hedge.specs.Stands as h
use Rattle.tc_rows.specs.Triples.{Triple, sheet, outputs, ancestors, entries}
use Rattle.tc_rows.specs.PairSets.{PairSet, HaveSamePairs}
use Rattle.tc_rows.specs.Bodies.{NodeKind, on_root, on_element, on_text, Below, text_edges}
use Rattle.tc_rows.specs.Arithmetic.{below, nothing_below}
use Rattle.tc_beh.specs.Stands.{IsRulesIn}
use Rattle.tc_beh.specs.Putting.{has}
use Rattle.tc_beh.specs.declared.bodies.At.{At}
use Rattle.tc_beh.specs.declared.bodies.At.TheVariants as at
use Rattle.tc_beh.specs.declared.bodies.Place.{Place}

abbrev pub kind_of : At → NodeKind
kind_of at.Root = on_root
kind_of (at.Elem a) = on_element a.0
kind_of at.Text = on_text

-- all pairs of numbers below one, by the first and then by the second
abbrev pub all_pairs : ℕ → List (ℕ × ℕ)
all_pairs n = flat_map (λ i. map (λ j. (i, j)) (numbers_below n)) (numbers_below n)

abbrev pub is_pair : Matrix → ℕ × ℕ → Bool
is_pair m p = bit_of m p.0 (p.1 / 64) (p.1 % 64) == 1

-- the pairs of a matrix in order
unfoldable pub pairs_of : Matrix → List (ℕ × ℕ)
pairs_of m = filter (is_pair m) (all_pairs m.size)

abbrev pub no_matrix : Matrix
no_matrix = record { size = 0; words = [] }

-- the sets of pairs of these numbers
abbrev pub entries_by : List Matrix → List ℕ → List (List (ℕ × ℕ))
entries_by held numbers = map (λ k. pairs_of (get_or held k no_matrix)) numbers

-- what stands below a node: nothing below a text
abbrev pub below_at : Triple → NodeKind → Bool → List (List (ℕ × ℕ)) → List ℕ → ℕ → Below
below_at x on_root b es vs q = below x b es vs q
below_at x (on_element a) b es vs q = below x b es vs q
below_at x on_text b es vs q = nothing_below x

abbrev pub below_of : Triple → Place → Below
below_of x p = below_at x (kind_of p.node) p.bears (entries_by p.outputs.now.matrices p.entries.now) p.looks.now p.above

abbrev pub called_by : Place → ℕ → PairSet
called_by p n = has (get_or p.named.now n no_matrix)

abbrev pub size_at : Place → ℕ
size_at p = p.text.now.size

-- its parts are those of a triple
pub record IsPlaceIn (x : Triple) (p : Place) : Type 0 where
  pub rules : IsRulesIn x p.rules.now
  pub hedge : h.Stands output x.output x.symbols p.output.now
  pub symbols : p.alphabet.now ≡ x.symbols
  pub size : size_at p ≡ outputs x
  pub text : HaveSamePairs (has p.text.now) (text_edges x)
  pub held : p.outputs.now.size ≡ outputs x
  pub sizes : All (λ m. m.size ≡ outputs x) p.outputs.now.matrices
  pub named_count : length p.named.now ≡ length (sheet x).named
  pub named : All (λ m. m.size ≡ outputs x) p.named.now
  pub outs : All (λ k. k < length p.outputs.now.matrices) p.entries.now
  pub symbol : (a : ℕ) → kind_of p.node ≡ on_element a → a < symbol_count x.symbols
  pub nothing : kind_of p.node ≡ on_text → p.looks.now ≡ []
  pub bears : kind_of p.node ≡ on_text → p.bears ≡ true
  pub count : (kind_of p.node ≡ on_text → ⊥) → length p.entries.now ≡ entries x
  pub above : p.above < ancestors x

abbrev pub IsPlace : Place → Type 0
IsPlace p = (x : Triple) × IsPlaceIn x p
