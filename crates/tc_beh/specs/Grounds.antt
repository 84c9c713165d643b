-- Where the sets of named bodies are worked out, and those sets beside a place.
use Rattle.std.specs.Prelude.{◌≡◌, ◌<◌, ℕ, List, [], length, get_or, All, true}
use Rattle.tc_mat.specs.Matrix.{Matrix}
use Rattle.tc_model.specs.States.{output}
use Rattle.tc_model.specs.Symbols.{symbol_count}
use Rattle.tc_hedge.specs.Stands as h
use Rattle.tc_rules.specs.Kept.{told}
use Rattle.tc_rows.specs.Triples.{Triple, outputs, ancestors, entries}
use Rattle.tc_rows.specs.PairSets.{PairSet, HaveSamePairs}
use Rattle.tc_rows.specs.Bodies.{on_element, on_text, text_edges}
use Rattle.tc_beh.specs.Stands.{IsRulesIn}
use Rattle.tc_beh.specs.Putting.{has}
use Rattle.tc_beh.specs.Places.{kind_of, no_matrix, size_at}
use Rattle.tc_beh.specs.declared.bodies.Place.{Place}

-- its parts, but for the sets of named bodies, are those of a triple
pub record IsGroundIn (x : Triple) (p : Place) : Type 0 where
  pub rules : IsRulesIn x p.rules.now
  pub hedge : h.Stands output x.output x.symbols p.output.now
  pub symbols : p.alphabet.now ≡ x.symbols
  pub size : size_at p ≡ outputs x
  pub text : HaveSamePairs (has p.text.now) (text_edges x)
  pub held : p.outputs.now.size ≡ outputs x
  pub sizes : All (λ m. m.size ≡ outputs x) p.outputs.now.matrices
  pub outs : All (λ k. k < length p.outputs.now.matrices) p.entries.now
  pub symbol : (a : ℕ) → kind_of p.node ≡ on_element a → a < symbol_count x.symbols
  pub nothing : kind_of p.node ≡ on_text → p.looks.now ≡ []
  pub bears : kind_of p.node ≡ on_text → p.bears ≡ true
  pub count : (kind_of p.node ≡ on_text → ⊥) → length p.entries.now ≡ entries x
  pub above : p.above < ancestors x

abbrev pub IsGround : Place → Type 0
IsGround p = (x : Triple) × IsGroundIn x p

-- one for each named body, of the size of the place's
pub record AreNamedSets (p : Place) (sets : List Matrix) : Type 0 where
  pub count : length sets ≡ length (told p.rules.now).sheet.named
  pub sizes : All (λ m. m.size ≡ size_at p) sets

abbrev pub called_from : List Matrix → ℕ → PairSet
called_from sets n = has (get_or sets n no_matrix)
