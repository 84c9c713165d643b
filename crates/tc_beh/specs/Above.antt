-- What is put out on a node and below it, from a state of a move above the node.
use Rattle.std.specs.Prelude.{ℕ, List, Bool}
use Rattle.tc_model.specs.Letters as letters
use Rattle.tc_model.specs.Letters.{Kind, of_symbol, of_text}
use Rattle.tc_rules.specs.Asked as asked
use Rattle.tc_rules.specs.States.{Going}
use Rattle.tc_rows.specs.Triples.{Triple, moving}
use Rattle.tc_rows.specs.PairSets.{PairSet, product}
use Rattle.tc_rows.specs.Bodies.{NodeKind, on_element, on_text}
use Rattle.tc_rows.specs.Arithmetic.{below, nothing_below, hit_pairs, pairs_from, step}
use Rattle.tc_beh.specs.declared.above.Letter.{Letter}

-- a letter, and the node that has one
abbrev pub letter_of : Letter → letters.Letter
letter_of l = asked.letter l.kind l.marks

abbrev pub node_of : Kind → NodeKind
node_of (of_symbol a) = on_element a
node_of of_text = on_text

module _ (x : Triple) (bears : Bool) (es : List (List (ℕ × ℕ))) (vs : List ℕ) (q under mode : ℕ) (g : Going) (marks : ℕ) where
  -- what a state above puts out on a node, where `q` is the ancestor state above it and `under` that for what stands below, and then below it
  abbrev pub pairs_at : Kind → PairSet
  pairs_at (of_symbol a) =
      let l : letters.Letter = record { kind = of_symbol a; marks = marks } in
      product (hit_pairs x g q l (on_element a) (below x bears es vs under)) (pairs_from x es under (moving mode g.path (step x g.path g.state l)))
  pairs_at of_text = let l : letters.Letter = record { kind = of_text; marks = marks } in hit_pairs x g q l on_text (nothing_below x)
