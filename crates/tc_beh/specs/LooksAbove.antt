-- What a state of a look finds from above a node.
use Rattle.std.specs.Prelude.{ℕ, List, Bool, cond}
use Rattle.tc_model.specs.Letters.{Letter, Kind, of_symbol, of_text}
use Rattle.tc_rules.specs.States.{Looking}
use Rattle.tc_rows.specs.Triples.{Triple, looking}
use Rattle.tc_rows.specs.Rows.{hit_value}
use Rattle.tc_rows.specs.Arithmetic.{look_from, step, hits}

-- below the node: what its looks tell, and nothing below a text
abbrev pub found_below : Triple → List ℕ → Letter → Looking → Kind → ℕ
found_below x vs l s (of_symbol a) = look_from x vs (looking s.path (step x s.path s.state l))
found_below x vs l s of_text = 0

-- the node, or else what is below it
abbrev pub found_above : Triple → Bool → List ℕ → Letter → Looking → ℕ
found_above x bears vs l s = cond (hits x s.path s.state l) (hit_value bears) (found_below x vs l s l.kind)
