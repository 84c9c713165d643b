-- Numbers that equal moves share (FNV-1a), and by which they are found among many. The predicates by whose numbers those of steps are told are given.
use Rattle.std.specs.Prelude.{ℕ, ◌*◌, ◌-◌, ◌%◌, ◌^◌, List, [], ◌∷◌, Bool, length, drop, bit_xor, if◌then◌else◌}
use Rattle.tc_model.specs.Numbered.{number_of}
use Rattle.tc_model.specs.Numberings.{Move}
use Rattle.tc_model.specs.SameTests.{same_test}
use Rattle.tc_model.specs.Sheets.{NodeTest, of_name, of_namespace, any_element, any_text, any_node, Steps, no_step, step, Path, no_alternative, alternative, Test}

abbrev pub mixed : ℕ → ℕ → ℕ
mixed hash n = (bit_xor hash n * 1099511628211) % 2 ^ 64

abbrev pub mixed_bytes : ℕ → List ℕ → ℕ
mixed_bytes hash [] = hash
mixed_bytes hash (b ∷ bs) = mixed_bytes (mixed hash b) bs

-- the last 64 bytes
abbrev pub ending : List ℕ → List ℕ
ending bytes = drop (length bytes - 64) bytes

abbrev pub mixed_name : ℕ → List ℕ → List ℕ → ℕ
mixed_name hash uri local = mixed_bytes (mixed_bytes (mixed hash 1) (ending uri)) local

abbrev pub mixed_node_test : ℕ → NodeTest → ℕ
mixed_node_test hash (of_name n) = mixed_name hash n.uri n.local
mixed_node_test hash (of_namespace uri) = mixed_bytes (mixed hash 2) (ending uri)
mixed_node_test hash any_element = mixed hash 3
mixed_node_test hash any_text = mixed hash 4
mixed_node_test hash any_node = mixed hash 5

module _ (predicates : List Test) where
  abbrev pub mixed_step : ℕ → Bool → NodeTest → Test → ℕ
  mixed_step hash deep t when = mixed (mixed_node_test (mixed hash (if deep then 1 else 0)) t) (number_of same_test when predicates)

  abbrev pub mixed_steps : ℕ → Steps → ℕ
  mixed_steps hash no_step = hash
  mixed_steps hash (step deep t when ss) = mixed_steps (mixed_step hash deep t when) ss

  abbrev pub mixed_path : ℕ → Path → ℕ
  mixed_path hash no_alternative = hash
  mixed_path hash (alternative ss p) = mixed_path (mixed_steps (mixed hash 6) ss) p

  abbrev pub mixed_move : Move → ℕ
  mixed_move m = mixed_path (mixed 14695981039346656037 m.mode) m.path
