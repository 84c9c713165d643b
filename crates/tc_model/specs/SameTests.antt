-- When two paths, two tests and two node tests are the same, as truth values.
use Rattle.std.specs.Prelude.{Bool, true, false, ◌&&◌, not, bytes_eq}
use Rattle.tc_model.specs.Names.{same_name}
use Rattle.tc_model.specs.Sheets.{NodeTest, of_name, of_namespace, any_element, any_text, any_node, Steps, no_step, step, Path, no_alternative, alternative, Test, always, never, has, negated, all_of, any_of, Tests, no_test, test}

abbrev pub same_truth : Bool → Bool → Bool
same_truth true b = b
same_truth false b = not b

abbrev pub same_node_test : NodeTest → NodeTest → Bool
same_node_test (of_name n) (of_name m) = same_name n m
same_node_test (of_namespace u) (of_namespace v) = bytes_eq u v
same_node_test any_element any_element = true
same_node_test any_text any_text = true
same_node_test any_node any_node = true
same_node_test t u = false

abbrev mutual
  pub same_steps : Steps → Steps → Bool
  same_steps no_step no_step = true
  same_steps (step d t when ss) (step e u other us) = same_truth d e && (same_node_test t u && (same_test when other && same_steps ss us))
  same_steps ss us = false

  pub same_path : Path → Path → Bool
  same_path no_alternative no_alternative = true
  same_path (alternative ss p) (alternative us q) = same_steps ss us && same_path p q
  same_path p q = false

  pub same_test : Test → Test → Bool
  same_test always always = true
  same_test never never = true
  same_test (has p) (has q) = same_path p q
  same_test (negated t) (negated u) = same_test t u
  same_test (all_of ts) (all_of us) = same_tests ts us
  same_test (any_of ts) (any_of us) = same_tests ts us
  same_test t u = false

  pub same_tests : Tests → Tests → Bool
  same_tests no_test no_test = true
  same_tests (test t ts) (test u us) = same_test t u && same_tests ts us
  same_tests ts us = false
