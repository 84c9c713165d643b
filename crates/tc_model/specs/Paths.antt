-- What paths select, when tests hold, and which nodes a match pattern fits (XPath 1.0, 2; XSLT 1.0, 5.2).
use Rattle.std.specs.Prelude.{List, [], ◌∷◌, Bool, true, false, ◌&&◌, ◌||◌, not, bytes_eq, is_some}
use Rattle.tc_model.specs.Names.{same_name}
use Rattle.tc_model.specs.Chains.{Tree, an_element, a_text, Chain, under, root_of, down, nodes_where, first_node}
use Rattle.tc_model.specs.Sheets.{NodeTest, of_name, of_namespace, any_element, any_text, any_node, Steps, no_step, step, Path, no_alternative, alternative, Test, always, never, has, negated, all_of, any_of, Tests, no_test, test, MatchPattern, root_pattern, steps_pattern}

-- a tree passes a node test (XPath, 2.3)
abbrev pub passes : NodeTest → Tree → Bool
passes (of_name n) (an_element m kids) = same_name n m
passes (of_namespace uri) (an_element m kids) = bytes_eq uri m.uri
passes any_element (an_element m kids) = true
passes any_text (a_text s) = true
passes any_node t = true
passes _ _ = false

-- no tree is left
abbrev pub is_end : List Tree → Bool
is_end [] = true
is_end (t ∷ ts) = false

-- from a node along trees: a first step, that fits where `fit` says, and then the next ones; trees may be passed over first where the step is deep
abbrev pub stride : Bool → (Tree → Chain → Bool) → (Chain → List Tree → Bool) → Chain → List Tree → Bool
stride deep fit next c [] = false
stride deep fit next c (t ∷ ts) = (fit t (under c t) && next (under c t) ts) || (deep && stride deep fit next (under c t) ts)

abbrev mutual
  -- the steps lead from the node along all the trees
  pub along : Steps → Chain → List Tree → Bool
  along no_step c ts = is_end ts
  along (step deep t when ss) c ts = stride deep (λ tree d. passes t tree && holds when d) (λ d us. along ss d us) c ts

  -- some alternative does
  pub any_along : Path → Chain → List Tree → Bool
  any_along no_alternative c ts = false
  any_along (alternative ss p) c ts = along ss c ts || any_along p c ts

  -- a test or a predicate holds on a node (XPath, 2.4, 3.4, 4.3)
  pub holds : Test → Chain → Bool
  holds always c = true
  holds never c = false
  holds (has p) c = is_some (first_node (nodes_where (λ d. any_along p c d) c))
  holds (negated t) c = not (holds t c)
  holds (all_of ts) c = all_hold ts c
  holds (any_of ts) c = some_holds ts c

  pub all_hold : Tests → Chain → Bool
  all_hold no_test c = true
  all_hold (test t ts) c = holds t c && all_hold ts c

  pub some_holds : Tests → Chain → Bool
  some_holds no_test c = false
  some_holds (test t ts) c = holds t c || some_holds ts c

-- the nodes below a node that a path selects, each once, in document order (XPath, 2)
abbrev pub selected : Path → Chain → List Chain
selected p c = nodes_where (λ d. any_along p c d) c

-- a match pattern fits a node: `/` the root alone, steps where they lead there from the root
abbrev pub fits : MatchPattern → Chain → Bool
fits root_pattern c = is_end (down c)
fits (steps_pattern ss) c = along ss (root_of c) (down c)
