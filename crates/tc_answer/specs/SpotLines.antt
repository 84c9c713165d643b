-- What is told of the rules, named bodies and branches of a stylesheet, and the lines that tell it.
use Rattle.std.specs.Prelude.{ℕ, Bool, true, false, List, ◌++◌, length, count_by, flat_map, codes, decimal}
use Rattle.tc_answer.specs.Lines.{line}
use Rattle.tc_dead.specs.Spots.{Spot, a_rule, a_named_body, a_branch}
use Rattle.tc_model.specs.Printed.{printed}
use Rattle.tc_model.specs.Trees.{Trees}

pub data Use : Type 0 where
  -- no valid document instantiates it
  unused : Use
  -- this valid document does
  used : (document : Trees) → Use
  -- some valid documents do, and all of these are too large to be shown
  used_large : Use

-- a rule, a named body or a branch, and what is told of it
pub record SpotUse : Type 0 where
  pub spot : Spot
  pub found : Use

abbrev pub spot_text : Spot → List ℕ
spot_text (a_rule number) = codes "rule " ++ decimal number
spot_text (a_named_body number) = codes "named " ++ decimal number
spot_text (a_branch number) = codes "branch " ++ decimal number

abbrev pub use_text : Use → List ℕ
use_text unused = codes " dead"
use_text (used document) = codes " used " ++ printed document
use_text used_large = codes " used document-too-large"

abbrev pub spot_line : SpotUse → List ℕ
spot_line u = line (spot_text u.spot ++ use_text u.found)

abbrev pub is_unused : Use → Bool
is_unused unused = true
is_unused (used document) = false
is_unused used_large = false

-- how many are dead
abbrev pub dead_count : List SpotUse → ℕ
dead_count told = count_by (λ u. is_unused u.found) told

abbrev pub places_line : ℕ → ℕ → List ℕ
places_line places dead = line (codes "places " ++ decimal places ++ codes " dead " ++ decimal dead)

-- a line for each, in order, and then how many there are, and how many of them are dead
abbrev pub spots_lines : List SpotUse → List ℕ
spots_lines told = flat_map spot_line told ++ places_line (length told) (dead_count told)
