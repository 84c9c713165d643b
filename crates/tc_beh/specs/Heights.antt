-- How many instructions of a body stand within one another, where the heights of the named bodies that it calls are given; at most one more than 8,000.
use Rattle.std.specs.Prelude.{ℕ, ◌+◌, max, min, List, [], ◌∷◌, get_or, slice_set}
use Rattle.tc_base.specs.declared.limits.TheConstants.{DEEPEST_CALLS}
use Rattle.tc_model.specs.Sheets.{Body, no_instruction, put_text, put_element, copy, apply, call, for_each, value, value_of_self, choose, Branches, otherwise, branch, Rule}

-- one more, but for too many
abbrev pub one_more : ℕ → ℕ
one_more n = min (n + 1) (DEEPEST_CALLS + 1)

module _ (heights : List ℕ) where
  abbrev mutual
    pub height_in : Body → ℕ
    height_in no_instruction = 0
    height_in (put_text x b) = max 1 (height_in b)
    height_in (put_element n inner b) = max (one_more (height_in inner)) (height_in b)
    height_in (copy inner b) = max (one_more (height_in inner)) (height_in b)
    height_in (apply p m b) = max 1 (height_in b)
    height_in (call n b) = max (one_more (get_or heights n 0)) (height_in b)
    height_in (value p b) = max 1 (height_in b)
    height_in (value_of_self b) = max 1 (height_in b)
    height_in (choose x b) = max (one_more (height_in_branches x)) (height_in b)
    height_in (for_each e p inner b) = max (one_more (height_in inner)) (height_in b)

    pub height_in_branches : Branches → ℕ
    height_in_branches (otherwise b) = height_in b
    height_in_branches (branch t b x) = max (height_in b) (height_in_branches x)

  abbrev pub highest_rule : List Rule → ℕ
  highest_rule [] = 0
  highest_rule (r ∷ rules) = max (height_in r.body) (highest_rule rules)

-- those of the named bodies, one after the other in an order
abbrev pub heights_in : List Body → List ℕ → List ℕ → List ℕ
heights_in named heights [] = heights
heights_in named heights (n ∷ order) = heights_in named (slice_set heights n (height_in heights (get_or named n no_instruction))) order

abbrev pub highest : List ℕ → ℕ
highest [] = 0
highest (h ∷ heights) = max h (highest heights)

-- how many elements and copies stand within one another in the text of a body; at most one more than 8,000
abbrev mutual
  pub depth_in : Body → ℕ
  depth_in no_instruction = 0
  depth_in (put_text x b) = depth_in b
  depth_in (put_element n inner b) = max (one_more (depth_in inner)) (depth_in b)
  depth_in (copy inner b) = max (one_more (depth_in inner)) (depth_in b)
  depth_in (apply p m b) = depth_in b
  depth_in (call n b) = depth_in b
  depth_in (value p b) = depth_in b
  depth_in (value_of_self b) = depth_in b
  depth_in (choose x b) = max (depth_in_branches x) (depth_in b)
  depth_in (for_each e p inner b) = max (depth_in inner) (depth_in b)

  pub depth_in_branches : Branches → ℕ
  depth_in_branches (otherwise b) = depth_in b
  depth_in_branches (branch t b x) = max (depth_in b) (depth_in_branches x)

abbrev pub deepest_rule : List Rule → ℕ
deepest_rule [] = 0
deepest_rule (r ∷ rules) = max (depth_in r.body) (deepest_rule rules)

abbrev pub deepest : List Body → ℕ
deepest [] = 0
deepest (b ∷ bodies) = max (depth_in b) (deepest bodies)
