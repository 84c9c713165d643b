-- The for-each instructions of a body, each with its number: all of them but their paths.
use Rattle.std.specs.Prelude.{ℕ, List, [], ◌∷◌, ◌++◌, flat_map}
use Rattle.tc_model.specs.Sheets.{Body, no_instruction, put_text, put_element, copy, apply, call, for_each, value, value_of_self, choose, Branches, otherwise, branch, Sheet}

pub record Each : Type 0 where
  pub number : ℕ
  pub body : Body

abbrev mutual
  pub bodies_in : Body → List Each
  bodies_in no_instruction = []
  bodies_in (put_text x b) = bodies_in b
  bodies_in (put_element n inner b) = bodies_in inner ++ bodies_in b
  bodies_in (copy inner b) = bodies_in inner ++ bodies_in b
  bodies_in (apply p m b) = bodies_in b
  bodies_in (call n b) = bodies_in b
  bodies_in (value p b) = bodies_in b
  bodies_in (value_of_self b) = bodies_in b
  bodies_in (choose x b) = bodies_in_branches x ++ bodies_in b
  bodies_in (for_each e p inner b) = record { number = e; body = inner } ∷ (bodies_in inner ++ bodies_in b)

  pub bodies_in_branches : Branches → List Each
  bodies_in_branches (otherwise b) = bodies_in b
  bodies_in_branches (branch t b x) = bodies_in b ++ bodies_in_branches x

-- those of all rules, and then of the named bodies
abbrev pub bodies_of_eaches : Sheet → List Each
bodies_of_eaches s = flat_map (λ r. bodies_in r.body) s.rules ++ flat_map bodies_in s.named
