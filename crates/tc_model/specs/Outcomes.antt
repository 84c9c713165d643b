-- What is put out, and what it costs.
-- Work and nesting count the body of the root too: the rule of the root, or the built-in rule, is one body.
use Rattle.std.specs.Prelude.{ℕ, ◌+◌, max, List, [], ◌∷◌}
use Rattle.tc_model.specs.Names.{ExpandedName}
use Rattle.tc_model.specs.Trees.{Trees, none, text, element, beside}
use Rattle.tc_model.specs.Chains.{an_element, a_text, Node, whole, one}

-- trees; the work: how many bodies were instantiated and elements and texts put out; the nesting: how many bodies and instructions stood within one another at most
pub record Outcome : Type 0 where
  pub out : Trees
  pub work : ℕ
  pub nesting : ℕ

abbrev pub nothing : Outcome
nothing = record { out = none; work = 0; nesting = 0 }

-- one after the other
abbrev pub join : Outcome → Outcome → Outcome
join a b = record { out = beside a.out b.out; work = a.work + b.work; nesting = max a.nesting b.nesting }

-- within an instruction
abbrev pub within : Outcome → Outcome
within a = record { out = a.out; work = a.work; nesting = a.nesting + 1 }

-- within a body that counts: a rule's, a named one, a for-each's, a built-in rule's
abbrev pub counted : Outcome → Outcome
counted a = record { out = a.out; work = a.work + 1; nesting = a.nesting + 1 }

-- a text, where it has a character
abbrev pub put : List ℕ → Outcome
put [] = nothing
put (b ∷ bs) = record { out = text (b ∷ bs) none; work = 1; nesting = 0 }

abbrev pub put_around : ExpandedName → Outcome → Outcome
put_around n a = record { out = element n a.out none; work = a.work + 1; nesting = a.nesting }

-- on an element an element of its name around it, on the root itself, on a text that text (XSLT, 7.5)
abbrev pub copied : Node → Outcome → Outcome
copied (whole doc) a = a
copied (one (an_element n kids)) a = put_around n a
copied (one (a_text s)) a = put s
