-- A stylesheet that is changed so that its results tell whether a spot is reached, and the schema by which they do.
use Rattle.std.specs.Prelude.{ℕ, ◌+◌, List, [], ◌∷◌, map, Bool, if◌then◌else◌, codes}
use Rattle.tc_model.specs.Names.{ExpandedName}
use Rattle.tc_model.specs.Grammars as g
use Rattle.tc_model.specs.Sheets.{Body, no_instruction, put_text, put_element, copy, apply, call, for_each, value, value_of_self, choose, Branches, otherwise, branch, Rule, Sheet}
use Rattle.tc_dead.specs.Spots.{Spot, a_rule, a_named_body, a_branch, same_spot, is_nothing, branches_of, branches_in, eaches_of, eaches_in, NumberedRule, NumberedBody, rule_bodies, eaches_of_all, numbered_rules, numbered_bodies}

abbrev pub dead_uri : List ℕ
dead_uri = codes "urn:typecheck:dead"

-- the name of a mark, and of what stands around a copy
abbrev pub mark_name : ExpandedName
mark_name = record { uri = dead_uri; local = codes "m" }

abbrev pub wrapper_name : ExpandedName
wrapper_name = record { uri = dead_uri; local = codes "w" }

-- a mark: an element that holds an empty one
abbrev pub mark_before : Body → Body
mark_before b = put_element mark_name (put_element mark_name no_instruction no_instruction) b

-- a body that begins with a mark where it is that of the spot
abbrev pub begun : Bool → Body → Body
begun is_it b = if is_it then mark_before b else b

module _ (p : Spot) where
  abbrev mutual
    -- the instructions of a body, with these numbers of its first branch and its first for-each, and then others: a literal element is replaced by its body, a copy stands in an
    -- element, and each for-each has the next number
    pub marked_before : ℕ → ℕ → Body → Body → Body
    marked_before n e no_instruction rest = rest
    marked_before n e (put_text x b) rest = put_text x (marked_before n e b rest)
    marked_before n e (put_element a inner b) rest = marked_before n e inner (marked_before (n + branches_of inner) (e + eaches_of inner) b rest)
    marked_before n e (copy inner b) rest =
        put_element wrapper_name (copy (marked_before n e inner no_instruction) no_instruction) (marked_before (n + branches_of inner) (e + eaches_of inner) b rest)
    marked_before n e (apply q m b) rest = apply q m (marked_before n e b rest)
    marked_before n e (call k b) rest = call k (marked_before n e b rest)
    marked_before n e (value q b) rest = value q (marked_before n e b rest)
    marked_before n e (value_of_self b) rest = value_of_self (marked_before n e b rest)
    marked_before n e (choose x b) rest = choose (marked_branches n e x) (marked_before (n + branches_in x) (e + eaches_in x) b rest)
    marked_before n e (for_each i q inner b) rest =
        for_each e q (marked_before n (e + 1) inner no_instruction) (marked_before (n + branches_of inner) (e + 1 + eaches_of inner) b rest)

    pub marked_branches : ℕ → ℕ → Branches → Branches
    marked_branches n e (otherwise b) = otherwise (if is_nothing b then no_instruction else begun (same_spot p (a_branch n)) (marked_before (n + 1) e b no_instruction))
    marked_branches n e (branch t b x) =
        branch t (begun (same_spot p (a_branch n)) (marked_before (n + 1) e b no_instruction)) (marked_branches (n + 1 + branches_of b) (e + eaches_of b) x)

  abbrev pub marked_rule : NumberedRule → Rule
  marked_rule r = record {
    mode = r.rule.mode;
    pattern = r.rule.pattern;
    priority = r.rule.priority;
    body = begun (same_spot p (a_rule r.number)) (marked_before r.branches r.eaches r.rule.body no_instruction);
  }

  abbrev pub marked_body : NumberedBody → Body
  marked_body b = begun (same_spot p (a_named_body b.number)) (marked_before b.branches b.eaches b.body no_instruction)

  -- the stylesheet in which this spot is marked
  abbrev pub marked_at : Sheet → Sheet
  marked_at s = record {
    modes = s.modes;
    eaches = eaches_of_all (rule_bodies s) + eaches_of_all s.named;
    rules = map marked_rule (numbered_rules s);
    named = map marked_body (numbered_bodies s);
  }

-- one pattern or the other
abbrev pub either : g.Pattern → g.Pattern → g.Pattern
either a b = g.choice (g.more a (g.more b g.no_more))

-- texts and the elements of the first pattern, in any number
abbrev pub plain_content : g.Pattern
plain_content = either (g.one_or_more (either g.text (g.ref 1))) g.empty

-- the schema of what is put out without a mark: around a copy there stands one element of any name, or what else is plain
abbrev pub plain_schema : g.Grammar
plain_schema = record {
  start = plain_content;
  elements =
      (record { names = g.of_name wrapper_name; content = either (g.ref 2) plain_content })
      ∷ (record { names = g.any_name g.no_class; content = plain_content })
      ∷ [];
}
