-- Of the rules that fit, looked at one after another, the best so far.
use Rattle.std.specs.Prelude.{ℕ, List, [], ◌∷◌, Bool, true, false, int_lt, Option, None, Some, slice_get, if◌then◌else◌}
use Rattle.tc_model.specs.Sheets.{MatchPattern, root_pattern, steps_pattern, Rule}

-- the first of two rules has the greater priority
abbrev pub outranks : Option Rule → Option Rule → Bool
outranks None r = false
outranks (Some q) None = false
outranks (Some q) (Some r) = int_lt r.priority q.priority

-- of the best so far and one after it that fits, the one of greater priority; of two equal ones the later
abbrev pub better : List Rule → Option ℕ → ℕ → Option ℕ
better rules None i = Some i
better rules (Some j) i = if outranks (slice_get rules j) (slice_get rules i) then Some j else Some i

abbrev pub best_of : List Rule → (ℕ → Bool) → Option ℕ → List ℕ → Option ℕ
best_of rules fit best [] = best
best_of rules fit best (i ∷ is) = best_of rules fit (if fit i then better rules best i else best) is

-- the pattern is `/`
abbrev pub is_root : MatchPattern → Bool
is_root root_pattern = true
is_root (steps_pattern ss) = false

abbrev is_root_rule : Option Rule → Bool
is_root_rule None = false
is_root_rule (Some r) = is_root r.pattern

abbrev pub is_root_at : List Rule → ℕ → Bool
is_root_at rules i = is_root_rule (slice_get rules i)
