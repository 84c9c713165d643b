-- What a refusal says of a text.
-- It is two clauses: which readings there are not (`no`), and that reading stops at its place for its reason
-- (`stands`).
use Rattle.std.specs.Prelude.{ℕ, Bool, false, List}
use Rattle.tc_model.specs.Views.{place}
use Rattle.tc_model.specs.CompactSyntaxTrees.{Syntax}
use Rattle.tc_model.specs.CompactSyntax.{Spells, deepest_nesting}
use Rattle.tc_model.specs.CompactSyntaxRefused.{MalformedAt, UnsupportedAt, TooDeepAt}
use Rattle.tc_rnc.specs.declared.faults.RncFault.{RncFault}
use Rattle.tc_rnc.specs.declared.faults.RncFault.TheVariants.{Malformed, Unsupported, TooDeep, NoMemory}

-- Malformed: the text is no schema, however deep its braces and parentheses stand, and not with data either. Unsupported: it is none without data.
-- TooDeep: it is none in which they stand so deep, not even with data.
abbrev pub Excluded : RncFault → List ℕ → Type 0
Excluded (Malformed p) bytes = (others : Bool) (deepest : ℕ) (s : Syntax) → Spells others deepest bytes s → ⊥
Excluded (Unsupported p why) bytes = (deepest : ℕ) (s : Syntax) → Spells false deepest bytes s → ⊥
Excluded (TooDeep p) bytes = (others : Bool) (s : Syntax) → Spells others deepest_nesting bytes s → ⊥
Excluded NoMemory bytes = Unit {0}

-- the place where a fault stands, which is that of a token or of the end of the tokens
abbrev pub Stands : RncFault → List ℕ → Type 0
Stands (Malformed p) bytes = MalformedAt bytes (place p)
Stands (Unsupported p why) bytes = UnsupportedAt why bytes (place p)
Stands (TooDeep p) bytes = TooDeepAt bytes (place p)
Stands NoMemory bytes = Unit {0}
