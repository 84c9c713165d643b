-- What patterns become, where it is known for what names stand.
use Rattle.std.specs.Prelude.{ℕ, List, None, Some, slice_index_or}
use Rattle.tc_model.specs.Grammars as g
use Rattle.tc_model.specs.Views as seen
use Rattle.tc_model.specs.declared.grammar.Pat.{Pat}
use Rattle.tc_model.specs.declared.grammar.Pat.TheVariants.{NotAllowed}
use Rattle.tc_model.specs.CompactSyntaxTrees.{SyntaxPattern, empty, not_allowed, text, attribute, ref, element, mixed, optional, zero_or_more, one_or_more, group, choice, interleave, SyntaxPatterns, no_more, more}
use Rattle.tc_model.specs.Simplifies.{Element, both, number_at}
use Rattle.tc_simple.specs.Tables.{number_of}
use Rattle.tc_simple.specs.declared.groups.Table.{Table}

abbrev mutual
  pub becomes : (List ℕ → g.Pattern) → List Element → SyntaxPattern → g.Pattern
  becomes f es empty = g.empty
  becomes f es not_allowed = g.not_allowed
  becomes f es text = g.text
  becomes f es attribute = g.empty
  becomes f es (ref n place) = f n
  becomes f es (element place c p) = g.ref (number_at es place)
  becomes f es (mixed p) = g.interleave (both g.text (becomes f es p))
  becomes f es (optional p) = g.choice (both (becomes f es p) g.empty)
  becomes f es (zero_or_more p) = g.choice (both (g.one_or_more (becomes f es p)) g.empty)
  becomes f es (one_or_more p) = g.one_or_more (becomes f es p)
  becomes f es (group ps) = g.group (all_become f es ps)
  becomes f es (choice ps) = g.choice (all_become f es ps)
  becomes f es (interleave ps) = g.interleave (all_become f es ps)

  pub all_become : (List ℕ → g.Pattern) → List Element → SyntaxPatterns → g.Patterns
  all_become f es no_more = g.no_more
  all_become f es (more p ps) = g.more (becomes f es p) (all_become f es ps)

-- what an operator makes of what its part became (any other pattern: the part), and a connector of what its parts became (any other pattern: an
-- interleave)
abbrev pub around : SyntaxPattern → g.Pattern → g.Pattern
around (mixed p) part = g.interleave (both g.text part)
around (optional p) part = g.choice (both part g.empty)
around (zero_or_more p) part = g.choice (both (g.one_or_more part) g.empty)
around (one_or_more p) part = g.one_or_more part
around _ part = part

abbrev pub among : SyntaxPattern → g.Patterns → g.Pattern
among (group ps) parts = g.group parts
among (choice ps) parts = g.choice parts
among _ parts = g.interleave parts

-- what a name became
abbrev pub made_in : Table → List Pat → List ℕ → g.Pattern
made_in t made n = elim (number_of t n) [ Some k ↦ seen.pattern (slice_index_or made k NotAllowed) | None ↦ g.not_allowed ]
