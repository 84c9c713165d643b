-- Laws of the texts that are refused as schemas in compact syntax.
use Rattle.std.specs.Prelude.{◌≡◌, ◌≤◌, ℕ, Bool, false, List, length}
use Rattle.tc_model.specs.CompactSyntaxTrees.{Syntax}
use Rattle.tc_model.specs.CompactSyntax.{Spells, deepest_nesting}
use Rattle.tc_model.specs.CompactSyntaxUnread.{Refusal, malformed, unsupported, too_deep}
use Rattle.tc_model.specs.CompactSyntaxRefused.{IsRefused}

-- Which readings there can't be of what is refused where braces and parentheses may stand so deep: none at all of what is malformed, not even
-- with data; none without data of what isn't supported; none that is as deep of what is too deep.
abbrev pub Excludes : Refusal → ℕ → Bool → ℕ → Type 0
Excludes (malformed place) most others deepest = Unit {0}
Excludes (unsupported why place) most others deepest = others ≡ false
Excludes (too_deep place) most others deepest = deepest ≤ most

-- a text has one refusal at most: its reason and its place are one
abbrev pub HasOneRefusal : Type 0
HasOneRefusal = (bytes : List ℕ) (r s : Refusal) → IsRefused bytes r → IsRefused bytes s → r ≡ s

-- what is refused has no syntax
abbrev pub HasNoSyntax : Type 0
HasNoSyntax = (bytes : List ℕ) (r : Refusal) (others : Bool) (deepest : ℕ) (s : Syntax) → IsRefused bytes r → Excludes r deepest_nesting others deepest → Spells others deepest bytes s → ⊥

-- and what is malformed is so within the text
abbrev pub IsMalformedWithin : Type 0
IsMalformedWithin = (bytes : List ℕ) (place : ℕ) → IsRefused bytes (malformed place) → place ≤ length bytes
