-- Wildcards at the front of tokens, and what is excepted from them.
use Rattle.std.specs.Prelude.{◌≡◌, ◌≢◌, ℕ, List, [], ◌∷◌, None, Some}
use Rattle.std.specs.Borrow.{Bor}
use Rattle.tc_base.specs.declared.Place.{Place}
use Rattle.tc_model.specs.Views.{place}
use Rattle.tc_model.specs.RawTrees.{Bound}
use Rattle.tc_model.specs.XmlTextScopes.{uri_of}
use Rattle.tc_model.specs.CompactSyntaxTrees.{SyntaxClass, of_namespace, any_name, SyntaxClasses, no_class, class}
use Rattle.tc_model.specs.CompactSyntaxTokens.{all_of, mark, Token}
use Rattle.tc_model.specs.CompactSyntaxNames.{IsMark}
use Rattle.tc_rnc.specs.Readings.{BeginsWith}
use Rattle.tc_rnc.specs.declared.wildcards.Wildcard.{Wildcard}
use Rattle.tc_rnc.specs.declared.wildcards.Wildcard.TheVariants.{Ns, Any}

-- the names of a wildcard without those of what is excepted
abbrev pub without : Wildcard → SyntaxClasses → SyntaxClass
without (Ns p uri) except = of_namespace (place p) uri.now except
without (Any p) except = any_name (place p) except

-- an excepted class with wildcards around it, the last innermost
abbrev pub around : List Wildcard → SyntaxClass → SyntaxClass
around [] c = c
around (w ∷ ws) c = without w (class (around ws c) no_class)

-- these tokens begin with a wildcard, after which the others stand
pub data WildcardAt (scope : List Bound) : List Token → Wildcard → List Token → Type 0 where
  namespace : {t : Token} {p : Place} {uri : Bor (List ℕ)} {prefix : List ℕ} {tokens rest : List Token} → tokens ≡ t ∷ rest → t.word ≡ all_of prefix → uri_of scope prefix ≡ Some uri.now → t.place ≡ place p
      → WildcardAt scope tokens (Ns p uri) rest
  any : {t : Token} {p : Place} {tokens rest : List Token} → tokens ≡ t ∷ rest → IsMark 0x2A t → t.place ≡ place p → WildcardAt scope tokens (Any p) rest

-- this token is no wildcard, or one whose prefix isn't bound
pub record NoWildcard (scope : List Bound) (t : Token) : Type 0 where
  pub no_namespace : (prefix : List ℕ) → t.word ≡ all_of prefix → uri_of scope prefix ≡ None
  pub no_asterisk : t.word ≢ mark 0x2A

-- these tokens don't begin with a wildcard
abbrev pub BeginsNoWildcard : List Bound → List Token → Type 0
BeginsNoWildcard scope [] = Unit {0}
BeginsNoWildcard scope (t ∷ tokens) = NoWildcard scope t

-- these tokens begin with a wildcard and a minus sign, after which the others stand
pub record ExceptingAt (scope : List Bound) (tokens : List Token) (w : Wildcard) (behind : List Token) : Type 0 where
  pub rest : List Token
  pub wildcard : WildcardAt scope tokens w rest
  pub minus : BeginsWith 0x2D rest behind

-- these tokens don't begin so
abbrev pub ExceptsNothing : List Bound → List Token → Type 0
ExceptsNothing scope tokens = (w : Wildcard) (behind : List Token) → ExceptingAt scope tokens w behind → ⊥

-- these tokens begin with wildcards that have a minus sign behind each, after which the others stand
pub data ExceptsAt (scope : List Bound) : List Token → List Wildcard → List Token → Type 0 where
  none : {tokens : List Token} → ExceptsAt scope tokens [] tokens
  more : {w : Wildcard} {ws : List Wildcard} {tokens behind rest : List Token} → ExceptingAt scope tokens w behind → ExceptsAt scope behind ws rest → ExceptsAt scope tokens (w ∷ ws) rest
