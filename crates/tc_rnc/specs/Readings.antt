-- Parts of phrases of the compact syntax, as their readers say what they read.
use Rattle.std.specs.Prelude.{◌≡◌, ℕ, suc, Bool, List, ◌∷◌, Some}
use Rattle.tc_model.specs.RawTrees.{Bound}
use Rattle.tc_model.specs.CompactSyntaxTrees.{SyntaxClass, SyntaxPattern}
use Rattle.tc_model.specs.CompactSyntaxTokens.{Token}
use Rattle.tc_model.specs.CompactSyntaxNames.{IsMark, ClassAt}
use Rattle.tc_model.specs.CompactSyntaxPatterns.{Connector, connector_of, connector_at, Suffix, suffix_of, BalancedAt, PatternAt}

-- these tokens begin with a connector of this kind, after which the others stand
abbrev pub GoesOn : Connector → List Token → List Token → Type 0
GoesOn c ts rest = (t : Token) × (ts ≡ t ∷ rest) × (connector_of t.word ≡ Some c)

-- these tokens begin with a connector of another kind
abbrev pub GoesOnOtherwise : Connector → List Token → Type 0
GoesOnOtherwise c ts = (k : Connector) × (connector_at ts ≡ Some k) × (k ≡ c → ⊥)

-- these tokens begin with a suffix, after which the others stand
abbrev pub EndsWith : Suffix → List Token → List Token → Type 0
EndsWith x ts rest = (t : Token) × (ts ≡ t ∷ rest) × (suffix_of t.word ≡ Some x)

-- these tokens begin with this mark, after which the others stand
abbrev pub BeginsWith : ℕ → List Token → List Token → Type 0
BeginsWith c ts rest = (t : Token) × (ts ≡ t ∷ rest) × IsMark c t

-- a class and the parenthesis that closes it
pub data ClosedClassAt (scope : List Bound) : ℕ → List Token → SyntaxClass → List Token → Type 0 where
  closed_class : {deepest : ℕ} {t : Token} {tokens after : List Token} {c : SyntaxClass} → ClassAt scope deepest tokens c (t ∷ after) → IsMark 0x29 t
      → ClosedClassAt scope deepest tokens c after

-- a pattern with the mark that opens it and the one that closes it
pub data EnclosedAt (others : Bool) (scope : List Bound) (left right : ℕ) : ℕ → List Token → SyntaxPattern → List Token → Type 0 where
  enclosed : {deepest : ℕ} {t u : Token} {inside after : List Token} {p : SyntaxPattern} → IsMark left t
      → PatternAt others scope deepest inside p (u ∷ after) → IsMark right u → EnclosedAt others scope left right (suc deepest) (t ∷ inside) p after

-- a class and a pattern within braces, as they follow the word `element`
pub data NamedAt (others : Bool) (scope : List Bound) : ℕ → List Token → SyntaxClass → SyntaxPattern → List Token → Type 0 where
  named : {deepest : ℕ} {tokens rest after : List Token} {c : SyntaxClass} {p : SyntaxPattern} → ClassAt scope deepest tokens c rest
      → EnclosedAt others scope 0x7B 0x7D deepest rest p after → NamedAt others scope deepest tokens c p after

-- balanced text within braces
pub data BracedTextAt : ℕ → List Token → List Token → Type 0 where
  braced_text : {deepest : ℕ} {t : Token} {inside after : List Token} → IsMark 0x7B t → BalancedAt deepest inside after
      → BracedTextAt (suc deepest) (t ∷ inside) after

-- a class and balanced text within braces, as they follow the word `attribute`
pub data LabelledAt (scope : List Bound) : ℕ → List Token → List Token → Type 0 where
  labelled : {deepest : ℕ} {tokens rest after : List Token} {c : SyntaxClass} → ClassAt scope deepest tokens c rest
      → BracedTextAt deepest rest after → LabelledAt scope deepest tokens after

-- a token of balanced text that is no brace, or braces with balanced text between: a part that doesn't close it
pub data BalancedPartAt : ℕ → List Token → List Token → Type 0 where
  one_token : {deepest : ℕ} {t : Token} {after : List Token} → (IsMark 0x7B t → ⊥) → (IsMark 0x7D t → ⊥) → BalancedPartAt deepest (t ∷ after) after
  in_braces : {deepest : ℕ} {t : Token} {inside after : List Token} → IsMark 0x7B t → BalancedAt deepest inside after → BalancedPartAt (suc deepest) (t ∷ inside) after
