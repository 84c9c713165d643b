-- Where the reading of a part of a phrase stops.
use Rattle.std.specs.Prelude.{ℕ, suc, List, [], ◌∷◌}
use Rattle.tc_model.specs.RawTrees.{Bound}
use Rattle.tc_model.specs.CompactSyntaxTrees.{SyntaxClass, Joins}
use Rattle.tc_model.specs.CompactSyntaxTokens.{Token}
use Rattle.tc_model.specs.CompactSyntaxNames.{IsMark, LacksMark, ClassAt}
use Rattle.tc_model.specs.CompactSyntax.{OperatorAt}
use Rattle.tc_model.specs.CompactSyntaxUnread.{Refusal, malformed, too_deep, End, Unexpected}
use Rattle.tc_model.specs.CompactSyntaxStops.{ClassStops, BalancedStops, BracedTextStops, PatternStops, EnclosedStops}

-- the mark that opens something
pub data OpeningStops (end : End) (c : ℕ) : ℕ → List Token → Refusal → Type 0 where
  no_mark : {deepest : ℕ} {tokens : List Token} {r : Refusal} → LacksMark c tokens → Unexpected end tokens r → OpeningStops end c deepest tokens r
  deep : {t : Token} {tokens : List Token} → IsMark c t → OpeningStops end c 0 (t ∷ tokens) (too_deep t.place)

-- a class and the parenthesis that closes it
pub data ClosedClassStops (end : End) (scope : List Bound) : ℕ → List Token → Refusal → Type 0 where
  within : {deepest : ℕ} {tokens : List Token} {r : Refusal} → ClassStops end scope deepest tokens r → ClosedClassStops end scope deepest tokens r
  unclosed : {deepest : ℕ} {tokens rest : List Token} {c : SyntaxClass} {r : Refusal} → ClassAt scope deepest tokens c rest → LacksMark 0x29 rest → Unexpected end rest r
      → ClosedClassStops end scope deepest tokens r

-- a part of balanced text that doesn't close it
pub data BalancedPartStops (end : End) : ℕ → List Token → Refusal → Type 0 where
  at_end : {deepest : ℕ} → BalancedPartStops end deepest [] (malformed end.place)
  deep : {t : Token} {tokens : List Token} → IsMark 0x7B t → BalancedPartStops end 0 (t ∷ tokens) (too_deep t.place)
  in_braces : {deepest : ℕ} {t : Token} {tokens : List Token} {r : Refusal} → IsMark 0x7B t → BalancedStops end deepest tokens r → BalancedPartStops end (suc deepest) (t ∷ tokens) r

-- what follows the word `attribute`
pub data LabelledStops (end : End) (scope : List Bound) : ℕ → List Token → Refusal → Type 0 where
  label : {deepest : ℕ} {tokens : List Token} {r : Refusal} → ClassStops end scope deepest tokens r → LabelledStops end scope deepest tokens r
  text : {deepest : ℕ} {tokens rest : List Token} {c : SyntaxClass} {r : Refusal} → ClassAt scope deepest tokens c rest → BracedTextStops end deepest rest r
      → LabelledStops end scope deepest tokens r

-- what follows the word `element`
pub data NamedStops (end : End) (scope : List Bound) : ℕ → List Token → Refusal → Type 0 where
  names : {deepest : ℕ} {tokens : List Token} {r : Refusal} → ClassStops end scope deepest tokens r → NamedStops end scope deepest tokens r
  content : {deepest : ℕ} {tokens rest : List Token} {c : SyntaxClass} {r : Refusal} → ClassAt scope deepest tokens c rest → EnclosedStops end scope 0x7B 0x7D deepest rest r
      → NamedStops end scope deepest tokens r

-- what follows the name of a definition
pub data AssignedStops (end : End) (scope : List Bound) : ℕ → List Token → Refusal → Type 0 where
  no_operator : {deepest : ℕ} {tokens : List Token} {r : Refusal} → ((j : Joins) (rest : List Token) → OperatorAt tokens j rest → ⊥) → Unexpected end tokens r
      → AssignedStops end scope deepest tokens r
  body : {deepest : ℕ} {tokens rest : List Token} {j : Joins} {r : Refusal} → OperatorAt tokens j rest → PatternStops end scope deepest rest r
      → AssignedStops end scope deepest tokens r
