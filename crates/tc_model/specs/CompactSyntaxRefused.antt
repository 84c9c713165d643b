-- Which texts are refused as schemas in compact syntax, why and where. Characters and tokens are looked at up to where reading stops: behind
-- that place anything may stand, bytes that are no characters included.
-- Tokens end before the first byte that is no character of XML, or before a literal between two quotes that
-- isn't closed on its line, whose place is that line's end. Both matter only where reading comes there. In an
-- attribute's text the end of the tokens is malformed.
use Rattle.std.specs.Prelude.{◌≡◌, ℕ, ◌+◌, Bool, false, ◌||◌, ◌&&◌, ◌==◌, not, List, [], ◌∷◌, Option, None, Some, IsTrue, length, take, if◌then◌else◌}
use Rattle.std.specs.List.{prefix_len}
use Rattle.tc_base.specs.Characters.{is_white}
use Rattle.tc_base.specs.declared.reasons.Why.{Why}
use Rattle.tc_model.specs.XmlText.{after_mark}
use Rattle.tc_model.specs.XmlTextBytes.{FrontOf, length_before, place_of}
use Rattle.tc_model.specs.XmlTextScopes.{first_scope}
use Rattle.tc_model.specs.CompactSyntaxTrees.{Definition}
use Rattle.tc_model.specs.CompactSyntaxTokens.{Word, Token, is_line_end, after_line, WordAt}
use Rattle.tc_model.specs.CompactSyntax.{SchemaAt, deepest_nesting}
use Rattle.tc_model.specs.CompactSyntaxUnread.{Refusal, malformed, unsupported, too_deep, End, escape_mark, Unexpected}
use Rattle.tc_model.specs.CompactSyntaxStops.{SchemaStops}

-- these bytes from their beginning on are these tokens, up to this rest
pub data TokensUpTo (total : ℕ) : List ℕ → List Token → List ℕ → Type 0 where
  so_far : {rest : List ℕ} → TokensUpTo total rest [] rest
  white : {b : ℕ} {bs rest : List ℕ} {tokens : List Token} → IsTrue (is_white b) → TokensUpTo total bs tokens rest → TokensUpTo total (b ∷ bs) tokens rest
  comment : {bs rest : List ℕ} {tokens : List Token} → TokensUpTo total (after_line bs) tokens rest → TokensUpTo total (0x23 ∷ bs) tokens rest
  token : {bs after rest : List ℕ} {word : Word} {tokens : List Token} → WordAt bs word after → TokensUpTo total after tokens rest
      → TokensUpTo total bs (record { word = word; place = place_of total bs } ∷ tokens) rest

-- neither white space nor a comment stands here
pub record BeginsNoSpace (bs : List ℕ) : Type 0 where
  pub no_white : (b : ℕ) (r : List ℕ) → bs ≡ b ∷ r → IsTrue (is_white b) → ⊥
  pub no_comment : (r : List ℕ) → bs ≡ 0x23 ∷ r → ⊥

-- the tokens of some bytes, as many as there are: they end with the characters, or before a literal that isn't closed on its line
pub record TokensOf (bytes front : List ℕ) (tokens : List Token) (rest : List ℕ) : Type 0 where
  pub is_front : FrontOf bytes front
  pub words : TokensUpTo (length front) (after_mark front) tokens rest
  pub no_space : BeginsNoSpace rest
  pub no_word : (word : Word) (after : List ℕ) → WordAt rest word after → ⊥

-- what stands of a line at the front
abbrev pub line : List ℕ → List ℕ
line bs = take (prefix_len (λ b. not (is_line_end b)) bs) bs

abbrev pub is_quote : ℕ → Bool
is_quote b = b == 0x22 || b == 0x27

-- where the escape of a character stands in the literal that begins here and isn't closed on its line
abbrev pub unclosed_escape : ℕ → List ℕ → Option ℕ
unclosed_escape total [] = None
unclosed_escape total (quote ∷ rest) =
    if is_quote quote && not (length_before escape_mark (line rest) == length (line rest)) then Some (place_of total rest + length_before escape_mark (line rest)) else None

-- where tokens end of which this is left; that of a literal that isn't closed on its line is the end of the line
abbrev pub end_before : ℕ → List ℕ → End
end_before total rest = record { place = place_of total rest + length (line rest); escape = unclosed_escape total rest }

-- The bytes are refused: the reading of their tokens stops, or they are a schema and the bytes go on with none.
pub data IsRefused (bytes : List ℕ) : Refusal → Type 0 where
  in_tokens : {front rest : List ℕ} {tokens : List Token} {r : Refusal} → TokensOf bytes front tokens rest
      → SchemaStops (end_before (length front) rest) first_scope deepest_nesting tokens r → IsRefused bytes r
  past_tokens : {front rest : List ℕ} {tokens : List Token} {ds : List Definition} {r : Refusal} → TokensOf bytes front tokens rest
      → SchemaAt false first_scope deepest_nesting tokens ds → (rest ≡ [] → front ≡ bytes → ⊥) → Unexpected (end_before (length front) rest) [] r → IsRefused bytes r

abbrev pub MalformedAt : List ℕ → ℕ → Type 0
MalformedAt bytes place = IsRefused bytes (malformed place)

abbrev pub UnsupportedAt : Why → List ℕ → ℕ → Type 0
UnsupportedAt why bytes place = IsRefused bytes (unsupported why place)

abbrev pub TooDeepAt : List ℕ → ℕ → Type 0
TooDeepAt bytes place = IsRefused bytes (too_deep place)
