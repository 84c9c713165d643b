-- What is read of a text as tokens.
use Rattle.std.specs.Prelude.{◌≡◌, ◌≤◌, ℕ, Bool, List, [], length, MatchBool}
use Rattle.tc_model.specs.CompactSyntaxTokens.{Word, Token, WordAt}
use Rattle.tc_model.specs.CompactSyntaxRefused.{BeginsNoSpace, TokensUpTo, TokensOf, end_before}
use Rattle.tc_rnc.specs.declared.tokens.End.{End}
use Rattle.tc_rnc.specs.Views as seen

-- the tokens at the front of these bytes, up to the rest
pub record ReadsTokens (total : ℕ) (bytes : List ℕ) (tokens : List Token) (rest : List ℕ) : Type 0 where
  pub words : TokensUpTo total bytes tokens rest
  pub begins : BeginsNoSpace rest
  pub within : length rest ≤ total

-- and no word stands there
pub record ReadsAllTokens (total : ℕ) (bytes : List ℕ) (tokens : List Token) (rest : List ℕ) : Type 0 where
  pub reads : ReadsTokens total bytes tokens rest
  pub ends : (word : Word) (after : List ℕ) → WordAt rest word after → ⊥

-- nothing follows the tokens, and nothing the characters
abbrev pub IsWhole : List ℕ → List ℕ → List ℕ → Type 0
IsWhole rest front bytes = (rest ≡ []) × (length front ≡ length bytes)

-- the tokens of some bytes, up to where they go on with none
pub record Lexed (bytes : List ℕ) (tokens : List Token) (end : End) (whole : Bool) : Type 0 where
  pub front : List ℕ
  pub rest : List ℕ
  pub are_tokens : TokensOf bytes front tokens rest
  pub is_end : seen.end end ≡ end_before (length front) rest
  pub is_whole : MatchBool whole (IsWhole rest front bytes) (IsWhole rest front bytes → ⊥)
