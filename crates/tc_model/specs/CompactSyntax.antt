-- The syntax tree of a schema in RELAX NG's compact syntax: `CompactSyntax bytes syntax`. The modules CompactSyntaxTokens, CompactSyntaxNames and
-- CompactSyntaxPatterns have the phrases. The productions are those of OASIS, RELAX NG Compact Syntax (2002), which ISO/IEC 19757-2, Annex C,
-- has too: topLevel, grammarContent, start, define and assignMethod are here. Which of them are read, that is those that tell elements and text,
-- is this project's choice.
-- A text without definitions is a schema. A text that is one pattern defines `start` at place 0.
use Rattle.std.specs.Prelude.{Bool, false, ◌≡◌, ℕ, suc, ◌+◌, List, [], ◌∷◌, ◌++◌, length, Some, codes}
use Rattle.tc_base.specs.declared.limits.TheConstants.{DEEPEST_NESTING}
use Rattle.tc_model.specs.Names.{IsChars}
use Rattle.tc_model.specs.RawTrees.{Bound}
use Rattle.tc_model.specs.XmlText.{after_mark}
use Rattle.tc_model.specs.XmlTextScopes.{first_scope}
use Rattle.tc_model.specs.CompactSyntaxTrees.{SyntaxPattern, Joins, plain, by_choice, by_interleave, Definition, Syntax}
use Rattle.tc_model.specs.CompactSyntaxTokens.{Token, TokensAt}
use Rattle.tc_model.specs.CompactSyntaxNames.{IsWord, IsMark, identifier, DeclarationAt}
use Rattle.tc_model.specs.CompactSyntaxPatterns.{PatternAt}

-- assignMethod: `=`, or `|=` or `&=` without anything between
pub data OperatorAt : List Token → Joins → List Token → Type 0 where
  equals : {t : Token} {after : List Token} → IsMark 0x3D t → OperatorAt (t ∷ after) plain after
  bar_equals : {t u : Token} {after : List Token} → IsMark 0x7C t → IsMark 0x3D u → u.place ≡ t.place + 1 → OperatorAt (t ∷ u ∷ after) by_choice after
  ampersand_equals : {t u : Token} {after : List Token} → IsMark 0x26 t → IsMark 0x3D u → u.place ≡ t.place + 1 → OperatorAt (t ∷ u ∷ after) by_interleave after

abbrev pub one_definition : List ℕ → Joins → SyntaxPattern → ℕ → List Definition
one_definition name joins body place = record { name = name; joins = joins; body = body; place = place } ∷ []

mutual
  -- grammarContent: start, define, or what stands within a `div`
  pub data DefinitionAt (others : Bool) (scope : List Bound) : ℕ → List Token → List Definition → List Token → Type 0 where
    of_start : {deepest : ℕ} {t : Token} {tokens rest after : List Token} {j : Joins} {p : SyntaxPattern} → IsWord (codes "start") t → OperatorAt tokens j rest
        → PatternAt others scope deepest rest p after → DefinitionAt others scope deepest (t ∷ tokens) (one_definition [] j p t.place) after
    of_name : {deepest : ℕ} {t : Token} {tokens rest after : List Token} {n : List ℕ} {j : Joins} {p : SyntaxPattern} → identifier t.word ≡ Some n → OperatorAt tokens j rest
        → PatternAt others scope deepest rest p after → DefinitionAt others scope deepest (t ∷ tokens) (one_definition n j p t.place) after
    div : {deepest : ℕ} {t u v : Token} {inside after : List Token} {ds : List Definition} → IsWord (codes "div") t → IsMark 0x7B u
        → DefinitionsAt others scope deepest inside ds (v ∷ after) → IsMark 0x7D v → DefinitionAt others scope (suc deepest) (t ∷ u ∷ inside) ds after

  -- definitions up to the end or a brace
  pub data DefinitionsAt (others : Bool) (scope : List Bound) : ℕ → List Token → List Definition → List Token → Type 0 where
    at_end : {deepest : ℕ} → DefinitionsAt others scope deepest [] [] []
    at_brace : {deepest : ℕ} {t : Token} {after : List Token} → IsMark 0x7D t → DefinitionsAt others scope deepest (t ∷ after) [] (t ∷ after)
    more : {deepest : ℕ} {tokens rest after : List Token} {ds es : List Definition} → DefinitionAt others scope deepest tokens ds rest → DefinitionsAt others scope deepest rest es after
        → DefinitionsAt others scope deepest tokens (ds ++ es) after

-- topLevel: declarations, and then a pattern, which is the definition of `start`, or definitions, which may stand within `grammar { }`.
pub data SchemaAt (others : Bool) : List Bound → ℕ → List Token → List Definition → Type 0 where
  declaration : {scope within : List Bound} {deepest : ℕ} {tokens rest : List Token} {ds : List Definition} → DeclarationAt scope tokens within rest
      → SchemaAt others within deepest rest ds → SchemaAt others scope deepest tokens ds
  one_pattern : {scope : List Bound} {deepest : ℕ} {tokens : List Token} {p : SyntaxPattern} → PatternAt others scope deepest tokens p [] → SchemaAt others scope deepest tokens (one_definition [] plain p 0)
  definitions : {scope : List Bound} {deepest : ℕ} {tokens : List Token} {ds : List Definition} → DefinitionsAt others scope deepest tokens ds [] → SchemaAt others scope deepest tokens ds
  grammar : {scope : List Bound} {deepest : ℕ} {t u v : Token} {inside : List Token} {ds : List Definition} → IsWord (codes "grammar") t → IsMark 0x7B u
      → DefinitionsAt others scope deepest inside ds (v ∷ []) → IsMark 0x7D v → SchemaAt others scope (suc deepest) (t ∷ u ∷ inside) ds

-- Characters of XML, perhaps after a byte order mark, whose tokens are a schema. Braces and parentheses stand at most so deep. The prefix
-- `xml` is bound before any declaration. Where `others` says so, data are read too.
pub record Spells (others : Bool) (deepest : ℕ) (bytes : List ℕ) (syntax : Syntax) : Type 0 where
  pub tokens : List Token
  pub characters : IsChars bytes
  pub words : TokensAt (length bytes) (after_mark bytes) tokens
  pub schema : SchemaAt others first_scope deepest tokens syntax.definitions
  pub end : syntax.end ≡ length bytes

-- how deep braces and parentheses may stand within one another
abbrev pub deepest_nesting : ℕ
deepest_nesting = DEEPEST_NESTING

abbrev pub CompactSyntax : List ℕ → Syntax → Type 0
CompactSyntax bytes syntax = Spells false deepest_nesting bytes syntax
