-- Where the reading of a schema in compact syntax stops. A relation `PhraseStops end .. tokens refusal` says that the phrase at the front of
-- these tokens is read up to a token with which it can't go on, and how that is refused. What stands behind that place isn't looked at but
-- where the reason depends on it: `grammar { }` is a part of a pattern where it goes on as one.
-- A grammar in braces that a connector or a suffix follows is one within a pattern, refused at its word. The
-- first token with which nothing that is read goes on gives reason and place, for malformed too: an escape or
-- an annotation is named wherever it stands; otherwise it is what should stand there: a pattern (`data`,
-- `list`, `external`, `grammar`, `parent`, `triple-quote`, `value`), a definition (`include`), a namespace
-- name (`inherit`, `escape`, `triple-quote`, and `concatenation` at a `~` behind it). A datatype's name or a
-- literal anywhere else is malformed. A declaration that may not bind is malformed at its first byte, once
-- its literal has been read. Of two phrases that nest too deep the first is named.
use Rattle.std.specs.Prelude.{◌≡◌, ◌≢◌, ◌⊎◌, ℕ, suc, Bool, true, false, List, [], ◌∷◌, None, Some, codes}
use Rattle.tc_base.specs.declared.reasons.Why.TheVariants.{NestedGrammar}
use Rattle.tc_model.specs.RawTrees.{Bound}
use Rattle.tc_model.specs.XmlTextScopes.{uri_of}
use Rattle.tc_model.specs.CompactSyntaxTrees.{SyntaxClass, SyntaxPattern, Joins, Definition}
use Rattle.tc_model.specs.CompactSyntaxTokens.{Word, all_of, mark, Token}
use Rattle.tc_model.specs.CompactSyntaxNames.{IsWord, IsMark, identifier, identifier_or_keyword, IsLiteral, MayBind, DeclarationAt, name_in, LacksMark, ClassAt, SimpleAt}
use Rattle.tc_model.specs.CompactSyntaxPatterns.{Connector, connector_of, connector_at, Suffix, suffix_at, BalancedAt, PatternAt, ItemAt}
use Rattle.tc_model.specs.CompactSyntax.{OperatorAt, DefinitionAt, DefinitionsAt}
use Rattle.tc_model.specs.CompactSyntaxUnread.{Refusal, malformed, unsupported, too_deep, End, Unexpected, NoPattern, NoDefinition, NoNamespaceName}

-- no name class begins with this word
pub record BeginsNoClass (scope : List Bound) (w : Word) : Type 0 where
  pub no_name : name_in scope w ≡ None
  pub no_namespace : (prefix : List ℕ) → w ≡ all_of prefix → uri_of scope prefix ≡ None
  pub no_asterisk : w ≢ mark 0x2A
  pub no_parenthesis : w ≢ mark 0x28

-- name classes
mutual
  pub data ClassStops (end : End) (scope : List Bound) : ℕ → List Token → Refusal → Type 0 where
    simple : {deepest : ℕ} {tokens : List Token} {r : Refusal} → SimpleStops end scope deepest tokens r → ClassStops end scope deepest tokens r
    past_bar : {deepest : ℕ} {bar : Token} {tokens rest : List Token} {c : SyntaxClass} {r : Refusal} → SimpleAt scope deepest tokens c (bar ∷ rest) → IsMark 0x7C bar
        → ClassStops end scope deepest rest r → ClassStops end scope deepest tokens r

  pub data SimpleStops (end : End) (scope : List Bound) : ℕ → List Token → Refusal → Type 0 where
    no_token : {deepest : ℕ} {r : Refusal} → Unexpected end [] r → SimpleStops end scope deepest [] r
    no_class : {deepest : ℕ} {t : Token} {after : List Token} {r : Refusal} → BeginsNoClass scope t.word → Unexpected end (t ∷ after) r
        → SimpleStops end scope deepest (t ∷ after) r
    namespace_except : {deepest : ℕ} {t minus : Token} {tokens : List Token} {prefix uri : List ℕ} {r : Refusal} → t.word ≡ all_of prefix → uri_of scope prefix ≡ Some uri
        → IsMark 0x2D minus → SimpleStops end scope deepest tokens r → SimpleStops end scope deepest (t ∷ minus ∷ tokens) r
    any_except : {deepest : ℕ} {t minus : Token} {tokens : List Token} {r : Refusal} → IsMark 0x2A t → IsMark 0x2D minus → SimpleStops end scope deepest tokens r
        → SimpleStops end scope deepest (t ∷ minus ∷ tokens) r
    deep : {t : Token} {tokens : List Token} → IsMark 0x28 t → SimpleStops end scope 0 (t ∷ tokens) (too_deep t.place)
    inside : {deepest : ℕ} {t : Token} {tokens : List Token} {r : Refusal} → IsMark 0x28 t → ClassStops end scope deepest tokens r
        → SimpleStops end scope (suc deepest) (t ∷ tokens) r
    unclosed : {deepest : ℕ} {t : Token} {tokens rest : List Token} {c : SyntaxClass} {r : Refusal} → IsMark 0x28 t → ClassAt scope deepest tokens c rest → LacksMark 0x29 rest
        → Unexpected end rest r → SimpleStops end scope (suc deepest) (t ∷ tokens) r

-- the text of an attribute, after the brace that opens it
pub data BalancedStops (end : End) : ℕ → List Token → Refusal → Type 0 where
  at_end : {deepest : ℕ} → BalancedStops end deepest [] (malformed end.place)
  deep : {t : Token} {tokens : List Token} → IsMark 0x7B t → BalancedStops end 0 (t ∷ tokens) (too_deep t.place)
  inside : {deepest : ℕ} {t : Token} {tokens : List Token} {r : Refusal} → IsMark 0x7B t → BalancedStops end deepest tokens r → BalancedStops end (suc deepest) (t ∷ tokens) r
  past_braces : {deepest : ℕ} {t : Token} {tokens rest : List Token} {r : Refusal} → IsMark 0x7B t → BalancedAt deepest tokens rest → BalancedStops end (suc deepest) rest r
      → BalancedStops end (suc deepest) (t ∷ tokens) r
  past_token : {deepest : ℕ} {t : Token} {tokens : List Token} {r : Refusal} → t.word ≢ mark 0x7B → t.word ≢ mark 0x7D → BalancedStops end deepest tokens r
      → BalancedStops end deepest (t ∷ tokens) r

-- the same with that brace
pub data BracedTextStops (end : End) : ℕ → List Token → Refusal → Type 0 where
  no_brace : {deepest : ℕ} {tokens : List Token} {r : Refusal} → LacksMark 0x7B tokens → Unexpected end tokens r → BracedTextStops end deepest tokens r
  deep : {t : Token} {tokens : List Token} → IsMark 0x7B t → BracedTextStops end 0 (t ∷ tokens) (too_deep t.place)
  inside : {deepest : ℕ} {t : Token} {tokens : List Token} {r : Refusal} → IsMark 0x7B t → BalancedStops end deepest tokens r → BracedTextStops end (suc deepest) (t ∷ tokens) r

-- patterns
mutual
  pub data PatternStops (end : End) (scope : List Bound) : ℕ → List Token → Refusal → Type 0 where
    first_item : {deepest : ℕ} {tokens : List Token} {r : Refusal} → PrimaryStops end scope deepest tokens r → PatternStops end scope deepest tokens r
    past_connector : {deepest : ℕ} {t : Token} {tokens rest : List Token} {p : SyntaxPattern} {c : Connector} {r : Refusal} → ItemAt false scope deepest tokens p (t ∷ rest)
        → connector_of t.word ≡ Some c → ItemsStop end scope c deepest rest r → PatternStops end scope deepest tokens r

  -- items with this connector between
  pub data ItemsStop (end : End) (scope : List Bound) : Connector → ℕ → List Token → Refusal → Type 0 where
    next_item : {c : Connector} {deepest : ℕ} {tokens : List Token} {r : Refusal} → PrimaryStops end scope deepest tokens r → ItemsStop end scope c deepest tokens r
    past_item : {c : Connector} {deepest : ℕ} {t : Token} {tokens rest : List Token} {p : SyntaxPattern} {r : Refusal} → ItemAt false scope deepest tokens p (t ∷ rest)
        → connector_of t.word ≡ Some c → ItemsStop end scope c deepest rest r → ItemsStop end scope c deepest tokens r
    other_connector : {c k : Connector} {deepest : ℕ} {t : Token} {tokens rest : List Token} {p : SyntaxPattern} {r : Refusal} → ItemAt false scope deepest tokens p (t ∷ rest)
        → connector_of t.word ≡ Some k → k ≢ c → Unexpected end (t ∷ rest) r → ItemsStop end scope c deepest tokens r

  pub data PrimaryStops (end : End) (scope : List Bound) : ℕ → List Token → Refusal → Type 0 where
    no_pattern : {deepest : ℕ} {tokens : List Token} {r : Refusal} → NoPattern end tokens r → PrimaryStops end scope deepest tokens r
    element_class : {deepest : ℕ} {t : Token} {tokens : List Token} {r : Refusal} → IsWord (codes "element") t → ClassStops end scope deepest tokens r
        → PrimaryStops end scope deepest (t ∷ tokens) r
    element_content : {deepest : ℕ} {t : Token} {tokens rest : List Token} {c : SyntaxClass} {r : Refusal} → IsWord (codes "element") t → ClassAt scope deepest tokens c rest
        → EnclosedStops end scope 0x7B 0x7D deepest rest r → PrimaryStops end scope deepest (t ∷ tokens) r
    attribute_class : {deepest : ℕ} {t : Token} {tokens : List Token} {r : Refusal} → IsWord (codes "attribute") t → ClassStops end scope deepest tokens r
        → PrimaryStops end scope deepest (t ∷ tokens) r
    attribute_text : {deepest : ℕ} {t : Token} {tokens rest : List Token} {c : SyntaxClass} {r : Refusal} → IsWord (codes "attribute") t → ClassAt scope deepest tokens c rest
        → BracedTextStops end deepest rest r → PrimaryStops end scope deepest (t ∷ tokens) r
    mixed_content : {deepest : ℕ} {t : Token} {tokens : List Token} {r : Refusal} → IsWord (codes "mixed") t → EnclosedStops end scope 0x7B 0x7D deepest tokens r
        → PrimaryStops end scope deepest (t ∷ tokens) r
    parentheses : {deepest : ℕ} {t : Token} {tokens : List Token} {r : Refusal} → IsMark 0x28 t → EnclosedStops end scope 0x28 0x29 deepest (t ∷ tokens) r
        → PrimaryStops end scope deepest (t ∷ tokens) r

  -- a pattern within these marks
  pub data EnclosedStops (end : End) (scope : List Bound) : ℕ → ℕ → ℕ → List Token → Refusal → Type 0 where
    no_mark : {left right deepest : ℕ} {tokens : List Token} {r : Refusal} → LacksMark left tokens → Unexpected end tokens r → EnclosedStops end scope left right deepest tokens r
    deep : {left right : ℕ} {t : Token} {tokens : List Token} → IsMark left t → EnclosedStops end scope left right 0 (t ∷ tokens) (too_deep t.place)
    inside : {left right deepest : ℕ} {t : Token} {tokens : List Token} {r : Refusal} → IsMark left t → PatternStops end scope deepest tokens r
        → EnclosedStops end scope left right (suc deepest) (t ∷ tokens) r
    unclosed : {left right deepest : ℕ} {t : Token} {tokens rest : List Token} {p : SyntaxPattern} {r : Refusal} → IsMark left t → PatternAt false scope deepest tokens p rest
        → LacksMark right rest → Unexpected end rest r → EnclosedStops end scope left right (suc deepest) (t ∷ tokens) r

-- a definition's name stands here, be it `start`
abbrev pub BeginsDefinition : Token → Type 0
BeginsDefinition t = IsWord (codes "start") t ⊎ ((name : List ℕ) × (identifier t.word ≡ Some name))

-- definitions, a `div` among them
mutual
  pub data DefinitionsStop (end : End) (scope : List Bound) : ℕ → List Token → Refusal → Type 0 where
    definition : {deepest : ℕ} {tokens : List Token} {r : Refusal} → DefinitionStops end scope deepest tokens r → DefinitionsStop end scope deepest tokens r
    past_definition : {deepest : ℕ} {tokens rest : List Token} {ds : List Definition} {r : Refusal} → DefinitionAt false scope deepest tokens ds rest
        → DefinitionsStop end scope deepest rest r → DefinitionsStop end scope deepest tokens r

  pub data DefinitionStops (end : End) (scope : List Bound) : ℕ → List Token → Refusal → Type 0 where
    no_definition : {deepest : ℕ} {tokens : List Token} {r : Refusal} → NoDefinition end tokens r → DefinitionStops end scope deepest tokens r
    no_operator : {deepest : ℕ} {t : Token} {tokens : List Token} {r : Refusal} → BeginsDefinition t → ((j : Joins) (rest : List Token) → OperatorAt tokens j rest → ⊥)
        → Unexpected end tokens r → DefinitionStops end scope deepest (t ∷ tokens) r
    pattern : {deepest : ℕ} {t : Token} {tokens rest : List Token} {j : Joins} {r : Refusal} → BeginsDefinition t → OperatorAt tokens j rest
        → PatternStops end scope deepest rest r → DefinitionStops end scope deepest (t ∷ tokens) r
    div : {deepest : ℕ} {t : Token} {tokens : List Token} {r : Refusal} → IsWord (codes "div") t → BlockStops end scope deepest tokens r
        → DefinitionStops end scope deepest (t ∷ tokens) r

  -- definitions within braces
  pub data BlockStops (end : End) (scope : List Bound) : ℕ → List Token → Refusal → Type 0 where
    no_brace : {deepest : ℕ} {tokens : List Token} {r : Refusal} → LacksMark 0x7B tokens → Unexpected end tokens r → BlockStops end scope deepest tokens r
    deep : {t : Token} {tokens : List Token} → IsMark 0x7B t → BlockStops end scope 0 (t ∷ tokens) (too_deep t.place)
    inside : {deepest : ℕ} {t : Token} {tokens : List Token} {r : Refusal} → IsMark 0x7B t → DefinitionsStop end scope deepest tokens r → BlockStops end scope (suc deepest) (t ∷ tokens) r
    unclosed : {deepest : ℕ} {t : Token} {tokens rest : List Token} {ds : List Definition} {r : Refusal} → IsMark 0x7B t → DefinitionsAt false scope deepest tokens ds rest
        → LacksMark 0x7D rest → Unexpected end rest r → BlockStops end scope (suc deepest) (t ∷ tokens) r

-- an equals sign and a namespace name
pub data UriStops (end : End) (inherits : Bool) : List Token → Refusal → Type 0 where
  no_equals : {tokens : List Token} {r : Refusal} → LacksMark 0x3D tokens → Unexpected end tokens r → UriStops end inherits tokens r
  no_namespace_name : {t : Token} {tokens : List Token} {r : Refusal} → IsMark 0x3D t → NoNamespaceName end inherits tokens r → UriStops end inherits (t ∷ tokens) r

-- the same after a prefix
pub data PrefixStops (end : End) (inherits : Bool) : List Token → Refusal → Type 0 where
  no_token : {r : Refusal} → Unexpected end [] r → PrefixStops end inherits [] r
  no_prefix : {t : Token} {tokens : List Token} {r : Refusal} → identifier_or_keyword t.word ≡ None → Unexpected end (t ∷ tokens) r → PrefixStops end inherits (t ∷ tokens) r
  uri : {t : Token} {tokens : List Token} {prefix : List ℕ} {r : Refusal} → identifier_or_keyword t.word ≡ Some prefix → UriStops end inherits tokens r
      → PrefixStops end inherits (t ∷ tokens) r

-- this keyword isn't first
abbrev pub LacksWord : List ℕ → List Token → Type 0
LacksWord s [] = Unit {0}
LacksWord s (t ∷ tokens) = IsWord s t → ⊥

-- Declarations. One that binds what is bound already, or to the namespace of declarations, is refused at its first byte.
pub data DeclarationStops (end : End) (scope : List Bound) : List Token → Refusal → Type 0 where
  namespace_prefix : {t : Token} {tokens : List Token} {r : Refusal} → IsWord (codes "namespace") t → PrefixStops end true tokens r → DeclarationStops end scope (t ∷ tokens) r
  namespace_bound : {t u v w : Token} {after : List Token} {prefix uri : List ℕ} {r : Refusal} → IsWord (codes "namespace") t → identifier_or_keyword u.word ≡ Some prefix → IsMark 0x3D v
      → IsLiteral uri w → ((s : Refusal) → NoNamespaceName end true (w ∷ after) s → ⊥) → (MayBind scope prefix uri → ⊥)
      → Unexpected end (t ∷ u ∷ v ∷ w ∷ after) r → DeclarationStops end scope (t ∷ u ∷ v ∷ w ∷ after) r
  datatypes_prefix : {t : Token} {tokens : List Token} {r : Refusal} → IsWord (codes "datatypes") t → PrefixStops end false tokens r → DeclarationStops end scope (t ∷ tokens) r
  default_word : {s : Token} {tokens : List Token} {r : Refusal} → IsWord (codes "default") s → LacksWord (codes "namespace") tokens → Unexpected end tokens r
      → DeclarationStops end scope (s ∷ tokens) r
  default_uri : {s t u : Token} {tokens : List Token} {r : Refusal} → IsWord (codes "default") s → IsWord (codes "namespace") t → IsMark 0x3D u → UriStops end true (u ∷ tokens) r
      → DeclarationStops end scope (s ∷ t ∷ u ∷ tokens) r
  default_bound : {s t u v : Token} {after : List Token} {uri : List ℕ} {r : Refusal} → IsWord (codes "default") s → IsWord (codes "namespace") t → IsMark 0x3D u
      → IsLiteral uri v → ((r : Refusal) → NoNamespaceName end true (v ∷ after) r → ⊥) → (MayBind scope [] uri → ⊥)
      → Unexpected end (s ∷ t ∷ u ∷ v ∷ after) r → DeclarationStops end scope (s ∷ t ∷ u ∷ v ∷ after) r
  both_prefix : {s t : Token} {tokens : List Token} {r : Refusal} → IsWord (codes "default") s → IsWord (codes "namespace") t → LacksMark 0x3D tokens → PrefixStops end true tokens r
      → DeclarationStops end scope (s ∷ t ∷ tokens) r
  both_bound : {s t u v w : Token} {after : List Token} {prefix uri : List ℕ} {r : Refusal} → IsWord (codes "default") s → IsWord (codes "namespace") t
      → identifier_or_keyword u.word ≡ Some prefix → IsMark 0x3D v → IsLiteral uri w → ((r : Refusal) → NoNamespaceName end true (w ∷ after) r → ⊥)
      → (MayBind scope [] uri → MayBind scope prefix uri → ⊥)
      → Unexpected end (s ∷ t ∷ u ∷ v ∷ w ∷ after) r → DeclarationStops end scope (s ∷ t ∷ u ∷ v ∷ w ∷ after) r

-- what begins here is definitions and no pattern, by its first tokens
abbrev pub BeginsDefinitions : List Token → Type 0
BeginsDefinitions [] = Unit {0}
BeginsDefinitions (t ∷ tokens) =
    IsWord (codes "start") t ⊎ (IsWord (codes "div") t ⊎ (IsWord (codes "include") t
    ⊎ ((name : List ℕ) × ((j : Joins) × ((rest : List Token) × ((identifier t.word ≡ Some name) × OperatorAt tokens j rest))))))

-- what begins here is neither a declaration, a grammar nor definitions
pub record BeginsOnePattern (t : Token) (tokens : List Token) : Type 0 where
  pub no_namespace : IsWord (codes "namespace") t → ⊥
  pub no_default : IsWord (codes "default") t → ⊥
  pub no_datatypes : IsWord (codes "datatypes") t → ⊥
  pub no_grammar : IsWord (codes "grammar") t → ⊥
  pub no_start : IsWord (codes "start") t → ⊥
  pub no_div : IsWord (codes "div") t → ⊥
  pub no_include : IsWord (codes "include") t → ⊥
  pub no_definition : (name : List ℕ) (j : Joins) (rest : List Token) → identifier t.word ≡ Some name → OperatorAt tokens j rest → ⊥

-- definitions within braces
pub data BlockAt (others : Bool) (scope : List Bound) : ℕ → List Token → List Definition → List Token → Type 0 where
  block : {deepest : ℕ} {t u : Token} {inside after : List Token} {ds : List Definition} → IsMark 0x7B t → DefinitionsAt others scope deepest inside ds (u ∷ after) → IsMark 0x7D u
      → BlockAt others scope (suc deepest) (t ∷ inside) ds after

-- a pattern would go on here, with a connector or a suffix
abbrev pub GoesOnAsPattern : List Token → Type 0
GoesOnAsPattern tokens = ((c : Connector) × (connector_at tokens ≡ Some c)) ⊎ ((s : Suffix) × (suffix_at tokens ≡ Some s))

-- a whole schema
pub data SchemaStops (end : End) : List Bound → ℕ → List Token → Refusal → Type 0 where
  in_declaration : {scope : List Bound} {deepest : ℕ} {tokens : List Token} {r : Refusal} → DeclarationStops end scope tokens r → SchemaStops end scope deepest tokens r
  past_declaration : {scope within : List Bound} {deepest : ℕ} {tokens rest : List Token} {r : Refusal} → DeclarationAt scope tokens within rest
      → ((s : Refusal) → DeclarationStops end scope tokens s → ⊥) → SchemaStops end within deepest rest r → SchemaStops end scope deepest tokens r
  in_grammar : {scope : List Bound} {deepest : ℕ} {t : Token} {tokens : List Token} {r : Refusal} → IsWord (codes "grammar") t → BlockStops end scope deepest tokens r
      → SchemaStops end scope deepest (t ∷ tokens) r
  inner_grammar : {scope : List Bound} {deepest : ℕ} {t : Token} {tokens rest : List Token} {ds : List Definition} → IsWord (codes "grammar") t
      → BlockAt false scope deepest tokens ds rest → GoesOnAsPattern rest → SchemaStops end scope deepest (t ∷ tokens) (unsupported NestedGrammar t.place)
  past_grammar : {scope : List Bound} {deepest : ℕ} {t u : Token} {tokens rest : List Token} {ds : List Definition} {r : Refusal} → IsWord (codes "grammar") t
      → BlockAt false scope deepest tokens ds (u ∷ rest) → (GoesOnAsPattern (u ∷ rest) → ⊥) → Unexpected end (u ∷ rest) r → SchemaStops end scope deepest (t ∷ tokens) r
  in_definitions : {scope : List Bound} {deepest : ℕ} {tokens : List Token} {r : Refusal} → BeginsDefinitions tokens → DefinitionsStop end scope deepest tokens r
      → SchemaStops end scope deepest tokens r
  past_definitions : {scope : List Bound} {deepest : ℕ} {t : Token} {tokens rest : List Token} {ds : List Definition} {r : Refusal} → BeginsDefinitions tokens
      → DefinitionsAt false scope deepest tokens ds (t ∷ rest) → Unexpected end (t ∷ rest) r → SchemaStops end scope deepest tokens r
  in_pattern : {scope : List Bound} {deepest : ℕ} {t : Token} {tokens : List Token} {r : Refusal} → BeginsOnePattern t tokens → PatternStops end scope deepest (t ∷ tokens) r
      → SchemaStops end scope deepest (t ∷ tokens) r
  past_pattern : {scope : List Bound} {deepest : ℕ} {t u : Token} {tokens rest : List Token} {p : SyntaxPattern} {r : Refusal} → BeginsOnePattern t tokens
      → PatternAt false scope deepest (t ∷ tokens) p (u ∷ rest) → Unexpected end (u ∷ rest) r → SchemaStops end scope deepest (t ∷ tokens) r
