-- What is malformed is so at a token, or where the tokens end.
use Rattle.std.proofs.Common.{◌≡◌, ◌⊎◌, inl, inr, ℕ, Bool, List, ◌∷◌, refl}
use Rattle.tc_model.specs.RawTrees.{Bound}
use Rattle.tc_model.specs.CompactSyntaxTokens.{Token}
use Rattle.tc_model.specs.CompactSyntaxPatterns.{Connector}
use Rattle.tc_model.specs.CompactSyntaxUnread.{Refusal, malformed, unsupported, too_deep, End, Unexpected, escape, annotation, other, unclosed, at_end, LiteralStops, escape_within, three_quotes, NoPattern, NoDefinition, include, NoNamespaceName, inherit, concatenation}
use Rattle.tc_model.specs.CompactSyntaxUnread as u
use Rattle.tc_model.specs.CompactSyntaxStops as st
use Rattle.tc_model.specs.CompactSyntaxStops.{ClassStops, SimpleStops, BalancedStops, BracedTextStops, PatternStops, ItemsStop, PrimaryStops, EnclosedStops, DefinitionsStop, DefinitionStops, BlockStops, UriStops, PrefixStops, DeclarationStops, SchemaStops}
use Rattle.tc_model.proofs.CompactSyntaxBehind.{Behind, none_yet, past, behind_behind, behind_first, class_behind, simple_behind, balanced_behind, pattern_behind, item_behind, operator_behind, definition_behind, definitions_behind, block_behind, declaration_behind}

-- one of these tokens stands there
pub record AtToken (tokens : List Token) (place : ℕ) : Type 0 where
  pub token : Token
  pub after : List Token
  pub behind : Behind tokens (token ∷ after)
  pub there : place ≡ token.place

abbrev pub IsThere : End → List Token → Refusal → Type 0
IsThere end tokens (malformed place) = (place ≡ end.place) ⊎ AtToken tokens place
IsThere end tokens _ = Unit {0}

pub record Standing (end : End) (tokens : List Token) (r : Refusal) : Type 0 where
  pub it : IsThere end tokens r

further : {end : End} {ts us : List Token} {r : Refusal} → Behind ts us → Standing end us r → Standing end ts r
further {end} {ts} {us} {r} b h = record { it = by r h.it }
  where
    by : (r : Refusal) → IsThere end us r → IsThere end ts r
    by (malformed p) (inl e) = inl e
    by (malformed p) (inr a) = inr (record { token = a.token; after = a.after; behind = behind_behind b a.behind; there = a.there })
    by (unsupported w p) h = tt
    by (too_deep p) h = tt

first : {end : End} {t : Token} {ts : List Token} {r : Refusal} → Standing end ts r → Standing end (t ∷ ts) r
first h = further (past none_yet) h

unexpected_there : {end : End} {ts : List Token} {r : Refusal} → Unexpected end ts r → Standing end ts r
unexpected_there (escape h) = record { it = tt }
unexpected_there (annotation h) = record { it = tt }
unexpected_there (other {t = t} {after = us} h k) = record { it = inr (record { token = t; after = us; behind = none_yet; there = refl }) }
unexpected_there (unclosed h) = record { it = tt }
unexpected_there (at_end h) = record { it = inl refl }

literal_there : {end : End} {ts : List Token} {r : Refusal} → LiteralStops ts r → Standing end ts r
literal_there (escape_within h) = record { it = tt }
literal_there (three_quotes h k) = record { it = tt }

no_pattern_there : {end : End} {ts : List Token} {r : Refusal} → NoPattern end ts r → Standing end ts r
no_pattern_there (u.unread e) = record { it = tt }
no_pattern_there (u.a_literal e y) = literal_there y
no_pattern_there (u.value e g) = record { it = tt }
no_pattern_there (u.none b y) = unexpected_there y
no_pattern_there (u.no_token y) = unexpected_there y

no_definition_there : {end : End} {ts : List Token} {r : Refusal} → NoDefinition end ts r → Standing end ts r
no_definition_there (include k) = record { it = tt }
no_definition_there (u.none b y) = unexpected_there y

no_namespace_name_there : {end : End} {i : Bool} {ts : List Token} {r : Refusal} → NoNamespaceName end i ts r → Standing end ts r
no_namespace_name_there (inherit h k) = record { it = tt }
no_namespace_name_there (u.a_literal e y) = literal_there y
no_namespace_name_there (concatenation e g k) = record { it = tt }
no_namespace_name_there (u.none h n y) = unexpected_there y
no_namespace_name_there (u.no_token y) = unexpected_there y

mutual
  class_there : {end : End} {scope : List Bound} {m : ℕ} {ts : List Token} {r : Refusal} → ClassStops end scope m ts r → Standing end ts r
  class_there (st.simple a) = simple_there a
  class_there (st.past_bar a k y) = further (behind_first (simple_behind a)) (class_there y)

  simple_there : {end : End} {scope : List Bound} {m : ℕ} {ts : List Token} {r : Refusal} → SimpleStops end scope m ts r → Standing end ts r
  simple_there (st.no_token y) = unexpected_there y
  simple_there (st.no_class b y) = unexpected_there y
  simple_there (st.namespace_except a e k y) = first (first (simple_there y))
  simple_there (st.any_except a k y) = first (first (simple_there y))
  simple_there (st.deep a) = record { it = tt }
  simple_there (st.inside a y) = first (class_there y)
  simple_there (st.unclosed a l h y) = first (further (class_behind l) (unexpected_there y))

balanced_there : {end : End} {m : ℕ} {ts : List Token} {r : Refusal} → BalancedStops end m ts r → Standing end ts r
balanced_there st.at_end = record { it = inl refl }
balanced_there (st.deep a) = record { it = tt }
balanced_there (st.inside a y) = first (balanced_there y)
balanced_there (st.past_braces a l y) = first (further (balanced_behind l) (balanced_there y))
balanced_there (st.past_token h k y) = first (balanced_there y)

braced_text_there : {end : End} {m : ℕ} {ts : List Token} {r : Refusal} → BracedTextStops end m ts r → Standing end ts r
braced_text_there (st.no_brace h y) = unexpected_there y
braced_text_there (st.deep a) = record { it = tt }
braced_text_there (st.inside a y) = first (balanced_there y)

mutual
  pattern_there : {end : End} {scope : List Bound} {m : ℕ} {ts : List Token} {r : Refusal} → PatternStops end scope m ts r → Standing end ts r
  pattern_there (st.first_item a) = primary_there a
  pattern_there (st.past_connector a e y) = further (behind_first (item_behind a)) (items_there y)

  items_there : {end : End} {scope : List Bound} {c : Connector} {m : ℕ} {ts : List Token} {r : Refusal} → ItemsStop end scope c m ts r → Standing end ts r
  items_there (st.next_item a) = primary_there a
  items_there (st.past_item a e y) = further (behind_first (item_behind a)) (items_there y)
  items_there (st.other_connector a e k y) = further (item_behind a) (unexpected_there y)

  primary_there : {end : End} {scope : List Bound} {m : ℕ} {ts : List Token} {r : Refusal} → PrimaryStops end scope m ts r → Standing end ts r
  primary_there (st.no_pattern y) = no_pattern_there y
  primary_there (st.element_class a y) = first (class_there y)
  primary_there (st.element_content a l y) = first (further (class_behind l) (enclosed_there y))
  primary_there (st.attribute_class a y) = first (class_there y)
  primary_there (st.attribute_text a l y) = first (further (class_behind l) (braced_text_there y))
  primary_there (st.mixed_content a y) = first (enclosed_there y)
  primary_there (st.parentheses a y) = enclosed_there y

  enclosed_there : {end : End} {scope : List Bound} {left right m : ℕ} {ts : List Token} {r : Refusal} → EnclosedStops end scope left right m ts r → Standing end ts r
  enclosed_there (st.no_mark h y) = unexpected_there y
  enclosed_there (st.deep a) = record { it = tt }
  enclosed_there (st.inside a y) = first (pattern_there y)
  enclosed_there (st.unclosed a l h y) = first (further (pattern_behind l) (unexpected_there y))

mutual
  definitions_there : {end : End} {scope : List Bound} {m : ℕ} {ts : List Token} {r : Refusal} → DefinitionsStop end scope m ts r → Standing end ts r
  definitions_there (st.definition a) = definition_there a
  definitions_there (st.past_definition a y) = further (definition_behind a) (definitions_there y)

  definition_there : {end : End} {scope : List Bound} {m : ℕ} {ts : List Token} {r : Refusal} → DefinitionStops end scope m ts r → Standing end ts r
  definition_there (st.no_definition y) = no_definition_there y
  definition_there (st.no_operator b k y) = first (unexpected_there y)
  definition_there (st.pattern b a y) = first (further (operator_behind a) (pattern_there y))
  definition_there (st.div k y) = first (block_there y)

  block_there : {end : End} {scope : List Bound} {m : ℕ} {ts : List Token} {r : Refusal} → BlockStops end scope m ts r → Standing end ts r
  block_there (st.no_brace h y) = unexpected_there y
  block_there (st.deep a) = record { it = tt }
  block_there (st.inside a y) = first (definitions_there y)
  block_there (st.unclosed a l h y) = first (further (definitions_behind l) (unexpected_there y))

uri_there : {end : End} {i : Bool} {ts : List Token} {r : Refusal} → UriStops end i ts r → Standing end ts r
uri_there (st.no_equals h y) = unexpected_there y
uri_there (st.no_namespace_name k y) = first (no_namespace_name_there y)

prefix_there : {end : End} {i : Bool} {ts : List Token} {r : Refusal} → PrefixStops end i ts r → Standing end ts r
prefix_there (st.no_token y) = unexpected_there y
prefix_there (st.no_prefix h y) = unexpected_there y
prefix_there (st.uri e y) = first (uri_there y)

declaration_there : {end : End} {scope : List Bound} {ts : List Token} {r : Refusal} → DeclarationStops end scope ts r → Standing end ts r
declaration_there (st.namespace_prefix a y) = first (prefix_there y)
declaration_there (st.namespace_bound a b c d h n y) = unexpected_there y
declaration_there (st.datatypes_prefix a y) = first (prefix_there y)
declaration_there (st.default_word a h y) = first (unexpected_there y)
declaration_there (st.default_uri a b c y) = first (first (uri_there y))
declaration_there (st.default_bound a b c d h n y) = unexpected_there y
declaration_there (st.both_prefix a b h y) = first (first (prefix_there y))
declaration_there (st.both_bound a b c d e h n y) = unexpected_there y

pub schema_there : {end : End} {scope : List Bound} {m : ℕ} {ts : List Token} {r : Refusal} → SchemaStops end scope m ts r → Standing end ts r
schema_there (st.in_declaration y) = declaration_there y
schema_there (st.past_declaration a h y) = further (declaration_behind a) (schema_there y)
schema_there (st.in_grammar k y) = first (block_there y)
schema_there (st.inner_grammar k b g) = record { it = tt }
schema_there (st.past_grammar k b g y) = first (further (block_behind b) (unexpected_there y))
schema_there (st.in_definitions b y) = definitions_there y
schema_there (st.past_definitions b l y) = further (definitions_behind l) (unexpected_there y)
schema_there (st.in_pattern b y) = pattern_there y
schema_there (st.past_pattern b l y) = further (pattern_behind l) (unexpected_there y)

pub unexpected_stands : {end : End} {ts : List Token} {r : Refusal} → Unexpected end ts r → Standing end ts r
unexpected_stands y = unexpected_there y
