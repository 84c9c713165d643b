-- The reading of a schema stops at one place, for one reason.
use Rattle.std.proofs.Common.{◌≡◌, ◌⊎◌, inl, inr, ℕ, suc, ◌≤◌, Bool, List, ◌∷◌, refl, ap, ◌∙◌, sym, subst, arith, Some, codes}
use Rattle.tc_model.specs.RawTrees.{Bound}
use Rattle.tc_model.specs.CompactSyntaxTokens.{Token}
use Rattle.tc_model.specs.CompactSyntaxNames.{IsWord, IsMark, identifier_or_keyword, DeclarationAt, namespace, default_namespace, both, datatypes}
use Rattle.tc_model.specs.CompactSyntaxPatterns.{Connector, connector_at, suffix_at}
use Rattle.tc_model.specs.CompactSyntaxUnread.{Refusal, End, NoPattern, NoDefinition, include, NoNamespaceName}
use Rattle.tc_model.specs.CompactSyntaxUnread as u
use Rattle.tc_model.specs.CompactSyntaxStops as st
use Rattle.tc_model.specs.CompactSyntaxStops.{ClassStops, SimpleStops, BalancedStops, BracedTextStops, PatternStops, ItemsStop, PrimaryStops, EnclosedStops, BeginsDefinition, DefinitionsStop, DefinitionStops, BlockStops, UriStops, no_equals, no_namespace_name, PrefixStops, no_prefix, uri, DeclarationStops, namespace_prefix, namespace_bound, datatypes_prefix, default_word, default_uri, default_bound, both_prefix, both_bound, BeginsDefinitions, BeginsOnePattern, GoesOnAsPattern, SchemaStops, in_declaration, past_declaration, in_grammar, inner_grammar, past_grammar, in_definitions, past_definitions, in_pattern, past_pattern}
use Rattle.tc_model.proofs.CompactSyntaxClassesUnique.{apart, same_some, some_none, same_tail, kind_at, word_kind, keyword_kind, namespace_kind, default_kind, datatypes_kind, grammar_kind, start_kind, div_kind, identifier_kind, simple_word, simple_at, simple_unique, class_unique, declaration_unique}
use Rattle.tc_model.proofs.CompactSyntaxClassesUnique as q
use Rattle.tc_model.proofs.CompactSyntaxUnique.{balanced_unique, same_connector, item_unique, pattern_unique, operator_unique, definition_unique, definitions_unique}
use Rattle.tc_model.proofs.CompactSyntaxUnread.{unexpected_unique, unexpected_one, no_pattern_unique, no_definition_unique, no_namespace_name_unique}
use Rattle.tc_model.proofs.CompactSyntaxStopsExclude.{excludes_same, simple_stops, simple_stops_at, class_excludes, simple_excludes, balanced_excludes, begins_element, begins_attribute, begins_mixed, begins_parenthesis, no_pattern_begins, primary_stops, primary_stops_at, item_excludes, pattern_excludes, include_kind, no_block_begins, definition_excludes, definitions_excludes}
use Rattle.tc_model.proofs.CompactSyntaxStopsSchemas.{declaration_stops, declaration_stops_at, definitions_begin, not_between, block_unique, whole_block_excludes}

-- Name classes.

mutual
  unfolding simple_stops

  pub class_once : {end : End} {scope : List Bound} {m : ℕ} {ts : List Token} {r v : Refusal} → ClassStops end scope m ts r → ClassStops end scope m ts v → r ≡ v
  class_once (st.simple a) (st.simple b) = simple_once a b
  class_once {m = m} {r = r} (st.simple a) (st.past_bar b k y) = absurd (simple_excludes b a (excludes_same r m))
  class_once {m = m} {v = v} (st.past_bar b k y) (st.simple a) = absurd (simple_excludes b a (excludes_same v m))
  class_once {end} {scope} {m} {v = v} (st.past_bar a k y) (st.past_bar b l z) = class_once y (subst (λ w. ClassStops end scope m w v) (sym (same_tail (simple_unique a b).1)) z)

  pub simple_once : {end : End} {scope : List Bound} {m : ℕ} {ts : List Token} {r v : Refusal} → SimpleStops end scope m ts r → SimpleStops end scope m ts v → r ≡ v
  simple_once (st.no_token a) (st.no_token b) = unexpected_unique a b
  simple_once (st.no_class b y) (st.no_class c z) = unexpected_unique y z
  simple_once (st.no_class b y) (st.namespace_except {prefix = x} a e k z) = absurd (some_none e (b.no_namespace x a))
  simple_once (st.no_class b y) (st.any_except a k z) = absurd (b.no_asterisk a)
  simple_once (st.no_class b y) (st.deep a) = absurd (b.no_parenthesis a)
  simple_once (st.no_class b y) (st.inside a z) = absurd (b.no_parenthesis a)
  simple_once (st.no_class b y) (st.unclosed a l h z) = absurd (b.no_parenthesis a)
  simple_once (st.namespace_except {prefix = x} a e k z) (st.no_class b y) = absurd (some_none e (b.no_namespace x a))
  simple_once (st.any_except a k z) (st.no_class b y) = absurd (b.no_asterisk a)
  simple_once (st.deep a) (st.no_class b y) = absurd (b.no_parenthesis a)
  simple_once (st.inside a z) (st.no_class b y) = absurd (b.no_parenthesis a)
  simple_once (st.unclosed a l h z) (st.no_class b y) = absurd (b.no_parenthesis a)
  simple_once (st.namespace_except a e k y) (st.namespace_except b f l z) = simple_once y z
  simple_once (st.any_except a k y) (st.any_except b l z) = simple_once y z
  simple_once (st.deep a) (st.deep b) = refl
  simple_once (st.inside a y) (st.inside b z) = class_once y z
  simple_once {r = r} (st.inside {deepest = m} a y) (st.unclosed b l h z) = absurd (class_excludes l y (excludes_same r m))
  simple_once {v = v} (st.unclosed b l h z) (st.inside {deepest = m} a y) = absurd (class_excludes l y (excludes_same v m))
  simple_once (st.unclosed a l h y) (st.unclosed b l' h' z) = unexpected_one (class_unique l l').1 y z
  simple_once a b = absurd (apart (simple_stops_at a) (simple_stops_at b) refl)

-- The text of an attribute.

pub balanced_once : {end : End} {m : ℕ} {ts : List Token} {r v : Refusal} → BalancedStops end m ts r → BalancedStops end m ts v → r ≡ v
balanced_once st.at_end st.at_end = refl
balanced_once (st.deep a) (st.deep b) = refl
balanced_once (st.deep a) (st.past_token h k y) = absurd (h a)
balanced_once (st.inside a y) (st.inside b z) = balanced_once y z
balanced_once {r = r} (st.inside {deepest = m} a y) (st.past_braces b l z) = absurd (balanced_excludes l y (excludes_same r m))
balanced_once (st.inside a y) (st.past_token h k z) = absurd (h a)
balanced_once {v = v} (st.past_braces b l z) (st.inside {deepest = m} a y) = absurd (balanced_excludes l y (excludes_same v m))
balanced_once {end} {v = v} (st.past_braces {deepest = m} a l y) (st.past_braces b l' z) = balanced_once y (subst (λ w. BalancedStops end (suc m) w v) (sym (balanced_unique l l')) z)
balanced_once (st.past_braces a l y) (st.past_token h k z) = absurd (h a)
balanced_once (st.past_token h k y) (st.deep a) = absurd (h a)
balanced_once (st.past_token h k z) (st.inside a y) = absurd (h a)
balanced_once (st.past_token h k z) (st.past_braces a l y) = absurd (h a)
balanced_once (st.past_token h k y) (st.past_token h' k' z) = balanced_once y z

pub braced_text_once : {end : End} {m : ℕ} {ts : List Token} {r v : Refusal} → BracedTextStops end m ts r → BracedTextStops end m ts v → r ≡ v
braced_text_once (st.no_brace h y) (st.no_brace k z) = unexpected_unique y z
braced_text_once (st.no_brace h y) (st.deep a) = absurd (h a)
braced_text_once (st.no_brace h y) (st.inside a z) = absurd (h a)
braced_text_once (st.deep a) (st.no_brace h y) = absurd (h a)
braced_text_once (st.deep a) (st.deep b) = refl
braced_text_once (st.inside a z) (st.no_brace h y) = absurd (h a)
braced_text_once (st.inside a y) (st.inside b z) = balanced_once y z

-- Patterns.

mutual
  unfolding primary_stops

  pub pattern_once : {end : End} {scope : List Bound} {m : ℕ} {ts : List Token} {r v : Refusal} → PatternStops end scope m ts r → PatternStops end scope m ts v → r ≡ v
  pattern_once (st.first_item a) (st.first_item b) = primary_once a b
  pattern_once {m = m} {r = r} (st.first_item a) (st.past_connector b e y) = absurd (item_excludes b a (excludes_same r m))
  pattern_once {m = m} {v = v} (st.past_connector b e y) (st.first_item a) = absurd (item_excludes b a (excludes_same v m))
  pattern_once {end} {scope} {m} {v = v} (st.past_connector {c = c} a e y) (st.past_connector {rest = us} b f z) =
      let both = (item_unique a b).1 in
      let moved = subst (λ w. ItemsStop end scope w m us v) (sym (same_connector both e f)) z in
      items_once y (subst (λ w. ItemsStop end scope c m w v) (sym (same_tail both)) moved)

  pub items_once : {end : End} {scope : List Bound} {c : Connector} {m : ℕ} {ts : List Token} {r v : Refusal} → ItemsStop end scope c m ts r → ItemsStop end scope c m ts v → r ≡ v
  items_once (st.next_item a) (st.next_item b) = primary_once a b
  items_once {m = m} {r = r} (st.next_item a) (st.past_item b e y) = absurd (item_excludes b a (excludes_same r m))
  items_once {m = m} {r = r} (st.next_item a) (st.other_connector b e k y) = absurd (item_excludes b a (excludes_same r m))
  items_once {m = m} {v = v} (st.past_item b e y) (st.next_item a) = absurd (item_excludes b a (excludes_same v m))
  items_once {end} {scope} {c} {m} {v = v} (st.past_item a e y) (st.past_item b f z) = items_once y (subst (λ w. ItemsStop end scope c m w v) (sym (same_tail (item_unique a b).1)) z)
  items_once (st.past_item a e y) (st.other_connector b f k z) = absurd (k (sym (same_connector (item_unique a b).1 e f)))
  items_once {m = m} {v = v} (st.other_connector b e k y) (st.next_item a) = absurd (item_excludes b a (excludes_same v m))
  items_once (st.other_connector b f k z) (st.past_item a e y) = absurd (k (sym (same_connector (item_unique a b).1 e f)))
  items_once (st.other_connector a e k y) (st.other_connector b f k' z) = unexpected_one (item_unique a b).1 y z

  pub primary_once : {end : End} {scope : List Bound} {m : ℕ} {ts : List Token} {r v : Refusal} → PrimaryStops end scope m ts r → PrimaryStops end scope m ts v → r ≡ v
  primary_once (st.no_pattern y) (st.no_pattern z) = no_pattern_unique y z
  primary_once (st.no_pattern y) (st.element_class a z) = absurd (no_pattern_begins (begins_element a) y)
  primary_once (st.no_pattern y) (st.element_content a l z) = absurd (no_pattern_begins (begins_element a) y)
  primary_once (st.no_pattern y) (st.attribute_class a z) = absurd (no_pattern_begins (begins_attribute a) y)
  primary_once (st.no_pattern y) (st.attribute_text a l z) = absurd (no_pattern_begins (begins_attribute a) y)
  primary_once (st.no_pattern y) (st.mixed_content a z) = absurd (no_pattern_begins (begins_mixed a) y)
  primary_once (st.no_pattern y) (st.parentheses a z) = absurd (no_pattern_begins (begins_parenthesis a) y)
  primary_once (st.element_class a z) (st.no_pattern y) = absurd (no_pattern_begins (begins_element a) y)
  primary_once (st.element_content a l z) (st.no_pattern y) = absurd (no_pattern_begins (begins_element a) y)
  primary_once (st.attribute_class a z) (st.no_pattern y) = absurd (no_pattern_begins (begins_attribute a) y)
  primary_once (st.attribute_text a l z) (st.no_pattern y) = absurd (no_pattern_begins (begins_attribute a) y)
  primary_once (st.mixed_content a z) (st.no_pattern y) = absurd (no_pattern_begins (begins_mixed a) y)
  primary_once (st.parentheses a z) (st.no_pattern y) = absurd (no_pattern_begins (begins_parenthesis a) y)
  primary_once (st.element_class a y) (st.element_class b z) = class_once y z
  primary_once {m = m} {r = r} (st.element_class a y) (st.element_content b l z) = absurd (class_excludes l y (excludes_same r m))
  primary_once {m = m} {v = v} (st.element_content b l z) (st.element_class a y) = absurd (class_excludes l y (excludes_same v m))
  primary_once {end} {scope} {m} {v = v} (st.element_content a l y) (st.element_content b l' z) =
      enclosed_once y (subst (λ w. EnclosedStops end scope 0x7B 0x7D m w v) (sym (class_unique l l').1) z)
  primary_once (st.attribute_class a y) (st.attribute_class b z) = class_once y z
  primary_once {m = m} {r = r} (st.attribute_class a y) (st.attribute_text b l z) = absurd (class_excludes l y (excludes_same r m))
  primary_once {m = m} {v = v} (st.attribute_text b l z) (st.attribute_class a y) = absurd (class_excludes l y (excludes_same v m))
  primary_once {end} {m = m} {v = v} (st.attribute_text a l y) (st.attribute_text b l' z) =
      braced_text_once y (subst (λ w. BracedTextStops end m w v) (sym (class_unique l l').1) z)
  primary_once (st.mixed_content a y) (st.mixed_content b z) = enclosed_once y z
  primary_once (st.parentheses a y) (st.parentheses b z) = enclosed_once y z
  primary_once a b = absurd (apart (primary_stops_at a) (primary_stops_at b) refl)

  enclosed_once : {end : End} {scope : List Bound} {left right m : ℕ} {ts : List Token} {r v : Refusal} → EnclosedStops end scope left right m ts r → EnclosedStops end scope left right m ts v → r ≡ v
  enclosed_once (st.no_mark h y) (st.no_mark k z) = unexpected_unique y z
  enclosed_once (st.no_mark h y) (st.deep a) = absurd (h a)
  enclosed_once (st.no_mark h y) (st.inside a z) = absurd (h a)
  enclosed_once (st.no_mark h y) (st.unclosed a l k z) = absurd (h a)
  enclosed_once (st.deep a) (st.no_mark h y) = absurd (h a)
  enclosed_once (st.deep a) (st.deep b) = refl
  enclosed_once (st.inside a z) (st.no_mark h y) = absurd (h a)
  enclosed_once (st.inside a y) (st.inside b z) = pattern_once y z
  enclosed_once {r = r} (st.inside {deepest = m} a y) (st.unclosed b l k z) = absurd (pattern_excludes l y (excludes_same r m))
  enclosed_once (st.unclosed a l k z) (st.no_mark h y) = absurd (h a)
  enclosed_once {v = v} (st.unclosed b l k z) (st.inside {deepest = m} a y) = absurd (pattern_excludes l y (excludes_same v m))
  enclosed_once (st.unclosed a l k y) (st.unclosed b l' k' z) = unexpected_one (pattern_unique l l').1 y z

-- Definitions.

-- where a definition begins, one does
begins_one : {end : End} {t : Token} {ts : List Token} {r : Refusal} → BeginsDefinition t → NoDefinition end (t ∷ ts) r → ⊥
begins_one {t = t} (inl k) (include h) = omega (arith, start_kind k, include_kind h)
begins_one {t = t} (inr (x, e)) (include h) = omega (arith, identifier_kind t.word e, include_kind h)
begins_one (inl k) (u.none b y) = b.no_start k
begins_one (inr (x, e)) (u.none b y) = some_none e b.no_name

begins_div : {end : End} {t : Token} {ts : List Token} {r : Refusal} → IsWord (codes "div") t → NoDefinition end (t ∷ ts) r → ⊥
begins_div k (include h) = omega (arith, div_kind k, include_kind h)
begins_div k (u.none b y) = b.no_div k

mutual
  pub definitions_once : {end : End} {scope : List Bound} {m : ℕ} {ts : List Token} {r v : Refusal} → DefinitionsStop end scope m ts r → DefinitionsStop end scope m ts v → r ≡ v
  definitions_once (st.definition a) (st.definition b) = definition_once a b
  definitions_once {m = m} {r = r} (st.definition a) (st.past_definition b y) = absurd (definition_excludes b a (excludes_same r m))
  definitions_once {m = m} {v = v} (st.past_definition b y) (st.definition a) = absurd (definition_excludes b a (excludes_same v m))
  definitions_once {end} {scope} {m} {v = v} (st.past_definition a y) (st.past_definition b z) =
      definitions_once y (subst (λ w. DefinitionsStop end scope m w v) (sym (definition_unique a b).1) z)

  pub definition_once : {end : End} {scope : List Bound} {m : ℕ} {ts : List Token} {r v : Refusal} → DefinitionStops end scope m ts r → DefinitionStops end scope m ts v → r ≡ v
  definition_once (st.no_definition y) (st.no_definition z) = no_definition_unique y z
  definition_once (st.no_definition y) (st.no_operator b k z) = absurd (begins_one b y)
  definition_once (st.no_definition y) (st.pattern b a z) = absurd (begins_one b y)
  definition_once (st.no_definition y) (st.div k z) = absurd (begins_div k y)
  definition_once (st.no_operator b k z) (st.no_definition y) = absurd (begins_one b y)
  definition_once (st.no_operator b k y) (st.no_operator c l z) = unexpected_unique y z
  definition_once (st.no_operator b k y) (st.pattern {rest = us} {j = j} c a z) = absurd (k j us a)
  definition_once (st.no_operator {t = t} b k y) (st.div l z) = absurd (no_block_begins t l b)
  definition_once (st.pattern b a z) (st.no_definition y) = absurd (begins_one b y)
  definition_once (st.pattern {rest = us} {j = j} c a z) (st.no_operator b k y) = absurd (k j us a)
  definition_once {end} {scope} {m} {v = v} (st.pattern b a y) (st.pattern c a' z) = pattern_once y (subst (λ w. PatternStops end scope m w v) (sym (operator_unique a a').1) z)
  definition_once (st.pattern {t = t} b a y) (st.div l z) = absurd (no_block_begins t l b)
  definition_once (st.div k z) (st.no_definition y) = absurd (begins_div k y)
  definition_once (st.div {t = t} l z) (st.no_operator b k y) = absurd (no_block_begins t l b)
  definition_once (st.div {t = t} l z) (st.pattern b a y) = absurd (no_block_begins t l b)
  definition_once (st.div k y) (st.div l z) = block_once y z

  pub block_once : {end : End} {scope : List Bound} {m : ℕ} {ts : List Token} {r v : Refusal} → BlockStops end scope m ts r → BlockStops end scope m ts v → r ≡ v
  block_once (st.no_brace h y) (st.no_brace k z) = unexpected_unique y z
  block_once (st.no_brace h y) (st.deep a) = absurd (h a)
  block_once (st.no_brace h y) (st.inside a z) = absurd (h a)
  block_once (st.no_brace h y) (st.unclosed a l k z) = absurd (h a)
  block_once (st.deep a) (st.no_brace h y) = absurd (h a)
  block_once (st.deep a) (st.deep b) = refl
  block_once (st.inside a z) (st.no_brace h y) = absurd (h a)
  block_once (st.inside a y) (st.inside b z) = definitions_once y z
  block_once {r = r} (st.inside {deepest = m} a y) (st.unclosed b l k z) = absurd (definitions_excludes l y (excludes_same r m))
  block_once (st.unclosed a l k z) (st.no_brace h y) = absurd (h a)
  block_once {v = v} (st.unclosed b l k z) (st.inside {deepest = m} a y) = absurd (definitions_excludes l y (excludes_same v m))
  block_once (st.unclosed a l k y) (st.unclosed b l' k' z) = unexpected_one (definitions_unique l l').1 y z

-- Declarations.

uri_once : {end : End} {i : Bool} {ts : List Token} {r v : Refusal} → UriStops end i ts r → UriStops end i ts v → r ≡ v
uri_once (no_equals h y) (no_equals k z) = unexpected_unique y z
uri_once (no_equals h y) (no_namespace_name e z) = absurd (h e)
uri_once (no_namespace_name e z) (no_equals h y) = absurd (h e)
uri_once (no_namespace_name e y) (no_namespace_name f z) = no_namespace_name_unique y z

prefix_once : {end : End} {i : Bool} {ts : List Token} {r v : Refusal} → PrefixStops end i ts r → PrefixStops end i ts v → r ≡ v
prefix_once (st.no_token y) (st.no_token z) = unexpected_unique y z
prefix_once (no_prefix h y) (no_prefix k z) = unexpected_unique y z
prefix_once (no_prefix h y) (uri e z) = absurd (some_none e h)
prefix_once (uri e z) (no_prefix h y) = absurd (some_none e h)
prefix_once (uri e y) (uri f z) = uri_once y z

-- a namespace name that is read stops nothing
read_uri : {end : End} {i : Bool} {t : Token} {ts : List Token} {r : Refusal} → IsMark 0x3D t → ((v : Refusal) → NoNamespaceName end i ts v → ⊥) → UriStops end i (t ∷ ts) r → ⊥
read_uri k h (no_equals l y) = l k
read_uri {r = r} k h (no_namespace_name l y) = h r y

read_prefix : {end : End} {i : Bool} {t w : Token} {ts : List Token} {x : List ℕ} {r : Refusal} → identifier_or_keyword t.word ≡ Some x → IsMark 0x3D w
    → ((v : Refusal) → NoNamespaceName end i ts v → ⊥) → PrefixStops end i (t ∷ w ∷ ts) r → ⊥
read_prefix e k h (no_prefix l y) = some_none e l
read_prefix e k h (uri f y) = read_uri k h y

declaration_once : {end : End} {scope : List Bound} {ts : List Token} {r v : Refusal} → DeclarationStops end scope ts r → DeclarationStops end scope ts v → r ≡ v
unfolding declaration_stops
declaration_once (namespace_prefix a y) (namespace_prefix b z) = prefix_once y z
declaration_once (namespace_prefix a y) (namespace_bound b c d e h n z) = absurd (read_prefix c d h y)
declaration_once (namespace_bound b c d e h n z) (namespace_prefix a y) = absurd (read_prefix c d h y)
declaration_once (namespace_bound a b c d h n y) (namespace_bound a' b' c' d' h' n' z) = unexpected_unique y z
declaration_once (datatypes_prefix a y) (datatypes_prefix b z) = prefix_once y z
declaration_once (default_word a h y) (default_word b k z) = unexpected_unique y z
declaration_once (default_word a h y) (default_uri b c d z) = absurd (h c)
declaration_once (default_word a h y) (default_bound b c d e k n z) = absurd (h c)
declaration_once (default_word a h y) (both_prefix b c d z) = absurd (h c)
declaration_once (default_word a h y) (both_bound b c d e f k n z) = absurd (h c)
declaration_once (default_uri b c d z) (default_word a h y) = absurd (h c)
declaration_once (default_uri a b c y) (default_uri a' b' c' z) = uri_once y z
declaration_once (default_uri a b c y) (default_bound a' b' c' d h n z) = absurd (read_uri c h y)
declaration_once (default_uri a b c y) (both_prefix a' b' h z) = absurd (h c)
declaration_once (default_uri a b c y) (both_bound a' b' d e f h n z) = absurd (q.no_equals c d)
declaration_once (default_bound b c d e k n z) (default_word a h y) = absurd (h c)
declaration_once (default_bound a' b' c' d h n z) (default_uri a b c y) = absurd (read_uri c h y)
declaration_once (default_bound a b c d h n y) (default_bound a' b' c' d' h' n' z) = unexpected_unique y z
declaration_once (default_bound a b c d h n y) (both_prefix a' b' k z) = absurd (k c)
declaration_once (default_bound a b c d h n y) (both_bound a' b' e f g k m z) = absurd (q.no_equals c e)
declaration_once (both_prefix b c d z) (default_word a h y) = absurd (h c)
declaration_once (both_prefix a' b' h z) (default_uri a b c y) = absurd (h c)
declaration_once (both_prefix a' b' k z) (default_bound a b c d h n y) = absurd (k c)
declaration_once (both_prefix a b h y) (both_prefix a' b' k z) = prefix_once y z
declaration_once (both_prefix a b h y) (both_bound a' b' c d e k n z) = absurd (read_prefix c d k y)
declaration_once (both_bound b c d e f k n z) (default_word a h y) = absurd (h c)
declaration_once (both_bound a' b' d e f h n z) (default_uri a b c y) = absurd (q.no_equals c d)
declaration_once (both_bound a' b' e f g k m z) (default_bound a b c d h n y) = absurd (q.no_equals c e)
declaration_once (both_bound a' b' c d e k n z) (both_prefix a b h y) = absurd (read_prefix c d k y)
declaration_once (both_bound a b c d e h n y) (both_bound a' b' c' d' e' h' n' z) = unexpected_unique y z
declaration_once a b = absurd (apart (declaration_stops_at a) (declaration_stops_at b) refl)

-- Schemas, by what they begin with: 1 a declaration, 2 a grammar, 3 definitions, 4 a pattern.

abbrev BeginsDeclaration : Token → Type 0
BeginsDeclaration t = IsWord (codes "namespace") t ⊎ (IsWord (codes "default") t ⊎ IsWord (codes "datatypes") t)

data Begins : List Token → ℕ → Type 0 where
  a_declaration : {t : Token} {ts : List Token} → BeginsDeclaration t → Begins (t ∷ ts) 1
  a_grammar : {t : Token} {ts : List Token} → IsWord (codes "grammar") t → Begins (t ∷ ts) 2
  some_definitions : {ts : List Token} → BeginsDefinitions ts → Begins ts 3
  one_pattern : {t : Token} {ts : List Token} → BeginsOnePattern t ts → Begins (t ∷ ts) 4

declared_word : (t : Token) → BeginsDeclaration t → (13 ≤ word_kind t.word) × (word_kind t.word ≤ 15)
declared_word t (inl k) = (omega (arith, namespace_kind k), omega (arith, namespace_kind k))
declared_word t (inr (inl k)) = (omega (arith, default_kind k), omega (arith, default_kind k))
declared_word t (inr (inr k)) = (omega (arith, datatypes_kind k), omega (arith, datatypes_kind k))

declared_or_grammar : (t : Token) → BeginsDeclaration t → IsWord (codes "grammar") t → ⊥
declared_or_grammar t b k = omega (arith, (declared_word t b).0, grammar_kind k)

declared_or_definitions : (t : Token) (ts : List Token) → BeginsDeclaration t → BeginsDefinitions (t ∷ ts) → ⊥
unfolding kind_at
declared_or_definitions t ts b c = let k = declared_word t b in not_between (definitions_begin (t ∷ ts) c) (omega (arith, k.0)) k.1

grammar_or_definitions : (t : Token) (ts : List Token) → IsWord (codes "grammar") t → BeginsDefinitions (t ∷ ts) → ⊥
unfolding kind_at
grammar_or_definitions t ts k c = not_between (definitions_begin (t ∷ ts) c) (omega (arith, grammar_kind k)) (omega (arith, grammar_kind k))

declared_or_pattern : (t : Token) (ts : List Token) → BeginsDeclaration t → BeginsOnePattern t ts → ⊥
declared_or_pattern t ts (inl k) c = c.no_namespace k
declared_or_pattern t ts (inr (inl k)) c = c.no_default k
declared_or_pattern t ts (inr (inr k)) c = c.no_datatypes k

definitions_or_pattern : (t : Token) (ts : List Token) → BeginsDefinitions (t ∷ ts) → BeginsOnePattern t ts → ⊥
definitions_or_pattern t ts (inl k) c = c.no_start k
definitions_or_pattern t ts (inr (inl k)) c = c.no_div k
definitions_or_pattern t ts (inr (inr (inl k))) c = c.no_include k
definitions_or_pattern t ts (inr (inr (inr (n, (j, (rest, (e, y))))))) c = c.no_definition n j rest e y

begins_same : {ts : List Token} {i j : ℕ} → Begins ts i → Begins ts j → i ≡ j
begins_same (a_declaration b) (a_declaration c) = refl
begins_same (a_declaration {t = t} b) (a_grammar k) = absurd (declared_or_grammar t b k)
begins_same (a_declaration {t = t} {ts = us} b) (some_definitions c) = absurd (declared_or_definitions t us b c)
begins_same (a_declaration {t = t} {ts = us} b) (one_pattern c) = absurd (declared_or_pattern t us b c)
begins_same (a_grammar {t = t} k) (a_declaration b) = absurd (declared_or_grammar t b k)
begins_same (a_grammar k) (a_grammar l) = refl
begins_same (a_grammar {t = t} {ts = us} k) (some_definitions c) = absurd (grammar_or_definitions t us k c)
begins_same (a_grammar k) (one_pattern c) = absurd (c.no_grammar k)
begins_same (some_definitions c) (a_declaration {t = t} {ts = us} b) = absurd (declared_or_definitions t us b c)
begins_same (some_definitions c) (a_grammar {t = t} {ts = us} k) = absurd (grammar_or_definitions t us k c)
begins_same (some_definitions b) (some_definitions c) = refl
begins_same (some_definitions b) (one_pattern {t = t} {ts = us} c) = absurd (definitions_or_pattern t us b c)
begins_same (one_pattern c) (a_declaration {t = t} {ts = us} b) = absurd (declared_or_pattern t us b c)
begins_same (one_pattern c) (a_grammar k) = absurd (c.no_grammar k)
begins_same (one_pattern {t = t} {ts = us} c) (some_definitions b) = absurd (definitions_or_pattern t us b c)
begins_same (one_pattern b) (one_pattern c) = refl

stops_declared : {end : End} {scope : List Bound} {ts : List Token} {r : Refusal} → DeclarationStops end scope ts r → Begins ts 1
stops_declared (namespace_prefix a y) = a_declaration (inl a)
stops_declared (namespace_bound a b c d h n y) = a_declaration (inl a)
stops_declared (datatypes_prefix a y) = a_declaration (inr (inr a))
stops_declared (default_word a h y) = a_declaration (inr (inl a))
stops_declared (default_uri a b c y) = a_declaration (inr (inl a))
stops_declared (default_bound a b c d h n y) = a_declaration (inr (inl a))
stops_declared (both_prefix a b c y) = a_declaration (inr (inl a))
stops_declared (both_bound a b c d e h n y) = a_declaration (inr (inl a))

is_declared : {scope within : List Bound} {ts rest : List Token} → DeclarationAt scope ts within rest → Begins ts 1
is_declared (namespace a b c d e) = a_declaration (inl a)
is_declared (default_namespace a b c d e) = a_declaration (inr (inl a))
is_declared (both a b c d e f g) = a_declaration (inr (inl a))
is_declared (datatypes a b c d) = a_declaration (inr (inr a))

-- what a schema begins with, by where its reading stops
unfoldable stops_as : {end : End} {scope : List Bound} {m : ℕ} {ts : List Token} {r : Refusal} → SchemaStops end scope m ts r → ℕ
stops_as (in_declaration y) = 1
stops_as (past_declaration a h y) = 1
stops_as (in_grammar k y) = 2
stops_as (inner_grammar k b g) = 2
stops_as (past_grammar k b g y) = 2
stops_as (in_definitions b y) = 3
stops_as (past_definitions b l y) = 3
stops_as (in_pattern b y) = 4
stops_as (past_pattern b l y) = 4

begins_as : {end : End} {scope : List Bound} {m : ℕ} {ts : List Token} {r : Refusal} (a : SchemaStops end scope m ts r) → Begins ts (stops_as a)
unfolding stops_as
begins_as (in_declaration y) = stops_declared y
begins_as (past_declaration a h y) = is_declared a
begins_as (in_grammar k y) = a_grammar k
begins_as (inner_grammar k b g) = a_grammar k
begins_as (past_grammar k b g y) = a_grammar k
begins_as (in_definitions b y) = some_definitions b
begins_as (past_definitions b l y) = some_definitions b
begins_as (in_pattern b y) = one_pattern b
begins_as (past_pattern b l y) = one_pattern b

goes_on : {ts us : List Token} → ts ≡ us → GoesOnAsPattern ts → GoesOnAsPattern us
goes_on e (inl (c, f)) = inl (c, sym (ap connector_at e) ∙ f)
goes_on e (inr (c, f)) = inr (c, sym (ap suffix_at e) ∙ f)

pub schema_once : {end : End} {scope : List Bound} {m : ℕ} {ts : List Token} {r v : Refusal} → SchemaStops end scope m ts r → SchemaStops end scope m ts v → r ≡ v
unfolding stops_as
schema_once (in_declaration y) (in_declaration z) = declaration_once y z
schema_once {r = r} (in_declaration y) (past_declaration a h z) = absurd (h r y)
schema_once {v = v} (past_declaration a h z) (in_declaration y) = absurd (h v y)
schema_once {end} {m = m} {v = v} (past_declaration {within = w} a h y) (past_declaration {rest = us} b k z) =
    let same = declaration_unique a b in
    schema_once y (subst (λ x. SchemaStops end w m x v) (sym same.1) (subst (λ x. SchemaStops end x m us v) (sym same.0) z))
schema_once (in_grammar k y) (in_grammar l z) = block_once y z
schema_once {m = m} {r = r} (in_grammar k y) (inner_grammar l b g) = absurd (whole_block_excludes b y (excludes_same r m))
schema_once {m = m} {r = r} (in_grammar k y) (past_grammar l b g z) = absurd (whole_block_excludes b y (excludes_same r m))
schema_once {m = m} {v = v} (inner_grammar l b g) (in_grammar k y) = absurd (whole_block_excludes b y (excludes_same v m))
schema_once (inner_grammar k b g) (inner_grammar l c h) = refl
schema_once (inner_grammar k b g) (past_grammar l c h z) = absurd (h (goes_on (block_unique b c) g))
schema_once {m = m} {v = v} (past_grammar l b g z) (in_grammar k y) = absurd (whole_block_excludes b y (excludes_same v m))
schema_once (past_grammar l c h z) (inner_grammar k b g) = absurd (h (goes_on (block_unique b c) g))
schema_once (past_grammar k b g y) (past_grammar l c h z) = unexpected_one (block_unique b c) y z
schema_once (in_definitions b y) (in_definitions c z) = definitions_once y z
schema_once {m = m} {r = r} (in_definitions b y) (past_definitions c l z) = absurd (definitions_excludes l y (excludes_same r m))
schema_once {m = m} {v = v} (past_definitions c l z) (in_definitions b y) = absurd (definitions_excludes l y (excludes_same v m))
schema_once (past_definitions b l y) (past_definitions c l' z) = unexpected_one (definitions_unique l l').1 y z
schema_once (in_pattern b y) (in_pattern c z) = pattern_once y z
schema_once {m = m} {r = r} (in_pattern b y) (past_pattern c l z) = absurd (pattern_excludes l y (excludes_same r m))
schema_once {m = m} {v = v} (past_pattern c l z) (in_pattern b y) = absurd (pattern_excludes l y (excludes_same v m))
schema_once (past_pattern b l y) (past_pattern c l' z) = unexpected_one (pattern_unique l l').1 y z
schema_once a b = absurd (apart refl (begins_same (begins_as a) (begins_as b)) refl)
