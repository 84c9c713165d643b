-- Where the reading of a phrase stops, there is no reading of it.
use Rattle.std.proofs.Common.{◌||◌, Option, bytes_eq, cond, ◌≡◌, inl, inr, ℕ, suc, ◌≤◌, Bool, true, false, List, [], ◌∷◌, refl, ap, ◌∙◌, sym, subst, arith, None, Some, codes}
use Rattle.std.proofs.lemmas.Bool.{false≢true}
use Rattle.tc_base.specs.declared.reasons.Why.{Why}
use Rattle.tc_base.specs.declared.reasons.Why.TheVariants.{DataPattern}
use Rattle.tc_model.specs.RawTrees.{Bound}
use Rattle.tc_model.specs.CompactSyntaxTrees.{SyntaxClass, SyntaxClasses, SyntaxPattern, SyntaxPatterns, Definition}
use Rattle.tc_model.specs.CompactSyntaxTokens.{Word, a_name, escaped, prefixed, all_of, literal, long_literal, mark, Token}
use Rattle.tc_model.specs.CompactSyntaxNames as n
use Rattle.tc_model.specs.CompactSyntaxNames.{IsWord, IsMark, identifier, identifier_or_keyword, IsLiteral, MayBind, DeclarationAt, name_in, LacksMark, ClassAt, ClassesAt, SimpleAt, ExceptAt}
use Rattle.tc_model.specs.CompactSyntaxPatterns as p
use Rattle.tc_model.specs.CompactSyntaxPatterns.{Connector, connector_of, connector_at, BalancedAt, PatternAt, ItemsAt, ItemAt, PrimaryAt}
use Rattle.tc_model.specs.CompactSyntax as s
use Rattle.tc_model.specs.CompactSyntax.{OperatorAt, DefinitionAt, DefinitionsAt, SchemaAt}
use Rattle.tc_model.specs.CompactSyntaxUnread.{Refusal, malformed, unsupported, too_deep, End, Unexpected, unread_pattern, NoPattern, NoDefinition, include, escape_mark, LiteralStops, escape_within, three_quotes, NoNamespaceName, inherit, concatenation}
use Rattle.tc_model.specs.CompactSyntaxUnread as u
use Rattle.tc_model.specs.CompactSyntaxStops as st
use Rattle.tc_model.specs.CompactSyntaxStops.{ClassStops, SimpleStops, BalancedStops, BracedTextStops, PatternStops, ItemsStop, PrimaryStops, EnclosedStops, DefinitionsStop, DefinitionStops, BlockStops, BeginsDefinition}
use Rattle.tc_model.specs.CompactSyntaxRefusedLaws.{Excludes}
use Rattle.tc_model.proofs.CompactSyntaxClassesUnique.{apart, some_none, same_tail, keyword_kind, word_kind, kind_at, element_kind, attribute_kind, mixed_kind, start_kind, div_kind, identifier_kind, simple_word, simple_at, simple_rule, simple_is, lacks_no, simple_unique, class_unique}
use Rattle.tc_model.proofs.CompactSyntaxUnique.{no_braces, balanced_unique, lacks_connector, same_connector, rule, primary_kind, item_unique, pattern_unique, operator_unique, definition_unique, definitions_unique, brace_kind, no_definition_at_brace, no_definition_at_end}
use Rattle.tc_model.proofs.CompactSyntaxBehind.{item_with, pattern_with, definition_with, definitions_with}
use Rattle.tc_model.proofs.CompactSyntaxUnread.{name_no_mark, unread_kind}

-- a refusal excludes such readings
pub record Excluding (r : Refusal) (most : ℕ) (others : Bool) (deepest : ℕ) : Type 0 where
  pub it : Excludes r most others deepest

-- within a brace or parenthesis
pub excludes_inside : (r : Refusal) {o : Bool} {m d : ℕ} → Excluding r (suc m) o (suc d) → Excluding r m o d
excludes_inside (malformed q) x = record { it = tt }
excludes_inside (unsupported why q) x = record { it = x.it }
excludes_inside (too_deep q) x = record { it = omega (arith, x.it) }

-- what is read so far
pub excludes_same : (r : Refusal) (m : ℕ) → Excluding r m false m
excludes_same (malformed q) m = record { it = tt }
excludes_same (unsupported why q) m = record { it = refl }
excludes_same (too_deep q) m = record { it = omega arith }

not_so_deep : {q d : ℕ} {o : Bool} → Excluding (too_deep q) 0 o (suc d) → ⊥
not_so_deep x = omega (arith, x.it)

-- Name classes.

unfoldable pub simple_stops : {end : End} {scope : List Bound} {d : ℕ} {ts : List Token} {r : Refusal} → SimpleStops end scope d ts r → ℕ
simple_stops (st.no_token x) = 0
simple_stops (st.no_class {t = t} b x) = simple_word t.word
simple_stops (st.namespace_except a e k m) = 2
simple_stops (st.any_except a k m) = 0x2A
simple_stops (st.deep a) = 0x28
simple_stops (st.inside a m) = 0x28
simple_stops (st.unclosed a m h x) = 0x28

pub simple_stops_at : {end : End} {scope : List Bound} {d : ℕ} {ts : List Token} {r : Refusal} (a : SimpleStops end scope d ts r) → simple_at ts ≡ simple_stops a
unfolding simple_stops simple_at simple_word
simple_stops_at (st.no_token x) = refl
simple_stops_at (st.no_class b x) = refl
simple_stops_at (st.namespace_except a e k m) = ap simple_word a
simple_stops_at (st.any_except a k m) = ap simple_word a
simple_stops_at (st.deep a) = ap simple_word a
simple_stops_at (st.inside a m) = ap simple_word a
simple_stops_at (st.unclosed a m h x) = ap simple_word a

mutual
  unfolding simple_rule simple_stops

  pub class_excludes : {end : End} {scope : List Bound} {d m : ℕ} {o : Bool} {ts after : List Token} {c : SyntaxClass} {r : Refusal} → ClassAt scope d ts c after → ClassStops end scope m ts r
      → Excluding r m o d → ⊥
  class_excludes (n.alone a h) (st.simple b) x = simple_excludes a b x
  class_excludes (n.alone a h) (st.past_bar b k m) x = lacks_no h (simple_unique a b).1 k
  class_excludes (n.several a e m) (st.simple b) x = simple_excludes a b x
  class_excludes {end} {scope} {m = m} {r = r} (n.several a e l) (st.past_bar b k q) x =
      classes_excludes l (subst (λ z. ClassStops end scope m z r) (sym (same_tail (simple_unique a b).1)) q) x

  pub classes_excludes : {end : End} {scope : List Bound} {d m : ℕ} {o : Bool} {ts after : List Token} {cs : SyntaxClasses} {r : Refusal} → ClassesAt scope d ts cs after → ClassStops end scope m ts r
      → Excluding r m o d → ⊥
  classes_excludes (n.last a h) (st.simple b) x = simple_excludes a b x
  classes_excludes (n.last a h) (st.past_bar b k m) x = lacks_no h (simple_unique a b).1 k
  classes_excludes (n.more a e m) (st.simple b) x = simple_excludes a b x
  classes_excludes {end} {scope} {m = m} {r = r} (n.more a e l) (st.past_bar b k q) x =
      classes_excludes l (subst (λ z. ClassStops end scope m z r) (sym (same_tail (simple_unique a b).1)) q) x

  pub simple_excludes : {end : End} {scope : List Bound} {d m : ℕ} {o : Bool} {ts after : List Token} {c : SyntaxClass} {r : Refusal} → SimpleAt scope d ts c after → SimpleStops end scope m ts r
      → Excluding r m o d → ⊥
  simple_excludes (n.name e) (st.no_class b y) x = some_none e b.no_name
  simple_excludes (n.whole_namespace {prefix = q} a e l) (st.no_class b y) x = some_none e (b.no_namespace q a)
  simple_excludes (n.any a l) (st.no_class b y) x = b.no_asterisk a
  simple_excludes (n.parentheses a l b) (st.no_class c y) x = c.no_parenthesis a
  simple_excludes (n.whole_namespace a e l) (st.namespace_except a' e' k q) x = except_excludes k l q x
  simple_excludes (n.any a l) (st.any_except a' k q) x = except_excludes k l q x
  simple_excludes (n.parentheses a l b) (st.deep a') x = not_so_deep x
  simple_excludes {r = r} (n.parentheses a l b) (st.inside a' q) x = class_excludes l q (excludes_inside r x)
  simple_excludes (n.parentheses a l b) (st.unclosed a' l' h y) x = lacks_no h (class_unique l' l).1 b
  simple_excludes a b x = apart (simple_is a) (simple_stops_at b) refl

  except_excludes : {end : End} {scope : List Bound} {d m : ℕ} {o : Bool} {t : Token} {ts after : List Token} {cs : SyntaxClasses} {r : Refusal} → IsMark 0x2D t → ExceptAt scope d (t ∷ ts) cs after
      → SimpleStops end scope m ts r → Excluding r m o d → ⊥
  except_excludes k (n.nothing h) q x = h k
  except_excludes k (n.except l a) q x = simple_excludes a q x

-- The text of an attribute.

pub balanced_excludes : {end : End} {d m : ℕ} {o : Bool} {ts after : List Token} {r : Refusal} → BalancedAt d ts after → BalancedStops end m ts r → Excluding r m o d → ⊥
balanced_excludes (p.closed e) (st.deep f) x = no_braces e f
balanced_excludes (p.closed e) (st.inside f q) x = no_braces e f
balanced_excludes (p.closed e) (st.past_braces f l q) x = no_braces e f
balanced_excludes (p.closed e) (st.past_token h k q) x = k e
balanced_excludes (p.nested f l k) (st.deep e) x = not_so_deep x
balanced_excludes {r = r} (p.nested f l k) (st.inside e q) x = balanced_excludes l q (excludes_inside r x)
balanced_excludes {end} {r = r} (p.nested f l k) (st.past_braces {deepest = m} e l' q) x =
    balanced_excludes k (subst (λ z. BalancedStops end (suc m) z r) (balanced_unique l' l) q) x
balanced_excludes (p.nested f l k) (st.past_token h g q) x = h f
balanced_excludes (p.other h k l) (st.deep e) x = h e
balanced_excludes (p.other h k l) (st.inside e q) x = h e
balanced_excludes (p.other h k l) (st.past_braces e l' q) x = h e
balanced_excludes (p.other h k l) (st.past_token h' k' q) x = balanced_excludes l q x

pub braced_text_excludes : {end : End} {d m : ℕ} {o : Bool} {t : Token} {ts after : List Token} {r : Refusal} → IsMark 0x7B t → BalancedAt d ts after → BracedTextStops end m (t ∷ ts) r
    → Excluding r m o (suc d) → ⊥
braced_text_excludes k l (st.no_brace h y) x = h k
braced_text_excludes k l (st.deep e) x = not_so_deep x
braced_text_excludes {r = r} k l (st.inside e q) x = balanced_excludes l q (excludes_inside r x)

-- Patterns.

unfoldable pub primary_stops : {end : End} {scope : List Bound} {d : ℕ} {ts : List Token} {r : Refusal} → PrimaryStops end scope d ts r → ℕ
primary_stops (st.no_pattern {tokens = ts} x) = kind_at ts
primary_stops (st.element_class a m) = 1
primary_stops (st.element_content a m q) = 1
primary_stops (st.attribute_class a m) = 2
primary_stops (st.attribute_text a m q) = 2
primary_stops (st.mixed_content a q) = 3
primary_stops (st.parentheses a q) = 8

pub primary_stops_at : {end : End} {scope : List Bound} {d : ℕ} {ts : List Token} {r : Refusal} (a : PrimaryStops end scope d ts r) → kind_at ts ≡ primary_stops a
unfolding primary_stops kind_at word_kind
primary_stops_at (st.no_pattern x) = refl
primary_stops_at (st.element_class a m) = element_kind a
primary_stops_at (st.element_content a m q) = element_kind a
primary_stops_at (st.attribute_class a m) = attribute_kind a
primary_stops_at (st.attribute_text a m q) = attribute_kind a
primary_stops_at (st.mixed_content a q) = mixed_kind a
primary_stops_at (st.parentheses a q) = ap word_kind a

-- a pattern that is read begins with this word
pub data BeginsPattern (w : Word) : Type 0 where
  begins_element : w ≡ a_name (codes "element") → BeginsPattern w
  begins_attribute : w ≡ a_name (codes "attribute") → BeginsPattern w
  begins_mixed : w ≡ a_name (codes "mixed") → BeginsPattern w
  begins_empty : w ≡ a_name (codes "empty") → BeginsPattern w
  begins_text : w ≡ a_name (codes "text") → BeginsPattern w
  begins_not_allowed : w ≡ a_name (codes "notAllowed") → BeginsPattern w
  begins_parenthesis : w ≡ mark 0x28 → BeginsPattern w
  begins_reference : {m : List ℕ} → identifier w ≡ Some m → BeginsPattern w

begins_kind : {w : Word} → BeginsPattern w → word_kind w ≤ 8
unfolding word_kind keyword_kind
begins_kind (begins_element e) = omega (arith, element_kind e)
begins_kind (begins_attribute e) = omega (arith, attribute_kind e)
begins_kind (begins_mixed e) = omega (arith, mixed_kind e)
begins_kind (begins_empty e) = omega (arith, ap word_kind e)
begins_kind (begins_text e) = omega (arith, ap word_kind e)
begins_kind (begins_not_allowed e) = omega (arith, ap word_kind e)
begins_kind (begins_parenthesis e) = omega (arith, ap word_kind e)
begins_kind {w} (begins_reference e) = omega (arith, identifier_kind w e)

literal_kind : (w : Word) → u.is_literal w ≡ true → 9 ≤ word_kind w
unfolding word_kind
literal_kind (a_name n) h = absurd (false≢true h)
literal_kind (escaped n) h = absurd (false≢true h)
literal_kind (prefixed p n) h = absurd (false≢true h)
literal_kind (all_of p) h = absurd (false≢true h)
literal_kind (literal s) h = omega arith
literal_kind (long_literal s) h = omega arith
literal_kind (mark c) h = absurd (false≢true h)

begins_none : {w : Word} → u.BeginsNoPattern w → BeginsPattern w → ⊥
begins_none b (begins_element e) = b.no_element e
begins_none b (begins_attribute e) = b.no_attribute e
begins_none b (begins_mixed e) = b.no_mixed e
begins_none b (begins_empty e) = b.no_empty e
begins_none b (begins_text e) = b.no_text e
begins_none b (begins_not_allowed e) = b.no_not_allowed e
begins_none b (begins_parenthesis e) = b.no_parenthesis e
begins_none b (begins_reference e) = some_none e b.no_reference

pub no_pattern_begins : {end : End} {t : Token} {ts : List Token} {r : Refusal} → BeginsPattern t.word → NoPattern end (t ∷ ts) r → ⊥
no_pattern_begins {t = t} b (u.unread e) = omega (arith, begins_kind b, unread_kind t.word e)
no_pattern_begins {t = t} b (u.a_literal e l) = omega (arith, begins_kind b, literal_kind t.word e)
no_pattern_begins {t = t} b (u.value e g) = omega (arith, begins_kind b, literal_kind t.word (ap u.is_literal e))
no_pattern_begins b (u.none c x) = begins_none c b

datum_unread : (w : Word) → p.is_datum w ≡ true → u.BeginsNoPattern w → ⊥
datum_unread (a_name q) h b = by (bytes_eq q (codes "string")) (bytes_eq q (codes "token")) _ h b.no_unread
  where
    by : (x y : Bool) (others : Option Why) → (x || y) ≡ true → cond x (Some DataPattern) (cond y (Some DataPattern) others) ≡ None → ⊥
    by true y others h e = some_none refl e
    by false true others h e = some_none refl e
    by false false others h e = false≢true h
datum_unread (escaped q) h b = false≢true h
datum_unread (prefixed q m) h b = some_none refl b.no_unread
datum_unread (all_of q) h b = false≢true h
datum_unread (literal q) h b = false≢true (sym b.no_literal)
datum_unread (long_literal q) h b = false≢true h
datum_unread (mark c) h b = false≢true h

no_pattern_excludes : {end : End} {o : Bool} {scope : List Bound} {d m : ℕ} {ts after : List Token} {q : SyntaxPattern} {r : Refusal} → PrimaryAt o scope d ts q after → NoPattern end ts r
    → Excluding r m o d → ⊥
no_pattern_excludes (p.an_element a l k b g) y x = no_pattern_begins (begins_element a) y
no_pattern_excludes (p.an_attribute a l k b) y x = no_pattern_begins (begins_attribute a) y
no_pattern_excludes (p.a_mixed a k b g) y x = no_pattern_begins (begins_mixed a) y
no_pattern_excludes (p.an_empty a) y x = no_pattern_begins (begins_empty a) y
no_pattern_excludes (p.a_text a) y x = no_pattern_begins (begins_text a) y
no_pattern_excludes (p.a_not_allowed a) y x = no_pattern_begins (begins_not_allowed a) y
no_pattern_excludes (p.reference a) y x = no_pattern_begins (begins_reference a) y
no_pattern_excludes (p.parentheses a b g) y x = no_pattern_begins (begins_parenthesis a) y
no_pattern_excludes (p.a_datum h a) (u.unread e) x = false≢true (sym x.it ∙ h)
no_pattern_excludes (p.a_datum h a) (u.a_literal e (escape_within f)) x = false≢true (sym x.it ∙ h)
no_pattern_excludes (p.a_datum h a) (u.a_literal e (three_quotes f g)) x = false≢true (sym x.it ∙ h)
no_pattern_excludes (p.a_datum h a) (u.value e g) x = false≢true (sym x.it ∙ h)
no_pattern_excludes (p.a_datum {t = t} h a) (u.none b y) x = datum_unread t.word a b

-- a pattern within marks, of which `inner` says that its reading stops nowhere
enclosed_excludes : {end : End} {o : Bool} {scope : List Bound} {left right d m : ℕ} {t v : Token} {ts after : List Token} {q : SyntaxPattern} {r : Refusal} → IsMark left t
    → PatternAt o scope d ts q (v ∷ after) → IsMark right v → ((k : ℕ) → PatternStops end scope k ts r → Excluding r k o d → ⊥)
    → EnclosedStops end scope left right m (t ∷ ts) r → Excluding r m o (suc d) → ⊥
enclosed_excludes k b g inner (st.no_mark h y) x = h k
enclosed_excludes k b g inner (st.deep k') x = not_so_deep x
enclosed_excludes {r = r} k b g inner (st.inside {deepest = m} k' q) x = inner m q (excludes_inside r x)
enclosed_excludes {o = o} k b g inner (st.unclosed k' b' h y) x = lacks_no h (pattern_unique (pattern_with o b') b).1 g

mutual
  unfolding rule primary_stops

  pub pattern_excludes : {end : End} {o : Bool} {scope : List Bound} {d m : ℕ} {ts after : List Token} {q : SyntaxPattern} {r : Refusal} → PatternAt o scope d ts q after → PatternStops end scope m ts r
      → Excluding r m o d → ⊥
  pattern_excludes (p.alone a h) (st.first_item b) x = item_excludes a b x
  pattern_excludes {o} (p.alone a h) (st.past_connector b e q) x = lacks_connector h (item_unique a (item_with o b)).1 e
  pattern_excludes (p.several a e l) (st.first_item b) x = item_excludes a b x
  pattern_excludes {end} {o} {scope} {m = m} {r = r} (p.several {c = c} a e l) (st.past_connector {rest = us} b f q) x =
      let both = (item_unique a (item_with o b)).1 in
      let moved = subst (λ z. ItemsStop end scope z m us r) (sym (same_connector both e f)) q in
      items_excludes l (subst (λ z. ItemsStop end scope c m z r) (sym (same_tail both)) moved) x

  pub items_excludes : {end : End} {o : Bool} {scope : List Bound} {c : Connector} {d m : ℕ} {ts after : List Token} {qs : SyntaxPatterns} {r : Refusal} → ItemsAt o scope c d ts qs after → ItemsStop end scope c m ts r
      → Excluding r m o d → ⊥
  items_excludes (p.last a h) (st.next_item b) x = item_excludes a b x
  items_excludes {o = o} (p.last a h) (st.past_item b e q) x = lacks_connector h (item_unique a (item_with o b)).1 e
  items_excludes {o = o} (p.last a h) (st.other_connector b e k y) x = lacks_connector h (item_unique a (item_with o b)).1 e
  items_excludes (p.and_more a e l) (st.next_item b) x = item_excludes a b x
  items_excludes {end} {o} {scope} {c} {m = m} {r = r} (p.and_more a e l) (st.past_item b f q) x =
      items_excludes l (subst (λ z. ItemsStop end scope c m z r) (sym (same_tail (item_unique a (item_with o b)).1)) q) x
  items_excludes {o = o} (p.and_more a e l) (st.other_connector b f k y) x = k (sym (same_connector (item_unique a (item_with o b)).1 e f))

  pub item_excludes : {end : End} {o : Bool} {scope : List Bound} {d m : ℕ} {ts after : List Token} {q : SyntaxPattern} {r : Refusal} → ItemAt o scope d ts q after → PrimaryStops end scope m ts r
      → Excluding r m o d → ⊥
  item_excludes (p.bare a h) b x = primary_excludes a b x
  item_excludes (p.with_suffix a h) b x = primary_excludes a b x

  pub primary_excludes : {end : End} {o : Bool} {scope : List Bound} {d m : ℕ} {ts after : List Token} {q : SyntaxPattern} {r : Refusal} → PrimaryAt o scope d ts q after → PrimaryStops end scope m ts r
      → Excluding r m o d → ⊥
  primary_excludes a (st.no_pattern y) x = no_pattern_excludes a y x
  primary_excludes (p.an_element a l k b g) (st.element_class a' q) x = class_excludes l q x
  primary_excludes {end} {scope = scope} {m = m} {r = r} (p.an_element a l k b g) (st.element_content a' l' q) x =
      enclosed_excludes k b g (λ i y z. pattern_excludes b y z) (subst (λ z. EnclosedStops end scope 0x7B 0x7D m z r) (class_unique l' l).1 q) x
  primary_excludes (p.an_attribute a l k b) (st.attribute_class a' q) x = class_excludes l q x
  primary_excludes {end} {m = m} {r = r} (p.an_attribute a l k b) (st.attribute_text a' l' q) x =
      braced_text_excludes k b (subst (λ z. BracedTextStops end m z r) (class_unique l' l).1 q) x
  primary_excludes (p.a_mixed a k b g) (st.mixed_content a' q) x = enclosed_excludes k b g (λ i y z. pattern_excludes b y z) q x
  primary_excludes (p.parentheses a b g) (st.parentheses a' q) x = enclosed_excludes a b g (λ i y z. pattern_excludes b y z) q x
  primary_excludes a b x = apart (primary_kind a) (primary_stops_at b) refl

-- Definitions.

pub include_kind : {w : Word} → w ≡ a_name (codes "include") → word_kind w ≡ 20
unfolding word_kind keyword_kind
include_kind e = ap word_kind e

begins_definition_kind : (t : Token) → BeginsDefinition t → word_kind t.word ≤ 10
begins_definition_kind t (inl k) = omega (arith, start_kind k)
begins_definition_kind t (inr (q, e)) = omega (arith, identifier_kind t.word e)

pub no_block_begins : (t : Token) → IsWord (codes "div") t → BeginsDefinition t → ⊥
no_block_begins t k b = omega (arith, div_kind k, begins_definition_kind t b)

pub no_definition_excludes : {end : End} {o : Bool} {scope : List Bound} {d : ℕ} {ts after : List Token} {ds : List Definition} {r : Refusal} → DefinitionAt o scope d ts ds after → NoDefinition end ts r → ⊥
no_definition_excludes (s.of_start h a l) (include k) = omega (arith, start_kind h, include_kind k)
no_definition_excludes (s.of_start h a l) (u.none b y) = b.no_start h
no_definition_excludes (s.of_name {t = t} h a l) (include k) = omega (arith, identifier_kind t.word h, include_kind k)
no_definition_excludes (s.of_name h a l) (u.none b y) = some_none h b.no_name
no_definition_excludes (s.div h k l g) (include k') = omega (arith, div_kind h, include_kind k')
no_definition_excludes (s.div h k l g) (u.none b y) = b.no_div h

pub no_stop_at_end : {end : End} {scope : List Bound} {d : ℕ} {r : Refusal} → DefinitionStops end scope d [] r → ⊥
no_stop_at_end (st.no_definition y) = elim y [ ]

pub no_stop_at_brace : {end : End} {scope : List Bound} {d : ℕ} {t : Token} {ts : List Token} {r : Refusal} → IsMark 0x7D t → DefinitionStops end scope d (t ∷ ts) r → ⊥
no_stop_at_brace h (st.no_definition (include k)) = name_no_mark k h
no_stop_at_brace h (st.no_definition (u.none b y)) = b.no_brace h
no_stop_at_brace {t = t} h (st.no_operator b k y) = omega (arith, brace_kind h, begins_definition_kind t b)
no_stop_at_brace {t = t} h (st.pattern b a q) = omega (arith, brace_kind h, begins_definition_kind t b)
no_stop_at_brace h (st.div k q) = name_no_mark k h

-- definitions within braces, of which `inner` says that their reading stops nowhere
pub block_excludes : {end : End} {o : Bool} {scope : List Bound} {d m : ℕ} {t v : Token} {ts after : List Token} {ds : List Definition} {r : Refusal} → IsMark 0x7B t
    → DefinitionsAt o scope d ts ds (v ∷ after) → IsMark 0x7D v → ((k : ℕ) → DefinitionsStop end scope k ts r → Excluding r k o d → ⊥)
    → BlockStops end scope m (t ∷ ts) r → Excluding r m o (suc d) → ⊥
block_excludes k l g inner (st.no_brace h y) x = h k
block_excludes k l g inner (st.deep k') x = not_so_deep x
block_excludes {r = r} k l g inner (st.inside {deepest = m} k' q) x = inner m q (excludes_inside r x)
block_excludes {o = o} k l g inner (st.unclosed k' l' h y) x = lacks_no h (definitions_unique (definitions_with o l') l).1 g

mutual
  pub definitions_excludes : {end : End} {o : Bool} {scope : List Bound} {d m : ℕ} {ts after : List Token} {ds : List Definition} {r : Refusal} → DefinitionsAt o scope d ts ds after
      → DefinitionsStop end scope m ts r → Excluding r m o d → ⊥
  definitions_excludes s.at_end (st.definition q) x = no_stop_at_end q
  definitions_excludes s.at_end (st.past_definition a q) x = no_definition_at_end a
  definitions_excludes (s.at_brace h) (st.definition q) x = no_stop_at_brace h q
  definitions_excludes (s.at_brace h) (st.past_definition a q) x = no_definition_at_brace h a
  definitions_excludes (s.more a l) (st.definition q) x = definition_excludes a q x
  definitions_excludes {end} {o} {scope} {m = m} {r = r} (s.more a l) (st.past_definition b q) x =
      definitions_excludes l (subst (λ z. DefinitionsStop end scope m z r) (definition_unique (definition_with o b) a).1 q) x

  pub definition_excludes : {end : End} {o : Bool} {scope : List Bound} {d m : ℕ} {ts after : List Token} {ds : List Definition} {r : Refusal} → DefinitionAt o scope d ts ds after
      → DefinitionStops end scope m ts r → Excluding r m o d → ⊥
  definition_excludes a (st.no_definition y) x = no_definition_excludes a y
  definition_excludes (s.of_start {rest = us} {j = j} h a l) (st.no_operator b k y) x = k j us a
  definition_excludes (s.of_name {rest = us} {j = j} h a l) (st.no_operator b k y) x = k j us a
  definition_excludes (s.div {t = t} h k l g) (st.no_operator b k' y) x = no_block_begins t h b
  definition_excludes {end} {scope = scope} {m = m} {r = r} (s.of_start h a l) (st.pattern b a' q) x =
      pattern_excludes l (subst (λ z. PatternStops end scope m z r) (operator_unique a' a).1 q) x
  definition_excludes {end} {scope = scope} {m = m} {r = r} (s.of_name h a l) (st.pattern b a' q) x =
      pattern_excludes l (subst (λ z. PatternStops end scope m z r) (operator_unique a' a).1 q) x
  definition_excludes (s.div {t = t} h k l g) (st.pattern b a q) x = no_block_begins t h b
  definition_excludes (s.of_start {t = t} h a l) (st.div k q) x = no_block_begins t k (inl h)
  definition_excludes (s.of_name {t = t} {n = v} h a l) (st.div k q) x = no_block_begins t k (inr (v, h))
  definition_excludes (s.div h k l g) (st.div h' q) x = block_excludes k l g (λ i y z. definitions_excludes l y z) q x
