-- Where the reading of a schema stops, there is no reading of it.
use Rattle.std.proofs.Common.{◌≡◌, ◌⊎◌, inl, inr, ℕ, ◌≤◌, ◌<◌, Bool, false, List, [], ◌∷◌, refl, ap, ◌∙◌, sym, subst, length, arith, Some, codes}
use Rattle.std.proofs.lemmas.Bool.{false≢true}
use Rattle.tc_model.specs.RawTrees.{Bound}
use Rattle.tc_model.specs.XmlTextBytes.{Lacks, length_before}
use Rattle.tc_model.specs.CompactSyntaxTrees.{SyntaxPattern, Definition}
use Rattle.tc_model.specs.CompactSyntaxTokens.{Token}
use Rattle.tc_model.specs.CompactSyntaxNames.{IsWord, IsMark, identifier_or_keyword, IsLiteral, MayBind, DeclarationAt, namespace, default_namespace, both, datatypes}
use Rattle.tc_model.specs.CompactSyntaxPatterns.{connector_at, suffix_at, PatternAt}
use Rattle.tc_model.specs.CompactSyntax.{OperatorAt, DefinitionAt, DefinitionsAt, SchemaAt, declaration, one_pattern, definitions, grammar}
use Rattle.tc_model.specs.CompactSyntax as s
use Rattle.tc_model.specs.CompactSyntaxUnread.{Refusal, End, EscapeAt, in_text, in_literal, in_long_literal, escape_mark, LiteralStops, escape_within, three_quotes, NoNamespaceName, inherit, concatenation}
use Rattle.tc_model.specs.CompactSyntaxUnread as u
use Rattle.tc_model.specs.CompactSyntaxStops.{BlockStops, UriStops, no_equals, no_namespace_name, PrefixStops, no_prefix, uri, DeclarationStops, namespace_prefix, namespace_bound, datatypes_prefix, default_word, default_uri, default_bound, both_prefix, both_bound, BeginsDefinitions, BeginsOnePattern, BlockAt, block, GoesOnAsPattern, SchemaStops, in_declaration, past_declaration, in_grammar, inner_grammar, past_grammar, in_definitions, past_definitions, in_pattern, past_pattern}
use Rattle.tc_model.proofs.CompactSyntaxClassesUnique.{same_some, some_none, same_head, same_tail, keyword_kind, word_kind, kind_at, namespace_kind, default_kind, datatypes_kind, grammar_kind, start_kind, div_kind, identifier_kind, literal_unique, declares, declared_kind, declaration_kind, declaration_unique}
use Rattle.tc_model.proofs.CompactSyntaxClassesUnique as q
use Rattle.tc_model.proofs.CompactSyntaxUnique.{pattern_kind, pattern_unique, definitions_kind, definitions_unique, no_pattern_before_operator}
use Rattle.tc_model.proofs.CompactSyntaxBehind.{pattern_with, definitions_with}
use Rattle.tc_model.proofs.CompactSyntaxUnread.{mark_no_literal, name_no_literal, literal_no_long, same_literal}
use Rattle.tc_model.proofs.CompactSyntaxStopsExclude.{Excluding, pattern_excludes, definitions_excludes, block_excludes, include_kind}

pub declared_bounds : {scope within : List Bound} {ts rest : List Token} → DeclarationAt scope ts within rest → (13 ≤ kind_at ts) × (kind_at ts ≤ 15)
unfolding declares
declared_bounds a = by a (declared_kind a)
  where
    by : {scope within : List Bound} {ts rest : List Token} (a : DeclarationAt scope ts within rest) → kind_at ts ≡ declares a → (13 ≤ kind_at ts) × (kind_at ts ≤ 15)
    by (namespace a b c d e) h = (omega (arith, h), omega (arith, h))
    by (default_namespace a b c d e) h = (omega (arith, h), omega (arith, h))
    by (both a b c d e f g) h = (omega (arith, h), omega (arith, h))
    by (datatypes a b c d) h = (omega (arith, h), omega (arith, h))

schema_kind : {o : Bool} {scope : List Bound} {d : ℕ} {ts : List Token} {ds : List Definition} → SchemaAt o scope d ts ds → kind_at ts ≤ 15
unfolding kind_at
schema_kind (declaration a m) = (declared_bounds a).1
schema_kind (one_pattern a) = omega (arith, (pattern_kind a).1)
schema_kind (definitions a) = omega (arith, definitions_kind a)
schema_kind (grammar a b m c) = omega (arith, grammar_kind a)

-- no schema begins with `~`
no_schema_at_tilde : {o : Bool} {scope : List Bound} {d : ℕ} {t : Token} {rest : List Token} {ds : List Definition} → IsMark 0x7E t → SchemaAt o scope d (t ∷ rest) ds → ⊥
unfolding kind_at word_kind
no_schema_at_tilde k m = omega (arith, schema_kind m, ap word_kind k)

-- A namespace name.

lacks_within : {v w : List ℕ} → v ≡ w → length_before escape_mark v < length v → Lacks escape_mark w → ⊥
lacks_within {v} e h l = let same : length_before escape_mark v ≡ length v = subst (λ z. length_before escape_mark z ≡ length z) (sym e) l in omega (arith, h, same)

escape_excludes : {o : Bool} {within : List Bound} {w : Token} {after : List Token} {d q : ℕ} {name : List ℕ} {ds : List Definition} → EscapeAt (w ∷ after) q → IsLiteral name w → o ≡ false
    → SchemaAt o within d after ds → ⊥
escape_excludes (in_text a b c e f) l x m = mark_no_literal a l.word
escape_excludes (in_literal a b) l x m = lacks_within (same_literal a l.word) b l.no_escape
escape_excludes (in_long_literal a b) l x m = literal_no_long l.word a

literal_excludes : {o : Bool} {within : List Bound} {d k : ℕ} {w : Token} {after : List Token} {name : List ℕ} {ds : List Definition} {r : Refusal} → LiteralStops (w ∷ after) r → IsLiteral name w
    → SchemaAt o within d after ds → Excluding r k o d → ⊥
literal_excludes (escape_within e) l m x = escape_excludes e l x.it m
literal_excludes (three_quotes e h) l m x = literal_no_long l.word e

name_excludes : {end : End} {i o : Bool} {within : List Bound} {d k : ℕ} {w : Token} {after : List Token} {name : List ℕ} {ds : List Definition} {r : Refusal} → NoNamespaceName end i (w ∷ after) r
    → IsLiteral name w → SchemaAt o within d after ds → Excluding r k o d → ⊥
name_excludes (inherit h k) l m x = name_no_literal k l.word
name_excludes (u.a_literal e y) l m x = literal_excludes y l m x
name_excludes (concatenation e g k) l m x = no_schema_at_tilde k m
name_excludes (u.none h n y) l m x = false≢true (sym h ∙ ap u.is_literal l.word)

uri_excludes : {end : End} {i o : Bool} {within : List Bound} {d k : ℕ} {v w : Token} {after : List Token} {name : List ℕ} {ds : List Definition} {r : Refusal} → UriStops end i (v ∷ w ∷ after) r
    → IsMark 0x3D v → IsLiteral name w → SchemaAt o within d after ds → Excluding r k o d → ⊥
uri_excludes (no_equals h y) k l m x = h k
uri_excludes (no_namespace_name e y) k l m x = name_excludes y l m x

prefix_excludes : {end : End} {i o : Bool} {within : List Bound} {d k : ℕ} {t v w : Token} {after : List Token} {prefix name : List ℕ} {ds : List Definition} {r : Refusal}
    → PrefixStops end i (t ∷ v ∷ w ∷ after) r → identifier_or_keyword t.word ≡ Some prefix → IsMark 0x3D v → IsLiteral name w → SchemaAt o within d after ds → Excluding r k o d → ⊥
prefix_excludes (no_prefix h y) e k l m x = some_none e h
prefix_excludes (uri e' y) e k l m x = uri_excludes y k l m x

-- Declarations.

unfoldable pub declaration_stops : {end : End} {scope : List Bound} {ts : List Token} {r : Refusal} → DeclarationStops end scope ts r → ℕ
declaration_stops (namespace_prefix a y) = 13
declaration_stops (namespace_bound a b c d h n y) = 13
declaration_stops (datatypes_prefix a y) = 15
declaration_stops (default_word a h y) = 14
declaration_stops (default_uri a b c y) = 14
declaration_stops (default_bound a b c d h n y) = 14
declaration_stops (both_prefix a b c y) = 14
declaration_stops (both_bound a b c d e h n y) = 14

pub declaration_stops_at : {end : End} {scope : List Bound} {ts : List Token} {r : Refusal} (a : DeclarationStops end scope ts r) → kind_at ts ≡ declaration_stops a
unfolding declaration_stops kind_at
declaration_stops_at (namespace_prefix a y) = namespace_kind a
declaration_stops_at (namespace_bound a b c d h n y) = namespace_kind a
declaration_stops_at (datatypes_prefix a y) = datatypes_kind a
declaration_stops_at (default_word a h y) = default_kind a
declaration_stops_at (default_uri a b c y) = default_kind a
declaration_stops_at (default_bound a b c d h n y) = default_kind a
declaration_stops_at (both_prefix a b c y) = default_kind a
declaration_stops_at (both_bound a b c d e h n y) = default_kind a

pub declaration_stops_bounds : {end : End} {scope : List Bound} {ts : List Token} {r : Refusal} (a : DeclarationStops end scope ts r) → (13 ≤ declaration_stops a) × (declaration_stops a ≤ 15)
unfolding declaration_stops
declaration_stops_bounds (namespace_prefix a y) = (omega arith, omega arith)
declaration_stops_bounds (namespace_bound a b c d h n y) = (omega arith, omega arith)
declaration_stops_bounds (datatypes_prefix a y) = (omega arith, omega arith)
declaration_stops_bounds (default_word a h y) = (omega arith, omega arith)
declaration_stops_bounds (default_uri a b c y) = (omega arith, omega arith)
declaration_stops_bounds (default_bound a b c d h n y) = (omega arith, omega arith)
declaration_stops_bounds (both_prefix a b c y) = (omega arith, omega arith)
declaration_stops_bounds (both_bound a b c d e h n y) = (omega arith, omega arith)

may_bind : {scope : List Bound} {prefix prefix' name name' : List ℕ} → prefix ≡ prefix' → name ≡ name' → MayBind scope prefix name → MayBind scope prefix' name'
may_bind {scope} {prefix} {name' = v} e f m = subst (λ z. MayBind scope z v) e (subst (MayBind scope prefix) f m)

declaration_excludes : {end : End} {o : Bool} {scope within : List Bound} {d k : ℕ} {ts rest : List Token} {ds : List Definition} {r : Refusal} → DeclarationStops end scope ts r
    → DeclarationAt scope ts within rest → SchemaAt o within d rest ds → Excluding r k o d → ⊥
unfolding declaration_stops declares
declaration_excludes (namespace_prefix a y) (namespace a' b c d e) m x = prefix_excludes y b c d m x
declaration_excludes (namespace_bound a b c d h n y) (namespace a' b' c' d' e) m x = n (may_bind (same_some b' b) (literal_unique d' d) e)
declaration_excludes (datatypes_prefix a y) (datatypes a' b c d) m x = prefix_excludes y b c d m x
declaration_excludes (default_word a h y) (default_namespace a' b c d e) m x = h b
declaration_excludes (default_word a h y) (both a' b c d e f g) m x = h b
declaration_excludes (default_uri a b c y) (default_namespace a' b' c' d e) m x = uri_excludes y c' d m x
declaration_excludes (default_uri a b c y) (both a' b' c' d e f g) m x = q.no_equals c c'
declaration_excludes (default_bound a b c d h n y) (default_namespace a' b' c' d' e) m x = n (may_bind refl (literal_unique d' d) e)
declaration_excludes (default_bound a b c d h n y) (both a' b' c' d' e f g) m x = q.no_equals c c'
declaration_excludes (both_prefix a b h y) (default_namespace a' b' c' d e) m x = h c'
declaration_excludes (both_prefix a b h y) (both a' b' c' d e f g) m x = prefix_excludes y c' d e m x
declaration_excludes (both_bound a b c d e h n y) (default_namespace a' b' c' d' e') m x = q.no_equals c' c
declaration_excludes (both_bound a b c d e h n y) (both a' b' c' d' e' f g) m x = n (may_bind refl (literal_unique e' e) f) (may_bind (same_some c' c) (literal_unique e' e) g)
declaration_excludes a b m x = absurd (omega (arith, declaration_stops_at a, declared_kind b))

-- Schemas, by what they begin with.

record Declared (o : Bool) (scope : List Bound) (d : ℕ) (ts : List Token) (ds : List Definition) : Type 0 where
  within : List Bound
  rest : List Token
  first : DeclarationAt scope ts within rest
  others : SchemaAt o within d rest ds

declared_of : {o : Bool} {scope : List Bound} {d : ℕ} {ts : List Token} {ds : List Definition} → 13 ≤ kind_at ts → SchemaAt o scope d ts ds → Declared o scope d ts ds
unfolding kind_at
declared_of k (declaration {within = w} {rest = r} a m) = record { within = w; rest = r; first = a; others = m }
declared_of k (one_pattern a) = absurd (omega (arith, k, (pattern_kind a).1))
declared_of k (definitions a) = absurd (omega (arith, k, definitions_kind a))
declared_of k (grammar a b m c) = absurd (omega (arith, k, grammar_kind a))

block_of : {o : Bool} {scope : List Bound} {d : ℕ} {t : Token} {rest : List Token} {ds : List Definition} → IsWord (codes "grammar") t → SchemaAt o scope d (t ∷ rest) ds → BlockAt o scope d rest ds []
unfolding kind_at
block_of k (declaration a m) = absurd (omega (arith, grammar_kind k, (declared_bounds a).0))
block_of k (one_pattern m) = absurd (omega (arith, grammar_kind k, (pattern_kind m).1))
block_of k (definitions m) = absurd (omega (arith, grammar_kind k, definitions_kind m))
block_of k (grammar a b m c) = block b m c

-- what definitions begin with is no keyword of a declaration, nor `grammar`
pub definitions_begin : (ts : List Token) → BeginsDefinitions ts → (kind_at ts ≤ 11) ⊎ (16 ≤ kind_at ts)
unfolding kind_at
definitions_begin ts h = by ts h
  where
    by : (ts : List Token) → BeginsDefinitions ts → (kind_at ts ≤ 11) ⊎ (16 ≤ kind_at ts)
    by [] h = inl (omega arith)
    by (t ∷ us) (inl k) = inl (omega (arith, start_kind k))
    by (t ∷ us) (inr (inl k)) = inl (omega (arith, div_kind k))
    by (t ∷ us) (inr (inr (inl k))) = inr (omega (arith, include_kind k))
    by (t ∷ us) (inr (inr (inr (n, (j, (rest, (e, y))))))) = inl (omega (arith, identifier_kind t.word e))

no_pattern_begins : {o : Bool} {scope : List Bound} {d : ℕ} {ts : List Token} {x : SyntaxPattern} → BeginsDefinitions ts → PatternAt o scope d ts x [] → ⊥
unfolding kind_at
no_pattern_begins {o} {scope} {d} {ts} {x} h m = by ts h m
  where
    by : (ts : List Token) → BeginsDefinitions ts → PatternAt o scope d ts x [] → ⊥
    by [] h m = omega (arith, (pattern_kind m).0)
    by (t ∷ us) (inl k) m = omega (arith, start_kind k, (pattern_kind m).1)
    by (t ∷ us) (inr (inl k)) m = omega (arith, div_kind k, (pattern_kind m).1)
    by (t ∷ us) (inr (inr (inl k))) m = omega (arith, include_kind k, (pattern_kind m).1)
    by (t ∷ us) (inr (inr (inr (n, (j, (rest, (e, y))))))) m = no_pattern_before_operator e y m

pub not_between : {n : ℕ} → (n ≤ 11) ⊎ (16 ≤ n) → 12 ≤ n → n ≤ 15 → ⊥
not_between (inl h) a b = omega (arith, h, a)
not_between (inr h) a b = omega (arith, h, b)

definitions_of : {o : Bool} {scope : List Bound} {d : ℕ} {ts : List Token} {ds : List Definition} → BeginsDefinitions ts → SchemaAt o scope d ts ds → DefinitionsAt o scope d ts ds []
unfolding kind_at
definitions_of {ts = ts} h (declaration a m) = let k = declared_bounds a in absurd (not_between (definitions_begin ts h) (omega (arith, k.0)) k.1)
definitions_of h (one_pattern m) = absurd (no_pattern_begins h m)
definitions_of h (definitions m) = m
definitions_of h (grammar {t = t} {u = v} {inside = us} a b m c) = absurd (by h)
  where
    by : BeginsDefinitions (t ∷ v ∷ us) → ⊥
    by h = not_between (definitions_begin (t ∷ v ∷ us) h) (omega (arith, grammar_kind a)) (omega (arith, grammar_kind a))

record Pattern (o : Bool) (scope : List Bound) (d : ℕ) (ts : List Token) : Type 0 where
  one : SyntaxPattern
  whole : PatternAt o scope d ts one []

pattern_of : {o : Bool} {scope : List Bound} {d : ℕ} {t : Token} {ts : List Token} {ds : List Definition} → BeginsOnePattern t ts → SchemaAt o scope d (t ∷ ts) ds → Pattern o scope d (t ∷ ts)
pattern_of b (declaration (namespace a c d e f) m) = absurd (b.no_namespace a)
pattern_of b (declaration (default_namespace a c d e f) m) = absurd (b.no_default a)
pattern_of b (declaration (both a c d e f g h) m) = absurd (b.no_default a)
pattern_of b (declaration (datatypes a c d e) m) = absurd (b.no_datatypes a)
pattern_of b (one_pattern {p = x} m) = record { one = x; whole = m }
pattern_of b (definitions (s.more (s.of_start a x m) n)) = absurd (b.no_start a)
pattern_of b (definitions (s.more (s.of_name {rest = r} {n = v} {j = j} a x m) n)) = absurd (b.no_definition v j r a x)
pattern_of b (definitions (s.more (s.div a x m c) n)) = absurd (b.no_div a)
pattern_of b (grammar a x m c) = absurd (b.no_grammar a)

pub block_with : {scope : List Bound} {d : ℕ} {ts after : List Token} {ds : List Definition} (o : Bool) → BlockAt false scope d ts ds after → BlockAt o scope d ts ds after
block_with o (block a m c) = block a (definitions_with o m) c

pub block_unique : {o : Bool} {scope : List Bound} {d d' : ℕ} {ts r v : List Token} {ds es : List Definition} → BlockAt o scope d ts ds r → BlockAt o scope d' ts es v → r ≡ v
block_unique (block a m c) (block a' m' c') = same_tail (definitions_unique m m').1

pub whole_block_excludes : {end : End} {o : Bool} {scope : List Bound} {d m : ℕ} {ts after : List Token} {ds : List Definition} {r : Refusal} → BlockAt o scope d ts ds after → BlockStops end scope m ts r
    → Excluding r m o d → ⊥
whole_block_excludes (block a l c) y x = block_excludes a l c (λ i v z. definitions_excludes l v z) y x

not_none : {t : Token} {ts : List Token} → t ∷ ts ≡ [] → ⊥
not_none e = omega (arith, ap length e)

pub no_more : {ts : List Token} → ts ≡ [] → GoesOnAsPattern ts → ⊥
no_more e (inl (c, f)) = some_none f (ap connector_at e)
no_more e (inr (c, f)) = some_none f (ap suffix_at e)

pub schema_excludes : {end : End} {o : Bool} {scope : List Bound} {d k : ℕ} {ts : List Token} {ds : List Definition} {r : Refusal} → SchemaStops end scope k ts r → SchemaAt o scope d ts ds
    → Excluding r k o d → ⊥
schema_excludes (in_declaration y) m x =
    let whole = declared_of (omega (arith, declaration_stops_at y, (declaration_stops_bounds y).0)) m in
    declaration_excludes y whole.first whole.others x
schema_excludes {o = o} {d = d} {ds = ds} (past_declaration {within = w} {rest = us} a h y) m x =
    let whole = declared_of (declared_bounds a).0 m in
    let same = declaration_unique whole.first a in
    schema_excludes y (subst (λ z. SchemaAt o z d us ds) same.0 (subst (λ z. SchemaAt o whole.within d z ds) same.1 whole.others)) x
schema_excludes (in_grammar k y) m x = whole_block_excludes (block_of k m) y x
schema_excludes {o = o} (inner_grammar k b g) m x = no_more (block_unique (block_with o b) (block_of k m)) g
schema_excludes {o = o} (past_grammar k b g y) m x = not_none (block_unique (block_with o b) (block_of k m))
schema_excludes (in_definitions b y) m x = definitions_excludes (definitions_of b m) y x
schema_excludes {o = o} (past_definitions b l y) m x = not_none (definitions_unique (definitions_with o l) (definitions_of b m)).1
schema_excludes (in_pattern b y) m x = pattern_excludes (pattern_of b m).whole y x
schema_excludes {o = o} (past_pattern b l y) m x = not_none (pattern_unique (pattern_with o l) (pattern_of b m).whole).1
