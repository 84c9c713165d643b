-- Why declarations are read, or not, where their parts are.
use Rattle.std.proofs.Common.{◌≡◌, ◌⊎◌, inl, inr, ℕ, ◌+◌, ◌<◌, ◌≤◌, Bool, true, false, List, [], ◌∷◌, refl, ap, ◌∙◌, sym, subst, length, arith, None, Some, codes}
use Rattle.std.proofs.lemmas.Bool.{cases_lt, false≢true}
use Rattle.tc_base.specs.declared.reasons.Why.TheVariants.{InheritedNamespace, Concatenation}
use Rattle.tc_model.specs.RawTrees.{Bound}
use Rattle.tc_model.specs.XmlTextBytes.{Lacks, length_before}
use Rattle.tc_model.specs.CompactSyntaxTokens.{literal, Token}
use Rattle.tc_model.specs.CompactSyntaxNames.{IsWord, IsMark, LacksMark, identifier_or_keyword, MayBind, bound_to, DeclarationAt, namespace, default_namespace, both, datatypes}
use Rattle.tc_model.specs.CompactSyntax.{declaration}
use Rattle.tc_model.specs.CompactSyntaxUnread.{Refusal, unsupported, End, in_literal, NoEscape, escape_mark, Unexpected, is_literal, NoNamespaceName, inherit, concatenation}
use Rattle.tc_model.specs.CompactSyntaxUnread as u
use Rattle.tc_model.specs.CompactSyntaxStops as st
use Rattle.tc_model.specs.CompactSyntaxStops.{UriStops, no_equals, no_namespace_name, PrefixStops, no_prefix, DeclarationStops, namespace_prefix, namespace_bound, datatypes_prefix, default_word, default_uri, default_bound, both_prefix, both_bound, LacksWord, SchemaStops, past_declaration}
use Rattle.tc_model.proofs.CompactSyntaxClassesUnique.{same_some, some_none, same_head, same_tail, kind_at, namespace_kind, default_kind, datatypes_kind}
use Rattle.tc_model.proofs.CompactSyntaxClassesUnique as q
use Rattle.tc_model.proofs.CompactSyntaxUnread.{same_literal, name_no_literal, literal_stops_not}
use Rattle.tc_model.proofs.CompactSyntaxStopsSchemas.{declaration_stops, declaration_stops_at}
use Rattle.tc_rnc.specs.Escapes.{StopsAtLiteral}
use Rattle.tc_rnc.specs.Schemas.{LiteralAt, UriAt, PrefixUriAt, StartsWith, BeginsAt, BeginsDeclaration, Declares}
use Rattle.tc_rnc.specs.Readings.{BeginsWith}
use Rattle.tc_rnc.proofs.Escapes.{before_within}
use Rattle.tc_rnc.proofs.ClassLaws.{lacks_begins}

-- A literal.

not_less : (m n : ℕ) → m ≤ n → (m < n → ⊥) → m ≡ n
not_less m n h k = by (cases_lt m n)
  where
    by : (m < n) ⊎ (n ≤ m) → m ≡ n
    by (inl l) = absurd (k l)
    by (inr l) = omega (arith, l, h)

lacks_when : (uri : List ℕ) → (length_before escape_mark uri < length uri → ⊥) → Lacks escape_mark uri
lacks_when uri h = not_less (length_before escape_mark uri) (length uri) (before_within escape_mark uri) h

pub a_literal : (t : Token) (ts rest : List Token) (uri : List ℕ) → ts ≡ t ∷ rest → t.word ≡ literal uri → NoEscape ts → LiteralAt ts uri rest
a_literal t ts rest uri is k h = (t, is, record { word = k; no_escape = lacks_when uri (λ less. subst NoEscape is h (t.place + 1 + length_before escape_mark uri) (in_literal k less)) })

pub inherited : {end : End} {i : Bool} {t : Token} {ts us : List Token} → us ≡ t ∷ ts → (i ≡ true) × IsWord (codes "inherit") t → NoNamespaceName end i us (unsupported InheritedNamespace t.place)
inherited {end} {i} {t} e k = subst (λ z. NoNamespaceName end i z (unsupported InheritedNamespace t.place)) (sym e) (inherit k.0 k.1)

pub no_name : {end : End} {i : Bool} {t : Token} {ts us : List Token} {r : Refusal} → us ≡ t ∷ ts → is_literal t.word ≡ false → (i ≡ true → IsWord (codes "inherit") t → ⊥) → Unexpected end us r
    → NoNamespaceName end i us r
no_name {end} {i} {r = r} e h k y = subst (λ z. NoNamespaceName end i z r) (sym e) (u.none h k (subst (λ z. Unexpected end z r) e y))

pub no_name_at_end : {end : End} {i : Bool} {us : List Token} {r : Refusal} → us ≡ [] → Unexpected end us r → NoNamespaceName end i us r
no_name_at_end {end} {i} {r = r} e y = subst (λ z. NoNamespaceName end i z r) (sym e) (u.no_token (subst (λ z. Unexpected end z r) e y))

pub unread_name : {end : End} {i : Bool} {us : List Token} {r : Refusal} → StopsAtLiteral us r → NoNamespaceName end i us r
unread_name {end} {i} {r = r} h = subst (λ z. NoNamespaceName end i z r) (sym h.parts) (u.a_literal h.a_literal h.stops)

pub joined_name : {end : End} {i : Bool} {t : Token} {ts us : List Token} {s : List ℕ} {p : ℕ} → us ≡ t ∷ ts → t.word ≡ literal s → NoEscape us → BeginsAt 0x7E ts p → NoNamespaceName end i us (unsupported Concatenation p)
joined_name {end} {i} {t} {us = us} {p = p} e k g (v, (rest, (is, m, at))) =
    let all : us ≡ t ∷ v ∷ rest = e ∙ ap (λ z. t ∷ z) is in
    subst (λ z. NoNamespaceName end i z (unsupported Concatenation p)) (sym all) (subst (λ z. NoNamespaceName end i (t ∷ v ∷ rest) (unsupported Concatenation z)) (sym at) (concatenation k (subst NoEscape all g) m))

-- a namespace name that is read stops nothing
pub name_read : {end : End} {i : Bool} {t : Token} {ts us : List Token} {s : List ℕ} → us ≡ t ∷ ts → t.word ≡ literal s → NoEscape us → LacksMark 0x7E ts → (v : Refusal) → NoNamespaceName end i us v → ⊥
name_read {end} {i} {t} {ts} {s = s} e k g l v y = by (subst NoEscape e g) l (subst (λ z. NoNamespaceName end i z v) e y)
  where
    by : {ts : List Token} {v : Refusal} → NoEscape (t ∷ ts) → LacksMark 0x7E ts → NoNamespaceName end i (t ∷ ts) v → ⊥
    by g l (inherit h m) = name_no_literal m k
    by g l (u.a_literal m y) = literal_stops_not k g y
    by g l (concatenation m h n) = l n
    by g l (u.none h m y) = false≢true (sym h ∙ ap is_literal k)

-- An equals sign and a literal.

pub a_uri : (ts rest after : List Token) (uri : List ℕ) → BeginsWith 0x3D ts rest → LiteralAt rest uri after → UriAt ts uri after
a_uri ts rest after uri (v, is, k) (w, e, l) = (v, w, is ∙ ap (λ z. v ∷ z) e, k, l)

pub after_equals : {end : End} {i : Bool} {ts rest : List Token} {r : Refusal} → BeginsWith 0x3D ts rest → NoNamespaceName end i rest r → UriStops end i ts r
after_equals {end} {i} {r = r} (t, e, k) y = subst (λ z. UriStops end i z r) (sym e) (no_namespace_name k y)

pub uri_read : {end : End} {i : Bool} {ts rest : List Token} → BeginsWith 0x3D ts rest → ((v : Refusal) → NoNamespaceName end i rest v → ⊥) → (v : Refusal) → UriStops end i ts v → ⊥
uri_read {end} {i} {rest = rest} (t, e, k) h v y = by (subst (λ z. UriStops end i z v) e y)
  where
    by : UriStops end i (t ∷ rest) v → ⊥
    by (no_equals l y) = l k
    by (no_namespace_name l y) = h v y

-- A prefix, an equals sign and a literal.

pub a_prefix_uri : (u : Token) (ts rest after : List Token) (prefix uri : List ℕ) → ts ≡ u ∷ rest → identifier_or_keyword u.word ≡ Some prefix → UriAt rest uri after → PrefixUriAt ts prefix uri after
a_prefix_uri u ts rest after prefix uri is x (v, w, e, k, l) = (u, v, w, is ∙ ap (λ z. u ∷ z) e, x, k, l)

pub after_prefix : {end : End} {i : Bool} {t : Token} {ts rest : List Token} {prefix : List ℕ} {r : Refusal} → ts ≡ t ∷ rest → identifier_or_keyword t.word ≡ Some prefix → UriStops end i rest r → PrefixStops end i ts r
after_prefix {end} {i} {r = r} e k y = subst (λ z. PrefixStops end i z r) (sym e) (st.uri k y)

pub not_prefix : {end : End} {i : Bool} {t : Token} {ts rest : List Token} {r : Refusal} → ts ≡ t ∷ rest → identifier_or_keyword t.word ≡ None → Unexpected end ts r → PrefixStops end i ts r
not_prefix {end} {i} {r = r} e k y = subst (λ z. PrefixStops end i z r) (sym e) (no_prefix k (subst (λ z. Unexpected end z r) e y))

pub no_prefix_at_end : {end : End} {i : Bool} {ts : List Token} {r : Refusal} → ts ≡ [] → Unexpected end ts r → PrefixStops end i ts r
no_prefix_at_end {end} {i} {r = r} e y = subst (λ z. PrefixStops end i z r) (sym e) (st.no_token (subst (λ z. Unexpected end z r) e y))

pub prefix_read : {end : End} {i : Bool} {t : Token} {ts rest : List Token} {prefix : List ℕ} → ts ≡ t ∷ rest → identifier_or_keyword t.word ≡ Some prefix → ((v : Refusal) → UriStops end i rest v → ⊥)
    → (v : Refusal) → PrefixStops end i ts v → ⊥
prefix_read {end} {i} {t} {rest = rest} e k h v y = by (subst (λ z. PrefixStops end i z v) e y)
  where
    by : PrefixStops end i (t ∷ rest) v → ⊥
    by (no_prefix l y) = some_none k l
    by (st.uri l y) = h v y

-- Words.

-- Declarations.

pub declares_namespace : (scope : List Bound) (ts rest after : List Token) (prefix uri : List ℕ) → StartsWith (codes "namespace") ts rest → PrefixUriAt rest prefix uri after → MayBind scope prefix uri
    → DeclarationAt scope ts (bound_to prefix uri ∷ scope) after
declares_namespace scope ts rest after prefix uri (t, is, k) (u, v, w, e, x, y, l) m =
    subst (λ z. DeclarationAt scope z (bound_to prefix uri ∷ scope) after) (sym (is ∙ ap (λ z. t ∷ z) e)) (namespace k x y l m)

pub declares_datatypes : (scope : List Bound) (ts rest after : List Token) (prefix uri : List ℕ) → StartsWith (codes "datatypes") ts rest → PrefixUriAt rest prefix uri after → DeclarationAt scope ts scope after
declares_datatypes scope ts rest after prefix uri (t, is, k) (u, v, w, e, x, y, l) =
    subst (λ z. DeclarationAt scope z scope after) (sym (is ∙ ap (λ z. t ∷ z) e)) (datatypes k x y l)

pub declares_default : (scope : List Bound) (ts mid rest after : List Token) (uri : List ℕ) → StartsWith (codes "default") ts mid → StartsWith (codes "namespace") mid rest → UriAt rest uri after → MayBind scope [] uri
    → DeclarationAt scope ts (bound_to [] uri ∷ scope) after
declares_default scope ts mid rest after uri (s, is, k) (t, js, l) (v, w, e, x, y) m =
    subst (λ z. DeclarationAt scope z (bound_to [] uri ∷ scope) after) (sym (is ∙ (ap (λ z. s ∷ z) js ∙ ap (λ z. s ∷ t ∷ z) e))) (default_namespace k l x y m)

pub declares_both : (scope : List Bound) (ts mid rest after : List Token) (prefix uri : List ℕ) → StartsWith (codes "default") ts mid → StartsWith (codes "namespace") mid rest → PrefixUriAt rest prefix uri after
    → MayBind scope [] uri → MayBind scope prefix uri → DeclarationAt scope ts (bound_to [] uri ∷ bound_to prefix uri ∷ scope) after
declares_both scope ts mid rest after prefix uri (s, is, k) (t, js, l) (u, v, w, e, x, y, z) m n =
    subst (λ z. DeclarationAt scope z (bound_to [] uri ∷ bound_to prefix uri ∷ scope) after) (sym (is ∙ (ap (λ z. s ∷ z) js ∙ ap (λ z. s ∷ t ∷ z) e))) (both k l x y z m n)

prefix_uri_unique : {ts r s : List Token} {p q u v : List ℕ} → PrefixUriAt ts p u r → PrefixUriAt ts q v s → (p ≡ q) × (u ≡ v)
prefix_uri_unique (a, b, c, e, x, k, l) (a', b', c', e', x', k', l') =
    let tail = same_tail (sym e ∙ e') in
    let third = same_head (same_tail tail) in
    (same_some (sym (ap (λ z. identifier_or_keyword z.word) (same_head (sym e ∙ e'))) ∙ x) x', same_literal l.word (ap (λ z. z.word) third ∙ l'.word))

uri_unique : {ts r s : List Token} {u v : List ℕ} → UriAt ts u r → UriAt ts v s → u ≡ v
uri_unique (b, c, e, k, l) (b', c', e', k', l') = same_literal l.word (ap (λ z. z.word) (same_head (same_tail (sym e ∙ e'))) ∙ l'.word)

may_bind : {scope : List Bound} {p p' v v' : List ℕ} → p ≡ p' → v ≡ v' → MayBind scope p v → MayBind scope p' v'
may_bind {scope} {p} {v' = v'} e f m = subst (λ z. MayBind scope z v') e (subst (MayBind scope p) f m)

-- what is read behind an equals sign, and behind a prefix
name_of_uri : {end : End} {i : Bool} {v w : Token} {after : List Token} → IsMark 0x3D v → ((r : Refusal) → UriStops end i (v ∷ w ∷ after) r → ⊥) → (r : Refusal) → NoNamespaceName end i (w ∷ after) r → ⊥
name_of_uri k h r y = h r (no_namespace_name k y)

name_of_prefix : {end : End} {i : Bool} {t v w : Token} {after : List Token} {p : List ℕ} → identifier_or_keyword t.word ≡ Some p → IsMark 0x3D v
    → ((r : Refusal) → PrefixStops end i (t ∷ v ∷ w ∷ after) r → ⊥) → (r : Refusal) → NoNamespaceName end i (w ∷ after) r → ⊥
name_of_prefix e k h r y = h r (st.uri e (no_namespace_name k y))

pub namespace_stops : {end : End} {scope : List Bound} {ts rest : List Token} {r : Refusal} → StartsWith (codes "namespace") ts rest → PrefixStops end true rest r → DeclarationStops end scope ts r
namespace_stops {end} {scope} {r = r} (t, e, k) y = subst (λ z. DeclarationStops end scope z r) (sym e) (namespace_prefix k y)

pub namespace_taken : {end : End} {scope : List Bound} {ts rest after : List Token} {p v : List ℕ} {r : Refusal} → StartsWith (codes "namespace") ts rest → PrefixUriAt rest p v after
    → ((s : Refusal) → PrefixStops end true rest s → ⊥) → (MayBind scope p v → ⊥) → Unexpected end ts r → DeclarationStops end scope ts r
namespace_taken {end} {scope} {ts} {after = after} {r = r} (t, e, k) (a, b, c, f, x, y, l) h n z =
    let all : ts ≡ t ∷ a ∷ b ∷ c ∷ after = e ∙ ap (λ w. t ∷ w) f in
    subst (λ w. DeclarationStops end scope w r) (sym all)
    (namespace_bound k x y l (name_of_prefix x y (subst (λ w. (s : Refusal) → PrefixStops end true w s → ⊥) f h)) n (subst (λ w. Unexpected end w r) all z))

pub namespace_read : {end : End} {scope : List Bound} {ts rest after : List Token} {p v : List ℕ} → StartsWith (codes "namespace") ts rest → PrefixUriAt rest p v after
    → ((s : Refusal) → PrefixStops end true rest s → ⊥) → MayBind scope p v → (s : Refusal) → DeclarationStops end scope ts s → ⊥
unfolding declaration_stops kind_at
namespace_read {end} {scope} {p = p} {v = v} (t, e, k) m h n s y = by m h (subst (λ w. DeclarationStops end scope w s) e y)
  where
    by : {rest after : List Token} → PrefixUriAt rest p v after → ((s : Refusal) → PrefixStops end true rest s → ⊥) → DeclarationStops end scope (t ∷ rest) s → ⊥
    by m h (namespace_prefix a y) = h s y
    by m h (namespace_bound {u = a'} {v = b'} {w = c'} {after = z'} a b c d g o y) = let same = prefix_uri_unique m (a', b', c', refl, b, c, d) in o (may_bind same.0 same.1 n)
    by m h z = absurd (omega (arith, declaration_stops_at z, namespace_kind k))

pub datatypes_stops : {end : End} {scope : List Bound} {ts rest : List Token} {r : Refusal} → StartsWith (codes "datatypes") ts rest → PrefixStops end false rest r → DeclarationStops end scope ts r
datatypes_stops {end} {scope} {r = r} (t, e, k) y = subst (λ z. DeclarationStops end scope z r) (sym e) (datatypes_prefix k y)

pub datatypes_read : {end : End} {scope : List Bound} {ts rest : List Token} → StartsWith (codes "datatypes") ts rest → ((s : Refusal) → PrefixStops end false rest s → ⊥) → (s : Refusal) → DeclarationStops end scope ts s → ⊥
unfolding declaration_stops kind_at
datatypes_read {end} {scope} (t, e, k) h s y = by h (subst (λ w. DeclarationStops end scope w s) e y)
  where
    by : {rest : List Token} → ((s : Refusal) → PrefixStops end false rest s → ⊥) → DeclarationStops end scope (t ∷ rest) s → ⊥
    by h (datatypes_prefix a y) = h s y
    by h z = absurd (omega (arith, declaration_stops_at z, datatypes_kind k))

pub undeclared : (ts : List Token) → BeginsDeclaration ts → LacksWord (codes "namespace") ts → LacksWord (codes "default") ts → LacksWord (codes "datatypes") ts → ⊥
undeclared [] b n d k = b
undeclared (t ∷ ts) (inl a) n d k = n a
undeclared (t ∷ ts) (inr (inl a)) n d k = d a
undeclared (t ∷ ts) (inr (inr a)) n d k = k a

-- `default namespace`
pub default_stops : {end : End} {scope : List Bound} {ts mid : List Token} {r : Refusal} → StartsWith (codes "default") ts mid → LacksWord (codes "namespace") mid → Unexpected end mid r → DeclarationStops end scope ts r
default_stops {end} {scope} {r = r} (t, e, k) h y = subst (λ z. DeclarationStops end scope z r) (sym e) (default_word k h y)

pub default_uri_stops : {end : End} {scope : List Bound} {ts mid rest behind : List Token} {r : Refusal} → StartsWith (codes "default") ts mid → StartsWith (codes "namespace") mid rest → BeginsWith 0x3D rest behind
    → UriStops end true rest r → DeclarationStops end scope ts r
default_uri_stops {end} {scope} {ts} {rest = rest} {behind} {r} (s, e, k) (t, f, l) (v, g, m) y =
    let all : ts ≡ s ∷ t ∷ v ∷ behind = e ∙ (ap (λ z. s ∷ z) f ∙ ap (λ z. s ∷ t ∷ z) g) in
    subst (λ z. DeclarationStops end scope z r) (sym all) (default_uri k l m (subst (λ z. UriStops end true z r) g y))

pub default_taken : {end : End} {scope : List Bound} {ts mid rest after : List Token} {x : List ℕ} {r : Refusal} → StartsWith (codes "default") ts mid → StartsWith (codes "namespace") mid rest → UriAt rest x after
    → ((s : Refusal) → UriStops end true rest s → ⊥) → (MayBind scope [] x → ⊥) → Unexpected end ts r → DeclarationStops end scope ts r
default_taken {end} {scope} {ts} {after = after} {r = r} (s, e, k) (t, f, l) (v, w, g, m, o) h n y =
    let all : ts ≡ s ∷ t ∷ v ∷ w ∷ after = e ∙ (ap (λ z. s ∷ z) f ∙ ap (λ z. s ∷ t ∷ z) g) in
    subst (λ z. DeclarationStops end scope z r) (sym all)
    (default_bound k l m o (name_of_uri m (subst (λ z. (s : Refusal) → UriStops end true z s → ⊥) g h)) n (subst (λ z. Unexpected end z r) all y))

pub both_stops : {end : End} {scope : List Bound} {ts mid rest : List Token} {r : Refusal} → StartsWith (codes "default") ts mid → StartsWith (codes "namespace") mid rest → LacksMark 0x3D rest
    → PrefixStops end true rest r → DeclarationStops end scope ts r
both_stops {end} {scope} {ts} {rest = rest} {r = r} (s, e, k) (t, f, l) h y =
    let all : ts ≡ s ∷ t ∷ rest = e ∙ ap (λ z. s ∷ z) f in
    subst (λ z. DeclarationStops end scope z r) (sym all) (both_prefix k l h y)

pub both_taken : {end : End} {scope : List Bound} {ts mid rest after : List Token} {p x : List ℕ} {r : Refusal} → StartsWith (codes "default") ts mid → StartsWith (codes "namespace") mid rest → PrefixUriAt rest p x after
    → ((s : Refusal) → PrefixStops end true rest s → ⊥) → (MayBind scope [] x → MayBind scope p x → ⊥) → Unexpected end ts r → DeclarationStops end scope ts r
both_taken {end} {scope} {ts} {after = after} {r = r} (s, e, k) (t, f, l) (a, v, w, g, i, m, o) h n y =
    let all : ts ≡ s ∷ t ∷ a ∷ v ∷ w ∷ after = e ∙ (ap (λ z. s ∷ z) f ∙ ap (λ z. s ∷ t ∷ z) g) in
    subst (λ z. DeclarationStops end scope z r) (sym all)
    (both_bound k l i m o (name_of_prefix i m (subst (λ z. (s : Refusal) → PrefixStops end true z s → ⊥) g h)) n (subst (λ z. Unexpected end z r) all y))

two_first : {ts mid rest : List Token} (s t : Token) → ts ≡ s ∷ mid → mid ≡ t ∷ rest → ts ≡ s ∷ t ∷ rest
two_first s t e f = e ∙ ap (λ z. s ∷ z) f

pub default_read : {end : End} {scope : List Bound} {ts mid rest after : List Token} {x : List ℕ} → StartsWith (codes "default") ts mid → StartsWith (codes "namespace") mid rest → UriAt rest x after
    → ((r : Refusal) → UriStops end true rest r → ⊥) → MayBind scope [] x → (r : Refusal) → DeclarationStops end scope ts r → ⊥
unfolding declaration_stops kind_at
default_read {end} {scope} {x = x} (s, e, k) (t, f, l) m h n r y = by m h (subst (λ w. DeclarationStops end scope w r) (two_first s t e f) y)
  where
    no_prefix_here : {rest after : List Token} {a b : Token} {us : List Token} {q : List ℕ} → rest ≡ a ∷ b ∷ us → identifier_or_keyword a.word ≡ Some q → UriAt rest x after → ⊥
    no_prefix_here is i (v, w, g, o, j) = q.no_equals (ap (λ z. z.word) (sym (same_head (sym g ∙ is))) ∙ o) i

    by : {rest after : List Token} → UriAt rest x after → ((r : Refusal) → UriStops end true rest r → ⊥) → DeclarationStops end scope (s ∷ t ∷ rest) r → ⊥
    by m h (default_word a g z) = g l
    by m h (default_uri a b c z) = h r z
    by m h (default_bound {u = v'} {v = w'} {after = z'} a b c d g o z) = o (subst (MayBind scope []) (uri_unique m (v', w', refl, c, d)) n)
    by (v, w, g, o, j) h (both_prefix a b i z) = lacks_begins i g o
    by m h (both_bound a b c d i g o z) = no_prefix_here refl c m
    by m h z = absurd (omega (arith, declaration_stops_at z, default_kind k))

pub both_read : {end : End} {scope : List Bound} {ts mid rest after : List Token} {p x : List ℕ} → StartsWith (codes "default") ts mid → StartsWith (codes "namespace") mid rest → LacksMark 0x3D rest → PrefixUriAt rest p x after
    → ((r : Refusal) → PrefixStops end true rest r → ⊥) → MayBind scope [] x → MayBind scope p x → (r : Refusal) → DeclarationStops end scope ts r → ⊥
unfolding declaration_stops kind_at
both_read {end} {scope} {p = p} {x = x} (s, e, k) (t, f, l) lacks m h n n' r y = by lacks m h (subst (λ w. DeclarationStops end scope w r) (two_first s t e f) y)
  where
    by : {rest after : List Token} → LacksMark 0x3D rest → PrefixUriAt rest p x after → ((r : Refusal) → PrefixStops end true rest r → ⊥) → DeclarationStops end scope (s ∷ t ∷ rest) r → ⊥
    by lacks m h (default_word a g z) = g l
    by lacks m h (default_uri a b c z) = lacks c
    by lacks m h (default_bound a b c d g o z) = lacks c
    by lacks m h (both_prefix a b i z) = h r z
    by lacks m h (both_bound {u = a'} {v = b'} {w = c'} a b c d i g o z) = let same = prefix_uri_unique m (a', b', c', refl, c, d, i) in o (subst (MayBind scope []) same.1 n) (may_bind same.0 same.1 n')
    by lacks m h z = absurd (omega (arith, declaration_stops_at z, default_kind k))

-- All declarations.

pub nothing_declared : (end : End) (scope : List Bound) (ts : List Token) → Declares end scope scope ts ts
nothing_declared end scope ts = record { forth = λ d ds m. m; stops = λ d r y. y }

pub one_declared : (end : End) (scope within inner : List Bound) (ts rest after : List Token) → Declares end scope within ts rest → DeclarationAt within rest inner after
    → ((r : Refusal) → DeclarationStops end within rest r → ⊥) → Declares end scope inner ts after
one_declared end scope within inner ts rest after h a k = record {
  forth = λ d ds m. h.forth d ds (declaration a m);
  stops = λ d r y. h.stops d r (past_declaration a k y);
}

pub declared_shorter : {scope within : List Bound} {ts after : List Token} → DeclarationAt scope ts within after → length after < length ts
declared_shorter (namespace a b c d e) = omega arith
declared_shorter (default_namespace a b c d e) = omega arith
declared_shorter (both a b c d e f g) = omega arith
declared_shorter (datatypes a b c d) = omega arith
