-- What is refused where nothing that is read stands is refused for one reason, at one place.
use Rattle.std.proofs.Common.{◌≡◌, ℕ, ◌+◌, ◌≤◌, Bool, true, false, cond, List, [], ◌∷◌, refl, ap, ◌∙◌, sym, subst, arith, None, Some, bytes_eq, codes}
use Rattle.std.proofs.lemmas.Bool.{false≢true}
use Rattle.std.proofs.lemmas.Slice.Eq.{bytes_eq-Decides}
use Rattle.tc_base.specs.declared.reasons.Why.{Why}
use Rattle.tc_base.specs.declared.reasons.Why.TheVariants.{DataPattern, ListPattern, ExternalPattern, NestedGrammar, ParentReference, Escape}
use Rattle.tc_model.specs.XmlTextBytes.{length_before}
use Rattle.tc_model.specs.CompactSyntaxTokens.{Word, a_name, escaped, prefixed, all_of, literal, long_literal, mark, Token}
use Rattle.tc_model.specs.CompactSyntaxUnread.{Refusal, malformed, unsupported, too_deep, End, escape_mark, EscapeAt, in_text, in_literal, in_long_literal, NoEscape, AnnotationAt, bracket, two_signs, Unexpected, escape, annotation, other, unclosed, at_end, LiteralStops, escape_within, three_quotes, is_literal, unread_keyword, unread_pattern, NoPattern, NoDefinition, include, NoNamespaceName, inherit, concatenation}
use Rattle.tc_model.specs.CompactSyntaxUnread as u
use Rattle.tc_model.proofs.CompactSyntaxClassesUnique.{same_some, some_none, word_kind, keyword_kind}

-- words of two kinds differ
pub word_tag : Word → ℕ
word_tag (a_name n) = 1
word_tag (escaped n) = 2
word_tag (prefixed p n) = 3
word_tag (all_of p) = 4
word_tag (literal s) = 5
word_tag (long_literal s) = 0
word_tag (mark c) = 6 + c

text_in : Word → List ℕ
text_in (literal s) = s
text_in (long_literal s) = s
text_in _ = []

pub mark_no_literal : {w : Word} {c : ℕ} {s : List ℕ} → w ≡ mark c → w ≡ literal s → ⊥
unfolding word_tag
mark_no_literal e f = omega (arith, ap word_tag (sym e ∙ f))

pub name_no_literal : {w : Word} {n s : List ℕ} → w ≡ a_name n → w ≡ literal s → ⊥
unfolding word_tag
name_no_literal e f = omega (arith, ap word_tag (sym e ∙ f))

pub mark_no_long : {w : Word} {c : ℕ} {s : List ℕ} → w ≡ mark c → w ≡ long_literal s → ⊥
unfolding word_tag
mark_no_long e f = omega (arith, ap word_tag (sym e ∙ f))

pub literal_no_long : {w : Word} {s v : List ℕ} → w ≡ literal s → w ≡ long_literal v → ⊥
unfolding word_tag
literal_no_long e f = omega (arith, ap word_tag (sym e ∙ f))

pub name_is_no_literal : {w : Word} {n : List ℕ} → w ≡ a_name n → is_literal w ≡ true → ⊥
name_is_no_literal e h = false≢true (sym (ap is_literal e) ∙ h)

pub name_no_mark : {w : Word} {n : List ℕ} {c : ℕ} → w ≡ a_name n → w ≡ mark c → ⊥
unfolding word_tag
name_no_mark e f = omega (arith, ap word_tag (sym e ∙ f))

pub other_mark : {w : Word} {c d : ℕ} → w ≡ mark c → w ≡ mark d → c ≡ d
unfolding word_tag
other_mark {c = c} {d = d} e f = let same : 6 + c ≡ 6 + d = ap word_tag (sym e ∙ f) in omega (arith, same)

pub same_literal : {w : Word} {s v : List ℕ} → w ≡ literal s → w ≡ literal v → s ≡ v
unfolding text_in
same_literal e f = ap text_in (sym e ∙ f)

same_long : {w : Word} {s v : List ℕ} → w ≡ long_literal s → w ≡ long_literal v → s ≡ v
unfolding text_in
same_long e f = ap text_in (sym e ∙ f)

pub escape_unique : {ts : List Token} {p q : ℕ} → EscapeAt ts p → EscapeAt ts q → p ≡ q
escape_unique (in_text a b c d e) (in_text a' b' c' d' e') = refl
escape_unique (in_text a b c d e) (in_literal a' b') = absurd (mark_no_literal a a')
escape_unique (in_text a b c d e) (in_long_literal a' b') = absurd (mark_no_long a a')
escape_unique (in_literal a' b') (in_text a b c d e) = absurd (mark_no_literal a a')
escape_unique (in_literal {t = t} a b) (in_literal a' b') = ap (λ v. t.place + 1 + length_before escape_mark v) (same_literal a a')
escape_unique (in_literal a b) (in_long_literal a' b') = absurd (literal_no_long a a')
escape_unique (in_long_literal a b) (in_text a' b' c' d' e') = absurd (mark_no_long a' a)
escape_unique (in_long_literal a b) (in_literal a' b') = absurd (literal_no_long a' a)
escape_unique (in_long_literal {t = t} a b) (in_long_literal a' b') = ap (λ v. t.place + 3 + length_before escape_mark v) (same_long a a')

-- neither is the other
escape_or_annotation : {ts : List Token} {p : ℕ} → EscapeAt ts p → AnnotationAt ts → ⊥
escape_or_annotation (in_text a b c d e) (bracket h) = omega (arith, other_mark a h)
escape_or_annotation (in_text a b c d e) (two_signs h k f) = omega (arith, other_mark a h)
escape_or_annotation (in_literal a b) (bracket h) = mark_no_literal h a
escape_or_annotation (in_literal a b) (two_signs h k f) = mark_no_literal h a
escape_or_annotation (in_long_literal a b) (bracket h) = mark_no_long h a
escape_or_annotation (in_long_literal a b) (two_signs h k f) = mark_no_long h a

pub no_escape_at_end : {p : ℕ} → EscapeAt [] p → ⊥
no_escape_at_end e = elim e [ ]

pub unexpected_unique : {end : End} {ts : List Token} {r s : Refusal} → Unexpected end ts r → Unexpected end ts s → r ≡ s
unexpected_unique (escape a) (escape b) = ap (unsupported Escape) (escape_unique a b)
unexpected_unique (escape a) (annotation b) = absurd (escape_or_annotation a b)
unexpected_unique (escape {place = p} a) (other h k) = absurd (h p a)
unexpected_unique (escape a) (unclosed e) = absurd (no_escape_at_end a)
unexpected_unique (escape a) (at_end e) = absurd (no_escape_at_end a)
unexpected_unique (annotation b) (escape a) = absurd (escape_or_annotation a b)
unexpected_unique (annotation a) (annotation b) = refl
unexpected_unique (annotation a) (other h k) = absurd (k a)
unexpected_unique (other h k) (escape {place = p} a) = absurd (h p a)
unexpected_unique (other h k) (annotation a) = absurd (k a)
unexpected_unique (other h k) (other h' k') = refl
unexpected_unique (unclosed e) (escape a) = absurd (no_escape_at_end a)
unexpected_unique (unclosed e) (unclosed f) = ap (unsupported Escape) (same_some e f)
unexpected_unique (unclosed e) (at_end f) = absurd (some_none e f)
unexpected_unique (at_end e) (escape a) = absurd (no_escape_at_end a)
unexpected_unique (at_end f) (unclosed e) = absurd (some_none e f)
unexpected_unique (at_end e) (at_end f) = refl

-- the same where the tokens are the same
pub unexpected_one : {end : End} {ts us : List Token} {r s : Refusal} → ts ≡ us → Unexpected end ts r → Unexpected end us s → r ≡ s
unexpected_one {end} {s = s} e a b = unexpected_unique a (subst (λ z. Unexpected end z s) (sym e) b)

pub literal_unique : {ts : List Token} {r s : Refusal} → LiteralStops ts r → LiteralStops ts s → r ≡ s
literal_unique (escape_within a) (escape_within b) = ap (unsupported Escape) (escape_unique a b)
literal_unique (escape_within {place = p} a) (three_quotes k h) = absurd (h p a)
literal_unique (three_quotes k h) (escape_within {place = p} a) = absurd (h p a)
literal_unique (three_quotes k h) (three_quotes k' h') = refl

pub literal_stops_not : {t : Token} {ts : List Token} {s : List ℕ} {r : Refusal} → t.word ≡ literal s → NoEscape (t ∷ ts) → LiteralStops (t ∷ ts) r → ⊥
literal_stops_not e g (escape_within {place = p} a) = g p a
literal_stops_not e g (three_quotes k h) = literal_no_long e k

unread_no_literal : (w : Word) {why : Why} → unread_pattern w ≡ Some why → is_literal w ≡ true → ⊥
unread_no_literal (a_name n) e h = false≢true h
unread_no_literal (escaped n) e h = false≢true h
unread_no_literal (prefixed p n) e h = false≢true h
unread_no_literal (all_of p) e h = false≢true h
unread_no_literal (literal s) e h = some_none e refl
unread_no_literal (long_literal s) e h = some_none e refl
unread_no_literal (mark c) e h = false≢true h

pub no_pattern_unique : {end : End} {ts : List Token} {r s : Refusal} → NoPattern end ts r → NoPattern end ts s → r ≡ s
no_pattern_unique (u.unread {t = t} e) (u.unread f) = ap (λ w. unsupported w t.place) (same_some e f)
no_pattern_unique (u.unread {t = t} e) (u.a_literal k l) = absurd (unread_no_literal t.word e k)
no_pattern_unique (u.unread e) (u.value k g) = absurd (some_none e (ap unread_pattern k))
no_pattern_unique (u.unread e) (u.none b x) = absurd (some_none e b.no_unread)
no_pattern_unique (u.a_literal {t = t} k l) (u.unread e) = absurd (unread_no_literal t.word e k)
no_pattern_unique (u.a_literal k l) (u.a_literal k' l') = literal_unique l l'
no_pattern_unique (u.a_literal k l) (u.value k' g) = absurd (literal_stops_not k' g l)
no_pattern_unique (u.a_literal k l) (u.none b y) = absurd (false≢true (sym b.no_literal ∙ k))
no_pattern_unique (u.value k g) (u.unread e) = absurd (some_none e (ap unread_pattern k))
no_pattern_unique (u.value k g) (u.a_literal k' l) = absurd (literal_stops_not k g l)
no_pattern_unique (u.value k g) (u.value k' g') = refl
no_pattern_unique (u.value k g) (u.none b y) = absurd (false≢true (sym b.no_literal ∙ ap is_literal k))
no_pattern_unique (u.none b x) (u.unread e) = absurd (some_none e b.no_unread)
no_pattern_unique (u.none b y) (u.a_literal k l) = absurd (false≢true (sym b.no_literal ∙ k))
no_pattern_unique (u.none b y) (u.value k g) = absurd (false≢true (sym b.no_literal ∙ ap is_literal k))
no_pattern_unique (u.none b x) (u.none b' y) = unexpected_unique x y
no_pattern_unique (u.no_token x) (u.no_token y) = unexpected_unique x y

pub no_definition_unique : {end : End} {ts : List Token} {r s : Refusal} → NoDefinition end ts r → NoDefinition end ts s → r ≡ s
no_definition_unique (include k) (include l) = refl
no_definition_unique (include k) (u.none b x) = absurd (b.no_include k)
no_definition_unique (u.none b x) (include k) = absurd (b.no_include k)
no_definition_unique (u.none b x) (u.none b' y) = unexpected_unique x y

pub no_namespace_name_unique : {end : End} {i : Bool} {ts : List Token} {r s : Refusal} → NoNamespaceName end i ts r → NoNamespaceName end i ts s → r ≡ s
no_namespace_name_unique (inherit h k) (inherit h' l) = refl
no_namespace_name_unique (inherit h k) (u.a_literal e l) = absurd (name_is_no_literal k e)
no_namespace_name_unique (inherit h k) (concatenation e g m) = absurd (name_no_literal k e)
no_namespace_name_unique (inherit h k) (u.none l n x) = absurd (n h k)
no_namespace_name_unique (u.a_literal e l) (inherit h k) = absurd (name_is_no_literal k e)
no_namespace_name_unique (u.a_literal e l) (u.a_literal e' l') = literal_unique l l'
no_namespace_name_unique (u.a_literal e l) (concatenation e' g m) = absurd (literal_stops_not e' g l)
no_namespace_name_unique (u.a_literal e l) (u.none k n x) = absurd (false≢true (sym k ∙ e))
no_namespace_name_unique (concatenation e g m) (inherit h k) = absurd (name_no_literal k e)
no_namespace_name_unique (concatenation e' g m) (u.a_literal e l) = absurd (literal_stops_not e' g l)
no_namespace_name_unique (concatenation e g m) (concatenation e' g' m') = refl
no_namespace_name_unique (concatenation e g m) (u.none k n x) = absurd (false≢true (sym k ∙ ap is_literal e))
no_namespace_name_unique (u.none l n x) (inherit h k) = absurd (n h k)
no_namespace_name_unique (u.none k n x) (u.a_literal e l) = absurd (false≢true (sym k ∙ e))
no_namespace_name_unique (u.none k n x) (concatenation e g m) = absurd (false≢true (sym k ∙ ap is_literal e))
no_namespace_name_unique (u.none k n x) (u.none k' n' y) = unexpected_unique x y
no_namespace_name_unique (u.no_token x) (u.no_token y) = unexpected_unique x y

-- what isn't read as a pattern begins as no other phrase
pub unread_kind : (w : Word) {why : Why} → unread_pattern w ≡ Some why → 9 ≤ word_kind w
unfolding word_kind keyword_kind
unread_kind (a_name n) {why} e = by (bytes_eq n (codes "string")) refl (bytes_eq n (codes "token")) refl (bytes_eq n (codes "list")) refl (bytes_eq n (codes "external")) refl (bytes_eq n (codes "grammar")) refl (bytes_eq n (codes "parent")) refl e
  where
    named : (s : List ℕ) → 9 ≤ word_kind (a_name s) → bytes_eq n s ≡ true → 9 ≤ word_kind (a_name n)
    named s is e = subst (λ w. 9 ≤ word_kind (a_name w)) (sym ((bytes_eq-Decides n s).0 e)) is

    by : (a : Bool) → bytes_eq n (codes "string") ≡ a → (b : Bool) → bytes_eq n (codes "token") ≡ b → (c : Bool) → bytes_eq n (codes "list") ≡ c → (d : Bool) → bytes_eq n (codes "external") ≡ d
        → (f : Bool) → bytes_eq n (codes "grammar") ≡ f → (g : Bool) → bytes_eq n (codes "parent") ≡ g
        → cond a (Some DataPattern) (cond b (Some DataPattern) (cond c (Some ListPattern) (cond d (Some ExternalPattern) (cond f (Some NestedGrammar) (cond g (Some ParentReference) None))))) ≡ Some why → 9 ≤ word_kind (a_name n)
    by true e1 b e2 c e3 d e4 f e5 g e6 e = named (codes "string") (omega arith) e1
    by false e1 true e2 c e3 d e4 f e5 g e6 e = named (codes "token") (omega arith) e2
    by false e1 false e2 true e3 d e4 f e5 g e6 e = named (codes "list") (omega arith) e3
    by false e1 false e2 false e3 true e4 f e5 g e6 e = named (codes "external") (omega arith) e4
    by false e1 false e2 false e3 false e4 true e5 g e6 e = named (codes "grammar") (omega arith) e5
    by false e1 false e2 false e3 false e4 false e5 true e6 e = named (codes "parent") (omega arith) e6
    by false e1 false e2 false e3 false e4 false e5 false e6 e = absurd (some_none e refl)
unread_kind (escaped n) e = absurd (some_none e refl)
unread_kind (prefixed p n) e = omega arith
unread_kind (all_of p) e = absurd (some_none e refl)
unread_kind (literal s) e = absurd (some_none e refl)
unread_kind (long_literal s) e = absurd (some_none e refl)
unread_kind (mark c) e = absurd (some_none e refl)
