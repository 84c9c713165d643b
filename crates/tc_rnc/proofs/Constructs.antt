-- What stands where nothing that is read may.
use Rattle.std.proofs.Common.{◌≡◌, ℕ, Bool, true, false, List, [], ◌∷◌, refl, ap, ◌∙◌, sym, subst, length, arith, None, Some, codes}
use Rattle.std.proofs.lemmas.Bool.{false≢true}
use Rattle.tc_base.specs.declared.reasons.Why.{Why}
use Rattle.tc_base.specs.declared.reasons.Why.TheVariants.{ValuePattern, Include, Escape, TripleQuote}
use Rattle.tc_model.specs.CompactSyntaxTokens.{Word, a_name, escaped, prefixed, all_of, literal, long_literal, mark, Token}
use Rattle.tc_model.specs.CompactSyntaxNames.{IsWord, IsMark}
use Rattle.tc_model.specs.CompactSyntaxUnread.{Refusal, unsupported, End, EscapeAt, NoEscape, AnnotationAt, bracket, two_signs, Unexpected, LiteralStops, escape_within, three_quotes, is_literal, unread_pattern, BeginsNoPattern, NoPattern, unread, value, no_token, BeginsNoDefinition, NoDefinition, include}
use Rattle.tc_model.specs.CompactSyntaxUnread as u
use Rattle.tc_rnc.specs.Connectors.{BeginsNone, BeginsNoneRead}
use Rattle.tc_rnc.specs.Escapes.{IsTwoSigns, StopsAtLiteral, ReadsLiteral}
use Rattle.tc_rnc.specs.Blocks.{DefinesNothing, IsEndOfDefinitions, IsFirst}

-- `>>` with what follows it
pub signs : {t : Token} {ts : List Token} → IsTwoSigns t ts → AnnotationAt (t ∷ ts)
signs {t} k = subst (λ w. AnnotationAt (t ∷ w)) (sym k.parts) (two_signs k.is_first k.is_second k.follows)

pub no_annotation : {t : Token} {ts : List Token} → (IsMark 0x5B t → ⊥) → (IsTwoSigns t ts → ⊥) → AnnotationAt (t ∷ ts) → ⊥
no_annotation h k (bracket a) = h a
no_annotation h k (two_signs {u = v} {after = after} a b c) = k (record { second = v; after = after; parts = refl; is_first = a; is_second = b; follows = c })

pub ruleset annotations = (bracket, signs, no_annotation)

-- at the first token of these
pub unexpected_first : {end : End} {t : Token} {ts us : List Token} {r : Refusal} → us ≡ t ∷ ts → Unexpected end (t ∷ ts) r → Unexpected end us r
unexpected_first {end} {r = r} e h = subst (λ w. Unexpected end w r) (sym e) h

pub none_begins : {t : Token} {ts us : List Token} → us ≡ t ∷ ts → BeginsNoneRead us → unread_pattern t.word ≡ None → is_literal t.word ≡ false → BeginsNoPattern t.word
none_begins {t} e b n l = let h : BeginsNone t.word = subst BeginsNoneRead e b in record {
  no_element = h.no_element;
  no_attribute = h.no_attribute;
  no_mixed = h.no_mixed;
  no_empty = h.no_empty;
  no_text = h.no_text;
  no_not_allowed = h.no_not_allowed;
  no_parenthesis = h.no_parenthesis;
  no_reference = h.no_reference;
  no_literal = l;
  no_unread = n;
}

-- where a pattern should begin
pub unread_first : {end : End} {t : Token} {ts us : List Token} {why : Why} → us ≡ t ∷ ts → unread_pattern t.word ≡ Some why → NoPattern end us (unsupported why t.place)
unread_first {end} {t} {why = why} e h = subst (λ z. NoPattern end z (unsupported why t.place)) (sym e) (unread h)

pub literal_first : {end : End} {us : List Token} {r : Refusal} → StopsAtLiteral us r → NoPattern end us r
literal_first {end} {r = r} h = subst (λ z. NoPattern end z r) (sym h.parts) (u.a_literal h.a_literal h.stops)

-- a literal in single quotes that is read
pub read_literal : {t : Token} {ts us : List Token} {s : List ℕ} → us ≡ t ∷ ts → ReadsLiteral us → t.word ≡ literal s → NoEscape us
read_literal {t} {ts} e h k = subst NoEscape (sym e) (h t ts e (ap is_literal k)).no_escape

-- no literal stands there
pub no_literal_at : {t : Token} {ts us : List Token} → us ≡ t ∷ ts → ReadsLiteral us → ((s : List ℕ) → t.word ≡ literal s → ⊥) → is_literal t.word ≡ false
no_literal_at {t} {ts} {us} e h k = by (is_literal t.word) refl
  where
    by : (x : Bool) → is_literal t.word ≡ x → x ≡ false
    by true f = let one = h t ts e f in absurd (k one.value one.word)
    by false f = refl

pub value_first : {end : End} {t : Token} {ts us : List Token} {s : List ℕ} → us ≡ t ∷ ts → ReadsLiteral us → t.word ≡ literal s → NoPattern end us (unsupported ValuePattern t.place)
value_first {end} {t} e h k = subst (λ z. NoPattern end z (unsupported ValuePattern t.place)) (sym e) (value k (subst NoEscape e (read_literal e h k)))

pub none_first : {end : End} {t : Token} {ts us : List Token} {r : Refusal} → us ≡ t ∷ ts → BeginsNoPattern t.word → Unexpected end us r → NoPattern end us r
none_first {end} {r = r} e b y = subst (λ z. NoPattern end z r) (sym e) (u.none b (subst (λ z. Unexpected end z r) e y))

pub ended_first : {end : End} {us : List Token} {r : Refusal} → us ≡ [] → Unexpected end us r → NoPattern end us r
ended_first {end} {r = r} e y = subst (λ z. NoPattern end z r) (sym e) (no_token (subst (λ z. Unexpected end z r) e y))

-- a literal that isn't read wherever it stands
pub escape_stops : {t : Token} {ts us : List Token} {p : ℕ} → us ≡ t ∷ ts → is_literal t.word ≡ true → EscapeAt us p → StopsAtLiteral us (unsupported Escape p)
escape_stops {t} {ts} {p = p} e k h = record { first = t; after = ts; parts = e; a_literal = k; stops = escape_within (subst (λ z. EscapeAt z p) e h) }

long_word : (w : Word) → is_literal w ≡ true → ((s : List ℕ) → w ≡ literal s → ⊥) → (s : List ℕ) × (w ≡ long_literal s)
long_word (a_name n) h k = absurd (false≢true h)
long_word (escaped n) h k = absurd (false≢true h)
long_word (prefixed p n) h k = absurd (false≢true h)
long_word (all_of p) h k = absurd (false≢true h)
long_word (literal s) h k = absurd (k s refl)
long_word (long_literal s) h k = (s, refl)
long_word (mark c) h k = absurd (false≢true h)

pub three_stop : {t : Token} {ts us : List Token} → us ≡ t ∷ ts → is_literal t.word ≡ true → NoEscape us → ((s : List ℕ) → t.word ≡ literal s → ⊥) → StopsAtLiteral us (unsupported TripleQuote t.place)
three_stop {t} {ts} e k h l =
    let (s, is) = long_word t.word k l in
    record { first = t; after = ts; parts = e; a_literal = k; stops = three_quotes is (subst NoEscape e h) }

pub reads_in_none : {us : List Token} → us ≡ [] → ReadsLiteral us
reads_in_none e t ts f k = absurd (omega (arith, ap length (sym e ∙ f)))

-- where a definition should begin
pub include_first : {end : End} {t : Token} {us : List Token} → IsFirst t us → IsWord (codes "include") t → NoDefinition end us (unsupported Include t.place)
include_first {end} {t} (ts, e) k = subst (λ z. NoDefinition end z (unsupported Include t.place)) (sym e) (include k)

not_brace : {t : Token} {us : List Token} → IsFirst t us → (IsEndOfDefinitions us → ⊥) → IsMark 0x7D t → ⊥
not_brace (ts, e) h k = h (subst IsEndOfDefinitions (sym e) k)

pub none_defined : {end : End} {t : Token} {us : List Token} {r : Refusal} → IsFirst t us → (IsEndOfDefinitions us → ⊥) → (IsWord (codes "div") t → ⊥) → DefinesNothing t → (IsWord (codes "include") t → ⊥)
    → Unexpected end us r → NoDefinition end us r
none_defined {end} {t} {r = r} (ts, e) h d n i y =
    let b : BeginsNoDefinition t = record { no_start = n.0; no_div = d; no_include = i; no_name = n.1; no_brace = not_brace (ts, e) h } in
    subst (λ z. NoDefinition end z r) (sym e) (u.none b (subst (λ z. Unexpected end z r) e y))
