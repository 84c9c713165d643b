-- Where the escape of a character stands.
use Rattle.std.proofs.Common.{◌≡◌, ◌≢◌, ◌⊎◌, inl, inr, ℕ, ◌+◌, ◌<◌, ◌≤◌, ◌==◌, Bool, true, false, cond, List, [], ◌∷◌, refl, ap, ◌∙◌, sym, subst, length, take, drop, arith, length-drop, length-take, Option, None, Some, MatchOption}
use Rattle.std.proofs.lemmas.Bool.Decides.{eqb_tells}
use Rattle.tc_base.specs.declared.Place.{Place}
use Rattle.tc_model.specs.Views.{place}
use Rattle.tc_model.specs.XmlTextBytes.{begins_with, length_before, Lacks, UpTo}
use Rattle.tc_model.specs.CompactSyntaxTokens.{Word, a_name, escaped, prefixed, all_of, literal, long_literal, mark, Token}
use Rattle.tc_model.specs.CompactSyntaxUnread.{escape_mark, EscapeAt, in_text, in_literal, in_long_literal, NoEscape}
use Rattle.tc_model.proofs.CompactSyntaxClassesUnique.{same_some, some_none}
use Rattle.tc_scan.proofs.FrontLaws.{stands_at, found}
use Rattle.tc_rnc.specs.Escapes.{quoted_text, HasEscape, LacksEscape, IsEscapeText}

pub before_within : (text bs : List ℕ) → length_before text bs ≤ length bs
before_within text [] = omega arith
before_within text (b ∷ bs) = by (begins_with text (b ∷ bs)) (before_within text bs)
  where
    by : (x : Bool) → length_before text bs ≤ length bs → cond x 0 (1 + length_before text bs) ≤ length (b ∷ bs)
    by true h = omega arith
    by false h = omega (arith, h)

-- what stands nowhere is lacking
pub lacks_mark : (text bs : List ℕ) → ((inside after : List ℕ) → UpTo text bs inside after → ⊥) → Lacks text bs
lacks_mark text bs h = by (length_before text bs) refl (eqb_tells (length_before text bs) (length bs))
  where
    by : (n : ℕ) → n ≡ length_before text bs → (((length_before text bs == length bs) ≡ true) × (length_before text bs ≡ length bs)) ⊎ (((length_before text bs == length bs) ≡ false) × (length_before text bs ≢ length bs)) → Lacks text bs
    by n is (inl e) = e.1
    by n is (inr e) = absurd (h (take n bs) (drop (n + length text) bs)
        (found text bs (take n bs) (drop (n + length text) bs) n is refl
        (stands_at text bs n is (omega (arith, is, before_within text bs)) (λ f. e.1 (sym is ∙ f))) refl))

-- where the mark of an escape stands
pub mark_within : (bs inside after : List ℕ) (n : ℕ) → UpTo escape_mark bs inside after → n ≡ length inside → (n ≡ length_before escape_mark bs) × (n < length bs)
mark_within bs inside after n u e =
    let k = length_before escape_mark bs in
    (omega (arith, e, ap length u.front, length-take k bs, before_within escape_mark bs), omega (arith, e, ap length u.front, length-take k bs, before_within escape_mark bs, ap length u.back, length-drop k bs))

pub no_literal : (t : Token) → quoted_text t.word ≡ None → LacksEscape t
no_literal t h q s e = absurd (some_none e h)

pub text_lacks : (t : Token) {q : ℕ} {s : List ℕ} → quoted_text t.word ≡ Some (q, s) → Lacks escape_mark s → LacksEscape t
text_lacks t e h p r f = subst (Lacks escape_mark) (ap (λ z. z.1) (same_some e f)) h

pub text_escape : {t : Token} {ts us : List Token} → us ≡ t ∷ ts → IsEscapeText t ts → EscapeAt us t.place
text_escape {t} {ts} {us} e h =
    subst (λ w. EscapeAt w t.place) (sym (e ∙ ap (λ w. t ∷ w) h.parts)) (in_text h.is_slash h.is_name h.is_brace h.name_follows h.brace_follows)

pub literal_escape : {t : Token} {ts us : List Token} {p : ℕ} → us ≡ t ∷ ts → HasEscape t p → EscapeAt us p
literal_escape {t} {ts} {us} {p} e h = subst (λ w. EscapeAt w p) (sym e) (by t.word refl)
  where
    at : (n : ℕ) → h.quotes ≡ n → EscapeAt (t ∷ ts) (t.place + n + length_before escape_mark h.value) → EscapeAt (t ∷ ts) p
    at n is a = subst (EscapeAt (t ∷ ts)) (sym (h.stands ∙ ap (λ m. t.place + m + length_before escape_mark h.value) is)) a

    by : (w : Word) → t.word ≡ w → EscapeAt (t ∷ ts) p
    by (a_name n) f = absurd (some_none h.text (ap quoted_text f))
    by (escaped n) f = absurd (some_none h.text (ap quoted_text f))
    by (prefixed q n) f = absurd (some_none h.text (ap quoted_text f))
    by (all_of q) f = absurd (some_none h.text (ap quoted_text f))
    by (mark c) f = absurd (some_none h.text (ap quoted_text f))
    by (literal v) f =
        let same = same_some h.text (ap quoted_text f) in
        at 1 (ap (λ z. z.0) same) (in_literal (f ∙ ap literal (sym (ap (λ z. z.1) same))) h.within)
    by (long_literal v) f =
        let same = same_some h.text (ap quoted_text f) in
        at 3 (ap (λ z. z.0) same) (in_long_literal (f ∙ ap long_literal (sym (ap (λ z. z.1) same))) h.within)

pub no_escape_in_none : {us : List Token} → us ≡ [] → NoEscape us
no_escape_in_none e p (in_text a b c d f) = omega (arith, ap length e)
no_escape_in_none e p (in_literal a b) = omega (arith, ap length e)
no_escape_in_none e p (in_long_literal a b) = omega (arith, ap length e)

pub no_escape_in_others : {t : Token} {ts us : List Token} → us ≡ t ∷ ts → (IsEscapeText t ts → ⊥) → LacksEscape t → NoEscape us
no_escape_in_others {t} {ts} {us} e h k p a = by ts p h k (subst (λ w. EscapeAt w p) e a)
  where
    by : (ts : List Token) (p : ℕ) → (IsEscapeText t ts → ⊥) → LacksEscape t → EscapeAt (t ∷ ts) p → ⊥
    by ts p h k (in_text {u = u} {v = v} {after = after} a b c d f) =
        h (record { name = u; brace = v; after = after; parts = refl; is_slash = a; is_name = b; is_brace = c; name_follows = d; brace_follows = f })
    by ts p h k (in_literal {value = value} a b) = omega (arith, b, k 1 value (ap quoted_text a))
    by ts p h k (in_long_literal {value = value} a b) = omega (arith, b, k 3 value (ap quoted_text a))

pub escape_found : {t : Token} {ts us : List Token} (found : Option Place) → us ≡ t ∷ ts → (IsEscapeText t ts → ⊥) → MatchOption found (LacksEscape t) (λ p. HasEscape t (place p))
    → MatchOption found (NoEscape us) (λ p. EscapeAt us (place p))
escape_found None e h m = no_escape_in_others e h m
escape_found (Some p) e h m = literal_escape e m

pub ruleset escapes = (text_escape, literal_escape, no_escape_in_none, no_escape_in_others)
