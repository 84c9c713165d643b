-- What stands first among tokens, or doesn't.
use Rattle.std.proofs.Common.{◌≡◌, ◌≢◌, ◌⊎◌, inl, inr, ℕ, zero, suc, ◌+◌, ◌<◌, ◌≤◌, ◌==◌, Bool, true, false, List, [], ◌∷◌, refl, ap, ◌∙◌, sym, subst, length, arith, Option, None, Some, bytes_eq, codes}
use Rattle.std.proofs.lemmas.Bool.{false≢true, cases_lt}
use Rattle.std.proofs.lemmas.Bool.Decides.{eqb_tells}
use Rattle.std.proofs.lemmas.Slice.Eq.{bytes_eq-Decides}
use Rattle.tc_base.specs.declared.reasons.Why.TheVariants.{Annotation, Escape}
use Rattle.tc_model.specs.XmlTextBytes.{length_before}
use Rattle.tc_model.specs.CompactSyntaxTokens.{Word, a_name, escaped, prefixed, all_of, literal, long_literal, mark, Token}
use Rattle.tc_model.specs.CompactSyntaxUnread.{Refusal, malformed, unsupported, End, escape_mark, EscapeAt, in_text, in_literal, in_long_literal, NoEscape, AnnotationAt, bracket, Unexpected, escape, annotation, other, unclosed, at_end}
use Rattle.tc_model.proofs.CompactSyntaxClassesUnique.{same_head, same_tail}
use Rattle.tc_model.proofs.CompactSyntaxUnread.{no_escape_at_end}
use Rattle.tc_rnc.specs.Escapes.{IsEscapeText, IsTwoSigns}
use Rattle.tc_rnc.proofs.Constructs.{signs, no_annotation}

-- it is so, or not
abbrev pub Decided : Type 0 → Type 0
Decided P = P ⊎ (P → ⊥)

pub both : {P Q : Type 0} → Decided P → Decided Q → Decided (P × Q)
both (inl p) (inl q) = inl (p, q)
both (inl p) (inr h) = inr (λ z. h z.1)
both (inr h) q = inr (λ z. h z.0)

pub decided_by : {P Q : Type 0} → (P → Q) → (Q → P) → Decided P → Decided Q
decided_by f g (inl p) = inl (f p)
decided_by f g (inr h) = inr (λ q. h (g q))

pub number_is : (m n : ℕ) → Decided (m ≡ n)
number_is m n = by (eqb_tells m n)
  where
    by : (((m == n) ≡ true) × (m ≡ n)) ⊎ (((m == n) ≡ false) × (m ≢ n)) → Decided (m ≡ n)
    by (inl e) = inl e.1
    by (inr e) = inr e.1

pub bytes_are : (xs ys : List ℕ) → Decided (xs ≡ ys)
bytes_are xs ys = by (bytes_eq xs ys) refl
  where
    by : (b : Bool) → bytes_eq xs ys ≡ b → Decided (xs ≡ ys)
    by true e = inl ((bytes_eq-Decides xs ys).0 e)
    by false e = inr (λ same. false≢true (sym e ∙ (bytes_eq-Decides xs ys).1 same))

pub is_true : (b : Bool) → Decided (b ≡ true)
is_true true = inl refl
is_true false = inr false≢true

other_name : {n m : List ℕ} → a_name n ≡ a_name m → n ≡ m
other_name e = cc

other_sign : {c d : ℕ} → mark c ≡ mark d → c ≡ d
other_sign e = cc

pub mark_is : (c : ℕ) (w : Word) → Decided (w ≡ mark c)
mark_is c (mark d) = decided_by (λ e. ap mark e) (λ e. other_sign e) (number_is d c)
mark_is c (a_name n) = inr (λ e. cc)
mark_is c (escaped n) = inr (λ e. cc)
mark_is c (prefixed p n) = inr (λ e. cc)
mark_is c (all_of p) = inr (λ e. cc)
mark_is c (literal s) = inr (λ e. cc)
mark_is c (long_literal s) = inr (λ e. cc)

pub word_is : (s : List ℕ) (w : Word) → Decided (w ≡ a_name s)
word_is s (a_name n) = decided_by (λ e. ap a_name e) (λ e. other_name e) (bytes_are n s)
word_is s (mark d) = inr (λ e. cc)
word_is s (escaped n) = inr (λ e. cc)
word_is s (prefixed p n) = inr (λ e. cc)
word_is s (all_of p) = inr (λ e. cc)
word_is s (literal v) = inr (λ e. cc)
word_is s (long_literal v) = inr (λ e. cc)

-- the escape of a character

no_more_tokens : {t : Token} {ts : List Token} → [] ≡ t ∷ ts → ⊥
no_more_tokens e = omega (arith, ap length e)

escape_text : (t : Token) (ts : List Token) → Decided (IsEscapeText t ts)
escape_text t [] = inr (λ k. no_more_tokens k.parts)
escape_text t (u ∷ []) = inr (λ k. no_more_tokens (same_tail k.parts))
escape_text t (u ∷ (v ∷ after)) =
    decided_by to from (both (mark_is 0x5C t.word) (both (word_is (codes "x") u.word) (both (mark_is 0x7B v.word) (both (number_is u.place (t.place + 1)) (number_is v.place (u.place + 1))))))
  where
    to : (t.word ≡ mark 0x5C) × ((u.word ≡ a_name (codes "x")) × ((v.word ≡ mark 0x7B) × ((u.place ≡ t.place + 1) × (v.place ≡ u.place + 1)))) → IsEscapeText t (u ∷ (v ∷ after))
    to h = record { name = u; brace = v; after = after; parts = refl; is_slash = h.0; is_name = h.1.0; is_brace = h.1.1.0; name_follows = h.1.1.1.0; brace_follows = h.1.1.1.1 }

    from : IsEscapeText t (u ∷ (v ∷ after)) → (t.word ≡ mark 0x5C) × ((u.word ≡ a_name (codes "x")) × ((v.word ≡ mark 0x7B) × ((u.place ≡ t.place + 1) × (v.place ≡ u.place + 1))))
    from k =
        let e = same_head k.parts in
        let f = same_head (same_tail k.parts) in (
          k.is_slash,
          (
            ap (λ z. z.word) e ∙ k.is_name,
            (
              ap (λ z. z.word) f ∙ k.is_brace,
              (ap (λ z. z.place) e ∙ k.name_follows, ap (λ z. z.place) f ∙ (k.brace_follows ∙ ap (λ z. z.place + 1) (sym e))),
            ),
          ),
        )

within : (v : List ℕ) → Decided (length_before escape_mark v < length v)
within v = by (cases_lt (length_before escape_mark v) (length v))
  where
    by : (length_before escape_mark v < length v) ⊎ (length v ≤ length_before escape_mark v) → Decided (length_before escape_mark v < length v)
    by (inl l) = inl l
    by (inr l) = inr (λ h. omega (arith, h, l))

pub escape_at : (ts : List Token) → ((p : ℕ) × EscapeAt ts p) ⊎ NoEscape ts
escape_at [] = inr (λ p a. no_escape_at_end a)
escape_at (t ∷ ts) = by t.word refl (escape_text t ts)
  where
    of_text : IsEscapeText t ts → (p : ℕ) × EscapeAt (t ∷ ts) p
    of_text h = (t.place, subst (λ z. EscapeAt (t ∷ z) t.place) (sym h.parts) (in_text h.is_slash h.is_name h.is_brace h.name_follows h.brace_follows))

    none : (IsEscapeText t ts → ⊥) → ((v : List ℕ) → t.word ≡ literal v → length_before escape_mark v < length v → ⊥) → ((v : List ℕ) → t.word ≡ long_literal v → length_before escape_mark v < length v → ⊥)
        → (p : ℕ) → EscapeAt (t ∷ ts) p → ⊥
    none h k l p a = at h a
      where
        at : {us : List Token} {q : ℕ} → (IsEscapeText t us → ⊥) → EscapeAt (t ∷ us) q → ⊥
        at h (in_text {u = u} {v = v} {after = after} a b c d e) =
            h (record { name = u; brace = v; after = after; parts = refl; is_slash = a; is_name = b; is_brace = c; name_follows = d; brace_follows = e })
        at h (in_literal {value = v} a b) = k v a b
        at h (in_long_literal {value = v} a b) = l v a b

    in_word : (v : List ℕ) → t.word ≡ literal v → (IsEscapeText t ts → ⊥) → Decided (length_before escape_mark v < length v) → ((p : ℕ) × EscapeAt (t ∷ ts) p) ⊎ NoEscape (t ∷ ts)
    in_word v e h (inl l) = inl (t.place + 1 + length_before escape_mark v, in_literal e l)
    in_word v e h (inr k) = inr (none h (λ w f l. k (subst (λ z. length_before escape_mark z < length z) (same f) l)) (λ w f l. absurd (other_kind f)))
      where
        same : {w : List ℕ} → t.word ≡ literal w → w ≡ v
        same f = cc

        other_kind : {w : List ℕ} → t.word ≡ long_literal w → ⊥
        other_kind f = cc

    in_long : (v : List ℕ) → t.word ≡ long_literal v → (IsEscapeText t ts → ⊥) → Decided (length_before escape_mark v < length v) → ((p : ℕ) × EscapeAt (t ∷ ts) p) ⊎ NoEscape (t ∷ ts)
    in_long v e h (inl l) = inl (t.place + 3 + length_before escape_mark v, in_long_literal e l)
    in_long v e h (inr k) = inr (none h (λ w f l. absurd (other_kind f)) (λ w f l. k (subst (λ z. length_before escape_mark z < length z) (same f) l)))
      where
        same : {w : List ℕ} → t.word ≡ long_literal w → w ≡ v
        same f = cc

        other_kind : {w : List ℕ} → t.word ≡ literal w → ⊥
        other_kind f = cc

    by : (w : Word) → t.word ≡ w → Decided (IsEscapeText t ts) → ((p : ℕ) × EscapeAt (t ∷ ts) p) ⊎ NoEscape (t ∷ ts)
    by w e (inl h) = inl (of_text h)
    by (literal v) e (inr h) = in_word v e h (within v)
    by (long_literal v) e (inr h) = in_long v e h (within v)
    by (a_name n) e (inr h) = inr (none h (λ v f l. cc) (λ v f l. cc))
    by (escaped n) e (inr h) = inr (none h (λ v f l. cc) (λ v f l. cc))
    by (prefixed p n) e (inr h) = inr (none h (λ v f l. cc) (λ v f l. cc))
    by (all_of p) e (inr h) = inr (none h (λ v f l. cc) (λ v f l. cc))
    by (mark c) e (inr h) = inr (none h (λ v f l. cc) (λ v f l. cc))

-- an annotation

two_signs_at : (t : Token) (ts : List Token) → Decided (IsTwoSigns t ts)
two_signs_at t [] = inr (λ k. no_more_tokens k.parts)
two_signs_at t (u ∷ after) = decided_by to from (both (mark_is 0x3E t.word) (both (mark_is 0x3E u.word) (number_is u.place (t.place + 1))))
  where
    to : (t.word ≡ mark 0x3E) × ((u.word ≡ mark 0x3E) × (u.place ≡ t.place + 1)) → IsTwoSigns t (u ∷ after)
    to h = record { second = u; after = after; parts = refl; is_first = h.0; is_second = h.1.0; follows = h.1.1 }

    from : IsTwoSigns t (u ∷ after) → (t.word ≡ mark 0x3E) × ((u.word ≡ mark 0x3E) × (u.place ≡ t.place + 1))
    from k = let e = same_head k.parts in (k.is_first, (ap (λ z. z.word) e ∙ k.is_second, ap (λ z. z.place) e ∙ k.follows))

annotation_at : (t : Token) (ts : List Token) → Decided (AnnotationAt (t ∷ ts))
annotation_at t ts = by (mark_is 0x5B t.word) (two_signs_at t ts)
  where
    by : Decided (t.word ≡ mark 0x5B) → Decided (IsTwoSigns t ts) → Decided (AnnotationAt (t ∷ ts))
    by (inl e) k = inl (bracket e)
    by (inr h) (inl k) = inl (signs k)
    by (inr h) (inr k) = inr (no_annotation h k)

-- what stands there is refused, where nothing that is read may stand
pub unexpected : (end : End) (ts : List Token) → (r : Refusal) × Unexpected end ts r
unexpected end ts = by ts (escape_at ts)
  where
    ended : (o : Option ℕ) → end.escape ≡ o → (r : Refusal) × Unexpected end [] r
    ended None e = (malformed end.place, at_end e)
    ended (Some p) e = (unsupported Escape p, unclosed e)

    first : (t : Token) (us : List Token) → NoEscape (t ∷ us) → Decided (AnnotationAt (t ∷ us)) → (r : Refusal) × Unexpected end (t ∷ us) r
    first t us h (inl a) = (unsupported Annotation t.place, annotation a)
    first t us h (inr k) = (malformed t.place, other h k)

    by : (us : List Token) → ((p : ℕ) × EscapeAt us p) ⊎ NoEscape us → (r : Refusal) × Unexpected end us r
    by us (inl (p, a)) = (unsupported Escape p, escape a)
    by [] (inr h) = ended end.escape refl
    by (t ∷ us) (inr h) = first t us h (annotation_at t us)

-- what holds of a list where it holds of all shorter ones
pub by_length : {X : Type 0} (P : List X → Type 0) → ((ts : List X) → ((us : List X) → length us < length ts → P us) → P ts) → (ts : List X) → P ts
by_length {X} P step ts = go (suc (length ts)) ts (omega arith)
  where
    go : (n : ℕ) (us : List X) → length us < n → P us
    go zero us h = absurd (omega (arith, h))
    go (suc n) us h = step us (λ vs g. go n vs (omega (arith, h, g)))
