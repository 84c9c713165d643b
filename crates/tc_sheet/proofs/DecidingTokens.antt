-- The tokens of any bytes, if all of them are tokens.
use Rattle.std.proofs.Common.{◌≡◌, ◌⊎◌, inl, inr, ℕ, ◌<◌, Bool, true, false, List, [], ◌∷◌, refl, ap, ◌∙◌, sym, subst, length, arith, Option, None, Some, IsFalse}
use Rattle.std.proofs.lemmas.Bool.{true≢false}
use Rattle.tc_model.specs.XmlTextBytes.{after_white, LiteralAt}
use Rattle.tc_model.specs.XmlTextNames.{NcNameAt, QNameAt}
use Rattle.tc_model.specs.PathTextTokens.{Mark, Token, name, all_of_prefix, mark, number, literal, variable, singles, doubles, single_in, double_in, begins_with_number, after_digits, after_fraction, MarkAt, of_two, of_one, EndsName, TokenAt, unprefixed, prefixed, with_star, a_mark, a_number, a_literal, a_variable, Tokens, no_more, one_more}
use Rattle.tc_model.proofs.PathTextLexing.{token_unique, no_token}
use Rattle.tc_model.proofs.XmlTextPhrases.{same_first, same_others, ncname_unique, no_name}
use Rattle.tc_path.proofs.TokenLaws.{white_shorter, token_shorter}
use Rattle.tc_sheet.proofs.DecidingBytes.{none_some, bytes_are, begins, literal_here}
use Rattle.tc_sheet.proofs.DecidingNames.{ncname_here, qname_here, by_length}

-- a mark
abbrev MarkHere : List ℕ → Type 0
MarkHere bs = ((m : Mark) × ((after : List ℕ) × MarkAt bs m after)) ⊎ ((m : Mark) (after : List ℕ) → MarkAt bs m after → ⊥)

mark_here : (bs : List ℕ) → MarkHere bs
mark_here [] = inr (λ m after a. elim a [ ])
mark_here (a ∷ []) = by (single_in singles a) refl
  where
    nothing_there : {b : ℕ} {r : List ℕ} → [] ≡ b ∷ r → ⊥
    nothing_there e = omega (arith, ap length e)

    none : single_in singles a ≡ None → (m : Mark) (after : List ℕ) → MarkAt (a ∷ []) m after → ⊥
    none e m after (of_one h f) = none_some e f

    by : (o : Option Mark) → single_in singles a ≡ o → MarkHere (a ∷ [])
    by (Some m) e = inl (m, ([], of_one (λ b r f. absurd (nothing_there f)) e))
    by None e = inr (none e)
mark_here (a ∷ b ∷ r) = by (double_in doubles a b) refl (single_in singles a) refl
  where
    none : double_in doubles a b ≡ None → single_in singles a ≡ None → (m : Mark) (after : List ℕ) → MarkAt (a ∷ b ∷ r) m after → ⊥
    none e f m after (of_two g) = none_some e g
    none e f m after (of_one h g) = none_some f g

    by : (o : Option Mark) → double_in doubles a b ≡ o → (p : Option Mark) → single_in singles a ≡ p → MarkHere (a ∷ b ∷ r)
    by (Some m) e p f = inl (m, (r, of_two e))
    by None e (Some m) f = inl (m, (b ∷ r, of_one (λ c s g. subst (λ z. double_in doubles a z ≡ None) (same_first g) e) f))
    by None e None f = inr (none e f)

-- where a name may end, or one colon stands
ends_name : (bs : List ℕ) → EndsName bs ⊎ ((r : List ℕ) × ((bs ≡ 0x3A ∷ r) × ((s : List ℕ) → r ≡ 0x3A ∷ s → ⊥)))
ends_name bs = elim (begins 0x3A bs) [
  | inr h ↦ inl (λ r e. absurd (h r e))
  | inl (r, e) ↦ elim (begins 0x3A r) [ inl (s, f) ↦ inl (λ q g. (s, same_others (sym g ∙ e) ∙ f)) | inr k ↦ inr (r, (e, k)) ]
]

-- a token
abbrev TokenHere : List ℕ → Type 0
TokenHere bs = ((t : Token) × ((after : List ℕ) × TokenAt bs t after)) ⊎ ((t : Token) (after : List ℕ) → TokenAt bs t after → ⊥)

-- neither a number, a mark nor a literal stands there
record NoneOfThese (bs : List ℕ) : Type 0 where
  no_number : IsFalse (begins_with_number bs)
  no_mark : (m : Mark) (after : List ℕ) → MarkAt bs m after → ⊥
  no_literal : (v after : List ℕ) → LiteralAt bs v after → ⊥

-- behind a name one colon, which no name and no star follows
no_rest : (bs : List ℕ) → NoneOfThese bs → (n after r : List ℕ) → NcNameAt bs n after → after ≡ 0x3A ∷ r → ((s : List ℕ) → r ≡ 0x3A ∷ s → ⊥) → ((l s : List ℕ) → NcNameAt r l s → ⊥) → ((s : List ℕ) → r ≡ 0x2A ∷ s → ⊥)
    → (t : Token) (s : List ℕ) → TokenAt bs t s → ⊥
no_rest bs k n after r a e h f g t s (unprefixed {after = z} b i) = let (q, j) = i r ((ncname_unique b a).1 ∙ e) in h q j
no_rest bs k n after r a e h f g t s (prefixed {local = l} b c) = f l s (subst (λ z. NcNameAt z l s) (same_others ((ncname_unique b a).1 ∙ e)) c)
no_rest bs k n after r a e h f g t s (with_star b) = g s (sym (same_others ((ncname_unique b a).1 ∙ e)))
no_rest bs k n after r a e h f g t s (a_mark {m = m} i b) = k.no_mark m s b
no_rest bs k n after r a e h f g t s (a_number i) = true≢false (sym i ∙ k.no_number)
no_rest bs k n after r a e h f g t s (a_literal {value = v} b) = k.no_literal v s b
no_rest bs k n after r a e h f g t s (a_variable b) = no_name 0x24 (omega arith) refl a

behind_name : (bs : List ℕ) → NoneOfThese bs → (n after : List ℕ) → NcNameAt bs n after → TokenHere bs
behind_name bs k n after a = elim (ends_name after) [
  | inl e ↦ inl (name (record { prefix = []; local = n }), (after, unprefixed a e))
  | inr (r, (e, h)) ↦ elim (ncname_here r) [
    | inl (l, (s, b)) ↦ inl (name (record { prefix = n; local = l }), (s, prefixed (subst (NcNameAt bs n) e a) b))
    | inr f ↦ elim (begins 0x2A r) [
      | inl (s, g) ↦ inl (all_of_prefix n, (s, with_star (subst (NcNameAt bs n) (e ∙ ap (λ z. 0x3A ∷ z) g) a)))
      | inr g ↦ inr (no_rest bs k n after r a e h f g)
    ]
  ]
]

no_variable : (bs : List ℕ) → NoneOfThese bs → ((n after : List ℕ) → NcNameAt bs n after → ⊥) → ((rest : List ℕ) → bs ≡ 0x24 ∷ rest → (n : _) (s : List ℕ) → QNameAt rest n s → ⊥) → (t : Token) (s : List ℕ) → TokenAt bs t s → ⊥
no_variable bs k h f t s (unprefixed {local = l} b i) = h l s b
no_variable bs k h f t s (prefixed {prefix = p} {rest = r} b c) = h p (0x3A ∷ r) b
no_variable bs k h f t s (with_star {prefix = p} b) = h p (0x3A ∷ 0x2A ∷ s) b
no_variable bs k h f t s (a_mark {m = m} i b) = k.no_mark m s b
no_variable bs k h f t s (a_number i) = true≢false (sym i ∙ k.no_number)
no_variable bs k h f t s (a_literal {value = v} b) = k.no_literal v s b
no_variable bs k h f t s (a_variable {rest = rest} {n = n} b) = f rest refl n s b

nameless : (bs : List ℕ) → NoneOfThese bs → ((n after : List ℕ) → NcNameAt bs n after → ⊥) → TokenHere bs
nameless bs k h = elim (begins 0x24 bs) [
  | inr g ↦ inr (no_variable bs k h (λ r e n s b. g r e))
  | inl (r, e) ↦ elim (qname_here r) [
    | inl (n, (s, b)) ↦ inl (variable, (s, subst (λ z. TokenAt z variable s) (sym e) (a_variable b)))
    | inr g ↦ inr (no_variable bs k h (λ q f n s b. g (n, (s, subst (λ z. QNameAt z n s) (same_others (sym f ∙ e)) b))))
  ]
]

other_token : (bs : List ℕ) → NoneOfThese bs → TokenHere bs
other_token bs k = elim (ncname_here bs) [ inl (n, (after, a)) ↦ behind_name bs k n after a | inr h ↦ nameless bs k h ]

token_here : (bs : List ℕ) → TokenHere bs
token_here bs = by (begins_with_number bs) refl
  where
    by : (b : Bool) → begins_with_number bs ≡ b → TokenHere bs
    by true e = inl (number, (after_fraction (after_digits bs), a_number e))
    by false e = elim (mark_here bs) [
      | inl (m, (s, a)) ↦ inl (mark m, (s, a_mark e a))
      | inr h ↦ elim (literal_here bs) [
        | inl (v, (s, l)) ↦ inl (literal, (s, a_literal l))
        | inr g ↦ other_token bs (record { no_number = e; no_mark = h; no_literal = g })
      ]
    ]

-- all tokens
abbrev pub TokensHere : List ℕ → Type 0
TokensHere bs = ((ts : List Token) × Tokens bs ts) ⊎ ((ts : List Token) → Tokens bs ts → ⊥)

pub tokens_here : (bs : List ℕ) → TokensHere bs
tokens_here = by_length TokensHere step
  where
    no_first : (bs : List ℕ) → (after_white bs ≡ [] → ⊥) → ((t : Token) (s : List ℕ) → TokenAt (after_white bs) t s → ⊥) → (ts : List Token) → Tokens bs ts → ⊥
    no_first bs h k ts (no_more e) = h e
    no_first bs h k ts (one_more {rest = r} {t = t} a m) = k t r a

    no_others : (bs : List ℕ) (t : Token) (r : List ℕ) → TokenAt (after_white bs) t r → ((ts : List Token) → Tokens r ts → ⊥) → (ts : List Token) → Tokens bs ts → ⊥
    no_others bs t r a h ts (no_more e) = no_token (subst (λ z. TokenAt z t r) e a)
    no_others bs t r a h ts (one_more {ts = us} b m) = h us (subst (λ z. Tokens z us) (token_unique b a).1 m)

    behind : (bs : List ℕ) (t : Token) (r : List ℕ) → TokenAt (after_white bs) t r → TokensHere r → TokensHere bs
    behind bs t r a (inl (ts, m)) = inl (t ∷ ts, one_more a m)
    behind bs t r a (inr h) = inr (no_others bs t r a h)

    step : (bs : List ℕ) → ((cs : List ℕ) → length cs < length bs → TokensHere cs) → TokensHere bs
    step bs ih = elim (bytes_are (after_white bs) []) [
      | inl e ↦ inl ([], no_more e)
      | inr h ↦ elim (token_here (after_white bs)) [
        | inr k ↦ inr (no_first bs h k)
        | inl (t, (r, a)) ↦ let i = white_shorter bs in let j = token_shorter a in behind bs t r a (ih r (omega (arith, i, j)))
      ]
    ]
