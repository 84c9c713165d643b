-- What is read of a text as tokens.
use Rattle.std.proofs.Common.{not, cond, ◌&&◌, ◌||◌, ◌==◌, ◌≡◌, ◌≢◌, ◌⊎◌, inl, inr, ℕ, ◌+◌, ◌-◌, ◌<◌, ◌≤◌, Bool, true, false, List, [], ◌∷◌, ◌++◌, refl, ap, ◌∙◌, sym, subst, length, drop, arith, append-nil, length-append, length-take, length-drop, Option, None, Some, MatchOption}
use Rattle.std.specs.Prelude.{encode_utf8, MatchBool}
use Rattle.std.specs.Option.{option_map}
use Rattle.std.proofs.lemmas.Bool.{eqb-true}
use Rattle.std.proofs.lemmas.Bool.Decides.{eqb_tells}
use Rattle.tc_base.specs.declared.Place.{Place}
use Rattle.tc_model.specs.Views as view
use Rattle.tc_model.specs.XmlText.{after_mark}
use Rattle.tc_model.specs.XmlTextBytes.{FrontOf, place_of, length_before, Lacks, LiteralAt, IsQuote}
use Rattle.tc_model.specs.XmlTextNames.{NcNameAt}
use Rattle.tc_model.specs.CompactSyntaxTokens as m
use Rattle.tc_model.specs.CompactSyntaxTokens.{Word, a_name, escaped, prefixed, all_of, literal, long_literal, mark, Token, three, LongLiteralAt, WordAt, plain_name, prefixed_name, namespace_name, escaped_name, quoted, quoted_long, backslash, other, TokensAt}
use Rattle.tc_model.specs.CompactSyntaxUnread.{escape_mark}
use Rattle.tc_model.specs.CompactSyntaxUnread as u
use Rattle.tc_model.specs.CompactSyntaxRefused.{line, is_quote, unclosed_escape, TokensUpTo, so_far, white, comment, token, BeginsNoSpace}
use Rattle.tc_model.proofs.CompactSyntaxOrdered.{word_shorter}
use Rattle.tc_rnc.specs.Extents.{extent}
use Rattle.tc_rnc.specs.Fronts as f
use Rattle.tc_rnc.specs.Fronts.{Skips}
use Rattle.tc_rnc.specs.Lexed.{ReadsTokens, ReadsAllTokens, IsWhole, Lexed}
use Rattle.tc_rnc.specs.declared.tokens.End.{End}
use Rattle.tc_rnc.specs.Views as seen
use Rattle.tc_rnc.specs.declared.tokens.Word as code
use Rattle.tc_rnc.specs.declared.tokens.Word.TheVariants as words
use Rattle.tc_rnc.proofs.FrontLaws.{after_run_len}

pub up_to_up_to : {total : ℕ} {xs ys zs : List ℕ} {ts us : List Token} → TokensUpTo total xs ts ys → TokensUpTo total ys us zs → TokensUpTo total xs (ts ++ us) zs
up_to_up_to so_far b = b
up_to_up_to (white h a) b = white h (up_to_up_to a b)
up_to_up_to (comment a) b = comment (up_to_up_to a b)
up_to_up_to (token w a) b = token w (up_to_up_to a b)

pub up_to_end : {total : ℕ} {xs rest : List ℕ} {ts : List Token} → rest ≡ [] → TokensUpTo total xs ts rest → TokensAt total xs ts
up_to_end {total} e so_far = subst (λ w. TokensAt total w []) (sym e) m.at_end
up_to_end e (white h a) = m.white h (up_to_end e a)
up_to_end e (comment a) = m.comment (up_to_end e a)
up_to_end e (token w a) = m.token w (up_to_end e a)

pub skips_up_to : {total : ℕ} {xs ys : List ℕ} → Skips xs ys → TokensUpTo total xs [] ys
skips_up_to f.nothing = so_far
skips_up_to (f.white h a) = white h (skips_up_to a)
skips_up_to (f.comment a) = comment (skips_up_to a)

pub skips_within : {xs ys : List ℕ} → Skips xs ys → length ys ≤ length xs
skips_within f.nothing = omega arith
skips_within (f.white h a) = omega (arith, skips_within a)
skips_within (f.comment {bs = bs} a) = omega (arith, skips_within a, after_run_len f.is_in_line bs)

-- how many bytes a word takes at least
word_extent : Word → ℕ
word_extent (literal s) = 1 + length s
word_extent (long_literal s) = 3 + length s
word_extent _ = 0

same_extent : (w : code.Word) → extent w ≡ word_extent (seen.word w)
unfolding word_extent
same_extent (words.Name n) = refl
same_extent (words.Escaped n) = refl
same_extent (words.Prefixed q) = refl
same_extent (words.AllOf p) = refl
same_extent (words.Literal s) = refl
same_extent (words.LongLiteral s) = refl
same_extent (words.Mark c) = refl

name_takes : {bs n r : List ℕ} → NcNameAt bs n r → length r ≤ length bs
name_takes {n = n} {r = r} a = omega (arith, ap length a.parts, length-append n r)

literal_takes : {bs s r : List ℕ} → LiteralAt bs s r → 1 + length s + length r ≤ length bs
literal_takes {bs} {s} {r} a =
    omega (arith, ap length a.opens, ap length a.closes.front, length-take (length_before (a.quote ∷ []) a.rest) a.rest, ap length a.closes.back, length-drop (length_before (a.quote ∷ []) a.rest) a.rest)

long_literal_takes : {bs s r : List ℕ} → LongLiteralAt bs s r → 3 + length s + length r ≤ length bs
long_literal_takes a =
    let before = length_before (three a.quote) a.rest in
    omega (arith, ap length a.opens, ap length a.front, length-take before a.rest, ap length a.back, length-drop 3 (drop before a.rest), length-drop before a.rest)

word_takes : {bs r : List ℕ} {w : Word} → WordAt bs w r → word_extent w + length r ≤ length bs
unfolding word_extent
word_takes (plain_name a e) = omega (arith, name_takes a)
word_takes (prefixed_name a b) = omega (arith, name_takes a, name_takes b)
word_takes (namespace_name a) = omega (arith, name_takes a)
word_takes (escaped_name a) = omega (arith, name_takes a.names, ap length a.opens)
word_takes (quoted a h n) = omega (arith, literal_takes a)
word_takes (quoted_long a) = long_literal_takes a
word_takes (backslash h) = omega arith
word_takes (other {c = c} {after = r} e h) = omega (arith, ap length e, length-append (encode_utf8 c) r)

-- a token fits into its text
pub token_fits : (w : code.Word) {bs r : List ℕ} (total place : ℕ) → WordAt bs (seen.word w) r → length bs ≤ total → place ≡ total - length bs → place + extent w ≤ total
token_fits w total place a l e = omega (arith, e, l, same_extent w, word_takes a)

pub none_yet_read : (total : ℕ) (text rest : List ℕ) → length text ≤ total → Skips text rest → BeginsNoSpace rest → ReadsTokens total text [] rest
none_yet_read total text rest l s b = record { words = skips_up_to s; begins = b; within = omega (arith, l, skips_within s) }

pub one_more_read : (total : ℕ) (text rest after next : List ℕ) (tokens : List Token) (t : Token) → ReadsTokens total text tokens rest → WordAt rest t.word after
    → t.place ≡ place_of total rest → Skips after next → BeginsNoSpace next → ReadsTokens total text (tokens ++ t ∷ []) next
one_more_read total text rest after next tokens t k w e s b =
    let one : Token = record { word = t.word; place = place_of total rest } in
    let same : one ≡ t = ap (λ (p : ℕ). (let z : Token = record { word = t.word; place = p } in z)) (sym e) in
    record {
      words = up_to_up_to k.words (subst (λ z. TokensUpTo total rest (z ∷ []) next) same (token w (skips_up_to s)));
      begins = b;
      within = omega (arith, k.within, word_shorter w, skips_within s);
    }

pub same_length_front : (bytes front : List ℕ) → FrontOf bytes front → length front ≡ length bytes → front ≡ bytes
same_length_front bytes front f e = sym (f.parts ∙ (ap (λ w. front ++ w) (none f.after (omega (arith, ap length f.parts, length-append front f.after, e))) ∙ append-nil front))
  where
    none : (xs : List ℕ) → length xs ≡ 0 → xs ≡ []
    none [] e = refl
    none (x ∷ xs) e = absurd (omega (arith, e))

abbrev end_of : ℕ → Option ℕ → u.End
end_of p a = record { place = p; escape = a }

eqb_same : {m n : ℕ} → m ≡ n → (m == n) ≡ true
eqb_same {m} {n} e = by (eqb_tells m n)
  where
    by : (((m == n) ≡ true) × (m ≡ n)) ⊎ (((m == n) ≡ false) × (m ≢ n)) → (m == n) ≡ true
    by (inl h) = h.0
    by (inr h) = absurd (h.1 e)

eqb_other : {m n : ℕ} → m < n → (m == n) ≡ false
eqb_other {m} {n} l = by (eqb_tells m n)
  where
    by : (((m == n) ≡ true) × (m ≡ n)) ⊎ (((m == n) ≡ false) × (m ≢ n)) → (m == n) ≡ false
    by (inl h) = absurd (omega (arith, h.1, l))
    by (inr h) = h.0

-- where tokens end
end_is : (total : ℕ) (rest l : List ℕ) (place : Place) (escape : Option Place) → l ≡ line rest → place.0 ≡ total - length rest + length l → MatchOption escape (unclosed_escape total rest ≡ None) (λ p. unclosed_escape total rest ≡ Some p.0)
    → option_map view.place escape ≡ unclosed_escape total rest
end_is total rest l place None is e h = sym h
end_is total rest l place (Some p) is e h = sym h

pub lexed : (bytes front start rest l : List ℕ) (tokens : List Token) (end : End) (whole : Bool) → FrontOf bytes front → start ≡ after_mark front
    → ReadsAllTokens (length front) start tokens rest → l ≡ line rest → end.place.0 ≡ length front - length rest + length l
    → MatchOption end.escape (unclosed_escape (length front) rest ≡ None) (λ p. unclosed_escape (length front) rest ≡ Some p.0)
    → MatchBool whole (IsWhole rest front bytes) (IsWhole rest front bytes → ⊥) → Lexed bytes tokens end whole
lexed bytes front start rest l tokens end whole f e r is at x w = record {
  front = front;
  rest = rest;
  are_tokens = record { is_front = f; words = subst (λ z. TokensUpTo (length front) z tokens rest) e r.reads.words; no_space = r.reads.begins; no_word = r.ends };
  is_end = full (at ∙ ap (λ z. place_of (length front) rest + length z) is) (end_is (length front) rest l end.place end.escape is at x);
  is_whole = w;
}
  where
    full : {p q : ℕ} {a b : Option ℕ} → p ≡ q → a ≡ b → end_of p a ≡ end_of q b
    full {q = q} {a = a} e g = ap (λ z. end_of z a) e ∙ ap (end_of q) g

no_marks : (quote : ℕ) → (IsQuote quote → ⊥) → is_quote quote ≡ false
no_marks quote h = by (quote == 0x22) refl (quote == 0x27) refl
  where
    by : (a : Bool) → (quote == 0x22) ≡ a → (b : Bool) → (quote == 0x27) ≡ b → (a || b) ≡ false
    by true e b f = absurd (h (inl (eqb-true quote 0x22 e)))
    by false e true f = absurd (h (inr (eqb-true quote 0x27 f)))
    by false e false f = refl

pub no_quote : (total : ℕ) (text : List ℕ) → ((quote : ℕ) (rest : List ℕ) → IsQuote quote → text ≡ quote ∷ rest → ⊥) → unclosed_escape total text ≡ None
no_quote total [] h = refl
no_quote total (quote ∷ rest) h =
    ap (λ x. cond (x && not (length_before escape_mark (line rest) == length (line rest))) (Some (place_of total rest + length_before escape_mark (line rest))) None) (no_marks quote (λ q. h quote rest q refl))

a_mark : (quote : ℕ) → IsQuote quote → is_quote quote ≡ true
a_mark quote (inl e) = ap is_quote e
a_mark quote (inr e) = ap is_quote e

pub lacks_escape : (total : ℕ) (text inside l : List ℕ) → (quote : ℕ) × (IsQuote quote × (text ≡ quote ∷ inside)) → l ≡ line inside → Lacks escape_mark l → unclosed_escape total text ≡ None
lacks_escape total text inside l (quote, (q, e)) is h =
    ap (unclosed_escape total) e ∙ by (length_before escape_mark (line inside) == length (line inside)) (eqb_same (subst (λ z. length_before escape_mark z ≡ length z) is h))
  where
    by : (x : Bool) → x ≡ true → cond (is_quote quote && not x) (Some (place_of total inside + length_before escape_mark (line inside))) None ≡ None
    by x e = ap (λ z. cond (is_quote quote && not z) (Some (place_of total inside + length_before escape_mark (line inside))) None) e ∙ none (is_quote quote)
      where
        none : (z : Bool) → cond (z && false) (Some (place_of total inside + length_before escape_mark (line inside))) None ≡ None
        none true = refl
        none false = refl

pub has_escape : (total : ℕ) (text inside l : List ℕ) (n p : ℕ) → (quote : ℕ) × (IsQuote quote × (text ≡ quote ∷ inside)) → l ≡ line inside → (n ≡ length_before escape_mark l) × (n < length l) → p ≡ place_of total inside + n
    → unclosed_escape total text ≡ Some p
has_escape total text inside l n p (quote, (q, e)) is h at =
    ap (unclosed_escape total) e
    ∙ (ap (λ z. cond (z && not (length_before escape_mark (line inside) == length (line inside))) (Some (place_of total inside + length_before escape_mark (line inside))) None) (a_mark quote q)
    ∙ (ap (λ z. cond (not z) (Some (place_of total inside + length_before escape_mark (line inside))) None) (eqb_other less) ∙ ap Some there))
  where
    less : length_before escape_mark (line inside) < length (line inside)
    less = subst (λ z. length_before escape_mark z < length z) is (omega (arith, h.0, h.1))

    there : place_of total inside + length_before escape_mark (line inside) ≡ p
    there = ap (λ z. place_of total inside + length_before escape_mark z) (sym is) ∙ (ap (λ z. place_of total inside + z) (sym h.0) ∙ sym at)
