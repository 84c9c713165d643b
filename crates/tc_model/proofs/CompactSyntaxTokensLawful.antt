-- The names and literals of a text's tokens are lawful.
use Rattle.std.proofs.Common.{◌≡◌, ◌⊎◌, inl, inr, ℕ, zero, suc, ◌+◌, ◌<◌, ◌≤◌, Bool, true, false, cond, not, ◌||◌, ◌==◌, List, [], ◌∷◌, ◌++◌, refl, ap, ◌∙◌, sym, subst, length, take, drop, take-append-drop, ltb, arith}
use Rattle.std.specs.Prelude.{encode_utf8}
use Rattle.std.specs.List.{AllByRecursion, prefix_len, list_all}
use Rattle.std.proofs.lemmas.Bool.{and_parts, eqb-true, true≢false}
use Rattle.std.proofs.lemmas.Slice.Eq.{bytes_eq-Decides}
use Rattle.std.proofs.lemmas.Str.{cons_from_encodes}
use Rattle.std.proofs.Math.Seq.{drop-length}
use Rattle.tc_base.specs.Characters.{is_char}
use Rattle.tc_model.specs.Names.{IsChars, IsNcName}
use Rattle.tc_model.specs.XmlTextBytes.{IsQuote, begins_with, length_before, Lacks, UpTo, LiteralAt}
use Rattle.tc_model.specs.CompactSyntaxTokens.{Word, a_name, escaped, prefixed, all_of, literal, long_literal, mark, Token, three, LongLiteralAt, is_line_end, after_line, WordAt, plain_name, prefixed_name, namespace_name, escaped_name, quoted, quoted_long, backslash, other, TokensAt, at_end, white, comment, token}
use Rattle.tc_model.proofs.XmlTextChars.{after_ascii, up_to_chars, run_chars, ncname_chars}
use Rattle.tc_model.proofs.CompactSyntaxTokensUnique.{white_is}

abbrev pub IsLawfulWord : Word → Type 0
IsLawfulWord (a_name n) = IsNcName n
IsLawfulWord (escaped n) = IsNcName n
IsLawfulWord (prefixed p n) = IsNcName n
IsLawfulWord (all_of p) = Unit {0}
IsLawfulWord (literal s) = IsChars s
IsLawfulWord (long_literal s) = Unit {0}
IsLawfulWord (mark c) = Unit {0}

-- in a text of so many bytes
abbrev pub AreLawful : ℕ → List Token → Type 0
AreLawful total tokens = AllByRecursion (λ t. (t.place ≤ total) × IsLawfulWord t.word) tokens

behind_char : (c : ℕ) (bs after : List ℕ) → bs ≡ encode_utf8 c ++ after → IsChars bs → IsChars after
behind_char c bs after e (cs, f, h) =
    let (es, is, rest) = cons_from_encodes cs after c (f ∙ e) in
    (es, rest, (and_parts (is_char c) (list_all is_char es) (sym (ap (list_all is_char) is) ∙ h)).1)

literal_chars : {bs v after : List ℕ} → LiteralAt bs v after → IsChars bs → IsChars v × IsChars after
literal_chars {v = v} {after = after} a h = by a.is_quote
  where
    rest_chars : a.quote < 128 → IsChars a.rest
    rest_chars l = after_ascii a.quote a.rest l (subst IsChars a.opens h)

    by : IsQuote a.quote → IsChars v × IsChars after
    by (inl e) = up_to_chars 0x22 [] a.rest v after refl (subst (λ q. UpTo (q ∷ []) a.rest v after) e a.closes) (rest_chars (omega arith))
    by (inr e) = up_to_chars 0x27 [] a.rest v after refl (subst (λ q. UpTo (q ∷ []) a.rest v after) e a.closes) (rest_chars (omega arith))

-- a text stands somewhere, or nowhere
pub before_text : (text bs : List ℕ) → Lacks text bs ⊎ ((after : List ℕ) × (drop (length_before text bs) bs ≡ text ++ after))
before_text text [] = inl refl
before_text text (b ∷ bs) = by (begins_with text (b ∷ bs)) refl (before_text text bs)
  where
    by : (x : Bool) → begins_with text (b ∷ bs) ≡ x → Lacks text bs ⊎ ((after : List ℕ) × (drop (length_before text bs) bs ≡ text ++ after))
        → Lacks text (b ∷ bs) ⊎ ((after : List ℕ) × (drop (length_before text (b ∷ bs)) (b ∷ bs) ≡ text ++ after))
    by true e later =
        let none : length_before text (b ∷ bs) ≡ 0 = ap (λ x. cond x 0 (1 + length_before text bs)) e in
        let is : text ≡ take (length text) (b ∷ bs) = (bytes_eq-Decides text (take (length text) (b ∷ bs))).0 e in
        inr (drop (length text) (b ∷ bs), ap (λ n. drop n (b ∷ bs)) none ∙ (sym (take-append-drop (length text) (b ∷ bs)) ∙ ap (λ w. w ++ drop (length text) (b ∷ bs)) (sym is)))
    by false e (inl lacks) = inl (ap (λ x. cond x 0 (1 + length_before text bs)) e ∙ omega (arith, lacks))
    by false e (inr found) =
        let one : length_before text (b ∷ bs) ≡ suc (length_before text bs) = ap (λ x. cond x 0 (1 + length_before text bs)) e ∙ omega arith in
        inr (found.0, ap (λ n. drop n (b ∷ bs)) one ∙ found.1)

long_literal_chars : {bs v after : List ℕ} → LongLiteralAt bs v after → IsChars bs → IsChars after
long_literal_chars {after = after} a h = by a.is_quote
  where
    behind : (q : ℕ) → q < 128 → list_all (λ b. ltb b 128) (three q) ≡ true → a.quote ≡ q → IsChars after
    behind q small ascii e = subst IsChars (sym (a.back ∙ ap (λ q. drop 3 (drop (length_before (three q) a.rest) a.rest)) e)) (found (before_text (three q) a.rest))
      where
        rest_chars : IsChars a.rest
        rest_chars = after_ascii q a.rest small (after_ascii q (q ∷ a.rest) small (after_ascii q (q ∷ q ∷ a.rest) small (subst IsChars (a.opens ∙ ap (λ q. three q ++ a.rest) e) h)))

        found : Lacks (three q) a.rest ⊎ ((r : List ℕ) × (drop (length_before (three q) a.rest) a.rest ≡ three q ++ r)) → IsChars (drop 3 (drop (length_before (three q) a.rest) a.rest))
        found (inl lacks) = subst (λ w. IsChars (drop 3 w)) (sym (ap (λ n. drop n a.rest) lacks ∙ drop-length a.rest)) ([], refl, refl)
        found (inr (r, is)) = subst (λ w. IsChars (drop 3 w)) (sym is) (up_to_chars q (q ∷ q ∷ []) a.rest _ r ascii (record { front = refl; back = is }) rest_chars).1

    by : IsQuote a.quote → IsChars after
    by (inl e) = behind 0x22 (omega arith) refl e
    by (inr e) = behind 0x27 (omega arith) refl e

pub word_lawful : {bs r : List ℕ} {w : Word} → WordAt bs w r → IsChars bs → IsLawfulWord w × IsChars r
word_lawful (plain_name a e) h = (a.lawful, (ncname_chars a h).1)
word_lawful (prefixed_name {rest = rest} a b) h = (b.lawful, (ncname_chars b (after_ascii 0x3A rest (omega arith) (ncname_chars a h).1)).1)
word_lawful (namespace_name {after = after} a) h = (tt, after_ascii 0x2A after (omega arith) (after_ascii 0x3A (0x2A ∷ after) (omega arith) (ncname_chars a h).1))
word_lawful (escaped_name a) h = (a.names.lawful, (ncname_chars a.names (after_ascii 0x5C a.rest (omega arith) (subst IsChars a.opens h))).1)
word_lawful (quoted a e n) h = literal_chars a h
word_lawful (quoted_long a) h = (tt, long_literal_chars a h)
word_lawful (backslash {after = after} k) h = (tt, after_ascii 0x5C after (omega arith) h)
word_lawful (other {c = c} {bs = bs} {after = after} e k) h = (tt, behind_char c bs after e h)

pub line_chars : (bs : List ℕ) → IsChars bs → IsChars (after_line bs)
line_chars bs h = by (prefix_len (λ b. not (is_line_end b)) bs) refl
  where
    stops : (b : ℕ) → not (is_line_end b) ≡ false → b < 128
    stops b e = at (b == 0xA) (b == 0xD) refl refl e
      where
        at : (x y : Bool) → (b == 0xA) ≡ x → (b == 0xD) ≡ y → not (x || y) ≡ false → b < 128
        at true y e f g = omega (arith, eqb-true b 0xA e)
        at false true e f g = omega (arith, eqb-true b 0xD f)
        at false false e f g = absurd (true≢false g)

    by : (k : ℕ) → prefix_len (λ b. not (is_line_end b)) bs ≡ k → IsChars (after_line bs)
    by zero e = subst (λ n. IsChars (drop n bs)) (sym e) h
    by (suc k) e = (run_chars (λ b. not (is_line_end b)) bs _ (after_line bs) stops (record { some = omega (arith, e); front = refl; back = refl }) h).1

pub tokens_lawful : {total : ℕ} {bs : List ℕ} {ts : List Token} → TokensAt total bs ts → IsChars bs → AreLawful total ts
tokens_lawful at_end h = tt
tokens_lawful (white {b = b} {rest = rest} k m) h = tokens_lawful m (after_ascii b rest (white_is b k).0 h)
tokens_lawful (comment {rest = rest} m) h = tokens_lawful m (line_chars rest (after_ascii 0x23 rest (omega arith) h))
tokens_lawful (token a m) h = let (w, rest) = word_lawful a h in ((omega arith, w), tokens_lawful m rest)
