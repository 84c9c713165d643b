-- Each text of a schema is read or refused.
use Rattle.std.proofs.Common.{◌≡◌, ◌⊎◌, inl, inr, ℕ, zero, suc, ◌<◌, ◌≤◌, ◌&&◌, Bool, true, false, cond, List, [], ◌∷◌, ◌++◌, refl, ap, ◌∙◌, sym, subst, length, take, drop, arith, take-append-drop, length-append, length-drop, append_assoc, leb, ltb, codes}
use Rattle.std.specs.Prelude.{encode_utf8, encode_utf8_all}
use Rattle.std.specs.List.{prefix_len, list_all}
use Rattle.std.proofs.Math.Seq.{take-append_seam}
use Rattle.std.proofs.lemmas.Bool.{and_parts, and_from, ltb-true, cases_lt}
use Rattle.std.proofs.lemmas.Str.{encode_same, length-encode, len_utf8_bounds}
use Rattle.tc_base.specs.Characters.{is_char, is_white}
use Rattle.tc_model.specs.Names.{IsChars, is_ncname_start, is_ncname_char}
use Rattle.tc_model.specs.XmlText.{after_mark}
use Rattle.tc_model.specs.XmlTextBytes.{FrontOf, IsQuote, LiteralAt, length_before, Lacks, place_of}
use Rattle.tc_model.specs.XmlTextNames.{NcNameAt}
use Rattle.tc_model.specs.XmlTextScopes.{first_scope}
use Rattle.tc_model.specs.CompactSyntaxTrees.{Syntax, Definition}
use Rattle.tc_model.specs.CompactSyntaxTokens.{Word, mark, literal, long_literal, Token, three, LongLiteralAt, EscapedAt, is_mark, after_line, TokensAt, WordAt, quoted, quoted_long, escaped_name, other}
use Rattle.tc_model.specs.CompactSyntax.{CompactSyntax, deepest_nesting, SchemaAt}
use Rattle.tc_model.specs.CompactSyntaxUnread.{Refusal}
use Rattle.tc_model.specs.CompactSyntaxRefused.{TokensUpTo, so_far, white, comment, token, BeginsNoSpace, TokensOf, end_before, IsRefused, in_tokens, past_tokens}
use Rattle.tc_model.proofs.XmlTextChars.{char_scalar, after_ascii, ncname_chars}
use Rattle.tc_model.proofs.XmlTextPhrases.{same_first, same_others, literal_unique}
use Rattle.tc_model.proofs.XmlTextTrees.{mark_chars}
use Rattle.tc_model.proofs.CompactSyntaxOrdered.{word_shorter}
use Rattle.tc_model.proofs.CompactSyntaxTokensLawful.{before_text, word_lawful, line_chars}
use Rattle.tc_model.proofs.CompactSyntaxTokensUnique.{nothing_begins, word_begins, white_is}
use Rattle.tc_rnc.specs.Fronts.{IsNoMark, is_in_line}
use Rattle.tc_rnc.proofs.Deciding.{Decided, both, decided_by, number_is, bytes_are, is_true, unexpected, by_length}
use Rattle.tc_rnc.proofs.DecidingSchemas.{SchemaHere, reads_schema, stops_schema, schema_here}
use Rattle.tc_rnc.proofs.LexLaws.{up_to_end}
use Rattle.tc_rnc.proofs.WordLaws as w

-- Characters at the front of any bytes.

-- a number below another one has this, or none has
exists_below : (P : ℕ → Type 0) → ((c : ℕ) → Decided (P c)) → (n : ℕ) → ((c : ℕ) × P c) ⊎ ((c : ℕ) → c < n → P c → ⊥)
exists_below P decide zero = inr (λ c h p. omega (arith, h))
exists_below P decide (suc n) = by (decide n) (exists_below P decide n)
  where
    by : Decided (P n) → ((c : ℕ) × P c) ⊎ ((c : ℕ) → c < n → P c → ⊥) → ((c : ℕ) × P c) ⊎ ((c : ℕ) → c < suc n → P c → ⊥)
    by (inl p) k = inl (n, p)
    by (inr h) (inl x) = inl x
    by (inr h) (inr k) = inr (λ c l p. at c l p (cases_lt c n))
      where
        at : (c : ℕ) → c < suc n → P c → (c < n) ⊎ (n ≤ c) → ⊥
        at c l p (inl below) = k c below p
        at c l p (inr above) = let same : c ≡ n = omega (arith, l, above) in h (subst P same p)

-- the bytes begin with this character
begins_with_char : (bs : List ℕ) (c : ℕ) → Decided ((r : List ℕ) × (bs ≡ encode_utf8 c ++ r))
begins_with_char bs c = by (bytes_are (take (length (encode_utf8 c)) bs) (encode_utf8 c))
  where
    by : Decided (take (length (encode_utf8 c)) bs ≡ encode_utf8 c) → Decided ((r : List ℕ) × (bs ≡ encode_utf8 c ++ r))
    by (inl e) = inl (drop (length (encode_utf8 c)) bs, sym (take-append-drop (length (encode_utf8 c)) bs) ∙ ap (λ z. z ++ drop (length (encode_utf8 c)) bs) e)
    by (inr h) = inr (λ z. h (ap (take (length (encode_utf8 c))) z.1 ∙ take-append_seam (encode_utf8 c) z.0))

char_small : (c : ℕ) → is_char c ≡ true → c < 1114112
char_small c h = by (ltb c 55296) refl (char_scalar c h)
  where
    by : (x : Bool) → ltb c 55296 ≡ x → cond x true (leb 57344 c && ltb c 1114112) ≡ true → c < 1114112
    by true e k = omega (arith, ltb-true c 55296 e)
    by false e k = ltb-true c 1114112 (and_parts (leb 57344 c) (ltb c 1114112) k).1

abbrev CharAt : List ℕ → ℕ → Type 0
CharAt bs c = ((r : List ℕ) × (bs ≡ encode_utf8 c ++ r)) × (is_char c ≡ true)

char_at : (bs : List ℕ) → ((c : ℕ) × CharAt bs c) ⊎ ((c : ℕ) (r : List ℕ) → bs ≡ encode_utf8 c ++ r → is_char c ≡ true → ⊥)
char_at bs = by (exists_below (CharAt bs) (λ c. both (begins_with_char bs c) (is_true (is_char c))) 1114112)
  where
    by : ((c : ℕ) × CharAt bs c) ⊎ ((c : ℕ) → c < 1114112 → CharAt bs c → ⊥) → ((c : ℕ) × CharAt bs c) ⊎ ((c : ℕ) (r : List ℕ) → bs ≡ encode_utf8 c ++ r → is_char c ≡ true → ⊥)
    by (inl x) = inl x
    by (inr h) = inr (λ c r e k. h c (char_small c k) ((r, e), k))

behind_char_shorter : {bs : List ℕ} (c : ℕ) (r : List ℕ) → bs ≡ encode_utf8 c ++ r → length r < length bs
behind_char_shorter c r e = omega (arith, ap length e, length-append (encode_utf8 c) r, length-encode c, len_utf8_bounds c)

front_here : (bs : List ℕ) → (front : List ℕ) × FrontOf bs front
front_here = by_length (λ bs. (front : List ℕ) × FrontOf bs front) step
  where
    longer : {bs r : List ℕ} (c : ℕ) → bs ≡ encode_utf8 c ++ r → is_char c ≡ true → (front : List ℕ) × FrontOf r front → (front : List ℕ) × FrontOf bs front
    longer c e h (front, f) = (
      encode_utf8 c ++ front,
      record {
        after = f.after;
        parts = e ∙ (ap (λ z. encode_utf8 c ++ z) f.parts ∙ sym (append_assoc (encode_utf8 c) front f.after));
        characters = let (cs, is, all) = f.characters in (c ∷ cs, ap (λ z. encode_utf8 c ++ z) is, and_from (is_char c) (list_all is_char cs) h all);
        longest = f.longest;
      },
    )

    step : (bs : List ℕ) → ((cs : List ℕ) → length cs < length bs → (front : List ℕ) × FrontOf cs front) → (front : List ℕ) × FrontOf bs front
    step bs ih = by (char_at bs)
      where
        by : ((c : ℕ) × CharAt bs c) ⊎ ((c : ℕ) (r : List ℕ) → bs ≡ encode_utf8 c ++ r → is_char c ≡ true → ⊥) → (front : List ℕ) × FrontOf bs front
        by (inl (c, ((r, e), h))) = longer c e h (ih r (behind_char_shorter c r e))
        by (inr none) = ([], record { after = bs; parts = refl; characters = ([], refl, refl); longest = none })

-- Words at the front of characters.

-- the first of some characters has this, or none stands there that has
abbrev FirstIs : (ℕ → Bool) → List ℕ → Type 0
FirstIs p bs = (c : ℕ) × ((r : List ℕ) × ((bs ≡ encode_utf8 c ++ r) × ((p c ≡ true) × IsChars r)))

first_is : (p : ℕ → Bool) (bs : List ℕ) → IsChars bs → FirstIs p bs ⊎ ((c : ℕ) (r : List ℕ) → bs ≡ encode_utf8 c ++ r → p c ≡ true → ⊥)
first_is p bs ([], e, h) = inr (λ c r f k. w.some_char c r (e ∙ f))
first_is p bs (c ∷ cs, e, h) = by (is_true (p c))
  where
    by : Decided (p c ≡ true) → FirstIs p bs ⊎ ((d : ℕ) (r : List ℕ) → bs ≡ encode_utf8 d ++ r → p d ≡ true → ⊥)
    by (inl k) = inl (c, (encode_utf8_all cs, (sym e, (k, (cs, refl, (and_parts (is_char c) (list_all is_char cs) h).1)))))
    by (inr k) = inr (λ d r f g. k (subst (λ z. p z ≡ true) (encode_same d c r (encode_utf8_all cs) (sym f ∙ sym e)).0 g))

-- as many as have it
record Run (p : ℕ → Bool) (bs : List ℕ) : Type 0 where
  run : List ℕ
  after : List ℕ
  parts : bs ≡ encode_utf8_all run ++ after
  have : list_all p run ≡ true
  longest : (c : ℕ) (r : List ℕ) → after ≡ encode_utf8 c ++ r → p c ≡ true → ⊥

run_of : (p : ℕ → Bool) (bs : List ℕ) → IsChars bs → Run p bs
run_of p = by_length (λ bs. IsChars bs → Run p bs) step
  where
    longer : {bs r : List ℕ} (c : ℕ) → bs ≡ encode_utf8 c ++ r → p c ≡ true → Run p r → Run p bs
    longer c e h a = record {
      run = c ∷ a.run;
      after = a.after;
      parts = e ∙ (ap (λ z. encode_utf8 c ++ z) a.parts ∙ sym (append_assoc (encode_utf8 c) (encode_utf8_all a.run) a.after));
      have = and_from (p c) (list_all p a.run) h a.have;
      longest = a.longest;
    }

    step : (bs : List ℕ) → ((cs : List ℕ) → length cs < length bs → IsChars cs → Run p cs) → IsChars bs → Run p bs
    step bs ih i = by (first_is p bs i)
      where
        by : FirstIs p bs ⊎ ((c : ℕ) (r : List ℕ) → bs ≡ encode_utf8 c ++ r → p c ≡ true → ⊥) → Run p bs
        by (inl (c, (r, (e, (h, k))))) = longer c e h (ih r (behind_char_shorter c r e) k)
        by (inr none) = record { run = []; after = bs; parts = refl; have = refl; longest = none }

abbrev NameHere : List ℕ → Type 0
NameHere bs = (name : List ℕ) × ((after : List ℕ) × NcNameAt bs name after)

name_here : (bs : List ℕ) → IsChars bs → NameHere bs ⊎ ((name after : List ℕ) → NcNameAt bs name after → ⊥)
name_here bs i = by (first_is is_ncname_start bs i)
  where
    named : (c : ℕ) {r : List ℕ} → bs ≡ encode_utf8 c ++ r → is_ncname_start c ≡ true → Run is_ncname_char r → NameHere bs
    named c e h a = (
      encode_utf8_all (c ∷ a.run),
      (
        a.after,
        record {
          lawful = (c, a.run, refl, h, a.have);
          parts = e ∙ (ap (λ z. encode_utf8 c ++ z) a.parts ∙ sym (append_assoc (encode_utf8 c) (encode_utf8_all a.run) a.after));
          longest = a.longest;
        },
      ),
    )

    by : FirstIs is_ncname_start bs ⊎ ((c : ℕ) (r : List ℕ) → bs ≡ encode_utf8 c ++ r → is_ncname_start c ≡ true → ⊥) → NameHere bs ⊎ ((name after : List ℕ) → NcNameAt bs name after → ⊥)
    by (inl (c, (r, (e, (h, k))))) = inl (named c e h (run_of is_ncname_char r k))
    by (inr none) = inr (λ name after a. begins name after a)
      where
        begins : (name after : List ℕ) → NcNameAt bs name after → ⊥
        begins name after a =
            let (c, cs, is, h, k) = a.lawful in
            none c (encode_utf8_all cs ++ after) (a.parts ∙ (ap (λ z. z ++ after) (sym is) ∙ append_assoc (encode_utf8 c) (encode_utf8_all cs) after)) h

quote_is : (b : ℕ) → Decided (IsQuote b)
quote_is b = by (number_is b 0x22) (number_is b 0x27)
  where
    by : Decided (b ≡ 0x22) → Decided (b ≡ 0x27) → Decided (IsQuote b)
    by (inl e) k = inl (inl e)
    by (inr h) (inl e) = inl (inr e)
    by (inr h) (inr k) = inr none
      where
        none : IsQuote b → ⊥
        none (inl e) = h e
        none (inr e) = k e

abbrev LiteralHere : List ℕ → Type 0
LiteralHere bs = (value : List ℕ) × ((after : List ℕ) × LiteralAt bs value after)

literal_here : (bs : List ℕ) → LiteralHere bs ⊎ ((value after : List ℕ) → LiteralAt bs value after → ⊥)
literal_here [] = inr (λ value after a. omega (arith, ap length a.opens))
literal_here (q ∷ rest) = by (quote_is q) (before_text (q ∷ []) rest)
  where
    unclosed : Lacks (q ∷ []) rest → (value after : List ℕ) → LiteralAt (q ∷ rest) value after → ⊥
    unclosed lacks value after a =
        let quote : a.quote ≡ q = sym (same_first a.opens) in
        let inside : a.rest ≡ rest = sym (same_others a.opens) in
        let back : drop (length_before (q ∷ []) rest) rest ≡ q ∷ after =
        subst (λ z. drop (length_before (z ∷ []) rest) rest ≡ z ∷ after) quote (subst (λ z. drop (length_before (a.quote ∷ []) z) z ≡ a.quote ∷ after) inside a.closes.back) in
        omega (arith, ap length back, length-drop (length_before (q ∷ []) rest) rest, lacks)

    by : Decided (IsQuote q) → Lacks (q ∷ []) rest ⊎ ((after : List ℕ) × (drop (length_before (q ∷ []) rest) rest ≡ (q ∷ []) ++ after))
        → LiteralHere (q ∷ rest) ⊎ ((value after : List ℕ) → LiteralAt (q ∷ rest) value after → ⊥)
    by (inr h) k = inr (λ value after a. h (subst IsQuote (sym (same_first a.opens)) a.is_quote))
    by (inl e) (inl lacks) = inr (unclosed lacks)
    by (inl e) (inr (after, is)) =
        inl (take (length_before (q ∷ []) rest) rest, (after, record { quote = q; rest = rest; is_quote = e; opens = refl; closes = record { front = refl; back = is } }))

abbrev LongHere : List ℕ → Type 0
LongHere bs = (value : List ℕ) × ((after : List ℕ) × LongLiteralAt bs value after)

long_here : (bs : List ℕ) → LongHere bs ⊎ ((value after : List ℕ) → LongLiteralAt bs value after → ⊥)
long_here [] = inr (λ value after a. omega (arith, ap length a.opens))
long_here (b ∷ []) = inr (λ value after a. omega (arith, ap length a.opens))
long_here (b ∷ (c ∷ [])) = inr (λ value after a. omega (arith, ap length a.opens))
long_here (b ∷ (c ∷ (d ∷ rest))) = by (quote_is b) (number_is c b) (number_is d b)
  where
    by : Decided (IsQuote b) → Decided (c ≡ b) → Decided (d ≡ b) → LongHere (b ∷ (c ∷ (d ∷ rest))) ⊎ ((value after : List ℕ) → LongLiteralAt (b ∷ (c ∷ (d ∷ rest))) value after → ⊥)
    by (inr h) k l = inr (λ value after a. h (subst IsQuote (sym (same_first a.opens)) a.is_quote))
    by (inl e) (inr k) l = inr (λ value after a. k (same_first (same_others a.opens) ∙ sym (same_first a.opens)))
    by (inl e) (inl f) (inr l) = inr (λ value after a. l (same_first (same_others (same_others a.opens)) ∙ sym (same_first a.opens)))
    by (inl e) (inl f) (inl g) =
        inl (
          take (length_before (three b) rest) rest,
          (
            drop 3 (drop (length_before (three b) rest) rest),
            record {
              quote = b;
              rest = rest;
              is_quote = e;
              opens = ap (λ z. b ∷ (z ∷ (d ∷ rest))) f ∙ ap (λ z. b ∷ (b ∷ (z ∷ rest))) g;
              front = refl;
              back = refl;
            },
          ),
        )

abbrev EscapedHere : List ℕ → Type 0
EscapedHere bs = (name : List ℕ) × ((after : List ℕ) × EscapedAt bs name after)

brace_first : (bs : List ℕ) → Decided ((r : List ℕ) × (bs ≡ 0x7B ∷ r))
brace_first [] = inr (λ z. omega (arith, ap length z.1))
brace_first (b ∷ bs) = decided_by (λ e. (bs, ap (λ z. z ∷ bs) e)) (λ z. same_first z.1) (number_is b 0x7B)

escaped_here : (bs : List ℕ) → IsChars bs → EscapedHere bs ⊎ ((name after : List ℕ) → EscapedAt bs name after → ⊥)
escaped_here [] i = inr (λ name after a. omega (arith, ap length a.opens))
escaped_here (b ∷ rest) i = by (number_is b 0x5C)
  where
    behind : b ≡ 0x5C → NameHere rest ⊎ ((name after : List ℕ) → NcNameAt rest name after → ⊥) → EscapedHere (b ∷ rest) ⊎ ((name after : List ℕ) → EscapedAt (b ∷ rest) name after → ⊥)
    behind e (inr none) = inr (λ name after a. none name after (subst (λ z. NcNameAt z name after) (sym (same_others a.opens)) a.names))
    behind e (inl (name, (after, a))) = at (both (bytes_are name (codes "x")) (brace_first after))
      where
        at : Decided ((name ≡ codes "x") × ((r : List ℕ) × (after ≡ 0x7B ∷ r))) → EscapedHere (b ∷ rest) ⊎ ((n r : List ℕ) → EscapedAt (b ∷ rest) n r → ⊥)
        at (inl (x, (r, f))) = inr (w.no_escaped (ap (λ z. z ∷ rest) e) a x f)
        at (inr h) = inl (name, (after, record { rest = rest; opens = ap (λ z. z ∷ rest) e; names = a; no_escape = λ x r f. h (x, (r, f)) }))

    by : Decided (b ≡ 0x5C) → EscapedHere (b ∷ rest) ⊎ ((name after : List ℕ) → EscapedAt (b ∷ rest) name after → ⊥)
    by (inl e) = behind e (name_here rest (after_ascii 0x5C rest (omega arith) (subst (λ z. IsChars (z ∷ rest)) e i)))
    by (inr h) = inr (λ name after a. h (same_first a.opens))

abbrev WordHere : List ℕ → Type 0
WordHere bs = (word : Word) × ((after : List ℕ) × WordAt bs word after)

-- the word that begins with a name
named_word : {bs name : List ℕ} (after : List ℕ) → IsChars after → NcNameAt bs name after → WordHere bs
named_word {bs} {name} [] i a = (_, ([], w.name_without_colon (λ r e. omega (arith, ap length e)) a))
named_word {bs} {name} (b ∷ behind) i a = by (number_is b 0x3A)
  where
    local : b ∷ behind ≡ 0x3A ∷ behind → ((r : List ℕ) → behind ≡ 0x2A ∷ r → ⊥) → NameHere behind ⊎ ((n r : List ℕ) → NcNameAt behind n r → ⊥) → WordHere bs
    local e h (inl (n, (r, c))) = (_, (r, w.name_with_local e c a))
    local e h (inr k) = (_, (b ∷ behind, w.name_before_colon e h k a))

    asterisk : b ∷ behind ≡ 0x3A ∷ behind → (rest : List ℕ) → behind ≡ rest → IsChars behind → WordHere bs
    asterisk e [] f k = local e (λ r g. omega (arith, ap length (sym f ∙ g))) (name_here behind k)
    asterisk e (c ∷ rest) f k = at (number_is c 0x2A)
      where
        at : Decided (c ≡ 0x2A) → WordHere bs
        at (inl g) = (_, (rest, w.name_with_asterisk e (f ∙ ap (λ z. z ∷ rest) g) a))
        at (inr h) = local e (λ r g. h (same_first (sym f ∙ g))) (name_here behind k)

    by : Decided (b ≡ 0x3A) → WordHere bs
    by (inl e) = asterisk (ap (λ z. z ∷ behind) e) behind refl (after_ascii 0x3A behind (omega arith) (subst (λ z. IsChars (z ∷ behind)) e i))
    by (inr h) = (_, (b ∷ behind, w.name_without_colon (λ r e. h (same_first e)) a))

marked : (bs : List ℕ) → IsChars bs → ((name after : List ℕ) → EscapedAt bs name after → ⊥) → WordHere bs ⊎ IsNoMark bs
marked [] i h = inr (w.no_mark_at_end refl)
marked (b ∷ rest) i h = by (number_is b 0x5C)
  where
    char : (b ≡ 0x5C → ⊥) → FirstIs is_mark (b ∷ rest) ⊎ ((c : ℕ) (r : List ℕ) → b ∷ rest ≡ encode_utf8 c ++ r → is_mark c ≡ true → ⊥) → WordHere (b ∷ rest) ⊎ IsNoMark (b ∷ rest)
    char k (inl (c, (r, (e, (m, j))))) = inl (mark c, (r, other e m))
    char k (inr none) = inr (record { no_backslash = λ r e. k (same_first e); no_mark = none })

    by : Decided (b ≡ 0x5C) → WordHere (b ∷ rest) ⊎ IsNoMark (b ∷ rest)
    by (inl e) = inl (mark 0x5C, (rest, w.backslash_word (ap (λ z. z ∷ rest) e) h))
    by (inr k) = char k (first_is is_mark (b ∷ rest) i)

word_here : (bs : List ℕ) → IsChars bs → WordHere bs ⊎ ((word : Word) (after : List ℕ) → WordAt bs word after → ⊥)
word_here bs i = by (name_here bs i)
  where
    others : ((n r : List ℕ) → NcNameAt bs n r → ⊥) → ((v r : List ℕ) → LongLiteralAt bs v r → ⊥) → ((v r : List ℕ) → LiteralAt bs v r → list_all is_in_line v ≡ true → ⊥)
        → EscapedHere bs ⊎ ((n r : List ℕ) → EscapedAt bs n r → ⊥) → WordHere bs ⊎ ((word : Word) (after : List ℕ) → WordAt bs word after → ⊥)
    others h g k (inl (n, (r, a))) = inl (_, (r, escaped_name a))
    others h g k (inr l) = at (marked bs i l)
      where
        at : WordHere bs ⊎ IsNoMark bs → WordHere bs ⊎ ((word : Word) (after : List ℕ) → WordAt bs word after → ⊥)
        at (inl x) = inl x
        at (inr m) = inr (w.no_word h k g l m)

    in_quotes : ((n r : List ℕ) → NcNameAt bs n r → ⊥) → ((v r : List ℕ) → LongLiteralAt bs v r → ⊥) → LiteralHere bs ⊎ ((v r : List ℕ) → LiteralAt bs v r → ⊥) → WordHere bs ⊎ ((word : Word) (after : List ℕ) → WordAt bs word after → ⊥)
    in_quotes h g (inr k) = others h g (λ v r a l. k v r a) (escaped_here bs i)
    in_quotes h g (inl (v, (r, a))) = at (is_true (list_all is_in_line v))
      where
        at : Decided (list_all is_in_line v ≡ true) → WordHere bs ⊎ ((word : Word) (after : List ℕ) → WordAt bs word after → ⊥)
        at (inl l) = inl (literal v, (r, quoted a l g))
        at (inr l) = others h g (λ x s b m. l (subst (λ z. list_all is_in_line z ≡ true) (literal_same b a) m)) (escaped_here bs i)
          where
            literal_same : {x s : List ℕ} → LiteralAt bs x s → LiteralAt bs v r → x ≡ v
            literal_same b c = (literal_unique b c).0

    in_three : ((n r : List ℕ) → NcNameAt bs n r → ⊥) → LongHere bs ⊎ ((v r : List ℕ) → LongLiteralAt bs v r → ⊥) → WordHere bs ⊎ ((word : Word) (after : List ℕ) → WordAt bs word after → ⊥)
    in_three h (inl (v, (r, a))) = inl (long_literal v, (r, quoted_long a))
    in_three h (inr g) = in_quotes h g (literal_here bs)

    by : NameHere bs ⊎ ((n r : List ℕ) → NcNameAt bs n r → ⊥) → WordHere bs ⊎ ((word : Word) (after : List ℕ) → WordAt bs word after → ⊥)
    by (inl (n, (r, a))) = inl (named_word r (ncname_chars a i).1 a)
    by (inr h) = in_three h (long_here bs)

-- Tokens.

record TokensHere (total : ℕ) (bs : List ℕ) : Type 0 where
  tokens : List Token
  rest : List ℕ
  words : TokensUpTo total bs tokens rest
  no_space : BeginsNoSpace rest
  no_word : (word : Word) (after : List ℕ) → WordAt rest word after → ⊥

tokens_here : (total : ℕ) (bs : List ℕ) → IsChars bs → TokensHere total bs
tokens_here total = by_length (λ bs. IsChars bs → TokensHere total bs) step
  where
    step : (bs : List ℕ) → ((cs : List ℕ) → length cs < length bs → IsChars cs → TokensHere total cs) → IsChars bs → TokensHere total bs
    step [] ih i = record {
      tokens = [];
      rest = [];
      words = so_far;
      no_space = record { no_white = λ b r e h. omega (arith, ap length e); no_comment = λ r e. omega (arith, ap length e) };
      no_word = λ word after a. nothing_begins (word_begins a);
    }
    step (b ∷ bs) ih i = by (is_true (is_white b)) (number_is b 0x23)
      where
        behind_word : WordHere (b ∷ bs) ⊎ ((word : Word) (after : List ℕ) → WordAt (b ∷ bs) word after → ⊥) → (is_white b ≡ true → ⊥) → (b ≡ 0x23 → ⊥) → TokensHere total (b ∷ bs)
        behind_word (inr none) h k = record {
          tokens = [];
          rest = b ∷ bs;
          words = so_far;
          no_space = record { no_white = λ c r e m. h (subst (λ z. is_white z ≡ true) (sym (same_first e)) m); no_comment = λ r e. k (same_first e) };
          no_word = none;
        }
        behind_word (inl (word, (after, a))) h k =
            let t = ih after (word_shorter a) (word_lawful a i).1 in
            record { tokens = record { word = word; place = place_of total (b ∷ bs) } ∷ t.tokens; rest = t.rest; words = token a t.words; no_space = t.no_space; no_word = t.no_word }

        behind_white : is_white b ≡ true → TokensHere total (b ∷ bs)
        behind_white h =
            let t = ih bs (omega arith) (after_ascii b bs (white_is b h).0 i) in
            record { tokens = t.tokens; rest = t.rest; words = white h t.words; no_space = t.no_space; no_word = t.no_word }

        behind_comment : b ≡ 0x23 → TokensHere total (b ∷ bs)
        behind_comment e =
            let t = ih (after_line bs) (omega (arith, length-drop (prefix_len is_in_line bs) bs)) (line_chars bs (after_ascii 0x23 bs (omega arith) (subst (λ z. IsChars (z ∷ bs)) e i))) in
            record {
              tokens = t.tokens;
              rest = t.rest;
              words = subst (λ z. TokensUpTo total (z ∷ bs) t.tokens t.rest) (sym e) (comment t.words);
              no_space = t.no_space;
              no_word = t.no_word;
            }

        by : Decided (is_white b ≡ true) → Decided (b ≡ 0x23) → TokensHere total (b ∷ bs)
        by (inl h) k = behind_white h
        by (inr h) (inl e) = behind_comment e
        by (inr h) (inr k) = behind_word (word_here (b ∷ bs) i) h k

-- Texts.

read_or_refused_in : (bytes front : List ℕ) → FrontOf bytes front → (t : TokensHere (length front) (after_mark front))
    → SchemaHere (end_before (length front) t.rest) first_scope deepest_nesting t.tokens → ((s : Syntax) × CompactSyntax bytes s) ⊎ ((r : Refusal) × IsRefused bytes r)
read_or_refused_in bytes front f t = by
  where
    tokens_of : TokensOf bytes front t.tokens t.rest
    tokens_of = record { is_front = f; words = t.words; no_space = t.no_space; no_word = t.no_word }

    whole : (ds : List Definition) → SchemaAt false first_scope deepest_nesting t.tokens ds → t.rest ≡ [] → front ≡ bytes → (s : Syntax) × CompactSyntax bytes s
    whole ds m e g = (
      record { definitions = ds; end = length bytes },
      record {
        tokens = t.tokens;
        characters = subst IsChars g f.characters;
        words = subst (λ z. TokensAt (length z) (after_mark z) t.tokens) g (up_to_end e t.words);
        schema = m;
        end = refl;
      },
    )

    past : (ds : List Definition) → SchemaAt false first_scope deepest_nesting t.tokens ds → (t.rest ≡ [] → front ≡ bytes → ⊥) → (r : Refusal) × IsRefused bytes r
    past ds m h = let (r, x) = unexpected (end_before (length front) t.rest) [] in (r, past_tokens tokens_of m h x)

    nothing_left : (rest : List ℕ) → Decided (rest ≡ [])
    nothing_left [] = inl refl
    nothing_left (b ∷ rest) = inr (λ e. omega (arith, ap length e))

    at : (ds : List Definition) → SchemaAt false first_scope deepest_nesting t.tokens ds → Decided (t.rest ≡ []) → Decided (front ≡ bytes) → ((s : Syntax) × CompactSyntax bytes s) ⊎ ((r : Refusal) × IsRefused bytes r)
    at ds m (inl e) (inl g) = inl (whole ds m e g)
    at ds m (inr h) g = inr (past ds m (λ e k. h e))
    at ds m (inl e) (inr h) = inr (past ds m (λ k g. h g))

    by : SchemaHere (end_before (length front) t.rest) first_scope deepest_nesting t.tokens → ((s : Syntax) × CompactSyntax bytes s) ⊎ ((r : Refusal) × IsRefused bytes r)
    by (stops_schema r y) = inr (r, in_tokens tokens_of y)
    by (reads_schema ds m) = at ds m (nothing_left t.rest) (bytes_are front bytes)

-- each text is read or refused
pub read_or_refused : (bytes : List ℕ) → ((s : Syntax) × CompactSyntax bytes s) ⊎ ((r : Refusal) × IsRefused bytes r)
read_or_refused bytes =
    let (front, f) = front_here bytes in
    let t = tokens_here (length front) (after_mark front) (mark_chars front f.characters) in
    read_or_refused_in bytes front f t (schema_here (end_before (length front) t.rest) t.tokens first_scope deepest_nesting)
