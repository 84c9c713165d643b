-- A text has one list of tokens.
use Rattle.std.proofs.Common.{◌≡◌, ◌⊎◌, inl, inr, ℕ, ◌<◌, Bool, true, false, cond, ◌||◌, not, ◌==◌, List, [], ◌∷◌, ◌++◌, refl, ap, ◌∙◌, sym, subst, arith, length, append_assoc, length-append}
use Rattle.std.specs.Prelude.{take, drop, encode_utf8, encode_utf8_all}
use Rattle.std.proofs.lemmas.Bool.{false≢true, eqb-true}
use Rattle.std.proofs.lemmas.Str.{encode_same, encode_ascii, length-encode, len_utf8_bounds}
use Rattle.tc_base.specs.Characters.{is_white}
use Rattle.tc_model.specs.Names.{is_ncname_start}
use Rattle.tc_model.specs.XmlTextBytes.{IsQuote, length_before, place_of}
use Rattle.tc_model.specs.XmlTextNames.{NcNameAt}
use Rattle.tc_model.specs.CompactSyntaxTokens.{Word, a_name, escaped, prefixed, all_of, literal, long_literal, mark, Token, three, LongLiteralAt, EndsName, is_mark, WordAt, plain_name, prefixed_name, namespace_name, escaped_name, quoted, quoted_long, backslash, other, after_line, TokensAt, at_end, white, comment, token}
use Rattle.tc_model.proofs.XmlTextPhrases.{same_first, same_others, literal_unique, ncname_unique, no_name}

-- what begins with this character: 1 a name, 2 white space, 3 a literal, 4 a comment, 5 a backslash, 6 a mark
unfoldable pub other_kind : ℕ → ℕ
other_kind c = cond (is_white c) 2 (cond (c == 0x22) 3 (cond (c == 0x27) 3 (cond (c == 0x23) 4 (cond (c == 0x5C) 5 6))))

unfoldable pub kind : ℕ → ℕ
kind c = cond (is_ncname_start c) 1 (other_kind c)

-- the bytes begin with a character of this kind
pub record BeginsAs (k : ℕ) (bs : List ℕ) : Type 0 where
  first : ℕ
  after : List ℕ
  parts : bs ≡ encode_utf8 first ++ after
  is : kind first ≡ k

same_kind : {j k : ℕ} {bs : List ℕ} → BeginsAs j bs → BeginsAs k bs → j ≡ k
same_kind a b = sym a.is ∙ (ap kind (encode_same a.first b.first a.after b.after (sym a.parts ∙ b.parts)).0 ∙ b.is)

pub nothing_begins : {k : ℕ} → BeginsAs k [] → ⊥
nothing_begins a = omega (arith, ap length a.parts, length-append (encode_utf8 a.first) a.after, length-encode a.first, len_utf8_bounds a.first)

start_kind : (c : ℕ) → is_ncname_start c ≡ true → kind c ≡ 1
unfolding kind
start_kind c h = ap (λ x. cond x 1 (other_kind c)) h

pub byte_begins : {k : ℕ} {bs : List ℕ} (b : ℕ) → b < 128 → kind b ≡ k → BeginsAs k (b ∷ bs)
byte_begins {bs = bs} b small e = record { first = b; after = bs; parts = sym (ap (λ w. w ++ bs) (encode_ascii b small)); is = e }

pub white_is : (b : ℕ) → is_white b ≡ true → (b < 128) × (kind b ≡ 2)
unfolding kind other_kind
white_is b h = by (b == 0x20) (b == 0x9) (b == 0xD) (b == 0xA) refl refl refl refl h
  where
    at : (k : ℕ) → k < 128 → kind k ≡ 2 → (b == k) ≡ true → (b < 128) × (kind b ≡ 2)
    at k small is e = let same = eqb-true b k e in (omega (arith, same, small), ap kind same ∙ is)

    by : (x y z w : Bool) → (b == 0x20) ≡ x → (b == 0x9) ≡ y → (b == 0xD) ≡ z → (b == 0xA) ≡ w → (x || y || z || w) ≡ true → (b < 128) × (kind b ≡ 2)
    by true y z w e f g i h = at 0x20 (omega arith) refl e
    by false true z w e f g i h = at 0x9 (omega arith) refl f
    by false false true w e f g i h = at 0xD (omega arith) refl g
    by false false false true e f g i h = at 0xA (omega arith) refl i
    by false false false false e f g i h = absurd (false≢true h)

mark_is : (c : ℕ) → is_mark c ≡ true → kind c ≡ 6
unfolding kind other_kind
mark_is c h = by (is_ncname_start c) (is_white c) (c == 0x22) (c == 0x23) (c == 0x27) (c == 0x5C) h
  where
    by : (s w q h t b : Bool) → not (s || w || q || h || t || b) ≡ true → ◌≡◌ {A = ℕ} (cond s 1 (cond w 2 (cond q 3 (cond t 3 (cond h 4 (cond b 5 6)))))) 6
    by true w q h t b e = absurd (false≢true e)
    by false true q h t b e = absurd (false≢true e)
    by false false true h t b e = absurd (false≢true e)
    by false false false true t b e = absurd (false≢true e)
    by false false false false true b e = absurd (false≢true e)
    by false false false false false true e = absurd (false≢true e)
    by false false false false false false e = refl

name_begins : {bs n r : List ℕ} → NcNameAt bs n r → BeginsAs 1 bs
name_begins {bs} {n} {r} a =
    let (c, cs, is_n, c_start, cs_chars) = a.lawful in
    record { first = c; after = encode_utf8_all cs ++ r; parts = a.parts ∙ (ap (λ w. w ++ r) (sym is_n) ∙ append_assoc (encode_utf8 c) (encode_utf8_all cs) r); is = start_kind c c_start }

at_byte : {k : ℕ} {bs rest : List ℕ} (b : ℕ) → b < 128 → kind b ≡ k → bs ≡ b ∷ rest → BeginsAs k bs
at_byte {k} b small e is = subst (BeginsAs k) (sym is) (byte_begins b small e)

quote_begins : {bs : List ℕ} (q : ℕ) (rest : List ℕ) → IsQuote q → bs ≡ q ∷ rest → BeginsAs 3 bs
unfolding kind other_kind
quote_begins q rest (inl e) is = at_byte 0x22 (omega arith) refl (is ∙ ap (λ q. q ∷ rest) e)
quote_begins q rest (inr e) is = at_byte 0x27 (omega arith) refl (is ∙ ap (λ q. q ∷ rest) e)

-- a text has one literal in three quotes at its front
long_literal_unique : {bs v r w s : List ℕ} → LongLiteralAt bs v r → LongLiteralAt bs w s → (v ≡ w) × (r ≡ s)
long_literal_unique {v = v} {r = r} {w = w} {s = s} a b =
    let same = sym a.opens ∙ b.opens in
    let quotes = same_first same in
    let rests = same_others (same_others (same_others same)) in
    let front : (q : ℕ) (rest : List ℕ) → List ℕ = λ q rest. take (length_before (three q) rest) rest in
    let back : (q : ℕ) (rest : List ℕ) → List ℕ = λ q rest. drop 3 (drop (length_before (three q) rest) rest) in
    (a.front ∙ (ap (λ q. front q a.rest) quotes ∙ (ap (front b.quote) rests ∙ sym b.front)), a.back ∙ (ap (λ q. back q a.rest) quotes ∙ (ap (back b.quote) rests ∙ sym b.back)))

-- the kind of a word by its rule
pub rule : {bs r : List ℕ} {w : Word} → WordAt bs w r → ℕ
rule (plain_name a e) = 1
rule (prefixed_name a b) = 1
rule (namespace_name a) = 1
rule (escaped_name a) = 5
rule (quoted a e n) = 3
rule (quoted_long a) = 3
rule (backslash h) = 5
rule (other e h) = 6

pub word_begins : {bs r : List ℕ} {w : Word} (a : WordAt bs w r) → BeginsAs (rule a) bs
unfolding rule kind other_kind
word_begins (plain_name a e) = name_begins a
word_begins (prefixed_name a b) = name_begins a
word_begins (namespace_name a) = name_begins a
word_begins (escaped_name a) = at_byte 0x5C (omega arith) refl a.opens
word_begins (quoted a e n) = quote_begins a.quote a.rest a.is_quote a.opens
word_begins (quoted_long a) = quote_begins a.quote (a.quote ∷ a.quote ∷ a.rest) a.is_quote a.opens
word_begins (backslash h) = byte_begins 0x5C (omega arith) refl
word_begins (other {c = c} {after = r} e h) = record { first = c; after = r; parts = e; is = mark_is c h }

pub no_word : {k : ℕ} {bs r : List ℕ} {w : Word} → (k ≡ 2) ⊎ (k ≡ 4) → BeginsAs k bs → WordAt bs w r → ⊥
unfolding rule
no_word {k} is b a = by a (same_kind b (word_begins a)) is
  where
    by : {bs r : List ℕ} {w : Word} (a : WordAt bs w r) → k ≡ rule a → (k ≡ 2) ⊎ (k ≡ 4) → ⊥
    by (plain_name a e) s (inl i) = omega (arith, s, i)
    by (plain_name a e) s (inr i) = omega (arith, s, i)
    by (prefixed_name a b) s (inl i) = omega (arith, s, i)
    by (prefixed_name a b) s (inr i) = omega (arith, s, i)
    by (namespace_name a) s (inl i) = omega (arith, s, i)
    by (namespace_name a) s (inr i) = omega (arith, s, i)
    by (escaped_name a) s (inl i) = omega (arith, s, i)
    by (escaped_name a) s (inr i) = omega (arith, s, i)
    by (quoted a e n) s (inl i) = omega (arith, s, i)
    by (quoted a e n) s (inr i) = omega (arith, s, i)
    by (quoted_long a) s (inl i) = omega (arith, s, i)
    by (quoted_long a) s (inr i) = omega (arith, s, i)
    by (backslash h) s (inl i) = omega (arith, s, i)
    by (backslash h) s (inr i) = omega (arith, s, i)
    by (other e h) s (inl i) = omega (arith, s, i)
    by (other e h) s (inr i) = omega (arith, s, i)

ends_no_prefix : {after rest n r : List ℕ} → EndsName after → after ≡ 0x3A ∷ rest → NcNameAt rest n r → ⊥
ends_no_prefix {rest = rest} {n = n} {r = r} h e a = (h rest e).0 n r a

ends_no_asterisk : {after rest : List ℕ} → EndsName after → after ≡ 0x3A ∷ 0x2A ∷ rest → ⊥
ends_no_asterisk {rest = rest} h e = (h (0x2A ∷ rest) e).1 rest refl

no_asterisk_name : {rest s n r : List ℕ} → rest ≡ 0x2A ∷ s → NcNameAt rest n r → ⊥
no_asterisk_name {n = n} {r = r} e a = no_name 0x2A (omega arith) refl (subst (λ w. NcNameAt w n r) e a)

pub word_unique : {bs r s : List ℕ} {w v : Word} → WordAt bs w r → WordAt bs v s → (w ≡ v) × (r ≡ s)
unfolding rule
word_unique (plain_name a e) (plain_name b f) = let both = ncname_unique a b in (ap a_name both.0, both.1)
word_unique (plain_name a e) (prefixed_name b c) = absurd (ends_no_prefix e (ncname_unique a b).1 c)
word_unique (plain_name a e) (namespace_name b) = absurd (ends_no_asterisk e (ncname_unique a b).1)
word_unique (prefixed_name b c) (plain_name a e) = absurd (ends_no_prefix e (ncname_unique a b).1 c)
word_unique {s = s} (prefixed_name {prefix = p} {name = n} a b) (prefixed_name {prefix = q} {name = m} c d) =
    let fronts = ncname_unique a c in
    let both = ncname_unique b (subst (λ w. NcNameAt w m s) (sym (same_others fronts.1)) d) in
    (ap (λ w. prefixed w n) fronts.0 ∙ ap (prefixed q) both.0, both.1)
word_unique (prefixed_name a b) (namespace_name c) = absurd (no_asterisk_name (same_others (ncname_unique a c).1) b)
word_unique (namespace_name b) (plain_name a e) = absurd (ends_no_asterisk e (ncname_unique a b).1)
word_unique (namespace_name c) (prefixed_name a b) = absurd (no_asterisk_name (same_others (ncname_unique a c).1) b)
word_unique (namespace_name a) (namespace_name b) = let both = ncname_unique a b in (ap all_of both.0, same_others (same_others both.1))
word_unique {s = s} (escaped_name a) (escaped_name {name = m} b) =
    let both = ncname_unique a.names (subst (λ w. NcNameAt w m s) (same_others (sym b.opens ∙ a.opens)) b.names) in (ap escaped both.0, both.1)
word_unique {r = r} (escaped_name {name = n} a) (backslash h) = absurd (h n r a)
word_unique {s = s} (backslash h) (escaped_name {name = n} a) = absurd (h n s a)
word_unique (backslash h) (backslash k) = (refl, refl)
word_unique (quoted a e n) (quoted b f m) = let both = literal_unique a b in (ap literal both.0, both.1)
word_unique (quoted a e n) (quoted_long {value = v} {after = r} b) = absurd (n v r b)
word_unique (quoted_long {value = v} {after = r} b) (quoted a e n) = absurd (n v r b)
word_unique (quoted_long a) (quoted_long b) = let both = long_literal_unique a b in (ap long_literal both.0, both.1)
word_unique {r = r} {s = s} (other {c = c} e h) (other {c = d} f k) = let both = encode_same c d r s (sym e ∙ f) in (ap mark both.0, both.1)
word_unique a b = absurd (omega (arith, same_kind (word_begins a) (word_begins b)))

pub tokens_unique : {total : ℕ} {bs : List ℕ} {ts us : List Token} → TokensAt total bs ts → TokensAt total bs us → ts ≡ us
unfolding kind other_kind
tokens_unique at_end at_end = refl
tokens_unique at_end (token a l) = absurd (nothing_begins (word_begins a))
tokens_unique (token a l) at_end = absurd (nothing_begins (word_begins a))
tokens_unique (white h l) (white k m) = tokens_unique l m
tokens_unique (white h l) (comment m) = absurd (false≢true h)
tokens_unique (comment m) (white h l) = absurd (false≢true h)
tokens_unique (white {b = b} h l) (token a m) = let is = white_is b h in absurd (no_word (inl refl) (byte_begins b is.0 is.1) a)
tokens_unique (token a m) (white {b = b} h l) = let is = white_is b h in absurd (no_word (inl refl) (byte_begins b is.0 is.1) a)
tokens_unique (comment l) (comment m) = tokens_unique l m
tokens_unique (comment l) (token a m) = absurd (no_word (inr refl) (byte_begins 0x23 (omega arith) refl) a)
tokens_unique (token a m) (comment l) = absurd (no_word (inr refl) (byte_begins 0x23 (omega arith) refl) a)
tokens_unique {total} {bs} {us = us} (token {word = w} {tokens = ts} a l) (token {word = v} {tokens = vs} b m) =
    let both = word_unique a b in
    let rest = tokens_unique l (subst (λ z. TokensAt total z vs) (sym both.1) m) in
    let one : Word → Token = λ z. record { word = z; place = place_of total bs } in
    ap (λ z. one z ∷ ts) both.0 ∙ ap (λ z. one v ∷ z) rest

-- the tokens of what follows white space, a comment or a word at the front
pub behind_white : {total : ℕ} {b : ℕ} {bs : List ℕ} {ts : List Token} → is_white b ≡ true → TokensAt total (b ∷ bs) ts → TokensAt total bs ts
unfolding kind other_kind
behind_white h (white k m) = m
behind_white h (comment m) = absurd (false≢true h)
behind_white {b = b} h (token a m) = let is = white_is b h in absurd (no_word (inl refl) (byte_begins b is.0 is.1) a)

pub behind_comment : {total : ℕ} {bs : List ℕ} {ts : List Token} → TokensAt total (0x23 ∷ bs) ts → TokensAt total (after_line bs) ts
unfolding kind other_kind
behind_comment (white k m) = absurd (false≢true k)
behind_comment (comment m) = m
behind_comment (token a m) = absurd (no_word (inr refl) (byte_begins 0x23 (omega arith) refl) a)

pub record FirstToken (total : ℕ) (bs : List ℕ) (w : Word) (r : List ℕ) (ts : List Token) : Type 0 where
  pub others : List Token
  pub parts : ts ≡ record { word = w; place = place_of total bs } ∷ others
  pub rest : TokensAt total r others

pub behind_word : {total : ℕ} {bs r : List ℕ} {w : Word} {ts : List Token} → WordAt bs w r → TokensAt total bs ts → FirstToken total bs w r ts
unfolding kind other_kind
behind_word a at_end = absurd (nothing_begins (word_begins a))
behind_word a (white {b = b} k m) = let is = white_is b k in absurd (no_word (inl refl) (byte_begins b is.0 is.1) a)
behind_word a (comment m) = absurd (no_word (inr refl) (byte_begins 0x23 (omega arith) refl) a)
behind_word {total} {bs} {w = w} a (token {word = v} {tokens = vs} b m) =
    let both = word_unique a b in
    let one : Word → Token = λ z. record { word = z; place = place_of total bs } in
    record { others = vs; parts = ap (λ z. one z ∷ vs) (sym both.0); rest = subst (λ z. TokensAt total z vs) (sym both.1) m }
