-- A text has one list of tokens.
use Rattle.std.proofs.Common.{◌≡◌, ◌⊎◌, inl, inr, ℕ, zero, suc, ◌+◌, ◌<◌, ◌≤◌, Bool, true, false, cond, ◌||◌, ◌&&◌, not, ◌==◌, List, [], ◌∷◌, ◌++◌, refl, ap, ◌∙◌, sym, subst, arith, Option, None, Some, nat_le, nat_lt, length, append_assoc, length-append}
use Rattle.std.specs.Prelude.{encode_utf8, encode_utf8_all}
use Rattle.std.proofs.lemmas.Str.{length-encode, len_utf8_bounds}
use Rattle.std.specs.List.{list_all}
use Rattle.std.proofs.lemmas.Bool.{true≢false, false≢true, eqb-true, and_parts, eqb-false, leb-true, ltb-true, not-true}
use Rattle.tc_model.specs.Names.{is_ncname_start}
use Rattle.tc_model.specs.XmlTextBytes.{LiteralAt}
use Rattle.tc_model.specs.XmlTextNames.{NcNameAt}
use Rattle.tc_model.specs.PathTextTokens.{Mark, Token, name, all_of_prefix, mark, Single, Double, singles, doubles, single_in, double_in, is_digit, begins_with_digit, begins_with_number, MarkAt, of_two, of_one, EndsName, TokenAt, unprefixed, prefixed, with_star, a_mark, a_number, a_literal, a_variable, Tokens, no_more, one_more}
use Rattle.tc_model.proofs.XmlTextPhrases.{same_first, same_others, ncname_unique, qname_unique, no_name, literal_unique}

same_some : {X : Type 0} {c d : X} {o : Option X} → o ≡ Some c → o ≡ Some d → c ≡ d
same_some p q = cc

some_none : {X : Type 0} {c : X} {o : Option X} → o ≡ Some c → o ≡ None → ⊥
some_none p q = cc

pub mark_unique : {bs r s : List ℕ} {m n : Mark} → MarkAt bs m r → MarkAt bs n s → (m ≡ n) × (r ≡ s)
mark_unique (of_two e) (of_two f) = (same_some e f, refl)
mark_unique (of_two {a} {b} {after} e) (of_one h f) = absurd (some_none e (h b after refl))
mark_unique (of_one h f) (of_two {a} {b} {after} e) = absurd (some_none e (h b after refl))
mark_unique (of_one h e) (of_one k f) = (same_some e f, refl)

-- a byte with which no name, literal or variable begins
abbrev pub stands_apart : ℕ → Bool
stands_apart b = (nat_lt b 128 && not (is_ncname_start b)) && (not (b == 0x22 || b == 0x27) && not (b == 0x24))

-- a test that holds of these numbers holds of each
all_from : (ℕ → Bool) → ℕ → ℕ → Bool
all_from p low zero = true
all_from p low (suc n) = p low && all_from p (low + 1) n

from_all : (p : ℕ → Bool) (low n b : ℕ) → all_from p low n ≡ true → low ≤ b → b < low + n → p b ≡ true
unfolding all_from
from_all p low zero b e h k = absurd (omega (arith, h, k))
from_all p low (suc n) b e h k = by (b == low) refl (from_all p (low + 1) n b parts.1)
  where
    parts : (p low ≡ true) × (all_from p (low + 1) n ≡ true)
    parts = and_parts (p low) (all_from p (low + 1) n) e

    by : (x : Bool) → (b == low) ≡ x → (low + 1 ≤ b → b < low + 1 + n → p b ≡ true) → p b ≡ true
    by true f rest = subst (λ c. p c ≡ true) (sym (eqb-true b low f)) parts.0
    by false f rest =
        let other : b ≡ low → ⊥ = eqb-false b low f in
        rest (omega (arith, h, other)) (omega (arith, k))

digit_apart : (b : ℕ) → is_digit b ≡ true → stands_apart b ≡ true
unfolding all_from
digit_apart b e =
    let both = and_parts (nat_le 0x30 b) (nat_le b 0x39) e in
    from_all stands_apart 0x30 10 b refl (leb-true 0x30 b both.0) (omega (arith, leb-true b 0x39 both.1))

single_apart : (xs : List Single) (a : ℕ) {m : Mark} → list_all (λ x. stands_apart x.first) xs ≡ true → single_in xs a ≡ Some m → stands_apart a ≡ true
single_apart [] a h e = absurd (some_none e refl)
single_apart (x ∷ xs) a {m} h e = by (a == x.first) refl (single_apart xs a parts.1)
  where
    parts : (stands_apart x.first ≡ true) × (list_all (λ y. stands_apart y.first) xs ≡ true)
    parts = and_parts (stands_apart x.first) (list_all (λ y. stands_apart y.first) xs) h

    by : (c : Bool) → (a == x.first) ≡ c → (single_in xs a ≡ Some m → stands_apart a ≡ true) → stands_apart a ≡ true
    by true f rest = subst (λ b. stands_apart b ≡ true) (sym (eqb-true a x.first f)) parts.0
    by false f rest = rest (sym (ap (λ c. cond c (Some x.mark) (single_in xs a)) f) ∙ e)

double_apart : (xs : List Double) (a b : ℕ) {m : Mark} → list_all (λ x. stands_apart x.first) xs ≡ true → double_in xs a b ≡ Some m → stands_apart a ≡ true
double_apart [] a b h e = absurd (some_none e refl)
double_apart (x ∷ xs) a b {m} h e = by (a == x.first) refl (double_apart xs a b parts.1)
  where
    parts : (stands_apart x.first ≡ true) × (list_all (λ y. stands_apart y.first) xs ≡ true)
    parts = and_parts (stands_apart x.first) (list_all (λ y. stands_apart y.first) xs) h

    by : (c : Bool) → (a == x.first) ≡ c → (double_in xs a b ≡ Some m → stands_apart a ≡ true) → stands_apart a ≡ true
    by true f rest = subst (λ n. stands_apart n ≡ true) (sym (eqb-true a x.first f)) parts.0
    by false f rest = rest (sym (ap (λ c. cond (c && (b == x.second)) (Some x.mark) (double_in xs a b)) f) ∙ e)

-- the text begins with such a byte
Apart : List ℕ → Type 0
Apart bs = (b : ℕ) × (r : List ℕ) × (bs ≡ b ∷ r) × (stands_apart b ≡ true)

mark_apart : {bs r : List ℕ} {m : Mark} → MarkAt bs m r → Apart bs
unfolding Apart
mark_apart (of_two {a} {b} {after} e) = (a, b ∷ after, refl, double_apart doubles a b refl e)
mark_apart (of_one {a} {after} h e) = (a, after, refl, single_apart singles a refl e)

number_apart : (bs : List ℕ) → begins_with_number bs ≡ true → Apart bs
unfolding Apart
number_apart [] e = absurd (false≢true e)
number_apart (b ∷ bs) e = (b, bs, refl, by (is_digit b) (b == 0x2E) refl refl e)
  where
    by : (x y : Bool) → is_digit b ≡ x → (b == 0x2E) ≡ y → (x || (y && begins_with_digit bs)) ≡ true → stands_apart b ≡ true
    by true y f g h = digit_apart b f
    by false true f g h = subst (λ n. stands_apart n ≡ true) (sym (eqb-true b 0x2E g)) refl
    by false false f g h = absurd (false≢true h)

no_name_apart : {bs n r : List ℕ} → Apart bs → NcNameAt bs n r → ⊥
unfolding Apart
no_name_apart {n = n} {r = r} (b, rest, is, e) a =
    let first = and_parts (nat_lt b 128) (not (is_ncname_start b)) (and_parts (nat_lt b 128 && not (is_ncname_start b)) (not (b == 0x22 || b == 0x27) && not (b == 0x24)) e).0 in
    no_name b (ltb-true b 128 first.0) (not-true (is_ncname_start b) first.1) (subst (λ w. NcNameAt w n r) is a)

no_quote_apart : {bs r : List ℕ} (q : ℕ) → (q ≡ 0x22) ⊎ (q ≡ 0x27) ⊎ (q ≡ 0x24) → bs ≡ q ∷ r → Apart bs → ⊥
unfolding Apart
no_quote_apart q k at (b, rest, is, e) =
    let second = (and_parts (nat_lt b 128 && not (is_ncname_start b)) (not (b == 0x22 || b == 0x27) && not (b == 0x24)) e).1 in
    false≢true (by q k (subst (λ n. (not (n == 0x22 || n == 0x27) && not (n == 0x24)) ≡ true) (same_first (sym is ∙ at)) second))
  where
    by : (c : ℕ) → (c ≡ 0x22) ⊎ (c ≡ 0x27) ⊎ (c ≡ 0x24) → (not (c == 0x22 || c == 0x27) && not (c == 0x24)) ≡ true → false ≡ true
    by c (inl h) g = subst (λ n. (not (n == 0x22 || n == 0x27) && not (n == 0x24)) ≡ true) h g
    by c (inr (inl h)) g = subst (λ n. (not (n == 0x22 || n == 0x27) && not (n == 0x24)) ≡ true) h g
    by c (inr (inr h)) g = subst (λ n. (not (n == 0x22 || n == 0x27) && not (n == 0x24)) ≡ true) h g

no_literal_apart : {bs v r : List ℕ} → Apart bs → LiteralAt bs v r → ⊥
no_literal_apart k a = no_quote_apart a.quote (either a.is_quote) a.opens k
  where
    either : {q : ℕ} → (q ≡ 0x22) ⊎ (q ≡ 0x27) → (q ≡ 0x22) ⊎ (q ≡ 0x27) ⊎ (q ≡ 0x24)
    either (inl e) = inl e
    either (inr e) = inr (inl e)

no_variable_apart : (rest : List ℕ) → Apart (0x24 ∷ rest) → ⊥
no_variable_apart rest k = no_quote_apart 0x24 (inr (inr refl)) refl k

no_name_quote : {bs n r v s : List ℕ} → LiteralAt bs v s → NcNameAt bs n r → ⊥
no_name_quote {n = n} {r = r} l a = by l.is_quote
  where
    by : (l.quote ≡ 0x22) ⊎ (l.quote ≡ 0x27) → ⊥
    by (inl e) = no_name 0x22 (omega arith) refl (subst (λ w. NcNameAt w n r) (l.opens ∙ ap (λ q. q ∷ l.rest) e) a)
    by (inr e) = no_name 0x27 (omega arith) refl (subst (λ w. NcNameAt w n r) (l.opens ∙ ap (λ q. q ∷ l.rest) e) a)

no_name_dollar : {bs n r : List ℕ} → NcNameAt (0x24 ∷ bs) n r → ⊥
no_name_dollar a = no_name 0x24 (omega arith) refl a

no_literal_dollar : {bs v r : List ℕ} → LiteralAt (0x24 ∷ bs) v r → ⊥
no_literal_dollar l = by l.is_quote
  where
    by : (l.quote ≡ 0x22) ⊎ (l.quote ≡ 0x27) → ⊥
    by (inl e) = absurd (omega (arith, e, same_first l.opens))
    by (inr e) = absurd (omega (arith, e, same_first l.opens))

full : List ℕ → List ℕ → Token
full p l = name (record { prefix = p; local = l })

-- a name ends where another goes on with one colon
no_longer : {bs n p r rest : List ℕ} → NcNameAt bs n r → EndsName r → NcNameAt bs p (0x3A ∷ rest) → (s : List ℕ) × (rest ≡ 0x3A ∷ s)
no_longer {rest = rest} a e b = e rest (ncname_unique a b).1

no_colon_name : {bs n r : List ℕ} → NcNameAt (0x3A ∷ bs) n r → ⊥
no_colon_name a = no_name 0x3A (omega arith) refl a

no_star_name : {bs n r : List ℕ} → NcNameAt (0x2A ∷ bs) n r → ⊥
no_star_name a = no_name 0x2A (omega arith) refl a

pub token_unique : {bs r s : List ℕ} {t u : Token} → TokenAt bs t r → TokenAt bs u s → (t ≡ u) × (r ≡ s)
unfolding full
token_unique (unprefixed a e) (unprefixed b f) = let both = ncname_unique a b in (ap (full []) both.0, both.1)
token_unique (unprefixed a e) (prefixed {local = l} {after = r} b c) =
    let (s, is) = no_longer a e b in absurd (no_colon_name (subst (λ w. NcNameAt w l r) is c))
token_unique (unprefixed a e) (with_star b) = let (s, is) = no_longer a e b in absurd (omega (arith, same_first is))
token_unique (prefixed {local = l} {after = r} b c) (unprefixed a e) =
    let (s, is) = no_longer a e b in absurd (no_colon_name (subst (λ w. NcNameAt w l r) is c))
token_unique (prefixed {prefix = p} {local = l} a c) (prefixed {prefix = q} {local = m} {after = s} b d) =
    let both = ncname_unique a b in
    let local = ncname_unique c (subst (λ w. NcNameAt w m s) (sym (same_others both.1)) d) in
    (ap (λ v. full v l) both.0 ∙ ap (full q) local.0, local.1)
token_unique (prefixed {local = l} {after = r} a c) (with_star b) =
    absurd (no_star_name (subst (λ w. NcNameAt w l r) (same_others (ncname_unique a b).1) c))
token_unique (with_star b) (unprefixed a e) = let (s, is) = no_longer a e b in absurd (omega (arith, same_first is))
token_unique (with_star b) (prefixed {local = l} {after = r} a c) =
    absurd (no_star_name (subst (λ w. NcNameAt w l r) (same_others (ncname_unique a b).1) c))
token_unique (with_star a) (with_star b) = let both = ncname_unique a b in (ap all_of_prefix both.0, same_others (same_others both.1))
token_unique (a_mark h a) (a_mark k b) = let both = mark_unique a b in (ap mark both.0, both.1)
token_unique (a_mark h a) (a_number k) = absurd (true≢false (sym k ∙ h))
token_unique (a_mark h a) (a_literal b) = absurd (no_literal_apart (mark_apart a) b)
token_unique (a_mark h a) (a_variable b) = absurd (no_variable_apart _ (mark_apart a))
token_unique (a_number k) (a_mark h a) = absurd (true≢false (sym k ∙ h))
token_unique (a_number k) (a_number h) = (refl, refl)
token_unique {bs} (a_number k) (a_literal b) = absurd (no_literal_apart (number_apart bs k) b)
token_unique {bs} (a_number k) (a_variable b) = absurd (no_variable_apart _ (number_apart bs k))
token_unique (a_literal b) (a_mark h a) = absurd (no_literal_apart (mark_apart a) b)
token_unique {bs} (a_literal b) (a_number k) = absurd (no_literal_apart (number_apart bs k) b)
token_unique (a_literal a) (a_literal b) = (refl, (literal_unique a b).1)
token_unique (a_literal a) (a_variable b) = absurd (no_literal_dollar a)
token_unique (a_variable b) (a_mark h a) = absurd (no_variable_apart _ (mark_apart a))
token_unique {bs} (a_variable b) (a_number k) = absurd (no_variable_apart _ (number_apart bs k))
token_unique (a_variable b) (a_literal a) = absurd (no_literal_dollar a)
token_unique (a_variable a) (a_variable b) = (refl, (qname_unique a b).1)
token_unique (unprefixed a e) (a_mark h m) = absurd (no_name_apart (mark_apart m) a)
token_unique (a_mark h m) (unprefixed a e) = absurd (no_name_apart (mark_apart m) a)
token_unique {bs} (unprefixed a e) (a_number k) = absurd (no_name_apart (number_apart bs k) a)
token_unique {bs} (a_number k) (unprefixed a e) = absurd (no_name_apart (number_apart bs k) a)
token_unique (unprefixed a e) (a_literal l) = absurd (no_name_quote l a)
token_unique (a_literal l) (unprefixed a e) = absurd (no_name_quote l a)
token_unique (unprefixed a e) (a_variable q) = absurd (no_name_dollar a)
token_unique (a_variable q) (unprefixed a e) = absurd (no_name_dollar a)
token_unique (prefixed a c) (a_mark h m) = absurd (no_name_apart (mark_apart m) a)
token_unique (a_mark h m) (prefixed a c) = absurd (no_name_apart (mark_apart m) a)
token_unique {bs} (prefixed a c) (a_number k) = absurd (no_name_apart (number_apart bs k) a)
token_unique {bs} (a_number k) (prefixed a c) = absurd (no_name_apart (number_apart bs k) a)
token_unique (prefixed a c) (a_literal l) = absurd (no_name_quote l a)
token_unique (a_literal l) (prefixed a c) = absurd (no_name_quote l a)
token_unique (prefixed a c) (a_variable q) = absurd (no_name_dollar a)
token_unique (a_variable q) (prefixed a c) = absurd (no_name_dollar a)
token_unique (with_star a) (a_mark h m) = absurd (no_name_apart (mark_apart m) a)
token_unique (a_mark h m) (with_star a) = absurd (no_name_apart (mark_apart m) a)
token_unique {bs} (with_star a) (a_number k) = absurd (no_name_apart (number_apart bs k) a)
token_unique {bs} (a_number k) (with_star a) = absurd (no_name_apart (number_apart bs k) a)
token_unique (with_star a) (a_literal l) = absurd (no_name_quote l a)
token_unique (a_literal l) (with_star a) = absurd (no_name_quote l a)
token_unique (with_star a) (a_variable q) = absurd (no_name_dollar a)
token_unique (a_variable q) (with_star a) = absurd (no_name_dollar a)

no_empty_name : {n r : List ℕ} → NcNameAt [] n r → ⊥
no_empty_name {n} {r} a =
    let (c, cs, is_n, c_start, cs_chars) = a.lawful in
    let e : [] ≡ encode_utf8 c ++ (encode_utf8_all cs ++ r) = a.parts ∙ (ap (λ w. w ++ r) (sym is_n) ∙ append_assoc (encode_utf8 c) (encode_utf8_all cs) r) in
    omega (arith, ap length e, length-append (encode_utf8 c) (encode_utf8_all cs ++ r), length-encode c, len_utf8_bounds c)

-- no token stands at the end
pub no_token : {t : Token} {r : List ℕ} → TokenAt [] t r → ⊥
no_token (unprefixed a e) = no_empty_name a
no_token (prefixed a c) = no_empty_name a
no_token (with_star a) = no_empty_name a
no_token (a_mark h m) = no_mark m
  where
    no_mark : {m : Mark} {r : List ℕ} → MarkAt [] m r → ⊥
    no_mark m = elim m [ ]
no_token (a_number k) = false≢true k
no_token (a_literal l) = absurd (omega (arith, ap length l.opens))

pub tokens_unique : {bs : List ℕ} {ts us : List Token} → Tokens bs ts → Tokens bs us → ts ≡ us
tokens_unique (no_more e) (no_more f) = refl
tokens_unique {bs} (no_more e) (one_more {rest = rest} {t = t} a l) = absurd (no_token (subst (λ w. TokenAt w t rest) e a))
tokens_unique {bs} (one_more {rest = rest} {t = t} a l) (no_more e) = absurd (no_token (subst (λ w. TokenAt w t rest) e a))
tokens_unique (one_more {ts = ts} a l) (one_more {t = u} {ts = us} b m) =
    let both = token_unique a b in
    ap (λ x. x ∷ ts) both.0 ∙ ap (λ z. u ∷ z) (tokens_unique l (subst (λ w. Tokens w us) (sym both.1) m))
