-- What the front of a text is as a token.
use Rattle.std.proofs.Common.{◌≡◌, ◌≢◌, ℕ, suc, ◌+◌, ◌<◌, ◌≤◌, Bool, true, false, cond, ◌&&◌, ◌||◌, ◌==◌, nat_lt, List, [], ◌∷◌, ◌++◌, refl, ap, ◌∙◌, sym, subst, length, drop, get_or, arith, MatchOption, Option, None, Some, map, append_assoc, append-nil, length-append, length-drop, IsUtf8, IsCharBoundary}
use Rattle.std.specs.Prelude.{encode_utf8, encode_utf8_all}
use Rattle.std.specs.List.{prefix_len, list_all}
use Rattle.std.proofs.lemmas.Bool.{true≢false, false≢true, and_parts, eqb-true, ltb-true}
use Rattle.std.proofs.lemmas.List.{map-append}
use Rattle.std.proofs.lemmas.Str.{length-encode, len_utf8_bounds, IsCharBoundary-after_ascii}
use Rattle.tc_model.specs.XmlTextBytes.{after_white, LiteralAt, length_before}
use Rattle.tc_model.specs.XmlTextNames as x
use Rattle.tc_model.specs.XmlTextNames.{NcNameAt, QualifiedName, QNameAt}
use Rattle.tc_model.specs.PathTextTokens.{Mark, Single, Double, singles, doubles, single_in, double_in, MarkAt, of_two, of_one, Token, name, all_of_prefix, mark, number, literal, variable, is_digit, begins_with_digit, begins_with_number, after_digits, after_fraction, EndsName, TokenAt, Tokens, no_more, one_more}
use Rattle.tc_model.specs.PathTextTokens as t
use Rattle.tc_model.proofs.XmlTextPhrases.{same_others, ncname_unique}
use Rattle.tc_model.proofs.PathTextLexing.{token_unique, no_token}
use Rattle.tc_base.specs.Characters.{is_white}
use Rattle.tc_path.specs.declared.token.Token.{Token as CodeToken}
use Rattle.tc_path.specs.Views.{token}
use Rattle.tc_path.specs.NameTokens.{NameTokenAt, unprefixed, prefixed, with_star, VariableAt}

some_none : {X : Type 0} {c : X} {o : Option X} → o ≡ Some c → o ≡ None → ⊥
some_none p q = cc

-- marks are ASCII, so a text may be cut behind one
single_ascii : {m : Mark} (xs : List Single) (a : ℕ) → list_all (λ x. nat_lt x.first 128) xs ≡ true → single_in xs a ≡ Some m → a < 128
single_ascii [] a h e = absurd (some_none e refl)
single_ascii {m} (x ∷ xs) a h e = by (a == x.first) refl (single_ascii xs a (and_parts (nat_lt x.first 128) (list_all (λ y. nat_lt y.first 128) xs) h).1)
  where
    by : (b : Bool) → (a == x.first) ≡ b → (single_in xs a ≡ Some m → a < 128) → a < 128
    by true f later = omega (arith, eqb-true a x.first f, ltb-true x.first 128 (and_parts (nat_lt x.first 128) (list_all (λ y. nat_lt y.first 128) xs) h).0)
    by false f later = later (sym (ap (λ b. cond b (Some x.mark) (single_in xs a)) f) ∙ e)

double_ascii : {m : Mark} (xs : List Double) (a b : ℕ) → list_all (λ x. nat_lt x.second 128) xs ≡ true → double_in xs a b ≡ Some m → b < 128
double_ascii [] a b h e = absurd (some_none e refl)
double_ascii {m} (x ∷ xs) a b h e = by (a == x.first && b == x.second) refl (double_ascii xs a b (and_parts (nat_lt x.second 128) (list_all (λ y. nat_lt y.second 128) xs) h).1)
  where
    by : (c : Bool) → (a == x.first && b == x.second) ≡ c → (double_in xs a b ≡ Some m → b < 128) → b < 128
    by true f later = omega (arith, eqb-true b x.second (and_parts (a == x.first) (b == x.second) f).1, ltb-true x.second 128 (and_parts (nat_lt x.second 128) (list_all (λ y. nat_lt y.second 128) xs) h).0)
    by false f later = later (sym (ap (λ c. cond c (Some x.mark) (double_in xs a b)) f) ∙ e)

pub cut_after_single : (text after : List ℕ) (a : ℕ) {m : Mark} → text ≡ a ∷ after → IsUtf8 text → single_in singles a ≡ Some m → IsCharBoundary text 1
cut_after_single text after a e u s =
    IsCharBoundary-after_ascii text 0 u (omega (arith, ap length e)) (omega (arith, ap (λ (w : List ℕ). get_or w 0 0) e, single_ascii singles a refl s))

pub cut_after_double : (text after : List ℕ) (a b : ℕ) {m : Mark} → text ≡ a ∷ b ∷ after → IsUtf8 text → double_in doubles a b ≡ Some m → IsCharBoundary text 2
cut_after_double text after a b e u s =
    IsCharBoundary-after_ascii text 1 u (omega (arith, ap length e)) (omega (arith, ap (λ (w : List ℕ). get_or w 1 0) e, double_ascii doubles a b refl s))

pub marked_twice : {text after : List ℕ} {m : Mark} → (a : ℕ) × (b : ℕ) × (text ≡ a ∷ b ∷ after) × (double_in doubles a b ≡ Some m) → MarkAt text m after
marked_twice {after = after} {m = m} (a, b, e, s) = subst (λ w. MarkAt w m after) (sym e) (of_two s)

pub marked_once : {text after : List ℕ} {m : Mark} → ((a b : ℕ) (r : List ℕ) → text ≡ a ∷ b ∷ r → double_in doubles a b ≡ None)
    → (a : ℕ) × (text ≡ a ∷ after) × (single_in singles a ≡ Some m) → MarkAt text m after
marked_once {after = after} {m = m} h (a, e, s) = subst (λ w. MarkAt w m after) (sym e) (of_one (λ b r f. h a b r (e ∙ ap (λ w. a ∷ w) f)) s)

pub not_marked : {text after : List ℕ} {m : Mark} → ((a b : ℕ) (r : List ℕ) → text ≡ a ∷ b ∷ r → double_in doubles a b ≡ None)
    → ((a : ℕ) (r : List ℕ) → text ≡ a ∷ r → single_in singles a ≡ None) → MarkAt text m after → ⊥
not_marked h k (of_two {a = a} {b = b} {after = r} e) = some_none e (h a b r refl)
not_marked h k (of_one {a = a} {after = r} l e) = some_none e (k a r refl)

-- tokens that begin with a name
pub name_alone : (text local after : List ℕ) → NcNameAt text local after → ((r : List ℕ) → after ≡ 0x3A ∷ r → ⊥) → NameTokenAt text (name (record { prefix = []; local = local })) after
name_alone text local after a h = unprefixed a (λ r e. absurd (h r e))

pub name_of_axis : (text local after behind : List ℕ) → NcNameAt text local after → after ≡ 0x3A ∷ behind → (r : List ℕ) × (behind ≡ 0x3A ∷ r)
    → NameTokenAt text (name (record { prefix = []; local = local })) after
name_of_axis text local after behind a e (s, f) = unprefixed a (λ r g. (s, same_others (sym g ∙ e) ∙ f))

pub name_with_star : (text prefix rest behind after : List ℕ) → NcNameAt text prefix rest → rest ≡ 0x3A ∷ behind → behind ≡ 0x2A ∷ after → NameTokenAt text (all_of_prefix prefix) after
name_with_star text prefix rest behind after a e f = with_star (subst (NcNameAt text prefix) (e ∙ ap (λ w. 0x3A ∷ w) f) a)

pub name_with_prefix : (text prefix rest behind local after : List ℕ) → NcNameAt text prefix rest → rest ≡ 0x3A ∷ behind → NcNameAt behind local after
    → NameTokenAt text (name (record { prefix = prefix; local = local })) after
name_with_prefix text prefix rest behind local after a e b = prefixed (subst (NcNameAt text prefix) e a) b

pub no_name_token : {text : List ℕ} → ((n r : List ℕ) → NcNameAt text n r → ⊥) → (t : Token) (after : List ℕ) → NameTokenAt text t after → ⊥
no_name_token h t after (unprefixed {local = n} {after = r} a e) = h n r a
no_name_token h t after (prefixed {prefix = n} {rest = r} a b) = h n (0x3A ∷ r) a
no_name_token h t after (with_star {prefix = n} {after = r} a) = h n (0x3A ∷ 0x2A ∷ r) a

pub no_local_part : (text first rest behind : List ℕ) → NcNameAt text first rest → rest ≡ 0x3A ∷ behind → ((r : List ℕ) → behind ≡ 0x3A ∷ [] ++ r → ⊥) → ((r : List ℕ) → behind ≡ 0x2A ∷ r → ⊥)
    → ((n r : List ℕ) → NcNameAt behind n r → ⊥) → (t : Token) (after : List ℕ) → NameTokenAt text t after → ⊥
no_local_part text first rest behind a e h k l t after (unprefixed b ends) =
    let (s, f) = ends behind ((ncname_unique b a).1 ∙ e) in h s f
no_local_part text first rest behind a e h k l t after (prefixed {local = n} {after = r} b c) =
    l n r (subst (λ w. NcNameAt w n r) (same_others ((ncname_unique b a).1 ∙ e)) c)
no_local_part text first rest behind a e h k l t after (with_star {after = r} b) =
    k r (sym (same_others ((ncname_unique b a).1 ∙ e)))

pub token_of_name : {text after : List ℕ} {t : Token} → NameTokenAt text t after → TokenAt text t after
token_of_name (unprefixed a e) = t.TokenAt.unprefixed a e
token_of_name (prefixed a b) = t.TokenAt.prefixed a b
token_of_name (with_star a) = t.TokenAt.with_star a

pub token_of_variable : {text after : List ℕ} → VariableAt text after → TokenAt text variable after
token_of_variable {after = after} v = subst (λ w. TokenAt w variable after) (sym v.opens) (t.TokenAt.a_variable v.named)

-- no token of any kind
pub no_token_here : {text : List ℕ} → begins_with_number text ≡ false → ((m : Mark) (r : List ℕ) → MarkAt text m r → ⊥) → ((v r : List ℕ) → LiteralAt text v r → ⊥)
    → ((r : List ℕ) → VariableAt text r → ⊥) → ((u : Token) (r : List ℕ) → NameTokenAt text u r → ⊥) → (u : Token) (after : List ℕ) → TokenAt text u after → ⊥
no_token_here n m l v k u after (t.TokenAt.unprefixed a e) = k u after (unprefixed a e)
no_token_here n m l v k u after (t.TokenAt.prefixed a b) = k u after (prefixed a b)
no_token_here n m l v k u after (t.TokenAt.with_star a) = k u after (with_star a)
no_token_here n m l v k u after (t.TokenAt.a_mark {m = s} f a) = m s after a
no_token_here n m l v k u after (t.TokenAt.a_number f) = true≢false (sym f ∙ n)
no_token_here n m l v k u after (t.TokenAt.a_literal {value = w} a) = l w after a
no_token_here n m l v k u after (t.TokenAt.a_variable {rest = r} {n = q} a) = v after (record { rest = r; variable = q; opens = refl; named = a })

-- what follows a token is shorter
name_shorter : {bs n r : List ℕ} → NcNameAt bs n r → length r < length bs
name_shorter {n = n} {r = r} a =
    let (d, ds, e, s, k) = a.lawful in
    omega (arith, ap length a.parts, length-append n r, ap length e, length-append (encode_utf8 d) (encode_utf8_all ds), length-encode d, len_utf8_bounds d)

qname_shorter : {bs r : List ℕ} {n : QualifiedName} → QNameAt bs n r → length r < length bs
qname_shorter (x.QNameAt.unprefixed a e) = name_shorter a
qname_shorter (x.QNameAt.prefixed {rest = r} a b) = omega (arith, name_shorter a, name_shorter b)

digits_shorter : (bs : List ℕ) → length (after_digits bs) ≤ length bs
digits_shorter bs = omega (arith, length-drop (prefix_len is_digit bs) bs)

fraction_shorter : (bs : List ℕ) → length (after_fraction bs) ≤ length bs
fraction_shorter [] = omega arith
fraction_shorter (b ∷ bs) = by (b == 0x2E)
  where
    by : (c : Bool) → length (cond c (after_digits bs) (b ∷ bs)) ≤ length (b ∷ bs)
    by true = omega (arith, digits_shorter bs)
    by false = omega arith

digit_gone : (b : ℕ) (bs : List ℕ) → is_digit b ≡ true → length (after_digits (b ∷ bs)) < length (b ∷ bs)
digit_gone b bs e =
    let count : prefix_len is_digit (b ∷ bs) ≡ suc (prefix_len is_digit bs) = ap (λ c. cond c (1 + prefix_len is_digit bs) 0) e ∙ omega arith in
    let same : length (after_digits (b ∷ bs)) ≡ length (after_digits bs) = ap (λ n. length (drop n (b ∷ bs))) count in
    omega (arith, same, digits_shorter bs)

number_shorter : (bs : List ℕ) → begins_with_number bs ≡ true → length (after_fraction (after_digits bs)) < length bs
number_shorter [] e = absurd (false≢true e)
number_shorter (b ∷ bs) e = by (is_digit b) refl
  where
    by : (c : Bool) → is_digit b ≡ c → length (after_fraction (after_digits (b ∷ bs))) < length (b ∷ bs)
    by true f = omega (arith, digit_gone b bs f, fraction_shorter (after_digits (b ∷ bs)))
    by false f =
        let g : (b == 0x2E && begins_with_digit bs) ≡ true = sym (ap (λ c. c || (b == 0x2E && begins_with_digit bs)) f) ∙ e in
        let point = (and_parts (b == 0x2E) (begins_with_digit bs) g).0 in
        let whole : after_digits (b ∷ bs) ≡ b ∷ bs = ap (λ c. drop (cond c (1 + prefix_len is_digit bs) 0) (b ∷ bs)) f in
        let rest : after_fraction (b ∷ bs) ≡ after_digits bs = ap (λ c. cond c (after_digits bs) (b ∷ bs)) point in
        omega (arith, ap length (ap after_fraction whole ∙ rest), digits_shorter bs)

pub white_shorter : (bs : List ℕ) → length (after_white bs) ≤ length bs
white_shorter bs = omega (arith, length-drop (prefix_len is_white bs) bs)

pub token_shorter : {bs after : List ℕ} {u : Token} → TokenAt bs u after → length after < length bs
token_shorter (t.TokenAt.unprefixed a e) = name_shorter a
token_shorter (t.TokenAt.prefixed a b) = omega (arith, name_shorter a, name_shorter b)
token_shorter (t.TokenAt.with_star a) = omega (arith, name_shorter a)
token_shorter (t.TokenAt.a_mark f (of_two e)) = omega arith
token_shorter (t.TokenAt.a_mark f (of_one l e)) = omega arith
token_shorter (t.TokenAt.a_number {bs = bs} f) = number_shorter bs f
token_shorter (t.TokenAt.a_literal {after = r} a) = omega (arith, ap length a.opens, ap length a.closes.back, length-drop (length_before (a.quote ∷ []) a.rest) a.rest)
token_shorter (t.TokenAt.a_variable a) = omega (arith, qname_shorter a)

-- the tokens so far: those of the rest make them the tokens of the text
pub record TokensSoFar (text : List ℕ) (ts : List Token) (rest : List ℕ) : Type 0 where
  pub forth : (us : List Token) → Tokens rest us → Tokens text (ts ++ us)
  pub back : (us : List Token) → Tokens text us → (vs : List Token) × Tokens rest vs

pub no_tokens_yet : (text : List ℕ) (found : List CodeToken) → found ≡ [] → TokensSoFar text (map token found) text
no_tokens_yet text found e = subst (λ w. TokensSoFar text (map token w) text) (sym e) (record { forth = λ us a. a; back = λ us a. (us, a) })

behind_token : {rest after : List ℕ} {u : Token} {vs : List Token} → TokenAt (after_white rest) u after → Tokens rest vs → (ws : List Token) × Tokens after ws
behind_token {after = after} {u = u} a (no_more e) = absurd (no_token (subst (λ w. TokenAt w u after) e a))
behind_token a (one_more {ts = ws} b c) = (ws, subst (λ w. Tokens w ws) (sym (token_unique a b).1) c)

pub token_behind : (text rest front after : List ℕ) (found more : List CodeToken) (x : CodeToken) → TokensSoFar text (map token found) rest → front ≡ after_white rest → TokenAt front (token x) after
    → more ≡ found ++ x ∷ [] → TokensSoFar text (map token more) after
token_behind text rest front after found more x so e a f = record {
  forth = λ us m.
      let is : map token found ++ token x ∷ us ≡ map token more ++ us =
      sym (append_assoc (map token found) (token x ∷ []) us) ∙ ap (λ w. w ++ us) (sym (ap (map token) f ∙ map-append token found (x ∷ []))) in
      subst (Tokens text) is (so.forth (token x ∷ us) (one_more at m));
  back = λ us m. let (vs, b) = so.back us m in behind_token at b;
}
  where
    at : TokenAt (after_white rest) (token x) after
    at = subst (λ w. TokenAt w (token x) after) e a

pub tokens_end : (text rest front : List ℕ) (found : List CodeToken) → TokensSoFar text (map token found) rest → front ≡ after_white rest → front ≡ [] → Tokens text (map token found)
tokens_end text rest front found so e f = subst (Tokens text) (append-nil (map token found)) (so.forth [] (no_more (sym e ∙ f)))

pub tokens_fail : (text rest front : List ℕ) (found : List CodeToken) → TokensSoFar text (map token found) rest → front ≡ after_white rest → front ≢ []
    → ((u : Token) (after : List ℕ) → TokenAt front u after → ⊥) → (ts : List Token) → Tokens text ts → ⊥
tokens_fail text rest front found so e f h ts a = let (vs, b) = so.back ts a in none b
  where
    none : {vs : List Token} → Tokens rest vs → ⊥
    none (no_more g) = f (e ∙ g)
    none (one_more {rest = r} {t = u} c d) = h u r (subst (λ w. TokenAt w u r) (sym e) c)

pub match_map : {X : Type 0} {P P' : Type 0} {Q Q' : X → Type 0} (o : Option X) → (P → P') → ((x : X) → Q x → Q' x) → MatchOption o P Q → MatchOption o P' Q'
match_map None f g h = f h
match_map (Some x) f g h = g x h

pub no_length : {X : Type 0} (xs : List X) → length xs ≡ 0 → xs ≡ []
no_length [] e = refl
no_length (x ∷ xs) e = absurd (omega arith)
