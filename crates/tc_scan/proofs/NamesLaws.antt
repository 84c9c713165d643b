-- Names at the front of a text, from their characters.
use Rattle.std.proofs.Common.{◌≡◌, ◌≢◌, ◌≤◌, ℕ, zero, suc, ◌+◌, ◌-◌, ◌<◌, Bool, true, false, cond, not, ◌&&◌, ◌||◌, ◌==◌, List, [], ◌∷◌, ◌++◌, refl, ap, ◌∙◌, sym, subst, length, take, drop, get_or, get_or-drop, length-drop, arith, Option, None, MatchOption, IsTrue, IsUtf8, IsCharBoundary, append_assoc, length-append, zero-add, zero-le, append-nil}
use Rattle.std.specs.Prelude.{encode_utf8, encode_utf8_all}
use Rattle.std.specs.Char.{len_utf8}
use Rattle.std.specs.List.{list_all, prefix_len}
use Rattle.std.proofs.lemmas.Bool.{true≢false, eqb-true, and_parts, and_from}
use Rattle.std.proofs.lemmas.Str.{encode_same, length-encode, len_utf8_bounds, IsCharBoundary-past_char, IsCharBoundary-at_seam, encodes-append, encode_ascii, char_from_byte}
use Rattle.std.proofs.lemmas.Bool.Decides.{nat_tests}
use Rattle.std.proofs.lemmas.List.Folds.{list_all-append}
use Rattle.std.proofs.lemmas.List.Sums.{prefix_len_stops}
use Rattle.tc_model.specs.Names.{is_ncname_start, is_ncname_char}
use Rattle.tc_model.specs.XmlTextNames.{NcNameAt, QualifiedName, QNameAt, unprefixed, prefixed}
use Rattle.tc_model.proofs.XmlTextPhrases.{same_others, ncname_unique}
use Rattle.tc_scan.specs.Names.{is_ascii_name_byte, GoesOn}

pub at_none : {X P : Type 0} (Q : X → Type 0) {o : Option X} → o ≡ None → P → MatchOption o P Q
at_none {X} {P} Q e p = subst (λ o. MatchOption o P Q) (sym e) p

-- a text may be cut behind its first character
pub cut_past_char : (a text rest : List ℕ) (c n : ℕ) → a ≡ text → a ≡ encode_utf8 c ++ rest → n ≡ len_utf8 c → IsUtf8 text → IsCharBoundary text n
cut_past_char a text rest c n e f g u =
    subst (IsCharBoundary text) (zero-add (len_utf8 c) ∙ sym g) (IsCharBoundary-past_char text rest 0 c zero-le u (sym e ∙ f))

front_char : {text n r : List ℕ} → NcNameAt text n r → (d : ℕ) × (rest : List ℕ) × (text ≡ encode_utf8 d ++ rest) × (is_ncname_start d ≡ true)
front_char {text} {n} {r} a =
    let (d, ds, e, s, k) = a.lawful in
    (d, encode_utf8_all ds ++ r, a.parts ∙ (ap (λ w. w ++ r) (sym e) ∙ append_assoc (encode_utf8 d) (encode_utf8_all ds) r), s)

pub none_at_end : (text : List ℕ) → text ≡ [] → (n r : List ℕ) → NcNameAt text n r → ⊥
none_at_end text e n r a =
    let (d, rest, is, s) = front_char a in
    omega (arith, ap length (sym e ∙ is), length-append (encode_utf8 d) rest, length-encode d, len_utf8_bounds d)

pub none_at : (text after : List ℕ) (c : ℕ) → text ≡ encode_utf8 c ++ after → is_ncname_start c ≡ false → (n r : List ℕ) → NcNameAt text n r → ⊥
none_at text after c e f n r a =
    let (d, rest, is, s) = front_char a in
    true≢false (sym s ∙ (ap is_ncname_start (encode_same d c rest after (sym is ∙ e)).0 ∙ f))

pub cut_at_rest : (text xs rest : List ℕ) (n : ℕ) → text ≡ xs ++ rest → IsUtf8 rest → n ≡ length text - length rest → IsCharBoundary text n
cut_at_rest text xs rest n e u f =
    subst (IsCharBoundary text) (omega (arith, ap length e, length-append xs rest)) (IsCharBoundary-at_seam text xs rest e u)

taken : (xs rest : List ℕ) → take (length xs) (xs ++ rest) ≡ xs
taken [] rest = refl
taken (x ∷ xs) rest = ap (λ w. x ∷ w) (taken xs rest)

pub ended_by_end : (rest : List ℕ) → rest ≡ [] → (d : ℕ) (r : List ℕ) → rest ≡ encode_utf8 d ++ r → IsTrue (is_ncname_char d) → ⊥
ended_by_end rest e d r is h = omega (arith, ap length (sym e ∙ is), length-append (encode_utf8 d) r, length-encode d, len_utf8_bounds d)

pub ended_by : (rest after : List ℕ) (c : ℕ) → rest ≡ encode_utf8 c ++ after → is_ncname_char c ≡ false → (d : ℕ) (r : List ℕ) → rest ≡ encode_utf8 d ++ r → IsTrue (is_ncname_char d) → ⊥
ended_by rest after c e f d r is h = true≢false (sym h ∙ (ap is_ncname_char (encode_same d c r after (sym is ∙ e)).0 ∙ f))

pub named : (text after rest name : List ℕ) (c : ℕ) (cs : List ℕ) (n : ℕ) → text ≡ encode_utf8 c ++ after → IsTrue (is_ncname_start c) → after ≡ encode_utf8_all cs ++ rest
    → IsTrue (list_all is_ncname_char cs) → ((d : ℕ) (r : List ℕ) → rest ≡ encode_utf8 d ++ r → IsTrue (is_ncname_char d) → ⊥)
    → n ≡ length text - length rest → name ≡ take n text → NcNameAt text name rest
named text after rest name c cs n e s f k stop g is =
    let whole : text ≡ encode_utf8_all (c ∷ cs) ++ rest = e ∙ (ap (λ w. encode_utf8 c ++ w) f ∙ sym (append_assoc (encode_utf8 c) (encode_utf8_all cs) rest)) in
    let len : n ≡ length (encode_utf8_all (c ∷ cs)) = omega (arith, ap length whole, length-append (encode_utf8_all (c ∷ cs)) rest) in
    let same : name ≡ encode_utf8_all (c ∷ cs) = is ∙ (ap (λ m. take m text) len ∙ (ap (take (length (encode_utf8_all (c ∷ cs)))) whole ∙ taken (encode_utf8_all (c ∷ cs)) rest)) in
    record {
      lawful = (c, cs, sym same, s, k);
      parts = whole ∙ ap (λ w. w ++ rest) (sym same);
      longest = stop;
    }

-- one more character of the name
pub one_more : (after rest next_rest : List ℕ) (d : ℕ) → GoesOn after rest → rest ≡ encode_utf8 d ++ next_rest
    → is_ncname_char d ≡ true → GoesOn after next_rest
one_more after rest next_rest d (cs, e, k) f h = (
  cs ++ d ∷ [],
  e ∙ (ap (λ w. encode_utf8_all cs ++ w) f ∙ (sym (append_assoc (encode_utf8_all cs) (encode_utf8 d) next_rest) ∙ ap (λ w. w ++ next_rest) (joined cs))),
  list_all-append is_ncname_char cs (d ∷ []) ∙ and_from (list_all is_ncname_char cs) (is_ncname_char d && true) k (and_from (is_ncname_char d) true h refl),
)
  where
    joined : (cs : List ℕ) → encode_utf8_all cs ++ encode_utf8 d ≡ encode_utf8_all (cs ++ d ∷ [])
    joined cs = ap (λ w. encode_utf8_all cs ++ w) (sym (append-nil (encode_utf8 d))) ∙ sym (encodes-append cs (d ∷ []))

pub no_local : (text first rest behind : List ℕ) → NcNameAt text first rest → rest ≡ 0x3A ∷ behind → ((n a : List ℕ) → NcNameAt behind n a → ⊥)
    → (name : QualifiedName) (after : List ℕ) → QNameAt text name after → ⊥
no_local text first rest behind a e h name after (unprefixed b ends) = ends behind ((ncname_unique b a).1 ∙ e)
no_local text first rest behind a e h name after (prefixed {local = l} b c) =
    h l after (subst (λ w. NcNameAt w l after) (same_others ((ncname_unique b a).1 ∙ e)) c)

shorter : (rest after : List ℕ) (c : ℕ) → rest ≡ encode_utf8 c ++ after → length after < length rest
shorter rest after c e = omega (arith, ap length e, length-append (encode_utf8 c) after, length-encode c, len_utf8_bounds c)

pub cut_name : (text after rest : List ℕ) (c : ℕ) → text ≡ encode_utf8 c ++ after → GoesOn after rest → IsUtf8 rest
    → IsCharBoundary text (length text - length rest)
cut_name text after rest c e (cs, f, k) u =
    cut_at_rest text (encode_utf8_all (c ∷ cs)) rest (length text - length rest)
    (e ∙ (ap (λ w. encode_utf8 c ++ w) f ∙ sym (append_assoc (encode_utf8 c) (encode_utf8_all cs) rest))) u refl

-- the characters of ASCII that names hold
-- a test that each number below a bound passes
abbrev passes_below : (ℕ → Bool) → ℕ → Bool
passes_below p zero = true
passes_below p (suc n) = p n && passes_below p n

passes_at : (p : ℕ → Bool) (n k : ℕ) → passes_below p n ≡ true → k < n → p k ≡ true
passes_at p zero k h l = absurd (omega arith)
passes_at p (suc n) k h l = by (k == n) refl (and_parts (p n) (passes_below p n) h) (passes_at p n k (and_parts (p n) (passes_below p n) h).1)
  where
    by : (x : Bool) → (k == n) ≡ x → (p n ≡ true) × (passes_below p n ≡ true) → (k < n → p k ≡ true) → p k ≡ true
    by true e both below = subst (λ m. p m ≡ true) (sym (eqb-true k n e)) both.0
    by false e both below = below (grind (arith, nat_tests))

name_byte : (b : ℕ) → is_ascii_name_byte b ≡ true → (b < 128) × (is_ncname_char b ≡ true)
name_byte b h =
    let small : b < 128 = grind (arith, nat_tests) in
    let test : ℕ → Bool = λ c. not (is_ascii_name_byte c) || is_ncname_char c in
    (small, ap (λ x. not x || is_ncname_char b) (sym h) ∙ passes_at test 128 b refl small)

pub name_byte_ascii : (b : ℕ) → is_ascii_name_byte b ≡ true → b < 128
name_byte_ascii b h = (name_byte b h).0

front_goes_on : (bs : List ℕ) → GoesOn bs (drop (prefix_len is_ascii_name_byte bs) bs)
front_goes_on [] = ([], refl, refl)
front_goes_on (b ∷ bs) = by (is_ascii_name_byte b) refl (front_goes_on bs)
  where
    by : (x : Bool) → is_ascii_name_byte b ≡ x → GoesOn bs (drop (prefix_len is_ascii_name_byte bs) bs) → GoesOn (b ∷ bs) (drop (prefix_len is_ascii_name_byte (b ∷ bs)) (b ∷ bs))
    by true e (cs, f, k) =
        let len : suc (prefix_len is_ascii_name_byte bs) ≡ prefix_len is_ascii_name_byte (b ∷ bs) = omega arith ∙ ap (λ x. cond x (1 + prefix_len is_ascii_name_byte bs) 0) (sym e) in
        let (small, lawful) = name_byte b e in
        let whole : b ∷ bs ≡ encode_utf8 b ++ (encode_utf8_all cs ++ drop (prefix_len is_ascii_name_byte bs) bs) =
        ap (λ w. b ∷ w) f ∙ ap (λ w. w ++ (encode_utf8_all cs ++ drop (prefix_len is_ascii_name_byte bs) bs)) (sym (encode_ascii b small)) in
        subst (λ n. GoesOn (b ∷ bs) (drop n (b ∷ bs))) len
        (b ∷ cs, whole ∙ sym (append_assoc (encode_utf8 b) (encode_utf8_all cs) (drop (prefix_len is_ascii_name_byte bs) bs)), and_from (is_ncname_char b) (list_all is_ncname_char cs) lawful k)
    by false e more =
        let len : 0 ≡ prefix_len is_ascii_name_byte (b ∷ bs) = ap (λ x. cond x (1 + prefix_len is_ascii_name_byte bs) 0) (sym e) in
        subst (λ n. GoesOn (b ∷ bs) (drop n (b ∷ bs))) len ([], refl, refl)

pub goes_on_ascii : (bs : List ℕ) (n : ℕ) (rest : List ℕ) → n ≡ prefix_len is_ascii_name_byte bs → rest ≡ drop n bs → GoesOn bs rest
goes_on_ascii bs n rest e f = subst (GoesOn bs) (ap (λ k. drop k bs) (sym e) ∙ sym f) (front_goes_on bs)

-- one part of a name after another
pub goes_further : (bs mid rest : List ℕ) → GoesOn bs mid → GoesOn mid rest → GoesOn bs rest
goes_further bs mid rest (cs, e, h) (ds, f, k) = (
  cs ++ ds,
  e ∙ (ap (λ w. encode_utf8_all cs ++ w) f ∙ (sym (append_assoc (encode_utf8_all cs) (encode_utf8_all ds) rest) ∙ ap (λ w. w ++ rest) (sym (encodes-append cs ds)))),
  list_all-append is_ncname_char cs ds ∙ and_from (list_all is_ncname_char cs) (list_all is_ncname_char ds) h k,
)

pub shortens : (bs mid rest : List ℕ) (c : ℕ) → bs ≡ encode_utf8 c ++ mid → GoesOn mid rest → length rest < length bs
shortens bs mid rest c e (cs, f, h) = omega (arith, shorter bs mid c e, ap length f, length-append (encode_utf8_all cs) rest)

-- a byte of ASCII that is none of those ends a name
other_byte : (b : ℕ) → b < 128 → is_ascii_name_byte b ≡ false → is_ncname_char b ≡ false
other_byte b small h = by (is_ncname_char b) (ap (λ x. x || not (is_ncname_char b)) (sym h) ∙ passes_at (λ c. is_ascii_name_byte c || not (is_ncname_char c)) 128 b refl small)
  where
    by : (x : Bool) → not x ≡ true → x ≡ false
    by true e = sym e
    by false e = refl

ends_here : (text rest : List ℕ) (n : ℕ) → n ≡ prefix_len is_ascii_name_byte text → n < length text → get_or text n 0 < 128 → rest ≡ drop n text
    → (d : ℕ) (r : List ℕ) → rest ≡ encode_utf8 d ++ r → IsTrue (is_ncname_char d) → ⊥
ends_here text rest n e l a g d r is h =
    let first : get_or rest 0 0 ≡ get_or text n 0 = ap (λ w. get_or w 0 0) g ∙ (get_or-drop n text 0 0 ∙ ap (λ k. get_or text k 0) (omega arith)) in
    let same : d ≡ get_or rest 0 0 = char_from_byte rest r d is (omega (arith, first)) (omega (arith, ap length g, length-drop n text)) in
    let other : is_ascii_name_byte (get_or text n 0) ≡ false = ap (λ k. is_ascii_name_byte (get_or text k 0)) e ∙ prefix_len_stops is_ascii_name_byte text 0 (omega (arith, e)) in
    true≢false (sym h ∙ (ap is_ncname_char (same ∙ first) ∙ other_byte (get_or text n 0) a other))

pub ascii_named : (text name rest : List ℕ) (n : ℕ) → n ≡ prefix_len is_ascii_name_byte text → n ≢ 0 → n < length text → get_or text n 0 < 128 → is_ncname_start (get_or text 0 0) ≡ true
    → name ≡ take n text → rest ≡ drop n text → NcNameAt text name rest
ascii_named [] name rest n e some l a s f g = absurd (omega arith)
ascii_named (x ∷ xs) name rest n e some l a s f g = by (is_ascii_name_byte x) refl
  where
    by : (t : Bool) → is_ascii_name_byte x ≡ t → NcNameAt (x ∷ xs) name rest
    by false h = absurd (some (e ∙ ap (λ t. cond t (1 + prefix_len is_ascii_name_byte xs) 0) h))
    by true h =
        let (small, lawful) = name_byte x h in
        let (cs, whole, k) = front_goes_on xs in
        let len : n ≡ suc (prefix_len is_ascii_name_byte xs) = e ∙ (ap (λ t. cond t (1 + prefix_len is_ascii_name_byte xs) 0) h ∙ omega arith) in
        let behind : rest ≡ drop (prefix_len is_ascii_name_byte xs) xs = g ∙ ap (λ m. drop m (x ∷ xs)) len in
        named (x ∷ xs) xs rest name x cs n (ap (λ w. w ++ xs) (sym (encode_ascii x small))) s (whole ∙ ap (λ w. encode_utf8_all cs ++ w) (sym behind)) k
        (ends_here (x ∷ xs) rest n e l a g) (omega (arith, ap length g, length-drop n (x ∷ xs), l)) f

pub cut_before : (text : List ℕ) (n : ℕ) → n < length text → get_or text n 0 < 128 → (n ≤ length text) × (n < length text → 128 ≤ get_or text n 0 → 192 ≤ get_or text n 0)
cut_before text n l a = (omega arith, λ _ h. absurd (omega arith))
