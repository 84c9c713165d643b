-- References, runs of digits and line ends.
use Rattle.std.proofs.Common.{◌≡◌, ℕ, zero, suc, ltb, ◌+◌, ◌*◌, ◌^◌, ◌<◌, ◌≤◌, Bool, true, false, cond, List, [], ◌∷◌, ◌++◌, refl, ap, ◌∙◌, sym, subst, length, take, drop, get_or, arith, Option, None, Some, IsTrue, IsUtf8, IsCharBoundary, bytes_eq}
use Rattle.std.specs.Prelude.{encode_utf8, encode_utf8_all, codes}
use Rattle.std.specs.Char.{digit_value}
use Rattle.std.specs.List.{list_all, prefix_len}
use Rattle.std.specs.Str.Parse.{digits_value, digits_value_after, AllDigits}
use Rattle.std.proofs.Math.Nat.{le-mul_of_pos_right, mul-le-mul}
use Rattle.std.proofs.lemmas.Bool.{true≢false, and_parts}
use Rattle.std.proofs.lemmas.Bool.Decides.{nat_tests}
use Rattle.std.proofs.lemmas.List.{drop_more, drop_all}
use Rattle.std.proofs.lemmas.List.Sums.{prefix_len_passes, prefix_len-le-length}
use Rattle.std.proofs.lemmas.Str.{IsCharBoundary-after_ascii, IsCharBoundary-start, encode_ascii, char_from_byte}
use Rattle.tc_base.specs.Characters.{is_char}
use Rattle.tc_model.specs.Names.{IsNcName, is_ncname_char}
use Rattle.tc_model.specs.XmlTextBytes.{RunAt}
use Rattle.tc_model.specs.XmlTextNames.{NcNameAt}
use Rattle.tc_model.specs.XmlTextReferences.{is_digit, predefined, EntityAt, ReferenceAt, decimal, hexadecimal, entity, other}
use Rattle.tc_model.proofs.XmlTextPhrases.{same_others, run_unless, no_name, ncname_unique}
use Rattle.tc_model.specs.XmlTextRefusals.{OtherEntityAt}
use borrow.Author.Tests.{ltb-true}

-- the numbers that digits write
pub digits_value_after_grows : (base n : ℕ) (ds : List ℕ) → 0 < base → n ≤ digits_value_after base n ds
digits_value_after_grows base n [] h = omega arith
digits_value_after_grows base n (d ∷ ds) h =
    let more = digits_value_after_grows base (n * base + digit_value d) ds h in
    let here : n ≤ n * base = le-mul_of_pos_right n h in
    omega (arith, more, here)

pub char_at_most : (c : ℕ) → is_char c ≡ true → c ≤ 0x10FFFF
char_at_most c h = grind (arith, nat_tests)

pub too_large : (base n : ℕ) (rest ds : List ℕ) → 0 < base → digits_value_after base n rest ≡ digits_value base ds → 0x10FFFF < n → IsTrue (is_char (digits_value base ds)) → ⊥
too_large base n rest ds l e h k =
    let most = char_at_most (digits_value base ds) k in
    let grows = digits_value_after_grows base n rest l in
    omega (arith, most, grows, e, h)

digit_ascii : (base b : ℕ) → base ≤ 16 → is_digit base b ≡ true → b < 128
digit_ascii base b l h = grind (arith, nat_tests)

pub cut_after_digits : (base n : ℕ) (bs : List ℕ) → base ≤ 16 → n ≡ prefix_len (is_digit base) bs → IsUtf8 bs → IsCharBoundary bs n
cut_after_digits base n bs l same u = subst (IsCharBoundary bs) (sym same) (by (prefix_len (is_digit base) bs) refl)
  where
    by : (m : ℕ) → prefix_len (is_digit base) bs ≡ m → IsCharBoundary bs (prefix_len (is_digit base) bs)
    by zero e = subst (IsCharBoundary bs) (sym e) (IsCharBoundary-start bs u)
    by (suc m) e =
        let within : m < length bs = omega (arith, prefix_len-le-length (is_digit base) bs) in
        let ascii = digit_ascii base (get_or bs m 0) l (prefix_len_passes (is_digit base) bs m 0 (omega arith)) in
        let next : m + 1 ≡ prefix_len (is_digit base) bs = omega arith in
        subst (IsCharBoundary bs) next (IsCharBoundary-after_ascii bs m u within ascii)

digits_front : (base : ℕ) (bs : List ℕ) → AllDigits base (take (prefix_len (is_digit base) bs) bs)
digits_front base [] = tt
digits_front base (b ∷ bs) = by (is_digit base b) refl (digits_front base bs)
  where
    by : (x : Bool) → is_digit base b ≡ x → AllDigits base (take (prefix_len (is_digit base) bs) bs) → AllDigits base (take (prefix_len (is_digit base) (b ∷ bs)) (b ∷ bs))
    by true e more =
        let len : suc (prefix_len (is_digit base) bs) ≡ prefix_len (is_digit base) (b ∷ bs) = omega arith ∙ ap (λ x. cond x (1 + prefix_len (is_digit base) bs) 0) (sym e) in
        subst (λ n. AllDigits base (take n (b ∷ bs))) len (ltb-true (digit_value b) base e, more)
    by false e more =
        let len : 0 ≡ prefix_len (is_digit base) (b ∷ bs) = ap (λ x. cond x (1 + prefix_len (is_digit base) bs) 0) (sym e) in
        subst (λ n. AllDigits base (take n (b ∷ bs))) len tt

pub all_digits : (base n : ℕ) (bs ds : List ℕ) → n ≡ prefix_len (is_digit base) bs → ds ≡ take n bs → AllDigits base ds
all_digits base n bs ds e f = subst (AllDigits base) (ap (λ k. take k bs) (sym e) ∙ sym f) (digits_front base bs)

-- what stands behind the `&` of a reference
data Body (others : Bool) (body after : List ℕ) : Type 0 where
  decimal_body : {rest digits : List ℕ} → body ≡ 0x23 ∷ rest → RunAt (is_digit 10) rest digits (0x3B ∷ after) → IsTrue (is_char (digits_value 10 digits)) → Body others body after
  hexadecimal_body : {rest digits : List ℕ} → body ≡ 0x23 ∷ 0x78 ∷ rest → RunAt (is_digit 16) rest digits (0x3B ∷ after) → IsTrue (is_char (digits_value 16 digits)) → Body others body after
  entity_body : {name : List ℕ} → NcNameAt body name (0x3B ∷ after) → (predefined name ≡ None → IsTrue others) → Body others body after

some_same : {c d : ℕ} → Some c ≡ Some d → c ≡ d
some_same e = cc

some_none : {c : ℕ} {o : Option ℕ} → o ≡ Some c → o ≡ None → ⊥
some_none p q = cc

body_of : {o : Bool} {text s after : List ℕ} (body : List ℕ) → text ≡ 0x26 ∷ body → ReferenceAt o text s after → Body o body after
body_of body e (decimal a h) = decimal_body (same_others (sym e)) a h
body_of body e (hexadecimal a h) = hexadecimal_body (same_others (sym e)) a h
body_of {after = after} body e (entity {name = name} a p) =
    entity_body (subst (λ w. NcNameAt w name (0x3B ∷ after)) (same_others (sym a.opens ∙ e)) a.names) (λ q. absurd (some_none p q))
body_of {after = after} body e (other {name = name} h a p) = entity_body (subst (λ w. NcNameAt w name (0x3B ∷ after)) (same_others (sym a.opens ∙ e)) a.names) (λ q. h)

no_hash_name : {body rest name after : List ℕ} → body ≡ 0x23 ∷ rest → NcNameAt body name after → ⊥
no_hash_name {name = name} {after = after} e a = no_name 0x23 (omega arith) refl (subst (λ w. NcNameAt w name after) e a)

pub no_hexadecimal : {o : Bool} (text body digits : List ℕ) → text ≡ 0x26 ∷ body → body ≡ codes "#x" ++ digits
    → ((ds after : List ℕ) → RunAt (is_digit 16) digits ds (0x3B ∷ after) → IsTrue (is_char (digits_value 16 ds)) → ⊥)
    → (s after : List ℕ) → ReferenceAt o text s after → ⊥
no_hexadecimal {o} text body digits e f h s after r = by (body_of body e r)
  where
    by : Body o body after → ⊥
    by (decimal_body {digits = ds} g a k) = run_unless 0x78 refl (subst (λ w. RunAt (is_digit 10) w ds (0x3B ∷ after)) (same_others (sym g ∙ f)) a)
    by (hexadecimal_body {digits = ds} g a k) = h ds after (subst (λ w. RunAt (is_digit 16) w ds (0x3B ∷ after)) (same_others (same_others (sym g ∙ f))) a) k
    by (entity_body a k) = no_hash_name f a

pub no_decimal : {o : Bool} (text body digits : List ℕ) → text ≡ 0x26 ∷ body → body ≡ codes "#" ++ digits → ((r : List ℕ) → body ≡ codes "#x" ++ r → ⊥)
    → ((ds after : List ℕ) → RunAt (is_digit 10) digits ds (0x3B ∷ after) → IsTrue (is_char (digits_value 10 ds)) → ⊥)
    → (s after : List ℕ) → ReferenceAt o text s after → ⊥
no_decimal {o} text body digits e f x h s after r = by (body_of body e r)
  where
    by : Body o body after → ⊥
    by (decimal_body {digits = ds} g a k) = h ds after (subst (λ w. RunAt (is_digit 10) w ds (0x3B ∷ after)) (same_others (sym g ∙ f)) a) k
    by (hexadecimal_body {rest = rest} g a k) = x rest g
    by (entity_body a k) = no_hash_name f a

pub no_semicolon : {o : Bool} (text body name rest : List ℕ) → text ≡ 0x26 ∷ body → ((r : List ℕ) → body ≡ codes "#" ++ r → ⊥) → NcNameAt body name rest
    → ((r : List ℕ) → rest ≡ 0x3B ∷ r → ⊥) → (s after : List ℕ) → ReferenceAt o text s after → ⊥
no_semicolon {o} text body name rest e x n h s after r = by (body_of body e r)
  where
    by : Body o body after → ⊥
    by (decimal_body {rest = rest} g a k) = x rest g
    by (hexadecimal_body {rest = rest} g a k) = x (0x78 ∷ rest) g
    by (entity_body a k) = h after (ncname_unique n a).1

pub is_hexadecimal : (text body digits after : List ℕ) (c : ℕ) → text ≡ 0x26 ∷ body → body ≡ codes "#x" ++ digits
    → ((ds : List ℕ) × RunAt (is_digit 16) digits ds (0x3B ∷ after) × (c ≡ digits_value 16 ds) × IsTrue (is_char c)) → ReferenceAt false text (encode_utf8 c) after
is_hexadecimal text body digits after c e f (ds, run, is, k) =
    subst (λ w. ReferenceAt false w (encode_utf8 c) after) (sym (e ∙ ap (λ w. 0x26 ∷ w) f))
    (subst (λ x. ReferenceAt false (codes "&#x" ++ digits) (encode_utf8 x) after) (sym is) (hexadecimal run (subst (λ x. IsTrue (is_char x)) is k)))

pub is_decimal : (text body digits after : List ℕ) (c : ℕ) → text ≡ 0x26 ∷ body → body ≡ codes "#" ++ digits
    → ((ds : List ℕ) × RunAt (is_digit 10) digits ds (0x3B ∷ after) × (c ≡ digits_value 10 ds) × IsTrue (is_char c)) → ReferenceAt false text (encode_utf8 c) after
is_decimal text body digits after c e f (ds, run, is, k) =
    subst (λ w. ReferenceAt false w (encode_utf8 c) after) (sym (e ∙ ap (λ w. 0x26 ∷ w) f))
    (subst (λ x. ReferenceAt false (codes "&#" ++ digits) (encode_utf8 x) after) (sym is) (decimal run (subst (λ x. IsTrue (is_char x)) is k)))

entity_at : (text body name rest after : List ℕ) → text ≡ 0x26 ∷ body → NcNameAt body name rest → rest ≡ 0x3B ∷ after → EntityAt text name after
entity_at text body name rest after e n f = record { rest = body; opens = e; names = subst (NcNameAt body name) f n }

predefined_ascii : (name : List ℕ) (c : ℕ) → predefined name ≡ Some c → encode_utf8 c ≡ c ∷ []
predefined_ascii name c e = by (bytes_eq name (codes "lt")) (bytes_eq name (codes "gt")) (bytes_eq name (codes "amp")) (bytes_eq name (codes "apos")) (bytes_eq name (codes "quot")) e
  where
    same : (d : ℕ) → encode_utf8 d ≡ d ∷ [] → Some d ≡ Some c → encode_utf8 c ≡ c ∷ []
    same d is f = subst (λ x. encode_utf8 x ≡ x ∷ []) (some_same f) is

    by : (lt gt amp apos quot : Bool) → cond lt (Some 0x3C) (cond gt (Some 0x3E) (cond amp (Some 0x26) (cond apos (Some 0x27) (cond quot (Some 0x22) None)))) ≡ Some c → encode_utf8 c ≡ c ∷ []
    by true gt amp apos quot f = same 0x3C (encode_ascii 0x3C (omega arith)) f
    by false true amp apos quot f = same 0x3E (encode_ascii 0x3E (omega arith)) f
    by false false true apos quot f = same 0x26 (encode_ascii 0x26 (omega arith)) f
    by false false false true quot f = same 0x27 (encode_ascii 0x27 (omega arith)) f
    by false false false false true f = same 0x22 (encode_ascii 0x22 (omega arith)) f
    by false false false false false f = absurd (some_none refl (sym f))

pub is_entity : (text body name rest after : List ℕ) (c : ℕ) → text ≡ 0x26 ∷ body → NcNameAt body name rest → rest ≡ 0x3B ∷ after → predefined name ≡ Some c → ReferenceAt false text (encode_utf8 c) after
is_entity text body name rest after c e n f p =
    subst (λ s. ReferenceAt false text s after) (sym (predefined_ascii name c p)) (entity (entity_at text body name rest after e n f) p)

pub other_entity : (text body name rest after : List ℕ) → text ≡ 0x26 ∷ body → NcNameAt body name rest → rest ≡ 0x3B ∷ after → predefined name ≡ None → OtherEntityAt text
other_entity text body name rest after e n f p = record { name = name; after = after; refers = entity_at text body name rest after e n f; not_predefined = p }

-- one digit more
pub number_goes_on : (base number d i : ℕ) (digits items : List ℕ) → i < length items → items ≡ digits → d ≡ digit_value (get_or items i 0)
    → digits_value_after base number (drop i digits) ≡ digits_value base digits → digits_value_after base (number * base + d) (drop (i + 1) digits) ≡ digits_value base digits
number_goes_on base number d i digits items l same is v =
    let here : d ≡ digit_value (get_or digits i 0) = is ∙ ap (λ w. digit_value (get_or w i 0)) same in
    ap (λ x. digits_value_after base (number * base + x) (drop (i + 1) digits)) here ∙ (ap (digits_value_after base number) (sym (drop_more digits i 0 (subst (λ w. i < length w) same l))) ∙ v)

pub digits_left : (base i : ℕ) (digits items : List ℕ) → i < length items → items ≡ digits → AllDigits base (drop i digits) → AllDigits base (drop (i + 1) digits)
digits_left base i digits items l same all = (subst (λ w. AllDigits base w) (drop_more digits i 0 (subst (λ w. i < length w) same l)) all).1

pub digit_here : (base i : ℕ) (digits items : List ℕ) → i < length items → items ≡ digits → AllDigits base (drop i digits) → digit_value (get_or items i 0) < base
digit_here base i digits items l same all =
    subst (λ w. digit_value (get_or w i 0) < base) (sym same) (subst (λ w. AllDigits base w) (drop_more digits i 0 (subst (λ w. i < length w) same l)) all).0

-- the number after the last digit
pub number_whole : (base number i : ℕ) (digits items : List ℕ) → items ≡ digits → length items ≤ i → digits_value_after base number (drop i digits) ≡ digits_value base digits → number ≡ digits_value base digits
number_whole base number i digits items same end v = sym (ap (digits_value_after base number) (drop_all i digits (subst (λ w. length w ≤ i) same end))) ∙ v

-- a number that XML can have, and a digit more, fit
pub number_fits : (number base : ℕ) → number ≤ 0x10FFFF → base ≤ 16 → number * base < 2 ^ 32
number_fits number base low small = omega (arith, mul-le-mul low small)

pub longer_fits : (number base d v : ℕ) → number ≤ 0x10FFFF → base ≤ 16 → v < base → d ≡ v → number * base + d < 2 ^ 32
longer_fits number base d v low small below is = omega (arith, mul-le-mul low small)

-- the digits so far are too many
pub number_too_large : (base number d i : ℕ) (digits items : List ℕ) → (2 ≤ base) × (base ≤ 16) → i < length items → items ≡ digits → d ≡ digit_value (get_or items i 0)
    → digits_value_after base number (drop i digits) ≡ digits_value base digits → 0x10FFFF < number * base + d → IsTrue (is_char (digits_value base digits)) → ⊥
number_too_large base number d i digits items b l same is v h =
    too_large base (number * base + d) (drop (i + 1) digits) digits (omega arith) (number_goes_on base number d i digits items l same is v) h

-- the three that texts have
encodes_ascii : (bs : List ℕ) → list_all (λ b. ltb b 128) bs ≡ true → encode_utf8_all bs ≡ bs
encodes_ascii [] e = refl
encodes_ascii (b ∷ bs) e =
    let (x, y) = and_parts (ltb b 128) (list_all (λ b. ltb b 128) bs) e in
    ap (λ w. w ++ encode_utf8_all bs) (encode_ascii b (ltb-true b 128 x)) ∙ ap (λ w. b ∷ w) (encodes_ascii bs y)

semicolon : (after : List ℕ) (c : ℕ) (r : List ℕ) → 0x3B ∷ after ≡ encode_utf8 c ++ r → IsTrue (is_ncname_char c) → ⊥
semicolon after c r e h =
    let same : c ≡ 0x3B = char_from_byte (0x3B ∷ after) r c e (omega arith) (omega arith) in
    true≢false (sym h ∙ ap is_ncname_char same)

common : (c first : ℕ) (name text after : List ℕ) → c < 128 → IsNcName (first ∷ name) → predefined (first ∷ name) ≡ Some c → text ≡ 0x26 ∷ first ∷ name ++ 0x3B ∷ after → ReferenceAt false text (encode_utf8 c) after
common c first name text after l lawful is e =
    subst (λ s. ReferenceAt false text s after) (sym (encode_ascii c l))
    (entity (record { rest = first ∷ name ++ 0x3B ∷ after; opens = e; names = record { lawful = lawful; parts = refl; longest = semicolon after } }) is)

pub amp_at : (text after : List ℕ) → text ≡ codes "&amp;" ++ after → ReferenceAt false text (encode_utf8 38) after
amp_at text after e = common 38 0x61 (codes "mp") text after (omega arith) (0x61, codes "mp", encodes_ascii (codes "amp") refl, refl, refl) refl e

pub lt_at : (text after : List ℕ) → text ≡ codes "&lt;" ++ after → ReferenceAt false text (encode_utf8 60) after
lt_at text after e = common 60 0x6C (codes "t") text after (omega arith) (0x6C, codes "t", encodes_ascii (codes "lt") refl, refl, refl) refl e

pub gt_at : (text after : List ℕ) → text ≡ codes "&gt;" ++ after → ReferenceAt false text (encode_utf8 62) after
gt_at text after e = common 62 0x67 (codes "t") text after (omega arith) (0x67, codes "t", encodes_ascii (codes "gt") refl, refl, refl) refl e
