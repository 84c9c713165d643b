-- Texts whose bytes show that they are lawful.
use lib.Utf8.{encode, encodes, scalar, scalars, scalar_cases}
use Rattle.std.proofs.Common.{◌≡◌, ◌<◌, ◌≤◌, ◌⊎◌, ◌↔◌, inl, inr, ℕ, List, [], ◌∷◌, true, IsTrue, IsUtf8, chars, refl, sym, ◌∙◌, subst, arith}
use Rattle.std.specs.List.{list_all}
use Rattle.std.proofs.lemmas.Bool.{cases_lt, true≢false, and_parts, and_from}
use Rattle.std.proofs.lemmas.Bool.Decides.{nat_tests}
use Rattle.std.proofs.lemmas.List.Folds.{list_all-append}
use Rattle.std.proofs.lemmas.Str.{encode_ascii, encodes-chars, encodes_same, scalars-chars}
use Rattle.tc_base.specs.Characters.{is_char}
use Rattle.tc_model.specs.Names.{IsChars}
use Rattle.tc_scan.specs.Chars.{is_start_of_chars_only}

ascii_char : (c : ℕ) → is_start_of_chars_only c ≡ true → c < 128 → is_char c ≡ true
ascii_char c h low = grind (arith, nat_tests)

low_char : (c : ℕ) → 128 ≤ c → c < 55296 → is_char c ≡ true
low_char c high low = grind (arith, nat_tests)

high_char : (c : ℕ) → 57344 ≤ c → c < 1114112 → (c ≡ 65534 → ⊥) → (c ≡ 65535 → ⊥) → is_char c ≡ true
high_char c low high a b = grind (arith, nat_tests)

no_noncharacter : (c : ℕ) → list_all is_start_of_chars_only (encode c) ≡ true → (c ≡ 65534 → ⊥) × (c ≡ 65535 → ⊥)
unfolding encode
no_noncharacter c h =
    (λ e. true≢false (sym (subst (λ w. list_all is_start_of_chars_only (encode w) ≡ true) e h)), λ e. true≢false (sym (subst (λ w. list_all is_start_of_chars_only (encode w) ≡ true) e h)))

plain_char : (c : ℕ) → scalar c ≡ true → list_all is_start_of_chars_only (encode c) ≡ true → is_char c ≡ true
plain_char c s h = by (cases_lt c 128)
  where
    of : 128 ≤ c → (c < 55296) ⊎ ((57344 ≤ c) × (c < 1114112)) → is_char c ≡ true
    of high (inl l) = low_char c high l
    of high (inr r) = let (a, b) = no_noncharacter c h in high_char c r.0 r.1 a b

    by : (c < 128) ⊎ (128 ≤ c) → is_char c ≡ true
    by (inl low) = ascii_char c (and_parts (is_start_of_chars_only c) true (subst (λ w. list_all is_start_of_chars_only w ≡ true) (encode_ascii c low) h)).0 low
    by (inr high) = of high (scalar_cases c s)

plain_chars : (cs : List ℕ) → scalars cs ≡ true → list_all is_start_of_chars_only (encodes cs) ≡ true → list_all is_char cs ≡ true
plain_chars [] s h = refl
plain_chars (c ∷ cs) s h =
    let (one, others) = and_parts (scalar c) (scalars cs) s in
    let (here, more) = and_parts (list_all is_start_of_chars_only (encode c)) (list_all is_start_of_chars_only (encodes cs)) (sym (list_all-append is_start_of_chars_only (encode c) (encodes cs)) ∙ h) in
    and_from (is_char c) (list_all is_char cs) (plain_char c one here) (plain_chars cs others more)

-- a text of plain bytes has lawful characters alone
pub plain_text : (bs : List ℕ) → IsUtf8 bs → list_all is_start_of_chars_only bs ≡ true → IsChars bs
plain_text bs u h = (chars bs, encodes-chars bs u, plain_chars (chars bs) (scalars-chars bs u) (subst (λ w. list_all is_start_of_chars_only w ≡ true) (sym (encodes-chars bs u)) h))

-- the characters of a text are lawful exactly where they all pass
pub chars_told : (bs : List ℕ) → IsUtf8 bs → IsTrue (list_all is_char (chars bs)) ↔ IsChars bs
chars_told bs u = (λ h. (chars bs, encodes-chars bs u, h), λ (cs, e, h). subst (λ w. list_all is_char w ≡ true) (encodes_same cs (chars bs) (e ∙ sym (encodes-chars bs u))) h)
