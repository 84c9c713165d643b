-- Any bytes have characters at their front, perhaps none.
use Rattle.std.proofs.Common.{◌≡◌, inl, inr, ◌⊎◌, ℕ, suc, ◌≤◌, Bool, true, false, ◌&&◌, List, [], ◌∷◌, ◌++◌, refl, ap, ◌∙◌, sym, subst, length, take, drop, arith, append-nil, length-append, take-append-drop, bytes_eq}
use Rattle.std.specs.Prelude.{zero, encode_utf8, encode_utf8_all, slice_index}
use Rattle.std.specs.Str.{chars}
use Rattle.std.specs.Cmp.Lexicographic.{bytes_decides}
use Rattle.std.proofs.Math.Seq.{take-append_seam}
use Rattle.std.proofs.lemmas.Bool.{true≢false, and_parts, and_from}
use Rattle.std.proofs.lemmas.Str.{chars-encodes, length-encode, len_utf8_bounds}
use Rattle.tc_base.specs.Characters.{is_char}
use Rattle.tc_model.specs.XmlTextBytes.{FrontOf}
use Rattle.tc_model.proofs.XmlTextChars.{no_chars, one_char, char_scalar}
use Rattle.tc_stream.specs.Cuts.{char_length, BeginsNoChar}
use Rattle.tc_stream.proofs.CutLaws.{same_length}
use Rattle.tc_stream.proofs.StepLaws.{front_behind}

-- the character that some bytes would be
abbrev candidate : List ℕ → ℕ
candidate w = slice_index (chars w) 0

-- a character at the front, and what follows it
record Begins (bs : List ℕ) : Type 0 where
  char : ℕ
  rest : List ℕ
  parts : bs ≡ encode_utf8 char ++ rest
  lawful : is_char char ≡ true

candidate_is : (d : ℕ) → is_char d ≡ true → candidate (encode_utf8 d) ≡ d
candidate_is d h =
    let one : encode_utf8_all (d ∷ []) ≡ encode_utf8 d = append-nil (encode_utf8 d) in
    ap candidate (sym one) ∙ ap (λ cs. slice_index cs 0) (chars-encodes (d ∷ []) (and_from _ true (char_scalar d h) refl))

first_there : (b : ℕ) (rest r : List ℕ) (d : ℕ) → b ∷ rest ≡ encode_utf8 d ++ r → is_char d ≡ true → take (char_length b) (b ∷ rest) ≡ encode_utf8 d
first_there b rest r d e h =
    ap (λ n. take n (b ∷ rest)) (sym (same_length b rest r d e h)) ∙ (ap (take (length (encode_utf8 d))) e ∙ take-append_seam (encode_utf8 d) r)

judged : (b : ℕ) (rest w : List ℕ) (c : ℕ) → w ≡ take (char_length b) (b ∷ rest) → c ≡ candidate w → Begins (b ∷ rest) ⊎ BeginsNoChar (b ∷ rest)
judged b rest w c is_w is_c = by (bytes_eq (encode_utf8 c) w && is_char c) refl
  where
    by : (x : Bool) → (bytes_eq (encode_utf8 c) w && is_char c) ≡ x → Begins (b ∷ rest) ⊎ BeginsNoChar (b ∷ rest)
    by true e =
        let both = and_parts (bytes_eq (encode_utf8 c) w) (is_char c) e in
        let same : encode_utf8 c ≡ take (char_length b) (b ∷ rest) = (bytes_decides (encode_utf8 c) w).0 both.0 ∙ is_w in
        inl (record {
          char = c;
          rest = drop (char_length b) (b ∷ rest);
          parts = sym (take-append-drop (char_length b) (b ∷ rest)) ∙ ap (λ z. z ++ drop (char_length b) (b ∷ rest)) (sym same);
          lawful = both.1;
        })
    by false e = inr (λ d r is h.
        let there : w ≡ encode_utf8 d = is_w ∙ first_there b rest r d is h in
        let found : c ≡ d = is_c ∙ (ap candidate there ∙ candidate_is d h) in
        true≢false (sym (and_from (bytes_eq (encode_utf8 c) w) (is_char c) ((bytes_decides (encode_utf8 c) w).1 (ap encode_utf8 found ∙ sym there)) (ap is_char found ∙ h)) ∙ e))

first_or_none : (bs : List ℕ) → Begins bs ⊎ BeginsNoChar bs
first_or_none [] = inr (λ c r e h. omega (arith, ap length e, length-append (encode_utf8 c) r, length-encode c, len_utf8_bounds c))
first_or_none (b ∷ rest) = judged b rest (take (char_length b) (b ∷ rest)) (candidate (take (char_length b) (b ∷ rest))) refl refl

front_within : (n : ℕ) (bs : List ℕ) → length bs ≤ n → (f : List ℕ) × FrontOf bs f
front_within zero bs l = ([], record { after = bs; parts = refl; characters = no_chars; longest = λ c r e h. omega (arith, l, ap length e, length-append (encode_utf8 c) r, length-encode c, len_utf8_bounds c) })
front_within (suc n) bs l = by (first_or_none bs) (λ rest k. front_within n rest k)
  where
    by : Begins bs ⊎ BeginsNoChar bs → ((rest : List ℕ) → length rest ≤ n → (f : List ℕ) × FrontOf rest f) → (f : List ℕ) × FrontOf bs f
    by (inr none) later = ([], record { after = bs; parts = refl; characters = no_chars; longest = none })
    by (inl b) later =
        let (f, k) = later b.rest (omega (arith, l, ap length b.parts, length-append (encode_utf8 b.char) b.rest, length-encode b.char, len_utf8_bounds b.char)) in
        (encode_utf8 b.char ++ f, subst (λ z. FrontOf z (encode_utf8 b.char ++ f)) (sym b.parts) (front_behind (one_char b.char b.lawful) k))

pub front_exists : (bs : List ℕ) → (f : List ℕ) × FrontOf bs f
front_exists bs = front_within (length bs) bs (omega arith)
