-- The characters of XML at the front of bytes.
use Rattle.std.proofs.Common.{◌≡◌, ℕ, ◌+◌, ◌-◌, ◌<◌, true, false, List, [], ◌++◌, refl, ap, ◌∙◌, sym, subst, length, take, drop, arith, IsTrue, IsUtf8, IsCharBoundary, take-append-drop, length-append, append_assoc, append-nil}
use Rattle.std.specs.Prelude.{encode_utf8}
use Rattle.std.specs.List.{list_all}
use Rattle.std.specs.Str.{IsValidUpTo}
use Rattle.std.proofs.Math.Seq.{take-append_seam, take-add}
use Rattle.std.proofs.lemmas.Bool.{true≢false}
use Rattle.std.proofs.lemmas.Str.{encode_same, length-encode, len_utf8_bounds, IsUtf8-append, IsUtf8-encode, IsCharBoundary-at_seam}
use Rattle.tc_base.specs.Characters.{is_char}
use Rattle.tc_model.specs.Names.{IsChars}
use Rattle.tc_model.specs.XmlTextBytes.{FrontOf}
use Rattle.tc_model.proofs.XmlTextChars.{char_scalar, no_chars, one_char, join_chars}
use Rattle.tc_scan.specs.Chars.{IsUtf8Front, IsNoChar, at_end, other, IsPastChars, is_start_of_chars_only}
use Rattle.tc_scan.proofs.CharsLaws.{plain_text}

char_some : (c : ℕ) → 0 < length (encode_utf8 c)
char_some c = omega (arith, length-encode c, len_utf8_bounds c)

no_char_in_none : (c : ℕ) (r : List ℕ) → [] ≡ encode_utf8 c ++ r → ⊥
no_char_in_none c r e = omega (arith, ap length e, length-append (encode_utf8 c) r, char_some c)

pub whole_text : (bytes text : List ℕ) → text ≡ bytes → IsUtf8Front bytes text
whole_text bytes text e = record { after = []; parts = sym e ∙ sym (append-nil text); longest = λ c r f s. no_char_in_none c r f }

pub valid_front : (bytes text : List ℕ) (n : ℕ) → IsValidUpTo bytes n → text ≡ take n bytes → IsUtf8Front bytes text
valid_front bytes text n up e = record {
  after = drop n bytes;
  parts = sym (take-append-drop n bytes) ∙ ap (λ w. w ++ drop n bytes) (sym e);
  longest = λ c r f s.
      let is : take (n + length (encode_utf8 c)) bytes ≡ take n bytes ++ encode_utf8 c =
      take-add n (length (encode_utf8 c)) bytes
      ∙ ap (λ w. take n bytes ++ w) (ap (take (length (encode_utf8 c))) f ∙ take-append_seam (encode_utf8 c) r) in
      up.longest (n + length (encode_utf8 c)) (omega (arith, char_some c))
      (subst IsUtf8 (sym is) (IsUtf8-append (take n bytes) (encode_utf8 c) up.front (IsUtf8-encode c s)));
}

-- one more character
pub one_more_char : (text rest after : List ℕ) (c : ℕ) → ((front : List ℕ) × (text ≡ front ++ rest) × IsChars front) → rest ≡ encode_utf8 c ++ after → is_char c ≡ true
    → (front : List ℕ) × (text ≡ front ++ after) × IsChars front
one_more_char text rest after c (front, e, h) f k = (
  front ++ encode_utf8 c,
  e ∙ (ap (λ w. front ++ w) f ∙ sym (append_assoc front (encode_utf8 c) after)),
  join_chars front (encode_utf8 c) h (one_char c k),
)

pub begun_chars : (text : List ℕ) → (front : List ℕ) × (text ≡ front ++ text) × IsChars front
begun_chars text = ([], refl, no_chars)

pub past_chars_at_end : (text rest : List ℕ) → ((front : List ℕ) × (text ≡ front ++ rest) × IsChars front) → rest ≡ [] → IsPastChars text rest
past_chars_at_end text rest (front, e, h) f = record { front = front; parts = e; characters = h; stops = subst IsNoChar (sym f) at_end }

pub past_chars_at_other : (text rest after : List ℕ) (c : ℕ) → ((front : List ℕ) × (text ≡ front ++ rest) × IsChars front) → rest ≡ encode_utf8 c ++ after → is_char c ≡ false → IsPastChars text rest
past_chars_at_other text rest after c (front, e, h) f k = record { front = front; parts = e; characters = h; stops = other c after f k }

pub shorter : (rest after : List ℕ) (c : ℕ) → rest ≡ encode_utf8 c ++ after → length after < length rest
shorter rest after c e = omega (arith, ap length e, length-append (encode_utf8 c) after, char_some c)

pub cut_at_rest : (text xs rest : List ℕ) (n : ℕ) → text ≡ xs ++ rest → IsUtf8 rest → n ≡ length text - length rest → IsCharBoundary text n
cut_at_rest text xs rest n e u f =
    subst (IsCharBoundary text) (omega (arith, f, ap length e, length-append xs rest)) (IsCharBoundary-at_seam text xs rest e u)

-- the characters at the front of the text at the front
pub front_of : (bytes text rest front : List ℕ) (n : ℕ) → IsUtf8Front bytes text → IsPastChars text rest → n ≡ length text - length rest → front ≡ take n text → FrontOf bytes front
front_of bytes text rest front n a b f g =
    let len : n ≡ length b.front = omega (arith, f, ap length b.parts, length-append b.front rest) in
    let same : front ≡ b.front = g ∙ (ap (λ m. take m text) len ∙ (ap (take (length b.front)) b.parts ∙ take-append_seam b.front rest)) in
    record {
      after = rest ++ a.after;
      parts = a.parts ∙ (ap (λ w. w ++ a.after) (b.parts ∙ ap (λ w. w ++ rest) (sym same)) ∙ append_assoc front rest a.after);
      characters = subst IsChars (sym same) b.characters;
      longest = by b.stops;
    }
  where
    by : {rest : List ℕ} → IsNoChar rest → (c : ℕ) (r : List ℕ) → rest ++ a.after ≡ encode_utf8 c ++ r → IsTrue (is_char c) → ⊥
    by at_end c r e h = a.longest c r e (char_scalar c h)
    by (other d s i k) c r e h =
        true≢false (sym h ∙ (ap is_char (encode_same c d r (s ++ a.after) (sym e ∙ (ap (λ w. w ++ a.after) i ∙ append_assoc (encode_utf8 d) s a.after))).0 ∙ k))

-- nothing follows a text of plain bytes
pub past_plain : (text rest : List ℕ) → IsUtf8 text → list_all is_start_of_chars_only text ≡ true → rest ≡ [] → IsPastChars text rest
past_plain text rest u h e = record {
  front = text;
  parts = sym (append-nil text) ∙ ap (λ w. text ++ w) (sym e);
  characters = plain_text text u h;
  stops = subst IsNoChar (sym e) at_end;
}
