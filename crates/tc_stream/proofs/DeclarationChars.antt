-- An XML declaration that goes on with one character more, whatever bytes that has.
use Rattle.std.proofs.Common.{◌≡◌, inl, inr, ◌⊎◌, ℕ, suc, ◌<◌, ◌≤◌, ◌+◌, Bool, true, false, cond, ◌||◌, ◌==◌, leb, List, [], ◌∷◌, ◌++◌, refl, ap, ◌∙◌, sym, subst, length, arith, codes, Option, None, Some, append_assoc, append-nil}
use Rattle.std.specs.Prelude.{encode_utf8, bytes_eq}
use Rattle.std.specs.List.{list_all}
use Rattle.std.proofs.lemmas.Bool.{and_parts, eqb-true, cond-false, cases_lt, leb-true, ltb-true}
use Rattle.std.proofs.lemmas.Str.{encode_ascii, length-encode, len_utf8_bounds}
use Rattle.tc_base.specs.Characters.{is_white}
use Rattle.tc_base.specs.declared.reasons.Why.TheVariants.{Encoding, XmlVersion}
use Rattle.tc_model.specs.XmlTextBytes.{IsQuote}
use Rattle.tc_stream.specs.Declarations.{Setting, of_version, of_encoding, of_standalone, word_of, Declaring, between, in_word, equals, in_literal, at_end, Declared, more, whole, unread, undeclared, setting_behind, without_first, begun_word, may_end, is_read_encoding, is_yes_or_no, valued, declared_next, DeclarationScan, declaring, no_declaration, declaration_on, declaration_scan}
use Rattle.tc_stream.proofs.TagEndLaws.{bytes_high}
use Rattle.tc_stream.proofs.TagExtendLaws.{white_ascii}
use Rattle.tc_stream.proofs.EncodedLaws.{is_low}
use Rattle.tc_stream.proofs.DeclarationLaws.{then_declaration, declaration_more}

-- the bytes that a state waits for are of ASCII
abbrev pub IsPlain : Declaring → Type 0
IsPlain (between set white) = Unit {0}
IsPlain (in_word setting left at) = list_all is_low left ≡ true
IsPlain (equals setting at) = Unit {0}
IsPlain (in_literal setting at quote value) = IsQuote quote
IsPlain at_end = Unit {0}

abbrev IsPlainNext : Declared → Type 0
IsPlainNext (more k) = IsPlain k
IsPlainNext whole = Unit {0}
IsPlainNext (unread why at) = Unit {0}
IsPlainNext undeclared = Unit {0}

word_plain : (s : Setting) → list_all is_low (without_first (word_of s)) ≡ true
word_plain of_version = refl
word_plain of_encoding = refl
word_plain of_standalone = refl

begun_plain : (o : Option Setting) (place : ℕ) → IsPlainNext (begun_word o place)
begun_plain None place = tt
begun_plain (Some s) place = word_plain s

may_end_plain : (o : Option Setting) → IsPlainNext (may_end o)
may_end_plain None = tt
may_end_plain (Some s) = tt

chosen : (x : Bool) (c d : Declared) → IsPlainNext c → IsPlainNext d → IsPlainNext (cond x c d)
chosen true c d h k = h
chosen false c d h k = k

valued_plain : (s : Setting) (place : ℕ) (v : List ℕ) → IsPlainNext (valued s place v)
valued_plain of_version place v = chosen (bytes_eq v (codes "1.0")) (more (between (Some of_version) false)) (unread XmlVersion place) tt tt
valued_plain of_encoding place v = chosen (is_read_encoding v) (more (between (Some of_encoding) false)) (unread Encoding place) tt tt
valued_plain of_standalone place v = chosen (is_yes_or_no v) (more (between (Some of_standalone) false)) undeclared tt tt

next_plain : (k : Declaring) (p c : ℕ) (w : List ℕ) → IsPlain k → IsPlainNext (declared_next k p c w)
next_plain (between set white) p c w h =
    chosen (is_white c) (more (between set true)) (cond (c == 0x3F) (may_end set) (cond white (begun_word (setting_behind set c) p) undeclared)) tt
    (chosen (c == 0x3F) (may_end set) (cond white (begun_word (setting_behind set c) p) undeclared) (may_end_plain set)
    (chosen white (begun_word (setting_behind set c) p) undeclared (begun_plain (setting_behind set c) p) tt))
next_plain (in_word s [] at) p c w h = chosen (is_white c) (more (in_word s [] at)) (cond (c == 0x3D) (more (equals s at)) undeclared) refl (chosen (c == 0x3D) (more (equals s at)) undeclared tt tt)
next_plain (in_word s (b ∷ left) at) p c w h = chosen (c == b) (more (in_word s left at)) undeclared (and_parts (is_low b) (list_all is_low left) h).1 tt
next_plain (equals s at) p c w h = by (is_white c) (c == 0x22) (c == 0x27) refl refl
  where
    by : (x y z : Bool) → (c == 0x22) ≡ y → (c == 0x27) ≡ z → IsPlainNext (cond x (more (equals s at)) (cond (y || z) (more (in_literal s at c [])) undeclared))
    by true y z e i = tt
    by false true z e i = inl (eqb-true c 0x22 e)
    by false false true e i = inr (eqb-true c 0x27 i)
    by false false false e i = tt
next_plain (in_literal s at q v) p c w h = chosen (c == q) (valued s at v) (more (in_literal s at q (v ++ w))) (valued_plain s at v) h
next_plain at_end p c w h = chosen (c == 0x3E) whole undeclared tt tt

scan_plain : (k : Declaring) (p : ℕ) (bs : List ℕ) (j : Declaring) → IsPlain k → declaration_scan k p bs ≡ declaring j → IsPlain j
scan_plain k p [] j h e = subst IsPlain (same e) h
  where
    same : declaring k ≡ declaring j → k ≡ j
    same e = cc
scan_plain k p (b ∷ bs) j h e = by (declared_next k p b (b ∷ [])) (next_plain k p b (b ∷ []) h) e (λ i g f. scan_plain i (suc p) bs j g f)
  where
    by : (d : Declared) → IsPlainNext d → declaration_on d (λ i. declaration_scan i (suc p) bs) bs ≡ declaring j → ((i : Declaring) → IsPlain i → declaration_scan i (suc p) bs ≡ declaring j → IsPlain j) → IsPlain j
    by (more i) g f later = later i g f
    by whole g f later = absurd (cc)
    by (unread why at) g f later = absurd (cc)
    by undeclared g f later = absurd (cc)

-- what is no byte of ASCII goes on in a literal alone

other_than : (c x : ℕ) → x < 128 → 128 ≤ c → (c == x) ≡ false
other_than c x low high = by (c == x) refl
  where
    by : (y : Bool) → (c == x) ≡ y → (c == x) ≡ false
    by true e = absurd (omega (arith, low, high, eqb-true c x e))
    by false e = e

not_white : (c : ℕ) → 128 ≤ c → is_white c ≡ false
not_white c high = by (is_white c) refl
  where
    by : (y : Bool) → is_white c ≡ y → is_white c ≡ false
    by true e = absurd (omega (arith, high, white_ascii c e))
    by false e = e

none_begins : (set : Option Setting) (c : ℕ) → 128 ≤ c → setting_behind set c ≡ None
none_begins None c high = cond-false (c == 0x76) _ _ (other_than c 0x76 (omega arith) high)
none_begins (Some of_version) c high = cond-false (c == 0x65) _ _ (other_than c 0x65 (omega arith) high) ∙ cond-false (c == 0x73) _ _ (other_than c 0x73 (omega arith) high)
none_begins (Some of_encoding) c high = cond-false (c == 0x73) _ _ (other_than c 0x73 (omega arith) high)
none_begins (Some of_standalone) c high = refl

-- in a literal, or not
data Within (k : Declaring) : Type 0 where
  inside : (s : Setting) (at q : ℕ) (v : List ℕ) → IsQuote q → k ≡ in_literal s at q v → Within k
  outside : ((p c : ℕ) (w : List ℕ) → 128 ≤ c → declared_next k p c w ≡ undeclared) → Within k

undeclared_either : (x : Bool) → cond x undeclared undeclared ≡ undeclared
undeclared_either true = refl
undeclared_either false = refl

within : (k : Declaring) → IsPlain k → Within k
within (between set white) h = outside (λ p c w high.
    cond-false (is_white c) _ _ (not_white c high)
    ∙ (cond-false (c == 0x3F) _ _ (other_than c 0x3F (omega arith) high) ∙ (ap (λ o. cond white (begun_word o p) undeclared) (none_begins set c high) ∙ undeclared_either white)))
within (in_word s [] at) h = outside (λ p c w high. cond-false (is_white c) _ _ (not_white c high) ∙ cond-false (c == 0x3D) _ _ (other_than c 0x3D (omega arith) high))
within (in_word s (b ∷ left) at) h = outside (λ p c w high. cond-false (c == b) _ _ (other_than c b (ltb-true b 128 (and_parts (is_low b) (list_all is_low left) h).0) high))
within (equals s at) h = outside (λ p c w high.
    cond-false (is_white c) _ _ (not_white c high)
    ∙ (ap (λ x. cond (x || c == 0x27) (more (in_literal s at c [])) undeclared) (other_than c 0x22 (omega arith) high) ∙ ap (λ x. cond x (more (in_literal s at c [])) undeclared) (other_than c 0x27 (omega arith) high)))
within (in_literal s at q v) h = inside s at q v h refl
within at_end h = outside (λ p c w high. cond-false (c == 0x3E) _ _ (other_than c 0x3E (omega arith) high))

quote_low : (q : ℕ) → IsQuote q → q < 128
quote_low q (inl e) = omega (arith, e)
quote_low q (inr e) = omega (arith, e)

literal_high : (s : Setting) (at q : ℕ) (v : List ℕ) (p : ℕ) (w : List ℕ) → IsQuote q → list_all (leb 128) w ≡ true → declaration_scan (in_literal s at q v) p w ≡ declaring (in_literal s at q (v ++ w))
literal_high s at q v p [] i h = ap (λ z. declaring (in_literal s at q z)) (sym (append-nil v))
literal_high s at q v p (b ∷ w) i h =
    let both = and_parts (leb 128 b) (list_all (leb 128) w) h in
    let next : declared_next (in_literal s at q v) p b (b ∷ []) ≡ more (in_literal s at q (v ++ b ∷ [])) = cond-false (b == q) _ _ (other_than b q (quote_low q i) (leb-true 128 b both.0)) in
    ap (λ d. declaration_on d (λ j. declaration_scan j (suc p) w) w) next
    ∙ (literal_high s at q (v ++ b ∷ []) (suc p) w i both.1 ∙ ap (λ z. declaring (in_literal s at q z)) (append_assoc v (b ∷ []) w))

-- what one character makes of a declaration, as a scan of it tells
abbrev pub as_scan : Declared → DeclarationScan
as_scan d = declaration_on d (λ j. declaring j) []

high_char : (k : Declaring) (p c : ℕ) → 128 ≤ c → Within k → declaration_scan k p (encode_utf8 c) ≡ as_scan (declared_next k p c (encode_utf8 c))
high_char k p c high (inside s at q v i e) =
    ap (λ z. declaration_scan z p (encode_utf8 c)) e
    ∙ (literal_high s at q v p (encode_utf8 c) i (bytes_high c high)
    ∙ (sym (ap as_scan (cond-false (c == q) (valued s at v) (more (in_literal s at q (v ++ encode_utf8 c))) (other_than c q (quote_low q i) high))) ∙ ap (λ z. as_scan (declared_next z p c (encode_utf8 c))) (sym e)))
high_char k p c high (outside n) = by (encode_utf8 c) refl (bytes_high c high) ∙ sym (ap as_scan (n p c (encode_utf8 c) high))
  where
    by : (w : List ℕ) → encode_utf8 c ≡ w → list_all (leb 128) w ≡ true → declaration_scan k p w ≡ no_declaration
    by [] e h = absurd (omega (arith, ap length e, length-encode c, len_utf8_bounds c))
    by (b ∷ w) e h = ap (λ d. declaration_on d (λ j. declaration_scan j (suc p) w) w) (n p b (b ∷ []) (leb-true 128 b (and_parts (leb 128 b) (list_all (leb 128) w) h).0))

one_char : (k : Declaring) (p c : ℕ) → IsPlain k → declaration_scan k p (encode_utf8 c) ≡ as_scan (declared_next k p c (encode_utf8 c))
one_char k p c h = by (cases_lt c 128)
  where
    single : declaration_scan k p (c ∷ []) ≡ as_scan (declared_next k p c (c ∷ []))
    single = refl

    by : (c < 128) ⊎ (128 ≤ c) → declaration_scan k p (encode_utf8 c) ≡ as_scan (declared_next k p c (encode_utf8 c))
    by (inl low) = subst (λ w. declaration_scan k p w ≡ as_scan (declared_next k p c w)) (sym (encode_ascii c low)) single
    by (inr high) = high_char k p c high (within k h)

-- a declaration that has begun, with one character more
pub declaration_char : (p : ℕ) (w : List ℕ) (k : Declaring) (c : ℕ) → declaration_scan (between None false) p w ≡ declaring k
    → declaration_scan (between None false) p (w ++ encode_utf8 c) ≡ as_scan (declared_next k (p + length w) c (encode_utf8 c))
declaration_char p w k c e =
    declaration_more (between None false) p w (encode_utf8 c)
    ∙ (ap (λ x. then_declaration (p + length w) x (encode_utf8 c)) e ∙ one_char k (p + length w) c (scan_plain (between None false) p w k tt e))
