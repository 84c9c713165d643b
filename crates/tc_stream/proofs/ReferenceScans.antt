-- Character by character a reference ends where it ends, and stands for what it stands for.
use Rattle.std.proofs.Common.{◌≡◌, ℕ, suc, ◌<◌, ◌≤◌, ◌+◌, ◌*◌, Bool, true, false, cond, ◌==◌, List, [], ◌∷◌, ◌++◌, refl, ap, ◌∙◌, sym, subst, length, take, drop, arith, codes, Option, None, Some, append_assoc, append-nil, take-append-drop}
use Rattle.std.specs.Prelude.{encode_utf8, encode_utf8_all, nat_le, bytes_eq}
use Rattle.std.specs.Char.{digit_value}
use Rattle.std.specs.List.{prefix_len, list_all}
use Rattle.std.specs.Str.Parse.{digits_value, digits_value_after}
use Rattle.std.proofs.Math.Nat.{le-mul_of_pos_right}
use Rattle.std.proofs.Math.Seq.{take-append_seam, drop-append_seam}
use Rattle.std.proofs.lemmas.Bool.{true≢false, and_parts, and_from, eqb-true, cond-true, cond-false, le-leb}
use Rattle.std.proofs.lemmas.Bool.Decides.{nat_tests}
use Rattle.std.proofs.lemmas.Str.{encode_ascii}
use Rattle.tc_base.specs.Characters.{is_char}
use Rattle.tc_model.specs.Names.{is_ncname_start, is_ncname_char}
use Rattle.tc_model.specs.XmlTextBytes.{RunAt}
use Rattle.tc_model.specs.XmlTextNames.{NcNameAt}
use Rattle.tc_model.specs.XmlTextReferences.{predefined, is_digit, EntityAt, ReferenceAt, decimal, hexadecimal, entity, other}
use Rattle.tc_model.specs.XmlTextRefusals.{OtherEntityAt}
use Rattle.tc_model.proofs.XmlTextPhrases.{same_others}
use Rattle.tc_stream.specs.References.{Referring, begun, number_sign, x_sign, digits, in_name, Referred, more, stands_for, other_entity, unreferred, most_number, with_value, first_digit, of_number, of_entity, referred_next, ReferenceScan, referred, referring, no_reference, reference_on, reference_scan}
use Rattle.tc_stream.specs.References as scans
use Rattle.tc_stream.proofs.EncodedLaws.{first_decoded, first_encoded, is_low, mark_decoded, mark_encoded, NameAt, name_of, name_encoded}

-- what a scan is behind more characters
abbrev pub then_reference : ReferenceScan → List ℕ → ReferenceScan
then_reference (referred c r) t = referred c (r ++ t)
then_reference (referring k) t = reference_scan k t
then_reference scans.other t = scans.other
then_reference no_reference t = no_reference

pub reference_more : (k : Referring) (w t : List ℕ) → reference_scan k (w ++ t) ≡ then_reference (reference_scan k w) t
reference_more k [] t = refl
reference_more k (c ∷ w) t = by (referred_next k c) (λ j. reference_more j w t)
  where
    by : (d : Referred) → ((j : Referring) → reference_scan j (w ++ t) ≡ then_reference (reference_scan j w) t)
        → reference_on d (λ j. reference_scan j (w ++ t)) (w ++ t) ≡ then_reference (reference_on d (λ j. reference_scan j w) w) t
    by (more j) later = later j
    by (stands_for c) later = refl
    by other_entity later = refl
    by unreferred later = refl

pub refer_step : (k : Referring) (d : Referred) (c : ℕ) (cs : List ℕ) → referred_next k c ≡ d → reference_scan k (c ∷ cs) ≡ reference_on d (λ j. reference_scan j cs) cs
refer_step k d c cs e = ap (λ d. reference_on d (λ j. reference_scan j cs) cs) e

-- runs of digits

run_passes : (p : ℕ → Bool) (bs : List ℕ) → list_all p (take (prefix_len p bs) bs) ≡ true
run_passes p [] = refl
run_passes p (b ∷ bs) = by (p b) refl (run_passes p bs)
  where
    by : (x : Bool) → p b ≡ x → list_all p (take (prefix_len p bs) bs) ≡ true → list_all p (take (prefix_len p (b ∷ bs)) (b ∷ bs)) ≡ true
    by true e later =
        let one : prefix_len p (b ∷ bs) ≡ suc (prefix_len p bs) = ap (λ x. cond x (1 + prefix_len p bs) 0) e ∙ omega arith in
        ap (λ n. list_all p (take n (b ∷ bs))) one ∙ and_from (p b) (list_all p (take (prefix_len p bs) bs)) e later
    by false e later = ap (λ n. list_all p (take n (b ∷ bs))) (ap (λ x. cond x (1 + prefix_len p bs) 0) e)

pub run_parts : {p : ℕ → Bool} {bs run after : List ℕ} → RunAt p bs run after → (bs ≡ run ++ after) × (list_all p run ≡ true)
run_parts {p} {bs} {run} {after} a = (
  sym (take-append-drop (prefix_len p bs) bs) ∙ (ap (λ w. w ++ drop (prefix_len p bs) bs) (sym a.front) ∙ ap (λ w. run ++ w) (sym a.back)),
  subst (λ w. list_all p w ≡ true) (sym a.front) (run_passes p bs),
)

run_length : (p : ℕ → Bool) (w : List ℕ) (b : ℕ) (f : List ℕ) → list_all p w ≡ true → p b ≡ false → prefix_len p (w ++ b ∷ f) ≡ length w
run_length p [] b f h s = ap (λ x. cond x (1 + prefix_len p f) 0) s
run_length p (c ∷ w) b f h s =
    let both = and_parts (p c) (list_all p w) h in
    let one : 1 + length w ≡ suc (length w) = omega arith in
    ap (λ x. cond x (1 + prefix_len p (w ++ b ∷ f)) 0) both.0 ∙ (ap (λ n. 1 + n) (run_length p w b f both.1 s) ∙ one)

pub run_here : (p : ℕ → Bool) (w : List ℕ) (b : ℕ) (f : List ℕ) → 0 < length w → list_all p w ≡ true → p b ≡ false → RunAt p (w ++ b ∷ f) w (b ∷ f)
run_here p w b f some h s =
    let n = run_length p w b f h s in
    record {
      some = subst (λ k. 0 < k) (sym n) some;
      front = sym (ap (λ k. take k (w ++ b ∷ f)) n ∙ take-append_seam w (b ∷ f));
      back = sym (ap (λ k. drop k (w ++ b ∷ f)) n ∙ drop-append_seam w (b ∷ f));
    }

-- a base whose digits are of ASCII, and not the semicolon
pub record IsBase (base : ℕ) : Type 0 where
  pub most : base ≤ 16
  pub some : 0 < base
  pub no_end : is_digit base 0x3B ≡ false

pub ten : IsBase 10
ten = record { most = omega arith; some = omega arith; no_end = refl }

pub sixteen : IsBase 16
sixteen = record { most = omega arith; some = omega arith; no_end = refl }

digit_low : (base b : ℕ) → base ≤ 16 → is_digit base b ≡ true → is_low b ≡ true
digit_low base b l h = grind (arith, nat_tests)

pub digits_low : (base : ℕ) (w : List ℕ) → base ≤ 16 → list_all (is_digit base) w ≡ true → list_all is_low w ≡ true
digits_low base [] l h = refl
digits_low base (b ∷ w) l h =
    let both = and_parts (is_digit base b) (list_all (is_digit base) w) h in and_from (is_low b) (list_all is_low w) (digit_low base b l both.0) (digits_low base w l both.1)

pub no_semicolon : (base c : ℕ) → IsBase base → is_digit base c ≡ true → (c == 0x3B) ≡ false
no_semicolon base c i h = by (c == 0x3B) refl
  where
    by : (x : Bool) → (c == 0x3B) ≡ x → (c == 0x3B) ≡ false
    by true e = absurd (true≢false (sym h ∙ (ap (is_digit base) (eqb-true c 0x3B e) ∙ i.no_end)))
    by false e = e

pub value_grows : (base n : ℕ) (ds : List ℕ) → 0 < base → n ≤ digits_value_after base n ds
value_grows base n [] h = omega arith
value_grows base n (d ∷ ds) h =
    let later = value_grows base (n * base + digit_value d) ds h in
    let here : n ≤ n * base = le-mul_of_pos_right n h in
    omega (arith, later, here)

pub char_at_most : (c : ℕ) → is_char c ≡ true → c ≤ 0x10FFFF
char_at_most c h = grind (arith, nat_tests)

-- digits, and a semicolon
digits_past : (base v : ℕ) (ds fs : List ℕ) → IsBase base → list_all (is_digit base) ds ≡ true → is_char (digits_value_after base v ds) ≡ true
    → reference_scan (digits base v) (ds ++ 0x3B ∷ fs) ≡ referred (digits_value_after base v ds) fs
digits_past base v [] fs i h k = refer_step (digits base v) (stands_for v) 0x3B fs (cond-true (is_char v) _ _ k)
digits_past base v (d ∷ ds) fs i h k =
    let both = and_parts (is_digit base d) (list_all (is_digit base) ds) h in
    let value = v * base + digit_value d in
    let low : value ≤ most_number = omega (arith, value_grows base value ds i.some, char_at_most (digits_value_after base value ds) k) in
    refer_step (digits base v) (more (digits base value)) d (ds ++ 0x3B ∷ fs)
    (cond-false (d == 0x3B) _ _ (no_semicolon base d i both.0) ∙ (cond-true (is_digit base d) _ _ both.0 ∙ cond-true (nat_le value most_number) _ _ (le-leb value most_number low)))
    ∙ digits_past base value ds fs i both.1 k

-- from where a first digit must stand
number_past : (base : ℕ) (k : Referring) (d : ℕ) (ds fs : List ℕ) → IsBase base → ((c : ℕ) → is_digit base c ≡ true → referred_next k c ≡ first_digit base c)
    → list_all (is_digit base) (d ∷ ds) ≡ true → is_char (digits_value base (d ∷ ds)) ≡ true
    → reference_scan k ((d ∷ ds) ++ 0x3B ∷ fs) ≡ referred (digits_value base (d ∷ ds)) fs
number_past base k d ds fs i step h c =
    let both = and_parts (is_digit base d) (list_all (is_digit base) ds) h in
    let same : digit_value d ≡ 0 * base + digit_value d = omega arith in
    refer_step k (more (digits base (digit_value d))) d (ds ++ 0x3B ∷ fs) (step d both.0 ∙ cond-true (is_digit base d) _ _ both.0)
    ∙ (ap (λ v. reference_scan (digits base v) (ds ++ 0x3B ∷ fs)) same ∙ digits_past base (0 * base + digit_value d) ds fs i both.1 c)

pub no_x : (c : ℕ) → is_digit 10 c ≡ true → (c == 0x78) ≡ false
no_x c h = by (c == 0x78) refl
  where
    by : (x : Bool) → (c == 0x78) ≡ x → (c == 0x78) ≡ false
    by true e = absurd (true≢false (sym h ∙ ap (is_digit 10) (eqb-true c 0x78 e)))
    by false e = e

-- what is told of a reference
pub data Refers (x : ReferenceScan) (s after : List ℕ) : Type 0 where
  refers : (c : ℕ) (fs : List ℕ) → x ≡ referred c fs → s ≡ encode_utf8 c → after ≡ encode_utf8_all fs → Refers x s after

number_scanned : (base : ℕ) (k : Referring) (es ds after : List ℕ) → IsBase base → ((c : ℕ) → is_digit base c ≡ true → referred_next k c ≡ first_digit base c)
    → RunAt (is_digit base) (encode_utf8_all es) ds (0x3B ∷ after) → is_char (digits_value base ds) ≡ true → Refers (reference_scan k es) (encode_utf8 (digits_value base ds)) after
number_scanned base k es [] after i step a c = absurd (none (run_parts a) a.some)
  where
    none : (encode_utf8_all es ≡ [] ++ 0x3B ∷ after) × (list_all (is_digit base) [] ≡ true) → 0 < prefix_len (is_digit base) (encode_utf8_all es) → ⊥
    none (e, h) some =
        let zero : prefix_len (is_digit base) (encode_utf8_all es) ≡ 0 = ap (prefix_len (is_digit base)) e ∙ ap (λ x. cond x (1 + prefix_len (is_digit base) after) 0) i.no_end in
        omega (arith, some, zero)
number_scanned base k es (d ∷ ds) after i step a c =
    let parts = run_parts a in
    let (gs, is, m) = mark_decoded (d ∷ ds) es (0x3B ∷ after) (digits_low base (d ∷ ds) i.most parts.1) parts.0 in
    let (fs, is', m') = first_decoded gs 0x3B after (omega arith) (sym m) in
    refers (digits_value base (d ∷ ds)) fs (ap (reference_scan k) (is ∙ ap (λ w. (d ∷ ds) ++ w) is') ∙ number_past base k d ds fs i step parts.1 c) refl m'

-- names

pub name_no_sign : (c : ℕ) → is_ncname_start c ≡ true → (c == 0x23) ≡ false
name_no_sign c h = by (c == 0x23) refl
  where
    by : (x : Bool) → (c == 0x23) ≡ x → (c == 0x23) ≡ false
    by true e = absurd (true≢false (sym h ∙ ap is_ncname_start (eqb-true c 0x23 e)))
    by false e = e

chars_past : (w ms fs : List ℕ) → list_all is_ncname_char ms ≡ true → reference_scan (in_name w) (ms ++ 0x3B ∷ fs) ≡ reference_on (of_entity (predefined (w ++ encode_utf8_all ms))) (λ j. reference_scan j fs) fs
chars_past w [] fs h =
    refer_step (in_name w) (of_entity (predefined w)) 0x3B fs refl
    ∙ ap (λ v. reference_on (of_entity (predefined v)) (λ j. reference_scan j fs) fs) (sym (append-nil w))
chars_past w (c ∷ ms) fs h =
    let both = and_parts (is_ncname_char c) (list_all is_ncname_char ms) h in
    refer_step (in_name w) (more (in_name (w ++ encode_utf8 c))) c (ms ++ 0x3B ∷ fs) (cond-true (is_ncname_char c) _ _ both.0)
    ∙ (chars_past (w ++ encode_utf8 c) ms fs both.1
    ∙ ap (λ v. reference_on (of_entity (predefined v)) (λ j. reference_scan j fs) fs) (append_assoc w (encode_utf8 c) (encode_utf8_all ms)))

-- an entity's name and a semicolon
entity_scanned : (cs name after : List ℕ) → EntityAt (0x26 ∷ encode_utf8_all cs) name after
    → (fs : List ℕ) × (after ≡ encode_utf8_all fs) × (reference_scan begun cs ≡ reference_on (of_entity (predefined name)) (λ j. reference_scan j fs) fs)
entity_scanned cs name after a =
    let d = name_of cs (subst (λ z. NcNameAt z name (0x3B ∷ after)) (same_others (sym a.opens)) a.names) in
    let (fs, is, m) = first_decoded d.behind 0x3B after (omega arith) (sym d.is_after) in
    let c = d.name.first in (
      fs,
      m,
      ap (reference_scan begun) (d.name.parts ∙ ap (λ w. (d.name.first ∷ d.name.others) ++ w) is)
          ∙ (refer_step begun (more (in_name (encode_utf8 d.name.first))) d.name.first (d.name.others ++ 0x3B ∷ fs)
          (cond-false (d.name.first == 0x23) _ _ (name_no_sign d.name.first d.name.starts) ∙ cond-true (is_ncname_start d.name.first) _ _ d.name.starts)
          ∙ (chars_past (encode_utf8 d.name.first) d.name.others fs d.name.goes ∙ ap (λ v. reference_on (of_entity (predefined v)) (λ j. reference_scan j fs) fs) (sym d.is_name))),
    )

predefined_low : (name : List ℕ) (c : ℕ) → predefined name ≡ Some c → c < 128
predefined_low name c =
    pick (bytes_eq name (codes "lt")) 0x3C _ (omega arith)
    (pick (bytes_eq name (codes "gt")) 0x3E _ (omega arith)
    (pick (bytes_eq name (codes "amp")) 0x26 _ (omega arith)
    (pick (bytes_eq name (codes "apos")) 0x27 _ (omega arith)
    (pick (bytes_eq name (codes "quot")) 0x22 None (omega arith) (λ e. cc)))))
  where
    pick : (b : Bool) (x : ℕ) (rest : Option ℕ) → x < 128 → (rest ≡ Some c → c < 128) → cond b (Some x) rest ≡ Some c → c < 128
    pick true x rest l later e = let same : x ≡ c = cc in subst (λ w. w < 128) same l
    pick false x rest l later e = later e

with_entity : (cs name after : List ℕ) (o : Option ℕ) → predefined name ≡ o → EntityAt (0x26 ∷ encode_utf8_all cs) name after
    → (fs : List ℕ) × (after ≡ encode_utf8_all fs) × (reference_scan begun cs ≡ reference_on (of_entity o) (λ j. reference_scan j fs) fs)
with_entity cs name after o e a =
    let (fs, m, s) = entity_scanned cs name after a in (fs, m, s ∙ ap (λ o. reference_on (of_entity o) (λ j. reference_scan j fs) fs) e)

pub other_scanned : (cs : List ℕ) → OtherEntityAt (0x26 ∷ encode_utf8_all cs) → reference_scan begun cs ≡ scans.other
other_scanned cs a = let (fs, m, s) = with_entity cs a.name a.after None a.not_predefined a.refers in s

-- behind `&#`
number_at : (cs r : List ℕ) → codes "&#" ++ r ≡ 0x26 ∷ encode_utf8_all cs → (es : List ℕ) × (r ≡ encode_utf8_all es) × (reference_scan begun cs ≡ reference_scan number_sign es)
number_at cs r e =
    let (es, is, m) = first_decoded cs 0x23 r (omega arith) (sym (same_others e)) in
    (es, m, ap (reference_scan begun) is ∙ refer_step begun (more number_sign) 0x23 es refl)

hexadecimal_at : (cs r : List ℕ) → codes "&#x" ++ r ≡ 0x26 ∷ encode_utf8_all cs → (es : List ℕ) × (r ≡ encode_utf8_all es) × (reference_scan begun cs ≡ reference_scan x_sign es)
hexadecimal_at cs r e =
    let (es, m, s) = number_at cs (0x78 ∷ r) e in
    let (gs, is, k) = first_decoded es 0x78 r (omega arith) (sym m) in
    (gs, k, s ∙ (ap (reference_scan number_sign) is ∙ refer_step number_sign (more x_sign) 0x78 gs refl))

moved : {x y : ReferenceScan} {s after : List ℕ} → x ≡ y → Refers y s after → Refers x s after
moved e (refers c fs i j k) = refers c fs (e ∙ i) j k

scanned_from : {bs s after : List ℕ} (cs : List ℕ) → ReferenceAt false bs s after → bs ≡ 0x26 ∷ encode_utf8_all cs → Refers (reference_scan begun cs) s after
scanned_from cs (decimal {rest = r} {digits = ds} {after = after} a c) e =
    let (es, m, s) = number_at cs r e in
    moved s (number_scanned 10 number_sign es ds after ten (λ d h. cond-false (d == 0x78) _ _ (no_x d h)) (subst (λ z. RunAt (is_digit 10) z ds (0x3B ∷ after)) m a) c)
scanned_from cs (hexadecimal {rest = r} {digits = ds} {after = after} a c) e =
    let (es, m, s) = hexadecimal_at cs r e in
    moved s (number_scanned 16 x_sign es ds after sixteen (λ d h. refl) (subst (λ z. RunAt (is_digit 16) z ds (0x3B ∷ after)) m a) c)
scanned_from cs (entity {name = n} {after = after} {c = c} a k) e =
    let (fs, m, s) = with_entity cs n after (Some c) k (subst (λ z. EntityAt z n after) e a) in
    refers c fs s (sym (encode_ascii c (predefined_low n c k))) m
scanned_from cs (other h a k) e = absurd (true≢false (sym h))

pub reference_scanned : {s after : List ℕ} (cs : List ℕ) → ReferenceAt false (0x26 ∷ encode_utf8_all cs) s after → Refers (reference_scan begun cs) s after
reference_scanned cs a = scanned_from cs a refl

-- what the scan tells

-- the scan tells something
abbrev pub Tells : ReferenceScan → Type 0
Tells (referred c r) = Unit {0}
Tells (referring k) = ⊥
Tells scans.other = Unit {0}
Tells no_reference = ⊥

tells_not : (k : Referring) (c : ℕ) (cs : List ℕ) → referred_next k c ≡ unreferred → Tells (reference_scan k (c ∷ cs)) → ⊥
tells_not k c cs e h = subst Tells (refer_step k unreferred c cs e) h

tells_on : (k j : Referring) (c : ℕ) (cs : List ℕ) → referred_next k c ≡ more j → Tells (reference_scan k (c ∷ cs)) → Tells (reference_scan j cs)
tells_on k j c cs e h = subst Tells (refer_step k (more j) c cs e) h

pub data Told (cs : List ℕ) : ReferenceScan → Type 0 where
  is_referred : {c : ℕ} {fs : List ℕ} → ReferenceAt false (0x26 ∷ encode_utf8_all cs) (encode_utf8 c) (encode_utf8_all fs) → Told cs (referred c fs)
  is_other : OtherEntityAt (0x26 ∷ encode_utf8_all cs) → Told cs scans.other
  goes_on : {k : Referring} → Told cs (referring k)
  is_none : Told cs no_reference

-- digits of a character's number
record DigitsHere (base v : ℕ) (cs : List ℕ) : Type 0 where
  digits : List ℕ
  behind : List ℕ
  parts : cs ≡ digits ++ 0x3B ∷ behind
  are : list_all (is_digit base) digits ≡ true
  char : is_char (digits_value_after base v digits) ≡ true

digits_found : (base v : ℕ) (cs : List ℕ) → Tells (reference_scan (digits base v) cs) → DigitsHere base v cs
digits_found base v [] h = absurd h
digits_found base v (c ∷ cs) h = by (c == 0x3B) (is_char v) (is_digit base c) (nat_le (v * base + digit_value c) most_number) refl refl refl refl (digits_found base (v * base + digit_value c) cs)
  where
    by : (x y z u : Bool) → (c == 0x3B) ≡ x → is_char v ≡ y → is_digit base c ≡ z → nat_le (v * base + digit_value c) most_number ≡ u
        → (Tells (reference_scan (digits base (v * base + digit_value c)) cs) → DigitsHere base (v * base + digit_value c) cs) → DigitsHere base v (c ∷ cs)
    by true true z u e i j k later = record { digits = []; behind = cs; parts = ap (λ z. z ∷ cs) (eqb-true c 0x3B e); are = refl; char = i }
    by true false z u e i j k later = absurd (tells_not (digits base v) c cs (cond-true (c == 0x3B) _ _ e ∙ cond-false (is_char v) _ _ i) h)
    by false y true true e i j k later =
        let d = later (tells_on (digits base v) (digits base (v * base + digit_value c)) c cs (cond-false (c == 0x3B) _ _ e ∙ (cond-true (is_digit base c) _ _ j ∙ cond-true (nat_le (v * base + digit_value c) most_number) _ _ k)) h) in
        record { digits = c ∷ d.digits; behind = d.behind; parts = ap (λ w. c ∷ w) d.parts; are = and_from (is_digit base c) (list_all (is_digit base) d.digits) j d.are; char = d.char }
    by false y true false e i j k later =
        absurd (tells_not (digits base v) c cs (cond-false (c == 0x3B) _ _ e ∙ (cond-true (is_digit base c) _ _ j ∙ cond-false (nat_le (v * base + digit_value c) most_number) _ _ k)) h)
    by false y false u e i j k later = absurd (tells_not (digits base v) c cs (cond-false (c == 0x3B) _ _ e ∙ cond-false (is_digit base c) _ _ j) h)

-- from where a first digit must stand
record NumberHere (base : ℕ) (cs : List ℕ) : Type 0 where
  digits : List ℕ
  behind : List ℕ
  run : RunAt (is_digit base) (encode_utf8_all cs) digits (0x3B ∷ encode_utf8_all behind)
  char : is_char (digits_value base digits) ≡ true

number_with : (base c : ℕ) (cs : List ℕ) → IsBase base → is_digit base c ≡ true → DigitsHere base (digit_value c) cs → NumberHere base (c ∷ cs)
number_with base c cs i h d =
    let are : list_all (is_digit base) (c ∷ d.digits) ≡ true = and_from (is_digit base c) (list_all (is_digit base) d.digits) h d.are in
    let bytes : encode_utf8_all (c ∷ cs) ≡ (c ∷ d.digits) ++ 0x3B ∷ encode_utf8_all d.behind =
    ap (λ w. encode_utf8_all (c ∷ w)) d.parts ∙ (mark_encoded (c ∷ d.digits) (0x3B ∷ d.behind) (digits_low base (c ∷ d.digits) i.most are) ∙ ap (λ w. (c ∷ d.digits) ++ w) (first_encoded 0x3B d.behind (omega arith))) in
    let same : digit_value c ≡ 0 * base + digit_value c = omega arith in
    let some : 0 < length (c ∷ d.digits) = omega arith in
    record {
      digits = c ∷ d.digits;
      behind = d.behind;
      run = subst (λ z. RunAt (is_digit base) z (c ∷ d.digits) (0x3B ∷ encode_utf8_all d.behind)) (sym bytes) (run_here (is_digit base) (c ∷ d.digits) 0x3B (encode_utf8_all d.behind) some are i.no_end);
      char = subst (λ v. is_char (digits_value_after base v d.digits) ≡ true) same d.char;
    }

first_found : (base : ℕ) (k : Referring) (c : ℕ) (cs : List ℕ) → IsBase base → referred_next k c ≡ first_digit base c → Tells (reference_scan k (c ∷ cs)) → NumberHere base (c ∷ cs)
first_found base k c cs i e h = by (is_digit base c) refl
  where
    by : (x : Bool) → is_digit base c ≡ x → NumberHere base (c ∷ cs)
    by true d = number_with base c cs i d (digits_found base (digit_value c) cs (tells_on k (digits base (digit_value c)) c cs (e ∙ cond-true (is_digit base c) _ _ d) h))
    by false d = absurd (tells_not k c cs (e ∙ cond-false (is_digit base c) _ _ d) h)

-- a name of an entity and a semicolon
record CharsHere (cs : List ℕ) : Type 0 where
  chars : List ℕ
  behind : List ℕ
  parts : cs ≡ chars ++ 0x3B ∷ behind
  goes : list_all is_ncname_char chars ≡ true

chars_found : (w cs : List ℕ) → Tells (reference_scan (in_name w) cs) → CharsHere cs
chars_found w [] h = absurd h
chars_found w (c ∷ cs) h = by (is_ncname_char c) (c == 0x3B) refl refl (chars_found (w ++ encode_utf8 c) cs)
  where
    by : (x y : Bool) → is_ncname_char c ≡ x → (c == 0x3B) ≡ y → (Tells (reference_scan (in_name (w ++ encode_utf8 c)) cs) → CharsHere cs) → CharsHere (c ∷ cs)
    by true y e i later =
        let k = later (tells_on (in_name w) (in_name (w ++ encode_utf8 c)) c cs (cond-true (is_ncname_char c) _ _ e) h) in
        record { chars = c ∷ k.chars; behind = k.behind; parts = ap (λ z. c ∷ z) k.parts; goes = and_from (is_ncname_char c) (list_all is_ncname_char k.chars) e k.goes }
    by false true e i later = record { chars = []; behind = cs; parts = ap (λ z. z ∷ cs) (eqb-true c 0x3B i); goes = refl }
    by false false e i later = absurd (tells_not (in_name w) c cs (cond-false (is_ncname_char c) _ _ e ∙ cond-false (c == 0x3B) _ _ i) h)

told_of : (cs : List ℕ) {s after : List ℕ} → ReferenceAt false (0x26 ∷ encode_utf8_all cs) s after → Told cs (reference_scan begun cs)
told_of cs {s} {after} a = by (reference_scanned cs a)
  where
    by : Refers (reference_scan begun cs) s after → Told cs (reference_scan begun cs)
    by (refers c fs i j k) =
        subst (Told cs) (sym i) (is_referred (subst (λ z. ReferenceAt false (0x26 ∷ encode_utf8_all cs) z (encode_utf8_all fs)) j (subst (λ z. ReferenceAt false (0x26 ∷ encode_utf8_all cs) s z) k a)))

entity_told : (c : ℕ) (cs : List ℕ) → is_ncname_start c ≡ true → CharsHere cs → Told (c ∷ cs) (reference_scan begun (c ∷ cs))
entity_told c cs h k =
    let n : NameAt (c ∷ cs) (0x3B ∷ k.behind) = record { first = c; others = k.chars; parts = ap (λ w. c ∷ w) k.parts; starts = h; goes = k.goes; ends = refl } in
    let (name, a) = name_encoded n in
    let e : EntityAt (0x26 ∷ encode_utf8_all (c ∷ cs)) name (encode_utf8_all k.behind) = record { rest = encode_utf8_all (c ∷ cs); opens = refl; names = subst (λ z. NcNameAt (encode_utf8_all (c ∷ cs)) name z) (first_encoded 0x3B k.behind (omega arith)) a } in
    by name e (predefined name) refl
  where
    by : (name : List ℕ) → EntityAt (0x26 ∷ encode_utf8_all (c ∷ cs)) name (encode_utf8_all k.behind) → (o : Option ℕ) → predefined name ≡ o → Told (c ∷ cs) (reference_scan begun (c ∷ cs))
    by name e None i =
        let o : OtherEntityAt (0x26 ∷ encode_utf8_all (c ∷ cs)) = record { name = name; after = encode_utf8_all k.behind; refers = e; not_predefined = i } in
        subst (Told (c ∷ cs)) (sym (other_scanned (c ∷ cs) o)) (is_other o)
    by name e (Some x) i = told_of (c ∷ cs) (entity e i)

number_told : (cs : List ℕ) → Tells (reference_scan number_sign cs) → Told (0x23 ∷ cs) (reference_scan begun (0x23 ∷ cs))
number_told [] h = absurd h
number_told (c ∷ cs) h = by (c == 0x78) refl
  where
    hexadecimal_told : (ds : List ℕ) → cs ≡ ds → c ≡ 0x78 → Tells (reference_scan x_sign ds) → Told (0x23 ∷ c ∷ cs) (reference_scan begun (0x23 ∷ c ∷ cs))
    hexadecimal_told [] e x t = absurd t
    hexadecimal_told (d ∷ ds) e x t =
        let k = first_found 16 x_sign d ds sixteen refl t in
        let a : ReferenceAt false (0x26 ∷ encode_utf8_all (0x23 ∷ 0x78 ∷ d ∷ ds)) (encode_utf8 (digits_value 16 k.digits)) (encode_utf8_all k.behind) =
        subst (λ z. ReferenceAt false (0x26 ∷ z) (encode_utf8 (digits_value 16 k.digits)) (encode_utf8_all k.behind)) (sym (mark_encoded (codes "#x") (d ∷ ds) refl)) (hexadecimal k.run k.char) in
        subst (λ z. Told (0x23 ∷ z) (reference_scan begun (0x23 ∷ z))) (sym (ap (λ z. z ∷ cs) x ∙ ap (λ w. 0x78 ∷ w) e)) (told_of (0x23 ∷ 0x78 ∷ d ∷ ds) a)

    by : (x : Bool) → (c == 0x78) ≡ x → Told (0x23 ∷ c ∷ cs) (reference_scan begun (0x23 ∷ c ∷ cs))
    by true e = hexadecimal_told cs refl (eqb-true c 0x78 e) (tells_on number_sign x_sign c cs (cond-true (c == 0x78) _ _ e) h)
    by false e =
        let k = first_found 10 number_sign c cs ten (cond-false (c == 0x78) _ _ e) h in
        let a : ReferenceAt false (0x26 ∷ encode_utf8_all (0x23 ∷ c ∷ cs)) (encode_utf8 (digits_value 10 k.digits)) (encode_utf8_all k.behind) =
        subst (λ z. ReferenceAt false (0x26 ∷ z) (encode_utf8 (digits_value 10 k.digits)) (encode_utf8_all k.behind)) (sym (mark_encoded (codes "#") (c ∷ cs) refl)) (decimal k.run k.char) in
        told_of (0x23 ∷ c ∷ cs) a

told_if : (cs : List ℕ) → Tells (reference_scan begun cs) → Told cs (reference_scan begun cs)
told_if [] h = absurd h
told_if (c ∷ cs) h = by (c == 0x23) (is_ncname_start c) refl refl
  where
    by : (x y : Bool) → (c == 0x23) ≡ x → is_ncname_start c ≡ y → Told (c ∷ cs) (reference_scan begun (c ∷ cs))
    by true y e i =
        subst (λ z. Told (z ∷ cs) (reference_scan begun (z ∷ cs))) (sym (eqb-true c 0x23 e)) (number_told cs (tells_on begun number_sign c cs (cond-true (c == 0x23) _ _ e) h))
    by false true e i =
        entity_told c cs i (chars_found (encode_utf8 c) cs (tells_on begun (in_name (encode_utf8 c)) c cs (cond-false (c == 0x23) _ _ e ∙ cond-true (is_ncname_start c) _ _ i) h))
    by false false e i = absurd (tells_not begun c cs (cond-false (c == 0x23) _ _ e ∙ cond-false (is_ncname_start c) _ _ i) h)

by_tells : (cs : List ℕ) (x : ReferenceScan) → (Tells x → Told cs x) → Told cs x
by_tells cs (referred c r) h = h tt
by_tells cs (referring k) h = goes_on
by_tells cs scans.other h = h tt
by_tells cs no_reference h = is_none

pub told : (cs : List ℕ) → Told cs (reference_scan begun cs)
told cs = by_tells cs (reference_scan begun cs) (told_if cs)
