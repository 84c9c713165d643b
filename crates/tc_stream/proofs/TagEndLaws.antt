-- Byte by byte a tag ends where its form ends.
use Rattle.std.proofs.Common.{◌≡◌, inl, inr, ◌⊎◌, ℕ, suc, ◌+◌, ◌/◌, ◌%◌, ◌<◌, ◌≤◌, Bool, true, false, cond, not, ◌&&◌, ◌||◌, ◌==◌, if◌then◌else◌, List, [], ◌∷◌, ◌++◌, refl, ap, ◌∙◌, sym, subst, drop, arith, leb, ltb, Option, None, Some}
use Rattle.std.specs.Prelude.{encode_utf8, encode_utf8_all}
use Rattle.std.specs.List.{prefix_len, list_all}
use Rattle.std.proofs.Math.Utf8.{encode}
use Rattle.std.proofs.lemmas.Bool.{true≢false, and_parts, and_from, le-leb, ltb-true, eqb-true, eq-eqb, cases_lt}
use Rattle.std.proofs.lemmas.List.Folds.{list_all-append}
use Rattle.std.proofs.lemmas.Str.{encode_ascii}
use Rattle.tc_base.specs.Characters.{is_white}
use Rattle.tc_model.specs.Names.{is_ncname_char}
use Rattle.tc_model.specs.XmlTextBytes.{RunAt, after_white, EqualsAt, IsQuote}
use Rattle.tc_model.specs.XmlTextNames.{NcNameAt, QualifiedName, QNameAt, unprefixed, prefixed}
use Rattle.tc_model.specs.XmlTextReferences.{is_digit, EntityAt, ReferenceAt, decimal, hexadecimal, entity, other, is_plain_within, ValueAt, closed, plain, QuotedAt}
use Rattle.tc_model.specs.XmlTextReferences as r
use Rattle.tc_model.specs.XmlTextScopes.{WrittenAttribute}
use Rattle.tc_model.specs.XmlTextContent.{AttributesAt, no_more, attribute}
use Rattle.tc_model.proofs.XmlTextPhrases.{start_is_char, fails_at}
use Rattle.tc_tags.specs.XmlTextTags.{WrittenElement, TagFormAt}
use Rattle.tc_stream.specs.Scans.{TagScan, ended, quoted, tag_scan}
use Rattle.tc_tags.proofs.TagLaws.{EndsAt, open_end, empty_end}

-- what a scan is behind more bytes
abbrev pub then_tag : TagScan → List ℕ → TagScan
then_tag (ended r) t = ended (r ++ t)
then_tag (quoted q) t = tag_scan q t

pub tag_more : (q : Option ℕ) (w t : List ℕ) → tag_scan q (w ++ t) ≡ then_tag (tag_scan q w) t
tag_more q [] t = refl
tag_more None (b ∷ w) t = by (b == 0x3E) (b == 0x22) (b == 0x27) (tag_more (Some b) w t) (tag_more None w t)
  where
    by : (x y z : Bool) → tag_scan (Some b) (w ++ t) ≡ then_tag (tag_scan (Some b) w) t → tag_scan None (w ++ t) ≡ then_tag (tag_scan None w) t
        → (if x then ended (w ++ t) else (if y then tag_scan (Some b) (w ++ t) else (if z then tag_scan (Some b) (w ++ t) else tag_scan None (w ++ t))))
        ≡ then_tag (if x then ended w else (if y then tag_scan (Some b) w else (if z then tag_scan (Some b) w else tag_scan None w))) t
    by true y z p q = refl
    by false true z p q = p
    by false false true p q = p
    by false false false p q = q
tag_more (Some a) (b ∷ w) t = by (b == a) (tag_more None w t) (tag_more (Some a) w t)
  where
    by : (x : Bool) → tag_scan None (w ++ t) ≡ then_tag (tag_scan None w) t → tag_scan (Some a) (w ++ t) ≡ then_tag (tag_scan (Some a) w) t
        → (if x then tag_scan None (w ++ t) else tag_scan (Some a) (w ++ t)) ≡ then_tag (if x then tag_scan None w else tag_scan (Some a) w) t
    by true p q = p
    by false p q = q

-- bytes that neither end a tag nor begin or end a value

abbrev pub is_calm : ℕ → Bool
is_calm b = not (b == 0x3E || b == 0x22 || b == 0x27)

-- within a quote or none
abbrev pub IsIn : Option ℕ → Type 0
IsIn None = Unit {0}
IsIn (Some q) = IsQuote q

pub calm_past : (s : Option ℕ) (b : ℕ) (t : List ℕ) → IsIn s → is_calm b ≡ true → tag_scan s (b ∷ t) ≡ tag_scan s t
calm_past None b t i h = by (b == 0x3E) (b == 0x22) (b == 0x27) h
  where
    by : (x y z : Bool) → not (x || y || z) ≡ true
        → (if x then ended t else (if y then tag_scan (Some b) t else (if z then tag_scan (Some b) t else tag_scan None t))) ≡ tag_scan None t
    by true y z h = absurd (true≢false (sym h))
    by false true z h = absurd (true≢false (sym h))
    by false false true h = absurd (true≢false (sym h))
    by false false false h = refl
calm_past (Some q) b t i h = by (b == q) refl i
  where
    by : (x : Bool) → (b == q) ≡ x → IsQuote q → (if x then tag_scan None t else tag_scan (Some q) t) ≡ tag_scan (Some q) t
    by true e (inl f) = absurd (true≢false (sym h ∙ ap is_calm (eqb-true b q e ∙ f)))
    by true e (inr f) = absurd (true≢false (sym h ∙ ap is_calm (eqb-true b q e ∙ f)))
    by false e k = refl

pub calm_all_past : (s : Option ℕ) (w t : List ℕ) → IsIn s → list_all is_calm w ≡ true → tag_scan s (w ++ t) ≡ tag_scan s t
calm_all_past s [] t i h = refl
calm_all_past s (b ∷ w) t i h =
    let both = and_parts (is_calm b) (list_all is_calm w) h in calm_past s b (w ++ t) i both.0 ∙ calm_all_past s w t i both.1

-- a run that goes on within its quote
pub run_past : (s : Option ℕ) (p : ℕ → Bool) → ((b : ℕ) (t : List ℕ) → p b ≡ true → tag_scan s (b ∷ t) ≡ tag_scan s t) → (bs : List ℕ) → tag_scan s bs ≡ tag_scan s (drop (prefix_len p bs) bs)
run_past s p step [] = refl
run_past s p step (b ∷ bs) = by (p b) refl (run_past s p step bs)
  where
    by : (x : Bool) → p b ≡ x → tag_scan s bs ≡ tag_scan s (drop (prefix_len p bs) bs) → tag_scan s (b ∷ bs) ≡ tag_scan s (drop (prefix_len p (b ∷ bs)) (b ∷ bs))
    by true e later =
        let one : prefix_len p (b ∷ bs) ≡ suc (prefix_len p bs) = ap (λ x. cond x (1 + prefix_len p bs) 0) e ∙ omega arith in
        step b bs e ∙ (later ∙ ap (λ k. tag_scan s (drop k (b ∷ bs))) (sym one))
    by false e later = ap (λ k. tag_scan s (drop k (b ∷ bs))) (sym (ap (λ x. cond x (1 + prefix_len p bs) 0) e))

-- which bytes are calm: where a test that fails at those three bytes passes
pub calm_where : (p : ℕ → Bool) → p 0x3E ≡ false → p 0x22 ≡ false → p 0x27 ≡ false → (b : ℕ) → p b ≡ true → is_calm b ≡ true
calm_where p e f g b h = by (b == 0x3E) (b == 0x22) (b == 0x27) refl refl refl
  where
    by : (x y z : Bool) → (b == 0x3E) ≡ x → (b == 0x22) ≡ y → (b == 0x27) ≡ z → not (x || y || z) ≡ true
    by true y z is j k = absurd (true≢false (sym h ∙ (ap p (eqb-true b 0x3E is) ∙ e)))
    by false true z is j k = absurd (true≢false (sym h ∙ (ap p (eqb-true b 0x22 j) ∙ f)))
    by false false true is j k = absurd (true≢false (sym h ∙ (ap p (eqb-true b 0x27 k) ∙ g)))
    by false false false is j k = refl

pub bytes_high : (c : ℕ) → 128 ≤ c → list_all (leb 128) (encode_utf8 c) ≡ true
unfolding encode
bytes_high c l = by (ltb c 128) (ltb c 2048) (ltb c 65536) refl
  where
    two : (m n : ℕ) → 128 ≤ m → 128 ≤ n → list_all (leb 128) (m ∷ n ∷ []) ≡ true
    two m n h k = and_from (leb 128 m) (leb 128 n && true) (le-leb 128 m h) (and_from (leb 128 n) true (le-leb 128 n k) refl)

    three : (l m n : ℕ) → 128 ≤ l → 128 ≤ m → 128 ≤ n → list_all (leb 128) (l ∷ m ∷ n ∷ []) ≡ true
    three l m n g h k = and_from (leb 128 l) (list_all (leb 128) (m ∷ n ∷ [])) (le-leb 128 l g) (two m n h k)

    four : (i l m n : ℕ) → 128 ≤ i → 128 ≤ l → 128 ≤ m → 128 ≤ n → list_all (leb 128) (i ∷ l ∷ m ∷ n ∷ []) ≡ true
    four i l m n f g h k = and_from (leb 128 i) (list_all (leb 128) (l ∷ m ∷ n ∷ [])) (le-leb 128 i f) (three l m n g h k)

    by : (x y z : Bool) → ltb c 128 ≡ x
        → list_all (leb 128) (cond x (c ∷ []) (cond y ((192 + c / 64) ∷ (128 + c % 64) ∷ []) (cond z ((224 + c / 4096) ∷ (128 + c / 64 % 64) ∷ (128 + c % 64) ∷ []) ((240 + c / 262144) ∷ (128 + c / 4096 % 64) ∷ (128 + c / 64 % 64) ∷ (128 + c % 64) ∷ [])))) ≡ true
    by true y z e = absurd (omega (arith, ltb-true c 128 e))
    by false true z e = two (192 + c / 64) (128 + c % 64) (omega arith) (omega arith)
    by false false true e = three (224 + c / 4096) (128 + c / 64 % 64) (128 + c % 64) (omega arith) (omega arith) (omega arith)
    by false false false e = four (240 + c / 262144) (128 + c / 4096 % 64) (128 + c / 64 % 64) (128 + c % 64) (omega arith) (omega arith) (omega arith) (omega arith)

pub high_calm : (w : List ℕ) → list_all (leb 128) w ≡ true → list_all is_calm w ≡ true
high_calm [] h = refl
high_calm (b ∷ w) h =
    let both = and_parts (leb 128 b) (list_all (leb 128) w) h in and_from (is_calm b) (list_all is_calm w) (calm_where (leb 128) refl refl refl b both.0) (high_calm w both.1)

pub name_char_calm : (c : ℕ) → is_ncname_char c ≡ true → list_all is_calm (encode_utf8 c) ≡ true
name_char_calm c h = by (cases_lt c 128)
  where
    by : (c < 128) ⊎ (128 ≤ c) → list_all is_calm (encode_utf8 c) ≡ true
    by (inl low) = ap (list_all is_calm) (encode_ascii c low) ∙ and_from (is_calm c) true (calm_where is_ncname_char refl refl refl c h) refl
    by (inr high) = high_calm (encode_utf8 c) (bytes_high c high)

pub name_calm : (cs : List ℕ) → list_all is_ncname_char cs ≡ true → list_all is_calm (encode_utf8_all cs) ≡ true
name_calm [] h = refl
name_calm (c ∷ cs) h =
    let both = and_parts (is_ncname_char c) (list_all is_ncname_char cs) h in
    list_all-append is_calm (encode_utf8 c) (encode_utf8_all cs) ∙ and_from (list_all is_calm (encode_utf8 c)) (list_all is_calm (encode_utf8_all cs)) (name_char_calm c both.0) (name_calm cs both.1)

-- phrases

pub name_past : (s : Option ℕ) {bs n after : List ℕ} → IsIn s → NcNameAt bs n after → tag_scan s bs ≡ tag_scan s after
name_past s {bs} {n} {after} i a =
    let (c, cs, is, starts, others) = a.lawful in
    let calm : list_all is_calm (encode_utf8_all (c ∷ cs)) ≡ true = name_calm (c ∷ cs) (and_from (is_ncname_char c) (list_all is_ncname_char cs) (start_is_char c starts) others) in
    ap (tag_scan s) (a.parts ∙ ap (λ w. w ++ after) (sym is)) ∙ calm_all_past s (encode_utf8_all (c ∷ cs)) after i calm

pub qname_past : {bs after : List ℕ} {n : QualifiedName} → QNameAt bs n after → tag_scan None bs ≡ tag_scan None after
qname_past (unprefixed a e) = name_past None tt a
qname_past (prefixed {rest = rest} a b) = name_past None tt a ∙ (calm_past None 0x3A rest tt refl ∙ name_past None tt b)

pub white_past : (bs : List ℕ) → tag_scan None bs ≡ tag_scan None (after_white bs)
white_past bs = run_past None is_white (λ b t h. calm_past None b t tt (calm_where is_white refl refl refl b h)) bs

pub equals_past : {bs after : List ℕ} → EqualsAt bs after → tag_scan None bs ≡ tag_scan None after
equals_past {bs} a =
    white_past bs ∙ (ap (tag_scan None) a.sign ∙ (calm_past None 0x3D a.rest tt refl ∙ (white_past a.rest ∙ ap (tag_scan None) (sym a.past))))

pub digits_past : (s : Option ℕ) (base : ℕ) {bs ds after : List ℕ} → IsIn s → ((b : ℕ) → is_digit base b ≡ true → is_calm b ≡ true) → RunAt (is_digit base) bs ds (0x3B ∷ after) → tag_scan s bs ≡ tag_scan s after
digits_past s base {bs} {ds} {after} i calm a =
    run_past s (is_digit base) (λ b t h. calm_past s b t i (calm b h)) bs ∙ (ap (tag_scan s) (sym a.back) ∙ calm_past s 0x3B after i refl)

pub reference_past : (s : Option ℕ) {o : Bool} {bs v after : List ℕ} → IsIn s → ReferenceAt o bs v after → tag_scan s bs ≡ tag_scan s after
reference_past s i (decimal {rest = t} a h) =
    calm_past s 0x26 (0x23 ∷ t) i refl ∙ (calm_past s 0x23 t i refl ∙ digits_past s 10 i (calm_where (is_digit 10) refl refl refl) a)
reference_past s i (hexadecimal {rest = t} a h) =
    calm_past s 0x26 (0x23 ∷ 0x78 ∷ t) i refl ∙ (calm_past s 0x23 (0x78 ∷ t) i refl ∙ (calm_past s 0x78 t i refl ∙ digits_past s 16 i (calm_where (is_digit 16) refl refl refl) a))
reference_past s {after = after} i (entity a e) = ap (tag_scan s) a.opens ∙ (calm_past s 0x26 a.rest i refl ∙ (name_past s i a.names ∙ calm_past s 0x3B after i refl))
reference_past s {after = after} i (other h a e) = ap (tag_scan s) a.opens ∙ (calm_past s 0x26 a.rest i refl ∙ (name_past s i a.names ∙ calm_past s 0x3B after i refl))

pub plain_step : (q b : ℕ) (t : List ℕ) → is_plain_within q b ≡ true → tag_scan (Some q) (b ∷ t) ≡ tag_scan (Some q) t
plain_step q b t h = by (b == q) refl
  where
    by : (x : Bool) → (b == q) ≡ x → (if x then tag_scan None t else tag_scan (Some q) t) ≡ tag_scan (Some q) t
    by true e = absurd (true≢false (sym h ∙ (ap (is_plain_within q) (eqb-true b q e) ∙ fails_at q)))
    by false e = refl

pub value_past : {o : Bool} {q : ℕ} {bs v after : List ℕ} → IsQuote q → ValueAt o q bs v after → tag_scan (Some q) bs ≡ tag_scan None after
value_past {q = q} {after = after} i (closed e) = ap (tag_scan (Some q)) e ∙ ap (λ x. cond x (tag_scan None after) (tag_scan (Some q) after)) (eq-eqb q q refl)
value_past {q = q} {bs = bs} i (plain a v) = run_past (Some q) (is_plain_within q) (plain_step q) bs ∙ (ap (tag_scan (Some q)) (sym a.back) ∙ value_past i v)
value_past {q = q} i (r.reference a v) = reference_past (Some q) i a ∙ value_past i v

pub quote_opens : (q : ℕ) (t : List ℕ) → IsQuote q → tag_scan None (q ∷ t) ≡ tag_scan (Some q) t
quote_opens q t (inl e) = subst (λ z. tag_scan None (z ∷ t) ≡ tag_scan (Some z) t) (sym e) refl
quote_opens q t (inr e) = subst (λ z. tag_scan None (z ∷ t) ≡ tag_scan (Some z) t) (sym e) refl

pub quoted_past : {o : Bool} {bs v after : List ℕ} → QuotedAt o bs v after → tag_scan None bs ≡ tag_scan None after
quoted_past a = ap (tag_scan None) a.opens ∙ (quote_opens a.quote a.rest a.is_quote ∙ value_past a.is_quote a.closes)

pub attributes_past : {o : Bool} {total : ℕ} {bs after : List ℕ} {l : List WrittenAttribute} → AttributesAt o total bs l after → tag_scan None bs ≡ tag_scan None after
attributes_past {bs = bs} (no_more e) = white_past bs
attributes_past {bs = bs} (attribute w a e v l) = white_past bs ∙ (qname_past a ∙ (equals_past e ∙ (quoted_past v ∙ attributes_past l)))

pub form_past : {o : Bool} {total : ℕ} {bs after : List ℕ} {e : WrittenElement} → TagFormAt o total bs e after → tag_scan None bs ≡ tag_scan None after
form_past a = ap (tag_scan None) a.opens ∙ (calm_past None 0x3C a.rest tt refl ∙ (qname_past a.names ∙ attributes_past a.lists))

pub end_scanned : {end after : List ℕ} → EndsAt end after → tag_scan None end ≡ ended after
end_scanned (open_end e) = ap (tag_scan None) e
end_scanned {after = after} (empty_end e) = ap (tag_scan None) e ∙ calm_past None 0x2F (0x3E ∷ after) tt refl

-- a tag by its form ends where the scan says
pub tag_scanned : {o : Bool} {total : ℕ} {bs end after : List ℕ} {e : WrittenElement} → TagFormAt o total bs e end → EndsAt end after → tag_scan None bs ≡ ended after
tag_scanned f k = form_past f ∙ end_scanned k
