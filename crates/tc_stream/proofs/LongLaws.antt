-- Where a tag is too long, and that one that is so has no end among its first bytes.
use Rattle.std.proofs.Common.{◌≡◌, ℕ, suc, ◌+◌, ◌<◌, ◌≤◌, ◌-◌, Bool, true, false, not, ◌==◌, List, [], ◌∷◌, ◌++◌, refl, ap, ◌∙◌, sym, subst, length, take, drop, arith, codes, Option, None, append_assoc, length-append, length-drop, take-append-drop}
use Rattle.std.specs.Prelude.{encode_utf8, encode_utf8_all}
use Rattle.std.specs.List.{list_all}
use Rattle.std.proofs.Math.Seq.{take-append-add}
use Rattle.std.proofs.lemmas.Bool.{true≢false, and_parts, and_from, eqb-true}
use Rattle.std.proofs.lemmas.List.{take-append-le, take_all}
use Rattle.std.proofs.lemmas.List.Folds.{list_all-append}
use Rattle.std.proofs.lemmas.Str.{char_from_byte}
use Rattle.tc_base.specs.Characters.{is_white}
use Rattle.tc_model.specs.Names.{is_ncname_start, is_ncname_char}
use Rattle.tc_model.specs.XmlTextBytes.{Lacks, after_white}
use Rattle.tc_model.specs.XmlTextNames.{NcNameAt, QualifiedName, QNameAt, unprefixed, prefixed}
use Rattle.tc_model.proofs.XmlTextPhrases.{same_others, start_is_char}
use Rattle.tc_stream.specs.Scans.{TagScan, ended, quoted, tag_scan}
use Rattle.tc_tags.specs.XmlTextTags.{WrittenElement, TagFormAt, EndTagAt, WholeTagAt, tag_length}
use Rattle.tc_tags.specs.XmlTextTags as t
use Rattle.tc_stream.specs.XmlTextMeasures.{longest_tag, IsLongTag, long_start, long_end}
use Rattle.tc_tags.specs.Begins.{BeginsTag}
use Rattle.tc_stream.specs.Goes.{Level, IsLong}
use Rattle.tc_tags.proofs.TagLaws.{EndsAt, open_end, empty_end}
use Rattle.tc_stream.proofs.TagEndLaws.{then_tag, tag_more, tag_scanned}
use Rattle.tc_stream.proofs.TagSearch.{lacks_one}
use Rattle.tc_stream.proofs.SplitLaws.{Splits, free_before, white_more, white_none}
use Rattle.tc_stream.proofs.EncodedLaws.{FirstByte, first_byte, free_of, free_encoded, free_lacks}
use Rattle.tc_stream.proofs.RefusedLaws.{ended_is, ended_longer}

-- bytes without a `>`

pub lacks_free : (w : List ℕ) → Lacks (0x3E ∷ []) w → free_of 0x3E w ≡ true
lacks_free w l = ap (free_of 0x3E) (sym (take_all (length w) w (omega arith)) ∙ ap (λ n. take n w) (sym l)) ∙ free_before 0x3E w

pub free_lack : (w : List ℕ) → free_of 0x3E w ≡ true → Lacks (0x3E ∷ []) w
free_lack [] h = refl
free_lack (b ∷ w) h =
    let both = and_parts (not (b == 0x3E)) (free_of 0x3E w) h in lacks_one b w (λ e. true≢false (sym both.0 ∙ ap not e)) (free_lack w both.1)

pub free_front : (w v : List ℕ) → free_of 0x3E (w ++ v) ≡ true → free_of 0x3E w ≡ true
free_front [] v h = refl
free_front (b ∷ w) v h =
    let both = and_parts (not (b == 0x3E)) (free_of 0x3E (w ++ v)) h in and_from (not (b == 0x3E)) (free_of 0x3E w) both.0 (free_front w v both.1)

free_take : (n : ℕ) (w : List ℕ) → free_of 0x3E w ≡ true → free_of 0x3E (take n w) ≡ true
free_take n w h = free_front (take n w) (drop n w) (ap (free_of 0x3E) (take-append-drop n w) ∙ h)

-- what stands in an end tag before its `>`

not_bracket : (p : ℕ → Bool) → p 0x3E ≡ false → (c : ℕ) → p c ≡ true → not (c == 0x3E) ≡ true
not_bracket p n c h = by (c == 0x3E) refl
  where
    by : (x : Bool) → (c == 0x3E) ≡ x → not (c == 0x3E) ≡ true
    by true e = absurd (true≢false (sym h ∙ (ap p (eqb-true c 0x3E e) ∙ n)))
    by false e = ap not e

name_chars_free : (cs : List ℕ) → list_all is_ncname_char cs ≡ true → free_of 0x3E cs ≡ true
name_chars_free [] h = refl
name_chars_free (c ∷ cs) h =
    let both = and_parts (is_ncname_char c) (list_all is_ncname_char cs) h in
    and_from (not (c == 0x3E)) (free_of 0x3E cs) (not_bracket is_ncname_char refl c both.0) (name_chars_free cs both.1)

name_free : {n after : List ℕ} {bs : List ℕ} → NcNameAt bs n after → free_of 0x3E n ≡ true
name_free {n} a =
    let (c, cs, is, first, goes) = a.lawful in
    subst (λ w. free_of 0x3E w ≡ true) is (free_encoded 0x3E (c ∷ cs) (omega arith) (name_chars_free (c ∷ cs) (and_from (is_ncname_char c) (list_all is_ncname_char cs) (start_is_char c first) goes)))

-- what stands before the first `>`
pub record FreeTo (bs after : List ℕ) : Type 0 where
  pub inside : List ℕ
  pub splits : Splits 0x3E bs inside after

free_past : {bs cs after : List ℕ} (w : List ℕ) → bs ≡ w ++ cs → free_of 0x3E w ≡ true → FreeTo cs after → FreeTo bs after
free_past {cs = cs} {after = after} w e h k = record {
  inside = w ++ k.inside;
  splits = record {
    parts = e ∙ (ap (λ z. w ++ z) k.splits.parts ∙ sym (append_assoc w k.inside (0x3E ∷ after)));
    free = list_all-append (λ b. not (b == 0x3E)) w k.inside ∙ and_from (free_of 0x3E w) (free_of 0x3E k.inside) h k.splits.free;
  };
}

qname_free : {bs past after : List ℕ} {n : QualifiedName} → QNameAt bs n past → FreeTo past after → FreeTo bs after
qname_free (unprefixed {local = n} a e) k = free_past n a.parts (name_free a) k
qname_free (prefixed {prefix = p} {local = n} a b) k = free_past p a.parts (name_free a) (free_past (0x3A ∷ []) refl refl (free_past n b.parts (name_free b) k))

white_free : (bs : List ℕ) {after : List ℕ} → FreeTo (after_white bs) after → FreeTo bs after
white_free [] k = k
white_free (b ∷ bs) {after} k = by (is_white b) refl (λ i. white_free bs i) k
  where
    by : (x : Bool) → is_white b ≡ x → (FreeTo (after_white bs) after → FreeTo bs after) → FreeTo (after_white (b ∷ bs)) after → FreeTo (b ∷ bs) after
    by true e later k = free_past (b ∷ []) refl (and_from (not (b == 0x3E)) true (not_bracket is_white refl b e) refl) (later (subst (λ z. FreeTo z after) (white_more b bs e) k))
    by false e later k = subst (λ z. FreeTo z after) (white_none b bs e) k

pub end_free : {bs after : List ℕ} {n : QualifiedName} → EndTagAt n bs after → FreeTo bs after
end_free {after = after} c =
    free_past (codes "</") c.opens refl
    (qname_free c.names (white_free c.past_name (record { inside = []; splits = record { parts = c.closes; free = refl } })))

-- what a tag begins with: a `<` and the first character of its name

pub record Starts (bs : List ℕ) : Type 0 where
  pub char : ℕ
  pub rest : List ℕ
  pub opens : bs ≡ 0x3C ∷ (encode_utf8 char ++ rest)
  pub starts : is_ncname_start char ≡ true

name_starts : {bs rest name past : List ℕ} → bs ≡ 0x3C ∷ rest → NcNameAt rest name past → Starts bs
name_starts {past = past} e a =
    let (c, cs, is, first, goes) = a.lawful in
    record {
      char = c;
      rest = encode_utf8_all cs ++ past;
      opens = e ∙ ap (λ w. 0x3C ∷ w) (a.parts ∙ (ap (λ w. w ++ past) (sym is) ∙ append_assoc (encode_utf8 c) (encode_utf8_all cs) past));
      starts = first;
    }

pub tag_starts : {bs rest past : List ℕ} {name : QualifiedName} → bs ≡ 0x3C ∷ rest → QNameAt rest name past → Starts bs
tag_starts e (unprefixed a n) = name_starts e a
tag_starts e (prefixed a b) = name_starts e a

started : {bs : List ℕ} (c : ℕ) (rest : List ℕ) → bs ≡ 0x3C ∷ (encode_utf8 c ++ rest) → is_ncname_start c ≡ true → Starts bs
started c rest e starts = record { char = c; rest = rest; opens = e; starts = starts }

pub starts_kept : {bs : List ℕ} (f : List ℕ) → Starts bs → Starts (bs ++ f)
starts_kept f s = record { char = s.char; rest = s.rest ++ f; opens = ap (λ w. w ++ f) s.opens ∙ ap (λ w. 0x3C ∷ w) (append_assoc (encode_utf8 s.char) s.rest f); starts = s.starts }

-- no name begins with a slash, nor with a mark
start_apart : (c d : ℕ) (rest r : List ℕ) → d < 128 → is_ncname_start d ≡ false → is_ncname_start c ≡ true → encode_utf8 c ++ rest ≡ d ∷ r → ⊥
start_apart c d rest r low none starts e = true≢false (sym starts ∙ (ap is_ncname_start (char_from_byte (d ∷ r) rest c (sym e) low (omega arith)) ∙ none))

pub start_no_slash : {bs r : List ℕ} → Starts bs → bs ≡ codes "</" ++ r → ⊥
start_no_slash {r = r} s f = start_apart s.char 0x2F s.rest r (omega arith) refl s.starts (same_others (sym s.opens ∙ f))

pub start_begins : {bs : List ℕ} → Starts bs → BeginsTag bs
start_begins s =
    let f : FirstByte s.char = first_byte s.char in
    let more = f.others ++ s.rest in
    let is : encode_utf8 s.char ++ s.rest ≡ f.byte ∷ more = ap (λ w. w ++ s.rest) f.is in
    record {
      next = f.byte;
      rest = more;
      opens = s.opens ∙ ap (λ w. 0x3C ∷ w) is;
      no_mark = λ h. start_apart s.char 0x21 s.rest more (omega arith) refl s.starts (is ∙ ap (λ z. z ∷ more) h);
      no_instruction = λ h. start_apart s.char 0x3F s.rest more (omega arith) refl s.starts (is ∙ ap (λ z. z ∷ more) h);
    }

pub end_begins : {bs : List ℕ} (rest : List ℕ) → bs ≡ codes "</" ++ rest → (b : BeginsTag bs) × (b.next ≡ 0x2F)
end_begins rest e = (record { next = 0x2F; rest = rest; opens = e; no_mark = λ h. omega (arith, h); no_instruction = λ h. omega (arith, h) }, refl)

pub long_begins : {n d : ℕ} {es : List WrittenElement} {bs : List ℕ} → IsLongTag n es d bs → BeginsTag bs
long_begins (long_start c rest z e starts long none) = start_begins (started c rest e starts)
long_begins (long_end rest e long none) = (end_begins rest e).0

-- no tag is too long with which elements stand too deep
pub long_deep : {n d : ℕ} {es : List WrittenElement} {bs : List ℕ} → d ≡ 0 → Starts bs → IsLongTag n es d bs → ⊥
long_deep none s (long_start c rest z e starts long unended) = omega (arith, z, none)
long_deep none s (long_end rest e long unended) = start_no_slash s e

-- nor what begins with neither a name nor a slash
pub long_nameless : {n d : ℕ} {es : List WrittenElement} {bs : List ℕ} → (Starts bs → ⊥) → ((r : List ℕ) → bs ≡ codes "</" ++ r → ⊥) → IsLongTag n es d bs → ⊥
long_nameless no_name no_slash (long_start c rest z e starts long unended) = no_name (started c rest e starts)
long_nameless no_name no_slash (long_end rest e long unended) = no_slash rest e

-- nor an end tag where no element is open
pub long_rootless : {ls : List Level} {bs rest : List ℕ} → ls ≡ [] → bs ≡ codes "</" ++ rest → IsLong ls bs → ⊥
long_rootless {ls = []} none is (long_start c rest z e starts long unended) = start_no_slash (started c rest e starts) is
long_rootless {ls = l ∷ ls} none is long = omega (arith, ap length none)

pub long_length : {n d : ℕ} {es : List WrittenElement} {bs : List ℕ} → IsLongTag n es d bs → n < length bs
long_length (long_start c rest z e starts long none) = long
long_length (long_end rest e long none) = long

-- a tag that has an end holds it among so many bytes, or is longer

-- among the first bytes
ended_within : (n : ℕ) (bs r after : List ℕ) → tag_scan None (take n bs) ≡ ended r → tag_scan None bs ≡ ended after → length bs - length after ≤ n
ended_within n bs r after e f =
    let whole : tag_scan None bs ≡ ended (r ++ drop n bs) = ap (tag_scan None) (sym (take-append-drop n bs)) ∙ (tag_more None (take n bs) (drop n bs) ∙ ap (λ s. then_tag s (drop n bs)) e) in
    omega (arith, ap length (ended_is (sym f ∙ whole)), length-append r (drop n bs), length-drop n bs)

-- or behind them
quoted_longer : (n : ℕ) (q : Option ℕ) (bs after : List ℕ) → tag_scan None (take n bs) ≡ quoted q → tag_scan None bs ≡ ended after → n < length bs - length after
quoted_longer n q bs after e f =
    let there : tag_scan q (drop n bs) ≡ ended after = sym (ap (λ s. then_tag s (drop n bs)) e) ∙ (sym (tag_more None (take n bs) (drop n bs)) ∙ (ap (tag_scan None) (take-append-drop n bs) ∙ f)) in
    omega (arith, ended_longer q (drop n bs) after there, length-drop n bs)

-- so one of so many bytes ends among as many
pub ends_among : (n : ℕ) (bs after : List ℕ) → tag_scan None bs ≡ ended after → length bs - length after ≤ n → ((r : List ℕ) → tag_scan None (take n bs) ≡ ended r → ⊥) → ⊥
ends_among n bs after f low none = by (tag_scan None (take n bs)) refl
  where
    by : (s : TagScan) → tag_scan None (take n bs) ≡ s → ⊥
    by (ended r) e = none r e
    by (quoted q) e = omega (arith, low, quoted_longer n q bs after e f)

pub closes_among : (n : ℕ) (inside after : List ℕ) → length inside < n → Lacks (0x3E ∷ []) (take n (inside ++ 0x3E ∷ after)) → ⊥
closes_among n inside after low lacks =
    let sum : length inside + suc (n - length inside - 1) ≡ n = omega (arith, low) in
    let front : take n (inside ++ 0x3E ∷ after) ≡ inside ++ 0x3E ∷ take (n - length inside - 1) after =
    ap (λ k. take k (inside ++ 0x3E ∷ after)) (sym sum) ∙ take-append-add inside (0x3E ∷ after) (suc (n - length inside - 1)) in
    free_lacks 0x3E inside (take (n - length inside - 1) after) (subst (λ w. free_of 0x3E w ≡ true) front (lacks_free (take n (inside ++ 0x3E ∷ after)) lacks))

-- a tag that is too long is no short one

long_no_start : {d : ℕ} {es : List WrittenElement} {bs after : List ℕ} → Starts bs → IsLongTag longest_tag es d bs → tag_scan None bs ≡ ended after → length bs - length after ≤ longest_tag → ⊥
long_no_start {bs = bs} {after = after} s (long_start c rest z e starts long none) f low = ends_among longest_tag bs after f low none
long_no_start s (long_end rest e long none) f low = start_no_slash s e

pub long_no_end : {d : ℕ} {es : List WrittenElement} {bs rest : List ℕ} (inside after : List ℕ) → IsLongTag longest_tag es d bs → bs ≡ codes "</" ++ rest → bs ≡ inside ++ 0x3E ∷ after → length inside < longest_tag → ⊥
long_no_end inside after (long_start c rest z e starts long none) opens is low = start_no_slash (started c rest e starts) opens
long_no_end inside after (long_end rest e long none) opens is low = closes_among longest_tag inside after low (subst (λ w. Lacks (0x3E ∷ []) (take longest_tag w)) is none)

-- nor is one whose end has come
pub not_long : {d : ℕ} {es : List WrittenElement} (item f : List ℕ) → tag_scan None item ≡ ended [] → length item ≤ longest_tag → Starts (item ++ f) → IsLongTag longest_tag es d (item ++ f) → ⊥
not_long item f scanned low s long =
    long_no_start s long (tag_more None item f ∙ ap (λ z. then_tag z f) scanned) (omega (arith, low, length-append item f))

pub long_not_short : {total d : ℕ} {es : List WrittenElement} {at after : List ℕ} → IsLongTag longest_tag es d at → WholeTagAt total at after → tag_length at after ≤ longest_tag → ⊥
long_not_short long (t.start_tag f) low = long_no_start (tag_starts f.opens f.names) long (tag_scanned f (open_end refl)) low
long_not_short long (t.empty_tag f) low = long_no_start (tag_starts f.opens f.names) long (tag_scanned f (empty_end refl)) low
long_not_short {at = at} {after = after} long (t.end_tag f) low =
    let k = end_free f in
    long_no_end k.inside after long f.opens k.splits.parts (omega (arith, low, ap length k.splits.parts, length-append k.inside (0x3E ∷ after)))

-- a whole tag that has too many bytes is too long

pub long_form : {total d : ℕ} {es : List WrittenElement} {at end after : List ℕ} {e : WrittenElement} → TagFormAt false total at e end → EndsAt end after → longest_tag < tag_length at after → IsLongTag longest_tag es (suc d) at
long_form {at = at} {after = after} f k long =
    let s = tag_starts f.opens f.names in
    long_start s.char s.rest (omega arith) s.opens s.starts (omega (arith, long)) (λ r e. omega (arith, long, ended_within longest_tag at r after e (tag_scanned f k)))

pub long_end_tag : {d : ℕ} {e : WrittenElement} {es : List WrittenElement} {at after : List ℕ} → EndTagAt e.name at after → longest_tag < tag_length at after → IsLongTag longest_tag (e ∷ es) d at
long_end_tag {at = at} {after = after} f long =
    let k = end_free f in
    let low : longest_tag ≤ length k.inside = omega (arith, long, ap length k.splits.parts, length-append k.inside (0x3E ∷ after)) in
    let front : take longest_tag at ≡ take longest_tag k.inside = ap (take longest_tag) k.splits.parts ∙ take-append-le longest_tag k.inside (0x3E ∷ after) low in
    long_end f.rest f.opens (omega (arith, long)) (free_lack (take longest_tag at) (ap (free_of 0x3E) front ∙ free_take longest_tag k.inside k.splits.free))

-- what is too long is so whatever follows
pub long_more : {n d : ℕ} {es : List WrittenElement} {at : List ℕ} (f : List ℕ) → IsLongTag n es d at → IsLongTag n es d (at ++ f)
long_more {n} {at = at} f (long_start c rest z e starts long none) =
    let front : take n (at ++ f) ≡ take n at = take-append-le n at f (omega (arith, long)) in
    long_start c (rest ++ f) z (ap (λ w. w ++ f) e ∙ ap (λ w. 0x3C ∷ w) (append_assoc (encode_utf8 c) rest f)) starts (omega (arith, long, length-append at f)) (λ r s. none r (sym (ap (tag_scan None) front) ∙ s))
long_more {n} {at = at} f (long_end rest e long none) =
    let front : take n (at ++ f) ≡ take n at = take-append-le n at f (omega (arith, long)) in
    long_end (rest ++ f) (ap (λ w. w ++ f) e) (omega (arith, long, length-append at f)) (subst (λ w. Lacks (0x3E ∷ []) w) (sym front) none)
