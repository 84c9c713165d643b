-- What stands at the front of characters, and of their bytes.
use Rattle.std.proofs.Common.{◌≡◌, inl, inr, ◌⊎◌, ℕ, ◌<◌, ◌≤◌, Bool, true, false, not, ◌==◌, leb, List, [], ◌∷◌, ◌++◌, refl, ap, ◌∙◌, sym, subst, length, arith, IsTrue, append_assoc, length-append}
use Rattle.std.specs.Prelude.{encode_utf8, encode_utf8_all, nat_lt}
use Rattle.std.specs.List.{list_all}
use Rattle.std.proofs.lemmas.Bool.{true≢false, and_parts, and_from, eqb-true, eq-eqb, cases_lt, leb-true, ltb-true}
use Rattle.std.proofs.lemmas.List.Folds.{list_all-append}
use Rattle.std.proofs.lemmas.Str.{encode_ascii, encode_same, encodes-append, char_from_byte, length-encode, len_utf8_bounds}
use Rattle.tc_base.specs.Characters.{is_white}
use Rattle.tc_model.specs.Names.{is_ncname_start, is_ncname_char}
use Rattle.tc_model.specs.XmlTextBytes.{BeginsWithWhite, after_white}
use Rattle.tc_model.specs.XmlTextNames.{NcNameAt}
use Rattle.tc_model.proofs.XmlTextPhrases.{same_others, up_to_unique}
use Rattle.tc_stream.proofs.TagEndLaws.{bytes_high}
use Rattle.tc_stream.proofs.TagExtendLaws.{white_ascii}
use Rattle.tc_stream.proofs.SplitLaws.{Splits, splits_up_to, splits_more, splits_here, white_more, white_none, white_begins, begins_white}

no_bytes : (c : ℕ) (r : List ℕ) → [] ≡ encode_utf8 c ++ r → ⊥
no_bytes c r e = omega (arith, ap length e, length-append (encode_utf8 c) r, length-encode c, len_utf8_bounds c)

-- the first byte of a character: itself, or no byte of ASCII
pub record FirstByte (c : ℕ) : Type 0 where
  pub byte : ℕ
  pub others : List ℕ
  pub is : encode_utf8 c ≡ byte ∷ others
  pub low_or_high : ((c < 128) × (byte ≡ c)) ⊎ ((128 ≤ byte) × (128 ≤ c))

pub first_byte : (c : ℕ) → FirstByte c
first_byte c = by (cases_lt c 128)
  where
    high : (w : List ℕ) → 128 ≤ c → encode_utf8 c ≡ w → list_all (leb 128) w ≡ true → FirstByte c
    high [] k e h = absurd (omega (arith, ap length e, length-encode c, len_utf8_bounds c))
    high (b ∷ w) k e h = record { byte = b; others = w; is = e; low_or_high = inr (leb-true 128 b (and_parts (leb 128 b) (list_all (leb 128) w) h).0, k) }

    by : (c < 128) ⊎ (128 ≤ c) → FirstByte c
    by (inl low) = record { byte = c; others = []; is = encode_ascii c low; low_or_high = inl (low, refl) }
    by (inr k) = high (encode_utf8 c) k refl (bytes_high c k)

-- bytes of ASCII at the front are characters there

pub first_decoded : (cs : List ℕ) (b : ℕ) (r : List ℕ) → b < 128 → encode_utf8_all cs ≡ b ∷ r → (ds : List ℕ) × (cs ≡ b ∷ ds) × (r ≡ encode_utf8_all ds)
first_decoded [] b r low e = absurd (omega (arith, ap length e))
first_decoded (c ∷ cs) b r low e =
    let same : c ≡ b = char_from_byte (b ∷ r) (encode_utf8_all cs) c (sym e) low (omega arith) in
    let one : encode_utf8 c ≡ b ∷ [] = ap encode_utf8 same ∙ encode_ascii b low in
    (cs, ap (λ z. z ∷ cs) same, same_others (sym e ∙ ap (λ w. w ++ encode_utf8_all cs) one))

pub first_encoded : (b : ℕ) (cs : List ℕ) → b < 128 → encode_utf8_all (b ∷ cs) ≡ b ∷ encode_utf8_all cs
first_encoded b cs low = ap (λ w. w ++ encode_utf8_all cs) (encode_ascii b low)

abbrev pub is_low : ℕ → Bool
is_low b = nat_lt b 128

pub mark_decoded : (w cs r : List ℕ) → list_all is_low w ≡ true → encode_utf8_all cs ≡ w ++ r → (ds : List ℕ) × (cs ≡ w ++ ds) × (r ≡ encode_utf8_all ds)
mark_decoded [] cs r h e = (cs, refl, sym e)
mark_decoded (b ∷ w) cs r h e =
    let both = and_parts (is_low b) (list_all is_low w) h in
    let (ds, is, k) = first_decoded cs b (w ++ r) (ltb-true b 128 both.0) e in
    let (es, is', k') = mark_decoded w ds r both.1 (sym k) in
    (es, is ∙ ap (λ z. b ∷ z) is', k')

pub mark_encoded : (w cs : List ℕ) → list_all is_low w ≡ true → encode_utf8_all (w ++ cs) ≡ w ++ encode_utf8_all cs
mark_encoded [] cs h = refl
mark_encoded (b ∷ w) cs h =
    let both = and_parts (is_low b) (list_all is_low w) h in
    first_encoded b (w ++ cs) (ltb-true b 128 both.0) ∙ ap (λ z. b ∷ z) (mark_encoded w cs both.1)

-- white space

bare_byte : (c : ℕ) (f : FirstByte c) → is_white c ≡ false → is_white f.byte ≡ false
bare_byte c f h = by f.low_or_high
  where
    by : ((c < 128) × (f.byte ≡ c)) ⊎ ((128 ≤ f.byte) × (128 ≤ c)) → is_white f.byte ≡ false
    by (inl (low, same)) = ap is_white same ∙ h
    by (inr (high, k)) = which (is_white f.byte) refl
      where
        which : (x : Bool) → is_white f.byte ≡ x → is_white f.byte ≡ false
        which true e = absurd (omega (arith, high, white_ascii f.byte e))
        which false e = e

bytes_of : (c : ℕ) (cs : List ℕ) (f : FirstByte c) → encode_utf8_all (c ∷ cs) ≡ f.byte ∷ (f.others ++ encode_utf8_all cs)
bytes_of c cs f = ap (λ w. w ++ encode_utf8_all cs) f.is

pub white_encoded : (cs : List ℕ) → after_white (encode_utf8_all cs) ≡ encode_utf8_all (after_white cs)
white_encoded [] = refl
white_encoded (c ∷ cs) = by (is_white c) refl (white_encoded cs) (first_byte c)
  where
    by : (x : Bool) → is_white c ≡ x → after_white (encode_utf8_all cs) ≡ encode_utf8_all (after_white cs) → FirstByte c → after_white (encode_utf8_all (c ∷ cs)) ≡ encode_utf8_all (after_white (c ∷ cs))
    by true e later f =
        ap after_white (first_encoded c cs (white_ascii c e)) ∙ (white_more c (encode_utf8_all cs) e ∙ (later ∙ ap encode_utf8_all (sym (white_more c cs e))))
    by false e later f =
        ap after_white (bytes_of c cs f) ∙ (white_none f.byte (f.others ++ encode_utf8_all cs) (bare_byte c f e) ∙ (sym (bytes_of c cs f) ∙ ap encode_utf8_all (sym (white_none c cs e))))

pub begins_decoded : (cs : List ℕ) → BeginsWithWhite (encode_utf8_all cs) → BeginsWithWhite cs
begins_decoded [] h = h
begins_decoded (c ∷ cs) h = by (is_white c) refl (first_byte c)
  where
    by : (x : Bool) → is_white c ≡ x → FirstByte c → BeginsWithWhite (c ∷ cs)
    by true e f = white_begins c cs e
    by false e f = absurd (true≢false (sym (begins_white f.byte (f.others ++ encode_utf8_all cs) (subst BeginsWithWhite (bytes_of c cs f) h)) ∙ bare_byte c f e))

pub begins_encoded : (cs : List ℕ) → BeginsWithWhite cs → BeginsWithWhite (encode_utf8_all cs)
begins_encoded [] h = h
begins_encoded (c ∷ cs) h =
    let white = begins_white c cs h in subst BeginsWithWhite (sym (first_encoded c cs (white_ascii c white))) (white_begins c (encode_utf8_all cs) white)

-- what stands before a quote

abbrev pub free_of : ℕ → List ℕ → Bool
free_of q w = list_all (λ b. not (b == q)) w

high_free : (q : ℕ) (w : List ℕ) → q < 128 → list_all (leb 128) w ≡ true → free_of q w ≡ true
high_free q [] low h = refl
high_free q (b ∷ w) low h =
    let both = and_parts (leb 128 b) (list_all (leb 128) w) h in
    and_from (not (b == q)) (free_of q w) (by (b == q) refl (leb-true 128 b both.0)) (high_free q w low both.1)
  where
    by : (x : Bool) → (b == q) ≡ x → 128 ≤ b → not (b == q) ≡ true
    by true e k = absurd (omega (arith, low, k, eqb-true b q e))
    by false e k = ap not e

pub char_free : (q c : ℕ) → q < 128 → not (c == q) ≡ true → free_of q (encode_utf8 c) ≡ true
char_free q c low h = by (cases_lt c 128)
  where
    by : (c < 128) ⊎ (128 ≤ c) → free_of q (encode_utf8 c) ≡ true
    by (inl k) = ap (free_of q) (encode_ascii c k) ∙ and_from (not (c == q)) true h refl
    by (inr k) = high_free q (encode_utf8 c) low (bytes_high c k)

pub free_encoded : (q : ℕ) (cs : List ℕ) → q < 128 → free_of q cs ≡ true → free_of q (encode_utf8_all cs) ≡ true
free_encoded q [] low h = refl
free_encoded q (c ∷ cs) low h =
    let both = and_parts (not (c == q)) (free_of q cs) h in
    list_all-append (λ b. not (b == q)) (encode_utf8 c) (encode_utf8_all cs)
    ∙ and_from (free_of q (encode_utf8 c)) (free_of q (encode_utf8_all cs)) (char_free q c low both.0) (free_encoded q cs low both.1)

pub splits_encoded : {q : ℕ} {cs inside after : List ℕ} → q < 128 → Splits q cs inside after → Splits q (encode_utf8_all cs) (encode_utf8_all inside) (encode_utf8_all after)
splits_encoded {q} {cs} {inside} {after} low s = record {
  parts = ap encode_utf8_all s.parts ∙ (encodes-append inside (q ∷ after) ∙ ap (λ w. encode_utf8_all inside ++ w) (first_encoded q after low));
  free = free_encoded q inside low s.free;
}

split_or_free : (q : ℕ) (cs : List ℕ) → ((inside : List ℕ) × (after : List ℕ) × Splits q cs inside after) ⊎ (free_of q cs ≡ true)
split_or_free q [] = inr refl
split_or_free q (c ∷ cs) = by (c == q) refl (split_or_free q cs)
  where
    by : (x : Bool) → (c == q) ≡ x → ((inside : List ℕ) × (after : List ℕ) × Splits q cs inside after) ⊎ (free_of q cs ≡ true)
        → ((inside : List ℕ) × (after : List ℕ) × Splits q (c ∷ cs) inside after) ⊎ (free_of q (c ∷ cs) ≡ true)
    by true e later = inl ([], cs, splits_here c cs e)
    by false e (inl (inside, after, s)) = inl (c ∷ inside, after, splits_more c e s)
    by false e (inr free) = inr (and_from (not (c == q)) (free_of q cs) (ap not e) free)

pub free_lacks : (q : ℕ) (w r : List ℕ) → free_of q (w ++ q ∷ r) ≡ true → ⊥
free_lacks q [] r h = true≢false (sym (and_parts (not (q == q)) (free_of q r) h).0 ∙ ap not (eq-eqb q q refl))
free_lacks q (b ∷ w) r h = free_lacks q w r (and_parts (not (b == q)) (free_of q (w ++ q ∷ r)) h).1

pub splits_decoded : {q : ℕ} {inside after : List ℕ} (cs : List ℕ) → q < 128 → Splits q (encode_utf8_all cs) inside after
    → (vs : List ℕ) × (ds : List ℕ) × Splits q cs vs ds × (after ≡ encode_utf8_all ds)
splits_decoded {q} {inside} {after} cs low s = by (split_or_free q cs)
  where
    by : ((vs : List ℕ) × (ds : List ℕ) × Splits q cs vs ds) ⊎ (free_of q cs ≡ true) → (vs : List ℕ) × (ds : List ℕ) × Splits q cs vs ds × (after ≡ encode_utf8_all ds)
    by (inl (vs, ds, k)) = (vs, ds, k, (up_to_unique (splits_up_to s) (splits_up_to (splits_encoded low k))).1)
    by (inr free) = absurd (free_lacks q inside after (subst (λ w. free_of q w ≡ true) s.parts (free_encoded q cs low free)))

-- names

-- no name goes on with these characters
abbrev pub EndsName : List ℕ → Type 0
EndsName [] = Unit {0}
EndsName (c ∷ cs) = is_ncname_char c ≡ false

pub prefix_decoded : (ns cs after : List ℕ) → encode_utf8_all cs ≡ encode_utf8_all ns ++ after → (ds : List ℕ) × (cs ≡ ns ++ ds) × (after ≡ encode_utf8_all ds)
prefix_decoded [] cs after e = (cs, refl, sym e)
prefix_decoded (n ∷ ns) [] after e = absurd (no_bytes n (encode_utf8_all ns ++ after) (e ∙ append_assoc (encode_utf8 n) (encode_utf8_all ns) after))
prefix_decoded (n ∷ ns) (c ∷ cs) after e =
    let both = encode_same c n (encode_utf8_all cs) (encode_utf8_all ns ++ after) (e ∙ append_assoc (encode_utf8 n) (encode_utf8_all ns) after) in
    let (ds, is, k) = prefix_decoded ns cs after both.1 in
    (ds, ap (λ z. z ∷ cs) both.0 ∙ ap (λ w. n ∷ w) is, k)

-- a name at the front of characters, and what follows it
pub record NameAt (cs ds : List ℕ) : Type 0 where
  pub first : ℕ
  pub others : List ℕ
  pub parts : cs ≡ (first ∷ others) ++ ds
  pub starts : is_ncname_start first ≡ true
  pub goes : list_all is_ncname_char others ≡ true
  pub ends : EndsName ds

ends_decoded : (ds : List ℕ) → ((c : ℕ) (r : List ℕ) → encode_utf8_all ds ≡ encode_utf8 c ++ r → IsTrue (is_ncname_char c) → ⊥) → EndsName ds
ends_decoded [] h = tt
ends_decoded (d ∷ ds) h = by (is_ncname_char d) refl
  where
    by : (x : Bool) → is_ncname_char d ≡ x → is_ncname_char d ≡ false
    by true e = absurd (h d (encode_utf8_all ds) refl e)
    by false e = e

-- and its bytes are those of the name
pub record Decoded (cs n after : List ℕ) : Type 0 where
  pub behind : List ℕ
  pub name : NameAt cs behind
  pub is_after : after ≡ encode_utf8_all behind
  pub is_name : n ≡ encode_utf8_all (name.first ∷ name.others)

pub name_of : {n after : List ℕ} (cs : List ℕ) → NcNameAt (encode_utf8_all cs) n after → Decoded cs n after
name_of {n} {after} cs a =
    let (c, ms, is_n, starts, goes) = a.lawful in
    let (ds, is, k) = prefix_decoded (c ∷ ms) cs after (a.parts ∙ ap (λ w. w ++ after) (sym is_n)) in
    record {
      behind = ds;
      name = record { first = c; others = ms; parts = is; starts = starts; goes = goes; ends = ends_decoded ds (λ x r e. a.longest x r (k ∙ e)) };
      is_after = k;
      is_name = sym is_n;
    }

pub name_decoded : {n after : List ℕ} (cs : List ℕ) → NcNameAt (encode_utf8_all cs) n after → (ds : List ℕ) × NameAt cs ds × (after ≡ encode_utf8_all ds)
name_decoded cs a = let d = name_of cs a in (d.behind, d.name, d.is_after)

ends_encoded : (ds : List ℕ) → EndsName ds → (c : ℕ) (r : List ℕ) → encode_utf8_all ds ≡ encode_utf8 c ++ r → IsTrue (is_ncname_char c) → ⊥
ends_encoded [] h c r e k = no_bytes c r e
ends_encoded (d ∷ ds) h c r e k = true≢false (sym k ∙ (ap is_ncname_char (sym (encode_same d c (encode_utf8_all ds) r e).0) ∙ h))

pub name_encoded : {cs ds : List ℕ} → NameAt cs ds → (n : List ℕ) × NcNameAt (encode_utf8_all cs) n (encode_utf8_all ds)
name_encoded {cs} {ds} a = (
  encode_utf8_all (a.first ∷ a.others),
  record {
    lawful = (a.first, a.others, refl, a.starts, a.goes);
    parts = ap encode_utf8_all a.parts ∙ encodes-append (a.first ∷ a.others) ds;
    longest = ends_encoded ds a.ends;
  },
)
