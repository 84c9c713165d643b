-- Escaped texts and namespace names, read back: as runs of characters that stand for themselves, and references.
use Rattle.std.proofs.Common.{◌≡◌, ℕ, ◌+◌, ◌<◌, Bool, true, false, cond, not, ◌||◌, ◌==◌, List, [], ◌∷◌, ◌++◌, refl, ap, ◌∙◌, sym, subst, length, take, drop, arith, codes, Some, append-nil, append_assoc, take-append-drop, if◌then◌else◌}
use Rattle.std.specs.Prelude.{encode_utf8, IsTrue}
use Rattle.std.specs.List.{prefix_len, list_all, flat_map}
use Rattle.std.specs.Cmp.Lexicographic.{bytes_decides}
use Rattle.std.proofs.Math.Seq.{take-append_seam, drop-append_seam}
use Rattle.std.proofs.lemmas.Bool.{true≢false, false≢true, and_parts, and_from, eqb-true}
use Rattle.std.proofs.lemmas.Str.{encode_ascii, char_from_byte}
use Rattle.tc_model.specs.Names.{IsNcName, is_ncname_char}
use Rattle.tc_model.specs.Trees.{Trees, joined_to}
use Rattle.tc_model.specs.RawTrees as r
use Rattle.tc_model.specs.RawTrees.{Bound, RawTrees}
use Rattle.tc_model.specs.Stripped.{bare}
use Rattle.tc_model.specs.Printed.{escaped_in_text, escaped_in_value}
use Rattle.tc_model.specs.XmlTextBytes.{place_of, begins_with, length_before, RunAt, line_ends}
use Rattle.tc_model.specs.XmlTextReferences.{predefined, is_digit, ReferenceAt, decimal, entity, is_plain, is_plain_within, spaced, CharacterDataAt, ValueAt, closed, plain}
use Rattle.tc_model.specs.XmlTextReferences as references
use Rattle.tc_model.specs.XmlTextContent.{characters_before, ContentAt, item, character_data, reference}
use Rattle.tc_model.proofs.NormalForm.{joined_twice}
use Rattle.tc_print.proofs.ReadBackChars.{ascii_encodes}

-- a byte at which a name ends
pub stops_name : (b : ℕ) (rest : List ℕ) → b < 128 → is_ncname_char b ≡ false → (c : ℕ) (r : List ℕ) → b ∷ rest ≡ encode_utf8 c ++ r → IsTrue (is_ncname_char c) → ⊥
stops_name b rest small is c r e h =
    let same : c ≡ b = char_from_byte (b ∷ rest) r c e small (omega arith) in
    true≢false (sym h ∙ (ap is_ncname_char same ∙ is))

-- a reference to a predefined entity
named : (c : ℕ) (first : ℕ) (name after : List ℕ) → IsNcName (first ∷ name) → predefined (first ∷ name) ≡ Some c → ReferenceAt false (0x26 ∷ first ∷ name ++ 0x3B ∷ after) (c ∷ []) after
named c first name after lawful is =
    entity (record {
      rest = first ∷ name ++ 0x3B ∷ after;
      opens = refl;
      names = record { lawful = lawful; parts = refl; longest = stops_name 0x3B after (omega arith) refl };
    }) is

amp : (after : List ℕ) → ReferenceAt false (codes "&amp;" ++ after) (38 ∷ []) after
amp after = named 38 0x61 (codes "mp") after (0x61, codes "mp", ascii_encodes (codes "amp") refl, refl, refl) refl

lt : (after : List ℕ) → ReferenceAt false (codes "&lt;" ++ after) (60 ∷ []) after
lt after = named 60 0x6C (codes "t") after (0x6C, codes "t", ascii_encodes (codes "lt") refl, refl, refl) refl

gt : (after : List ℕ) → ReferenceAt false (codes "&gt;" ++ after) (62 ∷ []) after
gt after = named 62 0x67 (codes "t") after (0x67, codes "t", ascii_encodes (codes "gt") refl, refl, refl) refl

quot : (after : List ℕ) → ReferenceAt false (codes "&quot;" ++ after) (34 ∷ []) after
quot after = named 34 0x71 (codes "uot") after (0x71, codes "uot", ascii_encodes (codes "quot") refl, refl, refl) refl

-- a reference to a character by its number
tab : (after : List ℕ) → ReferenceAt false (codes "&#9;" ++ after) (9 ∷ []) after
tab after = subst (λ w. ReferenceAt false (codes "&#9;" ++ after) w after) (encode_ascii 9 (omega arith)) (decimal (record { some = omega arith; front = refl; back = refl }) refl)

line_feed : (after : List ℕ) → ReferenceAt false (codes "&#10;" ++ after) (10 ∷ []) after
line_feed after = subst (λ w. ReferenceAt false (codes "&#10;" ++ after) w after) (encode_ascii 10 (omega arith)) (decimal (record { some = omega arith; front = refl; back = refl }) refl)

carriage_return : (after : List ℕ) → ReferenceAt false (codes "&#13;" ++ after) (13 ∷ []) after
carriage_return after = subst (λ w. ReferenceAt false (codes "&#13;" ++ after) w after) (encode_ascii 13 (omega arith)) (decimal (record { some = omega arith; front = refl; back = refl }) refl)

-- a run of bytes that pass, up to one that doesn't
run_length : (p : ℕ → Bool) (run : List ℕ) (stop : ℕ) (rest : List ℕ) → list_all p run ≡ true → p stop ≡ false → prefix_len p (run ++ stop ∷ rest) ≡ length run
run_length p [] stop rest h k = ap (λ x. cond x (1 + prefix_len p rest) 0) k
run_length p (b ∷ run) stop rest h k =
    let (x, y) = and_parts (p b) (list_all p run) h in
    let one : prefix_len p (b ∷ run ++ stop ∷ rest) ≡ 1 + prefix_len p (run ++ stop ∷ rest) = ap (λ z. cond z (1 + prefix_len p (run ++ stop ∷ rest)) 0) x in
    let more = run_length p run stop rest y k in
    omega arith

run_at : (p : ℕ → Bool) (b : ℕ) (run : List ℕ) (stop : ℕ) (rest : List ℕ) → list_all p (b ∷ run) ≡ true → p stop ≡ false → RunAt p (b ∷ run ++ stop ∷ rest) (b ∷ run) (stop ∷ rest)
run_at p b run stop rest h k =
    let e = run_length p (b ∷ run) stop rest h k in
    record {
      some = omega arith;
      front = sym (ap (λ n. take n (b ∷ run ++ stop ∷ rest)) e ∙ take-append_seam (b ∷ run) (stop ∷ rest));
      back = sym (ap (λ n. drop n (b ∷ run ++ stop ∷ rest)) e ∙ drop-append_seam (b ∷ run) (stop ∷ rest));
    }

-- what passes one test passes another
all_imply : (p q : ℕ → Bool) → ((b : ℕ) → p b ≡ true → q b ≡ true) → (bs : List ℕ) → list_all p bs ≡ true → list_all q bs ≡ true
all_imply p q imply [] h = refl
all_imply p q imply (b ∷ bs) h = let (x, y) = and_parts (p b) (list_all p bs) h in and_from (q b) (list_all q bs) (imply b x) (all_imply p q imply bs y)

-- a run without carriage returns keeps its line ends
lines_stay : (bs : List ℕ) → list_all (λ b. not (b == 13)) bs ≡ true → line_ends bs ≡ bs
lines_stay [] h = refl
lines_stay (b ∷ bs) h = let (x, y) = and_parts (not (b == 13)) (list_all (λ b. not (b == 13)) bs) h in by (b == 13) refl x (lines_stay bs y)
  where
    by : (x : Bool) → (b == 13) ≡ x → not (b == 13) ≡ true → line_ends bs ≡ bs → line_ends (b ∷ bs) ≡ b ∷ bs
    by true e k later = absurd (false≢true (sym (ap not e) ∙ k))
    by false e k later = ap (λ x. if x then (if begins_with (0xA ∷ []) bs then line_ends bs else 0xA ∷ line_ends bs) else b ∷ line_ends bs) e ∙ ap (λ w. b ∷ w) later

-- a run without tabs and line feeds keeps its spaces
spaces_stay : (bs : List ℕ) → list_all (λ b. not (b == 9 || b == 10)) bs ≡ true → spaced bs ≡ bs
spaces_stay [] h = refl
spaces_stay (b ∷ bs) h = let (x, y) = and_parts (not (b == 9 || b == 10)) (list_all (λ b. not (b == 9 || b == 10)) bs) h in by (b == 9 || b == 10) refl x (spaces_stay bs y)
  where
    by : (x : Bool) → (b == 9 || b == 10) ≡ x → not (b == 9 || b == 10) ≡ true → spaced bs ≡ bs → spaced (b ∷ bs) ≡ b ∷ bs
    by true e k later = absurd (false≢true (sym (ap not e) ∙ k))
    by false e k later = ap (λ x. (if x then 0x20 else b) ∷ spaced bs) e ∙ ap (λ w. b ∷ w) later

-- a run without `>` lacks `]]>`
no_end_mark : (bs : List ℕ) → list_all (λ b. not (b == 62)) bs ≡ true → begins_with (codes "]]>") bs ≡ false
no_end_mark bs h = by (begins_with (codes "]]>") bs) refl
  where
    by : (x : Bool) → begins_with (codes "]]>") bs ≡ x → begins_with (codes "]]>") bs ≡ false
    by false e = e
    by true e =
        let front : codes "]]>" ≡ take 3 bs = (bytes_decides (codes "]]>") (take 3 bs)).0 e in
        let whole : bs ≡ codes "]]>" ++ drop 3 bs = sym (take-append-drop 3 bs) ∙ ap (λ w. w ++ drop 3 bs) (sym front) in
        absurd (false≢true (ap (list_all (λ b. not (b == 62))) (sym whole) ∙ h))

lacks_end : (bs : List ℕ) → list_all (λ b. not (b == 62)) bs ≡ true → length_before (codes "]]>") bs ≡ length bs
lacks_end [] h = refl
lacks_end (b ∷ bs) h =
    let one : length_before (codes "]]>") (b ∷ bs) ≡ 1 + length_before (codes "]]>") bs = ap (λ x. if x then 0 else 1 + length_before (codes "]]>") bs) (no_end_mark (b ∷ bs) h) in
    let more = lacks_end bs (and_parts (not (b == 62)) (list_all (λ b. not (b == 62)) bs) h).1 in
    omega arith

-- a byte that stands for itself in a text
abbrev pub stays : ℕ → Bool
stays b = not (b == 38 || b == 60 || b == 62 || b == 10 || b == 13)

stays_plain : (b : ℕ) → stays b ≡ true → is_plain b ≡ true
stays_plain b = by (b == 38) (b == 60) (b == 62) (b == 10) (b == 13)
  where
    by : (x y z v w : Bool) → not (x || y || z || v || w) ≡ true → not (y || x) ≡ true
    by true y z v w e = absurd (false≢true e)
    by false true z v w e = absurd (false≢true e)
    by false false z v w e = refl

stays_open : (b : ℕ) → stays b ≡ true → not (b == 62) ≡ true
stays_open b = by (b == 38) (b == 60) (b == 62) (b == 10) (b == 13)
  where
    by : (x y z v w : Bool) → not (x || y || z || v || w) ≡ true → not z ≡ true
    by true y z v w e = absurd (false≢true e)
    by false true z v w e = absurd (false≢true e)
    by false false true v w e = absurd (false≢true e)
    by false false false v w e = refl

stays_line : (b : ℕ) → stays b ≡ true → not (b == 13) ≡ true
stays_line b = by (b == 38) (b == 60) (b == 62) (b == 10) (b == 13)
  where
    by : (x y z v w : Bool) → not (x || y || z || v || w) ≡ true → not w ≡ true
    by true y z v w e = absurd (false≢true e)
    by false true z v w e = absurd (false≢true e)
    by false false true v w e = absurd (false≢true e)
    by false false false true w e = absurd (false≢true e)
    by false false false false true e = absurd (false≢true e)
    by false false false false false e = refl

-- characters before trees, perhaps none
abbrev pub run_before : List ℕ → Trees → Trees
run_before [] k = k
run_before (b ∷ run) k = joined_to (b ∷ run) k

bare_characters : (b : ℕ) (run : List ℕ) (p : ℕ) (h : RawTrees) → bare (characters_before (b ∷ run) p h) ≡ joined_to (b ∷ run) (bare h)
bare_characters b run p r.none = refl
bare_characters b run p (r.text t q rest) = refl
bare_characters b run p (r.element n attributes scope q kids rest) = refl

run_longer : (b : ℕ) (run : List ℕ) (k : Trees) → joined_to (b ∷ run) k ≡ joined_to (b ∷ []) (run_before run k)
run_longer b [] k = refl
run_longer b (c ∷ run) k = sym (joined_twice (b ∷ []) (c ∷ run) k)

-- Content that means these trees, up to what follows it.
pub record IsContent (total deepest : ℕ) (scope : List Bound) (bs : List ℕ) (k : Trees) (after : List ℕ) : Type 0 where
  pub raw : RawTrees
  pub content : ContentAt false total scope deepest bs raw after
  pub means : bare raw ≡ k

-- content that begins with a run of bytes that stand for themselves, perhaps none
pub record BeginsContent (total deepest : ℕ) (scope : List Bound) (bs : List ℕ) (k : Trees) (after : List ℕ) : Type 0 where
  pub run : List ℕ
  pub stop : ℕ
  pub rest : List ℕ
  pub raw : RawTrees
  pub parts : bs ≡ run ++ stop ∷ rest
  pub stay : list_all stays run ≡ true
  pub stops : is_plain stop ≡ false
  pub content : ContentAt false total scope deepest (stop ∷ rest) raw after
  pub means : run_before run (bare raw) ≡ k

module _ {total deepest : ℕ} {scope : List Bound} {after : List ℕ} where
  -- content that doesn't begin with such a run
  pub from_content : {k : Trees} (stop : ℕ) (rest : List ℕ) → is_plain stop ≡ false → IsContent total deepest scope (stop ∷ rest) k after → BeginsContent total deepest scope (stop ∷ rest) k after
  from_content stop rest stops c = record { run = []; stop = stop; rest = rest; raw = c.raw; parts = refl; stay = refl; stops = stops; content = c.content; means = c.means }

  pub to_content : {bs : List ℕ} {k : Trees} → BeginsContent total deepest scope bs k after → IsContent total deepest scope bs k after
  to_content {bs} {k} g = by g.run g.parts g.stay g.means
    where
      by : (run : List ℕ) → bs ≡ run ++ g.stop ∷ g.rest → list_all stays run ≡ true → run_before run (bare g.raw) ≡ k → IsContent total deepest scope bs k after
      by [] parts stay means = record { raw = g.raw; content = subst (λ w. ContentAt false total scope deepest w g.raw after) (sym parts) g.content; means = means }
      by (b ∷ run) parts stay means =
          let whole = b ∷ run ++ g.stop ∷ g.rest in
          let p = place_of total whole in
          let lines = lines_stay (b ∷ run) (all_imply stays (λ b. not (b == 13)) stays_line (b ∷ run) stay) in
          let run_data : CharacterDataAt whole (b ∷ run) (g.stop ∷ g.rest) = record {
            plain = run_at is_plain b run g.stop g.rest (all_imply stays is_plain stays_plain (b ∷ run) stay) g.stops;
            lacks_end = lacks_end (b ∷ run) (all_imply stays (λ b. not (b == 62)) stays_open (b ∷ run) stay);
          } in
          let there = item (character_data run_data) g.content in
          record {
            raw = characters_before (b ∷ run) p g.raw;
            content = subst (λ w. ContentAt false total scope deepest w (characters_before (b ∷ run) p g.raw) after) (sym parts)
                (subst (λ w. ContentAt false total scope deepest whole (characters_before w p g.raw) after) lines there);
            means = bare_characters b run p g.raw ∙ means;
          }

  -- a reference before content
  referred : {bs : List ℕ} {k : Trees} (b : ℕ) (rest : List ℕ) → ReferenceAt false (0x26 ∷ rest) (b ∷ []) bs → IsContent total deepest scope bs k after
      → BeginsContent total deepest scope (0x26 ∷ rest) (joined_to (b ∷ []) k) after
  referred {bs} {k} b rest is c = from_content 0x26 rest refl (record {
    raw = characters_before (b ∷ []) (place_of total (0x26 ∷ rest)) c.raw;
    content = item (reference is) c.content;
    means = bare_characters b [] (place_of total (0x26 ∷ rest)) c.raw ∙ ap (joined_to (b ∷ [])) c.means;
  })

  -- a byte before content, escaped
  byte_before : {bs : List ℕ} {k : Trees} (b : ℕ) → BeginsContent total deepest scope bs k after → BeginsContent total deepest scope (escaped_in_text b ++ bs) (joined_to (b ∷ []) k) after
  byte_before {bs} {k} b g = by (b == 38) refl (b == 60) refl (b == 62) refl (b == 10) refl (b == 13) refl
    where
      c : IsContent total deepest scope bs k after
      c = to_content g

      as_byte : (w : List ℕ) (n : ℕ) → (b == n) ≡ true → BeginsContent total deepest scope w (joined_to (n ∷ []) k) after → BeginsContent total deepest scope w (joined_to (b ∷ []) k) after
      as_byte w n e h = subst (λ x. BeginsContent total deepest scope w (joined_to (x ∷ []) k) after) (sym (eqb-true b n e)) h

      by : (x : Bool) → (b == 38) ≡ x → (y : Bool) → (b == 60) ≡ y → (z : Bool) → (b == 62) ≡ z → (v : Bool) → (b == 10) ≡ v → (w : Bool) → (b == 13) ≡ w
          → BeginsContent total deepest scope ((if x then codes "&amp;" else (if y then codes "&lt;" else (if z then codes "&gt;" else (if v then codes "&#10;" else (if w then codes "&#13;" else (b ∷ [])))))) ++ bs) (joined_to (b ∷ []) k) after
      by true e y f z h v i w j = as_byte (codes "&amp;" ++ bs) 38 e (referred 38 (codes "amp;" ++ bs) (amp bs) c)
      by false e true f z h v i w j = as_byte (codes "&lt;" ++ bs) 60 f (referred 60 (codes "lt;" ++ bs) (lt bs) c)
      by false e false f true h v i w j = as_byte (codes "&gt;" ++ bs) 62 h (referred 62 (codes "gt;" ++ bs) (gt bs) c)
      by false e false f false h true i w j = as_byte (codes "&#10;" ++ bs) 10 i (referred 10 (codes "#10;" ++ bs) (line_feed bs) c)
      by false e false f false h false i true j = as_byte (codes "&#13;" ++ bs) 13 j (referred 13 (codes "#13;" ++ bs) (carriage_return bs) c)
      by false e false f false h false i false j =
          let itself : stays b ≡ true =
          ap (λ x. not (x || b == 60 || b == 62 || b == 10 || b == 13)) e ∙ (ap (λ x. not (x || b == 62 || b == 10 || b == 13)) f
          ∙ (ap (λ x. not (x || b == 10 || b == 13)) h ∙ (ap (λ x. not (x || b == 13)) i ∙ ap not j))) in
          record {
            run = b ∷ g.run;
            stop = g.stop;
            rest = g.rest;
            raw = g.raw;
            parts = ap (λ w. b ∷ w) g.parts;
            stay = and_from (stays b) (list_all stays g.run) itself g.stay;
            stops = g.stops;
            content = g.content;
            means = run_longer b g.run (bare g.raw) ∙ ap (joined_to (b ∷ [])) g.means;
          }

  -- a text before content
  pub text_before : {bs : List ℕ} {k : Trees} (b : ℕ) (s : List ℕ) → BeginsContent total deepest scope bs k after
      → BeginsContent total deepest scope (flat_map escaped_in_text (b ∷ s) ++ bs) (joined_to (b ∷ s) k) after
  text_before {bs} {k} b [] g = subst (λ w. BeginsContent total deepest scope w (joined_to (b ∷ []) k) after) (ap (λ w. w ++ bs) (sym (append-nil (escaped_in_text b)))) (byte_before b g)
  text_before {bs} {k} b (c ∷ s) g =
      let later = byte_before b (text_before c s g) in
      let means = subst (λ x. BeginsContent total deepest scope (escaped_in_text b ++ (flat_map escaped_in_text (c ∷ s) ++ bs)) x after) (joined_twice (b ∷ []) (c ∷ s) k) later in
      subst (λ w. BeginsContent total deepest scope w (joined_to (b ∷ c ∷ s) k) after) (sym (append_assoc (escaped_in_text b) (flat_map escaped_in_text (c ∷ s)) bs)) means

-- a byte that stands for itself in a value between double quotes
abbrev pub stays_within : ℕ → Bool
stays_within b = not (b == 38 || b == 60 || b == 34 || b == 9 || b == 10 || b == 13)

stays_within_plain : (b : ℕ) → stays_within b ≡ true → is_plain_within 0x22 b ≡ true
stays_within_plain b = by (b == 38) (b == 60) (b == 34) (b == 9) (b == 10) (b == 13)
  where
    by : (x y z u v w : Bool) → not (x || y || z || u || v || w) ≡ true → not (z || y || x) ≡ true
    by true y z u v w e = absurd (false≢true e)
    by false true z u v w e = absurd (false≢true e)
    by false false true u v w e = absurd (false≢true e)
    by false false false u v w e = refl

stays_within_line : (b : ℕ) → stays_within b ≡ true → not (b == 13) ≡ true
stays_within_line b = by (b == 38 || b == 60 || b == 34 || b == 9 || b == 10) (b == 13)
  where
    by : (x w : Bool) → not (x || w) ≡ true → not w ≡ true
    by true w e = absurd (false≢true e)
    by false w e = e

stays_within_space : (b : ℕ) → stays_within b ≡ true → not (b == 9 || b == 10) ≡ true
stays_within_space b = by (b == 38 || b == 60 || b == 34) (b == 9) (b == 10) (b == 13)
  where
    by : (x u v w : Bool) → not (x || u || v || w) ≡ true → not (u || v) ≡ true
    by true u v w e = absurd (false≢true e)
    by false true v w e = absurd (false≢true e)
    by false false true w e = absurd (false≢true e)
    by false false false w e = refl

-- a value up to its quote that begins with a run of bytes that stand for themselves, perhaps none
record BeginsValue (bs value after : List ℕ) : Type 0 where
  run : List ℕ
  stop : ℕ
  rest : List ℕ
  behind : List ℕ
  parts : bs ≡ run ++ stop ∷ rest
  stay : list_all stays_within run ≡ true
  stops : is_plain_within 0x22 stop ≡ false
  content : ValueAt false 0x22 (stop ∷ rest) behind after
  means : run ++ behind ≡ value

module _ {after : List ℕ} where
  from_value : {value : List ℕ} (stop : ℕ) (rest : List ℕ) → is_plain_within 0x22 stop ≡ false → ValueAt false 0x22 (stop ∷ rest) value after → BeginsValue (stop ∷ rest) value after
  from_value {value} stop rest stops v = record { run = []; stop = stop; rest = rest; behind = value; parts = refl; stay = refl; stops = stops; content = v; means = refl }

  to_value : {bs value : List ℕ} → BeginsValue bs value after → ValueAt false 0x22 bs value after
  to_value {bs} {value} g = by g.run g.parts g.stay g.means
    where
      by : (run : List ℕ) → bs ≡ run ++ g.stop ∷ g.rest → list_all stays_within run ≡ true → run ++ g.behind ≡ value → ValueAt false 0x22 bs value after
      by [] parts stay means = subst (λ w. ValueAt false 0x22 w value after) (sym parts) (subst (λ v. ValueAt false 0x22 (g.stop ∷ g.rest) v after) means g.content)
      by (b ∷ run) parts stay means =
          let lines = lines_stay (b ∷ run) (all_imply stays_within (λ b. not (b == 13)) stays_within_line (b ∷ run) stay) in
          let spaces = spaces_stay (b ∷ run) (all_imply stays_within (λ b. not (b == 9 || b == 10)) stays_within_space (b ∷ run) stay) in
          let there = plain (run_at (is_plain_within 0x22) b run g.stop g.rest (all_imply stays_within (is_plain_within 0x22) stays_within_plain (b ∷ run) stay) g.stops) g.content in
          subst (λ w. ValueAt false 0x22 w value after) (sym parts)
          (subst (λ v. ValueAt false 0x22 (b ∷ run ++ g.stop ∷ g.rest) v after) (ap (λ w. spaced w ++ g.behind) lines ∙ (ap (λ w. w ++ g.behind) spaces ∙ means)) there)

  referred_in_value : {bs value : List ℕ} (b : ℕ) (rest : List ℕ) → ReferenceAt false (0x26 ∷ rest) (b ∷ []) bs → ValueAt false 0x22 bs value after → BeginsValue (0x26 ∷ rest) (b ∷ value) after
  referred_in_value b rest is v = from_value 0x26 rest refl (references.reference is v)

  -- a byte before a value, escaped
  byte_before_value : {bs value : List ℕ} (b : ℕ) → BeginsValue bs value after → BeginsValue (escaped_in_value b ++ bs) (b ∷ value) after
  byte_before_value {bs} {value} b g = by (b == 38) refl (b == 60) refl (b == 34) refl (b == 9) refl (b == 10) refl (b == 13) refl
    where
      c : ValueAt false 0x22 bs value after
      c = to_value g

      as_byte : (w : List ℕ) (n : ℕ) → (b == n) ≡ true → BeginsValue w (n ∷ value) after → BeginsValue w (b ∷ value) after
      as_byte w n e h = subst (λ x. BeginsValue w (x ∷ value) after) (sym (eqb-true b n e)) h

      by : (x : Bool) → (b == 38) ≡ x → (y : Bool) → (b == 60) ≡ y → (z : Bool) → (b == 34) ≡ z → (u : Bool) → (b == 9) ≡ u → (v : Bool) → (b == 10) ≡ v → (w : Bool) → (b == 13) ≡ w
          → BeginsValue ((if x then codes "&amp;" else (if y then codes "&lt;" else (if z then codes "&quot;" else (if u then codes "&#9;" else (if v then codes "&#10;" else (if w then codes "&#13;" else (b ∷ []))))))) ++ bs) (b ∷ value) after
      by true e y f z h u k v i w j = as_byte (codes "&amp;" ++ bs) 38 e (referred_in_value 38 (codes "amp;" ++ bs) (amp bs) c)
      by false e true f z h u k v i w j = as_byte (codes "&lt;" ++ bs) 60 f (referred_in_value 60 (codes "lt;" ++ bs) (lt bs) c)
      by false e false f true h u k v i w j = as_byte (codes "&quot;" ++ bs) 34 h (referred_in_value 34 (codes "quot;" ++ bs) (quot bs) c)
      by false e false f false h true k v i w j = as_byte (codes "&#9;" ++ bs) 9 k (referred_in_value 9 (codes "#9;" ++ bs) (tab bs) c)
      by false e false f false h false k true i w j = as_byte (codes "&#10;" ++ bs) 10 i (referred_in_value 10 (codes "#10;" ++ bs) (line_feed bs) c)
      by false e false f false h false k false i true j = as_byte (codes "&#13;" ++ bs) 13 j (referred_in_value 13 (codes "#13;" ++ bs) (carriage_return bs) c)
      by false e false f false h false k false i false j =
          let itself : stays_within b ≡ true =
          ap (λ x. not (x || b == 60 || b == 34 || b == 9 || b == 10 || b == 13)) e ∙ (ap (λ x. not (x || b == 34 || b == 9 || b == 10 || b == 13)) f
          ∙ (ap (λ x. not (x || b == 9 || b == 10 || b == 13)) h ∙ (ap (λ x. not (x || b == 10 || b == 13)) k ∙ (ap (λ x. not (x || b == 13)) i ∙ ap not j)))) in
          record {
            run = b ∷ g.run;
            stop = g.stop;
            rest = g.rest;
            behind = g.behind;
            parts = ap (λ w. b ∷ w) g.parts;
            stay = and_from (stays_within b) (list_all stays_within g.run) itself g.stay;
            stops = g.stops;
            content = g.content;
            means = ap (λ w. b ∷ w) g.means;
          }

  value_begins : (uri : List ℕ) → BeginsValue (flat_map escaped_in_value uri ++ 0x22 ∷ after) uri after
  value_begins [] = from_value 0x22 after refl (closed refl)
  value_begins (b ∷ uri) =
      subst (λ w. BeginsValue w (b ∷ uri) after) (sym (append_assoc (escaped_in_value b) (flat_map escaped_in_value uri) (0x22 ∷ after))) (byte_before_value b (value_begins uri))

  -- a namespace name between double quotes
  pub value_at : (uri : List ℕ) → ValueAt false 0x22 (flat_map escaped_in_value uri ++ 0x22 ∷ after) uri after
  value_at uri = to_value (value_begins uri)
