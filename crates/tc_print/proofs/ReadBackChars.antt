-- Printed trees have lawful characters.
use Rattle.std.proofs.Common.{◌≡◌, ◌⊎◌, inl, inr, ℕ, ◌+◌, ◌/◌, ◌%◌, ◌<◌, ◌≤◌, Bool, true, false, cond, ◌&&◌, ◌==◌, List, [], ◌∷◌, ◌++◌, refl, ap, ◌∙◌, sym, subst, arith, codes, leb, ltb, bytes_eq, append-nil, if◌then◌else◌}
use Rattle.std.specs.Prelude.{encode_utf8, encode_utf8_all}
use Rattle.std.specs.List.{list_all, flat_map}
use Rattle.std.proofs.Math.Utf8.{encode}
use Rattle.std.proofs.lemmas.Grind.{flat_map-append}
use Rattle.std.proofs.lemmas.Bool.{and_parts, and_from, le-leb, ltb-true, eqb-true, leb-true, cases_lt}
use Rattle.std.proofs.lemmas.Str.{encode_ascii}
use Rattle.tc_base.specs.Characters.{is_char}
use Rattle.tc_model.specs.Names.{ExpandedName, IsChars, IsName}
use Rattle.tc_model.specs.Trees.{Trees, none, text, element, AreLawful}
use Rattle.tc_model.specs.Printed.{escaped_in_text, escaped_in_value, xml_uri, tag_name, needs_no_declaration, declaration, default_within, is_none, printed_in}
use Rattle.tc_model.proofs.XmlTextChars.{no_chars, join_chars, one_char, name_chars}

-- ASCII bytes of characters
abbrev is_low : ℕ → Bool
is_low b = ltb b 128 && is_char b

pub ascii_encodes : (bs : List ℕ) → list_all (λ b. ltb b 128) bs ≡ true → encode_utf8_all bs ≡ bs
ascii_encodes [] e = refl
ascii_encodes (b ∷ bs) e =
    let (x, y) = and_parts (ltb b 128) (list_all (λ b. ltb b 128) bs) e in
    ap (λ w. w ++ encode_utf8_all bs) (encode_ascii b (ltb-true b 128 x)) ∙ ap (λ w. b ∷ w) (ascii_encodes bs y)

pub low_chars : (bs : List ℕ) → list_all is_low bs ≡ true → IsChars bs
low_chars [] e = no_chars
low_chars (b ∷ bs) e =
    let (x, y) = and_parts (is_low b) (list_all is_low bs) e in
    let (l, c) = and_parts (ltb b 128) (is_char b) x in
    join_chars (b ∷ []) bs (subst IsChars (encode_ascii b (ltb-true b 128 l)) (one_char b c)) (low_chars bs y)

-- the bytes of other characters
bytes_high : (c : ℕ) → 128 ≤ c → list_all (leb 128) (encode_utf8 c) ≡ true
unfolding encode
bytes_high c l = by (ltb c 128) (ltb c 2048) (ltb c 65536) refl
  where
    two : (m n : ℕ) → 128 ≤ m → 128 ≤ n → list_all (leb 128) (m ∷ n ∷ []) ≡ true
    two m n h k = and_from (leb 128 m) (leb 128 n && true) (le-leb 128 m h) (and_from (leb 128 n) true (le-leb 128 n k) refl)

    three : (l m n : ℕ) → 128 ≤ l → 128 ≤ m → 128 ≤ n → list_all (leb 128) (l ∷ m ∷ n ∷ []) ≡ true
    three l m n g h k = and_from (leb 128 l) (list_all (leb 128) (m ∷ n ∷ [])) (le-leb 128 l g) (two m n h k)

    four : (i l m n : ℕ) → 128 ≤ i → 128 ≤ l → 128 ≤ m → 128 ≤ n → list_all (leb 128) (i ∷ l ∷ m ∷ n ∷ []) ≡ true
    four i l m n f g h k = and_from (leb 128 i) (list_all (leb 128) (l ∷ m ∷ n ∷ [])) (le-leb 128 i f) (three l m n g h k)

    by : (x y z : Bool) → ltb c 128 ≡ x
        → list_all (leb 128) (cond x (c ∷ []) (cond y ((192 + c / 64) ∷ (128 + c % 64) ∷ []) (cond z ((224 + c / 4096) ∷ (128 + c / 64 % 64) ∷ (128 + c % 64) ∷ []) ((240 + c / 262144) ∷ (128 + c / 4096 % 64) ∷ (128 + c / 64 % 64) ∷ (128 + c % 64) ∷ [])))) ≡ true
    by true y z e = absurd (omega (arith, ltb-true c 128 e))
    by false true z e = two (192 + c / 64) (128 + c % 64) (omega arith) (omega arith)
    by false false true e = three (224 + c / 4096) (128 + c / 64 % 64) (128 + c % 64) (omega arith) (omega arith) (omega arith)
    by false false false e = four (240 + c / 262144) (128 + c / 4096 % 64) (128 + c / 64 % 64) (128 + c % 64) (omega arith) (omega arith) (omega arith) (omega arith)

differs : (b c : ℕ) → (b ≡ c → ⊥) → (b == c) ≡ false
differs b c h = by (b == c) refl
  where
    by : (x : Bool) → (b == c) ≡ x → (b == c) ≡ false
    by true e = absurd (h (eqb-true b c e))
    by false e = e

-- a byte that is no ASCII stands for itself
text_high : (b : ℕ) → 128 ≤ b → escaped_in_text b ≡ b ∷ []
text_high b h =
    ap (λ x. if x then codes "&amp;" else (if b == 60 then codes "&lt;" else (if b == 62 then codes "&gt;" else (if b == 10 then codes "&#10;" else (if b == 13 then codes "&#13;" else (b ∷ [])))))) (differs b 38 (λ q. omega arith))
    ∙ (ap (λ x. if x then codes "&lt;" else (if b == 62 then codes "&gt;" else (if b == 10 then codes "&#10;" else (if b == 13 then codes "&#13;" else (b ∷ []))))) (differs b 60 (λ q. omega arith))
    ∙ (ap (λ x. if x then codes "&gt;" else (if b == 10 then codes "&#10;" else (if b == 13 then codes "&#13;" else (b ∷ [])))) (differs b 62 (λ q. omega arith))
    ∙ (ap (λ x. if x then codes "&#10;" else (if b == 13 then codes "&#13;" else (b ∷ []))) (differs b 10 (λ q. omega arith))
    ∙ ap (λ x. if x then codes "&#13;" else (b ∷ [])) (differs b 13 (λ q. omega arith)))))

value_high : (b : ℕ) → 128 ≤ b → escaped_in_value b ≡ b ∷ []
value_high b h =
    ap (λ x. if x then codes "&amp;" else (if b == 60 then codes "&lt;" else (if b == 34 then codes "&quot;" else (if b == 9 then codes "&#9;" else (if b == 10 then codes "&#10;" else (if b == 13 then codes "&#13;" else (b ∷ []))))))) (differs b 38 (λ q. omega arith))
    ∙ (ap (λ x. if x then codes "&lt;" else (if b == 34 then codes "&quot;" else (if b == 9 then codes "&#9;" else (if b == 10 then codes "&#10;" else (if b == 13 then codes "&#13;" else (b ∷ [])))))) (differs b 60 (λ q. omega arith))
    ∙ (ap (λ x. if x then codes "&quot;" else (if b == 9 then codes "&#9;" else (if b == 10 then codes "&#10;" else (if b == 13 then codes "&#13;" else (b ∷ []))))) (differs b 34 (λ q. omega arith))
    ∙ (ap (λ x. if x then codes "&#9;" else (if b == 10 then codes "&#10;" else (if b == 13 then codes "&#13;" else (b ∷ [])))) (differs b 9 (λ q. omega arith))
    ∙ (ap (λ x. if x then codes "&#10;" else (if b == 13 then codes "&#13;" else (b ∷ []))) (differs b 10 (λ q. omega arith))
    ∙ ap (λ x. if x then codes "&#13;" else (b ∷ [])) (differs b 13 (λ q. omega arith))))))

-- an ASCII character, escaped
text_low : (b : ℕ) → b < 128 → is_char b ≡ true → IsChars (escaped_in_text b)
text_low b l h = by (b == 38) (b == 60) (b == 62) (b == 10) (b == 13)
  where
    by : (x y z v w : Bool) → IsChars (if x then codes "&amp;" else (if y then codes "&lt;" else (if z then codes "&gt;" else (if v then codes "&#10;" else (if w then codes "&#13;" else (b ∷ []))))))
    by true y z v w = low_chars (codes "&amp;") refl
    by false true z v w = low_chars (codes "&lt;") refl
    by false false true v w = low_chars (codes "&gt;") refl
    by false false false true w = low_chars (codes "&#10;") refl
    by false false false false true = low_chars (codes "&#13;") refl
    by false false false false false = subst IsChars (encode_ascii b l) (one_char b h)

value_low : (b : ℕ) → b < 128 → is_char b ≡ true → IsChars (escaped_in_value b)
value_low b l h = by (b == 38) (b == 60) (b == 34) (b == 9) (b == 10) (b == 13)
  where
    by : (x y z u v w : Bool) → IsChars (if x then codes "&amp;" else (if y then codes "&lt;" else (if z then codes "&quot;" else (if u then codes "&#9;" else (if v then codes "&#10;" else (if w then codes "&#13;" else (b ∷ [])))))))
    by true y z u v w = low_chars (codes "&amp;") refl
    by false true z u v w = low_chars (codes "&lt;") refl
    by false false true u v w = low_chars (codes "&quot;") refl
    by false false false true v w = low_chars (codes "&#9;") refl
    by false false false false true w = low_chars (codes "&#10;") refl
    by false false false false false true = low_chars (codes "&#13;") refl
    by false false false false false false = subst IsChars (encode_ascii b l) (one_char b h)

-- characters of which some are escaped
module _ (f : ℕ → List ℕ) (low : (b : ℕ) → b < 128 → is_char b ≡ true → IsChars (f b)) (high : (b : ℕ) → 128 ≤ b → f b ≡ b ∷ []) where
  high_stay : (bs : List ℕ) → list_all (leb 128) bs ≡ true → flat_map f bs ≡ bs
  high_stay [] e = refl
  high_stay (b ∷ bs) e =
      let (x, y) = and_parts (leb 128 b) (list_all (leb 128) bs) e in
      ap (λ w. w ++ flat_map f bs) (high b (leb-true 128 b x)) ∙ ap (λ w. b ∷ w) (high_stay bs y)

  one_escaped : (c : ℕ) → is_char c ≡ true → IsChars (flat_map f (encode_utf8 c))
  one_escaped c h = by (cases_lt c 128)
    where
      by : (c < 128) ⊎ (128 ≤ c) → IsChars (flat_map f (encode_utf8 c))
      by (inl l) = subst (λ w. IsChars (flat_map f w)) (sym (encode_ascii c l)) (subst IsChars (sym (append-nil (f c))) (low c l h))
      by (inr l) = subst IsChars (sym (high_stay (encode_utf8 c) (bytes_high c l))) (one_char c h)

  all_escaped : (cs : List ℕ) → list_all is_char cs ≡ true → IsChars (flat_map f (encode_utf8_all cs))
  all_escaped [] e = no_chars
  all_escaped (c ∷ cs) e =
      let (x, y) = and_parts (is_char c) (list_all is_char cs) e in
      subst IsChars (sym (flat_map-append f (encode_utf8 c) (encode_utf8_all cs)))
      (join_chars (flat_map f (encode_utf8 c)) (flat_map f (encode_utf8_all cs)) (one_escaped c x) (all_escaped cs y))

  pub escaped_chars : (bs : List ℕ) → IsChars bs → IsChars (flat_map f bs)
  escaped_chars bs (cs, e, h) = subst (λ w. IsChars (flat_map f w)) e (all_escaped cs h)

tag_chars : (n : ExpandedName) → IsName n → IsChars (tag_name n)
tag_chars n h = by (bytes_eq n.uri xml_uri)
  where
    local : IsChars n.local
    local = name_chars n.local h.1

    by : (x : Bool) → IsChars (if x then codes "xml:" ++ n.local else n.local)
    by true = join_chars (codes "xml:") n.local (low_chars (codes "xml:") refl) local
    by false = local

declaration_chars : (d : List ℕ) (n : ExpandedName) → IsName n → IsChars (declaration d n)
declaration_chars d n h = by (needs_no_declaration d n)
  where
    by : (x : Bool) → IsChars (if x then [] else codes " xmlns=\"" ++ flat_map escaped_in_value n.uri ++ codes "\"")
    by true = no_chars
    by false =
        join_chars (codes " xmlns=\"" ++ flat_map escaped_in_value n.uri) (codes "\"")
        (join_chars (codes " xmlns=\"") (flat_map escaped_in_value n.uri) (low_chars (codes " xmlns=\"") refl) (escaped_chars escaped_in_value value_low value_high n.uri h.0.0))
        (low_chars (codes "\"") refl)

content_chars : (n : ExpandedName) (inside : List ℕ) (x : Bool) → IsChars (tag_name n) → IsChars inside → IsChars (if x then codes "/>" else codes ">" ++ inside ++ codes "</" ++ tag_name n ++ codes ">")
content_chars n inside true t h = low_chars (codes "/>") refl
content_chars n inside false t h =
    join_chars (codes ">" ++ inside ++ codes "</" ++ tag_name n) (codes ">")
    (join_chars (codes ">" ++ inside ++ codes "</") (tag_name n)
    (join_chars (codes ">" ++ inside) (codes "</") (join_chars (codes ">") inside (low_chars (codes ">") refl) h) (low_chars (codes "</") refl)) t) (low_chars (codes ">") refl)

pub printed_chars : (d : List ℕ) (h : Trees) → AreLawful h → IsChars (printed_in d h)
printed_chars d none l = no_chars
printed_chars d (text s rest) (t, l) =
    join_chars (flat_map escaped_in_text s) (printed_in d rest) (escaped_chars escaped_in_text text_low text_high s t.1) (printed_chars d rest l)
printed_chars d (element n kids rest) (a, k, l) =
    let within = printed_in (default_within d n) kids in
    let inside = content_chars n within (is_none kids) (tag_chars n a) (printed_chars (default_within d n) kids k) in
    let opening = join_chars (codes "<") (tag_name n) (low_chars (codes "<") refl) (tag_chars n a) in
    let begun = join_chars (codes "<" ++ tag_name n) (declaration d n) opening (declaration_chars d n a) in
    join_chars _ (printed_in d rest) (join_chars (codes "<" ++ tag_name n ++ declaration d n) _ begun inside) (printed_chars d rest l)
