-- What the phrases of an XML text leave has lawful characters, and so has what they mean.
use Rattle.std.proofs.Common.{◌≡◌, ◌⊎◌, inl, inr, ℕ, ◌+◌, ◌/◌, ◌%◌, ◌<◌, ◌≤◌, Bool, true, false, cond, not, ◌&&◌, ◌||◌, ◌==◌, List, [], ◌∷◌, ◌++◌, refl, ap, ◌∙◌, sym, subst, arith, Option, None, Some, codes, leb, ltb, bytes_eq}
use Rattle.std.specs.Prelude.{encode_utf8, encode_utf8_all}
use Rattle.std.specs.List.{prefix_len, list_all}
use Rattle.std.specs.Str.Parse.{digits_value}
use Rattle.std.proofs.Math.Utf8.{encode}
use Rattle.std.proofs.lemmas.Bool.{true≢false, and_parts, and_from, le-leb, ltb-true, eqb-true, leb-true, cases_lt}
use Rattle.std.proofs.lemmas.Str.{encode_ascii}
use Rattle.tc_base.specs.Characters.{is_char}
use Rattle.tc_model.specs.Names.{IsChars, IsNcName}
use Rattle.tc_model.specs.XmlTextBytes.{RunAt, begins_with, UpTo, IsQuote, LiteralAt, line_ends}
use Rattle.tc_model.specs.XmlTextNames.{QualifiedName, QNameAt, unprefixed, prefixed}
use Rattle.tc_model.specs.XmlTextReferences.{predefined, is_digit, EntityAt, ReferenceAt, decimal, hexadecimal, entity, other, is_plain, is_plain_within, CharacterDataAt, CdataAt, spaced, ValueAt, closed, plain, reference, QuotedAt}
use Rattle.tc_model.specs.XmlTextMisc.{CommentAt, InstructionAt, SettingAt, EncodingAt, no_encoding, encoding, StandaloneAt, no_standalone, standalone, DeclarationAt, no_declaration, declaration, MiscAt, no_more, comment, instruction, ExternalIdAt, no_id, system, public, DoctypeAt, no_doctype, doctype}
use Rattle.tc_model.proofs.XmlTextChars.{no_chars, join_chars, one_char, after_ascii, after_mark, cut_at_ascii, run_chars, white_chars, up_to_chars, equals_chars, ncname_chars}

-- a function that goes byte by byte and keeps all bytes but ASCII
bytes_high : (c : ℕ) → 128 ≤ c → list_all (leb 128) (encode_utf8 c) ≡ true
unfolding encode
bytes_high c l = by (ltb c 128) (ltb c 2048) (ltb c 65536) refl
  where
    two : (m n : ℕ) → 128 ≤ m → 128 ≤ n → list_all (leb 128) (m ∷ n ∷ []) ≡ true
    two m n h k = and_from (leb 128 m) (leb 128 n && true) (le-leb 128 m h) (and_from (leb 128 n) true (le-leb 128 n k) refl)

    three : (l m n : ℕ) → 128 ≤ l → 128 ≤ m → 128 ≤ n → list_all (leb 128) (l ∷ m ∷ n ∷ []) ≡ true
    three l m n g h k = and_from (leb 128 l) (list_all (leb 128) (m ∷ n ∷ [])) (le-leb 128 l g) (two m n h k)

    four : (i l m n : ℕ) → 128 ≤ i → 128 ≤ l → 128 ≤ m → 128 ≤ n → list_all (leb 128) (i ∷ l ∷ m ∷ n ∷ []) ≡ true
    four i l m n f g h k = and_from (leb 128 i) (list_all (leb 128) (l ∷ m ∷ n ∷ [])) (le-leb 128 i f) (three l m n g h k)

    by : (x y z : Bool) → ltb c 128 ≡ x
        → list_all (leb 128) (cond x (c ∷ []) (cond y ((192 + c / 64) ∷ (128 + c % 64) ∷ []) (cond z ((224 + c / 4096) ∷ (128 + c / 64 % 64) ∷ (128 + c % 64) ∷ []) ((240 + c / 262144) ∷ (128 + c / 4096 % 64) ∷ (128 + c / 64 % 64) ∷ (128 + c % 64) ∷ [])))) ≡ true
    by true y z e = absurd (omega (arith, ltb-true c 128 e))
    by false true z e = two (192 + c / 64) (128 + c % 64) (omega arith) (omega arith)
    by false false true e = three (224 + c / 4096) (128 + c / 64 % 64) (128 + c % 64) (omega arith) (omega arith) (omega arith)
    by false false false e = four (240 + c / 262144) (128 + c / 4096 % 64) (128 + c / 64 % 64) (128 + c % 64) (omega arith) (omega arith) (omega arith) (omega arith)

past_high : (F : List ℕ → List ℕ) → ((b : ℕ) (rest : List ℕ) → 128 ≤ b → F (b ∷ rest) ≡ b ∷ F rest) → (xs rest : List ℕ) → list_all (leb 128) xs ≡ true → F (xs ++ rest) ≡ xs ++ F rest
past_high F keeps [] rest e = refl
past_high F keeps (x ∷ xs) rest e =
    let (a, b) = and_parts (leb 128 x) (list_all (leb 128) xs) e in
    keeps x (xs ++ rest) (leb-true 128 x a) ∙ ap (λ w. x ∷ w) (past_high F keeps xs rest b)

bytewise : (F : List ℕ → List ℕ) → F [] ≡ [] → ((c : ℕ) (rest : List ℕ) → c < 128 → is_char c ≡ true → IsChars (F rest) → IsChars (F (c ∷ rest)))
    → ((b : ℕ) (rest : List ℕ) → 128 ≤ b → F (b ∷ rest) ≡ b ∷ F rest) → (cs : List ℕ) → list_all is_char cs ≡ true → IsChars (F (encode_utf8_all cs))
bytewise F empty low keeps [] e = subst IsChars (sym empty) no_chars
bytewise F empty low keeps (c ∷ cs) e =
    let (a, b) = and_parts (is_char c) (list_all is_char cs) e in
    by (cases_lt c 128) a (bytewise F empty low keeps cs b)
  where
    by : (c < 128) ⊎ (128 ≤ c) → is_char c ≡ true → IsChars (F (encode_utf8_all cs)) → IsChars (F (encode_utf8 c ++ encode_utf8_all cs))
    by (inl l) a later = subst (λ w. IsChars (F (w ++ encode_utf8_all cs))) (sym (encode_ascii c l)) (low c (encode_utf8_all cs) l a later)
    by (inr l) a later = subst IsChars (sym (past_high F keeps (encode_utf8 c) (encode_utf8_all cs) (bytes_high c l))) (join_chars (encode_utf8 c) (F (encode_utf8_all cs)) (one_char c a) later)

ascii_before : (c : ℕ) (rest : List ℕ) → c < 128 → is_char c ≡ true → IsChars rest → IsChars (c ∷ rest)
ascii_before c rest l a h = subst (λ w. IsChars (w ++ rest)) (encode_ascii c l) (join_chars (encode_utf8 c) rest (one_char c a) h)

differs : (b c : ℕ) → (b ≡ c → ⊥) → (b == c) ≡ false
differs b c h = by (b == c) refl
  where
    by : (x : Bool) → (b == c) ≡ x → (b == c) ≡ false
    by true e = absurd (h (eqb-true b c e))
    by false e = e

line_chars : (bs : List ℕ) → IsChars bs → IsChars (line_ends bs)
line_chars bs (cs, e, h) = subst (λ w. IsChars (line_ends w)) e (bytewise line_ends refl low keeps cs h)
  where
    chosen : (x y : Bool) (c : ℕ) (rest : List ℕ) → c < 128 → is_char c ≡ true → IsChars rest → IsChars (cond x (cond y rest (0xA ∷ rest)) (c ∷ rest))
    chosen true true c rest l a h = h
    chosen true false c rest l a h = ascii_before 0xA rest (omega arith) refl h
    chosen false y c rest l a h = ascii_before c rest l a h

    low : (c : ℕ) (rest : List ℕ) → c < 128 → is_char c ≡ true → IsChars (line_ends rest) → IsChars (line_ends (c ∷ rest))
    low c rest l a h = chosen (c == 0xD) (begins_with (0xA ∷ []) rest) c (line_ends rest) l a h

    keeps : (b : ℕ) (rest : List ℕ) → 128 ≤ b → line_ends (b ∷ rest) ≡ b ∷ line_ends rest
    keeps b rest l = ap (λ x. cond x (cond (begins_with (0xA ∷ []) rest) (line_ends rest) (0xA ∷ line_ends rest)) (b ∷ line_ends rest)) (differs b 0xD (λ q. omega arith))

spaced_chars : (bs : List ℕ) → IsChars bs → IsChars (spaced bs)
spaced_chars bs (cs, e, h) = subst (λ w. IsChars (spaced w)) e (bytewise spaced refl low keeps cs h)
  where
    chosen : (x y : Bool) (c : ℕ) (rest : List ℕ) → c < 128 → is_char c ≡ true → IsChars rest → IsChars (cond (x || y) 0x20 c ∷ rest)
    chosen true y c rest l a h = ascii_before 0x20 rest (omega arith) refl h
    chosen false true c rest l a h = ascii_before 0x20 rest (omega arith) refl h
    chosen false false c rest l a h = ascii_before c rest l a h

    low : (c : ℕ) (rest : List ℕ) → c < 128 → is_char c ≡ true → IsChars (spaced rest) → IsChars (spaced (c ∷ rest))
    low c rest l a h = chosen (c == 0x9) (c == 0xA) c (spaced rest) l a h

    keeps : (b : ℕ) (rest : List ℕ) → 128 ≤ b → spaced (b ∷ rest) ≡ b ∷ spaced rest
    keeps b rest l =
        ap (λ x. cond (x || b == 0xA) 0x20 b ∷ spaced rest) (differs b 0x9 (λ q. omega arith))
        ∙ ap (λ x. cond x 0x20 b ∷ spaced rest) (differs b 0xA (λ q. omega arith))

-- what is no digit, and no plain character, is ASCII
digit_run : (base : ℕ) {bs n r : List ℕ} {b : ℕ} → RunAt (is_digit base) bs n (b ∷ r) → b < 128 → IsChars bs → IsChars r
digit_run base {bs} {n} {r} {b} a l h = (cut_at_ascii bs r (prefix_len (is_digit base) bs) b h (sym a.back) l).1

plain_small : (b : ℕ) → is_plain b ≡ false → b < 128
plain_small b e = by (b == 0x3C) refl (b == 0x26) refl e
  where
    by : (x : Bool) → (b == 0x3C) ≡ x → (y : Bool) → (b == 0x26) ≡ y → not (x || y) ≡ false → b < 128
    by true p y q e = omega (arith, eqb-true b 0x3C p)
    by false p true q e = omega (arith, eqb-true b 0x26 q)
    by false p false q e = absurd (true≢false e)

plain_within_small : (k : ℕ) → k < 128 → (b : ℕ) → is_plain_within k b ≡ false → b < 128
plain_within_small k l b e = by (b == k) refl (b == 0x3C) refl (b == 0x26) refl e
  where
    by : (w : Bool) → (b == k) ≡ w → (x : Bool) → (b == 0x3C) ≡ x → (y : Bool) → (b == 0x26) ≡ y → not (w || x || y) ≡ false → b < 128
    by true o x p y q e = omega (arith, eqb-true b k o)
    by false o true p y q e = omega (arith, eqb-true b 0x3C p)
    by false o false p true q e = omega (arith, eqb-true b 0x26 q)
    by false o false p false q e = absurd (true≢false e)

quote_small : (k : ℕ) → IsQuote k → k < 128
quote_small k (inl e) = omega arith
quote_small k (inr e) = omega arith

ascii_char : (c : ℕ) → c < 128 → is_char c ≡ true → IsChars (c ∷ [])
ascii_char c l a = ascii_before c [] l a no_chars

predefined_chars : (name : List ℕ) (c : ℕ) → predefined name ≡ Some c → IsChars (c ∷ [])
predefined_chars name c =
    pick (bytes_eq name (codes "lt")) 0x3C _ (omega arith) refl
    (pick (bytes_eq name (codes "gt")) 0x3E _ (omega arith) refl
    (pick (bytes_eq name (codes "amp")) 0x26 _ (omega arith) refl
    (pick (bytes_eq name (codes "apos")) 0x27 _ (omega arith) refl
    (pick (bytes_eq name (codes "quot")) 0x22 None (omega arith) refl (λ e. cc)))))
  where
    pick : (b : Bool) (x : ℕ) (rest : Option ℕ) → x < 128 → is_char x ≡ true → (rest ≡ Some c → IsChars (c ∷ [])) → cond b (Some x) rest ≡ Some c → IsChars (c ∷ [])
    pick true x rest l a later e = let same : x ≡ c = cc in subst (λ w. IsChars (w ∷ [])) same (ascii_char x l a)
    pick false x rest l a later e = later e

entity_chars : {bs name after : List ℕ} → EntityAt bs name after → IsChars bs → IsChars after
entity_chars {bs} {name} {after} a h =
    after_ascii 0x3B after (omega arith) (ncname_chars a.names (after_ascii 0x26 a.rest (omega arith) (subst IsChars a.opens h))).1

pub reference_chars : {o : Bool} {bs s after : List ℕ} → ReferenceAt o bs s after → IsChars bs → IsChars s × IsChars after
reference_chars (decimal {rest = rest} {digits = d} a k) h =
    (one_char (digits_value 10 d) k, digit_run 10 a (omega arith) (after_mark (codes "&#") rest refl h))
reference_chars (hexadecimal {rest = rest} {digits = d} a k) h =
    (one_char (digits_value 16 d) k, digit_run 16 a (omega arith) (after_mark (codes "&#x") rest refl h))
reference_chars (entity {name = n} {c = c} a k) h = (predefined_chars n c k, entity_chars a h)
reference_chars (other k a l) h = (ascii_char 0x3C (omega arith) refl, entity_chars a h)

value_chars : {o : Bool} {q : ℕ} {bs v after : List ℕ} → q < 128 → ValueAt o q bs v after → IsChars bs → IsChars v × IsChars after
value_chars {q = q} {after = after} l (closed e) h = (no_chars, after_ascii q after l (subst IsChars e h))
value_chars {q = q} {bs = bs} l (plain {run = run} {rest = rest} {value = v} a m) h =
    let (x, y) = run_chars (is_plain_within q) bs run rest (plain_within_small q l) a h in
    let (z, w) = value_chars l m y in
    (join_chars (spaced (line_ends run)) v (spaced_chars (line_ends run) (line_chars run x)) z, w)
value_chars l (reference {text = s} {value = v} a m) h =
    let (x, y) = reference_chars a h in
    let (z, w) = value_chars l m y in
    (join_chars s v x z, w)

pub quoted_chars : {o : Bool} {bs v after : List ℕ} → QuotedAt o bs v after → IsChars bs → IsChars v × IsChars after
quoted_chars a h = let l = quote_small a.quote a.is_quote in value_chars l a.closes (after_ascii a.quote a.rest l (subst IsChars a.opens h))

literal_chars : {bs v after : List ℕ} → LiteralAt bs v after → IsChars bs → IsChars after
literal_chars {v = v} {after = after} a h = by a.is_quote
  where
    rest_chars : a.quote < 128 → IsChars a.rest
    rest_chars l = after_ascii a.quote a.rest l (subst IsChars a.opens h)

    by : IsQuote a.quote → IsChars after
    by (inl e) = (up_to_chars 0x22 [] a.rest v after refl (subst (λ q. UpTo (q ∷ []) a.rest v after) e a.closes) (rest_chars (omega arith))).1
    by (inr e) = (up_to_chars 0x27 [] a.rest v after refl (subst (λ q. UpTo (q ∷ []) a.rest v after) e a.closes) (rest_chars (omega arith))).1

pub character_data_chars : {bs run after : List ℕ} → CharacterDataAt bs run after → IsChars bs → IsChars (line_ends run) × IsChars after
character_data_chars {bs} {run} {after} a h = let (x, y) = run_chars is_plain bs run after plain_small a.plain h in (line_chars run x, y)

pub cdata_chars : {bs inside after : List ℕ} → CdataAt bs inside after → IsChars bs → IsChars (line_ends inside) × IsChars after
cdata_chars {bs} {inside} {after} a h =
    let (x, y) = up_to_chars 0x5D (0x5D ∷ 0x3E ∷ []) a.rest inside after refl a.closes (after_mark (codes "<![CDATA[") a.rest refl (subst IsChars a.opens h)) in (line_chars inside x, y)

pub comment_chars : {bs after : List ℕ} → CommentAt bs after → IsChars bs → IsChars after
comment_chars {bs} {after} a h =
    after_ascii 0x3E after (omega arith) (up_to_chars 0x2D (0x2D ∷ []) a.rest a.inside (0x3E ∷ after) refl a.closes (after_mark (codes "<!--") a.rest refl (subst IsChars a.opens h))).1

pub instruction_chars : {bs after : List ℕ} → InstructionAt bs after → IsChars bs → IsChars after
instruction_chars {bs} {after} a h =
    (up_to_chars 0x3F (0x3E ∷ []) a.behind a.inside after refl a.closes (ncname_chars a.names (after_mark (codes "<?") a.rest refl (subst IsChars a.opens h))).1).1

setting_chars : {word bs v after : List ℕ} → list_all (λ b. ltb b 128) word ≡ true → SettingAt word bs v after → IsChars bs → IsChars after
setting_chars {word} {bs} e a h =
    literal_chars a.literal (equals_chars a.behind a.start a.equals (after_mark word a.behind e (subst IsChars a.names (white_chars bs h))))

encoding_chars : {bs after : List ℕ} → EncodingAt bs after → IsChars bs → IsChars after
encoding_chars (no_encoding k) h = h
encoding_chars (encoding a k) h = setting_chars refl a h

standalone_chars : {bs after : List ℕ} → StandaloneAt bs after → IsChars bs → IsChars after
standalone_chars (no_standalone k) h = h
standalone_chars (standalone a k) h = setting_chars refl a h

pub declaration_chars : {bs after : List ℕ} → DeclarationAt bs after → IsChars bs → IsChars after
declaration_chars (no_declaration k) h = h
declaration_chars {after = after} (declaration {rest = rest} {past_standalone = s} is v e t q) h =
    after_mark (codes "?>") after refl (subst IsChars q (white_chars s (standalone_chars t (encoding_chars e (setting_chars refl v (after_mark (codes "<?xml") rest refl (subst IsChars is h)))))))

pub misc_chars : {bs after : List ℕ} → MiscAt bs after → IsChars bs → IsChars after
misc_chars {bs} (no_more k) h = white_chars bs h
misc_chars {bs} (comment a m) h = misc_chars m (comment_chars a (white_chars bs h))
misc_chars {bs} (instruction a m) h = misc_chars m (instruction_chars a (white_chars bs h))

pub qname_chars : {bs after : List ℕ} {name : QualifiedName} → QNameAt bs name after → IsChars bs → IsChars after
qname_chars (unprefixed a k) h = (ncname_chars a h).1
qname_chars (prefixed {rest = rest} a b) h = (ncname_chars b (after_ascii 0x3A rest (omega arith) (ncname_chars a h).1)).1

-- its parts are NCNames
pub qname_parts : {bs after : List ℕ} {name : QualifiedName} → QNameAt bs name after → ((name.prefix ≡ []) ⊎ IsNcName name.prefix) × IsNcName name.local
qname_parts (unprefixed a k) = (inl refl, a.lawful)
qname_parts (prefixed a b) = (inr a.lawful, b.lawful)

external_chars : {bs after : List ℕ} → ExternalIdAt bs after → IsChars bs → IsChars after
external_chars (no_id k) h = h
external_chars {bs} (system {rest = rest} w is w' l) h = literal_chars l (white_chars rest (after_mark (codes "SYSTEM") rest refl (subst IsChars is (white_chars bs h))))
external_chars {bs} (public {rest = rest} {past_first = p} w is w' l w'' l') h =
    literal_chars l' (white_chars p (literal_chars l (white_chars rest (after_mark (codes "PUBLIC") rest refl (subst IsChars is (white_chars bs h))))))

pub doctype_chars : {bs after : List ℕ} → DoctypeAt bs after → IsChars bs → IsChars after
doctype_chars (no_doctype k) h = h
doctype_chars (doctype {rest = rest} a m) h =
    misc_chars m (after_ascii 0x3E rest (omega arith) (subst IsChars (sym a.past)
    (white_chars a.past_id (external_chars a.external (qname_chars a.names (white_chars a.rest (after_mark (codes "<!DOCTYPE") a.rest refl (subst IsChars a.opens h))))))))
