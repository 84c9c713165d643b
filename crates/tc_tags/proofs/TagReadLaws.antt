-- What the steps over a tag answer, by where its parts stand.
use Rattle.std.proofs.Common.{◌≡◌, inl, inr, ℕ, suc, ◌+◌, ◌-◌, ◌*◌, ◌<◌, ◌≤◌, Bool, true, false, cond, List, [], ◌∷◌, ◌++◌, refl, ap, ◌∙◌, sym, subst, length, take, drop, get_or, arith, codes, append_assoc, length-append, length-drop, IsTrue, IsUtf8, IsCharBoundary, take-append-drop}
use Rattle.std.specs.Prelude.{encode_utf8_all}
use Rattle.std.specs.List.{prefix_len}
use Rattle.std.proofs.lemmas.Bool.{true≢false}
use Rattle.std.proofs.lemmas.List.{take_at, drop_at, get_or_at}
use Rattle.std.proofs.lemmas.Str.{IsCharBoundary-after_ascii, length-le-encodes}
use Rattle.tc_base.specs.Characters.{is_white}
use Rattle.tc_base.specs.declared.reasons.Why.{Why}
use Rattle.tc_base.specs.declared.reasons.Why.TheVariants.{XmlSpace}
use Rattle.tc_model.specs.XmlTextBytes.{BeginsWithWhite, after_white, EqualsAt, place_of, IsQuote, RunAt}
use Rattle.tc_model.specs.XmlTextNames.{QualifiedName, NcNameAt, QNameAt, unprefixed, prefixed, same_written}
use Rattle.tc_model.specs.XmlTextReferences.{QuotedAt, ReferenceAt, ValueAt, closed, plain}
use Rattle.tc_model.specs.XmlTextReferences as r
use Rattle.tc_model.specs.XmlTextScopes.{WrittenAttribute, is_empty}
use Rattle.tc_model.specs.XmlTextContent.{EndsTag, AttributesAt}
use Rattle.tc_model.specs.XmlTextRefusals.{xml_space, AttributesRefuse, TagRefuses}
use Rattle.tc_model.proofs.XmlTextPhrases.{same_others, qname_unique}
use Rattle.tc_model.proofs.XmlTextUnique.{attributes_unique}
use Rattle.tc_tags.specs.Forms.{AttributeAt, ValueRead, IsNameAt, IsStop, Refuses, UnsupportedAt, OnMalformed, FormRead, lacks_space}
use Rattle.tc_tags.specs.Spans.{at_span}
use Rattle.tc_tags.specs.Written.{IsWritten, AreWritten}
use Rattle.tc_tags.specs.XmlTextTags.{WrittenElement, TagFormAt}
use Rattle.tc_tags.specs.declared.attributes.Attribute.{Attribute}
use Rattle.tc_tags.specs.declared.names.WrittenName.{WrittenName}
use Rattle.tc_tags.specs.declared.tags.Form.{Form}
use Rattle.tc_tags.specs.declared.tags.NoForm.{NoForm}
use Rattle.tc_tags.specs.declared.tags.NoForm.TheVariants.{Malformed, Unsupported}
use Rattle.tc_tags.proofs.FormLaws.{Attributes, attributes_begin, attributes_more, all_attributes, space_stands, value_within}
use Rattle.tc_tags.proofs.TagLaws.{attributes_loosened}
use Rattle.tc_tags.proofs.ValueLaws.{reference_before}

-- where nothing is said of a construct that isn't read
pub stop_refuses : (e : NoForm) (P Q : Type 0) → IsStop e → P → Refuses e P Q
stop_refuses (Malformed at) P Q s h = h
stop_refuses (Unsupported at why) P Q s h = absurd s

pub stop_stands : (total : ℕ) (e : NoForm) (P : Why → List ℕ → Type 0) → IsStop e → UnsupportedAt total e P
stop_stands total (Malformed at) P s = tt
stop_stands total (Unsupported at why) P s = absurd s

pub stop_malformed : (e : NoForm) (P : Type 0) → IsStop e → P → OnMalformed e P
stop_malformed (Malformed at) P s h = h
stop_malformed (Unsupported at why) P s h = absurd s

-- names
pub name_some : (bs n after : List ℕ) → NcNameAt bs n after → is_empty n ≡ false
name_some bs [] after a = let (c, cs, e, s, o) = a.lawful in absurd (none c cs e)
  where
    none : (c : ℕ) (cs : List ℕ) → encode_utf8_all (c ∷ cs) ≡ [] → ⊥
    none c cs e = omega (arith, ap length e, length-le-encodes (c ∷ cs))
name_some bs (b ∷ n) after a = refl

pub name_stands : (front text after : List ℕ) (n : QualifiedName) (s : WrittenName) → QNameAt text n after
    → s.prefix.start ≡ length front → s.prefix.length ≡ length n.prefix → s.local.start ≡ length front + length n.prefix + cond (is_empty n.prefix) 0 1 → s.local.length ≡ length n.local
    → IsNameAt (front ++ text) s n
name_stands front text after n s (unprefixed {local = l} a e) ps pl ls ll =
    let behind : drop s.local.start (front ++ text) ≡ text = drop_at front text s.local.start (omega (arith, ls)) in
    record {
      prefix = ap (λ k. take k (drop s.prefix.start (front ++ text))) pl;
      local = ap (take s.local.length) (behind ∙ a.parts) ∙ take_at l after s.local.length (sym ll);
    }
name_stands front text after n s (prefixed {prefix = p} {rest = rest} {local = l} a b) ps pl ls ll =
    let one : ◌≡◌ {A = ℕ} (cond (is_empty p) 0 1) 1 = ap (λ x. cond x 0 1) (name_some text p (0x3A ∷ rest) a) in
    let split : front ++ text ≡ ((front ++ p) ++ 0x3A ∷ []) ++ rest = ap (λ w. front ++ w) a.parts ∙ (sym (append_assoc front p (0x3A ∷ rest)) ∙ sym (append_assoc (front ++ p) (0x3A ∷ []) rest)) in
    let many : length ((front ++ p) ++ 0x3A ∷ []) ≡ length front + length p + 1 = length-append (front ++ p) (0x3A ∷ []) ∙ ap (λ k. k + 1) (length-append front p) in
    record {
      prefix = ap (take s.prefix.length) (drop_at front text s.prefix.start (sym ps) ∙ a.parts) ∙ take_at p (0x3A ∷ rest) s.prefix.length (sym pl);
      local = ap (λ w. take s.local.length (drop s.local.start w)) split
          ∙ (ap (take s.local.length) (drop_at ((front ++ p) ++ 0x3A ∷ []) rest s.local.start (omega (arith, many, ls, one)) ∙ b.parts) ∙ take_at l after s.local.length (sym ll));
    }

-- what stands behind others
pub record Behind (text rest : List ℕ) : Type 0 where
  pub before : List ℕ
  pub parts : text ≡ before ++ rest

behind_all : {a b c : List ℕ} → Behind a b → Behind b c → Behind a c
behind_all {a} {b} {c} x y = record { before = x.before ++ y.before; parts = x.parts ∙ (ap (λ w. x.before ++ w) y.parts ∙ sym (append_assoc x.before y.before c)) }

dropped : (n : ℕ) (bs : List ℕ) → Behind bs (drop n bs)
dropped n bs = record { before = take n bs; parts = sym (take-append-drop n bs) }

white_behind : (bs : List ℕ) → Behind bs (after_white bs)
white_behind bs = dropped (prefix_len is_white bs) bs

name_behind : {bs n after : List ℕ} → NcNameAt bs n after → Behind bs after
name_behind {n = n} a = record { before = n; parts = a.parts }

one_behind : {bs : List ℕ} (b : ℕ) (rest : List ℕ) → bs ≡ b ∷ rest → Behind bs rest
one_behind b rest e = record { before = b ∷ []; parts = e }

pub qname_behind : {bs after : List ℕ} {n : QualifiedName} → QNameAt bs n after → Behind bs after
qname_behind (unprefixed a e) = name_behind a
qname_behind (prefixed {rest = rest} a b) = behind_all (name_behind a) (behind_all (one_behind 0x3A rest refl) (name_behind b))

pub equals_behind : {bs after : List ℕ} → EqualsAt bs after → Behind bs after
equals_behind {bs} {after} a = behind_all (white_behind bs) (behind_all (one_behind 0x3D a.rest a.sign) (subst (Behind a.rest) (sym a.past) (white_behind a.rest)))

-- an attribute stands in a tag
pub attribute_stands : (front text start behind equals rest : List ℕ) (total : ℕ) (n : QualifiedName) (value : List ℕ) (at quote : ℕ) (a : Attribute) (place : ℕ) → start ≡ after_white text → QNameAt start n behind → EqualsAt behind equals
    → ValueRead total equals at quote value rest → ((f : List ℕ) → length f + length start ≡ total → IsNameAt (f ++ start) (record { prefix = a.prefix; local = a.local }) n) → a.value ≡ at → a.quote ≡ quote
    → length front + length text ≡ total → IsUtf8 (front ++ text) → IsWritten (front ++ text) a (record { name = n; value = value; place = place })
attribute_stands front text start behind equals rest total n value at quote a place e q f v names av aq len utf8 =
    let white = prefix_len is_white text in
    let split : text ≡ take white text ++ start = sym (take-append-drop white text) ∙ ap (λ w. take white text ++ w) (sym e) in
    let whole : front ++ text ≡ (front ++ take white text) ++ start = ap (λ w. front ++ w) split ∙ sym (append_assoc front (take white text) start) in
    let long : length (front ++ take white text) + length start ≡ total =
    sym (length-append (front ++ take white text) start) ∙ (ap length (sym whole) ∙ (length-append front text ∙ len)) in
    let name = names (front ++ take white text) long in
    let first : Behind (front ++ text) start = record { before = front ++ take white text; parts = whole } in
    let there : Behind (front ++ text) equals = behind_all first (behind_all (qname_behind q) (equals_behind f)) in
    let from : front ++ text ≡ there.before ++ quote ∷ v.inside = there.parts ∙ ap (λ w. there.before ++ w) v.opens in
    let lengths : length front + length text ≡ length there.before + suc (length v.inside) = sym (length-append front text) ∙ (ap length from ∙ length-append there.before (quote ∷ v.inside)) in
    let here : at ≡ length there.before + 1 = omega (arith, lengths, len, v.stands) in
    let tail : drop at (front ++ text) ≡ v.inside =
    ap (drop at) (from ∙ sym (append_assoc there.before (quote ∷ []) v.inside)) ∙ drop_at (there.before ++ quote ∷ []) v.inside at (length-append there.before (quote ∷ []) ∙ sym here) in
    let ascii : quote < 128 = low quote v.is_quote in
    let byte : get_or (front ++ text) (length there.before) 0 ≡ quote = ap (λ w. get_or w (length there.before) 0) from ∙ get_or_at there.before quote v.inside 0 (length there.before) refl in
    let within : length there.before < length (front ++ text) = omega (arith, ap length from, length-append there.before (quote ∷ v.inside)) in
    let cut : IsCharBoundary (front ++ text) (length there.before + 1) = IsCharBoundary-after_ascii (front ++ text) (length there.before) utf8 within (omega (arith, byte, ascii)) in
    record {
      prefix = ap (at_span a.prefix) whole ∙ name.prefix;
      local = ap (at_span a.local) whole ∙ name.local;
      is_quote = subst IsQuote (sym aq) v.is_quote;
      cut = subst (IsCharBoundary (front ++ text)) (sym (av ∙ here)) cut;
      after = rest;
      value = subst (λ w. ValueAt false a.quote w value rest) (sym (ap (λ k. drop k (front ++ text)) av ∙ tail)) (subst (λ z. ValueAt false z v.inside value rest) (sym aq) v.closes);
    }
  where
    low : (q : ℕ) → IsQuote q → q < 128
    low q (inl e) = omega (arith, e)
    low q (inr e) = omega (arith, e)

pub an_attribute : (text start behind equals rest : List ℕ) (total : ℕ) (n : QualifiedName) (value : List ℕ) (at quote : ℕ) → BeginsWithWhite text → start ≡ after_white text → QNameAt start n behind → EqualsAt behind equals
    → ValueRead total equals at quote value rest → same_written n xml_space ≡ false → AttributeAt false total text (record { name = n; value = value; place = place_of total (after_white text) }) rest
an_attribute text start behind equals rest total n value at quote w e q f v s = record {
  past_name = behind;
  start = equals;
  white = w;
  names = subst (λ z. QNameAt z n behind) e q;
  equals = f;
  quoted = record { quote = quote; rest = v.inside; is_quote = v.is_quote; opens = v.opens; closes = v.closes };
  stands = refl;
  no_space = s;
}

pub space_here : (total : ℕ) (text start behind : List ℕ) (name : QualifiedName) → length start ≤ total → BeginsWithWhite text → start ≡ after_white text → QNameAt start name behind → true ≡ same_written name xml_space
    → (left : List ℕ) × (total - length start + length left ≡ total) × AttributesRefuse text XmlSpace left
space_here total text start behind name l w e q h = let (at, same, k) = space_stands text start behind name w e q h in (at, omega (arith, l, same), k)

-- the attributes so far, in the table
pub written_more : (tag : List ℕ) (list : List Attribute) (ws : List WrittenAttribute) (a : Attribute) (w : WrittenAttribute) → AreWritten tag list ws → IsWritten tag a w → AreWritten tag (list ++ a ∷ []) (ws ++ w ∷ [])
written_more tag [] [] a w h k = (k, tt)
written_more tag [] (v ∷ ws) a w h k = absurd h
written_more tag (b ∷ list) [] a w h k = absurd h
written_more tag (b ∷ list) (v ∷ ws) a w h k = (h.0, written_more tag list ws a w h.1 k)

-- an attribute has five bytes at least
white_max : (bs : List ℕ) → prefix_len is_white bs ≤ length bs
white_max [] = omega arith
white_max (b ∷ bs) = let more = white_max bs in by (is_white b) more
  where
    by : (x : Bool) → prefix_len is_white bs ≤ length bs → cond x (1 + prefix_len is_white bs) 0 ≤ suc (length bs)
    by true l = omega (arith, l)
    by false l = omega arith

name_less : {bs n r : List ℕ} → NcNameAt bs n r → length r < length bs
name_less {bs} {n} {r} a = some n (name_some bs n r a) (ap length a.parts ∙ length-append n r)
  where
    some : (n : List ℕ) → is_empty n ≡ false → length bs ≡ length n + length r → length r < length bs
    some [] e f = absurd (true≢false e)
    some (b ∷ n) e f = omega (arith, f)

qname_less : {bs r : List ℕ} {n : QualifiedName} → QNameAt bs n r → length r < length bs
qname_less (unprefixed a e) = name_less a
qname_less (prefixed a b) = omega (arith, name_less a, name_less b)

pub five_bytes : {o : Bool} {total : ℕ} {bs r : List ℕ} {a : WrittenAttribute} → AttributeAt o total bs a r → length r + 5 ≤ length bs
five_bytes {bs = bs} {r = r} at =
    omega (
      arith,
      at.white,
      length-drop (prefix_len is_white bs) bs,
      white_max bs,
      qname_less at.names,
      ap length at.equals.sign,
      length-drop (prefix_len is_white at.past_name) at.past_name,
      white_max at.past_name,
      ap length at.equals.past,
      length-drop (prefix_len is_white at.equals.rest) at.equals.rest,
      ap length at.quoted.opens,
      value_within at.quoted.closes,
    )

-- what follows a value, an attribute
run_behind : {test : ℕ → Bool} {bs n r : List ℕ} → RunAt test bs n r → Behind bs r
run_behind {test} {bs} a = subst (Behind bs) (sym a.back) (dropped (prefix_len test bs) bs)

reference_behind : {o : Bool} {bs s r : List ℕ} → ReferenceAt o bs s r → Behind bs r
reference_behind {bs = bs} {s = s} {r = r} a = let (p, e) = reference_before bs s r a in record { before = p ++ 0x3B ∷ []; parts = e ∙ sym (append_assoc p (0x3B ∷ []) r) }

value_behind : {o : Bool} {q : ℕ} {bs v r : List ℕ} → ValueAt o q bs v r → Behind bs r
value_behind {q = q} {r = r} (closed e) = one_behind q r e
value_behind (plain a v) = behind_all (run_behind a) (value_behind v)
value_behind (r.reference a v) = behind_all (reference_behind a) (value_behind v)

attribute_behind : {o : Bool} {total : ℕ} {bs after : List ℕ} {a : WrittenAttribute} → AttributeAt o total bs a after → Behind bs after
attribute_behind {bs = bs} at =
    behind_all (white_behind bs) (behind_all (qname_behind at.names) (behind_all (equals_behind at.equals) (behind_all (one_behind at.quoted.quote at.quoted.rest at.quoted.opens) (value_behind at.quoted.closes))))

-- the attributes so far, in the table
pub record Taken (total : ℕ) (text rest : List ℕ) (list : List Attribute) : Type 0 where
  pub ws : List WrittenAttribute
  pub read : Attributes total text rest ws
  pub few : 5 * length list + length rest ≤ length text
  pub behind : Behind text rest
  pub written : (front : List ℕ) → length front + length text ≡ total → IsUtf8 (front ++ text) → AreWritten (front ++ text) list ws

pub taken_none : (total : ℕ) (text : List ℕ) (list : List Attribute) → list ≡ [] → Taken total text text list
taken_none total text list e = record {
  ws = [];
  read = attributes_begin total text;
  few = omega (arith, ap length e);
  behind = record { before = []; parts = refl };
  written = λ front l u. subst (λ w. AreWritten (front ++ text) w []) (sym e) tt;
}

pub taken_more : (total : ℕ) (text rest after : List ℕ) (list more : List Attribute) (a : Attribute) → Taken total text rest list
    → ((w : WrittenAttribute) × AttributeAt false total rest w after × ((front : List ℕ) → length front + length rest ≡ total → IsUtf8 (front ++ rest) → IsWritten (front ++ rest) a w)) → more ≡ list ++ a ∷ []
    → Taken total text after more
taken_more total text rest after list more a t (w, at, stands) e = record {
  ws = t.ws ++ w ∷ [];
  read = attributes_more total text rest after t.ws w t.read at;
  few = omega (arith, t.few, five_bytes at, ap length e, length-append list (a ∷ []));
  behind = behind_all t.behind (attribute_behind at);
  written = λ front l u.
      let whole : front ++ text ≡ (front ++ t.behind.before) ++ rest = ap (λ z. front ++ z) t.behind.parts ∙ sym (append_assoc front t.behind.before rest) in
      let long : length (front ++ t.behind.before) + length rest ≡ total = sym (length-append (front ++ t.behind.before) rest) ∙ (ap length (sym whole) ∙ (length-append front text ∙ l)) in
      let here : IsWritten (front ++ text) a w = subst (λ z. IsWritten z a w) (sym whole) (stands (front ++ t.behind.before) long (subst IsUtf8 whole u)) in
      subst (λ z. AreWritten (front ++ text) z (t.ws ++ w ∷ [])) (sym e) (written_more (front ++ text) list t.ws a w (t.written front l u) here);
}

pub taken_room : {o : Bool} (total : ℕ) (text rest after : List ℕ) (list : List Attribute) (a : WrittenAttribute) → Taken total text rest list → AttributeAt o total rest a after → length text + 2 ≤ total → total ≤ 65536
    → length list < 13106
taken_room total text rest after list a t at l m = omega (arith, t.few, five_bytes at, l, m)

-- all of them
pub taken_all : (total : ℕ) (text rest end : List ℕ) (list : List Attribute) (t : Taken total text rest list) → EndsTag (after_white rest) → end ≡ after_white rest
    → (ws : List WrittenAttribute) × AttributesAt false total text ws end × IsTrue (lacks_space ws) × ((front : List ℕ) → length front + length text ≡ total → IsUtf8 (front ++ text) → AreWritten (front ++ text) list ws)
taken_all total text rest end list t ends e = (t.ws, all_attributes total text rest end t.ws t.read ends e, t.read.no_space, t.written)

-- a whole tag
pub a_form : (tag start behind end : List ℕ) (name : QualifiedName) (ws : List WrittenAttribute) (f : Form) → tag ≡ 0x3C ∷ start → QNameAt start name behind → IsNameAt tag f.name name
    → AttributesAt false (length tag) behind ws end → IsTrue (lacks_space ws) → end ≡ cond f.is_empty (codes "/>") (codes ">") → FormRead tag f (record { name = name; attributes = ws })
a_form tag start behind end name ws f e q n l s k = record {
  form = record { rest = start; past_name = behind; opens = e; names = q; lists = subst (AttributesAt false (length tag) behind ws) k l; no_space = s };
  name = n;
}

pub form_written : (tag start behind : List ℕ) (name : QualifiedName) (list : List Attribute) (ws : List WrittenAttribute) → IsUtf8 tag → tag ≡ 0x3C ∷ start → QNameAt start name behind
    → ((front : List ℕ) → length front + length behind ≡ length tag → IsUtf8 (front ++ behind) → AreWritten (front ++ behind) list ws) → AreWritten tag list ws
form_written tag start behind name list ws u e q h =
    let b = qname_behind q in
    let whole : tag ≡ (0x3C ∷ b.before) ++ behind = e ∙ ap (λ w. 0x3C ∷ w) b.parts in
    subst (λ w. AreWritten w list ws) (sym whole) (h (0x3C ∷ b.before) (sym (length-append (0x3C ∷ b.before) behind) ∙ ap length (sym whole)) (subst IsUtf8 whole u))

pub no_form : (o : Bool) (tag start behind end : List ℕ) (name : QualifiedName) → tag ≡ 0x3C ∷ start → QNameAt start name behind
    → ((ws : List WrittenAttribute) (after : List ℕ) → AttributesAt o (length tag) behind ws after → IsTrue (lacks_space ws) → ⊥) → (e : WrittenElement) → TagFormAt o (length tag) tag e end → ⊥
no_form o tag start behind end name e q h x f =
    let names = qname_unique (subst (λ z. QNameAt z x.name f.past_name) (same_others (sym f.opens ∙ e)) f.names) q in
    h x.attributes end (subst (λ z. AttributesAt o (length tag) z x.attributes end) names.1 f.lists) f.no_space

-- what stands behind a name is two bytes shorter
pub short_name : (tag start behind : List ℕ) (name : QualifiedName) → tag ≡ 0x3C ∷ start → QNameAt start name behind → length behind + 2 ≤ length tag
short_name tag start behind name e q = omega (arith, ap length e, qname_less q)

pub no_name : (o : Bool) (tag end : List ℕ) → ((start : List ℕ) (name : QualifiedName) (after : List ℕ) → tag ≡ 0x3C ∷ start → QNameAt start name after → ⊥) → (e : WrittenElement) → TagFormAt o (length tag) tag e end → ⊥
no_name o tag end h e f = h f.rest e.name f.past_name f.opens f.names

pub list_refuses : (tag start behind : List ℕ) (name : QualifiedName) → tag ≡ 0x3C ∷ start → QNameAt start name behind → (why : Why) (at : List ℕ) → AttributesRefuse behind why at → TagRefuses tag why at
list_refuses tag start behind name e q why at a = record { rest = start; written = name; past_name = behind; opens = e; names = q; attributes = a }

-- a tag that ends otherwise
pub other_end : (o : Bool) (tag start behind end other : List ℕ) (name : QualifiedName) (ws : List WrittenAttribute) → tag ≡ 0x3C ∷ start → QNameAt start name behind → AttributesAt false (length tag) behind ws end
    → (end ≡ other → ⊥) → (e : WrittenElement) → TagFormAt o (length tag) tag e other → ⊥
other_end o tag start behind end other name ws e q l h x f =
    let names = qname_unique (subst (λ z. QNameAt z x.name f.past_name) (same_others (sym f.opens ∙ e)) f.names) q in
    let lists = attributes_unique (subst (λ z. AttributesAt o (length tag) z x.attributes other) names.1 f.lists) (attributes_loosened l) in
    h (sym lists.1)
