-- A tag that stands in some bytes stands there too where more bytes follow. The places of its attributes are counted from the end, so these differ.
use Rattle.std.proofs.Common.{◌≡◌, inl, inr, ℕ, suc, ◌<◌, ◌+◌, Bool, true, false, cond, not, ◌&&◌, List, [], ◌∷◌, ◌++◌, refl, ap, ◌∙◌, sym, subst, length, take, drop, arith, IsTrue, append_assoc}
use Rattle.std.specs.Prelude.{encode_utf8, map, sum_by}
use Rattle.std.specs.List.{prefix_len, list_all, IsDistinct}
use Rattle.std.proofs.lemmas.Bool.Decides.{nat_tests}
use Rattle.std.proofs.lemmas.List.{take-append-le, drop-append-le}
use Rattle.std.proofs.lemmas.List.Sums.{prefix_len-le-length, sum_by-cons}
use Rattle.std.proofs.lemmas.Str.{encode_ascii, char_from_byte}
use Rattle.tc_base.specs.Characters.{is_white}
use Rattle.tc_model.specs.Names.{ExpandedName, is_ncname_char, same_name}
use Rattle.tc_model.specs.RawTrees.{Attribute, Bound}
use Rattle.tc_model.specs.XmlTextBytes.{RunAt, BeginsWithWhite, after_white, EqualsAt, place_of}
use Rattle.tc_model.specs.XmlTextNames.{NcNameAt, QualifiedName, QNameAt, unprefixed, prefixed, same_written}
use Rattle.tc_model.specs.XmlTextReferences.{EntityAt, ReferenceAt, decimal, hexadecimal, entity, other, is_plain_within, ValueAt, closed, plain, QuotedAt}
use Rattle.tc_model.specs.XmlTextReferences as r
use Rattle.tc_model.specs.XmlTextScopes.{WrittenAttribute, is_xml_space, scope_within, is_declaration, binding_of, bound_in, Expands, declaration, TagMeans}
use Rattle.tc_model.specs.XmlTextScopes as s
use Rattle.tc_model.specs.XmlTextContent.{EndsTag, AttributesAt, no_more, attribute}
use Rattle.tc_model.proofs.XmlTextPhrases.{same_first, reference_first, run_first}
use Rattle.tc_model.proofs.XmlTextUnique.{no_empty_qname}
use Rattle.tc_tags.specs.XmlTextTags.{WrittenElement, TagFormAt, EndTagAt, declared_length}

-- bytes that begin with one
pub record Begun (bs : List ℕ) : Type 0 where
  pub byte : ℕ
  pub others : List ℕ
  pub is : bs ≡ byte ∷ others

-- and with one of ASCII
pub record BegunLow (bs : List ℕ) : Type 0 where
  pub byte : ℕ
  pub others : List ℕ
  pub is : bs ≡ byte ∷ others
  pub low : byte < 128

pub drop_suc : (n b : ℕ) (bs : List ℕ) → drop (1 + n) (b ∷ bs) ≡ drop n bs
drop_suc n b bs = let one : 1 + n ≡ suc n = omega arith in ap (λ k. drop k (b ∷ bs)) one

-- a run that stops before a byte stops there whatever follows

pub prefix_kept : (p : ℕ → Bool) (bs f : List ℕ) (c : ℕ) (cs : List ℕ) → drop (prefix_len p bs) bs ≡ c ∷ cs → prefix_len p (bs ++ f) ≡ prefix_len p bs
prefix_kept p [] f c cs e = absurd (omega (arith, ap length e))
prefix_kept p (b ∷ bs) f c cs e = by (p b) e (prefix_kept p bs f c cs)
  where
    by : (x : Bool) → drop (cond x (1 + prefix_len p bs) 0) (b ∷ bs) ≡ c ∷ cs → (drop (prefix_len p bs) bs ≡ c ∷ cs → prefix_len p (bs ++ f) ≡ prefix_len p bs)
        → cond x (1 + prefix_len p (bs ++ f)) 0 ≡ cond x (1 + prefix_len p bs) 0
    by true e later = ap (λ n. 1 + n) (later (sym (drop_suc (prefix_len p bs) b bs) ∙ e))
    by false e later = refl

pub dropped_kept : (p : ℕ → Bool) (bs f : List ℕ) (rest : List ℕ) → rest ≡ drop (prefix_len p bs) bs → Begun rest → rest ++ f ≡ drop (prefix_len p (bs ++ f)) (bs ++ f)
dropped_kept p bs f rest back i =
    let n = prefix_kept p bs f i.byte i.others (sym back ∙ i.is) in
    sym (ap (λ k. drop k (bs ++ f)) n ∙ (drop-append-le (prefix_len p bs) bs f (prefix_len-le-length p bs) ∙ ap (λ w. w ++ f) (sym back)))

pub white_kept : (bs f : List ℕ) → Begun (after_white bs) → after_white (bs ++ f) ≡ after_white bs ++ f
white_kept bs f i = sym (dropped_kept is_white bs f (after_white bs) refl i)

pub run_kept : {p : ℕ → Bool} {bs run rest : List ℕ} (f : List ℕ) → Begun rest → RunAt p bs run rest → RunAt p (bs ++ f) run (rest ++ f)
run_kept {p} {bs} {run} {rest} f i a =
    let n = prefix_kept p bs f i.byte i.others (sym a.back ∙ i.is) in
    record {
      some = subst (λ k. 0 < k) (sym n) a.some;
      front = a.front ∙ sym (ap (λ k. take k (bs ++ f)) n ∙ take-append-le (prefix_len p bs) bs f (prefix_len-le-length p bs));
      back = dropped_kept p bs f rest a.back i;
    }

pub white_begins_kept : (bs f : List ℕ) → BeginsWithWhite bs → BeginsWithWhite (bs ++ f)
white_begins_kept [] f h = absurd (omega (arith, h))
white_begins_kept (b ∷ bs) f h = by (is_white b) h
  where
    by : (x : Bool) → 0 < cond x (1 + prefix_len is_white bs) 0 → 0 < cond x (1 + prefix_len is_white (bs ++ f)) 0
    by true h = omega arith
    by false h = h

-- which bytes begin with one of ASCII

pub white_ascii : (b : ℕ) → is_white b ≡ true → b < 128
white_ascii b h = grind (arith, nat_tests)

pub white_low : (bs : List ℕ) → BeginsWithWhite bs → BegunLow bs
white_low [] h = absurd (omega (arith, h))
white_low (b ∷ bs) h = record { byte = b; others = bs; is = refl; low = by (is_white b) refl h }
  where
    by : (x : Bool) → is_white b ≡ x → 0 < cond x (1 + prefix_len is_white bs) 0 → b < 128
    by true e h = white_ascii b e
    by false e h = absurd (omega (arith, h))

pub after_low : (bs : List ℕ) (c : ℕ) (cs : List ℕ) → c < 128 → after_white bs ≡ c ∷ cs → BegunLow bs
after_low [] c cs l e = absurd (omega (arith, ap length e))
after_low (b ∷ bs) c cs l e = record { byte = b; others = bs; is = refl; low = by (is_white b) refl e }
  where
    by : (x : Bool) → is_white b ≡ x → drop (cond x (1 + prefix_len is_white bs) 0) (b ∷ bs) ≡ c ∷ cs → b < 128
    by true h e = white_ascii b h
    by false h e = omega (arith, l, same_first e)

pub begun_of : {bs : List ℕ} → BegunLow bs → Begun bs
begun_of i = record { byte = i.byte; others = i.others; is = i.is }

pub begins_as : {bs : List ℕ} (b : ℕ) (rest : List ℕ) → bs ≡ b ∷ rest → Begun bs
begins_as b rest e = record { byte = b; others = rest; is = e }

pub begins_low : {bs : List ℕ} (b : ℕ) (rest : List ℕ) → b < 128 → bs ≡ b ∷ rest → BegunLow bs
begins_low b rest l e = record { byte = b; others = rest; is = e; low = l }

-- names

pub ncname_kept : {bs n after : List ℕ} (f : List ℕ) → BegunLow after → NcNameAt bs n after → NcNameAt (bs ++ f) n (after ++ f)
ncname_kept {bs} {n} {after} f i a = record {
  lawful = a.lawful;
  parts = ap (λ w. w ++ f) a.parts ∙ append_assoc n after f;
  longest = λ c r e k.
      let here : i.byte ∷ (i.others ++ f) ≡ encode_utf8 c ++ r = sym (ap (λ w. w ++ f) i.is) ∙ e in
      let same : c ≡ i.byte = char_from_byte (i.byte ∷ (i.others ++ f)) r c here i.low (omega arith) in
      a.longest i.byte i.others (i.is ∙ ap (λ w. w ++ i.others) (sym (encode_ascii i.byte i.low))) (subst (λ x. IsTrue (is_ncname_char x)) same k);
}

pub qname_kept : {bs after : List ℕ} {n : QualifiedName} (f : List ℕ) → BegunLow after → QNameAt bs n after → QNameAt (bs ++ f) n (after ++ f)
qname_kept f i (unprefixed a ends) =
    unprefixed (ncname_kept f i a) (λ r e. ends i.others (i.is ∙ ap (λ z. z ∷ i.others) (same_first (sym (ap (λ w. w ++ f) i.is) ∙ e))))
qname_kept f i (prefixed {rest = rest} a b) = prefixed (ncname_kept f (begins_low 0x3A rest (omega arith) refl) a) (ncname_kept f i b)

pub qname_begun : (bs : List ℕ) {n : QualifiedName} {after : List ℕ} → QNameAt bs n after → Begun bs
qname_begun [] a = absurd (no_empty_qname a)
qname_begun (b ∷ bs) a = begins_as b bs refl

-- values

pub equals_kept : {bs start : List ℕ} (f : List ℕ) → Begun start → EqualsAt bs start → EqualsAt (bs ++ f) (start ++ f)
equals_kept {bs} {start} f i a = record {
  rest = a.rest ++ f;
  sign = white_kept bs f (begins_as 0x3D a.rest a.sign) ∙ ap (λ w. w ++ f) a.sign;
  past = ap (λ w. w ++ f) a.past ∙ sym (white_kept a.rest f (begins_as i.byte i.others (sym a.past ∙ i.is)));
}

pub semicolon : (after : List ℕ) → BegunLow (0x3B ∷ after)
semicolon after = begins_low 0x3B after (omega arith) refl

pub entity_kept : {bs n after : List ℕ} (f : List ℕ) → EntityAt bs n after → EntityAt (bs ++ f) n (after ++ f)
entity_kept {after = after} f a = record { rest = a.rest ++ f; opens = ap (λ w. w ++ f) a.opens; names = ncname_kept f (semicolon after) a.names }

pub reference_kept : {o : Bool} {bs v after : List ℕ} (f : List ℕ) → ReferenceAt o bs v after → ReferenceAt o (bs ++ f) v (after ++ f)
reference_kept {after = after} f (decimal a h) = decimal (run_kept f (begun_of (semicolon after)) a) h
reference_kept {after = after} f (hexadecimal a h) = hexadecimal (run_kept f (begun_of (semicolon after)) a) h
reference_kept f (entity a e) = entity (entity_kept f a) e
reference_kept f (other h a e) = other h (entity_kept f a) e

pub value_begun : {o : Bool} {q : ℕ} {bs v after : List ℕ} → ValueAt o q bs v after → Begun bs
value_begun {q = q} {after = after} (closed e) = begins_as q after e
value_begun {q = q} {bs = bs} (plain {run = n} {rest = rest} a v) = let (b, others, is, h) = run_first (is_plain_within q) bs n rest a in begins_as b others is
value_begun (r.reference a v) = let (others, is) = reference_first a in begins_as 0x26 others is

pub value_kept : {o : Bool} {q : ℕ} {bs v after : List ℕ} (f : List ℕ) → ValueAt o q bs v after → ValueAt o q (bs ++ f) v (after ++ f)
value_kept f (closed e) = closed (ap (λ w. w ++ f) e)
value_kept f (plain a v) = plain (run_kept f (value_begun v) a) (value_kept f v)
value_kept f (r.reference a v) = r.reference (reference_kept f a) (value_kept f v)

pub quoted_kept : {o : Bool} {bs v after : List ℕ} (f : List ℕ) → QuotedAt o bs v after → QuotedAt o (bs ++ f) v (after ++ f)
quoted_kept f a = record { quote = a.quote; rest = a.rest ++ f; is_quote = a.is_quote; opens = ap (λ w. w ++ f) a.opens; closes = value_kept f a.closes }

-- attributes, with other places

-- the same names and values
pub data SameBut : List WrittenAttribute → List WrittenAttribute → Type 0 where
  none_same : SameBut [] []
  one_same : {name : QualifiedName} {value : List ℕ} {p q : ℕ} {l k : List WrittenAttribute} → SameBut l k
      → SameBut (record { name = name; value = value; place = p } ∷ l) (record { name = name; value = value; place = q } ∷ k)

pub record KeptAttributes (others : Bool) (total : ℕ) (bs : List ℕ) (l : List WrittenAttribute) (after : List ℕ) : Type 0 where
  pub list : List WrittenAttribute
  pub lists : AttributesAt others total bs list after
  pub same : SameBut l list

pub attributes_low : {o : Bool} {total : ℕ} {bs after : List ℕ} {l : List WrittenAttribute} → AttributesAt o total bs l after → BegunLow bs
attributes_low {bs = bs} (no_more (inl (r, e))) = after_low bs 0x3E r (omega arith) e
attributes_low {bs = bs} (no_more (inr (r, e))) = after_low bs 0x2F r (omega arith) e
attributes_low {bs = bs} (attribute w a e v l) = white_low bs w

pub ends_kept : (bs f : List ℕ) → EndsTag (after_white bs) → Begun (after_white bs) × EndsTag (after_white bs ++ f)
ends_kept bs f (inl (r, e)) = (begins_as 0x3E r e, inl (r ++ f, ap (λ w. w ++ f) e))
ends_kept bs f (inr (r, e)) = (begins_as 0x2F r e, inr (r ++ f, ap (λ w. w ++ f) e))

pub attributes_kept : {o : Bool} {total : ℕ} {bs after : List ℕ} {l : List WrittenAttribute} (f : List ℕ) (now : ℕ) → AttributesAt o total bs l after → KeptAttributes o now (bs ++ f) l (after ++ f)
attributes_kept {o} {bs = bs} f now (no_more e) =
    let k = ends_kept bs f e in
    let white = white_kept bs f k.0 in
    record {
      list = [];
      lists = subst (λ z. AttributesAt o now (bs ++ f) [] z) white (no_more (subst EndsTag (sym white) k.1));
      same = none_same;
    }
attributes_kept {o} {bs = bs} {after = after} f now (attribute {past_name = p} {start = start} {value = v} {name = n} w a e q l) =
    let more = attributes_kept f now l in
    let white = white_kept bs f (qname_begun (after_white bs) a) in
    let one : WrittenAttribute = record { name = n; value = v; place = place_of now (after_white (bs ++ f)) } in
    record {
      list = one ∷ more.list;
      lists = attribute (white_begins_kept bs f w)
          (subst (λ z. QNameAt z n (p ++ f)) (sym white) (qname_kept f (after_low p 0x3D e.rest (omega arith) e.sign) a))
          (equals_kept f (begins_as q.quote q.rest q.opens) e)
          (quoted_kept f q) more.lists;
      same = one_same more.same;
    }

-- what depends on names and values alone

pub spaces_same : {l k : List WrittenAttribute} → SameBut l k → list_all (λ a. not (is_xml_space a)) l ≡ list_all (λ a. not (is_xml_space a)) k
spaces_same none_same = refl
spaces_same (one_same {name = n} {value = v} {p = p} h) =
    let one : WrittenAttribute = record { name = n; value = v; place = p } in ap (λ x. not (is_xml_space one) && x) (spaces_same h)

pub lengths_same : {l k : List WrittenAttribute} → SameBut l k → sum_by declared_length l ≡ sum_by declared_length k
lengths_same none_same = refl
lengths_same (one_same {name = n} {value = v} {p = p} {q = q} {l = l} {k = k} h) =
    let one : WrittenAttribute = record { name = n; value = v; place = p } in
    let two : WrittenAttribute = record { name = n; value = v; place = q } in
    sum_by-cons declared_length one l ∙ (ap (λ x. declared_length one + x) (lengths_same h) ∙ sym (sum_by-cons declared_length two k))

pub names_same : {l k : List WrittenAttribute} → SameBut l k → map (λ a. a.name) l ≡ map (λ a. a.name) k
names_same none_same = refl
names_same (one_same {name = n} h) = ap (λ x. n ∷ x) (names_same h)

pub scopes_same : {l k : List WrittenAttribute} (scope : List Bound) → SameBut l k → scope_within scope l ≡ scope_within scope k
scopes_same scope none_same = refl
scopes_same scope (one_same {name = n} {value = v} {p = p} h) =
    let one : WrittenAttribute = record { name = n; value = v; place = p } in
    scopes_same (cond (is_declaration one) (bound_in (binding_of one) scope) scope) h

pub record ExpandsSame (scope : List Bound) (l : List WrittenAttribute) (x : List Attribute) : Type 0 where
  pub expanded : List Attribute
  pub expands : Expands scope l expanded
  pub same : map (λ a. a.name) x ≡ map (λ a. a.name) expanded

pub expands_same : {scope : List Bound} {l k : List WrittenAttribute} {x : List Attribute} → SameBut l k → Expands scope l x → ExpandsSame scope k x
expands_same none_same s.no_more = record { expanded = []; expands = s.no_more; same = refl }
expands_same (one_same h) (declaration is b e) = let more = expands_same h e in record { expanded = more.expanded; expands = declaration is b more.expands; same = more.same }
expands_same (one_same {name = n} {value = v} {q = q} h) (s.plain is b e) =
    let more = expands_same h e in
    let one : Attribute = record { name = record { uri = []; local = n.local }; value = v; place = q } in
    record { expanded = one ∷ more.expanded; expands = s.plain is b more.expands; same = ap (λ z. one.name ∷ z) more.same }
expands_same (one_same {name = n} {value = v} {q = q} h) (s.prefixed {uri = u} is b y e) =
    let more = expands_same h e in
    let one : Attribute = record { name = record { uri = u; local = n.local }; value = v; place = q } in
    record { expanded = one ∷ more.expanded; expands = s.prefixed is b y more.expands; same = ap (λ z. one.name ∷ z) more.same }

-- what a tag means where its attributes have other places
pub record MeansSame (outer : List Bound) (w : QualifiedName) (l : List WrittenAttribute) (scope : List Bound) (n : ExpandedName) : Type 0 where
  pub expanded : List Attribute
  pub means : TagMeans outer w l scope n expanded

pub means_same : {outer scope : List Bound} {w : QualifiedName} {l k : List WrittenAttribute} {n : ExpandedName} {x : List Attribute} → SameBut l k → TagMeans outer w l scope n x → MeansSame outer w k scope n
means_same {outer} h m =
    let more = expands_same h m.expands in
    record {
      expanded = more.expanded;
      means = record {
        once = subst (IsDistinct same_written) (names_same h) m.once;
        no_space = sym (spaces_same h) ∙ m.no_space;
        scopes = m.scopes ∙ scopes_same outer h;
        names = m.names;
        expands = more.expands;
        expanded_once = subst (IsDistinct same_name) more.same m.expanded_once;
      };
    }

-- tags

pub record KeptForm (others : Bool) (total : ℕ) (bs : List ℕ) (e : WrittenElement) (after : List ℕ) : Type 0 where
  pub element : WrittenElement
  pub form : TagFormAt others total bs element after
  pub same_name : element.name ≡ e.name
  pub same : SameBut e.attributes element.attributes

-- a tag that stands in some bytes stands there where others follow
pub form_kept : {o : Bool} {total : ℕ} {bs after : List ℕ} {e : WrittenElement} (f : List ℕ) (now : ℕ) → TagFormAt o total bs e after → KeptForm o now (bs ++ f) e (after ++ f)
form_kept {e = e} f now a =
    let k = attributes_kept f now a.lists in
    record {
      element = record { name = e.name; attributes = k.list };
      form = record {
        rest = a.rest ++ f;
        past_name = a.past_name ++ f;
        opens = ap (λ w. w ++ f) a.opens;
        names = qname_kept f (attributes_low a.lists) a.names;
        lists = k.lists;
        no_space = sym (spaces_same k.same) ∙ a.no_space;
      };
      same_name = refl;
      same = k.same;
    }

pub end_tag_kept : {n : QualifiedName} {bs after : List ℕ} (f : List ℕ) → EndTagAt n bs after → EndTagAt n (bs ++ f) (after ++ f)
end_tag_kept {after = after} f a = record {
  rest = a.rest ++ f;
  past_name = a.past_name ++ f;
  opens = ap (λ w. w ++ f) a.opens;
  names = qname_kept f (after_low a.past_name 0x3E after (omega arith) a.closes) a.names;
  closes = white_kept a.past_name f (begins_as 0x3E after a.closes) ∙ ap (λ w. w ++ f) a.closes;
}
