-- A document's text comes to one construct that isn't read, or to one element that stands too deep, at one place, and then it isn't read.
use Rattle.std.proofs.Common.{◌≡◌, ℕ, true, false, not, List, [], ◌∷◌, ◌++◌, refl, ap, ◌∙◌, sym, subst, length, arith, codes, IsTrue, IsFalse, append_assoc, append-nil, length-append}
use Rattle.std.specs.Prelude.{encode_utf8, encode_utf8_all}
use Rattle.std.specs.List.{list_all}
use Rattle.std.proofs.lemmas.Bool.{true≢false, and_parts}
use Rattle.std.proofs.lemmas.List.{append_cancel_left}
use Rattle.std.proofs.lemmas.Str.{encode_same, length-encode, len_utf8_bounds}
use Rattle.tc_base.specs.Characters.{is_char}
use Rattle.tc_base.specs.declared.reasons.Why.{Why}
use Rattle.tc_model.specs.Names.{ExpandedName, IsChars}
use Rattle.tc_model.specs.RawTrees.{Attribute, Bound, RawTrees}
use Rattle.tc_model.specs.XmlTextBytes.{FrontOf, after_white, EqualsAt, IsQuote, place_of}
use Rattle.tc_model.specs.XmlTextNames.{QualifiedName, same_written, QNameAt}
use Rattle.tc_model.specs.XmlTextReferences.{predefined, ReferenceAt, decimal, hexadecimal, is_plain_within, ValueAt, closed, plain, QuotedAt}
use Rattle.tc_model.specs.XmlTextReferences as r
use Rattle.tc_model.specs.XmlTextMisc.{SettingAt, IsReadEncoding, EncodingAt, no_encoding, DeclarationAt, no_declaration, MiscAt, DoctypeFrontAt, DoctypeAt, no_doctype, doctype}
use Rattle.tc_model.specs.XmlTextMisc as misc
use Rattle.tc_model.specs.XmlTextScopes.{WrittenAttribute, is_xml_space, first_scope}
use Rattle.tc_model.specs.XmlTextContent.{Piece, AttributesAt, no_more, attribute, TagAt, ContentAt, at_end_tag, item, ItemAt, character_data, reference, cdata, comment, instruction, child, ElementAt, empty_tag, with_content}
use Rattle.tc_model.specs.XmlTextRefusals.{Cause, unsupported, too_deep, OtherEntityAt, ValueRefuses, past_run, past_reference, QuotedRefuses, xml_space, AttributesRefuse, space, value, past_attribute, TagRefuses, ContentRefuses, past_item, ElementRefuses, depth, tag, inside, DeclarationRefuses, version, encoding, DocumentRefuses, subset, element}
use Rattle.tc_model.specs.XmlTextRefusals as f
use Rattle.tc_model.specs.XmlTextLaws.{HasOneRefusal, HasNoTreeWhereRefused}
use Rattle.tc_model.specs.XmlText.{Reads, deepest_element}
use Rattle.tc_model.proofs.XmlTextPhrases.{same_first, same_others, equals_unique, no_qname, qname_unique, entity_unique, entity_no_hash, some_none, run_unique, reference_unique, reference_no_quote, no_run_at_quote, reference_no_run, quoted_unique, setting_unique, declaration_unique, misc_unique, doctype_front_unique, doctype_unique}
use Rattle.tc_model.proofs.XmlTextUnique.{no_tag_end, tag_unique, kind, character_data_kind, reference_kind, cdata_kind, comment_kind, instruction_kind, name_kind, child_kind, no_item_at_end_tag, item_unique}

-- a reference to another entity is one that is read where these are
pub as_reference : {bs : List ℕ} (o : OtherEntityAt bs) → ReferenceAt true bs (0x3C ∷ []) o.after
as_reference o = r.other refl o.refers o.not_predefined

pub other_no_reference : {bs s after : List ℕ} → OtherEntityAt bs → ReferenceAt false bs s after → ⊥
other_no_reference o (decimal a h) = entity_no_hash o.refers
other_no_reference o (hexadecimal a h) = entity_no_hash o.refers
other_no_reference o (r.entity a h) = some_none h (ap predefined (entity_unique a o.refers).0 ∙ o.not_predefined)
other_no_reference o (r.other h a k) = absurd (cc)

-- attribute values

value_no_value : {q : ℕ} {bs at v after : List ℕ} → IsQuote q → ValueRefuses q bs at → ValueAt false q bs v after → ⊥
value_no_value k (f.entity o) (closed e) = reference_no_quote k e (as_reference o)
value_no_value {q} k (f.entity o) (plain a v) = reference_no_run q a (as_reference o)
value_no_value k (f.entity o) (r.reference a v) = other_no_reference o a
value_no_value {q} k (past_run a h) (closed e) = no_run_at_quote q e a
value_no_value {q} {after = after} k (past_run a h) (plain {value = w} b v) = value_no_value k h (subst (λ z. ValueAt false q z w after) (run_unique b a).1 v)
value_no_value {q} k (past_run a h) (r.reference b v) = reference_no_run q a b
value_no_value k (past_reference a h) (closed e) = reference_no_quote k e a
value_no_value {q} k (past_reference a h) (plain b v) = reference_no_run q b a
value_no_value {q} {after = after} k (past_reference a h) (r.reference {value = w} b v) = value_no_value k h (subst (λ z. ValueAt false q z w after) (reference_unique b a).1 v)

pub value_one : {q : ℕ} {bs at at' : List ℕ} → IsQuote q → ValueRefuses q bs at → ValueRefuses q bs at' → at ≡ at'
value_one k (f.entity o) (f.entity p) = refl
value_one {q} k (f.entity o) (past_run a h) = absurd (reference_no_run q a (as_reference o))
value_one k (f.entity o) (past_reference a h) = absurd (other_no_reference o a)
value_one {q} k (past_run a h) (f.entity o) = absurd (reference_no_run q a (as_reference o))
value_one {q} {at' = at'} k (past_run a h) (past_run b g) = value_one k h (subst (λ z. ValueRefuses q z at') (run_unique b a).1 g)
value_one {q} k (past_run a h) (past_reference b g) = absurd (reference_no_run q a b)
value_one k (past_reference a h) (f.entity o) = absurd (other_no_reference o a)
value_one {q} k (past_reference a h) (past_run b g) = absurd (reference_no_run q b a)
value_one {q} {at' = at'} k (past_reference a h) (past_reference b g) = value_one k h (subst (λ z. ValueRefuses q z at') (reference_unique b a).1 g)

pub quoted_no_quoted : {bs at v after : List ℕ} → QuotedRefuses bs at → QuotedAt false bs v after → ⊥
quoted_no_quoted {v = v} {after = after} a b =
    let e = sym b.opens ∙ a.opens in
    let other : ValueAt false a.quote b.rest v after = subst (λ q. ValueAt false q b.rest v after) (same_first e) b.closes in
    value_no_value a.is_quote a.refuses (subst (λ w. ValueAt false a.quote w v after) (same_others e) other)

quoted_one : {bs at at' : List ℕ} → QuotedRefuses bs at → QuotedRefuses bs at' → at ≡ at'
quoted_one {at' = at'} a b =
    let e = sym b.opens ∙ a.opens in
    let other : ValueRefuses a.quote b.rest at' = subst (λ q. ValueRefuses q b.rest at') (same_first e) b.refuses in
    value_one a.is_quote a.refuses (subst (λ w. ValueRefuses a.quote w at') (same_others e) other)

-- tags

-- what `xml:space` is isn't written otherwise
pub not_space : {name : QualifiedName} → xml_space ≡ name → IsFalse (same_written name xml_space) → ⊥
not_space e h = true≢false (ap (λ n. same_written n xml_space) e ∙ h)

attributes_one : {bs at at' : List ℕ} {why why' : Why} → AttributesRefuse bs why at → AttributesRefuse bs why' at' → (why ≡ why') × (at ≡ at')
attributes_one (space w n) (space w' n') = (refl, refl)
attributes_one (space w n) (value w' n' h e q) = absurd (not_space (qname_unique n n').0 h)
attributes_one (space w n) (past_attribute w' n' h e q l) = absurd (not_space (qname_unique n n').0 h)
attributes_one (value w n h e q) (space w' n') = absurd (not_space (qname_unique n' n).0 h)
attributes_one {at' = at'} (value w n h e q) (value {start = s'} w' n' h' e' q') =
    let start = equals_unique (subst (λ z. EqualsAt z s') (qname_unique n' n).1 e') e in
    (refl, quoted_one q (subst (λ z. QuotedRefuses z at') start q'))
attributes_one (value w n h e q) (past_attribute {start = s'} {v = v'} {rest = rest'} w' n' h' e' q' l') =
    let start = equals_unique (subst (λ z. EqualsAt z s') (qname_unique n' n).1 e') e in
    absurd (quoted_no_quoted q (subst (λ z. QuotedAt false z v' rest') start q'))
attributes_one (past_attribute w n h e q l) (space w' n') = absurd (not_space (qname_unique n' n).0 h)
attributes_one (past_attribute {start = s} {v = v} {rest = rest} w n h e q l) (value w' n' h' e' q') =
    let start = equals_unique (subst (λ z. EqualsAt z s) (qname_unique n n').1 e) e' in
    absurd (quoted_no_quoted q' (subst (λ z. QuotedAt false z v rest) start q))
attributes_one {at' = at'} {why' = why'} (past_attribute w n h e q l) (past_attribute {start = s'} {v = v'} {rest = rest'} w' n' h' e' q' l') =
    let start = equals_unique (subst (λ z. EqualsAt z s') (qname_unique n' n).1 e') e in
    let behind = (quoted_unique (subst (λ z. QuotedAt false z v' rest') start q') q).1 in
    attributes_one l (subst (λ z. AttributesRefuse z why' at') behind l')

pub attributes_no_list : {total : ℕ} {bs at after : List ℕ} {why : Why} {written : List WrittenAttribute} → AttributesRefuse bs why at → AttributesAt false total bs written after
    → IsTrue (list_all (λ a. not (is_xml_space a)) written) → ⊥
attributes_no_list (space w n) (no_more h) s = no_tag_end h n
attributes_no_list {total} {bs} (space w n) (attribute {value = v} {name = name} {attributes = others} w' n' e q l) s =
    let one : QualifiedName → WrittenAttribute = λ m. record { name = m; value = v; place = place_of total (after_white bs) } in
    let first = (and_parts (not (is_xml_space (one name))) (list_all (λ a. not (is_xml_space a)) others) s).0 in
    true≢false (sym first ∙ ap (λ m. not (is_xml_space (one m))) (sym (qname_unique n n').0))
attributes_no_list (value w n h e q) (no_more t) s = no_tag_end t n
attributes_no_list (value w n h e q) (attribute {start = s'} {value = v'} {rest = rest'} w' n' e' q' l) s =
    let start = equals_unique (subst (λ z. EqualsAt z s') (qname_unique n' n).1 e') e in
    quoted_no_quoted q (subst (λ z. QuotedAt false z v' rest') start q')
attributes_no_list (past_attribute w n h e q l) (no_more t) s = no_tag_end t n
attributes_no_list {total} {bs} {after = after} (past_attribute w n h e q l) (attribute {start = s'} {value = v'} {rest = rest'} {name = name} {attributes = others} w' n' e' q' l') s =
    let start = equals_unique (subst (λ z. EqualsAt z s') (qname_unique n' n).1 e') e in
    let behind = (quoted_unique (subst (λ z. QuotedAt false z v' rest') start q') q).1 in
    let one : WrittenAttribute = record { name = name; value = v'; place = place_of total (after_white bs) } in
    attributes_no_list l (subst (λ z. AttributesAt false total z others after) behind l') (and_parts (not (is_xml_space one)) (list_all (λ a. not (is_xml_space a)) others) s).1

tag_one : {bs at at' : List ℕ} {why why' : Why} → TagRefuses bs why at → TagRefuses bs why' at' → (why ≡ why') × (at ≡ at')
tag_one {at' = at'} {why' = why'} a b =
    let names = qname_unique (subst (λ z. QNameAt z b.written b.past_name) (same_others (sym b.opens ∙ a.opens)) b.names) a.names in
    attributes_one a.attributes (subst (λ z. AttributesRefuse z why' at') names.1 b.attributes)

pub tag_no_tag : {total : ℕ} {outer : List Bound} {bs at after : List ℕ} {why : Why} {w : QualifiedName} {scope : List Bound} {n : ExpandedName} {e : List Attribute}
    → TagRefuses bs why at → TagAt false total outer bs w scope n e after → ⊥
tag_no_tag {total} {after = after} {w = w} a b =
    let names = qname_unique (subst (λ z. QNameAt z w b.past_name) (same_others (sym b.opens ∙ a.opens)) b.names) a.names in
    attributes_no_list a.attributes (subst (λ z. AttributesAt false total z b.attributes after) names.1 b.lists) b.means.no_space

-- content and elements

-- what begins an element that isn't read whole: `<` and a name
pub record Begins (bs : List ℕ) : Type 0 where
  pub rest : List ℕ
  pub name : QualifiedName
  pub past_name : List ℕ
  pub opens : bs ≡ 0x3C ∷ rest
  pub names : QNameAt rest name past_name

pub element_begins : {total d : ℕ} {outer : List Bound} {bs at : List ℕ} {c : Cause} → ElementRefuses total outer d bs c at → Begins bs
element_begins (depth {rest = rest} {past_name = p} {name = n} q) = record { rest = rest; name = n; past_name = p; opens = refl; names = q }
element_begins (tag t) = record { rest = t.rest; name = t.written; past_name = t.past_name; opens = t.opens; names = t.names }
element_begins (inside {written = w} a h) = record { rest = a.rest; name = w; past_name = a.past_name; opens = a.opens; names = a.names }

pub begins_kind : {bs : List ℕ} → Begins bs → kind bs ≡ 3
unfolding kind
begins_kind b = ap kind b.opens ∙ name_kind b.rest b.names

no_end_tag : {bs : List ℕ} → Begins (0x3C ∷ 0x2F ∷ bs) → ⊥
no_end_tag b = no_qname 0x2F (omega arith) refl (subst (λ z. QNameAt z b.name b.past_name) (sym (same_others b.opens)) b.names)

no_entity_at_end_tag : {bs : List ℕ} → OtherEntityAt (0x3C ∷ 0x2F ∷ bs) → ⊥
no_entity_at_end_tag o = omega (arith, same_first o.refers.opens)

-- a reference to another entity begins no item
pub other_no_item : {total d : ℕ} {outer : List Bound} {bs after : List ℕ} {p : Piece} → OtherEntityAt bs → ItemAt false total outer d bs p after → ⊥
other_no_item o (character_data a) = omega (arith, reference_kind (as_reference o), character_data_kind a)
other_no_item o (reference a) = other_no_reference o a
other_no_item o (cdata a) = omega (arith, reference_kind (as_reference o), cdata_kind a)
other_no_item o (comment a) = omega (arith, reference_kind (as_reference o), comment_kind a)
other_no_item o (instruction a) = omega (arith, reference_kind (as_reference o), instruction_kind a)
other_no_item o (child a) = omega (arith, reference_kind (as_reference o), child_kind a)

mutual
  pub content_no_content : {total d : ℕ} {outer : List Bound} {bs at after : List ℕ} {c : Cause} {h : RawTrees}
      → ContentRefuses total outer d bs c at → ContentAt false total outer d bs h after → ⊥
  content_no_content (f.entity o) at_end_tag = no_entity_at_end_tag o
  content_no_content (f.entity o) (item a m) = other_no_item o a
  content_no_content (f.child k) at_end_tag = no_end_tag (element_begins k)
  content_no_content (f.child k) (item (character_data a) m) = omega (arith, begins_kind (element_begins k), character_data_kind a)
  content_no_content (f.child k) (item (reference a) m) = omega (arith, begins_kind (element_begins k), reference_kind a)
  content_no_content (f.child k) (item (cdata a) m) = omega (arith, begins_kind (element_begins k), cdata_kind a)
  content_no_content (f.child k) (item (comment a) m) = omega (arith, begins_kind (element_begins k), comment_kind a)
  content_no_content (f.child k) (item (instruction a) m) = omega (arith, begins_kind (element_begins k), instruction_kind a)
  content_no_content (f.child k) (item (child a) m) = element_no_element k a
  content_no_content (past_item a k) at_end_tag = no_item_at_end_tag a
  content_no_content {total} {d} {outer} {after = after} (past_item a k) (item {trees = h} b m) =
      content_no_content k (subst (λ z. ContentAt false total outer d z h after) (item_unique b a).1 m)

  pub element_no_element : {total d : ℕ} {outer : List Bound} {bs at after : List ℕ} {c : Cause} {p : Piece}
      → ElementRefuses total outer d bs c at → ElementAt false total outer d bs p after → ⊥
  element_no_element (depth q) a = elim a [ ]
  element_no_element (tag t) (empty_tag a) = tag_no_tag t a
  element_no_element (tag t) (with_content a m b e) = tag_no_tag t a
  element_no_element (inside a k) (empty_tag b) = omega (arith, same_first (tag_unique a b).same_after)
  element_no_element {total} (inside {scope = scope} {deepest = d} a k) (with_content {scope = scope'} {inside = i'} {end = end'} {kids = h} b m n e) =
      let same = tag_unique b a in
      let moved = subst (λ z. ContentAt false total z d i' h (0x3C ∷ 0x2F ∷ end')) same.same_scope m in
      content_no_content k (subst (λ z. ContentAt false total scope d z h (0x3C ∷ 0x2F ∷ end')) (same_others same.same_after) moved)

pub element_no_item : {total d : ℕ} {outer : List Bound} {bs at after : List ℕ} {c : Cause} {p : Piece}
    → ElementRefuses total outer d bs c at → ItemAt false total outer d bs p after → ⊥
element_no_item k (character_data a) = omega (arith, begins_kind (element_begins k), character_data_kind a)
element_no_item k (reference a) = omega (arith, begins_kind (element_begins k), reference_kind a)
element_no_item k (cdata a) = omega (arith, begins_kind (element_begins k), cdata_kind a)
element_no_item k (comment a) = omega (arith, begins_kind (element_begins k), comment_kind a)
element_no_item k (instruction a) = omega (arith, begins_kind (element_begins k), instruction_kind a)
element_no_item k (child a) = element_no_element k a

mutual
  content_one : {total d : ℕ} {outer : List Bound} {bs at at' : List ℕ} {c c' : Cause}
      → ContentRefuses total outer d bs c at → ContentRefuses total outer d bs c' at' → (c ≡ c') × (at ≡ at')
  content_one (f.entity o) (f.entity p) = (refl, refl)
  content_one (f.entity o) (f.child k) = absurd (omega (arith, reference_kind (as_reference o), begins_kind (element_begins k)))
  content_one (f.entity o) (past_item a k) = absurd (other_no_item o a)
  content_one (f.child k) (f.entity o) = absurd (omega (arith, reference_kind (as_reference o), begins_kind (element_begins k)))
  content_one (f.child k) (f.child l) = element_one k l
  content_one (f.child k) (past_item a l) = absurd (element_no_item k a)
  content_one (past_item a k) (f.entity o) = absurd (other_no_item o a)
  content_one (past_item a k) (f.child l) = absurd (element_no_item l a)
  content_one {total} {d} {outer} {at' = at'} {c' = c'} (past_item a k) (past_item b l) =
      content_one k (subst (λ z. ContentRefuses total outer d z c' at') (item_unique b a).1 l)

  element_one : {total d : ℕ} {outer : List Bound} {bs at at' : List ℕ} {c c' : Cause}
      → ElementRefuses total outer d bs c at → ElementRefuses total outer d bs c' at' → (c ≡ c') × (at ≡ at')
  element_one (depth q) (depth p) = (refl, refl)
  element_one (tag t) (tag u) = let same = tag_one t u in (ap unsupported same.0, same.1)
  element_one (tag t) (inside a k) = absurd (tag_no_tag t a)
  element_one (inside a k) (tag t) = absurd (tag_no_tag t a)
  element_one {total} {at' = at'} {c' = c'} (inside {scope = scope} {deepest = d} a k) (inside {scope = scope'} {inside = i'} b l) =
      let same = tag_unique b a in
      let moved = subst (λ z. ContentRefuses total z d i' c' at') same.same_scope l in
      content_one k (subst (λ z. ContentRefuses total scope d z c' at') (same_others same.same_after) moved)

-- what stands before the root

pub start_same : {bs rest rest' : List ℕ} → bs ≡ codes "<?xml" ++ rest → bs ≡ codes "<?xml" ++ rest' → rest ≡ rest'
start_same {rest = rest} {rest' = rest'} e e' = append_cancel_left (codes "<?xml") rest rest' (sym e ∙ e')

declaration_one : {bs at at' : List ℕ} {why why' : Why} → DeclarationRefuses bs why at → DeclarationRefuses bs why' at' → (why ≡ why') × (at ≡ at')
declaration_one (version e v n) (version e' v' n') = (refl, ap after_white (start_same e e'))
declaration_one (version {value = w} {after = a} e v n) (encoding e' v' s n') =
    absurd (n (setting_unique (subst (λ z. SettingAt (codes "version") z w a) (start_same e e') v) v').0)
declaration_one (encoding e' v' s n') (version {value = w} {after = a} e v n) =
    absurd (n (setting_unique (subst (λ z. SettingAt (codes "version") z w a) (start_same e e') v) v').0)
declaration_one (encoding {past_version = p} e v s n) (encoding e' v' s' n') =
    (refl, ap after_white (setting_unique (subst (λ z. SettingAt (codes "version") z (codes "1.0") p) (start_same e e') v) v').1)

pub encoding_no_encoding : {bs value after past : List ℕ} → SettingAt (codes "encoding") bs value after → (IsReadEncoding value → ⊥) → EncodingAt bs past → ⊥
encoding_no_encoding s n (no_encoding h) = h s.behind s.names
encoding_no_encoding s n (misc.encoding t k) = n (subst IsReadEncoding (setting_unique t s).0 k)

pub declaration_no_declaration : {bs at after : List ℕ} {why : Why} → DeclarationRefuses bs why at → DeclarationAt bs after → ⊥
declaration_no_declaration (version {rest = rest} e v n) (no_declaration h) = h rest e v.white
declaration_no_declaration (encoding {rest = rest} e v s n) (no_declaration h) = h rest e v.white
declaration_no_declaration (version {value = w} {after = a} e v n) (misc.declaration e' v' k t q) =
    n (setting_unique (subst (λ z. SettingAt (codes "version") z w a) (start_same e e') v) v').0
declaration_no_declaration (encoding e v s n) (misc.declaration {past_version = p'} {past_encoding = q'} e' v' k t q) =
    let past = (setting_unique (subst (λ z. SettingAt (codes "version") z (codes "1.0") p') (start_same e' e) v') v).1 in
    encoding_no_encoding s n (subst (λ z. EncodingAt z q') past k)

-- the root, or the doctype before it, stands at one place
pub front_same : {bs p p' m m' : List ℕ} → DeclarationAt bs p → DeclarationAt bs p' → MiscAt p m → MiscAt p' m' → m ≡ m'
front_same {p' = p'} {m = m} d d' a b = misc_unique (subst (λ z. MiscAt z m) (declaration_unique d d') a) b

pub subset_no_doctype : {bs rest root : List ℕ} → DoctypeFrontAt bs (0x5B ∷ rest) → DoctypeAt bs root → ⊥
subset_no_doctype a (no_doctype h) = h a.rest a.opens
subset_no_doctype a (doctype b m) = omega (arith, same_first (doctype_front_unique a b))

subset_no_root : {bs p p' m m' rest root : List ℕ} → DeclarationAt bs p → DeclarationAt bs p' → MiscAt p m → MiscAt p' m'
    → DoctypeFrontAt m (0x5B ∷ rest) → DoctypeAt m' root → ⊥
subset_no_root {rest = rest} d d' a b x y = subset_no_doctype (subst (λ z. DoctypeFrontAt z (0x5B ∷ rest)) (front_same d d' a b) x) y

pub document_one : {deepest : ℕ} {text at at' : List ℕ} {c c' : Cause} → DocumentRefuses deepest text c at → DocumentRefuses deepest text c' at' → (c ≡ c') × (at ≡ at')
document_one (f.declaration x) (f.declaration y) = let same = declaration_one x y in (ap unsupported same.0, same.1)
document_one (f.declaration x) (subset d a y) = absurd (declaration_no_declaration x d)
document_one (f.declaration x) (element d a y e) = absurd (declaration_no_declaration x d)
document_one (subset d a y) (f.declaration x) = absurd (declaration_no_declaration x d)
document_one (element d a y e) (f.declaration x) = absurd (declaration_no_declaration x d)
document_one (subset {r = s} d a y) (subset d' a' y') =
    (refl, doctype_front_unique (subst (λ z. DoctypeFrontAt z (0x5B ∷ s)) (front_same d d' a a') y) y')
document_one (subset d a y) (element d' a' y' e') = absurd (subset_no_root d d' a a' y y')
document_one (element d' a' y' e') (subset d a y) = absurd (subset_no_root d d' a a' y y')
document_one {deepest} {text} {at = at} {c = c} (element {root = root} d a y e) (element {root = root'} d' a' y' e') =
    let same = doctype_unique (subst (λ z. DoctypeAt z root) (front_same d d' a a') y) y' in
    element_one (subst (λ z. ElementRefuses (length text) first_scope deepest z c at) same e) e'

pub document_no_reading : {deepest : ℕ} {text at : List ℕ} {c : Cause} {h : RawTrees} → DocumentRefuses deepest text c at → Reads false deepest text h → ⊥
document_no_reading (f.declaration x) m = declaration_no_declaration x m.declaration
document_no_reading (subset d a y) m = subset_no_root d m.declaration a m.misc y m.doctype
document_no_reading {deepest} {text} (element {root = root} d a y e) m =
    let same = doctype_unique (subst (λ z. DoctypeAt z m.root) (front_same m.declaration d m.misc a) m.doctype) y in
    element_no_element e (subst (λ z. ElementAt false (length text) first_scope deepest z m.piece m.past_root) same m.element)

-- the characters at the front

no_char_in_none : (c : ℕ) (r : List ℕ) → [] ≡ encode_utf8 c ++ r → ⊥
no_char_in_none c r e = omega (arith, ap length e, length-append (encode_utf8 c) r, length-encode c, len_utf8_bounds c)

same_front : (cs ds after behind : List ℕ) → list_all is_char cs ≡ true → list_all is_char ds ≡ true → encode_utf8_all cs ++ after ≡ encode_utf8_all ds ++ behind
    → ((c : ℕ) (r : List ℕ) → after ≡ encode_utf8 c ++ r → IsTrue (is_char c) → ⊥) → ((c : ℕ) (r : List ℕ) → behind ≡ encode_utf8 c ++ r → IsTrue (is_char c) → ⊥) → cs ≡ ds
same_front [] [] after behind h k e f g = refl
same_front [] (d ∷ ds) after behind h k e f g =
    absurd (f d (encode_utf8_all ds ++ behind) (e ∙ append_assoc (encode_utf8 d) (encode_utf8_all ds) behind) (and_parts (is_char d) (list_all is_char ds) k).0)
same_front (c ∷ cs) [] after behind h k e f g =
    absurd (g c (encode_utf8_all cs ++ after) (sym e ∙ append_assoc (encode_utf8 c) (encode_utf8_all cs) after) (and_parts (is_char c) (list_all is_char cs) h).0)
same_front (c ∷ cs) (d ∷ ds) after behind h k e f g =
    let first = encode_same c d (encode_utf8_all cs ++ after) (encode_utf8_all ds ++ behind)
    (sym (append_assoc (encode_utf8 c) (encode_utf8_all cs) after) ∙ (e ∙ append_assoc (encode_utf8 d) (encode_utf8_all ds) behind)) in
    let others = same_front cs ds after behind (and_parts (is_char c) (list_all is_char cs) h).1 (and_parts (is_char d) (list_all is_char ds) k).1 first.1 f g in
    ap (λ x. x ∷ cs) first.0 ∙ ap (λ xs. d ∷ xs) others

pub front_unique : {bytes front other : List ℕ} → FrontOf bytes front → FrontOf bytes other → front ≡ other
front_unique {bytes} {front} {other} a b = by a.characters b.characters
  where
    by : IsChars front → IsChars other → front ≡ other
    by (cs, e, h) (ds, g, k) =
        let parts : encode_utf8_all cs ++ a.after ≡ encode_utf8_all ds ++ b.after =
        ap (λ w. w ++ a.after) e ∙ (sym a.parts ∙ (b.parts ∙ ap (λ w. w ++ b.after) (sym g))) in
        sym e ∙ (ap encode_utf8_all (same_front cs ds a.after b.after h k parts a.longest b.longest) ∙ g)

pub whole_front : {bytes : List ℕ} → IsChars bytes → FrontOf bytes bytes
whole_front {bytes} h = record { after = []; parts = sym (append-nil bytes); characters = h; longest = λ c r e k. no_char_in_none c r e }

-- a text has one refusal, and then no tree

pub one_refusal : HasOneRefusal
one_refusal bytes cause other place elsewhere a b =
    let fronts = front_unique b.is_front a.is_front in
    let same = document_one a.refuses (subst (λ w. DocumentRefuses deepest_element w other b.at) fronts b.refuses) in
    (same.0, a.stands ∙ ((ap (place_of (length a.front)) same.1 ∙ ap (λ w. place_of (length w) b.at) (sym fronts)) ∙ sym b.stands))

pub no_tree_where_refused : HasNoTreeWhereRefused
no_tree_where_refused bytes cause place h a x =
    let fronts = front_unique (whole_front x.characters) a.is_front in
    document_no_reading a.refuses (subst (λ w. Reads false deepest_element w h) fronts x)
