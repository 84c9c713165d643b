-- What the steps of reading tags show of the whole.
use Rattle.std.proofs.Common.{◌≡◌, ℕ, ◌<◌, ◌≤◌, Bool, true, false, not, List, [], ◌∷◌, ◌++◌, refl, ap, ◌∙◌, sym, subst, length, arith, codes, append_assoc, IsTrue, Result, IfErr, bytes_eq}
use Rattle.std.specs.List.{list_all}
use Rattle.std.specs.Result.{IsErrAnd}
use Rattle.std.specs.Cmp.Lexicographic.{bytes_decides}
use Rattle.std.proofs.lemmas.Bool.{true≢false, and_parts, and_from}
use Rattle.std.proofs.lemmas.List.{append_cancel_left}
use Rattle.std.proofs.lemmas.Result.{err_from_is_err_and}
use Rattle.tc_base.specs.declared.reasons.Why.{Why}
use Rattle.tc_model.specs.Names.{ExpandedName}
use Rattle.tc_model.specs.RawTrees.{Attribute, Bound, RawTrees}
use Rattle.tc_model.specs.XmlTextBytes.{after_white, EqualsAt, place_of}
use Rattle.tc_model.specs.XmlTextNames.{QualifiedName, QNameAt, same_written}
use Rattle.tc_model.specs.XmlTextReferences.{QuotedAt}
use Rattle.tc_model.specs.XmlTextScopes.{WrittenAttribute, is_xml_space, TagMeans}
use Rattle.tc_model.specs.XmlTextContent.{Piece, AttributesAt, no_more, attribute, TagAt, ContentAt, at_end_tag, item, ItemAt, character_data, reference, cdata, comment, instruction, child, ElementAt, empty_tag, with_content}
use Rattle.tc_model.specs.XmlTextRefusals.{past_attribute, ElementRefuses, depth, too_deep}
use Rattle.tc_model.proofs.XmlTextPhrases.{same_others, qname_unique, equals_unique, quoted_unique}
use Rattle.tc_model.proofs.XmlTextUnique.{no_tag_end, attributes_unique}
use Rattle.tc_xml.specs.declared.faults.Stop.{Stop}
use Rattle.tc_xml.specs.declared.faults.Stop.TheVariants.{Malformed, Unsupported, TooDeep, NoMemory}
use Rattle.tc_xml.specs.Reading.{AttributeAt, OpensElement, EndTagAt}
use Rattle.tc_xml.specs.Refusals.{Refuses, UnsupportedAt}
use Rattle.tc_xml.specs.Tags.{lacks_space, Breaks}
use Rattle.tc_xml.proofs.MiscLaws.{up_to_shorter}
use Rattle.tc_tags.proofs.FormLaws.{all_append, equals_within, from_false, is_name, name_within, qname_within, reference_within, run_within, value_within, white_within, past_one, Attributes}
use Rattle.tc_tags.proofs.TagLaws.{attributes_loosened, quoted_loosened, reference_loosened}

pub tag_loosened : {o : Bool} {total : ℕ} {outer : List Bound} {bs after : List ℕ} {w : QualifiedName} {scope : List Bound} {n : ExpandedName} {e : List Attribute}
    → TagAt false total outer bs w scope n e after → TagAt o total outer bs w scope n e after
tag_loosened a = record { rest = a.rest; past_name = a.past_name; attributes = a.attributes; opens = a.opens; names = a.names; lists = attributes_loosened a.lists; means = a.means }

mutual
  pub content_loosened : {o : Bool} {total d : ℕ} {outer : List Bound} {bs after : List ℕ} {h : RawTrees} → ContentAt false total outer d bs h after → ContentAt o total outer d bs h after
  content_loosened at_end_tag = at_end_tag
  content_loosened (item a m) = item (item_loosened a) (content_loosened m)

  pub item_loosened : {o : Bool} {total d : ℕ} {outer : List Bound} {bs after : List ℕ} {p : Piece} → ItemAt false total outer d bs p after → ItemAt o total outer d bs p after
  item_loosened (character_data a) = character_data a
  item_loosened (reference a) = reference (reference_loosened a)
  item_loosened (cdata a) = cdata a
  item_loosened (comment a) = comment a
  item_loosened (instruction a) = instruction a
  item_loosened (child a) = child (element_loosened a)

  pub element_loosened : {o : Bool} {total d : ℕ} {outer : List Bound} {bs after : List ℕ} {p : Piece} → ElementAt false total outer d bs p after → ElementAt o total outer d bs p after
  element_loosened (empty_tag a) = empty_tag (tag_loosened a)
  element_loosened (with_content a m b e) = with_content (tag_loosened a) (content_loosened m) b e

-- one attribute more
pub attributes_more : (total : ℕ) (text rest after : List ℕ) (found : List WrittenAttribute) (a : WrittenAttribute) → Attributes total text rest found
    → AttributeAt false total rest a after → Attributes total text after (found ++ a ∷ [])
attributes_more total text rest after found a s at = record {
  forth = λ list end l.
      let one : WrittenAttribute = record { name = a.name; value = a.value; place = place_of total (after_white rest) } in
      let same : one ≡ a = ap (λ p. record { name = a.name; value = a.value; place = p }) (sym at.stands) in
      let whole : AttributesAt false total rest (a ∷ list) end = subst (λ w. AttributesAt false total rest (w ∷ list) end) same (attribute at.white at.names at.equals at.quoted l) in
      subst (λ w. AttributesAt false total text w end) (sym (append_assoc found (a ∷ []) list)) (s.forth (a ∷ list) end whole);
  back = λ o list end l h. let (more, m, k) = s.back o list end l h in one_less total rest after a at o more end m k;
  no_space = all_append (λ a. not (is_xml_space a)) found a s.no_space (from_false (is_xml_space a) at.no_space);
  stands = λ why end l. s.stands why end (past_attribute at.white at.names at.no_space at.equals at.quoted l);
  comes = λ why end k. past_one total rest after a at why end (s.comes why end k);
}
  where
    one_less : (total : ℕ) (rest after : List ℕ) (a : WrittenAttribute) → AttributeAt false total rest a after → (o : Bool) (list : List WrittenAttribute) (end : List ℕ) → AttributesAt o total rest list end
        → IsTrue (lacks_space list) → (more : List WrittenAttribute) × AttributesAt o total after more end × IsTrue (lacks_space more)
    one_less total rest after a at o list end (no_more e) h = absurd (no_tag_end e at.names)
    one_less total rest after a at o list end (attribute {past_name = p} {start = s} {value = v} {rest = next} {name = n} {attributes = more} w b e q l) h =
        let names = qname_unique at.names b in
        let starts = equals_unique at.equals (subst (λ z. EqualsAt z s) (sym names.1) e) in
        let values = quoted_unique (quoted_loosened at.quoted) (subst (λ z. QuotedAt o z v next) (sym starts) q) in
        let one : WrittenAttribute = record { name = n; value = v; place = place_of total (after_white rest) } in
        (more, subst (λ z. AttributesAt o total z more end) (sym values.1) l, (and_parts (not (is_xml_space one)) (list_all (λ a. not (is_xml_space a)) more) h).1)

pub refuse_both : (e : Stop) (P P' Q Q' : Type 0) → (P → P') → (Q → Q') → Refuses e P Q → Refuses e P' Q'
refuse_both (Malformed left) P P' Q Q' f g h = f h
refuse_both (Unsupported left why) P P' Q Q' f g h = g h
refuse_both (TooDeep left) P P' Q Q' f g h = h
refuse_both NoMemory P P' Q Q' f g h = tt

pub unsupported_map : (e : Stop) (P Q : Why → List ℕ → Type 0) → ((why : Why) (at : List ℕ) → P why at → Q why at) → UnsupportedAt e P → UnsupportedAt e Q
unsupported_map (Malformed left) P Q f h = tt
unsupported_map (Unsupported left why) P Q f (at, e, h) = (at, e, f why at h)
unsupported_map (TooDeep left) P Q f h = h
unsupported_map NoMemory P Q f h = tt

-- what a `?` returns
pub failed : {T : Type 0} (r : Result T Stop) (Q : Stop → Type 0) (e : Stop) → IsErrAnd r (λ x. x ≡ e) → Q e → IfErr r Q
failed r Q e h q = let p = err_from_is_err_and r h in subst (λ w. IfErr w Q) (sym p.1) (subst Q (sym p.2) q)

-- a tag whose attributes are not read
pub no_list : (o : Bool) (total : ℕ) (outer : List Bound) (text start behind : List ℕ) (written : QualifiedName) → text ≡ 0x3C ∷ start → QNameAt start written behind
    → ((list : List WrittenAttribute) (after : List ℕ) → AttributesAt o total behind list after → IsTrue (lacks_space list) → ⊥)
    → (w : QualifiedName) (scope : List Bound) (n : ExpandedName) (x : List Attribute) (after : List ℕ) → TagAt o total outer text w scope n x after → ⊥
no_list o total outer text start behind written e q h w scope n x after t =
    let names = qname_unique (subst (λ z. QNameAt z w t.past_name) (same_others (sym t.opens ∙ e)) t.names) q in
    h t.attributes after (subst (λ z. AttributesAt o total z t.attributes after) names.1 t.lists) t.means.no_space

-- a tag that means nothing
pub no_meaning : (o : Bool) (total : ℕ) (outer : List Bound) (text start behind rest : List ℕ) (written : QualifiedName) (list : List WrittenAttribute) → text ≡ 0x3C ∷ start → QNameAt start written behind
    → AttributesAt false total behind list rest → ((scope : List Bound) (n : ExpandedName) (x : List Attribute) → TagMeans outer written list scope n x → ⊥)
    → (w : QualifiedName) (scope : List Bound) (n : ExpandedName) (x : List Attribute) (after : List ℕ) → TagAt o total outer text w scope n x after → ⊥
no_meaning o total outer text start behind rest written list e q l h w scope n x after t =
    let names = qname_unique (subst (λ z. QNameAt z w t.past_name) (same_others (sym t.opens ∙ e)) t.names) q in
    let lists = attributes_unique (subst (λ z. AttributesAt o total z t.attributes after) names.1 t.lists) (attributes_loosened l) in
    h scope n x (subst (λ z. TagMeans outer z list scope n x) names.0 (subst (λ z. TagMeans outer w z scope n x) lists.0 t.means))

pub broken : (e : Stop) (P Q R : Type 0) → (P → Q) → (P → R) → Breaks e P → Refuses e Q R
broken (Malformed left) P Q R f g h = f h
broken (Unsupported left why) P Q R f g h = absurd h
broken (TooDeep left) P Q R f g h = h
broken NoMemory P Q R f g h = tt

pub attributes_within : {o : Bool} {total : ℕ} {bs r : List ℕ} {l : List WrittenAttribute} → AttributesAt o total bs l r → length r ≤ length bs
attributes_within {bs = bs} (no_more e) = white_within bs
attributes_within {bs = bs} (attribute w b e q l) = omega (arith, white_within bs, qname_within b, equals_within e, ap length q.opens, value_within q.closes, attributes_within l)

pub tag_within : {o : Bool} {total : ℕ} {outer : List Bound} {bs after : List ℕ} {w : QualifiedName} {scope : List Bound} {n : ExpandedName} {e : List Attribute}
    → TagAt o total outer bs w scope n e after → length after < length bs
tag_within a = omega (arith, ap length a.opens, qname_within a.names, attributes_within a.lists)

mutual
  content_within : {o : Bool} {total d : ℕ} {outer : List Bound} {bs after : List ℕ} {h : RawTrees} → ContentAt o total outer d bs h after → length after ≤ length bs
  content_within at_end_tag = omega arith
  content_within (item a m) = omega (arith, item_within a, content_within m)

  pub item_within : {o : Bool} {total d : ℕ} {outer : List Bound} {bs after : List ℕ} {p : Piece} → ItemAt o total outer d bs p after → length after < length bs
  item_within (character_data a) = run_within a.plain
  item_within (reference a) = reference_within a
  item_within (cdata {inside = i} {after = r} a) = omega (arith, ap length a.opens, up_to_shorter (codes "]]>") a.rest i r a.closes)
  item_within (comment {after = r} a) = omega (arith, ap length a.opens, up_to_shorter (codes "--") a.rest a.inside (0x3E ∷ r) a.closes)
  item_within (instruction {after = r} a) = omega (arith, ap length a.opens, name_within a.names, up_to_shorter (codes "?>") a.behind a.inside r a.closes)
  item_within (child a) = element_within a

  element_within : {o : Bool} {total d : ℕ} {outer : List Bound} {bs after : List ℕ} {p : Piece} → ElementAt o total outer d bs p after → length after < length bs
  element_within (empty_tag a) = omega (arith, tag_within a)
  element_within (with_content {inside = i} {past_name = p} a m b e) = omega (arith, tag_within a, content_within m, qname_within b, ap length e, white_within p)

-- where no element may stand
pub none_so_deep : (o : Bool) (total : ℕ) (outer : List Bound) (text : List ℕ) (p : Piece) (after : List ℕ) → ElementAt o total outer 0 text p after → ⊥
none_so_deep o total outer text p after a = none_at o total outer 0 text p after refl a
  where
    none_at : (o : Bool) (total : ℕ) (outer : List Bound) (d : ℕ) (text : List ℕ) (p : Piece) (after : List ℕ) → d ≡ 0 → ElementAt o total outer d text p after → ⊥
    none_at o total outer d text p after e (empty_tag a) = omega (arith, e)
    none_at o total outer d text p after e (with_content a m b f) = omega (arith, e)

pub depth_stands : (total : ℕ) (outer : List Bound) (text : List ℕ) → OpensElement text → (at : List ℕ) × (length text ≡ length at) × ElementRefuses total outer 0 text too_deep at
depth_stands total outer text a = (0x3C ∷ a.rest, ap length a.opens, subst (λ w. ElementRefuses total outer 0 w too_deep (0x3C ∷ a.rest)) (sym a.opens) (depth a.names))

same_as_itself : (n m : QualifiedName) → n ≡ m → same_written n m ≡ true
same_as_itself n m e =
    and_from (bytes_eq n.prefix m.prefix) (bytes_eq n.local m.local) ((bytes_decides n.prefix m.prefix).1 (ap (λ (q : QualifiedName). q.prefix) e)) ((bytes_decides n.local m.local).1 (ap (λ (q : QualifiedName). q.local) e))

-- an end tag with another name
pub other_name : (text end behind : List ℕ) (found name : QualifiedName) → text ≡ codes "</" ++ end → QNameAt end found behind → false ≡ same_written found name
    → (after : List ℕ) → EndTagAt name text after → ⊥
other_name text end behind found name e q h after a =
    let names = qname_unique q (subst (λ z. QNameAt z name a.past_name) (append_cancel_left (codes "</") a.rest end (sym a.opens ∙ e)) a.names) in
    true≢false (sym (same_as_itself found name names.0) ∙ sym h)

pub no_close : (text end behind white : List ℕ) (found name : QualifiedName) → text ≡ codes "</" ++ end → QNameAt end found behind → white ≡ after_white behind
    → ((r : List ℕ) → white ≡ 0x3E ∷ r → ⊥) → (after : List ℕ) → EndTagAt name text after → ⊥
no_close text end behind white found name e q w h after a =
    let names = qname_unique (subst (λ z. QNameAt z name a.past_name) (append_cancel_left (codes "</") a.rest end (sym a.opens ∙ e)) a.names) q in
    h after (w ∙ (ap after_white (sym names.1) ∙ a.closes))

pub an_end_tag : (text end behind white after : List ℕ) (found name : QualifiedName) → text ≡ codes "</" ++ end → QNameAt end found behind → true ≡ same_written found name → white ≡ after_white behind
    → white ≡ 0x3E ∷ after → EndTagAt name text after
an_end_tag text end behind white after found name e q h w k = record {
  rest = end;
  past_name = behind;
  opens = e;
  names = subst (λ n. QNameAt end n behind) (is_name found name h) q;
  closes = sym w ∙ k;
}
