-- A text that is read with references to other entities, or with elements deeper than they may stand, has the same raw tree, or reading comes to the first
-- of these and it is refused there.
use Rattle.std.proofs.Common.{◌≡◌, ◌⊎◌, inl, inr, ℕ, zero, suc, ◌<◌, Bool, true, false, not, List, refl, sym, subst, length, arith, IsTrue, IsFalse}
use Rattle.std.specs.List.{list_all}
use Rattle.std.proofs.lemmas.Bool.{true≢false, and_parts}
use Rattle.tc_base.specs.declared.reasons.Why.{Why}
use Rattle.tc_base.specs.declared.reasons.Why.TheVariants.{EntityReference}
use Rattle.tc_model.specs.Names.{ExpandedName}
use Rattle.tc_model.specs.RawTrees.{Attribute, Bound, RawTrees}
use Rattle.tc_model.specs.XmlTextBytes.{after_white, place_of}
use Rattle.tc_model.specs.XmlTextNames.{QualifiedName, same_written}
use Rattle.tc_model.specs.XmlTextReferences.{ReferenceAt, decimal, hexadecimal, ValueAt, closed, plain, QuotedAt}
use Rattle.tc_model.specs.XmlTextReferences as r
use Rattle.tc_model.specs.XmlTextScopes.{WrittenAttribute, is_xml_space}
use Rattle.tc_model.specs.XmlTextContent.{Piece, AttributesAt, no_more, attribute, TagAt, ContentAt, at_end_tag, item, ItemAt, character_data, reference, cdata, comment, instruction, child, ElementAt, empty_tag, with_content}
use Rattle.tc_model.specs.XmlText.{Reads, deepest_element}
use Rattle.tc_model.specs.XmlTextRefusals.{Cause, unsupported, too_deep, OtherEntityAt, ValueRefuses, past_run, past_reference, QuotedRefuses, xml_space, AttributesRefuse, value, past_attribute, TagRefuses, ContentRefuses, past_item, ElementRefuses, depth, tag, inside, DocumentRefuses, element, XmlTextRefuses}
use Rattle.tc_model.specs.XmlTextRefusals as f
use Rattle.tc_model.specs.XmlTextLaws.{IsBeyond, HasTreeOrRefusal, IsRefusedForMore}
use Rattle.tc_model.proofs.XmlTextRefused.{whole_front, one_refusal, no_tree_where_refused}

-- tags

reference_read : {others : Bool} {bs s after : List ℕ} → ReferenceAt others bs s after → ReferenceAt false bs s after ⊎ (OtherEntityAt bs × IsTrue others)
reference_read (decimal a h) = inl (decimal a h)
reference_read (hexadecimal a h) = inl (hexadecimal a h)
reference_read (r.entity a p) = inl (r.entity a p)
reference_read {bs = bs} (r.other {name = name} {after = after} h a p) =
    let o : OtherEntityAt bs = record { name = name; after = after; refers = a; not_predefined = p } in
    inr (o, h)

value_read : {others : Bool} {q : ℕ} {bs v after : List ℕ} → ValueAt others q bs v after → ValueAt false q bs v after ⊎ ((at : List ℕ) × ValueRefuses q bs at × IsTrue others)
value_read (closed e) = inl (closed e)
value_read (plain a k) =
    elim (value_read k) [
      | inl w ↦ inl (plain a w)
      | inr p ↦ inr (p.0, past_run a p.1, p.2)
    ]
value_read {bs = bs} (r.reference a k) =
    elim (reference_read a) [
      | inl b ↦
          elim (value_read k) [
            | inl w ↦ inl (r.reference b w)
            | inr p ↦ inr (p.0, past_reference b p.1, p.2)
          ]
      | inr o ↦ inr (bs, f.entity o.0, o.1)
    ]

quoted_read : {others : Bool} {bs v after : List ℕ} → QuotedAt others bs v after → QuotedAt false bs v after ⊎ ((at : List ℕ) × QuotedRefuses bs at × IsTrue others)
quoted_read {bs = bs} {v = v} {after = after} a =
    elim (value_read a.closes) [
      | inl w ↦
          let reads : QuotedAt false bs v after = record { quote = a.quote; rest = a.rest; is_quote = a.is_quote; opens = a.opens; closes = w } in
          inl reads
      | inr p ↦
          let refused : QuotedRefuses bs p.0 = record { quote = a.quote; rest = a.rest; is_quote = a.is_quote; opens = a.opens; refuses = p.1 } in
          inr (p.0, refused, p.2)
    ]

not_true : (b : Bool) → not b ≡ true → b ≡ false
not_true true e = absurd (true≢false (sym e))
not_true false e = refl

attributes_read : {others : Bool} {total : ℕ} {bs after : List ℕ} {written : List WrittenAttribute} → AttributesAt others total bs written after → IsTrue (list_all (λ a. not (is_xml_space a)) written)
    → AttributesAt false total bs written after ⊎ ((why : Why) × (at : List ℕ) × AttributesRefuse bs why at × IsTrue others)
attributes_read (no_more e) s = inl (no_more e)
attributes_read {total = total} {bs = bs} (attribute {value = v} {name = name} {attributes = list} w n e q l) s =
    let one : WrittenAttribute = record { name = name; value = v; place = place_of total (after_white bs) } in
    let parts = and_parts (not (is_xml_space one)) (list_all (λ a. not (is_xml_space a)) list) s in
    let other_name : IsFalse (same_written name xml_space) = not_true (is_xml_space one) parts.0 in
    elim (quoted_read q) [
      | inl b ↦
          elim (attributes_read l parts.1) [
            | inl k ↦ inl (attribute w n e b k)
            | inr p ↦ inr (p.0, p.1, past_attribute w n other_name e b p.2, p.3)
          ]
      | inr p ↦ inr (EntityReference, p.0, value w n other_name e p.1, p.2)
    ]

tag_read : {others : Bool} {total : ℕ} {outer scope : List Bound} {bs after : List ℕ} {w : QualifiedName} {n : ExpandedName} {x : List Attribute}
    → TagAt others total outer bs w scope n x after → TagAt false total outer bs w scope n x after ⊎ ((why : Why) × (at : List ℕ) × TagRefuses bs why at × IsTrue others)
tag_read {total = total} {outer = outer} {scope = scope} {bs = bs} {after = after} {w = w} {n = n} {x = x} a =
    elim (attributes_read a.lists a.means.no_space) [
      | inl l ↦
          let reads : TagAt false total outer bs w scope n x after = record { rest = a.rest; past_name = a.past_name; attributes = a.attributes; opens = a.opens; names = a.names; lists = l; means = a.means } in
          inl reads
      | inr p ↦
          let refused : TagRefuses bs p.0 p.1 = record { rest = a.rest; written = w; past_name = a.past_name; opens = a.opens; names = a.names; attributes = p.2 } in
          inr (p.0, p.1, refused, p.3)
    ]

-- content and elements

-- an element stands too deep where none may stand
stands_too_deep : {others : Bool} {total : ℕ} {outer scope : List Bound} {bs after : List ℕ} {w : QualifiedName} {n : ExpandedName} {x : List Attribute}
    → TagAt others total outer bs w scope n x after → ElementRefuses total outer 0 bs too_deep bs
stands_too_deep {total = total} {outer = outer} a = subst (λ (z : List ℕ). ElementRefuses total outer 0 z too_deep z) (sym a.opens) (depth a.names)

none_deep : (d : ℕ) → 0 < suc d
none_deep d = omega arith

beyond_within : (others : Bool) (d e : ℕ) (c : Cause) → IsBeyond others d e c → IsBeyond others (suc d) (suc e) c
beyond_within others d e (unsupported why) h = h
beyond_within others d e too_deep h =
    let here : e < d = h in
    let more : suc e < suc d = omega arith in
    more

mutual
  content_read : {others : Bool} {total d : ℕ} {outer : List Bound} {bs after : List ℕ} {h : RawTrees} → ContentAt others total outer d bs h after → (e : ℕ)
      → ContentAt false total outer e bs h after ⊎ ((c : Cause) × (at : List ℕ) × ContentRefuses total outer e bs c at × IsBeyond others d e c)
  content_read at_end_tag e = inl at_end_tag
  content_read (item a m) e =
      elim (item_read a e) [
        | inl b ↦
            elim (content_read m e) [
              | inl k ↦ inl (item b k)
              | inr q ↦ inr (q.0, q.1, past_item b q.2, q.3)
            ]
        | inr q ↦ inr q
      ]

  item_read : {others : Bool} {total d : ℕ} {outer : List Bound} {bs after : List ℕ} {p : Piece} → ItemAt others total outer d bs p after → (e : ℕ)
      → ItemAt false total outer e bs p after ⊎ ((c : Cause) × (at : List ℕ) × ContentRefuses total outer e bs c at × IsBeyond others d e c)
  item_read (character_data a) e = inl (character_data a)
  item_read {bs = bs} (reference a) e =
      elim (reference_read a) [
        | inl b ↦ inl (reference b)
        | inr o ↦ inr (unsupported EntityReference, bs, f.entity o.0, o.1)
      ]
  item_read (cdata a) e = inl (cdata a)
  item_read (comment a) e = inl (comment a)
  item_read (instruction a) e = inl (instruction a)
  item_read (child a) e =
      elim (element_read a e) [
        | inl b ↦ inl (child b)
        | inr q ↦ inr (q.0, q.1, f.child q.2, q.3)
      ]

  element_read : {others : Bool} {total d : ℕ} {outer : List Bound} {bs after : List ℕ} {p : Piece} → ElementAt others total outer d bs p after → (e : ℕ)
      → ElementAt false total outer e bs p after ⊎ ((c : Cause) × (at : List ℕ) × ElementRefuses total outer e bs c at × IsBeyond others d e c)
  element_read {bs = bs} (empty_tag {deepest = d} a) zero = inr (too_deep, bs, stands_too_deep a, none_deep d)
  element_read (empty_tag a) (suc e) =
      elim (tag_read a) [
        | inl t ↦ inl (empty_tag t)
        | inr q ↦ inr (unsupported q.0, q.1, tag q.2, q.3)
      ]
  element_read {bs = bs} (with_content {deepest = d} a m n x) zero = inr (too_deep, bs, stands_too_deep a, none_deep d)
  element_read {others = others} (with_content {deepest = d} a m n x) (suc e) =
      elim (tag_read a) [
        | inl t ↦
            elim (content_read m e) [
              | inl k ↦ inl (with_content t k n x)
              | inr q ↦ inr (q.0, q.1, inside t q.2, beyond_within others d e q.0 q.3)
            ]
        | inr q ↦ inr (unsupported q.0, q.1, tag q.2, q.3)
      ]

-- texts

text_read : {others : Bool} {d : ℕ} {bytes : List ℕ} {h : RawTrees} → Reads others d bytes h → (e : ℕ)
    → Reads false e bytes h ⊎ ((c : Cause) × (at : List ℕ) × DocumentRefuses e bytes c at × IsBeyond others d e c)
text_read {bytes = bytes} {h = h} m e =
    elim (element_read m.element e) [
      | inl k ↦
          let reads : Reads false e bytes h = record {
            past_declaration = m.past_declaration;
            past_misc = m.past_misc;
            root = m.root;
            past_root = m.past_root;
            piece = m.piece;
            characters = m.characters;
            declaration = m.declaration;
            misc = m.misc;
            doctype = m.doctype;
            element = k;
            end = m.end;
            is_tree = m.is_tree;
          } in
          inl reads
      | inr q ↦ inr (q.0, q.1, element m.declaration m.misc m.doctype q.2, q.3)
    ]

pub tree_or_refusal : HasTreeOrRefusal
tree_or_refusal others deepest bytes h m =
    elim (text_read m deepest_element) [
      | inl k ↦ inl k
      | inr q ↦
          let refused : XmlTextRefuses bytes q.0 (place_of (length bytes) q.1) = record { front = bytes; at = q.1; is_front = whole_front m.characters; refuses = q.2; stands = refl } in
          inr (q.0, place_of (length bytes) q.1, refused, q.3)
    ]

pub refused_for_more : IsRefusedForMore
refused_for_more others deepest bytes h cause place m a =
    elim (tree_or_refusal others deepest bytes h m) [
      | inl k ↦ absurd (no_tree_where_refused bytes cause place h a k)
      | inr q ↦ subst (IsBeyond others deepest deepest_element) (one_refusal bytes q.0 cause q.1 place q.2 a).0 q.3
    ]
