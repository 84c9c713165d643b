-- What is read without references to other entities than the predefined ones is read the same where these are read too.
use Rattle.std.proofs.Common.{ℕ, true, false, List}
use Rattle.tc_model.specs.Names.{ExpandedName}
use Rattle.tc_model.specs.RawTrees.{Attribute, Bound, RawTrees}
use Rattle.tc_model.specs.XmlTextNames.{QualifiedName}
use Rattle.tc_model.specs.XmlTextReferences as r
use Rattle.tc_model.specs.XmlTextReferences.{ReferenceAt, decimal, hexadecimal, entity, other, ValueAt, closed, plain, QuotedAt}
use Rattle.tc_model.specs.XmlTextScopes.{WrittenAttribute}
use Rattle.tc_model.specs.XmlTextContent.{Piece, AttributesAt, no_more, attribute, TagAt, ContentAt, at_end_tag, item, ItemAt, character_data, reference, cdata, comment, instruction, child, ElementAt, empty_tag, with_content}
use Rattle.tc_model.specs.XmlText.{Reads}

reference_with : {bs s after : List ℕ} → ReferenceAt false bs s after → ReferenceAt true bs s after
reference_with (decimal a h) = decimal a h
reference_with (hexadecimal a h) = hexadecimal a h
reference_with (entity a h) = entity a h
reference_with (other h a k) = absurd (cc)

value_with : {quote : ℕ} {bs v after : List ℕ} → ValueAt false quote bs v after → ValueAt true quote bs v after
value_with (closed e) = closed e
value_with (plain a v) = plain a (value_with v)
value_with (r.reference a v) = r.reference (reference_with a) (value_with v)

quoted_with : {bs v after : List ℕ} → QuotedAt false bs v after → QuotedAt true bs v after
quoted_with a = record { quote = a.quote; rest = a.rest; is_quote = a.is_quote; opens = a.opens; closes = value_with a.closes }

attributes_with : {total : ℕ} {bs after : List ℕ} {written : List WrittenAttribute} → AttributesAt false total bs written after → AttributesAt true total bs written after
attributes_with (no_more e) = no_more e
attributes_with (attribute w n e q l) = attribute w n e (quoted_with q) (attributes_with l)

tag_with : {total : ℕ} {outer scope : List Bound} {bs after : List ℕ} {w : QualifiedName} {n : ExpandedName} {e : List Attribute}
    → TagAt false total outer bs w scope n e after → TagAt true total outer bs w scope n e after
tag_with a = record { rest = a.rest; past_name = a.past_name; attributes = a.attributes; opens = a.opens; names = a.names; lists = attributes_with a.lists; means = a.means }

mutual
  content_with : {total deepest : ℕ} {outer : List Bound} {bs after : List ℕ} {h : RawTrees} → ContentAt false total outer deepest bs h after → ContentAt true total outer deepest bs h after
  content_with at_end_tag = at_end_tag
  content_with (item a m) = item (item_with a) (content_with m)

  item_with : {total deepest : ℕ} {outer : List Bound} {bs after : List ℕ} {p : Piece} → ItemAt false total outer deepest bs p after → ItemAt true total outer deepest bs p after
  item_with (character_data a) = character_data a
  item_with (reference a) = reference (reference_with a)
  item_with (cdata a) = cdata a
  item_with (comment a) = comment a
  item_with (instruction a) = instruction a
  item_with (child a) = child (element_with a)

  element_with : {total deepest : ℕ} {outer : List Bound} {bs after : List ℕ} {p : Piece} → ElementAt false total outer deepest bs p after → ElementAt true total outer deepest bs p after
  element_with (empty_tag a) = empty_tag (tag_with a)
  element_with (with_content a m b e) = with_content (tag_with a) (content_with m) b e

pub with_others : {deepest : ℕ} {bytes : List ℕ} {h : RawTrees} → Reads false deepest bytes h → Reads true deepest bytes h
with_others a = record {
  past_declaration = a.past_declaration;
  past_misc = a.past_misc;
  root = a.root;
  past_root = a.past_root;
  piece = a.piece;
  characters = a.characters;
  declaration = a.declaration;
  misc = a.misc;
  doctype = a.doctype;
  element = element_with a.element;
  end = a.end;
  is_tree = a.is_tree;
}
