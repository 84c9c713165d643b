-- What follows a phrase is no longer than what the phrase stands in.
use Rattle.std.proofs.Common.{◌≡◌, inl, inr, ◌⊎◌, ℕ, ◌<◌, ◌≤◌, ◌+◌, ◌-◌, Bool, true, false, cond, List, [], ◌∷◌, ap, ◌∙◌, length, drop, arith, codes, length-append, length-drop}
use Rattle.std.specs.List.{prefix_len}
use Rattle.std.proofs.lemmas.Bool.{cases_lt}
use Rattle.tc_base.specs.Characters.{is_white}
use Rattle.tc_model.specs.Names.{ExpandedName}
use Rattle.tc_model.specs.RawTrees.{Attribute, Bound, RawTrees}
use Rattle.tc_model.specs.XmlText.{after_mark}
use Rattle.tc_model.specs.XmlTextBytes.{after_white, begins_with, length_before, EqualsAt, LiteralAt, RunAt, UpTo}
use Rattle.tc_model.specs.XmlTextNames.{QualifiedName, NcNameAt, QNameAt, unprefixed, prefixed}
use Rattle.tc_model.specs.XmlTextReferences.{ReferenceAt, decimal, hexadecimal, entity, other, ValueAt, closed, plain, is_digit}
use Rattle.tc_model.specs.XmlTextReferences as r
use Rattle.tc_model.specs.XmlTextMisc.{CommentAt, InstructionAt, SettingAt, EncodingAt, no_encoding, encoding, StandaloneAt, no_standalone, standalone, DeclarationAt, no_declaration, declaration, MiscAt, ExternalIdAt, no_id, system, public, DoctypeFrontAt, DoctypeAt, no_doctype, doctype}
use Rattle.tc_model.specs.XmlTextMisc as m
use Rattle.tc_model.specs.XmlTextScopes.{WrittenAttribute}
use Rattle.tc_model.specs.XmlTextContent.{Piece, AttributesAt, no_more, attribute, TagAt, ContentAt, at_end_tag, item, ItemAt, character_data, reference, cdata, comment, instruction, child, ElementAt, empty_tag, with_content}
use Rattle.tc_tags.specs.XmlTextTags.{WrittenElement, TagFormAt, EndTagAt, ComesTo, to_root, into_element, past_item as past_one}

pub white_within : (bs : List ℕ) → length (after_white bs) ≤ length bs
white_within bs = omega (arith, length-drop (prefix_len is_white bs) bs)

pub name_within : {bs n r : List ℕ} → NcNameAt bs n r → length r ≤ length bs
name_within {bs} {n} {r} a = omega (arith, ap length a.parts, length-append n r)

pub qname_within : {bs r : List ℕ} {n : QualifiedName} → QNameAt bs n r → length r ≤ length bs
qname_within (unprefixed a e) = name_within a
qname_within (prefixed a b) = omega (arith, name_within a, name_within b)

pub reference_within : {o : Bool} {bs s r : List ℕ} → ReferenceAt o bs s r → length r < length bs
reference_within (decimal {rest = t} {digits = d} {after = r} a h) = omega (arith, ap length a.back, length-drop (prefix_len (is_digit 10) t) t)
reference_within (hexadecimal {rest = t} {digits = d} {after = r} a h) = omega (arith, ap length a.back, length-drop (prefix_len (is_digit 16) t) t)
reference_within (entity a e) = omega (arith, ap length a.opens, name_within a.names)
reference_within (other h a e) = omega (arith, ap length a.opens, name_within a.names)

pub run_within : {test : ℕ → Bool} {bs n r : List ℕ} → RunAt test bs n r → length r < length bs
run_within {test} {bs} {n} {r} a = by bs a.some (ap length a.back ∙ length-drop (prefix_len test bs) bs)
  where
    by : (bs : List ℕ) → 0 < prefix_len test bs → length r ≡ length bs - prefix_len test bs → length r < length bs
    by [] some e = absurd (omega (arith, some))
    by (b ∷ bs) some e = omega (arith, some, e)

pub up_to_within : (mark bs found after : List ℕ) → UpTo mark bs found after → length mark + length after ≤ length bs
up_to_within mark bs found after u = omega (arith, ap length u.back, length-append mark after, length-drop (length_before mark bs) bs)

pub value_within : {o : Bool} {quote : ℕ} {bs v r : List ℕ} → ValueAt o quote bs v r → length r < length bs
value_within (closed e) = omega (arith, ap length e)
value_within (plain a v) = omega (arith, run_within a, value_within v)
value_within (r.reference a v) = omega (arith, reference_within a, value_within v)

pub equals_within : {bs r : List ℕ} → EqualsAt bs r → length r < length bs
equals_within {bs} a = omega (arith, ap length a.sign, white_within bs, ap length a.past, white_within a.rest)

pub literal_within : {bs v r : List ℕ} → LiteralAt bs v r → length r < length bs
literal_within {bs} {v} {r} a = omega (arith, ap length a.opens, up_to_within (a.quote ∷ []) a.rest v r a.closes)

pub attributes_within : {o : Bool} {total : ℕ} {bs r : List ℕ} {l : List WrittenAttribute} → AttributesAt o total bs l r → length r ≤ length bs
attributes_within {bs = bs} (no_more e) = white_within bs
attributes_within {bs = bs} (attribute w b e q l) = omega (arith, white_within bs, qname_within b, equals_within e, ap length q.opens, value_within q.closes, attributes_within l)

pub form_within : {o : Bool} {total : ℕ} {bs after : List ℕ} {e : WrittenElement} → TagFormAt o total bs e after → length after < length bs
form_within a = omega (arith, ap length a.opens, qname_within a.names, attributes_within a.lists)

pub end_tag_within : {n : QualifiedName} {bs after : List ℕ} → EndTagAt n bs after → length after < length bs
end_tag_within a = omega (arith, ap length a.opens, qname_within a.names, white_within a.past_name, ap length a.closes)

pub tag_within : {o : Bool} {total : ℕ} {outer : List Bound} {bs after : List ℕ} {w : QualifiedName} {scope : List Bound} {n : ExpandedName} {e : List Attribute}
    → TagAt o total outer bs w scope n e after → length after < length bs
tag_within a = omega (arith, ap length a.opens, qname_within a.names, attributes_within a.lists)

pub comment_within : {bs after : List ℕ} → CommentAt bs after → length after < length bs
comment_within {after = r} a = omega (arith, ap length a.opens, up_to_within (codes "--") a.rest a.inside (0x3E ∷ r) a.closes)

pub instruction_within : {bs after : List ℕ} → InstructionAt bs after → length after < length bs
instruction_within {after = r} a = omega (arith, ap length a.opens, name_within a.names, up_to_within (codes "?>") a.behind a.inside r a.closes)

mutual
  pub content_within : {o : Bool} {total d : ℕ} {outer : List Bound} {bs after : List ℕ} {h : RawTrees} → ContentAt o total outer d bs h after → length after ≤ length bs
  content_within at_end_tag = omega arith
  content_within (item a m) = omega (arith, item_within a, content_within m)

  pub item_within : {o : Bool} {total d : ℕ} {outer : List Bound} {bs after : List ℕ} {p : Piece} → ItemAt o total outer d bs p after → length after < length bs
  item_within (character_data a) = run_within a.plain
  item_within (reference a) = reference_within a
  item_within (cdata {inside = i} {after = r} a) = omega (arith, ap length a.opens, up_to_within (codes "]]>") a.rest i r a.closes)
  item_within (comment a) = comment_within a
  item_within (instruction a) = instruction_within a
  item_within (child a) = element_within a

  pub element_within : {o : Bool} {total d : ℕ} {outer : List Bound} {bs after : List ℕ} {p : Piece} → ElementAt o total outer d bs p after → length after < length bs
  element_within (empty_tag a) = omega (arith, tag_within a)
  element_within (with_content {inside = i} {past_name = p} a m b e) = omega (arith, tag_within a, content_within m, qname_within b, ap length e, white_within p)

-- what is refused stands within

-- what stands before the root element

setting_within : {word bs v r : List ℕ} → SettingAt word bs v r → length r ≤ length bs
setting_within {word} {bs} a = omega (arith, white_within bs, ap length a.names, length-append word a.behind, equals_within a.equals, literal_within a.literal)

encoding_within : {bs r : List ℕ} → EncodingAt bs r → length r ≤ length bs
encoding_within (no_encoding h) = omega arith
encoding_within (encoding a k) = setting_within a

standalone_within : {bs r : List ℕ} → StandaloneAt bs r → length r ≤ length bs
standalone_within (no_standalone h) = omega arith
standalone_within (standalone a k) = setting_within a

pub declaration_within : {bs r : List ℕ} → DeclarationAt bs r → length r ≤ length bs
declaration_within (no_declaration h) = omega arith
declaration_within (declaration {past_standalone = p} {after = r} is v e t q) =
    omega (arith, ap length is, setting_within v, encoding_within e, standalone_within t, white_within p, ap length q)

pub misc_within : {bs r : List ℕ} → MiscAt bs r → length r ≤ length bs
misc_within {bs} (m.no_more h) = white_within bs
misc_within {bs} (m.comment a k) = omega (arith, white_within bs, comment_within a, misc_within k)
misc_within {bs} (m.instruction a k) = omega (arith, white_within bs, instruction_within a, misc_within k)

external_within : {bs r : List ℕ} → ExternalIdAt bs r → length r ≤ length bs
external_within (no_id h) = omega arith
external_within {bs} (system {rest = t} w is w' l) = omega (arith, white_within bs, ap length is, white_within t, literal_within l)
external_within {bs} (public {rest = t} {past_first = p} w is w' l w'' l') = omega (arith, white_within bs, ap length is, white_within t, literal_within l, white_within p, literal_within l')

pub doctype_front_within : {bs r : List ℕ} → DoctypeFrontAt bs r → length r ≤ length bs
doctype_front_within a =
    omega (arith, ap length a.opens, white_within a.rest, qname_within a.names, external_within a.external, ap length a.past, white_within a.past_id)

pub doctype_within : {bs r : List ℕ} → DoctypeAt bs r → length r ≤ length bs
doctype_within (no_doctype h) = omega arith
doctype_within (doctype a k) = omega (arith, doctype_front_within a, misc_within k)

pub mark_within : (bytes : List ℕ) → length (after_mark bytes) ≤ length bytes
mark_within bytes = by (begins_with (0xEF ∷ 0xBB ∷ 0xBF ∷ []) bytes)
  where
    by : (x : Bool) → length (cond x (drop 3 bytes) bytes) ≤ length bytes
    by true = omega (arith, length-drop 3 bytes)
    by false = omega arith

-- the place to which reading comes stands within the text
pub comes_within : {text bs : List ℕ} {es : List WrittenElement} {scope : List Bound} {d : ℕ} → ComesTo text es scope d bs → length bs ≤ length text
comes_within {text} (to_root d m r) = omega (arith, mark_within text, declaration_within d, misc_within m, doctype_within r)
comes_within (into_element c a m) = omega (arith, comes_within c, form_within a)
comes_within (past_one c i) = omega (arith, comes_within c, item_within i)

-- one of two orders
pub at_most_or_more : (a b : ℕ) → (a ≤ b) ⊎ (b < a)
at_most_or_more a b = by (cases_lt b a)
  where
    by : (b < a) ⊎ (a ≤ b) → (a ≤ b) ⊎ (b < a)
    by (inl h) = inr h
    by (inr h) = inl h
