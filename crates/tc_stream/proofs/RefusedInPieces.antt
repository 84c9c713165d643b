-- A text that would be read with other entities, or deeper, is read, or its reading stops at such a construct. So what stops the reading of a document in pieces is
-- what a whole one is refused for.
use Rattle.std.proofs.Common.{◌≡◌, ◌⊎◌, inl, inr, refl, sym, subst, ◌∙◌, arith, ℕ, zero, suc, Bool, true, false, not, IsTrue, IsFalse, List, ◌∷◌, ◌++◌, length, codes}
use Rattle.std.proofs.lemmas.Bool.{true≢false, and_parts, not-true}
use Rattle.std.specs.List.{list_all}
use Rattle.tc_base.specs.declared.reasons.Why.{Why}
use Rattle.tc_base.specs.declared.reasons.Why.TheVariants.{EntityReference}
use Rattle.tc_model.specs.Names.{ExpandedName}
use Rattle.tc_model.specs.RawTrees.{Attribute, Bound, RawTrees, none}
use Rattle.tc_model.specs.XmlText.{Reads, XmlText, deepest_element}
use Rattle.tc_model.specs.XmlTextBytes.{RunAt, BeginsWithWhite, after_white, EqualsAt, place_of, line_ends}
use Rattle.tc_model.specs.XmlTextContent.{Piece, characters, whole, piece_before, AttributesAt, no_more, attribute, TagAt, ContentAt, at_end_tag, item, ItemAt, character_data, reference, cdata, comment, instruction, child, ElementAt, empty_tag, with_content}
use Rattle.tc_model.specs.XmlTextNames.{QualifiedName, same_written, QNameAt}
use Rattle.tc_model.specs.XmlTextReferences.{ReferenceAt, decimal, hexadecimal, spaced, is_plain_within, ValueAt, closed, plain, QuotedAt}
use Rattle.tc_model.specs.XmlTextReferences as r
use Rattle.tc_model.specs.XmlTextRefusals.{Cause, unsupported, too_deep, OtherEntityAt, ValueRefuses, past_run, past_reference, QuotedRefuses, xml_space, AttributesRefuse, value, past_attribute, TagRefuses, ContentRefuses, past_item, ElementRefuses, depth, inside, XmlTextRefuses, IsNotRefused}
use Rattle.tc_model.specs.XmlTextRefusals as f
use Rattle.tc_model.specs.XmlTextScopes.{WrittenAttribute, is_xml_space, first_scope}
use Rattle.tc_model.proofs.XmlTextRefused.{whole_front, one_refusal, no_tree_where_refused}
use Rattle.tc_stream.specs.Faults.{HasCausesOfWhole}
use Rattle.tc_stream.specs.declared.faults.StreamFault.TheVariants as faults

-- a reference, a value, attributes and a tag: without other entities, or such a one stands there

reference_or : {others : Bool} {bs s after : List ℕ} → ReferenceAt others bs s after → ReferenceAt false bs s after ⊎ (IsTrue others × OtherEntityAt bs)
reference_or (decimal a h) = inl (decimal a h)
reference_or (hexadecimal a h) = inl (hexadecimal a h)
reference_or (r.entity a h) = inl (r.entity a h)
reference_or (r.other {name = n} {after = z} o a k) = inr (o, record { name = n; after = z; refers = a; not_predefined = k })

plain_or : {others : Bool} {quote : ℕ} {bs run rest v after : List ℕ} → RunAt (is_plain_within quote) bs run rest
    → ValueAt false quote rest v after ⊎ (IsTrue others × (at : List ℕ) × ValueRefuses quote rest at)
    → ValueAt false quote bs (spaced (line_ends run) ++ v) after ⊎ (IsTrue others × (at : List ℕ) × ValueRefuses quote bs at)
plain_or a (inl w) = inl (plain a w)
plain_or a (inr (o, at, x)) = inr (o, at, past_run a x)

referred_or : {others : Bool} {quote : ℕ} {bs s rest v after : List ℕ} → ReferenceAt false bs s rest ⊎ (IsTrue others × OtherEntityAt bs)
    → ValueAt false quote rest v after ⊎ (IsTrue others × (at : List ℕ) × ValueRefuses quote rest at)
    → ValueAt false quote bs (s ++ v) after ⊎ (IsTrue others × (at : List ℕ) × ValueRefuses quote bs at)
referred_or {bs = bs} (inr (o, e)) y = inr (o, bs, f.entity e)
referred_or (inl a) (inl w) = inl (r.reference a w)
referred_or (inl a) (inr (o, at, x)) = inr (o, at, past_reference a x)

value_or : {others : Bool} {quote : ℕ} {bs v after : List ℕ} → ValueAt others quote bs v after
    → ValueAt false quote bs v after ⊎ (IsTrue others × (at : List ℕ) × ValueRefuses quote bs at)
value_or (closed e) = inl (closed e)
value_or (plain a v) = plain_or a (value_or v)
value_or (r.reference a v) = referred_or (reference_or a) (value_or v)

quoted_or : {others : Bool} {bs v after : List ℕ} → QuotedAt others bs v after → QuotedAt false bs v after ⊎ (IsTrue others × (at : List ℕ) × QuotedRefuses bs at)
quoted_or {others} {bs} {v} {after} a = by (value_or a.closes)
  where
    by : ValueAt false a.quote a.rest v after ⊎ (IsTrue others × (at : List ℕ) × ValueRefuses a.quote a.rest at) → QuotedAt false bs v after ⊎ (IsTrue others × (at : List ℕ) × QuotedRefuses bs at)
    by (inl w) = inl (record { quote = a.quote; rest = a.rest; is_quote = a.is_quote; opens = a.opens; closes = w })
    by (inr (o, at, x)) = inr (o, at, record { quote = a.quote; rest = a.rest; is_quote = a.is_quote; opens = a.opens; refuses = x })

attribute_or : {others : Bool} {total : ℕ} {bs past start v rest after : List ℕ} {name : QualifiedName} {more : List WrittenAttribute} → BeginsWithWhite bs → QNameAt (after_white bs) name past
    → IsFalse (same_written name xml_space) → EqualsAt past start → QuotedAt false start v rest ⊎ (IsTrue others × (at : List ℕ) × QuotedRefuses start at)
    → AttributesAt false total rest more after ⊎ (IsTrue others × (why : Why) × (at : List ℕ) × AttributesRefuse rest why at)
    → AttributesAt false total bs (record { name = name; value = v; place = place_of total (after_white bs) } ∷ more) after ⊎ (IsTrue others × (why : Why) × (at : List ℕ) × AttributesRefuse bs why at)
attribute_or w n h e (inr (o, at, x)) y = inr (o, EntityReference, at, value w n h e x)
attribute_or w n h e (inl q) (inl l) = inl (attribute w n e q l)
attribute_or w n h e (inl q) (inr (o, why, at, x)) = inr (o, why, at, past_attribute w n h e q x)

attributes_or : {others : Bool} {total : ℕ} {bs after : List ℕ} {written : List WrittenAttribute} → AttributesAt others total bs written after → IsTrue (list_all (λ a. not (is_xml_space a)) written)
    → AttributesAt false total bs written after ⊎ (IsTrue others × (why : Why) × (at : List ℕ) × AttributesRefuse bs why at)
attributes_or (no_more e) s = inl (no_more e)
attributes_or {total = total} {bs = bs} (attribute {value = v} {name = name} {attributes = more} w n e q l) s =
    let one : WrittenAttribute = record { name = name; value = v; place = place_of total (after_white bs) } in
    let parts = and_parts (not (is_xml_space one)) (list_all (λ a. not (is_xml_space a)) more) s in
    attribute_or w n (not-true (is_xml_space one) parts.0) e (quoted_or q) (attributes_or l parts.1)

tag_or : {others : Bool} {total : ℕ} {outer scope : List Bound} {bs after : List ℕ} {w : QualifiedName} {n : ExpandedName} {e : List Attribute} → TagAt others total outer bs w scope n e after
    → TagAt false total outer bs w scope n e after ⊎ (IsTrue others × (why : Why) × (at : List ℕ) × TagRefuses bs why at)
tag_or {others} {total} {outer} {scope} {bs} {after} {w} {n} {e} a = by (attributes_or a.lists a.means.no_space)
  where
    by : AttributesAt false total a.past_name a.attributes after ⊎ (IsTrue others × (why : Why) × (at : List ℕ) × AttributesRefuse a.past_name why at)
        → TagAt false total outer bs w scope n e after ⊎ (IsTrue others × (why : Why) × (at : List ℕ) × TagRefuses bs why at)
    by (inl l) = inl (record { rest = a.rest; past_name = a.past_name; attributes = a.attributes; opens = a.opens; names = a.names; lists = l; means = a.means })
    by (inr (o, why, at, x)) = inr (o, why, at, record { rest = a.rest; written = w; past_name = a.past_name; opens = a.opens; names = a.names; attributes = x })

-- where reading stops, and for a cause that may be
record Stop (P : Cause → Type 0) (Refuses : Cause → List ℕ → Type 0) : Type 0 where
  cause : Cause
  at : List ℕ
  allowed : P cause
  refuses : Refuses cause at

module _ (P : Cause → Type 0) {others : Bool} {total : ℕ} (unread : IsTrue others → (why : Why) → P (unsupported why)) where
  item_then : {d : ℕ} {outer : List Bound} {bs rest after : List ℕ} {piece : Piece} {trees : RawTrees} → ItemAt false total outer d bs piece rest ⊎ Stop P (ContentRefuses total outer d bs)
      → ContentAt false total outer d rest trees after ⊎ Stop P (ContentRefuses total outer d rest) → ContentAt false total outer d bs (piece_before piece trees) after ⊎ Stop P (ContentRefuses total outer d bs)
  item_then (inr x) y = inr x
  item_then (inl a) (inl m) = inl (item a m)
  item_then (inl a) (inr x) = inr (record { cause = x.cause; at = x.at; allowed = x.allowed; refuses = past_item a x.refuses })

  referred : {d : ℕ} {outer : List Bound} {bs s after : List ℕ} → ReferenceAt false bs s after ⊎ (IsTrue others × OtherEntityAt bs)
      → ItemAt false total outer d bs (characters s (place_of total bs)) after ⊎ Stop P (ContentRefuses total outer d bs)
  referred (inl a) = inl (reference a)
  referred {bs = bs} (inr (o, e)) = inr (record { cause = unsupported EntityReference; at = bs; allowed = unread o EntityReference; refuses = f.entity e })

  as_item : {d : ℕ} {outer : List Bound} {bs after : List ℕ} {piece : Piece} → ElementAt false total outer d bs piece after ⊎ Stop P (ElementRefuses total outer d bs)
      → ItemAt false total outer d bs piece after ⊎ Stop P (ContentRefuses total outer d bs)
  as_item (inl e) = inl (child e)
  as_item (inr x) = inr (record { cause = x.cause; at = x.at; allowed = x.allowed; refuses = f.child x.refuses })

  too_low : {outer scope : List Bound} {bs after : List ℕ} {w : QualifiedName} {n : ExpandedName} {e : List Attribute} → TagAt others total outer bs w scope n e after → P too_deep
      → Stop P (ElementRefuses total outer 0 bs)
  too_low {outer = outer} {bs = bs} a allowed = record { cause = too_deep; at = bs; allowed = allowed; refuses = subst (λ z. ElementRefuses total outer 0 z too_deep z) (sym a.opens) (depth a.names) }

  empty_or : {d : ℕ} {outer scope : List Bound} {bs after : List ℕ} {w : QualifiedName} {n : ExpandedName} {e : List Attribute}
      → TagAt false total outer bs w scope n e (codes "/>" ++ after) ⊎ (IsTrue others × (why : Why) × (at : List ℕ) × TagRefuses bs why at)
      → ElementAt false total outer (suc d) bs (whole n e scope (place_of total bs) none) after ⊎ Stop P (ElementRefuses total outer (suc d) bs)
  empty_or (inl a) = inl (empty_tag a)
  empty_or (inr (o, why, at, x)) = inr (record { cause = unsupported why; at = at; allowed = unread o why; refuses = f.tag x })

  content_within : {d : ℕ} {outer scope : List Bound} {bs inner end past after : List ℕ} {w : QualifiedName} {n : ExpandedName} {e : List Attribute} {kids : RawTrees}
      → TagAt false total outer bs w scope n e (0x3E ∷ inner) ⊎ (IsTrue others × (why : Why) × (at : List ℕ) × TagRefuses bs why at)
      → ContentAt false total scope d inner kids (0x3C ∷ 0x2F ∷ end) ⊎ Stop P (ContentRefuses total scope d inner) → QNameAt end w past → after_white past ≡ 0x3E ∷ after
      → ElementAt false total outer (suc d) bs (whole n e scope (place_of total bs) kids) after ⊎ Stop P (ElementRefuses total outer (suc d) bs)
  content_within (inr (o, why, at, x)) y m c = inr (record { cause = unsupported why; at = at; allowed = unread o why; refuses = f.tag x })
  content_within (inl a) (inl k) m c = inl (with_content a k m c)
  content_within (inl a) (inr x) m c = inr (record { cause = x.cause; at = x.at; allowed = x.allowed; refuses = inside a x.refuses })

  mutual
    content_or : {d : ℕ} {outer : List Bound} {bs after : List ℕ} {h : RawTrees} (e : ℕ) → ((d ≡ e → ⊥) → P too_deep) → ContentAt others total outer d bs h after
        → ContentAt false total outer e bs h after ⊎ Stop P (ContentRefuses total outer e bs)
    content_or e deep at_end_tag = inl at_end_tag
    content_or e deep (item a m) = item_then (item_or e deep a) (content_or e deep m)

    item_or : {d : ℕ} {outer : List Bound} {bs after : List ℕ} {p : Piece} (e : ℕ) → ((d ≡ e → ⊥) → P too_deep) → ItemAt others total outer d bs p after
        → ItemAt false total outer e bs p after ⊎ Stop P (ContentRefuses total outer e bs)
    item_or e deep (character_data a) = inl (character_data a)
    item_or e deep (reference a) = referred (reference_or a)
    item_or e deep (cdata a) = inl (cdata a)
    item_or e deep (comment a) = inl (comment a)
    item_or e deep (instruction a) = inl (instruction a)
    item_or e deep (child a) = as_item (element_or e deep a)

    element_or : {d : ℕ} {outer : List Bound} {bs after : List ℕ} {p : Piece} (e : ℕ) → ((d ≡ e → ⊥) → P too_deep) → ElementAt others total outer d bs p after
        → ElementAt false total outer e bs p after ⊎ Stop P (ElementRefuses total outer e bs)
    element_or zero deep (empty_tag a) = inr (too_low a (deep (λ k. absurd (omega (arith, k)))))
    element_or zero deep (with_content a m n c) = inr (too_low a (deep (λ k. absurd (omega (arith, k)))))
    element_or (suc e) deep (empty_tag a) = empty_or (tag_or a)
    element_or (suc e) deep (with_content a m n c) = content_within (tag_or a) (content_or e (λ other. deep (λ k. other (omega (arith, k)))) m) n c

reads_or : (P : Cause → Type 0) {others : Bool} {d : ℕ} {bytes : List ℕ} {h : RawTrees} → (IsTrue others → (why : Why) → P (unsupported why)) → ((d ≡ deepest_element → ⊥) → P too_deep)
    → Reads others d bytes h → XmlText bytes h ⊎ ((c : Cause) × (place : ℕ) × P c × XmlTextRefuses bytes c place)
reads_or P {others} {d} {bytes} {h} unread deep a = by (element_or P unread deepest_element deep a.element)
  where
    by : ElementAt false (length bytes) first_scope deepest_element a.root a.piece a.past_root ⊎ Stop P (ElementRefuses (length bytes) first_scope deepest_element a.root)
        → XmlText bytes h ⊎ ((c : Cause) × (place : ℕ) × P c × XmlTextRefuses bytes c place)
    by (inl e) = inl (record {
      past_declaration = a.past_declaration;
      past_misc = a.past_misc;
      root = a.root;
      past_root = a.past_root;
      piece = a.piece;
      characters = a.characters;
      declaration = a.declaration;
      misc = a.misc;
      doctype = a.doctype;
      element = e;
      end = a.end;
      is_tree = a.is_tree;
    })
    by (inr x) = inr (
      x.cause,
      place_of (length bytes) x.at,
      x.allowed,
      record { front = bytes; at = x.at; is_front = whole_front a.characters; refuses = f.element a.declaration a.misc a.doctype x.refuses; stands = refl },
    )

-- a text that isn't read and isn't refused isn't read however deep elements stand, and whatever entities are read
pub not_read : {bytes : List ℕ} → ((h : RawTrees) → XmlText bytes h → ⊥) → IsNotRefused bytes → (d : ℕ) (h : RawTrees) → Reads true d bytes h → ⊥
not_read {bytes} no_tree nowhere d h a = by (reads_or (λ c. Unit {0}) (λ o why. tt) (λ n. tt) a)
  where
    by : XmlText bytes h ⊎ ((c : Cause) × (place : ℕ) × Unit {0} × XmlTextRefuses bytes c place) → ⊥
    by (inl x) = no_tree h x
    by (inr (c, place, t, x)) = nowhere c place x

-- one in which a construct stands that isn't read isn't read however deep elements stand
pub not_read_deeper : {bytes : List ℕ} {why : Why} {place : ℕ} → XmlTextRefuses bytes (unsupported why) place → (d : ℕ) (h : RawTrees) → Reads false d bytes h → ⊥
not_read_deeper {bytes} {why} {place} stops d h a = by (reads_or (λ c. c ≡ too_deep) (λ o reason. absurd (true≢false (sym o))) (λ n. refl) a)
  where
    by : XmlText bytes h ⊎ ((c : Cause) × (p : ℕ) × (c ≡ too_deep) × XmlTextRefuses bytes c p) → ⊥
    by (inl x) = no_tree_where_refused bytes (unsupported why) place h stops x
    by (inr (c, p, same, x)) = absurd (let e : unsupported why ≡ too_deep = (one_refusal bytes (unsupported why) c place p stops x).0 ∙ same in cc)

-- one in which an element stands too deep isn't read whatever entities are read
pub not_read_with_others : {bytes : List ℕ} {place : ℕ} → XmlTextRefuses bytes too_deep place → (h : RawTrees) → Reads true deepest_element bytes h → ⊥
not_read_with_others {bytes} {place} stops h a = by (reads_or (λ c. c ≡ too_deep → ⊥) (λ o why e. absurd (cc)) (λ n. absurd (n refl)) a)
  where
    by : XmlText bytes h ⊎ ((c : Cause) × (p : ℕ) × (c ≡ too_deep → ⊥) × XmlTextRefuses bytes c p) → ⊥
    by (inl x) = no_tree_where_refused bytes too_deep place h stops x
    by (inr (c, p, other, x)) = other (sym (one_refusal bytes too_deep c place p stops x).0)

pub causes_of_whole : HasCausesOfWhole
causes_of_whole bytes (faults.Malformed place) (low, no_tree, nowhere, within) = (low, not_read no_tree nowhere, nowhere)
causes_of_whole bytes (faults.Unsupported place why) (stops, within) = (stops, not_read_deeper stops)
causes_of_whole bytes (faults.TooDeep place) (stops, within) = (stops, not_read_with_others stops)
causes_of_whole bytes faults.TagTooLong passes = tt
causes_of_whole bytes faults.NamesTooLong passes = tt
