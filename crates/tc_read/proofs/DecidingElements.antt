-- Content and elements at the front of any bytes: each is read, or refused, or neither.
use Rattle.std.proofs.Common.{◌≡◌, ◌⊎◌, inl, inr, ℕ, zero, suc, ◌<◌, ◌≤◌, false, List, [], ◌∷◌, ◌++◌, refl, ap, ◌∙◌, sym, subst, length, arith, codes, length-append}
use Rattle.tc_base.specs.declared.reasons.Why.TheVariants.{EntityReference}
use Rattle.tc_model.specs.Names.{ExpandedName}
use Rattle.tc_model.specs.RawTrees.{Attribute, Bound, RawTrees, none}
use Rattle.tc_model.specs.XmlTextBytes.{place_of, after_white, length_before, Lacks, UpTo, line_ends}
use Rattle.tc_model.specs.XmlTextNames.{QualifiedName, QNameAt}
use Rattle.tc_model.specs.XmlTextMisc.{CommentAt, InstructionAt}
use Rattle.tc_model.specs.XmlTextReferences.{is_plain, CharacterDataAt, CdataAt}
use Rattle.tc_model.specs.XmlTextScopes.{WrittenAttribute}
use Rattle.tc_model.specs.XmlTextContent.{Piece, nothing, characters, whole, piece_before, AttributesAt, no_more, attribute, TagAt, ContentAt, at_end_tag, item, ItemAt, character_data, reference, cdata, comment, instruction, child, ElementAt, empty_tag, with_content}
use Rattle.tc_model.specs.XmlTextRefusals as f
use Rattle.tc_model.specs.XmlTextRefusals.{Cause, unsupported, too_deep, OtherEntityAt, ContentRefuses, past_item, ElementRefuses, depth, tag, inside}
use Rattle.tc_model.proofs.XmlTextPhrases.{qname_unique, run_unique, same_others, same_first}
use Rattle.tc_model.proofs.XmlTextUnique.{tag_unique, content_unique, item_unique}
use Rattle.tc_model.proofs.XmlTextRefused.{tag_no_tag, content_no_content, element_no_item, other_no_item}
use Rattle.tc_xml.proofs.MiscLaws.{up_to_shorter}
use Rattle.tc_sheet.proofs.DecidingBytes.{Decided, number_is, bytes_are, begins, begins_with, same_after, up_to}
use Rattle.tc_sheet.proofs.DecidingNames.{by_length, qname_here}
use Rattle.tc_read.proofs.DecidingMisc.{comment_here, instruction_here}
use Rattle.tc_read.proofs.DecidingTags.{Known, run_here, run_shorter, ReferenceHere, reference_here, reference_shorter, quoted_shorter, qname_left}
use Rattle.tc_read.proofs.DecidingStartTags.{white_left, equals_left, TagRead, TagStops, tag_here}

-- character data, and a CDATA section
character_data_here : (bs : List ℕ) → ((run : List ℕ) × ((after : List ℕ) × CharacterDataAt bs run after)) ⊎ ((run after : List ℕ) → CharacterDataAt bs run after → ⊥)
character_data_here bs = elim (run_here is_plain bs) [
  | inr h ↦ inr (λ run after a. h run after a.plain)
  | inl (run, (after, a)) ↦ elim (number_is (length_before (codes "]]>") run) (length run)) [
    | inl l ↦ inl (run, (after, record { plain = a; lacks_end = l }))
    | inr h ↦ inr (λ other z b. h (subst (λ w. Lacks (codes "]]>") w) (run_unique b.plain a).0 b.lacks_end))
  ]
]

cdata_here : (bs : List ℕ) → ((within : List ℕ) × ((after : List ℕ) × CdataAt bs within after)) ⊎ ((within after : List ℕ) → CdataAt bs within after → ⊥)
cdata_here bs = elim (begins_with (codes "<![CDATA[") bs) [
  | inr h ↦ inr (λ within after a. h a.rest a.opens)
  | inl (rest, e) ↦ elim (up_to 0x5D (0x5D ∷ 0x3E ∷ []) rest) [
    | inl (within, (after, u)) ↦ inl (within, (after, record { rest = rest; opens = e; closes = u }))
    | inr h ↦ inr (λ within after a. h within after (subst (λ z. UpTo (codes "]]>") z within after) (same_after (codes "<![CDATA[") bs a.rest rest a.opens e) a.closes))
  ]
]

-- what is read is passed
attributes_left : {total : ℕ} {bs after : List ℕ} {ws : List WrittenAttribute} → AttributesAt false total bs ws after → length after ≤ length bs
attributes_left {bs = bs} (no_more e) = white_left bs
attributes_left {bs = bs} (attribute w n e q l) =
    let a = white_left bs in let b = qname_left n in let c = equals_left e in let d = quoted_shorter q in let g = attributes_left l in omega (arith, a, b, c, d, g)

tag_shorter : {total : ℕ} {outer scope : List Bound} {bs after : List ℕ} {w : QualifiedName} {n : ExpandedName} {e : List Attribute} → TagAt false total outer bs w scope n e after → length after < length bs
tag_shorter a = let b = qname_left a.names in let c = attributes_left a.lists in omega (arith, ap length a.opens, b, c)

comment_shorter : {bs after : List ℕ} → CommentAt bs after → length after < length bs
comment_shorter {after = after} a = omega (arith, ap length a.opens, up_to_shorter (codes "--") a.rest a.inside (0x3E ∷ after) a.closes)

instruction_shorter : {bs after : List ℕ} → InstructionAt bs after → length after < length bs
instruction_shorter {after = after} a = omega (arith, ap length a.opens, ap length a.names.parts, length-append a.target a.behind, up_to_shorter (codes "?>") a.behind a.inside after a.closes)

cdata_shorter : {bs within after : List ℕ} → CdataAt bs within after → length after < length bs
cdata_shorter {within = within} {after = after} a = omega (arith, ap length a.opens, up_to_shorter (codes "]]>") a.rest within after a.closes)

mutual
  content_left : {total d : ℕ} {outer : List Bound} {bs after : List ℕ} {h : RawTrees} → ContentAt false total outer d bs h after → length after ≤ length bs
  content_left at_end_tag = omega arith
  content_left (item a m) = let l = item_shorter a in let k = content_left m in omega (arith, l, k)

  item_shorter : {total d : ℕ} {outer : List Bound} {bs after : List ℕ} {p : Piece} → ItemAt false total outer d bs p after → length after < length bs
  item_shorter (character_data a) = run_shorter a.plain
  item_shorter (reference a) = reference_shorter a
  item_shorter (cdata a) = cdata_shorter a
  item_shorter (comment a) = comment_shorter a
  item_shorter (instruction a) = instruction_shorter a
  item_shorter (child a) = element_shorter a

  element_shorter : {total d : ℕ} {outer : List Bound} {bs after : List ℕ} {p : Piece} → ElementAt false total outer d bs p after → length after < length bs
  element_shorter (empty_tag a) = let l = tag_shorter a in omega (arith, l)
  element_shorter (with_content {past_name = past} a m n e) =
      let i = tag_shorter a in let j = content_left m in let k = qname_left n in let l = white_left past in omega (arith, i, j, k, l, ap length e)

content_ends : {total d : ℕ} {outer : List Bound} {bs after : List ℕ} {h : RawTrees} → ContentAt false total outer d bs h after → (end : List ℕ) × (after ≡ 0x3C ∷ 0x2F ∷ end)
content_ends (at_end_tag {r = r}) = (r, refl)
content_ends (item a m) = content_ends m

abbrev pub ElementHere : ℕ → List Bound → ℕ → List ℕ → Type 0
ElementHere total outer d bs = (p : Piece) × ((after : List ℕ) × ElementAt false total outer d bs p after)

abbrev pub ElementStops : ℕ → List Bound → ℕ → List ℕ → Type 0
ElementStops total outer d bs = (c : Cause) × ((at : List ℕ) × ElementRefuses total outer d bs c at)

abbrev ContentHere : ℕ → List Bound → ℕ → List ℕ → Type 0
ContentHere total outer d bs = (h : RawTrees) × ((after : List ℕ) × ContentAt false total outer d bs h after)

abbrev ContentStops : ℕ → List Bound → ℕ → List ℕ → Type 0
ContentStops total outer d bs = (c : Cause) × ((at : List ℕ) × ContentRefuses total outer d bs c at)

-- no element may stand here
abbrev NoStart : List ℕ → Type 0
NoStart bs = (rest : List ℕ) → bs ≡ 0x3C ∷ rest → (n : QualifiedName) (past : List ℕ) → QNameAt rest n past → ⊥

none_at_bottom : {total : ℕ} {outer : List Bound} (bs : List ℕ) {p : Piece} {after : List ℕ} → ElementAt false total outer 0 bs p after → ⊥
none_at_bottom bs a = elim a [ ]

no_start : {total : ℕ} {outer : List Bound} (bs : List ℕ) (c : Cause) (at : List ℕ) → NoStart bs → ElementRefuses total outer 0 bs c at → ⊥
no_start bs c at h (depth {rest = rest} {past_name = p} {name = n} q) = h rest refl n p q

module _ (total : ℕ) (outer : List Bound) where
  at_bottom : (bs : List ℕ) → Known (ElementHere total outer 0 bs) (ElementStops total outer 0 bs)
  at_bottom bs = elim (begins 0x3C bs) [
    | inr h ↦ inr (inr ((λ x. none_at_bottom bs x.1.1), (λ x. no_start bs x.0 x.1.0 (λ rest e n p q. h rest e) x.1.1)))
    | inl (rest, e) ↦ elim (qname_here rest) [
      | inl (n, (past, q)) ↦ inr (inl (too_deep, (0x3C ∷ rest, subst (λ z. ElementRefuses total outer 0 z too_deep (0x3C ∷ rest)) (sym e) (depth q))))
      | inr h ↦ inr (inr ((λ x. none_at_bottom bs x.1.1), (λ x. no_start bs x.0 x.1.0 (λ z g n p q. h (n, (p, subst (λ y. QNameAt y n p) (same_others (sym g ∙ e)) q))) x.1.1)))
    ]
  ]

  module _ (d : ℕ) (bs : List ℕ) where
    -- no tag
    no_element : (TagRead total outer bs → ⊥) → (p : Piece) (after : List ℕ) → ElementAt false total outer (suc d) bs p after → ⊥
    no_element h p after (empty_tag {scope = s} {written = w} {name = n} {expanded = e} a) = h (record { written = w; scope = s; name = n; expanded = e; after = codes "/>" ++ after; is = a })
    no_element h p after (with_content {scope = s} {inside = i} {written = w} {name = n} {expanded = e} a m q g) = h (record { written = w; scope = s; name = n; expanded = e; after = 0x3E ∷ i; is = a })

    no_refusal : (TagRead total outer bs → ⊥) → (TagStops bs → ⊥) → (c : Cause) (at : List ℕ) → ElementRefuses total outer (suc d) bs c at → ⊥
    no_refusal h k c at (tag {why = why} t) = k (why, (at, t))
    no_refusal h k c at (inside {scope = s} {inside = i} {written = w} {name = n} {expanded = e} a m) = h (record { written = w; scope = s; name = n; expanded = e; after = 0x3E ∷ i; is = a })

    -- a tag that doesn't end
    module _ (x : TagRead total outer bs) (ns : (r : List ℕ) → x.after ≡ codes "/>" ++ r → ⊥) (ng : (r : List ℕ) → x.after ≡ 0x3E ∷ r → ⊥) where
      unended : (p : Piece) (after : List ℕ) → ElementAt false total outer (suc d) bs p after → ⊥
      unended p after (empty_tag a) = let same = tag_unique x.is a in ns after same.same_after
      unended p after (with_content {inside = i} a m q g) = let same = tag_unique x.is a in ng i same.same_after

      unended_refusal : (c : Cause) (at : List ℕ) → ElementRefuses total outer (suc d) bs c at → ⊥
      unended_refusal c at (tag t) = tag_no_tag t x.is
      unended_refusal c at (inside {inside = i} a m) = let same = tag_unique x.is a in ng i same.same_after

    -- an element with content
    module _ (w : QualifiedName) (scope : List Bound) (n : ExpandedName) (es : List Attribute) (i : List ℕ) (a : TagAt false total outer bs w scope n es (0x3E ∷ i)) where
      moved : {w' : QualifiedName} {scope' : List Bound} {n' : ExpandedName} {es' : List Attribute} {j r : List ℕ} {h : RawTrees} → TagAt false total outer bs w' scope' n' es' (0x3E ∷ j) → ContentAt false total scope' d j h r
          → ContentAt false total scope d i h r
      moved {j = j} {r = r} {h = h} b m =
          let same = tag_unique a b in
          subst (λ z. ContentAt false total scope d z h r) (sym (same_others same.same_after)) (subst (λ z. ContentAt false total z d j h r) (sym same.same_scope) m)

      moved_stop : {w' : QualifiedName} {scope' : List Bound} {n' : ExpandedName} {es' : List Attribute} {j at : List ℕ} {c : Cause} → TagAt false total outer bs w' scope' n' es' (0x3E ∷ j) → ContentRefuses total scope' d j c at
          → ContentRefuses total scope d i c at
      moved_stop {j = j} {at = at} {c = c} b m =
          let same = tag_unique a b in
          subst (λ z. ContentRefuses total scope d z c at) (sym (same_others same.same_after)) (subst (λ z. ContentRefuses total z d j c at) (sym same.same_scope) m)

      no_content : (ContentHere total scope d i → ⊥) → (p : Piece) (after : List ℕ) → ElementAt false total outer (suc d) bs p after → ⊥
      no_content h p after (empty_tag b) = omega (arith, same_first (tag_unique a b).same_after)
      no_content h p after (with_content {end = end} {kids = k} b m q g) = h (k, (0x3C ∷ 0x2F ∷ end, moved b m))

      no_content_stop : (ContentStops total scope d i → ⊥) → (c : Cause) (at : List ℕ) → ElementRefuses total outer (suc d) bs c at → ⊥
      no_content_stop h c at (tag t) = tag_no_tag t a
      no_content_stop h c at (inside b m) = h (c, (at, moved_stop b m))

      -- its end tag
      module _ (kids : RawTrees) (end : List ℕ) (m : ContentAt false total scope d i kids (0x3C ∷ 0x2F ∷ end)) where
        its_end : {w' : QualifiedName} {scope' : List Bound} {n' : ExpandedName} {es' : List Attribute} {j end' past : List ℕ} {h : RawTrees} → TagAt false total outer bs w' scope' n' es' (0x3E ∷ j)
            → ContentAt false total scope' d j h (0x3C ∷ 0x2F ∷ end') → QNameAt end' w' past → QNameAt end w past
        its_end {w' = v} {past = past} b k q =
            let same = tag_unique a b in
            subst (λ z. QNameAt end z past) (sym same.same_written) (subst (λ z. QNameAt z v past) (sym (same_others (same_others (content_unique m (moved b k)).1))) q)

        no_end : ((past after : List ℕ) → QNameAt end w past → after_white past ≡ 0x3E ∷ after → ⊥) → (p : Piece) (after : List ℕ) → ElementAt false total outer (suc d) bs p after → ⊥
        no_end h p after (empty_tag b) = omega (arith, same_first (tag_unique a b).same_after)
        no_end h p after (with_content {past_name = past} b k q g) = h past after (its_end b k q) g

        no_end_stop : (c : Cause) (at : List ℕ) → ElementRefuses total outer (suc d) bs c at → ⊥
        no_end_stop c at (tag t) = tag_no_tag t a
        no_end_stop c at (inside b k) = content_no_content (moved_stop b k) m

        unclosed : ((past after : List ℕ) → QNameAt end w past → after_white past ≡ 0x3E ∷ after → ⊥) → Known (ElementHere total outer (suc d) bs) (ElementStops total outer (suc d) bs)
        unclosed h = inr (inr ((λ x. no_end h x.0 x.1.0 x.1.1), (λ x. no_end_stop x.0 x.1.0 x.1.1)))

        same_name : (v : QualifiedName) → Decided (v ≡ w)
        same_name v = elim (bytes_are v.prefix w.prefix) [
          | inr h ↦ inr (λ e. h (ap (λ (z : QualifiedName). z.prefix) e))
          | inl e ↦ elim (bytes_are v.local w.local) [ inl g ↦ inl (λ j. record { prefix = e j; local = g j }) | inr h ↦ inr (λ k. h (ap (λ (z : QualifiedName). z.local) k)) ]
        ]

        closed_here : Known (ElementHere total outer (suc d) bs) (ElementStops total outer (suc d) bs)
        closed_here = elim (qname_here end) [
          | inr h ↦ unclosed (λ past after q g. h (w, (past, q)))
          | inl (v, (past, q)) ↦ elim (same_name v) [
            | inr h ↦ unclosed (λ p after u g. h (qname_unique q u).0)
            | inl e ↦ elim (begins 0x3E (after_white past)) [
              | inl (after, g) ↦ inl (whole n es scope (place_of total bs) kids, (after, with_content a m (subst (λ z. QNameAt end z past) e q) g))
              | inr h ↦ unclosed (λ p after u g. h after (ap after_white (qname_unique q u).1 ∙ g))
            ]
          ]
        ]

      of_content : Known (ContentHere total scope d i) (ContentStops total scope d i) → Known (ElementHere total outer (suc d) bs) (ElementStops total outer (suc d) bs)
      of_content (inl (kids, (after, m))) = let (end, e) = content_ends m in closed_here kids end (subst (λ z. ContentAt false total scope d i kids z) e m)
      of_content (inr (inl (c, (at, k)))) = inr (inl (c, (at, inside a k)))
      of_content (inr (inr h)) = inr (inr ((λ x. no_content h.0 x.0 x.1.0 x.1.1), (λ x. no_content_stop h.1 x.0 x.1.0 x.1.1)))

    of_tag : ((scope : List Bound) (cs : List ℕ) → length cs < length bs → Known (ContentHere total scope d cs) (ContentStops total scope d cs)) → Known (TagRead total outer bs) (TagStops bs)
        → Known (ElementHere total outer (suc d) bs) (ElementStops total outer (suc d) bs)
    of_tag ih (inr (inl (why, (at, t)))) = inr (inl (unsupported why, (at, tag t)))
    of_tag ih (inr (inr h)) = inr (inr ((λ x. no_element h.0 x.0 x.1.0 x.1.1), (λ x. no_refusal h.0 h.1 x.0 x.1.0 x.1.1)))
    of_tag ih (inl x) = elim (begins_with (codes "/>") x.after) [
      | inl (after, e) ↦ inl (whole x.name x.expanded x.scope (place_of total bs) none, (after, empty_tag (subst (λ z. TagAt false total outer bs x.written x.scope x.name x.expanded z) e x.is)))
      | inr ns ↦ elim (begins 0x3E x.after) [
        | inr ng ↦ inr (inr ((λ z. unended x ns ng z.0 z.1.0 z.1.1), (λ z. unended_refusal x ns ng z.0 z.1.0 z.1.1)))
        | inl (i, e) ↦
            let a = subst (λ z. TagAt false total outer bs x.written x.scope x.name x.expanded z) e x.is in
            of_content x.written x.scope x.name x.expanded i a (ih x.scope i (let l = tag_shorter a in omega (arith, l)))
      ]
    ]

-- content, by what is known of shorter bytes
module _ (total d : ℕ) (outer : List Bound) (bs : List ℕ) where
  abbrev ItemHere : Type 0
  ItemHere = (p : Piece) × ((after : List ℕ) × ItemAt false total outer d bs p after)

  abbrev ItemStops : Type 0
  ItemStops = OtherEntityAt bs ⊎ ElementStops total outer d bs

  record NoLeaf : Type 0 where
    no_characters : (run after : List ℕ) → CharacterDataAt bs run after → ⊥
    no_cdata : (within after : List ℕ) → CdataAt bs within after → ⊥
    no_comment : (after : List ℕ) → CommentAt bs after → ⊥
    no_instruction : (after : List ℕ) → InstructionAt bs after → ⊥

  no_item : NoLeaf → (ReferenceHere bs → ⊥) → (ElementHere total outer d bs → ⊥) → (p : Piece) (after : List ℕ) → ItemAt false total outer d bs p after → ⊥
  no_item n h k p after (character_data {run = run} a) = n.no_characters run after a
  no_item n h k p after (reference {s = s} a) = h (s, (after, a))
  no_item n h k p after (cdata {inside = i} a) = n.no_cdata i after a
  no_item n h k p after (comment a) = n.no_comment after a
  no_item n h k p after (instruction a) = n.no_instruction after a
  no_item n h k p after (child a) = k (p, (after, a))

  of_element : NoLeaf → (ReferenceHere bs → ⊥) → (OtherEntityAt bs → ⊥) → Known (ElementHere total outer d bs) (ElementStops total outer d bs) → Known ItemHere ItemStops
  of_element n h g (inl (p, (after, a))) = inl (p, (after, child a))
  of_element n h g (inr (inl k)) = inr (inl (inr k))
  of_element n h g (inr (inr k)) = inr (inr ((λ x. no_item n h k.0 x.0 x.1.0 x.1.1), (λ x. elim x [ inl o ↦ g o | inr y ↦ k.1 y ])))

  leafless : NoLeaf → Known (ReferenceHere bs) (OtherEntityAt bs) → Known (ElementHere total outer d bs) (ElementStops total outer d bs) → Known ItemHere ItemStops
  leafless n (inl (s, (after, a))) k = inl (characters s (place_of total bs), (after, reference a))
  leafless n (inr (inl o)) k = inr (inl (inl o))
  leafless n (inr (inr h)) k = of_element n h.0 h.1 k

  item_here : Known (ElementHere total outer d bs) (ElementStops total outer d bs) → Known ItemHere ItemStops
  item_here k = elim (character_data_here bs) [
    | inl (run, (after, a)) ↦ inl (characters (line_ends run) (place_of total bs), (after, character_data a))
    | inr c ↦ elim (cdata_here bs) [
      | inl (within, (after, a)) ↦ inl (characters (line_ends within) (place_of total bs), (after, cdata a))
      | inr s ↦ elim (comment_here bs) [
        | inl (after, a) ↦ inl (nothing, (after, comment a))
        | inr m ↦ elim (instruction_here bs) [
          | inl (after, a) ↦ inl (nothing, (after, instruction a))
          | inr i ↦ leafless (record { no_characters = c; no_cdata = s; no_comment = m; no_instruction = i }) (reference_here bs) k
        ]
      ]
    ]
  ]

  abbrev NoEndTag : Type 0
  NoEndTag = (r : List ℕ) → bs ≡ 0x3C ∷ 0x2F ∷ r → ⊥

no_content_at : (total d : ℕ) (outer : List Bound) (bs : List ℕ) → NoEndTag total d outer bs → (ItemHere total d outer bs → ⊥) → (h : RawTrees) (after : List ℕ) → ContentAt false total outer d bs h after → ⊥
no_content_at total d outer bs n h trees after (at_end_tag {r = r}) = n r refl
no_content_at total d outer bs n h trees after (item {rest = z} {piece = p} a m) = h (p, (z, a))

no_stop_at : (total d : ℕ) (outer : List Bound) (bs : List ℕ) → (ItemHere total d outer bs → ⊥) → (ItemStops total d outer bs → ⊥) → (c : Cause) (at : List ℕ) → ContentRefuses total outer d bs c at → ⊥
no_stop_at total d outer bs h k c at (f.entity o) = k (inl o)
no_stop_at total d outer bs h k c at (f.child e) = k (inr (c, (at, e)))
no_stop_at total d outer bs h k c at (past_item {rest = z} {piece = p} a m) = h (p, (z, a))

no_later_content : (total d : ℕ) (outer : List Bound) (bs : List ℕ) → NoEndTag total d outer bs → (p : Piece) (rest : List ℕ) → ItemAt false total outer d bs p rest → (ContentHere total outer d rest → ⊥)
    → (h : RawTrees) (after : List ℕ) → ContentAt false total outer d bs h after → ⊥
no_later_content total d outer bs n p rest a h trees after (at_end_tag {r = r}) = n r refl
no_later_content total d outer bs n p rest a h trees after (item {trees = k} b m) = h (k, (after, subst (λ z. ContentAt false total outer d z k after) (item_unique b a).1 m))

no_later_stop : (total d : ℕ) (outer : List Bound) (bs : List ℕ) → (p : Piece) (rest : List ℕ) → ItemAt false total outer d bs p rest → (ContentStops total outer d rest → ⊥)
    → (c : Cause) (at : List ℕ) → ContentRefuses total outer d bs c at → ⊥
no_later_stop total d outer bs p rest a h c at (f.entity o) = other_no_item o a
no_later_stop total d outer bs p rest a h c at (f.child e) = element_no_item e a
no_later_stop total d outer bs p rest a h c at (past_item b m) = h (c, (at, subst (λ z. ContentRefuses total outer d z c at) (item_unique b a).1 m))

module _ (total : ℕ) where
  abbrev Contents : List ℕ → Type 0
  Contents bs = (d : ℕ) (outer : List Bound) → Known (ContentHere total outer d bs) (ContentStops total outer d bs)

  element_by : (bs : List ℕ) → ((cs : List ℕ) → length cs < length bs → Contents cs) → (d : ℕ) (outer : List Bound) → Known (ElementHere total outer d bs) (ElementStops total outer d bs)
  element_by bs ih zero outer = at_bottom total outer bs
  element_by bs ih (suc d) outer = of_tag total outer d bs (λ scope cs l. ih cs l d scope) (tag_here total outer bs)

  later : (d : ℕ) (outer : List Bound) (bs : List ℕ) → NoEndTag total d outer bs → (p : Piece) (rest : List ℕ) → ItemAt false total outer d bs p rest → Known (ContentHere total outer d rest) (ContentStops total outer d rest)
      → Known (ContentHere total outer d bs) (ContentStops total outer d bs)
  later d outer bs n p rest a (inl (h, (after, m))) = inl (piece_before p h, (after, item a m))
  later d outer bs n p rest a (inr (inl (c, (at, k)))) = inr (inl (c, (at, past_item a k)))
  later d outer bs n p rest a (inr (inr h)) = inr (inr ((λ x. no_later_content total d outer bs n p rest a h.0 x.0 x.1.0 x.1.1), (λ x. no_later_stop total d outer bs p rest a h.1 x.0 x.1.0 x.1.1)))

  of_item : (d : ℕ) (outer : List Bound) (bs : List ℕ) → NoEndTag total d outer bs → ((cs : List ℕ) → length cs < length bs → Contents cs) → Known (ItemHere total d outer bs) (ItemStops total d outer bs)
      → Known (ContentHere total outer d bs) (ContentStops total outer d bs)
  of_item d outer bs n ih (inl (p, (rest, a))) = later d outer bs n p rest a (ih rest (item_shorter a) d outer)
  of_item d outer bs n ih (inr (inl (inl o))) = inr (inl (unsupported EntityReference, (bs, f.entity o)))
  of_item d outer bs n ih (inr (inl (inr (c, (at, k))))) = inr (inl (c, (at, f.child k)))
  of_item d outer bs n ih (inr (inr h)) = inr (inr ((λ x. no_content_at total d outer bs n h.0 x.0 x.1.0 x.1.1), (λ x. no_stop_at total d outer bs h.0 h.1 x.0 x.1.0 x.1.1)))

  contents_here : (bs : List ℕ) → Contents bs
  contents_here = by_length Contents step
    where
      step : (bs : List ℕ) → ((cs : List ℕ) → length cs < length bs → Contents cs) → Contents bs
      step bs ih d outer = elim (begins_with (codes "</") bs) [
        | inl (r, e) ↦ inl (none, (0x3C ∷ 0x2F ∷ r, subst (λ z. ContentAt false total outer d z none (0x3C ∷ 0x2F ∷ r)) (sym e) at_end_tag))
        | inr n ↦ of_item d outer bs n ih (item_here total d outer bs (element_by bs ih d outer))
      ]

  pub element_here : (d : ℕ) (outer : List Bound) (bs : List ℕ) → Known (ElementHere total outer d bs) (ElementStops total outer d bs)
  element_here d outer bs = element_by bs (λ cs l. contents_here cs) d outer
