-- A text has one raw tree.
use Rattle.std.proofs.Common.{◌≡◌, inl, inr, ℕ, ◌<◌, Bool, true, false, cond, not, ◌||◌, ◌==◌, List, [], ◌∷◌, ◌++◌, refl, ap, ◌∙◌, sym, subst, length, arith, Option, None, Some, append_assoc, length-append}
use Rattle.std.specs.Prelude.{codes, encode_utf8, encode_utf8_all}
use Rattle.std.proofs.lemmas.Bool.{eqb-true, true≢false}
use Rattle.std.proofs.lemmas.List.{append_cancel_left}
use Rattle.std.proofs.lemmas.Str.{length-encode, len_utf8_bounds}
use Rattle.tc_model.specs.Names.{ExpandedName, is_ncname_start}
use Rattle.tc_model.specs.RawTrees.{Attribute, Bound, RawTrees, none}
use Rattle.tc_model.specs.XmlTextBytes.{after_white, EqualsAt, line_ends, place_of}
use Rattle.tc_model.specs.XmlTextNames.{NcNameAt, QualifiedName, QNameAt, unprefixed, prefixed}
use Rattle.tc_model.specs.XmlTextReferences.{ReferenceAt, CharacterDataAt, CdataAt, is_plain, QuotedAt}
use Rattle.tc_model.specs.XmlTextMisc.{CommentAt, InstructionAt, MiscAt, DoctypeAt}
use Rattle.tc_model.specs.XmlTextScopes.{WrittenAttribute, is_empty, uri_of, scope_within, Expands, no_more, declaration, plain, prefixed as with_prefix, ElementName, bound, unbound, first_scope}
use Rattle.tc_model.specs.XmlTextContent as c
use Rattle.tc_model.specs.XmlTextContent.{Piece, nothing, characters, whole, piece_before, EndsTag, AttributesAt, attribute, TagAt, ContentAt, at_end_tag, item, ItemAt, character_data, reference, cdata, comment, instruction, child, ElementAt, empty_tag, with_content}
use Rattle.tc_model.specs.XmlText.{Reads}
use Rattle.tc_model.proofs.XmlTextPhrases.{same_first, same_others, equals_unique, no_qname, qname_unique, reference_unique, reference_first, run_first, quoted_unique, character_data_unique, cdata_unique, comment_unique, instruction_unique, declaration_unique, misc_unique, doctype_unique}

pub same_some : {X : Type 0} {c d : X} {o : Option X} → o ≡ Some c → o ≡ Some d → c ≡ d
same_some p q = cc

pub some_none : {X : Type 0} {c : X} {o : Option X} → o ≡ Some c → o ≡ None → ⊥
some_none p q = cc

-- what an empty prefix is
pub empty_is : (p : List ℕ) → is_empty p ≡ true → p ≡ []
empty_is [] e = refl
empty_is (b ∷ p) e = absurd (true≢false (sym e))

pub element_name_unique : {scope : List Bound} {name : QualifiedName} {m n : ExpandedName} → ElementName scope name m → ElementName scope name n → m ≡ n
element_name_unique {name = name} (bound e) (bound f) = let full : List ℕ → ExpandedName = λ u. record { uri = u; local = name.local } in ap full (same_some e f)
element_name_unique {scope} {name} (bound e) (unbound h f) = absurd (some_none (ap (uri_of scope) (sym (empty_is name.prefix h)) ∙ e) f)
element_name_unique {scope} {name} (unbound h f) (bound e) = absurd (some_none (ap (uri_of scope) (sym (empty_is name.prefix h)) ∙ e) f)
element_name_unique (unbound h f) (unbound k g) = refl

pub expands_unique : {scope : List Bound} {written : List WrittenAttribute} {m n : List Attribute} → Expands scope written m → Expands scope written n → m ≡ n
expands_unique no_more no_more = refl
expands_unique (declaration h k e) (declaration h' k' f) = expands_unique e f
expands_unique (declaration h k e) (plain h' k' f) = absurd (true≢false (sym h ∙ h'))
expands_unique (declaration h k e) (with_prefix h' k' u f) = absurd (true≢false (sym h ∙ h'))
expands_unique (plain h k e) (declaration h' k' f) = absurd (true≢false (sym h' ∙ h))
expands_unique (plain {a = a} h k e) (plain h' k' f) =
    let one : Attribute = record { name = record { uri = []; local = a.name.local }; value = a.value; place = a.place } in ap (λ w. one ∷ w) (expands_unique e f)
expands_unique (plain h k e) (with_prefix h' k' u f) = absurd (true≢false (sym k ∙ k'))
expands_unique (with_prefix h k u e) (declaration h' k' f) = absurd (true≢false (sym h' ∙ h))
expands_unique (with_prefix h k u e) (plain h' k' f) = absurd (true≢false (sym k' ∙ k))
expands_unique (with_prefix {a = a} {attributes = m} h k u e) (with_prefix {uri = v} h' k' u' f) =
    let one : List ℕ → Attribute = λ w. record { name = record { uri = w; local = a.name.local }; value = a.value; place = a.place } in
    ap (λ w. one w ∷ m) (same_some u u') ∙ ap (λ w. one v ∷ w) (expands_unique e f)

pub no_tag_end : {bs r : List ℕ} {n : QualifiedName} → EndsTag bs → QNameAt bs n r → ⊥
no_tag_end {r = r} {n = n} (inl (s, e)) a = no_qname 0x3E (omega arith) refl (subst (λ w. QNameAt w n r) e a)
no_tag_end {r = r} {n = n} (inr (s, e)) a = no_qname 0x2F (omega arith) refl (subst (λ w. QNameAt w n r) e a)

pub attributes_unique : {o : Bool} {total : ℕ} {bs r s : List ℕ} {m n : List WrittenAttribute} → AttributesAt o total bs m r → AttributesAt o total bs n s → (m ≡ n) × (r ≡ s)
attributes_unique (c.no_more h) (c.no_more k) = (refl, refl)
attributes_unique (c.no_more h) (attribute w a e v l) = absurd (no_tag_end h a)
attributes_unique (attribute w a e v l) (c.no_more h) = absurd (no_tag_end h a)
attributes_unique {o} {total} {bs} {s = s} (attribute {value = value} {name = name} {attributes = m} w a e v l) (attribute {start = start'} {value = value'} {rest = rest'} {name = name'} {attributes = n} w' a' e' v' l') =
    let names = qname_unique a a' in
    let starts = equals_unique e (subst (λ z. EqualsAt z start') (sym names.1) e') in
    let values = quoted_unique v (subst (λ z. QuotedAt o z value' rest') (sym starts) v') in
    let lists = attributes_unique l (subst (λ z. AttributesAt o total z n s) (sym values.1) l') in
    let one : QualifiedName → List ℕ → WrittenAttribute = λ q u. record { name = q; value = u; place = place_of total (after_white bs) } in
    (ap (λ q. one q value ∷ m) names.0 ∙ (ap (λ u. one name' u ∷ m) values.0 ∙ ap (λ z. one name' value' ∷ z) lists.0), lists.1)

-- what two readings of a tag agree on
pub record SameTag (written written' : QualifiedName) (scope scope' : List Bound) (name name' : ExpandedName) (expanded expanded' : List Attribute) (r s : List ℕ) : Type 0 where
  pub same_written : written ≡ written'
  pub same_scope : scope ≡ scope'
  pub same_name : name ≡ name'
  pub same_expanded : expanded ≡ expanded'
  pub same_after : r ≡ s

pub tag_unique : {o : Bool} {total : ℕ} {outer : List Bound} {bs r s : List ℕ} {w w' : QualifiedName} {scope scope' : List Bound} {n n' : ExpandedName} {e e' : List Attribute}
    → TagAt o total outer bs w scope n e r → TagAt o total outer bs w' scope' n' e' s → SameTag w w' scope scope' n n' e e' r s
tag_unique {o} {total} {outer} {bs} {r} {s} {w} {w'} {scope} {scope'} {n} {n'} {e} {e'} a b =
    let names = qname_unique a.names (subst (λ z. QNameAt z w' b.past_name) (same_others (sym b.opens ∙ a.opens)) b.names) in
    let lists = attributes_unique a.lists (subst (λ z. AttributesAt o total z b.attributes s) (sym names.1) b.lists) in
    let scopes : scope ≡ scope' = a.means.scopes ∙ (ap (scope_within outer) lists.0 ∙ sym b.means.scopes) in
    record {
      same_written = names.0;
      same_scope = scopes;
      same_name = element_name_unique a.means.names (subst (λ z. ElementName z w n') (sym scopes) (subst (λ z. ElementName scope' z n') (sym names.0) b.means.names));
      same_expanded = expands_unique a.means.expands (subst (λ z. Expands z a.attributes e') (sym scopes) (subst (λ z. Expands scope' z e') (sym lists.0) b.means.expands));
      same_after = lists.1;
    }

-- which item the first bytes begin
unfoldable pub bang : List ℕ → ℕ
bang [] = 6
bang (b ∷ bs) = cond (b == 0x5B) 4 (cond (b == 0x2D) 5 6)

unfoldable pub markup : List ℕ → ℕ
markup [] = 6
markup (b ∷ bs) = cond (b == 0x3F) 2 (cond (b == 0x21) (bang bs) 3)

unfoldable pub kind : List ℕ → ℕ
kind [] = 6
kind (b ∷ bs) = cond (b == 0x26) 1 (cond (b == 0x3C) (markup bs) 0)

pub character_data_kind : {bs n r : List ℕ} → CharacterDataAt bs n r → kind bs ≡ 0
unfolding kind
character_data_kind {bs} {n} {r} a =
    let (b, rest, is, h) = run_first is_plain bs n r a.plain in
    ap kind is ∙ by (b == 0x3C) (b == 0x26) rest h
  where
    by : (x y : Bool) (rest : List ℕ) → not (x || y) ≡ true → cond y 1 (cond x (markup rest) 0) ≡ 0
    by true true rest h = absurd (true≢false (sym h))
    by true false rest h = absurd (true≢false (sym h))
    by false true rest h = absurd (true≢false (sym h))
    by false false rest h = refl

pub reference_kind : {o : Bool} {bs n r : List ℕ} → ReferenceAt o bs n r → kind bs ≡ 1
unfolding kind
reference_kind a = let (rest, is) = reference_first a in ap kind is

pub cdata_kind : {bs n r : List ℕ} → CdataAt bs n r → kind bs ≡ 4
unfolding kind markup bang
cdata_kind a = ap kind a.opens

pub comment_kind : {bs r : List ℕ} → CommentAt bs r → kind bs ≡ 5
unfolding kind markup bang
comment_kind a = ap kind a.opens

pub instruction_kind : {bs r : List ℕ} → InstructionAt bs r → kind bs ≡ 2
unfolding kind markup
instruction_kind a = ap kind a.opens

pub no_empty_name : {n r : List ℕ} → NcNameAt [] n r → ⊥
no_empty_name {n} {r} a =
    let (c, cs, is_n, c_start, cs_chars) = a.lawful in
    let e : [] ≡ encode_utf8 c ++ (encode_utf8_all cs ++ r) = a.parts ∙ (ap (λ w. w ++ r) (sym is_n) ∙ append_assoc (encode_utf8 c) (encode_utf8_all cs) r) in
    omega (arith, ap length e, length-append (encode_utf8 c) (encode_utf8_all cs ++ r), length-encode c, len_utf8_bounds c)

pub no_empty_qname : {r : List ℕ} {n : QualifiedName} → QNameAt [] n r → ⊥
no_empty_qname (unprefixed a ends) = no_empty_name a
no_empty_qname (prefixed a rest) = no_empty_name a

pub name_kind : (bs : List ℕ) {r : List ℕ} {n : QualifiedName} → QNameAt bs n r → markup bs ≡ 3
unfolding markup
name_kind [] a = absurd (no_empty_qname a)
name_kind (b ∷ bs) {r} {n} a = by (b == 0x3F) (b == 0x21) refl refl
  where
    named : (k : ℕ) → (b == k) ≡ true → k < 128 → is_ncname_start k ≡ false → ⊥
    named k e small is = no_qname k small is (subst (λ w. QNameAt (w ∷ bs) n r) (eqb-true b k e) a)

    by : (x y : Bool) → (b == 0x3F) ≡ x → (b == 0x21) ≡ y → cond x 2 (cond y (bang bs) 3) ≡ 3
    by true y e f = absurd (named 0x3F e (omega arith) refl)
    by false true e f = absurd (named 0x21 f (omega arith) refl)
    by false false e f = refl

pub tag_kind : {o : Bool} {total : ℕ} {outer : List Bound} {bs r : List ℕ} {w : QualifiedName} {scope : List Bound} {n : ExpandedName} {e : List Attribute}
    → TagAt o total outer bs w scope n e r → kind bs ≡ 3
unfolding kind
tag_kind a = ap kind a.opens ∙ name_kind a.rest a.names

pub child_kind : {o : Bool} {total d : ℕ} {outer : List Bound} {bs r : List ℕ} {p : Piece} → ElementAt o total outer d bs p r → kind bs ≡ 3
child_kind (empty_tag a) = tag_kind a
child_kind (with_content a m b e) = tag_kind a

-- no item begins as an end tag does
pub no_item_at_end_tag : {o : Bool} {total d : ℕ} {outer : List Bound} {bs r : List ℕ} {p : Piece} → ItemAt o total outer d (0x3C ∷ 0x2F ∷ bs) p r → ⊥
unfolding kind markup
no_item_at_end_tag (character_data a) = omega (arith, character_data_kind a)
no_item_at_end_tag (reference a) = omega (arith, reference_kind a)
no_item_at_end_tag (cdata a) = omega (arith, cdata_kind a)
no_item_at_end_tag (comment a) = omega (arith, comment_kind a)
no_item_at_end_tag (instruction a) = omega (arith, instruction_kind a)
no_item_at_end_tag {bs = bs} (child a) = tagless a
  where
    no_tag : {o : Bool} {total : ℕ} {outer scope : List Bound} {r : List ℕ} {w : QualifiedName} {n : ExpandedName} {e : List Attribute} → TagAt o total outer (0x3C ∷ 0x2F ∷ bs) w scope n e r → ⊥
    no_tag {w = w} a = no_qname 0x2F (omega arith) refl (subst (λ z. QNameAt z w a.past_name) (sym (same_others a.opens)) a.names)

    tagless : {o : Bool} {total d : ℕ} {outer : List Bound} {r : List ℕ} {p : Piece} → ElementAt o total outer d (0x3C ∷ 0x2F ∷ bs) p r → ⊥
    tagless (empty_tag a) = no_tag a
    tagless (with_content a m b e) = no_tag a

pub same_whole : {n n' : ExpandedName} {e e' : List Attribute} {s s' : List Bound} {h k : RawTrees} (p : ℕ) → n ≡ n' → e ≡ e' → s ≡ s' → h ≡ k → whole n e s p h ≡ whole n' e' s' p k
same_whole p a b c d = cc

mutual
  pub content_unique : {o : Bool} {total d d' : ℕ} {outer : List Bound} {bs r s : List ℕ} {h k : RawTrees}
      → ContentAt o total outer d bs h r → ContentAt o total outer d' bs k s → (h ≡ k) × (r ≡ s)
  content_unique at_end_tag at_end_tag = (refl, refl)
  content_unique at_end_tag (item a m) = absurd (no_item_at_end_tag a)
  content_unique (item a m) at_end_tag = absurd (no_item_at_end_tag a)
  content_unique {o} {total} {d} {d'} {outer} {s = s} (item {piece = p} {trees = h} a m) (item {piece = q} {trees = k} b n) =
      let both = item_unique a b in
      let rest = content_unique m (subst (λ z. ContentAt o total outer d' z k s) (sym both.1) n) in
      (ap (λ z. piece_before z h) both.0 ∙ ap (piece_before q) rest.0, rest.1)

  pub item_unique : {o : Bool} {total d d' : ℕ} {outer : List Bound} {bs r s : List ℕ} {p q : Piece}
      → ItemAt o total outer d bs p r → ItemAt o total outer d' bs q s → (p ≡ q) × (r ≡ s)
  item_unique {total = total} {bs = bs} (character_data a) (character_data b) =
      let both = character_data_unique a b in (ap (λ w. characters (line_ends w) (place_of total bs)) both.0, both.1)
  item_unique {total = total} {bs = bs} (reference a) (reference b) =
      let both = reference_unique a b in (ap (λ w. characters w (place_of total bs)) both.0, both.1)
  item_unique {total = total} {bs = bs} (cdata a) (cdata b) =
      let both = cdata_unique a b in (ap (λ w. characters (line_ends w) (place_of total bs)) both.0, both.1)
  item_unique (comment a) (comment b) = (refl, comment_unique a b)
  item_unique (instruction a) (instruction b) = (refl, instruction_unique a b)
  item_unique (child a) (child b) = element_unique a b
  item_unique (character_data a) (reference b) = absurd (omega (arith, character_data_kind a, reference_kind b))
  item_unique (character_data a) (cdata b) = absurd (omega (arith, character_data_kind a, cdata_kind b))
  item_unique (character_data a) (comment b) = absurd (omega (arith, character_data_kind a, comment_kind b))
  item_unique (character_data a) (instruction b) = absurd (omega (arith, character_data_kind a, instruction_kind b))
  item_unique (character_data a) (child b) = absurd (omega (arith, character_data_kind a, child_kind b))
  item_unique (reference a) (character_data b) = absurd (omega (arith, reference_kind a, character_data_kind b))
  item_unique (reference a) (cdata b) = absurd (omega (arith, reference_kind a, cdata_kind b))
  item_unique (reference a) (comment b) = absurd (omega (arith, reference_kind a, comment_kind b))
  item_unique (reference a) (instruction b) = absurd (omega (arith, reference_kind a, instruction_kind b))
  item_unique (reference a) (child b) = absurd (omega (arith, reference_kind a, child_kind b))
  item_unique (cdata a) (character_data b) = absurd (omega (arith, cdata_kind a, character_data_kind b))
  item_unique (cdata a) (reference b) = absurd (omega (arith, cdata_kind a, reference_kind b))
  item_unique (cdata a) (comment b) = absurd (omega (arith, cdata_kind a, comment_kind b))
  item_unique (cdata a) (instruction b) = absurd (omega (arith, cdata_kind a, instruction_kind b))
  item_unique (cdata a) (child b) = absurd (omega (arith, cdata_kind a, child_kind b))
  item_unique (comment a) (character_data b) = absurd (omega (arith, comment_kind a, character_data_kind b))
  item_unique (comment a) (reference b) = absurd (omega (arith, comment_kind a, reference_kind b))
  item_unique (comment a) (cdata b) = absurd (omega (arith, comment_kind a, cdata_kind b))
  item_unique (comment a) (instruction b) = absurd (omega (arith, comment_kind a, instruction_kind b))
  item_unique (comment a) (child b) = absurd (omega (arith, comment_kind a, child_kind b))
  item_unique (instruction a) (character_data b) = absurd (omega (arith, instruction_kind a, character_data_kind b))
  item_unique (instruction a) (reference b) = absurd (omega (arith, instruction_kind a, reference_kind b))
  item_unique (instruction a) (cdata b) = absurd (omega (arith, instruction_kind a, cdata_kind b))
  item_unique (instruction a) (comment b) = absurd (omega (arith, instruction_kind a, comment_kind b))
  item_unique (instruction a) (child b) = absurd (omega (arith, instruction_kind a, child_kind b))
  item_unique (child a) (character_data b) = absurd (omega (arith, child_kind a, character_data_kind b))
  item_unique (child a) (reference b) = absurd (omega (arith, child_kind a, reference_kind b))
  item_unique (child a) (cdata b) = absurd (omega (arith, child_kind a, cdata_kind b))
  item_unique (child a) (comment b) = absurd (omega (arith, child_kind a, comment_kind b))
  item_unique (child a) (instruction b) = absurd (omega (arith, child_kind a, instruction_kind b))

  pub element_unique : {o : Bool} {total d d' : ℕ} {outer : List Bound} {bs r s : List ℕ} {p q : Piece}
      → ElementAt o total outer d bs p r → ElementAt o total outer d' bs q s → (p ≡ q) × (r ≡ s)
  element_unique {total = total} {bs = bs} {r = r} {s = s} (empty_tag a) (empty_tag b) =
      let same = tag_unique a b in
      (same_whole (place_of total bs) same.same_name same.same_expanded same.same_scope refl, append_cancel_left (codes "/>") r s same.same_after)
  element_unique (empty_tag a) (with_content b m n e) = absurd (omega (arith, same_first (tag_unique a b).same_after))
  element_unique (with_content b m n e) (empty_tag a) = absurd (omega (arith, same_first (tag_unique a b).same_after))
  element_unique {o} {total} {bs = bs} {s = s} (with_content {scope = scope} a m n e) (with_content {scope = scope'} {deepest = d'} {inside = inside'} {end = end'} {past_name = past'} {written = w'} {kids = k} b m' n' e') =
      let same = tag_unique a b in
      let moved = subst (λ z. ContentAt o total z d' inside' k (0x3C ∷ 0x2F ∷ end')) (sym same.same_scope) m' in
      let inner = content_unique m (subst (λ z. ContentAt o total scope d' z k (0x3C ∷ 0x2F ∷ end')) (sym (same_others same.same_after)) moved) in
      let ends = qname_unique n (subst (λ z. QNameAt z w' past') (sym (same_others (same_others inner.1))) n') in
      (same_whole (place_of total bs) same.same_name same.same_expanded same.same_scope inner.0, same_others (sym e ∙ (ap after_white ends.1 ∙ e')))

-- a text has at most one raw tree, however deep its elements stand
pub reads_unique : {o : Bool} {d d' : ℕ} {bytes : List ℕ} {h k : RawTrees} → Reads o d bytes h → Reads o d' bytes k → h ≡ k
reads_unique {o} {d} {d'} {bytes} a b =
    let start = declaration_unique a.declaration b.declaration in
    let misc = misc_unique a.misc (subst (λ z. MiscAt z b.past_misc) (sym start) b.misc) in
    let root = doctype_unique a.doctype (subst (λ z. DoctypeAt z b.root) (sym misc) b.doctype) in
    let pieces = element_unique a.element (subst (λ z. ElementAt o (length bytes) first_scope d' z b.piece b.past_root) (sym root) b.element) in
    a.is_tree ∙ (ap (λ z. piece_before z none) pieces.0 ∙ sym b.is_tree)
