-- Where Malformed is said, reading comes to nothing that is refused.
use Rattle.std.proofs.Common.{◌≡◌, ◌≢◌, ℕ, suc, ◌-◌, true, false, List, ◌∷◌, ◌++◌, refl, ◌∙◌, sym, subst, length, arith, codes, Result, Ok, Err, IfErr}
use Rattle.tc_base.specs.declared.reasons.Why.{Why}
use Rattle.tc_model.specs.Names.{ExpandedName}
use Rattle.tc_model.specs.RawTrees.{Attribute, Bound, RawTrees}
use Rattle.tc_model.specs.XmlText.{after_mark}
use Rattle.tc_model.specs.XmlTextNames.{QualifiedName, QNameAt}
use Rattle.tc_model.specs.XmlTextMisc.{SettingAt, IsReadEncoding, EncodingAt, DeclarationAt, MiscAt, DoctypeFrontAt, DoctypeAt}
use Rattle.tc_model.specs.XmlTextScopes.{first_scope}
use Rattle.tc_model.specs.XmlTextContent.{Piece, TagAt, ContentAt, ItemAt, reference, ElementAt}
use Rattle.tc_model.specs.XmlTextRefusals.{Cause, QuotedRefuses, ValueRefuses, past_run, past_reference, xml_space, AttributesRefuse, space, value, past_attribute, TagRefuses, ContentRefuses, child, past_item, ElementRefuses, depth, tag, inside, DeclarationRefuses, version, encoding, DocumentRefuses, subset, element}
use Rattle.tc_model.specs.XmlTextRefusals as r
use Rattle.tc_model.proofs.XmlTextPhrases.{same_first, same_others, no_qname, setting_unique, declaration_unique, doctype_front_unique, doctype_unique}
use Rattle.tc_model.proofs.XmlTextUnique.{tag_unique}
use Rattle.tc_model.proofs.XmlTextRefused.{Begins, as_reference, tag_no_tag, element_begins, content_no_content, element_no_element, start_same, encoding_no_encoding, declaration_no_declaration, front_same, subset_no_doctype}
use Rattle.tc_xml.specs.declared.faults.Stop.{Stop}
use Rattle.tc_xml.specs.declared.faults.Stop.TheVariants.{Malformed, Unsupported, TooDeep, NoMemory}
use Rattle.tc_xml.specs.Reading.{BodyRefuses, LacksItem}
use Rattle.tc_xml.specs.Refusals.{Refuses, RefusesWithin, OnMalformed}
use Rattle.tc_xml.specs.Tags.{Breaks}
use Rattle.tc_tags.specs.Values as pieces
use Rattle.tc_tags.specs.Values.{PieceAt}
use Rattle.tc_xml.proofs.ContentLaws.{tag_loosened, item_loosened}
use Rattle.tc_tags.proofs.TagLaws.{reference_loosened}

-- from what else is said there

pub of_malformed : (e : Stop) (P Q : Type 0) → (P → Q) → OnMalformed e P → OnMalformed e Q
of_malformed (Malformed left) P Q f h = f h
of_malformed (Unsupported left why) P Q f h = tt
of_malformed (TooDeep left) P Q f h = tt
of_malformed NoMemory P Q f h = tt

pub of_refuses : (e : Stop) (A B Q : Type 0) → (A → Q) → Refuses e A B → OnMalformed e Q
of_refuses (Malformed left) A B Q f h = f h
of_refuses (Unsupported left why) A B Q f h = tt
of_refuses (TooDeep left) A B Q f h = tt
of_refuses NoMemory A B Q f h = tt

pub of_breaks : (e : Stop) (A Q : Type 0) → (A → Q) → Breaks e A → OnMalformed e Q
of_breaks (Malformed left) A Q f h = f h
of_breaks (Unsupported left why) A Q f h = tt
of_breaks (TooDeep left) A Q f h = tt
of_breaks NoMemory A Q f h = tt

pub of_both : (e : Stop) (A B P Q : Type 0) → (A → P → Q) → Refuses e A B → OnMalformed e P → OnMalformed e Q
of_both (Malformed left) A B P Q f g h = f g h
of_both (Unsupported left why) A B P Q f g h = tt
of_both (TooDeep left) A B P Q f g h = tt
of_both NoMemory A B P Q f g h = tt

pub of_both_within : (e : Stop) (A B C P Q : Type 0) → (A → P → Q) → RefusesWithin e A B C → OnMalformed e P → OnMalformed e Q
of_both_within (Malformed left) A B C P Q f g h = f g h
of_both_within (Unsupported left why) A B C P Q f g h = tt
of_both_within (TooDeep left) A B C P Q f g h = tt
of_both_within NoMemory A B C P Q f g h = tt

pub err_both : {X : Type 0} (o : Result X Stop) (P Q R : Stop → Type 0) → ((e : Stop) → P e → Q e → R e) → IfErr o P → IfErr o Q → IfErr o R
err_both (Ok x) P Q R f g h = tt
err_both (Err e) P Q R f g h = f e g h

-- attribute values

pub no_piece_refused : {q : ℕ} {bs : List ℕ} → ((piece rest : List ℕ) → PieceAt true q bs piece rest → ⊥) → (at : List ℕ) → ValueRefuses q bs at → ⊥
no_piece_refused h at (r.entity o) = h _ _ (pieces.reference (as_reference o))
no_piece_refused h at (past_run a k) = h _ _ (pieces.plain a)
no_piece_refused h at (past_reference a k) = h _ _ (pieces.reference (reference_loosened a))

-- tags

pub no_opening_refused : (text : List ℕ) → ((rest : List ℕ) → text ≡ 0x3C ∷ rest → ⊥) → (why : Why) (at : List ℕ) → TagRefuses text why at → ⊥
no_opening_refused text h why at a = h a.rest a.opens

pub no_tag_name_refused : (text start : List ℕ) → text ≡ 0x3C ∷ start → ((n : QualifiedName) (after : List ℕ) → QNameAt start n after → ⊥) → (why : Why) (at : List ℕ) → TagRefuses text why at → ⊥
no_tag_name_refused text start e h why at a = h a.written a.past_name (subst (λ z. QNameAt z a.written a.past_name) (same_others (sym a.opens ∙ e)) a.names)

-- content

no_bang : (bs : List ℕ) → Begins (0x3C ∷ 0x21 ∷ bs) → ⊥
no_bang bs b = no_qname 0x21 (omega arith) refl (subst (λ z. QNameAt z b.name b.past_name) (sym (same_others b.opens)) b.names)

no_question : (bs : List ℕ) → Begins (0x3C ∷ 0x3F ∷ bs) → ⊥
no_question bs b = no_qname 0x3F (omega arith) refl (subst (λ z. QNameAt z b.name b.past_name) (sym (same_others b.opens)) b.names)

-- where no item stands, and no element begins
no_item_refused : (total : ℕ) (outer : List Bound) (d : ℕ) (bs : List ℕ) → LacksItem true total bs → (Begins bs → ⊥) → (cause : Cause) (at : List ℕ) → ContentRefuses total outer d bs cause at → ⊥
no_item_refused total outer d bs h g cause at (r.entity o) = h outer d _ _ (reference (as_reference o))
no_item_refused total outer d bs h g cause at (child k) = g (element_begins k)
no_item_refused total outer d bs h g cause at (past_item a k) = h outer d _ _ (item_loosened a)

pub no_characters_refused : (total : ℕ) (outer : List Bound) (d : ℕ) (bs : List ℕ) → ((rest : List ℕ) → bs ≡ 0x3C ∷ rest → ⊥) → LacksItem true total bs
    → (cause : Cause) (at : List ℕ) → ContentRefuses total outer d bs cause at → ⊥
no_characters_refused total outer d bs k h = no_item_refused total outer d bs h (λ b. k b.rest b.opens)

pub no_bang_refused : (total : ℕ) (outer : List Bound) (d : ℕ) (bs rest : List ℕ) → bs ≡ 0x3C ∷ 0x21 ∷ rest → LacksItem true total bs
    → (cause : Cause) (at : List ℕ) → ContentRefuses total outer d bs cause at → ⊥
no_bang_refused total outer d bs rest e h = no_item_refused total outer d bs h (λ b. no_bang rest (subst Begins e b))

pub no_question_refused : (total : ℕ) (outer : List Bound) (d : ℕ) (bs rest : List ℕ) → bs ≡ 0x3C ∷ 0x3F ∷ rest → LacksItem true total bs
    → (cause : Cause) (at : List ℕ) → ContentRefuses total outer d bs cause at → ⊥
no_question_refused total outer d bs rest e h = no_item_refused total outer d bs h (λ b. no_question rest (subst Begins e b))

-- where an element stands that isn't read
pub no_child_refused : (total : ℕ) (outer : List Bound) (d : ℕ) (bs rest : List ℕ) → bs ≡ 0x3C ∷ rest → ((o : Piece) (after : List ℕ) → ItemAt false total outer d bs o after → ⊥)
    → ((cause : Cause) (at : List ℕ) → ElementRefuses total outer d bs cause at → ⊥) → (cause : Cause) (at : List ℕ) → ContentRefuses total outer d bs cause at → ⊥
no_child_refused total outer d bs rest e h g cause at (r.entity o) = omega (arith, same_first (sym e ∙ o.refers.opens))
no_child_refused total outer d bs rest e h g cause at (child k) = g cause at k
no_child_refused total outer d bs rest e h g cause at (past_item a k) = h _ _ a

-- elements

pub no_tag_refused : (total : ℕ) (outer : List Bound) (d : ℕ) (text : List ℕ) → d ≢ 0
    → ((w : QualifiedName) (scope : List Bound) (n : ExpandedName) (x : List Attribute) (after : List ℕ) → TagAt true total outer text w scope n x after → ⊥)
    → ((why : Why) (at : List ℕ) → TagRefuses text why at → ⊥) → (cause : Cause) (at : List ℕ) → ElementRefuses total outer d text cause at → ⊥
no_tag_refused total outer d text some h g cause at (depth q) = some refl
no_tag_refused total outer d text some h g cause at (tag t) = g _ at t
no_tag_refused total outer d text some h g cause at (inside {scope = s} {written = w} {name = n} {expanded = x} a k) = h w s n x _ (tag_loosened a)

pub no_body_refused : (total : ℕ) (outer : List Bound) (d : ℕ) (text rest : List ℕ) (w : QualifiedName) (scope : List Bound) (n : ExpandedName) (x : List Attribute)
    → TagAt false total outer text w scope n x rest → d ≢ 0 → ((cause : Cause) (at : List ℕ) → BodyRefuses total scope (d - 1) rest cause at → ⊥)
    → (cause : Cause) (at : List ℕ) → ElementRefuses total outer d text cause at → ⊥
no_body_refused total outer d text rest w scope n x t some h cause at (depth q) = some refl
no_body_refused total outer d text rest w scope n x t some h cause at (tag u) = tag_no_tag u t
no_body_refused total outer d text rest w scope n x t some h cause at (inside {scope = s} {deepest = e} {inside = i} a k) =
    let same = tag_unique a t in
    let less : e ≡ suc e - 1 = omega arith in
    h cause at (record { inside = i; opens = sym same.same_after; refuses = subst (λ y. ContentRefuses total scope y i cause at) less (subst (λ z. ContentRefuses total z e i cause at) same.same_scope k) })

pub no_inside_refused : (total : ℕ) (scope : List Bound) (d : ℕ) (rest start : List ℕ) → rest ≡ 0x3E ∷ start → ((cause : Cause) (at : List ℕ) → ContentRefuses total scope d start cause at → ⊥)
    → (cause : Cause) (at : List ℕ) → BodyRefuses total scope d rest cause at → ⊥
no_inside_refused total scope d rest start e h cause at b = h cause at (subst (λ z. ContentRefuses total scope d z cause at) (same_others (sym b.opens ∙ e)) b.refuses)

pub no_closing_refused : (total : ℕ) (scope : List Bound) (d : ℕ) (rest start end : List ℕ) (h : RawTrees) → rest ≡ 0x3E ∷ start → ContentAt false total scope d start h end
    → (cause : Cause) (at : List ℕ) → BodyRefuses total scope d rest cause at → ⊥
no_closing_refused total scope d rest start end h e m = no_inside_refused total scope d rest start e (λ cause at k. content_no_content k m)

-- what stands before the root

pub no_version_refused : (text rest : List ℕ) → text ≡ codes "<?xml" ++ rest → ((v after : List ℕ) → SettingAt (codes "version") rest v after → ⊥) → (why : Why) (at : List ℕ) → DeclarationRefuses text why at → ⊥
no_version_refused text rest e h why at (version {value = w} {after = a} f v n) = h w a (subst (λ z. SettingAt (codes "version") z w a) (start_same f e) v)
no_version_refused text rest e h why at (encoding {past_version = p} f v s n) = h (codes "1.0") p (subst (λ z. SettingAt (codes "version") z (codes "1.0") p) (start_same f e) v)

pub no_encoding_refused : (text rest v past : List ℕ) → text ≡ codes "<?xml" ++ rest → SettingAt (codes "version") rest v past → v ≡ codes "1.0"
    → ((value after : List ℕ) → SettingAt (codes "encoding") past value after → (IsReadEncoding value → ⊥) → ⊥) → (why : Why) (at : List ℕ) → DeclarationRefuses text why at → ⊥
no_encoding_refused text rest v past e s is h why at (version {value = w} {after = a} f u n) =
    n ((setting_unique (subst (λ z. SettingAt (codes "version") z w a) (start_same f e) u) s).0 ∙ is)
no_encoding_refused text rest v past e s is h why at (encoding {past_version = p} {value = w} {after = a} f u t n) =
    let same = (setting_unique (subst (λ z. SettingAt (codes "version") z (codes "1.0") p) (start_same f e) u) s).1 in
    h w a (subst (λ z. SettingAt (codes "encoding") z w a) same t) n

pub read_encoding_not_refused : (past after : List ℕ) → EncodingAt past after → (value end : List ℕ) → SettingAt (codes "encoding") past value end → (IsReadEncoding value → ⊥) → ⊥
read_encoding_not_refused past after x word end t n = encoding_no_encoding t n x

pub no_subset_at : (text end : List ℕ) → DoctypeFrontAt text end → ((r : List ℕ) → end ≡ 0x5B ∷ r → ⊥) → (r : List ℕ) → DoctypeFrontAt text (0x5B ∷ r) → ⊥
no_subset_at text end a h r b = h r (doctype_front_unique a b)

pub no_declaration_refused : (d : ℕ) (text start : List ℕ) → start ≡ after_mark text → ((after : List ℕ) → DeclarationAt start after → ⊥) → ((why : Why) (at : List ℕ) → DeclarationRefuses start why at → ⊥)
    → (cause : Cause) (at : List ℕ) → DocumentRefuses d text cause at → ⊥
no_declaration_refused d text start e h g cause at (r.declaration {why = why} x) = g why at (subst (λ w. DeclarationRefuses w why at) (sym e) x)
no_declaration_refused d text start e h g cause at (subset {past_declaration = p} a m k) = h p (subst (λ w. DeclarationAt w p) (sym e) a)
no_declaration_refused d text start e h g cause at (element {past_declaration = p} a m k f) = h p (subst (λ w. DeclarationAt w p) (sym e) a)

module _ (d : ℕ) (text start past : List ℕ) (e : start ≡ after_mark text) (a : DeclarationAt start past) where
  here : DeclarationAt (after_mark text) past
  here = subst (λ w. DeclarationAt w past) e a

  pub no_misc_refused : ((after : List ℕ) → MiscAt past after → ⊥) → (cause : Cause) (at : List ℕ) → DocumentRefuses d text cause at → ⊥
  no_misc_refused h cause at (r.declaration x) = declaration_no_declaration x here
  no_misc_refused h cause at (subset {past_misc = m} b n k) = h m (subst (λ z. MiscAt z m) (declaration_unique b here) n)
  no_misc_refused h cause at (element {past_misc = m} b n k f) = h m (subst (λ z. MiscAt z m) (declaration_unique b here) n)

  pub no_doctype_refused : (behind : List ℕ) → MiscAt past behind → ((root : List ℕ) → DoctypeAt behind root → ⊥) → ((rest : List ℕ) → DoctypeFrontAt behind (0x5B ∷ rest) → ⊥)
      → (cause : Cause) (at : List ℕ) → DocumentRefuses d text cause at → ⊥
  no_doctype_refused behind b h g cause at (r.declaration x) = declaration_no_declaration x here
  no_doctype_refused behind b h g cause at (subset {r = rest} c n k) = g rest (subst (λ z. DoctypeFrontAt z (0x5B ∷ rest)) (front_same c here n b) k)
  no_doctype_refused behind b h g cause at (element {root = root} c n k f) = h root (subst (λ z. DoctypeAt z root) (front_same c here n b) k)

  pub no_root_refused : (behind root : List ℕ) → MiscAt past behind → DoctypeAt behind root → ((cause : Cause) (at : List ℕ) → ElementRefuses (length text) first_scope d root cause at → ⊥)
      → (cause : Cause) (at : List ℕ) → DocumentRefuses d text cause at → ⊥
  no_root_refused behind root b x h cause at (r.declaration y) = declaration_no_declaration y here
  no_root_refused behind root b x h cause at (subset {r = rest} c n k) = subset_no_doctype (subst (λ z. DoctypeFrontAt z (0x5B ∷ rest)) (front_same c here n b) k) x
  no_root_refused behind root b x h cause at (element {root = other} c n k f) =
      let same = doctype_unique (subst (λ z. DoctypeAt z other) (front_same c here n b) k) x in
      h cause at (subst (λ z. ElementRefuses (length text) first_scope d z cause at) same f)

  pub root_not_refused : (behind root rest : List ℕ) (p : Piece) → MiscAt past behind → DoctypeAt behind root → ElementAt false (length text) first_scope d root p rest
      → (cause : Cause) (at : List ℕ) → DocumentRefuses d text cause at → ⊥
  root_not_refused behind root rest p b x y = no_root_refused behind root b x (λ cause at k. element_no_element k y)
