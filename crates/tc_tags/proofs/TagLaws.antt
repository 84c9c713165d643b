-- Tags by their form: each has one.
use Rattle.std.proofs.Common.{◌≡◌, inl, inr, ◌⊎◌, ℕ, ◌<◌, Bool, false, List, [], ◌∷◌, ◌++◌, refl, ap, ◌∙◌, sym, subst, length, arith, codes}
use Rattle.std.proofs.lemmas.Bool.{true≢false}
use Rattle.std.proofs.lemmas.List.{append_cancel_left}
use Rattle.tc_base.specs.declared.reasons.Why.{Why}
use Rattle.tc_model.specs.Names.{ExpandedName}
use Rattle.tc_model.specs.RawTrees.{Attribute, Bound}
use Rattle.tc_model.specs.XmlTextBytes.{after_white}
use Rattle.tc_model.specs.XmlTextNames.{QualifiedName, QNameAt}
use Rattle.tc_model.specs.XmlTextReferences.{ReferenceAt, decimal, hexadecimal, entity, other, ValueAt, closed, plain, QuotedAt}
use Rattle.tc_model.specs.XmlTextReferences as r
use Rattle.tc_model.specs.XmlTextScopes.{WrittenAttribute}
use Rattle.tc_model.specs.XmlTextContent.{AttributesAt, no_more, attribute, TagAt}
use Rattle.tc_model.specs.XmlTextRefusals.{TagRefuses}
use Rattle.tc_model.proofs.XmlTextPhrases.{same_first, same_others, no_qname, qname_unique}
use Rattle.tc_model.proofs.XmlTextUnique.{attributes_unique, no_empty_qname}
use Rattle.tc_model.proofs.XmlTextRefused.{attributes_no_list}
use Rattle.tc_tags.specs.XmlTextTags.{WrittenElement, TagFormAt, EndTagAt, WholeTagAt}
use Rattle.tc_tags.specs.XmlTextTags as t
use Rattle.tc_tags.specs.Begins.{BeginsTag}

-- a tag ends here, and this follows it
pub data EndsAt : List ℕ → List ℕ → Type 0 where
  open_end : {end after : List ℕ} → end ≡ 0x3E ∷ after → EndsAt end after
  empty_end : {end after : List ℕ} → end ≡ codes "/>" ++ after → EndsAt end after

pub ends_at : {end after : List ℕ} → (end ≡ 0x3E ∷ after) ⊎ (end ≡ codes "/>" ++ after) → EndsAt end after
ends_at (inl e) = open_end e
ends_at (inr e) = empty_end e

pub ends_one : {end after after' : List ℕ} → EndsAt end after → EndsAt end after' → after ≡ after'
ends_one (open_end e) (open_end f) = same_others (sym e ∙ f)
ends_one (open_end e) (empty_end f) = absurd (omega (arith, same_first (sym e ∙ f)))
ends_one (empty_end e) (open_end f) = absurd (omega (arith, same_first (sym f ∙ e)))
ends_one {after = a} {after' = b} (empty_end e) (empty_end f) = append_cancel_left (codes "/>") a b (sym e ∙ f)

pub ends_shorter : {end after : List ℕ} → EndsAt end after → length after < length end
ends_shorter (open_end e) = omega (arith, ap length e)
ends_shorter (empty_end e) = omega (arith, ap length e)

pub whole_of_form : {total : ℕ} {bs end after : List ℕ} {e : WrittenElement} → TagFormAt false total bs e end → EndsAt end after → WholeTagAt total bs after
whole_of_form {total} {bs} {e = e} f (open_end is) = t.start_tag (subst (λ z. TagFormAt false total bs e z) is f)
whole_of_form {total} {bs} {e = e} f (empty_end is) = t.empty_tag (subst (λ z. TagFormAt false total bs e z) is f)

-- one reading

pub same_element : {e e' : WrittenElement} → e.name ≡ e'.name → e.attributes ≡ e'.attributes → e ≡ e'
same_element {e} {e'} p q =
    let make : QualifiedName → List WrittenAttribute → WrittenElement = λ n l. record { name = n; attributes = l } in
    ap (λ n. make n e.attributes) p ∙ ap (make e'.name) q

pub form_unique : {o : Bool} {total : ℕ} {bs r s : List ℕ} {e e' : WrittenElement} → TagFormAt o total bs e r → TagFormAt o total bs e' s → (e ≡ e') × (r ≡ s)
form_unique {o} {total} {s = s} {e} {e'} a b =
    let names = qname_unique a.names (subst (λ z. QNameAt z e'.name b.past_name) (same_others (sym b.opens ∙ a.opens)) b.names) in
    let lists = attributes_unique a.lists (subst (λ z. AttributesAt o total z e'.attributes s) (sym names.1) b.lists) in
    (same_element names.0 lists.0, lists.1)

pub end_tag_unique : {n m : QualifiedName} {bs r s : List ℕ} → EndTagAt n bs r → EndTagAt m bs s → (n ≡ m) × (r ≡ s)
end_tag_unique {m = m} a b =
    let names = qname_unique a.names (subst (λ z. QNameAt z m b.past_name) (append_cancel_left (codes "</") b.rest a.rest (sym b.opens ∙ a.opens)) b.names) in
    (names.0, same_others (sym a.closes ∙ (ap after_white names.1 ∙ b.closes)))

-- an end tag has another form
pub no_form_at_end_tag : {o : Bool} {total : ℕ} {bs r s : List ℕ} {e : WrittenElement} → bs ≡ 0x3C ∷ 0x2F ∷ r → TagFormAt o total bs e s → ⊥
no_form_at_end_tag {e = e} is a = no_qname 0x2F (omega arith) refl (subst (λ z. QNameAt z e.name a.past_name) (same_others (sym a.opens ∙ is)) a.names)

pub whole_form_unique : {total : ℕ} {bs end after r : List ℕ} {e : WrittenElement} → TagFormAt false total bs e end → EndsAt end after → WholeTagAt total bs r → after ≡ r
whole_form_unique f k (t.start_tag g) = let same = (form_unique f g).1 in ends_one k (open_end same)
whole_form_unique f k (t.empty_tag g) = let same = (form_unique f g).1 in ends_one k (empty_end same)
whole_form_unique f k (t.end_tag g) = absurd (no_form_at_end_tag g.opens f)

pub whole_unique : {total : ℕ} {bs r s : List ℕ} → WholeTagAt total bs r → WholeTagAt total bs s → r ≡ s
whole_unique (t.start_tag f) w = whole_form_unique f (open_end refl) w
whole_unique (t.empty_tag f) w = whole_form_unique f (empty_end refl) w
whole_unique (t.end_tag f) (t.start_tag g) = absurd (no_form_at_end_tag f.opens g)
whole_unique (t.end_tag f) (t.empty_tag g) = absurd (no_form_at_end_tag f.opens g)
whole_unique (t.end_tag f) (t.end_tag g) = (end_tag_unique f g).1

-- a tag by its form and its meaning, and back

pub form_of : {o : Bool} {total : ℕ} {outer scope : List Bound} {bs after : List ℕ} {w : QualifiedName} {n : ExpandedName} {x : List Attribute}
    (a : TagAt o total outer bs w scope n x after) → TagFormAt o total bs (record { name = w; attributes = a.attributes }) after
form_of a = record { rest = a.rest; past_name = a.past_name; opens = a.opens; names = a.names; lists = a.lists; no_space = a.means.no_space }

-- what is refused in a tag has no form
pub refused_no_form : {total : ℕ} {bs at r : List ℕ} {why : Why} {e : WrittenElement} → TagRefuses bs why at → TagFormAt false total bs e r → ⊥
refused_no_form {total} {r = r} {e = e} a b =
    let names = qname_unique (subst (λ z. QNameAt z e.name b.past_name) (same_others (sym b.opens ∙ a.opens)) b.names) a.names in
    attributes_no_list a.attributes (subst (λ z. AttributesAt false total z e.attributes r) names.1 b.lists) b.no_space

-- what is read without references to other entities is read so with them

pub reference_loosened : {o : Bool} {bs s after : List ℕ} → ReferenceAt false bs s after → ReferenceAt o bs s after
reference_loosened (decimal run h) = decimal run h
reference_loosened (hexadecimal run h) = hexadecimal run h
reference_loosened (entity a e) = entity a e
reference_loosened (other h a e) = absurd (true≢false (sym h))

pub value_loosened : {o : Bool} {quote : ℕ} {bs value after : List ℕ} → ValueAt false quote bs value after → ValueAt o quote bs value after
value_loosened (closed e) = closed e
value_loosened (plain run v) = plain run (value_loosened v)
value_loosened (r.reference a v) = r.reference (reference_loosened a) (value_loosened v)

pub quoted_loosened : {o : Bool} {bs value after : List ℕ} → QuotedAt false bs value after → QuotedAt o bs value after
quoted_loosened a = record { quote = a.quote; rest = a.rest; is_quote = a.is_quote; opens = a.opens; closes = value_loosened a.closes }

pub attributes_loosened : {o : Bool} {total : ℕ} {bs after : List ℕ} {attributes : List WrittenAttribute} → AttributesAt false total bs attributes after → AttributesAt o total bs attributes after
attributes_loosened (no_more e) = no_more e
attributes_loosened (attribute w a e v l) = attribute w a e (quoted_loosened v) (attributes_loosened l)

pub form_loosened : {o : Bool} {total : ℕ} {bs after : List ℕ} {e : WrittenElement} → TagFormAt false total bs e after → TagFormAt o total bs e after
form_loosened a = record { rest = a.rest; past_name = a.past_name; opens = a.opens; names = a.names; lists = attributes_loosened a.lists; no_space = a.no_space }

-- which tags begin as tags

pub begins_by : {bs rest : List ℕ} {r : List ℕ} {n : QualifiedName} → bs ≡ 0x3C ∷ rest → QNameAt rest n r → BeginsTag bs
begins_by {bs} {rest} {r} {n} is q = by rest is q
  where
    by : (w : List ℕ) → bs ≡ 0x3C ∷ w → QNameAt w n r → BeginsTag bs
    by [] e a = absurd (no_empty_qname a)
    by (b ∷ w) e a = record {
      next = b;
      rest = w;
      opens = e;
      no_mark = λ h. no_qname 0x21 (omega arith) refl (subst (λ z. QNameAt (z ∷ w) n r) h a);
      no_instruction = λ h. no_qname 0x3F (omega arith) refl (subst (λ z. QNameAt (z ∷ w) n r) h a);
    }

pub form_begins : {o : Bool} {total : ℕ} {bs after : List ℕ} {e : WrittenElement} → TagFormAt o total bs e after → BeginsTag bs
form_begins a = begins_by a.opens a.names

pub end_tag_begins : {n : QualifiedName} {bs after : List ℕ} → EndTagAt n bs after → BeginsTag bs
end_tag_begins a = record { next = 0x2F; rest = a.rest; opens = a.opens; no_mark = λ h. omega (arith, h); no_instruction = λ h. omega (arith, h) }
