-- What comes of a place by steps is one thing.
use Rattle.std.proofs.Common.{◌≡◌, ℕ, ◌<◌, ◌≤◌, ◌+◌, false, List, [], ◌∷◌, ◌++◌, refl, ap, ◌∙◌, sym, subst, arith, codes}
use Rattle.std.proofs.lemmas.List.{append_cancel_left}
use Rattle.tc_base.specs.declared.reasons.Why.{Why}
use Rattle.tc_base.specs.declared.reasons.Why.TheVariants.{DoctypeSubset, EntityReference}
use Rattle.tc_model.specs.Names.{ExpandedName}
use Rattle.tc_model.specs.RawTrees.{Attribute, Bound}
use Rattle.tc_model.specs.Trees.{none, beside, kept}
use Rattle.tc_model.specs.XmlText.{after_mark, deepest_element}
use Rattle.tc_model.specs.XmlTextBytes.{place_of, line_ends, EqualsAt}
use Rattle.tc_model.specs.XmlTextNames.{QualifiedName, QNameAt}
use Rattle.tc_model.specs.XmlTextReferences.{ReferenceAt, CharacterDataAt, CdataAt, QuotedAt}
use Rattle.tc_model.specs.XmlTextMisc.{CommentAt, InstructionAt, DoctypeFrontAt, DoctypeAt}
use Rattle.tc_model.specs.XmlTextScopes.{TagMeans}
use Rattle.tc_model.specs.XmlTextRefusals.{Cause, unsupported, too_deep, OtherEntityAt, QuotedRefuses, AttributesRefuse, space, value, past_attribute, TagRefuses, DeclarationRefuses}
use Rattle.tc_model.specs.XmlTextRefusals as f
use Rattle.tc_model.proofs.XmlTextPhrases.{same_first, same_others, no_qname, qname_unique, equals_unique, quoted_unique, reference_unique, character_data_unique, cdata_unique, comment_unique, instruction_unique, declaration_unique, misc_unique, doctype_front_unique, doctype_unique}
use Rattle.tc_model.proofs.XmlTextUnique.{tag_unique, kind, character_data_kind, reference_kind, cdata_kind, comment_kind, instruction_kind}
use Rattle.tc_model.proofs.XmlTextRefused.{as_reference, other_no_reference, value_one, quoted_no_quoted, not_space, document_one, declaration_no_declaration, subset_no_doctype}
use Rattle.tc_tags.specs.XmlTextTags.{WrittenElement, TagFormAt, EndTagAt, WholeTagAt, names_length, tag_length}
use Rattle.tc_tags.specs.XmlTextTags as t
use Rattle.tc_tags.specs.Begins.{BeginsTag}
use Rattle.tc_stream.specs.XmlTextMeasures.{longest_tag, most_names, tag, names}
use Rattle.tc_stream.specs.Outcomes.{Outcome, refused, passed}
use Rattle.tc_stream.specs.Goes.{Level, used, depth_left, with_text, Closed, closed, Fits, IsLong, Goes, characters, reference, cdata, comment, instruction, start_tag, empty_tag, end_tag, entity, deep, construct, long_tag, many_names, GoesBehind, content, end}
use Rattle.tc_stream.specs.From.{FromRoot, FromProlog, subset, root, FromFront, declaration, prolog}
use Rattle.tc_stream.proofs.MeasureLaws.{tag_of, tag_begins}
use Rattle.tc_tags.proofs.TagLaws.{EndsAt, ends_at, ends_one, whole_of_form, form_unique, end_tag_unique, no_form_at_end_tag, refused_no_form, begins_by, form_begins, end_tag_begins}
use Rattle.tc_stream.proofs.LongLaws.{long_begins, long_deep, long_not_short, tag_starts}

-- an element whose tag is just read
abbrev pub opened : WrittenElement → ExpandedName → List Bound → Level
opened e n outer = record { written = e; name = n; outer = outer; kids = none }

-- an end tag of the innermost element stands here
pub data Closing (total : ℕ) : List Level → List ℕ → List ℕ → Outcome → Type 0 where
  closes_one : {l : Level} {ls : List Level} {run bs after : List ℕ} {o : Outcome} → EndTagAt l.written.name bs after → tag_length bs after ≤ longest_tag
      → GoesBehind total (closed l.name (beside l.kids (kept run none)) ls) l.outer after o → Closing total (l ∷ ls) run bs o

-- what is refused in a tag is refused once

quoted_one : {bs at at' : List ℕ} → QuotedRefuses bs at → QuotedRefuses bs at' → at ≡ at'
quoted_one {at' = at'} a b =
    let e = sym b.opens ∙ a.opens in
    let other : f.ValueRefuses a.quote b.rest at' = subst (λ q. f.ValueRefuses q b.rest at') (same_first e) b.refuses in
    value_one a.is_quote a.refuses (subst (λ w. f.ValueRefuses a.quote w at') (same_others e) other)

attributes_one : {bs at at' : List ℕ} {why why' : Why} → AttributesRefuse bs why at → AttributesRefuse bs why' at' → (why ≡ why') × (at ≡ at')
attributes_one (space w n) (space w' n') = (refl, refl)
attributes_one (space w n) (value w' n' h e q) = absurd (not_space (qname_unique n n').0 h)
attributes_one (space w n) (past_attribute w' n' h e q l) = absurd (not_space (qname_unique n n').0 h)
attributes_one (value w n h e q) (space w' n') = absurd (not_space (qname_unique n' n).0 h)
attributes_one {at' = at'} (value w n h e q) (value {start = s'} w' n' h' e' q') =
    let start = equals_unique (subst (λ z. EqualsAt z s') (qname_unique n' n).1 e') e in
    (refl, quoted_one q (subst (λ z. QuotedRefuses z at') start q'))
attributes_one (value w n h e q) (past_attribute {start = s'} {v = v'} {rest = rest'} w' n' h' e' q' l') =
    let start = equals_unique (subst (λ z. EqualsAt z s') (qname_unique n' n).1 e') e in
    absurd (quoted_no_quoted q (subst (λ z. QuotedAt false z v' rest') start q'))
attributes_one (past_attribute w n h e q l) (space w' n') = absurd (not_space (qname_unique n' n).0 h)
attributes_one (past_attribute {start = s} {v = v} {rest = rest} w n h e q l) (value w' n' h' e' q') =
    let start = equals_unique (subst (λ z. EqualsAt z s) (qname_unique n n').1 e) e' in
    absurd (quoted_no_quoted q' (subst (λ z. QuotedAt false z v rest) start q))
attributes_one {at' = at'} {why' = why'} (past_attribute w n h e q l) (past_attribute {start = s'} {v = v'} {rest = rest'} w' n' h' e' q' l') =
    let start = equals_unique (subst (λ z. EqualsAt z s') (qname_unique n' n).1 e') e in
    let behind = (quoted_unique (subst (λ z. QuotedAt false z v' rest') start q') q).1 in
    attributes_one l (subst (λ z. AttributesRefuse z why' at') behind l')

pub tag_refused_once : {bs at at' : List ℕ} {why why' : Why} → TagRefuses bs why at → TagRefuses bs why' at' → (why ≡ why') × (at ≡ at')
tag_refused_once {at' = at'} {why' = why'} a b =
    let names = qname_unique (subst (λ z. QNameAt z b.written b.past_name) (same_others (sym b.opens ∙ a.opens)) b.names) a.names in
    attributes_one a.attributes (subst (λ z. AttributesRefuse z why' at') names.1 b.attributes)

pub refused_begins : {bs at : List ℕ} {why : Why} → TagRefuses bs why at → BeginsTag bs
refused_begins t = begins_by t.opens t.names

pub begins_kind : {r p : List ℕ} {n : QualifiedName} → QNameAt r n p → kind (0x3C ∷ r) ≡ 3
begins_kind q = tag_begins (begins_by refl q)

named_kind : (r : List ℕ) {p : List ℕ} {n : QualifiedName} → QNameAt r n p → kind (0x3C ∷ r) ≡ 3
named_kind r q = tag_begins (begins_by refl q)

-- what a step is where one kind of item stands

pub data AtText (total : ℕ) (l : Level) (ls : List Level) (scope : List Bound) (run bs : List ℕ) (o : Outcome) : Type 0 where
  words : {s rest : List ℕ} → CharacterDataAt bs s rest → Goes total (l ∷ ls) scope (run ++ line_ends s) rest o → AtText total l ls scope run bs o

pub at_text : {total : ℕ} {l : Level} {ls : List Level} {scope : List Bound} {run bs : List ℕ} {o : Outcome} → kind bs ≡ 0 → Goes total (l ∷ ls) scope run bs o → AtText total l ls scope run bs o
at_text e (characters a g) = words a g
at_text e (reference a g) = absurd (omega (arith, e, reference_kind a))
at_text e (entity a) = absurd (omega (arith, e, reference_kind (as_reference a)))
at_text e (cdata a g) = absurd (omega (arith, e, cdata_kind a))
at_text e (comment a g) = absurd (omega (arith, e, comment_kind a))
at_text e (instruction a g) = absurd (omega (arith, e, instruction_kind a))
at_text e (start_tag z f b m g) = absurd (omega (arith, e, tag_begins (form_begins f)))
at_text e (empty_tag z f b m g) = absurd (omega (arith, e, tag_begins (form_begins f)))
at_text e (end_tag f s g) = absurd (omega (arith, e, tag_begins (end_tag_begins f)))
at_text e (deep {rest = r} {past_name = p} {name = n} z q) = absurd (omega (arith, e, named_kind r q))
at_text e (construct z t n) = absurd (omega (arith, e, tag_begins (refused_begins t)))
at_text e (long_tag l) = absurd (omega (arith, e, tag_begins (long_begins l)))
at_text e (many_names z f k s w) = absurd (omega (arith, e, tag_begins (form_begins f)))

pub data AtReference (total : ℕ) (l : Level) (ls : List Level) (scope : List Bound) (run bs : List ℕ) (o : Outcome) : Type 0 where
  refers : {s rest : List ℕ} → ReferenceAt false bs s rest → Goes total (l ∷ ls) scope (run ++ s) rest o → AtReference total l ls scope run bs o
  strange : OtherEntityAt bs → o ≡ refused (unsupported EntityReference) (place_of total bs) → AtReference total l ls scope run bs o

pub at_reference : {total : ℕ} {l : Level} {ls : List Level} {scope : List Bound} {run bs : List ℕ} {o : Outcome} → kind bs ≡ 1 → Goes total (l ∷ ls) scope run bs o → AtReference total l ls scope run bs o
at_reference e (characters a g) = absurd (omega (arith, e, character_data_kind a))
at_reference e (reference a g) = refers a g
at_reference e (entity a) = strange a refl
at_reference e (cdata a g) = absurd (omega (arith, e, cdata_kind a))
at_reference e (comment a g) = absurd (omega (arith, e, comment_kind a))
at_reference e (instruction a g) = absurd (omega (arith, e, instruction_kind a))
at_reference e (start_tag z f b m g) = absurd (omega (arith, e, tag_begins (form_begins f)))
at_reference e (empty_tag z f b m g) = absurd (omega (arith, e, tag_begins (form_begins f)))
at_reference e (end_tag f s g) = absurd (omega (arith, e, tag_begins (end_tag_begins f)))
at_reference e (deep {rest = r} {past_name = p} {name = n} z q) = absurd (omega (arith, e, named_kind r q))
at_reference e (construct z t n) = absurd (omega (arith, e, tag_begins (refused_begins t)))
at_reference e (long_tag l) = absurd (omega (arith, e, tag_begins (long_begins l)))
at_reference e (many_names z f k s w) = absurd (omega (arith, e, tag_begins (form_begins f)))

pub data AtCdata (total : ℕ) (l : Level) (ls : List Level) (scope : List Bound) (run bs : List ℕ) (o : Outcome) : Type 0 where
  section : {s rest : List ℕ} → CdataAt bs s rest → Goes total (l ∷ ls) scope (run ++ line_ends s) rest o → AtCdata total l ls scope run bs o

pub at_cdata : {total : ℕ} {l : Level} {ls : List Level} {scope : List Bound} {run bs : List ℕ} {o : Outcome} → kind bs ≡ 4 → Goes total (l ∷ ls) scope run bs o → AtCdata total l ls scope run bs o
at_cdata e (characters a g) = absurd (omega (arith, e, character_data_kind a))
at_cdata e (reference a g) = absurd (omega (arith, e, reference_kind a))
at_cdata e (entity a) = absurd (omega (arith, e, reference_kind (as_reference a)))
at_cdata e (cdata a g) = section a g
at_cdata e (comment a g) = absurd (omega (arith, e, comment_kind a))
at_cdata e (instruction a g) = absurd (omega (arith, e, instruction_kind a))
at_cdata e (start_tag z f b m g) = absurd (omega (arith, e, tag_begins (form_begins f)))
at_cdata e (empty_tag z f b m g) = absurd (omega (arith, e, tag_begins (form_begins f)))
at_cdata e (end_tag f s g) = absurd (omega (arith, e, tag_begins (end_tag_begins f)))
at_cdata e (deep {rest = r} {past_name = p} {name = n} z q) = absurd (omega (arith, e, named_kind r q))
at_cdata e (construct z t n) = absurd (omega (arith, e, tag_begins (refused_begins t)))
at_cdata e (long_tag l) = absurd (omega (arith, e, tag_begins (long_begins l)))
at_cdata e (many_names z f k s w) = absurd (omega (arith, e, tag_begins (form_begins f)))

pub data AtComment (total : ℕ) (l : Level) (ls : List Level) (scope : List Bound) (run bs : List ℕ) (o : Outcome) : Type 0 where
  remark : {rest : List ℕ} → CommentAt bs rest → Goes total (l ∷ ls) scope run rest o → AtComment total l ls scope run bs o

pub at_comment : {total : ℕ} {l : Level} {ls : List Level} {scope : List Bound} {run bs : List ℕ} {o : Outcome} → kind bs ≡ 5 → Goes total (l ∷ ls) scope run bs o → AtComment total l ls scope run bs o
at_comment e (characters a g) = absurd (omega (arith, e, character_data_kind a))
at_comment e (reference a g) = absurd (omega (arith, e, reference_kind a))
at_comment e (entity a) = absurd (omega (arith, e, reference_kind (as_reference a)))
at_comment e (cdata a g) = absurd (omega (arith, e, cdata_kind a))
at_comment e (comment a g) = remark a g
at_comment e (instruction a g) = absurd (omega (arith, e, instruction_kind a))
at_comment e (start_tag z f b m g) = absurd (omega (arith, e, tag_begins (form_begins f)))
at_comment e (empty_tag z f b m g) = absurd (omega (arith, e, tag_begins (form_begins f)))
at_comment e (end_tag f s g) = absurd (omega (arith, e, tag_begins (end_tag_begins f)))
at_comment e (deep {rest = r} {past_name = p} {name = n} z q) = absurd (omega (arith, e, named_kind r q))
at_comment e (construct z t n) = absurd (omega (arith, e, tag_begins (refused_begins t)))
at_comment e (long_tag l) = absurd (omega (arith, e, tag_begins (long_begins l)))
at_comment e (many_names z f k s w) = absurd (omega (arith, e, tag_begins (form_begins f)))

pub data AtInstruction (total : ℕ) (l : Level) (ls : List Level) (scope : List Bound) (run bs : List ℕ) (o : Outcome) : Type 0 where
  instructs : {rest : List ℕ} → InstructionAt bs rest → Goes total (l ∷ ls) scope run rest o → AtInstruction total l ls scope run bs o

pub at_instruction : {total : ℕ} {l : Level} {ls : List Level} {scope : List Bound} {run bs : List ℕ} {o : Outcome} → kind bs ≡ 2 → Goes total (l ∷ ls) scope run bs o → AtInstruction total l ls scope run bs o
at_instruction e (characters a g) = absurd (omega (arith, e, character_data_kind a))
at_instruction e (reference a g) = absurd (omega (arith, e, reference_kind a))
at_instruction e (entity a) = absurd (omega (arith, e, reference_kind (as_reference a)))
at_instruction e (cdata a g) = absurd (omega (arith, e, cdata_kind a))
at_instruction e (comment a g) = absurd (omega (arith, e, comment_kind a))
at_instruction e (instruction a g) = instructs a g
at_instruction e (start_tag z f b m g) = absurd (omega (arith, e, tag_begins (form_begins f)))
at_instruction e (empty_tag z f b m g) = absurd (omega (arith, e, tag_begins (form_begins f)))
at_instruction e (end_tag f s g) = absurd (omega (arith, e, tag_begins (end_tag_begins f)))
at_instruction e (deep {rest = r} {past_name = p} {name = n} z q) = absurd (omega (arith, e, named_kind r q))
at_instruction e (construct z t n) = absurd (omega (arith, e, tag_begins (refused_begins t)))
at_instruction e (long_tag l) = absurd (omega (arith, e, tag_begins (long_begins l)))
at_instruction e (many_names z f k s w) = absurd (omega (arith, e, tag_begins (form_begins f)))

-- a tag's step
pub data AtTag (total : ℕ) (ls : List Level) (outer : List Bound) (run bs : List ℕ) (o : Outcome) : Type 0 where
  starts : {scope : List Bound} {inside : List ℕ} {e : WrittenElement} {n : ExpandedName} {x : List Attribute} → 0 < depth_left ls → TagFormAt false total bs e (0x3E ∷ inside)
      → Fits ls e bs inside → TagMeans outer e.name e.attributes scope n x → Goes total (opened e n outer ∷ with_text run ls) scope [] inside o → AtTag total ls outer run bs o
  stands_alone : {scope : List Bound} {after : List ℕ} {e : WrittenElement} {n : ExpandedName} {x : List Attribute} → 0 < depth_left ls → TagFormAt false total bs e (codes "/>" ++ after)
      → Fits ls e bs after → TagMeans outer e.name e.attributes scope n x → GoesBehind total (closed n none (with_text run ls)) outer after o → AtTag total ls outer run bs o
  ends : Closing total ls run bs o → AtTag total ls outer run bs o
  is_deep : {rest past_name : List ℕ} {name : QualifiedName} → depth_left ls ≡ 0 → bs ≡ 0x3C ∷ rest → QNameAt rest name past_name
      → o ≡ refused too_deep (place_of total bs) → AtTag total ls outer run bs o
  is_refused : {at : List ℕ} {why : Why} → 0 < depth_left ls → TagRefuses bs why at → (IsLong ls bs → ⊥) → o ≡ refused (unsupported why) (place_of total at) → AtTag total ls outer run bs o
  is_long : IsLong ls bs → o ≡ passed tag (place_of total bs + longest_tag) → AtTag total ls outer run bs o
  has_many : {end after : List ℕ} {e : WrittenElement} → 0 < depth_left ls → TagFormAt false total bs e end → EndsAt end after → tag_length bs after ≤ longest_tag
      → most_names < names_length e + used ls → o ≡ passed names (place_of total after) → AtTag total ls outer run bs o

pub at_tag : {total : ℕ} {ls : List Level} {scope : List Bound} {run bs : List ℕ} {o : Outcome} → kind bs ≡ 3 → Goes total ls scope run bs o → AtTag total ls scope run bs o
at_tag e (characters a g) = absurd (omega (arith, e, character_data_kind a))
at_tag e (reference a g) = absurd (omega (arith, e, reference_kind a))
at_tag e (entity a) = absurd (omega (arith, e, reference_kind (as_reference a)))
at_tag e (cdata a g) = absurd (omega (arith, e, cdata_kind a))
at_tag e (comment a g) = absurd (omega (arith, e, comment_kind a))
at_tag e (instruction a g) = absurd (omega (arith, e, instruction_kind a))
at_tag e (start_tag z f b m g) = starts z f b m g
at_tag e (empty_tag z f b m g) = stands_alone z f b m g
at_tag e (end_tag f s g) = ends (closes_one f s g)
at_tag e (deep {rest = r} {past_name = p} {name = n} z q) = is_deep z refl q refl
at_tag e (construct z t n) = is_refused z t n refl
at_tag e (long_tag l) = is_long l refl
at_tag e (many_names z f k s w) = has_many z f (ends_at k) s w refl

same_refusal : {c d : Cause} {p q : ℕ} → c ≡ d → p ≡ q → refused c p ≡ refused d q
same_refusal {d = d} {p = p} e k = ap (λ z. refused z p) e ∙ ap (refused d) k

-- an XML declaration is refused once
refused_once : (text : List ℕ) {at at' : List ℕ} {why why' : Why} → DeclarationRefuses (after_mark text) why at → DeclarationRefuses (after_mark text) why' at'
    → (unsupported why ≡ unsupported why') × (at ≡ at')
refused_once text {at} {at'} {why} {why'} a b =
    let first : f.DocumentRefuses deepest_element text (unsupported why) at = f.declaration a in
    let second : f.DocumentRefuses deepest_element text (unsupported why') at' = f.declaration b in
    document_one first second

-- two tags at one place

pub start_end : {total : ℕ} {ls : List Level} {run bs r : List ℕ} {o : Outcome} {e : WrittenElement} → TagFormAt false total bs e r → Closing total ls run bs o → ⊥
start_end f (closes_one a s h) = no_form_at_end_tag a.opens f

named_end : {total : ℕ} {ls : List Level} {run bs r p : List ℕ} {o : Outcome} {n : QualifiedName} → bs ≡ 0x3C ∷ r → QNameAt r n p → Closing total ls run bs o → ⊥
named_end {p = p} {n = n} is q (closes_one a s h) = no_qname 0x2F (omega arith) refl (subst (λ z. QNameAt z n p) (same_others (sym is ∙ a.opens)) q)

long_end : {total : ℕ} {ls : List Level} {run bs : List ℕ} {o : Outcome} → IsLong ls bs → Closing total ls run bs o → ⊥
long_end {total} k (closes_one a s h) = long_not_short {total = total} k (t.end_tag a) s

pub open_empty : {total : ℕ} {bs r s : List ℕ} {e e' : WrittenElement} → TagFormAt false total bs e (0x3E ∷ r) → TagFormAt false total bs e' (codes "/>" ++ s) → ⊥
open_empty f g = omega (arith, same_first (form_unique f g).1)

pub few_many : {total : ℕ} {bs r s : List ℕ} {e e' : WrittenElement} (n : ℕ) → TagFormAt false total bs e r → names_length e + n ≤ most_names → TagFormAt false total bs e' s → most_names < names_length e' + n → ⊥
few_many n f few g many = omega (arith, few, many, ap names_length (form_unique f g).0)

pub start_moved : {total : ℕ} {ls : List Level} {outer scope scope' : List Bound} {inside inside' : List ℕ} {o : Outcome} {e e' : WrittenElement} {n n' : ExpandedName}
    → e ≡ e' → n ≡ n' → scope ≡ scope' → inside ≡ inside' → Goes total (opened e' n' outer ∷ ls) scope' [] inside' o → Goes total (opened e n outer ∷ ls) scope [] inside o
start_moved {total} {ls} {outer} {scope} {scope'} {inside} {inside'} {o} {e} {e'} {n} {n'} p q r s g =
    subst (λ z. Goes total (opened z n outer ∷ ls) scope [] inside o) (sym p)
    (subst (λ z. Goes total (opened e' z outer ∷ ls) scope [] inside o) (sym q)
    (subst (λ z. Goes total (opened e' n' outer ∷ ls) z [] inside o) (sym r)
    (subst (λ z. Goes total (opened e' n' outer ∷ ls) scope' [] z o) (sym s) g)))

start_one : {total : ℕ} {ls : List Level} {outer : List Bound} {run bs : List ℕ} {o o' : Outcome} {scope : List Bound} {inside : List ℕ} {e : WrittenElement} {n : ExpandedName} {x : List Attribute}
    → 0 < depth_left ls → TagFormAt false total bs e (0x3E ∷ inside) → Fits ls e bs inside → TagMeans outer e.name e.attributes scope n x
    → (Goes total (opened e n outer ∷ with_text run ls) scope [] inside o' → o ≡ o') → AtTag total ls outer run bs o' → o ≡ o'
start_one z f b m g (starts z' f' b' m' h) = let same = tag_unique (tag_of f m) (tag_of f' m') in g (start_moved (form_unique f f').0 same.same_name same.same_scope (same_others same.same_after) h)
start_one z f b m g (stands_alone z' f' b' m' h) = absurd (open_empty f f')
start_one z f b m g (ends c') = absurd (start_end f c')
start_one z f b m g (is_deep z' i' q' y) = absurd (omega (arith, z, z'))
start_one z f b m g (is_refused z' t' n' y) = absurd (refused_no_form t' f)
start_one z f b m g (is_long l' y) = absurd (long_not_short l' (t.start_tag f) b.short)
start_one {ls = ls} z f b m g (has_many z' f' k' s' w' y) = absurd (few_many (used ls) f b.few f' w')

empty_one : {total : ℕ} {ls : List Level} {outer : List Bound} {run bs : List ℕ} {o o' : Outcome} {scope : List Bound} {after : List ℕ} {e : WrittenElement} {n : ExpandedName} {x : List Attribute}
    → 0 < depth_left ls → TagFormAt false total bs e (codes "/>" ++ after) → Fits ls e bs after → TagMeans outer e.name e.attributes scope n x
    → (GoesBehind total (closed n none (with_text run ls)) outer after o' → o ≡ o') → AtTag total ls outer run bs o' → o ≡ o'
empty_one z f b m g (starts z' f' b' m' h) = absurd (open_empty f' f)
empty_one {total} {ls} {outer} {run} {o' = o'} {after = r} {n = n} z f b m g (stands_alone {after = r'} {n = n'} z' f' b' m' h) =
    let same = tag_unique (tag_of f m) (tag_of f' m') in
    let moved : GoesBehind total (closed n none (with_text run ls)) outer r' o' = subst (λ z. GoesBehind total (closed z none (with_text run ls)) outer r' o') (sym same.same_name) h in
    g (subst (λ z. GoesBehind total (closed n none (with_text run ls)) outer z o') (sym (append_cancel_left (codes "/>") r r' same.same_after)) moved)
empty_one z f b m g (ends c') = absurd (start_end f c')
empty_one z f b m g (is_deep z' i' q' y) = absurd (omega (arith, z, z'))
empty_one z f b m g (is_refused z' t' n' y) = absurd (refused_no_form t' f)
empty_one z f b m g (is_long l' y) = absurd (long_not_short l' (t.empty_tag f) b.short)
empty_one {ls = ls} z f b m g (has_many z' f' k' s' w' y) = absurd (few_many (used ls) f b.few f' w')

deep_one : {total : ℕ} {ls : List Level} {outer : List Bound} {run bs : List ℕ} {o o' : Outcome} {rest past_name : List ℕ} {name : QualifiedName} → depth_left ls ≡ 0 → bs ≡ 0x3C ∷ rest → QNameAt rest name past_name
    → o ≡ refused too_deep (place_of total bs) → AtTag total ls outer run bs o' → o ≡ o'
deep_one z i q x (starts z' f' b' m' h) = absurd (omega (arith, z', z))
deep_one z i q x (stands_alone z' f' b' m' h) = absurd (omega (arith, z', z))
deep_one z i q x (ends c') = absurd (named_end i q c')
deep_one z i q x (is_deep z' i' q' y) = x ∙ sym y
deep_one z i q x (is_refused z' t' n' y) = absurd (omega (arith, z', z))
deep_one z i q x (is_long l' y) = absurd (long_deep z (tag_starts i q) l')
deep_one z i q x (has_many z' f' k' s' w' y) = absurd (omega (arith, z', z))

construct_one : {total : ℕ} {ls : List Level} {outer : List Bound} {run bs : List ℕ} {o o' : Outcome} {at : List ℕ} {why : Why} → 0 < depth_left ls → TagRefuses bs why at → (IsLong ls bs → ⊥)
    → o ≡ refused (unsupported why) (place_of total at) → AtTag total ls outer run bs o' → o ≡ o'
construct_one z t n x (starts z' f' b' m' h) = absurd (refused_no_form t f')
construct_one z t n x (stands_alone z' f' b' m' h) = absurd (refused_no_form t f')
construct_one z t n x (ends c') = absurd (named_end t.opens t.names c')
construct_one z t n x (is_deep z' i' q' y) = absurd (omega (arith, z, z'))
construct_one {total} z t n x (is_refused z' t' n' y) = let same = tag_refused_once t t' in x ∙ (same_refusal (ap unsupported same.0) (ap (place_of total) same.1) ∙ sym y)
construct_one z t n x (is_long l' y) = absurd (n l')
construct_one z t n x (has_many z' f' k' s' w' y) = absurd (refused_no_form t f')

long_one : {total : ℕ} {ls : List Level} {outer : List Bound} {run bs : List ℕ} {o o' : Outcome} → IsLong ls bs → o ≡ passed tag (place_of total bs + longest_tag) → AtTag total ls outer run bs o' → o ≡ o'
long_one l x (starts z' f' b' m' h) = absurd (long_not_short l (t.start_tag f') b'.short)
long_one l x (stands_alone z' f' b' m' h) = absurd (long_not_short l (t.empty_tag f') b'.short)
long_one l x (ends c') = absurd (long_end l c')
long_one l x (is_deep z' i' q' y) = absurd (long_deep z' (tag_starts i' q') l)
long_one l x (is_refused z' t' n' y) = absurd (n' l)
long_one l x (is_long l' y) = x ∙ sym y
long_one l x (has_many z' f' k' s' w' y) = absurd (long_not_short l (whole_of_form f' k') s')

many_one : {total : ℕ} {ls : List Level} {outer : List Bound} {run bs : List ℕ} {o o' : Outcome} {end after : List ℕ} {e : WrittenElement} → 0 < depth_left ls → TagFormAt false total bs e end → EndsAt end after → tag_length bs after ≤ longest_tag
    → most_names < names_length e + used ls → o ≡ passed names (place_of total after) → AtTag total ls outer run bs o' → o ≡ o'
many_one {ls = ls} z f k s w x (starts z' f' b' m' h) = absurd (few_many (used ls) f' b'.few f w)
many_one {ls = ls} z f k s w x (stands_alone z' f' b' m' h) = absurd (few_many (used ls) f' b'.few f w)
many_one z f k s w x (ends c') = absurd (start_end f c')
many_one z f k s w x (is_deep z' i' q' y) = absurd (omega (arith, z, z'))
many_one z f k s w x (is_refused z' t' n' y) = absurd (refused_no_form t' f)
many_one z f k s w x (is_long l' y) = absurd (long_not_short l' (whole_of_form f k) s)
many_one {total} z f k s w x (has_many {after = r'} z' f' k' s' w' y) = x ∙ (ap (λ r. passed names (place_of total r)) (ends_one k (subst (λ z. EndsAt z r') (sym (form_unique f f').1) k')) ∙ sym y)

end_one : {total : ℕ} {l : Level} {ls : List Level} {scope : List Bound} {run bs after : List ℕ} {o o' : Outcome} → EndTagAt l.written.name bs after → tag_length bs after ≤ longest_tag
    → (GoesBehind total (closed l.name (beside l.kids (kept run none)) ls) l.outer after o' → o ≡ o') → AtTag total (l ∷ ls) scope run bs o' → o ≡ o'
end_one f s g (starts z' f' b' m' h) = absurd (no_form_at_end_tag f.opens f')
end_one f s g (stands_alone z' f' b' m' h) = absurd (no_form_at_end_tag f.opens f')
end_one {total} {l} {ls} {run = run} {o' = o'} f s g (ends (closes_one {after = r'} f' s' h)) =
    g (subst (λ z. GoesBehind total (closed l.name (beside l.kids (kept run none)) ls) l.outer z o') (sym (end_tag_unique f f').1) h)
end_one f s g (is_deep {past_name = p} {name = n} z' i' q' y) = absurd (no_qname 0x2F (omega arith) refl (subst (λ z. QNameAt z n p) (same_others (sym i' ∙ f.opens)) q'))
end_one f s g (is_refused z' t' n' y) = absurd (no_qname 0x2F (omega arith) refl (subst (λ z. QNameAt z t'.written t'.past_name) (same_others (sym t'.opens ∙ f.opens)) t'.names))
end_one {total} f s g (is_long l' y) = absurd (long_not_short {total = total} l' (t.end_tag f) s)
end_one f s g (has_many z' f' k' s' w' y) = absurd (no_form_at_end_tag f.opens f')

-- two items at one place

text_one : {total : ℕ} {l : Level} {ls : List Level} {scope : List Bound} {run bs s rest : List ℕ} {o o' : Outcome} → CharacterDataAt bs s rest
    → (Goes total (l ∷ ls) scope (run ++ line_ends s) rest o' → o ≡ o') → AtText total l ls scope run bs o' → o ≡ o'
text_one {total} {l} {ls} {scope} {run} {rest = rest} {o' = o'} a g (words {s = s'} b h) =
    let same = character_data_unique a b in
    g (subst (λ z. Goes total (l ∷ ls) scope (run ++ line_ends z) rest o') (sym same.0) (subst (λ z. Goes total (l ∷ ls) scope (run ++ line_ends s') z o') (sym same.1) h))

section_one : {total : ℕ} {l : Level} {ls : List Level} {scope : List Bound} {run bs s rest : List ℕ} {o o' : Outcome} → CdataAt bs s rest
    → (Goes total (l ∷ ls) scope (run ++ line_ends s) rest o' → o ≡ o') → AtCdata total l ls scope run bs o' → o ≡ o'
section_one {total} {l} {ls} {scope} {run} {rest = rest} {o' = o'} a g (section {s = s'} b h) =
    let same = cdata_unique a b in
    g (subst (λ z. Goes total (l ∷ ls) scope (run ++ line_ends z) rest o') (sym same.0) (subst (λ z. Goes total (l ∷ ls) scope (run ++ line_ends s') z o') (sym same.1) h))

reference_one : {total : ℕ} {l : Level} {ls : List Level} {scope : List Bound} {run bs s rest : List ℕ} {o o' : Outcome} → ReferenceAt false bs s rest
    → (Goes total (l ∷ ls) scope (run ++ s) rest o' → o ≡ o') → AtReference total l ls scope run bs o' → o ≡ o'
reference_one {total} {l} {ls} {scope} {run} {rest = rest} {o' = o'} a g (refers {s = s'} b h) =
    let same = reference_unique a b in
    g (subst (λ z. Goes total (l ∷ ls) scope (run ++ z) rest o') (sym same.0) (subst (λ z. Goes total (l ∷ ls) scope (run ++ s') z o') (sym same.1) h))
reference_one a g (strange b y) = absurd (other_no_reference b a)

entity_one : {total : ℕ} {l : Level} {ls : List Level} {scope : List Bound} {run bs : List ℕ} {o' : Outcome} → OtherEntityAt bs → AtReference total l ls scope run bs o'
    → refused (unsupported EntityReference) (place_of total bs) ≡ o'
entity_one a (refers b h) = absurd (other_no_reference a b)
entity_one a (strange b y) = sym y

comment_one : {total : ℕ} {l : Level} {ls : List Level} {scope : List Bound} {run bs rest : List ℕ} {o o' : Outcome} → CommentAt bs rest
    → (Goes total (l ∷ ls) scope run rest o' → o ≡ o') → AtComment total l ls scope run bs o' → o ≡ o'
comment_one {total} {l} {ls} {scope} {run} {o' = o'} a g (remark b h) = g (subst (λ z. Goes total (l ∷ ls) scope run z o') (sym (comment_unique a b)) h)

instruction_one : {total : ℕ} {l : Level} {ls : List Level} {scope : List Bound} {run bs rest : List ℕ} {o o' : Outcome} → InstructionAt bs rest
    → (Goes total (l ∷ ls) scope run rest o' → o ≡ o') → AtInstruction total l ls scope run bs o' → o ≡ o'
instruction_one {total} {l} {ls} {scope} {run} {o' = o'} a g (instructs b h) = g (subst (λ z. Goes total (l ∷ ls) scope run z o') (sym (instruction_unique a b)) h)

mutual
  pub goes_one : {total : ℕ} {ls : List Level} {scope : List Bound} {run bs : List ℕ} {o o' : Outcome} → Goes total ls scope run bs o → Goes total ls scope run bs o' → o ≡ o'
  goes_one (characters a g) h = text_one a (λ k. goes_one g k) (at_text (character_data_kind a) h)
  goes_one (reference a g) h = reference_one a (λ k. goes_one g k) (at_reference (reference_kind a) h)
  goes_one (cdata a g) h = section_one a (λ k. goes_one g k) (at_cdata (cdata_kind a) h)
  goes_one (comment a g) h = comment_one a (λ k. goes_one g k) (at_comment (comment_kind a) h)
  goes_one (instruction a g) h = instruction_one a (λ k. goes_one g k) (at_instruction (instruction_kind a) h)
  goes_one (start_tag z f b m g) h = start_one z f b m (λ k. goes_one g k) (at_tag (tag_begins (form_begins f)) h)
  goes_one (empty_tag z f b m g) h = empty_one z f b m (λ k. behind_one g k) (at_tag (tag_begins (form_begins f)) h)
  goes_one (end_tag f s g) h = end_one f s (λ k. behind_one g k) (at_tag (tag_begins (end_tag_begins f)) h)
  goes_one (entity a) h = entity_one a (at_reference (reference_kind (as_reference a)) h)
  goes_one (deep {rest = r} z q) h = deep_one z refl q refl (at_tag (named_kind r q) h)
  goes_one (construct z t n) h = construct_one z t n refl (at_tag (tag_begins (refused_begins t)) h)
  goes_one (long_tag l) h = long_one l refl (at_tag (tag_begins (long_begins l)) h)
  goes_one (many_names z f k s w) h = many_one z f (ends_at k) s w refl (at_tag (tag_begins (form_begins f)) h)

  pub behind_one : {total : ℕ} {c : Closed} {scope : List Bound} {bs : List ℕ} {o o' : Outcome} → GoesBehind total c scope bs o → GoesBehind total c scope bs o' → o ≡ o'
  behind_one (content g) (content h) = goes_one g h
  behind_one (end m) (end n) = refl

-- what stands before the root element

pub prolog_one : {total : ℕ} {bs : List ℕ} {o o' : Outcome} → FromProlog total bs o → FromProlog total bs o' → o ≡ o'
prolog_one {total} (subset {r = r} m a) (subset {r = r'} n b) =
    ap (λ z. refused (unsupported DoctypeSubset) (place_of total z)) (doctype_front_unique a (subst (λ z. DoctypeFrontAt z (0x5B ∷ r')) (misc_unique n m) b))
prolog_one (subset m a) (root {root = place} n d g) = absurd (subset_no_doctype a (subst (λ z. DoctypeAt z place) (misc_unique n m) d))
prolog_one (root {root = place} m d g) (subset n a) = absurd (subset_no_doctype a (subst (λ z. DoctypeAt z place) (misc_unique m n) d))
prolog_one {total} {o' = o'} (root m d g) (root {root = place} n e h) =
    goes_one g (subst (λ z. FromRoot total z o') (sym (doctype_unique d (subst (λ z. DoctypeAt z place) (misc_unique n m) e))) h)

pub front_one : (text : List ℕ) {total : ℕ} {o o' : Outcome} → FromFront total (after_mark text) o → FromFront total (after_mark text) o' → o ≡ o'
front_one text {total} (declaration a) (declaration b) = let same = refused_once text a b in same_refusal same.0 (ap (place_of total) same.1)
front_one text (declaration a) (prolog d p) = absurd (declaration_no_declaration a d)
front_one text (prolog d p) (declaration a) = absurd (declaration_no_declaration a d)
front_one text {total} {o' = o'} (prolog d p) (prolog e q) = prolog_one p (subst (λ z. FromProlog total z o') (declaration_unique e d) q)
