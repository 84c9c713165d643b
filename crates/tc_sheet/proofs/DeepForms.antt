-- A select, pattern or test that is looked at and read, and that nests too deep: with it no tree is a stylesheet once what isn't supported is taken away and
-- renamed.
use Rattle.std.proofs.Common.{◌≡◌, ◌⊎◌, inl, inr, ℕ, ◌<◌, Bool, true, false, ◌&&◌, if◌then◌else◌, max, List, refl, ap, sym, subst, Option, None, Some, bytes_eq}
use Rattle.std.specs.Prelude.{codes}
use Rattle.tc_model.specs.Names.{ExpandedName}
use Rattle.tc_model.specs.RawTrees.{Attribute, RawTrees, none, text, element}
use Rattle.tc_model.specs.PathTextTokens.{Token, Tokens, most_open, open_behind, IsTooDeep, deepest_nesting}
use Rattle.tc_model.specs.PathText.{Forms, IsSelect, IsAttributes, IsValue, IsTest, IsPattern}
use Rattle.tc_model.specs.SheetTextTrees.{WrittenBody, WrittenBranches, Template}
use Rattle.tc_model.specs.SheetTextPhrases as p
use Rattle.tc_model.specs.SheetTextPhrases.{xsl_uri, IsXsl, value_of, IsBlank, AreCharacters, Optional, given, Required, is_given, Tag, tag, Instruction, i_apply, i_call, i_value, i_each, i_if, i_choose, i_text, i_copy, i_element, i_attribute, i_copy_of, instruction_of, IsBody, IsInstruction, AreBranches, AreTemplates, IsStylesheet}
use Rattle.tc_model.proofs.PathTextLexing.{tokens_unique}
use Rattle.tc_path.specs.Faults.{Deep}
use Rattle.tc_path.specs.Reasons.{Renamed, no_more, as_it_is, a_number, a_literal, a_variable}
use Rattle.tc_sheet.specs.Changes.{mended, IsRenamed, ChangedAttributes, Changed, no_tree, a_text, an_element, taken_away}
use Rattle.tc_sheet.specs.Constructs.{Form, IsRoot, MustHave, of_apply, of_each, of_copy, of_value, of_match, of_if, of_when, IsUnrefusedElement}
use Rattle.tc_sheet.specs.LookedAt.{Where, at_top, in_body, in_choose, in_blank, held, behind, Item, of_text, of_root, of_element, of_attribute, IsOpened, a_template, a_literal, an_instruction, a_when, an_otherwise, IsIn, at_text, beside_text, at_element, at_attribute, inside, beside_element, IsLookedAt, the_root, has_root, within}
use Rattle.tc_sheet.proofs.Changes.{Becomes, value_becomes}
use Rattle.tc_sheet.proofs.LessChanged.{when_stands, otherwise_stands}
use Rattle.tc_sheet.proofs.Refusals.{nothing_there}
use Rattle.tc_sheet.proofs.SameBodies.{some_is, not_literal, when_or_otherwise, no_declaration, uri_is}
use Rattle.tc_sheet.proofs.Unrefused.{none_some, unrefused_stays, literal_unrefused, instruction_unrefused, part_unrefused, template_unrefused, root_unrefused, form_there, its_form, form_weighed, its_weighed, must_be_xslt, must_be_unrefused}

-- renaming changes no nesting
renamed_open : {ts us : List Token} (n : ℕ) → Renamed ts us → most_open n ts ≡ most_open n us
renamed_open n no_more = refl
renamed_open n (as_it_is {t = t} r) = ap (max n) (renamed_open (open_behind n t) r)
renamed_open n (a_number r) = ap (max n) (renamed_open n r)
renamed_open n (a_literal r) = ap (max n) (renamed_open n r)
renamed_open n (a_variable r) = ap (max n) (renamed_open n r)

pub renamed_deep : {ts us : List Token} → Renamed ts us → IsTooDeep ts → IsTooDeep us
renamed_deep r d = subst (λ n. deepest_nesting < n) (renamed_open 0 r) d

-- this stands in an attribute that is read
pub record IsReadDeep (t : Tag) (a : Attribute) : Type 0 where
  pub form : Form
  pub must : MustHave t.name a.name form
  pub first : value_of a.name.local t.attributes ≡ Some a.value
  pub deep : Deep a.value

abbrev pub ReadsDeep : Item → Type 0
ReadsDeep (of_text q) = ⊥
ReadsDeep (of_root t) = ⊥
ReadsDeep (of_element t) = ⊥
ReadsDeep (of_attribute t a) = IsReadDeep t a

-- what it is renamed to has no form
module _ {s : List ℕ} (d : Deep s) where
  formless : (Q : List Token → Type 0) (t : List ℕ) {P : Type 0} → (t ≡ s) ⊎ (P × IsRenamed s t) → Forms Q t → ⊥
  formless Q t (inl e) m = m.not_too_deep (subst IsTooDeep (tokens_unique (subst (λ w. Tokens w d.tokens) (sym e) d.are_tokens) m.are_tokens) d.too_deep)
  formless Q t (inr (e, r)) m =
      m.not_too_deep (subst IsTooDeep (tokens_unique r.after m.are_tokens) (renamed_deep r.renames (subst IsTooDeep (tokens_unique d.are_tokens r.before) d.too_deep)))

  required_none : {X : Type 0} (P : X → List Token → Type 0) (local : List ℕ) {olds bs : List Attribute} {x : X} → value_of local olds ≡ Some s → ChangedAttributes mended olds bs
      → Required (λ s x. Forms (P x) s) (value_of local bs) x → ⊥
  required_none P local {olds} {bs} {x} e h r = by (value_of local bs) (subst (λ o. Becomes mended local o (value_of local bs)) e (value_becomes mended local h)) r
    where
      by : (u : Option (List ℕ)) → Becomes mended local (Some s) u → Required (λ s x. Forms (P x) s) u x → ⊥
      by u (t, g, k) (is_given {s = v} m) = formless (P x) t k (subst (Forms (P x)) (some_is refl g) m)

  optional_none : {X : Type 0} (P : X → List Token → Type 0) (local : List ℕ) {olds bs : List Attribute} {x : Option X} → value_of local olds ≡ Some s → ChangedAttributes mended olds bs
      → Optional (λ s x. Forms (P x) s) (value_of local bs) x → ⊥
  optional_none {X} P local {olds} {bs} {x} e h r = by (value_of local bs) x (subst (λ o. Becomes mended local o (value_of local bs)) e (value_becomes mended local h)) r
    where
      no_value : {t : List ℕ} → None ≡ Some t → ⊥
      no_value e = cc

      by : (u : Option (List ℕ)) (x : Option X) → Becomes mended local (Some s) u → Optional (λ s x. Forms (P x) s) u x → ⊥
      by u x (t, g, k) p.left_out = no_value g
      by u x (t, g, k) (given {x = y} m) = formless (P y) t k (subst (Forms (P y)) (some_is refl g) m)

  -- in an instruction
  module _ {t : Tag} {olds : List Attribute} (h : ChangedAttributes mended olds t.attributes) where
    apply_none : {k : RawTrees} {b e : WrittenBody} → value_of (codes "select") olds ≡ Some s → IsInstruction i_apply t k b e → ⊥
    apply_none g (p.apply_templates o r m y) = optional_none (IsSelect t.scope) (codes "select") g h r

    each_none : {k : RawTrees} {b e : WrittenBody} → value_of (codes "select") olds ≡ Some s → IsInstruction i_each t k b e → ⊥
    each_none g (p.for_each o r y) = required_none (IsSelect t.scope) (codes "select") g h r

    copy_none : {k : RawTrees} {b e : WrittenBody} → value_of (codes "select") olds ≡ Some s → IsInstruction i_copy_of t k b e → ⊥
    copy_none g (p.copy_of_attributes o v r y) =
        required_none (λ (x : Unit {0}). IsAttributes t.scope) (codes "select") {x = tt} g h (subst (λ o. Required (λ s (x : Unit {0}). Forms (IsAttributes t.scope) s) o tt) (sym v) (is_given r))

    value_none : {k : RawTrees} {b e : WrittenBody} → value_of (codes "select") olds ≡ Some s → IsInstruction i_value t k b e → ⊥
    value_none g (p.value_of_path o r y) = required_none (IsValue t.scope) (codes "select") g h r
    value_none g (p.value_of_itself o r y) = required_none (IsValue t.scope) (codes "select") g h r

    if_none : {k : RawTrees} {b e : WrittenBody} → value_of (codes "test") olds ≡ Some s → IsInstruction i_if t k b e → ⊥
    if_none g (p.an_if o r y) = required_none (IsTest t.scope) (codes "test") g h r

    instruction_none : {k : RawTrees} {b e : WrittenBody} {m : ExpandedName} {f : Form} {i : Instruction} → MustHave t.name m f → value_of m.local olds ≡ Some s → instruction_of t.name ≡ Some i → IsInstruction i t k b e → ⊥
    instruction_none {k} {b} {e} (of_apply is) g j u = apply_none g (subst (λ i. IsInstruction i t k b e) (some_is j (ap instruction_of is)) u)
    instruction_none {k} {b} {e} (of_each is) g j u = each_none g (subst (λ i. IsInstruction i t k b e) (some_is j (ap instruction_of is)) u)
    instruction_none {k} {b} {e} (of_copy is) g j u = copy_none g (subst (λ i. IsInstruction i t k b e) (some_is j (ap instruction_of is)) u)
    instruction_none {k} {b} {e} (of_value is) g j u = value_none g (subst (λ i. IsInstruction i t k b e) (some_is j (ap instruction_of is)) u)
    instruction_none (of_match is) g j u = none_some (ap instruction_of is) j
    instruction_none {k} {b} {e} (of_if is) g j u = if_none g (subst (λ i. IsInstruction i t k b e) (some_is j (ap instruction_of is)) u)
    instruction_none (of_when is) g j u = none_some (ap instruction_of is) j

opened_unrefused : {w v : Where} (n : ExpandedName) → IsOpened w n v → IsUnrefusedElement n
opened_unrefused n (a_template is) = template_unrefused n is
opened_unrefused n (a_literal u) = literal_unrefused n u
opened_unrefused n (an_instruction {i = i} e f) = instruction_unrefused n i e
opened_unrefused n (a_when is) = part_unrefused n (codes "when") refl refl is
opened_unrefused n (an_otherwise is) = part_unrefused n (codes "otherwise") refl refl is

not_opened : {n : ExpandedName} {v : Where} → IsOpened in_blank n v → ⊥
not_opened o = elim o [ ]

blank_none : (h : RawTrees) {x : Item} → IsIn in_blank h x → ReadsDeep x → ⊥
blank_none none g d = nothing_there g
blank_none (text s q h) at_text d = d
blank_none (text s q h) (beside_text g) d = blank_none h g d
blank_none (element n olds scope q kids rest) at_element d = d
blank_none (element n olds scope q kids rest) (at_attribute o has) d = not_opened o
blank_none (element n olds scope q kids rest) (inside o g) d = not_opened o
blank_none (element n olds scope q kids rest) (beside_element g) d = blank_none rest g d

-- behind an element of an `xsl:choose`
sides : (b : Bool) {h : RawTrees} {x : Item} → IsIn (if b then in_blank else in_choose) h x → IsIn in_blank h x ⊎ IsIn in_choose h x
sides true g = inl g
sides false g = inr g

either_side : {h : RawTrees} {x : Item} → ReadsDeep x → IsIn in_blank h x ⊎ IsIn in_choose h x → (IsIn in_choose h x → ⊥) → ⊥
either_side {h} d (inl g) f = blank_none h g d
either_side d (inr g) f = f g

mutual
  body_none : {h k : RawTrees} {b : WrittenBody} {x : Item} → IsIn in_body h x → ReadsDeep x → Changed mended h k → IsBody k b → ⊥
  body_none g d no_tree a = nothing_there g
  body_none at_text d (a_text h) a = d
  body_none (beside_text g) d (a_text h) (p.past_white w a) = body_none g d h a
  body_none (beside_text g) d (a_text h) (p.a_text w a) = body_none g d h a
  body_none at_element d (an_element x i h) a = d
  body_none (at_attribute o has) d (an_element x i h) (p.a_literal u r j a) = u (must_be_xslt d.must)
  body_none (at_attribute o has) d (an_element x i h) (p.an_instruction e s a) = instruction_none d.deep x d.must d.first e s
  body_none (inside (a_literal v) g) d (an_element x i h) (p.a_literal u r j a) = body_none g d i j
  body_none (inside (a_literal v) g) d (an_element {n = n} x i h) (p.an_instruction {i = y} e s a) = not_literal n y e v
  body_none (inside (an_instruction {i = y} e f) g) d (an_element {n = n} x i h) (p.a_literal u r j a) = not_literal n y e u
  body_none (inside (an_instruction {w = v} e f) g) d (an_element x i h) (p.an_instruction u s a) = inside_none (subst (λ y. held y ≡ Some v) (some_is e u) f) g d i s
  body_none (beside_element g) d (an_element x i h) (p.a_literal u r j a) = body_none g d h a
  body_none (beside_element g) d (an_element x i h) (p.an_instruction e s a) = body_none g d h a
  body_none at_element d (taken_away t h) a = d
  body_none (at_attribute o has) d (taken_away {n = n} t h) a = unrefused_stays mended n (must_be_unrefused n d.must) t
  body_none (inside o g) d (taken_away {n = n} t h) a = unrefused_stays mended n (opened_unrefused n o) t
  body_none (beside_element g) d (taken_away t h) a = body_none g d h a

  -- in what an instruction holds
  inside_none : {h k : RawTrees} {t : Tag} {v : Where} {i : Instruction} {b e : WrittenBody} {x : Item} → held i ≡ Some v → IsIn v h x → ReadsDeep x → Changed mended h k → IsInstruction i t k b e → ⊥
  inside_none {h} {x = x} f g d i (p.apply_templates o s m y) = blank_none h (subst (λ w. IsIn w h x) (some_is f refl) g) d
  inside_none {h} {x = x} f g d i (p.call_template o m y) = blank_none h (subst (λ w. IsIn w h x) (some_is f refl) g) d
  inside_none {h} {x = x} f g d i (p.value_of_path o s y) = blank_none h (subst (λ w. IsIn w h x) (some_is f refl) g) d
  inside_none {h} {x = x} f g d i (p.value_of_itself o s y) = blank_none h (subst (λ w. IsIn w h x) (some_is f refl) g) d
  inside_none {h} {x = x} f g d i (p.for_each o s y) = body_none (subst (λ w. IsIn w h x) (some_is f refl) g) d i y
  inside_none {h} {x = x} f g d i (p.an_if o s y) = body_none (subst (λ w. IsIn w h x) (some_is f refl) g) d i y
  inside_none {h} {x = x} f g d i (p.a_choose o s) = branches_none (subst (λ w. IsIn w h x) (some_is f refl) g) d i s
  inside_none {h} {x = x} f g d i (p.a_text_element o s) = blank_none h (subst (λ w. IsIn w h x) (some_is f refl) g) d
  inside_none {h} {x = x} f g d i (p.a_copy o y) = body_none (subst (λ w. IsIn w h x) (some_is f refl) g) d i y
  inside_none {h} {x = x} f g d i (p.an_element o m y) = body_none (subst (λ w. IsIn w h x) (some_is f refl) g) d i y
  inside_none f g d i p.an_attribute = none_some refl f
  inside_none {h} {x = x} f g d i (p.copy_of_attributes o e s y) = blank_none h (subst (λ w. IsIn w h x) (some_is f refl) g) d

  branches_none : {h k : RawTrees} {b : WrittenBranches} {x : Item} → IsIn in_choose h x → ReadsDeep x → Changed mended h k → AreBranches k b → ⊥
  branches_none g d no_tree a = nothing_there g
  branches_none at_text d (a_text h) a = d
  branches_none (beside_text g) d (a_text h) (p.between w a) = branches_none g d h a
  branches_none at_element d (an_element x i h) a = d
  branches_none (at_attribute {a = y} o has) d (an_element {olds = olds} {scope = scope} x i h) (p.a_when t s j a) =
      required_none d.deep (IsTest scope) (codes "test") (subst (λ w. value_of w olds ≡ Some y.value) (some_is (form_weighed d.must) (ap its_weighed t.name)) d.first) x s
  branches_none (at_attribute o has) d (an_element x i h) (p.an_otherwise t j a) = none_some (ap its_form t.name) (form_there d.must)
  branches_none (inside (a_when w) g) d (an_element x i h) (p.a_when t s j a) = body_none g d i j
  branches_none (inside (an_otherwise w) g) d (an_element {n = n} x i h) (p.a_when t s j a) = when_or_otherwise n t.name w
  branches_none (inside (a_when w) g) d (an_element {n = n} x i h) (p.an_otherwise t j a) = when_or_otherwise n w t.name
  branches_none (inside (an_otherwise w) g) d (an_element x i h) (p.an_otherwise t j a) = body_none g d i j
  branches_none {x = y} (beside_element g) d (an_element {n = n} {rest = rest} x i h) (p.a_when t s j a) = branches_none (subst (λ w. IsIn w rest y) (when_stands n t.name) g) d h a
  branches_none {x = y} (beside_element g) d (an_element {n = n} {rest = rest} x i h) (p.an_otherwise t j a) = blank_none rest (subst (λ w. IsIn w rest y) (otherwise_stands n t.name) g) d
  branches_none at_element d (taken_away t h) a = d
  branches_none (at_attribute o has) d (taken_away {n = n} t h) a = unrefused_stays mended n (must_be_unrefused n d.must) t
  branches_none (inside o g) d (taken_away {n = n} t h) a = unrefused_stays mended n (opened_unrefused n o) t
  branches_none (beside_element g) d (taken_away {n = n} t h) a =
      either_side d (sides (bytes_eq n.uri xsl_uri && bytes_eq n.local (codes "otherwise")) g) (λ v. branches_none v d h a)

templates_none : {h k : RawTrees} {ts : List Template} {x : Item} → IsIn at_top h x → ReadsDeep x → Changed mended h k → AreTemplates k ts → ⊥
templates_none g d no_tree a = nothing_there g
templates_none at_text d (a_text h) a = d
templates_none (beside_text g) d (a_text h) (p.past_white w a) = templates_none g d h a
templates_none at_element d (an_element x i h) a = d
templates_none (at_attribute {a = y} o has) d (an_element {olds = olds} {scope = scope} x i h) (p.a_template t a) =
    optional_none d.deep (IsPattern scope) (codes "match") (subst (λ w. value_of w olds ≡ Some y.value) (some_is (form_weighed d.must) (ap its_weighed t.is_template.name)) d.first) x t.pattern
templates_none (inside (a_template is) g) d (an_element x i h) (p.a_template t a) = body_none g d i t.body
templates_none (at_attribute (a_template is) has) d (an_element {n = n} x i h) (p.past_declaration e a) = no_declaration mended n is e
templates_none (inside (a_template is) g) d (an_element {n = n} x i h) (p.past_declaration e a) = no_declaration mended n is e
templates_none (at_attribute (a_template is) has) d (an_element {n = n} x i h) (p.past_other u v a) = v (uri_is mended n (codes "template") is)
templates_none (inside (a_template is) g) d (an_element {n = n} x i h) (p.past_other u v a) = v (uri_is mended n (codes "template") is)
templates_none (beside_element g) d (an_element x i h) (p.a_template t a) = templates_none g d h a
templates_none (beside_element g) d (an_element x i h) (p.past_declaration e a) = templates_none g d h a
templates_none (beside_element g) d (an_element x i h) (p.past_other u v a) = templates_none g d h a
templates_none at_element d (taken_away t h) a = d
templates_none (at_attribute o has) d (taken_away {n = n} t h) a = unrefused_stays mended n (must_be_unrefused n d.must) t
templates_none (inside o g) d (taken_away {n = n} t h) a = unrefused_stays mended n (opened_unrefused n o) t
templates_none (beside_element g) d (taken_away t h) a = templates_none g d h a

root_must : {n m : ExpandedName} {f : Form} → IsRoot n → MustHave n m f → ⊥
root_must (inl is) must = none_some (ap its_form is) (form_there must)
root_must (inr is) must = none_some (ap its_form is) (form_there must)

pub stylesheet_none : {h k : RawTrees} {ts : List Template} {x : Item} → IsLookedAt h x → ReadsDeep x → Changed mended h k → IsStylesheet k ts → ⊥
stylesheet_none the_root d c a = d
stylesheet_none (has_root is has) d c a = root_must is d.must
stylesheet_none (within is g) d (an_element x i h) (p.a_stylesheet n o e a) = templates_none g d i a
stylesheet_none (within is g) d (taken_away {n = n} t h) a = unrefused_stays mended n (root_unrefused n is) t
