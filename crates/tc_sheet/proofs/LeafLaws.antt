-- What each instruction has, and the faults of its attributes and of what it holds.
use Rattle.std.proofs.Common.{◌≡◌, ℕ, List, [], ◌∷◌, refl, ap, ◌∙◌, Option, None, Some}
use Rattle.std.specs.Prelude.{codes}
use Rattle.tc_model.specs.Names.{ExpandedName}
use Rattle.tc_model.specs.RawTrees.{RawTrees, none}
use Rattle.tc_model.specs.Views.{name, raw_trees, raw_element}
use Rattle.tc_model.specs.Sheets.{Path, Test, Body, no_instruction, value, value_of_self}
use Rattle.tc_model.specs.PathText.{SelectText, ValueText}
use Rattle.tc_model.specs.SheetTextTrees.{WrittenBody}
use Rattle.tc_model.specs.SheetTextPhrases as p
use Rattle.tc_model.specs.SheetTextPhrases.{xsl_uri, IsXsl, value_of, HasOnly, IsBlank, AreCharacters, NameText, ElementNameText, Optional, Required, Tag, tag, Instruction, i_apply, i_call, i_value, i_each, i_if, i_choose, i_text, i_copy, i_element, i_attribute, i_copy_of, instruction_of, instruction_in, instructions, IsInstruction, IsBody, named, NamedInstruction}
use Rattle.std.proofs.Common.{Bool, true, false, bytes_eq, if◌then◌else◌}
use Rattle.std.proofs.lemmas.Slice.Eq.{bytes_eq-Decides}
use Rattle.tc_model.specs.declared.tree.RawElem.{RawElem}
use Rattle.tc_sheet.specs.Changes.{Change, Changed}
use Rattle.tc_sheet.specs.LookedAt.{Where, in_body, in_blank, held, IsOpened, IsIn}
use Rattle.tc_sheet.specs.LookedAt as looked
use Rattle.tc_sheet.specs.Readings.{Refuses, alone, scope_of, HasNoAttributes, HasNoRequired, HasNoOptional, HasAttributesText, HasTest, HasNoTest, IsNotBlank, HasNoCharacters, HasNoInstruction}
use Rattle.tc_sheet.specs.declared.faults.SheetFault.{SheetFault}
use Rattle.tc_sheet.proofs.Refused.{refused, by_required, by_optional}
use Rattle.tc_sheet.proofs.BodyLaws.{tag_refuses, kids_refuse}

apply_only : {t : Tag} {kids : RawTrees} {b d : WrittenBody} → IsInstruction i_apply t kids b d → HasOnly (codes "select" ∷ codes "mode" ∷ []) t.attributes
apply_only (p.apply_templates o s m k) = o

apply_select : {t : Tag} {kids : RawTrees} {b d : WrittenBody} → IsInstruction i_apply t kids b d → (q : Option Path) × Optional (SelectText t.scope) (value_of (codes "select") t.attributes) q
apply_select (p.apply_templates {path = q} o s m k) = (q, s)

apply_mode : {t : Tag} {kids : RawTrees} {b d : WrittenBody} → IsInstruction i_apply t kids b d → (n : Option ExpandedName) × Optional (NameText t.scope) (value_of (codes "mode") t.attributes) n
apply_mode (p.apply_templates {mode = n} o s m k) = (n, m)

apply_blank : {t : Tag} {kids : RawTrees} {b d : WrittenBody} → IsInstruction i_apply t kids b d → IsBlank kids
apply_blank (p.apply_templates o s m k) = k

call_only : {t : Tag} {kids : RawTrees} {b d : WrittenBody} → IsInstruction i_call t kids b d → HasOnly (codes "name" ∷ []) t.attributes
call_only (p.call_template o n k) = o

call_name : {t : Tag} {kids : RawTrees} {b d : WrittenBody} → IsInstruction i_call t kids b d → (n : ExpandedName) × Required (NameText t.scope) (value_of (codes "name") t.attributes) n
call_name (p.call_template {name = n} o m k) = (n, m)

call_blank : {t : Tag} {kids : RawTrees} {b d : WrittenBody} → IsInstruction i_call t kids b d → IsBlank kids
call_blank (p.call_template o n k) = k

value_only : {t : Tag} {kids : RawTrees} {b d : WrittenBody} → IsInstruction i_value t kids b d → HasOnly (codes "select" ∷ []) t.attributes
value_only (p.value_of_path o s k) = o
value_only (p.value_of_itself o s k) = o

value_select : {t : Tag} {kids : RawTrees} {b d : WrittenBody} → IsInstruction i_value t kids b d → (v : Body) × Required (ValueText t.scope) (value_of (codes "select") t.attributes) v
value_select (p.value_of_path {path = q} o s k) = (value q no_instruction, s)
value_select (p.value_of_itself o s k) = (value_of_self no_instruction, s)

value_blank : {t : Tag} {kids : RawTrees} {b d : WrittenBody} → IsInstruction i_value t kids b d → IsBlank kids
value_blank (p.value_of_path o s k) = k
value_blank (p.value_of_itself o s k) = k

each_only : {t : Tag} {kids : RawTrees} {b d : WrittenBody} → IsInstruction i_each t kids b d → HasOnly (codes "select" ∷ []) t.attributes
each_only (p.for_each o s i) = o

each_select : {t : Tag} {kids : RawTrees} {b d : WrittenBody} → IsInstruction i_each t kids b d → (q : Path) × Required (SelectText t.scope) (value_of (codes "select") t.attributes) q
each_select (p.for_each {path = q} o s i) = (q, s)

if_test : {t : Tag} {kids : RawTrees} {b d : WrittenBody} → IsInstruction i_if t kids b d → (u : Test) × HasTest t.scope t.attributes u
if_test (p.an_if {test = u} o s i) = (u, record { only = o; test = s })

choose_only : {t : Tag} {kids : RawTrees} {b d : WrittenBody} → IsInstruction i_choose t kids b d → HasOnly [] t.attributes
choose_only (p.a_choose o s) = o

text_only : {t : Tag} {kids : RawTrees} {b d : WrittenBody} → IsInstruction i_text t kids b d → HasOnly [] t.attributes
text_only (p.a_text_element o s) = o

text_characters : {t : Tag} {kids : RawTrees} {b d : WrittenBody} → IsInstruction i_text t kids b d → (s : List ℕ) × AreCharacters kids s
text_characters (p.a_text_element {s = s} o a) = (s, a)

copy_only : {t : Tag} {kids : RawTrees} {b d : WrittenBody} → IsInstruction i_copy t kids b d → HasOnly [] t.attributes
copy_only (p.a_copy o i) = o

element_only : {t : Tag} {kids : RawTrees} {b d : WrittenBody} → IsInstruction i_element t kids b d → HasOnly (codes "name" ∷ []) t.attributes
element_only (p.an_element o n i) = o

element_name : {t : Tag} {kids : RawTrees} {b d : WrittenBody} → IsInstruction i_element t kids b d → (m : ExpandedName) × Required (ElementNameText t.scope) (value_of (codes "name") t.attributes) m
element_name (p.an_element {m = m} o n i) = (m, n)

copy_of_only : {t : Tag} {kids : RawTrees} {b d : WrittenBody} → IsInstruction i_copy_of t kids b d → HasOnly (codes "select" ∷ []) t.attributes
copy_of_only (p.copy_of_attributes o e s k) = o

copy_of_select : {t : Tag} {kids : RawTrees} {b d : WrittenBody} → IsInstruction i_copy_of t kids b d → HasAttributesText t.scope t.attributes
copy_of_select (p.copy_of_attributes {s = s} o e a k) = record { written = s; has = e; text = a }

copy_of_blank : {t : Tag} {kids : RawTrees} {b d : WrittenBody} → IsInstruction i_copy_of t kids b d → IsBlank kids
copy_of_blank (p.copy_of_attributes o e s k) = k

pub each_body : {t : Tag} {kids : RawTrees} {b d : WrittenBody} → IsInstruction i_each t kids b d → (inner : WrittenBody) × IsBody kids inner
each_body (p.for_each {inner = inner} o s i) = (inner, i)

pub if_body : {t : Tag} {kids : RawTrees} {b d : WrittenBody} → IsInstruction i_if t kids b d → (inner : WrittenBody) × IsBody kids inner
if_body (p.an_if {inner = inner} o s i) = (inner, i)

pub copy_body : {t : Tag} {kids : RawTrees} {b d : WrittenBody} → IsInstruction i_copy t kids b d → (inner : WrittenBody) × IsBody kids inner
copy_body (p.a_copy {inner = inner} o i) = (inner, i)

pub element_body : {t : Tag} {kids : RawTrees} {b d : WrittenBody} → IsInstruction i_element t kids b d → (inner : WrittenBody) × IsBody kids inner
element_body (p.an_element {inner = inner} o n i) = (inner, i)

-- the name of an instruction
abbrev pub local_of : Instruction → List ℕ
local_of i_apply = codes "apply-templates"
local_of i_call = codes "call-template"
local_of i_value = codes "value-of"
local_of i_each = codes "for-each"
local_of i_if = codes "if"
local_of i_choose = codes "choose"
local_of i_text = codes "text"
local_of i_copy = codes "copy"
local_of i_element = codes "element"
local_of i_attribute = codes "attribute"
local_of i_copy_of = codes "copy-of"

named_back : (i : Instruction) → instruction_of (record { uri = xsl_uri; local = local_of i }) ≡ Some i
named_back i_apply = refl
named_back i_call = refl
named_back i_value = refl
named_back i_each = refl
named_back i_if = refl
named_back i_choose = refl
named_back i_text = refl
named_back i_copy = refl
named_back i_element = refl
named_back i_attribute = refl
named_back i_copy_of = refl

opened : {w : Where} {n : ExpandedName} (i : Instruction) → held i ≡ Some w → IsXsl (local_of i) n → IsOpened in_body n w
opened i e is = looked.an_instruction (ap instruction_of is ∙ named_back i) e

-- the fault of an attribute or of what an instruction holds is one of the instruction
module _ (e : RawElem) (x : SheetFault) where
  abbrev pub OfTag : (Change → Type 0) → Type 0
  OfTag P = Refuses x (alone e) P

  abbrev pub OfInstruction : Instruction → Type 0
  OfInstruction i = Refuses x (IsIn in_body (raw_element e none)) (HasNoInstruction i e)

  abbrev pub OfKids : (Change → Type 0) → Type 0
  OfKids P = Refuses x (IsIn in_blank (raw_trees e.kids.now)) P

  pub of_apply_only : IsXsl (codes "apply-templates") (name e.name) → OfTag (HasNoAttributes e (HasOnly (codes "select" ∷ codes "mode" ∷ []))) → OfInstruction i_apply
  of_apply_only n r = tag_refuses e i_apply (opened i_apply refl n) (λ olds kids b d y. apply_only y) x r

  pub of_apply_select : IsXsl (codes "apply-templates") (name e.name) → OfTag (HasNoOptional e (codes "select") (SelectText (scope_of e))) → OfInstruction i_apply
  of_apply_select n r = tag_refuses e i_apply (opened i_apply refl n) (λ olds kids b d y. apply_select y) x (refused (alone e) (by_optional e (λ olds q. q)) x r)

  pub of_apply_mode : IsXsl (codes "apply-templates") (name e.name) → OfTag (HasNoOptional e (codes "mode") (NameText (scope_of e))) → OfInstruction i_apply
  of_apply_mode n r = tag_refuses e i_apply (opened i_apply refl n) (λ olds kids b d y. apply_mode y) x (refused (alone e) (by_optional e (λ olds q. q)) x r)

  pub of_apply_blank : IsXsl (codes "apply-templates") (name e.name) → OfKids (IsNotBlank (raw_trees e.kids.now)) → OfInstruction i_apply
  of_apply_blank n r = kids_refuse e i_apply (opened i_apply refl n) (λ t kids b d y. apply_blank y) x r

  pub of_call_only : IsXsl (codes "call-template") (name e.name) → OfTag (HasNoAttributes e (HasOnly (codes "name" ∷ []))) → OfInstruction i_call
  of_call_only n r = tag_refuses e i_call (opened i_call refl n) (λ olds kids b d y. call_only y) x r

  pub of_call_name : IsXsl (codes "call-template") (name e.name) → OfTag (HasNoRequired e (codes "name") (NameText (scope_of e))) → OfInstruction i_call
  of_call_name n r = tag_refuses e i_call (opened i_call refl n) (λ olds kids b d y. call_name y) x (refused (alone e) (by_required e (λ olds q. q)) x r)

  pub of_call_blank : IsXsl (codes "call-template") (name e.name) → OfKids (IsNotBlank (raw_trees e.kids.now)) → OfInstruction i_call
  of_call_blank n r = kids_refuse e i_call (opened i_call refl n) (λ t kids b d y. call_blank y) x r

  pub of_value_only : IsXsl (codes "value-of") (name e.name) → OfTag (HasNoAttributes e (HasOnly (codes "select" ∷ []))) → OfInstruction i_value
  of_value_only n r = tag_refuses e i_value (opened i_value refl n) (λ olds kids b d y. value_only y) x r

  pub of_value_select : IsXsl (codes "value-of") (name e.name) → OfTag (HasNoRequired e (codes "select") (ValueText (scope_of e))) → OfInstruction i_value
  of_value_select n r = tag_refuses e i_value (opened i_value refl n) (λ olds kids b d y. value_select y) x (refused (alone e) (by_required e (λ olds q. q)) x r)

  pub of_value_blank : IsXsl (codes "value-of") (name e.name) → OfKids (IsNotBlank (raw_trees e.kids.now)) → OfInstruction i_value
  of_value_blank n r = kids_refuse e i_value (opened i_value refl n) (λ t kids b d y. value_blank y) x r

  pub of_each_only : IsXsl (codes "for-each") (name e.name) → OfTag (HasNoAttributes e (HasOnly (codes "select" ∷ []))) → OfInstruction i_each
  of_each_only n r = tag_refuses e i_each (opened i_each refl n) (λ olds kids b d y. each_only y) x r

  pub of_each_select : IsXsl (codes "for-each") (name e.name) → OfTag (HasNoRequired e (codes "select") (SelectText (scope_of e))) → OfInstruction i_each
  of_each_select n r = tag_refuses e i_each (opened i_each refl n) (λ olds kids b d y. each_select y) x (refused (alone e) (by_required e (λ olds q. q)) x r)

  pub of_if_test : IsXsl (codes "if") (name e.name) → OfTag (HasNoTest e) → OfInstruction i_if
  of_if_test n r = tag_refuses e i_if (opened i_if refl n) (λ olds kids b d y. if_test y) x (refused (alone e) (λ c h olds u q. let (v, a) = unpaired q in h olds v u a) x r)
    where
      unpaired : {P : Test → Type 0} → ((u : Test) × P u) → (u : Test) × P u
      unpaired q = q

  pub of_choose_only : IsXsl (codes "choose") (name e.name) → OfTag (HasNoAttributes e (HasOnly [])) → OfInstruction i_choose
  of_choose_only n r = tag_refuses e i_choose (opened i_choose refl n) (λ olds kids b d y. choose_only y) x r

  pub of_text_only : IsXsl (codes "text") (name e.name) → OfTag (HasNoAttributes e (HasOnly [])) → OfInstruction i_text
  of_text_only n r = tag_refuses e i_text (opened i_text refl n) (λ olds kids b d y. text_only y) x r

  pub of_text_characters : IsXsl (codes "text") (name e.name) → OfKids (HasNoCharacters (raw_trees e.kids.now)) → OfInstruction i_text
  of_text_characters n r = kids_refuse e i_text (opened i_text refl n) (λ t kids b d y. text_characters y) x (refused (IsIn in_blank (raw_trees e.kids.now)) uncurried x r)
    where
      uncurried : (c : Change) → HasNoCharacters (raw_trees e.kids.now) c → (k : RawTrees) → Changed c (raw_trees e.kids.now) k → (s : List ℕ) × AreCharacters k s → ⊥
      uncurried c h k u (s, a) = h k s u a

  pub of_copy_only : IsXsl (codes "copy") (name e.name) → OfTag (HasNoAttributes e (HasOnly [])) → OfInstruction i_copy
  of_copy_only n r = tag_refuses e i_copy (opened i_copy refl n) (λ olds kids b d y. copy_only y) x r

  pub of_element_only : IsXsl (codes "element") (name e.name) → OfTag (HasNoAttributes e (HasOnly (codes "name" ∷ []))) → OfInstruction i_element
  of_element_only n r = tag_refuses e i_element (opened i_element refl n) (λ olds kids b d y. element_only y) x r

  pub of_element_name : IsXsl (codes "element") (name e.name) → OfTag (HasNoRequired e (codes "name") (ElementNameText (scope_of e))) → OfInstruction i_element
  of_element_name n r = tag_refuses e i_element (opened i_element refl n) (λ olds kids b d y. element_name y) x (refused (alone e) (by_required e (λ olds q. q)) x r)

  pub of_copy_of_only : IsXsl (codes "copy-of") (name e.name) → OfTag (HasNoAttributes e (HasOnly (codes "select" ∷ []))) → OfInstruction i_copy_of
  of_copy_of_only n r = tag_refuses e i_copy_of (opened i_copy_of refl n) (λ olds kids b d y. copy_of_only y) x r

  pub of_copy_of_select : IsXsl (codes "copy-of") (name e.name) → OfTag (HasNoAttributes e (HasAttributesText (scope_of e))) → OfInstruction i_copy_of
  of_copy_of_select n r = tag_refuses e i_copy_of (opened i_copy_of refl n) (λ olds kids b d y. copy_of_select y) x r

  pub of_copy_of_blank : IsXsl (codes "copy-of") (name e.name) → OfKids (IsNotBlank (raw_trees e.kids.now)) → OfInstruction i_copy_of
  of_copy_of_blank n r = kids_refuse e i_copy_of (opened i_copy_of refl n) (λ t kids b d y. copy_of_blank y) x r

abbrev AreNamed : List NamedInstruction → Type 0
AreNamed [] = Unit {0}
AreNamed (x ∷ xs) = (x.local ≡ local_of x.instruction) × AreNamed xs

named_so : AreNamed instructions
named_so = (refl, (refl, (refl, (refl, (refl, (refl, (refl, (refl, (refl, (refl, (refl, tt)))))))))))

no_some : {X : Type 0} {x : X} {Y : Type 0} (o : Option X) → o ≡ None → o ≡ Some x → Y
no_some o e f = absurd (differ o e f)
  where
    differ : {X : Type 0} {x : X} (o : Option X) → o ≡ None → o ≡ Some x → ⊥
    differ o e f = cc

same : {X : Type 0} {u v : X} → Some u ≡ Some v → u ≡ v
same e = cc

name_row : (local : List ℕ) (i : Instruction) (x : NamedInstruction) (xs : List NamedInstruction) → x.local ≡ local_of x.instruction → (instruction_in xs local ≡ Some i → local ≡ local_of i)
    → (b : Bool) → bytes_eq local x.local ≡ b → (if b then Some x.instruction else instruction_in xs local) ≡ Some i → local ≡ local_of i
name_row local i x xs a rest true f g = (bytes_eq-Decides local x.local).0 f ∙ (a ∙ ap local_of (same g))
name_row local i x xs a rest false f g = rest g

name_in : (xs : List NamedInstruction) (local : List ℕ) (i : Instruction) → AreNamed xs → instruction_in xs local ≡ Some i → local ≡ local_of i
name_in [] local i a e = no_some None refl e
name_in (x ∷ xs) local i a e = name_row local i x xs a.0 (λ f. name_in xs local i a.1 f) (bytes_eq local x.local) refl e

pub instruction_name : (n : ExpandedName) (i : Instruction) → instruction_of n ≡ Some i → IsXsl (local_of i) n
instruction_name n i e = by (bytes_eq n.uri xsl_uri) refl e
  where
    by : (b : Bool) → bytes_eq n.uri xsl_uri ≡ b → (if b then instruction_in instructions n.local else None) ≡ Some i → IsXsl (local_of i) n
    by true f g = let u = (bytes_eq-Decides n.uri xsl_uri).0 f in let l = name_in instructions n.local i named_so g in λ j. record { uri = u j; local = l j }
    by false f g = no_some None refl g
