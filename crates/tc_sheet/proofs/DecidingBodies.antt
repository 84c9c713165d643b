-- Which trees are bodies, branches, templates and stylesheets.
use Rattle.std.proofs.Common.{◌≡◌, ◌≢◌, ◌⊎◌, inl, inr, ℕ, ℤ, Bool, true, false, List, [], ◌∷◌, refl, subst, Option, None, Some, IsTrue}
use Rattle.std.specs.Prelude.{codes}
use Rattle.tc_model.specs.Names.{ExpandedName}
use Rattle.tc_model.specs.RawTrees.{Attribute, Bound, RawTrees, none, text, element}
use Rattle.tc_model.specs.Trees.{is_white_space_only}
use Rattle.tc_model.specs.Sheets.{Path, Test, Body, no_instruction, value, value_of_self}
use Rattle.tc_model.specs.PathTextTokens.{Token}
use Rattle.tc_model.specs.PathTextPhrases.{Alternative}
use Rattle.tc_model.specs.PathTextPriority.{PriorityText}
use Rattle.tc_model.specs.PathText.{IsValue, of_self, of_path, SelectText, AttributesText, ValueText, PatternText, TestText}
use Rattle.tc_model.specs.SheetTextTrees.{WrittenBody, w_nothing, w_text, w_element, w_copy, w_apply, w_call, w_value, w_self, w_choose, w_each, WrittenBranches, w_otherwise, w_branch, Template}
use Rattle.tc_model.specs.SheetTextPhrases as p
use Rattle.tc_model.specs.SheetTextPhrases.{xsl_uri, IsXsl, value_of, HasOnly, AreLiteral, IsBlank, AreCharacters, NameText, ElementNameText, Optional, left_out, given, Required, is_given, or_all_children, with_priority, or_none, Tag, tag, Instruction, i_apply, i_call, i_value, i_each, i_if, i_choose, i_text, i_copy, i_element, i_attribute, i_copy_of, instruction_of, IsBody, IsInstruction, AreBranches, IsTemplate, AreTemplates, IsStylesheet}
use Rattle.tc_sheet.specs.Changes.{mended}
use Rattle.tc_sheet.proofs.Changes.{as_they_are}
use Rattle.tc_sheet.proofs.SameBodies.{some_is, not_literal, when_or_otherwise, branches_same, no_declaration, uri_is}
use Rattle.tc_sheet.proofs.DecidingBytes.{Decided, SomeOrNone, none_some, some_no_none, none_is, bytes_are, is_true}
use Rattle.tc_sheet.proofs.DecidingForms.{select_text_here, value_text_here, pattern_text_here, test_text_here, attributes_text_here}
use Rattle.tc_sheet.proofs.DecidingAttributes.{both, either, is_not, some_of, only_here, literal_here, value_is, xsl_is, optional_here, required_here, name_text_here, element_name_text_here, priority_here, blank_here, characters_here}

-- an instruction before any body
abbrev InstructionHere : Instruction → Tag → RawTrees → Type 0
InstructionHere i t kids = ((b : WrittenBody) → (c : WrittenBody) × IsInstruction i t kids b c) ⊎ ((b c : WrittenBody) → IsInstruction i t kids b c → ⊥)

-- what each instruction must have
module _ (t : Tag) (kids : RawTrees) where
  abbrev Applies : Type 0
  Applies =
      HasOnly (codes "select" ∷ codes "mode" ∷ []) t.attributes
      × (((q : Option Path) × Optional (SelectText t.scope) (value_of (codes "select") t.attributes) q) × (((m : Option ExpandedName) × Optional (NameText t.scope) (value_of (codes "mode") t.attributes) m) × IsBlank kids))

  abbrev Calls : Type 0
  Calls = HasOnly (codes "name" ∷ []) t.attributes × (((n : ExpandedName) × Required (NameText t.scope) (value_of (codes "name") t.attributes) n) × IsBlank kids)

  abbrev Values : Type 0
  Values = HasOnly (codes "select" ∷ []) t.attributes × (((v : Body) × Required (ValueText t.scope) (value_of (codes "select") t.attributes) v) × IsBlank kids)

  abbrev Eaches : Type 0
  Eaches = HasOnly (codes "select" ∷ []) t.attributes × (((q : Path) × Required (SelectText t.scope) (value_of (codes "select") t.attributes) q) × ((b : WrittenBody) × IsBody kids b))

  abbrev Ifs : Type 0
  Ifs = HasOnly (codes "test" ∷ []) t.attributes × (((u : Test) × Required (TestText t.scope) (value_of (codes "test") t.attributes) u) × ((b : WrittenBody) × IsBody kids b))

  abbrev Chosen : Type 0
  Chosen = (u : Test) × ((b : WrittenBody) × ((x : WrittenBranches) × AreBranches kids (w_branch u b x)))

  abbrev Elements : Type 0
  Elements = HasOnly (codes "name" ∷ []) t.attributes × (((m : ExpandedName) × Required (ElementNameText t.scope) (value_of (codes "name") t.attributes) m) × ((b : WrittenBody) × IsBody kids b))

  abbrev Copied : Type 0
  Copied = (s : List ℕ) × ((value_of (codes "select") t.attributes ≡ Some s) × AttributesText t.scope s)

no_apply : (t : Tag) (kids : RawTrees) → (Applies t kids → ⊥) → (b c : WrittenBody) → IsInstruction i_apply t kids b c → ⊥
no_apply t kids h b c (p.apply_templates {path = q} {mode = m} o s n y) = h (o, ((q, s), ((m, n), y)))

no_call : (t : Tag) (kids : RawTrees) → (Calls t kids → ⊥) → (b c : WrittenBody) → IsInstruction i_call t kids b c → ⊥
no_call t kids h b c (p.call_template {name = m} o n y) = h (o, ((m, n), y))

no_value : (t : Tag) (kids : RawTrees) → (Values t kids → ⊥) → (b c : WrittenBody) → IsInstruction i_value t kids b c → ⊥
no_value t kids h b c (p.value_of_path {path = q} o s y) = h (o, ((value q no_instruction, s), y))
no_value t kids h b c (p.value_of_itself o s y) = h (o, ((value_of_self no_instruction, s), y))

no_each : (t : Tag) (kids : RawTrees) → (Eaches t kids → ⊥) → (b c : WrittenBody) → IsInstruction i_each t kids b c → ⊥
no_each t kids h b c (p.for_each {path = q} {inner = z} o s y) = h (o, ((q, s), (z, y)))

no_if : (t : Tag) (kids : RawTrees) → (Ifs t kids → ⊥) → (b c : WrittenBody) → IsInstruction i_if t kids b c → ⊥
no_if t kids h b c (p.an_if {test = u} {inner = z} o s y) = h (o, ((u, s), (z, y)))

no_choose : (t : Tag) (kids : RawTrees) → (HasOnly [] t.attributes × Chosen t kids → ⊥) → (b c : WrittenBody) → IsInstruction i_choose t kids b c → ⊥
no_choose t kids h b c (p.a_choose {test = u} {inner = z} {others = x} o y) = h (o, (u, (z, (x, y))))

no_text : (t : Tag) (kids : RawTrees) → (HasOnly [] t.attributes × ((s : List ℕ) × AreCharacters kids s) → ⊥) → (b c : WrittenBody) → IsInstruction i_text t kids b c → ⊥
no_text t kids h b c (p.a_text_element {s = s} o y) = h (o, (s, y))

no_copy : (t : Tag) (kids : RawTrees) → (HasOnly [] t.attributes × ((z : WrittenBody) × IsBody kids z) → ⊥) → (b c : WrittenBody) → IsInstruction i_copy t kids b c → ⊥
no_copy t kids h b c (p.a_copy {inner = z} o y) = h (o, (z, y))

no_element : (t : Tag) (kids : RawTrees) → (Elements t kids → ⊥) → (b c : WrittenBody) → IsInstruction i_element t kids b c → ⊥
no_element t kids h b c (p.an_element {inner = z} {m = m} o n y) = h (o, ((m, n), (z, y)))

no_copy_of : (t : Tag) (kids : RawTrees) → (HasOnly (codes "select" ∷ []) t.attributes × (Copied t kids × IsBlank kids) → ⊥) → (b c : WrittenBody) → IsInstruction i_copy_of t kids b c → ⊥
no_copy_of t kids h b c (p.copy_of_attributes {s = s} o e m y) = h (o, ((s, (e, m)), y))

-- a value is `.`, or a path
value_shape : (scope : List Bound) (v : Body) (ts : List Token) → IsValue scope v ts → (v ≡ value_of_self no_instruction) ⊎ ((q : Path) × (v ≡ value q no_instruction))
value_shape scope v ts of_self = inl refl
value_shape scope v ts (of_path {p = q} a) = inr (q, refl)

required_shape : (scope : List Bound) (o : Option (List ℕ)) (v : Body) → Required (ValueText scope) o v → (v ≡ value_of_self no_instruction) ⊎ ((q : Path) × (v ≡ value q no_instruction))
required_shape scope o v (is_given m) = value_shape scope v m.tokens m.phrase

otherwise_or_branch : {b c : WrittenBody} {u : Test} {x : WrittenBranches} → w_otherwise b ≡ w_branch u c x → ⊥
otherwise_or_branch e = cc

chosen_here : (t : Tag) (kids : RawTrees) → SomeOrNone (AreBranches kids) → Decided (Chosen t kids)
chosen_here t kids (inl (w_branch u b x, a)) = inl (u, (b, (x, a)))
chosen_here t kids (inl (w_otherwise b, a)) = inr (λ z. otherwise_or_branch (branches_same mended (as_they_are mended kids) a z.1.1.1))
chosen_here t kids (inr h) = inr (λ z. h (w_branch z.0 z.1.0 z.1.1.0) z.1.1.1)

copied_here : (t : Tag) (kids : RawTrees) → Decided (Copied t kids)
copied_here t kids = by (value_of (codes "select") t.attributes) refl
  where
    with_value : (s : List ℕ) → value_of (codes "select") t.attributes ≡ Some s → Decided (AttributesText t.scope s) → Decided (Copied t kids)
    with_value s e (inl a) = inl (s, (e, a))
    with_value s e (inr h) = inr (λ z. h (subst (AttributesText t.scope) (some_is z.1.0 e) z.1.1))

    by : (o : Option (List ℕ)) → value_of (codes "select") t.attributes ≡ o → Decided (Copied t kids)
    by None e = inr (λ z. none_some e z.1.0)
    by (Some s) e = with_value s e (attributes_text_here t.scope s)

select_here : (t : Tag) → Decided ((q : Path) × Required (SelectText t.scope) (value_of (codes "select") t.attributes) q)
select_here t = some_of (required_here (SelectText t.scope) (select_text_here t.scope) (value_of (codes "select") t.attributes))

test_here : (scope : List Bound) (attributes : List Attribute) → Decided ((u : Test) × Required (TestText scope) (value_of (codes "test") attributes) u)
test_here scope attributes = some_of (required_here (TestText scope) (test_text_here scope) (value_of (codes "test") attributes))

apply_here : (t : Tag) (kids : RawTrees) → InstructionHere i_apply t kids
apply_here t kids = elim (both (only_here (codes "select" ∷ codes "mode" ∷ []) t.attributes) (both (some_of (optional_here (SelectText t.scope) (select_text_here t.scope) (value_of (codes "select") t.attributes))) (both (some_of (optional_here (NameText t.scope) (name_text_here t.scope) (value_of (codes "mode") t.attributes))) (blank_here kids)))) [
  | inl (o, ((q, s), ((m, n), y))) ↦ inl (λ b. (w_apply (or_all_children q) m b, p.apply_templates o s n y))
  | inr h ↦ inr (no_apply t kids h)
]

call_here : (t : Tag) (kids : RawTrees) → InstructionHere i_call t kids
call_here t kids = elim (both (only_here (codes "name" ∷ []) t.attributes) (both (some_of (required_here (NameText t.scope) (name_text_here t.scope) (value_of (codes "name") t.attributes))) (blank_here kids))) [
  | inl (o, ((m, n), y)) ↦ inl (λ b. (w_call m t.place b, p.call_template o n y))
  | inr h ↦ inr (no_call t kids h)
]

value_here : (t : Tag) (kids : RawTrees) → InstructionHere i_value t kids
value_here t kids = elim (both (only_here (codes "select" ∷ []) t.attributes) (both (some_of (required_here (ValueText t.scope) (value_text_here t.scope) (value_of (codes "select") t.attributes))) (blank_here kids))) [
  | inl (o, ((v, s), y)) ↦ inl (λ b. made o v s y b (required_shape t.scope (value_of (codes "select") t.attributes) v s))
  | inr h ↦ inr (no_value t kids h)
]
  where
    made : HasOnly (codes "select" ∷ []) t.attributes → (v : Body) → Required (ValueText t.scope) (value_of (codes "select") t.attributes) v → IsBlank kids → (b : WrittenBody)
        → (v ≡ value_of_self no_instruction) ⊎ ((q : Path) × (v ≡ value q no_instruction)) → (c : WrittenBody) × IsInstruction i_value t kids b c
    made o v s y b (inl e) = (w_self b, p.value_of_itself o (subst (Required (ValueText t.scope) (value_of (codes "select") t.attributes)) e s) y)
    made o v s y b (inr (q, e)) = (w_value q b, p.value_of_path o (subst (Required (ValueText t.scope) (value_of (codes "select") t.attributes)) e s) y)

each_here : (t : Tag) (kids : RawTrees) → SomeOrNone (IsBody kids) → InstructionHere i_each t kids
each_here t kids k = elim (both (only_here (codes "select" ∷ []) t.attributes) (both (select_here t) (some_of k))) [
  | inl (o, ((q, s), (z, y))) ↦ inl (λ b. (w_each q z b, p.for_each o s y))
  | inr h ↦ inr (no_each t kids h)
]

if_here : (t : Tag) (kids : RawTrees) → SomeOrNone (IsBody kids) → InstructionHere i_if t kids
if_here t kids k = elim (both (only_here (codes "test" ∷ []) t.attributes) (both (test_here t.scope t.attributes) (some_of k))) [
  | inl (o, ((u, s), (z, y))) ↦ inl (λ b. (w_choose (w_branch u z (w_otherwise w_nothing)) b, p.an_if o s y))
  | inr h ↦ inr (no_if t kids h)
]

choose_here : (t : Tag) (kids : RawTrees) → SomeOrNone (AreBranches kids) → InstructionHere i_choose t kids
choose_here t kids k = elim (both (only_here [] t.attributes) (chosen_here t kids k)) [
  | inl (o, (u, (z, (x, y)))) ↦ inl (λ b. (w_choose (w_branch u z x) b, p.a_choose o y))
  | inr h ↦ inr (no_choose t kids h)
]

text_here : (t : Tag) (kids : RawTrees) → InstructionHere i_text t kids
text_here t kids = elim (both (only_here [] t.attributes) (some_of (characters_here kids))) [
  | inl (o, (s, y)) ↦ inl (λ b. (w_text s b, p.a_text_element o y))
  | inr h ↦ inr (no_text t kids h)
]

copy_here : (t : Tag) (kids : RawTrees) → SomeOrNone (IsBody kids) → InstructionHere i_copy t kids
copy_here t kids k = elim (both (only_here [] t.attributes) (some_of k)) [
  | inl (o, (z, y)) ↦ inl (λ b. (w_copy z b, p.a_copy o y))
  | inr h ↦ inr (no_copy t kids h)
]

element_here : (t : Tag) (kids : RawTrees) → SomeOrNone (IsBody kids) → InstructionHere i_element t kids
element_here t kids k = elim (both (only_here (codes "name" ∷ []) t.attributes) (both (some_of (required_here (ElementNameText t.scope) (element_name_text_here t.scope) (value_of (codes "name") t.attributes))) (some_of k))) [
  | inl (o, ((m, n), (z, y))) ↦ inl (λ b. (w_element m z b, p.an_element o n y))
  | inr h ↦ inr (no_element t kids h)
]

copy_of_here : (t : Tag) (kids : RawTrees) → InstructionHere i_copy_of t kids
copy_of_here t kids = elim (both (only_here (codes "select" ∷ []) t.attributes) (both (copied_here t kids) (blank_here kids))) [
  | inl (o, ((s, (e, m)), y)) ↦ inl (λ b. (b, p.copy_of_attributes o e m y))
  | inr h ↦ inr (no_copy_of t kids h)
]

instruction_here : (i : Instruction) (t : Tag) (kids : RawTrees) → SomeOrNone (IsBody kids) → SomeOrNone (AreBranches kids) → InstructionHere i t kids
instruction_here i_apply t kids k x = apply_here t kids
instruction_here i_call t kids k x = call_here t kids
instruction_here i_value t kids k x = value_here t kids
instruction_here i_each t kids k x = each_here t kids k
instruction_here i_if t kids k x = if_here t kids k
instruction_here i_choose t kids k x = choose_here t kids x
instruction_here i_text t kids k x = text_here t kids
instruction_here i_copy t kids k x = copy_here t kids k
instruction_here i_element t kids k x = element_here t kids k
instruction_here i_attribute t kids k x = inl (λ b. (b, p.an_attribute))
instruction_here i_copy_of t kids k x = copy_of_here t kids

-- a body
no_text_body : (s : List ℕ) (q : ℕ) (rest : RawTrees) → ((b : WrittenBody) → IsBody rest b → ⊥) → (b : WrittenBody) → IsBody (text s q rest) b → ⊥
no_text_body s q rest h b (p.past_white w a) = h b a
no_text_body s q rest h b (p.a_text {b = c} w a) = h c a

text_body : (s : List ℕ) (q : ℕ) (rest : RawTrees) → SomeOrNone (IsBody rest) → SomeOrNone (IsBody (text s q rest))
text_body s q rest (inr h) = inr (no_text_body s q rest h)
text_body s q rest (inl (b, a)) = by (is_white_space_only s) refl
  where
    by : (w : Bool) → is_white_space_only s ≡ w → SomeOrNone (IsBody (text s q rest))
    by true e = inl (b, p.past_white e a)
    by false e = inl (w_text s b, p.a_text e a)

no_literal_body : (n : ExpandedName) (attributes : List Attribute) (scope : List Bound) (q : ℕ) (kids rest : RawTrees) → n.uri ≢ xsl_uri
    → (AreLiteral attributes × (((z : WrittenBody) × IsBody kids z) × ((b : WrittenBody) × IsBody rest b)) → ⊥) → (b : WrittenBody) → IsBody (element n attributes scope q kids rest) b → ⊥
no_literal_body n attributes scope q kids rest u h b (p.a_literal {inner = z} {b = c} v r i a) = h (r, ((z, i), (c, a)))
no_literal_body n attributes scope q kids rest u h b (p.an_instruction {i = j} e s a) = not_literal n j e u

no_instruction_body : (n : ExpandedName) (attributes : List Attribute) (scope : List Bound) (q : ℕ) (kids rest : RawTrees) → n.uri ≡ xsl_uri
    → ((i : Instruction) → instruction_of n ≡ Some i → (b c : WrittenBody) → IsInstruction i (tag n attributes scope q) kids b c → IsBody rest b → ⊥)
    → (b : WrittenBody) → IsBody (element n attributes scope q kids rest) b → ⊥
no_instruction_body n attributes scope q kids rest u h b (p.a_literal v r i a) = v u
no_instruction_body n attributes scope q kids rest u h c (p.an_instruction {b = b} {i = j} e s a) = h j e b c s a

module _ (n : ExpandedName) (attributes : List Attribute) (scope : List Bound) (q : ℕ) (kids rest : RawTrees) where
  instruction_body : n.uri ≡ xsl_uri → (i : Instruction) → instruction_of n ≡ Some i → InstructionHere i (tag n attributes scope q) kids → SomeOrNone (IsBody rest) → SomeOrNone (IsBody (element n attributes scope q kids rest))
  instruction_body u i e (inl make) (inl (b, a)) = let (c, s) = make b in inl (c, p.an_instruction e s a)
  instruction_body u i e (inl make) (inr h) = inr (no_instruction_body n attributes scope q kids rest u (λ j f b c s a. h b a))
  instruction_body u i e (inr h) k = inr (no_instruction_body n attributes scope q kids rest u (λ j f b c s a. h b c (subst (λ z. IsInstruction z (tag n attributes scope q) kids b c) (some_is f e) s)))

  xslt_body : n.uri ≡ xsl_uri → (o : Option Instruction) → instruction_of n ≡ o → SomeOrNone (IsBody kids) → SomeOrNone (AreBranches kids) → SomeOrNone (IsBody rest) → SomeOrNone (IsBody (element n attributes scope q kids rest))
  xslt_body u None e k x r = inr (no_instruction_body n attributes scope q kids rest u (λ j f b c s a. none_some e f))
  xslt_body u (Some i) e k x r = instruction_body u i e (instruction_here i (tag n attributes scope q) kids k x) r

  element_body : SomeOrNone (IsBody kids) → SomeOrNone (AreBranches kids) → SomeOrNone (IsBody rest) → SomeOrNone (IsBody (element n attributes scope q kids rest))
  element_body k x r = elim (bytes_are n.uri xsl_uri) [
    | inl u ↦ xslt_body u (instruction_of n) refl k x r
    | inr u ↦ elim (both (literal_here attributes) (both (some_of k) (some_of r))) [
      | inl (l, ((z, i), (b, a))) ↦ inl (w_element n z b, p.a_literal u l i a)
      | inr h ↦ inr (no_literal_body n attributes scope q kids rest u h)
    ]
  ]

-- branches
no_text_branches : (s : List ℕ) (q : ℕ) (rest : RawTrees) → (IsTrue (is_white_space_only s) × ((x : WrittenBranches) × AreBranches rest x) → ⊥) → (x : WrittenBranches) → AreBranches (text s q rest) x → ⊥
no_text_branches s q rest h x (p.between w a) = h (w, (x, a))

text_branches : (s : List ℕ) (q : ℕ) (rest : RawTrees) → SomeOrNone (AreBranches rest) → SomeOrNone (AreBranches (text s q rest))
text_branches s q rest k = elim (both (is_true (is_white_space_only s)) (some_of k)) [ inl (w, (x, a)) ↦ inl (x, p.between w a) | inr h ↦ inr (no_text_branches s q rest h) ]

abbrev WhenHas : List Attribute → List Bound → RawTrees → RawTrees → Type 0
WhenHas attributes scope kids rest =
    HasOnly (codes "test" ∷ []) attributes × (((u : Test) × Required (TestText scope) (value_of (codes "test") attributes) u) × (((b : WrittenBody) × IsBody kids b) × ((x : WrittenBranches) × AreBranches rest x)))

abbrev OtherwiseHas : List Attribute → RawTrees → RawTrees → Type 0
OtherwiseHas attributes kids rest = HasOnly [] attributes × (((b : WrittenBody) × IsBody kids b) × IsBlank rest)

no_branches : (n : ExpandedName) (attributes : List Attribute) (scope : List Bound) (q : ℕ) (kids rest : RawTrees) → (IsXsl (codes "when") n → WhenHas attributes scope kids rest → ⊥)
    → (IsXsl (codes "otherwise") n → OtherwiseHas attributes kids rest → ⊥) → (x : WrittenBranches) → AreBranches (element n attributes scope q kids rest) x → ⊥
no_branches n attributes scope q kids rest h k x (p.a_when {test = u} {inner = b} {x = y} t s i a) = h t.name (t.only, ((u, s), ((b, i), (y, a))))
no_branches n attributes scope q kids rest h k x (p.an_otherwise {inner = b} t i a) = k t.name (t.only, ((b, i), a))

module _ (n : ExpandedName) (attributes : List Attribute) (scope : List Bound) (q : ℕ) (kids rest : RawTrees) where
  element_branches : SomeOrNone (IsBody kids) → SomeOrNone (AreBranches rest) → SomeOrNone (AreBranches (element n attributes scope q kids rest))
  element_branches k r = elim (xsl_is (codes "when") n) [
    | inl e ↦ elim (both (only_here (codes "test" ∷ []) attributes) (both (test_here scope attributes) (both (some_of k) (some_of r)))) [
      | inl (o, ((u, s), ((b, i), (x, a)))) ↦ inl (w_branch u b x, p.a_when (record { name = e; only = o }) s i a)
      | inr h ↦ inr (no_branches n attributes scope q kids rest (λ f z. h z) (λ f z. when_or_otherwise n e f))
    ]
    | inr g ↦ elim (xsl_is (codes "otherwise") n) [
      | inl e ↦ elim (both (only_here [] attributes) (both (some_of k) (blank_here rest))) [
        | inl (o, ((b, i), a)) ↦ inl (w_otherwise b, p.an_otherwise (record { name = e; only = o }) i a)
        | inr h ↦ inr (no_branches n attributes scope q kids rest (λ f z. g f) (λ f z. h z))
      ]
      | inr h ↦ inr (no_branches n attributes scope q kids rest (λ f z. g f) (λ f z. h f))
    ]
  ]

mutual
  body_here : (h : RawTrees) → SomeOrNone (IsBody h)
  body_here none = inl (w_nothing, p.at_end)
  body_here (text s q rest) = text_body s q rest (body_here rest)
  body_here (element n attributes scope q kids rest) = element_body n attributes scope q kids rest (body_here kids) (branches_here kids) (body_here rest)

  branches_here : (h : RawTrees) → SomeOrNone (AreBranches h)
  branches_here none = inl (w_otherwise w_nothing, p.no_otherwise)
  branches_here (text s q rest) = text_branches s q rest (branches_here rest)
  branches_here (element n attributes scope q kids rest) = element_branches n attributes scope q kids rest (body_here kids) (branches_here rest)

-- a template
still_some : {X : Type 0} {M : List ℕ → X → Type 0} {v : Option (List ℕ)} {o u : Option X} → Optional M v o → Optional M v u → o ≢ None → u ≢ None
still_some left_out left_out h = h
still_some (given a) (given b) h = some_no_none

still_none : {X : Type 0} {M : List ℕ → X → Type 0} {v : Option (List ℕ)} {o u : Option X} → Optional M v o → Optional M v u → o ≡ None → u ≡ None
still_none left_out left_out e = e
still_none (given a) (given b) e = absurd (some_no_none e)

module _ (s : Tag) (kids : RawTrees) where
  abbrev TemplateHas : Type 0
  TemplateHas =
      HasOnly (codes "match" ∷ codes "name" ∷ codes "priority" ∷ codes "mode" ∷ []) s.attributes
      × (((x : Option (List Alternative)) × Optional (PatternText s.scope) (value_of (codes "match") s.attributes) x)
      × (((y : Option ℤ) × Optional PriorityText (value_of (codes "priority") s.attributes) y)
      × (((n : Option ExpandedName) × Optional (NameText s.scope) (value_of (codes "name") s.attributes) n)
      × (((m : Option ExpandedName) × Optional (NameText s.scope) (value_of (codes "mode") s.attributes) m) × ((b : WrittenBody) × IsBody kids b)))))

  template_has : SomeOrNone (IsBody kids) → Decided TemplateHas
  template_has k =
      both (only_here (codes "match" ∷ codes "name" ∷ codes "priority" ∷ codes "mode" ∷ []) s.attributes)
      (both (some_of (optional_here (PatternText s.scope) (pattern_text_here s.scope) (value_of (codes "match") s.attributes)))
      (both (some_of (optional_here PriorityText priority_here (value_of (codes "priority") s.attributes)))
      (both (some_of (optional_here (NameText s.scope) (name_text_here s.scope) (value_of (codes "name") s.attributes)))
      (both (some_of (optional_here (NameText s.scope) (name_text_here s.scope) (value_of (codes "mode") s.attributes))) (some_of k)))))

  has_of : (t : Template) → IsTemplate s kids t → TemplateHas
  has_of t x = (x.is_template.only, ((x.alternatives, x.pattern), ((x.priority, x.priorities), ((t.name, x.name), ((t.mode, x.mode), (t.body, x.body))))))

  -- a pattern or a name, and a mode with a pattern alone
  module _ {x : Option (List Alternative)} {n m : Option ExpandedName} (a : Optional (PatternText s.scope) (value_of (codes "match") s.attributes) x)
      (c : Optional (NameText s.scope) (value_of (codes "name") s.attributes) n) (d : Optional (NameText s.scope) (value_of (codes "mode") s.attributes) m) where
    suits_of : (t : Template) → IsTemplate s kids t → ((x ≢ None) ⊎ (n ≢ None)) × ((x ≢ None) ⊎ (m ≡ None))
    suits_of t z = (first z.pattern_or_name, second z.mode_with_pattern)
      where
        first : (z.alternatives ≢ None) ⊎ (t.name ≢ None) → (x ≢ None) ⊎ (n ≢ None)
        first (inl h) = inl (still_some z.pattern a h)
        first (inr h) = inr (still_some z.name c h)

        second : (z.alternatives ≢ None) ⊎ (t.mode ≡ None) → (x ≢ None) ⊎ (m ≡ None)
        second (inl h) = inl (still_some z.pattern a h)
        second (inr h) = inr (still_none z.mode d h)

  template_here : IsXsl (codes "template") s.name → SomeOrNone (IsBody kids) → SomeOrNone (IsTemplate s kids)
  template_here e k = elim (template_has k) [
    | inr h ↦ inr (λ t z. h (has_of t z))
    | inl (o, ((x, a), ((y, i), ((n, c), ((m, d), (b, j)))))) ↦ elim (both (either (is_not (none_is x)) (is_not (none_is n))) (either (is_not (none_is x)) (none_is m))) [
      | inr h ↦ inr (λ t z. h (suits_of a c d t z))
      | inl (f, g) ↦ inl (
        record { alternatives = with_priority y (or_none x); name = n; mode = m; body = b; place = s.place },
        record {
          alternatives = x;
          priority = y;
          is_template = record { name = e; only = o };
          pattern = a;
          priorities = i;
          kept = refl;
          name = c;
          mode = d;
          pattern_or_name = f;
          mode_with_pattern = g;
          body = j;
          place = refl;
        },
      )
    ]
  ]

-- what stands at the top
no_text_templates : (s : List ℕ) (q : ℕ) (rest : RawTrees) → (IsTrue (is_white_space_only s) × ((ts : List Template) × AreTemplates rest ts) → ⊥) → (ts : List Template) → AreTemplates (text s q rest) ts → ⊥
no_text_templates s q rest h ts (p.past_white w a) = h (w, (ts, a))

-- which elements may stand there, and what each must have
record NoTop (n : ExpandedName) (attributes : List Attribute) (scope : List Bound) (q : ℕ) (kids rest : RawTrees) : Type 0 where
  no_template : (t : Template) (ts : List Template) → IsTemplate (tag n attributes scope q) kids t → AreTemplates rest ts → ⊥
  no_passed : (ts : List Template) → IsXsl (codes "output") n ⊎ IsXsl (codes "strip-space") n → AreTemplates rest ts → ⊥
  no_other : (ts : List Template) → n.uri ≢ [] → n.uri ≢ xsl_uri → AreTemplates rest ts → ⊥

no_top : (n : ExpandedName) (attributes : List Attribute) (scope : List Bound) (q : ℕ) (kids rest : RawTrees) → NoTop n attributes scope q kids rest → (ts : List Template) → AreTemplates (element n attributes scope q kids rest) ts → ⊥
no_top n attributes scope q kids rest k ts (p.a_template {t = t} {ts = us} x a) = k.no_template t us x a
no_top n attributes scope q kids rest k ts (p.past_declaration d a) = k.no_passed ts d a
no_top n attributes scope q kids rest k ts (p.past_other u v a) = k.no_other ts u v a

module _ (n : ExpandedName) (attributes : List Attribute) (scope : List Bound) (q : ℕ) (kids rest : RawTrees) where
  element_top : ((ts : List Template) × AreTemplates rest ts) → SomeOrNone (AreTemplates (element n attributes scope q kids rest))
  element_top (ts, a) = elim (xsl_is (codes "template") n) [
    | inl e ↦ elim (template_here (tag n attributes scope q) kids e (body_here kids)) [
      | inl (t, x) ↦ inl (t ∷ ts, p.a_template x a)
      | inr h ↦ inr (no_top n attributes scope q kids rest (record {
        no_template = λ t us x b. h t x;
        no_passed = λ us d b. no_declaration mended n e d;
        no_other = λ us u v b. v (uri_is mended n (codes "template") e);
      }))
    ]
    | inr g ↦ elim (either (xsl_is (codes "output") n) (xsl_is (codes "strip-space") n)) [
      | inl d ↦ inl (ts, p.past_declaration d a)
      | inr h ↦ elim (both (is_not (bytes_are n.uri [])) (is_not (bytes_are n.uri xsl_uri))) [
        | inl (u, v) ↦ inl (ts, p.past_other u v a)
        | inr i ↦ inr (no_top n attributes scope q kids rest (record {
          no_template = λ t us x b. g x.is_template.name;
          no_passed = λ us d b. h d;
          no_other = λ us u v b. i (u, v);
        }))
      ]
    ]
  ]

  top_here : SomeOrNone (AreTemplates rest) → SomeOrNone (AreTemplates (element n attributes scope q kids rest))
  top_here (inl x) = element_top x
  top_here (inr h) = inr (no_top n attributes scope q kids rest (record { no_template = λ t us x b. h us b; no_passed = λ us d b. h us b; no_other = λ us u v b. h us b }))

templates_here : (h : RawTrees) → SomeOrNone (AreTemplates h)
templates_here none = inl ([], p.at_end)
templates_here (text s q rest) = elim (both (is_true (is_white_space_only s)) (some_of (templates_here rest))) [
  | inl (w, (ts, a)) ↦ inl (ts, p.past_white w a)
  | inr h ↦ inr (no_text_templates s q rest h)
]
templates_here (element n attributes scope q kids rest) = top_here n attributes scope q kids rest (templates_here rest)

-- a stylesheet
abbrev SheetHas : ExpandedName → List Attribute → RawTrees → Type 0
SheetHas n attributes kids =
    (IsXsl (codes "stylesheet") n ⊎ IsXsl (codes "transform") n) × (HasOnly (codes "version" ∷ codes "exclude-result-prefixes" ∷ codes "id" ∷ []) attributes
    × ((value_of (codes "version") attributes ≡ Some (codes "1.0")) × ((ts : List Template) × AreTemplates kids ts)))

no_stylesheet : (n : ExpandedName) (attributes : List Attribute) (scope : List Bound) (q : ℕ) (kids : RawTrees) → (SheetHas n attributes kids → ⊥) → (ts : List Template) → IsStylesheet (element n attributes scope q kids none) ts → ⊥
no_stylesheet n attributes scope q kids h ts (p.a_stylesheet e o v a) = h (e, (o, (v, (ts, a))))

pub stylesheet_here : (n : ExpandedName) (attributes : List Attribute) (scope : List Bound) (q : ℕ) (kids : RawTrees) → SomeOrNone (IsStylesheet (element n attributes scope q kids none))
stylesheet_here n attributes scope q kids = elim (both (either (xsl_is (codes "stylesheet") n) (xsl_is (codes "transform") n)) (both (only_here (codes "version" ∷ codes "exclude-result-prefixes" ∷ codes "id" ∷ []) attributes) (both (value_is (value_of (codes "version") attributes) (codes "1.0")) (some_of (templates_here kids))))) [
  | inl (e, (o, (v, (ts, a)))) ↦ inl (ts, p.a_stylesheet e o v a)
  | inr h ↦ inr (no_stylesheet n attributes scope q kids h)
]
