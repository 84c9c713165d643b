-- A body that is read and one that is changed from it are the same, if both are bodies. So are templates.
use Rattle.std.proofs.Common.{◌≡◌, ◌≢◌, ◌⊎◌, inl, inr, ℕ, ℤ, Bool, true, false, List, [], ◌∷◌, ◌++◌, refl, ap, ◌∙◌, sym, subst, Option, None, Some, IsTrue, IsFalse, bytes_eq, if◌then◌else◌}
use Rattle.std.specs.Prelude.{codes}
use Rattle.std.specs.List.{list_any}
use Rattle.std.proofs.lemmas.Bool.{true≢false}
use Rattle.std.proofs.lemmas.Slice.Eq.{bytes_eq-Decides}
use Rattle.tc_model.specs.Names.{ExpandedName}
use Rattle.tc_model.specs.RawTrees.{Attribute, Bound, RawTrees, IsOneElement}
use Rattle.tc_model.specs.XmlTextScopes.{ElementName}
use Rattle.tc_model.specs.Sheets.{Path, Test, Body, no_instruction, value, value_of_self}
use Rattle.tc_model.specs.PathTextTokens.{Token}
use Rattle.tc_model.specs.PathTextPhrases.{NameMeans, Alternative}
use Rattle.tc_model.specs.PathTextPriority.{PriorityText}
use Rattle.tc_model.specs.PathText.{Forms, SelectText, ValueText, TestText, PatternText}
use Rattle.tc_model.specs.SheetTextTrees.{WrittenBody, w_nothing, w_text, w_element, w_copy, w_apply, w_call, w_value, w_choose, w_each, WrittenBranches, w_otherwise, w_branch, Template}
use Rattle.tc_model.specs.SheetTextPhrases as p
use Rattle.tc_model.specs.SheetTextPhrases.{xsl_uri, IsXsl, value_of, IsBlank, AreCharacters, no_characters, characters, NameText, ElementNameText, Optional, left_out, given, Required, is_given, or_all_children, with_priority, or_none, Tag, tag, IsTag, Instruction, instruction_of, IsBody, IsInstruction, AreBranches, IsTemplate, AreTemplates, IsStylesheet}
use Rattle.tc_model.proofs.XmlTextPhrases.{qname_unique}
use Rattle.tc_model.proofs.XmlTextUnique.{element_name_unique}
use Rattle.tc_model.proofs.PathTextUnique.{name_means_unique, select_text_unique, value_text_unique, pattern_text_unique, test_text_unique, priority_text_unique}
use Rattle.tc_sheet.specs.Constructs.{reason_of, reason_in, reasons}
use Rattle.tc_sheet.specs.Changes.{Change, mended, flattened, both, TakesAway, Exchanges, exchanged, ChangedAttributes, Changed, no_tree, a_text, an_element, taken_away}
use Rattle.tc_sheet.proofs.Plain.{ArePlain, select_plain, value_plain, test_plain, pattern_plain}
use Rattle.tc_sheet.proofs.Changes.{exchanged_form, Becomes, value_becomes, kept_value}

pub some_is : {X : Type 0} {a b : X} {o : Option X} → o ≡ Some a → o ≡ Some b → a ≡ b
some_is e f = cc

joined : {X Y Z : Type 0} (f : X → Y → Z) {a b : X} {c d : Y} → a ≡ b → c ≡ d → f a c ≡ f b d
joined f {b = b} {c = c} e g = ap (λ x. f x c) e ∙ ap (f b) g

-- attributes
pub unpacked : {X : Type 0} {M : List ℕ → X → Type 0} {s : List ℕ} {x : X} → Required M (Some s) x → M s x
unpacked (is_given m) = m

pub optional_unpacked : {X : Type 0} {M : List ℕ → X → Type 0} {s : List ℕ} {o : Option X} → Optional M (Some s) o → (x : X) × (o ≡ Some x) × M s x
optional_unpacked (given {x = x} m) = (x, refl, m)

optional_nothing : {X : Type 0} {M : List ℕ → X → Type 0} {o : Option X} → Optional M None o → o ≡ None
optional_nothing left_out = refl

module _ {X : Type 0} {P : X → List Token → Type 0} (plain : (x : X) (ts : List Token) → P x ts → ArePlain ts) (once : (s : List ℕ) (x y : X) → Forms (P x) s → Forms (P y) s → x ≡ y) (c : Change) where
  abbrev Means : List ℕ → X → Type 0
  Means s x = Forms (P x) s

  form_same : {s t : List ℕ} {x y : X} (local : List ℕ) → (t ≡ s) ⊎ (IsTrue (list_any (bytes_eq local) exchanged) × Exchanges c s t) → Means s x → Means t y → x ≡ y
  form_same {s} {t} {x} {y} local (inl e) a b = once s x y a (subst (λ w. Means w y) e b)
  form_same {s} {t} {x} {y} local (inr k) a b = once s x y a (exchanged_form (plain x) a c k.1 b)

  required_by : (local : List ℕ) (o u : Option (List ℕ)) {x y : X} → Becomes c local o u → Required Means o x → Required Means u y → x ≡ y
  required_by local None u e x b = elim x [ ]
  required_by local (Some s) u {y = y} (t, e, k) (is_given a) b = form_same local k a (unpacked (subst (λ w. Required Means w y) e b))

  pub required_same : (local : List ℕ) {olds bs : List Attribute} {x y : X} → ChangedAttributes c olds bs → Required Means (value_of local olds) x → Required Means (value_of local bs) y → x ≡ y
  required_same local {olds} {bs} h a b = required_by local (value_of local olds) (value_of local bs) (value_becomes c local h) a b

  optional_by : (local : List ℕ) (o u : Option (List ℕ)) {x y : Option X} → Becomes c local o u → Optional Means o x → Optional Means u y → x ≡ y
  optional_by local None u {y = y} e left_out b = sym (optional_nothing (subst (λ w. Optional Means w y) e b))
  optional_by local (Some s) u {y = y} (t, e, k) (given {x = x} a) b =
      let (z, f, m) = optional_unpacked (subst (λ w. Optional Means w y) e b) in ap Some (form_same local k a m) ∙ sym f

  pub optional_same : (local : List ℕ) {olds bs : List Attribute} {x y : Option X} → ChangedAttributes c olds bs → Optional Means (value_of local olds) x → Optional Means (value_of local bs) y → x ≡ y
  optional_same local {olds} {bs} h a b = optional_by local (value_of local olds) (value_of local bs) (value_becomes c local h) a b

-- of attributes that keep their values
optional_unique : {X : Type 0} {M : List ℕ → X → Type 0} {o : Option (List ℕ)} {x y : Option X} → ((s : List ℕ) (x y : X) → M s x → M s y → x ≡ y) → Optional M o x → Optional M o y → x ≡ y
optional_unique u left_out left_out = refl
optional_unique u (given {s = s} {x = x} a) (given {x = y} b) = ap Some (u s x y a b)

required_unique : {X : Type 0} {M : List ℕ → X → Type 0} {o : Option (List ℕ)} {x y : X} → ((s : List ℕ) (x y : X) → M s x → M s y → x ≡ y) → Required M o x → Required M o y → x ≡ y
required_unique u (is_given {s = s} {x = x} a) (is_given {x = y} b) = u s x y a b

name_unique : {scope : List Bound} {s : List ℕ} {n m : ExpandedName} → NameText scope s n → NameText scope s m → n ≡ m
name_unique {scope} {n = n} {m = m} a b = name_means_unique (subst (λ q. NameMeans scope q n) (qname_unique a.is_name b.is_name).0 a.means) b.means

element_unique : {scope : List Bound} {s : List ℕ} {n m : ExpandedName} → ElementNameText scope s n → ElementNameText scope s m → n ≡ m
element_unique {scope} {n = n} {m = m} a b = element_name_unique (subst (λ q. ElementName scope q n) (qname_unique a.is_name b.is_name).0 a.means) b.means

module _ (c : Change) (scope : List Bound) {olds bs : List Attribute} (h : ChangedAttributes c olds bs) where
  pub select_same : {q r : Path} → Required (SelectText scope) (value_of (codes "select") olds) q → Required (SelectText scope) (value_of (codes "select") bs) r → q ≡ r
  select_same a b = required_same (λ q ts s. select_plain ts s) (λ s x y f g. select_text_unique f g) c (codes "select") h a b

  pub selects_same : {q r : Option Path} → Optional (SelectText scope) (value_of (codes "select") olds) q → Optional (SelectText scope) (value_of (codes "select") bs) r → q ≡ r
  selects_same a b = optional_same (λ q ts s. select_plain ts s) (λ s x y f g. select_text_unique f g) c (codes "select") h a b

  pub value_same : {v w : Body} → Required (ValueText scope) (value_of (codes "select") olds) v → Required (ValueText scope) (value_of (codes "select") bs) w → v ≡ w
  value_same a b = required_same (λ q ts s. value_plain ts s) (λ s x y f g. value_text_unique f g) c (codes "select") h a b

  pub test_same : {t u : Test} → Required (TestText scope) (value_of (codes "test") olds) t → Required (TestText scope) (value_of (codes "test") bs) u → t ≡ u
  test_same a b = required_same (λ q ts s. test_plain ts s) (λ s x y f g. test_text_unique f g) c (codes "test") h a b

  pub pattern_same : {xs ys : Option (List Alternative)} → Optional (PatternText scope) (value_of (codes "match") olds) xs → Optional (PatternText scope) (value_of (codes "match") bs) ys → xs ≡ ys
  pattern_same a b = optional_same (λ q ts s. pattern_plain ts s) (λ s x y f g. pattern_text_unique f g) c (codes "match") h a b

  pub names_same : (local : List ℕ) {n m : Option ExpandedName} → IsFalse (list_any (bytes_eq local) exchanged) → Optional (NameText scope) (value_of local olds) n → Optional (NameText scope) (value_of local bs) m → n ≡ m
  names_same local {m = m} f a b = optional_unique (λ s x y k l. name_unique k l) a (subst (λ o. Optional (NameText scope) o m) (kept_value c local f h) b)

  pub name_same : {n m : ExpandedName} → Required (NameText scope) (value_of (codes "name") olds) n → Required (NameText scope) (value_of (codes "name") bs) m → n ≡ m
  name_same {m = m} a b = required_unique (λ s x y k l. name_unique k l) a (subst (λ o. Required (NameText scope) o m) (kept_value c (codes "name") refl h) b)

  pub element_same : {n m : ExpandedName} → Required (ElementNameText scope) (value_of (codes "name") olds) n → Required (ElementNameText scope) (value_of (codes "name") bs) m → n ≡ m
  element_same {m = m} a b = required_unique (λ s x y k l. element_unique k l) a (subst (λ o. Required (ElementNameText scope) o m) (kept_value c (codes "name") refl h) b)

  pub priority_same : {x y : Option ℤ} → Optional PriorityText (value_of (codes "priority") olds) x → Optional PriorityText (value_of (codes "priority") bs) y → x ≡ y
  priority_same {y = y} a b = optional_unique (λ s x y k l. priority_text_unique k l) a (subst (λ o. Optional PriorityText o y) (kept_value c (codes "priority") refl h) b)

same_path : {q r : Path} → value q no_instruction ≡ value r no_instruction → q ≡ r
same_path e = cc

self_or_path : {q : Path} {X : Type 0} → value q no_instruction ≡ value_of_self no_instruction → X
self_or_path e = absurd (differ e)
  where
    differ : {q : Path} → value q no_instruction ≡ value_of_self no_instruction → ⊥
    differ e = cc

white_or_not : {X : Type 0} {b : Bool} → IsTrue b → IsFalse b → X
white_or_not a b = absurd (true≢false (sym a ∙ b))

characters_same : (c : Change) {h k : RawTrees} {s t : List ℕ} → Changed c h k → AreCharacters h s → AreCharacters k t → s ≡ t
characters_same c no_tree no_characters no_characters = refl
characters_same c (a_text h) (characters {s = s} a) (characters b) = ap (λ w. s ++ w) (characters_same c h a b)
characters_same c (an_element x i h) a b = elim a [ ]
characters_same c (taken_away t h) a b = elim a [ ]

-- no element that is taken away is read
abbrev AllNames : (List ℕ → Type 0) → List p.NamedInstruction → Type 0
AllNames Q [] = Unit {0}
AllNames Q (x ∷ xs) = Q x.local × AllNames Q xs

in_row : (Q : List ℕ → Type 0) (local : List ℕ) (i : Instruction) (x : p.NamedInstruction) (xs : List p.NamedInstruction) → Q x.local → (p.instruction_in xs local ≡ Some i → Q local)
    → (b : Bool) → bytes_eq local x.local ≡ b → (if b then Some x.instruction else p.instruction_in xs local) ≡ Some i → Q local
in_row Q local i x xs a rest true f g = subst Q (sym ((bytes_eq-Decides local x.local).0 f)) a
in_row Q local i x xs a rest false f g = rest g

in_table : (Q : List ℕ → Type 0) (local : List ℕ) (i : Instruction) (xs : List p.NamedInstruction) → AllNames Q xs → p.instruction_in xs local ≡ Some i → Q local
in_table Q local i [] a e = absurd (cc)
in_table Q local i (x ∷ xs) a e = in_row Q local i x xs a.0 (λ f. in_table Q local i xs a.1 f) (bytes_eq local x.local) refl e

abbrev HasNoReason : List ℕ → Type 0
HasNoReason w = reason_in reasons w ≡ None

no_names : AllNames HasNoReason p.instructions
no_names = (refl, (refl, (refl, (refl, (refl, (refl, (refl, (refl, (refl, (refl, (refl, tt)))))))))))

local_reason : (local : List ℕ) (i : Instruction) → p.instruction_in p.instructions local ≡ Some i → reason_in reasons local ≡ None
local_reason local i e = in_table HasNoReason local i p.instructions no_names e

pub instruction_reason : (n : ExpandedName) (i : Instruction) → instruction_of n ≡ Some i → reason_of n ≡ None
instruction_reason n i e = by (bytes_eq n.uri xsl_uri) e
  where
    by : (b : Bool) → (if b then p.instruction_in p.instructions n.local else None) ≡ Some i → (if b then reason_in reasons n.local else None) ≡ None
    by true f = local_reason n.local i f
    by false f = refl

pub literal_reason : (n : ExpandedName) → n.uri ≢ xsl_uri → reason_of n ≡ None
literal_reason n h = by (bytes_eq n.uri xsl_uri) refl
  where
    by : (b : Bool) → bytes_eq n.uri xsl_uri ≡ b → (if b then reason_in reasons n.local else None) ≡ None
    by true f = absurd (h ((bytes_eq-Decides n.uri xsl_uri).0 f))
    by false f = refl

pub xsl_reason : (n : ExpandedName) (local : List ℕ) → reason_of (record { uri = xsl_uri; local = local }) ≡ None → IsXsl local n → reason_of n ≡ None
xsl_reason n local f e = subst (λ m. reason_of m ≡ None) (sym e) f

none_is_some : {X : Type 0} {x : X} {o : Option X} → o ≡ None → o ≡ Some x → ⊥
none_is_some e f = cc

pub not_taken : (c : Change) (n : ExpandedName) → reason_of n ≡ None → TakesAway c n → ⊥
not_taken mended n e (why, f) = none_is_some e f
not_taken flattened n e f = f
not_taken both n e (why, f) = none_is_some e f

-- an XSLT element is no literal one
pub not_literal : (n : ExpandedName) (i : Instruction) {X : Type 0} → instruction_of n ≡ Some i → n.uri ≢ xsl_uri → X
not_literal n i {X} e h = by (bytes_eq n.uri xsl_uri) refl e
  where
    by : (b : Bool) → bytes_eq n.uri xsl_uri ≡ b → (if b then p.instruction_in p.instructions n.local else None) ≡ Some i → X
    by true f g = absurd (h ((bytes_eq-Decides n.uri xsl_uri).0 f))
    by false f g = absurd (cc)

pub when_or_otherwise : (n : ExpandedName) → IsXsl (codes "when") n → IsXsl (codes "otherwise") n → ⊥
when_or_otherwise n e f = true≢false (ap (λ (m : ExpandedName). bytes_eq m.local (codes "when")) (sym e ∙ f))

module _ (c : Change) where
  mutual
    pub body_same : {h k : RawTrees} {b d : WrittenBody} → Changed c h k → IsBody h b → IsBody k d → b ≡ d
    body_same no_tree p.at_end p.at_end = refl
    body_same (a_text h) (p.past_white w a) (p.past_white v b) = body_same h a b
    body_same (a_text h) (p.past_white w a) (p.a_text v b) = white_or_not w v
    body_same (a_text h) (p.a_text w a) (p.past_white v b) = white_or_not v w
    body_same (a_text h) (p.a_text {s = s} w a) (p.a_text v b) = ap (w_text s) (body_same h a b)
    body_same (an_element x i h) (p.a_literal {n = n} u l j a) (p.a_literal v m k b) = joined (w_element n) (body_same i j k) (body_same h a b)
    body_same (an_element x i h) (p.a_literal {n = n} u l j a) (p.an_instruction {i = k} e d b) = not_literal n k e u
    body_same (an_element x i h) (p.an_instruction {n = n} {i = k} e d a) (p.a_literal u l j b) = not_literal n k e u
    body_same (an_element {n = n} {bs = bs} {scope = scope} {p = q} {others = others} x i h) (p.an_instruction {b = z} {c = y} {i = j} e d a) (p.an_instruction {b = v} {c = w} {i = k} f g b) =
        instruction_same x i d (subst (λ r. IsInstruction r (tag n bs scope q) others z w) (some_is f e) (subst (λ r. IsInstruction k (tag n bs scope q) others r w) (sym (body_same h a b)) g))
    body_same (taken_away t h) (p.a_literal {n = n} u l j a) b = absurd (not_taken c n (literal_reason n u) t)
    body_same (taken_away t h) (p.an_instruction {n = n} {i = j} e d a) b = absurd (not_taken c n (instruction_reason n j e) t)

    pub instruction_same : {i : Instruction} {n : ExpandedName} {olds bs : List Attribute} {scope : List Bound} {q : ℕ} {h k : RawTrees} {b d e : WrittenBody} → ChangedAttributes c olds bs → Changed c h k
        → IsInstruction i (tag n olds scope q) h b d → IsInstruction i (tag n bs scope q) k b e → d ≡ e
    instruction_same {scope = scope} x i (p.apply_templates {b = y} o s m g) (p.apply_templates u r n l) =
        joined (λ u v. w_apply (or_all_children u) v y) (selects_same c scope x s r) (names_same c scope x (codes "mode") refl m n)
    instruction_same {scope = scope} {q = q} x i (p.call_template {b = y} o n g) (p.call_template u m l) = ap (λ u. w_call u q y) (name_same c scope x n m)
    instruction_same {scope = scope} x i (p.value_of_path {b = y} o s g) (p.value_of_path u r l) = ap (λ u. w_value u y) (same_path (value_same c scope x s r))
    instruction_same {scope = scope} x i (p.value_of_path o s g) (p.value_of_itself u r l) = self_or_path (value_same c scope x s r)
    instruction_same {scope = scope} x i (p.value_of_itself o s g) (p.value_of_path u r l) = self_or_path (sym (value_same c scope x s r))
    instruction_same x i (p.value_of_itself o s g) (p.value_of_itself u r l) = refl
    instruction_same {scope = scope} x i (p.for_each {b = y} o s g) (p.for_each u r j) = joined (λ u v. w_each u v y) (select_same c scope x s r) (body_same i g j)
    instruction_same {scope = scope} x i (p.an_if {b = y} o s g) (p.an_if u r j) = joined (λ u v. w_choose (w_branch u v (w_otherwise w_nothing)) y) (test_same c scope x s r) (body_same i g j)
    instruction_same x i (p.a_choose {b = y} o s) (p.a_choose u r) = ap (λ u. w_choose u y) (branches_same i s r)
    instruction_same x i (p.a_text_element {b = y} o s) (p.a_text_element u r) = ap (λ u. w_text u y) (characters_same c i s r)
    instruction_same x i (p.a_copy {b = y} o g) (p.a_copy u j) = ap (λ u. w_copy u y) (body_same i g j)
    instruction_same {scope = scope} x i (p.an_element {b = y} o n g) (p.an_element u m j) = joined (λ u v. w_element u v y) (element_same c scope x n m) (body_same i g j)
    instruction_same x i p.an_attribute p.an_attribute = refl
    instruction_same x i (p.copy_of_attributes o e s g) (p.copy_of_attributes u f r l) = refl

    pub branches_same : {h k : RawTrees} {x y : WrittenBranches} → Changed c h k → AreBranches h x → AreBranches k y → x ≡ y
    branches_same no_tree p.no_otherwise p.no_otherwise = refl
    branches_same (a_text h) (p.between w a) (p.between v b) = branches_same h a b
    branches_same (an_element {scope = scope} g i h) (p.a_when {inner = u} {x = x} o s j a) (p.a_when {test = t} q r k b) =
        ap (λ z. w_branch z u x) (test_same c scope g s r) ∙ joined (w_branch t) (body_same i j k) (branches_same h a b)
    branches_same (an_element g i h) (p.a_when o s j a) (p.an_otherwise q k b) = absurd (when_or_otherwise _ o.name q.name)
    branches_same (an_element g i h) (p.an_otherwise q j b) (p.a_when o s k a) = absurd (when_or_otherwise _ o.name q.name)
    branches_same (an_element g i h) (p.an_otherwise o j a) (p.an_otherwise q k b) = ap w_otherwise (body_same i j k)
    branches_same (taken_away {n = n} t h) (p.a_when o s j a) b = absurd (not_taken c n (xsl_reason n (codes "when") refl o.name) t)
    branches_same (taken_away {n = n} t h) (p.an_otherwise o j a) b = absurd (not_taken c n (xsl_reason n (codes "otherwise") refl o.name) t)

  template_is : (t u : Template) → t.alternatives ≡ u.alternatives → t.name ≡ u.name → t.mode ≡ u.mode → t.body ≡ u.body → t.place ≡ u.place → t ≡ u
  template_is t u a b c d e = λ i. record { alternatives = a i; name = b i; mode = c i; body = d i; place = e i }

  pub template_same : {n : ExpandedName} {olds bs : List Attribute} {scope : List Bound} {q : ℕ} {h k : RawTrees} {t u : Template} → ChangedAttributes c olds bs → Changed c h k
      → IsTemplate (tag n olds scope q) h t → IsTemplate (tag n bs scope q) k u → t ≡ u
  template_same {scope = scope} {t = t} {u = u} x i a b =
      let patterns : a.alternatives ≡ b.alternatives = pattern_same c scope x a.pattern b.pattern in
      let priorities : a.priority ≡ b.priority = priority_same c scope x a.priorities b.priorities in
      template_is t u
      (a.kept ∙ (ap (λ x. with_priority x (or_none a.alternatives)) priorities ∙ (ap (λ x. with_priority b.priority (or_none x)) patterns ∙ sym b.kept)))
      (names_same c scope x (codes "name") refl a.name b.name) (names_same c scope x (codes "mode") refl a.mode b.mode) (body_same i a.body b.body) (a.place ∙ sym b.place)

  pub local_differs : (n : ExpandedName) (a b : List ℕ) → bytes_eq a b ≡ false → IsXsl a n → IsXsl b n → ⊥
  local_differs n a b h e f = true≢false (sym ((bytes_eq-Decides a b).1 (ap (λ (m : ExpandedName). m.local) (sym e ∙ f))) ∙ h)

  pub uri_is : (n : ExpandedName) (a : List ℕ) → IsXsl a n → n.uri ≡ xsl_uri
  uri_is n a e = ap (λ (m : ExpandedName). m.uri) e

  pub no_declaration : (n : ExpandedName) → IsXsl (codes "template") n → IsXsl (codes "output") n ⊎ IsXsl (codes "strip-space") n → ⊥
  no_declaration n e (inl f) = local_differs n (codes "template") (codes "output") refl e f
  no_declaration n e (inr f) = local_differs n (codes "template") (codes "strip-space") refl e f

  pub declared_uri : (n : ExpandedName) → IsXsl (codes "output") n ⊎ IsXsl (codes "strip-space") n → n.uri ≡ xsl_uri
  declared_uri n (inl f) = uri_is n (codes "output") f
  declared_uri n (inr f) = uri_is n (codes "strip-space") f

  pub declared_reason : (n : ExpandedName) → IsXsl (codes "output") n ⊎ IsXsl (codes "strip-space") n → reason_of n ≡ None
  declared_reason n (inl f) = xsl_reason n (codes "output") refl f
  declared_reason n (inr f) = xsl_reason n (codes "strip-space") refl f

  pub templates_same : {h k : RawTrees} {ts us : List Template} → Changed c h k → AreTemplates h ts → AreTemplates k us → ts ≡ us
  templates_same no_tree p.at_end p.at_end = refl
  templates_same (a_text h) (p.past_white w a) (p.past_white v b) = templates_same h a b
  templates_same (an_element g i h) (p.a_template x a) (p.a_template y b) = joined (λ t ts. t ∷ ts) (template_same g i x y) (templates_same h a b)
  templates_same (an_element g i h) (p.a_template x a) (p.past_declaration d b) = absurd (no_declaration _ x.is_template.name d)
  templates_same (an_element g i h) (p.a_template x a) (p.past_other u v b) = absurd (v (uri_is _ (codes "template") x.is_template.name))
  templates_same (an_element g i h) (p.past_declaration d a) (p.a_template y b) = absurd (no_declaration _ y.is_template.name d)
  templates_same (an_element g i h) (p.past_declaration d a) (p.past_declaration e b) = templates_same h a b
  templates_same (an_element g i h) (p.past_declaration d a) (p.past_other u v b) = absurd (v (declared_uri _ d))
  templates_same (an_element g i h) (p.past_other u v a) (p.a_template y b) = absurd (v (uri_is _ (codes "template") y.is_template.name))
  templates_same (an_element g i h) (p.past_other u v a) (p.past_declaration e b) = absurd (v (declared_uri _ e))
  templates_same (an_element g i h) (p.past_other u v a) (p.past_other w x b) = templates_same h a b
  templates_same (taken_away {n = n} t h) (p.a_template x a) b = absurd (not_taken c n (xsl_reason n (codes "template") refl x.is_template.name) t)
  templates_same (taken_away {n = n} t h) (p.past_declaration d a) b = absurd (not_taken c n (declared_reason n d) t)
  templates_same (taken_away {n = n} t h) (p.past_other u v a) b = absurd (not_taken c n (literal_reason n v) t)

  root_of : {h : RawTrees} {ts : List Template} → IsStylesheet h ts → IsOneElement h
  root_of (p.a_stylesheet n o v a) = refl

  pub stylesheet_same : {h k : RawTrees} {ts us : List Template} → Changed c h k → IsStylesheet h ts → IsStylesheet k us → ts ≡ us
  stylesheet_same no_tree a b = elim a [ ]
  stylesheet_same (a_text h) a b = elim a [ ]
  stylesheet_same (an_element g i no_tree) (p.a_stylesheet n o v a) (p.a_stylesheet m q w b) = templates_same i a b
  stylesheet_same (an_element g i (a_text h)) a b = elim a [ ]
  stylesheet_same (an_element g i (an_element x j h)) a b = elim a [ ]
  stylesheet_same (an_element g i (taken_away t h)) a b = elim a [ ]
  stylesheet_same (taken_away t no_tree) (p.a_stylesheet n o v a) b = absurd (root_of b)
  stylesheet_same (taken_away t (a_text h)) a b = elim a [ ]
  stylesheet_same (taken_away t (an_element x i h)) a b = elim a [ ]
  stylesheet_same (taken_away t (taken_away u h)) a b = elim a [ ]
