-- Whether something that is looked at is refused by a reason of its own, or read and nests too deep.
use Rattle.std.proofs.Common.{◌≡◌, ◌≢◌, ◌⊎◌, inl, inr, ℕ, List, [], refl, sym, subst, Option, None, Some, IsFalse, bytes_eq, Contains}
use Rattle.std.specs.Prelude.{codes}
use Rattle.std.specs.List.{list_any}
use Rattle.tc_base.specs.declared.reasons.Why.{Why}
use Rattle.tc_base.specs.declared.reasons.Why.TheVariants.{SimplifiedStylesheet, ExtensionElements, DisableOutputEscaping, ComputedName, XslCopyOf, UseAttributeSets, XsltVersion, UnknownXslt}
use Rattle.tc_model.specs.Names.{ExpandedName}
use Rattle.tc_model.specs.RawTrees.{Attribute, Bound, RawTrees, none, text, element}
use Rattle.tc_model.specs.Sheets.{Path}
use Rattle.tc_model.specs.PathText.{SelectText, AttributesText}
use Rattle.tc_model.specs.SheetTextPhrases.{xsl_uri, IsXsl, value_of, Tag, tag, Instruction, instruction_of}
use Rattle.tc_path.specs.Faults.{Shallow}
use Rattle.tc_sheet.specs.Constructs.{reason_of, parts, IsRoot, plain, Form, select, value, pattern, test, context_of, HasForm, MustHave, of_apply, of_each, of_copy, of_value, of_match, of_if, of_when, IsRefusedAttribute, IsRefusedElement, of_reason}
use Rattle.tc_sheet.specs.Constructs as c
use Rattle.tc_sheet.specs.LookedAt.{Where, at_top, in_body, in_choose, in_blank, held, IsOpened, a_template, a_literal, an_instruction, a_when, an_otherwise, behind, Item, of_text, of_root, of_element, of_attribute, IsIn, at_text, beside_text, at_element, at_attribute, inside, beside_element, IsLookedAt, the_root, has_root, within, IsSimplified, IsRefused}
use Rattle.tc_sheet.proofs.DecidingAttributes.{both, either, is_not, some_of, value_is, name_is, xsl_is}
use Rattle.tc_sheet.proofs.DecidingBytes.{Decided, SomeOrNone, none_some, none_is, number_is, bytes_are, is_false}
use Rattle.tc_sheet.proofs.DecidingForms.{select_text_here, value_text_here, pattern_text_here, test_text_here, attributes_text_here, deep_here, shallow_here}
use Rattle.tc_sheet.proofs.DecidingLists.{AmongHere, among_here, exists_here, contains_here}
use Rattle.tc_sheet.proofs.DeepForms.{ReadsDeep}
use Rattle.tc_sheet.proofs.Refusals.{nothing_there}
use Rattle.tc_sheet.proofs.SameBodies.{some_is, not_literal}
use Rattle.tc_sheet.proofs.Unrefused.{form_there}

-- what an element opens, which is one place at most
opened_unique : {w v u : Where} {n : ExpandedName} → IsOpened w n v → IsOpened w n u → v ≡ u
opened_unique (a_template e) (a_template f) = refl
opened_unique (a_literal h) (a_literal k) = refl
opened_unique {n = n} (a_literal h) (an_instruction {i = j} e f) = not_literal n j e h
opened_unique {n = n} (an_instruction {i = j} e f) (a_literal h) = not_literal n j e h
opened_unique (an_instruction {w = v} e f) (an_instruction g h) = some_is (subst (λ j. held j ≡ Some v) (some_is e g) f) h
opened_unique (a_when e) (a_when f) = refl
opened_unique (a_when e) (an_otherwise f) = refl
opened_unique (an_otherwise e) (a_when f) = refl
opened_unique (an_otherwise e) (an_otherwise f) = refl

no_top : (n : ExpandedName) → (IsXsl (codes "template") n → ⊥) → (v : Where) → IsOpened at_top n v → ⊥
no_top n h v (a_template e) = h e

no_body : (n : ExpandedName) → n.uri ≡ xsl_uri → ((i : Instruction) (v : Where) → instruction_of n ≡ Some i → held i ≡ Some v → ⊥) → (v : Where) → IsOpened in_body n v → ⊥
no_body n u h v (a_literal k) = k u
no_body n u h v (an_instruction {i = j} e f) = h j v e f

no_choose : (n : ExpandedName) → (IsXsl (codes "when") n → ⊥) → (IsXsl (codes "otherwise") n → ⊥) → (v : Where) → IsOpened in_choose n v → ⊥
no_choose n h k v (a_when e) = h e
no_choose n h k v (an_otherwise e) = k e

body_opened : (n : ExpandedName) → n.uri ≡ xsl_uri → SomeOrNone (IsOpened in_body n)
body_opened n u = by (instruction_of n) refl
  where
    holding : (i : Instruction) → instruction_of n ≡ Some i → (o : Option Where) → held i ≡ o → SomeOrNone (IsOpened in_body n)
    holding i e (Some v) f = inl (v, an_instruction e f)
    holding i e None f = inr (no_body n u (λ j v g h. none_some f (subst (λ j. held j ≡ Some v) (some_is g e) h)))

    by : (o : Option Instruction) → instruction_of n ≡ o → SomeOrNone (IsOpened in_body n)
    by None e = inr (no_body n u (λ j v g h. none_some e g))
    by (Some i) e = holding i e (held i) refl

opened_here : (w : Where) (n : ExpandedName) → SomeOrNone (IsOpened w n)
opened_here at_top n = elim (xsl_is (codes "template") n) [ inl e ↦ inl (in_body, a_template e) | inr h ↦ inr (no_top n h) ]
opened_here in_body n = elim (bytes_are n.uri xsl_uri) [ inl u ↦ body_opened n u | inr h ↦ inl (in_body, a_literal h) ]
opened_here in_choose n = elim (xsl_is (codes "when") n) [
  | inl e ↦ inl (in_body, a_when e)
  | inr h ↦ elim (xsl_is (codes "otherwise") n) [ inl e ↦ inl (in_body, an_otherwise e) | inr k ↦ inr (no_choose n h k) ]
]
opened_here in_blank n = inr (λ v o. elim o [ ])

-- something with this is looked at, or nothing is
module _ (P : Item → Type 0) (decide : (x : Item) → Decided (P x)) where
  abbrev InHere : Where → RawTrees → Type 0
  InHere w h = ((x : Item) × (IsIn w h x × P x)) ⊎ ((x : Item) → IsIn w h x → P x → ⊥)

  attributes_here : (t : Tag) → AmongHere (λ a. P (of_attribute t a)) t.attributes
  attributes_here t = among_here (λ a. P (of_attribute t a)) (λ a. decide (of_attribute t a)) t.attributes

  no_text : (w : Where) (s : List ℕ) (q : ℕ) (rest : RawTrees) → (P (of_text q) → ⊥) → ((x : Item) → IsIn w rest x → P x → ⊥) → (x : Item) → IsIn w (text s q rest) x → P x → ⊥
  no_text w s q rest h k x at_text p = h p
  no_text w s q rest h k x (beside_text g) p = k x g p

  text_in : (w : Where) (s : List ℕ) (q : ℕ) (rest : RawTrees) → Decided (P (of_text q)) → InHere w rest → InHere w (text s q rest)
  text_in w s q rest (inl p) k = inl (of_text q, (at_text, p))
  text_in w s q rest (inr h) (inl (x, (g, p))) = inl (x, (beside_text g, p))
  text_in w s q rest (inr h) (inr k) = inr (no_text w s q rest h k)

  no_element : (w : Where) (n : ExpandedName) (olds : List Attribute) (scope : List Bound) (q : ℕ) (kids rest : RawTrees) → (P (of_element (tag n olds scope q)) → ⊥)
      → ((v : Where) → IsOpened w n v → (a : Attribute) → Contains olds a → P (of_attribute (tag n olds scope q) a) → ⊥) → ((v : Where) → IsOpened w n v → (x : Item) → IsIn v kids x → P x → ⊥)
      → ((x : Item) → IsIn (behind n w) rest x → P x → ⊥) → (x : Item) → IsIn w (element n olds scope q kids rest) x → P x → ⊥
  no_element w n olds scope q kids rest h i j k x at_element p = h p
  no_element w n olds scope q kids rest h i j k x (at_attribute {v = v} {a = a} o has) p = i v o a has p
  no_element w n olds scope q kids rest h i j k x (inside {v = v} o g) p = j v o x g p
  no_element w n olds scope q kids rest h i j k x (beside_element g) p = k x g p

  module _ (w : Where) (n : ExpandedName) (olds : List Attribute) (scope : List Bound) (q : ℕ) (kids rest : RawTrees) (h : P (of_element (tag n olds scope q)) → ⊥) (k : (x : Item) → IsIn (behind n w) rest x → P x → ⊥) where
    opened_in : (v : Where) → IsOpened w n v → AmongHere (λ a. P (of_attribute (tag n olds scope q) a)) olds → InHere v kids → InHere w (element n olds scope q kids rest)
    opened_in v o (inl (a, (has, p))) j = inl (of_attribute (tag n olds scope q) a, (at_attribute o has, p))
    opened_in v o (inr i) (inl (x, (g, p))) = inl (x, (inside o g, p))
    opened_in v o (inr i) (inr j) = inr (no_element w n olds scope q kids rest h (λ u r. i) (λ u r x g p. j x (subst (λ z. IsIn z kids x) (opened_unique r o) g) p) k)

    element_by : SomeOrNone (IsOpened w n) → ((v : Where) → InHere v kids) → InHere w (element n olds scope q kids rest)
    element_by (inl (v, o)) j = opened_in v o (attributes_here (tag n olds scope q)) (j v)
    element_by (inr g) j = inr (no_element w n olds scope q kids rest h (λ u r a has p. g u r) (λ u r x i p. g u r) k)

  element_in : (w : Where) (n : ExpandedName) (olds : List Attribute) (scope : List Bound) (q : ℕ) (kids rest : RawTrees) → Decided (P (of_element (tag n olds scope q))) → SomeOrNone (IsOpened w n) → ((v : Where) → InHere v kids) → InHere (behind n w) rest
      → InHere w (element n olds scope q kids rest)
  element_in w n olds scope q kids rest (inl p) o j k = inl (of_element (tag n olds scope q), (at_element, p))
  element_in w n olds scope q kids rest (inr h) o j (inl (x, (g, p))) = inl (x, (beside_element g, p))
  element_in w n olds scope q kids rest (inr h) o j (inr k) = element_by w n olds scope q kids rest h k o j

  in_here : (h : RawTrees) (w : Where) → InHere w h
  in_here none w = inr (λ x g p. nothing_there g)
  in_here (text s q rest) w = text_in w s q rest (decide (of_text q)) (in_here rest w)
  in_here (element n olds scope q kids rest) w = element_in w n olds scope q kids rest (decide (of_element (tag n olds scope q))) (opened_here w n) (λ v. in_here kids v) (in_here rest (behind n w))

  abbrev pub LookedAtHere : RawTrees → Type 0
  LookedAtHere raw = ((x : Item) × (IsLookedAt raw x × P x)) ⊎ ((x : Item) → IsLookedAt raw x → P x → ⊥)

  no_looked : (n : ExpandedName) (olds : List Attribute) (scope : List Bound) (q : ℕ) (kids : RawTrees) → (P (of_root (tag n olds scope q)) → ⊥)
      → (IsRoot n → (a : Attribute) → Contains olds a → P (of_attribute (tag n olds scope q) a) → ⊥) → (IsRoot n → (x : Item) → IsIn at_top kids x → P x → ⊥)
      → (x : Item) → IsLookedAt (element n olds scope q kids none) x → P x → ⊥
  no_looked n olds scope q kids h i j x the_root p = h p
  no_looked n olds scope q kids h i j x (has_root {a = a} r has) p = i r a has p
  no_looked n olds scope q kids h i j x (within r g) p = j r x g p

  module _ (n : ExpandedName) (olds : List Attribute) (scope : List Bound) (q : ℕ) (kids : RawTrees) where
    within_root : (P (of_root (tag n olds scope q)) → ⊥) → IsRoot n → AmongHere (λ a. P (of_attribute (tag n olds scope q) a)) olds → InHere at_top kids → LookedAtHere (element n olds scope q kids none)
    within_root h r (inl (a, (has, p))) j = inl (of_attribute (tag n olds scope q) a, (has_root r has, p))
    within_root h r (inr i) (inl (x, (g, p))) = inl (x, (within r g, p))
    within_root h r (inr i) (inr j) = inr (no_looked n olds scope q kids h (λ s. i) (λ s. j))

    pub looked_at_here : LookedAtHere (element n olds scope q kids none)
    looked_at_here = elim (decide (of_root (tag n olds scope q))) [
      | inl p ↦ inl (of_root (tag n olds scope q), (the_root, p))
      | inr h ↦ elim (either (xsl_is (codes "stylesheet") n) (xsl_is (codes "transform") n)) [
        | inl r ↦ within_root h r (attributes_here (tag n olds scope q)) (in_here kids at_top)
        | inr g ↦ inr (no_looked n olds scope q kids h (λ r a has p. g r) (λ r x i p. g r))
      ]
    ]

-- the form of a text of XPath that must stand in an attribute
plain_is : (local : List ℕ) (m : ExpandedName) → Decided (m ≡ plain local)
plain_is local m = name_is m [] local

abbrev Must : List ℕ → List ℕ → ExpandedName → ExpandedName → Type 0
Must tag_name local n m = IsXsl tag_name n × (m ≡ plain local)

abbrev MustForm : ExpandedName → ExpandedName → Type 0
MustForm n m =
    Must (codes "apply-templates") (codes "select") n m ⊎ (Must (codes "for-each") (codes "select") n m ⊎ (Must (codes "copy-of") (codes "select") n m
    ⊎ (Must (codes "value-of") (codes "select") n m ⊎ (Must (codes "template") (codes "match") n m ⊎ (Must (codes "if") (codes "test") n m ⊎ Must (codes "when") (codes "test") n m)))))

must_is : (tag_name local : List ℕ) (n m : ExpandedName) → Decided (Must tag_name local n m)
must_is tag_name local n m = both (xsl_is tag_name n) (plain_is local m)

must_form : (n m : ExpandedName) → Decided (MustForm n m)
must_form n m =
    either (must_is (codes "apply-templates") (codes "select") n m) (either (must_is (codes "for-each") (codes "select") n m) (either (must_is (codes "copy-of") (codes "select") n m)
    (either (must_is (codes "value-of") (codes "select") n m) (either (must_is (codes "template") (codes "match") n m) (either (must_is (codes "if") (codes "test") n m) (must_is (codes "when") (codes "test") n m))))))

form_of_must : (n m : ExpandedName) → MustForm n m → (f : Form) × MustHave n m f
form_of_must n m (inl (e, g)) = (select, subst (λ z. MustHave n z select) (sym g) (of_apply e))
form_of_must n m (inr (inl (e, g))) = (select, subst (λ z. MustHave n z select) (sym g) (of_each e))
form_of_must n m (inr (inr (inl (e, g)))) = (select, subst (λ z. MustHave n z select) (sym g) (of_copy e))
form_of_must n m (inr (inr (inr (inl (e, g))))) = (value, subst (λ z. MustHave n z value) (sym g) (of_value e))
form_of_must n m (inr (inr (inr (inr (inl (e, g)))))) = (pattern, subst (λ z. MustHave n z pattern) (sym g) (of_match e))
form_of_must n m (inr (inr (inr (inr (inr (inl (e, g))))))) = (test, subst (λ z. MustHave n z test) (sym g) (of_if e))
form_of_must n m (inr (inr (inr (inr (inr (inr (e, g))))))) = (test, subst (λ z. MustHave n z test) (sym g) (of_when e))

must_of_form : {n m : ExpandedName} {f : Form} → MustHave n m f → MustForm n m
must_of_form (of_apply e) = inl (e, refl)
must_of_form (of_each e) = inr (inl (e, refl))
must_of_form (of_copy e) = inr (inr (inl (e, refl)))
must_of_form (of_value e) = inr (inr (inr (inl (e, refl))))
must_of_form (of_match e) = inr (inr (inr (inr (inl (e, refl)))))
must_of_form (of_if e) = inr (inr (inr (inr (inr (inl (e, refl))))))
must_of_form (of_when e) = inr (inr (inr (inr (inr (inr (e, refl))))))

form_here : (n m : ExpandedName) → SomeOrNone (MustHave n m)
form_here n m = elim (must_form n m) [ inl x ↦ inl (form_of_must n m x) | inr h ↦ inr (λ f a. h (must_of_form a)) ]

-- what nests too deep
deep_attribute_here : (t : Tag) (a : Attribute) → SomeOrNone (MustHave t.name a.name) → Decided (ReadsDeep (of_attribute t a))
deep_attribute_here t a (inr h) = inr (λ d. h d.form d.must)
deep_attribute_here t a (inl (f, must)) = elim (both (value_is (value_of a.name.local t.attributes) a.value) (deep_here a.value)) [
  | inl (e, d) ↦ inl (record { form = f; must = must; first = e; deep = d })
  | inr h ↦ inr (λ d. h (d.first, d.deep))
]

pub reads_deep_here : (x : Item) → Decided (ReadsDeep x)
reads_deep_here (of_text q) = inr (λ d. d)
reads_deep_here (of_root t) = inr (λ d. d)
reads_deep_here (of_element t) = inr (λ d. d)
reads_deep_here (of_attribute t a) = deep_attribute_here t a (form_here t.name a.name)

-- what is refused
simplified_here : (t : Tag) → Decided (IsSimplified t)
simplified_here t = elim (both (is_not (bytes_are t.name.uri xsl_uri)) (exists_here (λ (a : Attribute). IsXsl (codes "version") a.name) (λ a. xsl_is (codes "version") a.name) t.attributes)) [
  | inl (l, (a, (has, e))) ↦ inl (record { literal = l; version = a; has = has; is_version = e })
  | inr h ↦ inr (λ s. h (s.literal, (s.version, (s.has, s.is_version))))
]

abbrev Unknown : ExpandedName → Type 0
Unknown n = (n.uri ≡ xsl_uri) × ((instruction_of n ≡ None) × IsFalse (list_any (bytes_eq n.local) parts))

no_refused_element : (n : ExpandedName) → reason_of n ≡ None → (Unknown n → ⊥) → (why : Why) → IsRefusedElement n why → ⊥
no_refused_element n e h why (of_reason f) = none_some e f
no_refused_element n e h why (c.IsRefusedElement.unknown u) = h (u.in_xslt, (u.no_instruction, u.no_part))

refused_element_here : (n : ExpandedName) → SomeOrNone (IsRefusedElement n)
refused_element_here n = by (reason_of n) refl
  where
    by : (o : Option Why) → reason_of n ≡ o → SomeOrNone (IsRefusedElement n)
    by (Some why) e = inl (why, of_reason e)
    by None e = elim (both (bytes_are n.uri xsl_uri) (both (none_is (instruction_of n)) (is_false (list_any (bytes_eq n.local) parts)))) [
      | inl (u, (i, f)) ↦ inl (UnknownXslt, c.IsRefusedElement.unknown (record { in_xslt = u; no_reason = e; no_instruction = i; no_part = f }))
      | inr h ↦ inr (no_refused_element n e h)
    ]

has_form_here : (f : Form) (scope : List Bound) (s : List ℕ) → Decided (HasForm f scope s)
has_form_here select scope s = some_of (select_text_here scope s)
has_form_here value scope s = some_of (value_text_here scope s)
has_form_here pattern scope s = some_of (pattern_text_here scope s)
has_form_here test scope s = some_of (test_text_here scope s)

module _ (n : ExpandedName) (scope : List Bound) (a : Attribute) where
  abbrev InPath : Type 0
  InPath = (f : Form) × (MustHave n a.name f × ((HasForm f scope a.value → ⊥) × ((why : Why) × Shallow (context_of f) a.value (Some why))))

  abbrev CopiesMore : Type 0
  CopiesMore = IsXsl (codes "copy-of") n × ((a.name ≡ plain (codes "select")) × (((q : Path) × SelectText scope a.value q) × (AttributesText scope a.value → ⊥)))

  abbrev UnknownThere : Type 0
  UnknownThere = (n.uri ≢ xsl_uri) × ((a.name.uri ≡ xsl_uri) × ((a.name.local ≢ codes "exclude-result-prefixes") × (a.name.local ≢ codes "use-attribute-sets")))

  abbrev IsRefusedSomehow : Type 0
  IsRefusedSomehow =
      (IsRoot n × (a.name ≡ plain (codes "extension-element-prefixes"))) ⊎ (((n.uri ≡ xsl_uri) × (a.name ≡ plain (codes "disable-output-escaping")))
      ⊎ ((IsXsl (codes "element") n × ((a.name ≡ plain (codes "name")) × Contains a.value 0x7B)) ⊎ ((IsXsl (codes "element") n × (a.name ≡ plain (codes "namespace")))
      ⊎ (CopiesMore ⊎ (((n.uri ≡ xsl_uri) × (a.name ≡ plain (codes "use-attribute-sets"))) ⊎ (((n.uri ≢ xsl_uri) × IsXsl (codes "use-attribute-sets") a.name)
      ⊎ ((IsRoot n × ((a.name ≡ plain (codes "version")) × (a.value ≢ codes "1.0"))) ⊎ (UnknownThere ⊎ InPath))))))))

  why_refused : IsRefusedSomehow → (why : Why) × IsRefusedAttribute n scope a why
  why_refused (inl (r, e)) = (ExtensionElements, c.extension r e)
  why_refused (inr (inl (u, e))) = (DisableOutputEscaping, c.escaping u e)
  why_refused (inr (inr (inl (i, (e, h))))) = (ComputedName, c.computed i e h)
  why_refused (inr (inr (inr (inl (i, e))))) = (ComputedName, c.of_namespace i e)
  why_refused (inr (inr (inr (inr (inl (i, (e, ((q, s), h)))))))) = (XslCopyOf, c.copied i e s h)
  why_refused (inr (inr (inr (inr (inr (inl (u, e))))))) = (UseAttributeSets, c.sets u e)
  why_refused (inr (inr (inr (inr (inr (inr (inl (u, e)))))))) = (UseAttributeSets, c.literal_sets u e)
  why_refused (inr (inr (inr (inr (inr (inr (inr (inl (r, (e, h)))))))))) = (XsltVersion, c.version r e h)
  why_refused (inr (inr (inr (inr (inr (inr (inr (inr (inl (u, (e, (h, k)))))))))))) = (UnknownXslt, c.IsRefusedAttribute.unknown u e h k)
  why_refused (inr (inr (inr (inr (inr (inr (inr (inr (inr (f, (must, (h, (why, s))))))))))))) = (why, c.in_path must h s)

  refused_somehow : (why : Why) → IsRefusedAttribute n scope a why → IsRefusedSomehow
  refused_somehow why (c.extension r e) = inl (r, e)
  refused_somehow why (c.escaping u e) = inr (inl (u, e))
  refused_somehow why (c.computed i e h) = inr (inr (inl (i, (e, h))))
  refused_somehow why (c.of_namespace i e) = inr (inr (inr (inl (i, e))))
  refused_somehow why (c.copied {p = q} i e s h) = inr (inr (inr (inr (inl (i, (e, ((q, s), h)))))))
  refused_somehow why (c.sets u e) = inr (inr (inr (inr (inr (inl (u, e))))))
  refused_somehow why (c.literal_sets u e) = inr (inr (inr (inr (inr (inr (inl (u, e)))))))
  refused_somehow why (c.version r e h) = inr (inr (inr (inr (inr (inr (inr (inl (r, (e, h)))))))))
  refused_somehow why (c.IsRefusedAttribute.unknown u e h k) = inr (inr (inr (inr (inr (inr (inr (inr (inl (u, (e, (h, k)))))))))))
  refused_somehow why (c.in_path {f = f} must h s) = inr (inr (inr (inr (inr (inr (inr (inr (inr (f, (must, (h, (why, s))))))))))))

  in_path_here : SomeOrNone (MustHave n a.name) → Decided InPath
  in_path_here (inr h) = inr (λ z. h z.0 z.1.0)
  in_path_here (inl (f, must)) = elim (both (is_not (has_form_here f scope a.value)) (some_of (shallow_here (context_of f) a.value))) [
    | inl (h, (why, s)) ↦ inl (f, (must, (h, (why, s))))
    | inr h ↦ inr (λ z. h (moved z.0 z.1.0 z.1.1))
  ]
    where
      moved : (g : Form) → MustHave n a.name g → ((HasForm g scope a.value → ⊥) × ((why : Why) × Shallow (context_of g) a.value (Some why))) → (HasForm f scope a.value → ⊥) × ((why : Why) × Shallow (context_of f) a.value (Some why))
      moved g m x = subst (λ f. (HasForm f scope a.value → ⊥) × ((why : Why) × Shallow (context_of f) a.value (Some why))) (some_is (form_there m) (form_there must)) x

  root_is : Decided (IsRoot n)
  root_is = either (xsl_is (codes "stylesheet") n) (xsl_is (codes "transform") n)

  refused_somehow_here : Decided IsRefusedSomehow
  refused_somehow_here =
      either (both root_is (plain_is (codes "extension-element-prefixes") a.name))
      (either (both (bytes_are n.uri xsl_uri) (plain_is (codes "disable-output-escaping") a.name))
      (either (both (xsl_is (codes "element") n) (both (plain_is (codes "name") a.name) (contains_here number_is a.value 0x7B)))
      (either (both (xsl_is (codes "element") n) (plain_is (codes "namespace") a.name))
      (either (both (xsl_is (codes "copy-of") n) (both (plain_is (codes "select") a.name) (both (some_of (select_text_here scope a.value)) (is_not (attributes_text_here scope a.value)))))
      (either (both (bytes_are n.uri xsl_uri) (plain_is (codes "use-attribute-sets") a.name))
      (either (both (is_not (bytes_are n.uri xsl_uri)) (xsl_is (codes "use-attribute-sets") a.name))
      (either (both root_is (both (plain_is (codes "version") a.name) (is_not (bytes_are a.value (codes "1.0")))))
      (either (both (is_not (bytes_are n.uri xsl_uri)) (both (bytes_are a.name.uri xsl_uri) (both (is_not (bytes_are a.name.local (codes "exclude-result-prefixes"))) (is_not (bytes_are a.name.local (codes "use-attribute-sets"))))))
      (in_path_here (form_here n a.name))))))))))

abbrev pub IsRefusedItem : Item → Type 0
IsRefusedItem x = (why : Why) × IsRefused why x

pub refused_here : (x : Item) → Decided (IsRefusedItem x)
refused_here (of_text q) = inr (λ z. z.1)
refused_here (of_root t) = elim (simplified_here t) [ inl s ↦ inl (SimplifiedStylesheet, (s, refl)) | inr h ↦ inr (λ z. h z.1.0) ]
refused_here (of_element t) = some_of (refused_element_here t.name)
refused_here (of_attribute t a) = elim (refused_somehow_here t.name t.scope a) [
  | inl x ↦ inl (why_refused t.name t.scope a x)
  | inr h ↦ inr (λ z. h (refused_somehow t.name t.scope a z.0 z.1))
]
