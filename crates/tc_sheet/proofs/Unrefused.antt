-- What no reason of its own refuses.
use Rattle.std.proofs.Common.{◌≡◌, ◌≢◌, inl, inr, Bool, true, false, ◌||◌, List, [], ◌∷◌, ℕ, refl, ap, ◌∙◌, sym, subst, Option, None, Some, IsTrue, IsFalse, bytes_eq, Contains, if◌then◌else◌}
use Rattle.std.specs.Prelude.{codes, IfSome}
use Rattle.std.specs.List.{list_any}
use Rattle.std.proofs.lemmas.Bool.{true≢false}
use Rattle.std.proofs.lemmas.Slice.Eq.{bytes_eq-Decides}
use Rattle.tc_base.specs.declared.reasons.Why.{Why}
use Rattle.tc_model.specs.Names.{ExpandedName}
use Rattle.tc_model.specs.RawTrees.{Attribute, Bound}
use Rattle.tc_model.specs.SheetTextPhrases.{xsl_uri, IsXsl, Instruction, instruction_of}
use Rattle.tc_path.specs.Faults.{Shallow}
use Rattle.tc_sheet.specs.Changes.{Change, mended, flattened, both, TakesAway, exchanged}
use Rattle.tc_sheet.specs.Constructs.{reason_of, parts, IsUnknown, IsRoot, plain, Form, context_of, HasForm, MustHave, of_apply, of_each, of_copy, of_value, of_match, of_if, of_when, IsRefusedAttribute, IsWeighed, a_form, a_name, a_version, AreWeighedAmong, IsNeverRefused, IsRefusedElement, of_reason, IsUnrefusedElement}
use Rattle.tc_sheet.specs.Constructs as c
use Rattle.tc_sheet.proofs.SameBodies.{instruction_reason, literal_reason, xsl_reason}

pub none_some : {X : Type 0} {o : Option X} {x : X} → o ≡ None → o ≡ Some x → ⊥
none_some e f = cc

some_same : {X : Type 0} {o : Option X} {x y : X} → o ≡ Some x → o ≡ Some y → x ≡ y
some_same e f = cc

true_or_false : {b : Bool} → IsTrue b → IsFalse b → ⊥
true_or_false e f = true≢false (sym e ∙ f)

-- what no reason refuses is not taken away
pub unrefused_stays : (k : Change) (n : ExpandedName) → IsUnrefusedElement n → TakesAway k n → ⊥
unrefused_stays mended n h (why, e) = h why (of_reason e)
unrefused_stays flattened n h t = t
unrefused_stays both n h (why, e) = h why (of_reason e)

-- elements
pub unrefused_by : (n : ExpandedName) → reason_of n ≡ None → (IsUnknown n → ⊥) → IsUnrefusedElement n
unrefused_by n e f why (of_reason g) = none_some e g
unrefused_by n e f why (c.unknown u) = f u

pub literal_unrefused : (n : ExpandedName) → n.uri ≢ xsl_uri → IsUnrefusedElement n
literal_unrefused n h = unrefused_by n (literal_reason n h) (λ u. h u.in_xslt)

pub instruction_unrefused : (n : ExpandedName) (i : Instruction) → instruction_of n ≡ Some i → IsUnrefusedElement n
instruction_unrefused n i e = unrefused_by n (instruction_reason n i e) (λ u. none_some u.no_instruction e)

pub part_unrefused : (n : ExpandedName) (local : List ℕ) → reason_of (record { uri = xsl_uri; local = local }) ≡ None → IsTrue (list_any (bytes_eq local) parts) → IsXsl local n → IsUnrefusedElement n
part_unrefused n local e f is = unrefused_by n (xsl_reason n local e is) (λ u. true_or_false (ap (λ (m : ExpandedName). list_any (bytes_eq m.local) parts) is ∙ f) u.no_part)

pub root_unrefused : (n : ExpandedName) → IsRoot n → IsUnrefusedElement n
root_unrefused n (inl is) = part_unrefused n (codes "stylesheet") refl refl is
root_unrefused n (inr is) = part_unrefused n (codes "transform") refl refl is

pub template_unrefused : (n : ExpandedName) → IsXsl (codes "template") n → IsUnrefusedElement n
template_unrefused n is = part_unrefused n (codes "template") refl refl is

-- the form of the attribute that an element must have
abbrev pub form_in : List ℕ → Option Form
form_in local =
    if bytes_eq local (codes "apply-templates") then Some c.select
    else if bytes_eq local (codes "for-each") then Some c.select
    else if bytes_eq local (codes "copy-of") then Some c.select
    else if bytes_eq local (codes "value-of") then Some c.value
    else if bytes_eq local (codes "template") then Some c.pattern
    else if bytes_eq local (codes "if") then Some c.test
    else if bytes_eq local (codes "when") then Some c.test
    else None

abbrev pub its_form : ExpandedName → Option Form
its_form n = form_in n.local

pub form_there : {n m : ExpandedName} {f : Form} → MustHave n m f → its_form n ≡ Some f
form_there (of_apply e) = ap its_form e
form_there (of_each e) = ap its_form e
form_there (of_copy e) = ap its_form e
form_there (of_value e) = ap its_form e
form_there (of_match e) = ap its_form e
form_there (of_if e) = ap its_form e
form_there (of_when e) = ap its_form e

abbrev uri_of : ExpandedName → List ℕ
uri_of n = n.uri

pub must_be_xslt : {n m : ExpandedName} {f : Form} → MustHave n m f → n.uri ≡ xsl_uri
must_be_xslt (of_apply e) = ap uri_of e
must_be_xslt (of_each e) = ap uri_of e
must_be_xslt (of_copy e) = ap uri_of e
must_be_xslt (of_value e) = ap uri_of e
must_be_xslt (of_match e) = ap uri_of e
must_be_xslt (of_if e) = ap uri_of e
must_be_xslt (of_when e) = ap uri_of e

must_be_exchanged : {n m : ExpandedName} {f : Form} → MustHave n m f → IsTrue (list_any (bytes_eq m.local) exchanged)
must_be_exchanged (of_apply e) = refl
must_be_exchanged (of_each e) = refl
must_be_exchanged (of_copy e) = refl
must_be_exchanged (of_value e) = refl
must_be_exchanged (of_match e) = refl
must_be_exchanged (of_if e) = refl
must_be_exchanged (of_when e) = refl

pub must_be_unrefused : (n : ExpandedName) {m : ExpandedName} {f : Form} → MustHave n m f → IsUnrefusedElement n
must_be_unrefused n (of_apply e) = instruction_unrefused n _ (ap instruction_of e)
must_be_unrefused n (of_each e) = instruction_unrefused n _ (ap instruction_of e)
must_be_unrefused n (of_copy e) = instruction_unrefused n _ (ap instruction_of e)
must_be_unrefused n (of_value e) = instruction_unrefused n _ (ap instruction_of e)
must_be_unrefused n (of_match e) = template_unrefused n e
must_be_unrefused n (of_if e) = instruction_unrefused n _ (ap instruction_of e)
must_be_unrefused n (of_when e) = part_unrefused n (codes "when") refl refl e

-- the attribute of an element that is refused for its value alone
abbrev pub weighed_in : List ℕ → Option (List ℕ)
weighed_in local =
    if bytes_eq local (codes "apply-templates") then Some (codes "select")
    else if bytes_eq local (codes "for-each") then Some (codes "select")
    else if bytes_eq local (codes "copy-of") then Some (codes "select")
    else if bytes_eq local (codes "value-of") then Some (codes "select")
    else if bytes_eq local (codes "template") then Some (codes "match")
    else if bytes_eq local (codes "if") then Some (codes "test")
    else if bytes_eq local (codes "when") then Some (codes "test")
    else if bytes_eq local (codes "element") then Some (codes "name")
    else if bytes_eq local (codes "stylesheet") then Some (codes "version")
    else if bytes_eq local (codes "transform") then Some (codes "version")
    else None

abbrev pub its_weighed : ExpandedName → Option (List ℕ)
its_weighed n = weighed_in n.local

pub form_weighed : {n m : ExpandedName} {f : Form} → MustHave n m f → its_weighed n ≡ Some m.local
form_weighed (of_apply e) = ap its_weighed e
form_weighed (of_each e) = ap its_weighed e
form_weighed (of_copy e) = ap its_weighed e
form_weighed (of_value e) = ap its_weighed e
form_weighed (of_match e) = ap its_weighed e
form_weighed (of_if e) = ap its_weighed e
form_weighed (of_when e) = ap its_weighed e

weighed_there : {n m : ExpandedName} → IsWeighed n m → its_weighed n ≡ Some m.local
weighed_there (a_form h) = form_weighed h
weighed_there (a_name e) = ap its_weighed e
weighed_there (a_version (inl e)) = ap its_weighed e
weighed_there (a_version (inr e)) = ap its_weighed e

some_so : {X : Type 0} (P : X → Type 0) {o : Option X} {x : X} → IfSome o P → o ≡ Some x → P x
some_so {X} P {o} {x} h e = subst (λ (u : Option X). IfSome u P) e h

-- an XSLT element of the first name weighs none but these
pub weighed_among : (n : ExpandedName) (local : List ℕ) (locals : List (List ℕ)) → IfSome (weighed_in local) (λ w. IsTrue (list_any (bytes_eq w) locals)) → IsXsl local n → AreWeighedAmong locals n
weighed_among n local locals h is m w = some_so (λ (l : List ℕ). IsTrue (list_any (bytes_eq l) locals)) h (sym (ap its_weighed is) ∙ weighed_there w)

pub root_weighed_among : (n : ExpandedName) (locals : List (List ℕ)) → IsTrue (list_any (bytes_eq (codes "version")) locals) → IsRoot n → AreWeighedAmong locals n
root_weighed_among n locals h (inl is) = weighed_among n (codes "stylesheet") locals h is
root_weighed_among n locals h (inr is) = weighed_among n (codes "transform") locals h is

pub test_weighed : {n : ExpandedName} → MustHave n (plain (codes "test")) c.test → AreWeighedAmong (codes "test" ∷ []) n
test_weighed h m w = subst (λ (l : List ℕ). IsTrue (list_any (bytes_eq l) (codes "test" ∷ []))) (some_same (form_weighed h) (weighed_there w)) refl

-- attributes
abbrev pub always_refused : List (List ℕ)
always_refused = codes "disable-output-escaping" ∷ codes "use-attribute-sets" ∷ []

-- how an attribute of an XSLT element is refused: whatever the element is, for this element, or for its value
pub data Kind (n m : ExpandedName) : Type 0 where
  everywhere : IsTrue (list_any (bytes_eq m.local) always_refused) → Kind n m
  of_element : IsXsl (codes "element") n → m ≡ plain (codes "namespace") → Kind n m
  of_root : IsRoot n → m ≡ plain (codes "extension-element-prefixes") → Kind n m
  by_value : IsWeighed n m → Kind n m

abbrev is_always : ExpandedName → Bool
is_always m = list_any (bytes_eq m.local) always_refused

kind_of : (n : ExpandedName) (scope : List Bound) (a : Attribute) (why : Why) → n.uri ≡ xsl_uri → IsRefusedAttribute n scope a why → Kind n a.name
kind_of n scope a why u (c.extension r e) = of_root r e
kind_of n scope a why u (c.escaping v e) = everywhere (ap is_always e)
kind_of n scope a why u (c.computed is e h) = by_value (subst (IsWeighed n) (sym e) (a_name is))
kind_of n scope a why u (c.of_namespace is e) = of_element is e
kind_of n scope a why u (c.copied is e s r) = by_value (subst (IsWeighed n) (sym e) (a_form (of_copy is)))
kind_of n scope a why u (c.sets v e) = everywhere (ap is_always e)
kind_of n scope a why u (c.literal_sets v e) = absurd (v u)
kind_of n scope a why u (c.version r e h) = by_value (subst (IsWeighed n) (sym e) (a_version r))
kind_of n scope a why u (c.unknown v f g h) = absurd (v u)
kind_of n scope a why u (c.in_path h f s) = by_value (a_form h)

-- an attribute that is of no kind
pub no_kind : (n : ExpandedName) (scope : List Bound) (a : Attribute) → n.uri ≡ xsl_uri → (Kind n a.name → ⊥) → (why : Why) → IsRefusedAttribute n scope a why → ⊥
no_kind n scope a u h why r = h (kind_of n scope a why u r)

same_local : {m : ExpandedName} {a b : List ℕ} → m ≡ plain a → m ≡ plain b → IsTrue (bytes_eq a b)
same_local {a = a} {b = b} e f = (bytes_eq-Decides a b).1 (ap (λ (m : ExpandedName). m.local) (sym e ∙ f))

-- an XSLT element of the first name has attributes of the second that no reason refuses
pub never_refused : (n : ExpandedName) (element local : List ℕ) → IsXsl element n → IsFalse (list_any (bytes_eq local) always_refused) → IsFalse (bytes_eq local (codes "namespace"))
    → IsFalse (bytes_eq local (codes "extension-element-prefixes")) → IfSome (weighed_in element) (λ w. IsFalse (bytes_eq local w)) → IsNeverRefused local n
never_refused n element local is always namespace prefixes weighed scope a why e r = by (kind_of n scope a why (ap uri_of is) r)
  where
    by : Kind n a.name → ⊥
    by (everywhere g) = true_or_false (subst (λ (m : ExpandedName). IsTrue (is_always m)) e g) always
    by (of_element x g) = true_or_false (same_local e g) namespace
    by (of_root x g) = true_or_false (same_local e g) prefixes
    by (by_value w) =
        true_or_false ((bytes_eq-Decides local a.name.local).1 (sym (ap (λ (m : ExpandedName). m.local) e)))
        (some_so (λ (l : List ℕ). IsFalse (bytes_eq local l)) weighed (sym (ap its_weighed is) ∙ weighed_there w))

neither : (a b : Bool) → a ≡ false → b ≡ false → (a || (b || false)) ≡ false
neither false false e f = refl
neither false true e f = absurd (true≢false f)
neither true b e f = absurd (true≢false e)

pub not_always : (m : ExpandedName) → IsFalse (bytes_eq m.local (codes "disable-output-escaping")) → IsFalse (bytes_eq m.local (codes "use-attribute-sets")) → IsFalse (is_always m)
not_always m e f = neither (bytes_eq m.local (codes "disable-output-escaping")) (bytes_eq m.local (codes "use-attribute-sets")) e f

pub not_plain : {m : ExpandedName} {local : List ℕ} → IsFalse (bytes_eq m.local local) → m ≡ plain local → ⊥
not_plain {m} {local} e f = true_or_false ((bytes_eq-Decides m.local local).1 (ap (λ (m : ExpandedName). m.local) f)) e

-- an attribute that an element of XSLT must not have
pub unexpected_unrefused : (n : ExpandedName) (scope : List Bound) (a : Attribute) → n.uri ≡ xsl_uri → IsFalse (is_always a.name) → (IsXsl (codes "element") n → a.name ≡ plain (codes "namespace") → ⊥)
    → (IsRoot n → a.name ≡ plain (codes "extension-element-prefixes") → ⊥) → (IsWeighed n a.name → ⊥) → (why : Why) → IsRefusedAttribute n scope a why → ⊥
unexpected_unrefused n scope a u always namespace prefixes unweighed why r = by (kind_of n scope a why u r)
  where
    by : Kind n a.name → ⊥
    by (everywhere g) = true_or_false g always
    by (of_element x g) = namespace x g
    by (of_root x g) = prefixes x g
    by (by_value w) = unweighed w

-- the name of an `xsl:element` that is not computed
pub name_unrefused : (n : ExpandedName) (scope : List Bound) (a : Attribute) → IsXsl (codes "element") n → a.name ≡ plain (codes "name") → (Contains a.value 0x7B → ⊥) → (why : Why) → IsRefusedAttribute n scope a why → ⊥
name_unrefused n scope a is e plain_name why (c.extension r f) = true_or_false (same_local e f) refl
name_unrefused n scope a is e plain_name why (c.escaping v f) = true_or_false (same_local e f) refl
name_unrefused n scope a is e plain_name why (c.computed x f h) = plain_name h
name_unrefused n scope a is e plain_name why (c.of_namespace x f) = true_or_false (same_local e f) refl
name_unrefused n scope a is e plain_name why (c.copied x f s r) = true_or_false (same_local e f) refl
name_unrefused n scope a is e plain_name why (c.sets v f) = true_or_false (same_local e f) refl
name_unrefused n scope a is e plain_name why (c.literal_sets v f) = v (ap uri_of is)
name_unrefused n scope a is e plain_name why (c.version r f h) = true_or_false (same_local e f) refl
name_unrefused n scope a is e plain_name why (c.unknown v f g h) = v (ap uri_of is)
name_unrefused n scope a is e plain_name why (c.in_path h f s) = true_or_false (must_be_exchanged h) (ap (λ (m : ExpandedName). list_any (bytes_eq m.local) exchanged) e)

-- a path, a pattern or a test in which no construct is refused
pub path_unrefused : (n : ExpandedName) (scope : List Bound) (a : Attribute) (f : Form) → MustHave n a.name f → (HasForm f scope a.value → ⊥) → ((why : Why) → Shallow (context_of f) a.value (Some why) → ⊥)
    → (why : Why) → IsRefusedAttribute n scope a why → ⊥
path_unrefused n scope a f must formless shallow why r = by why r
  where
    not_named : {l : List ℕ} → a.name ≡ plain l → IsFalse (list_any (bytes_eq l) exchanged) → ⊥
    not_named e g = true_or_false (must_be_exchanged must) (ap (λ (m : ExpandedName). list_any (bytes_eq m.local) exchanged) e ∙ g)

    by : (why : Why) → IsRefusedAttribute n scope a why → ⊥
    by why (c.extension r e) = not_named e refl
    by why (c.escaping v e) = not_named e refl
    by why (c.computed x e h) = not_named e refl
    by why (c.of_namespace x e) = not_named e refl
    by why (c.copied {p = q} x e s r) = formless (subst (λ (g : Form). HasForm g scope a.value) (some_same (form_there (of_copy x)) (form_there must)) (q, s))
    by why (c.sets v e) = not_named e refl
    by why (c.literal_sets v e) = v (must_be_xslt must)
    by why (c.version r e h) = not_named e refl
    by why (c.unknown v e g h) = v (must_be_xslt must)
    by why (c.in_path {f = g} h k s) = shallow why (subst (λ (g : Form). Shallow (context_of g) a.value (Some why)) (some_same (form_there h) (form_there must)) s)
