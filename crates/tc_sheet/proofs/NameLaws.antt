-- What the attributes of an element mean, and how they are refused.
use Rattle.std.proofs.Common.{◌≡◌, ◌≢◌, inl, inr, ℕ, ◌==◌, Bool, true, false, ◌||◌, List, [], refl, ap, ◌∙◌, sym, subst, Option, None, Some, IsFalse, bytes_eq, Contains, length}
use Rattle.std.specs.Prelude.{codes, is_some, MatchOption, All}
use Rattle.std.specs.List.{list_any}
use Rattle.std.proofs.lemmas.Bool.{true≢false, eqb-true}
use Rattle.std.proofs.lemmas.List.Elements.{All-contains}
use Rattle.tc_base.specs.declared.reasons.Why.{Why}
use Rattle.tc_base.specs.declared.reasons.Why.TheVariants.{ExtensionElements, DisableOutputEscaping, ComputedName, XslCopyOf, UseAttributeSets, XsltVersion, UnknownXslt}
use Rattle.tc_model.specs.Names.{ExpandedName}
use Rattle.tc_model.specs.RawTrees.{Attribute, Bound}
use Rattle.tc_model.specs.Views.{name, place, attribute}
use Rattle.tc_model.specs.Sheets.{Path, no_alternative}
use Rattle.tc_model.specs.XmlTextNames.{QualifiedName, QNameAt}
use Rattle.tc_model.specs.XmlTextScopes.{uri_of, is_empty, ElementName, bound, unbound}
use Rattle.tc_model.specs.PathTextTokens.{Token, IsTooDeep}
use Rattle.tc_model.specs.PathTextPhrases as p
use Rattle.tc_model.specs.PathText.{SelectText, AttributesText}
use Rattle.tc_model.specs.SheetTextPhrases.{xsl_uri, IsXsl, value_of, NameText, ElementNameText, Optional, left_out, given, Required, is_given}
use Rattle.tc_model.specs.declared.tree.RawAttr.{RawAttr}
use Rattle.tc_model.specs.declared.tree.RawElem.{RawElem}
use Rattle.tc_model.proofs.XmlTextPhrases.{qname_unique}
use Rattle.tc_model.proofs.PathTextLexing.{tokens_unique}
use Rattle.tc_path.proofs.NodeTestLaws.{means_without, means_with, means_nothing}
use Rattle.tc_path.proofs.TokenLaws.{no_length}
use Rattle.tc_sheet.specs.Constructs.{IsRoot, plain}
use Rattle.tc_sheet.specs.LookedAt.{IsAt, of_attribute, IsUnrefused, IsRefused}
use Rattle.tc_sheet.specs.Constructs as constructs
use Rattle.tc_sheet.specs.Changes.{Change, both, flattened, exchanged}
use Rattle.tc_sheet.specs.Readings.{Refuses, alone, attributes_of, scope_of, IsAttribute, HasAttributesText, HasNoAttributes, HasNoRequired, HasNoOptional}
use Rattle.tc_sheet.specs.Views.{tag_of}
use Rattle.tc_sheet.specs.declared.faults.SheetFault.{SheetFault}
use Rattle.tc_sheet.proofs.Changes.{Becomes, value_becomes, kept_value}
use Rattle.tc_sheet.proofs.SameBodies.{unpacked, optional_unpacked}
use Rattle.tc_sheet.proofs.Refusals.{attribute_at}
use Rattle.tc_sheet.proofs.Refused.{refused, no_required, by_required}
use Rattle.tc_sheet.proofs.AttributeLaws.{plain_name, xsl_name, bytes_same, differs}

pub optional_none : {X : Type 0} (M : List ℕ → X → Type 0) (e : RawElem) (local : List ℕ) → value_of local (attributes_of e) ≡ None → Optional M (value_of local (attributes_of e)) None
optional_none M e local f = subst (λ o. Optional M o None) (sym f) left_out

pub optional_read : {X : Type 0} (M : List ℕ → X → Type 0) {e : RawElem} {local : List ℕ} {a : RawAttr} (o : Option X) → IsAttribute e local a → is_some o ≡ true
    → MatchOption o ((x : X) → M (attribute a).value x → ⊥) (M (attribute a).value) → Optional M (value_of local (attributes_of e)) o
optional_read M None at f m = absurd (true≢false (sym f))
optional_read M (Some x) at f m = subst (λ o. Optional M o (Some x)) (sym at.value) (given m)

pub none_read : {X : Type 0} {P : Type 0} (Q : X → Type 0) (o : Option X) → is_some o ≡ false → MatchOption o P Q → P
none_read Q None f m = m
none_read Q (Some x) f m = absurd (true≢false f)

-- what an attribute that is there means, and what one means that is not there
module _ {X : Type 0} (M : List ℕ → X → Type 0) {e : RawElem} {local : List ℕ} where
  pub optional_some : {a : RawAttr} {x : X} → IsAttribute e local a → M (attribute a).value x → Optional M (value_of local (attributes_of e)) (Some x)
  optional_some {x = x} at m = subst (λ o. Optional M o (Some x)) (sym at.value) (given m)

  pub required_one : {a : RawAttr} {x : X} → IsAttribute e local a → M (attribute a).value x → Required M (value_of local (attributes_of e)) x
  required_one {x = x} at m = subst (λ o. Required M o x) (sym at.value) (is_given m)

  -- one that means nothing, and keeps its value
  kept_required : {a : RawAttr} → IsFalse (list_any (bytes_eq local) exchanged) → IsAttribute e local a → ((x : X) → M (attribute a).value x → ⊥) → (c : Change) → HasNoRequired e local M c
  kept_required f at h c olds x u r = h x (unpacked (subst (λ o. Required M o x) (kept_value c local f u ∙ at.value) r))

  kept_optional : {a : RawAttr} → IsFalse (list_any (bytes_eq local) exchanged) → IsAttribute e local a → ((x : X) → M (attribute a).value x → ⊥) → (c : Change) → HasNoOptional e local M c
  kept_optional f at h c olds o u r = let (x, g, m) = optional_unpacked (subst (λ w. Optional M w o) (kept_value c local f u ∙ at.value) r) in h x m

  pub required_malformed : {a : RawAttr} → IsFalse (list_any (bytes_eq local) exchanged) → IsAttribute e local a → ((x : X) → M (attribute a).value x → ⊥)
      → IsUnrefused (of_attribute (tag_of e) (attribute a)) → IsAt (alone e) IsUnrefused (place a.place) × HasNoRequired e local M both
  required_malformed {a = a} f at h r = (attribute_at e a at.has r, kept_required f at h both)

  pub optional_malformed : {a : RawAttr} → IsFalse (list_any (bytes_eq local) exchanged) → IsAttribute e local a → ((x : X) → M (attribute a).value x → ⊥)
      → IsUnrefused (of_attribute (tag_of e) (attribute a)) → IsAt (alone e) IsUnrefused (place a.place) × HasNoOptional e local M both
  optional_malformed {a = a} f at h r = (attribute_at e a at.has r, kept_optional f at h both)

  pub required_unsupported : {a : RawAttr} {why : Why} → IsFalse (list_any (bytes_eq local) exchanged) → IsAttribute e local a → ((x : X) → M (attribute a).value x → ⊥)
      → constructs.IsRefusedAttribute (name e.name) (scope_of e) (attribute a) why → IsAt (alone e) (IsRefused why) (place a.place) × HasNoRequired e local M flattened
  required_unsupported {a = a} f at h r = (attribute_at e a at.has r, kept_required f at h flattened)

pub required_refuses : {X : Type 0} (e : RawElem) (local : List ℕ) (M : List ℕ → X → Type 0) (x : SheetFault) → Refuses x (alone e) (HasNoAttributes e (λ olds. (s : List ℕ) × (value_of local olds ≡ Some s))) → Refuses x (alone e) (HasNoRequired e local M)
required_refuses e local M x r = refused (alone e) (λ c h. no_required e local M c h) x r

pub computed_name : (e : RawElem) (a : RawAttr) → IsXsl (codes "element") (name e.name) → IsAttribute e (codes "name") a → Contains (attribute a).value 0x7B → constructs.IsRefusedAttribute (name e.name) (scope_of e) (attribute a) ComputedName
computed_name e a n at h = constructs.computed n at.name h

pub no_brace : (s : List ℕ) → All (λ x. x ≢ 0x7B) s → Contains s 0x7B → ⊥
no_brace s h has = All-contains (λ (x : ℕ). x ≢ 0x7B) s 0x7B h has refl

-- the names of modes, templates and elements
pub no_whole : {text rest : List ℕ} {m : QualifiedName} → QNameAt text m rest → (length rest == 0) ≡ false → (n : QualifiedName) → QNameAt text n [] → ⊥
no_whole {rest = rest} a f n b = true≢false (sym (ap (λ (l : List ℕ). length l == 0) (qname_unique a b).1) ∙ f)

module _ (scope : List Bound) {text : List ℕ} {n : QualifiedName} (is : QNameAt text n []) where
  pub name_without : (length n.prefix == 0) ≡ true → NameText scope text (record { uri = []; local = n.local })
  name_without e = record { name = n; is_name = is; means = means_without scope n.prefix n.local e }

  pub name_with : (uri : List ℕ) → (length n.prefix == 0) ≡ false → uri_of scope n.prefix ≡ Some uri → NameText scope text (record { uri = uri; local = n.local })
  name_with uri e f = record { name = n; is_name = is; means = means_with scope n.prefix n.local uri e f }

  pub name_nothing : (length n.prefix == 0) ≡ false → uri_of scope n.prefix ≡ None → (m : ExpandedName) → NameText scope text m → ⊥
  name_nothing e f m a = means_nothing e f m (subst (λ q. p.NameMeans scope q m) (qname_unique a.is_name is).0 a.means)

  pub element_bound : (uri : List ℕ) → uri_of scope n.prefix ≡ Some uri → ElementNameText scope text (record { uri = uri; local = n.local })
  element_bound uri f = record { name = n; is_name = is; means = bound f }

  pub element_unbound : (length n.prefix == 0) ≡ true → uri_of scope n.prefix ≡ None → ElementNameText scope text (record { uri = []; local = n.local })
  element_unbound e f = record { name = n; is_name = is; means = unbound (ap (λ (l : List ℕ). bytes_eq l []) (no_length n.prefix (eqb-true (length n.prefix) 0 e))) (subst (λ q. uri_of scope q ≡ None) (no_length n.prefix (eqb-true (length n.prefix) 0 e)) f) }

  no_element : {m : ExpandedName} → (length n.prefix == 0) ≡ false → uri_of scope n.prefix ≡ None → ElementName scope n m → ⊥
  no_element e f (bound g) = some_none g f
    where
      some_none : {X : Type 0} {o : Option X} {x : X} → o ≡ Some x → o ≡ None → ⊥
      some_none a b = cc
  no_element e f (unbound g h) = true≢false (sym (ap (λ (l : List ℕ). length l == 0) (bytes_same n.prefix [] g)) ∙ e)

  pub element_nothing : (length n.prefix == 0) ≡ false → uri_of scope n.prefix ≡ None → (m : ExpandedName) → ElementNameText scope text m → ⊥
  element_nothing e f m a = no_element e f (subst (λ q. ElementName scope q m) (qname_unique a.is_name is).0 a.means)

-- the `select` of an `xsl:copy-of`
pub attributes_alternative : {scope : List Bound} {ts after : List Token} → p.AttributesAlternativeAt scope ts after → (ss : _) × p.AlternativeAt scope ts ss p.dropped after
attributes_alternative (p.attributes_of_children {ss = ss} a) = (ss, p.from_children a)
attributes_alternative (p.attributes_of_descendants {ss = ss} a) = (ss, p.from_descendants a)

attributes_select : {scope : List Bound} {ts after : List Token} → p.AttributesAt scope ts after → (q : Path) × (drops : Bool) × p.SelectAt scope ts q drops after
attributes_select (p.last_attributes x l) = let (ss, a) = attributes_alternative x in (no_alternative, p.is_dropped p.dropped, p.last_alternative a l)
attributes_select (p.one_attributes x s) = let (ss, a) = attributes_alternative x in let (q, drops, b) = attributes_select s in (q, p.is_dropped p.dropped || drops, p.one_alternative a b)

attributes_are_select : {scope : List Bound} {s : List ℕ} → AttributesText scope s → (q : Path) × SelectText scope s q
attributes_are_select f =
    let (q, drops, a) = attributes_select f.phrase in (q, record { tokens = f.tokens; are_tokens = f.are_tokens; not_too_deep = f.not_too_deep; phrase = record { drops = drops; select = a } })

attributes_need_select : {scope : List Bound} {olds : List Attribute} → HasAttributesText scope olds → (q : Path) × Required (SelectText scope) (value_of (codes "select") olds) q
attributes_need_select {scope} h = let (q, a) = attributes_are_select h.text in (q, subst (λ o. Required (SelectText scope) o q) (sym h.has) (is_given a))

pub attributes_refused : (e : RawElem) (x : SheetFault) → Refuses x (alone e) (HasNoRequired e (codes "select") (SelectText (scope_of e))) → Refuses x (alone e) (HasNoAttributes e (HasAttributesText (scope_of e)))
attributes_refused e x r = refused (alone e) (by_required e (λ olds q. attributes_need_select q)) x r

some_same : {X : Type 0} {o : Option X} {x y : X} → o ≡ Some x → o ≡ Some y → x ≡ y
some_same a b = cc

pub attributes_there : (e : RawElem) (a : RawAttr) → IsAttribute e (codes "select") a → AttributesText (scope_of e) (attribute a).value → HasAttributesText (scope_of e) (attributes_of e)
attributes_there e a at t = record { written = (attribute a).value; has = at.value; text = t }

-- a select with other nodes is exchanged for none of attributes alone, unless it nests too deep
pub not_attributes : (e : RawElem) (a : RawAttr) → IsXsl (codes "copy-of") (name e.name) → IsAttribute e (codes "select") a → (q : Path) × SelectText (scope_of e) (attribute a).value q → (AttributesText (scope_of e) (attribute a).value → ⊥)
    → IsAt (alone e) (IsRefused XslCopyOf) (place a.place) × HasNoAttributes e (HasAttributesText (scope_of e)) flattened
not_attributes e a n at (q, s) refuses = (attribute_at e a at.has (constructs.copied n at.name s refuses), none_changed)
  where
    by : (olds : List Attribute) → Becomes flattened (codes "select") (Some (attribute a).value) (value_of (codes "select") olds) → HasAttributesText (scope_of e) olds → ⊥
    by olds (t, f, inl g) h = refuses (subst (AttributesText (scope_of e)) (some_same h.has f ∙ g) h.text)
    by olds (t, f, inr g) h = s.not_too_deep (subst IsTooDeep (tokens_unique g.1.are_tokens s.are_tokens) g.1.too_deep)

    none_changed : HasNoAttributes e (HasAttributesText (scope_of e)) flattened
    none_changed olds u h = by olds (subst (λ o. Becomes flattened (codes "select") o (value_of (codes "select") olds)) at.value (value_becomes flattened (codes "select") u)) h

-- attributes that an element must not have
module _ (e : RawElem) (a : RawAttr) (has : Contains (attributes_of e) (attribute a)) where
  module _ (xslt : (name e.name).uri ≡ xsl_uri) (no_uri : is_empty (attribute a).name.uri ≡ true) where
    pub escaping_at : bytes_eq (attribute a).name.local (codes "disable-output-escaping") ≡ true → IsAt (alone e) (IsRefused DisableOutputEscaping) (place a.place)
    escaping_at f = attribute_at e a has (constructs.escaping xslt (plain_name (attribute a).name (codes "disable-output-escaping") no_uri f))

    pub sets_at : bytes_eq (attribute a).name.local (codes "use-attribute-sets") ≡ true → IsAt (alone e) (IsRefused UseAttributeSets) (place a.place)
    sets_at f = attribute_at e a has (constructs.sets xslt (plain_name (attribute a).name (codes "use-attribute-sets") no_uri f))

    pub namespace_at : bytes_eq (attribute a).name.local (codes "namespace") ≡ true → IsXsl (codes "element") (name e.name) → IsAt (alone e) (IsRefused ComputedName) (place a.place)
    namespace_at f n = attribute_at e a has (constructs.of_namespace n (plain_name (attribute a).name (codes "namespace") no_uri f))

    pub extension_at : bytes_eq (attribute a).name.local (codes "extension-element-prefixes") ≡ true → IsRoot (name e.name) → IsAt (alone e) (IsRefused ExtensionElements) (place a.place)
    extension_at f n = attribute_at e a has (constructs.extension n (plain_name (attribute a).name (codes "extension-element-prefixes") no_uri f))

  pub place_at : IsUnrefused (of_attribute (tag_of e) (attribute a)) → IsAt (alone e) IsUnrefused (place a.place)
  place_at r = attribute_at e a has r

  pub literal_sets_at : (name e.name).uri ≢ xsl_uri → (attribute a).name.uri ≡ xsl_uri → bytes_eq (attribute a).name.local (codes "use-attribute-sets") ≡ true → IsAt (alone e) (IsRefused UseAttributeSets) (place a.place)
  literal_sets_at u v f = attribute_at e a has (constructs.literal_sets u (xsl_name (attribute a).name (codes "use-attribute-sets") v (bytes_same (attribute a).name.local (codes "use-attribute-sets") f)))

  pub unknown_at : (name e.name).uri ≢ xsl_uri → (attribute a).name.uri ≡ xsl_uri → (attribute a).name.local ≢ codes "exclude-result-prefixes" → bytes_eq (attribute a).name.local (codes "use-attribute-sets") ≡ false
      → IsAt (alone e) (IsRefused UnknownXslt) (place a.place)
  unknown_at u v f g = attribute_at e a has (constructs.unknown u v f (differs (attribute a).name.local (codes "use-attribute-sets") g))

-- the version
pub version_refused : (e : RawElem) (a : RawAttr) → IsRoot (name e.name) → IsAttribute e (codes "version") a → bytes_eq (attribute a).value (codes "1.0") ≡ false
    → IsAt (alone e) (IsRefused XsltVersion) (place a.place) × HasNoAttributes e (λ olds. value_of (codes "version") olds ≡ Some (codes "1.0")) flattened
version_refused e a n at f = (
  attribute_at e a at.has (constructs.version n at.name (differs (attribute a).value (codes "1.0") f)),
  λ olds u g. differs (attribute a).value (codes "1.0") f (some_same at.value (sym (kept_value flattened (codes "version") refl u) ∙ g)),
)

pub version_there : (e : RawElem) (a : RawAttr) → IsAttribute e (codes "version") a → bytes_eq (attribute a).value (codes "1.0") ≡ true → value_of (codes "version") (attributes_of e) ≡ Some (codes "1.0")
version_there e a at f = at.value ∙ ap Some (bytes_same (attribute a).value (codes "1.0") f)
