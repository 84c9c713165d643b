-- Constructs of stylesheets that are refused by a reason of their own (XSLT 1.0). Where they are looked for says `LookedAt`.
use Rattle.std.specs.Prelude.{◌≡◌, ◌≢◌, ◌⊎◌, ℕ, List, [], ◌∷◌, Option, None, Some, Contains, bytes_eq, codes, if◌then◌else◌, IsTrue, IsFalse}
use Rattle.std.specs.List.{list_any}
use Rattle.tc_base.specs.declared.reasons.Why.{Why}
use Rattle.tc_base.specs.declared.reasons.Why.TheVariants.{XslVariable, XslParam, XslWithParam, XslImport, XslInclude, XslSort, XslNumber, XslKey, XslMessage, XslComment, XslProcessingInstruction, XslApplyImports, XslAttributeSet, XslNamespaceAlias, XslDecimalFormat, XslFallback, XslPreserveSpace, ExtensionElements, DisableOutputEscaping, ComputedName, XslCopyOf, UseAttributeSets, XsltVersion, UnknownXslt}
use Rattle.tc_model.specs.Names.{ExpandedName}
use Rattle.tc_model.specs.RawTrees.{Attribute, Bound}
use Rattle.tc_model.specs.Sheets.{Path, Test, Body}
use Rattle.tc_model.specs.PathTextPhrases.{Alternative}
use Rattle.tc_model.specs.PathText.{SelectText, AttributesText, ValueText, PatternText, TestText}
use Rattle.tc_model.specs.SheetTextPhrases.{xsl_uri, IsXsl, instruction_of}
use Rattle.tc_path.specs.Faults.{Shallow}
use Rattle.tc_path.specs.Contexts.{Context}
use Rattle.tc_path.specs.Contexts as contexts

pub record Reason : Type 0 where
  pub local : List ℕ
  pub why : Why

abbrev pub reason : List ℕ → Why → Reason
reason local why = record { local = local; why = why }

-- elements of XSLT that are not supported
abbrev pub reasons : List Reason
reasons =
    reason (codes "variable") XslVariable
    ∷ reason (codes "param") XslParam
    ∷ reason (codes "with-param") XslWithParam
    ∷ reason (codes "import") XslImport
    ∷ reason (codes "include") XslInclude
    ∷ reason (codes "sort") XslSort
    ∷ reason (codes "number") XslNumber
    ∷ reason (codes "key") XslKey
    ∷ reason (codes "message") XslMessage
    ∷ reason (codes "comment") XslComment
    ∷ reason (codes "processing-instruction") XslProcessingInstruction
    ∷ reason (codes "apply-imports") XslApplyImports
    ∷ reason (codes "attribute-set") XslAttributeSet
    ∷ reason (codes "namespace-alias") XslNamespaceAlias
    ∷ reason (codes "decimal-format") XslDecimalFormat
    ∷ reason (codes "fallback") XslFallback
    ∷ reason (codes "preserve-space") XslPreserveSpace ∷ []

abbrev pub reason_in : List Reason → List ℕ → Option Why
reason_in [] local = None
reason_in (x ∷ xs) local = if bytes_eq local x.local then Some x.why else reason_in xs local

-- the reason of an element that is not supported
abbrev pub reason_of : ExpandedName → Option Why
reason_of n = if bytes_eq n.uri xsl_uri then reason_in reasons n.local else None

-- the elements of XSLT that are read but are no instructions
abbrev pub parts : List (List ℕ)
parts = codes "stylesheet" ∷ codes "transform" ∷ codes "template" ∷ codes "output" ∷ codes "strip-space" ∷ codes "when" ∷ codes "otherwise" ∷ []

-- an element in the namespace of XSLT that XSLT 1.0 doesn't have
pub record IsUnknown (n : ExpandedName) : Type 0 where
  pub in_xslt : n.uri ≡ xsl_uri
  pub no_reason : reason_of n ≡ None
  pub no_instruction : instruction_of n ≡ None
  pub no_part : IsFalse (list_any (bytes_eq n.local) parts)

-- the root of a stylesheet (2.2)
abbrev pub IsRoot : ExpandedName → Type 0
IsRoot n = IsXsl (codes "stylesheet") n ⊎ IsXsl (codes "transform") n

-- declarations that are passed over (2.2)
abbrev pub IsDeclaration : ExpandedName → Type 0
IsDeclaration n = IsXsl (codes "output") n ⊎ IsXsl (codes "strip-space") n

-- a name without a namespace
abbrev pub plain : List ℕ → ExpandedName
plain local = record { uri = []; local = local }

-- the forms of texts of XPath
pub data Form : Type 0 where
  select : Form
  value : Form
  pattern : Form
  test : Form

-- by which a construct is refused or not
abbrev pub context_of : Form → Context
context_of select = contexts.select
context_of value = contexts.value
context_of pattern = contexts.pattern
context_of test = contexts.test

-- a text is of this form
abbrev pub HasForm : Form → List Bound → List ℕ → Type 0
HasForm select scope s = (p : Path) × SelectText scope s p
HasForm value scope s = (b : Body) × ValueText scope s b
HasForm pattern scope s = (alternatives : List Alternative) × PatternText scope s alternatives
HasForm test scope s = (t : Test) × TestText scope s t

-- in which attribute of which element a text of this form must stand
pub data MustHave : ExpandedName → ExpandedName → Form → Type 0 where
  of_apply : {n : ExpandedName} → IsXsl (codes "apply-templates") n → MustHave n (plain (codes "select")) select
  of_each : {n : ExpandedName} → IsXsl (codes "for-each") n → MustHave n (plain (codes "select")) select
  of_copy : {n : ExpandedName} → IsXsl (codes "copy-of") n → MustHave n (plain (codes "select")) select
  of_value : {n : ExpandedName} → IsXsl (codes "value-of") n → MustHave n (plain (codes "select")) value
  of_match : {n : ExpandedName} → IsXsl (codes "template") n → MustHave n (plain (codes "match")) pattern
  of_if : {n : ExpandedName} → IsXsl (codes "if") n → MustHave n (plain (codes "test")) test
  of_when : {n : ExpandedName} → IsXsl (codes "when") n → MustHave n (plain (codes "test")) test

-- an attribute of an element of this name, in this scope, that is refused by a reason of its own
pub data IsRefusedAttribute (n : ExpandedName) (scope : List Bound) (a : Attribute) : Why → Type 0 where
  -- 14.1
  extension : IsRoot n → a.name ≡ plain (codes "extension-element-prefixes") → IsRefusedAttribute n scope a ExtensionElements
  -- 16.4
  escaping : n.uri ≡ xsl_uri → a.name ≡ plain (codes "disable-output-escaping") → IsRefusedAttribute n scope a DisableOutputEscaping
  -- 7.1.2
  computed : IsXsl (codes "element") n → a.name ≡ plain (codes "name") → Contains a.value 0x7B → IsRefusedAttribute n scope a ComputedName
  of_namespace : IsXsl (codes "element") n → a.name ≡ plain (codes "namespace") → IsRefusedAttribute n scope a ComputedName
  -- 11.3
  copied : {p : Path} → IsXsl (codes "copy-of") n → a.name ≡ plain (codes "select") → SelectText scope a.value p → (AttributesText scope a.value → ⊥)
      → IsRefusedAttribute n scope a XslCopyOf
  -- 7.1.4
  sets : n.uri ≡ xsl_uri → a.name ≡ plain (codes "use-attribute-sets") → IsRefusedAttribute n scope a UseAttributeSets
  literal_sets : n.uri ≢ xsl_uri → IsXsl (codes "use-attribute-sets") a.name → IsRefusedAttribute n scope a UseAttributeSets
  -- 2.2
  version : IsRoot n → a.name ≡ plain (codes "version") → a.value ≢ codes "1.0" → IsRefusedAttribute n scope a XsltVersion
  -- 2.1, 7.1.1
  unknown : n.uri ≢ xsl_uri → a.name.uri ≡ xsl_uri → a.name.local ≢ codes "exclude-result-prefixes" → a.name.local ≢ codes "use-attribute-sets"
      → IsRefusedAttribute n scope a UnknownXslt
  -- a construct of XPath, in a text that isn't of its form
  in_path : {f : Form} {why : Why} → MustHave n a.name f → (HasForm f scope a.value → ⊥) → Shallow (context_of f) a.value (Some why) → IsRefusedAttribute n scope a why

-- of an element of the first name an attribute of the second is refused for its value alone
pub data IsWeighed (n : ExpandedName) : ExpandedName → Type 0 where
  a_form : {m : ExpandedName} {f : Form} → MustHave n m f → IsWeighed n m
  a_name : IsXsl (codes "element") n → IsWeighed n (plain (codes "name"))
  a_version : IsRoot n → IsWeighed n (plain (codes "version"))

-- all attributes that are refused for their values alone are of these local names
abbrev pub AreWeighedAmong : List (List ℕ) → ExpandedName → Type 0
AreWeighedAmong locals n = (m : ExpandedName) → IsWeighed n m → IsTrue (list_any (bytes_eq m.local) locals)

-- of an element of this name an attribute of this local name that has no namespace is refused by no reason
abbrev pub IsNeverRefused : List ℕ → ExpandedName → Type 0
IsNeverRefused local n = (scope : List Bound) (a : Attribute) (why : Why) → a.name ≡ plain local → IsRefusedAttribute n scope a why → ⊥

-- an element of this name that is refused by a reason of its own
pub data IsRefusedElement (n : ExpandedName) : Why → Type 0 where
  of_reason : {why : Why} → reason_of n ≡ Some why → IsRefusedElement n why
  unknown : IsUnknown n → IsRefusedElement n UnknownXslt

-- an element of this name is refused by no reason
abbrev pub IsUnrefusedElement : ExpandedName → Type 0
IsUnrefusedElement n = (why : Why) → IsRefusedElement n why → ⊥
