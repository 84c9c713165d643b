-- Stylesheets as XML (XSLT 1.0, 2 to 9 and 11.3): what the elements of the part of XSLT mean that is read.
use Rattle.std.specs.Prelude.{◌≡◌, ◌≢◌, ◌⊎◌, ℕ, not, ◌&&◌, ◌||◌, List, [], ◌∷◌, ◌++◌, map, Option, None, Some, All, IsTrue, IsFalse, bytes_eq, codes, ℤ, if◌then◌else◌}
use Rattle.std.specs.List.{list_any}
use Rattle.tc_model.specs.Names.{ExpandedName}
use Rattle.tc_model.specs.Trees.{is_white_space_only}
use Rattle.tc_model.specs.RawTrees.{Attribute, Bound, RawTrees, none, text, element}
use Rattle.tc_model.specs.XmlTextNames.{QualifiedName, QNameAt}
use Rattle.tc_model.specs.XmlTextScopes.{is_empty, ElementName}
use Rattle.tc_model.specs.Sheets.{Path, Test, no_instruction, value, value_of_self}
use Rattle.tc_model.specs.Meaning.{all_children}
use Rattle.tc_model.specs.PathTextPhrases.{NameMeans, Alternative}
use Rattle.tc_model.specs.PathText.{SelectText, AttributesText, ValueText, PatternText, TestText}
use Rattle.tc_model.specs.PathTextPriority.{PriorityText}
use Rattle.tc_model.specs.SheetTextTrees.{WrittenBody, w_nothing, w_text, w_element, w_copy, w_apply, w_call, w_value, w_self, w_choose, w_each, WrittenBranches, w_otherwise, w_branch, Template}

-- the namespace of XSLT (2.1)
abbrev pub xsl_uri : List ℕ
xsl_uri = codes "http://www.w3.org/1999/XSL/Transform"

-- an XSLT element of this local name
abbrev pub IsXsl : List ℕ → ExpandedName → Type 0
IsXsl local n = n ≡ record { uri = xsl_uri; local = local }

-- the value of the attribute of this local name that has no namespace, if there is one
abbrev pub value_of : List ℕ → List Attribute → Option (List ℕ)
value_of local [] = None
value_of local (a ∷ attributes) = if is_empty a.name.uri && bytes_eq a.name.local local then Some a.value else value_of local attributes

-- attributes of an XSLT element without a namespace are of these names; others are ignored (2.1)
abbrev pub HasOnly : List (List ℕ) → List Attribute → Type 0
HasOnly locals attributes = All (λ a. IsTrue (not (is_empty a.name.uri) || list_any (bytes_eq a.name.local) locals)) attributes

-- of attributes in the namespace of XSLT a literal element has `exclude-result-prefixes` alone; it ignores all others (7.1.1)
abbrev pub AreLiteral : List Attribute → Type 0
AreLiteral attributes = All (λ a. IsTrue (not (bytes_eq a.name.uri xsl_uri) || bytes_eq a.name.local (codes "exclude-result-prefixes"))) attributes

-- texts of white space alone are passed over (3.4)
pub data IsBlank : RawTrees → Type 0 where
  at_end : IsBlank none
  past_white : {s : List ℕ} {p : ℕ} {rest : RawTrees} → IsTrue (is_white_space_only s) → IsBlank rest → IsBlank (text s p rest)

-- texts alone, joined
pub data AreCharacters : RawTrees → List ℕ → Type 0 where
  no_characters : AreCharacters none []
  characters : {s t : List ℕ} {p : ℕ} {rest : RawTrees} → AreCharacters rest t → AreCharacters (text s p rest) (s ++ t)

-- the name of a mode or of a template: without a prefix it has no namespace (2.4)
pub record NameText (scope : List Bound) (written : List ℕ) (n : ExpandedName) : Type 0 where
  pub name : QualifiedName
  pub is_name : QNameAt written name []
  pub means : NameMeans scope name n

-- the name of an element that `xsl:element` makes: without a prefix it takes the default namespace (7.1.2)
pub record ElementNameText (scope : List Bound) (written : List ℕ) (n : ExpandedName) : Type 0 where
  pub name : QualifiedName
  pub is_name : QNameAt written name []
  pub means : ElementName scope name n

-- an attribute that may be left out
pub data Optional {X : Type 0} (Means : List ℕ → X → Type 0) : Option (List ℕ) → Option X → Type 0 where
  left_out : Optional Means None None
  given : {s : List ℕ} {x : X} → Means s x → Optional Means (Some s) (Some x)

-- an attribute that is required
pub data Required {X : Type 0} (Means : List ℕ → X → Type 0) : Option (List ℕ) → X → Type 0 where
  is_given : {s : List ℕ} {x : X} → Means s x → Required Means (Some s) x

-- a select that is left out is that of all children (5.4)
abbrev pub or_all_children : Option Path → Path
or_all_children None = all_children
or_all_children (Some p) = p

-- the alternatives of a match pattern, each with its default priority or the one that is given (5.5)
abbrev pub with_priority : Option ℤ → List Alternative → List Alternative
with_priority None alternatives = alternatives
with_priority (Some x) alternatives = map (λ a. record { pattern = a.pattern; priority = x }) alternatives

abbrev pub or_none : Option (List Alternative) → List Alternative
or_none None = []
or_none (Some alternatives) = alternatives

-- a start tag, with the place of its element
pub record Tag : Type 0 where
  pub name : ExpandedName
  pub attributes : List Attribute
  pub scope : List Bound
  pub place : ℕ

abbrev pub tag : ExpandedName → List Attribute → List Bound → ℕ → Tag
tag n attributes scope p = record { name = n; attributes = attributes; scope = scope; place = p }

-- an XSLT element of this local name, with these attributes alone
pub record IsTag (local : List ℕ) (locals : List (List ℕ)) (t : Tag) : Type 0 where
  pub name : IsXsl local t.name
  pub only : HasOnly locals t.attributes

-- the instructions that are read
pub data Instruction : Type 0 where
  i_apply i_call i_value i_each i_if i_choose i_text i_copy i_element i_attribute i_copy_of : Instruction

pub record NamedInstruction : Type 0 where
  pub local : List ℕ
  pub instruction : Instruction

abbrev pub named : List ℕ → Instruction → NamedInstruction
named local i = record { local = local; instruction = i }

abbrev pub instructions : List NamedInstruction
instructions =
    named (codes "apply-templates") i_apply ∷ named (codes "call-template") i_call ∷ named (codes "value-of") i_value
    ∷ named (codes "for-each") i_each ∷ named (codes "if") i_if ∷ named (codes "choose") i_choose ∷ named (codes "text") i_text
    ∷ named (codes "copy") i_copy ∷ named (codes "element") i_element ∷ named (codes "attribute") i_attribute
    ∷ named (codes "copy-of") i_copy_of ∷ []

abbrev pub instruction_in : List NamedInstruction → List ℕ → Option Instruction
instruction_in [] local = None
instruction_in (x ∷ xs) local = if bytes_eq local x.local then Some x.instruction else instruction_in xs local

-- the instruction of an XSLT element's name
abbrev pub instruction_of : ExpandedName → Option Instruction
instruction_of n = if bytes_eq n.uri xsl_uri then instruction_in instructions n.local else None

mutual
  -- a body (2.2, 7): texts, literal elements and instructions
  pub data IsBody : RawTrees → WrittenBody → Type 0 where
    at_end : IsBody none w_nothing
    past_white : {s : List ℕ} {p : ℕ} {rest : RawTrees} {b : WrittenBody} → IsTrue (is_white_space_only s) → IsBody rest b → IsBody (text s p rest) b
    -- 7.2
    a_text : {s : List ℕ} {p : ℕ} {rest : RawTrees} {b : WrittenBody} → IsFalse (is_white_space_only s) → IsBody rest b → IsBody (text s p rest) (w_text s b)
    -- 7.1.1
    a_literal : {n : ExpandedName} {attributes : List Attribute} {scope : List Bound} {p : ℕ} {kids rest : RawTrees} {inner b : WrittenBody} → n.uri ≢ xsl_uri → AreLiteral attributes
        → IsBody kids inner → IsBody rest b → IsBody (element n attributes scope p kids rest) (w_element n inner b)
    an_instruction : {n : ExpandedName} {attributes : List Attribute} {scope : List Bound} {p : ℕ} {kids rest : RawTrees} {b c : WrittenBody} {i : Instruction}
        → instruction_of n ≡ Some i → IsInstruction i (tag n attributes scope p) kids b c → IsBody rest b → IsBody (element n attributes scope p kids rest) c

  -- an XSLT element with this tag and these children, before a body: the body with it
  pub data IsInstruction : Instruction → Tag → RawTrees → WrittenBody → WrittenBody → Type 0 where
    -- 5.4
    apply_templates : {t : Tag} {kids : RawTrees} {b : WrittenBody} {path : Option Path} {mode : Option ExpandedName} → HasOnly (codes "select" ∷ codes "mode" ∷ []) t.attributes
        → Optional (SelectText t.scope) (value_of (codes "select") t.attributes) path → Optional (NameText t.scope) (value_of (codes "mode") t.attributes) mode → IsBlank kids
        → IsInstruction i_apply t kids b (w_apply (or_all_children path) mode b)
    -- 6
    call_template : {t : Tag} {kids : RawTrees} {b : WrittenBody} {name : ExpandedName} → HasOnly (codes "name" ∷ []) t.attributes
        → Required (NameText t.scope) (value_of (codes "name") t.attributes) name → IsBlank kids → IsInstruction i_call t kids b (w_call name t.place b)
    -- 7.6.1
    value_of_path : {t : Tag} {kids : RawTrees} {b : WrittenBody} {path : Path} → HasOnly (codes "select" ∷ []) t.attributes
        → Required (ValueText t.scope) (value_of (codes "select") t.attributes) (value path no_instruction) → IsBlank kids → IsInstruction i_value t kids b (w_value path b)
    value_of_itself : {t : Tag} {kids : RawTrees} {b : WrittenBody} → HasOnly (codes "select" ∷ []) t.attributes
        → Required (ValueText t.scope) (value_of (codes "select") t.attributes) (value_of_self no_instruction) → IsBlank kids → IsInstruction i_value t kids b (w_self b)
    -- 8
    for_each : {t : Tag} {kids : RawTrees} {b : WrittenBody} {path : Path} {inner : WrittenBody} → HasOnly (codes "select" ∷ []) t.attributes
        → Required (SelectText t.scope) (value_of (codes "select") t.attributes) path → IsBody kids inner → IsInstruction i_each t kids b (w_each path inner b)
    -- 9.1
    an_if : {t : Tag} {kids : RawTrees} {b : WrittenBody} {test : Test} {inner : WrittenBody} → HasOnly (codes "test" ∷ []) t.attributes
        → Required (TestText t.scope) (value_of (codes "test") t.attributes) test → IsBody kids inner
        → IsInstruction i_if t kids b (w_choose (w_branch test inner (w_otherwise w_nothing)) b)
    -- 9.2: there is an `xsl:when`
    a_choose : {t : Tag} {kids : RawTrees} {b : WrittenBody} {test : Test} {inner : WrittenBody} {others : WrittenBranches} → HasOnly [] t.attributes
        → AreBranches kids (w_branch test inner others) → IsInstruction i_choose t kids b (w_choose (w_branch test inner others) b)
    -- 7.2
    a_text_element : {t : Tag} {kids : RawTrees} {b : WrittenBody} {s : List ℕ} → HasOnly [] t.attributes → AreCharacters kids s → IsInstruction i_text t kids b (w_text s b)
    -- 7.5
    a_copy : {t : Tag} {kids : RawTrees} {b inner : WrittenBody} → HasOnly [] t.attributes → IsBody kids inner → IsInstruction i_copy t kids b (w_copy inner b)
    -- 7.1.2
    an_element : {t : Tag} {kids : RawTrees} {b inner : WrittenBody} {m : ExpandedName} → HasOnly (codes "name" ∷ []) t.attributes
        → Required (ElementNameText t.scope) (value_of (codes "name") t.attributes) m → IsBody kids inner → IsInstruction i_element t kids b (w_element m inner b)
    -- 7.1.3: a tree has no attributes, so this makes nothing, whatever it holds
    an_attribute : {t : Tag} {kids : RawTrees} {b : WrittenBody} → IsInstruction i_attribute t kids b b
    -- 11.3: a copy of attributes makes nothing
    copy_of_attributes : {t : Tag} {kids : RawTrees} {b : WrittenBody} {s : List ℕ} → HasOnly (codes "select" ∷ []) t.attributes
        → value_of (codes "select") t.attributes ≡ Some s → AttributesText t.scope s → IsBlank kids → IsInstruction i_copy_of t kids b b

  -- `xsl:when` elements, and perhaps an `xsl:otherwise` (9.2)
  pub data AreBranches : RawTrees → WrittenBranches → Type 0 where
    no_otherwise : AreBranches none (w_otherwise w_nothing)
    between : {s : List ℕ} {p : ℕ} {rest : RawTrees} {x : WrittenBranches} → IsTrue (is_white_space_only s) → AreBranches rest x → AreBranches (text s p rest) x
    a_when : {n : ExpandedName} {attributes : List Attribute} {scope : List Bound} {p : ℕ} {kids rest : RawTrees} {test : Test} {inner : WrittenBody} {x : WrittenBranches}
        → IsTag (codes "when") (codes "test" ∷ []) (tag n attributes scope p) → Required (TestText scope) (value_of (codes "test") attributes) test
        → IsBody kids inner → AreBranches rest x → AreBranches (element n attributes scope p kids rest) (w_branch test inner x)
    an_otherwise : {n : ExpandedName} {attributes : List Attribute} {scope : List Bound} {p : ℕ} {kids rest : RawTrees} {inner : WrittenBody}
        → IsTag (codes "otherwise") [] (tag n attributes scope p) → IsBody kids inner → IsBlank rest → AreBranches (element n attributes scope p kids rest) (w_otherwise inner)

-- an `xsl:template` (5.3, 5.5, 5.7, 6): it has a pattern or a name, and a mode only with a pattern; its priority is read without a pattern too
pub record IsTemplate (s : Tag) (kids : RawTrees) (t : Template) : Type 0 where
  pub alternatives : Option (List Alternative)
  pub priority : Option ℤ
  pub is_template : IsTag (codes "template") (codes "match" ∷ codes "name" ∷ codes "priority" ∷ codes "mode" ∷ []) s
  pub pattern : Optional (PatternText s.scope) (value_of (codes "match") s.attributes) alternatives
  pub priorities : Optional PriorityText (value_of (codes "priority") s.attributes) priority
  pub kept : t.alternatives ≡ with_priority priority (or_none alternatives)
  pub name : Optional (NameText s.scope) (value_of (codes "name") s.attributes) t.name
  pub mode : Optional (NameText s.scope) (value_of (codes "mode") s.attributes) t.mode
  pub pattern_or_name : (alternatives ≢ None) ⊎ (t.name ≢ None)
  pub mode_with_pattern : (alternatives ≢ None) ⊎ (t.mode ≡ None)
  pub body : IsBody kids t.body
  pub place : t.place ≡ s.place

-- the templates among top-level elements (2.2): `xsl:output` and `xsl:strip-space` are passed over, and so are elements of other namespaces, but
-- for that of no name
pub data AreTemplates : RawTrees → List Template → Type 0 where
  at_end : AreTemplates none []
  past_white : {s : List ℕ} {p : ℕ} {rest : RawTrees} {ts : List Template} → IsTrue (is_white_space_only s) → AreTemplates rest ts → AreTemplates (text s p rest) ts
  a_template : {n : ExpandedName} {attributes : List Attribute} {scope : List Bound} {p : ℕ} {kids rest : RawTrees} {t : Template} {ts : List Template}
      → IsTemplate (tag n attributes scope p) kids t → AreTemplates rest ts → AreTemplates (element n attributes scope p kids rest) (t ∷ ts)
  past_declaration : {n : ExpandedName} {attributes : List Attribute} {scope : List Bound} {p : ℕ} {kids rest : RawTrees} {ts : List Template}
      → IsXsl (codes "output") n ⊎ IsXsl (codes "strip-space") n → AreTemplates rest ts → AreTemplates (element n attributes scope p kids rest) ts
  past_other : {n : ExpandedName} {attributes : List Attribute} {scope : List Bound} {p : ℕ} {kids rest : RawTrees} {ts : List Template}
      → n.uri ≢ [] → n.uri ≢ xsl_uri → AreTemplates rest ts → AreTemplates (element n attributes scope p kids rest) ts

-- an `xsl:stylesheet` or `xsl:transform` of version 1.0 (2.2)
pub data IsStylesheet : RawTrees → List Template → Type 0 where
  a_stylesheet : {n : ExpandedName} {attributes : List Attribute} {scope : List Bound} {p : ℕ} {kids : RawTrees} {ts : List Template}
      → IsXsl (codes "stylesheet") n ⊎ IsXsl (codes "transform") n → HasOnly (codes "version" ∷ codes "exclude-result-prefixes" ∷ codes "id" ∷ []) attributes
      → value_of (codes "version") attributes ≡ Some (codes "1.0") → AreTemplates kids ts → IsStylesheet (element n attributes scope p kids none) ts
