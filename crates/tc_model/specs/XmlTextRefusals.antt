-- Where the reading of an XML text comes to a construct that isn't read, or to an element that stands too deep: what stands
-- before that place is read, and what stands after it isn't looked at. A relation `PhraseRefuses bs .. at` says that the phrase
-- at the front of these bytes is read up to `at`, where such a construct stands.
-- So `<a>&nbsp;</b>` is unsupported at 3. A declaration or a prefix that is wrong is malformed once its tag
-- was read. The encoding and the version stand at the first byte of their word. A text is read as far as its
-- characters go, and what isn't whole within them is malformed: in `encoding="x`, a byte FF and a quote,
-- reading stops in the literal before the encoding is known; a document in ISO-8859-1 is refused at the word
-- of its encoding.
use Rattle.std.specs.Prelude.{◌≡◌, ◌≢◌, ℕ, suc, false, List, ◌∷◌, ◌++◌, None, IsFalse, codes, length}
use Rattle.tc_base.specs.declared.reasons.Why.{Why}
use Rattle.tc_base.specs.declared.reasons.Why.TheVariants.{DoctypeSubset, EntityReference, Encoding, XmlSpace, XmlVersion}
use Rattle.tc_model.specs.Names.{ExpandedName}
use Rattle.tc_model.specs.RawTrees.{Attribute, Bound}
use Rattle.tc_model.specs.XmlTextBytes.{place_of, BeginsWithWhite, after_white, IsQuote, EqualsAt, FrontOf}
use Rattle.tc_model.specs.XmlTextBytes as bytes_of
use Rattle.tc_model.specs.XmlTextNames.{QualifiedName, same_written, QNameAt}
use Rattle.tc_model.specs.XmlTextReferences.{predefined, EntityAt, ReferenceAt, is_plain_within, QuotedAt}
use Rattle.tc_model.specs.XmlTextMisc.{SettingAt, IsReadEncoding, DeclarationAt, MiscAt, DoctypeFrontAt, DoctypeAt}
use Rattle.tc_model.specs.XmlTextScopes.{first_scope}
use Rattle.tc_model.specs.XmlTextContent.{Piece, TagAt, ItemAt}
use Rattle.tc_model.specs.XmlText.{after_mark, deepest_element}

-- why a text is refused at a place, though it may go on well
pub data Cause : Type 0 where
  unsupported : Why → Cause
  too_deep : Cause

-- a reference to an entity that isn't predefined (XML, 4.1, [68]; 4.6)
pub record OtherEntityAt (bs : List ℕ) : Type 0 where
  pub name : List ℕ
  pub after : List ℕ
  pub refers : EntityAt bs name after
  pub not_predefined : predefined name ≡ None

-- what stands up to the quote that closes an attribute value (XML, 2.3, [10])
pub data ValueRefuses (quote : ℕ) : List ℕ → List ℕ → Type 0 where
  entity : {bs : List ℕ} → OtherEntityAt bs → ValueRefuses quote bs bs
  past_run : {bs run rest at : List ℕ} → bytes_of.RunAt (is_plain_within quote) bs run rest → ValueRefuses quote rest at → ValueRefuses quote bs at
  past_reference : {bs s rest at : List ℕ} → ReferenceAt false bs s rest → ValueRefuses quote rest at → ValueRefuses quote bs at

pub record QuotedRefuses (bs at : List ℕ) : Type 0 where
  pub quote : ℕ
  pub rest : List ℕ
  pub is_quote : IsQuote quote
  pub opens : bs ≡ quote ∷ rest
  pub refuses : ValueRefuses quote rest at

-- the name of the attribute xml:space (XML, 2.10)
abbrev pub xml_space : QualifiedName
xml_space = record { prefix = codes "xml"; local = codes "space" }

-- the attributes of a tag (XML, 3.1, [40], [41], [44])
pub data AttributesRefuse : List ℕ → Why → List ℕ → Type 0 where
  space : {bs past_name : List ℕ} → BeginsWithWhite bs → QNameAt (after_white bs) xml_space past_name → AttributesRefuse bs XmlSpace (after_white bs)
  value : {bs past_name start at : List ℕ} {name : QualifiedName}
      → BeginsWithWhite bs → QNameAt (after_white bs) name past_name → IsFalse (same_written name xml_space) → EqualsAt past_name start
      → QuotedRefuses start at → AttributesRefuse bs EntityReference at
  past_attribute : {bs past_name start v rest at : List ℕ} {name : QualifiedName} {why : Why}
      → BeginsWithWhite bs → QNameAt (after_white bs) name past_name → IsFalse (same_written name xml_space) → EqualsAt past_name start
      → QuotedAt false start v rest → AttributesRefuse rest why at → AttributesRefuse bs why at

-- a start tag or an empty-element tag
pub record TagRefuses (bs : List ℕ) (why : Why) (at : List ℕ) : Type 0 where
  pub rest : List ℕ
  pub written : QualifiedName
  pub past_name : List ℕ
  pub opens : bs ≡ 0x3C ∷ rest
  pub names : QNameAt rest written past_name
  pub attributes : AttributesRefuse past_name why at

-- content, or an element, where `outer` is in scope and elements stand at most so deep (XML, 3, [39]; 3.1, [43])
mutual
  pub data ContentRefuses (total : ℕ) : List Bound → ℕ → List ℕ → Cause → List ℕ → Type 0 where
    entity : {outer : List Bound} {deepest : ℕ} {bs : List ℕ} → OtherEntityAt bs → ContentRefuses total outer deepest bs (unsupported EntityReference) bs
    child : {outer : List Bound} {deepest : ℕ} {bs at : List ℕ} {cause : Cause} → ElementRefuses total outer deepest bs cause at
        → ContentRefuses total outer deepest bs cause at
    past_item : {outer : List Bound} {deepest : ℕ} {bs rest at : List ℕ} {piece : Piece} {cause : Cause}
        → ItemAt false total outer deepest bs piece rest → ContentRefuses total outer deepest rest cause at
        → ContentRefuses total outer deepest bs cause at

  pub data ElementRefuses (total : ℕ) : List Bound → ℕ → List ℕ → Cause → List ℕ → Type 0 where
    depth : {outer : List Bound} {rest past_name : List ℕ} {name : QualifiedName} → QNameAt rest name past_name
        → ElementRefuses total outer 0 (0x3C ∷ rest) too_deep (0x3C ∷ rest)
    tag : {outer : List Bound} {deepest : ℕ} {bs at : List ℕ} {why : Why} → TagRefuses bs why at
        → ElementRefuses total outer (suc deepest) bs (unsupported why) at
    inside : {outer scope : List Bound} {deepest : ℕ} {bs inside at : List ℕ} {written : QualifiedName} {name : ExpandedName}
        {expanded : List Attribute} {cause : Cause}
        → TagAt false total outer bs written scope name expanded (0x3E ∷ inside) → ContentRefuses total scope deepest inside cause at
        → ElementRefuses total outer (suc deepest) bs cause at

-- an XML declaration of another version than 1.0, or with an encoding that isn't read (XML, 2.8, [23] to [26]; 4.3.3, [80])
pub data DeclarationRefuses : List ℕ → Why → List ℕ → Type 0 where
  version : {bs rest value after : List ℕ} → bs ≡ codes "<?xml" ++ rest → SettingAt (codes "version") rest value after → value ≢ codes "1.0"
      → DeclarationRefuses bs XmlVersion (after_white rest)
  encoding : {bs rest past_version value after : List ℕ} → bs ≡ codes "<?xml" ++ rest → SettingAt (codes "version") rest (codes "1.0") past_version
      → SettingAt (codes "encoding") past_version value after → (IsReadEncoding value → ⊥)
      → DeclarationRefuses bs Encoding (after_white past_version)

-- a document in which elements stand at most so deep (XML, 2.1, [1]; 2.8, [22], [28], [28b])
pub data DocumentRefuses (deepest : ℕ) (text : List ℕ) : Cause → List ℕ → Type 0 where
  declaration : {at : List ℕ} {why : Why} → DeclarationRefuses (after_mark text) why at → DocumentRefuses deepest text (unsupported why) at
  subset : {past_declaration past_misc r : List ℕ} → DeclarationAt (after_mark text) past_declaration → MiscAt past_declaration past_misc
      → DoctypeFrontAt past_misc (0x5B ∷ r) → DocumentRefuses deepest text (unsupported DoctypeSubset) (0x5B ∷ r)
  element : {past_declaration past_misc root at : List ℕ} {cause : Cause} → DeclarationAt (after_mark text) past_declaration
      → MiscAt past_declaration past_misc → DoctypeAt past_misc root → ElementRefuses (length text) first_scope deepest root cause at
      → DocumentRefuses deepest text cause at

-- such a construct stands at this place of the bytes, among the characters at their front: what stands behind these isn't looked at
pub record XmlTextRefuses (bytes : List ℕ) (cause : Cause) (place : ℕ) : Type 0 where
  pub front : List ℕ
  pub at : List ℕ
  pub is_front : FrontOf bytes front
  pub refuses : DocumentRefuses deepest_element front cause at
  pub stands : place ≡ place_of (length front) at

-- reading comes to no such construct
abbrev pub IsNotRefused : List ℕ → Type 0
IsNotRefused bytes = (cause : Cause) (place : ℕ) → XmlTextRefuses bytes cause place → ⊥
