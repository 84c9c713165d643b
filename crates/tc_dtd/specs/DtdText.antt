-- The declarations of elements in the text of a document type definition: `DtdText bytes declarations` (XML 1.0, Fifth Edition, 2.8 and 3.2).
-- The modules DtdTextContents and DtdTextDeclarations have the productions that it rests on.
-- Every phrase has one relation to an outcome: read, or refused with a cause where a construct stands that
-- isn't read. A text to which none is related is malformed. So no text is both read and refused, and the
-- first construct that is reached decides.
use Rattle.std.specs.Prelude.{◌≡◌, ℕ, List, [], ◌∷◌, ◌++◌, map, length, bytes_eq}
use Rattle.std.specs.List.{IsDistinct, Contains}
use Rattle.tc_base.specs.declared.limits.TheConstants.{DEEPEST_NESTING}
use Rattle.tc_model.specs.Names.{IsChars}
use Rattle.tc_model.specs.XmlText.{after_mark}
use Rattle.tc_model.specs.XmlTextBytes.{place_of, FrontOf}
use Rattle.tc_model.specs.XmlTextMisc.{MiscAt}
use Rattle.tc_model.specs.XmlTextRefusals.{Cause}
use Rattle.tc_dtd.specs.Declarations.{Declaration}
use Rattle.tc_dtd.specs.Outcomes.{Outcome, read, refused, Then, Past}
use Rattle.tc_dtd.specs.DtdTextDeclarations.{TextDeclarationAt, Placed, DeclarationsAt}

-- a text: an XML declaration or none, misc, and declarations, in which parentheses stand at most so deep within one another
abbrev pub TextAt : ℕ → List ℕ → Outcome (List Placed) → Type 0
TextAt deepest bytes = Then TextDeclarationAt (λ _. Then (Past MiscAt) (λ _. DeclarationsAt deepest (length bytes))) (after_mark bytes)

-- how deep parentheses may stand within one another
abbrev pub deepest_parenthesis : ℕ
deepest_parenthesis = DEEPEST_NESTING

-- a text of characters of XML that has this form, in which elements may be declared more than once
pub record HasForm (deepest : ℕ) (bytes : List ℕ) (found : List Placed) : Type 0 where
  pub characters : IsChars bytes
  pub reads : TextAt deepest bytes (read found [])

abbrev pub names_of : List Placed → List (List ℕ)
names_of found = map (λ x. x.declaration.name) found

-- what such a text declares, where it declares each element once (XML, 3.2, Unique Element Type Declaration)
pub record DtdText (bytes : List ℕ) (declarations : List Declaration) : Type 0 where
  pub found : List Placed
  pub form : HasForm deepest_parenthesis bytes found
  pub once : IsDistinct bytes_eq (names_of found)
  pub are : declarations ≡ map (λ x. x.declaration) found

-- the first declaration of an element that was declared before stands at this place
pub record FirstAgain (found : List Placed) (place : ℕ) : Type 0 where
  pub before : List Placed
  pub again : Placed
  pub behind : List Placed
  pub parts : found ≡ before ++ again ∷ behind
  pub once : IsDistinct bytes_eq (names_of before)
  pub twice : Contains (names_of before) again.declaration.name
  pub stands : place ≡ again.place

-- reading comes to such a construct at this place, among the characters at the front: what stands behind these isn't looked at
pub record DtdTextRefuses (bytes : List ℕ) (cause : Cause) (place : ℕ) : Type 0 where
  pub front : List ℕ
  pub at : List ℕ
  pub is_front : FrontOf bytes front
  pub refuses : TextAt deepest_parenthesis front (refused cause at)
  pub stands : place ≡ place_of (length front) at

-- reading comes to no such construct
abbrev pub IsNotRefused : List ℕ → Type 0
IsNotRefused bytes = (cause : Cause) (place : ℕ) → DtdTextRefuses bytes cause place → ⊥
