-- Laws of XML texts and their raw trees.
use Rattle.std.specs.Prelude.{◌≡◌, ◌⊎◌, ◌≤◌, ◌<◌, ℕ, Bool, List, [], length, IsTrue}
use Rattle.std.specs.List.{AllByRecursion}
use Rattle.tc_model.specs.Names.{IsChars, IsNcName, IsNamespaceName, IsName, IsText}
use Rattle.tc_model.specs.Trees.{IsDocument}
use Rattle.tc_model.specs.RawTrees.{Attribute, Bound, RawTrees, none, text, element}
use Rattle.tc_model.specs.XmlText.{Reads, XmlText, deepest_element}
use Rattle.tc_model.specs.XmlTextRefusals.{Cause, unsupported, too_deep, XmlTextRefuses}
use Rattle.tc_model.specs.Stripped.{stripped}

-- a lawful attribute of a text of so many bytes
pub record IsLawfulAttribute (total : ℕ) (a : Attribute) : Type 0 where
  pub name : IsName a.name
  pub value : IsChars a.value
  pub within : a.place ≤ total

-- what may be in scope: a prefix, or none, and a namespace name
pub record IsLawfulBound (b : Bound) : Type 0 where
  pub prefix : (b.prefix ≡ []) ⊎ IsNcName b.prefix
  pub uri : IsNamespaceName b.uri

-- all names, texts and namespace names are lawful, and no place is past so many bytes
abbrev pub AreLawfulWithin : ℕ → RawTrees → Type 0
AreLawfulWithin total none = Unit {0}
AreLawfulWithin total (text s p rest) = IsText s × (p ≤ total) × AreLawfulWithin total rest
AreLawfulWithin total (element n attributes scope p kids rest) =
    IsName n × AllByRecursion (IsLawfulAttribute total) attributes × AllByRecursion IsLawfulBound scope
    × (p ≤ total) × AreLawfulWithin total kids × AreLawfulWithin total rest

-- a text has at most one raw tree
abbrev pub HasOneRawTree : Type 0
HasOneRawTree = (bytes : List ℕ) (h k : RawTrees) → XmlText bytes h → XmlText bytes k → h ≡ k

-- which is lawful
abbrev pub HasLawfulRawTree : Type 0
HasLawfulRawTree = (bytes : List ℕ) (h : RawTrees) → XmlText bytes h → AreLawfulWithin (length bytes) h

-- and stripped it is a document
abbrev pub HasDocument : Type 0
HasDocument = (bytes : List ℕ) (h : RawTrees) → XmlText bytes h → IsDocument (stripped h)

-- a text is refused for one construct, at one place
abbrev pub HasOneRefusal : Type 0
HasOneRefusal = (bytes : List ℕ) (cause other : Cause) (place elsewhere : ℕ) → XmlTextRefuses bytes cause place → XmlTextRefuses bytes other elsewhere
    → (cause ≡ other) × (place ≡ elsewhere)

-- and then it has no raw tree
abbrev pub HasNoTreeWhereRefused : Type 0
HasNoTreeWhereRefused = (bytes : List ℕ) (cause : Cause) (place : ℕ) (h : RawTrees) → XmlTextRefuses bytes cause place → XmlText bytes h → ⊥

-- This cause is for what isn't read elsewhere: a construct that isn't read, if `others` says that references to other entities are read here, or elements
-- deeper than `least`, if they may stand deeper here.
abbrev pub IsBeyond : Bool → ℕ → ℕ → Cause → Type 0
IsBeyond others deepest least (unsupported why) = IsTrue others
IsBeyond others deepest least too_deep = least < deepest

-- a text that is read with references to other entities, or with elements of any depth, has this raw tree, or is refused for one of these
abbrev pub HasTreeOrRefusal : Type 0
HasTreeOrRefusal = (others : Bool) (deepest : ℕ) (bytes : List ℕ) (h : RawTrees) → Reads others deepest bytes h
    → XmlText bytes h ⊎ ((cause : Cause) × (place : ℕ) × XmlTextRefuses bytes cause place × IsBeyond others deepest deepest_element cause)

-- So one that is refused for a construct isn't read without references to other entities, of whatever depth, and one that is refused for an element that
-- stands too deep isn't read with them within this depth.
abbrev pub IsRefusedForMore : Type 0
IsRefusedForMore = (others : Bool) (deepest : ℕ) (bytes : List ℕ) (h : RawTrees) (cause : Cause) (place : ℕ) → Reads others deepest bytes h
    → XmlTextRefuses bytes cause place → IsBeyond others deepest deepest_element cause
