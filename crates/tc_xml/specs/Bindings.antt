-- Prefixes that are bound where reading stands, and what is bound again once declarations are taken back.
use Rattle.std.specs.Prelude.{◌≡◌, ℕ, List, [], ◌∷◌, ◌++◌, map, take, drop, Option, None, Some, bytes_eq, if◌then◌else◌}
use Rattle.tc_model.specs.RawTrees.{Bound}
use Rattle.tc_model.specs.Views.{bound}
use Rattle.tc_model.specs.declared.tree.Binding.{Binding}
use Rattle.tc_model.specs.XmlTextScopes.{is_empty, uri_of}
use Rattle.tc_xml.specs.Bounds.{named}
use Rattle.tc_xml.specs.declared.bindings.Bindings.{Bindings}

-- an empty namespace name says that a prefix is bound to none
abbrev pub unless_empty : Option (List ℕ) → Option (List ℕ)
unless_empty None = None
unless_empty (Some uri) = if is_empty uri then None else Some uri

-- what a prefix is bound to among these, the first of which decides
abbrev pub shown : List Bound → List ℕ → Option (List ℕ)
shown bounds prefix = unless_empty (uri_of bounds prefix)

-- what is bound now
abbrev pub now_bound : Bindings → List Bound
now_bound b = named b.newest

-- what declarations hid, the oldest one first
abbrev pub hidden : Bindings → List Binding
hidden b = b.hidden.items

-- no prefix stands twice
abbrev pub AreOnce : List Bound → Type 0
AreOnce [] = Unit {0}
AreOnce (b ∷ scope) = (uri_of scope b.prefix ≡ None) × AreOnce scope

-- these show of each prefix what it is bound to in this scope
pub record Tells (bounds scope : List Bound) : Type 0 where
  pub once : AreOnce scope
  pub tells : (prefix : List ℕ) → shown bounds prefix ≡ uri_of scope prefix

-- a prefix is bound, and what it was bound to is kept
pub record Binds (old : Bindings) (b : Bound) (new : Bindings) : Type 0 where
  pub last : Binding
  pub keeps : hidden new ≡ hidden old ++ last ∷ []
  pub before : (prefix : List ℕ) → shown (bound last ∷ now_bound new) prefix ≡ shown (now_bound old) prefix
  pub binds : (prefix : List ℕ) → uri_of (now_bound new) prefix ≡ (if bytes_eq b.prefix prefix then Some b.uri else uri_of (now_bound old) prefix)

-- some prefixes are bound, and what they were bound to is kept
pub record Declares (old new : Bindings) : Type 0 where
  pub more : List Binding
  pub keeps : hidden new ≡ hidden old ++ more
  pub before : (prefix : List ℕ) → shown (map bound more ++ now_bound new) prefix ≡ shown (now_bound old) prefix

-- all declarations but the first so many are taken back
pub record TakesBack (old : Bindings) (count : ℕ) (new : Bindings) : Type 0 where
  pub keeps : hidden new ≡ take count (hidden old)
  pub binds : (prefix : List ℕ) → uri_of (now_bound new) prefix ≡ uri_of (map bound (drop count (hidden old)) ++ now_bound old) prefix
