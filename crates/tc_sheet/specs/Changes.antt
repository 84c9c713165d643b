-- Trees in which what is refused is taken away or exchanged.
-- An element that isn't supported may be taken away with all that it holds.
use Rattle.std.specs.Prelude.{◌⊎◌, ℕ, List, [], ◌∷◌, codes, IsTrue, ◌&&◌, bytes_eq, Some, ◌≡◌}
use Rattle.std.specs.List.{list_any}
use Rattle.tc_base.specs.declared.reasons.Why.{Why}
use Rattle.tc_model.specs.Names.{ExpandedName}
use Rattle.tc_model.specs.RawTrees.{Attribute, Bound, RawTrees, none, text, element}
use Rattle.tc_model.specs.XmlTextScopes.{is_empty}
use Rattle.tc_model.specs.PathTextTokens.{Token, Tokens}
use Rattle.tc_path.specs.Faults.{Deep}
use Rattle.tc_path.specs.Reasons.{Renamed}
use Rattle.tc_sheet.specs.Constructs.{reason_of}

-- some variable references, literals and numbers of one text are the name `a` in the other
pub record IsRenamed (s t : List ℕ) : Type 0 where
  pub tokens : List Token
  pub renamed : List Token
  pub before : Tokens s tokens
  pub renames : Renamed tokens renamed
  pub after : Tokens t renamed

-- what is changed: elements that are not supported are taken away, and selects, patterns and tests are renamed; or those that nest too deep are
-- exchanged for any others; or both
pub data Change : Type 0 where
  mended : Change
  flattened : Change
  both : Change

abbrev pub TakesAway : Change → ExpandedName → Type 0
TakesAway mended n = (why : Why) × (reason_of n ≡ Some why)
TakesAway flattened n = ⊥
TakesAway both n = (why : Why) × (reason_of n ≡ Some why)

abbrev pub Exchanges : Change → List ℕ → List ℕ → Type 0
Exchanges mended s t = IsRenamed s t
Exchanges flattened s t = Deep s
Exchanges both s t = IsRenamed s t ⊎ Deep s

abbrev pub exchanged : List (List ℕ)
exchanged = codes "select" ∷ codes "match" ∷ codes "test" ∷ []

-- a `select`, a `match` or a `test`
abbrev pub IsExchanged : ExpandedName → Type 0
IsExchanged n = IsTrue (is_empty n.uri && list_any (bytes_eq n.local) exchanged)

pub data ChangedAttributes (c : Change) : List Attribute → List Attribute → Type 0 where
  no_attribute : ChangedAttributes c [] []
  as_it_is : {a : Attribute} {olds bs : List Attribute} → ChangedAttributes c olds bs → ChangedAttributes c (a ∷ olds) (a ∷ bs)
  an_exchange : {a : Attribute} {s : List ℕ} {olds bs : List Attribute} → IsExchanged a.name → Exchanges c a.value s → ChangedAttributes c olds bs
      → ChangedAttributes c (a ∷ olds) (record { name = a.name; value = s; place = a.place } ∷ bs)

-- some of this is changed in the first, and the second is what it becomes
pub data Changed (c : Change) : RawTrees → RawTrees → Type 0 where
  no_tree : Changed c none none
  a_text : {s : List ℕ} {p : ℕ} {h k : RawTrees} → Changed c h k → Changed c (text s p h) (text s p k)
  an_element : {n : ExpandedName} {olds bs : List Attribute} {scope : List Bound} {p : ℕ} {kids others rest behind : RawTrees}
      → ChangedAttributes c olds bs → Changed c kids others → Changed c rest behind
      → Changed c (element n olds scope p kids rest) (element n bs scope p others behind)
  taken_away : {n : ExpandedName} {olds : List Attribute} {scope : List Bound} {p : ℕ} {kids rest behind : RawTrees} → TakesAway c n
      → Changed c rest behind → Changed c (element n olds scope p kids rest) behind
