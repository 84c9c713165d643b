-- The attributes of a tag as they are written, by what is kept of them, and what their declarations add.
use Rattle.std.specs.Prelude.{◌≡◌, ◌+◌, ◌≤◌, ℕ, Bool, false, ◌||◌, List, [], ◌∷◌, ◌++◌, map, length, drop, reverse, is_some, IsTrue, IsCharBoundary, if◌then◌else◌}
use Rattle.std.specs.List.{AllByRecursion, IsDistinct, list_all}
use Rattle.tc_model.specs.RawTrees.{Bound}
use Rattle.tc_model.specs.XmlTextBytes.{IsQuote}
use Rattle.tc_model.specs.XmlTextReferences.{ValueAt}
use Rattle.tc_model.specs.XmlTextScopes.{WrittenAttribute, is_empty, is_declaration, binding_of, IsLawfulBinding}
use Rattle.tc_tags.specs.Listed.{is_declared, same_parts, all_parts}
use Rattle.tc_tags.specs.Scoped.{chains_in, bound_by}
use Rattle.tc_tags.specs.Spans.{at_span}
use Rattle.tc_tags.specs.declared.attributes.Attribute.{Attribute}
use Rattle.tc_tags.specs.declared.attributes.Sort.TheVariants.{Written, Expanded}
use Rattle.tc_tags.specs.declared.scopes.Declared.{Declared}

-- an attribute stands in a tag, whose value begins behind the quote
pub record IsWritten (tag : List ℕ) (a : Attribute) (w : WrittenAttribute) : Type 0 where
  pub prefix : at_span a.prefix tag ≡ w.name.prefix
  pub local : at_span a.local tag ≡ w.name.local
  pub is_quote : IsQuote a.quote
  pub cut : IsCharBoundary tag a.value
  pub after : List ℕ
  pub value : ValueAt false a.quote (drop a.value tag) w.value after

abbrev pub AreWritten : List ℕ → List Attribute → List WrittenAttribute → Type 0
AreWritten tag [] [] = Unit {0}
AreWritten tag [] (w ∷ ws) = ⊥
AreWritten tag (a ∷ list) [] = ⊥
AreWritten tag (a ∷ list) (w ∷ ws) = IsWritten tag a w × AreWritten tag list ws

-- what declarations bind, in their order, and the bytes of it
abbrev pub bindings_of : List WrittenAttribute → List Bound
bindings_of [] = []
bindings_of (w ∷ ws) = if is_declaration w then binding_of w ∷ bindings_of ws else bindings_of ws

abbrev pub bytes_of : List Bound → List ℕ
bytes_of [] = []
bytes_of (b ∷ bs) = (b.prefix ++ b.uri) ++ bytes_of bs

abbrev pub declared_bytes : List WrittenAttribute → List ℕ
declared_bytes ws = bytes_of (bindings_of ws)

-- what is kept of a declaration, and that it stands among so many bytes
abbrev pub binding_in : List ℕ → Declared → Bound
binding_in names d = record { prefix = at_span d.prefix names; uri = at_span d.uri names }

abbrev pub StandsWithin : ℕ → Declared → Type 0
StandsWithin count d = (d.prefix.start + d.prefix.length ≤ count) × (d.uri.start + d.uri.length ≤ count)

-- the declarations that are kept, with their chains
pub record AreKept (names : List ℕ) (declared : List Declared) (chains : List ℕ) : Type 0 where
  pub chained : chains ≡ chains_in names declared
  pub within : AllByRecursion (StandsWithin (length names)) declared

-- what the declarations among these attributes add to the names and declarations that are kept
pub record Adds (ws : List WrittenAttribute) (names now : List ℕ) (declared new : List Declared) : Type 0 where
  pub bytes : now ≡ names ++ declared_bytes ws
  pub more : List Declared
  pub behind : new ≡ declared ++ more
  pub bindings : map (binding_in now) more ≡ bindings_of ws
  pub within : AllByRecursion (StandsWithin (length now)) more

-- an attribute is a declaration, or has no prefix or one that is bound
abbrev pub has_meaning : List ℕ → List ℕ → List Declared → Attribute → Bool
has_meaning tag names declared a =
    is_declared (at_span a.prefix tag) (at_span a.local tag) || (is_empty (at_span a.prefix tag) || is_some (bound_by (reverse declared) names (at_span a.prefix tag)))

-- What the attributes of a tag mean, whose bindings these are: each is written once, each expanded name comes once, each declaration is lawful, each prefix is bound
pub record AreMeant (tag names : List ℕ) (declared : List Declared) (bindings : List Bound) (list : List Attribute) : Type 0 where
  pub written : IsDistinct same_parts (all_parts Written tag names declared list)
  pub expanded : IsDistinct same_parts (all_parts Expanded tag names declared list)
  pub lawful : AllByRecursion IsLawfulBinding bindings
  pub bound : IsTrue (list_all (has_meaning tag names declared) list)
