-- The attributes of a tag, by what is kept of them.
use Rattle.std.specs.Prelude.{◌≡◌, ℕ, Bool, false, ◌&&◌, ◌||◌, List, [], ◌∷◌, Option, None, Some, unwrap_or, map, reverse, bytes_eq, codes, if◌then◌else◌}
use Rattle.std.specs.List.{list_any}
use Rattle.tc_model.specs.XmlTextScopes.{is_empty}
use Rattle.tc_tags.specs.Chained.{chain_of}
use Rattle.tc_tags.specs.Pairs.{Pair}
use Rattle.tc_tags.specs.Scoped.{bound_by}
use Rattle.tc_tags.specs.Spans.{at_span}
use Rattle.tc_tags.specs.declared.attributes.Attribute.{Attribute}
use Rattle.tc_tags.specs.declared.attributes.Sort.{Sort}
use Rattle.tc_tags.specs.declared.attributes.Sort.TheVariants as sorts
use Rattle.tc_tags.specs.declared.scopes.Declared.{Declared}

-- a name of two parts
abbrev pub Parts : Type 0
Parts = List ℕ × List ℕ

abbrev pub same_parts : Parts → Parts → Bool
same_parts p q = bytes_eq p.0 q.0 && bytes_eq p.1 q.1

-- an attribute written so is a declaration (Namespaces in XML 1.0, 3, [1] to [3])
abbrev pub is_declared : List ℕ → List ℕ → Bool
is_declared prefix local = (is_empty prefix && bytes_eq local (codes "xmlns")) || bytes_eq prefix (codes "xmlns")

-- the prefix that a declaration written so declares
abbrev pub declared_prefix : List ℕ → List ℕ → List ℕ
declared_prefix prefix local = if is_empty prefix && bytes_eq local (codes "xmlns") then [] else local

-- the namespace name of an attribute with this prefix, empty where it has none
abbrev pub uri_bytes : List ℕ → List Declared → List ℕ → List ℕ
uri_bytes names declared prefix = if is_empty prefix then [] else unwrap_or (bound_by (reverse declared) names prefix) []

-- a name of two parts whose second part comes first
abbrev pub shown : Pair → Parts
shown p = (p.1.now, p.0.now)

-- the name of an attribute: as it is written, or its expanded name, which a declaration hasn't
abbrev pub parts : Sort → List ℕ → List ℕ → List Declared → Attribute → Option Parts
parts sorts.Written tag names declared a = Some (at_span a.prefix tag, at_span a.local tag)
parts sorts.Expanded tag names declared a =
    if is_declared (at_span a.prefix tag) (at_span a.local tag) then None else Some (uri_bytes names declared (at_span a.prefix tag), at_span a.local tag)

-- the chain of a name; any, where there is none
abbrev pub chain_of_parts : Option Parts → ℕ
chain_of_parts None = 0
chain_of_parts (Some p) = chain_of p.0 p.1

abbrev pub chains_of_parts : Sort → List ℕ → List ℕ → List Declared → List Attribute → List ℕ
chains_of_parts sort tag names declared list = map (λ a. chain_of_parts (parts sort tag names declared a)) list

abbrev pub has_parts : Parts → Option Parts → Bool
has_parts p None = false
has_parts p (Some q) = same_parts q p

abbrev pub parts_before : Option Parts → List Parts → List Parts
parts_before None ps = ps
parts_before (Some p) ps = p ∷ ps

-- the names of all attributes that have one
abbrev pub all_parts : Sort → List ℕ → List ℕ → List Declared → List Attribute → List Parts
all_parts sort tag names declared [] = []
all_parts sort tag names declared (a ∷ others) = parts_before (parts sort tag names declared a) (all_parts sort tag names declared others)

-- a name, if there is one, is among these
abbrev pub is_among : Option Parts → List Parts → Bool
is_among None ps = false
is_among (Some p) ps = list_any (λ q. same_parts q p) ps

abbrev pub HasNoPrefix : Attribute → Type 0
HasNoPrefix a = a.prefix.length ≡ 0
