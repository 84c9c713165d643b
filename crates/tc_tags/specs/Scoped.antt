-- What declarations bind, by what is kept of them.
use Rattle.std.specs.Prelude.{ℕ, Bool, List, [], Option, None, Some, map, bytes_eq, if◌then◌else◌}
use Rattle.tc_model.specs.Names.{xml_uri}
use Rattle.tc_model.specs.XmlTextScopes.{is_empty, uri_of, first_scope}
use Rattle.tc_tags.specs.Chained.{chain_of, first_such}
use Rattle.tc_tags.specs.Spans.{at_span}
use Rattle.tc_tags.specs.declared.scopes.Declared.{Declared}
use Rattle.tc_tags.specs.declared.scopes.Bound as code
use Rattle.tc_tags.specs.declared.scopes.Bound.TheVariants as bounds

-- the chain of a declaration, and the chains of all
abbrev pub chain_in : List ℕ → Declared → ℕ
chain_in names d = chain_of (at_span d.prefix names) []

abbrev pub chains_in : List ℕ → List Declared → List ℕ
chains_in names ds = map (chain_in names) ds

-- whether this declares the prefix
abbrev pub declares : List ℕ → List ℕ → Declared → Bool
declares names prefix d = bytes_eq (at_span d.prefix names) prefix

-- to what a prefix is bound whose innermost declaration is this one, or which has none; an empty namespace name takes the default namespace away
abbrev pub meant_by : List ℕ → List ℕ → Option Declared → Option (List ℕ)
meant_by names prefix None = uri_of first_scope prefix
meant_by names prefix (Some d) = if is_empty (at_span d.uri names) then None else Some (at_span d.uri names)

-- to what declarations bind a prefix, the innermost first
abbrev pub bound_by : List Declared → List ℕ → List ℕ → Option (List ℕ)
bound_by ds names prefix = meant_by names prefix (first_such (declares names prefix) ds)

-- the namespace name that is meant
abbrev pub bound_bytes : List ℕ → Option code.Bound → Option (List ℕ)
bound_bytes names None = None
bound_bytes names (Some bounds.Xml) = Some xml_uri
bound_bytes names (Some (bounds.Name s)) = Some (at_span s names)
