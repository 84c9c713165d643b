-- The prefixes in scope by bindings one within another.
use Rattle.std.specs.Prelude.{◌≡◌, ℕ, List, [], ◌∷◌, Option, None, Some, reverse, bytes_eq, if◌then◌else◌}
use Rattle.tc_model.specs.RawTrees.{Bound}
use Rattle.tc_model.specs.XmlTextScopes.{is_empty, uri_of, bound_in, first_scope}

-- to what bindings bind a prefix, the innermost first; an empty namespace name takes the default namespace away
abbrev pub bound_among : List Bound → List ℕ → Option (List ℕ)
bound_among [] prefix = uri_of first_scope prefix
bound_among (b ∷ bs) prefix = if bytes_eq b.prefix prefix then (if is_empty b.uri then None else Some b.uri) else bound_among bs prefix

-- bindings, the innermost last, bind what this scope does
abbrev pub Binds : List Bound → List Bound → Type 0
Binds bindings scope = (prefix : List ℕ) → bound_among (reverse bindings) prefix ≡ uri_of scope prefix

-- no prefix is bound twice in a scope
abbrev pub IsOnce : List Bound → Type 0
IsOnce [] = Unit {0}
IsOnce (b ∷ scope) = (uri_of scope b.prefix ≡ None) × IsOnce scope

-- a scope within which these bindings stand
abbrev pub scope_with : List Bound → List Bound → List Bound
scope_with scope [] = scope
scope_with scope (b ∷ bs) = scope_with (bound_in b scope) bs
