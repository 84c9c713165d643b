-- Names by their numbers, and to which elements each leads.
use Rattle.std.specs.Prelude.{ℕ, zero, suc, ◌+◌, Bool, List, [], ◌∷◌, ◌++◌, map, length, bytes_eq, Option, None, Some, if◌then◌else◌}
use Rattle.std.specs.List.{filter_map, IsDistinct}
use Rattle.std.specs.Option.{option_map}
use Rattle.tc_graph.specs.Graph.{is_marked}
use Rattle.tc_dtd.specs.Declarations.{Content, nothing, anything, mixed, children, Declaration, names_in}

-- no two names are the same
abbrev pub AreApart : List (List ℕ) → Type 0
AreApart ns = IsDistinct bytes_eq ns

-- the place of a name, from 0
abbrev pub number_in : List (List ℕ) → List ℕ → Option ℕ
number_in [] n = None
number_in (m ∷ ms) n = if bytes_eq m n then Some 0 else option_map (λ k. k + 1) (number_in ms n)

abbrev pub names_of : List Declaration → List (List ℕ)
names_of dtd = map (λ x. x.name) dtd

-- the numbers below this one
abbrev pub numbers_below : ℕ → List ℕ
numbers_below zero = []
numbers_below (suc n) = numbers_below n ++ n ∷ []

-- the numbers of the elements that a content may hold, of these; one number more stands for all of them
abbrev pub row_of : List (List ℕ) → Content → List ℕ
row_of ns nothing = []
row_of ns anything = length ns ∷ []
row_of ns (mixed ms) = filter_map (number_in ns) ms
row_of ns (children p) = filter_map (number_in ns) (names_in p)

-- of each element those that it may hold, and of the number that stands for all of them all
abbrev pub link_rows : List Declaration → List (List ℕ)
link_rows dtd = map (λ x. row_of (names_of dtd) x.content) dtd ++ numbers_below (length dtd) ∷ []

-- those of these that are marked from this number on
abbrev pub marked_from : ℕ → List Bool → List Declaration → List Declaration
marked_from k marks [] = []
marked_from k marks (x ∷ xs) = if is_marked marks k then x ∷ marked_from (k + 1) marks xs else marked_from (k + 1) marks xs
