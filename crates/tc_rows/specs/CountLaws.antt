-- What counts tell, where there are counts, and lists that hold each row once; and what passes a number without them.
use Rattle.std.specs.Prelude.{◌≡◌, ◌<◌, ◌↔◌, ◌⊎◌, ℕ, List, length, Contains}
use Rattle.tc_rows.specs.Triples.{Triple, IsTriple}
use Rattle.tc_rows.specs.Rows.{HedgeRow, TreeRow}
use Rattle.tc_rows.specs.Counts.{AreDifferent, Counts, Pass, IsRowOfLiveTree, IsRowOfLiveHedge, IsOutput}
use Rattle.tc_rows.specs.Derivations.{HedgeFrom, TreeFrom}
use Rattle.tc_rows.specs.Certificates.{AreClosed}

-- two counts are equal, and where there is one, there are more than some number exactly where the count passes it. That there is a count isn't said: limits are to be stated by `Pass`, which needs none
abbrev pub CountsTell : {R : Type 0} → (R → Type 0) → Type 0
CountsTell IsOne = ((m n : ℕ) → Counts IsOne m → Counts IsOne n → m ≡ n) × ((n most : ℕ) → Counts IsOne n → Pass IsOne most ↔ (most < n))

-- closed lists without repeats of rows that come from rows hold all rows once, and show that there is a count
abbrev pub ListsTell : Triple → Type 0
ListsTell x =
    (trees : List TreeRow) (hedges : List HedgeRow) → AreClosed x trees hedges → AreDifferent trees → AreDifferent hedges
    → ((r : TreeRow) → Contains trees r → (n : ℕ) × TreeFrom x r n) → ((r : HedgeRow) → Contains hedges r → (n : ℕ) × HedgeFrom x r n)
    → Counts (IsRowOfLiveTree x) (length trees) × Counts (IsRowOfLiveHedge x) (length hedges)

-- a set of pairs stands in a listed row
abbrev pub IsSetIn : List TreeRow → List HedgeRow → List (ℕ × ℕ) → Type 0
IsSetIn trees hedges pairs = ((r : TreeRow) × Contains trees r × Contains r.entries pairs) ⊎ ((r : HedgeRow) × Contains hedges r × Contains r.entries pairs)

-- and a list without repeats of the sets in them is as long as there are sets
abbrev pub SetsTell : Triple → Type 0
SetsTell x =
    (trees : List TreeRow) (hedges : List HedgeRow) (sets : List (List (ℕ × ℕ))) → AreClosed x trees hedges
    → ((r : TreeRow) → Contains trees r → (n : ℕ) × TreeFrom x r n) → ((r : HedgeRow) → Contains hedges r → (n : ℕ) × HedgeFrom x r n)
    → AreDifferent sets → ((pairs : List (ℕ × ℕ)) → Contains sets pairs ↔ IsSetIn trees hedges pairs)
    → Counts (IsOutput x) (length sets)

-- a set of pairs stands in a row that comes from rows, listed or not
abbrev pub IsSetFrom : Triple → List (ℕ × ℕ) → Type 0
IsSetFrom x pairs = ((r : TreeRow) × (n : ℕ) × TreeFrom x r n × Contains r.entries pairs) ⊎ ((r : HedgeRow) × (n : ℕ) × HedgeFrom x r n × Contains r.entries pairs)

-- rows that come from rows, and sets in them, pass a number where more than so many of them are different, be there further ones or not
abbrev pub SomePass : Triple → Type 0
SomePass x =
    ((trees : List TreeRow) (most : ℕ) → AreDifferent trees → ((r : TreeRow) → Contains trees r → (n : ℕ) × TreeFrom x r n) → most < length trees → Pass (IsRowOfLiveTree x) most)
    × ((hedges : List HedgeRow) (most : ℕ) → AreDifferent hedges → ((r : HedgeRow) → Contains hedges r → (n : ℕ) × HedgeFrom x r n) → most < length hedges → Pass (IsRowOfLiveHedge x) most)
    × ((sets : List (List (ℕ × ℕ))) (most : ℕ) → AreDifferent sets → ((pairs : List (ℕ × ℕ)) → Contains sets pairs → IsSetFrom x pairs) → most < length sets → Pass (IsOutput x) most)

abbrev pub RowsAreCounted : Type 0
RowsAreCounted = (x : Triple) → IsTriple x → CountsTell (IsRowOfLiveTree x) × CountsTell (IsRowOfLiveHedge x) × CountsTell (IsOutput x) × ListsTell x × SetsTell x × SomePass x
