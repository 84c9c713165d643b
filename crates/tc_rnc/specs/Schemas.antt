-- Declarations, and what schemas begin with, as the readers of them say what they read.
use Rattle.std.specs.Prelude.{◌≡◌, ◌⊎◌, ℕ, false, List, [], ◌∷◌, Some, codes}
use Rattle.tc_model.specs.RawTrees.{Bound}
use Rattle.tc_model.specs.CompactSyntaxTrees.{Joins, Definition}
use Rattle.tc_model.specs.CompactSyntaxTokens.{Token}
use Rattle.tc_model.specs.CompactSyntaxNames.{IsWord, IsMark, IsLiteral, identifier, identifier_or_keyword}
use Rattle.tc_model.specs.CompactSyntax.{OperatorAt, SchemaAt}
use Rattle.tc_model.specs.CompactSyntaxUnread.{Refusal, End}
use Rattle.tc_model.specs.CompactSyntaxStops.{SchemaStops}
use Rattle.tc_rnc.specs.Readings.{BeginsWith}

-- a namespace name in quotes
abbrev pub LiteralAt : List Token → List ℕ → List Token → Type 0
LiteralAt ts uri after = (w : Token) × (ts ≡ w ∷ after) × IsLiteral uri w

-- an equals sign and a namespace name
abbrev pub UriAt : List Token → List ℕ → List Token → Type 0
UriAt ts uri after = (v w : Token) × (ts ≡ v ∷ w ∷ after) × IsMark 0x3D v × IsLiteral uri w

-- a prefix, an equals sign and a namespace name
abbrev pub PrefixUriAt : List Token → List ℕ → List ℕ → List Token → Type 0
PrefixUriAt ts prefix uri after = (u v w : Token) × (ts ≡ u ∷ v ∷ w ∷ after) × (identifier_or_keyword u.word ≡ Some prefix) × IsMark 0x3D v × IsLiteral uri w

-- this keyword stands first, after which the others stand
abbrev pub StartsWith : List ℕ → List Token → List Token → Type 0
StartsWith s ts rest = (t : Token) × (ts ≡ t ∷ rest) × IsWord s t

-- two keywords stand first
abbrev pub StartsWithBoth : List ℕ → List ℕ → List Token → List Token → Type 0
StartsWithBoth s r ts rest = (mid : List Token) × StartsWith s ts mid × StartsWith r mid rest

-- an equals sign stands first
abbrev pub BeginsEquals : List Token → Type 0
BeginsEquals ts = (rest : List Token) × BeginsWith 0x3D ts rest

-- this mark stands first, at this place
abbrev pub BeginsAt : ℕ → List Token → ℕ → Type 0
BeginsAt c ts place = (t : Token) × ((rest : List Token) × ((ts ≡ t ∷ rest) × IsMark c t × (place ≡ t.place)))

-- a declaration begins here, by its keyword
abbrev pub BeginsDeclaration : List Token → Type 0
BeginsDeclaration [] = ⊥
BeginsDeclaration (t ∷ ts) = IsWord (codes "namespace") t ⊎ (IsWord (codes "default") t ⊎ IsWord (codes "datatypes") t)

-- no declaration begins here
abbrev pub LacksDeclaration : List Token → Type 0
LacksDeclaration [] = Unit {0}
LacksDeclaration (t ∷ ts) = (IsWord (codes "namespace") t → ⊥) × (IsWord (codes "default") t → ⊥) × (IsWord (codes "datatypes") t → ⊥)

-- a schema of what is left is one of the whole, and where its reading stops that of the whole does
pub record Declares (end : End) (scope within : List Bound) (tokens rest : List Token) : Type 0 where
  pub forth : (d : ℕ) (ds : List Definition) → SchemaAt false within d rest ds → SchemaAt false scope d tokens ds
  pub stops : (d : ℕ) (r : Refusal) → SchemaStops end within d rest r → SchemaStops end scope d tokens r

-- what begins here is no definitions
abbrev pub LacksDefinitions : List Token → Type 0
LacksDefinitions [] = ⊥
LacksDefinitions (t ∷ ts) =
    (IsWord (codes "start") t → ⊥) × (IsWord (codes "div") t → ⊥) × (IsWord (codes "include") t → ⊥)
    × ((n : List ℕ) (j : Joins) (rest : List Token) → identifier t.word ≡ Some n → OperatorAt ts j rest → ⊥)
