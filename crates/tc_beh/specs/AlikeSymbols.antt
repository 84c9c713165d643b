-- Symbols that no class of two schemas and no node test of a stylesheet tells apart.
use Rattle.std.specs.Prelude.{◌≡◌, ◌↔◌, ◌⊎◌, ◌<◌, ◌≤◌, ◌++◌, ◌∷◌, [], ℕ, List, Bool, Option, Some, MatchOption, length, map, slice_get}
use Rattle.std.specs.Bool.{beq}
use Rattle.std.specs.Cmp.Lexicographic.{pointwise}
use Rattle.std.specs.Global.{Vec}
use Rattle.std.specs.List.{Contains}
use Rattle.indexmap.specs.IndexMap.{IndexMap, get}
use Rattle.tc_model.specs.Names.{ExpandedName}
use Rattle.tc_model.specs.Trees.{none}
use Rattle.tc_model.specs.Chains.{an_element}
use Rattle.tc_model.specs.Grammars.{Grammar, in_class}
use Rattle.tc_model.specs.Paths.{passes}
use Rattle.tc_model.specs.Sheets as s
use Rattle.tc_model.specs.States.{input, output}
use Rattle.tc_model.specs.Symbols as symbols
use Rattle.tc_model.specs.Symbols.{Mention, fresh_name, node_tests, symbol_count}
use Rattle.tc_model.specs.Views as see
use Rattle.tc_model.specs.declared.sheet.NodeTest.{NodeTest}
use Rattle.tc_hedge.specs.Stands as h
use Rattle.tc_hedge.specs.declared.hedge.Hedge.{Hedge}
use Rattle.tc_rows.specs.Alike as r
use Rattle.tc_rows.specs.Triples.{Triple, sheet}
use Rattle.tc_rows.specs.Rows.{HedgeRow, TreeRow}
use Rattle.tc_rows.specs.Arithmetic.{IsWrap, IsLiveWrap}
use Rattle.tc_beh.specs.declared.node_tests.Asked.{Asked}
use Rattle.tc_beh.specs.declared.node_tests.Asked.TheVariants.{Name, Namespace}

-- what contracts see of node tests
abbrev pub seen : List NodeTest → List s.NodeTest
seen xs = map see.node_test xs

-- a node test itself, and none of what is put out
abbrev pub itself : s.NodeTest → List s.NodeTest
itself t = t ∷ []

abbrev pub no_test_of : ExpandedName → List s.NodeTest
no_test_of n = []

-- the same classes of both schemas hold the names that stand for both symbols, and these pass the same node tests
abbrev pub AreAlike : Triple → ℕ → ℕ → Type 0
AreAlike x a b = symbols.AreAlike x.input x.output (sheet x) (fresh_name x.symbols a) (fresh_name x.symbols b)

-- it is alike, and none before it is
pub record IsFirstAlike (x : Triple) (a first : ℕ) : Type 0 where
  pub low : first ≤ a
  pub alike : AreAlike x first a
  pub least : (b : ℕ) → b < first → ¬ AreAlike x b a

-- of each symbol the first that is alike
pub record AreFirstAlike (x : Triple) (firsts : List ℕ) : Type 0 where
  pub count : length firsts ≡ symbol_count x.symbols
  pub each : (a first : ℕ) → slice_get firsts a ≡ Some first → IsFirstAlike x a first

-- symbols alike are so by the steps of all paths too, and wrap alike
abbrev pub AlikeWrapAlike : Type 0
AlikeWrapAlike =
    (x : Triple) (a b : ℕ) → AreAlike x a b
    → r.AreAlike x a b × ((h : HedgeRow) → ((u : TreeRow) → IsWrap x a h u ↔ IsWrap x b h u) × (IsLiveWrap x a h ↔ IsLiveWrap x b h))

-- which classes of schemas hold a name, and which node tests an element of it passes
abbrev pub classes_holding : Grammar → ExpandedName → List Bool
classes_holding g n = map (λ e. in_class e.names n) g.elements

abbrev pub tests_passed : List s.NodeTest → ExpandedName → List Bool
tests_passed ts n = map (λ t. passes t (an_element n none)) ts

-- a node test that asks for what not all elements are called
abbrev pub Asks : s.NodeTest → Type 0
Asks (s.of_name n) = Unit {0}
Asks (s.of_namespace uri) = Unit {0}
Asks s.any_element = ⊥
Asks s.any_text = ⊥
Asks s.any_node = ⊥

-- the node test that asks it
abbrev pub asked_test : Asked → s.NodeTest
asked_test (Name n) = s.of_name (see.name n)
asked_test (Namespace uri) = s.of_namespace uri.now

abbrev pub asked_tests : List Asked → List s.NodeTest
asked_tests xs = map asked_test xs

-- of node tests those that ask
pub record AreAsked (tests asked : List s.NodeTest) : Type 0 where
  pub each : (t : s.NodeTest) → Contains asked t → Contains tests t
  pub all : (t : s.NodeTest) → Asks t → Contains tests t → Contains asked t

-- with one node test more, if it asks
pub record IsPut (old : List s.NodeTest) (test : s.NodeTest) (new : List s.NodeTest) : Type 0 where
  pub from : (t : s.NodeTest) → Contains new t → Contains old t ⊎ (t ≡ test)
  pub kept : (t : s.NodeTest) → Contains old t → Contains new t
  pub there : Asks test → Contains new test

-- what tells a symbol from others: by these node tests
abbrev pub key : Triple → List s.NodeTest → ℕ → List Bool
key x tests a = classes_holding x.input (fresh_name x.symbols a) ++ (classes_holding x.output (fresh_name x.symbols a) ++ tests_passed tests (fresh_name x.symbols a))

-- the schemas of a triple, by its symbols
pub record AreSchemas (x : Triple) (inner outer : Hedge) : Type 0 where
  pub contents : h.Stands input x.input x.symbols inner
  pub states : h.Stands output x.output x.symbols outer

-- the test by which keys are compared
abbrev pub same_key : Vec Bool → Vec Bool → Bool
same_key k l = pointwise beq k.items l.items

module _ (key_at : ℕ → List Bool) where
  -- the first symbol that has the key of another one
  pub record IsFirst (a first : ℕ) : Type 0 where
    pub low : first ≤ a
    pub same : key_at first ≡ key_at a
    pub least : (b : ℕ) → b < first → ¬ (key_at b ≡ key_at a)

  -- the first of so many symbols that has a key; none has it
  abbrev pub IsToldFirst : ℕ → List Bool → Option ℕ → Type 0
  IsToldFirst count bits told =
      MatchOption told ((b : ℕ) → b < count → ¬ (key_at b ≡ bits)) (λ f. (f < count) × (key_at f ≡ bits) × ((b : ℕ) → b < f → ¬ (key_at b ≡ bits)))

  -- of each key the first of so many symbols is known
  abbrev pub AreFirstsKnown : {S : Type 0} → IndexMap (Vec Bool) ℕ S → ℕ → Type 0
  AreFirstsKnown known count = (k : Vec Bool) → IsToldFirst count k.items (get same_key known k)

  -- and each entry of the list is the first of the symbol at its place
  abbrev pub AreFirsts : {S : Type 0} → IndexMap (Vec Bool) ℕ S → List ℕ → ℕ → Type 0
  AreFirsts known firsts count = AreFirstsKnown known count × ((a first : ℕ) → slice_get firsts a ≡ Some first → IsFirst a first)
