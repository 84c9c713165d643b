-- Triples of two schemas and a stylesheet: there is one, and all of them have the same rows.
-- A triple isn't determined by its texts in all that it holds, since tables may hold anything for what is
-- never asked; but its rows are. So the clauses of `typecheck` speak of the two schemas and the stylesheet.
use Rattle.std.specs.Prelude.{◌≡◌, ◌↔◌, ℕ}
use Rattle.tc_model.specs.Chains.{Tree}
use Rattle.tc_model.specs.Grammars.{Grammar, IsGrammar}
use Rattle.tc_model.specs.Sheets.{Sheet}
use Rattle.tc_model.specs.SimplifiesLaws.{IsStart}
use Rattle.tc_model.specs.StateCounts.{PassNone}
use Rattle.tc_model.specs.Symbols.{symbols_of}
use Rattle.tc_model.specs.Trees.{Trees}
use Rattle.tc_model.specs.WellFormed.{IsSheet}
use Rattle.tc_rows.specs.Counts.{Counts, Pass, IsRowOfLiveTree, IsRowOfLiveHedge, IsOutput, PassEntries}
use Rattle.tc_rows.specs.Derivations.{ArePlain}
use Rattle.tc_rows.specs.Rows.{HedgeRow, TreeRow, IsRowOfHedge, IsRowOfTree}
use Rattle.tc_rows.specs.Triples as t
use Rattle.tc_rows.specs.Triples.{Triple, IsTriple}

module _ (i o : Grammar) (s : Sheet) where
  -- rows go by this triple of them
  pub record IsTripleOf (x : Triple) : Type 0 where
    pub triple : IsTriple x
    pub input : x.input ≡ i
    pub output : x.output ≡ o
    pub stylesheet : t.sheet x ≡ s

-- the same are there, and as many of them
pub record AreSame {R : Type 0} (IsOne IsOther : R → Type 0) : Type 0 where
  pub each : (r : R) → IsOne r ↔ IsOther r
  pub pass : (most : ℕ) → Pass IsOne most ↔ Pass IsOther most
  pub counts : (n : ℕ) → Counts IsOne n ↔ Counts IsOther n

-- trees have the same rows, and all that is told of live ones is the same
pub record Agree (x y : Triple) : Type 0 where
  pub trees : (a : Tree) (r : TreeRow) → IsRowOfTree x a r ↔ IsRowOfTree y a r
  pub hedges : (h : Trees) (r : HedgeRow) → IsRowOfHedge x h r ↔ IsRowOfHedge y h r
  pub live_trees : AreSame (IsRowOfLiveTree x) (IsRowOfLiveTree y)
  pub live_hedges : AreSame (IsRowOfLiveHedge x) (IsRowOfLiveHedge y)
  pub outputs : AreSame (IsOutput x) (IsOutput y)
  pub entries : (most : ℕ) → PassEntries x most ↔ PassEntries y most
  pub plain : (h : Trees) → ArePlain x h ↔ ArePlain y h

-- rows are those of the schemas and the stylesheet, however states stand in tables
abbrev pub TriplesAgree : Type 0
TriplesAgree = (i o : Grammar) (s : Sheet) (x y : Triple) → IsTripleOf i o s x → IsTripleOf i o s y → Agree x y

-- well-formed schemas and a well-formed stylesheet that keep the limits have rows to go by
abbrev pub TriplesAreThere : Type 0
TriplesAreThere =
    (i o : Grammar) (s : Sheet) → IsGrammar i → IsStart i.start → IsGrammar o → IsSheet s → PassNone (symbols_of i o s) s
    → (x : Triple) × IsTripleOf i o s x
