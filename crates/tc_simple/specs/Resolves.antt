-- What is known of the definitions of a syntax tree by their numbers.
use Rattle.std.specs.Prelude.{◌≡◌, ℕ, Bool, true, false, List, [], Some}
use Rattle.tc_model.specs.CompactSyntaxTrees.{Syntax}
use Rattle.tc_graph.specs.Graph.{IsReached}
use Rattle.tc_simple.specs.Nodes.{link_rows}
use Rattle.tc_simple.specs.Tables.{number_of, IsTable}
use Rattle.tc_graph.specs.Walks.{AreComponents}
use Rattle.tc_graph.specs.declared.cycles.State.{State}
use Rattle.tc_simple.specs.declared.groups.Table.{Table}

-- what each name stands for, which definitions are reached from `start`, and their components
pub record Resolves (s : Syntax) (t : Table) (start : ℕ) (marks : List Bool) (states : List State) (order : List ℕ) : Type 0 where
  pub table : IsTable s t
  pub begins : number_of t [] ≡ Some start
  pub reach : IsReached (link_rows t true) start marks
  pub components : AreComponents (link_rows t false) states order
