-- Numbers in the order in which a walk leaves their components.
use Rattle.std.specs.Prelude.{ℕ, List}
use Rattle.tc_graph.specs.Walks.{AreComponents}
use Rattle.tc_graph.specs.declared.cycles.State.{State}

-- one number of each component, each after those to which it leads
pub record AreComponentsInOrder (rows : List (List ℕ)) (order : List ℕ) : Type 0 where
  pub states : List State
  pub are : AreComponents rows states order
