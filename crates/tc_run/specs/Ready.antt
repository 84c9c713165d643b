-- What holds where bodies are instantiated: the rules are those of the run, what was found by them is right, and the limits
-- are kept so far. A record gathers what is asked of a call.
use Rattle.std.specs.Prelude.{◌≡◌, ◌<◌, ◌≤◌, ℕ, Result, OnOk, length}
use Rattle.tc_base.specs.declared.limits.TheConstants.{MOST_OPEN, MOST_WORK}
use Rattle.tc_model.specs.Chains.{children}
use Rattle.tc_rules.specs.Tasks.{IsSomeMove}
use Rattle.tc_run.specs.Lettered.{Lettered, bare}
use Rattle.tc_run.specs.Running.{IsRunner, IsLetteredBy, told_by}
use Rattle.tc_run.specs.Sights.{AreSeenBy}
use Rattle.tc_run.specs.Views.{trees, node}
use Rattle.tc_run.specs.Visits.{AreFoundBy}
use Rattle.tc_run.specs.declared.RunFault.{RunFault}
use Rattle.tc_run.specs.declared.bodies.Context.{Context}
use Rattle.tc_run.specs.declared.runner.Runner.{Runner}
use Rattle.tc_run.specs.declared.sights.KnownSights.{KnownSights}
use Rattle.tc_run.specs.declared.visits.KnownNodes.{KnownNodes}

-- what is kept of the current node is right, and so is the number of its ancestor state
pub record IsContext (r : Runner) (h : Context) : Type 0 where
  pub kids : IsLetteredBy r (trees h.kids.now)
  pub children_are : bare (trees h.kids.now) ≡ children (node h)
  pub above : h.above < length (told_by r).ancestors.states

-- a document with its letters
pub record IsDocument (r : Runner) (x : Lettered) : Type 0 where
  pub runner : IsRunner r
  pub nodes : IsLetteredBy r x

-- a current node, after some sights
pub record IsAt (r : Runner) (h : Context) (k : KnownSights) : Type 0 where
  pub runner : IsRunner r
  pub here : IsContext r h
  pub known : AreSeenBy r k

-- a current node, after so much work, within so many bodies and instructions
pub record IsReadyOn (r : Runner) (h : Context) (k : KnownNodes) (done around : ℕ) : Type 0 where
  pub runner : IsRunner r
  pub here : IsContext r h
  pub known : AreFoundBy r k
  pub work : done ≤ MOST_WORK
  pub nesting : around ≤ MOST_OPEN

-- the ancestor state above nodes and the state of a move on them, by their numbers; work and nesting as before
pub record IsReadyBelow (r : Runner) (top state_of_move : ℕ) (k : KnownNodes) (done around : ℕ) : Type 0 where
  pub runner : IsRunner r
  pub above : top < length (told_by r).ancestors.states
  pub state : IsSomeMove (told_by r) state_of_move
  pub known : AreFoundBy r k
  pub work : done ≤ MOST_WORK
  pub nesting : around ≤ MOST_OPEN

-- the same afterwards
pub record StaysReady {T : Type 0} (r : Runner) (k : KnownNodes) (done : ℕ) (x : Result T RunFault) : Type 0 where
  pub few : OnOk x (done ≤ MOST_WORK)
  pub known : AreFoundBy r k
