-- What is to be done at nodes of a letter, by the states above them.
use Rattle.std.specs.Prelude.{◌≡◌, ◌<◌, ℕ, List, All, length, Option, Some, is_some, slice_get, IfSome}
use Rattle.tc_model.specs.Chains.{Node}
use Rattle.tc_model.specs.Letters.{Letter, IsLetter}
use Rattle.tc_model.specs.Sheets.{CallFreeBody}
use Rattle.tc_rules.specs.Asked.{letter}
use Rattle.tc_rules.specs.RulesView.{ancestor, ancestor_below}
use Rattle.tc_rules.specs.States.{Going, built_in_at}
use Rattle.tc_rules.specs.Tasks.{IsMoveAt}
use Rattle.tc_rules.specs.declared.rules.Kind.{Kind}
use Rattle.tc_rules.specs.declared.rules.Kind.TheVariants as kinds
use Rattle.tc_rules.specs.declared.rules.Marks.{Marks}
use Rattle.tc_run.specs.ChildMoves.{AreFirst}
use Rattle.tc_run.specs.Leaves.{AreLeaves}
use Rattle.tc_run.specs.Running.{IsRunner, HasBodies, told_by, sheet_by, symbols_by, predicates_by, machine}
use Rattle.tc_run.specs.Sights.{LeadsTo, AreSeenBy}
use Rattle.tc_run.specs.Tasks.{IsMeantBy, IsPartTemplate, built_in}
use Rattle.tc_run.specs.declared.runner.Runner.{Runner}
use Rattle.tc_run.specs.declared.visits.Next.{Next}
use Rattle.tc_run.specs.declared.visits.Known.{Known}
use Rattle.tc_run.specs.declared.visits.KnownNodes.{KnownNodes}
use Rattle.tc_run.specs.declared.visits.Template.{Template}
use Rattle.tc_run.specs.declared.visits.Visit.{Visit}

-- a node of this letter, below an ancestor state by its number
pub record IsMetBy (r : Runner) (top : ℕ) (x : Letter) : Type 0 where
  pub runner : IsRunner r
  pub above : top < length (told_by r).ancestors.states
  pub letter : IsLetter (symbols_by r) (predicates_by r) x

module _ (r : Runner) (state_of_move top : ℕ) where
  -- what is to be instantiated on such a node: something exactly where the move selects it
  pub record IsTemplateAt (x : Letter) (o : Option Template) : Type 0 where
    pub hit : (bodies : List CallFreeBody) (g : Going) → IsMoveAt (told_by r) state_of_move g → is_some o ≡ (machine r bodies).move_hits g x
    pub part : IfSome o (IsPartTemplate (sheet_by r))
    pub meant : (bodies : List CallFreeBody) (g : Going) (n : Node) → HasBodies r bodies → IsMoveAt (told_by r) state_of_move g → ((m : ℕ) → built_in_at m x.kind ≡ built_in m n)
        → IfSome o (λ t. IsMeantBy (sheet_by r).named n t ((machine r bodies).body_at g.task (ancestor (told_by r) top) x))

  -- the states below such an element
  pub record IsNext (x : Letter) (d : Next) : Type 0 where
    pub above : slice_get (told_by r).ancestors.states d.above ≡ Some (ancestor_below (symbols_by r) (told_by r) top x)
    pub state : LeadsTo r state_of_move x d.state

  abbrev pub IsNextFor : Kind → Marks → Next → Type 0
  IsNextFor (kinds.Elem k) marks d = IsNext (letter (kinds.Elem k) marks) d
  IsNextFor kinds.Text marks d = Unit {0}

  pub record IsVisit (kind : Kind) (marks : Marks) (v : Visit) : Type 0 where
    pub template : IsTemplateAt (letter kind marks) v.template
    pub next : IsNextFor kind marks v.next

-- what is remembered is right
abbrev pub IsKnown : Runner → Known → Type 0
IsKnown r k = IsVisit r k.state k.above k.kind k.marks k.visit

pub record AreFoundBy (r : Runner) (k : KnownNodes) : Type 0 where
  pub found : All (λ o. IfSome o (IsKnown r)) k.places.items
  pub children : AreFirst r k.children
  pub leaves : AreLeaves (sheet_by r) k.leaves
  pub sights : AreSeenBy r k.sights
