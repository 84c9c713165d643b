-- What is to be instantiated on a node, and what it puts out.
use Rattle.std.specs.Prelude.{◌≡◌, ◌<◌, ℕ, List}
use Rattle.tc_model.specs.Chains.{an_element, a_text, Node, whole, one, children}
use Rattle.tc_model.specs.Sheets.{Body, Sheet, CallFreeBody, p_done, p_apply, p_self, Inlines}
use Rattle.tc_model.specs.Outcomes.{Outcome}
use Rattle.tc_model.specs.Meaning.{all_children}
use Rattle.tc_model.specs.Machine.{does_in, outputs}
use Rattle.tc_model.specs.Views as see
use Rattle.tc_model.specs.Trees.{Trees}
use Rattle.tc_rules.specs.States.{Going}
use Rattle.tc_rules.specs.Parts.{IsPart}
use Rattle.tc_rules.specs.RulesView.{ancestor}
use Rattle.tc_run.specs.Leaves.{AreAlike}
use Rattle.tc_run.specs.Running.{told_by, machine}
use Rattle.tc_run.specs.Views.{node}
use Rattle.tc_run.specs.declared.bodies.Context.{Context}
use Rattle.tc_run.specs.declared.visits.Template.{Template}
use Rattle.tc_run.specs.declared.visits.Template.TheVariants as m
use Rattle.tc_run.specs.declared.runner.Runner.{Runner}

-- what a task puts out on what a state selects in trees and below, the ancestor state above them being given by its number
abbrev pub outputs_on : Runner → List CallFreeBody → Trees → ℕ → Going → Outcome
outputs_on r bodies h above g = outputs (machine r bodies) h g.task (ancestor (told_by r) above) g

-- what a body puts out on the current node
abbrev pub does : Runner → List CallFreeBody → CallFreeBody → Context → Outcome
does r bodies p h = does_in (machine r bodies) p (node h) (λ i u. outputs (machine r bodies) (children (node h)) i (ancestor (told_by r) h.above) u)

-- the built-in rules
abbrev pub built_in : ℕ → Node → CallFreeBody
built_in m (whole doc) = p_apply all_children m p_done
built_in m (one (an_element n kids)) = p_apply all_children m p_done
built_in m (one (a_text s)) = p_self p_done

-- a body with calls in place is what is meant on a node
abbrev pub IsMeantBy : List Body → Node → Template → CallFreeBody → Type 0
IsMeantBy named n (m.Body b) p = Inlines named (see.body b.whole.now) p
IsMeantBy named n (m.BuiltIn mode) p = p ≡ built_in mode n

-- it is part of the stylesheet, and the body for nodes without children is like it there
abbrev pub IsPartTemplate : Sheet → Template → Type 0
IsPartTemplate s (m.Body b) = IsPart s (see.body b.whole.now) × AreAlike (see.body b.whole.now) (see.body b.on_leaf.now)
IsPartTemplate s (m.BuiltIn mode) = mode < s.modes
