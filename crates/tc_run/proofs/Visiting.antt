-- What is to be done at a node of a letter, from what the rules answer.
use Rattle.std.proofs.Common.{◌≡◌, ℕ, List, true, cond, Option, None, Some, is_some, ap, sym, subst}
use Rattle.std.specs.Prelude.{MatchOption}
use Rattle.tc_model.specs.Letters.{Letter, IsLetter}
use Rattle.tc_model.specs.Outcomes.{Outcome, nothing}
use Rattle.tc_model.specs.PathStates.{State, is_empty_state}
use Rattle.tc_model.specs.Sheets.{CallFreeBody}
use Rattle.tc_model.specs.StateCounts.{PathUse}
use Rattle.tc_rules.specs.Asked.{letter}
use Rattle.tc_rules.specs.RulesView.{IsStateOf, select_below}
use Rattle.tc_rules.specs.States.{Going}
use Rattle.tc_rules.specs.Tasks.{IsMoveAt}
use Rattle.tc_rules.specs.declared.rules.Kind.{Kind}
use Rattle.tc_rules.specs.declared.rules.Marks.{Marks}
use Rattle.tc_run.specs.Running.{told_by, symbols_by, predicates_by, machine}
use Rattle.tc_run.specs.Sights.{LeadsTo, LeadsFor}
use Rattle.tc_run.specs.Visits.{IsMetBy, IsNextFor, IsTemplateAt}
use Rattle.tc_run.specs.declared.runner.Runner.{Runner}
use Rattle.tc_run.specs.declared.visits.Next.{Next}
use Rattle.tc_run.specs.declared.visits.Template.{Template}
use Rattle.tc_run.proofs.Hitting.{IsStep}

module _ (r : Runner) where
  -- the letter of an element is one
  pub letter_met : (top : ℕ) (kind : Kind) (marks : Marks) (x : Kind) → kind ≡ x → IsMetBy r top (letter kind marks) → IsLetter (symbols_by r) (predicates_by r) (letter x marks)
  letter_met top kind marks x e h = subst (λ k. IsLetter (symbols_by r) (predicates_by r) (letter k marks)) e h.letter

  pub next_for : (state top : ℕ) (kind : Kind) (marks : Marks) (d : Next) (x : Kind) → kind ≡ x → IsNextFor r state top x marks d → IsNextFor r state top kind marks d
  next_for state top kind marks d x e h = subst (λ k. IsNextFor r state top k marks d) (sym e) h

  -- something is instantiated exactly where the move selects the node
  pub template_seen : (state top : ℕ) (x : Letter) (o : Option Template) → IsTemplateAt r state top x o → (bodies : List CallFreeBody) (g : Going) (done : Outcome) → IsMoveAt (told_by r) state g
      → cond (is_some o) done nothing ≡ cond ((machine r bodies).move_hits g x) done nothing
  template_seen state top x o v bodies g done at = ap (λ b. cond b done nothing) (v.hit bodies g at)

  pub leads_for : (look : ℕ) (kind : Kind) (marks : Marks) (o : Option ℕ) (x : Kind) → kind ≡ x → LeadsFor r look x marks o → LeadsFor r look kind marks o
  leads_for look kind marks o x e h = subst (λ k. LeadsFor r look k marks o) (sym e) h

  pub letter_told : (kind : Kind) (marks : Marks) (x : Kind) → kind ≡ x → IsLetter (symbols_by r) (predicates_by r) (letter kind marks) → IsLetter (symbols_by r) (predicates_by r) (letter x marks)
  letter_told kind marks x e h = subst (λ k. IsLetter (symbols_by r) (predicates_by r) (letter k marks)) e h

  -- the state below an element, or that there is none
  pub leads_some : (state below : ℕ) (x : Letter) (o : Option ℕ) → LeadsTo r state x o → o ≡ Some below → IsStep r state below x
  leads_some state below x o n e = λ w y at.
      subst (λ o. MatchOption o (is_empty_state (select_below (symbols_by r) (told_by r) w y x) ≡ true) (λ k. IsStateOf (told_by r) k w (select_below (symbols_by r) (told_by r) w y x))) e (n w y at)

  pub leads_none : (state : ℕ) (x : Letter) (o : Option ℕ) → LeadsTo r state x o → o ≡ None → (w : PathUse) (y : State) → IsStateOf (told_by r) state w y
      → is_empty_state (select_below (symbols_by r) (told_by r) w y x) ≡ true
  leads_none state x o n e = λ w y at.
      subst (λ o. MatchOption o (is_empty_state (select_below (symbols_by r) (told_by r) w y x) ≡ true) (λ k. IsStateOf (told_by r) k w (select_below (symbols_by r) (told_by r) w y x))) e (n w y at)

-- of something, or of nothing
pub some_seen : (o : Option Template) (w : Template) (done : Outcome) → o ≡ Some w → cond (is_some o) done nothing ≡ done
some_seen o w done e = ap (λ z. cond (is_some z) done nothing) e

pub none_seen : (o : Option Template) (done : Outcome) → o ≡ None → cond (is_some o) done nothing ≡ nothing
none_seen o done e = ap (λ z. cond (is_some z) done nothing) e
