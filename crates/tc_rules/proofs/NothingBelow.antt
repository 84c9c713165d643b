-- Where no item is left, nothing is selected any more.
use Rattle.std.proofs.Common.{◌≡◌, List, true, None}
use Rattle.tc_model.specs.Trees.{Trees}
use Rattle.tc_model.specs.Sheets.{Test, Rule, CallFreeBody}
use Rattle.tc_model.specs.Outcomes.{nothing}
use Rattle.tc_model.specs.Machine.{CallFreeJob, first_hit, outputs}
use Rattle.tc_model.specs.Symbols.{Mention}
use Rattle.tc_model.specs.PathStates.{State, is_empty_state}
use Rattle.tc_model.proofs.TreesInTurn.{first_of_none, outputs_of_none}
use Rattle.tc_rules.specs.States.{Going, Looking, states}
use Rattle.tc_rules.proofs.EmptyStates.{hit_none, next_none}

module _ (symbols : List Mention) (predicates : List Test) (rules : List Rule) (bodies : List CallFreeBody) where
  pub first_none : (h : Trees) (s : Looking) → is_empty_state s.state ≡ true → first_hit (states symbols predicates rules bodies) h s ≡ None
  first_none h s e =
      first_of_none (states symbols predicates rules bodies) (λ u. is_empty_state u.state ≡ true)
      (λ u l i. hit_none symbols predicates u.path u.state l i) (λ u l i. next_none symbols predicates u.path u.state l i) h s e

  pub outputs_none : (h : Trees) (j : CallFreeJob) (q : State) (g : Going) → is_empty_state g.state ≡ true → outputs (states symbols predicates rules bodies) h j q g ≡ nothing
  outputs_none h j q g e =
      outputs_of_none (states symbols predicates rules bodies) (λ u. is_empty_state u.state ≡ true)
      (λ u l i. hit_none symbols predicates u.path u.state l i) (λ u l i. next_none symbols predicates u.path u.state l i) h j q g e
