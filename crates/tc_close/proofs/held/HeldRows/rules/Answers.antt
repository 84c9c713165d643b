use Rattle.std.proofs.Common.{◌∙◌, sym, subst, ap}
use Rattle.tc_beh.specs.Stands.{IsRulesIn}
use Rattle.tc_beh.specs.declared.machine.Machine.{Machine}
use Rattle.tc_close.proofs.held.HeldRows.rules.Goals as goal

pub returns : goal.returns
returns g c = λ x o. subst (IsRulesIn x) (sym (c.rules.ensures ∙ ap (λ (m : Machine). m.rules) c.machine.ensures)) (c.self.invariant.0.over x o).parts.are_rules
