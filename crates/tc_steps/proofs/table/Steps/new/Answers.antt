use Rattle.std.proofs.Common.{refl}
use Rattle.tc_steps.proofs.ClassLaws.{unknown_classes}
use Rattle.tc_steps.proofs.FailedLaws.{no_value}
use Rattle.tc_steps.proofs.table.Steps.new.Goals as goal

pub returns-clause-right : goal.returns-clause-right
returns-clause-right c = λ x other sheet st e. record {
  stands = st;
  other = other;
  sheet = sheet;
  symbols_are = e;
  classes_are = unknown_classes x c.args.alphabet.now c.in_ok-classes.classes.items c.in_ok-classes.ensures.unknown;
}

pub returns-in_err-classes-clause-auto : goal.returns-in_err-classes-clause-auto
returns-in_err-classes-clause-auto c = no_value c.from_residual.result _ _ c.from_residual.ensures.1

pub returns-in_err-classes-clause-alphabet : goal.returns-in_err-classes-clause-alphabet
returns-in_err-classes-clause-alphabet c = no_value c.from_residual.result _ _ c.from_residual.ensures.1

pub returns-in_err-classes-clause-right : goal.returns-in_err-classes-clause-right
returns-in_err-classes-clause-right c = no_value c.from_residual.result _ _ c.from_residual.ensures.1

pub returns-in_err-next-clause-auto : goal.returns-in_err-next-clause-auto
returns-in_err-next-clause-auto c = no_value c.from_residual-in_err-next.result _ _ c.from_residual-in_err-next.ensures.1

pub returns-in_err-next-clause-alphabet : goal.returns-in_err-next-clause-alphabet
returns-in_err-next-clause-alphabet c = no_value c.from_residual-in_err-next.result _ _ c.from_residual-in_err-next.ensures.1

pub returns-in_err-next-clause-right : goal.returns-in_err-next-clause-right
returns-in_err-next-clause-right c = no_value c.from_residual-in_err-next.result _ _ c.from_residual-in_err-next.ensures.1

pub returns-clause-auto : goal.returns-clause-auto
returns-clause-auto c = refl

pub returns-clause-alphabet : goal.returns-clause-alphabet
returns-clause-alphabet c = refl
