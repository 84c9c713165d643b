use Rattle.std.proofs.Common.{◌∙◌, ap, sym, subst}
use Rattle.tc_auto.specs.Stands as a
use Rattle.tc_auto.specs.declared.auto.Auto.{Auto}
use Rattle.tc_model.specs.States.{input}
use Rattle.tc_model.specs.Symbols.{symbol_count}
use Rattle.tc_incl.specs.Sides.{AreAllowed}
use Rattle.tc_incl.proofs.both.Both.of.Goals as goal

pub returns : goal.returns
returns c = record {
  told = λ x first second e. record {
    first = subst (λ (w : Auto). a.Stands input x.first w) (sym c.in_ok-first.ensures.auto) first;
    second = subst (λ (w : Auto). a.Stands input x.second w) (sym c.in_ok-second.ensures.auto) second;
    symbols = c.count-symbols.ensures.number ∙ ap symbol_count e;
    first_allowed = subst (λ w. AreAllowed x.first w c.in_ok-first.first.allowed.items) e (c.in_ok-first.ensures.allowed x.first first);
    second_allowed = subst (λ w. AreAllowed x.second w c.in_ok-second.second.allowed.items) e (c.in_ok-second.ensures.allowed x.second second);
  };
}
