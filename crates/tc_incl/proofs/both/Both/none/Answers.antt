use Rattle.std.proofs.Common.{refl}
use Rattle.tc_incl.proofs.Made.{are_states, are_begun}
use Rattle.tc_incl.proofs.HandedOn.{no_value}
use Rattle.tc_incl.proofs.both.Both.none.Goals as goal

pub returns-clause-fit : goal.returns-clause-fit
returns-clause-fit c = record {
  first = c.in_ok-first.ensures.set;
  second = c.in_ok-second.ensures.set;
  first_size = c.in_ok-first.ensures.size;
  second_size = c.in_ok-second.ensures.size;
}

pub returns-clause-made : goal.returns-clause-made
returns-clause-made c = λ x t. record {
  row = record {
    first = are_states x.first c.args.self.now.first.auto.now t.first c.in_ok-first.first c.in_ok-first.ensures.set c.in_ok-first.ensures.size;
    second = are_states x.second c.args.self.now.second.auto.now t.second c.in_ok-second.second c.in_ok-second.ensures.set c.in_ok-second.ensures.size;
  };
  ends = refl;
  first = are_begun x.first c.args.self.now.first.auto.now t.first c.in_ok-first.first c.in_ok-first.ensures.set (c.in_ok-first.ensures.numbers x.first t.first);
  second = are_begun x.second c.args.self.now.second.auto.now t.second c.in_ok-second.second c.in_ok-second.ensures.set (c.in_ok-second.ensures.numbers x.second t.second);
}

pub returns-in_err-first-clause-fit : goal.returns-in_err-first-clause-fit
returns-in_err-first-clause-fit c = no_value c.from_residual.result _ _ c.from_residual.ensures.1

pub returns-in_err-first-clause-made : goal.returns-in_err-first-clause-made
returns-in_err-first-clause-made c = no_value c.from_residual.result _ _ c.from_residual.ensures.1

pub returns-in_err-second-clause-fit : goal.returns-in_err-second-clause-fit
returns-in_err-second-clause-fit c = no_value c.from_residual-in_err-second.result _ _ c.from_residual-in_err-second.ensures.1

pub returns-in_err-second-clause-made : goal.returns-in_err-second-clause-made
returns-in_err-second-clause-made c = no_value c.from_residual-in_err-second.result _ _ c.from_residual-in_err-second.ensures.1
