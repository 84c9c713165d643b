use Rattle.std.proofs.Common.{subst}
use Rattle.tc_read.proofs.Exits.{err_is}
use Rattle.tc_decide.specs.Comparing.{by_first, by_second}
use Rattle.tc_decide.proofs.Compared.{is_pair}
use Rattle.tc_decide.proofs.MachineLimits.{cause_on}
use Rattle.tc_decide.proofs.comparing.pair_of.Goals as goal

pub returns-in_err-one-clause-err : goal.returns-in_err-one-clause-err
returns-in_err-one-clause-err c = err_is c.from_residual.result _ _ c.from_residual.ensures.1 (λ x y read_one read_other. cause_on _ (λ kind number p. by_first p) (c.in_err-one.ensures.err x read_one))

pub returns-in_err-other-clause-err : goal.returns-in_err-other-clause-err
returns-in_err-other-clause-err c =
    err_is c.from_residual-in_err-other.result _ _ c.from_residual-in_err-other.ensures.1
    (λ x y read_one read_other. cause_on _ (λ kind number p. by_second (c.in_ok-one.ensures.within x read_one) p) (c.in_err-other.ensures.err y read_other))

pub returns-in_err-alphabet-clause-err : goal.returns-in_err-alphabet-clause-err
returns-in_err-alphabet-clause-err c =
    err_is c.from_residual-in_err-alphabet.result _ _ c.from_residual-in_err-alphabet.ensures.1
    (λ x y read_one read_other. c.in_err-alphabet.ensures.err x y read_one read_other (c.in_ok-one.ensures.within x read_one) (c.in_ok-other.ensures.within y read_other))

pub returns-clause-ok : goal.returns-clause-ok
returns-clause-ok c = λ x y read_one read_other.
    is_pair x y c.args.first.now c.args.second.now c.requires.first c.requires.second read_one read_other (c.in_ok-one.ensures.within x read_one) (c.in_ok-other.ensures.within y read_other) _ _ _
    (c.in_ok-one.ensures.stands x read_one) (c.in_ok-other.ensures.stands y read_other) (c.in_ok-alphabet.ensures.stands x y read_one read_other) c.in_ok-alphabet.ensures.few
