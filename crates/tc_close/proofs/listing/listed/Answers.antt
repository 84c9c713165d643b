use Rattle.std.proofs.Common.{subst, sym, arith}
use Rattle.tc_rows.specs.Triples.{Triple}
use Rattle.tc_settle.proofs.Exits.{no_ok, err_is}
use Rattle.tc_close.specs.Certified.{IsListed}
use Rattle.tc_close.specs.Decisions.{IsCloseCause}
use Rattle.tc_close.specs.RowState.{RowState}
use Rattle.tc_close.specs.Settling.{IsSettled}
use Rattle.tc_close.specs.declared.decision.CloseFault.TheVariants.{NoMemory}
use Rattle.tc_close.proofs.listing.listed.Goals as goal

pub certified-requires : goal.certified-requires
certified-requires g c =
    let settled = subst (λ (s : RowState). IsSettled g.K.Over.is_of s c.in_ok-closed.closed c.args.most) (sym c.once.view_is) c.in_ok-closed.ensures.settled in
    record { closure = settled.closure; trees = omega (arith, settled.trees, settled.limit); hedges = omega (arith, settled.hedges, settled.limit); limit = omega arith }

pub returns-in_err-closed-clause-rows : goal.returns-in_err-closed-clause-rows
returns-in_err-closed-clause-rows g c = no_ok c.from_residual.result _ (λ o. (x : Triple) → g.K.Over.is_of x → IsListed x c.args.most o) c.from_residual.ensures.1

pub returns-in_err-closed-clause-cause : goal.returns-in_err-closed-clause-cause
returns-in_err-closed-clause-cause g c = err_is c.from_residual.result _ (λ e. (x : Triple) → g.K.Over.is_of x → IsCloseCause x c.args.most e) c.from_residual.ensures.1 c.in_err-closed.ensures.cause

pub returns-in_err-rows-clause-rows : goal.returns-in_err-rows-clause-rows
returns-in_err-rows-clause-rows g c = no_ok c.from_residual-in_err-rows.result _ (λ o. (x : Triple) → g.K.Over.is_of x → IsListed x c.args.most o) c.from_residual-in_err-rows.ensures.1

pub returns-in_err-rows-clause-cause : goal.returns-in_err-rows-clause-cause
returns-in_err-rows-clause-cause g c = err_is c.from_residual-in_err-rows.result NoMemory (λ e. (x : Triple) → g.K.Over.is_of x → IsCloseCause x c.args.most e) c.from_residual-in_err-rows.ensures.1 (λ x o. tt)

pub returns-clause-rows : goal.returns-clause-rows
returns-clause-rows g c = λ x o.
    let settled = subst (λ (s : RowState). IsSettled g.K.Over.is_of s c.in_ok-closed.closed c.args.most) (sym c.once.view_is) c.in_ok-closed.ensures.settled in
    (c.in_ok-rows.ensures.keeps x c.args.most o settled, c.in_ok-rows.ensures.data x o)
