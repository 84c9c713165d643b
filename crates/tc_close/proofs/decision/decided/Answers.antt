use Rattle.std.proofs.Common.{◌∙◌, subst, sym}
use Rattle.tc_rows.specs.Triples.{Triple}
use Rattle.tc_close.specs.Settling.{IsSettled}
use Rattle.tc_settle.proofs.Exits.{no_ok, err_is}
use Rattle.tc_close.specs.Decisions.{IsDecided, IsCloseCause}
use Rattle.tc_close.specs.RowState.{RowState}
use Rattle.tc_close.specs.declared.decision.CloseFault.TheVariants.{NoMemory}
use Rattle.tc_close.proofs.OnceLaws.{once_on}
use Rattle.tc_close.proofs.decision.decided.Goals as goal

pub verdict-requires-clause-alphabet : goal.verdict-requires-clause-alphabet
verdict-requires-clause-alphabet g c = λ x o. c.alphabet.ensures ∙ (c.requires.machine x o).parts.same_symbols

pub verdict-requires-clause-settled : goal.verdict-requires-clause-settled
verdict-requires-clause-settled g c = subst (λ (s : RowState). IsSettled g.K.Over.is_of s c.in_ok-closed.closed c.args.most) (sym c.once.view_is) c.in_ok-closed.ensures.settled

pub invariant_of-once : goal.invariant_of-once
invariant_of-once g c = once_on g.K.Over.is_of c.once.inside.alike.firsts.items c.once.inside.free c.once.inside.wraps c.once.inside.rows c.verdict.new.rows c.verdict.ensures.same.0 c.once.invariant

pub invariant_of-once-2 : goal.invariant_of-once-2
invariant_of-once-2 g c = once_on g.K.Over.is_of c.once.inside.alike.firsts.items c.once.inside.free c.once.inside.wraps c.once.inside.rows c.verdict.new.rows c.verdict.ensures.same.0 c.once.invariant

pub returns-in_err-closed-clause-decision : goal.returns-in_err-closed-clause-decision
returns-in_err-closed-clause-decision g c = no_ok c.from_residual.result _ (λ d. (x : Triple) → g.K.Over.is_of x → IsDecided x c.args.most d) c.from_residual.ensures.1

pub returns-in_err-closed-clause-cause : goal.returns-in_err-closed-clause-cause
returns-in_err-closed-clause-cause g c = err_is c.from_residual.result _ (λ e. (x : Triple) → g.K.Over.is_of x → IsCloseCause x c.args.most e) c.from_residual.ensures.1 c.in_err-closed.ensures.cause

pub returns-in_err-decision-clause-decision : goal.returns-in_err-decision-clause-decision
returns-in_err-decision-clause-decision g c = no_ok c.from_residual-in_err-decision.result _ (λ d. (x : Triple) → g.K.Over.is_of x → IsDecided x c.args.most d) c.from_residual-in_err-decision.ensures.1

pub returns-in_err-decision-clause-cause : goal.returns-in_err-decision-clause-cause
returns-in_err-decision-clause-cause g c = err_is c.from_residual-in_err-decision.result NoMemory (λ e. (x : Triple) → g.K.Over.is_of x → IsCloseCause x c.args.most e) c.from_residual-in_err-decision.ensures.1 (λ x o. tt)

pub returns-clause-decision : goal.returns-clause-decision
returns-clause-decision g c = c.in_ok-decision.ensures.decision
