use Rattle.std.proofs.Common.{◌∷◌, [], refl, sym, subst}
use Rattle.tc_answer.specs.Words.{AreOperands, Limits, checks, proves}
use Rattle.tc_answer.specs.WordsSeen.{texts}
use Rattle.tc_answer.proofs.NoCommand.{no_check}
use Rattle.tc_answer.proofs.Options.{limits_are, are_limits}
use Rattle.tc_scan.proofs.NamesLaws.{at_none}
use Rattle.tc_answer.proofs.command.read_check.Goals as goal

pub returns-in_err-limit : goal.returns-in_err-limit
returns-in_err-limit c =
    at_none _ c.from_residual.ensures (no_check c.args.proves (λ limit a b d limits operands schemas.
    c.in_err-limit.ensures limit (a ∷ b ∷ d ∷ []) (are_limits (texts c.args.words.now) (a ∷ b ∷ d ∷ []) limit limits) operands))

pub returns-in_err-triple : goal.returns-in_err-triple
returns-in_err-triple c =
    at_none _ c.from_residual-in_err-triple.ensures (no_check c.args.proves (λ limit a b d limits operands schemas.
    let same = c.in_ok-limit.ensures.1 limit (a ∷ b ∷ d ∷ []) (are_limits (texts c.args.words.now) (a ∷ b ∷ d ∷ []) limit limits) operands in
    c.in_err-triple.ensures a b d (sym same) (subst AreOperands same operands) schemas))

pub returns-then-proves : goal.returns-then-proves
returns-then-proves c =
    let read = c.in_ok-triple.ensures in
    rw c.if-proves.true (proves refl (subst (Limits _ _) read.0 (limits_are (texts c.args.words.now) (texts c.in_ok-limit.operands.now) c.in_ok-limit.limit c.in_ok-limit.ensures.0)) (subst AreOperands read.0 read.1) read.2)

pub returns-else-proves : goal.returns-else-proves
returns-else-proves c =
    let read = c.in_ok-triple.ensures in
    rw c.if-proves.false (checks refl (subst (Limits _ _) read.0 (limits_are (texts c.args.words.now) (texts c.in_ok-limit.operands.now) c.in_ok-limit.limit c.in_ok-limit.ensures.0)) (subst AreOperands read.0 read.1) read.2)
