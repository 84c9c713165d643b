use Rattle.std.proofs.Common.{sym, subst, Err}
use Rattle.tc_decide.specs.PiecesSeen.{TellsInPieces}
use Rattle.tc_decide.proofs.InPieces.{told_limit}
use Rattle.tc_decide.proofs.Judged.{few_states}
use Rattle.tc_decide.proofs.MachineLimits.{some_grammar}
use Rattle.tc_decide.proofs.pieces.schema_in_pieces.Goals as goal

pub document_in_pieces-requires-clause-states : goal.document_in_pieces-requires-clause-states
document_in_pieces-requires-clause-states c = let (x, read) = some_grammar _ c.requires.schema in few_states x c.in-Ok.parts (c.in-Ok.ensures.ok x read)

pub returns-in-Ok : goal.returns-in-Ok
returns-in-Ok c = λ x read. c.document_in_pieces.ensures x (c.in-Ok.ensures.ok x read)

pub returns-in-Err : goal.returns-in-Err
returns-in-Err c = λ x read.
    subst (λ e. TellsInPieces x c.args.document.now (Err e)) (sym c.limit_failure.ensures) (told_limit x c.args.document.now c.in-Err.fault (c.in-Err.ensures.err x read))
