use Rattle.tc_decide.proofs.InPieces.{pieces_decide, pieces_limit}
use Rattle.tc_decide.proofs.pieces.valid_in_pieces.Goals as goal

pub returns-clause-validity : goal.returns-clause-validity
returns-clause-validity c = λ x s. pieces_decide x c.args.document.now c.texts_in_pieces.result (c.texts_in_pieces.ensures.found x s)

pub returns-clause-counted : goal.returns-clause-counted
returns-clause-counted c = λ x s. pieces_limit x c.args.document.now c.texts_in_pieces.result (c.texts_in_pieces.ensures.found x s)

pub returns-clause-refused : goal.returns-clause-refused
returns-clause-refused c = c.texts_in_pieces.ensures.refusal
