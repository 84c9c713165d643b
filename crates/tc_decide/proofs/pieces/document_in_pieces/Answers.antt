use Rattle.std.proofs.Common.{◌∙◌, sym}
use Rattle.tc_decide.specs.Nothing.{no_schema, no_rules}
use Rattle.tc_decide.specs.PiecesSeen.{TellsInPieces}
use Rattle.tc_decide.proofs.InPieces.{told_fault}
use Rattle.tc_decide.proofs.Nothing.{schema_alone}
use Rattle.tc_decide.proofs.TextsRead.{err_whole}
use Rattle.tc_decide.proofs.pieces.document_in_pieces.Goals as goal

pub feed_all-requires-clause-nothing : goal.feed_all-requires-clause-nothing
feed_all-requires-clause-nothing c = c.in_ok-stream.ensures.none.0

pub returns-in_err-valid : goal.returns-in_err-valid
returns-in_err-valid c = λ x is.
    let stands = c.in_ok-stream.ensures.stands x no_schema no_rules is.automaton is.start (is.symbols ∙ sym (schema_alone x)) in
    err_whole c.from_residual-in_err-valid.result _ (TellsInPieces x c.args.document.now) c.from_residual-in_err-valid.ensures.1
    (told_fault x c.args.document.now is.within_limits c.in_err-valid.field-0.0 (c.in_err-valid.ensures.fault x stands))

pub returns : goal.returns
returns c = λ x is.
    let stands = c.in_ok-stream.ensures.stands x no_schema no_rules is.automaton is.start (is.symbols ∙ sym (schema_alone x)) in
    (is.within_limits, c.in_ok-valid.ensures.ok x stands)
