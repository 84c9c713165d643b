use Rattle.tc_decide.specs.Texts.{Spells}
use Rattle.tc_decide.proofs.InPieces.{of_pieces, schema_refused}
use Rattle.tc_decide.proofs.SchemaTexts.{read_of, lawful_read}
use Rattle.tc_decide.proofs.pieces.texts_in_pieces.Goals as goal

pub schema_in_pieces-requires-clause-schema : goal.schema_in_pieces-requires-clause-schema
schema_in_pieces-requires-clause-schema c = lawful_read c.args.schema _ c.in-Ok.ensures.ok

pub returns-in-Ok : goal.returns-in-Ok
returns-in-Ok c =
    let (x, s, read) = read_of (Spells c.args.schema) _ c.in-Ok.ensures.ok in
    of_pieces c.args.schema c.args.document.now x c.schema_in_pieces.result s (c.schema_in_pieces.ensures x read)

pub returns : goal.returns
returns c = schema_refused c.args.schema c.args.document.now _ c.in-Err.ensures.no
