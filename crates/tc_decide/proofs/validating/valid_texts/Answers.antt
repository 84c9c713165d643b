use Rattle.tc_decide.specs.Texts.{Spells}
use Rattle.tc_decide.proofs.Judged.{of_text, schema_stops}
use Rattle.tc_decide.proofs.SchemaTexts.{read_of, lawful_read}
use Rattle.tc_decide.proofs.validating.valid_texts.Goals as goal

pub valid_document-requires-clause-schema : goal.valid_document-requires-clause-schema
valid_document-requires-clause-schema c = lawful_read c.args.schema _ c.in-Ok.ensures.ok

pub returns-in-Ok : goal.returns-in-Ok
returns-in-Ok c =
    let (x, s, read) = read_of (Spells c.args.schema) _ c.in-Ok.ensures.ok in
    of_text c.args.schema c.args.document.now x c.valid_document.result s (c.valid_document.ensures x read)

pub returns : goal.returns
returns c = schema_stops c.args.schema c.args.document.now _ c.in-Err.ensures.no
