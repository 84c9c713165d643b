use Rattle.std.proofs.Common.{◌∙◌, sym}
use Rattle.tc_stream.proofs.WordLaws.{kept_utf8}
use Rattle.tc_stream.proofs.references.character_of.Goals as goal

pub returns-in-Err : goal.returns-in-Err
returns-in-Err c written e = absurd (c.in-Err.ensures.cases.0 (kept_utf8 written c.in_ok-bytes.bytes.now (sym e ∙ c.in_ok-bytes.ensures)))
