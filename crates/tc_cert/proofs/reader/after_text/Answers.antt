use Rattle.std.proofs.Common.{◌∙◌, sym}
use Rattle.tc_cert.proofs.ReadLines.{begins, begins_not}
use Rattle.tc_cert.proofs.reader.after_text.Goals as goal

pub returns-then-starts_with : goal.returns-then-starts_with
returns-then-starts_with c = begins c.args.text.now c.args.bytes.now (sym c.starts_with.ensures.value ∙ c.if-starts_with.true)

pub returns-else-starts_with : goal.returns-else-starts_with
returns-else-starts_with c = λ r. begins_not c.args.text.now c.args.bytes.now r (sym c.starts_with.ensures.value ∙ c.if-starts_with.false)
