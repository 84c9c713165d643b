use Rattle.tc_cert.proofs.ReadLines.{no_heading}
use Rattle.tc_cert.proofs.reader.first_line.Goals as goal

pub returns-in-None : goal.returns-in-None
returns-in-None c = no_heading c.args.bytes.now c.in_default.ensures c.in-None.ensures
