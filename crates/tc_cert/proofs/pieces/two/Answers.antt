use Rattle.tc_cert.proofs.Lists.{no_between, no_second}
use Rattle.tc_cert.proofs.pieces.two.Goals as goal

pub returns-in_default-after_byte : goal.returns-in_default-after_byte
returns-in_default-after_byte c = no_between c.requires c.in-Some.ensures c.in_default-after_byte.ensures

pub returns-in-None : goal.returns-in-None
returns-in-None c = no_second c.requires c.in-Some.ensures c.in-Some-after_byte.ensures c.in-None.ensures
