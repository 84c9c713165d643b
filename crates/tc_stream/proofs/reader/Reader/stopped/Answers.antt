use Rattle.tc_stream.proofs.DeepReads.{deep_name_ended}
use Rattle.tc_stream.proofs.StopReads.{stops}
use Rattle.tc_stream.proofs.reader.Reader.stopped.Goals as goal

pub returns-in-Tag : goal.returns-in-Tag
returns-in-Tag c = λ x chars r k here last at_end. c.fault_of_tag.ensures x chars r _ k c.in-Tag.is last

pub returns-in-DeepName : goal.returns-in-DeepName
returns-in-DeepName c = λ x chars r k here last at_end. deep_name_ended r c.in-DeepName.is last k

pub returns-in_default : goal.returns-in_default
returns-in_default c = λ x chars r k here last at_end. stops r k last c.in_default.not-Tag c.in_default.not-DeepName at_end c.malformed.ensures (c.stop.ensures x chars k here)
