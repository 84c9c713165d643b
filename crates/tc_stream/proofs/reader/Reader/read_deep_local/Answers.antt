use Rattle.std.proofs.Common.{sym}
use Rattle.tc_stream.proofs.DeepReads.{deep_local_breaks, deep_local_told}
use Rattle.tc_stream.proofs.reader.Reader.read_deep_local.Goals as goal

pub returns-then-is_ncname_start-clause-fault : goal.returns-then-is_ncname_start-clause-fault
returns-then-is_ncname_start-clause-fault c = λ x chars char r. deep_local_told c.args.next c.requires.part (sym c.if-is_ncname_start.ensures) char r

pub returns-clause-fault : goal.returns-clause-fault
returns-clause-fault c = λ x chars char r. deep_local_breaks c.args.next c.requires.part (sym c.if-is_ncname_start.ensures) c.malformed.ensures char r
