use Rattle.tc_dtd.proofs.BuiltLaws.{number_is}
use Rattle.tc_dtd.proofs.numbers.number_of.Goals as goal

pub returns : goal.returns
returns c = number_is c.get_index_of.result c.args.found.now.keys c.args.name c.get_index_of.ensures.index c.get_index_of.ensures.found
