use Rattle.tc_scan.proofs.FrontLaws.{cut_after_run}
use Rattle.tc_scan.proofs.NamesLaws.{name_byte_ascii, goes_on_ascii}
use Rattle.tc_scan.specs.Names.{is_ascii_name_byte}
use Rattle.tc_scan.proofs.names.after_ascii.Goals as goal

pub range_from-requires : goal.range_from-requires
range_from-requires c = λ _. cut_after_run is_ascii_name_byte name_byte_ascii c.args.text.now c.ascii_len-count.result c.ascii_len-count.ensures.count c.utf8.text

pub returns : goal.returns
returns c = goes_on_ascii c.args.text.now c.ascii_len-count.result c.range_from.result.now c.ascii_len-count.ensures.count c.range_from.ensures.value
