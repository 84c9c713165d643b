use Rattle.tc_sheet.proofs.TableKeys.{caller_is}
use Rattle.tc_sheet.proofs.calls.caller.Goals as goal

pub returns-in-Some : goal.returns-in-Some
returns-in-Some c =
    caller_is c.args.template.now.name c.in-Some.name c.args.names.now.keys c.get_index_of.result c.in-Some.is c.requires c.get_index_of.ensures.index c.get_index_of.ensures.found
