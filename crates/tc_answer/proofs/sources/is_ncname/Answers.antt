use Rattle.tc_answer.proofs.SchemaWordsLaws.{is_whole, is_none}
use Rattle.tc_answer.proofs.sources.is_ncname.Goals as goal

pub returns-in-Some : goal.returns-in-Some
returns-in-Some c = is_whole c.args.text.now _ c.in-Some.rest.now c.is_empty.result c.in-Some.ensures c.is_empty.ensures

pub returns-in-None : goal.returns-in-None
returns-in-None c = is_none c.args.text.now c.in-None.ensures
