use Rattle.tc_stream.proofs.TagSearch.{quote_found, quote_none}
use Rattle.tc_stream.proofs.tag_ends.end_of_quoted.Goals as goal

pub returns-in-Some : goal.returns-in-Some
returns-in-Some c = quote_found c.args.quote c.args.bytes.now c.memchr.result c.in-Some.at c.memchr.ensures c.in-Some.is

pub returns-in-None : goal.returns-in-None
returns-in-None c = quote_none c.args.quote c.args.bytes.now c.memchr.result c.memchr.ensures c.in-None.is
