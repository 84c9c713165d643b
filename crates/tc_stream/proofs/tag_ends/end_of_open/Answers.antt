use Rattle.tc_stream.proofs.TagSearch.{end_found, begins_quote, no_mark}
use Rattle.tc_stream.proofs.tag_ends.end_of_open.Goals as goal

pub returns-then-byte-eq62 : goal.returns-then-byte-eq62
returns-then-byte-eq62 c = end_found c.args.bytes.now c.memchr3.result c.in-Some.at c.memchr3.ensures c.in-Some.is c.if-byte-eq62.true

pub returns-else-byte-eq62 : goal.returns-else-byte-eq62
returns-else-byte-eq62 c = begins_quote c.args.bytes.now c.memchr3.result c.in-Some.at c.memchr3.ensures c.in-Some.is c.if-byte-eq62.false

pub returns-in-None : goal.returns-in-None
returns-in-None c = no_mark c.args.bytes.now c.memchr3.result c.memchr3.ensures c.in-None.is
