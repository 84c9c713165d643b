use Rattle.tc_answer.proofs.Written.{first_line, only_line}
use Rattle.tc_answer.proofs.write.split_line.Goals as goal

pub returns-in-Some-clause-first : goal.returns-in-Some-clause-first
returns-in-Some-clause-first c = first_line c.args.text.now _ _ c.memchr.result c.in-Some.end c.memchr.ensures c.in-Some.is c.split_at.ensures.front c.split_at.ensures.back

pub returns-in-None-clause-first : goal.returns-in-None-clause-first
returns-in-None-clause-first c = only_line c.args.text.now _ _ c.memchr.result c.requires c.memchr.ensures c.in-None.is c.split_at-in-None.ensures.front c.split_at-in-None.ensures.back
