use Rattle.std.proofs.Common.{rules, tests}
use Rattle.tc_base.proofs.characters.is_char.Goals as goal

pub returns-in-9-3 : goal.returns-in-9-3
returns-in-9-3 c = search (tests, rules)

pub returns-in-9-4 : goal.returns-in-9-4
returns-in-9-4 c = search (tests, rules)

pub returns-in-9-5 : goal.returns-in-9-5
returns-in-9-5 c = search (tests, rules)
