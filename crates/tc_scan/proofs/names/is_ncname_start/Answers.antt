use Rattle.std.proofs.Common.{rules, tests}
use Rattle.tc_scan.proofs.names.is_ncname_start.Goals as goal

pub returns-then-is_name_start : goal.returns-then-is_name_start
returns-then-is_name_start c = search (tests, rules)
