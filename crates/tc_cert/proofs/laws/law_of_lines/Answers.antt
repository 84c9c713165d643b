use Rattle.tc_cert.proofs.Apart.{one_output, one_tree, one_hedge}
use Rattle.tc_cert.proofs.laws.law_of_lines.Goals as goal

pub returns : goal.returns
returns c = record { outputs = one_output; trees = one_tree; hedges = one_hedge }
