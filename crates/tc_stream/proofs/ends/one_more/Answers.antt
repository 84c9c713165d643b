use Rattle.std.proofs.Common.{◌==◌, sym, eq-eqb}
use Rattle.std.proofs.lemmas.Bool.{ne_eqb, cond-true, cond-false}
use Rattle.tc_stream.proofs.ends.one_more.Goals as goal

pub returns-then-brackets-eq0 : goal.returns-then-brackets-eq0
returns-then-brackets-eq0 c = sym (cond-true (c.args.brackets == 0) 1 2 (eq-eqb c.args.brackets 0 c.if-brackets-eq0.true))

pub returns-else-brackets-eq0 : goal.returns-else-brackets-eq0
returns-else-brackets-eq0 c = sym (cond-false (c.args.brackets == 0) 1 2 (ne_eqb c.args.brackets 0 c.if-brackets-eq0.false))
