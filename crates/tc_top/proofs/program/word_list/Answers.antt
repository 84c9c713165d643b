use Rattle.std.proofs.Common.{subst, sym, OnErr}
use Rattle.tc_top.specs.Program.{LackMemory}
use Rattle.tc_top.proofs.program.word_list.Goals as goal

pub returns-in-Ok-clause-lack : goal.returns-in-Ok-clause-lack
returns-in-Ok-clause-lack c = subst (λ a. OnErr c.words_behind_name.result (LackMemory a)) (sym c.in-Ok.is) c.words_behind_name.ensures.lack
