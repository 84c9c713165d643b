use Rattle.tc_decide.proofs.SpotsTold.{unused, instantiated, decides}
use Rattle.tc_decide.proofs.spots.dead.Goals as goal

pub returns-clause-unused : goal.returns-clause-unused
returns-clause-unused c = λ i s a b. unused i s c.dead_of_texts.result (c.dead_of_texts.ensures.found i s a b)

pub returns-clause-instantiated : goal.returns-clause-instantiated
returns-clause-instantiated c = λ i s a b. instantiated i s c.dead_of_texts.result (c.dead_of_texts.ensures.found i s a b)

pub returns-clause-spots_told : goal.returns-clause-spots_told
returns-clause-spots_told c = λ i s a b. decides i s c.dead_of_texts.result (c.dead_of_texts.ensures.found i s a b)

pub returns-clause-refused : goal.returns-clause-refused
returns-clause-refused c = c.dead_of_texts.ensures.refusal
