use Rattle.std.proofs.Common.{refl, sym, ◌∙◌}
use Rattle.std.proofs.lemmas.Bool.{true≢false}
use Rattle.tc_steps.proofs.classes.Class.meet.Goals as goal

pub learn-requires : goal.learn-requires
learn-requires c = c.requires

pub returns-then-self-clause-learns : goal.returns-then-self-clause-learns
returns-then-self-clause-learns c = record { known = c.if-self.true; stays = λ _. refl }

pub returns-then-self-clause-sized : goal.returns-then-self-clause-sized
returns-then-self-clause-sized c = c.requires

pub returns-then-self-clause-right : goal.returns-then-self-clause-right
returns-then-self-clause-right c = λ unknown. absurd (true≢false (sym c.if-self.true ∙ unknown))

pub returns-clause-learns : goal.returns-clause-learns
returns-clause-learns c = record { known = c.learn.ensures.known; stays = λ known. absurd (true≢false (sym known ∙ c.if-self.false)) }

pub returns-clause-sized : goal.returns-clause-sized
returns-clause-sized c = c.learn.ensures.sized

pub returns-clause-right : goal.returns-clause-right
returns-clause-right c = λ _. c.learn.ensures.right
