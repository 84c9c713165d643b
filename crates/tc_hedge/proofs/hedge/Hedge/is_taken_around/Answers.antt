use Rattle.std.proofs.Common.{◌∙◌, sym}
use Rattle.std.proofs.lemmas.Bool.{true≢false}
use Rattle.tc_hedge.proofs.Puts.{taken_as_told}
use Rattle.tc_hedge.proofs.hedge.Hedge.is_taken_around.Goals as goal

pub returns-then-is_set : goal.returns-then-is_set
returns-then-is_set c = λ side x st.
    taken_as_told side x c.args.self.now.auto st c.args.allowed.now c.args.inner.now c.args.number _ c.if-number-eq0.false c.patterns.ensures.here c.if-number-patterns.false (c.is_set.ensures.0 c.if-is_set.true) (c.is_taken.ensures side x st)

pub returns-else-is_set : goal.returns-else-is_set
returns-else-is_set c = λ side x st.
    (λ h. absurd (true≢false (sym h ∙ c.if-is_set.false)), λ t. c.is_set.ensures.1 t.2)

pub is_taken-requires-clause-size : goal.is_taken-requires-clause-size
is_taken-requires-clause-size c = c.requires
