use Rattle.std.proofs.Common.{ap, ◌∙◌, ◌++◌, map, Bool, List}
use Rattle.tc_model.specs.Grammars.{ElementPattern, in_class}
use Rattle.tc_model.specs.Views as see
use Rattle.tc_hedge.proofs.Sides.{around_told, pushed_tell}
use Rattle.tc_hedge.proofs.hedge.Hedge.matrix_around.Goals as goal

pub returns-clause-pairs : goal.returns-clause-pairs
returns-clause-pairs c = λ side x st.
    around_told x side (see.name c.args.name.now) c.deref.result.now c.args.inner.now c.put_around.new.out
    (pushed_tell x (see.name c.args.name.now) _
    (c.deref.ensures.value ∙ (c.in_ok-push_allowed.ensures.told side x st ∙ ap (λ (w : List Bool). w ++ map (λ (e : ElementPattern). in_class e.names (see.name c.args.name.now)) x.elements) c.new-allowed.ensures.items)))
    (c.put_around.ensures.pairs side x st)

pub put_around-requires-clause-out : goal.put_around-requires-clause-out
put_around-requires-clause-out c = c.in_ok-led.ensures.size ∙ c.states.ensures.here

pub returns-clause-size : goal.returns-clause-size
returns-clause-size c = c.put_around.ensures.kept.size ∙ (c.in_ok-led.ensures.size ∙ c.states.ensures.here)

pub returns-clause-matrix : goal.returns-clause-matrix
returns-clause-matrix c = c.put_around.ensures.kept.matrix
