use Rattle.std.proofs.Common.{length, refl, arith}
use Rattle.std.proofs.lemmas.Option.{slice_get_read}
use Rattle.tc_model.specs.States as s
use Rattle.tc_auto.proofs.ArrowsTold.{ref_at, arrows_told}
use Rattle.tc_auto.proofs.auto.Auto.arrows.Goals as goal

pub returns-clause-exact : goal.returns-clause-exact
returns-clause-exact c = λ side x st.
    arrows_told side x c.args.self.now st c.args.number c.index.result.now
    (slice_get_read c.args.self.now.arrows.items (length c.args.self.now.arrows.items) c.args.number c.index.result.now refl (omega (arith, c.requires.within, c.args.self.now.arrowed)) c.index.ensures)
    c.as_slice.result.now c.as_slice.ensures.value (s.ref_leaf c.args.number) (ref_at c.args.number c.requires.from_one)
