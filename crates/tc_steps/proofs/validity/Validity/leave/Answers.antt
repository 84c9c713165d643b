use Rattle.std.proofs.Common.{◌<◌, ◌-◌, arith, length, refl, subst, sym}
use Rattle.std.proofs.lemmas.Option.{slice_get_read}
use Rattle.tc_steps.specs.Led.{AreLed}
use Rattle.tc_steps.proofs.OpenLaws.{leave_within, level_within, set_left}
use Rattle.tc_steps.proofs.validity.Validity.leave.Goals as goal

pub returns-clause-within : goal.returns-clause-within
returns-clause-within c = λ x o path w. set_left (c.args.self.now.depth - 1) _ (leave_within w c.requires) (omega arith)

pub returns-clause-left : goal.returns-clause-left
returns-clause-left c = λ x o path w.
    let v = c.args.self.now in
    let level = c.index_mut-level.result.now in
    let inside = c.requires in
    let within = v.within in
    let low : v.depth - 1 < length v.levels.items = omega (arith, inside, within) in
    let at = slice_get_read v.levels.items _ (v.depth - 1) level refl low c.index_mut-level.ensures.value in
    let r = level_within level w at in
    (r.symbol, r.known, subst (AreLed x o.name o.kids) (sym c.swap.ensures.x_after) r.led)
