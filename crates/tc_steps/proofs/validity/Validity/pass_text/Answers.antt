use Rattle.std.proofs.Common.{◌<◌, ◌-◌, arith, length, refl}
use Rattle.std.proofs.lemmas.Option.{slice_get_read}
use Rattle.tc_steps.specs.declared.levels.Level.{Level}
use Rattle.tc_steps.proofs.OpenLaws.{text_within}
use Rattle.tc_steps.proofs.validity.Validity.pass_text.Goals as goal

pub returns-clause-within : goal.returns-clause-within
returns-clause-within c = λ x path run w.
    let v = c.args.self.now in
    let level = c.index_mut.result.now in
    let after : Level = record { symbol = level.symbol; states = c.pass_text.new.states } in
    let inside = c.requires.0 in
    let within = v.within in
    let low : v.depth - 1 < length v.levels.items = omega (arith, inside, within) in
    let at = slice_get_read v.levels.items _ (v.depth - 1) level refl low c.index_mut.ensures.value in
    text_within level after w inside c.requires.1 c.pass_text.ensures.auto c.pass_text.ensures.alphabet c.pass_text.ensures.classes at refl (λ n kids white led. c.pass_text.ensures.led x n kids run w.right white led)
