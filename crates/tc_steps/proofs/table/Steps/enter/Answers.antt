use Rattle.std.proofs.Common.{◌<◌, arith, length, refl, sym, ◌∙◌}
use Rattle.std.proofs.lemmas.Option.{slice_get_read}
use Rattle.tc_steps.proofs.ClassLaws.{class_of}
use Rattle.tc_steps.proofs.table.Steps.enter.Goals as goal

pub returns-clause-led : goal.returns-clause-led
returns-clause-led c = λ x n f known is j.
    let cs = c.args.self.now.classes.items in
    let below = c.requires.symbol in
    let counted = c.args.self.now.counted in
    let low : c.args.symbol.0 < length cs = omega (arith, below, counted) in
    let at = slice_get_read cs _ c.args.symbol.0 c.index.result.now refl low c.index.ensures in
    let (allowed, led) = class_of x c.args.self.now.alphabet.now cs c.args.symbol.0 c.index.result.now f.classes_are at known n is in
    (λ h. (led j).0 ((c.replace.ensures.numbers j).0 h), λ h. (c.replace.ensures.numbers j).1 ((led j).1 h))

pub index-requires : goal.index-requires
index-requires c = omega (arith, c.requires.symbol, c.args.self.now.counted)

pub replace-requires : goal.replace-requires
replace-requires c =
    let low : c.args.symbol.0 < length c.args.self.now.classes.items = omega (arith, c.requires.symbol, c.args.self.now.counted) in
    let at = slice_get_read c.args.self.now.classes.items _ c.args.symbol.0 c.index.result.now refl low c.index.ensures in
    (c.args.self.now.sized c.args.symbol.0 c.index.result.now at).firsts ∙ sym c.requires.size

pub returns-clause-size : goal.returns-clause-size
returns-clause-size c = c.replace.ensures.size
