use Rattle.std.proofs.Common.{◌<◌, arith, length, refl}
use Rattle.std.proofs.lemmas.Option.{slice_get_read}
use Rattle.tc_steps.proofs.ClassLaws.{class_of}
use Rattle.tc_steps.proofs.table.Steps.is_started.Goals as goal

pub returns : goal.returns
returns c = λ x m inside f known is led.
    let cs = c.args.self.now.classes.items in
    let below = c.requires.symbol in
    let counted = c.args.self.now.counted in
    let low : c.args.symbol.0 < length cs = omega (arith, below, counted) in
    let at = slice_get_read cs _ c.args.symbol.0 c.index.result.now refl low c.index.ensures in
    let (allowed, firsts) = class_of x c.args.self.now.alphabet.now cs c.args.symbol.0 c.index.result.now f.classes_are at known m is in
    c.is_started.ensures x m inside f.stands allowed led

pub index-requires : goal.index-requires
index-requires c = omega (arith, c.requires.symbol, c.args.self.now.counted)

pub is_started-requires-clause-numbers : goal.is_started-requires-clause-numbers
is_started-requires-clause-numbers c =
    let low : c.args.symbol.0 < length c.args.self.now.classes.items = omega (arith, c.requires.symbol, c.args.self.now.counted) in
    let at = slice_get_read c.args.self.now.classes.items _ c.args.symbol.0 c.index.result.now refl low c.index.ensures in
    (c.args.self.now.sized c.args.symbol.0 c.index.result.now at).numbers

pub is_started-requires-clause-size : goal.is_started-requires-clause-size
is_started-requires-clause-size c = c.requires.ends
