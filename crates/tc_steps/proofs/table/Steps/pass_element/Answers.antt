use Rattle.std.proofs.Common.{◌<◌, arith, length, refl}
use Rattle.std.proofs.lemmas.Option.{slice_get_read}
use Rattle.tc_steps.proofs.ClassLaws.{class_of}
use Rattle.tc_steps.proofs.table.Steps.pass_element.Goals as goal

pub returns-clause-led : goal.returns-clause-led
returns-clause-led c = λ x n m kids inside f known is ended led.
    let cs = c.args.self.now.classes.items in
    let below = c.requires.symbol in
    let counted = c.args.self.now.counted in
    let low : c.args.symbol.0 < length cs = omega (arith, below, counted) in
    let at = slice_get_read cs _ c.args.symbol.0 c.index.result.now refl low c.index.ensures in
    let (allowed, firsts) = class_of x c.args.self.now.alphabet.now cs c.args.symbol.0 c.index.result.now f.classes_are at known m is in
    c.pass_element.ensures.led x n m kids inside f.stands allowed ended led

pub index-requires : goal.index-requires
index-requires c = omega (arith, c.requires.symbol, c.args.self.now.counted)

pub pass_element-requires : goal.pass_element-requires
pass_element-requires c =
    let low : c.args.symbol.0 < length c.args.self.now.classes.items = omega (arith, c.requires.symbol, c.args.self.now.counted) in
    let at = slice_get_read c.args.self.now.classes.items _ c.args.symbol.0 c.index.result.now refl low c.index.ensures in
    record {
      numbers = (c.args.self.now.sized c.args.symbol.0 c.index.result.now at).numbers;
      ends = c.requires.ends;
      size = c.requires.size;
      next = c.args.self.now.next_sized;
    }

pub returns-clause-size : goal.returns-clause-size
returns-clause-size c = c.pass_element.ensures.size
