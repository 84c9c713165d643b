use Rattle.std.proofs.Common.{inl, inr, refl}
use Rattle.tc_model.specs.Views as see
use Rattle.tc_tests_engine.proofs.Parts.{are_parts}
use Rattle.tc_tests_engine.proofs.triples.machine_of.Goals as goal

pub of-requires-3 : goal.of-requires-3
of-requires-3 c =
    let i = see.grammar c.args.input.now in
    let o = see.grammar c.args.output.now in
    let s = see.sheet c.args.sheet.now in
    are_parts i o s c.requires.input c.requires.start c.requires.output c.requires.sheet c.in_ok-inner.inner c.in_ok-outer.outer c.in-Ok-of.rules c.in-Ok.alphabet c.in-Ok.ensures.stands c.in-Ok-of.ensures.sheet c.in-Ok-of.ensures.rules
    (c.in_ok-inner.ensures i o s c.in-Ok.ensures.stands (inl refl))
    (c.in_ok-outer.ensures i o s c.in-Ok.ensures.stands (inr refl))

pub returns-in-Ok-of-2 : goal.returns-in-Ok-of-2
returns-in-Ok-of-2 c =
    let i = see.grammar c.args.input.now in
    let o = see.grammar c.args.output.now in
    let s = see.sheet c.args.sheet.now in
    let (x, parts) =
    are_parts i o s c.requires.input c.requires.start c.requires.output c.requires.sheet c.in_ok-inner.inner c.in_ok-outer.outer c.in-Ok-of.rules c.in-Ok.alphabet c.in-Ok.ensures.stands c.in-Ok-of.ensures.sheet c.in-Ok-of.ensures.rules
    (c.in_ok-inner.ensures i o s c.in-Ok.ensures.stands (inl refl))
    (c.in_ok-outer.ensures i o s c.in-Ok.ensures.stands (inr refl))
    in
    (x, c.in-Ok-of-2.ensures.stands x parts)
