use Rattle.std.proofs.Common.{Bool, sym, subst}
use Rattle.tc_stream.specs.Reading.{TakesText}
use Rattle.tc_stream.proofs.ReadingLaws.{none_taken}
use Rattle.tc_stream.proofs.reader.Reader.take_text.Goals as goal

pub returns-then-is_white-clause-elements : goal.returns-then-is_white-clause-elements
returns-then-is_white-clause-elements c =
    let e = c.args.self.now.elements in subst (λ (b : Bool). TakesText b e e) (sym c.if-is_white.true) (none_taken e)

pub returns-clause-elements : goal.returns-clause-elements
returns-clause-elements c =
    subst (λ (b : Bool). TakesText b c.args.self.now.elements c.take_text.new.self) (sym c.if-is_white.false)
    (record { ready = c.take_text.ensures.ready; keeps = c.take_text.ensures.keeps; steps = λ x ls run text white a. c.take_text.ensures.steps x ls run text white a })
