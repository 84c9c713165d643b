use Rattle.tc_xml.specs.Bindings.{now_bound}
use Rattle.tc_xml.proofs.SpelledLaws.{alone_read}
use Rattle.tc_xml.proofs.levels.Levels.read_tag.Goals as goal

pub returns-in-Some-clause-reads : goal.returns-in-Some-clause-reads
returns-in-Some-clause-reads c = λ right.
    let bindings = c.args.self.now.bindings in
    record { reads = λ total. alone_read total bindings c.args.text.now c.in-Some.tag (c.in-Some.ensures.alone (now_bound bindings) right); right = right }
