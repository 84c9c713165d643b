use Rattle.std.proofs.Common.{Bool, sym, subst}
use Rattle.tc_stream.specs.Reading.{TakesText}
use Rattle.tc_stream.proofs.ItemReads.{section_blank}
use Rattle.tc_stream.proofs.reader.Reader.end_cdata.Goals as goal

pub returns-clause-elements : goal.returns-clause-elements
returns-clause-elements c =
    subst (λ (b : Bool). TakesText b c.args.self.now.elements c.take_text.new.self.elements) (sym (section_blank c.args.brackets 3 c.as_bytes.ensures.value c.is_section_white-is_blank.ensures)) c.take_text.ensures.elements

pub returns-clause-phase : goal.returns-clause-phase
returns-clause-phase c = c.take_text.ensures.phase
