use Rattle.tc_stream.proofs.CharacterReads.{by_char}
use Rattle.tc_stream.proofs.reader.Reader.read.Goals as goal

pub read_char-requires-clause-by_char : goal.read_char-requires-clause-by_char
read_char-requires-clause-by_char c =
    by_char c.args.self.now.part c.in_default.not-Between c.in_default.not-Data c.in_default.not-Comment c.in_default.not-Instruction c.in_default.not-Cdata c.in_default.not-Tag c.in_default.not-EndTag

pub returns-in-Comment-clause-ok : goal.returns-in-Comment-clause-ok
returns-in-Comment-clause-ok c = c.read_comment.ensures.ok c.args.end

pub returns-in-Comment-clause-fault : goal.returns-in-Comment-clause-fault
returns-in-Comment-clause-fault c = c.read_comment.ensures.fault c.args.end

pub returns-in-Instruction-clause-ok : goal.returns-in-Instruction-clause-ok
returns-in-Instruction-clause-ok c = c.read_instruction.ensures.ok c.args.end

pub returns-in-Instruction-clause-fault : goal.returns-in-Instruction-clause-fault
returns-in-Instruction-clause-fault c = c.read_instruction.ensures.fault c.args.end

pub returns-in-Cdata-clause-ok : goal.returns-in-Cdata-clause-ok
returns-in-Cdata-clause-ok c = c.read_cdata.ensures.ok c.args.end

pub returns-in-Cdata-clause-fault : goal.returns-in-Cdata-clause-fault
returns-in-Cdata-clause-fault c = c.read_cdata.ensures.fault c.args.end

pub returns-in-Tag-clause-ok : goal.returns-in-Tag-clause-ok
returns-in-Tag-clause-ok c = c.read_tag.ensures.ok c.args.end

pub returns-in-Tag-clause-fault : goal.returns-in-Tag-clause-fault
returns-in-Tag-clause-fault c = c.read_tag.ensures.fault c.args.end

pub returns-in-EndTag-clause-ok : goal.returns-in-EndTag-clause-ok
returns-in-EndTag-clause-ok c = c.read_end_tag.ensures.ok c.args.end

pub returns-in-EndTag-clause-fault : goal.returns-in-EndTag-clause-fault
returns-in-EndTag-clause-fault c = c.read_end_tag.ensures.fault c.args.end

pub read_between-requires-clause-ready : goal.read_between-requires-clause-ready
read_between-requires-clause-ready c = c.requires.ready

pub read_between-requires-clause-part : goal.read_between-requires-clause-part
read_between-requires-clause-part c = c.in-Between.is

pub read_between-requires-clause-some : goal.read_between-requires-clause-some
read_between-requires-clause-some c = c.requires.some

pub read_between-requires-clause-within : goal.read_between-requires-clause-within
read_between-requires-clause-within c = c.requires.within

pub read_between-requires-clause-low : goal.read_between-requires-clause-low
read_between-requires-clause-low c = c.requires.low

pub returns-in-Between-clause-ok : goal.returns-in-Between-clause-ok
returns-in-Between-clause-ok c = c.read_between.ensures.ok

pub returns-in-Between-clause-less : goal.returns-in-Between-clause-less
returns-in-Between-clause-less c = c.read_between.ensures.less

pub returns-in-Between-clause-fault : goal.returns-in-Between-clause-fault
returns-in-Between-clause-fault c = c.read_between.ensures.fault

pub read_data-requires-clause-ready : goal.read_data-requires-clause-ready
read_data-requires-clause-ready c = c.requires.ready

pub read_data-requires-clause-part : goal.read_data-requires-clause-part
read_data-requires-clause-part c = c.in-Data.is

pub read_data-requires-clause-some : goal.read_data-requires-clause-some
read_data-requires-clause-some c = c.requires.some

pub read_data-requires-clause-within : goal.read_data-requires-clause-within
read_data-requires-clause-within c = c.requires.within

pub read_data-requires-clause-low : goal.read_data-requires-clause-low
read_data-requires-clause-low c = c.requires.low

pub returns-in-Data-clause-ok : goal.returns-in-Data-clause-ok
returns-in-Data-clause-ok c = c.read_data.ensures.ok

pub returns-in-Data-clause-less : goal.returns-in-Data-clause-less
returns-in-Data-clause-less c = c.read_data.ensures.less

pub returns-in-Data-clause-fault : goal.returns-in-Data-clause-fault
returns-in-Data-clause-fault c = c.read_data.ensures.fault

pub read_comment-requires-clause-ready : goal.read_comment-requires-clause-ready
read_comment-requires-clause-ready c = c.requires.ready

pub read_comment-requires-clause-part : goal.read_comment-requires-clause-part
read_comment-requires-clause-part c = c.in-Comment.is

pub read_comment-requires-clause-some : goal.read_comment-requires-clause-some
read_comment-requires-clause-some c = c.requires.some

pub returns-in-Comment-clause-less : goal.returns-in-Comment-clause-less
returns-in-Comment-clause-less c = c.read_comment.ensures.less

pub read_instruction-requires-clause-ready : goal.read_instruction-requires-clause-ready
read_instruction-requires-clause-ready c = c.requires.ready

pub read_instruction-requires-clause-part : goal.read_instruction-requires-clause-part
read_instruction-requires-clause-part c = c.in-Instruction.is

pub read_instruction-requires-clause-some : goal.read_instruction-requires-clause-some
read_instruction-requires-clause-some c = c.requires.some

pub returns-in-Instruction-clause-less : goal.returns-in-Instruction-clause-less
returns-in-Instruction-clause-less c = c.read_instruction.ensures.less

pub read_cdata-requires-clause-ready : goal.read_cdata-requires-clause-ready
read_cdata-requires-clause-ready c = c.requires.ready

pub read_cdata-requires-clause-part : goal.read_cdata-requires-clause-part
read_cdata-requires-clause-part c = c.in-Cdata.is

pub read_cdata-requires-clause-some : goal.read_cdata-requires-clause-some
read_cdata-requires-clause-some c = c.requires.some

pub returns-in-Cdata-clause-less : goal.returns-in-Cdata-clause-less
returns-in-Cdata-clause-less c = c.read_cdata.ensures.less

pub read_tag-requires-clause-ready : goal.read_tag-requires-clause-ready
read_tag-requires-clause-ready c = c.requires.ready

pub read_tag-requires-clause-part : goal.read_tag-requires-clause-part
read_tag-requires-clause-part c = c.in-Tag.is

pub read_tag-requires-clause-some : goal.read_tag-requires-clause-some
read_tag-requires-clause-some c = c.requires.some

pub returns-in-Tag-clause-less : goal.returns-in-Tag-clause-less
returns-in-Tag-clause-less c = c.read_tag.ensures.less

pub read_end_tag-requires-clause-ready : goal.read_end_tag-requires-clause-ready
read_end_tag-requires-clause-ready c = c.requires.ready

pub read_end_tag-requires-clause-part : goal.read_end_tag-requires-clause-part
read_end_tag-requires-clause-part c = c.in-EndTag.is

pub read_end_tag-requires-clause-some : goal.read_end_tag-requires-clause-some
read_end_tag-requires-clause-some c = c.requires.some

pub returns-in-EndTag-clause-less : goal.returns-in-EndTag-clause-less
returns-in-EndTag-clause-less c = c.read_end_tag.ensures.less

pub read_char-requires-clause-ready : goal.read_char-requires-clause-ready
read_char-requires-clause-ready c = c.requires.ready

pub read_char-requires-clause-some : goal.read_char-requires-clause-some
read_char-requires-clause-some c = c.requires.some

pub read_char-requires-clause-within : goal.read_char-requires-clause-within
read_char-requires-clause-within c = c.requires.within

pub read_char-requires-clause-low : goal.read_char-requires-clause-low
read_char-requires-clause-low c = c.requires.low

pub returns-in_default-clause-ok : goal.returns-in_default-clause-ok
returns-in_default-clause-ok c = c.read_char.ensures.ok

pub returns-in_default-clause-less : goal.returns-in_default-clause-less
returns-in_default-clause-less c = c.read_char.ensures.less

pub returns-in_default-clause-fault : goal.returns-in_default-clause-fault
returns-in_default-clause-fault c = c.read_char.ensures.fault
