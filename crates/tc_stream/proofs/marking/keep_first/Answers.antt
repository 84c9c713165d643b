use Rattle.std.proofs.Common.{◌∙◌}
use Rattle.tc_stream.proofs.MarkupReads.{first_kept}
use Rattle.tc_stream.proofs.marking.keep_first.Goals as goal

pub returns-clause-most : goal.returns-clause-most
returns-clause-most c = c.push_char.ensures.most ∙ (c.push.ensures.most ∙ c.keep.ensures.most)

pub returns-clause-bytes : goal.returns-clause-bytes
returns-clause-bytes c =
    first_kept c.args.next c.args.tag.now.most c.keep.new.self.most c.push.new.self.most c.keep.new.self.bytes.items c.push.new.self.bytes.items c.push_char.new.names.bytes.items c.push.result c.push_char.result
    c.requires c.keep.ensures.most c.keep.ensures.bytes c.push.ensures.most c.push.ensures.bytes c.push_char.ensures.bytes
