use Rattle.std.proofs.Common.{◌∙◌}
use Rattle.tc_stream.proofs.CharacterReads.{placed_ok, placed_fault, no_other}
use Rattle.tc_stream.proofs.reader.Reader.take_char.Goals as goal

pub read_markup-requires-clause-part : goal.read_markup-requires-clause-part
read_markup-requires-clause-part c = c.requires.part ∙ c.in-Markup.is

pub returns-in-Markup-clause-ok : goal.returns-in-Markup-clause-ok
returns-in-Markup-clause-ok c = placed_ok c.args.self.now c.read_markup.new.self c.args.place c.args.next c.read_markup.result c.read_markup.ensures.ok

pub returns-in-Markup-clause-fault : goal.returns-in-Markup-clause-fault
returns-in-Markup-clause-fault c = placed_fault c.args.self.now c.args.place c.args.next c.read_markup.result c.read_markup.ensures.fault

pub read_marked-requires-clause-part : goal.read_marked-requires-clause-part
read_marked-requires-clause-part c = c.requires.part ∙ c.in-Marked.is

pub returns-in-Marked-clause-ok : goal.returns-in-Marked-clause-ok
returns-in-Marked-clause-ok c = placed_ok c.args.self.now c.read_marked.new.self c.args.place c.args.next c.read_marked.result c.read_marked.ensures.ok

pub returns-in-Marked-clause-fault : goal.returns-in-Marked-clause-fault
returns-in-Marked-clause-fault c = placed_fault c.args.self.now c.args.place c.args.next c.read_marked.result c.read_marked.ensures.fault

pub read_mark-requires-clause-part : goal.read_mark-requires-clause-part
read_mark-requires-clause-part c = c.requires.part ∙ c.in-Mark.is

pub returns-in-Mark-clause-ok : goal.returns-in-Mark-clause-ok
returns-in-Mark-clause-ok c = placed_ok c.args.self.now c.read_mark.new.self c.args.place c.args.next c.read_mark.result c.read_mark.ensures.ok

pub returns-in-Mark-clause-fault : goal.returns-in-Mark-clause-fault
returns-in-Mark-clause-fault c = placed_fault c.args.self.now c.args.place c.args.next c.read_mark.result c.read_mark.ensures.fault

pub read_reference-requires-clause-part : goal.read_reference-requires-clause-part
read_reference-requires-clause-part c = c.requires.part ∙ c.in-Reference.is

pub returns-in-Reference-clause-ok : goal.returns-in-Reference-clause-ok
returns-in-Reference-clause-ok c = placed_ok c.args.self.now c.read_reference.new.self c.args.place c.args.next c.read_reference.result c.read_reference.ensures.ok

pub returns-in-Reference-clause-fault : goal.returns-in-Reference-clause-fault
returns-in-Reference-clause-fault c = placed_fault c.args.self.now c.args.place c.args.next c.read_reference.result c.read_reference.ensures.fault

pub read_target-requires-clause-part : goal.read_target-requires-clause-part
read_target-requires-clause-part c = c.requires.part ∙ c.in-Target.is

pub returns-in-Target-clause-ok : goal.returns-in-Target-clause-ok
returns-in-Target-clause-ok c = placed_ok c.args.self.now c.read_target.new.self c.args.place c.args.next c.read_target.result c.read_target.ensures.ok

pub returns-in-Target-clause-fault : goal.returns-in-Target-clause-fault
returns-in-Target-clause-fault c = placed_fault c.args.self.now c.args.place c.args.next c.read_target.result c.read_target.ensures.fault

pub read_targeted-requires-clause-part : goal.read_targeted-requires-clause-part
read_targeted-requires-clause-part c = c.requires.part ∙ c.in-Targeted.is

pub returns-in-Targeted-clause-ok : goal.returns-in-Targeted-clause-ok
returns-in-Targeted-clause-ok c = placed_ok c.args.self.now c.read_targeted.new.self c.args.place c.args.next c.read_targeted.result c.read_targeted.ensures.ok

pub returns-in-Targeted-clause-fault : goal.returns-in-Targeted-clause-fault
returns-in-Targeted-clause-fault c = placed_fault c.args.self.now c.args.place c.args.next c.read_targeted.result c.read_targeted.ensures.fault

pub read_declaration-requires-clause-part : goal.read_declaration-requires-clause-part
read_declaration-requires-clause-part c = c.requires.part ∙ c.in-Declaration.is

pub read_doctype-requires-clause-part : goal.read_doctype-requires-clause-part
read_doctype-requires-clause-part c = c.requires.part ∙ c.in-Doctype.is

pub read_deep_name-requires-clause-part : goal.read_deep_name-requires-clause-part
read_deep_name-requires-clause-part c = c.requires.part ∙ c.in-DeepName.is

pub returns-in-DeepName-clause-ok : goal.returns-in-DeepName-clause-ok
returns-in-DeepName-clause-ok c = placed_ok c.args.self.now c.read_deep_name.new.self c.args.place c.args.next c.read_deep_name.result c.read_deep_name.ensures.ok

pub returns-in-DeepName-clause-fault : goal.returns-in-DeepName-clause-fault
returns-in-DeepName-clause-fault c = placed_fault c.args.self.now c.args.place c.args.next c.read_deep_name.result c.read_deep_name.ensures.fault

pub read_deep_local-requires-clause-part : goal.read_deep_local-requires-clause-part
read_deep_local-requires-clause-part c = c.requires.part ∙ c.in-DeepPrefix.is

pub returns-in-DeepPrefix-clause-ok : goal.returns-in-DeepPrefix-clause-ok
returns-in-DeepPrefix-clause-ok c = placed_ok c.args.self.now c.read_deep_local.new.self c.args.place c.args.next c.read_deep_local.result c.read_deep_local.ensures.ok

pub returns-in-DeepPrefix-clause-fault : goal.returns-in-DeepPrefix-clause-fault
returns-in-DeepPrefix-clause-fault c = placed_fault c.args.self.now c.args.place c.args.next c.read_deep_local.result c.read_deep_local.ensures.fault

pub returns-in_default-clause-ok : goal.returns-in_default-clause-ok
returns-in_default-clause-ok c =
    absurd (no_other c.args.part c.requires.by_char c.in_default.not-Markup c.in_default.not-Marked c.in_default.not-Mark c.in_default.not-Reference c.in_default.not-Target c.in_default.not-Targeted c.in_default.not-Declaration
    c.in_default.not-Doctype c.in_default.not-DeepName c.in_default.not-DeepPrefix)

pub returns-in_default-clause-fault : goal.returns-in_default-clause-fault
returns-in_default-clause-fault c = tt

pub read_markup-requires-clause-ready : goal.read_markup-requires-clause-ready
read_markup-requires-clause-ready c = c.requires.ready

pub read_marked-requires-clause-ready : goal.read_marked-requires-clause-ready
read_marked-requires-clause-ready c = c.requires.ready

pub read_mark-requires-clause-ready : goal.read_mark-requires-clause-ready
read_mark-requires-clause-ready c = c.requires.ready

pub read_reference-requires-clause-ready : goal.read_reference-requires-clause-ready
read_reference-requires-clause-ready c = c.requires.ready

pub read_target-requires-clause-ready : goal.read_target-requires-clause-ready
read_target-requires-clause-ready c = c.requires.ready

pub read_targeted-requires-clause-ready : goal.read_targeted-requires-clause-ready
read_targeted-requires-clause-ready c = c.requires.ready

pub read_declaration-requires-clause-ready : goal.read_declaration-requires-clause-ready
read_declaration-requires-clause-ready c = c.requires.ready

pub read_doctype-requires-clause-ready : goal.read_doctype-requires-clause-ready
read_doctype-requires-clause-ready c = c.requires.ready
