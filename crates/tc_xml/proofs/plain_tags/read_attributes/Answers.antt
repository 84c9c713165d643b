use Rattle.std.proofs.Common.{rules}
use Rattle.tc_tags.proofs.FailedLaws.{failed_some}
use Rattle.tc_xml.proofs.PlainTagLaws.{read_none, read_more, all_read}
use Rattle.tc_xml.proofs.plain_tags.read_attributes.Goals as goal
use Rattle.tc_tags.proofs.FormLaws.{attribute_within}

pub attributes-init : goal.attributes-init
attributes-init c = record { so_far = λ total. read_none total c.args.bindings.now c.args.text.now c.clear.new.self.items c.clear.ensures.items; text = search rules }

pub attributes-preserved : goal.attributes-preserved
attributes-preserved c = record { so_far = λ total. read_more (c.attributes.invariant.so_far total) (c.in_ok-rest.ensures total); text = search rules }

pub attributes-smaller : goal.attributes-smaller
attributes-smaller c = attribute_within (c.in_ok-rest.ensures 0).reads

pub returns-then-ends_tag : goal.returns-then-ends_tag
returns-then-ends_tag c = λ total. all_read c.after_white-end.result.now (c.attributes.invariant.so_far total) c.after_white-end.ensures c.if-ends_tag.ensures

pub returns-in_err-rest : goal.returns-in_err-rest
returns-in_err-rest c = failed_some _ _ c.from_residual.ensures
