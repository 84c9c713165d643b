use Rattle.std.proofs.Common.{subst, ◌∙◌}
use Rattle.tc_io.specs.Sink.{Appended, WroteFront}
use Rattle.tc_io.proofs.Fronts.{on_err_map, on_ok_map}
use Rattle.tc_print.proofs.tags.write_short_end_tag.Goals as goal

pub returns-clause-ok : goal.returns-clause-ok
returns-clause-ok g c = on_ok_map c.write.result (λ h. subst (Appended _ _) (c.as_bytes.ensures.value ∙ (c.as_str.ensures.value ∙ c.short_end_tag-tag.ensures)) h) c.write.ensures.ok

pub returns-clause-fault : goal.returns-clause-fault
returns-clause-fault g c = on_err_map c.write.result (λ h. subst (WroteFront _ _) (c.as_bytes.ensures.value ∙ (c.as_str.ensures.value ∙ c.short_end_tag-tag.ensures)) h) c.write.ensures.fault
