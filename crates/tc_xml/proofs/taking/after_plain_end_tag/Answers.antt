use Rattle.std.proofs.Common.{◌∷◌, ap, ◌∙◌}
use Rattle.tc_xml.proofs.EndTagLaws.{ends_by_bytes, if_some}
use Rattle.tc_xml.proofs.taking.after_plain_end_tag.Goals as goal

pub returns-clause-ends : goal.returns-clause-ends
returns-clause-ends c =
    if_some _ _ _ c.after_byte-3.result c.after_byte-3.ensures
    (λ r e bs past q. ends_by_bytes (c.in_ok-after_byte.ensures ∙ ap (λ w. 0x3C ∷ w) c.in_ok-end.ensures) (c.in_ok-after_name.ensures.names bs past r.now q e) e)
