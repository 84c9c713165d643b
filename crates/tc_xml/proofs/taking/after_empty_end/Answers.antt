use Rattle.std.proofs.Common.{◌∷◌, ap, ◌∙◌}
use Rattle.tc_xml.proofs.EndTagLaws.{if_some}
use Rattle.tc_xml.proofs.taking.after_empty_end.Goals as goal

pub returns : goal.returns
returns c = if_some _ _ _ c.after_byte-2.result c.after_byte-2.ensures (λ r e. c.in_ok-after_byte.ensures ∙ ap (λ w. 0x2F ∷ w) e)
