use Rattle.std.proofs.Common.{sym, ap, ◌∙◌, bytes_eq, codes}
use Rattle.std.specs.Cmp.Lexicographic.{bytes_decides}
use Rattle.tc_tags.proofs.NameBytes.{plain_end}
use Rattle.tc_tags.proofs.tags.is_plain_end_tag.Goals as goal

pub returns : goal.returns
returns c = λ written q is.
    let end = c.in-Some-after_bytes.end.now in
    plain_end c.args.tag.now c.in-Some.start.now c.args.name.now end written c.in-Some.ensures c.in-Some-after_bytes.ensures
    ((bytes_decides end (codes ">")).0 (sym (c.eq.ensures ∙ ap (λ z. bytes_eq end z) c.as_slice.ensures) ∙ is)) q
