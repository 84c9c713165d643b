use Rattle.std.proofs.Common.{◌<◌, List, ℕ, ap, sym, subst, ◌∙◌, arith, length, get_or}
use Rattle.tc_model.specs.Names.{is_ncname_start}
use Rattle.tc_scan.proofs.NamesLaws.{ascii_named, cut_before}
use Rattle.tc_scan.proofs.names.ascii_name.Goals as goal

pub split_at-requires : goal.split_at-requires
split_at-requires c =
    let text = c.args.text.now in
    let n = c.ascii_len-count.result in
    cut_before text n (omega (arith, c.if-count-bytes.false, ap length c.as_bytes-bytes.ensures.value))
    (subst (λ (w : List ℕ). get_or w n 0 < 128) c.as_bytes-bytes.ensures.value c.if-bytes-count-ge128.false)

pub returns : goal.returns
returns c =
    let text = c.args.text.now in
    let n = c.ascii_len-count.result in
    ascii_named text c.split_at.result.0.now c.split_at.result.1.now n c.ascii_len-count.ensures.count c.if-count-eq0.false
    (omega (arith, c.if-count-bytes.false, ap length c.as_bytes-bytes.ensures.value))
    (subst (λ (w : List ℕ). get_or w n 0 < 128) c.as_bytes-bytes.ensures.value c.if-bytes-count-ge128.false)
    (ap is_ncname_start (ap (λ (w : List ℕ). get_or w 0 0) (sym c.as_bytes-bytes.ensures.value) ∙ sym c.from.ensures) ∙ (sym c.is_ncname_start.ensures ∙ c.if-not-is_ncname_start.false))
    c.split_at.ensures.front c.split_at.ensures.back
