use Rattle.std.proofs.Common.{◌∙◌, sym, ap, map, take_all, Some}
use Rattle.tc_xml.specs.PlainTags.{as_written, as_expanded, expanded_name}
use Rattle.tc_tags.proofs.FailedLaws.{failed_some}
use Rattle.tc_xml.proofs.PlainTagLaws.{expanded_more, named_alike}
use Rattle.tc_tags.proofs.PairLaws.{blank}
use Rattle.tc_xml.proofs.plain_tags.expand_all.Goals as goal

pub loop-name-init : goal.loop-name-init
loop-name-init c = λ scope t. ap (λ w. map Some (map as_expanded w)) (sym c.clear.ensures.items)

pub loop-name-preserved : goal.loop-name-preserved
loop-name-preserved c = λ scope t.
    expanded_more scope c.args.names.now c.loop-name.name-index blank c.loop-name.expanded.items c.push.new.self.items (c.as_bytes.result, c.as_bytes-in-loop-name.result) c.loop-name-test.true (c.loop-name.invariant scope t)
    (c.in_ok-local.ensures scope t ∙ named_alike c.as_bytes-in-loop-name.ensures.value c.as_bytes.ensures.value) c.in-Ok.ensures.items

pub returns : goal.returns
returns c = λ scope t.
    ap (λ w. map (expanded_name scope) (map as_written w)) (sym (take_all c.loop-name.name-index c.args.names.now c.loop-name-test.false)) ∙ c.loop-name.invariant scope t

pub returns-in_err-local : goal.returns-in_err-local
returns-in_err-local c = failed_some _ _ c.from_residual.ensures
