use Rattle.std.proofs.Common.{rules}
use Rattle.tc_model.specs.XmlText.{deepest_element}
use Rattle.tc_tags.proofs.FailedLaws.{failed_some}
use Rattle.tc_xml.proofs.TakingLaws.{read_text}
use Rattle.tc_xml.proofs.taking.take_text.Goals as goal

pub returns : goal.returns
returns g c =
    let (d, m, a, b, x) = c.in-Ok.ensures.ok in
    read_text g.T.TakesTrees.takes deepest_element c.args.text.now c.characters-front.result.now d m c.in-Ok.root.now c.in_ok-rest.rest.now c.args.reader.now.taker c.take_root.new.reader.taker c.characters-front.ensures
    c.if-front-text.false a b x c.in_ok-rest.ensures (c.is_misc.ensures (search rules))

pub returns-in_err-rest : goal.returns-in_err-rest
returns-in_err-rest g c = failed_some _ _ c.from_residual.ensures
