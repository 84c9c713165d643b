use Rattle.std.proofs.lemmas.Option.{IfSome_then}
use Rattle.tc_model.specs.Runs.{run_text}
use Rattle.tc_model.specs.XmlText.{deepest_element}
use Rattle.tc_tags.proofs.FailedLaws.{failed_some}
use Rattle.tc_xml.proofs.TakingLaws.{begin_at}
use Rattle.tc_xml.proofs.taking.take_root.Goals as goal

pub returns : goal.returns
returns g c =
    let root = c.args.root.now in
    let old = c.args.reader.now.taker in
    let begins = begin_at g.T.TakesTrees.takes c.args.total deepest_element root (run_text c.args.reader.now.run) old c.in_ok-levels.levels c.in_ok-levels.ensures.opens c.in_ok-levels.ensures.bound c.in_ok-levels.ensures.deepest c.in_ok-levels.ensures.right c.requires.run in
    IfSome_then c.past_elements.result c.past_elements.ensures (λ rest k. k deepest_element root old begins)

pub returns-in_err-levels : goal.returns-in_err-levels
returns-in_err-levels g c = failed_some _ _ c.from_residual.ensures
