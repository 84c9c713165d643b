use Rattle.tc_dtd.specs.DtdTextContents.{empty, any, children, ContentAt}
use Rattle.tc_dtd.specs.Stops.{Stops}
use Rattle.tc_dtd.specs.Outcomes.{read}
use Rattle.tc_dtd.specs.Views.{content}
use Rattle.tc_dtd.specs.Views as see
use Rattle.tc_dtd.proofs.ReaderLaws.{failed, map_ok, map_err}
use Rattle.tc_dtd.proofs.ContentsLaws.{a_mixed, mixed_stops, no_content, children_stop}
use Rattle.tc_dtd.proofs.contents.content.Goals as goal

pub returns-in-Some-after_pcdata-clause-ok : goal.returns-in-Some-after_pcdata-clause-ok
returns-in-Some-after_pcdata-clause-ok c =
    map_ok _ (λ r. ContentAt c.args.deepest c.args.text.now (read (see.content r.0) r.1.now)) c.mixed.result
    (λ r a. a_mixed c.args.deepest c.args.text.now c.in-Some-after_pcdata.rest.now r.1.now (see.content r.0) c.requires c.in-Some-after_pcdata.ensures a) c.mixed.ensures.ok

pub returns-in-Some-after_pcdata-clause-no : goal.returns-in-Some-after_pcdata-clause-no
returns-in-Some-after_pcdata-clause-no c =
    map_err _ (λ e. Stops e (ContentAt c.args.deepest c.args.text.now)) c.mixed.result
    (λ e a. mixed_stops c.args.deepest c.args.text.now c.in-Some-after_pcdata.rest.now e c.requires c.in-Some-after_pcdata.ensures a) c.mixed.ensures.no

pub returns-then-not-begins-clause-no : goal.returns-then-not-begins-clause-no
returns-then-not-begins-clause-no c = no_content c.args.deepest c.args.text.now c.unexpected.result c.in_default.ensures c.in_default-after_mark.ensures c.if-not-begins.ensures c.unexpected.ensures

pub returns-in_err-inner-clause-no : goal.returns-in_err-inner-clause-no
returns-in_err-inner-clause-no c =
    let e = c.in_err-inner.field-0.0 in
    let (r, f) = c.if-not-begins.ensures in
    failed c.from_residual.result (λ e. Stops e (ContentAt c.args.deepest c.args.text.now)) e c.from_residual.ensures.1
    (children_stop c.args.deepest c.args.text.now r e f c.in_default-after_pcdata.ensures c.in_err-inner.ensures.no)

pub returns-clause-ok : goal.returns-clause-ok
returns-clause-ok c = children c.in_ok-inner.ensures.ok c.in_ok-children.ensures

pub returns-in-Some-clause-ok : goal.returns-in-Some-clause-ok
returns-in-Some-clause-ok c = empty c.in-Some.ensures

pub returns-in-Some-after_mark-clause-ok : goal.returns-in-Some-after_mark-clause-ok
returns-in-Some-after_mark-clause-ok c = any c.in-Some-after_mark.ensures
