use Rattle.tc_dtd.specs.DtdTextDeclarations.{attributes, notation, entity, SkippedAt}
use Rattle.tc_dtd.specs.Outcomes.{read}
use Rattle.tc_dtd.specs.Stops.{Stops}
use Rattle.tc_dtd.proofs.ReaderLaws.{map_ok, map_err}
use Rattle.tc_dtd.proofs.MarkupLaws.{attributes_stop, notation_stops, entity_stops, none_skipped}
use Rattle.tc_dtd.proofs.skipping.after_unread.Goals as goal

pub returns-in-Some-clause-ok : goal.returns-in-Some-clause-ok
returns-in-Some-clause-ok c = map_ok _ (λ r. SkippedAt c.args.text.now (read tt r.now)) c.after_skipped.result (λ r a. attributes c.in-Some.ensures a) c.after_skipped.ensures.ok

pub returns-in-Some-clause-no : goal.returns-in-Some-clause-no
returns-in-Some-clause-no c =
    map_err _ (λ e. Stops e (SkippedAt c.args.text.now)) c.after_skipped.result (λ e a. attributes_stop c.args.text.now c.in-Some.rest.now e c.in-Some.ensures a) c.after_skipped.ensures.no

pub returns-in-Some-after_mark-clause-ok : goal.returns-in-Some-after_mark-clause-ok
returns-in-Some-after_mark-clause-ok c = map_ok _ (λ r. SkippedAt c.args.text.now (read tt r.now)) c.after_skipped-in-Some-after_mark.result (λ r a. notation c.in-Some-after_mark.ensures a) c.after_skipped-in-Some-after_mark.ensures.ok

pub returns-in-Some-after_mark-clause-no : goal.returns-in-Some-after_mark-clause-no
returns-in-Some-after_mark-clause-no c =
    map_err _ (λ e. Stops e (SkippedAt c.args.text.now)) c.after_skipped-in-Some-after_mark.result (λ e a. notation_stops c.args.text.now c.in-Some-after_mark.rest.now e c.in-Some-after_mark.ensures a) c.after_skipped-in-Some-after_mark.ensures.no

pub returns-in-Some-after_mark-2-clause-ok : goal.returns-in-Some-after_mark-2-clause-ok
returns-in-Some-after_mark-2-clause-ok c = map_ok _ (λ r. SkippedAt c.args.text.now (read tt r.now)) c.after_skipped-in-Some-after_mark-2.result (λ r a. entity c.in-Some-after_mark-2.ensures a) c.after_skipped-in-Some-after_mark-2.ensures.ok

pub returns-in-Some-after_mark-2-clause-no : goal.returns-in-Some-after_mark-2-clause-no
returns-in-Some-after_mark-2-clause-no c =
    map_err _ (λ e. Stops e (SkippedAt c.args.text.now)) c.after_skipped-in-Some-after_mark-2.result (λ e a. entity_stops c.args.text.now c.in-Some-after_mark-2.rest.now e c.in-Some-after_mark-2.ensures a) c.after_skipped-in-Some-after_mark-2.ensures.no

pub returns-clause-no : goal.returns-clause-no
returns-clause-no c = none_skipped c.args.text.now c.in_default.ensures c.in_default-after_mark.ensures c.in_default-after_mark-2.ensures
