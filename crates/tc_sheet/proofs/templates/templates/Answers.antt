use Rattle.std.proofs.Common.{ap, ◌∙◌, subst, ◌+◌, drop}
use Rattle.std.proofs.lemmas.List.{at_drop_all}
use Rattle.tc_model.specs.Views.{raw_trees}
use Rattle.tc_sheet.specs.Views.{put_template}
use Rattle.tc_model.proofs.ViewsRaw.{left_one}
use Rattle.tc_sheet.proofs.Refused.{handed_on}
use Rattle.tc_sheet.proofs.TemplateLaws.{TopLoop, top_goes_on, top_pushed, top_stays, top_ends, item_at_top_refuses}
use Rattle.tc_sheet.proofs.templates.templates.Goals.{in-Some+in_ok-push-in-Some, in-None}
use Rattle.tc_sheet.proofs.Passed.{no_value}
use Rattle.tc_sheet.proofs.templates.templates.Goals as goal

pub returns-in_err-read-clause-no : goal.returns-in_err-read-clause-no
returns-in_err-read-clause-no c = handed_on _ c.from_residual.result c.in_err-read.field-0.0 c.from_residual.ensures.1 (item_at_top_refuses (raw_trees (drop (c.loop-kid.kid-index + 1) c.args.kids.now)) c.kid-item.result (subst (λ h. TopLoop (raw_trees c.args.kids.now) h c.loop-kid.found.items) (left_one c.args.kids.now c.loop-kid.kid-index c.kid-item.result c.loop-kid-test.true c.kid-item.is) c.loop-kid.invariant) c.in_err-read.field-0.0 c.in_err-read.ensures.no)

pub loop-kid-preserved : goal.loop-kid-preserved
loop-kid-preserved c =
    top_goes_on c.kid-item.result (raw_trees (drop (c.loop-kid.kid-index + 1) c.args.kids.now)) (put_template c.in_ok-read.read) c.match-read.found.items c.in_ok-read.ensures.ok (subst (λ h. TopLoop (raw_trees c.args.kids.now) h c.loop-kid.found.items) (left_one c.args.kids.now c.loop-kid.kid-index c.kid-item.result c.loop-kid-test.true c.kid-item.is) c.loop-kid.invariant)
    (elim c.match-read.branch [
      | in-Some+in_ok-push-in-Some w ↦ top_pushed c.loop-kid.found.items c.match-read.found.items w.in-Some.template c.in_ok-read.read (ap (λ v. v.items) w.found-is ∙ w.in_ok-push-in-Some.ensures.items) w.in-Some.is
      | in-None w ↦ top_stays c.loop-kid.found.items c.match-read.found.items c.in_ok-read.read (ap (λ v. v.items) w.found-is) w.in-None.is
    ])

pub returns-clause-ok : goal.returns-clause-ok
returns-clause-ok c = top_ends c.loop-kid.invariant (at_drop_all raw_trees c.args.kids.now c.loop-kid.kid-index c.loop-kid-test.false) (ap (λ v. v) c.into_bump_slice.ensures)

pub returns-in_err-read-clause-ok : goal.returns-in_err-read-clause-ok
returns-in_err-read-clause-ok c = no_value c.from_residual.result _ _ c.from_residual.ensures.1

pub returns-clause-no : goal.returns-clause-no
returns-clause-no c = tt
