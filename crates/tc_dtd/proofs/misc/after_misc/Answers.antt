use Rattle.std.proofs.Common.{sym, subst, ◌⊎◌, rules}
use Rattle.tc_model.specs.XmlTextBytes.{after_white}
use Rattle.tc_model.specs.XmlTextMisc.{MiscAt, CommentAt, InstructionAt}
use Rattle.tc_dtd.specs.Outcomes.{Past}
use Rattle.tc_dtd.specs.Stops.{Stops}
use Rattle.tc_dtd.proofs.ReaderLaws.{failed, misc_broken, misc_more, misc_less, misc_shorter, misc_done, at_some, at_nothing}
use Rattle.tc_dtd.proofs.misc.after_misc.Goals as goal

pub loop-after-smaller : goal.loop-after-smaller
loop-after-smaller c =
    let found : (CommentAt c.after_white.result.now c.in-Some.after.now) ⊎ (InstructionAt c.after_white.result.now c.in-Some.after.now) = at_some _ _ c.in_ok-after.field-0 c.in-Some.after c.in-Some.is c.in_ok-after.ensures.ok in
    misc_shorter c.loop-after.rest.now c.in-Some.after.now c.after_white.result.now c.after_white.ensures found

pub loop-after-preserved : goal.loop-after-preserved
loop-after-preserved c =
    let found : (CommentAt c.after_white.result.now c.in-Some.after.now) ⊎ (InstructionAt c.after_white.result.now c.in-Some.after.now) = at_some _ _ c.in_ok-after.field-0 c.in-Some.after c.in-Some.is c.in_ok-after.ensures.ok in
    record {
      forth = λ end m. c.loop-after.invariant.forth end (misc_more c.loop-after.rest.now c.in-Some.after.now end c.after_white.result.now c.after_white.ensures found m);
      back = λ end m. misc_less c.loop-after.rest.now c.in-Some.after.now end c.after_white.result.now c.after_white.ensures found (c.loop-after.invariant.back end m);
      text = search rules;
    }

pub returns-clause-ok : goal.returns-clause-ok
returns-clause-ok c =
    subst (λ w. MiscAt c.args.text.now w) (sym c.after_white-2.ensures)
    (c.loop-after.invariant.forth (after_white c.loop-after.rest.now) (misc_done c.loop-after.rest.now c.after_white.result.now c.after_white.ensures (at_nothing _ _ c.in_ok-after.field-0 c.in_default.is c.in_ok-after.ensures.ok)))

pub returns-in_err-after-clause-no : goal.returns-in_err-after-clause-no
returns-in_err-after-clause-no c =
    let e = c.in_err-after.field-0.0 in
    failed c.from_residual.result (λ e. Stops e (Past MiscAt c.args.text.now)) e c.from_residual.ensures.1
    (misc_broken c.args.text.now c.loop-after.rest.now c.after_white.result.now e c.after_white.ensures c.loop-after.invariant.back c.in_err-after.ensures.no)
