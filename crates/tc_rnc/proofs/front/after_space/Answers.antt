use Rattle.std.proofs.Common.{subst, sym}
use Rattle.tc_rnc.specs.Fronts.{Skips}
use Rattle.tc_rnc.proofs.FrontLaws.{skips_white, skips_comment, past_comment_shorter, begins_no_space}
use Rattle.tc_rnc.proofs.front.after_space.Goals as goal

pub loop-comment-init : goal.loop-comment-init
loop-comment-init c = record {
  skips = subst (Skips c.args.text.now) (sym c.after_white-rest.ensures) (skips_white c.args.text.now);
  stops = (c.args.text.now, c.after_white-rest.ensures);
  text = c.after_white-rest.utf8;
}

pub loop-comment-smaller : goal.loop-comment-smaller
loop-comment-smaller c =
    past_comment_shorter c.loop-comment.rest.now c.in-Some.comment.now c.after_line.result.now c.after_white-rest-in-Some.result.now c.in-Some.ensures c.after_line.ensures
    c.after_white-rest-in-Some.ensures

pub loop-comment-preserved : goal.loop-comment-preserved
loop-comment-preserved c = record {
  skips = subst (Skips c.args.text.now) (sym c.after_white-rest-in-Some.ensures)
      (skips_comment c.args.text.now c.loop-comment.rest.now c.in-Some.comment.now c.after_line.result.now c.loop-comment.invariant.skips c.in-Some.ensures c.after_line.ensures);
  stops = (c.after_line.result.now, c.after_white-rest-in-Some.ensures);
  text = c.after_white-rest-in-Some.utf8;
}

pub returns-clause-stops : goal.returns-clause-stops
returns-clause-stops c =
    begins_no_space c.args.text.now c.loop-comment.invariant.stops.0 c.loop-comment.rest.now c.loop-comment.invariant.stops.1 c.in_default.ensures
