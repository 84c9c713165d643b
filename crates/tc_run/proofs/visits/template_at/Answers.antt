use Rattle.std.proofs.Common.{◌∙◌, sym, Some}
use Rattle.tc_rules.proofs.Counts.{some_move_low, some_move_counted}
use Rattle.tc_rules.specs.Asked.{letter}
use Rattle.tc_run.specs.Running.{symbols_by, told_by}
use Rattle.tc_run.proofs.Hitting.{task_is, hit_is}
use Rattle.tc_run.proofs.visits.template_at.Goals as goal

pub sel_hits-requires : goal.sel_hits-requires
sel_hits-requires c = some_move_counted (told_by c.args.runner.now) c.args.state c.requires.state

pub mode_of-job-requires : goal.mode_of-job-requires
mode_of-job-requires c = some_move_low (told_by c.args.runner.now) c.args.state c.requires.state

pub template_for-requires-clause-job : goal.template_for-requires-clause-job
template_for-requires-clause-job c =
    let s = c.requires.state in
    c.mode_of-job.ensures.job (symbols_by c.args.runner.now) (record { path = s.path; mode = Some s.mode }) s.state c.requires.met.runner s.at

pub returns-then-not-sel_hits : goal.returns-then-not-sel_hits
returns-then-not-sel_hits c =
    let r = c.args.runner.now in
    record {
      hit = λ bodies g at. sym (sym (hit_is r c.args.state g (letter c.args.kind c.args.marks) c.sel_hits.result at c.requires.met.runner c.requires.met.letter c.sel_hits.ensures bodies) ∙ c.if-not-sel_hits.true);
      part = tt;
      meant = λ bodies g n hb at b. tt;
    }

pub returns : goal.returns
returns c =
    let r = c.args.runner.now in
    record {
      hit = λ bodies g at. sym (sym (hit_is r c.args.state g (letter c.args.kind c.args.marks) c.sel_hits.result at c.requires.met.runner c.requires.met.letter c.sel_hits.ensures bodies) ∙ c.if-not-sel_hits.false);
      part = c.template_for.ensures.part;
      meant = λ bodies g n hb at b. c.template_for.ensures.meant bodies n g.task hb (task_is r c.args.state g c.mode_of-job.result at c.mode_of-job.ensures.mode c.requires.met.runner) b;
    }
