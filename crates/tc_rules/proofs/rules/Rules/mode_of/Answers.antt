use Rattle.std.proofs.Common.{sym, ◌∙◌}
use Rattle.tc_rules.proofs.Counted.{mode_at, mode_never, job_told}
use Rattle.tc_rules.proofs.Answered.{stands_at}
use Rattle.tc_rules.proofs.rules.Rules.mode_of.Goals as goal

pub returns-clause-mode : goal.returns-clause-mode
returns-clause-mode c = λ symbols b x h st. mode_at symbols c.args.self.now h c.args.sel b x st c.requires c.in-Some.select c.in-Some-move_at.found.now (sym c.select.ensures ∙ c.in-Some.is) c.in-Some-move_at.ensures

pub returns-in_default-move_at-clause-mode : goal.returns-in_default-move_at-clause-mode
returns-in_default-move_at-clause-mode c = λ symbols b x h st. absurd (mode_never symbols c.args.self.now h c.args.sel b x st c.requires c.in-Some.select (sym c.select.ensures ∙ c.in-Some.is) c.in_default-move_at.ensures)

pub returns-clause-job : goal.returns-clause-job
returns-clause-job c = λ symbols b x h st. job_told symbols c.args.self.now h c.args.sel b x st c.requires c.in-Some.select c.in-Some-move_at.found.now c.in-Some-move_at.ensures

pub returns-in_default-move_at-clause-job : goal.returns-in_default-move_at-clause-job
returns-in_default-move_at-clause-job c = λ symbols b x h st. absurd (mode_never symbols c.args.self.now h c.args.sel b x st c.requires c.in-Some.select (sym c.select.ensures ∙ c.in-Some.is) c.in_default-move_at.ensures)

pub returns-in_default-clause-mode : goal.returns-in_default-clause-mode
returns-in_default-clause-mode c = λ symbols b x h st. absurd (c.in_default.not-Some (record { graph = st.place; state = st.number }) (c.select.ensures ∙ stands_at symbols c.args.self.now h c.args.sel b x st))

pub returns-in_default-clause-job : goal.returns-in_default-clause-job
returns-in_default-clause-job c = λ symbols b x h st. absurd (c.in_default.not-Some (record { graph = st.place; state = st.number }) (c.select.ensures ∙ stands_at symbols c.args.self.now h c.args.sel b x st))
