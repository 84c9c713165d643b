use Rattle.std.proofs.Common.{refl, sym, ◌∙◌, arith}
use Rattle.tc_rules.proofs.Answered.{graph_never, stands_at}
use Rattle.tc_rules.proofs.Counted.{select_stepped, select_ended}
use Rattle.tc_rules.proofs.rules.Rules.sel_step.Goals as goal

pub returns-in-Some-lead : goal.returns-in-Some-lead
returns-in-Some-lead c = λ symbols b x h l st.
    select_stepped symbols c.args.self.now h c.args.sel b x st c.in-Some.select c.in-Some-graph.graph.now c.args.sym.0 c.args.marks.0 c.step-lead.result (sym c.select.ensures ∙ c.in-Some.is) c.in-Some-graph.ensures
    (l.symbol c.args.sym.0 refl) l.marks c.step-lead.ensures c.start-start.result c.in-Some-lead.number _ c.start-start.ensures c.in-Some-lead.is (λ low. omega arith)

pub returns-in-None : goal.returns-in-None
returns-in-None c = λ symbols b x h l st.
    select_ended symbols c.args.self.now h c.args.sel b x st c.in-Some.select c.in-Some-graph.graph.now c.args.sym.0 c.args.marks.0 c.step-lead.result (sym c.select.ensures ∙ c.in-Some.is) c.in-Some-graph.ensures
    (l.symbol c.args.sym.0 refl) l.marks c.step-lead.ensures c.in-None.is

pub returns-in_default : goal.returns-in_default
returns-in_default c = λ symbols b x h l st.
    absurd (c.in_default.not-Some (record { graph = st.place; state = st.number }) (c.select.ensures ∙ stands_at symbols c.args.self.now h c.args.sel b x st))

pub returns-in_default-graph : goal.returns-in_default-graph
returns-in_default-graph c = λ symbols b x h l st. absurd (graph_never symbols c.args.self.now h c.args.sel b x st c.in-Some.select (sym c.select.ensures ∙ c.in-Some.is) c.in_default-graph.ensures)
