use Rattle.std.proofs.Common.{sym, ap, ◌∙◌}
use Rattle.tc_rules.specs.Graphs.{fits_at}
use Rattle.tc_rules.specs.Rows.{graph}
use Rattle.tc_rules.proofs.Answered.{graph_never, hit_answered, stands_at}
use Rattle.tc_rules.proofs.rules.Rules.sel_hits.Goals as goal

pub returns : goal.returns
returns c = λ symbols b x h l st.
    hit_answered symbols c.args.self.now h c.args.sel b x st c.in-Some.select c.in-Some-graph.graph.now _ c.hits.result (sym c.select.ensures ∙ c.in-Some.is) c.in-Some-graph.ensures l
    (λ known u fit e f. c.hits.ensures known u fit e (ap (λ k. fits_at (graph c.in-Some-graph.graph.now) (record { kind = k; marks = c.args.marks.0 })) c.symbol_of-symbol.ensures ∙ f))

pub returns-in_default : goal.returns-in_default
returns-in_default c = λ symbols b x h l st.
    absurd (c.in_default.not-Some (record { graph = st.place; state = st.number }) (c.select.ensures ∙ stands_at symbols c.args.self.now h c.args.sel b x st))

pub returns-in_default-graph : goal.returns-in_default-graph
returns-in_default-graph c = λ symbols b x h l st. absurd (graph_never symbols c.args.self.now h c.args.sel b x st c.in-Some.select (sym c.select.ensures ∙ c.in-Some.is) c.in_default-graph.ensures)
