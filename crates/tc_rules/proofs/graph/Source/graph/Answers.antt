use Rattle.std.proofs.Common.{◌≡◌, ◌∙◌, Err, List, ℕ, ap, arith}
use Rattle.std.proofs.lemmas.List.{length-map}
use Rattle.std.proofs.lemmas.Result.{err_from_is_err_and}
use Rattle.tc_model.specs.Views as see
use Rattle.tc_rules.specs.Rows.{words, state, states, endings_of}
use Rattle.tc_rules.specs.declared.graph.GraphFault.TheVariants.{TooManyStates}
use Rattle.tc_rules.proofs.PathRows.{graph_is, too_many}
use Rattle.tc_rules.proofs.graph.Source.graph.Goals as goal

pub reached-requires : goal.reached-requires
reached-requires c = c.requires.most

pub returns-clause-graph : goal.returns-clause-graph
returns-clause-graph c = λ symbols h.
    let done = c.in_ok-states.ensures.done in
    graph_is symbols c.args.self.now h (see.alternatives c.args.path.now) c.in_ok-letters.letters c.in_ok-letters.ensures c.args.counts (words c.in_ok-first.first) c.in_ok-first.ensures c.in_ok-states.field-0.states.keys c.in_ok-states.field-0.next.items done.0 done.2.next

pub returns-clause-few : goal.returns-clause-few
returns-clause-few c =
    omega (arith, c.in_ok-states.ensures.done.1, length-map c.in_ok-states.field-0.states.keys (state c.in_ok-letters.letters.ends.items), length-map c.in_ok-states.field-0.states.keys words)

pub returns-clause-ending : goal.returns-clause-ending
returns-clause-ending c = c.in_ok-ending.ensures ∙ ap (λ (es : List ℕ). endings_of (states es c.in_ok-states.field-0.states.keys)) c.deref.ensures.value

pub returns-in_err-states-clause-many : goal.returns-in_err-states-clause-many
returns-in_err-states-clause-many c = λ e symbols h.
    let p = err_from_is_err_and c.from_residual-in_err-states.result c.from_residual-in_err-states.ensures.1 in
    let same : c.in_err-states.field-0.0 ≡ TooManyStates = cc in
    let many = c.in_err-states.ensures.many (ap Err same) in
    (many.0, too_many symbols c.args.self.now h (see.alternatives c.args.path.now) c.in_ok-letters.letters c.in_ok-letters.ensures c.args.counts (words c.in_ok-first.first) c.in_ok-first.ensures c.args.most many.0 many.1)
