use Rattle.std.proofs.Common.{◌-◌, ap, ◌∙◌, get_or}
use Rattle.tc_rules.specs.Asked.{letter}
use Rattle.tc_rules.specs.declared.rules.Kind.TheVariants.{Elem}
use Rattle.tc_beh.proofs.Looking.{moves_told}
use Rattle.tc_beh.proofs.Finding.{of_look, look_told, letter_told, none_below, some_below}
use Rattle.tc_beh.proofs.looks_above.look_below.Goals as goal

pub returns-in-None-clause-value : goal.returns-in-None-clause-value
returns-in-None-clause-value c = λ x s is l at.
    let r = c.args.rules.now in
    let here = letter (Elem c.args.sym) c.args.marks in
    none_below x r is c.args.looks.now s here (c.in-None.ensures x.symbols (of_look s.path) s.state is.rules (letter_told x r is here l) (look_told x r is c.args.state s at))

pub returns-in-Some-clause-value : goal.returns-in-Some-clause-value
returns-in-Some-clause-value c = λ x s is l at.
    let r = c.args.rules.now in
    let vs = c.args.looks.now in
    let here = letter (Elem c.args.sym) c.args.marks in
    let moves = moves_told x r is c.moves.result (c.moves.ensures x.symbols is.rules) in
    c.number_at.ensures
    ∙ (ap (λ k. get_or vs k 0) (c.saturating_sub.ensures ∙ ap (λ m. c.in-Some.next - m) moves)
    ∙ some_below x r is vs s here c.in-Some.next (c.in-Some.ensures x.symbols (of_look s.path) s.state is.rules (letter_told x r is here l) (look_told x r is c.args.state s at)))
