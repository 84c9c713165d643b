use Rattle.std.proofs.Common.{◌-◌, ap, sym, ◌∙◌, get_or}
use Rattle.tc_model.specs.Views as see
use Rattle.tc_beh.proofs.Looking.{none_found, found_at, moves_told}
use Rattle.tc_beh.proofs.looks.look.Goals as goal

pub returns-in-None : goal.returns-in-None
returns-in-None c = λ x is. sym (none_found x c.args.rules.now is c.args.looks.now (see.path c.args.path.now) (c.in-None.ensures x.symbols is.rules))

pub returns-in-Some : goal.returns-in-Some
returns-in-Some c = λ x is.
    let vs = c.args.looks.now in
    let moves = moves_told x c.args.rules.now is c.moves.result (c.moves.ensures x.symbols is.rules) in
    c.number_at.ensures
    ∙ (ap (λ k. get_or vs k 0) (c.saturating_sub.ensures ∙ ap (λ m. c.in-Some.state - m) moves)
    ∙ sym (found_at x c.args.rules.now is vs (see.path c.args.path.now) c.in-Some.state (c.in-Some.ensures x.symbols is.rules)))
