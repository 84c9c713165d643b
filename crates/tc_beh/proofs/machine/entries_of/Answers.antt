use Rattle.std.proofs.Common.{◌≤◌, ◌*◌, arith}
use Rattle.tc_beh.proofs.Sizes.{entries_few, entries_are}
use Rattle.tc_beh.proofs.machine.entries_of.Goals as goal

pub overflow_mul-result : goal.overflow_mul-result
overflow_mul-result c =
    let (x, is) = c.requires in
    let few : c.ancestors.result * c.moves.result ≤ 262144 = entries_few x c.args.rules.now is c.ancestors.result c.moves.result (c.ancestors.ensures.count x.symbols is.rules) (c.moves.ensures x.symbols is.rules) in
    omega (arith, few)

pub returns-clause-exact : goal.returns-clause-exact
returns-clause-exact c = λ x is. entries_are x c.args.rules.now is c.ancestors.result c.moves.result (c.ancestors.ensures.count x.symbols is.rules) (c.moves.ensures x.symbols is.rules)

pub returns-clause-few : goal.returns-clause-few
returns-clause-few c =
    let (x, is) = c.requires in
    entries_few x c.args.rules.now is c.ancestors.result c.moves.result (c.ancestors.ensures.count x.symbols is.rules) (c.moves.ensures x.symbols is.rules)
