use Rattle.std.proofs.Common.{◌<◌, ◌∙◌, sym, subst, ap, arith}
use Rattle.tc_close.specs.RowState.{RowState}
use Rattle.tc_close.proofs.once.OnceRows.first.Goals as goal

pub first-requires : goal.first-requires
first-requires g c = subst (λ n. c.args.symbol < n) (sym (c.self.invariant.count ∙ ap (λ (s : RowState). s.symbols) c.self.view_is)) c.requires

pub returns-clause-low : goal.returns-clause-low
returns-clause-low g c =
    let (x, o) = c.self.invariant.some in
    let first = (c.first.ensures x (c.self.invariant.alike x o)).low in
    let low = c.requires in
    omega (arith, first, low)

pub returns-clause-alike : goal.returns-clause-alike
returns-clause-alike g c = λ x o. c.first.ensures x (c.self.invariant.alike x o)
