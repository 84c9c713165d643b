use Rattle.std.proofs.Common.{arith}
use Rattle.std.proofs.lemmas.Bool.{eqb-false}
use Rattle.tc_stream.proofs.elements.Elements.is_full.Goals as goal

pub returns-clause-room : goal.returns-clause-room
returns-clause-room c = λ e.
    let s = c.args.self.now in
    let other = eqb-false c.len.result 2000 e in
    omega (arith, other, c.len.ensures, s.levels.ok.0, s.depth, s.all_levels, s.validity.within)
