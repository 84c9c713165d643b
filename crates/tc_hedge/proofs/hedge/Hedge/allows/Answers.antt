use Rattle.std.proofs.Common.{refl, arith}
use Rattle.tc_hedge.proofs.Sides.{class_told, class_within}
use Rattle.tc_hedge.proofs.hedge.Hedge.allows.Goals as goal

pub index-requires : goal.index-requires
index-requires c =
    let h = c.args.self.now in
    omega (arith, class_within h c.args.sym.0 c.patterns-patterns.result c.args.number c.patterns-patterns.ensures.here c.requires.symbol c.requires.from_one c.requires.within, h.allowed.ok.0)

pub returns : goal.returns
returns c = λ side x symbols st name is e at.
    let h = c.args.self.now in
    let count = c.patterns-patterns.result in
    let all = c.patterns-patterns.ensures.here in
    class_told side x symbols h st name c.args.sym.0 is count all c.args.number e at c.index.result.now _ refl
    (class_within h c.args.sym.0 count c.args.number all c.requires.symbol c.requires.from_one c.requires.within) c.index.ensures
