use Rattle.std.proofs.Common.{◌<◌, sym, subst, MatchOption}
use Rattle.tc_incl.specs.Covers.{State, held_of, state_of}
use Rattle.tc_settle.specs.Wraps.{IsWrapTold}
use Rattle.tc_incl.proofs.Alike.{known_told}
use Rattle.tc_incl.proofs.covers.Covers.known_wrap.Goals as goal

pub kind-kind-requires : goal.kind-kind-requires
kind-kind-requires g c = subst (λ (s : State). c.args.symbol < s.symbols) (sym c.self.view_is) c.requires

pub returns : goal.returns
returns g c =
    let of = g.K.Over.is_of in
    let b = c.self.inside.both in
    subst (λ (s : State). MatchOption c.known.result (Unit {0}) (λ made. IsWrapTold (held_of of s) c.args.symbol c.args.hedge made)) c.self.view_is
    (known_told (held_of of (state_of b c.self.inside.hedges.keys c.self.inside.trees.keys)) b.kinds.items c.self.inside.wraps c.args.symbol c.args.hedge c.kind-kind.result c.known.result c.self.invariant.2 c.kind-kind.ensures c.known.ensures)
