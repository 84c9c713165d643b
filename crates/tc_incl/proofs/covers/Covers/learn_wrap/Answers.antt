use Rattle.std.proofs.Common.{◌<◌, sym, subst, length, refl}
use Rattle.tc_incl.specs.Covers.{State, held_of, state_of}
use Rattle.tc_settle.specs.Wraps.{IsWrapTold}
use Rattle.tc_incl.proofs.Alike.{known_more}
use Rattle.tc_incl.proofs.covers.Covers.learn_wrap.Goals as goal

pub kind-kind-requires : goal.kind-kind-requires
kind-kind-requires g c = subst (λ (s : State). c.args.symbol < s.symbols) (sym c.self.view_is) c.requires.symbol

pub invariant_of-self : goal.invariant_of-self
invariant_of-self g c =
    let of = g.K.Over.is_of in
    let b = c.self.inside.both in
    let now = state_of b c.self.inside.hedges.keys c.self.inside.trees.keys in (
      c.self.invariant.0,
      c.self.invariant.1,
      known_more of now b c.self.inside.wraps c.learn.new.self c.args.symbol c.args.hedge c.kind-kind.result c.args.made c.self.invariant.0.told refl b.are_kinds c.self.invariant.2 c.learn.ensures
          (subst (λ (s : State). c.args.hedge < length s.hedges) (sym c.self.view_is) c.requires.hedge) c.kind-kind.ensures
          (subst (λ (s : State). IsWrapTold (held_of of s) c.args.symbol c.args.hedge c.args.made) (sym c.self.view_is) c.requires.told),
    )
