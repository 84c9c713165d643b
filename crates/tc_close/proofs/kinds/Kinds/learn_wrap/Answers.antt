use Rattle.std.proofs.Common.{inl, inr, sym, subst, refl}
use Rattle.tc_close.specs.Kinds.{IsLike}
use Rattle.tc_close.proofs.kinds.Kinds.learn_wrap.Goals as goal

pub returns-in-Some-clause-wrap : goal.returns-in-Some-clause-wrap
returns-in-Some-clause-wrap c =
    let hedges = c.args.hedges.now in
    let m = c.learned.new.self.flags in
    record {
      states_stay = c.learned.ensures.flags;
      comes = λ b i at. elim (c.put.ensures b i at.0 at.1) [
        | inl before ↦ inl (at.0, before)
        | inr same ↦ inr (same.0, subst (λ k. IsLike m hedges k c.args.hedge) (sym same.1) c.in-Some.ensures.like)
      ];
      appends_stay = refl;
      cores_stay = refl;
    }
