use Rattle.std.proofs.Common.{inl, inr, IfSome, Option, ℕ, sym, subst, refl}
use Rattle.tc_close.specs.Kinds.{IsLike}
use Rattle.tc_close.proofs.kinds.Kinds.learn_append.Goals as goal

pub returns-in-Some-Some-clause-append : goal.returns-in-Some-Some-clause-append
returns-in-Some-Some-clause-append c =
    let hedges = c.args.hedges.now in
    let trees = c.args.trees.now in
    let m = c.learned-first.new.self.flags in
    let n = c.learned-second.new.self.flags in
    let first : IsLike m hedges c.in-Some-Some.first c.args.hedge = subst (λ (o : Option ℕ). IfSome o (λ k. IsLike m hedges k c.args.hedge)) c.in-Some-Some.is-0 c.learned-first.ensures.like in
    let second : IsLike n trees c.in-Some-Some.second c.args.tree = subst (λ (o : Option ℕ). IfSome o (λ k. IsLike n trees k c.args.tree)) c.in-Some-Some.is-1 c.learned-second.ensures.like in
    record {
      states_stay = c.learned-first.ensures.flags;
      patterns_stay = c.learned-second.ensures.flags;
      comes = λ i j at. elim (c.put.ensures i j at.0 at.1) [
        | inl before ↦ inl (at.0, before)
        | inr same ↦ inr (subst (λ k. IsLike m hedges k c.args.hedge) (sym same.0) first, subst (λ k. IsLike n trees k c.args.tree) (sym same.1) second)
      ];
      wraps_stay = refl;
      cores_stay = refl;
    }
