use Rattle.std.proofs.Common.{◌≡◌, ◌<◌, inl, inr, ℕ, length, get_or, sym, subst, ap, ◌∙◌, arith}
use Rattle.std.proofs.lemmas.Bool.{cases_lt}
use Rattle.std.proofs.lemmas.Grind.{get_or_default_zero}
use Rattle.tc_beh.specs.Rooms.{output_at}
use Rattle.tc_close.specs.Appends.{IsProduct}
use Rattle.tc_close.proofs.appends.Appends.are_products.Goals as goal

pub loop-class-preserved : goal.loop-class-preserved
loop-class-preserved c =
    let a = c.args.self.now in
    let firsts = a.classes.firsts.items in
    let class = c.loop-class.class in
    let f = c.index-place.result.now in
    let Are : ℕ → ℕ → ℕ → ℕ → Type 0 = IsProduct a c.args.lists.hedges.now c.args.lists.trees.now in
    let one = output_at a.shape.inputs c.args.first.now in
    let other = output_at a.shape.patterns c.args.second.now in
    let both = output_at a.shape.inputs c.args.both.now in
    let known : Are f (one f) (other f) (both f) = subst (Are f (one f) (other f)) (c.if-product-entry.false ∙ c.entry.ensures) c.in-Some.ensures in
    let inside : class < length firsts = let t = c.loop-class-test.true in let n = c.len-class-end.ensures in omega (arith, t, n) in
    let here : f ≡ get_or firsts class 0 = c.index-place.ensures ∙ get_or_default_zero firsts class f inside in
    λ k low p e. elim (cases_lt k class) [
      | inl before ↦ c.loop-class.invariant k before p e
      | inr past ↦ let same : class ≡ k = omega (arith, low, past) in
          subst (λ n. Are n (one n) (other n) (both n)) (here ∙ (ap (λ n. get_or firsts n 0) same ∙ sym e)) known
    ]
