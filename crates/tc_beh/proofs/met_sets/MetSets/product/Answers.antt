use Rattle.std.proofs.Common.{◌<◌, ℕ, Option, length, subst, sym}
use Rattle.tc_beh.specs.Opening.{Met, IsLow}
use Rattle.tc_beh.specs.Places.{no_matrix}
use Rattle.tc_beh.specs.Remembered.{IsProduct}
use Rattle.tc_beh.proofs.Passing.{if_some_map}
use Rattle.tc_beh.proofs.Remembering.{nothing_first, nothing_second}
use Rattle.tc_beh.proofs.met_sets.MetSets.product.Goals as goal

pub returns-then-first-eq-NOTHING : goal.returns-then-first-eq-NOTHING
returns-then-first-eq-NOTHING c =
    let i = c.in-Some-Some.first in
    let j = c.in-Some-Some.second in
    let h = c.self.inside.sets in
    let low = subst (λ (v : Met). j < length v.held.matrices) (sym c.self.view_is) (subst (λ (o : Option ℕ). IsLow c.args.self.now.held o) c.in-Some-Some.is-1 c.requires.second) in (
      i,
      j,
      c.in-Some-Some.is-0,
      c.in-Some-Some.is-1,
      subst (λ (v : Met). IsProduct v.held i j j) c.self.view_is
          (subst (λ n. IsProduct h n j j) (sym c.if-first-eq-NOTHING.true) (nothing_first h c.len-met.ensures.matrices 0 (record { low = c.self.invariant.2; is = c.self.invariant.3; size = (c.len-met.ensures.matrices 0 no_matrix c.self.invariant.2).0 }) j low)),
    )

pub returns-then-second-eq-NOTHING : goal.returns-then-second-eq-NOTHING
returns-then-second-eq-NOTHING c =
    let i = c.in-Some-Some.first in
    let j = c.in-Some-Some.second in
    let h = c.self.inside.sets in
    let low = subst (λ (v : Met). i < length v.held.matrices) (sym c.self.view_is) (subst (λ (o : Option ℕ). IsLow c.args.self.now.held o) c.in-Some-Some.is-0 c.requires.first) in (
      i,
      j,
      c.in-Some-Some.is-0,
      c.in-Some-Some.is-1,
      subst (λ (v : Met). IsProduct v.held i j i) c.self.view_is
          (subst (λ n. IsProduct h i n i) (sym c.if-second-eq-NOTHING.true) (nothing_second h c.len-met.ensures.matrices 0 (record { low = c.self.invariant.2; is = c.self.invariant.3; size = (c.len-met.ensures.matrices 0 no_matrix c.self.invariant.2).0 }) i low)),
    )

pub returns : goal.returns
returns c =
    let i = c.in-Some-Some.first in
    let j = c.in-Some-Some.second in
    if_some_map c.get.result _ _ (λ k known. (i, j, c.in-Some-Some.is-0, c.in-Some-Some.is-1, subst (λ (v : Met). IsProduct v.held i j k) c.self.view_is (known c.self.inside.sets c.self.invariant.4))) c.get.ensures
