use Rattle.std.proofs.Common.{◌≡◌, ◌∙◌, get_or, subst, sym}
use Rattle.tc_mat.specs.Matrix.{IsIdentity, HaveSamePairs}
use Rattle.tc_beh.specs.Opening.{Open, IsOpenSet, no_set, set_of}
use Rattle.tc_beh.specs.declared.open_sets.OpenSet.{OpenSet}
use Rattle.std.proofs.lemmas.List.{get_or_default}
use Rattle.tc_beh.proofs.OpenLaws.{nothing_led, set_size}
use Rattle.tc_beh.proofs.open_sets.OpenSets.leave.Goals as goal

pub returns-clause-pairs : goal.returns-clause-pairs
returns-clause-pairs c =
    let a = c.self.inside.met in
    let os = c.self.inside.places.items in
    let f = c.self.inside.free in
    let place = c.index-place.result.now in
    let low = c.self.invariant.0 in
    let here : place ≡ get_or os f no_set = c.index-place.ensures ∙ get_or_default os f place no_set low in
    let is : IsOpenSet a.held place = subst (IsOpenSet a.held) (sym here) (c.self.invariant.1 f no_set low) in
    let set = set_of a.held place in
    let first = c.get-nothing.ensures.set in
    let led : HaveSamePairs c.put_product.new.out set = nothing_led c.get-nothing.result.now set c.put_product.new.out (subst IsIdentity (sym first) c.nothing.ensures.pairs) (set_size a.held c.self.invariant.4 place is ∙ sym c.get-nothing.ensures.size) c.put_product.ensures.pairs in
    subst (λ (v : Open). HaveSamePairs c.put_product.new.out v.out) c.self.view_is (subst (λ (o : OpenSet). HaveSamePairs c.put_product.new.out (set_of a.held o)) here led)
