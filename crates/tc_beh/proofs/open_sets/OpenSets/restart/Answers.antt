use Rattle.std.proofs.Common.{◌≡◌, ◌∙◌, Some, set, get_or, subst, ap, refl}
use Rattle.tc_beh.specs.Opening.{Open, IsOpenSet, IsBeside, no_set}
use Rattle.tc_beh.specs.declared.open_sets.OpenSet.{OpenSet}
use Rattle.tc_beh.proofs.Holding.{extends_self}
use Rattle.std.proofs.lemmas.List.{get_or_default}
use Rattle.tc_beh.proofs.OpenLaws.{opened, place_put}
use Rattle.tc_beh.proofs.open_sets.OpenSets.restart.Goals as goal

pub returns-clause-same : goal.returns-clause-same
returns-clause-same c = λ m h.
    let a = c.self.inside.met in
    let os = c.self.inside.places.items in
    let f = c.self.inside.free in
    let low = c.self.invariant.0 in
    let place = c.index_mut.result.now in
    let new : OpenSet = record { number = Some c.nothing.result; words = place.words } in
    let here : place ≡ get_or os f no_set = c.index_mut.ensures.value ∙ get_or_default os f place no_set low in
    let is : IsOpenSet a.held new = record { low = c.nothing.ensures.low; size = ap (λ (o : OpenSet). o.words.size) here ∙ (c.self.invariant.1 f no_set low).size } in
    subst (λ (v : Open). IsBeside m h v (opened a (set os f new) f)) c.self.view_is
    (place_put m h a a (extends_self a.held) refl (λ r. r) (λ l. l) c.self.invariant.4 c.self.invariant.4 os f low c.self.invariant.1 new is)
