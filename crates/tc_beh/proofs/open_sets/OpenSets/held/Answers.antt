use Rattle.std.proofs.Common.{◌≡◌, ◌∙◌, Option, ℕ, subst, sym, ap}
use Rattle.std.proofs.lemmas.List.{get_or_default}
use Rattle.tc_beh.specs.Held.{set_at}
use Rattle.tc_beh.specs.Opening.{Open, AreLinked, set_or, set_of, no_set}
use Rattle.tc_beh.proofs.Passing.{if_some_map}
use Rattle.tc_beh.proofs.open_sets.OpenSets.held.Goals as goal

pub returns : goal.returns
returns c = if_some_map c.held_of.result _ _ (λ k known h linked.
    let a = c.self.inside.met in
    let os = c.self.inside.places.items in
    let f = c.self.inside.free in
    let place = c.index.result.now in
    let (i, e, is) = known h (subst (λ (v : Open). AreLinked h v.met) (sym c.self.view_is) linked) in
    let here : set_at a.held i ≡ set_of a.held place = ap (λ (o : Option ℕ). set_or a.held o place.words) (sym e) in
    let out : set_of a.held place ≡ c.args.self.now.out = ap (set_of a.held) (c.index.ensures ∙ get_or_default os f place no_set c.self.invariant.0) ∙ ap (λ (v : Open). v.out) c.self.view_is in
    (is.held_low, sym is.same ∙ (here ∙ out)))
    c.held_of.ensures
