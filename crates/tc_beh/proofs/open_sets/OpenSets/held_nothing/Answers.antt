use Rattle.std.proofs.Common.{◌≡◌, ◌∙◌, subst, sym, ap}
use Rattle.std.proofs.lemmas.Option.{same_Some}
use Rattle.tc_mat.specs.Matrix.{Matrix, IsIdentity}
use Rattle.tc_beh.specs.Held.{set_at}
use Rattle.tc_beh.specs.Opening.{Open, AreLinked}
use Rattle.tc_beh.specs.Places.{no_matrix}
use Rattle.tc_beh.proofs.OpenLaws.{top_size}
use Rattle.tc_beh.proofs.Passing.{if_some_map}
use Rattle.tc_beh.proofs.open_sets.OpenSets.held_nothing.Goals as goal

pub returns : goal.returns
returns c = if_some_map c.held_of.result _ _ (λ k known h linked.
    let a = c.self.inside.met in
    let os = c.self.inside.places.items in
    let f = c.self.inside.free in
    let nothing = c.nothing.result in
    let (i, e, is) = known h (subst (λ (v : Open). AreLinked h v.met) (sym c.self.view_is) linked) in
    let here : set_at h k ≡ set_at a.held nothing = sym is.same ∙ ap (set_at a.held) (sym (same_Some nothing i e)) in
    let met : (set_at a.held nothing).size ≡ a.held.size = (c.nothing.ensures.matrices nothing no_matrix c.nothing.ensures.low).0 in
    let out : a.held.size ≡ c.args.self.now.out.size = sym (top_size a os f c.self.invariant.0 c.self.invariant.1 c.self.invariant.4) ∙ ap (λ (v : Open). v.out.size) c.self.view_is in
    (is.held_low, subst IsIdentity (sym here) c.nothing.ensures.pairs, ap (λ (m : Matrix). m.size) here ∙ (met ∙ out)))
    c.held_of.ensures
