use Rattle.std.proofs.Common.{◌≡◌, ◌∙◌, ◌<◌, IfSome, length, set, subst, sym, ap}
use Rattle.tc_mat.specs.Matrix.{Matrix, IsComposition}
use Rattle.tc_beh.specs.Held.{set_at}
use Rattle.tc_beh.specs.Opening.{Open, AreLinked, IsOpenSet, IsBeside, no_set}
use Rattle.tc_beh.specs.Places.{no_matrix}
use Rattle.tc_beh.proofs.Holding.{extends_then}
use Rattle.std.proofs.lemmas.List.{get_or_default}
use Rattle.std.proofs.lemmas.Option.{get_or_from_slice_get}
use Rattle.tc_beh.proofs.OpenLaws.{top_size, place_behind, remembers_on, linked_on, opened, place_put, number_set}
use Rattle.tc_beh.proofs.open_sets.OpenSets.put_held.Goals as goal

pub number_of_held-number-requires-clause-size : goal.number_of_held-number-requires-clause-size
number_of_held-number-requires-clause-size c =
    c.requires.size ∙ (ap (λ (v : Open). v.out.size) (sym c.self.view_is) ∙ top_size c.self.inside.met c.self.inside.places.items c.self.inside.free c.self.invariant.0 c.self.invariant.1 c.self.invariant.4)

pub number_of_held-number-requires-clause-links : goal.number_of_held-number-requires-clause-links
number_of_held-number-requires-clause-links c = subst (λ (v : Open). AreLinked c.args.outputs.now v.met) (sym c.self.view_is) c.requires.links

pub put_behind-requires-clause-words : goal.put_behind-requires-clause-words
put_behind-requires-clause-words c =
    c.get-set.ensures.size
    ∙ (c.requires.size
    ∙ (ap (λ (v : Open). v.out.size) (sym c.self.view_is) ∙ (top_size c.self.inside.met c.self.inside.places.items c.self.inside.free c.self.invariant.0 c.self.invariant.1 c.self.invariant.4 ∙ sym c.number_of_held-number.ensures.held.size)))

pub returns-clause-same : goal.returns-clause-same
returns-clause-same c = λ m.
    let h = c.args.outputs.now in
    let a = c.self.inside.met in
    let mid = c.number_of_held-number.new.self in
    let b = c.put_behind.new.met in
    let os = c.self.inside.places.items in
    let f = c.self.inside.free in
    let low = c.self.invariant.0 in
    let first = c.number_of_held-number.ensures in
    let last = c.put_behind.ensures.more in
    subst (λ (v : Open). IsBeside m h v (opened b (set os f c.put_behind.new.out) f)) c.self.view_is
    (place_put m h a b (extends_then a.held mid.held b.held first.held last.held) (last.text ∙ first.text) (λ r. remembers_on m mid b last (first.remembers m r)) (λ l. linked_on h mid b last first.links) c.self.invariant.4 c.put_behind.ensures.matrices os f low c.self.invariant.1
    c.put_behind.new.out c.put_behind.ensures.out)

pub returns-clause-pairs : goal.returns-clause-pairs
returns-clause-pairs c =
    let h = c.args.outputs.now in
    let n = c.args.held in
    let words = c.get-set.result.now in
    let a = c.self.inside.met in
    let mid = c.number_of_held-number.new.self in
    let b = c.put_behind.new.met in
    let os = c.self.inside.places.items in
    let f = c.self.inside.free in
    let low = c.self.invariant.0 in
    let place = c.index_mut-out.result.now in
    let here = c.index_mut-out.ensures.value in
    let is : IsOpenSet a.held place = subst (IsOpenSet a.held) (sym (here ∙ get_or_default os f place no_set low)) (c.self.invariant.1 f no_set low) in
    let got : set_at h n ≡ words = get_or_from_slice_get h.matrices n words no_matrix c.get-set.ensures.matrix in
    let kept = subst (λ (v : Matrix). IfSome c.number_of_held-number.result (λ k. (k < length mid.held.matrices) × (set_at mid.held k ≡ v))) got c.number_of_held-number.ensures.number in
    let number = (number_set mid.held c.number_of_held-number.result words kept).1 ∙ sym got in
    subst (λ (v : Open). IsComposition v.out (set_at h n) (opened b (set os f c.put_behind.new.out) f).out) c.self.view_is
    (place_behind a.held mid.held b.held c.number_of_held-number.ensures.held os f low place c.put_behind.new.out here is c.number_of_held-number.result words (set_at h n) number c.put_behind.ensures.pairs)
