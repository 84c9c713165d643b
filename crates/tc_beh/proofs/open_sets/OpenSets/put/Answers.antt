use Rattle.std.proofs.Common.{◌∙◌, set, subst, sym, ap}
use Rattle.tc_mat.specs.Matrix.{IsComposition}
use Rattle.tc_beh.specs.Opening.{Open, IsOpenSet, IsBeside, no_set}
use Rattle.tc_beh.proofs.Holding.{extends_then}
use Rattle.std.proofs.lemmas.List.{get_or_default}
use Rattle.tc_beh.proofs.OpenLaws.{top_size, place_behind, remembers_on, linked_on, opened, place_put, number_set}
use Rattle.tc_beh.proofs.open_sets.OpenSets.put.Goals as goal

pub number_of-number-requires : goal.number_of-number-requires
number_of-number-requires c =
    c.requires ∙ (ap (λ (v : Open). v.out.size) (sym c.self.view_is) ∙ top_size c.self.inside.met c.self.inside.places.items c.self.inside.free c.self.invariant.0 c.self.invariant.1 c.self.invariant.4)

pub put_behind-requires-clause-words : goal.put_behind-requires-clause-words
put_behind-requires-clause-words c =
    c.requires
    ∙ (ap (λ (v : Open). v.out.size) (sym c.self.view_is) ∙ (top_size c.self.inside.met c.self.inside.places.items c.self.inside.free c.self.invariant.0 c.self.invariant.1 c.self.invariant.4 ∙ sym c.number_of-number.ensures.more.held.size))

pub returns-clause-same : goal.returns-clause-same
returns-clause-same c = λ m h.
    let a = c.self.inside.met in
    let mid = c.number_of-number.new.self in
    let b = c.put_behind.new.met in
    let os = c.self.inside.places.items in
    let f = c.self.inside.free in
    let low = c.self.invariant.0 in
    let first = c.number_of-number.ensures.more in
    let last = c.put_behind.ensures.more in
    subst (λ (v : Open). IsBeside m h v (opened b (set os f c.put_behind.new.out) f)) c.self.view_is
    (place_put m h a b (extends_then a.held mid.held b.held first.held last.held) (last.text ∙ first.text) (λ r. remembers_on m mid b last (remembers_on m a mid first r)) (λ l. linked_on h mid b last (linked_on h a mid first l)) c.self.invariant.4 c.put_behind.ensures.matrices os f low c.self.invariant.1
    c.put_behind.new.out c.put_behind.ensures.out)

pub returns-clause-pairs : goal.returns-clause-pairs
returns-clause-pairs c =
    let a = c.self.inside.met in
    let mid = c.number_of-number.new.self in
    let b = c.put_behind.new.met in
    let os = c.self.inside.places.items in
    let f = c.self.inside.free in
    let low = c.self.invariant.0 in
    let place = c.index_mut-out.result.now in
    let here = c.index_mut-out.ensures.value in
    let is : IsOpenSet a.held place = subst (IsOpenSet a.held) (sym (here ∙ get_or_default os f place no_set low)) (c.self.invariant.1 f no_set low) in
    let number = (number_set mid.held c.number_of-number.result c.args.set.now c.number_of-number.ensures.number).1 in
    subst (λ (v : Open). IsComposition v.out c.args.set.now (opened b (set os f c.put_behind.new.out) f).out) c.self.view_is
    (place_behind a.held mid.held b.held c.number_of-number.ensures.more.held os f low place c.put_behind.new.out here is c.number_of-number.result c.args.set.now c.args.set.now number c.put_behind.ensures.pairs)
