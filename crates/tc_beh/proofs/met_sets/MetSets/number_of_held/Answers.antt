use Rattle.std.proofs.Common.{◌≡◌, ◌<◌, ◌∙◌, List, Option, length, subst, sym}
use Rattle.std.proofs.lemmas.Option.{get_or_from_slice_get}
use Rattle.tc_mat.specs.Held.{Held}
use Rattle.tc_beh.specs.Held.{set_at}
use Rattle.tc_beh.specs.Opening.{AreElements}
use Rattle.tc_beh.specs.Places.{no_matrix}
use Rattle.tc_beh.specs.declared.met_sets.Element.{Element}
use Rattle.tc_beh.proofs.OpenLaws.{remembers_on, linked_on}
use Rattle.tc_beh.proofs.met_sets.MetSets.number_of_held.Goals as goal

pub returns-in_err-number-clause-remembers : goal.returns-in_err-number-clause-remembers
returns-in_err-number-clause-remembers c = λ m r. remembers_on m c.args.self.now c.number_of.new.self c.number_of.ensures.more r

pub returns-in_err-number-clause-links : goal.returns-in_err-number-clause-links
returns-in_err-number-clause-links c = linked_on c.args.outputs.now c.args.self.now c.number_of.new.self c.number_of.ensures.more c.requires.links

pub returns-clause-remembers : goal.returns-clause-remembers
returns-clause-remembers c = λ m r.
    let mid = c.number_of.new.self in
    let new = c.link.new.self in
    let here = remembers_on m c.args.self.now mid c.number_of.ensures.more r in
    subst (λ (es : List (Option Element)). AreElements m new.held es) (sym c.link.ensures.elements) (subst (λ (h : Held). AreElements m h mid.elements) (sym c.link.ensures.held) here)

pub returns-clause-links : goal.returns-clause-links
returns-clause-links c =
    let h = c.args.outputs.now in
    let set = c.get.result.now in
    let got : set_at h c.args.held ≡ set = get_or_from_slice_get h.matrices c.args.held set no_matrix c.get.ensures.matrix in
    let number = c.in_ok-number.ensures.number in
    c.link.ensures.links h (linked_on h c.args.self.now c.number_of.new.self c.number_of.ensures.more c.requires.links) (record { held_low = c.requires.low; low = number.0; same = number.1 ∙ sym got })

pub returns-clause-number : goal.returns-clause-number
returns-clause-number c =
    let h = c.args.outputs.now in
    let k = c.in_ok-number.number in
    let set = c.get.result.now in
    let got : set_at h c.args.held ≡ set = get_or_from_slice_get h.matrices c.args.held set no_matrix c.get.ensures.matrix in
    let number = c.in_ok-number.ensures.number in
    subst (λ (v : Held). (k < length v.matrices) × (set_at v k ≡ set_at h c.args.held)) (sym c.link.ensures.held) (number.0, number.1 ∙ sym got)
