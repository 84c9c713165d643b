use Rattle.std.proofs.Common.{◌≡◌, ◌<◌, Option, Some, None, IfSome, ℕ, length, slice_get, refl, subst, sym, arith}
use Rattle.std.proofs.lemmas.Option.{get_or_from_slice_get}
use Rattle.tc_mat.specs.Matrix.{Matrix, IsIdentity}
use Rattle.tc_mat.specs.Held.{Held}
use Rattle.tc_beh.specs.Held.{set_at}
use Rattle.tc_beh.specs.Opening.{Met, MeetsMore}
use Rattle.tc_beh.specs.Places.{no_matrix}
use Rattle.tc_beh.proofs.Holding.{extends_at, extends_count, low_got}
use Rattle.tc_beh.proofs.Remembering.{remembered_on}
use Rattle.tc_beh.proofs.met_sets.MetSets.number_of.Goals as goal

set_numbered : (h : Held) (m : Matrix) (o : Option ℕ) → IfSome o (λ k. slice_get h.matrices k ≡ Some m) → IfSome o (λ k. (k < length h.matrices) × (set_at h k ≡ m))
set_numbered h m None e = tt
set_numbered h m (Some k) e = (low_got h.matrices k m e, get_or_from_slice_get h.matrices k m no_matrix e)

pub invariant_of-self : goal.invariant_of-self
invariant_of-self c =
    let old = c.self.inside.sets in
    let new = c.number_of.new.self in
    let more = c.number_of.ensures.held in
    let count = extends_count old new more in
    let text = c.self.invariant.1 in
    let some = c.self.invariant.2 in
    (c.self.invariant.0, omega (arith, text, count), omega (arith, some, count), subst IsIdentity (sym (extends_at old new more 0 some)) c.self.invariant.3, remembered_on old new more c.self.inside.products c.self.invariant.4)

pub returns-clause-more : goal.returns-clause-more
returns-clause-more c =
    let old = c.self.inside.sets in
    let new = c.number_of.new.self in
    let more = c.number_of.ensures.held in
    let now : Met = record { text = set_at new c.self.inside.text; held = new; elements = c.self.inside.elements.items; links = c.self.inside.links } in
    subst (λ (v : Met). MeetsMore v now) c.self.view_is (record { text = extends_at old new more c.self.inside.text c.self.invariant.1; held = more; elements = refl; links = refl })

pub returns-clause-number : goal.returns-clause-number
returns-clause-number c = set_numbered c.number_of.new.self c.args.set.now c.number_of.result c.number_of.ensures.number
