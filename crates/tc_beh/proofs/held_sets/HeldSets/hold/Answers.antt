use Rattle.std.proofs.Common.{◌∙◌, ap, sym, subst}
use Rattle.tc_mat.specs.Matrix.{Matrix, IsIdentity}
use Rattle.tc_mat.specs.Held.{Held, IsHeld}
use Rattle.tc_beh.proofs.Remembering.{remembered_more, nothing_more, nothing_held, size_more}
use Rattle.tc_beh.proofs.held_sets.HeldSets.hold.Goals as goal

pub invariant_of-self : goal.invariant_of-self
invariant_of-self c =
    let old = c.self.inside.pool in
    let new = c.intern-held.new.self in
    let set = c.args.set.now in
    let absent = c.intern-held.ensures.absent (subst (λ (h : Held). IsHeld h set → ⊥) (sym c.self.view_is) c.requires.absent) in
    let size = size_more old new set c.intern-held.result absent c.intern-held.ensures.err in (
      remembered_more old new set c.intern-held.result c.self.inside.products absent c.intern-held.ensures.err c.self.invariant.0,
      c.self.invariant.1,
      c.self.invariant.2 ∙ sym size,
      c.nothing_after-self-inside.ensures new (nothing_more old new set c.intern-held.result c.self.inside.nothing absent c.intern-held.ensures.err c.self.invariant.3)
          (λ e.
          let same = c.is_same-is_nothing.ensures e in
          nothing_held new set c.intern-held.result (subst IsIdentity (sym same) c.self.invariant.1) (ap (λ (m : Matrix). m.size) same ∙ (c.self.invariant.2 ∙ sym size)) c.intern-held.ensures.id),
    )
