use Rattle.std.proofs.Common.{refl, subst, sym, get_or}
use Rattle.tc_cert.specs.NextRows.{IsNextChange}
use Rattle.tc_cert.proofs.Numbers.{bool_apart}
use Rattle.tc_cert.proofs.Applied.{begun, no_more, one_more}
use Rattle.tc_cert.proofs.rows.apply.Goals as goal

pub loop-change-init : goal.loop-change-init
loop-change-init c = begun c.args.numbers.now.items c.args.changes.now

pub returns-then-not-is_change : goal.returns-then-not-is_change
returns-then-not-is_change c = no_more _ _ c.loop-change.invariant c.loop-change-test.true refl (λ n. bool_apart c.is_change.result (c.is_change.ensures.1 (subst (λ l. IsNextChange l c.loop-change.next (get_or c.args.changes.now c.loop-change.change-index (0, 0)).0 (get_or c.args.changes.now c.loop-change.change-index (0, 0)).1) (sym c.deref.ensures.value) n)) c.if-not-is_change.true)

pub loop-change-preserved : goal.loop-change-preserved
loop-change-preserved c = one_more _ _ c.loop-change.invariant c.loop-change-test.true refl (subst (λ l. IsNextChange l c.loop-change.next (get_or c.args.changes.now c.loop-change.change-index (0, 0)).0 (get_or c.args.changes.now c.loop-change.change-index (0, 0)).1) c.deref.ensures.value (c.is_change.ensures.0 c.if-not-is_change.false))
