use Rattle.std.proofs.Common.{◌≡◌, ◌≤◌, ℕ, List, max, length, refl, sym, ap, ◌∙◌, subst, arith}
use Rattle.std.specs.Prelude.{replicate}
use Rattle.tc_model.specs.Sheets.{Sheet}
use Rattle.tc_model.specs.Views as see
use Rattle.tc_model.specs.WellFormed.{IsSheet}
use Rattle.tc_rows.specs.Counts.{PassCalls}
use Rattle.tc_beh.specs.Callees.{AreCalleesFirst}
use Rattle.tc_beh.specs.Heights.{heights_in, highest, highest_rule, deepest, deepest_rule}
use Rattle.tc_beh.proofs.Sizes.{looks_are, calls_low, passes, keeps, shallow, ordered, sheet_is}
use Rattle.tc_beh.proofs.Steps.{no_value, not_done}
use Rattle.tc_beh.proofs.machine.order_of.Goals as goal

pub callees_first-requires : goal.callees_first-requires
callees_first-requires c =
    let (x, p) = c.requires in
    calls_low c.sheet.result.now (subst IsSheet (sym c.sheet.ensures) p.rules.tells.well_formed)

pub returns-then-calls-ge-TOO_MANY-clause-cause : goal.returns-then-calls-ge-TOO_MANY-clause-cause
returns-then-calls-ge-TOO_MANY-clause-cause c = λ x p.
    let sh = c.sheet.result.now in
    let well : IsSheet (see.sheet sh) = subst IsSheet (sym c.sheet.ensures) p.rules.tells.well_formed in
    let height = λ (o : List ℕ). max (highest (heights_in (see.sheet sh).named (replicate (length sh.named.now) 0) o)) (highest_rule (heights_in (see.sheet sh).named (replicate (length sh.named.now) 0) o) (see.sheet sh).rules) in
    let calls_are : c.in_ok-calls.calls ≡ height c.in_ok-order.order.items = c.in_ok-calls.ensures ∙ ap height c.deref.ensures.value in
    subst (λ s. PassCalls s 8000) (sheet_is x c.args.rules.now sh p c.sheet.ensures)
    (passes sh well c.in_ok-order.order.items c.in_ok-order.ensures.order c.in_ok-calls.calls calls_are c.if-calls-ge-TOO_MANY.true)

pub returns-then-entries_of-looks-gt-MOST_ENTRIES-clause-cause : goal.returns-then-entries_of-looks-gt-MOST_ENTRIES-clause-cause
returns-then-entries_of-looks-gt-MOST_ENTRIES-clause-cause c = λ x p.
    let sh = c.sheet.result.now in
    let well : IsSheet (see.sheet sh) = subst IsSheet (sym c.sheet.ensures) p.rules.tells.well_formed in
    let height = λ (o : List ℕ). max (highest (heights_in (see.sheet sh).named (replicate (length sh.named.now) 0) o)) (highest_rule (heights_in (see.sheet sh).named (replicate (length sh.named.now) 0) o) (see.sheet sh).rules) in
    let calls_are : c.in_ok-calls.calls ≡ height c.in_ok-order.order.items = c.in_ok-calls.ensures ∙ ap height c.deref.ensures.value in
    let same = sheet_is x c.args.rules.now sh p c.sheet.ensures in (
      λ h. keeps sh well c.in_ok-order.order.items c.in_ok-order.ensures.order c.in_ok-calls.calls calls_are c.if-calls-ge-TOO_MANY.false (subst (λ s. PassCalls s 8000) (sym same) h),
      omega (arith, c.entries_of.ensures.exact x p, looks_are x c.args.rules.now p c.looks.result (c.looks.ensures x.symbols p.rules), c.if-entries_of-looks-gt-MOST_ENTRIES.true),
    )

pub returns-clause-order : goal.returns-clause-order
returns-clause-order c = λ x p.
    let sh = c.sheet.result.now in
    let well : IsSheet (see.sheet sh) = subst IsSheet (sym c.sheet.ensures) p.rules.tells.well_formed in
    subst (λ (s : Sheet). AreCalleesFirst s.named c.in_ok-order.order.items) (sheet_is x c.args.rules.now sh p c.sheet.ensures) (ordered sh well c.in_ok-order.order.items c.in_ok-order.ensures.order)

pub returns-clause-shallow : goal.returns-clause-shallow
returns-clause-shallow c = λ x p.
    let sh = c.sheet.result.now in
    let well : IsSheet (see.sheet sh) = subst IsSheet (sym c.sheet.ensures) p.rules.tells.well_formed in
    let height = λ (o : List ℕ). max (highest (heights_in (see.sheet sh).named (replicate (length sh.named.now) 0) o)) (highest_rule (heights_in (see.sheet sh).named (replicate (length sh.named.now) 0) o) (see.sheet sh).rules) in
    let calls_are : c.in_ok-calls.calls ≡ height c.in_ok-order.order.items = c.in_ok-calls.ensures ∙ ap height c.deref.ensures.value in
    subst (λ (s : Sheet). max (deepest_rule s.rules) (deepest s.named) ≤ 8000) (sheet_is x c.args.rules.now sh p c.sheet.ensures)
    (shallow sh well c.in_ok-order.order.items c.in_ok-order.ensures.order c.in_ok-calls.calls (max (deepest_rule (see.sheet sh).rules) (deepest (see.sheet sh).named)) calls_are c.if-calls-ge-TOO_MANY.false refl)

pub returns-clause-within : goal.returns-clause-within
returns-clause-within c = λ x p.
    let sh = c.sheet.result.now in
    let well : IsSheet (see.sheet sh) = subst IsSheet (sym c.sheet.ensures) p.rules.tells.well_formed in
    let height = λ (o : List ℕ). max (highest (heights_in (see.sheet sh).named (replicate (length sh.named.now) 0) o)) (highest_rule (heights_in (see.sheet sh).named (replicate (length sh.named.now) 0) o) (see.sheet sh).rules) in
    let calls_are : c.in_ok-calls.calls ≡ height c.in_ok-order.order.items = c.in_ok-calls.ensures ∙ ap height c.deref.ensures.value in
    let same = sheet_is x c.args.rules.now sh p c.sheet.ensures in (
      λ h. keeps sh well c.in_ok-order.order.items c.in_ok-order.ensures.order c.in_ok-calls.calls calls_are c.if-calls-ge-TOO_MANY.false (subst (λ s. PassCalls s 8000) (sym same) h),
      λ h. absurd (omega (arith, c.entries_of.ensures.exact x p, looks_are x c.args.rules.now p c.looks.result (c.looks.ensures x.symbols p.rules), c.if-entries_of-looks-gt-MOST_ENTRIES.false, h)),
    )

pub returns-in_err-order-clause-order : goal.returns-in_err-order-clause-order
returns-in_err-order-clause-order c = no_value c.from_residual.result _ _ c.from_residual.ensures.1

pub returns-in_err-order-clause-shallow : goal.returns-in_err-order-clause-shallow
returns-in_err-order-clause-shallow c = not_done c.from_residual.result _ _ c.from_residual.ensures.1

pub returns-in_err-order-clause-within : goal.returns-in_err-order-clause-within
returns-in_err-order-clause-within c = not_done c.from_residual.result _ _ c.from_residual.ensures.1

pub returns-in_err-calls-clause-order : goal.returns-in_err-calls-clause-order
returns-in_err-calls-clause-order c = no_value c.from_residual-in_err-calls.result _ _ c.from_residual-in_err-calls.ensures.1

pub returns-in_err-calls-clause-shallow : goal.returns-in_err-calls-clause-shallow
returns-in_err-calls-clause-shallow c = not_done c.from_residual-in_err-calls.result _ _ c.from_residual-in_err-calls.ensures.1

pub returns-in_err-calls-clause-within : goal.returns-in_err-calls-clause-within
returns-in_err-calls-clause-within c = not_done c.from_residual-in_err-calls.result _ _ c.from_residual-in_err-calls.ensures.1
