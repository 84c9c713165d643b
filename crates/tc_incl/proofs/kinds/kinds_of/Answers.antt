use Rattle.std.proofs.Common.{◌≡◌, ◌≤◌, ◌⊎◌, ◌<◌, ◌+◌, ◌++◌, ◌∷◌, [], inl, inr, ℕ, List, ap, sym, subst, length, length-append, arith}
use Rattle.tc_incl.specs.declared.rows.Row.{Row}
use Rattle.tc_incl.specs.Alike.{IsCopyAt}
use Rattle.tc_incl.proofs.Alike.{are_kinds, rows_more}
use Rattle.tc_incl.proofs.HandedOn.{no_value}
use Rattle.tc_incl.proofs.kinds.kinds_of.Goals as goal

one_more : (old new : List Row) (r : Row) (u n : ℕ) → length old ≤ n → ((u < length old) × (new ≡ old)) ⊎ ((u ≡ length old) × (new ≡ old ++ r ∷ [])) → length new ≤ n + 1
one_more old new r u n few (inl (low, e)) = omega (arith, few, ap length e)
one_more old new r u n few (inr (last, e)) = omega (arith, few, ap length e, length-append old (r ∷ []))

pub loop-symbol-preserved : goal.loop-symbol-preserved
loop-symbol-preserved c =
    let inv = c.loop-symbol.invariant in
    let first = c.args.first.now.allowed.items in
    let second = c.args.second.now.allowed.items in
    let (row, of_first, of_second, held, kept) = c.in_ok-kind.ensures in
    let place : c.loop-symbol.symbol ≡ length c.loop-symbol.kinds.items = sym inv.0 in (
      omega (arith, c.in_ok-push.ensures.len, inv.0),
      one_more c.loop-symbol.held.keys c.kind_of.new.held.keys row c.in_ok-kind.kind c.loop-symbol.symbol inv.1 kept,
      rows_more first second c.loop-symbol.held.keys c.kind_of.new.held.keys c.loop-symbol.kinds.items c.push.new.self.items c.in_ok-kind.kind row inv.2 held kept c.in_ok-push.ensures.items
          (subst (λ n. IsCopyAt first n row.first) place of_first) (subst (λ n. IsCopyAt second n row.second) place of_second),
    )

pub returns-clause-kinds : goal.returns-clause-kinds
returns-clause-kinds c = are_kinds c.args.first.now.allowed.items c.args.second.now.allowed.items c.loop-symbol.held.keys c.loop-symbol.kinds.items c.loop-symbol.invariant.2

pub returns-in_err-kind-clause-count : goal.returns-in_err-kind-clause-count
returns-in_err-kind-clause-count c = no_value c.from_residual.result _ _ c.from_residual.ensures.1

pub returns-in_err-kind-clause-kinds : goal.returns-in_err-kind-clause-kinds
returns-in_err-kind-clause-kinds c = no_value c.from_residual.result _ _ c.from_residual.ensures.1

pub returns-in_err-push-clause-count : goal.returns-in_err-push-clause-count
returns-in_err-push-clause-count c = no_value c.from_residual-in_err-push.result _ _ c.from_residual-in_err-push.ensures.1

pub returns-in_err-push-clause-kinds : goal.returns-in_err-push-clause-kinds
returns-in_err-push-clause-kinds c = no_value c.from_residual-in_err-push.result _ _ c.from_residual-in_err-push.ensures.1
