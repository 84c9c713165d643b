use Rattle.std.proofs.Common.{◌≡◌, ◌⊎◌, ◌<◌, ◌++◌, ◌∷◌, [], ℕ, List, Some, Result, Ok, Err, IfOk, false, length, slice_get}
use Rattle.tc_incl.specs.declared.rows.Row.{Row}
use Rattle.tc_incl.specs.Alike.{IsCopyAt}
use Rattle.tc_incl.proofs.HandedOn.{no_value}
use Rattle.tc_incl.proofs.kinds.kind_of.Goals as goal

placed : {E : Type 0} (P Q : Row → Type 0) (old new : List Row) (row : Row) (r : Result ℕ E) → P row → Q row → IfOk r (λ u. slice_get new u ≡ Some row)
    → IfOk r (λ u. ((u < length old) × (new ≡ old)) ⊎ ((u ≡ length old) × (new ≡ old ++ row ∷ [])))
    → IfOk r (λ u. (w : Row) × P w × Q w × (slice_get new u ≡ Some w) × (((u < length old) × (new ≡ old)) ⊎ ((u ≡ length old) × (new ≡ old ++ w ∷ []))))
placed P Q old new row (Ok u) p q at kept = (row, p, q, at, kept)
placed P Q old new row (Err e) p q at kept = tt

pub returns : goal.returns
returns c =
    let row : Row = record { text = false; first = c.in_ok-of_first.of_first; second = c.in_ok-of_second.of_second } in
    placed (λ w. IsCopyAt c.args.first.now.allowed.items c.args.symbol w.first) (λ w. IsCopyAt c.args.second.now.allowed.items c.args.symbol w.second) c.args.held.now.keys c.hold.new.rows.keys row c.hold.result
    c.in_ok-of_first.ensures.numbers c.in_ok-of_second.ensures.numbers c.hold.ensures.held c.hold.ensures.kept

pub returns-in_err-of_first : goal.returns-in_err-of_first
returns-in_err-of_first c = no_value c.from_residual.result _ _ c.from_residual.ensures.1

pub returns-in_err-of_second : goal.returns-in_err-of_second
returns-in_err-of_second c = no_value c.from_residual-in_err-of_second.result _ _ c.from_residual-in_err-of_second.ensures.1
