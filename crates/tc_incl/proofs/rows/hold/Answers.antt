use Rattle.std.proofs.Common.{◌≡◌, ◌∙◌, inl, inr, sym, ap, subst, Some, length, slice_get, List, ◌<◌}
use Rattle.tc_incl.specs.declared.rows.Row.{Row}
use Rattle.tc_incl.proofs.Keys.{same_row, row_exact, row_itself, different, kept_or_last, last_at}
use Rattle.tc_incl.proofs.HandedOn.{no_value, not_done}
use Rattle.tc_incl.proofs.rows.hold.Goals as goal

held_at : (c : goal.In_ok-place) → slice_get c.insert_full.new.self.keys c.in_ok-place.place ≡ Some c.args.row
held_at c = let (k, at, e) = c.in_ok-place.ensures.stored in at ∙ ap Some (sym (row_exact c.args.row k e))

pub returns-clause-held : goal.returns-clause-held
returns-clause-held c = held_at c

pub returns-clause-different : goal.returns-clause-different
returns-clause-different c = different same_row row_exact row_itself c.insert_full.new.self.keys c.in_ok-place.ensures.unique

pub returns-clause-kept : goal.returns-clause-kept
returns-clause-kept c = elim (kept_or_last same_row row_exact row_itself c.args.row c.args.rows.now.keys) [
  | inl (any, same) ↦ let keys = c.in_ok-place.ensures.keys ∙ same in inl (subst (λ (ks : List Row). c.in_ok-place.place < length ks) keys c.in_ok-place.ensures.within, keys)
  | inr same ↦ let keys = c.in_ok-place.ensures.keys ∙ same in
      inr (
        different same_row row_exact row_itself c.insert_full.new.self.keys c.in_ok-place.ensures.unique c.in_ok-place.place (length c.args.rows.now.keys) c.args.row (held_at c)
            (ap (λ (ks : List Row). slice_get ks (length c.args.rows.now.keys)) keys ∙ last_at c.args.row c.args.rows.now.keys),
        keys,
      )
]

pub returns-in_err-place-clause-held : goal.returns-in_err-place-clause-held
returns-in_err-place-clause-held c = no_value c.from_residual.result _ _ c.from_residual.ensures.1

pub returns-in_err-place-clause-kept : goal.returns-in_err-place-clause-kept
returns-in_err-place-clause-kept c = no_value c.from_residual.result _ _ c.from_residual.ensures.1

pub returns-in_err-place-clause-different : goal.returns-in_err-place-clause-different
returns-in_err-place-clause-different c = not_done c.from_residual.result _ _ c.from_residual.ensures.1
