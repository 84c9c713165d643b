-- Where a move or a look stands among those that are numbered.
use Rattle.std.proofs.Common.{◌≡◌, ℕ, ◌<◌, List, length, map, get_or, ap, ◌∙◌, sym, true, Bool, Some, slice_get, option_map, Bor}
use Rattle.std.specs.Prelude.{Contains}
use Rattle.std.proofs.lemmas.Option.{slice_get-map, slice_get-get_or}
use Rattle.tc_model.specs.Numbered.{number_of}
use Rattle.tc_alpha.proofs.Members.{has_from_contains}
use Rattle.tc_rules.proofs.Sameness.{found_by_number}

module _ {X Y : Type 0} (same : X → X → Bool) (is_same : (a b : X) → same a b ≡ true → a ≡ b) (is_self : (a : X) → same a a ≡ true) (f : Y → X) where
  -- what was found to be the same
  pub hinted : (x : X) (ys : List Y) (i : ℕ) (d : Y) → i < length ys → same x (f (get_or ys i d)) ≡ true → slice_get (map f ys) i ≡ Some x
  hinted x ys i d l e =
      slice_get-map f ys i ∙ (ap (option_map f) (slice_get-get_or ys i d l) ∙ ap Some (sym (is_same x (f (get_or ys i d)) e)))

  -- what has a number
  pub numbered : (x : X) (ys : List Y) (i : ℕ) → i ≡ number_of same x (map f ys) → Contains (map f ys) x → slice_get (map f ys) i ≡ Some x
  numbered x ys i e c = ap (slice_get (map f ys)) e ∙ found_by_number same is_same is_self (map f ys) x (has_from_contains (map f ys) x c)
