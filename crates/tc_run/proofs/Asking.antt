-- What all predicates ask for is found in their order, and tells which of them hold.
use Rattle.std.proofs.Common.{◌≡◌, ℕ, ◌+◌, ◌<◌, List, [], ◌∷◌, ◌++◌, refl, ap, ◌∙◌, sym, subst, length, get_or, Bool, true, false, nat_eq, is_some, Some, slice_get, arith}
use Rattle.std.proofs.lemmas.List.{length_push, get_or_push, get_or_append_left}
use Rattle.std.proofs.lemmas.Option.{same_Some, slice_get-get_or}
use Rattle.std.proofs.lemmas.Bool.{eqb-true}
use Rattle.std.proofs.lemmas.Bool.Decides.{nat_tests}
use Rattle.tc_model.specs.Machine.{first_hit, holds_in}
use Rattle.tc_model.specs.Sheets.{Test, always}
use Rattle.tc_model.specs.Trees.{Trees}
use Rattle.tc_rules.specs.States.{Looking}
use Rattle.tc_rules.specs.Tasks.{IsLookAt, IsSomeLook, looking_from}
use Rattle.tc_run.specs.Predicates.{IsAskedBy, AreAsked, AreAllAsked}
use Rattle.tc_run.specs.Running.{looking, told_by, predicates_by}
use Rattle.tc_run.specs.declared.predicates.Asked.{Asked}
use Rattle.tc_run.specs.declared.predicates.Asked.TheVariants as asked
use Rattle.tc_run.specs.declared.runner.Runner.{Runner}

module _ (r : Runner) where
  pub none_asked : AreAsked r 0 []
  none_asked = record { count_is = refl; each = λ i d t h e. absurd (omega (arith, h)) }

  pub one_more_asked : (n : ℕ) (xs : List Asked) (x : Asked) (w : Test) → AreAsked r n xs → slice_get (predicates_by r) n ≡ Some w → IsAskedBy r w x → AreAsked r (n + 1) (xs ++ x ∷ [])
  one_more_asked n xs x w are at is = record {
    count_is = let size = length_push xs x in let count = are.count_is in omega (arith, size, count);
    each = λ i d t h e. by i d t h e (nat_eq i n) refl;
  }
    where
      by : (i : ℕ) (d : Asked) (t : Test) → i < n + 1 → slice_get (predicates_by r) i ≡ Some t → (b : Bool) → nat_eq i n ≡ b → IsAskedBy r t (get_or (xs ++ x ∷ []) i d)
      by i d t h e true b =
          let here : i ≡ n = eqb-true i n b in
          let same : w ≡ t = same_Some _ _ (sym at ∙ (ap (slice_get (predicates_by r)) (sym here) ∙ e)) in
          subst (IsAskedBy r t) (sym (get_or_push xs x d i (are.count_is ∙ sym here))) (subst (λ v. IsAskedBy r v x) same is)
      by i d t h e false b =
          let low : i < n = grind (arith, nat_tests) in
          let count = are.count_is in
          subst (IsAskedBy r t) (sym (get_or_append_left xs (x ∷ []) d i (omega (arith, low, count)))) (are.each i d t low e)

  -- a predicate by its number
  pub asked_at : (xs : List Asked) (i : ℕ) (d : Asked) → AreAllAsked r xs → i < length xs
      → (slice_get (predicates_by r) i ≡ Some (get_or (predicates_by r) i always)) × IsAskedBy r (get_or (predicates_by r) i always) (get_or xs i d)
  asked_at xs i d are h =
      let count = are.count_is in
      let low : i < length (predicates_by r) = omega (arith, h, count) in
      let at = slice_get-get_or (predicates_by r) i always low in
      (at, are.each i d (get_or (predicates_by r) i always) low at)

  some_look : (t : Test) (k : ℕ) → IsAskedBy r t (asked.Look k) → IsSomeLook (told_by r) k
  some_look t k (p, e, at) = record { path = p; state = _; at = at }

  pub look_asked : (x : Asked) (k : ℕ) (t : Test) → x ≡ asked.Look k → IsAskedBy r t x → IsSomeLook (told_by r) k
  look_asked x k t e is = some_look t k (subst (IsAskedBy r t) e is)

  found_by : (t : Test) (k : ℕ) (h : Trees) (found : Bool) → IsAskedBy r t (asked.Look k)
      → ((s : Looking) → IsLookAt (told_by r) k s → found ≡ is_some (first_hit (looking r) h s)) → found ≡ holds_in (looking r) t h
  found_by t k h found (p, e, at) ens = ens (looking_from p) at ∙ sym (ap (λ w. holds_in (looking r) w h) e)

  pub look_found : (x : Asked) (k : ℕ) (t : Test) (h : Trees) (found : Bool) → x ≡ asked.Look k → IsAskedBy r t x
      → ((s : Looking) → IsLookAt (told_by r) k s → found ≡ is_some (first_hit (looking r) h s)) → found ≡ holds_in (looking r) t h
  look_found x k t h found e is ens = found_by t k h found (subst (IsAskedBy r t) e is) ens
