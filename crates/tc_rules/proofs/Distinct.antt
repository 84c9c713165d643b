-- What is kept of a list, each once, and when there are too many.
use Rattle.std.proofs.Common.{◌≡◌, ℕ, ◌+◌, ◌<◌, ◌≤◌, Bool, Bor, List, [], ◌∷◌, ◌++◌, length, map, drop, get_or, ap, refl, Result, Ok, Err, IfErr, arith}
use Rattle.std.proofs.lemmas.List.{length-append, length-map, get_or_default}
use Rattle.tc_model.specs.Numbered.{each_once, each_once_after, number_of}
use Rattle.tc_model.specs.SameTests.{same_test}
use Rattle.tc_model.specs.Sheets.{Test}
use Rattle.tc_model.specs.Views as see
use Rattle.tc_model.specs.declared.sheet.Test.{Test as TestOf}
use Rattle.tc_rules.specs.Faults.{IsPredicatesCause}
use Rattle.tc_rules.specs.Once.{put_once}
use Rattle.tc_rules.specs.Views.{predicates}
use Rattle.tc_rules.specs.declared.rules.RulesFault.{RulesFault}
use Rattle.tc_rules.specs.declared.rules.RulesFault.TheVariants.{TooManyPredicates, TooManyAncestorStates, TooManySelectStates, NoMemory}
use Rattle.tc_rules.proofs.Sameness.{put_last, looked}

-- where all of so many are kept and one more is put last, there are more
pub one_more : {X Y : Type 0} (same : X → X → Bool) (f : Y → X) (kept : List Y) (y : Y) (k n : ℕ) → k ≡ number_of same (f y) (map f kept) → length kept ≤ k → length kept ≡ n → n < length (put_once same (map f kept) (f y))
one_more {X} {Y} same f kept y k n e l is =
    let put : map f (kept ++ y ∷ []) ≡ put_once same (map f kept) (f y) = put_last same f kept (kept ++ y ∷ []) y k e l refl in
    omega (arith, is, ap length put, length-map (kept ++ y ∷ []) f, length-append kept (y ∷ []))

-- what passes a limit so far passes it in all
pub still_too_many : (all now rest : List Test) → all ≡ now ++ rest → (e : RulesFault) → IsPredicatesCause now e → IsPredicatesCause all e
still_too_many all now rest is TooManyPredicates k = omega (arith, k, ap length is, length-append now rest)
still_too_many all now rest is TooManyAncestorStates k = absurd k
still_too_many all now rest is TooManySelectStates k = absurd k
still_too_many all now rest is NoMemory k = tt

-- of a list, one more is looked at
pub looked_at : {X Y : Type 0} (same : X → X → Bool) (f : Y → X) (all s t : List X) (ys : List Y) (i : ℕ) (d : Y) → i < length ys → t ≡ put_once same s (f (get_or ys i d))
    → all ≡ s ++ each_once_after same s (map f (drop i ys)) → all ≡ t ++ each_once_after same t (map f (drop (i + 1) ys))
looked_at same f all s t ys i d l put so_far = looked same f all s t ys i (get_or ys i d) l (get_or_default ys i d (get_or ys i d) l) put so_far

-- what follows from the fault of a result
pub then_if_err : {T E : Type 0} (r : Result T E) (P Q : E → Type 0) → ((e : E) → P e → Q e) → IfErr r P → IfErr r Q
then_if_err (Ok x) P Q f h = tt
then_if_err (Err e) P Q f h = f e h

pub predicates_passed : (found : List (Bor TestOf)) (i : ℕ) (d : Bor TestOf) (kept : List Test) → i < length found
    → each_once same_test (predicates found) ≡ kept ++ each_once_after same_test kept (predicates (drop i found))
    → (e : RulesFault) → IsPredicatesCause (put_once same_test kept (see.test (get_or found i d).now)) e → IsPredicatesCause (each_once same_test (predicates found)) e
predicates_passed found i d kept l so_far e k =
    let now = put_once same_test kept (see.test (get_or found i d).now) in
    still_too_many (each_once same_test (predicates found)) now (each_once_after same_test now (predicates (drop (i + 1) found)))
    (looked_at same_test (λ (t : Bor TestOf). see.test t.now) (each_once same_test (predicates found)) kept now found i d l refl so_far) e k
