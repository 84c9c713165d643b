-- Tests are looked at one after another: all of them hold, or one does.
use Rattle.std.proofs.Common.{◌≡◌, ℕ, ◌+◌, ◌<◌, ◌≤◌, List, Bool, true, false, ◌&&◌, ◌||◌, ap, sym, subst, ◌∙◌, length, drop, get_or}
use Rattle.std.proofs.lemmas.List.{drop_all}
use Rattle.tc_model.specs.Machine.{Machine, holds_in, all_hold_in, some_holds_in}
use Rattle.tc_model.specs.Sheets.{Sheet}
use Rattle.tc_model.specs.Trees.{Trees}
use Rattle.tc_model.specs.Views.{test, tests}
use Rattle.tc_model.specs.declared.sheet.Test.{Test}
use Rattle.tc_model.proofs.ViewsPath.{left_test}
use Rattle.tc_rules.specs.Parts.{IsPartTest, ArePartTests}

pub part_next : (x : Sheet) (ts : List Test) (i : ℕ) (t : Test) → i < length ts → t ≡ get_or ts i t → ArePartTests x (tests (drop i ts)) → IsPartTest x (test t) × ArePartTests x (tests (drop (i + 1) ts))
part_next x ts i t l e h = subst (ArePartTests x) (left_test ts i t l e) h

module _ (m : Machine) (h : Trees) (ts : List Test) (i : ℕ) where
  module _ (t : Test) (r all : Bool) (l : i < length ts) (e : t ≡ get_or ts i t) (is : r ≡ holds_in m (test t) h) where
    pub hold_further : all ≡ all_hold_in m (tests (drop i ts)) h → r ≡ true → all ≡ all_hold_in m (tests (drop (i + 1) ts)) h
    hold_further k f = k ∙ (ap (λ w. all_hold_in m w h) (left_test ts i t l e) ∙ ap (λ b. b && all_hold_in m (tests (drop (i + 1) ts)) h) (sym is ∙ f))

    pub one_fails : all ≡ all_hold_in m (tests (drop i ts)) h → r ≡ false → false ≡ all
    one_fails k f = sym (k ∙ (ap (λ w. all_hold_in m w h) (left_test ts i t l e) ∙ ap (λ b. b && all_hold_in m (tests (drop (i + 1) ts)) h) (sym is ∙ f)))

    pub fail_further : all ≡ some_holds_in m (tests (drop i ts)) h → r ≡ false → all ≡ some_holds_in m (tests (drop (i + 1) ts)) h
    fail_further k f = k ∙ (ap (λ w. some_holds_in m w h) (left_test ts i t l e) ∙ ap (λ b. b || some_holds_in m (tests (drop (i + 1) ts)) h) (sym is ∙ f))

    pub one_holds : all ≡ some_holds_in m (tests (drop i ts)) h → r ≡ true → true ≡ all
    one_holds k f = sym (k ∙ (ap (λ w. some_holds_in m w h) (left_test ts i t l e) ∙ ap (λ b. b || some_holds_in m (tests (drop (i + 1) ts)) h) (sym is ∙ f)))

  pub all_held : (all : Bool) → length ts ≤ i → all ≡ all_hold_in m (tests (drop i ts)) h → true ≡ all
  all_held all l k = sym (k ∙ ap (λ w. all_hold_in m (tests w) h) (drop_all i ts l))

  pub all_failed : (all : Bool) → length ts ≤ i → all ≡ some_holds_in m (tests (drop i ts)) h → false ≡ all
  all_failed all l k = sym (k ∙ ap (λ w. some_holds_in m (tests w) h) (drop_all i ts l))
