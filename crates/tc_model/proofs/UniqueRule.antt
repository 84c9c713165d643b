-- The rule of a node is the last of greatest priority.
use Rattle.std.proofs.Common.{◌≡◌, ◌<ℤ◌, ◌≤ℤ◌, ℕ, ℤ, List, [], ◌∷◌, ◌++◌, refl, ap, ◌∙◌, Bool, true, false, ◌&&◌, cond, nat_eq, int_lt, Option, Some, None, All, arith, rules}
use Rattle.std.proofs.lemmas.List.Elements.{All-head, All-tail}
use Rattle.tc_model.specs.Chains.{Chain}
use Rattle.tc_model.specs.Sheets.{Rule}
use Rattle.tc_model.specs.Paths.{fits}
use Rattle.tc_model.specs.Meaning.{better, rule_of}
use Rattle.tc_model.specs.Laws.{IsCandidate}

less_so : (x y : ℤ) → x <ℤ y → int_lt x y ≡ true
less_so x y h = search (rules, arith)

not_less : (x y : ℤ) → y ≤ℤ x → int_lt x y ≡ false
not_less x y h = search (rules, arith)

same_mode : (m n : ℕ) → m ≡ n → nat_eq m n ≡ true
same_mode m n e = search (rules, arith)

mode_same : (m n : ℕ) → nat_eq m n ≡ true → m ≡ n
mode_same m n e = search (rules, arith)

both : (a b : Bool) → a ≡ true → b ≡ true → (a && b) ≡ true
both a b e f = cc

first_of_both : (a b : Bool) → (a && b) ≡ true → a ≡ true
first_of_both true b e = refl
first_of_both false b e = e

second_of_both : (a b : Bool) → (a && b) ≡ true → b ≡ true
second_of_both true b e = e
second_of_both false b e = cc

-- what is taken from a list, if anything, is of less priority
abbrev IsLess : ℤ → Option Rule → Type 0
IsLess z None = Unit {0}
IsLess z (Some r) = r.priority <ℤ z

one_is_less : (b : Bool) (r later : Rule) (z : ℤ) → r.priority <ℤ z → later.priority <ℤ z → IsLess z (cond b (Some r) (Some later))
one_is_less true r later z h i = h
one_is_less false r later z h i = i

better_is_less : (b : Bool) (r : Rule) (o : Option Rule) (z : ℤ) → (b ≡ true → r.priority <ℤ z) → IsLess z o → IsLess z (better b r o)
better_is_less true r None z h i = h refl
better_is_less false r None z h i = tt
better_is_less true r (Some later) z h i = one_is_less (int_lt later.priority r.priority) r later z (h refl) i
better_is_less false r (Some later) z h i = i

taken : (b : Bool) (r : Rule) (o : Option Rule) → b ≡ true → IsLess r.priority o → better b r o ≡ Some r
taken true r None e i = refl
taken true r (Some later) e i = ap (λ w. cond w (Some r) (Some later)) (less_so later.priority r.priority i)
taken false r None e i = cc
taken false r (Some later) e i = cc

passed_over : (b : Bool) (q r : Rule) → (b ≡ true → q.priority ≤ℤ r.priority) → better b q (Some r) ≡ Some r
passed_over true q r h = ap (λ w. cond w (Some q) (Some r)) (not_less r.priority q.priority (h refl))
passed_over false q r h = refl

not_taken : (b : Bool) (r : Rule) → (b ≡ true → ⊥) → better b r None ≡ None
not_taken true r h = absurd (h refl)
not_taken false r h = refl

module _ (m : ℕ) (c : Chain) where
  abbrev candidate : Rule → Bool
  candidate r = nat_eq r.mode m && fits r.pattern c

  is_candidate : (r : Rule) → IsCandidate m c r → candidate r ≡ true
  is_candidate r i = both (nat_eq r.mode m) (fits r.pattern c) (same_mode r.mode m i.0) i.1

  candidate_is : (r : Rule) → candidate r ≡ true → IsCandidate m c r
  candidate_is r e = (mode_same r.mode m (first_of_both (nat_eq r.mode m) (fits r.pattern c) e), second_of_both (nat_eq r.mode m) (fits r.pattern c) e)

  later_is_less : (rs : List Rule) (z : ℤ) → All (λ q. IsCandidate m c q → q.priority <ℤ z) rs → IsLess z (rule_of rs m c)
  later_is_less [] z a = tt
  later_is_less (r ∷ rs) z a =
      let Q : Rule → Type 0 = λ q. IsCandidate m c q → q.priority <ℤ z in
      better_is_less (candidate r) r (rule_of rs m c) z (λ e. All-head Q r rs a (candidate_is r e)) (later_is_less rs z (All-tail Q r rs a))

  pub last_of_greatest : (earlier later : List Rule) (r : Rule)
      → IsCandidate m c r
      → All (λ q. IsCandidate m c q → q.priority ≤ℤ r.priority) earlier
      → All (λ q. IsCandidate m c q → q.priority <ℤ r.priority) later
      → rule_of (earlier ++ (r ∷ later)) m c ≡ Some r
  last_of_greatest [] later r i a l = taken (candidate r) r (rule_of later m c) (is_candidate r i) (later_is_less later r.priority l)
  last_of_greatest (q ∷ qs) later r i a l =
      let Q : Rule → Type 0 = λ q. IsCandidate m c q → q.priority ≤ℤ r.priority in
      ap (better (candidate q) q) (last_of_greatest qs later r i (All-tail Q q qs a) l) ∙ passed_over (candidate q) q r (λ e. All-head Q q qs a (candidate_is q e))

  pub none_without : (rs : List Rule) → All (λ q. ¬ (IsCandidate m c q)) rs → rule_of rs m c ≡ None
  none_without [] a = refl
  none_without (r ∷ rs) a =
      let Q : Rule → Type 0 = λ q. ¬ (IsCandidate m c q) in
      ap (better (candidate r) r) (none_without rs (All-tail Q r rs a)) ∙ not_taken (candidate r) r (λ e. All-head Q r rs a (candidate_is r e))
