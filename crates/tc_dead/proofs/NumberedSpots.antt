-- Rules and named bodies with their numbers, and which spots are the same.
use Rattle.std.proofs.Common.{◌≡◌, ℕ, ◌+◌, List, [], ◌∷◌, zero, suc, refl, ap, ◌∙◌, sym, map, Bool, true, false, cond, ◌&&◌, nat_eq, int_lt, Option, Some, None, option_map, slice_get, rules, arith}
use Rattle.std.proofs.lemmas.Bool.{true≢false}
use Rattle.tc_model.specs.Chains.{Chain}
use Rattle.tc_model.specs.Sheets.{Body, Rule, Sheet}
use Rattle.tc_model.specs.Paths.{fits}
use Rattle.tc_model.specs.Meaning.{better, rule_of}
use Rattle.tc_dead.specs.Spots.{Spot, a_rule, a_named_body, a_branch, same_spot, branches_of, eaches_of, NumberedRule, NumberedBody, rules_from, bodies_from, numbered_rules, better_numbered, numbered_rule_of}
use Rattle.tc_dead.specs.Marked.{marked_rule, marked_body}

number_same : (i j : ℕ) → nat_eq i j ≡ true → i ≡ j
number_same i j e = search (rules, arith)

same_number : (i : ℕ) → nat_eq i i ≡ true
same_number i = search (rules, arith)

pub spot_same : (p q : Spot) → same_spot p q ≡ true → p ≡ q
spot_same (a_rule i) (a_rule j) e = ap a_rule (number_same i j e)
spot_same (a_rule i) (a_named_body j) e = absurd (true≢false (sym e))
spot_same (a_rule i) (a_branch j) e = absurd (true≢false (sym e))
spot_same (a_named_body i) (a_rule j) e = absurd (true≢false (sym e))
spot_same (a_named_body i) (a_named_body j) e = ap a_named_body (number_same i j e)
spot_same (a_named_body i) (a_branch j) e = absurd (true≢false (sym e))
spot_same (a_branch i) (a_rule j) e = absurd (true≢false (sym e))
spot_same (a_branch i) (a_named_body j) e = absurd (true≢false (sym e))
spot_same (a_branch i) (a_branch j) e = ap a_branch (number_same i j e)

spot_itself : (p : Spot) → same_spot p p ≡ true
spot_itself (a_rule i) = same_number i
spot_itself (a_named_body i) = same_number i
spot_itself (a_branch i) = same_number i

pub same_spots : (p q : Spot) → p ≡ q → same_spot p q ≡ true
same_spots p q e = ap (λ z. same_spot p z) (sym e) ∙ spot_itself p

-- one or the other of two rules
picked : (f : NumberedRule → Rule) (b : Bool) (r later : NumberedRule) → cond b (Some (f r)) (Some (f later)) ≡ option_map f (cond b (Some r) (Some later))
picked f true r later = refl
picked f false r later = refl

best_rule : (b : Bool) (r : NumberedRule) (o : Option NumberedRule) → better b r.rule (option_map (λ q. q.rule) o) ≡ option_map (λ q. q.rule) (better_numbered b r o)
best_rule true r None = refl
best_rule false r None = refl
best_rule b r (Some later) = picked (λ q. q.rule) (b && int_lt later.rule.priority r.rule.priority) r later

best_marked : (p : Spot) (b : Bool) (r : NumberedRule) (o : Option NumberedRule) → better b (marked_rule p r) (option_map (marked_rule p) o) ≡ option_map (marked_rule p) (better_numbered b r o)
best_marked p true r None = refl
best_marked p false r None = refl
best_marked p b r (Some later) = picked (marked_rule p) (b && int_lt later.rule.priority r.rule.priority) r later

module _ (m : ℕ) (c : Chain) where
  abbrev here : NumberedRule → Bool
  here r = nat_eq r.rule.mode m && fits r.rule.pattern c

  rule_among : (rs : List NumberedRule) → rule_of (map (λ q. q.rule) rs) m c ≡ option_map (λ q. q.rule) (numbered_rule_of rs m c)
  rule_among [] = refl
  rule_among (r ∷ rs) = ap (better (here r) r.rule) (rule_among rs) ∙ best_rule (here r) r (numbered_rule_of rs m c)

  pub marked_among : (p : Spot) (rs : List NumberedRule) → rule_of (map (marked_rule p) rs) m c ≡ option_map (marked_rule p) (numbered_rule_of rs m c)
  marked_among p [] = refl
  marked_among p (r ∷ rs) = ap (better (here r) (marked_rule p r)) (marked_among p rs) ∙ best_marked p (here r) r (numbered_rule_of rs m c)

pub rules_of : (k n e : ℕ) (rs : List Rule) → map (λ q. q.rule) (rules_from k n e rs) ≡ rs
rules_of k n e [] = refl
rules_of k n e (r ∷ rs) = ap (λ z. r ∷ z) (rules_of (k + 1) (n + branches_of r.body) (e + eaches_of r.body) rs)

-- the numbered rule of a node is the rule of the node
pub rule_of_node : (s : Sheet) (m : ℕ) (c : Chain) → rule_of s.rules m c ≡ option_map (λ r. r.rule) (numbered_rule_of (numbered_rules s) m c)
rule_of_node s m c = ap (λ z. rule_of z m c) (sym (rules_of 1 1 0 s.rules)) ∙ rule_among m c (numbered_rules s)

-- a named body with its numbers
pub record IsNamed (bs : List NumberedBody) (k : ℕ) (b : Body) : Type 0 where
  pub it : NumberedBody
  pub at : slice_get bs k ≡ Some it
  pub is : it.body ≡ b

some_same : (b c : Body) → Some b ≡ Some c → b ≡ c
some_same b c e = cc

none_some : (b : Body) (o : Option Body) → o ≡ None → o ≡ Some b → ⊥
none_some b o e f = cc

none_numbered : (b : NumberedBody) (o : Option NumberedBody) → o ≡ None → o ≡ Some b → ⊥
none_numbered b o e f = cc

numbered_same : (b c : NumberedBody) → Some b ≡ Some c → b ≡ c
numbered_same b c e = cc

pub named_at : (i n e : ℕ) (bs : List Body) (k : ℕ) (b : Body) → slice_get bs k ≡ Some b → IsNamed (bodies_from i n e bs) k b
named_at i n e [] k b at = absurd (none_some b (slice_get [] k) refl at)
named_at i n e (x ∷ xs) zero b at = record { it = record { number = i; branches = n; eaches = e; body = x }; at = refl; is = some_same x b at }
named_at i n e (x ∷ xs) (suc k) b at =
    let later = named_at (i + 1) (n + branches_of x) (e + eaches_of x) xs k b at in
    record { it = later.it; at = later.at; is = later.is }

pub marked_named_at : (p : Spot) (bs : List NumberedBody) (k : ℕ) (x : NumberedBody) → slice_get bs k ≡ Some x → slice_get (map (marked_body p) bs) k ≡ Some (marked_body p x)
marked_named_at p [] k x at = absurd (none_numbered x (slice_get [] k) refl at)
marked_named_at p (y ∷ ys) zero x at = ap (λ z. Some (marked_body p z)) (numbered_same y x at)
marked_named_at p (y ∷ ys) (suc k) x at = marked_named_at p ys k x at
