-- A document instantiates spots of the stylesheet alone.
use Rattle.std.proofs.Common.{◌≡◌, ◌≤◌, ◌<◌, ◌+◌, ◌⊎◌, inl, inr, refl, sym, ap, subst, ℕ, zero, suc, List, [], ◌∷◌, ◌++◌, length, map, Contains, Bool, true, false, cond, nat_eq, int_lt, ◌&&◌, Option, Some, None, slice_get, arith}
use Rattle.std.proofs.lemmas.Bool.{cases_lt}
use Rattle.std.proofs.lemmas.List.Elements.{Contains-append_left, Contains-append_right}
use Rattle.std.proofs.lemmas.Option.{slice_get_within, get_or_from_slice_get}
use Rattle.tc_model.specs.Chains.{Chain, Node, whole, one, an_element, a_text, node_of}
use Rattle.tc_model.specs.Sheets.{Body, no_instruction, put_text, put_element, copy, apply, call, for_each, value, value_of_self, choose, Branches, otherwise, branch, Rule, Sheet}
use Rattle.tc_model.specs.Meaning.{built_in}
use Rattle.tc_model.specs.Paths.{fits}
use Rattle.tc_dead.specs.Spots.{Spot, a_rule, a_named_body, a_branch, is_nothing, branches_of, branches_in, NumberedRule, NumberedBody, rules_from, bodies_from, branches_of_all, rule_bodies, numbered_rules, numbered_bodies, up_to, spots_of, better_numbered, numbered_rule_of, eaches_of}
use Rattle.tc_dead.specs.Instantiated.{ByBody, by_apply, by_call, by_called, by_element, by_copy, by_for_each, by_choose, after_text, after_element, after_copy, after_apply, after_call, after_value, after_self, after_choose, after_for_each, ByBranches, is_this, by_this, by_later, is_last, by_last, ByMode, is_rule, by_rule, by_built_in, ByModes, at_this, at_later, ByBodies, on_this, on_later}
use Rattle.tc_dead.specs.Laws.{AreSpots}

-- the numbers from 1 to this one
last_or_not : (n k : ℕ) → k ≤ suc n → (k ≤ n) ⊎ (n + 1 ≡ k)
last_or_not n k h = by (cases_lt n k)
  where
    by : (n < k) ⊎ (k ≤ n) → (k ≤ n) ⊎ (n + 1 ≡ k)
    by (inl after) = inr (omega (arith, h, after))
    by (inr before) = inl before

last_in : (n k : ℕ) → (k ≤ n → Contains (up_to n) k) → (k ≤ n) ⊎ (n + 1 ≡ k) → Contains (up_to (suc n)) k
last_in n k earlier (inl before) = Contains-append_left (up_to n) ((n + 1) ∷ []) k (earlier before)
last_in n k earlier (inr same) = Contains-append_right (up_to n) ((n + 1) ∷ []) k (0, omega arith, same)

in_up_to : (n k : ℕ) → 1 ≤ k → k ≤ n → Contains (up_to n) k
in_up_to zero k l h = absurd (omega (arith, l, h))
in_up_to (suc n) k l h = last_in n k (λ before. in_up_to n k l before) (last_or_not n k h)

in_map : {X Y : Type 0} (f : X → Y) (xs : List X) (x : X) → Contains xs x → Contains (map f xs) (f x)
in_map f [] x (k, l, e) = absurd (omega (arith, l))
in_map f (y ∷ ys) x (zero, l, e) = (0, omega arith, ap f e)
in_map f (y ∷ ys) x (suc k, l, e) = let (j, h, same) = in_map f ys x (k, omega (arith, l), e) in (suc j, omega (arith, h), same)

-- a rule that is chosen is one of them
chosen : (b : Bool) (r : NumberedRule) (rs : List NumberedRule) (o : Option NumberedRule) (x : NumberedRule) → ((y : NumberedRule) → o ≡ Some y → Contains rs y) → better_numbered b r o ≡ Some x → Contains (r ∷ rs) x
chosen true r rs None x later e = (0, omega arith, some_is r x e)
  where
    some_is : (y z : NumberedRule) → Some y ≡ Some z → y ≡ z
    some_is y z e = cc
chosen false r rs None x later e = absurd (cc)
chosen b r rs (Some y) x later e = by (b && int_lt y.rule.priority r.rule.priority) e
  where
    by : (p : Bool) → cond p (Some r) (Some y) ≡ Some x → Contains (r ∷ rs) x
    by true e = (0, omega arith, some_is r x e)
      where
        some_is : (y z : NumberedRule) → Some y ≡ Some z → y ≡ z
        some_is y z e = cc
    by false e = let (k, l, same) = later x e in (suc k, omega (arith, l), same)

rule_in : (m : ℕ) (c : Chain) (rs : List NumberedRule) (x : NumberedRule) → numbered_rule_of rs m c ≡ Some x → Contains rs x
rule_in m c [] x e = absurd (cc)
rule_in m c (r ∷ rs) x e = chosen (nat_eq r.rule.mode m && fits r.rule.pattern c) r rs (numbered_rule_of rs m c) x (λ y f. rule_in m c rs y f) e

body_in : (bs : List NumberedBody) (k : ℕ) (x : NumberedBody) → slice_get bs k ≡ Some x → Contains bs x
body_in bs k x e = (k, slice_get_within bs k x e, get_or_from_slice_get bs k x x e)

-- the numbers of rules and named bodies, and of their branches, lie within those that are counted

record IsWithin (number branches count first last next behind : ℕ) : Type 0 where
  at_least : first ≤ number
  below : number < last
  from : next ≤ branches
  before : branches + count ≤ behind

rule_within : (k n e : ℕ) (rs : List Rule) (x : NumberedRule) → Contains (rules_from k n e rs) x
    → IsWithin x.number x.branches (branches_of x.rule.body) k (k + length rs) n (n + branches_of_all (map (λ r. r.body) rs))
rule_within k n e [] x (i, l, same) = absurd (omega (arith, l))
rule_within k n e (r ∷ rs) x (zero, l, same) =
    subst (λ (y : NumberedRule). IsWithin y.number y.branches (branches_of y.rule.body) k (k + length (r ∷ rs)) n (n + branches_of_all (map (λ q. q.body) (r ∷ rs)))) same
    (record { at_least = omega arith; below = omega arith; from = omega arith; before = omega arith })
rule_within k n e (r ∷ rs) x (suc i, l, same) =
    let w = rule_within (k + 1) (n + branches_of r.body) (e + eaches_of r.body) rs x (i, omega (arith, l), same) in
    record { at_least = omega (arith, w.at_least); below = omega (arith, w.below); from = omega (arith, w.from); before = omega (arith, w.before) }

body_within : (k n e : ℕ) (bs : List Body) (x : NumberedBody) → Contains (bodies_from k n e bs) x
    → IsWithin x.number x.branches (branches_of x.body) k (k + length bs) n (n + branches_of_all bs)
body_within k n e [] x (i, l, same) = absurd (omega (arith, l))
body_within k n e (b ∷ bs) x (zero, l, same) =
    subst (λ (y : NumberedBody). IsWithin y.number y.branches (branches_of y.body) k (k + length (b ∷ bs)) n (n + branches_of_all (b ∷ bs))) same
    (record { at_least = omega arith; below = omega arith; from = omega arith; before = omega arith })
body_within k n e (b ∷ bs) x (suc i, l, same) =
    let w = body_within (k + 1) (n + branches_of b) (e + eaches_of b) bs x (i, omega (arith, l), same) in
    record { at_least = omega (arith, w.at_least); below = omega (arith, w.below); from = omega (arith, w.from); before = omega (arith, w.before) }

no_branch : (m : ℕ) (x : Node) → branches_of (built_in m x) ≡ 0
no_branch m (whole doc) = refl
no_branch m (one (an_element n kids)) = refl
no_branch m (one (a_text s)) = refl

-- an `otherwise` that has instructions counts
counts_last : (b : Body) → is_nothing b ≡ false → branches_in (otherwise b) ≡ 1 + branches_of b
counts_last b e = ap (λ z. cond z 0 1 + branches_of b) e

module _ (s : Sheet) where
  abbrev all_branches : ℕ
  all_branches = branches_of_all (rule_bodies s) + branches_of_all s.named

  rule_spot : (k : ℕ) → 1 ≤ k → k < 1 + length s.rules → Contains (spots_of s) (a_rule k)
  rule_spot k l h =
      Contains-append_left (map a_rule (up_to (length s.rules))) (map a_named_body (up_to (length s.named)) ++ map a_branch (up_to all_branches)) (a_rule k)
      (in_map a_rule (up_to (length s.rules)) k (in_up_to (length s.rules) k l (omega (arith, h))))

  named_spot : (k : ℕ) → 1 ≤ k → k < 1 + length s.named → Contains (spots_of s) (a_named_body k)
  named_spot k l h =
      Contains-append_right (map a_rule (up_to (length s.rules))) (map a_named_body (up_to (length s.named)) ++ map a_branch (up_to all_branches)) (a_named_body k)
      (Contains-append_left (map a_named_body (up_to (length s.named))) (map a_branch (up_to all_branches)) (a_named_body k)
      (in_map a_named_body (up_to (length s.named)) k (in_up_to (length s.named) k l (omega (arith, h)))))

  branch_spot : (k : ℕ) → 1 ≤ k → k ≤ all_branches → Contains (spots_of s) (a_branch k)
  branch_spot k l h =
      Contains-append_right (map a_rule (up_to (length s.rules))) (map a_named_body (up_to (length s.named)) ++ map a_branch (up_to all_branches)) (a_branch k)
      (Contains-append_right (map a_named_body (up_to (length s.named))) (map a_branch (up_to all_branches)) (a_branch k)
      (in_map a_branch (up_to all_branches) k (in_up_to all_branches k l h)))

  -- so many branches from this number on are branches of the stylesheet
  abbrev AreIn : ℕ → ℕ → Type 0
  AreIn n count = (j : ℕ) → j < count → (1 ≤ n + j) × (n + j ≤ all_branches)

  front : (n count more : ℕ) → AreIn n (count + more) → AreIn n count
  front n count more h = λ j l. h j (omega (arith, l))

  back : (n count more : ℕ) → AreIn n (count + more) → AreIn (n + count) more
  back n count more h = λ j l. let (low, high) = h (count + j) (omega (arith, l)) in (omega (arith, low), omega (arith, high))

  rest : (n count : ℕ) → AreIn n (1 + count) → AreIn (n + 1) count
  rest n count h = back n 1 count h

  this : (n count : ℕ) → AreIn n (1 + count) → Contains (spots_of s) (a_branch n)
  this n count h = let (low, high) = h 0 (omega arith) in branch_spot n (omega (arith, low)) (omega (arith, high))

  a_rule_body : (x : NumberedRule) → Contains (numbered_rules s) x → AreIn x.branches (branches_of x.rule.body)
  a_rule_body x c = let w = rule_within 1 1 0 s.rules x c in λ j l. (omega (arith, w.from), omega (arith, w.before, l))

  a_body : (x : NumberedBody) → Contains (numbered_bodies s) x → AreIn x.branches (branches_of x.body)
  a_body x c =
      let w = body_within 1 (1 + branches_of_all (rule_bodies s)) _ s.named x c in
      λ j l. (omega (arith, w.from), omega (arith, w.before, l))

  module _ (p : Spot) where
    abbrev In : Type 0
    In = Contains (spots_of s) p

    is_one : (q : Spot) → p ≡ q → Contains (spots_of s) q → In
    is_one q e c = subst (λ (z : Spot). Contains (spots_of s) z) (sym e) c

    mutual
      body_spots : (n : ℕ) (b : Body) (c : Chain) → AreIn n (branches_of b) → ByBody s p n b c → In
      body_spots n no_instruction c r x = elim x [ ]
      body_spots n (apply q m b) c r (by_apply x) = mode_all m _ x
      body_spots n (call k b) c r (by_call x e q) = let w = body_within 1 (1 + branches_of_all (rule_bodies s)) _ s.named x (body_in (numbered_bodies s) k x e) in is_one _ q (named_spot x.number w.at_least w.below)
      body_spots n (call k b) c r (by_called x e h) = body_spots x.branches x.body c (a_body x (body_in (numbered_bodies s) k x e)) h
      body_spots n (put_element a inner b) c r (by_element h) = body_spots n inner c (front n (branches_of inner) (branches_of b) r) h
      body_spots n (copy inner b) c r (by_copy i h) = body_spots n inner c (front n (branches_of inner) (branches_of b) r) h
      body_spots n (for_each e q inner b) c r (by_for_each h) = bodies_spots n inner _ (front n (branches_of inner) (branches_of b) r) h
      body_spots n (choose x b) c r (by_choose h) = branches_spots n x c (front n (branches_in x) (branches_of b) r) h
      body_spots n (put_text x b) c r (after_text h) = body_spots n b c r h
      body_spots n (put_element a inner b) c r (after_element h) = body_spots (n + branches_of inner) b c (back n (branches_of inner) (branches_of b) r) h
      body_spots n (copy inner b) c r (after_copy h) = body_spots (n + branches_of inner) b c (back n (branches_of inner) (branches_of b) r) h
      body_spots n (apply q m b) c r (after_apply h) = body_spots n b c r h
      body_spots n (call k b) c r (after_call h) = body_spots n b c r h
      body_spots n (value q b) c r (after_value h) = body_spots n b c r h
      body_spots n (value_of_self b) c r (after_self h) = body_spots n b c r h
      body_spots n (choose x b) c r (after_choose h) = body_spots (n + branches_in x) b c (back n (branches_in x) (branches_of b) r) h
      body_spots n (for_each e q inner b) c r (after_for_each h) = body_spots (n + branches_of inner) b c (back n (branches_of inner) (branches_of b) r) h

      branches_spots : (n : ℕ) (x : Branches) (c : Chain) → AreIn n (branches_in x) → ByBranches s p n x c → In
      branches_spots n (branch t b x) c r (is_this e q) = is_one _ q (this n (branches_of b + branches_in x) (λ j l. r j (omega (arith, l))))
      branches_spots n (branch t b x) c r (by_this e h) = body_spots (n + 1) b c (front (n + 1) (branches_of b) (branches_in x) (rest n (branches_of b + branches_in x) (λ j l. r j (omega (arith, l))))) h
      branches_spots n (branch t b x) c r (by_later e h) =
          branches_spots (n + 1 + branches_of b) x c (back (n + 1) (branches_of b) (branches_in x) (rest n (branches_of b + branches_in x) (λ j l. r j (omega (arith, l))))) h
      branches_spots n (otherwise b) c r (is_last e q) = is_one _ q (this n (branches_of b) (subst (AreIn n) (counts_last b e) r))
      branches_spots n (otherwise b) c r (by_last e h) = body_spots (n + 1) b c (rest n (branches_of b) (subst (AreIn n) (counts_last b e) r)) h

      mode_spots : (m : ℕ) (c : Chain) → ByMode s p m c → In
      mode_spots m c (is_rule x e q) = let w = rule_within 1 1 0 s.rules x (rule_in m c (numbered_rules s) x e) in is_one _ q (rule_spot x.number w.at_least w.below)
      mode_spots m c (by_rule x e h) = body_spots x.branches x.rule.body c (a_rule_body x (rule_in m c (numbered_rules s) x e)) h
      mode_spots m c (by_built_in e h) = body_spots 0 (built_in m (node_of c)) c (λ j l. absurd (let none = no_branch m (node_of c) in omega (arith, l, none))) h

      mode_all : (m : ℕ) (cs : List Chain) → ByModes s p m cs → In
      mode_all m [] x = elim x [ ]
      mode_all m (c ∷ cs) (at_this h) = mode_spots m c h
      mode_all m (c ∷ cs) (at_later h) = mode_all m cs h

      bodies_spots : (n : ℕ) (b : Body) (cs : List Chain) → AreIn n (branches_of b) → ByBodies s p n b cs → In
      bodies_spots n b [] r x = elim x [ ]
      bodies_spots n b (c ∷ cs) r (on_this h) = body_spots n b c r h
      bodies_spots n b (c ∷ cs) r (on_later h) = bodies_spots n b cs r h

pub are_spots : AreSpots
are_spots s d p h = mode_spots s p 0 _ h
