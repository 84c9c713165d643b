-- The stylesheets in which one spot or another is marked have the same symbols: they mention the same names and namespaces.
use Rattle.std.proofs.Common.{◌≡◌, ◌⊎◌, inl, inr, ℕ, zero, suc, ◌+◌, ◌<◌, ◌≤◌, List, [], ◌∷◌, ◌++◌, refl, ap, sym, subst, map, flat_map, length, Bool, true, false, cond, Contains, arith}
use Rattle.tc_model.specs.Grammars.{Grammar}
use Rattle.tc_model.specs.Sheets.{Body, no_instruction, put_text, put_element, copy, apply, call, for_each, value, value_of_self, choose, Branches, otherwise, branch, Path, Test, MatchPattern, Rule, Sheet}
use Rattle.tc_model.specs.Symbols.{Mention, a_name, mention_cmp, mentions_of_name, mentions_of_test, in_path, in_test, in_pattern, in_body, in_branches, with_namespace, mentions_in_grammar, mentions_in_sheet, mentions_in, in_order, symbols_of}
use Rattle.tc_alpha.proofs.Orders.{total, same}
use Rattle.tc_alpha.proofs.Members.{Has, has_from_contains, has_front, has_back, has_either, in_order_rises, has_from_in_order, in_order_has, is_in_order}
use Rattle.tc_dead.specs.Spots.{Spot, a_rule, a_named_body, a_branch, same_spot, is_nothing, branches_of, branches_in, eaches_of, eaches_in, NumberedRule, NumberedBody, rules_from, bodies_from, branches_of_all, eaches_of_all, rule_bodies, numbered_rules, numbered_bodies, up_to, spots_of}
use Rattle.tc_dead.specs.Marked.{mark_name, wrapper_name, begun, marked_before, marked_branches, marked_rule, marked_body, marked_at, plain_schema}
use Rattle.tc_dead.proofs.NumberedSpots.{same_spots}
use Rattle.tc_dead.proofs.SameParts.{nothing_so}

abbrev body_mentions : Body → List Mention
body_mentions b = in_body mentions_of_test mentions_of_name b

abbrev branch_mentions : Branches → List Mention
branch_mentions x = in_branches mentions_of_test mentions_of_name x

abbrev path_mentions : Path → List Mention
path_mentions w = in_path mentions_of_test mentions_of_name w

abbrev test_mentions : Test → List Mention
test_mentions t = in_test mentions_of_test mentions_of_name t

abbrev pattern_mentions : MatchPattern → List Mention
pattern_mentions p = in_pattern mentions_of_test mentions_of_name p

abbrev rule_mentions : Rule → List Mention
rule_mentions r = pattern_mentions r.pattern ++ body_mentions r.body

abbrev the_mark : Mention
the_mark = a_name mark_name

-- what the first holds, the second holds, but for the mark
abbrev IsKept : List Mention → List Mention → Type 0
IsKept xs ys = (z : Mention) → Has xs z → Has ys z ⊎ (the_mark ≡ z)

kept_itself : (xs : List Mention) → IsKept xs xs
kept_itself xs z h = inl h

kept_append : (xs us ys vs : List Mention) → IsKept xs us → IsKept ys vs → IsKept (xs ++ ys) (us ++ vs)
kept_append xs us ys vs f g z h = by (has_either xs ys z h)
  where
    front : Has us z ⊎ (the_mark ≡ z) → Has (us ++ vs) z ⊎ (the_mark ≡ z)
    front (inl a) = inl (has_front us vs z a)
    front (inr e) = inr e

    back : Has vs z ⊎ (the_mark ≡ z) → Has (us ++ vs) z ⊎ (the_mark ≡ z)
    back (inl a) = inl (has_back us vs z a)
    back (inr e) = inr e

    by : Has xs z ⊎ Has ys z → Has (us ++ vs) z ⊎ (the_mark ≡ z)
    by (inl a) = front (f z a)
    by (inr b) = back (g z b)

kept_begun : (a b : Bool) (c d : Body) → IsKept (body_mentions c) (body_mentions d) → IsKept (body_mentions (begun a c)) (body_mentions (begun b d))
kept_begun a b c d f z h = further b (before a h)
  where
    before : (a : Bool) → Has (body_mentions (begun a c)) z → Has (body_mentions d) z ⊎ (the_mark ≡ z)
    before true (inl e) = inr e
    before true (inr (inl e)) = inr e
    before true (inr (inr h)) = f z h
    before false h = f z h

    further : (b : Bool) → Has (body_mentions d) z ⊎ (the_mark ≡ z) → Has (body_mentions (begun b d)) z ⊎ (the_mark ≡ z)
    further true (inl h) = inl (inr (inr h))
    further true (inr e) = inr e
    further false h = h

kept_chosen : (y : Bool) (c d : Body) → IsKept (body_mentions c) (body_mentions d) → IsKept (body_mentions (cond y no_instruction c)) (body_mentions (cond y no_instruction d))
kept_chosen true c d f = kept_itself []
kept_chosen false c d f = f

module _ (p q : Spot) where
  mutual
    kept_before : (n e : ℕ) (b r t : Body) → IsKept (body_mentions r) (body_mentions t) → IsKept (body_mentions (marked_before p n e b r)) (body_mentions (marked_before q n e b t))
    kept_before n e no_instruction r t f = f
    kept_before n e (put_text x b) r t f = kept_before n e b r t f
    kept_before n e (put_element a i b) r t f =
        kept_before n e i (marked_before p (n + branches_of i) (e + eaches_of i) b r) (marked_before q (n + branches_of i) (e + eaches_of i) b t) (kept_before (n + branches_of i) (e + eaches_of i) b r t f)
    kept_before n e (copy i b) r t f =
        let m = body_mentions (marked_before p n e i no_instruction) in
        let k = body_mentions (marked_before q n e i no_instruction) in
        let x = body_mentions (marked_before p (n + branches_of i) (e + eaches_of i) b r) in
        let y = body_mentions (marked_before q (n + branches_of i) (e + eaches_of i) b t) in
        let inner = kept_append m k [] [] (kept_before n e i no_instruction no_instruction (kept_itself [])) (kept_itself []) in
        kept_append (a_name wrapper_name ∷ []) (a_name wrapper_name ∷ []) ((m ++ []) ++ x) ((k ++ []) ++ y) (kept_itself (a_name wrapper_name ∷ [])) (kept_append (m ++ []) (k ++ []) x y inner (kept_before (n + branches_of i) (e + eaches_of i) b r t f))
    kept_before n e (apply w m b) r t f =
        kept_append (path_mentions w) (path_mentions w) (body_mentions (marked_before p n e b r)) (body_mentions (marked_before q n e b t)) (kept_itself (path_mentions w)) (kept_before n e b r t f)
    kept_before n e (call k b) r t f = kept_before n e b r t f
    kept_before n e (value w b) r t f =
        kept_append (path_mentions w) (path_mentions w) (body_mentions (marked_before p n e b r)) (body_mentions (marked_before q n e b t)) (kept_itself (path_mentions w)) (kept_before n e b r t f)
    kept_before n e (value_of_self b) r t f = kept_before n e b r t f
    kept_before n e (choose x b) r t f =
        kept_append (branch_mentions (marked_branches p n e x)) (branch_mentions (marked_branches q n e x)) (body_mentions (marked_before p (n + branches_in x) (e + eaches_in x) b r))
        (body_mentions (marked_before q (n + branches_in x) (e + eaches_in x) b t)) (kept_branches n e x) (kept_before (n + branches_in x) (e + eaches_in x) b r t f)
    kept_before n e (for_each k w i b) r t f =
        let m = body_mentions (marked_before p n (e + 1) i no_instruction) in
        let l = body_mentions (marked_before q n (e + 1) i no_instruction) in
        let x = body_mentions (marked_before p (n + branches_of i) (e + 1 + eaches_of i) b r) in
        let y = body_mentions (marked_before q (n + branches_of i) (e + 1 + eaches_of i) b t) in
        kept_append (path_mentions w) (path_mentions w) (m ++ x) (l ++ y) (kept_itself (path_mentions w))
        (kept_append m l x y (kept_before n (e + 1) i no_instruction no_instruction (kept_itself [])) (kept_before (n + branches_of i) (e + 1 + eaches_of i) b r t f))

    kept_branches : (n e : ℕ) (x : Branches) → IsKept (branch_mentions (marked_branches p n e x)) (branch_mentions (marked_branches q n e x))
    kept_branches n e (otherwise b) =
        kept_chosen (is_nothing b) (begun (same_spot p (a_branch n)) (marked_before p (n + 1) e b no_instruction)) (begun (same_spot q (a_branch n)) (marked_before q (n + 1) e b no_instruction))
        (kept_begun (same_spot p (a_branch n)) (same_spot q (a_branch n)) (marked_before p (n + 1) e b no_instruction) (marked_before q (n + 1) e b no_instruction) (kept_before (n + 1) e b no_instruction no_instruction (kept_itself [])))
    kept_branches n e (branch u b x) =
        let c = begun (same_spot p (a_branch n)) (marked_before p (n + 1) e b no_instruction) in
        let d = begun (same_spot q (a_branch n)) (marked_before q (n + 1) e b no_instruction) in
        let y = branch_mentions (marked_branches p (n + 1 + branches_of b) (e + eaches_of b) x) in
        let z = branch_mentions (marked_branches q (n + 1 + branches_of b) (e + eaches_of b) x) in
        kept_append (test_mentions u) (test_mentions u) (body_mentions c ++ y) (body_mentions d ++ z) (kept_itself (test_mentions u))
        (kept_append (body_mentions c) (body_mentions d) y z
        (kept_begun (same_spot p (a_branch n)) (same_spot q (a_branch n)) (marked_before p (n + 1) e b no_instruction) (marked_before q (n + 1) e b no_instruction) (kept_before (n + 1) e b no_instruction no_instruction (kept_itself [])))
        (kept_branches (n + 1 + branches_of b) (e + eaches_of b) x))

  kept_rules : (rs : List NumberedRule) → IsKept (flat_map rule_mentions (map (marked_rule p) rs)) (flat_map rule_mentions (map (marked_rule q) rs))
  kept_rules [] = kept_itself []
  kept_rules (r ∷ rs) =
      let c = begun (same_spot p (a_rule r.number)) (marked_before p r.branches r.eaches r.rule.body no_instruction) in
      let d = begun (same_spot q (a_rule r.number)) (marked_before q r.branches r.eaches r.rule.body no_instruction) in
      kept_append (pattern_mentions r.rule.pattern ++ body_mentions c) (pattern_mentions r.rule.pattern ++ body_mentions d) (flat_map rule_mentions (map (marked_rule p) rs)) (flat_map rule_mentions (map (marked_rule q) rs))
      (kept_append (pattern_mentions r.rule.pattern) (pattern_mentions r.rule.pattern) (body_mentions c) (body_mentions d) (kept_itself (pattern_mentions r.rule.pattern))
      (kept_begun (same_spot p (a_rule r.number)) (same_spot q (a_rule r.number)) (marked_before p r.branches r.eaches r.rule.body no_instruction) (marked_before q r.branches r.eaches r.rule.body no_instruction)
      (kept_before r.branches r.eaches r.rule.body no_instruction no_instruction (kept_itself []))))
      (kept_rules rs)

  kept_named : (bs : List NumberedBody) → IsKept (flat_map body_mentions (map (marked_body p) bs)) (flat_map body_mentions (map (marked_body q) bs))
  kept_named [] = kept_itself []
  kept_named (b ∷ bs) =
      let c = begun (same_spot p (a_named_body b.number)) (marked_before p b.branches b.eaches b.body no_instruction) in
      let d = begun (same_spot q (a_named_body b.number)) (marked_before q b.branches b.eaches b.body no_instruction) in
      kept_append (body_mentions c) (body_mentions d) (flat_map body_mentions (map (marked_body p) bs)) (flat_map body_mentions (map (marked_body q) bs))
      (kept_begun (same_spot p (a_named_body b.number)) (same_spot q (a_named_body b.number)) (marked_before p b.branches b.eaches b.body no_instruction) (marked_before q b.branches b.eaches b.body no_instruction)
      (kept_before b.branches b.eaches b.body no_instruction no_instruction (kept_itself [])))
      (kept_named bs)

  pub kept_sheet : (s : Sheet) → IsKept (mentions_in_sheet (marked_at p s)) (mentions_in_sheet (marked_at q s))
  kept_sheet s =
      kept_append (flat_map rule_mentions (map (marked_rule p) (numbered_rules s))) (flat_map rule_mentions (map (marked_rule q) (numbered_rules s)))
      (flat_map body_mentions (map (marked_body p) (numbered_bodies s))) (flat_map body_mentions (map (marked_body q) (numbered_bodies s)))
      (kept_rules (numbered_rules s)) (kept_named (numbered_bodies s))

-- where the spot is one of the stylesheet, the mark is mentioned

has_mark_begun : (is_it : Bool) (b : Body) → is_it ≡ true → Has (body_mentions (begun is_it b)) the_mark
has_mark_begun is_it b e = subst (λ z. Has (body_mentions (begun z b)) the_mark) (sym e) (inl refl)

has_begun : (is_it : Bool) (b : Body) (z : Mention) → Has (body_mentions b) z → Has (body_mentions (begun is_it b)) z
has_begun true b z h = inr (inr h)
has_begun false b z h = h

low_or_high : (i n : ℕ) → (i < n) ⊎ (n ≤ i)
low_or_high i zero = inr (omega arith)
low_or_high zero (suc n) = inl (omega arith)
low_or_high (suc i) (suc n) = by (low_or_high i n)
  where
    by : (i < n) ⊎ (n ≤ i) → (suc i < suc n) ⊎ (suc n ≤ suc i)
    by (inl h) = inl (omega arith)
    by (inr h) = inr (omega arith)

-- a number is among the first so many, or among those after them
two_parts : {X : Type 0} (i n a b : ℕ) → n ≤ i → i < n + (a + b) → (i < n + a → X) → (n + a ≤ i → i < n + a + b → X) → X
two_parts {X} i n a b l h f g = by (low_or_high i (n + a))
  where
    by : (i < n + a) ⊎ (n + a ≤ i) → X
    by (inl k) = f k
    by (inr k) = g k (omega arith)

-- it is the first, or one of those after it
first_or_later : {X : Type 0} (i n : ℕ) → n ≤ i → (i ≡ n → X) → (n + 1 ≤ i → X) → X
first_or_later {X} i n l f g = by (low_or_high i (n + 1))
  where
    by : (i < n + 1) ⊎ (n + 1 ≤ i) → X
    by (inl k) = f (omega arith)
    by (inr k) = g k

nothing_in_none : (b : Body) → is_nothing b ≡ true → branches_of b ≡ 0
nothing_in_none b e = ap branches_of (nothing_so b e)

module _ (q : Spot) where
  has_rest : (n e : ℕ) (b rest : Body) (z : Mention) → Has (body_mentions rest) z → Has (body_mentions (marked_before q n e b rest)) z
  has_rest n e no_instruction rest z h = h
  has_rest n e (put_text x b) rest z h = has_rest n e b rest z h
  has_rest n e (put_element a o b) rest z h = has_rest n e o (marked_before q (n + branches_of o) (e + eaches_of o) b rest) z (has_rest (n + branches_of o) (e + eaches_of o) b rest z h)
  has_rest n e (copy o b) rest z h =
      inr (has_back (body_mentions (marked_before q n e o no_instruction) ++ []) (body_mentions (marked_before q (n + branches_of o) (e + eaches_of o) b rest)) z (has_rest (n + branches_of o) (e + eaches_of o) b rest z h))
  has_rest n e (apply w m b) rest z h = has_back (path_mentions w) (body_mentions (marked_before q n e b rest)) z (has_rest n e b rest z h)
  has_rest n e (call k b) rest z h = has_rest n e b rest z h
  has_rest n e (value w b) rest z h = has_back (path_mentions w) (body_mentions (marked_before q n e b rest)) z (has_rest n e b rest z h)
  has_rest n e (value_of_self b) rest z h = has_rest n e b rest z h
  has_rest n e (choose x b) rest z h =
      has_back (branch_mentions (marked_branches q n e x)) (body_mentions (marked_before q (n + branches_in x) (e + eaches_in x) b rest)) z (has_rest (n + branches_in x) (e + eaches_in x) b rest z h)
  has_rest n e (for_each k w o b) rest z h =
      let later = body_mentions (marked_before q (n + branches_of o) (e + 1 + eaches_of o) b rest) in
      has_back (path_mentions w) (body_mentions (marked_before q n (e + 1) o no_instruction) ++ later) z
      (has_back (body_mentions (marked_before q n (e + 1) o no_instruction)) later z (has_rest (n + branches_of o) (e + 1 + eaches_of o) b rest z h))

  in_head : (r : NumberedRule) (rs : List NumberedRule) (z : Mention) → Has (body_mentions (marked_rule q r).body) z → Has (flat_map rule_mentions (map (marked_rule q) (r ∷ rs))) z
  in_head r rs z h =
      has_front (rule_mentions (marked_rule q r)) (flat_map rule_mentions (map (marked_rule q) rs)) z (has_back (pattern_mentions r.rule.pattern) (body_mentions (marked_rule q r).body) z h)

  in_tail : (r : NumberedRule) (rs : List NumberedRule) (z : Mention) → Has (flat_map rule_mentions (map (marked_rule q) rs)) z → Has (flat_map rule_mentions (map (marked_rule q) (r ∷ rs))) z
  in_tail r rs z h = has_back (rule_mentions (marked_rule q r)) (flat_map rule_mentions (map (marked_rule q) rs)) z h

  in_first : (b : NumberedBody) (bs : List NumberedBody) (z : Mention) → Has (body_mentions (marked_body q b)) z → Has (flat_map body_mentions (map (marked_body q) (b ∷ bs))) z
  in_first b bs z h = has_front (body_mentions (marked_body q b)) (flat_map body_mentions (map (marked_body q) bs)) z h

  in_others : (b : NumberedBody) (bs : List NumberedBody) (z : Mention) → Has (flat_map body_mentions (map (marked_body q) bs)) z → Has (flat_map body_mentions (map (marked_body q) (b ∷ bs))) z
  in_others b bs z h = has_back (body_mentions (marked_body q b)) (flat_map body_mentions (map (marked_body q) bs)) z h

-- a rule
marks_rule : (i k n e : ℕ) (rs : List Rule) → k ≤ i → i < k + length rs → Has (flat_map rule_mentions (map (marked_rule (a_rule i)) (rules_from k n e rs))) the_mark
marks_rule i k n e [] l h = absurd (omega arith)
marks_rule i k n e (r ∷ rs) l h =
    let x : NumberedRule = record { number = k; branches = n; eaches = e; rule = r } in
    let xs = rules_from (k + 1) (n + branches_of r.body) (e + eaches_of r.body) rs in
    first_or_later i k l
    (λ f. in_head (a_rule i) x xs the_mark (has_mark_begun (same_spot (a_rule i) (a_rule k)) (marked_before (a_rule i) n e r.body no_instruction) (same_spots (a_rule i) (a_rule k) (ap a_rule f))))
    (λ g. in_tail (a_rule i) x xs the_mark (marks_rule i (k + 1) (n + branches_of r.body) (e + eaches_of r.body) rs g (omega arith)))

-- a named body
marks_named : (i k n e : ℕ) (bs : List Body) → k ≤ i → i < k + length bs → Has (flat_map body_mentions (map (marked_body (a_named_body i)) (bodies_from k n e bs))) the_mark
marks_named i k n e [] l h = absurd (omega arith)
marks_named i k n e (b ∷ bs) l h =
    let x : NumberedBody = record { number = k; branches = n; eaches = e; body = b } in
    let xs = bodies_from (k + 1) (n + branches_of b) (e + eaches_of b) bs in
    first_or_later i k l
    (λ f. in_first (a_named_body i) x xs the_mark
    (has_mark_begun (same_spot (a_named_body i) (a_named_body k)) (marked_before (a_named_body i) n e b no_instruction) (same_spots (a_named_body i) (a_named_body k) (ap a_named_body f))))
    (λ g. in_others (a_named_body i) x xs the_mark (marks_named i (k + 1) (n + branches_of b) (e + eaches_of b) bs g (omega arith)))

-- a branch
module _ (i : ℕ) where
  abbrev it : Spot
  it = a_branch i

  -- the body of a branch of this number, by those inside it
  marks_begun : (n e : ℕ) (b : Body) → n ≤ i → (n + 1 ≤ i → Has (body_mentions (marked_before it (n + 1) e b no_instruction)) the_mark) → Has (body_mentions (begun (same_spot it (a_branch n)) (marked_before it (n + 1) e b no_instruction))) the_mark
  marks_begun n e b l f =
      let m = marked_before it (n + 1) e b no_instruction in
      first_or_later i n l (λ g. has_mark_begun (same_spot it (a_branch n)) m (same_spots it (a_branch n) (ap a_branch g))) (λ g. has_begun (same_spot it (a_branch n)) m the_mark (f g))

  marks_last : (n e : ℕ) (b : Body) (y : Bool) → is_nothing b ≡ y → n ≤ i → i < n + (cond y 0 1 + branches_of b)
      → (n + 1 ≤ i → i < n + 1 + branches_of b → Has (body_mentions (marked_before it (n + 1) e b no_instruction)) the_mark)
      → Has (body_mentions (cond y no_instruction (begun (same_spot it (a_branch n)) (marked_before it (n + 1) e b no_instruction)))) the_mark
  marks_last n e b true so l h f = let none : branches_of b ≡ 0 = nothing_in_none b so in absurd (omega arith)
  marks_last n e b false so l h f = marks_begun n e b l (λ g. f g (omega arith))

  mutual
    marks_branch : (n e : ℕ) (b rest : Body) → n ≤ i → i < n + branches_of b → Has (body_mentions (marked_before it n e b rest)) the_mark
    marks_branch n e no_instruction rest l h = absurd (omega arith)
    marks_branch n e (put_text x b) rest l h = marks_branch n e b rest l h
    marks_branch n e (put_element a o b) rest l h =
        let later = marked_before it (n + branches_of o) (e + eaches_of o) b rest in
        two_parts i n (branches_of o) (branches_of b) l h (λ k. marks_branch n e o later l k)
        (λ k j. has_rest it n e o later the_mark (marks_branch (n + branches_of o) (e + eaches_of o) b rest k j))
    marks_branch n e (copy o b) rest l h =
        let m = body_mentions (marked_before it n e o no_instruction) in
        let later = body_mentions (marked_before it (n + branches_of o) (e + eaches_of o) b rest) in
        two_parts i n (branches_of o) (branches_of b) l h (λ k. inr (has_front (m ++ []) later the_mark (has_front m [] the_mark (marks_branch n e o no_instruction l k))))
        (λ k j. inr (has_back (m ++ []) later the_mark (marks_branch (n + branches_of o) (e + eaches_of o) b rest k j)))
    marks_branch n e (apply w m b) rest l h = has_back (path_mentions w) (body_mentions (marked_before it n e b rest)) the_mark (marks_branch n e b rest l h)
    marks_branch n e (call k b) rest l h = marks_branch n e b rest l h
    marks_branch n e (value w b) rest l h = has_back (path_mentions w) (body_mentions (marked_before it n e b rest)) the_mark (marks_branch n e b rest l h)
    marks_branch n e (value_of_self b) rest l h = marks_branch n e b rest l h
    marks_branch n e (choose x b) rest l h =
        let m = branch_mentions (marked_branches it n e x) in
        let later = body_mentions (marked_before it (n + branches_in x) (e + eaches_in x) b rest) in
        two_parts i n (branches_in x) (branches_of b) l h (λ k. has_front m later the_mark (marks_branches n e x l k)) (λ k j. has_back m later the_mark (marks_branch (n + branches_in x) (e + eaches_in x) b rest k j))
    marks_branch n e (for_each y w o b) rest l h =
        let m = body_mentions (marked_before it n (e + 1) o no_instruction) in
        let later = body_mentions (marked_before it (n + branches_of o) (e + 1 + eaches_of o) b rest) in
        two_parts i n (branches_of o) (branches_of b) l h (λ k. has_back (path_mentions w) (m ++ later) the_mark (has_front m later the_mark (marks_branch n (e + 1) o no_instruction l k)))
        (λ k j. has_back (path_mentions w) (m ++ later) the_mark (has_back m later the_mark (marks_branch (n + branches_of o) (e + 1 + eaches_of o) b rest k j)))

    marks_branches : (n e : ℕ) (x : Branches) → n ≤ i → i < n + branches_in x → Has (branch_mentions (marked_branches it n e x)) the_mark
    marks_branches n e (otherwise b) l h = marks_last n e b (is_nothing b) refl l h (λ g k. marks_branch (n + 1) e b no_instruction g k)
    marks_branches n e (branch u b x) l h =
        let m = body_mentions (begun (same_spot it (a_branch n)) (marked_before it (n + 1) e b no_instruction)) in
        let later = branch_mentions (marked_branches it (n + 1 + branches_of b) (e + eaches_of b) x) in
        two_parts i n (1 + branches_of b) (branches_in x) l h
        (λ k. has_back (test_mentions u) (m ++ later) the_mark (has_front m later the_mark (marks_begun n e b l (λ g. marks_branch (n + 1) e b no_instruction g (omega arith)))))
        (λ k j. has_back (test_mentions u) (m ++ later) the_mark (has_back m later the_mark (marks_branches (n + 1 + branches_of b) (e + eaches_of b) x (omega arith) (omega arith))))

  marks_in_rules : (k n e : ℕ) (rs : List Rule) → n ≤ i → i < n + branches_of_all (map (λ r. r.body) rs) → Has (flat_map rule_mentions (map (marked_rule it) (rules_from k n e rs))) the_mark
  marks_in_rules k n e [] l h = absurd (omega arith)
  marks_in_rules k n e (r ∷ rs) l h =
      let x : NumberedRule = record { number = k; branches = n; eaches = e; rule = r } in
      let xs = rules_from (k + 1) (n + branches_of r.body) (e + eaches_of r.body) rs in
      two_parts i n (branches_of r.body) (branches_of_all (map (λ r. r.body) rs)) l h
      (λ f. in_head it x xs the_mark (has_begun (same_spot it (a_rule k)) (marked_before it n e r.body no_instruction) the_mark (marks_branch n e r.body no_instruction l f)))
      (λ f g. in_tail it x xs the_mark (marks_in_rules (k + 1) (n + branches_of r.body) (e + eaches_of r.body) rs f g))

  marks_in_named : (k n e : ℕ) (bs : List Body) → n ≤ i → i < n + branches_of_all bs → Has (flat_map body_mentions (map (marked_body it) (bodies_from k n e bs))) the_mark
  marks_in_named k n e [] l h = absurd (omega arith)
  marks_in_named k n e (b ∷ bs) l h =
      let x : NumberedBody = record { number = k; branches = n; eaches = e; body = b } in
      let xs = bodies_from (k + 1) (n + branches_of b) (e + eaches_of b) bs in
      two_parts i n (branches_of b) (branches_of_all bs) l h
      (λ f. in_first it x xs the_mark (has_begun (same_spot it (a_named_body k)) (marked_before it n e b no_instruction) the_mark (marks_branch n e b no_instruction l f)))
      (λ f g. in_others it x xs the_mark (marks_in_named (k + 1) (n + branches_of b) (e + eaches_of b) bs f g))

-- which numbers a kind of spots has
record IsKind (kind : ℕ → Spot) (n : ℕ) (p : Spot) : Type 0 where
  number : ℕ
  is : kind number ≡ p
  from : 1 ≤ number
  to : number ≤ n

map_append : (kind : ℕ → Spot) (xs ys : List ℕ) → map kind (xs ++ ys) ≡ map kind xs ++ map kind ys
map_append kind [] ys = refl
map_append kind (x ∷ xs) ys = ap (λ z. kind x ∷ z) (map_append kind xs ys)

of_kind : (kind : ℕ → Spot) (n : ℕ) (p : Spot) → Has (map kind (up_to n)) p → IsKind kind n p
of_kind kind zero p h = absurd h
of_kind kind (suc n) p h = by (has_either (map kind (up_to n)) (kind (n + 1) ∷ []) p (subst (λ z. Has z p) (map_append kind (up_to n) ((n + 1) ∷ [])) h)) (of_kind kind n p)
  where
    by : Has (map kind (up_to n)) p ⊎ Has (kind (n + 1) ∷ []) p → (Has (map kind (up_to n)) p → IsKind kind n p) → IsKind kind (suc n) p
    by (inl a) f = let x = f a in let below : x.number ≤ n = x.to in record { number = x.number; is = x.is; from = x.from; to = omega arith }
    by (inr (inl e)) f = record { number = n + 1; is = e; from = omega arith; to = omega arith }
    by (inr (inr a)) f = absurd a

module _ (s : Sheet) where
  abbrev in_rules : ℕ
  in_rules = branches_of_all (rule_bodies s)

  rule_has : (p : Spot) → Has (flat_map rule_mentions (marked_at p s).rules) the_mark → Has (mentions_in_sheet (marked_at p s)) the_mark
  rule_has p h = has_front (flat_map rule_mentions (marked_at p s).rules) (flat_map body_mentions (marked_at p s).named) the_mark h

  named_has : (p : Spot) → Has (flat_map body_mentions (marked_at p s).named) the_mark → Has (mentions_in_sheet (marked_at p s)) the_mark
  named_has p h = has_back (flat_map rule_mentions (marked_at p s).rules) (flat_map body_mentions (marked_at p s).named) the_mark h

  marks_one_rule : (p : Spot) → IsKind a_rule (length s.rules) p → Has (mentions_in_sheet (marked_at p s)) the_mark
  marks_one_rule p k =
      let most : k.number ≤ length s.rules = k.to in
      subst (λ z. Has (mentions_in_sheet (marked_at z s)) the_mark) k.is (rule_has (a_rule k.number) (marks_rule k.number 1 1 0 s.rules k.from (omega arith)))

  marks_one_named : (p : Spot) → IsKind a_named_body (length s.named) p → Has (mentions_in_sheet (marked_at p s)) the_mark
  marks_one_named p k =
      let most : k.number ≤ length s.named = k.to in
      subst (λ z. Has (mentions_in_sheet (marked_at z s)) the_mark) k.is (named_has (a_named_body k.number) (marks_named k.number 1 (1 + in_rules) (eaches_of_all (rule_bodies s)) s.named k.from (omega arith)))

  marks_one_branch : (p : Spot) → IsKind a_branch (in_rules + branches_of_all s.named) p → Has (mentions_in_sheet (marked_at p s)) the_mark
  marks_one_branch p k =
      let most : k.number ≤ in_rules + branches_of_all s.named = k.to in
      let within : k.number < 1 + (in_rules + branches_of_all s.named) = omega arith in
      subst (λ z. Has (mentions_in_sheet (marked_at z s)) the_mark) k.is
      (two_parts k.number 1 in_rules (branches_of_all s.named) k.from within (λ f. rule_has (a_branch k.number) (marks_in_rules k.number 1 1 0 s.rules k.from f))
      (λ f g. named_has (a_branch k.number) (marks_in_named k.number 1 (1 + in_rules) (eaches_of_all (rule_bodies s)) s.named f g)))

  marks : (p : Spot) → Contains (spots_of s) p → Has (mentions_in_sheet (marked_at p s)) the_mark
  marks p h = by (has_either (map a_rule (up_to (length s.rules))) others p (has_from_contains (spots_of s) p h))
    where
      named : List Spot
      named = map a_named_body (up_to (length s.named))

      last : List Spot
      last = map a_branch (up_to (in_rules + branches_of_all s.named))

      others : List Spot
      others = named ++ last

      by_other : Has named p ⊎ Has last p → Has (mentions_in_sheet (marked_at p s)) the_mark
      by_other (inl a) = marks_one_named p (of_kind a_named_body (length s.named) p a)
      by_other (inr a) = marks_one_branch p (of_kind a_branch (in_rules + branches_of_all s.named) p a)

      by : Has (map a_rule (up_to (length s.rules))) p ⊎ Has others p → Has (mentions_in_sheet (marked_at p s)) the_mark
      by (inl a) = marks_one_rule p (of_kind a_rule (length s.rules) p a)
      by (inr a) = by_other (has_either named last p a)

-- what is mentioned, with namespaces
abbrev spread : List Mention → List Mention
spread ms = flat_map with_namespace ms

spread_of : (ms : List Mention) (m z : Mention) → Has ms m → Has (with_namespace m) z → Has (spread ms) z
spread_of [] m z h k = absurd h
spread_of (x ∷ xs) m z (inl e) k = has_front (with_namespace x) (spread xs) z (subst (λ y. Has (with_namespace y) z) (sym e) k)
spread_of (x ∷ xs) m z (inr h) k = has_back (with_namespace x) (spread xs) z (spread_of xs m z h k)

spread_all : (ms ns : List Mention) → ((m : Mention) → Has ms m → Has ns m) → (z : Mention) → Has (spread ms) z → Has (spread ns) z
spread_all [] ns f z h = absurd h
spread_all (m ∷ ms) ns f z h = by (has_either (with_namespace m) (spread ms) z h) (λ k. spread_all ms ns (λ y g. f y (inr g)) z k)
  where
    by : Has (with_namespace m) z ⊎ Has (spread ms) z → (Has (spread ms) z → Has (spread ns) z) → Has (spread ns) z
    by (inl k) g = spread_of ns m z (f m (inl refl)) k
    by (inr k) g = g k

module _ (input : Grammar) (s : Sheet) (p q : Spot) (at : Contains (spots_of s) q) where
  into : (z : Mention) → Has (mentions_in_sheet (marked_at p s)) z → Has (mentions_in_sheet (marked_at q s)) z
  into z h = by (kept_sheet p q s z h)
    where
      by : Has (mentions_in_sheet (marked_at q s)) z ⊎ (the_mark ≡ z) → Has (mentions_in_sheet (marked_at q s)) z
      by (inl a) = a
      by (inr e) = subst (λ y. Has (mentions_in_sheet (marked_at q s)) y) e (marks s q at)

  all_into : (z : Mention) → Has (mentions_in input plain_schema (marked_at p s)) z → Has (mentions_in input plain_schema (marked_at q s)) z
  all_into z h = by (has_either first (second ++ mentions_in_sheet (marked_at p s)) z h)
    where
      first : List Mention
      first = mentions_in_grammar input

      second : List Mention
      second = mentions_in_grammar plain_schema

      by_rest : Has second z ⊎ Has (mentions_in_sheet (marked_at p s)) z → Has (mentions_in input plain_schema (marked_at q s)) z
      by_rest (inl a) = has_back first (second ++ mentions_in_sheet (marked_at q s)) z (has_front second (mentions_in_sheet (marked_at q s)) z a)
      by_rest (inr a) = has_back first (second ++ mentions_in_sheet (marked_at q s)) z (has_back second (mentions_in_sheet (marked_at q s)) z (into z a))

      by : Has first z ⊎ Has (second ++ mentions_in_sheet (marked_at p s)) z → Has (mentions_in input plain_schema (marked_at q s)) z
      by (inl a) = has_front first (second ++ mentions_in_sheet (marked_at q s)) z a
      by (inr a) = by_rest (has_either second (mentions_in_sheet (marked_at p s)) z a)

  spread_into : (z : Mention) → Has (spread (mentions_in input plain_schema (marked_at p s))) z → Has (spread (mentions_in input plain_schema (marked_at q s))) z
  spread_into z h = spread_all (mentions_in input plain_schema (marked_at p s)) (mentions_in input plain_schema (marked_at q s)) all_into z h

pub same_symbols : (input : Grammar) (s : Sheet) (p q : Spot) → Contains (spots_of s) p → Contains (spots_of s) q → symbols_of input plain_schema (marked_at p s) ≡ symbols_of input plain_schema (marked_at q s)
same_symbols input s p q at_p at_q =
    let mine = spread (mentions_in input plain_schema (marked_at p s)) in
    let other = spread (mentions_in input plain_schema (marked_at q s)) in
    is_in_order total same (in_order mention_cmp mine) other (in_order_rises total same mine) (λ z h. spread_into input s p q at_q z (has_from_in_order total same mine z h))
    (λ z h. in_order_has total same mine z (spread_into input s q p at_p z h))
