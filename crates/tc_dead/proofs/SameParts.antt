-- What a marked stylesheet keeps of the stylesheet: predicates, match patterns and looks; and moves, whatever the spot.
use Rattle.std.proofs.Common.{◌≡◌, ◌⊎◌, inl, inr, ℕ, ◌+◌, List, [], ◌∷◌, ◌++◌, refl, ap, ◌∙◌, sym, map, flat_map, Bool, true, false, cond, append_assoc, append-nil}
use Rattle.std.proofs.lemmas.Bool.{true≢false}
use Rattle.tc_model.specs.Sheets.{Body, no_instruction, put_text, put_element, copy, apply, call, for_each, value, value_of_self, choose, Branches, otherwise, branch, Path, Test, Rule, Sheet}
use Rattle.tc_model.specs.Meaning.{all_children}
use Rattle.tc_model.specs.Numbered.{numbers_below, each_once}
use Rattle.tc_model.specs.SameTests.{same_path, same_test}
use Rattle.tc_model.specs.Numberings.{predicates_in_path, predicates_in_test, predicates_in_pattern, predicates_in_body, predicates_in_branches, predicates_of, same_move, moves_in_body, moves_in_branches, moves_of, looks_in_test, looks_in_body, looks_in_branches, looks_of}
use Rattle.tc_dead.specs.Spots.{Spot, a_rule, a_named_body, a_branch, same_spot, is_nothing, branches_of, branches_in, eaches_of, eaches_in, NumberedRule, NumberedBody, rules_from, bodies_from, branches_of_all, eaches_of_all, rule_bodies, numbered_rules, numbered_bodies}
use Rattle.tc_dead.specs.Marked.{mark_before, begun, marked_before, marked_branches, marked_rule, marked_body, marked_at}
use Rattle.tc_dead.specs.Laws.{patterns_of}

true_or_false : (b : Bool) → (b ≡ true) ⊎ (b ≡ false)
true_or_false true = inl refl
true_or_false false = inr refl

pub nothing_so : (b : Body) → is_nothing b ≡ true → b ≡ no_instruction
nothing_so no_instruction e = refl
nothing_so (put_text x b) e = absurd (true≢false (sym e))
nothing_so (put_element n i b) e = absurd (true≢false (sym e))
nothing_so (copy i b) e = absurd (true≢false (sym e))
nothing_so (apply q m b) e = absurd (true≢false (sym e))
nothing_so (call n b) e = absurd (true≢false (sym e))
nothing_so (value q b) e = absurd (true≢false (sym e))
nothing_so (value_of_self b) e = absurd (true≢false (sym e))
nothing_so (choose x b) e = absurd (true≢false (sym e))
nothing_so (for_each n q i b) e = absurd (true≢false (sym e))

-- what is the same of a body and of one that is put in its place where it has instructions
pub of_last : {X : Type 0} (f : Body → X) (b m : Body) → f m ≡ f b → f (cond (is_nothing b) no_instruction m) ≡ f b
of_last f b m same = by (true_or_false (is_nothing b))
  where
    by : (is_nothing b ≡ true) ⊎ (is_nothing b ≡ false) → f (cond (is_nothing b) no_instruction m) ≡ f b
    by (inl e) = ap (λ z. f (cond z no_instruction m)) e ∙ ap f (sym (nothing_so b e))
    by (inr e) = ap (λ z. f (cond z no_instruction m)) e ∙ same

-- a mark changes nothing
pub of_begun : {X : Type 0} (f : Body → X) → ((b : Body) → f (mark_before b) ≡ f b) → (is_it : Bool) (b : Body) → f (begun is_it b) ≡ f b
of_begun f same true b = same b
of_begun f same false b = refl

module _ {X : Type 0} where
  -- two parts, and what comes later
  two : (a b r : List X) → a ++ (b ++ r) ≡ (a ++ b) ++ r
  two a b r = sym (append_assoc a b r)

  wrapped_two : (a m b r : List X) → m ≡ a ++ [] → (m ++ []) ++ (b ++ r) ≡ (a ++ b) ++ r
  wrapped_two a m b r e = ap (λ z. z ++ (b ++ r)) (append-nil m ∙ (e ∙ append-nil a)) ∙ two a b r

  nested_two : (a m b r : List X) → m ≡ a ++ [] → m ++ (b ++ r) ≡ (a ++ b) ++ r
  nested_two a m b r e = ap (λ z. z ++ (b ++ r)) (e ∙ append-nil a) ∙ two a b r

  three : (q a m b r : List X) → m ≡ a ++ [] → q ++ (m ++ (b ++ r)) ≡ (q ++ (a ++ b)) ++ r
  three q a m b r e = ap (λ z. q ++ z) (nested_two a m b r e) ∙ two q (a ++ b) r

-- the predicates
module _ (p : Spot) where
  mutual
    predicates_before : (n e : ℕ) (b rest : Body) → predicates_in_body (marked_before p n e b rest) ≡ predicates_in_body b ++ predicates_in_body rest
    predicates_before n e no_instruction rest = refl
    predicates_before n e (put_text x b) rest = predicates_before n e b rest
    predicates_before n e (put_element a i b) rest =
        predicates_before n e i (marked_before p (n + branches_of i) (e + eaches_of i) b rest)
        ∙ (ap (λ z. predicates_in_body i ++ z) (predicates_before (n + branches_of i) (e + eaches_of i) b rest) ∙ two (predicates_in_body i) (predicates_in_body b) (predicates_in_body rest))
    predicates_before n e (copy i b) rest =
        let m = predicates_in_body (marked_before p n e i no_instruction) in
        ap (λ z. (m ++ []) ++ z) (predicates_before (n + branches_of i) (e + eaches_of i) b rest)
        ∙ wrapped_two (predicates_in_body i) m (predicates_in_body b) (predicates_in_body rest) (predicates_before n e i no_instruction)
    predicates_before n e (apply q m b) rest = ap (λ z. predicates_in_path q ++ z) (predicates_before n e b rest) ∙ two (predicates_in_path q) (predicates_in_body b) (predicates_in_body rest)
    predicates_before n e (call k b) rest = predicates_before n e b rest
    predicates_before n e (value q b) rest = ap (λ z. predicates_in_path q ++ z) (predicates_before n e b rest) ∙ two (predicates_in_path q) (predicates_in_body b) (predicates_in_body rest)
    predicates_before n e (value_of_self b) rest = predicates_before n e b rest
    predicates_before n e (choose x b) rest =
        ap (λ z. z ++ predicates_in_body (marked_before p (n + branches_in x) (e + eaches_in x) b rest)) (predicates_of_branches n e x)
        ∙ (ap (λ z. predicates_in_branches x ++ z) (predicates_before (n + branches_in x) (e + eaches_in x) b rest) ∙ two (predicates_in_branches x) (predicates_in_body b) (predicates_in_body rest))
    predicates_before n e (for_each k q i b) rest =
        let m = predicates_in_body (marked_before p n (e + 1) i no_instruction) in
        ap (λ z. predicates_in_path q ++ (m ++ z)) (predicates_before (n + branches_of i) (e + 1 + eaches_of i) b rest)
        ∙ three (predicates_in_path q) (predicates_in_body i) m (predicates_in_body b) (predicates_in_body rest) (predicates_before n (e + 1) i no_instruction)

    predicates_of_branches : (n e : ℕ) (x : Branches) → predicates_in_branches (marked_branches p n e x) ≡ predicates_in_branches x
    predicates_of_branches n e (otherwise b) =
        of_last predicates_in_body b (begun (same_spot p (a_branch n)) (marked_before p (n + 1) e b no_instruction))
        (of_begun predicates_in_body (λ z. refl) (same_spot p (a_branch n)) (marked_before p (n + 1) e b no_instruction) ∙ (predicates_before (n + 1) e b no_instruction ∙ append-nil (predicates_in_body b)))
    predicates_of_branches n e (branch t b x) =
        ap (λ z. predicates_in_test t ++ (z ++ predicates_in_branches (marked_branches p (n + 1 + branches_of b) (e + eaches_of b) x)))
        (of_begun predicates_in_body (λ z. refl) (same_spot p (a_branch n)) (marked_before p (n + 1) e b no_instruction) ∙ (predicates_before (n + 1) e b no_instruction ∙ append-nil (predicates_in_body b)))
        ∙ ap (λ z. predicates_in_test t ++ (predicates_in_body b ++ z)) (predicates_of_branches (n + 1 + branches_of b) (e + eaches_of b) x)

  predicates_begun : (is_it : Bool) (n e : ℕ) (b : Body) → predicates_in_body (begun is_it (marked_before p n e b no_instruction)) ≡ predicates_in_body b
  predicates_begun is_it n e b = of_begun predicates_in_body (λ z. refl) is_it (marked_before p n e b no_instruction) ∙ (predicates_before n e b no_instruction ∙ append-nil (predicates_in_body b))

  abbrev of_rule : Rule → List Test
  of_rule r = predicates_in_pattern r.pattern ++ predicates_in_body r.body

  predicates_of_rules : (k n e : ℕ) (rs : List Rule) → flat_map of_rule (map (marked_rule p) (rules_from k n e rs)) ≡ flat_map of_rule rs
  predicates_of_rules k n e [] = refl
  predicates_of_rules k n e (r ∷ rs) =
      ap (λ z. (predicates_in_pattern r.pattern ++ z) ++ flat_map of_rule (map (marked_rule p) (rules_from (k + 1) (n + branches_of r.body) (e + eaches_of r.body) rs))) (predicates_begun (same_spot p (a_rule k)) n e r.body)
      ∙ ap (λ z. of_rule r ++ z) (predicates_of_rules (k + 1) (n + branches_of r.body) (e + eaches_of r.body) rs)

  predicates_of_named : (k n e : ℕ) (bs : List Body) → flat_map predicates_in_body (map (marked_body p) (bodies_from k n e bs)) ≡ flat_map predicates_in_body bs
  predicates_of_named k n e [] = refl
  predicates_of_named k n e (b ∷ bs) =
      ap (λ z. z ++ flat_map predicates_in_body (map (marked_body p) (bodies_from (k + 1) (n + branches_of b) (e + eaches_of b) bs))) (predicates_begun (same_spot p (a_named_body k)) n e b)
      ∙ ap (λ z. predicates_in_body b ++ z) (predicates_of_named (k + 1) (n + branches_of b) (e + eaches_of b) bs)

pub same_predicates : (s : Sheet) (p : Spot) → predicates_of (marked_at p s) ≡ predicates_of s
same_predicates s p = λ i. each_once same_test (predicates_of_rules p 1 1 0 s.rules i ++ predicates_of_named p 1 (1 + branches_of_all (rule_bodies s)) (eaches_of_all (rule_bodies s)) s.named i)

-- the match patterns
patterns_of_rules : (p : Spot) (k n e : ℕ) (rs : List Rule) → map (λ r. r.pattern) (map (marked_rule p) (rules_from k n e rs)) ≡ map (λ r. r.pattern) rs
patterns_of_rules p k n e [] = refl
patterns_of_rules p k n e (r ∷ rs) = ap (λ z. r.pattern ∷ z) (patterns_of_rules p (k + 1) (n + branches_of r.body) (e + eaches_of r.body) rs)

pub same_patterns : (s : Sheet) (p : Spot) → patterns_of (marked_at p s) ≡ patterns_of s
same_patterns s p = patterns_of_rules p 1 1 0 s.rules

-- the looks
module _ (p : Spot) where
  mutual
    looks_before : (n e : ℕ) (b rest : Body) → looks_in_body (marked_before p n e b rest) ≡ looks_in_body b ++ looks_in_body rest
    looks_before n e no_instruction rest = refl
    looks_before n e (put_text x b) rest = looks_before n e b rest
    looks_before n e (put_element a i b) rest =
        looks_before n e i (marked_before p (n + branches_of i) (e + eaches_of i) b rest)
        ∙ (ap (λ z. looks_in_body i ++ z) (looks_before (n + branches_of i) (e + eaches_of i) b rest) ∙ two (looks_in_body i) (looks_in_body b) (looks_in_body rest))
    looks_before n e (copy i b) rest =
        let m = looks_in_body (marked_before p n e i no_instruction) in
        ap (λ z. (m ++ []) ++ z) (looks_before (n + branches_of i) (e + eaches_of i) b rest)
        ∙ wrapped_two (looks_in_body i) m (looks_in_body b) (looks_in_body rest) (looks_before n e i no_instruction)
    looks_before n e (apply q m b) rest = looks_before n e b rest
    looks_before n e (call k b) rest = looks_before n e b rest
    looks_before n e (value q b) rest = ap (λ z. q ∷ z) (looks_before n e b rest)
    looks_before n e (value_of_self b) rest = looks_before n e b rest
    looks_before n e (choose x b) rest =
        ap (λ z. z ++ looks_in_body (marked_before p (n + branches_in x) (e + eaches_in x) b rest)) (looks_of_branches n e x)
        ∙ (ap (λ z. looks_in_branches x ++ z) (looks_before (n + branches_in x) (e + eaches_in x) b rest) ∙ two (looks_in_branches x) (looks_in_body b) (looks_in_body rest))
    looks_before n e (for_each k q i b) rest =
        let m = looks_in_body (marked_before p n (e + 1) i no_instruction) in
        ap (λ z. m ++ z) (looks_before (n + branches_of i) (e + 1 + eaches_of i) b rest)
        ∙ nested_two (looks_in_body i) m (looks_in_body b) (looks_in_body rest) (looks_before n (e + 1) i no_instruction)

    looks_of_branches : (n e : ℕ) (x : Branches) → looks_in_branches (marked_branches p n e x) ≡ looks_in_branches x
    looks_of_branches n e (otherwise b) =
        of_last looks_in_body b (begun (same_spot p (a_branch n)) (marked_before p (n + 1) e b no_instruction))
        (of_begun looks_in_body (λ z. refl) (same_spot p (a_branch n)) (marked_before p (n + 1) e b no_instruction) ∙ (looks_before (n + 1) e b no_instruction ∙ append-nil (looks_in_body b)))
    looks_of_branches n e (branch t b x) =
        ap (λ z. looks_in_test t ++ (z ++ looks_in_branches (marked_branches p (n + 1 + branches_of b) (e + eaches_of b) x)))
        (of_begun looks_in_body (λ z. refl) (same_spot p (a_branch n)) (marked_before p (n + 1) e b no_instruction) ∙ (looks_before (n + 1) e b no_instruction ∙ append-nil (looks_in_body b)))
        ∙ ap (λ z. looks_in_test t ++ (looks_in_body b ++ z)) (looks_of_branches (n + 1 + branches_of b) (e + eaches_of b) x)

  looks_begun : (is_it : Bool) (n e : ℕ) (b : Body) → looks_in_body (begun is_it (marked_before p n e b no_instruction)) ≡ looks_in_body b
  looks_begun is_it n e b = of_begun looks_in_body (λ z. refl) is_it (marked_before p n e b no_instruction) ∙ (looks_before n e b no_instruction ∙ append-nil (looks_in_body b))

  abbrev looks_of_rule : Rule → List Path
  looks_of_rule r = looks_in_body r.body

  looks_of_rules : (k n e : ℕ) (rs : List Rule) → flat_map looks_of_rule (map (marked_rule p) (rules_from k n e rs)) ≡ flat_map looks_of_rule rs
  looks_of_rules k n e [] = refl
  looks_of_rules k n e (r ∷ rs) =
      ap (λ z. z ++ flat_map looks_of_rule (map (marked_rule p) (rules_from (k + 1) (n + branches_of r.body) (e + eaches_of r.body) rs))) (looks_begun (same_spot p (a_rule k)) n e r.body)
      ∙ ap (λ z. looks_in_body r.body ++ z) (looks_of_rules (k + 1) (n + branches_of r.body) (e + eaches_of r.body) rs)

  looks_of_named : (k n e : ℕ) (bs : List Body) → flat_map looks_in_body (map (marked_body p) (bodies_from k n e bs)) ≡ flat_map looks_in_body bs
  looks_of_named k n e [] = refl
  looks_of_named k n e (b ∷ bs) =
      ap (λ z. z ++ flat_map looks_in_body (map (marked_body p) (bodies_from (k + 1) (n + branches_of b) (e + eaches_of b) bs))) (looks_begun (same_spot p (a_named_body k)) n e b)
      ∙ ap (λ z. looks_in_body b ++ z) (looks_of_named (k + 1) (n + branches_of b) (e + eaches_of b) bs)

pub same_looks : (s : Sheet) (p : Spot) → looks_of (marked_at p s) ≡ looks_of s
same_looks s p =
    λ i. each_once same_path
    (looks_of_rules p 1 1 0 s.rules i
    ++ (looks_of_named p 1 (1 + branches_of_all (rule_bodies s)) (eaches_of_all (rule_bodies s)) s.named i ++ flat_map looks_in_test (same_predicates s p i)))

-- the moves, of two spots
module _ (modes : ℕ) (p q : Spot) where
  moves_begun : (a b : Bool) (c d : Body) → moves_in_body modes c ≡ moves_in_body modes d → moves_in_body modes (begun a c) ≡ moves_in_body modes (begun b d)
  moves_begun a b c d e = of_begun (moves_in_body modes) (λ z. refl) a c ∙ (e ∙ sym (of_begun (moves_in_body modes) (λ z. refl) b d))

  chosen_moves : (z : Bool) (c d : Body) → moves_in_body modes c ≡ moves_in_body modes d → moves_in_body modes (cond z no_instruction c) ≡ moves_in_body modes (cond z no_instruction d)
  chosen_moves true c d e = refl
  chosen_moves false c d e = e

  mutual
    moves_before : (n e : ℕ) (b r t : Body) → moves_in_body modes r ≡ moves_in_body modes t → moves_in_body modes (marked_before p n e b r) ≡ moves_in_body modes (marked_before q n e b t)
    moves_before n e no_instruction r t h = h
    moves_before n e (put_text x b) r t h = moves_before n e b r t h
    moves_before n e (put_element a i b) r t h =
        moves_before n e i (marked_before p (n + branches_of i) (e + eaches_of i) b r) (marked_before q (n + branches_of i) (e + eaches_of i) b t) (moves_before (n + branches_of i) (e + eaches_of i) b r t h)
    moves_before n e (copy i b) r t h =
        λ j. (moves_before n e i no_instruction no_instruction refl j ++ []) ++ moves_before (n + branches_of i) (e + eaches_of i) b r t h j
    moves_before n e (apply w m b) r t h = ap (λ z. record { path = w; mode = m } ∷ z) (moves_before n e b r t h)
    moves_before n e (call k b) r t h = moves_before n e b r t h
    moves_before n e (value w b) r t h = moves_before n e b r t h
    moves_before n e (value_of_self b) r t h = moves_before n e b r t h
    moves_before n e (choose x b) r t h = λ j. moves_of_branches n e x j ++ moves_before (n + branches_in x) (e + eaches_in x) b r t h j
    moves_before n e (for_each k w i b) r t h =
        λ j. record { path = w; mode = modes + e } ∷ (moves_before n (e + 1) i no_instruction no_instruction refl j ++ moves_before (n + branches_of i) (e + 1 + eaches_of i) b r t h j)

    moves_of_branches : (n e : ℕ) (x : Branches) → moves_in_branches modes (marked_branches p n e x) ≡ moves_in_branches modes (marked_branches q n e x)
    moves_of_branches n e (otherwise b) =
        chosen_moves (is_nothing b) (begun (same_spot p (a_branch n)) (marked_before p (n + 1) e b no_instruction)) (begun (same_spot q (a_branch n)) (marked_before q (n + 1) e b no_instruction))
        (moves_begun (same_spot p (a_branch n)) (same_spot q (a_branch n)) (marked_before p (n + 1) e b no_instruction) (marked_before q (n + 1) e b no_instruction) (moves_before (n + 1) e b no_instruction no_instruction refl))
    moves_of_branches n e (branch u b x) =
        λ j. moves_begun (same_spot p (a_branch n)) (same_spot q (a_branch n)) (marked_before p (n + 1) e b no_instruction) (marked_before q (n + 1) e b no_instruction) (moves_before (n + 1) e b no_instruction no_instruction refl) j
        ++ moves_of_branches (n + 1 + branches_of b) (e + eaches_of b) x j

  moves_of_rules : (rs : List NumberedRule) → flat_map (λ (r : Rule). moves_in_body modes r.body) (map (marked_rule p) rs) ≡ flat_map (λ (r : Rule). moves_in_body modes r.body) (map (marked_rule q) rs)
  moves_of_rules [] = refl
  moves_of_rules (r ∷ rs) =
      λ j. moves_begun (same_spot p (a_rule r.number)) (same_spot q (a_rule r.number)) (marked_before p r.branches r.eaches r.rule.body no_instruction) (marked_before q r.branches r.eaches r.rule.body no_instruction)
      (moves_before r.branches r.eaches r.rule.body no_instruction no_instruction refl) j
      ++ moves_of_rules rs j

  moves_of_named : (bs : List NumberedBody) → flat_map (moves_in_body modes) (map (marked_body p) bs) ≡ flat_map (moves_in_body modes) (map (marked_body q) bs)
  moves_of_named [] = refl
  moves_of_named (b ∷ bs) =
      λ j. moves_begun (same_spot p (a_named_body b.number)) (same_spot q (a_named_body b.number)) (marked_before p b.branches b.eaches b.body no_instruction) (marked_before q b.branches b.eaches b.body no_instruction)
      (moves_before b.branches b.eaches b.body no_instruction no_instruction refl) j
      ++ moves_of_named bs j

pub same_moves : (s : Sheet) (p q : Spot) → moves_of (marked_at p s) ≡ moves_of (marked_at q s)
same_moves s p q =
    λ i. each_once same_move
    (map (λ m. record { path = all_children; mode = m }) (numbers_below s.modes) ++ (moves_of_rules s.modes p q (numbered_rules s) i ++ moves_of_named s.modes p q (numbered_bodies s) i))
