-- The bodies and the predicates of a stylesheet are parts of it: their paths are its moves and its looks.
use Rattle.std.proofs.Common.{◌≡◌, ◌⊎◌, inl, inr, ℕ, zero, suc, ◌<◌, Bool, true, false, nat_eq, arith, List, [], ◌∷◌, ◌++◌, refl, ap, sym, subst, map, flat_map}
use Rattle.std.specs.List.{Contains}
use Rattle.std.proofs.lemmas.Bool.{eqb-true}
use Rattle.std.proofs.lemmas.Bool.Decides.{nat_tests}
use Rattle.tc_model.specs.Sheets.{Path, Test, always, never, has, negated, all_of, any_of, Tests, no_test, test, Body, no_instruction, put_text, put_element, copy, apply, call, for_each, value, value_of_self, choose, Branches, otherwise, branch, Rule, Sheet}
use Rattle.tc_model.specs.Meaning.{all_children}
use Rattle.tc_model.specs.Views as see
use Rattle.tc_model.specs.declared.sheet.Instr.{Instr}
use Rattle.tc_model.proofs.ViewsBody.{body_then, instruction_then}
use Rattle.tc_model.specs.SameTests.{same_path}
use Rattle.tc_model.specs.Numbered.{numbers_below}
use Rattle.tc_model.specs.Numberings.{Move, same_move, moves_in_body, moves_in_branches, moves_of, looks_in_test, looks_in_tests, looks_in_body, looks_in_branches, looks_of, predicates_of}
use Rattle.tc_model.specs.WellFormed.{IsBody, AreBranches, IsRule, ForEach, eaches_in, eaches_in_branches, eaches_of, IsSheet}
use Rattle.tc_alpha.proofs.Members.{Has, every_member, every_from_all, has_from_contains, contains_from_has, has_front, has_back, has_either}
use Rattle.tc_rules.proofs.Sameness.{path_same, path_self, move_same, move_self, kept}
use Rattle.tc_rules.specs.Parts.{IsPartTest, ArePartTests, IsPart, ArePartBranches}

abbrev Within : {X : Type 0} → List X → List X → Type 0
Within {X} xs all = (y : X) → Has xs y → Contains all y

front_of : {X : Type 0} (xs ys : List X) (all : List X) → Within (xs ++ ys) all → Within xs all
front_of xs ys all w y h = w y (has_front xs ys y h)

back_of : {X : Type 0} (xs ys : List X) (all : List X) → Within (xs ++ ys) all → Within ys all
back_of xs ys all w y h = w y (has_back xs ys y h)

has_in_flat : {X Y : Type 0} (f : X → List Y) (xs : List X) (x : X) (y : Y) → Has xs x → Has (f x) y → Has (flat_map f xs) y
has_in_flat f [] x y h k = absurd h
has_in_flat f (z ∷ xs) x y (inl e) k = has_front (f z) (flat_map f xs) y (subst (λ w. Has (f w) y) (sym e) k)
has_in_flat f (z ∷ xs) x y (inr h) k = has_back (f z) (flat_map f xs) y (has_in_flat f xs x y h k)

module _ (x : Sheet) where
  mutual
    test_part : (t : Test) → Within (looks_in_test t) (looks_of x) → IsPartTest x t
    test_part always w = tt
    test_part never w = tt
    test_part (has p) w = w p (inl refl)
    test_part (negated t) w = test_part t w
    test_part (all_of ts) w = tests_part ts w
    test_part (any_of ts) w = tests_part ts w

    tests_part : (ts : Tests) → Within (looks_in_tests ts) (looks_of x) → ArePartTests x ts
    tests_part no_test w = tt
    tests_part (test t ts) w =
        (test_part t (λ y h. w y (has_front (looks_in_test t) (looks_in_tests ts) y h)), tests_part ts (λ y h. w y (has_back (looks_in_test t) (looks_in_tests ts) y h)))

  mutual
    body_part : (b : Body) → Within (moves_in_body x.modes b) (moves_of x) → Within (looks_in_body b) (looks_of x) → Within (eaches_in b) (eaches_of x) → IsBody x b → IsPart x b
    body_part no_instruction m l e i = tt
    body_part (put_text t b) m l e i = body_part b m l e i.1
    body_part (put_element n o b) m l e i = (
      body_part o (front_of (moves_in_body x.modes o) (moves_in_body x.modes b) (moves_of x) m) (front_of (looks_in_body o) (looks_in_body b) (looks_of x) l) (front_of (eaches_in o) (eaches_in b) (eaches_of x) e) i.1,
      body_part b (back_of (moves_in_body x.modes o) (moves_in_body x.modes b) (moves_of x) m) (back_of (looks_in_body o) (looks_in_body b) (looks_of x) l) (back_of (eaches_in o) (eaches_in b) (eaches_of x) e) i.2,
    )
    body_part (copy o b) m l e i = (
      body_part o (front_of (moves_in_body x.modes o) (moves_in_body x.modes b) (moves_of x) m) (front_of (looks_in_body o) (looks_in_body b) (looks_of x) l) (front_of (eaches_in o) (eaches_in b) (eaches_of x) e) i.0,
      body_part b (back_of (moves_in_body x.modes o) (moves_in_body x.modes b) (moves_of x) m) (back_of (looks_in_body o) (looks_in_body b) (looks_of x) l) (back_of (eaches_in o) (eaches_in b) (eaches_of x) e) i.1,
    )
    body_part (apply p k b) m l e i = (m _ (inl refl), i.1, body_part b (λ y h. m y (inr h)) l e i.2)
    body_part (call n b) m l e i = (i.0, body_part b m l e i.1)
    body_part (value p b) m l e i = (l p (inl refl), body_part b m (λ y h. l y (inr h)) e i.1)
    body_part (value_of_self b) m l e i = body_part b m l e i
    body_part (choose y b) m l e i = (
      branches_part y
          (λ z h. m z (has_front (moves_in_branches x.modes y) (moves_in_body x.modes b) z h))
          (λ z h. l z (has_front (looks_in_branches y) (looks_in_body b) z h))
          (λ z h. e z (has_front (eaches_in_branches y) (eaches_in b) z h)) i.0,
      body_part b
          (λ z h. m z (has_back (moves_in_branches x.modes y) (moves_in_body x.modes b) z h))
          (λ z h. l z (has_back (looks_in_branches y) (looks_in_body b) z h))
          (λ z h. e z (has_back (eaches_in_branches y) (eaches_in b) z h)) i.1,
    )
    body_part (for_each n p o b) m l e i = (
      m _ (inl refl),
      e _ (inl refl),
      body_part o (front_of (moves_in_body x.modes o) (moves_in_body x.modes b) (moves_of x) (λ y h. m y (inr h))) (front_of (looks_in_body o) (looks_in_body b) (looks_of x) l) (front_of (eaches_in o) (eaches_in b) (eaches_of x) (λ y h. e y (inr h))) i.2,
      body_part b (back_of (moves_in_body x.modes o) (moves_in_body x.modes b) (moves_of x) (λ y h. m y (inr h))) (back_of (looks_in_body o) (looks_in_body b) (looks_of x) l) (back_of (eaches_in o) (eaches_in b) (eaches_of x) (λ y h. e y (inr h))) i.3,
    )

    branches_part : (y : Branches) → Within (moves_in_branches x.modes y) (moves_of x) → Within (looks_in_branches y) (looks_of x) → Within (eaches_in_branches y) (eaches_of x)
        → AreBranches x y → ArePartBranches x y
    branches_part (otherwise b) m l e i = body_part b m l e i
    branches_part (branch t b y) m l e i = (
      test_part t (λ z h. l z (has_front (looks_in_test t) (looks_in_body b ++ looks_in_branches y) z h)),
      body_part b
          (λ z h. m z (has_front (moves_in_body x.modes b) (moves_in_branches x.modes y) z h))
          (λ z h. l z (has_back (looks_in_test t) (looks_in_body b ++ looks_in_branches y) z (has_front (looks_in_body b) (looks_in_branches y) z h)))
          (λ z h. e z (has_front (eaches_in b) (eaches_in_branches y) z h)) i.1,
      branches_part y
          (λ z h. m z (has_back (moves_in_body x.modes b) (moves_in_branches x.modes y) z h))
          (λ z h. l z (has_back (looks_in_test t) (looks_in_body b ++ looks_in_branches y) z (has_back (looks_in_body b) (looks_in_branches y) z h)))
          (λ z h. e z (has_back (eaches_in b) (eaches_in_branches y) z h)) i.2,
    )

  -- the moves and the looks of bodies are among those of the stylesheet
  abbrev first_moves : List Move
  first_moves = map (λ m. record { path = all_children; mode = m }) (numbers_below x.modes)

  abbrev rule_moves : List Move
  rule_moves = flat_map (λ r. moves_in_body x.modes r.body) x.rules

  abbrev named_moves : List Move
  named_moves = flat_map (moves_in_body x.modes) x.named

  abbrev rule_looks : List Path
  rule_looks = flat_map (λ r. looks_in_body r.body) x.rules

  abbrev named_looks : List Path
  named_looks = flat_map looks_in_body x.named

  abbrev predicate_looks : List Path
  predicate_looks = flat_map looks_in_test (predicates_of x)

  is_move : (m : Move) → Has (first_moves ++ (rule_moves ++ named_moves)) m → Contains (moves_of x) m
  is_move m h = contains_from_has (moves_of x) m (kept same_move move_same move_self (first_moves ++ (rule_moves ++ named_moves)) m h)

  is_look : (p : Path) → Has (rule_looks ++ (named_looks ++ predicate_looks)) p → Contains (looks_of x) p
  is_look p h = contains_from_has (looks_of x) p (kept same_path path_same path_self (rule_looks ++ (named_looks ++ predicate_looks)) p h)

  pub rule_part : IsSheet x → (r : Rule) → Has x.rules r → IsPart x r.body
  rule_part i r h =
      body_part r.body
      (λ m k. is_move m (has_back first_moves (rule_moves ++ named_moves) m (has_front rule_moves named_moves m (has_in_flat (λ q. moves_in_body x.modes q.body) x.rules r m h k))))
      (λ p k. is_look p (has_front rule_looks (named_looks ++ predicate_looks) p (has_in_flat (λ q. looks_in_body q.body) x.rules r p h k)))
      (λ f k. contains_from_has (eaches_of x) f (has_front (flat_map (λ q. eaches_in q.body) x.rules) (flat_map (λ b. eaches_in b) x.named) f (has_in_flat (λ q. eaches_in q.body) x.rules r f h k)))
      (every_member (IsRule x) x.rules r (every_from_all (IsRule x) x.rules i.rules) h).body

  pub named_part : IsSheet x → (b : Body) → Has x.named b → IsPart x b
  named_part i b h =
      body_part b
      (λ m k. is_move m (has_back first_moves (rule_moves ++ named_moves) m (has_back rule_moves named_moves m (has_in_flat (moves_in_body x.modes) x.named b m h k))))
      (λ p k. is_look p (has_back rule_looks (named_looks ++ predicate_looks) p (has_front named_looks predicate_looks p (has_in_flat looks_in_body x.named b p h k))))
      (λ f k. contains_from_has (eaches_of x) f (has_back (flat_map (λ q. eaches_in q.body) x.rules) (flat_map (λ c. eaches_in c) x.named) f (has_in_flat (λ c. eaches_in c) x.named b f h k)))
      (every_member (IsBody x) x.named b (every_from_all (IsBody x) x.named i.named) h)

  pub predicate_part : (t : Test) → Has (predicates_of x) t → IsPartTest x t
  predicate_part t h =
      test_part t (λ p k. is_look p (has_back rule_looks (named_looks ++ predicate_looks) p (has_back named_looks predicate_looks p (has_in_flat looks_in_test (predicates_of x) t p h k))))

  -- the move to all children in each mode
  has_number : (n k : ℕ) → k < n → Has (numbers_below n) k
  has_number zero k h = absurd (omega arith)
  has_number (suc n) k h = by (nat_eq k n) refl (λ l. has_number n k l)
    where
      by : (b : Bool) → nat_eq k n ≡ b → (k < n → Has (numbers_below n) k) → Has (numbers_below n ++ n ∷ []) k
      by true e f = has_back (numbers_below n) (n ∷ []) k (inl (sym (eqb-true k n e)))
      by false e f = has_front (numbers_below n) (n ∷ []) k (f (grind (arith, nat_tests)))

  has_first : (ms : List ℕ) (m : ℕ) → Has ms m → Has (map (λ k. let y : Move = record { path = all_children; mode = k } in y) ms) (record { path = all_children; mode = m })
  has_first [] m h = absurd h
  has_first (k ∷ ms) m (inl e) = inl (ap (λ n. let y : Move = record { path = all_children; mode = n } in y) e)
  has_first (k ∷ ms) m (inr h) = inr (has_first ms m h)

  pub children_move : (m : ℕ) → m < x.modes → Contains (moves_of x) (record { path = all_children; mode = m })
  children_move m h =
      let y : Move = record { path = all_children; mode = m } in
      is_move y (has_front first_moves (rule_moves ++ named_moves) y (has_first (numbers_below x.modes) m (has_number x.modes m h)))

  -- the body of a for-each inside a part is one
  either : {A B C : Type 0} → (A → C) → (B → C) → A ⊎ B → C
  either f g (inl a) = f a
  either f g (inr b) = g b

  mutual
    each_inside : (f : ForEach) (b : Body) → IsPart x b → Has (eaches_in b) f → IsPart x f.body
    each_inside f no_instruction i h = absurd h
    each_inside f (put_text t b) i h = each_inside f b i h
    each_inside f (put_element n o b) i h = either (λ k. each_inside f o i.0 k) (λ k. each_inside f b i.1 k) (has_either (eaches_in o) (eaches_in b) f h)
    each_inside f (copy o b) i h = either (λ k. each_inside f o i.0 k) (λ k. each_inside f b i.1 k) (has_either (eaches_in o) (eaches_in b) f h)
    each_inside f (apply p k b) i h = each_inside f b i.2 h
    each_inside f (call n b) i h = each_inside f b i.1 h
    each_inside f (value p b) i h = each_inside f b i.1 h
    each_inside f (value_of_self b) i h = each_inside f b i h
    each_inside f (choose y b) i h = either (λ k. each_in_branches f y i.0 k) (λ k. each_inside f b i.1 k) (has_either (eaches_in_branches y) (eaches_in b) f h)
    each_inside f (for_each n p o b) i (inl e) = subst (λ (g : ForEach). IsPart x g.body) e i.2
    each_inside f (for_each n p o b) i (inr h) = either (λ k. each_inside f o i.2 k) (λ k. each_inside f b i.3 k) (has_either (eaches_in o) (eaches_in b) f h)

    each_in_branches : (f : ForEach) (y : Branches) → ArePartBranches x y → Has (eaches_in_branches y) f → IsPart x f.body
    each_in_branches f (otherwise b) i h = each_inside f b i h
    each_in_branches f (branch t b y) i h = either (λ k. each_inside f b i.1 k) (λ k. each_in_branches f y i.2 k) (has_either (eaches_in b) (eaches_in_branches y) f h)

  each_in_list : {X : Type 0} (f : ForEach) (g : X → Body) (xs : List X) → ((y : X) → Has xs y → IsPart x (g y)) → Has (flat_map (λ y. eaches_in (g y)) xs) f → IsPart x f.body
  each_in_list f g [] a h = absurd h
  each_in_list f g (y ∷ xs) a h =
      elim (has_either (eaches_in (g y)) (flat_map (λ z. eaches_in (g z)) xs) f h) [
        | inl k ↦ each_inside f (g y) (a y (inl refl)) k
        | inr k ↦ each_in_list f g xs (λ z m. a z (inr m)) k
      ]

  pub each_part : IsSheet x → (f : ForEach) → Contains (eaches_of x) f → IsPart x f.body
  each_part i f c =
      elim (has_either (flat_map (λ r. eaches_in r.body) x.rules) (flat_map (λ b. eaches_in b) x.named) f (has_from_contains (eaches_of x) f c)) [
        | inl k ↦ each_in_list f (λ (r : Rule). r.body) x.rules (λ r h. rule_part i r h) k
        | inr k ↦ each_in_list f (λ (b : Body). b) x.named (λ b h. named_part i b h) k
      ]

  -- bodies one after the other
  pub part_then : (a b : Body) → IsPart x (body_then a b) → IsPart x a × IsPart x b
  part_then no_instruction b h = (tt, h)
  part_then (put_text t a) b h = part_then a b h
  part_then (put_element n i a) b h = let (u, v) = part_then a b h.1 in ((h.0, u), v)
  part_then (copy i a) b h = let (u, v) = part_then a b h.1 in ((h.0, u), v)
  part_then (apply w m a) b h = let (u, v) = part_then a b h.2 in ((h.0, h.1, u), v)
  part_then (call n a) b h = let (u, v) = part_then a b h.1 in ((h.0, u), v)
  part_then (value w a) b h = let (u, v) = part_then a b h.1 in ((h.0, u), v)
  part_then (value_of_self a) b h = part_then a b h
  part_then (choose y a) b h = let (u, v) = part_then a b h.1 in ((h.0, u), v)
  part_then (for_each e w i a) b h = let (u, v) = part_then a b h.3 in ((h.0, h.1, h.2, u), v)

  pub part_first : (i : Instr) (rest : Body) → IsPart x (see.instruction i rest) → IsPart x (see.instruction i no_instruction) × IsPart x rest
  part_first i rest h =
      part_then (see.instruction i no_instruction) rest (subst (IsPart x) (sym (instruction_then i no_instruction rest)) h)
