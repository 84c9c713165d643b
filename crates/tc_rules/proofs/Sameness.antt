-- The tests of sameness tell what is equal, and what is numbered is found by its number.
use Rattle.std.proofs.Common.{◌≡◌, ℕ, List, [], ◌∷◌, ◌++◌, refl, ap, ◌∙◌, sym, Bool, true, false, ◌&&◌, ◌||◌, nat_eq, Some, slice_get, bytes_eq, if◌then◌else◌, subst, ◌+◌, ◌<◌, ◌≤◌, suc, map, length, drop, get_or, append_assoc, ◌⊎◌, inl, inr, arith}
use Rattle.std.specs.List.{list_any}
use Rattle.std.proofs.lemmas.Bool.{true≢false, eqb-true, eq-eqb}
use Rattle.std.proofs.lemmas.Slice.Eq.{bytes_eq-Decides}
use Rattle.std.proofs.lemmas.List.{append-nil, drop_more, drop_all, length-map, map-append}
use Rattle.tc_model.specs.Names.{ExpandedName, same_name}
use Rattle.tc_model.specs.Sheets.{NodeTest, of_name, of_namespace, any_element, any_text, any_node, Steps, no_step, step, Path, no_alternative, alternative, Test, always, never, has, negated, all_of, any_of, Tests, no_test, test}
use Rattle.tc_model.specs.Numbered.{each_once, each_once_after, number_of}
use Rattle.tc_model.specs.SameTests.{same_truth, same_node_test, same_steps, same_path, same_test, same_tests}
use Rattle.tc_model.specs.Numberings.{Move, same_move}
use Rattle.tc_alpha.proofs.Members.{Has, Every}
use Rattle.tc_rules.specs.Once.{put_once}
use Rattle.tc_alpha.proofs.Orders.{same_parts}

parts : (a b : Bool) → (a && b) ≡ true → (a ≡ true) × (b ≡ true)
parts true true e = (refl, refl)
parts true false e = absurd (true≢false (sym e))
parts false b e = absurd (true≢false (sym e))

bytes_same : (a b : List ℕ) → bytes_eq a b ≡ true → a ≡ b
bytes_same a b e = (bytes_eq-Decides a b).0 e

bytes_self : (a : List ℕ) → bytes_eq a a ≡ true
bytes_self a = (bytes_eq-Decides a a).1 refl

truth_same : (a b : Bool) → same_truth a b ≡ true → a ≡ b
truth_same true true e = refl
truth_same true false e = sym e
truth_same false true e = e
truth_same false false e = refl

truth_self : (a : Bool) → same_truth a a ≡ true
truth_self true = refl
truth_self false = refl

named : (n m : ExpandedName) → n.uri ≡ m.uri → n.local ≡ m.local → n ≡ m
named n m e f = same_parts n m e f

name_same : (n m : ExpandedName) → same_name n m ≡ true → n ≡ m
name_same n m e =
    let (u, l) = parts (bytes_eq n.uri m.uri) (bytes_eq n.local m.local) e in
    named n m (bytes_same n.uri m.uri u) (bytes_same n.local m.local l)

and_true : (a b : Bool) → a ≡ true → b ≡ true → (a && b) ≡ true
and_true a b e f = cc

name_self : (n : ExpandedName) → same_name n n ≡ true
name_self n = and_true (bytes_eq n.uri n.uri) (bytes_eq n.local n.local) (bytes_self n.uri) (bytes_self n.local)

node_test_same : (t u : NodeTest) → same_node_test t u ≡ true → t ≡ u
node_test_same (of_name n) (of_name m) e = ap of_name (name_same n m e)
node_test_same (of_name n) (of_namespace v) e = absurd (true≢false (sym e))
node_test_same (of_name n) any_element e = absurd (true≢false (sym e))
node_test_same (of_name n) any_text e = absurd (true≢false (sym e))
node_test_same (of_name n) any_node e = absurd (true≢false (sym e))
node_test_same (of_namespace u) (of_name m) e = absurd (true≢false (sym e))
node_test_same (of_namespace u) (of_namespace v) e = ap of_namespace (bytes_same u v e)
node_test_same (of_namespace u) any_element e = absurd (true≢false (sym e))
node_test_same (of_namespace u) any_text e = absurd (true≢false (sym e))
node_test_same (of_namespace u) any_node e = absurd (true≢false (sym e))
node_test_same any_element (of_name m) e = absurd (true≢false (sym e))
node_test_same any_element (of_namespace v) e = absurd (true≢false (sym e))
node_test_same any_element any_element e = refl
node_test_same any_element any_text e = absurd (true≢false (sym e))
node_test_same any_element any_node e = absurd (true≢false (sym e))
node_test_same any_text (of_name m) e = absurd (true≢false (sym e))
node_test_same any_text (of_namespace v) e = absurd (true≢false (sym e))
node_test_same any_text any_element e = absurd (true≢false (sym e))
node_test_same any_text any_text e = refl
node_test_same any_text any_node e = absurd (true≢false (sym e))
node_test_same any_node (of_name m) e = absurd (true≢false (sym e))
node_test_same any_node (of_namespace v) e = absurd (true≢false (sym e))
node_test_same any_node any_element e = absurd (true≢false (sym e))
node_test_same any_node any_text e = absurd (true≢false (sym e))
node_test_same any_node any_node e = refl

node_test_self : (t : NodeTest) → same_node_test t t ≡ true
node_test_self (of_name n) = name_self n
node_test_self (of_namespace u) = bytes_self u
node_test_self any_element = refl
node_test_self any_text = refl
node_test_self any_node = refl

step_is : (d e : Bool) (t u : NodeTest) (v w : Test) (x y : Steps) → d ≡ e → t ≡ u → v ≡ w → x ≡ y → step d t v x ≡ step e u w y
step_is d e t u v w x y a b c f = cc

mutual
  pub steps_same : (x y : Steps) → same_steps x y ≡ true → x ≡ y
  steps_same no_step no_step e = refl
  steps_same no_step (step d t w y) e = absurd (true≢false (sym e))
  steps_same (step d t w x) no_step e = absurd (true≢false (sym e))
  steps_same (step d t w x) (step g u v y) e =
      let a = parts (same_truth d g) (same_node_test t u && (same_test w v && same_steps x y)) e in
      let b = parts (same_node_test t u) (same_test w v && same_steps x y) a.1 in
      let c = parts (same_test w v) (same_steps x y) b.1 in
      step_is d g t u w v x y (truth_same d g a.0) (node_test_same t u b.0) (test_same w v c.0) (steps_same x y c.1)

  pub path_same : (p q : Path) → same_path p q ≡ true → p ≡ q
  path_same no_alternative no_alternative e = refl
  path_same no_alternative (alternative y q) e = absurd (true≢false (sym e))
  path_same (alternative x p) no_alternative e = absurd (true≢false (sym e))
  path_same (alternative x p) (alternative y q) e =
      let a = parts (same_steps x y) (same_path p q) e in
      let b = steps_same x y a.0 in
      let c = path_same p q a.1 in
      ap (λ z. alternative z p) b ∙ ap (alternative y) c

  pub test_same : (t u : Test) → same_test t u ≡ true → t ≡ u
  test_same always always e = refl
  test_same always never e = absurd (true≢false (sym e))
  test_same always (has q) e = absurd (true≢false (sym e))
  test_same always (negated u) e = absurd (true≢false (sym e))
  test_same always (all_of us) e = absurd (true≢false (sym e))
  test_same always (any_of us) e = absurd (true≢false (sym e))
  test_same never always e = absurd (true≢false (sym e))
  test_same never never e = refl
  test_same never (has q) e = absurd (true≢false (sym e))
  test_same never (negated u) e = absurd (true≢false (sym e))
  test_same never (all_of us) e = absurd (true≢false (sym e))
  test_same never (any_of us) e = absurd (true≢false (sym e))
  test_same (has p) always e = absurd (true≢false (sym e))
  test_same (has p) never e = absurd (true≢false (sym e))
  test_same (has p) (has q) e = ap has (path_same p q e)
  test_same (has p) (negated u) e = absurd (true≢false (sym e))
  test_same (has p) (all_of us) e = absurd (true≢false (sym e))
  test_same (has p) (any_of us) e = absurd (true≢false (sym e))
  test_same (negated t) always e = absurd (true≢false (sym e))
  test_same (negated t) never e = absurd (true≢false (sym e))
  test_same (negated t) (has q) e = absurd (true≢false (sym e))
  test_same (negated t) (negated u) e = ap negated (test_same t u e)
  test_same (negated t) (all_of us) e = absurd (true≢false (sym e))
  test_same (negated t) (any_of us) e = absurd (true≢false (sym e))
  test_same (all_of ts) always e = absurd (true≢false (sym e))
  test_same (all_of ts) never e = absurd (true≢false (sym e))
  test_same (all_of ts) (has q) e = absurd (true≢false (sym e))
  test_same (all_of ts) (negated u) e = absurd (true≢false (sym e))
  test_same (all_of ts) (all_of us) e = ap all_of (tests_same ts us e)
  test_same (all_of ts) (any_of us) e = absurd (true≢false (sym e))
  test_same (any_of ts) always e = absurd (true≢false (sym e))
  test_same (any_of ts) never e = absurd (true≢false (sym e))
  test_same (any_of ts) (has q) e = absurd (true≢false (sym e))
  test_same (any_of ts) (negated u) e = absurd (true≢false (sym e))
  test_same (any_of ts) (all_of us) e = absurd (true≢false (sym e))
  test_same (any_of ts) (any_of us) e = ap any_of (tests_same ts us e)

  pub tests_same : (ts us : Tests) → same_tests ts us ≡ true → ts ≡ us
  tests_same no_test no_test e = refl
  tests_same no_test (test u us) e = absurd (true≢false (sym e))
  tests_same (test t ts) no_test e = absurd (true≢false (sym e))
  tests_same (test t ts) (test u us) e =
      let a = parts (same_test t u) (same_tests ts us) e in
      let b = test_same t u a.0 in
      let c = tests_same ts us a.1 in
      ap (λ z. test z ts) b ∙ ap (test u) c

mutual
  pub steps_self : (x : Steps) → same_steps x x ≡ true
  steps_self no_step = refl
  steps_self (step d t w x) =
      and_true (same_truth d d) (same_node_test t t && (same_test w w && same_steps x x)) (truth_self d)
      (and_true (same_node_test t t) (same_test w w && same_steps x x) (node_test_self t) (and_true (same_test w w) (same_steps x x) (test_self w) (steps_self x)))

  pub path_self : (p : Path) → same_path p p ≡ true
  path_self no_alternative = refl
  path_self (alternative x p) = and_true (same_steps x x) (same_path p p) (steps_self x) (path_self p)

  pub test_self : (t : Test) → same_test t t ≡ true
  test_self always = refl
  test_self never = refl
  test_self (has p) = path_self p
  test_self (negated t) = test_self t
  test_self (all_of ts) = tests_self ts
  test_self (any_of ts) = tests_self ts

  pub tests_self : (ts : Tests) → same_tests ts ts ≡ true
  tests_self no_test = refl
  tests_self (test t ts) = and_true (same_test t t) (same_tests ts ts) (test_self t) (tests_self ts)

module _ {X : Type 0} (same : X → X → Bool) (is_same : (x y : X) → same x y ≡ true → x ≡ y) (is_self : (x : X) → same x x ≡ true) where
  among : (x : X) (seen : List X) → list_any (same x) seen ≡ true → Has seen x
  among x [] e = absurd (true≢false (sym e))
  among x (y ∷ seen) e = by (same x y) refl e (λ g. among x seen g)
    where
      by : (b : Bool) → same x y ≡ b → (b || list_any (same x) seen) ≡ true → (list_any (same x) seen ≡ true → Has seen x) → Has (y ∷ seen) x
      by true f g later = inl (sym (is_same x y f))
      by false f g later = inr (later g)

  -- each is among those seen, or kept
  kept_after : (seen xs : List X) (x : X) → Has xs x → Has seen x ⊎ Has (each_once_after same seen xs) x
  kept_after seen [] x h = absurd h
  kept_after seen (y ∷ xs) x h = by (list_any (same y) seen) refl h (λ k. kept_after seen xs x k) (λ k. kept_after (y ∷ seen) xs x k)
    where
      later : Has (y ∷ seen) x ⊎ Has (each_once_after same (y ∷ seen) xs) x → Has seen x ⊎ Has (y ∷ each_once_after same (y ∷ seen) xs) x
      later (inl (inl e)) = inr (inl e)
      later (inl (inr k)) = inl k
      later (inr k) = inr (inr k)

      by : (b : Bool) → list_any (same y) seen ≡ b → Has (y ∷ xs) x → (Has xs x → Has seen x ⊎ Has (each_once_after same seen xs) x) → (Has xs x → Has (y ∷ seen) x ⊎ Has (each_once_after same (y ∷ seen) xs) x)
          → Has seen x ⊎ Has (if b then each_once_after same seen xs else (y ∷ each_once_after same (y ∷ seen) xs)) x
      by true f (inl e) g k = inl (subst (Has seen) e (among y seen f))
      by true f (inr h) g k = g h
      by false f (inl e) g k = inr (inl e)
      by false f (inr h) g k = later (k h)

  pub kept : (xs : List X) (x : X) → Has xs x → Has (each_once same xs) x
  kept xs x h = elim (kept_after [] xs x h) [ inl k ↦ absurd k | inr k ↦ k ]

  -- and what is kept was there
  pub every_kept : (P : X → Type 0) (seen xs : List X) → Every P xs → Every P (each_once_after same seen xs)
  every_kept P seen [] h = tt
  every_kept P seen (x ∷ xs) h = by (list_any (same x) seen) (every_kept P seen xs h.1) (every_kept P (x ∷ seen) xs h.1)
    where
      by : (b : Bool) → Every P (each_once_after same seen xs) → Every P (each_once_after same (x ∷ seen) xs) → Every P (if b then each_once_after same seen xs else (x ∷ each_once_after same (x ∷ seen) xs))
      by true a b = a
      by false a b = (h.0, b)

  -- what stands in a list is found by its number
  pub found_by_number : (xs : List X) (x : X) → Has xs x → slice_get xs (number_of same x xs) ≡ Some x
  found_by_number [] x h = absurd h
  found_by_number (y ∷ xs) x h = by (same x y) refl h (λ k. found_by_number xs x k)
    where
      next : (n : ℕ) → slice_get (y ∷ xs) (n + 1) ≡ slice_get xs n
      next n = let e : n + 1 ≡ suc n = omega arith in ap (slice_get (y ∷ xs)) e

      by : (b : Bool) → same x y ≡ b → Has (y ∷ xs) x → (Has xs x → slice_get xs (number_of same x xs) ≡ Some x) → slice_get (y ∷ xs) (if b then 0 else (number_of same x xs + 1)) ≡ Some x
      by true f h k = ap Some (sym (is_same x y f))
      by false f (inl e) k = absurd (true≢false (sym (is_self x) ∙ (ap (same x) (sym e) ∙ f)))
      by false f (inr h) k = next (number_of same x xs) ∙ k h

moved : (a b : Move) → a.path ≡ b.path → a.mode ≡ b.mode → a ≡ b
moved a b e f = ap (λ (p : Path). let x : Move = record { path = p; mode = a.mode } in x) e ∙ ap (λ (m : ℕ). let x : Move = record { path = b.path; mode = m } in x) f

pub move_same : (a b : Move) → same_move a b ≡ true → a ≡ b
move_same a b e =
    let (m, p) = parts (nat_eq a.mode b.mode) (same_path a.path b.path) e in
    moved a b (path_same a.path b.path p) (eqb-true a.mode b.mode m)

pub move_self : (a : Move) → same_move a a ≡ true
move_self a = and_true (nat_eq a.mode a.mode) (same_path a.path a.path) (eq-eqb a.mode a.mode refl) (path_self a.path)

-- the order of what was seen doesn't matter
module _ {X : Type 0} (same : X → X → Bool) where
  any_append : (x : X) (xs ys : List X) → list_any (same x) (xs ++ ys) ≡ (list_any (same x) xs || list_any (same x) ys)
  any_append x [] ys = refl
  any_append x (y ∷ xs) ys = ap (λ b. same x y || b) (any_append x xs ys) ∙ sym (or_assoc (same x y) (list_any (same x) xs) (list_any (same x) ys))
    where
      or_assoc : (a b c : Bool) → ((a || b) || c) ≡ (a || (b || c))
      or_assoc true b c = refl
      or_assoc false b c = refl

  or_flip : (a b : Bool) → (a || (b || false)) ≡ (b || a)
  or_flip true true = refl
  or_flip true false = refl
  or_flip false true = refl
  or_flip false false = refl

  seen_as : (s t xs : List X) → ((x : X) → list_any (same x) s ≡ list_any (same x) t) → each_once_after same s xs ≡ each_once_after same t xs
  seen_as s t [] h = refl
  seen_as s t (x ∷ xs) h =
      by (list_any (same x) s) (list_any (same x) t) (h x) (seen_as s t xs h) (seen_as (x ∷ s) (x ∷ t) xs (λ y. ap (λ b. same y x || b) (h y)))
    where
      by : (a b : Bool) → a ≡ b → each_once_after same s xs ≡ each_once_after same t xs → each_once_after same (x ∷ s) xs ≡ each_once_after same (x ∷ t) xs
          → (if a then each_once_after same s xs else (x ∷ each_once_after same (x ∷ s) xs)) ≡ (if b then each_once_after same t xs else (x ∷ each_once_after same (x ∷ t) xs))
      by true true e p q = p
      by true false e p q = absurd (true≢false e)
      by false true e p q = absurd (true≢false (sym e))
      by false false e p q = ap (λ l. x ∷ l) q

  pub once_old : (s xs : List X) (x : X) → list_any (same x) s ≡ true → each_once_after same s (x ∷ xs) ≡ each_once_after same s xs
  once_old s xs x e = ap (λ b. if b then each_once_after same s xs else (x ∷ each_once_after same (x ∷ s) xs)) e

  pub once_new : (s xs : List X) (x : X) → list_any (same x) s ≡ false → each_once_after same s (x ∷ xs) ≡ x ∷ each_once_after same (s ++ x ∷ []) xs
  once_new s xs x e =
      ap (λ b. if b then each_once_after same s xs else (x ∷ each_once_after same (x ∷ s) xs)) e
      ∙ ap (λ l. x ∷ l) (seen_as (x ∷ s) (s ++ x ∷ []) xs (λ y. sym (any_append y s (x ∷ []) ∙ or_flip (list_any (same y) s) (same y x))))

  pub put_next : (s xs : List X) (x : X) → s ++ each_once_after same s (x ∷ xs) ≡ put_once same s x ++ each_once_after same (put_once same s x) xs
  put_next s xs x = by (list_any (same x) s) refl
    where
      by : (b : Bool) → list_any (same x) s ≡ b
          → s ++ each_once_after same s (x ∷ xs) ≡ (if b then s else (s ++ x ∷ [])) ++ each_once_after same (if b then s else (s ++ x ∷ [])) xs
      by true e = ap (λ w. s ++ w) (once_old s xs x e)
      by false e = ap (λ w. s ++ w) (once_new s xs x e) ∙ sym (append_assoc s (x ∷ []) (each_once_after same (s ++ x ∷ []) xs))

  -- of a list, one more is looked at
  pub looked : {Y : Type 0} (f : Y → X) (all s t : List X) (ys : List Y) (i : ℕ) (y : Y) → i < length ys → y ≡ get_or ys i y → t ≡ put_once same s (f y)
      → all ≡ s ++ each_once_after same s (map f (drop i ys)) → all ≡ t ++ each_once_after same t (map f (drop (i + 1) ys))
  looked f all s t ys i y l e h k =
      k ∙ (ap (λ w. s ++ each_once_after same s (map f w)) (drop_more ys i y l)
      ∙ (ap (λ z. s ++ each_once_after same s (f z ∷ map f (drop (i + 1) ys))) (sym e)
      ∙ (put_next s (map f (drop (i + 1) ys)) (f y) ∙ ap (λ w. w ++ each_once_after same w (map f (drop (i + 1) ys))) (sym h))))

  -- what has a number in a list is there
  numbered_there : (x : X) (ys : List X) → number_of same x ys < length ys → list_any (same x) ys ≡ true
  numbered_there x [] l = absurd (omega (arith, l))
  numbered_there x (y ∷ ys) l = by (same x y) l (numbered_there x ys)
    where
      by : (b : Bool) → (if b then 0 else (number_of same x ys + 1)) < suc (length ys) → (number_of same x ys < length ys → list_any (same x) ys ≡ true) → (b || list_any (same x) ys) ≡ true
      by true l k = refl
      by false l k = k (omega (arith, l))

  numbered_new : (x : X) (ys : List X) → length ys ≤ number_of same x ys → list_any (same x) ys ≡ false
  numbered_new x [] l = refl
  numbered_new x (y ∷ ys) l = by (same x y) l (numbered_new x ys)
    where
      by : (b : Bool) → suc (length ys) ≤ (if b then 0 else (number_of same x ys + 1)) → (length ys ≤ number_of same x ys → list_any (same x) ys ≡ false) → (b || list_any (same x) ys) ≡ false
      by true l k = absurd (omega (arith, l))
      by false l k = k (omega (arith, l))

  pub stays_there : {Y : Type 0} (f : Y → X) (kept : List Y) (x : X) (k : ℕ) → k ≡ number_of same x (map f kept) → k < length kept → map f kept ≡ put_once same (map f kept) x
  stays_there f kept x k e l =
      let inside : number_of same x (map f kept) < length (map f kept) = omega (arith, e, l, length-map kept f) in
      sym (ap (λ b. if b then map f kept else (map f kept ++ x ∷ [])) (numbered_there x (map f kept) inside))

  pub put_last : {Y : Type 0} (f : Y → X) (kept now : List Y) (y : Y) (k : ℕ) → k ≡ number_of same (f y) (map f kept) → length kept ≤ k → now ≡ kept ++ y ∷ [] → map f now ≡ put_once same (map f kept) (f y)
  put_last f kept now y k e l put =
      let outside : length (map f kept) ≤ number_of same (f y) (map f kept) = omega (arith, e, l, length-map kept f) in
      ap (map f) put ∙ (map-append f kept (y ∷ []) ∙ sym (ap (λ b. if b then map f kept else (map f kept ++ f y ∷ [])) (numbered_new (f y) (map f kept) outside)))

  -- nothing is looked at yet, and all are
  pub once_begun : {Y : Type 0} (f : Y → X) (all : List X) (old : List Y) → old ≡ [] → each_once same all ≡ map f old ++ each_once_after same (map f old) all
  once_begun {Y = Y} f all old is = sym (ap (λ (w : List Y). map f w ++ each_once_after same (map f w) all) is)

  pub once_ended : {Y : Type 0} (f : Y → X) (all : List X) (old ys : List Y) (i : ℕ) → length ys ≤ i → all ≡ map f old ++ each_once_after same (map f old) (map f (drop i ys)) → map f old ≡ all
  once_ended {Y = Y} f all old ys i l k =
      sym (k ∙ (ap (λ (w : List Y). map f old ++ each_once_after same (map f old) (map f w)) (drop_all i ys l) ∙ append-nil (map f old)))
