-- What is selected below a node, and what a job puts out there, by states.
use Rattle.std.proofs.Common.{◌≡◌, List, [], ◌∷◌, ◌++◌, refl, ap, ◌∙◌, sym, Bool, true, false, cond, not, ◌&&◌, ◌||◌, Option, Some, None, is_some}
use Rattle.tc_model.specs.Trees.{Trees, none, text, element}
use Rattle.tc_model.specs.Chains.{Tree, an_element, a_text, Chain, under, below, found, first_node, Node, one, node_of, children}
use Rattle.tc_model.specs.Sheets.{Path, Test, always, never, has, negated, all_of, any_of, Tests, no_test, test, Body, Rule}
use Rattle.tc_model.specs.Paths.{any_along, holds, all_hold, some_holds, selected}
use Rattle.tc_model.specs.Outcomes.{Outcome, nothing, join, counted}
use Rattle.tc_model.specs.Machine.{Machine, or_else, move_picks, look_picks, known_test, known_tests, above, first_hit, holds_in, all_hold_in, some_holds_in, outputs, does_at, plain_at, CallFreeJob, IsMachineOf}
use Rattle.tc_model.proofs.TotalJoin.{none_join, join_assoc}
use Rattle.tc_model.proofs.TotalSelected.{found_text, found_element}

first_append : (cs ds : List Chain) → first_node (cs ++ ds) ≡ or_else (first_node cs) (first_node ds)
first_append [] ds = refl
first_append (c ∷ cs) ds = refl

first_of : (b : Bool) (c : Chain) (cs : List Chain) → first_node (cond b (c ∷ []) [] ++ cs) ≡ or_else (cond b (Some (node_of c)) None) (first_node cs)
first_of true c cs = refl
first_of false c cs = refl

or_else_regroup : (b : Bool) (n : Node) (x y : Option Node) → or_else (cond b (Some n) None) (or_else x y) ≡ or_else (cond b (Some n) x) y
or_else_regroup true n x y = refl
or_else_regroup false n x y = refl

module _ (rules : List Rule) (named : List Body) (m : Machine) (of : IsMachineOf m rules named) where
  hit_first : (p : Bool) (s : m.Look) (c : Chain) (t : Tree) (cs : List Chain) → p ≡ m.look_hits s (m.letter t)
      → first_node (cond p (under c t ∷ []) [] ++ cs) ≡ or_else (cond (m.look_hits s (m.letter t)) (Some (one t)) None) (first_node cs)
  hit_first p s c t cs e = first_of p (under c t) cs ∙ ap (λ b. or_else (cond b (Some (one t)) None) (first_node cs)) e

  -- the first node that is selected is the first hit
  pub first_found : (h : Trees) (c : Chain) (s : m.Look) (p : List Tree → Bool) → ((t : Tree) (ts : List Tree) → p (t ∷ ts) ≡ look_picks m s (t ∷ ts))
      → first_node (found p c (below h)) ≡ first_hit m h s
  first_found none c s p e = refl
  first_found (text x rest) c s p e =
      let t = a_text x in
      ap first_node (found_text p c x rest) ∙ (hit_first (p (t ∷ [])) s c t (found p c (below rest)) (e t []) ∙ ap (or_else _) (first_found rest c s p e))
  first_found (element n h rest) c s p e =
      let t = an_element n h in
      let inside = found (λ d. p (t ∷ d)) (under c t) (below h) in
      let after = found p c (below rest) in
      let first_inside = first_found h (under c t) (m.look_step s (m.letter t)) (λ d. p (t ∷ d)) (λ u us. e t (u ∷ us)) in
      let first_after = first_found rest c s p e in
      ap first_node (found_element p c n h rest)
      ∙ (hit_first (p (t ∷ [])) s c t (inside ++ after) (e t [])
      ∙ (ap (or_else _) (first_append inside after ∙ (λ i. or_else (first_inside i) (first_after i)))
      ∙ or_else_regroup (m.look_hits s (m.letter t)) (one t) (first_hit m h (m.look_step s (m.letter t))) (first_hit m rest s)))

  pub first_selected : (p : Path) → m.KnownLook p → (c : Chain) → first_node (selected p c) ≡ first_hit m (children (node_of c)) (m.look_first p)
  first_selected p k c = first_found (children (node_of c)) c (m.look_first p) (λ d. any_along p c d) (λ t ts. of.looks_tell p k c t ts)

  mutual
    pub test_holds : (t : Test) → known_test m.KnownMove m.KnownLook t → (c : Chain) → holds t c ≡ holds_in m t (children (node_of c))
    test_holds always k c = refl
    test_holds never k c = refl
    test_holds (has p) k c = ap is_some (first_selected p k c)
    test_holds (negated t) k c = ap not (test_holds t k c)
    test_holds (all_of ts) k c = tests_hold ts k c
    test_holds (any_of ts) k c = some_test_holds ts k c

    tests_hold : (ts : Tests) → known_tests m.KnownMove m.KnownLook ts → (c : Chain) → all_hold ts c ≡ all_hold_in m ts (children (node_of c))
    tests_hold no_test k c = refl
    tests_hold (test t ts) k c = ap (λ w. w && all_hold ts c) (test_holds t k.0 c) ∙ ap (λ w. holds_in m t (children (node_of c)) && w) (tests_hold ts k.1 c)

    some_test_holds : (ts : Tests) → known_tests m.KnownMove m.KnownLook ts → (c : Chain) → some_holds ts c ≡ some_holds_in m ts (children (node_of c))
    some_test_holds no_test k c = refl
    some_test_holds (test t ts) k c = ap (λ w. w || some_holds ts c) (test_holds t k.0 c) ∙ ap (λ w. holds_in m t (children (node_of c)) || w) (some_test_holds ts k.1 c)

  -- what a job puts out on several nodes, by states
  abbrev pub all_at : CallFreeJob → List Chain → Outcome
  all_at j [] = nothing
  all_at j (c ∷ cs) = join (counted (does_at m (plain_at m j c) c)) (all_at j cs)

  all_append : (j : CallFreeJob) (cs ds : List Chain) → all_at j (cs ++ ds) ≡ join (all_at j cs) (all_at j ds)
  all_append j [] ds = sym (none_join (all_at j ds))
  all_append j (c ∷ cs) ds = ap (join (counted (does_at m (plain_at m j c) c))) (all_append j cs ds) ∙ sym (join_assoc (counted (does_at m (plain_at m j c) c)) (all_at j cs) (all_at j ds))

  all_if : (p : Bool) (j : CallFreeJob) (c : Chain) (cs : List Chain) → all_at j (cond p (c ∷ []) [] ++ cs) ≡ join (cond p (counted (does_at m (plain_at m j c) c)) nothing) (all_at j cs)
  all_if true j c cs = refl
  all_if false j c cs = sym (none_join (all_at j cs))

  hit_put_out : (p : Bool) (s : m.Move) (j : CallFreeJob) (c : Chain) (t : Tree) (cs : List Chain) → p ≡ m.move_hits s (m.letter t)
      → all_at j (cond p (under c t ∷ []) [] ++ cs) ≡ join (cond (m.move_hits s (m.letter t)) (counted (does_at m (plain_at m j (under c t)) (under c t))) nothing) (all_at j cs)
  hit_put_out p s j c t cs e = all_if p j (under c t) cs ∙ ap (λ b. join (cond b (counted (does_at m (plain_at m j (under c t)) (under c t))) nothing) (all_at j cs)) e

  -- what is put out on all nodes that are selected is what is put out on the hits
  pub all_found : (h : Trees) (j : CallFreeJob) (c : Chain) (s : m.Move) (p : List Tree → Bool) → ((t : Tree) (ts : List Tree) → p (t ∷ ts) ≡ move_picks m s (t ∷ ts))
      → all_at j (found p c (below h)) ≡ outputs m h j (above m c) s
  all_found none j c s p e = refl
  all_found (text x rest) j c s p e =
      let t = a_text x in
      ap (all_at j) (found_text p c x rest) ∙ (hit_put_out (p (t ∷ [])) s j c t (found p c (below rest)) (e t []) ∙ ap (join _) (all_found rest j c s p e))
  all_found (element n h rest) j c s p e =
      let t = an_element n h in
      let inside = found (λ d. p (t ∷ d)) (under c t) (below h) in
      let after = found p c (below rest) in
      let all_inside = all_found h j (under c t) (m.move_step s (m.letter t)) (λ d. p (t ∷ d)) (λ u us. e t (u ∷ us)) in
      let all_after = all_found rest j c s p e in
      ap (all_at j) (found_element p c n h rest)
      ∙ (hit_put_out (p (t ∷ [])) s j c t (inside ++ after) (e t [])
      ∙ ap (join _) (all_append j inside after ∙ (λ i. join (all_inside i) (all_after i))))

  pub all_selected : (j : CallFreeJob) (p : Path) → m.KnownMove j p → (c : Chain) → all_at j (selected p c) ≡ outputs m (children (node_of c)) j (above m c) (m.move_first j p)
  all_selected j p k c = all_found (children (node_of c)) j c (m.move_first j p) (λ d. any_along p c d) (λ t ts. of.moves_tell j p k c t ts)
