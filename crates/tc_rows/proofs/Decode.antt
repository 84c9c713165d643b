-- Each number below that of the states stands for a state of a move or of a look of the stylesheet.
use Rattle.std.proofs.Common.{◌≡◌, ◌⊎◌, inl, inr, ℕ, zero, suc, ◌+◌, ◌-◌, ◌<◌, ◌≤◌, List, [], ◌∷◌, ◌++◌, refl, ap, ◌∙◌, sym, subst, length, map, flat_map, Some, slice_get, All, arith}
use Rattle.std.proofs.lemmas.Option.{same_Some}
use Rattle.std.proofs.lemmas.List.Elements.{All-head, All-tail}
use Rattle.tc_model.specs.Sheets.{Path, Body, no_instruction, put_text, put_element, copy, apply, call, for_each, value, value_of_self, choose, Branches, otherwise, branch, Rule, Sheet}
use Rattle.tc_model.specs.Machine.{CallFreeJob, in_mode, in_body}
use Rattle.tc_model.specs.Meaning.{all_children}
use Rattle.tc_model.specs.Numbered.{numbers_below}
use Rattle.tc_model.specs.Numberings.{Move, same_move, moves_in_body, moves_in_branches, moves_of, looks_of}
use Rattle.tc_model.specs.StateCounts.{PathUse}
use Rattle.tc_model.specs.WellFormed.{IsBody, AreBranches, IsRule, IsSheet, ForEach, eaches_in, eaches_in_branches, eaches_of}
use Rattle.tc_model.proofs.TotalUnfolds.{body_unfolds}
use Rattle.tc_alpha.proofs.Members.{Has, has_from_contains, has_either, Every, every_member, every_append}
use Rattle.tc_rules.specs.States.{Going, Looking}
use Rattle.tc_rules.specs.Tasks.{IsTaskOf, of_mode, of_each, IsMoveAt, IsLookAt}
use Rattle.tc_rules.specs.RulesView.{IsStateOf}
use Rattle.tc_rules.proofs.Counts.{move_counted}
use Rattle.tc_rules.proofs.Sameness.{move_same, move_self, every_kept}
use Rattle.tc_rows.proofs.Numbers.{of_move, of_look}
use Rattle.tc_rows.specs.Triples.{Triple, IsTriple, Select, sheet, selects, moves, looks}
use Rattle.tc_rows.proofs.States.{state_at, all_selects}
use Rattle.tc_rows.proofs.Append.{count_rises}
use Rattle.tc_rows.proofs.Inside.{some_at}
use Rattle.tc_rows.proofs.Reading.{fewer_moves}

module _ (s : Sheet) (is : IsSheet s) where
  -- modes are those of the stylesheet, or those of its for-eaches
  abbrev Low : Move → Type 0
  Low w = w.mode < s.modes + s.eaches

  mutual
    body_low : (b : Body) → IsBody s b → Every Low (moves_in_body s.modes b)
    body_low no_instruction i = tt
    body_low (put_text x b) i = body_low b i.1
    body_low (put_element n inner b) i = every_append Low (moves_in_body s.modes inner) (moves_in_body s.modes b) (body_low inner i.1) (body_low b i.2)
    body_low (copy inner b) i = every_append Low (moves_in_body s.modes inner) (moves_in_body s.modes b) (body_low inner i.0) (body_low b i.1)
    body_low (apply p m b) i = (omega (arith, i.1), body_low b i.2)
    body_low (call n b) i = body_low b i.1
    body_low (value p b) i = body_low b i.1
    body_low (value_of_self b) i = body_low b i
    body_low (choose y b) i = every_append Low (moves_in_branches s.modes y) (moves_in_body s.modes b) (branches_low y i.0) (body_low b i.1)
    body_low (for_each e p inner b) i =
        (omega (arith, i.0), every_append Low (moves_in_body s.modes inner) (moves_in_body s.modes b) (body_low inner i.2) (body_low b i.3))

    branches_low : (y : Branches) → AreBranches s y → Every Low (moves_in_branches s.modes y)
    branches_low (otherwise b) i = body_low b i
    branches_low (branch t b y) i = every_append Low (moves_in_body s.modes b) (moves_in_branches s.modes y) (body_low b i.1) (branches_low y i.2)

  rules_low : (rs : List Rule) → All (IsRule s) rs → Every Low (flat_map (λ r. moves_in_body s.modes r.body) rs)
  rules_low [] a = tt
  rules_low (r ∷ rs) a =
      every_append Low (moves_in_body s.modes r.body) (flat_map (λ q. moves_in_body s.modes q.body) rs) (body_low r.body (All-head (IsRule s) r rs a).body) (rules_low rs (All-tail (IsRule s) r rs a))

  named_low : (bs : List Body) → All (IsBody s) bs → Every Low (flat_map (moves_in_body s.modes) bs)
  named_low [] a = tt
  named_low (b ∷ bs) a = every_append Low (moves_in_body s.modes b) (flat_map (moves_in_body s.modes) bs) (body_low b (All-head (IsBody s) b bs a)) (named_low bs (All-tail (IsBody s) b bs a))

  abbrev of_children : ℕ → Move
  of_children m = record { path = all_children; mode = m }

  modes_low : (n : ℕ) → n ≤ s.modes → Every Low (map of_children (numbers_below n))
  modes_low zero l = tt
  modes_low (suc n) l = of_append (numbers_below n) n (modes_low n (omega (arith, l))) (omega (arith, l))
    where
      of_append : (ks : List ℕ) (k : ℕ) → Every Low (map of_children ks) → k < s.modes + s.eaches → Every Low (map of_children (ks ++ k ∷ []))
      of_append [] k a h = (h, tt)
      of_append (j ∷ ks) k a h = (a.0, of_append ks k a.1 h)

  all_low : Every Low (moves_of s)
  all_low =
      every_kept same_move move_same move_self Low [] _
      (every_append Low (map of_children (numbers_below s.modes)) _ (modes_low s.modes (omega arith)) (every_append Low (flat_map (λ r. moves_in_body s.modes r.body) s.rules) _ (rules_low s.rules is.rules) (named_low s.named is.named)))

  -- the bodies of for-eaches are well-formed
  mutual
    each_body : (b : Body) → IsBody s b → (f : ForEach) → Has (eaches_in b) f → IsBody s f.body
    each_body no_instruction i f h = absurd h
    each_body (put_text x b) i f h = each_body b i.1 f h
    each_body (put_element n inner b) i f h = elim (has_either (eaches_in inner) (eaches_in b) f h) [ inl a ↦ each_body inner i.1 f a | inr a ↦ each_body b i.2 f a ]
    each_body (copy inner b) i f h = elim (has_either (eaches_in inner) (eaches_in b) f h) [ inl a ↦ each_body inner i.0 f a | inr a ↦ each_body b i.1 f a ]
    each_body (apply p m b) i f h = each_body b i.2 f h
    each_body (call n b) i f h = each_body b i.1 f h
    each_body (value p b) i f h = each_body b i.1 f h
    each_body (value_of_self b) i f h = each_body b i f h
    each_body (choose y b) i f h = elim (has_either (eaches_in_branches y) (eaches_in b) f h) [ inl a ↦ each_of_branches y i.0 f a | inr a ↦ each_body b i.1 f a ]
    each_body (for_each e p inner b) i f (inl same) = subst (λ (w : ForEach). IsBody s w.body) same i.2
    each_body (for_each e p inner b) i f (inr h) = elim (has_either (eaches_in inner) (eaches_in b) f h) [ inl a ↦ each_body inner i.2 f a | inr a ↦ each_body b i.3 f a ]

    each_of_branches : (y : Branches) → AreBranches s y → (f : ForEach) → Has (eaches_in_branches y) f → IsBody s f.body
    each_of_branches (otherwise b) i f h = each_body b i f h
    each_of_branches (branch t b y) i f h = elim (has_either (eaches_in b) (eaches_in_branches y) f h) [ inl a ↦ each_body b i.1 f a | inr a ↦ each_of_branches y i.2 f a ]

  each_of_rules : (rs : List Rule) → All (IsRule s) rs → (f : ForEach) → Has (flat_map (λ r. eaches_in r.body) rs) f → IsBody s f.body
  each_of_rules [] a f h = absurd h
  each_of_rules (r ∷ rs) a f h = elim (has_either (eaches_in r.body) (flat_map (λ q. eaches_in q.body) rs) f h) [
    | inl k ↦ each_body r.body (All-head (IsRule s) r rs a).body f k
    | inr k ↦ each_of_rules rs (All-tail (IsRule s) r rs a) f k
  ]

  each_of_named : (bs : List Body) → All (IsBody s) bs → (f : ForEach) → Has (flat_map (λ b. eaches_in b) bs) f → IsBody s f.body
  each_of_named [] a f h = absurd h
  each_of_named (b ∷ bs) a f h = elim (has_either (eaches_in b) (flat_map (λ c. eaches_in c) bs) f h) [
    | inl k ↦ each_body b (All-head (IsBody s) b bs a) f k
    | inr k ↦ each_of_named bs (All-tail (IsBody s) b bs a) f k
  ]

  each_lawful : (f : ForEach) → Has (eaches_of s) f → IsBody s f.body
  each_lawful f h = elim (has_either (flat_map (λ r. eaches_in r.body) s.rules) (flat_map (λ b. eaches_in b) s.named) f h) [
    | inl k ↦ each_of_rules s.rules is.rules f k
    | inr k ↦ each_of_named s.named is.named f k
  ]

  -- each mode has a task
  pub task_of_mode : (n : ℕ) → n < s.modes + s.eaches → (j : CallFreeJob) × IsTaskOf s n j
  task_of_mode n l = by (cases n s.modes)
    where
      cases : (n k : ℕ) → (n < k) ⊎ (k ≤ n)
      cases n k = grind arith

      by : (n < s.modes) ⊎ (s.modes ≤ n) → (j : CallFreeJob) × IsTaskOf s n j
      by (inl low) = (in_mode n, of_mode low)
      by (inr high) =
          let (f, there, number) = is.each_number (n - s.modes) (omega (arith, l, high)) in
          let (p, u) = body_unfolds s is f.body (each_lawful f (has_from_contains (eaches_of s) f there)) in
          let same : n ≡ s.modes + f.number = omega (arith, high, number) in
          (in_body p, of_each same there u)

  pub task_of_move : (w : Move) → Has (moves_of s) w → (j : CallFreeJob) × IsTaskOf s w.mode j
  task_of_move w h = task_of_mode w.mode (every_member Low (moves_of s) w all_low h)

use_same : (w : Move) (b : PathUse) → of_move w ≡ b → b ≡ record { path = b.path; mode = Some w.mode }
use_same w b e = sym e ∙ ap (λ (c : PathUse). let u : PathUse = record { path = c.path; mode = Some w.mode } in u) e

-- what the uses at the front and at the back are
use_of_move : (ms : List Move) (bs : List PathUse) (i : ℕ) (b : PathUse) → i < length ms → slice_get (map of_move ms ++ bs) i ≡ Some b → (w : Move) × Has ms w × (of_move w ≡ b)
use_of_move [] bs i b l e = absurd (omega (arith, l))
use_of_move (w ∷ ms) bs zero b l e = (w, inl refl, same_Some (of_move w) b e)
use_of_move (w ∷ ms) bs (suc i) b l e = let (v, h, same) = use_of_move ms bs i b (omega (arith, l)) e in (v, inr h, same)

use_of_look : (ms : List Move) (ps : List Path) (i : ℕ) (b : PathUse) → length ms ≤ i → slice_get (map of_move ms ++ map of_look ps) i ≡ Some b → (p : Path) × (of_look p ≡ b)
use_of_look [] [] i b l e = absurd (cc)
use_of_look [] (p ∷ ps) zero b l e = (p, same_Some (of_look p) b e)
use_of_look [] (p ∷ ps) (suc i) b l e = use_of_look [] ps i b (omega arith) e
use_of_look (w ∷ ms) ps zero b l e = absurd (omega (arith, l))
use_of_look (w ∷ ms) ps (suc i) b l e = use_of_look ms ps i b (omega (arith, l)) e

module _ (x : Triple) (is : IsTriple x) where
  abbrev Uses : ℕ
  Uses = length (moves_of (sheet x))

  cases : (n k : ℕ) → (n < k) ⊎ (k ≤ n)
  cases n k = grind arith

  pub move_at : (k : ℕ) → k < moves x → (g : Going) × IsMoveAt x.rules k g
  move_at k l =
      let (y, e) = some_at (selects x) k (omega (arith, l, all_selects x is, fewer_moves x is)) in
      by y (state_at x is k y e)
    where
      by : (y : Select) → IsStateOf x.rules k y.by y.state → (g : Going) × IsMoveAt x.rules k g
      by y st = front (cases st.place Uses)
        where
          front : (st.place < Uses) ⊎ (Uses ≤ st.place) → (g : Going) × IsMoveAt x.rules k g
          front (inr high) = absurd (omega (arith, l, st.number_is, count_rises x.rules.selects Uses st.place high))
          front (inl low) =
              let (w, h, same) = use_of_move (moves_of (sheet x)) (map of_look (looks_of (sheet x))) st.place y.by low st.block in
              let (j, task) = task_of_move (sheet x) is.rules.well_formed w h in
              (record { task = j; path = w.path; state = y.state }, record { mode = w.mode; state = subst (λ b. IsStateOf x.rules k b y.state) (sym same) st; task = task })

  pub look_at : (i : ℕ) → i < looks x → (s : Looking) × IsLookAt x.rules (moves x + i) s
  look_at i l =
      let k = moves x + i in
      let (y, e) = some_at (selects x) (moves x + i) (omega (arith, l, all_selects x is)) in
      by y (state_at x is (moves x + i) y e)
    where
      by : (y : Select) → IsStateOf x.rules (moves x + i) y.by y.state → (s : Looking) × IsLookAt x.rules (moves x + i) s
      by y st = back (cases st.place Uses)
        where
          back : (st.place < Uses) ⊎ (Uses ≤ st.place) → (s : Looking) × IsLookAt x.rules (moves x + i) s
          back (inr high) =
              let (p, same) = use_of_look (moves_of (sheet x)) (looks_of (sheet x)) st.place y.by high st.block in
              (record { path = p; state = y.state }, subst (λ b. IsStateOf x.rules (moves x + i) b y.state) (sym same) st)
          back (inl low) =
              let (w, h, same) = use_of_move (moves_of (sheet x)) (map of_look (looks_of (sheet x))) st.place y.by low st.block in
              absurd (omega (arith, move_counted x.rules (moves x + i) w.mode y.by.path y.state (subst (λ b. IsStateOf x.rules (moves x + i) b y.state) (use_same w y.by same) st)))
