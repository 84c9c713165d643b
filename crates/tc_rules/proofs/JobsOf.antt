-- The jobs of all moves are a stylesheet's own: a mode doesn't change with the number from which for-eaches are counted, and a for-each's mode does.
use Rattle.std.proofs.Common.{◌≡◌, ◌⊎◌, inl, inr, ℕ, zero, suc, ◌+◌, ◌<◌, ◌≤◌, List, [], ◌∷◌, ◌++◌, refl, sym, subst, map, flat_map, length, get_or, arith, Result, Ok, Err, IfOk}
use Rattle.std.proofs.lemmas.List.{map-append}
use Rattle.tc_alpha.proofs.Members.{Every, every_append, every_from_all, all_from_every}
use Rattle.tc_model.specs.Sheets as s
use Rattle.tc_model.specs.Sheets.{no_instruction, put_text, put_element, copy, apply, call, for_each, value, value_of_self, choose, otherwise, branch}
use Rattle.tc_model.specs.Meaning.{all_children}
use Rattle.tc_model.specs.Numbered.{numbers_below}
use Rattle.tc_model.specs.Numberings.{Move, moves_in_body, moves_in_branches}
use Rattle.tc_model.specs.WellFormed.{IsSheet, IsBody, AreBranches, IsRule}
use Rattle.tc_rules.specs.Gathered.{built_in_moves}
use Rattle.tc_rules.specs.Jobs.{IsJob, AreJobs, written_moves}
use Rattle.tc_rules.specs.Views as seen
use Rattle.tc_rules.specs.declared.walk.Job.{Job}
use Rattle.tc_rules.specs.declared.walk.Job.TheVariants as jobs
use Rattle.tc_rules.specs.declared.walk.Move.{Move as MoveOf}

-- what follows from the value of a result
pub then_if_ok : {T E : Type 0} (r : Result T E) (P Q : T → Type 0) → ((v : T) → P v → Q v) → IfOk r P → IfOk r Q
then_if_ok (Ok x) P Q f h = f x h
then_if_ok (Err e) P Q f h = h

pub one_more_job : (x : s.Sheet) (ms : List MoveOf) (m : MoveOf) → AreJobs x ms → IsJob x m.job → AreJobs x (ms ++ m ∷ [])
one_more_job x ms m h k = every_append (λ (w : MoveOf). IsJob x w.job) ms (m ∷ []) h (k, tt)

pub job_at : (x : s.Sheet) (ms : List MoveOf) (i : ℕ) (d : MoveOf) → i < length ms → AreJobs x ms → IsJob x (get_or ms i d).job
job_at x ms i d l h = all_from_every (λ (w : MoveOf). IsJob x w.job) ms h i d l

module _ (x : s.Sheet) where
  -- a move, where for-eaches are counted from 0, and the same one where they are counted from 1
  abbrev Apart : ℕ → ℕ → Type 0
  Apart a b = ((a ≡ b) × (a < x.modes)) ⊎ ((b ≡ suc a) × (a < x.eaches))

  abbrev Sides : List Move → List Move → Type 0
  Sides [] [] = Unit {0}
  Sides [] (b ∷ bs) = ⊥
  Sides (a ∷ xs) [] = ⊥
  Sides (a ∷ xs) (b ∷ bs) = Apart a.mode b.mode × Sides xs bs

  joined : (xs us ys vs : List Move) → Sides xs us → Sides ys vs → Sides (xs ++ ys) (us ++ vs)
  joined [] [] ys vs h k = k
  joined [] (u ∷ us) ys vs h k = absurd h
  joined (a ∷ xs) [] ys vs h k = absurd h
  joined (a ∷ xs) (u ∷ us) ys vs h k = (h.0, joined xs us ys vs h.1 k)

  abbrev Of : s.Body → Type 0
  Of b = Sides (moves_in_body 0 b) (moves_in_body 1 b)

  abbrev OfBranches : s.Branches → Type 0
  OfBranches w = Sides (moves_in_branches 0 w) (moves_in_branches 1 w)

  two_bodies : (b c : s.Body) → Of b → Of c → Sides (moves_in_body 0 b ++ moves_in_body 0 c) (moves_in_body 1 b ++ moves_in_body 1 c)
  two_bodies b c h k = joined (moves_in_body 0 b) (moves_in_body 1 b) (moves_in_body 0 c) (moves_in_body 1 c) h k

  of_each : (e : ℕ) → e < x.eaches → Apart (0 + e) (1 + e)
  of_each e l = inr (omega arith, omega (arith, l))

  mutual
    in_body : (b : s.Body) → IsBody x b → Of b
    in_body no_instruction k = tt
    in_body (put_text w b) k = in_body b k.1
    in_body (put_element n inner b) k = two_bodies inner b (in_body inner k.1) (in_body b k.2)
    in_body (copy inner b) k = two_bodies inner b (in_body inner k.0) (in_body b k.1)
    in_body (apply p m b) k = (inl (refl, k.1), in_body b k.2)
    in_body (call n b) k = in_body b k.1
    in_body (value p b) k = in_body b k.1
    in_body (value_of_self b) k = in_body b k
    in_body (choose w b) k = joined (moves_in_branches 0 w) (moves_in_branches 1 w) (moves_in_body 0 b) (moves_in_body 1 b) (in_branches w k.0) (in_body b k.1)
    in_body (for_each e p inner b) k = (of_each e k.0, two_bodies inner b (in_body inner k.2) (in_body b k.3))

    in_branches : (w : s.Branches) → AreBranches x w → OfBranches w
    in_branches (otherwise b) k = in_body b k
    in_branches (branch t b w) k = joined (moves_in_body 0 b) (moves_in_body 1 b) (moves_in_branches 0 w) (moves_in_branches 1 w) (in_body b k.1) (in_branches w k.2)

  in_rules : (rs : List s.Rule) → Every (IsRule x) rs → Sides (flat_map (λ (r : s.Rule). moves_in_body 0 r.body) rs) (flat_map (λ (r : s.Rule). moves_in_body 1 r.body) rs)
  in_rules [] k = tt
  in_rules (r ∷ rs) k =
      joined (moves_in_body 0 r.body) (moves_in_body 1 r.body) (flat_map (λ (r : s.Rule). moves_in_body 0 r.body) rs) (flat_map (λ (r : s.Rule). moves_in_body 1 r.body) rs) (in_body r.body k.0.body) (in_rules rs k.1)

  in_named : (bs : List s.Body) → Every (IsBody x) bs → Sides (flat_map (moves_in_body 0) bs) (flat_map (moves_in_body 1) bs)
  in_named [] k = tt
  in_named (b ∷ bs) k = joined (moves_in_body 0 b) (moves_in_body 1 b) (flat_map (moves_in_body 0) bs) (flat_map (moves_in_body 1) bs) (in_body b k.0) (in_named bs k.1)

  abbrev to_children : ℕ → Move
  to_children m = record { path = all_children; mode = m }

  in_built_in : (n : ℕ) → n ≤ x.modes → Sides (map to_children (numbers_below n)) (map to_children (numbers_below n))
  in_built_in zero l = tt
  in_built_in (suc n) l =
      subst (λ (w : List Move). Sides w w) (sym (map-append to_children (numbers_below n) (n ∷ [])))
      (joined (map to_children (numbers_below n)) (map to_children (numbers_below n)) (to_children n ∷ []) (to_children n ∷ []) (in_built_in n (omega arith)) (inl (refl, omega arith), tt))

  written : IsSheet x → Sides (written_moves 0 x) (written_moves 1 x)
  written h =
      joined (built_in_moves x.modes) (built_in_moves x.modes) (flat_map (λ (r : s.Rule). moves_in_body 0 r.body) x.rules ++ flat_map (moves_in_body 0) x.named)
      (flat_map (λ (r : s.Rule). moves_in_body 1 r.body) x.rules ++ flat_map (moves_in_body 1) x.named) (in_built_in x.modes (omega arith))
      (joined (flat_map (λ (r : s.Rule). moves_in_body 0 r.body) x.rules) (flat_map (λ (r : s.Rule). moves_in_body 1 r.body) x.rules) (flat_map (moves_in_body 0) x.named) (flat_map (moves_in_body 1) x.named)
      (in_rules x.rules (every_from_all (IsRule x) x.rules h.rules)) (in_named x.named (every_from_all (IsBody x) x.named h.named)))

  not_next : (n : ℕ) → n ≡ suc n → ⊥
  not_next n e = omega (arith, e)

  job_is : (j : Job) → Apart (seen.mode_of 0 j) (seen.mode_of 1 j) → IsJob x j
  job_is (jobs.Mode m) (inl h) = h.1
  job_is (jobs.Mode m) (inr h) = absurd (not_next m h.0)
  job_is (jobs.Each e) (inl h) = absurd (omega (arith, h.0))
  job_is (jobs.Each e) (inr h) = omega (arith, h.1)

  jobs_of : (ms : List MoveOf) → Sides (seen.moves 0 ms) (seen.moves 1 ms) → AreJobs x ms
  jobs_of [] h = tt
  jobs_of (m ∷ ms) h = (job_is m.job h.0, jobs_of ms h.1)

  -- the jobs of the moves that were found
  pub found_jobs : IsSheet x → (ms : List MoveOf) → ((k : ℕ) → seen.moves k ms ≡ written_moves k x) → AreJobs x ms
  found_jobs h ms e = jobs_of ms (subst (λ (w : List Move). Sides w (seen.moves 1 ms)) (sym (e 0)) (subst (λ (w : List Move). Sides (written_moves 0 x) w) (sym (e 1)) (written h)))
