-- What bodies put out, worked out by states: a function on the trees below a node, which sees nothing above them but a state.
-- This is a deterministic top-down tree transducer with look-ahead.
use Rattle.std.specs.Prelude.{◌≡◌, ℕ, List, [], ◌∷◌, Bool, true, false, ◌&&◌, ◌||◌, not, cond, Option, Some, None, is_some}
use Rattle.tc_model.specs.Trees.{Trees, none, text, element}
use Rattle.tc_model.specs.Chains.{Tree, an_element, a_text, Chain, top, under, Node, one, node_of, children, string_value}
use Rattle.tc_model.specs.Sheets.{Path, Test, always, never, has, negated, all_of, any_of, Tests, no_test, test, Body, Rule, CallFreeBody, p_done, p_text, p_element, p_copy, p_apply, p_call, p_value, p_self, p_choose, p_each, CallFreeBranches, p_otherwise, p_branch, Inlines}
use Rattle.tc_model.specs.Outcomes.{Outcome, nothing, join, within, counted, put, put_around, copied}
use Rattle.tc_model.specs.Paths.{any_along}
use Rattle.tc_model.specs.Meaning.{value_of_first, Job, by_mode, by_body, body_of}

-- a job whose bodies call nothing
pub data CallFreeJob : Type 0 where
  in_mode : ℕ → CallFreeJob
  in_body : CallFreeBody → CallFreeJob

pub data JobInlines (named : List Body) : Job → CallFreeJob → Type 0 where
  u_mode : {m : ℕ} → JobInlines named (by_mode m) (in_mode m)
  u_body : {b : Body} {p : CallFreeBody} → Inlines named b p → JobInlines named (by_body b) (in_body p)

-- all paths in it are known: those that select for a task, and those of values and tests
module _ (Move : CallFreeJob → Path → Type 0) (Look : Path → Type 0) where
  abbrev mutual
    pub known_test : Test → Type 0
    known_test always = Unit {0}
    known_test never = Unit {0}
    known_test (has p) = Look p
    known_test (negated t) = known_test t
    known_test (all_of ts) = known_tests ts
    known_test (any_of ts) = known_tests ts

    pub known_tests : Tests → Type 0
    known_tests no_test = Unit {0}
    known_tests (test t ts) = known_test t × known_tests ts

  abbrev mutual
    pub known : CallFreeBody → Type 0
    known p_done = Unit {0}
    known (p_text x b) = known b
    known (p_element n inner b) = known inner × known b
    known (p_copy inner b) = known inner × known b
    known (p_apply p m b) = Move (in_mode m) p × known b
    known (p_call inner b) = known inner × known b
    known (p_value p b) = Look p × known b
    known (p_self b) = known b
    known (p_choose x b) = known_branches x × known b
    known (p_each e p inner b) = Move (in_body inner) p × known inner × known b

    pub known_branches : CallFreeBranches → Type 0
    known_branches (p_otherwise b) = known b
    known_branches (p_branch t b x) = known_test t × known b × known_branches x

  abbrev pub known_task : CallFreeJob → Type 0
  known_task (in_mode m) = Unit {0}
  known_task (in_body b) = known b

-- States that the letters of trees lead on: those of moves, which select for a task, those of looks, for values and tests, and those of match patterns, which tell the body of a task. Of each kind some are the machine's own.
pub record Machine : Type 1 where
  pub Letter : Type 0
  pub letter : Tree → Letter
  pub Move : Type 0
  pub KnownMove : CallFreeJob → Path → Type 0
  pub move_first : CallFreeJob → Path → Move
  pub move_step : Move → Letter → Move
  pub move_hits : Move → Letter → Bool
  pub task_of : Move → CallFreeJob
  pub IsMove : Move → Type 0
  pub Look : Type 0
  pub KnownLook : Path → Type 0
  pub look_first : Path → Look
  pub look_step : Look → Letter → Look
  pub look_hits : Look → Letter → Bool
  pub IsLook : Look → Type 0
  pub Above : Type 0
  pub start : Above
  pub down_to : Above → Letter → Above
  pub IsAbove : Above → Type 0
  pub body_at : CallFreeJob → Above → Letter → CallFreeBody
  pub root_body : CallFreeJob → CallFreeBody

-- the first, or else the second
abbrev pub or_else : Option Node → Option Node → Option Node
or_else None b = b
or_else (Some n) b = Some n

-- trees lead from a state to a hit
abbrev pub picks : {L S : Type 0} → (Tree → L) → (S → L → S) → (S → L → Bool) → S → List Tree → Bool
picks letter step hits s [] = false
picks letter step hits s (t ∷ []) = hits s (letter t)
picks letter step hits s (t ∷ u ∷ us) = picks letter step hits (step s (letter t)) (u ∷ us)

module _ (m : Machine) where
  abbrev pub move_picks : m.Move → List Tree → Bool
  move_picks s ts = picks m.letter m.move_step m.move_hits s ts

  abbrev pub look_picks : m.Look → List Tree → Bool
  look_picks s ts = picks m.letter m.look_step m.look_hits s ts

  -- the state of the match patterns at a node
  abbrev pub above : Chain → m.Above
  above (top doc) = m.start
  above (under c t) = m.down_to (above c) (m.letter t)

  -- the first hit in trees and below, in document order
  abbrev pub first_hit : Trees → m.Look → Option Node
  first_hit none s = None
  first_hit (text x rest) s = or_else (cond (m.look_hits s (m.letter (a_text x))) (Some (one (a_text x))) None) (first_hit rest s)
  first_hit (element n kids rest) s = or_else (cond (m.look_hits s (m.letter (an_element n kids))) (Some (one (an_element n kids))) (first_hit kids (m.look_step s (m.letter (an_element n kids))))) (first_hit rest s)

  abbrev mutual
    pub holds_in : Test → Trees → Bool
    holds_in always h = true
    holds_in never h = false
    holds_in (has p) h = is_some (first_hit h (m.look_first p))
    holds_in (negated t) h = not (holds_in t h)
    holds_in (all_of ts) h = all_hold_in ts h
    holds_in (any_of ts) h = some_holds_in ts h

    pub all_hold_in : Tests → Trees → Bool
    all_hold_in no_test h = true
    all_hold_in (test t ts) h = holds_in t h && all_hold_in ts h

    pub some_holds_in : Tests → Trees → Bool
    some_holds_in no_test h = false
    some_holds_in (test t ts) h = holds_in t h || some_holds_in ts h

  -- what a body puts out on a node, where `outs` is what tasks put out on what is selected below it
  abbrev mutual
    pub does_in : CallFreeBody → Node → (CallFreeJob → m.Move → Outcome) → Outcome
    does_in p_done n outs = nothing
    does_in (p_text x b) n outs = join (within (put x)) (does_in b n outs)
    does_in (p_element a inner b) n outs = join (within (put_around a (does_in inner n outs))) (does_in b n outs)
    does_in (p_copy inner b) n outs = join (within (copied n (does_in inner n outs))) (does_in b n outs)
    does_in (p_apply p i b) n outs = join (within (outs (in_mode i) (m.move_first (in_mode i) p))) (does_in b n outs)
    does_in (p_call inner b) n outs = join (within (counted (does_in inner n outs))) (does_in b n outs)
    does_in (p_value p b) n outs = join (within (put (value_of_first (first_hit (children n) (m.look_first p))))) (does_in b n outs)
    does_in (p_self b) n outs = join (within (put (string_value n))) (does_in b n outs)
    does_in (p_choose x b) n outs = join (within (takes_in x n outs)) (does_in b n outs)
    does_in (p_each e p inner b) n outs = join (within (outs (in_body inner) (m.move_first (in_body inner) p))) (does_in b n outs)

    pub takes_in : CallFreeBranches → Node → (CallFreeJob → m.Move → Outcome) → Outcome
    takes_in (p_otherwise b) n outs = does_in b n outs
    takes_in (p_branch t b x) n outs = cond (holds_in t (children n)) (does_in b n outs) (takes_in x n outs)

  -- what a task puts out on the hits of a state in trees and below, from the state of the match patterns above them
  abbrev pub outputs : Trees → CallFreeJob → m.Above → m.Move → Outcome
  outputs none j q s = nothing
  outputs (text x rest) j q s =
      join (cond (m.move_hits s (m.letter (a_text x))) (counted (does_in (m.body_at j q (m.letter (a_text x))) (one (a_text x)) (λ i u. nothing))) nothing) (outputs rest j q s)
  outputs (element n kids rest) j q s =
      join
      (cond (m.move_hits s (m.letter (an_element n kids))) (counted (does_in (m.body_at j q (m.letter (an_element n kids))) (one (an_element n kids)) (λ i u. outputs kids i (m.down_to q (m.letter (an_element n kids))) u))) nothing)
      (join (outputs kids j (m.down_to q (m.letter (an_element n kids))) (m.move_step s (m.letter (an_element n kids)))) (outputs rest j q s))

  -- what a body puts out on a node
  abbrev pub does_at : CallFreeBody → Chain → Outcome
  does_at b c = does_in b (node_of c) (λ i u. outputs (children (node_of c)) i (above c) u)

  -- the body of a task on a node
  abbrev pub plain_at : CallFreeJob → Chain → CallFreeBody
  plain_at j (top doc) = m.root_body j
  plain_at j (under c t) = m.body_at j (above c) (m.letter t)

-- the states tell what the paths they know select, and what the rules say
pub record IsMachineOf (m : Machine) (rules : List Rule) (named : List Body) : Type 0 where
  pub moves_tell : (j : CallFreeJob) (p : Path) → m.KnownMove j p → (c : Chain) (t : Tree) (ts : List Tree) → any_along p c (t ∷ ts) ≡ move_picks m (m.move_first j p) (t ∷ ts)
  pub looks_tell : (p : Path) → m.KnownLook p → (c : Chain) (t : Tree) (ts : List Tree) → any_along p c (t ∷ ts) ≡ look_picks m (m.look_first p) (t ∷ ts)
  pub ruled : (j : Job) (k : CallFreeJob) (c : Chain) → JobInlines named j k → Inlines named (body_of rules j c) (plain_at m k c)
  pub knows : (k : CallFreeJob) (c : Chain) → known_task m.KnownMove m.KnownLook k → known m.KnownMove m.KnownLook (plain_at m k c)

-- a move keeps its task; its own states lead to its own, and their bodies hold known paths alone
pub record IsSteady (m : Machine) : Type 0 where
  pub first_task : (j : CallFreeJob) (p : Path) → m.KnownMove j p → m.task_of (m.move_first j p) ≡ j
  pub step_task : (s : m.Move) (l : m.Letter) → m.task_of (m.move_step s l) ≡ m.task_of s
  pub move_from : (j : CallFreeJob) (p : Path) → m.KnownMove j p → known_task m.KnownMove m.KnownLook j → m.IsMove (m.move_first j p)
  pub move_on : (s : m.Move) (t : Tree) → m.IsMove s → m.IsMove (m.move_step s (m.letter t))
  pub look_from : (p : Path) → m.KnownLook p → m.IsLook (m.look_first p)
  pub look_on : (s : m.Look) (t : Tree) → m.IsLook s → m.IsLook (m.look_step s (m.letter t))
  pub above_from : m.IsAbove m.start
  pub above_on : (q : m.Above) (t : Tree) → m.IsAbove q → m.IsAbove (m.down_to q (m.letter t))
  pub bodies : (s : m.Move) (q : m.Above) (t : Tree) → m.IsMove s → m.IsAbove q → known m.KnownMove m.KnownLook (m.body_at (m.task_of s) q (m.letter t))
