-- What a move puts out where it selects a node, and where it does not.
use Rattle.std.proofs.Common.{◌≡◌, ℕ, ◌+◌, ◌<◌, ◌≤◌, List, ap, ◌∙◌, sym, subst, Bool, cond, drop, length, get_or, Some, Bor}
use Rattle.std.proofs.lemmas.Option.{same_Some}
use Rattle.std.proofs.lemmas.List.{drop_all}
use Rattle.tc_model.specs.Chains.{Tree, an_element, a_text, one}
use Rattle.tc_model.specs.Letters.{Letter, letter_of, IsLetter, of_symbol}
use Rattle.tc_model.specs.Machine.{CallFreeJob, does_in}
use Rattle.tc_model.specs.Names.{ExpandedName}
use Rattle.tc_model.specs.Outcomes.{Outcome, nothing, join, counted}
use Rattle.tc_model.specs.PathStates.{State, first_state}
use Rattle.tc_model.specs.Sheets.{Path, CallFreeBody}
use Rattle.tc_model.specs.Symbols.{Mention}
use Rattle.tc_model.specs.Trees as t
use Rattle.tc_model.proofs.TotalJoin.{join_none}
use Rattle.tc_rules.specs.Kept.{IsRulesOf}
use Rattle.tc_rules.specs.Views.{mode_of}
use Rattle.tc_rules.specs.States.{Going, built_in_at}
use Rattle.tc_rules.specs.RulesView.{IsStateOf, ancestor, is_hit_of, select_below}
use Rattle.tc_model.specs.StateCounts.{PathUse}
use Rattle.tc_rules.specs.declared.walk.Job.{Job}
use Rattle.tc_rules.proofs.PathTold.{trees_have_letters}
use Rattle.tc_run.specs.Lettered as l
use Rattle.tc_run.specs.Lettered.{bare}
use Rattle.tc_run.specs.Running.{IsRunner, told_by, sheet_by, symbols_by, predicates_by, machine}
use Rattle.tc_run.specs.Views.{before, trees, node}
use Rattle.tc_run.specs.Spent.{Spends}
use Rattle.tc_rules.specs.Tasks.{IsTaskOf, IsMoveAt, IsSomeMove, going_from}
use Rattle.tc_run.specs.Tasks.{built_in, does, outputs_on}
use Rattle.tc_run.specs.declared.bodies.Context.{Context}
use Rattle.tc_run.specs.declared.letters.Lettered.{Lettered}
use Rattle.tc_run.specs.declared.output.Output.{Output}
use Rattle.tc_run.specs.declared.runner.Runner.{Runner}
use Rattle.tc_run.proofs.Nodes.{here_text}
use Rattle.tc_run.proofs.OneTree.{outputs_beside}
use Rattle.tc_run.proofs.Spending.{spends_nothing}
use Rattle.tc_run.proofs.Views.{left_one}

module _ (r : Runner) where
  -- a letter of a tree is one
  pub is_letter : (x : Letter) (tree : Tree) → x ≡ letter_of (symbols_by r) (predicates_by r) tree → IsLetter (symbols_by r) (predicates_by r) x
  is_letter x tree e = subst (IsLetter (symbols_by r) (predicates_by r)) (sym e) (trees_have_letters (symbols_by r) (predicates_by r) tree)

  -- the job and the task of a state of a move
  pub task_is : (k : ℕ) (g : Going) (job : Job) → (at : IsMoveAt (told_by r) k g)
      → ((symbols : List Mention) (b : PathUse) (x : State) → IsRulesOf symbols r.rules.now → IsStateOf (told_by r) k b x → b.mode ≡ Some (mode_of (sheet_by r).modes job))
      → IsRunner r → IsTaskOf (sheet_by r) (mode_of (sheet_by r).modes job) g.task
  task_is k g job at ens is =
      subst (λ m. IsTaskOf (sheet_by r) m g.task) (same_Some _ _ (ens (symbols_by r) (record { path = g.path; mode = Some at.mode }) g.state is at.state)) at.task

  -- whether it selects a node
  pub hit_is : (k : ℕ) (g : Going) (x : Letter) (b : Bool) → (at : IsMoveAt (told_by r) k g) → IsRunner r → IsLetter (symbols_by r) (predicates_by r) x
      → ((symbols : List Mention) (w : PathUse) (y : State) → IsRulesOf symbols r.rules.now → IsLetter symbols (predicates_by r) x → IsStateOf (told_by r) k w y → b ≡ is_hit_of symbols (told_by r) w y x)
      → (bodies : List CallFreeBody) → b ≡ (machine r bodies).move_hits g x
  hit_is k g x b at is lx ens bodies = ens (symbols_by r) (record { path = g.path; mode = Some at.mode }) g.state is lx at.state

  pub first_going : (k : ℕ) (p : Path) (mode : ℕ) (j : CallFreeJob) → IsStateOf (told_by r) k (record { path = p; mode = Some mode }) (first_state p) → IsTaskOf (sheet_by r) mode j
      → IsMoveAt (told_by r) k (going_from j p)
  first_going k p mode j s t = record { mode = mode; state = s; task = t }

  -- the state below an element
  abbrev pub IsStep : ℕ → ℕ → Letter → Type 0
  IsStep k below x = (w : PathUse) (y : State) → IsStateOf (told_by r) k w y → IsStateOf (told_by r) below w (select_below (symbols_by r) (told_by r) w y x)

  pub move_below : (k below : ℕ) (x : Letter) → IsSomeMove (told_by r) k → IsStep k below x → IsSomeMove (told_by r) below
  move_below k below x s ens = record { path = s.path; mode = s.mode; state = _; at = ens (record { path = s.path; mode = Some s.mode }) s.state s.at }

  pub going_below : (bodies : List CallFreeBody) (k below : ℕ) (g : Going) (x : Letter) → (at : IsMoveAt (told_by r) k g) → IsStep k below x → IsMoveAt (told_by r) below ((machine r bodies).move_step g x)
  going_below bodies k below g x at ens = record { mode = at.mode; state = ens (record { path = g.path; mode = Some at.mode }) g.state at.state; task = at.task }

  module _ (bodies : List CallFreeBody) (above : ℕ) (g : Going) where
    -- on a text
    text_outs : (s : List ℕ) (x : Letter) (b : Bool) → x ≡ letter_of (symbols_by r) (predicates_by r) (a_text s) → b ≡ (machine r bodies).move_hits g x
        → outputs_on r bodies (t.text s t.none) above g
        ≡ cond b (counted (does_in (machine r bodies) ((machine r bodies).body_at g.task (ancestor (told_by r) above) x) (one (a_text s)) (λ i u. nothing))) nothing
    text_outs s x b e h =
        let m = machine r bodies in
        let q : State = ancestor (told_by r) above in
        let hit : Letter → Outcome = λ y. counted (does_in m (m.body_at g.task q y) (one (a_text s)) (λ i u. nothing)) in
        let f : Letter → Outcome = λ y. cond (m.move_hits g y) (hit y) nothing in
        ap (λ y. join (f y) nothing) (sym e) ∙ (join_none (f x) ∙ ap (λ c. cond c (hit x) nothing) (sym h))

    pub text_visited : (s : Bor (List ℕ)) (kids : Bor (List Lettered)) (x : Letter) (b : Bool) → x ≡ letter_of (symbols_by r) (predicates_by r) (a_text s.now) → b ≡ (machine r bodies).move_hits g x
        → outputs_on r bodies (t.text s.now t.none) above g ≡ cond b (counted (does r bodies ((machine r bodies).body_at g.task (ancestor (told_by r) above) x) (here_text s kids above))) nothing
    text_visited s kids x b e h = text_outs s.now x b e h

    -- the tree that comes next in a loop
    pub outs_next : (ns : List Lettered) (i : ℕ) (x : Lettered) → i < length ns → x ≡ get_or ns i x
        → outputs_on r bodies (bare (trees (drop i ns))) above g ≡ join (outputs_on r bodies (bare (before x l.none)) above g) (outputs_on r bodies (bare (trees (drop (i + 1) ns))) above g)
    outs_next ns i x h e = ap (λ z. outputs_on r bodies (bare z) above g) (left_one ns i x h e) ∙ outputs_beside r bodies above g x (trees (drop (i + 1) ns))

-- on an element
pub element_built_in : (h : Context) (n : ExpandedName) (kids : t.Trees) (k : ℕ) → node h ≡ one (an_element n kids) → (i : ℕ) → built_in_at i (of_symbol k) ≡ built_in i (node h)
element_built_in h n kids k e i = ap (built_in i) (sym e)

-- none is left
pub no_tree_left : (ns : List Lettered) (i : ℕ) → length ns ≤ i → bare (trees (drop i ns)) ≡ t.none
no_tree_left ns i h = ap (λ ms. bare (trees ms)) (drop_all i ns h)

pub spends_none : (around : ℕ) (x : Output) (o : Outcome) → o ≡ nothing → x.work ≤ 4000000 → around ≤ 8000 → Spends around x x o
spends_none around x o e h k = subst (Spends around x x) (sym e) (spends_nothing around x h k)
