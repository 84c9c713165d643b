-- The current node: what is kept of it is right, and what a body puts out on it.
use Rattle.std.proofs.Common.{◌≡◌, ℕ, ◌<◌, List, [], refl, ap, ◌∙◌, length, cond, Some, slice_get, Bor}
use Rattle.std.proofs.lemmas.Option.{get_or_from_slice_get, slice_get_within}
use Rattle.tc_model.specs.Chains as c
use Rattle.tc_model.specs.Machine.{CallFreeJob, does_in, does_at, outputs}
use Rattle.tc_model.specs.Outcomes.{Outcome, nothing, join, counted}
use Rattle.tc_model.specs.PathStates.{State, is_empty_state, first_state, path_of_rules}
use Rattle.tc_model.specs.Views.{name}
use Rattle.tc_model.specs.Sheets.{Path, no_alternative, CallFreeBody}
use Rattle.tc_model.specs.Trees as t
use Rattle.tc_model.specs.declared.tree.Name.{Name}
use Rattle.tc_rules.specs.Asked.{letter}
use Rattle.tc_rules.specs.declared.rules.Kind.TheVariants as kinds
use Rattle.tc_rules.specs.States.{Going}
use Rattle.tc_rules.specs.RulesView.{ancestor}
use Rattle.tc_run.specs.Lettered as l
use Rattle.tc_run.specs.Lettered.{bare}
use Rattle.tc_run.specs.Running.{IsLetteredBy, told_by, sheet_by, symbols_by, predicates_by, machine}
use Rattle.tc_run.specs.Ready.{IsContext}
use Rattle.tc_run.specs.Views.{before, trees, node}
use Rattle.tc_rules.specs.Tasks.{going_from}
use Rattle.tc_run.specs.Tasks.{does, outputs_on}
use Rattle.tc_run.specs.declared.bodies.Context.{Context}
use Rattle.tc_run.specs.declared.bodies.Shape.TheVariants as shapes
use Rattle.tc_run.specs.declared.letters.Letter.{Letter as LetterOf}
use Rattle.tc_run.specs.declared.letters.Lettered.{Lettered, Elem}
use Rattle.tc_run.specs.declared.runner.Runner.{Runner}
use Rattle.tc_rules.proofs.NothingBelow.{outputs_none}
use Rattle.tc_run.proofs.Loops.{element_first}
use Rattle.tc_run.proofs.OneTree.{ElementAt, element_at}
use Rattle.tc_run.proofs.Views.{before_elem}
use Rattle.tc_model.proofs.TotalJoin.{join_none}

abbrev pub here_elem : Name → Bor (List Lettered) → ℕ → Context
here_elem n kids above = record { shape = shapes.Elem n; kids = kids; above = above }

abbrev pub here_text : Bor (List ℕ) → Bor (List Lettered) → ℕ → Context
here_text s kids above = record { shape = shapes.Text s; kids = kids; above = above }

abbrev pub here_root : Bor (List Lettered) → ℕ → Context
here_root kids above = record { shape = shapes.Root; kids = kids; above = above }

module _ (r : Runner) where
  pub is_here_elem : (n : Bor Name) (x : LetterOf) (kids : Bor (List Lettered)) (rest : l.Lettered) (above : ℕ)
      → ElementAt r n x kids rest → above < length (told_by r).ancestors.states → IsContext r (here_elem n.now kids above)
  is_here_elem n x kids rest above a h = record { kids = a.kids_are; children_are = refl; above = h }

  pub is_here_root : (kids : Bor (List Lettered)) (above : ℕ) → IsLetteredBy r (trees kids.now) → above < length (told_by r).ancestors.states → IsContext r (here_root kids above)
  is_here_root kids above k h = record { kids = k; children_are = refl; above = h }

  -- the ancestor state at an element
  pub down_low : (k : ℕ) (u : State) → slice_get (told_by r).ancestors.states k ≡ Some u → k < length (told_by r).ancestors.states
  down_low k u e = slice_get_within (told_by r).ancestors.states k u e

  pub down_is : (k : ℕ) (u : State) → slice_get (told_by r).ancestors.states k ≡ Some u → ancestor (told_by r) k ≡ u
  down_is k u e = get_or_from_slice_get (told_by r).ancestors.states k u [] e

  module _ (bodies : List CallFreeBody) where
    -- a path of no alternative selects nothing
    pub none_selected : (h : t.Trees) (above : ℕ) (k : CallFreeJob) (p : Path) → p ≡ no_alternative → outputs_on r bodies h above (going_from k p) ≡ nothing
    none_selected h above k p e =
        outputs_none (symbols_by r) (predicates_by r) (sheet_by r).rules bodies h k (ancestor (told_by r) above) (going_from k p) (ap (λ q. is_empty_state (first_state q)) e)

    -- of the root
    pub does_on_root : (p : CallFreeBody) (kids : Bor (List Lettered)) → ancestor (told_by r) 0 ≡ first_state (path_of_rules (sheet_by r).rules)
        → does r bodies p (here_root kids 0) ≡ does_at (machine r bodies) p (c.top (bare (trees kids.now)))
    does_on_root p kids e =
        let m = machine r bodies in
        let doc = bare (trees kids.now) in ap (λ (q : State). does_in m p (c.whole doc) (λ i u. outputs m doc i q u)) e

    -- one element and what stands below it
    pub outs_of_element : (above : ℕ) (g : Going) (h : Context) (x : Lettered) (n : Bor Name) (y : LetterOf) (kids : Bor (List Lettered))
        → IsLetteredBy r (before x l.none) → x ≡ Elem n y kids → node h ≡ c.one (c.an_element (name n.now) (bare (trees kids.now)))
        → ancestor (told_by r) h.above ≡ (machine r bodies).down_to (ancestor (told_by r) above) (letter (kinds.Elem y.sym) y.marks)
        → outputs_on r bodies (bare (before x l.none)) above g
        ≡ join
        (cond ((machine r bodies).move_hits g (letter (kinds.Elem y.sym) y.marks)) (counted (does r bodies ((machine r bodies).body_at g.task (ancestor (told_by r) above) (letter (kinds.Elem y.sym) y.marks)) h)) nothing)
        (outputs_on r bodies (bare (trees kids.now)) h.above ((machine r bodies).move_step g (letter (kinds.Elem y.sym) y.marks)))
    outs_of_element above g h x n y kids lettered is at down =
        let a = element_at r x n y kids l.none lettered is in
        let k = letter (kinds.Elem y.sym) y.marks in
        let first : Outcome = cond ((machine r bodies).move_hits g k) (counted (does r bodies ((machine r bodies).body_at g.task (ancestor (told_by r) above) k) h)) nothing in
        let below : Outcome = outputs_on r bodies (bare (trees kids.now)) h.above ((machine r bodies).move_step g k) in
        ap (λ z. outputs_on r bodies (bare (before z l.none)) above g) is
        ∙ (ap (λ z. outputs_on r bodies (bare z) above g) (before_elem n y kids l.none)
        ∙ (element_first r bodies above g h (name n.now) (bare (trees kids.now)) t.none k at a.letter_is down ∙ ap (join first) (join_none below)))
