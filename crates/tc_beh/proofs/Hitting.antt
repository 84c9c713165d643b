-- What is put of a node, by the state of a move above it.
use Rattle.std.proofs.Common.{◌≡◌, ◌<◌, ℕ, List, true, false, Some, slice_get, nat_lt, subst, sym, ap, ◌∙◌, refl, arith}
use Rattle.std.proofs.lemmas.Bool.{lt-ltb, le-ltb}
use Rattle.std.proofs.lemmas.Option.{same_Some, slice_get_within}
use Rattle.tc_mat.specs.Matrix.{Matrix}
use Rattle.tc_model.specs.Letters.{Kind, of_symbol, of_text, Letter, IsLetter}
use Rattle.tc_model.specs.Machine.{CallFreeJob}
use Rattle.tc_model.specs.Numberings.{predicates_of}
use Rattle.tc_model.specs.PathStates.{State, is_empty_state, is_hit, next_state}
use Rattle.tc_model.specs.Sheets.{Body, CallFreeBody, Path, Test}
use Rattle.tc_model.specs.StateCounts.{PathUse}
use Rattle.tc_model.specs.Symbols.{Mention}
use Rattle.tc_rules.specs.Jobs.{IsJob}
use Rattle.tc_rules.specs.Kept.{told, IsRulesOf}
use Rattle.tc_rules.specs.RulesView.{RulesView, IsStateOf, is_hit_of, select_below, select_count, move_count, ancestor, ancestor_below}
use Rattle.tc_rules.specs.States.{Going, body_by, built_in_at}
use Rattle.tc_rules.specs.Tasks.{IsMoveAt, IsTaskOf}
use Rattle.tc_rules.specs.Views.{mode_of}
use Rattle.tc_rules.specs.declared.rules.Rules.{Rules}
use Rattle.tc_rules.specs.declared.walk.Job.{Job}
use Rattle.tc_rules.proofs.Counts.{move_counted}
use Rattle.tc_rows.specs.Triples.{Triple, sheet, predicates, moves, outputs, number, moving}
use Rattle.tc_rows.specs.PairSets.{PairSet, HaveSamePairs, product, listed}
use Rattle.tc_rows.specs.Rows.{entry}
use Rattle.tc_rows.specs.Bodies.{NodeKind, on_element, on_text, Below, body_pairs, stay}
use Rattle.tc_rows.specs.Arithmetic.{pairs_from, hits, hit_pairs, step}
use Rattle.tc_rows.proofs.PairLaws.{same_back, same_on, chosen_first, chosen_second}
use Rattle.tc_rows.proofs.States.{state_number, empty_number, ancestor_number}
use Rattle.tc_rows.proofs.Reading.{fewer_moves}
use Rattle.tc_rows.proofs.Decode.{move_at}
use Rattle.tc_beh.specs.Above.{node_of, pairs_at}
use Rattle.tc_beh.specs.Entries.{IsUnder}
use Rattle.tc_beh.specs.Places.{IsPlaceIn, kind_of, below_at, entries_by, size_at}
use Rattle.tc_beh.specs.Putting.{has, Extends}
use Rattle.tc_beh.specs.Stands.{IsRulesIn}
use Rattle.tc_beh.specs.Templates.{built_in_on, IsTemplate}
use Rattle.tc_beh.specs.declared.bodies.Place.{Place}
use Rattle.tc_beh.specs.declared.templates.Template.{Template}
use Rattle.tc_beh.proofs.Marking.{predicates_told}
use Rattle.tc_beh.proofs.PutLaws.{put_same, put_nothing, then_put}

abbrev pub of_move : Path → ℕ → PathUse
of_move p mode = record { path = p; mode = Some mode }

pub built_same : (k : Kind) → (λ m. built_in_at m k) ≡ built_in_on (node_of k)
built_same (of_symbol a) = refl
built_same of_text = refl

module _ (x : Triple) (r : Rules) (is : IsRulesIn x r) where
  pub select_low : (k : ℕ) → k < move_count (told r) → k < select_count (told r)
  select_low k h =
      let m : move_count (told r) ≡ moves x = ap move_count is.told in
      let n : select_count (told r) ≡ select_count x.rules = ap select_count is.told in
      omega (arith, h, m, n, fewer_moves x is.triple)

  pub low_told : (k : ℕ) → k < move_count (told r) → k < moves x
  low_told k h = subst (λ (t : RulesView). k < move_count t) is.told h

  -- each number of a move is that of a state
  pub some_move : (k : ℕ) → k < move_count (told r) → (g : Going) × IsMoveAt x.rules k g
  some_move k h = move_at x is.triple k (low_told k h)

  pub state_told : (k : ℕ) (b : PathUse) (s : State) → IsStateOf x.rules k b s → IsStateOf (told r) k b s
  state_told k b s st = subst (λ (t : RulesView). IsStateOf t k b s) (sym is.told) st

  pub hit_told : (b : PathUse) (s : State) (l : Letter) → is_hit_of x.symbols (told r) b s l ≡ hits x b.path s l
  hit_told b s l = ap (λ (ps : List Test). is_hit x.symbols ps b.path s l) (predicates_told x r is)

  pub step_told : (b : PathUse) (s : State) (l : Letter) → select_below x.symbols (told r) b s l ≡ step x b.path s l
  step_told b s l = ap (λ (ps : List Test). next_state x.symbols ps b.path s l) (predicates_told x r is)

  -- a letter of the triple is one of the rules
  pub lettered : (l : Letter) → IsLetter x.symbols (predicates x) l → IsLetter x.symbols (predicates_of (told r).sheet) l
  lettered l lx = subst (λ (ps : List Test). IsLetter x.symbols ps l) (sym (predicates_told x r is)) lx

  -- the task of a move, by its mode
  pub task_told : (mode n : ℕ) (k : CallFreeJob) → Some mode ≡ Some n → IsTaskOf (sheet x) mode k → IsTaskOf (sheet x) n k
  task_told mode n k e t = subst (λ m. IsTaskOf (sheet x) m k) (same_Some mode n e) t

  pub sheet_modes : (j : Job) (k : CallFreeJob) → IsTaskOf (sheet x) (mode_of (told r).sheet.modes j) k → IsTaskOf (sheet x) (mode_of (sheet x).modes j) k
  sheet_modes j k t = subst (λ (v : RulesView). IsTaskOf (sheet x) (mode_of v.sheet.modes j) k) is.told t

module _ (x : Triple) (p : Place) (is : IsPlaceIn x p) where
  abbrev outs : List (List (ℕ × ℕ))
  outs = entries_by p.outputs.now.matrices p.entries.now

  -- a state without items puts nothing
  pub pairs_none : (mode : ℕ) (w : Path) (s : State) → is_empty_state s ≡ true → HaveSamePairs (stay x) (pairs_from x outs p.above (moving mode w s))
  pairs_none mode w s e =
      let n = number x (moving mode w s) in
      let all : n ≡ select_count x.rules = empty_number x is.rules.triple (of_move w mode) s e in
      same_back _ _ (chosen_second (nat_lt n (moves x)) (listed (entry x outs p.above n)) (stay x) (le-ltb n (moves x) (omega (arith, all, fewer_moves x is.rules.triple))))

  pub pairs_some : (mode k : ℕ) (w : Path) (s : State) → IsStateOf (told p.rules.now) k (of_move w mode) s → HaveSamePairs (listed (entry x outs p.above k)) (pairs_from x outs p.above (moving mode w s))
  pairs_some mode k w s st =
      let at : IsStateOf x.rules k (of_move w mode) s = subst (λ (t : RulesView). IsStateOf t k (of_move w mode) s) is.rules.told st in
      let n = number x (moving mode w s) in
      let same : n ≡ k = state_number x is.rules.triple k (of_move w mode) s at in
      let low : nat_lt n (moves x) ≡ true = lt-ltb n (moves x) (omega (arith, same, move_counted x.rules k mode w s at)) in
      subst (λ i. HaveSamePairs (listed (entry x outs p.above i)) (pairs_from x outs p.above (moving mode w s))) same
      (same_back _ _ (chosen_first (nat_lt n (moves x)) (listed (entry x outs p.above n)) (stay x) low))

  -- where the state doesn't hit the node, and where it does
  pub hit_none : (m : Matrix) (g : Going) (q : ℕ) (l : Letter) (k : NodeKind) (w : Below) → m.size ≡ size_at p → hits x g.path g.state l ≡ false → Extends m m (hit_pairs x g q l k w)
  hit_none m g q l k w size e = put_same m m (stay x) (hit_pairs x g q l k w) (same_back _ _ (chosen_second (hits x g.path g.state l) _ (stay x) e)) (put_nothing m (outputs x) (size ∙ is.size))

  pub hit_some : (old new : Matrix) (g : Going) (q : ℕ) (l : Letter) (k : NodeKind) (w : Below) → hits x g.path g.state l ≡ true
      → Extends old new (body_pairs x (body_by x.symbols (predicates x) (sheet x).rules x.bodies g.task (ancestor x.rules q) l) k w) → Extends old new (hit_pairs x g q l k w)
  hit_some old new g q l k w e put = put_same old new _ (hit_pairs x g q l k w) (same_back _ _ (chosen_first (hits x g.path g.state l) _ (stay x) e)) put

-- one set behind another
pub both_put : (old mid new : Matrix) (r s : PairSet) → Extends old mid r → Extends mid new s → Extends old new (product r s)
both_put old mid new r s e f = same_on (has new) (product (has mid) s) (product (has old) (product r s)) f (then_put mid old r s e)

-- what is meant on a node, where the built-in rules go by what the node is
pub meant_on : (named : List Body) (k : Kind) (n : NodeKind) (w : Template) (b : CallFreeBody) → n ≡ node_of k → IsTemplate named (λ m. built_in_at m k) w b → IsTemplate named (built_in_on n) w b
meant_on named k n w b e t = subst (λ f. IsTemplate named f w b) (built_same k ∙ ap built_in_on (sym e)) t

-- what is put of an element, and of a text
module _ (x : Triple) (p : Place) (g : Going) (q mode marks : ℕ) where
  abbrev es : List (List (ℕ × ℕ))
  es = entries_by p.outputs.now.matrices p.entries.now

  abbrev with_kind : Kind → Letter
  with_kind k = record { kind = k; marks = marks }

  abbrev hit_at : NodeKind → Kind → PairSet
  hit_at n k = hit_pairs x g q (with_kind k) n (below_at x n p.bears es p.looks.now p.above)

  pub element_put : (old mid new : Matrix) (a : ℕ) (k : Kind) → k ≡ of_symbol a → kind_of p.node ≡ node_of k → Extends old mid (hit_at (kind_of p.node) k)
      → Extends mid new (pairs_from x es p.above (moving mode g.path (step x g.path g.state (with_kind (of_symbol a))))) → Extends old new (pairs_at x p.bears es p.looks.now q p.above mode g marks k)
  element_put old mid new a k kind node hit further =
      let here : hit_at (kind_of p.node) k ≡ hit_at (on_element a) (of_symbol a) = λ i. hit_at ((node ∙ ap node_of kind) i) (kind i) in
      subst (λ t. Extends old new (pairs_at x p.bears es p.looks.now q p.above mode g marks t)) (sym kind)
      (both_put old mid new (hit_at (on_element a) (of_symbol a)) (pairs_from x es p.above (moving mode g.path (step x g.path g.state (with_kind (of_symbol a)))))
      (subst (λ (r : PairSet). Extends old mid r) here hit) further)

  pub text_put : (old new : Matrix) (k : Kind) → k ≡ of_text → kind_of p.node ≡ node_of k → Extends old new (hit_at (kind_of p.node) k) → Extends old new (pairs_at x p.bears es p.looks.now q p.above mode g marks k)
  text_put old new k kind node hit =
      let here : hit_at (kind_of p.node) k ≡ hit_at on_text of_text = λ i. hit_at ((node ∙ ap node_of kind) i) (kind i) in
      subst (λ t. Extends old new (pairs_at x p.bears es p.looks.now q p.above mode g marks t)) (sym kind) (subst (λ (r : PairSet). Extends old new r) here hit)

-- the number of an ancestor state below an element
pub under_found : (x : Triple) (r : Rules) → IsRulesIn x r → (l : Letter) (q k : ℕ) → slice_get (told r).ancestors.states k ≡ Some (ancestor_below x.symbols (told r) q l) → IsUnder x l q k
under_found x r is l q k e =
    let at : slice_get x.rules.ancestors.states k ≡ Some (ancestor_below x.symbols x.rules q l) = subst (λ (t : RulesView). slice_get t.ancestors.states k ≡ Some (ancestor_below x.symbols t q l)) is.told e in
    record {
      low = slice_get_within x.rules.ancestors.states k (ancestor_below x.symbols x.rules q l) at;
      below = λ a f. sym (ancestor_number x is.triple k (ancestor_below x.symbols x.rules q l) at);
    }

-- the job of a state of a move
module _ (x : Triple) (r : Rules) (is : IsRulesIn x r) (k : ℕ) where
  pub is_job : (j : Job) → k < move_count (told r) → ((symbols : List Mention) (b : PathUse) (s : State) → IsRulesOf symbols r → IsStateOf (told r) k b s → IsJob (told r).sheet j) → IsJob (told r).sheet j
  is_job j low job =
      let (g, at) = some_move x r is k low in
      job x.symbols (of_move g.path at.mode) g.state is.rules (state_told x r is k (of_move g.path at.mode) g.state at.state)

  pub told_task : (g : Going) (at : IsMoveAt x.rules k g) (j : Job) → ((symbols : List Mention) (b : PathUse) (s : State) → IsRulesOf symbols r → IsStateOf (told r) k b s → b.mode ≡ Some (mode_of (told r).sheet.modes j))
      → IsTaskOf (sheet x) (mode_of (sheet x).modes j) g.task
  told_task g at j mode =
      let b : PathUse = of_move g.path at.mode in
      sheet_modes x r is j g.task (task_told x r is at.mode (mode_of (told r).sheet.modes j) g.task (mode x.symbols b g.state is.rules (state_told x r is k b g.state at.state)) at.task)
