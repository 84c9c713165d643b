-- Rows don't depend on the tables in which states stand.
use Rattle.std.proofs.Common.{◌≡◌, ℕ, zero, suc, ◌+◌, ◌-◌, ◌*◌, ◌↔◌, List, [], ◌∷◌, refl, ap, sym, ◌∙◌, subst, map, take, length, get_or, Some, None, slice_get, arith}
use Rattle.std.proofs.lemmas.Option.{same_Some}
use Rattle.tc_model.specs.Chains.{Tree}
use Rattle.tc_model.specs.Grammars.{Grammar}
use Rattle.tc_model.specs.Machine as m
use Rattle.tc_model.specs.Numberings.{moves_of}
use Rattle.tc_model.specs.PathStates.{State}
use Rattle.tc_model.specs.Sheets.{Test, Body, Sheet, CallFreeBody}
use Rattle.tc_model.specs.StateCounts.{PathUse}
use Rattle.tc_model.specs.Symbols.{Mention}
use Rattle.tc_model.specs.Trees.{Trees}
use Rattle.tc_model.specs.TreesApart.{alone}
use Rattle.tc_rules.specs.Graphs.{Graph}
use Rattle.tc_rules.specs.RulesView.{IsStateOf, ancestor, count_states}
use Rattle.tc_rules.specs.States.{Going}
use Rattle.tc_rules.specs.Tasks.{IsMoveAt}
use Rattle.tc_rules.proofs.SelectStates.{count_cons}
use Rattle.tc_rows.specs.PairSets.{listed}
use Rattle.tc_rows.specs.Rows.{HedgeRow, TreeRow, AreEntries, AreLooks, IsHedgeRow, IsTreeRow, AreEntriesOf, AreLooksOf, IsRowOfHedge, IsRowOfTree, led}
use Rattle.tc_rows.specs.Triples.{Triple, machine, ancestors, moves, looks, entries}

abbrev pub states_of : Graph → List State
states_of g = g.states

-- the states of graphs, one graph after another
abbrev pub all_states : List Graph → List (List State)
all_states gs = map states_of gs

head_same : {X : Type 0} {a b : X} {xs ys : List X} → (a ∷ xs) ≡ (b ∷ ys) → a ≡ b
head_same e = cc

tail_same : {X : Type 0} {a b : X} {xs ys : List X} → (a ∷ xs) ≡ (b ∷ ys) → xs ≡ ys
tail_same e = cc

-- graphs of the same states have as many
pub same_count : (gs hs : List Graph) → all_states gs ≡ all_states hs → count_states gs ≡ count_states hs
same_count [] [] e = refl
same_count [] (h ∷ hs) e = absurd (cc)
same_count (g ∷ gs) [] e = absurd (cc)
same_count (g ∷ gs) (h ∷ hs) e =
    let first : length g.states ≡ length h.states = ap length (head_same e) in
    omega (arith, first, same_count gs hs (tail_same e), count_cons g gs, count_cons h hs)

pub same_taken : (gs hs : List Graph) (n : ℕ) → all_states gs ≡ all_states hs → count_states (take n gs) ≡ count_states (take n hs)
same_taken [] [] n e = refl
same_taken [] (h ∷ hs) n e = absurd (cc)
same_taken (g ∷ gs) [] n e = absurd (cc)
same_taken (g ∷ gs) (h ∷ hs) zero e = refl
same_taken (g ∷ gs) (h ∷ hs) (suc n) e =
    let first : length g.states ≡ length h.states = ap length (head_same e) in
    omega (arith, first, same_taken gs hs n (tail_same e), count_cons g (take n gs), count_cons h (take n hs))

same_graph : (gs hs : List Graph) (i : ℕ) (g : Graph) → all_states gs ≡ all_states hs → slice_get gs i ≡ Some g → (h : Graph) × (slice_get hs i ≡ Some h) × (g.states ≡ h.states)
same_graph [] hs i g e at = absurd (cc)
same_graph (k ∷ gs) [] i g e at = absurd (cc)
same_graph (k ∷ gs) (h ∷ hs) zero g e at = (h, refl, ap states_of (sym (same_Some _ _ at)) ∙ head_same e)
same_graph (k ∷ gs) (h ∷ hs) (suc i) g e at = same_graph gs hs i g (tail_same e) at

-- what rows go by, and what of a triple they don't go by, but for the states of moves and looks
pub record Bare : Type 0 where
  pub input : Grammar
  pub output : Grammar
  pub symbols : List Mention
  pub sheet : Sheet
  pub bodies : List CallFreeBody
  pub ancestors : List State

pub record Rest : Type 0 where
  pub predicates : List Test
  pub eaches : List Body
  pub above : Graph
  pub selects : List Graph

abbrev pub bare : Triple → Bare
bare x = record { input = x.input; output = x.output; symbols = x.symbols; sheet = x.rules.sheet; bodies = x.bodies; ancestors = x.rules.ancestors.states }

abbrev pub rest : Triple → Rest
rest x = record { predicates = x.rules.predicates; eaches = x.rules.eaches; above = x.rules.ancestors; selects = x.rules.selects }

abbrev pub made : Bare → Rest → Triple
made b w = record {
  input = b.input;
  output = b.output;
  symbols = b.symbols;
  rules = record { sheet = b.sheet; predicates = w.predicates; eaches = w.eaches; ancestors = record w.above { states = b.ancestors }; selects = w.selects };
  bodies = b.bodies;
}

module _ (b : Bare) (v w : Rest) (same : all_states v.selects ≡ all_states w.selects) where
  abbrev X : Triple
  X = made b v

  abbrev Y : Triple
  Y = made b w

  pub same_moves : moves X ≡ moves Y
  same_moves = same_taken v.selects w.selects (length (moves_of b.sheet)) same

  pub same_looks : looks X ≡ looks Y
  same_looks = let all : count_states v.selects ≡ count_states w.selects = same_count v.selects w.selects same in omega (arith, all, same_moves)

  entries_on : (es : List (List (ℕ × ℕ))) → AreEntries X es → AreEntries Y es
  entries_on es a = record { count = a.count ∙ ap (λ k. ancestors X * k) same_moves; each = a.each }

  looks_on : (vs : List ℕ) → AreLooks X vs → AreLooks Y vs
  looks_on vs a = record { count = a.count ∙ same_looks; each = a.each }

  pub hedge_row_on : (r : HedgeRow) → IsHedgeRow X r → IsHedgeRow Y r
  hedge_row_on r a = record { ascend = a.ascend; states = a.states; entries = entries_on r.entries a.entries; looks = looks_on r.looks a.looks }

  pub tree_row_on : (r : TreeRow) → IsTreeRow X r → IsTreeRow Y r
  tree_row_on r a = record { ascend = a.ascend; patterns = a.patterns; entries = entries_on r.entries a.entries; looks = looks_on r.looks a.looks }

  pub state_back : (k : ℕ) (u : PathUse) (s : State) → IsStateOf Y.rules k u s → IsStateOf X.rules k u s
  state_back k u s a =
      let (g, at, e) = same_graph w.selects v.selects a.place a.graph (sym same) a.graph_is in
      record {
        place = a.place;
        block = a.block;
        graph = g;
        graph_is = at;
        number = a.number;
        state = subst (λ z. slice_get z a.number ≡ Some s) e a.state;
        number_is = a.number_is ∙ ap (λ n. n + a.number) (sym (same_taken v.selects w.selects a.place same));
      }

  pub move_back : (k : ℕ) (g : Going) → IsMoveAt Y.rules k g → IsMoveAt X.rules k g
  move_back k g a = record { mode = a.mode; state = state_back k (record { path = g.path; mode = Some a.mode }) g.state a.state; task = a.task }

  entries_of_on : (h : Trees) (es : List (List (ℕ × ℕ))) → AreEntriesOf X h es → AreEntriesOf Y h es
  entries_of_on h es a q k g low at i j =
      subst (λ n. listed (get_or es (q * n + k) []) i j ↔ led X (m.outputs (machine X) h g.task (ancestor X.rules q) g).out i j) same_moves (a q k g low (move_back k g at) i j)

  looks_of_on : (h : Trees) (vs : List ℕ) → AreLooksOf X h vs → AreLooksOf Y h vs
  looks_of_on h vs a k s at = ap (λ n. get_or vs (k - n) 0) (sym same_moves) ∙ a k s (state_back k (record { path = s.path; mode = None }) s.state at)

  pub hedge_on : (h : Trees) (r : HedgeRow) → IsRowOfHedge X h r → IsRowOfHedge Y h r
  hedge_on h r a =
      record { row = hedge_row_on r a.row; ends = a.ends; bears = a.bears; states = a.states; entries = entries_of_on h r.entries a.entries; looks = looks_of_on h r.looks a.looks }

  pub tree_on : (t : Tree) (r : TreeRow) → IsRowOfTree X t r → IsRowOfTree Y t r
  tree_on t r a =
      record {
        row = tree_row_on r a.row;
        is_text = a.is_text;
        bears = a.bears;
        patterns = a.patterns;
        entries = entries_of_on (alone t) r.entries a.entries;
        looks = looks_of_on (alone t) r.looks a.looks;
      }

-- triples that are alike but for tables
pub record AreAlike (x y : Triple) : Type 0 where
  pub bare_same : bare x ≡ bare y
  pub selects_same : all_states x.rules.selects ≡ all_states y.rules.selects

pub alike_back : (x y : Triple) → AreAlike x y → AreAlike y x
alike_back x y a = record { bare_same = sym a.bare_same; selects_same = sym a.selects_same }

module _ (x y : Triple) (a : AreAlike x y) where
  pub hedge_alike : (h : Trees) (r : HedgeRow) → IsRowOfHedge x h r → IsRowOfHedge y h r
  hedge_alike h r k = subst (λ b. IsRowOfHedge (made b (rest y)) h r) a.bare_same (hedge_on (bare x) (rest x) (rest y) a.selects_same h r k)

  pub tree_alike : (t : Tree) (r : TreeRow) → IsRowOfTree x t r → IsRowOfTree y t r
  tree_alike t r k = subst (λ b. IsRowOfTree (made b (rest y)) t r) a.bare_same (tree_on (bare x) (rest x) (rest y) a.selects_same t r k)

  pub entries_alike : entries x + looks x ≡ entries y + looks y
  entries_alike =
      ap (λ n. ancestors x * n + looks x) (same_moves (bare x) (rest x) (rest y) a.selects_same)
      ∙ (ap (λ n. ancestors x * moves (made (bare x) (rest y)) + n) (same_looks (bare x) (rest x) (rest y) a.selects_same)
      ∙ ap (λ b. entries (made b (rest y)) + looks (made b (rest y))) a.bare_same)
