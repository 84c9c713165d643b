-- The root of a document as a place, and what is put out on it.
use Rattle.std.proofs.Common.{◌≤◌, ◌≡◌, ◌<◌, ◌==◌, [], ℕ, max, List, length, get_or, Bool, Option, option_map, All, subst, sym, ap, ap₂, ◌∙◌, refl, arith}
use Rattle.std.proofs.lemmas.List.{get_or_default}
use Rattle.tc_model.specs.States.{output, automaton, IsPart, the_start, first_state, IsAccepting}
use Rattle.tc_model.specs.Chains.{top}
use Rattle.tc_model.specs.Grammars.{Grammar}
use Rattle.tc_model.specs.Machine.{in_mode}
use Rattle.tc_model.specs.Paths.{fits}
use Rattle.tc_model.specs.RuleStates.{IsRuleOf}
use Rattle.tc_model.specs.Sheets.{CallFreeBody}
use Rattle.tc_model.specs.Trees.{none}
use Rattle.tc_model.proofs.StatesExact.{sound}
use Rattle.tc_model.proofs.StatesParts.{accepting_of_part, next_first}
use Rattle.tc_hedge.specs.Stands as h
use Rattle.tc_mat.specs.Matrix.{Matrix, HasPair, IsIdentity}
use Rattle.tc_mat.specs.Held.{Held, AreMatrices}
use Rattle.tc_rules.specs.Kept.{told}
use Rattle.tc_rules.specs.RulesView.{RulesView}
use Rattle.tc_rules.specs.States.{Chosen, chosen, plain_of, body_of_root}
use Rattle.tc_rules.specs.declared.rules.Rules.{Rules}
use Rattle.tc_rules.proofs.RuleOf.{chosen_number}
use Rattle.tc_rows.specs.Triples.{Triple, sheet, predicates, outputs, ancestors, entries}
use Rattle.tc_rows.specs.PairSets.{PairSet, HaveSamePairs, identity, product}
use Rattle.tc_rows.specs.Bodies.{NodeKind, on_root, on_element, on_text, Below, text_edges, body_pairs}
use Rattle.tc_rows.specs.Arithmetic.{below}
use Rattle.tc_rows.proofs.PairLaws.{same_self, same_on, product_same}
use Rattle.tc_rows.proofs.States.{some_ancestor}
use Rattle.tc_beh.specs.Grounds.{IsGroundIn, AreNamedSets}
use Rattle.tc_beh.specs.Heights.{deepest, deepest_rule}
use Rattle.tc_beh.specs.Places.{IsPlaceIn, kind_of, below_at, below_of, entries_by}
use Rattle.tc_beh.specs.Putting.{has, Extends}
use Rattle.tc_beh.specs.Rooms.{tree_layout, tree_row, outputs_in, looks_in, output_at}
use Rattle.tc_beh.specs.Roots.{IsRootIn, root_pairs}
use Rattle.tc_beh.specs.RowsOf.{AreRowsOf, StandsForTree}
use Rattle.tc_beh.specs.Stands.{IsRulesIn}
use Rattle.tc_beh.specs.Templates.{IsTemplate, built_in_on}
use Rattle.tc_beh.specs.declared.templates.Template.{Template}
use Rattle.tc_beh.specs.declared.bodies.At.TheVariants as at
use Rattle.tc_beh.specs.declared.bodies.Place.{Place}
use Rattle.tc_beh.specs.declared.machine.Machine.{Machine}
use Rattle.tc_beh.specs.declared.rooms.Room.{Room}
use Rattle.tc_beh.specs.declared.rooms.TRow.{TRow}
use Rattle.tc_beh.specs.declared.rows.Rows.{Rows}
use Rattle.tc_beh.specs.declared.rows.Work.{Work}
use Rattle.tc_beh.proofs.Deepening.{with_named}
use Rattle.tc_beh.proofs.RoomIs.{outputs_count}
use Rattle.tc_beh.proofs.RoomRows.{output_is}
use Rattle.tc_beh.proofs.Starts.{StartsBelow, stay_first, identity_begun, starts, below_starts}

module _ (x : Triple) (m : Machine) (held : Held) (w : Work) (t : Room) (is : IsRootIn x m held w t) (p : Place)
    (node_is : p.node ≡ at.Root) (outputs_are : p.outputs.now ≡ held) (bears_is : p.bears ≡ (get_or t.numbers.items 1 0 == 1))
    (entries_are : p.entries.now ≡ outputs_in t.flags t.entries t.numbers.items) (looks_are : p.looks.now ≡ looks_in t.flags t.entries t.numbers.items) (above_is : p.above ≡ 0) where
  abbrev ns : List ℕ
  ns = t.numbers.items

  abbrev n : ℕ
  n = length x.input.elements

  entries_here : p.entries.now ≡ outputs_in n (entries x) ns
  entries_here = entries_are ∙ ap₂ (λ a b. outputs_in a b ns) is.parted.flags is.parted.entries

  looks_here : p.looks.now ≡ looks_in n (entries x) ns
  looks_here = looks_are ∙ ap₂ (λ a b. looks_in a b ns) is.parted.flags is.parted.entries

  -- what is said of the root and of what the row says is below it holds of the place
  pub seen_as_root : (F : NodeKind → Below → Type 0) → F (kind_of p.node) (below_of x p) → F on_root (below x (get_or ns 1 0 == 1) (entries_by held.matrices (outputs_in n (entries x) ns)) (looks_in n (entries x) ns) 0)
  seen_as_root F here =
      let b = get_or ns 1 0 == 1 in
      let os : List ℕ = outputs_in n (entries x) ns in
      let vs : List ℕ = looks_in n (entries x) ns in
      let one = subst (λ k. F (kind_of k) (below_at x (kind_of k) p.bears (entries_by p.outputs.now.matrices p.entries.now) p.looks.now p.above)) node_is here in
      let two = subst (λ c. F on_root (below x c (entries_by p.outputs.now.matrices p.entries.now) p.looks.now p.above)) bears_is one in
      let three = subst (λ (e : Held). F on_root (below x b (entries_by e.matrices p.entries.now) p.looks.now p.above)) outputs_are two in
      let four = subst (λ e. F on_root (below x b (entries_by held.matrices e) p.looks.now p.above)) entries_here three in
      let five = subst (λ e. F on_root (below x b (entries_by held.matrices os) e p.above)) looks_here four in
      subst (λ e. F on_root (below x b (entries_by held.matrices os) vs e)) above_is five

  not_element : (a : ℕ) → kind_of p.node ≡ on_element a → ⊥
  not_element a e = let f : on_root ≡ on_element a = sym (ap kind_of node_is) ∙ e in absurd (cc)

  not_text : kind_of p.node ≡ on_text → ⊥
  not_text e = let f : on_root ≡ on_text = sym (ap kind_of node_is) ∙ e in absurd (cc)

  entry_low : (i d : ℕ) → i < length p.entries.now → get_or p.entries.now i d < length p.outputs.now.matrices
  entry_low i d low =
      let count : length p.entries.now ≡ entries x = ap length entries_here ∙ outputs_count (tree_layout x) held.matrices ns is.numbers in
      let inside : i < entries x = omega (arith, low, count) in
      let value : get_or p.entries.now i d ≡ output_at n ns i = get_or_default p.entries.now i d 0 low ∙ (ap (λ l. get_or l i 0) entries_here ∙ output_is n (entries x) ns i inside) in
      let many : length p.outputs.now.matrices ≡ length held.matrices = ap (λ (e : Held). length e.matrices) outputs_are in
      omega (arith, value, many, is.numbers.outs i inside)

  pub is_ground : AreMatrices held → p.rules.now ≡ m.rules → p.output.now ≡ m.output → p.alphabet.now ≡ m.alphabet → p.text.now ≡ w.text → IsGroundIn x p
  is_ground all rules_are output_is alphabet_is text_is = record {
    rules = subst (IsRulesIn x) (sym rules_are) is.machine.parts.are_rules;
    hedge = subst (h.Stands output x.output x.symbols) (sym output_is) is.machine.parts.states;
    symbols = alphabet_is ∙ is.machine.parts.same_symbols;
    size = ap (λ (e : Matrix). e.size) text_is ∙ is.work.text_size;
    text = subst (λ e. HaveSamePairs (has e) (text_edges x)) (sym text_is) is.work.text;
    held = ap (λ (e : Held). e.size) outputs_are ∙ is.size;
    sizes = subst (λ (e : Held). All (λ (f : Matrix). f.size ≡ outputs x) e.matrices) (sym outputs_are) (λ k d l. (all k d l).0 ∙ is.size);
    outs = entry_low;
    symbol = λ a e. absurd (not_element a e);
    nothing = λ e. absurd (not_text e);
    bears = λ e. absurd (not_text e);
    count = λ e. ap length entries_here ∙ outputs_count (tree_layout x) held.matrices ns is.numbers;
    above = subst (λ q. q < ancestors x) (sym above_is) (some_ancestor x is.machine.parts.are_rules.triple);
  }

  pub is_placed : AreMatrices held → p.rules.now ≡ m.rules → p.output.now ≡ m.output → p.alphabet.now ≡ m.alphabet → p.text.now ≡ w.text → AreNamedSets p p.named.now → IsPlaceIn x p
  is_placed all rules_are output_is alphabet_is text_is named = with_named x p p.named (is_ground all rules_are output_is alphabet_is text_is) named

-- what is put out on the root, behind nothing, is what the row says
module _ (x : Triple) (m : Machine) (held : Held) (w : Work) (t : Room) (is : IsRootIn x m held w t) (all : AreMatrices held) (b : Bool) (os vs : List ℕ) (bears_is : b ≡ (get_or t.numbers.items 1 0 == 1))
    (entries_are : os ≡ outputs_in t.flags t.entries t.numbers.items) (looks_are : vs ≡ looks_in t.flags t.entries t.numbers.items) where
  -- the root as a place, without sets of named bodies
  abbrev here : Place
  here = record {
    rules = record { ref_ptr = (0, 0); now = m.rules };
    output = record { ref_ptr = (0, 0); now = m.output };
    alphabet = record { ref_ptr = (0, 0); now = m.alphabet };
    outputs = record { ref_ptr = (0, 0); now = held };
    text = record { ref_ptr = (0, 0); now = w.text };
    named = record { ref_ptr = (0, 0); now = [] };
    runs = record { ref_ptr = (0, 0); now = [] };
    node = at.Root;
    bears = b;
    entries = record { ref_ptr = (0, 0); now = os };
    looks = record { ref_ptr = (0, 0); now = vs };
    above = 0;
  }

  abbrev below_here : Below
  below_here = below x b (entries_by held.matrices os) vs 0

  abbrev body_here : CallFreeBody
  body_here = body_of_root x.symbols (predicates x) (sheet x).rules x.bodies (in_mode 0)

  pub root_put : (old new : Matrix) → old.size ≡ outputs x → IsIdentity old → Extends old new (body_pairs x body_here on_root below_here) → HaveSamePairs (has new) (root_pairs x (tree_row x held.matrices t.numbers.items))
  root_put old new size nothing put =
      let n : ℕ = outputs x in
      let r : PairSet = body_pairs x body_here on_root below_here in
      let ground : IsGroundIn x here = is_ground x m held w t is here refl refl bears_is entries_are looks_are refl all refl refl refl refl in
      let begins : StartsBelow n r = starts x on_root below_here (below_starts x here ground) body_here in
      let one : HaveSamePairs (has new) r = same_on (has new) (product (has old) r) r put
      (same_on (product (has old) r) (product (identity n) r) r (product_same (has old) (identity n) r r (identity_begun old n size nothing) (same_self r)) (stay_first n r begins)) in
      seen_as_root x m held w t is here refl refl bears_is entries_are looks_are refl (λ k v. HaveSamePairs (has new) (body_pairs x body_here k v)) one

-- no template of the root is deeper than the machine's
pub root_depth : (x : Triple) (m : Machine) (held : Held) (w : Work) (t : Room) → IsRootIn x m held w t → max (deepest_rule (told m.rules).sheet.rules) (deepest (told m.rules).sheet.named) ≤ m.depth
root_depth x m held w t is =
    let deepest_told : max (deepest_rule (told m.rules).sheet.rules) (deepest (told m.rules).sheet.named) ≡ m.depth = ap (λ (v : RulesView). max (deepest_rule v.sheet.rules) (deepest v.sheet.named)) is.machine.parts.are_rules.told ∙ sym is.machine.depth in
    omega (arith, deepest_told)

-- what the rule of the root means on it
pub root_meant : (x : Triple) (r : Rules) → IsRulesIn x r → (o : Option ℕ) (w : Template) (k : NodeKind) → k ≡ on_root
    → IsRuleOf (told r).sheet.rules 0 (λ i q. fits q.pattern (top none)) o
    → ((own : ℕ → CallFreeBody) (y : Option Chosen) → option_map (λ z. z.number) y ≡ o → IsTemplate (sheet x).named own w (plain_of x.bodies (own 0) y))
    → IsTemplate (sheet x).named (built_in_on k) w (body_of_root x.symbols (predicates x) (sheet x).rules x.bodies (in_mode 0))
root_meant x r is o w k root ruled meant =
    let rules = (sheet x).rules in
    let here : IsRuleOf rules 0 (λ i q. fits q.pattern (top none)) o = subst (λ (t : RulesView). IsRuleOf t.sheet.rules 0 (λ i q. fits q.pattern (top none)) o) is.told ruled in
    let y : Option Chosen = chosen rules 0 (λ i q. fits q.pattern (top none)) in
    subst (λ n. IsTemplate (sheet x).named (built_in_on n) w (body_of_root x.symbols (predicates x) rules x.bodies (in_mode 0))) (sym root)
    (meant (built_in_on on_root) y (chosen_number rules 0 (λ i q. fits q.pattern (top none)) o here))

-- an accepting state of a schema's start to which pairs lead its state 0
module _ (g : Grammar) (set : Matrix) (end : ℕ) (ends : end ≡ first_state g output 1) where
  pub ends_at : (state : ℕ) → state < end → HasPair set 0 state → IsAccepting g output state → (j : ℕ) × HasPair set 0 j × (automaton g.start).accepting j
  ends_at state low pair accepts =
      let part : IsPart g output 0 g.start = the_start in
      let below : state < (automaton g.start).count = omega (arith, next_first g output part, low, ends) in
      (state, pair, accepting_of_part g output state state part below (omega arith) accepts)

  pub ends_nowhere : ((state : ℕ) → state < end → HasPair set 0 state → IsAccepting g output state → ⊥) → (j : ℕ) × HasPair set 0 j × (automaton g.start).accepting j → ⊥
  ends_nowhere isnt (j, pair, accepts) =
      let part : IsPart g output 0 g.start = the_start in
      let q = sound g.start in
      isnt j (omega (arith, next_first g output part, q.accepted j accepts, ends)) pair (0, g.start, j, part, omega arith, accepts)

-- rows and the room of a tree are such a root
pub is_root : (x : Triple) (r : Rows) (t : TRow) → AreRowsOf x r → StandsForTree x r t → IsRootIn x r.machine.now r.outputs r.work t.room
is_root x r t are stands = record { machine = are.machine; size = are.size; work = are.work; parted = stands.parted; numbers = stands.numbers }
