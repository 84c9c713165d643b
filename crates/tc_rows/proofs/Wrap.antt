-- The row of an element around trees, of a text, and of no tree.
use Rattle.std.proofs.Common.{◌≡◌, ◌↔◌, ℕ, ◌+◌, ◌-◌, ◌*◌, ◌<◌, List, [], Bool, true, false, cond, refl, ap, ◌∙◌, sym, subst, Option, Some, None, Contains}
use Rattle.tc_model.specs.Names.{ExpandedName}
use Rattle.tc_model.specs.Trees.{Trees, none, text, element, beside, normal_form, is_white_space_only}
use Rattle.tc_model.specs.Chains.{an_element, a_text, Node, one}
use Rattle.tc_model.specs.TreesApart.{bears_text, IsApart}
use Rattle.tc_model.specs.Matching.{Matches}
use Rattle.tc_model.specs.Outcomes.{Outcome, nothing, join, counted}
use Rattle.tc_model.specs.Machine as m
use Rattle.tc_model.specs.Machine.{or_else, first_hit, does_in}
use Rattle.tc_model.specs.Letters.{Letter, letter_of}
use Rattle.tc_model.specs.Sheets.{CallFreeBody}
use Rattle.tc_model.specs.PathStates.{State}
use Rattle.tc_model.specs.States.{input, first_state, a_content, IsElementOf, Leads, at_end}
use Rattle.tc_model.specs.Symbols.{symbol_of}
use Rattle.tc_model.proofs.TreesApart.{normal_apart}
use Rattle.tc_model.proofs.TotalJoin.{beside_none}
use Rattle.tc_model.proofs.StatesExact.{sound}
use Rattle.tc_alpha.proofs.Members.{has_from_contains}
use Rattle.tc_rules.specs.States.{Going, Looking, body_by}
use Rattle.tc_rules.specs.Tasks.{IsMoveAt, IsLookAt}
use Rattle.tc_rules.specs.RulesView.{ancestor}
use Rattle.tc_rules.proofs.PathTold.{trees_have_letters}
use Rattle.tc_rules.proofs.Counts.{move_counted}
use Rattle.tc_hedge.proofs.Leading.{run_of_leads, run_of_none, leads_exactly}
use Rattle.tc_rows.specs.Triples.{Triple, IsTriple, sheet, predicates, machine, ancestors, moves, moving, looking, number_below}
use Rattle.tc_rows.specs.PairSets.{PairSet, HaveSamePairs, product, chosen, listed}
use Rattle.tc_rows.specs.Rows.{HedgeRow, TreeRow, IsRowOfHedge, IsRowOfTree, IsPatternOf, entry, look, value_of, hit_value, led, AreEntriesOf, AreLooksOf}
use Rattle.tc_rows.specs.Bodies.{on_element, on_text, stay}
use Rattle.tc_rows.specs.Arithmetic.{look_from, pairs_from, below, nothing_below, step, hits, hit_pairs, IsEmptyRow, IsTextRow, IsPatternAround, IsWrap}
use Rattle.tc_rows.proofs.Strings.{or_false}
use Rattle.tc_rows.proofs.PairLaws.{same_back, same_on}
use Rattle.tc_rows.proofs.Leading.{led_none, class_by_symbol}
use Rattle.tc_rows.proofs.Bodies.{body_same, together, cond_same}
use Rattle.tc_rows.proofs.States.{IsNumberBelow, stepped, below_number}
use Rattle.tc_rows.proofs.Reading.{look_read, pairs_read}
use Rattle.tc_rows.proofs.Placed.{task_parts, is_below, nothing_is_below, text_letter, element_letter}
use Rattle.tc_rows.proofs.Inside.{number_within, one_content}
use Rattle.tc_rows.proofs.Append.{look_index, entry_index}

value_cond : (b c : Bool) (n : Node) (o : Option Node) (v w : ℕ) → value_of (Some n) ≡ v → value_of o ≡ w → value_of (or_else (cond b (Some n) o) None) ≡ cond b v w
value_cond true c n o v w e f = e
value_cond false c n None v w e f = f
value_cond false c n (Some k) v w e f = f

module _ (x : Triple) (is : IsTriple x) where
  -- the element patterns of an element, by the row of its children
  pub wrap_patterns : (n : ExpandedName) (h : Trees) (r : HedgeRow) → IsApart h → IsRowOfHedge x h r → (k : ℕ) → IsPatternAround x (symbol_of x.symbols n) r k ↔ IsPatternOf x (an_element n h) k
  wrap_patterns n h r apart a k = (to, of)
    where
      normal : normal_form h ≡ h
      normal = (normal_apart h).1 apart

      to : IsPatternAround x (symbol_of x.symbols n) r k → IsElementOf x.input.elements k n h
      to (e, at, inside, (y, there, acc)) =
          let (i, low, high, l) = (a.states (first_state x.input input k + y)).0 there in
          let s = sound e.content in
          let same : i ≡ k = one_content x.input i k e y h low high at (s.accepted y acc) l in (
            e,
            at,
            subst (λ w. w ≡ true) (sym (class_by_symbol x is n k e at)) inside,
            subst (λ w. Matches x.input.elements w e.content) normal ((leads_exactly x.input input k e.content h (a_content at)).1 (y, subst (λ w. Leads x.input input (first_state x.input input w) h (first_state x.input input k + y)) same l, acc)),
          )

      of : IsElementOf x.input.elements k n h → IsPatternAround x (symbol_of x.symbols n) r k
      of (e, at, inside, matches) =
          let (low, high) = number_within x.input.elements k e at in
          let (y, l, acc) = (leads_exactly x.input input k e.content h (a_content at)).0 (subst (λ w. Matches x.input.elements w e.content) (sym normal) matches) in
          (e, at, subst (λ w. w ≡ true) (class_by_symbol x is n k e at) inside, (y, (a.states (first_state x.input input k + y)).1 (k, low, high, l), acc))

  cond_led : (b : Bool) (o : Outcome) (r : PairSet) → HaveSamePairs (led x o.out) r → HaveSamePairs (led x (cond b o nothing).out) (chosen b r (stay x))
  cond_led b o r e = cond_same x is b b o nothing r (stay x) refl e (led_none x is)

  alone_led : (h : Trees) (r : PairSet) → HaveSamePairs (led x h) r → HaveSamePairs (led x (beside h none)) r
  alone_led h r e = subst (λ w. HaveSamePairs (led x w) r) (sym (beside_none h)) e

  -- the entries and the looks of an element with a letter
  abbrev WrapEntries : ExpandedName → HedgeRow → TreeRow → Letter → Type 0
  WrapEntries n r u l =
      (q k : ℕ) (g : Going) (at : IsMoveAt x.rules k g) → q < ancestors x
      → HaveSamePairs (listed (entry x u.entries q k))
      (product (hit_pairs x g q l (on_element (symbol_of x.symbols n)) (below x r.bears r.entries r.looks (number_below x q l))) (pairs_from x r.entries (number_below x q l) (moving at.mode g.path (step x g.path g.state l))))

  abbrev WrapLooks : HedgeRow → TreeRow → Letter → Type 0
  WrapLooks r u l = (k : ℕ) (s : Looking) → IsLookAt x.rules k s → look x u.looks k ≡ cond (hits x s.path s.state l) (hit_value r.bears) (look_from x r.looks (looking s.path (step x s.path s.state l)))

  module _ (n : ExpandedName) (h : Trees) (r : HedgeRow) (u : TreeRow) (apart : IsApart h) (a : IsRowOfHedge x h r) where
    abbrev L : Letter
    L = letter_of x.symbols (predicates x) (an_element n h)

    abbrev BodyAt : ℕ → Going → CallFreeBody
    BodyAt q g = body_by x.symbols (predicates x) (sheet x).rules x.bodies g.task (ancestor x.rules q) L

    abbrev Moved : Going → Going
    Moved g = record { task = g.task; path = g.path; state = step x g.path g.state L }

    -- what is put out on the element, and inside it from an ancestor state
    abbrev OutFrom : ℕ → Going → State → Outcome
    OutFrom q g w =
        join (cond (hits x g.path g.state L) (counted (does_in (machine x) (BodyAt q g) (one (an_element n h)) (λ i v. m.outputs (machine x) h i w v))) nothing)
        (join (m.outputs (machine x) h g.task w (Moved g)) nothing)

    abbrev PairsAt : ℕ → Going → ℕ → PairSet
    PairsAt q g mode =
        product (hit_pairs x g q L (on_element (symbol_of x.symbols n)) (below x r.bears r.entries r.looks (number_below x q L))) (pairs_from x r.entries (number_below x q L) (moving mode g.path (step x g.path g.state L)))

    wrap_out : (q k : ℕ) (g : Going) (at : IsMoveAt x.rules k g) → q < ancestors x → IsNumberBelow x is q L → HaveSamePairs (led x (OutFrom q g (ancestor x.rules (number_below x q L))).out) (PairsAt q g at.mode)
    wrap_out q k g at low down =
        together x is _ _ _ _
        (cond_led (hits x g.path g.state L) _ _
        (body_same x is (one (an_element n h)) (below x r.bears r.entries r.looks (number_below x q L)) (λ i v. m.outputs (machine x) h i (ancestor x.rules (number_below x q L)) v)
        (is_below x is (one (an_element n h)) r.bears r.entries r.looks (number_below x q L) down.low apart (sym a.bears) a.entries a.looks) (BodyAt q g)
        (task_parts x is at.mode g.task (ancestor x.rules q) L at.task)))
        (alone_led _ _
        (pairs_read x is h r.entries a.entries (number_below x q L) down.low at.mode (Moved g) at.task
        (stepped x is k (record { path = g.path; mode = Some at.mode }) g.state L (symbol_of x.symbols n) at.state (trees_have_letters x.symbols (predicates x) (an_element n h)) refl)))

    wrap_entries : WrapEntries n r u L → AreEntriesOf x (element n h none) u.entries
    wrap_entries c q k g low at =
        let down = below_number x is q L (symbol_of x.symbols n) low (trees_have_letters x.symbols (predicates x) (an_element n h)) refl in
        same_on _ (PairsAt q g at.mode) _ (c q k g at low)
        (same_back _ _ (subst (λ w. HaveSamePairs (led x (OutFrom q g w).out) (PairsAt q g at.mode)) down.state (wrap_out q k g at low down)))

    wrap_looks : WrapLooks r u L → AreLooksOf x (element n h none) u.looks
    wrap_looks c k s st =
        c k s st
        ∙ sym
        (value_cond (hits x s.path s.state L) true (one (an_element n h)) (first_hit (machine x) h (record { path = s.path; state = step x s.path s.state L })) (hit_value r.bears) (look_from x r.looks (looking s.path (step x s.path s.state L)))
        (ap hit_value (or_false (bears_text h) ∙ sym a.bears))
        (sym
        (look_read x is h r.looks a.looks (record { path = s.path; state = step x s.path s.state L })
        (stepped x is k (record { path = s.path; mode = None }) s.state L (symbol_of x.symbols n) st (trees_have_letters x.symbols (predicates x) (an_element n h)) refl))))

    pub wrap_row : IsWrap x (symbol_of x.symbols n) r u → IsRowOfTree x (an_element n h) u
    wrap_row c =
        let same = element_letter x is n h r.looks a.looks in
        record {
          row = c.row;
          is_text = c.is_text;
          bears = c.bears ∙ (a.bears ∙ sym (or_false (bears_text h)));
          patterns = λ k. (λ there. (wrap_patterns n h r apart a k).0 ((c.patterns k).0 there), λ e. (c.patterns k).1 ((wrap_patterns n h r apart a k).1 e));
          entries = wrap_entries (subst (WrapEntries n r u) same c.entries);
          looks = wrap_looks (subst (WrapLooks r u) same c.looks);
        }

  -- a text
  module _ (s : List ℕ) (u : TreeRow) (ink : is_white_space_only s ≡ false) where
    abbrev T : Letter
    T = letter_of x.symbols (predicates x) (a_text s)

    abbrev TextEntries : Letter → Type 0
    TextEntries l = (q k : ℕ) (g : Going) → q < ancestors x → IsMoveAt x.rules k g → HaveSamePairs (listed (entry x u.entries q k)) (hit_pairs x g q l on_text (nothing_below x))

    abbrev TextLooks : Letter → Type 0
    TextLooks l = (k : ℕ) (w : Looking) → IsLookAt x.rules k w → look x u.looks k ≡ cond (hits x w.path w.state l) (hit_value true) 0

    text_entries : TextEntries T → AreEntriesOf x (text s none) u.entries
    text_entries c q k g low at =
        same_on _ _ _ (c q k g low at)
        (same_back _ _
        (alone_led _ _
        (cond_led (hits x g.path g.state T) _ _
        (body_same x is (one (a_text s)) (nothing_below x) (λ i v. nothing) (nothing_is_below x is (one (a_text s)) ink refl) (body_by x.symbols (predicates x) (sheet x).rules x.bodies g.task (ancestor x.rules q) T)
        (task_parts x is at.mode g.task (ancestor x.rules q) T at.task)))))

    text_looks : TextLooks T → AreLooksOf x (text s none) u.looks
    text_looks c k w st = c k w st ∙ sym (value_cond (hits x w.path w.state T) true (one (a_text s)) None (hit_value true) 0 refl refl)

    no_patterns : u.patterns ≡ [] → (k : ℕ) → Contains u.patterns k ↔ IsPatternOf x (a_text s) k
    no_patterns e k = (λ there. none_there (subst (λ w. Contains w k) e there), λ f. absurd f)
      where
        none_there : Contains [] k → IsPatternOf x (a_text s) k
        none_there there = has_from_contains [] k there

    pub text_row : IsTextRow x u → IsRowOfTree x (a_text s) u
    text_row c = record {
      row = c.row;
      is_text = c.is_text;
      bears = c.bears;
      patterns = no_patterns c.patterns;
      entries = text_entries (subst TextEntries (text_letter x is s) c.entries);
      looks = text_looks (subst TextLooks (text_letter x is s) c.looks);
    }

  -- no tree
  pub empty_row : (u : HedgeRow) → IsEmptyRow x u → IsRowOfHedge x none u
  empty_row u c = record {
    row = c.row;
    ends = c.ends;
    bears = c.bears;
    states = λ j. (
      λ there. let (k, low, high, e) = (c.states j).0 there in (k, low, high, subst (λ w. Leads x.input input (first_state x.input input k) none w) (sym e) at_end),
      λ l. (c.states j).1 (l.0, l.1, l.2, sym (run_of_none x.input input refl (run_of_leads x.input input l.3))),
    );
    entries = λ q k g low at.
        same_on _ (stay x) _ (c.entries (q * moves x + k) (entry_index x q k low (move_counted x.rules k at.mode g.path g.state at.state))) (same_back _ _ (led_none x is));
    looks = λ k s st. c.looks (k - moves x) (look_index x k s st);
  }
