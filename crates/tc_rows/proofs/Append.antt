-- The row of trees with one more behind them.
use Rattle.std.proofs.Common.{◌≡◌, ◌↔◌, inl, inr, ℕ, ◌+◌, ◌-◌, ◌*◌, ◌<◌, ◌≤◌, zero, suc, List, [], ◌∷◌, ◌++◌, Bool, true, false, ◌||◌, refl, ap, ◌∙◌, sym, subst, length, map, take, Option, Some, None, slice_get, Contains, arith}
use Rattle.std.proofs.lemmas.Bool.{true≢false}
use Rattle.std.proofs.lemmas.Nat.{mul-add-lt}
use Rattle.std.proofs.lemmas.Option.{same_Some}
use Rattle.tc_model.specs.Trees.{Trees, none, text, element, normal_form}
use Rattle.tc_model.specs.Chains.{Tree, an_element, a_text, Node}
use Rattle.tc_model.specs.TreesApart.{alone, followed_by, IsApart}
use Rattle.tc_model.specs.Outcomes.{Outcome, join}
use Rattle.tc_model.specs.Machine as m
use Rattle.tc_model.specs.Machine.{or_else, first_hit}
use Rattle.tc_model.specs.Numberings.{Move, moves_of}
use Rattle.tc_model.specs.StateCounts.{PathUse}
use Rattle.tc_model.specs.States.{input, text_leaf, ref_leaf, IsElementOf, IsEdge, Leads, at_end, past_white, by_text, by_element}
use Rattle.tc_model.proofs.TreesApart.{ends_followed, bears_beside, normal_apart}
use Rattle.tc_model.proofs.TreesInTurn.{first_beside, outputs_beside}
use Rattle.tc_rules.specs.Graphs.{Graph}
use Rattle.tc_rules.specs.States.{Looking}
use Rattle.tc_rules.specs.Tasks.{IsLookAt}
use Rattle.tc_rules.specs.RulesView.{count_states, select_count, ancestor}
use Rattle.tc_rules.proofs.Counts.{state_counted, move_counted}
use Rattle.tc_rules.proofs.SelectStates.{count_cons}
use Rattle.tc_hedge.proofs.Leading.{run_of_leads, run_of_none, run_of_element, leads_beside, leads_split}
use Rattle.tc_rows.proofs.Numbers.{of_move}
use Rattle.tc_rows.specs.Triples.{Triple, IsTriple, sheet, machine, ancestors, moves, looks, entries}
use Rattle.tc_rows.specs.PairSets.{HaveSamePairs, product, listed}
use Rattle.tc_rows.specs.Rows.{HedgeRow, TreeRow, IsRowOfHedge, IsRowOfTree, IsLedTo, entry, or_hit, value_of, hit_value, node_bears, led, AreEntriesOf}
use Rattle.tc_rows.specs.Arithmetic.{IsAppend, TreeLeads}
use Rattle.tc_rows.proofs.PairLaws.{same_back, same_on, product_same}
use Rattle.tc_rows.proofs.Leading.{led_beside}

seen_hit : (b : Bool) (v : ℕ) → hit_value b ≡ or_hit (hit_value b) v
seen_hit true v = refl
seen_hit false v = refl

value_or : (a b : Option Node) → value_of (or_else a b) ≡ or_hit (value_of a) (value_of b)
value_or None b = refl
value_or (Some n) b = seen_hit (node_bears n) (value_of b)

pub count_rises : (gs : List Graph) (n k : ℕ) → n ≤ k → count_states (take n gs) ≤ count_states (take k gs)
count_rises [] zero k l = omega arith
count_rises [] (suc n) zero l = absurd (omega (arith, l))
count_rises [] (suc n) (suc k) l = omega arith
count_rises (g ∷ gs) zero k l = omega arith
count_rises (g ∷ gs) (suc n) zero l = absurd (omega (arith, l))
count_rises (g ∷ gs) (suc n) (suc k) l = omega (arith, count_rises gs n k (omega (arith, l)), count_cons g (take n gs), count_cons g (take k gs))

-- looks come after all moves
look_place : (ms : List Move) (bs : List PathUse) (i : ℕ) (b : PathUse) → slice_get (map of_move ms ++ bs) i ≡ Some b → b.mode ≡ None → length ms ≤ i
look_place [] bs i b e f = omega arith
look_place (w ∷ ms) bs zero b e f = absurd (let same : of_move w ≡ b = same_Some (of_move w) b e in let mode : Some w.mode ≡ b.mode = ap (λ (u : PathUse). u.mode) same in cc)
look_place (w ∷ ms) bs (suc i) b e f = omega (arith, look_place ms bs i b e f)

module _ (x : Triple) where
  pub look_low : (k : ℕ) (s : Looking) → IsLookAt x.rules k s → (moves x ≤ k) × (k < select_count x.rules)
  look_low k s st = (
    omega (arith, st.number_is, count_rises x.rules.selects (length (moves_of (sheet x))) st.place (look_place (moves_of (sheet x)) _ st.place (record { path = s.path; mode = None }) st.block refl)),
    state_counted x.rules k (record { path = s.path; mode = None }) s.state st,
  )

  pub look_index : (k : ℕ) (s : Looking) → IsLookAt x.rules k s → k - moves x < looks x
  look_index k s st = let (low, high) = look_low k s st in omega (arith, low, high)

  pub entry_index : (q k : ℕ) → q < ancestors x → k < moves x → q * moves x + k < entries x
  entry_index q k a b = omega (arith, mul-add-lt q (moves x) k (ancestors x) a b)

module _ (x : Triple) (is : IsTriple x) where
  -- a tree leads as its row says
  pub tree_leads : (t : Tree) (s : TreeRow) → IsApart (alone t) → IsRowOfTree x t s → (i j : ℕ) → TreeLeads x s i j ↔ Leads x.input input i (alone t) j
  tree_leads (a_text w) s apart row i j = (to, of)
    where
      to : TreeLeads x s i j → Leads x.input input i (text w none) j
      to (inl (e, edge)) = by_text apart.1 edge at_end
      to (inr (e, k)) = absurd (true≢false (sym row.is_text ∙ e))

      of : Leads x.input input i (text w none) j → TreeLeads x s i j
      of (past_white white l) = absurd (true≢false (sym white ∙ apart.1))
      of (by_text other edge l) = inl (row.is_text, subst (λ v. IsEdge x.input input i text_leaf v) (run_of_none x.input input refl (run_of_leads x.input input l)) edge)
  tree_leads (an_element n kids) s apart row i j = (to, of)
    where
      normal : normal_form kids ≡ kids
      normal = (normal_apart kids).1 apart.0

      to : TreeLeads x s i j → Leads x.input input i (element n kids none) j
      to (inl (e, edge)) = absurd (true≢false (sym e ∙ row.is_text))
      to (inr (e, (k, there, edge))) = by_element (subst (λ w. IsElementOf x.input.elements k n w) (sym normal) ((row.patterns k).0 there)) edge at_end

      of : Leads x.input input i (element n kids none) j → TreeLeads x s i j
      of l =
          let (v, k, takes, edge, r) = run_of_element x.input input refl (run_of_leads x.input input l) in
          inr (row.is_text, (k, (row.patterns k).1 (subst (λ w. IsElementOf x.input.elements k n w) normal takes), subst (λ w. IsEdge x.input input i (ref_leaf k) w) (run_of_none x.input input refl r) edge))

  -- where trees lead with one more behind them
  pub append_states : (h : Trees) (t : Tree) (r : HedgeRow) (s : TreeRow) → IsApart (alone t) → IsRowOfHedge x h r → IsRowOfTree x t s
      → (j : ℕ) → ((i : ℕ) × Contains r.states i × TreeLeads x s i j) ↔ IsLedTo x (followed_by h t) j
  append_states h t r s apart a b j = (to, of)
    where
      to : (i : ℕ) × Contains r.states i × TreeLeads x s i j → IsLedTo x (followed_by h t) j
      to (i, there, leads) = let (k, low, high, l) = (a.states i).0 there in (k, low, high, leads_beside x.input input l ((tree_leads t s apart b i j).0 leads))

      of : IsLedTo x (followed_by h t) j → (i : ℕ) × Contains r.states i × TreeLeads x s i j
      of (k, low, high, l) = let (i, first, second) = leads_split x.input input h l in (i, (a.states i).1 (k, low, high, first), (tree_leads t s apart b i j).1 second)

  pub append_row : (h : Trees) (t : Tree) (r : HedgeRow) (s : TreeRow) (u : HedgeRow) → IsApart (alone t) → IsRowOfHedge x h r → IsRowOfTree x t s → IsAppend x r s u → IsRowOfHedge x (followed_by h t) u
  append_row h t r s u apart a b c = record {
    row = c.row;
    ends = c.ends ∙ (b.is_text ∙ sym (ends_followed h t));
    bears = c.bears ∙ ((λ i. a.bears i || b.bears i) ∙ sym (bears_beside h (alone t)));
    states = λ j. (λ there. (append_states h t r s apart a b j).0 ((c.states j).0 there), λ l. (c.states j).1 ((append_states h t r s apart a b j).1 l));
    entries = entries_are;
    looks = λ k w st.
        c.looks (k - moves x) (look_index x k w st)
        ∙ ((λ i. or_hit (a.looks k w st i) (b.looks k w st i)) ∙ sym (ap value_of (first_beside (machine x) h (alone t) w) ∙ value_or (first_hit (machine x) h w) (first_hit (machine x) (alone t) w)));
  }
    where
      entries_are : AreEntriesOf x (followed_by h t) u.entries
      entries_are q k g low at =
          let i = q * moves x + k in
          let both : Outcome = join (m.outputs (machine x) h g.task (ancestor x.rules q) g) (m.outputs (machine x) (alone t) g.task (ancestor x.rules q) g) in
          same_on (listed (entry x u.entries q k)) (product (listed (entry x r.entries q k)) (listed (entry x s.entries q k))) (led x (m.outputs (machine x) (followed_by h t) g.task (ancestor x.rules q) g).out)
          (c.entries i (entry_index x q k low (move_counted x.rules k at.mode g.path g.state at.state)))
          (same_on _ (product (led x (m.outputs (machine x) h g.task (ancestor x.rules q) g).out) (led x (m.outputs (machine x) (alone t) g.task (ancestor x.rules q) g).out)) _
          (product_same _ _ _ _ (a.entries q k g low at) (b.entries q k g low at))
          (subst (λ (w : Outcome). HaveSamePairs (product (led x (m.outputs (machine x) h g.task (ancestor x.rules q) g).out) (led x (m.outputs (machine x) (alone t) g.task (ancestor x.rules q) g).out)) (led x w.out)) (sym (outputs_beside (machine x) h (alone t) g.task (ancestor x.rules q) g))
          (same_back _ _ (led_beside x is (m.outputs (machine x) h g.task (ancestor x.rules q) g).out (m.outputs (machine x) (alone t) g.task (ancestor x.rules q) g).out))))
