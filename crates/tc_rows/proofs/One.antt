-- A tree has one row, and what is worked out from rows is one row.
use Rattle.std.proofs.Common.{◌≡◌, ◌↔◌, ℕ, ◌+◌, ◌-◌, ◌*◌, ◌/◌, ◌%◌, ◌<◌, zero, suc, List, [], ◌∙◌, sym, subst, get_or, arith}
use Rattle.std.proofs.lemmas.List.{ext_get_or}
use Rattle.std.proofs.lemmas.List.Elements.{All-get_or}
use Rattle.std.proofs.lemmas.Nat.{div-add-mod', mod_below}
use Rattle.std.proofs.Math.Nat.{div-lt_iff_lt-mul}
use Rattle.tc_rules.specs.States.{Going, Looking}
use Rattle.tc_rules.specs.Tasks.{IsMoveAt, IsLookAt}
use Rattle.tc_rows.specs.Triples.{Triple, IsTriple, ancestors, moves, looks, entries, outputs}
use Rattle.tc_rows.specs.PairSets.{HaveSamePairs, IsPairs, listed}
use Rattle.tc_rows.specs.Rows.{HedgeRow, TreeRow, AreEntries, AreLooks, entry, look}
use Rattle.tc_rows.specs.Laws.{AreOne}
use Rattle.tc_rows.proofs.PairLaws.{same_back, same_on}
use Rattle.tc_rows.proofs.Ascending.{one_set, one_pair_set}
use Rattle.tc_rows.proofs.Decode.{move_at, look_at}

both_ways : {P Q R : Type 0} → P ↔ R → Q ↔ R → P ↔ Q
both_ways a b = (λ p. b.1 (a.0 p), λ q. a.1 (b.0 q))

module _ (x : Triple) (is : IsTriple x) where
  -- entries are one where each has the same pairs
  entries_by_index : (es fs : List (List (ℕ × ℕ))) → AreEntries x es → AreEntries x fs → ((i : ℕ) → i < entries x → HaveSamePairs (listed (get_or es i [])) (listed (get_or fs i []))) → es ≡ fs
  entries_by_index es fs a b same =
      ext_get_or [] es fs (a.count ∙ sym b.count)
      (λ i l.
      let low : i < entries x = omega (arith, l, a.count) in
      one_pair_set (get_or es i []) (get_or fs i []) (All-get_or (IsPairs (outputs x)) es i [] l a.each).ascend (All-get_or (IsPairs (outputs x)) fs i [] (omega (arith, low, b.count)) b.each).ascend (same i low))

  entries_by_state : (es fs : List (List (ℕ × ℕ))) → AreEntries x es → AreEntries x fs
      → ((q k : ℕ) (g : Going) → q < ancestors x → IsMoveAt x.rules k g → HaveSamePairs (listed (entry x es q k)) (listed (entry x fs q k))) → es ≡ fs
  entries_by_state es fs a b same = entries_by_index es fs a b at
    where
      at : (i : ℕ) → i < entries x → HaveSamePairs (listed (get_or es i [])) (listed (get_or fs i []))
      at i l =
          let some : 0 < moves x = some_moves (moves x) (ancestors x) i l in
          let q = i / moves x in
          let k = i % moves x in
          let low : q < ancestors x = (div-lt_iff_lt-mul some).1 l in
          let within : k < moves x = mod_below i (moves x) some in
          let (g, move) = move_at x is k within in
          subst (λ w. HaveSamePairs (listed (get_or es w [])) (listed (get_or fs w []))) (div-add-mod' i (moves x)) (same q k g low move)
        where
          some_moves : (n a i : ℕ) → i < a * n → 0 < n
          some_moves zero a i h = absurd (omega (arith, h))
          some_moves (suc n) a i h = omega arith

  looks_by_index : (vs ws : List ℕ) → AreLooks x vs → AreLooks x ws → ((i : ℕ) → i < looks x → get_or vs i 0 ≡ get_or ws i 0) → vs ≡ ws
  looks_by_index vs ws a b same = ext_get_or 0 vs ws (a.count ∙ sym b.count) (λ i l. same i (omega (arith, l, a.count)))

  looks_by_state : (vs ws : List ℕ) → AreLooks x vs → AreLooks x ws → ((k : ℕ) (s : Looking) → IsLookAt x.rules k s → look x vs k ≡ look x ws k) → vs ≡ ws
  looks_by_state vs ws a b same = looks_by_index vs ws a b at
    where
      at : (i : ℕ) → i < looks x → get_or vs i 0 ≡ get_or ws i 0
      at i l =
          let (s, there) = look_at x is i l in
          let index : moves x + i - moves x ≡ i = omega arith in
          subst (λ w. get_or vs w 0 ≡ get_or ws w 0) index (same (moves x + i) s there)

  one_tree : (r s : TreeRow) → r.is_text ≡ s.is_text → r.bears ≡ s.bears → r.patterns ≡ s.patterns → r.entries ≡ s.entries → r.looks ≡ s.looks → r ≡ s
  one_tree r s a b c d e = λ i. record { is_text = a i; bears = b i; patterns = c i; entries = d i; looks = e i }

  one_hedge : (r s : HedgeRow) → r.ends ≡ s.ends → r.bears ≡ s.bears → r.states ≡ s.states → r.entries ≡ s.entries → r.looks ≡ s.looks → r ≡ s
  one_hedge r s a b c d e = λ i. record { ends = a i; bears = b i; states = c i; entries = d i; looks = e i }

  pub are_one : AreOne x
  are_one = record {
    trees = λ t r s a b.
        one_tree r s (a.is_text ∙ sym b.is_text) (a.bears ∙ sym b.bears) (one_set r.patterns s.patterns a.row.ascend b.row.ascend (λ k. both_ways (a.patterns k) (b.patterns k)))
        (entries_by_state r.entries s.entries a.row.entries b.row.entries (λ q k g low at. same_on _ _ _ (a.entries q k g low at) (same_back _ _ (b.entries q k g low at))))
        (looks_by_state r.looks s.looks a.row.looks b.row.looks (λ k u at. a.looks k u at ∙ sym (b.looks k u at)));
    hedges = λ h r s a b.
        one_hedge r s (a.ends ∙ sym b.ends) (a.bears ∙ sym b.bears) (one_set r.states s.states a.row.ascend b.row.ascend (λ k. both_ways (a.states k) (b.states k)))
        (entries_by_state r.entries s.entries a.row.entries b.row.entries (λ q k g low at. same_on _ _ _ (a.entries q k g low at) (same_back _ _ (b.entries q k g low at))))
        (looks_by_state r.looks s.looks a.row.looks b.row.looks (λ k u at. a.looks k u at ∙ sym (b.looks k u at)));
    empty = λ u v a b.
        one_hedge u v (a.ends ∙ sym b.ends) (a.bears ∙ sym b.bears) (one_set u.states v.states a.row.ascend b.row.ascend (λ k. both_ways (a.states k) (b.states k)))
        (entries_by_index u.entries v.entries a.row.entries b.row.entries (λ i l. same_on _ _ _ (a.entries i l) (same_back _ _ (b.entries i l))))
        (looks_by_index u.looks v.looks a.row.looks b.row.looks (λ i l. a.looks i l ∙ sym (b.looks i l)));
    text = λ u v a b.
        one_tree u v (a.is_text ∙ sym b.is_text) (a.bears ∙ sym b.bears) (a.patterns ∙ sym b.patterns)
        (entries_by_state u.entries v.entries a.row.entries b.row.entries (λ q k g low at. same_on _ _ _ (a.entries q k g low at) (same_back _ _ (b.entries q k g low at))))
        (looks_by_state u.looks v.looks a.row.looks b.row.looks (λ k s at. a.looks k s at ∙ sym (b.looks k s at)));
    appended = λ h t u v a b.
        one_hedge u v (a.ends ∙ sym b.ends) (a.bears ∙ sym b.bears) (one_set u.states v.states a.row.ascend b.row.ascend (λ k. both_ways (a.states k) (b.states k)))
        (entries_by_index u.entries v.entries a.row.entries b.row.entries (λ i l. same_on _ _ _ (a.entries i l) (same_back _ _ (b.entries i l))))
        (looks_by_index u.looks v.looks a.row.looks b.row.looks (λ i l. a.looks i l ∙ sym (b.looks i l)));
    wrapped = λ w h u v a b.
        one_tree u v (a.is_text ∙ sym b.is_text) (a.bears ∙ sym b.bears) (one_set u.patterns v.patterns a.row.ascend b.row.ascend (λ k. both_ways (a.patterns k) (b.patterns k)))
        (entries_by_state u.entries v.entries a.row.entries b.row.entries (λ q k g low at. same_on _ _ _ (a.entries q k g at low) (same_back _ _ (b.entries q k g at low))))
        (looks_by_state u.looks v.looks a.row.looks b.row.looks (λ k s at. a.looks k s at ∙ sym (b.looks k s at)));
  }
