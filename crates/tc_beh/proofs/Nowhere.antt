-- An entry of a node that a state doesn't hit, where nothing comes below.
use Rattle.std.proofs.Common.{◌≡◌, ◌<◌, ◌+◌, ◌*◌, ℕ, List, true, false, nat_lt, subst, refl, arith}
use Rattle.std.proofs.lemmas.Bool.{le-ltb}
use Rattle.tc_mat.specs.Matrix.{Matrix, IsIdentity}
use Rattle.tc_model.specs.Letters as letters
use Rattle.tc_model.specs.Letters.{of_symbol, of_text}
use Rattle.tc_model.specs.PathStates.{State, is_empty_state}
use Rattle.tc_model.specs.Sheets.{Path}
use Rattle.tc_rules.specs.RulesView.{select_count}
use Rattle.tc_rules.specs.States.{Going}
use Rattle.tc_rules.specs.Tasks.{IsMoveAt}
use Rattle.tc_rules.proofs.Counts.{move_counted}
use Rattle.tc_rows.specs.Triples.{Triple, IsTriple, outputs, moves, number, number_below, moving}
use Rattle.tc_rows.specs.PairSets.{PairSet, HaveSamePairs, product, listed}
use Rattle.tc_rows.specs.Rows.{entry}
use Rattle.tc_rows.specs.Bodies.{on_element, on_text, stay}
use Rattle.tc_rows.specs.Arithmetic.{below, nothing_below, hits, hit_pairs, pairs_from, step}
use Rattle.tc_rows.proofs.PairLaws.{same_back, same_on, product_same, chosen_second}
use Rattle.tc_rows.proofs.Reading.{fewer_moves}
use Rattle.tc_rows.proofs.States.{empty_number}
use Rattle.tc_beh.specs.Above.{letter_of, pairs_at}
use Rattle.tc_beh.specs.Entries.{IsEntryAt}
use Rattle.tc_beh.specs.Putting.{has}
use Rattle.tc_beh.specs.declared.entries.Node.{Node}
use Rattle.tc_beh.proofs.Hitting.{of_move}
use Rattle.tc_beh.proofs.Nodes.{flat_one}
use Rattle.tc_beh.proofs.Starts.{stay_first, identity_begun, stay_starts}

nowhere : (x : Triple) → IsTriple x → (es : List (List (ℕ × ℕ))) (q mode : ℕ) (w : Path) (s : State) → is_empty_state s ≡ true → HaveSamePairs (stay x) (pairs_from x es q (moving mode w s))
nowhere x triple es q mode w s e =
    let k : ℕ = number x (moving mode w s) in
    let all : k ≡ select_count x.rules = empty_number x triple (of_move w mode) s e in
    same_back (pairs_from x es q (moving mode w s)) (stay x)
    (chosen_second (nat_lt k (moves x)) (listed (entry x es q k)) (stay x) (le-ltb k (moves x) (omega (arith, all, fewer_moves x triple))))

module _ (x : Triple) (triple : IsTriple x) (es : List (List (ℕ × ℕ))) (n : Node) (q s : ℕ) (m : Matrix) (identity : IsIdentity m) (size : m.size ≡ outputs x)
    (hit : (g : Going) → IsMoveAt x.rules s g → hits x g.path g.state (letter_of n.letter) ≡ false)
    (ends : (a : ℕ) → (letter_of n.letter).kind ≡ of_symbol a → (g : Going) → IsMoveAt x.rules s g → is_empty_state (step x g.path g.state (letter_of n.letter)) ≡ true)
    (within : s < moves x) where
  stays : HaveSamePairs (has m) (stay x)
  stays = identity_begun m (outputs x) size identity

  at_kind : (g : Going) (at : IsMoveAt x.rules s g) (k : letters.Kind) → (letter_of n.letter).kind ≡ k
      → HaveSamePairs (has m) (pairs_at x n.bears es n.looks.now q (number_below x q (letter_of n.letter)) at.mode g n.letter.marks.0 k)
  at_kind g at (of_symbol a) e =
      let l : letters.Letter = record { kind = of_symbol a; marks = n.letter.marks.0 } in
      let same : letter_of n.letter ≡ l = λ i. record { kind = e i; marks = n.letter.marks.0 } in
      let under : ℕ = number_below x q (letter_of n.letter) in
      let hit_set : PairSet = hit_pairs x g q l (on_element a) (below x n.bears es n.looks.now under) in
      let further : PairSet = pairs_from x es under (moving at.mode g.path (step x g.path g.state l)) in
      let isnt : hits x g.path g.state l ≡ false = subst (λ c. hits x g.path g.state c ≡ false) same (hit g at) in
      let none : is_empty_state (step x g.path g.state l) ≡ true = subst (λ c. is_empty_state (step x g.path g.state c) ≡ true) same (ends a e g at) in
      same_on (has m) (stay x) (product hit_set further) stays
      (same_on (stay x) (product (stay x) (stay x)) (product hit_set further) (same_back (product (stay x) (stay x)) (stay x) (stay_first (outputs x) (stay x) (stay_starts x)))
      (product_same (stay x) hit_set (stay x) further (same_back hit_set (stay x) (chosen_second (hits x g.path g.state l) _ (stay x) isnt)) (nowhere x triple es under at.mode g.path (step x g.path g.state l) none)))
  at_kind g at of_text e =
      let l : letters.Letter = record { kind = of_text; marks = n.letter.marks.0 } in
      let same : letter_of n.letter ≡ l = λ i. record { kind = e i; marks = n.letter.marks.0 } in
      let hit_set : PairSet = hit_pairs x g q l on_text (nothing_below x) in
      let isnt : hits x g.path g.state l ≡ false = subst (λ c. hits x g.path g.state c ≡ false) same (hit g at) in
      same_on (has m) (stay x) hit_set stays (same_back hit_set (stay x) (chosen_second (hits x g.path g.state l) _ (stay x) isnt))

  pub nothing_entry : IsEntryAt x es n (q * moves x + s) m
  nothing_entry b k g at up e =
      let (same, here) = flat_one b k q s (moves x) (move_counted x.rules k at.mode g.path g.state at.state) within e in
      subst (λ c. HaveSamePairs (has m) (pairs_at x n.bears es n.looks.now c (number_below x c (letter_of n.letter)) at.mode g n.letter.marks.0 (letter_of n.letter).kind)) same
      (subst (λ j. (st : IsMoveAt x.rules j g) → HaveSamePairs (has m) (pairs_at x n.bears es n.looks.now q (number_below x q (letter_of n.letter)) st.mode g n.letter.marks.0 (letter_of n.letter).kind)) here
      (λ st. at_kind g st (letter_of n.letter).kind refl) at)
