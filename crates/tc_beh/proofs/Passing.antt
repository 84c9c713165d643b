-- An entry of an element that its state doesn't hit is one below the element.
use Rattle.std.proofs.Common.{◌≡◌, ◌<◌, ◌+◌, ◌*◌, ℕ, List, [], length, get_or, true, false, nat_lt, Option, Some, None, IfSome, Result, Ok, Err, IfOk, subst, sym, ◌∙◌, arith, All}
use Rattle.std.proofs.lemmas.Bool.{lt-ltb}
use Rattle.std.proofs.lemmas.List.{get_or-map}
use Rattle.tc_mat.specs.Matrix.{Matrix}
use Rattle.tc_mat.specs.Held.{Held, AreMatrices}
use Rattle.tc_model.specs.Letters as letters
use Rattle.tc_model.specs.Letters.{of_symbol, of_text}
use Rattle.tc_model.specs.PathStates.{State}
use Rattle.tc_model.specs.StateCounts.{PathUse}
use Rattle.tc_rules.specs.Kept.{told}
use Rattle.tc_rules.specs.RulesView.{RulesView, IsStateOf, select_below, move_count}
use Rattle.tc_rules.specs.States.{Going}
use Rattle.tc_rules.specs.Tasks.{IsMoveAt}
use Rattle.tc_rules.specs.declared.rules.Rules.{Rules}
use Rattle.tc_rules.proofs.Counts.{move_counted}
use Rattle.tc_rows.specs.Triples.{Triple, IsTriple, outputs, ancestors, moves, number, number_below, moving}
use Rattle.tc_rows.specs.PairSets.{PairSet, HaveSamePairs, product, listed}
use Rattle.tc_rows.specs.Rows.{entry}
use Rattle.tc_rows.specs.Bodies.{on_element, stay}
use Rattle.tc_rows.specs.Arithmetic.{below, hits, hit_pairs, pairs_from, step}
use Rattle.tc_rows.proofs.Append.{entry_index}
use Rattle.tc_rows.proofs.PairLaws.{same_back, same_on, product_same, chosen_first, chosen_second}
use Rattle.tc_rows.proofs.States.{state_number}
use Rattle.tc_beh.specs.Above.{letter_of, pairs_at}
use Rattle.tc_beh.specs.Entries.{IsNode, IsUnder, IsEntryAt}
use Rattle.tc_beh.specs.Held.{set_at}
use Rattle.tc_beh.specs.Places.{entries_by, pairs_of, no_matrix}
use Rattle.tc_beh.specs.Putting.{has}
use Rattle.tc_beh.specs.Stands.{IsRulesIn}
use Rattle.tc_beh.specs.declared.entries.Node.{Node}
use Rattle.tc_beh.proofs.Hitting.{of_move, some_move, state_told}
use Rattle.tc_beh.proofs.Nodes.{flat_one}
use Rattle.tc_beh.proofs.Pairs.{listed_pairs}
use Rattle.tc_beh.proofs.PutLaws.{has_low}
use Rattle.tc_beh.proofs.Starts.{StartsBelow, stay_first}

module _ (x : Triple) (triple : IsTriple x) (held : Held) (sizes : AreMatrices held) (size : held.size ≡ outputs x) (n : Node) (outs : All (λ k. k < length held.matrices) n.entries.now)
    (q under s next : ℕ) (under_is : IsUnder x (letter_of n.letter) q under) (a : ℕ) (kind : (letter_of n.letter).kind ≡ of_symbol a)
    (hit : (g : Going) → IsMoveAt x.rules s g → hits x g.path g.state (letter_of n.letter) ≡ false)
    (leads : (g : Going) (at : IsMoveAt x.rules s g) → IsStateOf x.rules next (of_move g.path at.mode) (step x g.path g.state (letter_of n.letter)))
    (inside : under * moves x + next < length n.entries.now) (within : s < moves x) where
  abbrev E : List (List (ℕ × ℕ))
  E = entries_by held.matrices n.entries.now

  abbrev M : Matrix
  M = set_at held (get_or n.entries.now (under * moves x + next) 0)

  abbrev l : letters.Letter
  l = record { kind = of_symbol a; marks = n.letter.marks.0 }

  abbrev Further : Going → ℕ → PairSet
  Further g mode = pairs_from x E under (moving mode g.path (step x g.path g.state l))

  same_letter : letter_of n.letter ≡ l
  same_letter = λ i. record { kind = kind i; marks = n.letter.marks.0 }

  size_is : M.size ≡ outputs x
  size_is = (sizes (get_or n.entries.now (under * moves x + next) 0) no_matrix (outs (under * moves x + next) 0 inside)).0 ∙ size

  is_listed : HaveSamePairs (has M) (listed (entry x E under next))
  is_listed =
      let here : get_or E (under * moves x + next) [] ≡ pairs_of M = get_or-map (λ k. pairs_of (get_or held.matrices k no_matrix)) n.entries.now (under * moves x + next) 0 [] inside in
      subst (λ ps. HaveSamePairs (has M) (listed ps)) (sym here) (listed_pairs M)

  is_further : (g : Going) (at : IsMoveAt x.rules s g) → HaveSamePairs (has M) (Further g at.mode)
  is_further g at =
      let st : IsStateOf x.rules next (of_move g.path at.mode) (step x g.path g.state l) = subst (λ c. IsStateOf x.rules next (of_move g.path at.mode) (step x g.path g.state c)) same_letter (leads g at) in
      let k : ℕ = number x (moving at.mode g.path (step x g.path g.state l)) in
      let same : k ≡ next = state_number x triple next (of_move g.path at.mode) (step x g.path g.state l) st in
      let low : nat_lt k (moves x) ≡ true = lt-ltb k (moves x) (omega (arith, same, move_counted x.rules next at.mode g.path (step x g.path g.state l) st)) in
      same_on (has M) (listed (entry x E under next)) (Further g at.mode) is_listed
      (subst (λ i. HaveSamePairs (listed (entry x E under i)) (Further g at.mode)) same
      (same_back (Further g at.mode) (listed (entry x E under k)) (chosen_first (nat_lt k (moves x)) (listed (entry x E under k)) (stay x) low)))

  starts : StartsBelow (outputs x) (has M)
  starts i j h = let low = (has_low M i j h).0 in omega (arith, low, size_is)

  at_element : (g : Going) (at : IsMoveAt x.rules s g) → HaveSamePairs (has M) (pairs_at x n.bears E n.looks.now q under at.mode g n.letter.marks.0 (of_symbol a))
  at_element g at =
      let hit_set : PairSet = hit_pairs x g q l (on_element a) (below x n.bears E n.looks.now under) in
      let isnt : hits x g.path g.state l ≡ false = subst (λ c. hits x g.path g.state c ≡ false) same_letter (hit g at) in
      same_on (has M) (product (stay x) (has M)) (product hit_set (Further g at.mode)) (same_back (product (stay x) (has M)) (has M) (stay_first (outputs x) (has M) starts))
      (product_same (stay x) hit_set (has M) (Further g at.mode) (same_back hit_set (stay x) (chosen_second (hits x g.path g.state l) _ (stay x) isnt)) (is_further g at))

  at_node : (g : Going) (at : IsMoveAt x.rules s g) → HaveSamePairs (has M) (pairs_at x n.bears E n.looks.now q (number_below x q (letter_of n.letter)) at.mode g n.letter.marks.0 (letter_of n.letter).kind)
  at_node g at =
      subst (λ k. HaveSamePairs (has M) (pairs_at x n.bears E n.looks.now q (number_below x q (letter_of n.letter)) at.mode g n.letter.marks.0 k)) (sym kind)
      (subst (λ u. HaveSamePairs (has M) (pairs_at x n.bears E n.looks.now q u at.mode g n.letter.marks.0 (of_symbol a))) (under_is.below a kind) (at_element g at))

  pub passed_entry : IsEntryAt x E n (q * moves x + s) M
  passed_entry b k g at up e =
      let (same, here) = flat_one b k q s (moves x) (move_counted x.rules k at.mode g.path g.state at.state) within e in
      subst (λ c. HaveSamePairs (has M) (pairs_at x n.bears E n.looks.now c (number_below x c (letter_of n.letter)) at.mode g n.letter.marks.0 (letter_of n.letter).kind)) same
      (subst (λ j. (st : IsMoveAt x.rules j g) → HaveSamePairs (has M) (pairs_at x n.bears E n.looks.now q (number_below x q (letter_of n.letter)) st.mode g n.letter.marks.0 (letter_of n.letter).kind)) here
      (λ st. at_node g st) at)

-- the place of an entry below an element is one
place_inside : (x : Triple) (r : Rules) → IsRulesIn x r → (held : Held) (n : Node) → IsNode x held n → (a : ℕ) → (letter_of n.letter).kind ≡ of_symbol a → (above next : ℕ)
    → above < length (told r).ancestors.states → next < move_count (told r) → above * moves x + next < length n.entries.now
place_inside x r rules held n node a kind above next h l =
    let low : above < ancestors x = subst (λ (t : RulesView). above < length t.ancestors.states) rules.told h in
    let within : next < moves x = subst (λ (t : RulesView). next < move_count t) rules.told l in
    let count = node.count (λ e. let f : of_symbol a ≡ of_text = sym kind ∙ e in cc) in
    let inside = entry_index x above next low within in
    omega (arith, inside, count)

pub if_ok_map : {X E : Type 0} (r : Result X E) (P Q : X → Type 0) → ((v : X) → P v → Q v) → IfOk r P → IfOk r Q
if_ok_map (Ok v) P Q f p = f v p
if_ok_map (Err e) P Q f p = tt

-- a number of which one thing is known
pub if_some_map : {X : Type 0} (o : Option X) (P Q : X → Type 0) → ((k : X) → P k → Q k) → IfSome o P → IfSome o Q
if_some_map (Some k) P Q f p = f k p
if_some_map None P Q f p = tt

pub next_inside : (x : Triple) (r : Rules) → IsRulesIn x r → (held : Held) (n : Node) → IsNode x held n → (a : ℕ) → (letter_of n.letter).kind ≡ of_symbol a → (above s next : ℕ) (w : letters.Letter)
    → above < length (told r).ancestors.states → s < move_count (told r)
    → ((b : PathUse) (t : State) → IsStateOf (told r) s b t → IsStateOf (told r) next b (select_below x.symbols (told r) b t w)) → above * moves x + next < length n.entries.now
next_inside x r rules held n node a kind above s next w h l there =
    let (g, at) = some_move x r rules s l in
    let b : PathUse = of_move g.path at.mode in
    place_inside x r rules held n node a kind above next h (move_counted (told r) next at.mode g.path (select_below x.symbols (told r) b g.state w) (there b g.state (state_told x r rules s b g.state at.state)))
