-- What the parts of a place put, seen from the triple.
use Rattle.std.proofs.Common.{◌≡◌, ◌<◌, ◌≤◌, ◌+◌, ◌*◌, ℕ, List, [], length, get_or, Bool, true, false, cond, nat_lt, Some, subst, sym, ap, ◌∙◌, refl, arith}
use Rattle.std.proofs.lemmas.List.{get_or-map, get_or_default}
use Rattle.tc_model.specs.Sheets.{Path, no_alternative}
use Rattle.tc_model.specs.PathStates.{first_state}
use Rattle.tc_model.specs.StateCounts.{PathUse}
use Rattle.tc_model.specs.Symbols.{Mention, symbol_of, symbol_count, fresh_name, symbols_of}
use Rattle.tc_alpha.proofs.Fresh.{symbol_told}
use Rattle.tc_alpha.proofs.Lawful.{are_symbols}
use Rattle.tc_rules.specs.Kept.{told}
use Rattle.tc_rules.specs.RulesView.{RulesView, IsStateOf, select_count, move_count}
use Rattle.tc_rules.proofs.Counts.{move_counted}
use Rattle.tc_mat.specs.Matrix.{Matrix}
use Rattle.tc_rows.specs.Triples.{Triple, sheet, ancestors, moves, entries, number, moving, looking}
use Rattle.tc_rows.specs.PairSets.{PairSet, HaveSamePairs, chosen, listed}
use Rattle.tc_rows.specs.Rows.{entry}
use Rattle.tc_rows.specs.Bodies.{NodeKind, on_root, on_element, on_text, stay, self_bears}
use Rattle.tc_rows.specs.Arithmetic.{pairs_from}
use Rattle.tc_rows.proofs.PairLaws.{same_self, same_on}
use Rattle.tc_rows.proofs.States.{state_number, empty_number}
use Rattle.tc_rows.proofs.Reading.{fewer_moves}
use Rattle.tc_beh.specs.Putting.{has}
use Rattle.tc_beh.specs.Places.{IsPlaceIn, kind_of, below_at, below_of, entries_by, pairs_of, no_matrix}
use Rattle.tc_beh.specs.declared.bodies.Place.{Place}
use Rattle.tc_beh.proofs.Looking.{finds, is_low}
use Rattle.std.proofs.lemmas.Bool.Decides.{nat_tests}
use Rattle.tc_beh.proofs.Pairs.{listed_pairs}

abbrev of_move : Path → ℕ → PathUse
of_move p mode = record { path = p; mode = Some mode }

-- a symbol has a fresh name
pub fresh_symbol : (x : Triple) → x.symbols ≡ symbols_of x.input x.output (sheet x) → (a : ℕ) → a < symbol_count x.symbols → symbol_of x.symbols (fresh_name x.symbols a) ≡ a
fresh_symbol x e a low =
    subst (λ (ms : List Mention). a < symbol_count ms → symbol_of ms (fresh_name ms a) ≡ a) (sym e)
    (λ h. symbol_told (symbols_of x.input x.output (sheet x)) (are_symbols x.input x.output (sheet x)) a h (fresh_name (symbols_of x.input x.output (sheet x)) a) refl) low

-- where an entry stands
pub flat_low : (q n k m : ℕ) → q < n → k < m → q * m + k < n * m
flat_low q n k m l h = grind arith

at_here : (b : Bool) → b ≡ true → (r s : PairSet) → HaveSamePairs (chosen b r s) r
at_here true e r s = same_self r
at_here false e r s = cc

module _ (x : Triple) (p : Place) (is : IsPlaceIn x p) where
  abbrev outs : List (List (ℕ × ℕ))
  outs = entries_by p.outputs.now.matrices p.entries.now

  pub low_moves : (k : ℕ) → k < move_count (told p.rules.now) → k < moves x
  low_moves k h = subst (λ (t : RulesView). k < move_count t) is.rules.told h

  -- the place of an entry is one
  pub entry_low : (kind_of p.node ≡ on_text → ⊥) → (k : ℕ) → k < move_count (told p.rules.now) → p.above * moves x + k < length p.entries.now
  entry_low node k h =
      let all : length p.entries.now ≡ entries x = is.count node in
      let low : p.above * moves x + k < ancestors x * moves x = flat_low p.above (ancestors x) k (moves x) is.above (low_moves k h) in
      omega (arith, all, low)

  pub output_low : (i d : ℕ) → i < length p.entries.now → get_or p.entries.now i d < length p.outputs.now.matrices
  output_low i d h = is.outs i d h

  -- the pairs of the matrix of a number are those of the entry
  pub entry_is : (k i v : ℕ) (m : Matrix) → i ≡ p.above * moves x + k → i < length p.entries.now → v ≡ get_or p.entries.now i v → m ≡ get_or p.outputs.now.matrices v no_matrix
      → HaveSamePairs (has m) (listed (entry x outs p.above k))
  entry_is k i v m place low at got =
      let value : v ≡ get_or p.entries.now i 0 = at ∙ get_or_default p.entries.now i v 0 low in
      let here : get_or outs i [] ≡ pairs_of (get_or p.outputs.now.matrices (get_or p.entries.now i 0) no_matrix) = get_or-map (λ n. pairs_of (get_or p.outputs.now.matrices n no_matrix)) p.entries.now i 0 [] low in
      let same : pairs_of m ≡ get_or outs i [] = ap pairs_of (got ∙ ap (λ n. get_or p.outputs.now.matrices n no_matrix) value) ∙ sym here in
      subst (λ n. HaveSamePairs (has m) (listed (get_or outs n []))) place
      (subst (λ l. HaveSamePairs (has m) (listed l)) same (listed_pairs m))

  -- what is put of what stands below a node that is no text
  below_pairs : (k : NodeKind) → (k ≡ on_text → ⊥) → (b : Bool) (es : List (List (ℕ × ℕ))) (vs : List ℕ) (q mode : ℕ) (w : Path)
      → HaveSamePairs (pairs_from x es q (moving mode w (first_state w))) ((below_at x k b es vs q).pairs mode w)
  below_pairs on_root node b es vs q mode w = same_self (pairs_from x es q (moving mode w (first_state w)))
  below_pairs (on_element a) node b es vs q mode w = same_self (pairs_from x es q (moving mode w (first_state w)))
  below_pairs on_text node b es vs q mode w = absurd (node refl)

  pub none_below : (kind_of p.node ≡ on_text → ⊥) → (mode : ℕ) (w : Path) → w ≡ no_alternative → HaveSamePairs (stay x) ((below_of x p).pairs mode w)
  none_below node mode w e =
      let n : number x (moving mode no_alternative (first_state no_alternative)) ≡ select_count x.rules = empty_number x is.rules.triple (of_move no_alternative mode) (first_state no_alternative) refl in
      let past : nat_lt (number x (moving mode no_alternative (first_state no_alternative))) (moves x) ≡ false = not_less (number x (moving mode no_alternative (first_state no_alternative))) (moves x) (omega (arith, n, fewer_moves x is.rules.triple)) in
      let nothing : HaveSamePairs (stay x) (pairs_from x outs p.above (moving mode no_alternative (first_state no_alternative))) =
      back past (listed (entry x outs p.above (number x (moving mode no_alternative (first_state no_alternative))))) (stay x)
      in
      subst (λ v. HaveSamePairs (stay x) ((below_of x p).pairs mode v)) (sym e)
      (same_on (stay x) (pairs_from x outs p.above (moving mode no_alternative (first_state no_alternative))) ((below_of x p).pairs mode no_alternative) nothing
      (below_pairs (kind_of p.node) node p.bears outs p.looks.now p.above mode no_alternative))
    where
      not_less : (n m : ℕ) → m ≤ n → nat_lt n m ≡ false
      not_less n m h = grind (arith, nat_tests)

      back : {b : Bool} → b ≡ false → (r s : PairSet) → HaveSamePairs s (chosen b r s)
      back {b} e r s = subst (λ c. HaveSamePairs s (chosen c r s)) (sym e) (same_self s)

  pub some_below : (kind_of p.node ≡ on_text → ⊥) → (mode k : ℕ) (w : Path) → IsStateOf (told p.rules.now) k (of_move w mode) (first_state w)
      → HaveSamePairs (listed (entry x outs p.above k)) ((below_of x p).pairs mode w)
  some_below node mode k w st =
      let at : IsStateOf x.rules k (of_move w mode) (first_state w) = subst (λ (t : RulesView). IsStateOf t k (of_move w mode) (first_state w)) is.rules.told st in
      let n : number x (moving mode w (first_state w)) ≡ k = state_number x is.rules.triple k (of_move w mode) (first_state w) at in
      let low : number x (moving mode w (first_state w)) < moves x = subst (λ i. i < moves x) (sym n) (move_counted x.rules k mode w (first_state w) at) in
      let test : nat_lt (number x (moving mode w (first_state w))) (moves x) ≡ true = is_low (number x (moving mode w (first_state w))) (moves x) low in
      let here : HaveSamePairs (listed (entry x outs p.above k)) (pairs_from x outs p.above (moving mode w (first_state w))) =
      subst (λ i. HaveSamePairs (listed (entry x outs p.above i)) (pairs_from x outs p.above (moving mode w (first_state w)))) n
      (back test (listed (entry x outs p.above (number x (moving mode w (first_state w))))) (stay x))
      in
      same_on (listed (entry x outs p.above k)) (pairs_from x outs p.above (moving mode w (first_state w))) ((below_of x p).pairs mode w) here
      (below_pairs (kind_of p.node) node p.bears outs p.looks.now p.above mode w)
    where
      back : {b : Bool} → b ≡ true → (r s : PairSet) → HaveSamePairs r (chosen b r s)
      back {b} e r s = subst (λ c. HaveSamePairs r (chosen c r s)) (sym e) (same_self r)

  pub low_state : (k mode : ℕ) (w : Path) → IsStateOf (told p.rules.now) k (of_move w mode) (first_state w) → k < move_count (told p.rules.now)
  low_state k mode w st = move_counted (told p.rules.now) k mode w (first_state w) st

  -- nothing is selected below a text
  pub text_below : (mode : ℕ) (w : Path) → kind_of p.node ≡ on_text → HaveSamePairs (stay x) ((below_of x p).pairs mode w)
  text_below mode w e = subst (λ k. HaveSamePairs (stay x) ((below_at x k p.bears outs p.looks.now p.above).pairs mode w)) (sym e) (same_self (stay x))

  -- what a path finds
  same_value : (b : Bool) → (let n : ℕ = cond b 0 0 in n ≡ 0)
  same_value true = refl
  same_value false = refl

  look_at_kind : (k : NodeKind) (w : Path) → (k ≡ on_text → p.looks.now ≡ []) → finds x p.looks.now w ≡ (below_at x k p.bears outs p.looks.now p.above).look w
  look_at_kind on_root w h = refl
  look_at_kind (on_element a) w h = refl
  look_at_kind on_text w h =
      subst (λ vs. finds x vs w ≡ 0) (sym (h refl)) (same_value (nat_lt (number x (looking w (first_state w))) (select_count x.rules)))

  pub look_is : (w : Path) → finds x p.looks.now w ≡ (below_of x p).look w
  look_is w = look_at_kind (kind_of p.node) w is.nothing

  bears_at_kind : (k : NodeKind) → (k ≡ on_text → p.bears ≡ true) → p.bears ≡ self_bears x k (below_at x k p.bears outs p.looks.now p.above).bears
  bears_at_kind on_root h = refl
  bears_at_kind (on_element a) h = refl
  bears_at_kind on_text h = h refl

  pub bears_is : p.bears ≡ self_bears x (kind_of p.node) (below_of x p).bears
  bears_is = bears_at_kind (kind_of p.node) is.bears
