-- The rows of texts and of elements around trees, from what is left of them in rooms.
use Rattle.std.proofs.Common.{◌≡◌, ◌<◌, ◌≤◌, ◌⊎◌, inr, ◌+◌, ◌-◌, ◌*◌, ◌^◌, [], ℕ, List, length, get_or, map, Bool, true, false, cond, nat_lt, subst, sym, ap, ◌∙◌, refl, arith}
use Rattle.std.proofs.lemmas.List.{length-map}
use Rattle.tc_mat.specs.Held.{Held, AreMatrices}
use Rattle.tc_model.specs.Letters as letters
use Rattle.tc_model.specs.Letters.{of_symbol, of_text, marks_of, IsLetter}
use Rattle.tc_model.specs.PathStates.{first_state}
use Rattle.tc_model.specs.Sheets.{Path}
use Rattle.tc_model.specs.Symbols.{symbol_count}
use Rattle.tc_rules.specs.RulesView.{select_count}
use Rattle.tc_rules.specs.States.{Going, Looking}
use Rattle.tc_rules.specs.Tasks.{IsMoveAt, IsLookAt}
use Rattle.tc_rules.proofs.Counts.{move_counted}
use Rattle.tc_rows.specs.Triples.{Triple, outputs, ancestors, moves, entries, looks, number, number_below, moving, looking, predicates}
use Rattle.tc_rows.specs.PairSets.{PairSet, HaveSamePairs, product, listed}
use Rattle.tc_rows.specs.Rows.{HedgeRow, TreeRow, entry, look}
use Rattle.tc_rows.specs.Bodies.{on_element, on_text, holds_by, letter_by}
use Rattle.tc_rows.specs.Arithmetic.{below, nothing_below, hit_pairs, pairs_from, step, look_from, letter_around, letter_of_text}
use Rattle.tc_rows.proofs.Append.{entry_index}
use Rattle.tc_rows.proofs.PairLaws.{same_back, same_on}
use Rattle.tc_beh.specs.Above.{letter_of, pairs_at}
use Rattle.tc_beh.specs.Entries.{IsEntryAt, Comes, IsNodeRow}
use Rattle.tc_beh.specs.Held.{set_at}
use Rattle.tc_beh.specs.LooksAbove.{found_above}
use Rattle.tc_beh.specs.Places.{pairs_of, entries_by}
use Rattle.tc_beh.specs.Putting.{has}
use Rattle.tc_beh.specs.Rooms.{tree_layout, output_at, IsRoom, tree_row}
use Rattle.tc_beh.specs.declared.entries.Node.{Node}
use Rattle.tc_beh.proofs.Held.{sizes_of}
use Rattle.tc_beh.proofs.Marking.{marks_few}
use Rattle.tc_beh.proofs.Pairs.{listed_pairs}
use Rattle.tc_beh.proofs.RoomIs.{entry_at, outputs_count}
use Rattle.tc_beh.proofs.RoomRows.{look_is}

module _ (x : Triple) (n : Node) (es : List (List (ℕ × ℕ))) where
  -- what is put out on the node and below it
  abbrev pub NodePairs : ℕ → ℕ → Going → PairSet
  NodePairs q mode g = pairs_at x n.bears es n.looks.now q (number_below x q (letter_of n.letter)) mode g n.letter.marks.0 (letter_of n.letter).kind

  -- of an element
  module _ (a : ℕ) (h : HedgeRow) (letter : letter_of n.letter ≡ letter_around x a h.looks) (bears : n.bears ≡ h.bears) (outs : es ≡ h.entries) (look : n.looks.now ≡ h.looks) where
    abbrev L : letters.Letter
    L = letter_around x a h.looks

    pub element_pairs : (q mode : ℕ) (g : Going) → NodePairs q mode g
        ≡ product (hit_pairs x g q L (on_element a) (below x h.bears h.entries h.looks (number_below x q L))) (pairs_from x h.entries (number_below x q L) (moving mode g.path (step x g.path g.state L)))
    element_pairs q mode g = λ i. pairs_at x (bears i) (outs i) (look i) q (number_below x q (letter i)) mode g (letter i).marks (letter i).kind

    pub element_found : (s : Looking) → found_above x n.bears n.looks.now (letter_of n.letter) s ≡ found_above x h.bears h.looks L s
    element_found s = λ i. found_above x (bears i) (look i) (letter i) s

  -- of a text
  module _ (letter : letter_of n.letter ≡ letter_of_text x) where
    pub text_pairs : (q mode : ℕ) (g : Going) → NodePairs q mode g ≡ hit_pairs x g q (letter_of_text x) on_text (nothing_below x)
    text_pairs q mode g = λ i. pairs_at x n.bears es n.looks.now q (number_below x q (letter i)) mode g (letter i).marks (letter i).kind

    pub text_found : (s : Looking) → found_above x n.bears n.looks.now (letter_of n.letter) s ≡ found_above x n.bears n.looks.now (letter_of_text x) s
    text_found s = λ i. found_above x n.bears n.looks.now (letter i) s

-- where nothing stands below, nothing is found
found_none : (b : Bool) → (let n : ℕ = cond b 0 0 in n ≡ 0)
found_none true = refl
found_none false = refl

pub nothing_found : (x : Triple) → (let f : Path → ℕ = λ p. look_from x [] (looking p (first_state p)) in let g : Path → ℕ = λ p. 0 in f ≡ g)
nothing_found x = λ i p. found_none (nat_lt (number x (looking p (first_state p))) (select_count x.rules)) i

pub text_marked : (x : Triple) (marks : ℕ) → marks ≡ marks_of (map (λ p. holds_by p (λ p. look_from x [] (looking p (first_state p)))) (predicates x))
    → (let l : letters.Letter = record { kind = of_text; marks = marks } in l ≡ letter_of_text x)
text_marked x marks e = λ i. record { kind = of_text; marks = (e ∙ ap (λ (f : Path → ℕ). marks_of (map (λ p. holds_by p f) (predicates x))) (nothing_found x)) i }

pub element_marked : (x : Triple) (a marks : ℕ) (vs : List ℕ) → marks ≡ marks_of (map (λ p. holds_by p (λ p. look_from x vs (looking p (first_state p)))) (predicates x))
    → (let l : letters.Letter = record { kind = of_symbol a; marks = marks } in l ≡ letter_around x a vs)
element_marked x a marks vs e = λ i. record { kind = of_symbol a; marks = e i }

-- the letters of rows are letters
pub are_letters : (x : Triple) (k : letters.Kind) (f : Path → ℕ) → ((a : ℕ) → k ≡ of_symbol a → a < symbol_count x.symbols) → IsLetter x.symbols (predicates x) (letter_by x k f)
are_letters x k f low = record {
  symbol = low;
  marks = subst (λ n. marks_of (map (λ p. holds_by p f) (predicates x)) < 2 ^ n) (length-map (predicates x) (λ p. holds_by p f)) (marks_few (map (λ p. holds_by p f) (predicates x)));
}

module _ (x : Triple) (new : Held) (size : new.size ≡ outputs x) (are : AreMatrices new) (n : Node) (es : List (List (ℕ × ℕ))) (us : List ℕ) (room : IsRoom (tree_layout x) new.matrices us) where
  abbrev P : ℕ
  P = length x.input.elements

  abbrev T : TreeRow
  T = tree_row x new.matrices us

  -- the entries of the row are those of the node
  pub node_entries : ((i : ℕ) → i < entries x → IsEntryAt x es n i (set_at new (output_at P us i))) → (q k : ℕ) (g : Going) (at : IsMoveAt x.rules k g) → q < ancestors x → HaveSamePairs (listed (entry x T.entries q k)) (NodePairs x n es q at.mode g)
  node_entries right q k g at low =
      let i : ℕ = q * moves x + k in
      let inside : i < entries x = entry_index x q k low (move_counted x.rules k at.mode g.path g.state at.state) in
      let here : get_or T.entries i [] ≡ pairs_of (set_at new (output_at P us i)) = entry_at x new.matrices (sizes_of new (outputs x) are size) P (entries x) us i (outputs_count (tree_layout x) new.matrices us room) inside in
      subst (λ l. HaveSamePairs (listed l) (NodePairs x n es q at.mode g)) (sym here)
      (same_on (listed (pairs_of (set_at new (output_at P us i)))) (has (set_at new (output_at P us i))) (NodePairs x n es q at.mode g)
      (same_back (has (set_at new (output_at P us i))) (listed (pairs_of (set_at new (output_at P us i)))) (listed_pairs (set_at new (output_at P us i)))) (right i inside q k g at low refl))

  -- and so are its looks
  pub node_looks : (k : ℕ) (s : Looking) → get_or us (2 + P + entries x + (k - moves x)) 0 ≡ found_above x n.bears n.looks.now (letter_of n.letter) s → look x T.looks k ≡ found_above x n.bears n.looks.now (letter_of n.letter) s
  node_looks k s e = look_is P (entries x) us (k - moves x) ∙ e

-- the numbers that looks and then entries were put into
pub node_row : (x : Triple) (old new : Held) (n : Node) (mid us : List ℕ) (f e g d : ℕ) → f ≡ length x.input.elements → e ≡ entries x → g ≡ f → d ≡ e
    → Comes x (entries_by old.matrices n.entries.now) n old new (output_at g us) d
    → ((k : ℕ) → (k < 2 + g) ⊎ (2 + g + d ≤ k) → get_or us k 0 ≡ get_or mid k 0)
    → ((k : ℕ) (s : Looking) → IsLookAt x.rules k s → get_or mid (2 + f + e + (k - moves x)) 0 ≡ found_above x n.bears n.looks.now (letter_of n.letter) s)
    → ((i : ℕ) → i < looks x → get_or mid (2 + f + e + i) 0 ≤ 2) → IsNodeRow x old new n us
node_row x old new n mid us f e g d is_f is_e is_g is_d come others look few = record {
  comes = subst (λ w. Comes x (entries_by old.matrices n.entries.now) n old new (output_at (length x.input.elements) us) w) (is_d ∙ is_e)
      (subst (λ w. Comes x (entries_by old.matrices n.entries.now) n old new (output_at w us) d) (is_g ∙ is_f) come);
  looks = λ k s st. here (k - moves x) ∙ look k s st;
  few = λ i l. let small = few i l in subst (λ v. v ≤ 2) (sym (here i)) small;
}
  where
    here : (i : ℕ) → get_or us (2 + length x.input.elements + entries x + i) 0 ≡ get_or mid (2 + f + e + i) 0
    here i =
        let at : 2 + length x.input.elements + entries x + i ≡ 2 + f + e + i = omega (arith, is_f, is_e) in
        ap (λ j. get_or us j 0) at ∙ others (2 + f + e + i) (inr (omega (arith, is_g, is_d)))
