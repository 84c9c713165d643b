-- Elements of a symbol that reads no look have the same rows around lists of trees that differ in looks alone.
use Rattle.std.proofs.Common.{◌≡◌, ◌<◌, ◌≤◌, ◌↔◌, ◌+◌, ◌==◌, ℕ, zero, suc, List, [], ◌∷◌, Bool, false, map, cond, take, drop, get_or, refl, sym, subst, ap, ◌∙◌, arith}
use Rattle.std.proofs.lemmas.List.{drop-drop, drop-take}
use Rattle.std.specs.List.{Contains}
use Rattle.tc_model.specs.Letters.{Letter, of_symbol, marks_of}
use Rattle.tc_model.specs.PathStates.{first_state}
use Rattle.tc_model.specs.Sheets.{Test, CallFreeBody, p_done, p_text, p_element, p_copy, p_apply, p_call, p_value, p_self, p_choose, p_each}
use Rattle.tc_model.specs.Symbols.{symbol_of}
use Rattle.tc_rules.specs.RulesView.{ancestor}
use Rattle.tc_rules.specs.States.{Going, Looking, body_by}
use Rattle.tc_rules.specs.Tasks.{IsMoveAt, IsLookAt}
use Rattle.tc_mat.specs.Matrix.{Matrix}
use Rattle.tc_model.specs.States.{input, state_count}
use Rattle.tc_rows.specs.Triples.{Triple, sheet, predicates, ancestors, entries, number_below, moving, looking}
use Rattle.tc_rows.specs.PairSets.{PairSet, product, chosen, listed}
use Rattle.tc_rows.specs.Rows.{HedgeRow, TreeRow, entry, hit_value}
use Rattle.tc_rows.specs.Bodies.{NodeKind, on_element, stay, around, text_pairs, value_pairs, copied_pairs, self_bears, body_pairs, holds_by}
use Rattle.tc_rows.specs.Arithmetic.{IsWrap, IsLiveWrap, IsPatternAround, letter_around, below, hit_pairs, hits, step, pairs_from, look_from}
use Rattle.tc_beh.specs.Places.{entries_by}
use Rattle.tc_beh.specs.Rooms.{flagged, hedge_row}
use Rattle.tc_close.specs.Kinds.{AreAlike}
use Rattle.tc_close.specs.LookFree.{IsLookFree, IsFreeSymbol, AgreeButLooks, plain_letter}

module _ (x : Triple) (k : NodeKind) (bears : Bool) (es : List (List (ℕ × ℕ))) (vs ws : List ℕ) (q : ℕ) where
  -- a body that reads no look puts the same whatever they are
  free_same : (b : CallFreeBody) → IsLookFree b → body_pairs x b k (below x bears es vs q) ≡ body_pairs x b k (below x bears es ws q)
  free_same p_done h = refl
  free_same (p_text s b) h = λ j. product (text_pairs x s) (free_same b h j)
  free_same (p_element n i b) h = λ j. product (around x (symbol_of x.symbols n) (free_same i h.0 j)) (free_same b h.1 j)
  free_same (p_copy i b) h = λ j. product (copied_pairs x k (free_same i h.0 j)) (free_same b h.1 j)
  free_same (p_apply p m b) h = λ j. product (pairs_from x es q (moving m p (first_state p))) (free_same b h j)
  free_same (p_call i b) h = λ j. product (free_same i h.0 j) (free_same b h.1 j)
  free_same (p_value p b) h = absurd h
  free_same (p_self b) h = λ j. product (value_pairs x (self_bears x k bears)) (free_same b h j)
  free_same (p_choose y b) h = absurd h
  free_same (p_each e p i b) h = λ j. product (pairs_from x es q (moving ((sheet x).modes + e) p (first_state p))) (free_same b h j)

module _ (x : Triple) (a : ℕ) (is : IsFreeSymbol x a) where
  -- there is no predicate
  letter_is : (vs : List ℕ) → letter_around x a vs ≡ plain_letter a
  letter_is vs = ap (λ (ps : List Test). record { kind = of_symbol a; marks = marks_of (map (λ p. holds_by p (λ w. look_from x vs (looking w (first_state w)))) ps) }) is.letters

  -- what is put out on an element and below it
  abbrev Put : Going → ℕ → ℕ → Letter → Bool → List (List (ℕ × ℕ)) → List ℕ → PairSet
  Put g q mode l bears es vs =
      product (hit_pairs x g q l (on_element a) (below x bears es vs (number_below x q l))) (pairs_from x es (number_below x q l) (moving mode g.path (step x g.path g.state l)))

  put_free : (n : ℕ) (g : Going) (q mode : ℕ) → IsMoveAt x.rules n g → q < ancestors x → (bears : Bool) (es : List (List (ℕ × ℕ))) (vs ws : List ℕ) → Put g q mode (plain_letter a) bears es vs ≡ Put g q mode (plain_letter a) bears es ws
  put_free n g q mode at low bears es vs ws =
      let l = plain_letter a in
      let under : ℕ = number_below x q l in
      let body : CallFreeBody = body_by x.symbols (predicates x) (sheet x).rules x.bodies g.task (ancestor x.rules q) l in
      ap (λ r. product (chosen (hits x g.path g.state l) r (stay x)) (pairs_from x es under (moving mode g.path (step x g.path g.state l)))) (free_same x (on_element a) bears es vs ws under body (is.bodies n g q at low))

  module _ (h k : HedgeRow) (same : AgreeButLooks h k) where
    put_same : (n : ℕ) (g : Going) (q mode : ℕ) → IsMoveAt x.rules n g → q < ancestors x → Put g q mode (letter_around x a h.looks) h.bears h.entries h.looks ≡ Put g q mode (letter_around x a k.looks) k.bears k.entries k.looks
    put_same n g q mode at low =
        ap (λ l. Put g q mode l h.bears h.entries h.looks) (letter_is h.looks)
        ∙ (put_free n g q mode at low h.bears h.entries h.looks k.looks
        ∙ (ap (λ b. Put g q mode (plain_letter a) b h.entries k.looks) same.bears
        ∙ (ap (λ es. Put g q mode (plain_letter a) k.bears es k.looks) same.entries
        ∙ ap (λ l. Put g q mode l k.bears k.entries k.looks) (sym (letter_is k.looks)))))

    -- what a look finds
    abbrev Finds : Looking → Letter → Bool → List ℕ → ℕ
    Finds s l bears vs = cond (hits x s.path s.state l) (hit_value bears) (look_from x vs (looking s.path (step x s.path s.state l)))

    finds_same : (n : ℕ) (s : Looking) → IsLookAt x.rules n s → Finds s (letter_around x a h.looks) h.bears h.looks ≡ Finds s (letter_around x a k.looks) k.bears k.looks
    finds_same n s at =
        ap (λ l. Finds s l h.bears h.looks) (letter_is h.looks)
        ∙ (ap (λ b. Finds s (plain_letter a) b h.looks) same.bears
        ∙ (ap (λ v. cond (hits x s.path s.state (plain_letter a)) (hit_value k.bears) v) (is.looks n s h.looks at ∙ sym (is.looks n s k.looks at))
        ∙ ap (λ l. Finds s l k.bears k.looks) (sym (letter_is k.looks))))

    abbrev Around : List ℕ → ℕ → Type 0
    Around states n = IsPatternAround x a (record { ends = false; bears = false; states = states; entries = []; looks = [] }) n

    pub live_free : IsLiveWrap x a h → IsLiveWrap x a k
    live_free (n, around) = (n, subst (λ js. Around js n) same.states around)

    pub wrap_free : (u : TreeRow) → IsWrap x a h u → IsWrap x a k u
    wrap_free u w = record {
      row = w.row;
      is_text = w.is_text;
      bears = w.bears ∙ same.bears;
      patterns = λ n. subst (λ js. Contains u.patterns n ↔ Around js n) same.states (w.patterns n);
      entries = λ q n g at low i j. subst (λ r. listed (entry x u.entries q n) i j ↔ r i j) (put_same n g q at.mode at low) (w.entries q n g at low i j);
      looks = λ n s at. w.looks n s at ∙ finds_same n s at;
    }

pub agree_back : (h k : HedgeRow) → AgreeButLooks h k → AgreeButLooks k h
agree_back h k same = record { bears = sym same.bears; states = sym same.states; entries = sym same.entries }

take_take : (m n : ℕ) (l : List ℕ) → m ≤ n → take m (take n l) ≡ take m l
take_take zero n l h = refl
take_take (suc m) zero l h = absurd (omega (arith, h))
take_take (suc m) (suc n) [] h = refl
take_take (suc m) (suc n) (v ∷ l) h = ap (λ t. v ∷ t) (take_take m n l (omega (arith, h)))

-- rows that are alike by flags and entries, and bear alike
pub core_agrees : (x : Triple) (held : List Matrix) (a b : List ℕ) → AreAlike (state_count x.input input + entries x) a b → get_or a 1 0 ≡ get_or b 1 0 → AgreeButLooks (hedge_row x held a) (hedge_row x held b)
core_agrees x held a b alike bears =
    let s : ℕ = state_count x.input input in
    let e : ℕ = entries x in
    let behind : (ns : List ℕ) → take e (drop (2 + s) ns) ≡ drop s (take (s + e) (drop 2 ns)) = λ ns. ap (take e) (sym (drop-drop s 2 ns)) ∙ sym (drop-take s e (drop 2 ns)) in
    let front : (ns : List ℕ) → take s (drop 2 ns) ≡ take s (take (s + e) (drop 2 ns)) = λ ns. sym (take_take s (s + e) (drop 2 ns) (omega arith)) in
    record {
      bears = ap (λ v. v == 1) bears;
      states = ap (flagged 0) (front a ∙ (ap (take s) alike.same ∙ sym (front b)));
      entries = ap (entries_by held) (behind a ∙ (ap (drop s) alike.same ∙ sym (behind b)));
    }
