-- What is worked out of rows doesn't depend on the tables in which states stand, be they rows of trees or not.
use Rattle.std.proofs.Common.{◌≡◌, ◌<◌, ◌↔◌, ℕ, ◌+◌, ◌-◌, ◌*◌, List, [], ◌∷◌, ◌++◌, refl, ap, sym, ◌∙◌, subst, map, get_or, nat_lt, cond, Bool, IsTrue, All, None, Some}
use Rattle.std.proofs.lemmas.List.Elements.{All-weaker}
use Rattle.tc_model.specs.Letters.{of_symbol, Letter}
use Rattle.tc_model.specs.Machine.{in_mode}
use Rattle.tc_model.specs.Numbered.{number_of}
use Rattle.tc_model.specs.PathStates as paths
use Rattle.tc_model.specs.PathStates.{State}
use Rattle.tc_model.specs.Sheets.{CallFreeBody, p_done, p_text, p_element, p_copy, p_apply, p_call, p_value, p_self, p_choose, p_each, CallFreeBranches, p_otherwise, p_branch}
use Rattle.tc_model.specs.StateCounts.{PathUse, blocks_of}
use Rattle.tc_model.specs.States.{output, state_count}
use Rattle.tc_model.specs.Symbols.{symbol_of, symbol_count}
use Rattle.tc_model.specs.declared.lists.CertData.{CertData}
use Rattle.tc_rules.specs.Graphs.{Graph}
use Rattle.tc_rules.specs.RulesView.{ancestor, select_count}
use Rattle.tc_rules.specs.States.{Going, Looking, body_by, body_of_root}
use Rattle.tc_rules.specs.Tasks.{IsLookAt}
use Rattle.tc_rows.specs.Arithmetic.{look_from, pairs_from, below, nothing_below, letter_of_text, letter_around, step, hits, hit_pairs, IsEmptyRow, IsTextRow, IsTextLive, IsAppend, IsLiveAppend, IsWrap, IsLiveWrap, is_admitted, IsPassing}
use Rattle.tc_rows.specs.Bodies.{NodeKind, on_root, on_element, on_text, Below, letter_by, around, text_pairs, value_pairs, copied_pairs, self_bears, holds_by, body_pairs, branch_pairs, stay}
use Rattle.tc_rows.specs.CertificateRows.{numbered_tree, numbered_hedge, IsCertificateData}
use Rattle.tc_rows.specs.Certificates.{tree_of, hedge_of, AreClosed, AreCertified}
use Rattle.tc_rows.specs.PairSets.{PairSet, IsPairs, product, chosen, listed}
use Rattle.tc_rows.specs.Rows.{HedgeRow, TreeRow, IsHedgeRow, IsTreeRow, entry, look, hit_value, bears_value}
use Rattle.tc_rows.specs.Triples.{Triple, Select, same_select, states_by, number, number_below, moving, looking, predicates, ancestors, moves, looks, entries}
use Rattle.tc_close.proofs.Transport.{Bare, Rest, bare, rest, made, AreAlike, alike_back, all_states, same_count, state_back, move_back, hedge_row_on, tree_row_on, same_moves, same_looks}

head_same : {X : Type 0} {a b : X} {xs ys : List X} → (a ∷ xs) ≡ (b ∷ ys) → a ≡ b
head_same e = cc

tail_same : {X : Type 0} {a b : X} {xs ys : List X} → (a ∷ xs) ≡ (b ∷ ys) → xs ≡ ys
tail_same e = cc

-- the same states make the same moves and looks
same_selects : (bs : List PathUse) (gs hs : List Graph) → all_states gs ≡ all_states hs → states_by bs gs ≡ states_by bs hs
same_selects [] gs hs e = refl
same_selects (b ∷ bs) [] [] e = refl
same_selects (b ∷ bs) [] (h ∷ hs) e = absurd (cc)
same_selects (b ∷ bs) (g ∷ gs) [] e = absurd (cc)
same_selects (b ∷ bs) (g ∷ gs) (h ∷ hs) e =
    let first : g.states ≡ h.states = head_same e in
    let rest : states_by bs gs ≡ states_by bs hs = same_selects bs gs hs (tail_same e) in
    λ i. map (λ s. record { by = b; state = s }) (first i) ++ rest i

module _ (b : Bare) (v w : Rest) (same : all_states v.selects ≡ all_states w.selects) where
  abbrev X : Triple
  X = made b v

  abbrev Y : Triple
  Y = made b w

  moves_same : moves X ≡ moves Y
  moves_same = same_moves b v w same

  count_same : select_count X.rules ≡ select_count Y.rules
  count_same = same_count v.selects w.selects same

  number_same : (y : Select) → number X y ≡ number Y y
  number_same y = ap (number_of same_select y) (same_selects (blocks_of b.sheet) v.selects w.selects same)

  look_same : (vs : List ℕ) (y : Select) → look_from X vs y ≡ look_from Y vs y
  look_same vs y i = cond (nat_lt (number_same y i) (count_same i)) (get_or vs (number_same y i - moves_same i) 0) 0

  pairs_same : (es : List (List (ℕ × ℕ))) (q : ℕ) (y : Select) → pairs_from X es q y ≡ pairs_from Y es q y
  pairs_same es q y i = chosen (nat_lt (number_same y i) (moves_same i)) (listed (get_or es (q * moves_same i + number_same y i) [])) (stay X)

  below_same : (bears : Bool) (es : List (List (ℕ × ℕ))) (vs : List ℕ) (q : ℕ) → below X bears es vs q ≡ below Y bears es vs q
  below_same bears es vs q i = record { bears = bears; look = λ p. look_same vs (looking p (paths.first_state p)) i; pairs = λ mode p. pairs_same es q (moving mode p (paths.first_state p)) i }

  letter_same : (a : ℕ) (vs : List ℕ) → letter_around X a vs ≡ letter_around Y a vs
  letter_same a vs i = letter_by X (of_symbol a) (λ p. look_same vs (looking p (paths.first_state p)) i)

  -- what bodies put out
  mutual
    body_same : (c : CallFreeBody) (k : NodeKind) (u : Below) → body_pairs X c k u ≡ body_pairs Y c k u
    body_same p_done k u = refl
    body_same (p_text s c) k u = λ i. product (text_pairs X s) (body_same c k u i)
    body_same (p_element n inner c) k u = λ i. product (around X (symbol_of b.symbols n) (body_same inner k u i)) (body_same c k u i)
    body_same (p_copy inner c) on_root u = λ i. product (body_same inner on_root u i) (body_same c on_root u i)
    body_same (p_copy inner c) (on_element a) u = λ i. product (around X a (body_same inner (on_element a) u i)) (body_same c (on_element a) u i)
    body_same (p_copy inner c) on_text u = λ i. product (copied_pairs X on_text (body_pairs X inner on_text u)) (body_same c on_text u i)
    body_same (p_apply p mode c) k u = λ i. product (u.pairs mode p) (body_same c k u i)
    body_same (p_call inner c) k u = λ i. product (body_same inner k u i) (body_same c k u i)
    body_same (p_value p c) k u = λ i. product (value_pairs X (bears_value (u.look p))) (body_same c k u i)
    body_same (p_self c) k u = λ i. product (value_pairs X (self_bears X k u.bears)) (body_same c k u i)
    body_same (p_choose y c) k u = λ i. product (branches_same y k u i) (body_same c k u i)
    body_same (p_each e p inner c) k u = λ i. product (u.pairs (b.sheet.modes + e) p) (body_same c k u i)

    branches_same : (y : CallFreeBranches) (k : NodeKind) (u : Below) → branch_pairs X y k u ≡ branch_pairs Y y k u
    branches_same (p_otherwise c) k u = body_same c k u
    branches_same (p_branch t c y) k u = λ i. chosen (holds_by t u.look) (body_same c k u i) (branches_same y k u i)

  hit_same : (g : Going) (q : ℕ) (l : Letter) (k : NodeKind) (u : Below) → hit_pairs X g q l k u ≡ hit_pairs Y g q l k u
  hit_same g q l k u i = chosen (hits X g.path g.state l) (body_same (body_by b.symbols (predicates X) b.sheet.rules b.bodies g.task (ancestor X.rules q) l) k u i) (stay X)

  entry_same : (es : List (List (ℕ × ℕ))) (q k : ℕ) → entry X es q k ≡ entry Y es q k
  entry_same es q k i = get_or es (q * moves_same i + k) []

  value_same : (vs : List ℕ) (k : ℕ) → look X vs k ≡ look Y vs k
  value_same vs k i = get_or vs (k - moves_same i) 0

  look_back : (k : ℕ) (s : Looking) → IsLookAt Y.rules k s → IsLookAt X.rules k s
  look_back k s at = state_back b v w same k (record { path = s.path; mode = None }) s.state at

  fewer_entries : (i : ℕ) → i < entries Y → i < entries X
  fewer_entries i l = subst (λ n. i < ancestors X * n) (sym moves_same) l

  fewer_looks : (i : ℕ) → i < looks Y → i < looks X
  fewer_looks i l = subst (λ n. i < n) (sym (same_looks b v w same)) l

  pub empty_on : (u : HedgeRow) → IsEmptyRow X u → IsEmptyRow Y u
  empty_on u a = record {
    row = hedge_row_on b v w same u a.row;
    ends = a.ends;
    bears = a.bears;
    states = a.states;
    entries = λ i l p q. a.entries i (fewer_entries i l) p q;
    looks = λ i l. a.looks i (fewer_looks i l);
  }

  pub text_on : (u : TreeRow) → IsTextRow X u → IsTextRow Y u
  text_on u a = record {
    row = tree_row_on b v w same u a.row;
    is_text = a.is_text;
    bears = a.bears;
    patterns = a.patterns;
    entries = λ q k g low at i j.
        subst (λ (s : PairSet). listed (entry Y u.entries q k) i j ↔ s i j) (hit_same g q (letter_of_text Y) on_text (nothing_below Y))
        (subst (λ es. listed es i j ↔ hit_pairs X g q (letter_of_text X) on_text (nothing_below X) i j) (entry_same u.entries q k) (a.entries q k g low (move_back b v w same k g at) i j));
    looks = λ k s at. sym (value_same u.looks k) ∙ a.looks k s (look_back k s at);
  }

  pub append_on : (h : HedgeRow) (t : TreeRow) (u : HedgeRow) → IsAppend X h t u → IsAppend Y h t u
  append_on h t u a = record {
    row = hedge_row_on b v w same u a.row;
    ends = a.ends;
    bears = a.bears;
    states = a.states;
    entries = λ i l p q. a.entries i (fewer_entries i l) p q;
    looks = λ i l. a.looks i (fewer_looks i l);
  }

  pub wrap_on : (n : ℕ) (h : HedgeRow) (u : TreeRow) → IsWrap X n h u → IsWrap Y n h u
  wrap_on n h u a = record {
    row = tree_row_on b v w same u a.row;
    is_text = a.is_text;
    bears = a.bears;
    patterns = a.patterns;
    entries = λ q k g at low i j.
        subst (λ es. listed es i j ↔ put_out Y q g at.mode i j) (entry_same u.entries q k)
        (subst (λ (s : PairSet). listed (entry X u.entries q k) i j ↔ s i j) (put_same q g at.mode)
        (a.entries q k g (record { mode = at.mode; state = state_back b v w same k (record { path = g.path; mode = Some at.mode }) g.state at.state; task = at.task }) low i j));
    looks = λ k s at. sym (value_same u.looks k) ∙ (a.looks k s (look_back k s at) ∙ hit_value_same s);
  }
    where
      put_out : Triple → ℕ → Going → ℕ → PairSet
      put_out x q g mode =
          product
          (hit_pairs x g q (letter_around x n h.looks) (on_element n) (below x h.bears h.entries h.looks (number_below x q (letter_around x n h.looks))))
          (pairs_from x h.entries (number_below x q (letter_around x n h.looks)) (moving mode g.path (step x g.path g.state (letter_around x n h.looks))))

      put_same : (q : ℕ) (g : Going) (mode : ℕ) → put_out X q g mode ≡ put_out Y q g mode
      put_same q g mode =
          let l : Letter = letter_around Y n h.looks in
          let m : ℕ = number_below Y q l in
          let next : Select = moving mode g.path (step Y g.path g.state l) in
          ap (λ (z : Letter). product (hit_pairs X g q z (on_element n) (below X h.bears h.entries h.looks (number_below X q z))) (pairs_from X h.entries (number_below X q z) (moving mode g.path (step X g.path g.state z)))) (letter_same n h.looks)
          ∙ (ap (λ (u : Below). product (hit_pairs X g q l (on_element n) u) (pairs_from X h.entries m next)) (below_same h.bears h.entries h.looks m)
          ∙ (ap (λ (s : PairSet). product s (pairs_from X h.entries m next)) (hit_same g q l (on_element n) (below Y h.bears h.entries h.looks m))
          ∙ ap (λ (s : PairSet). product (hit_pairs Y g q l (on_element n) (below Y h.bears h.entries h.looks m)) s) (pairs_same h.entries m next)))

      hit_value_same : (s : Looking) → cond (hits X s.path s.state (letter_around X n h.looks)) (hit_value h.bears) (look_from X h.looks (looking s.path (step X s.path s.state (letter_around X n h.looks))))
          ≡ cond (hits Y s.path s.state (letter_around Y n h.looks)) (hit_value h.bears) (look_from Y h.looks (looking s.path (step Y s.path s.state (letter_around Y n h.looks))))
      hit_value_same s =
          let l : Letter = letter_around Y n h.looks in
          ap (λ (z : Letter). cond (hits X s.path s.state z) (hit_value h.bears) (look_from X h.looks (looking s.path (step X s.path s.state z)))) (letter_same n h.looks)
          ∙ ap (λ (value : ℕ). cond (hits Y s.path s.state l) (hit_value h.bears) value) (look_same h.looks (looking s.path (step Y s.path s.state l)))

  pub passing_on : (t : TreeRow) → IsPassing X t → IsPassing Y t
  passing_on t (j, put, accepts) = (j, subst (λ (s : PairSet). s 0 j) put_same put, accepts)
    where
      root : CallFreeBody
      root = body_of_root b.symbols (predicates X) b.sheet.rules b.bodies (in_mode 0)

      put_same : body_pairs X root on_root (below X t.bears t.entries t.looks 0) ≡ body_pairs Y root on_root (below Y t.bears t.entries t.looks 0)
      put_same = ap (λ (u : Below). body_pairs X root on_root u) (below_same t.bears t.entries t.looks 0) ∙ body_same root on_root (below Y t.bears t.entries t.looks 0)

module _ (x y : Triple) (a : AreAlike x y) where
  pub empty_alike : (u : HedgeRow) → IsEmptyRow x u → IsEmptyRow y u
  empty_alike u k = subst (λ b. IsEmptyRow (made b (rest y)) u) a.bare_same (empty_on (bare x) (rest x) (rest y) a.selects_same u k)

  pub text_alike : (u : TreeRow) → IsTextRow x u → IsTextRow y u
  text_alike u k = subst (λ b. IsTextRow (made b (rest y)) u) a.bare_same (text_on (bare x) (rest x) (rest y) a.selects_same u k)

  pub append_alike : (h : HedgeRow) (t : TreeRow) (u : HedgeRow) → IsAppend x h t u → IsAppend y h t u
  append_alike h t u k = subst (λ b. IsAppend (made b (rest y)) h t u) a.bare_same (append_on (bare x) (rest x) (rest y) a.selects_same h t u k)

  pub wrap_alike : (n : ℕ) (h : HedgeRow) (u : TreeRow) → IsWrap x n h u → IsWrap y n h u
  wrap_alike n h u k = subst (λ b. IsWrap (made b (rest y)) n h u) a.bare_same (wrap_on (bare x) (rest x) (rest y) a.selects_same n h u k)

  pub text_live_alike : IsTextLive x → IsTextLive y
  text_live_alike k = subst (λ b. IsTextLive (made b (rest y))) a.bare_same k

  pub live_append_alike : (h : HedgeRow) (t : TreeRow) → IsLiveAppend x h t → IsLiveAppend y h t
  live_append_alike h t k = subst (λ b. IsLiveAppend (made b (rest y)) h t) a.bare_same k

  pub live_wrap_alike : (n : ℕ) (h : HedgeRow) → IsLiveWrap x n h → IsLiveWrap y n h
  live_wrap_alike n h k = subst (λ b. IsLiveWrap (made b (rest y)) n h) a.bare_same k

  pub symbol_alike : (n : ℕ) → n < symbol_count x.symbols → n < symbol_count y.symbols
  symbol_alike n l = subst (λ b. n < symbol_count b.symbols) a.bare_same l

  pub admitted_alike : (t : TreeRow) → IsTrue (is_admitted x t) → IsTrue (is_admitted y t)
  admitted_alike t k = subst (λ b. IsTrue (is_admitted (made b (rest y)) t)) a.bare_same k

  pub passing_alike : (t : TreeRow) → IsPassing x t → IsPassing y t
  passing_alike t k = subst (λ b. IsPassing (made b (rest y)) t) a.bare_same (passing_on (bare x) (rest x) (rest y) a.selects_same t k)

  pub tree_row_alike : (t : TreeRow) → IsTreeRow x t → IsTreeRow y t
  tree_row_alike t k = subst (λ b. IsTreeRow (made b (rest y)) t) a.bare_same (tree_row_on (bare x) (rest x) (rest y) a.selects_same t k)

  pub hedge_row_alike : (h : HedgeRow) → IsHedgeRow x h → IsHedgeRow y h
  hedge_row_alike h k = subst (λ b. IsHedgeRow (made b (rest y)) h) a.bare_same (hedge_row_on (bare x) (rest x) (rest y) a.selects_same h k)

-- a certificate of the one is one of the other
module _ (x y : Triple) (a : AreAlike x y) where
  abbrev back : AreAlike y x
  back = alike_back x y a

  closed_alike : (trees : List TreeRow) (hedges : List HedgeRow) → AreClosed x trees hedges → AreClosed y trees hedges
  closed_alike trees hedges c = record {
    empty = λ u e. c.empty u (empty_alike y x back u e);
    text = λ l u t. c.text (text_live_alike y x back l) u (text_alike y x back u t);
    append = λ h u t ch ct l p. c.append h u t ch ct (live_append_alike y x back h t l) (append_alike y x back h t u p);
    wrap = λ n h u low ch l p. c.wrap n h u (symbol_alike y x back n low) ch (live_wrap_alike y x back n h l) (wrap_alike y x back n h u p);
  }

  certified_alike : (trees : List TreeRow) (hedges : List HedgeRow) → AreCertified x trees hedges → AreCertified y trees hedges
  certified_alike trees hedges c = record {
    tree_rows = All-weaker (IsTreeRow x) (IsTreeRow y) (tree_row_alike x y a) trees c.tree_rows;
    hedge_rows = All-weaker (IsHedgeRow x) (IsHedgeRow y) (hedge_row_alike x y a) hedges c.hedge_rows;
    closed = closed_alike trees hedges c.closed;
    root = λ t there admitted. passing_alike x y a t (c.root t there (admitted_alike y x back t admitted));
  }

  pub certificate_alike : (d : CertData) → IsCertificateData x d → IsCertificateData y d
  certificate_alike d c = record {
    outputs_fit = subst (λ b. All (IsPairs (state_count b.output output)) d.outputs) a.bare_same c.outputs_fit;
    trees_fit = c.trees_fit;
    hedges_fit = c.hedges_fit;
    certified = certified_alike (map (tree_of d.outputs) (map numbered_tree d.trees)) (map (hedge_of d.outputs) (map numbered_hedge d.hedges)) c.certified;
  }
