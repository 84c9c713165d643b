-- Symbols that nothing tells apart wrap alike.
use Rattle.std.proofs.Common.{◌≡◌, ◌↔◌, inl, inr, ℕ, zero, suc, ◌+◌, List, [], ◌∷◌, Bool, true, false, cond, ◌&&◌, ◌||◌, nat_eq, refl, ap, ◌∙◌, sym, subst, get_or, Some, None, slice_get}
use Rattle.std.proofs.lemmas.Option.{same_Some}
use Rattle.tc_model.specs.Sheets.{Steps, no_step, step, Path, no_alternative, alternative, Test, Rule, CallFreeBody, p_done, p_text, p_element, p_copy, p_apply, p_call, p_value, p_self, p_choose, p_each, CallFreeBranches, p_otherwise, p_branch}
use Rattle.tc_model.specs.Symbols.{Mention, symbol_of}
use Rattle.tc_model.specs.Letters.{Letter, of_symbol, fits_letter}
use Rattle.tc_model.specs.Machine.{CallFreeJob, in_mode, in_body}
use Rattle.tc_model.specs.Numbered.{number_of}
use Rattle.tc_model.specs.PathStates.{Items, State, same_state, further, ends, next_state, is_hit, path_of_rules, steps_of}
use Rattle.tc_model.specs.RuleStates.{fits_below}
use Rattle.tc_model.specs.States.{output, first_state}
use Rattle.tc_model.specs.StateCounts.{PathUse, blocks_of}
use Rattle.tc_alpha.proofs.Members.{contains_from_has}
use Rattle.tc_rules.specs.Graphs.{steps_fit, path_fits}
use Rattle.tc_rules.specs.States.{Going, Looking, before_chosen, chosen, plain_of, built_in_at, body_by}
use Rattle.tc_rules.specs.Tasks.{IsMoveAt, IsLookAt}
use Rattle.tc_rules.specs.RulesView.{IsStateOf, ancestor}
use Rattle.tc_rows.specs.Triples.{Triple, sheet, predicates, number_below, moving, looking}
use Rattle.tc_rows.specs.PairSets.{PairSet, HaveSamePairs}
use Rattle.tc_rows.specs.Rows.{HedgeRow, TreeRow, hit_value}
use Rattle.tc_rows.specs.Bodies.{on_element, Below, stay, around, text_pairs, value_pairs, body_pairs, branch_pairs, holds_by}
use Rattle.tc_rows.specs.Arithmetic as r
use Rattle.tc_rows.specs.Arithmetic.{below, look_from, pairs_from, letter_around, hits, hit_pairs, IsWrap, IsPatternAround}
use Rattle.tc_rows.specs.Alike.{AreAlike, AlikeWrapAlike}
use Rattle.tc_rows.proofs.PairLaws.{same_self, same_on, product_same, chosen_same}
use Rattle.tc_rows.proofs.Leading.{has_at, around_alike}

first_same : {X : Type 0} {a b : X} {us vs : List X} → a ∷ us ≡ b ∷ vs → a ≡ b
first_same e = cc

rest_same : {X : Type 0} {a b : X} {us vs : List X} → a ∷ us ≡ b ∷ vs → us ≡ vs
rest_same e = cc

-- states see of a letter which steps fit it
module _ (symbols : List Mention) (predicates : List Test) (l m : Letter) where
  further_same : (ss : Steps) → steps_fit symbols predicates ss l ≡ steps_fit symbols predicates ss m → (comes : Bool) (items : Items) → further symbols predicates ss l comes items ≡ further symbols predicates ss m comes items
  further_same no_step e comes items = refl
  further_same (step d t w ss) e comes [] = ap (λ y. comes ∷ y) (further_same ss (rest_same e) false [])
  further_same (step d t w ss) e comes (b ∷ items) =
      let fit = first_same e in
      ap (λ y. ((b && d) || comes) ∷ further symbols predicates ss l (b && y) items) fit ∙ ap (λ y. ((b && d) || comes) ∷ y) (further_same ss (rest_same e) (b && fits_letter symbols predicates t w m) items)

  ends_same : (ss : Steps) → steps_fit symbols predicates ss l ≡ steps_fit symbols predicates ss m → (items : Items) → ends symbols predicates ss items l ≡ ends symbols predicates ss items m
  ends_same no_step e items = refl
  ends_same (step d t w ss) e [] = refl
  ends_same (step d t w no_step) e (b ∷ items) = ap (λ y. b && y) (first_same e)
  ends_same (step d t w (step f u v ss)) e (b ∷ items) = ends_same (step f u v ss) (rest_same e) items

  next_same : (p : Path) → path_fits symbols predicates p l ≡ path_fits symbols predicates p m → (s : State) → next_state symbols predicates p s l ≡ next_state symbols predicates p s m
  next_same no_alternative e s = refl
  next_same (alternative ss p) e [] = refl
  next_same (alternative ss p) e (items ∷ s) =
      let a = further_same ss (first_same e) false items in
      let b = next_same p (rest_same e) s in
      λ i. a i ∷ b i

  hit_same : (p : Path) → path_fits symbols predicates p l ≡ path_fits symbols predicates p m → (s : State) → is_hit symbols predicates p s l ≡ is_hit symbols predicates p s m
  hit_same no_alternative e s = refl
  hit_same (alternative ss p) e [] = refl
  hit_same (alternative ss p) e (items ∷ s) =
      let a = ends_same ss (first_same e) items in
      let b = hit_same p (rest_same e) s in
      λ i. a i || b i

  fits_same : (rs : List Rule) → path_fits symbols predicates (path_of_rules rs) l ≡ path_fits symbols predicates (path_of_rules rs) m → (s : State) (i : ℕ) (q : Rule) → slice_get rs i ≡ Some q
      → ends symbols predicates (steps_of q.pattern) (get_or s i []) l ≡ ends symbols predicates (steps_of q.pattern) (get_or s i []) m
  fits_same [] e s i q at = absurd (cc)
  fits_same (w ∷ rs) e s zero q at =
      let same : w ≡ q = same_Some w q at in
      subst (λ (v : Rule). ends symbols predicates (steps_of v.pattern) (get_or s 0 []) l ≡ ends symbols predicates (steps_of v.pattern) (get_or s 0 []) m) same (ends_same (steps_of w.pattern) (first_same e) (get_or s 0 []))
  fits_same (w ∷ rs) e [] (suc i) q at = fits_same rs (rest_same e) [] i q at
  fits_same (w ∷ rs) e (items ∷ s) (suc i) q at = fits_same rs (rest_same e) s i q at

-- what is chosen depends on what fits
chosen_by : (rs : List Rule) (mode : ℕ) (f g : ℕ → Rule → Bool) → ((i : ℕ) (q : Rule) → slice_get rs i ≡ Some q → f i q ≡ g i q) → chosen rs mode f ≡ chosen rs mode g
chosen_by [] mode f g e = refl
chosen_by (q ∷ rs) mode f g e =
    let first = e 0 q refl in
    let rest = chosen_by rs mode (λ i w. f (suc i) w) (λ i w. g (suc i) w) (λ i w at. e (suc i) w at) in
    λ i. before_chosen (nat_eq q.mode mode && first i) q (rest i)

module _ (x : Triple) (a b : ℕ) (alike : AreAlike x a b) where
  around_same : (s t : PairSet) → HaveSamePairs s t → HaveSamePairs (around x a s) (around x b t)
  around_same s t e i j = (
    λ (k, p, at, inside, (y, inner, acc), edge). (k, p, at, subst (λ w. w ≡ true) (alike.output k p at) inside, (y, (e (first_state x.output output k) (first_state x.output output k + y)).0 inner, acc), edge),
    λ (k, p, at, inside, (y, inner, acc), edge).
        (k, p, at, subst (λ w. w ≡ true) (sym (alike.output k p at)) inside, (y, (e (first_state x.output output k) (first_state x.output output k + y)).1 inner, acc), edge),
  )

  module _ (w : Below) where
    mutual
      body_alike : (d : CallFreeBody) → HaveSamePairs (body_pairs x d (on_element a) w) (body_pairs x d (on_element b) w)
      body_alike p_done = same_self (stay x)
      body_alike (p_text s d) = product_same _ _ _ _ (same_self (text_pairs x s)) (body_alike d)
      body_alike (p_element n inner d) = product_same _ _ _ _ (around_alike x (symbol_of x.symbols n) _ _ (body_alike inner)) (body_alike d)
      body_alike (p_copy inner d) = product_same _ _ _ _ (around_same _ _ (body_alike inner)) (body_alike d)
      body_alike (p_apply p m d) = product_same _ _ _ _ (same_self (w.pairs m p)) (body_alike d)
      body_alike (p_call inner d) = product_same _ _ _ _ (body_alike inner) (body_alike d)
      body_alike (p_value p d) = product_same _ _ _ _ (same_self _) (body_alike d)
      body_alike (p_self d) = product_same _ _ _ _ (same_self (value_pairs x w.bears)) (body_alike d)
      body_alike (p_choose y d) = product_same _ _ _ _ (branch_alike y) (body_alike d)
      body_alike (p_each e p inner d) = product_same _ _ _ _ (same_self (w.pairs ((sheet x).modes + e) p)) (body_alike d)

      branch_alike : (y : CallFreeBranches) → HaveSamePairs (branch_pairs x y (on_element a) w) (branch_pairs x y (on_element b) w)
      branch_alike (p_otherwise d) = body_alike d
      branch_alike (p_branch t d y) = chosen_same (holds_by t w.look) (holds_by t w.look) _ _ _ _ refl (body_alike d) (branch_alike y)

  module _ (h : HedgeRow) where
    abbrev La : Letter
    La = letter_around x a h.looks

    abbrev Lb : Letter
    Lb = letter_around x b h.looks

    by_rules : path_fits x.symbols (predicates x) (path_of_rules (sheet x).rules) La ≡ path_fits x.symbols (predicates x) (path_of_rules (sheet x).rules) Lb
    by_rules = alike.steps (path_of_rules (sheet x).rules) (inl refl) La.marks

    by_state : (k : ℕ) (c : PathUse) (s : State) → IsStateOf x.rules k c s → path_fits x.symbols (predicates x) c.path La ≡ path_fits x.symbols (predicates x) c.path Lb
    by_state k c s st = alike.steps c.path (inr (c, contains_from_has (blocks_of (sheet x)) c (has_at (blocks_of (sheet x)) st.place c st.block), refl)) La.marks

    below_same : (q : ℕ) → number_below x q La ≡ number_below x q Lb
    below_same q = ap (λ s. number_of same_state s x.rules.ancestors.states) (next_same x.symbols (predicates x) La Lb (path_of_rules (sheet x).rules) by_rules (ancestor x.rules q))

    body_same : (j : CallFreeJob) (s : State) → body_by x.symbols (predicates x) (sheet x).rules x.bodies j s La ≡ body_by x.symbols (predicates x) (sheet x).rules x.bodies j s Lb
    body_same (in_mode m) s =
        ap (plain_of x.bodies (built_in_at m (of_symbol a)))
        (chosen_by (sheet x).rules m (fits_below x.symbols (predicates x) s La) (fits_below x.symbols (predicates x) s Lb) (λ i q at. fits_same x.symbols (predicates x) La Lb (sheet x).rules by_rules s i q at))
    body_same (in_body p) s = refl

    -- the pairs of a hit, and those further down
    abbrev Inside : ℕ → Below
    Inside q = below x h.bears h.entries h.looks q

    hit_alike : (q k : ℕ) (g : Going) (at : IsMoveAt x.rules k g) → HaveSamePairs (hit_pairs x g q La (on_element a) (Inside (number_below x q La))) (hit_pairs x g q Lb (on_element b) (Inside (number_below x q Lb)))
    hit_alike q k g at =
        let steps = by_state k (record { path = g.path; mode = Some at.mode }) g.state at.state in
        chosen_same (hits x g.path g.state La) (hits x g.path g.state Lb) _ _ _ _ (hit_same x.symbols (predicates x) La Lb g.path steps g.state)
        (subst (λ d. HaveSamePairs (body_pairs x (body_by x.symbols (predicates x) (sheet x).rules x.bodies g.task (ancestor x.rules q) La) (on_element a) (Inside (number_below x q La))) (body_pairs x d (on_element b) (Inside (number_below x q Lb)))) (body_same g.task (ancestor x.rules q))
        (subst (λ v. HaveSamePairs (body_pairs x (body_by x.symbols (predicates x) (sheet x).rules x.bodies g.task (ancestor x.rules q) La) (on_element a) (Inside (number_below x q La))) (body_pairs x (body_by x.symbols (predicates x) (sheet x).rules x.bodies g.task (ancestor x.rules q) La) (on_element b) (Inside v))) (below_same q)
        (body_alike (Inside (number_below x q La)) (body_by x.symbols (predicates x) (sheet x).rules x.bodies g.task (ancestor x.rules q) La))))
        (same_self (stay x))

    down_alike : (q k : ℕ) (g : Going) (at : IsMoveAt x.rules k g)
        → HaveSamePairs (pairs_from x h.entries (number_below x q La) (moving at.mode g.path (r.step x g.path g.state La))) (pairs_from x h.entries (number_below x q Lb) (moving at.mode g.path (r.step x g.path g.state Lb)))
    down_alike q k g at =
        let steps = by_state k (record { path = g.path; mode = Some at.mode }) g.state at.state in
        let same = next_same x.symbols (predicates x) La Lb g.path steps g.state in
        subst (λ s. HaveSamePairs (pairs_from x h.entries (number_below x q La) (moving at.mode g.path (r.step x g.path g.state La))) (pairs_from x h.entries (number_below x q Lb) (moving at.mode g.path s))) same
        (subst (λ v. HaveSamePairs (pairs_from x h.entries (number_below x q La) (moving at.mode g.path (r.step x g.path g.state La))) (pairs_from x h.entries v (moving at.mode g.path (r.step x g.path g.state La)))) (below_same q) (same_self _))

    look_alike : (k : ℕ) (s : Looking) → IsLookAt x.rules k s
        → cond (hits x s.path s.state La) (hit_value h.bears) (look_from x h.looks (looking s.path (r.step x s.path s.state La))) ≡ cond (hits x s.path s.state Lb) (hit_value h.bears) (look_from x h.looks (looking s.path (r.step x s.path s.state Lb)))
    look_alike k s st =
        let steps = by_state k (record { path = s.path; mode = None }) s.state st in
        let hit = hit_same x.symbols (predicates x) La Lb s.path steps s.state in
        let next = next_same x.symbols (predicates x) La Lb s.path steps s.state in
        λ i. cond (hit i) (hit_value h.bears) (look_from x h.looks (looking s.path (next i)))

    pattern_alike : (k : ℕ) → IsPatternAround x a h k ↔ IsPatternAround x b h k
    pattern_alike k =
        (λ (e, at, inside, acc). (e, at, subst (λ w. w ≡ true) (alike.input k e at) inside, acc), λ (e, at, inside, acc). (e, at, subst (λ w. w ≡ true) (sym (alike.input k e at)) inside, acc))

    wrap_alike : (u : TreeRow) → IsWrap x a h u → IsWrap x b h u
    wrap_alike u c = record {
      row = c.row;
      is_text = c.is_text;
      bears = c.bears;
      patterns = λ k. (λ there. (pattern_alike k).0 ((c.patterns k).0 there), λ e. (c.patterns k).1 ((pattern_alike k).1 e));
      entries = λ q k g at low. same_on _ _ _ (c.entries q k g at low) (product_same _ _ _ _ (hit_alike q k g at) (down_alike q k g at));
      looks = λ k s st. c.looks k s st ∙ look_alike k s st;
    }

pub alike_wrap_alike : AlikeWrapAlike
alike_wrap_alike x a b alike h = (wrap_alike x a b alike h, λ (k, e). (k, (pattern_alike x a b alike h k).0 e))
