-- Triples of two schemas and a stylesheet are alike but for tables, and so have the same rows.
use Rattle.std.proofs.Common.{◌≡◌, inl, inr, ℕ, suc, ◌+◌, ◌<◌, ◌↔◌, List, [], ◌∷◌, refl, ap, sym, ◌∙◌, subst, filter, length, Bool, Some, slice_get, arith}
use Rattle.std.proofs.lemmas.List.Elements.{All-weaker}
use Rattle.std.proofs.lemmas.Option.{same_Some}
use Rattle.tc_model.specs.Grammars.{Grammar}
use Rattle.tc_model.specs.Letters.{Letter}
use Rattle.tc_model.specs.LiveTrees.{IsLiveTree, IsLiveHedge}
use Rattle.tc_model.specs.Numberings.{predicates_of, rounds, AreReached, letters_of_elements}
use Rattle.tc_model.specs.PathStates.{State, first_state, next_state, path_of_rules}
use Rattle.tc_model.specs.Sheets.{Body, Rule, Sheet, CallFreeBody}
use Rattle.tc_model.specs.StateCounts.{PathUse, blocks_of, all_count, some_item}
use Rattle.tc_model.specs.Symbols.{Mention, symbols_of, symbol_of, fresh_name}
use Rattle.tc_model.specs.Trees.{Trees, none, text, element}
use Rattle.tc_rules.specs.Graphs.{Graph}
use Rattle.tc_rules.specs.States.{AllInline}
use Rattle.tc_rules.proofs.SelectStates.{settles}
use Rattle.tc_rows.specs.Counts.{Counts, Pass, IsRowOfLiveTree, IsRowOfLiveHedge, IsOutput, PassEntries}
use Rattle.tc_rows.specs.Derivations.{ArePlain}
use Rattle.tc_rows.specs.Rows.{HedgeRow, TreeRow}
use Rattle.tc_rows.specs.Triples.{Triple, IsTriple, sheet}
use Rattle.tc_rows.proofs.Stood.{inlines_one}
use Rattle.tc_close.specs.Triples.{IsTripleOf, AreSame, Agree, TriplesAgree}
use Rattle.tc_close.proofs.Transport.{states_of, all_states, Bare, bare, AreAlike, alike_back, hedge_alike, tree_alike, entries_alike}

-- all that are reached is one list
module _ (counts : State → Bool) (next : State → Letter → State) (letters : List Letter) where
  reached_one : (first : State) (xs ys : List State) → AreReached counts next letters first xs → AreReached counts next letters first ys → xs ≡ ys
  reached_one first xs ys a b =
      let start = filter counts (first ∷ []) in
      let turned : a.found.0 + b.found.0 ≡ b.found.0 + a.found.0 = omega arith in
      sym (settles counts next letters first xs a b.found.0) ∙ (ap (λ n. rounds counts next letters n start) turned ∙ settles counts next letters first ys b a.found.0)

all_inline_one : (named : List Body) (rs : List Rule) (ps qs : List CallFreeBody) → AllInline named rs ps → AllInline named rs qs → ps ≡ qs
all_inline_one named [] [] [] u v = refl
all_inline_one named [] [] (q ∷ qs) u v = absurd v
all_inline_one named [] (p ∷ ps) qs u v = absurd u
all_inline_one named (r ∷ rs) [] qs u v = absurd u
all_inline_one named (r ∷ rs) (p ∷ ps) [] u v = absurd v
all_inline_one named (r ∷ rs) (p ∷ ps) (q ∷ qs) u v =
    let first : p ≡ q = inlines_one u.0 v.0 in let later : ps ≡ qs = all_inline_one named rs ps qs u.1 v.1 in cc

-- what symbols and a stylesheet fix
record Fixed (symbols : List Mention) (s : Sheet) (ps : List CallFreeBody) (xs : List State) (gs : List Graph) : Type 0 where
  pub bodies : AllInline s.named s.rules ps
  pub above : AreReached all_count (next_state symbols (predicates_of s) (path_of_rules s.rules)) (letters_of_elements symbols (predicates_of s)) (first_state (path_of_rules s.rules)) xs
  pub selects : (i : ℕ) (b : PathUse) → slice_get (blocks_of s) i ≡ Some b
      → (g : Graph) × (slice_get gs i ≡ Some g) × AreReached some_item (next_state symbols (predicates_of s) b.path) (letters_of_elements symbols (predicates_of s)) (first_state b.path) g.states
  pub all : length gs ≡ length (blocks_of s)

fixed_of : (x : Triple) → IsTriple x → Fixed x.symbols (sheet x) x.bodies x.rules.ancestors.states x.rules.selects
fixed_of x is =
    record {
      bodies = is.bodies;
      above = is.rules.ancestors.states;
      selects = λ i b e. let (g, at, k) = is.rules.selects i b e in (g, at, k.states);
      all = is.rules.all_selects;
    }

module _ (symbols : List Mention) (s : Sheet) where
  abbrev IsReachedBy : PathUse → List State → Type 0
  IsReachedBy b xs = AreReached some_item (next_state symbols (predicates_of s) b.path) (letters_of_elements symbols (predicates_of s)) (first_state b.path) xs

  abbrev HasEach : List PathUse → List Graph → Type 0
  HasEach bs gs = (i : ℕ) (b : PathUse) → slice_get bs i ≡ Some b → (g : Graph) × (slice_get gs i ≡ Some g) × IsReachedBy b g.states

  selects_one : (bs : List PathUse) (gs hs : List Graph) → length gs ≡ length bs → length hs ≡ length bs → HasEach bs gs → HasEach bs hs → all_states gs ≡ all_states hs
  selects_one [] [] [] l m a b = refl
  selects_one [] [] (h ∷ hs) l m a b = absurd (omega (arith, m))
  selects_one [] (g ∷ gs) hs l m a b = absurd (omega (arith, l))
  selects_one (u ∷ bs) [] hs l m a b = absurd (omega (arith, l))
  selects_one (u ∷ bs) (g ∷ gs) [] l m a b = absurd (omega (arith, m))
  selects_one (u ∷ bs) (g ∷ gs) (h ∷ hs) l m a b =
      let (d, at, k) = a 0 u refl in
      let (e, there, n) = b 0 u refl in
      let first : g.states ≡ h.states =
      reached_one some_item (next_state symbols (predicates_of s) u.path) (letters_of_elements symbols (predicates_of s)) (first_state u.path) g.states h.states
      (subst (IsReachedBy u) (ap states_of (sym (same_Some _ _ at))) k) (subst (IsReachedBy u) (ap states_of (sym (same_Some _ _ there))) n)
      in
      let later : all_states gs ≡ all_states hs = selects_one bs gs hs (omega (arith, l)) (omega (arith, m)) (λ i v at. a (suc i) v at) (λ i v at. b (suc i) v at) in
      ap (λ w. w ∷ all_states gs) first ∙ ap (λ w. h.states ∷ w) later

module _ (i o : Grammar) (s : Sheet) where
  abbrev symbols : List Mention
  symbols = symbols_of i o s

  symbols_are : (x : Triple) → IsTripleOf i o s x → x.symbols ≡ symbols
  symbols_are x a = a.triple.symbols ∙ (ap (λ w. symbols_of w x.output (sheet x)) a.input ∙ (ap (λ w. symbols_of i w (sheet x)) a.output ∙ ap (symbols_of i o) a.stylesheet))

  fixed : (x : Triple) → IsTripleOf i o s x → Fixed symbols s x.bodies x.rules.ancestors.states x.rules.selects
  fixed x a =
      subst (λ w. Fixed symbols w x.bodies x.rules.ancestors.states x.rules.selects) a.stylesheet
      (subst (λ w. Fixed w (sheet x) x.bodies x.rules.ancestors.states x.rules.selects) (symbols_are x a) (fixed_of x a.triple))

  abbrev barely : List CallFreeBody → List State → Bare
  barely ps xs = record { input = i; output = o; symbols = symbols; sheet = s; bodies = ps; ancestors = xs }

  bare_is : (x : Triple) → IsTripleOf i o s x → bare x ≡ barely x.bodies x.rules.ancestors.states
  bare_is x a =
      ap (λ w. record { input = w; output = x.output; symbols = x.symbols; sheet = sheet x; bodies = x.bodies; ancestors = x.rules.ancestors.states }) a.input
      ∙ (ap (λ w. record { input = i; output = w; symbols = x.symbols; sheet = sheet x; bodies = x.bodies; ancestors = x.rules.ancestors.states }) a.output
      ∙ (ap (λ w. record { input = i; output = o; symbols = w; sheet = sheet x; bodies = x.bodies; ancestors = x.rules.ancestors.states }) (symbols_are x a)
      ∙ ap (λ w. record { input = i; output = o; symbols = symbols; sheet = w; bodies = x.bodies; ancestors = x.rules.ancestors.states }) a.stylesheet))

  pub are_alike : (x y : Triple) → IsTripleOf i o s x → IsTripleOf i o s y → AreAlike x y
  are_alike x y a b =
      let f = fixed x a in
      let g = fixed y b in
      let bodies : x.bodies ≡ y.bodies = all_inline_one s.named s.rules x.bodies y.bodies f.bodies g.bodies in
      let above : x.rules.ancestors.states ≡ y.rules.ancestors.states =
      reached_one all_count (next_state symbols (predicates_of s) (path_of_rules s.rules)) (letters_of_elements symbols (predicates_of s)) (first_state (path_of_rules s.rules)) x.rules.ancestors.states y.rules.ancestors.states f.above g.above
      in
      record {
        bare_same = bare_is x a ∙ (ap (λ w. barely w x.rules.ancestors.states) bodies ∙ (ap (barely y.bodies) above ∙ sym (bare_is y b)));
        selects_same = selects_one symbols s (blocks_of s) x.rules.selects y.rules.selects f.all g.all f.selects g.selects;
      }

-- what holds of the same is passed and counted alike
module _ {R : Type 0} (P Q : R → Type 0) (on : (r : R) → P r ↔ Q r) where
  pass_on : (most : ℕ) → Pass P most → Pass Q most
  pass_on most p = record { some = p.some; different = p.different; each = All-weaker P Q (λ r. (on r).0) p.some p.each; more = p.more }

  count_on : (n : ℕ) → Counts P n → Counts Q n
  count_on n c =
      record { all = c.all; different = c.different; each = λ r q. c.each r ((on r).1 q); no_other = λ r h. (on r).0 (c.no_other r h); count = c.count }

same_of : {R : Type 0} (P Q : R → Type 0) → ((r : R) → P r → Q r) → ((r : R) → Q r → P r) → AreSame P Q
same_of P Q there back =
    let on : (r : _) → P r ↔ Q r = λ r. (there r, back r) in
    let of : (r : _) → Q r ↔ P r = λ r. (back r, there r) in
    record { each = on; pass = λ most. (pass_on P Q on most, pass_on Q P of most); counts = λ n. (count_on P Q on n, count_on Q P of n) }

module _ (x y : Triple) (a : AreAlike x y) where
  live_tree_on : (r : TreeRow) → IsRowOfLiveTree x r → IsRowOfLiveTree y r
  live_tree_on r (t, l, k) = (t, subst (λ w. IsLiveTree w.input t) a.bare_same l, tree_alike x y a t r k)

  live_hedge_on : (r : HedgeRow) → IsRowOfLiveHedge x r → IsRowOfLiveHedge y r
  live_hedge_on r (h, l, k) = (h, subst (λ w. IsLiveHedge w.input h) a.bare_same l, hedge_alike x y a h r k)

  output_on : (pairs : List (ℕ × ℕ)) → IsOutput x pairs → IsOutput y pairs
  output_on pairs (inl (r, l, c)) = inl (r, live_tree_on r l, c)
  output_on pairs (inr (r, l, c)) = inr (r, live_hedge_on r l, c)

  many_entries_on : (most : ℕ) → PassEntries x most → PassEntries y most
  many_entries_on most p = subst (λ n. most < n) (entries_alike x y a) p

  plain_on : (h : Trees) → ArePlain x h → ArePlain y h
  plain_on none p = tt
  plain_on (text s rest) p = (p.0, plain_on rest p.1)
  plain_on (element n kids rest) p = (p.0 ∙ ap (λ w. fresh_name w.symbols (symbol_of w.symbols n)) a.bare_same, plain_on kids p.1, plain_on rest p.2)

agree : (x y : Triple) → AreAlike x y → Agree x y
agree x y a =
    let b = alike_back x y a in
    record {
      trees = λ t r. (tree_alike x y a t r, tree_alike y x b t r);
      hedges = λ h r. (hedge_alike x y a h r, hedge_alike y x b h r);
      live_trees = same_of (IsRowOfLiveTree x) (IsRowOfLiveTree y) (live_tree_on x y a) (live_tree_on y x b);
      live_hedges = same_of (IsRowOfLiveHedge x) (IsRowOfLiveHedge y) (live_hedge_on x y a) (live_hedge_on y x b);
      outputs = same_of (IsOutput x) (IsOutput y) (output_on x y a) (output_on y x b);
      entries = λ most. (many_entries_on x y a most, many_entries_on y x b most);
      plain = λ h. (plain_on x y a h, plain_on y x b h);
    }

pub triples_agree : TriplesAgree
triples_agree i o s x y a b = agree x y (are_alike i o s x y a b)
