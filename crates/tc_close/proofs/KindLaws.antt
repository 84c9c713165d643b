-- What is known of kinds is true, stays so where more rows come on, and tells what is dead.
use Rattle.std.proofs.Common.{◌≡◌, ◌<◌, ◌≤◌, inl, inr, ◌==◌, ◌++◌, ◌∷◌, ◌+◌, ◌-◌, refl, ℕ, List, [], length, get_or, false, subst, sym, ap, ◌∙◌, arith, length-append, append-nil}
use Rattle.std.proofs.Math.ListN.{get_or-append}
use Rattle.std.proofs.lemmas.Bool.{cases_lt}
use Rattle.std.proofs.lemmas.List.{get_or_append_left, get_or-append_right}
use Rattle.tc_model.specs.States.{input, state_count}
use Rattle.tc_mat.specs.Matrix.{Matrix}
use Rattle.tc_rows.specs.Triples.{Triple}
use Rattle.tc_rows.specs.Arithmetic.{IsLiveAppend, IsLiveWrap}
use Rattle.tc_beh.specs.Machines.{IsShapeOf}
use Rattle.tc_beh.specs.Rooms.{flagged, flags_in, hedge_row, tree_row}
use Rattle.tc_beh.specs.declared.machine.Shape.{Shape}
use Rattle.tc_close.specs.NumberTables.{HasPair}
use Rattle.tc_close.specs.declared.kinds.Alike.{Alike}
use Rattle.tc_close.specs.declared.kinds.Kinds.{Kinds}
use Rattle.tc_close.specs.Kinds.{AreAlike, IsLike, AreFit, FitLists, KnowsNothing, KnowsAppend, KnowsWrap, LearnsAppend, LearnsWrap, LearnsCore, IsDeadAppend, IsDeadWrap, AreTrue}
use Rattle.tc_close.proofs.Growing.{Keeps}

pub alike_back : (n : ℕ) (a b : List ℕ) → AreAlike n a b → AreAlike n b a
alike_back n a b is = record { head = sym is.head; same = sym is.same }

module _ (x : Triple) where
  abbrev states : ℕ
  states = state_count x.input input

  abbrev patterns : ℕ
  patterns = length x.input.elements

  -- what tells whether an append is live, and whether a wrap is
  abbrev LiveBy : ℕ → List ℕ → ℕ → List ℕ → Type 0
  LiveBy ends flags text marks =
      IsLiveAppend x (record { ends = ends == 1; bears = false; states = flagged 0 flags; entries = []; looks = [] }) (record { is_text = text == 1; bears = false; patterns = flagged 1 marks; entries = []; looks = [] })

  abbrev AroundBy : ℕ → List ℕ → Type 0
  AroundBy a flags = IsLiveWrap x a (record { ends = false; bears = false; states = flagged 0 flags; entries = []; looks = [] })

  live_like : (held : List Matrix) (hs ks ts us : List ℕ) → AreAlike states hs ks → AreAlike patterns ts us → IsLiveAppend x (hedge_row x held hs) (tree_row x held ts) → IsLiveAppend x (hedge_row x held ks) (tree_row x held us)
  live_like held hs ks ts us h t live =
      subst (λ v. LiveBy v (flags_in states ks) (get_or us 0 0) (flags_in patterns us)) h.head
      (subst (λ v. LiveBy (get_or hs 0 0) v (get_or us 0 0) (flags_in patterns us)) h.same
      (subst (λ v. LiveBy (get_or hs 0 0) (flags_in states hs) v (flags_in patterns us)) t.head
      (subst (λ v. LiveBy (get_or hs 0 0) (flags_in states hs) (get_or ts 0 0) v) t.same live)))

  around_like : (held : List Matrix) (a : ℕ) (hs ks : List ℕ) → AreAlike states hs ks → IsLiveWrap x a (hedge_row x held hs) → IsLiveWrap x a (hedge_row x held ks)
  around_like held a hs ks h live = subst (λ v. AroundBy a v) h.same live

  -- whatever sets are held
  pub live_over : (a b : List Matrix) (hs ts : List ℕ) → IsLiveAppend x (hedge_row x a hs) (tree_row x a ts) → IsLiveAppend x (hedge_row x b hs) (tree_row x b ts)
  live_over a b hs ts live = live

  pub around_over : (held other : List Matrix) (a : ℕ) (hs : List ℕ) → IsLiveWrap x a (hedge_row x held hs) → IsLiveWrap x a (hedge_row x other hs)
  around_over held other a hs live = live

module _ {IsOf : Triple → Type 0} {hedges trees : List (List ℕ)} {k : Kinds} (are : AreTrue IsOf hedges trees k) where
  dead_like : (hs ks ts us : List ℕ) → AreAlike k.hedges.flags hs ks → AreAlike k.trees.flags ts us → IsDeadAppend IsOf hs ts → IsDeadAppend IsOf ks us
  dead_like hs ks ts us h t dead = λ x o held live.
      dead x o held (live_like x held ks hs us ts
      (alike_back (state_count x.input input) hs ks (subst (λ n. AreAlike n hs ks) (are.states x o) h))
      (alike_back (length x.input.elements) ts us (subst (λ n. AreAlike n ts us) (are.patterns x o) t)) live)

  dead_around : (a : ℕ) (hs ks : List ℕ) → AreAlike k.hedges.flags hs ks → IsDeadWrap IsOf a hs → IsDeadWrap IsOf a ks
  dead_around a hs ks h dead = λ x o held live.
      dead x o held (around_like x held a ks hs (alike_back (state_count x.input input) hs ks (subst (λ n. AreAlike n hs ks) (are.states x o) h)) live)

  -- what is known to be dead is
  pub known_append : (h t : ℕ) → KnowsAppend k h t → IsDeadAppend IsOf (get_or hedges h []) (get_or trees t [])
  known_append h t (low_h, low_t, at) =
      let i = get_or k.hedges.of.items h 0 in
      let j = get_or k.trees.of.items t 0 in
      let (low_i, low_j, dead) = are.appends i j at in
      dead_like (get_or hedges i []) (get_or hedges h []) (get_or trees j []) (get_or trees t []) (are.fit.of_hedges.each h low_h).1 (are.fit.of_trees.each t low_t).1 dead

  pub known_wrap : (a h : ℕ) → KnowsWrap k a h → IsDeadWrap IsOf a (get_or hedges h [])
  known_wrap a h (low, at) =
      let i = get_or k.hedges.of.items h 0 in
      dead_around a (get_or hedges i []) (get_or hedges h []) (are.fit.of_hedges.each h low).1 (are.wraps a i at).1

  -- what is learned is true
  pub learned_append : (new : Kinds) (h t : ℕ) → FitLists hedges trees new → LearnsAppend hedges trees h t k new → IsDeadAppend IsOf (get_or hedges h []) (get_or trees t []) → AreTrue IsOf hedges trees new
  learned_append new h t fit learns dead = record {
    states = λ x o. learns.states_stay ∙ are.states x o;
    patterns = λ x o. learns.patterns_stay ∙ are.patterns x o;
    core = λ x o. ap (λ (l : Alike). l.flags) learns.cores_stay ∙ are.core x o;
    fit = fit;
    appends = λ i j at. elim (learns.comes i j at) [
      | inl before ↦ are.appends i j before
      | inr like ↦ (
        like.0.0,
        like.1.0,
        dead_like (get_or hedges h []) (get_or hedges i []) (get_or trees t []) (get_or trees j [])
            (alike_back k.hedges.flags (get_or hedges i []) (get_or hedges h []) (subst (λ n. AreAlike n (get_or hedges i []) (get_or hedges h [])) learns.states_stay like.0.1))
            (alike_back k.trees.flags (get_or trees j []) (get_or trees t []) (subst (λ n. AreAlike n (get_or trees j []) (get_or trees t [])) learns.patterns_stay like.1.1)) dead,
      )
    ];
    wraps = λ a i at. are.wraps a i (subst (λ w. HasPair w.places.items a i) learns.wraps_stay at);
  }

  pub learned_wrap : (new : Kinds) (a h : ℕ) → AreFit hedges new.hedges → new.trees ≡ k.trees → LearnsWrap hedges a h k new → IsDeadWrap IsOf a (get_or hedges h []) → AreTrue IsOf hedges trees new
  learned_wrap new a h fit same learns dead = record {
    states = λ x o. learns.states_stay ∙ are.states x o;
    patterns = λ x o. ap (λ (l : Alike). l.flags) same ∙ are.patterns x o;
    core = λ x o. ap (λ (l : Alike). l.flags) learns.cores_stay ∙ are.core x o;
    fit = record { of_hedges = fit; of_trees = subst (λ l. AreFit trees l) (sym same) are.fit.of_trees; of_cores = subst (λ l. AreFit hedges l) (sym learns.cores_stay) are.fit.of_cores };
    appends = λ i j at. are.appends i j (subst (λ w. HasPair w.places.items i j) learns.appends_stay at);
    wraps = λ b i at. elim (learns.comes b i at) [
      | inl before ↦ are.wraps b i before
      | inr like ↦ (
        like.1.0,
        subst (λ n. IsDeadWrap IsOf n (get_or hedges i [])) (sym like.0)
            (dead_around a (get_or hedges h []) (get_or hedges i [])
            (alike_back k.hedges.flags (get_or hedges i []) (get_or hedges h []) (subst (λ n. AreAlike n (get_or hedges i []) (get_or hedges h [])) learns.states_stay like.1.1)) dead),
      )
    ];
  }

  pub learned_core : (new : Kinds) → LearnsCore hedges k new → AreTrue IsOf hedges trees new
  learned_core new learns = record {
    states = λ x o. ap (λ (l : Alike). l.flags) learns.hedges_stay ∙ are.states x o;
    patterns = λ x o. ap (λ (l : Alike). l.flags) learns.trees_stay ∙ are.patterns x o;
    core = λ x o. learns.core_stays ∙ are.core x o;
    fit = record {
      of_hedges = subst (λ l. AreFit hedges l) (sym learns.hedges_stay) are.fit.of_hedges;
      of_trees = subst (λ l. AreFit trees l) (sym learns.trees_stay) are.fit.of_trees;
      of_cores = learns.fit;
    };
    appends = λ i j at. are.appends i j (subst (λ w. HasPair w.places.items i j) learns.appends_stay at);
    wraps = λ a i at. are.wraps a i (subst (λ w. HasPair w.places.items a i) learns.wraps_stay at);
  }

-- one more list is known
pub fit_push : (lists : List (List ℕ)) (a b : Alike) (k : ℕ) → AreFit lists a → length a.of.items < length lists → IsLike a.flags lists k (length a.of.items) → b.flags ≡ a.flags → b.of.items ≡ a.of.items ++ k ∷ [] → AreFit lists b
fit_push lists a b k fit room like same of =
    let count : length b.of.items ≡ length a.of.items + 1 = ap length of ∙ length-append a.of.items (k ∷ []) in
    record {
      few = let f = fit.few in omega (arith, f, same);
      count = omega (arith, count, room);
      each = λ u low. elim (cases_lt u (length a.of.items)) [
        | inl before ↦ subst (λ n. IsLike n lists (get_or b.of.items u 0) u) (sym same)
            (subst (λ l. IsLike a.flags lists (get_or l u 0) u) (sym of) (subst (λ n. IsLike a.flags lists n u) (sym (get_or_append_left a.of.items (k ∷ []) 0 u before)) (fit.each u before)))
        | inr past ↦ let here : length a.of.items ≡ u = omega (arith, past, low, count) in
            subst (λ n. IsLike n lists (get_or b.of.items u 0) u) (sym same)
            (subst (λ l. IsLike a.flags lists (get_or l u 0) u) (sym of)
            (subst (λ n. IsLike a.flags lists (get_or (a.of.items ++ k ∷ []) n 0) n) here (subst (λ n. IsLike a.flags lists n (length a.of.items)) (sym (last_at a.of.items k)) like)))
      ];
    }
  where
    last_at : (xs : List ℕ) (x : ℕ) → get_or (xs ++ x ∷ []) (length xs) 0 ≡ x
    last_at xs x = get_or-append_right xs (x ∷ []) (length xs) (length xs) 0 refl (omega arith) ∙ ap (λ n. get_or (x ∷ []) n 0) (let e : length xs - length xs ≡ 0 = omega arith in e)

-- more rows come on
at_more : (lists more : List (List ℕ)) (u : ℕ) → u < length lists → get_or (lists ++ more) u [] ≡ get_or lists u []
at_more lists more u low = get_or-append lists more [] u low

low_more : (lists more : List (List ℕ)) (u : ℕ) → u < length lists → u < length (lists ++ more)
low_more lists more u low = let n = length-append lists more in omega (arith, n, low)

fit_more : (lists more : List (List ℕ)) (a : Alike) → AreFit lists a → AreFit (lists ++ more) a
fit_more lists more a fit = record {
  few = fit.few;
  count = let n = length-append lists more in let c = fit.count in omega (arith, n, c);
  each = λ u low.
      let (inside, like) = fit.each u low in
      let there : u < length lists = let c = fit.count in omega (arith, low, c) in (
        low_more lists more (get_or a.of.items u 0) inside,
        subst (λ l. AreAlike a.flags l (get_or (lists ++ more) u [])) (sym (at_more lists more (get_or a.of.items u 0) inside))
            (subst (λ l. AreAlike a.flags (get_or lists (get_or a.of.items u 0) []) l) (sym (at_more lists more u there)) like),
      );
}

pub true_more : (IsOf : Triple → Type 0) (hedges more_hedges trees more_trees : List (List ℕ)) (k : Kinds) → AreTrue IsOf hedges trees k → AreTrue IsOf (hedges ++ more_hedges) (trees ++ more_trees) k
true_more IsOf hedges more_hedges trees more_trees k are = record {
  states = are.states;
  patterns = are.patterns;
  core = are.core;
  fit = record {
    of_hedges = fit_more hedges more_hedges k.hedges are.fit.of_hedges;
    of_trees = fit_more trees more_trees k.trees are.fit.of_trees;
    of_cores = fit_more hedges more_hedges k.cores are.fit.of_cores;
  };
  appends = λ i j at.
      let (low_i, low_j, dead) = are.appends i j at in (
        low_more hedges more_hedges i low_i,
        low_more trees more_trees j low_j,
        subst (λ l. IsDeadAppend IsOf l (get_or (trees ++ more_trees) j [])) (sym (at_more hedges more_hedges i low_i))
            (subst (λ l. IsDeadAppend IsOf (get_or hedges i []) l) (sym (at_more trees more_trees j low_j)) dead),
      );
  wraps = λ a i at.
      let (low, dead) = are.wraps a i at in
      (low_more hedges more_hedges i low, subst (λ l. IsDeadWrap IsOf a l) (sym (at_more hedges more_hedges i low)) dead);
}

pub true_hedge : (IsOf : Triple → Type 0) (hedges after trees : List (List ℕ)) (n : ℕ) (ns : List ℕ) (k : Kinds) → Keeps hedges after n ns → AreTrue IsOf hedges trees k → AreTrue IsOf after trees k
true_hedge IsOf hedges after trees n ns k keep are =
    subst (λ l. AreTrue IsOf l trees k) (sym keep.all) (subst (λ l. AreTrue IsOf (hedges ++ keep.more) l k) (append-nil trees) (true_more IsOf hedges keep.more trees [] k are))

pub true_tree : (IsOf : Triple → Type 0) (hedges trees after : List (List ℕ)) (n : ℕ) (ns : List ℕ) (k : Kinds) → Keeps trees after n ns → AreTrue IsOf hedges trees k → AreTrue IsOf hedges after k
true_tree IsOf hedges trees after n ns k keep are =
    subst (λ l. AreTrue IsOf hedges l k) (sym keep.all) (subst (λ l. AreTrue IsOf l (trees ++ keep.more) k) (append-nil hedges) (true_more IsOf hedges [] trees keep.more k are))

-- nothing is known
pub nothing_true : (IsOf : Triple → Type 0) (s : Shape) (k : Kinds) → KnowsNothing s k → s.inputs ≤ 4294967295 → s.entries ≤ 4294967295 → s.patterns ≤ 4294967295
    → ((x : Triple) → IsOf x → IsShapeOf x s) → AreTrue IsOf [] [] k
nothing_true IsOf s k none few few_entries few_patterns is = record {
  states = λ x o. none.states_are ∙ (is x o).input_states;
  patterns = λ x o. none.patterns_are ∙ (is x o).input_patterns;
  core = λ x o. none.core_is ∙ (ap (λ n. n + s.entries) (is x o).input_states ∙ ap (λ n. state_count x.input input + n) (is x o).entry_number);
  fit = record {
    of_hedges = fit_none k.hedges none.of_hedges (let e = none.states_are in omega (arith, e, few));
    of_trees = fit_none k.trees none.of_trees (let e = none.patterns_are in omega (arith, e, few_patterns));
    of_cores = fit_none k.cores none.of_cores (let e = none.core_is in omega (arith, e, few, few_entries));
  };
  appends = λ i j at. absurd (none.no_append i j at);
  wraps = λ a i at. absurd (none.no_wrap a i at);
}
  where
    fit_none : (a : Alike) → a.of.items ≡ [] → a.flags ≤ 8589934590 → AreFit [] a
    fit_none a of few = record {
      few = few;
      count = let n : length a.of.items ≡ 0 = ap length of in omega (arith, n);
      each = λ u low. let n : length a.of.items ≡ 0 = ap length of in absurd (omega (arith, n, low));
    }
