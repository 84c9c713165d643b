-- The number of a state is the one that stands for it.
use Rattle.std.proofs.Common.{◌≡◌, ◌⊎◌, inl, inr, ℕ, zero, suc, ◌+◌, ◌<◌, ◌≤◌, List, [], ◌∷◌, ◌++◌, Bool, true, false, ◌&&◌, ◌||◌, refl, ap, ◌∙◌, sym, subst, map, take, length, Option, Some, None, slice_get, if◌then◌else◌, eq-eqb, arith}
use Rattle.std.specs.List.{list_any}
use Rattle.std.proofs.lemmas.Bool.{true≢false}
use Rattle.std.proofs.lemmas.Option.{same_Some, slice_get_within}
use Rattle.std.proofs.lemmas.List.{length-map}
use Rattle.tc_model.specs.Sheets.{Path, Sheet}
use Rattle.tc_model.specs.Numbered.{each_once, each_once_after, number_of}
use Rattle.tc_model.specs.SameTests.{same_path}
use Rattle.tc_model.specs.PathStates.{State, same_state}
use Rattle.tc_model.specs.Numberings.{Move, same_move, moves_of, looks_of}
use Rattle.tc_model.specs.StateCounts.{PathUse, blocks_of}
use Rattle.tc_rules.specs.Graphs.{Graph}
use Rattle.tc_rules.specs.RulesView.{count_states}
use Rattle.tc_rules.specs.Once.{put_all}
use Rattle.tc_rules.proofs.Numbering.{put_is, IsOnce, once_put_all}
use Rattle.tc_rules.proofs.Sameness.{path_self, move_self}
use Rattle.tc_rules.proofs.SelectStates.{count_cons}
use Rattle.tc_rows.specs.Triples.{Select, same_mode, same_use, same_select, states_by}

neither : (a b : Bool) → (a || b) ≡ false → (a ≡ false) × (b ≡ false)
neither true b e = absurd (true≢false e)
neither false b e = (refl, e)

module _ {X : Type 0} (same : X → X → Bool) where
  short_after : (seen xs : List X) → length (each_once_after same seen xs) ≤ length xs
  short_after seen [] = omega arith
  short_after seen (x ∷ xs) = by (list_any (same x) seen) (short_after seen xs) (short_after (x ∷ seen) xs)
    where
      by : (b : Bool) → length (each_once_after same seen xs) ≤ length xs → length (each_once_after same (x ∷ seen) xs) ≤ length xs
          → length (if b then each_once_after same seen xs else (x ∷ each_once_after same (x ∷ seen) xs)) ≤ length (x ∷ xs)
      by true a c = omega (arith, a)
      by false a c = omega (arith, c)

  same_tail : {x y : X} {xs ys : List X} → x ∷ xs ≡ y ∷ ys → xs ≡ ys
  same_tail e = cc

  once_first : (seen : List X) (x : X) (xs : List X) → each_once_after same seen (x ∷ xs) ≡ x ∷ xs → (list_any (same x) seen ≡ false) × (each_once_after same (x ∷ seen) xs ≡ xs)
  once_first seen x xs e = by (list_any (same x) seen) refl e
    where
      by : (b : Bool) → list_any (same x) seen ≡ b → (if b then each_once_after same seen xs else (x ∷ each_once_after same (x ∷ seen) xs)) ≡ x ∷ xs
          → (list_any (same x) seen ≡ false) × (each_once_after same (x ∷ seen) xs ≡ xs)
      by true f g = absurd (omega (arith, ap length g, short_after seen xs))
      by false f g = (f, same_tail g)

  -- what is kept of a list once has each once
  pub once_again : (xs : List X) → each_once_after same [] (each_once same xs) ≡ each_once same xs
  once_again xs =
      let is : put_all same [] xs ≡ each_once same xs = put_is same [] xs in
      sym (put_is same [] (each_once same xs)) ∙ subst (IsOnce same) is (once_put_all same [] xs refl)

  module _ (is_self : (x : X) → same x x ≡ true) where
    number_after : (seen xs : List X) (k : ℕ) (y : X) → each_once_after same seen xs ≡ xs → slice_get xs k ≡ Some y → (number_of same y xs ≡ k) × (list_any (same y) seen ≡ false)
    number_after seen [] k y o e = absurd (cc)
    number_after seen (x ∷ xs) zero y o e =
        let here : x ≡ y = same_Some x y e in
        let found : same y x ≡ true = ap (same y) here ∙ is_self y in
        (ap (λ (b : Bool). if b then 0 else (number_of same y xs + 1)) found, subst (λ w. list_any (same w) seen ≡ false) here (once_first seen x xs o).0)
    number_after seen (x ∷ xs) (suc k) y o e =
        let (a, b) = number_after (x ∷ seen) xs k y (once_first seen x xs o).1 e in
        let (c, d) = neither (same y x) (list_any (same y) seen) b in
        let next : number_of same y xs + 1 ≡ suc k = omega (arith, a) in
        (ap (λ (w : Bool). if w then 0 else (number_of same y xs + 1)) c ∙ next, d)

    -- in a list that has each once the number of what stands at a place is the place
    pub number_at : (xs : List X) (k : ℕ) (y : X) → each_once_after same [] xs ≡ xs → slice_get xs k ≡ Some y → number_of same y xs ≡ k
    number_at xs k y o e = (number_after [] xs k y o e).0

  -- in two parts
  pub number_front : (y : X) (xs ys : List X) (k : ℕ) → number_of same y xs ≡ k → k < length xs → number_of same y (xs ++ ys) ≡ k
  number_front y [] ys k e l = absurd (omega (arith, l))
  number_front y (x ∷ xs) ys k e l = by (same y x) e (number_front y xs ys)
    where
      by : (b : Bool) → (if b then 0 else (number_of same y xs + 1)) ≡ k → ((k : ℕ) → number_of same y xs ≡ k → k < length xs → number_of same y (xs ++ ys) ≡ k)
          → (if b then 0 else (number_of same y (xs ++ ys) + 1)) ≡ k
      by true f later = f
      by false f later =
          let rest : number_of same y (xs ++ ys) ≡ number_of same y xs = later (number_of same y xs) refl (omega (arith, f, l)) in
          omega (arith, f, rest)

  pub number_past : (y : X) (xs ys : List X) → list_any (same y) xs ≡ false → number_of same y (xs ++ ys) ≡ length xs + number_of same y ys
  number_past y [] ys e = omega arith
  number_past y (x ∷ xs) ys e =
      let (a, b) = neither (same y x) (list_any (same y) xs) e in
      let rest : number_of same y (xs ++ ys) ≡ length xs + number_of same y ys = number_past y xs ys b in
      let next : number_of same y (xs ++ ys) + 1 ≡ length (x ∷ xs) + number_of same y ys = omega (arith, rest) in
      ap (λ (w : Bool). if w then 0 else (number_of same y (xs ++ ys) + 1)) a ∙ next

  -- what has a number is there
  pub number_finds : (y : X) (xs : List X) → number_of same y xs < length xs → (z : X) × (slice_get xs (number_of same y xs) ≡ Some z) × (same y z ≡ true)
  number_finds y [] l = absurd (omega (arith, l))
  number_finds y (x ∷ xs) l = by (same y x) refl l (number_finds y xs)
    where
      next : (n : ℕ) → slice_get (x ∷ xs) (n + 1) ≡ slice_get xs n
      next n = let e : n + 1 ≡ suc n = omega arith in ap (slice_get (x ∷ xs)) e

      by : (b : Bool) → same y x ≡ b → (if b then 0 else (number_of same y xs + 1)) < length (x ∷ xs) → (number_of same y xs < length xs → (z : X) × (slice_get xs (number_of same y xs) ≡ Some z) × (same y z ≡ true))
          → (z : X) × (slice_get (x ∷ xs) (if b then 0 else (number_of same y xs + 1)) ≡ Some z) × (same y z ≡ true)
      by true f g later = (x, refl, f)
      by false f g later = let (z, at, is) = later (omega (arith, g)) in (z, next (number_of same y xs) ∙ at, is)

  pub number_most : (y : X) (xs : List X) → number_of same y xs ≤ length xs
  number_most y [] = omega arith
  number_most y (x ∷ xs) = by (same y x) (number_most y xs)
    where
      by : (b : Bool) → number_of same y xs ≤ length xs → (if b then 0 else (number_of same y xs + 1)) ≤ length (x ∷ xs)
      by true h = omega arith
      by false h = omega (arith, h)

abbrev pub with_state : PathUse → State → Select
with_state b s = record { by = b; state = s }

abbrev pub of_move : Move → PathUse
of_move m = record { path = m.path; mode = Some m.mode }

abbrev pub of_look : Path → PathUse
of_look p = record { path = p; mode = None }

mode_self : (m : Option ℕ) → same_mode m m ≡ true
mode_self None = refl
mode_self (Some m) = eq-eqb m m refl

both : (a b : Bool) → a ≡ true → b ≡ true → (a && b) ≡ true
both true b e f = f
both false b e f = cc

use_self : (b : PathUse) → same_use b b ≡ true
use_self b = both (same_mode b.mode b.mode) (same_path b.path b.path) (mode_self b.mode) (path_self b.path)

-- the uses of a stylesheet's paths have each its own place
moves_before : (m : Move) (ms : List Move) → number_of same_use (of_move m) (map of_move ms) ≡ number_of same_move m ms
moves_before m [] = refl
moves_before m (x ∷ ms) = ap (λ n. if same_move m x then 0 else (n + 1)) (moves_before m ms)

looks_before : (p : Path) (ps : List Path) → number_of same_use (of_look p) (map of_look ps) ≡ number_of same_path p ps
looks_before p [] = refl
looks_before p (x ∷ ps) = ap (λ n. if same_path p x then 0 else (n + 1)) (looks_before p ps)

no_move : (p : Path) (ms : List Move) → list_any (same_use (of_look p)) (map of_move ms) ≡ false
no_move p [] = refl
no_move p (m ∷ ms) = no_move p ms

-- what stands in two lists at a place
pub in_parts : {X : Type 0} (xs ys : List X) (i : ℕ) (y : X) → slice_get (xs ++ ys) i ≡ Some y → (slice_get xs i ≡ Some y) ⊎ ((j : ℕ) × (i ≡ length xs + j) × (slice_get ys j ≡ Some y))
in_parts [] ys i y e = inr (i, omega arith, e)
in_parts (x ∷ xs) ys zero y e = inl e
in_parts (x ∷ xs) ys (suc i) y e = elim (in_parts xs ys i y e) [ inl a ↦ inl a | inr (j, is, a) ↦ inr (j, omega (arith, is), a) ]

pub in_map : {X Y : Type 0} (f : X → Y) (xs : List X) (i : ℕ) (y : Y) → slice_get (map f xs) i ≡ Some y → (x : X) × (slice_get xs i ≡ Some x) × (f x ≡ y)
in_map f [] i y e = absurd (cc)
in_map f (x ∷ xs) zero y e = (x, refl, same_Some (f x) y e)
in_map f (x ∷ xs) (suc i) y e = in_map f xs i y e

pub use_number : (s : Sheet) (i : ℕ) (b : PathUse) → slice_get (blocks_of s) i ≡ Some b → number_of same_use b (blocks_of s) ≡ i
use_number s i b e = elim (in_parts (map of_move (moves_of s)) (map of_look (looks_of s)) i b e) [ inl a ↦ first a | inr (j, is, a) ↦ second j is a ]
  where
    first : slice_get (map of_move (moves_of s)) i ≡ Some b → number_of same_use b (blocks_of s) ≡ i
    first a =
        let (m, at, is) = in_map of_move (moves_of s) i b a in
        let number : number_of same_use (of_move m) (map of_move (moves_of s)) ≡ i = moves_before m (moves_of s) ∙ number_at same_move move_self (moves_of s) i m (once_again same_move _) at in
        subst (λ w. number_of same_use w (blocks_of s) ≡ i) is
        (number_front same_use (of_move m) (map of_move (moves_of s)) (map of_look (looks_of s)) i number (slice_get_within (map of_move (moves_of s)) i b a))

    second : (j : ℕ) → i ≡ length (map of_move (moves_of s)) + j → slice_get (map of_look (looks_of s)) j ≡ Some b → number_of same_use b (blocks_of s) ≡ i
    second j place a =
        let (p, at, is) = in_map of_look (looks_of s) j b a in
        let number : number_of same_use (of_look p) (map of_look (looks_of s)) ≡ j = looks_before p (looks_of s) ∙ number_at same_path path_self (looks_of s) j p (once_again same_path _) at in
        let past = number_past same_use (of_look p) (map of_move (moves_of s)) (map of_look (looks_of s)) (no_move p (moves_of s)) in
        subst (λ w. number_of same_use w (blocks_of s) ≡ i) is (omega (arith, past, number, place))

mapped_number : (b : PathUse) (s : State) (ss : List State) → number_of same_select (with_state b s) (map (with_state b) ss) ≡ number_of same_state s ss
mapped_number b s [] = refl
mapped_number b s (x ∷ ss) =
    let is : (same_use b b && same_state s x) ≡ same_state s x = ap (λ w. w && same_state s x) (use_self b) in
    ap (λ (w : Bool). if w then 0 else (number_of same_select (with_state b s) (map (with_state b) ss) + 1)) is ∙ ap (λ n. if same_state s x then 0 else (n + 1)) (mapped_number b s ss)

mapped_apart : (b c : PathUse) (s : State) (ss : List State) → same_use b c ≡ false → list_any (same_select (with_state b s)) (map (with_state c) ss) ≡ false
mapped_apart b c s [] e = refl
mapped_apart b c s (x ∷ ss) e =
    let is : (same_use b c && same_state s x) ≡ false = ap (λ w. w && same_state s x) e in
    ap (λ w. w || list_any (same_select (with_state b s)) (map (with_state c) ss)) is ∙ mapped_apart b c s ss e

-- the number within all states, by that of the path's use and that within its states
pub number_by : (bs : List PathUse) (gs : List Graph) (i : ℕ) (b : PathUse) (g : Graph) (j : ℕ) (s : State)
    → number_of same_use b bs ≡ i → slice_get bs i ≡ Some b → slice_get gs i ≡ Some g → number_of same_state s g.states ≡ j → j < length g.states
    → number_of same_select (with_state b s) (states_by bs gs) ≡ count_states (take i gs) + j
number_by [] gs i b g j s n e f o l = absurd (cc)
number_by (c ∷ bs) [] i b g j s n e f o l = absurd (cc)
number_by (c ∷ bs) (h ∷ gs) zero b g j s n e f o l =
    let used : c ≡ b = same_Some c b e in
    let graph : g ≡ h = sym (same_Some h g f) in
    let within : number_of same_state s h.states ≡ j = subst (λ (w : Graph). number_of same_state s w.states ≡ j) graph o in
    let low : j < length h.states = subst (λ (w : Graph). j < length w.states) graph l in
    let inside : number_of same_select (with_state b s) (map (with_state c) h.states) ≡ j =
    subst (λ w. number_of same_select (with_state b s) (map (with_state w) h.states) ≡ j) (sym used) (mapped_number b s h.states ∙ within)
    in
    let all : number_of same_select (with_state b s) (states_by (c ∷ bs) (h ∷ gs)) ≡ j =
    number_front same_select (with_state b s) (map (with_state c) h.states) (states_by bs gs) j inside (omega (arith, low, length-map h.states (with_state c)))
    in
    let none : count_states (take zero (h ∷ gs)) ≡ 0 = refl in
    omega (arith, all, none)
number_by (c ∷ bs) (h ∷ gs) (suc i) b g j s n e f o l = by (same_use b c) refl n (λ m. number_by bs gs i b g j s m e f o l)
  where
    by : (w : Bool) → same_use b c ≡ w → (if w then 0 else (number_of same_use b bs + 1)) ≡ suc i
        → (number_of same_use b bs ≡ i → number_of same_select (with_state b s) (states_by bs gs) ≡ count_states (take i gs) + j)
        → number_of same_select (with_state b s) (states_by (c ∷ bs) (h ∷ gs)) ≡ count_states (take (suc i) (h ∷ gs)) + j
    by true is m later = absurd (omega (arith, m))
    by false is m later =
        let rest : number_of same_select (with_state b s) (states_by bs gs) ≡ count_states (take i gs) + j = later (omega (arith, m)) in
        let past = number_past same_select (with_state b s) (map (with_state c) h.states) (states_by bs gs) (mapped_apart b c s h.states is) in
        omega (arith, past, rest, length-map h.states (with_state c), count_cons h (take i gs))
