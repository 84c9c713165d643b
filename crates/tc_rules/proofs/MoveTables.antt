-- A table of different moves: what is there is found at its place, and what is put stands there.
use Rattle.std.proofs.Common.{◌≡◌, ◌≢◌, ◌⊎◌, inl, inr, ℕ, zero, suc, ◌+◌, ◌<◌, ◌≤◌, ◌%◌, List, [], ◌∷◌, ◌++◌, Bor, Bool, true, false, ◌||◌, nat_eq, if◌then◌else◌, None, Some, slice_get, get_or, length, map, filter, sum, drop, refl, ap, sym, ◌∙◌, subst, arith}
use Rattle.std.specs.List.{list_any}
use Rattle.std.proofs.lemmas.Bool.{true≢false, eqb-true, eq-eqb}
use Rattle.std.proofs.lemmas.List.{append-nil, drop_all, drop_more, get_or_default, length-map, map-append}
use Rattle.std.proofs.lemmas.List.Sums.{sum_by-append, sum_by_push}
use Rattle.tc_model.specs.Numbered.{each_once, each_once_after}
use Rattle.tc_model.specs.Numberings.{Move, same_move}
use Rattle.tc_model.specs.PathStates.{first_state}
use Rattle.tc_model.specs.SameTests.{same_path}
use Rattle.tc_model.specs.Sheets.{Path, Test, alternative}
use Rattle.tc_model.specs.StateCounts.{some_item}
use Rattle.tc_model.specs.Views as see
use Rattle.tc_model.specs.declared.sheet.Path.{Path as PathOf}
use Rattle.tc_model.specs.declared.sheet.Step.{Step}
use Rattle.tc_model.proofs.ViewsPath.{left_alternative}
use Rattle.tc_rules.specs.Gathered.{numbers}
use Rattle.tc_rules.specs.Mixed.{mixed_move}
use Rattle.tc_rules.specs.MoveTables.{is_move, is_move_at, paths, begun, move_on, IsFiled, IsPathsCause}
use Rattle.tc_rules.specs.Once.{put_once}
use Rattle.tc_rules.specs.Views as seen
use Rattle.tc_rules.specs.declared.move_table.MoveTable.{MoveTable}
use Rattle.tc_rules.specs.declared.walk.Move.{Move as MoveOf}
use Rattle.tc_rules.specs.declared.rules.RulesFault.{RulesFault}
use Rattle.tc_rules.specs.declared.rules.RulesFault.TheVariants.{TooManyPredicates, TooManyAncestorStates, TooManySelectStates, NoMemory}
use Rattle.tc_rules.proofs.Distinct.{looked_at}
use Rattle.tc_rules.proofs.Sameness.{move_same}
use Rattle.tc_rules.proofs.Steps.{moved, nothing_left}

or_one : (a b : Bool) → a ≡ true → (a || b) ≡ true
or_one a b e = cc

or_two : (a b : Bool) → b ≡ true → (a || b) ≡ true
or_two true b e = refl
or_two false b e = e

one_of : (a b : Bool) → (a || b) ≡ true → (a ≡ true) ⊎ (b ≡ true)
one_of true b e = inl refl
one_of false b e = inr e

both_ways : (a b : Bool) → (a ≡ true → b ≡ true) → (b ≡ true → a ≡ true) → a ≡ b
both_ways true true f g = refl
both_ways true false f g = sym (f refl)
both_ways false true f g = g refl
both_ways false false f g = refl

some_is : {X : Type 0} (a b : X) → Some a ≡ Some b → a ≡ b
some_is a b e = cc

no_some : {X : Type 0} (a : X) → None ≡ Some a → ⊥
no_some a e = cc

-- what is the same at a number is there
at_is_there : (m : Move) (ms : List Move) (i : ℕ) → is_move m (slice_get ms i) ≡ true → list_any (same_move m) ms ≡ true
at_is_there m [] zero e = absurd (true≢false (sym e))
at_is_there m [] (suc i) e = absurd (true≢false (sym e))
at_is_there m (y ∷ ms) zero e = or_one (same_move m y) (list_any (same_move m) ms) e
at_is_there m (y ∷ ms) (suc i) e = or_two (same_move m y) (list_any (same_move m) ms) (at_is_there m ms i e)

any_is_there : (m : Move) (ms : List Move) (is : List ℕ) → list_any (is_move_at ms m) is ≡ true → list_any (same_move m) ms ≡ true
any_is_there m ms [] e = absurd (true≢false (sym e))
any_is_there m ms (i ∷ is) e =
    elim (one_of (is_move_at ms m i) (list_any (is_move_at ms m) is) e) [ inl a ↦ at_is_there m ms i a | inr b ↦ any_is_there m ms is b ]

-- and what is there has a number
abbrev Standing : Move → List Move → Type 0
Standing m ms = (i : ℕ) × (y : Move) × (slice_get ms i ≡ Some y) × (same_move m y ≡ true)

stands : (m : Move) (ms : List Move) → list_any (same_move m) ms ≡ true → Standing m ms
stands m [] e = absurd (true≢false (sym e))
stands m (y ∷ ms) e = by (one_of (same_move m y) (list_any (same_move m) ms) e) (λ k. stands m ms k)
  where
    next : Standing m ms → Standing m (y ∷ ms)
    next r = (suc r.0, r.1, r.2, r.3)

    by : (same_move m y ≡ true) ⊎ (list_any (same_move m) ms ≡ true) → (list_any (same_move m) ms ≡ true → Standing m ms) → Standing m (y ∷ ms)
    by (inl a) k = (zero, y, refl, a)
    by (inr b) k = next (k b)

found_among : (m : Move) (ms : List Move) (i : ℕ) (is : List ℕ) → list_any (nat_eq i) is ≡ true → is_move_at ms m i ≡ true → list_any (is_move_at ms m) is ≡ true
found_among m ms i [] e k = absurd (true≢false (sym e))
found_among m ms i (j ∷ is) e k =
    elim (one_of (nat_eq i j) (list_any (nat_eq i) is) e) [
      | inl a ↦
          or_one (is_move_at ms m j) (list_any (is_move_at ms m) is) (subst (λ (n : ℕ). is_move_at ms m n ≡ true) (eqb-true i j a) k)
      | inr b ↦ or_two (is_move_at ms m j) (list_any (is_move_at ms m) is) (found_among m ms i is b k)
    ]

module _ (place : Move → ℕ) where
  -- each move's number stands at its place
  abbrev pub AreFiled : List Move → List (List ℕ) → Type 0
  AreFiled ms places = (i : ℕ) (m : Move) → slice_get ms i ≡ Some m → list_any (nat_eq i) (get_or places (place m) []) ≡ true

  -- a move is there where one at its place is the same
  pub found_at_place : (ms : List Move) (places : List (List ℕ)) (m : Move) → AreFiled ms places → list_any (is_move_at ms m) (get_or places (place m) []) ≡ list_any (same_move m) ms
  found_at_place ms places m h =
      both_ways (list_any (is_move_at ms m) (get_or places (place m) [])) (list_any (same_move m) ms) (any_is_there m ms (get_or places (place m) []))
      (λ e.
      let r = stands m ms e in
      let same : m ≡ r.1 = move_same m r.1 r.3 in
      let here : list_any (nat_eq r.0) (get_or places (place m) []) ≡ true = subst (λ (y : Move). list_any (nat_eq r.0) (get_or places (place y) []) ≡ true) (sym same) (h r.0 r.1 r.2) in
      found_among m ms r.0 (get_or places (place m) []) here (ap (is_move m) r.2 ∙ r.3))

  last_or_before : (ms : List Move) (m : Move) (i : ℕ) (y : Move) → slice_get (ms ++ m ∷ []) i ≡ Some y → (slice_get ms i ≡ Some y) ⊎ ((i ≡ length ms) × (m ≡ y))
  last_or_before [] m zero y e = inr (refl, some_is m y e)
  last_or_before [] m (suc zero) y e = absurd (no_some y e)
  last_or_before [] m (suc (suc i)) y e = absurd (no_some y e)
  last_or_before (x ∷ ms) m zero y e = inl e
  last_or_before (x ∷ ms) m (suc i) y e =
      elim (last_or_before ms m i y e) [ inl a ↦ inl a | inr b ↦ inr (ap suc b.0, b.1) ]

  any_before : (i : ℕ) (xs ys : List ℕ) → list_any (nat_eq i) xs ≡ true → list_any (nat_eq i) (xs ++ ys) ≡ true
  any_before i [] ys e = absurd (true≢false (sym e))
  any_before i (x ∷ xs) ys e =
      elim (one_of (nat_eq i x) (list_any (nat_eq i) xs) e) [
        | inl a ↦ or_one (nat_eq i x) (list_any (nat_eq i) (xs ++ ys)) a
        | inr b ↦ or_two (nat_eq i x) (list_any (nat_eq i) (xs ++ ys)) (any_before i xs ys b)
      ]

  any_last : (i : ℕ) (xs : List ℕ) → list_any (nat_eq i) (xs ++ i ∷ []) ≡ true
  any_last i [] = or_one (nat_eq i i) false (eq-eqb i i refl)
  any_last i (x ∷ xs) = or_two (nat_eq i x) (list_any (nat_eq i) (xs ++ i ∷ [])) (any_last i xs)

  pub filed_more : (ms : List Move) (old new : List (List ℕ)) (m : Move) (p n : ℕ) → p ≡ place m → n ≡ length ms → AreFiled ms old → get_or new p [] ≡ get_or old p [] ++ n ∷ []
      → ((q : ℕ) → q ≢ p → get_or new q [] ≡ get_or old q []) → AreFiled (ms ++ m ∷ []) new
  filed_more ms old new m p n at size h added others i y e = elim (last_or_before ms m i y e) [ inl a ↦ kept (place y) (h i y a) | inr b ↦ last b.0 b.1 ]
    where
      by : (q : ℕ) (c : Bool) → nat_eq q p ≡ c → list_any (nat_eq i) (get_or old q []) ≡ true → list_any (nat_eq i) (get_or new q []) ≡ true
      by q true c k =
          let same : q ≡ p = eqb-true q p c in
          subst (λ (r : ℕ). list_any (nat_eq i) (get_or new r []) ≡ true) (sym same)
          (subst (λ (w : List ℕ). list_any (nat_eq i) w ≡ true) (sym added) (any_before i (get_or old p []) (n ∷ []) (subst (λ (r : ℕ). list_any (nat_eq i) (get_or old r []) ≡ true) same k)))
      by q false c k =
          subst (λ (w : List ℕ). list_any (nat_eq i) w ≡ true) (sym (others q (λ same. true≢false (sym (eq-eqb q p same) ∙ c)))) k

      kept : (q : ℕ) → list_any (nat_eq i) (get_or old q []) ≡ true → list_any (nat_eq i) (get_or new q []) ≡ true
      kept q k = by q (nat_eq q p) refl k

      last : i ≡ length ms → m ≡ y → list_any (nat_eq i) (get_or new (place y) []) ≡ true
      last is same =
          let there : p ≡ place y = at ∙ ap place same in
          subst (λ (q : ℕ). list_any (nat_eq i) (get_or new q []) ≡ true) there
          (subst (λ (w : List ℕ). list_any (nat_eq i) w ≡ true) (sym added)
          (subst (λ (j : ℕ). list_any (nat_eq i) (get_or old p [] ++ j ∷ []) ≡ true) (is ∙ sym size) (any_last i (get_or old p []))))

  pub none_filed : (ms : List Move) (places : List (List ℕ)) → ms ≡ [] → AreFiled ms places
  none_filed ms places is i m e = absurd (nowhere i (sym (ap (λ w. slice_get w i) is) ∙ e))
    where
      nowhere : (i : ℕ) → slice_get [] i ≡ Some m → ⊥
      nowhere zero k = no_some m k
      nowhere (suc i) k = no_some m k

-- a list that something is kept in
pub kept_there : (ms : List Move) (m : Move) (b : Bool) → b ≡ list_any (same_move m) ms → b ≡ true → ms ≡ put_once same_move ms m
kept_there ms m b is e = sym (ap (λ c. if c then ms else (ms ++ m ∷ [])) (sym is ∙ e))

pub put_there : (ms : List Move) (m : Move) (b : Bool) → b ≡ list_any (same_move m) ms → b ≡ false → ms ++ m ∷ [] ≡ put_once same_move ms m
put_there ms m b is e = sym (ap (λ c. if c then ms else (ms ++ m ∷ [])) (sym is ∙ e))

-- how many paths have a first state
first_count : Path → ℕ
first_count p = length (filter some_item (first_state p ∷ []))

begun_append : (ps qs : List Path) → begun (ps ++ qs) ≡ begun ps + begun qs
begun_append ps qs = ap sum (map-append (λ (p : Path). length (filter some_item (first_state p ∷ []))) ps qs) ∙ sum_by-append (λ x. x) (map (λ (p : Path). length (filter some_item (first_state p ∷ []))) ps) (map (λ (p : Path). length (filter some_item (first_state p ∷ []))) qs)

begun_one : (p : Path) → begun (p ∷ []) ≡ length (filter some_item (first_state p ∷ []))
begun_one p =
    let e : begun (p ∷ []) ≡ 0 + length (filter some_item (first_state p ∷ [])) = sum_by_push (λ x. x) [] (length (filter some_item (first_state p ∷ []))) in
    omega (arith, e)

pub begun_more : (ms : List Move) (m : Move) (k n : ℕ) → k ≡ begun (paths ms) → n ≡ length (filter some_item (first_state m.path ∷ [])) → k + n ≡ begun (paths (ms ++ m ∷ []))
begun_more ms m k n e f =
    let split : begun (paths (ms ++ m ∷ [])) ≡ begun (paths ms) + begun (m.path ∷ []) = ap begun (map-append (λ (x : Move). x.path) ms (m ∷ [])) ∙ begun_append (paths ms) (m.path ∷ []) in
    omega (arith, e, f, split, begun_one m.path)

-- what passes the limit in a part passes it in all
pub passed_before : (ps qs : List Path) (e : RulesFault) → IsPathsCause ps e → IsPathsCause (ps ++ qs) e
passed_before ps qs TooManyPredicates k = k
passed_before ps qs TooManyAncestorStates k = k
passed_before ps qs TooManySelectStates k = omega (arith, k, begun_append ps qs)
passed_before ps qs NoMemory k = k

pub passed_behind : (ps qs : List Path) (e : RulesFault) → IsPathsCause qs e → IsPathsCause (ps ++ qs) e
passed_behind ps qs TooManyPredicates k = k
passed_behind ps qs TooManyAncestorStates k = k
passed_behind ps qs TooManySelectStates k = omega (arith, k, begun_append ps qs)
passed_behind ps qs NoMemory k = k

pub passed_so_far : (all now rest : List Move) (e : RulesFault) → all ≡ now ++ rest → IsPathsCause (paths now) e → IsPathsCause (paths all) e
passed_so_far all now rest e is k =
    subst (λ (ps : List Path). IsPathsCause ps e) (sym (ap paths is ∙ map-append (λ (m : Move). m.path) now rest)) (passed_before (paths now) (paths rest) e k)

-- looks are told apart as moves of one mode are
module _ where
  any_on : (p : Path) (ps : List Path) → list_any (same_move (move_on p)) (map move_on ps) ≡ list_any (same_path p) ps
  any_on p [] = refl
  any_on p (q ∷ ps) = ap (λ b. same_path p q || b) (any_on p ps)

  once_on : (before ps : List Path) → paths (each_once_after same_move (map move_on before) (map move_on ps)) ≡ each_once_after same_path before ps
  once_on before [] = refl
  once_on before (p ∷ ps) =
      by (list_any (same_move (move_on p)) (map move_on before)) (list_any (same_path p) before) (any_on p before) (once_on before ps) (once_on (p ∷ before) ps)
    where
      by : (b c : Bool) → b ≡ c → paths (each_once_after same_move (map move_on before) (map move_on ps)) ≡ each_once_after same_path before ps
          → paths (each_once_after same_move (map move_on (p ∷ before)) (map move_on ps)) ≡ each_once_after same_path (p ∷ before) ps
          → paths (if b then each_once_after same_move (map move_on before) (map move_on ps) else (move_on p ∷ each_once_after same_move (map move_on (p ∷ before)) (map move_on ps)))
          ≡ (if c then each_once_after same_path before ps else (p ∷ each_once_after same_path (p ∷ before) ps))
      by true true e f g = f
      by true false e f g = absurd (true≢false e)
      by false true e f g = absurd (true≢false (sym e))
      by false false e f g = ap (λ w. p ∷ w) g

  pub looks_on : (ps : List Path) → paths (each_once same_move (map move_on ps)) ≡ each_once same_path ps
  looks_on ps = once_on [] ps

-- whether an alternative has a step
some_step : (y : Step) (w : List Step) (r : Bool) → r ≡ nat_eq (length (y ∷ w)) 0 → r ≡ true → ⊥
some_step y w r e t =
    let none : length (y ∷ w) ≡ 0 = eqb-true (length (y ∷ w)) 0 (sym e ∙ t) in
    omega (arith, none)

module _ (path : List (Bor (List Step))) (i : ℕ) where
  abbrev Rest : ℕ → Bool
  Rest j = some_item (first_state (see.alternatives (drop j path)))

  module _ (all : Bool) (d : Bor (List Step)) (r : Bool) (k : all ≡ Rest i) (l : i < length path) (e : r ≡ nat_eq (length (get_or path i d).now) 0) where
    abbrev x : Bor (List Step)
    x = get_or path i d

    here : all ≡ some_item (first_state (alternative (see.steps x.now) (see.alternatives (drop (i + 1) path))))
    here = k ∙ ap (λ (p : Path). some_item (first_state p)) (left_alternative path i x l (get_or_default path i d x l))

    pub step_there : r ≡ false → true ≡ all
    step_there t = sym (here ∙ begins x.now r e t)
      where
        begins : (w : List Step) (r : Bool) → r ≡ nat_eq (length w) 0 → r ≡ false → some_item (first_state (alternative (see.steps w) (see.alternatives (drop (i + 1) path)))) ≡ true
        begins [] r e t = absurd (true≢false (sym e ∙ t))
        begins (y ∷ w) r e t = refl

    pub step_later : r ≡ true → all ≡ Rest (i + 1)
    step_later t = here ∙ goes x.now r e t
      where
        goes : (w : List Step) (r : Bool) → r ≡ nat_eq (length w) 0 → r ≡ true → some_item (first_state (alternative (see.steps w) (see.alternatives (drop (i + 1) path)))) ≡ Rest (i + 1)
        goes [] r e t = refl
        goes (y ∷ w) r e t = absurd (some_step y w r e t)

  pub step_never : (all : Bool) → all ≡ Rest i → length path ≤ i → false ≡ all
  step_never all k l = sym (k ∙ ap (λ (w : List (Bor (List Step))). some_item (first_state (see.alternatives w))) (drop_all i path l))

pub one_state : (p : Path) (b : Bool) → b ≡ some_item (first_state p) → b ≡ true → 1 ≡ length (filter some_item (first_state p ∷ []))
one_state p b e t = sym (ap (λ c. length (if c then (first_state p ∷ []) else [])) (sym e ∙ t))

pub no_state : (p : Path) (b : Bool) → b ≡ some_item (first_state p) → b ≡ false → 0 ≡ length (filter some_item (first_state p ∷ []))
no_state p b e t = sym (ap (λ c. length (if c then (first_state p ∷ []) else [])) (sym e ∙ t))

module _ (tests : List Test) (modes : ℕ) where
  abbrev Moves : MoveTable → List Move
  Moves t = seen.moves modes t.moves.items

  -- whether a move is there, by the place of its number
  pub found_by_number : (t : MoveTable) (m : Move) (hash place : ℕ) (is : List ℕ) (b : Bool) → IsFiled tests modes t → hash ≡ mixed_move tests m → place ≡ hash % length t.places.items → is ≡ get_or (numbers t.places.items) place []
      → b ≡ list_any (is_move_at (Moves t) m) is → b ≡ list_any (same_move m) (Moves t)
  found_by_number t m hash place is b h mixes at among found =
      let n = length t.places.items in
      found
      ∙ (ap (list_any (is_move_at (Moves t) m)) (among ∙ ap (λ (p : ℕ). get_or (numbers t.places.items) p []) (at ∙ ap (λ (k : ℕ). k % n) mixes))
      ∙ found_at_place (λ (y : Move). mixed_move tests y % n) (Moves t) (numbers t.places.items) m h.filed)

  module _ (old : MoveTable) (s : MoveOf) (n : ℕ) (h : IsFiled tests modes old) (first : n ≡ length (filter some_item (first_state (see.path s.path.now) ∷ []))) where
    abbrev M : Move
    M = seen.move modes s

    counts : old.begun + n ≡ begun (paths (Moves old ++ M ∷ []))
    counts = begun_more (Moves old) M old.begun n h.counted first

    -- one more is put, for which there is room
    pub filed_after : (new : MoveTable) (hash place : ℕ) → hash ≡ mixed_move tests M → place ≡ hash % length old.places.items → new.moves.items ≡ old.moves.items ++ s ∷ [] → length new.places.items ≡ length old.places.items
        → get_or (numbers new.places.items) place [] ≡ get_or (numbers old.places.items) place [] ++ length old.moves.items ∷ []
        → ((q : ℕ) → q ≢ place → get_or (numbers new.places.items) q [] ≡ get_or (numbers old.places.items) q []) → new.begun ≡ old.begun + n → old.begun + n ≤ 4096 → IsFiled tests modes new
    filed_after new hash place mixes at put count added others sum few =
        let k = length old.places.items in
        let now : Moves new ≡ Moves old ++ M ∷ [] = ap (seen.moves modes) put ∙ map-append (seen.move modes) old.moves.items (s ∷ []) in
        let filed : AreFiled (λ (y : Move). mixed_move tests y % k) (Moves old ++ M ∷ []) (numbers new.places.items) =
        filed_more (λ (y : Move). mixed_move tests y % k) (Moves old) (numbers old.places.items) (numbers new.places.items) M place (length old.moves.items) (at ∙ ap (λ (j : ℕ). j % k) mixes) (sym (length-map old.moves.items (seen.move modes))) h.filed added others
        in
        record {
          some = omega (arith, count, h.some);
          few = omega (arith, count, h.few);
          filed = λ i y e. subst (λ (j : ℕ). list_any (nat_eq i) (get_or (numbers new.places.items) (mixed_move tests y % j) []) ≡ true) (sym count) (filed i y (ap (λ (w : List Move). slice_get w i) (sym now) ∙ e));
          counted = sum ∙ (counts ∙ sym (ap (λ (w : List Move). begun (paths w)) now));
          within = omega (arith, sum, few);
        }

    -- or there are too many
    pub many_after : (b : Bool) → b ≡ list_any (same_move M) (Moves old) → b ≡ false → 4096 < old.begun + n → 4096 < begun (paths (put_once same_move (Moves old) M))
    many_after b is e l =
        subst (λ (w : List Move). 4096 < begun (paths w)) (put_there (Moves old) M b is e) (omega (arith, l, counts))

  pub none_kept : (t : MoveTable) → t.moves.items ≡ [] → 0 < length t.places.items → length t.places.items ≤ 4093 → t.begun ≡ 0 → IsFiled tests modes t
  none_kept t none some few zero_begun = record {
    some = some;
    few = few;
    filed = none_filed (λ (y : Move). mixed_move tests y % length t.places.items) (Moves t) (numbers t.places.items) (ap (seen.moves modes) none);
    counted = zero_begun ∙ sym (ap (λ (w : List MoveOf). begun (paths (seen.moves modes w))) none);
    within = omega (arith, zero_begun);
  }

  pub put_moves : (old new : List MoveOf) (s : MoveOf) (b : Bool) → new ≡ old ++ s ∷ [] → b ≡ list_any (same_move (seen.move modes s)) (seen.moves modes old) → b ≡ false → seen.moves modes new ≡ put_once same_move (seen.moves modes old) (seen.move modes s)
  put_moves old new s b put is e = ap (seen.moves modes) put ∙ (map-append (seen.move modes) old (s ∷ []) ∙ put_there (seen.moves modes old) (seen.move modes s) b is e)

pub moves_passed : (modes : ℕ) (found : List MoveOf) (i : ℕ) (d : MoveOf) (kept : List Move) → i < length found
    → each_once same_move (seen.moves modes found) ≡ kept ++ each_once_after same_move kept (seen.moves modes (drop i found))
    → (e : RulesFault) → IsPathsCause (paths (put_once same_move kept (seen.move modes (get_or found i d)))) e → IsPathsCause (paths (each_once same_move (seen.moves modes found))) e
moves_passed modes found i d kept l so_far e k =
    let now = put_once same_move kept (seen.move modes (get_or found i d)) in
    passed_so_far (each_once same_move (seen.moves modes found)) now (each_once_after same_move now (seen.moves modes (drop (i + 1) found))) e
    (looked_at same_move (seen.move modes) (each_once same_move (seen.moves modes found)) kept now found i d l refl so_far) k

-- moves of one mode on paths, one at a time
abbrev Looked : List (Bor PathOf) → List Move
Looked ps = map move_on (seen.looks ps)

pub one_look : (all : List Move) (old now : List MoveOf) (xs : List (Bor PathOf)) (i : ℕ) (d : Bor PathOf) (m : MoveOf) → i < length xs → now ≡ old ++ m ∷ [] → seen.move 0 m ≡ move_on (see.path (get_or xs i d).now)
    → seen.moves 0 old ++ Looked (drop i xs) ≡ all → seen.moves 0 now ++ Looked (drop (i + 1) xs) ≡ all
one_look all old now xs i d m l put is so_far =
    moved (seen.moves 0 old) (seen.moves 0 now) (move_on (see.path (get_or xs i d).now) ∷ []) (Looked (drop i xs)) (Looked (drop (i + 1) xs)) all
    (ap (seen.moves 0) put ∙ (map-append (seen.move 0) old (m ∷ []) ∙ ap (λ (x : Move). seen.moves 0 old ++ x ∷ []) is)) (ap Looked (drop_more xs i d l)) so_far

pub all_looked : (now : List MoveOf) (xs : List (Bor PathOf)) (i : ℕ) → length xs ≤ i → seen.moves 0 now ++ Looked (drop i xs) ≡ Looked xs → seen.moves 0 now ≡ Looked xs
all_looked now xs i l k = nothing_left (seen.moves 0 now) (Looked (drop i xs)) (Looked xs) (ap Looked (drop_all i xs l)) k

-- the paths of moves
seen_paths : (ms : List MoveOf) → map (λ (m : MoveOf). see.path m.path.now) ms ≡ paths (seen.moves 0 ms)
seen_paths [] = refl
seen_paths (m ∷ ms) = ap (λ w. see.path m.path.now ∷ w) (seen_paths ms)

pub looks_kept : (found now : List (Bor PathOf)) (moves kept : List MoveOf) → seen.looks now ≡ map (λ (m : MoveOf). see.path m.path.now) kept ++ [] → seen.moves 0 kept ≡ each_once same_move (seen.moves 0 moves) → seen.moves 0 moves ≡ Looked found
    → seen.looks now ≡ each_once same_path (seen.looks found)
looks_kept found now moves kept e f g =
    e ∙ (append-nil (map (λ (m : MoveOf). see.path m.path.now) kept)
    ∙ (seen_paths kept ∙ (ap paths (f ∙ ap (each_once same_move) g) ∙ looks_on (seen.looks found))))

pub looks_passed : (found : List (Bor PathOf)) (moves : List MoveOf) → seen.moves 0 moves ≡ Looked found → (e : RulesFault) → IsPathsCause (paths (each_once same_move (seen.moves 0 moves))) e → IsPathsCause (each_once same_path (seen.looks found)) e
looks_passed found moves is e k =
    subst (λ (ps : List Path). IsPathsCause ps e) (ap (λ (w : List Move). paths (each_once same_move w)) is ∙ looks_on (seen.looks found)) k
