-- What holds all along a walk from number to number.
use Rattle.std.proofs.Common.{◌≡◌, ◌≢◌, ◌⊎◌, inl, inr, ℕ, zero, suc, ◌+◌, ◌-◌, ◌*◌, ◌<◌, ◌≤◌, Bool, true, false, List, [], ◌∷◌, ◌++◌, refl, ap, ◌∙◌, sym, subst, arith, length, get_or, set, take, drop, eqb, slice_index, length-append, get_or-set_other, get_or-set_same, length-set, length-take-le, length-drop, replicate, Bor}
use Rattle.std.proofs.lemmas.Bool.{cases_lt, eqb-true, eqb-false}
use Rattle.std.proofs.lemmas.List.{get_or-append-add, get_or_append_left, get_or-take, get_or-drop, take_more}
use Rattle.std.proofs.lemmas.List.Sums.{sum_by-set}
use Rattle.std.proofs.lemmas.List.Elements.{Contains-append_left, Contains-append_cases, Contains-get_or, Contains-push, Contains-push_cases, All-push, All-contains}
use Rattle.std.specs.List.{All, Contains, sum_by}
use Rattle.std.proofs.Math.Nat.{mul-le-mul_right}
use Rattle.tc_graph.specs.Graph.{Edge, Path, edge, further, rows_of}
use Rattle.tc_graph.proofs.Marks.{count_rows}
use Rattle.tc_graph.specs.Walks.{Stacks, state_at, entered, joined, stepped, IsStarted, IsClosedState, IsClosed, AreFinished, IsAscending, IsPending, IsFinished, IsStanding, HasSource, IsWalk, KeepsOld, longest, weight, cost, AreComponents}
use Rattle.tc_graph.specs.declared.cycles.State.{State}
use Rattle.tc_graph.specs.declared.cycles.State.TheVariants.{New, Open, Done}
use Rattle.tc_graph.specs.declared.cycles.Start.{Start}

same_place : {i j : ℕ} → Open i ≡ Open j → i ≡ j
same_place e = cc

same_component : {c d : ℕ} → Done c ≡ Done d → c ≡ d
same_component e = cc

open_done : {i c : ℕ} → Open i ≡ Done c → ⊥
open_done e = cc

new_open : {i : ℕ} → New ≡ Open i → ⊥
new_open e = cc

new_done : {c : ℕ} → New ≡ Done c → ⊥
new_done e = cc

same_or_not : (m n : ℕ) → (m ≡ n) ⊎ (m ≢ n)
same_or_not m n = by (eqb m n) refl
  where
    by : (b : Bool) → eqb m n ≡ b → (m ≡ n) ⊎ (m ≢ n)
    by true e = inl (eqb-true m n e)
    by false e = inr (eqb-false m n e)

below_or_last : (n i : ℕ) → i < n + 1 → (i < n) ⊎ (i ≡ n)
below_or_last n i h = by (cases_lt i n)
  where
    by : (i < n) ⊎ (n ≤ i) → (i < n) ⊎ (i ≡ n)
    by (inl k) = inl k
    by (inr k) = inr (omega (arith, h, k))

at_last : (xs : List ℕ) (x : ℕ) → slice_index (xs ++ x ∷ []) (length xs) ≡ x
at_last [] x = refl
at_last (y ∷ xs) x = at_last xs x

path_then : {rows : List (List ℕ)} {k j i : ℕ} → Path rows k j → Path rows j i → Path rows k i
path_then p (edge a) = further p a
path_then p (further q a) = further (path_then p q) a

-- boundaries in order
ascending_push : (bs : List Start) (b : Start) → IsAscending bs → ((c : Start) → Contains bs c → (c.place < b.place) × (c.step ≤ b.step)) → IsAscending (bs ++ b ∷ [])
ascending_push [] b a h = (λ k d l. absurd (omega (arith, l)), tt)
ascending_push (c ∷ bs) b (x, a) h =
    let P : Start → Type 0 = λ z. (c.place < z.place) × (c.step ≤ z.step) in
    (All-push P bs b x (h c (0, omega arith, refl)), ascending_push bs b a (λ z (k, small, e). h z (suc k, omega (arith, small), e)))

ascending_front : (bs cs : List Start) → IsAscending (bs ++ cs) → IsAscending bs
ascending_front [] cs a = tt
ascending_front (b ∷ bs) cs (x, a) = (λ k d l. by k d l, ascending_front bs cs a)
  where
    by : (k : ℕ) (d : Start) → k < length bs → (b.place < (get_or bs k d).place) × (b.step ≤ (get_or bs k d).step)
    by k d l = subst (λ z. (b.place < z.place) × (b.step ≤ z.step)) (get_or_append_left bs cs d k l) (x k d (omega (arith, l, length-append bs cs)))

ascending_last : (bs : List Start) (b c : Start) → IsAscending (bs ++ b ∷ []) → Contains bs c → (c.place < b.place) × (c.step ≤ b.step)
ascending_last [] b c a (k, small, e) = absurd (omega (arith, small))
ascending_last (d ∷ bs) b c (x, a) (zero, small, e) =
    let P : Start → Type 0 = λ z. (d.place < z.place) × (d.step ≤ z.step) in
    subst (λ z. (z.place < b.place) × (z.step ≤ b.step)) e (All-contains P (bs ++ b ∷ []) b x (Contains-push bs b))
ascending_last (d ∷ bs) b c (x, a) (suc k, small, e) = ascending_last bs b c a (k, omega (arith, small), e)

to_last : (bs : List Start) (b c : Start) → IsAscending (bs ++ b ∷ []) → Contains (bs ++ b ∷ []) c → (c.place ≤ b.place) × (c.step ≤ b.step)
to_last bs b c a h = by (Contains-push_cases bs b c h)
  where
    by : Contains bs c ⊎ (b ≡ c) → (c.place ≤ b.place) × (c.step ≤ b.step)
    by (inl k) = let less = ascending_last bs b c a k in (omega (arith, less.0), less.1)
    by (inr e) = subst (λ z. (z.place ≤ b.place) × (z.step ≤ b.step)) e (omega arith, omega arith)

-- a number is come to that wasn't, to which all that stand lead
module _ (rows : List (List ℕ)) (s : Stacks) (v : ℕ) (w : IsWalk rows s) (small : v < length rows) (new : state_at s.states v ≡ New)
    (reach : (i : ℕ) → i < length s.stack → Path rows (slice_index s.stack i) v) where
  abbrev row : List ℕ
  row = get_or rows v []

  abbrev high : ℕ
  high = length s.stack

  abbrev after : Stacks
  after = entered v row s

  abbrev first : Start
  first = record { place = length s.stack; step = length s.steps }

  in_states : v < length s.states
  in_states = subst (λ n. v < n) (sym w.size) small

  here : state_at after.states v ≡ Open (length s.stack)
  here = get_or-set_same s.states v (Open (length s.stack)) New in_states

  other : (u : ℕ) → u ≢ v → state_at after.states u ≡ state_at s.states u
  other u ne = get_or-set_other s.states v u (Open (length s.stack)) New ne

  apart : (u : ℕ) → (state_at s.states u ≡ New → ⊥) → u ≢ v
  apart u old e = old (subst (λ z. state_at s.states z ≡ New) (sym e) new)

  stood_apart : (i : ℕ) → i < length s.stack → slice_index s.stack i ≢ v
  stood_apart i h = apart (slice_index s.stack i) (λ e. new_open (sym e ∙ w.stands i h))

  done_apart : (u c : ℕ) → state_at s.states u ≡ Done c → u ≢ v
  done_apart u c d = apart u (λ e. new_done (sym e ∙ d))

  old_at : (i : ℕ) → i < length s.stack → slice_index after.stack i ≡ slice_index s.stack i
  old_at i h = get_or_append_left s.stack (v ∷ []) 0 i h

  last_at : slice_index after.stack (length s.stack) ≡ v
  last_at = at_last s.stack v

  old_step : (e : ℕ) → e < length s.steps → slice_index after.steps e ≡ slice_index s.steps e
  old_step e h = get_or_append_left s.steps row 0 e h

  new_step : (m : ℕ) → slice_index after.steps (length s.steps + m) ≡ slice_index row m
  new_step m = get_or-append-add s.steps row m 0

  more_stack : length after.stack ≡ length s.stack + 1
  more_stack = omega (arith, length-append s.stack (v ∷ []))

  more_steps : length after.steps ≡ length s.steps + length row
  more_steps = length-append s.steps row

  old_start : (b : Start) → Contains s.starts b → Contains after.starts b
  old_start b c = Contains-append_left s.starts (first ∷ []) b c

  of_start : (P : Start → Type 0) → ((b : Start) → Contains s.starts b → P b) → P first → (b : Start) → Contains after.starts b → P b
  of_start P old one b c = by (Contains-push_cases s.starts first b c)
    where
      by : Contains s.starts b ⊎ (first ≡ b) → P b
      by (inl k) = old b k
      by (inr e) = subst P e one

  done_before : (u c : ℕ) → state_at after.states u ≡ Done c → state_at s.states u ≡ Done c
  done_before u c d = by (same_or_not u v)
    where
      by : (u ≡ v) ⊎ (u ≢ v) → state_at s.states u ≡ Done c
      by (inl e) = absurd (open_done (sym here ∙ (ap (state_at after.states) (sym e) ∙ d)))
      by (inr ne) = sym (other u ne) ∙ d

  done_after : (u c : ℕ) → state_at s.states u ≡ Done c → state_at after.states u ≡ Done c
  done_after u c d = other u (done_apart u c d) ∙ d

  enter_stands : (i : ℕ) → i < length after.stack → state_at after.states (slice_index after.stack i) ≡ Open i
  enter_stands i h = by (below_or_last (length s.stack) i (omega (arith, h, more_stack)))
    where
      by : (i < length s.stack) ⊎ (i ≡ length s.stack) → state_at after.states (slice_index after.stack i) ≡ Open i
      by (inl k) = ap (state_at after.states) (old_at i k) ∙ (other (slice_index s.stack i) (stood_apart i k) ∙ w.stands i k)
      by (inr e) = ap (λ z. state_at after.states (slice_index after.stack z)) e ∙ (ap (state_at after.states) last_at ∙ (here ∙ ap Open (sym e)))

  enter_stood : (u i : ℕ) → state_at after.states u ≡ Open i → (i < length after.stack) × (slice_index after.stack i ≡ u)
  enter_stood u i h = by (same_or_not u v)
    where
      by : (u ≡ v) ⊎ (u ≢ v) → (i < length after.stack) × (slice_index after.stack i ≡ u)
      by (inl e) =
          let same : length s.stack ≡ i = same_place (sym here ∙ (ap (state_at after.states) (sym e) ∙ h)) in
          (omega (arith, same, more_stack), ap (slice_index after.stack) (sym same) ∙ (last_at ∙ sym e))
      by (inr ne) =
          let old = w.stood u i (sym (other u ne) ∙ h) in
          (omega (arith, old.0, more_stack), old_at i old.0 ∙ old.1)

  enter_along : (i j : ℕ) → i < length after.stack → j < length after.stack → ((b : Start) → Contains after.starts b → b.place ≤ i → b.place ≤ j)
      → (i ≡ j) ⊎ Path rows (slice_index after.stack i) (slice_index after.stack j)
  enter_along i j h k u = by (below_or_last (length s.stack) i (omega (arith, h, more_stack))) (below_or_last (length s.stack) j (omega (arith, k, more_stack)))
    where
      by : (i < length s.stack) ⊎ (i ≡ length s.stack) → (j < length s.stack) ⊎ (j ≡ length s.stack) → (i ≡ j) ⊎ Path rows (slice_index after.stack i) (slice_index after.stack j)
      by (inl a) (inl b) = subst (λ z. (i ≡ j) ⊎ Path rows z (slice_index after.stack j)) (sym (old_at i a))
          (subst (λ z. (i ≡ j) ⊎ Path rows (slice_index s.stack i) z) (sym (old_at j b)) (w.along i j a b (λ c m. u c (old_start c m))))
      by (inl a) (inr e) = inr (subst (λ z. Path rows z (slice_index after.stack j)) (sym (old_at i a))
          (subst (λ z. Path rows (slice_index s.stack i) z) (sym (ap (slice_index after.stack) e ∙ last_at)) (reach i a)))
      by (inr e) (inl b) = let low = u first (Contains-push s.starts first) (omega (arith, e)) in absurd (omega (arith, low, b))
      by (inr e) (inr f) = inl (e ∙ sym f)

  enter_source : (e : ℕ) → e < length after.steps → HasSource rows after e
  enter_source e h = by (cases_lt e (length s.steps))
    where
      P : ℕ → Start → Type 0
      P i b = (b.step ≤ e → b.place ≤ i) × (b.place ≤ i → b.step ≤ e)

      by : (e < length s.steps) ⊎ (length s.steps ≤ e) → HasSource rows after e
      by (inl k) =
          let (i, standing, one, f) = w.source e k in (
            i,
            omega (arith, standing, more_stack),
            subst (λ z. Edge rows z (slice_index after.steps e)) (sym (old_at i standing)) (subst (λ z. Edge rows (slice_index s.stack i) z) (sym (old_step e k)) one),
            of_start (P i) f (λ l. absurd (omega (arith, l, k)), λ l. absurd (omega (arith, l, standing))),
          )
      by (inr k) =
          let m : ℕ = e - length s.steps in
          let is : length s.steps + m ≡ e = omega (arith, k) in
          let within : m < length row = omega (arith, h, k, more_steps) in
          let step : slice_index after.steps e ≡ slice_index row m = ap (slice_index after.steps) (sym is) ∙ new_step m in
          let one : Edge rows v (slice_index row m) = Contains-get_or row m 0 within in (
            high,
            omega (arith, more_stack),
            subst (λ z. Edge rows z (slice_index after.steps e)) (sym last_at) (subst (λ z. Edge rows v z) (sym step) one),
            of_start (P high) (λ b c. (λ l. omega (arith, (w.within b c).0), λ l. omega (arith, (w.within b c).1, k))) (λ l. omega arith, λ l. k),
          )

  still_standing : (i j : ℕ) → i < length s.stack → IsPending s i j ⊎ (IsFinished s j ⊎ IsStanding s i j) → IsPending after i j ⊎ (IsFinished after j ⊎ IsStanding after i j)
  still_standing i j h (inl (e, k, is, f)) =
      let P : Start → Type 0 = λ b. b.place ≤ i → b.step ≤ e in
      inl (e, omega (arith, k, more_steps), old_step e k ∙ is, of_start P f (λ l. absurd (omega (arith, l, h))))
  still_standing i j h (inr (inl (c, d))) = inr (inl (c, done_after j c d))
  still_standing i j h (inr (inr (p, o, f))) =
      let P : Start → Type 0 = λ b. b.place ≤ i → b.place ≤ p in
      inr (inr (p, other j (apart j (λ e. new_open (sym e ∙ o))) ∙ o, of_start P f (λ l. absurd (omega (arith, l, h)))))

  enter_stepped : (i j : ℕ) → i < length after.stack → Edge rows (slice_index after.stack i) j → IsPending after i j ⊎ (IsFinished after j ⊎ IsStanding after i j)
  enter_stepped i j h one = by (below_or_last (length s.stack) i (omega (arith, h, more_stack)))
    where
      by : (i < length s.stack) ⊎ (i ≡ length s.stack) → IsPending after i j ⊎ (IsFinished after j ⊎ IsStanding after i j)
      by (inl k) = still_standing i j k (w.stepped i j k (subst (λ z. Edge rows z j) (old_at i k) one))
      by (inr e) =
          let (m, within, is) = subst (λ z. Edge rows z j) (ap (slice_index after.stack) e ∙ last_at) one in
          let P : Start → Type 0 = λ b. b.place ≤ i → b.step ≤ length s.steps + m in
          let same : get_or row m j ≡ slice_index row m = default row m j 0 within in
          inl (length s.steps + m, omega (arith, within, more_steps), new_step m ∙ (sym same ∙ is), of_start P (λ b c l. omega (arith, (w.within b c).1)) (λ l. omega arith))
        where
          default : (xs : List ℕ) (k d f : ℕ) → k < length xs → get_or xs k d ≡ get_or xs k f
          default [] k d f h = absurd (omega (arith, h))
          default (x ∷ xs) zero d f h = refl
          default (x ∷ xs) (suc k) d f h = default xs k d f (omega (arith, h))

  enter_bottom : (i : ℕ) → i < length after.stack → (b : Start) × Contains after.starts b × (b.place ≤ i)
  enter_bottom i h = by (below_or_last (length s.stack) i (omega (arith, h, more_stack)))
    where
      by : (i < length s.stack) ⊎ (i ≡ length s.stack) → (b : Start) × Contains after.starts b × (b.place ≤ i)
      by (inl k) = let (b, c, l) = w.bottom i k in (b, old_start b c, l)
      by (inr e) = (first, Contains-push s.starts first, omega (arith, e))

  pub walk_enter : IsWalk rows after
  walk_enter = record {
    size = length-set s.states v (Open (length s.stack)) ∙ w.size;
    stands = enter_stands;
    stood = enter_stood;
    counted = λ u c d. w.counted u c (done_before u c d);
    ordered = λ c h. done_after (slice_index s.order c) c (w.ordered c h);
    closed = λ u c j d one. let (k, e, l) = w.closed u c j (done_before u c d) one in (k, done_after j k e, l);
    joined = λ a b c d e. w.joined a b c (done_before a c d) (done_before b c e);
    ascending = ascending_push s.starts first w.ascending (λ b c. w.within b c);
    within = of_start (λ b. (b.place < length after.stack) × (b.step ≤ length after.steps))
        (λ b c. (omega (arith, (w.within b c).0, more_stack), omega (arith, (w.within b c).1, more_steps))) (omega (arith, more_stack), omega (arith, more_steps));
    bottom = enter_bottom;
    along = enter_along;
    source = enter_source;
    stepped = enter_stepped;
  }

  pub enter_old : KeepsOld s after
  enter_old u old e = old (sym (other u (apart u old)) ∙ e)

  pub enter_is_old : state_at after.states v ≡ New → ⊥
  enter_is_old e = new_open (sym e ∙ here)

-- the last step belongs to the last component
module _ (rows : List (List ℕ)) (s : Stacks) (front : List Start) (b : Start) (w : IsWalk rows s) (parts : s.starts ≡ front ++ b ∷ []) (some : b.step < length s.steps) where
  abbrev final : ℕ
  final = length s.steps - 1

  abbrev target : ℕ
  target = slice_index s.steps final

  at_most : (c : Start) → Contains s.starts c → (c.place ≤ b.place) × (c.step ≤ b.step)
  at_most c h = to_last front b c (subst IsAscending parts w.ascending) (subst (λ z. Contains z c) parts h)

  -- all that stand lead to where it leads
  pub step_reach : (i : ℕ) → i < length s.stack → Path rows (slice_index s.stack i) target
  step_reach i h =
      let (k, standing, one, f) = w.source final (omega (arith, some)) in
      let high : b.place ≤ k = (f b (subst (λ z. Contains z b) (sym parts) (Contains-push front b))).0 (omega (arith, some)) in
      by k one (w.along i k h standing (λ c m l. omega (arith, (at_most c m).0, high)))
    where
      by : (k : ℕ) → Edge rows (slice_index s.stack k) target → (i ≡ k) ⊎ Path rows (slice_index s.stack i) (slice_index s.stack k) → Path rows (slice_index s.stack i) target
      by k one (inl e) = edge (subst (λ z. Edge rows (slice_index s.stack z) target) (sym e) one)
      by k one (inr p) = further p one

  -- it is taken, and leads to what was come to; these starts are left
  module _ (starts : List Start) (sub : (c : Start) → Contains starts c → Contains s.starts c) (ascending : IsAscending starts)
      (bottom : (i : ℕ) → i < length s.stack → (c : Start) × Contains starts c × (c.place ≤ i))
      (along : (i j : ℕ) → i < length s.stack → j < length s.stack → ((c : Start) → Contains starts c → c.place ≤ i → c.place ≤ j)
      → (i ≡ j) ⊎ Path rows (slice_index s.stack i) (slice_index s.stack j))
      (there : IsFinished s target ⊎ ((p : ℕ) × (state_at s.states target ≡ Open p) × ((c : Start) → Contains starts c → c.place ≤ p))) where
    abbrev back : Stacks
    back = joined starts (stepped s)

    shorter : length back.steps ≡ final
    shorter = length-take-le final s.steps (omega (arith, some))

    kept_step : (e : ℕ) → e < final → slice_index back.steps e ≡ slice_index s.steps e
    kept_step e h = get_or-take final s.steps e 0 h

    back_source : (e : ℕ) → e < length back.steps → HasSource rows back e
    back_source e h =
        let small : e < final = omega (arith, h, shorter) in
        let (i, standing, one, f) = w.source e (omega (arith, small, some)) in
        (i, standing, subst (λ z. Edge rows (slice_index s.stack i) z) (sym (kept_step e small)) one, λ c m. f c (sub c m))

    back_stepped : (i j : ℕ) → i < length s.stack → Edge rows (slice_index s.stack i) j → IsPending back i j ⊎ (IsFinished back j ⊎ IsStanding back i j)
    back_stepped i j h one = by (w.stepped i j h one)
      where
        taken : target ≡ j → IsFinished s target ⊎ ((p : ℕ) × (state_at s.states target ≡ Open p) × ((c : Start) → Contains starts c → c.place ≤ p)) → IsPending back i j ⊎ (IsFinished back j ⊎ IsStanding back i j)
        taken is (inl (c, d)) = inr (inl (c, ap (state_at s.states) (sym is) ∙ d))
        taken is (inr (p, o, low)) = inr (inr (p, ap (state_at s.states) (sym is) ∙ o, λ c m l. low c m))

        by : IsPending s i j ⊎ (IsFinished s j ⊎ IsStanding s i j) → IsPending back i j ⊎ (IsFinished back j ⊎ IsStanding back i j)
        by (inl (e, k, is, f)) = at (below_or_last final e (omega (arith, k, some)))
          where
            at : (e < final) ⊎ (e ≡ final) → IsPending back i j ⊎ (IsFinished back j ⊎ IsStanding back i j)
            at (inl small) = inl (e, omega (arith, small, shorter), kept_step e small ∙ is, λ c m. f c (sub c m))
            at (inr same) = taken (ap (slice_index s.steps) (sym same) ∙ is) there
        by (inr (inl d)) = inr (inl d)
        by (inr (inr (p, o, f))) = inr (inr (p, o, λ c m. f c (sub c m)))

    walk_back : IsWalk rows back
    walk_back = record {
      size = w.size;
      stands = w.stands;
      stood = w.stood;
      counted = w.counted;
      ordered = w.ordered;
      closed = w.closed;
      joined = w.joined;
      ascending = ascending;
      within = λ c m. ((w.within c (sub c m)).0, omega (arith, (at_most c (sub c m)).1, shorter, some));
      bottom = bottom;
      along = along;
      source = back_source;
      stepped = back_stepped;
    }

  pub walk_skip : IsFinished s target → IsWalk rows (stepped s)
  walk_skip d = walk_back s.starts (λ c m. m) w.ascending w.bottom w.along (inl d)

  module _ (p : ℕ) (starts : List Start) (o : state_at s.states target ≡ Open p) (from : IsStarted p s.starts starts) where
    sub : (c : Start) → Contains starts c → Contains s.starts c
    sub c m = subst (λ z. Contains z c) (sym from.parts) (Contains-append_left starts from.gone c m)

    keep : (c : Start) → Contains s.starts c → c.place ≤ p → Contains starts c
    keep c m l = by (Contains-append_cases starts from.gone c (subst (λ z. Contains z c) from.parts m))
      where
        by : Contains starts c ⊎ Contains from.gone c → Contains starts c
        by (inl k) = k
        by (inr k) = absurd (omega (arith, l, All-contains (λ z. p < z.place) from.gone c from.after k))

    fewer : IsAscending starts
    fewer = ascending_front starts from.gone (subst IsAscending from.parts w.ascending)

    low : (c : Start) → Contains starts c → c.place ≤ p
    low c m = by from.last
      where
        by : (starts ≡ []) ⊎ ((f : List Start) × (d : Start) × (starts ≡ f ++ d ∷ []) × (d.place ≤ p)) → c.place ≤ p
        by (inl e) = let none : Contains {X = Start} [] c = subst (λ z. Contains z c) e m in absurd (omega (arith, none.1))
        by (inr (f, d, e, l)) = omega (arith, (to_last f d c (subst IsAscending e fewer) (subst (λ z. Contains z c) e m)).0, l)

    join_bottom : (i : ℕ) → i < length s.stack → (c : Start) × Contains starts c × (c.place ≤ i)
    join_bottom i h = let (c, m, l) = w.bottom i h in by c m l (cases_lt p c.place)
      where
        by : (c : Start) → Contains s.starts c → c.place ≤ i → (p < c.place) ⊎ (c.place ≤ p) → (d : Start) × Contains starts d × (d.place ≤ i)
        by c m l (inl k) = let (d, n, e) = w.bottom p (w.stood target p o).0 in (d, keep d n e, omega (arith, k, l, e))
        by c m l (inr k) = (c, keep c m k, l)

    join_along : (i j : ℕ) → i < length s.stack → j < length s.stack → ((c : Start) → Contains starts c → c.place ≤ i → c.place ≤ j)
        → (i ≡ j) ⊎ Path rows (slice_index s.stack i) (slice_index s.stack j)
    join_along i j h k u = by (cases_lt i p)
      where
        is : slice_index s.stack p ≡ target
        is = (w.stood target p o).1

        on : (p ≡ j) ⊎ Path rows (slice_index s.stack p) (slice_index s.stack j) → Path rows (slice_index s.stack i) (slice_index s.stack j)
        on (inl e) = subst (λ z. Path rows (slice_index s.stack i) z) (sym is ∙ ap (slice_index s.stack) e) (step_reach i h)
        on (inr q) = path_then (step_reach i h) (subst (λ z. Path rows z (slice_index s.stack j)) is q)

        by : (i < p) ⊎ (p ≤ i) → (i ≡ j) ⊎ Path rows (slice_index s.stack i) (slice_index s.stack j)
        by (inl l) = w.along i j h k (λ c m n. u c (keep c m (omega (arith, n, l))) n)
        by (inr l) = inr (on (w.along p j (w.stood target p o).0 k (λ c m n. u c (keep c m n) (omega (arith, n, l)))))

    pub walk_join : IsWalk rows (joined starts (stepped s))
    walk_join = walk_back starts sub fewer join_bottom join_along (inr (p, o, low))

-- the last component is left
module _ (rows : List (List ℕ)) (s t : Stacks) (front : List Start) (b : Start) (w : IsWalk rows s) (parts : s.starts ≡ front ++ b ∷ []) (none : length s.steps ≡ b.step)
    (left : IsClosed b s t) where
  abbrev number : ℕ
  number = length s.order

  inside : b.place < length s.stack
  inside = (w.within b (subst (λ z. Contains z b) (sym parts) (Contains-push front b))).0

  before : (c : Start) → Contains s.starts c → (c.place ≤ b.place) × (c.step ≤ b.step)
  before c h = to_last front b c (subst IsAscending parts w.ascending) (subst (λ z. Contains z c) parts h)

  at_from : (i : ℕ) → b.place ≤ i → i < length s.stack → Contains (drop b.place s.stack) (slice_index s.stack i)
  at_from i l h =
      let k : ℕ = i - b.place in
      let small : k < length (drop b.place s.stack) = omega (arith, l, h, length-drop b.place s.stack) in
      let is : b.place + k ≡ i = omega (arith, l) in
      subst (λ z. Contains (drop b.place s.stack) (slice_index s.stack z)) is
      (subst (Contains (drop b.place s.stack)) (get_or-drop b.place s.stack k 0) (Contains-get_or (drop b.place s.stack) k 0 small))

  from_at : (v : ℕ) → Contains (drop b.place s.stack) v → (i : ℕ) × (b.place ≤ i) × (i < length s.stack) × (slice_index s.stack i ≡ v)
  from_at v (k, small, e) =
      let all : b.place + k < length s.stack = omega (arith, small, length-drop b.place s.stack) in
      (b.place + k, omega arith, all, sym (get_or-drop b.place s.stack k 0) ∙ (default (drop b.place s.stack) k 0 v small ∙ e))
    where
      default : (xs : List ℕ) (k d f : ℕ) → k < length xs → get_or xs k d ≡ get_or xs k f
      default [] k d f h = absurd (omega (arith, h))
      default (x ∷ xs) zero d f h = refl
      default (x ∷ xs) (suc k) d f h = default xs k d f (omega (arith, h))

  put : (v i : ℕ) → state_at s.states v ≡ Open i → b.place ≤ i → state_at t.states v ≡ Done number
  put v i o l =
      let (h, is) = w.stood v i o in
      left.states.finished v (subst (Contains (drop b.place s.stack)) is (at_from i l h))

  kept : (v : ℕ) → ((i : ℕ) → state_at s.states v ≡ Open i → i < b.place) → state_at t.states v ≡ state_at s.states v
  kept v low = left.states.others v (λ c. let (i, l, h, is) = from_at v c in absurd (omega (arith, l, low i (ap (state_at s.states) (sym is) ∙ w.stands i h))))

  kept_done : (v c : ℕ) → state_at s.states v ≡ Done c → state_at t.states v ≡ Done c
  kept_done v c d = kept v (λ i o. absurd (open_done (sym o ∙ d))) ∙ d

  kept_open : (v i : ℕ) → state_at s.states v ≡ Open i → i < b.place → state_at t.states v ≡ Open i
  kept_open v i o l = kept v (λ j p. omega (arith, same_place (sym o ∙ p), l)) ∙ o

  -- what a state was
  state_before : (v : ℕ) (x : State) → state_at s.states v ≡ x → IsClosedState b.place number x (state_at t.states v)
  state_before v New e = kept v (λ i o. absurd (new_open (sym e ∙ o))) ∙ e
  state_before v (Open i) e = by (cases_lt i b.place)
    where
      by : (i < b.place) ⊎ (b.place ≤ i) → IsClosedState b.place number (Open i) (state_at t.states v)
      by (inl l) = inr (l, kept_open v i e l)
      by (inr l) = inl (l, put v i e l)
  state_before v (Done c) e = kept_done v c e

  was_done : (v c : ℕ) → state_at t.states v ≡ Done c → (state_at s.states v ≡ Done c) ⊎ ((c ≡ number) × ((i : ℕ) × (state_at s.states v ≡ Open i) × (b.place ≤ i)))
  was_done v c d = by (state_at s.states v) refl
    where
      by : (x : State) → state_at s.states v ≡ x → (state_at s.states v ≡ Done c) ⊎ ((c ≡ number) × ((i : ℕ) × (state_at s.states v ≡ Open i) × (b.place ≤ i)))
      by New e = absurd (new_done (sym (state_before v New e) ∙ d))
      by (Open i) e = at (state_before v (Open i) e)
        where
          at : IsClosedState b.place number (Open i) (state_at t.states v) → (state_at s.states v ≡ Done c) ⊎ ((c ≡ number) × ((i : ℕ) × (state_at s.states v ≡ Open i) × (b.place ≤ i)))
          at (inl (l, f)) = inr (same_component (sym d ∙ f), (i, e, l))
          at (inr (l, f)) = absurd (open_done (sym f ∙ d))
      by (Done k) e = inl (e ∙ (sym (state_before v (Done k) e) ∙ d))

  was_open : (v i : ℕ) → state_at t.states v ≡ Open i → (state_at s.states v ≡ Open i) × (i < b.place)
  was_open v i o = by (state_at s.states v) refl
    where
      by : (x : State) → state_at s.states v ≡ x → (state_at s.states v ≡ Open i) × (i < b.place)
      by New e = absurd (new_open (sym (state_before v New e) ∙ o))
      by (Open j) e = at (state_before v (Open j) e)
        where
          at : IsClosedState b.place number (Open j) (state_at t.states v) → (state_at s.states v ≡ Open i) × (i < b.place)
          at (inl (l, f)) = absurd (open_done (sym o ∙ f))
          at (inr (l, f)) = let same : j ≡ i = same_place (sym f ∙ o) in (e ∙ ap Open same, omega (arith, l, same))
      by (Done k) e = absurd (open_done (sym o ∙ state_before v (Done k) e))

  abbrev stack_left : List ℕ
  stack_left = take b.place s.stack

  left_length : length t.stack ≡ b.place
  left_length = ap length left.stack ∙ length-take-le b.place s.stack (omega (arith, inside))

  left_at : (i : ℕ) → i < b.place → slice_index t.stack i ≡ slice_index s.stack i
  left_at i h = ap (λ z. slice_index z i) left.stack ∙ get_or-take b.place s.stack i 0 h

  left_starts : t.starts ≡ front
  left_starts = left.starts ∙ (ap (λ z. take (length z - 1) z) parts ∙ without_last front b)
    where
      without_last : (bs : List Start) (c : Start) → take (length (bs ++ c ∷ []) - 1) (bs ++ c ∷ []) ≡ bs
      without_last bs c = ap (λ n. take n (bs ++ c ∷ [])) (counts bs c) ∙ (take_front bs (c ∷ []))
        where
          counts : (bs : List Start) (c : Start) → length (bs ++ c ∷ []) - 1 ≡ length bs
          counts bs c = omega (arith, length-append bs (c ∷ []))

          take_front : (xs ys : List Start) → take (length xs) (xs ++ ys) ≡ xs
          take_front [] ys = refl
          take_front (x ∷ xs) ys = ap (λ z. x ∷ z) (take_front xs ys)

  was_start : (c : Start) → Contains t.starts c → Contains s.starts c × ((c.place < b.place) × (c.step ≤ b.step))
  was_start c h =
      let old : Contains front c = subst (λ z. Contains z c) left_starts h in
      (subst (λ z. Contains z c) (sym parts) (Contains-append_left front (b ∷ []) c old), ascending_last front b c (subst IsAscending parts w.ascending) old)

  -- a start that lies low is left
  low_start : (c : Start) → Contains s.starts c → c.place < b.place → Contains t.starts c
  low_start c h l = subst (λ z. Contains z c) (sym left_starts) (by (Contains-push_cases front b c (subst (λ z. Contains z c) parts h)))
    where
      by : Contains front c ⊎ (b ≡ c) → Contains front c
      by (inl k) = k
      by (inr e) = absurd (omega (arith, l, ap (λ z. z.place) e))

  close_closed : (v c j : ℕ) → state_at t.states v ≡ Done c → Edge rows v j → (d : ℕ) × (state_at t.states j ≡ Done d) × (d ≤ c)
  close_closed v c j done one = by (was_done v c done)
    where
      reached : (i : ℕ) → b.place ≤ i → c ≡ number → IsPending s i j ⊎ (IsFinished s j ⊎ IsStanding s i j) → (d : ℕ) × (state_at t.states j ≡ Done d) × (d ≤ c)
      reached i l is (inl (e, k, at, f)) = absurd (omega (arith, k, none, f b (subst (λ z. Contains z b) (sym parts) (Contains-push front b)) l))
      reached i l is (inr (inl (d, f))) = (d, kept_done j d f, omega (arith, w.counted j d f, is))
      reached i l is (inr (inr (p, o, f))) = (number, put j p o (f b (subst (λ z. Contains z b) (sym parts) (Contains-push front b)) l), omega (arith, is))

      by : (state_at s.states v ≡ Done c) ⊎ ((c ≡ number) × ((i : ℕ) × (state_at s.states v ≡ Open i) × (b.place ≤ i))) → (d : ℕ) × (state_at t.states j ≡ Done d) × (d ≤ c)
      by (inl old) = let (d, f, l) = w.closed v c j old one in (d, kept_done j d f, l)
      by (inr (is, (i, o, l))) =
          let (h, at) = w.stood v i o in
          reached i l is (w.stepped i j h (subst (λ z. Edge rows z j) (sym at) one))

  close_joined : (u v c : ℕ) → state_at t.states u ≡ Done c → state_at t.states v ≡ Done c → (u ≡ v) ⊎ Path rows u v
  close_joined u v c d e = by (was_done u c d) (was_done v c e)
    where
      new : (i j : ℕ) → state_at s.states u ≡ Open i → b.place ≤ i → state_at s.states v ≡ Open j → b.place ≤ j → (u ≡ v) ⊎ Path rows u v
      new i j o l p k =
          let (h, is) = w.stood u i o in
          let (m, at) = w.stood v j p in
          at_both is at (w.along i j h m (λ c n x. omega (arith, (before c n).0, k)))
        where
          at_both : slice_index s.stack i ≡ u → slice_index s.stack j ≡ v → (i ≡ j) ⊎ Path rows (slice_index s.stack i) (slice_index s.stack j) → (u ≡ v) ⊎ Path rows u v
          at_both is at (inl e) = inl (sym is ∙ (ap (slice_index s.stack) e ∙ at))
          at_both is at (inr q) = inr (subst (λ z. Path rows z v) is (subst (λ z. Path rows (slice_index s.stack i) z) at q))

      by : (state_at s.states u ≡ Done c) ⊎ ((c ≡ number) × ((i : ℕ) × (state_at s.states u ≡ Open i) × (b.place ≤ i)))
          → (state_at s.states v ≡ Done c) ⊎ ((c ≡ number) × ((i : ℕ) × (state_at s.states v ≡ Open i) × (b.place ≤ i))) → (u ≡ v) ⊎ Path rows u v
      by (inl x) (inl y) = w.joined u v c x y
      by (inl x) (inr (is, y)) = absurd (omega (arith, w.counted u c x, is))
      by (inr (is, x)) (inl y) = absurd (omega (arith, w.counted v c y, is))
      by (inr (is, (i, o, l))) (inr (at, (j, p, k))) = new i j o l p k

  close_ordered : (c : ℕ) → c < length t.order → state_at t.states (slice_index t.order c) ≡ Done c
  close_ordered c h = by (below_or_last number c (omega (arith, h, ap length left.order, length-append s.order (slice_index s.stack b.place ∷ []))))
    where
      by : (c < number) ⊎ (c ≡ number) → state_at t.states (slice_index t.order c) ≡ Done c
      by (inl l) =
          let same : slice_index t.order c ≡ slice_index s.order c = ap (λ z. slice_index z c) left.order ∙ get_or_append_left s.order (slice_index s.stack b.place ∷ []) 0 c l in
          ap (state_at t.states) same ∙ kept_done (slice_index s.order c) c (w.ordered c l)
      by (inr e) =
          let same : slice_index t.order c ≡ slice_index s.stack b.place = ap (slice_index t.order) e ∙ (ap (λ z. slice_index z number) left.order ∙ at_last s.order (slice_index s.stack b.place)) in
          ap (state_at t.states) same ∙ (put (slice_index s.stack b.place) b.place (w.stands b.place inside) (omega arith) ∙ ap Done (sym e))

  close_source : (e : ℕ) → e < length t.steps → HasSource rows t e
  close_source e h =
      let old : e < length s.steps = omega (arith, h, ap length left.steps) in
      let (i, standing, one, f) = w.source e old in
      let low : i < b.place = below i (f b (subst (λ z. Contains z b) (sym parts) (Contains-push front b))).1 old in (
        i,
        omega (arith, low, left_length),
        subst (λ z. Edge rows z (slice_index t.steps e)) (sym (left_at i low)) (subst (λ z. Edge rows (slice_index s.stack i) (slice_index z e)) (sym left.steps) one),
        λ c m. f c (was_start c m).0,
      )
    where
      below : (i : ℕ) → (b.place ≤ i → b.step ≤ e) → e < length s.steps → i < b.place
      below i f old = by (cases_lt i b.place)
        where
          by : (i < b.place) ⊎ (b.place ≤ i) → i < b.place
          by (inl l) = l
          by (inr l) = absurd (omega (arith, f l, old, none))

  close_stepped : (i j : ℕ) → i < length t.stack → Edge rows (slice_index t.stack i) j → IsPending t i j ⊎ (IsFinished t j ⊎ IsStanding t i j)
  close_stepped i j h one = by (w.stepped i j (omega (arith, low, inside)) (subst (λ z. Edge rows z j) (left_at i low) one))
    where
      low : i < b.place
      low = omega (arith, h, left_length)

      by : IsPending s i j ⊎ (IsFinished s j ⊎ IsStanding s i j) → IsPending t i j ⊎ (IsFinished t j ⊎ IsStanding t i j)
      by (inl (e, k, is, f)) =
          inl (e, subst (λ z. e < length z) (sym left.steps) k, ap (λ z. slice_index z e) left.steps ∙ is, λ c m. f c (was_start c m).0)
      by (inr (inl (d, f))) = inr (inl (d, kept_done j d f))
      by (inr (inr (p, o, f))) = at (cases_lt p b.place)
        where
          at : (p < b.place) ⊎ (b.place ≤ p) → IsPending t i j ⊎ (IsFinished t j ⊎ IsStanding t i j)
          at (inl l) = inr (inr (p, kept_open j p o l, λ c m. f c (was_start c m).0))
          at (inr l) = inr (inl (number, put j p o l))

  close_along : (i j : ℕ) → i < length t.stack → j < length t.stack → ((c : Start) → Contains t.starts c → c.place ≤ i → c.place ≤ j)
      → (i ≡ j) ⊎ Path rows (slice_index t.stack i) (slice_index t.stack j)
  close_along i j h k u =
      let low : i < b.place = omega (arith, h, left_length) in
      let also : j < b.place = omega (arith, k, left_length) in
      subst (λ z. (i ≡ j) ⊎ Path rows z (slice_index t.stack j)) (sym (left_at i low)) (subst (λ z. (i ≡ j) ⊎ Path rows (slice_index s.stack i) z) (sym (left_at j also))
      (w.along i j (omega (arith, low, inside)) (omega (arith, also, inside)) (λ c m l. u c (low_start c m (omega (arith, l, low))) l)))

  pub walk_close : IsWalk rows t
  walk_close = record {
    size = left.states.size ∙ w.size;
    stands = λ i h. let low : i < b.place = omega (arith, h, left_length) in
        ap (state_at t.states) (left_at i low) ∙ kept_open (slice_index s.stack i) i (w.stands i (omega (arith, low, inside))) low;
    stood = λ v i o. let (old, low) = was_open v i o in let (h, is) = w.stood v i old in (omega (arith, low, left_length), left_at i low ∙ is);
    counted = λ v c d. counted v c (was_done v c d);
    ordered = close_ordered;
    closed = close_closed;
    joined = close_joined;
    ascending = subst IsAscending (sym left_starts) (ascending_front front (b ∷ []) (subst IsAscending parts w.ascending));
    within = λ c m. let (old, (l, k)) = was_start c m in (omega (arith, l, left_length), omega (arith, k, none, ap length left.steps));
    bottom = λ i h. let low : i < b.place = omega (arith, h, left_length) in let (c, m, l) = w.bottom i (omega (arith, low, inside)) in (c, low_start c m (omega (arith, l, low)), l);
    along = close_along;
    source = close_source;
    stepped = close_stepped;
  }
    where
      counted : (v c : ℕ) → (state_at s.states v ≡ Done c) ⊎ ((c ≡ number) × ((i : ℕ) × (state_at s.states v ≡ Open i) × (b.place ≤ i))) → c < length t.order
      counted v c (inl d) = omega (arith, w.counted v c d, ap length left.order, length-append s.order (slice_index s.stack b.place ∷ []))
      counted v c (inr (is, x)) = omega (arith, is, ap length left.order, length-append s.order (slice_index s.stack b.place ∷ []))

  pub close_old : KeepsOld s t
  close_old v old e = by (state_at s.states v) refl
    where
      by : (x : State) → state_at s.states v ≡ x → ⊥
      by New f = old f
      by (Open i) f = at (state_before v (Open i) f)
        where
          at : IsClosedState b.place number (Open i) (state_at t.states v) → ⊥
          at (inl (l, g)) = new_done (sym e ∙ g)
          at (inr (l, g)) = new_open (sym e ∙ g)
      by (Done c) f = new_done (sym e ∙ state_before v (Done c) f)

longest_bounds : (rows : List (List ℕ)) (v : ℕ) → length (get_or rows v []) ≤ longest rows
longest_bounds [] v = omega arith
longest_bounds (row ∷ rows) zero = omega arith
longest_bounds (row ∷ rows) (suc v) = omega (arith, longest_bounds rows v)

pub enter_less : (rows : List (List ℕ)) (s : Stacks) (v : ℕ) → v < length s.states → state_at s.states v ≡ New → cost rows (entered v (get_or rows v []) s) < cost rows s
enter_less rows s v small new =
    let changed = sum_by-set weight s.states v (Open (length s.stack)) New small in
    let was : weight (get_or s.states v New) ≡ 1 = ap weight new in
    let less : sum_by weight (set s.states v (Open (length s.stack))) + 1 ≡ sum_by weight s.states = omega (arith, changed, was) in
    let m : ℕ = sum_by weight (set s.states v (Open (length s.stack))) in
    let first : Start = record { place = length s.stack; step = length s.steps } in
    let product : sum_by weight s.states * (2 + longest rows) ≡ m * (2 + longest rows) + (2 + longest rows) =
    ap (λ z. z * (2 + longest rows)) (sym less) ∙ one_more m (2 + longest rows) in
    omega (arith, product, longest_bounds rows v, length-append s.steps (get_or rows v []), length-append s.starts (first ∷ []))
  where
    one_more : (m k : ℕ) → (m + 1) * k ≡ m * k + k
    one_more m k = omega arith

pub skip_less : (rows : List (List ℕ)) (s : Stacks) → 0 < length s.steps → cost rows (stepped s) < cost rows s
skip_less rows s some = omega (arith, some, length-take-le (length s.steps - 1) s.steps (omega (arith, some)))

pub join_less : (rows : List (List ℕ)) (s : Stacks) (p : ℕ) (starts : List Start) → IsStarted p s.starts starts → 0 < length s.steps → cost rows (joined starts (stepped s)) < cost rows s
join_less rows s p starts from some =
    omega (arith, some, length-take-le (length s.steps - 1) s.steps (omega (arith, some)), ap length from.parts, length-append starts from.gone)

pub close_less : (rows : List (List ℕ)) (s t : Stacks) (front : List Start) (b : Start) → s.starts ≡ front ++ b ∷ [] → IsClosed b s t → cost rows t < cost rows s
close_less rows s t front b parts left =
    let fewer : length t.starts + 1 ≡ length s.starts =
    omega (arith, ap length left.starts, ap length parts, length-append front (b ∷ []), length-take-le (length s.starts - 1) s.starts (omega arith)) in
    let product : sum_by weight t.states * (2 + longest rows) ≤ sum_by weight s.states * (2 + longest rows) = mul-le-mul_right (2 + longest rows) left.states.lighter in
    omega (arith, fewer, product, ap length left.steps)

-- a walk at its beginning
none_done : (n v c : ℕ) → state_at (replicate n New) v ≡ Done c → ⊥
none_done zero v c e = new_done e
none_done (suc n) zero c e = new_done e
none_done (suc n) (suc v) c e = none_done n v c e

none_open : (n v i : ℕ) → state_at (replicate n New) v ≡ Open i → ⊥
none_open zero v i e = new_open e
none_open (suc n) zero i e = new_open e
none_open (suc n) (suc v) i e = none_open n v i e

pub walk_first : (rows : List (List ℕ)) (states : List State) → states ≡ replicate (length rows) New → IsWalk rows (record { states = states; stack = []; starts = []; steps = []; order = [] })
walk_first rows states is = record {
  size = ap length is ∙ sizes (length rows);
  stands = λ i h. absurd (omega (arith, h));
  stood = λ v i o. absurd (none_open (length rows) v i (ap (λ z. state_at z v) (sym is) ∙ o));
  counted = λ v c d. absurd (none_done (length rows) v c (ap (λ z. state_at z v) (sym is) ∙ d));
  ordered = λ c h. absurd (omega (arith, h));
  closed = λ v c j d. absurd (none_done (length rows) v c (ap (λ z. state_at z v) (sym is) ∙ d));
  joined = λ u v c d. absurd (none_done (length rows) u c (ap (λ z. state_at z u) (sym is) ∙ d));
  ascending = tt;
  within = λ b c. absurd (omega (arith, c.1));
  bottom = λ i h. absurd (omega (arith, h));
  along = λ i j h. absurd (omega (arith, h));
  source = λ e h. absurd (omega (arith, h));
  stepped = λ i j h. absurd (omega (arith, h));
}
  where
    sizes : (n : ℕ) → length (replicate n New) ≡ n
    sizes zero = refl
    sizes (suc n) = ap (λ k. suc k) (sizes n)

-- where nothing stands, no component is begun, and the other way round
pub no_starts : {rows : List (List ℕ)} {s : Stacks} → IsWalk rows s → s.stack ≡ [] → s.starts ≡ []
no_starts {rows} {s} w e = by s.starts refl
  where
    by : (bs : List Start) → s.starts ≡ bs → s.starts ≡ []
    by [] is = is
    by (b ∷ bs) is = absurd (omega (arith, (w.within b (subst (λ z. Contains z b) (sym is) (0, omega arith, refl))).0, ap length e))

pub no_stack : {rows : List (List ℕ)} {s : Stacks} → IsWalk rows s → s.starts ≡ [] → s.stack ≡ []
no_stack {rows} {s} w e = by s.stack refl
  where
    by : (vs : List ℕ) → s.stack ≡ vs → s.stack ≡ []
    by [] is = is
    by (v ∷ vs) is =
        let (b, c, l) = w.bottom 0 (omega (arith, ap length is)) in
        let none : Contains {X = Start} [] b = subst (λ z. Contains z b) e c in
        absurd (omega (arith, none.1))

-- where nothing stands, what was come to is done
pub all_done : {rows : List (List ℕ)} {s : Stacks} → IsWalk rows s → s.stack ≡ [] → ((v : ℕ) → v < length rows → state_at s.states v ≡ New → ⊥) → AreComponents rows s.states s.order
all_done {rows} {s} w e old = record {
  size = w.size;
  done = λ v h. by v (state_at s.states v) refl (old v h);
  ordered = w.ordered;
  closed = w.closed;
  joined = w.joined;
}
  where
    by : (v : ℕ) (x : State) → state_at s.states v ≡ x → (state_at s.states v ≡ New → ⊥) → (c : ℕ) × (state_at s.states v ≡ Done c) × (c < length s.order)
    by v New is h = absurd (h is)
    by v (Open i) is h = absurd (omega (arith, (w.stood v i is).0, ap length e))
    by v (Done c) is h = (c, is, w.counted v c is)

-- numbers put into a component one after the other
pub finish_none : (component : ℕ) (states : List State) → AreFinished [] component states states
finish_none component states = record { size = refl; finished = λ v c. absurd (omega (arith, c.1)); others = λ v h. refl; lighter = omega arith }

pub finish_more : (row : List ℕ) (i component : ℕ) (old new : List State) → i < length row → All (λ v. v < length old) row → AreFinished (take i row) component old new
    → AreFinished (take (i + 1) row) component old (set new (get_or row i 0) (Done component))
finish_more row i component old new small within f = record {
  size = length-set new number (Done component) ∙ f.size;
  finished = λ v c. finished v (Contains-push_cases (take i row) number v (subst (λ z. Contains z v) more c));
  others = λ v h. others v (λ e. h (subst (λ z. Contains z v) (sym more) (subst (Contains (take i row ++ number ∷ [])) (sym e) (Contains-push (take i row) number))))
      ∙ f.others v (λ c. h (subst (λ z. Contains z v) (sym more) (Contains-append_left (take i row) (number ∷ []) v c)));
  lighter = omega (arith, f.lighter, sum_by-set weight new number (Done component) New inside);
}
  where
    number : ℕ
    number = get_or row i 0

    more : take (i + 1) row ≡ take i row ++ number ∷ []
    more = take_more row i 0 small

    inside : number < length new
    inside = subst (λ n. number < n) (sym f.size) (within i 0 small)

    others : (v : ℕ) → v ≢ number → state_at (set new number (Done component)) v ≡ state_at new v
    others v ne = get_or-set_other new number v (Done component) New ne

    finished : (v : ℕ) → Contains (take i row) v ⊎ (number ≡ v) → state_at (set new number (Done component)) v ≡ Done component
    finished v (inl c) = by (same_or_not v number)
      where
        by : (v ≡ number) ⊎ (v ≢ number) → state_at (set new number (Done component)) v ≡ Done component
        by (inl e) = ap (state_at (set new number (Done component))) e ∙ get_or-set_same new number (Done component) New inside
        by (inr ne) = others v ne ∙ f.finished v c
    finished v (inr e) = ap (state_at (set new number (Done component))) (sym e) ∙ get_or-set_same new number (Done component) New inside

-- what stands is in range
pub stands_within : {rows : List (List ℕ)} {s : Stacks} → IsWalk rows s → All (λ v. v < length s.states) s.stack
stands_within {rows} {s} w i d h =
    by (cases_lt (get_or s.stack i d) (length s.states)) (same s.stack i d 0 h)
  where
    same : (xs : List ℕ) (k d f : ℕ) → k < length xs → get_or xs k d ≡ get_or xs k f
    same [] k d f h = absurd (omega (arith, h))
    same (x ∷ xs) zero d f h = refl
    same (x ∷ xs) (suc k) d f h = same xs k d f (omega (arith, h))

    past : (xs : List State) (v : ℕ) → length xs ≤ v → state_at xs v ≡ New
    past [] v h = refl
    past (x ∷ xs) zero h = absurd (omega (arith, h))
    past (x ∷ xs) (suc v) h = past xs v (omega (arith, h))

    by : (get_or s.stack i d < length s.states) ⊎ (length s.states ≤ get_or s.stack i d) → get_or s.stack i d ≡ slice_index s.stack i → get_or s.stack i d < length s.states
    by (inl l) e = l
    by (inr l) e = absurd (new_open (sym (past s.states (get_or s.stack i d) l) ∙ (ap (state_at s.states) e ∙ w.stands i h)))

pub walk_begun : (rows : List (Bor (List ℕ))) (states : List State) (stack : List ℕ) (starts : List Start) (steps order : List ℕ)
    → states ≡ replicate (length rows) New → stack ≡ [] → starts ≡ [] → steps ≡ [] → order ≡ []
    → IsWalk (rows_of rows) (record { states = states; stack = stack; starts = starts; steps = steps; order = order })
walk_begun rows states stack starts steps order all a b c d =
    subst (λ w. IsWalk (rows_of rows) (record { states = states; stack = w; starts = starts; steps = steps; order = order })) (sym a)
    (subst (λ w. IsWalk (rows_of rows) (record { states = states; stack = []; starts = w; steps = steps; order = order })) (sym b)
    (subst (λ w. IsWalk (rows_of rows) (record { states = states; stack = []; starts = []; steps = w; order = order })) (sym c)
    (subst (λ w. IsWalk (rows_of rows) (record { states = states; stack = []; starts = []; steps = []; order = w })) (sym d)
    (walk_first (rows_of rows) states (all ∙ ap (λ n. replicate n New) (sym (count_rows rows)))))))
