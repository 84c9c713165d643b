-- How marks grow, and when all that are reached are marked.
use Rattle.std.proofs.Common.{◌≡◌, ◌⊎◌, inl, inr, ℕ, zero, suc, ◌+◌, ◌<◌, Bool, true, false, List, [], ◌∷◌, ◌++◌, refl, ap, ◌∙◌, sym, subst, arith, length, get_or, set, take, length-append, replicate, Bor}
use Rattle.std.proofs.Common.{length-set}
use Rattle.std.proofs.lemmas.Bool.{false≢true}
use Rattle.std.proofs.lemmas.List.Sums.{sum_by-set}
use Rattle.std.proofs.lemmas.List.Elements.{Contains-append_left, Contains-get_or, Contains-push, Contains-push_cases}
use Rattle.std.proofs.lemmas.List.{take_more}
use Rattle.std.specs.List.{All, Contains}
use Rattle.std.specs.Prelude.{if◌then◌else◌}
use Rattle.tc_graph.specs.Graph.{rows_of, Edge, IsGraph, Path, edge, further, Leads, is_marked, IsReached}
use Rattle.tc_graph.specs.Marks.{unmarked, Marks}

pub marked_within : (marks : List Bool) (j : ℕ) → is_marked marks j ≡ true → j < length marks
marked_within [] j h = absurd (false≢true h)
marked_within (m ∷ ms) zero h = omega arith
marked_within (m ∷ ms) (suc j) h = let k = marked_within ms j h in omega (arith, k)

pub nothing_in : {X : Type 0} (x : X) → Contains [] x → ⊥
nothing_in x c = omega (arith, c.1)

pub marks_none : (marks : List Bool) (waits : List ℕ) → Marks [] marks marks waits waits
marks_none marks waits = record {
  size = refl;
  count = refl;
  kept = λ j h. h;
  marked = λ j c. absurd (nothing_in j c);
  only = λ j h. inl h;
  waiting = λ j c. c;
  from = λ j c. inl c;
}

-- a number that is marked already
pub marks_old : (row : List ℕ) (to : ℕ) (old new : List Bool) (before after : List ℕ) → Marks row old new before after → is_marked new to ≡ true → Marks (row ++ to ∷ []) old new before after
marks_old row to old new before after m h = record {
  size = m.size;
  count = m.count;
  kept = m.kept;
  marked = λ j c. by j (Contains-push_cases row to j c);
  only = λ j k. only j (m.only j k);
  waiting = m.waiting;
  from = λ j c. from j (m.from j c);
}
  where
    by : (j : ℕ) → Contains row j ⊎ (to ≡ j) → is_marked new j ≡ true
    by j (inl c) = m.marked j c
    by j (inr e) = subst (λ i. is_marked new i ≡ true) e h

    only : (j : ℕ) → (is_marked old j ≡ true) ⊎ (Contains row j × Contains after j) → (is_marked old j ≡ true) ⊎ (Contains (row ++ to ∷ []) j × Contains after j)
    only j (inl k) = inl k
    only j (inr (c, d)) = inr (Contains-append_left row (to ∷ []) j c, d)

    from : (j : ℕ) → Contains before j ⊎ Contains row j → Contains before j ⊎ Contains (row ++ to ∷ []) j
    from j (inl c) = inl c
    from j (inr c) = inr (Contains-append_left row (to ∷ []) j c)

marked_set : (marks : List Bool) (to j : ℕ) → is_marked marks j ≡ true → is_marked (set marks to true) j ≡ true
marked_set [] to j h = h
marked_set (m ∷ ms) zero zero h = refl
marked_set (m ∷ ms) zero (suc j) h = h
marked_set (m ∷ ms) (suc i) zero h = h
marked_set (m ∷ ms) (suc i) (suc j) h = marked_set ms i j h

pub marked_here : (marks : List Bool) (to : ℕ) → to < length marks → is_marked (set marks to true) to ≡ true
marked_here [] to h = absurd (omega (arith, h))
marked_here (m ∷ ms) zero h = refl
marked_here (m ∷ ms) (suc i) h = marked_here ms i (omega (arith, h))

pub marked_before : (marks : List Bool) (to j : ℕ) → is_marked (set marks to true) j ≡ true → (is_marked marks j ≡ true) ⊎ (to ≡ j)
marked_before [] to j h = inl h
marked_before (m ∷ ms) zero zero h = inr refl
marked_before (m ∷ ms) zero (suc j) h = inl h
marked_before (m ∷ ms) (suc i) zero h = inl h
marked_before (m ∷ ms) (suc i) (suc j) h = by (marked_before ms i j h)
  where
    by : (is_marked ms j ≡ true) ⊎ (i ≡ j) → (is_marked ms j ≡ true) ⊎ (suc i ≡ suc j)
    by (inl k) = inl k
    by (inr e) = inr (ap (λ n. suc n) e)

pub one_less : (marks : List Bool) (to : ℕ) → to < length marks → is_marked marks to ≡ false → unmarked (set marks to true) + 1 ≡ unmarked marks
one_less marks to h e =
    let cost : Bool → ℕ = λ m. if m then 0 else 1 in
    let all = sum_by-set cost marks to true false h in
    let one : cost (get_or marks to false) ≡ 1 = ap cost e in
    omega (arith, all, one)

pub marks_new : (row : List ℕ) (to : ℕ) (old new : List Bool) (before after : List ℕ) → Marks row old new before after → is_marked new to ≡ false → to < length new
    → Marks (row ++ to ∷ []) old (set new to true) before (after ++ to ∷ [])
marks_new row to old new before after m h within = record {
  size = length-set new to true ∙ m.size;
  count = omega (arith, one_less new to within h, m.count, length-append after (to ∷ []));
  kept = λ j k. marked_set new to j (m.kept j k);
  marked = λ j c. by j (Contains-push_cases row to j c);
  only = λ j k. only j (marked_before new to j k);
  waiting = λ j c. Contains-append_left after (to ∷ []) j (m.waiting j c);
  from = λ j c. from j (Contains-push_cases after to j c);
}
  where
    by : (j : ℕ) → Contains row j ⊎ (to ≡ j) → is_marked (set new to true) j ≡ true
    by j (inl c) = marked_set new to j (m.marked j c)
    by j (inr e) = subst (λ i. is_marked (set new to true) i ≡ true) e (marked_here new to within)

    only : (j : ℕ) → (is_marked new j ≡ true) ⊎ (to ≡ j) → (is_marked old j ≡ true) ⊎ (Contains (row ++ to ∷ []) j × Contains (after ++ to ∷ []) j)
    only j (inl k) = further_back (m.only j k)
      where
        further_back : (is_marked old j ≡ true) ⊎ (Contains row j × Contains after j) → (is_marked old j ≡ true) ⊎ (Contains (row ++ to ∷ []) j × Contains (after ++ to ∷ []) j)
        further_back (inl k) = inl k
        further_back (inr (c, d)) = inr (Contains-append_left row (to ∷ []) j c, Contains-append_left after (to ∷ []) j d)
    only j (inr e) = inr (subst (Contains (row ++ to ∷ [])) e (Contains-push row to), subst (Contains (after ++ to ∷ [])) e (Contains-push after to))

    from : (j : ℕ) → Contains after j ⊎ (to ≡ j) → Contains before j ⊎ Contains (row ++ to ∷ []) j
    from j (inl c) = again (m.from j c)
      where
        again : Contains before j ⊎ Contains row j → Contains before j ⊎ Contains (row ++ to ∷ []) j
        again (inl c) = inl c
        again (inr c) = inr (Contains-append_left row (to ∷ []) j c)
    from j (inr e) = inr (subst (Contains (row ++ to ∷ [])) e (Contains-push row to))

-- what is marked is reached, and leads to what is marked unless it waits
pub record IsWalked (rows : List (List ℕ)) (from : ℕ) (marks : List Bool) (waits : List ℕ) : Type 0 where
  pub size : length marks ≡ length rows
  pub start : is_marked marks from ≡ true
  pub sound : (j : ℕ) → is_marked marks j ≡ true → Leads rows from j
  pub closed : (j : ℕ) → is_marked marks j ≡ true → Contains waits j ⊎ ((i : ℕ) → Edge rows j i → is_marked marks i ≡ true)
  pub waiting : (j : ℕ) → Contains waits j → is_marked marks j ≡ true

leads_on : (rows : List (List ℕ)) (from j i : ℕ) → Leads rows from j → Edge rows j i → Leads rows from i
leads_on rows from j i (inl e) a = inr (edge (subst (λ k. Edge rows k i) e a))
leads_on rows from j i (inr p) a = inr (further p a)

pub none_marked : (n j : ℕ) → is_marked (replicate n false) j ≡ true → ⊥
none_marked zero j h = false≢true h
none_marked (suc n) zero h = false≢true h
none_marked (suc n) (suc j) h = none_marked n j h

pub walked_first : (rows : List (List ℕ)) (from : ℕ) → from < length rows → IsWalked rows from (set (replicate (length rows) false) from true) (from ∷ [])
walked_first rows from h = record {
  size = length-set marks from true ∙ sizes (length rows);
  start = marked_here marks from (subst (λ n. from < n) (sym (sizes (length rows))) h);
  sound = λ j k. inl (sym (only j k));
  closed = λ j k. inl (subst (Contains (from ∷ [])) (only j k) (Contains-push [] from));
  waiting = λ j c. subst (λ i. is_marked (set marks from true) i ≡ true) (is_from j (Contains-push_cases [] from j c)) (marked_here marks from (subst (λ n. from < n) (sym (sizes (length rows))) h));
}
  where
    marks : List Bool
    marks = replicate (length rows) false

    sizes : (n : ℕ) → length (replicate n false) ≡ n
    sizes zero = refl
    sizes (suc n) = ap (λ k. suc k) (sizes n)

    only : (j : ℕ) → is_marked (set marks from true) j ≡ true → from ≡ j
    only j k = by (marked_before marks from j k)
      where
        by : (is_marked marks j ≡ true) ⊎ (from ≡ j) → from ≡ j
        by (inl h) = absurd (none_marked (length rows) j h)
        by (inr e) = e

    is_from : (j : ℕ) → Contains [] j ⊎ (from ≡ j) → from ≡ j
    is_from j (inl c) = absurd (nothing_in j c)
    is_from j (inr e) = e

pub walked_more : (rows : List (List ℕ)) (from number : ℕ) (marks new : List Bool) (rest waits after : List ℕ) → waits ≡ rest ++ number ∷ []
    → IsWalked rows from marks waits → Marks (get_or rows number []) marks new rest after → IsWalked rows from new after
walked_more rows from number marks new rest waits after e w m = record {
  size = m.size ∙ w.size;
  start = m.kept from w.start;
  sound = λ j k. sound j (m.only j k);
  closed = λ j k. closed j (m.only j k);
  waiting = λ j c. waiting j (m.from j c);
}
  where
    here : is_marked marks number ≡ true
    here = w.waiting number (subst (λ z. Contains z number) (sym e) (Contains-push rest number))

    row : List ℕ
    row = get_or rows number []

    sound : (j : ℕ) → (is_marked marks j ≡ true) ⊎ (Contains row j × Contains after j) → Leads rows from j
    sound j (inl k) = w.sound j k
    sound j (inr (c, d)) = leads_on rows from number j (w.sound number here) c

    old : (j : ℕ) → Contains waits j ⊎ ((i : ℕ) → Edge rows j i → is_marked marks i ≡ true) → Contains after j ⊎ ((i : ℕ) → Edge rows j i → is_marked new i ≡ true)
    old j (inl c) = by (Contains-push_cases rest number j (subst (λ z. Contains z j) e c))
      where
        by : Contains rest j ⊎ (number ≡ j) → Contains after j ⊎ ((i : ℕ) → Edge rows j i → is_marked new i ≡ true)
        by (inl d) = inl (m.waiting j d)
        by (inr is) = inr (λ i a. m.marked i (subst (λ k. Edge rows k i) (sym is) a))
    old j (inr f) = inr (λ i a. m.kept i (f i a))

    closed : (j : ℕ) → (is_marked marks j ≡ true) ⊎ (Contains row j × Contains after j) → Contains after j ⊎ ((i : ℕ) → Edge rows j i → is_marked new i ≡ true)
    closed j (inl k) = old j (w.closed j k)
    closed j (inr (c, d)) = inl d

    waiting : (j : ℕ) → Contains rest j ⊎ Contains row j → is_marked new j ≡ true
    waiting j (inl c) = m.kept j (w.waiting j (subst (λ z. Contains z j) (sym e) (Contains-append_left rest (number ∷ []) j c)))
    waiting j (inr c) = m.marked j c

pub walked_all : (rows : List (List ℕ)) (from : ℕ) (marks : List Bool) → IsWalked rows from marks [] → IsReached rows from marks
walked_all rows from marks w = record { size = w.size; exact = λ j. (w.sound j, back j) }
  where
    next : (k i : ℕ) → is_marked marks k ≡ true → Edge rows k i → is_marked marks i ≡ true
    next k i h a = by (w.closed k h)
      where
        by : Contains [] k ⊎ ((i : ℕ) → Edge rows k i → is_marked marks i ≡ true) → is_marked marks i ≡ true
        by (inl c) = absurd (nothing_in k c)
        by (inr f) = f i a

    along : {k j : ℕ} → Path rows k j → is_marked marks k ≡ true → is_marked marks j ≡ true
    along (edge {k = k} {j = j} a) h = next k j h a
    along (further {j = j} {i = i} p a) h = next j i (along p h) a

    back : (j : ℕ) → Leads rows from j → is_marked marks j ≡ true
    back j (inl e) = subst (λ i. is_marked marks i ≡ true) (sym e) w.start
    back j (inr p) = along p w.start

pub marks_more : (row : List ℕ) (i : ℕ) (old new : List Bool) (before after : List ℕ) → i < length row → All (λ j. j < length old) row → Marks (take i row) old new before after
    → ((is_marked new (get_or row i 0) ≡ true) → Marks (take (i + 1) row) old new before after)
    × ((is_marked new (get_or row i 0) ≡ false) → Marks (take (i + 1) row) old (set new (get_or row i 0) true) before (after ++ get_or row i 0 ∷ []))
marks_more row i old new before after small within m =
    let to = get_or row i 0 in
    let more : take (i + 1) row ≡ take i row ++ to ∷ [] = take_more row i 0 small in
    let inside : to < length new = subst (λ n. to < n) (sym m.size) (within i 0 small) in (
      λ h. subst (λ z. Marks z old new before after) (sym more) (marks_old (take i row) to old new before after m h),
      λ h. subst (λ z. Marks z old (set new to true) before (after ++ to ∷ [])) (sym more) (marks_new (take i row) to old new before after m h inside),
    )

pub row_at : (rows : List (Bor (List ℕ))) (number : ℕ) (d : Bor (List ℕ)) → number < length rows → get_or (rows_of rows) number [] ≡ (get_or rows number d).now
row_at [] number d h = absurd (omega (arith, h))
row_at (r ∷ rows) zero d h = refl
row_at (r ∷ rows) (suc n) d h = row_at rows n d (omega (arith, h))

pub count_rows : (rows : List (Bor (List ℕ))) → length (rows_of rows) ≡ length rows
count_rows [] = refl
count_rows (r ∷ rows) = ap (λ n. suc n) (count_rows rows)

pub row_within : (rows : List (Bor (List ℕ))) (number size : ℕ) (d : Bor (List ℕ)) → number < length rows → size ≡ length rows → IsGraph (rows_of rows) → All (λ j. j < size) (get_or rows number d).now
row_within rows number size d small same graph k e h =
    let row : get_or (rows_of rows) number [] ≡ (get_or rows number d).now = row_at rows number d small in
    subst (λ n. get_or (get_or rows number d).now k e < n) (count_rows rows ∙ sym same)
    (graph number (get_or (get_or rows number d).now k e) (subst (λ z. Contains z (get_or (get_or rows number d).now k e)) (sym row) (Contains-get_or (get_or rows number d).now k e h)))

pub number_within : (rows : List (Bor (List ℕ))) (from number : ℕ) (marks : List Bool) (rest waits : List ℕ) → waits ≡ rest ++ number ∷ [] → IsWalked (rows_of rows) from marks waits → number < length rows
number_within rows from number marks rest waits e w =
    let k = marked_within marks number (w.waiting number (subst (λ z. Contains z number) (sym e) (Contains-push rest number))) in
    omega (arith, k, w.size, count_rows rows)

pub marks_by : {row : List ℕ} {old new new' : List Bool} {before after after' : List ℕ} → new' ≡ new → after' ≡ after → Marks row old new before after → Marks row old new' before after'
marks_by {row} {old} {new} {new'} {before} {after} {after'} e f m = subst (λ z. Marks row old z before after') (sym e) (subst (λ z. Marks row old new before z) (sym f) m)

pub none_left : {X : Type 0} (xs : List X) → length xs ≡ 0 → xs ≡ []
none_left [] e = refl
none_left (x ∷ xs) e = absurd (omega (arith, e))

-- at first the number itself waits, and nothing else is marked
pub walked_init : (rows : List (Bor (List ℕ))) (from : ℕ) (marks : List Bool) (none waits : List ℕ) → from < length rows → marks ≡ replicate (length rows) false → none ≡ [] → waits ≡ none ++ from ∷ []
    → IsWalked (rows_of rows) from (set marks from true) waits
walked_init rows from marks none waits low all empty pushed =
    let count = count_rows rows in
    subst (IsWalked (rows_of rows) from (set marks from true)) (sym (pushed ∙ ap (λ w. w ++ from ∷ []) empty))
    (subst (λ w. IsWalked (rows_of rows) from (set w from true) (from ∷ [])) (sym (all ∙ ap (λ n. replicate n false) (sym count)))
    (walked_first (rows_of rows) from (subst (λ n. from < n) (sym count) low)))
