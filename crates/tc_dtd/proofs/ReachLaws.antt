-- The elements that are reached are those to which the links lead.
use Rattle.std.proofs.Common.{Bor, ◌≡◌, ◌⊎◌, inl, inr, ◌+◌, ◌<◌, ◌≤◌, ◌↔◌, ℕ, zero, suc, Bool, true, false, cond, List, [], ◌∷◌, ◌++◌, refl, ap, ◌∙◌, sym, subst, arith, Option, Some, None, map, length, bytes_eq, slice_get, slice_index_or}
use Rattle.std.specs.List.{Contains, filter_map}
use Rattle.std.proofs.lemmas.List.{length-map, length-append}
use Rattle.std.proofs.lemmas.List.Elements.{Contains-append_left, Contains-push, Contains-push_cases}
use Rattle.tc_graph.specs.Graph.{rows_of, Edge, IsGraph, Path, edge, further, Leads, is_marked, IsReached as IsMarked}
use Rattle.tc_dtd.specs.Declarations.{Content, nothing, anything, mixed, children, Declaration, declared, names_in}
use Rattle.tc_dtd.specs.DtdGrammar.{mentioned, IsReached, at_root, within, Keeps, keeps_none, keeps, leaves}
use Rattle.tc_dtd.specs.Numbers.{AreApart, number_in, names_of, numbers_below, row_of, link_rows, marked_from}
use Rattle.tc_dtd.proofs.NamedLaws.{in_cons, in_first, in_rest, in_none, declared_name, bytes_same}
use Rattle.tc_dtd.proofs.NumberLaws.{At, at_number, has_place, number_at, declared_at}

some_same : {A : Type 0} {a b : A} → Some a ≡ Some b → a ≡ b
some_same {a = a} {b = b} e = cc

-- numbers of names

numbered_in : (ns ms : List (List ℕ)) (j : ℕ) → Contains (filter_map (number_in ns) ms) j → (m : List ℕ) × Contains ms m × (number_in ns m ≡ Some j)
numbered_in ns [] j h = absurd (in_none j h)
numbered_in ns (m ∷ ms) j h = by (λ k. numbered_in ns ms j k) (number_in ns m) refl h
  where
    later : (l : List ℕ) × Contains ms l × (number_in ns l ≡ Some j) → (l : List ℕ) × Contains (m ∷ ms) l × (number_in ns l ≡ Some j)
    later (l, i, e) = (l, in_rest m ms l i, e)

    by : (Contains (filter_map (number_in ns) ms) j → (l : List ℕ) × Contains ms l × (number_in ns l ≡ Some j)) → (o : Option ℕ) → number_in ns m ≡ o → Contains (filter_map (number_in ns) (m ∷ ms)) j
        → (l : List ℕ) × Contains (m ∷ ms) l × (number_in ns l ≡ Some j)
    by rec (Some k) e h =
        let here : Contains (k ∷ filter_map (number_in ns) ms) j = rw e at h in
        elim (in_cons k (filter_map (number_in ns) ms) j here) [ inl i ↦ (m, in_first m ms, e ∙ ap Some i) | inr i ↦ later (rec i) ]
    by rec None e h = let here : Contains (filter_map (number_in ns) ms) j = rw e at h in later (rec here)

in_numbers : (ns ms : List (List ℕ)) (m : List ℕ) (j : ℕ) → Contains ms m → number_in ns m ≡ Some j → Contains (filter_map (number_in ns) ms) j
in_numbers ns [] m j h e = absurd (in_none m h)
in_numbers ns (l ∷ ms) m j h e = by (λ k. in_numbers ns ms m j k e) (in_cons l ms m h) (number_in ns l) refl
  where
    by : (Contains ms m → Contains (filter_map (number_in ns) ms) j) → (l ≡ m) ⊎ Contains ms m → (o : Option ℕ) → number_in ns l ≡ o → Contains (filter_map (number_in ns) (l ∷ ms)) j
    by rec (inl i) (Some k) f =
        let same : k ≡ j = some_same (sym f ∙ (ap (number_in ns) i ∙ e)) in
        rw f (subst (λ z. Contains (k ∷ filter_map (number_in ns) ms) z) same (in_first k (filter_map (number_in ns) ms)))
    by rec (inl i) None f = let none : None ≡ Some j = sym f ∙ (ap (number_in ns) i ∙ e) in absurd (cc)
    by rec (inr i) (Some k) f = rw f (in_rest k (filter_map (number_in ns) ms) j (rec i))
    by rec (inr i) None f = rw f (rec i)

below : (n j : ℕ) → Contains (numbers_below n) j → j < n
below zero j h = absurd (in_none j h)
below (suc n) j h = elim (Contains-push_cases (numbers_below n) n j h) [ inl i ↦ (let k = below n j i in omega (arith, k)) | inr i ↦ omega (arith, i) ]

in_below : (n j : ℕ) → j < n → Contains (numbers_below n) j
in_below zero j h = absurd (omega (arith, h))
in_below (suc n) j h = by (λ k. in_below n j k) (cases j n h)
  where
    cases : (j n : ℕ) → j < suc n → (n ≡ j) ⊎ (j < n)
    cases zero zero h = inl refl
    cases zero (suc n) h = inr (omega arith)
    cases (suc j) zero h = absurd (omega (arith, h))
    cases (suc j) (suc n) h = elim (cases j n (omega (arith, h))) [ inl e ↦ inl (ap suc e) | inr k ↦ inr (omega (arith, k)) ]

    by : (j < n → Contains (numbers_below n) j) → (n ≡ j) ⊎ (j < n) → Contains (numbers_below (suc n)) j
    by rec (inl e) = subst (λ z. Contains (numbers_below n ++ n ∷ []) z) e (Contains-push (numbers_below n) n)
    by rec (inr k) = Contains-append_left (numbers_below n) (n ∷ []) j (rec k)

get_within : (xs : List Declaration) (k : ℕ) → k < length xs → (x : Declaration) × (slice_get xs k ≡ Some x)
get_within [] k h = absurd (omega (arith, h))
get_within (x ∷ xs) zero h = (x, refl)
get_within (x ∷ xs) (suc k) h = get_within xs k (omega (arith, h))

-- rows

row_at : (f : Declaration → List ℕ) (xs : List Declaration) (ys : List (List ℕ)) (k : ℕ) (x : Declaration) → slice_get xs k ≡ Some x → slice_index_or (map f xs ++ ys) k [] ≡ f x
row_at f [] ys k x e = absurd (cc)
row_at f (y ∷ xs) ys zero x e = ap f (some_same e)
row_at f (y ∷ xs) ys (suc k) x e = row_at f xs ys k x e

row_last : (f : Declaration → List ℕ) (xs : List Declaration) (r : List ℕ) → slice_index_or (map f xs ++ r ∷ []) (length xs) [] ≡ r
row_last f [] r = refl
row_last f (x ∷ xs) r = row_last f xs r

row_past : (f : Declaration → List ℕ) (xs : List Declaration) (r : List ℕ) (k : ℕ) → length xs < k → slice_index_or (map f xs ++ r ∷ []) k [] ≡ []
row_past f [] r zero h = absurd (omega (arith, h))
row_past f [] r (suc k) h = refl
row_past f (x ∷ xs) r zero h = absurd (omega (arith, h))
row_past f (x ∷ xs) r (suc k) h = row_past f xs r k (omega (arith, h))

split_at : (k n : ℕ) → (k < n) ⊎ ((k ≡ n) ⊎ (n < k))
split_at zero zero = inr (inl refl)
split_at zero (suc n) = inl (omega arith)
split_at (suc k) zero = inr (inr (omega arith))
split_at (suc k) (suc n) = elim (split_at k n) [ inl h ↦ inl (omega (arith, h)) | inr s ↦ (elim s [ inl e ↦ inr (inl (ap suc e)) | inr h ↦ inr (inr (omega (arith, h))) ]) ]

module _ (dtd : List Declaration) (apart : AreApart (names_of dtd)) where
  abbrev rows : List (List ℕ)
  rows = link_rows dtd

  abbrev row : Declaration → List ℕ
  row x = row_of (names_of dtd) x.content

  abbrev many : ℕ
  many = length dtd

  edge_of : (k j : ℕ) (x : Declaration) → slice_get dtd k ≡ Some x → Edge rows k j → Contains (row x) j
  edge_of k j x e h = subst (λ r. Contains r j) (row_at row dtd (numbers_below many ∷ []) k x e) h

  edge_from : (k j : ℕ) (x : Declaration) → slice_get dtd k ≡ Some x → Contains (row x) j → Edge rows k j
  edge_from k j x e h = subst (λ r. Contains r j) (sym (row_at row dtd (numbers_below many ∷ []) k x e)) h

  count_names : length (names_of dtd) ≡ length dtd
  count_names = length-map dtd (λ x. x.name)

  row_within : (x : Declaration) (j : ℕ) → Contains (row x) j → j ≤ many
  row_within x j h = by x.content h
    where
      of_names : (ms : List (List ℕ)) → Contains (filter_map (number_in (names_of dtd)) ms) j → j ≤ many
      of_names ms i = let (m, k, e) = numbered_in (names_of dtd) ms j i in let r = at_number dtd m j e in omega (arith, r.within)

      by : (c : Content) → Contains (row_of (names_of dtd) c) j → j ≤ many
      by nothing i = absurd (in_none j i)
      by anything i = elim (in_cons (length (names_of dtd)) [] j i) [ inl e ↦ omega (arith, e, count_names) | inr k ↦ absurd (in_none j k) ]
      by (mixed ms) i = of_names ms i
      by (children p) i = of_names (names_in p) i

  pub is_graph : IsGraph rows
  is_graph k j h = by (split_at k many)
    where
      size : length rows ≡ many + 1
      size = omega (arith, length-append (map row dtd) (numbers_below many ∷ []), length-map dtd row)

      by : (k < many) ⊎ ((k ≡ many) ⊎ (many < k)) → j < length rows
      by (inl l) = let (x, e) = get_within dtd k l in let w = row_within x j (edge_of k j x e h) in omega (arith, size, w)
      by (inr (inl e)) =
          let i : Contains (numbers_below many) j = subst (λ r. Contains r j) (ap (λ n. slice_index_or rows n []) e ∙ row_last row dtd (numbers_below many)) h in
          let w = below many j i in omega (arith, size, w)
      by (inr (inr l)) = absurd (in_none j (subst (λ r. Contains r j) (row_past row dtd (numbers_below many) k l) h))

  module _ (root : List ℕ) (from : ℕ) (start : number_in (names_of dtd) root ≡ Some from) where
    -- what it means that a number is reached
    abbrev Means : ℕ → Type 0
    Means j = ((x : Declaration) × (slice_get dtd j ≡ Some x) × IsReached dtd root x.name) ⊎ ((j ≡ many) × ((m : List ℕ) × IsReached dtd root m × (declared dtd m ≡ Some anything)))

    a_name : (n m : List ℕ) (c : Content) (j : ℕ) → IsReached dtd root n → declared dtd n ≡ Some c → Contains (mentioned dtd c) m → number_in (names_of dtd) m ≡ Some j → Means j
    a_name n m c j r e i f = let a = at_number dtd m j f in inl (a.x, a.stands, subst (IsReached dtd root) (sym a.named) (within r e i))

    step : (k j : ℕ) → Means k → Edge rows k j → Means j
    step k j (inl (x, e, r)) h = by x.content refl (edge_of k j x e h)
      where
        of : (c : Content) → x.content ≡ c → declared dtd x.name ≡ Some c
        of c i = declared_at dtd k x apart e ∙ ap Some i

        by : (c : Content) → x.content ≡ c → Contains (row_of (names_of dtd) c) j → Means j
        by nothing i l = absurd (in_none j l)
        by anything i l = elim (in_cons (length (names_of dtd)) [] j l) [ inl f ↦ inr ((sym f ∙ count_names), (x.name, r, of anything i)) | inr f ↦ absurd (in_none j f) ]
        by (mixed ms) i l = let (m, at, f) = numbered_in (names_of dtd) ms j l in a_name x.name m (mixed ms) j r (of (mixed ms) i) at f
        by (children p) i l = let (m, at, f) = numbered_in (names_of dtd) (names_in p) j l in a_name x.name m (children p) j r (of (children p) i) at f
    step k j (inr (e, (m, r, f))) h =
        let i : Contains (numbers_below many) j = subst (λ z. Contains z j) (ap (λ n. slice_index_or rows n []) e ∙ row_last row dtd (numbers_below many)) h in
        let (x, at) = get_within dtd j (below many j i) in
        inl (x, at, within r f (declared_name dtd x.name x.content (declared_at dtd j x apart at)))

    begins : Means from
    begins = let a = at_number dtd root from start in inl (a.x, a.stands, subst (IsReached dtd root) (sym a.named) at_root)

    path_means : (k j : ℕ) → Means k → Path rows k j → Means j
    path_means k j m (edge h) = step k j m h
    path_means k j m (further {j = i} p h) = step i j (path_means k i m p) h

    leads_means : (j : ℕ) → Leads rows from j → Means j
    leads_means j (inl e) = subst Means (sym e) begins
    leads_means j (inr p) = path_means from j begins p

    leads_on : (k j : ℕ) → Leads rows from k → Edge rows k j → Leads rows from j
    leads_on k j (inl e) h = inr (edge (subst (λ z. Edge rows z j) e h))
    leads_on k j (inr p) h = inr (further p h)

    onward : (m n : List ℕ) (c : Content) (k : ℕ) → declared dtd m ≡ Some c → Contains (mentioned dtd c) n → number_in (names_of dtd) n ≡ Some k
        → ((j : ℕ) → number_in (names_of dtd) m ≡ Some j → Leads rows from j) → Leads rows from k
    onward m n c k f i e rec = by c f i
      where
        there : (j : ℕ) × (number_in (names_of dtd) m ≡ Some j)
        there = has_place dtd m c f

        before : Leads rows from there.0
        before = rec there.0 there.1

        at : At dtd m there.0
        at = at_number dtd m there.0 there.1

        content_is : (x : Content) → declared dtd m ≡ Some x → at.x.content ≡ x
        content_is x g = some_same (sym at.is_declared ∙ g)

        link : (x : Content) → declared dtd m ≡ Some x → (j : ℕ) → Contains (row_of (names_of dtd) x) j → Edge rows there.0 j
        link x g j h = edge_from there.0 j at.x at.stands (subst (λ z. Contains (row_of (names_of dtd) z) j) (sym (content_is x g)) h)

        last : Edge rows many k
        last =
            let a = at_number dtd n k e in
            subst (λ z. Contains z k) (sym (row_last row dtd (numbers_below many))) (in_below many k a.within)

        by : (x : Content) → declared dtd m ≡ Some x → Contains (mentioned dtd x) n → Leads rows from k
        by nothing g h = absurd (in_none n h)
        by anything g h =
            leads_on many k (leads_on there.0 many before (link anything g many (subst (λ z. Contains (z ∷ []) many) (sym count_names) (in_first many [])))) last
        by (mixed ms) g h = leads_on there.0 k before (link (mixed ms) g k (in_numbers (names_of dtd) ms n k h e))
        by (children p) g h = leads_on there.0 k before (link (children p) g k (in_numbers (names_of dtd) (names_in p) n k h e))

    leads_to : (n : List ℕ) (k : ℕ) → IsReached dtd root n → number_in (names_of dtd) n ≡ Some k → Leads rows from k
    leads_to n k at_root e = inl (some_same (sym e ∙ start))
    leads_to n k (within {n = m} {c = c} r f i) e = onward m n c k f i e (λ j h. leads_to m j r h)

    -- marks are exact
    pub marked_reached : (marks : List Bool) → IsMarked rows from marks → (j : ℕ) (x : Declaration) → slice_get dtd j ≡ Some x → (is_marked marks j ≡ true) ↔ IsReached dtd root x.name
    marked_reached marks m j x e =
        ((λ h. by (leads_means j ((m.exact j).0 h))), (λ r. (m.exact j).1 (leads_to x.name j r (number_at dtd j x apart e))))
      where
        by : Means j → IsReached dtd root x.name
        by (inl (y, f, r)) = let same : y ≡ x = some_same (sym f ∙ e) in subst (λ (z : Declaration). IsReached dtd root z.name) same r
        by (inr (f, r)) = absurd (none dtd many refl (subst (λ k. slice_get dtd k ≡ Some x) f e))
          where
            none : (xs : List Declaration) (k : ℕ) → k ≡ length xs → slice_get xs k ≡ Some x → ⊥
            none [] k i g = cc
            none (z ∷ zs) zero i g = omega (arith, i)
            none (z ∷ zs) (suc k) i g = none zs k (omega (arith, i)) g

-- what is marked is kept

keeps_marked : (dtd : List Declaration) (root : List ℕ) (marks : List Bool) (k : ℕ) (xs : List Declaration)
    → ((j : ℕ) (x : Declaration) → slice_get xs j ≡ Some x → (is_marked marks (k + j) ≡ true) ↔ IsReached dtd root x.name) → Keeps dtd root xs (marked_from k marks xs)
keeps_marked dtd root marks k [] h = keeps_none
keeps_marked dtd root marks k (x ∷ xs) h =
    by (is_marked marks k) refl (keeps_marked dtd root marks (k + 1) xs (λ j y e. subst (λ n. (is_marked marks n ≡ true) ↔ IsReached dtd root y.name) (next k j) (h (suc j) y e)))
  where
    next : (k j : ℕ) → k + suc j ≡ (k + 1) + j
    next k j = omega arith

    here : (is_marked marks k ≡ true) ↔ IsReached dtd root x.name
    here = let z : k + 0 ≡ k = omega arith in subst (λ n. (is_marked marks n ≡ true) ↔ IsReached dtd root x.name) z (h 0 x refl)

    by : (b : Bool) → is_marked marks k ≡ b → Keeps dtd root xs (marked_from (k + 1) marks xs) → Keeps dtd root (x ∷ xs) (marked_from k marks (x ∷ xs))
    by true e rest =
        subst (λ b. Keeps dtd root (x ∷ xs) (cond b (x ∷ marked_from (k + 1) marks xs) (marked_from (k + 1) marks xs))) (sym e) (keeps (here.0 e) rest)
    by false e rest =
        subst (λ b. Keeps dtd root (x ∷ xs) (cond b (x ∷ marked_from (k + 1) marks xs) (marked_from (k + 1) marks xs))) (sym e) (leaves (λ r. let t = here.1 r in cc) rest)

pub keeps_reached : (dtd : List Declaration) (root : List ℕ) (from : ℕ) (marks : List Bool) → AreApart (names_of dtd) → number_in (names_of dtd) root ≡ Some from → IsMarked (link_rows dtd) from marks
    → Keeps dtd root dtd (marked_from 0 marks dtd)
keeps_reached dtd root from marks apart start m =
    keeps_marked dtd root marks 0 dtd (λ j x e. let z : j ≡ 0 + j = omega arith in subst (λ n. (is_marked marks n ≡ true) ↔ IsReached dtd root x.name) z (marked_reached dtd apart root from start marks m j x e))

-- from an element that isn't declared nothing is reached

only_root : (dtd : List Declaration) (root n : List ℕ) → number_in (names_of dtd) root ≡ None → IsReached dtd root n → n ≡ root
only_root dtd root n none at_root = refl
only_root dtd root n none (within {n = m} {c = c} r f i) =
    let same = only_root dtd root m none r in
    let (k, e) = has_place dtd root c (subst (λ z. declared dtd z ≡ Some c) same f) in
    let both : None ≡ Some k = sym none ∙ e in absurd (cc)

pub keeps_nothing : (dtd : List Declaration) (root : List ℕ) → number_in (names_of dtd) root ≡ None → Keeps dtd root dtd []
keeps_nothing dtd root none = by dtd (λ x i r. not_here x i (only_root dtd root x.name none r))
  where
    in_place : (xs : List Declaration) (n : List ℕ) → Contains (names_of xs) n → (k : ℕ) × (number_in (names_of xs) n ≡ Some k)
    in_place [] n i = absurd (in_none n i)
    in_place (y ∷ ys) n i = at (bytes_eq y.name n) refl (in_cons y.name (names_of ys) n i) (λ h. in_place ys n h)
      where
        at : (t : Bool) → bytes_eq y.name n ≡ t → (y.name ≡ n) ⊎ Contains (names_of ys) n → (Contains (names_of ys) n → (k : ℕ) × (number_in (names_of ys) n ≡ Some k)) → (k : ℕ) × (number_in (names_of (y ∷ ys)) n ≡ Some k)
        at true b h rec = (0, rw b refl)
        at false b (inl h) rec = let t = bytes_same y.name n h in absurd (cc)
        at false b (inr h) rec = let (k, e) = rec h in (k + 1, rw (b, e) refl)

    not_here : (x : Declaration) → Contains (names_of dtd) x.name → x.name ≡ root → ⊥
    not_here x i e = let (k, f) = in_place dtd root (subst (Contains (names_of dtd)) e i) in let both : None ≡ Some k = sym none ∙ f in cc

    by : (xs : List Declaration) → ((x : Declaration) → Contains (names_of xs) x.name → IsReached dtd root x.name → ⊥) → Keeps dtd root xs []
    by [] h = keeps_none
    by (x ∷ xs) h = leaves (h x (in_first x.name (names_of xs))) (by xs (λ y i. h y (in_rest x.name (names_of xs) y.name i)))

-- as code has it

count_rows : (dtd : List Declaration) → length (link_rows dtd) ≡ length dtd + 1
count_rows dtd = omega (arith, length-append (map (λ x. row_of (names_of dtd) x.content) dtd) (numbers_below (length dtd) ∷ []), length-map dtd (λ x. row_of (names_of dtd) x.content))

pub graph_of : (dtd : List Declaration) (rs : List (List ℕ)) → AreApart (names_of dtd) → rs ≡ link_rows dtd → IsGraph rs
graph_of dtd rs apart e = subst IsGraph (sym e) (is_graph dtd apart)

pub from_within : (dtd : List Declaration) (root : List ℕ) (from : ℕ) (rs : List (Bor (List ℕ))) → rows_of rs ≡ link_rows dtd → number_in (names_of dtd) root ≡ Some from → from < length rs
from_within dtd root from rs e i =
    let a = at_number dtd root from i in
    omega (arith, a.within, ap length e, count_rows dtd, length-map rs (λ r. r.now))

pub marks_cover : (dtd : List Declaration) (rs : List (List ℕ)) (from : ℕ) (marks : List Bool) → rs ≡ link_rows dtd → IsMarked rs from marks → length dtd ≤ length marks
marks_cover dtd rs from marks e m = omega (arith, m.size, ap length e, count_rows dtd)

pub kept_is : (dtd : List Declaration) (root : List ℕ) (from : ℕ) (marks : List Bool) (rs : List (List ℕ)) (kept : List Declaration) → AreApart (names_of dtd) → number_in (names_of dtd) root ≡ Some from
    → rs ≡ link_rows dtd → IsMarked rs from marks → kept ≡ marked_from 0 marks dtd → Keeps dtd root dtd kept
kept_is dtd root from marks rs kept apart start e m f =
    subst (Keeps dtd root dtd) (sym f) (keeps_reached dtd root from marks apart start (subst (λ r. IsMarked r from marks) e m))
