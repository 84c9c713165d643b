-- The elements that are reached, in order.
use Rattle.std.proofs.Common.{◌≡◌, ◌⊎◌, inl, inr, ℕ, ◌+◌, ◌<◌, ◌≤◌, Bool, true, false, cond, List, [], ◌∷◌, ◌++◌, refl, ap, ◌∙◌, sym, subst, arith, map, Option, None, Some, bytes_eq}
use Rattle.std.specs.List.{AllByRecursion, Contains, filter_map, list_any}
use Rattle.std.proofs.lemmas.Bool.{true≢false}
use Rattle.std.proofs.lemmas.List.{map-append}
use Rattle.std.proofs.lemmas.List.Elements.{filter_map-append}
use Rattle.tc_model.specs.CompactSyntaxTrees.{SyntaxClass, SyntaxPattern, empty, not_allowed, text, attribute, ref, element, mixed, optional, zero_or_more, one_or_more, group, choice, interleave, SyntaxPatterns, no_more, more, Definition, Syntax}
use Rattle.tc_model.specs.CompactSyntaxLawful.{places_in, places_in_all, places_of, AscendFrom}
use Rattle.tc_model.specs.Simplifies.{Element, AreAscending}
use Rattle.tc_model.specs.SimplifiesParts.{definitions_of, is_choice, bodies_of, joined_definitions, pattern_of, nodes_in, nodes_in_all, nodes_of, IsAmong, IsOpenPart, Reached}
use Rattle.tc_model.specs.SimplifiesParts as m
use Rattle.tc_model.proofs.SimplifiesUnique.{Has, here, there}
use Rattle.tc_model.proofs.CompactSyntaxClassesUnique.{same_some, some_none}
use Rattle.tc_rnc.specs.Views as see
use Rattle.tc_graph.specs.Graph.{Path, edge, further, Leads, is_marked}
use Rattle.tc_simple.specs.Nodes.{nodes, nodes_of_all, link_rows, element_of, elements_of, marked_elements, is_marked_name}
use Rattle.tc_simple.specs.Tables.{number_of}
use Rattle.tc_graph.specs.declared.cycles.State.{State}
use Rattle.tc_simple.specs.declared.groups.Table.{Table}
use Rattle.tc_simple.proofs.Gathering.{bytes_are, same_bytes}
use Rattle.tc_simple.proofs.Standing.{has_filter, filter_has, has_contains, has_left, has_right, has_cases, has_first, none_has, either, node_reached}
use Rattle.tc_simple.proofs.Reaching.{edge_out, named_is, pattern_reached, reached_at}
use Rattle.tc_simple.specs.Resolves.{Resolves}

no_value : {X Y : Type 0} {x : X} → None ≡ Some x → Y
no_value e = absurd (some_none e refl)

pub element_is : (q : SyntaxPattern) (e : Element) → element_of q ≡ Some e → q ≡ element e.place e.names e.content
element_is empty e is = no_value is
element_is not_allowed e is = no_value is
element_is text e is = no_value is
element_is attribute e is = no_value is
element_is (ref n place) e is = no_value is
element_is (element place c p) e is = ap (λ (z : Element). element z.place z.names z.content) (same_some refl is)
element_is (mixed p) e is = no_value is
element_is (optional p) e is = no_value is
element_is (zero_or_more p) e is = no_value is
element_is (one_or_more p) e is = no_value is
element_is (group ps) e is = no_value is
element_is (choice ps) e is = no_value is
element_is (interleave ps) e is = no_value is

-- a definition among those of its name
pub has_chosen : (n : List ℕ) (ds : List Definition) (d : Definition) → Has ds d → bytes_eq d.name n ≡ true → Has (definitions_of ds n) d
has_chosen n ds d h e = by h e
  where
    keep : (b : Bool) (x : Definition) (xs : List Definition) {d : Definition} → Has xs d → Has (cond b (x ∷ xs) xs) d
    keep true x xs k = there k
    keep false x xs k = k

    by : {ds : List Definition} {d : Definition} → Has ds d → bytes_eq d.name n ≡ true → Has (definitions_of ds n) d
    by (here {x = x} {xs = xs}) e = subst (λ b. Has (cond b (x ∷ definitions_of xs n) (definitions_of xs n)) x) (sym e) here
    by (there {y = y} {xs = xs} k) e = keep (bytes_eq y.name n) y (definitions_of xs n) (by k e)

pub chosen_has : (n : List ℕ) (ds : List Definition) (d : Definition) → Has (definitions_of ds n) d → Has ds d × (bytes_eq d.name n ≡ true)
chosen_has n [] d h = absurd (none_has h)
chosen_has n (x ∷ xs) d h = by (bytes_eq x.name n) refl h (λ k. chosen_has n xs d k)
  where
    first : bytes_eq x.name n ≡ true → (d ≡ x) ⊎ Has (definitions_of xs n) d → (Has (definitions_of xs n) d → Has xs d × (bytes_eq d.name n ≡ true)) → Has (x ∷ xs) d × (bytes_eq d.name n ≡ true)
    first e (inl is) f = (subst (λ z. Has (x ∷ xs) z) (sym is) here, ap (λ z. bytes_eq z.name n) is ∙ e)
    first e (inr k) f = let (a, b) = f k in (there a, b)

    by : (b : Bool) → bytes_eq x.name n ≡ b → Has (cond b (x ∷ definitions_of xs n) (definitions_of xs n)) d → (Has (definitions_of xs n) d → Has xs d × (bytes_eq d.name n ≡ true)) → Has (x ∷ xs) d × (bytes_eq d.name n ≡ true)
    by true e k f = first e (has_first k) f
    by false e k f = let (a, b) = f k in (there a, b)

among_bodies : {ds : List Definition} {d : Definition} → Has ds d → IsAmong (bodies_of ds) d.body
among_bodies here = inl refl
among_bodies (there k) = inr (among_bodies k)

-- the body of a definition in what its name stands for
pub body_part : (ds : List Definition) (d : Definition) (q : SyntaxPattern) → Has ds d → joined_definitions ds ≡ Some q → (d.body ≡ q) ⊎ IsOpenPart q d.body
body_part [] d q h e = absurd (none_has h)
body_part (x ∷ []) d q h e = inl (by (has_first h))
  where
    by : (d ≡ x) ⊎ Has [] d → d.body ≡ q
    by (inl is) = ap (λ z. z.body) is ∙ same_some refl e
    by (inr k) = absurd (none_has k)
body_part (x ∷ y ∷ zs) d q h e = inr (by (list_any (λ f. is_choice f.joins) (x ∷ y ∷ zs)) e)
  where
    by : (b : Bool) → Some (cond b (choice (bodies_of (x ∷ y ∷ zs))) (interleave (bodies_of (x ∷ y ∷ zs)))) ≡ Some q → IsOpenPart q d.body
    by true e = subst (λ z. IsOpenPart z d.body) (same_some refl e) (among_bodies h)
    by false e = subst (λ z. IsOpenPart z d.body) (same_some refl e) (among_bodies h)

in_bodies : (ds : List Definition) (q : SyntaxPattern) → Has (nodes_of_all true (bodies_of ds)) q → (d : Definition) × Has ds d × Has (nodes true d.body) q
in_bodies [] q h = absurd (none_has h)
in_bodies (d ∷ ds) q h =
    either (has_cases (nodes true d.body) (nodes_of_all true (bodies_of ds)) h) (λ k. (d, here, k)) (λ k. let (x, a, b) = in_bodies ds q k in (x, there a, b))

abbrev pub is_list : SyntaxPattern → Bool
is_list (choice ps) = true
is_list (interleave ps) = true
is_list _ = false

-- where what stands in what a name stands for is written
pub in_joined : (ds : List Definition) (q r : SyntaxPattern) → joined_definitions ds ≡ Some q → Has (nodes true q) r → is_list r ≡ false → (d : Definition) × Has ds d × Has (nodes true d.body) r
in_joined [] q r e h plain = no_value e
in_joined (x ∷ []) q r e h plain = (x, here, subst (λ z. Has (nodes true z) r) (sym (same_some refl e)) h)
in_joined (x ∷ y ∷ zs) q r e h plain = by (list_any (λ f. is_choice f.joins) (x ∷ y ∷ zs)) e
  where
    inside : (p : SyntaxPattern) → is_list p ≡ true → (r ≡ p) ⊎ Has (nodes_of_all true (bodies_of (x ∷ y ∷ zs))) r → (d : Definition) × Has (x ∷ y ∷ zs) d × Has (nodes true d.body) r
    inside p listed (inl is) = absurd (true≢false (sym listed ∙ (ap is_list (sym is) ∙ plain)))
    inside p listed (inr k) = in_bodies (x ∷ y ∷ zs) r k

    by : (b : Bool) → Some (cond b (choice (bodies_of (x ∷ y ∷ zs))) (interleave (bodies_of (x ∷ y ∷ zs)))) ≡ Some q → (d : Definition) × Has (x ∷ y ∷ zs) d × Has (nodes true d.body) r
    by true e = inside (choice (bodies_of (x ∷ y ∷ zs))) refl (has_first (subst (λ z. Has (nodes true z) r) (sym (same_some refl e)) h))
    by false e = inside (interleave (bodies_of (x ∷ y ∷ zs))) refl (has_first (subst (λ z. Has (nodes true z) r) (sym (same_some refl e)) h))

in_elements : (t : Table) (marks : List Bool) (ds : List Definition) (e : Element) → Has (elements_of t marks ds) e
    → (d : Definition) × Has ds d × (is_marked_name t marks d.name ≡ true) × Has (filter_map element_of (nodes true d.body)) e
in_elements t marks [] e h = absurd (none_has h)
in_elements t marks (d ∷ ds) e h =
    either (has_cases (marked_elements t marks d) (elements_of t marks ds) h) (λ k. by (is_marked_name t marks d.name) refl k) (λ k. let (x, a, b, c) = in_elements t marks ds e k in (x, there a, b, c))
  where
    by : (b : Bool) → is_marked_name t marks d.name ≡ b → Has (cond b (filter_map element_of (nodes true d.body)) []) e
        → (x : Definition) × Has (d ∷ ds) x × (is_marked_name t marks x.name ≡ true) × Has (filter_map element_of (nodes true x.body)) e
    by true m k = (d, here, m, k)
    by false m k = absurd (none_has k)

elements_in : (t : Table) (marks : List Bool) {ds : List Definition} {d : Definition} {e : Element} → Has ds d → is_marked_name t marks d.name ≡ true → Has (filter_map element_of (nodes true d.body)) e → Has (elements_of t marks ds) e
elements_in t marks {e = e} (here {x = d} {xs = ds}) m k =
    has_left (marked_elements t marks d) (elements_of t marks ds) (subst (λ b. Has (cond b (filter_map element_of (nodes true d.body)) []) e) (sym m) k)
elements_in t marks (there {y = d} {xs = ds} h) m k = has_right (marked_elements t marks d) (elements_of t marks ds) (elements_in t marks h m k)

-- the places of elements as they stand
mutual
  pub places_are : (p : SyntaxPattern) → places_in p ≡ map (λ (e : Element). e.place) (filter_map element_of (nodes true p))
  places_are empty = refl
  places_are not_allowed = refl
  places_are text = refl
  places_are attribute = refl
  places_are (ref n place) = refl
  places_are (element place c p) = ap (λ z. place ∷ z) (places_are p)
  places_are (mixed p) = places_are p
  places_are (optional p) = places_are p
  places_are (zero_or_more p) = places_are p
  places_are (one_or_more p) = places_are p
  places_are (group ps) = all_places_are ps
  places_are (choice ps) = all_places_are ps
  places_are (interleave ps) = all_places_are ps

  all_places_are : (ps : SyntaxPatterns) → places_in_all ps ≡ map (λ (e : Element). e.place) (filter_map element_of (nodes_of_all true ps))
  all_places_are no_more = refl
  all_places_are (more p ps) =
      ap (λ z. z ++ places_in_all ps) (places_are p)
      ∙ (ap (λ z. map (λ (e : Element). e.place) (filter_map element_of (nodes true p)) ++ z) (all_places_are ps)
      ∙ (sym (map-append (λ (e : Element). e.place) (filter_map element_of (nodes true p)) (filter_map element_of (nodes_of_all true ps)))
      ∙ ap (map (λ (e : Element). e.place)) (sym (filter_map-append element_of (nodes true p) (nodes_of_all true ps)))))

-- elements that ascend from one place on, and are below another
pub record Lies (low : ℕ) (xs : List Element) (rest : List ℕ) : Type 0 where
  pub high : ℕ
  pub above : low ≤ high
  pub after : AscendFrom high rest
  pub ascending : AreAscending xs
  pub within : AllByRecursion (λ e. (low ≤ e.place) × (e.place < high)) xs

all_from : (low least : ℕ) (P : ℕ → ℕ) (xs : List Element) (high : ℕ) → low ≤ least → AllByRecursion (λ e. (least ≤ e.place) × (e.place < high)) xs → AllByRecursion (λ e. (low ≤ e.place) × (e.place < high)) xs
all_from low least P [] high l h = tt
all_from low least P (x ∷ xs) high l ((a, b), h) = ((omega (arith, l, a), b), all_from low least P xs high l h)

all_above : (x : Element) (high : ℕ) (xs : List Element) → AllByRecursion (λ e. (x.place + 1 ≤ e.place) × (e.place < high)) xs → AllByRecursion (λ e. x.place < e.place) xs
all_above x high [] h = tt
all_above x high (y ∷ ys) ((a, b), h) = (omega (arith, a), all_above x high ys h)

pub lies : (low : ℕ) (xs : List Element) (rest : List ℕ) → AscendFrom low (map (λ (e : Element). e.place) xs ++ rest) → Lies low xs rest
lies low [] rest h = record { high = low; above = omega arith; after = h; ascending = tt; within = tt }
lies low (x ∷ xs) rest (a, h) =
    let k = lies (x.place + 1) xs rest h in
    record {
      high = k.high;
      above = omega (arith, a, k.above);
      after = k.after;
      ascending = (all_above x k.high xs k.within, k.ascending);
      within = ((a, omega (arith, k.above)), all_from low (x.place + 1) (λ n. n) xs k.high (omega (arith, a)) k.within);
    }

pub join_all : (P : Element → Type 0) (xs ys : List Element) → AllByRecursion P xs → AllByRecursion P ys → AllByRecursion P (xs ++ ys)
join_all P [] ys h k = k
join_all P (x ∷ xs) ys (a, h) k = (a, join_all P xs ys h k)

pub weaker : (low least : ℕ) (xs : List Element) → low ≤ least → AllByRecursion (λ e. least ≤ e.place) xs → AllByRecursion (λ e. low ≤ e.place) xs
weaker low least [] l h = tt
weaker low least (x ∷ xs) l (a, h) = (omega (arith, l, a), weaker low least xs l h)

later_all : (x : Element) (high : ℕ) (ys : List Element) → x.place < high → AllByRecursion (λ e. high ≤ e.place) ys → AllByRecursion (λ e. x.place < e.place) ys
later_all x high [] l h = tt
later_all x high (y ∷ ys) l (a, h) = (omega (arith, l, a), later_all x high ys l h)

pub join_ascending : (low high : ℕ) (xs ys : List Element) → AreAscending xs → AllByRecursion (λ e. (low ≤ e.place) × (e.place < high)) xs → AreAscending ys → AllByRecursion (λ e. high ≤ e.place) ys → AreAscending (xs ++ ys)
join_ascending low high [] ys a h b k = b
join_ascending low high (x ∷ xs) ys (u, a) ((l, m), h) b k = (join_all (λ e. x.place < e.place) xs ys u (later_all x high ys m k), join_ascending low high xs ys a h b k)

pub firsts : (low high : ℕ) (xs : List Element) → AllByRecursion (λ e. (low ≤ e.place) × (e.place < high)) xs → AllByRecursion (λ e. low ≤ e.place) xs
firsts low high [] h = tt
firsts low high (x ∷ xs) ((a, b), h) = (a, firsts low high xs h)

kept_ascending : (t : Table) (marks : List Bool) (low : ℕ) (ds : List Definition) → AscendFrom low (places_of ds) → AreAscending (elements_of t marks ds) × AllByRecursion (λ e. low ≤ e.place) (elements_of t marks ds)
kept_ascending t marks low [] h = (tt, tt)
kept_ascending t marks low (d ∷ ds) h =
    let xs : List Element = filter_map element_of (nodes true d.body) in
    let l = lies low xs (places_of ds) (subst (λ z. AscendFrom low (z ++ places_of ds)) (places_are d.body) h) in
    by l (kept_ascending t marks l.high ds l.after) (is_marked_name t marks d.name)
  where
    by : (l : Lies low (filter_map element_of (nodes true d.body)) (places_of ds)) → AreAscending (elements_of t marks ds) × AllByRecursion (λ e. l.high ≤ e.place) (elements_of t marks ds) → (b : Bool)
        → AreAscending (cond b (filter_map element_of (nodes true d.body)) [] ++ elements_of t marks ds) × AllByRecursion (λ e. low ≤ e.place) (cond b (filter_map element_of (nodes true d.body)) [] ++ elements_of t marks ds)
    by l (a, k) true = (
      join_ascending low l.high (filter_map element_of (nodes true d.body)) (elements_of t marks ds) l.ascending l.within a k,
      join_all (λ e. low ≤ e.place) (filter_map element_of (nodes true d.body)) (elements_of t marks ds) (firsts low l.high (filter_map element_of (nodes true d.body)) l.within) (weaker low l.high (elements_of t marks ds) l.above k),
    )
    by l (a, k) false = (a, weaker low l.high (elements_of t marks ds) l.above k)

pub elements_ascend : (s : Syntax) (t : Table) (marks : List Bool) → AscendFrom 0 (places_of s.definitions) → AreAscending (elements_of t marks s.definitions)
elements_ascend s t marks h = (kept_ascending t marks 0 s.definitions h).0

module _ (s : Syntax) (t : Table) (start : ℕ) (marks : List Bool) (states : List State) (order : List ℕ) (r : Resolves s t start marks states order) where
  marked_number : (n : List ℕ) → is_marked_name t marks n ≡ true → (k : ℕ) × (number_of t n ≡ Some k) × (is_marked marks k ≡ true)
  marked_number n e = by (number_of t n) refl e
    where
      by : (o : Option ℕ) → number_of t n ≡ o → elim o as (λ _. Bool) [ Some k ↦ is_marked marks k | None ↦ false ] ≡ true → (k : ℕ) × (number_of t n ≡ Some k) × (is_marked marks k ≡ true)
      by None is h = absurd (true≢false (sym h))
      by (Some k) is h = (k, is, h)

  pub name_of : (k : ℕ) → Leads (link_rows t true) start k → (n : List ℕ) × (number_of t n ≡ Some k)
  name_of k (inl e) = ([], r.begins ∙ ap Some (sym e))
  name_of k (inr p) = by p
    where
      by : {j k : ℕ} → Path (link_rows t true) j k → (n : List ℕ) × (number_of t n ≡ Some k)
      by (edge {k = j} {j = k} a) = let (n, place, at, e) = edge_out s t r.table true j k a in (n, e)
      by (further {j = j} {i = k} q a) = let (n, place, at, e) = edge_out s t r.table true j k a in (n, e)

  -- where what is reached is written
  pub written : (q : SyntaxPattern) → Reached s q → is_list q ≡ false → (d : Definition) × Has s.definitions d × (is_marked_name t marks d.name ≡ true) × Has (nodes true d.body) q
  written q reached plain =
      let (k, lead, (p, at, stands)) = reached_at s t r.table start r.begins reached in
      let (n, e) = name_of k lead in
      let (d, among, inside) = in_joined (definitions_of s.definitions n) (see.pattern p) q (named_is s t r.table n k p e at) stands plain in
      let (defined, named) = chosen_has n s.definitions d among in
      (d, defined, ap (is_marked_name t marks) (bytes_are d.name n named) ∙ (ap (λ o. elim o as (λ _. Bool) [ Some i ↦ is_marked marks i | None ↦ false ]) e ∙ (r.reach.exact k).1 lead), inside)

  pub all_elements : (place : ℕ) (c : SyntaxClass) (p : SyntaxPattern) → Reached s (element place c p) → Contains (elements_of t marks s.definitions) (record { place = place; names = c; content = p })
  all_elements place c p reached =
      let (d, defined, m, stands) = written (element place c p) reached refl in
      has_contains (elements_in t marks defined m (filter_has element_of stands refl))

  element_reached : (e : Element) → Has (elements_of t marks s.definitions) e → Reached s (element e.place e.names e.content)
  element_reached e h =
      let (d, defined, m, stands) = in_elements t marks s.definitions e h in
      let (k, is, mark) = marked_number d.name m in
      let (p, at, same) = r.table.present d.name k is in
      let found = has_filter element_of (nodes true d.body) e stands in
      let whole = pattern_reached s t r.table start r.begins k p ((r.reach.exact k).0 mark) at in
      let body = part d (see.pattern p) whole (body_part (definitions_of s.definitions d.name) d (see.pattern p) (has_chosen d.name s.definitions d defined (same_bytes d.name)) same) in
      node_reached s d.body (element e.place e.names e.content) body (subst (λ z. Has (nodes true d.body) z) (element_is found.item e found.gives) found.stands)
    where
      part : (d : Definition) (q : SyntaxPattern) → Reached s q → (d.body ≡ q) ⊎ IsOpenPart q d.body → Reached s d.body
      part d q r (inl e) = subst (λ z. Reached s z) (sym e) r
      part d q r (inr o) = m.part r o

  pub elements_reached : (es : List Element) → ((e : Element) → Has es e → Has (elements_of t marks s.definitions) e) → AllByRecursion (λ e. Reached s (element e.place e.names e.content)) es
  elements_reached [] f = tt
  elements_reached (e ∷ es) f = (element_reached e (f e here), elements_reached es (λ x k. f x (there k)))
