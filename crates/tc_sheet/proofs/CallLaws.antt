-- What calls by numbers say of calls by names.
use Rattle.std.proofs.Common.{◌≡◌, ◌⊎◌, inl, inr, ℕ, zero, suc, ◌<◌, Bool, true, false, not, List, [], ◌∷◌, ◌++◌, refl, ap, ◌∙◌, sym, subst, arith, Option, None, Some, option_map, IfSome, length, All, Contains, map, slice_get, slice_index_or, if◌then◌else◌, true≢false, unwrap_or}
use Rattle.std.proofs.lemmas.List.{map-append}
use Rattle.std.proofs.lemmas.List.Elements.{All-cons, All-nil, All-from_recursion, recursion_from_All, Contains-append_left, Contains-append_right, Contains-append_cases}
use Rattle.std.proofs.lemmas.Option.{unwrap_or-slice_get, slice_get_within, get_or_from_slice_get}
use Rattle.std.specs.List.{AllByRecursion, IsDistinct, list_any}
use Rattle.tc_graph.specs.Graph.{Edge, IsGraph, Path, edge, further, Leads}
use Rattle.tc_graph.specs.Walks.{AreComponents}
use Rattle.tc_graph.specs.declared.cycles.State.{State}
use Rattle.tc_graph.proofs.Joined.{path_then, same_leads, leads_same}
use Rattle.tc_model.specs.Names.{ExpandedName, same_name}
use Rattle.tc_model.specs.Numbered.{number_of}
use Rattle.tc_model.specs.SheetTextTrees.{Template}
use Rattle.tc_model.specs.SheetText.{one_name, names_of, Call, calls_in_body, Reaches, calls, calls_by, StandingCall, calls_of, IsFirst, IsDefined, IsUndefined, IsLoop}
use Rattle.tc_sheet.specs.Graphs.{first_at, NumberedCall, leads_back, first_back, IsWithin, callee_of, caller_of, numbered_from, callees, calls_from, numbered_calls, is_undefined, first_undefined, all_calls}
use Rattle.tc_sheet.proofs.NameNumbers.{same_some, no_some, listed, contained, number_below, number_is, number_tells}

some_none : {X : Type 0} {x : X} → Some x ≡ None → ⊥
some_none e = no_some (sym e)

-- the first that passes a test
module _ {X : Type 0} (test : X → Bool) (place : X → ℕ) where
  pub first_append : (xs ys : List X) → first_at test place xs ≡ None → first_at test place (xs ++ ys) ≡ first_at test place ys
  first_append [] ys e = refl
  first_append (x ∷ xs) ys e = by (test x) e (first_append xs ys)
    where
      by : (b : Bool) → (if b then Some (place x) else first_at test place xs) ≡ None → (first_at test place xs ≡ None → first_at test place (xs ++ ys) ≡ first_at test place ys)
          → (if b then Some (place x) else first_at test place (xs ++ ys)) ≡ first_at test place ys
      by true e f = absurd (some_none e)
      by false e f = f e

  pub first_before : (xs ys : List X) (p : ℕ) → first_at test place xs ≡ Some p → first_at test place (xs ++ ys) ≡ Some p
  first_before [] ys p e = absurd (no_some e)
  first_before (x ∷ xs) ys p e = by (test x) e (first_before xs ys p)
    where
      by : (b : Bool) → (if b then Some (place x) else first_at test place xs) ≡ Some p → (first_at test place xs ≡ Some p → first_at test place (xs ++ ys) ≡ Some p)
          → (if b then Some (place x) else first_at test place (xs ++ ys)) ≡ Some p
      by true e f = e
      by false e f = f e

  pub none_passes : (xs : List X) → first_at test place xs ≡ None → AllByRecursion (λ x. test x ≡ false) xs
  none_passes [] e = tt
  none_passes (x ∷ xs) e = by (test x) refl e (none_passes xs)
    where
      by : (b : Bool) → test x ≡ b → (if b then Some (place x) else first_at test place xs) ≡ None → (first_at test place xs ≡ None → AllByRecursion (λ x. test x ≡ false) xs)
          → AllByRecursion (λ x. test x ≡ false) (x ∷ xs)
      by true is e f = absurd (some_none e)
      by false is e f = (is, f e)

  pub first_is : (P : X → Type 0) (xs : List X) (p : ℕ) → AllByRecursion (λ x. test x ≡ true → P x) xs → AllByRecursion (λ x. P x → test x ≡ true) xs → first_at test place xs ≡ Some p
      → (x : X) × IsFirst P xs x × (place x ≡ p)
  first_is P [] p there back e = absurd (no_some e)
  first_is P (x ∷ xs) p there back e = by (test x) refl e (first_is P xs p there.1 back.1)
    where
      more : test x ≡ false → (y : X) × IsFirst P xs y × (place y ≡ p) → (y : X) × IsFirst P (x ∷ xs) y × (place y ≡ p)
      more is (y, f, at) = (
        y,
        record {
          before = x ∷ f.before;
          after = f.after;
          parts = ap (λ z. x ∷ z) f.parts;
          not_before = All-cons (λ z. P z → ⊥) x f.before (λ h. true≢false (sym (back.0 h) ∙ is)) f.not_before;
          holds = f.holds;
        },
        at,
      )

      by : (b : Bool) → test x ≡ b → (if b then Some (place x) else first_at test place xs) ≡ Some p → (first_at test place xs ≡ Some p → (y : X) × IsFirst P xs y × (place y ≡ p))
          → (y : X) × IsFirst P (x ∷ xs) y × (place y ≡ p)
      by true is e f = (x, record { before = []; after = xs; parts = refl; not_before = All-nil (λ z. P z → ⊥); holds = there.0 is }, same_some e)
      by false is e f = more is (f e)

pub first_map : {X Y : Type 0} (f : X → Y) (test : Y → Bool) (place : Y → ℕ) (xs : List X) → first_at test place (map f xs) ≡ first_at (λ x. test (f x)) (λ x. place (f x)) xs
first_map f test place [] = refl
first_map f test place (x ∷ xs) = ap (λ z. if test (f x) then Some (place (f x)) else z) (first_map f test place xs)

-- what is in a list that is made from another
pub contains_map : {X Y : Type 0} (f : X → Y) (xs : List X) (y : Y) → Contains (map f xs) y → (x : X) × Contains xs x × (f x ≡ y)
contains_map {X} {Y} f [] y (k, l, e) = absurd (omega (arith, l))
contains_map {X} {Y} f (x ∷ xs) y (zero, l, e) = (x, (0, omega arith, refl), e)
contains_map {X} {Y} f (x ∷ xs) y (suc k, l, e) = more (contains_map f xs y (k, omega (arith, l), e))
  where
    more : (z : X) × Contains xs z × (f z ≡ y) → (z : X) × Contains (x ∷ xs) z × (f z ≡ y)
    more (z, (j, m, g), h) = (z, (suc j, omega (arith, m), g), h)

pub map_contains : {X Y : Type 0} (f : X → Y) (xs : List X) (x : X) → Contains xs x → Contains (map f xs) (f x)
map_contains f [] x (k, l, e) = absurd (omega (arith, l))
map_contains f (y ∷ xs) x (zero, l, e) = (0, omega arith, ap f e)
map_contains f (y ∷ xs) x (suc k, l, e) = more (map_contains f xs x (k, omega (arith, l), e))
  where
    more : Contains (map f xs) (f x) → Contains (map f (y ∷ xs)) (f x)
    more (j, m, g) = (suc j, omega (arith, m), g)

pub beside : {X : Type 0} (y : X) (xs : List X) (x : X) → Contains xs x → Contains (y ∷ xs) x
beside y xs x (k, l, e) = (suc k, omega (arith, l), e)

-- a call that stands in a template
abbrev pub stand : Template → Call → StandingCall
stand t c = record { template = t; call = c }

pub standing : (ts : List Template) (s : StandingCall) → Contains (calls_of ts) s → Contains ts s.template × Contains (calls_in_body s.template.body) s.call
standing [] s (k, l, e) = absurd (omega (arith, l))
standing (t ∷ ts) s h = by (Contains-append_cases (map (stand t) (calls_in_body t.body)) (calls_of ts) s h) (standing ts s)
  where
    first : (c : Call) → Contains (calls_in_body t.body) c → stand t c ≡ s → Contains (t ∷ ts) s.template × Contains (calls_in_body s.template.body) s.call
    first c h e = subst (λ z. Contains (t ∷ ts) z.template × Contains (calls_in_body z.template.body) z.call) e ((0, omega arith, refl), h)

    by : Contains (map (stand t) (calls_in_body t.body)) s ⊎ Contains (calls_of ts) s
        → (Contains (calls_of ts) s → Contains ts s.template × Contains (calls_in_body s.template.body) s.call) → Contains (t ∷ ts) s.template × Contains (calls_in_body s.template.body) s.call
    by (inl a) f = let (c, h, e) = contains_map (stand t) (calls_in_body t.body) s a in first c h e
    by (inr b) f = let (h, k) = f b in (beside t ts s.template h, k)

pub stands : (us : List Template) (t : Template) (c : Call) → Contains us t → Contains (calls_in_body t.body) c → Contains (calls_of us) (stand t c)
stands [] t c (k, l, e) h = absurd (omega (arith, l))
stands (u ∷ us) t c (zero, l, e) h =
    Contains-append_left (map (stand u) (calls_in_body u.body)) (calls_of us) (stand t c)
    (subst (λ (z : Template). Contains (map (stand z) (calls_in_body z.body)) (stand t c)) (sym e) (map_contains (stand t) (calls_in_body t.body) c h))
stands (u ∷ us) t c (suc k, l, e) h = Contains-append_right (map (stand u) (calls_in_body u.body)) (calls_of us) (stand t c) (stands us t c (k, omega (arith, l), e) h)

pub all_standing : (P : StandingCall → Type 0) (ts : List Template) → ((t : Template) (c : Call) → Contains ts t → Contains (calls_in_body t.body) c → P (stand t c)) → AllByRecursion P (calls_of ts)
all_standing P ts f = recursion_from_All P (calls_of ts) (λ k d l. at k d l)
  where
    at : (k : ℕ) (d : StandingCall) → k < length (calls_of ts) → P (slice_index_or (calls_of ts) k d)
    at k d l = let s = slice_index_or (calls_of ts) k d in let (h, c) = standing ts s (found (calls_of ts) k d l) in f s.template s.call h c
      where
        found : (xs : List StandingCall) (k : ℕ) (d : StandingCall) → k < length xs → Contains xs (slice_index_or xs k d)
        found [] k d l = absurd (omega (arith, l))
        found (x ∷ xs) zero d l = (0, omega arith, refl)
        found (x ∷ xs) (suc k) d l = beside x xs (slice_index_or xs k d) (found xs k d (omega (arith, l)))

-- calls in a list
pub names_from_calls : (ts : List Template) → map (λ (s : StandingCall). s.call) (calls_of ts) ≡ all_calls ts
names_from_calls [] = refl
names_from_calls (t ∷ ts) =
    map-append (λ (s : StandingCall). s.call) (map (stand t) (calls_in_body t.body)) (calls_of ts)
    ∙ (ap (λ z. z ++ map (λ (s : StandingCall). s.call) (calls_of ts)) (each (calls_in_body t.body)) ∙ ap (λ z. calls_in_body t.body ++ z) (names_from_calls ts))
  where
    each : (cs : List Call) → map (λ (s : StandingCall). s.call) (map (stand t) cs) ≡ cs
    each [] = refl
    each (c ∷ cs) = ap (λ z. c ∷ z) (each cs)

module _ (names : List ExpandedName) where
  abbrev numbered_of : StandingCall → NumberedCall
  numbered_of s = numbered_from names (caller_of names s.template) s.call

  pub numbers_from_calls : (ts : List Template) → map numbered_of (calls_of ts) ≡ numbered_calls names ts
  numbers_from_calls [] = refl
  numbers_from_calls (t ∷ ts) =
      map-append numbered_of (map (stand t) (calls_in_body t.body)) (calls_of ts)
      ∙ (ap (λ z. z ++ map numbered_of (calls_of ts)) (each (calls_in_body t.body)) ∙ ap (λ z. calls_from names t ++ z) (numbers_from_calls ts))
    where
      each : (cs : List Call) → map numbered_of (map (stand t) cs) ≡ map (numbered_from names (caller_of names t)) cs
      each [] = refl
      each (c ∷ cs) = ap (λ z. numbered_from names (caller_of names t) c ∷ z) (each cs)

-- a template that doesn't exist
module _ (ts : List Template) where
  listed_or_not : (c : Call) → is_undefined (names_of ts) c ≡ false → Contains (names_of ts) c.name
  listed_or_not c e = contained c.name (names_of ts) (turned (list_any (same_name c.name) (names_of ts)) e)
    where
      turned : (b : Bool) → not b ≡ false → b ≡ true
      turned true e = refl
      turned false e = absurd (true≢false e)

  pub all_defined : first_undefined (names_of ts) (all_calls ts) ≡ None → AllByRecursion (λ c. Contains (names_of ts) c.name) (all_calls ts)
  all_defined e = by (all_calls ts) (none_passes (is_undefined (names_of ts)) (λ (c : Call). c.place) (all_calls ts) e)
    where
      by : (cs : List Call) → AllByRecursion (λ c. is_undefined (names_of ts) c ≡ false) cs → AllByRecursion (λ c. Contains (names_of ts) c.name) cs
      by [] h = tt
      by (c ∷ cs) h = (listed_or_not c h.0, by cs h.1)

  pub defined_calls : first_undefined (names_of ts) (all_calls ts) ≡ None → All (λ s. IsDefined ts s.call) (calls_of ts)
  defined_calls e =
      All-from_recursion (λ s. IsDefined ts s.call) (calls_of ts)
      (back (calls_of ts) (subst (AllByRecursion (λ c. Contains (names_of ts) c.name)) (sym (names_from_calls ts)) (all_defined e)))
    where
      back : (xs : List StandingCall) → AllByRecursion (λ c. Contains (names_of ts) c.name) (map (λ (s : StandingCall). s.call) xs) → AllByRecursion (λ s. IsDefined ts s.call) xs
      back [] h = tt
      back (x ∷ xs) h = (h.0, back xs h.1)

  pub first_is_undefined : (p : ℕ) → first_undefined (names_of ts) (all_calls ts) ≡ Some p → (s : StandingCall) × IsFirst (IsUndefined ts) (calls_of ts) s × (s.call.place ≡ p)
  first_is_undefined p e =
      first_is (λ (s : StandingCall). is_undefined (names_of ts) s.call) (λ s. s.call.place) (IsUndefined ts) (calls_of ts) p (there (calls_of ts)) (back (calls_of ts))
      (sym (first_map (λ (s : StandingCall). s.call) (is_undefined (names_of ts)) (λ c. c.place) (calls_of ts)) ∙ (ap (first_undefined (names_of ts)) (names_from_calls ts) ∙ e))
    where
      missing : (s : StandingCall) → is_undefined (names_of ts) s.call ≡ true → IsUndefined ts s
      missing s f h = true≢false (sym f ∙ ap not (listed s.call.name (names_of ts) h))

      found : (s : StandingCall) → IsUndefined ts s → is_undefined (names_of ts) s.call ≡ true
      found s h = by (is_undefined (names_of ts) s.call) refl
        where
          by : (b : Bool) → is_undefined (names_of ts) s.call ≡ b → is_undefined (names_of ts) s.call ≡ true
          by true f = f
          by false f = absurd (h (listed_or_not s.call f))

      there : (xs : List StandingCall) → AllByRecursion (λ s. is_undefined (names_of ts) s.call ≡ true → IsUndefined ts s) xs
      there [] = tt
      there (x ∷ xs) = (missing x, there xs)

      back : (xs : List StandingCall) → AllByRecursion (λ s. IsUndefined ts s → is_undefined (names_of ts) s.call ≡ true) xs
      back [] = tt
      back (x ∷ xs) = (found x, back xs)

-- the row of a named template stands where its name does
module _ (names : List ExpandedName) where
  abbrev pub row : Template → List ℕ
  row t = map (callee_of names) (calls_in_body t.body)

  pub same_length : (ts : List Template) → length (callees names ts) ≡ length (names_of ts)
  same_length [] = refl
  same_length (t ∷ ts) = by t.name (same_length ts)
    where
      by : (o : Option ExpandedName) → length (callees names ts) ≡ length (names_of ts) → length (map (λ n. row t) (one_name o) ++ callees names ts) ≡ length (one_name o ++ names_of ts)
      by None e = e
      by (Some n) e = ap (λ z. suc z) e

  pub record Placed (ts : List Template) (t : Template) (n : ExpandedName) : Type 0 where
    pub at : ℕ
    pub name : slice_get (names_of ts) at ≡ Some n
    pub calls : slice_get (callees names ts) at ≡ Some (row t)

  pub placed : (ts : List Template) (t : Template) (n : ExpandedName) → Contains ts t → t.name ≡ Some n → Placed ts t n
  placed [] t n (k, l, e) f = absurd (omega (arith, l))
  placed (u ∷ ts) t n (zero, l, e) f =
      let g : u.name ≡ Some n = ap (λ (z : Template). z.name) e ∙ f in
      record {
        at = 0;
        name = ap (λ o. slice_get (one_name o ++ names_of ts) 0) g;
        calls = ap (λ o. slice_get (map (λ n. row u) (one_name o) ++ callees names ts) 0) g ∙ ap (λ z. Some (row z)) e;
      }
  placed (u ∷ ts) t n (suc k, l, e) f = by u.name refl (placed ts t n (k, omega (arith, l), e) f)
    where
      by : (o : Option ExpandedName) → u.name ≡ o → Placed ts t n → Placed (u ∷ ts) t n
      by None is p = record {
        at = p.at;
        name = ap (λ o. slice_get (one_name o ++ names_of ts) p.at) is ∙ p.name;
        calls = ap (λ o. slice_get (map (λ n. row u) (one_name o) ++ callees names ts) p.at) is ∙ p.calls;
      }
      by (Some m) is p = record {
        at = suc p.at;
        name = ap (λ o. slice_get (one_name o ++ names_of ts) (suc p.at)) is ∙ p.name;
        calls = ap (λ o. slice_get (map (λ n. row u) (one_name o) ++ callees names ts) (suc p.at)) is ∙ p.calls;
      }

  pub record IsRowOf (ts : List Template) (k : ℕ) (r : List ℕ) : Type 0 where
    pub template : Template
    pub name : ExpandedName
    pub has : Contains ts template
    pub named : template.name ≡ Some name
    pub stands : slice_get (names_of ts) k ≡ Some name
    pub is : r ≡ row template

  pub row_at : (ts : List Template) (k : ℕ) (r : List ℕ) → slice_get (callees names ts) k ≡ Some r → IsRowOf ts k r
  row_at [] k r e = absurd (no_some e)
  row_at (t ∷ ts) k r e = by t.name refl k e (row_at ts)
    where
      by : (o : Option ExpandedName) → t.name ≡ o → (k : ℕ) → slice_get (map (λ n. row t) (one_name t.name) ++ callees names ts) k ≡ Some r
          → ((k : ℕ) (r : List ℕ) → slice_get (callees names ts) k ≡ Some r → IsRowOf ts k r) → IsRowOf (t ∷ ts) k r
      by None is k e f =
          let g = f k r (subst (λ o. slice_get (map (λ n. row t) (one_name o) ++ callees names ts) k ≡ Some r) is e) in
          record {
            template = g.template;
            name = g.name;
            has = beside t ts g.template g.has;
            named = g.named;
            stands = ap (λ o. slice_get (one_name o ++ names_of ts) k) is ∙ g.stands;
            is = g.is;
          }
      by (Some n) is zero e f = record {
        template = t;
        name = n;
        has = (0, omega arith, refl);
        named = is;
        stands = ap (λ o. slice_get (one_name o ++ names_of ts) 0) is;
        is = sym (same_some (subst (λ o. slice_get (map (λ n. row t) (one_name o) ++ callees names ts) 0 ≡ Some r) is e));
      }
      by (Some n) is (suc k) e f =
          let g = f k r (subst (λ o. slice_get (map (λ n. row t) (one_name o) ++ callees names ts) (suc k) ≡ Some r) is e) in
          record {
            template = g.template;
            name = g.name;
            has = beside t ts g.template g.has;
            named = g.named;
            stands = ap (λ o. slice_get (one_name o ++ names_of ts) (suc k)) is ∙ g.stands;
            is = g.is;
          }

-- a name of a template is listed
pub all_listed : (ts : List Template) (t : Template) (names : List ExpandedName) → Contains ts t → names ≡ names_of ts → All (λ n. list_any (same_name n) names ≡ true) (one_name t.name)
all_listed ts t names h e = by t.name refl
  where
    by : (o : Option ExpandedName) → t.name ≡ o → All (λ n. list_any (same_name n) names ≡ true) (one_name o)
    by None is = All-nil (λ n. list_any (same_name n) names ≡ true)
    by (Some n) is =
        let p = placed (names_of ts) ts t n h is in
        let within = slice_get_within (names_of ts) p.at n p.name in
        let there : list_any (same_name n) names ≡ true = ap (list_any (same_name n)) e ∙ listed n (names_of ts) (p.at, within, get_or_from_slice_get (names_of ts) p.at n n p.name) in
        All-cons (λ m. list_any (same_name m) names ≡ true) n [] there (All-nil (λ m. list_any (same_name m) names ≡ true))

-- one call
pub defined_here : (names : List ExpandedName) (c : Call) → list_any (same_name c.name) names ≡ true → first_undefined names (c ∷ []) ≡ None
defined_here names c e = ap (λ b. if not b then Some c.place else None) e

pub undefined_here : (names : List ExpandedName) (c : Call) → list_any (same_name c.name) names ≡ false → first_undefined names (c ∷ []) ≡ Some c.place
undefined_here names c e = ap (λ b. if not b then Some c.place else None) e

-- templates whose names differ
module _ (ts : List Template) (once : IsDistinct same_name (names_of ts)) where
  abbrev ns : List ExpandedName
  ns = names_of ts

  abbrev number : ExpandedName → ℕ
  number n = number_of same_name n ns

  abbrev rows : List (List ℕ)
  rows = callees ns ts

  pub number_at : (t : Template) (n : ExpandedName) → Contains ts t → t.name ≡ Some n → (number n < length rows) × (slice_index_or rows (number n) [] ≡ row ns t)
  number_at t n h e =
      let p = placed ns ts t n h e in
      let is : number n ≡ p.at = number_is n ns p.at once p.name in
      let at : slice_get rows (number n) ≡ Some (row ns t) = ap (slice_get rows) is ∙ p.calls in
      (slice_get_within rows (number n) (row ns t) at, sym (unwrap_or-slice_get rows (number n) []) ∙ ap (λ o. unwrap_or o []) at)

  edge_in : (t : Template) (n : ExpandedName) (c : Call) → Contains ts t → t.name ≡ Some n → Contains (calls_in_body t.body) c → Edge rows (number n) (number c.name)
  edge_in t n c h e k = subst (λ r. Contains r (number c.name)) (sym (number_at t n h e).1) (map_contains (callee_of ns) (calls_in_body t.body) c k)

  record IsEdge (k j : ℕ) : Type 0 where
    template : Template
    name : ExpandedName
    call : Call
    has : Contains ts template
    named : template.name ≡ Some name
    stands : slice_get ns k ≡ Some name
    calls : Contains (calls_in_body template.body) call
    leads : number call.name ≡ j

  edge_out : (k j : ℕ) → Edge rows k j → IsEdge k j
  edge_out k j a = by (slice_get rows k) refl
    where
      read : (o : Option (List ℕ)) → slice_get rows k ≡ o → Contains (unwrap_or o []) j
      read o e = subst (λ r. Contains r j) (sym (unwrap_or-slice_get rows k []) ∙ ap (λ o. unwrap_or o []) e) a

      by : (o : Option (List ℕ)) → slice_get rows k ≡ o → IsEdge k j
      by None e = absurd (omega (arith, (read None e).1))
      by (Some r) e =
          let g = row_at ns ts k r e in
          let (c, h, is) = contains_map (callee_of ns) (calls_in_body g.template.body) j (subst (λ z. Contains z j) g.is (read (Some r) e)) in
          record { template = g.template; name = g.name; call = c; has = g.has; named = g.named; stands = g.stands; calls = h; leads = is }

  pub is_graph : first_undefined ns (all_calls ts) ≡ None → IsGraph rows
  is_graph e k j a =
      let g = edge_out k j a in
      let within = defined_in ts g.template g.call g.has g.calls (all_defined ts e) in
      omega (arith, number_below g.call.name ns (listed g.call.name ns within), g.leads, same_length ns ts)
    where
      defined_in : (us : List Template) (t : Template) (c : Call) → Contains us t → Contains (calls_in_body t.body) c → AllByRecursion (λ c. Contains ns c.name) (all_calls us) → Contains ns c.name
      defined_in us t c h k all =
          by (all_calls us) (subst (λ z. Contains z c) (names_from_calls us) (map_contains (λ (s : StandingCall). s.call) (calls_of us) (stand t c) (stands us t c h k))) all
        where
          by : (cs : List Call) → Contains cs c → AllByRecursion (λ c. Contains ns c.name) cs → Contains ns c.name
          by [] (k, l, e) all = absurd (omega (arith, l))
          by (d ∷ cs) (zero, l, e) all = subst (λ (z : Call). Contains ns z.name) e all.0
          by (d ∷ cs) (suc k, l, e) all = by cs (k, omega (arith, l), e) all.1

  pub reaches_path : {n m : ExpandedName} → Reaches ts n m → Path rows (number n) (number m)
  reaches_path (calls {t = t} {n = n} {c = c} h e k) = edge (edge_in t n c h e k)
  reaches_path (calls_by r s) = path_then (reaches_path r) (reaches_path s)

  record Reached (n : ExpandedName) (j : ℕ) : Type 0 where
    name : ExpandedName
    number_is_it : number name ≡ j
    reaches : Reaches ts n name

  one_edge : (k j : ℕ) (n : ExpandedName) → number n ≡ k → Edge rows k j → Reached n j
  one_edge k j n e a =
      let g = edge_out k j a in
      let at : number g.name ≡ k = number_is g.name ns k once g.stands in
      let within : number g.name < length ns = omega (arith, slice_get_within ns k g.name g.stands, at) in
      let same : g.name ≡ n = number_tells g.name n ns within (at ∙ sym e) in
      record { name = g.call.name; number_is_it = g.leads; reaches = subst (λ z. Reaches ts z g.call.name) same (calls g.has g.named g.calls) }

  path_reaches : {k j : ℕ} → Path rows k j → (n : ExpandedName) → number n ≡ k → Reached n j
  path_reaches (edge {k = k} {j = j} a) n e = one_edge k j n e a
  path_reaches (further {k = k} {j = j} {i = i} p a) n e =
      let r = path_reaches p n e in
      let s = one_edge j i r.name r.number_is_it a in
      record { name = s.name; number_is_it = s.number_is_it; reaches = calls_by r.reaches s.reaches }

  -- a call that leads back to its template
  pub leads_loop : (t : Template) (n : ExpandedName) (c : Call) → Contains ts t → t.name ≡ Some n → Leads rows (number c.name) (number n) → IsLoop ts (stand t c)
  leads_loop t n c h is l = (n, is, at l)
    where
      within : number n < length ns
      within = omega (arith, (number_at t n h is).0, same_length ns ts)

      at : Leads rows (number c.name) (number n) → (c.name ≡ n) ⊎ Reaches ts c.name n
      at (inl e) = inl (sym (number_tells n c.name ns within e))
      at (inr p) =
          let r = path_reaches p c.name refl in
          let same : n ≡ r.name = number_tells n r.name ns within (sym r.number_is_it) in
          inr (subst (Reaches ts c.name) (sym same) r.reaches)

  -- without such a call no template leads to itself
  pub no_cycle : ((t : Template) (c : Call) → Contains ts t → Contains (calls_in_body t.body) c → IsLoop ts (stand t c) → ⊥) → {k m : ℕ} → Path rows k m → k ≡ m → ⊥
  no_cycle none (edge {k = k} {j = j} a) e =
      let g = edge_out k j a in
      let at : number g.name ≡ k = number_is g.name ns k once g.stands in
      none g.template g.call g.has g.calls (leads_loop g.template g.name g.call g.has g.named (inl (at ∙ (e ∙ sym g.leads))))
  no_cycle none (further {k = k} {j = j} {i = i} p a) e =
      let g = edge_out j i a in
      let at : number g.name ≡ j = number_is g.name ns j once g.stands in
      let back : Path rows (number g.call.name) (number g.name) = subst (λ z. Path rows z (number g.name)) (e ∙ sym g.leads) (subst (Path rows k) (sym at) p) in
      none g.template g.call g.has g.calls (leads_loop g.template g.name g.call g.has g.named (inr back))

  module _ (states : List State) (order : List ℕ) (cs : AreComponents rows states order) where
    back_loops : (t : Template) (c : Call) → Contains ts t → Contains (calls_in_body t.body) c → leads_back states (caller_of ns t) (callee_of ns c) ≡ true → IsLoop ts (stand t c)
    back_loops t c h k e = by t.name refl e
      where
        by : (o : Option ExpandedName) → t.name ≡ o → leads_back states (option_map number o) (number c.name) ≡ true → IsLoop ts (stand t c)
        by None is e = absurd (true≢false (sym e))
        by (Some n) is e = leads_loop t n c h is (same_leads rows states order cs (number n) (number c.name) e)

    loops_back : (t : Template) (c : Call) → Contains ts t → Contains (calls_in_body t.body) c → IsLoop ts (stand t c) → leads_back states (caller_of ns t) (callee_of ns c) ≡ true
    loops_back t c h k (n, is, back) =
        ap (λ o. leads_back states (option_map number o) (number c.name)) is
        ∙ leads_same rows states order cs (number n) (number c.name) (number_at t n h is).0 (edge_in t n c h is k) (at back)
      where
        at : (c.name ≡ n) ⊎ Reaches ts c.name n → Leads rows (number c.name) (number n)
        at (inl e) = inl (ap number (sym e))
        at (inr r) = inr (reaches_path r)

    abbrev back_at : StandingCall → Bool
    back_at s = leads_back states (caller_of ns s.template) (callee_of ns s.call)

    from_numbers : (o : Option ℕ) → first_back states (numbered_calls ns ts) ≡ o → first_at back_at (λ s. s.call.place) (calls_of ts) ≡ o
    from_numbers o e =
        sym (first_map (numbered_of ns) (λ (c : NumberedCall). leads_back states c.caller c.callee) (λ (c : NumberedCall). c.place) (calls_of ts))
        ∙ (ap (first_back states) (numbers_from_calls ns ts) ∙ e)

    pub loops_none : first_back states (numbered_calls ns ts) ≡ None → All (λ s. IsLoop ts s → ⊥) (calls_of ts)
    loops_none e =
        All-from_recursion (λ s. IsLoop ts s → ⊥) (calls_of ts)
        (by (calls_of ts) (none_passes back_at (λ s. s.call.place) (calls_of ts) (from_numbers None e)) (all_standing (λ s. IsLoop ts s → back_at s ≡ true) ts loops_back))
      where
        by : (xs : List StandingCall) → AllByRecursion (λ s. back_at s ≡ false) xs → AllByRecursion (λ s. IsLoop ts s → back_at s ≡ true) xs → AllByRecursion (λ s. IsLoop ts s → ⊥) xs
        by [] h k = tt
        by (x ∷ xs) h k = (λ l. true≢false (sym (k.0 l) ∙ h.0), by xs h.1 k.1)

    pub loops_first : (p : ℕ) → first_back states (numbered_calls ns ts) ≡ Some p → (s : StandingCall) × IsFirst (IsLoop ts) (calls_of ts) s × (s.call.place ≡ p)
    loops_first p e =
        first_is back_at (λ s. s.call.place) (IsLoop ts) (calls_of ts) p (all_standing (λ s. back_at s ≡ true → IsLoop ts s) ts back_loops)
        (all_standing (λ s. IsLoop ts s → back_at s ≡ true) ts loops_back) (from_numbers (Some p) e)

    abbrev IsTemplate : Template → Type 0
    IsTemplate t = (n : ExpandedName) → t.name ≡ Some n → number n < length states

    -- all numbers are in range
    pub calls_within : first_undefined ns (all_calls ts) ≡ None → AllByRecursion (IsWithin (length states)) (numbered_calls ns ts)
    calls_within e =
        subst (AllByRecursion (IsWithin (length states))) (numbers_from_calls ns ts)
        (back (calls_of ts) (both (calls_of ts) (all_standing (λ s. IsTemplate s.template) ts (λ t c h k. named t h)) (recursion_from_All (λ s. IsDefined ts s.call) (calls_of ts) (defined_calls ts e))))
      where
        sizes : length rows ≡ length states
        sizes = sym cs.size

        named : (t : Template) → Contains ts t → IsTemplate t
        named t h n is = subst (λ k. number n < k) sizes (number_at t n h is).0

        one : (s : StandingCall) → IsTemplate s.template → IsDefined ts s.call → IsWithin (length states) (numbered_of ns s)
        one s h d = (by s.template.name refl, omega (arith, number_below s.call.name ns (listed s.call.name ns d), same_length ns ts, sizes))
          where
            by : (o : Option ExpandedName) → s.template.name ≡ o → IfSome (option_map number o) (λ k. k < length states)
            by None is = tt
            by (Some n) is = h n is

        both : (xs : List StandingCall) → AllByRecursion (λ s. IsTemplate s.template) xs → AllByRecursion (λ s. IsDefined ts s.call) xs → AllByRecursion (λ s. IsWithin (length states) (numbered_of ns s)) xs
        both [] h k = tt
        both (x ∷ xs) h k = (one x h.0 k.0, both xs h.1 k.1)

        back : (xs : List StandingCall) → AllByRecursion (λ s. IsWithin (length states) (numbered_of ns s)) xs → AllByRecursion (IsWithin (length states)) (map (numbered_of ns) xs)
        back [] h = tt
        back (x ∷ xs) h = (h.0, back xs h.1)

-- what holds of all that a list becomes
pub all_unmap : {X Y : Type 0} (P : Y → Type 0) (f : X → Y) (xs : List X) → AllByRecursion P (map f xs) → All (λ x. P (f x)) xs
all_unmap {X} {Y} P f xs h = All-from_recursion (λ x. P (f x)) xs (by xs h)
  where
    by : (xs : List X) → AllByRecursion P (map f xs) → AllByRecursion (λ x. P (f x)) xs
    by [] h = tt
    by (x ∷ xs) h = (h.0, by xs h.1)
