-- The stylesheet of a tree whose names and texts are lawful is well-formed.
use Rattle.std.proofs.Common.{◌≡◌, ◌⊎◌, inl, inr, ℕ, zero, suc, ◌+◌, ◌≤◌, Bool, true, false, cond, not, ◌||◌, List, [], ◌∷◌, ◌++◌, refl, ap, ◌∙◌, sym, subst, arith, Option, None, Some, is_some, length, map, flat_map, filter, get_or, All, Contains, if◌then◌else◌, true≢false}
use Rattle.std.proofs.lemmas.List.{length-map}
use Rattle.std.proofs.lemmas.List.Folds.{list_any-append}
use Rattle.std.proofs.lemmas.List.Elements.{All-contains, All-from_recursion, recursion_from_All, Contains-append_left, Contains-append_right, Contains-append_cases, filter_passes}
use Rattle.std.proofs.lemmas.Option.{slice_get-get_or}
use Rattle.std.specs.List.{AllByRecursion, IsDistinct, list_any}
use Rattle.tc_graph.specs.Graph.{Path}
use Rattle.tc_model.specs.Names.{ExpandedName, same_name}
use Rattle.tc_model.specs.Numbered.{each_once_after}
use Rattle.tc_model.specs.PathTextPhrases.{Alternative}
use Rattle.tc_model.specs.Sheets.{Rule, Sheet, CallFreeBody, Inlines}
use Rattle.tc_model.specs.SheetTextTrees.{Template, makes_rules, is_used}
use Rattle.tc_model.specs.SheetText.{one_name, modes_in_body, calls_in_body, eaches_in, eaches_of, mode_number, modes_of, names_of, NumberedTemplate, first_eaches, numbered_templates, sheet_of, StandingCall, calls_of, IsDefined, IsLoop}
use Rattle.tc_model.specs.WellFormed as w
use Rattle.tc_model.specs.WellFormed.{ForEach, IsBody, IsRule, IsSheet}
use Rattle.tc_sheet.specs.Graphs.{callees, first_at, is_undefined, first_undefined, all_calls}
use Rattle.tc_sheet.specs.Laws.{HasLawfulSheet}
use Rattle.tc_sheet.specs.Numbers.{body_with, rule_from, rules_with, named_with}
use Rattle.tc_sheet.specs.Tables.{modes_in}
use Rattle.tc_sheet.proofs.CallLaws.{first_map, stand, stands, names_from_calls, same_length, is_graph, no_cycle, contains_map, map_contains, beside}
use Rattle.tc_sheet.proofs.LawfulBodies.{IsLawfulTemplate, AreTemplatesLawful, stylesheet_lawful}
use Rattle.tc_sheet.proofs.LawfulCalls.{called_in}
use Rattle.tc_sheet.proofs.LawfulEaches.{all_eaches, all_numbers, among_all, eaches_of_one, in_rules_of, in_others_of, of_rules, of_others, same_number, of_number}
use Rattle.tc_sheet.proofs.LawfulEnds.{named_rows, all_end}
use Rattle.tc_sheet.proofs.LawfulNumbers.{split, append_all, HasMode, HasName, mode_below, numbered_is}
use Rattle.tc_sheet.proofs.LawfulPaths.{AreAlternatives}
use Rattle.tc_sheet.proofs.NameNumbers.{is_same, listed, number_below}
use Rattle.tc_sheet.proofs.NumberLaws.{all_counted, others_of}
use Rattle.tc_sheet.proofs.SheetLaws.{used_names}
use Rattle.tc_sheet.proofs.TableLaws.{moved}

-- lists in lists
flat_contains : {X Y : Type 0} (f : X → List Y) (xs : List X) (x : X) (y : Y) → Contains xs x → Contains (f x) y → Contains (flat_map f xs) y
flat_contains f [] x y (k, l, e) h = absurd (omega (arith, l))
flat_contains {X} {Y} f (z ∷ xs) x y (zero, l, e) h = Contains-append_left (f z) (flat_map f xs) y (subst (λ v. Contains (f v) y) (sym e) h)
flat_contains f (z ∷ xs) x y (suc k, l, e) h = Contains-append_right (f z) (flat_map f xs) y (flat_contains f xs x y (k, omega (arith, l), e) h)

contains_flat : {X Y : Type 0} (f : X → List Y) (xs : List X) (y : Y) → Contains (flat_map f xs) y → (x : X) × Contains xs x × Contains (f x) y
contains_flat f [] y (k, l, e) = absurd (omega (arith, l))
contains_flat {X} {Y} f (z ∷ xs) y c = by (Contains-append_cases (f z) (flat_map f xs) y c) (contains_flat f xs y)
  where
    by : Contains (f z) y ⊎ Contains (flat_map f xs) y → (Contains (flat_map f xs) y → (x : X) × Contains xs x × Contains (f x) y) → (x : X) × Contains (z ∷ xs) x × Contains (f x) y
    by (inl a) g = (z, (0, omega arith, refl), a)
    by (inr b) g = let (x, h, k) = g b in (x, beside z xs x h, k)

flat_split : {X Y : Type 0} (P : Y → Type 0) (f : X → List Y) (xs : List X) → AllByRecursion P (flat_map f xs) → AllByRecursion (λ x. AllByRecursion P (f x)) xs
flat_split P f [] h = tt
flat_split P f (x ∷ xs) h = let (a, b) = split P (f x) (flat_map f xs) h in (a, flat_split P f xs b)

-- each of a list is among those that are kept once
abbrev is_in : ExpandedName → List ExpandedName → Bool
is_in x xs = list_any (same_name x) xs

all_once : (s xs : List ExpandedName) → AllByRecursion (λ y. is_in y (s ++ each_once_after same_name s xs) ≡ true) xs
all_once s [] = tt
all_once s (x ∷ xs) = by (is_in x s) refl (all_once s xs) (all_once (x ∷ s) xs)
  where
    or_true : (a b : Bool) → a ≡ true → (a || b) ≡ true
    or_true true b e = refl
    or_true false b e = absurd (true≢false (sym e))

    over : (ys later : List ExpandedName) → AllByRecursion (λ y. is_in y ((x ∷ s) ++ later) ≡ true) ys → AllByRecursion (λ y. is_in y (s ++ x ∷ later) ≡ true) ys
    over [] later h = tt
    over (y ∷ ys) later h = (sym (moved same_name x y s later) ∙ h.0, over ys later h.1)

    by : (b : Bool) → is_in x s ≡ b → AllByRecursion (λ y. is_in y (s ++ each_once_after same_name s xs) ≡ true) xs
        → AllByRecursion (λ y. is_in y ((x ∷ s) ++ each_once_after same_name (x ∷ s) xs) ≡ true) xs → AllByRecursion (λ y. is_in y (s ++ each_once_after same_name s (x ∷ xs)) ≡ true) (x ∷ xs)
    by true e f g =
        subst (λ c. AllByRecursion (λ y. is_in y (s ++ (if c then each_once_after same_name s xs else (x ∷ each_once_after same_name (x ∷ s) xs))) ≡ true) (x ∷ xs)) (sym e)
        (list_any-append (same_name x) s (each_once_after same_name s xs) ∙ or_true (is_in x s) (is_in x (each_once_after same_name s xs)) e, f)
    by false e f g =
        let later = each_once_after same_name (x ∷ s) xs in
        subst (λ c. AllByRecursion (λ y. is_in y (s ++ (if c then each_once_after same_name s xs else (x ∷ each_once_after same_name (x ∷ s) xs))) ≡ true) (x ∷ xs)) (sym e)
        (sym (moved same_name x x s later) ∙ or_true (same_name x x) (is_in x (s ++ later)) (is_same x), over xs later g)

-- where all calls have a template
none_undefined : (ts : List Template) → All (λ s. IsDefined ts s.call) (calls_of ts) → first_undefined (names_of ts) (all_calls ts) ≡ None
none_undefined ts h =
    ap (first_undefined (names_of ts)) (sym (names_from_calls ts))
    ∙ (first_map (λ (s : StandingCall). s.call) (is_undefined (names_of ts)) (λ c. c.place) (calls_of ts) ∙ by (calls_of ts) (recursion_from_All (λ s. IsDefined ts s.call) (calls_of ts) h))
  where
    by : (xs : List StandingCall) → AllByRecursion (λ s. IsDefined ts s.call) xs → first_at (λ (s : StandingCall). is_undefined (names_of ts) s.call) (λ s. s.call.place) xs ≡ None
    by [] h = refl
    by (x ∷ xs) h = one (list_any (same_name x.call.name) (names_of ts)) x.call.place (first_at (λ (s : StandingCall). is_undefined (names_of ts) s.call) (λ s. s.call.place) xs) (listed x.call.name (names_of ts) h.0) (by xs h.1)
      where
        one : (b : Bool) (p : ℕ) (o : Option ℕ) → b ≡ true → o ≡ None → (if not b then Some p else o) ≡ None
        one true p o e f = f
        one false p o e f = absurd (true≢false (sym e))

module _ (total : ℕ) (ts : List Template) (used : All (λ t. is_used t ≡ true) ts) (lawful : AreTemplatesLawful total ts) (once : IsDistinct same_name (names_of ts))
    (defined : All (λ s. IsDefined ts s.call) (calls_of ts)) (no_loop : All (λ s. IsLoop ts s → ⊥) (calls_of ts)) where
  abbrev modes : List ExpandedName
  modes = modes_of ts

  abbrev names : List ExpandedName
  names = names_of ts

  abbrev sheet : Sheet
  sheet = sheet_of ts

  abbrev first_others : ℕ
  first_others = eaches_of (filter makes_rules ts)

  abbrev all_numbered : List NumberedTemplate
  all_numbered = numbered_templates ts

  rows : map called_in sheet.named ≡ callees names ts
  rows = named_rows modes names 0 first_others ts

  named_are : length sheet.named ≡ length names
  named_are = sym (length-map sheet.named called_in) ∙ (ap length rows ∙ same_length names ts)

  -- what is known of each template
  record IsGood (t : Template) : Type 0 where
    lawful_parts : IsLawfulTemplate total t
    mode : AllByRecursion (HasMode modes names sheet refl named_are) (one_name t.mode)
    inner : AllByRecursion (HasMode modes names sheet refl named_are) (modes_in_body t.body)
    calls : AllByRecursion (HasName modes names sheet refl named_are) (calls_in_body t.body)

  modes_below : (xs : List ExpandedName) → AllByRecursion (λ y. is_in y modes ≡ true) xs → AllByRecursion (HasMode modes names sheet refl named_are) xs
  modes_below [] h = tt
  modes_below (x ∷ xs) h = (number_below x modes h.0, modes_below xs h.1)

  names_below : (xs : List StandingCall) → AllByRecursion (λ s. IsDefined ts s.call) xs → AllByRecursion (HasName modes names sheet refl named_are) (map (λ (s : StandingCall). s.call) xs)
  names_below [] h = tt
  names_below (x ∷ xs) h = (number_below x.call.name names (listed x.call.name names h.0), names_below xs h.1)

  all_good : AllByRecursion IsGood ts
  all_good =
      by ts lawful (flat_split (HasMode modes names sheet refl named_are) modes_in ts (modes_below (flat_map modes_in ts) (all_once [] (flat_map modes_in ts))))
      (flat_split (HasName modes names sheet refl named_are) (λ t. calls_in_body t.body) ts
      (subst (AllByRecursion (HasName modes names sheet refl named_are)) (names_from_calls ts) (names_below (calls_of ts) (recursion_from_All (λ s. IsDefined ts s.call) (calls_of ts) defined))))
    where
      by : (us : List Template) → AreTemplatesLawful total us → AllByRecursion (λ t. AllByRecursion (HasMode modes names sheet refl named_are) (modes_in t)) us
          → AllByRecursion (λ t. AllByRecursion (HasName modes names sheet refl named_are) (calls_in_body t.body)) us → AllByRecursion IsGood us
      by [] l m c = tt
      by (t ∷ us) l m c =
          let (a, b) = split (HasMode modes names sheet refl named_are) (one_name t.mode) (modes_in_body t.body) m.0 in
          (record { lawful_parts = l.0; mode = a; inner = b; calls = c.0 }, by us l.1 m.1 c.1)

  record IsGoodBody (t : NumberedTemplate) : Type 0 where
    good : IsGood t.template
    body : IsBody sheet (body_with modes names t)

  all_bodies : (in_rules others : ℕ) (us : List Template) → AllByRecursion IsGood us → in_rules + eaches_of (filter makes_rules us) ≤ sheet.eaches → others + others_of us ≤ sheet.eaches
      → AllByRecursion IsGoodBody (first_eaches in_rules others us)
  all_bodies in_rules others [] g a b = tt
  all_bodies in_rules others (t ∷ us) g a b = by (makes_rules t) a b (all_bodies (in_rules + eaches_in t.body) others us g.1) (all_bodies in_rules (others + eaches_in t.body) us g.1)
    where
      one : (k : ℕ) → k + eaches_in t.body ≤ sheet.eaches → IsGoodBody (record { template = t; first = k })
      one k h = record { good = g.0; body = numbered_is modes names sheet refl named_are k t.body g.0.lawful_parts.body g.0.inner g.0.calls h }

      by : (b : Bool) → in_rules + eaches_of (cond b (t ∷ filter makes_rules us) (filter makes_rules us)) ≤ sheet.eaches → others + ((if b then 0 else eaches_in t.body) + others_of us) ≤ sheet.eaches
          → (in_rules + eaches_in t.body + eaches_of (filter makes_rules us) ≤ sheet.eaches → others + others_of us ≤ sheet.eaches → AllByRecursion IsGoodBody (first_eaches (in_rules + eaches_in t.body) others us))
          → (in_rules + eaches_of (filter makes_rules us) ≤ sheet.eaches → others + eaches_in t.body + others_of us ≤ sheet.eaches → AllByRecursion IsGoodBody (first_eaches in_rules (others + eaches_in t.body) us))
          → AllByRecursion IsGoodBody
          (if b
          then (record { template = t; first = in_rules } ∷ first_eaches (in_rules + eaches_in t.body) others us)
          else (record { template = t; first = others } ∷ first_eaches in_rules (others + eaches_in t.body) us))
      by true a b f g = (one in_rules (omega (arith, a)), f (omega (arith, a)) (omega (arith, b)))
      by false a b f g = (one others (omega (arith, b)), g a (omega (arith, b)))

  good_bodies : AllByRecursion IsGoodBody all_numbered
  good_bodies = let count = all_counted ts in all_bodies 0 first_others ts all_good (omega (arith, count)) (omega (arith, count))

  rules_of_one : (t : NumberedTemplate) → IsGoodBody t → AllByRecursion (IsRule sheet) (rules_with modes names t)
  rules_of_one t g = by t.template.alternatives g.good.lawful_parts.alternatives
    where
      by : (xs : List Alternative) → AreAlternatives xs → AllByRecursion (IsRule sheet) (map (rule_from (mode_number modes names t.template.mode) (body_with modes names t)) xs)
      by [] a = tt
      by (x ∷ xs) a = (record { mode = mode_below modes names sheet refl named_are t.template.mode g.good.mode; pattern = a.0; body = g.body }, by xs a.1)

  all_rules : (us : List NumberedTemplate) → AllByRecursion IsGoodBody us → AllByRecursion (IsRule sheet) (flat_map (rules_with modes names) us)
  all_rules [] g = tt
  all_rules (u ∷ us) g = append_all (IsRule sheet) (rules_with modes names u) (flat_map (rules_with modes names) us) (rules_of_one u g.0) (all_rules us g.1)

  named_of_one : (t : NumberedTemplate) → IsGoodBody t → AllByRecursion (IsBody sheet) (named_with modes names t)
  named_of_one t g = by (one_name t.template.name)
    where
      by : (ns : List ExpandedName) → AllByRecursion (IsBody sheet) (map (λ n. body_with modes names t) ns)
      by [] = tt
      by (n ∷ ns) = (g.body, by ns)

  all_named : (us : List NumberedTemplate) → AllByRecursion IsGoodBody us → AllByRecursion (IsBody sheet) (flat_map (named_with modes names) us)
  all_named [] g = tt
  all_named (u ∷ us) g = append_all (IsBody sheet) (named_with modes names u) (flat_map (named_with modes names) us) (named_of_one u g.0) (all_named us g.1)

  -- calls end
  acyclic : (k : ℕ) → Path (callees names ts) k k → ⊥
  acyclic k p = no_cycle ts once (λ t c h i l. All-contains (λ s. IsLoop ts s → ⊥) (calls_of ts) (stand t c) no_loop (stands ts t c h i) l) p refl

  all_unfold : All (λ b. (p : CallFreeBody) × Inlines sheet.named b p) sheet.named
  all_unfold k d l = all_end sheet.named (callees names ts) rows (is_graph ts once (none_undefined ts defined)) acyclic k (get_or sheet.named k d) (slice_get-get_or sheet.named k d l)

  -- for-eaches
  in_all : (x : ForEach) → Contains (w.eaches_of sheet) x → Contains (all_eaches modes names ts) x
  in_all x c = by (Contains-append_cases (flat_map (λ (r : Rule). w.eaches_in r.body) sheet.rules) (flat_map (λ b. w.eaches_in b) sheet.named) x c)
    where
      joined : Contains (in_rules_of modes names 0 ts) x ⊎ Contains (in_others_of modes names first_others ts) x → Contains (all_eaches modes names ts) x
      joined (inl a) = Contains-append_left (in_rules_of modes names 0 ts) (in_others_of modes names first_others ts) x a
      joined (inr a) = Contains-append_right (in_rules_of modes names 0 ts) (in_others_of modes names first_others ts) x a

      at : (t : NumberedTemplate) → Contains all_numbered t → Contains (eaches_of_one modes names t) x → Contains (all_eaches modes names ts) x
      at t h e = joined (among_all modes names 0 first_others ts t x h e)

      by : Contains (flat_map (λ (r : Rule). w.eaches_in r.body) sheet.rules) x ⊎ Contains (flat_map (λ b. w.eaches_in b) sheet.named) x → Contains (all_eaches modes names ts) x
      by (inl a) =
          let (r, h, e) = contains_flat (λ (r : Rule). w.eaches_in r.body) sheet.rules x a in
          let (t, i, f) = contains_flat (rules_with modes names) all_numbered r h in
          let (y, j, g) = contains_map (rule_from (mode_number modes names t.template.mode) (body_with modes names t)) t.template.alternatives r f in
          at t i (subst (λ (z : Rule). Contains (w.eaches_in z.body) x) (sym g) e)
      by (inr a) =
          let (b, h, e) = contains_flat (λ b. w.eaches_in b) sheet.named x a in
          let (t, i, f) = contains_flat (named_with modes names) all_numbered b h in
          let (y, j, g) = contains_map (λ n. body_with modes names t) (one_name t.template.name) b f in
          at t i (subst (λ z. Contains (w.eaches_in z) x) (sym g) e)

  some_rule : (t : Template) → makes_rules t ≡ true → (y : Alternative) × Contains t.alternatives y
  some_rule t e = by t.alternatives refl
    where
      by : (xs : List Alternative) → t.alternatives ≡ xs → (y : Alternative) × Contains t.alternatives y
      by [] is = absurd (none (subst (λ zs. makes_rules (record { alternatives = zs; name = t.name; mode = t.mode; body = t.body; place = t.place }) ≡ true) is e))
        where
          none : false ≡ true → ⊥
          none f = true≢false (sym f)
      by (y ∷ ys) is = (y, subst (λ zs. Contains zs y) (sym is) (0, omega arith, refl))

  some_name : (t : Template) → makes_rules t ≡ false → is_used t ≡ true → (n : ExpandedName) × (t.name ≡ Some n)
  some_name t e u = by t.name refl (ap (λ b. b || is_some t.name) (sym e) ∙ u)
    where
      by : (o : Option ExpandedName) → t.name ≡ o → is_some t.name ≡ true → (n : ExpandedName) × (t.name ≡ Some n)
      by None is f = absurd (true≢false (sym f ∙ ap is_some is))
      by (Some n) is f = (n, is)

  template_of : (in_rules others : ℕ) (us : List Template) (t : NumberedTemplate) → Contains (first_eaches in_rules others us) t → Contains us t.template
  template_of in_rules others [] t (k, l, e) = absurd (omega (arith, l))
  template_of in_rules others (u ∷ us) t c = by (makes_rules u) c (template_of (in_rules + eaches_in u.body) others us t) (template_of in_rules (others + eaches_in u.body) us t)
    where
      at : (f : NumberedTemplate) (fs : List NumberedTemplate) → f.template ≡ u → Contains (f ∷ fs) t → (Contains fs t → Contains us t.template) → Contains (u ∷ us) t.template
      at f fs is (zero, l, e) g = (0, omega arith, sym is ∙ ap (λ (z : NumberedTemplate). z.template) e)
      at f fs is (suc k, l, e) g = beside u us t.template (g (k, omega (arith, l), e))

      by : (b : Bool)
          → Contains
          (if b
          then (record { template = u; first = in_rules } ∷ first_eaches (in_rules + eaches_in u.body) others us)
          else (record { template = u; first = others } ∷ first_eaches in_rules (others + eaches_in u.body) us))
          t
          → (Contains (first_eaches (in_rules + eaches_in u.body) others us) t → Contains us t.template) → (Contains (first_eaches in_rules (others + eaches_in u.body) us) t → Contains us t.template) → Contains (u ∷ us) t.template
      by true c f g = at (record { template = u; first = in_rules }) (first_eaches (in_rules + eaches_in u.body) others us) refl c f
      by false c f g = at (record { template = u; first = others }) (first_eaches in_rules (others + eaches_in u.body) us) refl c g

  from_all : (x : ForEach) → Contains (all_eaches modes names ts) x → Contains (w.eaches_of sheet) x
  from_all x c = by (Contains-append_cases (in_rules_of modes names 0 ts) (in_others_of modes names first_others ts) x c)
    where
      by : Contains (in_rules_of modes names 0 ts) x ⊎ Contains (in_others_of modes names first_others ts) x → Contains (w.eaches_of sheet) x
      by (inl a) =
          let o = of_rules modes names 0 first_others ts x a in
          let t = o.template in
          let (y, j) = some_rule t.template o.kind in
          let r : Rule = rule_from (mode_number modes names t.template.mode) (body_with modes names t) y in
          let one : Contains (rules_with modes names t) r = map_contains (rule_from (mode_number modes names t.template.mode) (body_with modes names t)) t.template.alternatives y j in
          Contains-append_left (flat_map (λ (z : Rule). w.eaches_in z.body) sheet.rules) (flat_map (λ b. w.eaches_in b) sheet.named) x
          (flat_contains (λ (z : Rule). w.eaches_in z.body) sheet.rules r x (flat_contains (rules_with modes names) all_numbered t r o.has one) o.eaches)
      by (inr a) =
          let o = of_others modes names 0 first_others ts x a in
          let t = o.template in
          let (n, is) = some_name t.template o.kind (All-contains (λ u. is_used u ≡ true) ts t.template used (template_of 0 first_others ts t o.has)) in
          let one : Contains (named_with modes names t) (body_with modes names t) = subst (λ z. Contains (map (λ n. body_with modes names t) (one_name z)) (body_with modes names t)) (sym is) (0, omega arith, refl) in
          Contains-append_right (flat_map (λ (z : Rule). w.eaches_in z.body) sheet.rules) (flat_map (λ b. w.eaches_in b) sheet.named) x
          (flat_contains (λ b. w.eaches_in b) sheet.named (body_with modes names t) x (flat_contains (named_with modes names) all_numbered t (body_with modes names t) o.has one) o.eaches)

  pub is_sheet : IsSheet sheet
  is_sheet = record {
    modes = omega arith;
    rules = All-from_recursion (IsRule sheet) sheet.rules (all_rules all_numbered good_bodies);
    named = All-from_recursion (IsBody sheet) sheet.named (all_named all_numbered good_bodies);
    calls = all_unfold;
    same_eaches = λ a b c d e. same_number sheet.eaches (all_eaches modes names ts) a b (all_numbers modes names ts sheet.eaches (all_counted ts)) (in_all a c) (in_all b d) e;
    each_number = λ i l. let (x, c, e) = of_number sheet.eaches (all_eaches modes names ts) i (all_numbers modes names ts sheet.eaches (all_counted ts)) l in (x, from_all x c, e);
  }

lawful_used : (total : ℕ) (ts : List Template) → AreTemplatesLawful total ts → AreTemplatesLawful total (filter is_used ts)
lawful_used total [] l = tt
lawful_used total (t ∷ ts) l = by (is_used t) (lawful_used total ts l.1)
  where
    by : (b : Bool) → AreTemplatesLawful total (filter is_used ts) → AreTemplatesLawful total (cond b (t ∷ filter is_used ts) (filter is_used ts))
    by true f = (l.0, f)
    by false f = f

pub lawful_sheet : HasLawfulSheet
lawful_sheet total raw s a t =
    let ts = filter is_used t.templates in
    let once : IsDistinct same_name (names_of ts) = subst (IsDistinct same_name) (sym (used_names t.templates)) t.once in
    subst IsSheet (sym t.means) (is_sheet total ts (filter_passes is_used t.templates) (lawful_used total t.templates (stylesheet_lawful total a t.written)) once t.defined t.no_loop)
