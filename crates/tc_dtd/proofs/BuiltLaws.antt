-- What the steps of making a grammar show of the whole.
use Rattle.std.proofs.Common.{◌≡◌, ◌+◌, ◌^◌, ◌<◌, ◌≤◌, ℕ, zero, suc, Bool, true, false, cond, ◌||◌, List, [], ◌∷◌, ◌++◌, refl, ap, ◌∙◌, sym, arith, Option, Some, None, is_some, map, length, drop, take, get_or, bytes_eq, position, append_assoc, add-one, Bor}
use Rattle.std.specs.List.{filter_map, list_any, IsDistinct, AllByRecursion}
use Rattle.std.specs.Option.{option_map}
use Rattle.std.proofs.lemmas.Bool.{true≢false, false_from_ne_true}
use Rattle.std.proofs.lemmas.List.Elements.{filter_map-append}
use Rattle.std.proofs.lemmas.List.{drop_more, drop_all, map-append, length-map, take_more, take_all}
use Rattle.std.proofs.lemmas.List.Quantifiers.{position-Some}
use Rattle.indexmap.specs.IndexSet.{insert_key}
use Rattle.tc_graph.specs.Graph.{is_marked}
use Rattle.tc_model.specs.Grammars as g
use Rattle.tc_model.specs.Grammars.{ElementPattern}
use Rattle.tc_model.specs.Views as seen
use Rattle.tc_model.specs.declared.grammar.NameClass.TheVariants as classes
use Rattle.tc_model.specs.declared.grammar.Pat.{Pat}
use Rattle.tc_model.specs.declared.tree.Name.{Name}
use Rattle.tc_model.proofs.ViewsGrammar.{see_name, patterns_then, pushed_pattern, patterns_then_none, patterns_then_assoc}
use Rattle.tc_dtd.specs.Declarations as t
use Rattle.tc_dtd.specs.Built as built
use Rattle.tc_dtd.specs.Numbers.{number_in, numbers_below, marked_from, AreApart}
use Rattle.tc_dtd.specs.Views as see
use Rattle.tc_dtd.specs.declared.declarations.Particle.{Particle}
use Rattle.tc_dtd.specs.declared.declarations.Decl.{Decl}
use Rattle.tc_dtd.proofs.ViewsLaws.{left_particle}
use Rattle.tc_dtd.proofs.NamedLaws.{same_bytes, bytes_same}
use Rattle.tc_dtd.proofs.OnceLaws.{same_key}

-- numbers of names

turned : (a b : List ℕ) → bytes_eq a b ≡ bytes_eq b a
turned a b = by (bytes_eq a b) refl
  where
    by : (x : Bool) → bytes_eq a b ≡ x → bytes_eq a b ≡ bytes_eq b a
    by true e = e ∙ sym (bytes_same b a (sym (same_bytes a b e)))
    by false e = e ∙ sym (false_from_ne_true (bytes_eq b a) (λ f. true≢false (sym (bytes_same a b (sym (same_bytes b a f))) ∙ e)))

first_place : (ks : List (Bor (List ℕ))) (n d : Bor (List ℕ)) (i : ℕ) → i < length ks → same_key n (get_or ks i d) ≡ true → ((k : ℕ) → k < i → same_key n (get_or ks k d) ≡ false)
    → number_in (see.names ks) n.now ≡ Some i
first_place [] n d i l e before = absurd (omega (arith, l))
first_place (k ∷ ks) n d zero l e before = ap (λ b. cond b (Some 0) (option_map (λ k. k + 1) (number_in (see.names ks) n.now))) (turned k.now n.now ∙ e)
first_place (k ∷ ks) n d (suc i) l e before =
    let rest = first_place ks n d i (omega (arith, l)) e (λ j h. before (suc j) (omega (arith, h))) in
    let next : i + 1 ≡ suc i = omega arith in
    ap (λ b. cond b (Some 0) (option_map (λ k. k + 1) (number_in (see.names ks) n.now))) (turned k.now n.now ∙ before 0 (omega arith))
    ∙ (ap (option_map (λ k. k + 1)) rest ∙ ap Some next)

no_place : (ks : List (Bor (List ℕ))) (n : Bor (List ℕ)) → list_any (same_key n) ks ≡ false → number_in (see.names ks) n.now ≡ None
no_place [] n e = refl
no_place (k ∷ ks) n e = by (same_key n k) refl e (no_place ks n)
  where
    by : (b : Bool) → same_key n k ≡ b → (same_key n k || list_any (same_key n) ks) ≡ false → (list_any (same_key n) ks ≡ false → number_in (see.names ks) n.now ≡ None) → number_in (see.names (k ∷ ks)) n.now ≡ None
    by true i h rec = absurd (true≢false (ap (λ b. b || list_any (same_key n) ks) (sym i) ∙ h))
    by false i h rec =
        ap (λ b. cond b (Some 0) (option_map (λ k. k + 1) (number_in (see.names ks) n.now))) (turned k.now n.now ∙ i)
        ∙ ap (option_map (λ k. k + 1)) (rec (ap (λ b. b || list_any (same_key n) ks) (sym i) ∙ h))

pub number_is : (o : Option ℕ) (ks : List (Bor (List ℕ))) (n : Bor (List ℕ)) → o ≡ position (same_key n) ks → is_some o ≡ list_any (same_key n) ks → o ≡ number_in (see.names ks) n.now
number_is (Some i) ks n e f = let (l, at, before) = position-Some (same_key n) ks i n (sym e) in sym (first_place ks n n i l at before)
number_is None ks n e f = sym (no_place ks n (sym f))

-- a name that isn't declared
pub undeclared : (ns : List (List ℕ)) (n : List ℕ) → number_in ns n ≡ None → g.not_allowed ≡ built.reference ns n
undeclared ns n e = sym (ap (λ (o : Option ℕ). elim o [ Some k ↦ g.ref (k + 1) | None ↦ g.not_allowed ]) e)

pub number_within : (ns : List (List ℕ)) (n : List ℕ) (k : ℕ) → number_in ns n ≡ Some k → k < length ns
number_within [] n k e = absurd (cc)
number_within (m ∷ ms) n k e = by (bytes_eq m n) (λ j i. number_within ms n j i) (number_in ms n) refl e
  where
    by : (b : Bool) → ((j : ℕ) → number_in ms n ≡ Some j → j < length ms) → (o : Option ℕ) → number_in ms n ≡ o → cond b (Some 0) (option_map (λ k. k + 1) o) ≡ Some k → k < suc (length ms)
    by true rec o i h = let z : 0 ≡ k = cc in omega (arith, z)
    by false rec (Some j) i h = let z : j + 1 ≡ k = cc in omega (arith, z, rec j i)
    by false rec None i h = absurd (cc)

-- names that are apart

apart_at : (m : List ℕ) (ds : List Decl) (i : ℕ) (d : Decl) → AllByRecursion (λ n. bytes_eq m n ≡ false) (map (λ x. x.name) (map see.declaration ds)) → i < length ds → bytes_eq m (get_or ds i d).name.now ≡ false
apart_at m [] i d a l = absurd (omega (arith, l))
apart_at m (x ∷ xs) zero d a l = a.0
apart_at m (x ∷ xs) (suc i) d a l = apart_at m xs i d a.1 (omega (arith, l))

new_here : (ds : List Decl) (i : ℕ) (d : Decl) → i < length ds → AreApart (map (λ x. x.name) (map see.declaration ds)) → list_any (same_key (get_or ds i d).name) (map (λ x. x.name) (take i ds)) ≡ false
unfolding IsDistinct
new_here [] i d l a = absurd (omega (arith, l))
new_here (x ∷ xs) zero d l a = refl
new_here (x ∷ xs) (suc i) d l a =
    let one : same_key (get_or xs i d).name x.name ≡ false = turned (get_or xs i d).name.now x.name.now ∙ apart_at x.name.now xs i d a.0 (omega (arith, l)) in
    ap (λ b. b || list_any (same_key (get_or xs i d).name) (map (λ y. y.name) (take i xs))) one ∙ new_here xs i d (omega (arith, l)) a.1

pub names_more : (ds : List Decl) (i : ℕ) (d : Decl) (keys new : List (Bor (List ℕ))) → i < length ds → AreApart (map (λ x. x.name) (map see.declaration ds)) → keys ≡ map (λ x. x.name) (take i ds)
    → new ≡ insert_key same_key keys (get_or ds i d).name → new ≡ map (λ x. x.name) (take (i + 1) ds)
names_more ds i d keys new l a e f =
    let name = (get_or ds i d).name in
    let none : list_any (same_key name) keys ≡ false = ap (list_any (same_key name)) e ∙ new_here ds i d l a in
    f
    ∙ (ap (λ b. cond b keys (keys ++ name ∷ [])) none
    ∙ (ap (λ w. w ++ name ∷ []) e
    ∙ sym (ap (map (λ x. x.name)) (take_more ds i d l) ∙ map-append (λ x. x.name) (take i ds) (get_or ds i d ∷ []))))

names_seen : (ds : List Decl) → see.names (map (λ x. x.name) ds) ≡ map (λ x. x.name) (map see.declaration ds)
names_seen [] = refl
names_seen (x ∷ xs) = ap (λ w. x.name.now ∷ w) (names_seen xs)

pub names_all : (ds : List Decl) (i : ℕ) (keys : List (Bor (List ℕ))) → length ds ≤ i → keys ≡ map (λ x. x.name) (take i ds) → see.names keys ≡ map (λ x. x.name) (map see.declaration ds)
names_all ds i keys l e = ap see.names (e ∙ ap (map (λ x. x.name)) (take_all i ds l)) ∙ names_seen ds

-- links

pub below_more : (n : ℕ) (out new : List ℕ) → out ≡ numbers_below n → new ≡ out ++ n ∷ [] → new ≡ numbers_below (n + 1)
below_more n out new e more = rw add-one (more ∙ ap (λ w. w ++ n ∷ []) e)

-- one more of the values that are made of items by two steps
pub mapped_more : {A B C D : Type 0} (f : A → D) (h : C → D) (k : B → C) (xs : List B) (i : ℕ) (x : B) (out new : List A) (a : A) → i < length xs → map f out ≡ map h (map k (take i xs))
    → new ≡ out ++ a ∷ [] → f a ≡ h (k (get_or xs i x)) → map f new ≡ map h (map k (take (i + 1) xs))
mapped_more f h k xs i x out new a l e more same =
    ap (map f) more
    ∙ (map-append f out (a ∷ [])
    ∙ (ap (λ w. w ++ f a ∷ []) e
    ∙ (ap (λ w. map h (map k (take i xs)) ++ w ∷ []) same
    ∙ sym (ap (λ w. map h (map k w)) (take_more xs i x l)
    ∙ (ap (map h) (map-append k (take i xs) (get_or xs i x ∷ []))
    ∙ map-append h (map k (take i xs)) (k (get_or xs i x) ∷ []))))))

pub element_is : (ns : List (List ℕ)) (x : t.Declaration) (n : Name) (p : Pat) → seen.name n ≡ record { uri = []; local = x.name } → seen.pattern p ≡ built.content_pattern ns x.content
    → seen.element_pattern (record { names = classes.Name n; content = p }) ≡ built.element_pattern ns x
element_is ns x n p named same =
    let make : g.NameClass → g.Pattern → ElementPattern = λ c q. record { names = c; content = q } in
    ap (λ c. make c (seen.pattern p)) (see_name n ∙ ap g.of_name named) ∙ ap (make (g.of_name (record { uri = []; local = x.name }))) same

pub few_names : (ds : List Decl) (keys : List (Bor (List ℕ))) → see.names keys ≡ map (λ x. x.name) (map see.declaration ds) → length ds ≤ 256 → length (see.names keys) < 2 ^ 31
few_names ds keys e few = omega (arith, ap length e, length-map (map see.declaration ds) (λ (x : t.Declaration). x.name), length-map ds see.declaration)

pub links_next : {X : Type 0} (f : List ℕ → Option X) (ps : List Particle) (i : ℕ) (x : Particle) (old new : List X) → i < length ps → x ≡ get_or ps i x → new ≡ old ++ filter_map f (t.names_in (see.particle x))
    → new ++ filter_map f (t.names_in_all (see.particles (drop (i + 1) ps))) ≡ old ++ filter_map f (t.names_in_all (see.particles (drop i ps)))
links_next f ps i x old new h is e =
    let rest : List (List ℕ) = t.names_in_all (see.particles (drop (i + 1) ps)) in
    ap (λ z. z ++ filter_map f rest) e
    ∙ (append_assoc old (filter_map f (t.names_in (see.particle x))) (filter_map f rest)
    ∙ (ap (λ z. old ++ z) (sym (filter_map-append f (t.names_in (see.particle x)) rest))
    ∙ ap (λ z. old ++ filter_map f (t.names_in_all z)) (sym (left_particle ps i x h is))))

pub names_next : {X : Type 0} (f : List ℕ → Option X) (ns : List (Bor (List ℕ))) (i : ℕ) (x : Bor (List ℕ)) (old new : List X) → i < length ns → new ≡ old ++ filter_map f ((get_or ns i x).now ∷ [])
    → new ++ filter_map f (see.names (drop (i + 1) ns)) ≡ old ++ filter_map f (see.names (drop i ns))
names_next f ns i x old new h e =
    let rest : List (List ℕ) = see.names (drop (i + 1) ns) in
    let one : List ℕ = (get_or ns i x).now in
    ap (λ z. z ++ filter_map f rest) e
    ∙ (append_assoc old (filter_map f (one ∷ [])) (filter_map f rest)
    ∙ (ap (λ z. old ++ z) (sym (filter_map-append f (one ∷ []) rest))
    ∙ ap (λ z. old ++ filter_map f (see.names z)) (sym (drop_more ns i x h))))

-- declarations that are marked

marked_next : (marks : List Bool) (ds : List Decl) (k : ℕ) (x : Decl) → k < length ds
    → marked_from k marks (map see.declaration (drop k ds)) ≡ cond (is_marked marks k) (see.declaration (get_or ds k x) ∷ []) [] ++ marked_from (k + 1) marks (map see.declaration (drop (k + 1) ds))
marked_next marks ds k x l = ap (λ z. marked_from k marks (map see.declaration z)) (drop_more ds k x l) ∙ by (is_marked marks k)
  where
    rest : List t.Declaration
    rest = marked_from (k + 1) marks (map see.declaration (drop (k + 1) ds))

    by : (b : Bool) → cond b (see.declaration (get_or ds k x) ∷ rest) rest ≡ cond b (see.declaration (get_or ds k x) ∷ []) [] ++ rest
    by true = refl
    by false = refl

pub marked_step : (marks : List Bool) (ds : List Decl) (k : ℕ) (x : Decl) (out new : List Decl) → k < length ds
    → map see.declaration new ≡ map see.declaration out ++ cond (is_marked marks k) (see.declaration (get_or ds k x) ∷ []) []
    → map see.declaration new ++ marked_from (k + 1) marks (map see.declaration (drop (k + 1) ds)) ≡ map see.declaration out ++ marked_from k marks (map see.declaration (drop k ds))
marked_step marks ds k x out new l e =
    let rest = marked_from (k + 1) marks (map see.declaration (drop (k + 1) ds)) in
    ap (λ z. z ++ rest) e
    ∙ (append_assoc (map see.declaration out) (cond (is_marked marks k) (see.declaration (get_or ds k x) ∷ []) []) rest
    ∙ ap (λ z. map see.declaration out ++ z) (sym (marked_next marks ds k x l)))

-- patterns

pub patterns_more : (ns : List (List ℕ)) (ps : List Particle) (i : ℕ) (x : Particle) (p : Pat) (out new : List Pat) → i < length ps → x ≡ get_or ps i x
    → seen.pattern p ≡ built.particle_pattern ns (see.particle x) → new ≡ out ++ p ∷ []
    → patterns_then (seen.patterns new) (built.particle_patterns ns (see.particles (drop (i + 1) ps))) ≡ patterns_then (seen.patterns out) (built.particle_patterns ns (see.particles (drop i ps)))
patterns_more ns ps i x p out new small is same e =
    let rest : g.Patterns = built.particle_patterns ns (see.particles (drop (i + 1) ps)) in
    ap (λ z. patterns_then (seen.patterns z) rest) e
    ∙ (ap (λ z. patterns_then z rest) (pushed_pattern out p)
    ∙ (patterns_then_assoc (seen.patterns out) (g.more (seen.pattern p) g.no_more) rest
    ∙ (ap (λ z. patterns_then (seen.patterns out) (g.more z rest)) same
    ∙ ap (λ z. patterns_then (seen.patterns out) (built.particle_patterns ns z)) (sym (left_particle ps i x small is)))))

pub patterns_end : (ns : List (List ℕ)) (ps : List Particle) (i : ℕ) (out : List Pat) → length ps ≤ i
    → patterns_then (seen.patterns out) (built.particle_patterns ns (see.particles (drop i ps))) ≡ built.particle_patterns ns (see.particles ps) → seen.patterns out ≡ built.particle_patterns ns (see.particles ps)
patterns_end ns ps i out all h =
    sym (patterns_then_none (seen.patterns out)) ∙ (ap (λ z. patterns_then (seen.patterns out) (built.particle_patterns ns (see.particles z))) (sym (drop_all i ps all)) ∙ h)

pub references_more : (ns : List (List ℕ)) (ms : List (Bor (List ℕ))) (i : ℕ) (x : Bor (List ℕ)) (p : Pat) (out new : List Pat) → i < length ms
    → seen.pattern p ≡ built.reference ns (get_or ms i x).now → new ≡ out ++ p ∷ []
    → patterns_then (seen.patterns new) (built.references ns (see.names (drop (i + 1) ms))) ≡ patterns_then (seen.patterns out) (built.references ns (see.names (drop i ms)))
references_more ns ms i x p out new small same e =
    let rest : g.Patterns = built.references ns (see.names (drop (i + 1) ms)) in
    ap (λ z. patterns_then (seen.patterns z) rest) e
    ∙ (ap (λ z. patterns_then z rest) (pushed_pattern out p)
    ∙ (patterns_then_assoc (seen.patterns out) (g.more (seen.pattern p) g.no_more) rest
    ∙ (ap (λ z. patterns_then (seen.patterns out) (g.more z rest)) same
    ∙ ap (λ z. patterns_then (seen.patterns out) (built.references ns (see.names z))) (sym (drop_more ms i x small)))))

pub references_end : (ns : List (List ℕ)) (ms : List (Bor (List ℕ))) (i : ℕ) (out : List Pat) (whole : g.Patterns) → length ms ≤ i
    → patterns_then (seen.patterns out) (built.references ns (see.names (drop i ms))) ≡ whole → seen.patterns out ≡ whole
references_end ns ms i out whole all h =
    sym (patterns_then_none (seen.patterns out)) ∙ (ap (λ z. patterns_then (seen.patterns out) (built.references ns (see.names z))) (sym (drop_all i ms all)) ∙ h)
