-- How definitions are gathered by their names.
use Rattle.std.proofs.Common.{◌≡◌, ◌⊎◌, inl, inr, ℕ, zero, suc, ◌+◌, ◌<◌, Bool, true, false, cond, ◌||◌, ◌&&◌, List, [], ◌∷◌, ◌++◌, refl, ap, ◌∙◌, sym, subst, arith, length, get_or, set, take, map, length-append, bytes_eq, Option, None, Some, slice_get}
use Rattle.std.proofs.lemmas.Bool.{true≢false}
use Rattle.std.proofs.lemmas.List.{append-nil, length-map, map-append, take_more}
use Rattle.std.proofs.lemmas.List.Elements.{filter-append}
use Rattle.std.proofs.lemmas.Slice.Eq.{bytes_eq-Decides}
use Rattle.std.specs.List.{list_any}
use Rattle.tc_model.specs.CompactSyntaxTrees.{SyntaxPattern, choice, interleave, Joins, Definition, Syntax}
use Rattle.tc_model.specs.SimplifiesParts.{definitions_of, is_choice, bodies_of, joined_definitions, pattern_of}
use Rattle.tc_model.specs.SimplifiesFaults.{clash, first_clash}
use Rattle.tc_rnc.specs.Views.{definition, pattern, pattern_list, patterns}
use Rattle.tc_rnc.proofs.Views.{patterns_map, pushed_definition}
use Rattle.tc_rnc.specs.declared.syntax.Def.{Def}
use Rattle.tc_rnc.specs.declared.syntax.SPat.{SPat}
use Rattle.tc_simple.specs.Tables.{joined_of, IsTable}
use Rattle.tc_simple.specs.Places.{or_clash, maybe_place}
use Rattle.tc_simple.specs.Groups.{any_of, is_plain, is_interleave, IsGroup, StartsGroup}
use Rattle.tc_simple.specs.Gathered.{number_in, IsGathered, Begins, Grows}
use Rattle.tc_simple.specs.declared.groups.Group.{Group}
use Rattle.tc_simple.specs.declared.groups.Gathered.{Gathered}
use Rattle.tc_simple.specs.declared.groups.Table.{Table}

pub same_bytes : (n : List ℕ) → bytes_eq n n ≡ true
same_bytes n = (bytes_eq-Decides n n).1 refl

pub bytes_are : (m n : List ℕ) → bytes_eq m n ≡ true → m ≡ n
bytes_are m n e = (bytes_eq-Decides m n).0 e

name_or_not : (m n : List ℕ) → (m ≡ n) ⊎ (bytes_eq m n ≡ false)
name_or_not m n = by (bytes_eq m n) refl
  where
    by : (b : Bool) → bytes_eq m n ≡ b → (m ≡ n) ⊎ (bytes_eq m n ≡ false)
    by true e = inl (bytes_are m n e)
    by false e = inr e

or_false : (b : Bool) → (b || false) ≡ b
or_false true = refl
or_false false = refl

or_assoc : (a b c : Bool) → ((a || b) || c) ≡ (a || (b || c))
or_assoc true b c = refl
or_assoc false b c = refl

or_swap : (a b c : Bool) → (a || (b || c)) ≡ (b || (a || c))
or_swap true true c = refl
or_swap true false c = refl
or_swap false true c = refl
or_swap false false c = refl

any_push : {X : Type 0} (f : X → Bool) (xs : List X) (x : X) → list_any f (xs ++ x ∷ []) ≡ (list_any f xs || f x)
any_push f [] x = or_false (f x)
any_push f (y ∷ ys) x = ap (λ b. f y || b) (any_push f ys x) ∙ sym (or_assoc (f y) (list_any f ys) (f x))

-- the definitions of one name where there is one more
same_name_push : (front : List Definition) (d : Definition) (n : List ℕ) → bytes_eq d.name n ≡ true → definitions_of (front ++ d ∷ []) n ≡ definitions_of front n ++ d ∷ []
same_name_push front d n e = filter-append (λ f. bytes_eq f.name n) front (d ∷ []) ∙ ap (λ b. definitions_of front n ++ cond b (d ∷ []) []) e

other_name_push : (front : List Definition) (d : Definition) (n : List ℕ) → bytes_eq d.name n ≡ false → definitions_of (front ++ d ∷ []) n ≡ definitions_of front n
other_name_push front d n e = filter-append (λ f. bytes_eq f.name n) front (d ∷ []) ∙ (ap (λ b. definitions_of front n ++ cond b (d ∷ []) []) e ∙ append-nil (definitions_of front n))

any_same : (test : Joins → Bool) (n : List ℕ) (front : List Definition) (d : Definition) → bytes_eq d.name n ≡ true → any_of test n (front ++ d ∷ []) ≡ (any_of test n front || test d.joins)
any_same test n front d e = any_push (λ f. bytes_eq f.name n && test f.joins) front d ∙ ap (λ b. any_of test n front || (b && test d.joins)) e

any_other : (test : Joins → Bool) (n : List ℕ) (front : List Definition) (d : Definition) → bytes_eq d.name n ≡ false → any_of test n (front ++ d ∷ []) ≡ any_of test n front
any_other test n front d e = any_push (λ f. bytes_eq f.name n && test f.joins) front d ∙ (ap (λ b. any_of test n front || (b && test d.joins)) e ∙ or_false (any_of test n front))

any_none : (test : Joins → Bool) (n : List ℕ) (front : List Definition) → definitions_of front n ≡ [] → any_of test n front ≡ false
any_none test n [] e = refl
any_none test n (d ∷ ds) e = by (bytes_eq d.name n) refl (λ h. any_none test n ds h)
  where
    some_left : {x : Definition} {xs : List Definition} → x ∷ xs ≡ [] → ⊥
    some_left h = cc

    by : (b : Bool) → bytes_eq d.name n ≡ b → (definitions_of ds n ≡ [] → any_of test n ds ≡ false) → any_of test n (d ∷ ds) ≡ false
    by true is h = absurd (some_left (sym (ap (λ b. cond b (d ∷ definitions_of ds n) (definitions_of ds n)) is) ∙ e))
    by false is h = ap (λ b. (b && test d.joins) || any_of test n ds) is ∙ h (sym (ap (λ b. cond b (d ∷ definitions_of ds n) (definitions_of ds n)) is) ∙ e)

-- the first clash where there is one more
turned : List Definition → List Definition → List Definition
turned [] es = es
turned (x ∷ xs) es = turned xs (x ∷ es)

any_turned : (f : Definition → Bool) (xs es : List Definition) → list_any f (turned xs es) ≡ (list_any f xs || list_any f es)
unfolding turned
any_turned f [] es = refl
any_turned f (x ∷ xs) es = any_turned f xs (x ∷ es) ∙ (or_swap (list_any f xs) (f x) (list_any f es) ∙ sym (or_assoc (f x) (list_any f xs) (list_any f es)))

clash_turned : (earlier front : List Definition) (d : Definition)
    → first_clash earlier (front ++ d ∷ []) ≡ or_clash (first_clash earlier front) (list_any (λ e. bytes_eq e.name d.name && clash e.joins d.joins) (turned front earlier)) d.place
unfolding turned
clash_turned earlier [] d = refl
clash_turned earlier (x ∷ front) d = by (list_any (λ e. bytes_eq e.name x.name && clash e.joins x.joins) earlier) (clash_turned (x ∷ earlier) front d)
  where
    by : (b : Bool) → first_clash (x ∷ earlier) (front ++ d ∷ []) ≡ or_clash (first_clash (x ∷ earlier) front) (list_any (λ e. bytes_eq e.name d.name && clash e.joins d.joins) (turned front (x ∷ earlier))) d.place
        → cond b (Some x.place) (first_clash (x ∷ earlier) (front ++ d ∷ []))
        ≡ or_clash (cond b (Some x.place) (first_clash (x ∷ earlier) front)) (list_any (λ e. bytes_eq e.name d.name && clash e.joins d.joins) (turned front (x ∷ earlier))) d.place
    by true h = refl
    by false h = h

clash_push : (front : List Definition) (d : Definition) → first_clash [] (front ++ d ∷ []) ≡ or_clash (first_clash [] front) (any_of (λ j. clash j d.joins) d.name front) d.place
clash_push front d =
    clash_turned [] front d
    ∙ ap (λ b. or_clash (first_clash [] front) b d.place) (any_turned (λ e. bytes_eq e.name d.name && clash e.joins d.joins) front [] ∙ or_false (any_of (λ j. clash j d.joins) d.name front))

no_clash : (o : Option ℕ) (p : ℕ) → or_clash o false p ≡ o
no_clash None p = refl
no_clash (Some q) p = refl

-- a group keeps what it is where a definition of another name comes
group_other : (front : List Definition) (d : Definition) (g : Group) → bytes_eq d.name g.name.now ≡ false → IsGroup front g → IsGroup (front ++ d ∷ []) g
group_other front d g e h = record {
  some = h.some;
  bodies = h.bodies ∙ ap (map (λ f. f.body)) (sym (other_name_push front d g.name.now e));
  plain = h.plain ∙ sym (any_other is_plain g.name.now front d e);
  choice = h.choice ∙ sym (any_other is_choice g.name.now front d e);
  interleave = h.interleave ∙ sym (any_other is_interleave g.name.now front d e);
}

group_first : (front : List Definition) (d : Definition) (g : Group) → definitions_of front d.name ≡ [] → StartsGroup d g → IsGroup (front ++ d ∷ []) g
group_first front d g none s =
    let same : bytes_eq d.name g.name.now ≡ true = ap (bytes_eq d.name) s.name ∙ same_bytes d.name in
    let nothing : definitions_of front g.name.now ≡ [] = ap (definitions_of front) s.name ∙ none in
    let any : (test : Joins → Bool) → any_of test g.name.now (front ++ d ∷ []) ≡ test d.joins =
    λ test. any_same test g.name.now front d same ∙ ap (λ b. b || test d.joins) (any_none test g.name.now front nothing) in
    record {
      some = omega (arith, sym (length-map g.bodies.items pattern) ∙ ap length s.bodies);
      bodies = s.bodies ∙ ap (map (λ f. f.body)) (sym (same_name_push front d g.name.now same ∙ ap (λ z. z ++ d ∷ []) nothing));
      plain = s.plain ∙ sym (any is_plain);
      choice = s.choice ∙ sym (any is_choice);
      interleave = s.interleave ∙ sym (any is_interleave);
    }

-- a group of one definition more
pub group_more : (front : List Definition) (d : Definition) (old new : Group) → IsGroup front old → old.name.now ≡ d.name → new.name ≡ old.name → map pattern new.bodies.items ≡ map pattern old.bodies.items ++ d.body ∷ []
    → new.is_plain ≡ (old.is_plain || is_plain d.joins) → new.is_choice ≡ (old.is_choice || is_choice d.joins) → new.is_interleave ≡ (old.is_interleave || is_interleave d.joins) → IsGroup (front ++ d ∷ []) new
group_more front d old new h named name bodies first second third =
    let n : List ℕ = new.name.now in
    let is : old.name.now ≡ n = sym (ap (λ z. z.now) name) in
    let same : bytes_eq d.name n ≡ true = ap (λ z. bytes_eq z n) (sym named ∙ is) ∙ same_bytes n in
    let any : (test : Joins → Bool) (b c : Bool) → b ≡ any_of test old.name.now front → c ≡ (b || test d.joins) → c ≡ any_of test n (front ++ d ∷ []) =
    λ test b c e f. f ∙ (ap (λ z. z || test d.joins) (e ∙ ap (λ z. any_of test z front) is) ∙ sym (any_same test n front d same)) in
    record {
      some = omega (arith, sym (length-map new.bodies.items pattern) ∙ (ap length bodies ∙ length-append (map pattern old.bodies.items) (d.body ∷ [])));
      bodies = bodies ∙ (ap (λ z. z ++ d.body ∷ []) (h.bodies ∙ ap (λ z. map (λ f. f.body) (definitions_of front z)) is)
          ∙ (sym (map-append (λ f. f.body) (definitions_of front n) (d ∷ [])) ∙ ap (map (λ f. f.body)) (sym (same_name_push front d n same))));
      plain = any is_plain old.is_plain new.is_plain h.plain first;
      choice = any is_choice old.is_choice new.is_choice h.choice second;
      interleave = any is_interleave old.is_interleave new.is_interleave h.interleave third;
    }

the_value : {X : Type 0} {x y : X} → Some x ≡ Some y → x ≡ y
the_value e = cc

no_value : {X : Type 0} {x : X} → None ≡ Some x → ⊥
no_value e = cc

pub gathered_begin : {front : List Definition} {d : Definition} {old new : Gathered} → IsGathered front old → number_in old.numbers d.name ≡ None → Begins d old new → IsGathered (front ++ d ∷ []) new
gathered_begin {front} {d} {old} {new} h free b = record {
  absent = λ n e. absent n e (name_or_not d.name n);
  present = λ n k e. present n k e (name_or_not d.name n);
  first = ap maybe_place b.first ∙ (h.first ∙ sym (clash_push front d
      ∙ (ap (λ x. or_clash (first_clash [] front) x d.place) (any_none (λ j. clash j d.joins) d.name front (h.absent d.name free)) ∙ no_clash (first_clash [] front) d.place)));
}
  where
    absent : (n : List ℕ) → number_in new.numbers n ≡ None → (d.name ≡ n) ⊎ (bytes_eq d.name n ≡ false) → definitions_of (front ++ d ∷ []) n ≡ []
    absent n e (inl is) = absurd (no_value (sym e ∙ (ap (number_in new.numbers) (sym is) ∙ b.here)))
    absent n e (inr ne) = other_name_push front d n ne ∙ h.absent n (sym (b.others n ne) ∙ e)

    present : (n : List ℕ) (k : ℕ) → number_in new.numbers n ≡ Some k → (d.name ≡ n) ⊎ (bytes_eq d.name n ≡ false)
        → (group : Group) × (slice_get new.groups.items k ≡ Some group) × (group.name.now ≡ n) × IsGroup (front ++ d ∷ []) group
    present n k e (inl is) =
        let at : length old.groups.items ≡ k = the_value (sym b.here ∙ (ap (number_in new.numbers) is ∙ e)) in (
          b.group,
          ap (λ z. slice_get z k) b.groups ∙ (ap (slice_get (old.groups.items ++ b.group ∷ [])) (sym at) ∙ get_last old.groups.items b.group),
          b.starts.name ∙ is,
          group_first front d b.group (h.absent d.name free) b.starts,
        )
      where
        get_last : (xs : List Group) (x : Group) → slice_get (xs ++ x ∷ []) (length xs) ≡ Some x
        get_last [] x = refl
        get_last (y ∷ ys) x = get_last ys x
    present n k e (inr ne) =
        let (g, at, name, is) = h.present n k (sym (b.others n ne) ∙ e) in
        (g, ap (λ z. slice_get z k) b.groups ∙ get_front old.groups.items k g at, name, group_other front d g (ap (bytes_eq d.name) name ∙ ne) is)
      where
        get_front : (xs : List Group) (k : ℕ) (x : Group) → slice_get xs k ≡ Some x → slice_get (xs ++ b.group ∷ []) k ≡ Some x
        get_front [] k x e = absurd (no_value e)
        get_front (y ∷ ys) zero x e = e
        get_front (y ∷ ys) (suc k) x e = get_front ys k x e

get_set_same : (xs : List Group) (k : ℕ) (x y : Group) → slice_get xs k ≡ Some x → slice_get (set xs k y) k ≡ Some y
get_set_same [] k x y e = absurd (no_value e)
get_set_same (z ∷ zs) zero x y e = refl
get_set_same (z ∷ zs) (suc k) x y e = get_set_same zs k x y e

-- the same place, or what stands at another is left
get_set_other : (xs : List Group) (k j : ℕ) (x y z : Group) → slice_get xs k ≡ Some x → slice_get xs j ≡ Some z → (x ≡ z) ⊎ (slice_get (set xs k y) j ≡ Some z)
get_set_other [] k j x y z e f = absurd (no_value e)
get_set_other (w ∷ ws) zero zero x y z e f = inl (the_value (sym e ∙ f))
get_set_other (w ∷ ws) zero (suc j) x y z e f = inr f
get_set_other (w ∷ ws) (suc k) zero x y z e f = inr f
get_set_other (w ∷ ws) (suc k) (suc j) x y z e f = get_set_other ws k j x y z e f

pub gathered_grow : {front : List Definition} {d : Definition} {number : ℕ} {old new : Gathered} → IsGathered front old → number_in old.numbers d.name ≡ Some number → Grows number d old new
    → IsGathered (front ++ d ∷ []) new
gathered_grow {front} {d} {number} {old} {new} h at b =
    let (g, there, name, is) = h.present d.name number at in
    let same : g ≡ b.before = the_value (sym there ∙ b.was) in
    let named : b.before.name.now ≡ d.name = ap (λ z. z.name.now) (sym same) ∙ name in
    let whole : IsGroup front b.before = subst (IsGroup front) same is in
    record {
      absent = λ n e. absent n e (name_or_not d.name n);
      present = λ n k e. present named whole n k e (name_or_not d.name n);
      first = b.first front whole named ∙ (ap (λ o. or_clash o (any_of (λ j. clash j d.joins) d.name front) d.place) h.first ∙ sym (clash_push front d));
    }
  where
    absent : (n : List ℕ) → number_in new.numbers n ≡ None → (d.name ≡ n) ⊎ (bytes_eq d.name n ≡ false) → definitions_of (front ++ d ∷ []) n ≡ []
    absent n e (inl is) = absurd (no_value (sym e ∙ (ap (λ m. number_in m n) b.numbers ∙ (ap (number_in old.numbers) (sym is) ∙ at))))
    absent n e (inr ne) = other_name_push front d n ne ∙ h.absent n (ap (λ m. number_in m n) (sym b.numbers) ∙ e)

    present : b.before.name.now ≡ d.name → IsGroup front b.before → (n : List ℕ) (k : ℕ) → number_in new.numbers n ≡ Some k → (d.name ≡ n) ⊎ (bytes_eq d.name n ≡ false)
        → (group : Group) × (slice_get new.groups.items k ≡ Some group) × (group.name.now ≡ n) × IsGroup (front ++ d ∷ []) group
    present named whole n k e (inl is) =
        let place : number ≡ k = the_value (sym at ∙ (ap (number_in old.numbers) is ∙ (ap (λ m. number_in m n) (sym b.numbers) ∙ e))) in (
          b.group,
          ap (λ z. slice_get z k) b.groups ∙ (ap (slice_get (set old.groups.items number b.group)) (sym place) ∙ get_set_same old.groups.items number b.before b.group b.was),
          ap (λ z. z.now) b.name ∙ (named ∙ is),
          b.more front whole named,
        )
    present named whole n k e (inr ne) =
        let (g, there, name, is) = h.present n k (ap (λ m. number_in m n) (sym b.numbers) ∙ e) in
        by g there name is (get_set_other old.groups.items number k b.before b.group g b.was there)
      where
        by : (g : Group) → slice_get old.groups.items k ≡ Some g → g.name.now ≡ n → IsGroup front g → (b.before ≡ g) ⊎ (slice_get (set old.groups.items number b.group) k ≡ Some g)
            → (group : Group) × (slice_get new.groups.items k ≡ Some group) × (group.name.now ≡ n) × IsGroup (front ++ d ∷ []) group
        by g there name is (inl same) =
            absurd (true≢false (sym (same_bytes d.name) ∙ (ap (bytes_eq d.name) (sym named ∙ (ap (λ z. z.name.now) same ∙ name)) ∙ ne)))
        by g there name is (inr left) = (g, ap (λ z. slice_get z k) b.groups ∙ left, name, group_other front d g (ap (bytes_eq d.name) name ∙ ne) is)

pub gathered_first : (g : Gathered) → ((n : List ℕ) → number_in g.numbers n ≡ None) → maybe_place g.clash ≡ None → IsGathered [] g
gathered_first g none first = record { absent = λ n e. refl; present = λ n k e. absurd (no_value (sym (none n) ∙ e)); first = first }

-- a group is its definitions joined
any_chosen : (n : List ℕ) (front : List Definition) → any_of is_choice n front ≡ list_any (λ f. is_choice f.joins) (definitions_of front n)
any_chosen n [] = refl
any_chosen n (d ∷ ds) = by (bytes_eq d.name n) (any_chosen n ds)
  where
    by : (b : Bool) → any_of is_choice n ds ≡ list_any (λ f. is_choice f.joins) (definitions_of ds n)
        → ((b && is_choice d.joins) || any_of is_choice n ds) ≡ list_any (λ f. is_choice f.joins) (cond b (d ∷ definitions_of ds n) (definitions_of ds n))
    by true h = ap (λ x. is_choice d.joins || x) h
    by false h = h

bodies_list : (ds : List Definition) → bodies_of ds ≡ pattern_list (map (λ d. d.body) ds)
bodies_list [] = refl
bodies_list (d ∷ ds) = ap (Rattle.tc_model.specs.CompactSyntaxTrees.more d.body) (bodies_list ds)

pub group_joined : (front : List Definition) (g : Group) → IsGroup front g → joined_definitions (definitions_of front g.name.now) ≡ Some (joined_of g.is_choice g.bodies.items)
group_joined front g h = by (definitions_of front g.name.now) g.bodies.items h.bodies (h.choice ∙ any_chosen g.name.now front) h.some
  where
    first_is : {x y : SyntaxPattern} {xs ys : List SyntaxPattern} → x ∷ xs ≡ y ∷ ys → x ≡ y
    first_is e = cc

    shorter : {x y : SyntaxPattern} {xs : List SyntaxPattern} → x ∷ [] ≡ y ∷ xs → xs ≡ []
    shorter e = cc

    too_short : {X : Type 0} {x y z : SyntaxPattern} {xs : List SyntaxPattern} → x ∷ [] ≡ y ∷ z ∷ xs → X
    too_short e = absurd (omega (arith, ap length e))

    by : (ds : List Definition) (xs : List SPat) → map pattern xs ≡ map (λ d. d.body) ds → g.is_choice ≡ list_any (λ f. is_choice f.joins) ds → 0 < length xs → joined_definitions ds ≡ Some (joined_of g.is_choice xs)
    by ds [] e c s = absurd (omega (arith, s))
    by [] (x ∷ xs) e c s = absurd (omega (arith, ap length e))
    by (d ∷ []) (x ∷ []) e c s = ap Some (sym (first_is e))
    by (d ∷ []) (x ∷ y ∷ xs) e c s = too_short (sym e)
    by (d ∷ f ∷ ds) (x ∷ []) e c s = too_short e
    by (d ∷ f ∷ ds) (x ∷ y ∷ xs) e c s =
        let same : bodies_of (d ∷ f ∷ ds) ≡ patterns (x ∷ y ∷ xs) = bodies_list (d ∷ f ∷ ds) ∙ (ap pattern_list (sym e) ∙ patterns_map (x ∷ y ∷ xs)) in
        ap (λ b. Some (cond b (choice (bodies_of (d ∷ f ∷ ds))) (interleave (bodies_of (d ∷ f ∷ ds))))) (sym c)
        ∙ ap (λ z. Some (cond g.is_choice (choice z) (interleave z))) same

-- the table of all groups
get_map : (gs : List Group) (ps : List SPat) (k : ℕ) (g : Group) → map pattern ps ≡ map (λ (h : Group). joined_of h.is_choice h.bodies.items) gs → slice_get gs k ≡ Some g
    → (p : SPat) × (slice_get ps k ≡ Some p) × (pattern p ≡ joined_of g.is_choice g.bodies.items)
get_map [] ps k g e at = absurd (no_value at)
get_map (x ∷ gs) [] k g e at = absurd (omega (arith, ap length e))
get_map (x ∷ gs) (p ∷ ps) zero g e at = (p, refl, first_is e ∙ ap (λ (h : Group). joined_of h.is_choice h.bodies.items) (the_value at))
  where
    first_is : {x y : SyntaxPattern} {xs ys : List SyntaxPattern} → x ∷ xs ≡ y ∷ ys → x ≡ y
    first_is e = cc
get_map (x ∷ gs) (p ∷ ps) (suc k) g e at = get_map gs ps k g (rest_is e) at
  where
    rest_is : {x y : SyntaxPattern} {xs ys : List SyntaxPattern} → x ∷ xs ≡ y ∷ ys → xs ≡ ys
    rest_is e = cc

pub table_of : (s : Syntax) (g : Gathered) (ps : List SPat) → IsGathered s.definitions g → map pattern ps ≡ map (λ (h : Group). joined_of h.is_choice h.bodies.items) g.groups.items
    → (n : List ℕ) (k : ℕ) → number_in g.numbers n ≡ Some k → (p : SPat) × (slice_get ps k ≡ Some p) × (pattern_of s n ≡ Some (pattern p))
table_of s g ps h e n k at =
    let (group, there, name, is) = h.present n k at in
    let (p, got, same) = get_map g.groups.items ps k group e there in
    (p, got, ap (λ z. joined_definitions (definitions_of s.definitions z)) (sym name) ∙ (group_joined s.definitions group is ∙ ap Some (sym same)))

pub joined_one : (b : Bool) (xs : List SPat) (x : SPat) → length xs ≡ 1 → x ≡ get_or xs 0 x → pattern x ≡ joined_of b xs
joined_one b [] x e is = absurd (omega (arith, e))
joined_one b (y ∷ []) x e is = ap pattern is
joined_one b (y ∷ z ∷ zs) x e is = absurd (omega (arith, e))

pub joined_choice : (b : Bool) (xs : List SPat) → (length xs ≡ 1 → ⊥) → b ≡ true → choice (patterns xs) ≡ joined_of b xs
joined_choice b [] ne e = ap (λ c. cond c (choice (patterns [])) (interleave (patterns []))) (sym e)
joined_choice b (y ∷ []) ne e = absurd (ne refl)
joined_choice b (y ∷ z ∷ zs) ne e = ap (λ c. cond c (choice (patterns (y ∷ z ∷ zs))) (interleave (patterns (y ∷ z ∷ zs)))) (sym e)

pub joined_interleave : (b : Bool) (xs : List SPat) → (length xs ≡ 1 → ⊥) → b ≡ false → interleave (patterns xs) ≡ joined_of b xs
joined_interleave b [] ne e = ap (λ c. cond c (choice (patterns [])) (interleave (patterns []))) (sym e)
joined_interleave b (y ∷ []) ne e = absurd (ne refl)
joined_interleave b (y ∷ z ∷ zs) ne e = ap (λ c. cond c (choice (patterns (y ∷ z ∷ zs))) (interleave (patterns (y ∷ z ∷ zs)))) (sym e)

pub more_definitions : (xs : List Def) (i : ℕ) (d : Def) → i < length xs → map definition (take (i + 1) xs) ≡ map definition (take i xs) ++ definition (get_or xs i d) ∷ []
more_definitions xs i d small = ap (map definition) (take_more xs i d small) ∙ pushed_definition (take i xs) (get_or xs i d)

pub is_table : (s : Syntax) (g : Gathered) (t : Table) → IsGathered s.definitions g → map pattern t.patterns.items ≡ map (λ (h : Group). joined_of h.is_choice h.bodies.items) g.groups.items
    → t.numbers ≡ g.numbers → t.clash ≡ g.clash → IsTable s t
is_table s g t h e numbers clash = record {
  absent = λ n none. ap joined_definitions (h.absent n (ap (λ m. number_in m n) (sym numbers) ∙ none));
  present = λ n k at. table_of s g t.patterns.items h e n k (ap (λ m. number_in m n) (sym numbers) ∙ at);
  first = ap maybe_place clash ∙ h.first;
}

-- a loop that makes one of each, where it makes one more
pub pushed_map : {X Y Z : Type 0} (f : X → Z) (h : Y → Z) (out new : List X) (ys : List Y) (i : ℕ) (d : Y) (x : X) → i < length ys → map f out ≡ map h (take i ys) → new ≡ out ++ x ∷ [] → f x ≡ h (get_or ys i d)
    → map f new ≡ map h (take (i + 1) ys)
pushed_map f h out new ys i d x small before e same =
    ap (map f) e
    ∙ (map-append f out (x ∷ [])
    ∙ (ap (λ z. z ++ f x ∷ []) before
    ∙ (ap (λ z. map h (take i ys) ++ z ∷ []) same ∙ (sym (map-append h (take i ys) (get_or ys i d ∷ [])) ∙ ap (map h) (sym (take_more ys i d small))))))
