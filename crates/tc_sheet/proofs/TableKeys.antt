-- What a set of names holds, and which number it gives to each.
use Rattle.std.proofs.Common.{◌≡◌, ℕ, zero, suc, ◌+◌, ◌<◌, ◌≤◌, Bool, true, false, cond, not, ◌||◌, List, [], ◌∷◌, ◌++◌, refl, ap, ◌∙◌, sym, subst, arith, Option, None, Some, option_map, is_some, length, map, get_or, take, drop, append-nil, append_assoc, if◌then◌else◌, true≢false, position, Contains, Result, Ok, Err, flat_map, All, IfErr, IsErrAnd}
use Rattle.std.specs.Prelude.{nat_lt}
use Rattle.std.specs.List.{AllByRecursion, IsDistinct, list_any, position_or_len}
use Rattle.std.proofs.lemmas.List.{map-append, drop_more, drop_all, take-append-drop, append_cancel_right}
use Rattle.std.proofs.lemmas.Grind.{flat_map-append}
use Rattle.indexmap.specs.IndexSet.{insert_key}
use Rattle.tc_model.specs.Names.{ExpandedName, same_name}
use Rattle.tc_model.specs.Numbered.{number_of}
use Rattle.tc_model.specs.Views.{name}
use Rattle.tc_model.specs.SheetText.{one_name, names_of}
use Rattle.tc_model.specs.SheetTextTrees as s
use Rattle.tc_model.specs.declared.tree.Name.{Name}
use Rattle.tc_sheet.specs.Views.{template}
use Rattle.tc_sheet.specs.Tables.{puts, modes_in, IsAgain, IsTwice}
use Rattle.tc_sheet.specs.declared.faults.SheetFault.{SheetFault}
use Rattle.tc_sheet.specs.declared.faults.SheetFault.TheVariants.{Malformed, Unsupported, TooDeep, Undefined, CallLoop, NoMemory}
use Rattle.tc_sheet.specs.declared.written.Template.{Template}
use Rattle.tc_sheet.proofs.NameNumbers.{same_is, is_same, same_some, no_some}
use Rattle.tc_sheet.proofs.WrittenParts.{puts_append}

-- the test by which the set compares
abbrev pub same_key : Name → Name → Bool
same_key n m = same_name (name n) (name m)

pub any_seen : (k : Name) (ks : List Name) → list_any (same_key k) ks ≡ list_any (same_name (name k)) (map name ks)
any_seen k [] = refl
any_seen k (x ∷ ks) = ap (λ b. same_key k x || b) (any_seen k ks)

-- a name that is put
pub put_key : (k : Name) (ks new : List Name) → new ≡ insert_key same_key ks k → map name new ≡ puts (map name ks) (name k ∷ [])
put_key k ks new e = ap (map name) e ∙ by (list_any (same_key k) ks) (any_seen k ks)
  where
    by : (b : Bool) → b ≡ list_any (same_name (name k)) (map name ks) → map name (if b then ks else (ks ++ k ∷ [])) ≡ map name ks ++ (if list_any (same_name (name k)) (map name ks) then [] else (name k ∷ []))
    by true f = sym (ap (λ c. map name ks ++ (if c then [] else (name k ∷ []))) (sym f) ∙ append-nil (map name ks))
    by false f = map-append name ks (k ∷ []) ∙ ap (λ c. map name ks ++ (if c then [] else (name k ∷ []))) f

not_in : (b r : Bool) → r ≡ not b → r ≡ true → b ≡ false
not_in true r e f = absurd (true≢false (sym f ∙ e))
not_in false r e f = refl

is_in : (b r : Bool) → r ≡ not b → r ≡ false → b ≡ true
is_in true r e f = refl
is_in false r e f = absurd (true≢false (sym e ∙ f))

-- one that is new, and one that isn't
pub put_new : (k : Name) (ks new : List Name) (r : Bool) → new ≡ insert_key same_key ks k → r ≡ not (list_any (same_key k) ks) → r ≡ true → map name new ≡ map name ks ++ name k ∷ []
put_new k ks new r e f g =
    let absent : list_any (same_name (name k)) (map name ks) ≡ false = sym (any_seen k ks) ∙ not_in (list_any (same_key k) ks) r f g in
    put_key k ks new e ∙ ap (λ b. map name ks ++ (if b then [] else (name k ∷ []))) absent

pub is_there : (k : Name) (ks : List Name) (r : Bool) → r ≡ not (list_any (same_key k) ks) → r ≡ false → list_any (same_name (name k)) (map name ks) ≡ true
is_there k ks r f g = sym (any_seen k ks) ∙ is_in (list_any (same_key k) ks) r f g

-- names that differ from those before them
turned : (n m : ExpandedName) → same_name n m ≡ false → same_name m n ≡ false
turned n m e = by (same_name m n) refl
  where
    by : (b : Bool) → same_name m n ≡ b → same_name m n ≡ false
    by true f = absurd (true≢false (sym (subst (λ z. same_name n z ≡ true) (sym (same_is m n f)) (is_same n)) ∙ e))
    by false f = f

or_left : (a b : Bool) → (a || b) ≡ false → a ≡ false
or_left true b e = cc
or_left false b e = refl

or_right : (a b : Bool) → (a || b) ≡ false → b ≡ false
or_right true b e = cc
or_right false b e = e

all_put : (P : ExpandedName → Type 0) (xs : List ExpandedName) (x : ExpandedName) → AllByRecursion P xs → P x → AllByRecursion P (xs ++ x ∷ [])
all_put P [] x h p = (p, tt)
all_put P (y ∷ xs) x h p = (h.0, all_put P xs x h.1 p)

pub distinct_put : (ns : List ExpandedName) (n : ExpandedName) → IsDistinct same_name ns → list_any (same_name n) ns ≡ false → IsDistinct same_name (ns ++ n ∷ [])
unfolding IsDistinct
distinct_put [] n d e = (tt, tt)
distinct_put (m ∷ ns) n d e =
    (all_put (λ y. same_name m y ≡ false) ns n d.0 (turned n m (or_left (same_name n m) (list_any (same_name n) ns) e)), distinct_put ns n d.1 (or_right (same_name n m) (list_any (same_name n) ns) e))

pub keeps_distinct : (k : Name) (ks new : List Name) (r : Bool) → new ≡ insert_key same_key ks k → r ≡ not (list_any (same_key k) ks) → r ≡ true → IsDistinct same_name (map name ks) → IsDistinct same_name (map name new)
keeps_distinct k ks new r e f g d =
    subst (IsDistinct same_name) (sym (put_new k ks new r e f g)) (distinct_put (map name ks) (name k) d (sym (any_seen k ks) ∙ not_in (list_any (same_key k) ks) r f g))

all_at : (P : ExpandedName → Type 0) (xs zs : List ExpandedName) (y : ExpandedName) → AllByRecursion P (xs ++ y ∷ zs) → P y
all_at P [] zs y h = h.0
all_at P (x ∷ xs) zs y h = all_at P xs zs y h.1

pub seen_twice : (xs zs : List ExpandedName) (y : ExpandedName) → list_any (same_name y) xs ≡ true → IsDistinct same_name (xs ++ y ∷ zs) → ⊥
unfolding IsDistinct
seen_twice [] zs y h d = true≢false (sym h)
seen_twice (x ∷ xs) zs y h d = by (same_name y x) refl (seen_twice xs zs y)
  where
    by : (b : Bool) → same_name y x ≡ b → (list_any (same_name y) xs ≡ true → IsDistinct same_name (xs ++ y ∷ zs) → ⊥) → ⊥
    by true e more = true≢false (sym (subst (λ z. same_name x z ≡ true) (sym (same_is y x e)) (is_same x)) ∙ all_at (λ z. same_name x z ≡ false) xs zs y d.0)
    by false e more = more (sym (ap (λ b. b || list_any (same_name y) xs) e) ∙ h) d.1

-- what a slice gives past its end
abbrev pub blank : Template
blank = record { alternatives = record { ref_ptr = (0, 0); now = [] }; name = None; mode = None; body = record { ref_ptr = (0, 0); now = [] }; place = record { 0 = 0 } }

-- one step of a loop over templates
abbrev names_in : List Template → List ExpandedName
names_in ts = names_of (map template ts)

abbrev modes_left : List Template → List ExpandedName
modes_left ts = flat_map modes_in (map template ts)

module _ (ts : List Template) (k : ℕ) (d : Template) (h : k < length ts) where
  abbrev here : s.Template
  here = template (get_or ts k d)

  pub left_templates : drop k ts ≡ get_or ts k d ∷ drop (k + 1) ts
  left_templates = drop_more ts k d h

  -- what each gives is put behind
  pub flat_step : {X : Type 0} (f : s.Template → List X) (old new all : List X) → new ≡ old ++ f here → old ++ flat_map f (map template (drop k ts)) ≡ all → new ++ flat_map f (map template (drop (k + 1) ts)) ≡ all
  flat_step f old new all e g =
      ap (λ z. z ++ flat_map f (map template (drop (k + 1) ts))) e
      ∙ (append_assoc old (f here) (flat_map f (map template (drop (k + 1) ts))) ∙ (ap (λ z. old ++ flat_map f (map template z)) (sym left_templates) ∙ g))

  pub modes_more : (old new all : List ExpandedName) → new ≡ puts old (modes_in here) → puts old (modes_left (drop k ts)) ≡ all → puts new (modes_left (drop (k + 1) ts)) ≡ all
  modes_more old new all f g =
      ap (λ z. puts z (modes_left (drop (k + 1) ts))) f
      ∙ (sym (puts_append old (modes_in here) (modes_left (drop (k + 1) ts))) ∙ (ap (λ z. puts old (modes_left z)) (sym left_templates) ∙ g))

  pub stands_here : Contains (map template ts) here
  stands_here = placed ts k h
    where
      placed : (us : List Template) (j : ℕ) → j < length us → Contains (map template us) (template (get_or us j d))
      placed [] j l = absurd (omega (arith, l))
      placed (u ∷ us) zero l = (0, omega arith, refl)
      placed (u ∷ us) (suc j) l = let (i, m, q) = placed us j (omega (arith, l)) in (suc i, omega (arith, m), q)

  abbrev seen : List s.Template
  seen = map template (take k ts)

  all_parts : map template ts ≡ seen ++ (here ∷ map template (drop (k + 1) ts))
  all_parts = ap (map template) (sym (take-append-drop k ts)) ∙ (map-append template (take k ts) (drop k ts) ∙ ap (λ z. seen ++ map template z) left_templates)

  seen_names : (old : List ExpandedName) → old ++ names_in (drop k ts) ≡ names_in ts → old ≡ names_of seen
  seen_names old g =
      append_cancel_right old (names_of seen) (names_in (drop k ts))
      (g ∙ (ap names_in (sym (take-append-drop k ts)) ∙ (ap names_of (map-append template (take k ts) (drop k ts)) ∙ flat_map-append (λ t. one_name t.name) seen (map template (drop k ts)))))

  pub again_twice : (old : List ExpandedName) → IsDistinct same_name old → old ++ names_in (drop k ts) ≡ names_in ts → (f : SheetFault) → IsAgain old here f → IsTwice (map template ts) f
  again_twice old once g (Malformed p) (at, (n, is, there)) = record {
    before = seen;
    template = here;
    after = map template (drop (k + 1) ts);
    parts = all_parts;
    once = subst (IsDistinct same_name) (seen_names old g) once;
    name = n;
    named = is;
    again = subst (λ ns. list_any (same_name n) ns ≡ true) (seen_names old g) there;
    stands = at;
  }
  again_twice old once g (Unsupported p why) i = absurd i
  again_twice old once g (TooDeep p) i = absurd i
  again_twice old once g (Undefined p) i = absurd i
  again_twice old once g (CallLoop p) i = absurd i
  again_twice old once g NoMemory i = tt

pub flat_end : {X : Type 0} (f : s.Template → List X) (ts : List Template) (k : ℕ) (old all : List X) → length ts ≤ k → old ++ flat_map f (map template (drop k ts)) ≡ all → old ≡ all
flat_end f ts k old all h e = sym (append-nil old) ∙ (ap (λ z. old ++ flat_map f (map template z)) (sym (drop_all k ts h)) ∙ e)

pub modes_done : (ts : List Template) (k : ℕ) (old all : List ExpandedName) → length ts ≤ k → puts old (modes_left (drop k ts)) ≡ all → old ≡ all
modes_done ts k old all h e = sym (append-nil old) ∙ (ap (λ z. puts old (modes_left z)) (sym (drop_all k ts h)) ∙ e)

-- the mode of a template, and then those of its body
pub modes_of_template : (old middle new ms ns : List ExpandedName) → middle ≡ puts old ms → new ≡ puts middle ns → new ≡ puts old (ms ++ ns)
modes_of_template old middle new ms ns e f = f ∙ (ap (λ z. puts z ns) e ∙ sym (puts_append old ms ns))

-- the number of a name is where the set finds it
pub place_of_key : (k : Name) (ks : List Name) → position_or_len (same_key k) ks ≡ number_of same_name (name k) (map name ks)
place_of_key k [] = refl
place_of_key k (x ∷ ks) = by (same_key k x) (place_of_key k ks)
  where
    by : (b : Bool) → position_or_len (same_key k) ks ≡ number_of same_name (name k) (map name ks)
        → cond (not b) (1 + position_or_len (same_key k) ks) 0 ≡ (if b then 0 else (number_of same_name (name k) (map name ks) + 1))
    by true e = refl
    by false e = omega (arith, e)

pub found_at : (k : Name) (ks : List Name) (i : ℕ) → Some i ≡ position (same_key k) ks → i ≡ number_of same_name (name k) (map name ks)
found_at k ks i e = by (nat_lt (position_or_len (same_key k) ks) (length ks)) e
  where
    by : (b : Bool) → Some i ≡ cond b (Some (position_or_len (same_key k) ks)) None → i ≡ number_of same_name (name k) (map name ks)
    by true f = same_some f ∙ place_of_key k ks
    by false f = absurd (no_some (sym f))

pub is_listed : (k : Name) (ks : List Name) (r : Option ℕ) (i : ℕ) → is_some r ≡ list_any (same_key k) ks → r ≡ Some i → list_any (same_name (name k)) (map name ks) ≡ true
is_listed k ks r i e f = sym (any_seen k ks) ∙ (sym e ∙ ap is_some f)

pub not_listed : (k : Name) (ks : List Name) (r : Option ℕ) → is_some r ≡ list_any (same_key k) ks → r ≡ None → list_any (same_name (name k)) (map name ks) ≡ false
not_listed k ks r e f = sym (any_seen k ks) ∙ (sym e ∙ ap is_some f)

-- one that isn't there has the number of those that are
pub number_past : (n : ExpandedName) (ns : List ExpandedName) → list_any (same_name n) ns ≡ false → number_of same_name n ns ≡ length ns
number_past n [] e = refl
number_past n (m ∷ ns) e = by (same_name n m) e (number_past n ns)
  where
    by : (b : Bool) → (b || list_any (same_name n) ns) ≡ false → (list_any (same_name n) ns ≡ false → number_of same_name n ns ≡ length ns) → (if b then 0 else (number_of same_name n ns + 1)) ≡ length (m ∷ ns)
    by true f g = absurd (true≢false f)
    by false f g = omega (arith, g f)

pub distinct_nothing : (ks : List Name) → length ks ≡ 0 → IsDistinct same_name (map name ks)
unfolding IsDistinct
distinct_nothing [] e = tt
distinct_nothing (k ∷ ks) e = absurd (omega (arith, e))

pub no_keys : (ks : List Name) → length ks ≡ 0 → map name ks ≡ []
no_keys [] e = refl
no_keys (k ∷ ks) e = absurd (omega (arith, e))

number_of_key : (k : Name) (ks : List Name) (r : Option ℕ) → r ≡ position (same_key k) ks → is_some r ≡ list_any (same_key k) ks → list_any (same_name (name k)) (map name ks) ≡ true
    → r ≡ Some (number_of same_name (name k) (map name ks))
number_of_key k ks None e f g = absurd (true≢false (sym (f ∙ (any_seen k ks ∙ g))))
number_of_key k ks (Some i) e f g = ap Some (found_at k ks i e)

-- the number of a template with this name
pub caller_is : (o : Option Name) (k : Name) (ks : List Name) (r : Option ℕ) → o ≡ Some k → All (λ n. list_any (same_name n) (map name ks) ≡ true) (one_name (option_map name o)) → r ≡ position (same_key k) ks
    → is_some r ≡ list_any (same_key k) ks → r ≡ option_map (λ n. number_of same_name n (map name ks)) (option_map name o)
caller_is o k ks r e all f g =
    let there : All (λ n. list_any (same_name n) (map name ks) ≡ true) (name k ∷ []) = subst (λ z. All (λ n. list_any (same_name n) (map name ks) ≡ true) (one_name (option_map name z))) e all in
    number_of_key k ks r f g (there 0 (name k) (omega arith)) ∙ ap (λ z. option_map (λ n. number_of same_name n (map name ks)) (option_map name z)) (sym e)

-- a fault that is handed on
pub handed : {T : Type 0} (r : Result T SheetFault) (x : SheetFault) (P Q : SheetFault → Type 0) → IsErrAnd r (λ e. e ≡ x) → ((e : SheetFault) → P e → Q e) → P x → IfErr r Q
handed (Ok v) x P Q h f g = tt
handed (Err e) x P Q h f g = subst Q (sym h) (f x g)
