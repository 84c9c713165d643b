-- The numbers of the rules of modes, and the bodies of for-eaches at their numbers.
use Rattle.std.proofs.Common.{◌≡◌, ◌≢◌, ℕ, zero, suc, ◌+◌, ◌<◌, ◌≤◌, List, [], ◌∷◌, ◌++◌, refl, ap, sym, ◌∙◌, subst, Bool, true, false, nat_eq, map, flat_map, take, drop, append_assoc, add-one, get_or, length, set, slice_get, Some, Contains, ◌⊎◌, inl, inr, arith, if◌then◌else◌}
use Rattle.std.specs.List.{AllByRecursion}
use Rattle.std.proofs.Math.ListN.{get_or-map}
use Rattle.std.proofs.lemmas.List.{get_or-map as map_at}
use Rattle.std.specs.Global.{Vec}
use Rattle.std.specs.Borrow.{Bor}
use Rattle.tc_model.specs.declared.sheet.Instr.{Instr}
use Rattle.std.proofs.lemmas.Bool.{true≢false, eqb-true, eq-eqb}
use Rattle.std.proofs.lemmas.List.{append-nil, drop_more, map-append, map-set, get_or_default, length-map, length-set, get_or-set_same, get_or-set_other}
use Rattle.std.proofs.lemmas.Option.{get_or_from_slice_get, slice_get-get_or, slice_get_within}
use Rattle.tc_alpha.proofs.Members.{Has, has_from_contains, contains_from_has, has_either, has_front, has_back, Every, every_append, every_member, every_from_all, every_from_members}
use Rattle.tc_model.specs.Sheets as s
use Rattle.tc_model.specs.Sheets.{no_instruction, put_text, put_element, copy, apply, call, for_each, value, value_of_self, choose, otherwise, branch}
use Rattle.tc_model.specs.Views as see
use Rattle.tc_model.specs.WellFormed.{IsSheet, IsBody, AreBranches, IsRule, ForEach, eaches_in, eaches_in_branches, eaches_of}
use Rattle.tc_model.specs.declared.sheet.Rule.{Rule}
use Rattle.tc_model.specs.declared.sheet.Sheet.{Sheet}
use Rattle.tc_rules.specs.Eaches.{Each, bodies_in, bodies_in_branches, bodies_of_eaches}
use Rattle.tc_rules.specs.Gathered.{numbers, bodies, bodies_with}
use Rattle.tc_rules.specs.Usages.{usages_of, eaches_in_usage}
use Rattle.tc_rules.specs.Views.{usage, usages}
use Rattle.tc_rules.specs.declared.walk.Usage.{Usage as UsageOf}
use Rattle.tc_rules.specs.Kept.{numbers_in_mode}
use Rattle.tc_rules.proofs.Steps.{moved}
use Rattle.tc_rules.proofs.UsagesOf.{eaches_are}

-- a rule's mode is one of the sheet
pub rule_mode : (x : Sheet) (i : ℕ) (r : Rule) → IsSheet (see.sheet x) → i < length x.rules.now → r ≡ get_or x.rules.now i r → r.mode < x.modes
rule_mode x i r h l e =
    let inside : i < length (map see.rule x.rules.now) = omega (arith, l, length-map x.rules.now see.rule) in
    let mode : (get_or (map see.rule x.rules.now) i (see.rule r)).mode < x.modes = (h.rules i (see.rule r) inside).mode in
    subst (λ (q : s.Rule). q.mode < x.modes) (get_or-map see.rule x.rules.now i r ∙ ap see.rule (sym e)) mode

-- the bodies of for-eaches, each with its number

abbrev without_path : ForEach → Each
without_path f = record { number = f.number; body = f.body }

two_parts : {X : Type 0} (a b c d : List X) → a ≡ c → b ≡ d → a ++ b ≡ c ++ d
two_parts a b c d e f = cc

joined : (xs ys : List ForEach) (us vs : List Each) → map without_path xs ≡ us → map without_path ys ≡ vs → map without_path (xs ++ ys) ≡ us ++ vs
joined xs ys us vs e f = map-append without_path xs ys ∙ two_parts (map without_path xs) (map without_path ys) us vs e f

mutual
  in_body : (b : s.Body) → map without_path (eaches_in b) ≡ bodies_in b
  in_body no_instruction = refl
  in_body (put_text x b) = in_body b
  in_body (put_element n inner b) = joined (eaches_in inner) (eaches_in b) (bodies_in inner) (bodies_in b) (in_body inner) (in_body b)
  in_body (copy inner b) = joined (eaches_in inner) (eaches_in b) (bodies_in inner) (bodies_in b) (in_body inner) (in_body b)
  in_body (apply p m b) = in_body b
  in_body (call n b) = in_body b
  in_body (value p b) = in_body b
  in_body (value_of_self b) = in_body b
  in_body (choose x b) = joined (eaches_in_branches x) (eaches_in b) (bodies_in_branches x) (bodies_in b) (in_branches x) (in_body b)
  in_body (for_each e p inner b) =
      ap (λ w. record { number = e; body = inner } ∷ w) (joined (eaches_in inner) (eaches_in b) (bodies_in inner) (bodies_in b) (in_body inner) (in_body b))

  in_branches : (x : s.Branches) → map without_path (eaches_in_branches x) ≡ bodies_in_branches x
  in_branches (otherwise b) = in_body b
  in_branches (branch t b x) = joined (eaches_in b) (eaches_in_branches x) (bodies_in b) (bodies_in_branches x) (in_body b) (in_branches x)

in_rules : (rs : List s.Rule) → map without_path (flat_map (λ (r : s.Rule). eaches_in r.body) rs) ≡ flat_map (λ (r : s.Rule). bodies_in r.body) rs
in_rules [] = refl
in_rules (r ∷ rs) = joined (eaches_in r.body) (flat_map (λ (r : s.Rule). eaches_in r.body) rs) (bodies_in r.body) (flat_map (λ (r : s.Rule). bodies_in r.body) rs) (in_body r.body) (in_rules rs)

in_named : (bs : List s.Body) → map without_path (flat_map (λ b. eaches_in b) bs) ≡ flat_map bodies_in bs
in_named [] = refl
in_named (b ∷ bs) = joined (eaches_in b) (flat_map (λ b. eaches_in b) bs) (bodies_in b) (flat_map bodies_in bs) (in_body b) (in_named bs)

pub in_sheet : (x : s.Sheet) → map without_path (eaches_of x) ≡ bodies_of_eaches x
in_sheet x =
    joined (flat_map (λ (r : s.Rule). eaches_in r.body) x.rules) (flat_map (λ b. eaches_in b) x.named)
    (flat_map (λ (r : s.Rule). bodies_in r.body) x.rules) (flat_map bodies_in x.named) (in_rules x.rules) (in_named x.named)

has_map : {X Y : Type 0} (f : X → Y) (xs : List X) (y : Y) → Has (map f xs) y → (x : X) × Has xs x × (f x ≡ y)
has_map f [] y h = absurd h
has_map f (x ∷ xs) y (inl e) = (x, inl refl, e)
has_map f (x ∷ xs) y (inr h) = let r = has_map f xs y h in (r.0, inr r.1, r.2)

map_has : {X Y : Type 0} (f : X → Y) (xs : List X) (x : X) → Has xs x → Has (map f xs) (f x)
map_has f [] x h = absurd h
map_has f (y ∷ xs) x (inl e) = inl (ap f e)
map_has f (y ∷ xs) x (inr h) = inr (map_has f xs x h)

module _ (x : s.Sheet) (h : IsSheet x) where
  as_each : (y : Each) → Has (bodies_of_eaches x) y → (f : ForEach) × Has (eaches_of x) f × (without_path f ≡ y)
  as_each y k = has_map without_path (eaches_of x) y (subst (λ w. Has w y) (sym (in_sheet x)) k)

  -- those of one number are one
  pub one_each : (a b : Each) → Has (bodies_of_eaches x) a → Has (bodies_of_eaches x) b → a.number ≡ b.number → a ≡ b
  one_each a b k l e =
      let f = as_each a k in
      let g = as_each b l in
      let same : f.0.number ≡ g.0.number = ap (λ (z : Each). z.number) f.2 ∙ (e ∙ sym (ap (λ (z : Each). z.number) g.2)) in
      sym f.2 ∙ (ap without_path (h.same_eaches f.0 g.0 (contains_from_has (eaches_of x) f.0 f.1) (contains_from_has (eaches_of x) g.0 g.1) same) ∙ g.2)

  abbrev IsNumber : Each → Type 0
  IsNumber y = y.number < x.eaches

  mutual
    body_numbers : (b : s.Body) → IsBody x b → Every IsNumber (bodies_in b)
    body_numbers no_instruction k = tt
    body_numbers (put_text w b) k = body_numbers b k.1
    body_numbers (put_element n inner b) k = every_append IsNumber (bodies_in inner) (bodies_in b) (body_numbers inner k.1) (body_numbers b k.2)
    body_numbers (copy inner b) k = every_append IsNumber (bodies_in inner) (bodies_in b) (body_numbers inner k.0) (body_numbers b k.1)
    body_numbers (apply p m b) k = body_numbers b k.2
    body_numbers (call n b) k = body_numbers b k.1
    body_numbers (value p b) k = body_numbers b k.1
    body_numbers (value_of_self b) k = body_numbers b k
    body_numbers (choose w b) k = every_append IsNumber (bodies_in_branches w) (bodies_in b) (branch_numbers w k.0) (body_numbers b k.1)
    body_numbers (for_each e p inner b) k = (k.0, every_append IsNumber (bodies_in inner) (bodies_in b) (body_numbers inner k.2) (body_numbers b k.3))

    branch_numbers : (w : s.Branches) → AreBranches x w → Every IsNumber (bodies_in_branches w)
    branch_numbers (otherwise b) k = body_numbers b k
    branch_numbers (branch t b w) k = every_append IsNumber (bodies_in b) (bodies_in_branches w) (body_numbers b k.1) (branch_numbers w k.2)

  rules_numbers : (rs : List s.Rule) → Every (IsRule x) rs → Every IsNumber (flat_map (λ (r : s.Rule). bodies_in r.body) rs)
  rules_numbers [] k = tt
  rules_numbers (r ∷ rs) k = every_append IsNumber (bodies_in r.body) (flat_map (λ (r : s.Rule). bodies_in r.body) rs) (body_numbers r.body k.0.body) (rules_numbers rs k.1)

  named_numbers : (bs : List s.Body) → Every (IsBody x) bs → Every IsNumber (flat_map bodies_in bs)
  named_numbers [] k = tt
  named_numbers (b ∷ bs) k = every_append IsNumber (bodies_in b) (flat_map bodies_in bs) (body_numbers b k.0) (named_numbers bs k.1)

  pub each_number : (y : Each) → Has (bodies_of_eaches x) y → y.number < x.eaches
  each_number y k =
      every_member IsNumber (bodies_of_eaches x) y
      (every_append IsNumber (flat_map (λ (r : s.Rule). bodies_in r.body) x.rules) (flat_map bodies_in x.named) (rules_numbers x.rules (every_from_all (IsRule x) x.rules h.rules))
      (named_numbers x.named (every_from_all (IsBody x) x.named h.named))) k

-- a body is put at its number, where those put before are kept
abbrev pub ArePut : List s.Body → List Each → Type 0
ArePut bodies done = (x : Each) → Has done x → slice_get bodies x.number ≡ Some x.body

got_same : {X : Type 0} (xs : List X) (i : ℕ) (x : X) → i < length xs → slice_get (set xs i x) i ≡ Some x
got_same xs i x l =
    slice_get-get_or (set xs i x) i x (omega (arith, l, length-set xs i x)) ∙ ap Some (get_or-set_same xs i x x l)

got_other : {X : Type 0} (xs : List X) (i j : ℕ) (x y : X) → j ≢ i → slice_get xs j ≡ Some y → slice_get (set xs i x) j ≡ Some y
got_other xs i j x y n e =
    let inside : j < length xs = slice_get_within xs j y e in
    slice_get-get_or (set xs i x) j y (omega (arith, inside, length-set xs i x)) ∙ ap Some (get_or-set_other xs i j x y n ∙ get_or_from_slice_get xs j y y e)

-- one body more, and more of them
put_one : (z : s.Sheet) → IsSheet z → (front back : List Each) (y : Each) → front ++ y ∷ back ≡ bodies_of_eaches z → (old : List s.Body) → y.number < length old → ArePut old front → ArePut (set old y.number y.body) (front ++ y ∷ [])
put_one z h front back y is old inside done x k = by (nat_eq x.number y.number) refl
  where
    y_there : Has (bodies_of_eaches z) y
    y_there = subst (λ w. Has w y) is (has_back front (y ∷ back) y (inl refl))

    among : Has front x ⊎ Has (y ∷ []) x → Has (front ++ y ∷ back) x
    among (inl a) = has_front front (y ∷ back) x a
    among (inr (inl g)) = has_back front (y ∷ back) x (inl g)
    among (inr (inr a)) = absurd a

    other : (x.number ≡ y.number → ⊥) → Has front x ⊎ Has (y ∷ []) x → slice_get (set old y.number y.body) x.number ≡ Some x.body
    other n (inl a) = got_other old y.number x.number y.body x.body n (done x a)
    other n (inr (inl g)) = absurd (n (ap (λ (w : Each). w.number) (sym g)))
    other n (inr (inr a)) = absurd a

    by : (b : Bool) → nat_eq x.number y.number ≡ b → slice_get (set old y.number y.body) x.number ≡ Some x.body
    by true f =
        let x_there : Has (bodies_of_eaches z) x = subst (λ w. Has w x) is (among (has_either front (y ∷ []) x k)) in
        let same : x ≡ y = one_each z h x y x_there y_there (eqb-true x.number y.number f) in
        subst (λ (w : Each). slice_get (set old y.number y.body) w.number ≡ Some w.body) (sym same) (got_same old y.number y.body inside)
    by false f = other (λ g. true≢false (sym (eq-eqb x.number y.number g) ∙ f)) (has_either front (y ∷ []) x k)

abbrev AreBelow : ℕ → List Each → Type 0
AreBelow n xs = Every (λ (x : Each). x.number < n) xs

put_more : (z : s.Sheet) → IsSheet z → (front more back : List Each) → front ++ (more ++ back) ≡ bodies_of_eaches z → (old : List s.Body) → AreBelow (length old) more → ArePut old front → ArePut (bodies_with old more) (front ++ more)
put_more z h front [] back is old low done = subst (ArePut old) (sym (append-nil front)) done
put_more z h front (y ∷ more) back is old low done =
    let now = set old y.number y.body in
    let lower : AreBelow (length now) more = subst (λ n. AreBelow n more) (sym (length-set old y.number y.body)) low.1 in
    subst (ArePut (bodies_with now more)) (append_assoc front (y ∷ []) more)
    (put_more z h (front ++ y ∷ []) more back (append_assoc front (y ∷ []) (more ++ back) ∙ is) now lower (put_one z h front (more ++ back) y is old low.0 done))

as_many : (old : List s.Body) (more : List Each) → length (bodies_with old more) ≡ length old
as_many old [] = refl
as_many old (y ∷ more) = as_many (set old y.number y.body) more ∙ length-set old y.number y.body

-- one number more in the list of a mode
pub number_put : (lists : List (Vec ℕ)) (i n : ℕ) (v d : Vec ℕ) → i < length lists → v.items ≡ (get_or lists i d).items ++ n ∷ [] → get_or (numbers (set lists i v)) i [] ≡ get_or (numbers lists) i [] ++ n ∷ []
number_put lists i n v d l e =
    let inside : i < length (numbers lists) = omega (arith, l, length-map lists (λ (w : Vec ℕ). w.items)) in
    ap (λ w. get_or w i []) (map-set (λ (w : Vec ℕ). w.items) lists i v)
    ∙ (get_or-set_same (numbers lists) i v.items [] inside
    ∙ (e ∙ ap (λ w. w ++ n ∷ []) (sym (map_at (λ (w : Vec ℕ). w.items) lists i d [] l))))

pub number_kept : (lists : List (Vec ℕ)) (i m : ℕ) (v : Vec ℕ) → m ≢ i → get_or (numbers (set lists i v)) m [] ≡ get_or (numbers lists) m []
number_kept lists i m v n = ap (λ w. get_or w m []) (map-set (λ (w : Vec ℕ). w.items) lists i v) ∙ get_or-set_other (numbers lists) i m v.items [] n

pub rule_fits : (x : Sheet) (i : ℕ) (d : Rule) (lists : List (Vec ℕ)) → IsSheet (see.sheet x) → i < length x.rules.now → length lists ≡ x.modes → (get_or x.rules.now i d).mode < length lists
rule_fits x i d lists h l e =
    subst (λ n. (get_or x.rules.now i d).mode < n) (sym e) (rule_mode x i (get_or x.rules.now i d) h l (get_or_default x.rules.now i d (get_or x.rules.now i d) l))

-- one rule more has its number in the list of its mode
pub rule_numbered : (old now : List (List ℕ)) (whole : List ℕ) (rules : List Rule) (i m : ℕ) (d : Rule) → i < length rules
    → get_or now (get_or rules i d).mode [] ≡ get_or old (get_or rules i d).mode [] ++ i ∷ [] → ((k : ℕ) → k ≢ (get_or rules i d).mode → get_or now k [] ≡ get_or old k [])
    → get_or old m [] ++ numbers_in_mode m i (map see.rule (drop i rules)) ≡ whole → get_or now m [] ++ numbers_in_mode m (i + 1) (map see.rule (drop (i + 1) rules)) ≡ whole
rule_numbered old now whole rules i m d l put kept k =
    by (nat_eq (get_or rules i d).mode m) refl
  where
    left : (b : Bool) → nat_eq (get_or rules i d).mode m ≡ b
        → numbers_in_mode m i (map see.rule (drop i rules))
        ≡ (if b then (i ∷ numbers_in_mode m (i + 1) (map see.rule (drop (i + 1) rules))) else numbers_in_mode m (i + 1) (map see.rule (drop (i + 1) rules)))
    left b e =
        ap (λ (w : List Rule). numbers_in_mode m i (map see.rule w)) (drop_more rules i d l)
        ∙ (ap (λ (n : ℕ). if nat_eq (get_or rules i d).mode m then (i ∷ numbers_in_mode m n (map see.rule (drop (i + 1) rules))) else numbers_in_mode m n (map see.rule (drop (i + 1) rules))) (sym (add-one i))
        ∙ ap (λ (c : Bool). if c then (i ∷ numbers_in_mode m (i + 1) (map see.rule (drop (i + 1) rules))) else numbers_in_mode m (i + 1) (map see.rule (drop (i + 1) rules))) e)

    by : (b : Bool) → nat_eq (get_or rules i d).mode m ≡ b → get_or now m [] ++ numbers_in_mode m (i + 1) (map see.rule (drop (i + 1) rules)) ≡ whole
    by true e =
        let same : (get_or rules i d).mode ≡ m = eqb-true (get_or rules i d).mode m e in
        moved (get_or old m []) (get_or now m []) (i ∷ []) (numbers_in_mode m i (map see.rule (drop i rules))) (numbers_in_mode m (i + 1) (map see.rule (drop (i + 1) rules))) whole
        (subst (λ n. get_or now n [] ≡ get_or old n [] ++ i ∷ []) same put) (left true e) k
    by false e =
        let differ : m ≢ (get_or rules i d).mode = λ f. true≢false (sym (eq-eqb (get_or rules i d).mode m (sym f)) ∙ e) in
        ap (λ w. w ++ numbers_in_mode m (i + 1) (map see.rule (drop (i + 1) rules))) (kept m differ) ∙ (ap (λ w. get_or old m [] ++ w) (sym (left false e)) ∙ k)

-- the for-eaches of some usages, before one of them, at it, and behind it
abbrev found_in : List UsageOf → List Each
found_in us = flat_map eaches_in_usage (usages us)

taken : (us : List UsageOf) (i : ℕ) (d : UsageOf) → i < length us → found_in (take (suc i) us) ≡ found_in (take i us) ++ eaches_in_usage (usage (get_or us i d))
taken [] i d l = absurd (omega (arith, l))
taken (u ∷ us) zero d l = append-nil (eaches_in_usage (usage u))
taken (u ∷ us) (suc i) d l =
    ap (λ w. eaches_in_usage (usage u) ++ w) (taken us i d (omega (arith, l)))
    ∙ sym (append_assoc (eaches_in_usage (usage u)) (found_in (take i us)) (eaches_in_usage (usage (get_or us i d))))

parted : (us : List UsageOf) (i : ℕ) (d : UsageOf) → i < length us → found_in us ≡ found_in (take i us) ++ (eaches_in_usage (usage (get_or us i d)) ++ found_in (drop (suc i) us))
parted [] i d l = absurd (omega (arith, l))
parted (u ∷ us) zero d l = refl
parted (u ∷ us) (suc i) d l =
    ap (λ w. eaches_in_usage (usage u) ++ w) (parted us i d (omega (arith, l)))
    ∙ sym (append_assoc (eaches_in_usage (usage u)) (found_in (take i us)) (eaches_in_usage (usage (get_or us i d)) ++ found_in (drop (suc i) us)))

module _ (z : s.Sheet) (h : IsSheet z) (us : List UsageOf) (is : usages us ≡ usages_of z) where
  found_is : found_in us ≡ bodies_of_eaches z
  found_is = eaches_are z (usages us) is

  pub each_fits : (i : ℕ) (u : UsageOf) (n : ℕ) → i < length us → u ≡ get_or us i u → n ≡ z.eaches → AllByRecursion (λ (x : Each). x.number < n) (eaches_in_usage (usage u))
  each_fits i u n l at e =
      let more = eaches_in_usage (usage (get_or us i u)) in
      subst (λ w. AreBelow n (eaches_in_usage (usage w))) (sym at)
      (every_from_members (λ (x : Each). x.number < n) more
      (λ x k. subst (λ m. x.number < m) (sym e)
      (each_number z h x (subst (λ w. Has w x) (sym (parted us i u l) ∙ found_is) (has_back (found_in (take i us)) (more ++ found_in (drop (suc i) us)) x (has_front more (found_in (drop (suc i) us)) x k))))))

  pub put_at : (old new : List (Bor (List Instr))) (i : ℕ) (u : UsageOf) → i < length us → u ≡ get_or us i u → length old ≡ z.eaches
      → bodies new ≡ bodies_with (bodies old) (eaches_in_usage (usage u))
      → ArePut (bodies old) (found_in (take i us)) → (length new ≡ z.eaches) × ArePut (bodies new) (found_in (take (i + 1) us))
  put_at old new i u l at e put done =
      let more = eaches_in_usage (usage u) in
      let of_old = length-map old (λ (b : Bor (List Instr)). see.body b.now) in
      let few : AreBelow (length (bodies old)) more = each_fits i u (length (bodies old)) l at (of_old ∙ e) in
      let count : length (bodies new) ≡ length (bodies old) = ap length put ∙ as_many (bodies old) more in
      let here : found_in (take (i + 1) us) ≡ found_in (take i us) ++ more =
      ap (λ n. found_in (take n us)) (add-one i) ∙ (taken us i u l ∙ ap (λ w. found_in (take i us) ++ eaches_in_usage (usage w)) (sym at)) in
      let all : found_in (take i us) ++ (more ++ found_in (drop (suc i) us)) ≡ bodies_of_eaches z =
      ap (λ w. found_in (take i us) ++ (eaches_in_usage (usage w) ++ found_in (drop (suc i) us))) at ∙ (sym (parted us i u l) ∙ found_is) in (
        omega (arith, e, count, of_old, length-map new (λ (b : Bor (List Instr)). see.body b.now)),
        subst (ArePut (bodies new)) (sym here)
            (subst (λ w. ArePut w (found_in (take i us) ++ more)) (sym put)
            (put_more z h (found_in (take i us)) more (found_in (drop (suc i) us)) all (bodies old) few done)),
      )

  -- all are put
  pub all_put : (bs : List s.Body) (i : ℕ) → length us ≤ i → ArePut bs (found_in (take i us)) → (f : ForEach) → Contains (eaches_of z) f → slice_get bs f.number ≡ Some f.body
  all_put bs i l done f k =
      done (without_path f) (subst (λ w. Has w (without_path f)) (in_sheet z ∙ (sym found_is ∙ sym (ap found_in (all_of us i l)))) (map_has without_path (eaches_of z) f (has_from_contains (eaches_of z) f k)))
    where
      all_of : {X : Type 0} (xs : List X) (i : ℕ) → length xs ≤ i → take i xs ≡ xs
      all_of [] zero l = refl
      all_of [] (suc i) l = refl
      all_of (x ∷ xs) zero l = absurd (omega (arith, l))
      all_of (x ∷ xs) (suc i) l = ap (λ w. x ∷ w) (all_of xs i (omega (arith, l)))

pub none_put : (bs : List s.Body) → ArePut bs []
none_put bs x h = absurd h
