-- Steps of loops that count, and of those that put spots.
use Rattle.std.proofs.Common.{◌≡◌, ℕ, ◌+◌, ◌<◌, ◌≤◌, List, [], ◌∷◌, ◌++◌, refl, ap, ◌∙◌, sym, arith, length, map, get_or, drop, append_assoc, add-one, suc, Result, Ok, Err, IfOk, OnOk}
use Rattle.std.proofs.lemmas.List.{drop_more, drop_all}
use Rattle.tc_model.specs.Sheets as model
use Rattle.tc_model.specs.Views as see
use Rattle.tc_model.specs.declared.sheet.Branch.{Branch}
use Rattle.tc_model.specs.declared.sheet.Instr.{Instr}
use Rattle.tc_model.specs.declared.sheet.Rule.{Rule}
use Rattle.tc_model.specs.declared.sheet.Sheet.{Sheet}
use Rattle.tc_dead.specs.Spots as spots
use Rattle.tc_dead.specs.Spots.{branches_of, branches_in, eaches_of, eaches_in, branches_of_all, eaches_of_all, up_to, rule_bodies, spots_of}
use Rattle.tc_dead.specs.Views.{seen, bodies, alone, open_branches}
use Rattle.tc_dead.specs.declared.spots.Spot.{Spot}
use Rattle.tc_dead.proofs.InstructionParts.{branches_step, eaches_step, branches_branch, eaches_branch, branches_end, eaches_end, branches_branches_end, eaches_branches_end}

-- one more instruction
module _ (is : List Instr) (k : ℕ) (x : Instr) (h : k < length is) (e : x ≡ get_or is k x) where
  pub branches_count : (old new all : ℕ) → new ≡ old + branches_of (alone x) → old + branches_of (see.body (drop k is)) ≡ all → new + branches_of (see.body (drop (k + 1) is)) ≡ all
  branches_count old new all f g = omega (arith, f, g, branches_step is k x h e)

  pub eaches_count : (old new all : ℕ) → new ≡ old + eaches_of (alone x) → old + eaches_of (see.body (drop k is)) ≡ all → new + eaches_of (see.body (drop (k + 1) is)) ≡ all
  eaches_count old new all f g = omega (arith, f, g, eaches_step is k x h e)

pub branches_counted : (is : List Instr) (k new all : ℕ) → length is ≤ k → new + branches_of (see.body (drop k is)) ≡ all → new ≡ all
branches_counted is k new all h e = omega (arith, e, branches_end is k h)

pub eaches_counted : (is : List Instr) (k new all : ℕ) → length is ≤ k → new + eaches_of (see.body (drop k is)) ≡ all → new ≡ all
eaches_counted is k new all h e = omega (arith, e, eaches_end is k h)

-- one more branch
module _ (bs : List Branch) (k : ℕ) (d : Branch) (h : k < length bs) where
  pub branches_count_in : (old new all : ℕ) → new ≡ old + 1 + branches_of (see.body (get_or bs k d).body.now) → old + branches_in (open_branches (drop k bs)) ≡ all → new + branches_in (open_branches (drop (k + 1) bs)) ≡ all
  branches_count_in old new all f g = omega (arith, f, g, branches_branch bs k d h)

  pub eaches_count_in : (old new all : ℕ) → new ≡ old + eaches_of (see.body (get_or bs k d).body.now) → old + eaches_in (open_branches (drop k bs)) ≡ all → new + eaches_in (open_branches (drop (k + 1) bs)) ≡ all
  eaches_count_in old new all f g = omega (arith, f, g, eaches_branch bs k d h)

pub branches_counted_in : (bs : List Branch) (k new all : ℕ) → length bs ≤ k → new + branches_in (open_branches (drop k bs)) ≡ all → new ≡ all
branches_counted_in bs k new all h e = omega (arith, e, branches_branches_end bs k h)

pub eaches_counted_in : (bs : List Branch) (k new all : ℕ) → length bs ≤ k → new + eaches_in (open_branches (drop k bs)) ≡ all → new ≡ all
eaches_counted_in bs k new all h e = omega (arith, e, eaches_branches_end bs k h)

-- one more body of a list, as each item has one
module _ {X : Type 0} (f : X → model.Body) (xs : List X) (k : ℕ) (d : X) where
  branches_first : k < length xs → branches_of_all (map f (drop k xs)) ≡ branches_of (f (get_or xs k d)) + branches_of_all (map f (drop (k + 1) xs))
  branches_first h = ap (λ z. branches_of_all (map f z)) (drop_more xs k d h)

  eaches_first : k < length xs → eaches_of_all (map f (drop k xs)) ≡ eaches_of (f (get_or xs k d)) + eaches_of_all (map f (drop (k + 1) xs))
  eaches_first h = ap (λ z. eaches_of_all (map f z)) (drop_more xs k d h)

  pub branches_count_all : (old new all : ℕ) → k < length xs → new ≡ old + branches_of (f (get_or xs k d)) → old + branches_of_all (map f (drop k xs)) ≡ all → new + branches_of_all (map f (drop (k + 1) xs)) ≡ all
  branches_count_all old new all h e g = omega (arith, e, g, branches_first h)

  pub eaches_count_all : (old new all : ℕ) → k < length xs → new ≡ old + eaches_of (f (get_or xs k d)) → old + eaches_of_all (map f (drop k xs)) ≡ all → new + eaches_of_all (map f (drop (k + 1) xs)) ≡ all
  eaches_count_all old new all h e g = omega (arith, e, g, eaches_first h)

module _ {X : Type 0} (f : X → model.Body) (xs : List X) (k : ℕ) (h : length xs ≤ k) where
  no_branches_left : branches_of_all (map f (drop k xs)) ≡ 0
  no_branches_left = ap (λ z. branches_of_all (map f z)) (drop_all k xs h)

  no_eaches_left : eaches_of_all (map f (drop k xs)) ≡ 0
  no_eaches_left = ap (λ z. eaches_of_all (map f z)) (drop_all k xs h)

  pub branches_counted_all : (new all : ℕ) → new + branches_of_all (map f (drop k xs)) ≡ all → new ≡ all
  branches_counted_all new all e = omega (arith, e, no_branches_left)

  pub eaches_counted_all : (new all : ℕ) → new + eaches_of_all (map f (drop k xs)) ≡ all → new ≡ all
  eaches_counted_all new all e = omega (arith, e, no_eaches_left)

map_push : {X Y : Type 0} (f : X → Y) (xs : List X) (x : X) → map f (xs ++ x ∷ []) ≡ map f xs ++ f x ∷ []
map_push f [] x = refl
map_push f (y ∷ ys) x = ap (λ z. f y ∷ z) (map_push f ys x)

-- one more spot of a kind
pub spot_more : (kind : ℕ → spots.Spot) (start old new : List Spot) (x : Spot) (n : ℕ) → new ≡ old ++ x ∷ [] → seen x ≡ kind (n + 1) → map seen old ≡ map seen start ++ map kind (up_to n) → map seen new ≡ map seen start ++ map kind (up_to (n + 1))
spot_more kind start old new x n put is e =
    ap (map seen) put
    ∙ (map_push seen old x
    ∙ (ap (λ z. z ++ seen x ∷ []) e
    ∙ (append_assoc (map seen start) (map kind (up_to n)) (seen x ∷ [])
    ∙ (ap (λ z. map seen start ++ (map kind (up_to n) ++ z ∷ [])) is
    ∙ (ap (λ z. map seen start ++ z) (sym (map_push kind (up_to n) (n + 1))) ∙ ap (λ z. map seen start ++ map kind (up_to z)) (sym (add-one n)))))))

pub if_ok : {T E : Type 0} (r : Result T E) (P Q : T → Type 0) → ((x : T) → P x → Q x) → IfOk r P → IfOk r Q
if_ok (Ok x) P Q f h = f x h
if_ok (Err e) P Q f h = h

pub rule_bodies_so : (rs : List Rule) → map (λ r. r.body) (map see.rule rs) ≡ map (λ r. see.body r.body.now) rs
rule_bodies_so [] = refl
rule_bodies_so (r ∷ rs) = ap (λ z. see.body r.body.now ∷ z) (rule_bodies_so rs)

length_map : {X Y : Type 0} (f : X → Y) (xs : List X) → length (map f xs) ≡ length xs
length_map f [] = refl
length_map f (x ∷ xs) = ap suc (length_map f xs)

-- the three kinds of spots, one after the other
pub all_spots : (x : Sheet) (none rules named all put : List Spot) (i j k l : ℕ)
    → i ≡ length x.rules.now → j ≡ length x.named.now
    → k ≡ branches_of_all (map (λ r. see.body r.body.now) x.rules.now) → l ≡ k + branches_of_all (bodies x.named.now)
    → none ≡ [] → map seen rules ≡ map seen none ++ map spots.a_rule (up_to i) → map seen named ≡ map seen rules ++ map spots.a_named_body (up_to j)
    → map seen all ≡ map seen named ++ map spots.a_branch (up_to l) → put ≡ all
    → map seen put ≡ spots_of (see.sheet x)
all_spots x none rules named all put i j k l is js ks ls e f g h p =
    let count : l ≡ branches_of_all (rule_bodies (see.sheet x)) + branches_of_all (see.sheet x).named = ls ∙ ap (λ z. z + branches_of_all (bodies x.named.now)) (ks ∙ ap branches_of_all (sym (rule_bodies_so x.rules.now))) in
    let first : i ≡ length (see.sheet x).rules = is ∙ sym (length_map see.rule x.rules.now) in
    let second : j ≡ length (see.sheet x).named = js ∙ sym (length_map (λ b. see.body b.now) x.named.now) in
    ap (map seen) p
    ∙ (h
    ∙ (ap (λ z. z ++ map spots.a_branch (up_to l)) (g ∙ ap (λ z. z ++ map spots.a_named_body (up_to j)) (f ∙ ap (λ z. map seen z ++ map spots.a_rule (up_to i)) e))
    ∙ (append_assoc (map spots.a_rule (up_to i)) (map spots.a_named_body (up_to j)) (map spots.a_branch (up_to l))
    ∙ λ m. map spots.a_rule (up_to (first m)) ++ (map spots.a_named_body (up_to (second m)) ++ map spots.a_branch (up_to (count m))))))

pub on_ok : {T E : Type 0} (r : Result T E) (P Q : Type 0) → (P → Q) → OnOk r P → OnOk r Q
on_ok (Ok x) P Q f h = f h
on_ok (Err e) P Q f h = h
