-- Rounds reach the states that are reached, and no round goes on where none leads further.
use Rattle.std.proofs.Common.{◌≡◌, ℕ, zero, suc, ◌+◌, ◌<◌, ◌≤◌, List, [], ◌∷◌, ◌++◌, Bool, true, false, refl, ap, sym, ◌∙◌, subst, map, filter, flat_map, length, take, drop, append_assoc, Some, slice_get, get_or, arith, if◌then◌else◌}
use Rattle.std.proofs.lemmas.List.{append-nil, length-append, take-append-drop, take_all, take_at, drop_more, drop_all}
use Rattle.std.proofs.lemmas.List.Elements.{filter-append}
use Rattle.std.proofs.lemmas.Grind.{flat_map-append}
use Rattle.std.proofs.lemmas.Option.{slice_get-get_or}
use Rattle.tc_model.specs.Letters.{Letter}
use Rattle.tc_model.specs.PathStates.{State, same_state}
use Rattle.tc_model.specs.Numbered.{each_once_after}
use Rattle.tc_model.specs.Numberings as n
use Rattle.tc_rules.specs.Once.{put_all}
use Rattle.tc_rules.specs.Reached.{leads_of, one_round, rounds, AreReached}
use Rattle.tc_rules.proofs.Numbering.{put_joined, put_is, IsOnce, once_put_all, AreThere, put_absorbed, there_joined, there_kept, put_all_there, round_puts}
use Rattle.tc_rules.proofs.Pieces.{get_front}
use Rattle.tc_rules.proofs.SameRows.{state_self}

module _ {X : Type 0} (same : X → X → Bool) (self : (x : X) → same x x ≡ true) (counts : X → Bool) (lead : X → List X) where
  leads_joined : (xs ys : List X) → leads_of same counts lead (xs ++ ys) ≡ leads_of same counts lead xs ++ leads_of same counts lead ys
  leads_joined xs ys = ap (filter counts) (flat_map-append lead xs ys) ∙ filter-append counts (flat_map lead xs) (flat_map lead ys)

  leads_split : (xs : List X) (i : ℕ) → leads_of same counts lead xs ≡ leads_of same counts lead (take i xs) ++ leads_of same counts lead (drop i xs)
  leads_split xs i = ap (leads_of same counts lead) (sym (take-append-drop i xs)) ∙ leads_joined (take i xs) (drop i xs)

  pub round_after : (m : ℕ) (xs : List X) → one_round same counts lead (rounds same counts lead m xs) ≡ rounds same counts lead (suc m) xs
  round_after zero xs = refl
  round_after (suc m) xs = round_after m (one_round same counts lead xs)

  -- so far all states of some round are found, and those to which the first of them lead are there
  pub record IsSoFar (first : X) (xs : List X) (from : ℕ) : Type 0 where
    pub round : ℕ
    pub found : xs ≡ rounds same counts lead round (filter counts (first ∷ []))
    pub once : IsOnce same xs
    pub there : AreThere same xs (leads_of same counts lead (take from xs))

  one_first : (first : X) → put_all same [] (filter counts (first ∷ [])) ≡ filter counts (first ∷ [])
  one_first first = by (counts first)
    where
      by : (b : Bool) → put_all same [] (if b then (first ∷ []) else []) ≡ (if b then (first ∷ []) else [])
      by true = refl
      by false = refl

  pub so_far_first : (first : X) (xs : List X) → xs ≡ put_all same [] (filter counts (first ∷ [])) → IsSoFar first xs 0
  so_far_first first xs e =
      let is : xs ≡ filter counts (first ∷ []) = e ∙ one_first first in
      record { round = 0; found = is; once = subst (IsOnce same) (sym is) (one_first first); there = tt }

  pub so_far_next : (first : X) (xs ys : List X) (from : ℕ) → ys ≡ put_all same xs (leads_of same counts lead (drop from xs)) → IsSoFar first xs from → IsSoFar first ys (length xs)
  so_far_next first xs ys from e h =
      let a = leads_of same counts lead (take from xs) in
      let b = leads_of same counts lead (drop from xs) in
      let goes : one_round same counts lead xs ≡ ys =
      ap (put_all same xs) (leads_split xs from)
      ∙ (put_joined same xs a b ∙ (ap (λ w. put_all same w b) (put_absorbed same xs a h.there) ∙ sym e)) in
      let front : take (length xs) ys ≡ xs = ap (take (length xs)) (e ∙ put_is same xs b) ∙ take_at xs (each_once_after same xs b) (length xs) refl in
      let all : AreThere same ys (a ++ b) =
      subst (λ w. AreThere same w (a ++ b)) (sym e)
      (there_joined same (put_all same xs b) a b (there_kept same xs b a h.there) (put_all_there same self xs b)) in
      record {
        round = suc h.round;
        found = sym goes ∙ (ap (one_round same counts lead) h.found ∙ round_after h.round (filter counts (first ∷ [])));
        once = subst (IsOnce same) (sym e) (once_put_all same xs b h.once);
        there = subst (λ w. AreThere same ys (leads_of same counts lead w)) (sym front) (subst (AreThere same ys) (sym (leads_split xs from)) all);
      }

  pub so_far_all : (first : X) (xs : List X) (from : ℕ) → length xs ≤ from → IsSoFar first xs from → AreReached same counts lead first xs
  so_far_all first xs from h k =
      record {
        found = (k.round, k.found);
        all = put_absorbed same xs (leads_of same counts lead xs) (subst (λ w. AreThere same xs (leads_of same counts lead w)) (take_all from xs h) k.there);
      }

  pub so_far_many : (first : X) (xs : List X) (from most : ℕ) → most < length xs → IsSoFar first xs from → (m : ℕ) × (most < length (rounds same counts lead m (filter counts (first ∷ []))))
  so_far_many first xs from most h k = (k.round, subst (λ w. most < length w) k.found h)

  pub rounds_once : (m : ℕ) (xs : List X) → IsOnce same xs → IsOnce same (rounds same counts lead m xs)
  rounds_once zero xs h = h
  rounds_once (suc m) xs h = rounds_once m (one_round same counts lead xs) (once_put_all same xs (leads_of same counts lead xs) h)

  pub first_once : (first : X) → IsOnce same (filter counts (first ∷ []))
  first_once first = one_first first

-- the same by letters
module _ (counts : State → Bool) (lead : State → List State) (next : State → Letter → State) (letters : List Letter)
    (alike : (s : List State) (x : State) → put_all same_state s (filter counts (map (next x) letters)) ≡ put_all same_state s (filter counts (lead x))) where
  leads_alike : (s xs : List State) → put_all same_state s (filter counts (flat_map (λ x. map (next x) letters) xs)) ≡ put_all same_state s (filter counts (flat_map lead xs))
  leads_alike s [] = refl
  leads_alike s (x ∷ xs) =
      ap (put_all same_state s) (filter-append counts (map (next x) letters) (flat_map (λ x. map (next x) letters) xs))
      ∙ (put_joined same_state s (filter counts (map (next x) letters)) (filter counts (flat_map (λ x. map (next x) letters) xs))
      ∙ (ap (λ w. put_all same_state w (filter counts (flat_map (λ x. map (next x) letters) xs))) (alike s x)
      ∙ (leads_alike (put_all same_state s (filter counts (lead x))) xs
      ∙ (sym (put_joined same_state s (filter counts (lead x)) (filter counts (flat_map lead xs)))
      ∙ ap (put_all same_state s) (sym (filter-append counts (lead x) (flat_map lead xs)))))))

  round_alike : (xs : List State) → IsOnce same_state xs → n.one_round counts next letters xs ≡ one_round same_state counts lead xs
  round_alike xs h = round_puts counts next letters xs h ∙ leads_alike xs xs

  pub rounds_alike : (m : ℕ) (xs : List State) → IsOnce same_state xs → n.rounds counts next letters m xs ≡ rounds same_state counts lead m xs
  rounds_alike zero xs h = refl
  rounds_alike (suc m) xs h =
      ap (n.rounds counts next letters m) (round_alike xs h) ∙ rounds_alike m (one_round same_state counts lead xs) (once_put_all same_state xs (leads_of same_state counts lead xs) h)

  pub reached_alike : (first : State) (xs : List State) → AreReached same_state counts lead first xs → n.AreReached counts next letters first xs
  reached_alike first xs h =
      let m = h.found.0 in
      let start = filter counts (first ∷ []) in
      let once : IsOnce same_state xs = subst (IsOnce same_state) (sym h.found.1) (rounds_once same_state state_self counts lead m start (first_once same_state state_self counts lead first)) in
      record {
        found = (m, h.found.1 ∙ sym (rounds_alike m start (first_once same_state state_self counts lead first)));
        all = round_alike xs once ∙ h.all;
      }

  pub many_alike : (first : State) (most m : ℕ) → most < length (rounds same_state counts lead m (filter counts (first ∷ []))) → most < length (n.rounds counts next letters m (filter counts (first ∷ [])))
  many_alike first most m h = subst (λ w. most < length w) (sym (rounds_alike m (filter counts (first ∷ [])) (first_once same_state state_self counts lead first))) h

module _ {X : Type 0} (same : X → X → Bool) (self : (x : X) → same x x ≡ true) (counts : X → Bool) (lead : X → List X) where
  -- one state after another: those after a number are still to lead further
  pub record IsExpanding (old : List X) (from number : ℕ) (now : List X) : Type 0 where
    pub more : List X
    pub grown : now ≡ old ++ more
    pub so_far : put_all same now (leads_of same counts lead (drop number old)) ≡ put_all same old (leads_of same counts lead (drop from old))

  pub expanding_first : (old : List X) (from : ℕ) → IsExpanding old from from old
  expanding_first old from = record { more = []; grown = sym (append-nil old); so_far = refl }

  pub expanding_next : (d : X) (old now new : List X) (from number : ℕ) → number < length old → ((x : X) → slice_get now number ≡ Some x → new ≡ put_all same now (filter counts (lead x)))
      → IsExpanding old from number now → IsExpanding old from (number + 1) new
  expanding_next d old now new from number h says k =
      let x = get_or old number d in
      let at : slice_get now number ≡ Some x = ap (λ w. slice_get w number) k.grown ∙ get_front old k.more number x (slice_get-get_or old number d h) in
      let is : new ≡ put_all same now (filter counts (lead x)) = says x at in
      let rest = drop (number + 1) old in
      let split : leads_of same counts lead (drop number old) ≡ filter counts (lead x) ++ leads_of same counts lead rest =
      ap (leads_of same counts lead) (drop_more old number d h) ∙ filter-append counts (lead x) (flat_map lead rest) in
      record {
        more = k.more ++ each_once_after same now (filter counts (lead x));
        grown =
            is ∙ (put_is same now (filter counts (lead x))
            ∙ (ap (λ w. w ++ each_once_after same now (filter counts (lead x))) k.grown ∙ append_assoc old k.more (each_once_after same now (filter counts (lead x)))));
        so_far =
            ap (λ w. put_all same w (leads_of same counts lead rest)) is
            ∙ (sym (put_joined same now (filter counts (lead x)) (leads_of same counts lead rest)) ∙ (ap (put_all same now) (sym split) ∙ k.so_far));
      }

  -- where a state leads to too many, all of them do
  pub expanding_many : (d : X) (old now : List X) (from number most : ℕ) → number < length old → ((x : X) → slice_get now number ≡ Some x → most < length (put_all same now (filter counts (lead x))))
      → IsExpanding old from number now → most < length (put_all same old (leads_of same counts lead (drop from old)))
  expanding_many d old now from number most h says k =
      let x = get_or old number d in
      let at : slice_get now number ≡ Some x = ap (λ w. slice_get w number) k.grown ∙ get_front old k.more number x (slice_get-get_or old number d h) in
      let here = filter counts (lead x) in
      let rest = leads_of same counts lead (drop (number + 1) old) in
      let split : leads_of same counts lead (drop number old) ≡ here ++ rest =
      ap (leads_of same counts lead) (drop_more old number d h) ∙ filter-append counts (lead x) (flat_map lead (drop (number + 1) old)) in
      let all : put_all same old (leads_of same counts lead (drop from old)) ≡ put_all same (put_all same now here) rest = sym k.so_far ∙ (ap (put_all same now) split ∙ put_joined same now here rest) in
      let more = each_once_after same (put_all same now here) rest in
      omega (arith, says x at, ap length (all ∙ put_is same (put_all same now here) rest), length-append (put_all same now here) more)

  pub expanding_all : (old now : List X) (from number : ℕ) → length old ≤ number → IsExpanding old from number now → now ≡ put_all same old (leads_of same counts lead (drop from old))
  expanding_all old now from number h k = ap (λ w. put_all same now (leads_of same counts lead w)) (sym (drop_all number old h)) ∙ k.so_far

pub put_grows : {X : Type 0} (same : X → X → Bool) (xs ys zs : List X) → ys ≡ put_all same xs zs → length xs ≤ length ys
put_grows same xs ys zs e =
    let more = each_once_after same xs zs in
    omega (arith, ap length (e ∙ put_is same xs zs), length-append xs more)
