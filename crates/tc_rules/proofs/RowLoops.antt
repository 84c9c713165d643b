-- What loops over rows keep.
use Rattle.std.proofs.Common.{◌≡◌, ℕ, zero, suc, ◌+◌, ◌/◌, ◌^◌, ◌<◌, ◌≤◌, List, [], ◌∷◌, ◌++◌, Bool, true, false, ◌&&◌, refl, ap, sym, ◌∙◌, length, get_or, drop, nat_eq, bit_and, bit_or, append_assoc, add-one, Bor, ◌≢◌, nat_lt, inl, inr, Some}
use Rattle.std.proofs.lemmas.Bool.{eqb-true, eq-eqb, cases_lt, lt-ltb, le-ltb}
use Rattle.std.proofs.lemmas.Grind.{get_or_default_zero}
use Rattle.std.proofs.lemmas.List.{drop_more, drop_all, get_or_default}
use Rattle.tc_model.specs.declared.sheet.Step.{Step}
use Rattle.tc_model.specs.declared.sheet.Test.{Test}
use Rattle.tc_model.specs.Views as see
use Rattle.tc_model.specs.PathStates as p
use Rattle.tc_model.specs.PathStates.{State, Items}
use Rattle.tc_model.specs.Sheets.{Path, Steps, no_step, step, no_alternative, alternative}
use Rattle.tc_model.proofs.ViewsPath.{left_step, left_alternative}
use Rattle.std.proofs.lemmas.Option.{get_or_from_slice_get, slice_get-get_or}
use Rattle.tc_rules.specs.Rows.{words, all_words}
use Rattle.tc_rules.specs.declared.rows.Row.{Row}
use Rattle.tc_rules.proofs.Pieces.{mapped_at}
use Rattle.tc_rules.specs.Steps as v
use Rattle.tc_rules.specs.Steps.{has_step, items_left}
use Rattle.tc_rules.specs.Words.{first_word, after_word, both_words, further_words, are_zero, are_alike, shifted, ends_of, count_steps}
use Rattle.tc_rules.specs.declared.rows.Sought.{Sought}
use Rattle.tc_rules.proofs.RowBits.{get_both}
use Rattle.tc_rules.proofs.RowPairs.{step_left, no_step_left}
use Rattle.tc_rules.proofs.RowSteps.{element, one_more}
use Rattle.tc_rules.proofs.Writing.{flat, IsLong}

first_left : (us : List ℕ) (k : ℕ) → first_word (drop k us) ≡ get_or us k 0
first_left [] zero = refl
first_left [] (suc k) = refl
first_left (u ∷ us) zero = refl
first_left (u ∷ us) (suc k) = first_left us k

after_here : (us : List ℕ) (k : ℕ) → after_word (drop k us) ≡ drop (suc k) us
after_here [] zero = refl
after_here [] (suc k) = refl
after_here (u ∷ us) zero = refl
after_here (u ∷ us) (suc k) = after_here us k

after_left : (us : List ℕ) (k : ℕ) → after_word (drop k us) ≡ drop (k + 1) us
after_left us k = rw add-one (after_here us k)

module _ (ws us : List ℕ) (k : ℕ) (l : k < length ws) where
  both_left : both_words (drop k ws) (drop k us) ≡ bit_and (get_or ws k 0) (get_or us k 0) ∷ both_words (drop (k + 1) ws) (drop (k + 1) us)
  both_left =
      ap (λ w. both_words w (drop k us)) (drop_more ws k 0 l)
      ∙ (ap (λ u. bit_and (get_or ws k 0) u ∷ both_words (drop (k + 1) ws) (after_word (drop k us))) (first_left us k)
      ∙ ap (λ w. bit_and (get_or ws k 0) (get_or us k 0) ∷ both_words (drop (k + 1) ws) w) (after_left us k))

  pub both_goes : (all old new : List ℕ) (w : ℕ) → w ≡ bit_and (get_or ws k 0) (get_or us k 0) → new ≡ old ++ w ∷ [] → all ≡ old ++ both_words (drop k ws) (drop k us) → all ≡ new ++ both_words (drop (k + 1) ws) (drop (k + 1) us)
  both_goes all old new w is put so_far = one_more all old new _ _ w put (both_left ∙ ap (λ u. u ∷ both_words (drop (k + 1) ws) (drop (k + 1) us)) (sym is)) so_far

  pub apart_goes : (all : Bool) → all ≡ are_zero (both_words (drop k ws) (drop k us)) → all ≡ (nat_eq (bit_and (get_or ws k 0) (get_or us k 0)) 0 && are_zero (both_words (drop (k + 1) ws) (drop (k + 1) us)))
  apart_goes all so_far = so_far ∙ ap are_zero both_left

  pub further_goes : (carry : ℕ) (all old new : List ℕ) (w m : ℕ) → m ≡ get_or us k 0 → w ≡ bit_or (get_or ws k 0) (bit_or (shifted m) carry) → new ≡ old ++ w ∷ []
      → all ≡ old ++ further_words carry (drop k ws) (drop k us) → all ≡ new ++ further_words (m / 2 ^ 63) (drop (k + 1) ws) (drop (k + 1) us)
  further_goes carry all old new w m at is put so_far =
      one_more all old new _ _ w put
      (ap (λ x. further_words carry x (drop k us)) (drop_more ws k 0 l)
      ∙ (ap (λ u. bit_or (get_or ws k 0) (bit_or (shifted u) carry) ∷ further_words (u / 2 ^ 63) (drop (k + 1) ws) (after_word (drop k us))) (first_left us k ∙ sym at)
      ∙ (ap (λ x. bit_or (get_or ws k 0) (bit_or (shifted m) carry) ∷ further_words (m / 2 ^ 63) (drop (k + 1) ws) x) (after_left us k)
      ∙ ap (λ x. x ∷ further_words (m / 2 ^ 63) (drop (k + 1) ws) (drop (k + 1) us)) (sym is))))
      so_far

  pub alike_goes : (vs : List ℕ) (all : Bool) → all ≡ are_alike (drop k ws) (drop k us) (drop k vs)
      → all ≡ (nat_eq (bit_and (get_or ws k 0) (get_or us k 0)) (bit_and (get_or ws k 0) (get_or vs k 0)) && are_alike (drop (k + 1) ws) (drop (k + 1) us) (drop (k + 1) vs))
  alike_goes vs all so_far =
      so_far
      ∙ (ap (λ w. are_alike w (drop k us) (drop k vs)) (drop_more ws k 0 l)
      ∙ (ap (λ u. nat_eq (bit_and (get_or ws k 0) u) (bit_and (get_or ws k 0) (first_word (drop k vs))) && are_alike (drop (k + 1) ws) (after_word (drop k us)) (after_word (drop k vs))) (first_left us k)
      ∙ (ap (λ u. nat_eq (bit_and (get_or ws k 0) (get_or us k 0)) (bit_and (get_or ws k 0) u) && are_alike (drop (k + 1) ws) (after_word (drop k us)) (after_word (drop k vs))) (first_left vs k)
      ∙ (ap (λ x. nat_eq (bit_and (get_or ws k 0) (get_or us k 0)) (bit_and (get_or ws k 0) (get_or vs k 0)) && are_alike (drop (k + 1) ws) x (after_word (drop k vs))) (after_left us k)
      ∙ ap (λ x. nat_eq (bit_and (get_or ws k 0) (get_or us k 0)) (bit_and (get_or ws k 0) (get_or vs k 0)) && are_alike (drop (k + 1) ws) (drop (k + 1) us) x) (after_left vs k)))))

pub over_both : (ws us : List ℕ) (k : ℕ) → length ws ≤ k → both_words (drop k ws) (drop k us) ≡ []
over_both ws us k h = ap (λ w. both_words w (drop k us)) (drop_all k ws h)

pub over_further : (carry : ℕ) (ws us : List ℕ) (k : ℕ) → length ws ≤ k → further_words carry (drop k ws) (drop k us) ≡ []
over_further carry ws us k h = ap (λ w. further_words carry w (drop k us)) (drop_all k ws h)

pub over_alike : (ws us vs : List ℕ) (k : ℕ) → length ws ≤ k → are_alike (drop k ws) (drop k us) (drop k vs) ≡ true
over_alike ws us vs k h = ap (λ w. are_alike w (drop k us) (drop k vs)) (drop_all k ws h)

pub zero_goes : (ws : List ℕ) (k : ℕ) → k < length ws → (all : Bool) → all ≡ are_zero (drop k ws) → all ≡ (nat_eq (get_or ws k 0) 0 && are_zero (drop (k + 1) ws))
zero_goes ws k l all so_far = so_far ∙ ap are_zero (drop_more ws k 0 l)

-- the same among some bits
alike_one : (a b : ℕ) (rest : Bool) → (nat_eq a b && rest) ≡ true → (a ≡ b) × (rest ≡ true)
alike_one a b rest e = by (nat_eq a b) refl e
  where
    by : (c : Bool) → nat_eq a b ≡ c → (c && rest) ≡ true → (a ≡ b) × (rest ≡ true)
    by true f h = (eqb-true a b f, h)
    by false f h = absurd (cc)

pub alike_both : (ws us vs : List ℕ) → are_alike ws us vs ≡ true → both_words ws us ≡ both_words ws vs
alike_both [] us vs e = refl
alike_both (w ∷ ws) us vs e =
    let both = alike_one (bit_and w (first_word us)) (bit_and w (first_word vs)) (are_alike ws (after_word us) (after_word vs)) e in
    ap (λ x. x ∷ both_words ws (after_word us)) both.0 ∙ ap (λ xs. bit_and w (first_word vs) ∷ xs) (alike_both ws (after_word us) (after_word vs) both.1)

-- ---- where alternatives end
count_is : (xs : List Step) → count_steps (see.steps xs) ≡ length xs
count_is [] = refl
count_is (x ∷ xs) = ap suc (count_is xs)

pub ends_goes : (all old new : List ℕ) (start end : ℕ) (ws : List (Bor (List Step))) (i : ℕ) (d : Bor (List Step)) → i < length ws → end ≡ start + length (get_or ws i d).now → new ≡ old ++ end ∷ []
    → all ≡ old ++ ends_of start (see.alternatives (drop i ws)) → all ≡ new ++ ends_of end (see.alternatives (drop (i + 1) ws))
ends_goes all old new start end ws i d l is put so_far =
    let w = get_or ws i d in
    let next : start + count_steps (see.steps w.now) ≡ end = ap (λ n. start + n) (count_is w.now) ∙ sym is in
    one_more all old new _ _ end put
    (ap (ends_of start) (left_alternative ws i w l (get_or_default ws i d w l)) ∙ ap (λ e. e ∷ ends_of e (see.alternatives (drop (i + 1) ws))) next) so_far

pub over_ends : (start : ℕ) (ws : List (Bor (List Step))) (i : ℕ) → length ws ≤ i → ends_of start (see.alternatives (drop i ws)) ≡ []
over_ends start ws i h = ap (λ w. ends_of start (see.alternatives w)) (drop_all i ws h)

-- ---- what is written
module _ (numbered : List (Bor Test)) (sought : Sought) where
  pub having_goes : (all old new : Items) (has goes_on : Bool) (xs : List Step) (k : ℕ) (d : Step) → k < length xs → goes_on ≡ has_step (see.steps (drop (k + 1) xs))
      → has ≡ v.step_has numbered (get_or xs k d).deep goes_on (see.node_test (get_or xs k d).test) (see.test (get_or xs k d).when) sought → new ≡ old ++ has ∷ []
      → all ≡ old ++ v.steps_having numbered (see.steps (drop k xs)) sought → all ≡ new ++ v.steps_having numbered (see.steps (drop (k + 1) xs)) sought
  having_goes all old new has goes_on xs k d l on is put so_far =
      let x = get_or xs k d in
      one_more all old new _ _ has put
      (ap (λ w. v.steps_having numbered w sought) (left_step xs k x l (get_or_default xs k d x l))
      ∙ (ap (λ b. v.step_has numbered x.deep b (see.node_test x.test) (see.test x.when) sought ∷ v.steps_having numbered (see.steps (drop (k + 1) xs)) sought) (sym on)
      ∙ ap (λ b. b ∷ v.steps_having numbered (see.steps (drop (k + 1) xs)) sought) (sym is))) so_far

  pub over_having : (xs : List Step) (k : ℕ) → length xs ≤ k → v.steps_having numbered (see.steps (drop k xs)) sought ≡ []
  over_having xs k h = ap (λ ys. v.steps_having numbered (see.steps ys) sought) (drop_all k xs h)

  pub path_goes : (all old new : Items) (ws : List (Bor (List Step))) (i : ℕ) (d : Bor (List Step)) → i < length ws → new ≡ old ++ v.steps_having numbered (see.steps (get_or ws i d).now) sought
      → all ≡ old ++ flat (v.path_having numbered (see.alternatives (drop i ws)) sought) → all ≡ new ++ flat (v.path_having numbered (see.alternatives (drop (i + 1) ws)) sought)
  path_goes all old new ws i d l put so_far =
      let w = get_or ws i d in
      let here = v.steps_having numbered (see.steps w.now) sought in
      let rest = flat (v.path_having numbered (see.alternatives (drop (i + 1) ws)) sought) in
      so_far
      ∙ (ap (λ x. old ++ flat (v.path_having numbered x sought)) (left_alternative ws i w l (get_or_default ws i d w l))
      ∙ (sym (append_assoc old here rest) ∙ ap (λ x. x ++ rest) (sym put)))

  pub over_path : (ws : List (Bor (List Step))) (i : ℕ) → length ws ≤ i → flat (v.path_having numbered (see.alternatives (drop i ws)) sought) ≡ []
  over_path ws i h = ap (λ w. flat (v.path_having numbered (see.alternatives w) sought)) (drop_all i ws h)

  having_long : (ss : Steps) → length (v.steps_having numbered ss sought) ≡ count_steps ss
  having_long no_step = refl
  having_long (step d t w ss) = ap suc (having_long ss)

  pub path_long : (q : Path) → IsLong q (v.path_having numbered q sought)
  path_long no_alternative = tt
  path_long (alternative ss q) = (having_long ss, path_long q)

-- the first items
pub first_goes : (first : Bool) (all old new : Items) (xs : List Step) (k : ℕ) → k < length xs → new ≡ old ++ first ∷ [] → all ≡ old ++ items_left first (see.steps (drop k xs)) → all ≡ new ++ items_left false (see.steps (drop (k + 1) xs))
first_goes true all old new xs k l put so_far = let x = element xs k l in one_more all old new _ _ true put (ap p.first_items (left_step xs k x.0 l x.1)) so_far
first_goes false all old new xs k l put so_far = let x = element xs k l in one_more all old new _ _ false put (ap p.no_items (left_step xs k x.0 l x.1)) so_far

pub over_first : (first : Bool) (xs : List Step) (k : ℕ) → length xs ≤ k → items_left first (see.steps (drop k xs)) ≡ []
over_first true xs k h = ap (λ ys. p.first_items (see.steps ys)) (drop_all k xs h)
over_first false xs k h = ap (λ ys. p.no_items (see.steps ys)) (drop_all k xs h)

pub first_path_goes : (all old new : Items) (ws : List (Bor (List Step))) (i : ℕ) (d : Bor (List Step)) → i < length ws → new ≡ old ++ p.first_items (see.steps (get_or ws i d).now)
    → all ≡ old ++ flat (p.first_state (see.alternatives (drop i ws))) → all ≡ new ++ flat (p.first_state (see.alternatives (drop (i + 1) ws)))
first_path_goes all old new ws i d l put so_far =
    let w = get_or ws i d in
    let rest = flat (p.first_state (see.alternatives (drop (i + 1) ws))) in
    so_far
    ∙ (ap (λ x. old ++ flat (p.first_state x)) (left_alternative ws i w l (get_or_default ws i d w l)) ∙ (sym (append_assoc old (p.first_items (see.steps w.now)) rest) ∙ ap (λ x. x ++ rest) (sym put)))

pub over_first_path : (ws : List (Bor (List Step))) (i : ℕ) → length ws ≤ i → flat (p.first_state (see.alternatives (drop i ws))) ≡ []
over_first_path ws i h = ap (λ w. flat (p.first_state (see.alternatives w))) (drop_all i ws h)

none_long : (ss : Steps) → length (p.no_items ss) ≡ count_steps ss
none_long no_step = refl
none_long (step d t w ss) = ap suc (none_long ss)

first_long : (ss : Steps) → length (p.first_items ss) ≡ count_steps ss
first_long no_step = refl
first_long (step d t w ss) = ap suc (none_long ss)

pub first_path_long : (q : Path) → IsLong q (p.first_state q)
first_path_long no_alternative = tt
first_path_long (alternative ss q) = (first_long ss, first_path_long q)

-- ---- words as the code reads them
pub word_is : (xs : List ℕ) (k i : ℕ) → k < length xs → i ≡ get_or xs k i → i ≡ get_or xs k 0
word_is xs k i l e = e ∙ get_or_default_zero xs k i l

pub met_is : (xs ys zs : List ℕ) (k i w : ℕ) → k < length xs → i ≡ get_or xs k i → w ≡ get_or zs k 0 → zs ≡ ys → bit_and i w ≡ bit_and (get_or xs k 0) (get_or ys k 0)
met_is xs ys zs k i w l e f same = ap (λ u. bit_and u w) (word_is xs k i l e) ∙ ap (bit_and (get_or xs k 0)) (f ∙ ap (λ v. get_or v k 0) same)

pub moved_is : (xs ys us vs : List ℕ) (k a b : ℕ) → a ≡ get_or us k 0 → us ≡ xs → b ≡ get_or vs k 0 → vs ≡ ys → bit_and a b ≡ get_or (both_words xs ys) k 0
moved_is xs ys us vs k a b e f g h = ap (λ u. bit_and u b) (e ∙ ap (λ v. get_or v k 0) f) ∙ (ap (bit_and (get_or xs k 0)) (g ∙ ap (λ v. get_or v k 0) h) ∙ sym (get_both xs ys k))

apart : (a b : ℕ) → a ≢ b → nat_eq a b ≡ false
apart a b h = by (nat_eq a b) refl
  where
    by : (c : Bool) → nat_eq a b ≡ c → nat_eq a b ≡ false
    by true e = absurd (h (eqb-true a b e))
    by false e = e

pub zero_later : (w : ℕ) (rest all : Bool) → w ≡ 0 → all ≡ (nat_eq w 0 && rest) → all ≡ rest
zero_later w rest all e k = k ∙ ap (λ b. b && rest) (eq-eqb w 0 e)

pub zero_never : (w : ℕ) (rest all : Bool) → w ≢ 0 → all ≡ (nat_eq w 0 && rest) → false ≡ all
zero_never w rest all e k = sym (k ∙ ap (λ b. b && rest) (apart w 0 e))

pub alike_later : (a b : ℕ) (rest all : Bool) → a ≡ b → all ≡ (nat_eq a b && rest) → all ≡ rest
alike_later a b rest all e k = k ∙ ap (λ c. c && rest) (eq-eqb a b e)

pub alike_never : (a b : ℕ) (rest all : Bool) → a ≢ b → all ≡ (nat_eq a b && rest) → false ≡ all
alike_never a b rest all e k = sym (k ∙ ap (λ c. c && rest) (apart a b e))

pub goes_on_told : (xs : List Step) (k : ℕ) → nat_lt (k + 1) (length xs) ≡ has_step (see.steps (drop (k + 1) xs))
goes_on_told xs k = elim (cases_lt (k + 1) (length xs)) [ inl l ↦ lt-ltb (k + 1) (length xs) l ∙ sym (step_left xs (k + 1) l) | inr g ↦ le-ltb (k + 1) (length xs) g ∙ sym (no_step_left xs (k + 1) g) ]

pub words_got : (rows : List Row) (i : ℕ) (r : Row) → i < length rows → r ≡ get_or rows i r → get_or (all_words rows) i [] ≡ words r
words_got rows i r l e = get_or_from_slice_get (all_words rows) i (words r) [] (mapped_at words rows i r (slice_get-get_or rows i r l ∙ ap Some (sym e)))
