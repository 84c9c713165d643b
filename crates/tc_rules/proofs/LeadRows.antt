-- Where rows lead is where their states lead.
use Rattle.std.proofs.Common.{◌≡◌, inl, inr, ℕ, zero, suc, ◌/◌, ◌%◌, ◌<◌, ◌≤◌, List, [], ◌∷◌, ◌++◌, Bool, true, false, ◌&&◌, ◌||◌, refl, ap, sym, ◌∙◌, map, flat_map, get_or, nat_eq, arith}
use Rattle.std.specs.Int.{bit_at}
use Rattle.std.proofs.lemmas.Bool.{cases_lt, eq-eqb, eqb-true}
use Rattle.std.proofs.lemmas.List.{map-append}
use Rattle.std.proofs.lemmas.Nat.Bits.{bit_at-lt, bit_at-zero}
use Rattle.tc_sets.proofs.Bits.{numbers, word_of_none}
use Rattle.tc_alpha.proofs.Members.{Every, every_append}
use Rattle.tc_model.specs.Sheets.{Path}
use Rattle.tc_model.specs.PathStates.{State, is_empty_state, same_state}
use Rattle.tc_rules.specs.Reached.{leads_by, lead_of, leads_by_set}
use Rattle.tc_rules.specs.Rows.{fits_by}
use Rattle.tc_rules.specs.Steps.{next_state, both_states}
use Rattle.tc_rules.specs.Words.{bit, cut, ends_of, total, both_words, further_words, are_zero, same_words, deep_steps, inner_steps, on_path, IsPadded, IsRow}
use Rattle.tc_rules.proofs.RowBits.{digit, bit_both, both_padded, bit_first, bit_further, further_padded}
use Rattle.tc_rules.proofs.RowStates.{cut_by, cut_is, path_next, total_came, rows_same, none_from_empty, state_empty, none_far}

zero_digit : (d : ℕ) → d < 2 → nat_eq d 1 ≡ false → d ≡ 0
zero_digit zero h e = refl
zero_digit (suc zero) h e = absurd (cc)
zero_digit (suc (suc d)) h e = absurd (omega (arith, h))

or_nothing : (b : Bool) → b ≡ (b || false)
or_nothing true = refl
or_nothing false = refl

and_nothing : (b : Bool) → (b && false) ≡ false
and_nothing true = refl
and_nothing false = refl

all_true : (b : Bool) → (((true && b) && true) && true) ≡ false → b ≡ false
all_true true e = absurd (cc)
all_true false e = refl

-- ---- no bit is set
zero_words : (ws : List ℕ) → are_zero ws ≡ true → (w : ℕ) → get_or ws w 0 ≡ 0
zero_words [] e zero = refl
zero_words [] e (suc w) = refl
zero_words (v ∷ ws) e zero = eqb-true v 0 (both v (are_zero ws) e).0
  where
    both : (v : ℕ) (b : Bool) → (nat_eq v 0 && b) ≡ true → (nat_eq v 0 ≡ true) × (b ≡ true)
    both v b e = by (nat_eq v 0) b e
      where
        by : (a b : Bool) → (a && b) ≡ true → (a ≡ true) × (b ≡ true)
        by true b e = (refl, e)
        by false b e = absurd (cc)
zero_words (v ∷ ws) e (suc w) = zero_words ws (rest (nat_eq v 0) (are_zero ws) e) w
  where
    rest : (a b : Bool) → (a && b) ≡ true → b ≡ true
    rest true b e = e
    rest false b e = absurd (cc)

words_zero : (ws : List ℕ) → ((w : ℕ) → get_or ws w 0 ≡ 0) → are_zero ws ≡ true
words_zero [] h = refl
words_zero (v ∷ ws) h = ap (λ b. b && are_zero ws) (eq-eqb v 0 (h 0)) ∙ words_zero ws (λ w. h (suc w))

same_truths : (a b : Bool) → (a ≡ true → b ≡ true) → (b ≡ true → a ≡ true) → a ≡ b
same_truths true b f g = sym (f refl)
same_truths false true f g = g refl
same_truths false false f g = refl

abbrev pub state_of : Path → List ℕ → State
state_of p ws = cut (bit ws) 0 (ends_of 0 p)

abbrev pub IsGood : Path → List ℕ → Type 0
IsGood p ws = IsPadded (total 0 p) ws

pub zero_is : (p : Path) (ws : List ℕ) → IsGood p ws → are_zero ws ≡ is_empty_state (state_of p ws)
zero_is p ws h = same_truths (are_zero ws) (is_empty_state (state_of p ws)) to of
  where
    to : are_zero ws ≡ true → is_empty_state (state_of p ws) ≡ true
    to e = ap is_empty_state (cut_is (bit ws) 0 p) ∙ state_empty (bit ws) (λ i. ap (λ w. nat_eq (bit_at w (i % 64)) 1) (zero_words ws e (i / 64)) ∙ ap (λ d. nat_eq d 1) (bit_at-zero (i % 64))) 0 p

    none : is_empty_state (state_of p ws) ≡ true → (i : ℕ) → bit ws i ≡ false
    none e i = elim (cases_lt i (total 0 p)) [ inl l ↦ none_from_empty (bit ws) p (ap is_empty_state (sym (cut_is (bit ws) 0 p)) ∙ e) i l | inr g ↦ none_far (total 0 p) ws h i g ]

    of : is_empty_state (state_of p ws) ≡ true → are_zero ws ≡ true
    of e = words_zero ws (word_of_none (numbers (total 0 p) ws) h (λ j has. absurd (let f = sym (none e j) ∙ eq-eqb _ 1 has in cc)))

-- ---- rows are the same where their states are
pub words_same : (ws us : List ℕ) → same_words ws us ≡ true → ws ≡ us
words_same [] [] e = refl
words_same [] (u ∷ us) e = absurd (cc)
words_same (w ∷ ws) [] e = absurd (cc)
words_same (w ∷ ws) (u ∷ us) e = by (nat_eq w u) refl e (words_same ws us)
  where
    by : (b : Bool) → nat_eq w u ≡ b → (b && same_words ws us) ≡ true → (same_words ws us ≡ true → ws ≡ us) → (w ∷ ws) ≡ (u ∷ us)
    by true f h k = ap (λ v. v ∷ ws) (eqb-true w u f) ∙ ap (λ vs. u ∷ vs) (k h)
    by false f h k = absurd (cc)

pub words_self : (ws : List ℕ) → same_words ws ws ≡ true
words_self [] = refl
words_self (w ∷ ws) = ap (λ b. b && same_words ws ws) (eq-eqb w w refl) ∙ words_self ws

pub same_is : (state_same : (x y : State) → same_state x y ≡ true → x ≡ y) (state_self : (x : State) → same_state x x ≡ true) (p : Path) (ws us : List ℕ) → IsGood p ws → IsGood p us
    → same_words ws us ≡ same_state (state_of p ws) (state_of p us)
same_is state_same state_self p ws us h k =
    same_truths (same_words ws us) (same_state (state_of p ws) (state_of p us))
    (λ e. ap (λ w. same_state (state_of p ws) (state_of p w)) (sym (words_same ws us e)) ∙ state_self (state_of p ws))
    (λ e. ap (λ w. same_words ws w) (sym (rows_same p ws us h k (state_same (state_of p ws) (state_of p us) e))) ∙ words_self ws)

-- ---- where a row leads
module _ (p : Path) (deep inner : List ℕ) (of_deep : IsRow p (on_path deep_steps p) deep) (of_inner : IsRow p (on_path inner_steps p) inner) where
  abbrev yes : ℕ → Bool
  yes i = true

  abbrev came : ℕ → Bool
  came zero = false
  came (suc i) = ((true && bit inner i) && true) && true

  abbrev moved : ℕ → Bool
  moved i = (true && true) || came i

  inner_last : (j : ℕ) → total 0 p ≤ suc j → bit inner j ≡ false
  inner_last j h =
      elim (cases_lt j (total 0 p)) [
        | inl l ↦ let at : total 0 p ≡ suc j = omega (arith, h, l) in all_true (bit inner j) (sym (ap came at) ∙ total_came yes yes (bit inner) yes yes moved came (λ i. refl) (λ i. refl) p 0 refl (sym (cut_is (bit inner) 0 p) ∙ of_inner.state))
        | inr g ↦ none_far (total 0 p) inner of_inner.padded j g
      ]

  module _ (x : List ℕ) (good : IsGood p x) (k m : List ℕ) where
    abbrev ks : List ℕ
    ks = both_words x deep

    abbrev ms : List ℕ
    ms = both_words (both_words (both_words x inner) k) m

    kept : IsPadded (total 0 p) ks
    kept = both_padded (total 0 p) x deep good

    moving : IsPadded (total 0 p) ms
    moving = both_padded (total 0 p) (both_words (both_words x inner) k) m (both_padded (total 0 p) (both_words x inner) k (both_padded (total 0 p) x inner good))

    bit_moving : (j : ℕ) → bit ms j ≡ (((bit x j && bit inner j) && bit k j) && bit m j)
    bit_moving j =
        bit_both (both_words (both_words x inner) k) m j
        ∙ ap (λ b. b && bit m j) (bit_both (both_words x inner) k j ∙ ap (λ b. b && bit k j) (bit_both x inner j))

    none_moves : (j : ℕ) → total 0 p ≤ suc j → digit ms j ≡ 0
    none_moves j h =
        zero_digit (digit ms j) (bit_at-lt _ (j % 64))
        (bit_moving j ∙ (ap (λ b. ((bit x j && b) && bit k j) && bit m j) (inner_last j h) ∙ ap (λ b. (b && bit k j) && bit m j) (and_nothing (bit x j))))

    pub lead_good : IsGood p (lead_of ks (both_words (both_words x inner) k) m)
    lead_good = further_padded (total 0 p) ks ms kept moving none_moves

    abbrev came_to : ℕ → Bool
    came_to zero = false
    came_to (suc j) = ((bit x j && bit inner j) && bit k j) && bit m j

    leads_to : (i : ℕ) → bit (further_words 0 ks ms) i ≡ ((bit x i && bit deep i) || came_to i)
    leads_to zero = bit_first (total 0 p) ks ms kept moving none_moves ∙ (bit_both x deep 0 ∙ or_nothing (bit x 0 && bit deep 0))
    leads_to (suc j) =
        bit_further (total 0 p) ks ms kept moving none_moves j
        ∙ (ap (λ b. b || bit ms j) (bit_both x deep (suc j)) ∙ ap (λ b. (bit x (suc j) && bit deep (suc j)) || b) (bit_moving j))

    pub lead_state : state_of p (lead_of ks (both_words (both_words x inner) k) m) ≡ next_state p (both_states (state_of p k) (state_of p m)) (state_of p x)
    lead_state =
        cut_is (bit (further_words 0 ks ms)) 0 p
        ∙ (path_next (bit x) (bit deep) (bit inner) (bit k) (bit m) (bit (further_words 0 ks ms)) came_to (λ j. refl) leads_to p 0 refl (sym (cut_is (bit deep) 0 p) ∙ of_deep.state) (sym (cut_is (bit inner) 0 p) ∙ of_inner.state)
        ∙ (ap (λ s. next_state p (both_states s (cut_by (bit m) 0 p)) (cut_by (bit x) 0 p)) (sym (cut_is (bit k) 0 p))
        ∙ (ap (λ s. next_state p (both_states (state_of p k) s) (cut_by (bit x) 0 p)) (sym (cut_is (bit m) 0 p))
        ∙ ap (next_state p (both_states (state_of p k) (state_of p m))) (sym (cut_is (bit x) 0 p)))))

  module _ (x : List ℕ) (good : IsGood p x) where
    sets_led : (k : List ℕ) (marked : List (List ℕ)) → map (state_of p) (leads_by_set (both_words x deep) (both_words (both_words x inner) k) marked) ≡ map (λ f. next_state p f (state_of p x)) (map (both_states (state_of p k)) (map (state_of p) marked))
    sets_led k [] = refl
    sets_led k (m ∷ marked) =
        ap (λ s. s ∷ map (state_of p) (leads_by_set (both_words x deep) (both_words (both_words x inner) k) marked)) (lead_state x good k m)
        ∙ ap (λ w. next_state p (both_states (state_of p k) (state_of p m)) (state_of p x) ∷ w) (sets_led k marked)

    sets_good : (k : List ℕ) (marked : List (List ℕ)) → Every (IsGood p) (leads_by_set (both_words x deep) (both_words (both_words x inner) k) marked)
    sets_good k [] = tt
    sets_good k (m ∷ marked) = (lead_good x good k m, sets_good k marked)

    pub leads_led : (kinds marked : List (List ℕ)) → map (state_of p) (flat_map (λ k. leads_by_set (both_words x deep) (both_words (both_words x inner) k) marked) kinds) ≡ leads_by p (fits_by (map (state_of p) kinds) (map (state_of p) marked)) (state_of p x)
    leads_led [] marked = refl
    leads_led (k ∷ kinds) marked =
        let rest = flat_map (λ k. leads_by_set (both_words x deep) (both_words (both_words x inner) k) marked) kinds in
        map-append (state_of p) (leads_by_set (both_words x deep) (both_words (both_words x inner) k) marked) rest
        ∙ (ap (λ w. w ++ map (state_of p) rest) (sets_led k marked) ∙ ap (λ w. map (λ f. next_state p f (state_of p x)) (map (both_states (state_of p k)) (map (state_of p) marked)) ++ w) (leads_led kinds marked))

    pub leads_good : (kinds marked : List (List ℕ)) → Every (IsGood p) (flat_map (λ k. leads_by_set (both_words x deep) (both_words (both_words x inner) k) marked) kinds)
    leads_good [] marked = tt
    leads_good (k ∷ kinds) marked =
        every_append (IsGood p) (leads_by_set (both_words x deep) (both_words (both_words x inner) k) marked) (flat_map (λ k. leads_by_set (both_words x deep) (both_words (both_words x inner) k) marked) kinds) (sets_good k marked) (leads_good kinds marked)
