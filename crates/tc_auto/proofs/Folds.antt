-- The automata of lists of patterns, one member on.
use Rattle.std.proofs.Common.{◌≡◌, ◌<◌, ◌≤◌, ◌⊎◌, inl, inr, ℕ, zero, suc, ◌+◌, ◌-◌, ◌*◌, List, [], ◌∷◌, ◌++◌, length, get_or, take, drop, min, mul_comm, refl, sym, ap, ◌∙◌, subst, arith}
use Rattle.std.proofs.lemmas.List.{take_more, take_all, take-append-drop}
use Rattle.std.proofs.lemmas.Nat.{mul-lt}
use Rattle.std.proofs.Math.Nat.{min-eq_left, min-eq_right}
use Rattle.tc_model.specs.Grammars as g
use Rattle.tc_model.specs.Grammars.{Pattern, Patterns, no_more, more}
use Rattle.tc_model.specs.Views.{pattern, patterns}
use Rattle.tc_model.specs.States.{Automaton, automaton, grouped, chosen, interleaved, group_of, choice_of, interleave_of, empty_automaton, nothing_automaton}
use Rattle.tc_model.specs.declared.grammar.Pat.{Pat}
use Rattle.tc_model.proofs.StatesExact.{sound}
use Rattle.tc_model.proofs.ViewsGrammar.{patterns_then, patterns_append, pushed_pattern}

some : (q : Pattern) → 0 < (automaton q).count
some q = let s = sound q in s.some

-- what was folded, and then the rest
grouped_then : (ps qs : Patterns) (a : Automaton) → grouped (patterns_then ps qs) a ≡ grouped qs (grouped ps a)
grouped_then no_more qs a = refl
grouped_then (more p ps) qs a = grouped_then ps qs (group_of a (automaton p))

chosen_then : (ps qs : Patterns) (a : Automaton) → chosen (patterns_then ps qs) a ≡ chosen qs (chosen ps a)
chosen_then no_more qs a = refl
chosen_then (more p ps) qs a = chosen_then ps qs (choice_of a (automaton p))

interleaved_then : (ps qs : Patterns) (a : Automaton) → interleaved (patterns_then ps qs) a ≡ interleaved qs (interleaved ps a)
interleaved_then no_more qs a = refl
interleaved_then (more p ps) qs a = interleaved_then ps qs (interleave_of a (automaton p))

taken : (ps : List Pat) (i : ℕ) (x : Pat) → i < length ps → x ≡ get_or ps i x → patterns (take (i + 1) ps) ≡ patterns_then (patterns (take i ps)) (more (pattern x) no_more)
taken ps i x h e = ap patterns (take_more ps i x h ∙ ap (λ y. take i ps ++ (y ∷ [])) (sym e)) ∙ pushed_pattern (take i ps) x

pub group_more : (ps : List Pat) (i : ℕ) (x : Pat) → i < length ps → x ≡ get_or ps i x → automaton (g.group (patterns (take (i + 1) ps))) ≡ group_of (automaton (g.group (patterns (take i ps)))) (automaton (pattern x))
group_more ps i x h e = ap (λ w. grouped w empty_automaton) (taken ps i x h e) ∙ grouped_then (patterns (take i ps)) (more (pattern x) no_more) empty_automaton

pub choice_more : (ps : List Pat) (i : ℕ) (x : Pat) → i < length ps → x ≡ get_or ps i x → automaton (g.choice (patterns (take (i + 1) ps))) ≡ choice_of (automaton (g.choice (patterns (take i ps)))) (automaton (pattern x))
choice_more ps i x h e = ap (λ w. chosen w nothing_automaton) (taken ps i x h e) ∙ chosen_then (patterns (take i ps)) (more (pattern x) no_more) nothing_automaton

pub interleave_more : (ps : List Pat) (i : ℕ) (x : Pat) → i < length ps → x ≡ get_or ps i x → automaton (g.interleave (patterns (take (i + 1) ps))) ≡ interleave_of (automaton (g.interleave (patterns (take i ps)))) (automaton (pattern x))
interleave_more ps i x h e = ap (λ w. interleaved w empty_automaton) (taken ps i x h e) ∙ interleaved_then (patterns (take i ps)) (more (pattern x) no_more) empty_automaton

pub all_taken : (ps : List Pat) (i : ℕ) → length ps ≤ i → patterns (take i ps) ≡ patterns ps
all_taken ps i h = ap patterns (take_all i ps h)

-- more members have no fewer states
grouped_grows : (qs : Patterns) (a : Automaton) → 0 < a.count → a.count ≤ (grouped qs a).count
grouped_grows no_more a s = omega arith
grouped_grows (more q qs) a s = omega (arith, some q, grouped_grows qs (group_of a (automaton q)) (omega (arith, some q)))

chosen_grows : (qs : Patterns) (a : Automaton) → 0 < a.count → a.count ≤ (chosen qs a).count
chosen_grows no_more a s = omega arith
chosen_grows (more q qs) a s = omega (arith, some q, chosen_grows qs (choice_of a (automaton q)) (omega (arith, some q)))

times : (m n : ℕ) → 0 < n → m ≤ m * n
times m zero h = absurd (omega arith)
times zero (suc n) h = omega arith
times (suc m) (suc n) h = omega (arith, mul-lt 0 0 (suc m) (suc n) (omega arith) (omega arith), times m (suc n) h, mul_comm (suc m) (suc n))

interleaved_grows : (qs : Patterns) (a : Automaton) → 0 < a.count → a.count ≤ (interleaved qs a).count
interleaved_grows no_more a s = omega arith
interleaved_grows (more q qs) a s =
    let first = times a.count (automaton q).count (some q) in
    let rest = interleaved_grows qs (interleave_of a (automaton q)) (mul-lt 0 0 a.count (automaton q).count s (some q)) in
    omega (arith, first, rest)

parted : (ps : List Pat) (i : ℕ) → patterns ps ≡ patterns_then (patterns (take i ps)) (patterns (drop i ps))
parted ps i = ap patterns (sym (take-append-drop i ps)) ∙ patterns_append (take i ps) (drop i ps)

group_front : (ps : List Pat) (i : ℕ) → (automaton (g.group (patterns (take i ps)))).count ≤ (automaton (g.group (patterns ps))).count
group_front ps i =
    let whole = ap (λ (w : Patterns). (grouped w empty_automaton).count) (parted ps i) in
    let then = ap (λ (w : Automaton). w.count) (grouped_then (patterns (take i ps)) (patterns (drop i ps)) empty_automaton) in
    let grows = grouped_grows (patterns (drop i ps)) (grouped (patterns (take i ps)) empty_automaton) (some (g.group (patterns (take i ps)))) in
    omega (arith, whole, then, grows)

choice_front : (ps : List Pat) (i : ℕ) → (automaton (g.choice (patterns (take i ps)))).count ≤ (automaton (g.choice (patterns ps))).count
choice_front ps i =
    let whole = ap (λ (w : Patterns). (chosen w nothing_automaton).count) (parted ps i) in
    let then = ap (λ (w : Automaton). w.count) (chosen_then (patterns (take i ps)) (patterns (drop i ps)) nothing_automaton) in
    let grows = chosen_grows (patterns (drop i ps)) (chosen (patterns (take i ps)) nothing_automaton) (some (g.choice (patterns (take i ps)))) in
    omega (arith, whole, then, grows)

interleave_front : (ps : List Pat) (i : ℕ) → (automaton (g.interleave (patterns (take i ps)))).count ≤ (automaton (g.interleave (patterns ps))).count
interleave_front ps i =
    let whole = ap (λ (w : Patterns). (interleaved w empty_automaton).count) (parted ps i) in
    let then = ap (λ (w : Automaton). w.count) (interleaved_then (patterns (take i ps)) (patterns (drop i ps)) empty_automaton) in
    let grows = interleaved_grows (patterns (drop i ps)) (interleaved (patterns (take i ps)) empty_automaton) (some (g.interleave (patterns (take i ps)))) in
    omega (arith, whole, then, grows)

-- a member and what stands before it have no more states than the whole
pub group_room : (ps : List Pat) (i : ℕ) (x : Pat) → i < length ps → x ≡ get_or ps i x → (automaton (g.group (patterns (take i ps)))).count + (automaton (pattern x)).count ≤ (automaton (g.group (patterns ps))).count + 1
group_room ps i x h e =
    let is = ap (λ (w : Automaton). w.count) (group_more ps i x h e) in
    omega (arith, is, group_front ps (i + 1), some (pattern x), some (g.group (patterns (take i ps))))

pub choice_room : (ps : List Pat) (i : ℕ) (x : Pat) → i < length ps → x ≡ get_or ps i x → (automaton (g.choice (patterns (take i ps)))).count + (automaton (pattern x)).count ≤ (automaton (g.choice (patterns ps))).count + 1
choice_room ps i x h e =
    let is = ap (λ (w : Automaton). w.count) (choice_more ps i x h e) in
    omega (arith, is, choice_front ps (i + 1), some (pattern x), some (g.choice (patterns (take i ps))))

pub interleave_room : (ps : List Pat) (i : ℕ) (x : Pat) → i < length ps → x ≡ get_or ps i x → (automaton (g.interleave (patterns (take i ps)))).count * (automaton (pattern x)).count ≤ (automaton (g.interleave (patterns ps))).count
interleave_room ps i x h e =
    let is = ap (λ (w : Automaton). w.count) (interleave_more ps i x h e) in
    omega (arith, is, interleave_front ps (i + 1))

pub some_before : (ps : List Pat) (i : ℕ) → 0 < (automaton (g.group (patterns (take i ps)))).count
some_before ps i = some (g.group (patterns (take i ps)))

pub some_before_choice : (ps : List Pat) (i : ℕ) → 0 < (automaton (g.choice (patterns (take i ps)))).count
some_before_choice ps i = some (g.choice (patterns (take i ps)))

pub member_below : (ps : List Pat) (i : ℕ) (x : Pat) → i < length ps → x ≡ get_or ps i x → (automaton (pattern x)).count ≤ (automaton (g.interleave (patterns ps))).count
member_below ps i x h e =
    let one = times (automaton (pattern x)).count (automaton (g.interleave (patterns (take i ps)))).count (some (g.interleave (patterns (take i ps)))) in
    omega (arith, one, interleave_room ps i x h e, mul_comm (automaton (pattern x)).count (automaton (g.interleave (patterns (take i ps)))).count)

-- a group and a choice of the same members have as many states
same_counts : (ps : Patterns) (a b : Automaton) → a.count ≡ b.count → (grouped ps a).count ≡ (chosen ps b).count
same_counts no_more a b e = e
same_counts (more p ps) a b e = same_counts ps (group_of a (automaton p)) (choice_of b (automaton p)) (omega arith)

pub same_sums : (ps : List Pat) → (automaton (g.group (patterns ps))).count ≡ (automaton (g.choice (patterns ps))).count
same_sums ps = same_counts (patterns ps) empty_automaton nothing_automaton refl

-- sums and products that saturate
in_order : (a b : ℕ) → (a ≤ b) ⊎ (b ≤ a)
in_order zero b = inl (omega arith)
in_order (suc a) zero = inr (omega arith)
in_order (suc a) (suc b) = elim (in_order a b) [ inl h ↦ inl (omega arith) | inr h ↦ inr (omega arith) ]

pub min_cases : (n m : ℕ) → ((min n m ≡ n) × (n ≤ m)) ⊎ ((min n m ≡ m) × (m ≤ n))
min_cases n m = elim (in_order n m) [ inl h ↦ inl (min-eq_left h, h) | inr h ↦ inr (min-eq_right h, h) ]

pub capped_sum : (m n c : ℕ) → 0 < m → 0 < n → 0 < c → min (min n m + (min c m - 1)) m ≡ min (n + c - 1) m
capped_sum m n c a b d = elim (min_cases n m) [
  | inl x ↦ elim (min_cases c m) [
    | inl y ↦ ap (λ w. min w m) (omega (arith, x.0, y.0))
    | inr y ↦ min-eq_right (omega (arith, x.0, y.0)) ∙ sym (min-eq_right (omega arith))
  ]
  | inr x ↦ min-eq_right (omega (arith, x.0)) ∙ sym (min-eq_right (omega arith))
]

pub capped_product : (m n c : ℕ) → 0 < m → 0 < n → 0 < c → min (min n m * min c m) m ≡ min (n * c) m
capped_product m n c a b d = elim (min_cases n m) [
  | inl x ↦ elim (min_cases c m) [
    | inl y ↦ ap (λ w. min w m) (ap (λ w. w * min c m) x.0 ∙ ap (λ w. n * w) y.0)
    | inr y ↦ min-eq_right (subst (λ w. m ≤ w) (sym (ap (λ w. w * min c m) x.0 ∙ ap (λ w. n * w) y.0)) (omega (arith, times m n b, mul_comm m n))) ∙ sym (min-eq_right (omega (arith, times c n b, mul_comm c n, y.1)))
  ]
  | inr x ↦ min-eq_right (subst (λ w. m ≤ w) (sym (ap (λ w. w * min c m) x.0)) (times m (min c m) (some_min c m d a))) ∙ sym (min-eq_right (omega (arith, times n c d, x.1)))
]
  where
    some_min : (c m : ℕ) → 0 < c → 0 < m → 0 < min c m
    some_min c m d a = elim (min_cases c m) [ inl y ↦ omega (arith, y.0) | inr y ↦ omega (arith, y.0) ]

pub product_more : (ps : List Pat) (i : ℕ) (x : Pat) → i < length ps → x ≡ get_or ps i x → (count n result : ℕ)
    → count ≡ min (automaton (g.interleave (patterns (take i ps)))).count 18446744073709551615
    → n ≡ min (automaton (pattern x)).count 18446744073709551615
    → result ≡ min (count * n) 18446744073709551615
    → result ≡ min (automaton (g.interleave (patterns (take (i + 1) ps)))).count 18446744073709551615
product_more ps i x h e count n result a b d =
    d
    ∙ (ap (λ w. min (w * n) 18446744073709551615) a
    ∙ (ap (λ w. min (min (automaton (g.interleave (patterns (take i ps)))).count 18446744073709551615 * w) 18446744073709551615) b
    ∙ (capped_product 18446744073709551615 (automaton (g.interleave (patterns (take i ps)))).count (automaton (pattern x)).count (omega arith) (some (g.interleave (patterns (take i ps)))) (some (pattern x))
    ∙ ap (λ (w : Automaton). min w.count 18446744073709551615) (sym (interleave_more ps i x h e)))))

pub sum_more : (ps : List Pat) (i : ℕ) (x : Pat) → i < length ps → x ≡ get_or ps i x → (count n result : ℕ)
    → count ≡ min (automaton (g.group (patterns (take i ps)))).count 18446744073709551615
    → n ≡ min (automaton (pattern x)).count 18446744073709551615
    → result ≡ min (count + (n - 1)) 18446744073709551615
    → result ≡ min (automaton (g.group (patterns (take (i + 1) ps)))).count 18446744073709551615
sum_more ps i x h e count n result a b d =
    d
    ∙ (ap (λ w. min (w + (n - 1)) 18446744073709551615) a
    ∙ (ap (λ w. min (min (automaton (g.group (patterns (take i ps)))).count 18446744073709551615 + (w - 1)) 18446744073709551615) b
    ∙ (capped_sum 18446744073709551615 (automaton (g.group (patterns (take i ps)))).count (automaton (pattern x)).count (omega arith) (some (g.group (patterns (take i ps)))) (some (pattern x))
    ∙ ap (λ (w : Automaton). min w.count 18446744073709551615) (sym (group_more ps i x h e)))))

pub some_capped : (x : Pat) (n : ℕ) → n ≡ min (automaton (pattern x)).count 18446744073709551615 → 1 ≤ n
some_capped x n e = elim (min_cases (automaton (pattern x)).count 18446744073709551615) [ inl y ↦ omega (arith, y.0, some (pattern x)) | inr y ↦ omega (arith, y.0) ]

pub choice_sum : (ps : List Pat) (i count : ℕ) → length ps ≤ i → count ≡ min (automaton (g.group (patterns (take i ps)))).count 18446744073709551615 → count ≡ min (automaton (g.choice (patterns ps))).count 18446744073709551615
choice_sum ps i count h e = e ∙ (ap (λ (w : Patterns). min (automaton (g.group w)).count 18446744073709551615) (all_taken ps i h) ∙ ap (λ w. min w 18446744073709551615) (same_sums ps))
