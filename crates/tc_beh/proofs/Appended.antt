-- What an append leaves of states, seen as rows.
use Rattle.std.proofs.Common.{◌≡◌, ◌<◌, inl, inr, ◌-◌, ◌↔◌, ◌==◌, ◌&&◌, ◌∷◌, [], ℕ, zero, suc, List, length, get_or, Bool, true, false, subst, sym, ◌∙◌, refl, arith, eq-eqb, eqb-true}
use Rattle.std.specs.List.{Contains}
use Rattle.std.proofs.lemmas.List.{get_or_default}
use Rattle.tc_alpha.proofs.Members.{Has, has_from_contains, contains_from_has}
use Rattle.tc_model.specs.States.{input, state_count, IsEdge}
use Rattle.tc_model.proofs.StatesParts.{edge_within}
use Rattle.tc_auto.specs.Steps.{leaf}
use Rattle.tc_auto.specs.Stands.{Stands, states}
use Rattle.tc_auto.specs.declared.auto.Auto.{Auto}
use Rattle.tc_auto.specs.declared.auto.Leaf.{Leaf}
use Rattle.tc_auto.specs.declared.auto.Leaf.TheVariants as l
use Rattle.tc_mat.specs.Matrix.{Matrix}
use Rattle.tc_rows.specs.Triples.{Triple}
use Rattle.tc_rows.specs.Arithmetic.{TreeLeads}
use Rattle.tc_beh.specs.Rooms.{flagged, flags_in, flag_at, tree_row}
use Rattle.tc_beh.specs.Appending.{IsTaken, IsStep, Puts}
use Rattle.tc_beh.proofs.RoomRows.{flagged_at, at_flagged, flag_is}

one_low : (vs : List ℕ) (i : ℕ) → get_or vs i 0 ≡ 1 → i < length vs
one_low [] i e = absurd (omega (arith, e))
one_low (v ∷ vs) zero e = omega arith
one_low (v ∷ vs) (suc i) e = let low = one_low vs i e in omega (arith, low)

-- a number has a flag exactly where it is among the flagged
pub state_at : (n : ℕ) (ns : List ℕ) (j : ℕ) → length (flags_in n ns) ≡ n → Contains (flagged 0 (flags_in n ns)) j ↔ ((j < n) × (flag_at ns j ≡ 1))
state_at n ns j count = (forth, back)
  where
    forth : Contains (flagged 0 (flags_in n ns)) j → (j < n) × (flag_at ns j ≡ 1)
    forth c =
        let (i, low, one, at) = flagged_at 0 (flags_in n ns) j (has_from_contains (flagged 0 (flags_in n ns)) j c) in
        let e : i ≡ j = omega (arith, at) in
        let l : i < n = omega (arith, low, count) in
        (omega (arith, e, l), subst (λ k. flag_at ns k ≡ 1) e (sym (flag_is n ns i l) ∙ one))

    back : (j < n) × (flag_at ns j ≡ 1) → Contains (flagged 0 (flags_in n ns)) j
    back (low, one) = contains_from_has (flagged 0 (flags_in n ns)) j (subst (λ k. Has (flagged 0 (flags_in n ns)) k) (omega arith) (at_flagged 0 (flags_in n ns) j (omega (arith, low, count)) (flag_is n ns j low ∙ one)))

module _ (x : Triple) (held : List Matrix) (ts : List ℕ) where
  abbrev patterns : List ℕ
  patterns = flags_in (length x.input.elements) ts

  abbrev is_text : Bool
  is_text = get_or ts 0 0 == 1

  pub step_of_leads : (i j : ℕ) → TreeLeads x (tree_row x held ts) i j → IsStep input x.input i is_text patterns j
  step_of_leads i j (inl h) = (l.Text, h.1, h.0)
  step_of_leads i j (inr h) =
      let (f, (k, c, e)) = h in
      let (n, low, one, at) = flagged_at 1 patterns k (has_from_contains (flagged 1 patterns) k c) in
      (l.Ref k, e, (f, omega (arith, at), subst (λ m. get_or patterns m 0 ≡ 1) (omega (arith, at)) one))

  leads_by : (i j : ℕ) (e : Leaf) → IsEdge x.input input i (leaf e) j → IsTaken is_text patterns e → TreeLeads x (tree_row x held ts) i j
  leads_by i j l.Text edge t = inl (t, edge)
  leads_by i j (l.Ref k) edge (f, from, one) =
      inr (f, (k, contains_from_has (flagged 1 patterns) k (subst (λ m. Has (flagged 1 patterns) m) (omega (arith, from)) (at_flagged 1 patterns (k - 1) (one_low patterns (k - 1) one) one)), edge))

  pub leads_of_step : (i j : ℕ) → IsStep input x.input i is_text patterns j → TreeLeads x (tree_row x held ts) i j
  leads_of_step i j (e, edge, taken) = leads_by i j e edge taken

  module _ (a : Auto) (stands : Stands input x.input a) (count : states a ≡ state_count x.input input) (hs ns : List ℕ)
      (hedge : length (flags_in (state_count x.input input) hs) ≡ state_count x.input input) (out : length (flags_in (state_count x.input input) ns) ≡ state_count x.input input)
      (puts : Puts a (flags_in (state_count x.input input) hs) is_text patterns ns) where
    abbrev n : ℕ
    n = state_count x.input input

    -- the states of the row are those to which the tree leads one of the list's
    pub states_appended : (j : ℕ) → Contains (flagged 0 (flags_in n ns)) j ↔ ((i : ℕ) × Contains (flagged 0 (flags_in n hs)) i × TreeLeads x (tree_row x held ts) i j)
    states_appended j = (forth, back)
      where
        forth : Contains (flagged 0 (flags_in n ns)) j → (i : ℕ) × Contains (flagged 0 (flags_in n hs)) i × TreeLeads x (tree_row x held ts) i j
        forth c =
            let (low, one) = (state_at n ns j out).0 c in
            let (i, m, set, step) = (puts.exact input x.input stands j (omega (arith, low, count))).0 one in
            let here : i < n = omega (arith, m, count) in
            (i, (state_at n hs i hedge).1 (here, sym (flag_is n hs i here) ∙ set), leads_of_step i j step)

        back : (i : ℕ) × Contains (flagged 0 (flags_in n hs)) i × TreeLeads x (tree_row x held ts) i j → Contains (flagged 0 (flags_in n ns)) j
        back (i, c, leads) =
            let (here, set) = (state_at n hs i hedge).0 c in
            let step = step_of_leads i j leads in
            let (from, to) = edge_within x.input input i j (leaf step.0) step.1 in
            (state_at n ns j out).1 (to, (puts.exact input x.input stands j (omega (arith, to, count))).1 (i, omega (arith, here, count), flag_is n hs i here ∙ set, step))

    -- there is a state exactly where a flag is set
    pub some_state : Contains (flags_in n ns) 1 → (i : ℕ) × (j : ℕ) × Contains (flagged 0 (flags_in n hs)) i × TreeLeads x (tree_row x held ts) i j
    some_state (j, low, one) =
        let here : j < n = omega (arith, low, out) in
        let set : flag_at ns j ≡ 1 = sym (flag_is n ns j here) ∙ (get_or_default (flags_in n ns) j 0 1 low ∙ one) in
        let (i, c, leads) = (states_appended j).0 ((state_at n ns j out).1 (here, set)) in
        (i, j, c, leads)

    pub some_flag : (i : ℕ) × (j : ℕ) × Contains (flagged 0 (flags_in n hs)) i × TreeLeads x (tree_row x held ts) i j → Contains (flags_in n ns) 1
    some_flag (i, j, c, leads) =
        let (low, set) = (state_at n ns j out).0 ((states_appended j).1 (i, c, leads)) in
        let inside : j < length (flags_in n ns) = omega (arith, low, out) in
        (j, inside, get_or_default (flags_in n ns) j 1 0 inside ∙ (flag_is n ns j low ∙ set))

-- not both are texts
pub not_texts : (a b : ℕ) → ((a ≡ 1) × (b ≡ 1) → ⊥) → ((a == 1) && (b == 1)) ≡ false
not_texts a b isnt = by (a == 1) (b == 1) refl refl
  where
    by : (p q : Bool) → (a == 1) ≡ p → (b == 1) ≡ q → (p && q) ≡ false
    by true true e f = absurd (isnt (eqb-true a 1 e, eqb-true b 1 f))
    by true false e f = refl
    by false q e f = refl

pub texts_not : (a b : ℕ) → ((a == 1) && (b == 1)) ≡ false → (a ≡ 1) × (b ≡ 1) → ⊥
texts_not a b e (p, q) = by (a == 1) (b == 1) (eq-eqb a 1 p) (eq-eqb b 1 q) e
  where
    by : (c d : Bool) → c ≡ true → d ≡ true → (c && d) ≡ false → ⊥
    by true true f g h = absurd (cc)
    by true false f g h = absurd (cc)
    by false d f g h = absurd (cc)
