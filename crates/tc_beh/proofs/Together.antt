-- The numbers of an append, put together from the steps that put them.
use Rattle.std.proofs.Common.{◌≡◌, ◌<◌, ◌≤◌, ◌⊎◌, inl, inr, ◌+◌, ◌==◌, ◌||◌, ℕ, List, length, get_or, Bool, true, false, if◌then◌else◌, Result, Ok, Err, OnOk, OnErr, subst, sym, ap, ◌∙◌, refl, arith}
use Rattle.tc_mat.specs.Matrix.{IsComposition}
use Rattle.tc_mat.specs.Held.{Held}
use Rattle.tc_rows.specs.Rows.{or_hit}
use Rattle.tc_beh.specs.Held.{IsNew, AreProducts, set_at}
use Rattle.tc_beh.specs.Rooms.{output_at, outputs_in, looks_in}
use Rattle.tc_beh.specs.RoomsOf.{ChangesHeads}
use Rattle.tc_beh.specs.Appending.{IsBehind}
use Rattle.tc_beh.proofs.RoomRows.{output_is, look_is}

pub on_ok_map : {X E : Type 0} (r : Result X E) (P Q : Type 0) → (P → Q) → OnOk r P → OnOk r Q
on_ok_map (Ok x) P Q f p = f p
on_ok_map (Err e) P Q f p = tt

pub on_err_map : {X E : Type 0} (r : Result X E) (P Q : Type 0) → (P → Q) → OnErr r P → OnErr r Q
on_err_map (Ok x) P Q f p = tt
on_err_map (Err e) P Q f p = f p

pub on_ok_both : {X E : Type 0} (r : Result X E) (P Q R : Type 0) → OnOk r P → OnOk r Q → (P → Q → R) → OnOk r R
on_ok_both (Ok x) P Q R p q f = f p q
on_ok_both (Err e) P Q R p q f = tt

pub or_true : (a b : Bool) → a ≡ true → (a || b) ≡ true
or_true true b e = refl
or_true false b e = absurd (cc)

pub or_false : (a b : Bool) → a ≡ false → (a || b) ≡ b
or_false true b e = absurd (cc)
or_false false b e = refl

-- so many flags and entries stand in the rooms of the list and of the tree; first and second are the outputs of these
module _ (old new : Held) (hf tf nf es he te : ℕ) (hs ts first second : List ℕ) (same_hedge : he ≡ es) (same_tree : te ≡ es)
    (firsts : first ≡ outputs_in hf he hs) (seconds : second ≡ outputs_in tf te ts) where
  first_is : (i : ℕ) → i < es → get_or first i 0 ≡ output_at hf hs i
  first_is i low = ap (λ l. get_or l i 0) firsts ∙ output_is hf he hs i (omega (arith, low, same_hedge))

  second_is : (i : ℕ) → i < es → get_or second i 0 ≡ output_at tf ts i
  second_is i low = ap (λ l. get_or l i 0) seconds ∙ output_is tf te ts i (omega (arith, low, same_tree))

  pub products_together : (e : ℕ) → e ≡ es → AreProducts old new (λ i. get_or first i 0) (λ i. get_or second i 0) e → AreProducts old new (output_at hf hs) (output_at tf ts) es
  products_together e same is = λ k from to. (
      let (i, low, c) = is k from to in
      let here : i < es = omega (arith, low, same) in (
        i,
        here,
        subst (λ a. IsComposition (set_at old a) (set_at old (output_at tf ts i)) (set_at new k)) (first_is i here)
            (subst (λ b. IsComposition (set_at old (get_or first i 0)) (set_at old b) (set_at new k)) (second_is i here) c),
      )
      )

  pub new_together : (e : ℕ) → e ≡ es → (i : ℕ) × (i < e) × IsNew new (set_at old (get_or first i 0)) (set_at old (get_or second i 0))
      → (i : ℕ) × (i < es) × IsNew new (set_at old (output_at hf hs i)) (set_at old (output_at tf ts i))
  new_together e same (i, low, is) =
      let here : i < es = omega (arith, low, same) in (
        i,
        here,
        subst (λ a. IsNew new (set_at old a) (set_at old (output_at tf ts i))) (first_is i here)
            (subst (λ b. IsNew new (set_at old (get_or first i 0)) (set_at old b)) (second_is i here) is),
      )

  -- first the heads are put, then the looks, then the outputs
  module _ (start headed looked ns : List ℕ) (is_text is_bearing : Bool) (text : is_text ≡ (get_or ts 0 0 == 1)) (bearing : is_bearing ≡ ((get_or hs 1 0 == 1) || (get_or ts 1 0 == 1)))
      (heads : ChangesHeads start headed is_text is_bearing)
      (f1 e1 f2 e2 : ℕ) (same_f1 : f1 ≡ nf) (same_e1 : e1 ≡ es) (same_f2 : f2 ≡ nf) (same_e2 : e2 ≡ es)
      (keep_heads : (k : ℕ) → k < 2 + f1 + e1 → get_or looked k 0 ≡ get_or headed k 0)
      (keep_rest : (k : ℕ) → (k < 2 + f2) ⊎ (2 + f2 + e2 ≤ k) → get_or ns k 0 ≡ get_or looked k 0)
      (vs ws : List ℕ) (vs_is : vs ≡ looks_in hf he hs) (ws_is : ws ≡ looks_in tf te ts) (looks_count : 2 + hf + he + length vs ≡ length hs)
      (looks : (i : ℕ) → i < length vs → get_or looked (2 + f1 + e1 + i) 0 ≡ or_hit (get_or vs i 0) (get_or ws i 0)) where
    early : (k : ℕ) → k < 2 → get_or ns k 0 ≡ get_or headed k 0
    early k low = keep_rest k (inl (omega (arith, low))) ∙ keep_heads k (omega (arith, low))

    first_look : (i : ℕ) → get_or vs i 0 ≡ get_or hs (2 + hf + es + i) 0
    first_look i = ap (λ l. get_or l i 0) vs_is ∙ (look_is hf he hs i ∙ ap (λ e. get_or hs (2 + hf + e + i) 0) same_hedge)

    second_look : (i : ℕ) → get_or ws i 0 ≡ get_or ts (2 + tf + es + i) 0
    second_look i = ap (λ l. get_or l i 0) ws_is ∙ (look_is tf te ts i ∙ ap (λ e. get_or ts (2 + tf + e + i) 0) same_tree)

    pub numbers_together : ((i : ℕ) → i < e2 → IsComposition (set_at old (get_or first i 0)) (set_at old (get_or second i 0)) (set_at new (output_at f2 ns i))) → IsBehind old new hf tf nf es hs ts ns
    numbers_together outs = record {
      head = early 0 (omega arith) ∙ (heads.head ∙ ap (λ (b : Bool). let n : ℕ = if b then 1 else 0 in n) text);
      bears = early 1 (omega arith) ∙ (heads.bears ∙ ap (λ (b : Bool). let n : ℕ = if b then 1 else 0 in n) bearing);
      outs = λ i low.
          subst (λ a. IsComposition (set_at old a) (set_at old (output_at tf ts i)) (set_at new (output_at nf ns i))) (first_is i low)
          (subst (λ b. IsComposition (set_at old (get_or first i 0)) (set_at old b) (set_at new (output_at nf ns i))) (second_is i low)
          (subst (λ f. IsComposition (set_at old (get_or first i 0)) (set_at old (get_or second i 0)) (set_at new (output_at f ns i))) same_f2 (outs i (omega (arith, low, same_e2)))));
      looks = λ i low.
          let here : i < length vs = omega (arith, low, looks_count, same_hedge) in
          let place : 2 + f1 + e1 + i ≡ 2 + nf + es + i = omega (arith, same_f1, same_e1) in
          keep_rest (2 + nf + es + i) (inr (omega (arith, same_f2, same_e2)))
          ∙ (ap (λ k. get_or looked k 0) (sym place)
          ∙ (looks i here ∙ (ap (λ v. or_hit v (get_or ws i 0)) (first_look i) ∙ ap (λ w. or_hit (get_or hs (2 + hf + es + i) 0) w) (second_look i))));
    }
