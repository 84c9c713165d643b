-- An append by its steps: first where it may stand, then all else.
use Rattle.std.proofs.Common.{◌≡◌, ◌<◌, ◌≤◌, ◌+◌, ◌==◌, ℕ, List, length, get_or, drop, subst, sym, ◌∙◌, arith}
use Rattle.std.specs.List.{Contains}
use Rattle.std.proofs.lemmas.List.{length-take-le, length-drop}
use Rattle.tc_model.specs.States.{input, state_count}
use Rattle.tc_auto.specs.Stands.{Stands}
use Rattle.tc_auto.specs.declared.auto.Auto.{Auto}
use Rattle.tc_mat.specs.Matrix.{Matrix}
use Rattle.tc_mat.specs.Held.{Held, AreMatrices}
use Rattle.tc_rows.specs.Triples.{Triple, outputs, entries}
use Rattle.tc_rows.specs.Rows.{HedgeRow}
use Rattle.tc_rows.specs.Arithmetic.{IsAppend, IsLiveAppend}
use Rattle.tc_beh.specs.Held.{Extends, IsNew, AreProducts, set_at}
use Rattle.tc_beh.specs.Outs.{IsLeftOut, GrowsBy}
use Rattle.tc_beh.specs.Rooms.{count_of, hedge_layout, tree_layout, output_at, flags_in, IsRoom, hedge_row, tree_row}
use Rattle.tc_beh.specs.Appending.{Puts, IsBehind}
use Rattle.tc_beh.proofs.RoomIs.{flags_count}
use Rattle.tc_beh.proofs.Appended.{some_state, some_flag, not_texts, texts_not}
use Rattle.tc_beh.proofs.Held.{matrices_before}
use Rattle.tc_beh.proofs.Behind.{puts_kept, is_room, is_append, partly_appended, left_out_of_append}

flags_of : (x : Triple) (ns : List ℕ) → length ns ≡ count_of (hedge_layout x) → length (flags_in (state_count x.input input) ns) ≡ state_count x.input input
flags_of x ns count = length-take-le (state_count x.input input) (drop 2 ns) (let l = length-drop 2 ns in omega (arith, l, count))

-- so many flags stand in the rooms of the list, of the tree and of both
module _ (x : Triple) (hs ts : List ℕ) (hf tf nf : ℕ) (he : hf ≡ state_count x.input input) (te : tf ≡ length x.input.elements) (ne : nf ≡ state_count x.input input)
    (a : Auto) (stands : Stands input x.input a) where
  abbrev AreBothTexts : Type 0
  AreBothTexts = (get_or hs 0 0 ≡ 1) × (get_or ts 0 0 ≡ 1)

  abbrev PutsThere : List ℕ → Type 0
  PutsThere ns = (AreBothTexts → ⊥) → Puts a (flags_in hf hs) (get_or ts 0 0 == 1) (flags_in tf ts) ns

  puts_at : (ns : List ℕ) → PutsThere ns → (AreBothTexts → ⊥) → Puts a (flags_in (state_count x.input input) hs) (get_or ts 0 0 == 1) (flags_in (length x.input.elements) ts) ns
  puts_at ns puts isnt =
      subst (λ k. Puts a (flags_in k hs) (get_or ts 0 0 == 1) (flags_in (length x.input.elements) ts) ns) he
      (subst (λ k. Puts a (flags_in hf hs) (get_or ts 0 0 == 1) (flags_in k ts) ns) te (puts isnt))

  module _ (held : List Matrix) (hedge : IsRoom (hedge_layout x) held hs) (mid : List ℕ) (count : length mid ≡ count_of (hedge_layout x)) (puts : PutsThere mid) where
    pub is_live : (AreBothTexts → ⊥) → Contains (flags_in nf mid) 1 → IsLiveAppend x (hedge_row x held hs) (tree_row x held ts)
    is_live isnt some = (
      not_texts (get_or hs 0 0) (get_or ts 0 0) isnt,
      some_state x held ts a stands stands.built.counted hs mid (flags_count (hedge_layout x) held hs hedge) (flags_of x mid count) (puts_at mid puts isnt)
          (subst (λ k. Contains (flags_in k mid) 1) ne some),
    )

    pub isnt_live : ((AreBothTexts → ⊥) × Contains (flags_in nf mid) 1 → ⊥) → IsLiveAppend x (hedge_row x held hs) (tree_row x held ts) → ⊥
    isnt_live isnt (apart, leads) =
        let one = texts_not (get_or hs 0 0) (get_or ts 0 0) apart in
        isnt (
          one,
          subst (λ k. Contains (flags_in k mid) 1) (sym ne)
              (some_flag x held ts a stands stands.built.counted hs mid (flags_count (hedge_layout x) held hs hedge) (flags_of x mid count) (puts_at mid puts one) leads),
        )

  module _ (old new : Held) (more : Extends old new) (are : AreMatrices new) (size : old.size ≡ outputs x) (es : ℕ) (ee : es ≡ entries x)
      (hedge : IsRoom (hedge_layout x) old.matrices hs) (tree : IsRoom (tree_layout x) old.matrices ts) where
    behind_at : (ns : List ℕ) → IsBehind old new hf tf nf es hs ts ns → IsBehind old new (state_count x.input input) (length x.input.elements) (state_count x.input input) (entries x) hs ts ns
    behind_at ns is =
        subst (λ k. IsBehind old new k (length x.input.elements) (state_count x.input input) (entries x) hs ts ns) he
        (subst (λ k. IsBehind old new hf k (state_count x.input input) (entries x) hs ts ns) te
        (subst (λ k. IsBehind old new hf tf k (entries x) hs ts ns) ne (subst (λ k. IsBehind old new hf tf nf k hs ts ns) ee is)))

    pub appended : (mid ns : List ℕ) → length mid ≡ count_of (hedge_layout x) → length ns ≡ length mid → PutsThere mid → (AreBothTexts → ⊥)
        → ((k : ℕ) → 2 ≤ k → k < 2 + nf → get_or ns k 0 ≡ get_or mid k 0) → IsBehind old new hf tf nf es hs ts ns
        → ((i : ℕ) → i < es → output_at nf ns i < length new.matrices)
        → IsRoom (hedge_layout x) new.matrices ns × IsAppend x (hedge_row x old.matrices hs) (tree_row x old.matrices ts) (hedge_row x new.matrices ns)
    appended mid ns count same puts isnt kept behind low =
        let n = state_count x.input input in
        let before = matrices_before old new more are in
        let is = behind_at ns behind in
        let lows : (i : ℕ) → i < entries x → output_at n ns i < length new.matrices = λ i l. subst (λ k. output_at k ns i < length new.matrices) ne (low i (omega (arith, l, ee))) in
        let put : Puts a (flags_in n hs) (get_or ts 0 0 == 1) (flags_in (length x.input.elements) ts) ns =
        puts_kept a (flags_in n hs) (get_or ts 0 0 == 1) (flags_in (length x.input.elements) ts) mid ns nf (stands.built.counted ∙ sym ne) kept (puts_at mid puts isnt)
        in (
          is_room x old before size hs ts hedge tree new more are ns (same ∙ count) is lows a stands put,
          is_append x old before size hs ts hedge tree new more are ns (same ∙ count) is lows a stands put,
        )

    pub refused : (r : HedgeRow) → IsAppend x (hedge_row x old.matrices hs) (tree_row x old.matrices ts) r → AreProducts old new (output_at hf hs) (output_at tf ts) es
        → (i : ℕ) × (i < es) × IsNew new (set_at old (output_at hf hs i)) (set_at old (output_at tf ts i)) → GrowsBy old new r.entries × IsLeftOut new r.entries
    refused r is products (i, low, fresh) =
        let before = matrices_before old new more are in
        let n = state_count x.input input in
        let p = length x.input.elements in (
          partly_appended x old before size hs ts hedge tree new more are r is
              (subst (λ k. AreProducts old new (output_at k hs) (output_at p ts) (entries x)) he
              (subst (λ k. AreProducts old new (output_at hf hs) (output_at k ts) (entries x)) te (subst (λ k. AreProducts old new (output_at hf hs) (output_at tf ts) k) ee products))),
          left_out_of_append x old before size hs ts hedge tree new more are r is i (omega (arith, low, ee))
              (subst (λ k. IsNew new (set_at old (output_at k hs i)) (set_at old (output_at p ts i))) he
              (subst (λ k. IsNew new (set_at old (output_at hf hs i)) (set_at old (output_at k ts i))) te fresh)),
        )
