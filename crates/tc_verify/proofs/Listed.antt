-- Rows that are listed by their numbers, over sets that stay: what is made of rows is listed, is dead or is left out.
use Rattle.std.proofs.Common.{◌≡◌, ◌<◌, ◌↔◌, inl, inr, [], ◌∷◌, ℕ, List, length, get_or, map, Bool, true, false, IsTrue, subst, sym, ap, ◌∙◌, refl, arith}
use Rattle.std.specs.List.{Contains}
use Rattle.std.proofs.lemmas.List.{get_or_default}
use Rattle.std.proofs.lemmas.List.Elements.{Contains-get_or}
use Rattle.tc_alpha.proofs.Members.{Has, has_from_contains, contains_from_has}
use Rattle.tc_mat.specs.Matrix.{Matrix}
use Rattle.tc_mat.specs.Held.{Held, AreDifferent}
use Rattle.tc_rows.specs.Triples.{Triple}
use Rattle.tc_rows.specs.Rows.{HedgeRow, TreeRow}
use Rattle.tc_beh.specs.Places.{pairs_of, entries_by, no_matrix}
use Rattle.tc_beh.specs.Outs.{IsLeftOut}
use Rattle.tc_beh.specs.Rooms.{Layout, hedge_layout, tree_layout, IsRoom, hedge_row, tree_row, outputs_in, output_at}
use Rattle.tc_beh.proofs.RoomRows.{output_is}
use Rattle.tc_beh.proofs.RoomIs.{outputs_count}
use Rattle.tc_beh.proofs.RoomLaws.{rooms_lawful}

module _ {A B : Type 0} (f : A → B) where
  has_map : (xs : List A) (y : A) → Has xs y → Has (map f xs) (f y)
  has_map [] y h = absurd h
  has_map (x ∷ xs) y (inl e) = inl (ap f e)
  has_map (x ∷ xs) y (inr h) = inr (has_map xs y h)

  mapped_at : (xs : List A) (z : B) → Has (map f xs) z → (y : A) × Has xs y × (f y ≡ z)
  mapped_at [] z h = absurd h
  mapped_at (x ∷ xs) z (inl e) = (x, inl refl, e)
  mapped_at (x ∷ xs) z (inr h) = let (y, m, e) = mapped_at xs z h in (y, inr m, e)

  pub in_map : (xs : List A) (y : A) → Contains xs y → Contains (map f xs) (f y)
  in_map xs y c = contains_from_has (map f xs) (f y) (has_map xs y (has_from_contains xs y c))

  pub mapped : (xs : List A) (z : B) → Contains (map f xs) z → (y : A) × Contains xs y × (f y ≡ z)
  mapped xs z c = let (y, m, e) = mapped_at xs z (has_from_contains (map f xs) z c) in (y, contains_from_has xs y m, e)

-- each entry of a room is held
entries_held : (s : Layout) (held : List Matrix) (ns : List ℕ) → IsRoom s held ns → (p : List (ℕ × ℕ)) → Contains (entries_by held (outputs_in s.flags s.entries ns)) p → Contains (map pairs_of held) p
entries_held s held ns is p c =
    let os : List ℕ = outputs_in s.flags s.entries ns in
    let (n, (i, low, at), e) = mapped (λ k. pairs_of (get_or held k no_matrix)) os p c in
    let count = outputs_count s held ns is in
    let inside : i < s.entries = omega (arith, low, count) in
    let here : get_or os i n ≡ get_or os i 0 = get_or_default os i n 0 low in
    let there : get_or os i 0 ≡ output_at s.flags ns i = output_is s.flags s.entries ns i inside in
    let few : n < length held = subst (λ k. k < length held) (sym there ∙ (sym here ∙ at)) (is.outs i inside) in
    subst (Contains (map pairs_of held)) e (in_map pairs_of held (get_or held n no_matrix) (Contains-get_or held n no_matrix few))

pub both_true : IsTrue true
both_true = refl

-- of any kind of rows, with the entries of a row, and what stands for rows
module _ {R : Type 0} (entries : R → List (List (ℕ × ℕ))) (row : List ℕ → R) (h : Held) (index : List (List ℕ)) where
  -- the room of each listed row, and of equal rows equal ones
  pub record AreListed (IsOf : List ℕ → Type 0) : Type 0 where
    pub rooms : (ns : List ℕ) → Contains index ns → IsOf ns
    pub held : (ns : List ℕ) → IsOf ns → (p : List (ℕ × ℕ)) → Contains (entries (row ns)) p → Contains (map pairs_of h.matrices) p
    pub same : (ns ms : List ℕ) → IsOf ns → IsOf ms → row ns ≡ row ms → ns ≡ ms

  module _ {IsOf : List ℕ → Type 0} (are : AreListed IsOf) (Live : Type 0) (Made : R → Type 0) (one : (u v : R) → Made u → Made v → u ≡ v) where
    abbrev pub Listed : Type 0
    Listed = Live → (u : R) → Made u → Contains (map row index) u

    pub found : (ns : List ℕ) → IsOf ns → Made (row ns) → Live → (b : Bool) → (IsTrue b ↔ Contains index ns) → IsTrue b ↔ Listed
    found ns room made live b e = (there, back)
      where
        there : IsTrue b → Listed
        there t l u m = subst (Contains (map row index)) (one (row ns) u made m) (in_map row index ns (e.0 t))

        back : Listed → IsTrue b
        back all =
            let (ms, inside, q) = mapped row index (row ns) (all live (row ns) made) in
            e.1 (subst (Contains index) (are.same ms ns (are.rooms ms inside) room q) inside)

    pub dead : (Live → ⊥) → IsTrue true ↔ Listed
    dead bad = (λ t l. absurd (bad l), λ all. refl)

    pub left : Live → (u : R) → Made u → IsLeftOut h (entries u) → IsTrue false ↔ Listed
    left live u made (p, inside, out) = (λ f. absurd (cc), back)
      where
        back : Listed → IsTrue false
        back all =
            let (ms, there, q) = mapped row index u (all live u made) in
            absurd (out (are.held ms (are.rooms ms there) p (subst (λ (v : R). Contains (entries v) p) (sym q) inside)))

pub hedges_listed : (x : Triple) (h : Held) (index : List (List ℕ)) → AreDifferent h → ((ns : List ℕ) → Contains index ns → IsRoom (hedge_layout x) h.matrices ns)
    → AreListed (λ (r : HedgeRow). r.entries) (hedge_row x h.matrices) h index (IsRoom (hedge_layout x) h.matrices)
hedges_listed x h index different rooms = record {
  rooms = rooms;
  held = entries_held (hedge_layout x) h.matrices;
  same = λ ns ms a b. (rooms_lawful.hedges x h ns ms different a b).0;
}

pub trees_listed : (x : Triple) (h : Held) (index : List (List ℕ)) → AreDifferent h → ((ns : List ℕ) → Contains index ns → IsRoom (tree_layout x) h.matrices ns)
    → AreListed (λ (r : TreeRow). r.entries) (tree_row x h.matrices) h index (IsRoom (tree_layout x) h.matrices)
trees_listed x h index different rooms = record {
  rooms = rooms;
  held = entries_held (tree_layout x) h.matrices;
  same = λ ns ms a b. (rooms_lawful.trees x h ns ms different a b).0;
}
