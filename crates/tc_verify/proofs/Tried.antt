-- What is made of rows is listed exactly where its numbers are, over sets that stay.
use Rattle.std.proofs.Common.{◌≡◌, ◌↔◌, ℕ, List, map, Bool, true, false, IsTrue, subst}
use Rattle.std.specs.List.{Contains}
use Rattle.tc_mat.specs.Held.{Held, AreDifferent}
use Rattle.tc_rows.specs.Triples.{Triple}
use Rattle.tc_rows.specs.Rows.{HedgeRow, TreeRow}
use Rattle.tc_beh.specs.Outs.{IsLeftOut}
use Rattle.tc_beh.specs.Rooms.{hedge_layout, tree_layout, IsRoom, hedge_row, tree_row}
use Rattle.tc_verify.proofs.Listed.{hedges_listed, trees_listed, found, dead, left}

module _ (x : Triple) (old new : Held) (e : new ≡ old) (index : List (List ℕ)) (different : AreDifferent old) where
  module _ (rooms : (ns : List ℕ) → Contains index ns → IsRoom (hedge_layout x) old.matrices ns) (Live : Type 0) (Made : HedgeRow → Type 0) (one : (u v : HedgeRow) → Made u → Made v → u ≡ v) where
    abbrev pub HedgesListed : Type 0
    HedgesListed = Live → (u : HedgeRow) → Made u → Contains (map (hedge_row x old.matrices) index) u

    pub hedge_found : (ns : List ℕ) → IsRoom (hedge_layout x) new.matrices ns → Made (hedge_row x new.matrices ns) → Live → (b : Bool) → (IsTrue b ↔ Contains index ns) → IsTrue b ↔ HedgesListed
    hedge_found ns room made live b has =
        found (λ (r : HedgeRow). r.entries) (hedge_row x old.matrices) old index (hedges_listed x old index different rooms) Live Made one ns
        (subst (λ (h : Held). IsRoom (hedge_layout x) h.matrices ns) e room) (subst (λ (h : Held). Made (hedge_row x h.matrices ns)) e made) live b has

    pub hedge_dead : (Live → ⊥) → IsTrue true ↔ HedgesListed
    hedge_dead bad = dead (λ (r : HedgeRow). r.entries) (hedge_row x old.matrices) old index (hedges_listed x old index different rooms) Live Made one bad

    pub hedge_left : Live → (u : HedgeRow) → Made u → IsLeftOut new u.entries → IsTrue false ↔ HedgesListed
    hedge_left live u made out =
        left (λ (r : HedgeRow). r.entries) (hedge_row x old.matrices) old index (hedges_listed x old index different rooms) Live Made one live u made (subst (λ (h : Held). IsLeftOut h u.entries) e out)

  module _ (rooms : (ns : List ℕ) → Contains index ns → IsRoom (tree_layout x) old.matrices ns) (Live : Type 0) (Made : TreeRow → Type 0) (one : (u v : TreeRow) → Made u → Made v → u ≡ v) where
    abbrev pub TreesListed : Type 0
    TreesListed = Live → (u : TreeRow) → Made u → Contains (map (tree_row x old.matrices) index) u

    pub tree_found : (ns : List ℕ) → IsRoom (tree_layout x) new.matrices ns → Made (tree_row x new.matrices ns) → Live → (b : Bool) → (IsTrue b ↔ Contains index ns) → IsTrue b ↔ TreesListed
    tree_found ns room made live b has =
        found (λ (r : TreeRow). r.entries) (tree_row x old.matrices) old index (trees_listed x old index different rooms) Live Made one ns
        (subst (λ (h : Held). IsRoom (tree_layout x) h.matrices ns) e room) (subst (λ (h : Held). Made (tree_row x h.matrices ns)) e made) live b has

    pub tree_dead : (Live → ⊥) → IsTrue true ↔ TreesListed
    tree_dead bad = dead (λ (r : TreeRow). r.entries) (tree_row x old.matrices) old index (trees_listed x old index different rooms) Live Made one bad

    pub tree_left : Live → (u : TreeRow) → Made u → IsLeftOut new u.entries → IsTrue false ↔ TreesListed
    tree_left live u made out =
        left (λ (r : TreeRow). r.entries) (tree_row x old.matrices) old index (trees_listed x old index different rooms) Live Made one live u made (subst (λ (h : Held). IsLeftOut h u.entries) e out)

-- a rule without a condition
pub always : {A : Type 0} {b : Bool} → IsTrue b ↔ (Unit {0} → A) → IsTrue b ↔ A
always i = (λ t. i.0 t tt, λ a. i.1 (λ u. a))
