-- Appends that are told from others are appends, and what tells them stays true where more rows are held.
use Rattle.std.proofs.Common.{◌≡◌, ◌<◌, ◌==◌, ◌↔◌, ℕ, List, [], length, get_or, refl, subst, sym, ap, ◌∙◌, arith}
use Rattle.std.proofs.lemmas.List.{get_or-map}
use Rattle.tc_model.specs.States.{input, state_count}
use Rattle.tc_mat.specs.Matrix.{Matrix}
use Rattle.tc_mat.specs.Held as mat
use Rattle.tc_rows.specs.Triples.{Triple, entries}
use Rattle.tc_rows.specs.PairSets.{listed, product}
use Rattle.tc_rows.specs.Rows.{HedgeRow, TreeRow}
use Rattle.tc_rows.specs.Arithmetic.{IsAppend, IsLiveAppend}
use Rattle.tc_beh.specs.Machines.{IsShapeOf}
use Rattle.tc_beh.specs.Places.{pairs_of, entries_by, no_matrix}
use Rattle.tc_beh.specs.Rooms.{Layout, IsRoom, hedge_layout, tree_layout, hedge_row, tree_row, flagged, flags_in, looks_in, outputs_in, output_at}
use Rattle.tc_beh.proofs.RoomIs.{outputs_count}
use Rattle.tc_beh.proofs.RoomRows.{output_is}
use Rattle.tc_close.specs.Appends.{AgreeButEntries, first_of, IsEven, AreKept, IsTold, AreTold}
use Rattle.tc_close.specs.NumberTables.{ComesOn}
use Rattle.tc_close.specs.RowState.{RowState, Extended, Each, AreGood, held_of, hedge_at, tree_at}
use Rattle.tc_close.specs.declared.appends.Appends.{Appends}
use Rattle.tc_close.specs.declared.number_table.NumberTable.{NumberTable}
use Rattle.tc_close.proofs.NumberTables.{all_more}
use Rattle.tc_close.proofs.Growing.{hedge_is, tree_is, more_hedges, more_trees, grows}

-- rows with the same number at places of their entries have the same set there
same_entry : (held : List Matrix) (l : Layout) (ns ms : List ℕ) (i j : ℕ) → IsRoom l held ns → IsRoom l held ms → i < l.entries → j < l.entries → output_at l.flags ns i ≡ output_at l.flags ms j
    → get_or (entries_by held (outputs_in l.flags l.entries ns)) i [] ≡ get_or (entries_by held (outputs_in l.flags l.entries ms)) j []
same_entry held l ns ms i j a b low_i low_j same = at ns i a low_i ∙ (ap (λ k. pairs_of (get_or held k no_matrix)) same ∙ sym (at ms j b low_j))
  where
    at : (row : List ℕ) (k : ℕ) → IsRoom l held row → k < l.entries → get_or (entries_by held (outputs_in l.flags l.entries row)) k [] ≡ pairs_of (get_or held (output_at l.flags row k) no_matrix)
    at row k is low =
        let count = outputs_count l held row is in
        get_or-map (λ n. pairs_of (get_or held n no_matrix)) (outputs_in l.flags l.entries row) k 0 [] (omega (arith, count, low)) ∙ ap (λ n. pairs_of (get_or held n no_matrix)) (output_is l.flags l.entries row k low)

-- what is made of all but the entries of rows that agree in these
same_by : {R : Type 0} (By : ℕ → ℕ → List ℕ → List ℕ → R) (flags entries : ℕ) (ns ms : List ℕ) → AgreeButEntries flags entries ns ms
    → By (get_or ns 0 0) (get_or ns 1 0) (flags_in flags ns) (looks_in flags entries ns) ≡ By (get_or ms 0 0) (get_or ms 1 0) (flags_in flags ms) (looks_in flags entries ms)
same_by By flags entries ns ms agree =
    ap (λ n. By n (get_or ns 1 0) (flags_in flags ns) (looks_in flags entries ns)) agree.alike.head
    ∙ (ap (λ n. By (get_or ms 0 0) n (flags_in flags ns) (looks_in flags entries ns)) agree.bears
    ∙ (ap (λ l. By (get_or ms 0 0) (get_or ms 1 0) l (looks_in flags entries ns)) agree.alike.same ∙ ap (By (get_or ms 0 0) (get_or ms 1 0) (flags_in flags ms)) agree.looks))

same_hedge : (x : Triple) (o : List Matrix) (ns ms : List ℕ) → AgreeButEntries (state_count x.input input) (entries x) ns ms → record (hedge_row x o ns) { entries = (hedge_row x o ms).entries } ≡ hedge_row x o ms
same_hedge x o ns ms = same_by (λ end bears flags looks. record { ends = end == 1; bears = bears == 1; states = flagged 0 flags; entries = (hedge_row x o ms).entries; looks = looks }) (state_count x.input input) (entries x) ns ms

same_tree : (x : Triple) (o : List Matrix) (ns ms : List ℕ) → AgreeButEntries (length x.input.elements) (entries x) ns ms → record (tree_row x o ns) { entries = (tree_row x o ms).entries } ≡ tree_row x o ms
same_tree x o ns ms = same_by (λ text bears flags looks. record { is_text = text == 1; bears = bears == 1; patterns = flagged 1 flags; entries = (tree_row x o ms).entries; looks = looks }) (length x.input.elements) (entries x) ns ms

module _ {IsOf : Triple → Type 0} (s : RowState) {a : Appends} (are : AreTold IsOf s.outputs s.hedges s.trees a) where
  module _ {h t u : ℕ} (told : IsTold a s.hedges s.trees h t u) (x : Triple) (is : IsOf x) (good : AreGood x s) where
    abbrev c : ℕ
    c = state_count x.input input

    abbrev p : ℕ
    p = length x.input.elements

    abbrev hs : ℕ → List ℕ
    hs n = get_or s.hedges n []

    abbrev ts : ℕ → List ℕ
    ts n = get_or s.trees n []

    shape : IsShapeOf x a.shape
    shape = are.shape x is

    -- rows with the same number at places of their entries have the same set there
    hedge_entry : (n m i j : ℕ) → n < length s.hedges → m < length s.hedges → i < entries x → j < entries x → output_at a.shape.inputs (hs n) i ≡ output_at a.shape.inputs (hs m) j → get_or (hedge_at x s n).entries i [] ≡ get_or (hedge_at x s m).entries j []
    hedge_entry n m i j ln lm li lj e =
        same_entry s.outputs.matrices (hedge_layout x) (hs n) (hs m) i j (good.hedges n ln).room (good.hedges m lm).room li lj (subst (λ k. output_at k (hs n) i ≡ output_at k (hs m) j) shape.input_states e)

    tree_entry : (n m i j : ℕ) → n < length s.trees → m < length s.trees → i < entries x → j < entries x → output_at a.shape.patterns (ts n) i ≡ output_at a.shape.patterns (ts m) j → get_or (tree_at x s n).entries i [] ≡ get_or (tree_at x s m).entries j []
    tree_entry n m i j ln lm li lj e =
        same_entry s.outputs.matrices (tree_layout x) (ts n) (ts m) i j (good.trees n ln).room (good.trees m lm).room li lj (subst (λ k. output_at k (ts n) i ≡ output_at k (ts m) j) shape.input_patterns e)

    -- the entries are products: at each place as at the first of its class, and there as in rows that are remembered
    products : (i : ℕ) → i < entries x → (b d : ℕ) → listed (get_or (hedge_at x s u).entries i []) b d ↔ product (listed (get_or (hedge_at x s h).entries i [])) (listed (get_or (tree_at x s t).entries i [])) b d
    products i low b d =
        let (low_h, even_h) = are.kept.even_hedges h told.low_hedge in
        let (low_t, even_t) = are.kept.even_trees t told.low_tree in
        let (low_u, even_u) = are.kept.even_hedges u told.low_made in
        let inside : i < a.shape.entries = subst (λ n. i < n) (sym shape.entry_number) low in
        let f = first_of a.classes i in
        let first : f < entries x = subst (λ n. f < n) shape.entry_number (even_h i inside).low in
        let one = told.products (get_or a.classes.of.items i 0) (even_h i inside).class f refl in
        let (lh, lt, lu) = are.kept.made one.h one.t one.u one.is in
        let eh = hedge_entry one.h h f i lh low_h first low (one.of_first ∙ (even_h i inside).same) in
        let et = tree_entry one.t t f i lt low_t first low (one.of_second ∙ (even_t i inside).same) in
        let eu = hedge_entry one.u u f i lu low_u first low (one.of_both ∙ (even_u i inside).same) in
        let Are : List (ℕ × ℕ) → List (ℕ × ℕ) → List (ℕ × ℕ) → Type 0 = λ k l m. listed m b d ↔ product (listed k) (listed l) b d in
        let k = get_or (hedge_at x s one.h).entries f [] in
        let l = get_or (tree_at x s one.t).entries f [] in
        subst (λ n. Are n (get_or (tree_at x s t).entries i []) (get_or (hedge_at x s u).entries i [])) eh
        (subst (λ n. Are k n (get_or (hedge_at x s u).entries i [])) et (subst (λ n. Are k l n) eu ((are.made one.h one.t one.u one.is x is).1.entries f first b d)))

    pub told_append : IsLiveAppend x (hedge_at x s h) (tree_at x s t) × IsAppend x (hedge_at x s h) (tree_at x s t) (hedge_at x s u)
    told_append =
        let (live, app) = are.made told.other told.another u told.is x is in
        let Both : HedgeRow → TreeRow → Type 0 = λ k l. IsLiveAppend x k l × IsAppend x k l (hedge_at x s u) in
        let hedge = subst (λ n. AgreeButEntries n (entries x) (hs told.other) (hs h)) shape.input_states (subst (λ n. AgreeButEntries a.shape.inputs n (hs told.other) (hs h)) shape.entry_number told.hedge) in
        let tree = subst (λ n. AgreeButEntries n (entries x) (ts told.another) (ts t)) shape.input_patterns (subst (λ n. AgreeButEntries a.shape.patterns n (ts told.another) (ts t)) shape.entry_number told.tree) in
        let other : HedgeRow = record (hedge_at x s told.other) { entries = (hedge_at x s h).entries } in
        let another : TreeRow = record (tree_at x s told.another) { entries = (tree_at x s t).entries } in
        let both : Both other another = (live, record { row = app.row; ends = app.ends; bears = app.bears; states = app.states; entries = products; looks = app.looks }) in
        subst (λ k. Both k (tree_at x s t)) (same_hedge x s.outputs.matrices (hs told.other) (hs h) hedge) (subst (λ l. Both other l) (same_tree x s.outputs.matrices (ts told.another) (ts t) tree) both)

  -- one more is remembered
  pub told_more : (new : Appends) (h t u : ℕ) → AreKept s.hedges s.trees new → new.shape ≡ a.shape → ComesOn h t u a.made.places.items new.made.places.items → (held_of IsOf s).is_append h t u → AreTold IsOf s.outputs s.hedges s.trees new
  told_more new h t u kept same comes here = record { kept = kept; shape = λ x o. subst (IsShapeOf x) (sym same) (are.shape x o); made = all_more (held_of IsOf s).is_append h t u a.made.places.items new.made.places.items comes are.made here }

pub kept_more : (hedges trees : List (List ℕ)) (a : Appends) → AreKept hedges trees a → (new : NumberTable) (h t u : ℕ) → h < length hedges → t < length trees → u < length hedges → ComesOn h t u a.made.places.items new.places.items → AreKept hedges trees (record a { made = new })
kept_more hedges trees a kept new h t u lh lt lu comes = record {
  even_hedges = kept.even_hedges;
  even_trees = kept.even_trees;
  made = all_more (λ i j n. (i < length hedges) × (j < length trees) × (n < length hedges)) h t u a.made.places.items new.places.items comes kept.made (lh, lt, lu);
}

-- nothing is remembered
pub nothing_told : (IsOf : Triple → Type 0) (o : mat.Held) (a : Appends) → AreKept [] [] a → ((x : Triple) → IsOf x → IsShapeOf x a.shape) → AreTold IsOf o [] [] a
nothing_told IsOf o a kept shape = record { kept = kept; shape = shape; made = λ h t u at x is. let low = (kept.made h t u at).0 in absurd (omega (arith, low)) }

-- more rows are held
pub told_on : (IsOf : Triple → Type 0) (s r : RowState) → Extended s r → Each IsOf (λ x. AreGood x s) → (a : Appends) → AreTold IsOf s.outputs s.hedges s.trees a → AreTold IsOf r.outputs r.hedges r.trees a
told_on IsOf s r on good a are =
    let hedges = more_hedges s r on in
    let trees = more_trees s r on in
    record {
      kept = record {
        even_hedges = λ u l. let (low, even) = are.kept.even_hedges u l in (omega (arith, low, hedges), subst (IsEven a.shape.entries a.classes a.shape.inputs) (sym (hedge_is s r on u low)) even);
        even_trees = λ u l. let (low, even) = are.kept.even_trees u l in (omega (arith, low, trees), subst (IsEven a.shape.entries a.classes a.shape.patterns) (sym (tree_is s r on u low)) even);
        made = λ h t u at. let (lh, lt, lu) = are.kept.made h t u at in (omega (arith, lh, hedges), omega (arith, lt, trees), omega (arith, lu, hedges));
      };
      shape = are.shape;
      made = λ h t u at. let (lh, lt, lu) = are.kept.made h t u at in (grows s r on IsOf good).is_append h t u lh lt lu (are.made h t u at);
    }
