-- What holds of rows that are held goes on holding where a row is worked out, be it kept, dead or refused.
use Rattle.std.proofs.Common.{◌≡◌, ◌<◌, inl, inr, [], ℕ, List, length, get_or, Bool, true, false, slice_get, Some, not, IsTrue, ◌↔◌, subst, sym, ap, ◌∙◌, refl, append-nil}
use Rattle.std.specs.List.{Contains}
use Rattle.std.specs.Bool.{MatchBool}
use Rattle.std.proofs.lemmas.Option.{get_or_from_slice_get}
use Rattle.tc_model.specs.Symbols.{symbol_count}
use Rattle.tc_mat.specs.Matrix.{Matrix}
use Rattle.tc_mat.specs.Held as mat
use Rattle.tc_rows.specs.Triples.{Triple}
use Rattle.tc_rows.specs.Rows.{HedgeRow, TreeRow, IsHedgeRow, IsTreeRow}
use Rattle.tc_rows.specs.Arithmetic.{IsEmptyRow, IsTextRow, IsTextLive, IsAppend, IsLiveAppend, IsWrap, IsLiveWrap, is_admitted, IsPassing}
use Rattle.tc_rows.specs.Derivations.{IsFailing}
use Rattle.tc_beh.specs.Places.{pairs_of, entries_by, no_matrix}
use Rattle.tc_beh.specs.Rooms.{Layout, hedge_layout, tree_layout, IsRoom, hedge_row, tree_row, outputs_in, output_at}
use Rattle.tc_beh.specs.RoomsOf.{IsRoomOf, IsRoomBeside}
use Rattle.tc_beh.specs.Held.{Extends, Grows, set_at}
use Rattle.tc_beh.specs.Outs.{GrowsBy, IsLeftOut}
use Rattle.tc_beh.specs.Machines.{IsMachineOf}
use Rattle.tc_beh.specs.RowsOf.{AreRowsOf, AreSameRows, StandsForHedge, StandsForTree}
use Rattle.tc_beh.specs.declared.rows.Rows.{Rows}
use Rattle.tc_beh.specs.declared.rooms.Room.{Room}
use Rattle.tc_beh.specs.declared.rooms.HRow.{HRow}
use Rattle.tc_beh.specs.declared.rooms.TRow.{TRow}
use Rattle.tc_settle.specs.Held as settle
use Rattle.tc_settle.specs.Held.{IsNoneAt, IsTextAt, IsAppendAt, IsWrapAt}
use Rattle.tc_close.specs.declared.rooms.Rooms.{Rooms}
use Rattle.tc_close.specs.RowState.{RowState, hedge_at, tree_at, AreGood, Each, Extended, IsMadeHedge, IsMadeTree, AreMadeEntries, IsFullBy, IsFull, held_of}
use Rattle.tc_close.specs.HeldRows.{AreRoomsOf, AreHeld, AreKnown, state_of}
use Rattle.tc_close.specs.declared.appends.Appends.{Appends}
use Rattle.tc_close.specs.declared.kinds.Kinds.{Kinds}
use Rattle.tc_close.proofs.AppendLaws.{told_on}
use Rattle.tc_close.proofs.KindLaws.{true_hedge, true_tree}
use Rattle.tc_rows.proofs.AllLaws.{rows_are_lawful}
use Rattle.tc_close.proofs.Least.{low_or_high}
use Rattle.tc_close.proofs.Growing.{Keeps, entry_in, hedge_on, tree_on, hedge_same, tree_same, stood_on, grows, grows_self}

room_on : (s : Layout) (a b : Room) → IsRoomOf s a → IsRoomBeside a b → IsRoomOf s b
room_on s a b is beside = record { flags = beside.flags ∙ is.flags; entries = beside.entries ∙ is.entries; count = beside.count ∙ is.count }

pub same_room : (r : Room) → IsRoomBeside r r
same_room r = record { flags = refl; entries = refl; count = refl }

pub record Moved (rooms moved : Rooms) : Type 0 where
  pub hedge : IsRoomBeside rooms.hedge.room moved.hedge.room
  pub tree : IsRoomBeside rooms.tree.room moved.tree.room
  pub new_hedge : IsRoomBeside rooms.new_hedge.room moved.new_hedge.room
  pub new_tree : IsRoomBeside rooms.new_tree.room moved.new_tree.room

rooms_on : (x : Triple) (rooms moved : Rooms) → Moved rooms moved → AreRoomsOf x rooms → AreRoomsOf x moved
rooms_on x rooms moved m a = record {
  hedge = room_on (hedge_layout x) rooms.hedge.room moved.hedge.room a.hedge m.hedge;
  tree = room_on (tree_layout x) rooms.tree.room moved.tree.room a.tree m.tree;
  new_hedge = room_on (hedge_layout x) rooms.new_hedge.room moved.new_hedge.room a.new_hedge m.new_hedge;
  new_tree = room_on (tree_layout x) rooms.new_tree.room moved.new_tree.room a.new_tree m.new_tree;
}

-- a set that came on stands in the row
entry_found : (l : Layout) (held : List Matrix) (ns : List ℕ) (k p : ℕ) → IsRoom l held ns → p < l.entries → output_at l.flags ns p ≡ k → Contains (entries_by held (outputs_in l.flags l.entries ns)) (pairs_of (get_or held k no_matrix))
entry_found l held ns k p room low e = subst (λ n. Contains (entries_by held (outputs_in l.flags l.entries ns)) (pairs_of (get_or held n no_matrix))) e (entry_in l held ns p room low)

-- the numbers that were taken are those of the place
pub taken : (lists : List (List ℕ)) (h : ℕ) (ns items : List ℕ) → slice_get lists h ≡ Some ns → items ≡ ns → items ≡ get_or lists h []
taken lists h ns items at e = e ∙ sym (get_or_from_slice_get lists h ns [] at)

pub taken_row : {s a : RowState} → s ≡ a → (lists : RowState → List (List ℕ)) (h : ℕ) → h < length (lists a) → {ns items : List ℕ} → slice_get (lists s) h ≡ Some ns → items ≡ ns → (h < length (lists s)) × (items ≡ get_or (lists s) h [])
taken_row {s} e lists h low {ns} {items} at same = (subst (λ b. h < length (lists b)) (sym e) low, taken (lists s) h ns items at same)

-- rows and rooms before and after a row is worked out
pub record Worked (IsOf : Triple → Type 0) (a : RowState) (r q : Rows) (hedges trees : List (List ℕ)) (rooms moved : Rooms) : Type 0 where
  pub was : AreHeld IsOf r (state_of r hedges trees true) rooms
  pub old : state_of r hedges trees true ≡ a
  pub same : AreSameRows r q
  pub stand : (x : Triple) → AreRowsOf x r → AreRowsOf x q
  pub ext : Extends r.outputs q.outputs
  pub beside : Moved rooms moved

pub worked : {IsOf : Triple → Type 0} {r : Rows} {hedges trees : List (List ℕ)} {rooms : Rooms} {v : Bool} {a : RowState} → v ≡ true → AreHeld IsOf r (state_of r hedges trees v) rooms → state_of r hedges trees v ≡ a → (q : Rows) → AreSameRows r q
    → ((x : Triple) → AreRowsOf x r → AreRowsOf x q) → Extends r.outputs q.outputs → (moved : Rooms) → Moved rooms moved → Worked IsOf a r q hedges trees rooms moved
worked {IsOf} {r} {hedges} {trees} {rooms} {v} {a} whole held is q same stand ext moved beside =
    record { was = subst (λ b. AreHeld IsOf r (state_of r hedges trees b) rooms) whole held; old = subst (λ b. state_of r hedges trees b ≡ a) whole is; same = same; stand = stand; ext = ext; beside = beside }

module _ {IsOf : Triple → Type 0} {a : RowState} {r q : Rows} {hedges trees : List (List ℕ)} {rooms moved : Rooms} (w : Worked IsOf a r q hedges trees rooms moved) where
  abbrev before : RowState
  before = state_of r hedges trees true

  back : (x : Triple) → IsMachineOf x q.machine.now → IsMachineOf x r.machine.now
  back x is = subst (IsMachineOf x) (ap (λ b. b.now) w.same.machine) is

  on : (x : Triple) → IsMachineOf x r.machine.now → IsMachineOf x q.machine.now
  on x is = subst (IsMachineOf x) (sym (ap (λ b. b.now) w.same.machine)) is

  symbols_are : symbol_count q.machine.now.alphabet ≡ symbol_count r.machine.now.alphabet
  symbols_are = ap (λ b. symbol_count b.now.alphabet) w.same.machine

  -- no row came on
  as_it_was : (v : Bool) → Extended before (state_of q hedges trees v)
  as_it_was v = record { symbols = symbols_are; outputs = w.ext; more_hedges = []; hedges = sym (append-nil hedges); more_trees = []; trees = sym (append-nil trees) }

  with_hedge : {after : List (List ℕ)} {n : ℕ} {ns : List ℕ} → Keeps hedges after n ns → Extended before (state_of q after trees true)
  with_hedge keep = record { symbols = symbols_are; outputs = w.ext; more_hedges = keep.more; hedges = keep.all; more_trees = []; trees = sym (append-nil trees) }

  with_tree : {after : List (List ℕ)} {n : ℕ} {ns : List ℕ} → Keeps trees after n ns → Extended before (state_of q hedges after true)
  with_tree keep = record { symbols = symbols_are; outputs = w.ext; more_hedges = []; hedges = sym (append-nil hedges); more_trees = keep.more; trees = keep.all }

  goods : Each IsOf (λ x. AreGood x before)
  goods x o = w.was.good x (w.was.over x o)

  pub grows_as : (v : Bool) → settle.Grows (held_of IsOf a) (held_of IsOf (state_of q hedges trees v))
  grows_as v = subst (λ b. settle.Grows (held_of IsOf b) (held_of IsOf (state_of q hedges trees v))) w.old (grows before (state_of q hedges trees v) (as_it_was v) IsOf goods)

  pub grows_hedge : {after : List (List ℕ)} {n : ℕ} {ns : List ℕ} → Keeps hedges after n ns → settle.Grows (held_of IsOf a) (held_of IsOf (state_of q after trees true))
  grows_hedge {after} keep = subst (λ b. settle.Grows (held_of IsOf b) (held_of IsOf (state_of q after trees true))) w.old (grows before (state_of q after trees true) (with_hedge keep) IsOf goods)

  pub grows_tree : {after : List (List ℕ)} {n : ℕ} {ns : List ℕ} → Keeps trees after n ns → settle.Grows (held_of IsOf a) (held_of IsOf (state_of q hedges after true))
  grows_tree {after} keep = subst (λ b. settle.Grows (held_of IsOf b) (held_of IsOf (state_of q hedges after true))) w.old (grows before (state_of q hedges after true) (with_tree keep) IsOf goods)

  -- what is known of kinds and of appends
  module _ {k : Kinds} {p : Appends} (are : AreKnown IsOf r.outputs hedges trees k p) where
    pub known_as : AreKnown IsOf q.outputs hedges trees k p
    known_as = record { kinds = are.kinds; appends = told_on IsOf before (state_of q hedges trees true) (as_it_was true) goods p are.appends }

    pub known_hedge : {after : List (List ℕ)} {n : ℕ} {ns : List ℕ} → Keeps hedges after n ns → AreKnown IsOf q.outputs after trees k p
    known_hedge {after} {n} {ns} keep = record { kinds = true_hedge IsOf hedges after trees n ns k keep are.kinds; appends = told_on IsOf before (state_of q after trees true) (with_hedge keep) goods p are.appends }

    pub known_tree : {after : List (List ℕ)} {n : ℕ} {ns : List ℕ} → Keeps trees after n ns → AreKnown IsOf q.outputs hedges after k p
    known_tree {after} {n} {ns} keep = record { kinds = true_tree IsOf hedges trees after n ns k keep are.kinds; appends = told_on IsOf before (state_of q hedges after true) (with_tree keep) goods p are.appends }

  -- what holds of all, from what holds of the numbers
  held_with : (s : RowState) → ((x : Triple) → IsMachineOf x r.machine.now → AreGood x s) → AreHeld IsOf q s moved
  held_with s good = record {
    some = w.was.some;
    over = λ x o. on x (w.was.over x o);
    stand = λ x is. w.stand x (w.was.stand x (back x is));
    free = w.same.is_fixed ∙ w.was.free;
    good = λ x is. good x (back x is);
    rooms = λ x is. rooms_on x rooms moved w.beside (w.was.rooms x (back x is));
  }

  pub refused : AreHeld IsOf q (state_of q hedges trees false) moved
  refused = held_with (state_of q hedges trees false) (λ x i.
      let g = w.was.good x i in
      record { hedges = hedge_on before (state_of q hedges trees false) (as_it_was false) x g; trees = tree_on before (state_of q hedges trees false) (as_it_was false) x g; stood = λ v. absurd (cc) })

  pub dead : q.outputs ≡ r.outputs → AreHeld IsOf q (state_of q hedges trees true) moved
  dead none = held_with (state_of q hedges trees true) (λ x i.
      let g = w.was.good x i in
      record {
        hedges = hedge_on before (state_of q hedges trees true) (as_it_was true) x g;
        trees = tree_on before (state_of q hedges trees true) (as_it_was true) x g;
        stood = λ v k low. let l : k < length r.outputs.matrices = subst (λ (h : mat.Held). k < length h.matrices) none low in stood_on before (state_of q hedges trees true) (as_it_was true) x g k l (g.stood v k l);
      })

  -- a list of trees came on, or was there
  module _ {after : List (List ℕ)} {n : ℕ} {ns : List ℕ} (keep : Keeps hedges after n ns) where
    pub hedge_came : ((x : Triple) → AreRowsOf x r → IsRoom (hedge_layout x) q.outputs.matrices ns × IsHedgeRow x (hedge_row x q.outputs.matrices ns))
        → (room : Room) → IsRoomBeside rooms.new_hedge.room room → Grows r.outputs q.outputs (output_at room.flags ns) room.entries → AreHeld IsOf q (state_of q after trees true) moved
    hedge_came row room beside came = held_with (state_of q after trees true) kept
      where
        kept : (x : Triple) → IsMachineOf x r.machine.now → AreGood x (state_of q after trees true)
        kept x i = record {
          hedges = λ u l. elim (keep.either u l) [
            | inl low ↦ hedge_on before (state_of q after trees true) (with_hedge keep) x (w.was.good x i) u low
            | inr e ↦ record {
              room = subst (λ ms. IsRoom (hedge_layout x) q.outputs.matrices ms) (sym (ap (λ v. get_or after v []) e ∙ keep.is)) (row x (w.was.stand x i)).0;
              row = subst (λ ms. IsHedgeRow x (hedge_row x q.outputs.matrices ms)) (sym (ap (λ v. get_or after v []) e ∙ keep.is)) (row x (w.was.stand x i)).1;
            }
          ];
          trees = tree_on before (state_of q after trees true) (with_hedge keep) x (w.was.good x i);
          stood = λ v k low. elim (low_or_high k (length r.outputs.matrices)) [
            | inl l ↦ stood_on before (state_of q after trees true) (with_hedge keep) x (w.was.good x i) k l ((w.was.good x i).stood refl k l)
            | inr h ↦ let (p, few, at) = came.found.each k h low in
                let parted = room_on (hedge_layout x) rooms.new_hedge.room room (w.was.rooms x i).new_hedge beside in
                let is : output_at (hedge_layout x).flags ns p ≡ k = subst (λ v. output_at v ns p ≡ k) parted.flags at in
                inl (
                  n,
                  keep.here,
                  subst (λ ms. Contains (hedge_row x q.outputs.matrices ms).entries (pairs_of (set_at q.outputs k))) (sym keep.is)
                      (entry_found (hedge_layout x) q.outputs.matrices ns k p (row x (w.was.stand x i)).0 (subst (λ v. p < v) parted.entries few) is),
                )
          ];
        }

  -- a tree came on, or was there
  module _ {after : List (List ℕ)} {n : ℕ} {ns : List ℕ} (keep : Keeps trees after n ns) where
    pub tree_came : ((x : Triple) → AreRowsOf x r → IsRoom (tree_layout x) q.outputs.matrices ns × IsTreeRow x (tree_row x q.outputs.matrices ns))
        → (room : Room) → IsRoomBeside rooms.new_tree.room room → Grows r.outputs q.outputs (output_at room.flags ns) room.entries → AreHeld IsOf q (state_of q hedges after true) moved
    tree_came row room beside came = held_with (state_of q hedges after true) kept
      where
        kept : (x : Triple) → IsMachineOf x r.machine.now → AreGood x (state_of q hedges after true)
        kept x i = record {
          hedges = hedge_on before (state_of q hedges after true) (with_tree keep) x (w.was.good x i);
          trees = λ u l. elim (keep.either u l) [
            | inl low ↦ tree_on before (state_of q hedges after true) (with_tree keep) x (w.was.good x i) u low
            | inr e ↦ record {
              room = subst (λ ms. IsRoom (tree_layout x) q.outputs.matrices ms) (sym (ap (λ v. get_or after v []) e ∙ keep.is)) (row x (w.was.stand x i)).0;
              row = subst (λ ms. IsTreeRow x (tree_row x q.outputs.matrices ms)) (sym (ap (λ v. get_or after v []) e ∙ keep.is)) (row x (w.was.stand x i)).1;
            }
          ];
          stood = λ v k low. elim (low_or_high k (length r.outputs.matrices)) [
            | inl l ↦ stood_on before (state_of q hedges after true) (with_tree keep) x (w.was.good x i) k l ((w.was.good x i).stood refl k l)
            | inr h ↦ let (p, few, at) = came.found.each k h low in
                let parted = room_on (tree_layout x) rooms.new_tree.room room (w.was.rooms x i).new_tree beside in
                let is : output_at (tree_layout x).flags ns p ≡ k = subst (λ v. output_at v ns p ≡ k) parted.flags at in
                inr (
                  n,
                  keep.here,
                  subst (λ ms. Contains (tree_row x q.outputs.matrices ms).entries (pairs_of (set_at q.outputs k))) (sym keep.is)
                      (entry_found (tree_layout x) q.outputs.matrices ns k p (row x (w.was.stand x i)).0 (subst (λ v. p < v) parted.entries few) is),
                )
          ];
        }

  -- no further set can be held
  module _ (x : Triple) (o : IsOf x) where
    good : AreGood x before
    good = goods x o

    abbrev after_all : RowState
    after_all = state_of q hedges trees false

    made_hedge_on : (u : HedgeRow) → IsMadeHedge x before u → IsMadeHedge x after_all u
    made_hedge_on u (inl e) = inl e
    made_hedge_on u (inr (h, t, lh, lt, live, app)) =
        let App : HedgeRow → TreeRow → Type 0 = λ p v. IsLiveAppend x p v × IsAppend x p v u in
        let both : App (hedge_at x after_all h) (tree_at x after_all t) =
        subst (λ p. App p (tree_at x after_all t)) (sym (hedge_same before after_all (as_it_was false) x good h lh)) (subst (λ v. App (hedge_at x before h) v) (sym (tree_same before after_all (as_it_was false) x good t lt)) (live, app)) in
        inr (h, t, lh, lt, both.0, both.1)

    made_tree_on : (u : TreeRow) → IsMadeTree x before u → IsMadeTree x after_all u
    made_tree_on u (inl e) = inl e
    made_tree_on u (inr (a, h, la, lh, live, v)) =
        let Wrap : HedgeRow → Type 0 = λ p. IsLiveWrap x a p × IsWrap x a p u in
        let both : Wrap (hedge_at x after_all h) = subst Wrap (sym (hedge_same before after_all (as_it_was false) x good h lh)) (live, v) in
        inr (a, h, la, lh, both.0, both.1)

    full_by : (es : List (List (ℕ × ℕ))) → AreMadeEntries x after_all es → GrowsBy r.outputs q.outputs es → IsLeftOut q.outputs es → IsFullBy x after_all
    full_by es made by left = record {
      entries = es;
      made = made;
      left = left;
      stood = λ k low. elim (low_or_high k (length r.outputs.matrices)) [
        | inl l ↦ inl (stood_on before after_all (as_it_was false) x good k l (good.stood refl k l))
        | inr h ↦ inr (by.found k h low)
      ];
    }

    full_by_hedge : (u : HedgeRow) → IsMadeHedge x before u → GrowsBy r.outputs q.outputs u.entries × IsLeftOut q.outputs u.entries → IsFullBy x after_all
    full_by_hedge u made (by, left) = full_by u.entries (inl (u, made_hedge_on u made, refl)) by left

    full_by_tree : (u : TreeRow) → IsMadeTree x before u → GrowsBy r.outputs q.outputs u.entries × IsLeftOut q.outputs u.entries → IsFullBy x after_all
    full_by_tree u made (by, left) = full_by u.entries (inr (u, made_tree_on u made, refl)) by left

  stand_of : (x : Triple) → IsOf x → AreRowsOf x r
  stand_of x o = w.was.stand x (w.was.over x o)

  -- by the row of no tree
  pub full_none : length q.outputs.matrices ≡ 65536 → ((x : Triple) (u : HedgeRow) → AreRowsOf x r → IsEmptyRow x u → GrowsBy r.outputs q.outputs u.entries × IsLeftOut q.outputs u.entries) → IsFull IsOf (state_of q hedges trees false)
  full_none count partly =
      (count, λ x o. let (u, e) = (rows_are_lawful x (w.was.over x o).parts.are_rules.triple).there.empty in full_by_hedge x o u (inl e) (partly x u (stand_of x o) e))

  pub full_text : length q.outputs.matrices ≡ 65536 → ((x : Triple) → AreRowsOf x r → IsTextLive x) → ((x : Triple) (u : TreeRow) → AreRowsOf x r → IsTextRow x u → GrowsBy r.outputs q.outputs u.entries × IsLeftOut q.outputs u.entries)
      → IsFull IsOf (state_of q hedges trees false)
  full_text count live partly =
      (count, λ x o. let (u, e) = (rows_are_lawful x (w.was.over x o).parts.are_rules.triple).there.text in full_by_tree x o u (inl (live x (stand_of x o), e)) (partly x u (stand_of x o) e))

  -- rows that are taken by their numbers
  module _ (h : ℕ) (lh : h < length hedges) {hn : List ℕ} (eh : hn ≡ get_or hedges h []) where
    abbrev hedge : Triple → HedgeRow
    hedge x = hedge_row x r.outputs.matrices hn

    hedge_is : (x : Triple) → hedge x ≡ hedge_at x before h
    hedge_is x = ap (λ ns. hedge_row x r.outputs.matrices ns) eh

    module _ (t : ℕ) (lt : t < length trees) {tn : List ℕ} (et : tn ≡ get_or trees t []) where
      abbrev tree : Triple → TreeRow
      tree x = tree_row x r.outputs.matrices tn

      tree_is : (x : Triple) → tree x ≡ tree_at x before t
      tree_is x = ap (λ ns. tree_row x r.outputs.matrices ns) et

      pub full_append : length q.outputs.matrices ≡ 65536 → ((x : Triple) → AreRowsOf x r → IsLiveAppend x (hedge x) (tree x))
          → ((x : Triple) (u : HedgeRow) → AreRowsOf x r → IsAppend x (hedge x) (tree x) u → GrowsBy r.outputs q.outputs u.entries × IsLeftOut q.outputs u.entries) → IsFull IsOf (state_of q hedges trees false)
      full_append count live partly = (count, λ x o. by x o)
        where
          by : (x : Triple) → IsOf x → IsFullBy x (state_of q hedges trees false)
          by x o =
              let g = goods x o in
              let (u, e) = (rows_are_lawful x (w.was.over x o).parts.are_rules.triple).there.appended (hedge_at x before h) (tree_at x before t) (g.hedges h lh).row (g.trees t lt).row in
              let App : HedgeRow → TreeRow → Type 0 = λ p v. IsAppend x p v u in
              let made : App (hedge x) (tree x) = subst (λ p. App p (tree x)) (sym (hedge_is x)) (subst (λ v. App (hedge_at x before h) v) (sym (tree_is x)) e) in
              let alive : IsLiveAppend x (hedge_at x before h) (tree_at x before t) = subst (λ p. IsLiveAppend x p (tree_at x before t)) (hedge_is x) (subst (λ v. IsLiveAppend x (hedge x) v) (tree_is x) (live x (stand_of x o))) in
              full_by_hedge x o u (inr (h, t, lh, lt, alive, e)) (partly x u (stand_of x o) made)

      pub dead_append : q.outputs ≡ r.outputs → ((x : Triple) → AreRowsOf x r → IsLiveAppend x (hedge x) (tree x) → ⊥) → (held_of IsOf (state_of q hedges trees true)).no_append h t
      dead_append none nay x o =
          subst (λ (m : mat.Held). IsLiveAppend x (hedge_row x m.matrices (get_or hedges h [])) (tree_row x m.matrices (get_or trees t [])) → ⊥) (sym none)
          (subst (λ p. IsLiveAppend x p (tree_at x before t) → ⊥) (hedge_is x) (subst (λ v. IsLiveAppend x (hedge x) v → ⊥) (tree_is x) (nay x (stand_of x o))))

      pub made_append : {after : List (List ℕ)} {n : ℕ} {ns : List ℕ} → Keeps hedges after n ns → ((x : Triple) → AreRowsOf x r → IsLiveAppend x (hedge x) (tree x))
          → ((x : Triple) → AreRowsOf x r → IsAppend x (hedge x) (tree x) (hedge_row x q.outputs.matrices ns)) → IsAppendAt (held_of IsOf (state_of q after trees true)) h t n
      made_append {after} {n} {ns} keep live app = (keep.here, λ x o. by x o)
        where
          by : (x : Triple) → IsOf x → IsLiveAppend x (hedge_at x (state_of q after trees true) h) (tree_at x (state_of q after trees true) t) × IsAppend x (hedge_at x (state_of q after trees true) h) (tree_at x (state_of q after trees true) t) (hedge_at x (state_of q after trees true) n)
          by x o =
              let App : HedgeRow → TreeRow → HedgeRow → Type 0 = λ p v u. IsLiveAppend x p v × IsAppend x p v u in
              let new = state_of q after trees true in
              let eh2 : hedge x ≡ hedge_at x new h = hedge_is x ∙ sym (hedge_same before new (with_hedge keep) x (goods x o) h lh) in
              let et2 : tree x ≡ tree_at x new t = tree_is x ∙ sym (tree_same before new (with_hedge keep) x (goods x o) t lt) in
              let eu : hedge_row x q.outputs.matrices ns ≡ hedge_at x new n = ap (λ ms. hedge_row x q.outputs.matrices ms) (sym keep.is) in
              subst (λ p. App p (tree_at x new t) (hedge_at x new n)) eh2 (subst (λ v. App (hedge x) v (hedge_at x new n)) et2 (subst (λ u. App (hedge x) (tree x) u) eu (live x (stand_of x o), app x (stand_of x o))))

    pub full_wrap : (a : ℕ) → a < symbol_count r.machine.now.alphabet → length q.outputs.matrices ≡ 65536 → ((x : Triple) → AreRowsOf x r → IsLiveWrap x a (hedge x))
        → ((x : Triple) (u : TreeRow) → AreRowsOf x r → IsWrap x a (hedge x) u → GrowsBy r.outputs q.outputs u.entries × IsLeftOut q.outputs u.entries) → IsFull IsOf (state_of q hedges trees false)
    full_wrap a la count live partly = (count, λ x o. by x o)
      where
        by : (x : Triple) → IsOf x → IsFullBy x (state_of q hedges trees false)
        by x o =
            let g = goods x o in
            let m = w.was.over x o in
            let (u, e) = (rows_are_lawful x m.parts.are_rules.triple).there.wrapped a (hedge_at x before h) (g.hedges h lh).row in
            let made : IsWrap x a (hedge x) u = subst (λ p. IsWrap x a p u) (sym (hedge_is x)) e in
            let alive : IsLiveWrap x a (hedge_at x before h) = subst (λ p. IsLiveWrap x a p) (hedge_is x) (live x (stand_of x o)) in
            let few : a < symbol_count x.symbols = subst (λ symbols. a < symbol_count symbols) m.parts.same_symbols la in
            full_by_tree x o u (inr (a, h, few, lh, alive, e)) (partly x u (stand_of x o) made)

    pub dead_wrap : (a : ℕ) → q.outputs ≡ r.outputs → ((x : Triple) → AreRowsOf x r → IsLiveWrap x a (hedge x) → ⊥) → (held_of IsOf (state_of q hedges trees true)).no_wrap a h
    dead_wrap a none nay x o = subst (λ (m : mat.Held). IsLiveWrap x a (hedge_row x m.matrices (get_or hedges h [])) → ⊥) (sym none) (subst (λ p. IsLiveWrap x a p → ⊥) (hedge_is x) (nay x (stand_of x o)))

    pub made_wrap : (a : ℕ) {after : List (List ℕ)} {n : ℕ} {ns : List ℕ} → Keeps trees after n ns → ((x : Triple) → AreRowsOf x r → IsLiveWrap x a (hedge x))
        → ((x : Triple) → AreRowsOf x r → IsWrap x a (hedge x) (tree_row x q.outputs.matrices ns)) → IsWrapAt (held_of IsOf (state_of q hedges after true)) a h n
    made_wrap a {after} {n} {ns} keep live app = (keep.here, λ x o. by x o)
      where
        by : (x : Triple) → IsOf x → IsLiveWrap x a (hedge_at x (state_of q hedges after true) h) × IsWrap x a (hedge_at x (state_of q hedges after true) h) (tree_at x (state_of q hedges after true) n)
        by x o =
            let Wrap : HedgeRow → TreeRow → Type 0 = λ p u. IsLiveWrap x a p × IsWrap x a p u in
            let new = state_of q hedges after true in
            let eh2 : hedge x ≡ hedge_at x new h = hedge_is x ∙ sym (hedge_same before new (with_tree keep) x (goods x o) h lh) in
            let eu : tree_row x q.outputs.matrices ns ≡ tree_at x new n = ap (λ ms. tree_row x q.outputs.matrices ms) (sym keep.is) in
            subst (λ p. Wrap p (tree_at x new n)) eh2 (subst (λ u. Wrap (hedge x) u) eu (live x (stand_of x o), app x (stand_of x o)))

  pub made_none : {after : List (List ℕ)} {n : ℕ} {ns : List ℕ} → Keeps hedges after n ns → ((x : Triple) → AreRowsOf x r → IsEmptyRow x (hedge_row x q.outputs.matrices ns)) → IsNoneAt (held_of IsOf (state_of q after trees true)) n
  made_none {after} {n} {ns} keep row = (keep.here, λ x o. subst (λ ms. IsEmptyRow x (hedge_row x q.outputs.matrices ms)) (sym keep.is) (row x (stand_of x o)))

  pub made_text : {after : List (List ℕ)} {n : ℕ} {ns : List ℕ} → Keeps trees after n ns → ((x : Triple) → AreRowsOf x r → IsTextLive x) → ((x : Triple) → AreRowsOf x r → IsTextRow x (tree_row x q.outputs.matrices ns))
      → IsTextAt (held_of IsOf (state_of q hedges after true)) n
  made_text {after} {n} {ns} keep live row = (keep.here, λ x o. (live x (stand_of x o), subst (λ ms. IsTextRow x (tree_row x q.outputs.matrices ms)) (sym keep.is) (row x (stand_of x o))))

-- what a call of rows wants
module _ {IsOf : Triple → Type 0} {r : Rows} {hedges trees : List (List ℕ)} {v : Bool} {rooms : Rooms} (was : AreHeld IsOf r (state_of r hedges trees v) rooms) where
  pub are_rows : (x : Triple) × AreRowsOf x r
  are_rows = let (x, o) = was.some in (x, was.stand x (was.over x o))

  pub hedge_fits : (h : ℕ) (ns : List ℕ) → slice_get hedges h ≡ Some ns → h < length hedges → length ns ≡ length rooms.hedge.room.numbers.items
  hedge_fits h ns at low =
      let (x, o) = was.some in
      let m = was.over x o in
      let room = ((was.good x m).hedges h low).room in
      let e : get_or hedges h [] ≡ ns = get_or_from_slice_get hedges h ns [] at in
      sym (ap length e) ∙ (room.count ∙ sym (was.rooms x m).hedge.count)

  pub tree_fits : (t : ℕ) (ns : List ℕ) → slice_get trees t ≡ Some ns → t < length trees → length ns ≡ length rooms.tree.room.numbers.items
  tree_fits t ns at low =
      let (x, o) = was.some in
      let m = was.over x o in
      let room = ((was.good x m).trees t low).room in
      let e : get_or trees t [] ≡ ns = get_or_from_slice_get trees t ns [] at in
      sym (ap length e) ∙ (room.count ∙ sym (was.rooms x m).tree.count)

  pub hedge_stands : (h : ℕ) (room : HRow) → h < length hedges → IsRoomBeside rooms.hedge.room room.room → room.room.numbers.items ≡ get_or hedges h [] → (x : Triple) → AreRowsOf x r → StandsForHedge x r room
  hedge_stands h room low beside e x is = record {
    parted = room_on (hedge_layout x) rooms.hedge.room room.room (was.rooms x is.machine).hedge beside;
    numbers = subst (λ ns. IsRoom (hedge_layout x) r.outputs.matrices ns) (sym e) ((was.good x is.machine).hedges h low).room;
  }

  pub tree_stands : (t : ℕ) (room : TRow) → t < length trees → IsRoomBeside rooms.tree.room room.room → room.room.numbers.items ≡ get_or trees t [] → (x : Triple) → AreRowsOf x r → StandsForTree x r room
  tree_stands t room low beside e x is = record {
    parted = room_on (tree_layout x) rooms.tree.room room.room (was.rooms x is.machine).tree beside;
    numbers = subst (λ ns. IsRoom (tree_layout x) r.outputs.matrices ns) (sym e) ((was.good x is.machine).trees t low).room;
  }

  pub new_hedge_parted : (x : Triple) → AreRowsOf x r → IsRoomOf (hedge_layout x) rooms.new_hedge.room
  new_hedge_parted x is = (was.rooms x is.machine).new_hedge

  pub new_tree_parted : (x : Triple) → AreRowsOf x r → IsRoomOf (tree_layout x) rooms.new_tree.room
  new_tree_parted x is = (was.rooms x is.machine).new_tree

  pub low_symbol : (a : ℕ) → a < symbol_count r.machine.now.alphabet → (x : Triple) → AreRowsOf x r → a < symbol_count x.symbols
  low_symbol a l x is = subst (λ symbols. a < symbol_count symbols) is.machine.parts.same_symbols l

-- a row that is tested, and nothing comes on
module _ {IsOf : Triple → Type 0} {r : Rows} {hedges trees : List (List ℕ)} {v : Bool} {rooms : Rooms} (was : AreHeld IsOf r (state_of r hedges trees v) rooms) (q : Rows) (same : AreSameRows r q) (stand : (x : Triple) → AreRowsOf x r → AreRowsOf x q)
    (none : q.outputs ≡ r.outputs) where
  same_state : state_of q hedges trees v ≡ state_of r hedges trees v
  same_state =
      let With : ℕ → mat.Held → RowState = λ n o. record { symbols = n; outputs = o; hedges = hedges; trees = trees; is_whole = v } in
      ap (λ n. With n q.outputs) (ap (λ b. symbol_count b.now.alphabet) same.machine) ∙ ap (With (symbol_count r.machine.now.alphabet)) none

  pub tested : (moved : Rooms) → Moved rooms moved → AreHeld IsOf q (state_of q hedges trees v) moved
  tested moved m = record {
    some = was.some;
    over = λ x o. subst (IsMachineOf x) (sym (ap (λ b. b.now) same.machine)) (was.over x o);
    stand = λ x is. stand x (was.stand x (subst (IsMachineOf x) (ap (λ b. b.now) same.machine) is));
    free = same.is_fixed ∙ was.free;
    good = λ x is. subst (AreGood x) (sym same_state) (was.good x (subst (IsMachineOf x) (ap (λ b. b.now) same.machine) is));
    rooms = λ x is. rooms_on x rooms moved m (was.rooms x (subst (IsMachineOf x) (ap (λ b. b.now) same.machine) is));
  }

  pub same_rows : (a : RowState) → state_of r hedges trees v ≡ a → settle.SameRows (held_of IsOf a) (held_of IsOf (state_of q hedges trees v))
  same_rows a e =
      let all : state_of q hedges trees v ≡ a = same_state ∙ e in (
        subst (λ s. settle.Grows (held_of IsOf a) (held_of IsOf s)) (sym all) (grows_self (held_of IsOf a)),
        subst (λ s. settle.Grows (held_of IsOf s) (held_of IsOf a)) (sym all) (grows_self (held_of IsOf a)),
      )

module _ {IsOf : Triple → Type 0} {r : Rows} {hedges trees : List (List ℕ)} {v : Bool} {rooms : Rooms} (was : AreHeld IsOf r (state_of r hedges trees v) rooms) (a : RowState) (e : state_of r hedges trees v ≡ a) (t : ℕ) (items : List ℕ)
    (et : items ≡ get_or trees t []) where
  abbrev row : Triple → TreeRow
  row x = tree_row x r.outputs.matrices items

  row_is : (x : Triple) → row x ≡ tree_at x a t
  row_is x = ap (λ ns. tree_row x r.outputs.matrices ns) et ∙ ap (λ s. tree_at x s t) e

  of_rows : (x : Triple) → IsOf x → AreRowsOf x r
  of_rows x o = was.stand x (was.over x o)

  abbrev Fails : Type 0
  Fails = Each IsOf (λ x. IsFailing x (tree_at x a t))

  abbrev Passes : Type 0
  Passes = Each IsOf (λ x. IsTrue (is_admitted x (tree_at x a t)) → IsPassing x (tree_at x a t))

  pub passes_or_fails : (ok : Bool) → ((x : Triple) → AreRowsOf x r → IsTrue ok ↔ IsPassing x (row x)) → (admitted : Bool) → admitted ≡ true → ((x : Triple) → AreRowsOf x r → admitted ≡ is_admitted x (row x)) → MatchBool (not ok) Fails Passes
  passes_or_fails true pass admitted is adm = λ x o y. subst (IsPassing x) (row_is x) ((pass x (of_rows x o)).0 refl)
  passes_or_fails false pass admitted is adm = λ x o. subst (IsFailing x) (row_is x) (sym (adm x (of_rows x o)) ∙ is, λ p. let f : false ≡ true = (pass x (of_rows x o)).1 p in absurd (cc))

  pub not_admitted : (admitted : Bool) → admitted ≡ false → ((x : Triple) → AreRowsOf x r → admitted ≡ is_admitted x (row x)) → MatchBool admitted Fails Passes
  not_admitted true is adm = absurd (cc)
  not_admitted false is adm = λ x o y. let i : false ≡ is_admitted x (tree_at x a t) = adm x (of_rows x o) ∙ ap (is_admitted x) (row_is x) in absurd (cc)
