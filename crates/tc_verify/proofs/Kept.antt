-- What holds of the rows of a certificate goes on holding while they are checked, and what is found of rooms holds of the listing.
use Rattle.std.proofs.Common.{◌≡◌, ◌<◌, ◌↔◌, ℕ, zero, suc, List, [], ◌∷◌, length, get_or, map, Bool, true, false, IsTrue, slice_get, Some, Option, option_map, subst, sym, ap, ◌∙◌, refl, arith}
use Rattle.std.specs.Bool.{MatchBool}
use Rattle.std.specs.List.{Contains, All}
use Rattle.std.proofs.lemmas.List.{length-map}
use Rattle.std.proofs.lemmas.List.Elements.{All-contains}
use Rattle.std.proofs.lemmas.Option.{slice_get-map, slice_get-get_or}
use Rattle.tc_model.specs.Symbols.{symbol_count}
use Rattle.tc_mat.specs.Held.{Held, AreDifferent}
use Rattle.tc_rows.specs.Triples.{Triple}
use Rattle.tc_rows.specs.Rows.{HedgeRow, TreeRow, IsHedgeRow, IsTreeRow}
use Rattle.tc_beh.specs.Machines.{IsMachine, IsMachineOf}
use Rattle.tc_beh.specs.Rooms.{Layout, hedge_layout, tree_layout, IsRoom, hedge_row, tree_row}
use Rattle.tc_beh.specs.RoomsOf.{IsRoomOf, IsRoomBeside}
use Rattle.tc_beh.specs.RowsOf.{AreRows, AreRowsOf, AreSameRows, StandsForHedge, StandsForTree, hedge_of, tree_of}
use Rattle.tc_beh.specs.declared.rows.Rows.{Rows}
use Rattle.tc_beh.specs.declared.rooms.Room.{Room}
use Rattle.tc_beh.specs.declared.rooms.HRow.{HRow}
use Rattle.tc_beh.specs.declared.rooms.TRow.{TRow}
use Rattle.tc_beh.specs.declared.machine.Machine.{Machine}
use Rattle.tc_verify.specs.Rules.{IsEmptyListed, IsTextListed, IsAppendListed, IsWrapListed, IsGood, AppendIsListed, WrapIsListed, RootIsGood}
use Rattle.tc_verify.specs.Listings.{Listing, hedge_rows, tree_rows, EmptyHolds, EmptyBreaks, TextHolds, TextBreaks, AppendHolds, AppendBreaks, WrapHolds, WrapBreaks, RootHolds, RootBreaks}
use Rattle.tc_verify.specs.Rooms.{HedgeStands, TreeStands, hedge_numbers, tree_numbers}
use Rattle.tc_verify.specs.Checkers.{IsChecker, listing_of}
use Rattle.tc_verify.proofs.Listed.{in_map, mapped}

pub room_on : (s : Layout) (a b : Room) → IsRoomOf s a → IsRoomBeside a b → IsRoomOf s b
room_on s a b is beside = record { flags = beside.flags ∙ is.flags; entries = beside.entries ∙ is.entries; count = beside.count ∙ is.count }

pub same_room : (r : Room) → IsRoomBeside r r
same_room r = record { flags = refl; entries = refl; count = refl }

pub contains_at : {A : Type 0} (xs : List A) (i : ℕ) (y : A) → slice_get xs i ≡ Some y → Contains xs y
contains_at [] i y e = cc
contains_at (x ∷ xs) zero y e = (0, omega arith, cc)
contains_at (x ∷ xs) (suc i) y e = let (j, low, at) = contains_at xs i y e in (suc j, omega (arith, low), at)

pub hedge_at : (hs : List HRow) (i : ℕ) (h : HRow) → i < length (hedge_numbers hs) → h ≡ get_or hs i h → slice_get hs i ≡ Some h
hedge_at hs i h low e = slice_get-get_or hs i h (subst (λ n. i < n) (length-map hs (λ (g : HRow). g.room.numbers.items)) low) ∙ ap Some (sym e)

pub tree_at : (ts : List TRow) (i : ℕ) (t : TRow) → i < length (tree_numbers ts) → t ≡ get_or ts i t → slice_get ts i ≡ Some t
tree_at ts i t low e = slice_get-get_or ts i t (subst (λ n. i < n) (length-map ts (λ (g : TRow). g.room.numbers.items)) low) ∙ ap Some (sym e)

got_map : {A B : Type 0} (f : A → B) (xs : List A) (i : ℕ) (y : A) → slice_get xs i ≡ Some y → slice_get (map f xs) i ≡ Some (f y)
got_map f xs i y e = slice_get-map f xs i ∙ ap (option_map f) e

one_some : {A : Type 0} (o : Option A) (u v : A) → o ≡ Some u → o ≡ Some v → u ≡ v
one_some o u v a b = cc

-- lists of the same members, mapped
as_many : {R : Type 0} (row : List ℕ → R) (xs ys : List (List ℕ)) → ((ns : List ℕ) → Contains xs ns → Contains ys ns) → (u : R) → Contains (map row xs) u → Contains (map row ys) u
as_many row xs ys on u c = let (ns, inside, e) = mapped row xs u c in subst (Contains (map row ys)) e (in_map row ys ns (on ns inside))

decide : (b : Bool) (M P : Triple → Type 0) → ((x : Triple) → M x → IsTrue b ↔ P x) → MatchBool b ((x : Triple) → M x → P x) ((x : Triple) → M x → ¬ P x)
decide true M P f = λ x m. (f x m).0 refl
decide false M P f = λ x m p. let t = (f x m).1 p in cc

module _ {r : Rows} {hs : List HRow} {ts : List TRow} {hl tl : List (List ℕ)} {nh : HRow} {nt : TRow} (is : IsChecker r hs ts hl tl nh nt) where
  pub are_rows : AreRows r
  are_rows = let (x, m) = is.some in (x, is.stand x m)

  pub hedges_in : (x : Triple) (ns : List ℕ) → AreRowsOf x r → Contains hl ns → IsRoom (hedge_layout x) r.outputs.matrices ns
  hedges_in x ns a c =
      let (h, inside, e) = mapped (λ (h : HRow). h.room.numbers.items) hs ns ((is.held_hedges ns).0 c) in
      subst (IsRoom (hedge_layout x) r.outputs.matrices) e (All-contains (HedgeStands x r.outputs) hs h (is.hedges_stand x a.machine) inside).numbers

  pub trees_in : (x : Triple) (ns : List ℕ) → AreRowsOf x r → Contains tl ns → IsRoom (tree_layout x) r.outputs.matrices ns
  trees_in x ns a c =
      let (t, inside, e) = mapped (λ (t : TRow). t.room.numbers.items) ts ns ((is.held_trees ns).0 c) in
      subst (IsRoom (tree_layout x) r.outputs.matrices) e (All-contains (TreeStands x r.outputs) ts t (is.trees_stand x a.machine) inside).numbers

  pub hedge_room : (x : Triple) → AreRowsOf x r → IsRoomOf (hedge_layout x) nh.room
  hedge_room x a = is.room x a.machine

  pub tree_room : (x : Triple) → AreRowsOf x r → IsRoomOf (tree_layout x) nt.room
  tree_room x a = is.tree_room x a.machine

  pub low_symbol : (x : Triple) → AreRowsOf x r → (a : ℕ) → a < symbol_count r.machine.now.alphabet → a < symbol_count x.symbols
  low_symbol x a s low = subst (λ n. s < n) (ap symbol_count a.machine.parts.same_symbols) low

  pub hedge_stands : (i : ℕ) (h : HRow) → slice_get hs i ≡ Some h → (x : Triple) → AreRowsOf x r → StandsForHedge x r h × IsHedgeRow x (hedge_of x r h)
  hedge_stands i h e x a =
      let s = All-contains (HedgeStands x r.outputs) hs h (is.hedges_stand x a.machine) (contains_at hs i h e) in
      (record { parted = s.parted; numbers = s.numbers }, s.row)

  pub tree_stands : (i : ℕ) (t : TRow) → slice_get ts i ≡ Some t → (x : Triple) → AreRowsOf x r → StandsForTree x r t × IsTreeRow x (tree_of x r t)
  tree_stands i t e x a =
      let s = All-contains (TreeStands x r.outputs) ts t (is.trees_stand x a.machine) (contains_at ts i t e) in
      (record { parted = s.parted; numbers = s.numbers }, s.row)

  -- where a row was worked out
  module _ (q : Rows) (same : AreSameRows r q) (stand : (x : Triple) → AreRowsOf x r → AreRowsOf x q) (sets : q.outputs ≡ r.outputs) where
    machine_is : q.machine.now ≡ r.machine.now
    machine_is = ap (λ b. b.now) same.machine

    back : (x : Triple) → IsMachineOf x q.machine.now → IsMachineOf x r.machine.now
    back x m = subst (IsMachineOf x) machine_is m

    pub stays : (mh : HRow) (mt : TRow) → IsRoomBeside nh.room mh.room → IsRoomBeside nt.room mt.room → IsChecker q hs ts hl tl mh mt
    stays mh mt h t = record {
      some = subst IsMachine (sym machine_is) is.some;
      stand = λ x m. stand x (is.stand x (back x m));
      fixed = same.is_fixed ∙ is.fixed;
      different = subst AreDifferent (sym sets) is.different;
      few_hedges = is.few_hedges;
      few_trees = is.few_trees;
      hedges_stand = λ x m. subst (λ (o : Held). All (HedgeStands x o) hs) (sym sets) (is.hedges_stand x (back x m));
      trees_stand = λ x m. subst (λ (o : Held). All (TreeStands x o) ts) (sym sets) (is.trees_stand x (back x m));
      held_hedges = is.held_hedges;
      held_trees = is.held_trees;
      room = λ x m. room_on (hedge_layout x) nh.room mh.room (is.room x (back x m)) h;
      tree_room = λ x m. room_on (tree_layout x) nt.room mt.room (is.tree_room x (back x m)) t;
    }

    pub same_listing : (l : Listing) → listing_of r hs ts ≡ l → listing_of q hs ts ≡ l
    same_listing l e =
        let With : Machine → Held → Listing = λ m o. record { machine = m; sets = o; hedges = hedge_numbers hs; trees = tree_numbers ts } in
        ap (λ m. With m q.outputs) machine_is ∙ (ap (With r.machine.now) sets ∙ e)

  abbrev here : Listing
  here = listing_of r hs ts

  module _ (l : Listing) (e : here ≡ l) (b : Bool) where
    pub empty_exact : ((x : Triple) → AreRowsOf x r → IsTrue b ↔ IsEmptyListed x (map (hedge_row x r.outputs.matrices) hl)) → MatchBool b (EmptyHolds l) (EmptyBreaks l)
    unfolding EmptyHolds EmptyBreaks
    empty_exact f =
        subst (λ k. MatchBool b (EmptyHolds k) (EmptyBreaks k)) e
        (decide b (λ x. IsMachineOf x r.machine.now) (λ x. IsEmptyListed x (hedge_rows here x)) (λ x m.
        let i = f x (is.stand x m) in
        let row : List ℕ → HedgeRow = hedge_row x r.outputs.matrices in
        (λ t u made. as_many row hl here.hedges (λ ns. (is.held_hedges ns).0) u (i.0 t u made), λ all. i.1 (λ u made. as_many row here.hedges hl (λ ns. (is.held_hedges ns).1) u (all u made)))))

    pub text_exact : ((x : Triple) → AreRowsOf x r → IsTrue b ↔ IsTextListed x (map (tree_row x r.outputs.matrices) tl)) → MatchBool b (TextHolds l) (TextBreaks l)
    unfolding TextHolds TextBreaks
    text_exact f =
        subst (λ k. MatchBool b (TextHolds k) (TextBreaks k)) e
        (decide b (λ x. IsMachineOf x r.machine.now) (λ x. IsTextListed x (tree_rows here x)) (λ x m.
        let i = f x (is.stand x m) in
        let row : List ℕ → TreeRow = tree_row x r.outputs.matrices in
        (λ t live u made. as_many row tl here.trees (λ ns. (is.held_trees ns).0) u (i.0 t live u made), λ all. i.1 (λ live u made. as_many row here.trees tl (λ ns. (is.held_trees ns).1) u (all live u made)))))

    hedge_got : (i : ℕ) (h : HRow) → slice_get hs i ≡ Some h → (x : Triple) → slice_get (hedge_rows here x) i ≡ Some (hedge_of x r h)
    hedge_got i h at x = got_map (hedge_row x r.outputs.matrices) here.hedges i h.room.numbers.items (got_map (λ (g : HRow). g.room.numbers.items) hs i h at)

    tree_got : (j : ℕ) (t : TRow) → slice_get ts j ≡ Some t → (x : Triple) → slice_get (tree_rows here x) j ≡ Some (tree_of x r t)
    tree_got j t at x = got_map (tree_row x r.outputs.matrices) here.trees j t.room.numbers.items (got_map (λ (g : TRow). g.room.numbers.items) ts j t at)

    pub append_exact : (i j : ℕ) (h : HRow) (t : TRow) → slice_get hs i ≡ Some h → slice_get ts j ≡ Some t
        → ((x : Triple) → AreRowsOf x r → IsTrue b ↔ IsAppendListed x (map (hedge_row x r.outputs.matrices) hl) (hedge_of x r h) (tree_of x r t)) → MatchBool b (AppendHolds l i j) (AppendBreaks l i j)
    unfolding AppendHolds AppendBreaks
    append_exact i j h t at there f =
        subst (λ k. MatchBool b (AppendHolds k i j) (AppendBreaks k i j)) e
        (decide b (λ x. IsMachineOf x r.machine.now) (λ x. AppendIsListed x (tree_rows here x) (hedge_rows here x) i j) (λ x m.
        let o = f x (is.stand x m) in
        let row : List ℕ → HedgeRow = hedge_row x r.outputs.matrices in
        let a = hedge_got i h at x in
        let c = tree_got j t there x in
        let listed : IsTrue b → IsAppendListed x (hedge_rows here x) (hedge_of x r h) (tree_of x r t) = λ y live u made. as_many row hl here.hedges (λ ns. (is.held_hedges ns).0) u (o.0 y live u made) in (
          λ y g s p v. subst (λ k. IsAppendListed x (hedge_rows here x) k s) (one_some (slice_get (hedge_rows here x) i) (hedge_of x r h) g a p)
              (subst (λ k. IsAppendListed x (hedge_rows here x) (hedge_of x r h) k) (one_some (slice_get (tree_rows here x) j) (tree_of x r t) s c v) (listed y)),
          λ all. o.1 (λ live u made. as_many row here.hedges hl (λ ns. (is.held_hedges ns).1) u (all (hedge_of x r h) (tree_of x r t) a c live u made)),
        )))

    pub wrap_exact : (i s : ℕ) (h : HRow) → slice_get hs i ≡ Some h
        → ((x : Triple) → AreRowsOf x r → IsTrue b ↔ IsWrapListed x (map (tree_row x r.outputs.matrices) tl) s (hedge_of x r h)) → MatchBool b (WrapHolds l i s) (WrapBreaks l i s)
    unfolding WrapHolds WrapBreaks
    wrap_exact i s h at f =
        subst (λ k. MatchBool b (WrapHolds k i s) (WrapBreaks k i s)) e
        (decide b (λ x. IsMachineOf x r.machine.now) (λ x. WrapIsListed x (tree_rows here x) (hedge_rows here x) i s) (λ x m.
        let o = f x (is.stand x m) in
        let row : List ℕ → TreeRow = tree_row x r.outputs.matrices in
        let a = hedge_got i h at x in
        let listed : IsTrue b → IsWrapListed x (tree_rows here x) s (hedge_of x r h) = λ y live u made. as_many row tl here.trees (λ ns. (is.held_trees ns).0) u (o.0 y live u made) in (
          λ y g p. subst (λ k. IsWrapListed x (tree_rows here x) s k) (one_some (slice_get (hedge_rows here x) i) (hedge_of x r h) g a p) (listed y),
          λ all. o.1 (λ live u made. as_many row here.trees tl (λ ns. (is.held_trees ns).1) u (all (hedge_of x r h) a live u made)),
        )))

    pub root_exact : (j : ℕ) (t : TRow) → slice_get ts j ≡ Some t → ((x : Triple) → AreRowsOf x r → IsTrue b ↔ IsGood x (tree_of x r t)) → MatchBool b (RootHolds l j) (RootBreaks l j)
    unfolding RootHolds RootBreaks
    root_exact j t at f =
        subst (λ k. MatchBool b (RootHolds k j) (RootBreaks k j)) e
        (decide b (λ x. IsMachineOf x r.machine.now) (λ x. RootIsGood x (tree_rows here x) (hedge_rows here x) j) (λ x m.
        let o = f x (is.stand x m) in
        let a = tree_got j t at x in
        (λ y g p. subst (IsGood x) (one_some (slice_get (tree_rows here x) j) (tree_of x r t) g a p) (o.0 y), λ all. o.1 (all (tree_of x r t) a))))
