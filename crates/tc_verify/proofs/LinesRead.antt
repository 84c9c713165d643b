-- A line that fits is read into a room, which stands for its row.
use Rattle.std.proofs.Common.{◌≡◌, ◌<◌, ◌≤◌, ◌+◌, ℕ, List, [], ◌∷◌, length, get_or, map, slice_get, Some, Bool, subst, sym, ap, ◌∙◌, refl, arith}
use Rattle.std.specs.List.{Contains, All}
use Rattle.std.proofs.lemmas.List.{get_or-map, length-map}
use Rattle.std.proofs.lemmas.List.Elements.{All-contains, All-get_or, All-head, All-tail}
use Rattle.tc_model.specs.States.{input, state_count}
use Rattle.tc_model.specs.declared.lists.TreeLine.{TreeLine}
use Rattle.tc_model.specs.declared.lists.HedgeLine.{HedgeLine}
use Rattle.tc_model.specs.declared.lists.CertData.{CertData}
use Rattle.tc_mat.specs.Matrix.{Matrix}
use Rattle.tc_mat.specs.Held.{Held}
use Rattle.tc_rows.specs.Triples.{Triple, entries, looks}
use Rattle.tc_rows.specs.Rows.{HedgeRow, TreeRow, IsHedgeRow, IsTreeRow}
use Rattle.tc_rows.specs.Certificates.{tree_of, hedge_of}
use Rattle.tc_beh.specs.Machines.{IsMachine, IsMachineOf}
use Rattle.tc_beh.specs.Outs.{sets_of}
use Rattle.tc_beh.specs.Places.{pairs_of, entries_by, no_matrix}
use Rattle.tc_beh.specs.Lines.{IsLine, FitsRoom, AreFlags}
use Rattle.tc_beh.specs.Rooms.{Layout, hedge_layout, tree_layout, IsRoom, hedge_row, tree_row, flagged, flags_in, outputs_in, looks_in, output_at}
use Rattle.tc_beh.specs.RoomsOf.{IsRoomOf}
use Rattle.tc_beh.specs.declared.machine.Machine.{Machine}
use Rattle.tc_beh.specs.declared.rooms.Room.{Room}
use Rattle.tc_beh.specs.declared.rooms.HRow.{HRow}
use Rattle.tc_beh.specs.declared.rooms.TRow.{TRow}
use Rattle.tc_beh.proofs.RoomRows.{output_is, look_is}
use Rattle.tc_model.specs.CertificateData.{IsFormed, IsFormedTree, IsFormedHedge}
use Rattle.tc_rows.specs.CertificateRows.{numbered_tree, numbered_hedge}
use Rattle.tc_model.specs.CertificateFits.{AllFit, AreFrom, HedgeFits, RowFits, TreeFits}
use Rattle.tc_verify.specs.Fits.{sizes}
use Rattle.tc_verify.specs.Rooms.{IsReadHedge, IsReadTree, HedgeStands, TreeStands}
use Rattle.tc_verify.proofs.Certified.{from_zero, hedge_shaped, tree_shaped}
use Rattle.tc_verify.proofs.Kept.{contains_at}

-- rows of equal parts
five : {A B C D E R : Type 0} (f : A → B → C → D → E → R) {a a2 : A} {b b2 : B} {c c2 : C} {d d2 : D} {e e2 : E} → a ≡ a2 → b ≡ b2 → c ≡ c2 → d ≡ d2 → e ≡ e2 → f a b c d e ≡ f a2 b2 c2 d2 e2
five f p q r s t = cc

-- the lists fit a room of the layout
fits_room : (s : Layout) (first sets : ℕ) (r : Room) (places outs values : List ℕ) → IsRoomOf s r → RowFits first s.flags s.entries s.looks sets places outs values → length outs ≡ s.entries
    → 2 + r.flags + r.entries + length values ≡ length r.numbers.items
fits_room s first sets r places outs values parted fits same =
    let a = parted.flags in
    let b = parted.entries in
    let n : length r.numbers.items ≡ 2 + s.flags + s.entries + s.looks = parted.count in
    let k = fits.look_count in
    omega (arith, a, b, n, k)

module _ (m : Machine) (c : CertData) (formed : IsFormed c) (fit : (x : Triple) → IsMachineOf x m → AllFit (sizes x) c) (some : IsMachine m) (place : ℕ) where
  pub hedge_fits_room : (l : HedgeLine) → slice_get c.hedges place ≡ Some l → (r : Room) → ((x : Triple) → IsMachineOf x m → IsRoomOf (hedge_layout x) r) → FitsRoom 0 r l.states l.outs l.looks
  hedge_fits_room l at r parted =
      let (x, is) = some in
      let p = parted x is in
      let inside = contains_at c.hedges place l at in
      let f = All-contains (HedgeFits (sizes x) c) c.hedges l (fit x is).hedges inside in
      record {
        ascend = (All-contains IsFormedHedge c.hedges l formed.hedges inside).states.ascending;
        within = subst (λ n. AreFrom 0 n l.states) (sym p.flags) f.members_fit;
        outs = f.out_count ∙ sym p.entries;
        looks = fits_room (hedge_layout x) 0 (length c.outputs) r l.states l.outs l.looks p f f.out_count;
      }

  pub tree_fits_room : (l : TreeLine) → slice_get c.trees place ≡ Some l → (r : Room) → ((x : Triple) → IsMachineOf x m → IsRoomOf (tree_layout x) r) → FitsRoom 1 r l.patterns l.outs l.looks
  tree_fits_room l at r parted =
      let (x, is) = some in
      let p = parted x is in
      let inside = contains_at c.trees place l at in
      let f = All-contains (TreeFits (sizes x) c) c.trees l (fit x is).trees inside in
      record {
        ascend = (All-contains IsFormedTree c.trees l formed.trees inside).patterns.ascending;
        within = subst (λ n. AreFrom 1 n l.patterns) (sym p.flags) f.members_fit;
        outs = f.out_count ∙ sym p.entries;
        looks = fits_room (tree_layout x) 1 (length c.outputs) r l.patterns l.outs l.looks p f f.out_count;
      }

-- numbers mean the same sets
same_sets : (held : List Matrix) (outs : List ℕ) → All (λ n. n < length held) outs → map (λ k. pairs_of (get_or held k no_matrix)) outs ≡ map (λ n. get_or (map pairs_of held) n []) outs
same_sets held [] few = refl
same_sets held (n ∷ ns) few =
    let a : pairs_of (get_or held n no_matrix) ≡ get_or (map pairs_of held) n [] = sym (get_or-map pairs_of held n no_matrix [] (All-head (λ k. k < length held) n ns few)) in
    let b = same_sets held ns (All-tail (λ k. k < length held) n ns few) in
    ap (λ p. p ∷ map (λ k. pairs_of (get_or held k no_matrix)) ns) a ∙ ap (λ ps. get_or (map pairs_of held) n [] ∷ ps) b

-- what a room of a line that fits holds
module _ (s : Layout) (held : List Matrix) (first : ℕ) (r : Room) (parted : IsRoomOf s r) (flags : AreFlags r) (is_text is_bearing : Bool) (places outs values : List ℕ)
    (line : IsLine first r is_text is_bearing places outs values) (fits : RowFits first s.flags s.entries s.looks (length held) places outs values) (small : All (λ v. v ≤ 2) values) where
  outs_are : outs ≡ outputs_in s.flags s.entries r.numbers.items
  outs_are = subst (λ e. outs ≡ outputs_in s.flags e r.numbers.items) parted.entries (subst (λ f. outs ≡ outputs_in f r.entries r.numbers.items) parted.flags line.outs)

  looks_are : values ≡ looks_in s.flags s.entries r.numbers.items
  looks_are = subst (λ e. values ≡ looks_in s.flags e r.numbers.items) parted.entries (subst (λ f. values ≡ looks_in f r.entries r.numbers.items) parted.flags line.looks)

  places_are : places ≡ flagged first (flags_in s.flags r.numbers.items)
  places_are = subst (λ f. places ≡ flagged first (flags_in f r.numbers.items)) parted.flags line.set

  is_room : IsRoom s held r.numbers.items
  is_room = record {
    count = parted.count;
    head = flags.head;
    bears = flags.bears;
    flags = λ i low. flags.flags i (subst (λ n. i < n) (sym parted.flags) low);
    outs = λ i low.
        let e : get_or outs i 0 ≡ output_at s.flags r.numbers.items i = ap (λ (os : List ℕ). get_or os i 0) outs_are ∙ output_is s.flags s.entries r.numbers.items i low in
        subst (λ n. n < length held) e (from_zero (get_or outs i 0) (length held) (All-get_or (λ k. (0 ≤ k) × (k < 0 + length held)) outs i 0 (subst (λ n. i < n) (sym fits.out_count) low) fits.outs_fit).1);
    looks = λ i low.
        let e : get_or values i 0 ≡ get_or r.numbers.items (2 + s.flags + s.entries + i) 0 = ap (λ (vs : List ℕ). get_or vs i 0) looks_are ∙ look_is s.flags s.entries r.numbers.items i in
        subst (λ n. n ≤ 2) e (All-get_or (λ v. v ≤ 2) values i 0 (subst (λ n. i < n) (sym fits.look_count) low) small);
  }

  entries_are : entries_by held (outputs_in s.flags s.entries r.numbers.items) ≡ map (λ n. get_or (map pairs_of held) n []) outs
  entries_are = ap (λ (os : List ℕ). entries_by held os) (sym outs_are) ∙ same_sets held outs (λ k d low. from_zero (get_or outs k d) (length held) (fits.outs_fit k d low).1)

module _ (x : Triple) (c : CertData) (formed : IsFormed c) (fit : AllFit (sizes x) c) (m : Machine) (is : IsMachineOf x m) (sets : Held) (same : sets_of sets.matrices ≡ c.outputs) (place : ℕ) where
  set_count : length c.outputs ≡ length sets.matrices
  set_count = ap length (sym same) ∙ length-map sets.matrices pairs_of

  module _ (l : HedgeLine) (at : slice_get c.hedges place ≡ Some l) (h : HRow) (read : IsReadHedge m c place h) where
    inside_hedges : Contains c.hedges l
    inside_hedges = contains_at c.hedges place l at

    hedge_fits : RowFits 0 (state_count x.input input) (entries x) (looks x) (length sets.matrices) l.states l.outs l.looks
    hedge_fits = subst (λ n. RowFits 0 (state_count x.input input) (entries x) (looks x) n l.states l.outs l.looks) set_count (All-contains (HedgeFits (sizes x) c) c.hedges l fit.hedges inside_hedges)

    hedge_small : All (λ v. v ≤ 2) l.looks
    hedge_small = (All-contains IsFormedHedge c.hedges l formed.hedges inside_hedges).looks

    pub hedge_row_read : hedge_row x sets.matrices h.room.numbers.items ≡ hedge_of c.outputs (numbered_hedge l)
    hedge_row_read =
        let line = read.line l at in
        let Row : Bool → Bool → List ℕ → List (List (ℕ × ℕ)) → List ℕ → HedgeRow = λ a b s e v. record { ends = a; bears = b; states = s; entries = e; looks = v } in
        let ns : List ℕ = h.room.numbers.items in
        let p = read.parted x is in
        let e1 = sym line.head in
        let e2 = sym line.bears in
        let e3 = sym (places_are (hedge_layout x) sets.matrices 0 h.room p read.flags l.ends l.bears l.states l.outs l.looks line hedge_fits hedge_small) in
        let e4 = entries_are (hedge_layout x) sets.matrices 0 h.room p read.flags l.ends l.bears l.states l.outs l.looks line hedge_fits hedge_small
        ∙ ap (λ (os : List (List (ℕ × ℕ))). map (λ n. get_or os n []) l.outs) same in
        let e5 = sym (looks_are (hedge_layout x) sets.matrices 0 h.room p read.flags l.ends l.bears l.states l.outs l.looks line hedge_fits hedge_small) in
        five Row e1 e2 e3 e4 e5

    pub hedge_stands_read : HedgeStands x sets h
    hedge_stands_read = record {
      parted = read.parted x is;
      numbers = is_room (hedge_layout x) sets.matrices 0 h.room (read.parted x is) read.flags l.ends l.bears l.states l.outs l.looks (read.line l at) hedge_fits hedge_small;
      row = subst (IsHedgeRow x) (sym hedge_row_read) (hedge_shaped x c formed fit l (All-contains IsFormedHedge c.hedges l formed.hedges inside_hedges) (All-contains (HedgeFits (sizes x) c) c.hedges l fit.hedges inside_hedges));
    }

  module _ (l : TreeLine) (at : slice_get c.trees place ≡ Some l) (h : TRow) (read : IsReadTree m c place h) where
    inside_trees : Contains c.trees l
    inside_trees = contains_at c.trees place l at

    tree_fits : RowFits 1 (length x.input.elements) (entries x) (looks x) (length sets.matrices) l.patterns l.outs l.looks
    tree_fits = subst (λ n. RowFits 1 (length x.input.elements) (entries x) (looks x) n l.patterns l.outs l.looks) set_count (All-contains (TreeFits (sizes x) c) c.trees l fit.trees inside_trees)

    tree_small : All (λ v. v ≤ 2) l.looks
    tree_small = (All-contains IsFormedTree c.trees l formed.trees inside_trees).looks

    pub tree_row_read : tree_row x sets.matrices h.room.numbers.items ≡ tree_of c.outputs (numbered_tree l)
    tree_row_read =
        let line = read.line l at in
        let Row : Bool → Bool → List ℕ → List (List (ℕ × ℕ)) → List ℕ → TreeRow = λ a b s e v. record { is_text = a; bears = b; patterns = s; entries = e; looks = v } in
        let p = read.parted x is in
        let e1 = sym line.head in
        let e2 = sym line.bears in
        let e3 = sym (places_are (tree_layout x) sets.matrices 1 h.room p read.flags l.text l.bears l.patterns l.outs l.looks line tree_fits tree_small) in
        let e4 = entries_are (tree_layout x) sets.matrices 1 h.room p read.flags l.text l.bears l.patterns l.outs l.looks line tree_fits tree_small
        ∙ ap (λ (os : List (List (ℕ × ℕ))). map (λ n. get_or os n []) l.outs) same in
        let e5 = sym (looks_are (tree_layout x) sets.matrices 1 h.room p read.flags l.text l.bears l.patterns l.outs l.looks line tree_fits tree_small) in
        five Row e1 e2 e3 e4 e5

    pub tree_stands_read : TreeStands x sets h
    tree_stands_read = record {
      parted = read.parted x is;
      numbers = is_room (tree_layout x) sets.matrices 1 h.room (read.parted x is) read.flags l.text l.bears l.patterns l.outs l.looks (read.line l at) tree_fits tree_small;
      row = subst (IsTreeRow x) (sym tree_row_read) (tree_shaped x c formed fit l (All-contains IsFormedTree c.trees l formed.trees inside_trees) (All-contains (TreeFits (sizes x) c) c.trees l fit.trees inside_trees));
    }
