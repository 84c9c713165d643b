-- The rows of a certificate's lines, read into rooms, and the rules that hold of them.
use Rattle.std.proofs.Common.{◌≡◌, ◌<◌, ◌≤◌, ◌↔◌, true, ℕ, zero, suc, List, [], ◌∷◌, length, get_or, map, slice_get, Some, subst, sym, ap, ◌∙◌, refl, arith}
use Rattle.std.specs.List.{Contains, All}
use Rattle.std.proofs.lemmas.List.{length-map}
use Rattle.std.proofs.lemmas.Option.{slice_get-get_or}
use Rattle.tc_model.specs.Symbols.{symbol_count}
use Rattle.tc_model.specs.declared.lists.TreeLine.{TreeLine}
use Rattle.tc_model.specs.declared.lists.HedgeLine.{HedgeLine}
use Rattle.tc_model.specs.declared.lists.CertData.{CertData}
use Rattle.tc_mat.specs.Held.{Held, AreDifferent}
use Rattle.tc_rows.specs.Triples.{Triple}
use Rattle.tc_rows.specs.Rows.{HedgeRow, TreeRow}
use Rattle.tc_rows.specs.Certificates.{tree_of, hedge_of}
use Rattle.tc_beh.specs.Machines.{IsMachine, IsMachineOf}
use Rattle.tc_beh.specs.Outs.{sets_of}
use Rattle.tc_beh.specs.Rooms.{hedge_layout, tree_layout, hedge_row, tree_row}
use Rattle.tc_beh.specs.RoomsOf.{IsRoomOf}
use Rattle.tc_beh.specs.RowsOf.{AreRowsOf}
use Rattle.tc_beh.specs.declared.rows.Rows.{Rows}
use Rattle.tc_beh.specs.declared.machine.Machine.{Machine}
use Rattle.tc_beh.specs.declared.rooms.HRow.{HRow}
use Rattle.tc_beh.specs.declared.rooms.TRow.{TRow}
use Rattle.tc_model.specs.CertificateData.{IsFormed}
use Rattle.tc_verify.specs.Rules.{IsEmptyListed, IsTextListed, AppendIsListed, WrapIsListed, RootIsGood}
use Rattle.tc_verify.specs.Listings.{Listing, hedge_rows, tree_rows, EmptyHolds, TextHolds, AppendHolds, WrapHolds, RootHolds}
use Rattle.tc_rows.specs.CertificateRows.{numbered_tree, numbered_hedge, trees_of, hedges_of, IsCertificateData}
use Rattle.tc_model.specs.CertificateFits.{AllFit}
use Rattle.tc_verify.specs.Fits.{sizes}
use Rattle.tc_verify.specs.Rooms.{IsReadHedge, IsReadTree, HedgeStands, TreeStands, hedge_numbers, tree_numbers}
use Rattle.tc_verify.specs.Checkers.{IsChecker}
use Rattle.tc_verify.specs.Firsts.{AllHold}
use Rattle.tc_verify.proofs.Distinct.{sets_differ}
use Rattle.tc_verify.proofs.Certified.{AreRules, is_certificate}
use Rattle.tc_verify.proofs.LinesRead.{hedge_row_read, hedge_stands_read, tree_row_read, tree_stands_read}

pub got : {A : Type 0} (xs : List A) (i : ℕ) → i < length xs → (y : A) × (slice_get xs i ≡ Some y)
got [] i low = absurd (omega (arith, low))
got (x ∷ xs) zero low = (x, refl)
got (x ∷ xs) (suc i) low = got xs i (omega (arith, low))

same_maps : {A B R : Type 0} (f : A → R) (g : B → R) (xs : List A) (bs : List B) → length xs ≡ length bs → ((k : ℕ) (a : A) (b : B) → slice_get xs k ≡ Some a → slice_get bs k ≡ Some b → f a ≡ g b) → map f xs ≡ map g bs
same_maps f g [] [] e same = refl
same_maps f g [] (b ∷ bs) e same = absurd (omega (arith, e))
same_maps f g (a ∷ xs) [] e same = absurd (omega (arith, e))
same_maps f g (a ∷ xs) (b ∷ bs) e same =
    ap (λ r. r ∷ map f xs) (same 0 a b refl refl) ∙ ap (λ rs. g b ∷ rs) (same_maps f g xs bs (omega (arith, e)) (λ k c d p q. same (suc k) c d p q))

map_both : {A B C : Type 0} (f : B → C) (g : A → B) (xs : List A) → map f (map g xs) ≡ map (λ y. f (g y)) xs
map_both f g [] = refl
map_both f g (y ∷ ys) = ap (λ zs. f (g y) ∷ zs) (map_both f g ys)

module _ (m : Machine) (c : CertData) (formed : IsFormed c) (fit : (x : Triple) → IsMachineOf x m → AllFit (sizes x) c) (sets : Held) (same : sets_of sets.matrices ≡ c.outputs) where
  module _ (hs : List HRow) (count : length hs ≡ length c.hedges) (each : (k : ℕ) (h : HRow) → slice_get hs k ≡ Some h → IsReadHedge m c k h) (x : Triple) (is : IsMachineOf x m) where
    pub hedges_stand_all : All (HedgeStands x sets) hs
    hedges_stand_all k d low =
        let at = slice_get-get_or hs k d low in
        let (l, there) = got c.hedges k (omega (arith, low, count)) in
        hedge_stands_read x c formed (fit x is) m is sets same k l there (get_or hs k d) (each k (get_or hs k d) at)

    pub hedge_rows_are : map (hedge_row x sets.matrices) (hedge_numbers hs) ≡ hedges_of c
    hedge_rows_are =
        map_both (hedge_row x sets.matrices) (λ (h : HRow). h.room.numbers.items) hs
        ∙ same_maps (λ (h : HRow). hedge_row x sets.matrices h.room.numbers.items) (λ (l : HedgeLine). hedge_of c.outputs (numbered_hedge l)) hs c.hedges count
        (λ k h l p q. hedge_row_read x c formed (fit x is) m is sets same k l q h (each k h p))

  module _ (ts : List TRow) (count : length ts ≡ length c.trees) (each : (k : ℕ) (t : TRow) → slice_get ts k ≡ Some t → IsReadTree m c k t) (x : Triple) (is : IsMachineOf x m) where
    pub trees_stand_all : All (TreeStands x sets) ts
    trees_stand_all k d low =
        let at = slice_get-get_or ts k d low in
        let (l, there) = got c.trees k (omega (arith, low, count)) in
        tree_stands_read x c formed (fit x is) m is sets same k l there (get_or ts k d) (each k (get_or ts k d) at)

    pub tree_rows_are : map (tree_row x sets.matrices) (tree_numbers ts) ≡ trees_of c
    tree_rows_are =
        map_both (tree_row x sets.matrices) (λ (t : TRow). t.room.numbers.items) ts
        ∙ same_maps (λ (t : TRow). tree_row x sets.matrices t.room.numbers.items) (λ (l : TreeLine). tree_of c.outputs (numbered_tree l)) ts c.trees count
        (λ k t l p q. tree_row_read x c formed (fit x is) m is sets same k l q t (each k t p))

  -- all of it is what is checked
  pub checker_made : (some : IsMachine m) (r : Rows) (hs : List HRow) (ts : List TRow) (hl tl : List (List ℕ)) (nh : HRow) (nt : TRow) → r.outputs ≡ sets → r.machine.now ≡ m → r.is_fixed ≡ true
      → ((x : Triple) → IsMachineOf x m → AreRowsOf x r)
      → length hs ≡ length c.hedges → ((k : ℕ) (h : HRow) → slice_get hs k ≡ Some h → IsReadHedge m c k h)
      → length ts ≡ length c.trees → ((k : ℕ) (t : TRow) → slice_get ts k ≡ Some t → IsReadTree m c k t)
      → ((ns : List ℕ) → Contains hl ns ↔ Contains (hedge_numbers hs) ns) → ((ns : List ℕ) → Contains tl ns ↔ Contains (tree_numbers ts) ns)
      → ((x : Triple) → IsMachineOf x m → IsRoomOf (hedge_layout x) nh.room) → ((x : Triple) → IsMachineOf x m → IsRoomOf (tree_layout x) nt.room)
      → IsChecker r hs ts hl tl nh nt
  checker_made some r hs ts hl tl nh nt held machine fixed stands ch eh ct et ih it rh rt =
      let on : (x : Triple) → IsMachineOf x r.machine.now → IsMachineOf x m = λ x i. subst (IsMachineOf x) machine i in
      record {
        some = subst IsMachine (sym machine) some;
        stand = λ x i. stands x (on x i);
        fixed = fixed;
        different = subst AreDifferent (sym held) (sets_differ c formed sets same);
        few_hedges = subst (λ n. n ≤ 4000) (sym ch) formed.few_hedges;
        few_trees = subst (λ n. n ≤ 4000) (sym ct) formed.few_trees;
        hedges_stand = λ x i. subst (λ (o : Held). All (HedgeStands x o) hs) (sym held) (hedges_stand_all hs ch eh x (on x i));
        trees_stand = λ x i. subst (λ (o : Held). All (TreeStands x o) ts) (sym held) (trees_stand_all ts ct et x (on x i));
        held_hedges = ih;
        held_trees = it;
        room = λ x i. rh x (on x i);
        tree_room = λ x i. rt x (on x i);
      }

-- where all rules hold of the listing, they hold of the certificate
module _ (x : Triple) (c : CertData) (formed : IsFormed c) (fit : AllFit (sizes x) c) (l : Listing) (is : IsMachineOf x l.machine) (hs : hedge_rows l x ≡ hedges_of c) (ts : tree_rows l x ≡ trees_of c) where
  pub hedge_count : length l.hedges ≡ length c.hedges
  hedge_count = sym (length-map l.hedges (hedge_row x l.sets.matrices)) ∙ (ap length hs ∙ length-map c.hedges (λ k. hedge_of c.outputs (numbered_hedge k)))

  pub tree_count : length l.trees ≡ length c.trees
  tree_count = sym (length-map l.trees (tree_row x l.sets.matrices)) ∙ (ap length ts ∙ length-map c.trees (λ k. tree_of c.outputs (numbered_tree k)))

  pub symbols_are : symbol_count l.machine.alphabet ≡ symbol_count x.symbols
  symbols_are = ap symbol_count is.parts.same_symbols

  pub over : (P : List TreeRow → List HedgeRow → Type 0) → P (tree_rows l x) (hedge_rows l x) → P (trees_of c) (hedges_of c)
  over P p = subst (λ t. P t (hedges_of c)) ts (subst (P (tree_rows l x)) hs p)

  rules_hold : AllHold l → AreRules x c formed fit
  unfolding EmptyHolds TextHolds AppendHolds WrapHolds RootHolds
  rules_hold all = record {
    empty = subst (IsEmptyListed x) hs (all.rows.rows.lists.empty x is);
    text = subst (IsTextListed x) ts (all.rows.rows.lists.text x is);
    appends = λ i j a b. over (λ t h. AppendIsListed x t h i j) (all.rows.rows.appends i (subst (λ n. i < n) (sym hedge_count) a) j (subst (λ n. j < n) (sym tree_count) b) x is);
    wraps = λ i s a b. over (λ t h. WrapIsListed x t h i s) (all.rows.wraps i (subst (λ n. i < n) (sym hedge_count) a) s (subst (λ n. s < n) (sym symbols_are) b) x is);
    roots = λ j b. over (λ t h. RootIsGood x t h j) (all.roots j (subst (λ n. j < n) (sym tree_count) b) x is);
  }

  pub holds : AllHold l → IsCertificateData x c
  holds all = is_certificate x c formed fit (rules_hold all)
