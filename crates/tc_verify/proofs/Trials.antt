-- What is worked out from rows of a certificate, and whether that is listed.
use Rattle.std.proofs.Common.{◌≡◌, ◌↔◌, ℕ, List, map, Bool, true, false, not, IsTrue, slice_get, Some, subst, sym, ◌∙◌, refl}
use Rattle.std.specs.Bool.{MatchBool}
use Rattle.std.specs.List.{Contains}
use Rattle.tc_rows.specs.Triples.{Triple}
use Rattle.tc_rows.specs.Rows.{HedgeRow, TreeRow}
use Rattle.tc_rows.specs.Arithmetic.{IsEmptyRow, IsTextRow, IsTextLive, IsAppend, IsLiveAppend, IsWrap, IsLiveWrap, is_admitted, IsPassing}
use Rattle.tc_rows.proofs.AllLaws.{rows_are_lawful}
use Rattle.tc_beh.specs.Outs.{IsLeftOut}
use Rattle.tc_beh.specs.Rooms.{hedge_row, tree_row}
use Rattle.tc_beh.specs.RowsOf.{AreRowsOf, StandsForHedge, StandsForTree, hedge_of, tree_of}
use Rattle.tc_beh.specs.declared.rows.Rows.{Rows}
use Rattle.tc_beh.specs.declared.rooms.HRow.{HRow}
use Rattle.tc_beh.specs.declared.rooms.TRow.{TRow}
use Rattle.tc_verify.specs.Listings.{Listing, EmptyHolds, EmptyBreaks, TextHolds, TextBreaks, AppendHolds, AppendBreaks, WrapHolds, WrapBreaks, RootHolds, RootBreaks}
use Rattle.tc_verify.specs.Checkers.{IsChecker, listing_of}
use Rattle.tc_verify.proofs.Kept.{hedges_in, trees_in, hedge_stands, tree_stands, empty_exact, text_exact, append_exact, wrap_exact, root_exact}
use Rattle.tc_verify.proofs.Tried.{hedge_found, hedge_dead, hedge_left, tree_found, tree_dead, tree_left, always}

module _ {r : Rows} {hs : List HRow} {ts : List TRow} {hl tl : List (List ℕ)} {nh : HRow} {nt : TRow} (is : IsChecker r hs ts hl tl nh nt) (l : Listing) (e : listing_of r hs ts ≡ l) (q : Rows) (sets : q.outputs ≡ r.outputs) where
  abbrev Found : List (List ℕ) → List ℕ → Bool → Type 0
  Found lists ns b = IsTrue b ↔ Contains lists ns

  at_room : (lists : List (List ℕ)) (ns ms : List ℕ) (b : Bool) → ns ≡ ms → Found lists ns b → Found lists ms b
  at_room lists ns ms b e f = subst (λ (k : List ℕ). Found lists k b) e f

  module _ (x : Triple) (a : AreRowsOf x r) where
    module _ (Live : Type 0) (Made : HedgeRow → Type 0) (one : (u v : HedgeRow) → Made u → Made v → u ≡ v) where
      abbrev HedgeListed : Type 0
      HedgeListed = Live → (u : HedgeRow) → Made u → Contains (map (hedge_row x r.outputs.matrices) hl) u

      hedge_yes : (h : HRow) → StandsForHedge x q h → Made (hedge_of x q h) → Live → (b : Bool) → Found hl h.room.numbers.items b → IsTrue b ↔ HedgeListed
      hedge_yes h stands made live b has = hedge_found x r.outputs q.outputs sets hl is.different (λ ns. hedges_in is x ns a) Live Made one h.room.numbers.items stands.numbers made live b has

      hedge_no : (Live → ⊥) → IsTrue true ↔ HedgeListed
      hedge_no bad = hedge_dead x r.outputs q.outputs sets hl is.different (λ ns. hedges_in is x ns a) Live Made one bad

      hedge_out : Live → (u : HedgeRow) → Made u → IsLeftOut q.outputs u.entries → IsTrue false ↔ HedgeListed
      hedge_out live u made out = hedge_left x r.outputs q.outputs sets hl is.different (λ ns. hedges_in is x ns a) Live Made one live u made out

    module _ (Live : Type 0) (Made : TreeRow → Type 0) (one : (u v : TreeRow) → Made u → Made v → u ≡ v) where
      abbrev TreeListed : Type 0
      TreeListed = Live → (u : TreeRow) → Made u → Contains (map (tree_row x r.outputs.matrices) tl) u

      tree_yes : (t : TRow) → StandsForTree x q t → Made (tree_of x q t) → Live → (b : Bool) → Found tl t.room.numbers.items b → IsTrue b ↔ TreeListed
      tree_yes t stands made live b has = tree_found x r.outputs q.outputs sets tl is.different (λ ns. trees_in is x ns a) Live Made one t.room.numbers.items stands.numbers made live b has

      tree_no : (Live → ⊥) → IsTrue true ↔ TreeListed
      tree_no bad = tree_dead x r.outputs q.outputs sets tl is.different (λ ns. trees_in is x ns a) Live Made one bad

      tree_out : Live → (u : TreeRow) → Made u → IsLeftOut q.outputs u.entries → IsTrue false ↔ TreeListed
      tree_out live u made out = tree_left x r.outputs q.outputs sets tl is.different (λ ns. trees_in is x ns a) Live Made one live u made out

  -- the row of no tree
  pub empty_found : (out : HRow) → ((x : Triple) → AreRowsOf x r → StandsForHedge x q out × IsEmptyRow x (hedge_of x q out)) → (b : Bool) (ns : List ℕ) → ns ≡ out.room.numbers.items → Found hl ns b
      → MatchBool b (EmptyHolds l) (EmptyBreaks l)
  empty_found out row b ns same has =
      empty_exact is l e b (λ x a. let (stands, made) = row x a in always (hedge_yes x a (Unit {0}) (IsEmptyRow x) ((rows_are_lawful x a.machine.parts.are_rules.triple).one.empty) out stands made tt b (at_room hl ns out.room.numbers.items b same has)))

  pub empty_left : ((x : Triple) (u : HedgeRow) → AreRowsOf x r → IsEmptyRow x u → IsLeftOut q.outputs u.entries) → MatchBool false (EmptyHolds l) (EmptyBreaks l)
  empty_left out =
      empty_exact is l e false (λ x a.
      let laws = rows_are_lawful x a.machine.parts.are_rules.triple in
      let (u, made) = laws.there.empty in
      always (hedge_out x a (Unit {0}) (IsEmptyRow x) (laws.one.empty) tt u made (out x u a made)))

  -- that of a text
  pub text_found : (out : TRow) → ((x : Triple) → AreRowsOf x r → StandsForTree x q out × IsTextRow x (tree_of x q out)) → ((x : Triple) → AreRowsOf x r → IsTextLive x) → (b : Bool) (ns : List ℕ) → ns ≡ out.room.numbers.items → Found tl ns b
      → MatchBool b (TextHolds l) (TextBreaks l)
  text_found out row live b ns same has =
      text_exact is l e b (λ x a. let (stands, made) = row x a in tree_yes x a (IsTextLive x) (IsTextRow x) ((rows_are_lawful x a.machine.parts.are_rules.triple).one.text) out stands made (live x a) b (at_room tl ns out.room.numbers.items b same has))

  pub text_dead : ((x : Triple) → AreRowsOf x r → ¬ IsTextLive x) → MatchBool true (TextHolds l) (TextBreaks l)
  text_dead dead = text_exact is l e true (λ x a. tree_no x a (IsTextLive x) (IsTextRow x) ((rows_are_lawful x a.machine.parts.are_rules.triple).one.text) (dead x a))

  pub text_left : ((x : Triple) → AreRowsOf x r → IsTextLive x) → ((x : Triple) (u : TreeRow) → AreRowsOf x r → IsTextRow x u → IsLeftOut q.outputs u.entries) → MatchBool false (TextHolds l) (TextBreaks l)
  text_left live out =
      text_exact is l e false (λ x a.
      let laws = rows_are_lawful x a.machine.parts.are_rules.triple in
      let (u, made) = laws.there.text in
      tree_out x a (IsTextLive x) (IsTextRow x) (laws.one.text) (live x a) u made (out x u a made))

  -- that of trees and one behind them
  module _ (i j : ℕ) (h : HRow) (t : TRow) (at : slice_get hs i ≡ Some h) (there : slice_get ts j ≡ Some t) where
    abbrev Live : Triple → Type 0
    Live x = IsLiveAppend x (hedge_of x r h) (tree_of x r t)

    abbrev Made : Triple → HedgeRow → Type 0
    Made x u = IsAppend x (hedge_of x r h) (tree_of x r t) u

    pub append_found : (out : HRow) → ((x : Triple) → AreRowsOf x r → StandsForHedge x q out × Made x (hedge_of x q out)) → ((x : Triple) → AreRowsOf x r → Live x) → (b : Bool) (ns : List ℕ) → ns ≡ out.room.numbers.items → Found hl ns b
        → MatchBool b (AppendHolds l i j) (AppendBreaks l i j)
    append_found out row live b ns same has =
        append_exact is l e b i j h t at there (λ x a.
        let (stands, made) = row x a in
        hedge_yes x a (Live x) (Made x) ((rows_are_lawful x a.machine.parts.are_rules.triple).one.appended (hedge_of x r h) (tree_of x r t)) out stands made (live x a) b (at_room hl ns out.room.numbers.items b same has))

    pub append_dead : ((x : Triple) → AreRowsOf x r → ¬ Live x) → MatchBool true (AppendHolds l i j) (AppendBreaks l i j)
    append_dead dead = append_exact is l e true i j h t at there (λ x a. hedge_no x a (Live x) (Made x) ((rows_are_lawful x a.machine.parts.are_rules.triple).one.appended (hedge_of x r h) (tree_of x r t)) (dead x a))

    pub append_left : ((x : Triple) → AreRowsOf x r → Live x) → ((x : Triple) (u : HedgeRow) → AreRowsOf x r → Made x u → IsLeftOut q.outputs u.entries) → MatchBool false (AppendHolds l i j) (AppendBreaks l i j)
    append_left live out =
        append_exact is l e false i j h t at there (λ x a.
        let laws = rows_are_lawful x a.machine.parts.are_rules.triple in
        let (u, made) = laws.there.appended (hedge_of x r h) (tree_of x r t) (hedge_stands is i h at x a).1 (tree_stands is j t there x a).1 in
        hedge_out x a (Live x) (Made x) (laws.one.appended (hedge_of x r h) (tree_of x r t)) (live x a) u made (out x u a made))

  -- that of an element around trees
  module _ (i s : ℕ) (h : HRow) (at : slice_get hs i ≡ Some h) where
    abbrev LiveAround : Triple → Type 0
    LiveAround x = IsLiveWrap x s (hedge_of x r h)

    abbrev MadeAround : Triple → TreeRow → Type 0
    MadeAround x u = IsWrap x s (hedge_of x r h) u

    pub wrap_found : (out : TRow) → ((x : Triple) → AreRowsOf x r → StandsForTree x q out × MadeAround x (tree_of x q out)) → ((x : Triple) → AreRowsOf x r → LiveAround x) → (b : Bool) (ns : List ℕ) → ns ≡ out.room.numbers.items → Found tl ns b
        → MatchBool b (WrapHolds l i s) (WrapBreaks l i s)
    wrap_found out row live b ns same has =
        wrap_exact is l e b i s h at (λ x a.
        let (stands, made) = row x a in
        tree_yes x a (LiveAround x) (MadeAround x) ((rows_are_lawful x a.machine.parts.are_rules.triple).one.wrapped s (hedge_of x r h)) out stands made (live x a) b (at_room tl ns out.room.numbers.items b same has))

    pub wrap_dead : ((x : Triple) → AreRowsOf x r → ¬ LiveAround x) → MatchBool true (WrapHolds l i s) (WrapBreaks l i s)
    wrap_dead dead = wrap_exact is l e true i s h at (λ x a. tree_no x a (LiveAround x) (MadeAround x) ((rows_are_lawful x a.machine.parts.are_rules.triple).one.wrapped s (hedge_of x r h)) (dead x a))

    pub wrap_left : ((x : Triple) → AreRowsOf x r → LiveAround x) → ((x : Triple) (u : TreeRow) → AreRowsOf x r → MadeAround x u → IsLeftOut q.outputs u.entries) → MatchBool false (WrapHolds l i s) (WrapBreaks l i s)
    wrap_left live out =
        wrap_exact is l e false i s h at (λ x a.
        let laws = rows_are_lawful x a.machine.parts.are_rules.triple in
        let (u, made) = laws.there.wrapped s (hedge_of x r h) (hedge_stands is i h at x a).1 in
        tree_out x a (LiveAround x) (MadeAround x) (laws.one.wrapped s (hedge_of x r h)) (live x a) u made (out x u a made))

-- a row that is admitted passes, or isn't admitted
module _ {r : Rows} {hs : List HRow} {ts : List TRow} {hl tl : List (List ℕ)} {nh : HRow} {nt : TRow} (is : IsChecker r hs ts hl tl nh nt) (l : Listing) (e : listing_of r hs ts ≡ l) (j : ℕ) (t : TRow) (at : slice_get ts j ≡ Some t) where
  pub root_passes : (b c : Bool) → ((x : Triple) → AreRowsOf x r → b ≡ is_admitted x (tree_of x r t)) → b ≡ true → ((x : Triple) → AreRowsOf x r → IsTrue c ↔ IsPassing x (tree_of x r t)) → MatchBool c (RootHolds l j) (RootBreaks l j)
  root_passes b c admitted said passing =
      root_exact is l e c j t at (λ x a.
      let valid : is_admitted x (tree_of x r t) ≡ true = sym (admitted x a) ∙ said in
      let p = passing x a in
      (λ y good. p.0 y, λ good. p.1 (good valid)))

  pub root_free : (b : Bool) → ((x : Triple) → AreRowsOf x r → b ≡ is_admitted x (tree_of x r t)) → b ≡ false → MatchBool (not b) (RootHolds l j) (RootBreaks l j)
  root_free true admitted none = cc
  root_free false admitted none =
      root_exact is l e true j t at (λ x a.
      let dead : is_admitted x (tree_of x r t) ≡ false = sym (admitted x a) in
      (λ y good. absurd (clash (is_admitted x (tree_of x r t)) dead good), λ good. refl))
    where
      clash : (v : Bool) → v ≡ false → IsTrue v → ⊥
      clash v n y = cc
