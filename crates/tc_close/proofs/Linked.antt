-- Numbers come from numbers as the rows that they stand for come from rows, at the same costs.
use Rattle.std.proofs.Common.{◌≡◌, ◌<◌, inl, inr, ◌+◌, [], ℕ, List, length, get_or, map, true, slice_get, Some, subst, sym, ap, ◌∙◌, arith}
use Rattle.std.specs.List.{Contains}
use Rattle.std.proofs.lemmas.List.{length-map, get_or-map}
use Rattle.std.proofs.lemmas.List.Elements.{Contains-get_or}
use Rattle.std.proofs.lemmas.Option.{get_or_from_slice_get, slice_get_within, slice_get-get_or}
use Rattle.tc_model.specs.Symbols.{symbol_count}
use Rattle.tc_mat.specs.Matrix.{Matrix, HasPair}
use Rattle.tc_mat.specs.Matrix as mat
use Rattle.tc_rows.specs.Triples.{Triple}
use Rattle.tc_rows.specs.Rows.{HedgeRow, TreeRow}
use Rattle.tc_rows.specs.Arithmetic.{IsAppend, IsLiveAppend, IsWrap, IsLiveWrap}
use Rattle.tc_rows.specs.Derivations as row
use Rattle.tc_rows.specs.Derivations.{from_none, from_append, from_text, from_wrap}
use Rattle.tc_rows.specs.Laws.{RowLaws}
use Rattle.tc_rows.specs.Counts.{AreDifferent}
use Rattle.tc_rows.specs.CountLaws.{IsSetIn}
use Rattle.tc_rows.specs.Certificates.{AreClosed}
use Rattle.tc_beh.specs.Places.{pairs_of, entries_by, no_matrix}
use Rattle.tc_beh.specs.Outs.{sets_of}
use Rattle.tc_beh.specs.Held.{set_at}
use Rattle.tc_beh.specs.Rooms.{Layout, hedge_layout, tree_layout, IsRoom, hedge_row, tree_row, outputs_in, output_at}
use Rattle.tc_beh.proofs.Pairs.{listed_pairs}
use Rattle.tc_beh.proofs.RoomRows.{output_is}
use Rattle.tc_beh.proofs.RoomIs.{outputs_count}
use Rattle.tc_beh.proofs.RoomLaws.{rooms_lawful}
use Rattle.tc_settle.specs.Derived as number
use Rattle.tc_settle.specs.Derived.{IsClosed, AllDerive}
use Rattle.tc_close.specs.RowState.{RowState, hedge_at, tree_at, StandsInRow, AreGood, held_of, Known}

-- what stands in a list of what is worked out of a list
module _ {X Y : Type 0} (f : X → Y) where
  pub made_at : (xs : List X) (d : X) (u : ℕ) → u < length xs → Contains (map f xs) (f (get_or xs u d))
  made_at xs d u l =
      let y : Y = f (get_or xs u d) in
      let low : u < length (map f xs) = subst (λ n. u < n) (sym (length-map xs f)) l in
      subst (Contains (map f xs)) (get_or-map f xs u d y l) (Contains-get_or (map f xs) u y low)

  pub made_of : (xs : List X) (d : X) (y : Y) → Contains (map f xs) y → (u : ℕ) × (u < length xs) × (f (get_or xs u d) ≡ y)
  made_of xs d y (u, l, e) =
      let low : u < length xs = subst (λ n. u < n) (length-map xs f) l in
      (u, low, sym (get_or-map f xs u d y low) ∙ e)

  -- no two are the same, where no two that are worked out of them are
  pub different_of : (xs : List X) (d : X) → ((i j : ℕ) → i < length xs → j < length xs → f (get_or xs i d) ≡ f (get_or xs j d) → i ≡ j) → AreDifferent (map f xs)
  different_of xs d apart i j y p q =
      let li : i < length (map f xs) = slice_get_within (map f xs) i y p in
      let lj : j < length (map f xs) = slice_get_within (map f xs) j y q in
      let ki : i < length xs = subst (λ n. i < n) (length-map xs f) li in
      let kj : j < length xs = subst (λ n. j < n) (length-map xs f) lj in
      let a : get_or (map f xs) i y ≡ y = get_or_from_slice_get (map f xs) i y y p in
      let b : get_or (map f xs) j y ≡ y = get_or_from_slice_get (map f xs) j y y q in
      apart i j ki kj (sym (get_or-map f xs i d y ki) ∙ (a ∙ (sym b ∙ get_or-map f xs j d y kj)))

-- sets of different numbers are different lists of pairs
pub sets_apart : (held : List Matrix) → ((i j : ℕ) (a b : Matrix) → slice_get held i ≡ Some a → slice_get held j ≡ Some b → mat.HaveSamePairs a b → i ≡ j)
    → (i j : ℕ) → i < length held → j < length held → pairs_of (get_or held i no_matrix) ≡ pairs_of (get_or held j no_matrix) → i ≡ j
sets_apart held apart i j l m e =
    let a : Matrix = get_or held i no_matrix in
    let b : Matrix = get_or held j no_matrix in
    apart i j a b (slice_get-get_or held i no_matrix l) (slice_get-get_or held j no_matrix m) (λ y z. (
      λ h. (listed_pairs b y z).1 (subst (λ (ps : List (ℕ × ℕ)). Contains ps (y, z)) e ((listed_pairs a y z).0 h)),
      λ h. (listed_pairs a y z).1 (subst (λ (ps : List (ℕ × ℕ)). Contains ps (y, z)) (sym e) ((listed_pairs b y z).0 h)),
    ))

module _ (x : Triple) (s : RowState) where
  abbrev pub tree_rows : List TreeRow
  tree_rows = map (tree_row x s.outputs.matrices) s.trees

  abbrev pub hedge_rows : List HedgeRow
  hedge_rows = map (hedge_row x s.outputs.matrices) s.hedges

  pub tree_listed : (u : ℕ) → u < length s.trees → Contains tree_rows (tree_at x s u)
  tree_listed u l = made_at (tree_row x s.outputs.matrices) s.trees [] u l

  pub hedge_listed : (u : ℕ) → u < length s.hedges → Contains hedge_rows (hedge_at x s u)
  hedge_listed u l = made_at (hedge_row x s.outputs.matrices) s.hedges [] u l

  pub tree_of_listed : (r : TreeRow) → Contains tree_rows r → (u : ℕ) × (u < length s.trees) × (tree_at x s u ≡ r)
  tree_of_listed r c = made_of (tree_row x s.outputs.matrices) s.trees [] r c

  pub hedge_of_listed : (r : HedgeRow) → Contains hedge_rows r → (u : ℕ) × (u < length s.hedges) × (hedge_at x s u ≡ r)
  hedge_of_listed r c = made_of (hedge_row x s.outputs.matrices) s.hedges [] r c

  module _ (IsOf : Triple → Type 0) (is : IsOf x) (known : Known IsOf s) where
    low_symbol : (a : ℕ) → a < s.symbols → a < symbol_count x.symbols
    low_symbol a l = subst (λ n. a < n) (known.symbols x is) l

    high_symbol : (a : ℕ) → a < symbol_count x.symbols → a < s.symbols
    high_symbol a l = subst (λ n. a < n) (sym (known.symbols x is)) l

    -- what comes from numbers comes from rows
    mutual
      pub hedge_from : {u n : ℕ} → number.HedgeFrom (held_of IsOf s) u n → row.HedgeFrom x (hedge_at x s u) n
      hedge_from (number.from_none at) = from_none (at.1 x is)
      hedge_from (number.from_append d e at) = let (live, app) = at.1 x is in from_append (hedge_from d) (tree_from e) live app

      pub tree_from : {u n : ℕ} → number.TreeFrom (held_of IsOf s) u n → row.TreeFrom x (tree_at x s u) n
      tree_from (number.from_text at) = let (live, t) = at.1 x is in from_text live t
      tree_from (number.from_wrap {a} l d at) = let (live, w) = at.1 x is in from_wrap (low_symbol a l) (hedge_from d) live w

    module _ (laws : RowLaws x) (closed : IsClosed (held_of IsOf s)) where
      -- and where all is held, the other way round
      mutual
        pub hedge_number : {r : HedgeRow} {n : ℕ} → row.HedgeFrom x r n → (u : ℕ) × (u < length s.hedges) × (hedge_at x s u ≡ r) × number.HedgeFrom (held_of IsOf s) u n
        hedge_number (from_none {u = r} e) = let (u, at) = closed.none in (u, at.0, laws.one.empty (hedge_at x s u) r (at.1 x is) e, number.from_none at)
        hedge_number (from_append {h} {u = r} {t} {m} {n} d e live app) = by (hedge_number d) (tree_number e)
          where
            by : ((i : ℕ) × (i < length s.hedges) × (hedge_at x s i ≡ h) × number.HedgeFrom (held_of IsOf s) i m) → ((j : ℕ) × (j < length s.trees) × (tree_at x s j ≡ t) × number.TreeFrom (held_of IsOf s) j n)
                → (u : ℕ) × (u < length s.hedges) × (hedge_at x s u ≡ r) × number.HedgeFrom (held_of IsOf s) u (m + n)
            by (i, li, ei, di) (j, lj, ej, dj) =
                let live_there : IsLiveAppend x (hedge_at x s i) (tree_at x s j) = subst (λ p. IsLiveAppend x p (tree_at x s j)) (sym ei) (subst (λ q. IsLiveAppend x h q) (sym ej) live) in
                let app_there : IsAppend x (hedge_at x s i) (tree_at x s j) r = subst (λ p. IsAppend x p (tree_at x s j) r) (sym ei) (subst (λ q. IsAppend x h q r) (sym ej) app) in
                elim (closed.append i j li lj) [
                  | inl dead ↦ absurd (dead x is live_there)
                  | inr (u, at) ↦ (u, at.0, laws.one.appended (hedge_at x s i) (tree_at x s j) (hedge_at x s u) r (at.1 x is).1 app_there, number.from_append di dj at)
                ]

        pub tree_number : {r : TreeRow} {n : ℕ} → row.TreeFrom x r n → (u : ℕ) × (u < length s.trees) × (tree_at x s u ≡ r) × number.TreeFrom (held_of IsOf s) u n
        tree_number (from_text {u = r} live t) = elim closed.text [
          | inl dead ↦ absurd (dead x is live)
          | inr (u, at) ↦ (u, at.0, laws.one.text (tree_at x s u) r (at.1 x is).1 t, number.from_text at)
        ]
        tree_number (from_wrap {a} {h} {u = r} {n} l d live w) = by (hedge_number d)
          where
            by : ((i : ℕ) × (i < length s.hedges) × (hedge_at x s i ≡ h) × number.HedgeFrom (held_of IsOf s) i n) → (u : ℕ) × (u < length s.trees) × (tree_at x s u ≡ r) × number.TreeFrom (held_of IsOf s) u (n + 1)
            by (i, li, ei, di) =
                let live_there : IsLiveWrap x a (hedge_at x s i) = subst (λ p. IsLiveWrap x a p) (sym ei) live in
                let wrap_there : IsWrap x a (hedge_at x s i) r = subst (λ p. IsWrap x a p r) (sym ei) w in
                elim (closed.wrap a i (high_symbol a l) li) [
                  | inl dead ↦ absurd (dead x is live_there)
                  | inr (u, at) ↦ (u, at.0, laws.one.wrapped a (hedge_at x s i) (tree_at x s u) r (at.1 x is).1 wrap_there, number.from_wrap (high_symbol a l) di at)
                ]

      pub are_closed : AreClosed x tree_rows hedge_rows
      are_closed = record {
        empty = λ r e. let (u, low, same, d) = hedge_number (from_none e) in subst (Contains hedge_rows) same (hedge_listed u low);
        text = λ live r t. let (u, low, same, d) = tree_number (from_text live t) in subst (Contains tree_rows) same (tree_listed u low);
        append = λ h r t ch ct live app.
            let (i, li, ei) = hedge_of_listed h ch in
            let (j, lj, ej) = tree_of_listed t ct in
            let live_there : IsLiveAppend x (hedge_at x s i) (tree_at x s j) = subst (λ p. IsLiveAppend x p (tree_at x s j)) (sym ei) (subst (λ q. IsLiveAppend x h q) (sym ej) live) in
            let app_there : IsAppend x (hedge_at x s i) (tree_at x s j) r = subst (λ p. IsAppend x p (tree_at x s j) r) (sym ei) (subst (λ q. IsAppend x h q r) (sym ej) app) in
            elim (closed.append i j li lj) [
              | inl dead ↦ absurd (dead x is live_there)
              | inr (u, at) ↦ subst (Contains hedge_rows) (laws.one.appended (hedge_at x s i) (tree_at x s j) (hedge_at x s u) r (at.1 x is).1 app_there) (hedge_listed u at.0)
            ];
        wrap = λ a h r l ch live w.
            let (i, li, ei) = hedge_of_listed h ch in
            let live_there : IsLiveWrap x a (hedge_at x s i) = subst (λ p. IsLiveWrap x a p) (sym ei) live in
            let wrap_there : IsWrap x a (hedge_at x s i) r = subst (λ p. IsWrap x a p r) (sym ei) w in
            elim (closed.wrap a i (high_symbol a l) li) [
              | inl dead ↦ absurd (dead x is live_there)
              | inr (u, at) ↦ subst (Contains tree_rows) (laws.one.wrapped a (hedge_at x s i) (tree_at x s u) r (at.1 x is).1 wrap_there) (tree_listed u at.0)
            ];
      }

    module _ (all : AllDerive (held_of IsOf s)) where
      pub trees_come : (r : TreeRow) → Contains tree_rows r → (n : ℕ) × row.TreeFrom x r n
      trees_come r c = let (u, low, e) = tree_of_listed r c in let (n, d) = all.trees u low in (n, subst (λ q. row.TreeFrom x q n) e (tree_from d))

      pub hedges_come : (r : HedgeRow) → Contains hedge_rows r → (n : ℕ) × row.HedgeFrom x r n
      hedges_come r c = let (u, low, e) = hedge_of_listed r c in let (n, d) = all.hedges u low in (n, subst (λ q. row.HedgeFrom x q n) e (hedge_from d))

    abbrev held : List Matrix
    held = s.outputs.matrices

    apart : (i j : ℕ) → i < length held → j < length held → pairs_of (get_or held i no_matrix) ≡ pairs_of (get_or held j no_matrix) → i ≡ j
    apart = sets_apart held known.outputs

    good : AreGood x s
    good = known.good x is

    -- rows of different numbers are different
    pub one_hedge : (u v : ℕ) → u < length s.hedges → v < length s.hedges → hedge_at x s u ≡ hedge_at x s v → u ≡ v
    one_hedge u v l m e =
        let same : get_or s.hedges u [] ≡ get_or s.hedges v [] = (rooms_lawful.hedges x s.outputs (get_or s.hedges u []) (get_or s.hedges v []) known.outputs (good.hedges u l).room (good.hedges v m).room).0 e in
        known.hedges u v (get_or s.hedges u []) (slice_get-get_or s.hedges u [] l) (slice_get-get_or s.hedges v [] m ∙ ap Some (sym same))

    pub one_tree : (u v : ℕ) → u < length s.trees → v < length s.trees → tree_at x s u ≡ tree_at x s v → u ≡ v
    one_tree u v l m e =
        let same : get_or s.trees u [] ≡ get_or s.trees v [] = (rooms_lawful.trees x s.outputs (get_or s.trees u []) (get_or s.trees v []) known.outputs (good.trees u l).room (good.trees v m).room).0 e in
        known.trees u v (get_or s.trees u []) (slice_get-get_or s.trees u [] l) (slice_get-get_or s.trees v [] m ∙ ap Some (sym same))

    pub hedges_different : AreDifferent hedge_rows
    hedges_different = different_of (hedge_row x held) s.hedges [] one_hedge

    pub trees_different : AreDifferent tree_rows
    trees_different = different_of (tree_row x held) s.trees [] one_tree

    pub sets_different : AreDifferent (sets_of held)
    sets_different = different_of pairs_of held no_matrix apart

    -- a set stands in a row that is held
    entry_held : (l : Layout) (ns : List ℕ) (pairs : List (ℕ × ℕ)) → IsRoom l held ns → Contains (entries_by held (outputs_in l.flags l.entries ns)) pairs → Contains (sets_of held) pairs
    entry_held l ns pairs room c =
        let os : List ℕ = outputs_in l.flags l.entries ns in
        let (i, low, e) = made_of (λ k. pairs_of (get_or held k no_matrix)) os 0 pairs c in
        let count = outputs_count l held ns room in
        let inside : i < l.entries = omega (arith, count, low) in
        let at : get_or os i 0 ≡ output_at l.flags ns i = output_is l.flags l.entries ns i inside in
        subst (Contains (sets_of held)) e (made_at pairs_of held no_matrix (get_or os i 0) (subst (λ k. k < length held) (sym at) (room.outs i inside)))

    pub in_set : (pairs : List (ℕ × ℕ)) → IsSetIn tree_rows hedge_rows pairs → Contains (sets_of held) pairs
    in_set pairs (inl (r, c, e)) =
        let (u, low, same) = tree_of_listed r c in
        entry_held (tree_layout x) (get_or s.trees u []) pairs (good.trees u low).room (subst (λ (q : TreeRow). Contains q.entries pairs) (sym same) e)
    in_set pairs (inr (r, c, e)) =
        let (u, low, same) = hedge_of_listed r c in
        entry_held (hedge_layout x) (get_or s.hedges u []) pairs (good.hedges u low).room (subst (λ (q : HedgeRow). Contains q.entries pairs) (sym same) e)

    pub stands : (pairs : List (ℕ × ℕ)) → StandsInRow x s pairs → IsSetIn tree_rows hedge_rows pairs
    stands pairs (inl (u, low, c)) = inr (hedge_at x s u, hedge_listed u low, c)
    stands pairs (inr (u, low, c)) = inl (tree_at x s u, tree_listed u low, c)

    pub set_in : s.is_whole ≡ true → (pairs : List (ℕ × ℕ)) → Contains (sets_of held) pairs → IsSetIn tree_rows hedge_rows pairs
    set_in whole pairs c = let (k, low, e) = made_of pairs_of held no_matrix pairs c in subst (IsSetIn tree_rows hedge_rows) e (stands (pairs_of (set_at s.outputs k)) (good.stood whole k low))
