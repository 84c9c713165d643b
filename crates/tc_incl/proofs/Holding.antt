-- What holds of rows that are held goes on holding where one comes on, and of what it is made.
use Rattle.std.proofs.Common.{◌≡◌, ◌<◌, ◌⊎◌, inl, inr, ◌++◌, ◌∷◌, [], ℕ, zero, suc, List, length, get_or, map, slice_get, Some, All, subst, sym, ap, ◌∙◌, refl, arith, append-nil, length-append}
use Rattle.std.proofs.lemmas.List.{length-map, get_or-map, map-append}
use Rattle.std.proofs.lemmas.List.Elements.{All-same, All-push, All-get_or}
use Rattle.std.proofs.lemmas.Option.{get_or_from_slice_get, slice_get_within, slice_get-get_or}
use Rattle.tc_rows.specs.Counts.{AreDifferent}
use Rattle.tc_sets.specs.Numbers.{SetsHaveOneForm}
use Rattle.tc_settle.specs.Held.{Grows, IsHeldAs, IsNoneAt, IsTextAt, IsAppendAt, IsWrapAt}
use Rattle.tc_incl.specs.declared.rows.Row.{Row}
use Rattle.tc_incl.specs.declared.both.Both.{Both}
use Rattle.tc_incl.specs.Schemas.{Schemas}
use Rattle.tc_incl.specs.Rows.{HedgeRow, TreeRow}
use Rattle.tc_incl.specs.Arithmetic.{IsEmptyRow, IsTextRow, IsAppend, IsLiveAppend, IsWrap, IsLiveWrap, IsFailing}
use Rattle.tc_incl.specs.Held.{hedge_row, tree_row, IsHedgeFit, IsTreeFit, IsNone, IsText, IsAppended, NoAppended, IsWrapped, NoWrapped, Fails, Passes}
use Rattle.tc_incl.specs.Covers.{State, no_hedge, no_tree, hedge_at, tree_at, held_of, Known, state_of, AreHeld}
use Rattle.tc_incl.proofs.Listed.{members_one}
use Rattle.tc_incl.proofs.Linked.{grows}
use Rattle.tc_incl.proofs.Stepped.{front}

-- one row more, or none
pub record Keeps (old new : List Row) (k : ℕ) (r : Row) : Type 0 where
  pub more : List Row
  pub all : new ≡ old ++ more
  pub held : IsHeldAs (length old) (length new) k
  pub here : k < length new
  pub at : slice_get new k ≡ Some r

pub keeps : (old new : List Row) (k : ℕ) (r : Row) → slice_get new k ≡ Some r → ((k < length old) × (new ≡ old)) ⊎ ((k ≡ length old) × (new ≡ old ++ r ∷ [])) → Keeps old new k r
keeps old new k r at (inl (low, e)) = record { more = []; all = e ∙ sym (append-nil old); held = inl (low, ap length e); here = slice_get_within new k r at; at = at }
keeps old new k r at (inr (last, e)) =
    let count : length new ≡ suc (length old) = omega (arith, ap length e, length-append old (r ∷ [])) in
    record { more = r ∷ []; all = e; held = inr (last, count); here = slice_get_within new k r at; at = at }

-- what stands at a place of what is worked out of a list
row_at : {Y : Type 0} (f : Row → Y) (xs : List Row) (d : Y) (i : ℕ) (r : Row) → slice_get xs i ≡ Some r → get_or (map f xs) i d ≡ f r
row_at f xs d i r at =
    let low : i < length xs = slice_get_within xs i r at in
    get_or-map f xs i r d low ∙ ap f (get_or_from_slice_get xs i r r at)

fit_kept : (P : Row → Type 0) (old new : List Row) (r : Row) (k : ℕ) → ((k < length old) × (new ≡ old)) ⊎ ((k ≡ length old) × (new ≡ old ++ r ∷ [])) → All P old → P r → All P new
fit_kept P old new r k (inl (low, e)) all here = All-same P new old e all
fit_kept P old new r k (inr (last, e)) all here = All-same P new (old ++ r ∷ []) e (All-push P old r all here)

-- rows that differ as they are held differ as rows
module _ (form : SetsHaveOneForm) (b : Both) where
  same_row : (p q : Row) → p.text ≡ q.text → p.first ≡ q.first → p.second ≡ q.second → p ≡ q
  same_row p q t f s = λ i. record { text = t i; first = f i; second = s i }

  one_hedge : (p q : Row) → IsHedgeFit b p → IsHedgeFit b q → hedge_row p ≡ hedge_row q → p ≡ q
  one_hedge p q a c e =
      same_row p q (ap (λ (r : HedgeRow). r.ends) e) (members_one form p.first q.first a.first c.first (a.first_size ∙ sym c.first_size) (ap (λ (r : HedgeRow). r.first) e))
      (members_one form p.second q.second a.second c.second (a.second_size ∙ sym c.second_size) (ap (λ (r : HedgeRow). r.second) e))

  one_tree : (p q : Row) → IsTreeFit b p → IsTreeFit b q → tree_row p ≡ tree_row q → p ≡ q
  one_tree p q a c e =
      same_row p q (ap (λ (r : TreeRow). r.is_text) e) (members_one form p.first q.first a.first c.first (a.first_size ∙ sym c.first_size) (ap (λ (r : TreeRow). r.first) e))
      (members_one form p.second q.second a.second c.second (a.second_size ∙ sym c.second_size) (ap (λ (r : TreeRow). r.second) e))

  different_rows : {Y : Type 0} (f : Row → Y) (P : Row → Type 0) (one : (p q : Row) → P p → P q → f p ≡ f q → p ≡ q) (xs : List Row) → All P xs → AreDifferent xs → AreDifferent (map f xs)
  different_rows f P one xs all different i j y p q =
      let li : i < length xs = subst (λ n. i < n) (length-map xs f) (slice_get_within (map f xs) i y p) in
      let lj : j < length xs = subst (λ n. j < n) (length-map xs f) (slice_get_within (map f xs) j y q) in
      by (some xs i li) (some xs j lj)
    where
      some : (ys : List Row) (k : ℕ) → k < length ys → (r : Row) × (slice_get ys k ≡ Some r)
      some [] k l = absurd (omega (arith, l))
      some (r ∷ ys) zero l = (r, refl)
      some (r ∷ ys) (suc k) l = some ys k (omega (arith, l))

      fit : (k : ℕ) (r : Row) → slice_get xs k ≡ Some r → P r
      fit k r at = subst P (get_or_from_slice_get xs k r r at) (All-get_or P xs k r (slice_get_within xs k r at) all)

      by : (r : Row) × (slice_get xs i ≡ Some r) → (t : Row) × (slice_get xs j ≡ Some t) → i ≡ j
      by (r, a) (t, c) =
          let er : f r ≡ y = sym (row_at f xs y i r a) ∙ get_or_from_slice_get (map f xs) i y y p in
          let et : f t ≡ y = sym (row_at f xs y j t c) ∙ get_or_from_slice_get (map f xs) j y y q in
          different i j r a (c ∙ ap Some (sym (one r t (fit i r a) (fit j t c) (er ∙ sym et))))

  pub known_of : (IsOf : Schemas → Type 0) (hs ts : List Row) → AreHeld IsOf b hs ts → Known IsOf (state_of b hs ts)
  known_of IsOf hs ts held = record {
    some = held.some;
    are = held.are;
    symbols = λ x is. let t = held.told x is in t.symbols;
    hedges = different_rows hedge_row (IsHedgeFit b) one_hedge hs held.hedges_fit held.hedges_differ;
    trees = different_rows tree_row (IsTreeFit b) one_tree ts held.trees_fit held.trees_differ;
  }

module _ (IsOf : Schemas → Type 0) (b : Both) (hs ts : List Row) (held : AreHeld IsOf b hs ts) where
  abbrev before : State
  before = state_of b hs ts

  -- a list of trees comes on
  module _ (ks : List Row) (u : ℕ) (r : Row) (at : slice_get ks u ≡ Some r) (kept : ((u < length hs) × (ks ≡ hs)) ⊎ ((u ≡ length hs) × (ks ≡ hs ++ r ∷ []))) where
    abbrev keep : Keeps hs ks u r
    keep = keeps hs ks u r at kept

    abbrev with_hedge : State
    with_hedge = state_of b ks ts

    pub hedge_held : AreDifferent ks → IsHedgeFit b r → AreHeld IsOf b ks ts
    hedge_held different fit = record {
      some = held.some;
      are = held.are;
      told = held.told;
      hedges_fit = fit_kept (IsHedgeFit b) hs ks r u kept held.hedges_fit fit;
      trees_fit = held.trees_fit;
      hedges_differ = different;
      trees_differ = held.trees_differ;
    }

    pub hedge_grows : Grows (held_of IsOf before) (held_of IsOf with_hedge)
    hedge_grows = grows before with_hedge refl (map hedge_row keep.more) (ap (map hedge_row) keep.all ∙ map-append hedge_row hs keep.more) [] (sym (append-nil (map tree_row ts))) IsOf

    pub hedge_as : IsHeldAs (length (map hedge_row hs)) (length (map hedge_row ks)) u
    hedge_as = subst (λ n. IsHeldAs n (length (map hedge_row ks)) u) (sym (length-map hs hedge_row)) (subst (λ n. IsHeldAs (length hs) n u) (sym (length-map ks hedge_row)) keep.held)

    hedge_here : u < length (map hedge_row ks)
    hedge_here = subst (λ n. u < n) (sym (length-map ks hedge_row)) keep.here

    hedge_is : hedge_at with_hedge u ≡ hedge_row r
    hedge_is = row_at hedge_row ks no_hedge u r at

    -- a row that was held still is
    hedge_was : (h : ℕ) (p : Row) → slice_get hs h ≡ Some p → hedge_at with_hedge h ≡ hedge_row p
    hedge_was h p there = row_at hedge_row ks no_hedge h p (subst (λ w. slice_get w h ≡ Some p) (sym keep.all) (front hs keep.more h p there))

    pub none_at : IsNone b r → IsNoneAt (held_of IsOf with_hedge) u
    none_at made = (hedge_here, λ x is. subst (IsEmptyRow x) (sym hedge_is) (made x (held.told x is)))

    pub append_at : (h t : ℕ) (p q : Row) → slice_get hs h ≡ Some p → slice_get ts t ≡ Some q → IsAppended b p q r → IsAppendAt (held_of IsOf with_hedge) h t u
    append_at h t p q a c made = (
      hedge_here,
      λ x is.
          let App : HedgeRow → TreeRow → HedgeRow → Type 0 = λ d e f. IsLiveAppend x d e × IsAppend x d e f in
          subst (λ d. App d (tree_at with_hedge t) (hedge_at with_hedge u)) (sym (hedge_was h p a))
          (subst (λ e. App (hedge_row p) e (hedge_at with_hedge u)) (sym (row_at tree_row ts no_tree t q c)) (subst (λ f. App (hedge_row p) (tree_row q) f) (sym hedge_is) (made x (held.told x is)))),
    )

  -- a tree comes on
  module _ (ks : List Row) (u : ℕ) (r : Row) (at : slice_get ks u ≡ Some r) (kept : ((u < length ts) × (ks ≡ ts)) ⊎ ((u ≡ length ts) × (ks ≡ ts ++ r ∷ []))) where
    abbrev keep_tree : Keeps ts ks u r
    keep_tree = keeps ts ks u r at kept

    abbrev with_tree : State
    with_tree = state_of b hs ks

    pub tree_held : AreDifferent ks → IsTreeFit b r → AreHeld IsOf b hs ks
    tree_held different fit = record {
      some = held.some;
      are = held.are;
      told = held.told;
      hedges_fit = held.hedges_fit;
      trees_fit = fit_kept (IsTreeFit b) ts ks r u kept held.trees_fit fit;
      hedges_differ = held.hedges_differ;
      trees_differ = different;
    }

    pub tree_grows : Grows (held_of IsOf before) (held_of IsOf with_tree)
    tree_grows = grows before with_tree refl [] (sym (append-nil (map hedge_row hs))) (map tree_row keep_tree.more) (ap (map tree_row) keep_tree.all ∙ map-append tree_row ts keep_tree.more) IsOf

    pub tree_as : IsHeldAs (length (map tree_row ts)) (length (map tree_row ks)) u
    tree_as = subst (λ n. IsHeldAs n (length (map tree_row ks)) u) (sym (length-map ts tree_row)) (subst (λ n. IsHeldAs (length ts) n u) (sym (length-map ks tree_row)) keep_tree.held)

    tree_here : u < length (map tree_row ks)
    tree_here = subst (λ n. u < n) (sym (length-map ks tree_row)) keep_tree.here

    tree_is : tree_at with_tree u ≡ tree_row r
    tree_is = row_at tree_row ks no_tree u r at

    pub text_at : IsText b r → IsTextAt (held_of IsOf with_tree) u
    text_at made = (tree_here, λ x is. let (live, row) = made x (held.told x is) in (live, subst (IsTextRow x) (sym tree_is) row))

    pub wrap_at : (a h : ℕ) (p : Row) → slice_get hs h ≡ Some p → IsWrapped b a p r → IsWrapAt (held_of IsOf with_tree) a h u
    wrap_at a h p there made = (
      tree_here,
      λ x is.
          let Wrap : HedgeRow → TreeRow → Type 0 = λ d f. IsLiveWrap x a d × IsWrap x a d f in
          subst (λ d. Wrap d (tree_at with_tree u)) (sym (row_at hedge_row hs no_hedge h p there)) (subst (λ f. Wrap (hedge_row p) f) (sym tree_is) (made x (held.told x is))),
    )

  -- nothing comes on
  pub same_grows : Grows (held_of IsOf before) (held_of IsOf before)
  same_grows = grows before before refl [] (sym (append-nil (map hedge_row hs))) [] (sym (append-nil (map tree_row ts))) IsOf

  pub no_append_at : (h t : ℕ) (p q : Row) → slice_get hs h ≡ Some p → slice_get ts t ≡ Some q → NoAppended b p q → (x : Schemas) → IsOf x → ¬ IsLiveAppend x (hedge_at before h) (tree_at before t)
  no_append_at h t p q a c dead x is =
      subst (λ d. IsLiveAppend x d (tree_at before t) → ⊥) (sym (row_at hedge_row hs no_hedge h p a)) (subst (λ e. IsLiveAppend x (hedge_row p) e → ⊥) (sym (row_at tree_row ts no_tree t q c)) (dead x (held.told x is)))

  pub no_wrap_at : (a h : ℕ) (p : Row) → slice_get hs h ≡ Some p → NoWrapped b a p → (x : Schemas) → IsOf x → ¬ IsLiveWrap x a (hedge_at before h)
  no_wrap_at a h p there dead x is = subst (λ d. IsLiveWrap x a d → ⊥) (sym (row_at hedge_row hs no_hedge h p there)) (dead x (held.told x is))

  pub fails_at : (t : ℕ) (q : Row) → slice_get ts t ≡ Some q → Fails b q → (held_of IsOf before).fails t
  fails_at t q c fails x is = subst (IsFailing x) (sym (row_at tree_row ts no_tree t q c)) (fails x (held.told x is))

  pub passes_at : (t : ℕ) (q : Row) → slice_get ts t ≡ Some q → Passes b q → (held_of IsOf before).passes t
  passes_at t q c passes x is = subst (λ r. IsFailing x r → ⊥) (sym (row_at tree_row ts no_tree t q c)) (passes x (held.told x is))

-- what is held stays so
pub grows_itself : (IsOf : Schemas → Type 0) (s : State) → Grows (held_of IsOf s) (held_of IsOf s)
grows_itself IsOf s = grows s s refl [] (sym (append-nil s.hedges)) [] (sym (append-nil s.trees)) IsOf

-- a row of a list
pub hedge_fit_at : (b : Both) (hs : List Row) (h : ℕ) (p : Row) → slice_get hs h ≡ Some p → All (IsHedgeFit b) hs → IsHedgeFit b p
hedge_fit_at b hs h p at all = subst (IsHedgeFit b) (get_or_from_slice_get hs h p p at) (All-get_or (IsHedgeFit b) hs h p (slice_get_within hs h p at) all)

pub tree_fit_at : (b : Both) (ts : List Row) (t : ℕ) (q : Row) → slice_get ts t ≡ Some q → All (IsTreeFit b) ts → IsTreeFit b q
tree_fit_at b ts t q at all = subst (IsTreeFit b) (get_or_from_slice_get ts t q q at) (All-get_or (IsTreeFit b) ts t q (slice_get_within ts t q at) all)

-- the same, told of the state that was seen before
module _ (IsOf : Schemas → Type 0) (b : Both) (hs ts : List Row) (held : AreHeld IsOf b hs ts) (now : State) (seen : state_of b hs ts ≡ now) where
  abbrev GrowsTo : State → Type 0
  GrowsTo s = Grows (held_of IsOf now) (held_of IsOf s)

  from_now : (s : State) → Grows (held_of IsOf (state_of b hs ts)) (held_of IsOf s) → GrowsTo s
  from_now s g = subst (λ w. Grows (held_of IsOf w) (held_of IsOf s)) seen g

  pub same_trees : (ks : List Row) → ks ≡ ts → GrowsTo (state_of b hs ks)
  same_trees ks e = subst (λ l. GrowsTo (state_of b hs l)) (sym e) (from_now (state_of b hs ts) (same_grows IsOf b hs ts held))

  pub same_hedges : (ks : List Row) → ks ≡ hs → GrowsTo (state_of b ks ts)
  same_hedges ks e = subst (λ l. GrowsTo (state_of b l ts)) (sym e) (from_now (state_of b hs ts) (same_grows IsOf b hs ts held))

  module _ (ks : List Row) (u : ℕ) (r : Row) (at : slice_get ks u ≡ Some r) where
    pub more_hedges : ((u < length hs) × (ks ≡ hs)) ⊎ ((u ≡ length hs) × (ks ≡ hs ++ r ∷ [])) → GrowsTo (state_of b ks ts)
    more_hedges kept = from_now (state_of b ks ts) (hedge_grows IsOf b hs ts held ks u r at kept)

    pub more_trees : ((u < length ts) × (ks ≡ ts)) ⊎ ((u ≡ length ts) × (ks ≡ ts ++ r ∷ [])) → GrowsTo (state_of b hs ks)
    more_trees kept = from_now (state_of b hs ks) (tree_grows IsOf b hs ts held ks u r at kept)

    pub as_hedge : ((u < length hs) × (ks ≡ hs)) ⊎ ((u ≡ length hs) × (ks ≡ hs ++ r ∷ [])) → IsHeldAs (length now.hedges) (length (map hedge_row ks)) u
    as_hedge kept = subst (λ (s : State). IsHeldAs (length s.hedges) (length (map hedge_row ks)) u) seen (hedge_as IsOf b hs ts held ks u r at kept)

    pub as_tree : ((u < length ts) × (ks ≡ ts)) ⊎ ((u ≡ length ts) × (ks ≡ ts ++ r ∷ [])) → IsHeldAs (length now.trees) (length (map tree_row ks)) u
    as_tree kept = subst (λ (s : State). IsHeldAs (length s.trees) (length (map tree_row ks)) u) seen (tree_as IsOf b hs ts held ks u r at kept)

  -- a number of a row that is held
  pub hedge_low : (h : ℕ) → h < length now.hedges → h < length hs
  hedge_low h l = subst (λ n. h < n) (length-map hs hedge_row) (subst (λ (s : State). h < length s.hedges) (sym seen) l)

  pub tree_low : (t : ℕ) → t < length now.trees → t < length ts
  tree_low t l = subst (λ n. t < n) (length-map ts tree_row) (subst (λ (s : State). t < length s.trees) (sym seen) l)

-- a row that is lent is one of those that are held
pub row_of : (hs ks : List Row) (i : ℕ) (p : Row) → ks ≡ hs → p ≡ get_or ks i p → i < length hs → slice_get hs i ≡ Some p
row_of hs ks i p same is low = slice_get-get_or hs i p low ∙ ap Some (sym (is ∙ ap (λ l. get_or l i p) same))
