-- The limits that spots pass, in the order in which they are tried.
use Rattle.std.proofs.Common.{◌≡◌, ◌⊎◌, inl, inr, ◌<◌, ◌≤◌, ◌∙◌, refl, sym, ap, subst, ℕ, zero, suc, List, [], ◌∷◌, ◌++◌, append_assoc, Contains, arith}
use Rattle.std.proofs.lemmas.Bool.{cases_lt}
use Rattle.std.proofs.lemmas.List.Elements.{Contains-append_left, Contains-append_right, Contains-append_cases}
use Rattle.tc_base.specs.declared.Limit.{Limit}
use Rattle.tc_base.specs.declared.Limit.TheVariants.{Calls, Entries}
use Rattle.tc_base.specs.declared.limits.TheConstants.{DEEPEST_CALLS, MOST_ENTRIES}
use Rattle.tc_dead.specs.Marked.{marked_at, plain_schema}
use Rattle.tc_dead.specs.Spots.{Spot, spots_of}
use Rattle.tc_decide.specs.Checking.{most_of, IsWithinTripleLimits, PassesTripleLimit, by_input, by_output, by_sheet, HasManyEntries, HasManyRows}
use Rattle.tc_decide.specs.Checking as triple
use Rattle.tc_decide.specs.DeadSpots.{stage, KeepsSheetLimits, KeepsCalls, IsWithinSpotLimits, OfEach, KeepSpots, PassSpots, by_text, by_calls, by_entries, by_rows}
use Rattle.tc_decide.specs.DeadSpotsSeen.{stage_of, StopsSpot, StopsSpots}
use Rattle.tc_decide.specs.Limits.{PassesLimit, passes_size, passes_states, SheetPasses, sheet_symbols, sheet_predicates, sheet_ancestors, sheet_selects}
use Rattle.tc_decide.specs.RowCounts.{row_count}
use Rattle.tc_decide.specs.declared.failure.Failure.{Failure}
use Rattle.tc_decide.specs.declared.failure.Failure.TheVariants.{Refused, Passes, NoMemory}
use Rattle.tc_decide.specs.declared.failure.Kind.{Kind}
use Rattle.tc_decide.specs.declared.failure.Kind.TheVariants.{Texts, Rows, Nodes, Certificate, Work, Open, Pieces}
use Rattle.tc_decide.specs.declared.limits.TheConstants.{MOST_ROWS}
use Rattle.tc_decide.proofs.Passing.{over_schema, over_sheet, over_triple}
use Rattle.tc_decide.proofs.SpotLimits.{sheet_kept_too}
use Rattle.tc_model.specs.Grammars.{Grammar}
use Rattle.tc_model.specs.Sheets.{Sheet}
use Rattle.tc_model.specs.States.{Side}
use Rattle.tc_model.specs.Symbols.{Mention}
use Rattle.tc_read.specs.Schemas.{passes_pattern, passes_depth, passes_elements}
use Rattle.tc_rows.specs.Counts.{PassCalls}

-- limits of schemas and of stylesheets are tried first

early_schema : {g : Grammar} {side : Side} {most : ℕ} {kind : Limit} {number : ℕ} → PassesLimit g side most kind number → stage (Texts kind) ≡ 0
early_schema (passes_size (passes_pattern x)) = refl
early_schema (passes_size (passes_depth x)) = refl
early_schema (passes_size (passes_elements x)) = refl
early_schema (passes_states c x) = refl

early_sheet : {symbols : List Mention} {s : Sheet} {kind : Limit} {number : ℕ} → SheetPasses symbols s kind number → stage (Texts kind) ≡ 0
early_sheet (sheet_symbols x) = refl
early_sheet (sheet_predicates a x) = refl
early_sheet (sheet_ancestors a b x) = refl
early_sheet (sheet_selects a b c x) = refl

-- one that is passed, by the stage at which it is tried
data Sorted (i : Grammar) (s : Sheet) (p : Spot) : Limit → ℕ → Type 0 where
  at_first : {kind : Limit} {number : ℕ} → stage (Texts kind) ≡ 0 → Sorted i s p kind number
  at_calls : KeepsSheetLimits i s p → PassCalls (marked_at p s) DEEPEST_CALLS → Sorted i s p Calls DEEPEST_CALLS
  at_entries : KeepsCalls i s p → HasManyEntries i plain_schema (marked_at p s) → Sorted i s p Entries MOST_ENTRIES

module _ (i : Grammar) (s : Sheet) (p : Spot) where
  sorted : {kind : Limit} {number : ℕ} → PassesTripleLimit i plain_schema (marked_at p s) kind number → Sorted i s p kind number
  sorted (by_input x) = at_first (early_schema x)
  sorted (by_output a x) = at_first (early_schema x)
  sorted (by_sheet a b x) = at_first (early_sheet x)
  sorted (triple.by_calls a b c x) = at_calls (record { input = a; output = b; sheet = c }) x
  sorted (triple.by_entries a b c d x) = at_entries (record { input = a; output = b; sheet = c }, d) x

  pub calls_kept : IsWithinSpotLimits i s p → KeepsCalls i s p
  calls_kept w = (record { input = w.input; output = w.output; sheet = w.sheet }, w.calls)

  -- what passes a limit that is tried first doesn't keep those
  over_first : {kind : Limit} {number : ℕ} → stage (Texts kind) ≡ 0 → PassesTripleLimit i plain_schema (marked_at p s) kind number → KeepsSheetLimits i s p → ⊥
  over_first e (by_input x) w = over_schema x w.input
  over_first e (by_output a x) w = over_schema x w.output
  over_first e (by_sheet a b x) w = over_sheet x w.sheet
  over_first e (triple.by_calls a b c x) w = omega (arith, e)
  over_first e (triple.by_entries a b c d x) w = omega (arith, e)

  -- the limits that are tried before this stage are kept
  pub record Reaches (n : ℕ) : Type 0 where
    pub sheet : 1 ≤ n → KeepsSheetLimits i s p
    pub calls : 2 ≤ n → KeepsCalls i s p
    pub all : 3 ≤ n → IsWithinSpotLimits i s p

  pub reaches_all : IsWithinSpotLimits i s p → (n : ℕ) → Reaches n
  reaches_all w n = record { sheet = λ _. (calls_kept w).0; calls = λ _. calls_kept w; all = λ _. w }

  reaches_sorted : {kind : Limit} {number : ℕ} → Sorted i s p kind number → (n : ℕ) → n ≤ stage (Texts kind) → Reaches n
  reaches_sorted (at_first e) n h = record { sheet = λ l. absurd (omega (arith, e, h, l)); calls = λ l. absurd (omega (arith, e, h, l)); all = λ l. absurd (omega (arith, e, h, l)) }
  reaches_sorted (at_calls k x) n h = record { sheet = λ _. k; calls = λ l. absurd (omega (arith, h, l)); all = λ l. absurd (omega (arith, h, l)) }
  reaches_sorted (at_entries k x) n h = record { sheet = λ _. k.0; calls = λ _. k; all = λ l. absurd (omega (arith, h, l)) }

  pub reaches : (e : Failure) → StopsSpot i s p e → (n : ℕ) → n ≤ stage_of e → Reaches n
  reaches (Passes (Texts kind) number) x n h = reaches_sorted (sorted x.0) n h
  reaches (Passes (Rows count) number) x n h = reaches_all x.0.0 n
  reaches (Passes Nodes number) x n h = absurd x.1
  reaches (Passes Certificate number) x n h = absurd x.1
  reaches (Passes Work number) x n h = absurd x.1
  reaches (Passes Open number) x n h = absurd x.1
  reaches (Passes (Pieces measure) number) x n h = absurd x.1
  reaches (Refused which reason at) x n h = absurd x
  reaches NoMemory x n h = record { sheet = λ l. absurd (omega (arith, h, l)); calls = λ l. absurd (omega (arith, h, l)); all = λ l. absurd (omega (arith, h, l)) }

-- one more spot

one_of : (p q : Spot) → Contains (p ∷ []) q → p ≡ q
one_of p q (zero, l, e) = e
one_of p q (suc k, l, e) = absurd (omega (arith, l))

last_of : (ps : List Spot) (p : Spot) → Contains (ps ++ p ∷ []) p
last_of ps p = Contains-append_right ps (p ∷ []) p (0, omega arith, refl)

pub joined : (P : Spot → Type 0) (ps qs : List Spot) → OfEach ps P → OfEach qs P → OfEach (ps ++ qs) P
joined P ps qs first second q c = by (Contains-append_cases ps qs q c)
  where
    by : Contains ps q ⊎ Contains qs q → P q
    by (inl x) = first q x
    by (inr x) = second q x

extend : (P : Spot → Type 0) (ps : List Spot) (p : Spot) → OfEach ps P → P p → OfEach (ps ++ p ∷ []) P
extend P ps p each this q c = by (Contains-append_cases ps (p ∷ []) q c)
  where
    by : Contains ps q ⊎ Contains (p ∷ []) q → P q
    by (inl x) = each q x
    by (inr x) = subst P (one_of p q x) this

module _ (i : Grammar) (s : Sheet) (ps : List Spot) where
  -- what is passed by one of several, the limits before it are kept by all
  pub prior : {kind : Kind} {number : ℕ} → PassSpots i s ps kind number → OfEach ps (λ q. Reaches i s q (stage kind))
  prior (by_text p e c x) q d = record { sheet = λ l. absurd (omega (arith, e, l)); calls = λ l. absurd (omega (arith, e, l)); all = λ l. absurd (omega (arith, e, l)) }
  prior (by_calls p each c x) q d = record { sheet = λ _. each q d; calls = λ l. absurd (omega (arith, l)); all = λ l. absurd (omega (arith, l)) }
  prior (by_entries p each c x) q d = record { sheet = λ _. (each q d).0; calls = λ _. each q d; all = λ l. absurd (omega (arith, l)) }
  prior (by_rows p earlier later each e kept x) q d = reaches_all i s q (each q d) 3

  no_later : {kind : Kind} {number : ℕ} → PassSpots i s ps kind number → 4 ≤ stage kind → ⊥
  no_later (by_text p e c x) h = omega (arith, e, h)
  no_later (by_calls p each c x) h = omega (arith, h)
  no_later (by_entries p each c x) h = omega (arith, h)
  no_later (by_rows p earlier later each e kept x) h = omega (arith, h)

  -- what is passed is so, where the spots that come later keep what is tried before it
  pub grow : {kind : Kind} {number : ℕ} (p : Spot) → PassSpots i s ps kind number → Reaches i s p (stage kind) → PassSpots i s (ps ++ p ∷ []) kind number
  grow p (by_text q e c x) r = by_text q e (Contains-append_left ps (p ∷ []) q c) x
  grow p (by_calls q each c x) r = by_calls q (extend (KeepsSheetLimits i s) ps p each (r.sheet (omega arith))) (Contains-append_left ps (p ∷ []) q c) x
  grow p (by_entries q each c x) r = by_entries q (extend (KeepsCalls i s) ps p each (r.calls (omega arith))) (Contains-append_left ps (p ∷ []) q c) x
  grow p (by_rows q earlier later each e kept x) r =
      by_rows q earlier (later ++ p ∷ []) (extend (IsWithinSpotLimits i s) ps p each (r.all (omega arith))) (ap (λ z. z ++ p ∷ []) e ∙ append_assoc earlier (q ∷ later) (p ∷ [])) kept x

  -- where it is tried first, or is calls, whatever spots of the stylesheet come later
  pub grow_early : (f : Failure) (qs : List Spot) → stage_of f ≤ 1 → OfEach ps (Contains (spots_of s)) → OfEach qs (Contains (spots_of s)) → StopsSpots i s ps f → StopsSpots i s (ps ++ qs) f
  grow_early (Passes kind number) qs early ours theirs x = by x early
    where
      by : {kind : Kind} {number : ℕ} → PassSpots i s ps kind number → stage kind ≤ 1 → PassSpots i s (ps ++ qs) kind number
      by (by_text q e c y) h = by_text q e (Contains-append_left ps qs q c) y
      by (by_calls q each c y) h = by_calls q (joined (KeepsSheetLimits i s) ps qs each (λ r d. sheet_kept_too i s q r (ours q c) (theirs r d) (each q c))) (Contains-append_left ps qs q c) y
      by (by_entries q each c y) h = absurd (omega (arith, h))
      by (by_rows q earlier later each e kept y) h = absurd (omega (arith, h))
  grow_early (Refused which reason at) qs early ours theirs x = absurd x
  grow_early NoMemory qs early ours theirs x = tt

  module _ (p : Spot) where
    pub grow_kept : (f : Failure) → StopsSpots i s ps f → IsWithinSpotLimits i s p → StopsSpots i s (ps ++ p ∷ []) f
    grow_kept (Passes kind number) x w = grow p x (reaches_all i s p w (stage kind))
    grow_kept (Refused which reason at) x w = absurd x
    grow_kept NoMemory x w = tt

    pub grow_worse : (f here : Failure) → StopsSpots i s ps f → StopsSpot i s p here → stage_of f ≤ stage_of here → StopsSpots i s (ps ++ p ∷ []) f
    grow_worse (Passes kind number) here x y h = grow p x (reaches i s p here y (stage kind) h)
    grow_worse (Refused which reason at) here x y h = absurd x
    grow_worse NoMemory here x y h = tt

    -- what is tried before what was passed so far
    better_text : {kind : Kind} {number : ℕ} {limit : Limit} {n : ℕ} → PassSpots i s ps kind number → PassesTripleLimit i plain_schema (marked_at p s) limit n → Sorted i s p limit n
        → stage (Texts limit) < stage kind → PassSpots i s (ps ++ p ∷ []) (Texts limit) n
    better_text x y (at_first e) h = by_text p e (last_of ps p) y
    better_text x y (at_calls k z) h = by_calls p (extend (KeepsSheetLimits i s) ps p (λ q c. (prior x q c).sheet (omega (arith, h))) k) (last_of ps p) z
    better_text x y (at_entries k z) h = by_entries p (extend (KeepsCalls i s) ps p (λ q c. (prior x q c).calls (omega (arith, h))) k) (last_of ps p) z

    pub grow_better : (f here : Failure) → StopsSpots i s ps f → StopsSpot i s p here → stage_of here < stage_of f → StopsSpots i s (ps ++ p ∷ []) here
    grow_better (Passes kind number) (Passes (Texts limit) n) x y h = better_text x y.0 (sorted i s p y.0) h
    grow_better (Passes kind number) (Passes (Rows count) n) x y h = absurd (no_later x (omega (arith, h)))
    grow_better (Passes kind number) (Passes Nodes n) x y h = absurd y.1
    grow_better (Passes kind number) (Passes Certificate n) x y h = absurd y.1
    grow_better (Passes kind number) (Passes Work n) x y h = absurd y.1
    grow_better (Passes kind number) (Passes Open n) x y h = absurd y.1
    grow_better (Passes kind number) (Passes (Pieces measure) n) x y h = absurd y.1
    grow_better (Passes kind number) (Refused which reason at) x y h = absurd y
    grow_better (Passes kind number) NoMemory x y h = tt
    grow_better (Refused which reason at) here x y h = absurd x
    grow_better NoMemory here x y h = absurd (omega (arith, h))

    pub grow_either : (f here r : Failure) → StopsSpots i s ps f → StopsSpot i s p here → ((r ≡ here) × (stage_of here < stage_of f)) ⊎ ((r ≡ f) × (stage_of f ≤ stage_of here))
        → StopsSpots i s (ps ++ p ∷ []) r
    grow_either f here r x y (inl h) = subst (StopsSpots i s (ps ++ p ∷ [])) (sym h.0) (grow_better f here x y h.1)
    grow_either f here r x y (inr h) = subst (StopsSpots i s (ps ++ p ∷ [])) (sym h.0) (grow_worse f here x y h.1)

    -- the first that is passed
    stop_text : {limit : Limit} {n : ℕ} → KeepSpots i s ps → PassesTripleLimit i plain_schema (marked_at p s) limit n → Sorted i s p limit n → PassSpots i s (ps ++ p ∷ []) (Texts limit) n
    stop_text kept y (at_first e) = by_text p e (last_of ps p) y
    stop_text kept y (at_calls k z) = by_calls p (extend (KeepsSheetLimits i s) ps p (λ q c. (calls_kept i s q (kept q c).0).0) k) (last_of ps p) z
    stop_text kept y (at_entries k z) = by_entries p (extend (KeepsCalls i s) ps p (λ q c. calls_kept i s q (kept q c).0) k) (last_of ps p) z

    pub first_stop : (e : Failure) → KeepSpots i s ps → StopsSpot i s p e → StopsSpots i s (ps ++ p ∷ []) e
    first_stop (Passes (Texts limit) n) kept y = stop_text kept y.0 (sorted i s p y.0)
    first_stop (Passes (Rows count) n) kept y =
        subst (PassSpots i s (ps ++ p ∷ []) (Rows count)) (sym y.0.2)
        (by_rows p ps [] (extend (IsWithinSpotLimits i s) ps p (λ q c. (kept q c).0) y.0.0) refl kept y.0.1)
    first_stop (Passes Nodes n) kept y = absurd y.1
    first_stop (Passes Certificate n) kept y = absurd y.1
    first_stop (Passes Work n) kept y = absurd y.1
    first_stop (Passes Open n) kept y = absurd y.1
    first_stop (Passes (Pieces measure) n) kept y = absurd y.1
    first_stop (Refused which reason at) kept y = absurd y
    first_stop NoMemory kept y = tt

  in_middle : (p : Spot) (earlier later : List Spot) → ps ≡ earlier ++ p ∷ later → Contains ps p
  in_middle p earlier later e = subst (λ (z : List Spot). Contains z p) (sym e) (Contains-append_right earlier (p ∷ later) p (0, omega arith, refl))

  -- what passes a limit doesn't keep all
  pub not_all : {kind : Kind} {number : ℕ} → KeepSpots i s ps → PassSpots i s ps kind number → ⊥
  not_all kept (by_text p e c x) = over_triple x (kept p c).0
  not_all kept (by_calls p each c x) = (kept p c).0.calls x
  not_all kept (by_entries p each c x) = (kept p c).0.entries x
  not_all kept (by_rows {count} p earlier later each e k x) = (kept p (in_middle p earlier later e)).1 (row_count count) x

  -- nothing else is passed at another stage
  not_before : {kind other : Kind} {number n : ℕ} → PassSpots i s ps kind number → PassSpots i s ps other n → stage kind < stage other → ⊥
  not_before (by_text p e c x) y h = over_first i s p e x ((prior y p c).sheet (omega (arith, e, h)))
  not_before (by_calls p each c x) y h = ((prior y p c).calls (omega (arith, h))).1 x
  not_before (by_entries p each c x) y h = ((prior y p c).all (omega (arith, h))).entries x
  not_before (by_rows p earlier later each e kept x) y h = no_later y (omega (arith, h))

  pub same_stage : {kind other : Kind} {number n : ℕ} → PassSpots i s ps kind number → PassSpots i s ps other n → stage kind ≡ stage other
  same_stage {kind} {other} x y = by (cases_lt (stage kind) (stage other)) (cases_lt (stage other) (stage kind))
    where
      by : (stage kind < stage other) ⊎ (stage other ≤ stage kind) → (stage other < stage kind) ⊎ (stage kind ≤ stage other) → stage kind ≡ stage other
      by (inl a) b = absurd (not_before x y a)
      by (inr a) (inl b) = absurd (not_before y x b)
      by (inr a) (inr b) = omega (arith, a, b)
