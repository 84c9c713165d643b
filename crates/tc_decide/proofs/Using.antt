-- The documents that instantiate a spot are those that the stylesheet in which it is marked makes into what isn't plain.
use Rattle.std.proofs.Common.{◌≡◌, refl, sym, subst, inl, inr, Result, Ok, Err, IfOk, IfErr}
use Rattle.tc_close.specs.Decisions.{IsDecided, IsCloseCause}
use Rattle.tc_close.specs.declared.decision.CloseFault.{CloseFault}
use Rattle.tc_close.specs.declared.decision.CloseFault.TheVariants as close
use Rattle.tc_close.specs.declared.decision.Counts.{Counts}
use Rattle.tc_close.specs.declared.decision.Decision.TheVariants as decision
use Rattle.tc_dead.specs.Instantiated.{IsInstantiated, IsDead}
use Rattle.tc_dead.specs.Marked.{marked_at, plain_schema}
use Rattle.tc_dead.specs.Spots.{Spot}
use Rattle.tc_dead.specs.Tells.{Tells}
use Rattle.tc_decide.specs.Checking.{IsWithinTripleLimits, IsCounter, IsLeastCounter, HasLargeCounters}
use Rattle.tc_decide.specs.DeadSpots.{Uses, IsLeastUse, HasLargeUses}
use Rattle.tc_decide.specs.DeadSpotsSeen.{IsTelling, IsToldByRows, IsToldOf, StopsSpot}
use Rattle.tc_decide.specs.TextsSeen.{of_close}
use Rattle.tc_decide.specs.declared.failure.Failure.{Failure}
use Rattle.tc_decide.specs.declared.failure.Failure.TheVariants.{Refused, Passes, NoMemory}
use Rattle.tc_decide.specs.declared.failure.Kind.TheVariants.{Texts, Rows, Nodes, Certificate, Work, Open, Pieces}
use Rattle.tc_decide.specs.declared.limits.TheConstants.{MOST_ROWS}
use Rattle.tc_decide.specs.declared.spots.Told.{Told}
use Rattle.tc_decide.specs.declared.spots.Told.TheVariants.{Dead, Used, UsedTooLarge}
use Rattle.tc_decide.proofs.Triples.{itself, few_rows, least_counter}
use Rattle.tc_model.specs.Grammars.{Grammar}
use Rattle.tc_model.specs.Safety.{IsSafe}
use Rattle.tc_model.specs.Sheets.{Sheet}
use Rattle.tc_model.specs.Trees.{Trees, none}
use Rattle.tc_model.specs.Validity.{IsValidOutput}
use Rattle.tc_model.specs.declared.tree.Node.{Node}
use Rattle.tc_model.specs.Views as see
use Rattle.tc_model.proofs.Total.{one_result}
use Rattle.tc_rows.specs.Triples as t
use Rattle.tc_rows.specs.Triples.{Triple, IsTriple}

module _ (s : Sheet) (p : Spot) (d out : Trees) where
  instantiated : Tells p s d out → (IsValidOutput plain_schema out → ⊥) → IsInstantiated s d p
  instantiated (inl x) bad = absurd (bad x.0)
  instantiated (inr x) bad = x.0

  not_plain : Tells p s d out → IsInstantiated s d p → IsValidOutput plain_schema out → ⊥
  not_plain (inl x) reached good = x.1 reached
  not_plain (inr x) reached good = x.1 good

module _ (i : Grammar) (s : Sheet) (p : Spot) (telling : IsTelling s p) where
  pub uses_of : (d : Trees) → IsCounter i plain_schema (marked_at p s) d → Uses i s p d
  uses_of d x = (x.1.0, instantiated s p d x.0 (telling.tells d x.0 x.1.1) x.1.2)

  pub counter_of : (d : Trees) → Uses i s p d → IsCounter i plain_schema (marked_at p s) d
  counter_of d x =
      let only = one_result (marked_at p s) telling.sheet d in
      (only.0, (x.0, only.1, not_plain s p d only.0 (telling.tells d only.0 only.1) x.1))

  pub dead_of : IsSafe i plain_schema (marked_at p s) → IsDead i s p
  dead_of safe d valid reached = let good = safe d valid in not_plain s p d good.0 (telling.tells d good.0 good.1) reached good.2

  pub least_of : (d : Trees) → IsLeastCounter i plain_schema (marked_at p s) d → IsLeastUse i s p d
  least_of d x = record { uses = uses_of d x.counter; plain = x.plain; few = x.fewest.few; least = λ other y. x.fewest.least other (counter_of other y) }

  pub large_of : HasLargeCounters i plain_schema (marked_at p s) → HasLargeUses i s p
  large_of x = record { some = (x.some.0, uses_of x.some.0 x.some.1); large = λ d y. x.large d (counter_of d y) }

  pub told_by : (told : Told) → IsToldByRows i plain_schema (marked_at p s) (Ok told) → IsToldOf i s p told
  told_by Dead x = record { keeps = x.0; tells = dead_of x.1 }
  told_by (Used document) x = record { keeps = x.0; tells = least_of (see.before document none) x.1 }
  told_by UsedTooLarge x = record { keeps = x.0; tells = large_of x.1 }

-- what rows stop at
pub stopped_by : (i : Grammar) (s : Sheet) (p : Spot) (e : Failure) → IsToldByRows i plain_schema (marked_at p s) (Err e) → StopsSpot i s p e
stopped_by i s p (Passes (Texts kind) number) x = absurd x
stopped_by i s p (Passes (Rows count) number) x = (x, tt)
stopped_by i s p (Passes Nodes number) x = absurd x
stopped_by i s p (Passes Certificate number) x = absurd x
stopped_by i s p (Passes Work number) x = absurd x
stopped_by i s p (Passes Open number) x = absurd x
stopped_by i s p (Passes (Pieces measure) number) x = absurd x
stopped_by i s p (Refused which reason at) x = absurd x
stopped_by i s p NoMemory x = tt

module _ (Is : Grammar → Type 0) (s : Sheet) (p : Spot) (telling : IsTelling s p) where
  pub all_told : (r : Result Told Failure) → ((i : Grammar) → Is i → IsToldByRows i plain_schema (marked_at p s) r) → IfOk r (λ told. (i : Grammar) → Is i → IsToldOf i s p told)
  all_told (Ok told) h = λ i is. told_by i s p telling told (h i is)
  all_told (Err e) h = tt

pub all_stopped : (Is : Grammar → Type 0) (s : Sheet) (p : Spot) (r : Result Told Failure) → ((i : Grammar) → Is i → IsToldByRows i plain_schema (marked_at p s) r)
    → IfErr r (λ e. (i : Grammar) → Is i → StopsSpot i s p e)
all_stopped Is s p (Ok told) h = tt
all_stopped Is s p (Err e) h = λ i is. stopped_by i s p e (h i is)

-- what rows tell is so of a document that is the same
pub rows_copied : (i o : Grammar) (s : Sheet) (document made : Node) → ((rest : Trees) → see.before made rest ≡ see.before document rest) → IsToldByRows i o s (Ok (Used document)) → IsToldByRows i o s (Ok (Used made))
rows_copied i o s document made same h = (h.0, subst (IsLeastCounter i o s) (sym (same none)) h.1)

-- what is decided of a machine

module _ (x : Triple) (is : IsTriple x) (w : IsWithinTripleLimits x.input x.output (t.sheet x)) where
  pub rows_dead : (n : Counts) → IsDecided x MOST_ROWS (decision.Safe n) → IsToldByRows x.input x.output (t.sheet x) (Ok Dead)
  rows_dead n h = ((w, few_rows x is h.keeps), h.safe)

  pub rows_used : (document : _) → IsDecided x MOST_ROWS (decision.Unsafe document) → IsToldByRows x.input x.output (t.sheet x) (Ok (Used document))
  rows_used document h = ((w, few_rows x is h.keeps), least_counter x is h)

  pub rows_large : IsDecided x MOST_ROWS decision.TooManyNodes → IsToldByRows x.input x.output (t.sheet x) (Ok UsedTooLarge)
  rows_large h = ((w, few_rows x is h.keeps), record { some = h.some; large = h.far })

  pub rows_many : (fault : CloseFault) → IsCloseCause x MOST_ROWS fault → IsToldByRows x.input x.output (t.sheet x) (Err (of_close MOST_ROWS fault))
  rows_many close.TooManyTrees h = (w, (x, itself x is, h), refl)
  rows_many close.TooManyHedges h = (w, (x, itself x is, h), refl)
  rows_many close.TooManyOutputs h = (w, (x, itself x is, h), refl)
  rows_many close.NoMemory h = tt
