-- What is found decides: each verdict and each failure by its cause, and the causes exclude one another.
use Rattle.std.proofs.Common.{◌≡◌, ◌⊎◌, inl, inr, refl, subst, ℕ, Result, Ok, Err, OnOk, arith}
use Rattle.tc_base.specs.declared.limits.TheConstants.{MOST_SHOWN_NODES}
use Rattle.tc_close.specs.Decisions.{IsDecided, IsCloseCause}
use Rattle.tc_close.specs.declared.decision.CloseFault.{CloseFault}
use Rattle.tc_close.specs.declared.decision.CloseFault.TheVariants.{TooManyTrees, TooManyHedges, TooManyOutputs, NoMemory as close_memory}
use Rattle.tc_close.specs.declared.decision.Counts.{Counts}
use Rattle.tc_close.specs.declared.decision.Decision.TheVariants as decision
use Rattle.tc_decide.specs.Checking.{IsWithinTripleLimits, IsCounter, IsLeastCounter, HasSmallCounter, HasLargeCounters}
use Rattle.tc_decide.specs.Deciding.{OnSafe, IfUnsafe, IsShownBy, KeepsAll, PassesFirst, IsOutputOf, DecidesSafety, DecidesWithin, TellsCounts, IsCounted}
use Rattle.tc_decide.specs.RowCounts.{trees, hedges, outputs, row_count}
use Rattle.tc_decide.specs.TextsSeen.{of_close, IsFound}
use Rattle.tc_decide.specs.declared.failure.Failure.{Failure}
use Rattle.tc_decide.specs.declared.failure.Failure.TheVariants.{Refused, Passes, NoMemory}
use Rattle.tc_decide.specs.declared.failure.Kind.{Kind}
use Rattle.tc_decide.specs.declared.failure.Kind.TheVariants.{Texts, Rows, Nodes, Certificate, Work, Open, Pieces}
use Rattle.tc_decide.specs.declared.verdict.Output.{Output}
use Rattle.tc_decide.specs.declared.verdict.Output.TheVariants.{Shown, TooLarge}
use Rattle.tc_decide.specs.declared.verdict.Verdict.{Verdict}
use Rattle.tc_decide.specs.declared.verdict.Verdict.TheVariants.{Safe, Unsafe}
use Rattle.tc_decide.proofs.Passing.{over_triple}
use Rattle.tc_decide.proofs.Found.{FindsLimits}
use Rattle.tc_decide.proofs.Sheets.{one_result}
use Rattle.tc_decide.proofs.Triples.{itself, few_rows, least_counter}
use Rattle.tc_model.specs.Grammars.{Grammar}
use Rattle.tc_model.specs.Safety.{IsSafe}
use Rattle.tc_model.specs.Sheets.{Sheet}
use Rattle.tc_model.specs.Trees.{Trees, none}
use Rattle.tc_model.specs.Validity.{IsValidOutput}
use Rattle.tc_model.specs.Views as see
use Rattle.tc_rows.specs.Triples as t
use Rattle.tc_rows.specs.Triples.{Triple, IsTriple}

-- a safe stylesheet has no counterexample
pub not_both : (i o : Grammar) (s : Sheet) {document : Trees} → IsSafe i o s → IsCounter i o s document → ⊥
not_both i o s {document} all (result, found) =
    let good = all document found.0 in
    found.2 (subst (IsValidOutput o) (one_result s document good.0 result good.1 found.1) good.2)

-- one that can be shown, and none that can
pub near_far : {i o : Grammar} {s : Sheet} {document : Trees} → IsLeastCounter i o s document → HasLargeCounters i o s → ⊥
near_far {document = document} x y = let far = y.large document x.counter in omega (arith, x.fewest.few, far)

pub small_far : {i o : Grammar} {s : Sheet} → HasSmallCounter i o s → HasLargeCounters i o s → ⊥
small_far (document, counter, few) large = let far = large.large document counter in omega (arith, few, far)

module _ (most : ℕ) (i o : Grammar) (s : Sheet) where
  -- a limit that is passed isn't kept, and then there is neither yes nor no
  pub not_kept : (kind : Kind) (number : ℕ) → PassesFirst i o s most kind number → KeepsAll i o s most → (IsSafe i o s ⊎ HasSmallCounter i o s) → ⊥
  not_kept (Texts kind) number p k d = over_triple p k.0
  not_kept (Rows count) number p k d = k.1 (row_count count) p.1
  not_kept Certificate number p k d = absurd p
  not_kept Work number p k d = absurd p
  not_kept Open number p k d = absurd p
  not_kept (Pieces measure) number p k d = absurd p
  not_kept Nodes number p k (inl safe) = not_both i o s safe p.1.some.1
  not_kept Nodes number p k (inr small) = small_far small p.1

  is_yes : (counts : Counts) → KeepsAll i o s most → IsSafe i o s → DecidesWithin most i o s (Ok (Safe counts))
  is_yes counts k h = record {
    yes = (λ _. (k, h), λ _. tt);
    no = (λ e. absurd e, λ x. absurd (not_both i o s h x.1.1));
    least = tt;
    limit = (λ e. absurd e, λ (kind, number, p). absurd (not_kept kind number p k (inl h)));
  }

  pub small_of : {document : Trees} → IsLeastCounter i o s document → HasSmallCounter i o s
  small_of {document} l = (document, l.counter, l.fewest.few)

  is_no : (document : _) (output : Output) → KeepsAll i o s most → IsLeastCounter i o s (see.before document none) → IsOutputOf s (see.before document none) output
      → DecidesWithin most i o s (Ok (Unsafe document output))
  is_no document output k l r = record {
    yes = (λ e. absurd e, λ x. absurd (not_both i o s x.1 l.counter));
    no = (λ _. (k, small_of l), λ _. tt);
    least = (l, r);
    limit = (λ e. absurd e, λ (kind, number, p). absurd (not_kept kind number p k (inr (small_of l))));
  }

  pub decides : (result : Result Verdict Failure) → IsFound most i o s result → (result ≡ Err NoMemory) ⊎ DecidesWithin most i o s result
  decides (Ok (Safe counts)) f = inr (is_yes counts f.0 f.2)
  decides (Ok (Unsafe document output)) f = inr (is_no document output f.0 f.1 f.2)
  decides (Err (Refused which reason at)) f = absurd f
  decides (Err (Passes kind number)) f = inr (record {
    yes = (λ e. absurd e, λ x. absurd (not_kept kind number f x.0 (inl x.1)));
    no = (λ e. absurd e, λ x. absurd (not_kept kind number f x.0 (inr x.1)));
    least = tt;
    limit = (λ _. (kind, number, f), λ _. tt);
  })
  decides (Err NoMemory) f = inl refl

  pub says_safe : (result : Result Verdict Failure) → IsFound most i o s result → OnSafe result (IsSafe i o s)
  says_safe (Ok (Safe counts)) f = f.2
  says_safe (Ok (Unsafe document output)) f = tt
  says_safe (Err failure) f = tt

  -- the result that is shown of a counterexample isn't valid
  pub shown_by : (document : Trees) (output : Output) → IsCounter i o s document → IsOutputOf s document output → IsShownBy i o s document output
  shown_by document (Shown output) (result, c) r =
      (c.0, r.1, subst (λ (w : Trees). IsValidOutput o w → ⊥) (one_result s document result (see.trees output.now) c.1 r.1) c.2)
  shown_by document TooLarge c r = c

  pub shows : (result : Result Verdict Failure) → IsFound most i o s result → IfUnsafe result (IsShownBy i o s)
  shows (Ok (Safe counts)) f = tt
  shows (Ok (Unsafe document output)) f = shown_by (see.before document none) output f.1.counter f.2
  shows (Err failure) f = tt

  pub counts : (result : Result Verdict Failure) → IsFound most i o s result → TellsCounts most i o s result
  counts (Ok (Safe n)) f = f.1
  counts (Ok (Unsafe document output)) f = tt
  counts (Err (Refused which reason at)) f = absurd f
  counts (Err (Passes kind number)) f = f
  counts (Err NoMemory) f = tt

  pub counted : (result : Result Verdict Failure) → IsFound most i o s result → IsCounted most i o s result
  counted result f = record { limits = decides result f; numbers = counts result f }

  pub headline : (result : Result Verdict Failure) → IsFound most i o s result → OnOk result (DecidesSafety i o s result)
  headline (Ok (Safe n)) f = record { yes = (λ _. f.2, λ _. tt); no = (λ e. absurd e, λ x. absurd (not_both i o s f.2 x.1)); least = tt }
  headline (Ok (Unsafe document output)) f = record {
    yes = (λ e. absurd e, λ h. absurd (not_both i o s h f.1.counter));
    no = (λ _. small_of f.1, λ _. tt);
    least = (shown_by (see.before document none) output f.1.counter f.2, f.1.fewest);
  }
  headline (Err failure) f = tt

-- what is found tells no refusal, and tells each limit that is passed before rows are tried
pub found_texts : (most : ℕ) → FindsLimits (IsFound most)
found_texts most = record { refused = λ i o s which reason at h. h; passed = λ i o s kind number p. p; memory = λ i o s. tt }

-- what is decided of a machine

module _ (x : Triple) (is : IsTriple x) (w : IsWithinTripleLimits x.input x.output (t.sheet x)) (most : ℕ) where
  pub found_safe : (n : Counts) → IsDecided x most (decision.Safe n) → IsFound most x.input x.output (t.sheet x) (Ok (Safe n))
  found_safe n h = ((w, few_rows x is h.keeps), record { triple = x; of = itself x is; trees = h.counts.trees; hedges = h.counts.hedges; outputs = h.counts.outputs }, h.safe)

  pub found_unsafe : (document : _) (output : Output) → IsDecided x most (decision.Unsafe document) → IsOutputOf (t.sheet x) (see.before document none) output
      → IsFound most x.input x.output (t.sheet x) (Ok (Unsafe document output))
  found_unsafe document output h r = ((w, few_rows x is h.keeps), least_counter x is h, r)

  pub found_far : IsDecided x most decision.TooManyNodes → IsFound most x.input x.output (t.sheet x) (Err (Passes Nodes MOST_SHOWN_NODES))
  found_far h = ((w, few_rows x is h.keeps), record { some = h.some; large = h.far }, refl)

  pub found_many : (fault : CloseFault) → IsCloseCause x most fault → IsFound most x.input x.output (t.sheet x) (Err (of_close most fault))
  found_many TooManyTrees h = (w, (x, itself x is, h), refl)
  found_many TooManyHedges h = (w, (x, itself x is, h), refl)
  found_many TooManyOutputs h = (w, (x, itself x is, h), refl)
  found_many close_memory h = tt
