use Rattle.std.proofs.Common.{◌+◌, Bool, ◌≡◌, false, ◌∙◌, sym, get_or, ◌<◌, ◌≤◌, ℕ, List, length, refl, ap, arith}
use Rattle.std.proofs.lemmas.Bool.{true≢false}
use Rattle.std.specs.List.{prefix_len}
use Rattle.std.proofs.lemmas.List.Sums.{prefix_len-le-length}
use Rattle.tc_dtd.specs.DtdTextDeclarations.{is_skipped}
use Rattle.tc_dtd.proofs.MarkupLaws.{run_ends, run_over, skip_ends}
use Rattle.tc_dtd.proofs.skipping.skipped_len.Goals as goal
use Rattle.tc_dtd.proofs.skipping.skipped_len.Goals.{in-62, in_default}

within : (text bs : List ℕ) (n i : ℕ) → n ≡ i → bs ≡ text → i < length bs → n ≤ length text
within text bs n i e same low = omega (arith, e, low, ap length same)

begins : (n : ℕ) → 0 + n ≡ n
begins n = omega arith

at_most : (test : ℕ → Bool) (text : List ℕ) (n : ℕ) → n ≡ prefix_len test text → n ≤ length text
at_most test text n e = omega (arith, e, prefix_len-le-length test text)

pub returns-then-matches-clause-count : goal.returns-then-matches-clause-count
returns-then-matches-clause-count c =
    let bs = c.as_bytes-byte-items.result.now in
    let b = get_or bs c.loop-byte.byte-index 0 in
    let ends : is_skipped b ≡ false =
    elim c.match-matches.branch [
      | in-62 w ↦ skip_ends b w.in-62.is
      | in_default w ↦ absurd (true≢false (sym c.if-matches.true ∙ w.matches-is))
    ] in
    run_ends is_skipped c.args.text.now bs c.loop-byte.count c.loop-byte.byte-index c.loop-byte.invariant.count c.as_bytes-byte-items.ensures.value c.loop-byte-test.true ends

pub returns-clause-count : goal.returns-clause-count
returns-clause-count c =
    run_over is_skipped c.args.text.now c.as_bytes-byte-items.result.now c.loop-byte.count c.loop-byte.byte-index c.loop-byte.invariant.count c.as_bytes-byte-items.ensures.value c.loop-byte-test.false

pub loop-byte-init : goal.loop-byte-init
loop-byte-init c = record { count = begins _; index = refl }

pub returns-then-matches-clause-within : goal.returns-then-matches-clause-within
returns-then-matches-clause-within c = within c.args.text.now c.as_bytes-byte-items.result.now c.loop-byte.count c.loop-byte.byte-index c.loop-byte.invariant.index c.as_bytes-byte-items.ensures.value c.loop-byte-test.true

pub returns-clause-within : goal.returns-clause-within
returns-clause-within c =
    at_most is_skipped c.args.text.now c.loop-byte.count
    (run_over is_skipped c.args.text.now c.as_bytes-byte-items.result.now c.loop-byte.count c.loop-byte.byte-index c.loop-byte.invariant.count c.as_bytes-byte-items.ensures.value c.loop-byte-test.false)
