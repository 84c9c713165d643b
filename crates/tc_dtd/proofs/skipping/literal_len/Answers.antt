use Rattle.std.proofs.Common.{◌+◌, Bool, ◌≡◌, ◌==◌, ◌&&◌, inl, inr, false, ◌∙◌, ap, sym, arith, get_or, ◌<◌, ◌≤◌, ℕ, List, length, refl}
use Rattle.std.specs.List.{prefix_len}
use Rattle.std.proofs.lemmas.List.Sums.{prefix_len-le-length}
use Rattle.tc_dtd.specs.DtdTextDeclarations.{is_within}
use Rattle.tc_dtd.proofs.MarkupLaws.{run_ends, run_goes_on, run_over, quote_ends, reference_ends, stays_within, is_reference}
use Rattle.tc_dtd.proofs.skipping.literal_len.Goals as goal
use Rattle.tc_dtd.proofs.skipping.literal_len.Goals.{then-byte-quote-via-then-byte-quote, then-byte-quote-via-else-byte-quote+then-byte-eq37, then-references, else-references}

within : (text bs : List ℕ) (n i : ℕ) → n ≡ i → bs ≡ text → i < length bs → n ≤ length text
within text bs n i e same low = omega (arith, e, low, ap length same)

begins : (n : ℕ) → 0 + n ≡ n
begins n = omega arith

at_most : (test : ℕ → Bool) (text : List ℕ) (n : ℕ) → n ≡ prefix_len test text → n ≤ length text
at_most test text n e = omega (arith, e, prefix_len-le-length test text)

pub returns-then-byte-quote-clause-count : goal.returns-then-byte-quote-clause-count
returns-then-byte-quote-clause-count c =
    let bs = c.as_bytes-byte-items.result.now in
    let b = get_or bs c.loop-byte.byte-index 0 in
    let ends : is_within c.args.references c.args.quote b ≡ false =
    elim c.then-byte-quote.branch [
      | then-byte-quote-via-then-byte-quote w ↦ quote_ends c.args.references c.args.quote b w.if-byte-quote.true
      | then-byte-quote-via-else-byte-quote+then-byte-eq37 w ↦ reference_ends c.args.references c.args.quote b (is_reference c.args.references w.if-references.value b w.if-byte-eq37.true (elim w.if-references.branch [ then-references v ↦ inl (v.if-references.true, v.value-is) | else-references v ↦ inr (v.value-is ∙ v.if-references.false) ]))
    ] in
    run_ends (is_within c.args.references c.args.quote) c.args.text.now bs c.loop-byte.count c.loop-byte.byte-index c.loop-byte.invariant.count c.as_bytes-byte-items.ensures.value c.loop-byte-test.true ends

pub loop-byte-preserved : goal.loop-byte-preserved
loop-byte-preserved c =
    let bs = c.as_bytes-byte-items.result.now in
    let b = get_or bs c.loop-byte.byte-index 0 in
    let no_reference : (c.args.references && b == 0x25) ≡ false =
    elim c.if-references.branch [
      | then-references w ↦ ap (λ r. r && b == 0x25) w.if-references.true ∙ (sym w.value-is ∙ c.if-byte-eq37.false)
      | else-references w ↦ ap (λ r. r && b == 0x25) w.if-references.false
    ] in
    record {
      count =
          run_goes_on (is_within c.args.references c.args.quote) c.args.text.now bs c.loop-byte.count c.loop-byte.byte-index c.loop-byte.invariant.count c.as_bytes-byte-items.ensures.value c.loop-byte-test.true
          (stays_within c.args.references c.args.quote b c.if-byte-quote.false no_reference);
      index = omega (arith, c.loop-byte.invariant.index);
    }

pub returns-clause-count : goal.returns-clause-count
returns-clause-count c =
    run_over (is_within c.args.references c.args.quote) c.args.text.now c.as_bytes-byte-items.result.now c.loop-byte.count c.loop-byte.byte-index c.loop-byte.invariant.count c.as_bytes-byte-items.ensures.value c.loop-byte-test.false

pub loop-byte-init : goal.loop-byte-init
loop-byte-init c = record { count = begins _; index = refl }

pub returns-then-byte-quote-clause-within : goal.returns-then-byte-quote-clause-within
returns-then-byte-quote-clause-within c = within c.args.text.now c.as_bytes-byte-items.result.now c.loop-byte.count c.loop-byte.byte-index c.loop-byte.invariant.index c.as_bytes-byte-items.ensures.value c.loop-byte-test.true

pub returns-clause-within : goal.returns-clause-within
returns-clause-within c =
    at_most (is_within c.args.references c.args.quote) c.args.text.now c.loop-byte.count
    (run_over (is_within c.args.references c.args.quote) c.args.text.now c.as_bytes-byte-items.result.now c.loop-byte.count c.loop-byte.byte-index c.loop-byte.invariant.count c.as_bytes-byte-items.ensures.value c.loop-byte-test.false)
