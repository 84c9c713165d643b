use Rattle.std.proofs.Common.{◌≡◌, ◌∷◌, subst, arith, rules}
use Rattle.tc_dtd.specs.DtdTextDeclarations.{passed, is_within}
use Rattle.tc_dtd.proofs.MarkupLaws.{skips_first, a_quote, skips_more, skips_shorter, skips_closed, skips_reference, literal_refers, no_literal, no_skip}
use Rattle.tc_dtd.proofs.skipping.after_skipped.Goals as goal

pub past_literal-requires : goal.past_literal-requires
past_literal-requires c = a_quote c.in-Some.byte c.in-Some.ensures.1 c.if-byte-eq62.false c.if-byte-eq37.false

pub loop-byte-init : goal.loop-byte-init
loop-byte-init c = record { so_far = skips_first c.args.references c.args.text.now; text = search rules }

pub returns-then-byte-eq62-clause-ok : goal.returns-then-byte-eq62-clause-ok
returns-then-byte-eq62-clause-ok c =
    skips_closed c.args.references c.args.text.now c.loop-byte.rest.now c.in-Some.behind.now c.in-Some.byte c.loop-byte.invariant.so_far c.in-Some.ensures.0 c.if-byte-eq62.true

pub returns-then-byte-eq37-clause-no : goal.returns-then-byte-eq37-clause-no
returns-then-byte-eq37-clause-no c =
    skips_reference c.args.references c.args.text.now c.loop-byte.rest.now c.in-Some.behind.now c.in-Some.byte _ c.loop-byte.invariant.so_far c.in-Some.ensures.0 c.if-byte-eq37.true (search rules)

pub returns-in_default-past_literal-clause-no : goal.returns-in_default-past_literal-clause-no
returns-in_default-past_literal-clause-no c =
    no_literal c.args.references c.args.text.now c.loop-byte.rest.now c.in-Some.behind.now c.in-Some.byte c.loop-byte.invariant.so_far c.in-Some.ensures.0
    (a_quote c.in-Some.byte c.in-Some.ensures.1 c.if-byte-eq62.false c.if-byte-eq37.false) c.in_default-past_literal.ensures

pub returns-then-end-byte-clause-no : goal.returns-then-end-byte-clause-no
returns-then-end-byte-clause-no c =
    literal_refers c.args.references c.args.text.now c.loop-byte.rest.now c.in-Some.behind.now c.in-Some-past_literal.after.now c.in-Some.byte c.in-Some-past_literal.end _ c.loop-byte.invariant.so_far c.in-Some.ensures.0
    (a_quote c.in-Some.byte c.in-Some.ensures.1 c.if-byte-eq62.false c.if-byte-eq37.false) c.in-Some-past_literal.ensures.0 c.in-Some-past_literal.ensures.1 c.if-end-byte.true (search rules)

pub loop-byte-smaller : goal.loop-byte-smaller
loop-byte-smaller c =
    let same : c.in-Some-past_literal.end ≡ c.in-Some.byte = omega (arith, c.if-end-byte.false) in
    skips_shorter c.args.references c.loop-byte.rest.now c.in-Some.behind.now c.in-Some-past_literal.after.now c.in-Some.byte c.in-Some.ensures.0
    (subst (λ z. passed (is_within c.args.references c.in-Some.byte) c.in-Some.behind.now ≡ z ∷ c.in-Some-past_literal.after.now) same c.in-Some-past_literal.ensures.0)

pub loop-byte-preserved : goal.loop-byte-preserved
loop-byte-preserved c =
    let same : c.in-Some-past_literal.end ≡ c.in-Some.byte = omega (arith, c.if-end-byte.false) in
    record {
      so_far =
          skips_more c.args.references c.args.text.now c.loop-byte.rest.now c.in-Some.behind.now c.in-Some-past_literal.after.now c.in-Some.byte c.loop-byte.invariant.so_far c.in-Some.ensures.0
          (a_quote c.in-Some.byte c.in-Some.ensures.1 c.if-byte-eq62.false c.if-byte-eq37.false)
          (subst (λ z. passed (is_within c.args.references c.in-Some.byte) c.in-Some.behind.now ≡ z ∷ c.in-Some-past_literal.after.now) same c.in-Some-past_literal.ensures.0);
      text = search rules;
    }

pub returns-clause-no : goal.returns-clause-no
returns-clause-no c = no_skip c.args.references c.args.text.now c.loop-byte.rest.now c.loop-byte.invariant.so_far c.in_default.ensures
