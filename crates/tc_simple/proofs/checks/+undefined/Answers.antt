use Rattle.std.proofs.Common.{◌∙◌, List, None, sym, ap, refl}
use Rattle.std.proofs.lemmas.List.{drop_all}
use Rattle.tc_model.specs.Views.{place}
use Rattle.tc_model.specs.SimplifiesFaults.{first_answer, undefined_reference}
use Rattle.tc_model.specs.SimplifiesParts.{nodes_in_all}
use Rattle.tc_rnc.specs.Views as see
use Rattle.tc_rnc.specs.declared.syntax.SPat.{SPat}
use Rattle.tc_simple.proofs.Answered.{patterns_here, patterns_next}
use Rattle.tc_simple.proofs.checks.+undefined.Goals as goal

pub undefined_among-returns-in-Some : goal.undefined_among-returns-in-Some
undefined_among-returns-in-Some t c = λ s h.
    sym (c.loop-pattern.invariant s h
    ∙ patterns_here (undefined_reference s) c.args.patterns.now c.loop-pattern.pattern-index c.pattern-item.result (place c.in-Some.place) c.loop-pattern-test.true c.pattern-item.is (c.in-Some.ensures s h))

pub undefined_among-loop-pattern-preserved : goal.undefined_among-loop-pattern-preserved
undefined_among-loop-pattern-preserved t c = λ s h.
    c.loop-pattern.invariant s h
    ∙ patterns_next (undefined_reference s) c.args.patterns.now c.loop-pattern.pattern-index c.pattern-item.result c.loop-pattern-test.true c.pattern-item.is (c.in_default.ensures s h)

pub undefined_among-loop-pattern-init : goal.undefined_among-loop-pattern-init
undefined_among-loop-pattern-init t c = λ s h. refl

pub undefined_among-returns : goal.undefined_among-returns
undefined_among-returns t c = λ s h.
    sym (c.loop-pattern.invariant s h ∙ ap (λ (z : List SPat). first_answer (undefined_reference s) (nodes_in_all (see.patterns z)) None) (drop_all c.loop-pattern.pattern-index c.args.patterns.now c.loop-pattern-test.false))
