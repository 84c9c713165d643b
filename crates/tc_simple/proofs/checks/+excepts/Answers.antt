use Rattle.std.proofs.Common.{◌∙◌, List, None, sym, ap, refl}
use Rattle.std.proofs.lemmas.List.{drop_all}
use Rattle.tc_model.specs.Views.{place}
use Rattle.tc_model.specs.SimplifiesFaults.{first_answer, misplaced_in}
use Rattle.tc_model.specs.SimplifiesParts.{nodes_in_all}
use Rattle.tc_rnc.specs.Views as see
use Rattle.tc_rnc.specs.declared.syntax.SPat.{SPat}
use Rattle.tc_simple.proofs.Answered.{patterns_here, patterns_next}
use Rattle.tc_simple.proofs.checks.+excepts.Goals as goal

pub bad_except_among-returns-in-Some : goal.bad_except_among-returns-in-Some
bad_except_among-returns-in-Some t c =
    sym (c.loop-pattern.invariant
    ∙ patterns_here misplaced_in c.args.patterns.now c.loop-pattern.pattern-index c.pattern-item.result (place c.in-Some.place) c.loop-pattern-test.true c.pattern-item.is c.in-Some.ensures)

pub bad_except_among-loop-pattern-preserved : goal.bad_except_among-loop-pattern-preserved
bad_except_among-loop-pattern-preserved t c =
    c.loop-pattern.invariant
    ∙ patterns_next misplaced_in c.args.patterns.now c.loop-pattern.pattern-index c.pattern-item.result c.loop-pattern-test.true c.pattern-item.is c.in_default.ensures

pub bad_except_among-loop-pattern-init : goal.bad_except_among-loop-pattern-init
bad_except_among-loop-pattern-init t c = refl

pub bad_except_among-returns : goal.bad_except_among-returns
bad_except_among-returns t c =
    sym (c.loop-pattern.invariant ∙ ap (λ (z : List SPat). first_answer misplaced_in (nodes_in_all (see.patterns z)) None) (drop_all c.loop-pattern.pattern-index c.args.patterns.now c.loop-pattern-test.false))
