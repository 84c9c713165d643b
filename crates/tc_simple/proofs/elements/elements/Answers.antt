use Rattle.tc_rnc.specs.Views as see
use Rattle.tc_rnc.specs.declared.syntax.Def.{Def}
use Rattle.std.proofs.lemmas.List.{take_all}
use Rattle.std.proofs.Common.{map, List, ap, ◌∙◌}
use Rattle.tc_simple.specs.Nodes.{see_element, elements_of}
use Rattle.tc_simple.proofs.Answered.{elements_next, failed_ok}
use Rattle.tc_simple.proofs.elements.elements.Goals as goal

pub loop-def-preserved : goal.loop-def-preserved
loop-def-preserved c =
    elements_next c.args.table.now c.args.marks.now c.args.syntax.now.defs.now c.loop-def.def-index _ (map see_element c.loop-def.found.items) (map see_element c.add_marked.new.found.items) c.loop-def-test.true
    c.in_ok-add_marked.ensures c.loop-def.invariant

pub loop-def-init : goal.loop-def-init
loop-def-init c = ap (map see_element) c.new-found.ensures.items

pub returns-in_err-add_marked : goal.returns-in_err-add_marked
returns-in_err-add_marked c = failed_ok c.from_residual.result _ _ c.from_residual.ensures.1

pub returns : goal.returns
returns c =
    ap (map see_element) c.into_bump_slice.ensures
    ∙ (c.loop-def.invariant ∙ ap (λ (ds : List Def). elements_of c.args.table.now c.args.marks.now (map see.definition ds)) (take_all c.loop-def.def-index c.args.syntax.now.defs.now c.loop-def-test.false))
