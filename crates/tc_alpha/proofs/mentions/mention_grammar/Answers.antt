use Rattle.std.proofs.Common.{List, ap, flat_map, map, refl}
use Rattle.std.proofs.lemmas.List.{drop_all}
use Rattle.tc_alpha.specs.Views.{seen}
use Rattle.tc_model.specs.Views as see
use Rattle.tc_model.specs.Grammars.{ElementPattern}
use Rattle.tc_model.specs.declared.grammar.ElemPat.{ElemPat}
use Rattle.tc_model.specs.Symbols.{mentions_in_class}
use Rattle.tc_alpha.proofs.Steps.{mapped_moved, nothing_left}
use Rattle.tc_alpha.proofs.mentions.mention_grammar.Goals as goal

pub loop-element-preserved : goal.loop-element-preserved
loop-element-preserved c =
    mapped_moved see.element_pattern (λ (e : ElementPattern). mentions_in_class e.names) c.args.grammar.now.elements.now c.loop-element.element-index _ (seen c.loop-element.found.items) (seen c.mention_class.new.found.items) _
    c.loop-element-test.true c.in_ok-mention_class.ensures c.loop-element.invariant

pub loop-element-init : goal.loop-element-init
loop-element-init c = refl

pub returns : goal.returns
returns c =
    nothing_left (seen c.loop-element.found.items) _ _
    (ap (λ (l : List ElemPat). flat_map (λ (e : ElementPattern). mentions_in_class e.names) (map see.element_pattern l)) (drop_all c.loop-element.element-index c.args.grammar.now.elements.now c.loop-element-test.false))
    c.loop-element.invariant
