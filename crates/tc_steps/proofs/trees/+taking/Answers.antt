use Rattle.std.proofs.Common.{ap, ◌∙◌, sym, subst}
use Rattle.std.proofs.lemmas.Option.{IfSome_then}
use Rattle.tc_model.specs.Events as ev
use Rattle.tc_model.specs.Trees.{Trees, none}
use Rattle.tc_model.specs.Views as see
use Rattle.tc_model.specs.declared.tree.Node.{Node}
use Rattle.tc_steps.specs.Judged.{Takes}
use Rattle.tc_model.proofs.Views.{before_text, before_elem}
use Rattle.tc_steps.proofs.TreeLaws.{text_taken, element_taken, none_left, one_more}
use Rattle.tc_steps.proofs.trees.+taking.Goals as goal

pub take_trees-loop-tree-init : goal.take_trees-loop-tree-init
take_trees-loop-tree-init t c = λ new taken. taken

pub take_trees-loop-tree-preserved : goal.take_trees-loop-tree-preserved
take_trees-loop-tree-preserved t c = λ new taken.
    c.loop-tree.invariant new (one_more c.args.trees.now c.loop-tree.tree-index c.tree-item.result c.loop-tree-test.true c.tree-item.is c.in_ok-take_tree.ensures taken)

pub take_trees-returns : goal.take_trees-returns
take_trees-returns t c = c.loop-tree.invariant c.loop-tree.judge (none_left c.args.trees.now c.loop-tree.tree-index c.loop-tree-test.false)

pub take_tree-returns-in-Text : goal.take_tree-returns-in-Text
take_tree-returns-in-Text t c =
    let is = ap (λ (n : Node). see.before n none) c.in-Text.is ∙ before_text c.in-Text.text none in
    IfSome_then c.text.result c.text.ensures (λ u h. subst (λ (w : Trees). ev.Takes Takes c.args.judge.now (ev.events w) c.text.new.self) (sym is) (text_taken c.in-Text.text.now h))

pub take_tree-returns-in_ok-take_trees-in-Elem : goal.take_tree-returns-in_ok-take_trees-in-Elem
take_tree-returns-in_ok-take_trees-in-Elem t c =
    let is = ap (λ (n : Node). see.before n none) c.in-Elem.is ∙ before_elem c.in-Elem.name c.in-Elem.kids none in
    IfSome_then c.end.result c.end.ensures (λ u h.
    subst (λ (w : Trees). ev.Takes Takes c.args.judge.now (ev.events w) c.end.new.self) (sym is)
    (element_taken (see.name c.in-Elem.name) (see.trees c.in-Elem.kids.now) c.in_ok-start-in-Elem.ensures c.in_ok-take_trees-in-Elem.ensures h))
