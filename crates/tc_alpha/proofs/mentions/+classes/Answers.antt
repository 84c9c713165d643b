use Rattle.std.proofs.Common.{List, ap, refl, ◌∙◌, ◌∷◌, []}
use Rattle.std.proofs.lemmas.List.{drop_all}
use Rattle.tc_alpha.specs.Views.{seen}
use Rattle.tc_model.specs.Views as see
use Rattle.tc_model.specs.Symbols.{a_namespace, mentions_in_class, mentions_in_classes}
use Rattle.tc_model.proofs.ViewsGrammar.{see_any, see_name, see_ns, see_one_of}
use Rattle.tc_model.specs.declared.grammar.NameClass.{NameClass}
use Rattle.tc_alpha.proofs.Steps.{all_found, class_step, moved, nothing_left, then_on_ok, two_pieces}
use Rattle.tc_alpha.proofs.mentions.+classes.Goals as goal

pub mention_class-returns-in_ok-add-in-Ns : goal.mention_class-returns-in_ok-add-in-Ns
mention_class-returns-in_ok-add-in-Ns t c =
    then_on_ok c.mention_classes.result _ _
    (two_pieces (seen c.args.found.now.items) (seen c.add-in-Ns.new.found.items) (seen c.mention_classes.new.found.items) (a_namespace c.in-Ns.uri.now ∷ [])
    (mentions_in_classes (see.classes c.in-Ns.except.now)) _ c.in_ok-add-in-Ns.ensures
    (ap mentions_in_class (ap see.class c.in-Ns.is ∙ see_ns c.in-Ns.uri c.in-Ns.except)))
    c.mention_classes.ensures

pub mention_classes-loop-class-preserved : goal.mention_classes-loop-class-preserved
mention_classes-loop-class-preserved t c =
    moved (seen c.loop-class.found.items) (seen c.mention_class.new.found.items) (mentions_in_class (see.class c.class-item.result)) _ _ _
    c.in_ok-mention_class.ensures (class_step c.args.classes.now c.loop-class.class-index c.class-item.result c.loop-class-test.true c.class-item.is) c.loop-class.invariant

pub mention_class-returns-in-Name : goal.mention_class-returns-in-Name
mention_class-returns-in-Name t c =
    then_on_ok c.add.result _ _ (all_found (seen c.args.found.now.items) (seen c.add.new.found.items) _ _ (ap mentions_in_class (ap see.class c.in-Name.is ∙ see_name c.in-Name.name))) c.add.ensures

pub mention_class-returns-in-Any : goal.mention_class-returns-in-Any
mention_class-returns-in-Any t c =
    then_on_ok c.mention_classes-in-Any.result _ _
    (all_found (seen c.args.found.now.items) (seen c.mention_classes-in-Any.new.found.items) _ _ (ap mentions_in_class (ap see.class c.in-Any.is ∙ see_any c.in-Any.except)))
    c.mention_classes-in-Any.ensures

pub mention_class-returns-in-Choice : goal.mention_class-returns-in-Choice
mention_class-returns-in-Choice t c =
    then_on_ok c.mention_classes-in-Choice.result _ _
    (all_found (seen c.args.found.now.items) (seen c.mention_classes-in-Choice.new.found.items) _ _ (ap mentions_in_class (ap see.class c.in-Choice.is ∙ see_one_of c.in-Choice.classes)))
    c.mention_classes-in-Choice.ensures

pub mention_classes-loop-class-init : goal.mention_classes-loop-class-init
mention_classes-loop-class-init t c = refl

pub mention_classes-returns : goal.mention_classes-returns
mention_classes-returns t c =
    nothing_left (seen c.loop-class.found.items) _ _ (ap (λ (l : List NameClass). mentions_in_classes (see.classes l)) (drop_all c.loop-class.class-index c.args.classes.now c.loop-class-test.false)) c.loop-class.invariant
