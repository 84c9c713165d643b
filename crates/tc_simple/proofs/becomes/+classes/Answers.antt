use Rattle.std.proofs.Common.{◌∙◌, sym, ap, arith}
use Rattle.tc_model.specs.Grammars as g
use Rattle.tc_model.specs.Views as seen
use Rattle.tc_model.specs.Simplifies.{name_class}
use Rattle.tc_model.proofs.ViewsGrammar as made
use Rattle.tc_rnc.specs.Views as see
use Rattle.tc_rnc.proofs.Views.{see_name, see_ns, see_any, see_one_of}
use Rattle.tc_simple.proofs.Made.{classes_end, classes_more}
use Rattle.tc_simple.proofs.Answered.{failed_ok}
use Rattle.tc_simple.proofs.becomes.+classes.Goals as goal

pub name_classes-loop-class-preserved : goal.name_classes-loop-class-preserved
name_classes-loop-class-preserved t c =
    classes_more c.args.classes.now c.loop-class.class-index c.class-item.result c.in_ok-class.class c.loop-class.out.items c.push.new.self.items c.loop-class-test.true c.class-item.is c.in_ok-class.ensures
    c.in_ok-push.ensures.items
    ∙ c.loop-class.invariant

pub name_classes-returns : goal.name_classes-returns
name_classes-returns t c =
    ap seen.classes c.into_bump_slice.ensures ∙ classes_end c.args.classes.now c.loop-class.class-index c.loop-class.out.items (omega (arith, c.loop-class-test.false)) c.loop-class.invariant

pub name_class-returns-in-Name : goal.name_class-returns-in-Name
name_class-returns-in-Name t c = made.see_name _ ∙ ap name_class (sym (ap see.class c.in-Name.is ∙ see_name _))

pub name_class-returns-in_ok-except-in-Ns : goal.name_class-returns-in_ok-except-in-Ns
name_class-returns-in_ok-except-in-Ns t c =
    made.see_ns _ _ ∙ (ap (g.of_namespace c.in-Ns.uri.now) c.in_ok-except-in-Ns.ensures ∙ ap name_class (sym (ap see.class c.in-Ns.is ∙ see_ns _ _ _)))

pub name_class-returns-in_ok-except-in-Any : goal.name_class-returns-in_ok-except-in-Any
name_class-returns-in_ok-except-in-Any t c = made.see_any _ ∙ (ap g.any_name c.in_ok-except-in-Any.ensures ∙ ap name_class (sym (ap see.class c.in-Any.is ∙ see_any _ _)))

pub name_class-returns-in_ok-classes-in-Choice : goal.name_class-returns-in_ok-classes-in-Choice
name_class-returns-in_ok-classes-in-Choice t c = made.see_one_of _ ∙ (ap g.one_of c.in_ok-classes-in-Choice.ensures ∙ ap name_class (sym (ap see.class c.in-Choice.is ∙ see_one_of _)))

pub name_class-returns-in_err-except-in-Ns : goal.name_class-returns-in_err-except-in-Ns
name_class-returns-in_err-except-in-Ns t c = failed_ok c.from_residual.result _ _ c.from_residual.ensures.1

pub name_class-returns-in_err-except-in-Any : goal.name_class-returns-in_err-except-in-Any
name_class-returns-in_err-except-in-Any t c = failed_ok c.from_residual-in_err-except-in-Any.result _ _ c.from_residual-in_err-except-in-Any.ensures.1

pub name_class-returns-in_err-classes-in-Choice : goal.name_class-returns-in_err-classes-in-Choice
name_class-returns-in_err-classes-in-Choice t c = failed_ok c.from_residual-in_err-classes-in-Choice.result _ _ c.from_residual-in_err-classes-in-Choice.ensures.1

pub name_classes-returns-in_err-class : goal.name_classes-returns-in_err-class
name_classes-returns-in_err-class t c = failed_ok c.from_residual.result _ _ c.from_residual.ensures.1

pub name_classes-returns-in_err-push : goal.name_classes-returns-in_err-push
name_classes-returns-in_err-push t c = failed_ok c.from_residual-in_err-push.result _ _ c.from_residual-in_err-push.ensures.1
