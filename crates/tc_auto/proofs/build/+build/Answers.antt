use Rattle.std.proofs.Common.{◌<◌, ◌*◌, ap, ◌∙◌, sym, subst, take, arith, rules, IfOk, List}
use Rattle.std.proofs.lemmas.List.{take_all}
use Rattle.tc_model.specs.Grammars as g
use Rattle.tc_model.specs.Grammars.{Pattern}
use Rattle.tc_model.specs.Views.{pattern, patterns}
use Rattle.tc_model.specs.States.{Automaton, automaton}
use Rattle.tc_model.specs.declared.grammar.Pat.TheViews.{the_lemmas}
use Rattle.tc_model.proofs.StatesExact.{sound}
use Rattle.tc_model.proofs.ViewsGrammar.{see_empty, see_not_allowed, see_text, see_ref, see_group, see_choice, see_interleave}
use Rattle.tc_model.specs.declared.grammar.Pat.{Pat}
use Rattle.tc_auto.specs.Steps.{Shown, Shows}
use Rattle.tc_auto.proofs.Folds.{group_more, choice_more, interleave_more, group_room, choice_room, interleave_room, some_before, some_before_choice, member_below}
use Rattle.tc_auto.proofs.Shown.{within}
use Rattle.tc_auto.proofs.build.+build.Goals as goal

pub group_of-part_of-requires : goal.group_of-part_of-requires
group_of-part_of-requires t c = (search (rules, the_lemmas), omega (arith, group_room c.args.members.now c.loop-member.member-index c.member-item.result c.loop-member-test.true c.member-item.is, some_before c.args.members.now c.loop-member.member-index, c.requires))

pub group_of-group-requires-clause-within : goal.group_of-group-requires-clause-within
group_of-group-requires-clause-within t c =
    (within _ (sound (g.group (patterns (take c.loop-member.member-index c.args.members.now)))) _ c.loop-member.invariant, within _ (sound (pattern c.member-item.result)) _ c.in_ok-part_of.ensures)

pub group_of-group-requires-clause-room : goal.group_of-group-requires-clause-room
group_of-group-requires-clause-room t c = omega (arith, group_room c.args.members.now c.loop-member.member-index c.member-item.result c.loop-member-test.true c.member-item.is, c.requires, c.loop-member.invariant.counted, (c.in_ok-part_of.ensures).counted)

pub group_of-loop-member-preserved : goal.group_of-loop-member-preserved
group_of-loop-member-preserved t c =
    subst (λ (a : Automaton). Shown c.in_ok-whole-2.whole.count c.in_ok-whole-2.whole.steps.items c.in_ok-whole-2.whole.accepting.items a) (sym (group_more c.args.members.now c.loop-member.member-index c.member-item.result c.loop-member-test.true c.member-item.is)) (c.in_ok-whole-2.ensures (g.group (patterns (take c.loop-member.member-index c.args.members.now))) (pattern c.member-item.result) c.loop-member.invariant c.in_ok-part_of.ensures)

pub part_of-group_of-requires : goal.part_of-group_of-requires
part_of-group_of-requires t c = (search (rules, the_lemmas), subst (λ (w : Pattern). (automaton w).count < 4294967296) (ap pattern c.in-Group.is ∙ see_group c.in-Group.members) c.requires)

pub choice_of-part_of-requires : goal.choice_of-part_of-requires
choice_of-part_of-requires t c = (search (rules, the_lemmas), omega (arith, choice_room c.args.members.now c.loop-member.member-index c.member-item.result c.loop-member-test.true c.member-item.is, some_before_choice c.args.members.now c.loop-member.member-index, c.requires))

pub choice_of-choice-requires-clause-within : goal.choice_of-choice-requires-clause-within
choice_of-choice-requires-clause-within t c =
    (within _ (sound (g.choice (patterns (take c.loop-member.member-index c.args.members.now)))) _ c.loop-member.invariant, within _ (sound (pattern c.member-item.result)) _ c.in_ok-part_of.ensures)

pub choice_of-choice-requires-clause-room : goal.choice_of-choice-requires-clause-room
choice_of-choice-requires-clause-room t c = omega (arith, choice_room c.args.members.now c.loop-member.member-index c.member-item.result c.loop-member-test.true c.member-item.is, c.requires, c.loop-member.invariant.counted, (c.in_ok-part_of.ensures).counted)

pub choice_of-loop-member-preserved : goal.choice_of-loop-member-preserved
choice_of-loop-member-preserved t c =
    subst (λ (a : Automaton). Shown c.in_ok-whole.whole.count c.in_ok-whole.whole.steps.items c.in_ok-whole.whole.accepting.items a) (sym (choice_more c.args.members.now c.loop-member.member-index c.member-item.result c.loop-member-test.true c.member-item.is)) (c.in_ok-whole.ensures (g.choice (patterns (take c.loop-member.member-index c.args.members.now))) (pattern c.member-item.result) c.loop-member.invariant c.in_ok-part_of.ensures)

pub part_of-choice_of-requires : goal.part_of-choice_of-requires
part_of-choice_of-requires t c = (search (rules, the_lemmas), subst (λ (w : Pattern). (automaton w).count < 4294967296) (ap pattern c.in-Choice.is ∙ see_choice c.in-Choice.members) c.requires)

pub interleave_of-part_of-requires : goal.interleave_of-part_of-requires
interleave_of-part_of-requires t c = (search (rules, the_lemmas), omega (arith, member_below c.args.members.now c.loop-member.member-index c.member-item.result c.loop-member-test.true c.member-item.is, c.requires))

pub interleave_of-interleave-requires-clause-within : goal.interleave_of-interleave-requires-clause-within
interleave_of-interleave-requires-clause-within t c =
    (within _ (sound (g.interleave (patterns (take c.loop-member.member-index c.args.members.now)))) _ c.loop-member.invariant, within _ (sound (pattern c.member-item.result)) _ c.in_ok-part_of.ensures)

pub interleave_of-interleave-requires-clause-room : goal.interleave_of-interleave-requires-clause-room
interleave_of-interleave-requires-clause-room t c = subst (λ w. w < 4294967296) (sym (ap (λ w. w * c.in_ok-part_of.field-0.count) c.loop-member.invariant.counted ∙ ap (λ w. (automaton (g.interleave (patterns (take c.loop-member.member-index c.args.members.now)))).count * w) (c.in_ok-part_of.ensures).counted)) (omega (arith, interleave_room c.args.members.now c.loop-member.member-index c.member-item.result c.loop-member-test.true c.member-item.is, c.requires))

pub interleave_of-loop-member-preserved : goal.interleave_of-loop-member-preserved
interleave_of-loop-member-preserved t c =
    subst (λ (a : Automaton). Shown c.in_ok-whole-2.whole.count c.in_ok-whole-2.whole.steps.items c.in_ok-whole-2.whole.accepting.items a) (sym (interleave_more c.args.members.now c.loop-member.member-index c.member-item.result c.loop-member-test.true c.member-item.is)) (c.in_ok-whole-2.ensures (g.interleave (patterns (take c.loop-member.member-index c.args.members.now))) (pattern c.member-item.result) c.loop-member.invariant c.in_ok-part_of.ensures)

pub part_of-interleave_of-requires : goal.part_of-interleave_of-requires
part_of-interleave_of-requires t c = (search (rules, the_lemmas), subst (λ (w : Pattern). (automaton w).count < 4294967296) (ap pattern c.in-Interleave.is ∙ see_interleave c.in-Interleave.members) c.requires)

pub part_of-returns-in-Group : goal.part_of-returns-in-Group
part_of-returns-in-Group t c = subst (λ (w : Pattern). IfOk c.group_of.result (λ r. Shows r (automaton w))) (sym (ap pattern c.in-Group.is ∙ see_group c.in-Group.members)) c.group_of.ensures

pub group_of-returns : goal.group_of-returns
group_of-returns t c =
    subst (λ (w : List Pat). Shown c.loop-member.whole.count c.loop-member.whole.steps.items c.loop-member.whole.accepting.items (automaton (g.group (patterns w))))
    (take_all c.loop-member.member-index c.args.members.now c.loop-member-test.false) c.loop-member.invariant

pub part_of-returns-in-Choice : goal.part_of-returns-in-Choice
part_of-returns-in-Choice t c = subst (λ (w : Pattern). IfOk c.choice_of.result (λ r. Shows r (automaton w))) (sym (ap pattern c.in-Choice.is ∙ see_choice c.in-Choice.members)) c.choice_of.ensures

pub choice_of-returns : goal.choice_of-returns
choice_of-returns t c =
    subst (λ (w : List Pat). Shown c.loop-member.whole.count c.loop-member.whole.steps.items c.loop-member.whole.accepting.items (automaton (g.choice (patterns w))))
    (take_all c.loop-member.member-index c.args.members.now c.loop-member-test.false) c.loop-member.invariant

pub part_of-returns-in-Interleave : goal.part_of-returns-in-Interleave
part_of-returns-in-Interleave t c = subst (λ (w : Pattern). IfOk c.interleave_of.result (λ r. Shows r (automaton w))) (sym (ap pattern c.in-Interleave.is ∙ see_interleave c.in-Interleave.members)) c.interleave_of.ensures

pub interleave_of-returns : goal.interleave_of-returns
interleave_of-returns t c =
    subst (λ (w : List Pat). Shown c.loop-member.whole.count c.loop-member.whole.steps.items c.loop-member.whole.accepting.items (automaton (g.interleave (patterns w))))
    (take_all c.loop-member.member-index c.args.members.now c.loop-member-test.false) c.loop-member.invariant

pub part_of-returns-in-Empty : goal.part_of-returns-in-Empty
part_of-returns-in-Empty t c = subst (λ (w : Pattern). IfOk c.nothing_more.result (λ r. Shows r (automaton w))) (sym (ap pattern c.in-Empty.is ∙ see_empty)) c.nothing_more.ensures

pub part_of-returns-in-NotAllowed : goal.part_of-returns-in-NotAllowed
part_of-returns-in-NotAllowed t c = subst (λ (w : Pattern). Shows c.never.result (automaton w)) (sym (ap pattern c.in-NotAllowed.is ∙ see_not_allowed)) c.never.ensures

pub part_of-returns-in-Text : goal.part_of-returns-in-Text
part_of-returns-in-Text t c = subst (λ (w : Pattern). IfOk c.texts.result (λ r. Shows r (automaton w))) (sym (ap pattern c.in-Text.is ∙ see_text)) c.texts.ensures

pub part_of-returns-in-Ref : goal.part_of-returns-in-Ref
part_of-returns-in-Ref t c = subst (λ (w : Pattern). IfOk c.one_element.result (λ r. Shows r (automaton w))) (sym (ap pattern c.in-Ref.is ∙ see_ref c.in-Ref.number)) c.one_element.ensures

pub part_of-again-requires : goal.part_of-again-requires
part_of-again-requires t c = c.in_ok-part_of-in-OneOrMore.ensures

pub group_of-loop-member-init : goal.group_of-loop-member-init
group_of-loop-member-init t c = c.in_ok-whole.ensures

pub choice_of-loop-member-init : goal.choice_of-loop-member-init
choice_of-loop-member-init t c = c.never-whole.ensures

pub interleave_of-loop-member-init : goal.interleave_of-loop-member-init
interleave_of-loop-member-init t c = c.in_ok-whole.ensures
