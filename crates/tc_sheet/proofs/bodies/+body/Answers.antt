use Rattle.tc_model.specs.SheetTextPhrases.{AreBranches}
use Rattle.std.proofs.Common.{ap, ◌∙◌, sym, subst, ◌+◌, drop, []}
use Rattle.std.specs.Prelude.{codes}
use Rattle.std.proofs.lemmas.List.{at_drop_all}
use Rattle.std.proofs.lemmas.Result.{IfOk-weaker, MatchResult-from_both, MatchResult-weaker}
use Rattle.tc_model.specs.Views.{name, place, raw_trees, raw_before, raw_element}
use Rattle.tc_model.specs.SheetTextTrees.{w_otherwise}
use Rattle.tc_model.specs.declared.tree.Raw.{Raw}
use Rattle.tc_model.specs.RawTrees.{none}
use Rattle.tc_sheet.specs.LookedAt.{in_body, in_choose, IsIn}
use Rattle.tc_sheet.specs.Constructs.{of_when}
use Rattle.tc_sheet.specs.Begun.{IsBegun}
use Rattle.tc_sheet.specs.Readings.{Refuses, HasNoBody, HasNoBranches, HasNoElementItem}
use Rattle.std.proofs.Common.{rules}
use Rattle.tc_model.specs.declared.tree.Raw.TheViews.{the_lemmas}
use Rattle.tc_sheet.proofs.bodies.+body.Goals.{read_branches-in-Text+else-not-is_white_space_only, read_branches-in-Elem+in_ok-ends-in-Elem+else-ends+in_ok-branch-in-Elem+in_ok-push-in-Elem}
use Rattle.tc_sheet.specs.Views.{body, branches, put}
use Rattle.tc_sheet.specs.declared.written.Written.TheVariants as v
use Rattle.tc_model.proofs.ViewsRaw.{left_one, left_elem, left_text, before_elem, before_text}
use Rattle.tc_sheet.proofs.ViewsWritten.{see_text}
use Rattle.tc_sheet.proofs.Passed.{passed_on, memory_passed_on}
use Rattle.tc_sheet.proofs.Refused.{memory_refuses, no_memory}
use Rattle.tc_sheet.proofs.BodyLaws.{BodyLoop, around_reads, body_begins, body_goes_on, body_ends, item_of_body_refuses, item_white, item_text, item_read, body_refuses}
use Rattle.tc_sheet.proofs.BranchLaws.{BranchLoop, branches_begin, past_blank, past_when, when_refuses, all_read, otherwise_refuses, none_left, black_refuses, odd_refuses, is_when, is_last, rest_whole, choose_refuses, otherwise_only_refuses, otherwise_body_refuses, otherwise_blank_refuses, otherwise_read, when_test_refuses, when_body_refuses}
use Rattle.tc_sheet.proofs.Unrefused.{weighed_among}
use Rattle.tc_sheet.proofs.bodies.+body.Goals as goal

pub body-loop-kid-init : goal.body-loop-kid-init
body-loop-kid-init t c = subst (BodyLoop (raw_trees c.args.kids.now) (raw_trees c.args.kids.now)) (sym c.new-found.ensures.items) (body_begins (raw_trees c.args.kids.now))

pub body-returns-in_err-read : goal.body-returns-in_err-read
body-returns-in_err-read t c = passed_on _ _ c.from_residual.result c.in_err-read.field-0.0 c.from_residual.ensures.1 (item_of_body_refuses (raw_trees (drop (c.loop-kid.kid-index + 1) c.args.kids.now)) c.kid-item.result (subst (λ h. BodyLoop (raw_trees c.args.kids.now) h c.loop-kid.found.items) (left_one c.args.kids.now c.loop-kid.kid-index c.kid-item.result c.loop-kid-test.true c.kid-item.is) c.loop-kid.invariant) c.in_err-read.field-0.0 c.in_err-read.ensures)

pub body-loop-kid-preserved : goal.body-loop-kid-preserved
body-loop-kid-preserved t c = body_goes_on c.kid-item.result (raw_trees (drop (c.loop-kid.kid-index + 1) c.args.kids.now)) (put c.in_ok-read.read) c.put_read.new.found.items c.in_ok-read.ensures
    (subst (λ h. BodyLoop (raw_trees c.args.kids.now) h c.loop-kid.found.items) (left_one c.args.kids.now c.loop-kid.kid-index c.kid-item.result c.loop-kid-test.true c.kid-item.is) c.loop-kid.invariant) c.in_ok-put_read.ensures.ok

pub body-returns : goal.body-returns
body-returns t c = body_ends c.loop-kid.invariant (at_drop_all raw_trees c.args.kids.now c.loop-kid.kid-index c.loop-kid-test.false) c.into_bump_slice.ensures

pub choose-returns-in_err-last : goal.choose-returns-in_err-last
choose-returns-in_err-last t c = passed_on _ _ c.from_residual.result c.in_err-last.field-0.0 c.from_residual.ensures.1 (choose_refuses c.args.element.now c.requires.choose c.in_err-last.field-0.0 c.in_err-last.ensures)

pub element_of_body-returns-in_err-inner-in-Around : goal.element_of_body-returns-in_err-inner-in-Around
element_of_body-returns-in_err-inner-in-Around t c = passed_on _ _ c.from_residual-in_err-inner-in-Around.result c.in_err-inner-in-Around.field-0.0 c.from_residual-in_err-inner-in-Around.ensures.1 (body_refuses c.args.element.now c.in-Around.head (subst (IsBegun c.args.element.now) c.in-Around.is c.in_ok-begun.ensures.ok) c.in_err-inner-in-Around.field-0.0 c.in_err-inner-in-Around.ensures)

pub item-returns-then-is_white_space_only : goal.item-returns-then-is_white_space_only
item-returns-then-is_white_space_only t c = item_white c.args.kid.now c.in-Text.text.now (place c.in-Text.field-1) (λ rest. ap (λ (y : Raw). raw_before y rest) c.in-Text.is ∙ before_text c.in-Text.text c.in-Text.field-1 rest) (sym c.if-is_white_space_only.ensures)

pub item-returns-else-is_white_space_only : goal.item-returns-else-is_white_space_only
item-returns-else-is_white_space_only t c = item_text c.args.kid.now c.in-Text.text.now (place c.in-Text.field-1) (v.Text c.in-Text.text) (λ rest. ap (λ (y : Raw). raw_before y rest) c.in-Text.is ∙ before_text c.in-Text.text c.in-Text.field-1 rest) (sym c.if-is_white_space_only.ensures) (see_text c.in-Text.text)

pub item-returns-in-Elem : goal.item-returns-in-Elem
item-returns-in-Elem t c = item_read c.args.kid.now c.in-Elem.element (λ rest. ap (λ (y : Raw). raw_before y rest) c.in-Elem.is ∙ before_elem c.in-Elem.element rest) c.element_of_body.result c.element_of_body.ensures

pub otherwise-returns-in_err-only_attributes : goal.otherwise-returns-in_err-only_attributes
otherwise-returns-in_err-only_attributes t c = passed_on _ _ c.from_residual.result c.in_err-only_attributes.field-0.0 c.from_residual.ensures.1 (otherwise_only_refuses c.args.element.now (raw_trees c.args.after.now) c.requires c.in_err-only_attributes.field-0.0 c.in_err-only_attributes.ensures.no)

pub otherwise-returns-in_err-inner : goal.otherwise-returns-in_err-inner
otherwise-returns-in_err-inner t c = passed_on _ _ c.from_residual-in_err-inner.result c.in_err-inner.field-0.0 c.from_residual-in_err-inner.ensures.1 (otherwise_body_refuses c.args.element.now (raw_trees c.args.after.now) c.requires c.in_err-inner.field-0.0 c.in_err-inner.ensures)

pub otherwise-returns-in_err-check_blank : goal.otherwise-returns-in_err-check_blank
otherwise-returns-in_err-check_blank t c = passed_on _ _ c.from_residual-in_err-check_blank.result c.in_err-check_blank.field-0.0 c.from_residual-in_err-check_blank.ensures.1 (otherwise_blank_refuses c.args.element.now (raw_trees c.args.after.now) c.requires c.in_err-check_blank.field-0.0 c.in_err-check_blank.ensures.no)

pub otherwise-returns : goal.otherwise-returns
otherwise-returns t c = otherwise_read c.args.element.now (raw_trees c.args.after.now) c.requires (body c.in_ok-inner.inner.now) c.in_ok-only_attributes.ensures.ok c.in_ok-inner.ensures c.in_ok-check_blank.ensures.ok

pub read_branches-loop-at-init : goal.read_branches-loop-at-init
read_branches-loop-at-init t c = subst (BranchLoop (raw_trees c.args.kids.now) (raw_trees c.args.kids.now)) (sym c.requires) (branches_begin (raw_trees c.args.kids.now))

pub read_branches-returns-then-not-is_white_space_only : goal.read_branches-returns-then-not-is_white_space_only
read_branches-returns-then-not-is_white_space_only t c = black_refuses c.loop-at.invariant c.in-Text.text.now (place c.in-Text.place) (raw_trees (drop (c.loop-at.at + 1) c.args.kids.now)) (left_text c.args.kids.now c.loop-at.at c.index-kids-at.result c.in-Text.text c.in-Text.place c.loop-at-test.true c.index-kids-at.is c.in-Text.is) (sym c.if-not-is_white_space_only.ensures)

pub read_branches-returns-in_err-ends-in-Elem : goal.read_branches-returns-in_err-ends-in-Elem
read_branches-returns-in_err-ends-in-Elem t c = passed_on _ _ c.from_residual.result c.in_err-ends-in-Elem.field-0.0 c.from_residual.ensures.1 (odd_refuses c.loop-at.invariant c.in-Elem.element (raw_trees (drop (c.loop-at.at + 1) c.args.kids.now)) (left_elem c.args.kids.now c.loop-at.at c.index-kids-at.result c.in-Elem.element c.loop-at-test.true c.index-kids-at.is c.in-Elem.is) c.in_err-ends-in-Elem.field-0.0 c.in_err-ends-in-Elem.ensures.no)

pub read_branches-otherwise-requires : goal.read_branches-otherwise-requires
read_branches-otherwise-requires t c = (search (rules, the_lemmas), is_last c.in_ok-ends-in-Elem.ends (name c.in-Elem.element.name) c.if-ends.true c.in_ok-ends-in-Elem.ensures.ok)

pub read_branches-returns-then-ends : goal.read_branches-returns-then-ends
read_branches-returns-then-ends t c =
    MatchResult-weaker c.otherwise.result c.otherwise.ensures
    (λ r a.
    all_read c.loop-at.invariant c.in-Elem.element (left_elem c.args.kids.now c.loop-at.at c.index-kids-at.result c.in-Elem.element c.loop-at-test.true c.index-kids-at.is c.in-Elem.is) (body r.now)
    (subst (λ h. AreBranches (raw_element c.in-Elem.element h) (w_otherwise (body r.now))) (rest_whole c.args.kids.now (c.loop-at.at + 1)) a))
    (λ x a.
    otherwise_refuses c.loop-at.invariant c.in-Elem.element (left_elem c.args.kids.now c.loop-at.at c.index-kids-at.result c.in-Elem.element c.loop-at-test.true c.index-kids-at.is c.in-Elem.is) x
    (subst (λ h. Refuses x (IsIn in_choose (raw_element c.in-Elem.element h)) (HasNoBranches (raw_element c.in-Elem.element h))) (rest_whole c.args.kids.now (c.loop-at.at + 1)) a))

pub read_branches-when-requires : goal.read_branches-when-requires
read_branches-when-requires t c = (search (rules, the_lemmas), is_when c.in_ok-ends-in-Elem.ends (name c.in-Elem.element.name) c.if-ends.false c.in_ok-ends-in-Elem.ensures.ok)

pub read_branches-returns-in_err-branch-in-Elem : goal.read_branches-returns-in_err-branch-in-Elem
read_branches-returns-in_err-branch-in-Elem t c = passed_on _ _ c.from_residual-in_err-branch-in-Elem.result c.in_err-branch-in-Elem.field-0.0 c.from_residual-in_err-branch-in-Elem.ensures.1 (when_refuses c.loop-at.invariant c.in-Elem.element (left_elem c.args.kids.now c.loop-at.at c.index-kids-at.result c.in-Elem.element c.loop-at-test.true c.index-kids-at.is c.in-Elem.is) (is_when c.in_ok-ends-in-Elem.ends (name c.in-Elem.element.name) c.if-ends.false c.in_ok-ends-in-Elem.ensures.ok) c.in_err-branch-in-Elem.field-0.0 c.in_err-branch-in-Elem.ensures)

pub read_branches-loop-at-preserved : goal.read_branches-loop-at-preserved
read_branches-loop-at-preserved t c = elim c.match-kid.branch [
  | read_branches-in-Text+else-not-is_white_space_only w ↦
      subst (BranchLoop (raw_trees c.args.kids.now) (raw_trees (drop (c.loop-at.at + 1) c.args.kids.now))) (sym (ap (λ v. v.items) w.found-is)) (past_blank c.loop-at.invariant w.in-Text.text.now (place w.in-Text.place) (left_text c.args.kids.now c.loop-at.at c.index-kids-at.result w.in-Text.text w.in-Text.place c.loop-at-test.true c.index-kids-at.is w.in-Text.is) (sym w.if-not-is_white_space_only.ensures))
  | read_branches-in-Elem+in_ok-ends-in-Elem+else-ends+in_ok-branch-in-Elem+in_ok-push-in-Elem w ↦
      past_when c.loop-at.invariant w.in-Elem.element (left_elem c.args.kids.now c.loop-at.at c.index-kids-at.result w.in-Elem.element c.loop-at-test.true c.index-kids-at.is w.in-Elem.is) w.in_ok-branch-in-Elem.branch c.match-kid.found.items
      (is_when w.in_ok-ends-in-Elem.ends (name w.in-Elem.element.name) w.if-ends.false w.in_ok-ends-in-Elem.ensures.ok) w.in_ok-branch-in-Elem.ensures (ap (λ v. v.items) w.found-is ∙ w.in_ok-push-in-Elem.ensures.items)
]

pub read_branches-returns : goal.read_branches-returns
read_branches-returns t c = none_left c.loop-at.invariant (at_drop_all raw_trees c.args.kids.now c.loop-at.at c.loop-at-test.false)

pub when-test_of-requires-clause-test : goal.when-test_of-requires-clause-test
when-test_of-requires-clause-test t c = of_when c.requires

pub when-returns-in_err-test : goal.when-returns-in_err-test
when-returns-in_err-test t c = passed_on _ _ c.from_residual.result c.in_err-test.field-0.0 c.from_residual.ensures.1 (when_test_refuses c.args.element.now c.requires c.in_err-test.field-0.0 c.in_err-test.ensures.no)

pub when-returns-in_err-body : goal.when-returns-in_err-body
when-returns-in_err-body t c = passed_on _ _ c.from_residual-in_err-body.result c.in_err-body.field-0.0 c.from_residual-in_err-body.ensures.1 (when_body_refuses c.args.element.now c.requires c.in_err-body.field-0.0 c.in_err-body.ensures)

pub when-returns : goal.when-returns
when-returns t c = record { only = c.in_ok-test.ensures.ok.only; test = c.in_ok-test.ensures.ok.test; body = c.in_ok-body.ensures }

pub otherwise-only_attributes-requires-clause-weighed : goal.otherwise-only_attributes-requires-clause-weighed
otherwise-only_attributes-requires-clause-weighed t c = weighed_among (name c.args.element.now.name) (codes "otherwise") [] tt c.requires

pub element_of_body-returns-in-Whole : goal.element_of_body-returns-in-Whole
element_of_body-returns-in-Whole t c = subst (IsBegun c.args.element.now) c.in-Whole.is c.in_ok-begun.ensures.ok

pub body-returns-in_err-put_read : goal.body-returns-in_err-put_read
body-returns-in_err-put_read t c = passed_on _ _ c.from_residual-in_err-put_read.result c.in_err-put_read.field-0.0 c.from_residual-in_err-put_read.ensures.1
    (memory_refuses (IsIn in_body (raw_trees c.args.kids.now)) (HasNoBody (raw_trees c.args.kids.now)) c.in_err-put_read.ensures.no)

pub choose-returns : goal.choose-returns
choose-returns t c = MatchResult-from_both c.chosen.result _ _ c.chosen.ensures.ok c.chosen.ensures.no

pub element_of_body-returns-in_err-begun : goal.element_of_body-returns-in_err-begun
element_of_body-returns-in_err-begun t c = passed_on _ _ c.from_residual.result c.in_err-begun.field-0.0 c.from_residual.ensures.1 c.in_err-begun.ensures.no

pub element_of_body-returns-in-Choose : goal.element_of_body-returns-in-Choose
element_of_body-returns-in-Choose t c = c.choose.ensures

pub read_branches-returns-in_err-push-in-Elem : goal.read_branches-returns-in_err-push-in-Elem
read_branches-returns-in_err-push-in-Elem t c = memory_passed_on _ (IsIn in_choose (raw_trees c.args.kids.now)) (HasNoBranches (raw_trees c.args.kids.now)) c.from_residual-in_err-push-in-Elem.result c.from_residual-in_err-push-in-Elem.ensures.1

pub choose-chosen-requires : goal.choose-chosen-requires
choose-chosen-requires t c =
    record { choose = c.requires.choose; only = c.requires.only; held = subst (λ bs. AreBranches (raw_trees c.args.element.now.kids.now) (branches bs (w_otherwise (body c.in_ok-last.last.now)))) (sym c.into_bump_slice.ensures) c.in_ok-last.ensures }

pub choose-read_branches-requires : goal.choose-read_branches-requires
choose-read_branches-requires t c = (search (rules, the_lemmas), c.new-found.ensures.items)

pub element_of_body-returns-in_ok-inner-in-Around : goal.element_of_body-returns-in_ok-inner-in-Around
element_of_body-returns-in_ok-inner-in-Around t c =
    MatchResult-from_both c.instruction_with_body.result _ _
    (IfOk-weaker c.instruction_with_body.result _ _
    (λ w f. around_reads c.args.element.now c.in-Around.head w (body c.in_ok-inner-in-Around.inner.now) (subst (IsBegun c.args.element.now) c.in-Around.is c.in_ok-begun.ensures.ok) c.in_ok-inner-in-Around.ensures f)
    c.instruction_with_body.ensures.ok)
    (no_memory (HasNoElementItem c.args.element.now) (IsIn in_body (raw_element c.args.element.now none)) c.instruction_with_body.result c.instruction_with_body.ensures.no)
