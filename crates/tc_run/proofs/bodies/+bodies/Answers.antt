use Rattle.std.proofs.Common.{◌+◌, [], ap, ◌∙◌, sym, subst, refl, drop, get_or, Bor, List, Some, is_some, Result, Ok, Err, OnOk, cond, Contains, arith}
use Rattle.std.specs.Prelude.{IfSome}
use Rattle.std.specs.Result.{IsErrAnd}
use Rattle.tc_model.specs.Chains.{children, string_value, an_element, a_text, one}
use Rattle.tc_model.specs.Machine.{in_mode, in_body, outputs}
use Rattle.tc_model.specs.Meaning.{all_children}
use Rattle.tc_model.specs.Numberings.{moves_of}
use Rattle.tc_model.specs.Outcomes.{nothing, within, counted, put, put_around, copied}
use Rattle.tc_model.specs.Views as see
use Rattle.tc_model.specs.Sheets.{Inlines}
use Rattle.tc_rules.specs.Asked.{letter}
use Rattle.tc_rules.specs.Views.{mode_of}
use Rattle.tc_rules.specs.RulesView.{ancestor}
use Rattle.tc_rules.specs.declared.rules.Kind.TheVariants as kinds
use Rattle.tc_run.specs.Hits.{value_of}
use Rattle.tc_run.specs.Lettered.{bare, none}
use Rattle.tc_run.specs.Running.{told_by, sheet_by, symbols_by, predicates_by, machine}
use Rattle.tc_run.specs.Views.{before, trees, node}
use Rattle.tc_run.specs.Spent.{Spends, Answers}
use Rattle.tc_rules.specs.Tasks.{of_mode, of_each, going_from}
use Rattle.tc_run.specs.Tasks.{IsMeantBy, IsPartTemplate, built_in, does, outputs_on}
use Rattle.tc_run.specs.declared.letters.Lettered.{Lettered}
use Rattle.tc_run.proofs.Alone.{text_alone, element_alone, copy_alone, call_alone, apply_alone, value_alone, self_alone, choose_alone, each_alone}
use Rattle.tc_run.proofs.BuiltIn.{built_in_children, one_deep, value_same, copy_root, copy_elem}
use Rattle.tc_rules.proofs.NothingBelow.{outputs_none}
use Rattle.tc_run.proofs.Ends.{no_instruction_left, body_end, left_around}
use Rattle.tc_run.proofs.Handing.{handed, open_deep, counted_deep, counted_long, counted_within, instructed}
use Rattle.tc_run.proofs.Hitting.{is_letter, first_going, move_below, going_below, text_visited, outs_next, element_built_in, no_tree_left, spends_none}
use Rattle.tc_run.proofs.Visiting.{template_seen, leads_some, leads_none, some_seen, none_seen}
use Rattle.tc_run.proofs.Idle.{idle_spends}
use Rattle.tc_run.proofs.OnLeaves.{alone_part, whole_meant}
use Rattle.tc_run.proofs.Instructions.{text_seen, self_seen, elem_seen, copy_seen, apply_seen, call_seen, value_of_seen, choose_seen, for_each_seen, elem_part, copy_part, apply_part, call_part, choose_part, for_each_part}
use Rattle.tc_run.proofs.Loops.{body_begin, body_further, body_fail, hits_begin, hits_further, hits_end, hits_fail}
use Rattle.tc_run.proofs.Templates.{no_body, meant_body, meant_built_in, named_got, named_low, named_part_at}
use Rattle.tc_run.proofs.Measures.{deeper_less, tree_less, below_less}
use Rattle.tc_run.proofs.Nodes.{here_elem, is_here_elem, none_selected, down_low, down_is, outs_of_element}
use Rattle.tc_run.proofs.OneTree.{apart_at, element_at}
use Rattle.tc_rules.proofs.PartsOf.{children_move}
use Rattle.tc_run.proofs.Progress.{HitsSoFar}
use Rattle.tc_run.proofs.Putting.{around_fails, enter_fails}
use Rattle.tc_run.proofs.Spending.{Fails, spends_nothing, fails_first, answers_then, spends_last}
use Rattle.tc_run.proofs.Taking.{part_at, so_far_at}
use Rattle.tc_run.proofs.bodies.+bodies.Goals as goal

pub put_element-returns-in_err-body-clause-outcome : goal.put_element-returns-in_err-body-clause-outcome
put_element-returns-in_err-body-clause-outcome t c = λ bodies p hb u.
    let n = c.args.nesting in
    let name = see.name c.args.name in
    let o = does c.args.runner.now bodies p c.args.here.now in
    let e = c.in_err-body.field-0.0 in
    handed n c.args.output.now c.body.new.output c.from_residual-in_err-body.result e (put_around name o) c.from_residual-in_err-body.ensures.1
    (around_fails n c.args.output.now c.enter.new.self name o e c.in_ok-outside.ensures.work.0 (c.in_err-body.ensures.outcome bodies p hb u))

pub put_element-returns-clause-outcome : goal.put_element-returns-clause-outcome
put_element-returns-clause-outcome t c = λ bodies p hb u.
    left_around c.args.nesting c.args.output.now c.enter.new.self c.body.new.output c.leave.new.self (see.name c.args.name) (does c.args.runner.now bodies p c.args.here.now) c.in_ok-outside.outside c.leave.result
    c.in_ok-outside.ensures.starts c.in_ok-outside.ensures.work (c.in_ok-body.ensures.outcome bodies p hb u) c.leave.ensures.ends c.leave.ensures.work c.leave.ensures.err

pub body-loop-one-init : goal.body-loop-one-init
body-loop-one-init t c =
    ((c.requires.ready.work, c.requires.ready.known), c.requires.part, λ bodies p hb u. body_begin c.args.runner.now bodies c.args.here.now c.args.nesting p c.args.output.now (see.body c.args.body.now) (spends_nothing c.args.nesting c.args.output.now c.requires.ready.work c.requires.ready.nesting) u)

pub body-loop-one-preserved : goal.body-loop-one-preserved
body-loop-one-preserved t c =
    let r = c.args.runner.now in
    let is = c.args.body.now in
    let k = c.loop-one.one-index in
    let i = c.one-item.result in (
      (c.in_ok-instruction.ensures.ready.few, c.in_ok-instruction.ensures.ready.known),
      (part_at (sheet_by r) is k i c.loop-one-test.true c.one-item.is c.loop-one.invariant.1).1,
      λ bodies p hb u.
          body_further r bodies c.args.here.now c.args.nesting p i (see.body (drop (k + 1) is))
          (so_far_at r bodies c.args.here.now c.args.nesting c.args.output.now c.loop-one.output p is k i c.loop-one-test.true c.one-item.is (c.loop-one.invariant.2 bodies p hb u))
          (λ q v. c.in_ok-instruction.ensures.outcome bodies q hb v),
    )

pub body-loop-one-preserved-then-is_idle : goal.body-loop-one-preserved-then-is_idle
body-loop-one-preserved-then-is_idle t c =
    let r = c.args.runner.now in
    let is = c.args.body.now in
    let k = c.loop-one.one-index in
    let i = c.one-item.result in
    let h = c.args.here.now in
    let n = c.args.nesting in
    let x = c.loop-one.output in (
      c.loop-one.invariant.0,
      (part_at (sheet_by r) is k i c.loop-one-test.true c.one-item.is c.loop-one.invariant.1).1,
      λ bodies p hb u.
          body_further r bodies h n p i (see.body (drop (k + 1) is))
          (so_far_at r bodies h n c.args.output.now x p is k i c.loop-one-test.true c.one-item.is (c.loop-one.invariant.2 bodies p hb u))
          (λ q v. idle_spends h n _ r bodies q x (c.is_idle.ensures c.if-is_idle.true) c.loop-one.invariant.0.0 c.requires.ready.here.children_are v),
    )

pub body-returns-in_err-instruction-clause-outcome : goal.body-returns-in_err-instruction-clause-outcome
body-returns-in_err-instruction-clause-outcome t c = λ bodies p hb u.
    let r = c.args.runner.now in
    let is = c.args.body.now in
    let k = c.loop-one.one-index in
    let i = c.one-item.result in
    let h = c.args.here.now in
    let n = c.args.nesting in
    let e = c.in_err-instruction.field-0.0 in
    handed n c.args.output.now c.instruction.new.output c.from_residual.result e (does r bodies p h) c.from_residual.ensures.1
    (body_fail r bodies h n p c.args.output.now c.loop-one.output e i (see.body (drop (k + 1) is))
    (so_far_at r bodies h n c.args.output.now c.loop-one.output p is k i c.loop-one-test.true c.one-item.is (c.loop-one.invariant.2 bodies p hb u))
    (λ q v. c.in_err-instruction.ensures.outcome bodies q hb v))

pub body-returns-clause-outcome : goal.body-returns-clause-outcome
body-returns-clause-outcome t c = λ bodies p hb u.
    let is = c.args.body.now in
    let k = c.loop-one.one-index in
    body_end c.args.runner.now bodies c.args.here.now c.args.nesting p c.args.output.now c.loop-one.output (see.body (drop k is)) (no_instruction_left is k c.loop-one-test.false) (c.loop-one.invariant.2 bodies p hb u)

pub built_in-selected-requires : goal.built_in-selected-requires
built_in-selected-requires t c =
    let r = c.args.runner.now in (
      omega (arith, c.decreases, deeper_less c.args.nesting c.in_ok-nesting.nesting (bare (trees c.args.here.now.kids.now)) 3 1 c.in_ok-nesting.ensures.ok (omega arith)),
      (record { runner = c.requires.ready.runner; here = c.requires.ready.here; known = c.requires.ready.known; work = c.requires.ready.work; nesting = c.in_ok-nesting.ensures.ok.1 }, subst (λ p. Contains (moves_of (sheet_by r)) (record { path = p; mode = c.args.mode })) (sym c.all_children-path.ensures) (children_move (sheet_by r) c.args.mode c.requires.mode)),
    )

pub built_in-returns-in_default : goal.built_in-returns-in_default
built_in-returns-in_default t c =
    let r = c.args.runner.now in
    let h = c.args.here.now in
    let n = c.in_ok-nesting.nesting in
    let x = c.args.output.now in
    let y = c.selected.new.output in
    record {
      ready = c.selected.ensures.ready;
      outcome = λ bodies hb.
          instructed c.args.nesting n x y c.selected.result (outputs_on r bodies (children (node h)) h.above (going_from (in_mode c.args.mode) all_children)) (does r bodies (built_in c.args.mode (node h)) h)
          c.in_ok-nesting.ensures.ok (built_in_children r bodies c.args.mode h c.in_default.not-Text)
          (subst (λ p. Answers n x y c.selected.result (outputs_on r bodies (children (node h)) h.above (going_from (in_mode c.args.mode) p))) c.all_children-path.ensures
          (c.selected.ensures.outcome bodies (in_mode c.args.mode) hb (of_mode c.requires.mode)));
    }

pub copy-returns-in-Root-clause-outcome : goal.copy-returns-in-Root-clause-outcome
copy-returns-in-Root-clause-outcome t c = λ bodies p hb u.
    let h = c.args.here.now in
    subst (Answers c.args.nesting c.args.output.now c.body.new.output c.body.result) (sym (copy_root h (does c.args.runner.now bodies p h) c.in-Root.is)) (c.body.ensures.outcome bodies p hb u)

pub copy-returns-in-Elem-clause-outcome : goal.copy-returns-in-Elem-clause-outcome
copy-returns-in-Elem-clause-outcome t c = λ bodies p hb u.
    let h = c.args.here.now in
    subst (Answers c.args.nesting c.args.output.now c.put_element.new.output c.put_element.result) (sym (copy_elem h c.in-Elem.name (does c.args.runner.now bodies p h) c.in-Elem.is)) (c.put_element.ensures.outcome bodies p hb u)

pub apply_to_trees-loop-node-init : goal.apply_to_trees-loop-node-init
apply_to_trees-loop-node-init t c =
    ((c.requires.ready.work, c.requires.ready.known), c.requires.nodes, λ bodies g hb at. hits_begin c.args.runner.now bodies c.args.above c.args.nesting g (bare (trees c.args.nodes.now)) c.args.output.now (spends_nothing c.args.nesting c.args.output.now c.requires.ready.work c.requires.ready.nesting))

pub apply_to_trees-apply_to_tree-requires : goal.apply_to_trees-apply_to_tree-requires
apply_to_trees-apply_to_tree-requires t c =
    let ns = c.args.nodes.now in
    let k = c.loop-node.node-index in
    let x = c.node-item.result in (
      omega (arith, c.decreases, tree_less c.args.nesting ns k x c.loop-node-test.true c.node-item.is),
      (record { runner = c.requires.ready.runner; above = c.requires.ready.above; state = c.requires.ready.state; known = c.loop-node.invariant.0.1; work = c.loop-node.invariant.0.0; nesting = c.requires.ready.nesting }, (apart_at c.args.runner.now ns k x c.loop-node-test.true c.node-item.is c.loop-node.invariant.1).0),
    )

pub apply_to_trees-loop-node-preserved : goal.apply_to_trees-loop-node-preserved
apply_to_trees-loop-node-preserved t c =
    let r = c.args.runner.now in
    let ns = c.args.nodes.now in
    let k = c.loop-node.node-index in
    let x = c.node-item.result in (
      (c.in_ok-apply_to_tree.ensures.ready.few, c.in_ok-apply_to_tree.ensures.ready.known),
      (apart_at r ns k x c.loop-node-test.true c.node-item.is c.loop-node.invariant.1).1,
      λ bodies g hb at.
          hits_further r bodies c.args.above c.args.nesting g (bare (trees ns)) (c.loop-node.invariant.2 bodies g hb at) (c.in_ok-apply_to_tree.ensures.outcome bodies g hb at)
          (outs_next r bodies c.args.above g ns k x c.loop-node-test.true c.node-item.is),
    )

pub apply_to_trees-returns-in_err-apply_to_tree-clause-outcome : goal.apply_to_trees-returns-in_err-apply_to_tree-clause-outcome
apply_to_trees-returns-in_err-apply_to_tree-clause-outcome t c = λ bodies g hb at.
    let r = c.args.runner.now in
    let ns = c.args.nodes.now in
    let k = c.loop-node.node-index in
    let x = c.node-item.result in
    let n = c.args.nesting in
    let above = c.args.above in
    let e = c.in_err-apply_to_tree.field-0.0 in
    let all = bare (trees ns) in
    handed n c.args.output.now c.apply_to_tree.new.output c.from_residual.result e (outputs_on r bodies all above g) c.from_residual.ensures.1
    (hits_fail r bodies above n g all c.args.output.now c.loop-node.output (bare (trees (drop k ns))) (bare (trees (drop (k + 1) ns))) (outputs_on r bodies (bare (before x none)) above g) e
    (c.loop-node.invariant.2 bodies g hb at) (c.in_err-apply_to_tree.ensures.outcome bodies g hb at) (outs_next r bodies above g ns k x c.loop-node-test.true c.node-item.is))

pub apply_to_trees-returns-clause-outcome : goal.apply_to_trees-returns-clause-outcome
apply_to_trees-returns-clause-outcome t c = λ bodies g hb at.
    let r = c.args.runner.now in
    let ns = c.args.nodes.now in
    let n = c.args.nesting in
    let all = bare (trees ns) in
    hits_end r bodies c.args.above n g all
    (subst (λ h. HitsSoFar r bodies c.args.above n c.args.output.now c.loop-node.output g all h) (no_tree_left ns c.loop-node.node-index c.loop-node-test.false) (c.loop-node.invariant.2 bodies g hb at))

pub instantiate-returns-in-Body-clause-outcome : goal.instantiate-returns-in-Body-clause-outcome
instantiate-returns-in-Body-clause-outcome t c = λ bodies p hb m.
    let r = c.args.runner.now in
    let h = c.args.here.now in
    let n = c.in_ok-nesting.nesting in
    let alike = (subst (IsPartTemplate (sheet_by r)) c.in-Body.is c.requires.meant).1 in
    let (q, v, same) = c.on.ensures.same alike r bodies p c.requires.ready.here.children_are (meant_body (sheet_by r).named (node h) c.args.meant c.in-Body.bodies p c.in-Body.is m) in
    counted_within c.args.nesting n c.args.output.now c.count.new.self c.body.new.output c.body.result (does r bodies p h) c.in_ok-nesting.ensures.ok c.in_ok-count.ensures.taken c.in_ok-count.ensures.ok
    (subst (Answers n c.count.new.self c.body.new.output c.body.result) (sym same) (c.body.ensures.outcome bodies q hb v))

pub instantiate-returns-in-BuiltIn-clause-outcome : goal.instantiate-returns-in-BuiltIn-clause-outcome
instantiate-returns-in-BuiltIn-clause-outcome t c = λ bodies p hb m.
    let r = c.args.runner.now in
    let h = c.args.here.now in
    let n = c.in_ok-nesting.nesting in
    let e = meant_built_in (sheet_by r).named (node h) c.args.meant c.in-BuiltIn.mode p c.in-BuiltIn.is m in
    counted_within c.args.nesting n c.args.output.now c.count.new.self c.built_in.new.output c.built_in.result (does r bodies p h) c.in_ok-nesting.ensures.ok c.in_ok-count.ensures.taken c.in_ok-count.ensures.ok
    (subst (λ q. Answers n c.count.new.self c.built_in.new.output c.built_in.result (does r bodies q h)) (sym e) (c.built_in.ensures.outcome bodies hb))

pub instruction-returns-in_err-nesting-clause-outcome : goal.instruction-returns-in_err-nesting-clause-outcome
instruction-returns-in_err-nesting-clause-outcome t c = λ bodies p hb u.
    let r = c.args.runner.now in
    let h = c.args.here.now in
    let n = c.args.nesting in
    let x = c.args.output.now in
    let e = c.in_err-nesting.field-0.0 in
    handed n x x c.from_residual.result e (does r bodies p h) c.from_residual.ensures.1 (open_deep n x e (does r bodies p h) (one_deep r bodies h (sheet_by r).named c.args.instruction.now p u) c.in_err-nesting.ensures.err)

pub instruction-put_element-requires : goal.instruction-put_element-requires
instruction-put_element-requires t c = (
  omega (arith, c.decreases, deeper_less c.args.nesting c.in_ok-nesting.nesting (bare (trees c.args.here.now.kids.now)) 8 6 c.in_ok-nesting.ensures.ok (omega arith)),
  (record { runner = c.requires.ready.runner; here = c.requires.ready.here; known = c.requires.ready.known; work = c.requires.ready.work; nesting = c.in_ok-nesting.ensures.ok.1 }, elem_part (sheet_by c.args.runner.now) c.args.instruction.now c.in-Elem.name c.in-Elem.inner c.in-Elem.is c.requires.part),
)

pub instruction-copy-requires : goal.instruction-copy-requires
instruction-copy-requires t c = (
  omega (arith, c.decreases, deeper_less c.args.nesting c.in_ok-nesting.nesting (bare (trees c.args.here.now.kids.now)) 9 6 c.in_ok-nesting.ensures.ok (omega arith)),
  (record { runner = c.requires.ready.runner; here = c.requires.ready.here; known = c.requires.ready.known; work = c.requires.ready.work; nesting = c.in_ok-nesting.ensures.ok.1 }, copy_part (sheet_by c.args.runner.now) c.args.instruction.now c.in-Copy.inner c.in-Copy.is c.requires.part),
)

pub instruction-bounds-sheet-number : goal.instruction-bounds-sheet-number
instruction-bounds-sheet-number t c =
    let s = sheet_by c.args.runner.now in
    named_low s c.sheet.result.now c.in-Call.number c.sheet.ensures (call_part s c.args.instruction.now c.in-Call.number c.in-Call.is c.requires.part)

pub instruction-instantiate-requires : goal.instruction-instantiate-requires
instruction-instantiate-requires t c =
    let r = c.args.runner.now in
    let body = get_or c.sheet.result.now.named.now c.in-Call.number no_body in
    let low = call_part (sheet_by r) c.args.instruction.now c.in-Call.number c.in-Call.is c.requires.part in (
      omega (arith, c.decreases, deeper_less c.args.nesting c.in_ok-nesting.nesting (bare (trees c.args.here.now.kids.now)) 1 6 c.in_ok-nesting.ensures.ok (omega arith)),
      (record { runner = c.requires.ready.runner; here = c.requires.ready.here; known = c.requires.ready.known; work = c.requires.ready.work; nesting = c.in_ok-nesting.ensures.ok.1 }, alone_part (sheet_by r) c.alone-called.result body c.alone-called.ensures.whole c.alone-called.ensures.on_leaf (named_part_at r c.requires.ready.runner c.in-Call.number body (named_got (sheet_by r) c.sheet.result.now c.in-Call.number no_body c.sheet.ensures low))),
    )

pub instruction-chosen_branch-chosen-requires-clause-part : goal.instruction-chosen_branch-chosen-requires-clause-part
instruction-chosen_branch-chosen-requires-clause-part t c = choose_part (sheet_by c.args.runner.now) c.args.instruction.now c.in-Choose.branches c.in-Choose.last c.in-Choose.is c.requires.part

pub instruction-returns-in-Text-clause-outcome : goal.instruction-returns-in-Text-clause-outcome
instruction-returns-in-Text-clause-outcome t c = λ bodies p hb u.
    let r = c.args.runner.now in
    let h = c.args.here.now in
    let n = c.in_ok-nesting.nesting in
    let named = (sheet_by r).named in
    let does_it = text_alone r bodies h named (subst (λ b. Inlines named b p) (text_seen c.args.instruction.now c.in-Text.text c.in-Text.is) u) in
    instructed c.args.nesting n c.args.output.now c.put.new.self c.put.result (put c.in-Text.text.now) (does r bodies p h) c.in_ok-nesting.ensures.ok does_it (c.put.ensures.outcome n c.in_ok-nesting.ensures.ok.1)

pub instruction-returns-in-Elem-clause-outcome : goal.instruction-returns-in-Elem-clause-outcome
instruction-returns-in-Elem-clause-outcome t c = λ bodies p hb u.
    let r = c.args.runner.now in
    let h = c.args.here.now in
    let named = (sheet_by r).named in
    let k = element_alone r bodies h named (subst (λ b. Inlines named b p) (elem_seen c.args.instruction.now c.in-Elem.name c.in-Elem.inner c.in-Elem.is) u) in
    instructed c.args.nesting c.in_ok-nesting.nesting c.args.output.now c.put_element.new.output c.put_element.result (put_around (see.name c.in-Elem.name) (does r bodies k.plain h)) (does r bodies p h) c.in_ok-nesting.ensures.ok k.outcome
    (c.put_element.ensures.outcome bodies k.plain hb k.unfolds)

pub instruction-returns-in-Copy-clause-outcome : goal.instruction-returns-in-Copy-clause-outcome
instruction-returns-in-Copy-clause-outcome t c = λ bodies p hb u.
    let r = c.args.runner.now in
    let h = c.args.here.now in
    let named = (sheet_by r).named in
    let k = copy_alone r bodies h named (subst (λ b. Inlines named b p) (copy_seen c.args.instruction.now c.in-Copy.inner c.in-Copy.is) u) in
    instructed c.args.nesting c.in_ok-nesting.nesting c.args.output.now c.copy.new.output c.copy.result (copied (node h) (does r bodies k.plain h)) (does r bodies p h) c.in_ok-nesting.ensures.ok k.outcome
    (c.copy.ensures.outcome bodies k.plain hb k.unfolds)

pub instruction-returns-in-Apply-clause-outcome : goal.instruction-returns-in-Apply-clause-outcome
instruction-returns-in-Apply-clause-outcome t c = λ bodies p hb u.
    let r = c.args.runner.now in
    let h = c.args.here.now in
    let named = (sheet_by r).named in
    let w = see.path c.in-Apply.path in
    let does_it = apply_alone r bodies h named (subst (λ b. Inlines named b p) (apply_seen c.args.instruction.now c.in-Apply.path c.in-Apply.mode c.in-Apply.is) u) in
    instructed c.args.nesting c.in_ok-nesting.nesting c.args.output.now c.selected.new.output c.selected.result (outputs_on r bodies (children (node h)) h.above (going_from (in_mode c.in-Apply.mode) w)) (does r bodies p h) c.in_ok-nesting.ensures.ok does_it
    (c.selected.ensures.outcome bodies (in_mode c.in-Apply.mode) hb (of_mode (apply_part (sheet_by r) c.args.instruction.now c.in-Apply.path c.in-Apply.mode c.in-Apply.is c.requires.part).1))

pub instruction-returns-in-Call-clause-outcome : goal.instruction-returns-in-Call-clause-outcome
instruction-returns-in-Call-clause-outcome t c = λ bodies p hb u.
    let r = c.args.runner.now in
    let h = c.args.here.now in
    let named = (sheet_by r).named in
    let i = c.args.instruction.now in
    let number = c.in-Call.number in
    let at = named_got (sheet_by r) c.sheet.result.now number no_body c.sheet.ensures (call_part (sheet_by r) i number c.in-Call.is c.requires.part) in
    let k = call_alone r bodies h named at (subst (λ b. Inlines named b p) (call_seen i number c.in-Call.is) u) in
    instructed c.args.nesting c.in_ok-nesting.nesting c.args.output.now c.instantiate.new.output c.instantiate.result (counted (does r bodies k.plain h)) (does r bodies p h) c.in_ok-nesting.ensures.ok k.outcome
    (c.instantiate.ensures.outcome bodies k.plain hb (whole_meant named (node h) c.alone-called.result (get_or c.sheet.result.now.named.now number no_body) k.plain c.alone-called.ensures.whole k.unfolds))

pub instruction-returns-in-ValueOf-clause-outcome : goal.instruction-returns-in-ValueOf-clause-outcome
instruction-returns-in-ValueOf-clause-outcome t c = λ bodies p hb u.
    let r = c.args.runner.now in
    let h = c.args.here.now in
    let n = c.in_ok-nesting.nesting in
    let named = (sheet_by r).named in
    let s = value_of c.first_node-first.result in
    let does_it = value_alone r bodies h named (subst (λ b. Inlines named b p) (value_of_seen c.args.instruction.now c.in-ValueOf.path c.in-ValueOf.is) u) in
    instructed c.args.nesting n c.args.output.now c.put_value.new.self c.put_value.result (put s) (does r bodies p h) c.in_ok-nesting.ensures.ok
    (does_it ∙ ap within (value_same r bodies h named (see.path c.in-ValueOf.path) s c.requires.ready.here.children_are c.first_node-first.ensures.value)) (c.put_value.ensures.outcome n c.in_ok-nesting.ensures.ok.1)

pub instruction-returns-in-ValueOfSelf-clause-outcome : goal.instruction-returns-in-ValueOfSelf-clause-outcome
instruction-returns-in-ValueOfSelf-clause-outcome t c = λ bodies p hb u.
    let r = c.args.runner.now in
    let h = c.args.here.now in
    let n = c.in_ok-nesting.nesting in
    let named = (sheet_by r).named in
    let does_it = self_alone r bodies h named (subst (λ b. Inlines named b p) (self_seen c.args.instruction.now c.in-ValueOfSelf.is) u) in
    instructed c.args.nesting n c.args.output.now c.put_self.new.output c.put_self.result (put (string_value (node h))) (does r bodies p h) c.in_ok-nesting.ensures.ok
    does_it (c.put_self.ensures.outcome n c.in_ok-nesting.ensures.ok.1)

pub instruction-returns-in-Choose-clause-outcome : goal.instruction-returns-in-Choose-clause-outcome
instruction-returns-in-Choose-clause-outcome t c = λ bodies p hb u.
    let r = c.args.runner.now in
    let h = c.args.here.now in
    let named = (sheet_by r).named in
    let k = choose_alone r bodies h named (subst (λ b. Inlines named b p) (choose_seen c.args.instruction.now c.in-Choose.branches c.in-Choose.last c.in-Choose.is) u) in
    let (q, v, same) = c.chosen_branch-chosen.ensures.chosen k.branches k.unfolds in
    instructed c.args.nesting c.in_ok-nesting.nesting c.args.output.now c.body.new.output c.body.result (does r bodies q h) (does r bodies p h) c.in_ok-nesting.ensures.ok
    (k.outcome ∙ ap within (same bodies (λ j w. outputs (machine r bodies) (children (node h)) j (ancestor (told_by r) h.above) w))) (c.body.ensures.outcome bodies q hb v)

pub instruction-returns-in-ForEach-clause-outcome : goal.instruction-returns-in-ForEach-clause-outcome
instruction-returns-in-ForEach-clause-outcome t c = λ bodies p hb u.
    let r = c.args.runner.now in
    let h = c.args.here.now in
    let named = (sheet_by r).named in
    let i = c.args.instruction.now in
    let number = c.in-ForEach.number in
    let path = c.in-ForEach.path in
    let inner = c.in-ForEach.field-2 in
    let k = each_alone r bodies h named (subst (λ b. Inlines named b p) (for_each_seen i number path inner c.in-ForEach.is) u) in
    let part = for_each_part (sheet_by r) i number path inner c.in-ForEach.is c.requires.part in
    instructed c.args.nesting c.in_ok-nesting.nesting c.args.output.now c.selected-in-ForEach.new.output c.selected-in-ForEach.result (outputs_on r bodies (children (node h)) h.above (going_from (in_body k.plain) (see.path path))) (does r bodies p h) c.in_ok-nesting.ensures.ok k.outcome
    (c.selected-in-ForEach.ensures.outcome bodies (in_body k.plain) hb (of_each refl part.1 k.unfolds))

pub selected-returns-in-None-clause-outcome : goal.selected-returns-in-None-clause-outcome
selected-returns-in-None-clause-outcome t c = λ bodies k hb task.
    let r = c.args.runner.now in
    let h = c.args.here.now in
    let p = see.path c.args.path.now in
    spends_none c.args.nesting c.args.output.now (outputs_on r bodies (children (node h)) h.above (going_from k p))
    (none_selected r bodies (children (node h)) h.above k p c.in-None.ensures) c.requires.ready.work c.requires.ready.nesting

pub selected-returns-in-Some-clause-outcome : goal.selected-returns-in-Some-clause-outcome
selected-returns-in-Some-clause-outcome t c = λ bodies k hb task.
    let r = c.args.runner.now in
    let h = c.args.here.now in
    let p = see.path c.args.path.now in
    let mode = mode_of (sheet_by r).modes c.args.job in
    let going = first_going r c.in-Some.state p mode k c.in-Some.ensures task in
    subst (λ w. Answers c.args.nesting c.args.output.now c.apply_to_trees.new.output c.apply_to_trees.result (outputs_on r bodies w h.above (going_from k p))) c.requires.ready.here.children_are
    (c.apply_to_trees.ensures.outcome bodies (going_from k p) hb going)

pub copy-body-requires : goal.copy-body-requires
copy-body-requires t c = (omega (arith, c.decreases), (c.requires.ready, c.requires.part))

pub copy-put_element-requires : goal.copy-put_element-requires
copy-put_element-requires t c = (omega (arith, c.decreases), (c.requires.ready, c.requires.part))

pub put_element-body-requires : goal.put_element-body-requires
put_element-body-requires t c = (omega (arith, c.decreases), (record { runner = c.requires.ready.runner; here = c.requires.ready.here; known = c.requires.ready.known; work = c.in_ok-outside.ensures.work.1; nesting = c.requires.ready.nesting }, c.requires.part))

pub body-instruction-requires : goal.body-instruction-requires
body-instruction-requires t c =
    let r = c.args.runner.now in
    let part = part_at (sheet_by r) c.args.body.now c.loop-one.one-index c.one-item.result c.loop-one-test.true c.one-item.is c.loop-one.invariant.1 in
    (omega (arith, c.decreases), (record { runner = c.requires.ready.runner; here = c.requires.ready.here; known = c.loop-one.invariant.0.1; work = c.loop-one.invariant.0.0; nesting = c.requires.ready.nesting }, part.0))

pub instantiate-body-requires : goal.instantiate-body-requires
instantiate-body-requires t c = let part = subst (IsPartTemplate (sheet_by c.args.runner.now)) c.in-Body.is c.requires.meant in (
  omega (arith, c.decreases, deeper_less c.args.nesting c.in_ok-nesting.nesting (bare (trees c.args.here.now.kids.now)) 7 1 c.in_ok-nesting.ensures.ok (omega arith)),
  (record { runner = c.requires.ready.runner; here = c.requires.ready.here; known = c.requires.ready.known; work = c.in_ok-count.ensures.ok.1; nesting = c.in_ok-nesting.ensures.ok.1 }, c.on.ensures.part part.1 (sheet_by c.args.runner.now) part.0),
)

pub instantiate-built_in-requires : goal.instantiate-built_in-requires
instantiate-built_in-requires t c = (
  omega (arith, c.decreases, deeper_less c.args.nesting c.in_ok-nesting.nesting (bare (trees c.args.here.now.kids.now)) 1 1 c.in_ok-nesting.ensures.ok (omega arith)),
  (record { runner = c.requires.ready.runner; here = c.requires.ready.here; known = c.requires.ready.known; work = c.in_ok-count.ensures.ok.1; nesting = c.in_ok-nesting.ensures.ok.1 }, subst (IsPartTemplate (sheet_by c.args.runner.now)) c.in-BuiltIn.is c.requires.meant),
)

pub instruction-selected-requires : goal.instruction-selected-requires
instruction-selected-requires t c = (
  omega (arith, c.decreases, deeper_less c.args.nesting c.in_ok-nesting.nesting (bare (trees c.args.here.now.kids.now)) 3 6 c.in_ok-nesting.ensures.ok (omega arith)),
  (record { runner = c.requires.ready.runner; here = c.requires.ready.here; known = c.requires.ready.known; work = c.requires.ready.work; nesting = c.in_ok-nesting.ensures.ok.1 }, (apply_part (sheet_by c.args.runner.now) c.args.instruction.now c.in-Apply.path c.in-Apply.mode c.in-Apply.is c.requires.part).0),
)

pub instruction-body-requires : goal.instruction-body-requires
instruction-body-requires t c = (
  omega (arith, c.decreases, deeper_less c.args.nesting c.in_ok-nesting.nesting (bare (trees c.args.here.now.kids.now)) 7 6 c.in_ok-nesting.ensures.ok (omega arith)),
  (record { runner = c.requires.ready.runner; here = c.requires.ready.here; known = record { found = c.requires.ready.known.found; children = c.requires.ready.known.children; leaves = c.requires.ready.known.leaves; sights = c.chosen_branch-chosen.ensures.known }; work = c.requires.ready.work; nesting = c.in_ok-nesting.ensures.ok.1 }, c.chosen_branch-chosen.ensures.part),
)

pub instruction-selected-requires-in-ForEach : goal.instruction-selected-requires-in-ForEach
instruction-selected-requires-in-ForEach t c = (
  omega (arith, c.decreases, deeper_less c.args.nesting c.in_ok-nesting.nesting (bare (trees c.args.here.now.kids.now)) 3 6 c.in_ok-nesting.ensures.ok (omega arith)),
  (record { runner = c.requires.ready.runner; here = c.requires.ready.here; known = c.requires.ready.known; work = c.requires.ready.work; nesting = c.in_ok-nesting.ensures.ok.1 }, (for_each_part (sheet_by c.args.runner.now) c.args.instruction.now c.in-ForEach.number c.in-ForEach.path c.in-ForEach.field-2 c.in-ForEach.is c.requires.part).0),
)

pub instantiate_some-returns-in-None-clause-outcome : goal.instantiate_some-returns-in-None-clause-outcome
instantiate_some-returns-in-None-clause-outcome t c = λ bodies p hb m.
    let o = counted (does c.args.runner.now bodies p c.args.here.now) in
    spends_none c.args.nesting c.args.output.now (cond (is_some c.args.meant) o nothing) (none_seen c.args.meant o c.in-None.is) c.requires.ready.work c.requires.ready.nesting

pub instantiate_some-returns-in-Some-clause-outcome : goal.instantiate_some-returns-in-Some-clause-outcome
instantiate_some-returns-in-Some-clause-outcome t c = λ bodies p hb m.
    let r = c.args.runner.now in
    let h = c.args.here.now in
    let o = counted (does r bodies p h) in
    subst (Answers c.args.nesting c.args.output.now c.instantiate.new.output c.instantiate.result) (sym (some_seen c.args.meant c.in-Some.template o c.in-Some.is))
    (c.instantiate.ensures.outcome bodies p hb (subst (λ z. IfSome z (λ w. IsMeantBy (sheet_by r).named (node h) w p)) c.in-Some.is m))

pub apply_to_text-visit-visit-requires-clause-met : goal.apply_to_text-visit-visit-requires-clause-met
apply_to_text-visit-visit-requires-clause-met t c =
    let r = c.args.runner.now in
    record { runner = c.requires.1.1.0.runner; above = c.requires.1.1.0.above; letter = is_letter r (letter kinds.Text c.args.marks) (a_text c.args.text.now) c.requires.1.1.1 }

pub apply_to_text-returns-clause-outcome : goal.apply_to_text-returns-clause-outcome
apply_to_text-returns-clause-outcome w c = λ bodies g hb at.
    let r = c.args.runner.now in
    let s = c.args.text in
    let x = letter kinds.Text c.args.marks in
    let v = c.visit-visit.ensures.visit.template in
    let p = (machine r bodies).body_at g.task (ancestor (told_by r) c.args.above) x in
    let kids : Bor (List Lettered) = record { ref_ptr = (0, 0); now = [] } in
    subst (Answers c.args.nesting c.args.output.now c.instantiate_some.new.output c.instantiate_some.result)
    (sym (text_visited r bodies c.args.above g s kids x (is_some c.visit-visit.result.template) c.requires.1.1.1 (v.hit bodies g at)))
    (c.instantiate_some.ensures.outcome bodies p hb (v.meant bodies g (one (a_text s.now)) hb at (λ i. refl)))

pub apply_to_tree-visit-visit-requires-clause-met : goal.apply_to_tree-visit-visit-requires-clause-met
apply_to_tree-visit-visit-requires-clause-met t c =
    let r = c.args.runner.now in
    let a = element_at r c.args.node.now c.in-Elem.name c.in-Elem.letter c.in-Elem.kids none c.requires.node c.in-Elem.is in
    record {
      runner = c.requires.ready.runner;
      above = c.requires.ready.above;
      letter = is_letter r (letter (kinds.Elem c.in-Elem.letter.sym) c.in-Elem.letter.marks) (an_element (see.name c.in-Elem.name.now) (bare (trees c.in-Elem.kids.now))) a.letter_is;
    }

pub apply_to_tree-instantiate_some-requires : goal.apply_to_tree-instantiate_some-requires
apply_to_tree-instantiate_some-requires t c =
    let r = c.args.runner.now in
    let a = element_at r c.args.node.now c.in-Elem.name c.in-Elem.letter c.in-Elem.kids none c.requires.node c.in-Elem.is in
    let d = c.visit-visit.ensures.visit.next.above in (
      omega (arith, c.decreases, below_less c.args.nesting c.args.node.now c.in-Elem.name c.in-Elem.letter c.in-Elem.kids 4 c.in-Elem.is (omega arith)),
      (
        record {
          runner = c.requires.ready.runner;
          here = is_here_elem r c.in-Elem.name c.in-Elem.letter c.in-Elem.kids none c.visit-visit.result.next.above a (down_low r c.visit-visit.result.next.above _ d);
          known = c.visit-visit.ensures.known;
          work = c.requires.ready.work;
          nesting = c.requires.ready.nesting;
        },
        c.visit-visit.ensures.visit.template.part,
      ),
    )

pub apply_to_tree-returns-in_err-instantiate_some-in-Elem-clause-outcome : goal.apply_to_tree-returns-in_err-instantiate_some-in-Elem-clause-outcome
apply_to_tree-returns-in_err-instantiate_some-in-Elem-clause-outcome t c = λ bodies g hb at.
    let r = c.args.runner.now in
    let n = c.args.nesting in
    let e = c.in_err-instantiate_some-in-Elem.field-0.0 in
    let kids = c.in-Elem.kids in
    let name = c.in-Elem.name in
    let y = c.in-Elem.letter in
    let above = c.args.above in
    let x = letter (kinds.Elem y.sym) y.marks in
    let v = c.visit-visit.ensures.visit in
    let next = c.visit-visit.result.next in
    let h = here_elem name.now kids next.above in
    let p = (machine r bodies).body_at g.task (ancestor (told_by r) above) x in
    let done = counted (does r bodies p h) in
    let first = cond ((machine r bodies).move_hits g x) done nothing in
    let below = outputs_on r bodies (bare (trees kids.now)) h.above ((machine r bodies).move_step g x) in
    let whole = outs_of_element r bodies above g h c.args.node.now name y kids c.requires.node c.in-Elem.is refl (down_is r next.above _ v.next.above) in
    let meant = v.template.meant bodies g (node h) hb at (λ i. element_built_in h (see.name name.now) (bare (trees kids.now)) y.sym.0 refl i) in
    let fails = subst (Fails n c.args.output.now e) (template_seen r c.args.state above x c.visit-visit.result.template v.template bodies g done at) (c.in_err-instantiate_some-in-Elem.ensures.outcome bodies p hb meant) in
    handed n c.args.output.now c.instantiate_some.new.output c.from_residual.result e (outputs_on r bodies (bare (before c.args.node.now none)) above g) c.from_residual.ensures.1
    (subst (Fails n c.args.output.now e) (sym whole) (fails_first n c.args.output.now e first below fails))

pub apply_to_tree-apply_to_trees-requires : goal.apply_to_tree-apply_to_trees-requires
apply_to_tree-apply_to_trees-requires t c =
    let r = c.args.runner.now in
    let x = letter (kinds.Elem c.in-Elem.letter.sym) c.in-Elem.letter.marks in
    let a = element_at r c.args.node.now c.in-Elem.name c.in-Elem.letter c.in-Elem.kids none c.requires.node c.in-Elem.is in
    let next = c.visit-visit.result.next in
    let v = c.visit-visit.ensures.visit.next in (
      omega (arith, c.decreases, below_less c.args.nesting c.args.node.now c.in-Elem.name c.in-Elem.letter c.in-Elem.kids 1 c.in-Elem.is (omega arith)),
      (
        record {
          runner = c.requires.ready.runner;
          above = down_low r next.above _ v.above;
          state = move_below r c.args.state c.in-Some.below x c.requires.ready.state (leads_some r c.args.state c.in-Some.below x next.state v.state c.in-Some.is);
          known = c.in_ok-instantiate_some-in-Elem.ensures.ready.known;
          work = c.in_ok-instantiate_some-in-Elem.ensures.ready.few;
          nesting = c.requires.ready.nesting;
        },
        a.kids_are,
      ),
    )

pub apply_to_tree-returns-in-None-clause-outcome : goal.apply_to_tree-returns-in-None-clause-outcome
apply_to_tree-returns-in-None-clause-outcome t c = λ bodies g hb at.
    let r = c.args.runner.now in
    let n = c.args.nesting in
    let kids = c.in-Elem.kids in
    let name = c.in-Elem.name in
    let y = c.in-Elem.letter in
    let above = c.args.above in
    let x = letter (kinds.Elem y.sym) y.marks in
    let v = c.visit-visit.ensures.visit in
    let next = c.visit-visit.result.next in
    let h = here_elem name.now kids next.above in
    let p = (machine r bodies).body_at g.task (ancestor (told_by r) above) x in
    let done = counted (does r bodies p h) in
    let first = cond ((machine r bodies).move_hits g x) done nothing in
    let below = outputs_on r bodies (bare (trees kids.now)) h.above ((machine r bodies).move_step g x) in
    let whole = outs_of_element r bodies above g h c.args.node.now name y kids c.requires.node c.in-Elem.is refl (down_is r next.above _ v.next.above) in
    let meant = v.template.meant bodies g (node h) hb at (λ i. element_built_in h (see.name name.now) (bare (trees kids.now)) y.sym.0 refl i) in
    let spends = subst (Spends n c.args.output.now c.instantiate_some.new.output) (template_seen r c.args.state above x c.visit-visit.result.template v.template bodies g done at)
    (c.in_ok-instantiate_some-in-Elem.ensures.outcome bodies p hb meant) in
    let empty = leads_none r c.args.state x next.state v.next.state c.in-None.is (record { path = g.path; mode = Some at.mode }) g.state at.state in
    subst (Spends n c.args.output.now c.instantiate_some.new.output) (sym whole)
    (spends_last n c.args.output.now c.instantiate_some.new.output first below spends
    (outputs_none (symbols_by r) (predicates_by r) (sheet_by r).rules bodies (bare (trees kids.now)) g.task (ancestor (told_by r) h.above) ((machine r bodies).move_step g x) empty))

pub apply_to_tree-returns-in-Some-clause-outcome : goal.apply_to_tree-returns-in-Some-clause-outcome
apply_to_tree-returns-in-Some-clause-outcome t c = λ bodies g hb at.
    let r = c.args.runner.now in
    let n = c.args.nesting in
    let kids = c.in-Elem.kids in
    let name = c.in-Elem.name in
    let y = c.in-Elem.letter in
    let above = c.args.above in
    let x = letter (kinds.Elem y.sym) y.marks in
    let v = c.visit-visit.ensures.visit in
    let next = c.visit-visit.result.next in
    let h = here_elem name.now kids next.above in
    let p = (machine r bodies).body_at g.task (ancestor (told_by r) above) x in
    let done = counted (does r bodies p h) in
    let first = cond ((machine r bodies).move_hits g x) done nothing in
    let going = (machine r bodies).move_step g x in
    let below = outputs_on r bodies (bare (trees kids.now)) h.above going in
    let whole = outs_of_element r bodies above g h c.args.node.now name y kids c.requires.node c.in-Elem.is refl (down_is r next.above _ v.next.above) in
    let meant = v.template.meant bodies g (node h) hb at (λ i. element_built_in h (see.name name.now) (bare (trees kids.now)) y.sym.0 refl i) in
    let spends = subst (Spends n c.args.output.now c.instantiate_some.new.output) (template_seen r c.args.state above x c.visit-visit.result.template v.template bodies g done at)
    (c.in_ok-instantiate_some-in-Elem.ensures.outcome bodies p hb meant) in
    subst (Answers n c.args.output.now c.apply_to_trees.new.output c.apply_to_trees.result) (sym whole)
    (answers_then n c.args.output.now c.instantiate_some.new.output c.apply_to_trees.new.output c.apply_to_trees.result first below spends
    (c.apply_to_trees.ensures.outcome bodies going hb (going_below r bodies c.args.state c.in-Some.below g x at (leads_some r c.args.state c.in-Some.below x next.state v.next.state c.in-Some.is))))

-- what fails has no value
failed : {T E : Type 0} (r : Result T E) (P : Type 0) (Q : E → Type 0) → IsErrAnd r Q → OnOk r P
failed (Ok v) P Q h = absurd h
failed (Err e) P Q h = tt

pub copy-returns-in-Root-clause-ready : goal.copy-returns-in-Root-clause-ready
copy-returns-in-Root-clause-ready t c = c.body.ensures.ready

pub copy-returns-in-Elem-clause-ready : goal.copy-returns-in-Elem-clause-ready
copy-returns-in-Elem-clause-ready t c = c.put_element.ensures.ready

pub instantiate-returns-in-Body-clause-ready : goal.instantiate-returns-in-Body-clause-ready
instantiate-returns-in-Body-clause-ready t c = c.body.ensures.ready

pub instantiate-returns-in-BuiltIn-clause-ready : goal.instantiate-returns-in-BuiltIn-clause-ready
instantiate-returns-in-BuiltIn-clause-ready t c = c.built_in.ensures.ready

pub instruction-returns-in-Text-clause-ready : goal.instruction-returns-in-Text-clause-ready
instruction-returns-in-Text-clause-ready t c = record { few = c.put.ensures.few; known = c.requires.ready.known }

pub instruction-returns-in-Elem-clause-ready : goal.instruction-returns-in-Elem-clause-ready
instruction-returns-in-Elem-clause-ready t c = c.put_element.ensures.ready

pub instruction-returns-in-Copy-clause-ready : goal.instruction-returns-in-Copy-clause-ready
instruction-returns-in-Copy-clause-ready t c = c.copy.ensures.ready

pub instruction-returns-in-Apply-clause-ready : goal.instruction-returns-in-Apply-clause-ready
instruction-returns-in-Apply-clause-ready t c = c.selected.ensures.ready

pub instruction-returns-in-Call-clause-ready : goal.instruction-returns-in-Call-clause-ready
instruction-returns-in-Call-clause-ready t c = c.instantiate.ensures.ready

pub instruction-returns-in-ValueOf-clause-ready : goal.instruction-returns-in-ValueOf-clause-ready
instruction-returns-in-ValueOf-clause-ready t c = record { few = c.put_value.ensures.few; known = record { found = c.requires.ready.known.found; children = c.requires.ready.known.children; leaves = c.requires.ready.known.leaves; sights = c.first_node-first.ensures.known } }

pub instruction-returns-in-ValueOfSelf-clause-ready : goal.instruction-returns-in-ValueOfSelf-clause-ready
instruction-returns-in-ValueOfSelf-clause-ready t c = record { few = c.put_self.ensures.few; known = c.requires.ready.known }

pub instruction-returns-in-Choose-clause-ready : goal.instruction-returns-in-Choose-clause-ready
instruction-returns-in-Choose-clause-ready t c = c.body.ensures.ready

pub instruction-returns-in-ForEach-clause-ready : goal.instruction-returns-in-ForEach-clause-ready
instruction-returns-in-ForEach-clause-ready t c = c.selected-in-ForEach.ensures.ready

pub selected-returns-in-Some-clause-ready : goal.selected-returns-in-Some-clause-ready
selected-returns-in-Some-clause-ready t c = c.apply_to_trees.ensures.ready

pub selected-returns-in-None-clause-ready : goal.selected-returns-in-None-clause-ready
selected-returns-in-None-clause-ready t c = record { few = c.requires.ready.work; known = c.requires.ready.known }

pub put_element-returns-in_err-body-clause-ready : goal.put_element-returns-in_err-body-clause-ready
put_element-returns-in_err-body-clause-ready t c = record { few = failed c.from_residual-in_err-body.result _ _ c.from_residual-in_err-body.ensures.1; known = c.in_err-body.ensures.ready.known }

pub body-returns-in_err-instruction-clause-ready : goal.body-returns-in_err-instruction-clause-ready
body-returns-in_err-instruction-clause-ready t c = record { few = failed c.from_residual.result _ _ c.from_residual.ensures.1; known = c.in_err-instruction.ensures.ready.known }

pub apply_to_trees-returns-in_err-apply_to_tree-clause-ready : goal.apply_to_trees-returns-in_err-apply_to_tree-clause-ready
apply_to_trees-returns-in_err-apply_to_tree-clause-ready t c = record { few = failed c.from_residual.result _ _ c.from_residual.ensures.1; known = c.in_err-apply_to_tree.ensures.ready.known }

pub instruction-returns-in_err-nesting-clause-ready : goal.instruction-returns-in_err-nesting-clause-ready
instruction-returns-in_err-nesting-clause-ready t c = record { few = failed c.from_residual.result _ _ c.from_residual.ensures.1; known = c.requires.ready.known }

pub body-returns-clause-ready : goal.body-returns-clause-ready
body-returns-clause-ready t c = record { few = c.loop-one.invariant.0.0; known = c.loop-one.invariant.0.1 }

pub apply_to_trees-returns-clause-ready : goal.apply_to_trees-returns-clause-ready
apply_to_trees-returns-clause-ready t c = record { few = c.loop-node.invariant.0.0; known = c.loop-node.invariant.0.1 }

pub instantiate-returns-in_err-nesting-clause-ready : goal.instantiate-returns-in_err-nesting-clause-ready
instantiate-returns-in_err-nesting-clause-ready t c = record { few = failed c.from_residual.result _ _ c.from_residual.ensures.1; known = c.requires.ready.known }

pub instantiate-returns-in_err-nesting-clause-outcome : goal.instantiate-returns-in_err-nesting-clause-outcome
instantiate-returns-in_err-nesting-clause-outcome t c = λ bodies p hb m.
    let n = c.args.nesting in
    let x = c.args.output.now in
    let e = c.in_err-nesting.field-0.0 in
    let a = does c.args.runner.now bodies p c.args.here.now in
    handed n x x c.from_residual.result e (counted a) c.from_residual.ensures.1 (counted_deep n x e a c.in_err-nesting.ensures.err)

pub instantiate-returns-in_err-count-clause-ready : goal.instantiate-returns-in_err-count-clause-ready
instantiate-returns-in_err-count-clause-ready t c = record { few = failed c.from_residual-in_err-count.result _ _ c.from_residual-in_err-count.ensures.1; known = c.requires.ready.known }

pub instantiate-returns-in_err-count-clause-outcome : goal.instantiate-returns-in_err-count-clause-outcome
instantiate-returns-in_err-count-clause-outcome t c = λ bodies p hb m.
    let n = c.args.nesting in
    let x = c.args.output.now in
    let e = c.in_err-count.field-0.0 in
    let a = does c.args.runner.now bodies p c.args.here.now in
    handed n x c.count.new.self c.from_residual-in_err-count.result e (counted a) c.from_residual-in_err-count.ensures.1 (counted_long n x e a c.in_err-count.ensures.err)

pub put_element-returns-in_err-outside-clause-ready : goal.put_element-returns-in_err-outside-clause-ready
put_element-returns-in_err-outside-clause-ready t c = record { few = failed c.from_residual.result _ _ c.from_residual.ensures.1; known = c.requires.ready.known }

pub put_element-returns-in_err-outside-clause-outcome : goal.put_element-returns-in_err-outside-clause-outcome
put_element-returns-in_err-outside-clause-outcome t c = λ bodies p hb u.
    let n = c.args.nesting in
    let x = c.args.output.now in
    let name = see.name c.args.name in
    let e = c.in_err-outside.field-0.0 in
    let a = does c.args.runner.now bodies p c.args.here.now in
    handed n x c.enter.new.self c.from_residual.result e (put_around name a) c.from_residual.ensures.1 (enter_fails n x name e a c.in_err-outside.ensures.err)

pub instantiate_some-returns-in-Some-clause-ready : goal.instantiate_some-returns-in-Some-clause-ready
instantiate_some-returns-in-Some-clause-ready t c = c.instantiate.ensures.ready

pub instantiate_some-returns-in-None-clause-ready : goal.instantiate_some-returns-in-None-clause-ready
instantiate_some-returns-in-None-clause-ready t c = record { few = c.requires.ready.work; known = c.requires.ready.known }

pub apply_to_text-returns-clause-ready : goal.apply_to_text-returns-clause-ready
apply_to_text-returns-clause-ready t c = c.instantiate_some.ensures.ready

pub apply_to_tree-returns-in-Some-clause-ready : goal.apply_to_tree-returns-in-Some-clause-ready
apply_to_tree-returns-in-Some-clause-ready t c = c.apply_to_trees.ensures.ready

pub apply_to_tree-returns-in-None-clause-ready : goal.apply_to_tree-returns-in-None-clause-ready
apply_to_tree-returns-in-None-clause-ready t c = c.in_ok-instantiate_some-in-Elem.ensures.ready

pub apply_to_tree-returns-in_err-instantiate_some-in-Elem-clause-ready : goal.apply_to_tree-returns-in_err-instantiate_some-in-Elem-clause-ready
apply_to_tree-returns-in_err-instantiate_some-in-Elem-clause-ready t c = record { few = failed c.from_residual.result _ _ c.from_residual.ensures.1; known = c.in_err-instantiate_some-in-Elem.ensures.ready.known }

pub instruction-first_node-first-requires-clause-here : goal.instruction-first_node-first-requires-clause-here
instruction-first_node-first-requires-clause-here t c = record { runner = c.requires.ready.runner; here = c.requires.ready.here; known = c.requires.ready.known.sights }

pub instruction-chosen_branch-chosen-requires-clause-here : goal.instruction-chosen_branch-chosen-requires-clause-here
instruction-chosen_branch-chosen-requires-clause-here t c = record { runner = c.requires.ready.runner; here = c.requires.ready.here; known = c.requires.ready.known.sights }
