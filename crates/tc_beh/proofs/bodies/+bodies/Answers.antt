use Rattle.std.proofs.Common.{◌≡◌, ◌+◌, ◌<◌, List, drop, get_or, true, false, not, length, subst, sym, ap, ◌∙◌, refl, rules, arith}
use Rattle.std.proofs.lemmas.Bool.{true≢false}
use Rattle.std.proofs.lemmas.List.{drop_all, get_or_default}
use Rattle.tc_mat.specs.Matrix.{Matrix, IsComposition}
use Rattle.tc_model.specs.Sheets as s
use Rattle.tc_model.specs.Symbols.{Mention, symbol_of, symbol_count, fresh_name}
use Rattle.tc_model.specs.States.{output}
use Rattle.tc_model.specs.Views as see
use Rattle.tc_model.specs.declared.sheet.Instr.TheViews.{the_lemmas}
use Rattle.tc_model.proofs.ViewsBody.{left_instruction, see_text, see_elem, see_copy, see_apply, see_call, see_value_of, see_value_of_self, see_choose, see_for_each}
use Rattle.tc_rules.specs.Kept.{told}
use Rattle.tc_rules.specs.Parts.{IsPart}
use Rattle.tc_rules.proofs.PartsOf.{part_first}
use Rattle.tc_rows.specs.Triples.{outputs, sheet}
use Rattle.tc_rows.specs.PairSets.{HaveSamePairs, chosen, product}
use Rattle.tc_rows.specs.Rows.{bears_value}
use Rattle.tc_rows.specs.Bodies.{around, copied_pairs, stay, text_edges, text_pairs, value_pairs, self_bears}
use Rattle.tc_rows.proofs.PairLaws.{same_on, same_self}
use Rattle.tc_beh.specs.Heights.{depth_in, depth_in_branches}
use Rattle.tc_beh.specs.Opening.{Open, IsOpenAt, IsBeside, Met, Remembers, AreLinked}
use Rattle.tc_beh.specs.Putting.{has, Extends}
use Rattle.tc_rules.specs.RulesView.{RulesView}
use Rattle.tc_beh.specs.Places.{kind_of, below_of, called_by, no_matrix}
use Rattle.tc_beh.proofs.Depths.{depth_next, open_inside, open_chosen}
use Rattle.tc_beh.proofs.Instructed.{P, Q, arm, put_end, no_branch, branch_is, branch_part_at, branch_depth_at, branches_part, branches_depth, branch_taken, branch_passed, taken, not_taken, first_taken, last_taken}
use Rattle.tc_beh.proofs.OpenLaws.{beside_self, beside_same, beside_then, open_on, open_less}
use Rattle.tc_beh.proofs.Placed.{fresh_symbol, look_is, bears_is}
use Rattle.tc_beh.proofs.PutLaws.{then_put, put_same, text_put, around_same, around_inside}
use Rattle.tc_beh.proofs.bodies.+bodies.Goals as goal

pub put_body-loop-instruction-preserved : goal.put_body-loop-instruction-preserved
put_body-loop-instruction-preserved t c =
    let p = c.args.place.now in
    let is = c.args.body.now in
    let k = c.loop-instruction.instruction-index in
    let i = c.instruction-item.result in
    let rest = see.body (drop (k + 1) is) in
    let next = depth_next is k i c.loop-instruction-test.true c.instruction-item.is in
    let so_far = c.loop-instruction.invariant in
    let deep = so_far.depth in
    record {
      same = beside_then c.args.place.now.output.now c.args.place.now.outputs.now c.args.sets.now c.loop-instruction.sets c.put_instruction.new.sets so_far.same c.put_instruction.ensures.same;
      part = (part_first (told p.rules.now).sheet i rest (subst (IsPart (told p.rules.now).sheet) (left_instruction is k i c.loop-instruction-test.true c.instruction-item.is) so_far.part)).1;
      depth = omega (arith, next.1, deep);
      pairs = λ x ok.
          same_on (product (has c.put_instruction.new.sets.out) (P x p rest)) (product (has c.loop-instruction.sets.out) (P x p (see.body (drop k is)))) (product (has c.args.sets.now.out) (P x p (see.body is)))
          (subst (λ b. HaveSamePairs (product (has c.put_instruction.new.sets.out) (P x p rest)) (product (has c.loop-instruction.sets.out) (P x p b))) (sym (left_instruction is k i c.loop-instruction-test.true c.instruction-item.is))
          (c.put_instruction.ensures.pairs x rest ok))
          (so_far.pairs x ok);
    }

pub put_body-returns-clause-pairs : goal.put_body-returns-clause-pairs
put_body-returns-clause-pairs t c = λ x ok.
    let p = c.args.place.now in
    let is = c.args.body.now in
    let k = c.loop-instruction.instruction-index in
    put_end x p ok is k c.loop-instruction.sets.out c.args.sets.now.out (c.loop-instruction.invariant.same.size ∙ c.requires.sets.size) c.loop-instruction-test.false (c.loop-instruction.invariant.pairs x ok)

pub put_instruction-put_element-requires : goal.put_instruction-put_element-requires
put_instruction-put_element-requires t c =
    let e = ap (λ i. see.instruction i s.no_instruction) c.in-Elem.is ∙ see_elem c.in-Elem.name c.in-Elem.inner s.no_instruction in
    let part = subst (IsPart (told c.args.place.now.rules.now).sheet) e c.requires.part in
    let deep = subst (λ b. IsOpenAt c.args.place.now (depth_in b) c.args.sets.now) e c.requires.sets in (
      search (rules, the_lemmas),
      (c.requires.place, (c.sym_of-sym.ensures.below, (part.0, open_inside c.args.place.now (depth_in (see.body c.in-Elem.inner.now)) c.args.sets.now deep))),
    )

pub put_instruction-put_copy-requires : goal.put_instruction-put_copy-requires
put_instruction-put_copy-requires t c =
    let e = ap (λ i. see.instruction i s.no_instruction) c.in-Copy.is ∙ see_copy c.in-Copy.inner s.no_instruction in
    let part = subst (IsPart (told c.args.place.now.rules.now).sheet) e c.requires.part in
    let deep = subst (λ b. IsOpenAt c.args.place.now (depth_in b) c.args.sets.now) e c.requires.sets in (
      search (rules, the_lemmas),
      (c.requires.place, (part.0, open_inside c.args.place.now (depth_in (see.body c.in-Copy.inner.now)) c.args.sets.now deep)),
    )

pub put_instruction-put_selected-requires-clause-path : goal.put_instruction-put_selected-requires-clause-path
put_instruction-put_selected-requires-clause-path t c =
    let e = ap (λ i. see.instruction i s.no_instruction) c.in-Apply.is ∙ see_apply c.in-Apply.path c.in-Apply.mode s.no_instruction in
    let part = subst (IsPart (told c.args.place.now.rules.now).sheet) e c.requires.part in
    part.0

pub put_instruction-put_selected-requires-in-ForEach-clause-path : goal.put_instruction-put_selected-requires-in-ForEach-clause-path
put_instruction-put_selected-requires-in-ForEach-clause-path t c =
    let e = ap (λ i. see.instruction i s.no_instruction) c.in-ForEach.is ∙ see_for_each c.in-ForEach.number c.in-ForEach.path c.in-ForEach.field-2 s.no_instruction in
    let part = subst (IsPart (told c.args.place.now.rules.now).sheet) e c.requires.part in
    part.0

pub put_instruction-returns-in-Elem-clause-pairs : goal.put_instruction-returns-in-Elem-clause-pairs
put_instruction-returns-in-Elem-clause-pairs t c = λ x rest ok.
    let p = c.args.place.now in
    let n = see.name c.in-Elem.name in
    let b = see.body c.in-Elem.inner.now in
    let sym_is = c.sym_of-sym.ensures.symbol ∙ ap (λ (ms : List Mention). symbol_of ms n) ok.symbols in
    arm x p c.args.instruction.now rest (s.put_element n b rest) c.args.sets.now.out c.put_element.new.sets.out (ap (λ i. see.instruction i rest) c.in-Elem.is ∙ see_elem c.in-Elem.name c.in-Elem.inner rest)
    (then_put c.put_element.new.sets.out c.args.sets.now.out (around x (symbol_of x.symbols n) (P x p b)) (P x p rest) (subst (λ a. Extends c.args.sets.now.out c.put_element.new.sets.out (around x a (P x p b))) sym_is (c.put_element.ensures.pairs x ok)))

pub put_instruction-returns-in-Copy-clause-pairs : goal.put_instruction-returns-in-Copy-clause-pairs
put_instruction-returns-in-Copy-clause-pairs t c = λ x rest ok.
    let p = c.args.place.now in
    let b = see.body c.in-Copy.inner.now in
    arm x p c.args.instruction.now rest (s.copy b rest) c.args.sets.now.out c.put_copy.new.sets.out (ap (λ i. see.instruction i rest) c.in-Copy.is ∙ see_copy c.in-Copy.inner rest)
    (then_put c.put_copy.new.sets.out c.args.sets.now.out (copied_pairs x (kind_of p.node) (P x p b)) (P x p rest) (c.put_copy.ensures.pairs x ok))

pub put_instruction-returns-in-ValueOf-clause-pairs : goal.put_instruction-returns-in-ValueOf-clause-pairs
put_instruction-returns-in-ValueOf-clause-pairs t c = λ x rest ok.
    let p = c.args.place.now in
    let w = see.path c.in-ValueOf.path in
    let new = c.put_text_if-in-ValueOf.new.sets.out in
    let value = c.look-found.ensures x ok.rules ∙ look_is x p ok w in
    arm x p c.args.instruction.now rest (s.value w rest) c.args.sets.now.out new (ap (λ i. see.instruction i rest) c.in-ValueOf.is ∙ see_value_of c.in-ValueOf.path rest)
    (then_put new c.args.sets.now.out (value_pairs x (bears_value ((below_of x p).look w))) (P x p rest)
    (subst (λ v. Extends c.args.sets.now.out new (value_pairs x (bears_value v))) value (c.put_text_if-in-ValueOf.ensures.pairs x ok)))

pub put_instruction-returns-in-ValueOfSelf-clause-pairs : goal.put_instruction-returns-in-ValueOfSelf-clause-pairs
put_instruction-returns-in-ValueOfSelf-clause-pairs t c = λ x rest ok.
    let p = c.args.place.now in
    let new = c.put_text_if-in-ValueOfSelf.new.sets.out in
    arm x p c.args.instruction.now rest (s.value_of_self rest) c.args.sets.now.out new (ap (λ i. see.instruction i rest) c.in-ValueOfSelf.is ∙ see_value_of_self rest)
    (then_put new c.args.sets.now.out (value_pairs x (self_bears x (kind_of p.node) (below_of x p).bears)) (P x p rest)
    (subst (λ v. Extends c.args.sets.now.out new (value_pairs x v)) (bears_is x p ok) (c.put_text_if-in-ValueOfSelf.ensures.pairs x ok)))

pub put_instruction-put_first-requires : goal.put_instruction-put_first-requires
put_instruction-put_first-requires t c =
    let p = c.args.place.now in
    let bs = c.in-Choose.branches.now in
    let last = see.body c.in-Choose.last.now in
    let e = ap (λ i. see.instruction i s.no_instruction) c.in-Choose.is ∙ see_choose c.in-Choose.branches c.in-Choose.last s.no_instruction in
    let part = subst (IsPart (told p.rules.now).sheet) e c.requires.part in
    let deep = branches_depth bs last in (
      search (rules, the_lemmas),
      (
        c.requires.place,
        (
          (branches_part (told p.rules.now).sheet bs last part.0).0,
          open_less p (depth_in_branches (see.branches bs (s.otherwise s.no_instruction))) (depth_in_branches (see.branches bs (s.otherwise last))) c.args.sets.now
              (open_chosen p (see.branches bs (s.otherwise last)) c.args.sets.now (subst (λ b. IsOpenAt p (depth_in b) c.args.sets.now) e c.requires.sets)) (omega (arith, deep)),
        ),
      ),
    )

pub put_instruction-put_body-requires : goal.put_instruction-put_body-requires
put_instruction-put_body-requires t c =
    let p = c.args.place.now in
    let bs = c.in-Choose.branches.now in
    let last = see.body c.in-Choose.last.now in
    let e = ap (λ i. see.instruction i s.no_instruction) c.in-Choose.is ∙ see_choose c.in-Choose.branches c.in-Choose.last s.no_instruction in
    let part = subst (IsPart (told p.rules.now).sheet) e c.requires.part in
    let deep = branches_depth bs last in (
      search (rules, the_lemmas),
      (
        c.requires.place,
        (
          (branches_part (told p.rules.now).sheet bs last part.0).1,
          open_on p (depth_in last) (depth_in_branches (see.branches bs (s.otherwise last))) c.args.sets.now c.put_first.new.sets
              (open_chosen p (see.branches bs (s.otherwise last)) c.args.sets.now (subst (λ b. IsOpenAt p (depth_in b) c.args.sets.now) e c.requires.sets)) c.put_first.ensures.same (omega (arith, deep)),
        ),
      ),
    )

pub put_first-put_body-requires : goal.put_first-put_body-requires
put_first-put_body-requires t c =
    let p = c.args.place.now in
    let bs = c.args.branches.now in
    let k = c.loop-branch.branch-index in
    let b = get_or bs k no_branch in
    let is = branch_is bs k no_branch c.loop-branch-test.true in
    let last = s.otherwise s.no_instruction in
    let inv = c.loop-branch.invariant in
    let part = branch_part_at (told p.rules.now).sheet bs k b last c.loop-branch-test.true is inv.part in
    let deep = branch_depth_at bs k b last c.loop-branch-test.true is in
    let all = inv.depth in (
      search (rules, the_lemmas),
      (
        c.requires.place,
        (
          part.1,
          open_on p (depth_in (see.body b.body.now)) (depth_in_branches (see.branches bs last)) c.args.sets.now c.loop-branch.sets c.requires.sets (beside_same c.args.place.now.output.now c.args.place.now.outputs.now c.args.sets.now c.loop-branch.sets inv.sets)
              (omega (arith, deep, all)),
        ),
      ),
    )

pub put_first-returns-then-holds-clause-pairs : goal.put_first-returns-then-holds-clause-pairs
put_first-returns-then-holds-clause-pairs t c = λ x rest ok.
    let p = c.args.place.now in
    let bs = c.args.branches.now in
    let k = c.loop-branch.branch-index in
    let b = get_or bs k no_branch in
    let is = branch_is bs k no_branch c.loop-branch-test.true in
    let inv = c.loop-branch.invariant in
    let here = branch_taken x p ok bs k b rest c.holds.result c.loop-branch-test.true is (c.holds.ensures x ok.rules) c.if-holds.true in
    taken x c.put_body.new.sets.out c.args.sets.now.out (P x p (see.body b.body.now)) (Q x p (see.branches bs rest)) (Q x p rest) true refl (c.put_body.ensures.same.size ∙ (ap (λ (o : Open). o.out.size) inv.sets ∙ (c.requires.sets.size ∙ ok.size)))
    (same_on (P x p (see.body b.body.now)) (Q x p (see.branches (drop k bs) rest)) (Q x p (see.branches bs rest)) here (inv.chosen x rest ok))
    (subst (λ (m : Matrix). Extends m c.put_body.new.sets.out (P x p (see.body b.body.now))) (ap (λ (o : Open). o.out) inv.sets) (c.put_body.ensures.pairs x ok))

pub put_first-returns-then-holds-clause-stays : goal.put_first-returns-then-holds-clause-stays
put_first-returns-then-holds-clause-stays t c = λ e. absurd (true≢false e)

pub put_first-returns-clause-stays : goal.put_first-returns-clause-stays
put_first-returns-clause-stays t c = λ e. c.loop-branch.invariant.sets

pub put_first-loop-branch-preserved : goal.put_first-loop-branch-preserved
put_first-loop-branch-preserved t c =
    let p = c.args.place.now in
    let bs = c.args.branches.now in
    let k = c.loop-branch.branch-index in
    let b = get_or bs k no_branch in
    let is = branch_is bs k no_branch c.loop-branch-test.true in
    let last = s.otherwise s.no_instruction in
    let inv = c.loop-branch.invariant in
    let deep = branch_depth_at bs k b last c.loop-branch-test.true is in
    record {
      sets = inv.sets;
      part = (branch_part_at (told p.rules.now).sheet bs k b last c.loop-branch-test.true is inv.part).2;
      depth = omega (arith, inv.depth, deep);
      chosen = λ x rest ok.
          same_on (Q x p (see.branches (drop (k + 1) bs) rest)) (Q x p (see.branches (drop k bs) rest)) (Q x p (see.branches bs rest))
          (branch_passed x p ok bs k b rest c.holds.result c.loop-branch-test.true is (c.holds.ensures x ok.rules) c.if-holds.false) (inv.chosen x rest ok);
    }

pub put_first-returns-clause-pairs : goal.put_first-returns-clause-pairs
put_first-returns-clause-pairs t c = λ x rest ok.
    let p = c.args.place.now in
    let bs = c.args.branches.now in
    let k = c.loop-branch.branch-index in
    let inv = c.loop-branch.invariant in
    let none : see.branches (drop k bs) rest ≡ rest = ap (λ l. see.branches l rest) (drop_all k bs c.loop-branch-test.false) in
    let same : HaveSamePairs (Q x p rest) (Q x p (see.branches bs rest)) = subst (λ y. HaveSamePairs (Q x p y) (Q x p (see.branches bs rest))) none (inv.chosen x rest ok) in
    subst (λ (m : Matrix). HaveSamePairs (product (has m) (Q x p rest)) (product (has c.args.sets.now.out) (Q x p (see.branches bs rest)))) (sym (ap (λ (o : Open). o.out) inv.sets))
    (not_taken x c.args.sets.now.out (Q x p rest) (Q x p (see.branches bs rest)) false refl same)

pub put_instruction-returns-then-put_first-clause-pairs : goal.put_instruction-returns-then-put_first-clause-pairs
put_instruction-returns-then-put_first-clause-pairs t c = λ x rest ok.
    let p = c.args.place.now in
    let last = s.otherwise (see.body c.in-Choose.last.now) in
    let y = see.branches c.in-Choose.branches.now last in
    let new = c.put_first.new.sets.out in
    let put = first_taken x new c.args.sets.now.out (Q x p last) (Q x p y) c.put_first.result c.if-put_first.true (c.put_first.ensures.same.size ∙ (c.requires.sets.size ∙ ok.size)) (c.put_first.ensures.pairs x last ok) in
    arm x p c.args.instruction.now rest (s.choose y rest) c.args.sets.now.out new (ap (λ i. see.instruction i rest) c.in-Choose.is ∙ see_choose c.in-Choose.branches c.in-Choose.last rest)
    (then_put new c.args.sets.now.out (Q x p y) (P x p rest) put)

pub put_instruction-returns-else-put_first-clause-pairs : goal.put_instruction-returns-else-put_first-clause-pairs
put_instruction-returns-else-put_first-clause-pairs t c = λ x rest ok.
    let p = c.args.place.now in
    let last = s.otherwise (see.body c.in-Choose.last.now) in
    let y = see.branches c.in-Choose.branches.now last in
    let new = c.put_body.new.sets.out in
    let put = last_taken x new c.put_first.new.sets.out c.args.sets.now.out (Q x p last) (Q x p y) c.put_first.result c.if-put_first.false (c.put_first.ensures.pairs x last ok) (c.put_body.ensures.pairs x ok) in
    arm x p c.args.instruction.now rest (s.choose y rest) c.args.sets.now.out new (ap (λ i. see.instruction i rest) c.in-Choose.is ∙ see_choose c.in-Choose.branches c.in-Choose.last rest)
    (then_put new c.args.sets.now.out (Q x p y) (P x p rest) put)

pub put_instruction-returns-in-Call-clause-pairs : goal.put_instruction-returns-in-Call-clause-pairs
put_instruction-returns-in-Call-clause-pairs t c = λ x rest ok.
    let p = c.args.place.now in
    let n = c.in-Call.number in
    let m = c.index-place-number.result in
    let new = c.put.new.self.out in
    let e = ap (λ i. see.instruction i s.no_instruction) c.in-Call.is ∙ see_call n s.no_instruction in
    let part = subst (IsPart (told p.rules.now).sheet) e c.requires.part in
    let names : length (told p.rules.now).sheet.named ≡ length (sheet x).named = ap (λ (v : RulesView). length v.sheet.named) ok.rules.told in
    let low : n < length p.named.now = let w = part.0 in omega (arith, w, names, ok.named_count) in
    let set : get_or p.named.now n m ≡ get_or p.named.now n no_matrix = get_or_default p.named.now n m no_matrix low in
    arm x p c.args.instruction.now rest (s.call n rest) c.args.sets.now.out new (ap (λ i. see.instruction i rest) c.in-Call.is ∙ see_call n rest)
    (then_put new c.args.sets.now.out (called_by p n) (P x p rest) (subst (λ (w : Matrix). Extends c.args.sets.now.out new (has w)) set c.put.ensures.pairs))

pub put_body-put_instruction-requires : goal.put_body-put_instruction-requires
put_body-put_instruction-requires t c =
    let p = c.args.place.now in
    let is = c.args.body.now in
    let k = c.loop-instruction.instruction-index in
    let i = c.instruction-item.result in
    let so_far = c.loop-instruction.invariant in
    let next = depth_next is k i c.loop-instruction-test.true c.instruction-item.is in
    let deep = so_far.depth in
    let part = part_first (told p.rules.now).sheet i (see.body (drop (k + 1) is)) (subst (IsPart (told p.rules.now).sheet) (left_instruction is k i c.loop-instruction-test.true c.instruction-item.is) so_far.part) in (
      search (rules, the_lemmas),
      (c.requires.place, (part.0, open_on p (depth_in (see.instruction i s.no_instruction)) (depth_in (see.body is)) c.args.sets.now c.loop-instruction.sets c.requires.sets so_far.same (omega (arith, next.0, deep)))),
    )

pub put_copy-put_body-requires : goal.put_copy-put_body-requires
put_copy-put_body-requires t c = (
  search (rules, the_lemmas),
  (c.requires.place, (c.requires.part, open_less c.args.place.now (depth_in (see.body c.args.inner.now)) (depth_in (see.body c.args.inner.now) + 1) c.args.sets.now c.requires.sets (omega arith))),
)

pub put_instruction-look-found-requires-clause-path : goal.put_instruction-look-found-requires-clause-path
put_instruction-look-found-requires-clause-path t c =
    let e = ap (λ i. see.instruction i s.no_instruction) c.in-ValueOf.is ∙ see_value_of c.in-ValueOf.path s.no_instruction in
    let part = subst (IsPart (told c.args.place.now.rules.now).sheet) e c.requires.part in
    part.0

pub put_instruction-bounds-place-number : goal.put_instruction-bounds-place-number
put_instruction-bounds-place-number t c =
    let (x, ok) = c.requires.place in
    let p = c.args.place.now in
    let n = c.in-Call.number in
    let e = ap (λ i. see.instruction i s.no_instruction) c.in-Call.is ∙ see_call n s.no_instruction in
    let part = subst (IsPart (told p.rules.now).sheet) e c.requires.part in
    let names : length (told p.rules.now).sheet.named ≡ length (sheet x).named = ap (λ (v : RulesView). length v.sheet.named) ok.rules.told in
    let w = part.0 in
    omega (arith, w, names, ok.named_count)

pub put_instruction-returns-in-Text-clause-pairs : goal.put_instruction-returns-in-Text-clause-pairs
put_instruction-returns-in-Text-clause-pairs t c = λ x rest ok.
    let p = c.args.place.now in
    let new = c.put_text_if.new.sets.out in
    let w = c.in-Text.text.now in
    arm x p c.args.instruction.now rest (s.put_text w rest) c.args.sets.now.out new (ap (λ i. see.instruction i rest) c.in-Text.is ∙ see_text c.in-Text.text rest)
    (then_put new c.args.sets.now.out (text_pairs x w) (P x p rest)
    (put_same c.args.sets.now.out new (value_pairs x (not c.is_white_space_only.result)) (text_pairs x w)
    (subst (λ b. HaveSamePairs (value_pairs x (not c.is_white_space_only.result)) (chosen b (stay x) (text_edges x))) c.is_white_space_only.ensures (text_put x c.is_white_space_only.result)) (c.put_text_if.ensures.pairs x ok)))

pub put_instruction-returns-in-Apply-clause-pairs : goal.put_instruction-returns-in-Apply-clause-pairs
put_instruction-returns-in-Apply-clause-pairs t c = λ x rest ok.
    let p = c.args.place.now in
    let new = c.put_selected.new.sets.out in
    let w = see.path c.in-Apply.path in
    arm x p c.args.instruction.now rest (s.apply w c.in-Apply.mode rest) c.args.sets.now.out new (ap (λ i. see.instruction i rest) c.in-Apply.is ∙ see_apply c.in-Apply.path c.in-Apply.mode rest)
    (then_put new c.args.sets.now.out ((below_of x p).pairs c.in-Apply.mode w) (P x p rest) (c.put_selected.ensures.pairs x ok))

pub put_first-holds-requires-clause-test : goal.put_first-holds-requires-clause-test
put_first-holds-requires-clause-test t c =
    let bs = c.args.branches.now in
    let k = c.loop-branch.branch-index in
    (branch_part_at (told c.args.place.now.rules.now).sheet bs k (get_or bs k no_branch) (s.otherwise s.no_instruction) c.loop-branch-test.true (branch_is bs k no_branch c.loop-branch-test.true) c.loop-branch.invariant.part).0

pub put_body-loop-instruction-init : goal.put_body-loop-instruction-init
put_body-loop-instruction-init t c = record {
  same = beside_self c.args.place.now.output.now c.args.place.now.outputs.now c.args.sets.now;
  part = c.requires.part;
  depth = omega arith;
  pairs = λ x ok. same_self (product (has c.args.sets.now.out) (P x c.args.place.now (see.body c.args.body.now)));
}

pub put_copy-put_element-requires : goal.put_copy-put_element-requires
put_copy-put_element-requires t c =
    let (x, ok) = c.requires.place in
    let low = ok.symbol c.in-Elem.sym.0 (ap kind_of c.in-Elem.is) in (
      search (rules, the_lemmas),
      (c.requires.place, (subst (λ (ms : List Mention). c.in-Elem.sym.0 < symbol_count ms) (sym ok.symbols) low, (c.requires.part, c.requires.sets))),
    )

pub put_copy-returns-in-Root-clause-pairs : goal.put_copy-returns-in-Root-clause-pairs
put_copy-returns-in-Root-clause-pairs t c = λ x ok.
    subst (λ k. Extends c.args.sets.now.out c.put_body.new.sets.out (copied_pairs x k (P x c.args.place.now (see.body c.args.inner.now)))) (sym (ap kind_of c.in-Root.is)) (c.put_body.ensures.pairs x ok)

pub put_copy-returns-in-Elem-clause-pairs : goal.put_copy-returns-in-Elem-clause-pairs
put_copy-returns-in-Elem-clause-pairs t c = λ x ok.
    subst (λ k. Extends c.args.sets.now.out c.put_element.new.sets.out (copied_pairs x k (P x c.args.place.now (see.body c.args.inner.now)))) (sym (ap kind_of c.in-Elem.is)) (c.put_element.ensures.pairs x ok)

pub put_copy-returns-in-Text-clause-pairs : goal.put_copy-returns-in-Text-clause-pairs
put_copy-returns-in-Text-clause-pairs t c = λ x ok.
    let p = c.args.place.now in
    let new = c.put_text.new.self.out in
    subst (λ k. Extends c.args.sets.now.out new (copied_pairs x k (P x p (see.body c.args.inner.now)))) (sym (ap kind_of c.in-Text.is))
    (put_same c.args.sets.now.out new (has p.text.now) (text_edges x) ok.text (subst (λ (m : Matrix). IsComposition c.args.sets.now.out m new) c.requires.sets.text c.put_text.ensures.pairs))

pub put_first-loop-branch-init : goal.put_first-loop-branch-init
put_first-loop-branch-init t c = record {
  sets = refl;
  part = c.requires.part;
  depth = omega arith;
  chosen = λ x rest ok. same_self (Q x c.args.place.now (see.branches c.args.branches.now rest));
}

pub put_instruction-returns-in-ForEach-clause-pairs : goal.put_instruction-returns-in-ForEach-clause-pairs
put_instruction-returns-in-ForEach-clause-pairs t c = λ x rest ok.
    let p = c.args.place.now in
    let n = c.in-ForEach.number in
    let new = c.put_selected-in-ForEach.new.sets.out in
    let w = see.path c.in-ForEach.path in
    let modes : (told p.rules.now).sheet.modes ≡ (sheet x).modes = ap (λ (v : RulesView). v.sheet.modes) ok.rules.told in
    arm x p c.args.instruction.now rest (s.for_each n w (see.body c.in-ForEach.field-2.now) rest) c.args.sets.now.out new (ap (λ i. see.instruction i rest) c.in-ForEach.is ∙ see_for_each n c.in-ForEach.path c.in-ForEach.field-2 rest)
    (then_put new c.args.sets.now.out ((below_of x p).pairs ((sheet x).modes + n) w) (P x p rest) (subst (λ m. Extends c.args.sets.now.out new ((below_of x p).pairs (m + n) w)) modes (c.put_selected-in-ForEach.ensures.pairs x ok)))

pub put_element-begin-requires : goal.put_element-begin-requires
put_element-begin-requires t c = let room = c.requires.sets.room in omega (arith, room)

pub put_element-put_body-requires : goal.put_element-put_body-requires
put_element-put_body-requires t c =
    let at = c.requires.sets in
    let room = at.room in
    let few = at.few in
    let begun = c.begin.ensures.room in (
      search (rules, the_lemmas),
      (
        c.requires.place,
        (
          c.requires.part,
          record {
            size = c.begin.ensures.size ∙ at.size;
            text = ap (λ (m : Met). m.text) c.begin.ensures.met ∙ at.text;
            remembers = subst (λ (m : Met). Remembers c.args.place.now.output.now m) (sym c.begin.ensures.met) at.remembers;
            links = subst (λ (m : Met). AreLinked c.args.place.now.outputs.now m) (sym c.begin.ensures.met) at.links;
            room = omega (arith, room, begun);
            few = omega (arith, few, begun);
          },
        ),
      ),
    )

pub put_element-end_element-requires : goal.put_element-end_element-requires
put_element-end_element-requires t c =
    let (x, ok) = c.requires.place in
    let a = c.args.sym.0 in
    let at = c.requires.sets in
    let low = subst (λ (ms : List Mention). a < symbol_count ms) ok.symbols c.requires.symbol in
    record {
      symbol = subst (λ n. a < n) (sym ok.hedge.counted) low;
      states = ok.hedge.auto.built.counted ∙ sym (c.put_body.ensures.same.size ∙ (c.begin.ensures.size ∙ (at.size ∙ ok.size)));
      remembers = c.put_body.ensures.same.remembers (subst (λ (m : Met). Remembers c.args.place.now.output.now m) (sym c.begin.ensures.met) at.remembers);
      sets = (c.args.sets.now.out, c.args.sets.now.under, c.put_body.ensures.same.under ∙ c.begin.ensures.under);
    }

pub put_element-returns-clause-same : goal.put_element-returns-clause-same
put_element-returns-clause-same t c =
    let old = c.args.sets.now in
    let put = c.put_body.ensures.same in
    let first = c.begin.ensures in
    let last = c.end_element.ensures in
    let begun = first.room in
    let inside = put.room in
    let ended = last.room in
    record {
      size = last.size ∙ (put.size ∙ first.size);
      under = (last.pairs old.out old.under (put.under ∙ first.under)).0;
      room = omega (arith, begun, inside, ended);
      text = last.text ∙ (put.text ∙ ap (λ (m : Met). m.text) first.met);
      remembers = λ r. last.remembers;
      links = λ l. last.links c.args.place.now.outputs.now (put.links (subst (λ (m : Met). AreLinked c.args.place.now.outputs.now m) (sym first.met) l));
    }

pub put_element-returns-clause-pairs : goal.put_element-returns-clause-pairs
put_element-returns-clause-pairs t c = λ x ok.
    let p = c.args.place.now in
    let old = c.args.sets.now in
    let a = c.args.sym.0 in
    let b = see.body c.args.inner.now in
    let inside = c.put_body.new.sets.out in
    let begun = c.begin.new.self.out in
    let low = subst (λ (ms : List Mention). a < symbol_count ms) ok.symbols c.requires.symbol in
    let ended = (c.end_element.ensures.pairs old.out old.under (c.put_body.ensures.same.under ∙ c.begin.ensures.under)).1 in
    let led : HaveSamePairs (has ended.0) (around x a (has inside)) =
    ended.1 output x.output x.symbols ok.hedge (fresh_name x.symbols a) (fresh_symbol x ok.rules.triple.symbols a low)
    in
    let size : begun.size ≡ outputs x = c.begin.ensures.size ∙ (c.requires.sets.size ∙ ok.size) in
    put_same old.out c.end_element.new.self.out (has ended.0) (around x a (P x p b))
    (same_on (has ended.0) (around x a (has inside)) (around x a (P x p b)) led
    (same_on (around x a (has inside)) (around x a (product (has begun) (P x p b))) (around x a (P x p b))
    (around_same x a (has inside) (product (has begun) (P x p b)) (c.put_body.ensures.pairs x ok))
    (around_inside x a begun (P x p b) size c.begin.ensures.out)))
    ended.2

pub put_body-returns-clause-same : goal.put_body-returns-clause-same
put_body-returns-clause-same t c = c.loop-instruction.invariant.same

pub put_instruction-put-requires : goal.put_instruction-put-requires
put_instruction-put-requires t c =
    let (x, ok) = c.requires.place in
    let p = c.args.place.now in
    let n = c.in-Call.number in
    let e = ap (λ i. see.instruction i s.no_instruction) c.in-Call.is ∙ see_call n s.no_instruction in
    let part = subst (IsPart (told p.rules.now).sheet) e c.requires.part in
    let names : length (told p.rules.now).sheet.named ≡ length (sheet x).named = ap (λ (v : RulesView). length v.sheet.named) ok.rules.told in
    let low : n < length p.named.now = let w = part.0 in omega (arith, w, names, ok.named_count) in
    ok.named n c.index-place-number.result low ∙ sym (c.requires.sets.size ∙ ok.size)

pub put_instruction-returns-in-Text-clause-same : goal.put_instruction-returns-in-Text-clause-same
put_instruction-returns-in-Text-clause-same t c = c.put_text_if.ensures.same

pub put_instruction-returns-in-Elem-clause-same : goal.put_instruction-returns-in-Elem-clause-same
put_instruction-returns-in-Elem-clause-same t c = c.put_element.ensures.same

pub put_instruction-returns-in-Copy-clause-same : goal.put_instruction-returns-in-Copy-clause-same
put_instruction-returns-in-Copy-clause-same t c = c.put_copy.ensures.same

pub put_instruction-returns-in-Apply-clause-same : goal.put_instruction-returns-in-Apply-clause-same
put_instruction-returns-in-Apply-clause-same t c = c.put_selected.ensures.same

pub put_instruction-returns-in-Call-clause-same : goal.put_instruction-returns-in-Call-clause-same
put_instruction-returns-in-Call-clause-same t c = c.put.ensures.same c.args.place.now.output.now c.args.place.now.outputs.now

pub put_instruction-returns-in-ValueOf-clause-same : goal.put_instruction-returns-in-ValueOf-clause-same
put_instruction-returns-in-ValueOf-clause-same t c = c.put_text_if-in-ValueOf.ensures.same

pub put_instruction-returns-in-ValueOfSelf-clause-same : goal.put_instruction-returns-in-ValueOfSelf-clause-same
put_instruction-returns-in-ValueOfSelf-clause-same t c = c.put_text_if-in-ValueOfSelf.ensures.same

pub put_instruction-returns-in-ForEach-clause-same : goal.put_instruction-returns-in-ForEach-clause-same
put_instruction-returns-in-ForEach-clause-same t c = c.put_selected-in-ForEach.ensures.same

pub put_instruction-returns-then-put_first-clause-same : goal.put_instruction-returns-then-put_first-clause-same
put_instruction-returns-then-put_first-clause-same t c = c.put_first.ensures.same

pub put_instruction-returns-else-put_first-clause-same : goal.put_instruction-returns-else-put_first-clause-same
put_instruction-returns-else-put_first-clause-same t c = beside_then c.args.place.now.output.now c.args.place.now.outputs.now c.args.sets.now c.put_first.new.sets c.put_body.new.sets c.put_first.ensures.same c.put_body.ensures.same

pub put_copy-returns-in-Root-clause-same : goal.put_copy-returns-in-Root-clause-same
put_copy-returns-in-Root-clause-same t c = c.put_body.ensures.same

pub put_copy-returns-in-Elem-clause-same : goal.put_copy-returns-in-Elem-clause-same
put_copy-returns-in-Elem-clause-same t c = c.put_element.ensures.same

pub put_copy-returns-in-Text-clause-same : goal.put_copy-returns-in-Text-clause-same
put_copy-returns-in-Text-clause-same t c = c.put_text.ensures.same c.args.place.now.output.now c.args.place.now.outputs.now

pub put_first-returns-then-holds-clause-same : goal.put_first-returns-then-holds-clause-same
put_first-returns-then-holds-clause-same t c = subst (λ (o : Open). IsBeside c.args.place.now.output.now c.args.place.now.outputs.now o c.put_body.new.sets) c.loop-branch.invariant.sets c.put_body.ensures.same

pub put_first-returns-clause-same : goal.put_first-returns-clause-same
put_first-returns-clause-same t c = beside_same c.args.place.now.output.now c.args.place.now.outputs.now c.args.sets.now c.loop-branch.sets c.loop-branch.invariant.sets

pub put_instruction-put_text_if-requires-clause-sets : goal.put_instruction-put_text_if-requires-clause-sets
put_instruction-put_text_if-requires-clause-sets t c = open_less c.args.place.now 0 (depth_in (see.instruction c.args.instruction.now s.no_instruction)) c.args.sets.now c.requires.sets (omega arith)

pub put_instruction-put_text_if-requires-in-ValueOf-clause-sets : goal.put_instruction-put_text_if-requires-in-ValueOf-clause-sets
put_instruction-put_text_if-requires-in-ValueOf-clause-sets t c = open_less c.args.place.now 0 (depth_in (see.instruction c.args.instruction.now s.no_instruction)) c.args.sets.now c.requires.sets (omega arith)

pub put_instruction-put_text_if-requires-in-ValueOfSelf-clause-sets : goal.put_instruction-put_text_if-requires-in-ValueOfSelf-clause-sets
put_instruction-put_text_if-requires-in-ValueOfSelf-clause-sets t c = open_less c.args.place.now 0 (depth_in (see.instruction c.args.instruction.now s.no_instruction)) c.args.sets.now c.requires.sets (omega arith)

pub put_instruction-put_selected-requires-clause-sets : goal.put_instruction-put_selected-requires-clause-sets
put_instruction-put_selected-requires-clause-sets t c = open_less c.args.place.now 0 (depth_in (see.instruction c.args.instruction.now s.no_instruction)) c.args.sets.now c.requires.sets (omega arith)

pub put_instruction-put_selected-requires-in-ForEach-clause-sets : goal.put_instruction-put_selected-requires-in-ForEach-clause-sets
put_instruction-put_selected-requires-in-ForEach-clause-sets t c = open_less c.args.place.now 0 (depth_in (see.instruction c.args.instruction.now s.no_instruction)) c.args.sets.now c.requires.sets (omega arith)
