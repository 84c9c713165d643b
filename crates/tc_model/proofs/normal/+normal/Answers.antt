use Rattle.std.proofs.Common.{◌≡◌, ap, ◌∙◌, sym, subst, drop, ◌+◌, ◌-◌, ℕ, None, Some, arith, rules}
use Rattle.tc_model.specs.NormalLevels.{KidsStay, IsChange, known_kids}
use Rattle.tc_model.specs.Runs.{run_text}
use Rattle.tc_model.specs.Trees.{Trees, beside, joined, joined_to, dropped}
use Rattle.tc_model.specs.Views.{name, trees}
use Rattle.tc_model.specs.declared.normal.Change.{Change}
use Rattle.tc_model.specs.declared.tree.Node.TheViews.{the_lemmas}
use Rattle.tc_model.proofs.NormalForm.{dropped_empty, text_step, elem_step}
use Rattle.tc_model.proofs.NormalLevels.{text_kept, text_changed, element_looked, none_looked, one_kept, one_changed, all_looked, text_left, element_left, kids_before, kids_here}
use Rattle.tc_model.proofs.Views.{left_elem, left_text}
use Rattle.tc_model.proofs.normal.+normal.Goals as goal
use Rattle.tc_model.proofs.normal.+normal.Goals.{normal_from-in-Text+in_ok-gather_text-in-Text, normal_from-in-Elem+in_ok-kids-in-Elem+in_ok-gather_element-in-Elem}

pub change_of-returns-then-text_changes : goal.change_of-returns-then-text_changes
change_of-returns-then-text_changes t c = text_changed c.args.node.now c.in-Text.text c.in-Text.is c.args.behind (sym c.text_changes.ensures ∙ c.if-text_changes.true)

pub change_of-returns-else-text_changes : goal.change_of-returns-else-text_changes
change_of-returns-else-text_changes t c = text_kept c.args.node.now c.in-Text.text c.in-Text.is c.args.behind (sym c.text_changes.ensures ∙ c.if-text_changes.false)

pub change_of-returns-in_ok-fresh-in-Elem : goal.change_of-returns-in_ok-fresh-in-Elem
change_of-returns-in_ok-fresh-in-Elem t c = element_looked c.args.node.now c.in-Elem.field-0 c.in-Elem.kids c.in-Elem.is c.args.behind c.in_ok-fresh-in-Elem.fresh c.kids_changed.result c.kids_changed.ensures c.in_ok-fresh-in-Elem.ensures

pub first_change-loop-place-init : goal.first_change-loop-place-init
first_change-loop-place-init t c = none_looked c.args.nodes.now

pub first_change-returns-in-Text : goal.first_change-returns-in-Text
first_change-returns-in-Text t c =
    one_changed c.args.nodes.now c.loop-place.place c.index-nodes-place.result c.loop-place-test.true c.index-nodes-place.is c.loop-place.behind c.loop-place.invariant None (λ rest. tt)

pub first_change-returns-in-Kids : goal.first_change-returns-in-Kids
first_change-returns-in-Kids t c =
    one_changed c.args.nodes.now c.loop-place.place c.index-nodes-place.result c.loop-place-test.true c.index-nodes-place.is c.loop-place.behind c.loop-place.invariant (Some (trees c.in-Kids.fresh.now))
    (subst (λ (w : Change). IsChange c.loop-place.behind c.index-nodes-place.result w) c.in-Kids.is c.in_ok-change.ensures)

pub first_change-loop-place-preserved : goal.first_change-loop-place-preserved
first_change-loop-place-preserved t c =
    one_kept c.args.nodes.now c.loop-place.place c.index-nodes-place.result c.loop-place-test.true c.index-nodes-place.is c.loop-place.behind c.loop-place.invariant c.is_text-behind.result
    (subst (λ (w : Change). IsChange c.loop-place.behind c.index-nodes-place.result w) c.in-Nothing.is c.in_ok-change.ensures)
    c.is_text-behind.ensures

pub first_change-returns : goal.first_change-returns
first_change-returns t c = all_looked c.args.nodes.now c.loop-place.place c.loop-place.behind (omega (arith, c.loop-place-test.false)) c.loop-place.invariant

pub kids_at-returns-in-Some : goal.kids_at-returns-in-Some
kids_at-returns-in-Some t c =
    let same : c.args.place ≡ c.args.known.now.place = omega arith in
    c.requires.here same (trees c.in-Some.fresh.now) (ap known_kids c.in-Some.is)

pub normal_from-kids_at-requires : goal.normal_from-kids_at-requires
normal_from-kids_at-requires t c =
    let at = left_elem c.args.nodes.now c.loop-place.place c.index-nodes-place.result c.in-Elem.name c.in-Elem.kids c.loop-place-test.true c.index-nodes-place.is c.in-Elem.is in
    let place = c.args.known.now.place in
    let changed = known_kids c.args.known.now.kids in (
      search (rules, the_lemmas),
      (
        kids_before place c.loop-place.place changed _ _ (name c.in-Elem.name) (trees c.in-Elem.kids.now) at c.loop-place.invariant.left,
        kids_here place c.loop-place.place changed _ _ (name c.in-Elem.name) (trees c.in-Elem.kids.now) at c.loop-place.invariant.left,
      ),
    )

pub normal_from-loop-place-init : goal.normal_from-loop-place-init
normal_from-loop-place-init t c = record {
  gathered =
      let whole = trees c.args.nodes.now in
      ap (λ (o : Trees). beside o (dropped (joined_to (run_text c.in_ok-gathered.gathered.run) (joined whole)))) c.in_ok-gathered.ensures.0
      ∙ (ap (λ p. dropped (joined_to p (joined whole))) c.in_ok-gathered.ensures.1 ∙ dropped_empty (joined whole));
  left = λ l.
      let place = c.args.known.now.place in
      let same : place ≡ place - 0 = omega arith in
      subst (λ (m : ℕ). KidsStay m (known_kids c.args.known.now.kids) (trees c.args.nodes.now)) same c.requires;
}

pub normal_from-loop-place-preserved : goal.normal_from-loop-place-preserved
normal_from-loop-place-preserved t c =
    elim c.match-node.branch [
      | normal_from-in-Text+in_ok-gather_text-in-Text w ↦
          let at = left_text c.args.nodes.now c.loop-place.place c.index-nodes-place.result w.in-Text.text c.loop-place-test.true c.index-nodes-place.is w.in-Text.is in
          record {
            gathered =
                text_step (trees c.loop-place.gathered.nodes.items) _ (run_text c.loop-place.gathered.run) _ w.in-Text.text.now (trees (drop (c.loop-place.place + 1) c.args.nodes.now)) _ _
                (ap (λ g. trees g.nodes.items) w.gathered-is ∙ w.in_ok-gather_text-in-Text.ensures.nodes)
                (ap (λ g. run_text g.run) w.gathered-is ∙ w.in_ok-gather_text-in-Text.ensures.run)
                at
                c.loop-place.invariant.gathered;
            left = text_left c.args.known.now.place c.loop-place.place (known_kids c.args.known.now.kids) _ _ w.in-Text.text.now at c.loop-place.invariant.left;
          }
      | normal_from-in-Elem+in_ok-kids-in-Elem+in_ok-gather_element-in-Elem w ↦
          let at = left_elem c.args.nodes.now c.loop-place.place c.index-nodes-place.result w.in-Elem.name w.in-Elem.kids c.loop-place-test.true c.index-nodes-place.is w.in-Elem.is in
          record {
            gathered =
                elem_step (trees c.loop-place.gathered.nodes.items) _ (run_text c.loop-place.gathered.run) _ (name w.in-Elem.name)
                (trees w.in-Elem.kids.now) (trees w.in_ok-kids-in-Elem.kids.now) (trees (drop (c.loop-place.place + 1) c.args.nodes.now)) _ _
                (ap (λ g. trees g.nodes.items) w.gathered-is ∙ w.in_ok-gather_element-in-Elem.ensures.nodes)
                w.in_ok-kids-in-Elem.ensures
                (ap (λ g. run_text g.run) w.gathered-is ∙ w.in_ok-gather_element-in-Elem.ensures.run)
                at
                c.loop-place.invariant.gathered;
            left = element_left c.args.known.now.place c.loop-place.place (known_kids c.args.known.now.kids) _ _ (name w.in-Elem.name) (trees w.in-Elem.kids.now) at c.loop-place.invariant.left;
          }
    ]
