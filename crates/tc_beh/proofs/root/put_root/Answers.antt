use Rattle.std.proofs.Common.{◌≡◌, ℕ, List, length, All, ap, ◌∙◌, sym, subst, refl, arith}
use Rattle.std.proofs.lemmas.List.{with_items_is}
use Rattle.tc_mat.specs.Matrix.{Matrix}
use Rattle.tc_model.specs.Sheets.{Body}
use Rattle.tc_rules.specs.Kept.{told}
use Rattle.tc_rules.specs.RulesView.{RulesView}
use Rattle.tc_rows.specs.Triples.{sheet}
use Rattle.tc_beh.specs.Callees.{AreCalleesFirst}
use Rattle.tc_beh.specs.Heights.{deepest}
use Rattle.tc_rows.specs.Bodies.{on_root}
use Rattle.tc_rows.specs.Arithmetic.{below}
use Rattle.tc_beh.specs.Grounds.{called_from}
use Rattle.tc_beh.specs.Places.{entries_by}
use Rattle.tc_beh.specs.Putting.{IsCalled}
use Rattle.tc_beh.proofs.Nodes.{open_for, work_filled}
use Rattle.tc_beh.proofs.OpenLaws.{beside_self, beside_then}
use Rattle.tc_beh.proofs.Rooted.{is_ground, is_placed, root_depth, root_put}
use Rattle.tc_beh.proofs.RunLaws.{no_runs_at}
use Rattle.tc_beh.proofs.root.put_root.Goals as goal

abbrev count_of : List Matrix → ℕ
count_of l = length l

pub put_named-requires-clause-place : goal.put_named-requires-clause-place
put_named-requires-clause-place c =
    let (x, is) = c.requires in
    (x, is_ground x c.args.machine.now c.args.outputs.now c.args.work.now c.args.tree.now is _ refl refl c.bears.ensures c.outputs.ensures.value c.looks.ensures.value refl c.len-held.ensures.matrices refl refl refl refl)

pub put_on_root-requires-clause-place : goal.put_on_root-requires-clause-place
put_on_root-requires-clause-place c =
    let (x, is) = c.requires in
    let w = c.args.work.now in
    let count = c.put_named.auto.named ∙ (ap count_of c.as_mut_slice.ensures.value ∙ sym w.named.ok.0) in
    let value = c.as_slice-2.ensures.value ∙ with_items_is w.named c.put_named.new.named count in (
      x,
      no_runs_at x _
          (is_placed x c.args.machine.now c.args.outputs.now w c.args.tree.now is _ refl refl c.bears.ensures c.outputs.ensures.value c.looks.ensures.value refl c.len-held.ensures.matrices refl refl refl refl
          record {
            count = ap count_of value ∙ c.put_named.ensures.named.count;
            sizes = subst (λ (l : List Matrix). All (λ (e : Matrix). e.size ≡ w.text.size) l) (sym value) c.put_named.ensures.named.sizes;
          })
          refl,
    )

pub put_on_root-requires-clause-sets : goal.put_on_root-requires-clause-sets
put_on_root-requires-clause-sets c =
    let (x, is) = c.requires in
    let m = c.args.machine.now in
    let w = c.args.work.now in
    let same = beside_then m.output c.args.outputs.now w.sets c.put_named.new.sets c.restart.new.self c.put_named.ensures.same (c.restart.ensures.same m.output c.args.outputs.now) in
    open_for x m c.args.outputs.now w is.work is.machine c.restart.new.self same _ refl refl refl _ (root_depth x m c.args.outputs.now w c.args.tree.now is)

pub returns-clause-work : goal.returns-clause-work
returns-clause-work c = λ x is.
    let w = c.args.work.now in
    let put = c.put_named.ensures in
    let outer = c.args.machine.now.output in
    let held = c.args.outputs.now in
    let same = beside_then outer held w.sets c.put_named.new.sets c.put_on_root.new.sets put.same (beside_then outer held c.put_named.new.sets c.restart.new.self c.put_on_root.new.sets (c.restart.ensures.same outer held) c.put_on_root.ensures.same) in
    work_filled x c.args.machine.now held w is.work c.put_on_root.new.sets same c.put_named.new.named (c.put_named.auto.named ∙ ap count_of c.as_mut_slice.ensures.value) (λ k d l. put.named.sizes k d l ∙ is.work.text_size)

pub returns-clause-pairs : goal.returns-clause-pairs
returns-clause-pairs c = λ x is.
    let m = c.args.machine.now in
    let w = c.args.work.now in
    let held = c.args.outputs.now in
    let os = c.outputs.result.now in
    let vs = c.looks.result.now in
    let down = below x c.bears.result (entries_by held.matrices os) vs 0 in
    let count = c.put_named.auto.named ∙ (ap count_of c.as_mut_slice.ensures.value ∙ sym w.named.ok.0) in
    let value = c.as_slice-2.ensures.value ∙ with_items_is w.named c.put_named.new.named count in
    let all = c.len-held.ensures.matrices in
    let put = c.put_on_root.ensures.pairs x
    (no_runs_at x _
    (is_placed x m held w c.args.tree.now is _ refl refl c.bears.ensures c.outputs.ensures.value c.looks.ensures.value refl all refl refl refl refl
    record {
      count = ap count_of value ∙ c.put_named.ensures.named.count;
      sizes = subst (λ (l : List Matrix). All (λ (e : Matrix). e.size ≡ w.text.size) l) (sym value) c.put_named.ensures.named.sizes;
    })
    refl)
    (λ n. subst (λ (l : List Matrix). IsCalled x on_root down (called_from l) n) (sym value)
    (c.put_named.ensures.called x n (is_ground x m held w c.args.tree.now is _ refl refl c.bears.ensures c.outputs.ensures.value c.looks.ensures.value refl all refl refl refl refl))) in
    root_put x m held w c.args.tree.now is all c.bears.result os vs c.bears.ensures c.outputs.ensures.value c.looks.ensures.value c.restart.new.self.out c.put_on_root.new.sets.out
    ((c.restart.ensures.same m.output c.args.outputs.now).size ∙ (c.put_named.ensures.same.size ∙ is.work.open_size)) c.restart.ensures.out put

pub put_named-requires-clause-order : goal.put_named-requires-clause-order
put_named-requires-clause-order c =
    let (x, is) = c.requires in
    let names : (told c.args.machine.now.rules).sheet.named ≡ (sheet x).named = ap (λ (v : RulesView). v.sheet.named) is.machine.parts.are_rules.told in
    subst (λ (os : List ℕ). AreCalleesFirst (told c.args.machine.now.rules).sheet.named os) (sym c.as_slice.ensures.value) (subst (λ (bs : List Body). AreCalleesFirst bs c.args.machine.now.order.items) (sym names) is.machine.order)

pub put_named-requires-clause-named : goal.put_named-requires-clause-named
put_named-requires-clause-named c =
    let (x, is) = c.requires in
    let names : (told c.args.machine.now.rules).sheet.named ≡ (sheet x).named = ap (λ (v : RulesView). v.sheet.named) is.machine.parts.are_rules.told in
    let n = c.args.work.now.text.size in
    record {
      count = ap count_of c.as_mut_slice.ensures.value ∙ (is.work.named_count ∙ ap length (sym names));
      sizes = subst (λ (l : List Matrix). All (λ (e : Matrix). e.size ≡ n) l) (sym c.as_mut_slice.ensures.value) (λ k d l. is.work.named k d l ∙ sym is.work.text_size);
    }

pub put_named-requires-clause-sets : goal.put_named-requires-clause-sets
put_named-requires-clause-sets c =
    let (x, is) = c.requires in
    let m = c.args.machine.now in
    let w = c.args.work.now in
    let names : (told m.rules).sheet.named ≡ (sheet x).named = ap (λ (v : RulesView). v.sheet.named) is.machine.parts.are_rules.told in
    let deep = ap deepest names in
    let depth = is.machine.depth in
    open_for x m c.args.outputs.now w is.work is.machine w.sets (beside_self m.output c.args.outputs.now w.sets) _ refl refl refl (deepest (told m.rules).sheet.named) (omega (arith, deep, depth))
