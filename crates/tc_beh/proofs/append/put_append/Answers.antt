use Rattle.std.proofs.Common.{◌≡◌, ◌<◌, ◌∙◌, ◌||◌, ◌==◌, length, get_or, ap, sym, subst, arith}
use Rattle.tc_beh.specs.Rooms.{output_at}
use Rattle.tc_beh.proofs.RoomRows.{output_is}
use Rattle.tc_beh.proofs.Together.{on_ok_map, on_err_map, or_true, or_false, products_together, new_together, numbers_together}
use Rattle.tc_beh.proofs.append.put_append.Goals.{then-bears, else-bears}
use Rattle.tc_beh.proofs.append.put_append.Goals as goal

pub returns-clause-numbers : goal.returns-clause-numbers
returns-clause-numbers c =
    let h = c.args.hedge.now in
    let t = c.args.tree.now in
    let heads = c.set_heads.ensures.beside in
    let looks = c.put_first_looks.ensures.beside in
    let bearing : c.if-bears.set_heads ≡ ((get_or h.numbers.items 1 0 == 1) || (get_or t.numbers.items 1 0 == 1)) =
    elim c.if-bears.branch [
      | then-bears w ↦ w.set_heads-is ∙ (w.if-bears.true ∙ sym (or_true (get_or h.numbers.items 1 0 == 1) (get_or t.numbers.items 1 0 == 1) (sym c.bears.ensures ∙ w.if-bears.true)))
      | else-bears w ↦
          w.set_heads-is ∙ (w.bears-else-bears.ensures ∙ sym (or_false (get_or h.numbers.items 1 0 == 1) (get_or t.numbers.items 1 0 == 1) (sym c.bears.ensures ∙ w.if-bears.false)))
    ]
    in
    on_ok_map c.put_products-put.result _ _
    (numbers_together c.args.outputs.now c.put_products-put.new.outputs h.flags t.flags c.args.out.now.flags c.args.out.now.entries h.entries t.entries h.numbers.items t.numbers.items c.outputs.result.now c.outputs-2.result.now
    c.requires.hedge c.requires.tree c.outputs.ensures.value c.outputs-2.ensures.value c.args.out.now.numbers.items c.set_heads.new.self.numbers.items c.put_first_looks.new.out.numbers.items c.put_products-put.new.out.numbers.items
    c.is_text.result c.if-bears.set_heads c.is_text.ensures bearing c.set_heads.ensures.change c.set_heads.new.self.flags c.set_heads.new.self.entries c.put_first_looks.new.out.flags c.put_first_looks.new.out.entries heads.flags
    heads.entries (looks.flags ∙ heads.flags) (looks.entries ∙ heads.entries) c.put_first_looks.ensures.others c.put_products-put.ensures.others c.looks.result.now c.looks-2.result.now c.looks.ensures.value c.looks-2.ensures.value
    c.looks.ensures.count c.put_first_looks.ensures.looks)
    c.put_products-put.ensures.pairs

pub returns-clause-partly : goal.returns-clause-partly
returns-clause-partly c =
    let h = c.args.hedge.now in
    let t = c.args.tree.now in
    on_err_map c.put_products-put.result _ _
    (products_together c.args.outputs.now c.put_products-put.new.outputs h.flags t.flags c.args.out.now.flags c.args.out.now.entries h.entries t.entries h.numbers.items t.numbers.items c.outputs.result.now c.outputs-2.result.now
    c.requires.hedge c.requires.tree c.outputs.ensures.value c.outputs-2.ensures.value c.put_first_looks.new.out.entries (c.put_first_looks.ensures.beside.entries ∙ c.set_heads.ensures.beside.entries))
    c.put_products-put.ensures.partly

pub returns-clause-err : goal.returns-clause-err
returns-clause-err c =
    let h = c.args.hedge.now in
    let t = c.args.tree.now in
    on_err_map c.put_products-put.result _ _
    (new_together c.args.outputs.now c.put_products-put.new.outputs h.flags t.flags c.args.out.now.flags c.args.out.now.entries h.entries t.entries h.numbers.items t.numbers.items c.outputs.result.now c.outputs-2.result.now
    c.requires.hedge c.requires.tree c.outputs.ensures.value c.outputs-2.ensures.value c.put_first_looks.new.out.entries (c.put_first_looks.ensures.beside.entries ∙ c.set_heads.ensures.beside.entries))
    c.put_products-put.ensures.err

pub put_products-put-requires-clause-first : goal.put_products-put-requires-clause-first
put_products-put-requires-clause-first c = λ i low.
    let r = c.args.hedge.now in
    let count = c.outputs.ensures.count in
    let inside : i < r.entries = omega (arith, low, count) in
    let same = c.requires.hedge in
    let is : get_or c.outputs.result.now i 0 ≡ output_at r.flags r.numbers.items i = ap (λ l. get_or l i 0) c.outputs.ensures.value ∙ output_is r.flags r.entries r.numbers.items i inside in
    subst (λ n. n < length c.args.outputs.now.matrices) (sym is) (c.requires.first i (omega (arith, inside, same)))

pub put_products-put-requires-clause-second : goal.put_products-put-requires-clause-second
put_products-put-requires-clause-second c = λ i low.
    let r = c.args.tree.now in
    let count = c.outputs-2.ensures.count in
    let inside : i < r.entries = omega (arith, low, count) in
    let same = c.requires.tree in
    let is : get_or c.outputs-2.result.now i 0 ≡ output_at r.flags r.numbers.items i = ap (λ l. get_or l i 0) c.outputs-2.ensures.value ∙ output_is r.flags r.entries r.numbers.items i inside in
    subst (λ n. n < length c.args.outputs.now.matrices) (sym is) (c.requires.second i (omega (arith, inside, same)))
