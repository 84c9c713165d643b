use Rattle.std.proofs.Common.{◌<◌, ◌≤◌, ◌∙◌, sym, length, arith}
use Rattle.tc_rules.proofs.RowLoops.{alike_goes, alike_later, alike_never, met_is, over_alike}
use Rattle.tc_rules.proofs.rows.are_alike.Goals as goal

pub loop-k-preserved : goal.loop-k-preserved
loop-k-preserved c =
    let xs = c.args.moving.now.words.items in
    let us = c.args.marks.now.words.items in
    let vs = c.args.others.now.words.items in
    let k = c.loop-k.k in
    let l : k < length xs = omega (arith, c.loop-k-test.true, c.len-k-end.ensures) in
    let a = met_is xs us c.deref.result.now k c.index-word.result.now c.word_at.result l c.index-word.ensures c.word_at.ensures c.deref.ensures.value in
    let b = met_is xs vs c.deref-in-loop-k.result.now k c.index-word.result.now c.word_at-in-loop-k.result l c.index-word.ensures c.word_at-in-loop-k.ensures c.deref-in-loop-k.ensures.value in
    alike_later _ _ _ _ (sym a ∙ (c.if-word-word_at.false ∙ b)) (alike_goes xs us k l vs _ c.loop-k.invariant)

pub returns-then-word-word_at : goal.returns-then-word-word_at
returns-then-word-word_at c =
    let xs = c.args.moving.now.words.items in
    let us = c.args.marks.now.words.items in
    let vs = c.args.others.now.words.items in
    let k = c.loop-k.k in
    let l : k < length xs = omega (arith, c.loop-k-test.true, c.len-k-end.ensures) in
    let a = met_is xs us c.deref.result.now k c.index-word.result.now c.word_at.result l c.index-word.ensures c.word_at.ensures c.deref.ensures.value in
    let b = met_is xs vs c.deref-in-loop-k.result.now k c.index-word.result.now c.word_at-in-loop-k.result l c.index-word.ensures c.word_at-in-loop-k.ensures c.deref-in-loop-k.ensures.value in
    alike_never _ _ _ _ (λ e. c.if-word-word_at.true (a ∙ (e ∙ sym b))) (alike_goes xs us k l vs _ c.loop-k.invariant)

pub returns : goal.returns
returns c =
    let xs = c.args.moving.now.words.items in
    let past : length xs ≤ c.loop-k.k = omega (arith, c.loop-k-test.false, c.len-k-end.ensures) in
    sym (c.loop-k.invariant ∙ over_alike xs c.args.marks.now.words.items c.args.others.now.words.items c.loop-k.k past)
