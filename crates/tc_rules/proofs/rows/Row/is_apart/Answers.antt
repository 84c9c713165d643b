use Rattle.std.proofs.Common.{◌<◌, ◌≤◌, ◌∙◌, ap, sym, length, arith}
use Rattle.tc_rules.specs.Words.{are_zero}
use Rattle.tc_rules.proofs.RowLoops.{apart_goes, met_is, over_both, zero_later, zero_never}
use Rattle.tc_rules.proofs.rows.Row.is_apart.Goals as goal

pub loop-k-preserved : goal.loop-k-preserved
loop-k-preserved c =
    let xs = c.args.self.now.words.items in
    let ys = c.args.other.now.words.items in
    let l : c.loop-k.k < length xs = omega (arith, c.loop-k-test.true, c.len-k-end.ensures) in
    let is = met_is xs ys c.deref.result.now c.loop-k.k c.index.result.now c.word_at.result l c.index.ensures c.word_at.ensures c.deref.ensures.value in
    zero_later _ _ _ (sym is ∙ c.if-index-word_at-ne0.false) (apart_goes xs ys c.loop-k.k l _ c.loop-k.invariant)

pub returns-then-index-word_at-ne0 : goal.returns-then-index-word_at-ne0
returns-then-index-word_at-ne0 c =
    let xs = c.args.self.now.words.items in
    let ys = c.args.other.now.words.items in
    let l : c.loop-k.k < length xs = omega (arith, c.loop-k-test.true, c.len-k-end.ensures) in
    let is = met_is xs ys c.deref.result.now c.loop-k.k c.index.result.now c.word_at.result l c.index.ensures c.word_at.ensures c.deref.ensures.value in
    zero_never _ _ _ (λ e. c.if-index-word_at-ne0.true (is ∙ e)) (apart_goes xs ys c.loop-k.k l _ c.loop-k.invariant)

pub returns : goal.returns
returns c =
    let xs = c.args.self.now.words.items in
    let past : length xs ≤ c.loop-k.k = omega (arith, c.loop-k-test.false, c.len-k-end.ensures) in
    sym (c.loop-k.invariant ∙ ap are_zero (over_both xs c.args.other.now.words.items c.loop-k.k past))
