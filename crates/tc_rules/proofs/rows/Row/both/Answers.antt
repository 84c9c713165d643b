use Rattle.std.proofs.Common.{◌<◌, ◌≤◌, length, arith}
use Rattle.tc_rules.specs.Words.{both_words}
use Rattle.tc_rules.proofs.RowLoops.{both_goes, met_is, over_both}
use Rattle.tc_rules.proofs.RowSteps.{begun, ended}
use Rattle.tc_rules.proofs.rows.Row.both.Goals as goal

pub loop-k-init : goal.loop-k-init
loop-k-init c = begun (both_words c.args.self.now.words.items c.args.other.now.words.items) c.in_ok-words.words.items c.in_ok-words.ensures.items

pub loop-k-preserved : goal.loop-k-preserved
loop-k-preserved c =
    let xs = c.args.self.now.words.items in
    let ys = c.args.other.now.words.items in
    let l : c.loop-k.k < length xs = omega (arith, c.loop-k-test.true, c.len-count.ensures) in
    both_goes xs ys c.loop-k.k l (both_words xs ys) c.loop-k.words.items c.push.new.self.items _ (met_is xs ys c.deref.result.now c.loop-k.k c.index.result.now c.word_at.result l c.index.ensures c.word_at.ensures c.deref.ensures.value) c.in_ok-push.ensures.items c.loop-k.invariant

pub returns : goal.returns
returns c =
    let xs = c.args.self.now.words.items in
    let ys = c.args.other.now.words.items in
    let past : length xs ≤ c.loop-k.k = omega (arith, c.loop-k-test.false, c.len-count.ensures) in
    ended (both_words xs ys) c.loop-k.words.items _ (over_both xs ys c.loop-k.k past) c.loop-k.invariant
