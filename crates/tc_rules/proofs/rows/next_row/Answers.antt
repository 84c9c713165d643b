use Rattle.std.proofs.Common.{◌+◌, ◌<◌, ◌≤◌, ◌∙◌, ◌++◌, ap, sym, drop, length, bit_and, bit_or, get_or, arith}
use Rattle.tc_rules.specs.Words.{both_words, further_words}
use Rattle.tc_rules.proofs.RowLoops.{further_goes, moved_is, over_further, word_is}
use Rattle.tc_rules.proofs.RowSteps.{begun, ended}
use Rattle.tc_rules.proofs.rows.next_row.Goals as goal

pub loop-k-init : goal.loop-k-init
loop-k-init c =
    begun (further_words 0 c.args.staying.now.words.items (both_words c.args.moving.now.words.items c.args.marks.now.words.items)) c.in_ok-words.words.items c.in_ok-words.ensures.items

pub loop-k-preserved : goal.loop-k-preserved
loop-k-preserved c =
    let ks = c.args.staying.now.words.items in
    let ms = both_words c.args.moving.now.words.items c.args.marks.now.words.items in
    let k = c.loop-k.k in
    let m = bit_and c.word_at.result c.word_at-in-loop-k.result in
    let l : k < length ks = omega (arith, c.loop-k-test.true, c.len-count.ensures) in
    let at = moved_is c.args.moving.now.words.items c.args.marks.now.words.items c.deref.result.now c.deref-in-loop-k.result.now k c.word_at.result c.word_at-in-loop-k.result c.word_at.ensures c.deref.ensures.value c.word_at-in-loop-k.ensures c.deref-in-loop-k.ensures.value in
    further_goes ks ms k l c.loop-k.carry (further_words 0 ks ms) c.loop-k.words.items c.push.new.self.items _ m at
    (ap (λ u. bit_or u c.further.result) (word_is ks k c.index.result.now l c.index.ensures) ∙ ap (bit_or (get_or ks k 0)) c.further.ensures) c.in_ok-push.ensures.items c.loop-k.invariant
    ∙ ap (λ u. c.push.new.self.items ++ further_words u (drop (k + 1) ks) (drop (k + 1) ms)) (sym c.carried-carry.ensures)

pub returns : goal.returns
returns c =
    let ks = c.args.staying.now.words.items in
    let ms = both_words c.args.moving.now.words.items c.args.marks.now.words.items in
    let past : length ks ≤ c.loop-k.k = omega (arith, c.loop-k-test.false, c.len-count.ensures) in
    ended (further_words 0 ks ms) c.loop-k.words.items _ (over_further c.loop-k.carry ks ms c.loop-k.k past) c.loop-k.invariant
