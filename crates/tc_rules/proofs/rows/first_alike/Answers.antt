use Rattle.std.proofs.Common.{◌∙◌, ap, sym, arith}
use Rattle.tc_rules.specs.Rows.{words}
use Rattle.tc_rules.specs.Words.{both_words}
use Rattle.tc_rules.proofs.RowLoops.{alike_both, words_got}
use Rattle.tc_rules.proofs.rows.first_alike.Goals as goal

pub returns-then-are_alike-clause-alike : goal.returns-then-are_alike-clause-alike
returns-then-are_alike-clause-alike c =
    let moving = words c.args.moving.now in
    let before = c.index-marked-before.result in
    let row = c.index-marked-number.result in
    let l = c.requires in
    ap (both_words moving) (words_got c.args.marked.now _ before (omega (arith, c.if-before-number.true, l)) c.index-marked-before.is)
    ∙ (alike_both moving (words before) (words row) (sym c.are_alike.ensures ∙ c.if-are_alike.true) ∙ ap (both_words moving) (sym (words_got c.args.marked.now c.args.number row l c.index-marked-number.is)))
