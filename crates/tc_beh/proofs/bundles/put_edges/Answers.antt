use Rattle.std.proofs.Common.{◌≡◌, ◌≤◌, ◌∙◌, length, ap, subst, sym}
use Rattle.tc_mat.specs.Matrix.{words_a_row}
use Rattle.tc_beh.specs.Bundles.{AreWordsOf}
use Rattle.tc_beh.proofs.Bundling.{put_along, put_by}
use Rattle.tc_beh.proofs.bundles.put_edges.Goals as goal

pub put_bundles-requires-clause-words : goal.put_bundles-requires-clause-words
put_bundles-requires-clause-words c =
    subst (λ n. words_a_row c.args.out.now.flags ≤ n) (sym (ap length c.as_slice.ensures.value ∙ c.put_words.ensures.count)) c.requires.words

pub returns-then-arrows-bundles-clause-flags : goal.returns-then-arrows-bundles-clause-flags
returns-then-arrows-bundles-clause-flags c = λ a taken same edges.
    put_along a c.args.hedge.now taken c.args.arrows.now c.args.bundles.now edges c.args.out.now.numbers.items c.put_arrows.new.out.numbers.items c.put_arrows.ensures.flags

pub returns-clause-flags : goal.returns-clause-flags
returns-clause-flags c = λ a taken same edges.
    let hedge = c.args.hedge.now in
    let words = c.as_slice.result.now in
    let is = c.as_slice.ensures.value in
    let count = subst (λ n. words_a_row n ≤ length words) same (subst (λ n. words_a_row c.args.out.now.flags ≤ n) (sym (ap length is ∙ c.put_words.ensures.count)) c.requires.words) in
    put_by a hedge taken c.args.arrows.now c.args.bundles.now edges c.args.out.now.numbers.items c.put_bundles.new.out.numbers.items words (subst (AreWordsOf hedge) (sym is) c.put_words.ensures.words) count c.put_bundles.ensures.flags
