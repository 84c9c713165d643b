use Rattle.std.proofs.Common.{◌<◌, ◌∙◌, ◌∷◌, [], length, get_or, refl, sym, subst, ap, arith, length-append}
use Rattle.std.proofs.lemmas.List.{get_or_append_left}
use Rattle.tc_close.specs.Kinds.{IsLike}
use Rattle.tc_close.proofs.KindLaws.{fit_push}
use Rattle.tc_close.proofs.kinds.Alike.learn.Goals as goal

pub loop-next-preserved : goal.loop-next-preserved
loop-next-preserved c =
    let old = c.loop-next.self.of.items in
    let first = c.first_like-first.result in
    let push = c.in_ok-push.ensures.items in
    let one = length-append old (first ∷ []) in
    let longer = ap length push in
    let count = c.loop-next.invariant.count in
    let room : length old < length c.args.lists.now = let low = c.requires.place in omega (arith, count, low, c.loop-next-test.true) in
    record {
      fit = fit_push c.args.lists.now c.loop-next.self _ first c.loop-next.invariant.fit room (subst (λ n. IsLike c.loop-next.self.flags c.args.lists.now first n) (sym count) c.first_like-first.ensures) refl push;
      count = omega (arith, count, one, longer);
      flags = c.loop-next.invariant.flags;
      more = λ u l. let (low, same) = c.loop-next.invariant.more u l in
          (omega (arith, low, one, longer), ap (λ ns. get_or ns u 0) push ∙ (get_or_append_left old (first ∷ []) 0 u low ∙ same));
    }
