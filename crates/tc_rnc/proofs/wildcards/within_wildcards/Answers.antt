use Rattle.std.proofs.Common.{ap, ◌∙◌, sym}
use Rattle.std.specs.Iterator.Adapters.{rev_source}
use Rattle.std.specs.Slice.Iter.{iter_rest}
use Rattle.tc_rnc.specs.Views as seen
use Rattle.tc_rnc.specs.Wildcards.{around, without}
use Rattle.tc_rnc.proofs.WildcardLaws.{around_last}
use Rattle.tc_rnc.proofs.wildcards.within_wildcards.Goals as goal

pub loop-wildcard-preserved : goal.loop-wildcard-preserved
loop-wildcard-preserved c =
    let left = iter_rest (rev_source c.next.new.self) in
    let last = c.in-Some.wildcard.now in
    let class = seen.class c.loop-wildcard.class in
    ap (around left) (c.without-class.ensures ∙ ap (λ z. without last (seen.classes z)) c.in_ok-except.ensures)
    ∙ (sym (around_last left last class) ∙ (ap (λ z. around z class) (sym c.in-Some.ensures.steps) ∙ c.loop-wildcard.invariant))
