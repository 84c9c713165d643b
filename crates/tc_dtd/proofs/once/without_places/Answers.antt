use Rattle.std.proofs.Common.{refl, ap, ◌∙◌, map, List}
use Rattle.tc_dtd.specs.DtdTextDeclarations.{Placed}
use Rattle.tc_dtd.specs.PlacedViews.{placed}
use Rattle.tc_dtd.specs.Views.{declaration}
use Rattle.tc_dtd.proofs.BuiltLaws.{mapped_more}
use Rattle.std.proofs.lemmas.List.{take_all}
use Rattle.tc_dtd.specs.declared.markup.Placed.{Placed as Found}
use Rattle.tc_dtd.proofs.once.without_places.Goals as goal

pub loop-one-preserved : goal.loop-one-preserved
loop-one-preserved c =
    mapped_more declaration (λ (x : Placed). x.declaration) placed c.args.found.now c.loop-one.one-index _ c.loop-one.out.items c.push.new.self.items _ c.loop-one-test.true c.loop-one.invariant c.in_ok-push.ensures.items refl

pub loop-one-init : goal.loop-one-init
loop-one-init c = ap (map declaration) c.new-out.ensures.items

pub returns : goal.returns
returns c =
    ap (map declaration) c.into_bump_slice.ensures
    ∙ (c.loop-one.invariant ∙ ap (λ (l : List Found). map (λ (x : Placed). x.declaration) (map placed l)) (take_all c.loop-one.one-index c.args.found.now c.loop-one-test.false))
