use Rattle.std.proofs.Common.{◌≡◌, ◌∙◌, ◌++◌, ◌∷◌, [], ◌/◌, ap, subst}
use Rattle.tc_beh.specs.Bundles.{IsBundleOf, widened}
use Rattle.tc_beh.specs.declared.bundles.Bundle.{Bundle}
use Rattle.tc_beh.proofs.Bundling.{widen_gains, widen_low, push_gains, push_low}
use Rattle.tc_beh.proofs.bundles.put_edge.Goals as goal

pub returns-then-is_of-clause-edges : goal.returns-then-is_of-clause-edges
returns-then-is_of-clause-edges c =
    let a = c.args.arrow in
    let old = c.args.bundles.now.items in
    let place = c.index-place.result.now in
    let is = subst (λ l. IsBundleOf l place (a.from / 64) a.to) c.as_slice.ensures.value (c.is_of.ensures c.if-is_of.true) in
    widen_gains old c.widen.new.bundles.items place a is (c.widen.ensures ∙ ap (λ bit. widened old place bit) c.bit_of-bit.ensures)

pub returns-then-is_of-clause-low : goal.returns-then-is_of-clause-low
returns-then-is_of-clause-low c = λ states from to low.
    let a = c.args.arrow in
    let old = c.args.bundles.now.items in
    let place = c.index-place.result.now in
    let is = subst (λ l. IsBundleOf l place (a.from / 64) a.to) c.as_slice.ensures.value (c.is_of.ensures c.if-is_of.true) in
    widen_low old c.widen.new.bundles.items place a is (c.widen.ensures ∙ ap (λ bit. widened old place bit) c.bit_of-bit.ensures) states low

pub returns-clause-edges : goal.returns-clause-edges
returns-clause-edges c =
    let a = c.args.arrow in
    let old = c.args.bundles.now.items in
    push_gains old c.push.new.self.items a (c.in_ok-push.ensures.items ∙ ap (λ bit. let b : Bundle = record { word = a.from / 64; to = a.to; bits = bit } in old ++ b ∷ []) c.bit_of-bit.ensures)

pub returns-clause-low : goal.returns-clause-low
returns-clause-low c = λ states from to low.
    let a = c.args.arrow in
    let old = c.args.bundles.now.items in
    push_low old c.push.new.self.items a (c.in_ok-push.ensures.items ∙ ap (λ bit. let b : Bundle = record { word = a.from / 64; to = a.to; bits = bit } in old ++ b ∷ []) c.bit_of-bit.ensures) states from to low
