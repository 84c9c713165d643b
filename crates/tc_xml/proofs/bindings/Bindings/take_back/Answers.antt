use Rattle.std.proofs.Common.{◌≡◌, ◌≤◌, ◌∙◌, ◌++◌, ◌∷◌, [], ap, sym, refl, map, length, arith, length-append}
use Rattle.tc_model.specs.Views.{bound}
use Rattle.tc_model.specs.XmlTextScopes.{uri_of}
use Rattle.tc_xml.specs.Bounds.{bounds}
use Rattle.tc_xml.specs.Bindings.{now_bound, hidden}
use Rattle.tc_tags.proofs.FailedLaws.{failed_some}
use Rattle.tc_xml.proofs.BindingLaws.{uri_inserted, back_one, front_one, all_back}
use Rattle.tc_xml.proofs.bindings.Bindings.take_back.Goals as goal

pub back-init : goal.back-init
back-init c = record { keeps = refl; binds = λ p. refl }

pub back-preserved : goal.back-preserved
back-preserved c =
    let whole = hidden c.back.self in
    let front = c.pop.new.self.items in
    let last = c.in_ok-last.last in
    let one : whole ≡ front ++ last ∷ [] = c.in_ok-last.ensures.items in
    let within : c.args.count ≤ length front = omega (arith, c.back-test.true, c.back.self.hidden.ok.0, ap length one, length-append front (last ∷ [])) in
    record {
      keeps = front_one c.args.count front last whole within one ∙ c.back.invariant.keeps;
      binds = λ p.
          back_one c.args.count front last (now_bound c.back.self) (bounds c.insert.new.self.entries) whole within one
          (λ p. ap (λ w. uri_of (bounds w) p) c.in-Ok.ensures.entries ∙ uri_inserted c.back.self.newest.entries last.prefix last.uri p) p
          ∙ c.back.invariant.binds p;
    }

pub back-smaller : goal.back-smaller
back-smaller c = omega (arith, ap length c.in_ok-last.ensures.items, length-append c.pop.new.self.items (c.in_ok-last.last ∷ []))

pub returns : goal.returns
returns c =
    let (all, none) = all_back c.args.count (hidden c.back.self) (omega (arith, c.back-test.false, c.back.self.hidden.ok.0)) in
    record {
      keeps = sym all ∙ c.back.invariant.keeps;
      binds = λ p. ap (λ w. uri_of (map bound w ++ now_bound c.back.self) p) (sym none) ∙ c.back.invariant.binds p;
    }

pub returns-in_err-last : goal.returns-in_err-last
returns-in_err-last c = failed_some _ _ c.from_residual.ensures
