use Rattle.std.proofs.Common.{◌≡◌, ◌∙◌, sym, subst, ap, arith}
use Rattle.std.specs.List.{Contains}
use Rattle.tc_model.specs.Sheets.{Sheet}
use Rattle.tc_model.specs.Views as see
use Rattle.tc_model.specs.WellFormed.{eaches_of}
use Rattle.tc_rules.specs.RulesView.{RulesView}
use Rattle.tc_rows.specs.Triples.{sheet}
use Rattle.tc_close.proofs.LookFree.{each_next, each_low}
use Rattle.tc_close.proofs.look_free.are_eaches_free.Goals as goal

pub loop-each-preserved : goal.loop-each-preserved
loop-each-preserved c = λ x e is there within.
    each_next c.args.calls x c.loop-each.each (see.body c.each_body.result.now) (λ f t l. c.loop-each.invariant x f is t l)
    (λ f t n. c.each_body.ensures x.symbols f is.rules (subst (λ (v : RulesView). Contains (eaches_of v.sheet) f) (sym is.told) t) n)
    (c.are_free.ensures c.if-not-are_free.false) e there within

pub returns : goal.returns
returns c = λ done x is e there.
    let low = each_low x is.triple e there in
    let same : c.sheet.result.now.eaches ≡ (sheet x).eaches = ap (λ (s : Sheet). s.eaches) (c.sheet.ensures ∙ ap (λ (v : RulesView). v.sheet) is.told) in
    let ends = c.loop-each-test.false in
    c.loop-each.invariant x e is there (omega (arith, low, same, ends))
