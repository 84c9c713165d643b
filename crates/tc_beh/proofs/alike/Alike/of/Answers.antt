use Rattle.std.proofs.Common.{◌≡◌, ap, ◌∙◌, sym, subst}
use Rattle.tc_model.specs.Symbols.{node_tests, symbol_count}
use Rattle.tc_model.specs.Views as see
use Rattle.tc_rules.specs.RulesView.{RulesView}
use Rattle.tc_rows.specs.Triples.{sheet}
use Rattle.tc_beh.specs.AlikeSymbols.{AreAsked, asked_tests}
use Rattle.tc_beh.proofs.FirstAlike.{first_alike}
use Rattle.tc_beh.proofs.Steps.{no_value}
use Rattle.tc_beh.proofs.alike.Alike.of.Goals as goal

pub firsts_of-requires-clause-input : goal.firsts_of-requires-clause-input
firsts_of-requires-clause-input c = let (x, is) = c.requires in is.parts.contents.counted ∙ ap symbol_count (sym (c.alphabet.ensures ∙ is.parts.same_symbols))

pub firsts_of-requires-clause-output : goal.firsts_of-requires-clause-output
firsts_of-requires-clause-output c = let (x, is) = c.requires in is.parts.states.counted ∙ ap symbol_count (sym (c.alphabet.ensures ∙ is.parts.same_symbols))

pub returns : goal.returns
returns c = λ x is.
    let used : node_tests (see.sheet c.sheet.result.now) ≡ node_tests (sheet x) = ap node_tests (c.sheet.ensures ∙ ap (λ (v : RulesView). v.sheet) is.parts.are_rules.told) in
    let asked = asked_tests c.as_slice.result.now in
    let are : AreAsked (node_tests (sheet x)) asked =
    subst (λ ns. AreAsked ns asked) used (subst (λ ks. AreAsked (node_tests (see.sheet c.sheet.result.now)) (asked_tests ks)) (sym c.as_slice.ensures.keys) c.in_ok-asked.ensures) in
    let firsts = c.in_ok-firsts.ensures.firsts x (record { contents = is.parts.contents; states = is.parts.states }) (c.alphabet.ensures ∙ is.parts.same_symbols) in
    record {
      count = c.in_ok-firsts.ensures.count ∙ ap symbol_count (c.alphabet.ensures ∙ is.parts.same_symbols);
      each = λ a first at. first_alike x asked a first are (firsts a first at);
    }

pub returns-in_err-asked : goal.returns-in_err-asked
returns-in_err-asked c = no_value c.from_residual.result _ _ c.from_residual.ensures.1

pub returns-in_err-firsts : goal.returns-in_err-firsts
returns-in_err-firsts c = no_value c.from_residual-in_err-firsts.result _ _ c.from_residual-in_err-firsts.ensures.1
