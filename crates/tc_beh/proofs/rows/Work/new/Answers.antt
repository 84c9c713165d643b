use Rattle.std.proofs.Common.{◌≡◌, ◌∙◌, sym, ap, subst, length}
use Rattle.std.proofs.lemmas.List.{length-map}
use Rattle.tc_model.specs.States.{output}
use Rattle.tc_model.specs.Sheets.{Sheet}
use Rattle.tc_model.specs.Views as see
use Rattle.tc_auto.specs.Stands as a
use Rattle.tc_auto.specs.declared.auto.Auto.{Auto}
use Rattle.tc_rows.specs.Triples.{outputs, sheet}
use Rattle.tc_beh.specs.Bundles.{AreStepsOf}
use Rattle.tc_beh.proofs.RunLaws.{no_runs}
use Rattle.tc_beh.proofs.Sizes.{sheet_is}
use Rattle.tc_beh.proofs.Steps.{no_value}
use Rattle.tc_beh.proofs.rows.Work.new.Goals as goal

pub returns : goal.returns
returns c = λ x h is.
    let m = c.args.machine.now in
    let automaton = c.auto.result.now in
    let stands : a.Stands output x.output automaton = subst (λ (b : Auto). a.Stands output x.output b) (sym c.auto.ensures) is.parts.states.auto in
    let size : c.states-size.result ≡ outputs x = c.states-size.ensures.schema output x.output stands in
    let sh = c.sheet.result.now in
    let same : see.sheet sh ≡ sheet x = sheet_is x m.rules sh is.parts.are_rules c.sheet.ensures in
    let named : length sh.named.now ≡ length (sheet x).named = sym (length-map sh.named.now (λ b. see.body b.now)) ∙ ap (λ (s : Sheet). length s.named) same in
    record {
      text = c.text_into.ensures.pairs output x.output is.parts.states.auto;
      text_size = c.text_into.ensures.size ∙ (c.in_ok-text.ensures.size ∙ size);
      set = c.in_ok-set.ensures.size ∙ size;
      named_count = c.in_ok-named.ensures.count ∙ named;
      named = λ k d l. c.in_ok-named.ensures.sizes k d l ∙ size;
      open_size = c.in_ok-sets.ensures.size ∙ (c.text_into.ensures.size ∙ (c.in_ok-text.ensures.size ∙ size));
      open_room = c.in_ok-sets.ensures.room;
      open_text = c.in_ok-sets.ensures.text;
      remembers = c.in_ok-sets.ensures.remembers m.output;
      links = c.in_ok-sets.ensures.links h;
      known = c.in_ok-known.ensures x.symbols x.rules;
      bundles = subst (λ (b : Auto). AreStepsOf b c.in_ok-bundles.bundles) c.auto-2.ensures c.in_ok-bundles.ensures;
      takers = c.in_ok-takers.ensures;
      runs = no_runs x c.new-runs.result.items c.new-runs.ensures.items;
    }

pub returns-in_err-text : goal.returns-in_err-text
returns-in_err-text c = no_value c.from_residual.result _ _ c.from_residual.ensures.1

pub returns-in_err-set : goal.returns-in_err-set
returns-in_err-set c = no_value c.from_residual-in_err-set.result _ _ c.from_residual-in_err-set.ensures.1

pub returns-in_err-named : goal.returns-in_err-named
returns-in_err-named c = no_value c.from_residual-in_err-named.result _ _ c.from_residual-in_err-named.ensures.1

pub returns-in_err-sets : goal.returns-in_err-sets
returns-in_err-sets c = no_value c.from_residual-in_err-sets.result _ _ c.from_residual-in_err-sets.ensures.1

pub returns-in_err-known : goal.returns-in_err-known
returns-in_err-known c = no_value c.from_residual-in_err-known.result _ _ c.from_residual-in_err-known.ensures.1

pub returns-in_err-bundles : goal.returns-in_err-bundles
returns-in_err-bundles c = no_value c.from_residual-in_err-bundles.result _ _ c.from_residual-in_err-bundles.ensures.1

pub returns-in_err-takers : goal.returns-in_err-takers
returns-in_err-takers c = no_value c.from_residual-in_err-takers.result _ _ c.from_residual-in_err-takers.ensures.1
