use Rattle.std.proofs.Common.{◌≡◌, refl, rules, false, subst}
use Rattle.std.proofs.lemmas.Option.{IfSome_then}
use Rattle.tc_model.specs.Events.{characters}
use Rattle.tc_model.specs.Runs.{run_text}
use Rattle.tc_model.specs.Trees.{is_white_space_only}
use Rattle.tc_xml.proofs.TakingLaws.{white_run, other_run}
use Rattle.tc_xml.proofs.taking.end_run.Goals as goal

pub returns-then-is_white_space_only-clause-taken : goal.returns-then-is_white_space_only-clause-taken
returns-then-is_white_space_only-clause-taken g c = white_run _ c.args.reader.now.taker c.args.reader.now.taker (run_text c.args.reader.now.run) (search rules) refl

pub returns-clause-taken : goal.returns-clause-taken
returns-clause-taken g c =
    let white : is_white_space_only (run_text c.args.reader.now.run) ≡ false = search rules in
    let same : c.taken-text.result.now ≡ run_text c.args.reader.now.run = c.taken-text.ensures.text in
    IfSome_then c.text.result c.text.ensures
    (λ x o. other_run _ c.args.reader.now.taker c.text.new.self (run_text c.args.reader.now.run) white (subst (λ s. g.T.TakesTrees.takes c.args.reader.now.taker (characters s) c.text.new.self) same o))
