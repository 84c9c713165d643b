use Rattle.std.proofs.Common.{◌≡◌, ◌∙◌}
use Rattle.tc_sheet.proofs.NumberLaws.{if_ok, name_missing}
use Rattle.tc_sheet.proofs.TableKeys.{found_at}
use Rattle.tc_sheet.proofs.numbering.name_number.Goals as goal

pub returns-in-Some-clause-ok : goal.returns-in-Some-clause-ok
returns-in-Some-clause-ok c =
    if_ok c.number.result (λ n. n ≡ c.in-Some.index) _ (λ n e. e ∙ found_at c.args.name.now c.args.tables.now.names.now.keys c.in-Some.index c.in-Some.ensures.index) c.number.ensures.ok

pub returns-in-None-clause-ok : goal.returns-in-None-clause-ok
returns-in-None-clause-ok c =
    if_ok c.number-in-None.result (λ n. n ≡ c.len.result) _ (λ n e. name_missing c.args.name.now c.args.tables.now.names.now.keys n c.in-None.ensures.found (e ∙ c.len.ensures.len)) c.number-in-None.ensures.ok
