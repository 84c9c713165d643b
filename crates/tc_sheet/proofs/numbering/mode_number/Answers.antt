use Rattle.std.proofs.Common.{◌≡◌, ◌+◌, ◌∙◌, ap}
use Rattle.tc_sheet.specs.SeenCalls.{names_seen}
use Rattle.tc_sheet.proofs.NumberLaws.{if_ok, mode_found, mode_missing}
use Rattle.tc_sheet.proofs.numbering.mode_number.Goals as goal

pub returns-in-Some-get_index_of-clause-ok : goal.returns-in-Some-get_index_of-clause-ok
returns-in-Some-get_index_of-clause-ok c =
    if_ok c.next_number.result (λ n. n ≡ c.in-Some-get_index_of.index + 1) _
    (λ n e. mode_found c.in-Some.name c.args.tables.now.modes.now.keys (names_seen c.args.tables.now.names.now) c.args.mode c.in-Some-get_index_of.index n c.in-Some.is c.in-Some-get_index_of.ensures.index e) c.next_number.ensures.ok

pub returns-in-None-clause-ok : goal.returns-in-None-clause-ok
returns-in-None-clause-ok c =
    if_ok c.next_number-in-None.result (λ n. n ≡ c.len.result + 1) _
    (λ n e. mode_missing c.in-Some.name c.args.tables.now.modes.now.keys (names_seen c.args.tables.now.names.now) c.args.mode n c.in-Some.is c.in-None.ensures.found (e ∙ ap (λ k. k + 1) c.len.ensures.len)) c.next_number-in-None.ensures.ok

pub returns-in-Some-get_index_of-clause-no : goal.returns-in-Some-get_index_of-clause-no
returns-in-Some-get_index_of-clause-no c = c.next_number.ensures.no

pub returns-in-None-clause-no : goal.returns-in-None-clause-no
returns-in-None-clause-no c = c.next_number-in-None.ensures.no
