use Rattle.std.proofs.Common.{◌∙◌, sym}
use Rattle.tc_sheet.specs.SeenCalls.{names_seen, site}
use Rattle.tc_sheet.proofs.CallLaws.{defined_here, undefined_here}
use Rattle.tc_sheet.proofs.TableKeys.{any_seen, found_at}
use Rattle.tc_sheet.proofs.calls.callee.Goals as goal

pub returns-in-Some-clause-ok : goal.returns-in-Some-clause-ok
returns-in-Some-clause-ok c = found_at c.args.site.now.name c.args.names.now.keys c.in-Some.callee c.in-Some.ensures.index

pub returns-in-Some-clause-first : goal.returns-in-Some-clause-first
returns-in-Some-clause-first c =
    defined_here (names_seen c.args.names.now) (site c.args.site.now) (sym (any_seen c.args.site.now.name c.args.names.now.keys) ∙ sym c.in-Some.ensures.found)

pub returns-in-None-clause-no : goal.returns-in-None-clause-no
returns-in-None-clause-no c =
    undefined_here (names_seen c.args.names.now) (site c.args.site.now) (sym (any_seen c.args.site.now.name c.args.names.now.keys) ∙ sym c.in-None.ensures.found)

pub returns-in-Some-clause-no : goal.returns-in-Some-clause-no
returns-in-Some-clause-no c = tt

pub returns-in-None-clause-ok : goal.returns-in-None-clause-ok
returns-in-None-clause-ok c = tt

pub returns-in-None-clause-first : goal.returns-in-None-clause-first
returns-in-None-clause-first c = tt
