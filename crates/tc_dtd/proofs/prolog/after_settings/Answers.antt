use Rattle.tc_dtd.proofs.ReaderLaws.{no_standing, no_settings_end, some_settings}
use Rattle.tc_dtd.proofs.prolog.after_settings.Goals as goal

pub returns-in-Err-after_standalone-clause-no : goal.returns-in-Err-after_standalone-clause-no
returns-in-Err-after_standalone-clause-no c = no_standing c.args.text.now c.in-Ok.past.now c.in-Err-after_standalone.stop c.in-Ok.ensures.ok c.in-Err-after_standalone.ensures.no

pub returns-in-Some-clause-ok : goal.returns-in-Some-clause-ok
returns-in-Some-clause-ok c =
    some_settings c.args.text.now c.in-Ok.past.now c.in-Ok-after_standalone.past.now c.after_white-end.result.now c.in-Some.after.now c.in-Ok.ensures.ok c.in-Ok-after_standalone.ensures.ok
    c.after_white-end.ensures c.in-Some.ensures

pub returns-in-None-clause-no : goal.returns-in-None-clause-no
returns-in-None-clause-no c =
    no_settings_end c.args.text.now c.in-Ok.past.now c.in-Ok-after_standalone.past.now c.after_white-end.result.now c.in-Ok.ensures.ok c.in-Ok-after_standalone.ensures.ok c.after_white-end.ensures c.in-None.ensures
