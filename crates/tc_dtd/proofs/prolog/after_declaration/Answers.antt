use Rattle.tc_dtd.specs.DtdTextDeclarations.{no_declaration, TextDeclarationAt}
use Rattle.tc_dtd.specs.Outcomes.{read}
use Rattle.tc_dtd.specs.Stops.{Stops}
use Rattle.tc_dtd.proofs.ReaderLaws.{map_ok, map_err, not_declared, version_stops, settings_stop, a_declaration}
use Rattle.tc_dtd.proofs.prolog.after_declaration.Goals as goal

pub returns-in_default-clause-ok : goal.returns-in_default-clause-ok
returns-in_default-clause-ok c = no_declaration (λ r q w. c.in_default.ensures r q)

pub returns-then-not-is_opened-clause-ok : goal.returns-then-not-is_opened-clause-ok
returns-then-not-is_opened-clause-ok c = not_declared c.args.text.now c.in-Some.rest.now c.in-Some.ensures c.if-not-is_opened.ensures

pub returns-in-Err-clause-no : goal.returns-in-Err-clause-no
returns-in-Err-clause-no c = version_stops c.args.text.now c.in-Some.rest.now c.in-Err.stop c.in-Some.ensures c.if-not-is_opened.ensures c.in-Err.ensures.no

pub returns-clause-ok : goal.returns-clause-ok
returns-clause-ok c =
    map_ok _ (λ r. TextDeclarationAt c.args.text.now (read tt r.now)) c.after_settings.result
    (λ r s. a_declaration c.args.text.now c.in-Some.rest.now c.in-Ok.past.now r.now c.in-Some.ensures c.if-not-is_opened.ensures c.in-Ok.ensures.ok s) c.after_settings.ensures.ok

pub returns-clause-no : goal.returns-clause-no
returns-clause-no c =
    map_err _ (λ e. Stops e (TextDeclarationAt c.args.text.now)) c.after_settings.result
    (λ e s. settings_stop c.args.text.now c.in-Some.rest.now c.in-Ok.past.now e c.in-Some.ensures c.if-not-is_opened.ensures c.in-Ok.ensures.ok s) c.after_settings.ensures.no
