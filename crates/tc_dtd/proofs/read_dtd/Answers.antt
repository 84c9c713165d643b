use Rattle.std.proofs.Common.{[], sym, subst, map}
use Rattle.tc_dtd.specs.Faults.{IsFaultOf}
use Rattle.tc_dtd.specs.DtdText.{DtdText, TextAt, deepest_parenthesis}
use Rattle.tc_dtd.specs.Declarations.{AreDeclarations}
use Rattle.tc_dtd.specs.Outcomes.{read}
use Rattle.tc_dtd.specs.PlacedViews.{placed}
use Rattle.tc_dtd.specs.Views.{declarations}
use Rattle.tc_dtd.proofs.ReaderLaws.{map_ok, map_err}
use Rattle.tc_dtd.proofs.FaultLaws.{fault_is, others_behind, is_text, is_again, lawful}
use Rattle.tc_dtd.proofs.read_dtd.Goals as goal

pub returns-then-front-text-clause-ok : goal.returns-then-front-text-clause-ok
returns-then-front-text-clause-ok c =
    let m = subst (λ w. TextAt deepest_parenthesis c.characters-front.result.now (read (map placed w) [])) (sym c.as_slice.ensures.value) c.in-Ok.ensures.ok in
    map_ok _ (λ d. DtdText c.args.text.now (declarations d)) c.declared_once.result
    (λ d k. is_text c.args.text.now c.characters-front.result.now (map placed c.as_slice.result.now) (declarations d) c.characters-front.ensures c.if-front-text.true m k) c.declared_once.ensures.ok

pub returns-then-front-text-clause-lawful : goal.returns-then-front-text-clause-lawful
returns-then-front-text-clause-lawful c =
    let m = subst (λ w. TextAt deepest_parenthesis c.characters-front.result.now (read (map placed w) [])) (sym c.as_slice.ensures.value) c.in-Ok.ensures.ok in
    map_ok _ (λ d. AreDeclarations (declarations d)) c.declared_once.result
    (λ d k. lawful c.args.text.now (declarations d) (is_text c.args.text.now c.characters-front.result.now (map placed c.as_slice.result.now) (declarations d) c.characters-front.ensures c.if-front-text.true m k))
    c.declared_once.ensures.ok

pub returns-then-front-text-clause-refused : goal.returns-then-front-text-clause-refused
returns-then-front-text-clause-refused c =
    let m = subst (λ w. TextAt deepest_parenthesis c.characters-front.result.now (read (map placed w) [])) (sym c.as_slice.ensures.value) c.in-Ok.ensures.ok in
    map_err _ (IsFaultOf c.args.text.now) c.declared_once.result
    (λ e k. is_again c.args.text.now c.characters-front.result.now (map placed c.as_slice.result.now) e c.characters-front.ensures c.if-front-text.true m k) c.declared_once.ensures.again

pub returns-in-Ok-clause-refused : goal.returns-in-Ok-clause-refused
returns-in-Ok-clause-refused c =
    others_behind c.args.text.now c.characters-front.result.now (map placed c.in-Ok.found.items) c.place_of.result c.characters-front.ensures c.in-Ok.ensures.ok c.if-front-text.false c.place_of.ensures

pub returns-clause-refused : goal.returns-clause-refused
returns-clause-refused c =
    subst (IsFaultOf c.args.text.now) (sym c.fault.ensures) (fault_is c.args.text.now c.characters-front.result.now c.in-Err.stop c.characters-front.ensures c.in-Err.ensures.no)
