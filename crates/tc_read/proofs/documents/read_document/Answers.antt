use Rattle.std.proofs.Common.{subst, rules}
use Rattle.tc_read.proofs.Exits.{err_is}
use Rattle.tc_read.proofs.RefusedTexts.{refused_document}
use Rattle.tc_xml.specs.Faults.{IsFaultOf}
use Rattle.tc_read.proofs.documents.read_document.Goals as goal

pub returns-in_err-document-clause-no : goal.returns-in_err-document-clause-no
returns-in_err-document-clause-no c =
    let fault = c.in_err-document.field-0.0 in
    err_is c.from_residual.result _ _ c.from_residual.ensures.1 (refused_document c.args.text.now fault (subst (λ bytes. IsFaultOf bytes fault) c.in-Ok.ensures c.in_err-document.ensures.refused))

pub returns-clause-ok : goal.returns-clause-ok
returns-clause-ok c = search rules
