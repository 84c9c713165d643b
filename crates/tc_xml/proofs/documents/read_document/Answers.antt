use Rattle.std.proofs.Common.{sym, subst}
use Rattle.tc_model.specs.Trees.{IsDocument}
use Rattle.tc_model.proofs.XmlTextDocument.{document}
use Rattle.tc_xml.proofs.documents.read_document.Goals as goal

pub returns-in-Some-clause-document : goal.returns-in-Some-clause-document
returns-in-Some-clause-document c = let (h, x, is) = c.in-Some.ensures in subst IsDocument (sym is) (document c.args.text.now h x)
