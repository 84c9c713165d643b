use Rattle.tc_read.proofs.DocumentReasons.{no_document, document_or_reason}
use Rattle.tc_read.proofs.documents.law_of_documents.Goals as goal

pub returns-clause-none : goal.returns-clause-none
returns-clause-none c = no_document

pub returns-clause-some : goal.returns-clause-some
returns-clause-some c = document_or_reason
