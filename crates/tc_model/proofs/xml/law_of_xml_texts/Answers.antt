use Rattle.tc_model.proofs.XmlTextTrees.{one_raw_tree, lawful_raw_tree}
use Rattle.tc_model.proofs.XmlTextDocument.{document}
use Rattle.tc_model.proofs.XmlTextReadable.{tree_or_refusal, refused_for_more}
use Rattle.tc_model.proofs.XmlTextRefused.{one_refusal, no_tree_where_refused}
use Rattle.tc_model.proofs.xml.law_of_xml_texts.Goals as goal

pub returns-clause-one : goal.returns-clause-one
returns-clause-one c = one_raw_tree

pub returns-clause-lawful : goal.returns-clause-lawful
returns-clause-lawful c = lawful_raw_tree

pub returns-clause-document : goal.returns-clause-document
returns-clause-document c = document

pub returns-clause-refusal : goal.returns-clause-refusal
returns-clause-refusal c = one_refusal

pub returns-clause-no_tree : goal.returns-clause-no_tree
returns-clause-no_tree c = no_tree_where_refused

pub returns-clause-readable : goal.returns-clause-readable
returns-clause-readable c = tree_or_refusal

pub returns-clause-more : goal.returns-clause-more
returns-clause-more c = refused_for_more
