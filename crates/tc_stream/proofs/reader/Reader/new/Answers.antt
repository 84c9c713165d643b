use Rattle.std.proofs.Common.{[], refl, arith}
use Rattle.tc_model.specs.XmlTextScopes.{first_scope}
use Rattle.tc_stream.proofs.KeepsLaws.{ready}
use Rattle.tc_stream.proofs.StandsLaws.{new_reads}
use Rattle.tc_tags.proofs.FailedLaws.{no_value}
use Rattle.tc_stream.proofs.reader.Reader.new.Goals as goal

pub returns-clause-ready : goal.returns-clause-ready
returns-clause-ready c = ready c.in_ok-elements.elements [] first_scope c.in_ok-elements.ensures.keeps

pub returns-clause-reads : goal.returns-clause-reads
returns-clause-reads c = λ x other sheet st same. new_reads x _ refl refl c.in_ok-elements.ensures.keeps (c.in_ok-elements.ensures.steps x other sheet st same)

pub invariant_of-result : goal.invariant_of-result
invariant_of-result c = record { begun_within = omega arith; tag_room = c.in_ok-tag.ensures.most; counted = refl }

pub returns-in_err-tag-clause-ready : goal.returns-in_err-tag-clause-ready
returns-in_err-tag-clause-ready c = no_value c.from_residual.result _ _ c.from_residual.ensures.1

pub returns-in_err-tag-clause-reads : goal.returns-in_err-tag-clause-reads
returns-in_err-tag-clause-reads c = no_value c.from_residual.result _ _ c.from_residual.ensures.1

pub returns-in_err-elements-clause-ready : goal.returns-in_err-elements-clause-ready
returns-in_err-elements-clause-ready c = no_value c.from_residual-in_err-elements.result _ _ c.from_residual-in_err-elements.ensures.1

pub returns-in_err-elements-clause-reads : goal.returns-in_err-elements-clause-reads
returns-in_err-elements-clause-reads c = no_value c.from_residual-in_err-elements.result _ _ c.from_residual-in_err-elements.ensures.1
