use Rattle.std.proofs.Common.{refl}
use Rattle.tc_stream.proofs.elements.Elements.form.Goals as goal

pub returns-clause-keeps : goal.returns-clause-keeps
returns-clause-keeps c = λ ls scope k. k

pub returns-clause-ready : goal.returns-clause-ready
returns-clause-ready c = λ r. r

pub returns-clause-ok : goal.returns-clause-ok
returns-clause-ok c = c.form_of.ensures.ok

pub returns-clause-no : goal.returns-clause-no
returns-clause-no c = c.form_of.ensures.no

pub returns-clause-no_empty : goal.returns-clause-no_empty
returns-clause-no_empty c = c.form_of.ensures.no_empty

pub returns-clause-stands : goal.returns-clause-stands
returns-clause-stands c = c.form_of.ensures.stands

pub returns-clause-malformed : goal.returns-clause-malformed
returns-clause-malformed c = c.form_of.ensures.malformed

pub form_of-requires : goal.form_of-requires
form_of-requires c = c.requires

pub returns-clause-names : goal.returns-clause-names
returns-clause-names c = refl

pub returns-clause-scopes : goal.returns-clause-scopes
returns-clause-scopes c = refl

pub returns-clause-levels : goal.returns-clause-levels
returns-clause-levels c = refl

pub returns-clause-validity : goal.returns-clause-validity
returns-clause-validity c = refl
