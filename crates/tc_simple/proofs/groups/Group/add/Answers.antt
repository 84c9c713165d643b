use Rattle.std.proofs.Common.{◌∙◌, ap, map}
use Rattle.std.proofs.lemmas.List.{map-append}
use Rattle.tc_rnc.specs.Views.{definition, pattern}
use Rattle.tc_simple.proofs.Gathering.{group_more}
use Rattle.tc_simple.proofs.Answered.{failed_on}
use Rattle.tc_simple.proofs.groups.Group.add.Goals as goal

pub returns-clause-group : goal.returns-clause-group
returns-clause-group c = λ front h named.
    group_more front (definition c.args.def.now) c.args.self.now c.note.new.self h named c.note.ensures.name
    (ap (λ z. map pattern z.items) c.note.ensures.bodies ∙ (ap (map pattern) c.in_ok-push.ensures.items ∙ map-append pattern c.args.self.now.bodies.items _)) c.note.ensures.plain c.note.ensures.choice c.note.ensures.interleave

pub returns-in_err-push-clause-group : goal.returns-in_err-push-clause-group
returns-in_err-push-clause-group c = failed_on c.from_residual.result _ _ c.from_residual.ensures.1

pub returns-clause-name : goal.returns-clause-name
returns-clause-name c = c.note.ensures.name
