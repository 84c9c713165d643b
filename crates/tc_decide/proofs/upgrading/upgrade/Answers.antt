use Rattle.tc_decide.proofs.Verifications.{upgrade_decides, upgrade_limits}
use Rattle.tc_decide.proofs.upgrading.upgrade.Goals as goal

pub returns-clause-upgraded : goal.returns-clause-upgraded
returns-clause-upgraded c = upgrade_decides c.args.certificate.now c.requires c.upgrade_text.result c.upgrade_text.ensures

pub returns-clause-counted : goal.returns-clause-counted
returns-clause-counted c = upgrade_limits c.args.certificate.now c.requires c.upgrade_text.result c.upgrade_text.ensures
