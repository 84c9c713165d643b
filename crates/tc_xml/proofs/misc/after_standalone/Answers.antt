use Rattle.std.proofs.Common.{codes, ◌≡◌, ◌⊎◌, subst}
use Rattle.tc_model.specs.XmlTextMisc.{no_standalone, standalone}
use Rattle.tc_xml.proofs.MiscLaws.{lacks, no_standalone_here}
use Rattle.tc_model.proofs.XmlTextPhrases.{setting_unique}
use Rattle.tc_xml.proofs.misc.after_standalone.Goals as goal

pub returns-then-not-begins-clause-ok : goal.returns-then-not-begins-clause-ok
returns-then-not-begins-clause-ok c = no_standalone (lacks (codes "standalone") c.args.text.now c.after_white-start.result.now c.after_white-start.ensures c.if-not-begins.ensures)

pub returns-in_default-clause-no : goal.returns-in_default-clause-no
returns-in_default-clause-no c =
    let (r, e) = c.if-not-begins.ensures in
    no_standalone_here c.args.text.now c.after_white-start.result.now r c.after_white-start.ensures e (λ v a s k. c.in_default.ensures v a s)

pub returns-then-is_yes_or_no-clause-ok : goal.returns-then-is_yes_or_no-clause-ok
returns-then-is_yes_or_no-clause-ok c = standalone c.in-Some.ensures c.if-is_yes_or_no.ensures

pub returns-else-is_yes_or_no-clause-no : goal.returns-else-is_yes_or_no-clause-no
returns-else-is_yes_or_no-clause-no c =
    let (r, e) = c.if-not-begins.ensures in
    no_standalone_here c.args.text.now c.after_white-start.result.now r c.after_white-start.ensures e
    (λ v a s k. c.if-is_yes_or_no.ensures (subst (λ w. (w ≡ codes "yes") ⊎ (w ≡ codes "no")) (setting_unique s c.in-Some.ensures).0 k))
