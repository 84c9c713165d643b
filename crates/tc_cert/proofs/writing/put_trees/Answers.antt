use Rattle.tc_cert.proofs.Steps.{not_done}
use Rattle.tc_cert.proofs.Ends.{stops_first, last_put, last_fault}
use Rattle.std.proofs.Common.{codes, length, subst}
use Rattle.tc_model.specs.CertificateLines as lines
use Rattle.tc_cert.specs.Texts as texts
use Rattle.tc_cert.specs.Puts.{IsPut, IsCause}
use Rattle.tc_cert.proofs.writing.put_trees.Goals as goal

pub returns-in_err-put_count-clause-ok : goal.returns-in_err-put_count-clause-ok
returns-in_err-put_count-clause-ok c = not_done c.from_residual.result _ _ c.from_residual.ensures.1

pub returns-in_err-put_count-clause-cause : goal.returns-in_err-put_count-clause-cause
returns-in_err-put_count-clause-cause c = stops_first c.args.text.now (texts.ended (texts.counted (codes "trees") (length c.args.trees.now))) (texts.rows_in lines.tree_line lines.tree_behind c.args.trees.now) c.from_residual.result c.in_err-put_count.field-0.0 c.from_residual.ensures.1 (subst (λ n. IsCause c.args.text.now (texts.ended (texts.counted (codes "trees") n)) c.in_err-put_count.field-0.0) c.len.ensures c.in_err-put_count.ensures.cause)

pub returns-clause-ok : goal.returns-clause-ok
returns-clause-ok c = last_put c.args.text.now c.put_count.new.text c.put_tree_rows.new.text (texts.ended (texts.counted (codes "trees") (length c.args.trees.now))) (texts.rows_in lines.tree_line lines.tree_behind c.args.trees.now) c.put_tree_rows.result (subst (λ n. IsPut c.args.text.now c.put_count.new.text (texts.ended (texts.counted (codes "trees") n))) c.len.ensures c.in_ok-put_count.ensures.ok) c.put_tree_rows.ensures.ok

pub returns-clause-cause : goal.returns-clause-cause
returns-clause-cause c = last_fault c.args.text.now c.put_count.new.text (texts.ended (texts.counted (codes "trees") (length c.args.trees.now))) (texts.rows_in lines.tree_line lines.tree_behind c.args.trees.now) c.put_tree_rows.result (subst (λ n. IsPut c.args.text.now c.put_count.new.text (texts.ended (texts.counted (codes "trees") n))) c.len.ensures c.in_ok-put_count.ensures.ok) c.put_tree_rows.ensures.cause
