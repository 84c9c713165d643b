use Rattle.std.proofs.Common.{◌∙◌, ap, refl, sym}
use Rattle.std.proofs.lemmas.Bool.{le-ltb}
use Rattle.std.proofs.lemmas.Option.{slice_get_past}
use Rattle.tc_rules.specs.Rows.{words}
use Rattle.tc_rules.specs.Steps.{ends_true}
use Rattle.tc_rules.specs.Words.{bit}
use Rattle.tc_rules.proofs.RowPairs.{got_at}
use Rattle.tc_rules.proofs.RowStates.{cut_past, last_none, last_told}
use Rattle.tc_rules.proofs.rows.Row.has_last.Goals as goal

pub returns-in_default : goal.returns-in_default
returns-in_default c = sym (ap ends_true (cut_past (bit (words c.args.self.now)) 0 c.args.ends.now c.args.alternative (slice_get_past c.args.ends.now c.args.alternative c.in_default.ensures.lookup.3)))

pub returns-then-start-end : goal.returns-then-start-end
returns-then-start-end c =
    let es = c.args.ends.now in
    let at = c.in-Some.ensures.lookup in
    c.has.ensures ∙ last_told (bit (words c.args.self.now)) es c.args.alternative c.in-Some.end.now c.start_of-start.result (got_at es es c.args.alternative c.in-Some.end.now refl at.3.0 at.1) c.start_of-start.ensures c.if-start-end.true

pub returns-else-start-end : goal.returns-else-start-end
returns-else-start-end c =
    let es = c.args.ends.now in
    let at = c.in-Some.ensures.lookup in
    le-ltb c.start_of-start.result c.in-Some.end.now c.if-start-end.false
    ∙ last_none (bit (words c.args.self.now)) es c.args.alternative c.in-Some.end.now c.start_of-start.result (got_at es es c.args.alternative c.in-Some.end.now refl at.3.0 at.1) c.start_of-start.ensures c.if-start-end.false
