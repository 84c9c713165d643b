use Rattle.std.proofs.Common.{subst, sym}
use Rattle.tc_model.specs.Letters.{IsLetter}
use Rattle.tc_rules.specs.Asked as asked
use Rattle.tc_rules.specs.declared.rules.Kind.{Kind}
use Rattle.tc_rules.specs.declared.rules.Kind.TheVariants.{Elem}
use Rattle.tc_rows.specs.Triples.{predicates}
use Rattle.tc_beh.specs.Entries.{IsUnder}
use Rattle.tc_beh.proofs.Hitting.{lettered, under_found}
use Rattle.tc_beh.proofs.entries.state_below.Goals as goal

pub returns-in-Elem-clause-under : goal.returns-in-Elem-clause-under
returns-in-Elem-clause-under c = λ x is lx.
    let r = c.args.rules.now in
    let marks = c.args.letter.marks in
    let l = asked.letter (Elem c.in-Elem.sym) marks in
    let here = subst (λ (k : Kind). IsLetter x.symbols (predicates x) (asked.letter k marks)) c.in-Elem.is lx in
    subst (λ (k : Kind). IsUnder x (asked.letter k marks) c.args.ancestor c.anc_step.result) (sym c.in-Elem.is)
    (under_found x r is l c.args.ancestor c.anc_step.result (c.anc_step.ensures x.symbols is.rules (lettered x r is l here)))
