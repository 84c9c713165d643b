use Rattle.tc_decide.proofs.SchemaTexts.{lawful_read}
use Rattle.tc_decide.proofs.SpotsTold.{refused_input, refused_sheet}
use Rattle.tc_decide.proofs.spots.marking_of.Goals as goal
use Rattle.tc_read.proofs.Exits.{err_is}

pub returns-in_err-schema-clause-no : goal.returns-in_err-schema-clause-no
returns-in_err-schema-clause-no c = err_is c.from_residual.result _ _ c.from_residual.ensures.1 (refused_input c.args.input c.args.sheet.now _ c.in_err-schema.ensures.no)

pub returns-in_err-stylesheet-clause-no : goal.returns-in_err-stylesheet-clause-no
returns-in_err-stylesheet-clause-no c =
    err_is c.from_residual-in_err-stylesheet.result _ _ c.from_residual-in_err-stylesheet.ensures.1 (refused_sheet c.args.input c.args.sheet.now _ c.in_ok-schema.ensures.ok _ c.in_err-stylesheet.ensures.no)

pub returns-clause-ok : goal.returns-clause-ok
returns-clause-ok c = record {
  is = record { input = lawful_read c.args.input _ c.in_ok-schema.ensures.ok; plain = c.in_ok-plain.ensures; sheet = c.in_ok-stylesheet.ensures.well_formed };
  schema = c.in_ok-schema.ensures.ok;
  spells = c.in_ok-stylesheet.ensures.ok;
}
