use Rattle.std.proofs.Common.{◌≤◌, length, arith, subst, sym}
use Rattle.std.specs.Option.{option_map}
use Rattle.tc_cert.specs.Fields.{fields_of, IsNextRow}
use Rattle.tc_cert.specs.Styles.{version_of}
use Rattle.tc_cert.proofs.RowLines.{line_short}
use Rattle.tc_cert.proofs.ReadLines.{short_before}
use Rattle.tc_cert.proofs.Steps.{at_next_line}
use Rattle.tc_cert.proofs.cursor.Reader.row.Goals as goal

pub returns-in-Ok-clause-short : goal.returns-in-Ok-clause-short
returns-in-Ok-clause-short c =
    let within : length c.args.self.now.rest.now ≤ 67108864 = omega (arith, c.args.self.now.short) in
    line_short (version_of c.args.self.now.style) c.args.kind (option_map fields_of c.args.before) (fields_of c.in-Ok.row) c.args.self.now.rest.now c.in-Ok.rest.now within
    (short_before c.args.before c.requires) c.in-Ok.ensures.ok.formed c.in-Ok.ensures.ok.spelled

pub next_row-requires : goal.next_row-requires
next_row-requires c = c.requires

pub returns-in-Ok-clause-ok : goal.returns-in-Ok-clause-ok
returns-in-Ok-clause-ok c = (
  subst (IsNextRow (version_of c.args.self.now.style) c.args.kind (option_map fields_of c.args.before) c.args.self.now.rest.now (fields_of c.in-Ok.row)) (sym c.pass.ensures.rest) c.in-Ok.ensures.ok,
  c.pass.ensures.lines,
  c.pass.ensures.style,
)

pub returns-in-Ok-clause-no : goal.returns-in-Ok-clause-no
returns-in-Ok-clause-no c = tt

pub returns-in-Err-clause-ok : goal.returns-in-Err-clause-ok
returns-in-Err-clause-ok c = tt

pub returns-in-Err-clause-short : goal.returns-in-Err-clause-short
returns-in-Err-clause-short c = tt

pub returns-in-Err-clause-no : goal.returns-in-Err-clause-no
returns-in-Err-clause-no c = at_next_line _ c.args.self.now.lines c.in-Err.fault c.fault.result c.fault.ensures c.in-Err.ensures.no
