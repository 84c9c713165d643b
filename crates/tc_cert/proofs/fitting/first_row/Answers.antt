use Rattle.std.proofs.Common.{◌≡◌, ◌∙◌, ◌+◌, [], Some, IsTrue, length, refl, subst, sym, arith}
use Rattle.std.specs.Option.{option_map}
use Rattle.tc_cert.specs.Fields.{Fields, fields_of, IsNextRow}
use Rattle.tc_cert.specs.Fits.{RowFitsIn, sizes_of}
use Rattle.tc_cert.specs.Standing.{IsNextFault}
use Rattle.tc_cert.proofs.ReadLines.{ARow, PassesRow, refused}
use Rattle.tc_cert.proofs.ToldSoFar.{RowsSoFar, rows_more, rows_fault}
use Rattle.tc_cert.proofs.fitting.first_row.Goals as goal

pub loop-done-init : goal.loop-done-init
loop-done-init c = record {
  so_far = λ v bytes os ts q st t. record { rows = []; long = refl; last = refl; stands = st; told_of = t };
  few = omega arith;
  good = tt;
}

pub returns-in_err-row : goal.returns-in_err-row
returns-in_err-row c = λ v bytes os ts q st t.
    let o : RowsSoFar c.args.kind v bytes (sizes_of c.args.ranges) os ts c.args.count c.loop-done.done (option_map fields_of c.loop-done.before) c.loop-done.told c.loop-done.reader = c.loop-done.invariant.so_far v bytes os ts q st t in
    refused _ _ c.from_residual.result c.in_err-row.field-0.0 c.from_residual.ensures.1
    (rows_fault c.args.kind v bytes (sizes_of c.args.ranges) os ts c.args.count c.loop-done.done (option_map fields_of c.loop-done.before) c.loop-done.told c.loop-done.reader c.in_err-row.field-0.0 o c.loop-done-test.true
    (subst (λ w. IsNextFault c.loop-done.reader.lines (ARow w c.args.kind (option_map fields_of c.loop-done.before) c.loop-done.reader.rest.now) c.in_err-row.field-0.0) o.stands.style c.in_err-row.ensures.no))

pub loop-done-preserved : goal.loop-done-preserved
loop-done-preserved c = record {
  so_far = λ v bytes os ts q st t.
      let o : RowsSoFar c.args.kind v bytes (sizes_of c.args.ranges) os ts c.args.count c.loop-done.done (option_map fields_of c.loop-done.before) c.loop-done.told c.loop-done.reader = c.loop-done.invariant.so_far v bytes os ts q st t in
      let f : Fields = fields_of c.in_ok-row.row in
      let passes : PassesRow v c.args.kind (option_map fields_of c.loop-done.before) f c.loop-done.reader c.row.new.self = record {
        row = subst (λ w. IsNextRow w c.args.kind (option_map fields_of c.loop-done.before) c.loop-done.reader.rest.now f c.row.new.self.rest.now) o.stands.style c.in_ok-row.ensures.ok.0;
        lines = c.in_ok-row.ensures.ok.1;
        style = c.in_ok-row.ensures.ok.2;
      } in
      let fits : (IsTrue c.does_row_fit.result → RowFitsIn (sizes_of c.args.ranges) (length os) c.args.kind f) × (RowFitsIn (sizes_of c.args.ranges) (length os) c.args.kind f → IsTrue c.does_row_fit.result)
      = subst (λ n. (IsTrue c.does_row_fit.result → RowFitsIn (sizes_of c.args.ranges) n c.args.kind f) × (RowFitsIn (sizes_of c.args.ranges) n c.args.kind f → IsTrue c.does_row_fit.result)) (sym q) c.does_row_fit.ensures in
      subst (λ u. RowsSoFar c.args.kind v bytes (sizes_of c.args.ranges) os ts c.args.count (c.loop-done.done + 1) (Some f) u c.row.new.self) (sym c.first_of-told.ensures)
      (rows_more c.args.kind v bytes (sizes_of c.args.ranges) os ts c.args.count c.loop-done.done (option_map fields_of c.loop-done.before) c.loop-done.told c.loop-done.reader c.row.new.self f c.does_row_fit.result c.row.new.self.lines o c.loop-done-test.true passes fits refl);
  few = omega (arith, c.loop-done-test.true);
  good = (c.in_ok-row.ensures.ok.0.formed, c.in_ok-row.ensures.short);
}

pub returns : goal.returns
returns c = λ v bytes os ts q st t.
    let o : RowsSoFar c.args.kind v bytes (sizes_of c.args.ranges) os ts c.args.count c.loop-done.done (option_map fields_of c.loop-done.before) c.loop-done.told c.loop-done.reader = c.loop-done.invariant.so_far v bytes os ts q st t in
    let all : c.loop-done.done ≡ c.args.count = omega (arith, c.loop-done.invariant.few, c.loop-done-test.false) in
    (o.rows, o.long ∙ all, o.stands, o.told_of)
