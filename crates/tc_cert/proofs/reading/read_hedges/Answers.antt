use Rattle.std.proofs.Common.{◌≡◌, ◌<◌, ◌∙◌, ◌++◌, ◌∷◌, [], length, length-append, ap, subst, sym, arith}
use Rattle.std.specs.Option.{option_map}
use Rattle.tc_cert.specs.Fields.{Fields, fields_of, last_of, hedge_of, IsNextRow}
use Rattle.tc_cert.specs.Fronts.{in_hedges}
use Rattle.tc_cert.specs.Standing.{Stands, IsNextFault}
use Rattle.tc_cert.specs.declared.rows.Kind.TheVariants.{Hedge}
use Rattle.tc_cert.proofs.RowLines.{of_hedge}
use Rattle.tc_cert.proofs.Sorted.{last_snoc}
use Rattle.tc_cert.proofs.ReadLines.{hedges_on, hedges_fault, ARow, PassesRow, hedge_on, hedge_fault, refused}
use Rattle.tc_cert.proofs.reading.read_hedges.Goals as goal

pub returns-in_err-row : goal.returns-in_err-row
returns-in_err-row c = λ v bytes os ts s.
    let few : length c.loop-alloc.hedges < c.in_ok-count.count = omega (arith, c.loop-alloc-test.true, c.len.ensures) in
    let here : Stands v bytes (in_hedges v os ts c.in_ok-count.count c.loop-alloc.hedges) c.loop-alloc.reader = c.loop-alloc.invariant.stands v bytes os ts s in
    refused _ _ c.from_residual-in_err-row.result c.in_err-row.field-0.0 c.from_residual-in_err-row.ensures.1
    (hedge_fault v bytes os ts c.in_ok-count.count c.loop-alloc.hedges c.loop-alloc.reader c.in_err-row.field-0.0 few here
    (subst (λ o. IsNextFault c.loop-alloc.reader.lines (ARow v Hedge o c.loop-alloc.reader.rest.now) c.in_err-row.field-0.0) c.loop-alloc.invariant.last
    (subst (λ w. IsNextFault c.loop-alloc.reader.lines (ARow w Hedge (option_map fields_of c.loop-alloc.before) c.loop-alloc.reader.rest.now) c.in_err-row.field-0.0) here.style c.in_err-row.ensures.no)))

pub loop-alloc-preserved : goal.loop-alloc-preserved
loop-alloc-preserved c =
    let few : length c.loop-alloc.hedges < c.in_ok-count.count = omega (arith, c.loop-alloc-test.true, c.len.ensures) in
    let f : Fields = fields_of c.in_ok-row.row in
    let pushed : c.push_hedge.new.hedges ≡ c.loop-alloc.hedges ++ hedge_of f ∷ [] = c.in_ok-push_hedge.ensures in
    record {
      stands = λ v bytes os ts s.
          let here : Stands v bytes (in_hedges v os ts c.in_ok-count.count c.loop-alloc.hedges) c.loop-alloc.reader = c.loop-alloc.invariant.stands v bytes os ts s in
          let passes : PassesRow v Hedge (option_map of_hedge (last_of c.loop-alloc.hedges)) f c.loop-alloc.reader c.row.new.self = record {
            row = subst (λ o. IsNextRow v Hedge o c.loop-alloc.reader.rest.now f c.row.new.self.rest.now) c.loop-alloc.invariant.last
                (subst (λ w. IsNextRow w Hedge (option_map fields_of c.loop-alloc.before) c.loop-alloc.reader.rest.now f c.row.new.self.rest.now) here.style c.in_ok-row.ensures.ok.0);
            lines = c.in_ok-row.ensures.ok.1;
            style = c.in_ok-row.ensures.ok.2;
          } in
          subst (λ hs. Stands v bytes (in_hedges v os ts c.in_ok-count.count hs) c.row.new.self) (sym pushed) (hedge_on v bytes os ts c.in_ok-count.count c.loop-alloc.hedges f c.loop-alloc.reader c.row.new.self few here passes);
      few = omega (arith, ap length pushed, length-append c.loop-alloc.hedges (hedge_of f ∷ []), few);
      last = sym (ap (λ ts. option_map of_hedge (last_of ts)) pushed ∙ ap (option_map of_hedge) (last_snoc c.loop-alloc.hedges (hedge_of f)));
      good = (c.in_ok-row.ensures.ok.0.formed, c.in_ok-row.ensures.short);
    }

pub loop-alloc-init : goal.loop-alloc-init
loop-alloc-init c = record {
  stands = λ v bytes os ts s. subst (λ l. Stands v bytes (in_hedges v os ts c.in_ok-count.count l) c.count.new.self) (sym c.new-hedges.ensures)
      (hedges_on v bytes os ts c.in_ok-count.count c.args.reader.now c.count.new.self s c.in_ok-count.ensures.ok.0 c.in_ok-count.ensures.ok.1);
  few = omega (arith, ap length c.new-hedges.ensures);
  last = sym (ap (λ l. option_map of_hedge (last_of l)) c.new-hedges.ensures);
  good = tt;
}

pub row-requires : goal.row-requires
row-requires c = c.loop-alloc.invariant.good

pub returns : goal.returns
returns c = λ v bytes os ts s.
    let all : length c.loop-alloc.hedges ≡ c.in_ok-count.count = omega (arith, c.loop-alloc.invariant.few, c.loop-alloc-test.false, c.len.ensures) in
    subst (λ n. Stands v bytes (in_hedges v os ts n c.loop-alloc.hedges) c.loop-alloc.reader) (sym all) (c.loop-alloc.invariant.stands v bytes os ts s)

pub returns-in_err-count : goal.returns-in_err-count
returns-in_err-count c = λ v bytes os ts s. refused _ _ c.from_residual.result c.in_err-count.field-0.0 c.from_residual.ensures.1 (hedges_fault v bytes os ts c.args.reader.now c.in_err-count.field-0.0 s c.in_err-count.ensures.no)
