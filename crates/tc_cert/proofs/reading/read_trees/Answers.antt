use Rattle.std.proofs.Common.{◌≡◌, ◌<◌, ◌∙◌, ◌++◌, ◌∷◌, [], length, length-append, ap, subst, sym, arith}
use Rattle.std.specs.Option.{option_map}
use Rattle.tc_cert.specs.Fields.{Fields, fields_of, last_of, tree_of, IsNextRow}
use Rattle.tc_cert.specs.Fronts.{in_trees}
use Rattle.tc_cert.specs.Standing.{Stands, IsNextFault}
use Rattle.tc_cert.specs.declared.rows.Kind.TheVariants.{Tree}
use Rattle.tc_cert.proofs.RowLines.{of_tree}
use Rattle.tc_cert.proofs.Sorted.{last_snoc}
use Rattle.tc_cert.proofs.ReadLines.{trees_on, trees_fault, ARow, PassesRow, tree_on, tree_fault, refused}
use Rattle.tc_cert.proofs.reading.read_trees.Goals as goal

pub returns-in_err-row : goal.returns-in_err-row
returns-in_err-row c = λ v bytes os s.
    let few : length c.loop-alloc.trees < c.in_ok-count.count = omega (arith, c.loop-alloc-test.true, c.len.ensures) in
    let here : Stands v bytes (in_trees v os c.in_ok-count.count c.loop-alloc.trees) c.loop-alloc.reader = c.loop-alloc.invariant.stands v bytes os s in
    refused _ _ c.from_residual-in_err-row.result c.in_err-row.field-0.0 c.from_residual-in_err-row.ensures.1
    (tree_fault v bytes os c.in_ok-count.count c.loop-alloc.trees c.loop-alloc.reader c.in_err-row.field-0.0 few here
    (subst (λ o. IsNextFault c.loop-alloc.reader.lines (ARow v Tree o c.loop-alloc.reader.rest.now) c.in_err-row.field-0.0) c.loop-alloc.invariant.last
    (subst (λ w. IsNextFault c.loop-alloc.reader.lines (ARow w Tree (option_map fields_of c.loop-alloc.before) c.loop-alloc.reader.rest.now) c.in_err-row.field-0.0) here.style c.in_err-row.ensures.no)))

pub loop-alloc-preserved : goal.loop-alloc-preserved
loop-alloc-preserved c =
    let few : length c.loop-alloc.trees < c.in_ok-count.count = omega (arith, c.loop-alloc-test.true, c.len.ensures) in
    let f : Fields = fields_of c.in_ok-row.row in
    let pushed : c.push_tree.new.trees ≡ c.loop-alloc.trees ++ tree_of f ∷ [] = c.in_ok-push_tree.ensures in
    record {
      stands = λ v bytes os s.
          let here : Stands v bytes (in_trees v os c.in_ok-count.count c.loop-alloc.trees) c.loop-alloc.reader = c.loop-alloc.invariant.stands v bytes os s in
          let passes : PassesRow v Tree (option_map of_tree (last_of c.loop-alloc.trees)) f c.loop-alloc.reader c.row.new.self = record {
            row = subst (λ o. IsNextRow v Tree o c.loop-alloc.reader.rest.now f c.row.new.self.rest.now) c.loop-alloc.invariant.last
                (subst (λ w. IsNextRow w Tree (option_map fields_of c.loop-alloc.before) c.loop-alloc.reader.rest.now f c.row.new.self.rest.now) here.style c.in_ok-row.ensures.ok.0);
            lines = c.in_ok-row.ensures.ok.1;
            style = c.in_ok-row.ensures.ok.2;
          } in
          subst (λ ts. Stands v bytes (in_trees v os c.in_ok-count.count ts) c.row.new.self) (sym pushed) (tree_on v bytes os c.in_ok-count.count c.loop-alloc.trees f c.loop-alloc.reader c.row.new.self few here passes);
      few = omega (arith, ap length pushed, length-append c.loop-alloc.trees (tree_of f ∷ []), few);
      last = sym (ap (λ ts. option_map of_tree (last_of ts)) pushed ∙ ap (option_map of_tree) (last_snoc c.loop-alloc.trees (tree_of f)));
      good = (c.in_ok-row.ensures.ok.0.formed, c.in_ok-row.ensures.short);
    }

pub loop-alloc-init : goal.loop-alloc-init
loop-alloc-init c = record {
  stands = λ v bytes os s. subst (λ l. Stands v bytes (in_trees v os c.in_ok-count.count l) c.count.new.self) (sym c.new-trees.ensures)
      (trees_on v bytes os c.in_ok-count.count c.args.reader.now c.count.new.self s c.in_ok-count.ensures.ok.0 c.in_ok-count.ensures.ok.1);
  few = omega (arith, ap length c.new-trees.ensures);
  last = sym (ap (λ l. option_map of_tree (last_of l)) c.new-trees.ensures);
  good = tt;
}

pub row-requires : goal.row-requires
row-requires c = c.loop-alloc.invariant.good

pub returns : goal.returns
returns c = λ v bytes os s.
    let all : length c.loop-alloc.trees ≡ c.in_ok-count.count = omega (arith, c.loop-alloc.invariant.few, c.loop-alloc-test.false, c.len.ensures) in
    subst (λ n. Stands v bytes (in_trees v os n c.loop-alloc.trees) c.loop-alloc.reader) (sym all) (c.loop-alloc.invariant.stands v bytes os s)

pub returns-in_err-count : goal.returns-in_err-count
returns-in_err-count c = λ v bytes os s. refused _ _ c.from_residual.result c.in_err-count.field-0.0 c.from_residual.ensures.1 (trees_fault v bytes os c.args.reader.now c.in_err-count.field-0.0 s c.in_err-count.ensures.no)
