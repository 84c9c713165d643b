use Rattle.std.proofs.Common.{Vec, Global, List, ◌++◌, ap, ◌∙◌}
use Rattle.tc_auto.specs.declared.rows.Row.{Row}
use Rattle.tc_auto.proofs.Totals.{built_with_start, built_without_start}
use Rattle.tc_auto.proofs.make.rows_of_start.Goals.{then-with_start+in_ok-push_part, else-with_start}
use Rattle.tc_auto.proofs.make.rows_of_start.Goals as goal

pub returns : goal.returns
returns c = elim c.if-with_start.branch [
  | then-with_start+in_ok-push_part w ↦
      let one = w.in_ok-push_part.ensures in
      built_with_start c.args.grammar.now c.args.with_start c.if-with_start.rows.items one.0 w.if-with_start.true (ap (λ (v : Vec Row Global). v.items) w.rows-is ∙ (one.1 ∙ ap (λ (v : List Row). v ++ one.0) c.new-rows.ensures.items)) one.2
  | else-with_start w ↦
      built_without_start c.args.grammar.now c.args.with_start c.if-with_start.rows.items w.if-with_start.false (ap (λ (v : Vec Row Global). v.items) w.rows-is ∙ c.new-rows.ensures.items)
]
