use Rattle.std.proofs.Common.{sym, subst, true, ◌∙◌}
use Rattle.tc_mat.specs.Matrix.{Matrix, IsComposition}
use Rattle.tc_rows.specs.Triples.{outputs}
use Rattle.tc_rows.specs.Bodies.{value_pairs}
use Rattle.tc_beh.specs.Putting.{has, Extends}
use Rattle.tc_beh.proofs.OpenLaws.{beside_self}
use Rattle.tc_beh.proofs.PutLaws.{put_nothing, put_same}
use Rattle.tc_beh.proofs.bodies.put_text_if.Goals as goal

pub returns-else-is_put-clause-pairs : goal.returns-else-is_put-clause-pairs
returns-else-is_put-clause-pairs c = λ x is.
    subst (λ b. Extends c.args.sets.now.out c.args.sets.now.out (value_pairs x b)) (sym c.if-is_put.false) (put_nothing c.args.sets.now.out (outputs x) (c.requires.sets.size ∙ is.size))

pub returns-then-is_put-clause-pairs : goal.returns-then-is_put-clause-pairs
returns-then-is_put-clause-pairs c = λ x is.
    let old = c.args.sets.now.out in
    let new = c.put_text.new.self.out in
    let text = c.args.place.now.text.now in
    subst (λ b. Extends old new (value_pairs x b)) (sym c.if-is_put.true)
    (put_same old new (has text) (value_pairs x true) is.text (subst (λ (m : Matrix). IsComposition old m new) c.requires.sets.text c.put_text.ensures.pairs))

pub returns-else-is_put-clause-same : goal.returns-else-is_put-clause-same
returns-else-is_put-clause-same c = beside_self c.args.place.now.output.now c.args.place.now.outputs.now c.args.sets.now

pub returns-then-is_put-clause-same : goal.returns-then-is_put-clause-same
returns-then-is_put-clause-same c = c.put_text.ensures.same c.args.place.now.output.now c.args.place.now.outputs.now
