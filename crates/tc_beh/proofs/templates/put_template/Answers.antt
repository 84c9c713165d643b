use Rattle.std.proofs.Common.{sym, subst, arith}
use Rattle.tc_model.specs.Views as see
use Rattle.tc_rules.specs.Kept.{told}
use Rattle.tc_rows.specs.Triples.{sheet}
use Rattle.tc_rows.specs.Bodies.{body_pairs}
use Rattle.tc_beh.specs.Places.{kind_of, below_of, called_by}
use Rattle.tc_beh.specs.Putting.{Extends, put_pairs}
use Rattle.tc_beh.specs.Opening.{IsOpenAt}
use Rattle.tc_beh.specs.Templates.{IsTemplate, IsPartTemplate, depth_of, built_in_on}
use Rattle.tc_beh.specs.declared.templates.Template.{Template}
use Rattle.tc_beh.proofs.Called.{put_is}
use Rattle.tc_beh.proofs.OpenLaws.{open_less}
use Rattle.tc_beh.proofs.PutLaws.{put_same}
use Rattle.tc_beh.proofs.templates.put_template.Goals as goal

pub returns-in-Body-clause-pairs : goal.returns-in-Body-clause-pairs
returns-in-Body-clause-pairs c = λ x d is called meant.
    let p = c.args.place.now in
    let k = kind_of p.node in
    let u = subst (λ w. IsTemplate (sheet x).named (built_in_on k) w d) c.in-Body.is meant in
    put_same c.args.sets.now.out c.put_body.new.sets.out (put_pairs x k (below_of x p) (called_by p) (see.body c.in-Body.inner.now)) (body_pairs x d k (below_of x p))
    (put_is x k (below_of x p) (called_by p) u (λ n h. called n)) (c.put_body.ensures.pairs x is.place)

pub returns-in-Rule-clause-pairs : goal.returns-in-Rule-clause-pairs
returns-in-Rule-clause-pairs c = λ x d is called meant.
    let p = c.args.place.now in
    let k = kind_of p.node in
    let u = subst (λ w. IsTemplate (sheet x).named (built_in_on k) w d) c.in-Rule.is meant in
    put_same c.args.sets.now.out c.put_rule.new.sets.out (put_pairs x k (below_of x p) (called_by p) (see.body c.in-Rule.inner.now)) (body_pairs x d k (below_of x p))
    (put_is x k (below_of x p) (called_by p) u (λ n h. called n)) (c.put_rule.ensures.pairs x is)

pub returns-in-BuiltIn-clause-pairs : goal.returns-in-BuiltIn-clause-pairs
returns-in-BuiltIn-clause-pairs c = λ x d is called meant.
    let p = c.args.place.now in
    let k = kind_of p.node in
    let e = subst (λ w. IsTemplate (sheet x).named (built_in_on k) w d) c.in-BuiltIn.is meant in
    subst (λ b. Extends c.args.sets.now.out c.put_built_in.new.sets.out (body_pairs x b k (below_of x p))) (sym e) (c.put_built_in.ensures.pairs x is.place)

pub put_body-requires-clause-place : goal.put_body-requires-clause-place
put_body-requires-clause-place c = let (x, is) = c.requires.place in (x, is.place)

pub put_built_in-requires-clause-place : goal.put_built_in-requires-clause-place
put_built_in-requires-clause-place c = let (x, is) = c.requires.place in (x, is.place)

pub put_built_in-requires-clause-sets : goal.put_built_in-requires-clause-sets
put_built_in-requires-clause-sets c = open_less c.args.place.now 0 (depth_of c.args.template) c.args.sets.now c.requires.sets (omega arith)

pub put_body-requires-clause-sets : goal.put_body-requires-clause-sets
put_body-requires-clause-sets c = subst (λ (w : Template). IsOpenAt c.args.place.now (depth_of w) c.args.sets.now) c.in-Body.is c.requires.sets

pub put_rule-requires-clause-sets : goal.put_rule-requires-clause-sets
put_rule-requires-clause-sets c = subst (λ (w : Template). IsOpenAt c.args.place.now (depth_of w) c.args.sets.now) c.in-Rule.is c.requires.sets

pub put_rule-requires-clause-part : goal.put_rule-requires-clause-part
put_rule-requires-clause-part c = (subst (λ (w : Template). IsPartTemplate (told c.args.place.now.rules.now).sheet w) c.in-Rule.is c.requires.part).0

pub put_rule-requires-clause-rule : goal.put_rule-requires-clause-rule
put_rule-requires-clause-rule c = (subst (λ (w : Template). IsPartTemplate (told c.args.place.now.rules.now).sheet w) c.in-Rule.is c.requires.part).1
