use Rattle.std.proofs.Common.{ap, subst, arith}
use Rattle.tc_rules.specs.Asked.{kind}
use Rattle.tc_rows.specs.Triples.{predicates}
use Rattle.tc_model.specs.Letters.{IsLetter}
use Rattle.tc_rules.specs.declared.rules.Kind.{Kind}
use Rattle.tc_rules.specs.Asked as asked
use Rattle.tc_beh.proofs.Hitting.{element_put, text_put}
use Rattle.tc_rules.specs.Kept.{told}
use Rattle.tc_beh.specs.Templates.{depth_of_sheet}
use Rattle.tc_beh.proofs.OpenLaws.{beside_then, open_on}
use Rattle.tc_beh.proofs.above.put_entry_above.Goals as goal

pub returns-in-Elem-clause-pairs : goal.returns-in-Elem-clause-pairs
returns-in-Elem-clause-pairs c = λ x g q at is called lx meant.
    let p = c.args.place.now in
    let l = c.args.letter in
    element_put x p g q at.mode l.marks.0 c.args.sets.now.out c.put_hit.new.sets.out c.put_further.new.sets.out c.in-Elem.sym.0 (kind l.kind) (ap kind c.in-Elem.is) c.requires.node
    (c.put_hit.ensures.pairs x g q is called lx at meant)
    (c.put_further.ensures.pairs x g at is.place (subst (λ (k : Kind). IsLetter x.symbols (predicates x) (asked.letter k l.marks)) c.in-Elem.is lx))

pub returns-in-Text-clause-pairs : goal.returns-in-Text-clause-pairs
returns-in-Text-clause-pairs c = λ x g q at is called lx meant.
    let p = c.args.place.now in
    let l = c.args.letter in
    text_put x p g q at.mode l.marks.0 c.args.sets.now.out c.put_hit.new.sets.out (kind l.kind) (ap kind c.in-Text.is) c.requires.node (c.put_hit.ensures.pairs x g q is called lx at meant)

pub put_further-requires-clause-place : goal.put_further-requires-clause-place
put_further-requires-clause-place c = let (x, is) = c.requires.place in (x, is.place)

pub put_further-requires-clause-sets : goal.put_further-requires-clause-sets
put_further-requires-clause-sets c =
    open_on c.args.place.now 0 (depth_of_sheet (told c.args.place.now.rules.now).sheet) c.args.sets.now c.put_hit.new.sets c.requires.sets c.put_hit.ensures.same (omega arith)

pub returns-in-Elem-clause-same : goal.returns-in-Elem-clause-same
returns-in-Elem-clause-same c = beside_then c.args.place.now.output.now c.args.place.now.outputs.now c.args.sets.now c.put_hit.new.sets c.put_further.new.sets c.put_hit.ensures.same c.put_further.ensures.same

pub returns-in-Text-clause-same : goal.returns-in-Text-clause-same
returns-in-Text-clause-same c = c.put_hit.ensures.same
