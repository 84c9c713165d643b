use Rattle.std.proofs.Common.{Contains, sym, ap, ◌∙◌, subst, true}
use Rattle.tc_model.specs.Meaning.{all_children}
use Rattle.tc_model.specs.Numberings.{moves_of}
use Rattle.tc_rules.specs.Kept.{told}
use Rattle.tc_rules.proofs.PartsOf.{children_move}
use Rattle.tc_rows.specs.Bodies.{body_pairs, value_pairs}
use Rattle.tc_beh.specs.Places.{kind_of, below_of}
use Rattle.tc_beh.specs.Putting.{Extends}
use Rattle.tc_beh.specs.Templates.{built_in_on}
use Rattle.tc_beh.proofs.PutLaws.{put_done}
use Rattle.tc_beh.proofs.templates.put_built_in.Goals as goal

pub put_selected-requires-clause-path : goal.put_selected-requires-clause-path
put_selected-requires-clause-path c =
    let s = (told c.args.place.now.rules.now).sheet in
    subst (λ q. Contains (moves_of s) (record { path = q; mode = c.args.mode })) (sym c.all_children.ensures) (children_move s c.args.mode c.requires.mode)

pub put_selected-requires-in-Elem-clause-path : goal.put_selected-requires-in-Elem-clause-path
put_selected-requires-in-Elem-clause-path c =
    let s = (told c.args.place.now.rules.now).sheet in
    subst (λ q. Contains (moves_of s) (record { path = q; mode = c.args.mode })) (sym c.all_children-in-Elem.ensures) (children_move s c.args.mode c.requires.mode)

pub returns-in-Text-clause-pairs : goal.returns-in-Text-clause-pairs
returns-in-Text-clause-pairs c = λ x is.
    let p = c.args.place.now in
    let new = c.put_text_if.new.sets.out in
    subst (λ k. Extends c.args.sets.now.out new (body_pairs x (built_in_on k c.args.mode) k (below_of x p))) (sym (ap kind_of c.in-Text.is))
    (put_done x c.args.sets.now.out new (value_pairs x true) (c.put_text_if.ensures.same.size ∙ (c.requires.sets.size ∙ is.size)) (c.put_text_if.ensures.pairs x is))

pub returns-in-Root-clause-pairs : goal.returns-in-Root-clause-pairs
returns-in-Root-clause-pairs c = λ x is.
    let p = c.args.place.now in
    let new = c.put_selected.new.sets.out in
    subst (λ k. Extends c.args.sets.now.out new (body_pairs x (built_in_on k c.args.mode) k (below_of x p))) (sym (ap kind_of c.in-Root.is))
    (put_done x c.args.sets.now.out new ((below_of x p).pairs c.args.mode all_children) (c.put_selected.ensures.same.size ∙ (c.requires.sets.size ∙ is.size))
    (subst (λ q. Extends c.args.sets.now.out new ((below_of x p).pairs c.args.mode q)) c.all_children.ensures (c.put_selected.ensures.pairs x is)))

pub returns-in-Elem-clause-pairs : goal.returns-in-Elem-clause-pairs
returns-in-Elem-clause-pairs c = λ x is.
    let p = c.args.place.now in
    let new = c.put_selected-in-Elem.new.sets.out in
    subst (λ k. Extends c.args.sets.now.out new (body_pairs x (built_in_on k c.args.mode) k (below_of x p))) (sym (ap kind_of c.in-Elem.is))
    (put_done x c.args.sets.now.out new ((below_of x p).pairs c.args.mode all_children) (c.put_selected-in-Elem.ensures.same.size ∙ (c.requires.sets.size ∙ is.size))
    (subst (λ q. Extends c.args.sets.now.out new ((below_of x p).pairs c.args.mode q)) c.all_children-in-Elem.ensures (c.put_selected-in-Elem.ensures.pairs x is)))
