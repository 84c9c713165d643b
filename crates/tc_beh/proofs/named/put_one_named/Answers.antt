use Rattle.std.proofs.Common.{◌≡◌, ◌<◌, length, get_or, set, subst, sym, ap, ◌∙◌, refl, arith}
use Rattle.std.proofs.lemmas.List.{get_or-set_same}
use Rattle.tc_mat.specs.Matrix.{Matrix}
use Rattle.tc_model.specs.Sheets.{Body, no_instruction}
use Rattle.tc_model.specs.Views as see
use Rattle.tc_rules.specs.Kept.{told}
use Rattle.tc_rows.specs.Triples.{outputs}
use Rattle.tc_rows.specs.PairSets.{PairSet, HaveSamePairs, product}
use Rattle.tc_rows.specs.Bodies.{stay}
use Rattle.tc_rows.proofs.PairLaws.{same_on, same_self, product_same}
use Rattle.tc_beh.specs.Heights.{depth_in, deepest}
use Rattle.tc_beh.specs.Putting.{has, put_pairs}
use Rattle.tc_beh.specs.Places.{kind_of, below_of, no_matrix}
use Rattle.tc_beh.specs.Grounds.{called_from}
use Rattle.tc_beh.proofs.Deepening.{no_body, named_got, named_is, named_part_at, deepest_at, with_named}
use Rattle.tc_beh.proofs.OpenLaws.{beside_then, open_on, open_elsewhere}
use Rattle.tc_beh.proofs.Starts.{identity_begun}
use Rattle.tc_beh.proofs.named.put_one_named.Goals as goal

pub put_body-requires-clause-part : goal.put_body-requires-clause-part
put_body-requires-clause-part c =
    let r = c.args.place.now.rules.now in
    let (x, is) = c.requires.place in
    let sh = c.sheet.result.now in
    named_part_at x r c.args.number (see.body (get_or sh.named.now c.args.number no_body).now) is.rules (named_got (told r).sheet sh c.args.number c.sheet.ensures c.requires.number)

pub put_body-requires-clause-sets : goal.put_body-requires-clause-sets
put_body-requires-clause-sets c =
    let s = (told c.args.place.now.rules.now).sheet in
    let sh = c.sheet.result.now in
    let n = c.args.number in
    let b = see.body (get_or sh.named.now n no_body).now in
    let same : depth_in (get_or s.named n no_instruction) ≡ depth_in b = ap depth_in (named_is s sh n c.sheet.ensures c.requires.number) in
    let low = deepest_at s.named n no_instruction c.requires.number in
    open_elsewhere c.args.place.now _ (depth_in b) refl refl refl c.restart.new.self (open_on c.args.place.now (depth_in b) (deepest s.named) c.args.sets.now c.restart.new.self c.requires.sets (c.restart.ensures.same c.args.place.now.output.now c.args.place.now.outputs.now) (omega (arith, same, low)))

pub returns-clause-same : goal.returns-clause-same
returns-clause-same c = beside_then c.args.place.now.output.now c.args.place.now.outputs.now c.args.sets.now c.restart.new.self c.put_body.new.sets (c.restart.ensures.same c.args.place.now.output.now c.args.place.now.outputs.now) c.put_body.ensures.same

pub leave-requires : goal.leave-requires
leave-requires c =
    let (x, ok) = c.requires.place in
    let sizes = c.requires.named.sizes in
    let count = c.requires.named.count in
    let low = c.requires.number in
    sizes c.args.number c.index-named-number.result (omega (arith, count, low)) ∙ sym (c.put_body.ensures.same.size ∙ ((c.restart.ensures.same c.args.place.now.output.now c.args.place.now.outputs.now).size ∙ c.requires.sets.size))

pub returns-clause-called : goal.returns-clause-called
returns-clause-called c = λ x ok.
    let p = c.args.place.now in
    let s = (told p.rules.now).sheet in
    let sh = c.sheet.result.now in
    let n = c.args.number in
    let old = c.args.named.now in
    let begun = c.restart.new.self.out in
    let made = c.put_body.new.sets.out in
    let left = c.leave.new.set in
    let b = see.body (get_or sh.named.now n no_body).now in
    let put : Body → PairSet = λ d. put_pairs x (kind_of p.node) (below_of x p) (called_from old) d in
    let low : n < length old = let count = c.requires.named.count in let is = c.requires.number in omega (arith, count, is) in
    let at : get_or (set old n left) n no_matrix ≡ left = get_or-set_same old n left no_matrix low in
    let size : begun.size ≡ outputs x = (c.restart.ensures.same c.args.place.now.output.now c.args.place.now.outputs.now).size ∙ (c.requires.sets.size ∙ ok.size) in
    subst (λ (m : Matrix). HaveSamePairs (has m) (product (stay x) (put (get_or s.named n no_instruction)))) (sym at)
    (subst (λ d. HaveSamePairs (has left) (product (stay x) (put d))) (sym (named_is s sh n c.sheet.ensures c.requires.number))
    (same_on (has left) (has made) (product (stay x) (put b)) c.leave.ensures.pairs
    (same_on (has made) (product (has begun) (put b)) (product (stay x) (put b)) (c.put_body.ensures.pairs x (with_named x p _ ok c.requires.named))
    (product_same (has begun) (stay x) (put b) (put b) (identity_begun begun (outputs x) size c.restart.ensures.out) (same_self (put b))))))

pub put_body-requires-clause-place : goal.put_body-requires-clause-place
put_body-requires-clause-place c =
    let (x, ok) = c.requires.place in
    (x, with_named x c.args.place.now _ ok c.requires.named)
