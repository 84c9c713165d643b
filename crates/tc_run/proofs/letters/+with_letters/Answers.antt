use Rattle.std.proofs.Common.{◌≡◌, ◌+◌, List, drop, ap, ◌∙◌, sym, subst, rules}
use Rattle.std.proofs.lemmas.List.{drop_all}
use Rattle.tc_model.specs.Trees.{beside}
use Rattle.tc_model.specs.Views as see
use Rattle.tc_model.specs.declared.tree.Node.TheViews.{the_lemmas}
use Rattle.tc_model.proofs.NormalForm.{beside_none}
use Rattle.tc_run.specs.Lettered as l
use Rattle.tc_run.specs.Running.{IsLetteredIn, kids_of}
use Rattle.tc_run.specs.Sights.{AreRemembered, HasGrown}
use Rattle.tc_run.specs.Views.{before, trees}
use Rattle.tc_run.specs.declared.letters.Lettered.{Lettered}
use Rattle.tc_run.specs.declared.letters.Lettering.{Lettering}
use Rattle.tc_run.proofs.LetteredSteps.{grown_lettered, grown_twice}
use Rattle.tc_run.proofs.Marking.{text_lettered}
use Rattle.tc_run.proofs.Texts.{text_found, elem_found, found_further, bare_further}
use Rattle.tc_run.proofs.letters.+with_letters.Goals as goal
use Rattle.tc_run.proofs.letters.+with_letters.Goals.{in-Text, in-Elem+in_ok-below-in-Elem+in_ok-tree-in-Elem}

pub with_letters-requires : goal.with_letters-requires
with_letters-requires t c = (search (rules, the_lemmas), (c.requires.runner, (c.requires.on_texts, (c.loop-node.invariant.known, c.requires.asked))))

pub loop-node-preserved : goal.loop-node-preserved
loop-node-preserved t c =
    let r = c.args.runner.now in
    let ns = c.args.nodes.now in
    let i = c.loop-node.node-index in
    let x = c.node-item.result in
    let rest = see.trees (drop (i + 1) ns) in
    let here = c.loop-node-test.true in
    let found = c.loop-node.found.items in
    let new = c.push.new.self.items in
    let tree = c.match-node.tree in
    let put = c.in_ok-push.ensures.items in
    let old = c.loop-node.known in
    let now = c.match-node.known in
    elim c.match-node.branch [
      | in-Text w ↦
          let piece = w.in-Text.piece in
          let is = w.in-Text.is in
          let same : now ≡ old = w.known-is in
          let kept = subst (λ (k : Lettering). IsLetteredIn r (kids_of k.numbered.items) (trees found)) (sym same) c.loop-node.invariant.lettered in
          let alone = subst (λ (y : Lettered). IsLetteredIn r (kids_of now.numbered.items) (before y l.none)) (sym w.tree-is) (text_lettered r c.requires.runner (kids_of now.numbered.items) piece c.args.on_texts c.requires.on_texts) in
          let first = text_found ns i x piece c.args.on_texts here c.node-item.is is ∙ sym (ap (λ (y : Lettered). beside (l.bare (before y l.none)) rest) w.tree-is) in
          record {
            lettered = found_further r (kids_of now.numbered.items) new found tree put kept alone;
            same = bare_further new found tree (see.trees (drop i ns)) rest (see.trees ns) put first c.loop-node.invariant.same;
            known = subst (AreRemembered r) (sym same) c.loop-node.invariant.known;
            grown = subst (HasGrown c.args.known.now) (sym same) c.loop-node.invariant.grown;
          }
      | in-Elem+in_ok-below-in-Elem+in_ok-tree-in-Elem w ↦
          let below = w.in_ok-below-in-Elem.below in
          let n = w.in-Elem.name in
          let kids = w.in-Elem.kids in
          let is = w.in-Elem.is in
          let so_far = w.with_letters.new.known in
          let last = w.lettered_element.new.known in
          let same : now ≡ last = w.known-is in
          let grown = grown_twice old so_far last w.in_ok-below-in-Elem.ensures.grown w.in_ok-tree-in-Elem.ensures.grown in
          let kept = subst (λ (k : Lettering). IsLetteredIn r (kids_of k.numbered.items) (trees found)) (sym same) (grown_lettered r old last (trees found) grown c.loop-node.invariant.lettered) in
          let element = w.in_ok-tree-in-Elem.ensures.lettered in
          let y = w.in_ok-tree-in-Elem.tree in
          let alone =
          subst (λ (y : Lettered). IsLetteredIn r (kids_of now.numbered.items) (before y l.none)) (sym w.tree-is)
          (subst (λ (k : Lettering). IsLetteredIn r (kids_of k.numbered.items) (before y l.none)) (sym same) element.0)
          in
          let first =
          elem_found ns i x n kids here c.node-item.is is y (l.bare (trees below.now)) w.in_ok-below-in-Elem.ensures.nodes.1 element.1
          ∙ sym (ap (λ (y : Lettered). beside (l.bare (before y l.none)) rest) w.tree-is)
          in
          record {
            lettered = found_further r (kids_of now.numbered.items) new found tree put kept alone;
            same = bare_further new found tree (see.trees (drop i ns)) rest (see.trees ns) put first c.loop-node.invariant.same;
            known = subst (AreRemembered r) (sym same) w.in_ok-tree-in-Elem.ensures.known;
            grown = subst (HasGrown c.args.known.now) (sym same) (grown_twice c.args.known.now old last c.loop-node.invariant.grown grown);
          }
    ]

pub returns-clause-nodes : goal.returns-clause-nodes
returns-clause-nodes t c =
    let r = c.args.runner.now in
    let found = c.loop-node.found.items in
    let ns = c.args.nodes.now in (
      subst (λ (xs : List Lettered). IsLetteredIn r (kids_of c.loop-node.known.numbered.items) (trees xs)) (sym c.into_bump_slice.ensures) c.loop-node.invariant.lettered,
      ap (λ (xs : List Lettered). l.bare (trees xs)) c.into_bump_slice.ensures
          ∙ (sym (beside_none (l.bare (trees found))) ∙ (sym (ap (λ xs. beside (l.bare (trees found)) (see.trees xs)) (drop_all c.loop-node.node-index ns c.loop-node-test.false)) ∙ c.loop-node.invariant.same)),
    )

pub returns-in_err-tree-in-Elem-clause-grown : goal.returns-in_err-tree-in-Elem-clause-grown
returns-in_err-tree-in-Elem-clause-grown t c =
    grown_twice c.args.known.now c.loop-node.known _ c.loop-node.invariant.grown (grown_twice c.loop-node.known c.with_letters.new.known c.lettered_element.new.known c.in_ok-below-in-Elem.ensures.grown c.in_err-tree-in-Elem.ensures.grown)

pub returns-in_err-push-clause-known : goal.returns-in_err-push-clause-known
returns-in_err-push-clause-known t c =
    let r = c.args.runner.now in
    elim c.match-node.branch [
      | in-Text w ↦ subst (AreRemembered r) (sym w.known-is) c.loop-node.invariant.known
      | in-Elem+in_ok-below-in-Elem+in_ok-tree-in-Elem w ↦ subst (AreRemembered r) (sym w.known-is) w.in_ok-tree-in-Elem.ensures.known
    ]

pub returns-in_err-push-clause-grown : goal.returns-in_err-push-clause-grown
returns-in_err-push-clause-grown t c =
    let old = c.args.known.now in
    elim c.match-node.branch [
      | in-Text w ↦ subst (HasGrown old) (sym w.known-is) c.loop-node.invariant.grown
      | in-Elem+in_ok-below-in-Elem+in_ok-tree-in-Elem w ↦
          subst (HasGrown old) (sym w.known-is)
          (grown_twice old c.loop-node.known w.lettered_element.new.known c.loop-node.invariant.grown
          (grown_twice c.loop-node.known w.with_letters.new.known w.lettered_element.new.known w.in_ok-below-in-Elem.ensures.grown w.in_ok-tree-in-Elem.ensures.grown))
    ]
