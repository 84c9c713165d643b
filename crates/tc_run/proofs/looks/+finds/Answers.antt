use Rattle.std.proofs.Common.{◌+◌, None, true, false, drop, is_some, ap, ◌∙◌, sym, rules}
use Rattle.std.proofs.lemmas.List.{drop_all}
use Rattle.tc_model.specs.Chains.{one, a_text}
use Rattle.tc_model.specs.Machine as machine
use Rattle.tc_model.specs.StateCounts.{PathUse}
use Rattle.tc_rules.specs.Asked.{letter}
use Rattle.tc_rules.specs.RulesView.{select_below}
use Rattle.tc_rules.specs.States.{Looking}
use Rattle.tc_rules.specs.declared.rules.Kind.TheVariants as kinds
use Rattle.tc_run.specs.Lettered as l
use Rattle.tc_run.specs.Running.{guide, numbered_by, looking, told_by, symbols_by}
use Rattle.tc_run.specs.Views.{trees, before}
use Rattle.tc_run.specs.declared.letters.Lettered.TheViews.{the_lemmas}
use Rattle.tc_run.proofs.FirstHits.{first_left, in_text, in_element, none_in_element, text_letter, element_letter, found_here, found_later, hit_alone, finding_told, finding_is}
use Rattle.tc_run.proofs.OneTree.{apart_at, element_at}
use Rattle.tc_run.proofs.Visiting.{leads_some, leads_none}
use Rattle.tc_run.proofs.looks.+finds.Goals as goal

pub finds-returns-then-finds_in-clause-answer : goal.finds-returns-then-finds_in-clause-answer
finds-returns-then-finds_in-clause-answer t c = λ s at.
    let m = looking c.args.runner.now in
    let ns = c.args.nodes.now in
    let i = c.loop-node.node-index in
    let x = c.node-item.result in
    found_here c.finds_in.result (machine.first_hit m (l.bare (before x l.none)) s) (machine.first_hit m (l.bare (trees (drop (i + 1) ns))) s) (machine.first_hit m (l.bare (trees ns)) s)
    c.if-finds_in.true (c.finds_in.ensures.answer s at) (c.loop-node.invariant.2 s at ∙ first_left c.args.runner.now s ns i x c.loop-node-test.true c.node-item.is)

pub finds-loop-node-preserved : goal.finds-loop-node-preserved
finds-loop-node-preserved t c =
    let r = c.args.runner.now in
    let m = looking r in
    let ns = c.args.nodes.now in
    let i = c.loop-node.node-index in
    let x = c.node-item.result in (
      c.finds_in.ensures.known,
      (apart_at r ns i x c.loop-node-test.true c.node-item.is c.loop-node.invariant.1).1,
      λ s at.
          c.loop-node.invariant.2 s at
          ∙ found_later c.finds_in.result (machine.first_hit m (l.bare (before x l.none)) s) (machine.first_hit m (l.bare (trees (drop (i + 1) ns))) s) (machine.first_hit m (l.bare (trees (drop i ns))) s)
          c.if-finds_in.false (c.finds_in.ensures.answer s at) (first_left r s ns i x c.loop-node-test.true c.node-item.is),
    )

pub finds-returns-clause-answer : goal.finds-returns-clause-answer
finds-returns-clause-answer t c = λ s at.
    sym (ap is_some (c.loop-node.invariant.2 s at ∙ ap (λ ns. machine.first_hit (looking c.args.runner.now) (l.bare (trees ns)) s) (drop_all c.loop-node.node-index c.args.nodes.now c.loop-node-test.false)))

pub finds-finds_in-requires : goal.finds-finds_in-requires
finds-finds_in-requires t c =
    let r = c.args.runner.now in
    let ns = c.args.nodes.now in
    let i = c.loop-node.node-index in
    let x = c.node-item.result in (
      search (rules, the_lemmas),
      (record { runner = c.requires.nodes.runner; nodes = (apart_at r ns i x c.loop-node-test.true c.node-item.is c.loop-node.invariant.1).0; known = c.loop-node.invariant.0 }, c.requires.state),
    )

pub finds_in-returns-in-Text-clause-answer : goal.finds_in-returns-in-Text-clause-answer
finds_in-returns-in-Text-clause-answer t c = λ s at.
    let r = c.args.runner.now in
    let hits = c.sight-seen.ensures.sight.hit (record { path = s.path; mode = None }) s.state at in
    hit_alone c.sight-seen.result.hit (one (a_text c.in-Text.field-0.now)) _ (in_text r s c.args.node.now c.requires.node.nodes c.in-Text.field-0 c.in-Text.marks c.in-Text.is c.sight-seen.result.hit hits)

pub finds_in-returns-then-sight-clause-answer : goal.finds_in-returns-then-sight-clause-answer
finds_in-returns-then-sight-clause-answer t c = λ s at.
    let r = c.args.runner.now in
    let x = c.in-Elem in
    let hits = sym c.if-sight.true ∙ c.sight-sight.ensures.sight.hit (record { path = s.path; mode = None }) s.state at in
    sym (ap is_some (in_element r s c.args.node.now c.requires.node.nodes x.field-0 x.letter x.kids x.is true hits))

pub finds_in-returns-in-None-clause-answer : goal.finds_in-returns-in-None-clause-answer
finds_in-returns-in-None-clause-answer t c = λ s at.
    let r = c.args.runner.now in
    let x = c.in-Elem in
    let b : PathUse = record { path = s.path; mode = None } in
    let hits = sym c.if-sight.false ∙ c.sight-sight.ensures.sight.hit b s.state at in
    sym (ap is_some (none_in_element r s c.args.node.now c.requires.node.nodes x.field-0 x.letter x.kids x.is hits
    (leads_none r c.args.look (letter (kinds.Elem x.letter.sym) x.letter.marks) c.sight-sight.result.below c.sight-sight.ensures.sight.below c.in-None.is b s.state at)))

pub finds_in-finds_below-requires : goal.finds_in-finds_below-requires
finds_in-finds_below-requires t c =
    let r = c.args.runner.now in
    let x = c.in-Elem in
    let b : PathUse = record { path = c.requires.state.path; mode = None } in
    let e = element_at r c.args.node.now x.field-0 x.letter x.kids l.none c.requires.node.nodes x.is in (
      search (rules, the_lemmas),
      (
        record { runner = c.requires.node.runner; nodes = e.kids_are; known = c.sight-sight.ensures.known },
        (
          e.number_is,
          record {
            path = c.requires.state.path;
            state = select_below (symbols_by r) (told_by r) b c.requires.state.state (letter (kinds.Elem x.letter.sym) x.letter.marks);
            at =
                leads_some r c.args.look c.in-Some.below (letter (kinds.Elem x.letter.sym) x.letter.marks) c.sight-sight.result.below c.sight-sight.ensures.sight.below c.in-Some.is b c.requires.state.state
                c.requires.state.at;
          },
        ),
      ),
    )

pub finds_in-returns-in-Some-clause-answer : goal.finds_in-returns-in-Some-clause-answer
finds_in-returns-in-Some-clause-answer t c = λ s at.
    let r = c.args.runner.now in
    let x = c.in-Elem in
    let b : PathUse = record { path = s.path; mode = None } in
    let hits = sym c.if-sight.false ∙ c.sight-sight.ensures.sight.hit b s.state at in
    let further : Looking = (looking r).look_step s (letter (kinds.Elem x.letter.sym) x.letter.marks) in
    c.finds_below.ensures.answer further
    (leads_some r c.args.look c.in-Some.below (letter (kinds.Elem x.letter.sym) x.letter.marks) c.sight-sight.result.below c.sight-sight.ensures.sight.below c.in-Some.is b s.state at)
    ∙ sym (ap is_some (in_element r s c.args.node.now c.requires.node.nodes x.field-0 x.letter x.kids x.is false hits))

pub finds_in-sight-seen-requires-clause-letter : goal.finds_in-sight-seen-requires-clause-letter
finds_in-sight-seen-requires-clause-letter t c = text_letter c.args.runner.now c.args.node.now c.requires.node.nodes c.in-Text.field-0 c.in-Text.marks c.in-Text.is

pub finds_in-sight-sight-requires-clause-letter : goal.finds_in-sight-sight-requires-clause-letter
finds_in-sight-sight-requires-clause-letter t c =
    let x = c.in-Elem in
    element_letter c.args.runner.now c.args.node.now c.requires.node.nodes x.field-0 x.letter x.kids x.is

pub finds_below-returns-in-Some-remembered-clause-answer : goal.finds_below-returns-in-Some-remembered-clause-answer
finds_below-returns-in-Some-remembered-clause-answer t c =
    let r = c.args.runner.now in
    finding_told r c.in-Some.number c.args.look c.in-Some-remembered.found c.args.number (l.bare (trees c.args.kids.now)) (c.in-Some-remembered.ensures (guide r) (numbered_by r) c.requires.kids.known.findings)
    c.in-Some.is c.requires.number

pub finds_below-returns-clause-known : goal.finds_below-returns-clause-known
finds_below-returns-clause-known t c =
    let r = c.args.runner.now in
    record {
      seen = c.finds-found.ensures.known.seen;
      findings =
          c.remember.ensures (guide r) (numbered_by r) c.finds-found.ensures.known.findings
          (finding_is r c.in-Some.number c.args.look c.finds-found.result c.args.number (l.bare (trees c.args.kids.now)) c.in-Some.is c.requires.number c.finds-found.ensures.answer);
    }
