use Rattle.std.proofs.Common.{◌+◌, None, true, false, drop, ap, ◌∙◌, sym, refl, rules}
use Rattle.std.proofs.lemmas.List.{drop_all}
use Rattle.tc_model.specs.Chains.{one, an_element, a_text}
use Rattle.tc_model.specs.Machine as machine
use Rattle.tc_model.specs.Views.{name}
use Rattle.tc_rules.specs.Asked.{letter}
use Rattle.tc_rules.specs.RulesView.{select_below}
use Rattle.tc_model.specs.StateCounts.{PathUse}
use Rattle.tc_rules.specs.States.{Looking}
use Rattle.tc_rules.specs.declared.rules.Kind.TheVariants as kinds
use Rattle.tc_run.specs.Lettered as l
use Rattle.tc_run.specs.Running.{guide, numbered_by, looking, told_by, symbols_by}
use Rattle.tc_run.specs.Views.{trees, before}
use Rattle.tc_run.specs.declared.letters.Lettered.TheViews.{the_lemmas}
use Rattle.tc_run.proofs.FirstHits.{first_left, in_text, in_element, none_in_element, text_letter, element_letter, answered_here, answered_later, answered_alike, answered_found, not_found, finding_told, finding_is}
use Rattle.tc_run.proofs.OneTree.{apart_at, element_at}
use Rattle.tc_run.proofs.Visiting.{leads_some, leads_none}
use Rattle.tc_run.proofs.looks.+looks.Goals as goal

pub first_hit-returns-then-is_some-clause-answer : goal.first_hit-returns-then-is_some-clause-answer
first_hit-returns-then-is_some-clause-answer t c = λ s at.
    let m = looking c.args.runner.now in
    let ns = c.args.nodes.now in
    let i = c.loop-node.node-index in
    let x = c.node-item.result in
    answered_here c.first_in-found.result (machine.first_hit m (l.bare (before x l.none)) s) (machine.first_hit m (l.bare (trees (drop (i + 1) ns))) s) (machine.first_hit m (l.bare (trees ns)) s)
    (sym c.is_some.ensures ∙ c.if-is_some.true) (c.loop-node.invariant.2 s at ∙ first_left c.args.runner.now s ns i x c.loop-node-test.true c.node-item.is) (c.first_in-found.ensures.answer s at)

pub first_hit-loop-node-preserved : goal.first_hit-loop-node-preserved
first_hit-loop-node-preserved t c =
    let r = c.args.runner.now in
    let m = looking r in
    let ns = c.args.nodes.now in
    let i = c.loop-node.node-index in
    let x = c.node-item.result in (
      c.first_in-found.ensures.known,
      (apart_at r ns i x c.loop-node-test.true c.node-item.is c.loop-node.invariant.1).1,
      λ s at.
          c.loop-node.invariant.2 s at
          ∙ answered_later c.first_in-found.result (machine.first_hit m (l.bare (before x l.none)) s) (machine.first_hit m (l.bare (trees (drop (i + 1) ns))) s) (machine.first_hit m (l.bare (trees (drop i ns))) s)
          (sym c.is_some.ensures ∙ c.if-is_some.false) (first_left r s ns i x c.loop-node-test.true c.node-item.is) (c.first_in-found.ensures.answer s at),
    )

pub first_hit-returns-clause-answer : goal.first_hit-returns-clause-answer
first_hit-returns-clause-answer t c = λ s at.
    c.loop-node.invariant.2 s at ∙ ap (λ ns. machine.first_hit (looking c.args.runner.now) (l.bare (trees ns)) s) (drop_all c.loop-node.node-index c.args.nodes.now c.loop-node-test.false)

pub first_in-returns-then-seen-clause-answer : goal.first_in-returns-then-seen-clause-answer
first_in-returns-then-seen-clause-answer t c = λ s at.
    let r = c.args.runner.now in
    let hits = sym c.if-seen.true ∙ c.sight-seen.ensures.sight.hit (record { path = s.path; mode = None }) s.state at in
    (one (a_text c.in-Text.text.now), in_text r s c.args.node.now c.requires.node.nodes c.in-Text.text c.in-Text.marks c.in-Text.is true hits, refl)

pub first_in-returns-else-seen-clause-answer : goal.first_in-returns-else-seen-clause-answer
first_in-returns-else-seen-clause-answer t c = λ s at.
    let r = c.args.runner.now in
    let hits = sym c.if-seen.false ∙ c.sight-seen.ensures.sight.hit (record { path = s.path; mode = None }) s.state at in
    in_text r s c.args.node.now c.requires.node.nodes c.in-Text.text c.in-Text.marks c.in-Text.is false hits

pub first_in-returns-then-sight-clause-answer : goal.first_in-returns-then-sight-clause-answer
first_in-returns-then-sight-clause-answer t c = λ s at.
    let r = c.args.runner.now in
    let x = c.in-Elem in
    let hits = sym c.if-sight.true ∙ c.sight-sight.ensures.sight.hit (record { path = s.path; mode = None }) s.state at in (
      one (an_element (name x.field-0.now) (l.bare (trees x.kids.now))),
      in_element r s c.args.node.now c.requires.node.nodes x.field-0 x.letter x.kids x.is true hits,
      refl,
    )

pub first_in-returns-in-None-clause-answer : goal.first_in-returns-in-None-clause-answer
first_in-returns-in-None-clause-answer t c = λ s at.
    let r = c.args.runner.now in
    let x = c.in-Elem in
    let b : PathUse = record { path = s.path; mode = None } in
    let hits = sym c.if-sight.false ∙ c.sight-sight.ensures.sight.hit b s.state at in
    none_in_element r s c.args.node.now c.requires.node.nodes x.field-0 x.letter x.kids x.is hits
    (leads_none r c.args.look (letter (kinds.Elem x.letter.sym) x.letter.marks) c.sight-sight.result.below c.sight-sight.ensures.sight.below c.in-None.is b s.state at)

pub first_in-first_below-requires : goal.first_in-first_below-requires
first_in-first_below-requires t c =
    let r = c.args.runner.now in
    let x = c.in-Elem in
    let b : PathUse = record { path = c.requires.state.path; mode = None } in
    let e = element_at r c.args.node.now x.field-0 x.letter x.kids l.none c.requires.node.nodes x.is in (
      search (rules, the_lemmas),
      (
        record { runner = c.requires.node.runner; nodes = e.kids_are; known = c.sight-sight.ensures.known },
        (
          e.number_is,
          record {
            path = c.requires.state.path;
            state = select_below (symbols_by r) (told_by r) b c.requires.state.state (letter (kinds.Elem x.letter.sym) x.letter.marks);
            at =
                leads_some r c.args.look c.in-Some.below (letter (kinds.Elem x.letter.sym) x.letter.marks) c.sight-sight.result.below c.sight-sight.ensures.sight.below c.in-Some.is b c.requires.state.state
                c.requires.state.at;
          },
        ),
      ),
    )

pub first_in-returns-in-Some-clause-answer : goal.first_in-returns-in-Some-clause-answer
first_in-returns-in-Some-clause-answer t c = λ s at.
    let r = c.args.runner.now in
    let x = c.in-Elem in
    let b : PathUse = record { path = s.path; mode = None } in
    let hits = sym c.if-sight.false ∙ c.sight-sight.ensures.sight.hit b s.state at in
    let further : Looking = (looking r).look_step s (letter (kinds.Elem x.letter.sym) x.letter.marks) in
    answered_alike c.first_below.result (machine.first_hit (looking r) (l.bare (trees x.kids.now)) further) (machine.first_hit (looking r) (l.bare (before c.args.node.now l.none)) s)
    (in_element r s c.args.node.now c.requires.node.nodes x.field-0 x.letter x.kids x.is false hits)
    (c.first_below.ensures.answer further
    (leads_some r c.args.look c.in-Some.below (letter (kinds.Elem x.letter.sym) x.letter.marks) c.sight-sight.result.below c.sight-sight.ensures.sight.below c.in-Some.is b s.state at))

pub first_in-sight-seen-requires-clause-letter : goal.first_in-sight-seen-requires-clause-letter
first_in-sight-seen-requires-clause-letter t c = text_letter c.args.runner.now c.args.node.now c.requires.node.nodes c.in-Text.text c.in-Text.marks c.in-Text.is

pub first_in-sight-sight-requires-clause-letter : goal.first_in-sight-sight-requires-clause-letter
first_in-sight-sight-requires-clause-letter t c =
    let x = c.in-Elem in
    element_letter c.args.runner.now c.args.node.now c.requires.node.nodes x.field-0 x.letter x.kids x.is

pub first_hit-first_in-found-requires : goal.first_hit-first_in-found-requires
first_hit-first_in-found-requires t c =
    let r = c.args.runner.now in
    let ns = c.args.nodes.now in
    let i = c.loop-node.node-index in
    let x = c.node-item.result in (
      search (rules, the_lemmas),
      (record { runner = c.requires.nodes.runner; nodes = (apart_at r ns i x c.loop-node-test.true c.node-item.is c.loop-node.invariant.1).0; known = c.loop-node.invariant.0 }, c.requires.state),
    )

pub first_below-returns-then-not-found-clause-answer : goal.first_below-returns-then-not-found-clause-answer
first_below-returns-then-not-found-clause-answer t c = λ s at.
    let r = c.args.runner.now in
    let kids = l.bare (trees c.args.kids.now) in
    not_found (machine.first_hit (looking r) kids s)
    (sym c.if-not-found.true ∙ finding_told r c.in-Some.number c.args.look c.in-Some-remembered.found c.args.number kids (c.in-Some-remembered.ensures (guide r) (numbered_by r) c.requires.kids.known.findings) c.in-Some.is c.requires.number s at)

pub first_below-returns-clause-known : goal.first_below-returns-clause-known
first_below-returns-clause-known t c =
    let r = c.args.runner.now in
    let kids = l.bare (trees c.args.kids.now) in
    record {
      seen = c.first_hit-found.ensures.known.seen;
      findings =
          c.remember.ensures (guide r) (numbered_by r) c.first_hit-found.ensures.known.findings
          (finding_is r c.in-Some.number c.args.look c.is_some.result c.args.number kids c.in-Some.is c.requires.number
          (λ s at. answered_found c.first_hit-found.result (machine.first_hit (looking r) kids s) c.is_some.result c.is_some.ensures (c.first_hit-found.ensures.answer s at)));
    }
