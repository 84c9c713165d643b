use Rattle.std.proofs.Common.{◌≡◌, ◌<◌, ◌+◌, ◌*◌, length, get_or, true, sym, ap, ◌∙◌, subst}
use Rattle.tc_model.specs.Letters.{IsLetter}
use Rattle.tc_model.specs.PathStates.{State, is_empty_state}
use Rattle.tc_model.specs.StateCounts.{PathUse}
use Rattle.tc_rules.specs.Asked as asked
use Rattle.tc_rules.specs.Kept.{told}
use Rattle.tc_rules.specs.RulesView.{RulesView, IsStateOf, move_count}
use Rattle.tc_rules.specs.declared.rules.Kind.{Kind}
use Rattle.tc_rules.specs.declared.rules.Kind.TheVariants.{Elem}
use Rattle.tc_rows.specs.Triples.{predicates, moves}
use Rattle.tc_rows.specs.Arithmetic.{step}
use Rattle.tc_beh.specs.Above.{letter_of}
use Rattle.tc_beh.specs.Entries.{IsEntryAt}
use Rattle.tc_beh.specs.Held.{set_at}
use Rattle.tc_beh.specs.Places.{entries_by}
use Rattle.tc_beh.proofs.Hitting.{of_move, state_told, hit_told, step_told, lettered}
use Rattle.tc_beh.proofs.Led.{led_on, led_nowhere}
use Rattle.tc_beh.proofs.Looking.{moves_told}
use Rattle.tc_beh.proofs.Nowhere.{nothing_entry}
use Rattle.tc_beh.proofs.Passing.{if_some_map, next_inside, passed_entry}
use Rattle.tc_beh.proofs.entries.passed_on.Goals as goal

pub lead_at-lead-requires-clause-letter : goal.lead_at-lead-requires-clause-letter
lead_at-lead-requires-clause-letter c = let (x, rules, node) = c.requires.node in (x, rules, node.letter)

pub bounds-node-entry_place : goal.bounds-node-entry_place
bounds-node-entry_place c =
    let r = c.args.machine.now.rules in
    let n = c.args.node in
    let (x, rules, node) = c.requires.node in
    let l = asked.letter (Elem c.in-Elem.field-0) n.letter.marks in
    let lx = lettered x r rules l (subst (λ (k : Kind). IsLetter x.symbols (predicates x) (asked.letter k n.letter.marks)) c.in-Elem.is node.letter) in
    let count = moves_told x r rules c.moves.result (c.moves.ensures x.symbols rules.rules) in
    let place : c.entry_place.result ≡ c.args.spot.above * moves x + c.in-Some.next = c.entry_place.ensures ∙ ap (λ m. c.args.spot.above * m + c.in-Some.next) count in
    let inside = next_inside x r rules c.args.outputs.now n node c.in-Elem.field-0.0 (ap asked.kind c.in-Elem.is) c.args.spot.above c.args.spot.state c.in-Some.next l c.requires.above c.requires.state (λ b t st. led_on r n.letter c.args.spot.state c.lead_at-lead.result c.lead_at-lead.ensures c.in-Elem.field-0 c.in-Elem.is x.symbols b t rules.rules lx st c.in-Some.next c.in-Some.is) in
    subst (λ j. j < length n.entries.now) (sym place) inside

pub returns-in-Some-clause-low : goal.returns-in-Some-clause-low
returns-in-Some-clause-low c =
    let r = c.args.machine.now.rules in
    let n = c.args.node in
    let (x, rules, node) = c.requires.node in
    let l = asked.letter (Elem c.in-Elem.field-0) n.letter.marks in
    let lx = lettered x r rules l (subst (λ (k : Kind). IsLetter x.symbols (predicates x) (asked.letter k n.letter.marks)) c.in-Elem.is node.letter) in
    let count = moves_told x r rules c.moves.result (c.moves.ensures x.symbols rules.rules) in
    let place : c.entry_place.result ≡ c.args.spot.above * moves x + c.in-Some.next = c.entry_place.ensures ∙ ap (λ m. c.args.spot.above * m + c.in-Some.next) count in
    let inside = next_inside x r rules c.args.outputs.now n node c.in-Elem.field-0.0 (ap asked.kind c.in-Elem.is) c.args.spot.above c.args.spot.state c.in-Some.next l c.requires.above c.requires.state (λ b t st. led_on r n.letter c.args.spot.state c.lead_at-lead.result c.lead_at-lead.ensures c.in-Elem.field-0 c.in-Elem.is x.symbols b t rules.rules lx st c.in-Some.next c.in-Some.is) in
    node.outs c.entry_place.result 0 (subst (λ j. j < length n.entries.now) (sym place) inside)

pub returns-in-Some-clause-entry : goal.returns-in-Some-clause-entry
returns-in-Some-clause-entry c = λ x rules size node under.
    let r = c.args.machine.now.rules in
    let n = c.args.node in
    let held = c.args.outputs.now in
    let s = c.args.spot.state in
    let next = c.in-Some.next in
    let l = asked.letter (Elem c.in-Elem.field-0) n.letter.marks in
    let same : letter_of n.letter ≡ l = ap (λ (k : Kind). asked.letter k n.letter.marks) c.in-Elem.is in
    let lx = lettered x r rules l (subst (λ (k : Kind). IsLetter x.symbols (predicates x) (asked.letter k n.letter.marks)) c.in-Elem.is node.letter) in
    let count = moves_told x r rules c.moves.result (c.moves.ensures x.symbols rules.rules) in
    let place : c.entry_place.result ≡ c.args.spot.above * moves x + next = c.entry_place.ensures ∙ ap (λ m. c.args.spot.above * m + next) count in
    let inside = next_inside x r rules held n node c.in-Elem.field-0.0 (ap asked.kind c.in-Elem.is) c.args.spot.above s next l c.requires.above c.requires.state (λ b t st. led_on r n.letter c.args.spot.state c.lead_at-lead.result c.lead_at-lead.ensures c.in-Elem.field-0 c.in-Elem.is x.symbols b t rules.rules lx st c.in-Some.next c.in-Some.is) in
    let within : s < moves x = subst (λ (t : RulesView). s < move_count t) rules.told c.requires.state in
    subst (λ j. IsEntryAt x (entries_by held.matrices n.entries.now) n (c.args.spot.ancestor * moves x + s) (set_at held (get_or n.entries.now j 0))) (sym place)
    (passed_entry x rules.triple held c.len-held.ensures.matrices size n node.outs c.args.spot.ancestor c.args.spot.above s next under c.in-Elem.field-0.0 (ap asked.kind c.in-Elem.is)
    (λ g at.
    let b : PathUse = of_move g.path at.mode in
    sym (hit_told x r rules b g.state (letter_of n.letter)) ∙ (sym (c.lead_at-lead.ensures.hits x.symbols b g.state rules.rules (lettered x r rules (letter_of n.letter) node.letter) (state_told x r rules s b g.state at.state)) ∙ c.if-lead.false))
    (λ g at.
    let b : PathUse = of_move g.path at.mode in
    let there = led_on r n.letter s c.lead_at-lead.result c.lead_at-lead.ensures c.in-Elem.field-0 c.in-Elem.is x.symbols b g.state rules.rules lx (state_told x r rules s b g.state at.state) next c.in-Some.is in
    let stepped = subst (λ (u : State). IsStateOf (told r) next b u) (step_told x r rules b g.state l) there in
    subst (λ w. IsStateOf x.rules next b (step x g.path g.state w)) (sym same) (subst (λ (t : RulesView). IsStateOf t next b (step x g.path g.state l)) rules.told stepped)) inside within)

pub returns-in-None-clause-low : goal.returns-in-None-clause-low
returns-in-None-clause-low c = if_some_map c.args.spot.nothing _ (λ k. k < length c.args.outputs.now.matrices) (λ k h. h.low) c.requires.nothing

pub returns-in-None-clause-entry : goal.returns-in-None-clause-entry
returns-in-None-clause-entry c = if_some_map c.args.spot.nothing _ _ (λ k h x rules size node under.
    let r = c.args.machine.now.rules in
    let n = c.args.node in
    let held = c.args.outputs.now in
    let s = c.args.spot.state in
    let w = letter_of n.letter in
    let l = asked.letter (Elem c.in-Elem.field-0) n.letter.marks in
    let same : w ≡ l = ap (λ (i : Kind). asked.letter i n.letter.marks) c.in-Elem.is in
    let lx = lettered x r rules l (subst (λ (i : Kind). IsLetter x.symbols (predicates x) (asked.letter i n.letter.marks)) c.in-Elem.is node.letter) in
    nothing_entry x rules.triple (entries_by held.matrices n.entries.now) n c.args.spot.ancestor s (set_at held k) h.is (h.size ∙ size)
    (λ g at.
    let b : PathUse = of_move g.path at.mode in
    sym (hit_told x r rules b g.state w) ∙ (sym (c.lead_at-lead.ensures.hits x.symbols b g.state rules.rules (lettered x r rules w node.letter) (state_told x r rules s b g.state at.state)) ∙ c.if-lead.false))
    (λ a i g at.
    let b : PathUse = of_move g.path at.mode in
    let none = led_nowhere r n.letter s c.lead_at-lead.result c.lead_at-lead.ensures c.in-Elem.field-0 c.in-Elem.is x.symbols b g.state rules.rules lx (state_told x r rules s b g.state at.state) c.in-None.is in
    subst (λ v. is_empty_state (step x g.path g.state v) ≡ true) (sym same) (subst (λ (u : State). is_empty_state u ≡ true) (step_told x r rules b g.state l) none))
    (subst (λ (t : RulesView). s < move_count t) rules.told c.requires.state)) c.requires.nothing
