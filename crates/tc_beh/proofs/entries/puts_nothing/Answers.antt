use Rattle.std.proofs.Common.{◌≡◌, ◌<◌, true, sym, ap, ◌∙◌, subst}
use Rattle.tc_model.specs.Letters.{IsLetter, of_symbol, of_text}
use Rattle.tc_model.specs.PathStates.{State, is_empty_state}
use Rattle.tc_model.specs.StateCounts.{PathUse}
use Rattle.tc_rules.specs.Asked as asked
use Rattle.tc_rules.specs.RulesView.{RulesView, move_count}
use Rattle.tc_rules.specs.declared.rules.Kind.{Kind}
use Rattle.tc_rules.specs.declared.rules.Kind.TheVariants.{Elem}
use Rattle.tc_rows.specs.Triples.{predicates}
use Rattle.tc_rows.specs.Arithmetic.{step}
use Rattle.tc_beh.specs.Above.{letter_of}
use Rattle.tc_beh.proofs.Hitting.{of_move, state_told, hit_told, step_told, lettered}
use Rattle.tc_beh.proofs.Led.{led_nowhere}
use Rattle.tc_beh.proofs.Nowhere.{nothing_entry}
use Rattle.tc_beh.proofs.entries.puts_nothing.Goals as goal

pub returns-in-None : goal.returns-in-None
returns-in-None c = λ e x es m rules lx identity size.
    let r = c.args.machine.now.rules in
    let n = c.args.node in
    let s = c.args.spot.state in
    let w = letter_of n.letter in
    let l = asked.letter (Elem c.in-Elem.field-0) n.letter.marks in
    let same : w ≡ l = ap (λ (k : Kind). asked.letter k n.letter.marks) c.in-Elem.is in
    let here = lettered x r rules l (subst (IsLetter x.symbols (predicates x)) same lx) in
    nothing_entry x rules.triple es n c.args.spot.ancestor s m identity size
    (λ g at.
    let b : PathUse = of_move g.path at.mode in
    sym (hit_told x r rules b g.state w) ∙ (sym (c.lead_at-lead.ensures.hits x.symbols b g.state rules.rules (lettered x r rules w lx) (state_told x r rules s b g.state at.state)) ∙ c.if-lead.false))
    (λ a k g at.
    let b : PathUse = of_move g.path at.mode in
    let none = led_nowhere r n.letter s c.lead_at-lead.result c.lead_at-lead.ensures c.in-Elem.field-0 c.in-Elem.is x.symbols b g.state rules.rules here (state_told x r rules s b g.state at.state) c.in-None.is in
    subst (λ v. is_empty_state (step x g.path g.state v) ≡ true) (sym same) (subst (λ (u : State). is_empty_state u ≡ true) (step_told x r rules b g.state l) none))
    (subst (λ (t : RulesView). s < move_count t) rules.told c.requires.state)

pub returns-in-Text : goal.returns-in-Text
returns-in-Text c = λ e x es m rules lx identity size.
    let r = c.args.machine.now.rules in
    let n = c.args.node in
    let s = c.args.spot.state in
    let w = letter_of n.letter in
    nothing_entry x rules.triple es n c.args.spot.ancestor s m identity size
    (λ g at.
    let b : PathUse = of_move g.path at.mode in
    sym (hit_told x r rules b g.state w) ∙ (sym (c.lead_at-lead.ensures.hits x.symbols b g.state rules.rules (lettered x r rules w lx) (state_told x r rules s b g.state at.state)) ∙ c.if-lead.false))
    (λ a k g at. absurd (let f : of_text ≡ of_symbol a = sym (ap asked.kind c.in-Text.is) ∙ k in cc))
    (subst (λ (t : RulesView). s < move_count t) rules.told c.requires.state)
