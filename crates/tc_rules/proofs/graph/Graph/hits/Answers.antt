use Rattle.std.proofs.Common.{List, ℕ, ◌≡◌, ◌∙◌, ◌≤◌, ap, sym, length, None, Some, arith}
use Rattle.std.specs.List.{list_any}
use Rattle.tc_rules.specs.Rows.{state}
use Rattle.tc_rules.specs.Steps.{both_states, ends_at}
use Rattle.tc_rules.proofs.HitRows.{none_ends, hits_kept}
use Rattle.tc_rules.proofs.Pieces.{unmapped_at}
use Rattle.tc_rules.proofs.RowPairs.{letter_parts, fit_is, none_some, state_is}
use Rattle.tc_rules.proofs.graph.Graph.hits.Goals as goal

pub returns-then-is_empty : goal.returns-then-is_empty
returns-then-is_empty c =
    let none : length c.ending_at-ending.result.now ≤ 0 = grind (arith, c.is_empty.ensures, c.if-is_empty.true) in λ known x fit e h.
    none_ends (ends_at x fit) c.ending_at-ending.result.now none ∙ (ap (list_any (ends_at x fit)) c.ending_at-ending.ensures ∙ hits_kept c.args.self.now c.args.number x fit known e)

pub returns-in_default : goal.returns-in_default
returns-in_default c = λ _ x fit e h.
    let row = unmapped_at (state c.args.self.now.letters.ends.items) c.args.self.now.states.keys c.args.number x e in
    absurd (none_some _ (c.in_default.ensures.key ∙ row.1))

pub returns-in_default-kind : goal.returns-in_default-kind
returns-in_default-kind c = λ _ x fit e h.
    let p = letter_parts c.args.self.now c.args.symbol c.args.marks fit None c.in_default-kind.ensures.element c.in_default-kind.ensures.text h in
    absurd (none_some _ p.2)

pub returns-in_default-marked : goal.returns-in_default-marked
returns-in_default-marked c = λ _ x fit e h.
    let p = letter_parts c.args.self.now c.args.symbol c.args.marks fit (Some c.in-Some-kind.kind) c.in-Some-kind.ensures.element c.in-Some-kind.ensures.text h in
    absurd (none_some _ (c.in_default-marked.ensures ∙ p.3))

pub returns : goal.returns
returns c = λ known x fit e h.
    let row = c.in-Some.row.now in
    let ending = c.ending_at-ending.result.now in
    let both = both_states (state c.args.self.now.letters.ends.items c.in-Some-kind.kind.now) (state c.args.self.now.letters.ends.items c.in-Some-marked.marked.now) in
    let at : state c.args.self.now.letters.ends.items row ≡ x = state_is c.args.self.now.letters.ends.items c.args.self.now.states.keys c.args.number row x (sym c.in-Some.ensures.key) e in
    let fits : both ≡ fit =
    fit_is c.args.self.now c.args.symbol c.args.marks fit c.in-Some-kind.kind c.in-Some-marked.marked c.in-Some-kind.ensures.element c.in-Some-kind.ensures.text c.in-Some-marked.ensures h in
    c.hits_by.ensures
    ∙ (ap (λ (es : List ℕ). list_any (ends_at (state es c.in-Some.row.now) (both_states (state es c.in-Some-kind.kind.now) (state es c.in-Some-marked.marked.now))) ending) c.deref.ensures.value
    ∙ (ap (λ w. list_any (ends_at w both) ending) at
    ∙ (ap (λ w. list_any (ends_at x w) ending) fits ∙ (ap (list_any (ends_at x fit)) c.ending_at-ending.ensures ∙ hits_kept c.args.self.now c.args.number x fit known e))))
