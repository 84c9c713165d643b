use Rattle.std.proofs.Common.{◌≡◌, ◌<◌, ◌+◌, ◌*◌, ◌∙◌, ℕ, Option, IfSome, ap, subst, sym}
use Rattle.tc_rules.specs.Kept.{told}
use Rattle.tc_rules.specs.RulesView.{move_count}
use Rattle.tc_beh.specs.Rooms.{output_at}
use Rattle.tc_beh.proofs.Before.{before_within}
use Rattle.tc_beh.proofs.entries.as_before.Goals as goal

pub output-requires : goal.output-requires
output-requires c =
    let (x, rules, letter) = c.requires.node in
    let m = move_count (told c.args.machine.now.rules) in
    let q = c.in-Some.before in
    let many : c.moves.result ≡ m = c.moves.ensures x.symbols rules.rules in
    let low : q < c.args.spot.ancestor = subst (λ (o : Option ℕ). IfSome o (λ a. a < c.args.spot.ancestor)) c.in-Some.is c.requires.before in
    let place : c.entry_place.result ≡ q * m + c.args.spot.state = c.entry_place.ensures ∙ ap (λ n. q * n + c.args.spot.state) many in
    subst (λ n. n < c.args.out.now.entries) (sym place) (before_within q c.args.spot.ancestor c.args.spot.state m c.args.out.now.entries low c.requires.state c.requires.room)

pub returns-clause-entry : goal.returns-clause-entry
returns-clause-entry c =
    let (x, rules, letter) = c.requires.node in
    let m = move_count (told c.args.machine.now.rules) in
    let q = c.in-Some.before in
    let many : c.moves.result ≡ m = c.moves.ensures x.symbols rules.rules in
    let place : c.entry_place.result ≡ q * m + c.args.spot.state = c.entry_place.ensures ∙ ap (λ n. q * n + c.args.spot.state) many in
    (q, c.in-Some.is, c.output.ensures ∙ ap (λ n. output_at c.args.out.now.flags c.args.out.now.numbers.items n) place, λ y g is lx known at. c.are_alike_at.ensures.alike c.if-not-are_alike_at.false y g is lx known at)
