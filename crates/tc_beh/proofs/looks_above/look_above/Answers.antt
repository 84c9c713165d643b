use Rattle.std.proofs.Common.{◌≡◌, ◌∙◌, sym, subst, refl}
use Rattle.tc_model.specs.Letters.{IsLetter}
use Rattle.tc_rules.specs.Asked.{letter}
use Rattle.tc_rules.specs.declared.rules.Kind.{Kind}
use Rattle.tc_rows.specs.Triples.{predicates}
use Rattle.tc_beh.specs.LooksAbove.{found_below}
use Rattle.tc_beh.proofs.Finding.{of_look, look_told, letter_told, hits_told, one_more, one_more_few, is_found, isnt_found}
use Rattle.tc_beh.proofs.looks_above.look_above.Goals as goal

pub returns-then-sel_hits-clause-value : goal.returns-then-sel_hits-clause-value
returns-then-sel_hits-clause-value c = λ x s is l at.
    let r = c.args.rules.now in
    let here = letter c.args.kind c.args.marks in
    let hit = hits_told x r is s here c.sel_hits.result (c.sel_hits.ensures x.symbols (of_look s.path) s.state is.rules (letter_told x r is here l) (look_told x r is c.args.state s at)) in
    is_found x r is c.args.looks.now c.args.bears s here _ (sym hit ∙ c.if-sel_hits.true) (one_more c.args.bears c.from.result c.from.ensures)

pub returns-then-sel_hits-clause-few : goal.returns-then-sel_hits-clause-few
returns-then-sel_hits-clause-few c = one_more_few c.args.bears c.from.result c.from.ensures

pub returns-in-Elem-clause-value : goal.returns-in-Elem-clause-value
returns-in-Elem-clause-value c = λ x s is l at.
    let r = c.args.rules.now in
    let vs = c.args.looks.now in
    let here = letter c.args.kind c.args.marks in
    let hit = hits_told x r is s here c.sel_hits.result (c.sel_hits.ensures x.symbols (of_look s.path) s.state is.rules (letter_told x r is here l) (look_told x r is c.args.state s at)) in
    let given = subst (λ (k : Kind). IsLetter x.symbols (predicates x) (letter k c.args.marks)) c.in-Elem.is l in
    isnt_found x r is vs c.args.bears s here c.look_below.result (sym hit ∙ c.if-sel_hits.false)
    (subst (λ (k : Kind). c.look_below.result ≡ found_below x vs (letter k c.args.marks) s (letter k c.args.marks).kind) (sym c.in-Elem.is) (c.look_below.ensures.value x s is given at))

pub returns-in-Text-clause-value : goal.returns-in-Text-clause-value
returns-in-Text-clause-value c = λ x s is l at.
    let r = c.args.rules.now in
    let vs = c.args.looks.now in
    let here = letter c.args.kind c.args.marks in
    let hit = hits_told x r is s here c.sel_hits.result (c.sel_hits.ensures x.symbols (of_look s.path) s.state is.rules (letter_told x r is here l) (look_told x r is c.args.state s at)) in
    isnt_found x r is vs c.args.bears s here 0 (sym hit ∙ c.if-sel_hits.false)
    (subst (λ (k : Kind). 0 ≡ found_below x vs (letter k c.args.marks) s (letter k c.args.marks).kind) (sym c.in-Text.is) refl)
