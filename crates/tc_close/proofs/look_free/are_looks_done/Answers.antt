use Rattle.std.proofs.Common.{◌≡◌, ◌+◌, ◌-◌, ◌∙◌, sym, subst, inl, inr, arith}
use Rattle.std.proofs.lemmas.Bool.{cases_lt}
use Rattle.tc_rules.specs.Tasks.{IsLookAt}
use Rattle.tc_rows.specs.Triples.{moves, looks as looks_of}
use Rattle.tc_beh.proofs.Finding.{of_look, look_told, letter_told, none_below, look_place}
use Rattle.tc_beh.proofs.Looking.{moves_told}
use Rattle.tc_beh.proofs.Sizes.{looks_are}
use Rattle.tc_close.specs.LookFree.{plain_letter}
use Rattle.tc_close.proofs.LookFree.{none_of}
use Rattle.tc_close.proofs.look_free.are_looks_done.Goals as goal

pub loop-place-preserved : goal.loop-place-preserved
loop-place-preserved c = λ x k s vs is l at within.
    let r = c.args.rules.now in
    let place = c.loop-place.place in
    elim (cases_lt (k - moves x) place) [
      | inl b ↦ c.loop-place.invariant x k s vs is l at b
      | inr b ↦
          let here = plain_letter c.args.symbol in
          let count : c.moves-first.result ≡ moves x = moves_told x r is c.moves-first.result (c.moves-first.ensures x.symbols is.rules) in
          let past = (look_place x r is k s at).0 in
          let number : k ≡ c.moves-first.result + place = omega (arith, within, b, count, past) in
          sym (none_below x r is vs s here (none_of _ _ c.sel_step.result (sym c.is_some.ensures ∙ c.if-is_some.false)
          (c.sel_step.ensures x.symbols (of_look s.path) s.state is.rules (letter_told x r is here l) (look_told x r is (c.moves-first.result + place) s (subst (λ n. IsLookAt x.rules n s) number at)))))
    ]

pub returns : goal.returns
returns c = λ done x k s vs is l at.
    let r = c.args.rules.now in
    let count : c.looks-place-end.result ≡ looks_of x = looks_are x r is c.looks-place-end.result (c.looks-place-end.ensures x.symbols is.rules) in
    let low = (look_place x r is k s at).1 in
    let ends = c.loop-place-test.false in
    c.loop-place.invariant x k s vs is l at (omega (arith, low, count, ends))
