use Rattle.std.proofs.Common.{◌≡◌, ◌<◌, ◌+◌, ◌-◌, ℕ, ap, ◌∙◌, subst, get_or, inl, inr, arith}
use Rattle.std.proofs.lemmas.Bool.{cases_lt}
use Rattle.tc_rules.specs.Tasks.{IsLookAt}
use Rattle.tc_rows.specs.Triples.{moves, looks as looks_of}
use Rattle.tc_beh.proofs.Finding.{look_place}
use Rattle.tc_beh.proofs.Looking.{moves_told}
use Rattle.tc_beh.proofs.Sizes.{looks_are}
use Rattle.tc_beh.proofs.looks_above.put_looks.Goals as goal

pub loop-place-preserved : goal.loop-place-preserved
loop-place-preserved c =
    let r = c.args.rules.now in
    let old = c.args.out.now in
    let mid = c.loop-place.out.numbers.items in
    let new = c.set_look.new.self.numbers.items in
    let place = c.loop-place.place in
    let so_far = c.loop-place.invariant in
    let put = c.set_look.ensures in
    let value = c.look_above-value in
    let flags = so_far.beside.flags in
    let entries = so_far.beside.entries in
    let first : ℕ = 2 + old.flags + old.entries in
    let keeps : (i : ℕ) → i < place → get_or new (first + i) 0 ≡ get_or mid (first + i) 0 = λ i l. put.others (first + i) (λ e. absurd (omega (arith, e, l, flags, entries))) in
    let at_place : first + place ≡ 2 + c.loop-place.out.flags + c.loop-place.out.entries + place = omega (arith, flags, entries) in
    let here : get_or new (first + place) 0 ≡ value.result = ap (λ n. get_or new n 0) at_place ∙ put.look in
    record {
      beside = record { flags = put.beside.flags ∙ flags; entries = put.beside.entries ∙ entries; count = put.beside.count ∙ so_far.beside.count };
      others = λ k l. put.others k (λ e. absurd (omega (arith, e, l, flags, entries))) ∙ so_far.others k l;
      few = λ i l. elim (cases_lt i place) [
        | inl b ↦ let same = keeps i b in let low = so_far.few i b in omega (arith, same, low)
        | inr b ↦ let low = value.ensures.few in let same : first + i ≡ first + place = omega (arith, l, b) in let all : get_or new (first + i) 0 ≡ value.result = ap (λ n. get_or new n 0) same ∙ here in omega (arith, all, low)
      ];
      looks = λ x k s is l at low. elim (cases_lt (k - moves x) place) [
        | inl b ↦ keeps (k - moves x) b ∙ so_far.looks x k s is l at b
        | inr b ↦
            let same : first + (k - moves x) ≡ first + place = omega (arith, low, b) in
            let count : c.moves-first.result ≡ moves x = moves_told x r is c.moves-first.result (c.moves-first.ensures x.symbols is.rules) in
            let past = (look_place x r is k s at).0 in
            let number : k ≡ c.moves-first.result + place = omega (arith, low, b, count, past) in
            ap (λ n. get_or new n 0) same ∙ (here ∙ value.ensures.value x s is l (subst (λ n. IsLookAt x.rules n s) number at))
      ];
    }

pub returns-clause-looks : goal.returns-clause-looks
returns-clause-looks c = λ x k s is l at.
    let r = c.args.rules.now in
    let count : c.looks-place-end.result ≡ looks_of x = looks_are x r is c.looks-place-end.result (c.looks-place-end.ensures x.symbols is.rules) in
    let low = (look_place x r is k s at).1 in
    let ends = c.loop-place-test.false in
    c.loop-place.invariant.looks x k s is l at (omega (arith, low, count, ends))
