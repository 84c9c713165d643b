use Rattle.std.proofs.Common.{◌≡◌, ◌++◌, ◌∙◌, sym, refl, List, [], ℕ, IsTrue}
use Rattle.std.specs.Prelude.{encode_utf8}
use Rattle.tc_model.specs.Names.{is_ncname_char}
use Rattle.tc_scan.proofs.FrontLaws.{same_range}
use Rattle.tc_scan.proofs.NamesLaws.{at_none, none_at_end, none_at, cut_name, one_more, named, ended_by, ended_by_end, goes_further, shortens}
use Rattle.tc_scan.proofs.names.any_name.Goals as goal
use Rattle.tc_scan.proofs.names.any_name.Goals.{in-Some+then-not-is_ncname_char, in_default}

pub returns-in_err-first : goal.returns-in_err-first
returns-in_err-first c = at_none _ c.from_residual.ensures (none_at_end c.args.text.now c.in_err-first.ensures)

pub returns-then-not-is_ncname_start : goal.returns-then-not-is_ncname_start
returns-then-not-is_ncname_start c = none_at c.args.text.now c.in_ok-first.after.now c.in_ok-first.first c.in_ok-first.ensures.1 (sym c.if-not-is_ncname_start.ensures)

pub loop-next-init : goal.loop-next-init
loop-next-init c = record { name = ([], refl, refl); text = c.after_ascii-rest.utf8 }

pub loop-next-smaller : goal.loop-next-smaller
loop-next-smaller c =
    shortens c.loop-next.rest.now c.in-Some.after.now c.after_ascii-rest-in-Some.result.now c.in-Some.next c.in-Some.ensures.1 c.after_ascii-rest-in-Some.ensures

pub loop-next-preserved : goal.loop-next-preserved
loop-next-preserved c = record {
  name = goes_further c.after_ascii-rest.result.now c.in-Some.after.now c.after_ascii-rest-in-Some.result.now
      (one_more c.after_ascii-rest.result.now c.loop-next.rest.now c.in-Some.after.now c.in-Some.next c.loop-next.invariant.name c.in-Some.ensures.1 (sym c.if-not-is_ncname_char.ensures))
      c.after_ascii-rest-in-Some.ensures;
  text = c.after_ascii-rest-in-Some.utf8;
}

pub range-requires-clause-end_boundary : goal.range-requires-clause-end_boundary
range-requires-clause-end_boundary c =
    cut_name c.args.text.now c.in_ok-first.after.now c.loop-next.rest.now c.in_ok-first.first c.in_ok-first.ensures.1
    (goes_further c.in_ok-first.after.now c.after_ascii-rest.result.now c.loop-next.rest.now c.after_ascii-rest.ensures c.loop-next.invariant.name) c.loop-next.invariant.text

pub fact_in-rest : goal.fact_in-rest
fact_in-rest c = c.loop-next.invariant.text

pub returns : goal.returns
returns c =
    let (cs, e, k) = goes_further c.in_ok-first.after.now c.after_ascii-rest.result.now c.loop-next.rest.now c.after_ascii-rest.ensures c.loop-next.invariant.name in
    let stop : (d : ℕ) (r : List ℕ) → c.loop-next.rest.now ≡ encode_utf8 d ++ r → IsTrue (is_ncname_char d) → ⊥ =
    elim c.match-first_char.branch [
      | in-Some+then-not-is_ncname_char w ↦ ended_by c.loop-next.rest.now w.in-Some.after.now w.in-Some.next w.in-Some.ensures.1 (sym w.if-not-is_ncname_char.ensures)
      | in_default w ↦ ended_by_end c.loop-next.rest.now w.in_default.ensures
    ] in
    named c.args.text.now c.in_ok-first.after.now c.loop-next.rest.now c.range.result.now c.in_ok-first.first cs _ c.in_ok-first.ensures.1 (sym c.if-not-is_ncname_start.ensures) e k stop refl
    (c.range.ensures.value ∙ same_range _ c.args.text.now)
