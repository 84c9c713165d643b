use Rattle.std.proofs.Common.{◌≡◌, Bool, rules, sym, arith, vec_len}
use Rattle.std.proofs.lemmas.Bool.{eqb-true}
use Rattle.std.proofs.lemmas.List.{nil_from_length}
use Rattle.tc_tags.proofs.FailedLaws.{failed_some}
use Rattle.tc_xml.proofs.TakingLaws.{still_stands, has_finished}
use Rattle.tc_xml.proofs.taking.past_elements.Goals as goal

pub elements-init : goal.elements-init
elements-init g c = record { stands = λ deepest root begun s. s; text = search rules }

pub elements-preserved : goal.elements-preserved
elements-preserved g c = record {
  stands = λ deepest root begun s. c.in_ok-rest.ensures.steps deepest root begun (still_stands (c.elements.invariant.stands deepest root begun s) (search rules));
  text = search rules;
}

pub returns : goal.returns
returns g c = λ deepest root begun s.
    let opens = c.elements.levels.open in
    let empty : vec_len opens ≡ 0 = eqb-true (vec_len opens) 0 (sym {A = Bool} c.elements-test.ensures) in
    has_finished (c.elements.invariant.stands deepest root begun (c.in_ok-inside.ensures.steps deepest root begun s)) (nil_from_length opens.items (omega (arith, empty, opens.ok.0)))

pub returns-in_err-inside : goal.returns-in_err-inside
returns-in_err-inside g c = failed_some _ _ c.from_residual.ensures

pub returns-in_err-rest : goal.returns-in_err-rest
returns-in_err-rest g c = failed_some _ _ c.from_residual-in_err-rest.ensures
