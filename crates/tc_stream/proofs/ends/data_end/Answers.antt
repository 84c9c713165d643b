use Rattle.std.proofs.Common.{◌≡◌, ◌-◌, ◌∙◌, refl, ap, sym, subst, arith, Some, length, take, drop, length-drop}
use Rattle.std.proofs.lemmas.List.{take_all}
use Rattle.tc_stream.specs.Ends.{TellsData}
use Rattle.tc_stream.specs.Scans.{cdata_scan}
use Rattle.tc_stream.proofs.EndLaws.{scan_from_bracket, scan_without_bracket}
use Rattle.tc_stream.proofs.ends.data_end.Goals as goal

pub returns-in-Some : goal.returns-in-Some
returns-in-Some c =
    let none : c.args.brackets ≡ 0 = omega (arith, c.if-brackets-gt0.false) in
    let run = c.args.run.now in
    let n = c.in-Some.at in
    let all : take (length run - n) (drop n run) ≡ drop n run = take_all (length run - n) (drop n run) (omega (arith, length-drop n run)) in
    subst (TellsData c.data_end_by_bytes-in-Some.result) (ap (cdata_scan 0) all ∙ (scan_from_bracket run c.memchr.result n c.memchr.ensures c.in-Some.is ∙ ap (λ b. cdata_scan b run) (sym none))) c.data_end_by_bytes-in-Some.ensures

pub returns-in-None : goal.returns-in-None
returns-in-None c =
    let none : c.args.brackets ≡ 0 = omega (arith, c.if-brackets-gt0.false) in
    let run = c.args.run.now in
    subst (TellsData (Some 0)) (sym (scan_without_bracket run c.memchr.result c.memchr.ensures c.in-None.is) ∙ ap (λ b. cdata_scan b run) (sym none)) refl
