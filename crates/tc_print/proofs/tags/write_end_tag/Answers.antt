use Rattle.std.proofs.Common.{List, ℕ, ◌++◌, codes, sym, ap, subst}
use Rattle.tc_io.specs.Sink.{Appended, WroteFront}
use Rattle.tc_io.proofs.Fronts.{on_err_map, on_ok_map}
use Rattle.tc_print.proofs.tags.write_end_tag.Goals as goal

pub write_short_end_tag-requires : goal.write_short_end_tag-requires
write_short_end_tag-requires g c = c.is_short.ensures.short c.if-is_short.true

pub returns-then-is_short-clause-ok : goal.returns-then-is_short-clause-ok
returns-then-is_short-clause-ok g c =
    let is = ap (λ (w : List ℕ). codes "</" ++ w ++ codes ">") (sym (c.is_short.ensures.local c.if-is_short.true)) in
    on_ok_map c.write_short_end_tag.result (λ h. subst (Appended _ _) is h) c.write_short_end_tag.ensures.ok

pub returns-then-is_short-clause-fault : goal.returns-then-is_short-clause-fault
returns-then-is_short-clause-fault g c =
    let is = ap (λ (w : List ℕ). codes "</" ++ w ++ codes ">") (sym (c.is_short.ensures.local c.if-is_short.true)) in
    on_err_map c.write_short_end_tag.result (λ h. subst (WroteFront _ _) is h) c.write_short_end_tag.ensures.fault
