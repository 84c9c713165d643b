use Rattle.std.proofs.Common.{true, refl, sym, ap, arith, ◌∙◌, ◌++◌, ◌-◌, length, drop, take_all, length-drop}
use Rattle.tc_scan.proofs.FrontLaws.{begun, same_start}
use Rattle.tc_stream.proofs.whole_tags.after_bytes.Goals as goal

pub returns-then-starts_with : goal.returns-then-starts_with
returns-then-starts_with c =
    let bytes = c.args.bytes.now in
    let front = c.args.front.now in
    begun front bytes (same_start true _ _ bytes front refl refl c.if-starts_with.ensures.value)
    ∙ ap (λ w. front ++ w) (sym (take_all (length bytes - length front) (drop (length front) bytes) (omega (arith, length-drop (length front) bytes))))
