use Rattle.std.proofs.Common.{◌≡◌, sym, subst}
use Rattle.std.specs.List.{flat_map}
use Rattle.tc_print.specs.Pieces.{escaped}
use Rattle.tc_print.specs.declared.escapes.Within.{Within}
use Rattle.tc_print.proofs.Plain.{nothing_found, plain_text, plain_value}
use Rattle.tc_print.proofs.escapes.is_plain.Goals as goal

pub returns-then-is_none : goal.returns-then-is_none
returns-then-is_none c = λ none.
    let bytes = c.args.bytes.now in
    subst (λ (w : Within). flat_map (escaped w) bytes ≡ bytes) (sym c.in-Text.is)
    (plain_text bytes c.memchr3.result c.memchr2.result c.memchr3.ensures (nothing_found c.memchr3.result c.is_none.result c.is_none.ensures c.if-is_none.true)
    c.memchr2.ensures (nothing_found c.memchr2.result c.is_none-then-is_none.result c.is_none-then-is_none.ensures none))

pub returns-then-is_none-2 : goal.returns-then-is_none-2
returns-then-is_none-2 c = λ none.
    let bytes = c.args.bytes.now in
    subst (λ (w : Within). flat_map (escaped w) bytes ≡ bytes) (sym c.in-Value.is)
    (plain_value bytes c.memchr3-in-Value.result c.memchr3-then-is_none-2.result c.memchr3-in-Value.ensures
    (nothing_found c.memchr3-in-Value.result c.is_none-in-Value.result c.is_none-in-Value.ensures c.if-is_none-2.true)
    c.memchr3-then-is_none-2.ensures
    (nothing_found c.memchr3-then-is_none-2.result c.is_none-then-is_none-2.result c.is_none-then-is_none-2.ensures none))
