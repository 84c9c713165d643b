use Rattle.std.proofs.Common.{refl}
use Rattle.tc_rnc.proofs.LexLaws.{lexed}
use Rattle.tc_rnc.proofs.lexing.tokens_of.Goals as goal

pub returns : goal.returns
returns c =
    lexed c.args.bytes.now c.characters-text.result.now c.after_byte_order_mark.result.now c.in_ok-list.rest.now c.line.result.now (_) (_) c.is_whole-whole.result
    c.characters-text.ensures c.after_byte_order_mark.ensures c.in_ok-list.ensures c.line.ensures refl c.unclosed_escape-escape.ensures c.is_whole-whole.ensures
