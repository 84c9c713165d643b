use Rattle.std.proofs.Common.{sym, ◌∙◌, length, refl}
use Rattle.std.specs.Prelude.{encode_utf8}
use Rattle.tc_model.specs.XmlTextBytes.{line_ends}
use Rattle.tc_model.specs.XmlTextReferences.{spaced}
use Rattle.tc_tags.specs.Values.{plain, reference}
use Rattle.tc_tags.proofs.ValueLaws.{cut_after_plain, no_piece, no_room_for_piece, run_at, lacks_reference}
use Rattle.tc_tags.proofs.values.push_piece.Goals as goal

pub split_at-requires : goal.split_at-requires
split_at-requires c = cut_after_plain c.args.quote c.plain_len_within-count.result c.args.text.now c.requires c.plain_len_within-count.ensures.count

pub returns-then-push_char-clause-piece : goal.returns-then-push_char-clause-piece
returns-then-push_char-clause-piece c = (encode_utf8 c.in-Ok.c, reference c.in-Ok.ensures.ok, c.if-push_char.ensures.bytes)

pub returns-else-push_char-clause-piece : goal.returns-else-push_char-clause-piece
returns-else-push_char-clause-piece c = λ piece rest a. no_room_for_piece c.args.names.now.most (length c.args.names.now.bytes.items) (reference c.in-Ok.ensures.ok) c.if-push_char.ensures.bytes piece rest a

pub returns-in-Err-clause-piece : goal.returns-in-Err-clause-piece
returns-in-Err-clause-piece c = λ piece rest a.
    let none = sym c.plain_len_within-count.ensures.count ∙ c.if-count-eq0.true in
    absurd (no_piece none (lacks_reference c.in-Err.field-0 c.args.text.now c.in-Err.ensures.no) piece rest a)

pub returns-then-push_spaced-clause-piece : goal.returns-then-push_spaced-clause-piece
returns-then-push_spaced-clause-piece c = (
  spaced (line_ends c.split_at.result.0.now),
  plain (run_at c.args.quote c.plain_len_within-count.result c.args.text.now c.split_at.result.0.now _ c.plain_len_within-count.ensures.count c.if-count-eq0.false c.split_at.ensures.front c.split_at.ensures.back),
  c.if-push_spaced.ensures.bytes,
)

pub returns-else-push_spaced-clause-piece : goal.returns-else-push_spaced-clause-piece
returns-else-push_spaced-clause-piece c = λ piece rest a.
    no_room_for_piece c.args.names.now.most (length c.args.names.now.bytes.items)
    (plain (run_at c.args.quote c.plain_len_within-count.result c.args.text.now c.split_at.result.0.now c.split_at.result.1.now c.plain_len_within-count.ensures.count c.if-count-eq0.false c.split_at.ensures.front c.split_at.ensures.back))
    c.if-push_spaced.ensures.bytes piece rest a

pub returns-then-push_char-clause-most : goal.returns-then-push_char-clause-most
returns-then-push_char-clause-most c = c.push_char.ensures.most

pub returns-else-push_char-clause-most : goal.returns-else-push_char-clause-most
returns-else-push_char-clause-most c = c.push_char.ensures.most

pub returns-in-Err-clause-most : goal.returns-in-Err-clause-most
returns-in-Err-clause-most c = refl

pub returns-then-push_spaced-clause-most : goal.returns-then-push_spaced-clause-most
returns-then-push_spaced-clause-most c = c.push_spaced.ensures.most

pub returns-else-push_spaced-clause-most : goal.returns-else-push_spaced-clause-most
returns-else-push_spaced-clause-most c = c.push_spaced.ensures.most
