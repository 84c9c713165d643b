use Rattle.std.proofs.Common.{◌∙◌, refl}
use Rattle.tc_tags.proofs.ValueLaws.{pushed_more, pushed_whole, pushed_full, piece_shorter, text_past_piece}
use Rattle.tc_tags.proofs.values.push_value.Goals as goal

pub loop-names-init : goal.loop-names-init
loop-names-init c = record { most = refl; so_far = λ value after v. (value, v, refl); text = c.utf8.text }

pub returns-in-Some-clause-bytes : goal.returns-in-Some-clause-bytes
returns-in-Some-clause-bytes c = λ value after v.
    pushed_whole c.args.quote c.args.text.now c.args.names.now.bytes.items c.loop-names.rest.now c.loop-names.names.bytes.items _ c.requires c.loop-names.invariant.so_far c.in-Some.ensures value after v

pub returns-in_default-push_piece-clause-bytes : goal.returns-in_default-push_piece-clause-bytes
returns-in_default-push_piece-clause-bytes c = λ value after v.
    pushed_full c.args.quote c.args.text.now c.args.names.now.bytes.items c.loop-names.rest.now c.loop-names.names.bytes.items c.args.names.now.most c.loop-names.names.most c.loop-names.invariant.so_far c.in_default.ensures
    c.loop-names.invariant.most c.in_default-push_piece.ensures.piece value after v

pub loop-names-smaller : goal.loop-names-smaller
loop-names-smaller c = let (piece, a, e) = c.in-Some-push_piece.ensures.piece in piece_shorter c.args.quote c.loop-names.rest.now piece c.in-Some-push_piece.after.now a

pub loop-names-preserved : goal.loop-names-preserved
loop-names-preserved c =
    let (piece, a, e) = c.in-Some-push_piece.ensures.piece in
    record {
      most = c.push_piece.ensures.most ∙ c.loop-names.invariant.most;
      so_far = pushed_more c.args.quote c.args.text.now c.args.names.now.bytes.items c.loop-names.rest.now c.loop-names.names.bytes.items c.in-Some-push_piece.after.now c.requires c.loop-names.invariant.so_far (piece, a, e);
      text = text_past_piece c.args.quote c.loop-names.rest.now piece c.in-Some-push_piece.after.now c.requires a c.loop-names.invariant.text;
    }
