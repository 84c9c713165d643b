use Rattle.std.proofs.Common.{◌++◌, ◌∙◌, [], subst, rules}
use Rattle.std.proofs.lemmas.Result.{IfErr-weaker, IfOk-weaker}
use Rattle.std.specs.Slice.Iter.{chunks_rest}
use Rattle.tc_read.proofs.Exits.{err_is}
use Rattle.tc_stream.specs.Streams.{StandsFor}
use Rattle.tc_decide.proofs.InPieces.{piece_fits, piece_fed, piece_read, all_read, whole_fault}
use Rattle.tc_decide.proofs.pieces.feed_all.Goals as goal

pub loop-piece-init : goal.loop-piece-init
loop-piece-init c = record { size = search rules; read = ([], search rules, search rules, λ x begins. begins) }

pub feed-requires : goal.feed-requires
feed-requires c =
    let (done, parts, fed, stands) = c.loop-piece.invariant.read in
    piece_fits done c.in-Some.piece.now (chunks_rest c.next.new.self) _ c.args.text.now _ c.in-Some.ensures.steps.1.0 parts fed c.requires.short

pub loop-piece-preserved : goal.loop-piece-preserved
loop-piece-preserved c =
    let (done, parts, fed, stands) = c.loop-piece.invariant.read in
    let piece = c.in-Some.piece.now in
    record {
      size = c.in-Some.ensures.steps.0 ∙ c.loop-piece.invariant.size;
      read = (
        done ++ piece,
        piece_read done piece (chunks_rest c.next.new.self) _ c.args.text.now c.in-Some.ensures.steps.1.0 parts,
        piece_fed done piece _ _ fed c.in_ok-feed.ensures.fed_ok,
        λ x begins. c.in_ok-feed.ensures.ok x done (stands x begins),
      );
    }

pub returns-in_err-feed-clause-fault : goal.returns-in_err-feed-clause-fault
returns-in_err-feed-clause-fault c =
    let (done, parts, fed, stands) = c.loop-piece.invariant.read in
    let piece = c.in-Some.piece.now in
    let whole = piece_read done piece (chunks_rest c.next.new.self) _ c.args.text.now c.in-Some.ensures.steps.1.0 parts in
    err_is c.from_residual.result _ _ c.from_residual.ensures.1 (λ x begins. whole_fault (done ++ piece) _ c.args.text.now _ whole (c.in_err-feed.ensures.fault x done (stands x begins)))

pub returns-clause-ok : goal.returns-clause-ok
returns-clause-ok c =
    let (done, parts, fed, stands) = c.loop-piece.invariant.read in
    let whole = all_read done _ c.args.text.now c.in-None.ensures.steps.1.0 parts in
    IfOk-weaker c.finish.result _ _ (λ b told x begins. told x c.args.text.now (subst (StandsFor x c.loop-piece.stream) whole (stands x begins))) c.finish.ensures.ok

pub returns-clause-fault : goal.returns-clause-fault
returns-clause-fault c =
    let (done, parts, fed, stands) = c.loop-piece.invariant.read in
    let whole = all_read done _ c.args.text.now c.in-None.ensures.steps.1.0 parts in
    IfErr-weaker c.finish.result _ _ (λ e told x begins. told x c.args.text.now (subst (StandsFor x c.loop-piece.stream) whole (stands x begins))) c.finish.ensures.fault
