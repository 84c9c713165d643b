use Rattle.std.proofs.Common.{◌≡◌, ◌++◌, ap, sym, ◌∙◌, length-append, append_assoc, arith}
use Rattle.tc_stream.specs.Cuts.{cut_bytes}
use Rattle.tc_stream.proofs.stream.Stream.hold.Goals as goal

pub returns-clause-held : goal.returns-clause-held
returns-clause-held c = λ x text s.
    let old = c.args.self.now in
    record {
      start = s.start;
      no_fault = c.requires.none;
      fed = omega (arith, s.fed, length-append text c.args.piece.now);
      chars = s.chars;
      reads = s.reads;
      parts_are = ap (λ z. z ++ c.args.piece.now) s.parts_are ∙ (append_assoc (s.chars ++ cut_bytes old.cut) old.held.bytes.items c.args.piece.now ∙ ap (λ z. (s.chars ++ cut_bytes old.cut) ++ z) (sym c.if-not-push_all.ensures.bytes));
      cut_off = s.cut_off;
    }
