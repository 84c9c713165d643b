use Rattle.std.proofs.Common.{◌≡◌, ◌+◌, ◌++◌, ap, sym, ◌∙◌, subst, length, length-append, append-nil, arith, refl}
use Rattle.std.proofs.lemmas.Option.{none-some}
use Rattle.tc_stream.specs.Cuts.{cut_bytes}
use Rattle.tc_stream.specs.Faults.{IsFaultOfFront}
use Rattle.tc_stream.proofs.PieceLaws.{cut_is}
use Rattle.tc_stream.proofs.StreamEnds.{all_read, read_before}
use Rattle.tc_stream.proofs.stream.Stream.read_piece.Goals as goal

pub take-requires-clause-ready : goal.take-requires-clause-ready
take-requires-clause-ready c = c.args.self.now.ready c.requires.none

pub returns-in-Ok-clause-ok : goal.returns-in-Ok-clause-ok
returns-in-Ok-clause-ok c = λ x text s.
    let old = c.args.self.now in
    let at : length s.chars + length (cut_bytes old.cut) ≡ old.fed = omega (arith, read_before old s, ap length c.requires.all_read) in
    let p = c.in-Ok.ensures.ok x s.chars at s.reads in
    record {
      start = s.start;
      no_fault = c.requires.none;
      fed = omega (arith, s.fed, length-append text c.args.piece.now);
      chars = p.chars;
      reads = p.reads;
      parts_are = ap (λ z. z ++ c.args.piece.now) (all_read old s c.requires.all_read) ∙ (p.parts ∙ sym (ap (λ z. (p.chars ++ cut_bytes c.take.new.cut) ++ z) c.requires.all_read ∙ append-nil _));
      cut_off = cut_is (cut_bytes c.take.new.cut) c.in-Ok.ensures.short;
    }

pub returns-in-Err-clause-fault : goal.returns-in-Err-clause-fault
returns-in-Err-clause-fault c = λ x text s.
    let old = c.args.self.now in
    let at : length s.chars + length (cut_bytes old.cut) ≡ old.fed = omega (arith, read_before old s, ap length c.requires.all_read) in
    subst (λ z. IsFaultOfFront (z ++ c.args.piece.now) c.in-Err.fault) (sym (all_read old s c.requires.all_read)) (c.in-Err.ensures.fault x s.chars at s.reads)

pub invariant_of-self-in-Err : goal.invariant_of-self-in-Err
invariant_of-self-in-Err c = record {
  fed_within = c.args.self.now.fed_within;
  held_within = grind (arith, c.in-Err.ensures.kept, ap length c.requires.all_read, c.args.self.now.held_within);
  cut_short = c.in-Err.ensures.short;
  ready = λ e. absurd (none-some c.in-Err.fault (sym e));
}

pub returns-in-Err-clause-kept : goal.returns-in-Err-clause-kept
returns-in-Err-clause-kept c = refl

pub returns-in-Ok-clause-fault : goal.returns-in-Ok-clause-fault
returns-in-Ok-clause-fault c = λ x text s. tt

pub returns-in-Ok-clause-kept : goal.returns-in-Ok-clause-kept
returns-in-Ok-clause-kept c = tt

pub returns-in-Err-clause-ok : goal.returns-in-Err-clause-ok
returns-in-Err-clause-ok c = λ x text s. tt
