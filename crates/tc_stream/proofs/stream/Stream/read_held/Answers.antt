use Rattle.std.proofs.Common.{◌≡◌, ◌+◌, ◌-◌, ◌++◌, ap, sym, ◌∙◌, subst, length, append-nil, arith, refl}
use Rattle.std.proofs.lemmas.Option.{none-some}
use Rattle.tc_stream.specs.Cuts.{cut_bytes}
use Rattle.tc_stream.specs.Faults.{IsFaultOfFront}
use Rattle.tc_stream.proofs.PieceLaws.{cut_is}
use Rattle.tc_stream.proofs.StreamEnds.{read_before}
use Rattle.tc_stream.proofs.stream.Stream.read_held.Goals as goal

pub take-requires-clause-ready : goal.take-requires-clause-ready
take-requires-clause-ready c = c.args.self.now.ready c.requires

pub returns-in-Ok-clause-ok : goal.returns-in-Ok-clause-ok
returns-in-Ok-clause-ok c = λ x text s.
    let old = c.args.self.now in
    let at : length s.chars + length (cut_bytes old.cut) ≡ old.fed - length old.held.bytes.items = omega (arith, read_before old s) in
    let p = c.in-Ok.ensures.ok x s.chars (at ∙ ap (λ n. old.fed - n) (sym c.len.ensures)) s.reads in
    record {
      start = s.start;
      no_fault = c.requires;
      fed = s.fed;
      chars = p.chars;
      reads = p.reads;
      parts_are = s.parts_are ∙ (ap (λ z. (s.chars ++ cut_bytes old.cut) ++ z) (sym c.bytes.ensures) ∙ (p.parts ∙ sym (ap (λ z. (p.chars ++ cut_bytes c.take.new.cut) ++ z) c.keep.ensures.bytes ∙ append-nil _)));
      cut_off = cut_is (cut_bytes c.take.new.cut) c.in-Ok.ensures.short;
    }

pub returns-in-Err-clause-fault : goal.returns-in-Err-clause-fault
returns-in-Err-clause-fault c = λ x text s.
    let old = c.args.self.now in
    let at : length s.chars + length (cut_bytes old.cut) ≡ old.fed - length old.held.bytes.items = omega (arith, read_before old s) in
    subst (λ z. IsFaultOfFront z c.in-Err.found) (sym (s.parts_are ∙ ap (λ z. (s.chars ++ cut_bytes old.cut) ++ z) (sym c.bytes.ensures))) (c.in-Err.ensures.fault x s.chars (at ∙ ap (λ n. old.fed - n) (sym c.len.ensures)) s.reads)

pub invariant_of-self-in-Err : goal.invariant_of-self-in-Err
invariant_of-self-in-Err c = record {
  fed_within = c.args.self.now.fed_within;
  held_within = grind (arith, c.in-Err.ensures.kept, c.args.self.now.held_within);
  cut_short = c.in-Err.ensures.short;
  ready = λ e. absurd (none-some c.in-Err.found (sym e));
}

pub returns-in-Err-clause-kept : goal.returns-in-Err-clause-kept
returns-in-Err-clause-kept c = refl

pub returns-in-Ok-clause-fault : goal.returns-in-Ok-clause-fault
returns-in-Ok-clause-fault c = λ x text s. tt

pub returns-in-Ok-clause-kept : goal.returns-in-Ok-clause-kept
returns-in-Ok-clause-kept c = tt

pub returns-in-Err-clause-ok : goal.returns-in-Err-clause-ok
returns-in-Err-clause-ok c = λ x text s. tt
