use Rattle.std.proofs.Common.{◌∙◌, refl, sym, arith}
use Rattle.std.proofs.lemmas.Bool.{true≢false}
use Rattle.tc_stream.specs.Parts.{begun_by}
use Rattle.tc_stream.specs.declared.parts.Part.TheVariants as parts
use Rattle.tc_stream.proofs.MarkReads.{counted_low, mark_reads, mark_breaks}
use Rattle.tc_stream.proofs.reader.Reader.read_mark.Goals as goal

pub next-requires : goal.next-requires
next-requires c = counted_low c.args.self.now.part c.args.mark c.args.count c.args.self.now.counted c.requires.part

pub returns-in_default-clause-fault : goal.returns-in_default-clause-fault
returns-in_default-clause-fault c = λ x chars char r. mark_breaks c.args.next c.requires.part c.in_default.ensures c.malformed.ensures c.no_item.ensures char r

pub returns-then-is_whole-clause-ok : goal.returns-then-is_whole-clause-ok
returns-then-is_whole-clause-ok c = record {
  ready = c.requires.ready;
  reads = λ x chars char r.
      mark_reads (begun_by c.args.mark) c.args.next (record { begun = refl; elements = refl; phase = refl }) c.requires.part c.begun_by-part.ensures.part
      (λ short. absurd (omega (arith, short, c.is_whole.ensures.0 c.if-is_whole.true))) (λ long. refl) c.in-Some.ensures.0 c.in-Some.ensures.1 char r;
}

pub returns-clause-ok : goal.returns-clause-ok
returns-clause-ok c = record {
  ready = c.requires.ready;
  reads = λ x chars char r.
      mark_reads (parts.Mark c.args.mark c.in-Some.more) c.args.next (record { begun = refl; elements = refl; phase = refl }) c.requires.part refl
      (λ short. refl) (λ long. absurd (true≢false (sym (c.is_whole.ensures.1 long) ∙ c.if-is_whole.false))) c.in-Some.ensures.0 c.in-Some.ensures.1 char r;
}

pub invariant_of-self-clause-counted : goal.invariant_of-self-clause-counted
invariant_of-self-clause-counted c = c.begun_by-part.ensures.counted

pub returns-in_default-clause-ok : goal.returns-in_default-clause-ok
returns-in_default-clause-ok c = tt

pub returns-then-is_whole-clause-fault : goal.returns-then-is_whole-clause-fault
returns-then-is_whole-clause-fault c = tt

pub returns-clause-fault : goal.returns-clause-fault
returns-clause-fault c = tt
