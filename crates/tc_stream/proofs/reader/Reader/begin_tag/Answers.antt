use Rattle.std.proofs.Common.{◌≤◌, ◌+◌, ◌∙◌, refl, sym, arith}
use Rattle.tc_stream.proofs.DeepReads.{deep_name_begins}
use Rattle.tc_stream.proofs.MarkupReads.{start_tag_begins, tag_behind_breaks, tag_breaks}
use Rattle.tc_stream.proofs.reader.Reader.begin_tag.Goals as goal

pub returns-in-End-clause-fault : goal.returns-in-End-clause-fault
returns-in-End-clause-fault c = λ x chars char r.
    let low : c.args.self.now.begun ≤ c.args.self.now.begun + 1 = omega arith in
    tag_behind_breaks c.args.next c.requires.part c.in-End.is c.malformed.ensures low c.requires.no_mark c.requires.no_target char r

pub returns-then-not-is_ncname_start-clause-fault : goal.returns-then-not-is_ncname_start-clause-fault
returns-then-not-is_ncname_start-clause-fault c = λ x chars char r.
    tag_breaks c.args.next c.requires.part (sym c.is_ncname_start.ensures ∙ c.if-not-is_ncname_start.true) c.malformed-then-not-is_ncname_start.ensures c.no_tag.ensures c.requires.no_mark c.requires.no_target c.requires.no_slash char r

pub returns-clause-ok : goal.returns-clause-ok
returns-clause-ok c = record {
  ready = c.requires.ready;
  reads = λ x chars char r.
      start_tag_begins c.args.next (record { begun = refl; elements = refl; phase = refl }) c.requires.part refl c.in_default.not-End (c.if-is_full.ensures.room refl) (sym c.is_ncname_start.ensures ∙ c.if-not-is_ncname_start.false) c.keep_first.ensures.bytes char r;
}

pub returns-then-is_full-clause-ok : goal.returns-then-is_full-clause-ok
returns-then-is_full-clause-ok c = record {
  ready = c.requires.ready;
  reads = λ x chars char r.
      deep_name_begins c.args.next (record { begun = refl; elements = refl; phase = refl }) c.requires.part refl (c.if-is_full.ensures.full.0 refl) (sym c.is_ncname_start.ensures ∙ c.if-not-is_ncname_start.false) char r;
}

pub returns-in-End-clause-ok : goal.returns-in-End-clause-ok
returns-in-End-clause-ok c = tt

pub returns-then-not-is_ncname_start-clause-ok : goal.returns-then-not-is_ncname_start-clause-ok
returns-then-not-is_ncname_start-clause-ok c = tt

pub returns-clause-fault : goal.returns-clause-fault
returns-clause-fault c = tt
