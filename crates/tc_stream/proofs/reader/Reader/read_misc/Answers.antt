use Rattle.std.proofs.Common.{◌≤◌, List, ℕ, refl, ap, ◌∙◌, subst, length}
use Rattle.tc_stream.specs.Phases.{past_front}
use Rattle.tc_stream.proofs.MiscReads.{white_read}
use Rattle.tc_stream.proofs.reader.Reader.read_misc.Goals as goal

pub returns-then-left-text-clause-ok : goal.returns-then-left-text-clause-ok
returns-then-left-text-clause-ok c =
    white_read c.args.end c.after_white-rest.ensures c.if-left-text.true c.requires.part c.requires.around c.requires.ready c.requires.part (c.past_front-self.ensures ∙ ap past_front c.without_mark.ensures) refl

pub begin_misc-requires-clause-bare : goal.begin_misc-requires-clause-bare
begin_misc-requires-clause-bare c = subst (λ (w : List ℕ). length c.args.text.now ≤ length w) c.after_white-rest.ensures c.if-left-text.false

pub returns-then-left-text-clause-fault : goal.returns-then-left-text-clause-fault
returns-then-left-text-clause-fault c = tt

pub begin_misc-requires-clause-ready : goal.begin_misc-requires-clause-ready
begin_misc-requires-clause-ready c = c.requires.ready

pub begin_misc-requires-clause-part : goal.begin_misc-requires-clause-part
begin_misc-requires-clause-part c = c.requires.part

pub begin_misc-requires-clause-around : goal.begin_misc-requires-clause-around
begin_misc-requires-clause-around c = c.requires.around

pub begin_misc-requires-clause-no_mark : goal.begin_misc-requires-clause-no_mark
begin_misc-requires-clause-no_mark c = c.requires.no_mark

pub begin_misc-requires-clause-some : goal.begin_misc-requires-clause-some
begin_misc-requires-clause-some c = c.requires.some

pub begin_misc-requires-clause-within : goal.begin_misc-requires-clause-within
begin_misc-requires-clause-within c = c.requires.within

pub begin_misc-requires-clause-low : goal.begin_misc-requires-clause-low
begin_misc-requires-clause-low c = c.requires.low
