use Rattle.std.proofs.Common.{length, ap, refl}
use Rattle.std.proofs.lemmas.Bool.{false≢true}
use Rattle.tc_stream.proofs.TagReads.{nothing_left}
use Rattle.tc_stream.proofs.reader.Reader.leave_tag.Goals as goal

pub returns-then-is_empty-clause-inside : goal.returns-then-is_empty-clause-inside
returns-then-is_empty-clause-inside c = λ some. absurd (some (nothing_left c.args.self.now.elements.levels.items (c.if-is_empty.ensures.0 refl)))

pub returns-clause-outside : goal.returns-clause-outside
returns-clause-outside c = λ none. absurd (false≢true (c.if-is_empty.ensures.1 (ap length none)))
