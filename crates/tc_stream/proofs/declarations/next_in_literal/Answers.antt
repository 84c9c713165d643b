use Rattle.std.proofs.Common.{◌++◌, refl, sym, subst}
use Rattle.std.specs.Prelude.{encode_utf8}
use Rattle.tc_stream.specs.Declarations as scan
use Rattle.tc_stream.specs.Declaring.{TellsDeclared, setting_of}
use Rattle.tc_stream.proofs.DeclarationAnswers.{literal_goes_on, literal_ends}
use Rattle.tc_stream.proofs.declarations.next_in_literal.Goals as goal

pub returns-else-next-quote-clause-told : goal.returns-else-next-quote-clause-told
returns-else-next-quote-clause-told c place written e =
    let more = written ++ encode_utf8 c.args.next in (
      scan.in_literal (setting_of c.args.setting) c.args.at c.args.quote more,
      literal_goes_on (setting_of c.args.setting) c.args.at c.args.quote c.args.next place written c.if-next-quote.false,
      (more, refl, c.and.ensures written e),
    )

pub returns-else-next-quote-clause-place : goal.returns-else-next-quote-clause-place
returns-else-next-quote-clause-place c most within = within

pub returns-then-next-quote-clause-told : goal.returns-then-next-quote-clause-told
returns-then-next-quote-clause-told c place written e =
    subst (TellsDeclared c.with.result) (sym (literal_ends (setting_of c.args.setting) c.args.at c.args.quote c.args.next place written c.if-next-quote.true)) (c.with.ensures.told written e)

pub returns-then-next-quote-clause-place : goal.returns-then-next-quote-clause-place
returns-then-next-quote-clause-place c most within = c.with.ensures.place most within
