use Rattle.std.proofs.Common.{◌∙◌, inl, inr, [], refl, sym}
use Rattle.tc_stream.specs.Declarations as scan
use Rattle.tc_stream.specs.Declaring.{setting_of}
use Rattle.tc_stream.proofs.DeclarationAnswers.{literal_begins}
use Rattle.tc_stream.proofs.declarations.next_behind_equals.Goals as goal

pub returns-then-next-eq34-clause-told : goal.returns-then-next-eq34-clause-told
returns-then-next-eq34-clause-told c place bytes = (
  scan.in_literal (setting_of c.args.setting) c.args.at c.args.next [],
  literal_begins (setting_of c.args.setting) c.args.at c.args.next place bytes (sym c.is_white.ensures ∙ c.if-is_white.false) (elim c.then-next-eq34.either [ inl e ↦ inl e | inr both ↦ inr both.1 ]),
  ([], refl, c.none.ensures),
)
