use Rattle.std.proofs.Common.{◌≡◌, sym, subst}
use Rattle.std.specs.Prelude.{encode_utf8, option_map}
use Rattle.tc_stream.specs.Declarations as scan
use Rattle.tc_stream.specs.Declaring.{IsDeclaring, LiesBefore, TellsDeclared, left_of, setting_of}
use Rattle.tc_stream.specs.declared.declarations.Declaration.{Declaration}
use Rattle.tc_stream.proofs.declarations.Declaration.next.Goals as goal

pub returns-in-Between-clause-told : goal.returns-in-Between-clause-told
returns-in-Between-clause-told c state h =
    let is : state ≡ scan.between (option_map setting_of c.in-Between.set) c.in-Between.white = subst (λ (d : Declaration). IsDeclaring d state) c.in-Between.is h in
    subst (λ s. TellsDeclared c.next_between.result (scan.declared_next s c.args.place c.args.next (encode_utf8 c.args.next))) (sym is) (c.next_between.ensures.told (encode_utf8 c.args.next))

pub returns-in-Equals-clause-told : goal.returns-in-Equals-clause-told
returns-in-Equals-clause-told c state h =
    let is : state ≡ scan.equals (setting_of c.in-Equals.setting) c.in-Equals.at = subst (λ (d : Declaration). IsDeclaring d state) c.in-Equals.is h in
    subst (λ s. TellsDeclared c.next_behind_equals.result (scan.declared_next s c.args.place c.args.next (encode_utf8 c.args.next))) (sym is) (c.next_behind_equals.ensures.told c.args.place (encode_utf8 c.args.next))

pub returns-in-Literal-clause-told : goal.returns-in-Literal-clause-told
returns-in-Literal-clause-told c state h =
    let (written, is, k) = subst (λ (d : Declaration). IsDeclaring d state) c.in-Literal.is h in
    subst (λ s. TellsDeclared c.next_in_literal.result (scan.declared_next s c.args.place c.args.next (encode_utf8 c.args.next))) (sym is) (c.next_in_literal.ensures.told c.args.place written k)

pub returns-in-Ending-clause-told : goal.returns-in-Ending-clause-told
returns-in-Ending-clause-told c state h =
    let is : state ≡ scan.at_end = subst (λ (d : Declaration). IsDeclaring d state) c.in-Ending.is h in
    subst (λ s. TellsDeclared c.next_at_end.result (scan.declared_next s c.args.place c.args.next (encode_utf8 c.args.next))) (sym is) (c.next_at_end.ensures.told c.args.place (encode_utf8 c.args.next))

pub returns-in-InWord-clause-told : goal.returns-in-InWord-clause-told
returns-in-InWord-clause-told c state h =
    let is : state ≡ scan.in_word (setting_of c.in-InWord.setting) (left_of c.in-InWord.setting c.in-InWord.count) c.in-InWord.at = subst (λ (d : Declaration). IsDeclaring d state) c.in-InWord.is h in
    subst (λ s. TellsDeclared c.next_in_word.result (scan.declared_next s c.args.place c.args.next (encode_utf8 c.args.next))) (sym is) (c.next_in_word.ensures.told c.args.place (encode_utf8 c.args.next))

pub returns-in-Between-clause-place : goal.returns-in-Between-clause-place
returns-in-Between-clause-place c most lies within = c.next_between.ensures.place most within

pub returns-in-InWord-clause-place : goal.returns-in-InWord-clause-place
returns-in-InWord-clause-place c most lies within = c.next_in_word.ensures.place most (subst (λ (d : Declaration). LiesBefore most d) c.in-InWord.is lies)

pub returns-in-Equals-clause-place : goal.returns-in-Equals-clause-place
returns-in-Equals-clause-place c most lies within = c.next_behind_equals.ensures.place most (subst (λ (d : Declaration). LiesBefore most d) c.in-Equals.is lies)

pub returns-in-Literal-clause-place : goal.returns-in-Literal-clause-place
returns-in-Literal-clause-place c most lies within = c.next_in_literal.ensures.place most (subst (λ (d : Declaration). LiesBefore most d) c.in-Literal.is lies)

pub returns-in-Ending-clause-place : goal.returns-in-Ending-clause-place
returns-in-Ending-clause-place c most lies within = c.next_at_end.ensures.place most (subst (λ (d : Declaration). LiesBefore most d) c.in-Ending.is lies)
