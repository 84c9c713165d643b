use Rattle.std.proofs.Common.{◌∙◌, ap, refl, sym, true}
use Rattle.std.specs.Prelude.{option_map}
use Rattle.std.proofs.lemmas.Bool.{cond-true}
use Rattle.tc_stream.specs.Declarations as scan
use Rattle.tc_stream.specs.Declaring.{left_of, setting_of}
use Rattle.tc_stream.proofs.DeclarationAnswers.{question_between, bare_between, word_between, first_left}
use Rattle.tc_stream.proofs.declarations.next_between.Goals as goal

pub returns-then-is_white-clause-told : goal.returns-then-is_white-clause-told
returns-then-is_white-clause-told c bytes = (scan.between (option_map setting_of c.args.set) true, cond-true _ _ _ (sym c.is_white.ensures ∙ c.if-is_white.true), refl)

pub returns-then-is_white-clause-place : goal.returns-then-is_white-clause-place
returns-then-is_white-clause-place c most within = tt

pub returns-in-Some-clause-told : goal.returns-in-Some-clause-told
returns-in-Some-clause-told c bytes = (
  scan.at_end,
  question_between (option_map setting_of c.args.set) c.args.white c.args.next c.args.place bytes (sym c.is_white.ensures ∙ c.if-is_white.false) c.if-next-eq63.true
      ∙ ap (λ s. scan.may_end (option_map setting_of s)) c.in-Some.is,
  refl,
)

pub returns-in-Some-clause-place : goal.returns-in-Some-clause-place
returns-in-Some-clause-place c most within = within

pub returns-in-None-clause-told : goal.returns-in-None-clause-told
returns-in-None-clause-told c bytes =
    question_between (option_map setting_of c.args.set) c.args.white c.args.next c.args.place bytes (sym c.is_white.ensures ∙ c.if-is_white.false) c.if-next-eq63.true
    ∙ ap (λ s. scan.may_end (option_map setting_of s)) c.in-None.is

pub returns-in-None-clause-place : goal.returns-in-None-clause-place
returns-in-None-clause-place c most within = within

pub returns-then-not-white-clause-told : goal.returns-then-not-white-clause-told
returns-then-not-white-clause-told c bytes =
    bare_between (option_map setting_of c.args.set) c.args.white c.args.next c.args.place bytes (sym c.is_white.ensures ∙ c.if-is_white.false) c.if-next-eq63.false c.if-not-white.true

pub returns-then-not-white-clause-place : goal.returns-then-not-white-clause-place
returns-then-not-white-clause-place c most within = within

pub returns-in-Some-behind-clause-told : goal.returns-in-Some-behind-clause-told
returns-in-Some-behind-clause-told c bytes = (
  scan.in_word (setting_of c.in-Some-behind.setting) (left_of c.in-Some-behind.setting 1) c.args.place,
  word_between (option_map setting_of c.args.set) (option_map setting_of c.behind.result) c.args.white c.args.next c.args.place bytes (sym c.is_white.ensures ∙ c.if-is_white.false) c.if-next-eq63.false c.if-not-white.false c.behind.ensures
      ∙ (ap (λ s. scan.begun_word (option_map setting_of s) c.args.place) c.in-Some-behind.is ∙ ap (λ w. scan.more (scan.in_word (setting_of c.in-Some-behind.setting) w c.args.place)) (first_left c.in-Some-behind.setting)),
  refl,
)

pub returns-in-Some-behind-clause-place : goal.returns-in-Some-behind-clause-place
returns-in-Some-behind-clause-place c most within = within

pub returns-in-None-behind-clause-told : goal.returns-in-None-behind-clause-told
returns-in-None-behind-clause-told c bytes =
    word_between (option_map setting_of c.args.set) (option_map setting_of c.behind.result) c.args.white c.args.next c.args.place bytes (sym c.is_white.ensures ∙ c.if-is_white.false) c.if-next-eq63.false c.if-not-white.false c.behind.ensures
    ∙ ap (λ s. scan.begun_word (option_map setting_of s) c.args.place) c.in-None-behind.is

pub returns-in-None-behind-clause-place : goal.returns-in-None-behind-clause-place
returns-in-None-behind-clause-place c most within = within
