use Rattle.std.proofs.Common.{◌∙◌, sym}
use Rattle.std.proofs.lemmas.Bool.{false≢true}
use Rattle.tc_incl.proofs.Made.{text_fit, is_text}
use Rattle.tc_incl.proofs.both.Both.text.Goals as goal

pub returns : goal.returns
returns c = record {
  made = (
    text_fit c.args.self.now c.in_ok-first.first c.in_ok-second.second c.in_ok-first.ensures.set c.in_ok-second.ensures.set c.in_ok-first.ensures.numbers c.in_ok-second.ensures.numbers c.in_ok-first.ensures.size c.in_ok-second.ensures.size,
    is_text c.args.self.now c.in_ok-first.first c.in_ok-second.second c.in_ok-first.ensures.set c.in_ok-second.ensures.set c.in_ok-first.ensures.numbers c.in_ok-second.ensures.numbers c.in_ok-first.ensures.size c.in_ok-second.ensures.size
        c.args.self.now.first.ended c.args.self.now.second.ended (λ g st. sym (c.has_text.ensures g st) ∙ c.if-not-has_text.false),
  );
}

pub returns-then-not-has_text : goal.returns-then-not-has_text
returns-then-not-has_text c = record { made = λ x told live. false≢true (sym c.if-not-has_text.true ∙ (c.has_text.ensures x.first told.first ∙ live)) }
