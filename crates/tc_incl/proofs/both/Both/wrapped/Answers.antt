use Rattle.tc_incl.proofs.Made.{dead_wrap, wrapped_fit, is_wrapped, some_number}
use Rattle.tc_incl.proofs.both.Both.wrapped.Goals as goal

pub returns-then-is_empty : goal.returns-then-is_empty
returns-then-is_empty c = record {
  made = λ h fit are. dead_wrap c.args.self.now c.args.symbol h fit c.in_ok-first.first c.in_ok-first.ensures.set c.in_ok-first.ensures.size (λ x symbols st. c.in_ok-first.ensures.numbers x h.first symbols st are.first) c.args.self.now.first.ended (c.is_empty.ensures.0 c.if-is_empty.true);
}

pub returns : goal.returns
returns c =
    let (k, some) = some_number c.in_ok-first.first c.in_ok-first.ensures.set c.is_empty.result c.is_empty.ensures.1 c.if-is_empty.false in
    record {
      made = λ h fit are. (
        wrapped_fit c.args.self.now c.args.symbol h fit c.in_ok-first.first c.in_ok-first.ensures.set c.in_ok-first.ensures.size (λ x symbols st. c.in_ok-first.ensures.numbers x h.first symbols st are.first) c.args.self.now.first.ended c.in_ok-first.ensures.from_one
            c.in_ok-second.second c.in_ok-second.ensures.set c.in_ok-second.ensures.size c.in_ok-second.ensures.from_one (λ x symbols st. c.in_ok-second.ensures.numbers x h.second symbols st are.second) c.args.self.now.second.ended,
        is_wrapped c.args.self.now c.args.symbol h fit c.in_ok-first.first c.in_ok-first.ensures.set c.in_ok-first.ensures.size (λ x symbols st. c.in_ok-first.ensures.numbers x h.first symbols st are.first) c.args.self.now.first.ended c.in_ok-first.ensures.from_one
            c.in_ok-second.second c.in_ok-second.ensures.set c.in_ok-second.ensures.size c.in_ok-second.ensures.from_one (λ x symbols st. c.in_ok-second.ensures.numbers x h.second symbols st are.second) c.args.self.now.second.ended k some,
      );
    }
