use Rattle.std.proofs.Common.{◌≡◌, ◌∙◌, length, ap, arith}
use Rattle.tc_model.specs.Letters.{IsLetter}
use Rattle.tc_model.specs.Numberings.{predicates_of}
use Rattle.tc_rules.specs.RulesView.{RulesView}
use Rattle.tc_rows.specs.Triples.{predicates}
use Rattle.tc_close.specs.LookFree.{plain_letter}
use Rattle.tc_close.proofs.LookFree.{task_free, no_test, plain_is_letter}
use Rattle.tc_close.proofs.look_free.FreeBodies.is_symbol_free.Goals as goal

pub returns : goal.returns
returns c = λ e x is are low.
    let a = c.args.symbol in
    let count : c.predicates.result ≡ length (predicates x) = c.predicates.ensures x.symbols is.rules ∙ ap (λ (v : RulesView). length (predicates_of v.sheet)) is.told in
    let none = c.if-predicates-gt0.false in
    let l : IsLetter x.symbols (predicates x) (plain_letter a) = plain_is_letter x a low in
    record {
      letters = no_test (predicates x) (omega (arith, none, count));
      bodies = task_free x c.args.self.now are c.if-not-self.false a (λ mode m. c.are_modes_free.ensures c.if-not-are_modes_free.false x mode is are l m);
      looks = λ k s vs at. c.are_looks_done.ensures e x k s vs is l at;
    }
