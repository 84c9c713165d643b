use Rattle.std.proofs.Common.{◌≡◌, ◌∷◌, ◌∙◌, [], ap, sym, subst, arith, length}
use Rattle.std.proofs.lemmas.Bool.{true≢false}
use Rattle.tc_stream.specs.Goes.{with_text}
use Rattle.tc_stream.specs.Keeps.{AreSteps, IsRefused, entered}
use Rattle.tc_stream.proofs.KeepsLaws.{as_deep, passed_on}
use Rattle.tc_stream.proofs.elements.Elements.start.Goals as goal

pub returns-in_err-enter-clause-no : goal.returns-in_err-enter-clause-no
returns-in_err-enter-clause-no c =
    passed_on c.from_residual.result (IsRefused c.args.tag.now c.args.form.now c.args.self.now) c.in_err-enter.field-0.0 c.from_residual.ensures.1 c.in_err-enter.ensures.no

pub returns-then-not-form-clause-ready : goal.returns-then-not-form-clause-ready
returns-then-not-form-clause-ready c = c.in_ok-enter.ensures.ready

pub returns-then-not-form-clause-starts : goal.returns-then-not-form-clause-starts
returns-then-not-form-clause-starts c = λ e ls outer r are chars k.
    let o = c.in_ok-enter.ensures.enters e ls outer r are chars k in
    record {
      scope = o.scope;
      name = o.name;
      expanded = o.expanded;
      means = o.means;
      few = o.few;
      opens = λ b run. o.keeps run;
      bare = λ b. absurd (true≢false (sym b ∙ c.if-not-form.true));
      steps_open = λ b x run w. o.steps x run w;
      steps_bare = λ b. absurd (true≢false (sym b ∙ c.if-not-form.true));
      valid = λ b. absurd (true≢false (sym b ∙ c.if-not-form.true));
    }

pub returns-clause-ready : goal.returns-clause-ready
returns-clause-ready c = c.end.ensures.ready c.in_ok-enter.ensures.ready

pub returns-clause-starts : goal.returns-clause-starts
returns-clause-starts c = λ e ls outer r are chars k.
    let o = c.in_ok-enter.ensures.enters e ls outer r are chars k in
    let l = entered e o.name outer in
    record {
      scope = o.scope;
      name = o.name;
      expanded = o.expanded;
      means = o.means;
      few = o.few;
      opens = λ b. absurd (true≢false (sym c.if-not-form.false ∙ b));
      bare = λ b run. c.end.ensures.keeps l (with_text run ls) o.scope [] (o.keeps run);
      steps_open = λ b. absurd (true≢false (sym c.if-not-form.false ∙ b));
      steps_bare = λ b x run w.
          let many = as_deep (o.keeps run) in
          c.end.ensures.steps x l (with_text run ls) [] (o.steps x run w) (omega (arith, many));
      valid = λ b none x run w.
          let many = as_deep (o.keeps run) in
          let root : length (with_text run ls) ≡ 0 = ap (λ z. length (with_text run z)) none in
          let on = subst (λ z. AreSteps x c.args.self.now.validity z run → AreSteps x c.enter.new.self.validity (l ∷ with_text run z) []) none (o.steps x run) in
          c.end.ensures.valid x l [] (on w) (omega (arith, many, root));
    }

pub returns-then-not-form-clause-no : goal.returns-then-not-form-clause-no
returns-then-not-form-clause-no c = tt

pub returns-clause-no : goal.returns-clause-no
returns-clause-no c = tt
