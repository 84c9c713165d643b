use Rattle.std.proofs.Common.{◌≡◌, ◌∙◌, MatchBool, MatchResult, Result, Ok, Err, IsErrAnd, subst, sym}
use Rattle.tc_verify.specs.Checkers.{view_of}
use Rattle.tc_verify.specs.Listings.{EmptyHolds, EmptyBreaks, TextHolds, TextBreaks}
use Rattle.tc_verify.specs.Firsts.{ListsHold, RowsHold, WrapsToo, AllHold, IsFirstOf}
use Rattle.tc_verify.proofs.first.try_rules.Goals as goal

-- what is told of a rule that is broken is told of it where it is handed on
handed : {T E : Type 0} (P : T → Type 0) (Q : E → Type 0) (r : Result T E) (x : E) → IsErrAnd r (λ e. e ≡ x) → Q x → MatchResult r P Q
handed P Q (Ok t) x e q = absurd e
handed P Q (Err b) x e q = subst Q (sym e) q

pub returns-then-not-empty_is_listed-clause-first : goal.returns-then-not-empty_is_listed-clause-first
returns-then-not-empty_is_listed-clause-first c =
    let v = view_of c.args.checker.now in
    subst (λ b. MatchBool b (EmptyHolds v) (EmptyBreaks v)) c.if-not-empty_is_listed.true c.empty_is_listed.ensures.exact

pub returns-then-not-text_is_listed-clause-first : goal.returns-then-not-text_is_listed-clause-first
returns-then-not-text_is_listed-clause-first c =
    let v = view_of c.args.checker.now in
    let w = view_of c.empty_is_listed.new.self in (
      subst (λ b. MatchBool b (EmptyHolds v) (EmptyBreaks v)) c.if-not-empty_is_listed.false c.empty_is_listed.ensures.exact,
      subst TextBreaks c.empty_is_listed.ensures.stays.same (subst (λ b. MatchBool b (TextHolds w) (TextBreaks w)) c.if-not-text_is_listed.true c.text_is_listed.ensures.exact),
    )

pub try_appends-requires-clause-before : goal.try_appends-requires-clause-before
try_appends-requires-clause-before c =
    let v = view_of c.args.checker.now in
    let w = view_of c.empty_is_listed.new.self in
    subst ListsHold (sym (c.text_is_listed.ensures.stays.same ∙ c.empty_is_listed.ensures.stays.same)) (record {
      empty = subst (λ b. MatchBool b (EmptyHolds v) (EmptyBreaks v)) c.if-not-empty_is_listed.false c.empty_is_listed.ensures.exact;
      text = subst TextHolds c.empty_is_listed.ensures.stays.same (subst (λ b. MatchBool b (TextHolds w) (TextBreaks w)) c.if-not-text_is_listed.false c.text_is_listed.ensures.exact);
    })

pub returns-in_err-try_appends-clause-first : goal.returns-in_err-try_appends-clause-first
returns-in_err-try_appends-clause-first c =
    let v = view_of c.args.checker.now in
    handed (λ _. AllHold v) (λ b. IsFirstOf v b) c.from_residual.result c.in_err-try_appends.field-0.0 c.from_residual.ensures.1
    (subst (λ w. IsFirstOf w c.in_err-try_appends.field-0.0) (c.text_is_listed.ensures.stays.same ∙ c.empty_is_listed.ensures.stays.same) c.in_err-try_appends.ensures.first)

pub try_wraps-requires-clause-before : goal.try_wraps-requires-clause-before
try_wraps-requires-clause-before c = subst RowsHold (sym c.try_appends.ensures.stays.same) c.in_ok-try_appends.ensures.first

pub returns-in_err-try_wraps-clause-first : goal.returns-in_err-try_wraps-clause-first
returns-in_err-try_wraps-clause-first c =
    let v = view_of c.args.checker.now in
    handed (λ _. AllHold v) (λ b. IsFirstOf v b) c.from_residual-in_err-try_wraps.result c.in_err-try_wraps.field-0.0 c.from_residual-in_err-try_wraps.ensures.1
    (subst (λ w. IsFirstOf w c.in_err-try_wraps.field-0.0) (c.try_appends.ensures.stays.same ∙ (c.text_is_listed.ensures.stays.same ∙ c.empty_is_listed.ensures.stays.same)) c.in_err-try_wraps.ensures.first)

pub try_roots-requires-clause-before : goal.try_roots-requires-clause-before
try_roots-requires-clause-before c = subst WrapsToo (sym c.try_wraps.ensures.stays.same) c.in_ok-try_wraps.ensures.first

pub returns-clause-first : goal.returns-clause-first
returns-clause-first c =
    subst (λ w. MatchResult c.try_roots.result (λ _. AllHold w) (λ b. IsFirstOf w b)) (c.try_wraps.ensures.stays.same ∙ (c.try_appends.ensures.stays.same ∙ (c.text_is_listed.ensures.stays.same ∙ c.empty_is_listed.ensures.stays.same))) c.try_roots.ensures.first
