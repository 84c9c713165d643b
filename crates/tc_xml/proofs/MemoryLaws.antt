-- Memory that was refused says nothing of the text.
use Rattle.std.proofs.Common.{◌≡◌, sym, subst, List, ℕ, Result, IfErr}
use Rattle.std.specs.Result.{IsErrAnd}
use Rattle.std.proofs.lemmas.Result.{err_from_is_err_and}
use Rattle.tc_base.specs.declared.reasons.Why.{Why}
use Rattle.tc_xml.specs.Refusals.{Refuses, UnsupportedAt, OnMalformed}
use Rattle.tc_xml.specs.Tags.{Breaks}
use Rattle.tc_xml.specs.declared.faults.Stop.{Stop}
use Rattle.tc_xml.specs.declared.faults.Stop.TheVariants.{NoMemory}

pub out_refuses : {T : Type 0} (r : Result T Stop) (any strict : Type 0) → IsErrAnd r (λ x. x ≡ NoMemory) → IfErr r (λ e. Refuses e any strict)
out_refuses r any strict h = let p = err_from_is_err_and r h in subst (λ w. IfErr w (λ e. Refuses e any strict)) (sym p.1) (subst (λ e. Refuses e any strict) (sym p.2) tt)

pub out_stands : {T : Type 0} (r : Result T Stop) (stands : Why → List ℕ → Type 0) → IsErrAnd r (λ x. x ≡ NoMemory) → IfErr r (λ e. UnsupportedAt e stands)
out_stands r stands h = let p = err_from_is_err_and r h in subst (λ w. IfErr w (λ e. UnsupportedAt e stands)) (sym p.1) (subst (λ e. UnsupportedAt e stands) (sym p.2) tt)

pub out_malformed : {T : Type 0} (r : Result T Stop) (P : Type 0) → IsErrAnd r (λ x. x ≡ NoMemory) → IfErr r (λ e. OnMalformed e P)
out_malformed r P h = let p = err_from_is_err_and r h in subst (λ w. IfErr w (λ e. OnMalformed e P)) (sym p.1) (subst (λ e. OnMalformed e P) (sym p.2) tt)

pub out_breaks : {T : Type 0} (r : Result T Stop) (broken : Type 0) → IsErrAnd r (λ x. x ≡ NoMemory) → IfErr r (λ e. Breaks e broken)
out_breaks r broken h = let p = err_from_is_err_and r h in subst (λ w. IfErr w (λ e. Breaks e broken)) (sym p.1) (subst (λ e. Breaks e broken) (sym p.2) tt)
