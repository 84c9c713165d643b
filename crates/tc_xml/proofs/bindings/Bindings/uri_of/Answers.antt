use Rattle.std.proofs.Common.{◌∙◌, sym, ap, cond, None, Some, List, ℕ}
use Rattle.std.specs.Borrow.{Bor}
use Rattle.std.specs.Option.{option_map}
use Rattle.tc_xml.specs.Bindings.{unless_empty}
use Rattle.tc_xml.proofs.bindings.Bindings.uri_of.Goals as goal

pub returns-in_err-uri : goal.returns-in_err-uri
returns-in_err-uri c =
    ap (option_map (λ (u : Bor (List ℕ)). u.now)) c.from_residual.ensures
    ∙ ap unless_empty (sym (ap (option_map (λ (u : Bor (List ℕ)). u.now)) c.in_err-uri.was) ∙ c.noted.ensures)

pub returns-then-eq : goal.returns-then-eq
returns-then-eq c = sym (ap unless_empty (sym c.in_ok-uri.ensures) ∙ ap (λ x. cond x None (Some c.in_ok-uri.uri.now)) (sym c.if-eq.ensures))

pub returns : goal.returns
returns c = sym (ap unless_empty (sym c.in_ok-uri.ensures) ∙ ap (λ x. cond x None (Some c.in_ok-uri.uri.now)) (sym c.if-eq.ensures))
