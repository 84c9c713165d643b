use Rattle.std.proofs.Common.{List, ℕ, ◌∙◌, sym, ap}
use Rattle.std.specs.Borrow.{Bor}
use Rattle.std.specs.Option.{option_map, option_copied}
use Rattle.tc_xml.proofs.ScopeLaws.{uri_unbound, uri_bound}
use Rattle.tc_xml.proofs.scopes.Scope.uri_of.Goals as goal

pub returns-in_err-uri : goal.returns-in_err-uri
returns-in_err-uri c =
    ap (option_map (λ (u : Bor (List ℕ)). u.now)) c.from_residual.ensures
    ∙ sym (uri_unbound c.args.self.names.now.entries _ c.args.prefix.now c.args.self.same (sym c.get.ensures.value ∙ ap option_copied c.in_err-uri.was))

pub returns : goal.returns
returns c = sym (uri_bound c.args.self.names.now.entries _ c.args.prefix.now c.in_ok-uri.uri.now c.args.self.same (sym c.get.ensures.value ∙ ap option_copied c.in_ok-uri.was))
