use Rattle.std.proofs.Common.{List, ℕ, ◌∙◌, sym, ap, refl}
use Rattle.std.specs.Borrow.{Bor}
use Rattle.std.specs.Map.Iter.{deref_pair}
use Rattle.std.specs.Option.{option_map, option_copied}
use Rattle.tc_xml.proofs.BindingLaws.{entry_here, entry_later, entry_nowhere}
use Rattle.tc_xml.proofs.ScopeLaws.{uri_unbound, uri_bound}
use Rattle.tc_xml.proofs.bindings.noted.Goals as goal

pub returns-in_default : goal.returns-in_default
returns-in_default c = entry_nowhere c.args.names.now.entries c.args.prefix.now c.loop-at.at c.loop-at.invariant (sym c.get_index.ensures.entry ∙ ap (option_map deref_pair) c.in_default.is)

pub returns-then-eq : goal.returns-then-eq
returns-then-eq c =
    entry_here c.args.names.now.entries c.args.prefix.now c.loop-at.at c.loop-at.invariant (c.in-Some.bound.now, c.in-Some.uri.now) (sym c.get_index.ensures.entry ∙ ap (option_map deref_pair) c.in-Some.is) (sym c.if-eq.ensures)

pub loop-at-preserved : goal.loop-at-preserved
loop-at-preserved c =
    entry_later c.args.names.now.entries c.args.prefix.now c.loop-at.at c.loop-at.invariant (c.in-Some.bound.now, c.in-Some.uri.now) (sym c.get_index.ensures.entry ∙ ap (option_map deref_pair) c.in-Some.is) (sym c.if-eq.ensures)

pub returns-in_err-uri : goal.returns-in_err-uri
returns-in_err-uri c =
    ap (option_map (λ (u : Bor (List ℕ)). u.now)) c.from_residual.ensures ∙ sym (uri_unbound c.args.names.now.entries _ c.args.prefix.now refl (sym c.get.ensures.value ∙ ap option_copied c.in_err-uri.was))

pub returns : goal.returns
returns c = sym (uri_bound c.args.names.now.entries _ c.args.prefix.now c.in_ok-uri.uri.now refl (sym c.get.ensures.value ∙ ap option_copied c.in_ok-uri.was))
