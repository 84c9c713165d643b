use Rattle.std.proofs.Common.{rules, ◌≡◌, ◌∙◌, ap, map}
use Rattle.std.specs.Map.Iter.{deref_pair}
use Rattle.std.proofs.lemmas.Map.Iter.{iter_end}
use Rattle.tc_model.specs.Views.{bound}
use Rattle.tc_xml.specs.Bounds.{bounds}
use Rattle.tc_tags.proofs.FailedLaws.{failed_ok}
use Rattle.tc_xml.proofs.MemoryLaws.{out_breaks}
use Rattle.tc_xml.proofs.scopes.Scope.bindings_of.Goals as goal

pub returns-clause-ok : goal.returns-clause-ok
returns-clause-ok c =
    let e : map deref_pair c.loop-prefix.yielded ≡ c.args.names.now.entries = search (rules, iter_end) in
    ap (map bound) c.into_bump_slice.ensures ∙ (c.loop-prefix.invariant ∙ ap bounds e)

pub returns-in_err-bindings-clause-ok : goal.returns-in_err-bindings-clause-ok
returns-in_err-bindings-clause-ok c = failed_ok _ _ _ c.from_residual.ensures.1

pub returns-in_err-bindings-clause-no : goal.returns-in_err-bindings-clause-no
returns-in_err-bindings-clause-no c = out_breaks _ _ c.from_residual.ensures.1

pub returns-in_err-push-clause-ok : goal.returns-in_err-push-clause-ok
returns-in_err-push-clause-ok c = failed_ok _ _ _ c.from_residual-in_err-push.ensures.1

pub returns-in_err-push-clause-no : goal.returns-in_err-push-clause-no
returns-in_err-push-clause-no c = out_breaks _ _ c.from_residual-in_err-push.ensures.1

pub loop-prefix-init : goal.loop-prefix-init
loop-prefix-init c = ap (map bound) c.in_ok-bindings.ensures.items
