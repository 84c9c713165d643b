use Rattle.std.proofs.Common.{sym}
use Rattle.tc_path.specs.Scopes.{in_scope}
use Rattle.tc_path.proofs.KnownLaws.{told}
use Rattle.tc_path.proofs.scopes.Scope.uri_of.Goals as goal

pub returns-in-Some : goal.returns-in-Some
returns-in-Some c = told (in_scope c.args.self.now) c.args.prefix.now c.in-Some.found.now (c.args.self.now.right c.args.prefix.now c.in-Some.found.now (sym c.in-Some.ensures.value))
