use Rattle.std.proofs.Common.{◌≡◌, ◌∙◌, length, arith}
use Rattle.tc_rules.proofs.Counted.{moves_told}
use Rattle.tc_rules.proofs.rules.Rules.moves.Goals as goal

pub returns : goal.returns
returns c = λ symbols h.
    let size : c.len.result ≡ length c.args.self.now.moves.items = omega (arith, c.len.ensures, c.args.self.now.moves.ok.0) in
    c.start.ensures ∙ moves_told symbols c.args.self.now h c.len.result size
