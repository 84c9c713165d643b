use Rattle.std.proofs.Common.{◌≡◌, ap, ◌∙◌, get_or, length, arith}
use Rattle.tc_rules.proofs.Counted.{looks_told}
use Rattle.tc_rules.proofs.rules.Rules.looks.Goals as goal

pub returns : goal.returns
returns c = λ symbols h.
    let size : c.len.result ≡ length c.args.self.now.graphs.items = omega (arith, c.len.ensures, c.args.self.now.graphs.ok.0) in
    looks_told symbols c.args.self.now h c.start-all.result c.moves.result c.saturating_sub.result (c.start-all.ensures ∙ ap (λ n. get_or c.args.self.now.starts.items n 0) size) (c.moves.ensures symbols h) (λ low. omega arith)
