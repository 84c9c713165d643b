use Rattle.std.proofs.Common.{◌≡◌, arith, length}
use Rattle.tc_xml.specs.Bindings.{now_bound, hidden}
use Rattle.tc_xml.proofs.SpelledLaws.{none_declared, read_means, right_alike}
use Rattle.tc_xml.proofs.levels.Levels.learn_tag.Goals as goal

pub returns-then-count-clause-shorter : goal.returns-then-count-clause-shorter
returns-then-count-clause-shorter c = (c.in_ok-tag.ensures 0).shorter

pub returns-then-count-clause-reads : goal.returns-then-count-clause-reads
returns-then-count-clause-reads c = λ right.
    let old = c.args.self.now.bindings in
    let new = c.read_tag.new.bindings in
    let read = c.in_ok-tag.ensures 0 in
    let count : length (hidden new) ≡ length (hidden old) = omega arith in
    record {
      reads = c.in_ok-tag.ensures;
      right = c.remember.ensures (now_bound new) (right_alike (now_bound old) (now_bound new) _ (none_declared read.declares count) right) (read_means old new _ _ count read);
    }

pub returns-clause-shorter : goal.returns-clause-shorter
returns-clause-shorter c = (c.in_ok-tag.ensures 0).shorter

pub returns-clause-reads : goal.returns-clause-reads
returns-clause-reads c = λ right. record { reads = c.in_ok-tag.ensures; right = c.forget.ensures _ _ right }
