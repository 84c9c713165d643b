use Rattle.std.proofs.Common.{◌≡◌, map, drop, bytes_eq}
use Rattle.std.specs.List.{list_any}
use Rattle.tc_sheet.proofs.elements.is_among.Given as goal

abbrev pub invariant-loop-other : goal.invariant-loop-other
invariant-loop-other l = list_any (bytes_eq l.word) (map (λ w. w.now) (drop l.other-index l.words)) ≡ list_any (bytes_eq l.word) (map (λ w. w.now) l.words)
