use Rattle.std.proofs.Common.{◌≡◌, ℕ, List, ◌++◌, length, map, take, drop}
use Rattle.tc_model.specs.Views.{bound}
use Rattle.tc_model.specs.XmlTextScopes.{uri_of}
use Rattle.tc_xml.specs.Bindings.{now_bound, hidden}
use Rattle.tc_xml.proofs.bindings.Bindings.take_back.Given as goal

-- the first ones stay, and what is left with what is bound shows what it did
abbrev pub invariant-back : goal.invariant-back
invariant-back l = record {
  keeps : take l.count (hidden l.self) ≡ take l.count (hidden l.initial.self);
  binds : (prefix : List ℕ) → uri_of (map bound (drop l.count (hidden l.self)) ++ now_bound l.self) prefix
      ≡ uri_of (map bound (drop l.count (hidden l.initial.self)) ++ now_bound l.initial.self) prefix;
}

abbrev pub decreases-back : goal.decreases-back
decreases-back l = length (hidden l.self)
