use Rattle.std.proofs.Common.{◌≡◌, subst, rules, slice_get, Some, List, ℕ}
use Rattle.std.specs.List.{Contains}
use Rattle.tc_close.proofs.Keys.{found_at, absent}
use Rattle.tc_close.proofs.lists.Lists.find.Goals as goal

pub returns-in-Some : goal.returns-in-Some
returns-in-Some c =
    subst (λ (p : List (List ℕ)). slice_get p c.in-Some.place ≡ Some c.args.numbers.now) c.self.view_is
    (found_at (λ v. v.items) c.args.numbers.now c.self.inside.keys.keys c.in-Some.place (search rules))

pub returns-in-None : goal.returns-in-None
returns-in-None c =
    subst (λ (p : List (List ℕ)). Contains p c.args.numbers.now → ⊥) c.self.view_is
    (absent (λ v. v.items) c.args.numbers.now c.self.inside.keys.keys (search rules))
