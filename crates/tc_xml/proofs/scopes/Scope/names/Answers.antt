use Rattle.std.proofs.Common.{◌≡◌, ℕ, List, [], ◌∷◌, refl, ◌∙◌}
use Rattle.std.specs.Borrow.{Bor}
use Rattle.std.specs.List.{AllZip}
use Rattle.tc_xml.specs.Bounds.{bounds}
use Rattle.tc_tags.proofs.FailedLaws.{failed_ok}
use Rattle.tc_xml.proofs.scopes.Scope.names.Goals as goal

same_bounds : (xs ys : List (Bor (List ℕ) × Bor (List ℕ))) → AllZip (λ p q. (q.0 ≡ p.0) × (q.1 ≡ p.1)) xs ys → bounds ys ≡ bounds xs
same_bounds [] [] h = refl
same_bounds [] (y ∷ ys) h = absurd h
same_bounds (x ∷ xs) [] h = absurd h
same_bounds (x ∷ xs) (y ∷ ys) ((h, k), more) = let e = same_bounds xs ys more in cc

pub returns-clause-ok : goal.returns-clause-ok
returns-clause-ok c = same_bounds c.args.self.names.now.entries c.in_ok-names.names.entries c.in_ok-names.ensures.cases ∙ c.args.self.same

pub returns-in_err-names-clause-ok : goal.returns-in_err-names-clause-ok
returns-in_err-names-clause-ok c = failed_ok _ _ _ c.from_residual.ensures.1
