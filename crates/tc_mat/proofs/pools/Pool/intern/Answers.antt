use Rattle.std.proofs.Common.{◌≡◌, ◌≤◌, ◌∙◌, ap, sym, refl, subst, List, ◌++◌, ◌∷◌, [], slice_get, length, ◌+◌, arith, rules}
use Rattle.std.proofs.lemmas.List.{length_push}
use Rattle.std.proofs.lemmas.List.Elements.{All-same, All-push}
use Rattle.tc_mat.specs.Matrix.{Matrix, IsMatrix}
use Rattle.tc_mat.specs.Held.{Held, IsHeld}
use Rattle.tc_mat.proofs.Keys.{same_matrix, grown, last_at}
use Rattle.tc_mat.proofs.Causes.{value_no_cause, no_memory_not_full, not_full, error_no_value}
use Rattle.indexmap.specs.IndexSet.{insert_key}
use Rattle.tc_mat.proofs.pools.Pool.intern.Goals as goal

-- the keys with the copy of the matrix last
last : (c : goal.In_ok-insert) → c.insert.new.self.keys ≡ c.self.inside.keys.keys ++ c.args.mat.now ∷ []
last c =
    let absent = subst (λ (p : Held). IsHeld p c.args.mat.now → ⊥) (sym c.self.view_is) c.in_default.ensures in
    c.in_ok-insert.ensures.keys
    ∙ (ap (insert_key same_matrix c.self.inside.keys.keys) c.in-Ok.ensures.same ∙ grown c.args.mat.now c.self.inside.keys.keys absent)

pub returns-clause-absent : goal.returns-clause-absent
returns-clause-absent c = λ absent.
    let Grown : List Matrix → Held = λ keys. record { size = c.self.inside.n; matrices = keys } in
    let With : Held → Held = λ p. record { size = p.size; matrices = p.matrices ++ c.args.mat.now ∷ [] } in
    (c.len-id.ensures.len ∙ ap (λ (p : Held). length p.matrices) c.self.view_is, ap Grown (last c) ∙ ap With c.self.view_is)

pub returns-clause-id : goal.returns-clause-id
returns-clause-id c =
    let keys = c.self.inside.keys.keys in
    ap (λ (ks : List Matrix). slice_get ks c.len-id.result) (last c)
    ∙ (ap (slice_get (keys ++ c.args.mat.now ∷ [])) c.len-id.ensures.len ∙ last_at c.args.mat.now keys)

pub invariant_of-self-2 : goal.invariant_of-self-2
invariant_of-self-2 c =
    let n = c.self.inside.n in
    let keys = c.self.inside.keys.keys in
    let Fits : Matrix → Type 0 = λ m. (m.size ≡ n) × IsMatrix m in
    let size : c.args.mat.now.size ≡ n = c.requires ∙ sym (ap (λ (p : Held). p.size) c.self.view_is) in
    let fits : Fits c.args.mat.now = (size, subst IsMatrix c.in-Ok.ensures.same c.in-Ok.ensures.matrix) in
    let count : length c.insert.new.self.keys ≡ length keys + 1 = ap length (last c) ∙ length_push keys c.args.mat.now in
    (omega (arith, c.len-id.ensures.len), All-same Fits c.insert.new.self.keys (keys ++ c.args.mat.now ∷ []) (last c) (All-push Fits keys c.args.mat.now c.self.invariant.1 fits))

pub returns-then-id-ge-MOST-clause-full : goal.returns-then-id-ge-MOST-clause-full
returns-then-id-ge-MOST-clause-full c = search rules

pub returns-in-Some-clause-id : goal.returns-in-Some-clause-id
returns-in-Some-clause-id c = c.in-Some.ensures

pub returns-in-Some-clause-held : goal.returns-in-Some-clause-held
returns-in-Some-clause-held c = λ held. (refl, refl)

pub returns-in-Some-clause-absent : goal.returns-in-Some-clause-absent
returns-in-Some-clause-absent c = λ absent. absurd (absent (c.in-Some.id.0, c.in-Some.ensures))

pub returns-in-Some-clause-bound : goal.returns-in-Some-clause-bound
returns-in-Some-clause-bound c = subst (λ (p : Held). length p.matrices ≤ 65536) c.self.view_is c.self.invariant.0

pub returns-in-Some-clause-full : goal.returns-in-Some-clause-full
returns-in-Some-clause-full c = value_no_cause

pub returns-in-Some-clause-refused : goal.returns-in-Some-clause-refused
returns-in-Some-clause-refused c = λ full absent. absurd (absent (c.in-Some.id.0, c.in-Some.ensures))

pub returns-then-id-ge-MOST-clause-held : goal.returns-then-id-ge-MOST-clause-held
returns-then-id-ge-MOST-clause-held c = λ held. absurd (c.in_default.ensures held)

pub returns-then-id-ge-MOST-clause-absent : goal.returns-then-id-ge-MOST-clause-absent
returns-then-id-ge-MOST-clause-absent c = λ absent. tt

pub returns-then-id-ge-MOST-clause-bound : goal.returns-then-id-ge-MOST-clause-bound
returns-then-id-ge-MOST-clause-bound c = subst (λ (p : Held). length p.matrices ≤ 65536) c.self.view_is c.self.invariant.0

pub returns-then-id-ge-MOST-clause-err : goal.returns-then-id-ge-MOST-clause-err
returns-then-id-ge-MOST-clause-err c = refl

pub returns-in_default-copied-clause-held : goal.returns-in_default-copied-clause-held
returns-in_default-copied-clause-held c = λ held. absurd (c.in_default.ensures held)

pub returns-in_default-copied-clause-absent : goal.returns-in_default-copied-clause-absent
returns-in_default-copied-clause-absent c = λ absent. tt

pub returns-in_default-copied-clause-bound : goal.returns-in_default-copied-clause-bound
returns-in_default-copied-clause-bound c = subst (λ (p : Held). length p.matrices ≤ 65536) c.self.view_is c.self.invariant.0

pub returns-in_default-copied-clause-err : goal.returns-in_default-copied-clause-err
returns-in_default-copied-clause-err c = refl

pub returns-then-id-ge-MOST-clause-refused : goal.returns-then-id-ge-MOST-clause-refused
returns-then-id-ge-MOST-clause-refused c = λ full absent. refl

pub returns-in_default-copied-clause-full : goal.returns-in_default-copied-clause-full
returns-in_default-copied-clause-full c = no_memory_not_full

pub returns-in_default-copied-clause-refused : goal.returns-in_default-copied-clause-refused
returns-in_default-copied-clause-refused c = λ full absent. not_full (c.len-id.ensures.len ∙ ap (λ (p : Held). length p.matrices) c.self.view_is) c.if-id-ge-MOST.false full

pub returns-in_err-insert-clause-id : goal.returns-in_err-insert-clause-id
returns-in_err-insert-clause-id c = error_no_value c.from_residual.result _ _ c.from_residual.ensures.1

pub returns-in_err-insert-clause-held : goal.returns-in_err-insert-clause-held
returns-in_err-insert-clause-held c = λ held. absurd (c.in_default.ensures held)

pub returns-in_err-insert-clause-absent : goal.returns-in_err-insert-clause-absent
returns-in_err-insert-clause-absent c = λ absent. error_no_value c.from_residual.result _ _ c.from_residual.ensures.1

pub returns-in_err-insert-clause-refused : goal.returns-in_err-insert-clause-refused
returns-in_err-insert-clause-refused c = λ full absent. not_full (c.len-id.ensures.len ∙ ap (λ (p : Held). length p.matrices) c.self.view_is) c.if-id-ge-MOST.false full

pub returns-clause-held : goal.returns-clause-held
returns-clause-held c = λ held. absurd (c.in_default.ensures held)

pub returns-clause-full : goal.returns-clause-full
returns-clause-full c = value_no_cause

pub returns-clause-refused : goal.returns-clause-refused
returns-clause-refused c = λ full absent. not_full (c.len-id.ensures.len ∙ ap (λ (p : Held). length p.matrices) c.self.view_is) c.if-id-ge-MOST.false full
