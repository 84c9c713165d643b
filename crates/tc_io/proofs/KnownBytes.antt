-- Several reads and several writes together, at bytes that a reader or a writer may tell.
use Rattle.std.proofs.Common.{◌≡◌, ◌<◌, ◌+◌, ◌-◌, ℕ, List, [], ◌++◌, length, length-append, take, drop, arith, sym, ap, ◌∙◌, refl, append_assoc, append-nil, Option, None, Some, Result, Ok, subst, true}
use Rattle.std.specs.Bool.{◌==◌}
use Rattle.std.proofs.lemmas.Grind.{common_steps}
use Rattle.std.specs.Option.{IfSome}
use Rattle.std.specs.Io.KnownBytes.{Appends, Consumes, ReadConsumes, WriteAppends, Keeps}

pub consumes_nothing : (old : Option (List ℕ)) → Consumes old old []
consumes_nothing None = tt
consumes_nothing (Some xs) = refl

pub consumes_twice : (old mid new : Option (List ℕ)) (a b : List ℕ) → Consumes old mid a → Consumes mid new b → Consumes old new (a ++ b)
consumes_twice None mid new a b p q = tt
consumes_twice (Some xs) None new a b p q = absurd p
consumes_twice (Some xs) (Some ys) None a b p q = absurd q
consumes_twice (Some xs) (Some ys) (Some zs) a b p q = p ∙ (ap (λ x. a ++ x) q ∙ sym (append_assoc a b zs))

pub consumes_kept : (old mid new : Option (List ℕ)) (a : List ℕ) → Consumes old mid a → Keeps mid new → Consumes old new a
consumes_kept None mid new a p q = tt
consumes_kept (Some xs) None new a p q = absurd p
consumes_kept (Some xs) (Some ys) None a p q = absurd q
consumes_kept (Some xs) (Some ys) (Some zs) a p q = p ∙ ap (λ x. a ++ x) (sym q)

-- two reads that gave more than n bytes together left more than n to read
pub consumed_longer : (old mid new : Option (List ℕ)) (a b : List ℕ) (n : ℕ) → Consumes old mid a → Consumes mid new b → n < length a + length b → IfSome old (λ left. n < length left)
consumed_longer None mid new a b n p q low = tt
consumed_longer (Some xs) None new a b n p q low = absurd p
consumed_longer (Some xs) (Some ys) None a b n p q low = absurd q
consumed_longer (Some xs) (Some ys) (Some zs) a b n p q low = omega (arith, simp length-append at (ap length p), simp length-append at (ap length q))

-- what was read before a read gave nothing is all that was left
pub consumed_all : {E : Type 0} (old mid new : Option (List ℕ)) (a buf : List ℕ) (r : Result ℕ E) (n : ℕ) → Consumes old mid a → ReadConsumes mid new r buf → r ≡ Ok n → n ≡ 0 → 0 < length buf → IfSome old (λ left. a ≡ left)
consumed_all None mid new a buf r n p q e z l = tt
consumed_all (Some xs) None new a buf r n p q e z l = absurd p
consumed_all (Some xs) (Some ys) None a buf r n p q e z l = absurd (subst (λ r. ReadConsumes (Some ys) None r buf) (e ∙ ap Ok z) q).0
consumed_all (Some xs) (Some ys) (Some zs) a buf r n p q e z l =
    let none = subst (λ r. ReadConsumes (Some ys) (Some zs) r buf) (e ∙ ap Ok z) q in
    sym (p ∙ (ap (λ x. a ++ x) (none.0 ∙ none.1 refl l) ∙ append-nil a))

pub appends_nothing : (old : Option (List ℕ)) → Appends old old []
appends_nothing None = tt
appends_nothing (Some xs) = sym (append-nil xs)

pub appends_twice : (old mid new : Option (List ℕ)) (a b : List ℕ) → Appends old mid a → Appends mid new b → Appends old new (a ++ b)
appends_twice None mid new a b p q = tt
appends_twice (Some xs) None new a b p q = absurd p
appends_twice (Some xs) (Some ys) None a b p q = absurd q
appends_twice (Some xs) (Some ys) (Some zs) a b p q = q ∙ (ap (λ x. x ++ b) p ∙ append_assoc xs a b)

pub appends_kept : (old mid new : Option (List ℕ)) (a : List ℕ) → Appends old mid a → Keeps mid new → Appends old new a
appends_kept None mid new a p q = tt
appends_kept (Some xs) None new a p q = absurd p
appends_kept (Some xs) (Some ys) None a p q = absurd q
appends_kept (Some xs) (Some ys) (Some zs) a p q = q ∙ p

nothing_left : (rest : List ℕ) → true ≡ (length rest == 0) → rest ≡ []
nothing_left rest h = grind (arith, common_steps)

-- all was written where nothing is left
pub whole_written : (old new : Option (List ℕ)) (front rest whole : List ℕ) → front ++ rest ≡ whole → Appends old new front → true ≡ (length rest == 0) → Appends old new whole
whole_written old new front rest whole p a e = subst (λ x. Appends old new x) (sym (append-nil front) ∙ (ap (λ x. front ++ x) (sym (nothing_left rest e)) ∙ p)) a

-- a write that took nothing appended nothing
pub took_nothing : {E : Type 0} (old mid new : Option (List ℕ)) (front buf : List ℕ) (r : Result ℕ E) (n : ℕ) → Appends old mid front → WriteAppends mid new r buf → r ≡ Ok n → n ≡ 0 → Appends old new front
took_nothing old mid new front buf r n p q e z =
    subst (λ x. Appends old new x) (append-nil front) (appends_twice old mid new front [] p (subst (λ r. WriteAppends mid new r buf) (e ∙ ap Ok z) q))

-- all that is left after n
pub left_after : (n : ℕ) (xs : List ℕ) → take (length xs - n) (drop n xs) ≡ drop n xs
left_after n xs = grind (arith, common_steps)
