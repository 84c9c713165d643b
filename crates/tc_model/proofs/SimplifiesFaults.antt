-- A syntax tree has at most one fault, and then no grammar.
use Rattle.std.proofs.Common.{◌≡◌, ℕ, ap, arith, Option, None, Some}
use Rattle.tc_model.specs.CompactSyntaxTrees.{Syntax}
use Rattle.tc_model.specs.SimplifiesFaults.{IsAcyclic, IsLoop, twice, undefined, loop, bad_except, bad_start}
use Rattle.tc_model.specs.SimplifiesLaws.{HasOneFault, HasNoGrammar}
use Rattle.tc_model.proofs.CompactSyntaxClassesUnique.{same_some, some_none}

differ : {X : Type 0} {o : Option ℕ} {place : ℕ} → o ≡ Some place → o ≡ None → X
differ a b = absurd (some_none a b)

loops : {s : Syntax} {X : Type 0} {place : ℕ} → IsLoop s place → IsAcyclic s → X
loops {place = place} a b = absurd (b place a.0)

same_loop : (s : Syntax) (m n : ℕ) → IsLoop s m → IsLoop s n → m ≡ n
same_loop s m n a b = omega (arith, a.1 n b.0, b.1 m a.0)

pub one_fault : HasOneFault
one_fault s (twice m) (twice n) a b = ap twice (same_some a b)
one_fault s (twice m) (undefined n) a b = differ a b.0
one_fault s (twice m) (loop n) a b = differ a b.0
one_fault s (twice m) (bad_except n) a b = differ a b.0
one_fault s (twice m) (bad_start n) a b = differ a b.0
one_fault s (undefined m) (twice n) a b = differ b a.0
one_fault s (undefined m) (undefined n) a b = ap undefined (same_some a.1 b.1)
one_fault s (undefined m) (loop n) a b = differ a.1 b.1
one_fault s (undefined m) (bad_except n) a b = differ a.1 b.1
one_fault s (undefined m) (bad_start n) a b = differ a.1 b.1
one_fault s (loop m) (twice n) a b = differ b a.0
one_fault s (loop m) (undefined n) a b = differ b.1 a.1
one_fault s (loop m) (loop n) a b = ap loop (same_loop s m n a.2 b.2)
one_fault s (loop m) (bad_except n) a b = loops a.2 b.2
one_fault s (loop m) (bad_start n) a b = loops a.2 b.2
one_fault s (bad_except m) (twice n) a b = differ b a.0
one_fault s (bad_except m) (undefined n) a b = differ b.1 a.1
one_fault s (bad_except m) (loop n) a b = loops b.2 a.2
one_fault s (bad_except m) (bad_except n) a b = ap bad_except (same_some a.3 b.3)
one_fault s (bad_except m) (bad_start n) a b = differ a.3 b.3
one_fault s (bad_start m) (twice n) a b = differ b a.0
one_fault s (bad_start m) (undefined n) a b = differ b.1 a.1
one_fault s (bad_start m) (loop n) a b = loops b.2 a.2
one_fault s (bad_start m) (bad_except n) a b = differ b.3 a.3
one_fault s (bad_start m) (bad_start n) a b = ap bad_start (same_some a.4.first b.4.first)

pub no_grammar : HasNoGrammar
no_grammar s (twice m) g a b = differ a b.faultless.once
no_grammar s (undefined m) g a b = differ a.1 b.faultless.defined
no_grammar s (loop m) g a b = loops a.2 b.faultless.acyclic
no_grammar s (bad_except m) g a b = differ a.3 b.faultless.excepts
no_grammar s (bad_start m) g a b = absurd (b.faultless.start m a.4)
