-- Reads one after the other.
use Rattle.std.proofs.Common.{◌≡◌, ◌≤◌, ◌⊎◌, ◌∙◌, refl, ap, subst, inl, inr, ℕ, List, [], ◌∷◌, ◌++◌, length, Vec, Option, Some, None, Result, Ok, Err, IfOk, arith}
use Rattle.tc_io.specs.Faults.{Rose}
use Rattle.tc_io.specs.Store.{Files, Came, came, Read, AreReads, Answers, longest_file}
use Rattle.tc_io.specs.Reads.{IsTrue, AreTrue, Happened}
use Rattle.tc_io.specs.declared.StoreFault.{StoreFault}
use Rattle.tc_io.specs.declared.StoreFault.TheVariants.{Missing, Failed, TooLong}
use Rattle.tc_io.proofs.Fronts.{rose_then, then_rose}

-- where the count of faults rose for more reasons
pub true_wider : {told other : Option Files} {rose more : Type 0} {read : Read} → told ≡ other → (rose → more) → IsTrue told rose read → IsTrue other more read
true_wider same wider t = record {
  answers = λ files is. t.answers files (same ∙ is);
  short = t.short;
  failed = λ e. wider (t.failed e);
  untold = λ none e. wider (t.untold (same ∙ none) e);
}

pub all_wider : {told other : Option Files} {rose more : Type 0} (reads : List Read) → told ≡ other → (rose → more) → AreTrue told rose reads → AreTrue other more reads
all_wider [] same wider a = a
all_wider (read ∷ reads) same wider a = (true_wider same wider a.0, all_wider reads same wider a.1)

pub all_both : (told : Option Files) (rose : Type 0) (one other : List Read) → AreTrue told rose one → AreTrue told rose other → AreTrue told rose (one ++ other)
all_both told rose [] other a b = b
all_both told rose (read ∷ one) other a b = (a.0, all_both told rose one other a.1 b)

module _ {S : Type 0} (gives : S → List ℕ → Came → S → Type 0) (holds : S → Option Files) (faults : S → ℕ) where
  pub reads_both : (old mid new : S) (one other : List Read) → AreReads gives old one mid → AreReads gives mid other new → AreReads gives old (one ++ other) new
  reads_both old mid new [] other a b = subst (λ s. AreReads gives s other new) a b
  reads_both old mid new (read ∷ one) other a b = (a.0, a.1, reads_both a.0 mid new one other a.2 b)

  -- no read
  pub happened_nothing : (s : S) → Happened gives holds faults s s []
  happened_nothing s = record { made = refl; true = tt; held = refl; count = omega arith }

  -- one read
  pub happened_once : (old new : S) (name : List ℕ) (came : Came) → gives old name came new → holds new ≡ holds old → faults old ≤ faults new
      → IsTrue (holds old) (Rose (faults old) (faults new)) (name, came) → Happened gives holds faults old new ((name, came) ∷ [])
  happened_once old new name came g h n t = record { made = (new, g, refl); true = (t, tt); held = h; count = n }

  -- some reads, and then others
  pub happened_both : (old mid new : S) (one other : List Read) → Happened gives holds faults old mid one → Happened gives holds faults mid new other
      → Happened gives holds faults old new (one ++ other)
  happened_both old mid new one other a b = record {
    made = reads_both old mid new one other a.made b.made;
    true = all_both (holds old) (Rose (faults old) (faults new)) one other
        (all_wider one refl (λ rose. rose_then (faults old) (faults mid) (faults new) a.count rose b.count) a.true)
        (all_wider other a.held (λ rose. then_rose (faults old) (faults mid) (faults new) a.count rose) b.true);
    held = b.held ∙ a.held;
    count = omega (arith, a.count, b.count);
  }

-- what came was that fault, and so was the answer
came_fault : {Z : Type 0} (result : Result (Vec ℕ Z) StoreFault) (fault : StoreFault) → came result ≡ Err fault → result ≡ Err fault
came_fault (Ok bytes) fault e = absurd (cc e)
came_fault (Err other) fault e = let same : other ≡ fault = cc e in ap Err same

came_short : {Z : Type 0} (result : Result (Vec ℕ Z) StoreFault) → IfOk result (λ bytes. length bytes.items ≤ longest_file) → IfOk (came result) (λ bytes. length bytes ≤ longest_file)
came_short (Ok bytes) h = h
came_short (Err fault) h = tt

-- a read as a store promises it
pub true_read : {Z : Type 0} (told : Option Files) (rose : Type 0) (name : List ℕ) (result : Result (Vec ℕ Z) StoreFault)
    → ((files : Files) → told ≡ Some files → Answers (files name) (came result)) → IfOk result (λ bytes. length bytes.items ≤ longest_file)
    → (result ≡ Err Failed → rose) → (told ≡ None → (result ≡ Err Missing) ⊎ (result ≡ Err TooLong) → rose) → IsTrue told rose (name, came result)
true_read told rose name result answers short failed untold = record {
  answers = answers;
  short = came_short result short;
  failed = λ e. failed (came_fault result Failed e);
  untold = λ none e. untold none (by e);
}
  where
    by : (came result ≡ Err Missing) ⊎ (came result ≡ Err TooLong) → (result ≡ Err Missing) ⊎ (result ≡ Err TooLong)
    by (inl e) = inl (came_fault result Missing e)
    by (inr e) = inr (came_fault result TooLong e)
