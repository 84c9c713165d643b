-- Operands that are read one after the other, up to the first whose read isn't Ok.
use Rattle.std.proofs.Common.{◌≡◌, ◌∷◌, [], ◌++◌, refl, sym, ap, subst, ℕ, List, Result, Ok, Err, IfOk}
use Rattle.std.specs.Result.{IsErrAnd}
use Rattle.tc_io.specs.Store.{Read}
use Rattle.tc_io.specs.declared.StoreFault.{StoreFault}
use Rattle.tc_answer.specs.AnswersSeen.{IsUnread, IsFirstUnread}
use Rattle.tc_answer.specs.Reading.{StopsAt, at_first, past_first}
use Rattle.tc_answer.specs.Words.{Source}
use Rattle.tc_answer.specs.declared.read.Unread.{Unread}
use Rattle.tc_answer.specs.declared.read.Unread.TheVariants as u

-- nothing is said of the value of what was not read
pub no_value : {T E : Type 0} (r : Result T E) (P : T → Type 0) (Q : E → Type 0) → IsErrAnd r Q → IfOk r P
no_value (Ok v) P Q h = absurd h
no_value (Err e) P Q h = tt

-- the first operand is the one whose read isn't Ok
pub unread_first : (first : Source) (rest : List Source) (fault : StoreFault) (unread : Unread) → IsUnread first.word fault unread → IsFirstUnread (first ∷ rest) ((first.file, Err fault) ∷ []) unread
unread_first first rest fault (u.Unreadable named) h = (fault, at_first refl refl h.0, h.1)
unread_first first rest fault u.TooLong h = (first.word, at_first refl (ap (λ f. (first.file, Err f) ∷ []) h) refl)
unread_first first rest fault u.NoMemory h = (first.word, at_first refl (ap (λ f. (first.file, Err f) ∷ []) h) refl)

-- one of those behind an operand that was read
pub unread_later : (first : Source) (text : List ℕ) (rest : List Source) (more : List Read) (unread : Unread) → IsFirstUnread rest more unread → IsFirstUnread (first ∷ rest) ((first.file, Ok text) ∷ more) unread
unread_later first text rest more (u.Unreadable named) h = (h.0, past_first refl refl h.1, h.2)
unread_later first text rest more u.TooLong h = (h.0, past_first refl refl h.1)
unread_later first text rest more u.NoMemory h = (h.0, past_first refl refl h.1)

-- one of the first operands, and more behind them
stops_before : {sources : List Source} {reads : List Read} {word : List ℕ} {fault : StoreFault} (more : List Source) → StopsAt sources reads word fault → StopsAt (sources ++ more) reads word fault
stops_before more (at_first p q w) = at_first (ap (λ n. n ++ more) p) q w
stops_before more (past_first p q x) = past_first (ap (λ n. n ++ more) p) q (stops_before more x)

pub unread_before : (sources more : List Source) (reads : List Read) (unread : Unread) → IsFirstUnread sources reads unread → IsFirstUnread (sources ++ more) reads unread
unread_before sources more reads (u.Unreadable named) h = (h.0, stops_before more h.1, h.2)
unread_before sources more reads u.TooLong h = (h.0, stops_before more h.1)
unread_before sources more reads u.NoMemory h = (h.0, stops_before more h.1)

-- the same of an operand that another equals
pub first_as : (rest : List Source) (fault : StoreFault) (unread : Unread) (one other : Source) → one ≡ other → IsUnread one.word fault unread → IsFirstUnread (other ∷ rest) ((one.file, Err fault) ∷ []) unread
first_as rest fault unread one other same h = subst (λ w. IsFirstUnread (w ∷ rest) ((one.file, Err fault) ∷ []) unread) same (unread_first one rest fault unread h)

pub later_as : (text : List ℕ) (rest : List Source) (more : List Read) (unread : Unread) (one other : Source) → one ≡ other → IsFirstUnread rest more unread
    → IsFirstUnread (other ∷ rest) ((one.file, Ok text) ∷ more) unread
later_as text rest more unread one other same h = subst (λ w. IsFirstUnread (w ∷ rest) ((one.file, Ok text) ∷ more) unread) same (unread_later one text rest more unread h)

-- two operands that others equal
pub pair_unread : (reads : List Read) (unread : Unread) {one other first second : Source} → one ≡ first → other ≡ second → IsFirstUnread (one ∷ other ∷ []) reads unread
    → IsFirstUnread (first ∷ second ∷ []) reads unread
pair_unread reads unread {one} {other} {first} {second} p q h =
    subst (λ w. IsFirstUnread (first ∷ w ∷ []) reads unread) q (subst (λ w. IsFirstUnread (w ∷ other ∷ []) reads unread) p h)

-- what is so of names is so of those that operands keep
pub named : (P : List ℕ → List ℕ → Type 0) {a b c d : List ℕ} → c ≡ a → d ≡ b → P a b → P c d
named P {a} {b} {c} {d} p q h = subst (λ x. P x d) (sym p) (subst (P a) (sym q) h)

pub three_named : (P : List ℕ → List ℕ → List ℕ → Type 0) {a b c d e f : List ℕ} → d ≡ a → e ≡ b → f ≡ c → P a b c → P d e f
three_named P {a} {b} {c} {d} {e} {f} p q r h = subst (λ x. P x e f) (sym p) (subst (λ x. P a x f) (sym q) (subst (P a b) (sym r) h))
