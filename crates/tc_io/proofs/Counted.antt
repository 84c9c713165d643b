-- When the count of a store over the files of the system rises, and that of a sink over a writer.
use Rattle.std.proofs.Common.{◌≡◌, ℕ, List, Vec, Option, Result, Ok, Err, OnOk, OnErr, true, false, is_err, IsErrOf, refl, ap, ◌∙◌}
use Rattle.std.specs.Io.KnownBytes.{Appends}
use Rattle.tc_io.specs.Faults.{raised}
use Rattle.tc_io.specs.RealSink.{WriterState, AppendsFront, Reaches}
use Rattle.tc_io.specs.RealStore.{Counts}
use Rattle.tc_io.specs.Sink.{Wrote}
use Rattle.tc_io.specs.Store.{came}
use Rattle.tc_io.specs.declared.StoreFault.{StoreFault}

pub counted_error : {Z : Type 0} (r : Result (Vec ℕ Z) StoreFault) {inside seen new : ℕ} (name : List ℕ) → is_err r ≡ true → inside ≡ seen → new ≡ raised inside → Counts seen name (came r) new
counted_error (Ok bytes) name h v e = absurd (cc h)
counted_error (Err fault) name h v e = e ∙ ap raised v

pub counted_bytes : {Z : Type 0} (r : Result (Vec ℕ Z) StoreFault) (count : ℕ) (name : List ℕ) → is_err r ≡ false → Counts count name (came r) count
counted_bytes (Ok bytes) count name h = refl
counted_bytes (Err fault) count name h = absurd (cc h)

pub no_error : {T E P : Type 0} (r : Result T E) {e : E} → is_err r ≡ false → IsErrOf r e → P
no_error (Ok x) h e = absurd (cc e)
no_error (Err x) h e = absurd (cc h)

pub reaches_front : {W : Type 0} (contents : W → Option (List ℕ)) (old new : WriterState W) (piece : List ℕ) (r : Wrote) → is_err r ≡ true → new.faults ≡ raised old.faults
    → OnErr r (AppendsFront (contents old.out) (contents new.out) piece) → Reaches contents old piece r new
reaches_front contents old new piece (Ok x) h n front = absurd (cc h)
reaches_front contents old new piece (Err x) h n front = (n, front)

pub reaches_whole : {W : Type 0} (contents : W → Option (List ℕ)) (old new : WriterState W) (piece : List ℕ) (r : Wrote) → is_err r ≡ false → new.faults ≡ old.faults
    → OnOk r (Appends (contents old.out) (contents new.out) piece) → Reaches contents old piece r new
reaches_whole contents old new piece (Ok x) h n all = (n, all)
reaches_whole contents old new piece (Err x) h n all = absurd (cc h)
