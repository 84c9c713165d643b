use Rattle.std.proofs.Common.{vec_len, ◌++◌, ◌≡◌, ◌≤◌, ◌-◌, ◌+◌, ℕ, length, take, sym, subst, arith}
use Rattle.std.specs.Io.KnownBytes.{Consumes}
use Rattle.tc_io.specs.Store.{longest_file}
use Rattle.tc_io.proofs.Causes.{value_no_cause, failed_not_too_long, failed_not_missing, no_memory_not_too_long, no_memory_not_missing, too_long_not_missing}
use Rattle.tc_io.proofs.KnownBytes.{consumes_nothing, consumes_twice, consumes_kept, consumed_all, consumed_longer}
use Rattle.tc_io.proofs.Rooms.{no_error_done, len_done, items_done}
use Rattle.tc_io.proofs.real.read_to_end.Goals as goal
use Rattle.tc_io.proofs.real.read_to_end.Goals.{in-Ok-2+else-is_err, in-Err}
use borrow.Author.Count.{falls}

no_bytes_short : (n : ℕ) → n ≡ 0 → n ≤ longest_file
no_bytes_short n e = omega arith

more_short : (len told n took new : ℕ) → len ≤ longest_file → told ≡ len → n ≤ longest_file - told → n ≡ took → new ≡ len + took → new ≤ longest_file
more_short len told n took new s t l e m = omega arith

pub loop-init : goal.loop-init
loop-init g c = record {
  short = no_bytes_short _ c.new-bytes.ensures.len;
  so_far = subst (λ x. Consumes (g.F.Read.remaining c.args.file.now) (g.F.Read.remaining c.args.file.now) x) (sym c.new-bytes.ensures.items) (consumes_nothing (g.F.Read.remaining c.args.file.now));
}

pub returns-in-Ok-eq0-clause-bound : goal.returns-in-Ok-eq0-clause-bound
returns-in-Ok-eq0-clause-bound g c = subst (λ n. n ≤ longest_file) c.loop.bytes.ok.0 c.loop.invariant.short

pub returns-in-Ok-eq0-clause-whole : goal.returns-in-Ok-eq0-clause-whole
returns-in-Ok-eq0-clause-whole g c = consumed_all _ _ (g.F.Read.remaining c.read.new.self) c.loop.bytes.items c.read.new.buf c.read.result c.in-Ok-eq0.field-0 c.loop.invariant.so_far c.read.ensures.bytes c.in-Ok-eq0.is c.in-Ok-eq0.field-0-test (omega arith)

pub returns-in-Ok-eq0-clause-too_long : goal.returns-in-Ok-eq0-clause-too_long
returns-in-Ok-eq0-clause-too_long g c = value_no_cause

pub returns-in-Ok-eq0-clause-not_missing : goal.returns-in-Ok-eq0-clause-not_missing
returns-in-Ok-eq0-clause-not_missing g c = value_no_cause

pub overflow_sub-len : goal.overflow_sub-len
overflow_sub-len g c = subst (λ n. n ≤ longest_file) (sym c.len.ensures) c.loop.invariant.short

pub returns-in-Ok-clause-not_missing : goal.returns-in-Ok-clause-not_missing
returns-in-Ok-clause-not_missing g c = too_long_not_missing

pub slice_bounds-chunk-end : goal.slice_bounds-chunk-end
slice_bounds-chunk-end g c = c.in-Ok.ensures.bound.0

pub slice_bounds-extend_from_slice-end : goal.slice_bounds-extend_from_slice-end
slice_bounds-extend_from_slice-end g c = c.in-Ok.ensures.bound.1

pub returns-then-is_err-clause-too_long : goal.returns-then-is_err-clause-too_long
returns-then-is_err-clause-too_long g c = no_memory_not_too_long

pub returns-then-is_err-clause-not_missing : goal.returns-then-is_err-clause-not_missing
returns-then-is_err-clause-not_missing g c = no_memory_not_missing

pub returns-in-Err-2-clause-too_long : goal.returns-in-Err-2-clause-too_long
returns-in-Err-2-clause-too_long g c = failed_not_too_long

pub returns-in-Err-2-clause-not_missing : goal.returns-in-Err-2-clause-not_missing
returns-in-Err-2-clause-not_missing g c = failed_not_missing

pub returns-clause-too_long : goal.returns-clause-too_long
returns-clause-too_long g c = failed_not_too_long

pub returns-clause-not_missing : goal.returns-clause-not_missing
returns-clause-not_missing g c = failed_not_missing

pub loop-smaller : goal.loop-smaller
loop-smaller g c = falls _ c.loop.counter c.loop-test.true

pub returns-in-Ok-clause-too_long : goal.returns-in-Ok-clause-too_long
returns-in-Ok-clause-too_long g c =
    let took = take c.in-Ok.count c.read.new.buf in
    let len : c.in-Ok.count ≡ length took = c.in-Ok.ensures.bound.1 in
    λ _. consumed_longer (g.F.Read.remaining c.args.file.now) (g.F.Read.remaining c.loop.file) (g.F.Read.remaining c.read.new.self) c.loop.bytes.items took _
    c.loop.invariant.so_far c.in-Ok.ensures.bytes.0 (omega arith)

pub returns-in-Ok-clause-whole : goal.returns-in-Ok-clause-whole
returns-in-Ok-clause-whole g c = tt

pub loop-preserved : goal.loop-preserved
loop-preserved g c =
    let before = c.loop.invariant in
    elim c.match-read.branch [
      | in-Ok-2+else-is_err w ↦
          let took = take w.in-Ok.count c.read.new.buf in
          let done = no_error_done w.is_err.ensures.negation w.if-is_err.false in
          let len : vec_len w.extend_from_slice.new.self ≡ vec_len c.loop.bytes + length took = len_done (vec_len c.loop.bytes) (length took) w.extend_from_slice.ensures.len done in
          let items : w.extend_from_slice.new.self.items ≡ c.loop.bytes.items ++ took = items_done c.loop.bytes.items took w.extend_from_slice.ensures.items done in
          record {
            short = more_short (vec_len c.loop.bytes) _ w.in-Ok.count _ _ before.short w.len.ensures w.if-len-count.false w.in-Ok.ensures.bound.1 (subst (λ v. vec_len v ≡ vec_len c.loop.bytes + length took) (sym w.bytes-is) len);
            so_far = subst (λ v. Consumes (g.F.Read.remaining c.args.file.now) (g.F.Read.remaining c.read.new.self) v.items) (sym w.bytes-is) (subst (λ x. Consumes (g.F.Read.remaining c.args.file.now) (g.F.Read.remaining c.read.new.self) x) (sym items)
                (consumes_twice (g.F.Read.remaining c.args.file.now) (g.F.Read.remaining c.loop.file) (g.F.Read.remaining c.read.new.self) c.loop.bytes.items took before.so_far w.in-Ok.ensures.bytes.0));
          }
      | in-Err w ↦ record {
        short = subst (λ v. vec_len v ≤ longest_file) (sym w.bytes-is) before.short;
        so_far = subst (λ v. Consumes (g.F.Read.remaining c.args.file.now) (g.F.Read.remaining c.read.new.self) v.items) (sym w.bytes-is)
            (consumes_kept (g.F.Read.remaining c.args.file.now) (g.F.Read.remaining c.loop.file) (g.F.Read.remaining c.read.new.self) c.loop.bytes.items before.so_far w.in-Err.ensures.bytes);
      }
    ]
