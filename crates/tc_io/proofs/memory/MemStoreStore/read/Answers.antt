use Rattle.std.proofs.Common.{◌≤◌, Some, Ok, Err, ap, sym, refl, subst, ◌∙◌, arith, length, option_map}
use Rattle.tc_io.specs.MemStore.{StoreState, NextFails, after_read}
use Rattle.tc_io.specs.Store.{longest_file}
use Rattle.tc_io.specs.declared.StoreFault.TheVariants.{Missing, Failed, TooLong, NoMemory}
use Rattle.tc_io.proofs.Causes.{missing_not_failed, too_long_not_failed, no_memory_not_failed, value_no_cause}
use Rattle.tc_io.proofs.Files.{not_told}
use Rattle.tc_io.proofs.HeldFacts.{as_told, none_some, none_long, none_readable, short_long, long_readable, store_is, seen_held, seen_count, seen_fails, seen_rose, seen_more, same_files}
use Rattle.tc_io.proofs.memory.MemStoreStore.read.Goals as goal

pub returns-in_default-clause-gives : goal.returns-in_default-clause-gives
returns-in_default-clause-gives c = record { served = seen_held c.args.name.now c.self.view_is c.as_slice.ensures.value (sym c.bytes_of.ensures ∙ ap (λ o. option_map (λ bytes. bytes.now) o) c.in_default.is); after = store_is _ _ _ _ _ _ _ c.next_fails-fails.ensures.so_far c.next_fails-fails.ensures.failing refl ∙ ap (λ (s : StoreState). after_read s (Err Missing)) c.self.view_is }

pub returns-in_default-clause-same : goal.returns-in_default-clause-same
returns-in_default-clause-same c = same_files c.self.view_is

pub returns-in_default-clause-count : goal.returns-in_default-clause-count
returns-in_default-clause-count c = seen_count c.self.view_is

pub returns-in_default-clause-told : goal.returns-in_default-clause-told
returns-in_default-clause-told c = λ files e. as_told e (seen_held c.args.name.now c.self.view_is c.as_slice.ensures.value (sym c.bytes_of.ensures ∙ ap (λ o. option_map (λ bytes. bytes.now) o) c.in_default.is))

pub returns-in_default-clause-missing : goal.returns-in_default-clause-missing
returns-in_default-clause-missing c = λ files e none. refl

pub returns-in_default-clause-too_long : goal.returns-in_default-clause-too_long
returns-in_default-clause-too_long c = λ files e long. none_long (as_told e (seen_held c.args.name.now c.self.view_is c.as_slice.ensures.value (sym c.bytes_of.ensures ∙ ap (λ o. option_map (λ bytes. bytes.now) o) c.in_default.is))) long

pub returns-in_default-clause-failed : goal.returns-in_default-clause-failed
returns-in_default-clause-failed c = missing_not_failed

pub returns-in_default-clause-untold : goal.returns-in_default-clause-untold
returns-in_default-clause-untold c = λ e cause. not_told _ e

pub returns-in_default-clause-fails : goal.returns-in_default-clause-fails
returns-in_default-clause-fails c = λ readable fails. none_readable (seen_held c.args.name.now c.self.view_is c.as_slice.ensures.value (sym c.bytes_of.ensures ∙ ap (λ o. option_map (λ bytes. bytes.now) o) c.in_default.is)) readable

pub returns-then-bytes-gt-LONGEST_FILE-clause-gives : goal.returns-then-bytes-gt-LONGEST_FILE-clause-gives
returns-then-bytes-gt-LONGEST_FILE-clause-gives c = record { served = (c.in-Some.bytes.now, seen_held c.args.name.now c.self.view_is c.as_slice.ensures.value (sym c.in-Some.ensures), c.if-bytes-gt-LONGEST_FILE.true); after = store_is _ _ _ _ _ _ _ c.next_fails-fails.ensures.so_far c.next_fails-fails.ensures.failing refl ∙ ap (λ (s : StoreState). after_read s (Err TooLong)) c.self.view_is }

pub returns-then-bytes-gt-LONGEST_FILE-clause-same : goal.returns-then-bytes-gt-LONGEST_FILE-clause-same
returns-then-bytes-gt-LONGEST_FILE-clause-same c = same_files c.self.view_is

pub returns-then-bytes-gt-LONGEST_FILE-clause-count : goal.returns-then-bytes-gt-LONGEST_FILE-clause-count
returns-then-bytes-gt-LONGEST_FILE-clause-count c = seen_count c.self.view_is

pub returns-then-bytes-gt-LONGEST_FILE-clause-told : goal.returns-then-bytes-gt-LONGEST_FILE-clause-told
returns-then-bytes-gt-LONGEST_FILE-clause-told c = λ files e. (c.in-Some.bytes.now, as_told e (seen_held c.args.name.now c.self.view_is c.as_slice.ensures.value (sym c.in-Some.ensures)), c.if-bytes-gt-LONGEST_FILE.true)

pub returns-then-bytes-gt-LONGEST_FILE-clause-missing : goal.returns-then-bytes-gt-LONGEST_FILE-clause-missing
returns-then-bytes-gt-LONGEST_FILE-clause-missing c = λ files e none. none_some (as_told e (seen_held c.args.name.now c.self.view_is c.as_slice.ensures.value (sym c.in-Some.ensures))) none

pub returns-then-bytes-gt-LONGEST_FILE-clause-too_long : goal.returns-then-bytes-gt-LONGEST_FILE-clause-too_long
returns-then-bytes-gt-LONGEST_FILE-clause-too_long c = λ files e long. refl

pub returns-then-bytes-gt-LONGEST_FILE-clause-failed : goal.returns-then-bytes-gt-LONGEST_FILE-clause-failed
returns-then-bytes-gt-LONGEST_FILE-clause-failed c = too_long_not_failed

pub returns-then-bytes-gt-LONGEST_FILE-clause-untold : goal.returns-then-bytes-gt-LONGEST_FILE-clause-untold
returns-then-bytes-gt-LONGEST_FILE-clause-untold c = λ e cause. not_told _ e

pub returns-then-bytes-gt-LONGEST_FILE-clause-fails : goal.returns-then-bytes-gt-LONGEST_FILE-clause-fails
returns-then-bytes-gt-LONGEST_FILE-clause-fails c = λ readable fails. long_readable (seen_held c.args.name.now c.self.view_is c.as_slice.ensures.value (sym c.in-Some.ensures)) c.if-bytes-gt-LONGEST_FILE.true readable

pub returns-then-fails-clause-gives : goal.returns-then-fails-clause-gives
returns-then-fails-clause-gives c = record { served = ((c.in-Some.bytes.now, seen_held c.args.name.now c.self.view_is c.as_slice.ensures.value (sym c.in-Some.ensures), c.if-bytes-gt-LONGEST_FILE.false), subst NextFails c.self.view_is (c.if-fails.ensures.fails.0 refl)); after = store_is _ _ _ _ _ _ _ c.next_fails-fails.ensures.so_far c.next_fails-fails.ensures.failing c.saturating_add-self-inside.ensures ∙ ap (λ (s : StoreState). after_read s (Err Failed)) c.self.view_is }

pub returns-then-fails-clause-same : goal.returns-then-fails-clause-same
returns-then-fails-clause-same c = same_files c.self.view_is

pub returns-then-fails-clause-count : goal.returns-then-fails-clause-count
returns-then-fails-clause-count c = seen_more c.self.view_is (omega arith) c.saturating_add-self-inside.ensures

pub returns-then-fails-clause-told : goal.returns-then-fails-clause-told
returns-then-fails-clause-told c = λ files e. (c.in-Some.bytes.now, as_told e (seen_held c.args.name.now c.self.view_is c.as_slice.ensures.value (sym c.in-Some.ensures)), c.if-bytes-gt-LONGEST_FILE.false)

pub returns-then-fails-clause-missing : goal.returns-then-fails-clause-missing
returns-then-fails-clause-missing c = λ files e none. none_some (as_told e (seen_held c.args.name.now c.self.view_is c.as_slice.ensures.value (sym c.in-Some.ensures))) none

pub returns-then-fails-clause-too_long : goal.returns-then-fails-clause-too_long
returns-then-fails-clause-too_long c = λ files e long. short_long (as_told e (seen_held c.args.name.now c.self.view_is c.as_slice.ensures.value (sym c.in-Some.ensures))) c.if-bytes-gt-LONGEST_FILE.false long

pub returns-then-fails-clause-failed : goal.returns-then-fails-clause-failed
returns-then-fails-clause-failed c = λ h. seen_rose c.self.view_is c.saturating_add-self-inside.ensures

pub returns-then-fails-clause-untold : goal.returns-then-fails-clause-untold
returns-then-fails-clause-untold c = λ e cause. not_told _ e

pub returns-then-fails-clause-fails : goal.returns-then-fails-clause-fails
returns-then-fails-clause-fails c = λ readable fails. refl

pub returns-in-Ok-clause-gives : goal.returns-in-Ok-clause-gives
returns-in-Ok-clause-gives c = record { served = (seen_held c.args.name.now c.self.view_is c.as_slice.ensures.value (sym c.in-Some.ensures) ∙ ap Some (sym c.in-Ok.ensures.items), λ fails. seen_fails c.self.view_is c.next_fails-fails.ensures.fails c.if-fails.false fails); after = store_is _ _ _ _ _ _ _ c.next_fails-fails.ensures.so_far c.next_fails-fails.ensures.failing refl ∙ ap (λ (s : StoreState). after_read s (Ok c.in-Ok.copy.items)) c.self.view_is }

pub returns-in-Ok-clause-same : goal.returns-in-Ok-clause-same
returns-in-Ok-clause-same c = same_files c.self.view_is

pub returns-in-Ok-clause-count : goal.returns-in-Ok-clause-count
returns-in-Ok-clause-count c = seen_count c.self.view_is

pub returns-in-Ok-clause-bound : goal.returns-in-Ok-clause-bound
returns-in-Ok-clause-bound c = subst (λ x. length x ≤ longest_file) (sym c.in-Ok.ensures.items) c.if-bytes-gt-LONGEST_FILE.false

pub returns-in-Ok-clause-told : goal.returns-in-Ok-clause-told
returns-in-Ok-clause-told c = λ files e. as_told e (seen_held c.args.name.now c.self.view_is c.as_slice.ensures.value (sym c.in-Some.ensures) ∙ ap Some (sym c.in-Ok.ensures.items))

pub returns-in-Ok-clause-missing : goal.returns-in-Ok-clause-missing
returns-in-Ok-clause-missing c = λ files e none. none_some (as_told e (seen_held c.args.name.now c.self.view_is c.as_slice.ensures.value (sym c.in-Some.ensures))) none

pub returns-in-Ok-clause-too_long : goal.returns-in-Ok-clause-too_long
returns-in-Ok-clause-too_long c = λ files e long. short_long (as_told e (seen_held c.args.name.now c.self.view_is c.as_slice.ensures.value (sym c.in-Some.ensures))) c.if-bytes-gt-LONGEST_FILE.false long

pub returns-in-Ok-clause-failed : goal.returns-in-Ok-clause-failed
returns-in-Ok-clause-failed c = value_no_cause

pub returns-in-Ok-clause-untold : goal.returns-in-Ok-clause-untold
returns-in-Ok-clause-untold c = λ e cause. not_told _ e

pub returns-in-Ok-clause-fails : goal.returns-in-Ok-clause-fails
returns-in-Ok-clause-fails c = λ readable fails. seen_fails c.self.view_is c.next_fails-fails.ensures.fails c.if-fails.false fails

pub returns-in-Err-clause-gives : goal.returns-in-Err-clause-gives
returns-in-Err-clause-gives c = record { served = ((c.in-Some.bytes.now, seen_held c.args.name.now c.self.view_is c.as_slice.ensures.value (sym c.in-Some.ensures), c.if-bytes-gt-LONGEST_FILE.false), λ fails. seen_fails c.self.view_is c.next_fails-fails.ensures.fails c.if-fails.false fails); after = store_is _ _ _ _ _ _ _ c.next_fails-fails.ensures.so_far c.next_fails-fails.ensures.failing refl ∙ ap (λ (s : StoreState). after_read s (Err NoMemory)) c.self.view_is }

pub returns-in-Err-clause-same : goal.returns-in-Err-clause-same
returns-in-Err-clause-same c = same_files c.self.view_is

pub returns-in-Err-clause-count : goal.returns-in-Err-clause-count
returns-in-Err-clause-count c = seen_count c.self.view_is

pub returns-in-Err-clause-told : goal.returns-in-Err-clause-told
returns-in-Err-clause-told c = λ files e. (c.in-Some.bytes.now, as_told e (seen_held c.args.name.now c.self.view_is c.as_slice.ensures.value (sym c.in-Some.ensures)), c.if-bytes-gt-LONGEST_FILE.false)

pub returns-in-Err-clause-missing : goal.returns-in-Err-clause-missing
returns-in-Err-clause-missing c = λ files e none. none_some (as_told e (seen_held c.args.name.now c.self.view_is c.as_slice.ensures.value (sym c.in-Some.ensures))) none

pub returns-in-Err-clause-too_long : goal.returns-in-Err-clause-too_long
returns-in-Err-clause-too_long c = λ files e long. short_long (as_told e (seen_held c.args.name.now c.self.view_is c.as_slice.ensures.value (sym c.in-Some.ensures))) c.if-bytes-gt-LONGEST_FILE.false long

pub returns-in-Err-clause-failed : goal.returns-in-Err-clause-failed
returns-in-Err-clause-failed c = no_memory_not_failed

pub returns-in-Err-clause-untold : goal.returns-in-Err-clause-untold
returns-in-Err-clause-untold c = λ e cause. not_told _ e

pub returns-in-Err-clause-fails : goal.returns-in-Err-clause-fails
returns-in-Err-clause-fails c = λ readable fails. seen_fails c.self.view_is c.next_fails-fails.ensures.fails c.if-fails.false fails
