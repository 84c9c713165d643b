-- What a store in memory says of a file whose state is known.
use Rattle.std.proofs.Common.{◌≡◌, ◌≤◌, ◌<◌, ◌^◌, ℕ, Bool, false, subst, List, length, Option, None, Some, sym, ap, ◌∙◌, arith}
use Rattle.std.specs.Prelude.{IsTrue, ◌↔◌}
use Rattle.std.proofs.lemmas.Bool.{false≢true}
use Rattle.tc_io.specs.Faults.{Rose, raised}
use Rattle.tc_io.specs.HeldFile.{entries}
use Rattle.tc_io.specs.declared.memory.HeldFile.{HeldFile}
use Rattle.tc_io.proofs.Rooms.{raised_rose, raised_more}
use Rattle.tc_io.specs.MemStore.{File, StoreState, file_of, NextFails}
use Rattle.tc_io.specs.Store.{Files, IsTooLong, IsReadable, longest_file}

-- what is told of the files holds of those that are told
pub as_told : {all files : Files} {name : List ℕ} {o : Option (List ℕ)} → Some all ≡ Some files → all name ≡ o → files name ≡ o
as_told {all} {files} {name} e h = let same : files ≡ all = cc in ap (λ f. f name) same ∙ h

pub none_some : {P : Type 0} {file : Option (List ℕ)} {bytes : List ℕ} → file ≡ Some bytes → file ≡ None → P
none_some h e = absurd (cc)

pub none_long : {P : Type 0} {file : Option (List ℕ)} → file ≡ None → IsTooLong file → P
none_long h e = none_some e.1 h

pub none_readable : {P : Type 0} {file : Option (List ℕ)} → file ≡ None → IsReadable file → P
none_readable h e = none_some e.1 h

same_bytes : {file : Option (List ℕ)} {a b : List ℕ} → file ≡ Some a → file ≡ Some b → a ≡ b
same_bytes h e = cc

pub short_long : {P : Type 0} {file : Option (List ℕ)} {bytes : List ℕ} → file ≡ Some bytes → length bytes ≤ longest_file → IsTooLong file → P
short_long h s e = let same = ap length (same_bytes h e.1) in let more = e.2 in absurd (omega arith)

pub long_readable : {P : Type 0} {file : Option (List ℕ)} {bytes : List ℕ} → file ≡ Some bytes → longest_file < length bytes → IsReadable file → P
long_readable h l e = let same = ap length (same_bytes h e.1) in let less = e.2 in absurd (omega arith)

-- a store, part by part
abbrev store : List File → ℕ → List ℕ → ℕ → StoreState
store files calls failing faults = record { files = files; calls = calls; failing = failing; faults = faults }

pub store_is : (files : List File) (calls calls' : ℕ) (failing failing' : List ℕ) (faults faults' : ℕ) → calls ≡ calls' → failing ≡ failing' → faults ≡ faults'
    → store files calls failing faults ≡ store files calls' failing' faults'
store_is files calls calls' failing failing' faults faults' p q r = cc (p, q, r)

-- what is seen of a store, from what lies in it
pub seen_held : {seen : StoreState} {calls faults : ℕ} {failing : List ℕ} {files looked : List HeldFile} {o : Option (List ℕ)} (name : List ℕ) → store (entries files) calls failing faults ≡ seen → looked ≡ files
    → file_of (entries looked) name ≡ o → file_of seen.files name ≡ o
seen_held name v s h = ap (λ (t : StoreState). file_of t.files name) (sym v) ∙ (ap (λ x. file_of (entries x) name) (sym s) ∙ h)

pub seen_count : {inside seen : StoreState} → inside ≡ seen → seen.faults ≤ inside.faults
seen_count v = let same = ap (λ (t : StoreState). t.faults) v in omega arith

pub same_files : {inside seen : StoreState} → inside ≡ seen → Some (file_of inside.files) ≡ Some (file_of seen.files)
same_files v = ap (λ (t : StoreState). Some (file_of t.files)) v

pub seen_rose : {inside seen : StoreState} {new : ℕ} → inside ≡ seen → new ≡ raised inside.faults → Rose seen.faults new
seen_rose {inside} {seen} {new} v e = subst (λ (t : StoreState). Rose t.faults new) v (raised_rose inside.faults new e)

pub seen_more : {inside seen : StoreState} {new : ℕ} → inside ≡ seen → inside.faults < 2 ^ 64 → new ≡ raised inside.faults → seen.faults ≤ new
seen_more {inside} {seen} {new} v r e = subst (λ (t : StoreState). t.faults ≤ new) v (raised_more inside.faults new r e)

pub seen_fails : {P : Type 0} {inside seen : StoreState} {fails : Bool} → inside ≡ seen → IsTrue fails ↔ NextFails inside → fails ≡ false → NextFails seen → P
seen_fails v f h n = absurd (false≢true (sym h ∙ f.1 (subst NextFails (sym v) n)))

pub store_is_seen : {files new : List File} {calls faults : ℕ} {failing : List ℕ} {seen : StoreState} → store files calls failing faults ≡ seen → new ≡ files → store new calls failing faults ≡ seen
store_is_seen {files} {new} {calls} {faults} {failing} v e = ap (λ x. store x calls failing faults) e ∙ v
