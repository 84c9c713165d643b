-- Files of a store in memory that are looked up, replaced and added.
use Rattle.std.proofs.Common.{◌≡◌, ◌≢◌, ◌+◌, ℕ, zero, suc, List, [], ◌∷◌, ◌++◌, append-nil, add-one, take, drop, sym, ap, ◌∙◌, refl, Option, None, Some, Bool, true, false, if◌then◌else◌, slice_get, string_bytes}
use Rattle.std.proofs.Math.ListN.{set}
use Rattle.std.specs.Str.{bytes_eq}
use Rattle.std.proofs.lemmas.Bool.{false_from_ne_true}
use Rattle.std.proofs.lemmas.List.{map-append}
use Rattle.std.proofs.lemmas.Slice.Eq.{bytes_eq-Decides}
use Rattle.tc_io.specs.MemStore.{File, file_of}
use Rattle.tc_io.specs.HeldFile.{entry, entries, IsPlace}
use Rattle.tc_io.specs.declared.memory.HeldFile.{HeldFile}

no_first : (t : Bool) (x : List ℕ) (rest : Option (List ℕ)) → (if t then Some x else rest) ≡ None → (t ≡ false) × (rest ≡ None)
no_first true x rest h = absurd (cc h)
no_first false x rest h = (refl, h)

-- files without the name are passed by
pub file_of-after : (a b : List File) (name : List ℕ) → file_of a name ≡ None → file_of (a ++ b) name ≡ file_of b name
file_of-after [] b name h = refl
file_of-after (file ∷ a) b name h =
    let no = no_first (bytes_eq name file.0) file.1 (file_of a name) h in
    ap (λ t. if t then Some file.1 else file_of (a ++ b) name) no.0 ∙ file_of-after a b name no.1

-- what stands before makes no difference
pub file_of-before : (a b c : List File) (name : List ℕ) → file_of b name ≡ file_of c name → file_of (a ++ b) name ≡ file_of (a ++ c) name
file_of-before [] b c name h = h
file_of-before (file ∷ a) b c name h = ap (λ o. if bytes_eq name file.0 then Some file.1 else o) (file_of-before a b c name h)

pub file_of-first : (name held bytes : List ℕ) (rest : List File) → bytes_eq name held ≡ true → file_of ((held, bytes) ∷ rest) name ≡ Some bytes
file_of-first name held bytes rest h = ap (λ t. if t then Some bytes else file_of rest name) h

pub file_of-next : (name held bytes : List ℕ) (rest : List File) → bytes_eq name held ≡ false → file_of ((held, bytes) ∷ rest) name ≡ file_of rest name
file_of-next name held bytes rest h = ap (λ t. if t then Some bytes else file_of rest name) h

-- the entry at a place, between those before and after it
pub entries_at : (files : List HeldFile) (i : ℕ) (file : HeldFile) → slice_get files i ≡ Some file
    → entries files ≡ entries (take i files) ++ (entry file ∷ entries (drop (suc i) files))
entries_at [] i file h = absurd (cc h)
entries_at (f ∷ files) zero file h = let same : f ≡ file = cc h in ap (λ x. entry x ∷ entries files) same
entries_at (f ∷ files) (suc i) file h = ap (λ x. entry f ∷ x) (entries_at files i file h)

pub entries_set : (files : List HeldFile) (i : ℕ) (file new : HeldFile) → slice_get files i ≡ Some file
    → entries (set files i new) ≡ entries (take i files) ++ (entry new ∷ entries (drop (suc i) files))
entries_set [] i file new h = absurd (cc h)
entries_set (f ∷ files) zero file new h = refl
entries_set (f ∷ files) (suc i) file new h = ap (λ x. entry f ∷ x) (entries_set files i file new h)

-- what the file at the place of a name holds
pub file_of_place : (files : List HeldFile) (name : List ℕ) (i : ℕ) (p : IsPlace files name i) → file_of (entries files) name ≡ Some p.file.bytes.items
file_of_place files name i p =
    ap (λ x. file_of x name) (entries_at files i p.file p.at_place)
    ∙ (file_of-after (entries (take i files)) _ name p.none_before
    ∙ file_of-first name (string_bytes p.file.name) p.file.bytes.items _ p.named)

-- the bytes of the file at a place are replaced: the name has them, and the other names what they had
pub replaced : (files : List HeldFile) (name : List ℕ) (i : ℕ) (new : HeldFile) (p : IsPlace files name i) → string_bytes new.name ≡ string_bytes p.file.name
    → file_of (entries (set files i new)) name ≡ Some new.bytes.items
replaced files name i new p same =
    ap (λ x. file_of x name) (entries_set files i p.file new p.at_place)
    ∙ (file_of-after (entries (take i files)) _ name p.none_before
    ∙ file_of-first name (string_bytes new.name) new.bytes.items _ (ap (λ x. bytes_eq name x) same ∙ p.named))

other_name : (other name held : List ℕ) → other ≢ name → bytes_eq name held ≡ true → bytes_eq other held ≡ false
other_name other name held differ h = false_from_ne_true _ (λ e. differ ((bytes_eq-Decides other held).0 e ∙ sym ((bytes_eq-Decides name held).0 h)))

pub others_stay : (files : List HeldFile) (name : List ℕ) (i : ℕ) (new : HeldFile) (p : IsPlace files name i) → string_bytes new.name ≡ string_bytes p.file.name
    → (other : List ℕ) → other ≢ name → file_of (entries (set files i new)) other ≡ file_of (entries files) other
others_stay files name i new p same other differ =
    let old = other_name other name (string_bytes p.file.name) differ p.named in
    let now = ap (λ x. bytes_eq other x) same ∙ old in
    let after = entries (drop (suc i) files) in
    ap (λ x. file_of x other) (entries_set files i p.file new p.at_place)
    ∙ (file_of-before (entries (take i files)) (entry new ∷ after) (entry p.file ∷ after) other
    (file_of-next other (string_bytes new.name) new.bytes.items after now ∙ sym (file_of-next other (string_bytes p.file.name) p.file.bytes.items after old))
    ∙ ap (λ x. file_of x other) (sym (entries_at files i p.file p.at_place)))

-- a file is added under a name that wasn't held
pub added : (files : List HeldFile) (name : List ℕ) (new : HeldFile) → file_of (entries files) name ≡ None → string_bytes new.name ≡ name
    → file_of (entries (files ++ new ∷ [])) name ≡ Some new.bytes.items
added files name new none same =
    ap (λ x. file_of x name) (map-append entry files (new ∷ []))
    ∙ (file_of-after (entries files) (entry new ∷ []) name none
    ∙ file_of-first name (string_bytes new.name) new.bytes.items [] ((bytes_eq-Decides name (string_bytes new.name)).1 (sym same)))

pub others_stay_beside : (files : List HeldFile) (name : List ℕ) (new : HeldFile) → string_bytes new.name ≡ name
    → (other : List ℕ) → other ≢ name → file_of (entries (files ++ new ∷ [])) other ≡ file_of (entries files) other
others_stay_beside files name new same other differ =
    let no : bytes_eq other (string_bytes new.name) ≡ false = other_name other name (string_bytes new.name) differ ((bytes_eq-Decides name (string_bytes new.name)).1 (sym same)) in
    ap (λ x. file_of x other) (map-append entry files (new ∷ []))
    ∙ (file_of-before (entries files) (entry new ∷ []) [] other (file_of-next other (string_bytes new.name) new.bytes.items [] no)
    ∙ ap (λ x. file_of x other) (append-nil (entries files)))

pub entries_more : (files : List HeldFile) (i : ℕ) (file : HeldFile) → slice_get files i ≡ Some file
    → entries (take (suc i) files) ≡ entries (take i files) ++ (entry file ∷ [])
entries_more [] i file h = absurd (cc h)
entries_more (f ∷ files) zero file h = let same : f ≡ file = cc h in ap (λ x. entry x ∷ []) same
entries_more (f ∷ files) (suc i) file h = ap (λ x. entry f ∷ x) (entries_more files i file h)

-- one more file without the name
pub one_more : (files : List HeldFile) (name : List ℕ) (i : ℕ) (file : HeldFile) → slice_get files i ≡ Some file → bytes_eq name (string_bytes file.name) ≡ false
    → file_of (entries (take i files)) name ≡ None → file_of (entries (take (i + 1) files)) name ≡ None
one_more files name i file h differ none =
    ap (λ n. file_of (entries (take n files)) name) (add-one i)
    ∙ (ap (λ x. file_of x name) (entries_more files i file h)
    ∙ (file_of-after (entries (take i files)) (entry file ∷ []) name none
    ∙ file_of-next name (string_bytes file.name) file.bytes.items [] differ))

-- what is told isn't untold
pub not_told : {X : Type 0} {P : Type 0} (x : X) → Some x ≡ None → P
not_told x e = absurd (cc)
