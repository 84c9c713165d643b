-- Operands are read in order, and what is read of held files are their texts.
use Rattle.std.proofs.Common.{◌≡◌, ◌<◌, ◌≤◌, ◌⊎◌, ◌∷◌, [], ◌∙◌, inl, inr, refl, sym, subst, ap, ℕ, List, length, Option, Some, None, Ok, Err, arith}
use Rattle.tc_io.specs.Store.{Files, Came, Read, longest_file}
use Rattle.tc_io.specs.Reads.{IsTrue, AreTrue}
use Rattle.tc_io.specs.declared.StoreFault.{StoreFault}
use Rattle.tc_io.specs.declared.StoreFault.TheVariants.{Missing, Failed, TooLong, NoMemory}
use Rattle.tc_answer.specs.Reading.{StopsAt, at_first, past_first, IsUnreadable, AreRead}
use Rattle.tc_answer.specs.Words.{Source}

-- lists and reads that are the same

pub cons_same : {X : Type 0} {x y : X} {xs ys : List X} → x ∷ xs ≡ y ∷ ys → (x ≡ y) × (xs ≡ ys)
cons_same e = (cc, cc)

pub read_same : {a c : List ℕ} {b d : Came} {xs ys : List Read} → (a, b) ∷ xs ≡ (c, d) ∷ ys → (a ≡ c) × (b ≡ d) × (xs ≡ ys)
read_same e = let h = cons_same e in (ap (λ p. p.0) h.0, ap (λ p. p.1) h.0, h.1)

pub ok_same : (x y : List ℕ) → ◌≡◌ {A = Came} (Ok x) (Ok y) → x ≡ y
ok_same x y e = cc

pub err_same : (x y : StoreFault) → ◌≡◌ {A = Came} (Err x) (Err y) → x ≡ y
err_same x y e = cc

pub ok_err : (x : List ℕ) (y : StoreFault) → ◌≡◌ {A = Came} (Ok x) (Err y) → ⊥
ok_err x y e = absurd (cc)

-- reads that stop at a name, and not at another

pub one_stop : {sources others : List Source} {reads same : List Read} {word found : List ℕ} {fault other : StoreFault} → sources ≡ others → reads ≡ same → StopsAt sources reads word fault
    → StopsAt others same found other → (word ≡ found) × (fault ≡ other)
one_stop e f (at_first p q v) (at_first r s w) =
    let source = (cons_same (sym p ∙ (e ∙ r))).0 in
    (v ∙ (ap (λ x. x.word) source ∙ sym w), err_same _ _ (read_same (sym q ∙ (f ∙ s))).1)
one_stop e f (at_first p q v) (past_first r s x) = absurd (ok_err _ _ (sym (read_same (sym q ∙ (f ∙ s))).1))
one_stop e f (past_first p q x) (at_first r s w) = absurd (ok_err _ _ (read_same (sym q ∙ (f ∙ s))).1)
one_stop e f (past_first p q x) (past_first r s y) = one_stop (cons_same (sym p ∙ (e ∙ r))).1 (read_same (sym q ∙ (f ∙ s))).2 x y

-- reads of which each is Ok

abbrev IsWell : Came → Type 0
IsWell (Ok text) = Unit {0}
IsWell (Err fault) = ⊥

abbrev AreWell : List Read → Type 0
AreWell [] = Unit {0}
AreWell (read ∷ reads) = IsWell read.1 × AreWell reads

no_stop : {sources : List Source} {reads : List Read} {word : List ℕ} {fault : StoreFault} (well : List Read) → reads ≡ well → AreWell well → StopsAt sources reads word fault → ⊥
no_stop [] same w (at_first p q v) = absurd (cc)
no_stop [] same w (past_first p q x) = absurd (cc)
no_stop (read ∷ well) same w (at_first p q v) = let h = cons_same (sym same ∙ q) in subst (λ x. IsWell x.1) h.0 w.0
no_stop (read ∷ well) same w (past_first p q x) = let h = cons_same (sym same ∙ q) in no_stop well (sym h.1) w.1 x

read_well : (sources : List Source) (texts : List (List ℕ)) (reads : List Read) → AreRead sources texts reads → AreWell reads
read_well [] [] reads h = subst AreWell (sym h) tt
read_well [] (text ∷ texts) reads h = absurd h
read_well (source ∷ sources) [] reads h = absurd h
read_well (source ∷ sources) (text ∷ texts) [] h = absurd h
read_well (source ∷ sources) (text ∷ texts) (read ∷ reads) h = (subst (λ (r : Read). IsWell r.1) (sym h.0) tt, read_well sources texts reads h.1)

pub never_stops : {others : List Source} {reads : List Read} {word : List ℕ} {fault : StoreFault} (sources : List Source) (texts : List (List ℕ)) → AreRead sources texts reads
    → StopsAt others reads word fault → ⊥
never_stops {reads = reads} sources texts r s = no_stop reads refl (read_well sources texts reads r) s

-- what was read are these texts
text_same : {name other : List ℕ} {text found : List ℕ} (read : Read) → read ≡ (name, Ok text) → read ≡ (other, Ok found) → text ≡ found
text_same {name} {other} {text} {found} read p q = ok_same text found (ap (λ (r : Read). r.1) (sym p ∙ q))

pub one_texts : (sources : List Source) (texts others : List (List ℕ)) (reads : List Read) → AreRead sources texts reads → AreRead sources others reads → texts ≡ others
one_texts [] [] [] reads h k = refl
one_texts [] [] (other ∷ others) reads h k = absurd k
one_texts [] (text ∷ texts) others reads h k = absurd h
one_texts (source ∷ sources) [] others reads h k = absurd h
one_texts (source ∷ sources) (text ∷ texts) [] reads h k = absurd k
one_texts (source ∷ sources) (text ∷ texts) (other ∷ others) [] h k = absurd h
one_texts (source ∷ sources) (text ∷ texts) (other ∷ others) (read ∷ reads) h k =
    let first : text ≡ other = text_same read h.0 k.0 in
    let rest = one_texts sources texts others reads h.1 k.1 in
    ap (λ t. t ∷ texts) first ∙ ap (λ ts. other ∷ ts) rest

-- The sources are read in order up to the first read that isn't Ok, which isn't for want of memory.
pub data Follows : List Source → List Read → Type 0 where
  no_name : {sources : List Source} {reads : List Read} → sources ≡ [] → reads ≡ [] → Follows sources reads
  stops : {sources rest : List Source} {reads : List Read} {source : Source} {fault : StoreFault} → sources ≡ source ∷ rest → reads ≡ (source.file, Err fault) ∷ [] → (fault ≡ NoMemory → ⊥)
      → Follows sources reads
  goes_on : {sources rest : List Source} {reads more : List Read} {source : Source} {text : List ℕ} → sources ≡ source ∷ rest → reads ≡ (source.file, Ok text) ∷ more → Follows rest more
      → Follows sources reads

pub stop_follows : {sources : List Source} {reads : List Read} {word : List ℕ} {fault : StoreFault} → (fault ≡ NoMemory → ⊥) → StopsAt sources reads word fault → Follows sources reads
stop_follows n (at_first p q v) = stops p q n
stop_follows n (past_first p q x) = goes_on p q (stop_follows n x)

pub memory_no : (fault : StoreFault) → IsUnreadable fault → fault ≡ NoMemory → ⊥
memory_no Missing u e = absurd (cc)
memory_no Failed u e = absurd (cc)
memory_no TooLong u e = absurd u
memory_no NoMemory u e = absurd u

pub long_memory : TooLong ≡ NoMemory → ⊥
long_memory e = absurd (cc)

pub all_follow : (sources : List Source) (texts : List (List ℕ)) (reads : List Read) → AreRead sources texts reads → Follows sources reads
all_follow [] [] reads h = no_name refl h
all_follow [] (text ∷ texts) reads h = absurd h
all_follow (source ∷ sources) [] reads h = absurd h
all_follow (source ∷ sources) (text ∷ texts) [] h = absurd h
all_follow (source ∷ sources) (text ∷ texts) (read ∷ reads) h = goes_on refl (ap (λ r. r ∷ reads) h.0) (all_follow sources texts reads h.1)

-- of one file, two outcomes that are true where no read fails, and where some did

some_is : {A : Type 0} (x y : A) → Some x ≡ Some y → x ≡ y
some_is x y e = cc

same_bytes : {file : Option (List ℕ)} (one other : List ℕ) → file ≡ Some one → file ≡ Some other → one ≡ other
same_bytes one other p q = some_is _ _ (sym p ∙ q)

long_short : {file : Option (List ℕ)} (bytes long : List ℕ) → file ≡ Some bytes → length bytes ≤ longest_file → file ≡ Some long → longest_file < length long → ⊥
long_short bytes long p q r s =
    let same : length long ≡ length bytes = ap length (same_bytes long bytes r p) in
    omega (arith, q, s, same)

missing_some : {file : Option (List ℕ)} (bytes : List ℕ) → file ≡ None → file ≡ Some bytes → ⊥
missing_some bytes p q = let h = sym p ∙ q in absurd (cc)

same_came : (files : Files) (rose : Type 0) (name : List ℕ) (one other : Came) → (one ≡ Err NoMemory → ⊥) → (other ≡ Err NoMemory → ⊥) → IsTrue (Some files) ⊥ (name, one) → IsTrue (Some files) rose (name, other)
    → (one ≡ other) ⊎ ((other ≡ Err Failed) × rose)
same_came files rose name one (Err Failed) n m t u = inr (refl, u.failed refl)
same_came files rose name one (Err NoMemory) n m t u = absurd (m refl)
same_came files rose name (Err Failed) other n m t u = absurd (t.failed refl)
same_came files rose name (Err NoMemory) other n m t u = absurd (n refl)
same_came files rose name (Ok bytes) (Ok more) n m t u = inl (ap Ok (same_bytes bytes more (t.answers files refl) (u.answers files refl)))
same_came files rose name (Ok bytes) (Err Missing) n m t u = absurd (missing_some bytes (u.answers files refl) (t.answers files refl))
same_came files rose name (Ok bytes) (Err TooLong) n m t u = let l = u.answers files refl in absurd (long_short bytes l.0 (t.answers files refl) t.short l.1 l.2)
same_came files rose name (Err Missing) (Ok bytes) n m t u = absurd (missing_some bytes (t.answers files refl) (u.answers files refl))
same_came files rose name (Err Missing) (Err Missing) n m t u = inl refl
same_came files rose name (Err Missing) (Err TooLong) n m t u = let l = u.answers files refl in absurd (missing_some l.0 (t.answers files refl) l.1)
same_came files rose name (Err TooLong) (Ok bytes) n m t u = let l = t.answers files refl in absurd (long_short bytes l.0 (u.answers files refl) u.short l.1 l.2)
same_came files rose name (Err TooLong) (Err Missing) n m t u = let l = t.answers files refl in absurd (missing_some l.0 (u.answers files refl) l.1)
same_came files rose name (Err TooLong) (Err TooLong) n m t u = inl refl

-- the reads of the same sources in the same files are the same, or one of them failed
abbrev pub FailsIn : Type 0 → List Source → List Read → Type 0
FailsIn rose sources reads = rose × ((word : List ℕ) × StopsAt sources reads word Failed)

-- the first of the reads, and what follows it
data Goes (source : Source) (rest : List Source) : List Read → Type 0 where
  goes : {reads : List Read} (came : Came) (more : List Read) → reads ≡ (source.file, came) ∷ more → (came ≡ Err NoMemory → ⊥)
      → ((text : List ℕ) → came ≡ Ok text → Follows rest more) → ((fault : StoreFault) → came ≡ Err fault → more ≡ []) → Goes source rest reads

first_read : {source : Source} {rest sources : List Source} {reads : List Read} → sources ≡ source ∷ rest → Follows sources reads → Goes source rest reads
first_read same (no_name p q) = absurd (cc)
first_read same (stops {fault = fault} p q n) =
    let first = (cons_same (sym p ∙ same)).0 in
    goes (Err fault) [] (q ∙ ap (λ x. (x.file, Err fault) ∷ []) first) (λ e. n (err_same _ _ e)) (λ text e. absurd (ok_err _ _ (sym e))) (λ other e. refl)
first_read same (goes_on {more = more} {text = text} p q x) =
    let both = cons_same (sym p ∙ same) in
    goes (Ok text) more (q ∙ ap (λ y. (y.file, Ok text) ∷ more) both.0) (λ e. ok_err _ _ e) (λ other e. subst (λ y. Follows y more) both.1 x) (λ fault e. absurd (ok_err _ _ e))

pub no_reads : {sources : List Source} {reads : List Read} → sources ≡ [] → Follows sources reads → reads ≡ []
no_reads same (no_name p q) = q
no_reads same (stops p q n) = absurd (cc)
no_reads same (goes_on p q x) = absurd (cc)

pub true_at : (told : Option Files) (rose : Type 0) {reads others : List Read} → reads ≡ others → AreTrue told rose reads → AreTrue told rose others
true_at told rose same t = subst (AreTrue told rose) same t

abbrev HasSameReads : Files → Type 0 → List Source → Type 0
HasSameReads files rose sources = (one other : List Read) → Follows sources one → Follows sources other → AreTrue (Some files) ⊥ one → AreTrue (Some files) rose other
    → (one ≡ other) ⊎ FailsIn rose sources other

-- behind a first read that is the same
same_behind : (files : Files) (rose : Type 0) (source : Source) (sources : List Source) (one other : List Read) (came : Came) (more others : List Read) → one ≡ (source.file, came) ∷ more → other ≡ (source.file, came) ∷ others
    → ((text : List ℕ) → came ≡ Ok text → Follows sources more) → ((fault : StoreFault) → came ≡ Err fault → more ≡ [])
    → ((text : List ℕ) → came ≡ Ok text → Follows sources others) → ((fault : StoreFault) → came ≡ Err fault → others ≡ [])
    → AreTrue (Some files) ⊥ more → AreTrue (Some files) rose others → HasSameReads files rose sources → (one ≡ other) ⊎ FailsIn rose (source ∷ sources) other
same_behind files rose source sources one other (Ok text) more others p q f g h i t u again = by (again more others (f text refl) (h text refl) t u)
  where
    by : (more ≡ others) ⊎ FailsIn rose sources others → (one ≡ other) ⊎ FailsIn rose (source ∷ sources) other
    by (inl same) = inl (p ∙ (ap (λ x. (source.file, Ok text) ∷ x) same ∙ sym q))
    by (inr fails) = inr (fails.0, (fails.1.0, past_first refl q fails.1.1))
same_behind files rose source sources one other (Err fault) more others p q f g h i t u again = inl (p ∙ (ap (λ x. (source.file, Err fault) ∷ x) (g fault refl ∙ sym (i fault refl)) ∙ sym q))

same_first : (files : Files) (rose : Type 0) (source : Source) (sources : List Source) (one other : List Read) → Goes source sources one → Goes source sources other → AreTrue (Some files) ⊥ one
    → AreTrue (Some files) rose other → HasSameReads files rose sources → (one ≡ other) ⊎ FailsIn rose (source ∷ sources) other
same_first files rose source sources one other (goes came more p n f g) (goes found others q m h i) t u again = by (same_came files rose source.file came found n m (true_at (Some files) ⊥ p t).0 (true_at (Some files) rose q u).0)
  where
    by : (came ≡ found) ⊎ ((found ≡ Err Failed) × rose) → (one ≡ other) ⊎ FailsIn rose (source ∷ sources) other
    by (inl same) =
        same_behind files rose source sources one other found more others (p ∙ ap (λ x. (source.file, x) ∷ more) same) q (λ text e. f text (same ∙ e)) (λ fault e. g fault (same ∙ e)) h i
        (true_at (Some files) ⊥ p t).1 (true_at (Some files) rose q u).1 again
    by (inr (failed, r)) =
        inr (r, (source.word, at_first refl (q ∙ (ap (λ x. (source.file, x) ∷ others) failed ∙ ap (λ x. (source.file, Err Failed) ∷ x) (i Failed failed))) refl))

pub same_reads : (files : Files) (rose : Type 0) (sources : List Source) → HasSameReads files rose sources
same_reads files rose [] one other a b t u = inl (no_reads refl a ∙ sym (no_reads refl b))
same_reads files rose (source ∷ sources) one other a b t u = same_first files rose source sources one other (first_read refl a) (first_read refl b) t u (same_reads files rose sources)

-- held files, and their texts
pub data AreHeld (files : Files) : List Source → List (List ℕ) → Type 0 where
  no_file : AreHeld files [] []
  holds : {source : Source} {text : List ℕ} {sources : List Source} {texts : List (List ℕ)} → files source.file ≡ Some text → AreHeld files sources texts → AreHeld files (source ∷ sources) (text ∷ texts)

-- none of them is longer than a file may be
pub data AreShort : List (List ℕ) → Type 0 where
  none_long : AreShort []
  is_short : {text : List ℕ} {texts : List (List ℕ)} → length text ≤ longest_file → AreShort texts → AreShort (text ∷ texts)

-- what was read of held files are their texts
pub held_texts : (files : Files) (rose : Type 0) (sources : List Source) (texts found : List (List ℕ)) (reads : List Read) → AreHeld files sources texts → AreRead sources found reads → AreTrue (Some files) rose reads
    → found ≡ texts
held_texts files rose [] [] [] reads no_file r true = refl
held_texts files rose [] [] (other ∷ others) reads no_file r true = absurd r
held_texts files rose [] (text ∷ texts) found reads none r true = elim none [ ]
held_texts files rose (source ∷ sources) [] found reads none r true = elim none [ ]
held_texts files rose (source ∷ sources) (text ∷ texts) [] reads (holds h hs) r true = absurd r
held_texts files rose (source ∷ sources) (text ∷ texts) (other ∷ others) [] (holds h hs) r true = absurd r
held_texts files rose (source ∷ sources) (text ∷ texts) (other ∷ others) (read ∷ reads) (holds h hs) r true =
    let first : IsTrue (Some files) rose (source.file, Ok other) = subst (IsTrue (Some files) rose) r.0 true.0 in
    let same : other ≡ text = same_bytes other text (first.answers files refl) h in
    ap (λ t. t ∷ others) same ∙ ap (λ ts. text ∷ ts) (held_texts files rose sources texts others reads hs r.1 true.1)

-- held files that are short enough are read well, or a read failed

pub held_true : (files : Files) (name bytes : List ℕ) → files name ≡ Some bytes → length bytes ≤ longest_file → IsTrue (Some files) ⊥ (name, Ok bytes)
held_true files name bytes held short = record {
  answers = λ other same. let h : files ≡ other = cc in subst (λ (f : Files). f name ≡ Some bytes) h held;
  short = short;
  failed = λ e. ok_err _ _ e;
  untold = λ e. absurd (let none = e in cc);
}

-- the reads of held files
abbrev pub well : List Source → List (List ℕ) → List Read
well [] texts = []
well (source ∷ sources) [] = []
well (source ∷ sources) (text ∷ texts) = (source.file, Ok text) ∷ well sources texts

pub well_read : (files : Files) (sources : List Source) (texts : List (List ℕ)) → AreHeld files sources texts → AreRead sources texts (well sources texts)
well_read files [] [] no_file = refl
well_read files [] (text ∷ texts) none = elim none [ ]
well_read files (source ∷ sources) [] none = elim none [ ]
well_read files (source ∷ sources) (text ∷ texts) (holds h hs) = (refl, well_read files sources texts hs)

pub well_true : (files : Files) (sources : List Source) (texts : List (List ℕ)) → AreHeld files sources texts → AreShort texts → AreTrue (Some files) ⊥ (well sources texts)
well_true files [] [] no_file s = tt
well_true files [] (text ∷ texts) none s = elim none [ ]
well_true files (source ∷ sources) [] none s = elim none [ ]
well_true files (source ∷ sources) (text ∷ texts) (holds h hs) (is_short s ss) = (held_true files source.file text h s, well_true files sources texts hs ss)

-- what was read is all that
pub reads_are : (sources : List Source) (texts : List (List ℕ)) (reads : List Read) → AreRead sources texts reads → reads ≡ well sources texts
reads_are [] [] reads h = h
reads_are [] (text ∷ texts) reads h = absurd h
reads_are (source ∷ sources) [] reads h = absurd h
reads_are (source ∷ sources) (text ∷ texts) [] h = absurd h
reads_are (source ∷ sources) (text ∷ texts) (read ∷ reads) h = ap (λ r. r ∷ reads) h.0 ∙ ap (λ rs. (source.file, Ok text) ∷ rs) (reads_are sources texts reads h.1)
