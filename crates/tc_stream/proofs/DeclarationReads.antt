-- What a character makes of an XML declaration, which begins with white space behind `<?xml`.
use Rattle.std.proofs.Common.{◌≡◌, ℕ, ◌≤◌, ◌+◌, true, false, cond, ◌==◌, suc, List, [], ◌∷◌, ◌++◌, refl, ap, ◌∙◌, sym, subst, length, arith, codes, Option, None, IsTrue, length-append}
use Rattle.std.specs.Prelude.{encode_utf8}
use Rattle.tc_base.specs.Characters.{is_char, is_white}
use Rattle.tc_base.specs.declared.Place.{Place}
use Rattle.tc_base.specs.declared.reasons.Why.{Why}
use Rattle.tc_model.specs.Grammars.{Grammar}
use Rattle.tc_model.specs.Names.{IsChars}
use Rattle.tc_model.specs.XmlTextBytes.{BeginsWithWhite}
use Rattle.tc_model.specs.XmlTextRefusals.{unsupported}
use Rattle.tc_model.proofs.XmlTextChars.{one_char}
use Rattle.tc_stream.specs.Outcomes.{refused}
use Rattle.tc_stream.specs.Declarations.{Declaring, between, Declared, more, whole, unread, undeclared, setting_behind, begun_word, may_end, declared_next, declaring, declaration_on, declaration_scan}
use Rattle.tc_stream.specs.Declaring.{IsDeclaring, LiesBefore}
use Rattle.tc_stream.specs.Faults.{IsFaultOfFront}
use Rattle.tc_stream.specs.Phases.{past_front}
use Rattle.tc_stream.specs.Stands.{ReadsTo, Tells}
use Rattle.tc_stream.specs.Targeting.{IsTargeting}
use Rattle.tc_stream.specs.Targeting as kept
use Rattle.tc_stream.specs.Targets.{then_white, targeted_next}
use Rattle.tc_stream.specs.declared.declarations.Declaration.{Declaration}
use Rattle.tc_stream.specs.declared.declarations.Declaration.TheVariants as states
use Rattle.tc_stream.specs.declared.faults.StreamFault.{StreamFault}
use Rattle.tc_stream.specs.declared.faults.StreamFault.TheVariants as faults
use Rattle.tc_stream.specs.declared.parts.Part.TheVariants as parts
use Rattle.tc_stream.specs.declared.phases.Phase.TheVariants as phases
use Rattle.tc_stream.specs.declared.reader.Reader.{Reader}
use Rattle.tc_stream.specs.declared.words.Word.{Word}
use Rattle.tc_stream.proofs.DeclarationChars.{as_scan, declaration_char}
use Rattle.tc_stream.proofs.DeclarationSteps.{declaration_step, unread_step, declaration_broken}
use Rattle.tc_stream.proofs.SplitLaws.{white_begins}
use Rattle.tc_stream.proofs.TagExtendLaws.{white_begins_kept}
use Rattle.tc_stream.proofs.TargetReads.{IsTarget, white_of, white_byte}
use Rattle.tc_stream.proofs.ReadingLaws.{pending_with, refusal_reads, tells_with}
use Rattle.tc_stream.proofs.PendingLaws.{Stays, Passes, pends_of, may_of, nonempty, grows, ends, breaks, told_past, step_at, none_at, one_at}

-- what is kept of a declaration that stands behind so many bytes stands for its bytes
abbrev pub IsDeclared : ℕ → Declaration → List ℕ → Type 0
IsDeclared n known w =
    (state : Declaring) × (behind : List ℕ) × (w ≡ codes "<?xml" ++ behind) × BeginsWithWhite behind × (declaration_scan (between None false) (n + 5) behind ≡ declaring state) × IsDeclaring known state × LiesBefore (n + length w) known

-- it begins

first_white : (p c : ℕ) → is_white c ≡ true → declaration_scan (between None false) p (c ∷ []) ≡ declaring (between None true)
first_white p c h =
    ap (λ x. declaration_on (cond x (more (between None true)) (cond (c == 0x3F) (may_end None) (cond false (begun_word (setting_behind None c) p) undeclared))) (λ k. declaration_scan k (suc p) []) []) h

pub declaration_begins : {x : Grammar} {old new : Reader} {chars : List ℕ} {target : Option Word} {known : Declaration} (name : Word) (c : ℕ) → Stays old new → old.part ≡ parts.Target target → new.part ≡ parts.Declaration known
    → ((state : Option (List ℕ)) → IsTargeting target state → (written : List ℕ) × (targeted_next state c ≡ then_white written) × kept.Keeps name written)
    → ((written : List ℕ) → kept.Keeps name written → (old.phase ≡ phases.Front) × (written ≡ codes "xml")) → IsDeclaring known (between None true) → ((most : ℕ) → LiesBefore most known) → IsTrue (is_char c) → ReadsTo x old chars → ReadsTo x new (chars ++ encode_utf8 c)
declaration_begins {x} {old} {new} {chars} {target} {known} name c stays at is tells xml stands lies char r = by (pends_of r at)
  where
    by : IsTarget target r.pending → ReadsTo x new (chars ++ encode_utf8 c)
    by (state, so_far, item, is_so_far, k) =
        let (written, next, keeps) = tells state k in
        let ended = white_of state so_far c written is_so_far next in
        let (front, is_xml) = xml written keeps in
        let named : so_far ≡ codes "xml" = sym ended.is ∙ is_xml in
        let there : r.pending ++ encode_utf8 c ≡ codes "<?xml" ++ c ∷ [] =
        ap (λ z. z ++ encode_utf8 c) (item ∙ ap (λ z. codes "<?" ++ z) named) ∙ ap (λ z. codes "<?xml" ++ z) (white_byte c ended.next) in
        grows c r char stays at is (nonempty item) refl front
        (between None true, c ∷ [], there, white_begins c [] ended.next, first_white (length r.before + 5) c ended.next, stands, lies (length r.before + length (r.pending ++ encode_utf8 c)))

-- one character more

scanned_char : (n : ℕ) (behind : List ℕ) (c place : ℕ) (state : Declaring) (d : Declared) → declaration_scan (between None false) (n + 5) behind ≡ declaring state → n + 5 + length behind ≡ place
    → declared_next state place c (encode_utf8 c) ≡ d → declaration_scan (between None false) (n + 5) (behind ++ encode_utf8 c) ≡ as_scan d
scanned_char n behind c place state d e here next = declaration_char (n + 5) behind state c e ∙ (ap (λ p. as_scan (declared_next state p c (encode_utf8 c))) here ∙ ap as_scan next)

lies_more : (m n : ℕ) (known : Declaration) → m ≤ n → LiesBefore m known → LiesBefore n known
lies_more m n (states.Between set white) low h = tt
lies_more m n (states.InWord setting count at) low h = omega (arith, low, h)
lies_more m n (states.Equals setting at) low h = omega (arith, low, h)
lies_more m n (states.Literal setting at quote value) low h = omega (arith, low, h)
lies_more m n (states.Ending at) low h = omega (arith, low, h)

-- where it stands
place_here : {x : Grammar} {s : Reader} {chars : List ℕ} (r : ReadsTo x s chars) (behind : List ℕ) (place : ℕ) → r.pending ≡ codes "<?xml" ++ behind → length chars ≡ place → length r.before + 5 + length behind ≡ place
place_here {chars = chars} r behind place item here = omega (arith, here, ap length r.parts_are, length-append r.before r.pending, ap length item)

whole_item : (w behind : List ℕ) (c : ℕ) → w ≡ codes "<?xml" ++ behind → w ++ encode_utf8 c ≡ codes "<?xml" ++ (behind ++ encode_utf8 c)
whole_item w behind c item = ap (λ z. z ++ encode_utf8 c) item

pub declaration_goes_on : {x : Grammar} {old new : Reader} {chars : List ℕ} {known later : Declaration} (c place : ℕ) → Stays old new → old.part ≡ parts.Declaration known → new.part ≡ parts.Declaration later → length chars ≡ place
    → ((state : Declaring) → IsDeclaring known state → (next : Declaring) × (declared_next state place c (encode_utf8 c) ≡ more next) × IsDeclaring later next)
    → ((most : ℕ) → LiesBefore most known → place ≤ most → LiesBefore most later) → IsTrue (is_char c) → ReadsTo x old chars → ReadsTo x new (chars ++ encode_utf8 c)
declaration_goes_on {x} {old} {new} {chars} {known} c place stays at is here tells lies char r = by (pends_of r at)
  where
    by : IsDeclared (length r.before) known r.pending → ReadsTo x new (chars ++ encode_utf8 c)
    by (state, behind, item, white, scanned, k, low) =
        let (next, more_is, l) = tells state k in
        let most : ℕ = length r.before + length (r.pending ++ encode_utf8 c) in
        let within : place ≤ most = omega (arith, here, ap length r.parts_are, length-append r.before r.pending, length-append r.pending (encode_utf8 c)) in
        let less : length r.before + length r.pending ≤ most = omega (arith, length-append r.pending (encode_utf8 c)) in
        grows c r char stays at is (nonempty item) refl (may_of r at) (
          next,
          behind ++ encode_utf8 c,
          whole_item r.pending behind c item,
          white_begins_kept behind (encode_utf8 c) white,
          scanned_char (length r.before) behind c place state (more next) scanned (place_here r behind place item here) more_is,
          l,
          lies most (lies_more (length r.before + length r.pending) most known less low) within,
        )

-- it ends

pub declaration_ends : {x : Grammar} {old new : Reader} {chars : List ℕ} {known : Declaration} (c place : ℕ) → Passes old new → old.part ≡ parts.Declaration known → new.part ≡ parts.Between → length chars ≡ place
    → ((state : Declaring) → IsDeclaring known state → declared_next state place c (encode_utf8 c) ≡ whole) → IsTrue (is_char c) → ReadsTo x old chars → ReadsTo x new (chars ++ encode_utf8 c)
declaration_ends {x} {old} {new} {chars} {known} c place passes at is here tells char r = by (pends_of r at)
  where
    by : IsDeclared (length r.before) known r.pending → ReadsTo x new (chars ++ encode_utf8 c)
    by (state, behind, item, white, scanned, k, low) =
        let item_is = whole_item r.pending behind c item in
        let chars_are : IsChars (codes "<?xml" ++ (behind ++ encode_utf8 c)) = subst IsChars item_is (pending_with (encode_utf8 c) r (one_char c char)) in
        let end = scanned_char (length r.before) behind c place state whole scanned (place_here r behind place item here) (tells state k) in
        let now : new.phase ≡ phases.Prolog = passes.phase ∙ ap past_front (may_of r at) in
        let told : Tells x [] parts.Between old.elements (past_front old.phase) r.standing = told_past (tells_with r (parts.Declaration known) parts.Between [] at refl) in
        ends c r.standing r char is refl tt
        (subst (λ p. Tells x [] parts.Between new.elements p r.standing) (sym passes.phase) (subst (λ z. Tells x [] parts.Between z (past_front old.phase) r.standing) (sym passes.elements) told))
        (step_at (length r.before) (r.pending ++ encode_utf8 c) (codes "<?xml" ++ (behind ++ encode_utf8 c)) old.phase new.phase phases.Front phases.Prolog r.standing r.standing item_is (may_of r at) now
        (λ f o. declaration_step (length r.before) (behind ++ encode_utf8 c) f r.standing o chars_are (white_begins_kept behind (encode_utf8 c) white) end))

-- there is none

pub declaration_breaks : {x : Grammar} {s : Reader} {chars : List ℕ} {known : Declaration} {e : StreamFault} {stop : Place} (c place : ℕ) → s.part ≡ parts.Declaration known → length chars ≡ place
    → ((state : Declaring) → IsDeclaring known state → declared_next state place c (encode_utf8 c) ≡ undeclared) → ((most : ℕ) → LiesBefore most known → place ≤ most → stop.0 ≤ most) → e ≡ faults.Malformed stop
    → IsTrue (is_char c) → ReadsTo x s chars → IsFaultOfFront (chars ++ encode_utf8 c) e
declaration_breaks {x} {s} {chars} {known} {e} {stop} c place at here tells lies is char r = by (pends_of r at)
  where
    by : IsDeclared (length r.before) known r.pending → IsFaultOfFront (chars ++ encode_utf8 c) e
    by (state, behind, item, white, scanned, k, low) =
        let item_is = whole_item r.pending behind c item in
        let chars_are : IsChars (codes "<?xml" ++ (behind ++ encode_utf8 c)) = subst IsChars item_is (pending_with (encode_utf8 c) r (one_char c char)) in
        let end = scanned_char (length r.before) behind c place state undeclared scanned (place_here r behind place item here) (tells state k) in
        let so_far : length r.before + length r.pending ≡ length chars = sym (ap length r.parts_are ∙ length-append r.before r.pending) in
        let within : place ≤ length chars = omega (arith, here) in
        let room : stop.0 ≤ length chars = lies (length chars) (subst (λ n. LiesBefore n known) so_far low) within in
        breaks c r is (omega (arith, room))
        (none_at (length r.before) (r.pending ++ encode_utf8 c) (codes "<?xml" ++ (behind ++ encode_utf8 c)) s.phase phases.Front r.standing item_is (may_of r at)
        (λ f o g. declaration_broken (length r.before) (behind ++ encode_utf8 c) f r.standing o chars_are (white_begins_kept behind (encode_utf8 c) white) end g))

-- it is one of another version or encoding

pub declaration_refuses : {x : Grammar} {s : Reader} {chars : List ℕ} {known : Declaration} {why : Why} (stop : Place) (c place : ℕ) → s.part ≡ parts.Declaration known → length chars ≡ place
    → ((state : Declaring) → IsDeclaring known state → declared_next state place c (encode_utf8 c) ≡ unread why stop.0) → IsTrue (is_char c) → ReadsTo x s chars → IsFaultOfFront (chars ++ encode_utf8 c) (faults.Unsupported stop why)
declaration_refuses {x} {s} {chars} {known} {why} stop c place at here tells char r = by (pends_of r at)
  where
    by : IsDeclared (length r.before) known r.pending → IsFaultOfFront (chars ++ encode_utf8 c) (faults.Unsupported stop why)
    by (state, behind, item, white, scanned, k, low) =
        let item_is = whole_item r.pending behind c item in
        let chars_are : IsChars (codes "<?xml" ++ (behind ++ encode_utf8 c)) = subst IsChars item_is (pending_with (encode_utf8 c) r (one_char c char)) in
        let end = scanned_char (length r.before) behind c place state (unread why stop.0) scanned (place_here r behind place item here) (tells state k) in
        refusal_reads (encode_utf8 c) r stop why
        (one_at (length r.before) (r.pending ++ encode_utf8 c) (codes "<?xml" ++ (behind ++ encode_utf8 c)) s.phase phases.Front r.standing (refused (unsupported why) stop.0) item_is (may_of r at)
        (λ f o. unread_step (length r.before) (behind ++ encode_utf8 c) f r.standing why stop.0 o chars_are (white_begins_kept behind (encode_utf8 c) white) end))
