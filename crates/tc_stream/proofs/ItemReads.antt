-- How comments, processing instructions and CDATA sections are read on, and end.
use Rattle.std.proofs.Common.{◌≡◌, ◌≢◌, ℕ, ◌≤◌, ◌+◌, ◌-◌, Bool, ◌&&◌, List, [], ◌∷◌, ◌++◌, refl, ap, ◌∙◌, sym, subst, length, take, arith, codes, append_assoc, append-nil}
use Rattle.std.specs.Prelude.{◌↔◌, replicate}
use Rattle.std.specs.List.{list_all}
use Rattle.tc_base.specs.Characters.{is_white}
use Rattle.tc_model.specs.Grammars.{Grammar}
use Rattle.tc_model.specs.Names.{IsChars}
use Rattle.tc_model.specs.RawTrees.{Bound}
use Rattle.tc_model.specs.Trees.{is_white_space_only}
use Rattle.tc_model.specs.XmlTextBytes.{BeginsWithWhite, line_ends}
use Rattle.tc_model.specs.XmlTextMisc.{InstructionAt}
use Rattle.tc_stream.specs.From.{Standing, open_in, FromPhase, StillComes}
use Rattle.tc_stream.specs.Goes.{Level, Goes}
use Rattle.tc_stream.specs.Keeps.{IsReady}
use Rattle.tc_stream.specs.Outcomes.{Outcome}
use Rattle.tc_stream.specs.Parts.{Pends, MayPend, IsOtherTarget}
use Rattle.tc_stream.specs.Reading.{ReadsOn, FaultsOn, TakesText}
use Rattle.tc_stream.specs.Scans.{before, going, broken, comment_scan, instruction_scan, cdata_scan}
use Rattle.tc_stream.specs.Stands.{IsReading, ReadsTo, Tells, within, known_text}
use Rattle.tc_stream.specs.declared.elements.Elements.{Elements}
use Rattle.tc_stream.specs.declared.faults.StreamFault.TheVariants as faults
use Rattle.tc_stream.specs.declared.parts.Part.TheVariants as parts
use Rattle.tc_stream.specs.declared.phases.Phase.{Phase}
use Rattle.tc_stream.specs.declared.phases.Phase.TheVariants as phases
use Rattle.tc_stream.specs.declared.reader.Reader.{Reader}
use Rattle.tc_stream.proofs.BrokenSteps.{comment_broken_in}
use Rattle.tc_stream.proofs.ContentSteps.{step_both, misc_step, misc_behind_step, section_step}
use Rattle.tc_stream.proofs.HopelessSteps.{StandsIn, in_front, in_prolog, in_root, in_content, past_root}
use Rattle.tc_stream.proofs.InstructionLaws.{instruction_whole}
use Rattle.tc_stream.proofs.MiscSteps.{IsMisc, is_comment, is_instruction, misc_past, misc_back}
use Rattle.tc_stream.proofs.ReadingLaws.{pending_with, still_moved, item_ended, item_grown, begun_before, nothing_reads, steps_alike, white_joined, tells_with, stands_in, InContent, content, in_content_of, text_taken}
use Rattle.tc_stream.proofs.ScanEnds.{scan_cut, comment_ends, instruction_ends, section_ends, Parted, section_known, section_at, section_end_within, section_going_within, white_lines}
use Rattle.tc_stream.proofs.ScanLaws.{then_scan, comment_more, instruction_more, cdata_more}
use Rattle.tc_stream.proofs.SplitLaws.{white_begins, begins_white}
use Rattle.tc_stream.proofs.StepLaws.{over_comment, over_instruction, comment_whole}

-- over a comment or a processing instruction reading goes on in each part behind the front

pub over_root : (item : List ℕ) (total : ℕ) (s : Standing) (f : List ℕ) (o : Outcome) → IsMisc item f → FromPhase total phases.Root s (item ++ f) o ↔ FromPhase total phases.Root s f o
over_root item total s f o i = (past, back)
  where
    past : FromPhase total phases.Root s (item ++ f) o → FromPhase total phases.Root s f o
    past (root, k, g) = (root, misc_past item f root i k, g)

    back : FromPhase total phases.Root s f o → FromPhase total phases.Root s (item ++ f) o
    back (root, k, g) = (root, misc_back item f root i k, g)

-- an item that leaves the elements as they are, wherever it stands
pub record IsPassed (item : List ℕ) : Type 0 where
  pub misc : (f : List ℕ) → IsMisc item f
  pub inside : (total : ℕ) (l : Level) (ls : List Level) (scope : List Bound) (run f : List ℕ) (o : Outcome) → Goes total (l ∷ ls) scope run (item ++ f) o ↔ Goes total (l ∷ ls) scope run f o

pub passed_step : {phase : Phase} {s : Standing} (n : ℕ) (item r : List ℕ) (o : Outcome) → StandsIn phase s → phase ≢ phases.Front → IsChars item → IsPassed item
    → StillComes n phase s (item ++ r) o ↔ StillComes (n + length item) phase s r o
passed_step n item r o in_front p h i = absurd (p refl)
passed_step n item r o (in_prolog {s = s}) p h i = misc_step n item r s o h i.misc
passed_step n item r o (in_root {s = s}) p h i = step_both n item r phases.Root phases.Root s s o h (λ total f k. over_root item total s f o (i.misc f))
passed_step n item r o (in_content {l = l} {ls = ls} {scope = scope} {run = run}) p h i =
    step_both n item r phases.Content phases.Content (open_in (l ∷ ls) scope run) (open_in (l ∷ ls) scope run) o h (λ total f k. i.inside total l ls scope run f o)
passed_step n item r o (past_root {n = name} {kids = kids}) p h i = misc_behind_step n item r name kids o h i.misc

pub comment_passed : (w : List ℕ) → comment_scan 0 w ≡ before [] → IsPassed (codes "<!--" ++ w)
comment_passed w e = record {
  misc = λ f. is_comment (comment_whole w f e);
  inside = λ total l ls scope run f o. over_comment (codes "<!--" ++ w) total l ls scope run f o (comment_whole w f e);
}

instruction_there : (name inside used : List ℕ) → IsOtherTarget name → BeginsWithWhite inside → instruction_scan 0 (inside ++ used) ≡ before [] → (f : List ℕ) → InstructionAt ((codes "<?" ++ (name ++ (inside ++ used))) ++ f) f
instruction_there name [] used lawful white e f = absurd (omega (arith, white))
instruction_there name (b ∷ inside) used lawful white e f = instruction_whole name b (inside ++ used) f lawful.0 lawful.1 (begins_white b inside white) e

pub instruction_passed : (name inside used : List ℕ) → IsOtherTarget name → BeginsWithWhite inside → instruction_scan 0 (inside ++ used) ≡ before [] → IsPassed (codes "<?" ++ (name ++ (inside ++ used)))
instruction_passed name inside used lawful white e = record {
  misc = λ f. is_instruction (instruction_there name inside used lawful white e f);
  inside = λ total l ls scope run f o. over_instruction (codes "<?" ++ (name ++ (inside ++ used))) total l ls scope run f o (instruction_there name inside used lawful white e f);
}

-- the item that has begun is passed
pub item_passed : {x : Grammar} {old new : Reader} {chars : List ℕ} (c : List ℕ) (r : ReadsTo x old chars) → IsChars c → (old.phase ≢ phases.Mark) × (old.phase ≢ phases.Front) → IsPassed (r.pending ++ c)
    → new.part ≡ parts.Between → new.phase ≡ old.phase → new.elements ≡ old.elements → Tells x [] parts.Between old.elements old.phase r.standing → ReadsTo x new (chars ++ c)
item_passed {x} {old} {new} {chars} c r h at item part phase elements tells =
    item_ended c old.phase r.standing r h part phase (subst (λ z. Tells x [] parts.Between z old.phase r.standing) (sym elements) tells)
    (λ f o. passed_step (length r.before) (r.pending ++ c) f o (stands_in at.0 r.tells) at.1 (pending_with c r h) item)

joined_behind : (a b c d : List ℕ) → (a ++ (b ++ c)) ++ d ≡ a ++ (b ++ (c ++ d))
joined_behind a b c d = append_assoc a (b ++ c) d ∙ ap (λ w. a ++ w) (append_assoc b c d)

-- comments

-- what is known of one
record Comments (hyphens : ℕ) (pending : List ℕ) : Type 0 where
  inside : List ℕ
  opens : pending ≡ codes "<!--" ++ inside
  scanned : comment_scan 0 inside ≡ going hyphens

comments : {h : ℕ} {pending : List ℕ} → (inside : List ℕ) × (pending ≡ codes "<!--" ++ inside) × (comment_scan 0 inside ≡ going h) → Comments h pending
comments (inside, opens, scanned) = record { inside = inside; opens = opens; scanned = scanned }

in_comment : {x : Grammar} {s : Reader} {chars : List ℕ} (h : ℕ) → s.part ≡ parts.Comment h → (r : ReadsTo x s chars) → Comments h r.pending
in_comment {x} {s} {chars} h e r = comments (subst (λ p. Pends (length r.before) p s r.pending) e r.pends)

comment_place : {x : Grammar} {s : Reader} {chars : List ℕ} (h : ℕ) → s.part ≡ parts.Comment h → ReadsTo x s chars → (s.phase ≢ phases.Mark) × (s.phase ≢ phases.Front)
comment_place {x} {s} {chars} h e r = subst (λ p. MayPend s.phase p) e r.may

comment_some : {h : ℕ} {pending : List ℕ} → Comments h pending → pending ≢ []
comment_some c g = omega (arith, ap length (sym g ∙ c.opens))

comment_item : {h : ℕ} {pending : List ℕ} (c : Comments h pending) (w : List ℕ) → pending ++ w ≡ codes "<!--" ++ (c.inside ++ w)
comment_item c w = ap (λ z. z ++ w) c.opens ∙ append_assoc (codes "<!--") c.inside w

-- more bytes of one
comment_with : {h : ℕ} {pending : List ℕ} (c : Comments h pending) (w : List ℕ) → comment_scan 0 (c.inside ++ w) ≡ comment_scan h w
comment_with c w = comment_more 0 c.inside w ∙ ap (λ z. then_scan comment_scan z w) c.scanned

pub comment_read : {old new : Reader} {text used rest : List ℕ} (end h : ℕ) → old.part ≡ parts.Comment h → IsReading old → Parted (comment_scan h text) text used rest → new.part ≡ parts.Between → new.phase ≡ old.phase
    → new.elements ≡ old.elements → ReadsOn old new text rest end
comment_read {old} {new} {text} {used} {rest} end h e ready p part phase elements = record {
  used = used;
  parts = p.parts_are;
  ready = subst IsReady (sym elements) ready;
  reads = λ x chars k fit r.
      let c = in_comment h e r in
      let alone : comment_scan h used ≡ before [] = scan_cut comment_scan comment_more comment_ends h used rest (ap (comment_scan h) (sym p.parts_are) ∙ p.scanned) in
      item_passed used r (p.characters k) (comment_place h e r) (subst IsPassed (sym (comment_item c used)) (comment_passed (c.inside ++ used) (comment_with c used ∙ alone))) part phase elements
      (tells_with r (parts.Comment h) parts.Between [] e refl);
}

pub comment_grown : {old new : Reader} {text : List ℕ} (end h known : ℕ) → old.part ≡ parts.Comment h → IsReading old → comment_scan h text ≡ going known → new.part ≡ parts.Comment known → new.phase ≡ old.phase → new.begun ≡ old.begun
    → new.elements ≡ old.elements → ReadsOn old new text [] end
comment_grown {old} {new} {text} end h known e ready scanned part phase begun elements = record {
  used = text;
  parts = sym (append-nil text);
  ready = subst IsReady (sym elements) ready;
  reads = λ x chars k fit r.
      let c = in_comment h e r in
      item_grown text (parts.Comment known) r k (comment_some c) part phase begun (c.inside ++ text, comment_item c text, comment_with c text ∙ scanned) (comment_place h e r)
      (subst (λ z. Tells x (r.pending ++ text) (parts.Comment known) z old.phase r.standing) (sym elements) (tells_with r (parts.Comment h) (parts.Comment known) (r.pending ++ text) e refl));
}

pub comment_faults : {old : Reader} {text : List ℕ} (end h : ℕ) → old.part ≡ parts.Comment h → comment_scan h text ≡ broken → FaultsOn old text end (faults.Malformed (record { 0 = old.begun }))
comment_faults {old} {text} end h e breaks = λ x chars k fit r.
    let c = in_comment h e r in
    let low = begun_before r (comment_some c) in
    nothing_reads text r (record { 0 = old.begun }) (omega (arith, low))
    (λ f o g. comment_broken_in (length r.before) (c.inside ++ text) f old.phase r.standing o (stands_in (comment_place h e r).0 r.tells) (subst IsChars (comment_item c text) (pending_with text r k))
    (comment_with c text ∙ breaks) (subst (λ w. StillComes (length r.before) old.phase r.standing (w ++ f) o) (comment_item c text) g))

-- processing instructions

record Instructions (question : ℕ) (pending : List ℕ) : Type 0 where
  name : List ℕ
  inside : List ℕ
  opens : pending ≡ codes "<?" ++ (name ++ inside)
  lawful : IsOtherTarget name
  white : BeginsWithWhite inside
  scanned : instruction_scan 0 inside ≡ going question

instructions : {q : ℕ} {pending : List ℕ} → (name inside : List ℕ) × (pending ≡ codes "<?" ++ (name ++ inside)) × IsOtherTarget name × BeginsWithWhite inside × (instruction_scan 0 inside ≡ going q) → Instructions q pending
instructions (name, inside, opens, lawful, white, scanned) = record { name = name; inside = inside; opens = opens; lawful = lawful; white = white; scanned = scanned }

in_instruction : {x : Grammar} {s : Reader} {chars : List ℕ} (q : ℕ) → s.part ≡ parts.Instruction q → (r : ReadsTo x s chars) → Instructions q r.pending
in_instruction {x} {s} {chars} q e r = instructions (subst (λ p. Pends (length r.before) p s r.pending) e r.pends)

instruction_place : {x : Grammar} {s : Reader} {chars : List ℕ} (q : ℕ) → s.part ≡ parts.Instruction q → ReadsTo x s chars → (s.phase ≢ phases.Mark) × (s.phase ≢ phases.Front)
instruction_place {x} {s} {chars} q e r = subst (λ p. MayPend s.phase p) e r.may

instruction_some : {q : ℕ} {pending : List ℕ} → Instructions q pending → pending ≢ []
instruction_some c g = omega (arith, ap length (sym g ∙ c.opens))

instruction_item : {q : ℕ} {pending : List ℕ} (c : Instructions q pending) (w : List ℕ) → pending ++ w ≡ codes "<?" ++ (c.name ++ (c.inside ++ w))
instruction_item c w = ap (λ z. z ++ w) c.opens ∙ joined_behind (codes "<?") c.name c.inside w

instruction_with : {q : ℕ} {pending : List ℕ} (c : Instructions q pending) (w : List ℕ) → instruction_scan 0 (c.inside ++ w) ≡ instruction_scan q w
instruction_with c w = instruction_more 0 c.inside w ∙ ap (λ z. then_scan instruction_scan z w) c.scanned

white_with : (inside w : List ℕ) → BeginsWithWhite inside → BeginsWithWhite (inside ++ w)
white_with [] w h = absurd (omega (arith, h))
white_with (b ∷ inside) w h = white_begins b (inside ++ w) (begins_white b inside h)

pub instruction_read : {old new : Reader} {text used rest : List ℕ} (end q : ℕ) → old.part ≡ parts.Instruction q → IsReading old → Parted (instruction_scan q text) text used rest → new.part ≡ parts.Between → new.phase ≡ old.phase
    → new.elements ≡ old.elements → ReadsOn old new text rest end
instruction_read {old} {new} {text} {used} {rest} end q e ready p part phase elements = record {
  used = used;
  parts = p.parts_are;
  ready = subst IsReady (sym elements) ready;
  reads = λ x chars k fit r.
      let c = in_instruction q e r in
      let alone : instruction_scan q used ≡ before [] = scan_cut instruction_scan instruction_more instruction_ends q used rest (ap (instruction_scan q) (sym p.parts_are) ∙ p.scanned) in
      item_passed used r (p.characters k) (instruction_place q e r)
      (subst IsPassed (sym (instruction_item c used)) (instruction_passed c.name c.inside used c.lawful c.white (instruction_with c used ∙ alone))) part phase elements
      (tells_with r (parts.Instruction q) parts.Between [] e refl);
}

pub instruction_grown : {old new : Reader} {text : List ℕ} (end q known : ℕ) → old.part ≡ parts.Instruction q → IsReading old → instruction_scan q text ≡ going known → new.part ≡ parts.Instruction known → new.phase ≡ old.phase
    → new.begun ≡ old.begun → new.elements ≡ old.elements → ReadsOn old new text [] end
instruction_grown {old} {new} {text} end q known e ready scanned part phase begun elements = record {
  used = text;
  parts = sym (append-nil text);
  ready = subst IsReady (sym elements) ready;
  reads = λ x chars k fit r.
      let c = in_instruction q e r in
      item_grown text (parts.Instruction known) r k (instruction_some c) part phase begun
      (c.name, c.inside ++ text, instruction_item c text, c.lawful, white_with c.inside text c.white, instruction_with c text ∙ scanned) (instruction_place q e r)
      (subst (λ z. Tells x (r.pending ++ text) (parts.Instruction known) z old.phase r.standing) (sym elements) (tells_with r (parts.Instruction q) (parts.Instruction known) (r.pending ++ text) e refl));
}

-- CDATA sections

record Sections (brackets : ℕ) (pending : List ℕ) : Type 0 where
  inside : List ℕ
  opens : pending ≡ codes "<![CDATA[" ++ inside
  scanned : cdata_scan 0 inside ≡ going brackets

sections : {b : ℕ} {pending : List ℕ} → (inside : List ℕ) × (pending ≡ codes "<![CDATA[" ++ inside) × (cdata_scan 0 inside ≡ going b) → Sections b pending
sections (inside, opens, scanned) = record { inside = inside; opens = opens; scanned = scanned }

in_section : {x : Grammar} {s : Reader} {chars : List ℕ} (b : ℕ) → s.part ≡ parts.Cdata b → (r : ReadsTo x s chars) → Sections b r.pending
in_section {x} {s} {chars} b e r = sections (subst (λ p. Pends (length r.before) p s r.pending) e r.pends)

section_place : {x : Grammar} {s : Reader} {chars : List ℕ} (b : ℕ) → s.part ≡ parts.Cdata b → ReadsTo x s chars → s.phase ≡ phases.Content
section_place {x} {s} {chars} b e r = subst (λ p. MayPend s.phase p) e r.may

section_some : {b : ℕ} {pending : List ℕ} → Sections b pending → pending ≢ []
section_some c g = omega (arith, ap length (sym g ∙ c.opens))

section_item : {b : ℕ} {pending : List ℕ} (c : Sections b pending) (w : List ℕ) → pending ++ w ≡ codes "<![CDATA[" ++ (c.inside ++ w)
section_item c w = ap (λ z. z ++ w) c.opens ∙ append_assoc (codes "<![CDATA[") c.inside w

section_with : {b : ℕ} {pending : List ℕ} (c : Sections b pending) (w : List ℕ) → cdata_scan 0 (c.inside ++ w) ≡ cdata_scan b w
section_with c w = cdata_more 0 c.inside w ∙ ap (λ z. then_scan cdata_scan z w) c.scanned

-- what is known of its text
section_text : (b : ℕ) (pending inside : List ℕ) → pending ≡ codes "<![CDATA[" ++ inside → known_text (parts.Cdata b) pending ≡ take (length inside - b) inside
section_text b pending inside e = ap (known_text (parts.Cdata b)) e

section_inside : {x : Grammar} {s : Reader} {chars : List ℕ} (b : ℕ) → s.part ≡ parts.Cdata b → (r : ReadsTo x s chars) (c : Sections b r.pending) → InContent x (take (length c.inside - b) c.inside) s.elements r.standing
section_inside {x} {s} {chars} b e r c =
    let here : InContent x (known_text (parts.Cdata b) r.pending) s.elements r.standing = subst (λ p. InContent x (known_text p r.pending) s.elements r.standing) e (in_content_of (section_place b e r) r.tells) in
    subst (λ w. InContent x w s.elements r.standing) (section_text b r.pending c.inside c.opens) here

-- how reading stands behind a section
record Behind (x : Grammar) (new : Elements) (n : ℕ) (item : List ℕ) (s : Standing) : Type 0 where
  standing : Standing
  tells : Tells x [] parts.Between new phases.Content standing
  step : (f : List ℕ) (o : Outcome) → StillComes n phases.Content s (item ++ f) o ↔ StillComes (n + length item) phases.Content standing f o

same_white : (run known more inside : List ℕ) → inside ≡ known ++ more → is_white_space_only ((run ++ known) ++ more) ≡ is_white_space_only ((run ++ line_ends inside) ++ [])
same_white run known more inside e =
    ap is_white_space_only (append_assoc run known more ∙ ap (λ w. run ++ w) (sym e))
    ∙ (white_joined run inside
    ∙ (ap (λ b. is_white_space_only run && b) (sym (white_lines inside)) ∙ (sym (white_joined run (line_ends inside)) ∙ ap is_white_space_only (sym (append-nil (run ++ line_ends inside))))))

section_over : {x : Grammar} {old new : Elements} {known : List ℕ} {s : Standing} {blank : Bool} (n : ℕ) (w more : List ℕ) → IsChars (codes "<![CDATA[" ++ w) → cdata_scan 0 w ≡ before [] → take (length w - 3) w ≡ known ++ more
    → is_white_space_only more ≡ blank → TakesText blank old new → InContent x known old s → Behind x new n (codes "<![CDATA[" ++ w) s
section_over {x} {old} {new} {known} n w more h e same white t (content {ls = ls} {l = l} {scope = scope} {run = run} k a) =
    let inside = take (length w - 3) w in
    record {
      standing = open_in (l ∷ ls) scope (run ++ line_ends inside);
      tells = within (t.keeps (l ∷ ls) scope k)
          (steps_alike x new (l ∷ ls) ((run ++ known) ++ more) ((run ++ line_ends inside) ++ []) (same_white run known more inside same) (t.steps x (l ∷ ls) (run ++ known) more white a));
      step = λ f o. section_step n (codes "<![CDATA[" ++ w) inside f l ls scope run o h (λ f. section_at w f e);
    }

-- that it is white space alone as far as it is newly known
pub section_blank : {bytes used : List ℕ} {blank : Bool} (b left : ℕ) → bytes ≡ used → blank ≡ list_all is_white (take ((b + length bytes) - left) (replicate b 0x5D ++ bytes))
    → is_white_space_only (take ((b + length used) - left) (replicate b 0x5D ++ used)) ≡ blank
section_blank b left e k = sym (k ∙ ap (λ w. list_all is_white (take ((b + length w) - left) (replicate b 0x5D ++ w))) e)

pub section_read : {old new : Reader} {text used rest bytes : List ℕ} {blank : Bool} (end b : ℕ) → old.part ≡ parts.Cdata b → b ≤ 2 → IsReading old → Parted (cdata_scan b text) text used rest → bytes ≡ used
    → blank ≡ list_all is_white (take ((b + length bytes) - 3) (replicate b 0x5D ++ bytes)) → TakesText blank old.elements new.elements → new.part ≡ parts.Between → new.phase ≡ old.phase → ReadsOn old new text rest end
section_read {old} {new} {text} {used} {rest} {bytes} {blank} end b e low ready p same white t part phase = record {
  used = used;
  parts = p.parts_are;
  ready = t.ready ready;
  reads = λ x chars k fit r.
      let c = in_section b e r in
      let alone : cdata_scan b used ≡ before [] = scan_cut cdata_scan cdata_more section_ends b used rest (ap (cdata_scan b) (sym p.parts_are) ∙ p.scanned) in
      let more = take ((b + length used) - 3) (replicate b 0x5D ++ used) in
      let enough : 3 ≤ b + length used = omega (arith, section_end_within b used [] low alone) in
      let over : Behind x new.elements (length r.before) (codes "<![CDATA[" ++ (c.inside ++ used)) r.standing =
      section_over (length r.before) (c.inside ++ used) more (subst IsChars (section_item c used) (pending_with used r (p.characters k))) (section_with c used ∙ alone) (section_known c.inside used b 3 c.scanned enough)
      (section_blank b 3 same white) t (section_inside b e r c) in
      item_ended used phases.Content over.standing r (p.characters k) part (phase ∙ section_place b e r) over.tells
      (λ f o. (
        λ g. subst (λ w. StillComes (length r.before + length w) phases.Content over.standing f o) (sym (section_item c used)) ((over.step f o).0 (still_moved r.standing o refl (section_place b e r) (ap (λ w. w ++ f) (section_item c used)) g)),
        λ g. still_moved r.standing o refl (sym (section_place b e r)) (ap (λ w. w ++ f) (sym (section_item c used))) ((over.step f o).1 (subst (λ w. StillComes (length r.before + length w) phases.Content over.standing f o) (section_item c used) g)),
      ));
}

pub section_grown : {old new : Reader} {text bytes : List ℕ} {blank : Bool} (end b known : ℕ) → old.part ≡ parts.Cdata b → b ≤ 2 → IsReading old → cdata_scan b text ≡ going known → bytes ≡ text
    → blank ≡ list_all is_white (take ((b + length bytes) - known) (replicate b 0x5D ++ bytes)) → TakesText blank old.elements new.elements → new.part ≡ parts.Cdata known → new.phase ≡ old.phase → new.begun ≡ old.begun
    → ReadsOn old new text [] end
section_grown {old} {new} {text} {bytes} {blank} end b known e low ready scanned same white t part phase begun = record {
  used = text;
  parts = sym (append-nil text);
  ready = t.ready ready;
  reads = λ x chars k fit r.
      let c = in_section b e r in
      let more = take ((b + length text) - known) (replicate b 0x5D ++ text) in
      let enough : known ≤ b + length text = section_going_within b known text low scanned in
      let all : known_text (parts.Cdata known) (r.pending ++ text) ≡ take (length c.inside - b) c.inside ++ more =
      section_text known (r.pending ++ text) (c.inside ++ text) (section_item c text) ∙ section_known c.inside text b known c.scanned enough in
      let tells : Tells x (r.pending ++ text) (parts.Cdata known) new.elements phases.Content r.standing = text_taken more (parts.Cdata known) (r.pending ++ text) all (section_blank b known same white) t (section_inside b e r c) in
      item_grown text (parts.Cdata known) r k (section_some c) part phase begun (c.inside ++ text, section_item c text, section_with c text ∙ scanned) (section_place b e r)
      (subst (λ q. Tells x (r.pending ++ text) (parts.Cdata known) new.elements q r.standing) (sym (section_place b e r)) tells);
}
