-- How character data is read on, and how an item begins behind it or between two tags.
use Rattle.std.proofs.Common.{◌≡◌, ◌≢◌, inl, inr, ℕ, suc, ◌<◌, ◌≤◌, ◌+◌, ◌-◌, Bool, true, false, cond, ltb, not, ◌&&◌, ◌||◌, ◌==◌, List, [], ◌∷◌, ◌++◌, refl, ap, ◌∙◌, sym, subst, length, take, drop, get_or, arith, IsTrue, append_assoc, append-nil, add-zero, length-append, take-append-drop}
use Rattle.std.specs.Prelude.{◌↔◌}
use Rattle.std.specs.List.{prefix_len, list_all}
use Rattle.std.proofs.lemmas.Bool.{true≢false, eqb-true, ltb-true, ltb-false}
use Rattle.std.proofs.lemmas.List.Folds.{list_all-append, length-prefix_len}
use Rattle.std.proofs.lemmas.List.Sums.{prefix_len-drop_all, prefix_len-drop_no, prefix_len-le-length, prefix_len_stops}
use Rattle.std.proofs.lemmas.Str.{encode_ascii}
use Rattle.tc_base.specs.Characters.{is_char}
use Rattle.tc_model.specs.Grammars.{Grammar}
use Rattle.tc_model.specs.Names.{IsChars}
use Rattle.tc_model.specs.Trees.{is_white_space_only}
use Rattle.tc_model.specs.XmlTextBytes.{line_ends}
use Rattle.tc_model.specs.XmlTextReferences.{is_plain}
use Rattle.tc_model.proofs.XmlTextChars.{one_char, join_chars, cut_chars}
use Rattle.tc_stream.specs.From.{Standing, open_in, StillComes}
use Rattle.tc_stream.specs.Keeps.{IsReady}
use Rattle.tc_stream.specs.Outcomes.{Outcome, Comes}
use Rattle.tc_stream.specs.TagStands.{TagStands}
use Rattle.tc_tags.specs.Begins.{BeginsTag}
use Rattle.tc_stream.specs.Parts.{Pends, MayPend, IsData}
use Rattle.tc_stream.specs.Reading.{ReadsOn, FaultsOn, TakesText, IsOpen}
use Rattle.tc_stream.specs.References as scan
use Rattle.tc_stream.specs.Scans.{before, going, cdata_scan}
use Rattle.tc_stream.specs.Stands.{IsReading, ReadsTo, Tells, within, known_text}
use Rattle.tc_stream.specs.declared.elements.Elements.{Elements}
use Rattle.tc_stream.specs.declared.faults.StreamFault.TheVariants as faults
use Rattle.tc_stream.specs.declared.parts.Part.{Part}
use Rattle.tc_stream.specs.declared.parts.Part.TheVariants as parts
use Rattle.tc_stream.specs.declared.phases.Phase.TheVariants as phases
use Rattle.tc_stream.specs.declared.reader.Reader.{Reader}
use Rattle.tc_stream.specs.declared.references.Reference.TheVariants as references
use Rattle.tc_stream.proofs.BrokenSteps.{text_broken}
use Rattle.tc_stream.proofs.ContentSteps.{text_step}
use Rattle.tc_stream.proofs.StandsLaws.{Inside, inside_tag, content_end}
use Rattle.tc_stream.proofs.ReadingLaws.{so_far, pending_with, still_moved, goes_on, grown, begun_before, nothing_reads, front_read, front_faults, steps_alike, white_joined, tells_moved, InContent, content, in_content_of, text_taken}
use Rattle.tc_stream.proofs.ScanEnds.{white_lines}
use Rattle.tc_stream.proofs.ScanLaws.{then_scan, cdata_more}
use Rattle.tc_stream.proofs.TextLaws.{StopsRun}

-- a run of character data, or none yet

-- what is known of what stands before a run
pub record Runs (x : Grammar) (s : Reader) (pending : List ℕ) (standing : Standing) (brackets : ℕ) : Type 0 where
  pub inside : s.phase ≡ phases.Content
  pub plain : IsTrue (list_all is_plain pending)
  pub scanned : cdata_scan 0 pending ≡ going brackets
  pub known : InContent x pending s.elements standing

pub nothing_pends : {x : Grammar} {s : Reader} {chars : List ℕ} → s.part ≡ parts.Between → (r : ReadsTo x s chars) → r.pending ≡ []
nothing_pends {x} {s} {chars} e r = subst (λ p. Pends (length r.before) p s r.pending) e r.pends

data_pends : {x : Grammar} {s : Reader} {chars : List ℕ} (k : ℕ) → s.part ≡ parts.Data k → (r : ReadsTo x s chars) → IsData k r.pending
data_pends {x} {s} {chars} k e r = subst (λ p. Pends (length r.before) p s r.pending) e r.pends

data_place : {x : Grammar} {s : Reader} {chars : List ℕ} (k : ℕ) → s.part ≡ parts.Data k → ReadsTo x s chars → s.phase ≡ phases.Content
data_place {x} {s} {chars} k e r = subst (λ p. MayPend s.phase p) e r.may

none_known : {x : Grammar} {s : Reader} {chars : List ℕ} → s.part ≡ parts.Between → s.phase ≡ phases.Content → (r : ReadsTo x s chars) → InContent x [] s.elements r.standing
none_known {x} {s} {chars} e c r = subst (λ p. InContent x (known_text p r.pending) s.elements r.standing) e (in_content_of c r.tells)

data_known : {x : Grammar} {s : Reader} {chars : List ℕ} (k : ℕ) → s.part ≡ parts.Data k → (r : ReadsTo x s chars) → InContent x r.pending s.elements r.standing
data_known {x} {s} {chars} k e r = subst (λ p. InContent x (known_text p r.pending) s.elements r.standing) e (in_content_of (data_place k e r) r.tells)

runs_none : {x : Grammar} {s : Reader} {chars : List ℕ} → s.part ≡ parts.Between → s.phase ≡ phases.Content → (r : ReadsTo x s chars) → Runs x s r.pending r.standing 0
runs_none {x} {s} {chars} e c r =
    let none = nothing_pends e r in
    let at : Runs x s [] r.standing 0 = record { inside = c; plain = refl; scanned = refl; known = none_known e c r } in
    subst (λ w. Runs x s w r.standing 0) (sym none) at

runs_data : {x : Grammar} {s : Reader} {chars : List ℕ} (k : ℕ) → s.part ≡ parts.Data k → (r : ReadsTo x s chars) → Runs x s r.pending r.standing k
runs_data k e r = let d = data_pends k e r in record { inside = data_place k e r; plain = d.plain; scanned = d.scanned; known = data_known k e r }

all_plain : (w run : List ℕ) → IsTrue (list_all is_plain w) → IsTrue (list_all is_plain run) → IsTrue (list_all is_plain (w ++ run))
all_plain w run h k = list_all-append is_plain w run ∙ (ap (λ b. b && list_all is_plain run) h ∙ k)

scanned_with : {brackets : ℕ} (pending w : List ℕ) → cdata_scan 0 pending ≡ going brackets → cdata_scan 0 (pending ++ w) ≡ cdata_scan brackets w
scanned_with pending w e = cdata_more 0 pending w ∙ ap (λ z. then_scan cdata_scan z w) e

-- a run goes on in a text
run_reads : {x : Grammar} {old new : Reader} {chars : List ℕ} {blank : Bool} (run : List ℕ) (brackets known : ℕ) (r : ReadsTo x old chars) → Runs x old r.pending r.standing brackets → IsChars run → 0 < length run
    → IsTrue (list_all is_plain run) → cdata_scan brackets run ≡ going known → is_white_space_only run ≡ blank → TakesText blank old.elements new.elements → new.part ≡ parts.Data known → new.phase ≡ old.phase → new.begun ≡ length r.before
    → ReadsTo x new (chars ++ run)
run_reads {x} {old} {new} {chars} {blank} run brackets known r d h some plain scanned white t part phase begun =
    let is : IsData known (r.pending ++ run) = record {
      some = omega (arith, some, length-append r.pending run);
      plain = all_plain r.pending run d.plain plain;
      scanned = scanned_with r.pending run d.scanned ∙ scanned;
    } in
    let tells : Tells x (r.pending ++ run) (parts.Data known) new.elements phases.Content r.standing = text_taken run (parts.Data known) (r.pending ++ run) refl white t d.known in
    grown run r h phase (λ _. begun)
    (subst (λ q. Pends (length r.before) q new (r.pending ++ run)) (sym part) is)
    (subst (λ q. MayPend new.phase q) (sym part) (phase ∙ d.inside))
    (subst (λ p. Tells x (r.pending ++ run) new.part new.elements p r.standing) (sym (phase ∙ d.inside)) (subst (λ q. Tells x (r.pending ++ run) q new.elements phases.Content r.standing) (sym part) tells))

-- where it begins
pub run_begun : {old new : Reader} {run : List ℕ} {blank : Bool} (end place known : ℕ) → old.part ≡ parts.Between → old.phase ≡ phases.Content → IsReading old → 0 < length run → IsTrue (list_all is_plain run)
    → cdata_scan 0 run ≡ going known → is_white_space_only run ≡ blank → TakesText blank old.elements new.elements → new.part ≡ parts.Data known → new.phase ≡ old.phase → new.begun ≡ place → place + length run ≡ end
    → ReadsOn old new run [] end
run_begun {old} {new} {run} {blank} end place known e c ready some plain scanned white t part phase begun fits = record {
  used = run;
  parts = sym (append-nil run);
  ready = t.ready ready;
  reads = λ x chars h fit r.
      let none = nothing_pends e r in
      let front : length chars ≡ length r.before = ap length r.parts_are ∙ (ap (λ w. length (r.before ++ w)) none ∙ ap length (append-nil r.before)) in
      let at : new.begun ≡ length r.before = omega (arith, begun, fit, fits, front) in
      run_reads run 0 known r (runs_none e c r) h some plain scanned white t part phase at;
}

-- where it goes on
pub run_grown : {old new : Reader} {run : List ℕ} {blank : Bool} (end brackets known : ℕ) → old.part ≡ parts.Data brackets → IsReading old → 0 < length run → IsTrue (list_all is_plain run)
    → cdata_scan brackets run ≡ going known → is_white_space_only run ≡ blank → TakesText blank old.elements new.elements → new.part ≡ parts.Data known → new.phase ≡ old.phase → new.begun ≡ old.begun → ReadsOn old new run [] end
run_grown {old} {new} {run} {blank} end brackets known e ready some plain scanned white t part phase begun = record {
  used = run;
  parts = sym (append-nil run);
  ready = t.ready ready;
  reads = λ x chars h fit r.
      run_reads run brackets known r (runs_data brackets e r) h some plain scanned white t part phase (begun ∙ r.begun (data_some (data_pends brackets e r)));
}
  where
    data_some : {k : ℕ} {pending : List ℕ} → IsData k pending → pending ≢ []
    data_some d g = omega (arith, d.some, ap length g)

-- and where it can't, since the end of a CDATA section stands in it

run_none : {x : Grammar} {s : Reader} {chars : List ℕ} (run : List ℕ) (brackets : ℕ) (found f : List ℕ) (o : Outcome) (r : ReadsTo x s chars) → Runs x s r.pending r.standing brackets → IsChars run → 0 < length run
    → IsTrue (list_all is_plain run) → cdata_scan brackets run ≡ before found → StillComes (length r.before) s.phase r.standing ((r.pending ++ run) ++ f) o → ⊥
run_none {x} {s} {chars} run brackets found f o r d h some plain scanned g =
    by d.known (still_moved r.standing o refl d.inside refl g)
  where
    by : {u : Standing} → InContent x r.pending s.elements u → StillComes (length r.before) phases.Content u ((r.pending ++ run) ++ f) o → ⊥
    by (content {ls = ls} {l = l} {scope = scope} {run = known} k a) still =
        text_broken (length r.before) (r.pending ++ run) found f l ls scope known o (pending_with run r h) (omega (arith, some, length-append r.pending run)) (all_plain r.pending run d.plain plain)
        (scanned_with r.pending run d.scanned ∙ scanned) still

pub run_begun_faults : {old : Reader} {run found : List ℕ} (end place : ℕ) → old.part ≡ parts.Between → old.phase ≡ phases.Content → 0 < length run → IsTrue (list_all is_plain run) → cdata_scan 0 run ≡ before found
    → place + length run ≡ end → FaultsOn old run end (faults.Malformed (record { 0 = place }))
run_begun_faults {old} {run} {found} end place e c some plain scanned fits = λ x chars h fit r.
    nothing_reads run r (record { 0 = place }) (omega (arith, fit, fits)) (λ f o g. run_none run 0 found f o r (runs_none e c r) h some plain scanned g)

pub run_grown_faults : {old : Reader} {run found : List ℕ} (end brackets : ℕ) → old.part ≡ parts.Data brackets → 0 < length run → IsTrue (list_all is_plain run) → cdata_scan brackets run ≡ before found
    → FaultsOn old run end (faults.Malformed (record { 0 = old.begun }))
run_grown_faults {old} {run} {found} end brackets e some plain scanned = λ x chars h fit r.
    let low = begun_before r (data_some (data_pends brackets e r)) in
    nothing_reads run r (record { 0 = old.begun }) (omega (arith, low)) (λ f o g. run_none run brackets found f o r (runs_data brackets e r) h some plain scanned g)
  where
    data_some : {k : ℕ} {pending : List ℕ} → IsData k pending → pending ≢ []
    data_some d g = omega (arith, d.some, ap length g)

-- what ends character data, if there is some

-- how reading stands behind it, where no more of it follows
record Settled (x : Grammar) (e : Elements) (n : ℕ) (pending : List ℕ) (s : Standing) : Type 0 where
  standing : Standing
  tells : (part : Part) (more : List ℕ) → known_text part more ≡ [] → Tells x more part e phases.Content standing
  step : (f : List ℕ) (o : Outcome) → StopsRun f → StillComes n phases.Content s (pending ++ f) o ↔ StillComes (n + length pending) phases.Content standing f o

none_settled : {x : Grammar} {e : Elements} {s : Standing} (n : ℕ) → InContent x [] e s → Settled x e n [] s
none_settled {x} {e} n (content {ls = ls} {l = l} {scope = scope} {run = run} k a) = record {
  standing = open_in (l ∷ ls) scope run;
  tells = λ part more none. within k (steps_alike x e (l ∷ ls) (run ++ []) (run ++ known_text part more) (ap (λ w. is_white_space_only (run ++ w)) (sym none)) a);
  step = λ f o stops. (
    λ g. subst (λ m. StillComes m phases.Content (open_in (l ∷ ls) scope run) f o) (sym (add-zero n)) g,
    λ g. subst (λ m. StillComes m phases.Content (open_in (l ∷ ls) scope run) f o) (add-zero n) g,
  );
}

data_settled : {x : Grammar} {e : Elements} {s : Standing} {pending : List ℕ} (n k : ℕ) → IsData k pending → IsChars pending → InContent x pending e s → Settled x e n pending s
data_settled {x} {e} {pending = pending} n k d h (content {ls = ls} {l = l} {scope = scope} {run = run} keeps a) = record {
  standing = open_in (l ∷ ls) scope (run ++ line_ends pending);
  tells = λ part more none. within keeps (steps_alike x e (l ∷ ls) (run ++ pending) ((run ++ line_ends pending) ++ known_text part more) (same part more none) a);
  step = λ f o stops. text_step n pending f k l ls scope run o h d.some d.plain d.scanned stops;
}
  where
    same : (part : Part) (more : List ℕ) → known_text part more ≡ [] → is_white_space_only (run ++ pending) ≡ is_white_space_only ((run ++ line_ends pending) ++ known_text part more)
    same part more none =
        white_joined run pending
        ∙ (ap (λ b. is_white_space_only run && b) (sym (white_lines pending))
        ∙ (sym (white_joined run (line_ends pending)) ∙ ap is_white_space_only (sym (append-nil (run ++ line_ends pending)) ∙ ap (λ w. (run ++ line_ends pending) ++ w) (sym none))))

open_place : {x : Grammar} {s : Reader} {chars : List ℕ} → IsOpen s → ReadsTo x s chars → s.phase ≡ phases.Content
open_place (inl (e, c)) r = c
open_place (inr (k, e)) r = data_place k e r

settled : {x : Grammar} {s : Reader} {chars : List ℕ} → IsOpen s → (r : ReadsTo x s chars) → Settled x s.elements (length r.before) r.pending r.standing
settled {x} {s} {chars} (inl (e, c)) r = subst (λ w. Settled x s.elements (length r.before) w r.standing) (sym (nothing_pends e r)) (none_settled (length r.before) (none_known e c r))
settled {x} {s} {chars} (inr (k, e)) r = data_settled (length r.before) k (data_pends k e r) r.pending_chars (data_known k e r)

-- a character of ASCII is one of XML
pub ascii_chars : (b : ℕ) → b < 128 → is_char b ≡ true → IsChars (b ∷ [])
ascii_chars b low h = subst IsChars (encode_ascii b low) (one_char b h)

-- an item begins with such a byte
pub item_begun : {old new : Reader} {text rest : List ℕ} (end place b : ℕ) → text ≡ b ∷ rest → b < 128 → is_char b ≡ true → is_plain b ≡ false → IsOpen old → IsReading old → new.elements ≡ old.elements → new.phase ≡ old.phase
    → new.begun ≡ place → place + length text ≡ end → known_text new.part (b ∷ []) ≡ [] → ((n : ℕ) → Pends n new.part new (b ∷ [])) → MayPend phases.Content new.part → ReadsOn old new text rest end
item_begun {old} {new} {text} {rest} end place b is low lawful stops open_at ready elements phase begun fits known pends may = record {
  used = b ∷ [];
  parts = is;
  ready = subst IsReady (sym elements) ready;
  reads = λ x chars h fit r.
      let c = open_place open_at r in
      let t = settled open_at r in
      let at : new.begun ≡ length (r.before ++ r.pending) = omega (arith, begun, fit, fits, ap length r.parts_are) in
      goes_on (b ∷ []) (r.before ++ r.pending) (b ∷ []) t.standing r (sym (append_assoc r.before r.pending (b ∷ []))) (join_chars r.before r.pending r.before_chars r.pending_chars) (ascii_chars b low lawful)
      (λ _. at) (pends (length (r.before ++ r.pending))) (subst (λ p. MayPend p new.part) (sym (phase ∙ c)) may) (tells_moved elements (phase ∙ c) (t.tells new.part (b ∷ []) known))
      (λ f o. (
        λ g. still_moved t.standing o (sym (length-append r.before r.pending)) (sym (phase ∙ c)) refl ((t.step (b ∷ f) o stops).0 (still_moved r.standing o refl c (append_assoc r.pending (b ∷ []) f) g)),
        λ g. still_moved r.standing o refl (sym c) (sym (append_assoc r.pending (b ∷ []) f)) ((t.step (b ∷ f) o stops).1 (still_moved t.standing o (length-append r.before r.pending) (phase ∙ c) refl g)),
      ));
}

pub markup_begun : {old new : Reader} {text rest : List ℕ} (end place : ℕ) → text ≡ 0x3C ∷ rest → IsOpen old → IsReading old → new.part ≡ parts.Markup → new.elements ≡ old.elements → new.phase ≡ old.phase → new.begun ≡ place
    → place + length text ≡ end → ReadsOn old new text rest end
markup_begun {old} {new} {text} {rest} end place is open_at ready part elements phase begun fits =
    item_begun end place 0x3C is (omega arith) refl refl open_at ready elements phase begun fits (ap (λ p. known_text p (0x3C ∷ [])) part)
    (λ n. subst (λ p. Pends n p new (0x3C ∷ [])) (sym part) refl) (subst (λ p. MayPend phases.Content p) (sym part) not_mark)
  where
    not_mark : phases.Content ≢ phases.Mark
    not_mark e = cc

pub reference_begun : {old new : Reader} {text rest : List ℕ} (end place : ℕ) → text ≡ 0x26 ∷ rest → IsOpen old → IsReading old → new.part ≡ parts.Reference references.Begun → new.elements ≡ old.elements → new.phase ≡ old.phase
    → new.begun ≡ place → place + length text ≡ end → ReadsOn old new text rest end
reference_begun {old} {new} {text} {rest} end place is open_at ready part elements phase begun fits =
    item_begun end place 0x26 is (omega arith) refl refl open_at ready elements phase begun fits (ap (λ p. known_text p (0x26 ∷ [])) part)
    (λ n. subst (λ p. Pends n p new (0x26 ∷ [])) (sym part) (scan.begun, [], refl, refl, refl)) (subst (λ p. MayPend phases.Content p) (sym part) refl)

-- a tag in content stands behind the characters so far
pub open_tag : {x : Grammar} {s : Reader} {chars : List ℕ} (place : ℕ) (item : List ℕ) → place ≡ length chars → IsOpen s → ReadsTo x s chars → BeginsTag item → IsChars item
    → (a : TagStands x s.elements place item (chars ++ item)) × (a.ls ≢ [])
open_tag {x} {s} {chars} place item at open_at r b h = (
  record {
    before = chars;
    parts_are = refl;
    stands = at;
    before_chars = so_far r;
    item_chars = h;
    ls = inside.ls;
    scope = inside.scope;
    run = inside.run;
    keeps = inside.keeps;
    steps = inside.steps;
    comes = λ y o. (past y o, back y o);
  },
  inside.some refl,
)
  where
    here : s.phase ≡ phases.Content
    here = open_place open_at r

    t : Settled x s.elements (length r.before) r.pending r.standing
    t = settled open_at r

    inside : Inside x s.elements phases.Content t.standing
    inside = inside_tag parts.Markup (λ w. refl) content_end (t.tells parts.Markup [] refl)

    long : length r.before + length r.pending ≡ length chars
    long = sym (ap length r.parts_are ∙ length-append r.before r.pending)

    stops : (y : List ℕ) → StopsRun (item ++ y)
    stops y = subst (λ z. StopsRun (z ++ y)) (sym b.opens) refl

    past : (y : List ℕ) (o : Outcome) → Comes ((chars ++ item) ++ y) o → StillComes (length chars) phases.Content (open_in inside.ls inside.scope inside.run) (item ++ y) o
    past y o g =
        let there : StillComes (length r.before) s.phase r.standing (r.pending ++ (item ++ y)) o = (r.comes (item ++ y) o).0 (subst (λ z. Comes z o) (append_assoc chars item y) g) in
        (inside.same (length chars) item y o h b).0
        (still_moved {p = phases.Content} {q = phases.Content} t.standing o long refl refl ((t.step (item ++ y) o (stops y)).0 (still_moved {p = s.phase} {q = phases.Content} r.standing o refl here refl there)))

    back : (y : List ℕ) (o : Outcome) → StillComes (length chars) phases.Content (open_in inside.ls inside.scope inside.run) (item ++ y) o → Comes ((chars ++ item) ++ y) o
    back y o g =
        let there = (t.step (item ++ y) o (stops y)).1 (still_moved {p = phases.Content} {q = phases.Content} t.standing o (sym long) refl refl ((inside.same (length chars) item y o h b).1 g)) in
        subst (λ z. Comes z o) (sym (append_assoc chars item y)) ((r.comes (item ++ y) o).1 (still_moved {p = phases.Content} {q = s.phase} r.standing o refl (sym here) refl there))

-- in content a text that isn't plain begins with such a byte
pub plain_or_mark : (text : List ℕ) → 0 < length text → prefix_len is_plain text ≡ 0 → ((r : List ℕ) → text ≡ 0x26 ∷ r → ⊥) → ((r : List ℕ) → text ≡ 0x3C ∷ r → ⊥) → ⊥
plain_or_mark [] some e n m = omega (arith, some)
plain_or_mark (b ∷ w) some e n m = by (b == 0x3C) (b == 0x26) refl refl e
  where
    by : (x y : Bool) → (b == 0x3C) ≡ x → (b == 0x26) ≡ y → cond (not (x || y)) (1 + prefix_len is_plain w) 0 ≡ 0 → ⊥
    by true y is k h = m w (ap (λ z. z ∷ w) (eqb-true b 0x3C is))
    by false true is k h = n w (ap (λ z. z ∷ w) (eqb-true b 0x26 k))
    by false false is k h = omega (arith, h)

-- the bytes before the first one that fails
pub all_front : (p : ℕ → Bool) (w : List ℕ) → list_all p (take (prefix_len p w) w) ≡ true
all_front p [] = refl
all_front p (b ∷ w) = by (p b) refl (all_front p w)
  where
    one_more : 1 + prefix_len p w ≡ suc (prefix_len p w)
    one_more = omega arith

    by : (x : Bool) → p b ≡ x → list_all p (take (prefix_len p w) w) ≡ true → list_all p (take (cond x (1 + prefix_len p w) 0) (b ∷ w)) ≡ true
    by true e h = ap (λ n. list_all p (take n (b ∷ w))) one_more ∙ (ap (λ z. z && list_all p (take (prefix_len p w) w)) e ∙ h)
    by false e h = refl

-- what stands before the first `<` or `&` is plain
pub plain_front : (text run : List ℕ) (n : ℕ) → n ≡ prefix_len is_plain text → run ≡ take n text → IsTrue (list_all is_plain run)
plain_front text run n e f = ap (list_all is_plain) (f ∙ ap (λ m. take m text) e) ∙ all_front is_plain text

-- where a text may be cut before the first `<` or `&`
plain_ascii : (b : ℕ) → is_plain b ≡ false → b < 128
plain_ascii b h = by (b == 0x3C) (b == 0x26) refl refl h
  where
    by : (x y : Bool) → (b == 0x3C) ≡ x → (b == 0x26) ≡ y → not (x || y) ≡ false → b < 128
    by true y e f h = omega (arith, eqb-true b 0x3C e)
    by false true e f h = omega (arith, eqb-true b 0x26 f)
    by false false e f h = absurd (true≢false h)

pub cut_at_mark : (text : List ℕ) (n : ℕ) → n ≡ prefix_len is_plain text → (n ≤ length text) × (n < length text → 128 ≤ get_or text n 0 → 192 ≤ get_or text n 0)
cut_at_mark text n e = (
  subst (λ m. m ≤ length text) (sym e) (prefix_len-le-length is_plain text),
  λ l k. absurd (omega (arith, k, subst (λ m. get_or text m 0 < 128) (sym e) (plain_ascii (get_or text (prefix_len is_plain text) 0) (prefix_len_stops is_plain text 0 (subst (λ m. m < length text) e l))))),
)

-- a text as a run and what follows it

pub record AtFront (text run rest : List ℕ) : Type 0 where
  pub parts_are : text ≡ run ++ rest
  pub some : 0 < length run
  pub plain : IsTrue (list_all is_plain run)
  pub characters : IsChars text → IsChars run

pub at_front : {text run rest : List ℕ} (n : ℕ) → n ≡ prefix_len is_plain text → (n ≡ 0 → ⊥) → run ≡ take n text → rest ≡ drop n text → AtFront text run rest
at_front {text} {run} {rest} n e some front back =
    let long : length (take n text) ≡ n = ap (λ m. length (take m text)) e ∙ (length-prefix_len is_plain text ∙ sym e) in
    record {
      parts_are = sym (take-append-drop n text) ∙ (ap (λ w. w ++ drop n text) (sym front) ∙ ap (λ w. run ++ w) (sym back));
      some = omega (arith, some, long, ap length front);
      plain = plain_front text run n e front;
      characters = λ h. subst IsChars (sym front) (cut_chars text n h (cut_at_mark text n e)).0;
    }

pub at_front_less : {text run rest : List ℕ} → AtFront text run rest → length rest < length text
at_front_less {text} {run} {rest} a = omega (arith, a.some, ap length a.parts_are, length-append run rest)

-- behind it no other one begins
pub bare_behind : (text rest : List ℕ) (n : ℕ) → n ≡ prefix_len is_plain text → rest ≡ drop n text → prefix_len is_plain rest ≡ 0
bare_behind text rest n e back = ap (prefix_len is_plain) back ∙ by (ltb n (length text)) refl
  where
    by : (b : Bool) → ltb n (length text) ≡ b → prefix_len is_plain (drop n text) ≡ 0
    by true l =
        let low : n < length text = ltb-true n (length text) l in
        prefix_len-drop_no is_plain text n 0 low (ap (λ k. is_plain (get_or text k 0)) e ∙ prefix_len_stops is_plain text 0 (omega (arith, e, low)))
    by false l = prefix_len-drop_all is_plain text n (ltb-false n (length text) l)

pub begun_text : {old new : Reader} {text run rest : List ℕ} {blank : Bool} (end place known : ℕ) → AtFront text run rest → old.part ≡ parts.Between → old.phase ≡ phases.Content → IsReading old
    → cdata_scan 0 run ≡ going known → is_white_space_only run ≡ blank → TakesText blank old.elements new.elements → new.part ≡ parts.Data known → new.phase ≡ old.phase → new.begun ≡ place → place + length text ≡ end
    → ReadsOn old new text rest end
begun_text {old} {new} {text} {run} {rest} end place known a e c ready scanned white t part phase begun fits =
    front_read end (place + length run) a.parts_are a.characters (omega (arith, fits, ap length a.parts_are, length-append run rest))
    (run_begun (place + length run) place known e c ready a.some a.plain scanned white t part phase begun refl)

pub begun_text_faults : {old : Reader} {text run rest found : List ℕ} (end place : ℕ) → AtFront text run rest → old.part ≡ parts.Between → old.phase ≡ phases.Content → cdata_scan 0 run ≡ before found
    → place + length text ≡ end → FaultsOn old text end (faults.Malformed (record { 0 = place }))
begun_text_faults {old} {text} {run} {rest} end place a e c scanned fits =
    front_faults rest (faults.Malformed (record { 0 = place })) end (place + length run) a.parts_are a.characters (omega (arith, fits, ap length a.parts_are, length-append run rest)) (run_begun_faults (place + length run) place e c a.some a.plain scanned refl)

pub grown_text : {old new : Reader} {text run rest : List ℕ} {blank : Bool} (end brackets known : ℕ) → length text ≤ end → AtFront text run rest → old.part ≡ parts.Data brackets → IsReading old
    → cdata_scan brackets run ≡ going known → is_white_space_only run ≡ blank → TakesText blank old.elements new.elements → new.part ≡ parts.Data known → new.phase ≡ old.phase → new.begun ≡ old.begun → ReadsOn old new text rest end
grown_text {old} {new} {text} {run} {rest} end brackets known low a e ready scanned white t part phase begun =
    front_read end (end - length rest) a.parts_are a.characters (omega (arith, low, ap length a.parts_are, length-append run rest)) (run_grown (end - length rest) brackets known e ready a.some a.plain scanned white t part phase begun)

pub grown_text_faults : {old : Reader} {text run rest found : List ℕ} (end brackets : ℕ) → length text ≤ end → AtFront text run rest → old.part ≡ parts.Data brackets → cdata_scan brackets run ≡ before found
    → FaultsOn old text end (faults.Malformed (record { 0 = old.begun }))
grown_text_faults {old} {text} {run} {rest} end brackets low a e scanned =
    front_faults rest (faults.Malformed (record { 0 = old.begun })) end (end - length rest) a.parts_are a.characters (omega (arith, low, ap length a.parts_are, length-append run rest)) (run_grown_faults (end - length rest) brackets e a.some a.plain scanned)
