-- What a reader stands for as it goes on in a tag, and behind it.
use Rattle.std.proofs.Common.{◌≡◌, ◌≢◌, inl, inr, ◌⊎◌, ℕ, ◌<◌, ◌≤◌, true, not, ◌==◌, List, [], ◌∷◌, ◌++◌, refl, ap, ◌∙◌, sym, subst, length, arith, codes, Option, None, append_assoc, append-nil}
use Rattle.std.specs.Prelude.{◌↔◌}
use Rattle.std.proofs.lemmas.Bool.{and_from}
use Rattle.std.proofs.lemmas.List.Folds.{list_all-append}
use Rattle.tc_model.specs.Grammars.{Grammar}
use Rattle.tc_model.specs.Names.{IsChars}
use Rattle.tc_model.specs.RawTrees.{Bound}
use Rattle.tc_model.specs.XmlTextBytes.{FrontOf, Lacks}
use Rattle.tc_model.specs.XmlTextScopes.{first_scope}
use Rattle.tc_model.proofs.XmlTextChars.{no_chars, join_chars}
use Rattle.tc_model.proofs.XmlTextRefused.{front_unique, whole_front}
use Rattle.tc_tags.specs.Begins.{BeginsTag}
use Rattle.tc_stream.specs.Outcomes.{Outcome, Comes}
use Rattle.tc_stream.specs.Goes.{Level}
use Rattle.tc_stream.specs.From.{Standing, open_in, StillComes}
use Rattle.tc_stream.specs.Faults.{IsFaultOf, IsFaultOfFront}
use Rattle.tc_stream.specs.Keeps.{AreSteps, Keeps}
use Rattle.tc_stream.specs.Parts.{MayPend, Pends}
use Rattle.tc_stream.specs.Scans.{quoted, tag_scan}
use Rattle.tc_stream.specs.Stands.{known_text, Tells, ReadsTo}
use Rattle.tc_stream.specs.Stands as t
use Rattle.tc_stream.specs.TagStands.{TagStands, StandsBehind}
use Rattle.tc_stream.specs.declared.elements.Elements.{Elements}
use Rattle.tc_stream.specs.declared.faults.StreamFault.{StreamFault}
use Rattle.tc_stream.specs.declared.parts.Part.{Part}
use Rattle.tc_stream.specs.declared.parts.Part.TheVariants as parts
use Rattle.tc_stream.specs.declared.phases.Phase.{Phase}
use Rattle.tc_stream.specs.declared.phases.Phase.TheVariants as phases
use Rattle.tc_stream.specs.declared.reader.Reader.{Reader}
use Rattle.tc_stream.proofs.EncodedLaws.{free_of}
use Rattle.tc_stream.proofs.LongLaws.{Starts, end_begins, free_lack, lacks_free, start_begins, starts_kept}
use Rattle.tc_stream.proofs.TagEndLaws.{then_tag, tag_more}
use Rattle.tc_stream.proofs.RootOpens.{root_opens}
use Rattle.tc_stream.proofs.OutcomeLaws.{comes_by_items}

-- what is said of the elements before the root element doesn't matter
standing_free : (n : ℕ) (phase : Phase) (s u : Standing) (bs : List ℕ) (o : Outcome) → phase ≢ phases.Content → phase ≢ phases.End → StillComes n phase s bs o → StillComes n phase u bs o
standing_free n phases.Mark s u bs o h k g = g
standing_free n phases.Front s u bs o h k g = g
standing_free n phases.Prolog s u bs o h k g = g
standing_free n phases.Root s u bs o h k g = g
standing_free n phases.Content s u bs o h k g = absurd (h refl)
standing_free n phases.End s u bs o h k g = absurd (k refl)

-- the characters at the front of characters are all of them
pub front_whole : {w f : List ℕ} → IsChars w → FrontOf w f → f ≡ w
front_whole h k = front_unique k (whole_front h)

-- nothing has come

mark_content : phases.Mark ≡ phases.Content → ⊥
mark_content e = cc

mark_end : phases.Mark ≡ phases.End → ⊥
mark_end e = cc

pub content_end : phases.Content ≡ phases.End → ⊥
content_end e = cc

pub new_reads : (x : Grammar) (s : Reader) → s.phase ≡ phases.Mark → s.part ≡ parts.Between → Keeps s.elements [] first_scope → AreSteps x s.elements.validity [] [] → ReadsTo x s []
new_reads x s phase part keeps steps = record {
  before = [];
  pending = [];
  parts_are = refl;
  before_chars = no_chars;
  pending_chars = no_chars;
  begun = λ h. absurd (h refl);
  pends = subst (λ p. Pends 0 p s []) (sym part) refl;
  may = subst (λ p. MayPend s.phase p) (sym part) tt;
  standing = open_in [] [] [];
  tells = t.before (λ e. mark_content (sym phase ∙ e)) (λ e. mark_end (sym phase ∙ e)) keeps steps;
  comes = λ r o. subst (λ p. Comes r o ↔ StillComes 0 p (open_in [] [] []) r o) (sym phase) (comes_by_items r o);
}

-- a fault of a front is one of what begins with it
pub front_more : (w v : List ℕ) (e : StreamFault) → IsFaultOfFront w e → IsFaultOfFront (w ++ v) e
front_more w v e f = λ r. subst (λ z. IsFaultOf z e) (sym (append_assoc w v r)) (f (v ++ r))

-- in which elements a tag stands

pub record Inside (x : Grammar) (e : Elements) (phase : Phase) (standing : Standing) : Type 0 where
  pub ls : List Level
  pub scope : List Bound
  pub run : List ℕ
  pub keeps : Keeps e ls scope
  pub steps : AreSteps x e.validity ls run
  pub some : phase ≡ phases.Content → ls ≢ []
  pub same : (n : ℕ) (item r : List ℕ) (o : Outcome) → IsChars item → BeginsTag item → StillComes n phase standing (item ++ r) o ↔ StillComes n phases.Content (open_in ls scope run) (item ++ r) o

root_same : (n : ℕ) (item r : List ℕ) (phase : Phase) (o : Outcome) → IsChars item → BeginsTag item → phase ≢ phases.Content → phase ≢ phases.End
    → StillComes n phase (open_in [] [] []) (item ++ r) o ↔ StillComes n phases.Content (open_in [] first_scope []) (item ++ r) o
root_same n item r phase o chars b h k =
    let both = root_opens n b.next b.rest r phase o (subst IsChars b.opens chars) b.no_mark b.no_instruction h k in
    let moved : StillComes n phase (open_in [] first_scope []) (item ++ r) o ↔ StillComes n phases.Content (open_in [] first_scope []) (item ++ r) o =
    subst (λ z. StillComes n phase (open_in [] first_scope []) (z ++ r) o ↔ StillComes n phases.Content (open_in [] first_scope []) (z ++ r) o) (sym b.opens) both in (
      (λ g. moved.0 (standing_free n phase (open_in [] [] []) (open_in [] first_scope []) (item ++ r) o h k g)),
      (λ g. standing_free n phase (open_in [] first_scope []) (open_in [] [] []) (item ++ r) o h k (moved.1 g)),
    )

pub inside_tag : {x : Grammar} {pending : List ℕ} {e : Elements} {phase : Phase} {standing : Standing} (part : Part) → ((w : List ℕ) → known_text part w ≡ []) → phase ≢ phases.End
    → Tells x pending part e phase standing → Inside x e phase standing
inside_tag {phase = phase} part none h (t.before c k keeps steps) = record {
  ls = [];
  scope = first_scope;
  run = [];
  keeps = keeps;
  steps = steps;
  some = λ i. absurd (c i);
  same = λ n item r o chars b. root_same n item r phase o chars b c k;
}
inside_tag {x} {pending} {e} part none h (t.within {ls = ls} {l = l} {scope = scope} {run = run} keeps steps) = record {
  ls = l ∷ ls;
  scope = scope;
  run = run;
  keeps = keeps;
  steps = subst (λ z. AreSteps x e.validity (l ∷ ls) z) (ap (λ w. run ++ w) (none pending) ∙ append-nil run) steps;
  some = λ i k. omega (arith, ap length k);
  same = λ n item r o chars b. ((λ g. g), (λ g. g));
}
inside_tag part none h (t.behind is valid) = absurd (h refl)

-- a tag that is kept, and what is read with it

stands_by : (x : Grammar) (s : Reader) (chars more : List ℕ) (part : Part) (r : ReadsTo x s chars) → r.pending ≡ s.tag.bytes.items → BeginsTag s.tag.bytes.items → s.part ≡ part → ((w : List ℕ) → known_text part w ≡ [])
    → s.phase ≢ phases.End → IsChars more → (a : TagStands x s.elements s.begun (s.tag.bytes.items ++ more) (chars ++ more)) × (s.phase ≡ phases.Content → a.ls ≢ [])
stands_by x s chars more part r same b is none h k = (
  record {
    before = r.before;
    parts_are = ap (λ w. w ++ more) r.parts_are ∙ (append_assoc r.before r.pending more ∙ ap (λ w. r.before ++ (w ++ more)) same);
    stands = r.begun (λ e. omega (arith, ap length (sym e ∙ (same ∙ b.opens))));
    before_chars = r.before_chars;
    item_chars = join_chars s.tag.bytes.items more kept_chars k;
    ls = inside.ls;
    scope = inside.scope;
    run = inside.run;
    keeps = inside.keeps;
    steps = inside.steps;
    comes = λ y o. (past y o, back y o);
  },
  inside.some,
)
  where
    kept_chars : IsChars s.tag.bytes.items
    kept_chars = subst IsChars same r.pending_chars

    inside : Inside x s.elements s.phase r.standing
    inside = inside_tag part none h (subst (λ z. Tells x r.pending z s.elements s.phase r.standing) is r.tells)

    past : (y : List ℕ) (o : Outcome) → Comes ((chars ++ more) ++ y) o → StillComes (length r.before) phases.Content (open_in inside.ls inside.scope inside.run) ((s.tag.bytes.items ++ more) ++ y) o
    past y o g =
        let there : StillComes (length r.before) s.phase r.standing (r.pending ++ (more ++ y)) o = (r.comes (more ++ y) o).0 (subst (λ z. Comes z o) (append_assoc chars more y) g) in
        let here : StillComes (length r.before) s.phase r.standing (s.tag.bytes.items ++ (more ++ y)) o = subst (λ z. StillComes (length r.before) s.phase r.standing (z ++ (more ++ y)) o) same there in
        subst (λ z. StillComes (length r.before) phases.Content (open_in inside.ls inside.scope inside.run) z o) (sym (append_assoc s.tag.bytes.items more y))
        ((inside.same (length r.before) s.tag.bytes.items (more ++ y) o kept_chars b).0 here)

    back : (y : List ℕ) (o : Outcome) → StillComes (length r.before) phases.Content (open_in inside.ls inside.scope inside.run) ((s.tag.bytes.items ++ more) ++ y) o → Comes ((chars ++ more) ++ y) o
    back y o g =
        let there : StillComes (length r.before) phases.Content (open_in inside.ls inside.scope inside.run) (s.tag.bytes.items ++ (more ++ y)) o =
        subst (λ z. StillComes (length r.before) phases.Content (open_in inside.ls inside.scope inside.run) z o) (append_assoc s.tag.bytes.items more y) g in
        let here : StillComes (length r.before) s.phase r.standing (s.tag.bytes.items ++ (more ++ y)) o = (inside.same (length r.before) s.tag.bytes.items (more ++ y) o kept_chars b).1 there in
        subst (λ z. Comes z o) (sym (append_assoc chars more y))
        ((r.comes (more ++ y) o).1 (subst (λ z. StillComes (length r.before) s.phase r.standing (z ++ (more ++ y)) o) (sym same) here))

-- a start tag or an empty-element tag that is kept

pub record KeptStart (x : Grammar) (s : Reader) (chars : List ℕ) (q : Option ℕ) : Type 0 where
  pub reads : ReadsTo x s chars
  pub same : reads.pending ≡ s.tag.bytes.items
  pub opens : Starts s.tag.bytes.items
  pub scanned : tag_scan None s.tag.bytes.items ≡ quoted q
  pub low : length s.tag.bytes.items ≤ 65536
  pub room : length s.elements.levels.items < 2000
  pub not_mark : s.phase ≢ phases.Mark
  pub not_end : s.phase ≢ phases.End

pub kept_start : (x : Grammar) (s : Reader) (chars : List ℕ) (q : Option ℕ) → ReadsTo x s chars → s.part ≡ parts.Tag q → KeptStart x s chars q
kept_start x s chars q r is =
    let p : Pends (length r.before) (parts.Tag q) s r.pending = subst (λ z. Pends (length r.before) z s r.pending) is r.pends in
    let m : MayPend s.phase (parts.Tag q) = subst (λ z. MayPend s.phase z) is r.may in
    let (c, rest, opens, starts) = p.1 in
    let so : Starts s.tag.bytes.items = record { char = c; rest = rest; opens = opens; starts = starts } in
    record { reads = r; same = p.0; opens = so; scanned = p.2; low = p.3; room = p.4; not_mark = m.0; not_end = m.1 }

pub stands_start : (x : Grammar) (s : Reader) (chars more : List ℕ) (q : Option ℕ) (k : KeptStart x s chars q) → s.part ≡ parts.Tag q → IsChars more
    → TagStands x s.elements s.begun (s.tag.bytes.items ++ more) (chars ++ more)
stands_start x s chars more q k is h = (stands_by x s chars more (parts.Tag q) k.reads k.same (start_begins k.opens) is (λ w. refl) k.not_end h).0

-- what its scan is with more
pub scan_on : (kept more : List ℕ) (q : Option ℕ) → tag_scan None kept ≡ quoted q → tag_scan None (kept ++ more) ≡ tag_scan q more
scan_on kept more q e = tag_more None kept more ∙ ap (λ y. then_tag y more) e

-- an end tag that is kept

pub record KeptEnd (x : Grammar) (s : Reader) (chars : List ℕ) : Type 0 where
  pub reads : ReadsTo x s chars
  pub same : reads.pending ≡ s.tag.bytes.items
  pub rest : List ℕ
  pub opens : s.tag.bytes.items ≡ codes "</" ++ rest
  pub begins : BeginsTag s.tag.bytes.items
  pub slash : begins.next ≡ 0x2F
  pub lacks : Lacks (0x3E ∷ []) s.tag.bytes.items
  pub content : s.phase ≡ phases.Content

pub kept_end : (x : Grammar) (s : Reader) (chars : List ℕ) → ReadsTo x s chars → s.part ≡ parts.EndTag → KeptEnd x s chars
kept_end x s chars r is =
    let p : Pends (length r.before) parts.EndTag s r.pending = subst (λ z. Pends (length r.before) z s r.pending) is r.pends in
    let m : MayPend s.phase parts.EndTag = subst (λ z. MayPend s.phase z) is r.may in
    let b = end_begins p.1.0 p.1.1 in
    record { reads = r; same = p.0; rest = p.1.0; opens = p.1.1; begins = b.0; slash = b.1; lacks = p.2; content = m }

pub stands_end : (x : Grammar) (s : Reader) (chars more : List ℕ) (k : KeptEnd x s chars) → s.part ≡ parts.EndTag → IsChars more
    → (a : TagStands x s.elements s.begun (s.tag.bytes.items ++ more) (chars ++ more)) × (a.ls ≢ [])
stands_end x s chars more k is h =
    let both = stands_by x s chars more parts.EndTag k.reads k.same k.begins is (λ w. refl) (λ e. content_end (sym k.content ∙ e)) h in (both.0, both.1 k.content)

-- bytes without a `>`

pub free_join : (w v : List ℕ) → Lacks (0x3E ∷ []) w → Lacks (0x3E ∷ []) v → free_of 0x3E (w ++ v) ≡ true
free_join w v h k = list_all-append (λ b. not (b == 0x3E)) w v ∙ and_from (free_of 0x3E w) (free_of 0x3E v) (lacks_free w h) (lacks_free v k)

-- more of a tag is kept

tells_over : {x : Grammar} {w : List ℕ} {part : Part} {e : Elements} {phase : Phase} {standing : Standing} (next : Part) (v : List ℕ) → ((z : List ℕ) → known_text part z ≡ []) → ((z : List ℕ) → known_text next z ≡ [])
    → Tells x w part e phase standing → Tells x v next e phase standing
tells_over next v none too (t.before c k keeps steps) = t.before c k keeps steps
tells_over {x} {w} {part} {e} next v none too (t.within {ls = ls} {l = l} {run = run} keeps steps) =
    t.within keeps (subst (λ z. AreSteps x e.validity (l ∷ ls) (run ++ z)) (none w ∙ sym (too v)) steps)
tells_over next v none too (t.behind is valid) = t.behind is valid

grown : (x : Grammar) (s u : Reader) (chars more : List ℕ) (part next : Part) (r : ReadsTo x s chars) → s.part ≡ part → u.part ≡ next → ((z : List ℕ) → known_text part z ≡ []) → ((z : List ℕ) → known_text next z ≡ [])
    → u.elements ≡ s.elements → u.phase ≡ s.phase → u.begun ≡ s.begun → r.pending ≢ [] → IsChars more → Pends (length r.before) next u (r.pending ++ more) → MayPend s.phase next
    → ReadsTo x u (chars ++ more)
grown x s u chars more part next r is now none too elements phase begun some h pends may = record {
  before = r.before;
  pending = r.pending ++ more;
  parts_are = ap (λ w. w ++ more) r.parts_are ∙ append_assoc r.before r.pending more;
  before_chars = r.before_chars;
  pending_chars = join_chars r.pending more r.pending_chars h;
  begun = λ e. begun ∙ r.begun some;
  pends = subst (λ z. Pends (length r.before) z u (r.pending ++ more)) (sym now) pends;
  may = subst (λ z. MayPend u.phase z) (sym now) (subst (λ z. MayPend z next) (sym phase) may);
  standing = r.standing;
  tells =
      subst (λ z. Tells x (r.pending ++ more) z u.elements u.phase r.standing) (sym now)
      (subst (λ z. Tells x (r.pending ++ more) next u.elements z r.standing) (sym phase)
      (subst (λ z. Tells x (r.pending ++ more) next z s.phase r.standing) (sym elements)
      (tells_over next (r.pending ++ more) none too (subst (λ z. Tells x r.pending z s.elements s.phase r.standing) is r.tells))));
  comes = λ y o.
      subst (λ z. Comes ((chars ++ more) ++ y) o ↔ StillComes (length r.before) z r.standing ((r.pending ++ more) ++ y) o) (sym phase)
      (subst (λ z. Comes z o ↔ StillComes (length r.before) s.phase r.standing ((r.pending ++ more) ++ y) o) (sym (append_assoc chars more y))
      (subst (λ z. Comes (chars ++ (more ++ y)) o ↔ StillComes (length r.before) s.phase r.standing z o) (sym (append_assoc r.pending more y)) (r.comes (more ++ y) o)));
}

pub grown_start : (x : Grammar) (s u : Reader) (chars more : List ℕ) (q next : Option ℕ) (k : KeptStart x s chars q) → s.part ≡ parts.Tag q → u.part ≡ parts.Tag next → u.elements ≡ s.elements → u.phase ≡ s.phase
    → u.begun ≡ s.begun → u.tag.bytes.items ≡ s.tag.bytes.items ++ more → length u.tag.bytes.items ≤ 65536 → tag_scan q more ≡ quoted next → IsChars more → ReadsTo x u (chars ++ more)
grown_start x s u chars more q next k is now elements phase begun tag low scanned h =
    let more_of = starts_kept more k.opens in
    grown x s u chars more (parts.Tag q) (parts.Tag next) k.reads is now (λ z. refl) (λ z. refl) elements phase begun (λ e. omega (arith, ap length (sym e ∙ (k.same ∙ k.opens.opens)))) h (
      ap (λ w. w ++ more) k.same ∙ sym tag,
      (more_of.char, more_of.rest, tag ∙ more_of.opens, more_of.starts),
      ap (tag_scan None) tag ∙ (scan_on s.tag.bytes.items more q k.scanned ∙ scanned),
      low,
      subst (λ e. length e.levels.items < 2000) (sym elements) k.room,
    )
    (k.not_mark, k.not_end)

pub grown_end : (x : Grammar) (s u : Reader) (chars more : List ℕ) (k : KeptEnd x s chars) → s.part ≡ parts.EndTag → u.part ≡ s.part → u.elements ≡ s.elements → u.phase ≡ s.phase
    → u.begun ≡ s.begun → u.tag.bytes.items ≡ s.tag.bytes.items ++ more → length u.tag.bytes.items ≤ 65536 → Lacks (0x3E ∷ []) more → IsChars more → ReadsTo x u (chars ++ more)
grown_end x s u chars more k is now elements phase begun tag low lacks h =
    grown x s u chars more parts.EndTag parts.EndTag k.reads is (now ∙ is) (λ z. refl) (λ z. refl) elements phase begun (λ e. omega (arith, ap length (sym e ∙ (k.same ∙ k.begins.opens)))) h (
      ap (λ w. w ++ more) k.same ∙ sym tag,
      (k.rest ++ more, tag ∙ ap (λ w. w ++ more) k.opens),
      subst (Lacks (0x3E ∷ [])) (sym tag) (free_lack (s.tag.bytes.items ++ more) (free_join s.tag.bytes.items more k.lacks lacks)),
      low,
    )
    k.content

-- behind a tag

list_cases : {A : Type 0} (xs : List A) → (xs ≡ []) ⊎ (xs ≡ [] → ⊥)
list_cases [] = inl refl
list_cases (x ∷ xs) = inr (λ e. omega (arith, ap length e))

pub reads_behind : (x : Grammar) (u : Reader) (e : Elements) (chars : List ℕ) → StandsBehind x e chars → u.elements ≡ e → u.part ≡ parts.Between → ((e.levels.items ≡ [] → ⊥) → u.phase ≡ phases.Content)
    → (e.levels.items ≡ [] → u.phase ≡ phases.End) → ReadsTo x u chars
reads_behind x u e chars b elements part inside outside = record {
  before = chars;
  pending = [];
  parts_are = sym (append-nil chars);
  before_chars = b.characters;
  pending_chars = no_chars;
  begun = λ h. absurd (h refl);
  pends = subst (λ z. Pends (length chars) z u []) (sym part) refl;
  may = subst (λ z. MayPend u.phase z) (sym part) tt;
  standing = b.standing;
  tells =
      subst (λ z. Tells x [] z u.elements u.phase b.standing) (sym part)
      (subst (λ z. Tells x [] parts.Between u.elements z b.standing) (same (list_cases e.levels.items)) (subst (λ z. Tells x [] parts.Between z b.phase b.standing) (sym elements) b.tells));
  comes = λ r o. subst (λ z. Comes (chars ++ r) o ↔ StillComes (length chars) z b.standing r o) (same (list_cases e.levels.items)) (b.comes r o);
}
  where
    same : (e.levels.items ≡ []) ⊎ (e.levels.items ≡ [] → ⊥) → b.phase ≡ u.phase
    same (inl none) = b.outside none ∙ sym (outside none)
    same (inr some) = b.inside some ∙ sym (inside some)
