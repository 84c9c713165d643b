-- What is handed on of a text, step by step.
use Rattle.std.proofs.Common.{◌≡◌, ◌≢◌, ℕ, suc, ◌<◌, Bool, true, false, cond, List, [], ◌∷◌, ◌++◌, refl, ap, ◌∙◌, sym, subst, length, arith, codes, append_assoc, append-nil, length-append}
use Rattle.tc_model.specs.Events.{Event, characters, start, end, Takes, nothing, event, events}
use Rattle.tc_model.specs.Names.{ExpandedName}
use Rattle.tc_model.specs.RawTrees.{RawTrees, none, text, element, Attribute, Bound}
use Rattle.tc_model.specs.Stripped.{bare, stripped}
use Rattle.tc_model.specs.Trees as t
use Rattle.tc_model.specs.Trees.{Trees, is_white_space_only, joined_to, joined, kept, dropped}
use Rattle.tc_model.specs.XmlText.{Reads, after_mark}
use Rattle.tc_model.specs.XmlTextBytes.{place_of, FrontOf}
use Rattle.tc_model.specs.XmlTextMisc.{DeclarationAt, MiscAt, DoctypeAt}
use Rattle.tc_model.specs.XmlTextNames.{QualifiedName, QNameAt}
use Rattle.tc_model.specs.XmlTextContent.{Piece, whole, characters_before, piece_before, TagAt, ContentAt, at_end_tag, item, ItemAt, child, ElementAt, empty_tag, with_content}
use Rattle.tc_model.specs.XmlTextContent as c
use Rattle.tc_model.specs.XmlTextScopes.{first_scope}
use Rattle.tc_model.specs.Names.{IsChars}
use Rattle.tc_model.proofs.NormalForm.{dropped_empty, joined_twice}
use Rattle.std.specs.Prelude.{zero, reverse, Option, None, Some, MatchOption, IfSome}
use Rattle.std.proofs.lemmas.List.{nil_from_length}
use Rattle.tc_xml.specs.declared.levels.Open.{Open}
use Rattle.tc_xml.specs.Reading.{EndTagAt, SmallItemAt}
use Rattle.tc_xml.specs.Bindings.{Tells, TakesBack, now_bound, hidden}
use Rattle.tc_xml.specs.PlainTags.{TagRead}
use Rattle.tc_xml.specs.Spelled.{AreRight}
use Rattle.tc_xml.specs.declared.bindings.Bindings.{Bindings}
use Rattle.tc_xml.specs.declared.plain_tags.Tag.{Tag}
use Rattle.tc_xml.specs.declared.levels.Levels.{Levels}
use Rattle.tc_xml.proofs.BindingLaws.{tells_first}
use Rattle.tc_xml.proofs.OpenLaws.{open_one, open_less, open_same, none_open, some_open, last_open, from_last_open}
use Rattle.tc_model.specs.Views.{name}
use Rattle.tc_scan.specs.Views.{written_name}
use Rattle.tc_xml.specs.Taking.{waiting, Took, Started, Inside, Standing, before_root, within, Finished, After, AreOpen, IsWithin, StandsAt, StandsAfter}
use Rattle.tc_tags.proofs.FormLaws.{qname_within, white_within}

pub takes_both : {S : Type 0} {one : S → Event → S → Type 0} {a b d : S} {es fs : List Event} → Takes one a es b → Takes one b fs d → Takes one a (es ++ fs) d
takes_both nothing k = k
takes_both (event o h) k = event o (takes_both h k)

pub takes_one : {S : Type 0} {one : S → Event → S → Type 0} {a b : S} {e : Event} → one a e b → Takes one a (e ∷ []) b
takes_one o = event o nothing

-- runs

waiting_characters : (run s : List ℕ) (p : ℕ) (h : RawTrees) → waiting run (characters_before s p h) ≡ waiting (run ++ s) h
waiting_characters run s p (text u q rest) =
    ap (λ w. events (dropped w)) (joined_twice run (s ++ u) (joined (bare rest)) ∙ (ap (λ w. joined_to w (joined (bare rest))) (sym (append_assoc run s u)) ∙ sym (joined_twice (run ++ s) u (joined (bare rest)))))
waiting_characters run [] p none = ap (λ w. waiting w none) (sym (append-nil run))
waiting_characters run [] p (element n x scope q kids rest) = ap (λ w. waiting w (element n x scope q kids rest)) (sym (append-nil run))
waiting_characters run (b ∷ s) p none = refl
waiting_characters run (b ∷ s) p (element n x scope q kids rest) = refl

waiting_element : (run : List ℕ) (n : ExpandedName) (x : List Attribute) (scope : List Bound) (p : ℕ) (kids h : RawTrees)
    → waiting run (element n x scope p kids h) ≡ waiting run none ++ start n ∷ (waiting [] kids ++ end ∷ waiting [] h)
waiting_element run n x scope p kids h =
    by (is_white_space_only run) (dropped (joined (bare kids))) (dropped (joined (bare h)))
    ∙ ap (λ w. waiting run none ++ start n ∷ w)
    (ap (λ w. w ++ end ∷ events (dropped (joined (bare h)))) (sym (ap events (dropped_empty (joined (bare kids))))) ∙ ap (λ w. waiting [] kids ++ end ∷ w) (sym (ap events (dropped_empty (joined (bare h))))))
  where
    by : (b : Bool) (k r : Trees) → events (cond b (t.element n k r) (t.text run (t.element n k r))) ≡ events (cond b t.none (t.text run t.none)) ++ start n ∷ (events k ++ end ∷ events r)
    by true k r = refl
    by false k r = refl

pub took_nothing : {S : Type 0} (one : S → Event → S → Type 0) (s : S) (run : List ℕ) → Took one s run c.nothing s run
took_nothing one s run = record { handed = []; takes = nothing; tells = λ h. refl }

pub took_characters : {S : Type 0} (one : S → Event → S → Type 0) (old new : S) (run more left : List ℕ) (p : ℕ) → new ≡ old → left ≡ run ++ more → Took one old run (c.characters more p) new left
took_characters one old new run more left p same e = record {
  handed = [];
  takes = subst (λ s. Takes one old [] s) (sym same) nothing;
  tells = λ h. waiting_characters run more p h ∙ ap (λ w. waiting w h) (sym e);
}

-- an item more within the innermost element

inside_more : {S : Type 0} {one : S → Event → S → Type 0} {total depth : ℕ} {before rest after waits run left : List ℕ} {e : Started} {scope : List Bound} {mid old new : S} {p : Piece}
    → Inside one total before mid waits e scope depth rest old run → ItemAt false total scope depth rest p after → Took one old run p new left
    → Inside one total before mid waits e scope depth after new left
inside_more {left = left} {p = p} i a k = record {
  name = i.name;
  expanded = i.expanded;
  inside = i.inside;
  deeper = i.deeper;
  tag = i.tag;
  grows = λ h. i.grows (piece_before p h);
  forth = λ h end m. i.forth (piece_before p h) end (item a m);
  handed = i.handed ++ k.handed;
  takes = takes_both i.takes k.takes;
  tells = λ j h.
      i.tells (piece_before p j) h
      ∙ (ap (λ w. i.handed ++ (w ++ end ∷ waiting [] h)) (k.tells j)
      ∙ (ap (λ w. i.handed ++ w) (append_assoc k.handed (waiting left j) (end ∷ waiting [] h))
      ∙ sym (append_assoc i.handed k.handed (waiting left j ++ end ∷ waiting [] h))));
}

-- an element was taken whole
pub past_element : {S : Type 0} {one : S → Event → S → Type 0} {total deepest depth : ℕ} {root before after waits : List ℕ} {begun mid new : S} {es : List Started} {scope : List Bound} {p : Piece}
    → Standing one total deepest root begun es scope depth before mid waits → ElementAt false total scope depth before p after → Took one mid waits p new []
    → After one total deepest root begun es scope depth after new []
past_element {p = p} before_root a k = record { piece = p; reads = a; took = k }
past_element (within s i) a k = within s (inside_more i (child a) k)

-- an element starts
pub go_into : {S : Type 0} (one : S → Event → S → Type 0) (total deepest depth : ℕ) (root before inside waits run : List ℕ) (begun mid new : S) (es : List Started) (outer scope : List Bound)
    (w : QualifiedName) (n : ExpandedName) (x : List Attribute) (d : ℕ)
    → Standing one total deepest root begun es outer d before mid waits → d ≡ suc depth → TagAt false total outer before w scope n x (0x3E ∷ inside)
    → Takes one mid (waiting waits none ++ start n ∷ []) new → run ≡ []
    → Standing one total deepest root begun (record { written = w; outer = outer; depth = d } ∷ es) scope depth inside new run
go_into one total deepest depth root before inside waits run begun mid new es outer scope w n x d s e a f empty =
    subst (λ r. Standing one total deepest root begun (record { written = w; outer = outer; depth = d } ∷ es) scope depth inside new r) (sym empty)
    (within s (record {
      name = n;
      expanded = x;
      inside = inside;
      deeper = e;
      tag = a;
      grows = λ h. h;
      forth = λ h after m. m;
      handed = waiting waits none ++ start n ∷ [];
      takes = f;
      tells = λ k h. waiting_element waits n x scope (place_of total before) k h ∙ sym (append_assoc (waiting waits none) (start n ∷ []) (waiting [] k ++ end ∷ waiting [] h));
    }))

-- an element without content
pub pass : {S : Type 0} (one : S → Event → S → Type 0) (total deepest : ℕ) (root before after waits run : List ℕ) (begun mid opened new : S) (es : List Started) (outer scope : List Bound)
    (w : QualifiedName) (n : ExpandedName) (x : List Attribute) (d : ℕ)
    → Standing one total deepest root begun es outer d before mid waits → 0 < d → TagAt false total outer before w scope n x (codes "/>" ++ after)
    → Takes one mid (waiting waits none ++ start n ∷ []) opened → one opened end new → run ≡ []
    → After one total deepest root begun es outer d after new run
pass one total deepest root before after waits run begun mid opened new es outer scope w n x zero s some a f k empty = absurd (omega (arith, some))
pass one total deepest root before after waits run begun mid opened new es outer scope w n x (suc d) s some a f k empty =
    subst (λ r. After one total deepest root begun es outer (suc d) after new r) (sym empty)
    (past_element s (empty_tag a) (record {
      handed = (waiting waits none ++ start n ∷ []) ++ end ∷ [];
      takes = takes_both f (takes_one k);
      tells = λ h.
          waiting_element waits n x scope (place_of total before) none h
          ∙ (sym (append_assoc (waiting waits none) (start n ∷ []) (end ∷ waiting [] h))
          ∙ sym (append_assoc (waiting waits none ++ start n ∷ []) (end ∷ []) (waiting [] h)));
    }))

-- an element ends
pub go_out : {S : Type 0} (one : S → Event → S → Type 0) (total deepest depth : ℕ) (root at after run left : List ℕ) (begun old flushed new : S) (e : Started) (es : List Started) (scope : List Bound)
    → Standing one total deepest root begun (e ∷ es) scope depth at old run → EndTagAt e.written at after
    → Takes one old (waiting run none) flushed → one flushed end new → left ≡ []
    → After one total deepest root begun es e.outer e.depth after new left
go_out one total deepest depth root at after run left begun old flushed new e es scope (within {before = before} {waits = waits} {mid = mid} s i) a f k empty =
    subst (λ r. After one total deepest root begun es e.outer e.depth after new r) (sym empty) (past_element s reads took)
  where
    kids : RawTrees
    kids = i.grows none

    content : ContentAt false total scope depth i.inside kids (0x3C ∷ 0x2F ∷ a.rest)
    content = subst (ContentAt false total scope depth i.inside kids) a.opens (i.forth none at (subst (λ w. ContentAt false total scope depth w none w) (sym a.opens) at_end_tag))

    reads : ElementAt false total e.outer e.depth before (whole i.name i.expanded scope (place_of total before) kids) after
    reads = subst (λ d. ElementAt false total e.outer d before (whole i.name i.expanded scope (place_of total before) kids) after) (sym i.deeper) (with_content i.tag content a.names a.closes)

    took : Took one mid waits (whole i.name i.expanded scope (place_of total before) kids) new []
    took = record {
      handed = i.handed ++ (waiting run none ++ end ∷ []);
      takes = takes_both i.takes (takes_both f (takes_one k));
      tells = λ h.
          i.tells none h
          ∙ (ap (λ w. i.handed ++ w) (sym (append_assoc (waiting run none) (end ∷ []) (waiting [] h)))
          ∙ sym (append_assoc i.handed (waiting run none ++ end ∷ []) (waiting [] h)));
    }

-- the whole document
pub read_whole : {S : Type 0} (one : S → Event → S → Type 0) (deepest : ℕ) (bytes d m root rest : List ℕ) (old new : S) → IsChars bytes → DeclarationAt (after_mark bytes) d → MiscAt d m → DoctypeAt m root
    → Finished one (length bytes) deepest root old rest new → MiscAt rest [] → (h : RawTrees) × Reads false deepest bytes h × Takes one old (events (stripped h)) new
read_whole one deepest bytes d m root rest old new chars a b x f e = (
  piece_before f.piece none,
  record {
    past_declaration = d;
    past_misc = m;
    root = root;
    past_root = rest;
    piece = f.piece;
    characters = chars;
    declaration = a;
    misc = b;
    doctype = x;
    element = f.reads;
    end = e;
    is_tree = refl;
  },
  subst (λ w. Takes one old w new) (sym (f.took.tells none ∙ append-nil f.took.handed) ∙ ap events (dropped_empty (joined (bare (piece_before f.piece none))))) f.took.takes,
)

-- a run ends

pub white_run : {S : Type 0} (one : S → Event → S → Type 0) (old new : S) (run : List ℕ) → is_white_space_only run ≡ true → new ≡ old → Takes one old (waiting run none) new
white_run one old new run e same = subst (λ s. Takes one old (waiting run none) s) (sym same) (subst (λ es. Takes one old es old) (sym (ap (λ b. events (cond b t.none (t.text run t.none))) e)) nothing)

pub other_run : {S : Type 0} (one : S → Event → S → Type 0) (old new : S) (run : List ℕ) → is_white_space_only run ≡ false → one old (characters run) new → Takes one old (waiting run none) new
other_run one old new run e o = subst (λ es. Takes one old es new) (sym (ap (λ b. events (cond b t.none (t.text run t.none))) e)) (takes_one o)

-- a step within the innermost element

item_on : {S : Type 0} {one : S → Event → S → Type 0} {total deepest depth : ℕ} {root rest after run left : List ℕ} {begun old new : S} {es : List Started} {scope : List Bound} {p : Piece} → es ≢ []
    → Standing one total deepest root begun es scope depth rest old run → ItemAt false total scope depth rest p after → Took one old run p new left
    → After one total deepest root begun es scope depth after new left
item_on filled before_root a k = absurd (filled refl)
item_on filled (within s i) a k = within s (inside_more i a k)

-- with what is kept of elements that have started

pub step_within : {S : Type 0} {one : S → Event → S → Type 0} {total deepest : ℕ} {root rest after run left : List ℕ} {begun old new : S} {levels : Levels} {p : Piece}
    → levels.open.items ≢ [] → SmallItemAt total rest p after → Took one old run p new left
    → StandsAt one total deepest root begun levels rest old run → StandsAfter one total deepest root begun levels after new left
step_within {levels = levels} some a k s = record {
  started = s.started;
  scope = s.scope;
  shows = s.shows;
  stands = item_on (some_open (hidden levels.bindings) (now_bound levels.bindings) levels.open.items s.started some s.shows.opens) s.stands (a s.scope levels.depth) k;
}

-- an element without content was read
pub passes : {S : Type 0} (one : S → Event → S → Type 0) (total deepest count : ℕ) (root text after waits run : List ℕ) (begun mid opened closed : S) (levels between new : Levels) (tag : Tag)
    → StandsAt one total deepest root begun levels text mid waits → 0 < levels.depth → TagRead total levels.bindings text tag between.bindings → AreRight (now_bound new.bindings) new.spelled → tag.rest.now ≡ codes "/>" ++ after
    → count ≡ length (hidden levels.bindings) → TakesBack between.bindings count new.bindings → new.open.items ≡ levels.open.items → new.depth ≡ levels.depth
    → Takes one mid (waiting waits none ++ start (name tag.name) ∷ []) opened → one opened end closed → run ≡ []
    → StandsAfter one total deepest root begun new after closed run
passes one total deepest count root before after waits run begun mid opened closed levels between new tag s some r right e counts k same_opens same_depth f h empty =
    let (inner, x, told, a) = r.reads s.scope s.shows.tells in
    let back : TakesBack between.bindings (length (hidden levels.bindings)) new.bindings = subst (λ n. TakesBack between.bindings n new.bindings) counts k in
    let (opens, tells) = open_same {old = levels.bindings} {mid = between.bindings} {new = new.bindings} (reverse levels.open.items) s.started s.scope r.declares back s.shows.opens s.shows.tells in
    record {
      started = s.started;
      scope = s.scope;
      shows = record {
        opens = subst (λ os. AreOpen (hidden new.bindings) (now_bound new.bindings) (reverse os) s.started) (sym same_opens) opens;
        tells = tells;
        right = right;
      };
      stands =
          subst (λ d. After one total deepest root begun s.started s.scope d after closed run) (sym same_depth)
          (pass one total deepest root before after waits run begun mid opened closed s.started s.scope inner (written_name tag.written) (name tag.name) x levels.depth s.stands some
          (subst (λ z. TagAt false total s.scope before (written_name tag.written) inner (name tag.name) x z) e a) f h empty);
    }

-- an element has started, whose content comes
pub goes_into : {S : Type 0} (one : S → Event → S → Type 0) (total deepest count : ℕ) (root text inside waits run : List ℕ) (begun mid opened : S) (levels between new : Levels) (tag : Tag)
    → StandsAt one total deepest root begun levels text mid waits → TagRead total levels.bindings text tag between.bindings → AreRight (now_bound between.bindings) between.spelled
    → between.open.items ≡ levels.open.items → between.depth ≡ levels.depth → count ≡ length (hidden levels.bindings)
    → IsWithin between (written_name tag.written) count new → tag.rest.now ≡ 0x3E ∷ inside
    → Takes one mid (waiting waits none ++ start (name tag.name) ∷ []) opened → run ≡ []
    → StandsAfter one total deepest root begun new inside opened run
goes_into one total deepest count root before inside waits run begun mid opened levels between new tag s r right same_opens same_depth counts k e f empty =
    let (inner, x, told, a) = r.reads s.scope s.shows.tells in
    let w = written_name tag.written in
    let o : Started = record { written = w; outer = s.scope; depth = levels.depth } in
    let opens : AreOpen (hidden between.bindings) (now_bound between.bindings) (k.last ∷ reverse levels.open.items) (o ∷ s.started) =
    open_one levels.bindings between.bindings k.last o (reverse levels.open.items) s.started r.declares (k.counts ∙ counts) k.named (k.deep ∙ same_depth) s.shows.tells s.shows.opens in
    record {
      started = o ∷ s.started;
      scope = inner;
      shows = record {
        opens =
            subst (λ z. AreOpen (hidden z) (now_bound z) (reverse new.open.items) (o ∷ s.started)) (sym k.bindings)
            (from_last_open (hidden between.bindings) (now_bound between.bindings) new.open.items levels.open.items k.last (o ∷ s.started) (k.opens ∙ ap (λ z. z ++ k.last ∷ []) same_opens) opens);
        tells = subst (λ z. Tells (now_bound z) inner) (sym k.bindings) told;
        right = subst (λ z. AreRight (now_bound z) new.spelled) (sym k.bindings) (subst (AreRight (now_bound between.bindings)) (sym k.spelled) right);
      };
      stands =
          go_into one total deepest new.depth root before inside waits run begun mid opened s.started s.scope inner w (name tag.name) x levels.depth s.stands (sym same_depth ∙ k.deeper)
          (subst (λ z. TagAt false total s.scope before w inner (name tag.name) x z) e a) f empty;
    }

-- the innermost element has ended
pub goes_out : {S : Type 0} (one : S → Event → S → Type 0) (total deepest : ℕ) (root at after run left : List ℕ) (begun old flushed new : S) (levels : Levels) (front : List Open) (o : Open) (last : Bindings)
    → StandsAt one total deepest root begun levels at old run → levels.open.items ≡ front ++ o ∷ [] → EndTagAt (written_name o.written) at after → TakesBack levels.bindings o.count last
    → Takes one old (waiting run none) flushed → one flushed end new → left ≡ []
    → (es : List Started) × (scope : List Bound) × AreOpen (hidden last) (now_bound last) (reverse front) es × Tells (now_bound last) scope × After one total deepest root begun es scope o.depth after new left
goes_out one total deepest root at after run left begun old flushed new levels front o last s e a k f g empty = by s.started (last_open (hidden levels.bindings) (now_bound levels.bindings) levels.open.items front o s.started e s.shows.opens) s.stands
  where
    by : (es : List Started) → AreOpen (hidden levels.bindings) (now_bound levels.bindings) (o ∷ reverse front) es → Standing one total deepest root begun es s.scope levels.depth at old run
        → (es : List Started) × (scope : List Bound) × AreOpen (hidden last) (now_bound last) (reverse front) es × Tells (now_bound last) scope × After one total deepest root begun es scope o.depth after new left
    by [] h st = absurd h
    by (e ∷ es) h st =
        let (opens, tells) = open_less levels.bindings last o e (reverse front) es k h in (
          es,
          e.outer,
          opens,
          tells,
          subst (λ d. After one total deepest root begun es e.outer d after new left) (sym h.0.deep)
              (go_out one total deepest levels.depth root at after run left begun old flushed new e es s.scope st (subst (λ w. EndTagAt w at after) h.0.named a) f g empty),
        )

-- the innermost element's tag has its name
pub open_named : {S : Type 0} (one : S → Event → S → Type 0) (total deepest : ℕ) (root at run : List ℕ) (begun old : S) (levels : Levels) (front : List Open) (o : Open)
    → StandsAt one total deepest root begun levels at old run → levels.open.items ≡ front ++ o ∷ [] → (bs : List ℕ) × (past : List ℕ) × QNameAt bs (written_name o.written) past
open_named one total deepest root at run begun old levels front o s e = by s.started (last_open (hidden levels.bindings) (now_bound levels.bindings) levels.open.items front o s.started e s.shows.opens) s.stands
  where
    by : (es : List Started) → AreOpen (hidden levels.bindings) (now_bound levels.bindings) (o ∷ reverse front) es → Standing one total deepest root begun es s.scope levels.depth at old run
        → (bs : List ℕ) × (past : List ℕ) × QNameAt bs (written_name o.written) past
    by [] h st = absurd h
    by (e ∷ es) h (within t i) = (i.tag.rest, i.tag.past_name, subst (λ w. QNameAt i.tag.rest w i.tag.past_name) (sym h.0.named) i.tag.names)

-- before the root element
pub begin_at : {S : Type 0} (one : S → Event → S → Type 0) (total deepest : ℕ) (root run : List ℕ) (begun : S) (levels : Levels) → levels.open.items ≡ [] → now_bound levels.bindings ≡ first_scope → levels.depth ≡ deepest
    → AreRight (now_bound levels.bindings) levels.spelled → run ≡ [] → StandsAt one total deepest root begun levels root begun run
begin_at one total deepest root run begun levels e f g right h = record {
  started = [];
  scope = first_scope;
  shows = record {
    opens = subst (λ os. AreOpen (hidden levels.bindings) (now_bound levels.bindings) (reverse os) []) (sym e) tt;
    tells = tells_first (now_bound levels.bindings) f;
    right = right;
  };
  stands = subst (λ d. Standing one total deepest root begun [] first_scope d root begun run) (sym g) (subst (λ r. Standing one total deepest root begun [] first_scope deepest root begun r) (sym h) before_root);
}

-- where elements have started, reading stands within them
pub still_stands : {S : Type 0} {one : S → Event → S → Type 0} {total deepest : ℕ} {root rest run : List ℕ} {begun new : S} {levels : Levels} → StandsAfter one total deepest root begun levels rest new run
    → levels.open.items ≢ [] → StandsAt one total deepest root begun levels rest new run
still_stands {one = one} {total = total} {deepest = deepest} {root = root} {rest = rest} {run = run} {begun = begun} {new = new} {levels = levels} s some = record {
  started = s.started;
  scope = s.scope;
  shows = s.shows;
  stands = by s.started (some_open (hidden levels.bindings) (now_bound levels.bindings) levels.open.items s.started some s.shows.opens) s.stands;
}
  where
    by : (es : List Started) → es ≢ [] → After one total deepest root begun es s.scope levels.depth rest new run → Standing one total deepest root begun es s.scope levels.depth rest new run
    by [] filled a = absurd (filled refl)
    by (e ∷ es) filled a = a

-- where none has, the root element was taken whole
pub has_finished : {S : Type 0} {one : S → Event → S → Type 0} {total deepest : ℕ} {root rest run : List ℕ} {begun new : S} {levels : Levels} → StandsAfter one total deepest root begun levels rest new run
    → levels.open.items ≡ [] → Finished one total deepest root begun rest new
has_finished {one = one} {total = total} {deepest = deepest} {root = root} {rest = rest} {run = run} {begun = begun} {new = new} {levels = levels} s e =
    subst (λ es. After one total deepest root begun es s.scope levels.depth rest new run) (none_open (hidden levels.bindings) (now_bound levels.bindings) levels.open.items s.started e s.shows.opens) s.stands

-- tags

pub end_within : {w : QualifiedName} {text after : List ℕ} → EndTagAt w text after → length after < length text
end_within a = omega (arith, ap length a.opens, qname_within a.names, ap length a.closes, white_within a.past_name)

pub some_of : {X : Type 0} (A : Type 0) (P : X → Type 0) (o : Option X) → MatchOption o A P → IfSome o P
some_of A P None h = tt
some_of A P (Some x) h = h

-- of a text that has characters alone
pub read_text : {S : Type 0} (one : S → Event → S → Type 0) (deepest : ℕ) (bytes front d m root rest : List ℕ) (old new : S) → FrontOf bytes front → length front ≡ length bytes → DeclarationAt (after_mark front) d → MiscAt d m
    → DoctypeAt m root → Finished one (length front) deepest root old rest new → MiscAt rest [] → (h : RawTrees) × Reads false deepest bytes h × Takes one old (events (stripped h)) new
read_text one deepest bytes front d m root rest old new f e a b x k z =
    subst (λ w. (h : RawTrees) × Reads false deepest w h × Takes one old (events (stripped h)) new) same (read_whole one deepest front d m root rest old new f.characters a b x k z)
  where
    same : front ≡ bytes
    same =
        let none : f.after ≡ [] = nil_from_length f.after (omega (arith, e, ap length f.parts, length-append front f.after)) in
        sym (f.parts ∙ (ap (λ w. front ++ w) none ∙ append-nil front))
