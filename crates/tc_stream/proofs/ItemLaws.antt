-- How an item of content changes what is known of the innermost element.
use Rattle.std.proofs.Common.{◌≡◌, ℕ, suc, ◌+◌, List, [], ◌∷◌, ◌++◌, refl, ap, ◌∙◌, sym, length, arith, append_assoc, append-nil}
use Rattle.std.proofs.lemmas.List.Sums.{sum_by-cons}
use Rattle.tc_model.specs.RawTrees as w
use Rattle.tc_model.specs.RawTrees.{Attribute, Bound, RawTrees}
use Rattle.tc_model.specs.Stripped.{bare, stripped}
use Rattle.tc_model.specs.Trees.{Trees, none, text, element, beside, joined_to, joined, kept, dropped}
use Rattle.tc_model.specs.XmlTextContent.{Piece, nothing, characters, whole, characters_before, piece_before}
use Rattle.tc_model.proofs.NormalForm.{beside_assoc, dropped_empty, joined_twice, kept_beside}
use Rattle.tc_tags.specs.XmlTextTags.{WrittenElement, names_length, open_names}
use Rattle.tc_stream.specs.Goes.{Level, all_written, used, depth_left, with_text, closed, Goes, GoesBehind, content}
use Rattle.tc_stream.specs.Outcomes.{Outcome}

-- the children of the innermost element, and the characters since its last tag, behind an item
abbrev pub kids_after : Piece → List ℕ → Trees → Trees
kids_after nothing run k = k
kids_after (characters s p) run k = k
kids_after (whole n x scope p kids) run k = beside (beside k (kept run none)) (element n (stripped kids) none)

abbrev pub run_after : Piece → List ℕ → List ℕ
run_after nothing run = run
run_after (characters s p) run = run ++ s
run_after (whole n x scope p kids) run = []

abbrev pub level_after : Piece → List ℕ → Level → Level
level_after piece run l = record l { kids = kids_after piece run l.kids }

-- the children with those that further trees make
abbrev pub grown : Trees → List ℕ → RawTrees → Trees
grown k run h = beside k (dropped (joined_to run (joined (bare h))))

joined_characters : (run s : List ℕ) (p : ℕ) (h : RawTrees) → joined_to run (joined (bare (characters_before s p h))) ≡ joined_to (run ++ s) (joined (bare h))
joined_characters run s p (w.text u q rest) =
    joined_twice run (s ++ u) (joined (bare rest)) ∙ (ap (λ v. joined_to v (joined (bare rest))) (sym (append_assoc run s u)) ∙ sym (joined_twice (run ++ s) u (joined (bare rest))))
joined_characters run [] p w.none = ap (λ v. text v none) (sym (append-nil run))
joined_characters run [] p (w.element n x scope q kids rest) = ap (λ v. text v (element n (joined (bare kids)) (joined (bare rest)))) (sym (append-nil run))
joined_characters run (b ∷ s) p w.none = refl
joined_characters run (b ∷ s) p (w.element n x scope q kids rest) = refl

-- behind an item the children that further trees make are those that the item and these trees made before it
pub grown_after : (piece : Piece) (run : List ℕ) (k : Trees) (h : RawTrees) → grown (kids_after piece run k) (run_after piece run) h ≡ grown k run (piece_before piece h)
grown_after nothing run k h = refl
grown_after (characters s p) run k h = ap (λ v. beside k (dropped v)) (sym (joined_characters run s p h))
grown_after (whole n x scope p kids) run k h =
    let rest : Trees = dropped (joined (bare h)) in
    ap (λ v. beside (beside (beside k (kept run none)) (element n (stripped kids) none)) v) (dropped_empty (joined (bare h)))
    ∙ (beside_assoc (beside k (kept run none)) (element n (stripped kids) none) rest
    ∙ (beside_assoc k (kept run none) (element n (stripped kids) rest)
    ∙ ap (beside k) (kept_beside run (element n (stripped kids) rest))))

-- the elements that are open

pub written_text : (run : List ℕ) (ls : List Level) → all_written (with_text run ls) ≡ all_written ls
written_text run [] = refl
written_text run (l ∷ ls) = refl

pub length_text : (run : List ℕ) (ls : List Level) → length (with_text run ls) ≡ length ls
length_text run [] = refl
length_text run (l ∷ ls) = refl

pub names_more : (e : WrittenElement) (es : List WrittenElement) → open_names (e ∷ es) ≡ names_length e + open_names es
names_more e es = sum_by-cons names_length e es

pub used_open : (ls : List Level) → used ls ≡ open_names (all_written ls)
used_open [] = refl
used_open (l ∷ ls) = ap (λ n. names_length l.written + n) (used_open ls) ∙ sym (names_more l.written (all_written ls))

-- one element more is open
pub deeper : (l : Level) (run : List ℕ) (ls : List Level) (d : ℕ) → suc d ≡ depth_left ls → d ≡ depth_left (l ∷ with_text run ls)
deeper l run ls d e = omega (arith, e, length_text run ls)

-- what stands behind an element goes on as content, or behind the root element
abbrev pub Behind : ℕ → Piece → List ℕ → List Level → List Bound → List ℕ → Outcome → Type 0
Behind total nothing run ls scope rest o = Unit {0}
Behind total (characters s p) run ls scope rest o = Unit {0}
Behind total (whole n x bound p kids) run ls scope rest o = GoesBehind total (closed n (stripped kids) (with_text run ls)) scope rest o

pub behind_content : (total : ℕ) (piece : Piece) (run : List ℕ) (l : Level) (ls : List Level) (scope : List Bound) (rest : List ℕ) (o : Outcome)
    → Goes total (level_after piece run l ∷ ls) scope (run_after piece run) rest o → Behind total piece run (l ∷ ls) scope rest o
behind_content total nothing run l ls scope rest o g = tt
behind_content total (characters s p) run l ls scope rest o g = tt
behind_content total (whole n x bound p kids) run l ls scope rest o g = content g
