-- What runs of characters and trees add to what was gathered.
use Rattle.std.proofs.Common.{◌≡◌, ◌≢◌, ℕ, List, [], ◌∷◌, ◌++◌, refl, ap, ◌∙◌, sym, Bor, append_assoc, append-nil, Result, Ok, Err}
use Rattle.std.specs.Prelude.{OnOk}
use Rattle.tc_base.specs.declared.Place.{Place}
use Rattle.tc_model.specs.RawTrees.{RawTrees, none, text, element, beside}
use Rattle.tc_model.specs.Views.{place, raw_trees, raw_element}
use Rattle.tc_model.specs.XmlTextContent.{characters_before}
use Rattle.tc_model.specs.declared.tree.Raw.{Raw, Elem, Text}
use Rattle.tc_model.specs.declared.tree.RawElem.{RawElem}
use Rattle.tc_model.proofs.ViewsRaw.{pushed_elem, pushed_text, beside_assoc, beside_none}
use Rattle.tc_xml.specs.declared.content.Run.TheVariants.{Nothing}
use Rattle.tc_xml.specs.declared.content.Gathered.{Gathered}
use Rattle.tc_xml.specs.Reading.{BeginsWithNoText}
use Rattle.tc_xml.specs.Views.{run_before, gathered_before}

pub characters_join : (a b : List ℕ) (p q : ℕ) (h : RawTrees) → characters_before (a ++ b) p h ≡ characters_before a p (characters_before b q h)
characters_join a b p q (text t r rest) = ap (λ w. text w p rest) (append_assoc a b t)
characters_join [] [] p q none = refl
characters_join [] (c ∷ b) p q none = refl
characters_join (d ∷ a) [] p q none = ap (λ w. text (d ∷ w) p none) (append-nil a)
characters_join (d ∷ a) (c ∷ b) p q none = refl
characters_join [] [] p q (element n attributes scope r kids rest) = refl
characters_join [] (c ∷ b) p q (element n attributes scope r kids rest) = refl
characters_join (d ∷ a) [] p q (element n attributes scope r kids rest) = ap (λ w. text (d ∷ w) p (element n attributes scope r kids rest)) (append-nil a)
characters_join (d ∷ a) (c ∷ b) p q (element n attributes scope r kids rest) = refl

-- some characters make a text where none goes on
text_starts : (s : List ℕ) (p : ℕ) (h : RawTrees) → s ≢ [] → BeginsWithNoText h → characters_before s p h ≡ text s p h
text_starts [] p h some apart = absurd (some refl)
text_starts (c ∷ s) p none some apart = refl
text_starts (c ∷ s) p (text t q rest) some apart = absurd apart
text_starts (c ∷ s) p (element n attributes scope q kids rest) some apart = refl

-- a run that ends becomes a text
pub run_ended : (ts : List Raw) (s : Bor (List ℕ)) (p : Place) (h : RawTrees) → s.now ≢ [] → BeginsWithNoText h
    → beside (raw_trees (ts ++ Text s p ∷ [])) h ≡ beside (raw_trees ts) (characters_before s.now (place p) h)
run_ended ts s p h some apart =
    ap (λ k. beside k h) (pushed_text ts s p)
    ∙ (beside_assoc (raw_trees ts) (text s.now (place p) none) h ∙ ap (beside (raw_trees ts)) (sym (text_starts s.now (place p) h some apart)))

-- an element after what was gathered
pub element_added : (ts : List Raw) (e : RawElem) (h : RawTrees) → beside (raw_trees (ts ++ Elem e ∷ [])) h ≡ beside (raw_trees ts) (raw_element e h)
element_added ts e h = ap (λ k. beside k h) (pushed_elem ts e) ∙ beside_assoc (raw_trees ts) (raw_element e none) h

-- all that was gathered, once its run has ended
pub gathered_alone : (ts : List Raw) (now then : Gathered) → ts ≡ now.trees.items → now.run ≡ Nothing → gathered_before now none ≡ gathered_before then none → raw_trees ts ≡ gathered_before then none
gathered_alone ts now then e f g =
    ap raw_trees e ∙ (sym (beside_none (raw_trees now.trees.items)) ∙ (ap (λ r. beside (raw_trees now.trees.items) (run_before r none)) (sym f) ∙ g))

pub run_kept : (old new : Gathered) (p : Place) (s : Bor (List ℕ)) (h : RawTrees) → ((k : RawTrees) → run_before old.run k ≡ characters_before s.now (place p) k)
    → new.run ≡ Nothing → (s.now ≡ [] → ⊥) → new.trees.items ≡ old.trees.items ++ Text s p ∷ [] → BeginsWithNoText h → gathered_before new h ≡ gathered_before old h
run_kept old new p s h e f some g apart =
    ap (λ r. beside (raw_trees new.trees.items) (run_before r h)) f
    ∙ (ap (λ ts. beside (raw_trees ts) h) g
    ∙ (run_ended old.trees.items s p h some apart ∙ ap (beside (raw_trees old.trees.items)) (sym (e h))))

pub element_gathered : (old mid new : Gathered) (e : RawElem) (h : RawTrees) → mid.run ≡ Nothing → ((k : RawTrees) → BeginsWithNoText k → gathered_before mid k ≡ gathered_before old k)
    → new.run ≡ mid.run → new.trees.items ≡ mid.trees.items ++ Elem e ∷ [] → gathered_before new h ≡ gathered_before old (raw_element e h)
element_gathered old mid new e h f kept same g =
    ap (λ r. beside (raw_trees new.trees.items) (run_before r h)) (same ∙ f)
    ∙ (ap (λ ts. beside (raw_trees ts) h) g
    ∙ (element_added mid.trees.items e h
    ∙ (ap (λ r. beside (raw_trees mid.trees.items) (run_before r (raw_element e h))) (sym f) ∙ kept (raw_element e h) tt)))

-- what follows where a call succeeds
pub on_ok : {T E P Q : Type 0} (r : Result T E) → (P → Q) → OnOk r P → OnOk r Q
on_ok (Ok x) f h = f h
on_ok (Err e) f h = h
