-- A document that is taken piece by piece.
use Rattle.std.proofs.Common.{◌≡◌, ◌↔◌, ◌∙◌, ℕ, ◌+◌, ◌<◌, List, [], ◌∷◌, ◌++◌, Bool, true, false, cond, IsTrue, refl, sym, ap, subst, length, take, get_or, set, reverse, append_assoc, append-nil, arith}
use Rattle.std.proofs.lemmas.List.{length-set, reverse-append, take_all, take_more, take_more_set}
use Rattle.std.proofs.lemmas.Option.{same_Some, slice_get_read}
use Rattle.tc_model.specs.Events.{Event, characters, start, end, nothing, event, events}
use Rattle.tc_model.specs.Events as ev
use Rattle.tc_model.specs.Grammars.{Grammar}
use Rattle.tc_model.specs.Names.{ExpandedName}
use Rattle.tc_model.specs.SimplifiesLaws.{IsStart}
use Rattle.tc_model.specs.Trees.{Trees, none, text, element, beside, kept, joined, dropped, is_white_space_only, normal_form, IsDocument, IsNormal}
use Rattle.tc_model.specs.Validity.{IsValid}
use Rattle.tc_model.proofs.NormalForm.{beside_none, beside_assoc, kept_beside}
use Rattle.tc_steps.specs.Led.{IsStarted}
use Rattle.tc_steps.specs.Moving.{AreRight, Keeps, IsElement, IsAfterText, IsAfterElement}
use Rattle.tc_steps.specs.Judged.{Place, outside, within, put, ended, after, AreOpen, IsAt, Takes}
use Rattle.tc_steps.specs.declared.judge.Judge.{Judge}
use Rattle.tc_steps.specs.declared.moves.Moves.{Moves}
use Rattle.tc_steps.specs.declared.moves.Opened.{Opened}
use Rattle.tc_steps.proofs.ValidLaws.{started_valid}
use Rattle.tc_steps.proofs.MovingLaws.{element_kept, text_behind, element_behind}

-- trees, one after the other

put_put : (p : Place) (a b : Trees) → put (put p a) b ≡ put p (beside a b)
put_put (outside d) a b = ap outside (beside_assoc d a b)
put_put (within n kids p) a b = ap (λ k. within n k p) (beside_assoc kids a b)

put_none : (p : Place) → put p none ≡ p
put_none (outside d) = ap outside (beside_none d)
put_none (within n kids p) = ap (λ k. within n k p) (beside_none kids)

abbrev afters : Place → List Event → Place
afters p [] = p
afters p (e ∷ es) = afters (after p e) es

all_events : (h : Trees) (p : Place) (es : List Event) → afters p (events h ++ es) ≡ afters (put p (dropped h)) es
all_events none p es = ap (λ q. afters q es) (sym (put_none p))
all_events (text s rest) p es =
    all_events rest (put p (kept s none)) es ∙ ap (λ q. afters q es) (put_put p (kept s none) (dropped rest) ∙ ap (put p) (kept_beside s (dropped rest)))
all_events (element n kids rest) p es =
    ap (afters (within n none p)) (append_assoc (events kids) (end ∷ events rest) es)
    ∙ (all_events kids (within n none p) (end ∷ (events rest ++ es))
    ∙ (all_events rest (put p (element n (dropped kids) none)) es
    ∙ ap (λ q. afters q es) (put_put p (element n (dropped kids) none) (dropped rest))))

all_taken : (x : Grammar) {a b : Judge} {es : List Event} (p : Place) → ev.Takes Takes a es b → IsAt x a p → IsAt x b (afters p es)
all_taken x p nothing at = at
all_taken x p (event {e = e} o h) at = all_taken x (after p e) h (o x p at)

-- texts of white space alone are dropped once

kept_dropped : (s : List ℕ) (h : Trees) → dropped h ≡ h → dropped (kept s h) ≡ kept s h
kept_dropped s h same = by (is_white_space_only s) refl
  where
    by : (b : Bool) → is_white_space_only s ≡ b → dropped (cond b h (text s h)) ≡ cond b h (text s h)
    by true e = same
    by false e = ap (λ c. cond c (dropped h) (text s (dropped h))) e ∙ ap (text s) same

dropped_twice : (h : Trees) → dropped (dropped h) ≡ dropped h
dropped_twice none = refl
dropped_twice (text s rest) = kept_dropped s (dropped rest) (dropped_twice rest)
dropped_twice (element n kids rest) = ap (λ k. element n k (dropped (dropped rest))) (dropped_twice kids) ∙ ap (element n (dropped kids)) (dropped_twice rest)

pub dropped_normal : (h : Trees) → IsNormal h → dropped h ≡ h
dropped_normal h normal = ap dropped (sym normal) ∙ (dropped_twice (joined h) ∙ normal)

pub kids_normal : (n : ExpandedName) (kids : Trees) → IsNormal (element n kids none) → normal_form kids ≡ kids
kids_normal n kids normal = cc

pub whole_taken : (x : Grammar) (first last : Judge) (d : Trees) → IsNormal d → IsAt x first (outside none) → ev.Takes Takes first (events d) last → IsAt x last (outside d)
whole_taken x first last d normal at takes = subst (IsAt x last) path (all_taken x (outside none) takes at)
  where
    path : afters (outside none) (events d) ≡ outside d
    path = ap (afters (outside none)) (sym (append-nil (events d))) ∙ (all_events d (outside none) [] ∙ ap outside (dropped_normal d normal))

-- one element alone

never_none : (d : Trees) (n : ExpandedName) (kids : Trees) → beside d (element n kids none) ≡ none → ⊥
never_none none n kids e = absurd (cc)
never_none (text s rest) n kids e = absurd (cc)
never_none (element m inside rest) n kids e = absurd (cc)

never_nothing : (d : Trees) (s : List ℕ) → beside d (text s none) ≡ none → ⊥
never_nothing none s e = absurd (cc)
never_nothing (text t rest) s e = absurd (cc)
never_nothing (element m inside rest) s e = absurd (cc)

no_text : (d : Trees) (s : List ℕ) (n : ExpandedName) (kids : Trees) → beside d (text s none) ≡ element n kids none → ⊥
no_text none s n kids e = absurd (cc)
no_text (text t rest) s n kids e = absurd (cc)
no_text (element m inside rest) s n kids e = never_nothing rest s (cc)

last_name : (d : Trees) (m n : ExpandedName) (inside kids : Trees) → beside d (element m inside none) ≡ element n kids none → m ≡ n
last_name none m n inside kids e = cc
last_name (text t rest) m n inside kids e = absurd (cc)
last_name (element o k rest) m n inside kids e = absurd (never_none rest m inside (cc))

last_kids : (d : Trees) (m n : ExpandedName) (inside kids : Trees) → beside d (element m inside none) ≡ element n kids none → inside ≡ kids
last_kids none m n inside kids e = cc
last_kids (text t rest) m n inside kids e = absurd (cc)
last_kids (element o k rest) m n inside kids e = absurd (never_none rest m inside (cc))

reversed : (old rest : List Opened) (o : Opened) → old ≡ rest ++ o ∷ [] → reverse old ≡ o ∷ reverse rest
reversed old rest o e = ap reverse e ∙ reverse-append rest (o ∷ [])

-- the innermost element behind the others, and another in its place
pub last_apart : (xs : List Opened) (n : ℕ) (o : Opened) → n + 1 ≡ length xs → o ≡ get_or xs n o → xs ≡ take n xs ++ o ∷ []
last_apart xs n o e at = sym (take_all (n + 1) xs (omega (arith, e))) ∙ (take_more xs n o (omega (arith, e)) ∙ ap (λ w. take n xs ++ w ∷ []) (sym at))

pub last_set : (xs : List Opened) (n : ℕ) (y : Opened) → n + 1 ≡ length xs → set xs n y ≡ take n xs ++ y ∷ []
last_set xs n y e = sym (take_all (n + 1) (set xs n y) (omega (arith, e, length-set xs n y))) ∙ take_more_set xs n y (omega (arith, e))

pub one_place : (xs : List Opened) (n : ℕ) (a b : Opened) → n < length xs → a ≡ get_or xs n a → b ≡ get_or xs n b → a ≡ b
one_place xs n a b l e f = same_Some a b (sym (slice_get_read xs (length xs) n a refl l e) ∙ slice_get_read xs (length xs) n b refl l f)

module _ (x : Grammar) where
  open_kept : (old new : Moves) → Keeps x old new → (os : List Opened) (p : Place) → AreOpen x old os p → AreOpen x new os p
  open_kept old new k [] (outside d) h = tt
  open_kept old new k [] (within n kids p) h = h
  open_kept old new k (o ∷ os) (outside d) h = h
  open_kept old new k (o ∷ os) (within n kids p) (e, h) = (element_kept x old new n kids o k e, open_kept old new k os p h)

  -- before the first piece
  pub begun : (j : Judge) → AreRight x j.moves → j.levels.items ≡ [] → IsAt x j (outside none)
  begun j right e = record { right = right; open_are = subst (λ z. AreOpen x j.moves (reverse z) (outside none)) (sym e) tt; answer = λ n kids same. absurd (cc) }

  -- the innermost element ends
  pub record Ended (mid : Judge) (o : Opened) (p : Place) : Type 0 where
    pub name : ExpandedName
    pub kids : Trees
    pub outer : Place
    pub at_is : p ≡ within name kids outer
    pub element_is : IsElement x mid.moves name kids o
    pub at : IsAt x mid outer

  pub popped : (j mid : Judge) (o : Opened) (p : Place) → j.levels.items ≡ mid.levels.items ++ o ∷ [] → mid.moves ≡ j.moves → mid.is_valid ≡ j.is_valid → IsAt x j p → Ended mid o p
  popped j mid o (outside d) e m v at = absurd (subst (λ z. AreOpen x j.moves z (outside d)) (reversed j.levels.items mid.levels.items o e) at.open_are)
  popped j mid o (within n kids q) e m v at =
      let (is, rest) = subst (λ z. AreOpen x j.moves z (within n kids q)) (reversed j.levels.items mid.levels.items o e) at.open_are in record {
        name = n;
        kids = kids;
        outer = q;
        at_is = refl;
        element_is = subst (λ (z : Moves). IsElement x z n kids o) (sym m) is;
        at = record {
          right = subst (AreRight x) (sym m) at.right;
          open_are = subst (λ (z : Moves). AreOpen x z (reverse mid.levels.items) q) (sym m) rest;
          answer = λ a k same. subst (λ b. IsTrue b ↔ IsStarted x a k) (sym v) (at.answer a k same);
        };
      }

  -- into an element
  pub started : (old new : Judge) (m : Moves) (o : Opened) (n : ExpandedName) (p : Place) → new.levels.items ≡ old.levels.items ++ o ∷ [] → new.moves ≡ m → new.is_valid ≡ old.is_valid → Keeps x old.moves m → IsElement x m n none o
      → IsAt x old p → IsAt x new (within n none p)
  started old new m o n p e same v k is at = record {
    right = subst (AreRight x) (sym same) k.right;
    open_are = subst (λ z. AreOpen x new.moves z (within n none p)) (sym (reversed new.levels.items old.levels.items o e))
        (subst (λ (z : Moves). AreOpen x z (o ∷ reverse old.levels.items) (within n none p)) (sym same) (is, open_kept old.moves m k (reverse old.levels.items) p at.open_are));
    answer = λ a kids whole. subst (λ b. IsTrue b ↔ IsStarted x a kids) (sym v) (at.answer a kids whole);
  }

  -- the innermost element is another, of the same name
  changed : (old new : Judge) (m : Moves) (rest : List Opened) (o to : Opened) (p : Place) (h : Trees) → old.levels.items ≡ rest ++ o ∷ [] → new.levels.items ≡ rest ++ to ∷ [] → new.moves ≡ m → new.is_valid ≡ old.is_valid → Keeps x old.moves m
      → ((n : ExpandedName) (kids : Trees) → IsElement x old.moves n kids o → IsElement x m n (beside kids h) to) → IsAt x old p → IsAt x new (put p h)
  changed old new m rest o to (outside d) h e f same v k step at = absurd (subst (λ z. AreOpen x old.moves z (outside d)) (reversed old.levels.items rest o e) at.open_are)
  changed old new m rest o to (within n kids q) h e f same v k step at =
      let (is, others) = subst (λ z. AreOpen x old.moves z (within n kids q)) (reversed old.levels.items rest o e) at.open_are in record {
        right = subst (AreRight x) (sym same) k.right;
        open_are = subst (λ z. AreOpen x new.moves z (within n (beside kids h) q)) (sym (reversed new.levels.items rest to f))
            (subst (λ (z : Moves). AreOpen x z (to ∷ reverse rest) (within n (beside kids h) q)) (sym same) (step n kids is, open_kept old.moves m k (reverse rest) q others));
        answer = λ a k whole. subst (λ b. IsTrue b ↔ IsStarted x a k) (sym v) (at.answer a k whole);
      }

  -- over a text
  pub text_passed : (old new : Judge) (m : Moves) (rest : List Opened) (o to : Opened) (p : Place) (run : List ℕ) → old.levels.items ≡ rest ++ o ∷ [] → new.levels.items ≡ rest ++ to ∷ [] → new.moves ≡ m → new.is_valid ≡ old.is_valid → Keeps x old.moves m
      → IsAfterText x m o.states to.states → to.symbol ≡ o.symbol → is_white_space_only run ≡ false → IsAt x old p → IsAt x new (put p (text run none))
  text_passed old new m rest o to p run e f same v k i symbol white at =
      changed old new m rest o to p (text run none) e f same v k (λ n kids is. text_behind x old.moves m n kids run o to k is i symbol white) at

  pub text_outside : (old new : Judge) (p : Place) (run : List ℕ) → old.levels.items ≡ [] → new.levels.items ≡ [] → new.moves ≡ old.moves → IsAt x old p → IsAt x new (put p (text run none))
  text_outside old new (outside d) run e f same at = record {
    right = subst (AreRight x) (sym same) at.right;
    open_are = subst (λ z. AreOpen x new.moves (reverse z) (outside (beside d (text run none)))) (sym f) tt;
    answer = λ n kids whole. absurd (no_text d run n kids whole);
  }
  text_outside old new (within n kids q) run e f same at = absurd (subst (λ z. AreOpen x old.moves (reverse z) (within n kids q)) e at.open_are)

  -- over a piece that is a text, of white space alone or not
  pub white_taken : (j : Judge) (p : Place) (s : List ℕ) → is_white_space_only s ≡ true → IsAt x j p → IsAt x j (put p (kept s none))
  white_taken j p s white at = subst (λ b. IsAt x j (put p (cond b none (text s none)))) (sym white) (subst (IsAt x j) (sym (put_none p)) at)

  pub other_taken : (j : Judge) (p : Place) (s : List ℕ) → is_white_space_only s ≡ false → IsAt x j (put p (text s none)) → IsAt x j (put p (kept s none))
  other_taken j p s other at = subst (λ b. IsAt x j (put p (cond b none (text s none)))) (sym other) at

  -- over an element
  pub element_passed : (old new : Judge) (m : Moves) (rest : List Opened) (inner o to : Opened) (p : Place) (n : ExpandedName) (kids : Trees) → old.levels.items ≡ rest ++ o ∷ [] → new.levels.items ≡ rest ++ to ∷ [] → new.moves ≡ m
      → new.is_valid ≡ old.is_valid → Keeps x old.moves m → IsAfterElement x m inner o.states to.states → to.symbol ≡ o.symbol → IsElement x old.moves n kids inner → IsAt x old p → IsAt x new (put p (element n kids none))
  element_passed old new m rest inner o to p n kids e f same v k i symbol ended at =
      changed old new m rest o to p (element n kids none) e f same v k (λ a others is. element_behind x old.moves m a n others kids inner o to k ended is i symbol) at

  pub root_passed : (old new : Judge) (p : Place) (n : ExpandedName) (kids : Trees) → old.levels.items ≡ [] → new.levels.items ≡ [] → new.moves ≡ old.moves → IsTrue new.is_valid ↔ IsStarted x n kids → IsAt x old p → IsAt x new (put p (element n kids none))
  root_passed old new (outside d) n kids e f same right at = record {
    right = subst (AreRight x) (sym same) at.right;
    open_are = subst (λ z. AreOpen x new.moves (reverse z) (outside (beside d (element n kids none)))) (sym f) tt;
    answer = λ a others whole.
        subst (λ w. IsTrue new.is_valid ↔ IsStarted x w others) (last_name d n a kids others whole) (subst (λ w. IsTrue new.is_valid ↔ IsStarted x n w) (last_kids d n a kids others whole) right);
  }
  root_passed old new (within m inside q) n kids e f same right at = absurd (subst (λ z. AreOpen x old.moves (reverse z) (within m inside q)) e at.open_are)

  -- the answer is right of a document
  answered : (j : Judge) (d : Trees) → IsStart x.start → IsDocument d → IsAt x j (outside d) → IsTrue j.is_valid ↔ IsValid x d
  answered j none begins document at = absurd document.0
  answered j (text s rest) begins document at = absurd document.0
  answered j (element n kids rest) begins document at =
      subst (λ r. IsDocument (element n kids r) → IsAt x j (outside (element n kids r)) → IsTrue j.is_valid ↔ IsValid x (element n kids r)) (sym document.0) whole document at
    where
      whole : IsDocument (element n kids none) → IsAt x j (outside (element n kids none)) → IsTrue j.is_valid ↔ IsValid x (element n kids none)
      whole is there =
          let s = started_valid x n kids begins is (kids_normal n kids is.2) in
          let a = there.answer n kids refl in
          (λ h. s.0 (a.0 h), λ v. a.1 (s.1 v))

  pub document_answered : (first last : Judge) (d : Trees) → IsStart x.start → IsDocument d → IsAt x first (outside none) → ev.Takes Takes first (events d) last → IsTrue last.is_valid ↔ IsValid x d
  document_answered first last d begins document at takes = answered last d begins document (whole_taken x first last d document.2 at takes)
