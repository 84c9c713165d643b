-- Laws of the normal form.
use Rattle.std.proofs.Common.{◌≡◌, ℕ, List, [], ◌++◌, refl, ap, ◌∙◌, sym, append_assoc, Bool, true, false, cond}
use Rattle.tc_model.specs.Names.{ExpandedName}
use Rattle.tc_model.specs.Trees.{Trees, none, text, element, beside, is_white_space_only, joined_to, joined, kept, dropped, normal_form}

pub beside_none : (h : Trees) → beside h none ≡ h
beside_none none = refl
beside_none (text s rest) = ap (text s) (beside_none rest)
beside_none (element n kids rest) = ap (element n kids) (beside_none rest)

pub beside_assoc : (a b c : Trees) → beside (beside a b) c ≡ beside a (beside b c)
beside_assoc none b c = refl
beside_assoc (text s rest) b c = ap (text s) (beside_assoc rest b c)
beside_assoc (element n kids rest) b c = ap (element n kids) (beside_assoc rest b c)

-- a text of no byte changes nothing
pub dropped_empty : (h : Trees) → dropped (joined_to [] h) ≡ dropped h
dropped_empty none = refl
dropped_empty (text s rest) = refl
dropped_empty (element n kids rest) = refl

pub joined_twice : (s t : List ℕ) (h : Trees) → joined_to s (joined_to t h) ≡ joined_to (s ++ t) h
joined_twice s t none = refl
joined_twice s t (text u rest) = ap (λ w. text w rest) (sym (append_assoc s t u))
joined_twice s t (element n kids rest) = refl

chosen_beside : (b : Bool) (s : List ℕ) (h : Trees) → beside (cond b none (text s none)) h ≡ cond b h (text s h)
chosen_beside true s h = refl
chosen_beside false s h = refl

pub kept_beside : (s : List ℕ) (h : Trees) → beside (kept s none) h ≡ kept s h
kept_beside s h = chosen_beside (is_white_space_only s) s h

pub put_white : (o : Trees) (s : List ℕ) → is_white_space_only s ≡ true → o ≡ beside o (kept s none)
put_white o s e = sym (ap (λ b. beside o (cond b none (text s none))) e ∙ beside_none o)

put_other : (o : Trees) (s : List ℕ) → is_white_space_only s ≡ false → beside o (text s none) ≡ beside o (kept s none)
put_other o s e = sym (ap (λ b. beside o (cond b none (text s none))) e)

pub put_text : (o new : Trees) (s put : List ℕ) → put ≡ s → is_white_space_only put ≡ false → new ≡ beside o (text put none) → new ≡ beside o (kept s none)
put_text o new s put is other pushed = cc (put_other o put other)

-- a text joins the run
pub run_text : (o : Trees) (p s : List ℕ) (r : Trees) → beside o (dropped (joined_to (p ++ s) (joined r))) ≡ beside o (dropped (joined_to p (joined (text s r))))
run_text o p s r = ap (λ h. beside o (dropped h)) (sym (joined_twice p s (joined r)))

-- an element ends the run
pub run_elem : (o : Trees) (p : List ℕ) (t : ExpandedName) (k : Trees) (r : Trees)
    → beside (beside (beside o (kept p none)) (element t (normal_form k) none)) (dropped (joined_to [] (joined r))) ≡ beside o (dropped (joined_to p (joined (element t k r))))
run_elem o p t k r =
    ap (beside (beside (beside o (kept p none)) (element t (normal_form k) none))) (dropped_empty (joined r))
    ∙ (beside_assoc (beside o (kept p none)) (element t (normal_form k) none) (dropped (joined r))
    ∙ (beside_assoc o (kept p none) (element t (normal_form k) (dropped (joined r)))
    ∙ ap (beside o) (kept_beside p (element t (normal_form k) (dropped (joined r))))))

-- one step of the loop at a text
pub text_step : (o new : Trees) (p run s : List ℕ) (r left whole : Trees)
    → new ≡ o → run ≡ p ++ s → left ≡ text s r
    → beside o (dropped (joined_to p (joined left))) ≡ whole
    → beside new (dropped (joined_to run (joined r))) ≡ whole
text_step o new p run s r left whole same grown is so_far = cc (run_text o p s r)

-- one step of the loop at an element
pub elem_step : (o new : Trees) (p run : List ℕ) (t : ExpandedName) (k k2 r left whole : Trees)
    → new ≡ beside (beside o (kept p none)) (element t k2 none) → k2 ≡ normal_form k → run ≡ [] → left ≡ element t k r
    → beside o (dropped (joined_to p (joined left))) ≡ whole
    → beside new (dropped (joined_to run (joined r))) ≡ whole
elem_step o new p run t k k2 r left whole put inner empty is so_far = cc (run_elem o p t k r)
