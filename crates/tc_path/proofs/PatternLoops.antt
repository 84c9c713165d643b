-- The alternatives of a pattern, which are read in a loop: what was read so far stands before a pattern of the rest.
use Rattle.std.proofs.Common.{◌≡◌, ◌<◌, ◌≤◌, Bool, true, false, MatchBool, List, [], ◌∷◌, ◌++◌, ◌==◌, map, refl, ap, ◌∙◌, sym, subst, length, append_assoc, arith}
use Rattle.std.proofs.lemmas.Bool.{true≢false, eqb-true}
use Rattle.tc_model.specs.RawTrees.{Bound}
use Rattle.tc_model.specs.Sheets.{Steps, root_pattern}
use Rattle.tc_model.specs.PathTextTokens.{bar, slash, slashes, Token, mark}
use Rattle.tc_model.specs.PathTextPhrases as p
use Rattle.tc_model.specs.PathTextPhrases.{Lacks, OtherNodeAt, Form, StepsAt, EndsAlternative, at_end, at_bar, Alternative, PatternAlternativeAt, PatternAt}
use Rattle.tc_model.proofs.PathTextUnique.{same_others, slash_is_not_slashes, steps_open, no_path_slash, no_path_slashes, alternative_of_pattern_unique}
use Rattle.tc_path.specs.declared.token.Token.{Token as CodeToken}
use Rattle.tc_path.specs.Views.{token}
use Rattle.tc_path.specs.Phrases.{StartsAt, behind_slash, behind_slashes, at_once, priority_from}
use Rattle.std.proofs.lemmas.List.{length-map}
use Rattle.tc_path.proofs.TokenLaws.{no_length}

module _ (scope : List Bound) where
  -- the alternatives of a pattern
  pub record PatternsSoFar (ts : List Token) (xs : List Alternative) (rest : List Token) : Type 0 where
    pub forth : (ys : List Alternative) → PatternAt scope rest ys → PatternAt scope ts (xs ++ ys)
    pub back : (ys : List Alternative) → PatternAt scope ts ys → (zs : List Alternative) × PatternAt scope rest zs

  -- the alternatives that were read, of which the last stands before the rest
  pub record PatternsRead (ts : List Token) (xs : List Alternative) (rest : List Token) : Type 0 where
    pub prior : List Token
    pub earlier : List Alternative
    pub last : List Alternative
    pub so_far : PatternsSoFar ts earlier prior
    pub read : PatternAlternativeAt scope prior last rest
    pub whole : xs ≡ earlier ++ last

  bar_is_not_end : {r : List Token} → [] ≡ mark bar ∷ r → ⊥
  bar_is_not_end e = omega (arith, ap length e)

  pattern_behind : {rest next : List Token} {zs ys : List Alternative} → PatternAlternativeAt scope rest zs (mark bar ∷ next) → PatternAt scope rest ys → (ws : List Alternative) × PatternAt scope next ws
  pattern_behind a (p.PatternAt.last_alternative b) = absurd (bar_is_not_end (sym (alternative_of_pattern_unique a b).1))
  pattern_behind a (p.PatternAt.one_alternative {others = ws} b c) = (ws, subst (λ w. PatternAt scope w ws) (sym (same_others (alternative_of_pattern_unique a b).1)) c)

  pub patterns_start : (ts rest : List Token) (xs : List Alternative) → xs ≡ [] → rest ≡ ts → PatternsSoFar ts xs rest
  patterns_start ts rest xs e f = subst (PatternsSoFar ts xs) (sym f) (subst (λ w. PatternsSoFar ts w ts) (sym e) (record { forth = λ ys b. b; back = λ ys b. (ys, b) }))

  pub patterns_read : {ts rest after : List Token} {xs zs more : List Alternative} → PatternsSoFar ts xs rest → PatternAlternativeAt scope rest zs after → more ≡ xs ++ zs → PatternsRead ts more after
  patterns_read {rest = rest} {xs = xs} {zs = zs} so a e = record { prior = rest; earlier = xs; last = zs; so_far = so; read = a; whole = e }

  pub patterns_behind : {ts rest next : List Token} {xs : List Alternative} → PatternsRead ts xs rest → rest ≡ mark bar ∷ next → PatternsSoFar ts xs next
  patterns_behind {ts} {xs = xs} all e = record {
    forth = λ ys b.
        let is : all.earlier ++ (all.last ++ ys) ≡ xs ++ ys = sym (append_assoc all.earlier all.last ys) ∙ ap (λ w. w ++ ys) (sym all.whole) in
        subst (PatternAt scope ts) is (all.so_far.forth (all.last ++ ys) (p.PatternAt.one_alternative (subst (PatternAlternativeAt scope all.prior all.last) e all.read) b));
    back = λ ys b. let (ws, m) = all.so_far.back ys b in pattern_behind (subst (PatternAlternativeAt scope all.prior all.last) e all.read) m;
  }

  pub patterns_end : {ts rest : List Token} {xs : List Alternative} → PatternsRead ts xs rest → rest ≡ [] → PatternAt scope ts xs
  patterns_end {ts} all f = subst (PatternAt scope ts) (sym all.whole) (all.so_far.forth all.last (p.PatternAt.last_alternative (subst (PatternAlternativeAt scope all.prior all.last) f all.read)))

  patterns_none : {ts : List Token} → ((zs : List Alternative) (r : List Token) → PatternAlternativeAt scope ts zs r → ⊥) → (ys : List Alternative) → PatternAt scope ts ys → ⊥
  patterns_none h ys (p.PatternAt.last_alternative {alternatives = zs} a) = h zs [] a
  patterns_none h ys (p.PatternAt.one_alternative {rest = r} {alternatives = zs} a b) = h zs (mark bar ∷ r) a

  pub patterns_fail : {ts rest : List Token} {xs : List Alternative} → PatternsSoFar ts xs rest → ((zs : List Alternative) (r : List Token) → PatternAlternativeAt scope rest zs r → ⊥) → (ys : List Alternative) → PatternAt scope ts ys → ⊥
  patterns_fail so h ys a = let (ws, m) = so.back ys a in patterns_none h ws m

  goes_on : {rest after : List Token} {zs ys : List Alternative} → PatternAlternativeAt scope rest zs after → (after ≡ [] → ⊥) → Lacks (mark bar) after → PatternAt scope rest ys → ⊥
  goes_on a f h (p.PatternAt.last_alternative b) = f (alternative_of_pattern_unique a b).1
  goes_on a f h (p.PatternAt.one_alternative {rest = r} b c) = h r (alternative_of_pattern_unique a b).1

  pub patterns_go_on : {ts rest : List Token} {xs : List Alternative} → PatternsRead ts xs rest → (rest ≡ [] → ⊥) → Lacks (mark bar) rest → (ys : List Alternative) → PatternAt scope ts ys → ⊥
  patterns_go_on all f h ys b = let (ws, m) = all.so_far.back ys b in goes_on all.read f h m

  -- what is no alternative of a pattern, and what is one
  no_alternative : {ts r : List Token} {xs : List Alternative} → ((r : List Token) → OtherNodeAt ts r → ⊥) → ((r : List Token) → ts ≡ mark slash ∷ r → EndsAlternative r → ⊥)
      → ((r after : List Token) (ss : Steps) (f : Form) → ts ≡ mark slash ∷ r → StepsAt scope false r ss f after → ⊥) → ((r after : List Token) (ss : Steps) (f : Form) → ts ≡ mark slashes ∷ r → StepsAt scope true r ss f after → ⊥)
      → ((after : List Token) (ss : Steps) (f : Form) → StepsAt scope true ts ss f after → ⊥) → PatternAlternativeAt scope ts xs r → ⊥
  no_alternative o e s d k (p.PatternAlternativeAt.root_alone {after = r} a) = e r refl a
  no_alternative {r = r} o e s d k (p.PatternAlternativeAt.relative {ss = ss} {form = f} a) = k r ss f a
  no_alternative {r = r} o e s d k (p.PatternAlternativeAt.from_root {ts = i} {ss = ss} {form = f} a) = s i r ss f refl a
  no_alternative {r = r} o e s d k (p.PatternAlternativeAt.below_root {ts = i} {ss = ss} {form = f} a) = d i r ss f refl a
  no_alternative {r = r} o e s d k (p.PatternAlternativeAt.other_node a) = o r a

  no_steps_slash : {ts rest r : List Token} {deep : Bool} {ss : Steps} {f : Form} → ts ≡ mark slash ∷ rest → StepsAt scope deep ts ss f r → ⊥
  no_steps_slash {r = r} {deep = deep} {ss = ss} {f = f} e a = no_path_slash (steps_open (subst (λ w. StepsAt scope deep w ss f r) e a))

  no_steps_slashes : {ts rest r : List Token} {deep : Bool} {ss : Steps} {f : Form} → ts ≡ mark slashes ∷ rest → StepsAt scope deep ts ss f r → ⊥
  no_steps_slashes {r = r} {deep = deep} {ss = ss} {f = f} e a = no_path_slashes (steps_open (subst (λ w. StepsAt scope deep w ss f r) e a))

  no_steps_from_root : {ts rest : List Token} → ((r : List Token) → OtherNodeAt ts r → ⊥) → ts ≡ mark slash ∷ rest → (EndsAlternative rest → ⊥)
      → ((ss : Steps) (f : Form) (r : List Token) → StepsAt scope false rest ss f r → ⊥) → (xs : List Alternative) (r : List Token) → PatternAlternativeAt scope ts xs r → ⊥
  no_steps_from_root {rest = rest} o e h k xs r a =
      no_alternative o (λ q f b. h (subst EndsAlternative (same_others (sym f ∙ e)) b)) (λ q z ss g f b. k ss g z (subst (λ w. StepsAt scope false w ss g z) (same_others (sym f ∙ e)) b))
      (λ q z ss g f b. slash_is_not_slashes (sym e ∙ f)) (λ z ss g b. no_steps_slash e b) a

  no_steps_below_root : {ts rest : List Token} → ((r : List Token) → OtherNodeAt ts r → ⊥) → ts ≡ mark slashes ∷ rest → ((ss : Steps) (f : Form) (r : List Token) → StepsAt scope true rest ss f r → ⊥)
      → (xs : List Alternative) (r : List Token) → PatternAlternativeAt scope ts xs r → ⊥
  no_steps_below_root {rest = rest} o e k xs r a =
      no_alternative o (λ q f b. slash_is_not_slashes (sym f ∙ e)) (λ q z ss g f b. slash_is_not_slashes (sym f ∙ e))
      (λ q z ss g f b. k ss g z (subst (λ w. StepsAt scope true w ss g z) (same_others (sym f ∙ e)) b)) (λ z ss g b. no_steps_slashes e b) a

  no_relative_steps : {ts : List Token} → ((r : List Token) → OtherNodeAt ts r → ⊥) → Lacks (mark slash) ts → Lacks (mark slashes) ts → ((ss : Steps) (f : Form) (r : List Token) → StepsAt scope true ts ss f r → ⊥)
      → (xs : List Alternative) (r : List Token) → PatternAlternativeAt scope ts xs r → ⊥
  no_relative_steps o h l k xs r a = no_alternative o (λ q f b. h q f) (λ q z ss g f b. h q f) (λ q z ss g f b. l q f) (λ z ss g b. k ss g z b) a

  root_at : {ts rest : List Token} → ts ≡ mark slash ∷ rest → EndsAlternative rest → PatternAlternativeAt scope ts (record { pattern = root_pattern; priority = p.priority_otherwise } ∷ []) rest
  root_at {rest = rest} e a = subst (λ w. PatternAlternativeAt scope w (record { pattern = root_pattern; priority = p.priority_otherwise } ∷ []) rest) (sym e) (p.PatternAlternativeAt.root_alone a)

  from_root_at : {ts rest after : List Token} {ss : Steps} {f : Form} → ts ≡ mark slash ∷ rest → StepsAt scope false rest ss f after → PatternAlternativeAt scope ts (p.unless_dropped f ss p.priority_otherwise) after
  from_root_at {after = after} {ss = ss} {f = f} e a = subst (λ w. PatternAlternativeAt scope w (p.unless_dropped f ss p.priority_otherwise) after) (sym e) (p.PatternAlternativeAt.from_root a)

  below_root_at : {ts rest after : List Token} {ss : Steps} {f : Form} → ts ≡ mark slashes ∷ rest → StepsAt scope true rest ss f after → PatternAlternativeAt scope ts (p.unless_dropped f ss p.priority_otherwise) after
  below_root_at {after = after} {ss = ss} {f = f} e a = subst (λ w. PatternAlternativeAt scope w (p.unless_dropped f ss p.priority_otherwise) after) (sym e) (p.PatternAlternativeAt.below_root a)

  relative_at : {ts after : List Token} {ss : Steps} {f : Form} → StepsAt scope true ts ss f after → PatternAlternativeAt scope ts (p.unless_dropped f ss (p.default_priority f ss)) after
  relative_at a = p.PatternAlternativeAt.relative a

  -- where the steps begin
  pub start_root : {ts rest : List Token} {b d : Bool} → StartsAt ts b d rest → (d ≡ false) × EndsAlternative rest → PatternAlternativeAt scope ts (record { pattern = root_pattern; priority = p.priority_otherwise } ∷ []) rest
  start_root (behind_slash e) (f, a) = root_at e a
  start_root (behind_slashes e) (f, a) = absurd (true≢false f)
  start_root (at_once h l) (f, a) = absurd (true≢false f)

  pub start_steps : {ts rest after : List Token} {b d : Bool} {ss : Steps} {f : Form} → StartsAt ts b d rest → StepsAt scope d rest ss f after → PatternAlternativeAt scope ts (p.unless_dropped f ss (priority_from b f ss)) after
  start_steps (behind_slash e) a = from_root_at e a
  start_steps (behind_slashes e) a = below_root_at e a
  start_steps (at_once h l) a = relative_at a

  pub no_start : {ts rest : List Token} {b d : Bool} → ((r : List Token) → OtherNodeAt ts r → ⊥) → StartsAt ts b d rest → (d ≡ false → EndsAlternative rest → ⊥)
      → ((ss : Steps) (f : Form) (r : List Token) → StepsAt scope d rest ss f r → ⊥) → (xs : List Alternative) (r : List Token) → PatternAlternativeAt scope ts xs r → ⊥
  no_start o (behind_slash e) h k = no_steps_from_root o e (h refl) k
  no_start o (behind_slashes e) h k = no_steps_below_root o e k
  no_start o (at_once g l) h k = no_relative_steps o g l k

start_less : {ts rest : List Token} {b d : Bool} → StartsAt ts b d rest → length rest ≤ length ts
start_less (behind_slash e) = omega (arith, ap length e)
start_less (behind_slashes e) = omega (arith, ap length e)
start_less (at_once h l) = omega arith

root_less : {ts rest : List Token} {b d : Bool} → StartsAt ts b d rest → d ≡ false → length rest < length ts
root_less (behind_slash e) f = omega (arith, ap length e)
root_less (behind_slashes e) f = absurd (true≢false f)
root_less (at_once h l) f = absurd (true≢false f)

pub start_within : (ts rest : List CodeToken) {b d : Bool} → StartsAt (map token ts) b d (map token rest) → length rest ≤ length ts
start_within ts rest a = omega (arith, start_less a, length-map ts token, length-map rest token)

pub start_shorter : (ts rest : List CodeToken) {b d : Bool} → StartsAt (map token ts) b d (map token rest) → d ≡ false → length rest < length ts
start_shorter ts rest a f = omega (arith, root_less a f, length-map ts token, length-map rest token)

pub ends_if_none : (ts : List Token) → ts ≡ [] → EndsAlternative ts
ends_if_none ts e = subst EndsAlternative (sym e) at_end

pub ends_if_bar : (b : Bool) (ts : List Token) → (ts ≡ [] → ⊥) → MatchBool b ((r : List Token) × (ts ≡ mark bar ∷ r)) (Lacks (mark bar) ts) → MatchBool b (EndsAlternative ts) (EndsAlternative ts → ⊥)
ends_if_bar true ts h (r, e) = subst EndsAlternative (sym e) (at_bar {rest = r})
ends_if_bar false ts h l = λ a. none a h l
  where
    none : {ts : List Token} → EndsAlternative ts → (ts ≡ [] → ⊥) → Lacks (mark bar) ts → ⊥
    none at_end h l = h refl
    none (at_bar {rest = r}) h l = l r refl

pub match_true : (b : Bool) (P Q : Type 0) → b ≡ true → P → MatchBool b P Q
match_true b P Q e a = subst (λ x. MatchBool x P Q) (sym e) a

-- whether there are tokens
pub no_tokens : (ts : List CodeToken) → (length ts == 0) ≡ true → map token ts ≡ []
no_tokens ts e = ap (map token) (no_length ts (eqb-true (length ts) 0 e))

pub some_tokens : (ts : List CodeToken) → (length ts == 0) ≡ false → map token ts ≡ [] → ⊥
some_tokens [] e f = true≢false e
some_tokens (t ∷ ts) e f = omega (arith, ap length f)
