-- A schema has a grammar or is refused, for one reason, and not both.
use Rattle.std.proofs.Common.{◌≡◌, ◌⊎◌, inl, inr, ℕ, List, refl, ap, ◌∙◌, sym, subst, arith, false}
use Rattle.tc_model.specs.CompactSyntaxTrees.{Syntax}
use Rattle.tc_model.specs.CompactSyntax.{CompactSyntax, deepest_nesting}
use Rattle.tc_model.specs.CompactSyntaxUnread.{Refusal, malformed, unsupported, too_deep}
use Rattle.tc_model.specs.CompactSyntaxRefused.{IsRefused}
use Rattle.tc_model.specs.CompactSyntaxRefusedLaws.{Excludes}
use Rattle.tc_model.specs.Grammars.{Grammar}
use Rattle.tc_model.specs.RncText.{RncText}
use Rattle.tc_model.specs.Simplifies.{Simplifies}
use Rattle.tc_model.specs.SimplifiesFaults.{Fault, undefined, twice, loop, bad_start, bad_except, Fails}
use Rattle.tc_model.proofs.CompactSyntaxRefused.{one_refusal, no_syntax}
use Rattle.tc_model.proofs.SimplifiesFaults.{one_fault, no_grammar}
use Rattle.tc_model.proofs.SimplifiesLawful.{lawful_syntax}
use Rattle.tc_model.proofs.SimplifiesUnique.{one_syntax}
use Rattle.tc_rnc.proofs.DecidingTexts.{read_or_refused}
use Rattle.tc_simple.proofs.SyntaxTotal.{grammar_or_fault}
use Rattle.tc_read.specs.Refusals.{IsRefusedSchema, SpellsFault}
use Rattle.tc_read.specs.SchemaLaws.{HasOneReason, HasNoGrammar, HasGrammarOrReason}
use Rattle.tc_read.specs.declared.faults.Reason.{Reason}
use Rattle.tc_read.specs.declared.faults.Reason.TheVariants.{Malformed, Unsupported, TooDeep, Undefined, Twice, Loop, BadStart, BadExcept, CallLoop}

-- the reason and the place of a refusal, and of a fault
told : Refusal → Reason × ℕ
told (malformed p) = (Malformed, p)
told (unsupported why p) = (Unsupported why, p)
told (too_deep p) = (TooDeep, p)

told_fault : Fault → Reason × ℕ
told_fault (undefined p) = (Undefined, p)
told_fault (twice p) = (Twice, p)
told_fault (loop p) = (Loop, p)
told_fault (bad_start p) = (BadStart, p)
told_fault (bad_except p) = (BadExcept, p)

data Cause (bytes : List ℕ) (r : Reason) (k : ℕ) : Type 0 where
  in_text : (x : Refusal) → IsRefused bytes x → (r, k) ≡ told x → Cause bytes r k
  in_syntax : (f : Fault) → SpellsFault bytes f → (r, k) ≡ told_fault f → Cause bytes r k

cause : (bytes : List ℕ) (r : Reason) (k : ℕ) → IsRefusedSchema bytes r k → Cause bytes r k
unfolding told told_fault
cause bytes Malformed k h = in_text (malformed k) h.0 refl
cause bytes (Unsupported why) k h = in_text (unsupported why k) h.0 refl
cause bytes TooDeep k h = in_text (too_deep k) h.0 refl
cause bytes Undefined k h = in_syntax (undefined k) h refl
cause bytes Twice k h = in_syntax (twice k) h refl
cause bytes Loop k h = in_syntax (loop k) h refl
cause bytes BadStart k h = in_syntax (bad_start k) h refl
cause bytes BadExcept k h = in_syntax (bad_except k) h refl
cause bytes CallLoop k h = absurd h

excluded : (x : Refusal) → Excludes x deepest_nesting false deepest_nesting
excluded (malformed p) = tt
excluded (unsupported why p) = refl
excluded (too_deep p) = omega arith

text_or_syntax : {bytes : List ℕ} {x : Refusal} {s : Syntax} → IsRefused bytes x → CompactSyntax bytes s → ⊥
text_or_syntax {bytes} {x} {s} a b = no_syntax bytes x false deepest_nesting s a (excluded x) b

one_syntax_fault : {bytes : List ℕ} {f g : Fault} → SpellsFault bytes f → SpellsFault bytes g → f ≡ g
one_syntax_fault {bytes} {f} {g} (s, a, x) (t, b, y) = one_fault s f g x (subst (λ z. Fails z g) (sym (one_syntax bytes s t a b)) y)

both : {r q : Reason} {k m : ℕ} → ◌≡◌ {A = Reason × ℕ} (r, k) (q, m) → (r ≡ q) × (k ≡ m)
both e = (ap (λ z. z.0) e, ap (λ z. z.1) e)

pub one_reason : HasOneReason
one_reason bytes r q k m a b = by (cause bytes r k a) (cause bytes q m b)
  where
    by : Cause bytes r k → Cause bytes q m → (r ≡ q) × (k ≡ m)
    by (in_text x h e) (in_text y i f) = both (e ∙ (ap told (one_refusal bytes x y h i) ∙ sym f))
    by (in_text x h e) (in_syntax g (s, i, y) f) = absurd (text_or_syntax h i)
    by (in_syntax g (s, i, y) f) (in_text x h e) = absurd (text_or_syntax h i)
    by (in_syntax g h e) (in_syntax l i f) = both (e ∙ (ap told_fault (one_syntax_fault h i) ∙ sym f))

pub no_schema : HasNoGrammar
no_schema bytes r k g a (s, b, x) = by (cause bytes r k a)
  where
    by : Cause bytes r k → ⊥
    by (in_text y h e) = text_or_syntax h b
    by (in_syntax f (t, i, y) e) = no_grammar s f g (subst (λ z. Fails z f) (one_syntax bytes t s i b) y) x

abbrev Refused : List ℕ → Type 0
Refused bytes = (r : Reason) × ((k : ℕ) × IsRefusedSchema bytes r k)

refused_text : {bytes : List ℕ} (x : Refusal) → IsRefused bytes x → Refused bytes
refused_text {bytes} (malformed p) h = (Malformed, (p, (h, λ others deepest s a. no_syntax bytes (malformed p) others deepest s h tt a)))
refused_text {bytes} (unsupported why p) h = (Unsupported why, (p, (h, λ deepest s a. no_syntax bytes (unsupported why p) false deepest s h refl a)))
refused_text {bytes} (too_deep p) h = (TooDeep, (p, (h, λ others s a. no_syntax bytes (too_deep p) others deepest_nesting s h (omega arith) a)))

refused_syntax : {bytes : List ℕ} (s : Syntax) → CompactSyntax bytes s → (f : Fault) → Fails s f → Refused bytes
refused_syntax s a (undefined p) x = (Undefined, (p, (s, a, x)))
refused_syntax s a (twice p) x = (Twice, (p, (s, a, x)))
refused_syntax s a (loop p) x = (Loop, (p, (s, a, x)))
refused_syntax s a (bad_start p) x = (BadStart, (p, (s, a, x)))
refused_syntax s a (bad_except p) x = (BadExcept, (p, (s, a, x)))

pub schema_or_reason : HasGrammarOrReason
schema_or_reason bytes = by (read_or_refused bytes)
  where
    of_syntax : (s : Syntax) → CompactSyntax bytes s → ((g : Grammar) × Simplifies s g) ⊎ ((f : Fault) × Fails s f) → ((g : Grammar) × RncText bytes g) ⊎ Refused bytes
    of_syntax s a (inl (g, x)) = inl (g, (s, a, x))
    of_syntax s a (inr (f, x)) = inr (refused_syntax s a f x)

    by : ((s : Syntax) × CompactSyntax bytes s) ⊎ ((r : Refusal) × IsRefused bytes r) → ((g : Grammar) × RncText bytes g) ⊎ Refused bytes
    by (inl (s, a)) = of_syntax s a (grammar_or_fault s (lawful_syntax bytes s a).0)
    by (inr (r, h)) = inr (refused_text r h)
