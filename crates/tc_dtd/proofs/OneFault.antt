-- A text is refused for one fault, and declarations have one grammar.
use Rattle.std.proofs.Common.{◌≡◌, ◌⊎◌, inl, inr, ℕ, List, [], ◌∷◌, ◌++◌, refl, ap, ◌∙◌, sym, subst, bytes_eq}
use Rattle.std.specs.List.{IsDistinct}
use Rattle.tc_base.specs.declared.Place.{Place}
use Rattle.tc_base.specs.declared.reasons.Why.{Why}
use Rattle.tc_model.specs.XmlTextRefusals.{unsupported, too_deep}
use Rattle.tc_dtd.specs.Declarations.{Declaration}
use Rattle.tc_dtd.specs.DtdGrammar.{Keeps, keeps_none, keeps, leaves, grammar_with}
use Rattle.tc_dtd.specs.DtdText.{deepest_parenthesis, names_of, FirstAgain}
use Rattle.tc_dtd.specs.DtdTextDeclarations.{Placed}
use Rattle.tc_dtd.specs.DtdTextLaws.{HasOneFault, HasOneGrammar}
use Rattle.tc_dtd.specs.Outcomes.{read}
use Rattle.tc_dtd.specs.declared.faults.DtdFault.TheVariants.{Malformed, Unsupported, TooDeep, Twice, NoMemory}
use Rattle.tc_dtd.proofs.DeclarationsUnique.{text_unique}
use Rattle.tc_dtd.proofs.FaultLaws.{one_refusal, not_once}
use Rattle.tc_dtd.proofs.OutcomeLaws.{read_same}

-- one list is cut at one place, or at one place behind the other
cuts : (xs ys vs ws : List Placed) (n m : Placed) → xs ++ n ∷ ys ≡ vs ++ m ∷ ws → (n ≡ m) ⊎ (((r : List Placed) × (vs ≡ xs ++ n ∷ r)) ⊎ ((r : List Placed) × (xs ≡ vs ++ m ∷ r)))
cuts [] ys [] ws n m e = inl (cc)
cuts [] ys (v ∷ vs) ws n m e = let first : v ≡ n = cc in inr (inl (vs, ap (λ w. w ∷ vs) first))
cuts (x ∷ xs) ys [] ws n m e = let first : x ≡ m = cc in inr (inr (xs, ap (λ w. w ∷ xs) first))
cuts (x ∷ xs) ys (v ∷ vs) ws n m e = by (cuts xs ys vs ws n m (cc))
  where
    first : x ≡ v
    first = cc

    by : (n ≡ m) ⊎ (((r : List Placed) × (vs ≡ xs ++ n ∷ r)) ⊎ ((r : List Placed) × (xs ≡ vs ++ m ∷ r)))
        → (n ≡ m) ⊎ (((r : List Placed) × (v ∷ vs ≡ x ∷ xs ++ n ∷ r)) ⊎ ((r : List Placed) × (x ∷ xs ≡ v ∷ vs ++ m ∷ r)))
    by (inl s) = inl s
    by (inr (inl (r, s))) = inr (inl (r, ap (λ w. w ∷ vs) (sym first) ∙ ap (λ w. x ∷ w) s))
    by (inr (inr (r, s))) = inr (inr (r, ap (λ w. w ∷ xs) first ∙ ap (λ w. v ∷ w) s))

-- the first declaration of an element that was declared before is one
one_again : {found : List Placed} {p q : ℕ} → FirstAgain found p → FirstAgain found q → p ≡ q
one_again {p = p} {q = q} a b = by (cuts a.before a.behind b.before b.behind a.again b.again (sym a.parts ∙ b.parts))
  where
    by : (a.again ≡ b.again) ⊎ (((r : List Placed) × (b.before ≡ a.before ++ a.again ∷ r)) ⊎ ((r : List Placed) × (a.before ≡ b.before ++ b.again ∷ r))) → p ≡ q
    by (inl s) = a.stands ∙ (ap (λ w. w.place) s ∙ sym b.stands)
    by (inr (inl (r, s))) = absurd (not_once a.before r a.again (subst (λ w. IsDistinct bytes_eq (names_of w)) s b.once) a.twice)
    by (inr (inr (r, s))) = absurd (not_once b.before r b.again (subst (λ w. IsDistinct bytes_eq (names_of w)) s a.once) b.twice)

same_causes : (one other : Why) → unsupported one ≡ unsupported other → one ≡ other
same_causes one other e = cc

no_construct : (why : Why) → unsupported why ≡ too_deep → ⊥
no_construct why e = absurd (cc)

same_place : (p q : Place) → p.0 ≡ q.0 → p ≡ q
same_place p q e = ap (λ n. record { 0 = n }) e

pub one_fault : HasOneFault
one_fault bytes (Malformed p) (Malformed q) i j f g = inr (tt, tt)
one_fault bytes (Malformed p) (Unsupported q why) i j f g = absurd (f.2 (unsupported why) q.0 g.0)
one_fault bytes (Malformed p) (TooDeep q) i j f g = absurd (f.2 too_deep q.0 g.0)
one_fault bytes (Malformed p) (Twice q) i j f g = absurd (f.1 deepest_parenthesis g.0 g.1)
one_fault bytes (Malformed p) NoMemory i j f g = absurd j
one_fault bytes (Unsupported p why) (Malformed q) i j f g = absurd (g.2 (unsupported why) p.0 f.0)
one_fault bytes (Unsupported p why) (Unsupported q other) i j f g =
    let both = one_refusal bytes (unsupported why) (unsupported other) p.0 q.0 f.0 g.0 in
    inl (ap (λ w. Unsupported p w) (same_causes why other both.0) ∙ ap (λ w. Unsupported w other) (same_place p q both.1))
one_fault bytes (Unsupported p why) (TooDeep q) i j f g = absurd (no_construct why (one_refusal bytes (unsupported why) too_deep p.0 q.0 f.0 g.0).0)
one_fault bytes (Unsupported p why) (Twice q) i j f g = absurd (f.1 deepest_parenthesis g.0 g.1)
one_fault bytes (Unsupported p why) NoMemory i j f g = absurd j
one_fault bytes (TooDeep p) (Malformed q) i j f g = absurd (g.2 too_deep p.0 f.0)
one_fault bytes (TooDeep p) (Unsupported q why) i j f g = absurd (no_construct why (one_refusal bytes (unsupported why) too_deep q.0 p.0 g.0 f.0).0)
one_fault bytes (TooDeep p) (TooDeep q) i j f g = inl (ap TooDeep (same_place p q (one_refusal bytes too_deep too_deep p.0 q.0 f.0 g.0).1))
one_fault bytes (TooDeep p) (Twice q) i j f g = absurd (f.1 g.0 g.1)
one_fault bytes (TooDeep p) NoMemory i j f g = absurd j
one_fault bytes (Twice p) (Malformed q) i j f g = absurd (g.1 deepest_parenthesis f.0 f.1)
one_fault bytes (Twice p) (Unsupported q why) i j f g = absurd (g.1 deepest_parenthesis f.0 f.1)
one_fault bytes (Twice p) (TooDeep q) i j f g = absurd (g.1 f.0 f.1)
one_fault bytes (Twice p) (Twice q) i j f g =
    let same : f.0 ≡ g.0 = (read_same (text_unique deepest_parenthesis bytes (read f.0 []) (read g.0 []) f.1.reads g.1.reads)).0 in
    inl (ap Twice (same_place p q (one_again (subst (λ w. FirstAgain w p.0) same f.2) g.2)))
one_fault bytes (Twice p) NoMemory i j f g = absurd j
one_fault bytes NoMemory other i j f g = absurd i

-- what is kept is one
one_kept : {dtd : List Declaration} {root : List ℕ} {xs one other : List Declaration} → Keeps dtd root xs one → Keeps dtd root xs other → one ≡ other
one_kept keeps_none keeps_none = refl
one_kept (keeps {x = x} r a) (keeps s b) = ap (λ w. x ∷ w) (one_kept a b)
one_kept (keeps r a) (leaves n b) = absurd (n r)
one_kept (leaves n a) (keeps r b) = absurd (n r)
one_kept (leaves n a) (leaves m b) = one_kept a b

pub one_grammar : HasOneGrammar
one_grammar ds root g h a b = a.is_grammar ∙ (ap (λ w. grammar_with w root) (one_kept a.keeps_reached b.keeps_reached) ∙ sym b.is_grammar)
