-- Where nothing comes of a text: what such steps need.
use Rattle.std.proofs.Common.{◌≡◌, ℕ, ◌+◌, List, [], ◌∷◌, ◌++◌, refl, ap, ◌∙◌, sym, subst, length, append_assoc, append-nil}
use Rattle.std.specs.Prelude.{◌↔◌, encode_utf8, encode_utf8_all}
use Rattle.std.specs.List.{list_all}
use Rattle.std.proofs.lemmas.Bool.{and_parts}
use Rattle.tc_base.specs.Characters.{is_char}
use Rattle.tc_model.specs.Names.{IsChars}
use Rattle.tc_model.specs.XmlTextBytes.{FrontOf}
use Rattle.tc_stream.specs.Cuts.{BeginsNoChar}
use Rattle.tc_model.specs.XmlTextRefusals.{Cause}
use Rattle.tc_stream.specs.Outcomes.{Outcome, refused}
use Rattle.tc_stream.specs.From.{Standing, FromPhase, StillComes}
use Rattle.tc_stream.specs.declared.phases.Phase.{Phase}
use Rattle.tc_stream.proofs.StepLaws.{front_behind, front_past}
use Rattle.tc_stream.proofs.FrontExists.{front_exists}

-- where nothing comes of characters and of what follows them, whatever that is
pub nothing_step : (n : ℕ) (item r : List ℕ) (phase : Phase) (s : Standing) (o : Outcome) → IsChars item
    → ((f : List ℕ) → FrontOf r f → FromPhase (n + length (item ++ f)) phase s (item ++ f) o → ⊥) → StillComes n phase s (item ++ r) o → ⊥
nothing_step n item r phase s o chars none (front, k, go, whole) =
    let b = front_past chars k in none b.rest b.is_front (subst (λ w. FromPhase (n + length w) phase s w o) b.whole go)

-- no characters stand at the front of bytes that begin with none
pub front_nothing : {r f : List ℕ} → BeginsNoChar r → FrontOf r f → f ≡ []
front_nothing {r} {f} none k = by k.characters
  where
    by : IsChars f → f ≡ []
    by ([], e, h) = sym e
    by (c ∷ cs, e, h) =
        absurd (none c (encode_utf8_all cs ++ k.after) (k.parts ∙ (ap (λ w. w ++ k.after) (sym e) ∙ append_assoc (encode_utf8 c) (encode_utf8_all cs) k.after)) (and_parts (is_char c) (list_all is_char cs) h).0)

-- where nothing comes of characters behind which no character stands: the end of the text, or what is none
pub last_step : (n : ℕ) (item r : List ℕ) (phase : Phase) (s : Standing) (o : Outcome) → IsChars item → BeginsNoChar r
    → (FromPhase (n + length item) phase s item o → ⊥) → StillComes n phase s (item ++ r) o → ⊥
last_step n item r phase s o chars end none =
    nothing_step n item r phase s o chars (λ f k go.
    let alone : item ++ f ≡ item = ap (λ w. item ++ w) (front_nothing end k) ∙ append-nil item in
    none (subst (λ w. FromPhase (n + length w) phase s w o) alone go))

-- where one refusal comes of each text of characters that goes on so
pub refused_in_chars : (n : ℕ) (item r : List ℕ) (phase : Phase) (s : Standing) (cause : Cause) (place : ℕ) (o : Outcome) → IsChars item
    → ((f : List ℕ) (o : Outcome) → IsChars f → FromPhase (n + length (item ++ f)) phase s (item ++ f) o ↔ (o ≡ refused cause place))
    → StillComes n phase s (item ++ r) o ↔ (o ≡ refused cause place)
refused_in_chars n item r phase s cause place o chars step = (past, back)
  where
    past : StillComes n phase s (item ++ r) o → o ≡ refused cause place
    past (front, k, go, whole) =
        let b = front_past chars k in (step b.rest o b.is_front.characters).0 (subst (λ w. FromPhase (n + length w) phase s w o) b.whole go)

    back : o ≡ refused cause place → StillComes n phase s (item ++ r) o
    back e =
        let (f, k) = front_exists r in
        subst (λ z. StillComes n phase s (item ++ r) z) (sym e) (item ++ f, front_behind chars k, (step f (refused cause place) k.characters).1 refl, tt)

-- the same of characters behind which no character stands
pub last_refused : (n : ℕ) (item r : List ℕ) (phase : Phase) (s : Standing) (cause : Cause) (place : ℕ) (o : Outcome) → IsChars item → BeginsNoChar r
    → ((o : Outcome) → FromPhase (n + length item) phase s item o ↔ (o ≡ refused cause place)) → StillComes n phase s (item ++ r) o ↔ (o ≡ refused cause place)
last_refused n item r phase s cause place o chars end step = (past, back)
  where
    alone : (f : List ℕ) → FrontOf r f → item ++ f ≡ item
    alone f k = ap (λ w. item ++ w) (front_nothing end k) ∙ append-nil item

    past : StillComes n phase s (item ++ r) o → o ≡ refused cause place
    past (front, k, go, whole) =
        let b = front_past chars k in (step o).0 (subst (λ w. FromPhase (n + length w) phase s w o) (b.whole ∙ alone b.rest b.is_front) go)

    back : o ≡ refused cause place → StillComes n phase s (item ++ r) o
    back e =
        let (f, k) = front_exists r in
        subst (λ z. StillComes n phase s (item ++ r) z) (sym e)
        (item ++ f, front_behind chars k, subst (λ w. FromPhase (n + length w) phase s w (refused cause place)) (sym (alone f k)) ((step (refused cause place)).1 refl), tt)
