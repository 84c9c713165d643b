-- What still comes of a text where the root element's tag begins.
use Rattle.std.proofs.Common.{◌≢◌, ℕ, ◌+◌, List, [], ◌∷◌, ◌++◌, refl, sym, subst, length}
use Rattle.std.specs.Prelude.{◌↔◌}
use Rattle.tc_model.specs.Names.{IsChars}
use Rattle.tc_model.specs.XmlTextScopes.{first_scope}
use Rattle.tc_tags.specs.Begins.{BeginsTag}
use Rattle.tc_stream.specs.Outcomes.{Outcome}
use Rattle.tc_stream.specs.From.{Standing, open_in, FromPhase, StillComes}
use Rattle.tc_stream.specs.declared.phases.Phase.{Phase}
use Rattle.tc_stream.specs.declared.phases.Phase.TheVariants as phases
use Rattle.tc_stream.proofs.StepLaws.{front_past}
use Rattle.tc_stream.proofs.RootSteps.{root_in_mark, root_in_front, root_in_prolog, root_in_root}

-- the same bytes from two parts of a text
phase_moved : (n : ℕ) (item r : List ℕ) (phase next : Phase) (s u : Standing) (o : Outcome) → IsChars item
    → ((total : ℕ) (f : List ℕ) → FromPhase total phase s (item ++ f) o → FromPhase total next u (item ++ f) o) → StillComes n phase s (item ++ r) o → StillComes n next u (item ++ r) o
phase_moved n item r phase next s u o chars step (front, k, go, whole) =
    let b = front_past chars k in
    let there = step (n + length (item ++ b.rest)) b.rest (subst (λ w. FromPhase (n + length w) phase s w o) b.whole go) in
    (front, k, subst (λ w. FromPhase (n + length w) next u w o) (sym b.whole) there, whole)

pub phase_same : (n : ℕ) (item r : List ℕ) (phase next : Phase) (s u : Standing) (o : Outcome) → IsChars item
    → ((total : ℕ) (f : List ℕ) → FromPhase total phase s (item ++ f) o ↔ FromPhase total next u (item ++ f) o) → StillComes n phase s (item ++ r) o ↔ StillComes n next u (item ++ r) o
phase_same n item r phase next s u o chars step =
    (phase_moved n item r phase next s u o chars (λ total f. (step total f).0), phase_moved n item r next phase u s o chars (λ total f. (step total f).1))

-- `<` and a byte that begins neither a mark nor an instruction
begun_tag : (b : ℕ) (rest f : List ℕ) → b ≢ 0x21 → b ≢ 0x3F → BeginsTag ((0x3C ∷ b ∷ rest) ++ f)
begun_tag b rest f h k = record { next = b; rest = rest ++ f; opens = refl; no_mark = h; no_instruction = k }

-- from each part before the root element reading goes on in it
pub root_opens : (n : ℕ) (b : ℕ) (rest r : List ℕ) (phase : Phase) (o : Outcome) → IsChars (0x3C ∷ b ∷ rest) → b ≢ 0x21 → b ≢ 0x3F → phase ≢ phases.Content → phase ≢ phases.End
    → StillComes n phase (open_in [] first_scope []) ((0x3C ∷ b ∷ rest) ++ r) o ↔ StillComes n phases.Content (open_in [] first_scope []) ((0x3C ∷ b ∷ rest) ++ r) o
root_opens n b rest r phases.Mark o chars h k c e =
    phase_same n (0x3C ∷ b ∷ rest) r phases.Mark phases.Content (open_in [] first_scope []) (open_in [] first_scope []) o chars
    (λ total f. root_in_mark total (open_in [] first_scope []) ((0x3C ∷ b ∷ rest) ++ f) o (begun_tag b rest f h k))
root_opens n b rest r phases.Front o chars h k c e =
    phase_same n (0x3C ∷ b ∷ rest) r phases.Front phases.Content (open_in [] first_scope []) (open_in [] first_scope []) o chars
    (λ total f. root_in_front total ((0x3C ∷ b ∷ rest) ++ f) o (begun_tag b rest f h k))
root_opens n b rest r phases.Prolog o chars h k c e =
    phase_same n (0x3C ∷ b ∷ rest) r phases.Prolog phases.Content (open_in [] first_scope []) (open_in [] first_scope []) o chars
    (λ total f. root_in_prolog total ((0x3C ∷ b ∷ rest) ++ f) o (begun_tag b rest f h k))
root_opens n b rest r phases.Root o chars h k c e =
    phase_same n (0x3C ∷ b ∷ rest) r phases.Root phases.Content (open_in [] first_scope []) (open_in [] first_scope []) o chars
    (λ total f. root_in_root total (open_in [] first_scope []) ((0x3C ∷ b ∷ rest) ++ f) o (begun_tag b rest f h k))
root_opens n b rest r phases.Content o chars h k c e = absurd (c refl)
root_opens n b rest r phases.End o chars h k c e = absurd (e refl)
