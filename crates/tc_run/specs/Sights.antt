-- What looks see of nodes of a letter, and what is asked where they look.
use Rattle.std.specs.Prelude.{◌≡◌, ◌++◌, ℕ, List, All, Option, true, IfSome, MatchOption}
use Rattle.std.specs.Borrow.{Bor}
use Rattle.tc_model.specs.Letters.{Letter}
use Rattle.tc_model.specs.PathStates.{State, is_empty_state}
use Rattle.tc_model.specs.Numberings.{predicates_of}
use Rattle.tc_model.specs.StateCounts.{PathUse}
use Rattle.tc_model.specs.Symbols.{Mention}
use Rattle.tc_model.specs.Trees.{Trees}
use Rattle.tc_model.specs.Views as see
use Rattle.tc_model.specs.declared.tree.Node.{Node}
use Rattle.tc_rules.specs.Asked.{letter}
use Rattle.tc_rules.specs.Kept.{told}
use Rattle.tc_rules.specs.RulesView.{IsStateOf, is_hit_of, select_below}
use Rattle.tc_rules.specs.declared.rules.Kind.{Kind}
use Rattle.tc_rules.specs.declared.rules.Kind.TheVariants as kinds
use Rattle.tc_rules.specs.declared.rules.Marks.{Marks}
use Rattle.tc_rules.specs.declared.rules.Rules.{Rules}
use Rattle.tc_run.specs.Lettered.{Lettered, bare, IsLettered}
use Rattle.tc_run.specs.Named.{AreNamed}
use Rattle.tc_run.specs.Views.{trees}
use Rattle.tc_run.specs.Findings.{AreFoundUnder}
use Rattle.tc_run.specs.Running.{Guide, guide, IsRunner, IsLetteredIn, IsLetteredBy, kids_of, numbered_by}
use Rattle.tc_run.specs.declared.letters.Lettered.{Lettered as LetteredOf}
use Rattle.tc_run.specs.declared.letters.Document.{Document}
use Rattle.tc_run.specs.declared.letters.Lettering.{Lettering}
use Rattle.tc_run.specs.declared.runner.Runner.{Runner}
use Rattle.tc_run.specs.declared.sights.KnownSights.{KnownSights}
use Rattle.tc_run.specs.declared.sights.Seen.{Seen}
use Rattle.tc_run.specs.declared.sights.Sight.{Sight}

module _ (g : Guide) (state_of_look : ℕ) where
  -- the state below an element of this letter, or that nothing is selected there
  abbrev pub LeadsUnder : Letter → Option ℕ → Type 0
  LeadsUnder x o = (b : PathUse) (y : State) → IsStateOf g.rules state_of_look b y
      → MatchOption o (is_empty_state (select_below g.symbols g.rules b y x) ≡ true) (λ k. IsStateOf g.rules k b (select_below g.symbols g.rules b y x))

  abbrev pub LeadsByKind : Kind → Marks → Option ℕ → Type 0
  LeadsByKind (kinds.Elem k) marks o = LeadsUnder (letter (kinds.Elem k) marks) o
  LeadsByKind kinds.Text marks o = Unit {0}

  pub record IsSightUnder (kind : Kind) (marks : Marks) (v : Sight) : Type 0 where
    pub hit : (b : PathUse) (y : State) → IsStateOf g.rules state_of_look b y → v.hit ≡ is_hit_of g.symbols g.rules b y (letter kind marks)
    pub below : LeadsByKind kind marks v.below

abbrev pub LeadsTo : Runner → ℕ → Letter → Option ℕ → Type 0
LeadsTo r k x o = LeadsUnder (guide r) k x o

abbrev pub LeadsFor : Runner → ℕ → Kind → Marks → Option ℕ → Type 0
LeadsFor r k kind marks o = LeadsByKind (guide r) k kind marks o

abbrev pub IsSight : Runner → ℕ → Kind → Marks → Sight → Type 0
IsSight r k kind marks v = IsSightUnder (guide r) k kind marks v

-- what is remembered is right
abbrev pub IsSeen : Guide → Seen → Type 0
IsSeen g k = IsSightUnder g k.look k.kind k.marks k.sight

pub record AreSeenUnder (g : Guide) (numbered : List Trees) (k : KnownSights) : Type 0 where
  pub seen : All (λ o. IfSome o (IsSeen g)) k.places.items
  pub findings : AreFoundUnder g numbered k.findings

abbrev pub AreSeenBy : Runner → KnownSights → Type 0
AreSeenBy r k = AreSeenUnder (guide r) (numbered_by r) k

-- lettered trees that are looked at, after some that were seen
pub record AreLookedAt (r : Runner) (x : Lettered) (k : KnownSights) : Type 0 where
  pub runner : IsRunner r
  pub nodes : IsLetteredBy r x
  pub known : AreSeenBy r k

-- the names and the sights that are remembered
pub record AreRemembered (r : Runner) (k : Lettering) : Type 0 where
  pub names : AreNamed r.alphabet.now k.names
  pub sights : AreSeenUnder (guide r) (kids_of k.numbered.items) k.sights

-- more elements have a number
pub record HasGrown (old new : Lettering) : Type 0 where
  pub more : List (Bor (List LetteredOf))
  pub grown : new.numbered.items ≡ old.numbered.items ++ more

-- the trees with their letters, where these elements have numbers
abbrev pub AreLettered : Runner → Lettering → Lettered → Trees → Type 0
AreLettered r k x h = IsLetteredIn r (kids_of k.numbered.items) x × (bare x ≡ h)

-- a document with its letters
abbrev pub IsLetteredOver : Rules → List Mention → List Node → Document → Type 0
IsLetteredOver rules symbols nodes d =
    IsLettered symbols (predicates_of (told rules).sheet) (kids_of d.numbered.now) (trees d.nodes.now) × (bare (trees d.nodes.now) ≡ see.trees nodes)
