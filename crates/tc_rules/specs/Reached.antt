-- The states that are reached, round by round, where each leads to a list of states: as rows of bits, and as plain states.
use Rattle.std.specs.Prelude.{◌≡◌, ◌<◌, ◌≤◌, ℕ, zero, suc, List, [], ◌∷◌, Bool, true, false, not, Option, None, Some, map, filter, flat_map, length, slice_get, take}
use Rattle.std.specs.Global.{Vec}
use Rattle.std.specs.List.{AllZip}
use Rattle.tc_model.specs.Sheets.{Path}
use Rattle.tc_model.specs.PathStates.{State}
use Rattle.tc_model.specs.StateCounts.{all_count, some_item}
use Rattle.tc_rules.specs.Once.{put_all}
use Rattle.tc_rules.specs.Rows.{words, all_words, leads}
use Rattle.tc_rules.specs.Steps.{next_state}
use Rattle.tc_rules.specs.Words.{are_zero, both_words, further_words, same_words}
use Rattle.tc_rules.specs.declared.graph.Counts.{Counts}
use Rattle.tc_rules.specs.declared.graph.Counts.TheVariants.{All, SomeItem}
use Rattle.tc_rules.specs.declared.graph.Leads.{Leads}
use Rattle.tc_rules.specs.declared.graph.Letters.{Letters}
use Rattle.tc_rules.specs.declared.search.Reached.{Reached}

-- which states count
abbrev pub counted : Counts → State → Bool
counted All = all_count
counted SomeItem = some_item

-- where a state leads, by which steps fit the letters, class by class
abbrev pub leads_by : Path → List (List State) → State → List State
leads_by p fits x = flat_map (λ class. map (λ f. next_state p f x) class) fits

module _ {X : Type 0} (same : X → X → Bool) (counts : X → Bool) (lead : X → List X) where
  abbrev pub leads_of : List X → List X
  leads_of xs = filter counts (flat_map lead xs)

  abbrev pub one_round : List X → List X
  one_round xs = put_all same xs (leads_of xs)

  abbrev pub rounds : ℕ → List X → List X
  rounds zero xs = xs
  rounds (suc n) xs = rounds n (one_round xs)

  -- all states that are reached from the first
  pub record AreReached (first : X) (xs : List X) : Type 0 where
    pub found : (n : ℕ) × (xs ≡ rounds n (filter counts (first ∷ [])))
    pub all : one_round xs ≡ xs

-- the same of rows: which count
abbrev pub kept_by : Counts → List ℕ → Bool
kept_by All x = true
kept_by SomeItem x = not (are_zero x)

-- those of some rows that count were put last, each unless it was there; or there are too many of them
module _ (counts : Counts) where
  abbrev pub ArePut : List (List ℕ) → List (List ℕ) → List (List ℕ) → Type 0
  ArePut old xs new = new ≡ put_all same_words old (filter (kept_by counts) xs)

  abbrev pub AreMany : ℕ → List (List ℕ) → List (List ℕ) → Type 0
  AreMany most old xs = most < length (put_all same_words old (filter (kept_by counts) xs))

  -- they were put, and there are at most so many
  pub record IsGrown (most : ℕ) (old xs new : List (List ℕ)) : Type 0 where
    pub put : ArePut old xs new
    pub few : length new ≤ most

-- where items that stay and items that may move on lead, where these predicates hold, and set by set
abbrev pub lead_of : List ℕ → List ℕ → List ℕ → List ℕ
lead_of staying moving marks = further_words 0 staying (both_words moving marks)

abbrev pub leads_by_set : List ℕ → List ℕ → List (List ℕ) → List (List ℕ)
leads_by_set staying moving marked = map (lead_of staying moving) marked

-- the same by the letters of each class: items wait for a step that fits
abbrev pub leads_by_class : List ℕ → List ℕ → Letters → List (List ℕ)
leads_by_class staying waiting l = flat_map (λ kind. leads_by_set staying (both_words waiting kind) (all_words l.marked.items)) (all_words l.kinds.keys)

abbrev pub leads_from : Letters → List ℕ → List (List ℕ)
leads_from l x = leads_by_class (both_words x (words l.deep)) (both_words x (words l.inner)) l

abbrev pub leads_from_all : Letters → List (List ℕ) → List (List ℕ)
leads_from_all l xs = flat_map (leads_from l) xs

module _ (counts : Counts) (keys : List (List ℕ)) where
  -- the number of a row, where it counts
  abbrev pub IsLead : Option ℕ → List ℕ → Type 0
  IsLead None x = kept_by counts x ≡ false
  IsLead (Some k) x = (kept_by counts x ≡ true) × (slice_get keys k ≡ Some x)

  abbrev pub AreLeads : List (Option ℕ) → List (List ℕ) → Type 0
  AreLeads ks xs = AllZip IsLead ks xs

  module _ (l : Letters) where
    abbrev pub IsLeadOfClass : List ℕ → List ℕ → Leads → List ℕ → Type 0
    IsLeadOfClass staying waiting led kind = AreLeads (leads (all_words l.marked.items) led) (leads_by_set staying (both_words waiting kind) (all_words l.marked.items))

    abbrev pub AreLeadsOfClasses : List ℕ → List ℕ → List Leads → List (List ℕ) → Type 0
    AreLeadsOfClasses staying waiting led kinds = AllZip (IsLeadOfClass staying waiting) led kinds

    abbrev pub AreLeadsByClass : List Leads → List ℕ → Type 0
    AreLeadsByClass led x = AreLeadsOfClasses (both_words x (words l.deep)) (both_words x (words l.inner)) led (all_words l.kinds.keys)

    abbrev pub AreLedFrom : List (Vec Leads) → List (List ℕ) → Type 0
    AreLedFrom next xs = AllZip (λ led x. AreLeadsByClass led.items x) next xs

-- where so many of the first states lead
pub record AreLed (counts : Counts) (l : Letters) (n : ℕ) (found : Reached) : Type 0 where
  pub gone : length found.next.items ≡ n
  pub next : AreLedFrom counts (all_words found.states.keys) l found.next.items (take n (all_words found.states.keys))
