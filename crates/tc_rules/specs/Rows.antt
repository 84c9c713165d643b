-- What contracts see of rows and graphs: the same data without addresses.
use Rattle.std.specs.Prelude.{◌≡◌, ℕ, List, map, Option, None, Some}
use Rattle.std.specs.Global.{Vec}
use Rattle.tc_model.specs.PathStates.{State}
use Rattle.tc_rules.specs.Graphs as g
use Rattle.tc_rules.specs.Steps.{both_states, ending_alternatives}
use Rattle.tc_rules.specs.Words.{bit, cut}
use Rattle.tc_rules.specs.declared.rows.Row.{Row}
use Rattle.tc_rules.specs.declared.graph.Graph.{Graph}
use Rattle.tc_rules.specs.declared.graph.Leads.{Leads}
use Rattle.tc_rules.specs.declared.graph.Leads.TheVariants.{Alike, BySet}
use Rattle.tc_rules.specs.declared.graph.Letters.{Letters}

abbrev pub words : Row → List ℕ
words r = r.words.items

abbrev pub all_words : List Row → List (List ℕ)
all_words rs = map words rs

-- the state of a row, where alternatives end there
abbrev pub state : List ℕ → Row → State
state ends r = cut (bit (words r)) 0 ends

abbrev pub states : List ℕ → List Row → List State
states ends rs = map (state ends) rs

-- which steps fit each class with each set of predicates, and a text
abbrev pub fits_by : List State → List State → List (List State)
fits_by kinds marked = map (λ k. map (both_states k) marked) kinds

abbrev pub fits : Letters → List (List State)
fits l = fits_by (states l.ends.items l.kinds.keys) (states l.ends.items l.marked.items)

abbrev pub texts : Letters → List State
texts l = map (both_states (state l.ends.items l.text)) (states l.ends.items l.marked.items)

-- where a state leads by the letters of a class, set by set
abbrev pub leads : List (List ℕ) → Leads → List (Option ℕ)
leads marked (Alike k) = map (λ m. k) marked
leads marked (BySet ks) = ks.items

-- the number of the state where no item moves on, if it is told
abbrev pub lead_alike : Leads → Option (Option ℕ)
lead_alike (Alike k) = Some k
lead_alike (BySet ks) = None

abbrev pub leads_of_classes : List (List ℕ) → List Leads → List (List (Option ℕ))
leads_of_classes marked xs = map (leads marked) xs

abbrev pub leads_of_states : List (List ℕ) → List (Vec Leads) → List (List (List (Option ℕ)))
leads_of_states marked xs = map (λ v. leads_of_classes marked v.items) xs

-- lists of numbers
abbrev pub lists : List (Vec ℕ) → List (List ℕ)
lists xs = map (λ v. v.items) xs

abbrev pub graph : Graph → g.Graph
graph x = record {
  states = states x.letters.ends.items x.states.keys;
  classes = x.letters.classes.items;
  fits = fits x.letters;
  texts = texts x.letters;
  next = leads_of_states (all_words x.letters.marked.items) x.next.items;
}

-- the alternatives of which all steps but the last may have been taken, for each state: those that a graph keeps, and those of its states
abbrev pub endings_of : List State → List (List ℕ)
endings_of xs = map (ending_alternatives 0) xs

abbrev pub ending : Graph → List (List ℕ)
ending x = lists x.ending.items

abbrev pub ending_by_states : Graph → List (List ℕ)
ending_by_states x = endings_of (states x.letters.ends.items x.states.keys)

-- they are the same: of one graph, and of each of these
abbrev pub KeepsEndings : Graph → Type 0
KeepsEndings x = ending x ≡ ending_by_states x

abbrev pub AllKeepEndings : List Graph → Type 0
AllKeepEndings xs = map ending xs ≡ map ending_by_states xs

abbrev pub graphs : List Graph → List g.Graph
graphs xs = map graph xs
