-- Sets of pairs that stand open in a body, and those that were met on the way.
use Rattle.std.specs.Prelude.{◌≡◌, ◌<◌, ◌≤◌, ℕ, List, length, Option, Some, None, All, IfSome}
use Rattle.tc_base.specs.declared.limits.TheConstants.{DEEPEST_CALLS}
use Rattle.tc_hedge.specs.Leading.{ArePairsAround}
use Rattle.tc_hedge.specs.Stands.{Stands}
use Rattle.tc_hedge.specs.declared.hedge.Hedge.{Hedge}
use Rattle.tc_mat.specs.Held.{Held}
use Rattle.tc_mat.specs.Matrix.{Matrix}
use Rattle.tc_model.specs.Grammars.{Grammar}
use Rattle.tc_model.specs.Names.{ExpandedName}
use Rattle.tc_model.specs.States.{Side}
use Rattle.tc_model.specs.Symbols.{Mention, symbol_of}
use Rattle.tc_beh.specs.Held.{Extends, set_at}
use Rattle.tc_beh.specs.Links.{Tables, AreLinks}
use Rattle.tc_beh.specs.Places.{size_at, no_matrix}
use Rattle.tc_beh.specs.declared.bodies.Place.{Place}
use Rattle.tc_beh.specs.declared.met_sets.Element.{Element}
use Rattle.tc_beh.specs.declared.open_sets.OpenSet.{OpenSet}

-- a set of pairs is that of an element of a symbol around another
abbrev pub IsAround : Hedge → ℕ → Matrix → Matrix → Type 0
IsAround h a inner m =
    (side : Side) (g : Grammar) (symbols : List Mention) → Stands side g symbols h
    → (name : ExpandedName) → symbol_of symbols name ≡ a → ArePairsAround g side name inner m

-- the sets that were met, that of a text among them, the elements that are remembered, and the numbers that sets have in rows
pub record Met : Type 0 where
  pub text : Matrix
  pub held : Held
  pub elements : List (Option Element)
  pub links : Tables

-- two sets that were met: the one is that of an element of the symbol around the other
pub record IsElement (m : Hedge) (h : Held) (symbol inner element : ℕ) : Type 0 where
  pub inner_low : inner < length h.matrices
  pub low : element < length h.matrices
  pub around : IsAround m symbol (set_at h inner) (set_at h element)

-- each is the set of the element
abbrev pub AreElements : Hedge → Held → List (Option Element) → Type 0
AreElements m h es = All (λ o. IfSome o (λ e. IsElement m h e.symbol e.inner e.element)) es

abbrev pub Remembers : Hedge → Met → Type 0
Remembers m o = AreElements m o.held o.elements

-- what is known of the sets of these rows is right
abbrev pub AreLinked : Held → Met → Type 0
AreLinked h o = AreLinks h o.held o.links

-- more sets were met
pub record MeetsMore (old new : Met) : Type 0 where
  pub text : new.text ≡ old.text
  pub held : Extends old.held new.held
  pub elements : new.elements ≡ old.elements
  pub links : new.links ≡ old.links

-- a number, if there is one, is that of a set
abbrev pub IsLow : Held → Option ℕ → Type 0
IsLow h o = IfSome o (λ k. k < length h.matrices)

-- the set of a number, or else these words
abbrev pub set_or : Held → Option ℕ → Matrix → Matrix
set_or h None m = m
set_or h (Some k) m = set_at h k

abbrev pub set_of : Held → OpenSet → Matrix
set_of h o = set_or h o.number o.words

-- it is one of the sets that were met, or has words of their size
pub record IsOpenSet (h : Held) (o : OpenSet) : Type 0 where
  pub low : IsLow h o.number
  pub size : o.words.size ≡ h.size

-- no set at all
abbrev pub no_set : OpenSet
no_set = record { number = None; words = no_matrix }

-- the set that is put together, those that wait for it, how many more may stand open, and what was met
pub record Open : Type 0 where
  pub out : Matrix
  pub under : List Matrix
  pub room : ℕ
  pub met : Met

-- a body of a place may be put, in which elements stand so deep within one another
pub record IsOpenAt (p : Place) (depth : ℕ) (o : Open) : Type 0 where
  pub size : o.out.size ≡ size_at p
  pub text : o.met.text ≡ p.text.now
  pub remembers : Remembers p.output.now o.met
  pub links : AreLinked p.outputs.now o.met
  pub room : depth ≤ o.room
  pub few : o.room ≤ DEEPEST_CALLS

-- all but the set that is put together stays, and what is remembered of the output schema and of rows is right
pub record IsBeside (m : Hedge) (h : Held) (old new : Open) : Type 0 where
  pub size : new.out.size ≡ old.out.size
  pub under : new.under ≡ old.under
  pub room : new.room ≡ old.room
  pub text : new.met.text ≡ old.met.text
  pub remembers : Remembers m old.met → Remembers m new.met
  pub links : AreLinked h old.met → AreLinked h new.met
