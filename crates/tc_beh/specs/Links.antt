-- Which sets that stand in rows were met on the way, by their numbers there and here.
use Rattle.std.specs.Prelude.{◌≡◌, ◌<◌, ℕ, List, length, Option, All, IfSome}
use Rattle.tc_mat.specs.Held.{Held}
use Rattle.tc_beh.specs.Held.{set_at}
use Rattle.tc_beh.specs.declared.links.Link.{Link}

-- links by the numbers in rows, and by the numbers of the sets that were met
pub record Tables : Type 0 where
  pub by_held : List (Option Link)
  pub by_met : List (Option Link)

-- the set of a number in rows was met under a number
pub record IsLink (rows met : Held) (held number : ℕ) : Type 0 where
  pub held_low : held < length rows.matrices
  pub low : number < length met.matrices
  pub same : set_at met number ≡ set_at rows held

-- each that is kept is one
pub record AreLinks (rows met : Held) (t : Tables) : Type 0 where
  pub by_held : All (λ o. IfSome o (λ l. IsLink rows met l.held l.met)) t.by_held
  pub by_met : All (λ o. IfSome o (λ l. IsLink rows met l.held l.met)) t.by_met
