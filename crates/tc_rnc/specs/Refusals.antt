-- What a fault says: where reading stops, and why.
use Rattle.tc_base.specs.declared.Place.{Place}
use Rattle.tc_base.specs.declared.reasons.Why.{Why}
use Rattle.tc_model.specs.Views.{place}
use Rattle.tc_model.specs.CompactSyntaxUnread as m
use Rattle.tc_model.specs.CompactSyntaxUnread.{Refusal}
use Rattle.tc_rnc.specs.declared.faults.RncFault.{RncFault}
use Rattle.tc_rnc.specs.declared.faults.RncFault.TheVariants.{Malformed, Unsupported, TooDeep, NoMemory}

-- the fault is the refusal with which reading stops
pub data Refuses (Stops : Refusal → Type 0) : RncFault → Type 0 where
  malformed : {p : Place} → Stops (m.malformed (place p)) → Refuses Stops (Malformed p)
  unsupported : {p : Place} {why : Why} → Stops (m.unsupported why (place p)) → Refuses Stops (Unsupported p why)
  too_deep : {p : Place} → Stops (m.too_deep (place p)) → Refuses Stops (TooDeep p)
  -- want of memory says nothing of the text
  no_memory : Refuses Stops NoMemory
