use Rattle.tc_close.proofs.NumberTables.{no_number, nothing_else}
use Rattle.tc_close.proofs.number_table.NumberTable.new.Goals as goal

pub returns : goal.returns
returns c = no_number 16384 c.in_ok-places.places.items (c.in_ok-places.ensures.items_if_clones_equal (nothing_else _ (λ p e. e)))
