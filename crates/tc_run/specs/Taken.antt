-- Where what is put out goes: trees are kept, or the text of their normal form is written.
use Rattle.std.specs.Prelude.{◌≡◌}
use Rattle.tc_model.specs.Names.{ExpandedName}
use Rattle.tc_model.specs.Trees as t
use Rattle.tc_model.specs.Views as see
use Rattle.tc_print.specs.Writing.{written_by, with_trees, with_start, with_end}
use Rattle.tc_run.specs.declared.output.Taken.{Taken}
use Rattle.tc_run.specs.declared.output.Taken.TheVariants as taken
use Rattle.tc_run.specs.declared.output.Outside.{Outside}

-- trees go behind what was taken before
abbrev pub Takes : Taken → t.Trees → Taken → Type 0
Takes (taken.Trees old) h (taken.Trees new) = see.trees new.items ≡ t.beside (see.trees old.items) h
Takes (taken.Trees old) h (taken.Text new) = ⊥
Takes (taken.Text old) h (taken.Trees new) = ⊥
Takes (taken.Text old) h (taken.Text new) = written_by new ≡ with_trees (written_by old) h

-- an element has started, and what stands around it is remembered
abbrev pub Starts : Taken → ExpandedName → Outside → Taken → Type 0
Starts (taken.Trees old) n outside (taken.Trees new) = (outside.nodes.items ≡ old.items) × (see.trees new.items ≡ t.none)
Starts (taken.Trees old) n outside (taken.Text new) = ⊥
Starts (taken.Text old) n outside (taken.Trees new) = ⊥
Starts (taken.Text old) n outside (taken.Text new) = (outside.default.now ≡ (written_by old).default) × (written_by new ≡ with_start n (written_by old))

-- it has ended
abbrev pub Ends : Taken → ExpandedName → Outside → Taken → Type 0
Ends (taken.Trees old) n outside (taken.Trees new) = see.trees new.items ≡ t.beside (see.trees outside.nodes.items) (t.element n (see.trees old.items) t.none)
Ends (taken.Trees old) n outside (taken.Text new) = ⊥
Ends (taken.Text old) n outside (taken.Trees new) = ⊥
Ends (taken.Text old) n outside (taken.Text new) = written_by new ≡ with_end n outside.default.now (written_by old)
