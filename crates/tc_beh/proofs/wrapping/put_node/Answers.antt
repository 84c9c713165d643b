use Rattle.std.proofs.Common.{◌≡◌, ◌-◌, ◌*◌, inl, length, ap, ◌∙◌, sym, subst, arith}
use Rattle.tc_rules.specs.Kept.{told}
use Rattle.tc_rules.specs.RulesView.{RulesView, move_count, select_count}
use Rattle.tc_rows.specs.Triples.{looks, moves, ancestors}
use Rattle.tc_beh.specs.Held.{Grows}
use Rattle.tc_beh.specs.Rooms.{output_at}
use Rattle.tc_beh.proofs.Together.{on_ok_map}
use Rattle.tc_beh.proofs.Wrapped.{node_row}
use Rattle.tc_beh.proofs.WrapRows.{beside_then}
use Rattle.tc_beh.proofs.wrapping.put_node.Goals as goal

pub returns-clause-row : goal.returns-clause-row
returns-clause-row c = on_ok_map c.put_entries-put.result _ _ (λ comes x ok room.
    let n = c.args.node in
    let rules = ok.machine.parts.are_rules in
    let found = c.put_looks.ensures in
    node_row x c.args.outputs.now c.put_entries-put.new.outputs n c.put_looks.new.out.numbers.items c.put_entries-put.new.out.numbers.items c.args.out.now.flags c.args.out.now.entries c.put_looks.new.out.flags c.put_looks.new.out.entries
    room.flags room.entries found.beside.flags found.beside.entries (comes x ok) c.put_entries-put.ensures.others
    (λ k s st. found.looks x k s rules ok.node.letter st) (λ i l. found.few x i rules l)) c.put_entries-put.ensures.comes

pub put_looks-requires-clause-room : goal.put_looks-requires-clause-room
put_looks-requires-clause-room c = λ y rules.
    let (x, ok, room) = c.requires.room in
    let same : looks y ≡ looks x = ap (λ (t : RulesView). select_count t - move_count t) (sym rules.told ∙ ok.machine.parts.are_rules.told) in
    omega (arith, same, room.flags, room.entries, room.count)

pub put_entries-put-requires-clause-room : goal.put_entries-put-requires-clause-room
put_entries-put-requires-clause-room c =
    let (x, ok, room) = c.requires.room in
    let r = c.args.machine.now.rules in
    let same : length (told r).ancestors.states ≡ ancestors x = ap (λ (t : RulesView). length t.ancestors.states) ok.machine.parts.are_rules.told in
    let count : move_count (told r) ≡ moves x = ap move_count ok.machine.parts.are_rules.told in
    (λ i. same i * count i) ∙ sym (c.put_looks.ensures.beside.entries ∙ room.entries)

pub put_looks-requires-clause-letter : goal.put_looks-requires-clause-letter
put_looks-requires-clause-letter c = let (x, ok) = c.requires.grounds in (x, ok.machine.parts.are_rules, ok.node.letter)

pub put_looks-requires-clause-few : goal.put_looks-requires-clause-few
put_looks-requires-clause-few c = c.requires.few

pub put_entries-put-requires-clause-grounds : goal.put_entries-put-requires-clause-grounds
put_entries-put-requires-clause-grounds c = c.requires.grounds

pub returns-clause-beside : goal.returns-clause-beside
returns-clause-beside c = beside_then c.args.out.now c.put_looks.new.out c.put_entries-put.new.out c.put_looks.ensures.beside c.put_entries-put.ensures.beside

pub returns-clause-others : goal.returns-clause-others
returns-clause-others c = λ k low.
    let same = c.put_looks.ensures.beside.flags in
    c.put_entries-put.ensures.others k (inl (omega (arith, low, same))) ∙ c.put_looks.ensures.others k (omega (arith, low))

pub returns-clause-work : goal.returns-clause-work
returns-clause-work c = c.put_entries-put.ensures.work

pub returns-clause-held : goal.returns-clause-held
returns-clause-held c = c.put_entries-put.ensures.held

pub returns-clause-partly : goal.returns-clause-partly
returns-clause-partly c = c.put_entries-put.ensures.partly

pub returns-clause-sets : goal.returns-clause-sets
returns-clause-sets c = c.len-held.ensures.matrices

pub returns-clause-grows : goal.returns-clause-grows
returns-clause-grows c = on_ok_map c.put_entries-put.result _ _ (λ comes.
    let (x, ok) = c.requires.grounds in
    let old = c.args.outputs.now in
    let new = c.put_entries-put.new.outputs in
    let us = c.put_entries-put.new.out.numbers.items in
    let beside = c.put_looks.ensures.beside in
    subst (λ n. Grows old new (output_at c.args.out.now.flags us) n) beside.entries (subst (λ f. Grows old new (output_at f us) c.put_looks.new.out.entries) beside.flags (comes x ok).grows)) c.put_entries-put.ensures.comes

pub returns-clause-refusals : goal.returns-clause-refusals
returns-clause-refusals c = c.put_entries-put.ensures.refusals
