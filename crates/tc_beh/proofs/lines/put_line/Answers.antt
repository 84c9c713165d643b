use Rattle.std.proofs.Common.{◌≡◌, ◌∙◌, sym}
use Rattle.tc_beh.proofs.Lining.{line_together}
use Rattle.tc_beh.proofs.lines.put_line.Goals as goal

pub returns-clause-line : goal.returns-clause-line
returns-clause-line c =
    let old = c.args.out.now in
    let r = c.put_looks.new.out in
    let heads = c.set_heads.ensures.beside in
    let places = c.put_places.ensures.beside in
    let outs = c.put_outputs.ensures.beside in
    let looks = c.put_looks.ensures.beside in
    let flags2 : r.flags ≡ c.put_outputs.new.out.flags = looks.flags in
    let flags1 : r.flags ≡ c.put_places.new.out.flags = flags2 ∙ outs.flags in
    let flags0 : r.flags ≡ c.set_heads.new.self.flags = flags1 ∙ places.flags in
    let entries2 : r.entries ≡ c.put_outputs.new.out.entries = looks.entries in
    let entries1 : r.entries ≡ c.put_places.new.out.entries = entries2 ∙ outs.entries in
    (line_together c.args.first old r c.args.places.now c.args.outputs.now c.args.looks.now (flags0 ∙ heads.flags) (entries1 ∙ (places.entries ∙ heads.entries)) (looks.count ∙ (outs.count ∙ (places.count ∙ heads.count))) c.requires.fits
    c.args.is_text c.args.bears old.numbers.items c.set_heads.new.self.numbers.items c.put_places.new.out.numbers.items c.put_outputs.new.out.numbers.items c.set_heads.new.self.flags c.put_places.new.out.flags
    c.put_places.new.out.entries c.put_outputs.new.out.flags c.put_outputs.new.out.entries (sym flags0) (sym flags1) (sym entries1) (sym flags2) (sym entries2) c.set_heads.ensures.change c.put_places.ensures.others
    c.put_places.ensures.flags c.put_outputs.ensures.others c.put_outputs.ensures.outputs c.put_looks.ensures.others c.put_looks.ensures.looks).0

pub returns-clause-flags : goal.returns-clause-flags
returns-clause-flags c =
    let old = c.args.out.now in
    let r = c.put_looks.new.out in
    let heads = c.set_heads.ensures.beside in
    let places = c.put_places.ensures.beside in
    let outs = c.put_outputs.ensures.beside in
    let looks = c.put_looks.ensures.beside in
    let flags2 : r.flags ≡ c.put_outputs.new.out.flags = looks.flags in
    let flags1 : r.flags ≡ c.put_places.new.out.flags = flags2 ∙ outs.flags in
    let flags0 : r.flags ≡ c.set_heads.new.self.flags = flags1 ∙ places.flags in
    let entries2 : r.entries ≡ c.put_outputs.new.out.entries = looks.entries in
    let entries1 : r.entries ≡ c.put_places.new.out.entries = entries2 ∙ outs.entries in
    (line_together c.args.first old r c.args.places.now c.args.outputs.now c.args.looks.now (flags0 ∙ heads.flags) (entries1 ∙ (places.entries ∙ heads.entries)) (looks.count ∙ (outs.count ∙ (places.count ∙ heads.count))) c.requires.fits
    c.args.is_text c.args.bears old.numbers.items c.set_heads.new.self.numbers.items c.put_places.new.out.numbers.items c.put_outputs.new.out.numbers.items c.set_heads.new.self.flags c.put_places.new.out.flags
    c.put_places.new.out.entries c.put_outputs.new.out.flags c.put_outputs.new.out.entries (sym flags0) (sym flags1) (sym entries1) (sym flags2) (sym entries2) c.set_heads.ensures.change c.put_places.ensures.others
    c.put_places.ensures.flags c.put_outputs.ensures.others c.put_outputs.ensures.outputs c.put_looks.ensures.others c.put_looks.ensures.looks).1
