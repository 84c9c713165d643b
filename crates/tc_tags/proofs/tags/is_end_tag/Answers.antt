use Rattle.std.proofs.Common.{◌≡◌, ◌-◌, ◌∙◌, refl, sym, ap, take, length, arith, bytes_eq, codes}
use Rattle.std.specs.Cmp.Lexicographic.{bytes_decides}
use Rattle.std.proofs.lemmas.Bool.{true≢false}
use Rattle.tc_scan.specs.Views.{written_name}
use Rattle.tc_tags.proofs.FormLaws.{qname_within}
use Rattle.tc_tags.proofs.NameBytes.{which_end, other_end, no_end_mark, no_end_name}
use Rattle.tc_tags.proofs.tags.is_end_tag.Goals as goal

pub slice_bounds-found-count : goal.slice_bounds-found-count
slice_bounds-found-count c = omega (arith, qname_within c.in-Some-qname.ensures, ap length c.as_bytes.ensures.value)

pub returns-in_default : goal.returns-in_default
returns-in_default c = λ written w. no_end_mark c.args.tag.now c.in_default.ensures written

pub returns-in_default-qname : goal.returns-in_default-qname
returns-in_default-qname c = λ written w. no_end_name c.args.tag.now c.in-Some.start.now c.in-Some.ensures c.in_default-qname.ensures written

pub returns-then-eq : goal.returns-then-eq
returns-then-eq c = λ written w.
    let start = c.in-Some.start.now in
    let behind = c.in-Some-qname.behind.now in
    let count = length start - length behind in
    let name = c.args.name.now in
    let same : take count start ≡ name = (bytes_decides (take count start) name).0 (sym (c.if-eq.ensures ∙ ap (λ z. bytes_eq (take count z) name) c.as_bytes.ensures.value)) in
    let closes = c.eq-then-eq.ensures ∙ ap (λ z. bytes_eq z (codes ">")) c.after_white.ensures in
    which_end c.args.tag.now start behind (take count start) (written_name c.in-Some-qname.field-0-0) c.in-Some.ensures c.in-Some-qname.ensures refl c.eq-then-eq.result name closes same written w

pub returns-else-eq : goal.returns-else-eq
returns-else-eq c = λ written w.
    let start = c.in-Some.start.now in
    let behind = c.in-Some-qname.behind.now in
    let count = length start - length behind in
    let name = c.args.name.now in
    other_end c.args.tag.now start behind (take count start) (written_name c.in-Some-qname.field-0-0) c.in-Some.ensures c.in-Some-qname.ensures refl c.eq.result name c.if-eq.false
    (λ s. true≢false (sym ((bytes_decides (take count start) name).1 s) ∙ sym (c.if-eq.ensures ∙ ap (λ z. bytes_eq (take count z) name) c.as_bytes.ensures.value))) written w
