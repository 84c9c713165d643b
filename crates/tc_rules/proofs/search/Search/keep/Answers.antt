use Rattle.std.proofs.Common.{◌<◌, ◌≤◌, ◌^◌, ◌∙◌, ap, sym, length, slice_get, arith}
use Rattle.std.proofs.lemmas.List.{length-map}
use Rattle.std.proofs.lemmas.Option.{slice_get_within}
use Rattle.tc_rules.specs.Rows.{words, all_words}
use Rattle.tc_rules.proofs.Searching.{put_none, put_one}
use Rattle.tc_rules.proofs.search.Search.keep.Goals as goal

pub returns-then-not-includes-clause-done : goal.returns-then-not-includes-clause-done
returns-then-not-includes-clause-done c =
    let none = sym c.if-not-includes.ensures in
    (record { put = put_none c.args.self.now.counts (all_words c.args.states.now.keys) (words c.args.row) none; few = c.requires.few }, none)

pub returns-clause-done : goal.returns-clause-done
returns-clause-done c =
    let new = all_words c.insert_row.new.rows.keys in
    let included = sym c.if-not-includes.ensures in
    let few : length new ≤ c.args.self.now.most = omega (arith, c.if-len-self.false, c.len.ensures.len, length-map c.insert_row.new.rows.keys words) in
    let place = c.in_ok-number.ensures.place in
    let small : c.in_ok-number.number < 2 ^ 32 = omega (arith, slice_get_within new c.in_ok-number.number (words c.args.row) place, few, c.requires.most) in
    (record { put = put_one c.args.self.now.counts (all_words c.args.states.now.keys) new (words c.args.row) included c.in_ok-number.ensures.keys; few = few }, (included, ap (slice_get new) (c.as_u32.ensures small) ∙ place))
