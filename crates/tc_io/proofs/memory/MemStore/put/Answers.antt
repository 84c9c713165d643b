use Rattle.std.proofs.Common.{◌≡◌, ◌<◌, Some, None, ap, ◌∙◌, refl, subst, string_bytes}
use Rattle.std.proofs.lemmas.Option.{get_or_from_slice_get, slice_get_within}
use Rattle.tc_io.specs.MemStore.{file_of}
use Rattle.tc_io.specs.HeldFile.{entries, IsPlace}
use Rattle.tc_io.specs.declared.memory.HeldFile.{HeldFile}
use Rattle.tc_io.proofs.Files.{replaced, others_stay, added, others_stay_beside}
use Rattle.tc_io.proofs.Fronts.{on_err, error_not_ok}
use Rattle.tc_io.proofs.HeldFacts.{store_is_seen}
use Rattle.tc_io.proofs.memory.MemStore.put.Goals as goal

pub returns-in-Some-clause-ok : goal.returns-in-Some-clause-ok
returns-in-Some-clause-ok c =
    let files = c.self.inside.files.items in
    let p : IsPlace files c.args.name.now c.in-Some.place = subst (λ x. IsPlace x c.args.name.now c.in-Some.place) c.as_slice.ensures.value c.in-Some.ensures.place in
    let new : HeldFile = record { name = c.index_mut.result.now.name; bytes = c.in_ok-copy.copy } in
    let same : string_bytes new.name ≡ string_bytes p.file.name =
    ap (λ file. string_bytes file.name) (c.index_mut.ensures.value ∙ get_or_from_slice_get files c.in-Some.place p.file c.index_mut.result.now p.at_place) in
    rw (← c.self.view_is) (record {
      put = replaced files c.args.name.now c.in-Some.place new p same ∙ ap Some c.in_ok-copy.ensures.items;
      others = others_stay files c.args.name.now c.in-Some.place new p same;
      calls = refl;
      failing = refl;
      faults = refl;
    })

pub returns-in_ok-push-in-None-clause-ok : goal.returns-in_ok-push-in-None-clause-ok
returns-in_ok-push-in-None-clause-ok c =
    let files = c.self.inside.files.items in
    let name = c.args.name.now in
    let none : file_of (entries files) name ≡ None = subst (λ x. file_of (entries x) name ≡ None) c.as_slice.ensures.value c.in-None.ensures.none in
    let new : HeldFile = record { name = c.in_ok-name-in-None.name; bytes = c.in_ok-copy.copy } in
    let same : string_bytes new.name ≡ name = c.in_ok-name-in-None.ensures.ok in
    rw (← c.self.view_is) (record {
      put = ap (λ x. file_of (entries x) name) c.in_ok-push-in-None.ensures.items ∙ (added files name new none same ∙ ap Some c.in_ok-copy.ensures.items);
      others = λ other differ. ap (λ x. file_of (entries x) other) c.in_ok-push-in-None.ensures.items ∙ others_stay_beside files name new same other differ;
      calls = refl;
      failing = refl;
      faults = refl;
    })

pub returns-in_err-copy-clause-ok : goal.returns-in_err-copy-clause-ok
returns-in_err-copy-clause-ok c = error_not_ok c.from_residual.result _ _ c.from_residual.ensures.1

pub returns-in_err-copy-clause-err : goal.returns-in_err-copy-clause-err
returns-in_err-copy-clause-err c = on_err c.from_residual.result refl

pub returns-in_err-name-in-None-clause-ok : goal.returns-in_err-name-in-None-clause-ok
returns-in_err-name-in-None-clause-ok c = error_not_ok c.from_residual-in_err-name-in-None.result _ _ c.from_residual-in_err-name-in-None.ensures.1

pub returns-in_err-name-in-None-clause-err : goal.returns-in_err-name-in-None-clause-err
returns-in_err-name-in-None-clause-err c = on_err c.from_residual-in_err-name-in-None.result refl

pub returns-in_err-push-in-None-clause-ok : goal.returns-in_err-push-in-None-clause-ok
returns-in_err-push-in-None-clause-ok c = error_not_ok c.from_residual-in_err-push-in-None.result _ _ c.from_residual-in_err-push-in-None.ensures.1

pub index_mut-requires : goal.index_mut-requires
index_mut-requires c = subst (λ n. c.in-Some.place < n) c.as_slice.ensures.len (slice_get_within c.as_slice.result.now c.in-Some.place c.in-Some.ensures.place.file c.in-Some.ensures.place.at_place)

pub returns-in_err-push-in-None-clause-err : goal.returns-in_err-push-in-None-clause-err
returns-in_err-push-in-None-clause-err c = on_err c.from_residual-in_err-push-in-None.result (store_is_seen c.self.view_is (ap (λ x. entries x) c.in_err-push-in-None.ensures.items))
