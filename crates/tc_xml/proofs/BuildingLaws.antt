-- What is built piece by piece.
use Rattle.std.proofs.Common.{◌≡◌, ℕ, List, [], ◌∷◌, ◌++◌, refl, ap, ◌∙◌, sym, map, Bor, take, drop, append_assoc, append-nil, take-append-drop, length, slice_get, Some, arith, ◌-◌, length-drop}
use Rattle.std.proofs.lemmas.List.{take_all}
use Rattle.tc_model.specs.Events.{Event, characters, end, Takes, nothing, event, events}
use Rattle.tc_model.specs.Trees.{Trees, none, text, element, beside}
use Rattle.tc_model.specs.Views.{name, before, trees}
use Rattle.tc_model.specs.declared.tree.Name.{Name}
use Rattle.tc_model.specs.declared.tree.Node.{Node, Elem, Text}
use Rattle.tc_model.proofs.NormalForm.{beside_none, beside_assoc}
use Rattle.tc_model.proofs.Views.{before_elem, before_text, before_beside}
use Rattle.tc_xml.specs.Building.{Level, Building, one_level, after_event, after_part, after_parts, building_of, building}
use Rattle.tc_xml.specs.declared.building.Part.{Part}
use Rattle.tc_xml.specs.declared.building.Part.TheVariants.{Done, Open}
use Rattle.tc_xml.specs.declared.building.TreeBuilder.{TreeBuilder}

at : List Level → Trees → Building
at levels h = record { levels = levels; now = h }

after_both : (b : Building) (ps qs : List Part) → after_parts b (ps ++ qs) ≡ after_parts (after_parts b ps) qs
after_both b [] qs = refl
after_both b (p ∷ ps) qs = after_both (after_part b p) ps qs

pub part_more : (old new : List Part) (p : Part) → new ≡ old ++ p ∷ [] → building_of new ≡ after_part (building_of old) p
part_more old new p e = ap building_of e ∙ after_both (one_level none) old (p ∷ [])

after_done : (b : Building) (ns : List Node) → after_parts b (map Done ns) ≡ record { levels = b.levels; now = beside b.now (trees ns) }
after_done b [] = ap (λ h. record { levels = b.levels; now = h }) (sym (beside_none b.now))
after_done b (n ∷ ns) =
    after_done (record { levels = b.levels; now = beside b.now (before n none) }) ns
    ∙ ap (λ h. record { levels = b.levels; now = h }) (beside_assoc b.now (before n none) (trees ns) ∙ ap (beside b.now) (before_beside n none (trees ns)))

pub text_more : (old new : List Part) (s : Bor (List ℕ)) → new ≡ old ++ Done (Text s) ∷ [] → building_of new ≡ after_event (building_of old) (characters s.now)
text_more old new s e =
    part_more old new (Done (Text s)) e ∙ ap (λ h. record { levels = (building_of old).levels; now = beside (building_of old).now h }) (before_text s none)

pub level_closed : (old cut mid new : List Part) (from : ℕ) (n : Name) (kids : Bor (List Node)) → drop from old ≡ map Done kids.now → cut ≡ take from old → cut ≡ mid ++ Open n ∷ []
    → new ≡ mid ++ Done (Elem n kids) ∷ [] → building_of new ≡ after_event (building_of old) end
level_closed old cut mid new from n kids behind front is e =
    part_more mid new (Done (Elem n kids)) e
    ∙ (ap (λ h. record { levels = (building_of mid).levels; now = beside (building_of mid).now h }) (before_elem n kids none)
    ∙ sym (ap (λ b. after_event b end) whole))
  where
    level : Level
    level = record { name = name n; outer = (building_of mid).now }

    parts : old ≡ (mid ++ Open n ∷ []) ++ map Done kids.now
    parts = sym (take-append-drop from old) ∙ (ap (λ w. w ++ drop from old) (sym front ∙ is) ∙ ap (λ w. (mid ++ Open n ∷ []) ++ w) behind)

    whole : building_of old ≡ record { levels = level ∷ (building_of mid).levels; now = trees kids.now }
    whole =
        ap building_of parts
        ∙ (after_both (one_level none) (mid ++ Open n ∷ []) (map Done kids.now)
        ∙ (ap (λ b. after_parts b (map Done kids.now)) (after_both (one_level none) mid (Open n ∷ []))
        ∙ after_done (record { levels = level ∷ (building_of mid).levels; now = none }) kids.now))

abbrev after_events : Building → List Event → Building
after_events b [] = b
after_events b (e ∷ es) = after_events (after_event b e) es

all_taken : {a b : TreeBuilder} {es : List Event} → Takes (λ old e new. building new ≡ after_event (building old) e) a es b → building b ≡ after_events (building a) es
all_taken nothing = refl
all_taken (event {e = e} {es = es} o h) = all_taken h ∙ ap (λ b. after_events b es) o

all_events : (levels : List Level) (so_far h : Trees) (fs : List Event) → after_events (record { levels = levels; now = so_far }) (events h ++ fs) ≡ after_events (record { levels = levels; now = beside so_far h }) fs
all_events levels so_far none fs = ap (λ w. after_events (record { levels = levels; now = w }) fs) (sym (beside_none so_far))
all_events levels so_far (text s rest) fs =
    all_events levels (beside so_far (text s none)) rest fs ∙ ap (λ w. after_events (record { levels = levels; now = w }) fs) (beside_assoc so_far (text s none) rest)
all_events levels so_far (element n kids rest) fs =
    let level : Level = record { name = n; outer = so_far } in
    ap (after_events (record { levels = level ∷ levels; now = none })) (append_assoc (events kids) (end ∷ events rest) fs)
    ∙ (all_events (level ∷ levels) none kids (end ∷ (events rest ++ fs))
    ∙ (all_events levels (beside so_far (element n kids none)) rest fs
    ∙ ap (λ w. after_events (record { levels = levels; now = w }) fs) (beside_assoc so_far (element n kids none) rest)))

pub built : {old new : TreeBuilder} (h : Trees) (node : Node) → building old ≡ one_level none → Takes (λ old e new. building new ≡ after_event (building old) e) old (events h) new
    → building new ≡ one_level (before node none) → before node none ≡ h
built {old} {new} h node begun takes is =
    let all : after_events (building old) (events h) ≡ one_level h =
    ap (λ b. after_events b (events h)) begun ∙ (ap (after_events (one_level none)) (sym (append-nil (events h))) ∙ all_events [] none h []) in
    ap (λ (b : Building). b.now) (sym is ∙ (all_taken takes ∙ all))

pub one_part : (parts : List Part) (node : Node) → length parts ≡ 1 → Some (Done node) ≡ slice_get parts 0 → building_of parts ≡ one_level (before node none)
one_part [] node e f = absurd (omega (arith, e))
one_part (p ∷ []) node e f = ap (λ q. building_of (q ∷ [])) (same f)
  where
    same : {p q : Part} → Some q ≡ Some p → p ≡ q
    same g = cc
one_part (p ∷ q ∷ parts) node e f = absurd (omega (arith, e))

pub tail_is : (parts : List Part) (from : ℕ) {tail : List Part} → take (length parts - from) (drop from parts) ≡ tail → drop from parts ≡ tail
tail_is parts from e = sym (take_all (length parts - from) (drop from parts) (omega (arith, length-drop from parts))) ∙ e
