use Rattle.std.proofs.Common.{◌≡◌, ◌+◌, ◌<◌, ◌++◌, ◌∷◌, ◌∙◌, ℕ, Bor, List, [], ap, append_assoc, drop, get_or, length, map, refl, sym, ◌≤◌}
use Rattle.std.proofs.lemmas.List.{append-nil, drop_all, drop_more}
use Rattle.tc_model.specs.Sheets as s
use Rattle.tc_model.specs.Views as see
use Rattle.tc_model.specs.declared.sheet.Path.{Path}
use Rattle.tc_rules.specs.Views.{looks}
use Rattle.tc_rules.specs.declared.walk.Move.{Move}
use Rattle.tc_rules.proofs.RowSteps.{map_push}
use Rattle.tc_rules.proofs.rules.select_paths.Goals as goal

abbrev path_of : Move → s.Path
path_of m = see.path m.path.now

one_path : (all : List s.Path) (old now : List (Bor Path)) (xs : List Move) (i : ℕ) (d : Move) → i < length xs → now ≡ old ++ (get_or xs i d).path ∷ [] → looks old ++ map path_of (drop i xs) ≡ all → looks now ++ map path_of (drop (i + 1) xs) ≡ all
one_path all old now xs i d h put k =
    let rest = map path_of (drop (i + 1) xs) in
    let path = (get_or xs i d).path in
    ap (λ (w : List (Bor Path)). looks w ++ rest) put
    ∙ (ap (λ w. w ++ rest) (map_push (λ (p : Bor Path). see.path p.now) old path)
    ∙ (append_assoc (looks old) (see.path path.now ∷ []) rest ∙ (ap (λ (l : List Move). looks old ++ map path_of l) (sym (drop_more xs i d h)) ∙ k)))

all_paths : (found paths looked : List (Bor Path)) (xs : List Move) (i : ℕ) → length xs ≤ i → paths ≡ found ++ looked → looks found ++ map path_of (drop i xs) ≡ map path_of xs → looks paths ≡ map path_of xs ++ looks looked
all_paths found paths looked xs i h put k =
    ap looks put
    ∙ (map_append found looked
    ∙ ap (λ w. w ++ looks looked) (sym (append-nil (looks found)) ∙ (ap (λ (l : List Move). looks found ++ map path_of l) (sym (drop_all i xs h)) ∙ k)))
  where
    map_append : (a b : List (Bor Path)) → looks (a ++ b) ≡ looks a ++ looks b
    map_append [] b = refl
    map_append (x ∷ a) b = ap (λ w. see.path x.now ∷ w) (map_append a b)

pub loop-found-init : goal.loop-found-init
loop-found-init c = ap (λ (w : List (Bor Path)). looks w ++ map path_of c.args.moves.now) c.new-paths.ensures.items

pub loop-found-preserved : goal.loop-found-preserved
loop-found-preserved c = one_path (map path_of c.args.moves.now) c.loop-found.paths.items _ c.args.moves.now c.loop-found.found-index _ c.loop-found-test.true c.in_ok-push.ensures.items c.loop-found.invariant

pub returns : goal.returns
returns c = all_paths c.loop-found.paths.items _ c.args.looks.now c.args.moves.now c.loop-found.found-index c.loop-found-test.false c.in_ok-extend_from_slice.ensures.items c.loop-found.invariant
