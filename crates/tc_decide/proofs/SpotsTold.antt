-- What is told of all spots of a stylesheet, one after the other.
use Rattle.std.proofs.Common.{◌≡◌, ◌⊎◌, inl, inr, ◌<◌, ◌≤◌, ◌+◌, ◌-◌, ◌∙◌, refl, sym, ap, subst, ℕ, zero, suc, List, [], ◌∷◌, ◌++◌, append_assoc, append-nil, length, map, take, drop, get_or, All, Contains, Ok, Err, IfOk, arith}
use Rattle.std.proofs.lemmas.List.{drop_more, drop_all, take_all, length-drop, get_or-map}
use Rattle.std.proofs.lemmas.List.Elements.{All-push, All-take, All-drop, Contains-append_left}
use Rattle.tc_dead.specs.Instantiated.{IsDead}
use Rattle.tc_dead.specs.Marked.{marked_at, plain_schema}
use Rattle.tc_dead.specs.Spots.{Spot, spots_of}
use Rattle.tc_dead.specs.Tells.{Tells}
use Rattle.tc_dead.specs.Views.{seen}
use Rattle.tc_dead.specs.declared.spots.Spot.{Spot as ArenaSpot}
use Rattle.tc_decide.specs.DeadSpots.{Answer, TellsRefusalOfTwo, OnDead, IfUsed, Uses, TellsSpot, KeepsSpot, KeepSpots, OfEach, TellsSpots}
use Rattle.tc_decide.specs.DeadSpotsSeen.{IsMarkingOf, IsTelling, StopsTwo, IsTold, IsToldOf, StopsSpot, StopsSpots, IsFoundOfSpots, IsFoundOfTwo}
use Rattle.tc_decide.specs.Checking.{PassesTripleLimit}
use Rattle.tc_decide.specs.MachinesSeen.{IsReadOf, IsCauseBy}
use Rattle.tc_decide.specs.Texts.{Spells, IsRefused, IsSchemaOf}
use Rattle.tc_decide.specs.TextsSeen.{IsRefusalOf, of_limit}
use Rattle.tc_decide.specs.declared.machine.LimitFault.{LimitFault}
use Rattle.tc_decide.specs.declared.machine.LimitFault.TheVariants as limit
use Rattle.tc_decide.specs.declared.failure.Failure.{Failure}
use Rattle.tc_decide.specs.declared.failure.Failure.TheVariants.{Refused, Passes, NoMemory}
use Rattle.tc_decide.specs.declared.failure.Which.TheVariants as which
use Rattle.tc_decide.specs.declared.schemas.SchemaText.{SchemaText}
use Rattle.tc_decide.specs.declared.spots.Marking.{Marking}
use Rattle.tc_decide.specs.declared.spots.SpotTold.{SpotTold}
use Rattle.tc_decide.specs.declared.spots.Told.{Told}
use Rattle.tc_decide.specs.declared.spots.Told.TheVariants.{Dead, Used, UsedTooLarge}
use Rattle.tc_decide.proofs.SchemaTexts.{one_schema, no_schema, read_of}
use Rattle.tc_decide.proofs.Sheets.{no_sheet, one_sheet_of}
use Rattle.tc_decide.proofs.Stages.{joined, first_stop, not_all, same_stage}
use Rattle.tc_model.specs.Grammars.{Grammar}
use Rattle.tc_model.specs.Safety.{IsResultOf}
use Rattle.tc_model.specs.Sheets.{Sheet}
use Rattle.tc_model.specs.Trees.{Trees, none}
use Rattle.tc_model.specs.Views as see
use Rattle.tc_model.specs.WellFormed.{IsSheet}
use Rattle.tc_read.specs.Refusals.{IsRefusedSheet}
use Rattle.tc_read.specs.Sheets.{IsSheetOf}
use Rattle.tc_read.specs.declared.schemas.Schema.{Schema}

map_push : {X Y : Type 0} (f : X → Y) (xs : List X) (x : X) → map f (xs ++ x ∷ []) ≡ map f xs ++ f x ∷ []
map_push f [] x = refl
map_push f (y ∷ ys) x = ap (λ z. f y ∷ z) (map_push f ys x)

length_map : {X Y : Type 0} (f : X → Y) (xs : List X) → length (map f xs) ≡ length xs
length_map f [] = refl
length_map f (x ∷ xs) = ap suc (length_map f xs)

-- the spots that are told of
abbrev pub spots_told : List SpotTold → List Spot
spots_told ts = map (λ t. seen t.spot) ts

-- what is so of each that is told of, by its spot
each_spot : (P : Spot → Type 0) (ts : List SpotTold) → All (λ t. P (seen t.spot)) ts → (p : Spot) → Contains (spots_told ts) p → P p
each_spot P [] all p (k, l, e) = absurd (omega (arith, l))
each_spot P (t ∷ ts) all p (zero, l, e) = subst P e (all 0 t (omega arith))
each_spot P (t ∷ ts) all p (suc k, l, e) = each_spot P ts (λ j d h. all (suc j) d (omega (arith, h))) p (k, omega (arith, l), e)

-- a spot of several
pub spot_at : (spots : List ArenaSpot) (all : List Spot) (k : ℕ) (d : ArenaSpot) → map seen spots ≡ all → k < length spots → Contains all (seen (get_or spots k d))
spot_at spots all k d e h =
    subst (λ (z : List Spot). Contains z (seen (get_or spots k d))) e
    (k, omega (arith, h, length_map seen spots), get_or-map seen spots k d (seen (get_or spots k d)) h)

pub spots_later : (spots : List ArenaSpot) (all : List Spot) (n k : ℕ) → map seen spots ≡ all → All (λ p. Contains all (seen p)) (take n (drop k spots))
spots_later spots all n k e =
    All-take (λ (p : ArenaSpot). Contains all (seen p)) n (drop k spots) (All-drop (λ (p : ArenaSpot). Contains all (seen p)) k spots (λ j d h. spot_at spots all j d e h))

-- what is so of each spot of an arena
each_seen : (P : Spot → Type 0) (xs : List ArenaSpot) → All (λ x. P (seen x)) xs → (p : Spot) → Contains (map seen xs) p → P p
each_seen P [] all p (k, l, e) = absurd (omega (arith, l))
each_seen P (x ∷ xs) all p (zero, l, e) = subst P e (all 0 x (omega arith))
each_seen P (x ∷ xs) all p (suc k, l, e) = each_seen P xs (λ j d h. all (suc j) d (omega (arith, h))) p (k, omega (arith, l), e)

-- those that were looked at and those that come later are spots of the stylesheet, however they are parted
pub all_in : (whole ps qs rest : List Spot) (later : List ArenaSpot) → OfEach ps (Contains whole) → All (λ p. Contains whole (seen p)) later → qs ++ rest ≡ ps ++ map seen later → OfEach (qs ++ rest) (Contains whole)
all_in whole ps qs rest later inside all same =
    subst (λ (z : List Spot). OfEach z (Contains whole)) (sym same) (joined (Contains whole) ps (map seen later) inside (each_seen (Contains whole) later all))

pub rest_is : (spots : List ArenaSpot) (k : ℕ) → take (length spots - k) (drop k spots) ≡ drop k spots
rest_is spots k = take_all (length spots - k) (drop k spots) (omega (arith, length-drop k spots))

-- those that are looked at, and those that come later
pub later_more : (k : ℕ) (later : List ArenaSpot) (d : ArenaSpot) (qs whole : List Spot) → k < length later → qs ++ map seen (drop k later) ≡ whole
    → (qs ++ seen (get_or later k d) ∷ []) ++ map seen (drop (k + 1) later) ≡ whole
later_more k later d qs whole h e = append_assoc qs (seen (get_or later k d) ∷ []) (map seen (drop (k + 1) later)) ∙ (ap (λ z. qs ++ map seen z) (sym (drop_more later k d h)) ∙ e)

pub later_all : (k : ℕ) (later : List ArenaSpot) (qs whole : List Spot) → length later ≤ k → qs ++ map seen (drop k later) ≡ whole → qs ≡ whole
later_all k later qs whole h e = sym (append-nil qs) ∙ (ap (λ z. qs ++ map seen z) (sym (drop_all k later h)) ∙ e)

module _ (k : ℕ) (spots : List ArenaSpot) (old new : List SpotTold) (t : SpotTold) (d : ArenaSpot) where
  -- one more is told of
  pub told_more : k < length spots → new ≡ old ++ t ∷ [] → t.spot ≡ get_or spots k d → spots_told old ++ map seen (drop k spots) ≡ map seen spots
      → spots_told new ++ map seen (drop (k + 1) spots) ≡ map seen spots
  told_more h put same so_far =
      ap (λ z. spots_told z ++ map seen (drop (k + 1) spots)) put
      ∙ (ap (λ z. z ++ map seen (drop (k + 1) spots)) (map_push (λ (u : SpotTold). seen u.spot) old t)
      ∙ (append_assoc (spots_told old) (seen t.spot ∷ []) (map seen (drop (k + 1) spots))
      ∙ (ap (λ z. spots_told old ++ (seen z ∷ map seen (drop (k + 1) spots))) same
      ∙ (ap (λ z. spots_told old ++ map seen z) (sym (drop_more spots k d h)) ∙ so_far))))

-- all are
pub told_all : (k : ℕ) (spots : List ArenaSpot) (ts : List SpotTold) → length spots ≤ k → spots_told ts ++ map seen (drop k spots) ≡ map seen spots → spots_told ts ≡ map seen spots
told_all k spots ts h e = sym (append-nil (spots_told ts)) ∙ (ap (λ z. spots_told ts ++ map seen z) (sym (drop_all k spots h)) ∙ e)

module _ (i : Grammar) (s : Sheet) where
  abbrev pub AreTold : List SpotTold → Type 0
  AreTold ts = All (λ t. IsToldOf i s (seen t.spot) t.told) ts

  pub told_push : (old new : List SpotTold) (t : SpotTold) → new ≡ old ++ t ∷ [] → AreTold old → IsToldOf i s (seen t.spot) t.told → AreTold new
  told_push old new t put all this = subst AreTold (sym put) (All-push (λ (u : SpotTold). IsToldOf i s (seen u.spot) u.told) old t all this)

  pub told_end : (k : ℕ) (spots : List ArenaSpot) (ts put : List SpotTold) → length spots ≤ k → map seen spots ≡ spots_of s → spots_told ts ++ map seen (drop k spots) ≡ map seen spots → AreTold ts → put ≡ ts
      → (spots_told put ≡ spots_of s) × AreTold put
  told_end k spots ts put h all so_far told is = (ap spots_told is ∙ (told_all k spots ts h so_far ∙ all), subst AreTold (sym is) told)

  -- they keep all limits
  pub all_kept : (ts : List SpotTold) → AreTold ts → KeepSpots i s (spots_told ts)
  all_kept ts all = each_spot (KeepsSpot i s) ts (λ k d h. (all k d h).keeps)

  -- the next one passes one, and then those after it are looked at
  pub stopped_at : (k : ℕ) (spots rest : List ArenaSpot) (ts : List SpotTold) (d : ArenaSpot) (e last : Failure) → k < length spots → rest ≡ drop (k + 1) spots → map seen spots ≡ spots_of s
      → spots_told ts ++ map seen (drop k spots) ≡ map seen spots → AreTold ts → StopsSpot i s (seen (get_or spots k d)) e
      → ((ps : List Spot) → OfEach ps (Contains (spots_of s)) → StopsSpots i s ps e → StopsSpots i s (ps ++ map seen rest) last) → StopsSpots i s (spots_of s) last
  stopped_at k spots rest ts d e last h is all so_far told stops later =
      let p : Spot = seen (get_or spots k d) in
      let same : (spots_told ts ++ p ∷ []) ++ map seen rest ≡ spots_of s =
      ap (λ z. (spots_told ts ++ p ∷ []) ++ map seen z) is ∙ (later_more k spots d (spots_told ts) (map seen spots) h so_far ∙ all) in
      let inside : OfEach (spots_told ts ++ p ∷ []) (Contains (spots_of s)) =
      λ q c. subst (λ (z : List Spot). Contains z q) same (Contains-append_left (spots_told ts ++ p ∷ []) (map seen rest) q c) in
      subst (λ (z : List Spot). StopsSpots i s z last) same (later (spots_told ts ++ p ∷ []) inside (first_stop i s (spots_told ts) p e (all_kept ts told) stops))

  -- what is told of each is what it says

  tells_spot : (p : Spot) (told : Told) → IsTold i s p told → TellsSpot i s p told
  tells_spot p Dead h = record {
    dead = (λ _. h, λ _. tt);
    used = (λ e. absurd e, λ (d, u, few). absurd (h d u.0 u.1));
    least = tt;
    large = (λ e. absurd e, λ l. absurd (h l.some.0 l.some.1.0 l.some.1.1));
  }
  tells_spot p (Used document) l =
      let d : Trees = see.before document none in
      record {
        dead = (λ e. absurd e, λ h. absurd (h d l.uses.0 l.uses.1));
        used = (λ _. (d, l.uses, l.few), λ _. tt);
        least = l;
        large = (λ e. absurd e, λ g. let far = g.large d l.uses in omega (arith, l.few, far));
      }
  tells_spot p UsedTooLarge g = record {
    dead = (λ e. absurd e, λ h. absurd (h g.some.0 g.some.1.0 g.some.1.1));
    used = (λ e. absurd e, λ (d, u, few). let far = g.large d u in omega (arith, few, far));
    least = tt;
    large = (λ _. g, λ _. tt);
  }

  on_dead : (p : Spot) (told : Told) → IsTold i s p told → OnDead told (IsDead i s p)
  on_dead p Dead h = h
  on_dead p (Used document) h = tt
  on_dead p UsedTooLarge h = tt

  if_used : (p : Spot) (told : Told) → IsTold i s p told → IfUsed told (Uses i s p)
  if_used p Dead h = tt
  if_used p (Used document) h = h.uses
  if_used p UsedTooLarge h = h.some

  pub unused : (answer : Answer) → IsFoundOfSpots i s answer → IfOk answer (λ told. All (λ t. OnDead t.told (IsDead i s (seen t.spot))) told.now)
  unused (Ok told) f = λ k d h. on_dead _ _ (f.1 k d h).tells
  unused (Err failure) f = tt

  pub instantiated : (answer : Answer) → IsFoundOfSpots i s answer → IfOk answer (λ told. All (λ t. IfUsed t.told (Uses i s (seen t.spot))) told.now)
  instantiated (Ok told) f = λ k d h. if_used _ _ (f.1 k d h).tells
  instantiated (Err failure) f = tt

  pub decides : (answer : Answer) → IsFoundOfSpots i s answer → (answer ≡ Err NoMemory) ⊎ TellsSpots i s answer
  decides (Ok told) f =
      let kept : KeepSpots i s (spots_of s) = subst (KeepSpots i s) f.0 (all_kept told.now f.1) in
      inr (record {
        answered = (λ _. kept, λ _. tt);
        spots = f.0;
        each = λ k d h. tells_spot _ _ (f.1 k d h).tells;
        limit = (λ e. absurd e, λ (kind, number, p). absurd (not_all i s (spots_of s) kept p));
        passed = tt;
        first = tt;
      })
  decides (Err (Passes kind number)) f = inr (record {
    answered = (λ e. absurd e, λ kept. absurd (not_all i s (spots_of s) kept f));
    spots = tt;
    each = tt;
    limit = (λ _. (kind, number, f), λ _. tt);
    passed = f;
    first = λ other n p. same_stage i s (spots_of s) p f;
  })
  decides (Err (Refused which reason at)) f = absurd f
  decides (Err NoMemory) f = inl refl

-- the texts

module _ (input : SchemaText) (sheet : List ℕ) where
  -- whoever tells of spots has accepted the texts
  tells : (i : Grammar) (s : Sheet) (answer : Answer) → Spells input i → IsSheetOf sheet s → IsFoundOfSpots i s answer → TellsRefusalOfTwo input sheet answer
  tells i s (Ok told) a b f = record { input_spells = (i, a); sheet_spells = (s, b) }
  tells i s (Err (Refused which reason at)) a b f = absurd f
  tells i s (Err (Passes kind number)) a b f = record { input_spells = (i, a); sheet_spells = (s, b) }
  tells i s (Err NoMemory) a b f = tt

  found_at : (answer : Answer) {i j : Grammar} {s z : Sheet} → i ≡ j → s ≡ z → IsFoundOfSpots i s answer → IsFoundOfSpots j z answer
  found_at answer {i} {j} {s} {z} a b x = subst (λ (w : Sheet). IsFoundOfSpots j w answer) b (subst (λ (w : Grammar). IsFoundOfSpots w s answer) a x)

  pub found_of_texts : (m : Marking) (answer : Answer) → IsMarkingOf input sheet m → ((i : Grammar) → IsReadOf i m.input → IsFoundOfSpots i (see.sheet m.sheet) answer) → IsFoundOfTwo input sheet answer
  found_of_texts m answer is found =
      let (i, spells, read) = read_of (Spells input) m.input is.schema in
      record {
        refusal = tells i (see.sheet m.sheet) answer spells is.spells (found i read);
        found = λ j z a b. found_at answer (one_schema input i j spells a) (one_sheet_of is.spells b) (found i read);
      }

  pub stopped_texts : (e : Failure) → StopsTwo input sheet e → IsFoundOfTwo input sheet (Err e)
  stopped_texts (Passes kind number) h = absurd h
  stopped_texts (Refused which.Input reason at) h = record { refusal = h; found = λ i s a b. absurd (no_schema input i reason (see.place at) h a) }
  stopped_texts (Refused which.Output reason at) h = absurd h
  stopped_texts (Refused which.Document reason at) h = absurd h
  stopped_texts (Refused which.Sheet reason at) h = record { refusal = h; found = λ i s a b. absurd (no_sheet reason (see.place at) h.1 b) }
  stopped_texts NoMemory h = record { refusal = tt; found = λ i s a b. tt }

  pub refused_input : (e : Failure) → IsRefusalOf which.Input (IsRefused input) e → StopsTwo input sheet e
  refused_input (Refused found reason at) (same, r) = subst (λ w. StopsTwo input sheet (Refused w reason at)) (sym same) r
  refused_input (Passes kind number) r = absurd r
  refused_input NoMemory r = tt

  pub refused_sheet : (x : Schema) → IsSchemaOf input x → (e : Failure) → IsRefusalOf which.Sheet (IsRefusedSheet sheet) e → StopsTwo input sheet e
  refused_sheet x one (Refused found reason at) (same, r) =
      let (i, spells, read) = read_of (Spells input) x one in subst (λ w. StopsTwo input sheet (Refused w reason at)) (sym same) ((i, spells), r)
  refused_sheet x one (Passes kind number) r = absurd r
  refused_sheet x one NoMemory r = tt

-- a limit that is passed before rows are tried
pub stops_limit : (i : Grammar) (s : Sheet) (p : Spot) (e : LimitFault) → IsCauseBy (PassesTripleLimit i plain_schema (marked_at p s)) e → StopsSpot i s p (of_limit e)
stops_limit i s p (limit.Passes kind number) h = (h, tt)
stops_limit i s p limit.NoMemory h = tt

-- the stylesheet that was made
module _ (s m : Sheet) (p : Spot) (same : m ≡ marked_at p s) where
  pub telling_by : IsSheet m → ((d out : Trees) → IsResultOf m d out → Tells p s d out) → IsTelling s p
  telling_by is tells = record { sheet = subst IsSheet same is; tells = λ d out r. tells d out (subst (λ (z : Sheet). IsResultOf z d out) (sym same) r) }
