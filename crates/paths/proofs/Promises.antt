-- Demand 3, as theorems about what the walk collects for any word of UTF-8 and any replies. Assumes nothing.
use Prim.Native.Nat.{ℕ, ◌≤◌}
use mathlib.Core.Path.{◌≡◌, refl, sym, ap, ap₂, subst, ◌∙◌}
use mathlib.Core.Bool.{true}
use mathlib.Core.Logic.{◌↔◌}
use native.Mathlib.Omega.{arith}
use mathlib.Core.List.{List, [], ◌∷◌, map, reverse, Memᴰ, ◌++◌, append_assoc}
use lib.ListN.{length}
use Rattle.text.specs.Utf8.{is_utf8}
use Rattle.text.specs.Characters.{chars}
use Rattle.sheet.specs.Replies.{Ask, reply, Alike}
use Rattle.ranking.specs.Lists.{Rows, rows, over, plus_all}
use Rattle.ranking.specs.Rank.{stem_text, root_text}
use Rattle.ranking.specs.Stored.{no_segment}
use Rattle.ranking.specs.declared.Reading.{Reading}
use Rattle.ranking.specs.declared.Classified.{Classified}
use Rattle.ranking.specs.Lists.{with_origin}
use Rattle.origin.specs.Decisions.{decision_of}
use Rattle.origin.specs.declared.OriginDecision.{OriginDecision}
use Rattle.paths.specs.Chains.{all_rows, most_strips, Strip, text_of, Suffixed, Route, PathOf}
use Rattle.paths.specs.Readings.{parts_of, IsReading, segment_of, filled, reading_of, row_of, classified}
use Rattle.paths.specs.Rank.{ranked_before}
use Rattle.paths.specs.Counted.{Pairwise, Distinct, AtLeast}
use Rattle.paths.specs.Questions.{Own}
use Rattle.paths.specs.Walk.{word_walk}
use Rattle.paths.proofs.Stated.{row_paths, rows-given, row_path, rows-ranked, rows-once, stem_is, root_is}
use Rattle.paths.specs.Recomposed.{in_row, prefix_forms, suffix_texts, surface_text, Recomposed, All}
use Rattle.paths.proofs.Joins.{path_joins}
use Rattle.paths.proofs.Unique.{strips_unique}
use Rattle.paths.proofs.Over as counted
use Rattle.paths.proofs.Score.{path_score}
use Rattle.paths.proofs.Alike as questions
use Rattle.paths.specs.Visits.{visits_of}
use Rattle.paths.proofs.Few.{visits_few}
use Rattle.paths.proofs.Revisited.{visits_alike}
use Rattle.paths.proofs.Origins.{decision_same}

-- what the walk collects for the word w
abbrev pub collected : Ask → List ℕ → Rows
collected ask w = plus_all w (rows []) (word_walk ask (chars w) w)

-- the rows of a list: every path of the word and nothing besides, no reading twice, each before all later ones by rank, each with its
-- segments, which carry the marks of its path, plain or shared, its stem and root as the parts of the word that they are, its score,
-- which is at most 612, and its root's origin with source and confidence, as the same replies decide them of the root alone
pub record Listed (ask : Ask) (w : List ℕ) (rs : List Classified) : Type 0 where
  pub paths : List Route
  pub each : (p : Route) → Memᴰ p paths ↔ PathOf ask w p
  pub once : Distinct (map parts_of paths)
  pub ranked : Pairwise (λ p q. ranked_before ask w p q ≡ true) paths
  pub rows_are : map (row_of ask w) paths ≡ rs
  pub texts : (p : Route) → Memᴰ p paths → (stem_text w (reading_of ask w p) ≡ p.stem) × (root_text w (reading_of ask w p) ≡ p.root)
  pub scores : length w ≤ 192 → (p : Route) → Memᴰ p paths → (reading_of ask w p).score ≤ 612

-- a reading of a path is handed out with what is decided of the path's root
row_handed : (ask : Ask) (w : List ℕ) (p : Route) → PathOf ask w p → row_of ask w p ≡ classified ask w (reading_of ask w p)
unfolding row_of classified
row_handed ask w p a = ap (λ (root : List ℕ). with_origin (reading_of ask w p) (decision_of ask root)) (sym (root_is ask w p a))

rows_handed : (ask : Ask) (w : List ℕ) (ps : List Route) → ((p : Route) → Memᴰ p ps → PathOf ask w p)
    → map (row_of ask w) ps ≡ map (classified ask w) (map (reading_of ask w) ps)
rows_handed ask w [] h = refl
rows_handed ask w (p ∷ ps) h =
    ap₂ (λ (r : Classified) (rs : List Classified). r ∷ rs) (row_handed ask w p (h p (Memᴰ.head refl))) (rows_handed ask w ps (λ q m. h q (Memᴰ.tail m)))

module _ (ask : Ask) (w : List ℕ) where
  -- too many just where more than 64 readings exist
  pub over_exactly : (collected ask w ≡ over) ↔ AtLeast 65 (IsReading ask w)
  over_exactly = counted.over_means ask w

  -- otherwise all of them
  pub listed : is_utf8 w ≡ true → (AtLeast 65 (IsReading ask w) → ⊥)
      → (rs : List Reading) × (collected ask w ≡ rows rs) × Listed ask w (map (classified ask w) rs)
  listed u few = (
    map (reading_of ask w) (row_paths ask w),
    counted.listed_means ask w few ∙ ap rows (sym (rows-given ask w)),
    record {
      paths = row_paths ask w;
      each = row_path ask w;
      once = rows-once ask w u;
      ranked = rows-ranked ask w u;
      rows_are = rows_handed ask w (row_paths ask w) (λ p m. (row_path ask w p).0 m);
      texts = λ p m. let a = (row_path ask w p).0 m in (stem_is ask w p a, root_is ask w p a);
      scores = λ h p m. path_score ask w p h ((row_path ask w p).0 m);
    },
  )

-- the marks of a reading are those of its one path, which is its earliest: no two chains of plain and shared strips with the same
-- labels lead from a word to the same stem
pub marks_once : (ask : Ask) (w stem : List ℕ) (xs ys : List Strip) → Suffixed ask all_rows w xs stem → Suffixed ask all_rows w ys stem
    → map text_of xs ≡ map text_of ys → xs ≡ ys
marks_once ask w stem xs ys = strips_unique ask all_rows (omega arith) w xs ys stem

-- and the segments of a listed reading carry them, nearest the stem first, behind them blank ones
pub marked_segments : (ask : Ask) (w : List ℕ) (p : Route) → (reading_of ask w p).segments ≡ filled most_strips no_segment (reverse (map (segment_of ask) p.strips))
unfolding reading_of
marked_segments ask w p = refl

paths_recomposed : (ask : Ask) (w : List ℕ) (ps : List Route)
    → ((p : Route) → Memᴰ p ps → (stem_text w (reading_of ask w p) ≡ p.stem) × (root_text w (reading_of ask w p) ≡ p.root))
    → ((p : Route) → Memᴰ p ps → PathOf ask w p) → All (λ (r : Classified). Recomposed w r.reading) (map (row_of ask w) ps)
unfolding row_of
paths_recomposed ask w [] t h = tt
paths_recomposed ask w (p ∷ ps) t h =
    let m = Memᴰ.head refl in
    (path_joins ask w p (h p m) (t p m).0 (t p m).1, paths_recomposed ask w ps (λ q k. t q (Memᴰ.tail k)) (λ q k. h q (Memᴰ.tail k)))

-- every listed reading puts the word back together: the forms of its prefixes and its root are the stem, the stem and its suffixes, a
-- shared letter written once, the word
pub recomposed : (ask : Ask) (w : List ℕ) (rs : List Classified) → Listed ask w rs → All (λ (r : Classified). Recomposed w r.reading) rs
recomposed ask w rs l = subst (All (λ (r : Classified). Recomposed w r.reading)) l.rows_are (paths_recomposed ask w l.paths l.texts (λ p m. (l.each p).0 m))

-- so what a printer joins from a listed reading is the word
pub joined : (w : List ℕ) (r : Reading) → Recomposed w r → surface_text w r ≡ w
unfolding surface_text
joined w r c =
    sym (append_assoc (in_row (prefix_forms r)) (root_text w r) (in_row (suffix_texts r)))
    ∙ ap (λ (x : List ℕ). x ++ in_row (suffix_texts r)) c.stem-joined
    ∙ c.word-joined

-- replies that agree on the word's own questions decide alike of every root
rows_same : (ask ask' : Ask) (w : List ℕ) → is_utf8 w ≡ true → ((letter : ℕ) (name : List ℕ) → Own ask w letter name → ask letter name ≡ ask' letter name)
    → (ps : List Route) → ((p : Route) → Memᴰ p ps → PathOf ask w p)
    → map (classified ask w) (map (reading_of ask w) ps) ≡ map (classified ask' w) (map (reading_of ask w) ps)
unfolding classified
rows_same ask ask' w u agree [] h = refl
rows_same ask ask' w u agree (p ∷ ps) h =
    let a = h p (Memᴰ.head refl) in
    ap₂ (λ (d : OriginDecision) (rs : List Classified). with_origin (reading_of ask w p) d ∷ rs)
    (ap (decision_of ask) (root_is ask w p a) ∙ decision_same w ask ask' u agree p a ∙ ap (decision_of ask') (sym (root_is ask w p a)))
    (rows_same ask ask' w u agree ps (λ q m. h q (Memᴰ.tail m)))

abbrev listed_in : Rows → List Reading
listed_in (rows rs) = rs
listed_in over = []

abbrev is_over : Rows → ℕ
is_over (rows rs) = 0
is_over over = 1

-- two sheets alike in their replies to the word's own questions: the same readings
pub same_answer : (s t w : List ℕ) → is_utf8 w ≡ true → ((letter : ℕ) (name : List ℕ) → Own (reply s) w letter name → Alike s t letter name)
    → collected (reply s) w ≡ collected (reply t) w
same_answer s t w u h = ap (plus_all w (rows [])) (questions.sheets_alike s t w u h (chars w))

-- the number of pieces visited never passes 5,000, whatever is replied: it is at most 3,712
pub few_visits : (ask : Ask) (w : List ℕ) → visits_of ask w ≤ 5000
few_visits ask w = let h = visits_few ask w in omega arith

-- the empty word is not entered
pub nothing_visited : (ask : Ask) → visits_of ask [] ≡ 0
unfolding visits_of
nothing_visited ask = refl

-- and two sheets alike in their replies to the word's own questions give the same number
pub same_visits : (s t w : List ℕ) → is_utf8 w ≡ true → ((letter : ℕ) (name : List ℕ) → Own (reply s) w letter name → Alike s t letter name)
    → visits_of (reply s) w ≡ visits_of (reply t) w
same_visits s t w u h = visits_alike s t w u h

-- and of each the same origin, source and confidence
pub same_origins : (s t w : List ℕ) → is_utf8 w ≡ true → ((letter : ℕ) (name : List ℕ) → Own (reply s) w letter name → Alike s t letter name)
    → (rs : List Reading) → collected (reply s) w ≡ rows rs → map (classified (reply s) w) rs ≡ map (classified (reply t) w) rs
unfolding Alike
same_origins s t w u h rs e =
    let few : AtLeast 65 (IsReading (reply s) w) → ⊥ = λ m. not-over (ap is_over (sym e ∙ (over_exactly (reply s) w).1 m)) in
    let q : rs ≡ map (reading_of (reply s) w) (row_paths (reply s) w) = ap listed_in (sym e ∙ counted.listed_means (reply s) w few ∙ ap rows (sym (rows-given (reply s) w))) in
    subst (λ (x : List Reading). map (classified (reply s) w) x ≡ map (classified (reply t) w) x) (sym q)
    (rows_same (reply s) (reply t) w u h (row_paths (reply s) w) (λ p m. (row_path (reply s) w p).0 m))
  where
    not-over : ◌≡◌ {A = ℕ} 0 1 → ⊥
    not-over z = absurd (omega arith)
