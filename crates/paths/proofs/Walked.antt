-- The walk of the specs gives the records of Routes' paths, in their order: `walk_is` for a piece behind any strips, `word_is` for a
-- word. Over cites it, and whoever proves the code against the walk. Assumes nothing.
use Prim.Native.Nat.{ℕ, zero, suc, ◌+◌}
use mathlib.Core.Path.{◌≡◌, refl, sym, ap, ap₂, ◌∙◌}
use mathlib.Core.Bool.{Bool, true, false}
use mathlib.Core.List.{List, [], ◌∷◌, ◌++◌, map, reverse, append-nil, reverse-append}
use lib.ListN.{length, length-append}
use lib.Seq.{append_snoc}
use Rattle.runs.specs.Runs.{pick}
use Rattle.text.specs.Characters.{chars}
use Rattle.strips.specs.Prefix.{prefix_remainder}
use Rattle.sheet.specs.Replies.{Ask}
use Rattle.progressive.specs.Progressive.{is_progressive}
use Rattle.ranking.specs.declared.Segment.{Segment}
use Rattle.ranking.specs.declared.Reading.{Reading}
use Rattle.paths.specs.Support.{is_supported}
use Rattle.paths.specs.Chains.{all_forms, Strip, left_by, all_rows, rows_after, form_of, Route}
use Rattle.paths.specs.Readings.{segment_of, filled, chain_of, reading_of}
use Rattle.ranking.specs.Stored.{no_segment}
use Rattle.paths.specs.Walk.{pushed_of, record_of, root_walk, on_left, over_forms, second_walk, stem_walk, strip_walk, row_walk, rows_walk, piece_walk, word_walk}
use Rattle.paths.specs.declared.Chain.{Chain}
use Rattle.paths.proofs.Routes.{over_rows, Front, behind, bare, fronts_at, fronts_from, stem_route, under, stripped, plainly, sharing, routes_at, routes_from, routes}

-- Laws of `map`.

module _ {A B : Type 0} (g : A → B) where
  pub map-append : (xs ys : List A) → map g (xs ++ ys) ≡ map g xs ++ map g ys
  map-append [] ys = refl
  map-append (x ∷ xs) ys = ap (λ (l : List B). g x ∷ l) (map-append xs ys)

  pub map-map : {C : Type 0} (h : C → A) (xs : List C) → map g (map h xs) ≡ map (λ c. g (h c)) xs
  map-map h [] = refl
  map-map h (x ∷ xs) = ap (λ (l : List B). g (h x) ∷ l) (map-map h xs)

  over_is : (F : ℕ → List B) (f : ℕ → List A) → ((k : ℕ) → F k ≡ map g (f k)) → (row n : ℕ) → over_rows F row n ≡ map g (over_rows f row n)
  unfolding over_rows
  over_is F f e row zero = refl
  over_is F f e row (suc n) = ap₂ (λ (a b : List B). a ++ b) (e row) (over_is F f e (suc row) n) ∙ sym (map-append (f row) (over_rows f (suc row) n))

  left_is : (F : List ℕ → List B) (f : List ℕ → List A) → ((x : List ℕ) → F x ≡ map g (f x)) → (l : List (List ℕ)) → on_left F l ≡ map g (on_left f l)
  left_is F f e [] = refl
  left_is F f e (x ∷ l) = e x

  pick_is : (b : Bool) (F : List B) (f : List A) → F ≡ map g f → pick b [] F ≡ map g (pick b [] f)
  pick_is true F f e = refl
  pick_is false F f e = e

  -- two parts, the second of which may be left out
  joined_is : (b : Bool) (S F : List B) (s f : List A) → S ≡ map g s → F ≡ map g f → S ++ pick b [] F ≡ map g (s ++ pick b [] f)
  joined_is b S F s f p q = ap₂ (λ (a b : List B). a ++ b) p (pick_is b F f q) ∙ sym (map-append s (pick b [] f))

-- The walk over prefixes.

module _ (ask : Ask) (surface : ℕ) (c : Chain) (stem : List ℕ) where
  forms-over : (f : ℕ → List ℕ → List Reading) (piece : List ℕ) (row n : ℕ)
      → over_forms f piece row n ≡ over_rows (λ row. on_left (f row) (prefix_remainder piece (form_of row))) row n
  unfolding over_forms over_rows
  forms-over f piece row zero = refl
  forms-over f piece row (suc n) = ap (λ (l : List Reading). on_left (f row) (prefix_remainder piece (form_of row)) ++ l) (forms-over f piece (suc row) n)

  abbrev told : List ℕ → Front → Reading
  told outer f = record_of ask surface c stem (outer ++ f.rows) f.root

  bare_is : (outer : List ℕ) (root : List ℕ) → root_walk ask surface c stem outer root ≡ map (told outer) (bare ask root)
  unfolding root_walk bare
  bare_is outer root = go (is_supported ask root)
    where
      go : (b : Bool) → pick b (record_of ask surface c stem outer root ∷ []) [] ≡ map (told outer) (pick b (record { rows = []; root = root } ∷ []) [])
      go true = rw (append-nil outer)
      go false = refl

  deeper_is : (outer : List ℕ) (depth : ℕ) (f : ℕ → List ℕ → List Reading)
      → ((row : ℕ) (left : List ℕ) → f row left ≡ map (λ (t : Front). told outer (behind row t)) (fronts_from depth ask left))
      → (piece : List ℕ)
      → root_walk ask surface c stem outer piece ++ pick (is_progressive ask piece) [] (over_forms f piece 0 all_forms)
      ≡ map (told outer) (fronts_from (suc depth) ask piece)
  unfolding fronts_from
  deeper_is outer depth f e piece =
      joined_is (told outer) (is_progressive ask piece) _ _ (bare ask piece) (over_rows (fronts_at (fronts_from depth ask) piece) 0 all_forms) (bare_is outer piece)
      (forms-over f piece 0 all_forms ∙ over_is (told outer) _ (fronts_at (fronts_from depth ask) piece) (λ row.
      left_is (λ (t : Front). told outer (behind row t)) (f row) (fronts_from depth ask) (e row) (prefix_remainder piece (form_of row))
      ∙ sym (map-map (told outer) (behind row) (on_left (fronts_from depth ask) (prefix_remainder piece (form_of row))))) 0 all_forms)

  stem_is : stem_walk ask surface c stem ≡ map (told []) (fronts_from 2 ask stem)
  unfolding stem_walk second_walk fronts_from
  stem_is = deeper_is [] 1 _ (λ row left. deeper_is (row ∷ []) 0 _ (λ second last. bare_is (row ∷ second ∷ []) last) left) stem

-- The walk over suffixes.

-- the record of a route that goes on after these strips
abbrev pub record_in : Ask → ℕ → List Strip → Route → Reading
record_in ask surface outer p = record_of ask surface (chain_of ask (outer ++ p.strips)) p.stem p.prefix_rows p.root

pushed_filled : (s : Segment) (ys : List Segment) (n : ℕ)
    → pushed_of (record { segments = filled 4 no_segment ys; count = n }) s ≡ record { segments = filled 4 no_segment (s ∷ ys); count = n + 1 }
pushed_filled s [] n = refl
pushed_filled s (a ∷ []) n = refl
pushed_filled s (a ∷ b ∷ []) n = refl
pushed_filled s (a ∷ b ∷ c ∷ ys) n = refl

pushed_is : (ask : Ask) (outer : List Strip) (x : Strip) → pushed_of (chain_of ask outer) (segment_of ask x) ≡ chain_of ask (outer ++ (x ∷ []))
pushed_is ask outer x =
    let e : segment_of ask x ∷ reverse (map (segment_of ask) outer) ≡ reverse (map (segment_of ask) (outer ++ (x ∷ []))) =
    sym (ap reverse (map-append (segment_of ask) outer (x ∷ [])) ∙ reverse-append (map (segment_of ask) outer) (segment_of ask x ∷ [])) in
    let n : length outer + 1 ≡ length (outer ++ (x ∷ [])) = sym (length-append outer (x ∷ [])) in
    pushed_filled (segment_of ask x) (reverse (map (segment_of ask) outer)) (length outer)
    ∙ (λ i. record { segments = filled 4 no_segment (e i); count = n i })

rows-over : (deeper : Chain → ℕ → List ℕ → List Reading) (ask : Ask) (c : Chain) (piece : List ℕ) (row n : ℕ)
    → rows_walk deeper ask c piece row n ≡ over_rows (row_walk deeper ask c piece) row n
unfolding rows_walk over_rows
rows-over deeper ask c piece row zero = refl
rows-over deeper ask c piece row (suc n) = ap (λ (l : List Reading). row_walk deeper ask c piece row ++ l) (rows-over deeper ask c piece (suc row) n)

module _ (ask : Ask) (surface : ℕ) where
  own_is : (outer : List Strip) (piece : List ℕ)
      → stem_walk ask surface (chain_of ask outer) piece ≡ map (record_in ask surface outer) (map (stem_route piece) (fronts_from 2 ask piece))
  own_is outer piece =
      stem_is ask surface (chain_of ask outer) piece
      ∙ ap (λ (o : List Strip). map (λ (f : Front). record_of ask surface (chain_of ask o) piece f.rows f.root) (fronts_from 2 ask piece))
      (sym (append-nil outer))
      ∙ sym (map-map (record_in ask surface outer) (stem_route piece) (fronts_from 2 ask piece))

  -- one strip, where what it leaves is walked as its routes say
  strip_is : (depth : ℕ) (outer : List Strip)
      → ((o : List Strip) (rows : ℕ) (left : List ℕ)
      → piece_walk depth ask surface (chain_of ask o) rows left ≡ map (record_in ask surface o) (routes_from depth ask rows left))
      → (piece : List ℕ) (x : Strip)
      → strip_walk (piece_walk depth ask surface) ask (chain_of ask outer) piece x
      ≡ map (record_in ask surface outer) (stripped (routes_from depth ask) piece x)
  strip_is depth outer e piece x =
      ap (λ (c : Chain). on_left (piece_walk depth ask surface c (rows_after x.row)) (left_by piece x)) (pushed_is ask outer x)
      ∙ left_is (λ (p : Route). record_in ask surface outer (under x p)) _ (routes_from depth ask (rows_after x.row))
      (λ left. e (outer ++ (x ∷ [])) (rows_after x.row) left
      ∙ ap (λ (g : Route → Reading). map g (routes_from depth ask (rows_after x.row) left))
      (λ i p. record_of ask surface (chain_of ask (append_snoc outer x p.strips i)) p.stem p.prefix_rows p.root))
      (left_by piece x)
      ∙ sym (map-map (record_in ask surface outer) (under x) (on_left (routes_from depth ask (rows_after x.row)) (left_by piece x)))

  -- the walk of a piece gives the records of its routes, in their order
  pub walk_is : (depth : ℕ) (outer : List Strip) (rows : ℕ) (piece : List ℕ)
      → piece_walk depth ask surface (chain_of ask outer) rows piece ≡ map (record_in ask surface outer) (routes_from depth ask rows piece)
  unfolding piece_walk routes_from
  walk_is zero outer rows piece = own_is outer piece
  walk_is (suc depth) outer rows piece =
      joined_is (record_in ask surface outer) (is_progressive ask piece) _ _ (map (stem_route piece) (fronts_from 2 ask piece))
      (over_rows (routes_at (routes_from depth ask) piece) 0 rows) (own_is outer piece)
      (rows-over (piece_walk depth ask surface) ask (chain_of ask outer) piece 0 rows
      ∙ over_is (record_in ask surface outer) _ (routes_at (routes_from depth ask) piece) (λ row.
      ap₂ (λ (a b : List Reading). a ++ b) (strip_is depth outer (walk_is depth) piece (plainly row)) (strip_is depth outer (walk_is depth) piece (sharing row))
      ∙ sym (map-append (record_in ask surface outer) (stripped (routes_from depth ask) piece (plainly row))
      (stripped (routes_from depth ask) piece (sharing row)))) 0 rows)

-- the readings of a word are those of its paths, in path order
pub word_is : (ask : Ask) (w : List ℕ) → word_walk ask (chars w) w ≡ map (reading_of ask w) (routes ask w)
unfolding reading_of
word_is ask w = walk_is ask (chars w) 4 [] all_rows w
