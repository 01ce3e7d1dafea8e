-- Every route of Routes is a path: `sound`. With Complete: the walk finds the paths of the word and nothing else. Assumes nothing.
use Prim.Native.Nat.{ℕ, zero, suc, ◌≤◌, ◌<◌}
use native.Mathlib.Omega.{arith}
use mathlib.Core.Path.{◌≡◌, refl, sym, subst}
use mathlib.Core.Bool.{Bool, true, false}
use mathlib.Core.Logic.{⊎_elim}
use mathlib.Core.List.Memᴰ
use mathlib.Core.List.{List, [], ◌∷◌, map, Memᴰ}
use lib.ListN.{length}
use Rattle.runs.specs.Runs.{pick}
use Rattle.strips.specs.Prefix.{prefix_remainder}
use Rattle.sheet.specs.Replies.{Ask}
use Rattle.progressive.specs.Progressive.{is_progressive}
use Rattle.paths.specs.Support.{is_supported}
use Rattle.paths.specs.Chains.{all_forms, Strip, left_by, all_rows, rows_after, Suffixed, form_of, Prefixed, Route, PathOf}
use Rattle.paths.specs.Walk.{on_left}
use Rattle.paths.proofs.Routes.{over_rows, Front, behind, bare, fronts_at, fronts_from, stem_route, under, stripped, plainly, sharing, routes_at, routes_from, routes}
use Rattle.paths.proofs.Members.{of_map, of_pick, of_over, of_left, prefix_few, left-few}

-- at most `depth` prefix rows lead from the piece to a root that is supported
abbrev pub FrontOf : ℕ → Ask → List ℕ → Front → Type 0
FrontOf depth ask piece f = (length f.rows ≤ depth) × Prefixed ask piece f.rows f.root × (is_supported ask f.root ≡ true)

-- at most `depth` strips lead from the piece to the stem, and so on
abbrev pub RouteOf : ℕ → Ask → ℕ → List ℕ → Route → Type 0
RouteOf depth ask rows piece p =
    (length p.strips ≤ depth) × Suffixed ask rows piece p.strips p.stem
    × FrontOf 2 ask p.stem (record { rows = p.prefix_rows; root = p.root })

module _ (ask : Ask) where
  bare_sound : (depth : ℕ) (piece : List ℕ) (f : Front) → Memᴰ f (bare ask piece) → FrontOf depth ask piece f
  unfolding bare
  bare_sound depth piece f m = go (is_supported ask piece) refl m
    where
      go : (b : Bool) → is_supported ask piece ≡ b → Memᴰ f (pick b (record { rows = []; root = piece } ∷ []) []) → FrontOf depth ask piece f
      go true e m = subst (FrontOf depth ask piece) (sym (Memᴰ.eq_of_singleton m)) (omega arith, refl, e)
      go false e m = absurd (Memᴰ.not-nil m)

  front_sound : (depth : ℕ) (piece : List ℕ) (f : Front) → Memᴰ f (fronts_from depth ask piece) → FrontOf depth ask piece f
  unfolding fronts_from
  front_sound zero piece f m = bare_sound 0 piece f m
  front_sound (suc depth) piece f m =
      ⊎_elim (bare_sound (suc depth) piece f)
      (λ n.
      let c = of_pick (is_progressive ask piece) (over_rows (fronts_at (fronts_from depth ask) piece) 0 all_forms) n in
      let k = of_over (fronts_at (fronts_from depth ask) piece) 0 all_forms c.1 in
      let g = of_map (behind k.0) (on_left (fronts_from depth ask) (prefix_remainder piece (form_of k.0))) k.3 in
      let l = of_left (fronts_from depth ask) (prefix_remainder piece (form_of k.0)) (prefix_few piece (form_of k.0)) g.1 in
      let r = front_sound depth l.0 g.0 l.2 in
      let h = k.2 in
      let d = r.0 in
      subst (FrontOf (suc depth) ask piece) (sym g.2) (omega arith, (omega arith, c.0, (l.0, l.1, r.1)), r.2))
      (Memᴰ.append_cases (bare ask piece) m)

  stem_sound : (depth rows : ℕ) (piece : List ℕ) (p : Route) → Memᴰ p (map (stem_route piece) (fronts_from 2 ask piece)) → RouteOf depth ask rows piece p
  stem_sound depth rows piece p m =
      let f = of_map (stem_route piece) (fronts_from 2 ask piece) m in
      subst (RouteOf depth ask rows piece) (sym f.2) (omega arith, refl, front_sound 2 piece f.0 f.1)

  -- the routes of one strip, where those of what it leaves are sound
  strip_sound : (depth rows : ℕ) (piece : List ℕ) (x : Strip) → x.row < rows → is_progressive ask piece ≡ false
      → ((more : ℕ) (left : List ℕ) (q : Route) → Memᴰ q (routes_from depth ask more left) → RouteOf depth ask more left q)
      → (p : Route) → Memᴰ p (stripped (routes_from depth ask) piece x) → RouteOf (suc depth) ask rows piece p
  strip_sound depth rows piece x h e sound p m =
      let q = of_map (under x) (on_left (routes_from depth ask (rows_after x.row)) (left_by piece x)) m in
      let l = of_left (routes_from depth ask (rows_after x.row)) (left_by piece x) (left-few piece x) q.1 in
      let r = sound (rows_after x.row) l.0 q.0 l.2 in
      let d = r.0 in
      subst (RouteOf (suc depth) ask rows piece) (sym q.2) (omega arith, (h, e, (l.0, l.1, r.1)), r.2)

  pub route_sound : (depth rows : ℕ) (piece : List ℕ) (p : Route) → Memᴰ p (routes_from depth ask rows piece) → RouteOf depth ask rows piece p
  unfolding routes_from
  route_sound zero rows piece p m = stem_sound 0 rows piece p m
  route_sound (suc depth) rows piece p m =
      ⊎_elim (stem_sound (suc depth) rows piece p)
      (λ n.
      let c = of_pick (is_progressive ask piece) (over_rows (routes_at (routes_from depth ask) piece) 0 rows) n in
      let k = of_over (routes_at (routes_from depth ask) piece) 0 rows c.1 in
      let h : k.0 < rows = let j = k.2 in omega arith in
      ⊎_elim (strip_sound depth rows piece (plainly k.0) h c.0 (route_sound depth) p)
      (strip_sound depth rows piece (sharing k.0) h c.0 (route_sound depth) p)
      (Memᴰ.append_cases (stripped (routes_from depth ask) piece (plainly k.0)) k.3))
      (Memᴰ.append_cases (map (stem_route piece) (fronts_from 2 ask piece)) m)

-- what the walk finds is a path
pub sound : (ask : Ask) (w : List ℕ) (p : Route) → Memᴰ p (routes ask w) → PathOf ask w p
sound ask w p m =
    let r = route_sound ask 4 all_rows w p m in
    record { few_strips = r.0; suffixed = r.1; few_prefixes = r.2.0; prefixed = r.2.1; supported = r.2.2 }
