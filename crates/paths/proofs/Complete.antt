-- Every path is a route of Routes: `complete`. With Sound: the walk finds the paths of the word and nothing else. Assumes nothing.
use Prim.Native.Nat.{ℕ, zero, suc}
use native.Mathlib.Omega.{arith}
use mathlib.Core.Path.{◌≡◌, sym, ap, ◌∙◌, subst}
use mathlib.Core.Bool.{Bool, true, false}
use mathlib.Core.Logic.{◌↔◌}
use mathlib.Core.List.Memᴰ
use mathlib.Core.List.{List, [], ◌∷◌, map, Memᴰ}
use Rattle.strips.specs.Prefix.{prefix_remainder}
use Rattle.sheet.specs.Replies.{Ask}
use Rattle.progressive.specs.Progressive.{is_progressive}
use Rattle.paths.specs.Support.{is_supported}
use Rattle.paths.specs.Chains.{all_forms, Strip, left_by, all_rows, rows_after, form_of, Route, PathOf}
use Rattle.paths.proofs.Routes.{behind, bare, fronts_at, fronts_from, stem_route, under, stripped, plainly, routes_at, routes_from, routes}
use Rattle.paths.proofs.Members.{in_map, in_pick, in_over, in_left}
use Rattle.paths.proofs.Sound.{FrontOf, RouteOf, sound}

module _ (ask : Ask) where
  bare_complete : (piece root : List ℕ) → piece ≡ root → is_supported ask root ≡ true → Memᴰ (record { rows = []; root = root }) (bare ask piece)
  unfolding bare
  bare_complete piece root e s = rw (ap (is_supported ask) e ∙ s) (Memᴰ.head (λ i. record { rows = []; root = sym e i }))

  front_complete : (depth : ℕ) (piece rows root : List ℕ) → FrontOf depth ask piece (record { rows = rows; root = root })
      → Memᴰ (record { rows = rows; root = root }) (fronts_from depth ask piece)
  unfolding fronts_from
  front_complete zero piece [] root r = bare_complete piece root r.1 r.2
  front_complete zero piece (row ∷ rows) root r = let h = r.0 in absurd (omega arith)
  front_complete (suc depth) piece [] root r = Memᴰ.append_left _ (bare_complete piece root r.1 r.2)
  front_complete (suc depth) piece (row ∷ rows) root r =
      let h = r.0 in
      let k = r.1.0 in
      let l = r.1.2 in
      let m = front_complete depth l.0 rows root (omega arith, l.2, r.2) in
      Memᴰ.append_right (bare ask piece) (in_pick (is_progressive ask piece) r.1.1
      (in_over (fronts_at (fronts_from depth ask) piece) 0 all_forms row (omega arith) (omega arith)
      (in_map (behind row) (in_left (fronts_from depth ask) (prefix_remainder piece (form_of row)) l.0 l.1 m))))

  stem_complete : (piece stem rows root : List ℕ) → piece ≡ stem → FrontOf 2 ask stem (record { rows = rows; root = root })
      → Memᴰ (record { strips = []; stem = stem; prefix_rows = rows; root = root }) (map (stem_route piece) (fronts_from 2 ask piece))
  stem_complete piece stem rows root e f =
      subst (λ (s : List ℕ). Memᴰ (record { strips = []; stem = stem; prefix_rows = rows; root = root }) (map (stem_route s) (fronts_from 2 ask s))) (sym e)
      (in_map (stem_route stem) (front_complete 2 stem rows root f))

  -- a strip's routes stand among those of its row
  at_row : (depth : ℕ) (piece : List ℕ) (x : Strip) (p : Route) → Memᴰ p (stripped (routes_from depth ask) piece x)
      → Memᴰ p (routes_at (routes_from depth ask) piece x.row)
  at_row depth piece x p m = go x.is_shared m
    where
      go : (b : Bool) → Memᴰ p (stripped (routes_from depth ask) piece (record { row = x.row; is_shared = b }))
          → Memᴰ p (routes_at (routes_from depth ask) piece x.row)
      go false m = Memᴰ.append_left _ m
      go true m = Memᴰ.append_right (stripped (routes_from depth ask) piece (plainly x.row)) m

  pub route_complete : (depth rows : ℕ) (piece : List ℕ) (strips : List Strip) (stem prefix_rows root : List ℕ)
      → RouteOf depth ask rows piece (record { strips = strips; stem = stem; prefix_rows = prefix_rows; root = root })
      → Memᴰ (record { strips = strips; stem = stem; prefix_rows = prefix_rows; root = root }) (routes_from depth ask rows piece)
  unfolding routes_from
  route_complete zero rows piece [] stem prefix_rows root r = stem_complete piece stem prefix_rows root r.1 r.2
  route_complete zero rows piece (x ∷ strips) stem prefix_rows root r = let h = r.0 in absurd (omega arith)
  route_complete (suc depth) rows piece [] stem prefix_rows root r = Memᴰ.append_left _ (stem_complete piece stem prefix_rows root r.1 r.2)
  route_complete (suc depth) rows piece (x ∷ strips) stem prefix_rows root r =
      let h = r.0 in
      let k = r.1.0 in
      let l = r.1.2 in
      let m = route_complete depth (rows_after x.row) l.0 strips stem prefix_rows root (omega arith, l.2, r.2) in
      Memᴰ.append_right (map (stem_route piece) (fronts_from 2 ask piece)) (in_pick (is_progressive ask piece) r.1.1
      (in_over (routes_at (routes_from depth ask) piece) 0 rows x.row (omega arith) (omega arith)
      (at_row depth piece x _ (in_map (under x) (in_left (routes_from depth ask (rows_after x.row)) (left_by piece x) l.0 l.1 m)))))

-- the walk finds every path
pub complete : (ask : Ask) (w : List ℕ) (p : Route) → PathOf ask w p → Memᴰ p (routes ask w)
complete ask w p r =
    route_complete ask 4 all_rows w p.strips p.stem p.prefix_rows p.root
    (r.few_strips, r.suffixed, (r.few_prefixes, r.prefixed, r.supported))

-- the walk finds the paths and nothing else
pub found_exactly : (ask : Ask) (w : List ℕ) (p : Route) → Memᴰ p (routes ask w) ↔ PathOf ask w p
found_exactly ask w p = (sound ask w p, complete ask w p)
