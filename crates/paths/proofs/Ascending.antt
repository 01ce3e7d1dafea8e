-- The order of paths, and that the walk finds them in it, each once: `ascending`, `routes_distinct`, `readings_distinct`. Who counts
-- the readings of a word cites these. Assumes nothing.
use Prim.Native.Nat.{ℕ, zero, suc, ◌+◌, ◌<◌}
use native.Mathlib.Omega.{arith}
use mathlib.Core.Path.{◌≡◌, refl, sym, ap, ap₂, ◌∙◌, subst₂}
use mathlib.Core.Bool.{Bool, true, false}
use mathlib.Core.List.Memᴰ
use mathlib.Core.List.{List, [], ◌∷◌, map, Memᴰ}
use mathlib.Core.Logic.{⊎_elim}
use Rattle.runs.specs.Runs.{pick, cmp}
use Rattle.std.specs.declared.cmp.Ordering.{Ordering}
use Rattle.std.specs.declared.cmp.Ordering.TheVariants.{Less}
use Rattle.runs.proofs.Ordered.{step_less, step_same, and_then, cmp_refl}
use Rattle.strips.specs.Prefix.{prefix_remainder}
use Rattle.sheet.specs.Replies.{Ask}
use Rattle.progressive.specs.Progressive.{is_progressive}
use Rattle.ranking.specs.Rank.{is_less}
use Rattle.paths.specs.Support.{is_supported}
use Rattle.paths.specs.Chains.{all_forms, Strip, left_by, all_rows, rows_after, form_of, Route}
use Rattle.paths.specs.Readings.{parts_of}
use Rattle.paths.specs.Rank.{place_of}
use Rattle.paths.specs.Walk.{on_left}
use Rattle.paths.proofs.Routes.{over_rows, Front, behind, bare, fronts_at, fronts_from, stem_route, under, stripped, plainly, sharing, routes_at, routes_from, routes}
use Rattle.paths.proofs.Members.{of_map, of_pick, of_over}
use Rattle.paths.specs.Counted.{Pairwise, Distinct}
use Rattle.paths.proofs.Pairs.{pairwise_append, pairwise_pick, pairwise_left, pairwise_over, pairwise_map, pairwise_weaker}
use Rattle.paths.proofs.Sound.{sound}
use Rattle.paths.proofs.Unique.{unique}

-- strip by strip from the outermost, then prefix row by prefix row; a path that ends comes before one that goes on
abbrev pub path_order : Route → Route → Ordering
path_order p q = and_then (cmp (map place_of p.strips) (map place_of q.strips)) (cmp p.prefix_rows q.prefix_rows)

abbrev pub before : Route → Route → Bool
before p q = is_less (path_order p q)

abbrev Earlier : Route → Route → Type 0
Earlier p q = before p q ≡ true

abbrev Sooner : Front → Front → Type 0
Sooner f g = cmp f.rows g.rows ≡ Less

-- Prefixes.

module _ (ask : Ask) where
  bare_rows : (piece : List ℕ) (f : Front) → Memᴰ f (bare ask piece) → f.rows ≡ []
  unfolding bare
  bare_rows piece f m = go (is_supported ask piece) m
    where
      go : (b : Bool) → Memᴰ f (pick b (record { rows = []; root = piece } ∷ []) []) → f.rows ≡ []
      go true m = ap (λ (g : Front). g.rows) (Memᴰ.eq_of_singleton m)
      go false m = absurd (Memᴰ.not-nil m)

  bare_ascends : (piece : List ℕ) → Pairwise Sooner (bare ask piece)
  unfolding bare
  bare_ascends piece = go (is_supported ask piece)
    where
      go : (b : Bool) → Pairwise Sooner (pick b (record { rows = []; root = piece } ∷ []) [])
      go true = ((λ y m. absurd (Memᴰ.not-nil m)), tt)
      go false = tt

  front-head : (deeper : List ℕ → List Front) (piece : List ℕ) (row : ℕ) (f : Front) → Memᴰ f (fronts_at deeper piece row)
      → (g : Front) × (f ≡ behind row g)
  front-head deeper piece row f m = let t = of_map (behind row) (on_left deeper (prefix_remainder piece (form_of row))) m in (t.0, t.2)

  fronts_ascend : (depth : ℕ) (piece : List ℕ) → Pairwise Sooner (fronts_from depth ask piece)
  unfolding fronts_from
  fronts_ascend zero piece = bare_ascends piece
  fronts_ascend (suc depth) piece =
      let at = fronts_at (fronts_from depth ask) piece in
      pairwise_append Sooner (bare ask piece) (pick (is_progressive ask piece) [] (over_rows at 0 all_forms)) (bare_ascends piece)
      (pairwise_pick Sooner (is_progressive ask piece) (over_rows at 0 all_forms)
      (pairwise_over Sooner at
      (λ k. pairwise_map Sooner Sooner (behind k) (on_left (fronts_from depth ask) (prefix_remainder piece (form_of k)))
      (λ f g m n e. step_same k k _ refl ∙ e)
      (pairwise_left Sooner (fronts_from depth ask) (fronts_ascend depth) (prefix_remainder piece (form_of k))))
      (λ i j f g l m n.
      let a = front-head (fronts_from depth ask) piece i f m in
      let b = front-head (fronts_from depth ask) piece j g n in
      subst₂ Sooner (sym a.1) (sym b.1) (step_less i j _ l)) 0 all_forms))
      (λ f g m n.
      let k = of_over at 0 all_forms (of_pick (is_progressive ask piece) (over_rows at 0 all_forms) n).1 in
      let b = front-head (fronts_from depth ask) piece k.0 g k.3 in
      ap₂ cmp (bare_rows piece f m) (ap (λ (h : Front). h.rows) b.1))

-- Suffixes.

under_less : (x y : Strip) (p q : Route) → place_of x < place_of y → before (under x p) (under y q) ≡ true
under_less x y p q h =
    ap (λ (o : Ordering). is_less (and_then o (cmp p.prefix_rows q.prefix_rows)))
    (step_less (place_of x) (place_of y) (cmp (map place_of p.strips) (map place_of q.strips)) h)

under_same : (x : Strip) (p q : Route) → before p q ≡ true → before (under x p) (under x q) ≡ true
under_same x p q e =
    ap (λ (o : Ordering). is_less (and_then o (cmp p.prefix_rows q.prefix_rows)))
    (step_same (place_of x) (place_of x) (cmp (map place_of p.strips) (map place_of q.strips)) refl) ∙ e

row_less : (i j : ℕ) (b c : Bool) → i < j → i + i + pick b 1 0 < j + j + pick c 1 0
row_less i j true true h = omega arith
row_less i j true false h = omega arith
row_less i j false true h = omega arith
row_less i j false false h = omega arith

module _ (deeper : ℕ → List ℕ → List Route) (piece : List ℕ) where
  strip_head : (x : Strip) (p : Route) → Memᴰ p (stripped deeper piece x) → (q : Route) × (p ≡ under x q)
  strip_head x p m = let t = of_map (under x) (on_left (deeper (rows_after x.row)) (left_by piece x)) m in (t.0, t.2)

  strips_less : (x y : Strip) → place_of x < place_of y → (p q : Route) → Memᴰ p (stripped deeper piece x)
      → Memᴰ q (stripped deeper piece y) → Earlier p q
  strips_less x y h p q m n =
      let a = strip_head x p m in
      let b = strip_head y q n in
      subst₂ Earlier (sym a.1) (sym b.1) (under_less x y a.0 b.0 h)

  row-head : (row : ℕ) (p : Route) → Memᴰ p (routes_at deeper piece row)
      → (b : Bool) × Memᴰ p (stripped deeper piece (record { row = row; is_shared = b }))
  row-head row p m = ⊎_elim (λ n. (false, n)) (λ n. (true, n)) (Memᴰ.append_cases (stripped deeper piece (plainly row)) m)

  strip_ascends : ((rows : ℕ) (left : List ℕ) → Pairwise Earlier (deeper rows left)) → (x : Strip) → Pairwise Earlier (stripped deeper piece x)
  strip_ascends h x =
      pairwise_map Earlier Earlier (under x) (on_left (deeper (rows_after x.row)) (left_by piece x)) (λ p q m n e. under_same x p q e)
      (pairwise_left Earlier (deeper (rows_after x.row)) (h (rows_after x.row)) (left_by piece x))

  rows_ascend : ((rows : ℕ) (left : List ℕ) → Pairwise Earlier (deeper rows left)) → (rows : ℕ) → Pairwise Earlier (over_rows (routes_at deeper piece) 0 rows)
  rows_ascend h rows =
      pairwise_over Earlier (routes_at deeper piece)
      (λ k. pairwise_append Earlier (stripped deeper piece (plainly k)) (stripped deeper piece (sharing k)) (strip_ascends h (plainly k))
      (strip_ascends h (sharing k)) (strips_less (plainly k) (sharing k) (omega arith)))
      (λ i j p q l m n.
      let a = row-head i p m in
      let b = row-head j q n in
      strips_less (record { row = i; is_shared = a.0 }) (record { row = j; is_shared = b.0 }) (row_less i j a.0 b.0 l) p q a.1 b.1) 0 rows

stems_ascend : (ask : Ask) (piece : List ℕ) → Pairwise Earlier (map (stem_route piece) (fronts_from 2 ask piece))
stems_ascend ask piece = pairwise_map Earlier Sooner (stem_route piece) (fronts_from 2 ask piece) (λ f g m n e. ap is_less e) (fronts_ascend ask 2 piece)

-- the routes of a piece ascend
pub routes_ascend : (ask : Ask) (depth rows : ℕ) (piece : List ℕ) → Pairwise (λ p q. before p q ≡ true) (routes_from depth ask rows piece)
unfolding routes_from
routes_ascend ask zero rows piece = stems_ascend ask piece
routes_ascend ask (suc depth) rows piece =
    let at = routes_at (routes_from depth ask) piece in
    pairwise_append Earlier (map (stem_route piece) (fronts_from 2 ask piece)) (pick (is_progressive ask piece) [] (over_rows at 0 rows))
    (stems_ascend ask piece)
    (pairwise_pick Earlier (is_progressive ask piece) (over_rows at 0 rows) (rows_ascend (routes_from depth ask) piece (routes_ascend ask depth) rows))
    (λ p q m n.
    let k = of_over at 0 rows (of_pick (is_progressive ask piece) (over_rows at 0 rows) n).1 in
    let s = row-head (routes_from depth ask) piece k.0 q k.3 in
    let a = of_map (stem_route piece) (fronts_from 2 ask piece) m in
    let b = strip_head (routes_from depth ask) piece (record { row = k.0; is_shared = s.0 }) q s.1 in
    subst₂ Earlier (sym a.2) (sym b.1) refl)

-- the paths of a word ascend in path order
pub ascending : (ask : Ask) (w : List ℕ) → Pairwise (λ p q. before p q ≡ true) (routes ask w)
ascending ask w = routes_ascend ask 4 all_rows w

-- so none stands twice
before_itself : (p q : Route) → before p q ≡ true → p ≡ q → ⊥
before_itself p q e f =
    let z : ◌≡◌ {A = Bool} false true =
    sym (ap₂ (λ (a b : Ordering). is_less (and_then a b)) (cmp_refl (map place_of p.strips)) (cmp_refl p.prefix_rows)) ∙ ap (before p) f ∙ e in
    let n : ◌≡◌ {A = ℕ} 0 1 = cc in
    omega arith

pub routes_distinct : (ask : Ask) (w : List ℕ) → Distinct (routes ask w)
routes_distinct ask w = pairwise_weaker (λ p q. p ≡ q → ⊥) (λ p q. before p q ≡ true) (routes ask w) before_itself (ascending ask w)

-- and no reading is found twice
pub readings_distinct : (ask : Ask) (w : List ℕ) → Distinct (map parts_of (routes ask w))
readings_distinct ask w =
    pairwise_map (λ a b. a ≡ b → ⊥) (λ p q. p ≡ q → ⊥) parts_of (routes ask w)
    (λ p q m n d e. d (unique ask w p q (sound ask w p m) (sound ask w q n) e)) (routes_distinct ask w)
